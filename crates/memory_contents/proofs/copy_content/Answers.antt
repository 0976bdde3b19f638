-- `memory_contents::copy_content` meets its contract: a content is copied as a part of the same array.
use Prim.Native.Nat.{◌+◌, ◌-◌, ◌*◌}
use mathlib.Core.Path.{◌≡◌}
use native.Mathlib.Omega.{arith}
use Rattle.blocks.proofs.Laws.{paste_stored}
use Rattle.memory.specs.Layout.{content_size, put_content}
use borrow.Author.Rules.{rules}
use Rattle.memory_contents.proofs.copy_content.Goals as goal

pub returns : goal.returns
unfolding put_content
returns c =
    let start = c.args.from * content_size in
    let size : start + content_size - start ≡ content_size = omega arith in
    record {
      stored = rw (c.copy_within.ensures.after, size) (paste_stored content_size c.args.to c.args.from c.args.bytes.now c.args.bytes.now (search rules) (search rules));
      long = search rules;
    }
