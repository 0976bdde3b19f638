-- `Text::length` meets its contract: the array has as many bytes as there is room for.
use borrow.Author.Rules.{rules}
use Rattle.std.specs.Prelude.{◌≡◌, length}
use Rattle.entries.specs.Decoded.{text_bytes}
use Rattle.entries.proofs.Lists.{cut_length}
use Rattle.entries.proofs.Text.length.Goals as goal

pub returns : goal.returns
unfolding text_bytes
returns g c =
    let l : length c.args.self.now.bytes ≡ g.row.ROOM = search rules in
    rw c.min.ensures (cut_length c.args.self.now.len g.row.ROOM c.args.self.now.bytes l)
