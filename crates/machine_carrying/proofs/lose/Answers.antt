-- `machine_carrying::lose` meets its contract: the list, then the counts.
use mathlib.Core.Path.{refl}
use Rattle.memory_regions.specs.Regions.{regions}
use Rattle.memory_regions.specs.Contents.{contents}
use Rattle.views.specs.Arrays.{memory_of}
use Rattle.machine_carrying.proofs.Parts.{lost_out}
use Rattle.machine_carrying.proofs.lose.Goals as goal

pub next_counts-requires : goal.next_counts-requires
next_counts-requires c = c.leave-count.ensures.few

pub returns : goal.returns
returns c =
    let m = memory_of (regions c.args.words.now) (contents c.args.bytes.now) in
    lost_out c.args.cluster c.args.step c.args.effect m _ _ _ _ c.leave-count.ensures (rw (c.store_counts.ensures, c.next_counts.ensures)) refl
