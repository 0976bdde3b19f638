-- `machine_carrying::carry_on` meets its contract: the server, the messages, then the counts.
use Rattle.memory_regions.specs.Regions.{regions}
use Rattle.memory_regions.specs.Contents.{contents}
use Rattle.views.specs.Arrays.{memory_of}
use Rattle.machine_carrying.proofs.Parts.{carried_on}
use Rattle.machine_carrying.proofs.carry_on.Goals as goal

pub next_counts-requires : goal.next_counts-requires
next_counts-requires c = c.change_flight-count.ensures.few

pub returns : goal.returns
returns c =
    let m = memory_of (regions c.args.words.now) (contents c.args.bytes.now) in
    carried_on c.args.cluster c.args.step c.args.next m _ _ _ _ _ _ _ _ _ c.change_server-written.ensures c.change_flight-count.ensures (rw (c.store_counts.ensures, c.next_counts.ensures)) c.send_count.ensures
