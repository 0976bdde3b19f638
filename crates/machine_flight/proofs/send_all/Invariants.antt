-- `machine_flight::send_all` meets its contract: server by server, and the count of those sent so far leaves room.
use Rattle.blocks.specs.Blocks.{block}
use Rattle.memory.specs.Layout.{content_size}
use Rattle.memory_regions.specs.Regions.{regions}
use Rattle.memory_regions.specs.Contents.{contents}
use Rattle.views.specs.Arrays.{memory_of}
use Rattle.views.specs.Queue.{spread}
use Rattle.machine_flight.specs.Flown.{flight_of, Flown}
use Rattle.machine_flight.proofs.send_all.Given as goal

abbrev pub invariant-loop-receiver : goal.invariant-loop-receiver
invariant-loop-receiver l =
    let old = memory_of (regions l.initial.words) (contents l.initial.bytes) in
    Flown old (spread (block content_size l.content l.initial.bytes) l.message l.receiver (flight_of old l.count)) (memory_of (regions l.words) (contents l.bytes)) l.sent
