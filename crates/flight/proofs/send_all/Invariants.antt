-- `flight::send_all` meets its contract: server by server, and the count of those sent so far leaves room.
use mathlib.Core.Path.{◌≡◌}
use Prim.Native.Nat.{◌≤◌}
use Rattle.blocks.specs.Blocks.{block}
use Rattle.memory.specs.Layout.{content_size}
use Rattle.views.specs.Queue.{flight, spread}
use Rattle.flight.proofs.send_all.Given as goal

abbrev pub invariant-loop-receiver : goal.invariant-loop-receiver
invariant-loop-receiver l =
    (flight l.queue l.payloads l.sent ≡ spread (block content_size l.slot l.working) l.message l.receiver (flight l.initial.queue l.initial.payloads l.count)) × (l.sent ≤ 64)
