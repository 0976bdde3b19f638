-- `carrying::carry_on` meets its contract: the answers, the server, the messages, then the counts.
use Rattle.std.proofs.Common.{refl, arith}
use Rattle.machine.proofs.Assembling.{room_left}
use Rattle.machine.proofs.carrying.carry_on.Goals as goal

pub send-count-requires : goal.send-count-requires
send-count-requires c =
    (omega arith, (c.requires.0.server, room_left c.args.cluster c.args.step.removes c.args.step.index c.args.next.sends _ _ _ _ _ c.leave-left.ensures c.requires.0.room))

pub returns-clause-carries : goal.returns-clause-carries
returns-clause-carries c =
    let slot = c.slot_of-slot.ensures in (
      record {
        server = record {
          listed = c.answer-written.ensures;
          moves = record { head = c.settle.ensures.head; slot = rw (← slot) c.settle.ensures.slot; copy = rw (← slot) c.keep_copy.ensures };
        };
        flown = rw (← slot, ← c.leave-left.ensures.is) c.send-count.ensures;
        counted = rw (c.store_counts.ensures, c.next_counts.ensures);
        sends = c.send_count.ensures;
      },
      (refl, refl),
    )
