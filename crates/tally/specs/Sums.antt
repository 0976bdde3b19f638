-- A tally with a change added: each of the five counts modulo 2 ^ 32. In flight is a count like the others: a change of it that takes
-- messages away stands as the number that wraps, and comes out right in the sum.
use Rattle.std.specs.Prelude.{◌+◌, ◌%◌, ◌^◌}
use Rattle.runs.specs.declared.Tally.{Tally}

abbrev pub tally_sum : Tally → Tally → Tally
tally_sum t change =
    record {
      sent = (t.sent + change.sent) % 2 ^ 32;
      copied = (t.copied + change.copied) % 2 ^ 32;
      delivered = (t.delivered + change.delivered) % 2 ^ 32;
      lost = (t.lost + change.lost) % 2 ^ 32;
      flight = (t.flight + change.flight) % 2 ^ 32;
    }
