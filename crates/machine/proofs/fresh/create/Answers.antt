-- `fresh::create` meets its contract: array by array.
use Rattle.std.proofs.Common.{refl}
use Rattle.machine.proofs.fresh.create.Goals as goal

pub returns-clause-creates : goal.returns-clause-creates
returns-clause-creates c =
    let zeros = c.clear.ensures in (
      record {
        counted = rw (c.store_counts.ensures, c.fresh_counts.ensures);
        heads = zeros.0;
        slots = zeros.1.0;
        copies = zeros.1.1;
        places = c.free_places.ensures;
      },
      (refl, (refl, (refl, refl))),
    )
