-- `encode` meets its contract: the count, the header, the body, the zeros.
use native.Mathlib.Omega.{arith}
use mathlib.Core.Path.{sym, ap, ◌∙◌}
use Prim.Native.Nat.{◌-◌}
use borrow.Rule.Slice.PartMut.{put_mid}
use lib.ListN.{length, set, length-set, length-map}
use Rattle.entries.specs.Decoded.{entry_in, table_in}
use Rattle.table.proofs.Filling.{put_zeros, written}
use Rattle.encoding.proofs.encode.Goals as goal

pub returns : goal.returns
returns c =
    written (table_in c.args.table) c.args.out.now (set c.args.out.now 0 (length c.used.result.now)) c.put_header.new.out c.put_body-end.new.out
    (put_mid c.put_body-end.result (113 - c.put_body-end.result) c.put_body-end.new.out c.fill.new.self) c.put_body-end.result (c.requires)
    (ap (set c.args.out.now 0) (sym (length-map c.used.result.now entry_in) ∙ ap length c.used.ensures.entries))
    c.put_header.ensures c.put_body-end.ensures
    (put_zeros c.put_body-end.new.out c.put_body-end.result (113 - c.put_body-end.result) _ (c.fill.ensures.after (λ y h. h))
    (let h = simp length-set at c.put_header.auto.out in omega (arith, c.requires, c.put_body-end.auto.out, c.put_body-end.ensures.low)))
