-- `hexadecimals::put_there` meets its contract.
use mathlib.Core.Path.{sym}
use Rattle.std.proofs.lemmas.Bool.{eqb-true, eqb-false}
use Rattle.model.specs.Text.{bytes}
use Rattle.print.proofs.Printing.{text_empty, text_pairs}
use Rattle.print.proofs.hexadecimals.put_there.Goals as goal

pub put_bytes-requires : goal.put_bytes-requires
unfolding bytes
put_bytes-requires c = rw (text_empty c.args.bytes.now (eqb-true _ _ (sym c.if-is_empty.ensures))) at (c.requires)

pub returns-then-is_empty : goal.returns-then-is_empty
unfolding bytes
returns-then-is_empty c = rw (text_empty c.args.bytes.now (eqb-true _ _ (sym c.if-is_empty.ensures))) c.put_bytes.ensures

pub put_pairs-requires : goal.put_pairs-requires
put_pairs-requires c = rw (text_pairs c.args.bytes.now (eqb-false _ _ (sym c.if-is_empty.ensures))) at (c.requires)

pub returns : goal.returns
returns c = rw (text_pairs c.args.bytes.now (eqb-false _ _ (sym c.if-is_empty.ensures))) c.put_pairs.ensures
