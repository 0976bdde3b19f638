-- `hexadecimals::text_in` meets its contract.
use mathlib.Core.Path.{sym}
use Rattle.parse.specs.Digits.{pair_bytes}
use Rattle.parse.proofs.Pairs.{length_pairs, text_padded}
use Rattle.parse.proofs.hexadecimals.text_in.Goals as goal

pub returns : goal.returns
returns g c = text_padded (pair_bytes c.args.word.now) c.bytes_in.ensures (sym (length_pairs c.args.word.now))
