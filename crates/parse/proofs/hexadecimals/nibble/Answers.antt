-- `hexadecimals::nibble` meets its contract.
use Rattle.parse.proofs.Pairs.{nibble_read}
use Rattle.parse.proofs.hexadecimals.nibble.Goals as goal

pub returns : goal.returns
returns c = nibble_read c.args.byte c.hex_digit.ensures.is c.hex_digit.ensures.low c.unwrap_or.ensures
