-- `four_at` meets its contract: the library's number of four bytes.
use mathlib.Core.Path.{◌∙◌}
use Rattle.datagram.proofs.Answering.{four_read}
use Rattle.datagram.proofs.four_at.Goals as goal

pub returns : goal.returns
returns c = c.from_be_bytes.ensures ∙ four_read c.args.bytes.now c.args.at c.requires
