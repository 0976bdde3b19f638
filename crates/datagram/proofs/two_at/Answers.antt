-- `two_at` meets its contract: the library's number of two bytes.
use mathlib.Core.Path.{◌∙◌}
use Rattle.datagram.proofs.Answering.{two_read}
use Rattle.datagram.proofs.two_at.Goals as goal

pub returns : goal.returns
returns c = c.from_be_bytes.ensures ∙ two_read c.args.bytes.now c.args.at c.requires
