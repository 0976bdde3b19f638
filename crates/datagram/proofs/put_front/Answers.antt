-- `put_front` meets its contract: the header's bytes.
use Rattle.fields.specs.Form.{header_bytes}
use Rattle.datagram.specs.Answers.{meant}
use Rattle.datagram.proofs.put_front.Goals as goal

pub returns : goal.returns
unfolding meant header_bytes
returns c = c.put_header.ensures
