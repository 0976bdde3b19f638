-- `headed` meets its contract: byte by byte.
use mathlib.Core.Path.{refl}
use Rattle.fields.specs.Form.{headed}
use Rattle.datagram.specs.Answers.{meant}
use Rattle.datagram.proofs.headed.Goals as goal

pub returns : goal.returns
unfolding meant headed
returns c = record { is = rw (c.two_at.ensures, c.four_at.ensures); table = refl }
