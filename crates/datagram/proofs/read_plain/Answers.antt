-- `read_plain` meets its contract.
use mathlib.Core.Path.{sym, ap, ◌∙◌}
use Rattle.checks.specs.Tests.{sound}
use Rattle.fields.specs.Form.{version, headed, checked}
use Rattle.fields.proofs.Parsing.{read_plain, read_plain_other}
use Rattle.datagram.proofs.Answering.{empty_sound, stands_datagram, stands_too}
use Rattle.datagram.proofs.read_plain.Goals as goal

pub returns-then-bytes-ne-PLAIN_SIZE : goal.returns-then-bytes-ne-PLAIN_SIZE
returns-then-bytes-ne-PLAIN_SIZE c = stands_too stands_datagram (sym (read_plain_other c.args.bytes.now c.requires c.if-bytes-ne-PLAIN_SIZE.true))

pub checked-requires : goal.checked-requires
checked-requires c = ap sound c.headed.ensures.table ∙ empty_sound _ c.no_table.ensures.0

pub returns : goal.returns
returns c =
    stands_too c.checked.ensures (ap checked (c.headed.ensures.is ∙ ap (headed c.args.bytes.now (version 0 0)) c.no_table.ensures.1) ∙ sym (read_plain c.args.bytes.now c.requires c.if-bytes-ne-PLAIN_SIZE.false))
