-- `read_full` meets its contract: the bucket is looked at first.
use mathlib.Core.Path.{sym, ap, ◌∙◌}
use Rattle.std.proofs.lemmas.Result.{err_from_is_err_and}
use Rattle.checks.specs.Tests.{sound}
use Rattle.table.specs.Form.{read_bucket}
use Rattle.fields.specs.Form.{checked, version_in}
use Rattle.fields.proofs.Parsing.{tail_part, read_full, read_full_refused, read_full_other}
use Rattle.datagram.proofs.Answering.{stands_bucket, stands_datagram, stands_too}
use Rattle.datagram.proofs.read_full.Goals as goal

pub returns-then-bytes-ne-FULL_SIZE : goal.returns-then-bytes-ne-FULL_SIZE
returns-then-bytes-ne-FULL_SIZE c = stands_too stands_datagram (sym (read_full_other c.args.bytes.now c.requires c.if-bytes-ne-FULL_SIZE.true))

pub returns-in_err-table : goal.returns-in_err-table
returns-in_err-table c =
    let p = err_from_is_err_and c.from_residual.result c.from_residual.ensures.1 in
    rw (p.1, p.2) (stands_too stands_bucket (sym (read_full_refused c.args.bytes.now c.requires c.if-bytes-ne-FULL_SIZE.false (ap (read_bucket 4 16) (sym (tail_part 16 c.args.bytes.now)) ∙ sym c.in_err-table.ensures.is))))

pub checked-requires : goal.checked-requires
checked-requires c = ap sound c.headed.ensures.table ∙ c.in_ok-table.ensures.sound

pub returns : goal.returns
unfolding version_in
returns c =
    stands_too c.checked.ensures
    (ap checked (rw (c.headed.ensures.is, c.two_at.ensures, c.four_at.ensures)) ∙ sym (read_full c.args.bytes.now c.requires _ c.if-bytes-ne-FULL_SIZE.false (ap (read_bucket 4 16) (sym (tail_part 16 c.args.bytes.now)) ∙ sym c.in_ok-table.ensures.is)))
