-- `put_header` meets its contract: three parts, one behind the other.
use borrow.Author.Rules.{rules}
use Rattle.fields.proofs.Numbers.{header_stored}
use Rattle.fields.proofs.put_header.Goals as goal

pub returns : goal.returns
returns c =
    let a = c.args in
    rw (c.copy_from_slice-3.ensures.after, c.copy_from_slice-2.ensures.after, c.copy_from_slice.ensures.after, c.to_be_bytes.ensures, c.to_be_bytes-2.ensures)
    (header_stored a.election a.round (search rules) (search rules) a.kind a.from a.to a.bucket a.out.now c.requires)
