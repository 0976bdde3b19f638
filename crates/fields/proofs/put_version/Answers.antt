-- `put_version` meets its contract: two parts, one behind the other.
use borrow.Author.Rules.{rules}
use Rattle.fields.specs.Form.{version_bytes}
use Rattle.fields.proofs.Numbers.{version_stored}
use Rattle.fields.proofs.put_version.Goals as goal

pub returns : goal.returns
unfolding version_bytes
returns c =
    rw (c.copy_from_slice-2.ensures.after, c.copy_from_slice.ensures.after, c.to_be_bytes.ensures, c.to_be_bytes-2.ensures)
    (version_stored c.args.version.election c.args.version.counter (search rules) (search rules) c.args.out.now c.requires)
