-- `deliver_line` meets its contract.
use Rattle.parse.specs.Kept.{padded, text_for, item_for}
use Rattle.parse.specs.Meaning.{parsed_line, parsed}
use Rattle.parse_deliver.proofs.deliver_line.Goals as goal

pub returns : goal.returns
unfolding padded text_for item_for parsed_line parsed
returns c = rw (c.empty.ensures, c.empty-2.ensures, c.empty-3.ensures)
