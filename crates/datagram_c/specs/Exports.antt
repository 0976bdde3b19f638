-- What the exported calls say, over the definitions of the datagram form.
use Rattle.std.specs.Prelude.{List, ℕ}
use Rattle.bucket.specs.Answers.{Numbered, numbered}
use Rattle.fields.specs.Form.{Parsed, taken, refused, write_datagram}

-- 0, or the number of the refusal
unfoldable pub parsed_number : Parsed → ℕ
parsed_number (taken d) = 0
parsed_number (refused n) = n

-- what is read is written
unfoldable pub rewritten : Parsed → List ℕ → Numbered
rewritten (taken d) out = write_datagram d out
rewritten (refused n) out = numbered n out
