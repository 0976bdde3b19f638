-- What the calls on lent bytes answer, and what the lent bytes hold afterwards.
use Rattle.std.specs.Prelude.{◌≡◌, true, false, List, ℕ, Result, Ok, Err, IfOk}
use Rattle.entries.specs.declared.Decoded.{Decoded}
use Rattle.entries.specs.Decoded.{table_in}
use Rattle.checks.specs.Tests.{sound}
use Rattle.bucket.specs.Answers.{Numbered, numbered}
use Rattle.fields.specs.Form.{Datagram, version_of, Parsed, taken, refused, carries, write_datagram}
use Rattle.datagram.specs.declared.Datagram as code
use Rattle.datagram.specs.declared.ReadError.{ReadError}
use Rattle.datagram.specs.declared.ReadError.TheVariants as read_error
use Rattle.datagram.specs.declared.WriteError.{WriteError}
use Rattle.datagram.specs.declared.WriteError.TheVariants as write_error

-- ---- the numbers of the answers: the refusal (RULES, Refusals 3), 0 where nothing is refused

abbrev pub refusal_number : ReadError → ℕ
refusal_number read_error.BadBucket = 13
refusal_number read_error.BadDatagram = 14

abbrev pub outcome_number : Result code.Datagram ReadError → ℕ
outcome_number (Ok d) = 0
outcome_number (Err e) = refusal_number e

abbrev pub written_number : Result (Unit {0}) WriteError → ℕ
written_number (Ok u) = 0
written_number (Err write_error.BadBucket) = 13
written_number (Err write_error.BadDatagram) = 14
written_number (Err write_error.Short) = 15

-- ---- reading

-- what a datagram of the code stands for
unfoldable pub meant : code.Datagram → Datagram
meant d =
    record {
      kind = d.kind;
      from = d.from;
      to = d.to;
      bucket = d.bucket;
      election = d.election;
      round = d.round;
      version = version_of d.version;
      table = table_in d.table;
    }

abbrev pub parsed_of : Result code.Datagram ReadError → Parsed
parsed_of (Ok d) = taken (meant d)
parsed_of (Err e) = refused (refusal_number e)

-- what a reading holds; a table that is read can be written as it stands, and slots that are not in use may hold anything
pub record StandsFor (p : Parsed) (r : Result code.Datagram ReadError) : Type 0 where
  pub is : parsed_of r ≡ p
  pub sound : IfOk r (λ d. sound d.table ≡ true)

-- a datagram made of a header, with the table that was given
pub record Made (d : Datagram) (t : Decoded) (r : code.Datagram) : Type 0 where
  pub is : meant r ≡ d
  pub table : r.table ≡ t

-- ---- writing

-- A table whose count or lengths are above its arrays has no bucket form, and gives 13 as any other such table.
unfoldable pub write_of : code.Datagram → List ℕ → Numbered
write_of d out =
    elim (carries d.kind) [
      | false ↦ write_datagram (meant d) out
      | true ↦
          elim (sound d.table) [ false ↦ numbered 13 out | true ↦ write_datagram (meant d) out ]
    ]
