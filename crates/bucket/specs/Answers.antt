-- What reading and writing lent bytes answer, and what the lent bytes hold afterwards.
use Rattle.std.specs.Prelude.{◌≡◌, List, ◌++◌, true, false, ℕ, leb, length, drop, Result, Ok, Err, IfOk}
use Rattle.std.proofs.Math.Option.{Option, none, some}
use Rattle.entries.specs.declared.Decoded.{Decoded}
use Rattle.entries.specs.Entries.{Entry}
use Rattle.entries.specs.Decoded.{table_in}
use Rattle.checks.specs.Tests.{sound}
use Rattle.table.specs.Form.{fits, bucket_bytes, read_bucket, read_number}
use Rattle.bucket.specs.declared.Malformed.{Malformed}
use Rattle.bucket.specs.declared.WriteError.{WriteError}
use Rattle.bucket.specs.declared.WriteError.TheVariants as write_error

-- ---- the numbers of the answers

-- the refusal (RULES, Refusals 3); 0 where nothing is refused
abbrev pub outcome_number : {T : Type 0} → Result T Malformed → ℕ
outcome_number (Ok t) = 0
outcome_number (Err e) = 13

abbrev pub written_number : Result (Unit {0}) WriteError → ℕ
written_number (Ok u) = 0
written_number (Err write_error.Malformed) = 13
written_number (Err write_error.Short) = 15

-- a number, with bytes: those found, or those lent as they are afterwards
pub record Numbered : Type 0 where
  pub number : ℕ
  pub bytes : List ℕ

abbrev pub numbered : ℕ → List ℕ → Numbered
numbered n b = record { number = n; bytes = b }

-- ---- reading

abbrev pub reading_of : Result Decoded Malformed → Option (List Entry)
reading_of (Ok t) = some (table_in t)
reading_of (Err e) = none

-- the number, and the table, which can be written as it stands; slots that are not in use may hold anything
pub record Read (b : List ℕ) (r : Result Decoded Malformed) : Type 0 where
  pub is : reading_of r ≡ read_bucket 4 16 b
  pub number : outcome_number r ≡ read_number 4 16 b
  pub sound : IfOk r (λ t. sound t ≡ true)

-- ---- writing

-- 13 before 15; a refusal changes nothing, and bytes past the form stay
unfoldable pub write_of : Decoded → List ℕ → Numbered
write_of t out =
    elim (sound t) [
      | false ↦ numbered 13 out
      | true ↦
          elim (fits 4 16 (table_in t)) [
            | false ↦ numbered 13 out
            | true ↦
                elim (leb 113 (length out)) [ false ↦ numbered 15 out | true ↦ numbered 0 (bucket_bytes 4 16 (table_in t) ++ drop 113 out) ]
          ]
    ]
