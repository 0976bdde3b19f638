-- The exported calls, case by case.
use mathlib.Core.Path.{◌≡◌, ap, ◌∙◌}
use mathlib.Core.List.{List}
use Prim.Native.Nat.{ℕ}
use Rattle.std.specs.Prelude.{Ok, Err}
use Rattle.bucket.specs.Answers.{numbered}
use Rattle.fields.specs.Form.{Parsed}
use Rattle.datagram.specs.declared.Datagram as code
use Rattle.datagram.specs.declared.ReadError.{ReadError}
use Rattle.datagram.specs.Answers.{refusal_number, StandsFor, write_of}
use Rattle.datagram.proofs.Answering.{write_sound}
use Rattle.datagram_c.specs.Exports.{parsed_number, rewritten}

module _ {p : Parsed} where
  pub number_taken : {d : code.Datagram} → StandsFor p (Ok d) → 0 ≡ parsed_number p
  unfolding parsed_number
  number_taken s = ap parsed_number s.is

  pub number_refused : {e : ReadError} → StandsFor p (Err e) → refusal_number e ≡ parsed_number p
  unfolding parsed_number
  number_refused s = ap parsed_number s.is

  pub rewrites : {d : code.Datagram} → StandsFor p (Ok d) → (n : ℕ) (out after : List ℕ) → numbered n after ≡ write_of d out → numbered n after ≡ rewritten p out
  unfolding rewritten
  rewrites {d} s n out after e = e ∙ write_sound d out s.sound ∙ ap (λ q. rewritten q out) s.is

  pub refuses : {e : ReadError} → StandsFor p (Err e) → (out : List ℕ) → numbered (refusal_number e) out ≡ rewritten p out
  unfolding rewritten
  refuses s out = ap (λ q. rewritten q out) s.is
