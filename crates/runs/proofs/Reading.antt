-- A line's bytes, read and performed, are the definition's step on these bytes.
use Rattle.std.proofs.Common.{◌≡◌, ℕ, List, sym, refl, ap, ◌∙◌}
use mathlib.Core.Option.{Option, none, some}
use Rattle.model.specs.Lines as lines
use Rattle.model.specs.Parse.{parse}
use Rattle.model.specs.Run.{step, step_up_to}
use Rattle.parse.specs.Meaning.{line_in, parsed}
use Rattle.parse.proofs.Keeping.{kept_of}
use Rattle.parse.proofs.Keeping as keeping
use Rattle.runs.specs.Meaning.{performed}

kept_performed : (s : lines.State) (o : Option lines.Line) → performed s (kept_of o) ≡ performed s o
unfolding performed kept_of
kept_performed s none = refl
kept_performed s (some x) = keeping.performed s x

step_performed : (s : lines.State) (bytes : List ℕ) → step s bytes ≡ performed s (parse bytes)
unfolding step_up_to performed
step_performed s bytes = go (parse bytes) refl
  where
    go : (o : Option lines.Line) → parse bytes ≡ o → step s bytes ≡ performed s (parse bytes)
    go none e = rw (step_up_to, e)
    go (some x) e = rw (step_up_to, e)

-- the line by value that the bytes read as is performed as they are
pub step_read : (s : lines.State) (bytes : List ℕ) → step s bytes ≡ performed s (line_in (parsed (parse bytes)))
step_read s bytes = step_performed s bytes ∙ sym (kept_performed s (parse bytes)) ∙ ap (performed s) (sym (keeping.parsed_means (parse bytes)))
