-- The texts of the outcomes of lines.
use Rattle.std.specs.Prelude.{List, [], ◌∷◌, ◌++◌, ℕ, ◌+◌}
use Rattle.model.specs.Lines.{Outcome}
use Rattle.model.specs.Print.{outcome_text}

-- the texts of outcomes, of lines numbered from `number` on
unfoldable pub outcome_texts : ℕ → List Outcome → List ℕ
outcome_texts number [] = []
outcome_texts number (o ∷ os) = outcome_text number o ++ outcome_texts (number + 1) os
