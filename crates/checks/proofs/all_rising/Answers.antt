-- `all_rising` meets its contract: pair by pair.
use borrow.Author.Rules.{rules}
use mathlib.Core.Path.{ap, ◌∙◌}
use Rattle.std.proofs.lemmas.List.Sorted.{answers_always}
use Rattle.table.specs.Form.{rising}
use Rattle.checks.specs.Tests.{before}
use Rattle.checks.proofs.Testing as testing
use Rattle.checks.proofs.all_rising.Goals as goal

pub returns : goal.returns
returns c =
    let pairs = c.is_sorted_by.ensures.cases before (answers_always _ _ _ (λ f a r g h. search rules)) in
    testing.all_rising c.used.result.now c.is_sorted_by.result pairs ∙ ap rising c.used.ensures.entries
