-- `replies::counted` meets its contract: what is counted stands for what the definition counts.
use Rattle.std.proofs.Common.{◌≡◌, ℕ, false, List, ap, ◌∙◌, rules, arith}
use Rattle.std.proofs.lemmas.Grind.{common_steps}
use Rattle.entries.specs.Entries.{Entry}
use Rattle.model.specs.Leader.{counted}
use Rattle.server.specs.declared.Version.{Version}
use Rattle.server.specs.declared.Round.{Round}
use Rattle.server.specs.declared.Counted.{Counted}
use Rattle.server.specs.Views.{mark_in, copy_in, open_in}
use Rattle.rounds.specs.Rounds.{pick_version, pick_table, counted_with, counted_of}
use Rattle.rounds.proofs.RoundLaws.{counted_means}
use Rattle.rounds.proofs.replies.counted.Goals as goal

told : (n q mark : ℕ) (report : Version) (r : Round) (k : Counted) → k ≡ counted_of n q mark report r → (t u : List Entry) → open_in n k.round (pick_table k.better u t) ≡ counted q (mark_in mark) (copy_in report u) (open_in n r t)
told n q mark report r k is t u = ap (λ x. open_in n x.round (pick_table x.better u t)) is ∙ counted_means n q mark report r t u

pub returns-after-better-clause-means : goal.returns-after-better-clause-means
unfolding counted_of pick_version
returns-after-better-clause-means c =
    told _ _ _ _ _ (counted_with c.args.round c.placed-marks.result c.if-better.best c.improves-better.result) (grind (arith, common_steps))

pub returns-else-is_silent-clause-means : goal.returns-else-is_silent-clause-means
unfolding counted_of pick_version
returns-else-is_silent-clause-means c = told _ _ _ _ _ (record { round = c.args.round; better = false }) (grind (arith, common_steps))
