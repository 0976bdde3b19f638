-- What is reported of a move that is carried out, and of a message that is lost.
use Rattle.std.specs.Prelude.{Ok}
use Rattle.std.proofs.Common.{◌≡◌, ℕ, List, ap, ◌∙◌}
use Rattle.server.specs.declared.Effect.{Effect}
use Rattle.views.specs.Memory.{Memory}
use Rattle.plans.specs.declared.Step.{Step}
use Rattle.runs.specs.declared.Report.{Report}
use Rattle.runs.specs.declared.Told.{Told}
use Rattle.runs.specs.Carrying.{carried_report, CarriedOut}
use Rattle.runs.specs.Runs.{Ran, ran, bare_report}

pub reported : {y : Effect → Ran} {x : Step} {m : Memory} {l : List ℕ} {t : Told} (f : Effect) {r : Report} → CarriedOut y x m l t → r ≡ carried_report t x f → ran m l (Ok r) ≡ y f
reported {m = m} {l = l} f h e = ap (λ r. ran m l (Ok r)) e ∙ h.is f

-- the report b, but for a message that is lost
abbrev pub lost_as : Report → (copied count : ℕ) → Report
lost_as b k n = record { effect = b.effect; answers = b.answers; sent = b.sent; copied = k; delivered = b.delivered; lost = 1; messages = n }

pub lost_report : (b : Report) (k n : ℕ) → b ≡ bare_report → lost_as b k n ≡ lost_as bare_report k n
lost_report b k n e = ap (λ b. lost_as b k n) e
