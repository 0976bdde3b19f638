-- The contracts of `machine` over the lent arrays: what each function makes of what they were. The records are those of Steps.antt and
-- Meaning.antt.
use Rattle.std.specs.Prelude.{◌≡◌, ℕ, Bool, length, Result, Ok}
use Rattle.entries.specs.declared.Decoded.{Decoded}
use Rattle.entries.specs.Decoded.{table_in}
use Rattle.memory.specs.declared.Arrays.{Arrays}
use Rattle.memory.specs.declared.Counts.{Counts}
use Rattle.memory.specs.Lent.{was, is}
use Rattle.refusals.specs.declared.Refusal.{Refusal}
use Rattle.moves.specs.declared.Move.{Move}
use Rattle.views.specs.Memory.{Sized}
use Rattle.views.specs.Lent.{Lents, old, new, old_answers, new_answers, memory_in}
use Rattle.views.specs.Changes.{answers_room}
use Rattle.plans.specs.declared.Step.{Step}
use Rattle.plans.specs.declared.Carried.{Carried}
use Rattle.plans.specs.declared.Plan.{Plan}
use Rattle.parse.specs.declared.Line.{Line}
use Rattle.runs.specs.declared.Report.{Report}
use Rattle.runs.specs.declared.Tally.{Tally}
use Rattle.runs.specs.declared.Told.{Told}
use Rattle.runs.specs.Carrying.{CarriedOut}
use Rattle.runs.specs.Runs.{ran, carried_run, planned_carried, accepted, cluster_run}
use Rattle.machine.specs.declared.Stepped.{Stepped}
use Rattle.machine.specs.Steps.{CarriedOn, HandedListed, HandRan, Created, cluster_told, RanPlan, RanLine}
use Rattle.machine.specs.Meaning.{Performed}

-- ---- a plan is carried out

-- the working contents, filled before, and the texts stay
abbrev pub CarriesOn : Lents → Counts → Step → Move → (place : ℕ) → Told → Type 0
CarriesOn a c x v place r =
    CarriedOn
    (was a.counts)
    (was a.heads)
    (was a.slots)
    (was a.copies)
    (was a.working)
    (was a.queue)
    (was a.payloads)
    (was a.answers)
    c
    x
    v
    place
    (is a.counts)
    (is a.heads)
    (is a.slots)
    (is a.copies)
    (is a.queue)
    (is a.payloads)
    (is a.answers)
    r
    × ((is a.working ≡ was a.working) × (is a.texts ≡ was a.texts))

abbrev pub CarriesOut : Lents → Counts → Step → Move → Decoded → Told → Type 0
CarriesOut a c x v table r = CarriedOut (carried_run (old a) (old_answers a) c x v (table_in table)) x (new a) (new_answers a) r

abbrev pub Executes : Lents → Counts → Plan → Report → Type 0
Executes a c p r = ran (new a) (new_answers a) (Ok r) ≡ accepted (old a) (old_answers a) c p

abbrev pub CarriesPlan : Lents → Counts → Carried → Report → Type 0
CarriesPlan a c p r = ran (new a) (new_answers a) (Ok r) ≡ planned_carried (old a) (old_answers a) c p

-- ---- a message is handed over: message i of the list, or any number

abbrev pub HandsListed : Lents → Counts → ℕ → Bool → Result Report Refusal → Type 0
HandsListed a c i removes r = HandedListed (old a) (old_answers a) c i removes (new a) (new_answers a) r

abbrev pub Hands : Lents → ℕ → Bool → Result Report Refusal → Type 0
Hands a i removes r = HandRan (old a) (old_answers a) i removes (new a) (new_answers a) r

-- ---- the cluster line, a line that needs a cluster, any line, and a line with the tally

-- a new cluster: the working contents, the texts, the payloads and the answers stay
abbrev pub Creates : Lents → (n b : ℕ) → Type 0
Creates a n b =
    Created (was a.counts) (was a.queue) n b (is a.counts) (is a.heads) (is a.slots) (is a.copies) (is a.queue)
    × ((is a.working ≡ was a.working) × ((is a.texts ≡ was a.texts) × ((is a.payloads ≡ was a.payloads) × (is a.answers ≡ was a.answers))))

abbrev pub Clusters : Lents → (n b : ℕ) → Result (Unit {0}) Refusal → Type 0
Clusters a n b r = ran (new a) (new_answers a) (cluster_told r) ≡ cluster_run (old a) (old_answers a) n b

abbrev pub RunsPlan : Lents → Line → Result Report Refusal → Type 0
RunsPlan a x r = RanPlan (old a) (old_answers a) x (new a) (new_answers a) r

abbrev pub RunsLine : Lents → Line → Result Report Refusal → Type 0
RunsLine a x r = RanLine (old a) (old_answers a) x (new a) (new_answers a) r

abbrev pub Performs : Lents → Tally → Line → Stepped → Type 0
Performs a t x r = Performed (old a) (old_answers a) t x (new a) (new_answers a) r

-- ---- the lengths of the arrays

abbrev pub SizedArrays : Arrays → Type 0
SizedArrays a = Sized (memory_in a) × (length a.answers.now ≡ answers_room)
