-- A plan carried out is the run `accepted` of crate `runs`: a message lost, or a move.
use Rattle.std.specs.Prelude.{Ok}
use Rattle.std.proofs.Common.{◌≡◌, ℕ, ◌<◌, List, sym, refl, ap, ◌∙◌, arith}
use Rattle.server.specs.declared.Words.{Words}
use Rattle.memory.specs.declared.Counts.{Counts}
use Rattle.memory.specs.Layout.{server_room, bucket_room}
use Rattle.moves.specs.declared.Move.{Move}
use Rattle.views.specs.Memory.{Memory, memory}
use Rattle.plans.specs.declared.Step.{Step}
use Rattle.plans.specs.declared.Carried.{Carried}
use Rattle.plans.specs.declared.Plan.{Plan}
use Rattle.plans.specs.declared.Plan.TheVariants.{Loses, Moves, Takes}
use Rattle.runs.specs.declared.Report.{Report}
use Rattle.runs.specs.Carrying.{Carriable}
use Rattle.runs.specs.Runs.{Ran, ran, lost_run, planned_carried, taken, accepted}
use Rattle.machine.specs.Steps.{Lost, Took}

-- the server and the bucket of a move have a slot
pub slot_within : {c : Counts} {x : Step} {v : Move} → Carriable c x v → (x.server < server_room) × (x.bucket < bucket_room)
slot_within h = let a = h.server in let b = h.servers in (omega arith, h.bucket)

module _ (counts heads slots copies working texts queue payloads l : List ℕ) (c : Counts) where
  abbrev before : Memory
  before = memory counts heads slots copies working texts queue payloads

  -- a message that is lost
  pub loses : (x : Step) {counts' queue' payloads' : List ℕ} {r : Report} → Lost counts queue payloads c x counts' queue' payloads' r
      → ran (memory counts' heads slots copies working texts queue' payloads') l (Ok r) ≡ lost_run before l c x
  unfolding lost_run
  loses x {counts'} {queue'} {payloads'} y =
      ap (λ r. ran (memory counts' heads slots copies working texts queue' payloads') l (Ok r)) y.report
      ∙ rw (y.counted, ap (λ z. z.queue) y.rest, ap (λ z. z.payloads) y.rest, ap (λ z. z.count) y.rest)

  pub executes_lost : (p : Plan) (x : Step) {counts' queue' payloads' : List ℕ} {r : Report} → p ≡ Loses x → Lost counts queue payloads c x counts' queue' payloads' r
      → ran (memory counts' heads slots copies working texts queue' payloads') l (Ok r) ≡ accepted before l c p
  unfolding accepted
  executes_lost p x e y = loses x y ∙ ap (accepted before l c) (sym e)

  pub executes_move : (p : Plan) (y : Carried) (z : Ran) → p ≡ Moves y → z ≡ planned_carried before l c y → z ≡ accepted before l c p
  unfolding accepted
  executes_move p y z e q = q ∙ ap (accepted before l c) (sym e)

  -- the words of a call are stored first
  pub executes_taken : (p : Plan) (w : Words) (y : Carried) {slots' texts' : List ℕ} (z : Ran) → p ≡ Takes w y → Took slots texts w y.step slots' texts'
      → z ≡ planned_carried (memory counts heads slots' copies working texts' queue payloads) l c y → z ≡ accepted before l c p
  unfolding accepted taken
  executes_taken p w y z e t q = q ∙ rw (t.numbers, t.bytes, e)
