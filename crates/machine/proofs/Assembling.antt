-- The parts of a step, put together, are the run of specs/Runs.antt in crate `runs`.
use Rattle.std.specs.Prelude.{Ok}
use Rattle.std.proofs.Common.{◌≡◌, ℕ, ◌+◌, ◌-◌, ◌≤◌, Bool, true, false, leb, List, sym, ap, ◌∙◌, arith}
use Rattle.entries.specs.Entries.{Entry}
use Rattle.server.specs.declared.Effect.{Effect}
use Rattle.server.specs.Views.{chosen}
use Rattle.memory.specs.declared.Counts.{Counts}
use Rattle.memory.specs.Layout.{message_room, slot_of, place_at}
use Rattle.refusals.specs.Refusals.{send_count, places_left}
use Rattle.moves.specs.declared.Move.{Move}
use Rattle.views.specs.Memory.{Memory, memory}
use Rattle.views.specs.Changes.{filled_from, moved}
use Rattle.views.specs.Queue.{flight, without_message}
use Rattle.flight.specs.Flown.{Flown}
use Rattle.plans.specs.declared.Step.{Step}
use Rattle.runs.specs.Runs.{ran, carried_run}
use Rattle.runs.specs.declared.Told.{Told}
use Rattle.runs.specs.Carrying.{carried_report}
use Rattle.machine.specs.Steps.{CarriedOn}
use borrow.Author.Tests.{lt-leb}
use native.Mathlib.Decide.{dec_le}

leb_le : (a b : ℕ) → leb a b ≡ true → a ≤ b
leb_le a b e = go (dec_le a b)
  where
    go : Dec (a ≤ b) → a ≤ b
    go (yes h) = h
    go (no h) = let z : ◌≡◌ {A = Bool} true false = sym e ∙ lt-leb a b (omega arith) in let w : ◌≡◌ {A = ℕ} 0 1 = cc in absurd (omega arith)

-- once the message handed over has left, there are places for what is sent
pub room_left : (c : Counts) (removes : Bool) (i kind : ℕ) (q l q' l' : List ℕ) (r : ℕ)
    → Flown (without_message removes i (flight q l c.messages)) q' l' r → places_left c removes kind ≡ true → r + send_count c.servers kind ≤ message_room
unfolding without_message chosen
room_left c true i kind q l q' l' r f e =
    let n : r ≡ c.messages - 1 = ap (λ x. x.count) f.is in
    let h : c.messages - 1 + send_count c.servers kind ≤ message_room = leb_le _ _ e in
    omega arith
room_left c false i kind q l q' l' r f e =
    let n : r ≡ c.messages = ap (λ x. x.count) f.is in
    let h : c.messages - 0 + send_count c.servers kind ≤ message_room = leb_le _ _ e in
    omega arith

-- what the parts of a step leave
pub carried_out : (counts heads slots copies working texts queue payloads l : List ℕ) (c : Counts) (x : Step) (v : Move) (f : Effect) (made : List Entry)
    (counts' heads' slots' copies' working' queue' payloads' l' working'' texts' : List ℕ) (k place : ℕ) (t : Told) → k ≡ slot_of x.server x.bucket → place ≡ place_at queue x.index
    → working' ≡ filled_from working copies payloads k place made v.fills
    → CarriedOn counts heads slots copies working' queue payloads l c x v place counts' heads' slots' copies' queue' payloads' l' t
    × ((working'' ≡ working') × (texts' ≡ texts))
    → ran (memory counts' heads' slots' copies' working'' texts' queue' payloads') l' (Ok (carried_report t x f))
    ≡ carried_run (memory counts heads slots copies working texts queue payloads) l c x v made f
unfolding carried_run moved
carried_out counts heads slots copies working texts queue payloads l c x v effect made counts' heads' slots' copies' working' queue' payloads' l' working'' texts' k place t h p w y =
    let g = y.0 in
    let s = g.server in
    let m = s.moves in
    let f = g.flown in
    rw (
      y.1.0,
      y.1.1,
      g.counted,
      g.sends,
      m.head,
      m.slot,
      ap (λ a. a.answers) s.listed.is,
      ap (λ a. a.count) s.listed.is,
      ap (λ a. a.queue) f.is,
      ap (λ a. a.payloads) f.is,
      ap (λ a. a.count) f.is,
      m.copy,
      w,
      h,
      p,
    )
