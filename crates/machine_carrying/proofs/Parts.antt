-- The parts of a move, put together, are the run of crates/runs/specs/Runs.antt.
use Rattle.server.specs.declared.Effect.{Effect}
use Rattle.std.proofs.Common.{◌≡◌, ℕ, ◌+◌, ◌-◌, ◌≤◌, Bool, true, false, leb, List, sym, ap, ◌∙◌, arith}
use native.Mathlib.Decide.{dec_le}
use borrow.Author.Tests.{lt-leb}
use Rattle.entries.specs.Entries.{Entry}
use Rattle.server.specs.Views.{chosen}
use Rattle.memory.specs.declared.Counts.{Counts}
use Rattle.memory.specs.Layout.{message_room, slot_of, place_at}
use Rattle.refusals.specs.Refusals.{send_count, places_left}
use Rattle.moves.specs.declared.Move.{Move}
use Rattle.plans.specs.declared.Step.{Step}
use Rattle.views.specs.Memory.{Memory}
use Rattle.views.specs.Changes.{moved}
use Rattle.views.specs.Queue.{flight, without_message, sent}
use Rattle.machine_flight.specs.Flown.{Flown, sent_by}
use Rattle.machine_flight.proofs.Sends.{flown_next}
use Rattle.runs.specs.declared.Report.{Report}
use Rattle.runs.specs.Runs.{next_counts, left_flight, carried_run, lost_run}
use Rattle.runs.specs.declared.Told.{Told}
use Rattle.runs.specs.Carrying.{CarriedOut}
use Rattle.machine_carrying.specs.Carried.{with_filled, with_counted, flown_by, flown_counted, ServerChanged, CarriedOn, Lost}

leb_le : (a b : ℕ) → leb a b ≡ true → a ≤ b
leb_le a b e = go (dec_le a b)
  where
    go : Dec (a ≤ b) → a ≤ b
    go (yes h) = h
    go (no h) = let z : ◌≡◌ {A = Bool} true false = sym e ∙ lt-leb a b (omega arith) in let w : ◌≡◌ {A = ℕ} 0 1 = cc in absurd (omega arith)

-- once the message handed over has left, there are places for what is sent
pub room_left : (c : Counts) (removes : Bool) (i kind : ℕ) (q l : List ℕ) (r : ℕ)
    → r ≡ (without_message removes i (flight q l c.messages)).count → places_left c removes kind ≡ true → r + send_count c.servers kind ≤ message_room
unfolding without_message chosen
room_left c true i kind q l r n e =
    let h : c.messages - 1 + send_count c.servers kind ≤ message_room = leb_le _ _ e in
    omega arith
room_left c false i kind q l r n e =
    let h : c.messages - 0 + send_count c.servers kind ≤ message_room = leb_le _ _ e in
    omega arith

module _ (c : Counts) (x : Step) (v : Move) where
  -- the messages: one has left, then those of the move were sent
  pub flown_by_lem : (m m1 m2 : Memory) (n r : ℕ) → Flown m (left_flight m c x) m1 n → Flown m1 (sent_by c x v m1 n) m2 r → Flown m (flown_by c x v m) m2 r
  flown_by_lem m m1 m2 n r h g =
      let k = slot_of x.server x.bucket in
      let w = ap (λ y. y.working) h.is in
      let s = ap (λ y. y.copies) h.is in
      flown_next m m1 m2 (left_flight m c x) (sent c.servers x.server x.bucket k x.asked v m.working m.copies) n r h (rw (← w, ← s) g)

  -- the server, the messages, the counts
  pub carried_on : (m m1 m2 m3 : Memory) (l l' : List ℕ) (i w n k : ℕ) → ServerChanged m l c x v i m1 l' w → Flown m1 (flown_by c x v m1) m2 n
      → m3 ≡ with_counted m2 (next_counts c n x.calls) → k ≡ send_count c.servers v.sends
      → CarriedOn m l c x v i m3 l' (record { answers = w; sent = k; messages = n })
  carried_on m m1 m2 m3 l l' i w n k s f e t =
      record {
        listed = s.listed;
        is =
            e
            ∙ ap (λ j. with_counted m2 (next_counts c j x.calls)) f.count
            ∙ ap (λ y. with_counted y (next_counts c (flown_by c x v m1).count x.calls)) f.is
            ∙ ap (flown_counted c x v) s.moves;
        messages = f.count ∙ ap (λ y. (flown_by c x v y).count) s.moves;
        sends = t;
      }

  -- the working content before, at the place of the message
  pub carried_out : (m m1 m2 : Memory) (l l' : List ℕ) (made : List Entry) (i : ℕ) (t : Told) → i ≡ place_at m.queue x.index
      → m1 ≡ with_filled m (slot_of x.server x.bucket) i made v.fills → CarriedOn m1 l c x v i m2 l' t → CarriedOut (carried_run m l c x v made) x m2 l' t
  unfolding carried_run moved
  carried_out m m1 m2 l l' made i t p e g =
      record { is = λ f. rw (g.is, g.messages, g.sends, ap (λ a. a.answers) g.listed.is, ap (λ a. a.count) g.listed.is, e, p) }

-- a message left, then the counts
pub lost_out : (c : Counts) (x : Step) (f : Effect) (m m1 m2 : Memory) (n : ℕ) (r : Report) → Flown m (left_flight m c x) m1 n → m2 ≡ with_counted m1 (next_counts c n x.calls)
    → r ≡ record { effect = f; answers = 0; sent = 0; copied = x.copied; delivered = 0; lost = 1; messages = n } → Lost m c x f m2 r
unfolding lost_run
lost_out c x f m m1 m2 n r h e q = record { is = λ l. rw (q, e, h.is, h.count); effect = ap (λ y. y.effect) q }
