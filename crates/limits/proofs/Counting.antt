-- What a line adds to one side of the tally it adds to the other.
use mathlib.Core.Path.{◌≡◌, refl, sym, ap, ◌∙◌}
use mathlib.Core.List.{List, [], ◌∷◌, ◌++◌, append-nil}
use mathlib.Core.Bool.{Bool, true, false}
use mathlib.Core.Option.{none}
use Prim.Native.Nat.{ℕ, ◌+◌, ◌≤◌, ◌<◌}
use native.Mathlib.Omega.{arith}
use lib.ListN.{length, length-append, length-take, length-drop}
use borrow.Author.Tests.{leb-false}
use Rattle.model.specs.Measures.{max_messages}
use Rattle.model.specs.Cluster.{Cluster, Message}
use Rattle.model.specs.Leader.{Reaction}
use Rattle.model.specs.Lines.{Line, cluster, elect, call, deliver, copy, lose, timeout, stop, cut, start, initial_state, Tally, Condition, when, first_of, conditions_up_to, no_message, limit_reached, drop_at, stopped_at, Work, by_line, delivery, work, tallied}
use Rattle.limits.specs.Lists.{All, nil, cons}
use Rattle.limits.specs.Tally.{Tallied}
use Rattle.limits.proofs.Lists.{all_head, all_tail}

-- ---- one line taken

-- what is added to one side of the tally is added to the other
abbrev Balances : Cluster → Work → Type 0
Balances c w = length c.messages + w.sent + w.copied ≡ w.delivered + w.lost + length w.cluster.messages

-- a line that is taken: no condition that bears on it applies
pub none_applies : (l : List Condition) → first_of l ≡ none → All (λ x. x.applies ≡ false) l
unfolding first_of
none_applies [] e = nil
none_applies (x ∷ l) e = go x.applies refl (none_applies l)
  where
    go : (b : Bool) → x.applies ≡ b → (first_of l ≡ none → All (λ x. x.applies ≡ false) l) → All (λ x. x.applies ≡ false) (x ∷ l)
    go false p ih = cons {x = x} p (ih (rw (first_of, p) at e))
    go true p ih = let z : ◌≡◌ {A = ℕ} 0 1 = cc (rw (first_of, p) at e) in absurd (omega arith)

pub length_drop_at : {A : Type 0} (i : ℕ) (l : List A) → i < length l → length (drop_at i l) + 1 ≡ length l
length_drop_at i l h = simp (length-append, length-take, length-drop) (omega arith)

-- a message at its place
pub message_there : (c : Cluster) (i : ℕ) → no_message c i ≡ false → i < length c.messages
unfolding no_message
message_there c i e = leb-false _ _ e

place_taken : (c : Cluster) (i : ℕ) → first_of (when 5 (limit_reached c) ∷ when 7 (no_message c i) ∷ []) ≡ none → i < length c.messages
place_taken c i e = message_there c i (all_head (all_tail (none_applies _ e)))

handing_balances : (c : Cluster) (m : Message) (kept : List Message) (copied : ℕ) →
    length kept + 1 ≡ length c.messages + copied → Balances c (delivery c m kept copied)
unfolding delivery
handing_balances c m kept copied h = go (stopped_at c m.receiver) refl
  where
    go : (b : Bool) → stopped_at c m.receiver ≡ b → Balances c (delivery c m kept copied)
    go true p = rw (delivery, p) (omega arith)
    go false p = rw (delivery, p) (simp length-append (omega arith))

work_balances : (top : ℕ) (c : Cluster) (l : Line) → first_of (conditions_up_to top c l) ≡ none → Balances c (work c l)
unfolding work conditions_up_to
work_balances top c (cluster n b) e = simp length-append (omega arith)
work_balances top c (elect s) e = simp length-append (omega arith)
work_balances top c (call s w) e = simp length-append (omega arith)
work_balances top c (deliver i) e = handing_balances c _ _ 0 (omega (arith, length_drop_at i c.messages (place_taken c i e)))
work_balances top c (copy i) e = handing_balances c _ _ 1 (omega arith)
work_balances top c (lose i) e = omega (arith, length_drop_at i c.messages (place_taken c i e))
work_balances top c (timeout s b) e = simp length-append (omega arith)
work_balances top c (stop s) e = simp length-append (omega arith)
work_balances top c (cut i k) e =
    let there = message_there c i (all_head (all_tail (none_applies _ e))) in
    let rest = drop_at i c.messages in
    let same : length (rest ++ []) ≡ length rest = rw append-nil refl in
    omega (arith, same, length_drop_at i c.messages there)
work_balances top c (start s) e = simp length-append (omega arith)

-- what one line adds to the tally: what it sends stands in the list, and it copies at most one
pub record Counts (w : Work) : Type 0 where
  pub sent : w.sent ≤ length w.cluster.messages
  pub copied : w.copied ≤ 1

added_count : (kept sends : List Message) → length sends ≤ length (kept ++ sends)
added_count kept sends = simp length-append (omega arith)

handing_counts : (c : Cluster) (m : Message) (kept : List Message) (copied : ℕ) → copied ≤ 1 → Counts (delivery c m kept copied)
unfolding delivery
handing_counts c m kept copied h = go (stopped_at c m.receiver) refl
  where
    go : (b : Bool) → stopped_at c m.receiver ≡ b → Counts (delivery c m kept copied)
    go true p = rw (delivery, p) (omega arith)
    go false p = rw (delivery, p) (record { sent = added_count kept _; copied = h })

by_line_counts : (c : Cluster) (s calls : ℕ) (r : Reaction) → Counts (by_line c s calls r)
by_line_counts c s calls r = record { sent = added_count c.messages r.sends; copied = omega arith }

pub work_counts : (c : Cluster) (l : Line) → Counts (work c l)
unfolding work
work_counts c (cluster n b) = by_line_counts c 0 c.calls _
work_counts c (elect s) = by_line_counts c s c.calls _
work_counts c (call s w) = by_line_counts c s (c.calls + 1) _
work_counts c (deliver i) = handing_counts c _ _ 0 (omega arith)
work_counts c (copy i) = handing_counts c _ _ 1 (omega arith)
work_counts c (lose i) = omega arith
work_counts c (timeout s b) = by_line_counts c s c.calls _
work_counts c (stop s) = by_line_counts c s c.calls _
work_counts c (cut i k) = omega arith
work_counts c (start s) = by_line_counts c s c.calls _

-- ---- the tally beside the messages in flight

pub nothing_tallied : (t : Tally) → t ≡ initial_state.tally → Tallied [] t
nothing_tallied t e =
    record {
      balance = ap (λ x. x.sent + x.copied) e ∙ sym (ap (λ x. x.delivered + x.lost + x.count_in_flight) e);
      flight = ap (λ x. x.count_in_flight) e;
      room = omega arith;
    }

-- a line that is taken, with room for what it sends, keeps it so
pub work_keeps_tally : (top : ℕ) (c : Cluster) (t : Tally) (l : Line) → first_of (conditions_up_to top c l) ≡ none → length (work c l).cluster.messages ≤ max_messages →
    Tallied c.messages t → Tallied (work c l).cluster.messages (tallied t (work c l))
work_keeps_tally top c t l e room h = record { balance = omega (arith, h.balance, h.flight, work_balances top c l e); flight = refl; room = room }
