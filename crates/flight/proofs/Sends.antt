-- Messages sent to one server after another: what each turn adds, and that there is room. Then what a move sends, by its kind.
use mathlib.Core.Path.{◌≡◌, ap, ◌∙◌}
use mathlib.Core.Bool.{true, false}
use mathlib.Core.Logic.{◌≢◌}
use mathlib.Core.List.{List}
use Prim.Native.Nat.{ℕ, zero, suc, ◌+◌, ◌-◌, ◌≤◌, ◌<◌}
use native.Mathlib.Numerals.{add-one}
use native.Mathlib.Decide.{ℕ_discrete, dec_le}
use native.Mathlib.Omega.{arith}
use borrow.Author.Tests.{eq-eqb, ne_eqb}
use Rattle.blocks.specs.Blocks.{block}
use Rattle.server.specs.Views.{is_broadcast}
use Rattle.server.specs.declared.Message.{Message}
use Rattle.memory.specs.Layout.{content_size}
use Rattle.refusals.specs.Refusals.{send_count}
use Rattle.messages.specs.Messages.{Appended}
use Rattle.moves.specs.declared.Move.{Move}
use Rattle.views.specs.Queue.{Flight, flight, appended, message_to, sent_to, spread, broadcast_of, reply_of, sent}

-- what the arrays are after one was appended
pub appended_is : (queue payloads : List ℕ) (n : ℕ) (m : Message) (v queue' payloads' : List ℕ) → Appended queue payloads n m v queue' payloads' → flight queue' payloads' (n + 1) ≡ appended v m (flight queue payloads n)
unfolding appended
appended_is queue payloads n m v queue' payloads' a = rw (a.headers, a.contents)

module _ (v : List ℕ) (m : Message) (x : Flight) where
  pub sent_self : (q : ℕ) → q ≡ m.sender → sent_to v m q x ≡ x
  sent_self q e = rw (sent_to, eq-eqb q m.sender e)

  pub sent_other : (q : ℕ) → q ≢ m.sender → sent_to v m q x ≡ appended v (message_to m q) x
  sent_other q e = rw (sent_to, ne_eqb q m.sender e)

module _ (v : List ℕ) (m : Message) (x : Flight) where
  pub spread_next : (q : ℕ) → spread v m (q + 1) x ≡ sent_to v m q (spread v m q x)
  unfolding spread
  spread_next q = rw add-one

  -- ---- how many there are: one for each server, without the sender

  count_below : (q : ℕ) → q ≤ m.sender → (spread v m q x).count ≡ x.count + q
  unfolding spread appended
  count_below zero h = omega arith
  count_below (suc q) h =
      let e = count_below q (omega arith) in
      ap (λ f. f.count) (sent_other v m (spread v m q x) q (λ s. absurd (omega arith))) ∙ omega arith

  count_above : (q : ℕ) → m.sender < q → (spread v m q x).count + 1 ≡ x.count + q
  unfolding spread appended
  count_above zero h = absurd (omega arith)
  count_above (suc q) h = go (ℕ_discrete q m.sender) (λ o. count_above q (omega arith))
    where
      go : Dec (q ≡ m.sender) → (q ≢ m.sender → (spread v m q x).count + 1 ≡ x.count + q) → (spread v m (suc q) x).count + 1 ≡ x.count + suc q
      go (yes e) b = ap (λ f. f.count + 1) (sent_self v m (spread v m q x) q e) ∙ omega (arith, count_below q (omega arith))
      go (no o) b = ap (λ f. f.count + 1) (sent_other v m (spread v m q x) q o) ∙ omega (arith, b o)

  pub spread_room : (q n : ℕ) → q ≢ m.sender → q < n → m.sender < n → x.count + (n - 1) ≤ 64 → (spread v m q x).count < 64
  spread_room q n o h s room = go (dec_le q m.sender)
    where
      go : Dec (q ≤ m.sender) → (spread v m q x).count < 64
      go (yes e) = omega (arith, count_below q e)
      go (no e) = omega (arith, count_above q (omega arith))

-- ---- what a move sends: nothing, to all others, or one reply

module _ (n me b k : ℕ) (asked : Message) (v : Move) (working copies : List ℕ) (x : Flight) where
  pub sends_nothing : v.sends ≡ 0 → sent n me b k asked v working copies x ≡ x
  unfolding sent
  sends_nothing e = rw (sent, eq-eqb v.sends 0 e)

  module _ (some : v.sends ≢ 0) where
    pub sends_all : is_broadcast v.sends ≡ true → sent n me b k asked v working copies x ≡ spread (block content_size k working) (broadcast_of me b v) n x
    unfolding sent
    sends_all e = rw (sent, ne_eqb v.sends 0 some, e)

    pub sends_reply : is_broadcast v.sends ≡ false → sent n me b k asked v working copies x ≡ appended (block content_size k copies) (reply_of me asked v) x
    unfolding sent
    sends_reply e = rw (sent, ne_eqb v.sends 0 some, e)

module _ (n kind : ℕ) (some : kind ≢ 0) where
  pub count_all : is_broadcast kind ≡ true → send_count n kind ≡ n - 1
  unfolding send_count
  count_all e = rw (send_count, ne_eqb kind 0 some, e)

  pub count_reply_lem : is_broadcast kind ≡ false → send_count n kind ≡ 1
  unfolding send_count
  count_reply_lem e = rw (send_count, ne_eqb kind 0 some, e)
