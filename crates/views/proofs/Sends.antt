-- The messages in flight after those of a step were appended: a broadcast to all others, or one reply.
use mathlib.Core.Path.{◌≡◌, refl, sym, ap, ◌∙◌}
use mathlib.Core.Bool.{Bool, true, false}
use mathlib.Core.List.{List, [], ◌∷◌, ◌++◌, map, map-append, append-nil, append_assoc}
use Prim.Native.Nat.{ℕ, zero, suc, ◌+◌, ◌-◌, ◌≤◌, ◌<◌}
use native.Mathlib.Omega.{arith}
use borrow.Author.Tests.{eqb-true}
use lib.Dec.{eqb}
use lib.ListN.{length, take, length-append, length-map}
use Rattle.blocks.specs.Blocks.{block}
use Rattle.blocks.proofs.Laws.{length_block}
use Rattle.entries.specs.Entries.{Entry}
use Rattle.table.specs.Form.{table_of}
use Rattle.model.specs.Cluster as cluster
use Rattle.model.specs.Leader.{below, without, broadcast}
use Rattle.model.proofs.Broadcasts.{without_skips, without_takes, length_others}
use Rattle.server.specs.declared.Message.{Message}
use Rattle.server.specs.Views.{copy_in, chosen, is_broadcast}
use Rattle.memory.specs.Layout.{content_at}
use Rattle.refusals.specs.Refusals.{send_count}
use Rattle.moves.specs.declared.Move.{Move}
use Rattle.moves.specs.Reactions.{Tables, work_after, copy_after, message_in, Asked, asked_in, body_in, sends_in}
use Rattle.views.specs.Memory.{table_at}
use Rattle.views.specs.Queue.{Flight, Sound, flight_in, appended, message_to, spread, broadcast_of, reply_of, sent}
use Rattle.views.proofs.Queue.{appended_flight, appended_count, appended_sound}

-- ---- messages appended

-- y has the messages of x, then these
pub record Added (x y : Flight) (ms : List cluster.Message) : Type 0 where
  pub flight : flight_in y ≡ flight_in x ++ ms
  pub count : y.count ≡ x.count + length ms
  pub sound : Sound y

none_added : (x : Flight) → Sound x → Added x x []
none_added x sound = record { flight = sym (append-nil (flight_in x)); count = omega arith; sound = sound }

one_added : (v : List ℕ) (m : Message) (x y : Flight) (ms : List cluster.Message) → Added x y ms → y.count < 64 → length v ≡ 128
    → Added x (appended v m y) (ms ++ (message_in m (table_of 4 16 (take 113 v)) ∷ []))
one_added v m x y ms a room whole =
    record {
      flight = appended_flight v m y a.sound room whole ∙ rw a.flight (append_assoc (flight_in x) ms (message_in m (table_of 4 16 (take 113 v)) ∷ []));
      count = appended_count v m y ∙ rw length-append (omega arith);
      sound = appended_sound v m y a.sound room whole;
    }

-- ---- a broadcast

-- the messages of a broadcast of m to the servers qs, with the table t
abbrev pub spread_to : Message → List Entry → List ℕ → List cluster.Message
spread_to m t qs = map (λ q. message_in (message_to m q) t) qs

module _ (v : List ℕ) (m : Message) (n : ℕ) (x : Flight) where
  spread_skips : eqb n m.sender ≡ true → spread v m (suc n) x ≡ spread v m n x
  unfolding spread
  spread_skips e = ap (λ z. elim z as (λ _. Flight) [ true ↦ spread v m n x | false ↦ appended v (message_to m n) (spread v m n x) ]) e

  spread_takes : eqb n m.sender ≡ false → spread v m (suc n) x ≡ appended v (message_to m n) (spread v m n x)
  unfolding spread
  spread_takes e = ap (λ z. elim z as (λ _. Flight) [ true ↦ spread v m n x | false ↦ appended v (message_to m n) (spread v m n x) ]) e

module _ (v : List ℕ) (m : Message) (x : Flight) (sound : Sound x) (whole : length v ≡ 128) where
  spread_adds : (n : ℕ) → x.count + length (without m.sender (below n)) ≤ 64
      → Added x (spread v m n x) (spread_to m (table_of 4 16 (take 113 v)) (without m.sender (below n)))
  unfolding spread below without
  spread_adds zero room = none_added x sound
  spread_adds (suc n) room = go (λ h. spread_adds n h) (eqb n m.sender) refl
    where
      p : ℕ
      p = m.sender

      t : List Entry
      t = table_of 4 16 (take 113 v)

      go : (x.count + length (without p (below n)) ≤ 64 → Added x (spread v m n x) (spread_to m t (without p (below n))))
          → (b : Bool) → eqb n p ≡ b → Added x (spread v m (suc n) x) (spread_to m t (without p (below (suc n))))
      go before true e =
          let few : length (without p (below (suc n))) ≡ length (without p (below n)) = ap length (without_skips p n e) in
          rw (spread_skips v m n x e, without_skips p n e) (before (omega arith))
      go before false e =
          let more : length (without p (below (suc n))) ≡ length (without p (below n)) + 1 = rw (without_takes p n e) (length-append (without p (below n)) (n ∷ [])) in
          let a : Added x (spread v m n x) (spread_to m t (without p (below n))) = before (omega arith) in
          let small : (spread v m n x).count < 64 = omega (arith, length-map (without p (below n)) (λ q. message_in (message_to m q) t)) in
          rw (spread_takes v m n x e, without_takes p n e, map-append (λ q. message_in (message_to m q) t) (without p (below n)) (n ∷ []))
          (one_added v (message_to m n) x (spread v m n x) (spread_to m t (without p (below n))) a small whole)

  pub spread_flight : (n : ℕ) → m.sender < n → x.count + (n - 1) ≤ 64
      → Added x (spread v m n x) (spread_to m (table_of 4 16 (take 113 v)) (without m.sender (below n)))
  spread_flight n among room = spread_adds n (rw (length_others m.sender n among) room)

-- ---- what a step sends

-- a claim of every kind, by what is sent: nothing, a request for votes, a write, a read, a reply
kinds : (P : ℕ → Type 0) → P 0 → P 1 → P 4 → P 7 → ((k : ℕ) → eqb k 0 ≡ false → eqb k 1 ≡ false → eqb k 4 ≡ false → eqb k 7 ≡ false → P k) → (k : ℕ) → P k
kinds P p0 p1 p4 p7 other k = zeroth (eqb k 0) refl
  where
    seventh : eqb k 0 ≡ false → eqb k 1 ≡ false → eqb k 4 ≡ false → (t : Bool) → eqb k 7 ≡ t → P k
    seventh e0 e1 e4 true e = rw (eqb-true k 7 e) p7
    seventh e0 e1 e4 false e = other k e0 e1 e4 e

    fourth : eqb k 0 ≡ false → eqb k 1 ≡ false → (t : Bool) → eqb k 4 ≡ t → P k
    fourth e0 e1 true e = rw (eqb-true k 4 e) p4
    fourth e0 e1 false e = seventh e0 e1 e (eqb k 7) refl

    first : eqb k 0 ≡ false → (t : Bool) → eqb k 1 ≡ t → P k
    first e0 true e = rw (eqb-true k 1 e) p1
    first e0 false e = fourth e0 e (eqb k 4) refl

    zeroth : (t : Bool) → eqb k 0 ≡ t → P k
    zeroth true e = rw (eqb-true k 0 e) p0
    zeroth false e = first e (eqb k 1) refl

-- a move that sends kind k instead
abbrev sending_kind : ℕ → Move → Move
sending_kind k v =
    record { local = v.local; sends = k; written = v.written; fills = v.fills; keeps = v.keeps; answer = v.answer; ceases = v.ceases; forgets = v.forgets }

length_broadcast : (n me c e r : ℕ) (body : cluster.Body) → me < n → length (broadcast n me c e r body) ≡ n - 1
unfolding broadcast
length_broadcast n me c e r body among =
    length-map (without me (below n)) (λ q. record { sender = me; receiver = q; bucket = c; election = e; round = r; body = body }) ∙ length_others me n among

pub length_sends : (n me b : ℕ) (a : Asked) (v : Move) (t : Tables) → me < n → length (sends_in n me b a v t) ≡ send_count n v.sends
unfolding sends_in send_count is_broadcast work_after
length_sends n me b a v t among =
    kinds (λ k. length (sends_in n me b a (sending_kind k v) t) ≡ send_count n k) refl
    (length_broadcast n me 0 v.local.head.number 0 cluster.please_vote among)
    (length_broadcast n me b v.local.head.number v.local.head.last (cluster.replica_write (copy_in v.written (work_after v t))) among)
    (length_broadcast n me b v.local.head.number v.local.head.last cluster.replica_read among)
    (λ k e0 e1 e4 e7. rw (sends_in, send_count, is_broadcast, e0, e1, e4, e7))
    v.sends

-- the step's slot is k: `worked` and `copied` say that its contents are those the step leaves
module _ (n me b k : ℕ) (asked : Message) (v : Move) (t : Tables) (working copies : List ℕ) (x : Flight)
    (sound : Sound x) (among : me < n) (slot : k < 56) (size-working : length working ≡ 7168) (size-copies : length copies ≡ 7168)
    (worked : work_after v t ≡ table_at working k) (copied : copy_after v t ≡ table_at copies k) where
  work_block : length (block 128 k working) ≡ 128
  work_block = length_block 128 k working (omega arith)

  copy_block : length (block 128 k copies) ≡ 128
  copy_block = length_block 128 k copies (omega arith)

  -- the claim for one kind
  Sending : ℕ → Type 0
  Sending kind = x.count + send_count n kind ≤ 64 → Added x (sent n me b k asked (sending_kind kind v) working copies x) (sends_in n me b (asked_in asked) (sending_kind kind v) t)

  sends_vote : Sending 1
  unfolding Sending sent sends_in send_count is_broadcast broadcast body_in chosen
  sends_vote room = spread_flight (block 128 k working) (broadcast_of me b (sending_kind 1 v)) x sound work_block n among room

  sends_write : Sending 4
  unfolding Sending sent sends_in send_count is_broadcast broadcast body_in chosen work_after table_at content_at
  sends_write room = rw worked (spread_flight (block 128 k working) (broadcast_of me b (sending_kind 4 v)) x sound work_block n among room)

  sends_read : Sending 7
  unfolding Sending sent sends_in send_count is_broadcast broadcast body_in chosen
  sends_read room = spread_flight (block 128 k working) (broadcast_of me b (sending_kind 7 v)) x sound work_block n among room

  sends_reply : (kind : ℕ) → eqb kind 0 ≡ false → eqb kind 1 ≡ false → eqb kind 4 ≡ false → eqb kind 7 ≡ false → Sending kind
  unfolding Sending sent sends_in send_count is_broadcast copy_after work_after table_at content_at
  sends_reply kind e0 e1 e4 e7 room =
      let one : send_count n kind ≡ 1 = rw (send_count, is_broadcast, e0, e1, e4, e7) in
      rw (sent, sends_in, is_broadcast, e0, e1, e4, e7, copied)
      (one_added (block 128 k copies) (reply_of me asked (sending_kind kind v)) x x [] (none_added x sound) (omega arith) copy_block)

  pub sent_flight_lem : x.count + send_count n v.sends ≤ 64 → Added x (sent n me b k asked v working copies x) (sends_in n me b (asked_in asked) v t)
  unfolding Sending sent sends_in send_count
  sent_flight_lem = kinds Sending (λ room. none_added x sound) sends_vote sends_write sends_read sends_reply v.sends
