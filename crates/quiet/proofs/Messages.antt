-- The call that the proof follows, and its messages: requests of the leader to the other servers, and acknowledgements to it.
use mathlib.Core.Path.{◌≡◌, refl, sym}
use mathlib.Core.Logic.{◌≢◌}
use mathlib.Core.List.{List, [], ◌∷◌, ◌++◌, map, Memᴰ}
use mathlib.Core.Bool.{Bool, false}
use Prim.Native.Nat.{ℕ, zero, suc, ◌<◌}
use native.Mathlib.Omega.{arith}
use lib.ListN.{length, get_or}
use Rattle.model.specs.Cluster.{Body, please_vote, ack_vote, nack_vote, replica_write, ack_write, nack_write, replica_read, ack_read, nack_read, Message}
use Rattle.model.specs.Replica.{Request, reading, writing, request_body}
use Rattle.model.specs.Leader.{broadcast}
use Rattle.model.specs.Lines.{drop_at}
use Rattle.model.proofs.Broadcasts.{each_other_in}
use Rattle.limits.specs.Lists.{All}
use Rattle.limits.proofs.Rules.{all_broadcast}
use Rattle.quiet.proofs.Weights.{drop_at_later}

-- the call: how many servers there are, the number under which the leader leads, the leader, the bucket and the call's own
-- number; which servers have stopped, the leader not being one of them
pub record Followed : Type 0 where
  pub servers : ℕ
  pub election : ℕ
  pub leader : ℕ
  pub bucket : ℕ
  pub call : ℕ
  pub inside : leader < servers
  pub stops : ℕ → Bool
  pub runs : stops leader ≡ false

-- ---- its messages

abbrev pub OursBody : Followed → Message → Body → Type 0
OursBody f m please_vote = ⊥
OursBody f m ack_vote = ⊥
OursBody f m nack_vote = ⊥
OursBody f m (replica_write copy) = (m.sender ≡ f.leader) × (m.receiver < f.servers) × (m.receiver ≢ f.leader)
OursBody f m ack_write = (m.receiver ≡ f.leader) × (m.sender < f.servers)
OursBody f m nack_write = ⊥
OursBody f m replica_read = (m.sender ≡ f.leader) × (m.receiver < f.servers) × (m.receiver ≢ f.leader)
OursBody f m (ack_read copy) = (m.receiver ≡ f.leader) × (m.sender < f.servers)
OursBody f m nack_read = ⊥

pub record Ours (f : Followed) (m : Message) : Type 0 where
  pub bucket : m.bucket ≡ f.bucket
  pub election : m.election ≡ f.election
  pub kind : OursBody f m m.body

-- a request to server q, or q's acknowledgement
abbrev pub Concerns : ℕ → Message → Body → Type 0
Concerns q m please_vote = ⊥
Concerns q m ack_vote = ⊥
Concerns q m nack_vote = ⊥
Concerns q m (replica_write copy) = m.receiver ≡ q
Concerns q m ack_write = m.sender ≡ q
Concerns q m nack_write = ⊥
Concerns q m replica_read = m.receiver ≡ q
Concerns q m (ack_read copy) = m.sender ≡ q
Concerns q m nack_read = ⊥

-- such a message of round k is in flight
pub data Awaited (q k : ℕ) : List Message → Type 0 where
  here : {m : Message} {l : List Message} → m.round ≡ k → Concerns q m m.body → Awaited q k (m ∷ l)
  later : {m : Message} {l : List Message} → Awaited q k l → Awaited q k (m ∷ l)

pub awaited_left : {q k : ℕ} {a : List Message} (b : List Message) → Awaited q k a → Awaited q k (a ++ b)
awaited_left b (here e h) = here e h
awaited_left b (later h) = later (awaited_left b h)

pub awaited_right : {q k : ℕ} (a : List Message) {b : List Message} → Awaited q k b → Awaited q k (a ++ b)
awaited_right [] h = h
awaited_right (m ∷ a) h = later (awaited_right a h)

swapped : {q k : ℕ} {a b : Message} {l : List Message} → Awaited q k (b ∷ l) → Awaited q k (b ∷ (a ∷ l))
swapped (here e h) = here e h
swapped (later h) = later (later h)

-- whichever message is taken out of the list: what was awaited is that one, or still in the list
pub awaited_at : {q k : ℕ} (index : ℕ) (d : Message) (l : List Message) → index < length l → Awaited q k l → Awaited q k (get_or l index d ∷ drop_at index l)
awaited_at index d [] h a = absurd (omega arith)
awaited_at zero d (m ∷ l) h a = a
awaited_at (suc index) d (m ∷ l) h (here e i) = rw (drop_at_later index m l) (later (here e i))
awaited_at (suc index) d (m ∷ l) h (later a) = rw (drop_at_later index m l) (swapped (awaited_at index d l (omega arith) a))

-- ---- those of a broadcast, made under number v in round k

module _ (f : Followed) (r : Request) (v k : ℕ) where
  abbrev to : ℕ → Message
  to q = record { sender = f.leader; receiver = q; bucket = f.bucket; election = v; round = k; body = request_body r }

  to_concerns : (q x : ℕ) → q ≡ x → Concerns q (to x) (request_body r)
  unfolding request_body
  to_concerns q x e = go r
    where
      go : (y : Request) → Concerns q (to x) (request_body y)
      go reading = sym e
      go (writing copy) = sym e

  all_asked : (q : ℕ) {l : List ℕ} → Memᴰ q l → Awaited q k (map to l)
  all_asked q (Memᴰ.head {x = x} e) = here refl (to_concerns q x e)
  all_asked q (Memᴰ.tail h) = later (all_asked q h)

  -- every other server is asked
  pub asked : (q : ℕ) → q < f.servers → q ≢ f.leader → Awaited q k (broadcast f.servers f.leader f.bucket v k (request_body r))
  unfolding broadcast
  asked q h d = all_asked q (each_other_in f.leader f.servers q h d)

  to_ours : v ≡ f.election → (q : ℕ) → q < f.servers → f.leader ≢ q → Ours f (to q)
  unfolding request_body
  to_ours e q h d = record { bucket = refl; election = e; kind = go r }
    where
      go : (y : Request) → OursBody f (to q) (request_body y)
      go reading = (refl, h, λ i. d (sym i))
      go (writing copy) = (refl, h, λ i. d (sym i))

  pub broadcast_ours : v ≡ f.election → All (Ours f) (broadcast f.servers f.leader f.bucket v k (request_body r))
  broadcast_ours e = all_broadcast f.servers f.leader f.bucket v k (request_body r) (to_ours e)
