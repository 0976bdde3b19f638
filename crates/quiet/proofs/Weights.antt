-- The weight of messages: how many deliveries each may take, its own and that of the reply to it.
use mathlib.Core.Path.{◌≡◌, refl, ap}
use mathlib.Core.List.{List, [], ◌∷◌, ◌++◌, map}
use Prim.Native.Nat.{ℕ, zero, suc, ◌+◌, ◌-◌, ◌*◌, ◌≤◌, ◌<◌}
use native.Mathlib.Omega.{arith}
use lib.ListN.{length, get_or, take, drop}
use Rattle.model.specs.Cluster.{Body, please_vote, ack_vote, nack_vote, replica_write, ack_write, nack_write, replica_read, ack_read, nack_read, Message}
use Rattle.model.specs.Leader.{below, without, broadcast}
use Rattle.model.specs.Lines.{drop_at}
use Rattle.model.proofs.Broadcasts.{length_others}

-- a request weighs 2, a reply 1
unfoldable pub weighs : Body → ℕ
weighs please_vote = 2
weighs ack_vote = 1
weighs nack_vote = 1
weighs (replica_write copy) = 2
weighs ack_write = 1
weighs nack_write = 1
weighs replica_read = 2
weighs (ack_read copy) = 1
weighs nack_read = 1

unfoldable pub weigh : List Message → ℕ
weigh [] = 0
weigh (m ∷ l) = weighs m.body + weigh l

pub weigh_append : (a b : List Message) → weigh (a ++ b) ≡ weigh a + weigh b
unfolding weigh
weigh_append [] b = omega arith
weigh_append (m ∷ a) b = omega (arith, weigh_append a b)

one_or_two : (b : Body) → (1 ≤ weighs b) × (weighs b ≤ 2)
unfolding weighs
one_or_two please_vote = (omega arith, omega arith)
one_or_two ack_vote = (omega arith, omega arith)
one_or_two nack_vote = (omega arith, omega arith)
one_or_two (replica_write copy) = (omega arith, omega arith)
one_or_two ack_write = (omega arith, omega arith)
one_or_two nack_write = (omega arith, omega arith)
one_or_two replica_read = (omega arith, omega arith)
one_or_two (ack_read copy) = (omega arith, omega arith)
one_or_two nack_read = (omega arith, omega arith)

pub weighs_some : (b : Body) → 1 ≤ weighs b
weighs_some b = (one_or_two b).0

-- a list is no longer than it weighs
pub length_weigh : (l : List Message) → length l ≤ weigh l
unfolding weigh
length_weigh [] = omega arith
length_weigh (m ∷ l) = omega (arith, weighs_some m.body, length_weigh l)

pub drop_at_later : (index : ℕ) (m : Message) (l : List Message) → drop_at (suc index) (m ∷ l) ≡ m ∷ drop_at index l
drop_at_later index m l =
    let same : suc index + 1 ≡ suc (index + 1) = omega arith in
    ap (λ k. m ∷ (take index l ++ drop k (m ∷ l))) same

-- a message taken out of the list takes its weight along
pub weigh_drop_at : (index : ℕ) (d : Message) (l : List Message) → index < length l → weighs (get_or l index d).body + weigh (drop_at index l) ≡ weigh l
unfolding weigh
weigh_drop_at index d [] h = absurd (omega arith)
weigh_drop_at zero d (m ∷ l) h = refl
weigh_drop_at (suc index) d (m ∷ l) h = omega (arith, ap weigh (drop_at_later index m l), weigh_drop_at index d l (omega arith))

-- ---- a broadcast

sent_to_lem : (l : List ℕ) (f : ℕ → Message) → weigh (map f l) ≤ 2 * length l
unfolding weigh
sent_to_lem [] f = omega arith
sent_to_lem (q ∷ l) f = omega (arith, sent_to_lem l f, (one_or_two (f q).body).1)

-- it asks n - 1 servers
pub weigh_broadcast : (n p b e k : ℕ) (body : Body) → p < n → weigh (broadcast n p b e k body) ≤ 2 * (n - 1)
unfolding broadcast
weigh_broadcast n p b e k body h =
    omega (arith, sent_to_lem (without p (below n)) (λ q. record { sender = p; receiver = q; bucket = b; election = e; round = k; body = body }), length_others p n h)
