-- Zeros over a whole list, and the order of the messages numbered anew.
use Rattle.std.proofs.Common.{◌≡◌, ℕ, List, [], ◌++◌, length, take, drop, replicate, ap, refl, ◌∙◌, append-nil, arith, length-drop, drop_of_length-le}
use lib.Seq.{length-take-le}
use Rattle.blocks.specs.Order.{rising}
use Rattle.memory.specs.Layout.{message_room, queue_length, order_place, fresh_places}

-- a list of m numbers filled with 0
pub zeroed : {out : List ℕ} {m n : ℕ} → m ≡ n → (((y : ℕ) → y ≡ 0 → y ≡ 0) → out ≡ replicate m 0) → out ≡ replicate n 0
zeroed size filled = filled (λ y h. h) ∙ ap (λ k. replicate k 0) size

-- the order of the messages, numbered anew, behind their headers
pub places_lent : (q part : List ℕ) → length q ≡ queue_length → part ≡ rising 0 (length (take message_room (drop order_place q)))
    → take order_place q ++ (part ++ drop message_room (drop order_place q)) ≡ fresh_places q
unfolding fresh_places
places_lent q part size e =
    let all : length (take message_room (drop order_place q)) ≡ message_room = length-take-le message_room (drop order_place q) (rw length-drop (omega arith)) in
    let past : drop message_room (drop order_place q) ≡ [] = drop_of_length-le (drop order_place q) {i = message_room} (rw length-drop (omega arith)) in
    rw (e, all, past, append-nil)
