-- The list of messages in flight after one was appended or removed, and one message of it.
use mathlib.Core.Path.{◌≡◌, refl, sym, ap, ◌∙◌, subst}
use mathlib.Core.Bool.{Bool, true, false}
use mathlib.Core.Logic.{◌≢◌}
use mathlib.Core.List.{List, [], ◌∷◌, ◌++◌, append-nil}
use Prim.Native.Nat.{ℕ, ◌+◌, ◌-◌, ◌*◌, ◌≤◌, ◌<◌}
use native.Mathlib.Nat.{mod-lt}
use native.Mathlib.Omega.{arith}
use borrow.Author.Tests.{lt-ltb, ltb-true}
use lib.Dec.{ltb}
use lib.ListN.{length, get_or, take, drop, length-drop, length-append, drop_of_length-le}
use lib.Seq.{take_all, drop_at, get_or-drop, length-take-le}
use Rattle.blocks.specs.Blocks.{without}
use Rattle.blocks.specs.Order.{place, Ordered, listed, rotated, rising}
use Rattle.blocks.proofs.Order.{length_listed, listed_at, listed_rotated, listed_appended, listed_same, length_rotated, ordered_rotated, ordered_rising}
use Rattle.server.specs.declared.Message.{Message}
use Rattle.memory.specs.Layout.{message_room, queue_length, message_size, content_size, content_bytes, order_place, order_of, place_at, without_place, fresh_places, message_of, header_at, put_message, put_content}
use Rattle.memory.proofs.Rows.{row_front}
use Rattle.memory.proofs.Records.{header_put_header, header_elsewhere, order_put_header}
use Rattle.messages.specs.Messages.{Sent, sent_at, messages_at}
use Rattle.messages.proofs.ContentLaws.{content_put_content, content_elsewhere}

-- ---- places

pub place_low : (q : List ℕ) (i : ℕ) → place_at q i < message_room
unfolding place_at
place_low q i = mod-lt (get_or q (order_place + i) 0) (omega arith)

place_order : (q : List ℕ) (i : ℕ) → place (get_or (order_of q) i 0) ≡ place_at q i
unfolding place_at
place_order q i = ap place (get_or-drop order_place q i 0)

length_order : (q : List ℕ) → length q ≡ queue_length → length (order_of q) ≡ message_room
length_order q size = length-drop order_place q ∙ omega arith

-- ---- one message

module _ (n : ℕ) (q l : List ℕ) (size : length q ≡ queue_length) (few : n ≤ message_room) where
  pub length_messages : length (messages_at n q l) ≡ n
  unfolding messages_at
  length_messages = length_listed (sent_at q l) n (order_of q) (omega (arith, length_order q size))

  pub messages_at_lem : (i : ℕ) (z : Sent) → i < n → get_or (messages_at n q l) i z ≡ sent_at q l (place_at q i)
  unfolding messages_at
  messages_at_lem i z among = listed_at (sent_at q l) n (order_of q) (omega (arith, length_order q size)) i z among ∙ ap (sent_at q l) (place_order q i)

-- ---- one appended, with the block v as its content

module _ (n : ℕ) (q l : List ℕ) (m : Message) (v : List ℕ) (size : length q ≡ queue_length) (room : n < message_room) (fits : length l ≡ 8192) (whole : length v ≡ content_size) where
  abbrev at : ℕ
  at = place_at q n

  order_appended : order_of (put_message q n m) ≡ order_of q
  order_appended = order_put_header q at m (place_low q n)

  there : sent_at (put_message q n m) (put_content l at v) at ≡ record { header = m; content = take content_bytes v }
  there =
      let low = place_low q n in
      rw (header_put_header q at m (omega arith), content_put_content message_room at l v whole low (omega arith))

  pub messages_appended : Ordered (order_of q) → messages_at (n + 1) (put_message q n m) (put_content l at v) ≡ messages_at n q l ++ (record { header = m; content = take content_bytes v } ∷ [])
  unfolding messages_at
  messages_appended ordered =
      let e = place_order q n in
      rw order_appended
      (listed_appended (sent_at q l) (sent_at (put_message q n m) (put_content l at v)) n (order_of q) (record { header = m; content = take content_bytes v }) (omega (arith, length_order q size)) ordered
      (ap (sent_at (put_message q n m) (put_content l at v)) e ∙ there)
      (λ k low different.
      let other : k ≢ at = λ s. different (s ∙ sym e) in
      rw (header_elsewhere q at m k other, content_elsewhere message_room at l v whole (place_low q n) (omega arith) k low other)))

-- ---- one removed

module _ (n i : ℕ) (q : List ℕ) (size : length q ≡ queue_length) (few : n ≤ message_room) where
  order_cut : (o : List ℕ) → order_of (take order_place q ++ o) ≡ o
  order_cut o = drop_at (take order_place q) o order_place (length-take-le order_place q (omega arith))

  -- whatever i is
  pub length-without_place : length (without_place n i q) ≡ length q
  unfolding without_place
  length-without_place = go (ltb i n) refl
    where
      go : (b : Bool) → ltb i n ≡ b → length (without_place n i q) ≡ length q
      go true e =
          let long = length_order q size in
          let front : length (take order_place q) ≡ order_place = length-take-le order_place q (omega arith) in
          let back : length (rotated n i (order_of q)) ≡ length (order_of q) = length_rotated n i (order_of q) (ltb-true _ _ e) (omega arith) in
          rw (without_place, e) (length-append (take order_place q) (rotated n i (order_of q)) ∙ omega arith)
      go false e = rw (without_place, e)

  pub ordered_without_place : Ordered (order_of q) → Ordered (order_of (without_place n i q))
  unfolding without_place
  ordered_without_place ordered = go (ltb i n) refl
    where
      go : (b : Bool) → ltb i n ≡ b → Ordered (order_of (without_place n i q))
      go true e =
          let long = length_order q size in
          rw (without_place, e)
          (subst Ordered (sym (order_cut (rotated n i (order_of q)))) (ordered_rotated n i (order_of q) (ltb-true _ _ e) (omega arith) ordered))
      go false e = rw (without_place, e) ordered

  module _ (among : i < n) where
    without_is : without_place n i q ≡ take order_place q ++ rotated n i (order_of q)
    unfolding without_place
    without_is = rw (without_place, lt-ltb i n among)

    header_stays : (p : ℕ) → p < message_room → header_at (without_place n i q) p ≡ header_at q p
    unfolding header_at
    header_stays p low = rw without_is (ap message_of (row_front message_size (p * message_size) 0 order_place q (rotated n i (order_of q)) (omega arith) (omega arith)))

    pub messages_removed : (l : List ℕ) → messages_at (n - 1) (without_place n i q) l ≡ without i (messages_at n q l)
    unfolding messages_at
    messages_removed l =
        let long = length_order q size in
        listed_same (sent_at (without_place n i q) l) (sent_at q l) (n - 1) (order_of (without_place n i q)) (λ p low. rw (header_stays p low))
        ∙ ap (listed (sent_at q l) (n - 1)) (ap order_of without_is ∙ order_cut (rotated n i (order_of q)))
        ∙ listed_rotated n i (order_of q) among (omega arith) (sent_at q l)

-- the order lent as a part, as it lies behind the headers
pub order_lent : (q : List ℕ) (n i : ℕ) (part : List ℕ) → length q ≡ queue_length → i < n → part ≡ rotated n i (take message_room (drop order_place q))
    → take order_place q ++ (part ++ drop message_room (drop order_place q)) ≡ without_place n i q
unfolding without_place
order_lent q n i part size among e =
    let whole : take message_room (drop order_place q) ≡ drop order_place q = take_all message_room (drop order_place q) (rw length-drop (omega arith)) in
    let past : drop message_room (drop order_place q) ≡ [] = drop_of_length-le (drop order_place q) {i = message_room} (rw length-drop (omega arith)) in
    rw (without_place, lt-ltb i n among, e, whole, past, append-nil)

-- ---- a new order

pub ordered_fresh : (q : List ℕ) → length q ≡ queue_length → Ordered (order_of (fresh_places q))
unfolding fresh_places
ordered_fresh q size =
    subst Ordered (sym (drop_at (take order_place q) (rising 0 message_room) order_place (length-take-le order_place q (omega arith)))) (ordered_rising message_room 0 (omega arith))
