-- The messages in flight after one was appended or removed, and one of them; the order of their places.
use mathlib.Core.Path.{◌≡◌, refl, ap, ◌∙◌}
use mathlib.Core.Bool.{Bool, true, false}
use mathlib.Core.List.{List, [], ◌∷◌, ◌++◌, map, map-append}
use Prim.Native.Nat.{ℕ, zero, suc, ◌+◌, ◌-◌, ◌≤◌, ◌<◌}
use native.Mathlib.Omega.{arith}
use lib.Dec.{eqb}
use lib.ListN.{length, get_or, take, drop, length-map}
use Rattle.table.specs.Form.{table_of}
use Rattle.blocks.specs.Blocks.{without, block}
use Rattle.blocks.specs.Order.{Ordered}
use Rattle.entries.proofs.Shifts.{map-take_lem, map-drop_lem}
use Rattle.model.specs.Cluster as cluster
use Rattle.model.specs.Lines.{drop_at}
use Rattle.server.specs.declared.Message.{Message}
use Rattle.server.specs.Views.{is_broadcast}
use Rattle.memory.specs.Layout.{queue_length, content_size, order_of, place_at, message_at}
use Rattle.messages.specs.Messages.{Sent, sent_at, messages_at}
use Rattle.memory.proofs.Records.{length-put_header, order_put_header}
use Rattle.messages.proofs.ContentLaws.{length-put_content}
use Rattle.messages.proofs.MessageLaws.{place_low, length_messages, messages_at_lem, messages_appended, length-without_place, ordered_without_place, messages_removed}
use Rattle.moves.specs.declared.Move.{Move}
use Rattle.moves.specs.Reactions.{message_in}
use Rattle.views.specs.Memory.{sent_in, table_at, flight_at}
use Rattle.views.specs.Queue.{Flight, Sound, flight_in, appended, without_message, message_to, spread, broadcast_of, reply_of, sent}

-- ---- map

module _ {A B : Type 0} (f : A → B) where
  map_without : (i : ℕ) (a : List A) → map f (without i a) ≡ drop_at i (map f a)
  unfolding without
  map_without i a = rw (map-append f (take i a) (drop (i + 1) a), map-take_lem, map-drop_lem)

  get_or_mapped : (a : List A) (i : ℕ) (d : A) (e : B) → i < length a → get_or (map f a) i e ≡ f (get_or a i d)
  get_or_mapped [] i d e h = absurd (omega arith)
  get_or_mapped (x ∷ a) zero d e h = refl
  get_or_mapped (x ∷ a) (suc i) d e h = get_or_mapped a i d e (omega arith)

-- ---- one message

pub length_flight : (x : Flight) → Sound x → length (flight_in x) ≡ x.count
unfolding flight_at
length_flight x sound =
    length-map (messages_at x.count x.queue x.payloads) sent_in ∙ length_messages x.count x.queue x.payloads sound.queue sound.count

pub message_at_lem : (x : Flight) (i : ℕ) (d : cluster.Message) → Sound x → i < x.count
    → get_or (flight_in x) i d ≡ message_in (message_at x.queue i) (table_at x.payloads (place_at x.queue i))
unfolding flight_at table_at
message_at_lem x i d sound among =
    let z : Sent = sent_at x.queue x.payloads (place_at x.queue i) in
    let size = length_messages x.count x.queue x.payloads sound.queue sound.count in
    get_or_mapped sent_in (messages_at x.count x.queue x.payloads) i z d (rw size among)
    ∙ ap sent_in (messages_at_lem x.count x.queue x.payloads sound.queue sound.count i z among)

-- ---- one appended, with the block v as its content

module _ (v : List ℕ) (m : Message) (x : Flight) (sound : Sound x) (room : x.count < 64) (whole : length v ≡ 128) where
  pub appended_flight : flight_in (appended v m x) ≡ flight_in x ++ (message_in m (table_of 4 16 (take 113 v)) ∷ [])
  unfolding flight_at appended
  appended_flight =
      ap (map sent_in) (messages_appended x.count x.queue x.payloads m v sound.queue room sound.payloads whole sound.order)
      ∙ map-append sent_in (messages_at x.count x.queue x.payloads) (record { header = m; content = take 113 v } ∷ [])

  pub appended_sound : Sound (appended v m x)
  unfolding appended
  appended_sound =
      record {
        queue = length-put_header x.queue (place_at x.queue x.count) m ∙ sound.queue;
        order = rw (order_put_header x.queue (place_at x.queue x.count) m (place_low x.queue x.count)) sound.order;
        payloads = let h = sound.payloads in length-put_content 64 (place_at x.queue x.count) x.payloads v whole (place_low x.queue x.count) (omega arith) ∙ sound.payloads;
        count = omega arith;
      }

pub appended_count : (v : List ℕ) (m : Message) (x : Flight) → (appended v m x).count ≡ x.count + 1
unfolding appended
appended_count v m x = refl

-- ---- one removed

module _ (i : ℕ) (x : Flight) (sound : Sound x) (among : i < x.count) where
  pub removed_flight : flight_in (without_message true i x) ≡ drop_at i (flight_in x)
  unfolding flight_at without_message
  removed_flight =
      ap (map sent_in) (messages_removed x.count i x.queue sound.queue sound.count among x.payloads)
      ∙ map_without sent_in i (messages_at x.count x.queue x.payloads)

  pub removed_sound : (removes : Bool) → Sound (without_message removes i x)
  unfolding without_message
  removed_sound true =
      record {
        queue = length-without_place x.count i x.queue sound.queue sound.count ∙ sound.queue;
        order = ordered_without_place x.count i x.queue sound.queue sound.count sound.order;
        payloads = sound.payloads;
        count = omega arith;
      }
  removed_sound false = sound

pub removed_count : (removes : Bool) (i : ℕ) (x : Flight) → (without_message removes i x).count ≡ elim removes [ true ↦ x.count - 1 | false ↦ x.count ]
unfolding without_message
removed_count true i x = refl
removed_count false i x = refl

-- ---- the order, whatever is sent and however many messages there are

abbrev order_in : Flight → List ℕ
order_in x = order_of x.queue

appended_order : (v : List ℕ) (m : Message) (x : Flight) → order_of (appended v m x).queue ≡ order_of x.queue
unfolding appended
appended_order v m x = order_put_header x.queue (place_at x.queue x.count) m (place_low x.queue x.count)

spread_order : (v : List ℕ) (m : Message) (n : ℕ) (x : Flight) → order_of (spread v m n x).queue ≡ order_of x.queue
unfolding spread
spread_order v m zero x = refl
spread_order v m (suc n) x = go (eqb n m.sender) ∙ spread_order v m n x
  where
    go : (b : Bool) → order_in (elim b [ true ↦ spread v m n x | false ↦ appended v (message_to m n) (spread v m n x) ]) ≡ order_of (spread v m n x).queue
    go true = refl
    go false = appended_order v (message_to m n) (spread v m n x)

pub sent_order : (n me b k : ℕ) (asked : Message) (v : Move) (working copies : List ℕ) (x : Flight) → order_of (sent n me b k asked v working copies x).queue ≡ order_of x.queue
unfolding sent
sent_order n me b k asked v working copies x = go (eqb v.sends 0) (is_broadcast v.sends)
  where
    go : (z y : Bool)
        → order_in (elim z [ true ↦ x | false ↦ elim y [ true ↦ spread (block content_size k working) (broadcast_of me b v) n x | false ↦ appended (block content_size k copies) (reply_of me asked v) x ] ]) ≡ order_of x.queue
    go true y = refl
    go false true = spread_order (block content_size k working) (broadcast_of me b v) n x
    go false false = appended_order (block content_size k copies) (reply_of me asked v) x

-- it names no place twice, whatever is removed
pub left_order : (removes : Bool) (i : ℕ) (x : Flight) → length x.queue ≡ queue_length → x.count ≤ 64 → Ordered (order_of x.queue) → Ordered (order_of (without_message removes i x).queue)
unfolding without_message
left_order true i x size few ordered = ordered_without_place x.count i x.queue size few ordered
left_order false i x size few ordered = ordered
