-- Where each field of the cluster's records lies in the lent arrays. Every reading is total: any numbers in the arrays stand for something.
-- A record has its own words at a fixed offset of a block: `..Row` lists its fields in the order of these words, `..Of` reads them back,
-- `..At` is the record of block k and `put..` the array with that record replaced. `..Fields` and `..Stores` are the same, written out.
use Rattle.std.specs.Prelude.{◌≡◌, List, [], ◌∷◌, ◌++◌, Some, None, true, false, ℕ, zero, suc, ◌+◌, ◌*◌, ltb, length, get_or, take, drop, set}
use Rattle.std.proofs.Math.Seq.{paste}
use Rattle.blocks.specs.Blocks.{blocks, block, refilled}
use Rattle.blocks.specs.Order.{place, rotated, rising}
use Rattle.entries.specs.declared.Text.{Text}
use Rattle.entries.specs.Decoded.{Key, Value, Item, key_bytes, value_bytes, no_value}
use Rattle.server.specs.declared.Version.{Version}
use Rattle.server.specs.declared.Head.{Head}
use Rattle.server.specs.declared.Round.{Round}
use Rattle.server.specs.declared.Call.{Call}
use Rattle.server.specs.declared.Words.{Words}
use Rattle.server.specs.declared.Message.{Message}
use Rattle.memory.specs.declared.Numbers.{Numbers}
use Rattle.memory.specs.declared.Counts.{Counts}
use Rattle.memory.specs.Rows.{row, put_row}

-- ---- sizes: servers, buckets, slots (one for each server and bucket), messages

abbrev pub server_room : ℕ
server_room = 7

abbrev pub bucket_room : ℕ
bucket_room = 8

abbrev pub slot_room : ℕ
slot_room = 56

abbrev pub message_room : ℕ
message_room = 64

-- the slot of server s and bucket b
abbrev pub slot_of : ℕ → ℕ → ℕ
slot_of s b = s * bucket_room + b

-- words of a head's block, a slot's block, a message's block and an answer's block
abbrev pub head_size : ℕ
head_size = 16

abbrev pub slot_size : ℕ
slot_size = 32

abbrev pub message_size : ℕ
message_size = 8

abbrev pub answer_size : ℕ
answer_size = 4

-- where the order of the messages begins, behind their blocks, and how many words both have
abbrev pub order_place : ℕ
order_place = 512

abbrev pub queue_length : ℕ
queue_length = 576

-- bytes of the block of a content, and those of them that count; bytes of the block of a call's key and values
abbrev pub content_size : ℕ
content_size = 128

abbrev pub content_bytes : ℕ
content_bytes = 113

abbrev pub text_size : ℕ
text_size = 64

-- where the records of a slot begin in its block, and how many words each record has
abbrev pub version_place : ℕ
version_place = 0

abbrev pub round_place : ℕ
round_place = 2

abbrev pub call_place : ℕ
call_place = 14

abbrev pub numbers_place : ℕ
numbers_place = 18

abbrev pub head_words : ℕ
head_words = 13

abbrev pub version_words : ℕ
version_words = 2

abbrev pub round_words : ℕ
round_words = 12

abbrev pub call_words : ℕ
call_words = 4

abbrev pub numbers_words : ℕ
numbers_words = 5

abbrev pub counts_words : ℕ
counts_words = 5

-- bytes of a key and of a value, and where the key, the expected value and the new value begin in their block
abbrev pub key_room : ℕ
key_room = 8

abbrev pub value_room : ℕ
value_room = 16

abbrev pub key_place : ℕ
key_place = 0

abbrev pub expected_place : ℕ
expected_place = 8

abbrev pub value_place : ℕ
value_place = 24

-- ---- heads: number, vote, leader, role, last round, stopped, then a word for each vote

abbrev pub head_numbers : Head → List ℕ
head_numbers h = h.number ∷ h.vote ∷ h.leader ∷ h.role ∷ h.last ∷ h.stopped ∷ []

abbrev pub head_row : Head → List ℕ
head_row h = head_numbers h ++ row 0 0 server_room h.votes

abbrev pub head_of : List ℕ → Head
head_of w =
    record {
      number = get_or w 0 0;
      vote = get_or w 1 0;
      leader = get_or w 2 0;
      role = get_or w 3 0;
      last = get_or w 4 0;
      stopped = get_or w 5 0;
      votes = drop 6 w;
    }

abbrev pub head_fields : List ℕ → ℕ → Head
head_fields l s = head_of (row (s * head_size) 0 head_words l)

-- the head of server s, and the heads with that of server s replaced
unfoldable pub head_at : List ℕ → ℕ → Head
head_at l s = head_fields l s

unfoldable pub put_head : List ℕ → ℕ → Head → List ℕ
put_head l s h = put_row l (s * head_size) 0 (head_row h)

-- ---- slots: the version of the copy, the open round, the open call, the numbers of the call's words

abbrev pub version_row : Version → List ℕ
version_row v = v.election ∷ v.counter ∷ []

abbrev pub version_of : List ℕ → Version
version_of w = record { election = get_or w 0 0; counter = get_or w 1 0 }

abbrev pub version_fields : List ℕ → ℕ → Version
version_fields l k = version_of (row (k * slot_size) version_place version_words l)

abbrev pub version_stores : List ℕ → ℕ → Version → List ℕ
version_stores l k v = put_row l (k * slot_size) version_place (version_row v)

unfoldable pub version_at : List ℕ → ℕ → Version
version_at l k = version_fields l k

unfoldable pub put_version : List ℕ → ℕ → Version → List ℕ
put_version l k v = version_stores l k v

-- purpose, number, election, the best version's two numbers, then a word for each mark
abbrev pub round_numbers : Round → List ℕ
round_numbers r = r.purpose ∷ r.number ∷ r.election ∷ r.best.election ∷ r.best.counter ∷ []

abbrev pub round_row : Round → List ℕ
round_row r = round_numbers r ++ row 0 0 server_room r.marks

abbrev pub round_of : List ℕ → Round
round_of w =
    record {
      purpose = get_or w 0 0;
      number = get_or w 1 0;
      election = get_or w 2 0;
      best = version_of (drop 3 w);
      marks = drop 5 w;
    }

abbrev pub round_fields : List ℕ → ℕ → Round
round_fields l k = round_of (row (k * slot_size) round_place round_words l)

unfoldable pub round_at : List ℕ → ℕ → Round
round_at l k = round_fields l k

unfoldable pub put_round : List ℕ → ℕ → Round → List ℕ
put_round l k r = put_row l (k * slot_size) round_place (round_row r)

abbrev pub call_row : Call → List ℕ
call_row c = c.kind ∷ c.number ∷ c.rounds ∷ c.sent ∷ []

abbrev pub call_of : List ℕ → Call
call_of w = record { kind = get_or w 0 0; number = get_or w 1 0; rounds = get_or w 2 0; sent = get_or w 3 0 }

abbrev pub call_fields : List ℕ → ℕ → Call
call_fields l k = call_of (row (k * slot_size) call_place call_words l)

abbrev pub call_stores : List ℕ → ℕ → Call → List ℕ
call_stores l k c = put_row l (k * slot_size) call_place (call_row c)

unfoldable pub call_at : List ℕ → ℕ → Call
call_at l k = call_fields l k

unfoldable pub put_call : List ℕ → ℕ → Call → List ℕ
put_call l k c = call_stores l k c

-- kind, bucket, the length of the key, and for the expected value and the new value the word that `item_word` says
abbrev pub numbers_row : Numbers → List ℕ
numbers_row n = n.kind ∷ n.bucket ∷ n.key ∷ n.expected ∷ n.value ∷ []

abbrev pub numbers_of : List ℕ → Numbers
numbers_of w = record { kind = get_or w 0 0; bucket = get_or w 1 0; key = get_or w 2 0; expected = get_or w 3 0; value = get_or w 4 0 }

abbrev pub numbers_fields : List ℕ → ℕ → Numbers
numbers_fields l k = numbers_of (row (k * slot_size) numbers_place numbers_words l)

abbrev pub numbers_stores : List ℕ → ℕ → Numbers → List ℕ
numbers_stores l k n = put_row l (k * slot_size) numbers_place (numbers_row n)

unfoldable pub numbers_at : List ℕ → ℕ → Numbers
numbers_at l k = numbers_fields l k

unfoldable pub put_numbers : List ℕ → ℕ → Numbers → List ℕ
put_numbers l k n = numbers_stores l k n

-- the word of a value: 0 where there is none, else one above its length
unfoldable pub item_word : Item → ℕ
item_word (Some v) = length (value_bytes v) + 1
item_word None = 0

-- the numbers of a call's words: a length above the room is stored as all of it
abbrev pub numbers_in : Words → Numbers
numbers_in w =
    record {
      kind = w.kind;
      bucket = w.bucket;
      key = length (key_bytes w.key);
      expected = item_word w.expected;
      value = item_word w.value;
    }

-- ---- the words of open calls: their numbers in the slots, their bytes (eight, sixteen and sixteen) in blocks of their own

abbrev pub text_from : (room : ℕ) → List ℕ → ℕ → ℕ → Text room
text_from room m p len = record { bytes = take room (drop p m); len = len }

abbrev pub key_from : List ℕ → ℕ → ℕ → Key
key_from m p len = text_from key_room m p len

abbrev pub value_from : List ℕ → ℕ → ℕ → Value
value_from m p len = text_from value_room m p len

-- a value by its word, with its bytes from p on: none for 0, else of a length one below it
abbrev pub item_from : List ℕ → ℕ → ℕ → Item
item_from m p zero = None
item_from m p (suc len) = Some (value_from m p len)

-- the value whose bytes are stored: zeros for an absent one
abbrev pub stored_value : Item → Value
stored_value (Some v) = v
stored_value None = no_value

unfoldable pub words_at : List ℕ → List ℕ → ℕ → Words
words_at l m k =
    let n = numbers_at l k in
    record {
      kind = n.kind;
      bucket = n.bucket;
      key = key_from m (k * text_size + key_place) n.key;
      expected = item_from m (k * text_size + expected_place) n.expected;
      value = item_from m (k * text_size + value_place) n.value;
    }

-- the slots and the bytes with the words of slot k replaced
unfoldable pub put_words : List ℕ → ℕ → Words → List ℕ
put_words l k w = put_numbers l k (numbers_in w)

unfoldable pub put_texts : List ℕ → ℕ → Words → List ℕ
put_texts m k w =
    paste
    (paste (paste m (k * text_size + key_place) w.key.bytes key_room) (k * text_size + expected_place) (stored_value w.expected).bytes value_room)
    (k * text_size + value_place)
    (stored_value w.value).bytes
    value_room

-- words whose arrays have eight, sixteen and sixteen bytes
pub record Whole (w : Words) : Type 0 where
  pub key_length : length w.key.bytes ≡ key_room
  pub expected_length : length (stored_value w.expected).bytes ≡ value_room
  pub value_length : length (stored_value w.value).bytes ≡ value_room

-- ---- contents: those of the copies and the working contents, at the slot; those of the messages, at their places

-- the bytes that count of content i
unfoldable pub content_at : List ℕ → ℕ → List ℕ
content_at l i = take content_bytes (block content_size i l)

-- the contents with the block of content i replaced
unfoldable pub put_content : List ℕ → ℕ → List ℕ → List ℕ
put_content l i v = refilled (set (blocks content_size (i + 1) l) i v) l

-- ---- messages: a place for each, and behind the places the order, which lists them: first those of the messages in flight, in the
-- order in which they were sent, then the free ones. A message stays at its place, its content at the same place of the contents

abbrev pub order_of : List ℕ → List ℕ
order_of l = drop order_place l

abbrev pub place_field : List ℕ → ℕ → ℕ
place_field l i = place (get_or l (order_place + i) 0)

-- the place of message i of the list; from their count on, the free places
unfoldable pub place_at : List ℕ → ℕ → ℕ
place_at l i = place_field l i

-- message i of n goes: its place is the first free one then
unfoldable pub without_place : ℕ → ℕ → List ℕ → List ℕ
without_place n i l = elim (ltb i n) [ true ↦ take order_place l ++ rotated n i (order_of l) | false ↦ l ]

-- all places are free, in their own order
unfoldable pub fresh_places : List ℕ → List ℕ
fresh_places l = take order_place l ++ rising 0 message_room

-- kind, sender, receiver, bucket, election, round, the version's two numbers

abbrev pub message_row : Message → List ℕ
message_row m =
    m.kind ∷ m.sender ∷ m.receiver ∷ m.bucket ∷ m.election ∷ m.round ∷ version_row m.version

abbrev pub message_of : List ℕ → Message
message_of w =
    record {
      kind = get_or w 0 0;
      sender = get_or w 1 0;
      receiver = get_or w 2 0;
      bucket = get_or w 3 0;
      election = get_or w 4 0;
      round = get_or w 5 0;
      version = version_of (drop 6 w);
    }

abbrev pub message_fields : List ℕ → ℕ → Message
message_fields l p = message_of (row (p * message_size) 0 message_size l)

abbrev pub message_stores : List ℕ → ℕ → Message → List ℕ
message_stores l p m = put_row l (p * message_size) 0 (message_row m)

-- the header at place p, and the header of message i of the list
unfoldable pub header_at : List ℕ → ℕ → Message
header_at l p = message_fields l p

abbrev pub message_at : List ℕ → ℕ → Message
message_at l i = header_at l (place_at l i)

unfoldable pub put_header : List ℕ → ℕ → Message → List ℕ
put_header l p m = message_stores l p m

-- a header stored as that of message n
abbrev pub put_message : List ℕ → ℕ → Message → List ℕ
put_message l n m = put_header l (place_at l n) m

-- ---- counts: servers, buckets, messages in flight, accepted lines, calls

abbrev pub counts_row : Counts → List ℕ
counts_row c = c.servers ∷ c.buckets ∷ c.messages ∷ c.lines ∷ c.calls ∷ []

abbrev pub counts_of : List ℕ → Counts
counts_of w = record { servers = get_or w 0 0; buckets = get_or w 1 0; messages = get_or w 2 0; lines = get_or w 3 0; calls = get_or w 4 0 }

abbrev pub counts_fields : List ℕ → Counts
counts_fields l = counts_of (row 0 0 counts_words l)

abbrev pub counts_stores : List ℕ → Counts → List ℕ
counts_stores l c = put_row l 0 0 (counts_row c)

unfoldable pub counts_at : List ℕ → Counts
counts_at l = counts_fields l

unfoldable pub put_counts : List ℕ → Counts → List ℕ
put_counts l c = counts_stores l c
