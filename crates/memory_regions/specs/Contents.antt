-- The bytes in regions: contents in blocks of one size, then the keys and values of calls. Blocks of contents have one numbering.
use Rattle.std.specs.Prelude.{List, [], ◌∷◌, ℕ, ◌+◌, ◌*◌, get_or}
use Rattle.blocks.specs.Blocks.{block}
use Rattle.memory.specs.Layout.{slot_room, message_room, content_size, text_size, put_content}
use Rattle.memory_regions.specs.Cuts.{cut, start}
use Rattle.memory.specs.Lent.{Lent, was, is}

-- contents of copies, working contents, contents of messages, keys and values of calls
abbrev pub byte_sizes : List ℕ
byte_sizes = slot_room * content_size ∷ slot_room * content_size ∷ message_room * content_size ∷ slot_room * text_size ∷ []

abbrev pub texts_place : ℕ
texts_place = start byte_sizes 3

abbrev pub byte_count : ℕ
byte_count = start byte_sizes 4

-- the first block of each region of contents, and how many blocks there are
abbrev pub first_copy : ℕ
first_copy = 0

abbrev pub first_working : ℕ
first_working = slot_room

abbrev pub first_payload : ℕ
first_payload = slot_room + slot_room

abbrev pub content_room : ℕ
content_room = slot_room + slot_room + message_room

-- ---- by their names

pub record Contents : Type 0 where
  pub copies : List ℕ
  pub working : List ℕ
  pub payloads : List ℕ
  pub texts : List ℕ

abbrev pub contents_of : List (List ℕ) → Contents
contents_of x = record { copies = get_or x 0 []; working = get_or x 1 []; payloads = get_or x 2 []; texts = get_or x 3 [] }

unfoldable pub contents : List ℕ → Contents
contents bytes = contents_of (cut byte_sizes bytes)

abbrev pub old_contents : Lent → Contents
old_contents bytes = contents (was bytes)

abbrev pub new_contents : Lent → Contents
new_contents bytes = contents (is bytes)

-- ---- one region replaced

abbrev pub with_copies : Contents → List ℕ → Contents
with_copies c l = record { copies = l; working = c.working; payloads = c.payloads; texts = c.texts }

abbrev pub with_working : Contents → List ℕ → Contents
with_working c l = record { copies = c.copies; working = l; payloads = c.payloads; texts = c.texts }

abbrev pub with_payloads : Contents → List ℕ → Contents
with_payloads c l = record { copies = c.copies; working = c.working; payloads = l; texts = c.texts }

abbrev pub with_texts : Contents → List ℕ → Contents
with_texts c l = record { copies = c.copies; working = c.working; payloads = c.payloads; texts = l }

-- ---- one content: its block, and the contents with that block replaced

abbrev pub copy_of : Contents → ℕ → List ℕ
copy_of c k = block content_size k c.copies

abbrev pub working_of : Contents → ℕ → List ℕ
working_of c k = block content_size k c.working

abbrev pub payload_of : Contents → ℕ → List ℕ
payload_of c i = block content_size i c.payloads

-- content j of the lent bytes, in the one numbering, as it was
abbrev pub old_content : Lent → ℕ → List ℕ
old_content bytes j = block content_size j (was bytes)

abbrev pub put_copy : Contents → ℕ → List ℕ → Contents
put_copy c k v = with_copies c (put_content c.copies k v)

abbrev pub put_working : Contents → ℕ → List ℕ → Contents
put_working c k v = with_working c (put_content c.working k v)

abbrev pub put_payload : Contents → ℕ → List ℕ → Contents
put_payload c i v = with_payloads c (put_content c.payloads i v)
