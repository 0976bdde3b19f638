-- What a step makes of the lent arrays of its server, array by array. `k` is the slot, `i` the place of the message handed over.
use Rattle.std.specs.Prelude.{Bool, true, false, List, [], ◌∷◌, ◌++◌, ℕ, zero, suc, ◌+◌, ◌*◌, eqb, get_or, drop}
use Rattle.blocks.specs.Blocks.{block}
use Rattle.entries.specs.Entries.{Entry}
use Rattle.table.specs.Form.{bucket_bytes}
use Rattle.model.specs.Measures.{most_answers, max_entries, max_value_bytes}
use Rattle.model.specs.Calls as calls
use Rattle.server.specs.Views.{among, answer_in}
use Rattle.server.specs.declared.Answer.{Answer}
use Rattle.server.specs.declared.Round.{Round}
use Rattle.server.specs.declared.Call.{Call}
use Rattle.open_calls.specs.Calls.{ended_of}
use Rattle.memory.specs.Rows.{row, put_row}
use Rattle.memory.specs.Layout.{slot_of, answer_size, content_size, content_bytes, round_at, call_at, put_head, put_version, put_round, put_call, put_content}
use Rattle.moves.specs.declared.Local.{Local}
use Rattle.moves.specs.declared.Move.{Move}
use Rattle.moves.specs.declared.Filling.{Filling}
use Rattle.moves.specs.declared.Filling.TheVariants as filling
use Rattle.moves.specs.declared.Keeping.{Keeping}
use Rattle.moves.specs.declared.Keeping.TheVariants as keeping
use Rattle.moves.specs.Moves.{no_round, no_call}
use Rattle.views.specs.Memory.{Memory, memory, each}

-- ---- contents

-- a table's bucket form over the first bytes of content i
unfoldable pub put_table : List ℕ → ℕ → List Entry → List ℕ
put_table l i t = put_content l i (bucket_bytes max_entries max_value_bytes t ++ drop content_bytes (block content_size i l))

-- the working contents: `made` is the new table
unfoldable pub filled_from : (working copies payloads : List ℕ) → ℕ → ℕ → List Entry → Filling → List ℕ
filled_from working copies payloads k i made filling.Stays = working
filled_from working copies payloads k i made filling.Copy = put_content working k (block content_size k copies)
filled_from working copies payloads k i made filling.Table = put_table working k made
filled_from working copies payloads k i made filling.Message = put_content working k (block content_size i payloads)

abbrev pub filled : Memory → ℕ → ℕ → List Entry → Filling → List ℕ
filled m k i made fills = filled_from m.working m.copies m.payloads k i made fills

-- the contents of copies, after the working contents were filled
unfoldable pub kept_from : (copies working payloads : List ℕ) → ℕ → ℕ → Keeping → List ℕ
kept_from copies working payloads k i keeping.Stays = copies
kept_from copies working payloads k i keeping.Working = put_content copies k (block content_size k working)
kept_from copies working payloads k i keeping.Message = put_content copies k (block content_size i payloads)

abbrev pub kept : Memory → List ℕ → ℕ → ℕ → Keeping → List ℕ
kept m working k i keeps = kept_from m.copies working m.payloads k i keeps

-- ---- slots

abbrev pub put_local : List ℕ → ℕ → Local → List ℕ
put_local slots k l = put_call (put_round (put_version slots k l.version) k l.round) k l.call

-- whether there is neither a round nor a call
unfoldable pub is_idle : Round → Call → Bool
is_idle r c = elim (eqb r.purpose 0) [ true ↦ eqb c.kind 0 | false ↦ false ]

unfoldable pub cleared_slot : List ℕ → ℕ → List ℕ
cleared_slot slots k = elim (is_idle (round_at slots k) (call_at slots k)) [ true ↦ slots | false ↦ put_call (put_round slots k no_round) k no_call ]

-- the first b slots of server s
unfoldable pub cleared_slots : List ℕ → ℕ → ℕ → List ℕ
cleared_slots slots s zero = slots
cleared_slots slots s (suc b) = cleared_slot (cleared_slots slots s b) (slot_of s b)

-- ---- answers: blocks of four words, the last of them spare

-- words for the answers of a line
abbrev pub answers_room : ℕ
answers_room = most_answers * answer_size

abbrev pub answer_row : Answer → List ℕ
answer_row a = a.call ∷ a.result ∷ a.rounds ∷ []

abbrev pub answer_of : List ℕ → Answer
answer_of w = record { call = get_or w 0 0; result = get_or w 1 0; rounds = get_or w 2 0 }

unfoldable pub answer_at : List ℕ → ℕ → Answer
answer_at l i = answer_of (row (i * answer_size) 0 3 l)

unfoldable pub put_answer : List ℕ → ℕ → Answer → List ℕ
put_answer l i a = put_row l (i * answer_size) 0 (answer_row a)

-- the first answers, with v and t the data of `value` and `keys`
unfoldable pub answers_at : ℕ → List ℕ → List ℕ → List Entry → List calls.Answer
answers_at count l v t = each count (λ i. answer_in (answer_at l i) v t)

-- the answers that were written, and how many
pub record Written : Type 0 where
  pub answers : List ℕ
  pub count : ℕ

-- the ending of the call of slot k, where one is open
abbrev pub ended_call : List ℕ → ℕ → Written → Written
ended_call slots k w =
    elim (among 5 (call_at slots k).kind) [
      | true ↦ record { answers = put_answer w.answers w.count (ended_of (call_at slots k)); count = w.count + 1 }
      | false ↦ w
    ]

-- the endings of the open calls among the first b slots of server s, in bucket order
unfoldable pub ended_calls : List ℕ → ℕ → ℕ → List ℕ → Written
ended_calls slots s zero l = record { answers = l; count = 0 }
ended_calls slots s (suc b) l = ended_call slots (slot_of s b) (ended_calls slots s b l)

-- what a move answers, at a server with so many buckets
unfoldable pub answered : List ℕ → ℕ → ℕ → Move → List ℕ → Written
answered slots buckets s v l =
    elim v.ceases [
      | true ↦ elim v.forgets [ true ↦ record { answers = l; count = 0 } | false ↦ ended_calls slots s buckets l ]
      | false ↦
          elim (eqb v.answer.result 0) [ true ↦ record { answers = l; count = 0 } | false ↦ record { answers = put_answer l 0 v.answer; count = 1 } ]
    ]

-- ---- the arrays of the server

unfoldable pub slots_after : List ℕ → ℕ → ℕ → ℕ → Move → List ℕ
slots_after slots buckets s k v =
    elim v.ceases [ true ↦ cleared_slots (put_local slots k v.local) s buckets | false ↦ put_local slots k v.local ]

unfoldable pub moved : Memory → ℕ → ℕ → ℕ → ℕ → Move → List Entry → Memory
moved m buckets s b i v made =
    let k = slot_of s b in
    let working = filled m k i made v.fills in
    memory
    m.counts
    (put_head m.heads s v.local.head)
    (slots_after m.slots buckets s k v)
    (kept m working k i v.keeps)
    working
    m.texts
    m.queue
    m.payloads
