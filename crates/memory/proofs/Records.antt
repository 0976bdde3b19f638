-- A record stored is the record read back; the other records stay. Heads in words of their own, versions, rounds, calls and the numbers of
-- their words together in the slots, headers of messages, counts.
use mathlib.Core.Path.{◌≡◌, ap, ◌∙◌}
use mathlib.Core.Logic.{◌≢◌}
use mathlib.Core.List.{List}
use Prim.Native.Nat.{ℕ, ◌+◌, ◌*◌, ◌≤◌, ◌<◌}
use native.Mathlib.Omega.{arith}
use lib.ListN.{length}
use Rattle.server.specs.declared.Version.{Version}
use Rattle.server.specs.declared.Head.{Head}
use Rattle.server.specs.declared.Round.{Round}
use Rattle.server.specs.declared.Call.{Call}
use Rattle.server.specs.declared.Message.{Message}
use Rattle.memory.specs.declared.Numbers.{Numbers}
use Rattle.memory.specs.declared.Counts.{Counts}
use Rattle.memory.specs.Layout.{
  server_room,
  head_size,
  slot_size,
  message_size,
  version_place,
  round_place,
  call_place,
  numbers_place,
  head_words,
  version_words,
  round_words,
  call_words,
  numbers_words,
  counts_words,
  head_of,
  head_row,
  head_at,
  put_head,
  version_of,
  version_row,
  version_at,
  put_version,
  round_of,
  round_row,
  round_at,
  put_round,
  call_of,
  call_row,
  call_at,
  put_call,
  numbers_of,
  numbers_row,
  numbers_at,
  put_numbers,
  message_of,
  message_row,
  message_room,
  order_place,
  order_of,
  header_at,
  put_header,
  counts_of,
  counts_row,
  counts_at,
  put_counts,
}
use Rattle.memory.proofs.Rows.{length-put_row, drop-put_row, row_put, row_other, row_beside, row_all}

-- ---- heads

module _ (l : List ℕ) (s : ℕ) (h : Head) where
  pub length-put_head : length (put_head l s h) ≡ length l
  unfolding put_head
  length-put_head = length-put_row (head_row h) l (s * head_size) 0

  pub head_put_head : (s + 1) * head_size ≤ length l → length h.votes ≡ server_room → head_at (put_head l s h) s ≡ h
  unfolding head_at put_head
  head_put_head fits seven =
      ap head_of (row_put (head_row h) l (s * head_size) 0 (omega arith))
      ∙ ap
      (λ (votes : List ℕ). record { number = h.number; vote = h.vote; leader = h.leader; role = h.role; last = h.last; stopped = h.stopped; votes = votes })
      (row_all server_room h.votes seven)

  pub head_elsewhere : (k : ℕ) → k ≢ s → head_at (put_head l s h) k ≡ head_at l k
  unfolding head_at put_head
  head_elsewhere k different = ap head_of (row_other head_size k s 0 head_words (head_row h) l 0 (omega arith) (omega arith) different)

-- ---- slots: a store to one of the four records of slot i

module _ (l : List ℕ) (i : ℕ) (v : Version) where
  pub length-put_version : length (put_version l i v) ≡ length l
  unfolding put_version
  length-put_version = length-put_row (version_row v) l (i * slot_size) version_place

  pub version_put_version : (i + 1) * slot_size ≤ length l → version_at (put_version l i v) i ≡ v
  unfolding version_at put_version
  version_put_version fits = ap version_of (row_put (version_row v) l (i * slot_size) version_place (omega arith))

  pub version_elsewhere : (k : ℕ) → k ≢ i → version_at (put_version l i v) k ≡ version_at l k
  unfolding version_at put_version
  version_elsewhere k different = ap version_of (row_other slot_size k i version_place version_words (version_row v) l version_place (omega arith) (omega arith) different)

  pub round_put_version : (k : ℕ) → round_at (put_version l i v) k ≡ round_at l k
  unfolding round_at put_version
  round_put_version k = ap round_of (row_beside slot_size k i round_place round_words (version_row v) l version_place (omega arith) (omega arith) (λ same a b ha hb e. omega arith))

  pub call_put_version : (k : ℕ) → call_at (put_version l i v) k ≡ call_at l k
  unfolding call_at put_version
  call_put_version k = ap call_of (row_beside slot_size k i call_place call_words (version_row v) l version_place (omega arith) (omega arith) (λ same a b ha hb e. omega arith))

  pub numbers_put_version : (k : ℕ) → numbers_at (put_version l i v) k ≡ numbers_at l k
  unfolding numbers_at put_version
  numbers_put_version k = ap numbers_of (row_beside slot_size k i numbers_place numbers_words (version_row v) l version_place (omega arith) (omega arith) (λ same a b ha hb e. omega arith))

module _ (l : List ℕ) (i : ℕ) (r : Round) where
  pub length-put_round : length (put_round l i r) ≡ length l
  unfolding put_round
  length-put_round = length-put_row (round_row r) l (i * slot_size) round_place

  pub round_put_round : (i + 1) * slot_size ≤ length l → length r.marks ≡ server_room → round_at (put_round l i r) i ≡ r
  unfolding round_at put_round
  round_put_round fits seven =
      ap round_of (row_put (round_row r) l (i * slot_size) round_place (omega arith))
      ∙ ap
      (λ (marks : List ℕ). record { purpose = r.purpose; number = r.number; election = r.election; best = r.best; marks = marks })
      (row_all server_room r.marks seven)

  pub round_elsewhere : (k : ℕ) → k ≢ i → round_at (put_round l i r) k ≡ round_at l k
  unfolding round_at put_round
  round_elsewhere k different = ap round_of (row_other slot_size k i round_place round_words (round_row r) l round_place (omega arith) (omega arith) different)

  pub version_put_round : (k : ℕ) → version_at (put_round l i r) k ≡ version_at l k
  unfolding version_at put_round
  version_put_round k = ap version_of (row_beside slot_size k i version_place version_words (round_row r) l round_place (omega arith) (omega arith) (λ same a b ha hb e. omega arith))

  pub call_put_round : (k : ℕ) → call_at (put_round l i r) k ≡ call_at l k
  unfolding call_at put_round
  call_put_round k = ap call_of (row_beside slot_size k i call_place call_words (round_row r) l round_place (omega arith) (omega arith) (λ same a b ha hb e. omega arith))

  pub numbers_put_round : (k : ℕ) → numbers_at (put_round l i r) k ≡ numbers_at l k
  unfolding numbers_at put_round
  numbers_put_round k = ap numbers_of (row_beside slot_size k i numbers_place numbers_words (round_row r) l round_place (omega arith) (omega arith) (λ same a b ha hb e. omega arith))

module _ (l : List ℕ) (i : ℕ) (c : Call) where
  pub length-put_call : length (put_call l i c) ≡ length l
  unfolding put_call
  length-put_call = length-put_row (call_row c) l (i * slot_size) call_place

  pub call_put_call : (i + 1) * slot_size ≤ length l → call_at (put_call l i c) i ≡ c
  unfolding call_at put_call
  call_put_call fits = ap call_of (row_put (call_row c) l (i * slot_size) call_place (omega arith))

  pub call_elsewhere : (k : ℕ) → k ≢ i → call_at (put_call l i c) k ≡ call_at l k
  unfolding call_at put_call
  call_elsewhere k different = ap call_of (row_other slot_size k i call_place call_words (call_row c) l call_place (omega arith) (omega arith) different)

  pub version_put_call : (k : ℕ) → version_at (put_call l i c) k ≡ version_at l k
  unfolding version_at put_call
  version_put_call k = ap version_of (row_beside slot_size k i version_place version_words (call_row c) l call_place (omega arith) (omega arith) (λ same a b ha hb e. omega arith))

  pub round_put_call : (k : ℕ) → round_at (put_call l i c) k ≡ round_at l k
  unfolding round_at put_call
  round_put_call k = ap round_of (row_beside slot_size k i round_place round_words (call_row c) l call_place (omega arith) (omega arith) (λ same a b ha hb e. omega arith))

  pub numbers_put_call : (k : ℕ) → numbers_at (put_call l i c) k ≡ numbers_at l k
  unfolding numbers_at put_call
  numbers_put_call k = ap numbers_of (row_beside slot_size k i numbers_place numbers_words (call_row c) l call_place (omega arith) (omega arith) (λ same a b ha hb e. omega arith))

module _ (l : List ℕ) (i : ℕ) (n : Numbers) where
  pub length-put_numbers : length (put_numbers l i n) ≡ length l
  unfolding put_numbers
  length-put_numbers = length-put_row (numbers_row n) l (i * slot_size) numbers_place

  pub numbers_put_numbers : (i + 1) * slot_size ≤ length l → numbers_at (put_numbers l i n) i ≡ n
  unfolding numbers_at put_numbers
  numbers_put_numbers fits = ap numbers_of (row_put (numbers_row n) l (i * slot_size) numbers_place (omega arith))

  pub numbers_elsewhere : (k : ℕ) → k ≢ i → numbers_at (put_numbers l i n) k ≡ numbers_at l k
  unfolding numbers_at put_numbers
  numbers_elsewhere k different = ap numbers_of (row_other slot_size k i numbers_place numbers_words (numbers_row n) l numbers_place (omega arith) (omega arith) different)

  pub version_put_numbers : (k : ℕ) → version_at (put_numbers l i n) k ≡ version_at l k
  unfolding version_at put_numbers
  version_put_numbers k = ap version_of (row_beside slot_size k i version_place version_words (numbers_row n) l numbers_place (omega arith) (omega arith) (λ same a b ha hb e. omega arith))

  pub round_put_numbers : (k : ℕ) → round_at (put_numbers l i n) k ≡ round_at l k
  unfolding round_at put_numbers
  round_put_numbers k = ap round_of (row_beside slot_size k i round_place round_words (numbers_row n) l numbers_place (omega arith) (omega arith) (λ same a b ha hb e. omega arith))

  pub call_put_numbers : (k : ℕ) → call_at (put_numbers l i n) k ≡ call_at l k
  unfolding call_at put_numbers
  call_put_numbers k = ap call_of (row_beside slot_size k i call_place call_words (numbers_row n) l numbers_place (omega arith) (omega arith) (λ same a b ha hb e. omega arith))

-- ---- headers of messages

module _ (l : List ℕ) (p : ℕ) (m : Message) where
  pub length-put_header : length (put_header l p m) ≡ length l
  unfolding put_header
  length-put_header = length-put_row (message_row m) l (p * message_size) 0

  pub header_put_header : (p + 1) * message_size ≤ length l → header_at (put_header l p m) p ≡ m
  unfolding header_at put_header
  header_put_header fits = ap message_of (row_put (message_row m) l (p * message_size) 0 (omega arith))

  pub header_elsewhere : (k : ℕ) → k ≢ p → header_at (put_header l p m) k ≡ header_at l k
  unfolding header_at put_header
  header_elsewhere k different = ap message_of (row_other message_size k p 0 message_size (message_row m) l 0 (omega arith) (omega arith) different)

  -- the order lies behind the headers
  pub order_put_header : p < message_room → order_of (put_header l p m) ≡ order_of l
  unfolding put_header
  order_put_header among = drop-put_row (message_row m) l (p * message_size) 0 order_place (omega arith)

-- ---- counts

module _ (l : List ℕ) (c : Counts) where
  pub counts_put_counts : counts_words ≤ length l → counts_at (put_counts l c) ≡ c
  unfolding counts_at put_counts
  counts_put_counts fits = ap counts_of (row_put (counts_row c) l 0 0 (omega arith))
