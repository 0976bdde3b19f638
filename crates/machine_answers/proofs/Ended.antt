-- Open calls that end, slot by slot: one more turn of the loop, and what one slot adds.
use mathlib.Core.Path.{◌≡◌}
use mathlib.Core.Bool.{true, false}
use mathlib.Core.List.{List}
use Prim.Native.Nat.{ℕ, ◌+◌}
use native.Mathlib.Numerals.{add-one}
use Rattle.server.specs.Views.{among}
use Rattle.open_calls.specs.Calls.{ended_of}
use Rattle.memory.specs.Layout.{slot_of, call_at}
use Rattle.views.specs.Changes.{put_answer, ended_call, ended_calls}
use Rattle.machine_answers.specs.Answers.{written}

pub ended_next : (slots : List ℕ) (s b : ℕ) (l : List ℕ) → ended_calls slots s (b + 1) l ≡ ended_call slots (slot_of s b) (ended_calls slots s b l)
unfolding ended_calls
ended_next slots s b l = rw add-one

-- ---- the call of one slot: open, or none

pub ended_open : (slots l : List ℕ) (k count : ℕ) → among 5 (call_at slots k).kind ≡ true → written (put_answer l count (ended_of (call_at slots k))) (count + 1) ≡ ended_call slots k (written l count)
ended_open slots l k count e = rw (ended_call, e)

pub ended_none : (slots l : List ℕ) (k count : ℕ) → among 5 (call_at slots k).kind ≡ false → written l count ≡ ended_call slots k (written l count)
ended_none slots l k count e = rw (ended_call, e)
