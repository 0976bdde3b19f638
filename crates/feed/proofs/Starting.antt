-- Zeros in `counts`, in the words of the reader and in the tally stand for the start of a script.
use mathlib.Core.Path.{◌≡◌, refl, sym}
use mathlib.Core.Bool.{true≢false}
use mathlib.Core.List.{List}
use Prim.Native.Nat.{ℕ}
use Rattle.table.specs.Form.{within}
use Rattle.memory.specs.Layout.{counts_at}
use Rattle.views.specs.Memory.{cluster_in, standing}
use Rattle.input.specs.Reading.{start}
use Rattle.lines.specs.Sessions.{present_line, reading_in}
use Rattle.feed.specs.Whole.{zeros}
use Rattle.feed.specs.Entry.{MeasuredIn}

pub zeros_start : (heads slots copies working texts queue payloads answers line : List ℕ) → reading_in (zeros heads slots copies working texts queue payloads answers line) ≡ start
unfolding cluster_in standing present_line counts_at within
zeros_start heads slots copies working texts queue payloads answers line = refl

pub zeros_measured : (heads slots copies working texts queue payloads answers line : List ℕ) → MeasuredIn (zeros heads slots copies working texts queue payloads answers line)
unfolding cluster_in standing counts_at within
zeros_measured heads slots copies working texts queue payloads answers line = record { measured = refl; ordered = λ s. absurd (true≢false (sym s)) }
