-- A line `deliver I` where it lies in the input.
use Rattle.std.specs.Prelude.{◌≡◌, List, ℕ, ◌+◌, ◌-◌, ◌≤◌, ◌<◌, length, take, drop, get_or}
use Rattle.std.proofs.Math.Option.{some}
use Rattle.model.specs.Lines.{deliver}
use Rattle.model.specs.Parse.{decimal_from, number, parse}
use Rattle.model.specs.Text.{bytes}
use Rattle.input.specs.Reading.{NoFeed}
use Rattle.parse_deliver.specs.declared.Figures.{Figures}
use Rattle.parse_deliver.specs.declared.Quick.{Quick}

-- the bytes from `from` to `to`
abbrev pub between : List ℕ → (from to : ℕ) → List ℕ
between l from to = take (to - from) (drop from l)

-- `deliver` and a space stand at `from`
pub record Begun (input : List ℕ) (from : ℕ) : Type 0 where
  pub inside : from + 8 ≤ length input
  pub word : take 8 (drop from input) ≡ bytes "deliver "

-- one more digit may stand behind `count` digits of the number n: they are fewer than nine, and no zero stands alone
abbrev pub MayFollow : (n count : ℕ) → Type 0
MayFollow n count = 0 < count → (0 < n) × (count < 9)

-- l begins with a number and a line feed behind it: its number, and how many digits it has
pub record NumberRead (l : List ℕ) (f : Figures) : Type 0 where
  pub within : f.count < length l
  pub feed : get_or l f.count 0 ≡ 10
  pub reads : number (take f.count l) ≡ some f.number

-- the number n stands from `start` to `end`, and a line feed behind it
pub record NumberAt (input : List ℕ) (start n end : ℕ) : Type 0 where
  pub onward : start ≤ end
  pub short : end ≤ start + 9
  pub within : end < length input
  pub feed : get_or input end 0 ≡ 10
  pub digits : decimal_from 0 (between input start end) ≡ some n
  pub reads : number (between input start end) ≡ some n

-- a line from `from` to the line feed at `to` that the general reader reads as `deliver n`
pub record DeliverAt (input : List ℕ) (from n to : ℕ) : Type 0 where
  pub onward : from ≤ to
  pub within : to < length input
  pub plain : NoFeed (between input from to)
  pub feed : get_or input to 0 ≡ 10
  pub reads : parse (between input from to) ≡ some (deliver n)

-- that line, with the place behind its line feed
pub record DeliverRead (input : List ℕ) (from : ℕ) (r : Quick) : Type 0 where
  pub to : ℕ
  pub next : r.next ≡ to + 1
  pub at : DeliverAt input from r.number to
