-- A script line from its bytes (RULES, Lines 2 to 7). What is not of the forms there is none: refusal 1.
use Rattle.std.specs.Prelude.{List, [], ◌∷◌, reverse, true, false, ℕ, ◌+◌, ◌-◌, ◌*◌, ltb, leb, eqb, length}
use Rattle.std.proofs.Math.Option.{Option, none, some}
use Rattle.table.specs.Form.{same_bytes}
use Rattle.model.specs.Measures.{max_line_bytes}
use Rattle.model.specs.Calls.{get, set, setif, del, keys}
use Rattle.model.specs.Lines.{Line, cluster, elect, call, deliver, copy, lose, timeout, stop, cut, start}
use Rattle.model.specs.Text.{bytes}

-- ---- words: one space between them. An empty word stands for a space too many, and fits no form

-- `w` is what has been read of the present word, its last byte first
unfoldable pub words_from : List ℕ → List ℕ → List (List ℕ)
words_from w [] = reverse w ∷ []
words_from w (b ∷ l) = elim (eqb b 32) [ true ↦ reverse w ∷ words_from [] l | false ↦ words_from (b ∷ w) l ]

unfoldable pub words : List ℕ → List (List ℕ)
words l = words_from [] l

-- ---- numbers: decimal, 1 to 9 digits, no needless leading zero

unfoldable pub digit : ℕ → Option ℕ
digit b = elim (ltb b 48) [ true ↦ none | false ↦ elim (ltb b 58) [ true ↦ some (b - 48) | false ↦ none ] ]

-- the number with the digits read so far, and those of l
unfoldable pub decimal_from : ℕ → List ℕ → Option ℕ
decimal_from n [] = some n
decimal_from n (b ∷ l) = elim (digit b) [ none ↦ none | some d ↦ decimal_from (n * 10 + d) l ]

unfoldable pub number : List ℕ → Option ℕ
number [] = none
number (b ∷ []) = digit b
number (b ∷ (c ∷ l)) =
    elim (eqb b 48) [
      | true ↦ none
      | false ↦
          elim (leb (length l) 7) [ false ↦ none | true ↦ decimal_from 0 (b ∷ (c ∷ l)) ]
    ]

-- ---- keys and values: pairs of lower-case hexadecimal digits

unfoldable pub hex_digit : ℕ → Option ℕ
hex_digit b =
    elim (digit b) [
      | some d ↦ some d
      | none ↦
          elim (ltb b 97) [ true ↦ none | false ↦ elim (ltb b 103) [ true ↦ some (b - 87) | false ↦ none ] ]
    ]

unfoldable pub pairs : List ℕ → Option (List ℕ)
pairs [] = some []
pairs (a ∷ []) = none
pairs (a ∷ (b ∷ l)) =
    elim (hex_digit a) [
      | none ↦ none
      | some x ↦
          elim (hex_digit b) [
            | none ↦ none
            | some y ↦
                elim (pairs l) [ none ↦ none | some r ↦ some ((x * 16 + y) ∷ r) ]
          ]
    ]

-- a key: `-` is one of no bytes, well formed and then out of range
unfoldable pub hexadecimal : List ℕ → Option (List ℕ)
hexadecimal [] = none
hexadecimal (b ∷ l) = elim (same_bytes (b ∷ l) (bytes "-")) [ true ↦ some [] | false ↦ pairs (b ∷ l) ]

-- a value: `-` is none, `.` is one of no bytes
unfoldable pub item : List ℕ → Option (Option (List ℕ))
item [] = none
item (b ∷ l) =
    elim (same_bytes (b ∷ l) (bytes "-")) [
      | true ↦ some none
      | false ↦
          elim (same_bytes (b ∷ l) (bytes ".")) [
            | true ↦ some (some [])
            | false ↦
                elim (pairs (b ∷ l)) [ none ↦ none | some v ↦ some (some v) ]
          ]
    ]

-- ---- lines

-- a line made of one to four things that were read
unfoldable pub made : {A : Type 0} → (A → Line) → Option A → Option Line
made f none = none
made f (some a) = some (f a)

unfoldable pub made2 : {A B : Type 0} → (A → B → Line) → Option A → Option B → Option Line
made2 f none y = none
made2 f (some a) y = made (f a) y

unfoldable pub made3 : {A B C : Type 0} → (A → B → C → Line) → Option A → Option B → Option C → Option Line
made3 f none y z = none
made3 f (some a) y z = made2 (f a) y z

unfoldable pub made4 : {A B C D : Type 0} → (A → B → C → D → Line) → Option A → Option B → Option C → Option D → Option Line
made4 f none y z u = none
made4 f (some a) y z u = made3 (f a) y z u

-- a line with one argument, by its first word; then with two, three and four
unfoldable pub line_of1 : List ℕ → List ℕ → Option Line
line_of1 w a =
    elim (same_bytes w (bytes "elect")) [
      | true ↦ made elect (number a)
      | false ↦
          elim (same_bytes w (bytes "deliver")) [
            | true ↦ made deliver (number a)
            | false ↦
                elim (same_bytes w (bytes "copy")) [
                  | true ↦ made copy (number a)
                  | false ↦
                      elim (same_bytes w (bytes "lose")) [
                        | true ↦ made lose (number a)
                        | false ↦
                            elim (same_bytes w (bytes "stop")) [
                              | true ↦ made stop (number a)
                              | false ↦
                                  elim (same_bytes w (bytes "start")) [ true ↦ made start (number a) | false ↦ none ]
                            ]
                      ]
                ]
          ]
    ]

unfoldable pub line_of2 : List ℕ → List ℕ → List ℕ → Option Line
line_of2 w a b =
    elim (same_bytes w (bytes "cluster")) [
      | true ↦ made2 cluster (number a) (number b)
      | false ↦
          elim (same_bytes w (bytes "get")) [
            | true ↦ made2 (λ s k. call s (get k)) (number a) (hexadecimal b)
            | false ↦
                elim (same_bytes w (bytes "del")) [
                  | true ↦ made2 (λ s k. call s (del k)) (number a) (hexadecimal b)
                  | false ↦
                      elim (same_bytes w (bytes "keys")) [
                        | true ↦ made2 (λ s n. call s (keys n)) (number a) (number b)
                        | false ↦
                            elim (same_bytes w (bytes "timeout")) [
                              | true ↦ made2 timeout (number a) (number b)
                              | false ↦
                                  elim (same_bytes w (bytes "cut")) [ true ↦ made2 cut (number a) (number b) | false ↦ none ]
                            ]
                      ]
                ]
          ]
    ]

unfoldable pub line_of3 : List ℕ → List ℕ → List ℕ → List ℕ → Option Line
line_of3 w a b c =
    elim (same_bytes w (bytes "set")) [
      | true ↦ made3 (λ s k v. call s (set k v)) (number a) (hexadecimal b) (item c)
      | false ↦ none
    ]

unfoldable pub line_of4 : List ℕ → List ℕ → List ℕ → List ℕ → List ℕ → Option Line
line_of4 w a b c d =
    elim (same_bytes w (bytes "setif")) [
      | true ↦ made4 (λ s k e v. call s (setif k e v)) (number a) (hexadecimal b) (item c) (item d)
      | false ↦ none
    ]

unfoldable pub line_of : List (List ℕ) → Option Line
line_of [] = none
line_of (w ∷ []) = none
line_of (w ∷ (a ∷ [])) = line_of1 w a
line_of (w ∷ (a ∷ (b ∷ []))) = line_of2 w a b
line_of (w ∷ (a ∷ (b ∷ (c ∷ [])))) = line_of3 w a b c
line_of (w ∷ (a ∷ (b ∷ (c ∷ (d ∷ []))))) = line_of4 w a b c d
line_of (w ∷ (a ∷ (b ∷ (c ∷ (d ∷ (e ∷ r)))))) = none

-- at most 120 bytes
unfoldable pub parse : List ℕ → Option Line
unfolding bytes words_from words digit decimal_from number hex_digit pairs hexadecimal item made made2 made3 made4 line_of1 line_of2 line_of3 line_of4 line_of
parse l = elim (leb (length l) max_line_bytes) [ true ↦ line_of (words l) | false ↦ none ]
