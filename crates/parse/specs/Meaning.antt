-- The line by value that reading gives, every byte of it (`parsed`), and what a line by value stands for (`line_in`): of a key or
-- value that is too long the last bytes are lost. No rule can see the difference (`performed` of proofs/Keeping.antt).
use Rattle.std.specs.Prelude.{true, false, if◌then◌else◌, List, [], ℕ, is_some}
use Rattle.std.specs.Option.{unwrap_or}
use Rattle.std.specs.Prelude as O
use Rattle.std.proofs.Math.Option.{Option, none, some}
use Rattle.table.specs.Form.{same_bytes}
use Rattle.model.specs.Text.{bytes}
use Rattle.model.specs.Calls.{Words, get, set, setif, del, keys}
use Rattle.model.specs.Lines.{Line, cluster, elect, call, deliver, copy, lose, timeout, stop, cut, start}
use Rattle.model.specs.Parse.{number, made2}
use Rattle.entries.specs.Decoded.{Key, Item, no_value}
use Rattle.parse.specs.Kept.{key_for, item_for, key_in, given_in}
use Rattle.parse.specs.declared.Kind.{Kind}
use Rattle.parse.specs.declared.Kind.TheVariants as K
use Rattle.parse.specs.declared.Line.{Line as Parsed}

-- the lines of two numbers behind their first word: a server and a bucket, or a message and how many stores
unfoldable pub two_numbers_line : List ℕ → List ℕ → List ℕ → Option Line
two_numbers_line w a b =
    elim (same_bytes w (bytes "keys")) [
      | true ↦ made2 (λ s n. call s (keys n)) (number a) (number b)
      | false ↦
          elim (same_bytes w (bytes "timeout")) [
            | true ↦ made2 timeout (number a) (number b)
            | false ↦
                elim (same_bytes w (bytes "cut")) [ true ↦ made2 cut (number a) (number b) | false ↦ none ]
          ]
    ]

-- the line of a kind with its numbers, key, expected value and value; what the kind does not use is not looked at
unfoldable pub line_for : Kind → ℕ → ℕ → List ℕ → Option (List ℕ) → Option (List ℕ) → Option Line
line_for K.Malformed a b k e v = none
line_for K.Cluster a b k e v = some (cluster a b)
line_for K.Elect a b k e v = some (elect a)
line_for K.Get a b k e v = some (call a (get k))
line_for K.Set a b k e v = some (call a (set k v))
line_for K.SetIf a b k e v = some (call a (setif k e v))
line_for K.Del a b k e v = some (call a (del k))
line_for K.Keys a b k e v = some (call a (keys b))
line_for K.Deliver a b k e v = some (deliver a)
line_for K.Copy a b k e v = some (copy a)
line_for K.Lose a b k e v = some (lose a)
line_for K.Timeout a b k e v = some (timeout a b)
line_for K.Stop a b k e v = some (stop a)
line_for K.Cut a b k e v = some (cut a b)
line_for K.Start a b k e v = some (start a)

-- the expected value and the new value of a line that was read
abbrev pub expected_item : Parsed → Item
expected_item r = if r.has_expected then O.Some r.expected else O.None

abbrev pub new_item : Parsed → Item
new_item r = if r.has_value then O.Some r.value else O.None

unfoldable pub line_in : Parsed → Option Line
line_in r = line_for r.kind r.first r.second (key_in r.key) (given_in (expected_item r)) (given_in (new_item r))

-- ---- the line by value that reading gives

-- the line of a kind with its numbers, key, expected value and value
abbrev pub line_of_parts : Kind → ℕ → ℕ → Key → Item → Item → Parsed
line_of_parts c a b k e v =
    record {
      key = k;
      expected = unwrap_or e no_value;
      value = unwrap_or v no_value;
      first = a;
      second = b;
      kind = c;
      has_expected = is_some e;
      has_value = is_some v;
    }

abbrev pub line_with : Kind → ℕ → ℕ → List ℕ → Option (List ℕ) → Option (List ℕ) → Parsed
line_with c a b k e v = line_of_parts c a b (key_for k) (item_for e) (item_for v)

-- what a line does not have is zeros: a number, a key of no bytes, an absent value
abbrev pub line_with_numbers : Kind → ℕ → ℕ → Parsed
line_with_numbers c a b = line_with c a b [] none none

unfoldable pub parsed_call : ℕ → Words → Parsed
parsed_call s (get k) = line_with K.Get s 0 k none none
parsed_call s (set k v) = line_with K.Set s 0 k none v
parsed_call s (setif k e v) = line_with K.SetIf s 0 k e v
parsed_call s (del k) = line_with K.Del s 0 k none none
parsed_call s (keys b) = line_with_numbers K.Keys s b

unfoldable pub parsed_line : Line → Parsed
parsed_line (cluster n b) = line_with_numbers K.Cluster n b
parsed_line (elect s) = line_with_numbers K.Elect s 0
parsed_line (call s w) = parsed_call s w
parsed_line (deliver i) = line_with_numbers K.Deliver i 0
parsed_line (copy i) = line_with_numbers K.Copy i 0
parsed_line (lose i) = line_with_numbers K.Lose i 0
parsed_line (timeout s b) = line_with_numbers K.Timeout s b
parsed_line (stop s) = line_with_numbers K.Stop s 0
parsed_line (cut i k) = line_with_numbers K.Cut i k
parsed_line (start s) = line_with_numbers K.Start s 0

unfoldable pub parsed : Option Line → Parsed
parsed none = line_with_numbers K.Malformed 0 0
parsed (some l) = parsed_line l

-- ---- a line of one or two numbers, or of a number, a key and two values, where all of them could be read

unfoldable pub number_for : Kind → Option ℕ → O.Option Parsed
number_for c none = O.None
number_for c (some a) = O.Some (line_with_numbers c a 0)

unfoldable pub numbers_for : Kind → Option ℕ → Option ℕ → O.Option Parsed
numbers_for c none y = O.None
numbers_for c (some a) none = O.None
numbers_for c (some a) (some b) = O.Some (line_with_numbers c a b)

unfoldable pub call_for : Kind → Option ℕ → Option (List ℕ) → Option (Option (List ℕ)) → Option (Option (List ℕ)) → O.Option Parsed
call_for c none k e v = O.None
call_for c (some s) none e v = O.None
call_for c (some s) (some k) none v = O.None
call_for c (some s) (some k) (some e) none = O.None
call_for c (some s) (some k) (some e) (some v) = O.Some (line_with c s 0 k e v)
