-- An answer with its data from what was found: the first item is the value of a `get`, all of them are the keys of `keys`.
use Rattle.std.specs.Prelude.{List, [], ℕ, get_or}
use Rattle.model.specs.Calls.{Result, Answer}
use Rattle.print.specs.declared.ResultWord.{ResultWord}
use Rattle.print.specs.Answers.{result_for}

-- item i, no bytes where there is none
abbrev pub item_of : List (List ℕ) → ℕ → List ℕ
item_of l i = get_or l i []

unfoldable pub result_of : ResultWord → List (List ℕ) → Result
result_of o l = result_for o (item_of l 0) l

unfoldable pub answer_of : ℕ → ResultWord → ℕ → List (List ℕ) → Answer
answer_of call o rounds l = record { call = call; result = result_of o l; rounds = rounds }
