-- Lines at their end.
use mathlib.Core.Path.{◌≡◌, refl, sym, ap, subst}
use mathlib.Core.List.{List}
use Prim.Native.Nat.{ℕ, ◌+◌, ◌≤◌}
use Rattle.model.specs.Measures.{most_answers}
use Rattle.model.specs.Parse.{parse}
use Rattle.parse.specs.Meaning.{parsed}
use Rattle.parse.specs.declared.Line.{Line}
use Rattle.views.specs.Memory.{Memory}
use Rattle.runs.specs.declared.Tally.{Tally}
use Rattle.machine.specs.declared.Stepped.{Stepped}
use Rattle.machine.specs.Meaning.{Performed}
use Rattle.progress.specs.declared.Ending.{Ending}
use Rattle.progress.specs.declared.Progress.{Progress}
use Rattle.lines.specs.Sessions.{Held, session, ended_line, held_after}
use Rattle.lines.specs.Lines.{LineRun, LineTold}
use Rattle.output.proofs.Answered.{Few, answers_at_most}

-- a line has at most eight answers
pub few_answers : {m : Memory} {l : List ℕ} {t : Tally} {x : Line} {m' : Memory} {l' : List ℕ} {r : Stepped} → Performed m l t x m' l' r → Few r.report
few_answers {m} {l} {x = x} k = subst Few (sym (ap (λ y. y.told) k.leaves.is)) (answers_at_most m l x k.leaves.effect)

-- a line that was read from the bytes l, and what was held before them
pub line_told : (m : Memory) (l : List ℕ) (h : Held) (bytes : List ℕ) (x : Line) (m' : Memory) (l' : List ℕ) (h' : Held) (out out' : List ℕ) (p : Progress) (r : Ending)
    → LineRun m l x m' l' out out' p r → x ≡ parsed (parse (ended_line h bytes)) → h' ≡ held_after h bytes
    → LineTold (session m l p.tally p.lines h) bytes (session m' l' r.tally (p.lines + 1) h') out p.written out' r.written
line_told m l h bytes x m' l' h' out out' p r k e f =
    record {
      text = _;
      ends =
          record {
            told = k.step;
            performs = rw (← e) k.performs;
            counted = k.counted;
            next = refl;
            clear = f;
            printed = refl;
          };
      told = k.told;
    }
