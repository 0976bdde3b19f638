-- What the public calls wrote is that of lines whose calls have one order: `calls_in_order` and `script_in_order`.
use mathlib.Core.Path.{◌≡◌, sym, ap, ◌∙◌}
use mathlib.Core.List.{List, ◌++◌, append_cancel_right}
use Prim.Native.Nat.{ℕ}
use Rattle.model.specs.Lines.{State, initial_state}
use Rattle.model.specs.Print.{tally_text}
use Rattle.model.specs.Run.{lines_of, outcomes, state_after}
use Rattle.limits.specs.Prints.{outcome_texts}
use Rattle.limits.proofs.Prints.{printed_outcomes, run_prints}
use Rattle.consistency.proofs.Theorem.{one_order_for_every_script}
use Rattle.input.specs.Reading.{start, fed_text, complete_lines}
use Rattle.input.proofs.Complete.{printed_so_far, state_so_far}
use Rattle.feed.proofs.Whole.{calls_from_zeros, script_whole}
use Rattle.printed_order.specs.Statement.{CallsInOrder, ScriptInOrder}

-- what has been printed of a script, without the tally
texts_so_far : (script : List ℕ) → fed_text start script ≡ outcome_texts 1 (outcomes initial_state (complete_lines script))
texts_so_far script =
    append_cancel_right _ _ (tally_text (state_after initial_state (complete_lines script)).tally)
    (ap (λ (s : State). fed_text start script ++ tally_text s.tally) (sym (state_so_far script)) ∙ printed_so_far script ∙ printed_outcomes 1 initial_state (complete_lines script))

pub calls_in_order : CallsInOrder
calls_in_order heads slots copies working texts queue payloads answers line script text v c =
    record {
      prints = sym (calls_from_zeros heads slots copies working texts queue payloads answers line c).prints ∙ texts_so_far script;
      orders = one_order_for_every_script (complete_lines script);
    }

pub script_in_order : ScriptInOrder
script_in_order heads slots copies working texts queue payloads answers line script text v c out u out' r room f =
    record {
      prints = (script_whole heads slots copies working texts queue payloads answers line c out u out' r room f).prints ∙ run_prints script;
      orders = one_order_for_every_script (lines_of script);
    }
