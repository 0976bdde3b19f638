-- `shapes::call_line` meets its contract.
use mathlib.Core.Path.{refl, ◌∙◌}
use mathlib.Core.Logic.{inl, inr}
use Rattle.parse.proofs.Forms.{call_reads, no_call}
use Rattle.parse.proofs.shapes.call_line.Goals as goal

pub returns-in_err-number : goal.returns-in_err-number
returns-in_err-number c = c.from_residual.ensures ∙ no_call _ _ _ _ _ _ refl (inl c.in_err-number.ensures)

pub returns-in_err-key : goal.returns-in_err-key
returns-in_err-key c = c.from_residual-in_err-key.ensures ∙ no_call _ _ _ _ _ _ refl (inr (inl c.in_err-key.ensures))

pub returns-in_err-item : goal.returns-in_err-item
returns-in_err-item c = c.from_residual-in_err-item.ensures ∙ no_call _ _ _ _ _ _ refl (inr (inr (inl c.in_err-item.ensures)))

pub returns-in_err-item-2 : goal.returns-in_err-item-2
returns-in_err-item-2 c = c.from_residual-in_err-item-2.ensures ∙ no_call _ _ _ _ _ _ refl (inr (inr (inr c.in_err-item-2.ensures)))

pub returns : goal.returns
returns c = rw c.of_words.ensures (call_reads _ _ _ _ _ c.in_ok-number.ensures c.in_ok-key.ensures c.in_ok-item.ensures c.in_ok-item-2.ensures)
