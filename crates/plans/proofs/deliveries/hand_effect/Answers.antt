-- `deliveries::hand_effect` meets its contract: the words are those of the slot, and so is the table.
use Rattle.plans.proofs.deliveries.hand_effect.Goals as goal

pub returns : goal.returns
returns c = rw (← c.slot_of-slot.ensures, ← c.load_words-words.ensures) c.effect_of.ensures
