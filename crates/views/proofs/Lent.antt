-- The struct of the lent arrays still holds the same ones after two functions, one after the other.
use mathlib.Core.Path.{◌∙◌}
use Rattle.memory.specs.declared.Arrays.{Arrays}
use Rattle.views.specs.Lent.{SameNames}

pub same_on : {x y z : Arrays} → SameNames x y → SameNames y z → SameNames x z
same_on f g = record {
  counts = g.counts ∙ f.counts;
  heads = g.heads ∙ f.heads;
  slots = g.slots ∙ f.slots;
  copies = g.copies ∙ f.copies;
  working = g.working ∙ f.working;
  texts = g.texts ∙ f.texts;
  queue = g.queue ∙ f.queue;
  payloads = g.payloads ∙ f.payloads;
  answers = g.answers ∙ f.answers;
}
