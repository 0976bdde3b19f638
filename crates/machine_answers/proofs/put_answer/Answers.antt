-- `machine_answers::put_answer` meets its contract: word by word.
use mathlib.Core.Path.{refl}
use Rattle.views.specs.Changes.{put_answer}
use Rattle.machine_answers.proofs.put_answer.Goals as goal

pub returns : goal.returns
unfolding put_answer
returns c = refl
