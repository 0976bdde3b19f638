-- `answer_list::load_answer` meets its contract: what its callee reads, by its name.
use Rattle.views.specs.Changes.{answer_at}
use Rattle.output.proofs.answer_list.load_answer.Goals as goal

pub returns : goal.returns
unfolding answer_at
returns c = c.answer_fields.ensures
