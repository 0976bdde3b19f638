-- `answer_list::result_word` meets its contract: each arm is the definition's at that number.
use borrow.Author.Tests.{ne_eqb}
use Rattle.server.specs.Views.{result_in}
use Rattle.print.specs.Answers.{result_for}
use Rattle.output.proofs.answer_list.result_word.Goals as goal

pub returns-in-1 : goal.returns-in-1
unfolding result_for result_in
returns-in-1 c = record { is = λ v t. rw c.in-1.is }

pub returns-in-2 : goal.returns-in-2
unfolding result_for result_in
returns-in-2 c = record { is = λ v t. rw c.in-2.is }

pub returns-in-3 : goal.returns-in-3
unfolding result_for result_in
returns-in-3 c = record { is = λ v t. rw c.in-3.is }

pub returns-in-4 : goal.returns-in-4
unfolding result_for result_in
returns-in-4 c = record { is = λ v t. rw c.in-4.is }

pub returns-in-5 : goal.returns-in-5
unfolding result_for result_in
returns-in-5 c = record { is = λ v t. rw c.in-5.is }

pub returns-in-6 : goal.returns-in-6
unfolding result_for result_in
returns-in-6 c = record { is = λ v t. rw c.in-6.is }

pub returns-in-8 : goal.returns-in-8
unfolding result_for result_in
returns-in-8 c = record { is = λ v t. rw c.in-8.is }

pub returns-in_default : goal.returns-in_default
unfolding result_for result_in
returns-in_default c =
    record {
      is = λ v t. rw (result_in, ne_eqb _ _ c.in_default.in_default-own.rest.0.0.0.0.0.0.1, ne_eqb _ _ c.in_default.in_default-own.rest.0.0.0.0.0.1, ne_eqb _ _ c.in_default.in_default-own.rest.0.0.0.0.1, ne_eqb _ _ c.in_default.in_default-own.rest.0.0.0.1, ne_eqb _ _ c.in_default.in_default-own.rest.0.0.1, ne_eqb _ _ c.in_default.in_default-own.rest.0.1, ne_eqb _ _ c.in_default.in_default-own.rest.1);
    }
