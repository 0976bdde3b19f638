-- `answers::end_call` meets its contract: the call is open or not.
use mathlib.Core.Path.{sym, ap, ◌∙◌}
use Prim.Native.Nat.{◌+◌}
use native.Mathlib.Omega.{arith}
use Rattle.server.specs.Views.{among}
use Rattle.open_calls.specs.Calls.{ended_of}
use Rattle.views.specs.Changes.{put_answer}
use Rattle.answers.specs.Answers.{written}
use Rattle.answers.proofs.Ended.{ended_open, ended_none}
use Rattle.answers.proofs.end_call.Goals as goal

pub returns-then-is_open_call : goal.returns-then-is_open_call
returns-then-is_open_call c =
    let t = ap (λ x. among 5 x.kind) c.load_call-call.ensures in
    record {
      is =
          ap (λ x. written x (c.args.count + 1)) (c.put_answer.ensures ∙ ap (put_answer c.args.answers.now c.args.count) (c.ended.ensures.is ∙ ap ended_of c.load_call-call.ensures))
          ∙ ended_open c.args.slots.now c.args.answers.now c.args.slot c.args.count (sym t ∙ sym c.is_open_call.ensures ∙ c.if-is_open_call.true);
      few = omega arith;
    }

pub returns : goal.returns
returns c =
    let t = ap (λ x. among 5 x.kind) c.load_call-call.ensures in
    record {
      is = ended_none c.args.slots.now c.args.answers.now c.args.slot c.args.count (sym t ∙ sym c.is_open_call.ensures ∙ c.if-is_open_call.false);
      few = omega arith;
    }
