-- `flight::send_to` meets its contract: the server is the sender or another.
use mathlib.Core.Path.{sym, ap, ◌∙◌}
use native.Mathlib.Omega.{arith}
use Rattle.blocks.specs.Blocks.{block}
use Rattle.memory.specs.Layout.{content_size}
use Rattle.views.specs.Queue.{flight, appended}
use Rattle.flight.proofs.Sends.{appended_is, sent_self, sent_other}
use borrow.Author.Rules.{rules}
use Rattle.flight.proofs.send_to.Goals as goal

pub returns-then-receiver-message : goal.returns-then-receiver-message
returns-then-receiver-message c =
    record {
      is = sym (sent_self (block content_size c.args.slot c.args.working.now) c.args.message (flight c.args.queue.now c.args.payloads.now c.args.count) c.args.receiver c.if-receiver-message.true);
      few = c.requires.1.0;
    }

pub append_message-requires : goal.append_message-requires
append_message-requires c =
    let h = c.requires.1.1 c.if-receiver-message.false in
    search rules

pub returns : goal.returns
returns c =
    let v = block content_size c.args.slot c.args.working.now in
    let x = flight c.args.queue.now c.args.payloads.now c.args.count in
    let h = c.requires.1.1 c.if-receiver-message.false in
    record {
      is =
          appended_is c.args.queue.now c.args.payloads.now c.args.count _ v _ _ c.append_message.ensures
          ∙ ap (λ m. appended v m x) c.message_to.ensures
          ∙ sym (sent_other v c.args.message x c.args.receiver c.if-receiver-message.false);
      few = omega arith;
    }
