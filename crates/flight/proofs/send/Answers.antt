-- `flight::send` meets its contract: nothing, a broadcast or a reply, by the kind.
use mathlib.Core.Path.{sym, ap, ◌∙◌}
use native.Mathlib.Omega.{arith}
use Rattle.blocks.specs.Blocks.{block}
use Rattle.memory.specs.Layout.{content_size}
use Rattle.views.specs.Queue.{flight, appended, spread}
use Rattle.flight.proofs.Sends.{appended_is, sends_all, sends_reply, count_all, count_reply_lem}
use borrow.Author.Rules.{rules}
use Rattle.flight.proofs.send.Goals as goal

pub send_all-requires : goal.send_all-requires
send_all-requires c =
    let s = ap (λ m. m.sender) c.broadcast_of.ensures in
    let n = count_all c.args.servers c.args.next.sends (λ e. omega arith) (sym c.is_broadcast.ensures ∙ c.if-is_broadcast.true) in
    (c.requires.0, (omega (arith, s, c.requires.1.0), omega (arith, n, c.requires.1.1)))

pub returns-then-is_broadcast : goal.returns-then-is_broadcast
returns-then-is_broadcast c =
    let x = flight c.args.queue.now c.args.payloads.now c.args.count in
    let all = sym c.is_broadcast.ensures ∙ c.if-is_broadcast.true in
    record {
      is =
          c.send_all.ensures.is
          ∙ ap (λ m. spread (block content_size c.args.slot c.args.working.now) m c.args.servers x) c.broadcast_of.ensures
          ∙ sym (sends_all c.args.servers c.args.me c.args.bucket c.args.slot c.args.asked c.args.next c.args.working.now c.args.copies.now x (λ e. omega arith) all);
      few = c.send_all.ensures.few;
    }

pub append_message-requires : goal.append_message-requires
append_message-requires c =
    let n = count_reply_lem c.args.servers c.args.next.sends (λ e. omega arith) (sym c.is_broadcast.ensures ∙ c.if-is_broadcast.false) in
    (omega (arith, n, c.requires.1.1), search rules)

pub returns : goal.returns
returns c =
    let v = block content_size c.args.slot c.args.copies.now in
    let x = flight c.args.queue.now c.args.payloads.now c.args.count in
    let one = sym c.is_broadcast.ensures ∙ c.if-is_broadcast.false in
    let n = count_reply_lem c.args.servers c.args.next.sends (λ e. omega arith) one in
    record {
      is =
          appended_is c.args.queue.now c.args.payloads.now c.args.count _ v _ _ c.append_message.ensures
          ∙ ap (λ m. appended v m x) c.reply_of.ensures
          ∙ sym (sends_reply c.args.servers c.args.me c.args.bucket c.args.slot c.args.asked c.args.next c.args.working.now c.args.copies.now x (λ e. omega arith) one);
      few = omega (arith, n, c.requires.1.1);
    }
