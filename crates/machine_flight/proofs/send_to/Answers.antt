-- `machine_flight::send_to` meets its contract: the server is the sender or another.
use mathlib.Core.Path.{sym, ap, ◌∙◌}
use native.Mathlib.Omega.{arith}
use Rattle.blocks.specs.Blocks.{block}
use Rattle.memory.specs.Layout.{content_size}
use Rattle.memory_regions.specs.Regions.{regions}
use Rattle.memory_regions.specs.Contents.{contents}
use Rattle.views.specs.Arrays.{memory_of}
use Rattle.views.specs.Queue.{appended}
use Rattle.machine_flight.specs.Flown.{flight_of, with_flight}
use Rattle.machine_flight.proofs.Sends.{appended_is, sent_self, sent_other}
use borrow.Author.Rules.{rules}
use Rattle.machine_flight.proofs.send_to.Goals as goal

pub returns-then-receiver-message : goal.returns-then-receiver-message
returns-then-receiver-message c =
    let v = block content_size c.args.content c.args.bytes.now in
    let m = memory_of (regions c.args.words.now) (contents c.args.bytes.now) in
    let e = sym (sent_self v c.args.message (flight_of m c.args.count) c.args.receiver c.if-receiver-message.true) in
    record { is = ap (with_flight m) e; count = ap (λ x. x.count) e; few = c.requires.1.0 }

pub append_message-requires : goal.append_message-requires
append_message-requires c =
    let h = c.requires.1.1 c.if-receiver-message.false in
    search rules

pub returns : goal.returns
unfolding appended
returns c =
    let v = block content_size c.args.content c.args.bytes.now in
    let m = memory_of (regions c.args.words.now) (contents c.args.bytes.now) in
    let e = sym (sent_other v c.args.message (flight_of m c.args.count) c.args.receiver c.if-receiver-message.false) in
    let h = c.requires.1.1 c.if-receiver-message.false in
    record {
      is =
          appended_is _ _ c.args.count _ v _ _ c.append_message.ensures
          ∙ ap (λ y. with_flight m (appended v y (flight_of m c.args.count))) c.message_to.ensures
          ∙ ap (with_flight m) e;
      count = ap (λ x. x.count) e;
      few = omega arith;
    }
