-- `flight::send_all` meets its contract: server by server, and the count of those sent so far leaves room.
use mathlib.Core.Path.{◌≡◌, refl, sym, ap, ◌∙◌}
use native.Mathlib.Omega.{arith}
use Rattle.blocks.specs.Blocks.{block}
use Rattle.memory.specs.Layout.{content_size}
use Rattle.views.specs.Queue.{flight, sent_to, spread}
use Rattle.flight.proofs.Sends.{spread_next, spread_room}
use Rattle.flight.proofs.send_all.Goals as goal

pub loop-receiver-init : goal.loop-receiver-init
unfolding spread
loop-receiver-init c = (refl, omega arith)

pub send_to-sent-requires : goal.send_to-sent-requires
send_to-sent-requires c =
    let e = ap (λ x. x.count) c.loop-receiver.invariant.0 in
    let room = spread_room (block content_size c.args.slot c.args.working.now) c.args.message (flight c.args.queue.now c.args.payloads.now c.args.count) c.loop-receiver.receiver c.args.servers in
    (omega arith, (omega arith, λ o. omega (arith, e, room o (omega arith) (omega arith) (omega arith))))

pub loop-receiver-preserved : goal.loop-receiver-preserved
loop-receiver-preserved c =
    let v = block content_size c.args.slot c.args.working.now in (
      c.send_to-sent.ensures.is ∙ ap (sent_to v c.args.message c.loop-receiver.receiver) c.loop-receiver.invariant.0 ∙ sym (spread_next v c.args.message (flight c.args.queue.now c.args.payloads.now c.args.count) c.loop-receiver.receiver),
      c.send_to-sent.ensures.few,
    )

pub returns : goal.returns
returns c =
    let e : c.loop-receiver.receiver ≡ c.args.servers = omega arith in
    record {
      is = c.loop-receiver.invariant.0 ∙ ap (λ q. spread (block content_size c.args.slot c.args.working.now) c.args.message q (flight c.args.queue.now c.args.payloads.now c.args.count)) e;
      few = c.loop-receiver.invariant.1;
    }
