-- `machine_flight::send_all` meets its contract: server by server, and the count of those sent so far leaves room.
use mathlib.Core.Path.{◌≡◌, refl, ap}
use native.Mathlib.Omega.{arith}
use Rattle.blocks.specs.Blocks.{block}
use Rattle.memory.specs.Layout.{content_size}
use Rattle.memory_regions.specs.Regions.{regions}
use Rattle.memory_regions.specs.Contents.{contents}
use Rattle.views.specs.Arrays.{memory_of}
use Rattle.views.specs.Queue.{sent_to, spread}
use Rattle.machine_flight.specs.Flown.{flight_of}
use Rattle.machine_flight.proofs.Sends.{flown_next, content_kept, spread_next, spread_room}
use Rattle.machine_flight.proofs.send_all.Goals as goal

pub loop-receiver-init : goal.loop-receiver-init
unfolding spread
loop-receiver-init c = record { is = refl; count = refl; few = omega arith }

pub send_to-sent-requires : goal.send_to-sent-requires
send_to-sent-requires c =
    let old = memory_of (regions c.args.words.now) (contents c.args.bytes.now) in
    let room = spread_room (block content_size c.args.content c.args.bytes.now) c.args.message (flight_of old c.args.count) c.loop-receiver.receiver c.args.servers in
    (c.requires.0, (c.loop-receiver.invariant.few, λ o. omega (arith, c.loop-receiver.invariant.count, room o (omega arith) (omega arith) (omega arith))))

pub loop-receiver-preserved : goal.loop-receiver-preserved
loop-receiver-preserved c =
    let v = block content_size c.args.content c.args.bytes.now in
    let old = memory_of (regions c.args.words.now) (contents c.args.bytes.now) in
    let m = memory_of (regions c.loop-receiver.words) (contents c.loop-receiver.bytes) in
    let x = flight_of old c.args.count in
    let same = content_kept c.args.bytes.now c.loop-receiver.bytes c.args.content c.requires.0 (ap (λ y. y.copies) c.loop-receiver.invariant.is) (ap (λ y. y.working) c.loop-receiver.invariant.is) in
    rw (spread_next v c.args.message x c.loop-receiver.receiver)
    (flown_next old m _ (spread v c.args.message c.loop-receiver.receiver x) (sent_to v c.args.message c.loop-receiver.receiver) c.loop-receiver.sent _ c.loop-receiver.invariant (rw (← same) c.send_to-sent.ensures))

pub returns : goal.returns
returns c =
    let e : c.loop-receiver.receiver ≡ c.args.servers = omega arith in
    rw (← e) c.loop-receiver.invariant
