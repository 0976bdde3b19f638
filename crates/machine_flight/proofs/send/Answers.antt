-- `machine_flight::send` meets its contract: nothing, a broadcast or a reply, by the kind.
use mathlib.Core.Path.{sym, ap, ◌∙◌}
use native.Mathlib.Omega.{arith}
use Prim.Native.Nat.{◌+◌}
use Rattle.blocks.specs.Blocks.{block}
use Rattle.memory.specs.Layout.{slot_of, content_size}
use Rattle.memory_regions.specs.Regions.{regions}
use Rattle.memory_regions.specs.Contents.{contents, first_copy, first_working, copy_of, working_of}
use Rattle.memory_regions.proofs.Contents.{copy_read, working_read}
use Rattle.views.specs.Arrays.{memory_of}
use Rattle.views.specs.Queue.{appended, spread}
use Rattle.machine_flight.specs.Flown.{flight_of, with_flight}
use Rattle.machine_flight.proofs.Sends.{appended_is, flown_as, sends_nothing, sends_all, sends_reply, count_all, count_reply_lem}
use Rattle.machine_flight.proofs.send.Goals as goal

pub returns-then-next-eq-NO_MESSAGE : goal.returns-then-next-eq-NO_MESSAGE
returns-then-next-eq-NO_MESSAGE c =
    let m = memory_of (regions c.args.words.now) (contents c.args.bytes.now) in
    let x = flight_of m c.args.count in
    let k = slot_of c.args.step.server c.args.step.bucket in
    let e = sym (sends_nothing c.args.cluster.servers c.args.step.server c.args.step.bucket k c.args.step.asked c.args.next m.working m.copies x c.if-next-eq-NO_MESSAGE.true) in
    record { is = ap (with_flight m) e; count = ap (λ y. y.count) e; few = omega (arith, c.requires.room) }

pub send_all-requires : goal.send_all-requires
send_all-requires c =
    let s = ap (λ m. m.sender) c.broadcast_of-message.ensures in
    let n = count_all c.args.cluster.servers c.args.next.sends c.if-next-eq-NO_MESSAGE.false (sym c.is_broadcast.ensures ∙ c.if-is_broadcast.true) in
    (omega (arith, c.slot_of-slot.ensures), (omega (arith, s, c.requires.server), omega (arith, n, c.requires.room)))

pub returns-then-is_broadcast : goal.returns-then-is_broadcast
returns-then-is_broadcast c =
    let m = memory_of (regions c.args.words.now) (contents c.args.bytes.now) in
    let x = flight_of m c.args.count in
    let k = slot_of c.args.step.server c.args.step.bucket in
    let all = sym c.is_broadcast.ensures ∙ c.if-is_broadcast.true in
    let from = ap (λ j. block content_size (first_working + j) c.args.bytes.now) c.slot_of-slot.ensures ∙ sym (working_read k c.args.bytes.now (omega (arith, c.requires.servers, c.requires.server, c.requires.bucket))) in
    flown_as
    (ap (λ v. spread v c.broadcast_of-message.result c.args.cluster.servers x) from
    ∙ ap (λ y. spread (working_of (contents c.args.bytes.now) k) y c.args.cluster.servers x) c.broadcast_of-message.ensures
    ∙ sym (sends_all c.args.cluster.servers c.args.step.server c.args.step.bucket k c.args.step.asked c.args.next m.working m.copies x c.if-next-eq-NO_MESSAGE.false all))
    c.send_all.ensures

pub append_message-requires : goal.append_message-requires
append_message-requires c =
    let n = count_reply_lem c.args.cluster.servers c.args.next.sends c.if-next-eq-NO_MESSAGE.false (sym c.is_broadcast.ensures ∙ c.if-is_broadcast.false) in
    (omega (arith, n, c.requires.room), omega (arith, c.slot_of-slot.ensures))

pub returns : goal.returns
unfolding appended
returns c =
    let m = memory_of (regions c.args.words.now) (contents c.args.bytes.now) in
    let x = flight_of m c.args.count in
    let k = slot_of c.args.step.server c.args.step.bucket in
    let one = sym c.is_broadcast.ensures ∙ c.if-is_broadcast.false in
    let n = count_reply_lem c.args.cluster.servers c.args.next.sends c.if-next-eq-NO_MESSAGE.false one in
    let from = ap (λ j. block content_size (first_copy + j) c.args.bytes.now) c.slot_of-slot.ensures ∙ sym (copy_read k c.args.bytes.now (omega (arith, c.requires.servers, c.requires.server, c.requires.bucket))) in
    let e =
    ap (λ v. appended v c.reply_of-reply.result x) from
    ∙ ap (λ y. appended (copy_of (contents c.args.bytes.now) k) y x) c.reply_of-reply.ensures
    ∙ sym (sends_reply c.args.cluster.servers c.args.step.server c.args.step.bucket k c.args.step.asked c.args.next m.working m.copies x c.if-next-eq-NO_MESSAGE.false one) in
    record { is = appended_is _ _ c.args.count _ _ _ _ c.append_message.ensures ∙ ap (with_flight m) e; count = ap (λ y. y.count) e; few = omega (arith, n, c.requires.room) }
