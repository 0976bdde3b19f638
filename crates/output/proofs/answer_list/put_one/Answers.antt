-- `answer_list::put_one` meets its contract: the answer with its data, within its room.
use mathlib.Core.Path.{◌≡◌}
use Prim.Native.Nat.{◌<◌, ◌≤◌, ◌^◌}
use native.Mathlib.Omega.{arith}
use lib.ListN.{length, length-take}
use Rattle.entries.specs.Decoded.{text_bytes, value_bytes}
use Rattle.output.proofs.Room.{same_answer, one_room}
use borrow.Author.Rules.{rules}
use Rattle.output.proofs.answer_list.put_one.Goals as goal

pub put_answer-requires : goal.put_answer-requires
unfolding text_bytes
put_answer-requires c =
    let h : c.args.answer.call < 2 ^ 32 = search rules in
    let g : c.args.answer.rounds < 2 ^ 32 = search rules in
    let l : length c.args.value.bytes ≡ 16 = search rules in
    let short : length (value_bytes c.args.value) ≤ 16 = omega (arith, length-take c.args.value.len c.args.value.bytes) in
    let room = one_room c.args.answer c.result_word.result c.args.value c.key_list.result h g short c.key_list.ensures.short in
    omega (arith, c.requires, room)

pub returns : goal.returns
unfolding text_bytes
returns c =
    let h : c.args.answer.call < 2 ^ 32 = search rules in
    let g : c.args.answer.rounds < 2 ^ 32 = search rules in
    let l : length c.args.value.bytes ≡ 16 = search rules in
    let short : length (value_bytes c.args.value) ≤ 16 = omega (arith, length-take c.args.value.len c.args.value.bytes) in
    let room = one_room c.args.answer c.result_word.result c.args.value c.key_list.result h g short c.key_list.ensures.short in
    let e = same_answer c.args.answer c.result_word.result c.args.value c.args.table c.key_list.result c.result_word.ensures c.key_list.ensures in
    (rw e at c.put_answer.ensures, omega (arith, room, c.put_answer.ensures.ends))
