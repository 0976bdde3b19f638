-- `output_found::put_found_answer` meets its contract: the line, within its room.
use Prim.Native.Nat.{◌<◌, ◌^◌}
use native.Mathlib.Omega.{arith}
use Rattle.output_found.proofs.Texts.{line_room_lem}
use borrow.Author.Rules.{rules}
use Rattle.output_found.proofs.put_found_answer.Goals as goal

pub put_line-requires : goal.put_line-requires
put_line-requires c =
    let h : c.args.call < 2 ^ 32 = search rules in
    let g : c.args.rounds < 2 ^ 32 = search rules in
    let room = line_room_lem c.args.call c.args.word c.args.rounds c.args.found.now h g (search rules) in
    omega (arith, c.requires, room)

pub returns : goal.returns
returns c =
    let h : c.args.call < 2 ^ 32 = search rules in
    let g : c.args.rounds < 2 ^ 32 = search rules in
    let room = line_room_lem c.args.call c.args.word c.args.rounds c.args.found.now h g (search rules) in
    (c.put_line.ensures, omega (arith, room, c.put_line.ensures.ends))
