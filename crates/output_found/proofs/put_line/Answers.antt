-- `output_found::put_line` meets its contract: the head, the data and the end of the line.
use native.Mathlib.Omega.{arith}
use mathlib.Core.List.{◌++◌}
use lib.ListN.{length-append}
use Rattle.model.specs.Text.{bytes}
use Rattle.model.specs.Print.{data_of}
use Rattle.memory_found.specs.Found.{found_in}
use Rattle.print.proofs.Printing.{fits_second, both}
use Rattle.output_found.specs.Answers.{result_of}
use Rattle.output_found.proofs.Texts.{head_of, line_text}
use Rattle.output_found.proofs.put_line.Goals as goal

pub put_head-after_head-requires : goal.put_head-after_head-requires
unfolding bytes
put_head-after_head-requires c =
    let head = head_of c.args.call c.args.word c.args.rounds in
    let shown = data_of (result_of c.args.word (found_in c.args.found.now)) in
    let room = rw (line_text c.args.call c.args.word c.args.rounds (found_in c.args.found.now)) at c.requires in
    omega (arith, room, length-append head (shown ++ bytes "\n"))

pub put_data-after_data-requires : goal.put_data-after_data-requires
unfolding bytes
put_data-after_data-requires c =
    let head = head_of c.args.call c.args.word c.args.rounds in
    let shown = data_of (result_of c.args.word (found_in c.args.found.now)) in
    let room = rw (line_text c.args.call c.args.word c.args.rounds (found_in c.args.found.now)) at c.requires in
    omega (arith, fits_second head (shown ++ bytes "\n") room c.put_head-after_head.ensures, length-append shown (bytes "\n"))

pub put_bytes-requires : goal.put_bytes-requires
unfolding bytes
put_bytes-requires c =
    let head = head_of c.args.call c.args.word c.args.rounds in
    let shown = data_of (result_of c.args.word (found_in c.args.found.now)) in
    let room = rw (line_text c.args.call c.args.word c.args.rounds (found_in c.args.found.now)) at c.requires in
    fits_second shown (bytes "\n") (fits_second head (shown ++ bytes "\n") room c.put_head-after_head.ensures) c.put_data-after_data.ensures

pub returns : goal.returns
unfolding bytes
returns c =
    let head = head_of c.args.call c.args.word c.args.rounds in
    let shown = data_of (result_of c.args.word (found_in c.args.found.now)) in
    let room = rw (line_text c.args.call c.args.word c.args.rounds (found_in c.args.found.now)) at c.requires in
    let rest = fits_second head (shown ++ bytes "\n") room c.put_head-after_head.ensures in
    rw (line_text c.args.call c.args.word c.args.rounds (found_in c.args.found.now)) (both head (shown ++ bytes "\n") room c.put_head-after_head.ensures (both shown (bytes "\n") rest c.put_data-after_data.ensures c.put_bytes.ensures))
