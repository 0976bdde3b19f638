-- `other_lines::put_tally` meets its contract.
use native.Mathlib.Omega.{arith}
use mathlib.Core.List.{◌++◌}
use lib.ListN.{length-append}
use Rattle.model.specs.Text.{bytes}
use Rattle.model.specs.Print.{decimal}
use Rattle.print.proofs.Printing.{fits_second, both}
use Rattle.print.proofs.Texts.{tally_text_lem}
use Rattle.print.proofs.other_lines.put_tally.Goals as goal

pub put_number-after_sent-requires : goal.put_number-after_sent-requires
unfolding bytes
put_number-after_sent-requires c =
    omega (arith, (rw (tally_text_lem (record { sent = c.args.sent; copied = c.args.copied; delivered = c.args.delivered; lost = c.args.lost; count_in_flight = c.args.in_flight })) at (c.requires)), length-append (bytes "messages " ++ decimal c.args.sent) (((bytes " " ++ decimal c.args.copied) ++ (bytes " " ++ decimal c.args.delivered)) ++ ((bytes " " ++ decimal c.args.lost) ++ ((bytes " " ++ decimal c.args.in_flight) ++ bytes "\n"))))

pub put_two-after_delivered-requires : goal.put_two-after_delivered-requires
unfolding bytes
put_two-after_delivered-requires c =
    omega (arith, fits_second (bytes "messages " ++ decimal c.args.sent) (((bytes " " ++ decimal c.args.copied) ++ (bytes " " ++ decimal c.args.delivered)) ++ ((bytes " " ++ decimal c.args.lost) ++ ((bytes " " ++ decimal c.args.in_flight) ++ bytes "\n"))) ((rw (tally_text_lem (record { sent = c.args.sent; copied = c.args.copied; delivered = c.args.delivered; lost = c.args.lost; count_in_flight = c.args.in_flight })) at (c.requires))) c.put_number-after_sent.ensures, length-append ((bytes " " ++ decimal c.args.copied) ++ (bytes " " ++ decimal c.args.delivered)) ((bytes " " ++ decimal c.args.lost) ++ ((bytes " " ++ decimal c.args.in_flight) ++ bytes "\n")))

pub put_last_two-requires : goal.put_last_two-requires
unfolding bytes
put_last_two-requires c =
    fits_second ((bytes " " ++ decimal c.args.copied) ++ (bytes " " ++ decimal c.args.delivered)) ((bytes " " ++ decimal c.args.lost) ++ ((bytes " " ++ decimal c.args.in_flight) ++ bytes "\n")) (fits_second (bytes "messages " ++ decimal c.args.sent) (((bytes " " ++ decimal c.args.copied) ++ (bytes " " ++ decimal c.args.delivered)) ++ ((bytes " " ++ decimal c.args.lost) ++ ((bytes " " ++ decimal c.args.in_flight) ++ bytes "\n"))) ((rw (tally_text_lem (record { sent = c.args.sent; copied = c.args.copied; delivered = c.args.delivered; lost = c.args.lost; count_in_flight = c.args.in_flight })) at (c.requires))) c.put_number-after_sent.ensures) c.put_two-after_delivered.ensures

pub returns : goal.returns
unfolding bytes
returns c =
    rw (tally_text_lem (record { sent = c.args.sent; copied = c.args.copied; delivered = c.args.delivered; lost = c.args.lost; count_in_flight = c.args.in_flight })) (both (bytes "messages " ++ decimal c.args.sent) (((bytes " " ++ decimal c.args.copied) ++ (bytes " " ++ decimal c.args.delivered)) ++ ((bytes " " ++ decimal c.args.lost) ++ ((bytes " " ++ decimal c.args.in_flight) ++ bytes "\n"))) ((rw (tally_text_lem (record { sent = c.args.sent; copied = c.args.copied; delivered = c.args.delivered; lost = c.args.lost; count_in_flight = c.args.in_flight })) at (c.requires))) c.put_number-after_sent.ensures (both ((bytes " " ++ decimal c.args.copied) ++ (bytes " " ++ decimal c.args.delivered)) ((bytes " " ++ decimal c.args.lost) ++ ((bytes " " ++ decimal c.args.in_flight) ++ bytes "\n")) (fits_second (bytes "messages " ++ decimal c.args.sent) (((bytes " " ++ decimal c.args.copied) ++ (bytes " " ++ decimal c.args.delivered)) ++ ((bytes " " ++ decimal c.args.lost) ++ ((bytes " " ++ decimal c.args.in_flight) ++ bytes "\n"))) ((rw (tally_text_lem (record { sent = c.args.sent; copied = c.args.copied; delivered = c.args.delivered; lost = c.args.lost; count_in_flight = c.args.in_flight })) at (c.requires))) c.put_number-after_sent.ensures) c.put_two-after_delivered.ensures c.put_last_two.ensures))
