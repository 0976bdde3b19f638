-- `parse_line` meets its contract: by its length, and where its first word ends.
use Rattle.parse.proofs.Forms.{parsed_some, parsed_none}
use Rattle.parse.proofs.Splitting.{words_cut, words_whole, parse_short, parse_long, one_word}
use Rattle.parse.proofs.parse_line.Goals as goal

pub returns-then-line-gt-MAX_LINE : goal.returns-then-line-gt-MAX_LINE
returns-then-line-gt-MAX_LINE c = rw (parse_long _ c.if-line-gt-MAX_LINE.true) c.malformed.ensures

pub returns-in_default : goal.returns-in_default
returns-in_default c =
    rw (parse_short _ c.if-line-gt-MAX_LINE.false, ← words_whole _ c.in_default.ensures.is, one_word) c.malformed-in_default.ensures

pub returns-in-Some-with_word : goal.returns-in-Some-with_word
returns-in-Some-with_word c =
    parsed_some _ (rw (words_cut _ c.in-Some.ensures.is, ← parse_short _ c.if-line-gt-MAX_LINE.false) at (c.in-Some-with_word.ensures))

pub returns : goal.returns
returns c =
    parsed_none _ (rw (words_cut _ c.in-Some.ensures.is, ← parse_short _ c.if-line-gt-MAX_LINE.false) at (c.in_default-with_word.ensures)) c.malformed-2.ensures
