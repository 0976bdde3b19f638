-- `words::store_words` meets its contract: the numbers, then the texts.
use Rattle.memory.specs.Layout.{put_words, put_numbers}
use Rattle.records.proofs.words.store_words.Goals as goal

pub returns : goal.returns
unfolding put_words put_numbers
returns c = (rw (c.numbers_stores.ensures, c.numbers_in-numbers.ensures), c.store_texts.ensures)
