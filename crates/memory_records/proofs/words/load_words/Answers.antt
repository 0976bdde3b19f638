-- `words::load_words` meets its contract: its numbers, then its three texts.
use Rattle.memory.specs.Layout.{words_at}
use Rattle.memory_records.proofs.words.load_words.Goals as goal

pub returns : goal.returns
unfolding words_at
returns c =
    rw (
      c.item_from-value.ensures,
      c.item_from-expected.ensures,
      c.text_from-key.ensures,
      c.load_numbers-numbers.ensures,
    )
