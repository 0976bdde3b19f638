-- `words::store_words` meets its contract: the numbers, then the texts.
use Prim.Native.Nat.{◌*◌}
use Rattle.memory.specs.Layout.{slot_size, numbers_place, numbers_row, numbers_in, put_words, put_numbers}
use Rattle.memory_regions.proofs.Regions.{slots_stored}
use borrow.Author.Rules.{rules}
use Rattle.memory_records.proofs.words.store_words.Goals as goal

pub returns : goal.returns
unfolding put_words put_numbers
returns c =
    record {
      numbers = rw (c.numbers_stores.ensures, c.numbers_in-numbers.ensures) (slots_stored c.args.words.now (numbers_row (numbers_in c.args.call)) (c.args.slot * slot_size) numbers_place (search rules));
      texts = c.store_texts.ensures;
    }
