-- `found_data::put_data` meets its contract: word by word.
use Rattle.model.specs.Text.{bytes}
use Rattle.memory_found.specs.Found.{found_in}
use Rattle.print.proofs.Printing.{printed_none}
use Rattle.output_found.proofs.Texts.{data_value, data_absent, data_keys, data_none}
use Rattle.output_found.proofs.found_data.put_data.Goals as goal

pub put_value-requires : goal.put_value-requires
put_value-requires c = rw (data_value c.args.word (found_in c.args.found.now) c.in-Value.is) at c.requires

pub put_keys-requires : goal.put_keys-requires
put_keys-requires c = rw (data_keys c.args.word (found_in c.args.found.now) c.in-Keys.is) at c.requires

pub put_bytes-requires : goal.put_bytes-requires
unfolding bytes
put_bytes-requires c = rw (data_absent c.args.word (found_in c.args.found.now) c.in-Absent.is) at c.requires

pub returns-in-Value : goal.returns-in-Value
returns-in-Value c = rw (data_value c.args.word (found_in c.args.found.now) c.in-Value.is) c.put_value.ensures

pub returns-in-Keys : goal.returns-in-Keys
returns-in-Keys c = rw (data_keys c.args.word (found_in c.args.found.now) c.in-Keys.is) c.put_keys.ensures

pub returns-in-Absent : goal.returns-in-Absent
unfolding bytes
returns-in-Absent c = rw (data_absent c.args.word (found_in c.args.found.now) c.in-Absent.is) c.put_bytes.ensures

pub returns-in_default : goal.returns-in_default
returns-in_default c = printed_none _ _ (data_none c.args.word (found_in c.args.found.now) c.in_default.not-Value c.in_default.not-Keys c.in_default.not-Absent)
