-- `answer_text::put_data` meets its contract.
use Rattle.model.specs.Text.{bytes}
use Rattle.print.proofs.Printing.{printed_none}
use Rattle.print.proofs.Texts.{data_value, data_keys, data_absent, data_none}
use Rattle.print.proofs.answer_text.put_data.Goals as goal

pub put_value-requires : goal.put_value-requires
put_value-requires c = rw (data_value c.args.answer c.in-Value.is) at (c.requires)

pub put_keys-requires : goal.put_keys-requires
put_keys-requires c = rw c.used.ensures.keys (rw (data_keys c.args.answer c.in-Keys.is) at c.requires)

pub put_bytes-requires : goal.put_bytes-requires
unfolding bytes
put_bytes-requires c = rw (data_absent c.args.answer c.in-Absent.is) at (c.requires)

pub returns-in-Value : goal.returns-in-Value
returns-in-Value c = rw (data_value c.args.answer c.in-Value.is) c.put_value.ensures

pub returns-in-Keys : goal.returns-in-Keys
returns-in-Keys c = rw (data_keys c.args.answer c.in-Keys.is, ← c.used.ensures.keys) c.put_keys.ensures

pub returns-in_default : goal.returns-in_default
returns-in_default c = printed_none _ _ (data_none c.args.answer c.in_default.not-Value c.in_default.not-Keys c.in_default.not-Absent)

pub returns-in-Absent : goal.returns-in-Absent
unfolding bytes
returns-in-Absent c = rw (data_absent c.args.answer c.in-Absent.is) c.put_bytes.ensures
