-- `trimmed` meets its contract: as many bytes as count are the text.
use Rattle.entries.specs.Decoded.{text_bytes}
use Rattle.entries.proofs.Views.{text_whole}
use Rattle.bucket_calls.proofs.trimmed.Goals as goal

pub returns-clause-is : goal.returns-clause-is
unfolding text_bytes
returns-clause-is g c = text_whole c.args.text c.length.ensures
