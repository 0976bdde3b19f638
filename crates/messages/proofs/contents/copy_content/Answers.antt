-- `contents::copy_content` meets its contract: what its callee copies, by its name.
use Rattle.memory.specs.Layout.{put_content}
use Rattle.messages.proofs.contents.copy_content.Goals as goal

pub returns : goal.returns
unfolding put_content
returns c = c.copy_block_bytes.ensures
