-- `put_full` meets its contract: the part from byte 16 on is the bucket writer's.
use mathlib.Core.Path.{◌∙◌}
use Rattle.datagram.specs.Answers.{meant}
use Rattle.datagram.proofs.Answering.{part_done, full_stored}
use Rattle.datagram.proofs.put_full.Goals as goal

pub unwrap-requires : goal.unwrap-requires
unwrap-requires c = part_done _ c.args.out.now c.put_version.new.out _ _ c.requires.0 (c.put_version.auto.out ∙ c.put_front.auto.out) c.requires.1 c.write.ensures

pub returns : goal.returns
unfolding meant
returns c =
    full_stored c.args.datagram c.args.out.now c.put_version.new.out c.write.new.out _ c.requires.0 c.requires.1 (rw (c.put_version.ensures, c.put_front.ensures)) c.write.ensures
