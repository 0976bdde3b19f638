-- `machine_carrying::change_flight` meets its contract: first the message leaves, then the others are appended.
use Rattle.memory_regions.specs.Regions.{regions}
use Rattle.memory_regions.specs.Contents.{contents}
use Rattle.views.specs.Arrays.{memory_of}
use Rattle.machine_carrying.proofs.Parts.{room_left, flown_by_lem}
use Rattle.machine_carrying.proofs.change_flight.Goals as goal

pub leave-left-requires : goal.leave-left-requires
leave-left-requires c = c.requires.losable

pub send-requires : goal.send-requires
send-requires c =
    let queue = (regions c.args.words.now).queue in
    let payloads = (contents c.args.bytes.now).payloads in
    record {
      servers = c.requires.servers;
      server = c.requires.server;
      bucket = c.requires.bucket;
      room = room_left c.args.cluster c.args.step.removes c.args.step.index c.args.next.sends queue payloads _ c.leave-left.ensures.count c.requires.room;
    }

pub returns : goal.returns
returns c =
    let m = memory_of (regions c.args.words.now) (contents c.args.bytes.now) in
    flown_by_lem c.args.cluster c.args.step c.args.next m _ _ _ _ c.leave-left.ensures c.send.ensures
