use Rattle.std.proofs.Common.{arith}
use Rattle.workload.proofs.MadeRuns.{HasRoom-list}
use Rattle.workload.proofs.summing.count_replies.Goals as goal

pub count_list-requires : goal.count_list-requires
count_list-requires c =
    let told = c.args.told.now in
    let room = HasRoom-list told c.loop-list.list-index c.list-item.result (omega arith) c.list-item.is c.requires in
    rw (c.loop-list.invariant, c.entries.ensures) room
