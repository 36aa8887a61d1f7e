use Rattle.std.proofs.Common.{rules, arith}
use Rattle.class_hash.proofs.Seats.{class_slots_added, base_more}
use Rattle.class_hash.proofs.table.add_all_slots.Goals as goal

pub loop-room-preserved : goal.loop-room-preserved
loop-room-preserved c =
    let i = c.loop-room.room-index in
    let base = c.loop-room.invariant.1 in
    let more = base_more c.args.capacities.now i (search rules) in
    (class_slots_added c.args.capacities.now i _ _ _ (search rules) (search rules) (search rules) c.loop-room.invariant.0, omega arith)
