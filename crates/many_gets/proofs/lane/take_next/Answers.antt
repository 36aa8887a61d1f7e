use Rattle.std.proofs.Common.{arith}
use Rattle.seat_table.specs.Seats.{shape_of}
use Rattle.many_gets.proofs.Lanes.{quiet_after}
use Rattle.many_gets.proofs.lane.take_next.Goals as goal

pub leave-requires-clause-come : goal.leave-requires-clause-come
leave-requires-clause-come g c = let e = c.requires.come in (c.args.keys.now, e.0, e.2, e.3)

pub enter-requires-clause-quiet : goal.enter-requires-clause-quiet
enter-requires-clause-quiet g c =
    let e = c.requires.come in
    quiet_after (shape_of g.W.WaitWords.WAY c.args.table.now) c.args.keys.now c.leave.new.answers c.args.lane.now.index e.0 c.leave.new.seat
    (c.leave.ensures.got c.args.keys.now e.0 e.2 e.3) e.1

pub returns-clause-next : goal.returns-clause-next
returns-clause-next g c s room p = (c.leave.new.seat, c.leave.ensures.got c.args.keys.now s room p, c.enter.ensures.at)

pub returns-clause-stepped : goal.returns-clause-stepped
returns-clause-stepped g c on = let first = c.leave.ensures.more in let next = c.enter.ensures.stepped on in omega (arith, first, next)
