use Rattle.std.proofs.Common.{◌≡◌, ◌-◌, ◌≤◌}
use Rattle.node_slots.proofs.Returns.{GoesOn, IsSameOrInformed}
use Rattle.node_slots.proofs.reclaiming.give_back.Given as goal

abbrev pub invariant-loop-i : goal.invariant-loop-i
invariant-loop-i g l = record {
  table : l.seat.table ≡ l.fn.seat.table;
  few : l.i ≤ l.count;
  goes : GoesOn l.fn.seat.view l.fn.seat.listed l.count (l.count - l.i) l.seat.view l.seat.listed;
  informed : IsSameOrInformed l.i l.fn.seat l.seat;
}
