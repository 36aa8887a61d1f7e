use Rattle.std.proofs.Common.{◌≡◌, ◌%◌, ◌≤◌, length}
use Rattle.exact_list.specs.Tries.{LosesFront}
use Rattle.exact_list.proofs.front.take_front.Given as goal

abbrev pub invariant-loop-round : goal.invariant-loop-round
invariant-loop-round g l = record {
  table : l.seat.table ≡ l.fn.seat.table;
  listed : l.seat.listed ≡ l.fn.seat.listed;
  even : l.expected % 2 ≡ 0;
  lost : LosesFront l.fn.seat.view l.seat.view;
  made : l.round ≤ length l.seat.view.trail.steps;
}
