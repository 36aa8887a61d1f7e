use Rattle.std.proofs.Common.{◌≡◌, ◌≤◌, length}
use Rattle.seat_table.specs.Seats.{shape_of}
use Rattle.exact_list.specs.Loads.{HasWalked, IsWayDown}
use Rattle.exact_list.proofs.Loading.{HasSought}
use Rattle.exact_list.proofs.descent.seek.Given as goal

abbrev pub invariant-loop-round : goal.invariant-loop-round
invariant-loop-round g l = record {
  table : l.seat.table ≡ l.fn.seat.table;
  listed : l.seat.listed ≡ l.fn.seat.listed;
  sought : HasSought (shape_of g.W.WaitWords.WAY l.table) l.fn.seat.view l.seat.view l.side l.from l.link l.best;
  down : HasWalked l.fn.seat.view (IsWayDown l.link) l.seat.view;
  made : l.round ≤ length l.seat.view.trail.steps;
}
