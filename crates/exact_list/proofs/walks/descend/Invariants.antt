use Rattle.std.proofs.Common.{◌≡◌, ◌≤◌, length}
use Rattle.seat_table.specs.Seats.{shape_of}
use Rattle.exact_list.specs.Loads.{HasWalked, GoesDown, HasCome}
use Rattle.exact_list.specs.Tries.{HasLoaded}
use Rattle.exact_list.proofs.walks.descend.Given as goal

abbrev pub invariant-loop-round : goal.invariant-loop-round
invariant-loop-round g l = record {
  table : l.seat.table ≡ l.fn.seat.table;
  listed : l.seat.listed ≡ l.fn.seat.listed;
  come : (loaded : HasLoaded l.fn.seat.view l.seat.view) × HasCome (shape_of g.W.WaitWords.WAY l.table) l.side loaded.after l.from l.link l.way;
  down : HasWalked l.fn.seat.view (GoesDown l.fn.way l.way) l.seat.view;
  made : l.round ≤ length l.seat.view.trail.steps;
}
