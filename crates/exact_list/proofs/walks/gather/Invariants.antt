use Rattle.std.proofs.Common.{◌≡◌, ◌≤◌, length}
use Rattle.seat_table.specs.Seats.{shape_of}
use Rattle.exact_list.specs.Loads.{HasWalked}
use Rattle.exact_list.proofs.Counting.{HasCounted}
use Rattle.exact_list.proofs.Walking.{Walks}
use Rattle.exact_list.proofs.walks.gather.Given as goal

abbrev pub invariant-loop-round : goal.invariant-loop-round
invariant-loop-round g l = record {
  table : l.seat.table ≡ l.fn.seat.table;
  listed : l.seat.listed ≡ l.fn.seat.listed;
  capacity : l.page.capacity ≡ l.fn.page.capacity;
  room : length l.page.pairs ≤ l.page.capacity;
  walks : Walks (shape_of g.W.WaitWords.WAY l.table) l.side l.fn.seat.view l.seat.view l.keys l.from l.link l.page.pairs l.way;
  counted : HasWalked l.fn.seat.view (HasCounted l.page.pairs l.way) l.seat.view;
  made : l.round ≤ length l.seat.view.trail.steps;
}
