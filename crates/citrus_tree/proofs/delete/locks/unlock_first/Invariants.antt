use Rattle.std.proofs.Common.{◌≡◌, ◌-◌, ◌≤◌}
use Rattle.seat_table.specs.Seats.{shape_of}
use Rattle.citrus_tree.proofs.DeleteSearches.{GivesUp}
use Rattle.citrus_tree.proofs.delete.locks.unlock_first.Given as goal

abbrev pub invariant-loop-done : goal.invariant-loop-done
invariant-loop-done g l = record {
  table : l.seat.table ≡ l.fn.seat.table;
  listed : l.seat.listed ≡ l.fn.seat.listed;
  few : l.done ≤ l.count;
  gives : GivesUp (shape_of g.W.WaitWords.WAY l.table) l.target l.count (l.count - l.done) l.fn.seat.view l.seat.view;
}
