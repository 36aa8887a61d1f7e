use Rattle.std.proofs.Common.{◌≡◌, ◌≤◌}
use Rattle.core_points.specs.Programs.{target_locks}
use Rattle.seat_table.specs.Seats.{shape_of}
use Rattle.citrus_tree.proofs.DeleteSearches.{Gets}
use Rattle.citrus_tree.proofs.delete.locks.lock_target.Given as goal

abbrev pub invariant-loop-at : goal.invariant-loop-at
invariant-loop-at g l = record {
  table : l.seat.table ≡ l.fn.seat.table;
  listed : l.seat.listed ≡ l.fn.seat.listed;
  few : l.at ≤ target_locks l.target;
  gets : Gets (shape_of g.W.WaitWords.WAY l.table) l.target l.at l.fn.seat.view l.seat.view;
}
