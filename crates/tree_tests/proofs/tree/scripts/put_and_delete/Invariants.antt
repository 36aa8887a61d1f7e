use Rattle.std.proofs.Common.{◌≡◌}
use Rattle.seat_table.specs.Seats.{IsQuietSeat}
use Rattle.tree_tests.proofs.tree.scripts.put_and_delete.Given as goal

-- the seat is of this table, and quiet
abbrev pub invariant-loop-time : goal.invariant-loop-time
invariant-loop-time g l = (l.seat.table ≡ l.table) × IsQuietSeat l.seat
