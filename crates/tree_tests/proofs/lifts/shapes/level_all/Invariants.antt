use Rattle.std.proofs.Common.{◌≡◌}
use Rattle.seat_table.specs.Seats.{IsQuietSeat}
use Rattle.tree_tests.proofs.lifts.shapes.level_all.Given as goal

-- the seat is of this table, and quiet
abbrev pub invariant-loop-before : goal.invariant-loop-before
invariant-loop-before g l = (l.seat.table ≡ l.table) × IsQuietSeat l.seat
