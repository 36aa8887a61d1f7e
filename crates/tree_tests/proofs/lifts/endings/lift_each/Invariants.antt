use Rattle.std.proofs.Common.{◌≡◌}
use Rattle.seat_table.specs.Seats.{IsQuietSeat}
use Rattle.tree_tests.proofs.lifts.endings.lift_each.Given as goal

-- the seat is of this table, and quiet
abbrev pub invariant-loop-number : goal.invariant-loop-number
invariant-loop-number g l = (l.seat.table ≡ l.table) × IsQuietSeat l.seat
