use Rattle.std.proofs.Common.{◌≡◌}
use Rattle.seat_table.specs.Seats.{IsQuietSeat}
use Rattle.tree_tests.proofs.lifts.sinking.make_each.Given as goal

-- the seat is of this table, and quiet
abbrev pub invariant-loop-row : goal.invariant-loop-row
invariant-loop-row g l = (l.seat.table ≡ l.table) × IsQuietSeat l.seat
