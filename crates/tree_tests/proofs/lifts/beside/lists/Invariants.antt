use Rattle.std.proofs.Common.{◌≡◌}
use Rattle.seat_table.specs.Seats.{IsQuietSeat}
use Rattle.tree_tests.proofs.lifts.beside.lists.Given as goal

-- the seat is of this table, and quiet
abbrev pub invariant-loop-round : goal.invariant-loop-round
invariant-loop-round g l = (l.seat.table ≡ l.table) × IsQuietSeat l.seat
