use Rattle.std.proofs.Common.{◌≡◌}
use Rattle.seat_table.specs.Seats.{IsQuietSeat}
use Rattle.tree_tests.proofs.lifts.beside.lifts.Given as goal

-- the seat is of this table, and quiet
abbrev pub invariant-loop-salt : goal.invariant-loop-salt
invariant-loop-salt g l = (l.seat.table ≡ l.table) × IsQuietSeat l.seat
