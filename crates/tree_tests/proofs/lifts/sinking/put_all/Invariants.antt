use Rattle.std.proofs.Common.{◌≡◌}
use Rattle.seat_table.specs.Seats.{IsQuietSeat}
use Rattle.tree_tests.proofs.lifts.sinking.put_all.Given as goal

-- the seat is of this table, and quiet
abbrev pub invariant-loop-key : goal.invariant-loop-key
invariant-loop-key g l = (l.seat.table ≡ l.table) × IsQuietSeat l.seat
