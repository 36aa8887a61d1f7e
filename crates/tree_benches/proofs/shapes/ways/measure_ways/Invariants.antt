use Rattle.std.proofs.Common.{◌≡◌}
use Rattle.seat_table.specs.Seats.{IsQuietSeat}
use Rattle.tree_benches.proofs.shapes.ways.measure_ways.Given as goal

-- the seat is of this table, and quiet
abbrev pub invariant-loop-before : goal.invariant-loop-before
invariant-loop-before g l = (l.seat.table ≡ l.table) × IsQuietSeat l.seat
