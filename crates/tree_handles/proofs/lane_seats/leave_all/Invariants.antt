use Rattle.std.proofs.Common.{◌≡◌}
use Rattle.list_laws.specs.Counts.{Each}
use Rattle.seat_table.specs.Seats.{SeatAt, IsQuietSeat}
use Rattle.tree_handles.proofs.lane_seats.leave_all.Given as goal

-- the seats that are left are of the table, and quiet
abbrev pub invariant-loop-at : goal.invariant-loop-at
invariant-loop-at g l = record {
  tables : Each l.seats.items (λ (s : SeatAt). s.table ≡ l.shared);
  quiet : Each l.seats.items IsQuietSeat;
}
