use Rattle.std.proofs.Common.{◌≡◌, ◌+◌, ◌-◌, ◌≤◌, length}
use Rattle.std.specs.Vec.{vec_len, vec_capacity}
use Rattle.list_laws.specs.Counts.{Each}
use Rattle.seat_table.specs.Seats.{SeatAt, IsQuietSeat}
use Rattle.tree_handles.specs.Callers.{IsSameCaller, MayGoOn}
use Rattle.tree_handles.specs.Lanes.{AreEmptyFor, AreSplitOff}
use Rattle.tree_handles.proofs.caller.Caller.lanes.Given as goal

-- so many seats were split off
abbrev pub invariant-loop-given : goal.invariant-loop-given
invariant-loop-given g l = record {
  few : l.given ≤ l.count;
  lists : AreEmptyFor l.fn.self.table (l.count - l.given) l.lists.items;
  left_is : vec_len l.lists ≡ l.count - l.given;
  index : IsSameCaller l.fn.self l.self;
  may : MayGoOn l.self;
  places : l.self.seat.view.allowance.places + l.given ≡ l.fn.self.seat.view.allowance.places;
  count_is : length l.seats.items ≡ l.given;
  length_is : vec_len l.seats ≡ l.given;
  room : vec_capacity l.seats ≡ l.count;
  split : AreSplitOff l.fn.self.seat.view l.seats.items l.self.seat.view;
  tables : Each l.seats.items (λ (s : SeatAt). s.table ≡ l.fn.self.table);
  quiet : Each l.seats.items IsQuietSeat;
}
