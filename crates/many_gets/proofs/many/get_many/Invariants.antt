use Rattle.std.proofs.Common.{◌≡◌, ◌+◌, ◌-◌, ◌*◌, ◌≤◌, length}
use Rattle.list_laws.specs.Counts.{Each}
use Rattle.seat_table.specs.Seats.{SeatAt, shape_of}
use Rattle.many_gets.specs.Many.{AreLanes, AreKept, steps_of}
use Rattle.many_gets.proofs.Lanes.{budget}
use Rattle.many_gets.proofs.many.get_many.Given as goal

abbrev pub invariant-loop-lanes : goal.invariant-loop-lanes
invariant-loop-lanes g l = record {
  tables : Each l.seats (λ (s : SeatAt). s.table ≡ l.table);
  kept : AreKept l.fn.seats l.seats;
  are : AreLanes g.W.WaitWords.WAY l.table l.keys l.answers l.fn.seats l.lanes l.seats;
  enough : length l.seats ≤ length l.lanes;
}

abbrev pub decreases-loop-lanes : goal.decreases-loop-lanes
decreases-loop-lanes g l =
    steps_of l.fn.seats + length l.fn.seats * budget (shape_of g.W.WaitWords.WAY l.table) l.keys - steps_of l.seats
