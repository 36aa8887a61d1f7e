use Rattle.std.proofs.Common.{◌≡◌, ◌<◌, ◌≤◌, List, true, false}
use Rattle.list_laws.specs.Counts.{Each}
use Rattle.seat_table.specs.Seats.{SeatAt}
use Rattle.many_gets.specs.Many.{AreLanes, AreOver, AreKept, steps_of}
use Rattle.many_gets.proofs.many.take_turns.Given as goal

abbrev pub invariant-loop-n : goal.invariant-loop-n
invariant-loop-n g l = record {
  tables : Each l.seats (λ (s : SeatAt). s.table ≡ l.table);
  kept : AreKept l.fn.seats l.seats;
  are : (before : List SeatAt) → AreLanes g.W.WaitWords.WAY l.table l.keys l.fn.answers before l.fn.lanes l.fn.seats
      → AreLanes g.W.WaitWords.WAY l.table l.keys l.answers before l.lanes l.seats;
  over : l.busy ≡ false → AreOver l.n l.lanes;
  no_fewer : steps_of l.fn.seats ≤ steps_of l.seats;
  stepped : l.busy ≡ true → steps_of l.fn.seats < steps_of l.seats;
}
