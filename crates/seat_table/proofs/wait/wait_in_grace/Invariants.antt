use Rattle.std.proofs.Common.{◌≡◌, ◌≤◌, length}
use Rattle.core_state.specs.declared.view.View.{View}
use Rattle.seat_table.specs.Seats.{shape_of}
use Rattle.seat_table.specs.Sections.{HasBegun}
use Rattle.seat_table.specs.Waits.{IsGoingOn}
use Rattle.seat_table.proofs.wait.wait_in_grace.Given as goal

abbrev pub invariant-loop-round : goal.invariant-loop-round
invariant-loop-round g l = record {
  table : l.seat.table ≡ l.fn.seat.table;
  listed : l.seat.listed ≡ l.fn.seat.listed;
  began : View;
  begun : HasBegun l.fn.seat.view l.fn.keys.low l.fn.keys.high began;
  going : IsGoingOn (shape_of g.W.WaitWords.WAY l.table) began l.grace l.seat.view;
  made : l.round ≤ length l.seat.view.trail.steps;
}
