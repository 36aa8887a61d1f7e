use Rattle.std.proofs.Common.{◌≡◌, ◌≤◌, length}
use Rattle.seat_table.specs.Seats.{AreListed, shape_of}
use Rattle.citrus_tree.specs.Going.{GivesNoneBack, KeepsSlots}
use Rattle.citrus_tree.proofs.DeleteTries.{TriesToDelete}
use Rattle.citrus_tree.proofs.delete.delete.Given as goal

abbrev pub invariant-loop-round : goal.invariant-loop-round
invariant-loop-round g l = record {
  table : l.seat.table ≡ l.fn.seat.table;
  listed : AreListed l.seat;
  same : l.seat.listed ≡ l.fn.seat.listed;
  tries : TriesToDelete (shape_of g.W.WaitWords.WAY l.table) l.key l.fn.seat.view l.seat.view;
  slots : KeepsSlots l.fn.seat l.seat;
  stays : GivesNoneBack l.fn.seat l.seat;
  made : l.round ≤ length l.seat.view.trail.steps;
}
