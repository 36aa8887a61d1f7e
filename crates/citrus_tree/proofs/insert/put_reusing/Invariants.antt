use Rattle.std.proofs.Common.{◌≡◌, ◌≤◌, length}
use Rattle.seat_table.specs.Seats.{AreListed, shape_of}
use Rattle.citrus_tree.proofs.Inserting.{Trying}
use Rattle.citrus_tree.proofs.Reusing.{SoFar}
use Rattle.citrus_tree.proofs.insert.put_reusing.Given as goal

abbrev pub invariant-loop-round : goal.invariant-loop-round
invariant-loop-round g l = record {
  table : l.seat.table ≡ l.fn.seat.table;
  listed : AreListed l.seat;
  tries : Trying (shape_of g.W.WaitWords.WAY l.table) l.key l.value l.fn.seat.view l.seat.view;
  slots : SoFar l.reuse l.fn.seat l.seat;
  made : l.round ≤ length l.seat.view.trail.steps;
}
