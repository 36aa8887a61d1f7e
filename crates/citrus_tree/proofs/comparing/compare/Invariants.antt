use Rattle.std.proofs.Common.{◌≡◌, ◌≤◌, length}
use Rattle.prcu_model.specs.declared.operation.Op.TheVariants.{Set}
use Rattle.seat_table.specs.Seats.{shape_of}
use Rattle.citrus_tree.proofs.Replacing.{Trying}
use Rattle.citrus_tree.proofs.comparing.compare.Given as goal

abbrev pub invariant-loop-round : goal.invariant-loop-round
invariant-loop-round g l = record {
  table : l.seat.table ≡ l.fn.seat.table;
  listed : l.seat.listed ≡ l.fn.seat.listed;
  tries : Trying (shape_of g.W.WaitWords.WAY l.table) (Set l.key l.value) l.fn.seat.view l.seat.view;
  made : l.round ≤ length l.seat.view.trail.steps;
}
