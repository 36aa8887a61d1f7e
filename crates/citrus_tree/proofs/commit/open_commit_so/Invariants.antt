use Rattle.std.proofs.Common.{◌≡◌, ℕ, ◌%◌, ◌≤◌, length}
use Rattle.core_points.specs.declared.stage.Stage.TheVariants as at
use Rattle.core_points.specs.declared.stage.Update.{Update}
use Rattle.prcu_model.specs.declared.operation.Op.{Op}
use Rattle.seat_table.specs.Seats.{shape_of}
use Rattle.tree_points.specs.Points.{IsAt}
use Rattle.citrus_tree.specs.Going.{LosesFront}
use Rattle.citrus_tree.proofs.commit.open_commit_so.Given as goal

abbrev pub invariant-loop-round : goal.invariant-loop-round
invariant-loop-round g l = record {
  table : l.seat.table ≡ l.fn.seat.table;
  listed : l.seat.listed ≡ l.fn.seat.listed;
  even : l.expected % 2 ≡ 0;
  tried : LosesFront l.fn.seat.view l.seat.view;
  at : (op : Op) (kept e : ℕ) (u : Update) → IsAt (shape_of g.W.WaitWords.WAY l.table) op kept (at.Commit u e) l.fn.seat.view
      → IsAt (shape_of g.W.WaitWords.WAY l.table) op kept (at.Commit u l.expected) l.seat.view;
  made : l.round ≤ length l.seat.view.trail.steps;
}
