use Rattle.std.proofs.Common.{◌≡◌, ◌-◌, Some}
use Rattle.core_state.specs.declared.view.View.{View}
use Rattle.core_state.specs.Memory.{slot_count}
use Rattle.seat_table.specs.Seats.{shape_of}
use Rattle.seat_table.specs.Sections.{HasEntered}
use Rattle.citrus_tree.specs.Hops.{slots_met}
use Rattle.tree_lift.specs.Ways.{Starts}
use Rattle.tree_lift.proofs.finding.find_crossing.Given as goal

abbrev pub invariant-loop-child : goal.invariant-loop-child
invariant-loop-child g l = record {
  table : l.seat.table ≡ l.fn.seat.table;
  listed : l.seat.listed ≡ l.fn.seat.listed;
  stands : (v : View) → HasEntered v l.key l.fn.seat.view
      → Starts (shape_of g.W.WaitWords.WAY l.table) v l.key l.salt (Some l.at) l.seat.view;
}

abbrev pub decreases-loop-child : goal.decreases-loop-child
decreases-loop-child g l = slot_count (shape_of g.W.WaitWords.WAY l.table) - slots_met l.seat.view
