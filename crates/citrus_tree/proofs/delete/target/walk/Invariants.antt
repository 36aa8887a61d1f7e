use Rattle.std.proofs.Common.{◌≡◌, ◌-◌}
use Rattle.core_state.specs.Memory.{slot_count}
use Rattle.seat_table.specs.Seats.{shape_of}
use Rattle.citrus_tree.specs.Hops.{slots_met}
use Rattle.citrus_tree.proofs.DeleteSearches.{Walks}
use Rattle.citrus_tree.proofs.delete.target.walk.Given as goal

abbrev pub invariant-loop-parent : goal.invariant-loop-parent
invariant-loop-parent g l = record {
  table : l.seat.table ≡ l.fn.seat.table;
  listed : l.seat.listed ≡ l.fn.seat.listed;
  walks : Walks (shape_of g.W.WaitWords.WAY l.table) l.fn.node l.parent l.slot l.fn.seat.view l.seat.view;
}

abbrev pub decreases-loop-parent : goal.decreases-loop-parent
decreases-loop-parent g l = slot_count (shape_of g.W.WaitWords.WAY l.table) - slots_met l.seat.view
