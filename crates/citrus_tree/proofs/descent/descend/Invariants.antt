use Rattle.std.proofs.Common.{◌≡◌, ◌+◌, ◌-◌, ◌<◌}
use Rattle.core_state.specs.declared.view.SearchState.TheVariants.{At}
use Rattle.core_state.specs.declared.view.View.{View}
use Rattle.core_state.specs.Memory.{slot_count}
use Rattle.seat_table.specs.Gains.{IsSlot}
use Rattle.seat_table.specs.Seats.{shape_of}
use Rattle.citrus_tree.specs.Hops.{KeepsPace, slots_met, LoadsLinks}
use Rattle.citrus_tree.specs.Lookups.{IsSearching}
use Rattle.citrus_tree.proofs.descent.descend.Given as goal

abbrev pub invariant-loop-slot : goal.invariant-loop-slot
invariant-loop-slot g l = record {
  table : l.seat.table ≡ l.fn.seat.table;
  listed : l.seat.listed ≡ l.fn.seat.listed;
  slot : IsSlot (shape_of g.W.WaitWords.WAY l.table) l.at;
  few : l.depth < slot_count (shape_of g.W.WaitWords.WAY l.table);
  fits : l.depth < 4294967296;
  loaded : (u : View) × IsSearching l.fn.seat.view l.key (At l.at l.side) u
      × LoadsLinks (shape_of g.W.WaitWords.WAY l.table) u l.at l.side l.links.ahead l.seat.view
      × KeepsPace l.fn.seat.view u × (slots_met u ≡ l.depth + 1);
}

abbrev pub decreases-loop-slot : goal.decreases-loop-slot
decreases-loop-slot g l = slot_count (shape_of g.W.WaitWords.WAY l.table) - l.depth
