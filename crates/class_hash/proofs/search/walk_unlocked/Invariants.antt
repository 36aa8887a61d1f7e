use Rattle.std.proofs.Common.{◌≡◌}
use Rattle.hash_core.specs.declared.view.View.{View}
use Rattle.hash_core.specs.declared.view.SearchState.TheVariants.{Start}
use Rattle.std.proofs.Common.{None}
use Rattle.class_hash.specs.Calls.{IsSearching, IsAtLink}
use Rattle.class_hash.proofs.search.walk_unlocked.Given as goal

abbrev pub invariant-loop : goal.invariant-loop
invariant-loop g l = (l.seat.table ≡ l.fn.seat.table)
    × ((before : View) → IsSearching before l.key Start None l.fn.seat.view → IsAtLink l.table.capacities before l.key l.link l.seat.view)
