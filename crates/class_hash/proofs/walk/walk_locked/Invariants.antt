use Rattle.std.proofs.Common.{◌≡◌, Some}
use Rattle.hash_core.specs.declared.view.Hold.{Hold}
use Rattle.class_hash.specs.Calls.{HasLoaded, IsWalking}
use Rattle.class_hash.proofs.walk.walk_locked.Given as goal

abbrev pub invariant-loop : goal.invariant-loop
invariant-loop g l = (l.seat.table ≡ l.fn.seat.table)
    × ((hold : Hold) → l.fn.seat.view.hold ≡ Some hold
    → (new : Hold) × HasLoaded l.fn.seat.view hold l.seat.view new × IsWalking l.table.capacities l.key new l.previous l.link)
