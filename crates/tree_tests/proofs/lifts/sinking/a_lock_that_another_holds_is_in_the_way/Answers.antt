use Rattle.node_slots.proofs.Takes.{may_unlock}
use Rattle.tree_tests.proofs.lifts.sinking.a_lock_that_another_holds_is_in_the_way.Goals as goal

pub unlock-requires-clause-held : goal.unlock-requires-clause-held
unlock-requires-clause-held g c = may_unlock _ _ _ c.split-seat.ensures.quiet.1.view.moving c.in-Held.ensures.view
