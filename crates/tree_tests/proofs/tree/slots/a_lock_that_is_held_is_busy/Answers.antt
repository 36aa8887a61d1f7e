use Rattle.node_slots.proofs.Takes.{may_unlock}
use Rattle.tree_tests.proofs.tree.slots.a_lock_that_is_held_is_busy.Goals as goal

pub unlock-requires-clause-held : goal.unlock-requires-clause-held
unlock-requires-clause-held g c = may_unlock _ _ _ c.split-first.ensures.quiet.0.view.moving c.in-Held.ensures.view
