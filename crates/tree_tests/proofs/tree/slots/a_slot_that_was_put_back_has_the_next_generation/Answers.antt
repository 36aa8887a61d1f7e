use Rattle.node_slots.proofs.Takes.{may_put_back}
use Rattle.tree_tests.proofs.tree.slots.a_slot_that_was_put_back_has_the_next_generation.Goals as goal

pub put_back-requires-clause-hand : goal.put_back-requires-clause-hand
put_back-requires-clause-hand g c = may_put_back _ _ _ _ c.in-Slot.ensures.view
