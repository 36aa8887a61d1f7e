use Rattle.node_slots.proofs.Returns.{none_there, some_there}
use Rattle.node_slots.proofs.reclaiming.return_slot.Goals as goal

pub keep_spare-requires-clause-none : goal.keep_spare-requires-clause-none
keep_spare-requires-clause-none g c = none_there _ c.in-None.ensures

pub free_retired-requires-clause-some : goal.free_retired-requires-clause-some
free_retired-requires-clause-some g c = some_there _ _ c.in-Some.ensures
