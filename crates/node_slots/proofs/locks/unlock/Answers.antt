use Rattle.node_slots.proofs.locks.unlock.Goals as goal

pub unlock-requires-clause-asks : goal.unlock-requires-clause-asks
unlock-requires-clause-asks g c = λ told. (told.tells.locks_within c.args.slot (c.requires.held.lock, c.requires.held.held), c.requires.held)
