use Rattle.tree_turn.proofs.Replaced.{asks_unlock_child, asks_unlock_node, asks_unlock_parent, all_given_up}
use Rattle.tree_turn.proofs.locks.unlock_three.Goals as goal

pub unlock-requires-clause-asks : goal.unlock-requires-clause-asks
unlock-requires-clause-asks g c =
    let l = c.requires.locked in
    asks_unlock_child _ c.args.turn c.requires.three l.0 l.1 l.2 l.3 c.requires.settled

pub unlock-requires-2-clause-asks : goal.unlock-requires-2-clause-asks
unlock-requires-2-clause-asks g c =
    let l = c.requires.locked in
    asks_unlock_node _ c.args.turn c.requires.three l.0 l.1 l.2 l.3 c.requires.settled c.unlock.ensures.told

pub unlock-requires-3-clause-asks : goal.unlock-requires-3-clause-asks
unlock-requires-3-clause-asks g c =
    let l = c.requires.locked in
    asks_unlock_parent _ c.args.turn c.requires.three l.0 l.1 l.2 l.3 c.requires.settled c.unlock.ensures.told c.unlock-2.ensures.told

pub returns-clause-view : goal.returns-clause-view
returns-clause-view g c =
    let l = c.requires.locked in
    all_given_up _ c.args.turn c.requires.three l.0 l.1 l.2 l.3 c.requires.settled c.unlock.ensures.told c.unlock-2.ensures.told
    c.unlock-3.ensures.told
