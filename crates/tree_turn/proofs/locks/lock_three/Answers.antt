use Rattle.tree_turn.proofs.Replaced.{asks_first, parent_busy, asks_second, asks_back, node_busy, asks_third, all_got, asks_node_back, asks_parent_back, child_busy}
use Rattle.tree_turn.proofs.locks.lock_three.Goals as goal

pub lock-requires-clause-asks : goal.lock-requires-clause-asks
lock-requires-clause-asks g c =
    let r = c.requires in
    asks_first r.three r.outside r.unlocked r.settled

pub returns-then-lock-ne0-clause-busy : goal.returns-then-lock-ne0-clause-busy
returns-then-lock-ne0-clause-busy g c =
    let r = c.requires in
    λ _. parent_busy r.three r.outside r.unlocked r.settled _ c.if-lock-ne0.true c.lock.ensures.told

pub lock-requires-2-clause-asks : goal.lock-requires-2-clause-asks
lock-requires-2-clause-asks g c =
    let r = c.requires in
    asks_second r.three r.outside r.unlocked r.settled c.if-lock-ne0.false c.lock.ensures.told

pub unlock-requires-clause-asks : goal.unlock-requires-clause-asks
unlock-requires-clause-asks g c =
    let r = c.requires in
    asks_back r.three r.outside r.unlocked r.settled c.if-lock-ne0.false c.lock.ensures.told _ c.if-lock-ne0-2.true c.lock-2.ensures.told

pub returns-then-lock-ne0-2-clause-busy : goal.returns-then-lock-ne0-2-clause-busy
returns-then-lock-ne0-2-clause-busy g c =
    let r = c.requires in
    λ _. node_busy r.three r.outside r.unlocked r.settled c.if-lock-ne0.false c.lock.ensures.told _ c.if-lock-ne0-2.true
    c.lock-2.ensures.told c.unlock.ensures.told

pub lock-requires-3-clause-asks : goal.lock-requires-3-clause-asks
lock-requires-3-clause-asks g c =
    let r = c.requires in
    asks_third r.three r.outside r.unlocked r.settled c.if-lock-ne0.false c.lock.ensures.told c.if-lock-ne0-2.false c.lock-2.ensures.told

pub unlock-requires-then-lock-ne0-3-clause-asks : goal.unlock-requires-then-lock-ne0-3-clause-asks
unlock-requires-then-lock-ne0-3-clause-asks g c =
    let r = c.requires in
    asks_node_back r.three r.outside r.unlocked r.settled c.if-lock-ne0.false c.lock.ensures.told c.if-lock-ne0-2.false
    c.lock-2.ensures.told _ c.if-lock-ne0-3.true c.lock-3.ensures.told

pub unlock-requires-then-lock-ne0-3-2-clause-asks : goal.unlock-requires-then-lock-ne0-3-2-clause-asks
unlock-requires-then-lock-ne0-3-2-clause-asks g c =
    let r = c.requires in
    asks_parent_back r.three r.outside r.unlocked r.settled c.if-lock-ne0.false c.lock.ensures.told c.if-lock-ne0-2.false
    c.lock-2.ensures.told _ c.if-lock-ne0-3.true c.lock-3.ensures.told c.unlock-then-lock-ne0-3.ensures.told

pub returns-then-lock-ne0-3-clause-busy : goal.returns-then-lock-ne0-3-clause-busy
returns-then-lock-ne0-3-clause-busy g c =
    let r = c.requires in
    λ _. child_busy r.three r.outside r.unlocked r.settled c.if-lock-ne0.false c.lock.ensures.told c.if-lock-ne0-2.false
    c.lock-2.ensures.told _ c.if-lock-ne0-3.true c.lock-3.ensures.told c.unlock-then-lock-ne0-3.ensures.told
    c.unlock-then-lock-ne0-3-2.ensures.told

pub returns-clause-got : goal.returns-clause-got
returns-clause-got g c =
    let r = c.requires in
    λ _. all_got r.three r.outside r.unlocked r.settled c.if-lock-ne0.false c.lock.ensures.told c.if-lock-ne0-2.false
    c.lock-2.ensures.told c.if-lock-ne0-3.false c.lock-3.ensures.told
