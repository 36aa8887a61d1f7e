use Rattle.seat_table.specs.Seats.{shape_of}
use Rattle.tree_points.proofs.Locks.{needs_unlock, passes_unlock, passes_unlock_gone}
use Rattle.citrus_tree.proofs.DeleteUpdates.{keeps_rest, rest_unlock}
use Rattle.citrus_tree.proofs.delete.shift.unlock_all.Goals as goal

pub unlock-requires-clause-asks : goal.unlock-requires-clause-asks
unlock-requires-clause-asks g c = let a = c.requires.at in
    needs_unlock c.unlock_below.ensures.locked (c.unlock_below.ensures.at a.0 a.1 a.2)

pub unlock-requires-2-clause-asks : goal.unlock-requires-2-clause-asks
unlock-requires-2-clause-asks g c =
    let a = c.requires.at in
    let p = passes_unlock c.unlock_below.ensures.locked (c.unlock_below.ensures.at a.0 a.1 a.2) c.unlock.ensures.told in
    needs_unlock p.1 p.0

pub unlock-requires-3-clause-asks : goal.unlock-requires-3-clause-asks
unlock-requires-3-clause-asks g c =
    let a = c.requires.at in
    let p = passes_unlock c.unlock_below.ensures.locked (c.unlock_below.ensures.at a.0 a.1 a.2) c.unlock.ensures.told in
    let q = passes_unlock p.1 p.0 c.unlock-2.ensures.told in
    needs_unlock q.1 q.0

pub returns-clause-at : goal.returns-clause-at
returns-clause-at g c = λ op kept a.
    (let p = passes_unlock c.unlock_below.ensures.locked (c.unlock_below.ensures.at op kept a) c.unlock.ensures.told in
    let q = passes_unlock p.1 p.0 c.unlock-2.ensures.told in
    passes_unlock_gone q.1 q.0 c.unlock-3.ensures.told)

pub returns-clause-same : goal.returns-clause-same
returns-clause-same g c =
    let k = (shape_of g.W.WaitWords.WAY c.args.table.now) in
    keeps_rest _ _ _ c.unlock_below.ensures.same (keeps_rest _ _ _ (rest_unlock k _ _ _ _ c.unlock.ensures.told)
    (keeps_rest _ _ _ (rest_unlock k _ _ _ _ c.unlock-2.ensures.told) (rest_unlock k _ _ _ _ c.unlock-3.ensures.told)))
