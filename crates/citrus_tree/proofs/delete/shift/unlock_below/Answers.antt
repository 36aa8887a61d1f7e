use Rattle.seat_table.specs.Seats.{shape_of}
use Rattle.tree_points.proofs.Locks.{needs_unlock, passes_unlock}
use Rattle.citrus_tree.proofs.DeleteUpdates.{keeps_rest, rest_unlock}
use Rattle.citrus_tree.proofs.DeleteMoves.{below_same, below_other}
use Rattle.citrus_tree.proofs.delete.shift.unlock_below.Goals as goal

pub unlock-requires-clause-asks : goal.unlock-requires-clause-asks
unlock-requires-clause-asks g c = needs_unlock c.requires.locked (c.requires.at).2

pub unlock-requires-2-clause-asks : goal.unlock-requires-2-clause-asks
unlock-requires-2-clause-asks g c =
    let p = passes_unlock (below_other c.args.moving c.if-successor-node.false c.requires.locked) (c.requires.at).2 c.unlock.ensures.told in
    needs_unlock p.1 p.0

pub returns-then-successor-node-clause-at : goal.returns-then-successor-node-clause-at
returns-then-successor-node-clause-at g c = λ op kept a. (passes_unlock
    (below_same c.args.moving c.if-successor-node.true c.requires.locked) a c.unlock.ensures.told).0

pub returns-then-successor-node-clause-locked : goal.returns-then-successor-node-clause-locked
returns-then-successor-node-clause-locked g c =
    (passes_unlock (below_same c.args.moving c.if-successor-node.true c.requires.locked) (c.requires.at).2 c.unlock.ensures.told).1

pub returns-clause-at : goal.returns-clause-at
returns-clause-at g c = λ op kept a.
    (let p = passes_unlock (below_other c.args.moving c.if-successor-node.false c.requires.locked) a c.unlock.ensures.told in
    (passes_unlock p.1 p.0 c.unlock-2.ensures.told).0)

pub returns-clause-locked : goal.returns-clause-locked
returns-clause-locked g c =
    let p = passes_unlock (below_other c.args.moving c.if-successor-node.false c.requires.locked) (c.requires.at).2 c.unlock.ensures.told in
    (passes_unlock p.1 p.0 c.unlock-2.ensures.told).1

pub returns-clause-same : goal.returns-clause-same
returns-clause-same g c = let k = (shape_of g.W.WaitWords.WAY c.args.table.now) in
    keeps_rest _ _ _ (rest_unlock k _ _ _ _ c.unlock.ensures.told) (rest_unlock k _ _ _ _ c.unlock-2.ensures.told)
