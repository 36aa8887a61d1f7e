use Rattle.std.proofs.Common.{[], ◌∷◌, ◌++◌, ap, ◌∙◌, eq-eqb, ne_eqb, refl}
use Rattle.seat_table.specs.Seats.{shape_of}
use Rattle.tree_points.proofs.Passing.{needs, passes}
use Rattle.tree_points.proofs.Locks.{needs_unlink_copy, needs_unlink_parent, passes_unlink_copy, passes_unlink_parent, advanced_on}
use Rattle.citrus_tree.proofs.DeleteUpdates.{keeps_on, keeps_locked_load, keeps_mark, same_locks}
use Rattle.citrus_tree.proofs.DeleteMoves.{unlinking, copy_unlinks, parent_unlinks, unlinked_on}
use Rattle.citrus_tree.proofs.delete.shift.unlink_old.Goals as goal

pub mark-requires-clause-asks : goal.mark-requires-clause-asks
mark-requires-clause-asks g c = needs (c.requires.at).2 refl

pub locked_load-right-requires-clause-asks : goal.locked_load-right-requires-clause-asks
locked_load-right-requires-clause-asks g c = needs (passes (c.requires.at).2 refl c.mark.ensures.told) refl

pub unlink_right-requires-clause-asks : goal.unlink_right-requires-clause-asks
unlink_right-requires-clause-asks g c = λ told. needs_unlink_copy
    (eq-eqb c.args.moving.successor.parent c.args.moving.node.node c.if-successor-node.true)
    (unlinking c.args.moving c.slot_of-child.ensures told.tells
    (passes (passes (c.requires.at).2 refl c.mark.ensures.told) refl c.locked_load-right.ensures.told)) told

pub unlink_left-requires-clause-asks : goal.unlink_left-requires-clause-asks
unlink_left-requires-clause-asks g c = λ told. needs_unlink_parent
    (ne_eqb c.args.moving.successor.parent c.args.moving.node.node c.if-successor-node.false)
    (unlinking c.args.moving c.slot_of-child.ensures told.tells
    (passes (passes (c.requires.at).2 refl c.mark.ensures.told) refl c.locked_load-right.ensures.told)) told

pub settle_side-requires-clause-at : goal.settle_side-requires-clause-at
settle_side-requires-clause-at g c = let a = c.requires.at in (
  c.args.moving.number,
  (
    a.0,
    a.1,
    (passes_unlink_copy
        (eq-eqb c.args.moving.successor.parent c.args.moving.node.node c.if-successor-node.true)
        (unlinking c.args.moving c.slot_of-child.ensures c.unlink_right.ensures.told.before.tells
        (passes (passes a.2 refl c.mark.ensures.told) refl c.locked_load-right.ensures.told)) c.unlink_right.ensures.told).0,
  ),
)

pub settle_side-requires-2-clause-at : goal.settle_side-requires-2-clause-at
settle_side-requires-2-clause-at g c = let a = c.requires.at in (
  c.args.moving.number,
  (
    a.0,
    a.1,
    (passes_unlink_parent
        (ne_eqb c.args.moving.successor.parent c.args.moving.node.node c.if-successor-node.false)
        (unlinking c.args.moving c.slot_of-child.ensures c.unlink_left.ensures.told.before.tells
        (passes (passes a.2 refl c.mark.ensures.told) refl c.locked_load-right.ensures.told)) c.unlink_left.ensures.told).0,
  ),
)

pub returns-then-successor-node-clause-at : goal.returns-then-successor-node-clause-at
returns-then-successor-node-clause-at g c = λ op kept a. c.settle_side.ensures.at c.args.moving.number op kept
    (passes_unlink_copy (eq-eqb c.args.moving.successor.parent c.args.moving.node.node c.if-successor-node.true)
    (unlinking c.args.moving c.slot_of-child.ensures c.unlink_right.ensures.told.before.tells
    (passes (passes a refl c.mark.ensures.told) refl c.locked_load-right.ensures.told)) c.unlink_right.ensures.told).0

pub returns-clause-at : goal.returns-clause-at
returns-clause-at g c = λ op kept a. c.settle_side-2.ensures.at c.args.moving.number op kept
    (passes_unlink_parent (ne_eqb c.args.moving.successor.parent c.args.moving.node.node c.if-successor-node.false)
    (unlinking c.args.moving c.slot_of-child.ensures c.unlink_left.ensures.told.before.tells
    (passes (passes a refl c.mark.ensures.told) refl c.locked_load-right.ensures.told)) c.unlink_left.ensures.told).0

pub returns-then-successor-node-clause-locked : goal.returns-then-successor-node-clause-locked
returns-then-successor-node-clause-locked g c =
    same_locks (c.settle_side.ensures.same).locked
    (passes_unlink_copy (eq-eqb c.args.moving.successor.parent c.args.moving.node.node c.if-successor-node.true)
    (unlinking c.args.moving c.slot_of-child.ensures c.unlink_right.ensures.told.before.tells
    (passes
    (passes (c.requires.at).2 refl c.mark.ensures.told) refl c.locked_load-right.ensures.told)) c.unlink_right.ensures.told).1

pub returns-clause-locked : goal.returns-clause-locked
returns-clause-locked g c = same_locks (c.settle_side-2.ensures.same).locked
    (passes_unlink_parent (ne_eqb c.args.moving.successor.parent c.args.moving.node.node c.if-successor-node.false)
    (unlinking c.args.moving c.slot_of-child.ensures c.unlink_left.ensures.told.before.tells
    (passes
    (passes (c.requires.at).2 refl c.mark.ensures.told) refl c.locked_load-right.ensures.told)) c.unlink_left.ensures.told).1

pub returns-then-successor-node-clause-gone : goal.returns-then-successor-node-clause-gone
returns-then-successor-node-clause-gone g c =
    let k = (shape_of g.W.WaitWords.WAY c.args.table.now) in
    let first = keeps_on _ _ _ (keeps_mark k _ _ _ _ _ c.mark.ensures.told)
    (keeps_locked_load k _ _ _ _ _ c.locked_load-right.ensures.told) in
    advanced_on first.advanced (advanced_on (copy_unlinks k _ _ _ _ _ _ c.unlink_right.ensures.told).advanced (c.settle_side.ensures.same).advanced)

pub returns-clause-gone : goal.returns-clause-gone
returns-clause-gone g c =
    let k = (shape_of g.W.WaitWords.WAY c.args.table.now) in
    let first = keeps_on _ _ _ (keeps_mark k _ _ _ _ _ c.mark.ensures.told)
    (keeps_locked_load k _ _ _ _ _ c.locked_load-right.ensures.told) in
    advanced_on first.advanced (advanced_on (parent_unlinks k _ _ _ _ _ _ c.unlink_left.ensures.told).advanced (c.settle_side-2.ensures.same).advanced)

pub returns-then-successor-node-clause-retired : goal.returns-then-successor-node-clause-retired
returns-then-successor-node-clause-retired g c =
    let k = (shape_of g.W.WaitWords.WAY c.args.table.now) in
    let first = keeps_on _ _ _ (keeps_mark k _ _ _ _ _ c.mark.ensures.told)
    (keeps_locked_load k _ _ _ _ _ c.locked_load-right.ensures.told) in
    (c.settle_side.ensures.same).retired ∙ (copy_unlinks k _ _ _ _ _ _ c.unlink_right.ensures.told).retired
    ∙ ap (λ xs. xs ++ c.args.moving.successor.slot ∷ []) first.retired

pub returns-clause-retired : goal.returns-clause-retired
returns-clause-retired g c =
    let k = (shape_of g.W.WaitWords.WAY c.args.table.now) in
    let first = keeps_on _ _ _ (keeps_mark k _ _ _ _ _ c.mark.ensures.told)
    (keeps_locked_load k _ _ _ _ _ c.locked_load-right.ensures.told) in
    (c.settle_side-2.ensures.same).retired ∙ (parent_unlinks k _ _ _ _ _ _ c.unlink_left.ensures.told).retired
    ∙ ap (λ xs. xs ++ c.args.moving.successor.slot ∷ []) first.retired

pub returns-then-successor-node-clause-unlinked : goal.returns-then-successor-node-clause-unlinked
returns-then-successor-node-clause-unlinked g c =
    let k = (shape_of g.W.WaitWords.WAY c.args.table.now) in
    let first = keeps_on _ _ _ (keeps_mark k _ _ _ _ _ c.mark.ensures.told)
    (keeps_locked_load k _ _ _ _ _ c.locked_load-right.ensures.told) in
    unlinked_on first.advanced.begins (copy_unlinks k _ _ _ _ _ _ c.unlink_right.ensures.told).unlinked (c.settle_side.ensures.same).advanced.begins

pub returns-clause-unlinked : goal.returns-clause-unlinked
returns-clause-unlinked g c =
    let k = (shape_of g.W.WaitWords.WAY c.args.table.now) in
    let first = keeps_on _ _ _ (keeps_mark k _ _ _ _ _ c.mark.ensures.told)
    (keeps_locked_load k _ _ _ _ _ c.locked_load-right.ensures.told) in
    unlinked_on first.advanced.begins (parent_unlinks k _ _ _ _ _ _ c.unlink_left.ensures.told).unlinked
    (c.settle_side-2.ensures.same).advanced.begins

pub returns-then-successor-node-clause-stay : goal.returns-then-successor-node-clause-stay
returns-then-successor-node-clause-stay g c =
    let k = (shape_of g.W.WaitWords.WAY c.args.table.now) in
    let first = keeps_on _ _ _ (keeps_mark k _ _ _ _ _ c.mark.ensures.told)
    (keeps_locked_load k _ _ _ _ _ c.locked_load-right.ensures.told) in
    let gone = (copy_unlinks k _ _ _ _ _ _ c.unlink_right.ensures.told).stay in
    (gone.0, (c.settle_side.ensures.same).stay ∙ gone.1 ∙ ap (λ xs. xs ++ gone.0) first.stay)

pub returns-clause-stay : goal.returns-clause-stay
returns-clause-stay g c =
    let k = (shape_of g.W.WaitWords.WAY c.args.table.now) in
    let first = keeps_on _ _ _ (keeps_mark k _ _ _ _ _ c.mark.ensures.told)
    (keeps_locked_load k _ _ _ _ _ c.locked_load-right.ensures.told) in
    let gone = (parent_unlinks k _ _ _ _ _ _ c.unlink_left.ensures.told).stay in
    (gone.0, (c.settle_side-2.ensures.same).stay ∙ gone.1 ∙ ap (λ xs. xs ++ gone.0) first.stay)
