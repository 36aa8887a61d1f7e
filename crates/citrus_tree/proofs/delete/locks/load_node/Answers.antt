use Rattle.std.proofs.Common.{refl}
use Rattle.core_points.specs.Programs.{nothing_found, with_found}
use Rattle.seat_table.specs.Seats.{shape_of}
use Rattle.tree_points.proofs.Passing.{needs, passes}
use Rattle.citrus_tree.proofs.DeleteUpdates.{keeps_on, keeps_locked_load}
use Rattle.citrus_tree.proofs.DeleteSearches.{load_0, load_1, load_2, load_3}
use Rattle.citrus_tree.proofs.delete.locks.load_node.Goals as goal

pub locked_load-parent_life-requires-clause-asks : goal.locked_load-parent_life-requires-clause-asks
locked_load-parent_life-requires-clause-asks g c = needs (c.requires.at).2 refl

pub locked_load-link-requires-clause-asks : goal.locked_load-link-requires-clause-asks
locked_load-link-requires-clause-asks g c =
    needs (load_0 c.args.target.now nothing_found (c.requires.at).2 c.locked_load-parent_life.ensures.told) refl

pub locked_load-life-requires-clause-asks : goal.locked_load-life-requires-clause-asks
locked_load-life-requires-clause-asks g c =
    let t = c.args.target.now in
    let f1 = with_found nothing_found 0 c.locked_load-parent_life.result in
    needs (load_1 t f1 (load_0 t nothing_found
    (c.requires.at).2 c.locked_load-parent_life.ensures.told) c.locked_load-link.ensures.told) refl

pub locked_load-left-requires-clause-asks : goal.locked_load-left-requires-clause-asks
locked_load-left-requires-clause-asks g c =
    let t = c.args.target.now in
    let f1 = with_found nothing_found 0 c.locked_load-parent_life.result in
    let f2 = with_found f1 1 c.locked_load-link.result in
    needs (load_2 t f2 (load_1 t f1 (load_0 t nothing_found
    (c.requires.at).2 c.locked_load-parent_life.ensures.told) c.locked_load-link.ensures.told) c.locked_load-life.ensures.told) refl

pub locked_load-right-requires-clause-asks : goal.locked_load-right-requires-clause-asks
locked_load-right-requires-clause-asks g c =
    let t = c.args.target.now in
    let f1 = with_found nothing_found 0 c.locked_load-parent_life.result in
    let f2 = with_found f1 1 c.locked_load-link.result in
    let f3 = with_found f2 2 c.locked_load-life.result in
    needs (load_3 t f3 (load_2 t f2 (load_1 t f1
    (load_0 t nothing_found
    (c.requires.at).2 c.locked_load-parent_life.ensures.told) c.locked_load-link.ensures.told) c.locked_load-life.ensures.told)
    c.locked_load-left.ensures.told) refl

pub returns-clause-at : goal.returns-clause-at
returns-clause-at g c = λ op kept a.
    (let t = c.args.target.now in
    let f1 = with_found nothing_found 0 c.locked_load-parent_life.result in
    let f2 = with_found f1 1 c.locked_load-link.result in
    let f3 = with_found f2 2 c.locked_load-life.result in
    let f4 = with_found f3 3 c.locked_load-left.result in
    passes (load_3 t f3 (load_2 t f2 (load_1 t f1
    (load_0 t nothing_found a c.locked_load-parent_life.ensures.told) c.locked_load-link.ensures.told) c.locked_load-life.ensures.told)
    c.locked_load-left.ensures.told) refl c.locked_load-right.ensures.told)

pub returns-clause-same : goal.returns-clause-same
returns-clause-same g c =
    let k = (shape_of g.W.WaitWords.WAY c.args.table.now) in
    keeps_on _ _ _ (keeps_locked_load k _ _ _ _ _ c.locked_load-parent_life.ensures.told)
    (keeps_on _ _ _ (keeps_locked_load k _ _ _ _ _ c.locked_load-link.ensures.told)
    (keeps_on _ _ _ (keeps_locked_load k _ _ _ _ _ c.locked_load-life.ensures.told)
    (keeps_on _ _ _ (keeps_locked_load k _ _ _ _ _ c.locked_load-left.ensures.told)
    (keeps_locked_load k _ _ _ _ _ c.locked_load-right.ensures.told))))
