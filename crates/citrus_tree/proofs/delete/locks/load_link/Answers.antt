use Rattle.std.proofs.Common.{refl}
use Rattle.seat_table.specs.Seats.{shape_of}
use Rattle.core_points.specs.Programs.{with_found}
use Rattle.tree_points.proofs.Passing.{needs, passes}
use Rattle.citrus_tree.proofs.DeleteUpdates.{keeps_on, keeps_locked_load}
use Rattle.citrus_tree.proofs.DeleteSearches.{to_link, to_parent, needs_link_right, load_link_right, needs_link_left, load_link_left}
use Rattle.citrus_tree.proofs.delete.locks.load_link.Goals as goal

pub locked_load-successor_link-requires-clause-asks : goal.locked_load-successor_link-requires-clause-asks
locked_load-successor_link-requires-clause-asks g c =
    let d = c.args.node in
    let u = c.args.successor in
    needs_link_right d u c.args.found c.if-successor-node.true (to_link d u c.args.found c.if-successor-node.true (c.requires.at).2)

pub returns-then-successor-node-clause-at : goal.returns-then-successor-node-clause-at
returns-then-successor-node-clause-at g c = λ op kept a.
    (let d = c.args.node in
    let u = c.args.successor in
    load_link_right d u c.args.found c.if-successor-node.true
    (to_link d u c.args.found c.if-successor-node.true a) c.locked_load-successor_link.ensures.told)

pub returns-then-successor-node-clause-same : goal.returns-then-successor-node-clause-same
returns-then-successor-node-clause-same g c = keeps_locked_load
    (shape_of g.W.WaitWords.WAY c.args.table.now) _ _ _ _ _ c.locked_load-successor_link.ensures.told

pub locked_load-successor_parent_life-requires-clause-asks : goal.locked_load-successor_parent_life-requires-clause-asks
locked_load-successor_parent_life-requires-clause-asks g c =
    needs (to_parent c.args.node c.args.successor c.args.found c.if-successor-node.false (c.requires.at).2) refl

pub locked_load-successor_link-requires-2-clause-asks : goal.locked_load-successor_link-requires-2-clause-asks
locked_load-successor_link-requires-2-clause-asks g c =
    let d = c.args.node in
    let u = c.args.successor in
    needs_link_left d u (with_found c.args.found 5 c.locked_load-successor_parent_life.result) c.if-successor-node.false
    (passes (to_parent d u c.args.found c.if-successor-node.false
    (c.requires.at).2) refl c.locked_load-successor_parent_life.ensures.told)

pub returns-clause-at : goal.returns-clause-at
returns-clause-at g c = λ op kept a.
    (let d = c.args.node in
    let u = c.args.successor in
    load_link_left d u (with_found c.args.found 5 c.locked_load-successor_parent_life.result) c.if-successor-node.false
    (passes
    (to_parent d u c.args.found c.if-successor-node.false a) refl c.locked_load-successor_parent_life.ensures.told)
    c.locked_load-successor_link-2.ensures.told)

pub returns-clause-same : goal.returns-clause-same
returns-clause-same g c = keeps_on _ _ _ (keeps_locked_load
    (shape_of g.W.WaitWords.WAY c.args.table.now) _ _ _ _ _ c.locked_load-successor_parent_life.ensures.told)
    (keeps_locked_load (shape_of g.W.WaitWords.WAY c.args.table.now) _ _ _ _ _ c.locked_load-successor_link-2.ensures.told)
