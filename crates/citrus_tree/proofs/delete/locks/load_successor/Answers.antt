use Rattle.std.proofs.Common.{refl}
use Rattle.seat_table.specs.Seats.{shape_of}
use Rattle.tree_points.proofs.Passing.{needs, passes}
use Rattle.citrus_tree.proofs.DeleteUpdates.{keeps_on, keeps_locked_load}
use Rattle.citrus_tree.proofs.delete.locks.load_successor.Goals as goal

pub locked_load-successor_life-requires-clause-asks : goal.locked_load-successor_life-requires-clause-asks
locked_load-successor_life-requires-clause-asks g c =
    needs (c.load_link-found.ensures.at _ _ (c.requires.at).2) refl

pub locked_load-successor_left-requires-clause-asks : goal.locked_load-successor_left-requires-clause-asks
locked_load-successor_left-requires-clause-asks g c =
    needs (passes (c.load_link-found.ensures.at _ _ (c.requires.at).2) refl c.locked_load-successor_life.ensures.told) refl

pub returns-clause-at : goal.returns-clause-at
returns-clause-at g c = λ op kept a. passes
    (passes
    (c.load_link-found.ensures.at op kept a) refl c.locked_load-successor_life.ensures.told) refl c.locked_load-successor_left.ensures.told

pub returns-clause-same : goal.returns-clause-same
returns-clause-same g c = keeps_on _ _ _ c.load_link-found.ensures.same
    (keeps_on _ _ _ (keeps_locked_load (shape_of g.W.WaitWords.WAY c.args.table.now) _ _ _ _ _ c.locked_load-successor_life.ensures.told)
    (keeps_locked_load (shape_of g.W.WaitWords.WAY c.args.table.now) _ _ _ _ _ c.locked_load-successor_left.ensures.told))
