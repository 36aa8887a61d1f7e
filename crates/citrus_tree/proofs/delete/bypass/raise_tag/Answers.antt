use Rattle.std.proofs.Common.{refl}
use Rattle.seat_table.specs.Seats.{shape_of}
use Rattle.tree_points.proofs.Passing.{needs, passes}
use Rattle.citrus_tree.proofs.DeleteUpdates.{keeps_on, keeps_locked_load, keeps_raise_tag}
use Rattle.citrus_tree.proofs.delete.bypass.raise_tag.Goals as goal

pub locked_load-tag-requires-clause-asks : goal.locked_load-tag-requires-clause-asks
locked_load-tag-requires-clause-asks g c = needs ((c.requires.at).1).2 refl

pub raise_tag-requires-clause-asks : goal.raise_tag-requires-clause-asks
raise_tag-requires-clause-asks g c = needs
    (passes ((c.requires.at).1).2 refl c.locked_load-tag.ensures.told) refl

pub returns-clause-at : goal.returns-clause-at
returns-clause-at g c = λ number op kept a. passes
    (passes a refl c.locked_load-tag.ensures.told) refl c.raise_tag.ensures.told

pub returns-clause-same : goal.returns-clause-same
returns-clause-same g c =
    let k = shape_of g.W.WaitWords.WAY c.args.table.now in
    keeps_on c.args.seat.now.view c.locked_load-tag.new.seat.view c.raise_tag.new.seat.view
    (keeps_locked_load k _ _ _ _ _ c.locked_load-tag.ensures.told) (keeps_raise_tag k _ _ _ _ _ _ c.raise_tag.ensures.told)
