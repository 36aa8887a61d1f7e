use Rattle.std.proofs.Common.{refl}
use Rattle.seat_table.specs.Seats.{shape_of}
use Rattle.tree_points.proofs.Passing.{needs, passes}
use Rattle.citrus_tree.proofs.DeleteSearches.{node_loaded}
use Rattle.citrus_tree.proofs.DeleteUpdates.{loads_on, loads_search_load}
use Rattle.citrus_tree.proofs.delete.target.load_node.Goals as goal

pub search_load-parent_life-requires-clause-asks : goal.search_load-parent_life-requires-clause-asks
search_load-parent_life-requires-clause-asks g c = needs (c.requires.at).2 refl

pub search_load-life-requires-clause-asks : goal.search_load-life-requires-clause-asks
search_load-life-requires-clause-asks g c =
    needs (passes (c.requires.at).2 refl c.search_load-parent_life.ensures.told) refl

pub search_load-left-requires-clause-asks : goal.search_load-left-requires-clause-asks
search_load-left-requires-clause-asks g c =
    needs (passes (passes
    (c.requires.at).2 refl c.search_load-parent_life.ensures.told) refl c.search_load-life.ensures.told) refl

pub search_load-right-requires-clause-asks : goal.search_load-right-requires-clause-asks
search_load-right-requires-clause-asks g c =
    needs (passes (passes
    (passes
    (c.requires.at).2 refl c.search_load-parent_life.ensures.told) refl c.search_load-life.ensures.told) refl c.search_load-left.ensures.told) refl

pub returns-clause-at : goal.returns-clause-at
returns-clause-at g c =
    λ op kept a. node_loaded c.args.parent c.args.slot c.generation_of.result c.generation_of-2.result c.args.side c.generation_of.ensures
    c.generation_of-2.ensures a
    c.search_load-parent_life.ensures.told c.search_load-life.ensures.told c.search_load-left.ensures.told c.search_load-right.ensures.told

pub returns-clause-inside : goal.returns-clause-inside
returns-clause-inside g c = (c.search_load-right.ensures.told).stood

pub returns-clause-same : goal.returns-clause-same
returns-clause-same g c =
    let k = (shape_of g.W.WaitWords.WAY c.args.table.now) in
    loads_on _ _ _ (loads_search_load k _ _ _ _ _ c.search_load-parent_life.ensures.told)
    (loads_on _ _ _ (loads_search_load k _ _ _ _ _ c.search_load-life.ensures.told)
    (loads_on _ _ _ (loads_search_load k _ _ _ _ _ c.search_load-left.ensures.told)
    (loads_search_load k _ _ _ _ _ c.search_load-right.ensures.told)))
