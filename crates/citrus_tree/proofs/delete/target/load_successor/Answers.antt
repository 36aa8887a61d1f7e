use Rattle.std.proofs.Common.{refl}
use Rattle.seat_table.specs.Seats.{shape_of}
use Rattle.tree_points.proofs.Passing.{needs}
use Rattle.citrus_tree.proofs.DeleteSearches.{successor_loaded}
use Rattle.citrus_tree.proofs.DeleteUpdates.{loads_on, loads_search_load}
use Rattle.citrus_tree.proofs.delete.target.load_successor.Goals as goal

pub search_load-life-requires-clause-asks : goal.search_load-life-requires-clause-asks
search_load-life-requires-clause-asks g c =
    needs (c.load_above-parent_generation.ensures.at _ _ (c.requires.at).2) refl

pub returns-clause-at : goal.returns-clause-at
returns-clause-at g c = λ op kept a.
    successor_loaded c.args.node c.args.parent c.args.slot c.load_above-parent_generation.result c.generation_of.result
    c.generation_of.ensures (c.load_above-parent_generation.ensures.at op kept a) c.search_load-life.ensures.told

pub returns-clause-same : goal.returns-clause-same
returns-clause-same g c = loads_on _ _ _ c.load_above-parent_generation.ensures.same
    (loads_search_load (shape_of g.W.WaitWords.WAY c.args.table.now) _ _ _ _ _ c.search_load-life.ensures.told)
