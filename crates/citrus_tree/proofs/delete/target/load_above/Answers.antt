use Rattle.std.proofs.Common.{refl}
use Rattle.seat_table.specs.Seats.{shape_of}
use Rattle.tree_points.proofs.Passing.{needs}
use Rattle.citrus_tree.proofs.DeleteSearches.{at_node, at_other, above_loaded}
use Rattle.citrus_tree.proofs.DeleteUpdates.{loads_self, loads_search_load}
use Rattle.citrus_tree.proofs.delete.target.load_above.Goals as goal

pub returns-then-parent-node-clause-at : goal.returns-then-parent-node-clause-at
returns-then-parent-node-clause-at g c = λ op kept a. at_node c.args.node c.args.parent c.args.slot c.if-parent-node.true a

pub returns-then-parent-node-clause-same : goal.returns-then-parent-node-clause-same
returns-then-parent-node-clause-same g c = loads_self c.args.seat.now.view

pub search_load-requires-clause-asks : goal.search_load-requires-clause-asks
search_load-requires-clause-asks g c = needs
    (at_other c.args.node c.args.parent c.args.slot c.if-parent-node.false (c.requires.at).2) refl

pub returns-clause-at : goal.returns-clause-at
returns-clause-at g c = λ op kept a. above_loaded c.args.node c.args.parent c.args.slot c.generation_of.result c.generation_of.ensures
    (at_other c.args.node c.args.parent c.args.slot c.if-parent-node.false a) c.search_load.ensures.told

pub returns-clause-same : goal.returns-clause-same
returns-clause-same g c = loads_search_load (shape_of g.W.WaitWords.WAY c.args.table.now) _ _ _ _ _ c.search_load.ensures.told
