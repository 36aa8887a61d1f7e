use Rattle.citrus_tree.proofs.DeleteUpdates.{loads_on}
use Rattle.citrus_tree.proofs.DeleteSearches.{first_walk}
use Rattle.citrus_tree.proofs.delete.target.load_target.Goals as goal

pub walk-parent-requires-clause-at : goal.walk-parent-requires-clause-at
walk-parent-requires-clause-at g c =
    let a = c.requires.at in (
      a.0,
      a.1,
      first_walk c.load_node-node.result c.if-node-eq0.false c.if-node-eq0-2.false (c.load_node-node.ensures.at a.0 a.1 a.2),
    )

pub walk-parent-requires-clause-inside : goal.walk-parent-requires-clause-inside
walk-parent-requires-clause-inside g c = c.load_node-node.ensures.inside

pub returns-clause-inside : goal.returns-clause-inside
returns-clause-inside g c = c.load_successor-successor.ensures.inside

pub load_successor-successor-requires-clause-at : goal.load_successor-successor-requires-clause-at
load_successor-successor-requires-clause-at g c =
    let a = c.requires.at in (
      a.0,
      a.1,
      c.walk-parent.ensures.at a.0 a.1 (first_walk c.load_node-node.result c.if-node-eq0.false c.if-node-eq0-2.false
          (c.load_node-node.ensures.at a.0 a.1 a.2)),
    )

pub returns-clause-at : goal.returns-clause-at
returns-clause-at g c = λ op kept a.
    c.load_successor-successor.ensures.at op kept
    (c.walk-parent.ensures.at op kept (first_walk c.load_node-node.result c.if-node-eq0.false c.if-node-eq0-2.false
    (c.load_node-node.ensures.at op kept a)))

pub returns-clause-same : goal.returns-clause-same
returns-clause-same g c = loads_on _ _ _ c.load_node-node.ensures.same
    (loads_on _ _ _ c.walk-parent.ensures.same c.load_successor-successor.ensures.same)
