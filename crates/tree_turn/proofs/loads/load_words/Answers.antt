use Rattle.std.proofs.Common.{refl}
use Rattle.core_state.specs.declared.act.Part.TheVariants as part
use Rattle.tree_turn.proofs.Standing.{asks_load, reads_first, reads_more, asks_next}
use Rattle.tree_turn.proofs.Replaced.{parent_locked, node_locked, node_stays, node_settled, child_locked, child_stays, child_settled, all_loaded}
use Rattle.tree_turn.proofs.loads.load_words.Goals as goal

pub locked_load-parent_life-requires-clause-asks : goal.locked_load-parent_life-requires-clause-asks
locked_load-parent_life-requires-clause-asks g c =
    let r = c.requires in
    asks_load c.args.turn.parent part.Life (parent_locked r.three r.locked r.aside r.settled) refl

pub locked_load-link-requires-clause-asks : goal.locked_load-link-requires-clause-asks
locked_load-link-requires-clause-asks g c =
    let r = c.requires in
    let one = reads_first r.settled r.aside.parent_aside part.Life _ c.locked_load-parent_life.ensures.told in
    asks_next (parent_locked r.three r.locked r.aside r.settled) one (part.Link c.args.turn.side) refl

pub load_node-node-requires-clause-held : goal.load_node-node-requires-clause-held
load_node-node-requires-clause-held g c =
    let r = c.requires in
    let one = reads_first r.settled r.aside.parent_aside part.Life _ c.locked_load-parent_life.ensures.told in
    let two = reads_more r.settled r.aside.parent_aside one (part.Link c.args.turn.side) _ c.locked_load-link.ensures.told in
    node_locked r.three r.locked r.aside r.settled two

pub load_node-node-requires-clause-aside : goal.load_node-node-requires-clause-aside
load_node-node-requires-clause-aside g c =
    let r = c.requires in
    let one = reads_first r.settled r.aside.parent_aside part.Life _ c.locked_load-parent_life.ensures.told in
    let two = reads_more r.settled r.aside.parent_aside one (part.Link c.args.turn.side) _ c.locked_load-link.ensures.told in
    node_stays r.three r.locked r.aside r.settled two

pub load_node-node-requires-clause-settled : goal.load_node-node-requires-clause-settled
load_node-node-requires-clause-settled g c =
    let r = c.requires in
    let one = reads_first r.settled r.aside.parent_aside part.Life _ c.locked_load-parent_life.ensures.told in
    let two = reads_more r.settled r.aside.parent_aside one (part.Link c.args.turn.side) _ c.locked_load-link.ensures.told in
    node_settled r.three r.locked r.aside r.settled two

pub load_node-child-requires-clause-held : goal.load_node-child-requires-clause-held
load_node-child-requires-clause-held g c =
    let r = c.requires in
    let one = reads_first r.settled r.aside.parent_aside part.Life _ c.locked_load-parent_life.ensures.told in
    let two = reads_more r.settled r.aside.parent_aside one (part.Link c.args.turn.side) _ c.locked_load-link.ensures.told in
    child_locked r.three r.locked r.aside r.settled two c.load_node-node.result c.load_node-node.ensures.view

pub load_node-child-requires-clause-aside : goal.load_node-child-requires-clause-aside
load_node-child-requires-clause-aside g c =
    let r = c.requires in
    let one = reads_first r.settled r.aside.parent_aside part.Life _ c.locked_load-parent_life.ensures.told in
    let two = reads_more r.settled r.aside.parent_aside one (part.Link c.args.turn.side) _ c.locked_load-link.ensures.told in
    child_stays r.three r.locked r.aside r.settled two c.load_node-node.result c.load_node-node.ensures.view

pub load_node-child-requires-clause-settled : goal.load_node-child-requires-clause-settled
load_node-child-requires-clause-settled g c =
    let r = c.requires in
    let one = reads_first r.settled r.aside.parent_aside part.Life _ c.locked_load-parent_life.ensures.told in
    let two = reads_more r.settled r.aside.parent_aside one (part.Link c.args.turn.side) _ c.locked_load-link.ensures.told in
    child_settled r.three r.locked r.aside r.settled two c.load_node-node.result c.load_node-node.ensures.view

pub returns-clause-view : goal.returns-clause-view
returns-clause-view g c =
    let r = c.requires in
    let one = reads_first r.settled r.aside.parent_aside part.Life _ c.locked_load-parent_life.ensures.told in
    let two = reads_more r.settled r.aside.parent_aside one (part.Link c.args.turn.side) _ c.locked_load-link.ensures.told in
    all_loaded r.three r.locked r.aside r.settled two c.load_node-node.result c.load_node-node.ensures.view c.load_node-child.result
    c.load_node-child.ensures.view
