use Rattle.std.proofs.Common.{refl}
use Rattle.core_state.specs.declared.act.Part.TheVariants as part
use Rattle.tree_turn.proofs.Standing.{asks_load, reads_first, reads_more, asks_next, node_loaded}
use Rattle.tree_turn.proofs.loads.load_node.Goals as goal

pub locked_load-life-requires-clause-asks : goal.locked_load-life-requires-clause-asks
locked_load-life-requires-clause-asks g c = asks_load c.args.slot part.Life c.requires.held refl

pub locked_load-key-requires-clause-asks : goal.locked_load-key-requires-clause-asks
locked_load-key-requires-clause-asks g c =
    let one = reads_first c.requires.settled c.requires.aside part.Life _ c.locked_load-life.ensures.told in
    asks_next c.requires.held one part.Key refl

pub locked_load-value-requires-clause-asks : goal.locked_load-value-requires-clause-asks
locked_load-value-requires-clause-asks g c =
    let one = reads_first c.requires.settled c.requires.aside part.Life _ c.locked_load-life.ensures.told in
    let two = reads_more c.requires.settled c.requires.aside one part.Key _ c.locked_load-key.ensures.told in
    asks_next c.requires.held two part.Value refl

pub locked_load-turn_link-requires-clause-asks : goal.locked_load-turn_link-requires-clause-asks
locked_load-turn_link-requires-clause-asks g c =
    let one = reads_first c.requires.settled c.requires.aside part.Life _ c.locked_load-life.ensures.told in
    let two = reads_more c.requires.settled c.requires.aside one part.Key _ c.locked_load-key.ensures.told in
    let three = reads_more c.requires.settled c.requires.aside two part.Value _ c.locked_load-value.ensures.told in
    asks_next c.requires.held three (part.Link c.args.turn) refl

pub locked_load-other_link-requires-clause-asks : goal.locked_load-other_link-requires-clause-asks
locked_load-other_link-requires-clause-asks g c =
    let one = reads_first c.requires.settled c.requires.aside part.Life _ c.locked_load-life.ensures.told in
    let two = reads_more c.requires.settled c.requires.aside one part.Key _ c.locked_load-key.ensures.told in
    let three = reads_more c.requires.settled c.requires.aside two part.Value _ c.locked_load-value.ensures.told in
    let four = reads_more c.requires.settled c.requires.aside three (part.Link c.args.turn) _ c.locked_load-turn_link.ensures.told in
    asks_next c.requires.held four (part.Link c.across.result) refl

pub returns-clause-view : goal.returns-clause-view
returns-clause-view g c =
    let one = reads_first c.requires.settled c.requires.aside part.Life _ c.locked_load-life.ensures.told in
    let two = reads_more c.requires.settled c.requires.aside one part.Key _ c.locked_load-key.ensures.told in
    let three = reads_more c.requires.settled c.requires.aside two part.Value _ c.locked_load-value.ensures.told in
    let four = reads_more c.requires.settled c.requires.aside three (part.Link c.args.turn) _ c.locked_load-turn_link.ensures.told in
    let five = reads_more c.requires.settled c.requires.aside four (part.Link c.across.result) _ c.locked_load-other_link.ensures.told in
    node_loaded _ c.across.ensures five
