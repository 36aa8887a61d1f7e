use Rattle.std.proofs.Common.{refl}
use Rattle.core_state.specs.declared.act.Part.TheVariants as part
use Rattle.tree_turn.proofs.Standing.{asks_fill, fills_first, fills_more, asks_fill_next, all_filled}
use Rattle.tree_turn.proofs.replacing.fill.Goals as goal

pub fill-requires-clause-asks : goal.fill-requires-clause-asks
fill-requires-clause-asks g c = asks_fill c.args.slot part.Key c.args.content.key c.requires.held refl

pub fill-requires-2-clause-asks : goal.fill-requires-2-clause-asks
fill-requires-2-clause-asks g c =
    let one = fills_first c.requires.settled c.requires.unlocked part.Key _ c.fill.ensures.told in
    asks_fill_next c.requires.held one part.Value c.args.content.value refl

pub fill-requires-3-clause-asks : goal.fill-requires-3-clause-asks
fill-requires-3-clause-asks g c =
    let one = fills_first c.requires.settled c.requires.unlocked part.Key _ c.fill.ensures.told in
    let two = fills_more c.requires.settled c.requires.unlocked one part.Value _ c.fill-2.ensures.told in
    asks_fill_next c.requires.held two (part.Link c.args.turn) c.args.content.turn_link refl

pub fill-requires-4-clause-asks : goal.fill-requires-4-clause-asks
fill-requires-4-clause-asks g c =
    let one = fills_first c.requires.settled c.requires.unlocked part.Key _ c.fill.ensures.told in
    let two = fills_more c.requires.settled c.requires.unlocked one part.Value _ c.fill-2.ensures.told in
    let three = fills_more c.requires.settled c.requires.unlocked two (part.Link c.args.turn) _ c.fill-3.ensures.told in
    asks_fill_next c.requires.held three (part.Link c.across.result) c.args.content.other_link refl

pub returns-clause-view : goal.returns-clause-view
returns-clause-view g c =
    let one = fills_first c.requires.settled c.requires.unlocked part.Key _ c.fill.ensures.told in
    let two = fills_more c.requires.settled c.requires.unlocked one part.Value _ c.fill-2.ensures.told in
    let three = fills_more c.requires.settled c.requires.unlocked two (part.Link c.args.turn) _ c.fill-3.ensures.told in
    let four = fills_more c.requires.settled c.requires.unlocked three (part.Link c.across.result) _ c.fill-4.ensures.told in
    all_filled c.args.content c.across.ensures four
