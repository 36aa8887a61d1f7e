use Rattle.std.proofs.Common.{subst}
use Rattle.tree_turn.specs.Turns.{HasFilled}
use Rattle.tree_turn.proofs.Replaced.{bottom_held, bottom_free, settled_1, top_held, top_free, asks_mark_node, asks_mark_child, asks_rotate, replaced}
use Rattle.tree_turn.proofs.replacing.replace.Goals as goal

pub fill-requires-clause-held : goal.fill-requires-clause-held
fill-requires-clause-held g c =
    bottom_held c.requires.recorded c.requires.ready

pub fill-requires-clause-unlocked : goal.fill-requires-clause-unlocked
fill-requires-clause-unlocked g c =
    bottom_free c.requires.recorded c.requires.ready

pub fill-requires-clause-settled : goal.fill-requires-clause-settled
fill-requires-clause-settled g c =
    c.requires.ready.settled

pub fill-requires-2-clause-held : goal.fill-requires-2-clause-held
fill-requires-2-clause-held g c =
    let first = subst (λ z. HasFilled c.args.seat.now.view c.args.bottom c.args.turn.turn z c.fill.new.seat.view)
    c.lower_content.ensures c.fill.ensures.view in
    top_held c.requires.recorded c.requires.ready first

pub fill-requires-2-clause-unlocked : goal.fill-requires-2-clause-unlocked
fill-requires-2-clause-unlocked g c =
    let first = subst (λ z. HasFilled c.args.seat.now.view c.args.bottom c.args.turn.turn z c.fill.new.seat.view)
    c.lower_content.ensures c.fill.ensures.view in
    top_free c.requires.recorded c.requires.ready first

pub fill-requires-2-clause-settled : goal.fill-requires-2-clause-settled
fill-requires-2-clause-settled g c =
    let first = subst (λ z. HasFilled c.args.seat.now.view c.args.bottom c.args.turn.turn z c.fill.new.seat.view)
    c.lower_content.ensures c.fill.ensures.view in
    settled_1 c.requires.recorded c.requires.ready first

pub mark-requires-clause-asks : goal.mark-requires-clause-asks
mark-requires-clause-asks g c =
    let first = subst (λ z. HasFilled c.args.seat.now.view c.args.bottom c.args.turn.turn z c.fill.new.seat.view)
    c.lower_content.ensures c.fill.ensures.view in
    let second = subst (λ z. HasFilled c.fill.new.seat.view c.args.top c.args.turn.turn z c.fill-2.new.seat.view)
    c.upper_content.ensures c.fill-2.ensures.view in
    asks_mark_node c.requires.recorded c.requires.ready first second

pub mark-requires-2-clause-asks : goal.mark-requires-2-clause-asks
mark-requires-2-clause-asks g c =
    let first = subst (λ z. HasFilled c.args.seat.now.view c.args.bottom c.args.turn.turn z c.fill.new.seat.view)
    c.lower_content.ensures c.fill.ensures.view in
    let second = subst (λ z. HasFilled c.fill.new.seat.view c.args.top c.args.turn.turn z c.fill-2.new.seat.view)
    c.upper_content.ensures c.fill-2.ensures.view in
    asks_mark_child c.requires.recorded c.requires.ready first second c.mark.ensures.told

pub rotate-requires-clause-asks : goal.rotate-requires-clause-asks
rotate-requires-clause-asks g c =
    let first = subst (λ z. HasFilled c.args.seat.now.view c.args.bottom c.args.turn.turn z c.fill.new.seat.view)
    c.lower_content.ensures c.fill.ensures.view in
    let second = subst (λ z. HasFilled c.fill.new.seat.view c.args.top c.args.turn.turn z c.fill-2.new.seat.view)
    c.upper_content.ensures c.fill-2.ensures.view in
    asks_rotate c.requires.recorded c.requires.ready first second c.mark.ensures.told c.mark-2.ensures.told

pub returns-clause-view : goal.returns-clause-view
returns-clause-view g c =
    let first = subst (λ z. HasFilled c.args.seat.now.view c.args.bottom c.args.turn.turn z c.fill.new.seat.view)
    c.lower_content.ensures c.fill.ensures.view in
    let second = subst (λ z. HasFilled c.fill.new.seat.view c.args.top c.args.turn.turn z c.fill-2.new.seat.view)
    c.upper_content.ensures c.fill-2.ensures.view in
    replaced c.requires.recorded c.requires.ready first second c.mark.ensures.told c.mark-2.ensures.told c.rotate.ensures.told
