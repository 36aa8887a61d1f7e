use Rattle.std.proofs.Common.{inl, refl, sym, ap, subst}
use Rattle.core_state.specs.declared.shape.Shape.{Shape}
use Rattle.core_state.specs.declared.view.View.{View}
use Rattle.seat_table.specs.Seats.{SeatAt, shape_of}
use Rattle.seat_table.proofs.SeveralSteps.{needs_raise}
use Rattle.node_slots.specs.Slots.{PutsBack}
use Rattle.node_slots.proofs.Takes.{slot_is, hand_inside, unraised_there, frees, puts_back}
use Rattle.node_slots.proofs.slots.put_back.Goals as goal

pub load_own_life-life-requires-clause-asks : goal.load_own_life-life-requires-clause-asks
load_own_life-life-requires-clause-asks g c = λ told.
    let k : Shape = shape_of g.W.WaitWords.WAY c.args.table.now in
    let h = c.requires.hand in
    let is = slot_is _ h.0 c.in-Some.slot h.1 c.in-Some.ensures in
    (hand_inside k _ h.0 c.in-Some.slot told h.1 is, (h.0, inl (h.1, sym is)))

pub raise_in_hand-requires-clause-asks : goal.raise_in_hand-requires-clause-asks
raise_in_hand-requires-clause-asks g c = λ told.
    let k : Shape = shape_of g.W.WaitWords.WAY c.args.table.now in
    let h = c.requires.hand in
    let is = slot_is _ h.0 c.in-Some.slot h.1 c.in-Some.ensures in
    let hand = unraised_there k _ h.0 c.in-Some.slot _ (h.1, sym is) h.2 c.requires.paid _ c.load_own_life-life.ensures.told in
    (hand_inside k _ hand.held c.in-Some.slot told hand.in_hand.0 (sym hand.in_hand.1), needs_raise _ c.in-Some.slot _ _ refl hand)

pub free_in_hand-requires-clause-asks : goal.free_in_hand-requires-clause-asks
free_in_hand-requires-clause-asks g c = λ told.
    let k : Shape = shape_of g.W.WaitWords.WAY c.args.table.now in
    let h = c.requires.hand in
    let is = slot_is _ h.0 c.in-Some.slot h.1 c.in-Some.ensures in
    let free = frees k _ h.0 c.in-Some.slot _ (
      h.1,
      sym is,
    ) h.2 c.requires.paid _ c.load_own_life-life.ensures.told _ c.raise_in_hand.ensures.told in
    (hand_inside k _ free.0 c.in-Some.slot told free.1.in_hand.0 (sym free.1.in_hand.1), free)

pub count_free-requires-clause-asks : goal.count_free-requires-clause-asks
count_free-requires-clause-asks g c = λ told. (tt, ap (λ (z : View). z.hands.owes) c.free_in_hand.ensures.told.goes)

pub returns-clause-view : goal.returns-clause-view
returns-clause-view g c = λ held e.
    let k : Shape = shape_of g.W.WaitWords.WAY c.args.table.now in
    let h = c.requires.hand in
    let is = slot_is _ h.0 c.in-Some.slot h.1 c.in-Some.ensures in
    subst (λ (z : SeatAt). PutsBack c.args.seat.now.view held.slot z.view) (sym c.note_freed.ensures)
    (subst (λ s. PutsBack c.args.seat.now.view s c.count_free.new.seat.view) (slot_is _ held c.in-Some.slot e c.in-Some.ensures)
    (puts_back k _ h.0 c.in-Some.slot _ (
      h.1,
      sym is,
    ) h.2 c.requires.paid _ c.load_own_life-life.ensures.told _ c.raise_in_hand.ensures.told _ _ c.count_free.ensures.told.0
    c.free_in_hand.ensures.told c.count_free.ensures.told.1))
