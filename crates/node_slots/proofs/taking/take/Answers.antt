use Rattle.std.proofs.Common.{◌≡◌, ℕ, ◌≤◌, ap, subst, ◌∙◌}
use Rattle.core_state.specs.declared.view.View.{View}
use Rattle.seat_table.specs.Seats.{shape_of}
use Rattle.node_slots.specs.Taking.{TriesFor}
use Rattle.node_slots.specs.declared.answers.Taken.TheVariants.{Empty, Slot}
use Rattle.node_slots.proofs.Takes.{got_later, taken, tries_noted, tries_round}
use Rattle.node_slots.proofs.taking.take.Goals as goal

-- the slot that was taken is the one that was seized
empty_slot : (slot generation : ℕ) → Empty ≡ Slot slot generation → ⊥
empty_slot slot generation e = cc

is_inside : (last : ℕ) {found generation slot age : ℕ} → (1 ≤ found) × (found ≤ last) → Slot found generation ≡ Slot slot age
    → (1 ≤ slot) × (slot ≤ last)
is_inside last {found} {slot = slot} inside e = (let is : found ≡ slot = cc in subst (λ s. (1 ≤ s) × (s ≤ last)) is inside)

pub returns-then-not-branch-clause-view : goal.returns-then-not-branch-clause-view
returns-then-not-branch-clause-view g c = c.in_ok-reserve_some.ensures.none c.if-not-branch.true

pub returns-then-not-branch-clause-tries : goal.returns-then-not-branch-clause-tries
returns-then-not-branch-clause-tries g c = c.in_ok-reserve_some.ensures.in_vain c.if-not-branch.true

pub returns-then-not-branch-clause-inside : goal.returns-then-not-branch-clause-inside
returns-then-not-branch-clause-inside g c slot generation e = absurd (empty_slot slot generation e)

pub seize_noted-requires-clause-reserved : goal.seize_noted-requires-clause-reserved
seize_noted-requires-clause-reserved g c =
    ap (λ (z : View). z.hands.reserved) (c.in_ok-reserve_some.ensures.reserved c.if-not-branch.false).rest

pub returns-in-Some-clause-inside : goal.returns-in-Some-clause-inside
returns-in-Some-clause-inside g c slot generation e = is_inside _ c.in-Some.ensures.inside e

pub scan-requires-clause-reserved : goal.scan-requires-clause-reserved
scan-requires-clause-reserved g c = ap (λ (z : View). z.hands.reserved) c.in_default.ensures.none.rest
    ∙ ap (λ (z : View). z.hands.reserved) (c.in_ok-reserve_some.ensures.reserved c.if-not-branch.false).rest

pub returns-clause-inside : goal.returns-clause-inside
returns-clause-inside g c slot generation e = is_inside _ c.in_ok-found.ensures.inside e

pub returns-clause-view : goal.returns-clause-view
returns-clause-view g c =
    taken _ _ _ _ _ c.requires.unreserved (c.in_ok-reserve_some.ensures.reserved c.if-not-branch.false)
    (got_later _ _ _ _ _ c.in_default.ensures.none c.in_ok-found.ensures.got)

pub returns-clause-tries : goal.returns-clause-tries
returns-clause-tries g c =
    subst (λ looked. TriesFor
    (shape_of g.W.WaitWords.WAY c.args.table.now) c.args.seat.now.view looked c.in_ok-found.found.slot c.scan.new.seat.view
    c.scan.new.seat.looked) c.reserve_some.ensures.seat.2
    (tries_round _ _ _ _ _ (c.in_ok-reserve_some.ensures.at_last c.if-not-branch.false) _ _ _ _ c.in_default.ensures.misses
    c.in_ok-found.ensures.finds)

pub returns-in-Some-clause-view : goal.returns-in-Some-clause-view
returns-in-Some-clause-view g c = taken _ _ _ _ _ c.requires.unreserved
    (c.in_ok-reserve_some.ensures.reserved c.if-not-branch.false) c.in-Some.ensures.got

pub returns-in-Some-clause-tries : goal.returns-in-Some-clause-tries
returns-in-Some-clause-tries g c =
    subst (λ looked. TriesFor
    (shape_of g.W.WaitWords.WAY c.args.table.now) c.args.seat.now.view looked c.in-Some.field-0.slot c.seize_noted.new.seat.view
    c.seize_noted.new.seat.looked) c.reserve_some.ensures.seat.2
    (tries_noted _ _ _ _ _ (c.in_ok-reserve_some.ensures.at_last c.if-not-branch.false) _ _ c.in-Some.ensures.finds)
