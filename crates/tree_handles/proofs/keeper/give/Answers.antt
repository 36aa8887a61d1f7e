use Rattle.std.proofs.Common.{Some, arith, ap, inl, inr, refl, sym, ◌∙◌}
use Rattle.core_state.specs.declared.shape.Shape.{Shape}
use Rattle.seat_table.specs.Seats.{shape_of}
use Rattle.grace_cookie.specs.Cookies.{CookieAt}
use Rattle.grace_cookie.proofs.Keeping.{quiet_unraised}
use Rattle.tree_handles.proofs.Keepers.{cookies_given, left_keeper}
use Rattle.tree_handles.proofs.keeper.give.Goals as goal

pub give_some-requires-clause-of : goal.give_some-requires-clause-of
give_some-requires-clause-of g c = (c.requires.keeper.each c.args.keeper refl).0

pub give_some-requires-clause-kept : goal.give_some-requires-clause-kept
give_some-requires-clause-kept g c = (c.requires.keeper.each c.args.keeper refl).1

pub give_some-requires-clause-everybody : goal.give_some-requires-clause-everybody
give_some-requires-clause-everybody g c = (c.requires.keeper.each c.args.keeper refl).2

pub give_some-requires-clause-unraised : goal.give_some-requires-clause-unraised
give_some-requires-clause-unraised g c = quiet_unraised c.args.seat.now.view c.requires.quiet.view _

-- no slot is left, and so no keeper
pub returns-then-slots-eq0-clause-gives : goal.returns-then-slots-eq0-clause-gives
returns-then-slots-eq0-clause-gives g c =
    let left = ap (λ (z : CookieAt). z.slots) c.give_some.ensures.cookie in (
      c.most_to_give-most.result,
      c.give_some.result,
      c.most_to_give-most.ensures.most,
      c.give_some.ensures.many,
      c.give_some.ensures.back,
      inl (sym left ∙ sym c.slots.ensures ∙ c.if-slots-eq0.true, refl),
    )

pub returns-then-slots-eq0-clause-cookies : goal.returns-then-slots-eq0-clause-cookies
returns-then-slots-eq0-clause-cookies g c = λ cookie has.
    (let k : Shape = shape_of g.W.WaitWords.WAY c.args.table.now in
    let now = c.give_some.new.cookie in
    let keys = ap (λ (z : CookieAt). z.keys) c.give_some.ensures.cookie ∙ (c.requires.keeper.each c.args.keeper refl).2 in
    let stays = inl (sym c.slots.ensures ∙ c.if-slots-eq0.true, refl) in
    cookies_given k c.args.keeper now c.give_some.result c.args.seat.now c.give_some.new.seat _ cookie c.give_some.ensures.back stays
    (ap (λ (z : CookieAt). z.count) c.give_some.ensures.cookie)
    (left_keeper k now _ c.give_some.new.seat stays c.give_some.ensures.of c.give_some.ensures.kept keys) has)

-- others are left, and it is kept for them
pub returns-clause-gives : goal.returns-clause-gives
returns-clause-gives g c =
    let left = ap (λ (z : CookieAt). z.slots) c.give_some.ensures.cookie in (
      c.most_to_give-most.result,
      c.give_some.result,
      c.most_to_give-most.ensures.most,
      c.give_some.ensures.many,
      c.give_some.ensures.back,
      inr (
        omega (arith, left, c.slots.ensures, c.if-slots-eq0.false),
        ap (λ (z : CookieAt). Some z) c.give_some.ensures.cookie,
      ),
    )

pub returns-clause-cookies : goal.returns-clause-cookies
returns-clause-cookies g c = λ cookie has.
    (let k : Shape = shape_of g.W.WaitWords.WAY c.args.table.now in
    let now = c.give_some.new.cookie in
    let keys = ap (λ (z : CookieAt). z.keys) c.give_some.ensures.cookie ∙ (c.requires.keeper.each c.args.keeper refl).2 in
    let stays = inr (omega (arith, c.slots.ensures, c.if-slots-eq0.false), refl) in
    cookies_given k c.args.keeper now c.give_some.result c.args.seat.now c.give_some.new.seat _ cookie c.give_some.ensures.back stays
    (ap (λ (z : CookieAt). z.count) c.give_some.ensures.cookie)
    (left_keeper k now _ c.give_some.new.seat stays c.give_some.ensures.of c.give_some.ensures.kept keys) has)
