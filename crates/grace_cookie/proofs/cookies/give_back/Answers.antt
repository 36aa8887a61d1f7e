use Rattle.std.proofs.Common.{◌≡◌, ◌≤◌, length, sym, ap, subst, inr, arith}
use Rattle.node_slots.specs.Reclaiming.{AreReady, GivesBack, first_slots, without_slots}
use Rattle.grace_cookie.specs.Cookies.{CookieAt, AreKept}
use Rattle.grace_cookie.proofs.Keeping.{all_ready, for_good, gives_some, some_first, back_quiet}
use Rattle.grace_cookie.proofs.cookies.give_back.Goals as goal

pub give_back-requires-clause-ready : goal.give_back-requires-clause-ready
give_back-requires-clause-ready g c =
    subst (λ n. AreReady c.args.seat.now.view (first_slots n c.args.seat.now.listed))
    (sym (ap (λ (z : CookieAt). z.slots) c.cookie.view_is))
    (all_ready c.args.cookie c.args.seat.now (for_good c.args.cookie c.args.seat.now c.requires.over c.requires.kept) c.requires.everybody
    c.requires.over c.requires.unraised)

pub returns-clause-back : goal.returns-clause-back
returns-clause-back g c =
    let slots = ap (λ (z : CookieAt). z.slots) c.cookie.view_is in
    let some : 1 ≤ c.args.cookie.slots = subst (λ n. 1 ≤ n) slots (omega (arith, c.if-cookie-eq0.false)) in
    let gives = subst (λ n. GivesBack c.args.seat.now.view
    (first_slots n c.args.seat.now.listed) c.give_back.new.seat.view) slots c.give_back.ensures.view in
    let listed = subst (λ n. c.give_back.new.seat.listed
    ≡ without_slots (first_slots n c.args.seat.now.listed) c.args.seat.now.listed) slots c.give_back.ensures.listed in
    inr (gives_some c.args.cookie c.args.seat.now (for_good c.args.cookie c.args.seat.now c.requires.over c.requires.kept) _
    c.give_back.new.seat some slots gives listed)

pub returns-clause-quiet : goal.returns-clause-quiet
returns-clause-quiet g c = back_quiet c.args.cookie c.args.seat.now _ c.give_back.new.seat (returns-clause-back g c)

pub returns-clause-reuse : goal.returns-clause-reuse
returns-clause-reuse g c = λ _.
    (let slots = ap (λ (z : CookieAt). z.slots) c.cookie.view_is in
    let some : 1 ≤ c.args.cookie.slots = subst (λ n. 1 ≤ n) slots (omega (arith, c.if-cookie-eq0.false)) in
    c.give_back.ensures.reuse (subst (λ n. 1 ≤ length (first_slots n c.args.seat.now.listed)) (sym slots)
    (some_first c.args.cookie c.args.seat.now (for_good c.args.cookie c.args.seat.now c.requires.over c.requires.kept) some)))
