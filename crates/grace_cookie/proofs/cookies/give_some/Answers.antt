use Rattle.std.proofs.Common.{◌≡◌, ◌≤◌, ◌-◌, ◌∙◌, length, take, min, sym, ap, subst, arith}
use Rattle.seat_table.specs.Seats.{shape_of}
use Rattle.grace_cookie.specs.Cookies.{CookieAt, AreUnraised, IsOf, HasKept}
use Rattle.grace_cookie.proofs.Keeping.{first_quiet}
use Rattle.grace_cookie.proofs.Giving.{gives_first, many_first, some_ready, still_kept, still_of}
use Rattle.grace_cookie.proofs.cookies.give_some.Goals as goal

pub give_back-requires-clause-ready : goal.give_back-requires-clause-ready
give_back-requires-clause-ready g c =
    let slots = ap (λ (z : CookieAt). z.slots) c.cookie.view_is in
    let many : c.min-count.result ≡ min c.args.cookie.now.slots c.args.most =
    c.min-count.ensures ∙ ap (λ m. min m c.args.most) slots in
    some_ready c.args.cookie.now c.args.seat.now c.min-count.result (omega (arith, many)) c.requires.over c.requires.kept c.requires.everybody
    (subst (λ n. AreUnraised c.args.seat.now.view (take n c.args.seat.now.listed)) (sym many) c.requires.unraised)

pub returns-clause-back : goal.returns-clause-back
returns-clause-back g c =
    let slots = ap (λ (z : CookieAt). z.slots) c.cookie.view_is in
    let many : c.min-count.result ≡ min c.args.cookie.now.slots c.args.most =
    c.min-count.ensures ∙ ap (λ m. min m c.args.most) slots in
    gives_first c.args.cookie.now c.args.seat.now c.min-count.result (omega (arith, many)) c.requires.over c.requires.kept c.give_back.new.seat
    c.give_back.ensures.view c.give_back.ensures.listed

pub returns-clause-of : goal.returns-clause-of
returns-clause-of g c =
    let slots = ap (λ (z : CookieAt). z.slots) c.cookie.view_is in
    let many : c.min-count.result ≡ min c.args.cookie.now.slots c.args.most =
    c.min-count.ensures ∙ ap (λ m. min m c.args.most) slots in
    let k = shape_of g.W.WaitWords.WAY c.args.table.now in
    subst (λ (z : CookieAt). IsOf k z c.give_back.new.seat.view)
    (sym (ap (λ (z : CookieAt). record z { slots = z.slots - c.min-count.result }) c.cookie.view_is))
    (still_of c.args.cookie.now c.args.seat.now c.min-count.result (omega (arith, many)) c.requires.over c.requires.kept c.give_back.new.seat
    c.give_back.ensures.view c.give_back.ensures.listed k c.requires.of)

pub returns-clause-kept : goal.returns-clause-kept
returns-clause-kept g c =
    let slots = ap (λ (z : CookieAt). z.slots) c.cookie.view_is in
    let many : c.min-count.result ≡ min c.args.cookie.now.slots c.args.most =
    c.min-count.ensures ∙ ap (λ m. min m c.args.most) slots in
    subst (λ (z : CookieAt). HasKept z c.give_back.new.seat)
    (sym (ap (λ (z : CookieAt). record z { slots = z.slots - c.min-count.result }) c.cookie.view_is))
    (still_kept c.args.cookie.now c.args.seat.now c.min-count.result (omega (arith, many)) c.requires.over c.requires.kept c.give_back.new.seat
    c.give_back.ensures.view c.give_back.ensures.listed)

pub returns-clause-quiet : goal.returns-clause-quiet
returns-clause-quiet g c = first_quiet c.min-count.result c.args.seat.now c.give_back.new.seat (returns-clause-back g c)

pub returns-clause-reuse : goal.returns-clause-reuse
returns-clause-reuse g c some =
    let slots = ap (λ (z : CookieAt). z.slots) c.cookie.view_is in
    let many : c.min-count.result ≡ min c.args.cookie.now.slots c.args.most =
    c.min-count.ensures ∙ ap (λ m. min m c.args.most) slots in
    c.give_back.ensures.reuse (subst (λ n. 1 ≤ n) (sym (many_first c.args.cookie.now c.args.seat.now c.min-count.result (omega (arith, many))
    c.requires.over c.requires.kept)) some)
