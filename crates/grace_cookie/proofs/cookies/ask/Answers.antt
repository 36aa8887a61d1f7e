use Rattle.std.proofs.Common.{sym, ap, subst, ◌∙◌, refl}
use Rattle.core_state.specs.declared.shape.Shape.{Shape}
use Rattle.seat_table.specs.Looks.{FindsNone, FindsOnce, LooksAt, IsOnward, IsWithin}
use Rattle.seat_table.specs.Seats.{shape_of}
use Rattle.grace_cookie.specs.Cookies.{CookieAt}
use Rattle.grace_cookie.proofs.Keeping.{is_latest, found_over, found_going, over_of, over_kept, going_kept}
use Rattle.grace_cookie.proofs.cookies.ask.Goals as goal

pub returns-in-Over-clause-asked : goal.returns-in-Over-clause-asked
returns-in-Over-clause-asked g c =
    let k : Shape = shape_of g.W.WaitWords.WAY c.args.table.now in
    let was = sym (ap (λ (z : CookieAt). z.over) c.cookie.view_is) ∙ c.if-cookie.false in
    let latest = is_latest _ _ _ _ c.requires.of.begun c.waits-latest.ensures
    (ap (λ (z : CookieAt). z.count) c.cookie.view_is) c.if-latest-cookie.false in
    found_over k c.args.cookie.now c.args.seat.now.view c.poll.new.seat.view c.requires.of was latest c.in-Over.ensures.polled _ refl
    (subst (λ (z : CookieAt). FindsNone z.keys z.clock c.args.seat.now.view c.poll.new.seat.view) c.cookie.view_is c.in-Over.ensures.once)

pub returns-in-NotYet-clause-asked : goal.returns-in-NotYet-clause-asked
returns-in-NotYet-clause-asked g c =
    let k : Shape = shape_of g.W.WaitWords.WAY c.args.table.now in
    let was = sym (ap (λ (z : CookieAt). z.over) c.cookie.view_is) ∙ c.if-cookie.false in
    let latest = is_latest _ _ _ _ c.requires.of.begun c.waits-latest.ensures
    (ap (λ (z : CookieAt). z.count) c.cookie.view_is) c.if-latest-cookie.false in
    found_going k c.args.cookie.now c.args.seat.now.view c.poll.new.seat.view c.in-NotYet.why c.poll.new.grace _ c.requires.of was latest
    c.if-cookie.false refl c.in-NotYet.ensures.polled
    (subst (λ (z : CookieAt). FindsOnce z.keys z.clock c.args.seat.now.view c.in-NotYet.why c.poll.new.seat.view) c.cookie.view_is
    c.in-NotYet.ensures.once)

pub returns-in-Over-clause-of : goal.returns-in-Over-clause-of
returns-in-Over-clause-of g c =
    let k : Shape = shape_of g.W.WaitWords.WAY c.args.table.now in
    let is = c.cookie.view_is in
    let was = sym (ap (λ (z : CookieAt). z.over) is) ∙ c.if-cookie.false in
    let same = ap (λ (z : CookieAt). z.count) is in
    let latest = is_latest _ _ _ _ c.requires.of.begun c.waits-latest.ensures same c.if-latest-cookie.false in
    over_of k c.args.cookie.now c.args.seat.now.view c.poll.new.seat.view c.requires.of was latest c.in-Over.ensures.polled _ refl
    (c.in-Over.ensures.grace.0 ∙ ap (λ (z : CookieAt). z.keys) is) same

pub returns-in-Over-clause-kept : goal.returns-in-Over-clause-kept
returns-in-Over-clause-kept g c =
    let k : Shape = shape_of g.W.WaitWords.WAY c.args.table.now in
    let is = c.cookie.view_is in
    let was = sym (ap (λ (z : CookieAt). z.over) is) ∙ c.if-cookie.false in
    let same = ap (λ (z : CookieAt). z.count) is in
    let latest = is_latest _ _ _ _ c.requires.of.begun c.waits-latest.ensures same c.if-latest-cookie.false in
    over_kept k c.args.cookie.now c.args.seat.now.view c.poll.new.seat.view c.requires.of was latest c.in-Over.ensures.polled _
    c.args.seat.now c.poll.new.seat refl (c.in-Over.ensures.grace.0 ∙ ap (λ (z : CookieAt). z.keys) is) same
    (ap (λ (z : CookieAt). z.slots) is) refl refl c.in-Over.ensures.seat.1

pub returns-in-NotYet-clause-kept : goal.returns-in-NotYet-clause-kept
returns-in-NotYet-clause-kept g c =
    let p = c.in-NotYet.ensures.polled.on in
    let is = c.cookie.view_is in
    going_kept c.args.cookie.now _ c.args.seat.now.view c.poll.new.seat.view p.wait p.steps p.new c.args.seat.now c.poll.new.seat p.looked
    p.was (ap (λ (z : CookieAt). z.over) is) (c.in-NotYet.ensures.grace.0 ∙ ap (λ (z : CookieAt). z.keys) is)
    (ap (λ (z : CookieAt). z.count) is) (ap (λ (z : CookieAt). z.slots) is) refl refl c.in-NotYet.ensures.seat.1

pub returns-in-Over-clause-onward : goal.returns-in-Over-clause-onward
returns-in-Over-clause-onward g c =
    subst (λ (z : CookieAt). IsWithin z.keys z.reached.class → LooksAt (IsOnward z.reached) c.args.seat.now.view c.poll.new.seat.view)
    c.cookie.view_is c.in-Over.ensures.onward

pub returns-in-NotYet-clause-onward : goal.returns-in-NotYet-clause-onward
returns-in-NotYet-clause-onward g c =
    subst (λ (z : CookieAt). IsWithin z.keys z.reached.class → LooksAt (IsOnward z.reached) c.args.seat.now.view c.poll.new.seat.view)
    c.cookie.view_is c.in-NotYet.ensures.onward
