use Rattle.std.proofs.Common.{Option, Some, None, refl, subst}
use Rattle.core_state.specs.declared.shape.Shape.{Shape}
use Rattle.seat_table.specs.Seats.{shape_of}
use Rattle.grace_cookie.specs.declared.answers.Ask.TheVariants.{Over, NotYet, GivenUp}
use Rattle.grace_cookie.specs.Cookies.{CookieAt}
use Rattle.tree_handles.specs.Keepers.{HasCookies}
use Rattle.tree_handles.proofs.Keepers.{answered_left, keeper_asked, cookies_asked, cookies_given_up}
use Rattle.tree_handles.proofs.keeper.tend.Goals as goal

pub ask-requires-clause-of : goal.ask-requires-clause-of
ask-requires-clause-of g c = (c.requires.keeper.each c.in_ok-held.held c.in_ok-held.was).0

pub give-requires-clause-keeper : goal.give-requires-clause-keeper
give-requires-clause-keeper g c =
    let k : Shape = shape_of g.W.WaitWords.WAY c.args.table.now in
    let was = (c.requires.keeper.each c.in_ok-held.held c.in_ok-held.was) in
    keeper_asked k c.in_ok-held.held c.ask.new.cookie c.ask.new.seat c.ask.ensures.cookie c.ask.ensures.of (c.ask.ensures.kept was.1) was.2

-- what was left of marks
pub returns-in-Over-clause-leaves : goal.returns-in-Over-clause-leaves
returns-in-Over-clause-leaves g c =
    let held = c.in_ok-held.held in
    answered_left (shape_of g.W.WaitWords.WAY c.args.table.now) c.args.keeper held c.args.seat.now Over c.ask.new.cookie c.ask.new.seat
    c.give.result c.give.new.seat c.in_ok-held.was (c.requires.keeper.each held c.in_ok-held.was).0 c.in-Over.ensures.asked
    c.give.ensures.gives

pub returns-in-NotYet-clause-leaves : goal.returns-in-NotYet-clause-leaves
returns-in-NotYet-clause-leaves g c =
    let held = c.in_ok-held.held in
    answered_left (shape_of g.W.WaitWords.WAY c.args.table.now) c.args.keeper held c.args.seat.now (NotYet c.in-NotYet.why) c.ask.new.cookie
    c.ask.new.seat (Some c.ask.new.cookie) c.ask.new.seat c.in_ok-held.was (c.requires.keeper.each held c.in_ok-held.was).0
    c.in-NotYet.ensures.asked (refl, refl)

pub returns-in-GivenUp-clause-leaves : goal.returns-in-GivenUp-clause-leaves
returns-in-GivenUp-clause-leaves g c =
    let held = c.in_ok-held.held in
    answered_left (shape_of g.W.WaitWords.WAY c.args.table.now) c.args.keeper held c.args.seat.now (GivenUp c.in-GivenUp.latest)
    c.ask.new.cookie c.ask.new.seat None c.ask.new.seat c.in_ok-held.was (c.requires.keeper.each held c.in_ok-held.was).0
    c.in-GivenUp.ensures.asked (refl, refl)

-- both cookies are good still
pub returns-in-Over-clause-cookies : goal.returns-in-Over-clause-cookies
returns-in-Over-clause-cookies g c = λ cookie has.
    (let k : Shape = shape_of g.W.WaitWords.WAY c.args.table.now in
    let held = c.in_ok-held.held in
    let was = (c.requires.keeper.each held c.in_ok-held.was) in
    let keeper = keeper_asked k held c.ask.new.cookie c.ask.new.seat c.ask.ensures.cookie c.ask.ensures.of (c.ask.ensures.kept was.1) was.2 in
    c.give.ensures.cookies cookie (cookies_asked k held c.args.seat.now Over c.ask.new.cookie c.ask.new.seat cookie c.in-Over.ensures.asked
    c.ask.ensures.seat.1 c.ask.ensures.cookie keeper
    (subst (λ (z : Option CookieAt). HasCookies k cookie z c.args.seat.now) c.in_ok-held.was has)))

pub returns-in-NotYet-clause-cookies : goal.returns-in-NotYet-clause-cookies
returns-in-NotYet-clause-cookies g c = λ cookie has.
    (let k : Shape = shape_of g.W.WaitWords.WAY c.args.table.now in
    let held = c.in_ok-held.held in
    let was = (c.requires.keeper.each held c.in_ok-held.was) in
    let keeper = keeper_asked k held c.ask.new.cookie c.ask.new.seat c.ask.ensures.cookie c.ask.ensures.of (c.ask.ensures.kept was.1) was.2 in
    cookies_asked k held c.args.seat.now (NotYet c.in-NotYet.why) c.ask.new.cookie c.ask.new.seat cookie c.in-NotYet.ensures.asked
    c.ask.ensures.seat.1 c.ask.ensures.cookie keeper
    (subst (λ (z : Option CookieAt). HasCookies k cookie z c.args.seat.now) c.in_ok-held.was has))

pub returns-in-GivenUp-clause-cookies : goal.returns-in-GivenUp-clause-cookies
returns-in-GivenUp-clause-cookies g c = λ cookie has.
    (let k : Shape = shape_of g.W.WaitWords.WAY c.args.table.now in
    let held = c.in_ok-held.held in
    cookies_given_up k held c.args.seat.now c.in-GivenUp.latest c.ask.new.cookie c.ask.new.seat cookie c.in-GivenUp.ensures.asked
    c.ask.ensures.seat.1 (subst (λ (z : Option CookieAt). HasCookies k cookie z c.args.seat.now) c.in_ok-held.was has))
