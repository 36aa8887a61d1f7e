use Rattle.std.proofs.Common.{sym, ap, subst, ◌∙◌, Option, Some, None, inl, inr, refl, rules}
use Rattle.std_alloc.specs.Arc.{arc_value}
use Rattle.seat_table.specs.Looks.{LooksAt, IsOnward, IsWithin}
use Rattle.seat_table.specs.Seats.{TableAt, shape_of}
use Rattle.grace_cookie.specs.Cookies.{Asked, CookieAt, IsOf}
use Rattle.grace_cookie.specs.declared.answers.Ask.TheVariants.{Over, NotYet, GivenUp}
use Rattle.tree_handles.specs.Holds.{CannotAsk}
use Rattle.tree_handles.specs.Callers.{CallerAt, MayGoOn}
use Rattle.tree_handles.specs.Keepers.{HasCookies}
use Rattle.tree_handles.specs.Lists.{IsLeft}
use Rattle.tree_handles.proofs.Keepers.{cookies_polled}
use Rattle.tree_handles.proofs.Callers.{given_up}
use Rattle.tree_handles.proofs.caller.Caller.poll.Goals as goal

pub ask-requires-clause-of : goal.ask-requires-clause-of
ask-requires-clause-of g c =
    let kept = ap (λ (z : CallerAt). z.lost) c.self.view_is ∙ c.in_default.ensures.none.kept in
    let has = (c.self.invariant.2 kept).of_user.each c.in-Some-take.cookie (sym c.take.ensures.value ∙ c.in-Some-take.is) in
    subst (λ t. IsOf (shape_of g.W.WaitWords.WAY t) c.in-Some-take.cookie c.self.inside.seat.view)
    (sym (c.table.ensures ∙ c.deref.ensures)) has.1

pub returns-in-GivenUp : goal.returns-in-GivenUp
returns-in-GivenUp g c =
    let e = c.in-GivenUp.ensures in
    let base : CallerAt = record {
      way = g.W.WaitWords.WAY;
      table = arc_value c.self.inside.shared;
      salt = c.self.inside.salt;
      seat = c.self.inside.seat;
      lost = c.self.inside.lost;
      cookie = c.self.inside.cookie;
      keeper = c.self.inside.keeper;
    } in
    subst (λ (z : CallerAt). CannotAsk z c.args.number
    × IsLeft z (record base { seat = c.ask.new.seat; cookie = Some c.ask.new.cookie })) c.self.view_is
    (given_up base c.args.number c.in-GivenUp.latest c.in-Some-take.cookie c.ask.new.cookie c.ask.new.seat
    (subst MayGoOn (sym c.self.view_is) c.in_default.ensures.none) (sym c.take.ensures.value ∙ c.in-Some-take.is)
    (sym c.number.ensures ∙ c.if-number.false) e.asked e.given_up)

pub returns-in-Over : goal.returns-in-Over
returns-in-Over g c =
    let from = c.in-Some-take.cookie in record {
      index = search rules;
      keeper = search rules;
      before = search rules;
      cookie = from;
      was = search rules;
      number_is = search rules;
      going = search rules;
      now = c.ask.new.cookie;
      same = search rules;
      asked = search rules;
      onward = subst (λ (z : CallerAt). IsWithin from.keys from.reached.class → LooksAt (IsOnward from.reached) z.seat.view
          c.ask.new.seat.view) c.self.view_is c.ask.ensures.onward;
      kept = search rules;
      after = search rules;
    }

pub returns-in-NotYet : goal.returns-in-NotYet
returns-in-NotYet g c =
    let from = c.in-Some-take.cookie in (
      c.in-NotYet.why,
      record {
        index = search rules;
        keeper = search rules;
        before = search rules;
        cookie = from;
        was = search rules;
        number_is = search rules;
        going = search rules;
        now = c.ask.new.cookie;
        same = search rules;
        asked = search rules;
        onward = subst (λ (z : CallerAt). IsWithin from.keys from.reached.class → LooksAt (IsOnward from.reached) z.seat.view
            c.ask.new.seat.view) c.self.view_is c.ask.ensures.onward;
        kept = search rules;
        after = search rules;
      },
    )

-- The keeper is good still, beside what becomes of the user's cookie.
pub invariant_of-self-in-Over : goal.invariant_of-self-in-Over
invariant_of-self-in-Over g c = (
  search rules,
  search rules,
  λ kept. (let from = c.in-Some-take.cookie in
      let shared = arc_value c.self.inside.shared in
      subst (λ (z : Option CookieAt). HasCookies (shape_of g.W.WaitWords.WAY shared) z c.self.inside.keeper c.ask.new.seat)
      (sym c.take.ensures.after)
      (cookies_polled (shape_of g.W.WaitWords.WAY shared) from c.self.inside.seat Over c.ask.new.cookie c.ask.new.seat None
      c.self.inside.keeper
      (subst (λ (t : TableAt). Asked (shape_of g.W.WaitWords.WAY t) from c.self.inside.seat.view Over c.ask.new.cookie c.ask.new.seat.view)
      (c.table.ensures ∙ c.deref.ensures) c.in-Over.ensures.asked)
      c.ask.ensures.seat.1 c.ask.ensures.cookie (record { each = λ other e. absurd (cc) }) (inl refl)
      (subst (λ (z : Option CookieAt). HasCookies (shape_of g.W.WaitWords.WAY shared) z c.self.inside.keeper c.self.inside.seat)
      (sym c.take.ensures.value ∙ c.in-Some-take.is) (c.self.invariant.2 kept)))),
)

pub invariant_of-self-in-NotYet : goal.invariant_of-self-in-NotYet
invariant_of-self-in-NotYet g c = (
  search rules,
  search rules,
  λ kept. (let from = c.in-Some-take.cookie in
      let shared = arc_value c.self.inside.shared in
      cookies_polled (shape_of g.W.WaitWords.WAY shared) from c.self.inside.seat (NotYet c.in-NotYet.why) c.ask.new.cookie c.ask.new.seat (Some c.ask.new.cookie)
      c.self.inside.keeper
      (subst (λ (t : TableAt). Asked (shape_of g.W.WaitWords.WAY t) from c.self.inside.seat.view (NotYet c.in-NotYet.why) c.ask.new.cookie c.ask.new.seat.view)
      (c.table.ensures ∙ c.deref.ensures) c.in-NotYet.ensures.asked)
      c.ask.ensures.seat.1 c.ask.ensures.cookie (search rules) (inr refl)
      (subst (λ (z : Option CookieAt). HasCookies (shape_of g.W.WaitWords.WAY shared) z c.self.inside.keeper c.self.inside.seat)
      (sym c.take.ensures.value ∙ c.in-Some-take.is) (c.self.invariant.2 kept))),
)

pub invariant_of-self-in-GivenUp : goal.invariant_of-self-in-GivenUp
invariant_of-self-in-GivenUp g c = (
  search rules,
  search rules,
  λ kept. (let from = c.in-Some-take.cookie in
      let shared = arc_value c.self.inside.shared in
      cookies_polled (shape_of g.W.WaitWords.WAY shared) from c.self.inside.seat (GivenUp c.in-GivenUp.latest) c.ask.new.cookie c.ask.new.seat (Some c.ask.new.cookie)
      c.self.inside.keeper
      (subst (λ (t : TableAt). Asked (shape_of g.W.WaitWords.WAY t) from c.self.inside.seat.view (GivenUp c.in-GivenUp.latest) c.ask.new.cookie c.ask.new.seat.view)
      (c.table.ensures ∙ c.deref.ensures) c.in-GivenUp.ensures.asked)
      c.ask.ensures.seat.1 c.ask.ensures.cookie (search rules) (inr refl)
      (subst (λ (z : Option CookieAt). HasCookies (shape_of g.W.WaitWords.WAY shared) z c.self.inside.keeper c.self.inside.seat)
      (sym c.take.ensures.value ∙ c.in-Some-take.is) (c.self.invariant.2 kept))),
)
