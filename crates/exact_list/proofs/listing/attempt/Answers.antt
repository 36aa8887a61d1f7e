use Rattle.std.proofs.Common.{arith, [], ◌∷◌, Some, None, sym, subst, ◌∙◌}
use Rattle.std.proofs.lemmas.Bool.{eqb-true}
use Rattle.seat_table.specs.Seats.{shape_of}
use Rattle.seat_table.proofs.SeveralSteps.{told_steps, makes_steps}
use Rattle.exact_list.proofs.Loading.{loaded_anyway, if_err}
use Rattle.exact_list.specs.Tries.{Gathers}
use Rattle.exact_list.proofs.Trying.{first_try, loaded_try, may_look, begun_listing, looks_twice, tried_once, moved_at_first, tried_twice, moved_between, recent, holds_whole, holds_part, beside_none, stood}
use Rattle.exact_list.proofs.listing.attempt.Goals as goal

pub returns-in-None-clause-holds : goal.returns-in-None-clause-holds
returns-in-None-clause-holds g c =
    let z = looks_twice c.low.ensures.low c.enter.ensures.entered c.look_at_front-first.ensures.told c.in_ok-next.ensures.gathered.0
    c.look_at_front-last.ensures.told c.leave-2.ensures.left c.requires.outside in
    holds_whole z (beside_none z c.if-last-first.false (sym c.linking.ensures ∙ c.if-linking.false)) c.front_of-front.ensures g.D.Direction.SIDE c.args.keys.now c.gather-gathered.new.page
    c.in_ok-next.ensures.page.1
    (subst (Gathers g.D.Direction.SIDE z.loads.after c.args.keys.now c.gather-gathered.new.page) c.in-None.is c.in_ok-next.ensures.gathered.1)

pub returns-in-Some-clause-holds : goal.returns-in-Some-clause-holds
returns-in-Some-clause-holds g c =
    let z = looks_twice c.low.ensures.low c.enter.ensures.entered c.look_at_front-first.ensures.told c.in_ok-next.ensures.gathered.0
    c.look_at_front-last.ensures.told c.leave-2.ensures.left c.requires.outside in
    holds_part z (beside_none z c.if-last-first.false (sym c.linking.ensures ∙ c.if-linking.false)) c.front_of-front.ensures g.D.Direction.SIDE c.args.keys.now c.in-Some.next c.gather-gathered.new.page
    (subst (Gathers g.D.Direction.SIDE z.loads.after c.args.keys.now c.gather-gathered.new.page) c.in-Some.is c.in_ok-next.ensures.gathered.1)

pub returns-in-None-clause-recent : goal.returns-in-None-clause-recent
returns-in-None-clause-recent g c =
    let z = looks_twice c.low.ensures.low c.enter.ensures.entered c.look_at_front-first.ensures.told c.in_ok-next.ensures.gathered.0
    c.look_at_front-last.ensures.told c.leave-2.ensures.left c.requires.outside in
    recent z (beside_none z c.if-last-first.false (sym c.linking.ensures ∙ c.if-linking.false)) c.front_of-front.ensures

pub returns-in-Some-clause-recent : goal.returns-in-Some-clause-recent
returns-in-Some-clause-recent g c =
    let z = looks_twice c.low.ensures.low c.enter.ensures.entered c.look_at_front-first.ensures.told c.in_ok-next.ensures.gathered.0
    c.look_at_front-last.ensures.told c.leave-2.ensures.left c.requires.outside in
    recent z (beside_none z c.if-last-first.false (sym c.linking.ensures ∙ c.if-linking.false)) c.front_of-front.ensures

pub returns-then-linking-clause-tried : goal.returns-then-linking-clause-tried
returns-then-linking-clause-tried g c =
    let k = shape_of g.W.WaitWords.WAY c.args.table.now in
    let v = c.args.seat.now.view in
    let key = c.args.keys.now.low in
    let first = c.look_at_front-first.result in
    let a = c.look_at_front-first.new.seat.view in
    let i = first_try k v key c.low.result c.enter.new.seat.view first a c.low.ensures.low c.enter.ensures.entered
    c.look_at_front-first.ensures.told in (
      record { first = first; second = None },
      tried_once k v key first a i c.leave.new.seat.view c.leave.ensures.left c.requires.outside,
      moved_at_first k v key first a i c.leave.new.seat.view c.leave.ensures.left c.requires.outside
          (eqb-true _ 1 (sym c.linking.ensures ∙ c.if-linking.true)),
    )

pub gather-gathered-requires-clause-listing : goal.gather-gathered-requires-clause-listing
gather-gathered-requires-clause-listing g c =
    let k = shape_of g.W.WaitWords.WAY c.args.table.now in
    let v = c.args.seat.now.view in
    let key = c.args.keys.now.low in
    let i = first_try k v key c.low.result c.enter.new.seat.view c.look_at_front-first.result c.look_at_front-first.new.seat.view
    c.low.ensures.low c.enter.ensures.entered c.look_at_front-first.ensures.told in
    begun_listing v key c.look_at_front-first.result c.look_at_front-first.new.seat.view i

pub look_at_front-last-requires-clause-asks : goal.look_at_front-last-requires-clause-asks
look_at_front-last-requires-clause-asks g c = λ told.
    let k = shape_of g.W.WaitWords.WAY c.args.table.now in
    let v = c.args.seat.now.view in
    let key = c.args.keys.now.low in
    let first = c.look_at_front-first.result in
    let a = c.look_at_front-first.new.seat.view in
    let b = c.gather-gathered.new.seat.view in
    let i = first_try k v key c.low.result c.enter.new.seat.view first a c.low.ensures.low c.enter.ensures.entered
    c.look_at_front-first.ensures.told in
    may_look v key (first ∷ []) b (loaded_try v key (first ∷ []) a i b
    (loaded_anyway _ c.gather-gathered.result c.gather-gathered.ensures.gathered c.gather-gathered.ensures.left_off)) k

pub returns-in_err-next-clause-left_off : goal.returns-in_err-next-clause-left_off
returns-in_err-next-clause-left_off g c =
    let z = looks_twice c.low.ensures.low c.enter.ensures.entered c.look_at_front-first.ensures.told c.in_err-next.ensures.left_off
    c.look_at_front-last.ensures.told c.leave-2.ensures.left c.requires.outside in
    if_err c.from_residual.result (record { first = c.look_at_front-first.result; second = Some c.look_at_front-last.result }, tried_twice z)

pub returns-in_err-next-clause-tired : goal.returns-in_err-next-clause-tired
returns-in_err-next-clause-tired g c =
    let made = c.in_err-next.ensures.tired in
    let look = told_steps c.look_at_front-last.ensures.told in
    let leave = makes_steps c.look_at_front-last.new.seat.view c.leave-2.new.seat.view c.leave-2.ensures.left.made in
    if_err c.from_residual.result (omega (arith, made, look, leave))

pub returns-then-last-first-clause-tried : goal.returns-then-last-first-clause-tried
returns-then-last-first-clause-tried g c =
    let z = looks_twice c.low.ensures.low c.enter.ensures.entered c.look_at_front-first.ensures.told c.in_ok-next.ensures.gathered.0
    c.look_at_front-last.ensures.told c.leave-2.ensures.left c.requires.outside in (
      record { first = c.look_at_front-first.result; second = Some c.look_at_front-last.result },
      tried_twice z,
      moved_between z (sym c.linking.ensures ∙ c.if-linking.false) (omega (arith, c.if-last-first.true)),
    )

pub returns-in-None-clause-tried : goal.returns-in-None-clause-tried
returns-in-None-clause-tried g c =
    let z = looks_twice c.low.ensures.low c.enter.ensures.entered c.look_at_front-first.ensures.told c.in_ok-next.ensures.gathered.0
    c.look_at_front-last.ensures.told c.leave-2.ensures.left c.requires.outside in (
      record { first = c.look_at_front-first.result; second = Some c.look_at_front-last.result },
      tried_twice z,
      stood z c.if-last-first.false (sym c.linking.ensures ∙ c.if-linking.false) c.front_of-front.ensures,
    )

pub returns-in-Some-clause-tried : goal.returns-in-Some-clause-tried
returns-in-Some-clause-tried g c =
    let z = looks_twice c.low.ensures.low c.enter.ensures.entered c.look_at_front-first.ensures.told c.in_ok-next.ensures.gathered.0
    c.look_at_front-last.ensures.told c.leave-2.ensures.left c.requires.outside in (
      record { first = c.look_at_front-first.result; second = Some c.look_at_front-last.result },
      tried_twice z,
      stood z c.if-last-first.false (sym c.linking.ensures ∙ c.if-linking.false) c.front_of-front.ensures,
    )
