use Rattle.std.proofs.Common.{refl, sym, ◌∙◌, inl, inr, arith, [], ◌∷◌, Some, None}
use Rattle.std.proofs.lemmas.Bool.{eqb-true}
use Rattle.seat_table.specs.Seats.{shape_of}
use Rattle.seat_table.proofs.SeveralSteps.{told_steps, makes_steps}
use Rattle.exact_list.proofs.Loading.{loaded_anyway, if_err}
use Rattle.exact_list.proofs.Trying.{first_try, loaded_try, may_look, begun_listing, is_even, looks_twice, tried_once, tried_twice, beside_none, came_twice, is_told}
use Rattle.exact_list.proofs.nearest.look_for.Goals as goal

pub seek_pair-sought-requires-clause-listing : goal.seek_pair-sought-requires-clause-listing
seek_pair-sought-requires-clause-listing g c =
    let k = shape_of g.W.WaitWords.WAY c.args.table.now in
    let v = c.args.seat.now.view in
    let first = c.look_at_front-first.result in
    let a = c.look_at_front-first.new.seat.view in
    let i = first_try k v c.args.from c.args.from c.enter.new.seat.view first a refl c.enter.ensures.entered
    c.look_at_front-first.ensures.told in
    begun_listing v c.args.from first a i

pub look_at_front-last-requires-clause-asks : goal.look_at_front-last-requires-clause-asks
look_at_front-last-requires-clause-asks g c = λ told.
    let k = shape_of g.W.WaitWords.WAY c.args.table.now in
    let v = c.args.seat.now.view in
    let first = c.look_at_front-first.result in
    let a = c.look_at_front-first.new.seat.view in
    let b = c.seek_pair-sought.new.seat.view in
    let i = first_try k v c.args.from c.args.from c.enter.new.seat.view first a refl c.enter.ensures.entered
    c.look_at_front-first.ensures.told in
    may_look v c.args.from (first ∷ []) b (loaded_try v c.args.from (first ∷ []) a i b
    (loaded_anyway _ c.seek_pair-sought.result c.seek_pair-sought.ensures.found c.seek_pair-sought.ensures.left_off)) k

pub returns-then-linking-clause-tried : goal.returns-then-linking-clause-tried
returns-then-linking-clause-tried g c =
    let k = shape_of g.W.WaitWords.WAY c.args.table.now in
    let v = c.args.seat.now.view in
    let first = c.look_at_front-first.result in
    let a = c.look_at_front-first.new.seat.view in
    let i = first_try k v c.args.from c.args.from c.enter.new.seat.view first a refl c.enter.ensures.entered
    c.look_at_front-first.ensures.told in (
      record { first = first; second = None },
      tried_once k v c.args.from first a i c.leave.new.seat.view c.leave.ensures.left c.requires.outside,
      inl (eqb-true _ 1 (sym c.linking.ensures ∙ c.if-linking.true), refl),
    )

pub returns-in_err-pair-clause-left_off : goal.returns-in_err-pair-clause-left_off
returns-in_err-pair-clause-left_off g c =
    let z = looks_twice refl c.enter.ensures.entered c.look_at_front-first.ensures.told c.in_err-pair.ensures.left_off
    c.look_at_front-last.ensures.told c.leave-2.ensures.left c.requires.outside in
    if_err c.from_residual.result (record { first = c.look_at_front-first.result; second = Some c.look_at_front-last.result }, tried_twice z)

pub returns-in_err-pair-clause-tired : goal.returns-in_err-pair-clause-tired
returns-in_err-pair-clause-tired g c =
    let made = c.in_err-pair.ensures.tired in
    let look = told_steps c.look_at_front-last.ensures.told in
    let leave = makes_steps c.look_at_front-last.new.seat.view c.leave-2.new.seat.view c.leave-2.ensures.left.made in
    if_err c.from_residual.result (omega (arith, made, look, leave))

pub returns-then-last-first-clause-tried : goal.returns-then-last-first-clause-tried
returns-then-last-first-clause-tried g c =
    let z = looks_twice refl c.enter.ensures.entered c.look_at_front-first.ensures.told c.in_ok-pair.ensures.found.0
    c.look_at_front-last.ensures.told c.leave-2.ensures.left c.requires.outside in
    let first = c.look_at_front-first.result in
    let n = c.look_at_front-last.result in (
      record { first = first; second = Some n },
      tried_twice z,
      inr (is_even first (sym c.linking.ensures ∙ c.if-linking.false), (n, refl, omega (arith, c.if-last-first.true))),
    )

pub returns-clause-tried : goal.returns-clause-tried
returns-clause-tried g c =
    let z = looks_twice refl c.enter.ensures.entered c.look_at_front-first.ensures.told c.in_ok-pair.ensures.found.0
    c.look_at_front-last.ensures.told c.leave-2.ensures.left c.requires.outside in
    let first = c.look_at_front-first.result in
    let n = c.look_at_front-last.result in (
      record { first = first; second = Some n },
      tried_twice z,
      came_twice first n c.front_of.result c.if-last-first.false (sym c.linking.ensures ∙ c.if-linking.false) c.front_of.ensures,
    )

pub returns-clause-told : goal.returns-clause-told
returns-clause-told g c =
    let z = looks_twice refl c.enter.ensures.entered c.look_at_front-first.ensures.told c.in_ok-pair.ensures.found.0
    c.look_at_front-last.ensures.told c.leave-2.ensures.left c.requires.outside in
    is_told z (beside_none z c.if-last-first.false (sym c.linking.ensures ∙ c.if-linking.false)) c.front_of.ensures c.args.side c.args.from
    c.in_ok-pair.pair c.in_ok-pair.ensures.found.1
