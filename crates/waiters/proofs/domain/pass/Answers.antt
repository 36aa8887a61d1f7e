use Rattle.std.proofs.Common.{rules, ◌≡◌, ◌+◌, ◌%◌, arith, refl, sym, ap, subst, ◌∙◌}
use Rattle.seat_table.specs.declared.wait.Grace.{Grace}
use Rattle.seat_table.specs.Seats.{shape_of}
use Rattle.seat_table.specs.Waits.{IsGoingOn}
use Rattle.waiters.specs.declared.domain.Domain.{Domain}
use Rattle.seat_table.proofs.Waiting.{comes_to, goes_further, is_not_yet, finds_nothing, finds_then, finds_later}
use Rattle.seat_table.specs.Looks.{IsLater}
use Rattle.seat_table.specs.Waits.{reached}
use Rattle.waiters.proofs.DomainPolls.{later_then, later_next, looked_named, skips, passes_class}
use Rattle.waiters.proofs.domain.pass.Goals as goal

pub returns-then-not-meets_class-clause-passed : goal.returns-then-not-meets_class-clause-passed
returns-then-not-meets_class-clause-passed c = (
  ap (λ (z : Grace Domain). z.class) c.go_on.ensures,
  subst (λ (z : Grace Domain). IsGoingOn (shape_of 1 c.args.table.now) c.args.seat.now.view z c.args.seat.now.view) (sym c.go_on.ensures)
      (skips (shape_of 1 c.args.table.now) refl c.args.grace.now c.args.seat.now.view c.requires.small (search rules) c.requires.latest),
)

pub returns-in-Some-look-clause-met : goal.returns-in-Some-look-clause-met
returns-in-Some-look-clause-met c =
    is_not_yet (shape_of 1 c.args.table.now) c.args.seat.now.view c.turn.new.seat.view c.look.new.seat.view c.turn.new.grace
    c.in_default.ensures.turned.1 c.in-Some-look.why c.in-Some-look.ensures.there c.in-Some-look.ensures.met

pub returns-clause-passed : goal.returns-clause-passed
returns-clause-passed c =
    let come = c.in_default.ensures.turned.1 in
    let here = c.turn.new.grace in
    let next = c.go_on-2.new.grace in
    let same : here.class ≡ c.args.grace.now.class = ap (λ (z : Grace Domain). z.class) c.turn.ensures.grace in
    let latest = comes_to (shape_of 1 c.args.table.now) c.args.seat.now.view c.turn.new.seat.view here come in (
      ap (λ (z : Grace Domain). z.class) c.go_on-2.ensures ∙ ap (λ n. n + 1) same,
      goes_further (shape_of 1 c.args.table.now) c.args.seat.now.view c.turn.new.seat.view c.look.new.seat.view here next come
          (subst (λ (z : Grace Domain). IsGoingOn (shape_of 1 c.args.table.now) c.turn.new.seat.view z c.look.new.seat.view)
          (sym c.go_on-2.ensures)
          (passes_class (shape_of 1 c.args.table.now) refl here c.turn.new.seat.view c.look.new.seat.view (here.gate % 2)
          (omega (arith, same, c.requires.small)) c.in_default.ensures.turned.0 refl latest c.in_default-look.ensures.passed)),
    )

pub returns-then-not-meets_class-clause-later : goal.returns-then-not-meets_class-clause-later
returns-then-not-meets_class-clause-later c = subst (λ (z : Grace Domain). IsLater (reached c.args.grace.now) (reached z))
    (sym c.go_on.ensures) (later_next c.args.grace.now)

pub returns-in-Some-look-clause-onward : goal.returns-in-Some-look-clause-onward
returns-in-Some-look-clause-onward c = looked_named
    (reached c.args.grace.now) c.turn.new.grace c.turn.ensures.later c.turn.ensures.onward c.look.ensures.spot

pub returns-clause-onward : goal.returns-clause-onward
returns-clause-onward c =
    looked_named (reached c.args.grace.now) c.turn.new.grace c.turn.ensures.later c.turn.ensures.onward c.look.ensures.spot

pub returns-clause-later : goal.returns-clause-later
returns-clause-later c =
    let here = c.turn.new.grace in
    later_then (reached c.args.grace.now) (reached here) _ c.turn.ensures.later
    (subst (λ (z : Grace Domain). IsLater (reached here) (reached z)) (sym c.go_on-2.ensures) (later_next here))

pub returns-then-not-meets_class-clause-clear : goal.returns-then-not-meets_class-clause-clear
returns-then-not-meets_class-clause-clear c = finds_nothing

pub returns-in-Some-look-clause-once : goal.returns-in-Some-look-clause-once
returns-in-Some-look-clause-once c =
    finds_later (ap (λ (z : Grace Domain). z.keys) c.turn.ensures.grace) (ap (λ (z : Grace Domain). z.clock) c.turn.ensures.grace)
    c.in_default.ensures.clear c.in-Some-look.ensures.once

pub returns-clause-clear : goal.returns-clause-clear
returns-clause-clear c =
    finds_then (ap (λ (z : Grace Domain). z.keys) c.turn.ensures.grace) (ap (λ (z : Grace Domain). z.clock) c.turn.ensures.grace)
    c.in_default.ensures.clear c.in_default-look.ensures.clear
