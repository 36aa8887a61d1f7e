use Rattle.std.proofs.Common.{◌≡◌, inr, ◌+◌, refl, sym, ap, subst, arith}
use Rattle.seat_table.specs.declared.wait.Grace.{Grace}
use Rattle.seat_table.specs.Seats.{shape_of}
use Rattle.seat_table.proofs.Waiting.{is_not_yet, finds_then, finds_later}
use Rattle.waiters.specs.declared.deer.Deer.{Deer}
use Rattle.waiters.specs.Classes.{IsImage}
use Rattle.waiters.proofs.DeerRows.{looked_row, next_place}
use Rattle.waiters.proofs.deer.pass_place.Goals as goal

pub returns-in-Some-look-clause-met : goal.returns-in-Some-look-clause-met
returns-in-Some-look-clause-met c = is_not_yet
    (shape_of 2 c.args.table.now) c.args.seat.now.view c.come_to_last.new.seat.view c.look.new.seat.view c.come_to_last.new.grace
    c.in_default.ensures.passed.1 c.in-Some-look.why c.in-Some-look.ensures.there c.in-Some-look.ensures.met

pub returns-clause-passed : goal.returns-clause-passed
returns-clause-passed c =
    let keys = ap (λ (z : Grace Deer). z.keys) (sym c.come_to_last.ensures.grace) in
    let place = ap (λ (z : Grace Deer). z.place) c.come_to_last.ensures.grace in (
      ap (λ n. n + 1) place,
      next_place (shape_of 2 c.args.table.now) refl c.come_to_last.new.grace c.args.seat.now.view c.come_to_last.new.seat.view
          c.in_default.ensures.passed.1 c.look.new.seat.view c.args.image.now
          (subst (λ z. IsImage z c.args.image.now) keys c.requires.image) c.in_default.ensures.passed.0 c.in_default-look.ensures.passed
          (omega (arith, place, c.requires.inside)),
    )

pub returns-in-Some-look-clause-onward : goal.returns-in-Some-look-clause-onward
returns-in-Some-look-clause-onward c = λ most.
    let here : Grace Deer = c.come_to_last.new.grace in
    let place : c.args.grace.now.place ≡ here.place = ap (λ (z : Grace Deer). z.place) (sym c.come_to_last.ensures.grace) in
    looked_row c.args.grace.now.place c.args.grace.now.class here.place here.class
    (inr (place, omega (arith, most, c.in_default.ensures.passed.0))) c.come_to_last.ensures.onward c.look.ensures.spot

pub returns-clause-onward : goal.returns-clause-onward
returns-clause-onward c = λ most.
    let here : Grace Deer = c.come_to_last.new.grace in
    let place : c.args.grace.now.place ≡ here.place = ap (λ (z : Grace Deer). z.place) (sym c.come_to_last.ensures.grace) in
    looked_row c.args.grace.now.place c.args.grace.now.class here.place here.class
    (inr (place, omega (arith, most, c.in_default.ensures.passed.0))) c.come_to_last.ensures.onward c.look.ensures.spot

pub returns-in-Some-look-clause-once : goal.returns-in-Some-look-clause-once
returns-in-Some-look-clause-once c =
    finds_later (ap (λ (z : Grace Deer). z.keys) c.come_to_last.ensures.grace)
    (ap (λ (z : Grace Deer). z.clock) c.come_to_last.ensures.grace) c.in_default.ensures.clear c.in-Some-look.ensures.once

pub returns-clause-clear : goal.returns-clause-clear
returns-clause-clear c =
    finds_then (ap (λ (z : Grace Deer). z.keys) c.come_to_last.ensures.grace)
    (ap (λ (z : Grace Deer). z.clock) c.come_to_last.ensures.grace) c.in_default.ensures.clear c.in_default-look.ensures.clear
