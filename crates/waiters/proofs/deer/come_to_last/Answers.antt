use Rattle.std.proofs.Common.{◌≡◌, inr, refl, sym, ap, subst, ◌∙◌, arith}
use Rattle.key_interval.specs.Keys.{MeetsClass}
use Rattle.seat_table.specs.declared.wait.Grace.{Grace}
use Rattle.seat_table.specs.Seats.{shape_of}
use Rattle.waiters.specs.declared.deer.Deer.{Deer}
use Rattle.waiters.specs.Classes.{IsImage}
use Rattle.seat_table.proofs.Waiting.{comes_to, goes_further, stops_further, finds_then, finds_later}
use Rattle.waiters.proofs.DeerRows.{looked_rows, skips_gap, goes_back}
use Rattle.waiters.proofs.deer.come_to_last.Goals as goal

pub pass-requires-2-clause-latest : goal.pass-requires-2-clause-latest
pass-requires-2-clause-latest c =
    let same = ap (λ (z : Grace Deer). z.keys) (sym c.pass.ensures.grace) in
    let come = skips_gap
    (shape_of 2 c.args.table.now) refl c.pass.new.grace c.args.seat.now.view c.pass.new.seat.view c.in_default.ensures.passed.1
    c.skip_gap.new.grace c.args.image.now (subst
    (λ z. IsImage z c.args.image.now) same c.requires.image) c.skip_gap.ensures c.in_default.ensures.passed.0 in
    comes_to (shape_of 2 c.args.table.now) c.args.seat.now.view c.pass.new.seat.view c.skip_gap.new.grace come

pub pass-requires-2-clause-each : goal.pass-requires-2-clause-each
pass-requires-2-clause-each c = λ x least less.
    let same = ap (λ (z : Grace Deer). z.keys) (sym c.pass.ensures.grace) in
    let after = ap (λ (z : Grace Deer). z.keys) (sym c.skip_gap.ensures.stays) in
    subst (λ z. MeetsClass z x) (same ∙ after) (c.requires.image.second x (let b = c.skip_gap.ensures.beyond in omega (arith, b, least))
    (omega (arith, less)))

pub returns-in-Some-pass-clause-met : goal.returns-in-Some-pass-clause-met
returns-in-Some-pass-clause-met c =
    let same = ap (λ (z : Grace Deer). z.keys) (sym c.pass.ensures.grace) in
    let come = skips_gap
    (shape_of 2 c.args.table.now) refl c.pass.new.grace c.args.seat.now.view c.pass.new.seat.view c.in_default.ensures.passed.1
    c.skip_gap.new.grace c.args.image.now (subst
    (λ z. IsImage z c.args.image.now) same c.requires.image) c.skip_gap.ensures c.in_default.ensures.passed.0 in
    stops_further
    (shape_of 2 c.args.table.now) c.args.seat.now.view c.pass.new.seat.view c.pass-2.new.seat.view c.skip_gap.new.grace
    c.pass-2.new.grace come c.in-Some-pass.why c.in-Some-pass.ensures.met

pub returns-in-Some-pass-clause-onward : goal.returns-in-Some-pass-clause-onward
returns-in-Some-pass-clause-onward c =
    let p = c.args.grace.now.place in
    let after : Grace Deer = c.skip_gap.new.grace in
    let here : p ≡ after.place = ap (λ (z : Grace Deer). z.place) (sym c.pass.ensures.grace)
    ∙ ap (λ (z : Grace Deer). z.place) (sym c.skip_gap.ensures.stays) in
    looked_rows p c.args.grace.now.class after.place after.class
    (inr (here, omega (arith, c.pass.ensures.later, c.skip_gap.ensures.later))) c.pass.ensures.onward c.pass-2.ensures.onward

pub returns-clause-onward : goal.returns-clause-onward
returns-clause-onward c =
    let p = c.args.grace.now.place in
    let after : Grace Deer = c.skip_gap.new.grace in
    let here : p ≡ after.place = ap (λ (z : Grace Deer). z.place) (sym c.pass.ensures.grace)
    ∙ ap (λ (z : Grace Deer). z.place) (sym c.skip_gap.ensures.stays) in
    looked_rows p c.args.grace.now.class after.place after.class
    (inr (here, omega (arith, c.pass.ensures.later, c.skip_gap.ensures.later))) c.pass.ensures.onward c.pass-2.ensures.onward

pub returns-clause-passed : goal.returns-clause-passed
returns-clause-passed c =
    let same = ap (λ (z : Grace Deer). z.keys) (sym c.pass.ensures.grace) in
    let skipped = skips_gap
    (shape_of 2 c.args.table.now) refl c.pass.new.grace c.args.seat.now.view c.pass.new.seat.view c.in_default.ensures.passed.1
    c.skip_gap.new.grace c.args.image.now (subst
    (λ z. IsImage z c.args.image.now) same c.requires.image) c.skip_gap.ensures c.in_default.ensures.passed.0 in
    let come = goes_further
    (shape_of 2 c.args.table.now) c.args.seat.now.view c.pass.new.seat.view c.pass-2.new.seat.view c.skip_gap.new.grace
    c.pass-2.new.grace skipped c.in_default-pass.ensures.passed.1 in (
      refl,
      goes_back (shape_of 2 c.args.table.now) refl c.pass-2.new.grace c.args.seat.now.view c.pass-2.new.seat.view come
          c.args.image.now.last c.in_default-pass.ensures.passed.0,
    )

pub returns-in-Some-pass-clause-once : goal.returns-in-Some-pass-clause-once
returns-in-Some-pass-clause-once c =
    let stays = c.skip_gap.ensures.stays in
    let first = c.pass.ensures.grace in
    finds_later (ap (λ (z : Grace Deer). z.keys) stays ∙ ap (λ (z : Grace Deer). z.keys) first)
    (ap (λ (z : Grace Deer). z.clock) stays ∙ ap (λ (z : Grace Deer). z.clock) first)
    c.in_default.ensures.clear c.in-Some-pass.ensures.once

pub returns-clause-clear : goal.returns-clause-clear
returns-clause-clear c =
    let stays = c.skip_gap.ensures.stays in
    let first = c.pass.ensures.grace in
    finds_then (ap (λ (z : Grace Deer). z.keys) stays ∙ ap (λ (z : Grace Deer). z.keys) first)
    (ap (λ (z : Grace Deer). z.clock) stays ∙ ap (λ (z : Grace Deer). z.clock) first)
    c.in_default.ensures.clear c.in_default-pass.ensures.clear
