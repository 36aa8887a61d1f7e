use Rattle.std.proofs.Common.{inl, rules, refl, sym, ap, subst, ◌∙◌, arith}
use Rattle.core_state.specs.declared.words.Field.TheVariants.{Row}
use Rattle.key_interval.specs.Keys.{IsLastClass}
use Rattle.seat_table.specs.declared.wait.Grace.{Grace}
use Rattle.seat_table.specs.Seats.{shape_of}
use Rattle.seat_table.proofs.Seats.{looked_quiet, over_quiet}
use Rattle.seat_table.proofs.Waiting.{is_not_yet, ends, begins_on, looks_none, finds_nothing, finds_then, finds_later, goes_further, stops_further}
use Rattle.waiters.specs.declared.deer.Deer.{Deer}
use Rattle.waiters.specs.Classes.{IsRowFrom}
use Rattle.waiters.proofs.DeerRows.{looked_rows, onto, comes_later, rows_then, row_then, not_domain, last_of}
use Rattle.waiters.proofs.deer.DeerWaitPart.poll.Goals as goal

pub loop-init : goal.loop-init
loop-init c = record {
  table = refl;
  listed = refl;
  keys = refl;
  clock = refl;
  place = refl;
  going = begins_on (shape_of 2 c.args.table.now) c.args.seat.now.view c.args.grace.now c.requires.latest;
  clear = finds_nothing;
  looks = λ most. looks_none (IsRowFrom c.args.grace.now.place c.args.grace.now.class) c.args.seat.now.view;
  come = inl (refl, refl);
}

pub returns-in-Some-clause-polled : goal.returns-in-Some-clause-polled
returns-in-Some-clause-polled c = stops_further
    (shape_of 2 c.args.table.now) c.args.seat.now.view c.loop.seat.view c.pass_place.new.seat.view c.loop.grace c.pass_place.new.grace
    c.loop.invariant.going c.in-Some.why c.in-Some.ensures.met

pub returns-in-Some-come_to_last-clause-polled : goal.returns-in-Some-come_to_last-clause-polled
returns-in-Some-come_to_last-clause-polled c =
    stops_further
    (shape_of 2 c.args.table.now) c.args.seat.now.view c.loop.seat.view c.come_to_last.new.seat.view c.loop.grace c.come_to_last.new.grace
    c.loop.invariant.going c.in-Some-come_to_last.why c.in-Some-come_to_last.ensures.met

pub look-requires-clause-end : goal.look-requires-clause-end
look-requires-clause-end c = λ _.
    let i = c.loop.invariant in
    let grace = c.come_to_last.new.grace in
    let place = ap (λ (z : Grace Deer). z.place) c.come_to_last.ensures.grace in
    let keys = sym i.keys ∙ ap (λ (z : Grace Deer). z.keys) (sym c.come_to_last.ensures.grace) in
    let last = last_of c.args.grace.now.keys c.image_of-image.result c.image_of-image.ensures in
    let few = c.places-last.ensures.few in (
      omega (arith, place, i.place, c.loop-test.false, i.going.reaches.inside, c.places-last.ensures.places, few.0),
      subst (λ z. IsLastClass z grace.class) keys (subst (IsLastClass c.args.grace.now.keys)
          (sym c.in_default-come_to_last.ensures.passed.0) last),
    )

pub returns-in-Some-look-clause-polled : goal.returns-in-Some-look-clause-polled
returns-in-Some-look-clause-polled c =
    let come = goes_further
    (shape_of 2 c.args.table.now) c.args.seat.now.view c.loop.seat.view c.come_to_last.new.seat.view c.loop.grace
    c.come_to_last.new.grace c.loop.invariant.going c.in_default-come_to_last.ensures.passed.1 in
    is_not_yet (shape_of 2 c.args.table.now) c.args.seat.now.view c.come_to_last.new.seat.view c.look.new.seat.view c.come_to_last.new.grace
    come c.in-Some-look.why c.in-Some-look.ensures.there c.in-Some-look.ensures.met

pub returns-clause-polled : goal.returns-clause-polled
returns-clause-polled c =
    let grace = c.come_to_last.new.grace in
    let come = goes_further
    (shape_of 2 c.args.table.now) c.args.seat.now.view c.loop.seat.view c.come_to_last.new.seat.view c.loop.grace grace
    c.loop.invariant.going c.in_default-come_to_last.ensures.passed.1 in
    ends (shape_of 2 c.args.table.now) c.args.seat.now.view c.come_to_last.new.seat.view c.look.new.seat.view grace come
    (Row grace.place grace.class) c.in_default-look.ensures.passed not_domain

pub returns-in-Some-clause-quiet : goal.returns-in-Some-clause-quiet
returns-in-Some-clause-quiet c = looked_quiet (returns-in-Some-clause-polled c).on.looked (search rules)

pub returns-in-Some-come_to_last-clause-quiet : goal.returns-in-Some-come_to_last-clause-quiet
returns-in-Some-come_to_last-clause-quiet c = looked_quiet (returns-in-Some-come_to_last-clause-polled c).on.looked (search rules)

pub returns-in-Some-look-clause-quiet : goal.returns-in-Some-look-clause-quiet
returns-in-Some-look-clause-quiet c = looked_quiet (returns-in-Some-look-clause-polled c).on.looked (search rules)

pub returns-clause-quiet : goal.returns-clause-quiet
returns-clause-quiet c = over_quiet (returns-clause-polled c) (search rules)

pub loop-preserved : goal.loop-preserved
loop-preserved c =
    let i = c.loop.invariant in
    let first : Grace Deer = c.args.grace.now in
    let here : Grace Deer = c.loop.grace in
    let last = c.image_of-image.result.last in
    let passed = c.in_default.ensures.passed in
    record {
      table = search rules;
      listed = search rules;
      keys = search rules;
      clock = search rules;
      place = search rules;
      going = goes_further
          (shape_of 2 c.args.table.now) c.args.seat.now.view c.loop.seat.view c.pass_place.new.seat.view here c.pass_place.new.grace i.going
          passed.1;
      clear = finds_then i.keys i.clock i.clear c.in_default.ensures.clear;
      looks = λ most. let come = onto first.place first.class here.place here.class last most i.come in
          looked_rows first.place first.class here.place here.class come.0 (i.looks most) (c.pass_place.ensures.onward come.1);
      come = comes_later first.place first.class here.place here.class c.pass_place.new.grace.place c.pass_place.new.grace.class passed.0
          c.in_default.ensures.first i.come;
    }

pub returns-in-Some-clause-onward : goal.returns-in-Some-clause-onward
returns-in-Some-clause-onward c =
    let last = last_of c.args.grace.now.keys c.image_of-image.result c.image_of-image.ensures in
    rows_then c.args.grace.now c.loop.grace c.image_of-image.result.last last c.loop.invariant.looks c.loop.invariant.come
    c.pass_place.ensures.onward

pub returns-in-Some-come_to_last-clause-onward : goal.returns-in-Some-come_to_last-clause-onward
returns-in-Some-come_to_last-clause-onward c =
    let last = last_of c.args.grace.now.keys c.image_of-image.result c.image_of-image.ensures in
    rows_then c.args.grace.now c.loop.grace c.image_of-image.result.last last c.loop.invariant.looks c.loop.invariant.come
    (λ _. c.come_to_last.ensures.onward)

pub returns-in-Some-look-clause-onward : goal.returns-in-Some-look-clause-onward
returns-in-Some-look-clause-onward c =
    let last = last_of c.args.grace.now.keys c.image_of-image.result c.image_of-image.ensures in
    let place = ap (λ (z : Grace Deer). z.place) (sym c.come_to_last.ensures.grace) in
    row_then c.args.grace.now c.loop.grace c.image_of-image.result.last last c.loop.invariant.looks c.loop.invariant.come
    c.come_to_last.new.grace place
    c.in_default-come_to_last.ensures.passed.0 c.come_to_last.ensures.onward c.look.ensures.spot

pub returns-clause-onward : goal.returns-clause-onward
returns-clause-onward c =
    let last = last_of c.args.grace.now.keys c.image_of-image.result c.image_of-image.ensures in
    let place = ap (λ (z : Grace Deer). z.place) (sym c.come_to_last.ensures.grace) in
    row_then c.args.grace.now c.loop.grace c.image_of-image.result.last last c.loop.invariant.looks c.loop.invariant.come
    c.come_to_last.new.grace place
    c.in_default-come_to_last.ensures.passed.0 c.come_to_last.ensures.onward c.look.ensures.spot

pub returns-in-Some-clause-once : goal.returns-in-Some-clause-once
returns-in-Some-clause-once c = let i = c.loop.invariant in
    finds_later i.keys i.clock i.clear c.in-Some.ensures.once

pub returns-in-Some-come_to_last-clause-once : goal.returns-in-Some-come_to_last-clause-once
returns-in-Some-come_to_last-clause-once c = let i = c.loop.invariant in
    finds_later i.keys i.clock i.clear c.in-Some-come_to_last.ensures.once

pub returns-in-Some-look-clause-once : goal.returns-in-Some-look-clause-once
returns-in-Some-look-clause-once c =
    let i = c.loop.invariant in
    let come = finds_then i.keys i.clock i.clear c.in_default-come_to_last.ensures.clear in
    finds_later (ap (λ (z : Grace Deer). z.keys) c.come_to_last.ensures.grace ∙ i.keys)
    (ap (λ (z : Grace Deer). z.clock) c.come_to_last.ensures.grace ∙ i.clock) come c.in-Some-look.ensures.once

pub returns-clause-once : goal.returns-clause-once
returns-clause-once c =
    let i = c.loop.invariant in
    let come = finds_then i.keys i.clock i.clear c.in_default-come_to_last.ensures.clear in
    finds_then (ap (λ (z : Grace Deer). z.keys) c.come_to_last.ensures.grace ∙ i.keys)
    (ap (λ (z : Grace Deer). z.clock) c.come_to_last.ensures.grace ∙ i.clock) come c.in_default-look.ensures.clear
