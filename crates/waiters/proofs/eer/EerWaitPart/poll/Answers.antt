use Rattle.std.proofs.Common.{rules, ◌≡◌, ℕ, ◌-◌, refl, subst, arith}
use Rattle.core_state.specs.declared.words.Field.TheVariants.{Stamp}
use Rattle.seat_table.specs.Seats.{shape_of}
use Rattle.seat_table.specs.Looks.{IsOnward}
use Rattle.seat_table.specs.Waits.{IsGoingOn, reached}
use Rattle.seat_table.proofs.Waiting.{looks_none, finds_nothing, finds_then, finds_later, is_not_yet, ends}
use Rattle.seat_table.proofs.Seats.{looked_quiet, over_quiet}
use Rattle.waiters.proofs.EerPlaces.{at_place, not_domain, comes_from, next_place, looked_place}
use Rattle.waiters.proofs.eer.EerWaitPart.poll.Goals as goal

pub loop-place-init : goal.loop-place-init
loop-place-init c = record {
  table = refl;
  listed = refl;
  keys = refl;
  clock = refl;
  going = comes_from (shape_of 0 c.args.table.now) refl c.args.grace.now c.args.seat.now.view _ (omega arith) c.requires.latest;
  clear = finds_nothing;
  looks = looks_none (IsOnward (reached c.args.grace.now)) c.args.seat.now.view;
}

pub returns-in-Some-clause-polled : goal.returns-in-Some-clause-polled
returns-in-Some-clause-polled c = let come = c.loop-place.invariant.going in
    is_not_yet (shape_of 0 c.args.table.now) c.args.seat.now.view c.loop-place.seat.view c.look.new.seat.view
    (at_place c.loop-place.grace c.loop-place.place) come c.in-Some.why c.in-Some.ensures.there c.in-Some.ensures.met

pub loop-place-preserved : goal.loop-place-preserved
loop-place-preserved c =
    let i = c.loop-place.invariant in
    record {
      table = search rules;
      listed = search rules;
      keys = i.keys;
      clock = i.clock;
      going = next_place (shape_of 0 c.args.table.now) refl
          (at_place c.loop-place.grace c.loop-place.place) c.args.seat.now.view c.loop-place.seat.view
          c.look.new.seat.view i.going c.in_default.ensures.passed (omega (arith, c.loop-place-test.true, c.places-last.ensures.places));
      clear = finds_then i.keys i.clock i.clear c.in_default.ensures.clear;
      looks = looked_place (reached c.args.grace.now) c.loop-place.place c.loop-place.auto.place i.looks c.look.ensures.spot;
    }

pub returns-in-Some-look-clause-polled : goal.returns-in-Some-look-clause-polled
returns-in-Some-look-clause-polled c = let i = c.loop-place.invariant in
    let last : ℕ = c.places-last.result - 1 in
    let at_end : c.loop-place.place ≡ last = omega
    (arith, c.loop-place-test.false, c.loop-place.auto.place-end, c.places-last.ensures.places, c.requires.latest.2.inside) in
    let come = subst (λ p. IsGoingOn (shape_of 0 c.args.table.now) c.args.seat.now.view
    (at_place c.loop-place.grace p) c.loop-place.seat.view) at_end i.going in
    is_not_yet (shape_of 0 c.args.table.now) c.args.seat.now.view c.loop-place.seat.view c.look-2.new.seat.view
    (at_place c.loop-place.grace last) come c.in-Some-look.why c.in-Some-look.ensures.there c.in-Some-look.ensures.met

pub returns-clause-polled : goal.returns-clause-polled
returns-clause-polled c = let i = c.loop-place.invariant in
    let last : ℕ = c.places-last.result - 1 in
    let at_end : c.loop-place.place ≡ last = omega
    (arith, c.loop-place-test.false, c.loop-place.auto.place-end, c.places-last.ensures.places, c.requires.latest.2.inside) in
    let come = subst (λ p. IsGoingOn (shape_of 0 c.args.table.now) c.args.seat.now.view
    (at_place c.loop-place.grace p) c.loop-place.seat.view) at_end i.going in
    ends (shape_of 0 c.args.table.now) c.args.seat.now.view c.loop-place.seat.view c.look-2.new.seat.view
    (at_place c.loop-place.grace last) come (Stamp last) c.in_default-look.ensures.passed not_domain

pub returns-in-Some-clause-quiet : goal.returns-in-Some-clause-quiet
returns-in-Some-clause-quiet c = looked_quiet (returns-in-Some-clause-polled c).on.looked (search rules)

pub returns-in-Some-look-clause-quiet : goal.returns-in-Some-look-clause-quiet
returns-in-Some-look-clause-quiet c = looked_quiet (returns-in-Some-look-clause-polled c).on.looked (search rules)

pub returns-clause-quiet : goal.returns-clause-quiet
returns-clause-quiet c = over_quiet (returns-clause-polled c) (search rules)

pub returns-in-Some-clause-onward : goal.returns-in-Some-clause-onward
returns-in-Some-clause-onward c = λ within. looked_place
    (reached c.args.grace.now) c.loop-place.place c.loop-place.auto.place c.loop-place.invariant.looks c.look.ensures.spot

pub returns-in-Some-look-clause-onward : goal.returns-in-Some-look-clause-onward
returns-in-Some-look-clause-onward c = λ within.
    let last : ℕ = c.places-last.result - 1 in
    looked_place (reached c.args.grace.now) last (omega
    (arith, c.places-last.ensures.places, c.requires.latest.2.inside)) c.loop-place.invariant.looks c.look-2.ensures.spot

pub returns-clause-onward : goal.returns-clause-onward
returns-clause-onward c = λ within.
    let last : ℕ = c.places-last.result - 1 in
    looked_place (reached c.args.grace.now) last (omega
    (arith, c.places-last.ensures.places, c.requires.latest.2.inside)) c.loop-place.invariant.looks c.look-2.ensures.spot

pub returns-in-Some-clause-once : goal.returns-in-Some-clause-once
returns-in-Some-clause-once c = let i = c.loop-place.invariant in
    finds_later i.keys i.clock i.clear c.in-Some.ensures.once

pub returns-in-Some-look-clause-once : goal.returns-in-Some-look-clause-once
returns-in-Some-look-clause-once c = let i = c.loop-place.invariant in
    finds_later i.keys i.clock i.clear c.in-Some-look.ensures.once

pub returns-clause-once : goal.returns-clause-once
returns-clause-once c = let i = c.loop-place.invariant in
    finds_then i.keys i.clock i.clear c.in_default-look.ensures.clear
