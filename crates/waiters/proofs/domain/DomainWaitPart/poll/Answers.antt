use Rattle.std.proofs.Common.{rules, refl, sym, subst, ◌∙◌, arith}
use Rattle.seat_table.specs.Seats.{shape_of}
use Rattle.seat_table.proofs.Seats.{looked_quiet, over_quiet}
use Rattle.seat_table.proofs.Waiting.{begins_on, polls_end, looks_none, within_last, finds_nothing, finds_then, finds_later, comes_to, goes_further, stops_further}
use Rattle.key_interval.specs.Keys.{IsLastClass}
use Rattle.seat_table.specs.Looks.{IsOnward, IsLater}
use Rattle.seat_table.specs.Waits.{reached}
use Rattle.seat_table.specs.declared.wait.Grace.{Grace}
use Rattle.waiters.specs.declared.domain.Domain.{Domain}
use Rattle.waiters.proofs.DomainPolls.{later_self, later_then, looks_later, goes_back, back_keys, back_clock}
use Rattle.waiters.proofs.domain.DomainWaitPart.poll.Goals as goal

pub loop-init : goal.loop-init
loop-init c = record {
  table = refl;
  listed = refl;
  keys = refl;
  clock = refl;
  class = refl;
  going = begins_on (shape_of 1 c.args.table.now) c.args.seat.now.view c.args.grace.now c.requires.latest;
  clear = finds_nothing;
  looks = looks_none (IsOnward (reached c.args.grace.now)) c.args.seat.now.view;
  later = later_self (reached c.args.grace.now);
}

pub returns-in-Some-clause-polled : goal.returns-in-Some-clause-polled
returns-in-Some-clause-polled c = stops_further
    (shape_of 1 c.args.table.now) c.args.seat.now.view c.loop.seat.view c.pass.new.seat.view c.loop.grace c.pass.new.grace
    c.loop.invariant.going c.in-Some.why c.in-Some.ensures.met

pub end-requires-clause-latest : goal.end-requires-clause-latest
end-requires-clause-latest c =
    let i = c.loop.invariant in
    let back = goes_back
    (shape_of 1 c.args.table.now) refl c.loop.grace c.args.seat.now.view c.loop.seat.view c.last_class-last.result c.go_back.new.grace
    (omega (arith, c.loop-test.false, i.class)) (subst (λ z. IsLastClass z c.last_class-last.result)
    (sym i.keys) c.last_class-last.ensures.last) c.go_back.ensures i.going in
    comes_to (shape_of 1 c.args.table.now) c.args.seat.now.view c.loop.seat.view c.go_back.new.grace back.0

pub end-requires-clause-last : goal.end-requires-clause-last
end-requires-clause-last c =
    let i = c.loop.invariant in
    (goes_back (shape_of 1 c.args.table.now) refl c.loop.grace c.args.seat.now.view c.loop.seat.view c.last_class-last.result
    c.go_back.new.grace (omega (arith, c.loop-test.false, i.class))
    (subst (λ z. IsLastClass z c.last_class-last.result) (sym i.keys) c.last_class-last.ensures.last) c.go_back.ensures i.going).1

pub returns-in-Some-end-clause-polled : goal.returns-in-Some-end-clause-polled
returns-in-Some-end-clause-polled c =
    let i = c.loop.invariant in
    let back = goes_back
    (shape_of 1 c.args.table.now) refl c.loop.grace c.args.seat.now.view c.loop.seat.view c.last_class-last.result c.go_back.new.grace
    (omega (arith, c.loop-test.false, i.class)) (subst (λ z. IsLastClass z c.last_class-last.result)
    (sym i.keys) c.last_class-last.ensures.last) c.go_back.ensures i.going in
    stops_further
    (shape_of 1 c.args.table.now) c.args.seat.now.view c.loop.seat.view c.end.new.seat.view c.go_back.new.grace c.end.new.grace back.0
    c.in-Some-end.why c.in-Some-end.ensures.met

pub returns-clause-polled : goal.returns-clause-polled
returns-clause-polled c =
    let i = c.loop.invariant in
    let back = goes_back
    (shape_of 1 c.args.table.now) refl c.loop.grace c.args.seat.now.view c.loop.seat.view c.last_class-last.result c.go_back.new.grace
    (omega (arith, c.loop-test.false, i.class)) (subst (λ z. IsLastClass z c.last_class-last.result)
    (sym i.keys) c.last_class-last.ensures.last) c.go_back.ensures i.going in
    polls_end (shape_of 1 c.args.table.now) c.args.seat.now.view c.loop.seat.view c.end.new.seat.view c.go_back.new.grace c.end.new.grace
    back.0 c.in_default-end.ensures.over

pub returns-in-Some-clause-quiet : goal.returns-in-Some-clause-quiet
returns-in-Some-clause-quiet c = looked_quiet (returns-in-Some-clause-polled c).on.looked (search rules)

pub returns-in-Some-end-clause-quiet : goal.returns-in-Some-end-clause-quiet
returns-in-Some-end-clause-quiet c = looked_quiet (returns-in-Some-end-clause-polled c).on.looked (search rules)

pub returns-clause-quiet : goal.returns-clause-quiet
returns-clause-quiet c = over_quiet (returns-clause-polled c) (search rules)

pub loop-preserved : goal.loop-preserved
loop-preserved c =
    let i = c.loop.invariant in
    let passed = c.in_default.ensures.passed in
    record {
      table = search rules;
      listed = search rules;
      keys = search rules;
      clock = search rules;
      class = search rules;
      going = goes_further
          (shape_of 1 c.args.table.now) c.args.seat.now.view c.loop.seat.view c.pass.new.seat.view c.loop.grace c.pass.new.grace i.going
          passed.1;
      clear = finds_then i.keys i.clock i.clear c.in_default.ensures.clear;
      looks = looks_later (reached c.args.grace.now) (reached c.loop.grace) i.later i.looks c.pass.ensures.onward;
      later = later_then (reached c.args.grace.now) (reached c.loop.grace) (reached c.pass.new.grace) i.later c.in_default.ensures.later;
    }

pub returns-in-Some-clause-onward : goal.returns-in-Some-clause-onward
returns-in-Some-clause-onward c = λ within. looks_later (reached c.args.grace.now)
    (reached c.loop.grace) c.loop.invariant.later c.loop.invariant.looks c.pass.ensures.onward

pub returns-in-Some-end-clause-onward : goal.returns-in-Some-end-clause-onward
returns-in-Some-end-clause-onward c = λ within.
    let i = c.loop.invariant in
    let most = within_last c.args.grace.now.keys c.args.grace.now.class c.last_class-last.result within c.last_class-last.ensures.last in
    let stays = c.go_back.ensures.within (omega (arith, most, i.class, c.loop-test.false, c.loop.auto.counter, c.loop.auto.counter-end)) in
    looks_later (reached c.args.grace.now) (reached c.go_back.new.grace)
    (subst (λ (z : Grace Domain). IsLater (reached c.args.grace.now) (reached z)) (sym stays) i.later) i.looks c.end.ensures.onward

pub returns-clause-onward : goal.returns-clause-onward
returns-clause-onward c = λ within.
    let i = c.loop.invariant in
    let most = within_last c.args.grace.now.keys c.args.grace.now.class c.last_class-last.result within c.last_class-last.ensures.last in
    let stays = c.go_back.ensures.within (omega (arith, most, i.class, c.loop-test.false, c.loop.auto.counter, c.loop.auto.counter-end)) in
    looks_later (reached c.args.grace.now) (reached c.go_back.new.grace)
    (subst (λ (z : Grace Domain). IsLater (reached c.args.grace.now) (reached z)) (sym stays) i.later) i.looks c.end.ensures.onward

pub returns-in-Some-clause-once : goal.returns-in-Some-clause-once
returns-in-Some-clause-once c = let i = c.loop.invariant in
    finds_later i.keys i.clock i.clear c.in-Some.ensures.once

pub returns-in-Some-end-clause-once : goal.returns-in-Some-end-clause-once
returns-in-Some-end-clause-once c =
    let i = c.loop.invariant in
    let last = c.last_class-last.result in
    finds_later (back_keys last c.loop.grace c.go_back.new.grace c.go_back.ensures ∙ i.keys)
    (back_clock last c.loop.grace c.go_back.new.grace c.go_back.ensures ∙ i.clock) i.clear c.in-Some-end.ensures.once

pub returns-clause-once : goal.returns-clause-once
returns-clause-once c =
    let i = c.loop.invariant in
    let last = c.last_class-last.result in
    finds_then (back_keys last c.loop.grace c.go_back.new.grace c.go_back.ensures ∙ i.keys)
    (back_clock last c.loop.grace c.go_back.new.grace c.go_back.ensures ∙ i.clock) i.clear c.in_default-end.ensures.clear
