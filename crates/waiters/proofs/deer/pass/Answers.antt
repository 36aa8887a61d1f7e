use Rattle.std.proofs.Common.{rules, inr, ◌≡◌, ◌+◌, refl, sym, ap, subst, arith}
use Rattle.key_interval.specs.Keys.{MeetsClass}
use Rattle.seat_table.specs.declared.wait.Grace.{Grace}
use Rattle.seat_table.specs.Seats.{shape_of}
use Rattle.seat_table.specs.Waits.{IsGoingOn}
use Rattle.seat_table.proofs.Waiting.{is_not_yet, begins_on, looks_none, finds_nothing, finds_then, finds_later}
use Rattle.waiters.specs.declared.deer.Deer.{Deer}
use Rattle.waiters.specs.Classes.{IsRowFrom}
use Rattle.waiters.proofs.DeerRows.{looked_row, moved, next_class}
use Rattle.waiters.proofs.deer.pass.Goals as goal

pub loop-class-init : goal.loop-class-init
loop-class-init c = record {
  table = refl;
  listed = refl;
  stays = refl;
  class = refl;
  going = begins_on (shape_of 2 c.args.table.now) c.args.seat.now.view c.args.grace.now c.requires.latest;
  clear = finds_nothing;
  looks = looks_none (IsRowFrom c.args.grace.now.place c.args.grace.now.class) c.args.seat.now.view;
}

pub look-requires-clause-met : goal.look-requires-clause-met
look-requires-clause-met c =
    let i = c.loop-class.invariant in
    let here : c.loop-class.class ≡ c.loop-class.grace.class = sym i.class in
    let keys : c.args.grace.now.keys ≡ c.loop-class.grace.keys = ap (λ (z : Grace Deer). z.keys) (sym i.stays) in
    subst (λ z. MeetsClass z c.loop-class.grace.class) keys
    (subst (MeetsClass c.args.grace.now.keys) here (c.requires.each c.loop-class.class c.loop-class.auto.class c.loop-class-test.true))

pub returns-in-Some-clause-met : goal.returns-in-Some-clause-met
returns-in-Some-clause-met c =
    is_not_yet (shape_of 2 c.args.table.now) c.args.seat.now.view c.loop-class.seat.view c.look.new.seat.view c.loop-class.grace
    c.loop-class.invariant.going c.in-Some.why c.in-Some.ensures.there c.in-Some.ensures.met

pub loop-class-preserved : goal.loop-class-preserved
loop-class-preserved c =
    let i = c.loop-class.invariant in
    let grace = c.loop-class.grace in
    record {
      table = search rules;
      listed = search rules;
      stays = ap (λ (z : Grace Deer). record z { class = c.loop-class.class + 1 }) i.stays;
      class = refl;
      going = subst (λ n. IsGoingOn (shape_of 2 c.args.table.now) c.args.seat.now.view
          (moved grace grace.place (n + 1)) c.look.new.seat.view) i.class
          (next_class (shape_of 2 c.args.table.now) refl grace c.args.seat.now.view c.loop-class.seat.view i.going c.look.new.seat.view
          c.in_default.ensures.passed (omega (arith, i.class, c.loop-class-test.true, c.requires.small)));
      clear = finds_then (ap (λ (z : Grace Deer). z.keys) i.stays) (ap (λ (z : Grace Deer). z.clock) i.stays) i.clear
          c.in_default.ensures.clear;
      looks = (let here : c.args.grace.now.place ≡ grace.place = ap (λ (z : Grace Deer). z.place) (sym i.stays) in
          looked_row c.args.grace.now.place c.args.grace.now.class grace.place grace.class
          (inr (here, omega (arith, i.class, c.loop-class.auto.class))) i.looks c.look.ensures.spot);
    }

pub returns-in-Some-clause-onward : goal.returns-in-Some-clause-onward
returns-in-Some-clause-onward c =
    let i = c.loop-class.invariant in
    let grace = c.loop-class.grace in
    let here : c.args.grace.now.place ≡ grace.place = ap (λ (z : Grace Deer). z.place) (sym i.stays) in
    looked_row c.args.grace.now.place c.args.grace.now.class grace.place grace.class
    (inr (here, omega (arith, i.class, c.loop-class.auto.class))) i.looks c.look.ensures.spot

pub returns-in-Some-clause-once : goal.returns-in-Some-clause-once
returns-in-Some-clause-once c =
    let i = c.loop-class.invariant in
    finds_later (ap (λ (z : Grace Deer). z.keys) i.stays) (ap (λ (z : Grace Deer). z.clock) i.stays) i.clear c.in-Some.ensures.once
