use Rattle.std.proofs.Common.{◌+◌, refl, sym, subst, ◌∙◌, arith}
use Rattle.seat_table.specs.Seats.{shape_of}
use Rattle.tree_lift.specs.Lifts.{HasAttempted}
use Rattle.tree_lift.proofs.Attempts.{HasTried, tried_none, tried_more, one_at_most, spent_lift, proceeds_on, proceeds_same, ended_lift, lift_keeps}
use Rattle.tree_lift.proofs.lifting.lift.Goals as goal

pub loop-i-init : goal.loop-i-init
loop-i-init g c = record {
  table = refl;
  quiet = c.requires.quiet;
  proceeds = proceeds_same c.args.aim.key c.args.aim.hard c.args.seat.now;
  tried = tried_none (shape_of g.W.WaitWords.WAY c.args.table.now) c.args.aim c.args.seat.now.view;
  few = omega arith;
  tickets = omega arith;
}

pub make_attempt-requires-clause-tickets : goal.make_attempt-requires-clause-tickets
make_attempt-requires-clause-tickets g c =
    let left = c.loop-i.invariant.tickets in
    let all = c.requires.tickets in
    let more = c.loop-i-test.true in
    omega arith

pub loop-i-preserved : goal.loop-i-preserved
loop-i-preserved g c =
    let k = shape_of g.W.WaitWords.WAY c.args.table.now in
    let inv = c.loop-i.invariant in
    let turned = c.in-Tried.turned in
    let made = subst (λ a. HasAttempted k c.args.aim c.loop-i.seat a c.make_attempt.new.seat) c.in-Tried.is
    c.in_ok-turned.ensures.attempted in record {
      table = c.make_attempt.ensures.table ∙ inv.table;
      quiet = made.quiet;
      proceeds = proceeds_on c.args.aim.key c.args.aim.hard c.args.seat.now c.loop-i.seat c.make_attempt.new.seat inv.proceeds made.proceeds;
      tried = subst (λ n. HasTried k c.args.aim (c.loop-i.turns + n) (c.loop-i.i + 1) c.args.seat.now.view c.make_attempt.new.seat.view)
          (sym c.from-turns.ensures)
          (tried_more k c.args.aim c.loop-i.turns c.loop-i.i turned c.args.seat.now.view c.loop-i.seat.view c.make_attempt.new.seat.view
          inv.tried made.attempts);
      few = (let a = inv.few in let b = one_at_most turned in let same = c.from-turns.ensures in omega arith);
      tickets = (let a = inv.tickets in let b = made.tickets in omega arith);
    }

pub returns-in-Ended-clause-updates : goal.returns-in-Ended-clause-updates
returns-in-Ended-clause-updates g c =
    let k = shape_of g.W.WaitWords.WAY c.args.table.now in
    let inv = c.loop-i.invariant in
    let ended = ended_lift k c.args.aim c.loop-i.turns c.loop-i.i c.in-Ended.stop c.args.seat.now c.loop-i.seat c.make_attempt.new.seat
    inv.proceeds inv.tried inv.tickets c.loop-i-test.true
    (subst (λ a. HasAttempted k c.args.aim c.loop-i.seat a c.make_attempt.new.seat) c.in-Ended.is c.in_ok-turned.ensures.attempted) in
    ended.proceeds.updates

pub returns-in-Ended-clause-turns : goal.returns-in-Ended-clause-turns
returns-in-Ended-clause-turns g c =
    let k = shape_of g.W.WaitWords.WAY c.args.table.now in
    let inv = c.loop-i.invariant in
    let ended = ended_lift k c.args.aim c.loop-i.turns c.loop-i.i c.in-Ended.stop c.args.seat.now c.loop-i.seat c.make_attempt.new.seat
    inv.proceeds inv.tried inv.tickets c.loop-i-test.true
    (subst (λ a. HasAttempted k c.args.aim c.loop-i.seat a c.make_attempt.new.seat) c.in-Ended.is c.in_ok-turned.ensures.attempted) in
    ended.lifted

pub returns-in-Ended-clause-ends : goal.returns-in-Ended-clause-ends
returns-in-Ended-clause-ends g c =
    let k = shape_of g.W.WaitWords.WAY c.args.table.now in
    let inv = c.loop-i.invariant in
    let ended = ended_lift k c.args.aim c.loop-i.turns c.loop-i.i c.in-Ended.stop c.args.seat.now c.loop-i.seat c.make_attempt.new.seat
    inv.proceeds inv.tried inv.tickets c.loop-i-test.true
    (subst (λ a. HasAttempted k c.args.aim c.loop-i.seat a c.make_attempt.new.seat) c.in-Ended.is c.in_ok-turned.ensures.attempted) in
    ended.ends

pub returns-in-Ended-clause-unwaited : goal.returns-in-Ended-clause-unwaited
returns-in-Ended-clause-unwaited g c =
    let k = shape_of g.W.WaitWords.WAY c.args.table.now in
    let inv = c.loop-i.invariant in
    let ended = ended_lift k c.args.aim c.loop-i.turns c.loop-i.i c.in-Ended.stop c.args.seat.now c.loop-i.seat c.make_attempt.new.seat
    inv.proceeds inv.tried inv.tickets c.loop-i-test.true
    (subst (λ a. HasAttempted k c.args.aim c.loop-i.seat a c.make_attempt.new.seat) c.in-Ended.is c.in_ok-turned.ensures.attempted) in
    ended.proceeds.unwaited

pub returns-in-Ended-clause-keeps : goal.returns-in-Ended-clause-keeps
returns-in-Ended-clause-keeps g c =
    let k = shape_of g.W.WaitWords.WAY c.args.table.now in
    let inv = c.loop-i.invariant in
    let ended = ended_lift k c.args.aim c.loop-i.turns c.loop-i.i c.in-Ended.stop c.args.seat.now c.loop-i.seat c.make_attempt.new.seat
    inv.proceeds inv.tried inv.tickets c.loop-i-test.true
    (subst (λ a. HasAttempted k c.args.aim c.loop-i.seat a c.make_attempt.new.seat) c.in-Ended.is c.in_ok-turned.ensures.attempted) in
    ended.keeps

pub returns-in-Ended-clause-informed : goal.returns-in-Ended-clause-informed
returns-in-Ended-clause-informed g c =
    let k = shape_of g.W.WaitWords.WAY c.args.table.now in
    let inv = c.loop-i.invariant in
    let ended = ended_lift k c.args.aim c.loop-i.turns c.loop-i.i c.in-Ended.stop c.args.seat.now c.loop-i.seat c.make_attempt.new.seat
    inv.proceeds inv.tried inv.tickets c.loop-i-test.true
    (subst (λ a. HasAttempted k c.args.aim c.loop-i.seat a c.make_attempt.new.seat) c.in-Ended.is c.in_ok-turned.ensures.attempted) in
    ended.proceeds.informed

pub returns-in-Ended-clause-few : goal.returns-in-Ended-clause-few
returns-in-Ended-clause-few g c =
    let few = c.loop-i.invariant.few in let more = c.loop-i-test.true in (few, omega arith)

pub returns-in-Ended-clause-spares : goal.returns-in-Ended-clause-spares
returns-in-Ended-clause-spares g c =
    let k = shape_of g.W.WaitWords.WAY c.args.table.now in
    let inv = c.loop-i.invariant in
    let ended = ended_lift k c.args.aim c.loop-i.turns c.loop-i.i c.in-Ended.stop c.args.seat.now c.loop-i.seat c.make_attempt.new.seat
    inv.proceeds inv.tried inv.tickets c.loop-i-test.true
    (subst (λ a. HasAttempted k c.args.aim c.loop-i.seat a c.make_attempt.new.seat) c.in-Ended.is c.in_ok-turned.ensures.attempted) in
    ended.spares

pub returns-clause-updates : goal.returns-clause-updates
returns-clause-updates g c =
    let inv = c.loop-i.invariant in inv.proceeds.updates

pub returns-clause-turns : goal.returns-clause-turns
returns-clause-turns g c =
    let inv = c.loop-i.invariant in
    let inside = c.loop-i.auto.i-end in
    let over = c.loop-i-test.false in
    spent_lift (shape_of g.W.WaitWords.WAY c.args.table.now) c.args.aim c.loop-i.turns c.loop-i.i c.args.seat.now.view c.loop-i.seat.view
    inv.tried (omega arith)

pub returns-clause-ends : goal.returns-clause-ends
returns-clause-ends g c =
    tt

pub returns-clause-unwaited : goal.returns-clause-unwaited
returns-clause-unwaited g c =
    let inv = c.loop-i.invariant in inv.proceeds.unwaited

pub returns-clause-keeps : goal.returns-clause-keeps
returns-clause-keeps g c =
    let inv = c.loop-i.invariant in
    let left = inv.tickets in
    let inside = c.loop-i.auto.i-end in
    lift_keeps inv.proceeds (omega arith) inv.quiet

pub returns-clause-informed : goal.returns-clause-informed
returns-clause-informed g c =
    let inv = c.loop-i.invariant in inv.proceeds.informed

pub returns-clause-few : goal.returns-clause-few
returns-clause-few g c =
    let few = c.loop-i.invariant.few in let inside = c.loop-i.auto.i-end in (omega arith, omega arith)

pub returns-clause-spares : goal.returns-clause-spares
returns-clause-spares g c =
    let left = c.loop-i.invariant.tickets in let inside = c.loop-i.auto.i-end in omega arith
