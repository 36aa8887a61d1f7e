use Rattle.std.proofs.Common.{◌≡◌, ◌-◌, ◌+◌, arith, inr, sym, ap, subst, ◌∙◌}
use Rattle.core_state.specs.declared.view.View.{View}
use Rattle.node_slots.proofs.Returns.{GoesOn, next_ready, goes_end, goes_more, goes_out, informed_end, informed_out, stays_informed}
use Rattle.node_slots.proofs.reclaiming.give_back.Goals as goal

pub return_slot-requires-clause-unlocked : goal.return_slot-requires-clause-unlocked
return_slot-requires-clause-unlocked g c = ap (λ (z : View). z.locks) c.loop-i.invariant.goes.gave.rest ∙ c.requires.unlocked

pub return_slot-requires-clause-settled : goal.return_slot-requires-clause-settled
return_slot-requires-clause-settled g c = ap (λ (z : View). z.moving) c.loop-i.invariant.goes.gave.rest ∙ c.requires.settled

pub return_slot-requires-clause-paid : goal.return_slot-requires-clause-paid
return_slot-requires-clause-paid g c = ap (λ (z : View). z.hands.owes) c.loop-i.invariant.goes.gave.rest ∙ c.requires.paid

pub returns-in_default-clause-listed : goal.returns-in_default-clause-listed
returns-in_default-clause-listed g c = (goes_out _ _ _ _ _ _ (sym c.in_default.ensures) c.loop-i.invariant.goes).1

pub returns-in_default-clause-view : goal.returns-in_default-clause-view
returns-in_default-clause-view g c = (goes_out _ _ _ _ _ _ (sym c.in_default.ensures) c.loop-i.invariant.goes).0

pub returns-in_default-clause-informed : goal.returns-in_default-clause-informed
returns-in_default-clause-informed g c = stays_informed _ _ _ c.loop-i.invariant.informed

pub returns-in_default-clause-reuse : goal.returns-in_default-clause-reuse
returns-in_default-clause-reuse g c = informed_out _ _ _ c.loop-i.invariant.informed c.args.count (sym c.in_default.ensures)

pub return_slot-requires-clause-ready : goal.return_slot-requires-clause-ready
return_slot-requires-clause-ready g c =
    next_ready _ _ _ _ _ _ c.loop-i.invariant.goes (omega (arith, c.loop-i-test.true, c.loop-i.auto.i-end)) c.in-Some.slot
    (sym c.in-Some.ensures)

pub loop-i-preserved : goal.loop-i-preserved
loop-i-preserved g c =
    let next : (c.args.count - c.loop-i.i) - 1 ≡ c.args.count - (c.loop-i.i + 1) = omega arith in
    let on = goes_more _ _ _ _ _ _ c.loop-i.invariant.goes (omega (arith, c.loop-i-test.true, c.loop-i.auto.i-end)) c.in-Some.slot
    (sym c.in-Some.ensures) _ _ c.return_slot.ensures.view c.return_slot.ensures.listed in record {
      table = c.return_slot.ensures.table ∙ c.loop-i.invariant.table;
      few = omega (arith, c.loop-i-test.true);
      goes = subst (λ n. GoesOn c.args.seat.now.view c.args.seat.now.listed c.args.count n c.return_slot.new.seat.view
          c.return_slot.new.seat.listed) next on;
      informed = inr c.return_slot.ensures.informed;
    }

pub returns-clause-listed : goal.returns-clause-listed
returns-clause-listed g c = (goes_end _ _ _ _ _ _ (omega (arith, c.loop-i-test.false)) c.loop-i.invariant.goes).1

pub returns-clause-view : goal.returns-clause-view
returns-clause-view g c = (goes_end _ _ _ _ _ _ (omega (arith, c.loop-i-test.false)) c.loop-i.invariant.goes).0

pub returns-clause-informed : goal.returns-clause-informed
returns-clause-informed g c = stays_informed _ _ _ c.loop-i.invariant.informed

pub returns-clause-reuse : goal.returns-clause-reuse
returns-clause-reuse g c = informed_end _ _ _ c.loop-i.invariant.informed c.args.count c.loop-i-test.false
