use Rattle.std.proofs.Common.{rules, ◌+◌, ◌∙◌, arith, ap}
use Rattle.seat_table.specs.Seats.{next_slot}
use Rattle.node_slots.proofs.Takes.{round_none, round_missed, round_found}
use Rattle.core_state.specs.declared.view.View.{View}
use Rattle.seat_table.proofs.SeveralSteps.{step_more}
use Rattle.node_slots.proofs.taking.scan.Goals as goal

pub loop-round-init : goal.loop-round-init
loop-round-init g c =
    record { table = search rules; listed = search rules; scanned = search rules; misses = round_none _ _ _; made = omega arith }

pub returns-in-Got-clause-finds : goal.returns-in-Got-clause-finds
returns-in-Got-clause-finds g c =
    let after = c.next_slot-slot.ensures.next ∙ (λ i. next_slot (c.slots.ensures.slots i + c.places.ensures.places i)
    (c.last_looked.ensures i)) in
    round_found _ _ _ _ _ _ _ _ c.in-Got.ensures.looked after c.loop-round.invariant.misses _ c.in-Got.ensures.view

pub loop-round-preserved : goal.loop-round-preserved
loop-round-preserved g c =
    let after = c.next_slot-slot.ensures.next ∙ (λ i. next_slot (c.slots.ensures.slots i + c.places.ensures.places i)
    (c.last_looked.ensures i)) in record {
      table = search rules;
      listed = search rules;
      scanned = search rules;
      misses = round_missed _ _ _ _ _ _ _ _ c.in_default.ensures.looked after c.loop-round.invariant.misses _ c.in_default.ensures.view;
      made =
          let made = c.loop-round.invariant.made in
          let looked = step_more c.loop-round.seat.view c.seize.new.seat.view _ (ap (λ (z : View). z.trail.steps)
          c.in_default.ensures.view.rest) in omega (arith, made, looked);
    }
