use Rattle.std.proofs.Common.{◌∙◌, ap, rules, arith}
use Rattle.core_state.specs.declared.view.View.{View}
use Rattle.node_slots.proofs.Takes.{then_none, then_reserved, tried_again, loses_more, reserves_at_last, tries_in_vain}
use Rattle.seat_table.proofs.SeveralSteps.{step_more}
use Rattle.node_slots.proofs.taking.reserve_some.Goals as goal

pub reserve-requires-clause-unreserved : goal.reserve-requires-clause-unreserved
reserve-requires-clause-unreserved g c = ap (λ (z : View). z.hands.reserved) c.loop-round.invariant.tried.rest ∙ c.requires.unreserved

pub reserve-requires-clause-empty : goal.reserve-requires-clause-empty
reserve-requires-clause-empty g c = ap (λ (z : View). z.hands.hand) c.loop-round.invariant.tried.rest ∙ c.requires.empty

pub returns-in-Held-clause-reserved : goal.returns-in-Held-clause-reserved
returns-in-Held-clause-reserved g c _ =
    then_reserved _ _ _ c.loop-round.invariant.tried c.loop-round.expected c.loop-round.invariant.some c.in-Held.ensures.view

pub returns-in-Held-clause-at_last : goal.returns-in-Held-clause-at_last
returns-in-Held-clause-at_last g c _ = reserves_at_last _ _ _ _ _ c.loop-round.invariant.loses c.in-Held.ensures.view

pub returns-in-Empty-clause-none : goal.returns-in-Empty-clause-none
returns-in-Empty-clause-none g c _ = then_none _ _ _ c.loop-round.invariant.tried _ c.in-Empty.ensures.view

pub returns-in-Empty-clause-in_vain : goal.returns-in-Empty-clause-in_vain
returns-in-Empty-clause-in_vain g c _ =
    tries_in_vain _ _ _ _ _ c.loop-round.invariant.loses _ _ (c.reserve.ensures.seat.2 ∙ c.loop-round.invariant.looked)
    c.in-Empty.ensures.view

pub loop-round-preserved : goal.loop-round-preserved
loop-round-preserved g c = record {
  table = c.reserve.ensures.seat.0 ∙ c.loop-round.invariant.table;
  listed = c.reserve.ensures.seat.1 ∙ c.loop-round.invariant.listed;
  looked = c.reserve.ensures.seat.2 ∙ c.loop-round.invariant.looked;
  tried = tried_again _ _ _ c.loop-round.invariant.tried _ _ c.in-Lost.ensures.view;
  loses = loses_more _ _ _ _ _ c.loop-round.invariant.loses _ c.in-Lost.ensures.view;
  some = search rules;
  made =
      let made = c.loop-round.invariant.made in
      let tried = step_more c.loop-round.seat.view c.reserve.new.seat.view _ (ap (λ (z : View). z.trail.steps) c.in-Lost.ensures.view.rest)
      in
      omega (arith, made, tried);
}
