use Rattle.std.proofs.Common.{rules, ◌+◌, sym, subst, arith}
use Rattle.seat_table.specs.Seats.{SeatAt}
use Rattle.node_slots.specs.Taking.{MissesNoted}
use Rattle.node_slots.proofs.Takes.{noted_none, noted_more, noted_most, finds_noted}
use Rattle.node_slots.proofs.taking.seize_noted.Goals as goal

pub loop-i-init : goal.loop-i-init
loop-i-init g c = record { table = search rules; listed = search rules; scanned = search rules; misses = noted_none _ _ _ _ }

pub loop-i-preserved : goal.loop-i-preserved
loop-i-preserved g c =
    let at = subst (λ (s : SeatAt). MissesNoted (c.args.table.now.slots
    + c.args.table.now.places) c.args.seat.now.view c.args.seat.now.looked c.loop-i.i s.view s.looked)
    (sym c.take_noted.ensures.seat) c.loop-i.invariant.misses in record {
      table = search rules;
      listed = search rules;
      scanned = search rules;
      misses = noted_more _ _ _ _ _ _ _ _ _ c.in_default-seize.ensures.looked at _ c.in_default-seize.ensures.view;
    }

pub returns-in-Got-clause-finds : goal.returns-in-Got-clause-finds
returns-in-Got-clause-finds g c =
    let at = subst (λ (s : SeatAt). MissesNoted (c.args.table.now.slots
    + c.args.table.now.places) c.args.seat.now.view c.args.seat.now.looked c.loop-i.i s.view s.looked)
    (sym c.take_noted.ensures.seat) c.loop-i.invariant.misses in
    finds_noted _ _ _ _ _ _ _ _ _ c.in-Got.ensures.looked at _ (omega (arith, c.loop-i-test.true)) c.in-Got.ensures.view

pub returns-in_default-clause-misses : goal.returns-in_default-clause-misses
returns-in_default-clause-misses g c =
    let at = subst (λ (s : SeatAt). MissesNoted (c.args.table.now.slots
    + c.args.table.now.places) c.args.seat.now.view c.args.seat.now.looked c.loop-i.i s.view s.looked)
    (sym c.take_noted.ensures.seat) c.loop-i.invariant.misses in
    noted_most _ _ _ _ _ _ _ (omega (arith, c.loop-i-test.true)) at

pub returns-clause-misses : goal.returns-clause-misses
returns-clause-misses g c = noted_most _ _ _ _ _ _ _ (omega (arith, c.loop-i.auto.i-end)) c.loop-i.invariant.misses
