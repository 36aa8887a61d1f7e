use Rattle.std.proofs.Common.{length, sym, ap, subst, ◌∙◌, arith}
use Rattle.key_interval.specs.Keys.{Interval}
use Rattle.core_state.specs.declared.shape.Shape.{Shape}
use Rattle.seat_table.specs.Seats.{shape_of}
use Rattle.seat_table.specs.Waits.{HasWaited}
use Rattle.node_slots.specs.Reclaiming.{AreReady, GivesBack, first_slots, without_slots}
use Rattle.node_slots.proofs.Reclaims.{all_gone, ready_all, reclaims}
use Rattle.node_slots.proofs.reclaiming.reclaim.Goals as goal

pub give_back-requires-clause-ready : goal.give_back-requires-clause-ready
give_back-requires-clause-ready g c =
    let k : Shape = shape_of g.W.WaitWords.WAY c.args.table.now in
    let waits = subst (λ
    (x : Interval). HasWaited k c.args.seat.now.view x.low x.high c.wait_in_grace.new.seat.view) c.all.ensures
    c.in_ok-wait_in_grace.ensures.waited in
    subst (λ l. AreReady c.wait_in_grace.new.seat.view (first_slots (length c.retired-count.result.now) l))
    (sym c.wait_in_grace.ensures.seat.1)
    (ready_all k c.args.seat.now.view _ waits c.requires.settled c.args.seat.now.listed c.requires.listed.each c.requires.unraised
    (length c.retired-count.result.now))

pub returns-clause-listed : goal.returns-clause-listed
returns-clause-listed g c =
    c.give_back.ensures.listed ∙ ap (λ l. without_slots
    (first_slots (length l) c.wait_in_grace.new.seat.listed) c.wait_in_grace.new.seat.listed) c.retired-count.ensures
    ∙ all_gone (length c.wait_in_grace.new.seat.listed) c.wait_in_grace.new.seat.listed (omega arith)

pub returns-clause-view : goal.returns-clause-view
returns-clause-view g c =
    let k : Shape = shape_of g.W.WaitWords.WAY c.args.table.now in
    let waits = subst (λ
    (x : Interval). HasWaited k c.args.seat.now.view x.low x.high c.wait_in_grace.new.seat.view) c.all.ensures
    c.in_ok-wait_in_grace.ensures.waited in
    let gives = subst (λ l. GivesBack c.wait_in_grace.new.seat.view
    (first_slots (length l) c.args.seat.now.listed) c.give_back.new.seat.view)
    (c.retired-count.ensures ∙ c.wait_in_grace.ensures.seat.1)
    (subst (λ l. GivesBack c.wait_in_grace.new.seat.view
    (first_slots (length c.retired-count.result.now) l) c.give_back.new.seat.view) c.wait_in_grace.ensures.seat.1
    c.give_back.ensures.view) in
    reclaims k c.args.seat.now.view _ waits c.requires.settled c.args.seat.now.listed c.requires.listed.each c.requires.unraised
    c.give_back.new.seat.view gives
