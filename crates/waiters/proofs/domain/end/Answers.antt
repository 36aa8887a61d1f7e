use Rattle.std.proofs.Common.{◌%◌, refl, sym, ap, subst}
use Rattle.seat_table.specs.declared.wait.Grace.{Grace}
use Rattle.seat_table.specs.Seats.{shape_of}
use Rattle.seat_table.proofs.Waiting.{polls_end, comes_to, is_not_yet, finds_then, finds_later}
use Rattle.key_interval.specs.Keys.{IsLastClass}
use Rattle.waiters.specs.declared.domain.Domain.{Domain}
use Rattle.seat_table.specs.Waits.{reached}
use Rattle.waiters.proofs.DomainPolls.{looked_named, ends}
use Rattle.waiters.proofs.domain.end.Goals as goal

pub returns-in-Some-look-clause-met : goal.returns-in-Some-look-clause-met
returns-in-Some-look-clause-met c =
    is_not_yet (shape_of 1 c.args.table.now) c.args.seat.now.view c.turn.new.seat.view c.look.new.seat.view c.turn.new.grace
    c.in_default.ensures.turned.1 c.in-Some-look.why c.in-Some-look.ensures.there c.in-Some-look.ensures.met

pub returns-clause-over : goal.returns-clause-over
returns-clause-over c =
    let come = c.in_default.ensures.turned.1 in
    let here = c.turn.new.grace in
    let latest = comes_to (shape_of 1 c.args.table.now) c.args.seat.now.view c.turn.new.seat.view here come in
    let last = subst (λ (z : Grace Domain). IsLastClass z.keys z.class) (sym c.turn.ensures.grace) c.requires.last in
    polls_end (shape_of 1 c.args.table.now) c.args.seat.now.view c.turn.new.seat.view c.look.new.seat.view here here come
    (ends (shape_of 1 c.args.table.now) refl here c.turn.new.seat.view c.look.new.seat.view
    (here.gate % 2) c.in_default.ensures.turned.0 last latest c.in_default-look.ensures.passed)

pub returns-in-Some-look-clause-onward : goal.returns-in-Some-look-clause-onward
returns-in-Some-look-clause-onward c = looked_named
    (reached c.args.grace.now) c.turn.new.grace c.turn.ensures.later c.turn.ensures.onward c.look.ensures.spot

pub returns-clause-onward : goal.returns-clause-onward
returns-clause-onward c =
    looked_named (reached c.args.grace.now) c.turn.new.grace c.turn.ensures.later c.turn.ensures.onward c.look.ensures.spot

pub returns-in-Some-look-clause-once : goal.returns-in-Some-look-clause-once
returns-in-Some-look-clause-once c =
    finds_later (ap (λ (z : Grace Domain). z.keys) c.turn.ensures.grace) (ap (λ (z : Grace Domain). z.clock) c.turn.ensures.grace)
    c.in_default.ensures.clear c.in-Some-look.ensures.once

pub returns-clause-clear : goal.returns-clause-clear
returns-clause-clear c =
    finds_then (ap (λ (z : Grace Domain). z.keys) c.turn.ensures.grace) (ap (λ (z : Grace Domain). z.clock) c.turn.ensures.grace)
    c.in_default.ensures.clear c.in_default-look.ensures.clear
