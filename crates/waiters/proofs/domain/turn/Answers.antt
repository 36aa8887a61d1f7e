use Rattle.std.proofs.Common.{◌≡◌, ◌-◌, ◌%◌, true, false, refl, sym, ap, subst, ◌∙◌}
use Rattle.key_interval.specs.Keys.{MeetsClass}
use Rattle.seat_table.specs.declared.wait.Grace.{Grace}
use Rattle.seat_table.specs.Seats.{shape_of}
use Rattle.seat_table.proofs.Waiting.{begins_on, comes_to, goes_further, stops_further, stops_here, looks_then, finds_nothing, finds_clear, finds_then, finds_later}
use Rattle.waiters.specs.declared.domain.Domain.{Domain}
use Rattle.core_state.specs.declared.words.Field.TheVariants.{Count}
use Rattle.seat_table.specs.Looks.{IsOnward, IsLater}
use Rattle.seat_table.specs.Waits.{reached}
use Rattle.seat_table.specs.Looks.IsClear.{turn as turns}
use Rattle.waiters.proofs.DomainPolls.{turn_made, gate_turned, later_unturned, onward_unturned, looked_count, may_turn, turned_on}
use Rattle.waiters.proofs.domain.turn.Goals as goal

abbrev is_turned : Grace Domain → Grace Domain
is_turned g = record g { turned = true }

pub returns-then-grace-clause-turned : goal.returns-then-grace-clause-turned
returns-then-grace-clause-turned c = (
  c.if-grace.true,
  begins_on (shape_of 1 c.args.table.now) c.args.seat.now.view c.args.grace.now c.requires.latest,
)

pub returns-in-Some-clause-met : goal.returns-in-Some-clause-met
returns-in-Some-clause-met c =
    let come = c.load_gate.ensures.gone_on in
    let here = c.load_gate.new.grace in
    stops_further
    (shape_of 1 c.args.table.now) c.args.seat.now.view c.load_gate.new.seat.view c.look.new.seat.view here here come c.in-Some.why
    (stops_here (shape_of 1 c.args.table.now) c.load_gate.new.seat.view c.look.new.seat.view here
    (comes_to (shape_of 1 c.args.table.now) c.args.seat.now.view c.load_gate.new.seat.view here come) c.in-Some.why
    c.in-Some.ensures.there c.in-Some.ensures.met)

pub turn_gate-requires-clause-asks : goal.turn_gate-requires-clause-asks
turn_gate-requires-clause-asks c = λ told.
    let here = c.load_gate.new.grace in
    let latest = comes_to (shape_of 1 c.args.table.now) c.args.seat.now.view c.load_gate.new.seat.view here c.load_gate.ensures.gone_on in
    let unturned : here.turned ≡ false = ap (λ (z : Grace Domain). z.turned) c.load_gate.ensures.grace ∙ c.if-grace.false in (
      (refl, latest.2.small),
      may_turn (shape_of 1 c.args.table.now) refl here c.load_gate.new.seat.view c.look.new.seat.view latest unturned _
          c.in_default.ensures.passed (subst (λ (z : Grace Domain). MeetsClass z.keys z.class)
          (sym c.load_gate.ensures.grace) c.requires.met),
    )

pub returns-clause-turned : goal.returns-clause-turned
returns-clause-turned c =
    let here = c.load_gate.new.grace in
    let come = c.load_gate.ensures.gone_on in
    let latest = comes_to (shape_of 1 c.args.table.now) c.args.seat.now.view c.load_gate.new.seat.view here come in
    let unturned : here.turned ≡ false = ap (λ (z : Grace Domain). z.turned) c.load_gate.ensures.grace ∙ c.if-grace.false in
    let met = subst (λ (z : Grace Domain). MeetsClass z.keys z.class) (sym c.load_gate.ensures.grace) c.requires.met in (
      refl,
      goes_further (shape_of 1 c.args.table.now) c.args.seat.now.view c.load_gate.new.seat.view c.turn_gate.new.seat.view here
          (is_turned here) come
          (turned_on (shape_of 1 c.args.table.now) refl here c.load_gate.new.seat.view c.look.new.seat.view latest unturned
          (1 - here.gate % 2) c.in_default.ensures.passed c.turn_gate.new.seat.view c.turn_gate.result met refl
          c.turn_gate.ensures.told),
    )

pub returns-in-Some-clause-onward : goal.returns-in-Some-clause-onward
returns-in-Some-clause-onward c =
    let r = reached c.args.grace.now in
    let here = c.load_gate.new.grace in
    let side = 1 - here.gate % 2 in
    let there = subst (λ (z : Grace Domain). IsOnward r (Count z.class side)) (sym c.load_gate.ensures.grace)
    (onward_unturned c.args.grace.now side c.if-grace.false) in
    looked_count r here.class side there c.load_gate.ensures.onward c.look.ensures.spot

pub returns-in-Some-clause-later : goal.returns-in-Some-clause-later
returns-in-Some-clause-later c = subst (λ (z : Grace Domain). IsLater (reached c.args.grace.now) (reached z))
    (sym c.load_gate.ensures.grace) (later_unturned c.args.grace.now c.load_gate.new.grace.gate c.args.grace.now.turned c.if-grace.false)

pub returns-clause-onward : goal.returns-clause-onward
returns-clause-onward c =
    let r = reached c.args.grace.now in
    let here = c.load_gate.new.grace in
    let side = 1 - here.gate % 2 in
    let there = subst (λ (z : Grace Domain). IsOnward r (Count z.class side)) (sym c.load_gate.ensures.grace)
    (onward_unturned c.args.grace.now side c.if-grace.false) in
    looks_then (IsOnward r) _ _ _ (looked_count r here.class side there c.load_gate.ensures.onward c.look.ensures.spot)
    (gate_turned r c.turn_gate.ensures.told)

pub returns-clause-later : goal.returns-clause-later
returns-clause-later c = subst (λ (z : Grace Domain). IsLater (reached c.args.grace.now) (reached (is_turned z)))
    (sym c.load_gate.ensures.grace) (later_unturned c.args.grace.now c.load_gate.new.grace.gate true c.if-grace.false)

pub returns-then-grace-clause-clear : goal.returns-then-grace-clause-clear
returns-then-grace-clause-clear c = finds_nothing

pub returns-in-Some-clause-once : goal.returns-in-Some-clause-once
returns-in-Some-clause-once c =
    finds_later (ap (λ (z : Grace Domain). z.keys) c.load_gate.ensures.grace) (ap (λ (z : Grace Domain). z.clock) c.load_gate.ensures.grace)
    c.load_gate.ensures.clear c.in-Some.ensures.once

pub returns-clause-clear : goal.returns-clause-clear
returns-clause-clear c =
    let looked = finds_then (ap (λ (z : Grace Domain). z.keys) c.load_gate.ensures.grace)
    (ap (λ (z : Grace Domain). z.clock) c.load_gate.ensures.grace) c.load_gate.ensures.clear c.in_default.ensures.clear in
    finds_then refl refl looked
    (finds_clear (turn_made c.turn_gate.ensures.told) (turns c.load_gate.new.grace.class c.turn_gate.result))
