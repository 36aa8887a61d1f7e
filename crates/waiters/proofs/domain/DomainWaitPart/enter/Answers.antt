use Rattle.std.proofs.Common.{rules, refl, subst}
use Rattle.core_state.specs.declared.act.Act.TheVariants.{LoadGate}
use Rattle.seat_table.specs.Seats.{shape_of}
use Rattle.seat_table.specs.Gains.{Told}
use Rattle.seat_table.proofs.Seats.{entered_quiet}
use Rattle.seat_table.proofs.SeveralSteps.{entered_count, enters_count}
use Rattle.waiters.proofs.domain.DomainWaitPart.enter.Goals as goal

pub returns-clause-entered : goal.returns-clause-entered
returns-clause-entered c = entered_count (shape_of 1 c.args.table.now) _ _ c.args.key c.load_gate-gate.result c.requires.outside
    (subst (λ z. Told (shape_of 1 c.args.table.now) c.args.seat.now.view
    (LoadGate z) c.load_gate-gate.result c.load_gate-gate.new.seat.view) c.class_of.ensures.class c.load_gate-gate.ensures.told) _ _
    c.enter_by_count.ensures.told.0 c.enter_by_count.ensures.told.1

pub returns-clause-steps : goal.returns-clause-steps
returns-clause-steps c = enters_count (shape_of 1 c.args.table.now) _ _ c.args.key c.load_gate-gate.result c.requires.outside
    (subst (λ z. Told (shape_of 1 c.args.table.now) c.args.seat.now.view
    (LoadGate z) c.load_gate-gate.result c.load_gate-gate.new.seat.view) c.class_of.ensures.class c.load_gate-gate.ensures.told) _ _ _
    refl c.enter_by_count.ensures.told.1

pub returns-clause-quiet : goal.returns-clause-quiet
returns-clause-quiet c = entered_quiet (returns-clause-entered c) (search rules)
