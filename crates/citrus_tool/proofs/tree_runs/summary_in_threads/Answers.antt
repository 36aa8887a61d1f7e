use Rattle.core_state.specs.declared.shape.Waiter.TheVariants.{Eer, Domain, Deer}
use Rattle.citrus_tool.proofs.Leavings.{made_left}
use Rattle.citrus_tool.proofs.tree_runs.summary_in_threads.Goals as goal

pub returns-in_ok-text-in-Eer-clause-left : goal.returns-in_ok-text-in-Eer-clause-left
returns-in_ok-text-in-Eer-clause-left g c =
    let made = c.in_ok-text-in-Eer.field-0 in
    made_left c.args.waiter Eer c.args.scripts.now made.table made.seat c.in-Eer.is c.requires.some c.in_ok-text-in-Eer.ensures.left

pub returns-in_ok-text-in-Domain-clause-left : goal.returns-in_ok-text-in-Domain-clause-left
returns-in_ok-text-in-Domain-clause-left g c =
    let made = c.in_ok-text-in-Domain.field-0 in
    made_left c.args.waiter Domain c.args.scripts.now made.table made.seat c.in-Domain.is c.requires.some
    c.in_ok-text-in-Domain.ensures.left

pub returns-in_ok-text-in-Deer-clause-left : goal.returns-in_ok-text-in-Deer-clause-left
returns-in_ok-text-in-Deer-clause-left g c =
    let made = c.in_ok-text-in-Deer.field-0 in
    made_left c.args.waiter Deer c.args.scripts.now made.table made.seat c.in-Deer.is c.requires.some c.in_ok-text-in-Deer.ensures.left
