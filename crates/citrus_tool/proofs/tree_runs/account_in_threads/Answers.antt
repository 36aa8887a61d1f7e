use Rattle.core_state.specs.declared.shape.Waiter.TheVariants.{Eer, Domain, Deer}
use Rattle.citrus_tool.proofs.Leavings.{in_tree}
use Rattle.citrus_tool.proofs.tree_runs.account_in_threads.Goals as goal

pub returns-in_ok-text-in-Eer : goal.returns-in_ok-text-in-Eer
returns-in_ok-text-in-Eer g c =
    let made = c.in_ok-text-in-Eer.field-0 in
    in_tree c.args.how Eer c.args.scripts.now c.args.slots made.text.items made.table made.seat c.in-Eer.is c.requires.some
    c.in_ok-text-in-Eer.ensures

pub returns-in_ok-text-in-Domain : goal.returns-in_ok-text-in-Domain
returns-in_ok-text-in-Domain g c =
    let made = c.in_ok-text-in-Domain.field-0 in
    in_tree c.args.how Domain c.args.scripts.now c.args.slots made.text.items made.table made.seat c.in-Domain.is c.requires.some
    c.in_ok-text-in-Domain.ensures

pub returns-in_ok-text-in-Deer : goal.returns-in_ok-text-in-Deer
returns-in_ok-text-in-Deer g c =
    let made = c.in_ok-text-in-Deer.field-0 in
    in_tree c.args.how Deer c.args.scripts.now c.args.slots made.text.items made.table made.seat c.in-Deer.is c.requires.some
    c.in_ok-text-in-Deer.ensures
