use Rattle.std.proofs.Common.{subst, rules, arith}
use Rattle.seat_table.specs.Gains.{IsSlot}
use Rattle.core_state.specs.Parts.{state_slot}
use Rattle.citrus_tree.specs.Lookups.{IsSearching, state_of}
use Rattle.citrus_tree.specs.declared.descent.Descent.{Descent}
use Rattle.seat_table.specs.Seats.{shape_of}
use Rattle.citrus_tree.proofs.Searching.{sought, looked_missed}
use Rattle.seat_table.proofs.SeveralSteps.{makes_steps, told_steps}
use Rattle.citrus_tree.proofs.Leavings.{search_steps}
use Rattle.citrus_tree.proofs.replace.find_holder.Goals as goal

pub returns-in-Found-clause-sought : goal.returns-in-Found-clause-sought
returns-in-Found-clause-sought g c =
    sought (shape_of g.W.WaitWords.WAY c.args.table.now) c.args.seat.now.view c.args.key c.in-Found.slot c.in-Found.parent c.in-Found.side
    c.search_load-life.result c.generation_of.result c.descend.new.seat.view c.search_load-life.new.seat.view c.leave.new.seat.view
    (subst (λ (d : Descent). IsSlot (shape_of g.W.WaitWords.WAY c.args.table.now)
    (state_slot (state_of d))) c.in-Found.is c.descend.ensures.slot)
    (subst (λ (d : Descent). IsSearching c.args.seat.now.view c.args.key
    (state_of d) c.descend.new.seat.view) c.in-Found.is c.descend.ensures.searching) c.search_load-life.ensures.told
    c.leave.ensures.left c.generation_of.ensures

pub returns-in-Ended-clause-sought : goal.returns-in-Ended-clause-sought
returns-in-Ended-clause-sought g c = looked_missed
    (shape_of g.W.WaitWords.WAY c.args.table.now) c.args.seat.now.view c.args.key c.in-Ended.slot c.in-Ended.side c.descend.new.seat.view
    c.leave-in-Ended.new.seat.view (subst (λ (d : Descent). IsSearching c.args.seat.now.view c.args.key
    (state_of d) c.descend.new.seat.view) c.in-Ended.is c.descend.ensures.searching) c.leave-in-Ended.ensures.left

pub search_load-life-requires-clause-asks : goal.search_load-life-requires-clause-asks
search_load-life-requires-clause-asks g c =
    let searching = subst (λ (d : Descent). IsSearching c.args.seat.now.view c.args.key
    (state_of d) c.descend.new.seat.view) c.in-Found.is c.descend.ensures.searching in
    let slot = subst (λ (d : Descent). IsSlot (shape_of g.W.WaitWords.WAY c.args.table.now)
    (state_slot (state_of d))) c.in-Found.is c.descend.ensures.slot in
    search rules

pub returns-in-Found-clause-stepped : goal.returns-in-Found-clause-stepped
returns-in-Found-clause-stepped g c =
    let found = search_steps c.descend.ensures.searching in
    let loaded = told_steps c.search_load-life.ensures.told in
    let left = makes_steps c.search_load-life.new.seat.view c.leave.new.seat.view c.leave.ensures.left.made in
    omega (arith, found, loaded, left)

pub returns-in-Ended-clause-stepped : goal.returns-in-Ended-clause-stepped
returns-in-Ended-clause-stepped g c =
    let found = search_steps c.descend.ensures.searching in
    let left = makes_steps c.descend.new.seat.view c.leave-in-Ended.new.seat.view c.leave-in-Ended.ensures.left.made in
    omega (arith, found, left)
