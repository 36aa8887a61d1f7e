use Rattle.std.proofs.Common.{subst, arith}
use Rattle.seat_table.specs.Gains.{IsSlot}
use Rattle.core_state.specs.Parts.{state_slot}
use Rattle.citrus_tree.specs.Lookups.{IsSearching, state_of}
use Rattle.citrus_tree.specs.declared.descent.Descent.{Descent}
use Rattle.seat_table.specs.Seats.{shape_of}
use Rattle.citrus_tree.proofs.Searching.{needs_value, needs_valued_life, sought_value, looked_missed}
use Rattle.seat_table.proofs.SeveralSteps.{makes_steps, told_steps}
use Rattle.citrus_tree.proofs.Leavings.{search_steps}
use Rattle.citrus_tree.proofs.comparing.find_value.Goals as goal

pub search_load-value-requires-clause-asks : goal.search_load-value-requires-clause-asks
search_load-value-requires-clause-asks g c =
    let k = shape_of g.W.WaitWords.WAY c.args.table.now in
    let searching = subst (λ (d : Descent). IsSearching c.args.seat.now.view c.args.key (state_of d) c.descend.new.seat.view)
    c.in-Found.is c.descend.ensures.searching in
    let slot = subst (λ (d : Descent). IsSlot k (state_slot (state_of d))) c.in-Found.is c.descend.ensures.slot in
    needs_value k c.args.seat.now.view c.args.key c.in-Found.slot c.in-Found.parent c.in-Found.side c.descend.new.seat.view searching slot

pub search_load-life-requires-clause-asks : goal.search_load-life-requires-clause-asks
search_load-life-requires-clause-asks g c =
    let k = shape_of g.W.WaitWords.WAY c.args.table.now in
    let searching = subst (λ (d : Descent). IsSearching c.args.seat.now.view c.args.key (state_of d) c.descend.new.seat.view)
    c.in-Found.is c.descend.ensures.searching in
    let slot = subst (λ (d : Descent). IsSlot k (state_slot (state_of d))) c.in-Found.is c.descend.ensures.slot in
    needs_valued_life k c.args.seat.now.view c.args.key c.in-Found.slot c.in-Found.parent c.in-Found.side c.search_load-value.result
    c.descend.new.seat.view c.search_load-value.new.seat.view slot searching c.search_load-value.ensures.told

pub returns-in-Found-clause-sought : goal.returns-in-Found-clause-sought
returns-in-Found-clause-sought g c =
    let k = shape_of g.W.WaitWords.WAY c.args.table.now in
    let searching = subst (λ (d : Descent). IsSearching c.args.seat.now.view c.args.key (state_of d) c.descend.new.seat.view)
    c.in-Found.is c.descend.ensures.searching in
    let slot = subst (λ (d : Descent). IsSlot k (state_slot (state_of d))) c.in-Found.is c.descend.ensures.slot in
    sought_value k c.args.seat.now.view c.args.key c.in-Found.slot c.in-Found.parent c.in-Found.side c.search_load-value.result
    c.search_load-life.result c.generation_of-generation.result c.descend.new.seat.view c.search_load-value.new.seat.view
    c.search_load-life.new.seat.view c.leave.new.seat.view slot searching c.search_load-value.ensures.told c.search_load-life.ensures.told
    c.leave.ensures.left c.generation_of-generation.ensures

pub returns-in-Ended-clause-sought : goal.returns-in-Ended-clause-sought
returns-in-Ended-clause-sought g c = looked_missed
    (shape_of g.W.WaitWords.WAY c.args.table.now) c.args.seat.now.view c.args.key c.in-Ended.slot c.in-Ended.side c.descend.new.seat.view
    c.leave-in-Ended.new.seat.view (subst (λ (d : Descent). IsSearching c.args.seat.now.view c.args.key
    (state_of d) c.descend.new.seat.view) c.in-Ended.is c.descend.ensures.searching) c.leave-in-Ended.ensures.left

pub returns-in-Found-clause-stepped : goal.returns-in-Found-clause-stepped
returns-in-Found-clause-stepped g c =
    let found = search_steps c.descend.ensures.searching in
    let value = told_steps c.search_load-value.ensures.told in
    let life = told_steps c.search_load-life.ensures.told in
    let left = makes_steps c.search_load-life.new.seat.view c.leave.new.seat.view c.leave.ensures.left.made in
    omega (arith, found, value, life, left)

pub returns-in-Ended-clause-stepped : goal.returns-in-Ended-clause-stepped
returns-in-Ended-clause-stepped g c =
    let found = search_steps c.descend.ensures.searching in
    let left = makes_steps c.descend.new.seat.view c.leave-in-Ended.new.seat.view c.leave-in-Ended.ensures.left.made in
    omega (arith, found, left)
