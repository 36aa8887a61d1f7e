use Rattle.seat_table.specs.Gains.{IsSlot}
use Rattle.core_state.specs.Parts.{state_slot}
use Rattle.std.proofs.Common.{subst, arith, rules}
use Rattle.citrus_tree.specs.Lookups.{IsSearching, state_of}
use Rattle.citrus_tree.specs.declared.descent.Descent.{Descent}
use Rattle.seat_table.specs.Seats.{shape_of}
use Rattle.citrus_tree.proofs.Searching.{held, looked_missed}
use Rattle.seat_table.proofs.SeveralSteps.{left_once, told_once}
use Rattle.citrus_tree.proofs.holding.hold.Goals as goal

pub search_load-value-requires-clause-asks : goal.search_load-value-requires-clause-asks
search_load-value-requires-clause-asks g c =
    let searching = subst (λ (d : Descent). IsSearching c.args.seat.now.view c.args.key
    (state_of d) c.descend.new.seat.view) c.in-Found.is c.descend.ensures.searching in
    let slot = subst (λ (d : Descent). IsSlot (shape_of g.W.WaitWords.WAY c.args.table.now)
    (state_slot (state_of d))) c.in-Found.is c.descend.ensures.slot in
    search rules

pub returns-in-Found-clause-held : goal.returns-in-Found-clause-held
returns-in-Found-clause-held g c = held
    (shape_of g.W.WaitWords.WAY c.args.table.now) c.args.seat.now.view c.args.key c.in-Found.slot c.in-Found.parent
    c.in-Found.side c.search_load-value.result c.descend.new.seat.view c.search_load-value.new.seat.view
    (subst (λ (d : Descent). IsSearching c.args.seat.now.view c.args.key
    (state_of d) c.descend.new.seat.view) c.in-Found.is c.descend.ensures.searching) c.search_load-value.ensures.told

pub returns-in-Ended-clause-held : goal.returns-in-Ended-clause-held
returns-in-Ended-clause-held g c = looked_missed
    (shape_of g.W.WaitWords.WAY c.args.table.now) c.args.seat.now.view c.args.key c.in-Ended.slot c.in-Ended.side c.descend.new.seat.view
    c.leave.new.seat.view (subst (λ (d : Descent). IsSearching c.args.seat.now.view c.args.key
    (state_of d) c.descend.new.seat.view) c.in-Ended.is c.descend.ensures.searching) c.leave.ensures.left

pub returns-in-Found-clause-within : goal.returns-in-Found-clause-within
returns-in-Found-clause-within g c =
    let found = c.descend.ensures.within in let value = told_once c.search_load-value.ensures.told in omega (arith, found, value)

pub returns-in-Ended-clause-within : goal.returns-in-Ended-clause-within
returns-in-Ended-clause-within g c =
    let found = c.descend.ensures.within in let left = left_once c.leave.ensures.left in omega (arith, found, left)
