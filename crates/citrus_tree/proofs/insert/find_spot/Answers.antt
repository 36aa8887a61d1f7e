use Rattle.core_state.specs.Parts.{state_slot}
use Rattle.citrus_tree.specs.Lookups.{IsSearching, state_of}
use Rattle.citrus_tree.specs.declared.descent.Descent.{Descent}
use Rattle.std.proofs.Common.{sym, subst, arith}
use Rattle.seat_table.specs.Gains.{IsSlot}
use Rattle.seat_table.specs.Seats.{shape_of}
use Rattle.citrus_tree.proofs.Searching.{looked_there_as}
use Rattle.seat_table.proofs.SeveralSteps.{makes_steps}
use Rattle.citrus_tree.proofs.Leavings.{search_steps}
use Rattle.citrus_tree.proofs.insert.find_spot.Goals as goal

pub returns-in-Found-clause-searched : goal.returns-in-Found-clause-searched
returns-in-Found-clause-searched g c =
    let there = looked_there_as
    (shape_of g.W.WaitWords.WAY c.args.table.now) c.args.seat.now.view c.args.key c.in-Found.slot c.in-Found.parent c.in-Found.side
    c.descend.new.seat.view c.leave.new.seat.view
    (subst (λ (d : Descent). IsSearching c.args.seat.now.view c.args.key
    (state_of d) c.descend.new.seat.view) c.in-Found.is c.descend.ensures.searching) c.leave.ensures.left in
    (there.0, there.1.0)

pub returns-in-Ended-clause-searched : goal.returns-in-Ended-clause-searched
returns-in-Ended-clause-searched g c =
    let left = c.leave_with_spot.ensures.looked c.args.seat.now.view c.args.key
    (subst (λ (d : Descent). IsSearching c.args.seat.now.view c.args.key
    (state_of d) c.descend.new.seat.view) c.in-Ended.is c.descend.ensures.searching) in (
      left.0,
      left.1,
      subst (IsSlot (shape_of g.W.WaitWords.WAY c.args.table.now)) (sym c.leave_with_spot.ensures.slot)
          (subst (λ (d : Descent). IsSlot (shape_of g.W.WaitWords.WAY c.args.table.now)
          (state_slot (state_of d))) c.in-Ended.is c.descend.ensures.slot),
    )

pub returns-in-Found-clause-stepped : goal.returns-in-Found-clause-stepped
returns-in-Found-clause-stepped g c =
    let found = search_steps c.descend.ensures.searching in
    let left = makes_steps c.descend.new.seat.view c.leave.new.seat.view c.leave.ensures.left.made in
    omega (arith, found, left)

pub returns-in-Ended-clause-stepped : goal.returns-in-Ended-clause-stepped
returns-in-Ended-clause-stepped g c =
    let found = search_steps c.descend.ensures.searching in
    let left = c.leave_with_spot.ensures.stepped in
    omega (arith, found, left)
