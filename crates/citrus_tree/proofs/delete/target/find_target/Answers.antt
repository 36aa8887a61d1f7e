use Rattle.std.proofs.Common.{subst, arith}
use Rattle.citrus_tree.specs.Lookups.{IsSearching, state_of}
use Rattle.citrus_tree.specs.declared.descent.Descent.{Descent}
use Rattle.prcu_model.specs.declared.operation.Op.TheVariants.{Del}
use Rattle.seat_table.specs.Seats.{shape_of}
use Rattle.tree_points.proofs.Passing.{inside_leave}
use Rattle.citrus_tree.proofs.DeleteSearches.{answered_now, at_end, at_parent, looked_valued, searched_found, searched_missed, seated_by}
use Rattle.citrus_tree.proofs.DeleteUpdates.{loads_on}
use Rattle.std.proofs.lemmas.Option.{IfSome_then}
use Rattle.citrus_tree.proofs.Searching.{looked_missed}
use Rattle.seat_table.proofs.SeveralSteps.{makes_steps}
use Rattle.citrus_tree.proofs.Leavings.{search_steps}
use Rattle.citrus_tree.proofs.delete.target.find_target.Goals as goal

pub descend-requires-clause-outside : goal.descend-requires-clause-outside
descend-requires-clause-outside g c = c.requires.at.1.outside

pub descend-requires-clause-unlocked : goal.descend-requires-clause-unlocked
descend-requires-clause-unlocked g c = c.requires.at.1.unlocked

pub load_target-target-requires-clause-at : goal.load_target-target-requires-clause-at
load_target-target-requires-clause-at g c =
    let a = c.requires.at in (
      Del c.args.key,
      a.0,
      at_parent (a.1.at (seated_by c.descend.ensures.place
          (subst (λ (d : Descent). IsSearching c.args.seat.now.view c.args.key
          (state_of d) c.descend.new.seat.view) c.in-Found.is c.descend.ensures.searching)))
          (subst (λ (d : Descent). IsSearching c.args.seat.now.view c.args.key
          (state_of d) c.descend.new.seat.view) c.in-Found.is c.descend.ensures.searching),
    )

pub load_seen-value-requires-clause-at : goal.load_seen-value-requires-clause-at
load_seen-value-requires-clause-at g c =
    let a = c.requires.at in (
      Del c.args.key,
      a.0,
      c.load_target-target.ensures.at (Del c.args.key) a.0
          (at_parent (a.1.at (seated_by c.descend.ensures.place
          (subst (λ (d : Descent). IsSearching c.args.seat.now.view c.args.key
          (state_of d) c.descend.new.seat.view) c.in-Found.is c.descend.ensures.searching)))
          (subst (λ (d : Descent). IsSearching c.args.seat.now.view c.args.key
          (state_of d) c.descend.new.seat.view) c.in-Found.is c.descend.ensures.searching)),
    )

pub load_seen-value-requires-clause-inside : goal.load_seen-value-requires-clause-inside
load_seen-value-requires-clause-inside g c = c.load_target-target.ensures.inside

pub leave-requires-clause-inside : goal.leave-requires-clause-inside
leave-requires-clause-inside g c =
    let a = c.requires.at in
    let here = inside_leave (c.load_target-target.ensures.at (Del c.args.key) a.0
    (at_parent (a.1.at (seated_by c.descend.ensures.place
    (subst (λ (d : Descent). IsSearching c.args.seat.now.view c.args.key
    (state_of d) c.descend.new.seat.view) c.in-Found.is c.descend.ensures.searching)))
    (subst (λ (d : Descent). IsSearching c.args.seat.now.view c.args.key
    (state_of d) c.descend.new.seat.view) c.in-Found.is c.descend.ensures.searching))) in
    let still = c.load_seen-value.ensures.same.inside here.0 here.1 in
    (record here.0 { reading = still.0 }, still.1)

pub returns-in-Found-clause-found : goal.returns-in-Found-clause-found
returns-in-Found-clause-found g c = λ kept a.
    (c.load_seen-value.ensures.leaves (Del c.args.key) kept c.leave.new.seat.view
    (c.load_target-target.ensures.at (Del c.args.key) kept
    (at_parent (a.at (seated_by c.descend.ensures.place
    (subst (λ (d : Descent). IsSearching c.args.seat.now.view c.args.key
    (state_of d) c.descend.new.seat.view) c.in-Found.is c.descend.ensures.searching)))
    (subst (λ (d : Descent). IsSearching c.args.seat.now.view c.args.key
    (state_of d) c.descend.new.seat.view) c.in-Found.is c.descend.ensures.searching)))
    c.leave.ensures.left).0

pub returns-in-Found-clause-two : goal.returns-in-Found-clause-two
returns-in-Found-clause-two g c =
    let a = c.requires.at in
    (c.load_seen-value.ensures.leaves (Del c.args.key) a.0 c.leave.new.seat.view
    (c.load_target-target.ensures.at (Del c.args.key) a.0
    (at_parent (a.1.at (seated_by c.descend.ensures.place
    (subst (λ (d : Descent). IsSearching c.args.seat.now.view c.args.key
    (state_of d) c.descend.new.seat.view) c.in-Found.is c.descend.ensures.searching)))
    (subst (λ (d : Descent). IsSearching c.args.seat.now.view c.args.key
    (state_of d) c.descend.new.seat.view) c.in-Found.is c.descend.ensures.searching)))
    c.leave.ensures.left).1

pub returns-in-Found-clause-said : goal.returns-in-Found-clause-said
returns-in-Found-clause-said g c =
    let a = c.requires.at in
    let searching = subst (λ (d : Descent). IsSearching c.args.seat.now.view c.args.key
    (state_of d) c.descend.new.seat.view) c.in-Found.is c.descend.ensures.searching in
    let leaving = c.load_target-target.ensures.at (Del c.args.key) a.0
    (at_parent (a.1.at (seated_by c.descend.ensures.place searching)) searching) in
    IfSome_then c.load_seen-value.result c.load_seen-value.ensures.seen (λ value seen.
    answered_now (looked_valued (shape_of g.W.WaitWords.WAY c.args.table.now) searching
    (loads_on _ _ _ c.load_target-target.ensures.same c.load_seen-value.ensures.same)
    (seen (Del c.args.key) a.0 leaving) c.leave.ensures.left))

pub returns-in-Found-clause-searched : goal.returns-in-Found-clause-searched
returns-in-Found-clause-searched g c =
    searched_found (subst (λ (d : Descent). IsSearching c.args.seat.now.view c.args.key
    (state_of d) c.descend.new.seat.view) c.in-Found.is c.descend.ensures.searching)
    (loads_on _ _ _ c.load_target-target.ensures.same c.load_seen-value.ensures.same) c.leave.ensures.left

pub returns-in-Ended-clause-done : goal.returns-in-Ended-clause-done
returns-in-Ended-clause-done g c = λ kept a.
    at_end (a.at (seated_by c.descend.ensures.place
    (subst (λ (d : Descent). IsSearching c.args.seat.now.view c.args.key
    (state_of d) c.descend.new.seat.view) c.in-Ended.is c.descend.ensures.searching)))
    (looked_missed
    (shape_of g.W.WaitWords.WAY c.args.table.now) c.args.seat.now.view c.args.key c.in-Ended.slot c.in-Ended.side
    c.descend.new.seat.view c.leave-in-Ended.new.seat.view
    (subst (λ (d : Descent). IsSearching c.args.seat.now.view c.args.key
    (state_of d) c.descend.new.seat.view) c.in-Ended.is c.descend.ensures.searching) c.leave-in-Ended.ensures.left)

pub returns-in-Ended-clause-absent : goal.returns-in-Ended-clause-absent
returns-in-Ended-clause-absent g c =
    answered_now (looked_missed
    (shape_of g.W.WaitWords.WAY c.args.table.now) c.args.seat.now.view c.args.key c.in-Ended.slot c.in-Ended.side
    c.descend.new.seat.view c.leave-in-Ended.new.seat.view
    (subst (λ (d : Descent). IsSearching c.args.seat.now.view c.args.key
    (state_of d) c.descend.new.seat.view) c.in-Ended.is c.descend.ensures.searching) c.leave-in-Ended.ensures.left)

pub returns-in-Ended-clause-searched : goal.returns-in-Ended-clause-searched
returns-in-Ended-clause-searched g c =
    searched_missed
    (looked_missed
    (shape_of g.W.WaitWords.WAY c.args.table.now) c.args.seat.now.view c.args.key c.in-Ended.slot c.in-Ended.side
    c.descend.new.seat.view c.leave-in-Ended.new.seat.view
    (subst (λ (d : Descent). IsSearching c.args.seat.now.view c.args.key
    (state_of d) c.descend.new.seat.view) c.in-Ended.is c.descend.ensures.searching) c.leave-in-Ended.ensures.left)

pub returns-in-Found-clause-stepped : goal.returns-in-Found-clause-stepped
returns-in-Found-clause-stepped g c =
    let found = search_steps c.descend.ensures.searching in
    let loaded = makes_steps c.descend.new.seat.view c.load_target-target.new.seat.view c.load_target-target.ensures.same.made in
    let seen = makes_steps c.load_target-target.new.seat.view c.load_seen-value.new.seat.view c.load_seen-value.ensures.same.made in
    let left = makes_steps c.load_seen-value.new.seat.view c.leave.new.seat.view c.leave.ensures.left.made in
    omega (arith, found, loaded, seen, left)

pub returns-in-Ended-clause-stepped : goal.returns-in-Ended-clause-stepped
returns-in-Ended-clause-stepped g c =
    let found = search_steps c.descend.ensures.searching in
    let left = makes_steps c.descend.new.seat.view c.leave-in-Ended.new.seat.view c.leave-in-Ended.ensures.left.made in
    omega (arith, found, left)
