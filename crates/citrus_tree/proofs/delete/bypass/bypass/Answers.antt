use Rattle.std.proofs.Common.{[], ◌∷◌, ◌++◌, length, sym, ap, subst, ◌∙◌, arith}
use Rattle.list_laws.specs.Counts.{times}
use Rattle.prcu_model.specs.declared.operation.Op.TheVariants.{Del}
use Rattle.core_state.specs.declared.view.View.{View}
use Rattle.seat_table.specs.Seats.{shape_of}
use Rattle.tree_points.specs.Points.{IsDone}
use Rattle.tree_points.proofs.Locks.{needs_unlock, passes_unlock, passes_unlock_gone}
use Rattle.citrus_tree.specs.Deletes.{HasDone, TakesValue, retired_slots}
use Rattle.citrus_tree.proofs.DeleteUpdates.{keeps_rest, rest_unlock, same_locks, no_lock, done_still, takes_more}
use Rattle.citrus_tree.proofs.DeleteMoves.{in_slots, now_retired, yet_unlisted, listed_more, few_listed}
use Rattle.citrus_tree.proofs.Leavings.{slots_more}
use Rattle.citrus_tree.specs.Going.{retired_marks}
use Rattle.citrus_tree.proofs.DeleteTries.{same_room}
use Rattle.citrus_tree.proofs.delete.bypass.bypass.Goals as goal

pub unlock-requires-clause-asks : goal.unlock-requires-clause-asks
unlock-requires-clause-asks g c =
    let a = c.requires.at in
    needs_unlock (same_locks c.in_ok-number.ensures.locked c.requires.locked) (c.in_ok-number.ensures.at a.0 a.1)

pub unlock-requires-2-clause-asks : goal.unlock-requires-2-clause-asks
unlock-requires-2-clause-asks g c =
    let a = c.requires.at in
    let p = passes_unlock (same_locks c.in_ok-number.ensures.locked c.requires.locked)
    (c.in_ok-number.ensures.at a.0 a.1) c.unlock.ensures.told in
    needs_unlock p.1 p.0

pub list_retired-requires-clause-retired : goal.list_retired-requires-clause-retired
list_retired-requires-clause-retired g c =
    let k = (shape_of g.W.WaitWords.WAY c.args.table.now) in
    in_slots c.unlock-2.new.seat.view.hands.retired c.args.node.node
    (now_retired c.args.seat.now.view c.unlock-2.new.seat.view c.args.node.node
    ((rest_unlock k _ _ _ _ c.unlock-2.ensures.told).retired ∙ (rest_unlock k _ _ _ _ c.unlock.ensures.told).retired
    ∙ c.in_ok-number.ensures.retired))

pub list_retired-requires-clause-unlocked : goal.list_retired-requires-clause-unlocked
list_retired-requires-clause-unlocked g c =
    let a = c.requires.at in
    let p = passes_unlock (same_locks c.in_ok-number.ensures.locked c.requires.locked)
    (c.in_ok-number.ensures.at a.0 a.1) c.unlock.ensures.told in
    no_lock c.unlock-2.new.seat.view c.args.node.node (((passes_unlock_gone p.1 p.0 c.unlock-2.ensures.told).fits.point).1).locks_are

pub list_retired-requires-clause-unlisted : goal.list_retired-requires-clause-unlisted
list_retired-requires-clause-unlisted g c = λ told.
    let k = (shape_of g.W.WaitWords.WAY c.args.table.now) in
    let more = (rest_unlock k _ _ _ _ c.unlock-2.ensures.told).retired ∙ (rest_unlock k _ _ _ _ c.unlock.ensures.told).retired
    ∙ c.in_ok-number.ensures.retired in
    let listed = (c.unlock-2.ensures.seat).1 ∙ (c.unlock.ensures.seat).1 ∙ (c.link_past.ensures.seat).1 in
    yet_unlisted c.args.seat.now.view c.unlock-2.new.seat.view c.args.node.node more c.unlock-2.new.seat.listed
    (λ t. ap (times t) listed ∙ c.requires.listed.each t) (told.apart c.args.node.node)

pub list_retired-requires-clause-few : goal.list_retired-requires-clause-few
list_retired-requires-clause-few g c =
    let few = few_listed c.args.seat.now c.args.node (c.requires.at).1 c.unlock.ensures.told.before.tells.some_room
    c.requires.listed in
    let listed = ap length ((c.unlock-2.ensures.seat).1 ∙ (c.unlock.ensures.seat).1 ∙ (c.link_past.ensures.seat).1) in
    let room = same_room ((c.unlock-2.ensures.seat).0 ∙ (c.unlock.ensures.seat).0 ∙ (c.link_past.ensures.seat).0 ∙ c.requires.table) in
    omega (arith, few, listed, room)

pub returns-clause-done : goal.returns-clause-done
returns-clause-done g c = λ kept a.
    (let k = (shape_of g.W.WaitWords.WAY c.args.table.now) in
    let p = passes_unlock (same_locks c.in_ok-number.ensures.locked c.requires.locked)
    (c.in_ok-number.ensures.at kept a) c.unlock.ensures.told in
    let rest = keeps_rest c.link_past.new.seat.view c.unlock.new.seat.view c.unlock-2.new.seat.view
    (rest_unlock k _ _ _ _ c.unlock.ensures.told) (rest_unlock k _ _ _ _ c.unlock-2.ensures.told) in
    subst (λ (x : View). IsDone k (Del c.args.key) kept x
    × HasDone c.args.seat.now.view (Del c.args.key) c.args.node.node [] c.in_ok-number.number x) (sym (c.list_retired.ensures.seat).1) (
      passes_unlock_gone p.1 p.0 c.unlock-2.ensures.told,
      done_still _ _ _ (Del c.args.key) c.args.node.node [] _ (c.in_ok-number.ensures.done kept a) rest.advanced,
    ))

pub returns-clause-listed : goal.returns-clause-listed
returns-clause-listed g c =
    let k = (shape_of g.W.WaitWords.WAY c.args.table.now) in
    let more = (rest_unlock k _ _ _ _ c.unlock-2.ensures.told).retired ∙ (rest_unlock k _ _ _ _ c.unlock.ensures.told).retired
    ∙ c.in_ok-number.ensures.retired in
    let listed = (c.unlock-2.ensures.seat).1 ∙ (c.unlock.ensures.seat).1 ∙ (c.link_past.ensures.seat).1 in
    record {
      each = λ t. ap (times t) (c.list_retired.ensures.listed ∙ ap (λ xs. xs ++ c.args.node.node ∷ []) listed)
          ∙ listed_more c.args.seat.now.view c.unlock-2.new.seat.view c.args.node.node more c.args.seat.now.listed c.requires.listed.each t
          ∙ ap (λ (x : View). times t (retired_slots x)) (sym (c.list_retired.ensures.seat).1);
    }

pub returns-clause-slots : goal.returns-clause-slots
returns-clause-slots g c =
    let k = (shape_of g.W.WaitWords.WAY c.args.table.now) in
    let first = rest_unlock k _ _ _ _ c.unlock.ensures.told in
    let second = rest_unlock k _ _ _ _ c.unlock-2.ensures.told in
    let same = (c.list_retired.ensures.seat).1 in
    let past = c.in_ok-number.ensures in
    slots_more c.args.seat.now c.list_retired.new.self past.stay.0 (c.args.node.node ∷ [])
    (ap (λ (x : View). x.counts.waits) same ∙ second.waits.count ∙ first.waits.count ∙ past.waits.count)
    (ap (λ (x : View). x.wait) same ∙ second.waits.wait ∙ first.waits.wait ∙ past.waits.wait)
    (ap retired_marks same ∙ second.stay ∙ first.stay ∙ past.stay.1)
    (c.list_retired.ensures.listed ∙ ap (λ xs. xs ++ c.args.node.node ∷ [])
    ((c.unlock-2.ensures.seat).1 ∙ (c.unlock.ensures.seat).1 ∙ (past.seat).1))

pub returns-clause-listing : goal.returns-clause-listing
returns-clause-listing g c = c.list_retired.ensures.listed
    ∙ ap (λ xs. xs ++ c.args.node.node ∷ []) ((c.unlock-2.ensures.seat).1 ∙ (c.unlock.ensures.seat).1 ∙ (c.link_past.ensures.seat).1)

pub returns-clause-took : goal.returns-clause-took
returns-clause-took g c =
    let k = (shape_of g.W.WaitWords.WAY c.args.table.now) in
    let rest = keeps_rest c.link_past.new.seat.view c.unlock.new.seat.view c.unlock-2.new.seat.view
    (rest_unlock k _ _ _ _ c.unlock.ensures.told) (rest_unlock k _ _ _ _ c.unlock-2.ensures.told) in
    subst (λ (x : View). TakesValue c.args.seat.now.view c.args.node.node c.args.key c.in_ok-number.number x)
    (sym (c.list_retired.ensures.seat).1)
    (takes_more c.unlock-2.new.seat.view rest.advanced.begins c.in_ok-number.ensures.took)
