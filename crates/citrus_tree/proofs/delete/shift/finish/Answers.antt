use Rattle.prcu_marks.specs.declared.mark.Mark.TheVariants.{Began, Ended}
use Rattle.prcu_model.specs.declared.operation.Op.TheVariants.{Del}
use mathlib.Core.List.{IsPrefix}
use Rattle.std.proofs.Common.{◌≤◌, ◌+◌, [], ◌∷◌, ◌++◌, inr, length, sym, ap, subst, ◌∙◌, arith, append_assoc}
use Rattle.list_laws.specs.Counts.{times, IsIn}
use Rattle.core_state.specs.declared.view.View.{View}
use Rattle.seat_table.specs.Gains.{TellsApart}
use Rattle.seat_table.specs.Seats.{shape_of}
use Rattle.tree_points.specs.Points.{IsDone, HasAdvanced}
use Rattle.tree_points.proofs.Locks.{advanced_on, advanced_waited}
use Rattle.tree_points.proofs.Waits.{waits_move}
use Rattle.citrus_tree.specs.Deletes.{retired_slots}
use Rattle.citrus_tree.specs.Going.{retired_marks}
use Rattle.citrus_tree.proofs.DeleteUpdates.{no_lock}
use Rattle.citrus_tree.proofs.DeleteMoves.{in_slots, waited_for, waited_keeps, waited_stays, node_retired, old_retired, node_unlisted, old_unlisted, two_listed, length_more, unlinked_on}
use Rattle.citrus_tree.proofs.Leavings.{waited_later, first_stays, waited_first}
use Rattle.citrus_tree.specs.Replies.{IsUnlinkedSince}
use Rattle.citrus_tree.proofs.DeleteTries.{same_room}
use Rattle.citrus_tree.proofs.delete.shift.finish.Goals as goal

pub between-requires : goal.between-requires
between-requires g c = c.requires.above

pub wait_in_grace-requires-clause-outside : goal.wait_in_grace-requires-clause-outside
wait_in_grace-requires-clause-outside g c = let a = (c.requires.at).1 in ((a.fits.point).0).outside

pub wait_in_grace-requires-clause-ticket : goal.wait_in_grace-requires-clause-ticket
wait_in_grace-requires-clause-ticket g c = let a = (c.requires.at).1 in let t = a.fits.tickets in omega (arith, t)

pub unlink_old-requires-clause-at : goal.unlink_old-requires-clause-at
unlink_old-requires-clause-at g c = let a = c.requires.at in (
  Del c.args.key,
  a.0,
  waits_move a.1 (waited_for
      (c.args.key + 1) c.args.moving.next_key c.between.ensures c.in_ok-wait_in_grace.ensures.waited),
)

pub list_retired-requires-clause-retired : goal.list_retired-requires-clause-retired
list_retired-requires-clause-retired g c = in_slots c.unlock_all.new.seat.view.hands.retired c.args.moving.node.node
    (node_retired c.args.seat.now.listed c.args.seat.now.view c.unlock_all.new.seat.view c.args.moving.node.node
    c.args.moving.successor.slot c.requires.listed
    (c.unlock_all.ensures.same.retired ∙ c.unlink_old.ensures.retired
    ∙ ap (λ xs. xs ++ c.args.moving.successor.slot ∷ [])
    (waited_keeps (waited_for (c.args.key + 1) c.args.moving.next_key c.between.ensures c.in_ok-wait_in_grace.ensures.waited))))

pub list_retired-requires-clause-unlocked : goal.list_retired-requires-clause-unlocked
list_retired-requires-clause-unlocked g c = no_lock c.unlock_all.new.seat.view c.args.moving.node.node
    ((((c.unlock_all.ensures.at _ _ (c.unlink_old.ensures.at _ _ (waits_move (c.requires.at).1
    (waited_for (c.args.key + 1) c.args.moving.next_key c.between.ensures c.in_ok-wait_in_grace.ensures.waited))))).fits.point).1).locks_are

pub list_retired-requires-clause-unlisted : goal.list_retired-requires-clause-unlisted
list_retired-requires-clause-unlisted g c = λ told there.
    node_unlisted c.args.seat.now.listed c.args.seat.now.view c.unlock_all.new.seat.view c.args.moving.node.node
    c.args.moving.successor.slot c.requires.listed
    (c.unlock_all.ensures.same.retired ∙ c.unlink_old.ensures.retired
    ∙ ap (λ xs. xs ++ c.args.moving.successor.slot ∷ [])
    (waited_keeps (waited_for (c.args.key + 1) c.args.moving.next_key c.between.ensures c.in_ok-wait_in_grace.ensures.waited)))
    (told.apart c.args.moving.node.node) (subst (λ xs. IsIn xs c.args.moving.node.node)
    ((c.unlock_all.ensures.seat).1 ∙ (c.unlink_old.ensures.seat).1 ∙ (c.wait_in_grace.ensures.seat).1) there)

pub list_retired-requires-clause-few : goal.list_retired-requires-clause-few
list_retired-requires-clause-few g c = let few = c.requires.few in
    let same = ap length ((c.unlock_all.ensures.seat).1 ∙ (c.unlink_old.ensures.seat).1 ∙ (c.wait_in_grace.ensures.seat).1) in
    let room = same_room ((c.unlock_all.ensures.seat).0
    ∙ (c.unlink_old.ensures.seat).0 ∙ (c.wait_in_grace.ensures.seat).0 ∙ c.requires.table) in
    omega (arith, few, same, room)

pub list_retired-requires-2-clause-retired : goal.list_retired-requires-2-clause-retired
list_retired-requires-2-clause-retired g c =
    in_slots c.list_retired.new.self.view.hands.retired c.args.moving.successor.slot
    (subst (λ (x : View). 1 ≤ times c.args.moving.successor.slot (retired_slots x)) (sym (c.list_retired.ensures.seat).1)
    (old_retired c.args.seat.now.listed c.args.seat.now.view c.unlock_all.new.seat.view c.args.moving.node.node
    c.args.moving.successor.slot c.requires.listed
    (c.unlock_all.ensures.same.retired ∙ c.unlink_old.ensures.retired
    ∙ ap (λ xs. xs ++ c.args.moving.successor.slot ∷ [])
    (waited_keeps (waited_for (c.args.key + 1) c.args.moving.next_key c.between.ensures c.in_ok-wait_in_grace.ensures.waited)))))

pub list_retired-requires-2-clause-unlocked : goal.list_retired-requires-2-clause-unlocked
list_retired-requires-2-clause-unlocked g c =
    no_lock c.list_retired.new.self.view c.args.moving.successor.slot
    (ap (λ (x : View). x.locks) (c.list_retired.ensures.seat).1
    ∙ ((((c.unlock_all.ensures.at _ _ (c.unlink_old.ensures.at _ _ (waits_move (c.requires.at).1
    (waited_for (c.args.key + 1) c.args.moving.next_key
    c.between.ensures c.in_ok-wait_in_grace.ensures.waited))))).fits.point).1).locks_are)

pub list_retired-requires-2-clause-unlisted : goal.list_retired-requires-2-clause-unlisted
list_retired-requires-2-clause-unlisted g c = λ told there.
    old_unlisted c.args.seat.now.listed c.args.seat.now.view c.unlock_all.new.seat.view c.args.moving.node.node c.args.moving.successor.slot
    c.requires.listed (c.unlock_all.ensures.same.retired ∙ c.unlink_old.ensures.retired
    ∙ ap (λ xs. xs ++ c.args.moving.successor.slot ∷ [])
    (waited_keeps (waited_for (c.args.key + 1) c.args.moving.next_key c.between.ensures c.in_ok-wait_in_grace.ensures.waited)))
    (subst TellsApart (c.list_retired.ensures.seat).1 told.apart c.args.moving.successor.slot)
    (subst (λ xs. IsIn xs c.args.moving.successor.slot)
    (c.list_retired.ensures.listed ∙ ap (λ xs. xs ++ c.args.moving.node.node ∷ [])
    ((c.unlock_all.ensures.seat).1 ∙ (c.unlink_old.ensures.seat).1 ∙ (c.wait_in_grace.ensures.seat).1)) there)

pub list_retired-requires-2-clause-few : goal.list_retired-requires-2-clause-few
list_retired-requires-2-clause-few g c =
    let few = c.requires.few in
    let same = ap length (c.list_retired.ensures.listed
    ∙ ap (λ xs. xs ++ c.args.moving.node.node ∷ [])
    ((c.unlock_all.ensures.seat).1 ∙ (c.unlink_old.ensures.seat).1 ∙ (c.wait_in_grace.ensures.seat).1))
    ∙ length_more c.args.seat.now.listed c.args.moving.node.node in
    let room = same_room ((c.list_retired.ensures.seat).0 ∙ (c.unlock_all.ensures.seat).0
    ∙ (c.unlink_old.ensures.seat).0 ∙ (c.wait_in_grace.ensures.seat).0 ∙ c.requires.table) in
    omega (arith, few, same, room)

pub returns-clause-done : goal.returns-clause-done
returns-clause-done g c = λ kept a.
    subst (IsDone (shape_of g.W.WaitWords.WAY c.args.table.now) (Del c.args.key) kept)
    (sym ((c.list_retired-2.ensures.seat).1 ∙ (c.list_retired.ensures.seat).1))
    (c.unlock_all.ensures.at _ _ (c.unlink_old.ensures.at _ _ (waits_move a
    (waited_for (c.args.key + 1) c.args.moving.next_key c.between.ensures c.in_ok-wait_in_grace.ensures.waited))))

pub returns-clause-waited : goal.returns-clause-waited
returns-clause-waited g c =
    let later = advanced_on c.unlink_old.ensures.gone c.unlock_all.ensures.same.advanced in
    subst (λ (x : View). HasAdvanced c.args.seat.now.view x
    (Began c.args.seat.now.view.allowance.place c.args.seat.now.view.counts.waits (c.args.key + 1) c.args.moving.next_key
    ∷ (Ended c.args.seat.now.view.allowance.place c.args.seat.now.view.counts.waits ∷ [])))
    (sym ((c.list_retired-2.ensures.seat).1 ∙ (c.list_retired.ensures.seat).1))
    (advanced_on (advanced_waited (waited_for (c.args.key
    + 1) c.args.moving.next_key c.between.ensures c.in_ok-wait_in_grace.ensures.waited)) later)

pub returns-clause-listed : goal.returns-clause-listed
returns-clause-listed g c = record {
  each = λ t. ap (times t) (c.list_retired-2.ensures.listed
      ∙ ap (λ xs. xs ++ c.args.moving.successor.slot ∷ [])
      (c.list_retired.ensures.listed ∙ ap (λ xs. xs ++ c.args.moving.node.node ∷ [])
      ((c.unlock_all.ensures.seat).1 ∙ (c.unlink_old.ensures.seat).1 ∙ (c.wait_in_grace.ensures.seat).1)))
      ∙ two_listed c.args.seat.now.listed c.args.seat.now.view c.unlock_all.new.seat.view c.args.moving.node.node
      c.args.moving.successor.slot c.requires.listed
      (c.unlock_all.ensures.same.retired ∙ c.unlink_old.ensures.retired
      ∙ ap (λ xs. xs ++ c.args.moving.successor.slot ∷ [])
      (waited_keeps (waited_for (c.args.key + 1) c.args.moving.next_key c.between.ensures c.in_ok-wait_in_grace.ensures.waited))) t
      ∙ ap (λ (x : View). times t (retired_slots x)) (sym ((c.list_retired-2.ensures.seat).1 ∙ (c.list_retired.ensures.seat).1));
}

pub returns-clause-waits : goal.returns-clause-waits
returns-clause-waits g c =
    let same = (c.list_retired-2.ensures.seat).1 ∙ (c.list_retired.ensures.seat).1 in
    let later = advanced_on c.unlink_old.ensures.gone c.unlock_all.ensures.same.advanced in
    inr (first_stays (waited_first (waited_for (c.args.key
    + 1) c.args.moving.next_key c.between.ensures c.in_ok-wait_in_grace.ensures.waited))
    (subst (λ (x : View). IsPrefix c.wait_in_grace.new.seat.view.seen x.seen) (sym same) later.begins)
    (ap (λ (x : View). x.wait) same ∙ c.unlock_all.ensures.same.waits.wait ∙ c.unlink_old.ensures.waits.wait))

pub unlock_all-requires-clause-at : goal.unlock_all-requires-clause-at
unlock_all-requires-clause-at g c =
    let a = c.requires.at in (
      Del c.args.key,
      a.0,
      c.unlink_old.ensures.at _ _ (waits_move a.1
          (waited_for (c.args.key + 1) c.args.moving.next_key c.between.ensures c.in_ok-wait_in_grace.ensures.waited)),
    )

pub returns-clause-later : goal.returns-clause-later
returns-clause-later g c =
    let a = waited_later c.in_ok-wait_in_grace.ensures.waited in
    let b = c.unlink_old.ensures.waits.count in
    let d = c.unlock_all.ensures.same.waits.count in
    let e = ap (λ (x : View). x.counts.waits) ((c.list_retired-2.ensures.seat).1 ∙ (c.list_retired.ensures.seat).1) in
    omega (arith, a, b, d, e)

pub returns-clause-unlinked : goal.returns-clause-unlinked
returns-clause-unlinked g c =
    subst (λ (x : View). IsUnlinkedSince c.args.seat.now.view.seen c.args.moving.successor.slot x.seen)
    (sym ((c.list_retired-2.ensures.seat).1 ∙ (c.list_retired.ensures.seat).1))
    (unlinked_on (advanced_waited (waited_for (c.args.key
    + 1) c.args.moving.next_key c.between.ensures c.in_ok-wait_in_grace.ensures.waited)).begins c.unlink_old.ensures.unlinked
    c.unlock_all.ensures.same.advanced.begins)

pub returns-clause-listing : goal.returns-clause-listing
returns-clause-listing g c =
    c.list_retired-2.ensures.listed ∙ ap (λ xs. xs ++ c.args.moving.successor.slot ∷ [])
    (c.list_retired.ensures.listed ∙ ap (λ xs. xs ++ c.args.moving.node.node ∷ [])
    ((c.unlock_all.ensures.seat).1 ∙ (c.unlink_old.ensures.seat).1 ∙ (c.wait_in_grace.ensures.seat).1))
    ∙ append_assoc c.args.seat.now.listed (c.args.moving.node.node ∷ []) (c.args.moving.successor.slot ∷ [])

pub returns-clause-stays : goal.returns-clause-stays
returns-clause-stays g c =
    let same = (c.list_retired-2.ensures.seat).1 ∙ (c.list_retired.ensures.seat).1 in
    let waited = waited_stays (waited_for (c.args.key + 1) c.args.moving.next_key c.between.ensures c.in_ok-wait_in_grace.ensures.waited)
    (λ none. omega arith) in
    let gone = c.unlink_old.ensures.stay in
    record {
      retired = (
        gone.0,
        ap retired_marks same ∙ c.unlock_all.ensures.same.stay ∙ gone.1 ∙ ap (λ xs. xs ++ gone.0) waited,
      );
      listed = (c.args.moving.node.node ∷ (c.args.moving.successor.slot ∷ []), returns-clause-listing g c);
    }
