use Rattle.std.proofs.Common.{ℕ, Option, inl, subst, sym, ◌∙◌}
use Rattle.std.specs.Prelude.{IfSome, IfNone}
use Rattle.prcu_model.specs.declared.operation.Op.TheVariants.{Del}
use Rattle.core_points.specs.Programs.{deleting}
use Rattle.core_points.specs.declared.stage.Stage.TheVariants as at
use Rattle.seat_table.specs.Gains.{IsInformed}
use Rattle.seat_table.specs.Seats.{shape_of}
use Rattle.tree_points.specs.Points.{IsAt, IsDone}
use Rattle.tree_points.proofs.Locks.{advanced_on}
use Rattle.citrus_tree.specs.Deletes.{AreLivesSmall, Comes, HasDeleted, KeepsRest, RetiresIf, TakesValue}
use Rattle.citrus_tree.specs.Going.{KeepsWait}
use Rattle.citrus_tree.proofs.DeleteUpdates.{gives_up_node, keeps_rest, rest_of, told_taken}
use Rattle.citrus_tree.proofs.DeleteMoves.{deleted_later, bypass_deletes, one_retired, retires_before}
use Rattle.citrus_tree.proofs.Leavings.{none_back_on, none_back_same, rest_slots, slots_on, slots_rest, none_begun, wait_later}
use Rattle.citrus_tree.proofs.DeleteTries.{listed_still, waits_on}
use Rattle.citrus_tree.proofs.delete.delete_node.Goals as goal

pub lock_target-requires-clause-at : goal.lock_target-requires-clause-at
lock_target-requires-clause-at g c = let a = c.requires.at in (Del c.args.key, a.0, a.1)

pub validate-requires-clause-at : goal.validate-requires-clause-at
validate-requires-clause-at g c = let a = c.requires.at in
    (Del c.args.key, a.0, (c.lock_target.ensures.got c.if-not-lock_target.false (Del c.args.key) a.0 a.1))

pub unlock_target-requires-clause-at : goal.unlock_target-requires-clause-at
unlock_target-requires-clause-at g c = let a = c.requires.at in (
  Del c.args.key,
  a.0,
  c.in_default.ensures.fails (Del c.args.key) a.0
      (c.lock_target.ensures.got c.if-not-lock_target.false (Del c.args.key) a.0 a.1),
)

pub value_where-value-requires-clause-at : goal.value_where-value-requires-clause-at
value_where-value-requires-clause-at g c = let a = c.requires.at in (
  Del c.args.key,
  a.0,
  c.in-Some.ensures.holds (Del c.args.key) a.0 (c.lock_target.ensures.got c.if-not-lock_target.false (Del c.args.key) a.0 a.1),
)

pub returns-then-not-lock_target-clause-again : goal.returns-then-not-lock_target-clause-again
returns-then-not-lock_target-clause-again g c kept a = c.lock_target.ensures.busy c.if-not-lock_target.true (Del c.args.key) kept a

pub returns-then-not-lock_target-clause-same : goal.returns-then-not-lock_target-clause-same
returns-then-not-lock_target-clause-same g c = c.lock_target.ensures.same

pub returns-then-not-lock_target-clause-listed : goal.returns-then-not-lock_target-clause-listed
returns-then-not-lock_target-clause-listed g c = listed_still c.args.seat.now c.lock_target.new.seat c.lock_target.ensures.seat.1
    c.lock_target.ensures.same.retired c.requires.listed

pub unlock_target-requires-clause-locked : goal.unlock_target-requires-clause-locked
unlock_target-requires-clause-locked g c = c.validate.ensures.locked

pub returns-in_default-clause-again : goal.returns-in_default-clause-again
returns-in_default-clause-again g c kept a = c.unlock_target.ensures.at (Del c.args.key) kept
    (c.in_default.ensures.fails (Del c.args.key) kept
    (c.lock_target.ensures.got c.if-not-lock_target.false (Del c.args.key) kept a))

pub returns-in_default-clause-same : goal.returns-in_default-clause-same
returns-in_default-clause-same g c = keeps_rest _ _ _ c.lock_target.ensures.same
    (keeps_rest _ _ _ (rest_of _ _ c.validate.ensures.same) c.unlock_target.ensures.same)

pub returns-in_default-clause-listed : goal.returns-in_default-clause-listed
returns-in_default-clause-listed g c = listed_still c.args.seat.now c.unlock_target.new.seat
    (c.unlock_target.ensures.seat.1 ∙ c.validate.ensures.seat.1 ∙ c.lock_target.ensures.seat.1)
    (c.unlock_target.ensures.same.retired ∙ c.validate.ensures.same.retired ∙ c.lock_target.ensures.same.retired) c.requires.listed

pub bypass-requires-clause-small : goal.bypass-requires-clause-small
bypass-requires-clause-small g c = subst (AreLivesSmall c.in-Some.node) c.in-None.is c.in-Some.ensures.node.1

pub bypass-requires-clause-listed : goal.bypass-requires-clause-listed
bypass-requires-clause-listed g c = listed_still c.args.seat.now c.value_where-value.new.seat
    (c.value_where-value.ensures.seat.1 ∙ c.validate.ensures.seat.1 ∙ c.lock_target.ensures.seat.1)
    (c.value_where-value.ensures.same.retired ∙ c.validate.ensures.same.retired ∙ c.lock_target.ensures.same.retired) c.requires.listed

pub shift-requires-clause-small : goal.shift-requires-clause-small
shift-requires-clause-small g c = subst (AreLivesSmall c.in-Some.node) c.in-Some-successor.is c.in-Some.ensures.node.1

pub shift-requires-clause-listed : goal.shift-requires-clause-listed
shift-requires-clause-listed g c = listed_still c.args.seat.now c.value_where-value.new.seat
    (c.value_where-value.ensures.seat.1 ∙ c.validate.ensures.seat.1 ∙ c.lock_target.ensures.seat.1)
    (c.value_where-value.ensures.same.retired ∙ c.validate.ensures.same.retired ∙ c.lock_target.ensures.same.retired) c.requires.listed

pub bypass-requires-clause-at : goal.bypass-requires-clause-at
bypass-requires-clause-at g c = let a = c.requires.at in (
  a.0,
  (subst (λ o. IsAt (shape_of g.W.WaitWords.WAY c.args.table.now) (Del c.args.key) a.0
      (deleting c.in-Some.node o) c.value_where-value.new.seat.view) c.in-None.is
      (c.value_where-value.ensures.at (Del c.args.key) a.0 (c.in-Some.ensures.holds (Del c.args.key) a.0
      (c.lock_target.ensures.got c.if-not-lock_target.false (Del c.args.key) a.0 a.1)))),
)

pub returns-in_ok-number-in-None-clause-done : goal.returns-in_ok-number-in-None-clause-done
returns-in_ok-number-in-None-clause-done g c = λ kept a. (c.in_ok-number-in-None.ensures.done kept (subst (λ o. IsAt
    (shape_of g.W.WaitWords.WAY c.args.table.now) (Del c.args.key) kept
    (deleting c.in-Some.node o) c.value_where-value.new.seat.view) c.in-None.is
    (c.value_where-value.ensures.at (Del c.args.key) kept (c.in-Some.ensures.holds (Del c.args.key) kept
    (c.lock_target.ensures.got c.if-not-lock_target.false (Del c.args.key) kept a))))).0

pub returns-in_ok-number-in-None-clause-deleted : goal.returns-in_ok-number-in-None-clause-deleted
returns-in_ok-number-in-None-clause-deleted g c =
    let a = c.requires.at in
    deleted_later _ _ _ c.args.key c.in_ok-number-in-None.number (advanced_on
    (advanced_on c.lock_target.ensures.same.advanced c.validate.ensures.same.advanced) c.value_where-value.ensures.same.advanced)
    (bypass_deletes _ _ c.args.key c.in-Some.node.node c.in_ok-number-in-None.number (c.in_ok-number-in-None.ensures.done a.0 (subst
    (λ o. IsAt (shape_of g.W.WaitWords.WAY c.args.table.now) (Del c.args.key) a.0
    (deleting c.in-Some.node o) c.value_where-value.new.seat.view) c.in-None.is
    (c.value_where-value.ensures.at (Del c.args.key) a.0 (c.in-Some.ensures.holds (Del c.args.key) a.0
    (c.lock_target.ensures.got c.if-not-lock_target.false (Del c.args.key) a.0 a.1))))).1)

pub returns-in_ok-number-in-None-clause-value : goal.returns-in_ok-number-in-None-clause-value
returns-in_ok-number-in-None-clause-value g c e = told_taken c.value_where-value.result
    (advanced_on (advanced_on c.lock_target.ensures.same.advanced c.validate.ensures.same.advanced) c.value_where-value.ensures.same.advanced)
    (c.value_where-value.ensures.asked ∙ e) c.value_where-value.ensures.value c.in_ok-number-in-None.ensures.took

pub shift-requires-clause-at : goal.shift-requires-clause-at
shift-requires-clause-at g c = let a = c.requires.at in (
  a.0,
  (subst (λ o. IsAt (shape_of g.W.WaitWords.WAY c.args.table.now) (Del c.args.key) a.0
      (deleting c.in-Some.node o) c.value_where-value.new.seat.view) c.in-Some-successor.is
      (c.value_where-value.ensures.at (Del c.args.key) a.0 (c.in-Some.ensures.holds (Del c.args.key) a.0
      (c.lock_target.ensures.got c.if-not-lock_target.false (Del c.args.key) a.0 a.1)))),
)

pub returns-in-Some-2-clause-done : goal.returns-in-Some-2-clause-done
returns-in-Some-2-clause-done g c = λ kept a.
    (subst (λ (r : Option ℕ). IfSome r (λ number. (kept : ℕ) → IsAt (shape_of g.W.WaitWords.WAY c.args.table.now) (Del c.args.key) kept
    (at.SuccessorKey c.in-Some.node c.in-Some-successor.successor) c.value_where-value.new.seat.view → IsDone
    (shape_of g.W.WaitWords.WAY c.args.table.now) (Del c.args.key) kept c.shift.new.seat.view)) c.in-Some-2.is
    c.in_ok-number-in-Some-successor.ensures.done)
    kept (subst (λ o. IsAt (shape_of g.W.WaitWords.WAY c.args.table.now) (Del c.args.key) kept
    (deleting c.in-Some.node o) c.value_where-value.new.seat.view) c.in-Some-successor.is
    (c.value_where-value.ensures.at (Del c.args.key) kept (c.in-Some.ensures.holds (Del c.args.key) kept
    (c.lock_target.ensures.got c.if-not-lock_target.false (Del c.args.key) kept a))))

pub returns-in-Some-2-clause-deleted : goal.returns-in-Some-2-clause-deleted
returns-in-Some-2-clause-deleted g c =
    deleted_later _ _ _ c.args.key c.in-Some-2.number
    (advanced_on (advanced_on c.lock_target.ensures.same.advanced c.validate.ensures.same.advanced) c.value_where-value.ensures.same.advanced)
    (subst (λ (r : Option ℕ). IfSome r (λ number. HasDeleted c.value_where-value.new.seat.view c.args.key number
    c.shift.new.seat.view)) c.in-Some-2.is c.in_ok-number-in-Some-successor.ensures.deleted)

pub returns-in-Some-2-clause-value : goal.returns-in-Some-2-clause-value
returns-in-Some-2-clause-value g c e = told_taken c.value_where-value.result
    (advanced_on (advanced_on c.lock_target.ensures.same.advanced c.validate.ensures.same.advanced) c.value_where-value.ensures.same.advanced)
    (c.value_where-value.ensures.asked ∙ e) c.value_where-value.ensures.value
    (subst (λ (r : Option ℕ). IfSome r (λ number. TakesValue c.value_where-value.new.seat.view c.in-Some.node.node c.args.key number
    c.shift.new.seat.view)) c.in-Some-2.is c.in_ok-number-in-Some-successor.ensures.took)

pub returns-in-Some-2-clause-informed : goal.returns-in-Some-2-clause-informed
returns-in-Some-2-clause-informed g c = (subst (λ (r : Option ℕ). IfSome r
    (λ number. IsInformed c.shift.new.seat.view)) c.in-Some-2.is c.in_ok-number-in-Some-successor.ensures.informed)

pub returns-in_default-2-clause-again : goal.returns-in_default-2-clause-again
returns-in_default-2-clause-again g c = λ kept a.
    (subst (λ (r : Option ℕ). IfNone r (Comes (shape_of g.W.WaitWords.WAY c.args.table.now)
    (at.SuccessorKey c.in-Some.node c.in-Some-successor.successor) c.value_where-value.new.seat.view at.EnterClock c.shift.new.seat.view))
    c.in_default-2.is c.in_ok-number-in-Some-successor.ensures.again) (Del c.args.key) kept (subst (λ o. IsAt
    (shape_of g.W.WaitWords.WAY c.args.table.now) (Del c.args.key) kept
    (deleting c.in-Some.node o) c.value_where-value.new.seat.view) c.in-Some-successor.is
    (c.value_where-value.ensures.at (Del c.args.key) kept (c.in-Some.ensures.holds (Del c.args.key) kept
    (c.lock_target.ensures.got c.if-not-lock_target.false (Del c.args.key) kept a))))

pub returns-in_default-2-clause-same : goal.returns-in_default-2-clause-same
returns-in_default-2-clause-same g c =
    keeps_rest _ _ _ c.lock_target.ensures.same (keeps_rest _ _ _ (rest_of _ _ c.validate.ensures.same)
    (keeps_rest _ _ _ (rest_of _ _ c.value_where-value.ensures.same)
    (subst (λ (r : Option ℕ). IfNone r (KeepsRest c.value_where-value.new.seat.view c.shift.new.seat.view))
    c.in_default-2.is c.in_ok-number-in-Some-successor.ensures.same)))

pub returns-in_default-2-clause-kept : goal.returns-in_default-2-clause-kept
returns-in_default-2-clause-kept g c =
    (subst (λ (r : Option ℕ). RetiresIf c.value_where-value.new.seat c.args.key r c.shift.new.seat) c.in_default-2.is
    c.in_ok-number-in-Some-successor.ensures.retires)
    ∙ (c.value_where-value.ensures.seat.1 ∙ c.validate.ensures.seat.1 ∙ c.lock_target.ensures.seat.1)

pub returns-then-not-lock_target-clause-kept : goal.returns-then-not-lock_target-clause-kept
returns-then-not-lock_target-clause-kept g c = c.lock_target.ensures.seat.1

pub returns-in_default-clause-kept : goal.returns-in_default-clause-kept
returns-in_default-clause-kept g c = c.unlock_target.ensures.seat.1 ∙ c.validate.ensures.seat.1 ∙ c.lock_target.ensures.seat.1

pub returns-then-not-lock_target-clause-slots : goal.returns-then-not-lock_target-clause-slots
returns-then-not-lock_target-clause-slots g c =
    slots_rest c.args.seat.now c.lock_target.new.seat c.lock_target.ensures.same c.lock_target.ensures.seat.1

pub returns-in_default-clause-slots : goal.returns-in_default-clause-slots
returns-in_default-clause-slots g c =
    let locked = slots_rest c.args.seat.now c.lock_target.new.seat c.lock_target.ensures.same c.lock_target.ensures.seat.1 in
    let judged = rest_slots c.args.seat.now c.lock_target.new.seat c.validate.new.seat locked
    (rest_of _ _ c.validate.ensures.same) c.validate.ensures.seat.1 in
    rest_slots c.args.seat.now c.validate.new.seat c.unlock_target.new.seat judged c.unlock_target.ensures.same
    c.unlock_target.ensures.seat.1

pub returns-in_ok-number-in-None-clause-slots : goal.returns-in_ok-number-in-None-clause-slots
returns-in_ok-number-in-None-clause-slots g c =
    let locked = slots_rest c.args.seat.now c.lock_target.new.seat c.lock_target.ensures.same c.lock_target.ensures.seat.1 in
    let judged = rest_slots c.args.seat.now c.lock_target.new.seat c.validate.new.seat locked
    (rest_of _ _ c.validate.ensures.same) c.validate.ensures.seat.1 in
    let valued = rest_slots c.args.seat.now c.validate.new.seat c.value_where-value.new.seat judged
    (rest_of _ _ c.value_where-value.ensures.same) c.value_where-value.ensures.seat.1 in
    slots_on c.args.seat.now c.value_where-value.new.seat c.bypass.new.seat valued c.in_ok-number-in-None.ensures.slots

pub returns-in-Some-2-clause-slots : goal.returns-in-Some-2-clause-slots
returns-in-Some-2-clause-slots g c =
    let locked = slots_rest c.args.seat.now c.lock_target.new.seat c.lock_target.ensures.same c.lock_target.ensures.seat.1 in
    let judged = rest_slots c.args.seat.now c.lock_target.new.seat c.validate.new.seat locked
    (rest_of _ _ c.validate.ensures.same) c.validate.ensures.seat.1 in
    let valued = rest_slots c.args.seat.now c.validate.new.seat c.value_where-value.new.seat judged
    (rest_of _ _ c.value_where-value.ensures.same) c.value_where-value.ensures.seat.1 in
    slots_on c.args.seat.now c.value_where-value.new.seat c.shift.new.seat valued c.in_ok-number-in-Some-successor.ensures.slots

pub returns-in_default-2-clause-slots : goal.returns-in_default-2-clause-slots
returns-in_default-2-clause-slots g c =
    let locked = slots_rest c.args.seat.now c.lock_target.new.seat c.lock_target.ensures.same c.lock_target.ensures.seat.1 in
    let judged = rest_slots c.args.seat.now c.lock_target.new.seat c.validate.new.seat locked
    (rest_of _ _ c.validate.ensures.same) c.validate.ensures.seat.1 in
    let valued = rest_slots c.args.seat.now c.validate.new.seat c.value_where-value.new.seat judged
    (rest_of _ _ c.value_where-value.ensures.same) c.value_where-value.ensures.seat.1 in
    slots_on c.args.seat.now c.value_where-value.new.seat c.shift.new.seat valued c.in_ok-number-in-Some-successor.ensures.slots

pub returns-in_ok-number-in-None-clause-waits : goal.returns-in_ok-number-in-None-clause-waits
returns-in_ok-number-in-None-clause-waits g c =
    let a = c.requires.at in
    let locked = c.lock_target.ensures.same in
    let judged = c.validate.ensures.same in
    let valued = c.value_where-value.ensures.same in
    let past = c.in_ok-number-in-None.ensures.waits in
    let done = (c.in_ok-number-in-None.ensures.done a.0 (subst (λ o. IsAt (shape_of g.W.WaitWords.WAY c.args.table.now)
    (Del c.args.key) a.0
    (deleting c.in-Some.node o) c.value_where-value.new.seat.view) c.in-None.is
    (c.value_where-value.ensures.at (Del c.args.key) a.0 (c.in-Some.ensures.holds (Del c.args.key) a.0
    (c.lock_target.ensures.got c.if-not-lock_target.false (Del c.args.key) a.0 a.1))))).1 in
    inl (none_begun (advanced_on (advanced_on (advanced_on c.lock_target.ensures.same.advanced c.validate.ensures.same.advanced)
    c.value_where-value.ensures.same.advanced) done.advanced)
    (past.count ∙ valued.waits.count ∙ judged.waits.count ∙ locked.waits.count)
    (past.wait ∙ valued.waits.wait ∙ judged.waits.wait ∙ locked.waits.wait))

pub returns-in-Some-2-clause-waits : goal.returns-in-Some-2-clause-waits
returns-in-Some-2-clause-waits g c =
    let locked = c.lock_target.ensures.same in
    let judged = c.validate.ensures.same in
    let valued = c.value_where-value.ensures.same in
    wait_later (none_begun (advanced_on (advanced_on c.lock_target.ensures.same.advanced c.validate.ensures.same.advanced)
    c.value_where-value.ensures.same.advanced) (valued.waits.count ∙ judged.waits.count ∙ locked.waits.count)
    (valued.waits.wait ∙ judged.waits.wait ∙ locked.waits.wait))
    (subst (λ (r : Option ℕ). IfSome r (λ number. KeepsWait c.value_where-value.new.seat.view c.shift.new.seat.view)) c.in-Some-2.is
    c.in_ok-number-in-Some-successor.ensures.waits)

pub returns-in_ok-number-in-None-clause-unwaited : goal.returns-in_ok-number-in-None-clause-unwaited
returns-in_ok-number-in-None-clause-unwaited g c = λ none.
    waits_on (waits_on (waits_on c.lock_target.ensures.same.waits c.validate.ensures.same.waits) c.value_where-value.ensures.same.waits)
    c.in_ok-number-in-None.ensures.waits

pub returns-in-Some-2-clause-unwaited : goal.returns-in-Some-2-clause-unwaited
returns-in-Some-2-clause-unwaited g c = λ none. absurd (let other = sym none ∙ c.in-Some-successor.is in cc)

pub returns-in_ok-number-in-None-clause-retires : goal.returns-in_ok-number-in-None-clause-retires
returns-in_ok-number-in-None-clause-retires g c =
    let a = c.requires.at in
    let done = (c.in_ok-number-in-None.ensures.done a.0 (subst (λ o. IsAt (shape_of g.W.WaitWords.WAY c.args.table.now)
    (Del c.args.key) a.0
    (deleting c.in-Some.node o) c.value_where-value.new.seat.view) c.in-None.is
    (c.value_where-value.ensures.at (Del c.args.key) a.0 (c.in-Some.ensures.holds (Del c.args.key) a.0
    (c.lock_target.ensures.got c.if-not-lock_target.false (Del c.args.key) a.0 a.1))))).1 in
    retires_before c.args.seat.now c.value_where-value.new.seat c.bypass.new.seat c.args.key c.in_ok-number-in-None.number (advanced_on
    (advanced_on c.lock_target.ensures.same.advanced c.validate.ensures.same.advanced) c.value_where-value.ensures.same.advanced) (inl
    (c.value_where-value.ensures.seat.1 ∙ c.validate.ensures.seat.1 ∙ c.lock_target.ensures.seat.1))
    (one_retired c.value_where-value.new.seat c.bypass.new.seat c.args.key c.in-Some.node.node c.in_ok-number-in-None.number done
    c.in_ok-number-in-None.ensures.listing)

pub returns-in-Some-2-clause-retires : goal.returns-in-Some-2-clause-retires
returns-in-Some-2-clause-retires g c =
    retires_before c.args.seat.now c.value_where-value.new.seat c.shift.new.seat c.args.key c.in-Some-2.number (advanced_on
    (advanced_on c.lock_target.ensures.same.advanced c.validate.ensures.same.advanced) c.value_where-value.ensures.same.advanced) (inl
    (c.value_where-value.ensures.seat.1 ∙ c.validate.ensures.seat.1 ∙ c.lock_target.ensures.seat.1))
    (subst (λ (r : Option ℕ). RetiresIf c.value_where-value.new.seat c.args.key r c.shift.new.seat) c.in-Some-2.is
    c.in_ok-number-in-Some-successor.ensures.retires)

pub returns-then-not-lock_target-clause-stays : goal.returns-then-not-lock_target-clause-stays
returns-then-not-lock_target-clause-stays g c =
    none_back_same c.args.seat.now c.lock_target.new.seat c.lock_target.ensures.same.stay c.lock_target.ensures.seat.1

pub returns-in_default-clause-stays : goal.returns-in_default-clause-stays
returns-in_default-clause-stays g c =
    let locked = none_back_same c.args.seat.now c.lock_target.new.seat c.lock_target.ensures.same.stay c.lock_target.ensures.seat.1 in
    let judged = none_back_on c.args.seat.now c.lock_target.new.seat c.validate.new.seat locked
    (none_back_same c.lock_target.new.seat c.validate.new.seat c.validate.ensures.same.stay c.validate.ensures.seat.1) in
    none_back_on c.args.seat.now c.validate.new.seat c.unlock_target.new.seat judged
    (none_back_same c.validate.new.seat c.unlock_target.new.seat c.unlock_target.ensures.same.stay c.unlock_target.ensures.seat.1)

pub returns-in_ok-number-in-None-clause-stays : goal.returns-in_ok-number-in-None-clause-stays
returns-in_ok-number-in-None-clause-stays g c =
    let locked = none_back_same c.args.seat.now c.lock_target.new.seat c.lock_target.ensures.same.stay c.lock_target.ensures.seat.1 in
    let judged = none_back_on c.args.seat.now c.lock_target.new.seat c.validate.new.seat locked
    (none_back_same c.lock_target.new.seat c.validate.new.seat c.validate.ensures.same.stay c.validate.ensures.seat.1) in
    let valued = none_back_on c.args.seat.now c.validate.new.seat c.value_where-value.new.seat judged
    (none_back_same c.validate.new.seat c.value_where-value.new.seat c.value_where-value.ensures.same.stay
    c.value_where-value.ensures.seat.1) in
    let past = c.in_ok-number-in-None.ensures in
    none_back_on c.args.seat.now c.value_where-value.new.seat c.bypass.new.seat valued (past.slots.slots past.waits.count)

pub returns-in-Some-2-clause-stays : goal.returns-in-Some-2-clause-stays
returns-in-Some-2-clause-stays g c =
    let locked = none_back_same c.args.seat.now c.lock_target.new.seat c.lock_target.ensures.same.stay c.lock_target.ensures.seat.1 in
    let judged = none_back_on c.args.seat.now c.lock_target.new.seat c.validate.new.seat locked
    (none_back_same c.lock_target.new.seat c.validate.new.seat c.validate.ensures.same.stay c.validate.ensures.seat.1) in
    let valued = none_back_on c.args.seat.now c.validate.new.seat c.value_where-value.new.seat judged
    (none_back_same c.validate.new.seat c.value_where-value.new.seat c.value_where-value.ensures.same.stay
    c.value_where-value.ensures.seat.1) in
    none_back_on c.args.seat.now c.value_where-value.new.seat c.shift.new.seat valued c.in_ok-number-in-Some-successor.ensures.stays

pub returns-in_default-2-clause-stays : goal.returns-in_default-2-clause-stays
returns-in_default-2-clause-stays g c =
    let locked = none_back_same c.args.seat.now c.lock_target.new.seat c.lock_target.ensures.same.stay c.lock_target.ensures.seat.1 in
    let judged = none_back_on c.args.seat.now c.lock_target.new.seat c.validate.new.seat locked
    (none_back_same c.lock_target.new.seat c.validate.new.seat c.validate.ensures.same.stay c.validate.ensures.seat.1) in
    let valued = none_back_on c.args.seat.now c.validate.new.seat c.value_where-value.new.seat judged
    (none_back_same c.validate.new.seat c.value_where-value.new.seat c.value_where-value.ensures.same.stay
    c.value_where-value.ensures.seat.1) in
    none_back_on c.args.seat.now c.value_where-value.new.seat c.shift.new.seat valued c.in_ok-number-in-Some-successor.ensures.stays

pub unlock_target-requires-then-is_some-clause-at : goal.unlock_target-requires-then-is_some-clause-at
unlock_target-requires-then-is_some-clause-at g c = let a = c.requires.at in (
  Del c.args.key,
  a.0,
  gives_up_node c.in-Some.node c.args.target.now.successor (c.value_where-value.ensures.at (Del c.args.key) a.0
      (c.in-Some.ensures.holds (Del c.args.key) a.0 (c.lock_target.ensures.got c.if-not-lock_target.false (Del c.args.key) a.0 a.1))),
)

pub returns-then-is_some-clause-again : goal.returns-then-is_some-clause-again
returns-then-is_some-clause-again g c kept a = c.unlock_target-then-is_some.ensures.at (Del c.args.key) kept
    (gives_up_node c.in-Some.node c.args.target.now.successor (c.value_where-value.ensures.at (Del c.args.key) kept
    (c.in-Some.ensures.holds (Del c.args.key) kept (c.lock_target.ensures.got c.if-not-lock_target.false (Del c.args.key) kept a))))
