use Rattle.core_points.specs.declared.stage.Stage.TheVariants as at
use Rattle.std.specs.declared.option.Option.TheVariants.{None, Some}
use Rattle.std.specs.Option.{IfSome, IfNone, is_some}
use Rattle.seat_table.specs.Gains.{IsInformed}
use Rattle.citrus_tree.specs.Replies.{RetiresInOrder, WasAnswered}
use Rattle.citrus_tree.specs.declared.delete.Deleted.{Deleted}
use Rattle.citrus_tree.specs.Going.{IsExpected, IsOther, KeepsWait, MayBegin}
use Rattle.citrus_tree.specs.Deletes.{FoundTwoChildren, HasDeleted, HasTwo, KeepsRest, KeepsWaits, TellsTaken}
use Rattle.citrus_tree.specs.declared.delete.target.Sighted.{Sighted}
use Rattle.prcu_model.specs.declared.operation.Op.TheVariants.{Del}
use Rattle.tree_points.specs.Points.{IsAt, IsDone}
use Rattle.seat_table.specs.Seats.{shape_of}
use Rattle.std.specs.declared.option.Option.{Option}
use Rattle.std.proofs.Common.{refl, ◌∙◌, ap, length, subst, ℕ, ◌≡◌, true, arith}
use Rattle.citrus_tree.proofs.DeleteTries.{absent_begins, absent_dels, absent_wait, gone_begins, gone_dels, gone_wait, listed_still, rests_begins, rests_wait, rests_way, tried_retires, tries_again, tries_first, found_expected, tells_gone, searched_waits, waits_on}
use Rattle.citrus_tree.proofs.DeleteSearches.{answered_before, left_there, rest_none}
use Rattle.citrus_tree.proofs.Replacing.{rests_at}
use Rattle.citrus_tree.proofs.Leavings.{none_back_on, none_back_same, searched_slots, slots_on, slots_self}
use Rattle.citrus_tree.proofs.DeleteMoves.{few_retired}
use Rattle.seat_table.proofs.SeveralSteps.{prefix_steps}
use Rattle.citrus_tree.proofs.delete.delete.Goals as goal

pub loop-round-init : goal.loop-round-init
loop-round-init g c = record {
  table = refl;
  listed = c.requires.listed;
  same = refl;
  tries = tries_first _ c.args.key c.args.seat.now.view;
  slots = slots_self c.args.seat.now;
  stays = none_back_same c.args.seat.now c.args.seat.now refl refl;
  made = omega arith;
}

pub find_target-requires-clause-at : goal.find_target-requires-clause-at
find_target-requires-clause-at g c = let a = c.requires.at in (a.0, c.loop-round.invariant.tries.ready a.0 a.1)

pub returns-in_default-clause-done : goal.returns-in_default-clause-done
returns-in_default-clause-done g c kept a = subst (λ (r : Option Sighted). IfNone r ((kept : ℕ)
    → MayBegin (shape_of g.W.WaitWords.WAY c.args.table.now) (Del c.args.key) kept c.loop-round.seat.view
    → IsDone (shape_of g.W.WaitWords.WAY c.args.table.now) (Del c.args.key) kept c.find_target.new.seat.view)) c.in_default.is
    c.find_target.ensures.done kept (c.loop-round.invariant.tries.ready kept a)

pub returns-in_default-clause-wait : goal.returns-in_default-clause-wait
returns-in_default-clause-wait g c = absent_wait c.loop-round.invariant.tries c.find_target.ensures.searched

pub returns-in_default-clause-listed : goal.returns-in_default-clause-listed
returns-in_default-clause-listed g c = listed_still c.loop-round.seat c.find_target.new.seat c.find_target.ensures.seat.1
    c.find_target.ensures.searched.retired c.loop-round.invariant.listed

pub delete_node-requires-clause-listed : goal.delete_node-requires-clause-listed
delete_node-requires-clause-listed g c = listed_still c.loop-round.seat c.find_target.new.seat c.find_target.ensures.seat.1
    c.find_target.ensures.searched.retired c.loop-round.invariant.listed

pub returns-in_default-clause-dels : goal.returns-in_default-clause-dels
returns-in_default-clause-dels g c = absent_dels c.loop-round.invariant.tries c.find_target.ensures.searched
    (subst (λ (r : Option Sighted). IfNone r
    (WasAnswered c.loop-round.seat.view c.args.key None c.find_target.new.seat.view)) c.in_default.is c.find_target.ensures.absent)

pub delete_node-requires-clause-at : goal.delete_node-requires-clause-at
delete_node-requires-clause-at g c = let a = c.requires.at in (
  a.0,
  (subst (λ (r : Option Sighted). IfSome r
      (λ sighted. (kept : ℕ) → MayBegin (shape_of g.W.WaitWords.WAY c.args.table.now) (Del c.args.key) kept c.loop-round.seat.view
      → IsAt (shape_of g.W.WaitWords.WAY c.args.table.now) (Del c.args.key) kept
      (at.TargetLock sighted.target 0) c.find_target.new.seat.view)) c.in-Some.is c.find_target.ensures.found) a.0
      (c.loop-round.invariant.tries.ready a.0 a.1),
)

pub delete_node-requires-clause-seen : goal.delete_node-requires-clause-seen
delete_node-requires-clause-seen g c =
    let v = c.loop-round.seat.view in
    let w = c.find_target.new.seat.view in
    let expected = c.args.manner.expected in
    found_expected v w c.args.key expected c.in-Some.sighted.value
    (subst (λ (r : Option Sighted). IfSome r (λ sighted. is_some sighted.value ≡ c.is_some.result)) c.in-Some.is c.find_target.ensures.looked
    ∙ c.is_some.ensures)
    (subst (λ (r : Option Sighted). IfSome r (λ sighted. IfSome sighted.value (λ value. WasAnswered v c.args.key (Some value) w))) c.in-Some.is
    c.find_target.ensures.said)
    (subst (λ (r : Option ℕ). IfNone r (IfSome c.in-Some.sighted.value (λ found. IsExpected expected found))) c.in_default-other_value.is
    c.other_value.ensures.wanted)

pub returns-in-Some-2-clause-done : goal.returns-in-Some-2-clause-done
returns-in-Some-2-clause-done g c kept a =
    let target = c.in-Some.sighted.target in
    let locks = subst (λ (r : Option Sighted). IfSome r (λ sighted. (kept : ℕ)
    → MayBegin (shape_of g.W.WaitWords.WAY c.args.table.now) (Del c.args.key) kept c.loop-round.seat.view
    → IsAt (shape_of g.W.WaitWords.WAY c.args.table.now) (Del c.args.key) kept
    (at.TargetLock sighted.target 0) c.find_target.new.seat.view)) c.in-Some.is c.find_target.ensures.found kept
    (c.loop-round.invariant.tries.ready kept a) in
    subst (λ (r : Option Deleted). IfSome r (λ _. (kept : ℕ)
    → IsAt (shape_of g.W.WaitWords.WAY c.args.table.now) (Del c.args.key) kept
    (at.TargetLock target 0) c.find_target.new.seat.view
    → IsDone (shape_of g.W.WaitWords.WAY c.args.table.now) (Del c.args.key) kept c.delete_node.new.seat.view)) c.in-Some-2.is
    c.in_ok-taken.ensures.done kept locks

pub returns-in-Some-2-clause-informed : goal.returns-in-Some-2-clause-informed
returns-in-Some-2-clause-informed g c = subst (λ (r : Option Deleted). IfSome r
    (λ _. IsInformed c.delete_node.new.seat.view)) c.in-Some-2.is c.in_ok-taken.ensures.informed

pub returns-in-Some-2-clause-dels : goal.returns-in-Some-2-clause-dels
returns-in-Some-2-clause-dels g c = gone_dels c.loop-round.invariant.tries c.find_target.ensures.searched
    (subst (λ (r : Option Deleted). IfSome r
    (λ taken. HasDeleted c.find_target.new.seat.view c.args.key taken.number c.delete_node.new.seat.view)) c.in-Some-2.is
    c.in_ok-taken.ensures.deleted) (subst (λ (r : Option Deleted). IfSome r
    (λ _. IsInformed c.delete_node.new.seat.view)) c.in-Some-2.is c.in_ok-taken.ensures.informed)

pub returns-in-Some-2-clause-wait : goal.returns-in-Some-2-clause-wait
returns-in-Some-2-clause-wait g c = gone_wait c.loop-round.invariant.tries c.find_target.ensures.searched c.delete_node.new.seat.view
    (subst (λ (r : Option Deleted). IfSome r
    (λ _. KeepsWait c.find_target.new.seat.view c.delete_node.new.seat.view)) c.in-Some-2.is c.in_ok-taken.ensures.waits)

pub loop-round-preserved : goal.loop-round-preserved
loop-round-preserved g c = record {
  table = c.delete_node.ensures.table ∙ c.find_target.ensures.seat.0 ∙ c.loop-round.invariant.table;
  listed = c.in_ok-taken.ensures.listed;
  same = (subst
      (λ (r : Option Deleted). IfNone r (c.delete_node.new.seat.listed ≡ c.find_target.new.seat.listed)) c.in_default-2.is
      c.in_ok-taken.ensures.kept) ∙ c.find_target.ensures.seat.1 ∙ c.loop-round.invariant.same;
  tries = tries_again c.loop-round.invariant.tries c.find_target.ensures.searched
      (subst (λ (r : Option Deleted). IfNone r
      (KeepsRest c.find_target.new.seat.view c.delete_node.new.seat.view)) c.in_default-2.is c.in_ok-taken.ensures.same)
      (λ kept a. (subst (λ (r : Option Deleted). IfNone r
      ((kept : ℕ) → IsAt (shape_of g.W.WaitWords.WAY c.args.table.now) (Del c.args.key) kept
      (at.TargetLock c.in-Some.sighted.target 0) c.find_target.new.seat.view
      → IsAt (shape_of g.W.WaitWords.WAY c.args.table.now)
      (Del c.args.key) kept at.EnterClock c.delete_node.new.seat.view)) c.in_default-2.is c.in_ok-taken.ensures.again) kept
      ((subst (λ (r : Option Sighted). IfSome r (λ sighted. (kept : ℕ)
      → MayBegin (shape_of g.W.WaitWords.WAY c.args.table.now) (Del c.args.key) kept c.loop-round.seat.view
      → IsAt (shape_of g.W.WaitWords.WAY c.args.table.now) (Del c.args.key) kept
      (at.TargetLock sighted.target 0) c.find_target.new.seat.view)) c.in-Some.is c.find_target.ensures.found) kept a));
  slots = slots_on c.args.seat.now c.find_target.new.seat c.delete_node.new.seat
      (searched_slots c.args.seat.now c.loop-round.seat c.find_target.new.seat c.args.key c.loop-round.invariant.slots
      c.find_target.ensures.searched
      c.find_target.ensures.seat.1) c.in_ok-taken.ensures.slots;
  stays = none_back_on c.args.seat.now c.find_target.new.seat c.delete_node.new.seat
      (none_back_on c.args.seat.now c.loop-round.seat c.find_target.new.seat c.loop-round.invariant.stays
      (none_back_same c.loop-round.seat c.find_target.new.seat c.find_target.ensures.searched.stay c.find_target.ensures.seat.1))
      c.in_ok-taken.ensures.stays;
  made =
      let made = c.loop-round.invariant.made in
      let found = c.find_target.ensures.stepped in
      let rest = subst (λ (r : Option Deleted). IfNone r
      (KeepsRest c.find_target.new.seat.view c.delete_node.new.seat.view)) c.in_default-2.is c.in_ok-taken.ensures.same in
      let tried = prefix_steps c.find_target.new.seat.view c.delete_node.new.seat.view rest.advanced.steps in
      omega (arith, made, found, tried);
}

pub returns-in_default-clause-slots : goal.returns-in_default-clause-slots
returns-in_default-clause-slots g c =
    searched_slots c.args.seat.now c.loop-round.seat c.find_target.new.seat c.args.key c.loop-round.invariant.slots
    c.find_target.ensures.searched
    c.find_target.ensures.seat.1

pub returns-in-Some-2-clause-slots : goal.returns-in-Some-2-clause-slots
returns-in-Some-2-clause-slots g c =
    slots_on c.args.seat.now c.find_target.new.seat c.delete_node.new.seat
    (searched_slots c.args.seat.now c.loop-round.seat c.find_target.new.seat c.args.key c.loop-round.invariant.slots
    c.find_target.ensures.searched
    c.find_target.ensures.seat.1) c.in_ok-taken.ensures.slots

pub returns-in_default-clause-retires : goal.returns-in_default-clause-retires
returns-in_default-clause-retires g c = c.find_target.ensures.seat.1 ∙ c.loop-round.invariant.same

pub returns-in-Some-2-clause-retires : goal.returns-in-Some-2-clause-retires
returns-in-Some-2-clause-retires g c =
    tried_retires c.args.seat.now c.loop-round.seat c.find_target.new.seat c.delete_node.new.seat c.in-Some-2.taken.number
    c.loop-round.invariant.tries
    c.find_target.ensures.searched (c.find_target.ensures.seat.1 ∙ c.loop-round.invariant.same)
    (subst (λ (r : Option Deleted). IfSome r
    (λ taken. RetiresInOrder c.find_target.new.seat c.args.key taken.number c.delete_node.new.seat)) c.in-Some-2.is
    c.in_ok-taken.ensures.retires)

pub returns-in-Some-2-clause-value : goal.returns-in-Some-2-clause-value
returns-in-Some-2-clause-value g c e =
    tells_gone c.loop-round.invariant.tries c.find_target.ensures.searched c.delete_node.new.seat.view c.in-Some-2.taken.number
    c.in-Some-2.taken.value
    ((subst (λ (r : Option Deleted). IfSome r (λ taken. c.args.manner.tells_value ≡ true
    → TellsTaken c.find_target.new.seat.view c.args.key taken.number taken.value c.delete_node.new.seat.view)) c.in-Some-2.is
    c.in_ok-taken.ensures.value) e)

pub returns-in_default-clause-begins : goal.returns-in_default-clause-begins
returns-in_default-clause-begins g c = absent_begins c.loop-round.invariant.tries c.find_target.ensures.searched

pub returns-in-Some-2-clause-begins : goal.returns-in-Some-2-clause-begins
returns-in-Some-2-clause-begins g c = gone_begins c.loop-round.invariant.tries c.find_target.ensures.searched
    (subst (λ (r : Option Deleted). IfSome r
    (λ taken. HasDeleted c.find_target.new.seat.view c.args.key taken.number c.delete_node.new.seat.view)) c.in-Some-2.is
    c.in_ok-taken.ensures.deleted)

pub returns-in-Err-clause-busy : goal.returns-in-Err-clause-busy
returns-in-Err-clause-busy g c = rests_way c.loop-round.invariant.tries c.find_target.ensures.searched
    (subst (λ (r : Option Deleted). IfNone r (KeepsRest c.find_target.new.seat.view c.delete_node.new.seat.view)) c.in_default-2.is
    c.in_ok-taken.ensures.same)

pub returns-in-Err-clause-begins : goal.returns-in-Err-clause-begins
returns-in-Err-clause-begins g c = rests_begins c.loop-round.invariant.tries c.find_target.ensures.searched
    (subst (λ (r : Option Deleted). IfNone r (KeepsRest c.find_target.new.seat.view c.delete_node.new.seat.view)) c.in_default-2.is
    c.in_ok-taken.ensures.same)

pub returns-in-Err-clause-done : goal.returns-in-Err-clause-done
returns-in-Err-clause-done g c kept a = rests_at refl ((subst (λ (r : Option Deleted). IfNone r
    ((kept : ℕ) → IsAt (shape_of g.W.WaitWords.WAY c.args.table.now) (Del c.args.key) kept
    (at.TargetLock c.in-Some.sighted.target 0) c.find_target.new.seat.view
    → IsAt (shape_of g.W.WaitWords.WAY c.args.table.now)
    (Del c.args.key) kept at.EnterClock c.delete_node.new.seat.view)) c.in_default-2.is c.in_ok-taken.ensures.again) kept
    ((subst (λ (r : Option Sighted). IfSome r (λ sighted. (kept : ℕ)
    → MayBegin (shape_of g.W.WaitWords.WAY c.args.table.now) (Del c.args.key) kept c.loop-round.seat.view
    → IsAt (shape_of g.W.WaitWords.WAY c.args.table.now) (Del c.args.key) kept
    (at.TargetLock sighted.target 0) c.find_target.new.seat.view)) c.in-Some.is c.find_target.ensures.found) kept
    (c.loop-round.invariant.tries.ready kept a)))

pub returns-in-Err-clause-wait : goal.returns-in-Err-clause-wait
returns-in-Err-clause-wait g c = rests_wait c.loop-round.invariant.tries c.find_target.ensures.searched
    (subst (λ (r : Option Deleted). IfNone r (KeepsRest c.find_target.new.seat.view c.delete_node.new.seat.view)) c.in_default-2.is
    c.in_ok-taken.ensures.same)

pub returns-in_default-clause-stays : goal.returns-in_default-clause-stays
returns-in_default-clause-stays g c = none_back_on c.args.seat.now c.loop-round.seat c.find_target.new.seat c.loop-round.invariant.stays
    (none_back_same c.loop-round.seat c.find_target.new.seat c.find_target.ensures.searched.stay c.find_target.ensures.seat.1)

pub returns-in-Some-2-clause-stays : goal.returns-in-Some-2-clause-stays
returns-in-Some-2-clause-stays g c =
    let found = none_back_on c.args.seat.now c.loop-round.seat c.find_target.new.seat c.loop-round.invariant.stays
    (none_back_same c.loop-round.seat c.find_target.new.seat c.find_target.ensures.searched.stay c.find_target.ensures.seat.1) in
    none_back_on c.args.seat.now c.find_target.new.seat c.delete_node.new.seat found c.in_ok-taken.ensures.stays

pub returns-in-Err-clause-stays : goal.returns-in-Err-clause-stays
returns-in-Err-clause-stays g c =
    let found = none_back_on c.args.seat.now c.loop-round.seat c.find_target.new.seat c.loop-round.invariant.stays
    (none_back_same c.loop-round.seat c.find_target.new.seat c.find_target.ensures.searched.stay c.find_target.ensures.seat.1) in
    none_back_on c.args.seat.now c.find_target.new.seat c.delete_node.new.seat found c.in_ok-taken.ensures.stays

pub returns-in_default-clause-few : goal.returns-in_default-clause-few
returns-in_default-clause-few g c =
    let same = ap length (c.find_target.ensures.seat.1 ∙ c.loop-round.invariant.same) in omega (arith, same)

pub returns-in-Some-2-clause-few : goal.returns-in-Some-2-clause-few
returns-in-Some-2-clause-few g c =
    let same = ap length (c.find_target.ensures.seat.1 ∙ c.loop-round.invariant.same) in
    let few = few_retired c.find_target.new.seat c.delete_node.new.seat c.args.key c.in-Some-2.taken.number
    (subst (λ (r : Option Deleted). IfSome r
    (λ taken. RetiresInOrder c.find_target.new.seat c.args.key taken.number c.delete_node.new.seat)) c.in-Some-2.is
    c.in_ok-taken.ensures.retires) in omega (arith, same, few)

pub returns-in-Err-clause-few : goal.returns-in-Err-clause-few
returns-in-Err-clause-few g c =
    let same = ap length ((subst
    (λ (r : Option Deleted). IfNone r (c.delete_node.new.seat.listed ≡ c.find_target.new.seat.listed)) c.in_default-2.is
    c.in_ok-taken.ensures.kept) ∙ c.find_target.ensures.seat.1 ∙ c.loop-round.invariant.same) in omega (arith, same)

pub returns-in_default-clause-unwaited : goal.returns-in_default-clause-unwaited
returns-in_default-clause-unwaited g c = λ leaves. searched_waits c.loop-round.invariant.tries c.find_target.ensures.searched

pub returns-in-Some-2-clause-unwaited : goal.returns-in-Some-2-clause-unwaited
returns-in-Some-2-clause-unwaited g c = λ leaves.
    waits_on (searched_waits c.loop-round.invariant.tries c.find_target.ensures.searched)
    ((subst (λ (r : Option Deleted). IfSome r (λ _. c.in-Some.sighted.target.successor ≡ None
    → KeepsWaits c.find_target.new.seat.view c.delete_node.new.seat.view)) c.in-Some-2.is c.in_ok-taken.ensures.unwaited)
    (c.is_left.ensures.taken c.if-is_left.false leaves))

pub returns-in-Err-clause-unwaited : goal.returns-in-Err-clause-unwaited
returns-in-Err-clause-unwaited g c = λ leaves.
    waits_on (searched_waits c.loop-round.invariant.tries c.find_target.ensures.searched)
    (subst (λ (r : Option Deleted). IfNone r (KeepsRest c.find_target.new.seat.view c.delete_node.new.seat.view)) c.in_default-2.is
    c.in_ok-taken.ensures.same).waits

pub returns-then-is_left-clause-done : goal.returns-then-is_left-clause-done
returns-then-is_left-clause-done g c kept a = left_there ((subst (λ (r : Option Sighted). IfSome r (λ sighted. (kept : ℕ)
    → MayBegin (shape_of g.W.WaitWords.WAY c.args.table.now) (Del c.args.key) kept c.loop-round.seat.view
    → IsAt (shape_of g.W.WaitWords.WAY c.args.table.now) (Del c.args.key) kept
    (at.TargetLock sighted.target 0) c.find_target.new.seat.view)) c.in-Some.is c.find_target.ensures.found) kept
    (c.loop-round.invariant.tries.ready kept a))

pub returns-then-is_left-clause-asked : goal.returns-then-is_left-clause-asked
returns-then-is_left-clause-asked g c = (c.is_left.ensures.left c.if-is_left.true).0

pub returns-then-is_left-clause-two : goal.returns-then-is_left-clause-two
returns-then-is_left-clause-two g c =
    (subst (λ (r : Option Sighted). IfSome r (λ sighted. HasTwo sighted.target → FoundTwoChildren c.args.key c.find_target.new.seat.view)) c.in-Some.is
    c.find_target.ensures.two) (c.is_left.ensures.left c.if-is_left.true).1

pub returns-then-is_left-clause-seen : goal.returns-then-is_left-clause-seen
returns-then-is_left-clause-seen g c =
    let v = c.loop-round.seat.view in
    let w = c.find_target.new.seat.view in
    let expected = c.args.manner.expected in
    found_expected v w c.args.key expected c.in-Some.sighted.value
    (subst (λ (r : Option Sighted). IfSome r (λ sighted. is_some sighted.value ≡ c.is_some.result)) c.in-Some.is c.find_target.ensures.looked
    ∙ c.is_some.ensures)
    (subst (λ (r : Option Sighted). IfSome r (λ sighted. IfSome sighted.value (λ value. WasAnswered v c.args.key (Some value) w))) c.in-Some.is
    c.find_target.ensures.said)
    (subst (λ (r : Option ℕ). IfNone r (IfSome c.in-Some.sighted.value (λ found. IsExpected expected found))) c.in_default-other_value.is
    c.other_value.ensures.wanted)

pub returns-then-is_left-clause-left : goal.returns-then-is_left-clause-left
returns-then-is_left-clause-left g c =
    rests_way c.loop-round.invariant.tries c.find_target.ensures.searched (rest_none c.find_target.new.seat.view)

pub returns-then-is_left-clause-begins : goal.returns-then-is_left-clause-begins
returns-then-is_left-clause-begins g c = absent_begins c.loop-round.invariant.tries c.find_target.ensures.searched

pub returns-then-is_left-clause-wait : goal.returns-then-is_left-clause-wait
returns-then-is_left-clause-wait g c = absent_wait c.loop-round.invariant.tries c.find_target.ensures.searched

pub returns-then-is_left-clause-unwaited : goal.returns-then-is_left-clause-unwaited
returns-then-is_left-clause-unwaited g c = λ leaves. searched_waits c.loop-round.invariant.tries c.find_target.ensures.searched

pub returns-then-is_left-clause-slots : goal.returns-then-is_left-clause-slots
returns-then-is_left-clause-slots g c =
    searched_slots c.args.seat.now c.loop-round.seat c.find_target.new.seat c.args.key c.loop-round.invariant.slots
    c.find_target.ensures.searched
    c.find_target.ensures.seat.1

pub returns-then-is_left-clause-listed : goal.returns-then-is_left-clause-listed
returns-then-is_left-clause-listed g c = listed_still c.loop-round.seat c.find_target.new.seat c.find_target.ensures.seat.1
    c.find_target.ensures.searched.retired c.loop-round.invariant.listed

pub returns-then-is_left-clause-stays : goal.returns-then-is_left-clause-stays
returns-then-is_left-clause-stays g c = none_back_on c.args.seat.now c.loop-round.seat c.find_target.new.seat c.loop-round.invariant.stays
    (none_back_same c.loop-round.seat c.find_target.new.seat c.find_target.ensures.searched.stay c.find_target.ensures.seat.1)

pub returns-then-is_left-clause-few : goal.returns-then-is_left-clause-few
returns-then-is_left-clause-few g c =
    let same = ap length (c.find_target.ensures.seat.1 ∙ c.loop-round.invariant.same) in omega (arith, same)

pub returns-in-Some-other_value-clause-done : goal.returns-in-Some-other_value-clause-done
returns-in-Some-other_value-clause-done g c kept a = left_there ((subst (λ (r : Option Sighted). IfSome r (λ sighted. (kept : ℕ)
    → MayBegin (shape_of g.W.WaitWords.WAY c.args.table.now) (Del c.args.key) kept c.loop-round.seat.view
    → IsAt (shape_of g.W.WaitWords.WAY c.args.table.now) (Del c.args.key) kept
    (at.TargetLock sighted.target 0) c.find_target.new.seat.view)) c.in-Some.is c.find_target.ensures.found) kept
    (c.loop-round.invariant.tries.ready kept a))

pub returns-in-Some-other_value-clause-begins : goal.returns-in-Some-other_value-clause-begins
returns-in-Some-other_value-clause-begins g c = absent_begins c.loop-round.invariant.tries c.find_target.ensures.searched

pub returns-in-Some-other_value-clause-wait : goal.returns-in-Some-other_value-clause-wait
returns-in-Some-other_value-clause-wait g c = absent_wait c.loop-round.invariant.tries c.find_target.ensures.searched

pub returns-in-Some-other_value-clause-unwaited : goal.returns-in-Some-other_value-clause-unwaited
returns-in-Some-other_value-clause-unwaited g c = λ leaves. searched_waits c.loop-round.invariant.tries c.find_target.ensures.searched

pub returns-in-Some-other_value-clause-slots : goal.returns-in-Some-other_value-clause-slots
returns-in-Some-other_value-clause-slots g c =
    searched_slots c.args.seat.now c.loop-round.seat c.find_target.new.seat c.args.key c.loop-round.invariant.slots
    c.find_target.ensures.searched
    c.find_target.ensures.seat.1

pub returns-in-Some-other_value-clause-listed : goal.returns-in-Some-other_value-clause-listed
returns-in-Some-other_value-clause-listed g c = listed_still c.loop-round.seat c.find_target.new.seat c.find_target.ensures.seat.1
    c.find_target.ensures.searched.retired c.loop-round.invariant.listed

pub returns-in-Some-other_value-clause-stays : goal.returns-in-Some-other_value-clause-stays
returns-in-Some-other_value-clause-stays g c = none_back_on c.args.seat.now c.loop-round.seat c.find_target.new.seat c.loop-round.invariant.stays
    (none_back_same c.loop-round.seat c.find_target.new.seat c.find_target.ensures.searched.stay c.find_target.ensures.seat.1)

pub returns-in-Some-other_value-clause-few : goal.returns-in-Some-other_value-clause-few
returns-in-Some-other_value-clause-few g c =
    let same = ap length (c.find_target.ensures.seat.1 ∙ c.loop-round.invariant.same) in omega (arith, same)

pub returns-in-Some-other_value-clause-other : goal.returns-in-Some-other_value-clause-other
returns-in-Some-other_value-clause-other g c =
    rests_way c.loop-round.invariant.tries c.find_target.ensures.searched (rest_none c.find_target.new.seat.view)

pub returns-in-Some-other_value-clause-differs : goal.returns-in-Some-other_value-clause-differs
returns-in-Some-other_value-clause-differs g c =
    let w = c.find_target.new.seat.view in
    let other = subst (λ (r : Option ℕ). IfSome r (λ found. (c.in-Some.sighted.value ≡ Some found) × IsOther c.args.manner.expected found))
    c.in-Some-other_value.is c.other_value.ensures.other in
    let said = subst (λ (r : Option Sighted). IfSome r (λ sighted. IfSome sighted.value
    (λ value. WasAnswered c.loop-round.seat.view c.args.key (Some value) w))) c.in-Some.is c.find_target.ensures.said in (
      answered_before c.loop-round.invariant.tries.advanced (subst (λ (r : Option ℕ). IfSome r
          (λ value. WasAnswered c.loop-round.seat.view c.args.key (Some value) w)) other.0 said),
      other.1,
      c.find_target.ensures.informed,
    )

pub returns-in-Some-2-clause-wanted : goal.returns-in-Some-2-clause-wanted
returns-in-Some-2-clause-wanted g c = subst (λ (r : Option Deleted). IfSome r
    (λ taken. IfSome taken.value (λ value. IsExpected c.args.manner.expected value))) c.in-Some-2.is c.in_ok-taken.ensures.wanted
