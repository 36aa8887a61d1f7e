use Rattle.std.proofs.Common.{◌≡◌, refl, subst, sym, true}
use Rattle.std.proofs.lemmas.Result.{IfOk-at_ok}
use Rattle.std.specs.Option.{IfSome}
use Rattle.seat_table.specs.Seats.{shape_of}
use Rattle.citrus_tree.specs.declared.delete.Outcome.{Outcome}
use Rattle.citrus_tree.specs.declared.delete.Removed.{Removed}
use Rattle.citrus_tree.specs.Going.{IsExpected}
use Rattle.citrus_tree.specs.Replies.{TellsValue}
use Rattle.citrus_tree.specs.Deletes.{DelGaveWay, DelTells, FoundExpected, FoundOther, FoundTwoChildren, IfDiffers, IfTold, IfTwo, Removes}
use Rattle.citrus_tree.proofs.DeleteTries.{removes_told}
use Rattle.citrus_tree.proofs.delete.remove_so.Goals as goal

pub returns-in-Ok-Told-clause-removes : goal.returns-in-Ok-Told-clause-removes
returns-in-Ok-Told-clause-removes g c =
    let k = shape_of g.W.WaitWords.WAY c.args.table.now in
    let s = c.args.seat.now in
    let t = c.delete_so.new.seat in
    let e = c.in_ok-told.ensures in
    let ok = c.in-Ok-Told.is in
    let is = c.in-Ok-Told.field-0-is in
    subst (λ (r : Removed). Removes k s c.args.key c.args.expected r t) (sym c.removed_of.ensures)
    (removes_told c.args.expected c.in-Ok-Told.told c.in-Ok-Told.value
    (subst (λ (o : Outcome). IfTold o (λ told value. DelTells k s c.args.key told t)) is (IfOk-at_ok _ ok e.tells))
    (subst (λ (o : Outcome). IfTold o (λ told value. true ≡ true → TellsValue s.view c.args.key told value t.view)) is
    (IfOk-at_ok _ ok e.value) refl)
    (subst (λ (o : Outcome). IfTold o (λ told value. IfSome value (λ taken. IsExpected c.args.expected taken))) is (IfOk-at_ok _ ok e.wanted)))

pub returns-in-Ok-Differs-clause-removes : goal.returns-in-Ok-Differs-clause-removes
returns-in-Ok-Differs-clause-removes g c =
    let k = shape_of g.W.WaitWords.WAY c.args.table.now in
    let s = c.args.seat.now in
    let t = c.delete_so.new.seat in
    let e = c.in_ok-told.ensures in
    let ok = c.in-Ok-Differs.is in
    let is = c.in-Ok-Differs.field-0-is in
    let found = subst (λ (o : Outcome). IfDiffers o (λ found. FoundOther s.view c.args.key c.args.expected found t.view)) is
    (IfOk-at_ok _ ok e.differs) in (
      subst (λ (o : Outcome). IfDiffers o (λ found. DelGaveWay k s c.args.key t)) is (IfOk-at_ok _ ok e.other),
      found,
    )

pub returns-in-Ok-TwoChildren-clause-asked : goal.returns-in-Ok-TwoChildren-clause-asked
returns-in-Ok-TwoChildren-clause-asked g c = subst (λ (o : Outcome). IfTwo o (c.args.leaves_two ≡ true)) c.in-Ok-TwoChildren.field-0-is
    (IfOk-at_ok _ c.in-Ok-TwoChildren.is c.in_ok-told.ensures.asked)

pub returns-in-Ok-TwoChildren-clause-two : goal.returns-in-Ok-TwoChildren-clause-two
returns-in-Ok-TwoChildren-clause-two g c = subst (λ (o : Outcome). IfTwo o (FoundTwoChildren c.args.key c.delete_so.new.seat.view))
    c.in-Ok-TwoChildren.field-0-is (IfOk-at_ok _ c.in-Ok-TwoChildren.is c.in_ok-told.ensures.two)

pub returns-in-Ok-TwoChildren-clause-seen : goal.returns-in-Ok-TwoChildren-clause-seen
returns-in-Ok-TwoChildren-clause-seen g c = subst (λ (o : Outcome). IfTwo o (FoundExpected c.args.key c.args.expected c.delete_so.new.seat.view))
    c.in-Ok-TwoChildren.field-0-is (IfOk-at_ok _ c.in-Ok-TwoChildren.is c.in_ok-told.ensures.seen)

pub returns-in-Ok-TwoChildren-clause-left : goal.returns-in-Ok-TwoChildren-clause-left
returns-in-Ok-TwoChildren-clause-left g c = subst
    (λ (o : Outcome). IfTwo o (DelGaveWay (shape_of g.W.WaitWords.WAY c.args.table.now) c.args.seat.now c.args.key c.delete_so.new.seat))
    c.in-Ok-TwoChildren.field-0-is (IfOk-at_ok _ c.in-Ok-TwoChildren.is c.in_ok-told.ensures.left)

pub returns-in-Ok-Told-clause-keeps : goal.returns-in-Ok-Told-clause-keeps
returns-in-Ok-Told-clause-keeps g c = (subst
    (λ (o : Outcome). IfTold o (λ told value. DelTells (shape_of g.W.WaitWords.WAY c.args.table.now) c.args.seat.now c.args.key told
    c.delete_so.new.seat)) c.in-Ok-Told.field-0-is (IfOk-at_ok _ c.in-Ok-Told.is c.in_ok-told.ensures.tells)).keeps

pub returns-in-Ok-Differs-clause-keeps : goal.returns-in-Ok-Differs-clause-keeps
returns-in-Ok-Differs-clause-keeps g c = (subst
    (λ (o : Outcome). IfDiffers o (λ found. DelGaveWay (shape_of g.W.WaitWords.WAY c.args.table.now) c.args.seat.now c.args.key
    c.delete_so.new.seat)) c.in-Ok-Differs.field-0-is (IfOk-at_ok _ c.in-Ok-Differs.is c.in_ok-told.ensures.other)).keeps

pub returns-in-Ok-TwoChildren-clause-keeps : goal.returns-in-Ok-TwoChildren-clause-keeps
returns-in-Ok-TwoChildren-clause-keeps g c = (subst
    (λ (o : Outcome). IfTwo o (DelGaveWay (shape_of g.W.WaitWords.WAY c.args.table.now) c.args.seat.now c.args.key c.delete_so.new.seat))
    c.in-Ok-TwoChildren.field-0-is (IfOk-at_ok _ c.in-Ok-TwoChildren.is c.in_ok-told.ensures.left)).keeps
