use Rattle.std.proofs.Common.{◌≡◌, None, false, subst, true}
use Rattle.std.proofs.lemmas.Result.{IfOk-at_ok}
use Rattle.citrus_tree.specs.declared.delete.Outcome.{Outcome}
use Rattle.citrus_tree.specs.Deletes.{FoundOther, IfDiffers, IfTwo}
use Rattle.citrus_tree.proofs.delete.del.Goals as goal

-- it leaves no node as it is
pub unreachable-requires : goal.unreachable-requires
unreachable-requires g c =
    let e : false ≡ true = subst (λ (o : Outcome). IfTwo o (false ≡ true)) c.in-Ok-TwoChildren.field-0-is
    (IfOk-at_ok _ c.in-Ok-TwoChildren.is c.in_ok-told.ensures.asked) in
    cc

-- it expects no value, so none is another one
pub unreachable-requires-in-Ok-Differs : goal.unreachable-requires-in-Ok-Differs
unreachable-requires-in-Ok-Differs g c =
    let found = subst (λ (o : Outcome). IfDiffers o
    (λ found. FoundOther c.args.seat.now.view c.args.key None found c.delete_so.new.seat.view)) c.in-Ok-Differs.field-0-is
    (IfOk-at_ok _ c.in-Ok-Differs.is c.in_ok-told.ensures.differs) in
    absurd found.1
