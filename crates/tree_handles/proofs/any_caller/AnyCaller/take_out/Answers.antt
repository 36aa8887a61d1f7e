use Rattle.std.proofs.Common.{Some, refl, subst}
use Rattle.std.proofs.lemmas.Result.{IfOk-at_ok}
use Rattle.citrus_tree.specs.declared.delete.Removed.{Removed}
use Rattle.tree_handles.specs.Calls.{IsRemovedTended}
use Rattle.tree_handles.proofs.Callers.{takes_expected}
use Rattle.tree_handles.proofs.any_caller.AnyCaller.take_out.Goals as goal

pub returns-in-Ok-Gone : goal.returns-in-Ok-Gone
returns-in-Ok-Gone c =
    let taken = takes_expected c.args.expected _ _
    (subst (λ (r : Removed). IsRemovedTended c.args.self.now c.args.key (Some c.args.expected) r c.remove.new.self) c.in-Ok-Gone.field-0-is
    (IfOk-at_ok _ c.in-Ok-Gone.is c.remove.ensures.taken)) in
    (taken.0, taken.1, refl)

pub returns-in-Ok-Differs : goal.returns-in-Ok-Differs
returns-in-Ok-Differs c = subst (λ (r : Removed). IsRemovedTended c.args.self.now c.args.key (Some c.args.expected) r c.remove.new.self)
    c.in-Ok-Differs.field-0-is (IfOk-at_ok _ c.in-Ok-Differs.is c.remove.ensures.taken)
