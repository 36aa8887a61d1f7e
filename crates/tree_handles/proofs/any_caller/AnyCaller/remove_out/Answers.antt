use Rattle.std.proofs.Common.{None, subst}
use Rattle.std.proofs.lemmas.Result.{IfOk-at_ok}
use Rattle.citrus_tree.specs.declared.delete.Removed.{Removed}
use Rattle.tree_handles.specs.Calls.{IsRemovedTended}
use Rattle.tree_handles.proofs.any_caller.AnyCaller.remove_out.Goals as goal

pub returns-in-Ok-Gone : goal.returns-in-Ok-Gone
returns-in-Ok-Gone c = (
  _,
  subst (λ (r : Removed). IsRemovedTended c.args.self.now c.args.key None r c.remove.new.self) c.in-Ok-Gone.field-0-is
      (IfOk-at_ok _ c.in-Ok-Gone.is c.remove.ensures.taken),
)

-- it expects no value, so none is another one
pub unreachable-requires : goal.unreachable-requires
unreachable-requires c =
    absurd (subst (λ (r : Removed). IsRemovedTended c.args.self.now c.args.key None r c.remove.new.self) c.in-Ok-Differs.field-0-is
    (IfOk-at_ok _ c.in-Ok-Differs.is c.remove.ensures.taken)).removed.removed.1.1
