use Rattle.std.proofs.Common.{sym, subst, ◌∙◌}
use Rattle.tree_handles.specs.Callers.{CallerAt}
use Rattle.tree_handles.specs.Calls.{StaysInside}
use Rattle.tree_handles.proofs.Callers.{stays_inside}
use Rattle.tree_handles.proofs.caller.Caller.stopped.Goals as goal

pub returns-then-is_some-clause-some : goal.returns-then-is_some-clause-some
returns-then-is_some-clause-some g c = subst (λ (z : CallerAt). StaysInside z z) c.self.view_is
    (stays_inside _ c.section.result c.if-self.false c.self.invariant.0 (c.self.invariant.1 c.if-self.false) c.section.ensures
    (sym c.is_some.ensures ∙ c.if-is_some.true))
