-- Callers by their waiter.
-- Source: docs/WAITERS.md, "Which waiter to take".
use Rattle.tree_handles.specs.declared.any_caller.ByWaiter.{ByWaiter}
use Rattle.tree_handles.specs.declared.any_caller.ByWaiter.TheVariants.{Eer, Domain, Deer}
use Rattle.tree_handles.specs.Callers.{CallerAt}

-- the caller, whatever its waiter
abbrev pub caller_of : ByWaiter → CallerAt
caller_of (Eer c) = c
caller_of (Domain c) = c
caller_of (Deer c) = c
