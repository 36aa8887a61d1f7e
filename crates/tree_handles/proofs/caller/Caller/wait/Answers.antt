use Rattle.std.proofs.Common.{rules}
use Rattle.tree_handles.proofs.Cookies.{cookies_waited}
use Rattle.tree_handles.proofs.Serving.{still_good}
use Rattle.tree_handles.proofs.caller.Caller.wait.Goals as goal

-- the user's cookie is good still
pub invariant_of-self : goal.invariant_of-self
invariant_of-self g c = (search rules, search rules, λ kept. cookies_waited c.in-Ok.ensures.waited c.wait_in_grace.ensures.seat.1 (still_good c.self.inside.keeper _ c.give_up_unless_over.ensures (c.self.invariant.2 kept)))
