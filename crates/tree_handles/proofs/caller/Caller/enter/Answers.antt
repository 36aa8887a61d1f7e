use Rattle.std.proofs.Common.{rules}
use Rattle.tree_handles.proofs.Cookies.{cookies_entered}
use Rattle.tree_handles.proofs.caller.Caller.enter.Goals as goal

-- the cookies are good still
pub invariant_of-self : goal.invariant_of-self
invariant_of-self g c = (search rules, search rules, λ kept. cookies_entered c.enter.ensures.entered c.enter.ensures.seat.1 (c.self.invariant.2 kept))
