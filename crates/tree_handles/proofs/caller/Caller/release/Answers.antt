use Rattle.std.proofs.Common.{rules}
use Rattle.tree_handles.proofs.Cookies.{cookies_left}
use Rattle.tree_handles.proofs.caller.Caller.release.Goals as goal

-- the cookies are good still
pub invariant_of-self : goal.invariant_of-self
invariant_of-self g c = (search rules, search rules, λ kept. cookies_left c.release.ensures.left c.release.ensures.seat.1 (c.self.invariant.2 kept))
