use Rattle.std.proofs.Common.{rules}
use Rattle.tree_handles.proofs.Cookies.{cookies_held}
use Rattle.tree_handles.proofs.caller.Caller.hold.Goals as goal

-- the cookies are good still
pub invariant_of-self : goal.invariant_of-self
invariant_of-self g c = (search rules, search rules, λ kept. cookies_held c.args.key c.hold.result c.hold.ensures.held c.hold.ensures.seat.1 (c.self.invariant.2 kept))
