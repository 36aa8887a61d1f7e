use Rattle.std.proofs.Common.{rules}
use Rattle.tree_handles.proofs.Cookies.{cookies_shared}
use Rattle.tree_handles.proofs.caller.Caller.split_off.Goals as goal

-- the cookies are good still
pub invariant_of-self : goal.invariant_of-self
invariant_of-self g c = (
  search rules,
  search rules,
  λ kept. cookies_shared c.args.handles c.args.tickets (search rules) (search rules) (c.self.invariant.2 kept),
)
