use Rattle.std.proofs.Common.{rules}
use Rattle.std.proofs.lemmas.Result.{IfErr-at_err, IfOk-at_ok}
use Rattle.exact_list.specs.declared.alone.Exact.{Exact}
use Rattle.exact_list.specs.Loads.{HasListed, IsOneWalk}
use Rattle.exact_list.specs.Tries.{HasGivenWay}
use Rattle.tree_handles.specs.declared.spinning.InTheWay.{InTheWay}
use Rattle.tree_handles.proofs.Cookies.{cookies_gave_way, cookies_listed}
use Rattle.tree_handles.proofs.caller.Caller.list.Goals as goal

-- the cookies are good still
pub invariant_of-self : goal.invariant_of-self
invariant_of-self g c =
    let came = IfOk-at_ok (λ (exact : Exact). HasListed c.self.inside.seat.view c.args.keys.low exact.front 4
    (IsOneWalk c.list_always_to.new.page.pairs exact.next) c.list_always_to.new.seat.view) c.in-Ok-Ok.field-0-is c.in-Ok-Ok.ensures.came in
    (search rules, search rules, λ kept. cookies_listed came c.list_always_to.ensures.seat.1 (c.self.invariant.2 kept))

pub invariant_of-self-in-Ok-Err : goal.invariant_of-self-in-Ok-Err
invariant_of-self-in-Ok-Err g c =
    let gave = IfErr-at_err (λ (_ : InTheWay). HasGivenWay c.self.inside.seat.view c.args.keys.low 4 c.list_always_to.new.seat.view)
    c.in-Ok-Err.field-0-is c.in-Ok-Err.ensures.busy in
    (search rules, search rules, λ kept. cookies_gave_way gave c.list_always_to.ensures.seat.1 (c.self.invariant.2 kept))
