use Rattle.std.proofs.Common.{rules, arith, inl}
use Rattle.tree_handles.proofs.Callers.{nothing_behind}
use Rattle.tree_handles.proofs.Cookies.{cookies_looked}
use Rattle.citrus_tree.specs.Going.{KeepsSeat}
use Rattle.citrus_tree.proofs.Leavings.{keeps_more}
use Rattle.tree_handles.proofs.caller.Caller.get.Goals as goal

pub returns-clause-called : goal.returns-clause-called
returns-clause-called g c =
    let four : KeepsSeat 4 c.self.inside.seat c.get.new.seat = keeps_more (omega arith) c.get.ensures.keeps in
    nothing_behind (search rules) (record { kept = λ _. inl (search rules) }) (search rules) (search rules) (search rules) (search rules)

-- the cookies are good still
pub invariant_of-self : goal.invariant_of-self
invariant_of-self g c = (
  search rules,
  search rules,
  λ kept. cookies_looked (c.get.ensures.gets).2 c.get.ensures.listed (c.self.invariant.2 kept),
)
