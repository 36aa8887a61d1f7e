use Rattle.std.proofs.Common.{rules, subst, ◌∙◌}
use Rattle.seat_table.specs.Seats.{TableAt, shape_of}
use Rattle.tree_handles.specs.Keepers.{HasCookies}
use Rattle.tree_handles.proofs.caller.Caller.start_keeper.Goals as goal

-- the cookies are good still
pub invariant_of-self : goal.invariant_of-self
invariant_of-self g c = (
  search rules,
  search rules,
  λ kept. subst (λ (t : TableAt). HasCookies (shape_of g.W.WaitWords.WAY t) c.self.inside.cookie c.begin_if_needed.new.keeper
      c.begin_if_needed.new.seat) (c.table-table.ensures ∙ c.deref.ensures) c.begin_if_needed.ensures.cookies,
)
