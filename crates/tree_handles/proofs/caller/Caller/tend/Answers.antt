use Rattle.std.proofs.Common.{rules, subst, ◌∙◌}
use Rattle.seat_table.specs.Seats.{TableAt, shape_of}
use Rattle.tree_handles.specs.Callers.{CallerAt}
use Rattle.tree_handles.specs.Keepers.{HasCookies, TendsTo}
use Rattle.tree_handles.proofs.Serving.{no_keeper, rests_none, tends_rest}
use Rattle.std_alloc.specs.Arc.{arc_value}
use Rattle.tree_handles.proofs.caller.Caller.tend.Goals as goal

pub returns-then-is_none : goal.returns-then-is_none
returns-then-is_none g c = tends_rest c.args.self.now c.requires.may
    (subst (λ (z : CallerAt). TendsTo (shape_of z.way z.table) z.keeper z.seat z.keeper z.seat) c.self.view_is
    (rests_none (shape_of g.W.WaitWords.WAY (arc_value c.self.inside.shared)) c.self.inside.keeper c.self.inside.seat
    (no_keeper c.self.inside.keeper c.is_none.result c.is_none.ensures c.if-is_none.true)))

-- the cookies are good still
pub invariant_of-self : goal.invariant_of-self
invariant_of-self g c = (
  search rules,
  search rules,
  λ kept. subst (λ (t : TableAt). HasCookies (shape_of g.W.WaitWords.WAY t) c.self.inside.cookie c.tend_in_place.new.keeper
      c.tend_in_place.new.seat) (c.table.ensures ∙ c.deref.ensures)
      (c.tend_in_place.ensures.cookies c.self.inside.cookie (search rules)),
)
