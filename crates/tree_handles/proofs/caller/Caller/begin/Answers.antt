use Rattle.std.proofs.Common.{rules, subst, ◌∙◌}
use Rattle.grace_cookie.specs.Cookies.{IsOf}
use Rattle.seat_table.specs.Seats.{TableAt, shape_of}
use Rattle.tree_handles.proofs.Cookies.{cookies_begun}
use Rattle.tree_handles.proofs.Serving.{still_good}
use Rattle.tree_handles.proofs.caller.Caller.begin.Goals as goal

-- the new cookie is good
pub invariant_of-self : goal.invariant_of-self
invariant_of-self g c =
    let of = subst (λ (t : TableAt). IsOf (shape_of g.W.WaitWords.WAY t) c.start-cookie.result c.start-cookie.new.seat.view)
    (c.table.ensures ∙ c.deref.ensures) c.start-cookie.ensures.of in (
      search rules,
      search rules,
      λ kept. cookies_begun c.start-cookie.result c.start-cookie.ensures.begun c.start-cookie.ensures.seat.1 c.start-cookie.ensures.going
          c.start-cookie.ensures.count of (still_good c.self.inside.keeper _ c.give_up_unless_over.ensures (c.self.invariant.2 kept)),
    )
