use Rattle.std.proofs.Common.{rules, refl, false}
use Rattle.tree_handles.proofs.Cookies.{cookies_unless}
use Rattle.tree_handles.proofs.caller.Caller.turn_down.Goals as goal

-- the cookies are good still, since no wait was begun, and no slot went back
pub invariant_of-self : goal.invariant_of-self
invariant_of-self g c =
    let e = c.in-Ok.ensures in (
      search rules,
      search rules,
      λ kept. cookies_unless e.keeps false (λ never. absurd (cc)) (λ _. refl) (λ _. e.keeps.slots.slots e.unwaited) (c.self.invariant.2 kept),
    )
