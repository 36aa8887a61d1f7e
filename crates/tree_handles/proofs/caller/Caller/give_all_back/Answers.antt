use Rattle.std.proofs.Common.{Bool, rules, subst}
use Rattle.seat_table.specs.Seats.{shape_of}
use Rattle.tree_lift.specs.Lifts.{GivesAllBack}
use Rattle.tree_handles.proofs.Cookies.{cookies_reclaimed}
use Rattle.tree_handles.proofs.caller.Caller.give_all_back.Goals as goal

-- the user's cookie is good still, and there is no keeper where slots went back
pub invariant_of-self : goal.invariant_of-self
invariant_of-self g c =
    let back = subst (λ (some : Bool). GivesAllBack (shape_of g.W.WaitWords.WAY c.table-table.result.now) c.self.inside.seat some
    c.give_all_back.new.seat) c.in-Ok-true.field-0-test c.in-Ok-true.ensures.back in
    (search rules, search rules, λ kept. cookies_reclaimed back.0 (c.self.invariant.2 kept))
