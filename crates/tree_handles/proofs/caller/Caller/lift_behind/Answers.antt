use Rattle.std.proofs.Common.{◌∙◌, ap, rules, arith}
use Rattle.std_alloc.specs.Arc.{arc_value}
use Rattle.seat_table.specs.Seats.{shape_of}
use Rattle.tree_handles.specs.Callers.{CallerAt}
use Rattle.tree_handles.proofs.Keepers.{user_earlier}
use Rattle.tree_handles.proofs.Cookies.{cookies_after, keeper_after, keeps_keeper}
use Rattle.citrus_tree.specs.Going.{KeepsSeat}
use Rattle.citrus_tree.proofs.Leavings.{keeps_more}
use Rattle.tree_handles.specs.Calls.{lift_tickets}
use Rattle.tree_handles.proofs.caller.Caller.lift_behind.Goals as goal

pub serves_next-requires : goal.serves_next-requires
serves_next-requires g c = record {
  begun = λ d is. user_earlier (shape_of g.W.WaitWords.WAY (arc_value c.self.inside.shared)) c.self.inside.cookie c.self.inside.seat.view d
      (c.self.invariant.2 (ap (λ (z : CallerAt). z.lost) c.self.view_is ∙ c.requires.may.kept)).of_user is;
}

-- the lift made as many attempts as it was paid for, at most
pub returns-in-Ok-clause-behind : goal.returns-in-Ok-clause-behind
returns-in-Ok-clause-behind g c =
    let all : KeepsSeat lift_tickets c.self.inside.seat c.lift-lifted.new.seat =
    keeps_more (let few = c.attempts_behind-attempts.ensures.few in omega arith) c.in-Ok.ensures.keeps in
    search rules

-- the keeper is there still where no wait was begun
pub returns-in-Ok-clause-keeper : goal.returns-in-Ok-clause-keeper
returns-in-Ok-clause-keeper g c = keeps_keeper c.self.view_is (λ _. keeper_after c.self.inside.seat c.lift-lifted.new.seat _ c.in-Ok.is c.lift-lifted.ensures.keeps c.forget_if.ensures.gone
    (λ same. c.forget_if.ensures.kept same) c.waits-waits.ensures c.waits.ensures)

-- the cookies are good still, without the keeper where a wait was begun
pub invariant_of-self-in-Ok : goal.invariant_of-self-in-Ok
invariant_of-self-in-Ok g c = (
  search rules,
  search rules,
  λ kept. cookies_after _ c.in-Ok.is c.lift-lifted.ensures.keeps c.forget_if.ensures.gone
      (λ same. c.forget_if.ensures.kept same) c.waits-waits.ensures c.waits.ensures
      (c.self.invariant.2 kept),
)
