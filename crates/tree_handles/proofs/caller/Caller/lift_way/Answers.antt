use Rattle.std.proofs.Common.{arith, rules, ◌∙◌, true, refl, ◌+◌, ◌*◌}
use Rattle.tree_handles.proofs.Cookies.{cookies_after, keeper_after, keeps_keeper}
use Rattle.citrus_tree.specs.Going.{KeepsSeat}
use Rattle.citrus_tree.proofs.Leavings.{keeps_by}
use Rattle.tree_handles.proofs.caller.Caller.lift_way.Goals as goal

-- what the lift says, of the aim that it was given
pub returns-in-Ok-clause-lifted : goal.returns-in-Ok-clause-lifted
returns-in-Ok-clause-lifted g c =
    let spares : KeepsSeat (3 * c.in-Ok.lifted.tried + 3) c.self.inside.seat c.lift-answer.new.seat =
    keeps_by {s = c.self.inside.seat} {t = c.lift-answer.new.seat} (let few = c.in-Ok.ensures.spares in omega arith) c.in-Ok.ensures.keeps in record {
      index = search rules;
      keeper = keeps_keeper c.self.view_is (λ _. keeper_after c.self.inside.seat c.lift-answer.new.seat _ c.in-Ok.is c.lift-answer.ensures.keeps c.forget_if.ensures.gone
          (λ same. c.forget_if.ensures.kept same) c.waits-waits.ensures c.waits.ensures);
      aim = record { key = c.args.key; salt = c.self.inside.salt; attempts = c.attempts_for.result; hard = true };
      key_is = refl;
      salt_is = search rules;
      hard_is = refl;
      attempts = search rules;
      turns = search rules;
      ends = search rules;
      few = search rules;
      updates = search rules;
      keeps = search rules;
      may = search rules;
    }

-- the cookies are good still, without the keeper where a wait was begun
pub invariant_of-self : goal.invariant_of-self
invariant_of-self g c = (
  search rules,
  search rules,
  λ kept. cookies_after _ c.in-Ok.is c.lift-answer.ensures.keeps c.forget_if.ensures.gone
      (λ same. c.forget_if.ensures.kept same) c.waits-waits.ensures c.waits.ensures
      (c.self.invariant.2 kept),
)
