use Rattle.std.proofs.Common.{rules}
use Rattle.tree_handles.proofs.Cookies.{cookies_after, keeper_after, keeps_keeper}
use Rattle.tree_handles.proofs.caller.Caller.compare.Goals as goal

pub returns-in-Ok-Ok-clause-compared : goal.returns-in-Ok-Ok-clause-compared
returns-in-Ok-Ok-clause-compared g c = record {
  index = search rules;
  keeper = keeps_keeper c.self.view_is (λ _. keeper_after c.self.inside.seat c.compare-answer.new.seat 4 c.in-Ok-Ok.is c.compare-answer.ensures.keeps c.forget_if.ensures.gone
      (λ same. c.forget_if.ensures.kept same) c.waits-waits.ensures c.waits.ensures);
  before = search rules;
  enough = search rules;
  told = search rules;
  begins = search rules;
  keeps = search rules;
  informed = search rules;
  may = search rules;
}

pub returns-in-Ok-Err-clause-cause : goal.returns-in-Ok-Err-clause-cause
returns-in-Ok-Err-clause-cause g c = record {
  index = search rules;
  keeper = keeps_keeper c.self.view_is (λ _. keeper_after c.self.inside.seat c.compare-answer.new.seat 4 c.in-Ok-Err.is c.compare-answer.ensures.keeps c.forget_if.ensures.gone
      (λ same. c.forget_if.ensures.kept same) c.waits-waits.ensures c.waits.ensures);
  before = search rules;
  enough = search rules;
  gave = search rules;
  begins = search rules;
  keeps = search rules;
  may = search rules;
}

-- the cookies are good still, without the keeper where a wait was begun
pub invariant_of-self : goal.invariant_of-self
invariant_of-self g c = (
  search rules,
  search rules,
  λ kept. cookies_after 4 c.in-Ok-Ok.is c.compare-answer.ensures.keeps c.forget_if.ensures.gone
      (λ same. c.forget_if.ensures.kept same) c.waits-waits.ensures c.waits.ensures
      (c.self.invariant.2 kept),
)

pub invariant_of-self-in-Ok-Err : goal.invariant_of-self-in-Ok-Err
invariant_of-self-in-Ok-Err g c = (
  search rules,
  search rules,
  λ kept. cookies_after 4 c.in-Ok-Err.is c.compare-answer.ensures.keeps c.forget_if.ensures.gone
      (λ same. c.forget_if.ensures.kept same) c.waits-waits.ensures c.waits.ensures
      (c.self.invariant.2 kept),
)
