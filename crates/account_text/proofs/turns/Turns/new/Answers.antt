use Rattle.std.proofs.Common.{◌≡◌, ◌+◌, ◌<◌, length, length-set, length-take, take, ap, ◌∙◌, arith}
use Rattle.std.proofs.lemmas.Grind.{get_or_default_zero}
use Rattle.std.proofs.lemmas.List.{length_push, take_all}
use Rattle.account_text.specs.Judging.{own_count}
use Rattle.account_text.proofs.JudgedScripts.{no_update, owner, counts-more, turns-more, own_count-le}
use Rattle.account_text.proofs.turns.Turns.new.Goals as goal
use Rattle.account_text.proofs.turns.Turns.new.Goals.{After-index_mut-count}

there : (c : After-index_mut-count) → owner c.args.history.now c.loop-update.update-index c.loop-update-test.true
    < length c.loop-update.counts.items
there c = omega (arith, c.requires c.loop-update.update-index no_update c.loop-update-test.true, c.loop-update.invariant.callers)

count-now : (c : After-index_mut-count) → c.index_mut-count.result.now
    ≡ own_count (owner c.args.history.now c.loop-update.update-index c.loop-update-test.true)
    (take c.loop-update.update-index c.args.history.now)
count-now c =
    let caller = owner c.args.history.now c.loop-update.update-index c.loop-update-test.true in
    c.index_mut-count.ensures.value ∙ get_or_default_zero c.loop-update.counts.items caller c.index_mut-count.result.now (there c)
    ∙ c.loop-update.invariant.count caller (omega (arith, there c, c.loop-update.invariant.callers))

pub overflow_add-count : goal.overflow_add-count
overflow_add-count c =
    let i = c.loop-update.update-index in
    let taken = take i c.args.history.now in
    omega (
      arith,
      count-now (goal.at.overflow_add-count c).After-index_mut-count,
      own_count-le (owner c.args.history.now i c.loop-update-test.true) taken,
      length-take i c.args.history.now,
    )

pub loop-update-preserved : goal.loop-update-preserved
loop-update-preserved c =
    let history = c.args.history.now in
    let i = c.loop-update.update-index in
    let inv = c.loop-update.invariant in
    let at = (goal.at.loop-update-preserved c).After-index_mut-count in
    let n = c.index_mut-count.result.now in
    record {
      callers = length-set c.loop-update.counts.items (owner history i c.loop-update-test.true) (n + 1) ∙ inv.callers;
      all = ap length c.in_ok-push.ensures.items ∙ length_push c.loop-update.turns.items n ∙ ap (λ m. m + 1) inv.all;
      turn = rw c.in_ok-push.ensures.items (turns-more history i c.loop-update-test.true c.loop-update.turns.items n inv.all inv.turn
          (count-now at));
      count = λ caller within. counts-more history i c.loop-update-test.true c.loop-update.counts.items n
          (λ k lt. inv.count k (omega (arith, lt, inv.callers))) (there at) (count-now at) caller (omega (arith, within, inv.callers));
    }

pub invariant_of-result : goal.invariant_of-result
invariant_of-result c =
    let history = c.args.history.now in
    let inv = c.loop-update.invariant in
    let end : c.loop-update.update-index ≡ length history = omega arith in
    record {
      all = inv.all ∙ end;
      turn = λ i none lt. inv.turn i none (omega arith);
      count = λ caller lt. inv.count caller (omega (arith, lt, inv.callers))
          ∙ ap (own_count caller) (take_all c.loop-update.update-index history (omega arith));
    }
