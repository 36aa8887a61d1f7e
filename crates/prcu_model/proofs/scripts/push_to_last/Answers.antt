use Rattle.std.proofs.Common.{arith}
use Rattle.std.proofs.lemmas.Result.{err_from_is_err_and}
use Rattle.prcu_model.proofs.ListFacts.{items_of-set, items_of-set_same}
use Rattle.prcu_model.proofs.scripts.push_to_last.Goals as goal

pub returns-in_err-push-clause-err : goal.returns-in_err-push-clause-err
returns-in_err-push-clause-err c =
    let p = err_from_is_err_and c.from_residual.result c.from_residual.ensures.1 in
    rw p.1 (items_of-set_same c.args.lists.now.items _ c.push.new.self c.index_mut.result.now
    (omega (arith, c.args.lists.now.ok.0)) c.index_mut.ensures.value c.in_err-push.ensures.items)

pub returns-clause-ok : goal.returns-clause-ok
returns-clause-ok c =
    items_of-set c.args.lists.now.items _ c.push.new.self c.index_mut.result.now c.args.op
    (omega (arith, c.args.lists.now.ok.0)) c.index_mut.ensures.value c.in_ok-push.ensures.items
