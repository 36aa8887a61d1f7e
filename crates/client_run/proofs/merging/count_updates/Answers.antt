use Rattle.std.proofs.Common.{List, length, ap, arith}
use Rattle.std.specs.List.{count_by}
use Rattle.prcu_model.specs.declared.operation.Told.{Told}
use Rattle.prcu_model.specs.Dictionary.{tells_update}
use Rattle.prcu_model.specs.Scripts.{entries_of}
use Rattle.client_run.proofs.Histories.{all_left-end, length-all_left-le, counted_turn}
use Rattle.client_run.proofs.merging.count_updates.Goals as goal
use Rattle.prcu_model.proofs.ListFacts.{same_count}

pub overflow_add-count : goal.overflow_add-count
overflow_add-count c =
    let one = counted_turn c.args.scripts.now c.args.told.now c.loop-list.list-index c.list-item.result c.loop-list-test.true c.list-item.is
    c.requires c.loop-list.invariant.lengths in
    let all = length-all_left-le 0 c.args.scripts.now (entries_of c.args.told.now) in
    let counted = c.count_in-count.ensures in
    let read = ap (λ (tolds : List Told). count_by (λ answer. tells_update answer.reply) tolds) c.entries.ensures in
    omega arith

pub loop-list-preserved : goal.loop-list-preserved
loop-list-preserved c =
    let one = counted_turn c.args.scripts.now c.args.told.now c.loop-list.list-index c.list-item.result c.loop-list-test.true c.list-item.is
    c.requires c.loop-list.invariant.lengths in
    record {
      lengths = one.0;
      counted = let read = ap (λ (tolds : List Told). count_by (λ answer. tells_update answer.reply) tolds) c.entries.ensures in
          omega arith;
    }

pub returns : goal.returns
returns c =
    let none = ap length (all_left-end c.args.scripts.now c.args.told.now c.loop-list.list-index
    (omega (arith, same_count c.args.scripts.now c.args.told.now c.requires))) in
    omega arith
