use Rattle.std.proofs.Common.{◌+◌, ◌%◌, ◌≤◌, length, get_or, sym, ap, ◌∙◌, arith, length-set}
use Rattle.std.specs.FinMap as map
use Rattle.std.proofs.lemmas.List.{drop_all}
use Rattle.prcu_model.proofs.ListFacts.{drop-there}
use Rattle.hash_run.specs.Capacities.{class_counts}
use Rattle.hash_run.proofs.Roomy.{sum-more}
use Rattle.hash_run.proofs.capacities.count_classes.Goals as goal

pub loop-i-preserved : goal.loop-i-preserved
loop-i-preserved c =
    let k = c.pair-key.result.0 % 64 in
    let es = map.entries c.args.keys.now in
    let inv = c.loop-i.invariant in
    record {
      counted = ap (class_counts c.loop-i.counts) (sym (drop-there es c.loop-i.i c.pair-key.result c.pair-key.ensures)) ∙ inv.counted;
      classes = length-set c.loop-i.counts k (get_or c.loop-i.counts k 0 + 1) ∙ inv.classes;
      so_many = (let more = sum-more c.loop-i.counts k (let long = inv.classes in omega arith) in let so_far = inv.so_many in omega arith);
    }

pub returns : goal.returns
returns c =
    let es = map.entries c.args.keys.now in
    let past : length es ≤ c.loop-i.i = (let all = map.len-entries c.args.keys.now in omega arith) in
    ap (class_counts c.loop-i.counts) (sym (drop_all c.loop-i.i es past)) ∙ c.loop-i.invariant.counted
