use Rattle.std.proofs.Common.{◌^◌, ◌<◌, ◌≤◌, length, sym, ap, subst, ◌∙◌, arith}
use Rattle.std.specs.FinMap as map
use Rattle.prcu_model.specs.Scripts.{entries_of, op_count}
use Rattle.workload.specs.Summaries.{key_sum, value_sum}
use Rattle.workload.proofs.MadeRuns.{entry_count, summary-is-plain, key_sum-fits, value_sum-fits}
use Rattle.workload.proofs.summing.summary_of.Goals as goal

pub count_replies-counts-requires : goal.count_replies-counts-requires
count_replies-counts-requires c =
    let count = entry_count c.args.scripts.now (entries_of c.args.told.now) c.requires.explainable.lengths in
    omega (arith, count, c.ops.ensures.count, c.ops.ensures.limit)

pub sums_of-keys-requires-clause-keys : goal.sums_of-keys-requires-clause-keys
sums_of-keys-requires-clause-keys c =
    let few : length c.args.scripts.now ≤ 64 = omega (arith, c.count.ensures.count, c.count.ensures.limit) in
    let short : op_count c.args.scripts.now ≤ 1048576 = omega (arith, c.ops.ensures.count, c.ops.ensures.limit) in
    let fits = key_sum-fits c.args.scripts.now
    (entries_of c.args.told.now) c.args.history.now c.requires.made few c.requires.legal c.requires.explainable short in
    subst (λ m. key_sum m < 2 ^ 64) (sym c.in_ok-dict.ensures) fits

pub sums_of-keys-requires-clause-values : goal.sums_of-keys-requires-clause-values
sums_of-keys-requires-clause-values c =
    let few : length c.args.scripts.now ≤ 64 = omega (arith, c.count.ensures.count, c.count.ensures.limit) in
    let short : op_count c.args.scripts.now ≤ 1048576 = omega (arith, c.ops.ensures.count, c.ops.ensures.limit) in
    let fits = value_sum-fits c.args.scripts.now
    (entries_of c.args.told.now) c.args.history.now c.requires.made few c.requires.legal c.requires.explainable short in
    subst (λ m. value_sum m < 2 ^ 64) (sym c.in_ok-dict.ensures) fits

pub returns-clause-plain : goal.returns-clause-plain
returns-clause-plain c =
    let few : length c.args.scripts.now ≤ 64 = omega (arith, c.count.ensures.count, c.count.ensures.limit) in
    let counts = c.count_replies-counts.ensures in
    let dict = c.in_ok-dict.ensures in
    (λ i. record {
      scripts = (c.from-script_count.ensures ∙ c.count.ensures.count) i;
      ops = (c.from-op_count.ensures ∙ c.ops.ensures.count) i;
      new = (counts i).added;
      old = (counts i).present;
      val = (counts i).valued;
      none = (counts i).absent;
      gone = (counts i).removed;
      size = (c.len.ensures ∙ ap map.len dict) i;
      keys = (c.sums_of-keys.ensures.keys ∙ ap key_sum dict) i;
      values = (c.sums_of-keys.ensures.values ∙ ap value_sum dict) i;
    })
    ∙ summary-is-plain c.args.scripts.now
    (entries_of c.args.told.now) c.args.history.now c.requires.made few c.requires.legal c.requires.explainable
