use Rattle.std.proofs.Common.{sum_by, ap, ◌∙◌, arith}
use Rattle.std.specs.FinMap as map
use Rattle.std.proofs.lemmas.List.{take_all}
use Rattle.std.proofs.lemmas.List.Sums.{sum_by_more, sum_by_more_le}
use Rattle.std.proofs.lemmas.Option.{get_or_from_slice_get, slice_get_within}
use Rattle.workload.proofs.summing.sums_of.Goals as goal

pub overflow_add-keys : goal.overflow_add-keys
overflow_add-keys c =
    let pairs = map.entries c.args.dict.now in
    let i = c.loop-i.i in
    let pair = c.pair-key.result in
    let here = ap (λ p. p.0) (get_or_from_slice_get pairs i pair pair c.pair-key.ensures) in
    let most = sum_by_more_le (λ p. p.0) pairs i pair (slice_get_within pairs i pair c.pair-key.ensures) in
    omega (arith, here, most, c.loop-i.invariant.keys, c.requires.keys)

pub overflow_add-values : goal.overflow_add-values
overflow_add-values c =
    let pairs = map.entries c.args.dict.now in
    let i = c.loop-i.i in
    let pair = c.pair-key.result in
    let here = ap (λ p. p.1) (get_or_from_slice_get pairs i pair pair c.pair-key.ensures) in
    let most = sum_by_more_le (λ p. p.1) pairs i pair (slice_get_within pairs i pair c.pair-key.ensures) in
    omega (arith, here, most, c.loop-i.invariant.values, c.requires.values)

pub loop-i-preserved : goal.loop-i-preserved
loop-i-preserved c =
    let pairs = map.entries c.args.dict.now in
    let i = c.loop-i.i in
    let pair = c.pair-key.result in
    let below = slice_get_within pairs i pair c.pair-key.ensures in
    let key = ap (λ p. p.0) (get_or_from_slice_get pairs i pair pair c.pair-key.ensures) in
    let value = ap (λ p. p.1) (get_or_from_slice_get pairs i pair pair c.pair-key.ensures) in
    let more_keys = sum_by_more (λ p. p.0) pairs i pair below in
    let more_values = sum_by_more (λ p. p.1) pairs i pair below in
    record {
      keys = omega (arith, key, more_keys, c.loop-i.invariant.keys);
      values = omega (arith, value, more_values, c.loop-i.invariant.values);
    }

pub returns-clause-keys : goal.returns-clause-keys
returns-clause-keys c =
    let pairs = map.entries c.args.dict.now in
    let count = map.len-entries c.args.dict.now in
    c.loop-i.invariant.keys ∙ ap (sum_by (λ p. p.0)) (take_all c.loop-i.i pairs (omega (arith, count)))

pub returns-clause-values : goal.returns-clause-values
returns-clause-values c =
    let pairs = map.entries c.args.dict.now in
    let count = map.len-entries c.args.dict.now in
    c.loop-i.invariant.values ∙ ap (sum_by (λ p. p.1)) (take_all c.loop-i.i pairs (omega (arith, count)))
