use Rattle.std.proofs.Common.{◌≡◌, take, sum_by}
use Rattle.std.specs.FinMap as map
use Rattle.workload.proofs.summing.sums_of.Given as goal

-- the sums of the pairs so far
abbrev pub invariant-loop-i : goal.invariant-loop-i
invariant-loop-i l = record {
  keys : l.keys ≡ sum_by (λ pair. pair.0) (take l.i (map.entries l.dict));
  values : l.values ≡ sum_by (λ pair. pair.1) (take l.i (map.entries l.dict));
}
