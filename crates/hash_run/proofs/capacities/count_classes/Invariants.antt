use Rattle.std.proofs.Common.{◌≡◌, ◌+◌, length, sum, drop}
use Rattle.std.specs.FinMap as map
use Rattle.hash_run.specs.Capacities.{class_counts}
use Rattle.hash_run.proofs.capacities.count_classes.Given as goal

-- the counts so far and those of the keys that are left are those of all keys
abbrev pub invariant-loop-i : goal.invariant-loop-i
invariant-loop-i l = record {
  counted : class_counts l.counts (drop l.i (map.entries l.keys)) ≡ class_counts l.fn.counts (map.entries l.keys);
  classes : length l.counts ≡ 64;
  so_many : sum l.counts ≡ sum l.fn.counts + l.i;
}
