use Rattle.std.proofs.Common.{◌≡◌, ◌++◌, drop}
use Rattle.hash_run.specs.Capacities.{all_puts}
use Rattle.hash_run.proofs.capacities.puts_of_scripts.Given as goal

-- the puts so far and those of the scripts that are left are all
abbrev pub invariant-loop-i : goal.invariant-loop-i
invariant-loop-i l = l.puts.items ++ all_puts (drop l.i l.scripts) ≡ all_puts l.scripts
