use Rattle.std.proofs.Common.{◌≡◌, ◌++◌, drop}
use Rattle.hash_run.specs.Capacities.{puts_of}
use Rattle.hash_run.proofs.capacities.push_puts.Given as goal

-- what was pushed and the puts that are left are all
abbrev pub invariant-loop-op : goal.invariant-loop-op
invariant-loop-op l = l.puts.items ++ puts_of (drop l.op-index l.script) ≡ l.fn.puts.items ++ puts_of l.script
