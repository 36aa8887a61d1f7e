use Rattle.std.proofs.Common.{◌∙◌, ◌++◌, ◌+◌, drop, ap}
use Rattle.hash_run.specs.Capacities.{all_puts}
use Rattle.hash_run.proofs.Roomy.{scripts_turn}
use Rattle.hash_run.proofs.capacities.puts_of_scripts.Goals as goal

pub loop-i-preserved : goal.loop-i-preserved
loop-i-preserved c =
    ap (λ z. z ++ all_puts (drop (c.loop-i.i + 1) c.args.scripts.now)) (c.in_ok-push_puts.ensures {u = tt})
    ∙ scripts_turn c.loop-i.puts.items c.args.scripts.now c.loop-i.i c.script.result.now c.script.ensures.script c.loop-i.invariant
