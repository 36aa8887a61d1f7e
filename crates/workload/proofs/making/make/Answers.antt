use Rattle.std.proofs.Common.{◌+◌, ◌≤◌, [], ◌∷◌, ◌++◌, length, ap, sym, ◌∙◌, arith}
use Rattle.std.proofs.Math.Nat.{mul-le-mul_left}
use Rattle.prcu_model.specs.Scripts.{op_count}
use Rattle.workload.specs.Draws.{made_script}
use Rattle.workload.proofs.MadeRuns.{length-made_scripts, op_count-made_scripts, made_scripts-more}
use Rattle.workload.proofs.making.make.Goals as goal

pub add_made-requires-clause-few : goal.add_made-requires-clause-few
add_made-requires-clause-few c =
    let so_far = ap length c.loop.invariant ∙ length-made_scripts c.args.number c.loop.counter c.args.ops in
    omega (arith, so_far)

pub add_made-requires-clause-few_ops : goal.add_made-requires-clause-few_ops
add_made-requires-clause-few_ops c =
    let so_far = ap op_count c.loop.invariant ∙ op_count-made_scripts c.args.number c.loop.counter c.args.ops in
    let one_more : c.loop.counter + 1 ≤ c.args.scripts = omega arith in
    omega (arith, so_far, mul-le-mul_left c.args.ops one_more)

pub loop-preserved : goal.loop-preserved
loop-preserved c =
    let count = ap length c.loop.invariant ∙ length-made_scripts c.args.number c.loop.counter c.args.ops in
    c.in_ok-add_made.ensures
    ∙ (λ i. c.loop.invariant i ++ made_script c.args.number c.args.ops (count i) ∷ [])
    ∙ sym (made_scripts-more c.args.number c.loop.counter c.args.ops)
