use Rattle.std.proofs.Common.{arith}
use Rattle.workload.specs.Draws.{made_script}
use Rattle.workload.proofs.MadeRuns.{HasBegun-more}
use Rattle.workload.proofs.making.add_made.Goals as goal

pub loop-preserved : goal.loop-preserved
loop-preserved c =
    let script = c.from-script.result in
    HasBegun-more c.args.made.now c.loop.made script c.loop.state c.loop.counter c.args.ops
    (made_script c.args.number c.args.ops script) c.loop.invariant
    c.add_op.new.self c.make_op-op.result.0 c.make_op-op.result.1 c.make_op-op.ensures c.in_ok-add_op.ensures.ok (omega arith)
