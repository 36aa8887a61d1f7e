use Rattle.std.proofs.Common.{arith}
use Rattle.std.proofs.lemmas.List.{get_or_default}
use Rattle.client_run.proofs.Crews.{made_none, made_more, made_all}
use Rattle.client_run.proofs.worker.Worker.run.Goals as goal

pub loop-op-init : goal.loop-op-init
loop-op-init g c = rw (← c.self.view_is) (made_none g.C.Client.left g.C.Client.made _ c.args.script.now
    (rw (← c.self.view_is) at c.requires))

pub loop-op-preserved : goal.loop-op-preserved
loop-op-preserved g c =
    made_more g.C.Client.left g.C.Client.made _ _ _ _ _ _ _ _ _ c.loop-op.invariant c.loop-op-test.true
    (get_or_default c.args.script.now c.loop-op.op-index _ _ c.loop-op-test.true) c.call-told.ensures.made c.call-told.ensures.lowered
    c.push.ensures.appended c.push.ensures.spare

pub returns : goal.returns
returns g c = record {
  chain = made_all g.C.Client.left g.C.Client.made _ _ _ _ _ c.loop-op.invariant c.loop-op-test.false;
  left = omega (arith, c.loop-op.invariant.fall);
}
