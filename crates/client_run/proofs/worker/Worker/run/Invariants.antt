use Rattle.client_run.proofs.Crews.{HasMade}
use Rattle.client_run.proofs.worker.Worker.run.Given as goal

abbrev pub invariant-loop-op : goal.invariant-loop-op
invariant-loop-op g l = HasMade g.C.Client.left g.C.Client.made l.fn.self.client l.script l.op-index l.self-inside.client l.self-inside.told
