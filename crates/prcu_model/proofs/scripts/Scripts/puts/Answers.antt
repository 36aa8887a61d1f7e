use Rattle.std.proofs.Common.{arith}
use Rattle.prcu_model.specs.Held.{op_lists}
use Rattle.prcu_model.proofs.ListFacts.{put_count-le-op_count}
use Rattle.prcu_model.proofs.scripts.Scripts.puts.Goals as goal

pub returns-clause-limit : goal.returns-clause-limit
returns-clause-limit c = omega (arith, put_count-le-op_count (op_lists c.self.inside))
