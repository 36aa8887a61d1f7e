use Rattle.std.proofs.Common.{rules}
use Rattle.tree_handles.proofs.Keepers.{not_enough}
use Rattle.tree_handles.proofs.keeper.are_enough.Goals as goal

pub returns-then-kept-ge1-clause-fails : goal.returns-then-kept-ge1-clause-fails
returns-then-kept-ge1-clause-fails g c some =
    not_enough c.args.seat.now c.free_seen.result c.free_seen.ensures some (search rules)
