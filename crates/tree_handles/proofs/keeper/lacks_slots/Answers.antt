use Rattle.std.proofs.Common.{rules}
use Rattle.tree_handles.proofs.Keepers.{not_lacking}
use Rattle.tree_handles.proofs.keeper.lacks_slots.Goals as goal

pub returns-then-is_none-clause-fails : goal.returns-then-is_none-clause-fails
returns-then-is_none-clause-fails g c some =
    not_lacking c.args.seat.now c.free_seen.result c.free_seen.ensures some (search rules)
