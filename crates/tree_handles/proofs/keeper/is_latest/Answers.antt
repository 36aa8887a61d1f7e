use Rattle.tree_handles.proofs.Keepers.{none_latest}
use Rattle.tree_handles.proofs.keeper.is_latest.Goals as goal

pub returns-in_default-clause-fails : goal.returns-in_default-clause-fails
returns-in_default-clause-fails g c = λ _. none_latest c.args.cookie.now c.args.seat.now.view c.in_default.is
