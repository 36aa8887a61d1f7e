use Rattle.std.proofs.Common.{arith}
use Rattle.std.proofs.lemmas.Bool.{leb-false}
use Rattle.tree_handles.proofs.keeper.may_stay.Goals as goal

pub returns-then-retired-min-clause-fails : goal.returns-then-retired-min-clause-fails
returns-then-retired-min-clause-fails g c few stay =
    let less = leb-false 48 c.free_seen.result few in let least = stay.free c.free_seen.result c.free_seen.ensures in omega (arith, less, least)
