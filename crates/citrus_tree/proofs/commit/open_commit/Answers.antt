use Rattle.std.proofs.Common.{◌≡◌}
use Rattle.std.proofs.lemmas.Result.{IfErr-at_err}
use Rattle.citrus_tree.specs.declared.commit.WhenCrowded.TheVariants.{Wait, GiveWay}
use Rattle.citrus_tree.proofs.commit.open_commit.Goals as goal

-- it doesn't give way
pub unreachable-requires : goal.unreachable-requires
unreachable-requires g c = (let e : Wait ≡ GiveWay = IfErr-at_err _ c.in-Err.is c.in_ok-front.ensures.asked in cc)
