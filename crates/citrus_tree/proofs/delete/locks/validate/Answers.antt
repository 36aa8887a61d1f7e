use Rattle.std.proofs.Common.{refl, sym, ◌∙◌}
use Rattle.citrus_tree.proofs.DeleteSearches.{small_lives}
use Rattle.citrus_tree.proofs.delete.locks.validate.Goals as goal

pub returns-clause-node : goal.returns-clause-node
returns-clause-node g c = (
  refl,
  small_lives c.args.target.now c.load_found-found.result (sym c.holds.ensures ∙ c.if-not-holds.false)
      (c.load_found-found.ensures.fits).0 (c.load_found-found.ensures.fits).1,
)
