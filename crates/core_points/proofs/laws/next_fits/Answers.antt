use Rattle.core_points.proofs.AllPoints.{next_fits}
use Rattle.core_points.proofs.laws.next_fits.Goals as goal

pub returns : goal.returns
returns c = next_fits
