use Rattle.core_laws.proofs.Whole.{places_begin}
use Rattle.core_laws.proofs.laws.places_begin.Goals as goal

pub returns : goal.returns
returns c = places_begin
