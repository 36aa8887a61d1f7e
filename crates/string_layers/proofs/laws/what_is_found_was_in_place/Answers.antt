use Rattle.string_layers.proofs.Promises.{what_is_found_was_in_place}
use Rattle.string_layers.proofs.laws.what_is_found_was_in_place.Goals as goal

pub returns : goal.returns
returns c = what_is_found_was_in_place
