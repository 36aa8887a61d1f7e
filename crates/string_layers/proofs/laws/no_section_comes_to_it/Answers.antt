use Rattle.string_layers.proofs.Promises.{no_section_comes_to_it}
use Rattle.string_layers.proofs.laws.no_section_comes_to_it.Goals as goal

pub returns : goal.returns
returns c = no_section_comes_to_it
