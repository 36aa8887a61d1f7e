use Rattle.citrus_tool.proofs.Leavings.{drawn_texts_are_one}
use Rattle.citrus_tool.proofs.laws.drawn_texts_are_one.Goals as goal

pub returns : goal.returns
returns c = drawn_texts_are_one
