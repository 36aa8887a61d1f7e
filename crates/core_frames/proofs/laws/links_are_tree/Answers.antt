use Rattle.core_frames.proofs.PlainLaws.{links_are_tree}
use Rattle.core_frames.proofs.laws.links_are_tree.Goals as goal

pub returns : goal.returns
returns c = links_are_tree
