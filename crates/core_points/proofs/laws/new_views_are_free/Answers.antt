use Rattle.core_points.proofs.Notes.{new_views_are_free}
use Rattle.core_points.proofs.laws.new_views_are_free.Goals as goal

pub returns : goal.returns
returns c = new_views_are_free
