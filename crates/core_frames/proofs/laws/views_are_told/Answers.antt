use Rattle.core_frames.proofs.Telling.{told_of}
use Rattle.core_frames.proofs.laws.views_are_told.Goals as goal

pub returns : goal.returns
returns c = told_of
