use Rattle.core_points.proofs.Notes.{begins}
use Rattle.core_points.proofs.laws.calls_begin.Goals as goal

pub returns : goal.returns
returns c = λ o v ops free fit paid. begins o v free ops fit paid
