use Rattle.core_laws.proofs.Whole.{tables_begin}
use Rattle.core_laws.proofs.laws.tables_begin.Goals as goal

pub returns : goal.returns
returns c = tables_begin
