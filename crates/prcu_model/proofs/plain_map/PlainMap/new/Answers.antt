use Rattle.std.proofs.Common.{ap, ◌∙◌}
use Rattle.prcu_model.proofs.Dictionaries.{dictionary, empty-dictionary}
use Rattle.prcu_model.proofs.plain_map.PlainMap.new.Goals as goal

pub returns : goal.returns
returns c = ap dictionary c.new.ensures.empty ∙ empty-dictionary
