use Rattle.std.proofs.Common.{ap, sym, ◌∙◌}
use Rattle.std.specs.FinMap as map
use Rattle.prcu_model.proofs.Dictionaries.{len-dictionary}
use Rattle.prcu_model.proofs.plain_map.PlainMap.len.Goals as goal

pub returns : goal.returns
returns c = c.len.ensures.len ∙ sym (len-dictionary c.self.inside.pairs.entries c.self.invariant) ∙ ap map.len c.self.view_is
