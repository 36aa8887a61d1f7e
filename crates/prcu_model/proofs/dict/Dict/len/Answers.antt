use Rattle.std.proofs.Common.{ap, sym, ◌∙◌}
use Rattle.std.specs.FinMap as map
use Rattle.prcu_model.proofs.Dictionaries.{len-dictionary, is_sorted-from_ordered}
use Rattle.prcu_model.proofs.dict.Dict.len.Goals as goal

pub returns : goal.returns
returns c = c.len.ensures ∙ c.self.inside.pairs.ok.0
    ∙ sym (len-dictionary c.self.inside.pairs.items (is_sorted-from_ordered _ c.self.invariant)) ∙ ap map.len c.self.view_is
