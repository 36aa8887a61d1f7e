use Rattle.std.proofs.Common.{ap, sym, ◌∙◌}
use Rattle.std.specs.FinMap as map
use Rattle.prcu_model.proofs.Dictionaries.{get-dictionary}
use Rattle.prcu_model.proofs.plain_map.PlainMap.get.Goals as goal

pub returns : goal.returns
returns c =
    c.copied.ensures ∙ c.get.ensures.value ∙ sym (get-dictionary c.self.inside.pairs.entries c.self.invariant c.args.key)
    ∙ ap (λ m. map.get m c.args.key) c.self.view_is
