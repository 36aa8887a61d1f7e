use Rattle.std.proofs.Common.{◌≡◌, ◌++◌, sym, ap, ◌∙◌}
use Rattle.std.specs.FinMap as map
use Rattle.std.proofs.lemmas.List.{append-nil}
use Rattle.prcu_model.proofs.Dictionaries.{entries-dictionary}
use Rattle.prcu_model.proofs.plain_map.PlainMap.pairs.Goals as goal

pub returns : goal.returns
returns c =
    let es = c.self.inside.pairs.entries in
    let all : c.loop-key.pairs.items ≡ es = sym (append-nil _) ∙ ap (λ left. c.loop-key.pairs.items ++ left) (sym c.in-None.ensures.steps.0)
    ∙ c.loop-key.invariant ∙ c.into_iter-key-iterator.ensures.into_iter_gives.0 in
    record {
      pairs = all ∙ sym (entries-dictionary es c.self.invariant) ∙ ap map.entries c.self.view_is;
      ordered = rw all c.len.ensures.ordered;
    }
