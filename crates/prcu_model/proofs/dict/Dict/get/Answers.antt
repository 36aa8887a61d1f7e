use Rattle.std.proofs.Common.{ap, sym, ◌∙◌, rules}
use Rattle.std.specs.FinMap as map
use Rattle.std.proofs.lemmas.List.Sorted.{answers_always}
use Rattle.prcu_model.proofs.Dictionaries.{get-dictionary, is_sorted-from_ordered, comparisons_rise, lookup_found, lookup_missing}
use Rattle.prcu_model.proofs.dict.Dict.get.Goals as goal

pub returns-in-Ok : goal.returns-in-Ok
returns-in-Ok c =
    let es = c.self.inside.pairs.items in
    let by_key = c.in-Ok.ensures.position (λ pair. pair.0) (answers_always _ _ _ (λ f a r g called. search rules)) in
    let found = rw c.deref.ensures.value at by_key in
    sym (get-dictionary es (is_sorted-from_ordered es c.self.invariant) c.args.key
    ∙ lookup_found es c.self.invariant c.args.key c.in-Ok.i c.index.result.now (rw c.deref.ensures.value at c.in-Ok.ensures.bound)
    (found (0, 0)) c.index.ensures)
    ∙ ap (λ m. map.get m c.args.key) c.self.view_is

pub returns-in-Err : goal.returns-in-Err
returns-in-Err c =
    let es = c.self.inside.pairs.items in
    let by_key = c.in-Err.ensures.position (λ pair. pair.0) (answers_always _ _ _ (λ f a r g called. search rules)) in
    let parted = rw c.deref.ensures.value at by_key in
    sym (get-dictionary es (is_sorted-from_ordered es c.self.invariant) c.args.key
    ∙ lookup_missing es c.self.invariant c.args.key c.in-Err.field-0 (parted (comparisons_rise es c.self.invariant c.args.key))
    (rw c.deref.ensures.value at c.in-Err.ensures.bound))
    ∙ ap (λ m. map.get m c.args.key) c.self.view_is
