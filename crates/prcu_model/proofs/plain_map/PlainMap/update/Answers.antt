use Rattle.std.proofs.Common.{true, false, sym, ap, ◌∙◌}
use Rattle.std.specs.FinMap as map
use Rattle.prcu_model.specs.Dictionary.{updated}
use Rattle.prcu_model.proofs.Dictionaries.{contains_key-seen, is_sorted-from_ordered, dictionary-inserted, dictionary-removed, updated-put_absent, updated-put_present, updated-set_absent, updated-set_present}
use Rattle.prcu_model.proofs.plain_map.PlainMap.update.Goals as goal

pub invariant_of-self : goal.invariant_of-self
invariant_of-self c = is_sorted-from_ordered _ c.insert.ensures.ordered

pub invariant_of-self-in-Del : goal.invariant_of-self-in-Del
invariant_of-self-in-Del c = is_sorted-from_ordered _ c.remove.ensures.ordered

pub invariant_of-self-in_ok-insert-in-Set : goal.invariant_of-self-in_ok-insert-in-Set
invariant_of-self-in_ok-insert-in-Set c = is_sorted-from_ordered _ c.insert-then-contains_key.ensures.ordered

pub returns-in_ok-insert-in-Put-clause-ok : goal.returns-in_ok-insert-in-Put-clause-ok
returns-in_ok-insert-in-Put-clause-ok c =
    let es = c.self.inside.pairs.entries in
    let absent = contains_key-seen es c.args.self.now c.in-Put.key c.self.invariant c.self.view_is false c.if-not-contains_key.ensures in
    dictionary-inserted es c.insert.new.self.entries c.self.invariant
    (is_sorted-from_ordered _ c.insert.ensures.ordered) c.in-Put.key c.in-Put.value c.in_ok-insert-in-Put.ensures.updates.0
    ∙ ap (λ m. map.insert m c.in-Put.key c.in-Put.value) c.self.view_is
    ∙ sym (ap (updated c.args.self.now) c.in-Put.is ∙ updated-put_absent c.args.self.now c.in-Put.key c.in-Put.value absent)

pub returns-else-not-contains_key-clause-ok : goal.returns-else-not-contains_key-clause-ok
returns-else-not-contains_key-clause-ok c =
    let present =
    contains_key-seen c.self.inside.pairs.entries c.args.self.now c.in-Put.key c.self.invariant c.self.view_is true
    c.if-not-contains_key.ensures in
    sym (ap (updated c.args.self.now) c.in-Put.is ∙ updated-put_present c.args.self.now c.in-Put.key c.in-Put.value present)

pub returns-in-Del-clause-ok : goal.returns-in-Del-clause-ok
returns-in-Del-clause-ok c =
    dictionary-removed c.self.inside.pairs.entries c.remove.new.self.entries c.self.invariant
    (is_sorted-from_ordered _ c.remove.ensures.ordered) c.in-Del.key c.remove.ensures.updates.0
    ∙ ap (λ m. map.remove m c.in-Del.key) c.self.view_is ∙ sym (ap (updated c.args.self.now) c.in-Del.is)

pub returns-in_ok-insert-in-Set-clause-ok : goal.returns-in_ok-insert-in-Set-clause-ok
returns-in_ok-insert-in-Set-clause-ok c =
    let es = c.self.inside.pairs.entries in
    let present = contains_key-seen es c.args.self.now c.in-Set.key c.self.invariant c.self.view_is true c.if-contains_key.ensures in
    dictionary-inserted es c.insert-then-contains_key.new.self.entries c.self.invariant
    (is_sorted-from_ordered _ c.insert-then-contains_key.ensures.ordered) c.in-Set.key c.in-Set.value
    c.in_ok-insert-in-Set.ensures.updates.0
    ∙ ap (λ m. map.insert m c.in-Set.key c.in-Set.value) c.self.view_is
    ∙ sym (ap (updated c.args.self.now) c.in-Set.is ∙ updated-set_present c.args.self.now c.in-Set.key c.in-Set.value present)

pub returns-else-contains_key-clause-ok : goal.returns-else-contains_key-clause-ok
returns-else-contains_key-clause-ok c =
    let absent = contains_key-seen c.self.inside.pairs.entries c.args.self.now c.in-Set.key c.self.invariant c.self.view_is false
    c.if-contains_key.ensures in
    sym (ap (updated c.args.self.now) c.in-Set.is ∙ updated-set_absent c.args.self.now c.in-Set.key c.in-Set.value absent)
