use Rattle.std.proofs.Common.{◌≡◌, replicate, sum, subst, sym, ap, refl, ◌∙◌, arith}
use Rattle.std.specs.FinMap as map
use Rattle.std.proofs.lemmas.List.{get_or-replicate}
use Rattle.prcu_model.specs.Dictionary.{Dictionary, map_of}
use Rattle.hash_run.specs.Capacities.{all_puts, class_counts, AreCapacities}
use Rattle.hash_run.proofs.Roomy.{few_keys, sum-class_counts, counted}
use Rattle.hash_run.proofs.capacities.capacities_for.Goals as goal

pub count_classes-requires-clause-few : goal.count_classes-requires-clause-few
count_classes-requires-clause-few c =
    let keys : c.in_ok-keys.keys ≡ map_of (all_puts c.args.scripts.now) =
    c.in_ok-keys.ensures ∙ ap map_of (c.deref.ensures.value ∙ c.in_ok-puts.ensures) in
    let few = few_keys c.args.scripts.now in
    let limit = c.ops.ensures.limit in
    let many = c.ops.ensures.count in
    let same = ap map.len keys in
    omega arith

pub returns-clause-capacities : goal.returns-clause-capacities
returns-clause-capacities c =
    let keys : c.in_ok-keys.keys ≡ map_of (all_puts c.args.scripts.now) =
    c.in_ok-keys.ensures ∙ ap map_of (c.deref.ensures.value ∙ c.in_ok-puts.ensures) in
    let e = c.count_classes.ensures in
    subst (AreCapacities c.args.scripts.now) (sym
    (c.count_classes.ensures ∙ ap (λ (d : Dictionary). class_counts (replicate 64 0) (map.entries d)) keys))
    (counted c.args.scripts.now (replicate 64 0) refl (λ k below. get_or-replicate 64 k 0 0 below))

pub returns-clause-few : goal.returns-clause-few
returns-clause-few c =
    let keys : c.in_ok-keys.keys ≡ map_of (all_puts c.args.scripts.now) =
    c.in_ok-keys.ensures ∙ ap map_of (c.deref.ensures.value ∙ c.in_ok-puts.ensures) in
    let few = few_keys c.args.scripts.now in
    let limit = c.ops.ensures.limit in
    let many = c.ops.ensures.count in
    let same = ap map.len keys in
    let all = map.len-entries c.in_ok-keys.keys in
    let total = sum-class_counts (replicate 64 0) (map.entries c.in_ok-keys.keys) refl in
    let is = ap sum c.count_classes.ensures in
    omega arith
