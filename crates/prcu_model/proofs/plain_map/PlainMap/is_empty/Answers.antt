use Rattle.std.proofs.Common.{ap, sym, ◌∙◌, ◌≡◌, ◌↔◌, IsTrue, subst}
use Rattle.std.specs.FinMap as map
use Rattle.std.specs.BTreeMap.{btree_map_len}
use Rattle.prcu_model.proofs.Dictionaries.{len-dictionary}
use Rattle.prcu_model.proofs.plain_map.PlainMap.is_empty.Goals as goal

pub returns : goal.returns
returns c =
    let same : btree_map_len c.self.inside.pairs ≡ map.len c.args.self.now =
    sym (len-dictionary c.self.inside.pairs.entries c.self.invariant) ∙ ap map.len c.self.view_is in
    subst (λ n. IsTrue c.is_empty.result ↔ (n ≡ 0)) same c.is_empty.ensures
