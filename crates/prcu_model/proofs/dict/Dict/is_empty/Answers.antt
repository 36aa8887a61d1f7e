use Rattle.std.proofs.Common.{◌≡◌, ap, sym, ◌∙◌, vec_len, arith}
use Rattle.std.specs.FinMap as map
use Rattle.std.proofs.lemmas.Bool.Decides.{nat_tests}
use Rattle.prcu_model.proofs.Dictionaries.{len-dictionary, is_sorted-from_ordered}
use Rattle.prcu_model.proofs.dict.Dict.is_empty.Goals as goal

pub returns : goal.returns
returns c =
    let same : vec_len c.self.inside.pairs ≡ map.len c.args.self.now =
    c.self.inside.pairs.ok.0 ∙ sym (len-dictionary c.self.inside.pairs.items (is_sorted-from_ordered _ c.self.invariant))
    ∙ ap map.len c.self.view_is in
    grind (arith, nat_tests)
