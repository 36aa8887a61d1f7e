use Rattle.std.proofs.Common.{◌≡◌, ◌<◌, length, Some, ap, sym, ◌∙◌, vec_len, arith}
use Rattle.std.specs.FinMap as map
use Rattle.std.specs.List.{slice_get}
use Rattle.std.proofs.lemmas.Option.{slice_get-get_or}
use Rattle.prcu_model.proofs.Dictionaries.{len-dictionary, entries-dictionary, is_sorted-from_ordered}
use Rattle.prcu_model.proofs.dict.Dict.pair.Goals as goal

pub index-requires : goal.index-requires
index-requires c =
    let same : vec_len c.self.inside.pairs ≡ map.len c.args.self.now =
    c.self.inside.pairs.ok.0 ∙ sym (len-dictionary c.self.inside.pairs.items (is_sorted-from_ordered _ c.self.invariant))
    ∙ ap map.len c.self.view_is in
    omega arith

pub returns : goal.returns
returns c =
    let items = c.self.inside.pairs.items in
    let sorted = is_sorted-from_ordered items c.self.invariant in
    let below : c.args.i < length items = let same : length items ≡ map.len c.args.self.now =
    sym (len-dictionary items sorted) ∙ ap map.len c.self.view_is in omega arith in
    ap (λ es. slice_get es c.args.i) (sym (ap map.entries c.self.view_is) ∙ entries-dictionary items sorted)
    ∙ slice_get-get_or items c.args.i c.index.result.now below ∙ ap Some (sym c.index.ensures)
