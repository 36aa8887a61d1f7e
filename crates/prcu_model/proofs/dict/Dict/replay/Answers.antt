use Rattle.std.proofs.Common.{ap, ◌∙◌, sym, get_or, arith}
use Rattle.std.specs.FinMap as map
use Rattle.std.proofs.lemmas.List.{take_all}
use Rattle.prcu_model.specs.declared.operation.Op.TheVariants.{Put}
use Rattle.prcu_model.specs.declared.operation.Update.{Update}
use Rattle.prcu_model.specs.Dictionary.{updated, map_of}
use Rattle.prcu_model.proofs.Dictionaries.{map_at-next, from_sorted-entries}
use Rattle.prcu_model.proofs.dict.Dict.replay.Goals as goal

pub loop-update-preserved : goal.loop-update-preserved
loop-update-preserved c =
    let none : Update = record { caller = 0; op = Put 0 0 } in
    let at = c.loop-update.update-index in
    c.in_ok-update.ensures.ok ∙ ap (λ m. updated m (get_or c.args.updates.now at none).op) c.loop-update.invariant
    ∙ sym (map_at-next c.args.updates.now at none c.loop-update-test.true)

pub returns : goal.returns
returns c =
    ap map.from_sorted c.in_ok-pairs.ensures.pairs ∙ from_sorted-entries c.loop-update.map ∙ c.loop-update.invariant
    ∙ ap map_of (take_all c.loop-update.update-index c.args.updates.now (omega arith))
