use Rattle.std.proofs.Common.{◌++◌, ◌∷◌, [], ap, ◌∙◌, arith}
use Rattle.std.proofs.lemmas.List.{map_push}
use Rattle.prcu_model.specs.declared.operation.Told.{Told}
use Rattle.prcu_model.specs.Scripts.{Roomy, entries_of}
use Rattle.core_machine.proofs.DrawnRuns.{copied_more}
use Rattle.core_machine.proofs.scheduling.tolds_of.Goals as goal

pub loop-caller-preserved : goal.loop-caller-preserved
loop-caller-preserved c =
    ap entries_of c.in_ok-push.ensures.items
    ∙ map_push (λ (list : Roomy Told). list.entries) c.loop-caller.told.items c.in_ok-list_of.field-0
    ∙ (λ j. c.loop-caller.invariant j ++ c.in_ok-list_of.ensures.entries j ∷ [])
    ∙ copied_more c.args.machine.now.owns c.loop-caller.caller c.told.result.now
    (let test = c.loop-caller-test.true in let count = c.requires.count in omega (arith, test, count)) c.told.ensures.told
