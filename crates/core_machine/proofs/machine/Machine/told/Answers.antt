use Rattle.std.proofs.Common.{◌≤◌, List, length, vec_capacity, sym, subst, ◌∙◌}
use Rattle.prcu_model.specs.declared.operation.Told.{Told}
use Rattle.core_machine.proofs.Owning.{shown_few, shown_told}
use Rattle.core_machine.proofs.machine.Machine.told.Goals as goal

pub returns-clause-few : goal.returns-clause-few
returns-clause-few c =
    subst (λ (told : List Told). length told ≤ 1048576) (sym c.entries.ensures)
    (shown_few c.self.inside.words.items c.self.inside.callers.items c.self.inside.updates.items c.args.self.now c.args.caller
    c.index.result.now c.self.view_is c.requires c.index.ensures (vec_capacity c.self.inside.updates) c.self.invariant)

pub returns-clause-told : goal.returns-clause-told
returns-clause-told c own there =
    c.entries.ensures
    ∙ shown_told c.self.inside.words.items c.self.inside.callers.items c.self.inside.updates.items c.args.self.now c.args.caller
    c.index.result.now c.self.view_is c.requires c.index.ensures own there
