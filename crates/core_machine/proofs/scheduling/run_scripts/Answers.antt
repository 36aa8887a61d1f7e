use Rattle.std.proofs.Common.{List, [], ◌++◌, ap, ◌∙◌}
use Rattle.prcu_model.specs.declared.operation.Update.{Update}
use Rattle.prcu_model.specs.Scripts.{entries_of}
use Rattle.core_machine.proofs.DrawnRuns.{copies_drawn, copies_explained, copies_legal, copies_within}
use Rattle.core_machine.proofs.scheduling.run_scripts.Goals as goal

pub returns-clause-explained : goal.returns-clause-explained
returns-clause-explained g c =
    copies_explained c.args.scripts.now c.args.slots c.run.new.self
    (entries_of c.in_ok-told.told.items) c.extend_from_slice.new.self.items c.in_ok-told.ensures.told
    (c.in_ok-extend_from_slice.ensures.items ∙ ap (λ (us : List Update). us ++ c.updates-updates.result.now) c.in_ok-history.ensures.items
    ∙ c.updates-updates.ensures)
    (c.run.ensures.ended c.args.scripts.now c.args.slots [] c.in_ok-machine.ensures.made c.in_ok-machine.ensures.stored)

pub returns-clause-legal : goal.returns-clause-legal
returns-clause-legal g c =
    copies_legal c.args.scripts.now c.args.slots c.run.new.self
    (entries_of c.in_ok-told.told.items) c.extend_from_slice.new.self.items c.in_ok-told.ensures.told
    (c.in_ok-extend_from_slice.ensures.items ∙ ap (λ (us : List Update). us ++ c.updates-updates.result.now) c.in_ok-history.ensures.items
    ∙ c.updates-updates.ensures)
    (c.run.ensures.ended c.args.scripts.now c.args.slots [] c.in_ok-machine.ensures.made c.in_ok-machine.ensures.stored)

pub returns-clause-within : goal.returns-clause-within
returns-clause-within g c =
    copies_within c.args.scripts.now c.args.slots c.run.new.self
    (entries_of c.in_ok-told.told.items) c.extend_from_slice.new.self.items c.in_ok-told.ensures.told
    (c.in_ok-extend_from_slice.ensures.items ∙ ap (λ (us : List Update). us ++ c.updates-updates.result.now) c.in_ok-history.ensures.items
    ∙ c.updates-updates.ensures)
    (c.run.ensures.ended c.args.scripts.now c.args.slots [] c.in_ok-machine.ensures.made c.in_ok-machine.ensures.stored)

pub returns-clause-drawn : goal.returns-clause-drawn
returns-clause-drawn g c =
    copies_drawn c.args.scripts.now c.args.slots c.run.new.self
    (entries_of c.in_ok-told.told.items) c.extend_from_slice.new.self.items c.in_ok-told.ensures.told
    (c.in_ok-extend_from_slice.ensures.items ∙ ap (λ (us : List Update). us ++ c.updates-updates.result.now) c.in_ok-history.ensures.items
    ∙ c.updates-updates.ensures)
    c.args.number (c.run.ensures.ran c.args.scripts.now c.args.slots [] c.in_ok-machine.ensures.made c.in_ok-machine.ensures.stored)
