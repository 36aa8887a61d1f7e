use Rattle.std.proofs.Common.{◌++◌, ap, ◌∙◌}
use Rattle.core_machine.specs.Laws.{shape_for}
use Rattle.core_machine.proofs.Making.{fresh_begins}
use Rattle.core_machine.proofs.caller.Caller.new.Goals as goal

pub returns-clause-own : goal.returns-clause-own
returns-clause-own c =
    c.take_up.ensures.own
    ∙ fresh_begins
    (shape_for c.args.slots c.args.places) c.args.place c.in_ok-new.field-0.entries c.new-2.result.items c.new-3.result.items
    c.first_scan.result _ c.args.script.now
    c.in_ok-new.ensures.empty c.new-2.ensures c.new-3.ensures c.first_scan.ensures
    (c.in_ok-extend_from_slice.ensures.items ∙ ap (λ xs. xs ++ c.args.script.now) c.in_ok-own.ensures.items)
