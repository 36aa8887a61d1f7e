use Rattle.std.proofs.Common.{◌∙◌, sym, ap}
use Rattle.core_machine.proofs.Owning.{can_here, ended_here, moved_here, room_here}
use Rattle.core_machine.specs.Machines.{stepped_of}
use Rattle.core_machine.proofs.machine.step_at.Goals as goal

pub returns-then-is_finished-clause-stepped : goal.returns-then-is_finished-clause-stepped
returns-then-is_finished-clause-stepped c =
    ended_here c.args.words.now c.args.callers.now c.args.updates.now.items c.args.index c.index-callers-index.result
    (sym c.is_finished.ensures ∙ c.if-is_finished.true)

pub step_caller-requires-clause-can : goal.step_caller-requires-clause-can
step_caller-requires-clause-can c =
    can_here c.args.words.now c.args.callers.now c.args.updates.now.items c.args.index c.index-callers-index.result c.requires.caller
    (sym c.is_finished.ensures ∙ c.if-is_finished.false)

pub step_caller-requires-clause-room : goal.step_caller-requires-clause-room
step_caller-requires-clause-room c =
    room_here c.args.words.now c.args.callers.now c.args.updates.now.items c.args.index c.index-callers-index.result c.requires.caller

pub returns-clause-stepped : goal.returns-clause-stepped
returns-clause-stepped c =
    moved_here c.args.words.now c.args.callers.now c.args.updates.now.items c.args.index c.index-callers-index.result
    c.step_caller.new.words c.step_caller.new.own c.note_update.new.updates.items c.answer_for.result
    (sym c.is_finished.ensures
    ∙ c.if-is_finished.false) c.step_caller.ensures.words c.step_caller.ensures.own c.step_caller.ensures.room
    c.step_caller.ensures.stands c.note_update.ensures.noted
    (c.answer_for.ensures ∙ ap stepped_of c.step_caller.ensures.blocked)
