use Rattle.std.proofs.Common.{ℕ, length, ap, ◌∙◌}
use Rattle.core_points.specs.Programs.{begun_with}
use Rattle.core_machine.specs.Runs.{new_own}
use Rattle.core_machine.specs.Laws.{shape_for}
use Rattle.core_machine.proofs.Making.{makes_more}
use Rattle.core_machine.proofs.machine.make_callers.Goals as goal

pub loop-place-preserved : goal.loop-place-preserved
loop-place-preserved c =
    makes_more c.args.scripts.now c.args.slots
    (length c.args.scripts.now) c.loop-place.callers.items c.push.new.self.items c.loop-place.place c.script.result.now
    c.in_ok-new.field-0 c.script.ensures.script
    (c.in_ok-new.ensures.own ∙ ap (λ (n : ℕ). begun_with
    (new_own (shape_for c.args.slots n) c.loop-place.place) c.script.result.now) c.count-places.ensures.count)
    c.in_ok-new.ensures.room c.in_ok-new.ensures.stands c.in_ok-push.ensures.items c.loop-place.invariant
