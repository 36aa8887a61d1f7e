use Rattle.std.proofs.Common.{◌≤◌, length}
use Rattle.prcu_model.specs.Dictionary.{Room}
use Rattle.account_text.proofs.Replays.{none-filled, least-filled}
use Rattle.account_text.proofs.timeline.Timeline.least_filled.Goals as goal

pub returns-in_err-steps-clause-none : goal.returns-in_err-steps-clause-none
returns-in_err-steps-clause-none c =
    let t = c.self.inside in
    let room : Room = record { scripts = t.scripts; slots = t.slots } in
    let fits : c.args.before ≤ length t.history.now = rw (← c.self.view_is) at c.requires in
    rw (c.from_residual.ensures, ← c.self.view_is)
    (none-filled room t.history.now t.sizes.items t.changes c.self.invariant.0 c.args.before fits c.deref.result.now c.deref.ensures.value
    c.in_err-steps.ensures.none)

pub returns-clause-least : goal.returns-clause-least
returns-clause-least c =
    let t = c.self.inside in
    let room : Room = record { scripts = t.scripts; slots = t.slots } in
    let fits : c.args.before ≤ length t.history.now = rw (← c.self.view_is) at c.requires in
    rw (← c.self.view_is)
    (least-filled room t.history.now t.sizes.items t.changes c.self.invariant.0 c.args.before fits c.deref.result.now c.deref.ensures.value
    c.in_ok-steps.steps c.in_ok-steps.ensures.within c.in_ok-steps.ensures.first)
