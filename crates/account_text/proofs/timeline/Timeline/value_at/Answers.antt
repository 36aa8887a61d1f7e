use Rattle.std.proofs.Common.{◌≤◌, length, ◌∙◌}
use Rattle.account_text.proofs.Changes.{are_split, value-until}
use Rattle.account_text.proofs.timeline.Timeline.value_at.Goals as goal

pub returns : goal.returns
returns c =
    let t = c.self.inside in
    let until = c.split_changes.result.0.now in
    let later = c.split_changes.result.1.now in
    let fits : c.args.front ≤ length t.history.now = rw (← c.self.view_is) at c.requires in
    let split = are_split t.history.now t.sizes.items t.changes c.near.result.now until later c.args.key c.args.front c.self.invariant.0
    c.near.ensures.cut c.near.ensures.ordered c.split_changes.ensures.parts c.split_changes.ensures.until c.split_changes.ensures.later
    fits in
    rw (← c.self.view_is) (c.last_value.ensures ∙ value-until t.history.now until later c.args.key c.args.front split)
