use Rattle.account_text.proofs.Replays.{indexed-from_replay}
use Rattle.account_text.proofs.timeline.Timeline.new.Goals as goal

pub invariant_of-result : goal.invariant_of-result
invariant_of-result c =
    let replayed = c.in_ok-sizes.field-0 in
    let is = c.in_ok-sizes.ensures in (
      indexed-from_replay c.args.history.now replayed.sizes.items replayed.changes.items c.in_ok-new.field-0 is.fronts is.sizes is.right
          is.whole c.in_ok-new.ensures,
      is.last,
      is.legal,
    )
