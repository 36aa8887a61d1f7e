use Rattle.std.proofs.Common.{subst, ◌∙◌, Some, None}
use Rattle.exact_list.specs.Tries.{Holds, IsRecent, EndAs}
use Rattle.exact_list.proofs.Trying.{recent_later}
use Rattle.tree_watch.proofs.Watched.{only_trans, only_tried, whole_taken, part_taken, looked_stood}
use Rattle.tree_watch.proofs.snapshot.Snapshot.take.Goals as goal

pub loop-init : goal.loop-init
loop-init g c = (c.pause.ensures.seat, c.pause.ensures.quiet, c.pause.ensures.only, c.self.invariant)

pub returns-in-Whole-clause-only : goal.returns-in-Whole-clause-only
returns-in-Whole-clause-only g c =
    let tried = c.list.ensures.tried in
    only_trans c.args.seat.now.view c.loop.seat.view c.list.new.seat.view c.loop.invariant.2
    (only_tried c.loop.seat.view c.list.new.seat.view c.args.keys.low tried.0 tried.1)

pub returns-in-Part-clause-only : goal.returns-in-Part-clause-only
returns-in-Part-clause-only g c =
    let tried = c.list.ensures.tried in
    only_trans c.args.seat.now.view c.loop.seat.view c.list.new.seat.view c.loop.invariant.2
    (only_tried c.loop.seat.view c.list.new.seat.view c.args.keys.low tried.0 tried.1)

pub returns-in-Whole-clause-taken : goal.returns-in-Whole-clause-taken
returns-in-Whole-clause-taken g c =
    let before = c.args.seat.now.view.seen in
    let now = c.list.new.seat.view.seen in
    let recent = recent_later c.list.result before c.loop.seat.view.seen now c.loop.invariant.2.seen c.list.ensures.recent in
    whole_taken c.args.keys before now c.in-Whole.front c.list.new.page (c.list.ensures.capacity ∙ c.loop.invariant.3)
    (subst (λ r. Holds r c.args.keys c.list.new.seat.view.seen c.list.new.page) c.in-Whole.is c.list.ensures.holds)
    (subst (λ r. IsRecent r c.args.seat.now.view.seen c.list.new.seat.view.seen) c.in-Whole.is recent)

pub returns-in-Part-clause-taken : goal.returns-in-Part-clause-taken
returns-in-Part-clause-taken g c =
    let before = c.args.seat.now.view.seen in
    let now = c.list.new.seat.view.seen in
    let recent = recent_later c.list.result before c.loop.seat.view.seen now c.loop.invariant.2.seen c.list.ensures.recent in
    part_taken c.args.keys before now c.in-Part.front c.in-Part.next c.list.new.page (c.list.ensures.capacity ∙ c.loop.invariant.3)
    (subst (λ r. Holds r c.args.keys c.list.new.seat.view.seen c.list.new.page) c.in-Part.is c.list.ensures.holds)
    (subst (λ r. IsRecent r c.args.seat.now.view.seen c.list.new.seat.view.seen) c.in-Part.is recent)

pub returns-in-Whole-clause-looked : goal.returns-in-Whole-clause-looked
returns-in-Whole-clause-looked g c =
    let tried = c.list.ensures.tried in
    looked_stood c.args.seat.now.view c.loop.seat.view c.list.new.seat.view c.args.keys.low 1000
    (record { front = c.in-Whole.front; pairs = c.list.new.page.pairs; next = None }) tried.0 c.loop.invariant.2 tried.1
    (subst (λ r. EndAs r 1000 tried.0) c.in-Whole.is tried.2)

pub returns-in-Part-clause-looked : goal.returns-in-Part-clause-looked
returns-in-Part-clause-looked g c =
    let tried = c.list.ensures.tried in
    looked_stood c.args.seat.now.view c.loop.seat.view c.list.new.seat.view c.args.keys.low 1000
    (record { front = c.in-Part.front; pairs = c.list.new.page.pairs; next = Some c.in-Part.next }) tried.0 c.loop.invariant.2 tried.1
    (subst (λ r. EndAs r 1000 tried.0) c.in-Part.is tried.2)

pub loop-preserved : goal.loop-preserved
loop-preserved g c =
    let tried = c.list.ensures.tried in (
      c.list.ensures.seat.0 ∙ c.loop.invariant.0,
      c.list.ensures.quiet,
      only_trans c.args.seat.now.view c.loop.seat.view c.list.new.seat.view c.loop.invariant.2
          (only_tried c.loop.seat.view c.list.new.seat.view c.args.keys.low tried.0 tried.1),
      c.list.ensures.capacity ∙ c.loop.invariant.3,
    )
