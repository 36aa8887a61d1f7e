use Rattle.std.proofs.Common.{◌∷◌, ◌++◌, ap, ◌+◌, ◌/◌, [], sym, subst, ◌∙◌, refl}
use Rattle.prcu_model.specs.declared.operation.Op.TheVariants.{Del}
use Rattle.core_points.specs.declared.stage.Last.TheVariants as last
use Rattle.core_points.specs.declared.stage.Stage.TheVariants as at
use Rattle.core_points.specs.declared.stage.Update.TheVariants as update
use Rattle.seat_table.specs.Seats.{shape_of}
use Rattle.tree_points.proofs.Passing.{needs}
use Rattle.tree_points.specs.Points.{IsAt}
use Rattle.tree_points.proofs.Updates.{needs_store_bypass, passes_store_bypass}
use Rattle.citrus_tree.specs.Deletes.{HasDone, TakesValue}
use Rattle.citrus_tree.proofs.DeleteMoves.{bypass_paid, child_is, marked, opened_keeps, closed_keeps, half_two}
use Rattle.citrus_tree.proofs.DeleteUpdates.{keeps_on, keeps_mark, bypass_stay, bypass_done, bypass_locked, bypass_retired, bypass_takes, bypass_waits, done_later, done_still, takes_more, takes_since, value_mark, value_on, value_opened}
use Rattle.citrus_tree.proofs.DeleteTries.{waits_on}
use Rattle.citrus_tree.proofs.delete.bypass.link_past.Goals as goal

pub mark-requires-clause-asks : goal.mark-requires-clause-asks
mark-requires-clause-asks g c = needs (c.requires.at).1 refl

pub open_commit-requires-clause-settled : goal.open_commit-requires-clause-settled
open_commit-requires-clause-settled g c =
    let child = child_is c.args.node c.slot_of-child.ensures c.only_child.ensures (c.requires.at).1 c.mark.ensures.told in
    (bypass_paid c.args.node (marked c.args.node c.slot_of-child.result child (c.requires.at).1 c.mark.ensures.told)).0

pub open_commit-requires-clause-paid : goal.open_commit-requires-clause-paid
open_commit-requires-clause-paid g c =
    let child = child_is c.args.node c.slot_of-child.ensures c.only_child.ensures (c.requires.at).1 c.mark.ensures.told in
    (bypass_paid c.args.node (marked c.args.node c.slot_of-child.result child (c.requires.at).1 c.mark.ensures.told)).1

pub close_commit-number-requires-clause-odd : goal.close_commit-number-requires-clause-odd
close_commit-number-requires-clause-odd g c =
    let child = child_is c.args.node c.slot_of-child.ensures c.only_child.ensures (c.requires.at).1 c.mark.ensures.told in
    let u = update.Bypass c.args.node c.slot_of-child.result in
    let a = passes_store_bypass (c.in_ok-front.ensures.at _ _ 0 u
    (marked c.args.node c.slot_of-child.result child (c.requires.at).1 c.mark.ensures.told)) c.bypass.ensures.told in
    ((a.fits.point).0).turn_is

pub returns-clause-retired : goal.returns-clause-retired
returns-clause-retired g c =
    let k = (shape_of g.W.WaitWords.WAY c.args.table.now) in
    c.settle_side.ensures.same.retired
    ∙ (closed_keeps c.bypass.new.seat.view c.close_commit-number.new.seat.view c.close_commit-number.ensures.closed).retired
    ∙ bypass_retired k _ _ _ _ _ _ _ _ c.bypass.ensures.told
    ∙ ap (λ xs. xs ++ c.args.node.node ∷ [])
    ((opened_keeps c.mark.new.seat.view c.open_commit.new.seat.view c.in_ok-front.front c.in_ok-front.ensures.opened).retired
    ∙ (keeps_mark k _ _ _ _ _ c.mark.ensures.told).retired)

pub returns-clause-waits : goal.returns-clause-waits
returns-clause-waits g c =
    let k = (shape_of g.W.WaitWords.WAY c.args.table.now) in
    let first = keeps_on _ _ _ (keeps_mark k _ _ _ _ _ c.mark.ensures.told)
    (opened_keeps c.mark.new.seat.view c.open_commit.new.seat.view c.in_ok-front.front c.in_ok-front.ensures.opened) in
    let later = keeps_on _ _ _ (closed_keeps c.bypass.new.seat.view c.close_commit-number.new.seat.view
    c.close_commit-number.ensures.closed) c.settle_side.ensures.same in
    waits_on first.waits (waits_on (bypass_waits k _ _ _ _ _ _ _ _ c.bypass.ensures.told) later.waits)

pub bypass-requires-clause-asks : goal.bypass-requires-clause-asks
bypass-requires-clause-asks g c =
    let child = child_is c.args.node c.slot_of-child.ensures c.only_child.ensures (c.requires.at).1 c.mark.ensures.told in
    let u = update.Bypass c.args.node c.slot_of-child.result in
    needs_store_bypass (c.in_ok-front.ensures.at _ _ 0 u
    (marked c.args.node c.slot_of-child.result child (c.requires.at).1 c.mark.ensures.told))

pub settle_side-requires-clause-at : goal.settle_side-requires-clause-at
settle_side-requires-clause-at g c =
    let child = child_is c.args.node c.slot_of-child.ensures c.only_child.ensures (c.requires.at).1 c.mark.ensures.told in
    let u = update.Bypass c.args.node c.slot_of-child.result in
    let a = c.requires.at in (
      (c.in_ok-front.front + 2) / 2,
      (
        Del c.args.key,
        a.0,
        c.close_commit-number.ensures.at (Del c.args.key) a.0 u
            (passes_store_bypass (c.in_ok-front.ensures.at (Del c.args.key) a.0 0 u
            (marked c.args.node c.slot_of-child.result child a.1 c.mark.ensures.told)) c.bypass.ensures.told),
      ),
    )

pub returns-clause-at : goal.returns-clause-at
returns-clause-at g c = λ kept a.
    (let child = child_is c.args.node c.slot_of-child.ensures c.only_child.ensures (c.requires.at).1 c.mark.ensures.told in
    let u = update.Bypass c.args.node c.slot_of-child.result in
    subst (λ n. IsAt (shape_of g.W.WaitWords.WAY c.args.table.now) (Del c.args.key) kept
    (at.Unlock (last.Gone n)) c.settle_side.new.seat.view) (sym c.close_commit-number.ensures.number)
    (c.settle_side.ensures.at ((c.in_ok-front.front + 2) / 2) (Del c.args.key) kept
    (c.close_commit-number.ensures.at (Del c.args.key) kept u
    (passes_store_bypass (c.in_ok-front.ensures.at (Del c.args.key) kept 0 u
    (marked c.args.node c.slot_of-child.result child a c.mark.ensures.told)) c.bypass.ensures.told))))

pub returns-clause-done : goal.returns-clause-done
returns-clause-done g c = λ kept a.
    (let k = (shape_of g.W.WaitWords.WAY c.args.table.now) in
    let child = child_is c.args.node c.slot_of-child.ensures c.only_child.ensures (c.requires.at).1 c.mark.ensures.told in
    let u = update.Bypass c.args.node c.slot_of-child.result in
    let stored = c.in_ok-front.ensures.at (Del c.args.key) kept 0 u
    (marked c.args.node c.slot_of-child.result child a c.mark.ensures.told) in
    let made = bypass_done k c.args.key kept c.args.node c.slot_of-child.result c.in_ok-front.front _ c.open_commit.new.seat.view
    c.bypass.new.seat.view stored c.bypass.ensures.told in
    let first = keeps_on _ _ _ (keeps_mark k _ _ _ _ _ c.mark.ensures.told)
    (opened_keeps _ _ c.in_ok-front.front c.in_ok-front.ensures.opened) in
    let later = keeps_on _ _ _ (closed_keeps _ _ c.close_commit-number.ensures.closed) c.settle_side.ensures.same in
    subst (λ n. HasDone c.args.seat.now.view (Del c.args.key) c.args.node.node [] n c.settle_side.new.seat.view)
    (half_two c.in_ok-front.front ∙ sym c.close_commit-number.ensures.number)
    (done_still _ _ _ (Del c.args.key) c.args.node.node [] _ (done_later _ _ _ (Del c.args.key) c.args.node.node [] _ first made)
    later.advanced))

pub returns-clause-locked : goal.returns-clause-locked
returns-clause-locked g c =
    let k = (shape_of g.W.WaitWords.WAY c.args.table.now) in
    (c.settle_side.ensures.same).locked
    ∙ (closed_keeps c.bypass.new.seat.view c.close_commit-number.new.seat.view c.close_commit-number.ensures.closed).locked
    ∙ bypass_locked k _ _ _ _ _ _ _ _ c.bypass.ensures.told
    ∙ (opened_keeps c.mark.new.seat.view c.open_commit.new.seat.view c.in_ok-front.front c.in_ok-front.ensures.opened).locked
    ∙ (keeps_mark k _ _ _ _ _ c.mark.ensures.told).locked

pub returns-clause-stay : goal.returns-clause-stay
returns-clause-stay g c =
    let k = (shape_of g.W.WaitWords.WAY c.args.table.now) in
    let b = bypass_stay k _ _ _ _ _ _ _ _ c.bypass.ensures.told in (
      b.0,
      (c.settle_side.ensures.same).stay
          ∙ (closed_keeps c.bypass.new.seat.view c.close_commit-number.new.seat.view c.close_commit-number.ensures.closed).stay ∙ b.1
          ∙ ap (λ xs. xs ++ b.0)
          ((opened_keeps c.mark.new.seat.view c.open_commit.new.seat.view c.in_ok-front.front c.in_ok-front.ensures.opened).stay
          ∙ (keeps_mark k _ _ _ _ _ c.mark.ensures.told).stay),
    )

pub returns-clause-took : goal.returns-clause-took
returns-clause-took g c =
    let k = (shape_of g.W.WaitWords.WAY c.args.table.now) in
    let a = c.requires.at in
    let child = child_is c.args.node c.slot_of-child.ensures c.only_child.ensures a.1 c.mark.ensures.told in
    let u = update.Bypass c.args.node c.slot_of-child.result in
    let stored = c.in_ok-front.ensures.at (Del c.args.key) a.0 0 u
    (marked c.args.node c.slot_of-child.result child a.1 c.mark.ensures.told) in
    let first = keeps_on _ _ _ (keeps_mark k _ _ _ _ _ c.mark.ensures.told)
    (opened_keeps c.mark.new.seat.view c.open_commit.new.seat.view c.in_ok-front.front c.in_ok-front.ensures.opened) in
    let later = keeps_on _ _ _ (closed_keeps c.bypass.new.seat.view c.close_commit-number.new.seat.view
    c.close_commit-number.ensures.closed) c.settle_side.ensures.same in
    subst (λ n. TakesValue c.args.seat.now.view c.args.node.node c.args.key n c.settle_side.new.seat.view)
    (half_two c.in_ok-front.front ∙ sym c.close_commit-number.ensures.number)
    (takes_more _ later.advanced.begins
    (takes_since first.advanced (value_on (value_mark c.args.node.node _ c.args.node.node c.mark.ensures.told)
    (value_opened c.args.node.node c.in_ok-front.front _ _ c.in_ok-front.ensures.opened))
    (bypass_takes k c.args.key a.0 c.args.node c.slot_of-child.result c.in_ok-front.front _ c.open_commit.new.seat.view
    c.bypass.new.seat.view stored c.bypass.ensures.told)))
