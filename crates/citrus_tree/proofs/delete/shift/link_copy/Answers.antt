use Rattle.std.proofs.Common.{[], ◌∷◌, ◌++◌, refl, sym, ap, subst, ◌∙◌}
use Rattle.prcu_model.specs.declared.operation.Op.TheVariants.{Del}
use Rattle.core_points.specs.declared.stage.Stage.TheVariants as at
use Rattle.core_points.specs.declared.stage.Update.TheVariants as update
use Rattle.core_points.specs.declared.stage.Waits.TheVariants as waits
use Rattle.seat_table.specs.Seats.{shape_of}
use Rattle.tree_points.proofs.Passing.{needs}
use Rattle.tree_points.specs.Points.{IsAt}
use Rattle.tree_points.proofs.Updates.{passes_copy_mark, needs_store_copy, passes_store_copy}
use Rattle.citrus_tree.specs.Deletes.{HasCopied, TakesValue}
use Rattle.citrus_tree.proofs.DeleteMoves.{opened_keeps, closed_keeps, half_two, copy_paid}
use Rattle.citrus_tree.proofs.DeleteUpdates.{keeps_on, keeps_mark, copy_made, copy_locked, copy_retired, copy_stay, copy_takes, copy_waits, copied_later, copied_still, takes_more, takes_since, value_mark, value_on, value_opened}
use Rattle.citrus_tree.proofs.DeleteTries.{waits_on}
use Rattle.citrus_tree.proofs.delete.shift.link_copy.Goals as goal

pub mark-requires-clause-asks : goal.mark-requires-clause-asks
mark-requires-clause-asks g c = needs (c.requires.at).1 refl

pub open_commit-requires-clause-settled : goal.open_commit-requires-clause-settled
open_commit-requires-clause-settled g c = (copy_paid c.args.node c.args.successor
    (passes_copy_mark c.requires.spare (c.requires.at).1 c.mark.ensures.told 0 refl)).0

pub open_commit-requires-clause-paid : goal.open_commit-requires-clause-paid
open_commit-requires-clause-paid g c = (copy_paid c.args.node c.args.successor
    (passes_copy_mark c.requires.spare (c.requires.at).1 c.mark.ensures.told 0 refl)).1

pub link_copy-requires-clause-asks : goal.link_copy-requires-clause-asks
link_copy-requires-clause-asks g c =
    needs_store_copy (c.in_ok-front.ensures.at _ _ 0 (update.Copy c.args.node c.args.successor c.args.next_key c.args.copy)
    (passes_copy_mark c.requires.spare (c.requires.at).1 c.mark.ensures.told 0 refl))

pub close_commit-requires-clause-odd : goal.close_commit-requires-clause-odd
close_commit-requires-clause-odd g c =
    let a = passes_store_copy
    (c.in_ok-front.ensures.at _ _ 0 (update.Copy c.args.node c.args.successor c.args.next_key c.args.copy)
    (passes_copy_mark c.requires.spare (c.requires.at).1 c.mark.ensures.told 0 refl)) c.link_copy.ensures.told in
    ((a.fits.point).0).turn_is

pub returns-clause-at : goal.returns-clause-at
returns-clause-at g c = λ kept a.
    (let u = update.Copy c.args.node c.args.successor c.args.next_key c.args.copy in
    subst (λ n. IsAt (shape_of g.W.WaitWords.WAY c.args.table.now) (Del c.args.key) kept
    (at.Begin (waits.Move (record {
      node = c.args.node;
      successor = c.args.successor;
      copy = c.args.copy;
      next_key = c.args.next_key;
      number = n;
    }))) c.close_commit.new.seat.view) (sym c.close_commit.ensures.number)
    (c.close_commit.ensures.at (Del c.args.key) kept u
    (passes_store_copy (c.in_ok-front.ensures.at (Del c.args.key) kept 0 u
    (passes_copy_mark c.requires.spare a c.mark.ensures.told 0 refl)) c.link_copy.ensures.told)))

pub returns-clause-done : goal.returns-clause-done
returns-clause-done g c = λ kept a.
    (let k = (shape_of g.W.WaitWords.WAY c.args.table.now) in
    let u = update.Copy c.args.node c.args.successor c.args.next_key c.args.copy in
    let stored = c.in_ok-front.ensures.at (Del c.args.key) kept 0 u (passes_copy_mark c.requires.spare a c.mark.ensures.told 0 refl) in
    let made = copy_made k c.args.key kept c.args.node c.args.successor c.args.next_key c.args.copy c.in_ok-front.front _
    c.open_commit.new.seat.view c.link_copy.new.seat.view stored c.link_copy.ensures.told in
    let first = keeps_on _ _ _ (keeps_mark k _ _ _ _ _ c.mark.ensures.told)
    (opened_keeps c.mark.new.seat.view c.open_commit.new.seat.view c.in_ok-front.front c.in_ok-front.ensures.opened) in
    subst (λ n. HasCopied c.args.seat.now.view c.args.key c.args.next_key c.args.node.node n c.close_commit.new.seat.view)
    (half_two c.in_ok-front.front ∙ sym c.close_commit.ensures.number)
    (copied_still _ _ _ c.args.key c.args.next_key c.args.node.node
    _ (copied_later _ _ _ c.args.key c.args.next_key c.args.node.node _ first made)
    (closed_keeps c.link_copy.new.seat.view c.close_commit.new.seat.view c.close_commit.ensures.closed).advanced))

pub returns-clause-locked : goal.returns-clause-locked
returns-clause-locked g c =
    let k = (shape_of g.W.WaitWords.WAY c.args.table.now) in
    (closed_keeps c.link_copy.new.seat.view c.close_commit.new.seat.view c.close_commit.ensures.closed).locked
    ∙ copy_locked k _ _ _ _ _ _ _ _ _ _ _ c.link_copy.ensures.told
    ∙ (opened_keeps c.mark.new.seat.view c.open_commit.new.seat.view c.in_ok-front.front c.in_ok-front.ensures.opened).locked
    ∙ (keeps_mark k _ _ _ _ _ c.mark.ensures.told).locked

pub returns-clause-took : goal.returns-clause-took
returns-clause-took g c =
    let k = (shape_of g.W.WaitWords.WAY c.args.table.now) in
    let a = c.requires.at in
    let u = update.Copy c.args.node c.args.successor c.args.next_key c.args.copy in
    let stored = c.in_ok-front.ensures.at (Del c.args.key) a.0 0 u (passes_copy_mark c.requires.spare a.1 c.mark.ensures.told 0 refl) in
    let first = keeps_on _ _ _ (keeps_mark k _ _ _ _ _ c.mark.ensures.told)
    (opened_keeps c.mark.new.seat.view c.open_commit.new.seat.view c.in_ok-front.front c.in_ok-front.ensures.opened) in
    subst (λ n. TakesValue c.args.seat.now.view c.args.node.node c.args.key n c.close_commit.new.seat.view)
    (half_two c.in_ok-front.front ∙ sym c.close_commit.ensures.number)
    (takes_more _ (closed_keeps c.link_copy.new.seat.view c.close_commit.new.seat.view c.close_commit.ensures.closed).advanced.begins
    (takes_since first.advanced (value_on (value_mark c.args.node.node _ c.args.node.node c.mark.ensures.told)
    (value_opened c.args.node.node c.in_ok-front.front _ _ c.in_ok-front.ensures.opened))
    (copy_takes k c.args.key a.0 c.args.node c.args.successor c.args.next_key c.args.copy c.in_ok-front.front _
    c.open_commit.new.seat.view c.link_copy.new.seat.view stored c.link_copy.ensures.told)))

pub returns-clause-retired : goal.returns-clause-retired
returns-clause-retired g c =
    let k = (shape_of g.W.WaitWords.WAY c.args.table.now) in
    (closed_keeps c.link_copy.new.seat.view c.close_commit.new.seat.view c.close_commit.ensures.closed).retired
    ∙ copy_retired k _ _ _ _ _ _ _ _ _ _ _ c.link_copy.ensures.told
    ∙ ap (λ xs. xs ++ c.args.node.node ∷ [])
    ((opened_keeps c.mark.new.seat.view c.open_commit.new.seat.view c.in_ok-front.front c.in_ok-front.ensures.opened).retired
    ∙ (keeps_mark k _ _ _ _ _ c.mark.ensures.told).retired)

pub returns-clause-waits : goal.returns-clause-waits
returns-clause-waits g c =
    let k = (shape_of g.W.WaitWords.WAY c.args.table.now) in
    let first = keeps_on _ _ _ (keeps_mark k _ _ _ _ _ c.mark.ensures.told)
    (opened_keeps c.mark.new.seat.view c.open_commit.new.seat.view c.in_ok-front.front c.in_ok-front.ensures.opened) in
    waits_on first.waits (waits_on (copy_waits k _ _ _ _ _ _ _ _ _ _ _ c.link_copy.ensures.told)
    (closed_keeps c.link_copy.new.seat.view c.close_commit.new.seat.view c.close_commit.ensures.closed).waits)

pub returns-clause-stay : goal.returns-clause-stay
returns-clause-stay g c =
    let k = (shape_of g.W.WaitWords.WAY c.args.table.now) in
    let gone = copy_stay k _ _ _ _ _ _ _ _ _ _ _ c.link_copy.ensures.told in (
      gone.0,
      (closed_keeps c.link_copy.new.seat.view c.close_commit.new.seat.view c.close_commit.ensures.closed).stay ∙ gone.1
          ∙ ap (λ xs. xs ++ gone.0)
          ((opened_keeps c.mark.new.seat.view c.open_commit.new.seat.view c.in_ok-front.front c.in_ok-front.ensures.opened).stay
          ∙ (keeps_mark k _ _ _ _ _ c.mark.ensures.told).stay),
    )
