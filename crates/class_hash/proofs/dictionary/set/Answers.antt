use Rattle.std.proofs.Common.{rules, ◌%◌, inl, inr, refl, sym, subst}
use Rattle.prcu_model.specs.declared.operation.Told.{Told}
use Rattle.hash_core.specs.Steps.{fresh_hold}
use Rattle.class_hash.specs.Replies.{Sets}
use Rattle.class_hash.proofs.Walking.{begins_on}
use Rattle.class_hash.proofs.Trying.{nothing_tried, searched_first, walked_first, given_up_first, tried_again, updated_once, has_finished, may_replace, replaced_quiet, locked_holds}
use Rattle.class_hash.proofs.dictionary.set.Goals as goal

pub walk_locked-requires-clause-held : goal.walk_locked-requires-clause-held
walk_locked-requires-clause-held g c = (fresh_hold (c.args.key % 64), locked_holds c.lock_bucket.ensures.view)

pub returns-in-Some-walk_locked-clause-view : goal.returns-in-Some-walk_locked-clause-view
returns-in-Some-walk_locked-clause-view g c =
    let f = c.in-Some-walk_locked.ensures.found (fresh_hold (c.args.key % 64)) (locked_holds c.lock_bucket.ensures.view) in
    subst (λ (t : Told). Sets c.args.seat.now.view c.args.key c.args.value t c.replace-old.new.seat.view)
    (sym c.told-in-Some-walk_locked.ensures)
    (updated_once c.requires.quiet c.loop.invariant.1 c.search.ensures.view c.lock_bucket.ensures.view f.loaded c.lock_bucket.ensures.commit
    c.replace-old.new.seat.view c.args.value c.replace-old.result.0 c.replace-old.result.1 c.replace-old.ensures.view)

pub replace-old-requires-clause-case : goal.replace-old-requires-clause-case
replace-old-requires-clause-case g c =
    let f = c.in-Some-walk_locked.ensures.found (fresh_hold (c.args.key % 64)) (locked_holds c.lock_bucket.ensures.view) in
    may_replace c.requires.quiet c.loop.invariant.1 c.search.ensures.view c.lock_bucket.ensures.view f.loaded c.lock_bucket.ensures.commit
    c.args.table.now.capacities _ _ f.found f.slot_is c.requires.ticket

pub returns-in-Some-walk_locked-clause-quiet : goal.returns-in-Some-walk_locked-clause-quiet
returns-in-Some-walk_locked-clause-quiet g c =
    let f = c.in-Some-walk_locked.ensures.found (fresh_hold (c.args.key % 64)) (locked_holds c.lock_bucket.ensures.view) in
    replaced_quiet c.requires.quiet c.loop.invariant.1 c.search.ensures.view c.lock_bucket.ensures.view f.loaded
    c.lock_bucket.ensures.commit c.replace-old.ensures.view

pub free_bucket-requires-clause-finished : goal.free_bucket-requires-clause-finished
free_bucket-requires-clause-finished g c =
    let f = c.in_default.ensures.absent (fresh_hold (c.args.key % 64)) (locked_holds c.lock_bucket.ensures.view) in
    has_finished c.requires.quiet c.loop.invariant.1 c.search.ensures.view c.lock_bucket.ensures.view f.loaded c.lock_bucket.ensures.commit

pub loop-preserved : goal.loop-preserved
loop-preserved g c =
    let f = c.in_default.ensures.absent (fresh_hold (c.args.key % 64)) (locked_holds c.lock_bucket.ensures.view) in (
      search rules,
      tried_again c.requires.quiet c.loop.invariant.1 c.search.ensures.view c.lock_bucket.ensures.view f.loaded
          c.lock_bucket.ensures.commit c.free_bucket.new.seat.view c.free_bucket.ensures.view,
      inr (given_up_first c.loop.invariant.2 c.search.ensures.view c.lock_bucket.ensures.view f.loaded c.free_bucket.ensures.view),
    )

pub loop-init : goal.loop-init
loop-init g c = (refl, nothing_tried c.args.seat.now.view c.args.key, inl refl)

pub returns-in-Some-walk_locked-clause-begins : goal.returns-in-Some-walk_locked-clause-begins
returns-in-Some-walk_locked-clause-begins g c =
    let f = c.in-Some-walk_locked.ensures.found (fresh_hold (c.args.key % 64)) (locked_holds c.lock_bucket.ensures.view) in
    begins_on (walked_first c.loop.invariant.2 c.search.ensures.view c.lock_bucket.ensures.view f.loaded) c.replace-old.ensures.trail

pub returns-then-is_none-clause-begins : goal.returns-then-is_none-clause-begins
returns-then-is_none-clause-begins g c = searched_first c.loop.invariant.2 c.search.ensures.view
