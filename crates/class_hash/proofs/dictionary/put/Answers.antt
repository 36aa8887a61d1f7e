use Rattle.std.proofs.Common.{rules, ◌%◌, inl, inr, refl, sym, subst}
use Rattle.prcu_model.specs.declared.operation.Told.{Told}
use Rattle.hash_core.specs.Steps.{fresh_hold}
use Rattle.class_hash.specs.Replies.{Puts}
use Rattle.class_hash.proofs.Walking.{adds_none}
use Rattle.class_hash.proofs.Trying.{nothing_tried, searched_first, given_up_first, added_first, tried_again, tried_on, put_once, found_once, locked_holds, full_exactly}
use Rattle.class_hash.proofs.dictionary.put.Goals as goal

pub lacks-requires-clause-held : goal.lacks-requires-clause-held
lacks-requires-clause-held g c = (fresh_hold (c.args.key % 64), locked_holds c.lock_bucket.ensures.view)

pub returns-then-lacks-clause-view : goal.returns-then-lacks-clause-view
returns-then-lacks-clause-view g c =
    let f = c.lacks.ensures.walked (fresh_hold (c.args.key % 64)) (locked_holds c.lock_bucket.ensures.view) in
    subst (λ (t : Told). Puts c.args.table.now.capacities c.args.seat.now.view c.args.key c.args.value t c.add.new.seat.view)
    (sym c.told_added.ensures)
    (put_once c.requires.quiet c.loop.invariant.1 c.search.ensures.view c.lock_bucket.ensures.view f.1 c.lock_bucket.ensures.commit
    c.args.table.now.capacities c.add.new.seat.view c.args.value c.add.result c.loop.invariant.2 refl
    (f.2 c.if-lacks.true) c.add.ensures.full c.add.ensures.added)

pub returns-then-lacks-clause-full : goal.returns-then-lacks-clause-full
returns-then-lacks-clause-full g c =
    full_exactly c.args.table.now.capacities c.args.seat.now.view c.add.new.seat.view c.args.key c.args.value c.told_added.result
    (returns-then-lacks-clause-view g c)

pub returns-then-is_some-clause-view : goal.returns-then-is_some-clause-view
returns-then-is_some-clause-view g c =
    let v = c.args.seat.now.view in
    subst (λ (t : Told). Puts c.args.table.now.capacities c.args.seat.now.view c.args.key c.args.value t c.search.new.seat.view)
    (sym c.told.ensures)
    (found_once c.args.table.now.capacities v c.loop.seat.view c.search.new.seat.view c.args.key c.args.value c.search.result
    (search rules) c.loop.invariant.1 c.loop.invariant.2 c.search.ensures.view)

pub returns-then-is_some-clause-full : goal.returns-then-is_some-clause-full
returns-then-is_some-clause-full g c =
    full_exactly c.args.table.now.capacities c.args.seat.now.view c.search.new.seat.view c.args.key c.args.value c.told.result
    (returns-then-is_some-clause-view g c)

pub loop-preserved : goal.loop-preserved
loop-preserved g c =
    let f = c.lacks.ensures.walked (fresh_hold (c.args.key % 64)) (locked_holds c.lock_bucket.ensures.view) in (
      search rules,
      tried_again c.requires.quiet c.loop.invariant.1 c.search.ensures.view c.lock_bucket.ensures.view f.1 c.lock_bucket.ensures.commit
          c.free_bucket.new.seat.view c.free_bucket.ensures.view,
      tried_on c.requires.quiet c.loop.invariant.1 c.search.ensures.view c.lock_bucket.ensures.view f.1 c.lock_bucket.ensures.commit
          c.loop.invariant.2 c.free_bucket.new.seat.view c.free_bucket.ensures.view,
      inr (given_up_first c.loop.invariant.3 c.search.ensures.view c.lock_bucket.ensures.view f.1 c.free_bucket.ensures.view),
    )

pub loop-init : goal.loop-init
loop-init g c = (refl, nothing_tried c.args.seat.now.view c.args.key, adds_none c.args.seat.now.view.trail, inl refl)

pub returns-then-is_some-clause-begins : goal.returns-then-is_some-clause-begins
returns-then-is_some-clause-begins g c = searched_first c.loop.invariant.3 c.search.ensures.view

pub returns-then-lacks-clause-begins : goal.returns-then-lacks-clause-begins
returns-then-lacks-clause-begins g c =
    let f = c.lacks.ensures.walked (fresh_hold (c.args.key % 64)) (locked_holds c.lock_bucket.ensures.view) in
    added_first c.loop.invariant.3 c.search.ensures.view c.lock_bucket.ensures.view f.1 c.args.table.now.capacities c.add.new.seat.view
    c.args.value c.add.result c.add.ensures.full c.add.ensures.added
