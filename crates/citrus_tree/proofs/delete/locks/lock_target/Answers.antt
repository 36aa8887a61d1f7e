use Rattle.std.proofs.Common.{refl, sym, subst, ◌∙◌, arith}
use Rattle.core_state.specs.declared.act.Act.TheVariants as acts
use Rattle.seat_table.specs.Seats.{shape_of}
use Rattle.seat_table.specs.Gains.{IsAsked, Told}
use Rattle.citrus_tree.proofs.DeleteSearches.{gets_none, needs_get, gets_on, gets_busy, busy_locks, all_got, below_end, at_last_lock}
use Rattle.std.proofs.lemmas.Bool.{false≢true}
use Rattle.citrus_tree.proofs.DeleteUpdates.{keeps_rest, rest_lock}
use Rattle.citrus_tree.proofs.delete.locks.lock_target.Goals as goal

pub loop-at-init : goal.loop-at-init
loop-at-init g c = record {
  table = refl;
  listed = refl;
  few = omega arith;
  gets = gets_none (shape_of g.W.WaitWords.WAY c.args.table.now) c.args.target.now c.args.seat.now.view;
}

pub lock-requires-clause-asks : goal.lock-requires-clause-asks
lock-requires-clause-asks g c =
    let k = (shape_of g.W.WaitWords.WAY c.args.table.now) in
    subst (λ s. IsAsked k c.loop-at.seat.view (acts.Lock s)) (sym c.lock_at.ensures)
    (needs_get k c.args.target.now c.loop-at.at c.args.seat.now.view c.loop-at.seat.view c.requires.at
    (below_end c.loop-at.at _ _ c.loop-at-test.true c.lock_count-at-end.ensures.count) c.loop-at.invariant.gets)

pub unlock_first-requires-clause-count : goal.unlock_first-requires-clause-count
unlock_first-requires-clause-count g c = c.loop-at.invariant.few

pub unlock_first-requires-clause-at : goal.unlock_first-requires-clause-at
unlock_first-requires-clause-at g c =
    let k = (shape_of g.W.WaitWords.WAY c.args.table.now) in
    let a = c.requires.at in (
      a.0,
      a.1,
      gets_busy k c.args.target.now c.loop-at.at c.lock.result c.args.seat.now.view c.loop-at.seat.view c.lock.new.seat.view
          (below_end c.loop-at.at _ _ c.loop-at-test.true c.lock_count-at-end.ensures.count) c.loop-at.invariant.gets c.if-lock-ne0.true
          (subst (λ s. Told k c.loop-at.seat.view
          (acts.Lock s) c.lock.result c.lock.new.seat.view) c.lock_at.ensures c.lock.ensures.told) a.0 a.1 a.2,
    )

pub unlock_first-requires-clause-locked : goal.unlock_first-requires-clause-locked
unlock_first-requires-clause-locked g c =
    let k = (shape_of g.W.WaitWords.WAY c.args.table.now) in
    busy_locks k c.args.target.now c.loop-at.at c.lock.result c.args.seat.now.view c.loop-at.seat.view c.lock.new.seat.view c.requires.at
    (below_end c.loop-at.at _ _ c.loop-at-test.true c.lock_count-at-end.ensures.count) c.loop-at.invariant.gets c.if-lock-ne0.true
    (subst (λ s. Told k c.loop-at.seat.view (acts.Lock s) c.lock.result c.lock.new.seat.view) c.lock_at.ensures c.lock.ensures.told)

pub returns-then-lock-ne0-clause-busy : goal.returns-then-lock-ne0-clause-busy
returns-then-lock-ne0-clause-busy g c = λ _ op kept a.
    (let k = (shape_of g.W.WaitWords.WAY c.args.table.now) in
    c.unlock_first.ensures.at op kept
    (gets_busy k c.args.target.now c.loop-at.at c.lock.result c.args.seat.now.view c.loop-at.seat.view c.lock.new.seat.view
    (below_end c.loop-at.at _ _ c.loop-at-test.true c.lock_count-at-end.ensures.count) c.loop-at.invariant.gets c.if-lock-ne0.true
    (subst (λ s. Told k c.loop-at.seat.view
    (acts.Lock s) c.lock.result c.lock.new.seat.view) c.lock_at.ensures c.lock.ensures.told) op kept a))

pub returns-then-lock-ne0-clause-got : goal.returns-then-lock-ne0-clause-got
returns-then-lock-ne0-clause-got g c e = absurd (false≢true e)

pub returns-then-lock-ne0-clause-same : goal.returns-then-lock-ne0-clause-same
returns-then-lock-ne0-clause-same g c =
    let k = (shape_of g.W.WaitWords.WAY c.args.table.now) in
    keeps_rest c.args.seat.now.view c.loop-at.seat.view c.unlock_first.new.seat.view c.loop-at.invariant.gets.rest
    (keeps_rest c.loop-at.seat.view c.lock.new.seat.view c.unlock_first.new.seat.view (rest_lock k _ _ _ _ c.lock.ensures.told)
    c.unlock_first.ensures.same)

pub loop-at-preserved : goal.loop-at-preserved
loop-at-preserved g c =
    let k = (shape_of g.W.WaitWords.WAY c.args.table.now) in
    let lt = below_end c.loop-at.at _ _ c.loop-at-test.true c.lock_count-at-end.ensures.count in record {
      table = (c.lock.ensures.seat).0 ∙ c.loop-at.invariant.table;
      listed = (c.lock.ensures.seat).1 ∙ c.loop-at.invariant.listed;
      few = omega (arith, lt);
      gets = gets_on k c.args.target.now c.loop-at.at c.lock.result c.args.seat.now.view c.loop-at.seat.view c.lock.new.seat.view lt
          c.loop-at.invariant.gets c.if-lock-ne0.false
          (subst (λ s. Told k c.loop-at.seat.view (acts.Lock s) c.lock.result c.lock.new.seat.view) c.lock_at.ensures c.lock.ensures.told);
    }

pub returns-clause-got : goal.returns-clause-got
returns-clause-got g c = λ _ op kept a. all_got c.args.target.now c.loop-at.at
    (at_last_lock c.loop-at.at _ _ c.loop-at-test.false c.lock_count-at-end.ensures.count c.loop-at.invariant.few)
    (c.loop-at.invariant.gets.at op kept a)

pub returns-clause-busy : goal.returns-clause-busy
returns-clause-busy g c e = absurd (false≢true (sym e))

pub returns-clause-same : goal.returns-clause-same
returns-clause-same g c = c.loop-at.invariant.gets.rest
