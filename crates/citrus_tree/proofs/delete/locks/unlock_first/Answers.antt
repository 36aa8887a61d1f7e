use Rattle.std.proofs.Common.{◌≡◌, ◌+◌, ◌-◌, sym, subst, ◌∙◌, arith}
use Rattle.core_state.specs.declared.act.Act.TheVariants as acts
use Rattle.seat_table.specs.Seats.{shape_of}
use Rattle.seat_table.specs.Gains.{IsAsked, Told}
use Rattle.citrus_tree.proofs.DeleteSearches.{GivesUp, needs_give, gives_on, one_left}
use Rattle.citrus_tree.proofs.delete.locks.unlock_first.Goals as goal

pub unlock-requires-clause-asks : goal.unlock-requires-clause-asks
unlock-requires-clause-asks g c =
    let k = (shape_of g.W.WaitWords.WAY c.args.table.now) in
    subst (λ s. IsAsked k c.loop-done.seat.view (acts.Unlock s)) (sym c.lock_at.ensures)
    (needs_give k c.args.target.now c.args.count (c.args.count - c.loop-done.done)
    (c.args.count - 1 - c.loop-done.done) c.args.seat.now.view c.loop-done.seat.view c.requires.at
    (one_left c.args.count c.loop-done.done c.loop-done-test.true) c.loop-done.invariant.gives)

pub loop-done-preserved : goal.loop-done-preserved
loop-done-preserved g c =
    let k = (shape_of g.W.WaitWords.WAY c.args.table.now) in
    let less : c.args.count - 1 - c.loop-done.done ≡ c.args.count - (c.loop-done.done + 1) = omega arith in record {
      table = (c.unlock.ensures.seat).0 ∙ c.loop-done.invariant.table;
      listed = (c.unlock.ensures.seat).1 ∙ c.loop-done.invariant.listed;
      few = (let lt = c.loop-done-test.true in omega arith);
      gives = subst (λ n. GivesUp k c.args.target.now c.args.count n c.args.seat.now.view c.unlock.new.seat.view) less
          (gives_on k c.args.target.now c.args.count (c.args.count - c.loop-done.done)
          (c.args.count - 1 - c.loop-done.done) 0 c.args.seat.now.view c.loop-done.seat.view c.unlock.new.seat.view c.requires.at
          (one_left c.args.count c.loop-done.done c.loop-done-test.true) c.loop-done.invariant.gives
          (subst (λ s. Told k c.loop-done.seat.view (acts.Unlock s) 0 c.unlock.new.seat.view) c.lock_at.ensures c.unlock.ensures.told));
    }
