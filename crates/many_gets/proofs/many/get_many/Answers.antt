use Rattle.std.proofs.Common.{arith}
use Rattle.many_gets.proofs.Lanes.{lanes_few, kept_both, all_looked_up, all_quiet}
use Rattle.many_gets.proofs.many.get_many.Goals as goal

pub returns-clause-kept : goal.returns-clause-kept
returns-clause-kept g c =
    let count = c.loop-lanes.auto.seats in
    kept_both c.args.seats.now c.loop-lanes.seats c.take_turns.new.seats (omega (arith, count)) c.loop-lanes.invariant.kept
    c.take_turns.ensures.kept

pub returns-clause-looked_up : goal.returns-clause-looked_up
returns-clause-looked_up g c =
    let enough = c.loop-lanes.invariant.enough in
    let seats = c.take_turns.auto.seats in let still = c.take_turns.auto.lanes in
    all_looked_up g.W.WaitWords.WAY c.args.table.now c.args.keys.now c.take_turns.new.answers c.args.seats.now c.take_turns.new.lanes
    c.take_turns.new.seats (c.take_turns.ensures.are c.args.seats.now c.loop-lanes.invariant.are)
    (c.take_turns.ensures.over c.loop-lanes-test.false) (omega (arith, enough, seats, still))

pub returns-clause-quiet : goal.returns-clause-quiet
returns-clause-quiet g c =
    let enough = c.loop-lanes.invariant.enough in
    let seats = c.take_turns.auto.seats in let still = c.take_turns.auto.lanes in
    all_quiet g.W.WaitWords.WAY c.args.table.now c.args.keys.now c.take_turns.new.answers c.args.seats.now c.take_turns.new.lanes
    c.take_turns.new.seats (c.take_turns.ensures.are c.args.seats.now c.loop-lanes.invariant.are)
    (c.take_turns.ensures.over c.loop-lanes-test.false) (omega (arith, enough, seats, still))

pub loop-lanes-preserved : goal.loop-lanes-preserved
loop-lanes-preserved g c =
    let count = c.loop-lanes.auto.seats in
    record {
      tables = c.take_turns.ensures.table;
      kept = kept_both c.args.seats.now c.loop-lanes.seats c.take_turns.new.seats (omega (arith, count)) c.loop-lanes.invariant.kept
          c.take_turns.ensures.kept;
      are = c.take_turns.ensures.are c.args.seats.now c.loop-lanes.invariant.are;
      enough =
          let enough = c.loop-lanes.invariant.enough in
          let seats = c.take_turns.auto.seats in let still = c.take_turns.auto.lanes in omega (arith, enough, seats, still);
    }

pub loop-lanes-smaller : goal.loop-lanes-smaller
loop-lanes-smaller g c =
    let enough = c.loop-lanes.invariant.enough in
    let seats = c.take_turns.auto.seats in let still = c.take_turns.auto.lanes in
    let grown = c.take_turns.ensures.stepped c.loop-lanes-test.true in
    let few = lanes_few g.W.WaitWords.WAY c.args.table.now c.args.keys.now c.take_turns.new.answers c.args.seats.now c.take_turns.new.lanes
    c.take_turns.new.seats (c.take_turns.ensures.are c.args.seats.now c.loop-lanes.invariant.are) (omega (arith, enough, seats, still)) in
    omega (arith, grown, few)
