use Rattle.std.proofs.Common.{◌≡◌, true, length, slice_index_or, ⊎_elim, arith}
use Rattle.std.proofs.lemmas.Bool.{or_cases, or_parts}
use Rattle.many_gets.proofs.Lanes.{is_there, tables_set, kept_set, no_fewer_steps, more_steps, over_more, counted, lane_is, lanes_set}
use Rattle.many_gets.proofs.many.take_turns.Goals as goal

pub take_turn-busy-requires-clause-table : goal.take_turn-busy-requires-clause-table
take_turn-busy-requires-clause-table g c =
    let before_end = c.loop-n-test.true in let end = c.loop-n.auto.n-end in let count = c.loop-n.auto.seats in
    c.loop-n.invariant.tables c.loop-n.n (slice_index_or c.loop-n.seats c.loop-n.n c.index-seats-n.result)
    (is_there c.loop-n.seats c.loop-n.n c.index-seats-n.result (omega (arith, before_end, end, count)))

pub take_turn-busy-requires-clause-is : goal.take_turn-busy-requires-clause-is
take_turn-busy-requires-clause-is g c =
    let before_end = c.loop-n-test.true in let end = c.loop-n.auto.n-end in let count = c.loop-n.auto.seats in
    let lanes = c.loop-n.auto.lanes in let enough = c.requires.lanes in
    let before = c.requires.are.0 in
    let m = c.loop-n.invariant.are before c.requires.are.1 in
    let t = slice_index_or c.loop-n.seats c.loop-n.n c.index-seats-n.result in
    let same = m.same_count in
    let lane = lane_is g.W.WaitWords.WAY c.args.table.now c.args.keys.now c.loop-n.answers before c.loop-n.lanes c.loop-n.seats m c.loop-n.n
    _ t
    (is_there c.loop-n.lanes c.loop-n.n _ (omega (arith, before_end, end, count, lanes, enough)))
    (is_there c.loop-n.seats c.loop-n.n c.index-seats-n.result (omega (arith, before_end, end, count))) in (
      c.loop-n.n,
      lane.0,
      omega (arith, before_end, end, count),
      m.room,
      counted g.W.WaitWords.WAY c.args.table.now c.args.keys.now c.loop-n.answers (length before) (length c.args.seats.now) c.loop-n.n
          lane.0 _ t
          (omega (arith, same, count)) lane.2,
    )

pub loop-n-preserved : goal.loop-n-preserved
loop-n-preserved g c =
    let before_end = c.loop-n-test.true in let end = c.loop-n.auto.n-end in let count = c.loop-n.auto.seats in
    let lanes = c.loop-n.auto.lanes in let enough = c.requires.lanes in
    let t = slice_index_or c.loop-n.seats c.loop-n.n c.index-seats-n.result in
    let u = c.take_turn-busy.new.seat in
    let there = is_there c.loop-n.seats c.loop-n.n c.index-seats-n.result (omega (arith, before_end, end, count)) in
    let kept = c.take_turn-busy.ensures.seat in
    let fewer = c.loop-n.invariant.no_fewer in
    record {
      tables = tables_set c.loop-n.seats c.loop-n.n t u there c.args.table.now c.loop-n.invariant.tables kept.0;
      kept = kept_set c.loop-n.seats c.loop-n.n t u there c.args.seats.now c.loop-n.invariant.kept kept.0 kept.1;
      are = λ before first.
          let m = c.loop-n.invariant.are before first in
          let same = m.same_count in
          let room = m.room in
          let noted = c.take_turn-busy.auto.answers in
          lanes_set g.W.WaitWords.WAY c.args.table.now c.args.keys.now c.loop-n.answers before c.loop-n.lanes c.loop-n.seats m c.loop-n.n _
          c.take_turn-busy.new.lane t u c.take_turn-busy.new.answers
          (is_there c.loop-n.lanes c.loop-n.n _ (omega (arith, before_end, end, count, lanes, enough))) there
          (omega (arith, room, noted)) c.take_turn-busy.ensures.others
          (λ s _ p. counted g.W.WaitWords.WAY c.args.table.now c.args.keys.now c.take_turn-busy.new.answers (length c.args.seats.now)
          (length before) c.loop-n.n s c.take_turn-busy.new.lane u (omega (arith, same, count))
          (c.take_turn-busy.ensures.is c.loop-n.n s (omega (arith, before_end, end, count)) room
          (counted g.W.WaitWords.WAY c.args.table.now c.args.keys.now c.loop-n.answers (length before) (length c.args.seats.now)
          c.loop-n.n s _ t
          (omega (arith, same, count)) p)));
      over = λ none.
          let both = or_parts c.loop-n.busy c.take_turn-busy.result none in
          over_more c.loop-n.n c.loop-n.lanes c.take_turn-busy.new.lane (c.loop-n.invariant.over both.0)
          (c.take_turn-busy.ensures.over both.1) (omega (arith, before_end, end, count, lanes, enough));
      no_fewer =
          let more = no_fewer_steps c.loop-n.seats c.loop-n.n t u there c.take_turn-busy.ensures.more in omega (arith, fewer, more);
      stepped = λ some. ⊎_elim
          (λ (earlier : c.loop-n.busy ≡ true).
          let grown = c.loop-n.invariant.stepped earlier in
          let more = no_fewer_steps c.loop-n.seats c.loop-n.n t u there c.take_turn-busy.ensures.more in omega (arith, grown, more))
          (λ (now : c.take_turn-busy.result ≡ true).
          let grown = more_steps c.loop-n.seats c.loop-n.n t u there (c.take_turn-busy.ensures.stepped now) in omega (arith, fewer, grown))
          (or_cases c.loop-n.busy c.take_turn-busy.result some);
    }
