use Rattle.std.proofs.Common.{◌≡◌, slice_index_or, refl, sym, subst, arith}
use Rattle.list_laws.proofs.Lists.{at_below}
use Rattle.many_gets.specs.Many.{IsAt}
use Rattle.many_gets.proofs.Lanes.{is_there, tables_set, kept_all, kept_set, untouched_set, begun_set}
use Rattle.many_gets.proofs.many.enter_all.Goals as goal

pub loop-n-init : goal.loop-n-init
loop-n-init g c = record {
  tables = c.requires.table;
  kept = kept_all c.args.seats.now;
  untouched = λ i s behind at_s. at_s;
  begun = λ i s lane t before at_s at_lane at_t. absurd (omega (arith, before));
}

pub enter-requires-clause-table : goal.enter-requires-clause-table
enter-requires-clause-table g c =
    let before_end = c.loop-n-test.true in let end = c.loop-n.auto.n-end in let count = c.loop-n.auto.seats in
    c.loop-n.invariant.tables c.loop-n.n (slice_index_or c.loop-n.seats c.loop-n.n c.index-seats-n.result)
    (is_there c.loop-n.seats c.loop-n.n c.index-seats-n.result (omega (arith, before_end, end, count)))

pub enter-requires-clause-quiet : goal.enter-requires-clause-quiet
enter-requires-clause-quiet g c =
    let before_end = c.loop-n-test.true in let end = c.loop-n.auto.n-end in let count = c.loop-n.auto.seats in
    let t = slice_index_or c.loop-n.seats c.loop-n.n c.index-seats-n.result in
    c.requires.quiet c.loop-n.n t (c.loop-n.invariant.untouched c.loop-n.n t (omega arith)
    (is_there c.loop-n.seats c.loop-n.n c.index-seats-n.result (omega (arith, before_end, end, count))))

pub loop-n-preserved : goal.loop-n-preserved
loop-n-preserved g c =
    let before_end = c.loop-n-test.true in let end = c.loop-n.auto.n-end in let count = c.loop-n.auto.seats in
    let lanes = c.loop-n.auto.lanes in let enough = c.requires.lanes in
    let t = slice_index_or c.loop-n.seats c.loop-n.n c.index-seats-n.result in
    let there = is_there c.loop-n.seats c.loop-n.n c.index-seats-n.result (omega (arith, before_end, end, count)) in
    record {
      tables = tables_set c.loop-n.seats c.loop-n.n t c.enter.new.seat there c.args.table.now c.loop-n.invariant.tables
          c.enter.ensures.seat.0;
      kept = kept_set c.loop-n.seats c.loop-n.n t c.enter.new.seat there c.args.seats.now c.loop-n.invariant.kept c.enter.ensures.seat.0
          c.enter.ensures.seat.1;
      untouched = untouched_set c.loop-n.seats c.loop-n.n t c.enter.new.seat there c.args.seats.now c.loop-n.invariant.untouched;
      begun = begun_set (λ i s lane t. (lane.index ≡ i) × IsAt g.W.WaitWords.WAY c.args.table.now c.args.keys.now i s lane t)
          c.args.seats.now
          c.loop-n.lanes c.loop-n.seats c.loop-n.n c.enter.result (slice_index_or c.loop-n.lanes c.loop-n.n c.enter.result) t
          c.enter.new.seat (is_there c.loop-n.lanes c.loop-n.n c.enter.result (omega (arith, before_end, end, count, lanes, enough))) there
          c.loop-n.invariant.untouched (c.enter.ensures.index, c.enter.ensures.at) c.loop-n.invariant.begun;
    }

pub returns-clause-are : goal.returns-clause-are
returns-clause-are g c answers room =
    let at_end = c.loop-n-test.false in let end = c.loop-n.auto.n-end in let count = c.loop-n.auto.seats in
    record {
      same_count = omega (arith, count);
      room = room;
      each = λ i s lane t at_s at_lane at_t.
          let inside = at_below c.loop-n.seats i t at_t in
          let b = c.loop-n.invariant.begun i s lane t (omega (arith, at_end, end, count, inside)) at_s at_lane at_t in
          let index_is = b.0 in
          record {
            count = 0;
            index_is = omega (arith, index_is);
            last = s;
            quiet = c.requires.quiet i s at_s;
            same_table = refl;
            same_list = refl;
            looked_up = refl;
            at = subst (λ z. IsAt g.W.WaitWords.WAY c.args.table.now c.args.keys.now z s lane t) (sym b.0) b.1;
          };
    }
