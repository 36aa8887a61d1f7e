use Rattle.std.proofs.Common.{rules, arith}
use Rattle.seat_table.specs.Seats.{shape_of}
use Rattle.seat_table.proofs.SeveralSteps.{told_steps}
use Rattle.exact_list.proofs.Trying.{loses_none, may_take, takes, loses}
use Rattle.exact_list.proofs.front.take_front.Goals as goal

pub loop-round-init : goal.loop-round-init
loop-round-init g c = record {
  table = search rules;
  listed = search rules;
  even = c.even_from-expected.ensures.even;
  lost = loses_none c.args.seat.now.view;
  made = omega arith;
}

pub open_commit-found-requires-clause-asks : goal.open_commit-found-requires-clause-asks
open_commit-found-requires-clause-asks g c = may_take
    (shape_of g.W.WaitWords.WAY c.args.table.now) c.args.seat.now.view c.loop-round.seat.view c.loop-round.invariant.lost
    c.loop-round.expected
    c.loop-round.invariant.even c.requires.settled c.requires.paid

pub returns-then-found-expected-clause-taken : goal.returns-then-found-expected-clause-taken
returns-then-found-expected-clause-taken g c =
    takes (shape_of g.W.WaitWords.WAY c.args.table.now) c.args.seat.now.view c.loop-round.seat.view c.loop-round.invariant.lost
    c.loop-round.expected
    c.open_commit-found.result c.open_commit-found.new.seat.view c.open_commit-found.ensures.told c.if-found-expected.true
    c.loop-round.invariant.even

pub loop-round-preserved : goal.loop-round-preserved
loop-round-preserved g c = record {
  table = search rules;
  listed = search rules;
  even = c.even_from-expected-in-loop-round.ensures.even;
  lost = loses
      (shape_of g.W.WaitWords.WAY c.args.table.now) c.args.seat.now.view c.loop-round.seat.view c.loop-round.invariant.lost
      c.loop-round.expected
      c.open_commit-found.result c.open_commit-found.new.seat.view c.open_commit-found.ensures.told c.if-found-expected.false;
  made =
      let made = c.loop-round.invariant.made in let tried = told_steps c.open_commit-found.ensures.told in omega (arith, made, tried);
}
