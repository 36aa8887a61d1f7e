use Rattle.std.proofs.Common.{rules, arith}
use Rattle.seat_table.specs.Seats.{shape_of}
use Rattle.citrus_tree.proofs.Leavings.{tried_none, may_open, opens, opens_at, tries, tries_at, any_begins}
use Rattle.seat_table.proofs.SeveralSteps.{told_steps}
use Rattle.citrus_tree.proofs.commit.open_commit_so.Goals as goal

pub loop-round-init : goal.loop-round-init
loop-round-init g c = record {
  table = search rules;
  listed = search rules;
  even = c.even_from-expected.ensures.even;
  tried = tried_none c.args.seat.now.view;
  at = any_begins
      (shape_of g.W.WaitWords.WAY c.args.table.now) c.args.seat.now.view c.even_from-expected.result c.even_from-expected.ensures.even;
  made = omega arith;
}

pub open_commit-found-requires-clause-asks : goal.open_commit-found-requires-clause-asks
open_commit-found-requires-clause-asks g c = may_open
    (shape_of g.W.WaitWords.WAY c.args.table.now) c.args.seat.now.view c.loop-round.seat.view c.loop-round.invariant.tried
    c.loop-round.expected
    c.loop-round.invariant.even c.requires.settled c.requires.paid

pub returns-then-found-expected-clause-opened : goal.returns-then-found-expected-clause-opened
returns-then-found-expected-clause-opened g c =
    opens (shape_of g.W.WaitWords.WAY c.args.table.now) c.args.seat.now.view c.loop-round.seat.view c.loop-round.invariant.tried
    c.loop-round.expected
    c.open_commit-found.result c.open_commit-found.new.seat.view c.open_commit-found.ensures.told c.if-found-expected.true

pub returns-then-found-expected-clause-at : goal.returns-then-found-expected-clause-at
returns-then-found-expected-clause-at g c = opens_at
    (shape_of g.W.WaitWords.WAY c.args.table.now) c.args.seat.now.view c.loop-round.seat.view c.loop-round.invariant.tried
    c.loop-round.expected
    c.open_commit-found.result c.open_commit-found.new.seat.view c.open_commit-found.ensures.told c.if-found-expected.true
    c.loop-round.invariant.at

pub loop-round-preserved : goal.loop-round-preserved
loop-round-preserved g c = record {
  table = search rules;
  listed = search rules;
  even = c.even_from-expected-in-loop-round.ensures.even;
  tried = tries
      (shape_of g.W.WaitWords.WAY c.args.table.now) c.args.seat.now.view c.loop-round.seat.view c.loop-round.invariant.tried
      c.loop-round.expected
      c.open_commit-found.result c.open_commit-found.new.seat.view c.open_commit-found.ensures.told c.if-found-expected.false;
  at = tries_at
      (shape_of g.W.WaitWords.WAY c.args.table.now) c.args.seat.now.view c.loop-round.seat.view c.loop-round.invariant.tried
      c.loop-round.expected
      c.open_commit-found.result c.open_commit-found.new.seat.view c.open_commit-found.ensures.told c.if-found-expected.false
      c.even_from-expected-in-loop-round.result c.even_from-expected-in-loop-round.ensures.even c.loop-round.invariant.at;
  made =
      let made = c.loop-round.invariant.made in let tried = told_steps c.open_commit-found.ensures.told in omega (arith, made, tried);
}

pub returns-in-Err-clause-busy : goal.returns-in-Err-clause-busy
returns-in-Err-clause-busy g c = tries
    (shape_of g.W.WaitWords.WAY c.args.table.now) c.args.seat.now.view c.loop-round.seat.view c.loop-round.invariant.tried
    c.loop-round.expected
    c.open_commit-found.result c.open_commit-found.new.seat.view c.open_commit-found.ensures.told c.if-found-expected.false
