use Rattle.std.proofs.Common.{rules, arith}
use Rattle.seat_table.specs.Seats.{shape_of}
use Rattle.seat_table.proofs.SeveralSteps.{poll_steps}
use Rattle.seat_table.proofs.Waiting.{begins_on, latest_on, polls_on, polls_end}
use Rattle.seat_table.proofs.wait.wait_in_grace.Goals as goal

pub loop-round-init : goal.loop-round-init
loop-round-init g c = record {
  table = search rules;
  listed = search rules;
  began = c.begin-grace.new.seat.view;
  begun = c.begin-grace.ensures.begun;
  going = begins_on (shape_of g.W.WaitWords.WAY c.args.table.now) _ c.begin-grace.result c.begin-grace.ensures.latest;
  made = omega arith;
}

pub poll-requires-clause-latest : goal.poll-requires-clause-latest
poll-requires-clause-latest g c = let i = c.loop-round.invariant in
    latest_on (shape_of g.W.WaitWords.WAY c.args.table.now) i.began c.loop-round.seat.view c.loop-round.seat.view c.loop-round.grace
    c.loop-round.grace i.going

pub returns-in-Over-clause-waited : goal.returns-in-Over-clause-waited
returns-in-Over-clause-waited g c = let i = c.loop-round.invariant in (
  i.began,
  i.begun,
  polls_end (shape_of g.W.WaitWords.WAY c.args.table.now) i.began c.loop-round.seat.view c.poll.new.seat.view c.loop-round.grace
      c.poll.new.grace
      i.going c.in-Over.ensures.polled,
)

pub loop-round-preserved : goal.loop-round-preserved
loop-round-preserved g c =
    let i = c.loop-round.invariant in
    record {
      table = search rules;
      listed = search rules;
      began = i.began;
      begun = i.begun;
      going = polls_on
          (shape_of g.W.WaitWords.WAY c.args.table.now) i.began c.loop-round.seat.view c.poll.new.seat.view c.loop-round.grace
          c.poll.new.grace i.going
          c.in-NotYet.why c.in-NotYet.ensures.polled;
      made = (let made = i.made in let polled = poll_steps c.in-NotYet.ensures.polled in omega (arith, made, polled));
    }

pub returns-clause-waited : goal.returns-clause-waited
returns-clause-waited g c = tt
