use Rattle.seat_table.specs.Seats.{shape_of}
use Rattle.seat_table.proofs.Waiting.{begins_on, finds_nothing, finds_clear}
use Rattle.seat_table.specs.Looks.IsClear.{gate}
use Rattle.waiters.proofs.DomainPolls.{gate_made}
use Rattle.waiters.proofs.domain.load_gate.Goals as goal

pub returns-then-grace-clause-gone_on : goal.returns-then-grace-clause-gone_on
returns-then-grace-clause-gone_on c = begins_on (shape_of 1 c.args.table.now) c.args.seat.now.view c.args.grace.now c.requires.latest

pub returns-then-grace-clause-clear : goal.returns-then-grace-clause-clear
returns-then-grace-clause-clear c = finds_nothing

pub returns-clause-clear : goal.returns-clause-clear
returns-clause-clear c = finds_clear (gate_made c.load_gate-grace.ensures.told) (gate c.args.grace.now.class c.load_gate-grace.result)
