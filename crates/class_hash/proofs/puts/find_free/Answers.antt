use Rattle.class_hash.proofs.Putting.{may_poll, free_polled}
use Rattle.class_hash.proofs.puts.find_free.Goals as goal

pub refill-requires-clause-lists : goal.refill-requires-clause-lists
refill-requires-clause-lists g c =
    may_poll c.args.table.now.capacities c.args.seat.now.view c.requires.finished c.lists-free.result.0 c.lists-free.result.1
    c.lists-free.new.seat.view c.lists-free.ensures.view c.if-free-ne0.false c.if-retired-eq0.false

pub returns-clause-free : goal.returns-clause-free
returns-clause-free g c ne =
    free_polled c.args.table.now.capacities c.args.seat.now.view c.requires.finished c.lists-free.result.0 c.lists-free.result.1
    c.lists-free.new.seat.view c.lists-free.ensures.view ne c.refill.new.seat.view c.refill.ensures.view
