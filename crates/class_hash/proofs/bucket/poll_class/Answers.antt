use Rattle.class_hash.proofs.Walking.{may_move, may_refill}
use Rattle.class_hash.proofs.bucket.poll_class.Goals as goal

pub take_retired-requires-clause-asks : goal.take_retired-requires-clause-asks
take_retired-requires-clause-asks c =
    may_move c.args.table.now c.args.seat.now.view c.load_readers-count.new.seat.view c.load_readers-count.result _ c.if-count-ne0.false
    c.requires.lists c.first_retired-first.ensures c.load_readers-count.ensures.told

pub free_retired-requires-clause-asks : goal.free_retired-requires-clause-asks
free_retired-requires-clause-asks c =
    may_refill c.args.table.now c.args.seat.now.view c.load_readers-count.new.seat.view c.take_retired.new.seat.view
    c.load_readers-count.result _ c.if-count-ne0.false c.requires.lists c.load_readers-count.ensures.told c.take_retired.ensures.told
