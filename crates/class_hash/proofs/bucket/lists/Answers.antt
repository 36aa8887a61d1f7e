use Rattle.class_hash.proofs.Seats.{class_is}
use Rattle.class_hash.proofs.Walking.{listed, still_holds}
use Rattle.class_hash.proofs.bucket.lists.Goals as goal

pub locked_load-retired-requires-clause-asks : goal.locked_load-retired-requires-clause-asks
locked_load-retired-requires-clause-asks c =
    let f = c.requires.finished in
    still_holds c.args.table.now c.args.seat.now.view c.locked_load-free.new.seat.view _ _ c.class_held-class.result f.0 f.1.hold_is
    (class_is c.args.seat.now.view f.1.hold_is c.class_held-class.ensures.class)
    c.locked_load-free.ensures.told

pub returns-clause-view : goal.returns-clause-view
returns-clause-view c =
    let f = c.requires.finished in
    listed c.args.table.now c.args.seat.now.view c.locked_load-free.new.seat.view c.locked_load-retired.new.seat.view _ _
    c.class_held-class.result f.0 f.1
    (class_is c.args.seat.now.view f.1.hold_is c.class_held-class.ensures.class)
    c.locked_load-free.ensures.told c.locked_load-retired.ensures.told
