use Rattle.class_hash.proofs.Seats.{class_is}
use Rattle.class_hash.proofs.Putting.{may_load_head, may_take, may_write_key, may_write_value, may_write_next, filled}
use Rattle.class_hash.proofs.puts.fill_pair.Goals as goal

pub locked_load-first-requires-clause-asks : goal.locked_load-first-requires-clause-asks
locked_load-first-requires-clause-asks c =
    let may = c.requires.case in let of_class = class_is c.args.seat.now.view may.finished.hold_is c.class_held-class.ensures.class in
    may_load_head c.args.value may c.locked_load-next.ensures.told of_class

pub take_slot-requires-clause-asks : goal.take_slot-requires-clause-asks
take_slot-requires-clause-asks c =
    let may = c.requires.case in let of_class = class_is c.args.seat.now.view may.finished.hold_is c.class_held-class.ensures.class in
    may_take c.args.value may c.locked_load-next.ensures.told of_class c.locked_load-first.ensures.told

pub fill-requires-clause-asks : goal.fill-requires-clause-asks
fill-requires-clause-asks c =
    let may = c.requires.case in let of_class = class_is c.args.seat.now.view may.finished.hold_is c.class_held-class.ensures.class in
    may_write_key c.args.value may c.locked_load-next.ensures.told of_class c.locked_load-first.ensures.told c.take_slot.ensures.told

pub fill-requires-2-clause-asks : goal.fill-requires-2-clause-asks
fill-requires-2-clause-asks c =
    let may = c.requires.case in let of_class = class_is c.args.seat.now.view may.finished.hold_is c.class_held-class.ensures.class in
    may_write_value c.args.value may c.locked_load-next.ensures.told of_class c.locked_load-first.ensures.told c.take_slot.ensures.told
    c.fill.ensures.told

pub fill-requires-3-clause-asks : goal.fill-requires-3-clause-asks
fill-requires-3-clause-asks c =
    let may = c.requires.case in let of_class = class_is c.args.seat.now.view may.finished.hold_is c.class_held-class.ensures.class in
    may_write_next c.args.value may c.locked_load-next.ensures.told of_class c.locked_load-first.ensures.told c.take_slot.ensures.told
    c.fill.ensures.told c.fill-2.ensures.told

pub returns-clause-view : goal.returns-clause-view
returns-clause-view c =
    let may = c.requires.case in let of_class = class_is c.args.seat.now.view may.finished.hold_is c.class_held-class.ensures.class in
    filled c.args.value may c.locked_load-next.ensures.told of_class c.locked_load-first.ensures.told c.take_slot.ensures.told
    c.fill.ensures.told c.fill-2.ensures.told c.fill-3.ensures.told
