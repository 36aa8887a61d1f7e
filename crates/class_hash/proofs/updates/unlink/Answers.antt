use Rattle.class_hash.proofs.Seats.{class_is}
use Rattle.class_hash.proofs.Updating.{may_load_retired, holds_both, may_cut, may_chain, may_push, may_even_unlinked, may_unlock_unlinked, removed, removed_trail}
use Rattle.class_hash.proofs.updates.unlink.Goals as goal

pub locked_load-first-requires-clause-asks : goal.locked_load-first-requires-clause-asks
locked_load-first-requires-clause-asks g c =
    let may = c.requires.case in let of_class = class_is c.args.seat.now.view may.finished.hold_is c.class_held-class.ensures.class in
    may_load_retired may c.locked_load-next.ensures.told of_class

pub open_commit-even-requires-clause-held : goal.open_commit-even-requires-clause-held
open_commit-even-requires-clause-held g c =
    let may = c.requires.case in let of_class = class_is c.args.seat.now.view may.finished.hold_is c.class_held-class.ensures.class in
    holds_both may c.locked_load-next.ensures.told of_class c.locked_load-first.ensures.told

pub unlink_slot-requires-clause-asks : goal.unlink_slot-requires-clause-asks
unlink_slot-requires-clause-asks g c =
    let may = c.requires.case in let of_class = class_is c.args.seat.now.view may.finished.hold_is c.class_held-class.ensures.class in
    may_cut may c.locked_load-next.ensures.told of_class c.locked_load-first.ensures.told c.open_commit-even.ensures.view
    c.link_from-link.ensures

pub store_chain-requires-clause-asks : goal.store_chain-requires-clause-asks
store_chain-requires-clause-asks g c =
    let may = c.requires.case in let of_class = class_is c.args.seat.now.view may.finished.hold_is c.class_held-class.ensures.class in
    may_chain may c.locked_load-next.ensures.told of_class c.locked_load-first.ensures.told c.open_commit-even.ensures.view
    c.link_from-link.ensures c.unlink_slot.ensures.told

pub retire-requires-clause-asks : goal.retire-requires-clause-asks
retire-requires-clause-asks g c =
    let may = c.requires.case in let of_class = class_is c.args.seat.now.view may.finished.hold_is c.class_held-class.ensures.class in
    may_push may c.locked_load-next.ensures.told of_class c.locked_load-first.ensures.told c.open_commit-even.ensures.view
    c.link_from-link.ensures c.unlink_slot.ensures.told c.store_chain.ensures.told

pub close_commit-requires-clause-asks : goal.close_commit-requires-clause-asks
close_commit-requires-clause-asks g c =
    let may = c.requires.case in let of_class = class_is c.args.seat.now.view may.finished.hold_is c.class_held-class.ensures.class in
    may_even_unlinked may c.locked_load-next.ensures.told of_class c.locked_load-first.ensures.told c.open_commit-even.ensures.view
    c.link_from-link.ensures c.unlink_slot.ensures.told c.store_chain.ensures.told c.retire.ensures.told

pub unlock-requires-clause-asks : goal.unlock-requires-clause-asks
unlock-requires-clause-asks g c =
    let may = c.requires.case in let of_class = class_is c.args.seat.now.view may.finished.hold_is c.class_held-class.ensures.class in
    may_unlock_unlinked may c.locked_load-next.ensures.told of_class c.locked_load-first.ensures.told c.open_commit-even.ensures.view
    c.link_from-link.ensures c.unlink_slot.ensures.told c.store_chain.ensures.told c.retire.ensures.told c.close_commit.ensures.told

pub returns-clause-view : goal.returns-clause-view
returns-clause-view g c =
    let may = c.requires.case in let of_class = class_is c.args.seat.now.view may.finished.hold_is c.class_held-class.ensures.class in
    removed may c.locked_load-next.ensures.told of_class c.locked_load-first.ensures.told c.open_commit-even.ensures.view
    c.link_from-link.ensures c.unlink_slot.ensures.told c.store_chain.ensures.told c.retire.ensures.told c.close_commit.ensures.told
    c.unlock.ensures.told.goes

pub returns-clause-trail : goal.returns-clause-trail
returns-clause-trail g c =
    let may = c.requires.case in let of_class = class_is c.args.seat.now.view may.finished.hold_is c.class_held-class.ensures.class in
    removed_trail may c.locked_load-next.ensures.told of_class c.locked_load-first.ensures.told c.open_commit-even.ensures.view
    c.link_from-link.ensures c.unlink_slot.ensures.told c.store_chain.ensures.told c.retire.ensures.told c.close_commit.ensures.told
    c.unlock.ensures.told.goes
