use Rattle.class_hash.proofs.Seats.{class_is}
use Rattle.std.proofs.Common.{rules}
use Rattle.class_hash.proofs.Walking.{walk_begins, walk_ends, walk_found, may_walk_on, walk_passes}
use Rattle.class_hash.proofs.walk.walk_locked.Goals as goal

pub loop-init : goal.loop-init
loop-init g c = (
  search rules,
  λ hold was. walk_begins c.args.key was
      (class_is c.args.seat.now.view was c.class_held-class.ensures.class) c.locked_load-link.ensures.told,
)

pub returns-then-link-eq0-clause-absent : goal.returns-then-link-eq0-clause-absent
returns-then-link-eq0-clause-absent g c hold was = let i = c.loop.invariant.1 hold was in walk_ends c.if-link-eq0.true i.1 i.2

pub returns-then-locked_load-key-clause-found : goal.returns-then-locked_load-key-clause-found
returns-then-locked_load-key-clause-found g c hold was =
    let i = c.loop.invariant.1 hold was in
    walk_found i.1 i.2 c.slot_at-slot.ensures c.if-link-eq0.false c.locked_load.ensures.told c.if-locked_load-key.true

pub locked_load-link-requires-in-loop-clause-asks : goal.locked_load-link-requires-in-loop-clause-asks
locked_load-link-requires-in-loop-clause-asks g c =
    let e = c.requires.held in
    let i = c.loop.invariant.1 e.0 e.1 in
    may_walk_on i.1 i.2 c.slot_at-slot.ensures c.if-link-eq0.false c.locked_load.ensures.told

pub loop-preserved : goal.loop-preserved
loop-preserved g c = (
  search rules,
  λ hold was. let i = c.loop.invariant.1 hold was in
      walk_passes i.1 i.2 c.slot_at-slot.ensures c.if-link-eq0.false c.locked_load.ensures.told c.if-locked_load-key.false
      c.locked_load-link-in-loop.ensures.told,
)
