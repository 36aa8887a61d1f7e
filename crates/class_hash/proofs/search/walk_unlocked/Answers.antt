use Rattle.std.proofs.Common.{rules, ◌%◌, subst}
use Rattle.hash_core.specs.declared.view.SearchState.TheVariants.{Found}
use Rattle.class_hash.specs.Calls.{IsSearching}
use Rattle.class_hash.proofs.Walking.{from_head, may_load_head, may_load_key, may_load_value, may_load_next, turn_found, turn_past}
use Rattle.class_hash.proofs.search.walk_unlocked.Goals as goal

pub search_load-link-requires-clause-asks : goal.search_load-link-requires-clause-asks
search_load-link-requires-clause-asks g c = let e = c.requires.entered in
    may_load_head e.0 c.args.key c.args.table.now c.args.seat.now.view e.1

pub loop-init : goal.loop-init
loop-init g c = (
  search rules,
  λ before s. from_head before c.args.key c.args.table.now c.search_load-link.result c.args.seat.now.view c.search_load-link.new.seat.view
      (c.args.key % 64) s c.search_load-link.ensures.told,
)

pub slot_at-slot-requires : goal.slot_at-slot-requires
slot_at-slot-requires g c = let e = c.requires.entered in let i = c.loop.invariant.1 e.0 e.1 in
    (c.args.key % 64, i.slot c.if-link-eq0.false)

pub search_load-requires-clause-asks : goal.search_load-requires-clause-asks
search_load-requires-clause-asks g c = let e = c.requires.entered in let i = c.loop.invariant.1 e.0 e.1 in
    may_load_key e.0 c.args.key c.args.table.now c.loop.link c.slot_at-slot.result 0 c.slot_at-slot.ensures c.if-link-eq0.false
    c.loop.seat.view i

pub search_load-requires-then-search_load-key-clause-asks : goal.search_load-requires-then-search_load-key-clause-asks
search_load-requires-then-search_load-key-clause-asks g c = let e = c.requires.entered in let i = c.loop.invariant.1 e.0 e.1 in
    may_load_value e.0 c.args.key c.args.table.now c.loop.link c.slot_at-slot.result c.search_load.result c.slot_at-slot.ensures
    c.if-link-eq0.false c.loop.seat.view i c.search_load.new.seat.view c.search_load.ensures.told c.if-search_load-key.true

pub returns-then-search_load-key-clause-found : goal.returns-then-search_load-key-clause-found
returns-then-search_load-key-clause-found g c before value s is = let i = c.loop.invariant.1 before s in (
  c.slot_at-slot.result,
  subst (λ z. IsSearching before c.args.key (Found c.slot_at-slot.result) z c.search_load-then-search_load-key.new.seat.view) is
      (turn_found before c.args.key c.args.table.now c.loop.link c.slot_at-slot.result c.search_load.result c.slot_at-slot.ensures
      c.if-link-eq0.false c.loop.seat.view i c.search_load.new.seat.view c.search_load.ensures.told
      c.search_load-then-search_load-key.result c.search_load-then-search_load-key.new.seat.view c.if-search_load-key.true
      c.search_load-then-search_load-key.ensures.told),
)

pub search_load-link-requires-in-loop-clause-asks : goal.search_load-link-requires-in-loop-clause-asks
search_load-link-requires-in-loop-clause-asks g c = let e = c.requires.entered in let i = c.loop.invariant.1 e.0 e.1 in
    may_load_next e.0 c.args.key c.args.table.now c.loop.link c.slot_at-slot.result c.search_load.result c.slot_at-slot.ensures
    c.if-link-eq0.false c.loop.seat.view i c.search_load.new.seat.view c.search_load.ensures.told c.if-search_load-key.false

pub loop-preserved : goal.loop-preserved
loop-preserved g c = (
  search rules,
  λ before s. let i = c.loop.invariant.1 before s in
      turn_past before c.args.key c.args.table.now c.loop.link c.slot_at-slot.result c.search_load.result c.slot_at-slot.ensures
      c.if-link-eq0.false c.loop.seat.view i c.search_load.new.seat.view c.search_load.ensures.told c.search_load-link-in-loop.result
      c.search_load-link-in-loop.new.seat.view c.if-search_load-key.false c.search_load-link-in-loop.ensures.told,
)
