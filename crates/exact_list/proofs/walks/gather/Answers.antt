use Rattle.std.proofs.Common.{refl, sym, ap, ◌∙◌, length, arith}
use Rattle.seat_table.specs.Seats.{shape_of}
use Rattle.exact_list.proofs.Loading.{still_listing, loaded_both, if_err, may_begin}
use Rattle.exact_list.proofs.Counting.{counts_first, counts_down, counts_at, counts_lost, counts_pair, counts_link, counts_all, counts_full}
use Rattle.exact_list.proofs.Walking.{starts, descends, may_restart, restarts, ends, meets, some_before, may_go_past, goes_past, some_met, may_value_met, has_value, may_go_on, walks_on, denied, within, next_within, high_fits, has_next, gathers_last, ends_before, followed_as, come_as, gathered_as, covers_as, up_to_as}
use Rattle.seat_table.proofs.SeveralSteps.{makes_steps, told_steps}
use Rattle.exact_list.proofs.walks.gather.Goals as goal

pub list_load-link-requires-clause-asks : goal.list_load-link-requires-clause-asks
list_load-link-requires-clause-asks g c = λ told. may_begin
    (shape_of g.W.WaitWords.WAY c.args.table.now) c.args.seat.now.view c.args.seat.now.view c.requires.listing

pub loop-round-init : goal.loop-round-init
loop-round-init g c =
    record {
      table = c.list_load-link.ensures.seat.0;
      listed = c.list_load-link.ensures.seat.1;
      capacity = refl;
      room = (let empty = ap length c.requires.empty in omega (arith, empty));
      counted = counts_first c.requires.empty c.new-way.ensures.none c.new-way.ensures.whole c.list_load-link.ensures.told;
      walks = starts c.start_of-from.ensures.start c.start_of-from.ensures.ordered c.start_of-from.type_inv c.requires.listing c.requires.empty c.new-way.ensures.none c.list_load-link.ensures.told;
      made = omega arith;
    }

pub descend-requires-clause-come : goal.descend-requires-clause-come
descend-requires-clause-come g c =
    let w = c.loop-round.invariant.walks in (still_listing c.args.seat.now.view c.loop-round.seat.view w.loaded, come_as c.side_of-side.ensures w.come)

pub returns-in_err-descend-clause-left_off : goal.returns-in_err-descend-clause-left_off
returns-in_err-descend-clause-left_off g c = if_err c.from_residual.result (loaded_both
    c.args.seat.now.view c.loop-round.seat.view c.descend.new.seat.view c.loop-round.invariant.walks.loaded c.in_err-descend.ensures.left_off).0

pub returns-in-Done-clause-gathered : goal.returns-in-Done-clause-gathered
returns-in-Done-clause-gathered g c =
    gathered_as c.args.keys.now c.side_of-side.ensures (ends c.next.new.self (descends c.loop-round.invariant.walks (followed_as (sym c.side_of-side.ensures) c.in_ok-descend.ensures.ended)) c.next.ensures c.in-Done.is (high_fits c.side_of-side.result c.args.keys.now c.start_of-from.ensures.start c.end_of-end.ensures c.start_of-from.type_inv c.end_of-end.type_inv))

pub list_load-link-requires-in-Lost-clause-asks : goal.list_load-link-requires-in-Lost-clause-asks
list_load-link-requires-in-Lost-clause-asks g c = λ told. may_restart (descends c.loop-round.invariant.walks (followed_as (sym c.side_of-side.ensures) c.in_ok-descend.ensures.ended))

pub loop-round-preserved-in-Lost : goal.loop-round-preserved-in-Lost
loop-round-preserved-in-Lost g c =
    let i = c.loop-round.invariant in
    record {
      table = c.list_load-link-in-Lost.ensures.seat.0 ∙ c.descend.ensures.seat.0 ∙ i.table;
      listed = c.list_load-link-in-Lost.ensures.seat.1 ∙ c.descend.ensures.seat.1 ∙ i.listed;
      capacity = i.capacity;
      room = i.room;
      counted = counts_lost (counts_down i.counted c.in_ok-descend.ensures.down) c.next.new.self c.next.ensures c.in-Lost.is
          c.list_load-link-in-Lost.ensures.told;
      walks = restarts (descends i.walks (followed_as (sym c.side_of-side.ensures) c.in_ok-descend.ensures.ended)) (high_fits c.side_of-side.result c.args.keys.now c.start_of-from.ensures.start c.end_of-end.ensures c.start_of-from.type_inv c.end_of-end.type_inv) c.next.ensures c.in-Lost.is c.list_load-link-in-Lost.ensures.told;
      made =
          let made = i.made in
          let down = makes_steps c.loop-round.seat.view c.descend.new.seat.view c.in_ok-descend.ensures.ended.0.made in
          let link = told_steps c.list_load-link-in-Lost.ensures.told in
          omega (arith, made, down, link);
    }

pub list_load-link-requires-then-is_before-clause-asks : goal.list_load-link-requires-then-is_before-clause-asks
list_load-link-requires-then-is_before-clause-asks g c =
    λ told. may_go_past (descends c.loop-round.invariant.walks (followed_as (sym c.side_of-side.ensures) c.in_ok-descend.ensures.ended)) c.next.new.self c.next.ensures c.in-At.is

pub loop-round-preserved-then-is_before : goal.loop-round-preserved-then-is_before
loop-round-preserved-then-is_before g c =
    let i = c.loop-round.invariant in
    let z = descends i.walks (followed_as (sym c.side_of-side.ensures) c.in_ok-descend.ensures.ended) in
    record {
      table = c.list_load-link-then-is_before.ensures.seat.0 ∙ c.descend.ensures.seat.0 ∙ i.table;
      listed = c.list_load-link-then-is_before.ensures.seat.1 ∙ c.descend.ensures.seat.1 ∙ i.listed;
      capacity = i.capacity;
      room = i.room;
      counted = counts_link (counts_at (counts_down i.counted c.in_ok-descend.ensures.down) c.next.new.self c.next.ensures c.in-At.is)
          (some_before z c.next.new.self c.next.ensures c.in-At.is) c.list_load-link-then-is_before.ensures.told;
      walks = goes_past z c.next.new.self c.next.ensures c.in-At.is (c.is_before.ensures.0 c.if-is_before.true)
          c.list_load-link-then-is_before.ensures.told;
      made =
          let made = i.made in
          let down = makes_steps c.loop-round.seat.view c.descend.new.seat.view c.in_ok-descend.ensures.ended.0.made in
          let link = told_steps c.list_load-link-then-is_before.ensures.told in
          omega (arith, made, down, link);
    }

pub returns-then-is_before-2-clause-gathered : goal.returns-then-is_before-2-clause-gathered
returns-then-is_before-2-clause-gathered g c =
    gathered_as c.args.keys.now c.side_of-side.ensures (ends_before (meets (descends c.loop-round.invariant.walks (followed_as (sym c.side_of-side.ensures) c.in_ok-descend.ensures.ended)) c.next.ensures c.in-At.is
    (denied c.is_before.ensures.1 c.if-is_before.false)) c.end_of-end.ensures (c.is_before-in-loop-round.ensures.0 c.if-is_before-2.true))

pub returns-in-Done-clause-walked : goal.returns-in-Done-clause-walked
returns-in-Done-clause-walked g c = counts_all (counts_down c.loop-round.invariant.counted c.in_ok-descend.ensures.down)

pub returns-then-is_before-2-clause-walked : goal.returns-then-is_before-2-clause-walked
returns-then-is_before-2-clause-walked g c = counts_all (counts_down c.loop-round.invariant.counted c.in_ok-descend.ensures.down)

pub returns-then-is_full-clause-walked : goal.returns-then-is_full-clause-walked
returns-then-is_full-clause-walked g c = counts_full
    (counts_down c.loop-round.invariant.counted c.in_ok-descend.ensures.down) _ c.list_load-value.ensures.told

pub returns-then-key-end-clause-walked : goal.returns-then-key-end-clause-walked
returns-then-key-end-clause-walked g c = counts_all
    (counts_pair (counts_down c.loop-round.invariant.counted c.in_ok-descend.ensures.down) c.add.new.self.pairs c.in-At.passed.key
    c.add.ensures.added c.list_load-value.ensures.told)

pub list_load-value-requires-clause-asks : goal.list_load-value-requires-clause-asks
list_load-value-requires-clause-asks g c = λ told. may_value_met
    (meets (descends c.loop-round.invariant.walks (followed_as (sym c.side_of-side.ensures) c.in_ok-descend.ensures.ended)) c.next.ensures c.in-At.is (denied c.is_before.ensures.1 c.if-is_before.false))

pub returns-then-is_full-clause-gathered : goal.returns-then-is_full-clause-gathered
returns-then-is_full-clause-gathered g c =
    let n = has_value
    (meets (descends c.loop-round.invariant.walks (followed_as (sym c.side_of-side.ensures) c.in_ok-descend.ensures.ended)) c.next.ensures c.in-At.is (denied c.is_before.ensures.1 c.if-is_before.false)) c.list_load-value.ensures.told
    in (
      n.0,
      (
        covers_as n.0.after c.args.keys.now c.in-At.passed.key c.loop-round.page.pairs c.side_of-side.ensures n.1,
        up_to_as c.args.keys.now c.in-At.passed.key c.side_of-side.ensures
            (within c.side_of-side.result c.args.keys.now c.in-At.passed.key c.end_of-end.ensures
            (denied c.is_before-in-loop-round.ensures.1 c.if-is_before-2.false)),
        c.is_full.ensures.full.0 c.if-is_full.true,
        (c.list_load-value.result, n.3),
      ),
    )

pub returns-then-key-end-clause-gathered : goal.returns-then-key-end-clause-gathered
returns-then-key-end-clause-gathered g c =
    gathered_as c.args.keys.now c.side_of-side.ensures (gathers_last (meets (descends c.loop-round.invariant.walks (followed_as (sym c.side_of-side.ensures) c.in_ok-descend.ensures.ended)) c.next.ensures c.in-At.is
    (denied c.is_before.ensures.1 c.if-is_before.false)) c.list_load-value.ensures.told c.add.new.self.pairs c.add.ensures.added
    (c.if-key-end.true ∙ c.end_of-end.ensures))

pub list_load-link-requires-in-loop-round-clause-asks : goal.list_load-link-requires-in-loop-round-clause-asks
list_load-link-requires-in-loop-round-clause-asks g c = λ told.
    may_go_on (meets
    (descends c.loop-round.invariant.walks (followed_as (sym c.side_of-side.ensures) c.in_ok-descend.ensures.ended)) c.next.ensures c.in-At.is (denied c.is_before.ensures.1 c.if-is_before.false)) c.list_load-value.ensures.told

pub loop-round-preserved : goal.loop-round-preserved
loop-round-preserved g c =
    let i = c.loop-round.invariant in
    let z = meets (descends i.walks (followed_as (sym c.side_of-side.ensures) c.in_ok-descend.ensures.ended)) c.next.ensures c.in-At.is (denied c.is_before.ensures.1 c.if-is_before.false) in
    record {
      table = c.list_load-link-in-loop-round.ensures.seat.0 ∙ c.list_load-value.ensures.seat.0 ∙ c.descend.ensures.seat.0 ∙ i.table;
      listed = c.list_load-link-in-loop-round.ensures.seat.1 ∙ c.list_load-value.ensures.seat.1 ∙ c.descend.ensures.seat.1 ∙ i.listed;
      capacity = c.add.ensures.capacity ∙ i.capacity;
      room = c.add.ensures.fits;
      counted = counts_link (counts_pair (counts_at (counts_down i.counted c.in_ok-descend.ensures.down) c.next.new.self c.next.ensures c.in-At.is)
          c.add.new.self.pairs c.in-At.passed.key c.add.ensures.added c.list_load-value.ensures.told) (some_met z) c.list_load-link-in-loop-round.ensures.told;
      walks = walks_on z c.list_load-value.ensures.told c.add.new.self.pairs c.add.ensures.added c.next_to-from.ensures
          (next_within c.side_of-side.result c.args.keys.now c.in-At.passed.key c.end_of-end.ensures c.if-key-end.false c.next_to-from.result
          (within c.side_of-side.result c.args.keys.now c.in-At.passed.key c.end_of-end.ensures (denied c.is_before-in-loop-round.ensures.1 c.if-is_before-2.false))
          c.next_to-from.ensures)
          c.list_load-link-in-loop-round.ensures.told;
      made =
          let made = i.made in
          let down = makes_steps c.loop-round.seat.view c.descend.new.seat.view c.in_ok-descend.ensures.ended.0.made in
          let value = told_steps c.list_load-value.ensures.told in
          let link = told_steps c.list_load-link-in-loop-round.ensures.told in
          omega (arith, made, down, value, link);
    }

pub next_to-from-requires : goal.next_to-from-requires
next_to-from-requires g c = has_next c.side_of-side.result c.args.keys.now c.in-At.passed.key c.end_of-end.ensures c.if-key-end.false (high_fits c.side_of-side.result c.args.keys.now c.start_of-from.ensures.start c.end_of-end.ensures c.start_of-from.type_inv c.end_of-end.type_inv)
    (within c.side_of-side.result c.args.keys.now c.in-At.passed.key c.end_of-end.ensures (denied c.is_before-in-loop-round.ensures.1 c.if-is_before-2.false))
