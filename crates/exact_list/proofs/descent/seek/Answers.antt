use Rattle.std.proofs.Common.{rules, ◌≡◌, sym, ◌∙◌, true, false, arith}
use Rattle.seat_table.specs.Seats.{shape_of}
use Rattle.seat_table.proofs.SeveralSteps.{told_steps}
use Rattle.exact_list.proofs.Counting.{walked_first, walked_to, walked_down, walked_end}
use Rattle.exact_list.proofs.Loading.{may_begin, seeks, sought_fits, sought_end, seeks_at, may_read_key, may_go_down, goes_away, goes_towards}
use Rattle.exact_list.proofs.descent.seek.Goals as goal

pub list_load-link-requires-clause-asks : goal.list_load-link-requires-clause-asks
list_load-link-requires-clause-asks g c = λ told. may_begin
    (shape_of g.W.WaitWords.WAY c.args.table.now) c.args.seat.now.view c.args.seat.now.view c.requires.listing

pub loop-round-init : goal.loop-round-init
loop-round-init g c = record {
  table = c.list_load-link.ensures.seat.0;
  listed = c.list_load-link.ensures.seat.1;
  sought = seeks c.args.side c.args.from c.requires.listing c.ranges.from.fits c.list_load-link.ensures.told;
  down = walked_first c.list_load-link.ensures.told;
  made = omega arith;
}

pub child_of-requires : goal.child_of-requires
child_of-requires g c = sought_fits c.loop-round.invariant.sought

pub returns-in_default-clause-reached : goal.returns-in_default-clause-reached
returns-in_default-clause-reached g c = sought_end c.loop-round.invariant.sought (sym c.child_of.ensures ∙ c.in_default.is)

pub returns-in_default-clause-down : goal.returns-in_default-clause-down
returns-in_default-clause-down g c = walked_end c.loop-round.invariant.down (sym c.child_of.ensures ∙ c.in_default.is)

pub list_load-key-requires-clause-asks : goal.list_load-key-requires-clause-asks
list_load-key-requires-clause-asks g c =
    λ told. may_read_key (seeks_at c.loop-round.invariant.sought (sym c.child_of.ensures ∙ c.in-Some.is))

pub list_load-link-requires-then-is_on-clause-asks : goal.list_load-link-requires-then-is_on-clause-asks
list_load-link-requires-then-is_on-clause-asks g c =
    λ told. may_go_down (seeks_at c.loop-round.invariant.sought (sym c.child_of.ensures ∙ c.in-Some.is)) c.list_load-key.ensures.told
    c.across.result

pub loop-round-preserved-then-is_on : goal.loop-round-preserved-then-is_on
loop-round-preserved-then-is_on g c = record {
  table = search rules;
  listed = search rules;
  sought = goes_away (seeks_at c.loop-round.invariant.sought (sym c.child_of.ensures ∙ c.in-Some.is)) c.list_load-key.ensures.told
      c.across.ensures (c.is_on.ensures.0 c.if-is_on.true) c.list_load-link-then-is_on.ensures.told;
  down = walked_down (walked_to c.loop-round.invariant.down (sym c.child_of.ensures ∙ c.in-Some.is))
      (seeks_at c.loop-round.invariant.sought (sym c.child_of.ensures ∙ c.in-Some.is)).some_slot
      c.list_load-key.ensures.told c.list_load-link-then-is_on.ensures.told;
  made =
      let made = c.loop-round.invariant.made in
      let key = told_steps c.list_load-key.ensures.told in
      let link = told_steps c.list_load-link-then-is_on.ensures.told in
      omega (arith, made, key, link);
}

pub list_load-link-requires-in-loop-round-clause-asks : goal.list_load-link-requires-in-loop-round-clause-asks
list_load-link-requires-in-loop-round-clause-asks g c =
    λ told. may_go_down (seeks_at c.loop-round.invariant.sought (sym c.child_of.ensures ∙ c.in-Some.is)) c.list_load-key.ensures.told
    c.args.side

pub loop-round-preserved : goal.loop-round-preserved
loop-round-preserved g c = record {
  table = search rules;
  listed = search rules;
  sought = goes_towards (seeks_at c.loop-round.invariant.sought (sym c.child_of.ensures ∙ c.in-Some.is)) c.list_load-key.ensures.told
      c.list_load-key.type_inv (λ on. absurd (let e : true ≡ false = sym (c.is_on.ensures.1 on) ∙ c.if-is_on.false in cc))
      c.list_load-link-in-loop-round.ensures.told;
  down = walked_down (walked_to c.loop-round.invariant.down (sym c.child_of.ensures ∙ c.in-Some.is))
      (seeks_at c.loop-round.invariant.sought (sym c.child_of.ensures ∙ c.in-Some.is)).some_slot
      c.list_load-key.ensures.told c.list_load-link-in-loop-round.ensures.told;
  made =
      let made = c.loop-round.invariant.made in
      let key = told_steps c.list_load-key.ensures.told in
      let link = told_steps c.list_load-link-in-loop-round.ensures.told in
      omega (arith, made, key, link);
}
