use Rattle.std.proofs.Common.{rules, sym, ◌∙◌, arith}
use Rattle.exact_list.proofs.Counting.{walked_none, down_none, walked_hop, passed_one}
use Rattle.exact_list.proofs.Loading.{loaded_none}
use Rattle.exact_list.proofs.Walking.{link_fits, comes_to, may_read_next, may_go_next, comes_on, comes_back, comes_none, followed_as}
use Rattle.seat_table.proofs.SeveralSteps.{told_steps}
use Rattle.exact_list.proofs.walks.descend.Goals as goal

pub loop-round-init : goal.loop-round-init
loop-round-init g c = record {
  table = search rules;
  listed = search rules;
  come = followed_as (sym c.side_of-side.ensures) (loaded_none c.args.seat.now.view c.requires.come.0, c.requires.come.1);
  down = walked_none c.args.seat.now.view (down_none c.args.way.now);
  made = omega arith;
}

pub child_of-requires : goal.child_of-requires
child_of-requires g c = link_fits c.loop-round.invariant.come

pub returns-in_default-clause-ended : goal.returns-in_default-clause-ended
returns-in_default-clause-ended g c = followed_as c.side_of-side.ensures
    (comes_none c.loop-round.invariant.come (sym c.child_of.ensures ∙ c.in_default.is))

pub list_load-key-requires-clause-asks : goal.list_load-key-requires-clause-asks
list_load-key-requires-clause-asks g c =
    λ told. may_read_next (comes_to c.loop-round.invariant.come (sym c.child_of.ensures ∙ c.in-Some.is))

pub list_load-link-requires-clause-asks : goal.list_load-link-requires-clause-asks
list_load-link-requires-clause-asks g c = λ told.
    may_go_next (comes_to c.loop-round.invariant.come (sym c.child_of.ensures ∙ c.in-Some.is)) c.list_load-key.ensures.told c.side_of-side.result

pub loop-round-preserved-then-is_before : goal.loop-round-preserved-then-is_before
loop-round-preserved-then-is_before g c = record {
  table = search rules;
  listed = search rules;
  come = comes_on (comes_to c.loop-round.invariant.come
      (sym c.child_of.ensures ∙ c.in-Some.is)) c.list_load-key.ensures.told (c.is_before.ensures.0 c.if-is_before.true) c.list_load-link.ensures.told;
  down = walked_hop c.loop-round.invariant.down (comes_to c.loop-round.invariant.come
      (sym c.child_of.ensures ∙ c.in-Some.is)).some_slot c.list_load-key.ensures.told c.list_load-link.ensures.told (omega arith);
  made =
      let made = c.loop-round.invariant.made in
      let key = told_steps c.list_load-key.ensures.told in
      let link = told_steps c.list_load-link.ensures.told in
      omega (arith, made, key, link);
}

pub list_load-link-requires-in-loop-round-clause-asks : goal.list_load-link-requires-in-loop-round-clause-asks
list_load-link-requires-in-loop-round-clause-asks g c = λ told.
    may_go_next (comes_to c.loop-round.invariant.come (sym c.child_of.ensures ∙ c.in-Some.is)) c.list_load-key.ensures.told c.across.result

pub loop-round-preserved : goal.loop-round-preserved
loop-round-preserved g c = record {
  table = search rules;
  listed = search rules;
  come = comes_back (comes_to c.loop-round.invariant.come
      (sym c.child_of.ensures ∙ c.in-Some.is)) c.list_load-key.ensures.told c.across.ensures c.pass.ensures c.list_load-link-in-loop-round.ensures.told;
  down = walked_hop c.loop-round.invariant.down (comes_to c.loop-round.invariant.come
      (sym c.child_of.ensures ∙ c.in-Some.is)).some_slot c.list_load-key.ensures.told c.list_load-link-in-loop-round.ensures.told
      (passed_one c.loop-round.way (record { slot = c.in-Some.slot; key = c.list_load-key.result }) c.pass.new.self c.pass.ensures);
  made =
      let made = c.loop-round.invariant.made in
      let key = told_steps c.list_load-key.ensures.told in
      let link = told_steps c.list_load-link-in-loop-round.ensures.told in
      omega (arith, made, key, link);
}
