use Rattle.std.proofs.Common.{◌≡◌, [], refl, sym, ap, ◌∙◌, inr, arith}
use Rattle.prcu_model.specs.declared.operation.Reply.TheVariants.{New, Old, Full}
use Rattle.prcu_model.specs.declared.operation.Told.{Told}
use Rattle.citrus_tree.specs.Going.{TakesBy}
use Rattle.citrus_tree.proofs.Reusing.{leaf_took, may_use_still, none_so_far, so_far_ends, so_far_looked, takes_goes, takes_so}
use Rattle.citrus_tree.proofs.Inserting.{begins, outside, unlocked, may_give_up, old_found, old_looked, old_puts, old_begins, may_take_leaf, spot_found, spot_looked, full_puts, full_begins, may_link, may_rest, rests_begins, rests_keeps, rests_way, tries_again, new_goes, new_puts, new_begins, old_keeps, full_keeps, new_keeps, readers_way}
use Rattle.citrus_tree.proofs.Leavings.{room_steps, keeps_seat, listed_on}
use Rattle.seat_table.proofs.SeveralSteps.{prefix_steps}
use Rattle.std.proofs.lemmas.Result.{IfErr-at_err, IfOk-at_ok}
use Rattle.citrus_tree.proofs.insert.put_reusing.Goals as goal

pub loop-round-init : goal.loop-round-init
loop-round-init g c = record {
  table = refl;
  listed = c.requires.quiet.listed;
  tries = begins c.requires.quiet.view c.ranges.key.fits;
  slots = none_so_far c.args.reuse c.args.seat.now c.requires.quiet.view.hand;
  made = omega arith;
}

pub find_spot-requires-clause-table : goal.find_spot-requires-clause-table
find_spot-requires-clause-table g c = c.loop-round.invariant.table ∙ c.requires.table

pub give_up_leaf-requires-clause-table : goal.give_up_leaf-requires-clause-table
give_up_leaf-requires-clause-table g c = c.find_spot.ensures.seat.0 ∙ c.loop-round.invariant.table ∙ c.requires.table

pub leaf_in_hand-requires-clause-table : goal.leaf_in_hand-requires-clause-table
leaf_in_hand-requires-clause-table g c = c.find_spot.ensures.seat.0 ∙ c.loop-round.invariant.table ∙ c.requires.table

pub link_leaf-requires-clause-table : goal.link_leaf-requires-clause-table
link_leaf-requires-clause-table g c =
    c.leaf_in_hand.ensures.table ∙ c.find_spot.ensures.seat.0 ∙ c.loop-round.invariant.table ∙ c.requires.table

pub link_leaf-requires-clause-slot : goal.link_leaf-requires-clause-slot
link_leaf-requires-clause-slot g c = (IfOk-at_ok _ c.in-Ok.is c.in_ok-leaf.ensures.slot) _ c.in-Some-leaf.is

pub returns-in_default-clause-informed : goal.returns-in_default-clause-informed
returns-in_default-clause-informed g c = c.give_up_leaf.ensures.informed

pub returns-in_default-leaf-clause-informed : goal.returns-in_default-leaf-clause-informed
returns-in_default-leaf-clause-informed g c = (IfOk-at_ok _ c.in-Ok.is c.in_ok-leaf.ensures.informed) c.in_default-leaf.is

pub returns-in-Some-linked-clause-informed : goal.returns-in-Some-linked-clause-informed
returns-in-Some-linked-clause-informed g c = c.in_ok-linked.ensures.informed

pub find_spot-requires-clause-outside : goal.find_spot-requires-clause-outside
find_spot-requires-clause-outside g c = outside c.loop-round.invariant.tries c.requires.tickets

pub find_spot-requires-clause-unlocked : goal.find_spot-requires-clause-unlocked
find_spot-requires-clause-unlocked g c = unlocked c.loop-round.invariant.tries c.requires.tickets

pub give_up_leaf-requires-clause-at : goal.give_up_leaf-requires-clause-at
give_up_leaf-requires-clause-at g c =
    may_give_up c.loop-round.invariant.tries c.requires.tickets c.find_spot.ensures.place _ c.in_default.is
    c.find_spot.ensures.searched

pub give_up_leaf-requires-clause-informed : goal.give_up_leaf-requires-clause-informed
give_up_leaf-requires-clause-informed g c = (old_found c.loop-round.invariant.tries c.requires.tickets c.find_spot.ensures.place _
    c.in_default.is
    c.find_spot.ensures.searched).1.informed

pub returns-in_default-clause-puts : goal.returns-in_default-clause-puts
returns-in_default-clause-puts g c = old_puts c.loop-round.invariant.tries c.requires.tickets c.find_spot.ensures.place _ c.in_default.is
    c.find_spot.ensures.searched c.give_up_leaf.ensures.goes c.answered.ensures

pub returns-in_default-clause-keeps : goal.returns-in_default-clause-keeps
returns-in_default-clause-keeps g c =
    let tries = c.loop-round.invariant.tries in
    let place = c.find_spot.ensures.place in
    let searched = c.find_spot.ensures.searched in
    let looked = old_looked tries c.requires.tickets place _ c.in_default.is searched in
    let found = so_far_looked c.args.reuse c.args.seat.now c.loop-round.seat c.find_spot.new.seat c.loop-round.invariant.slots (old_found tries c.requires.tickets place _ c.in_default.is searched).1
    c.find_spot.ensures.seat.1 in
    keeps_seat
    (old_keeps tries c.requires.tickets place _ c.in_default.is searched c.give_up_leaf.ensures.goes c.give_up_leaf.ensures.at)
    (listed_on c.loop-round.seat c.give_up_leaf.new.seat (c.give_up_leaf.ensures.seat.1 ∙ c.find_spot.ensures.seat.1)
    (c.give_up_leaf.ensures.goes.retired ∙ looked.retired) c.loop-round.invariant.listed)
    (so_far_ends c.args.reuse c.args.seat.now c.find_spot.new.seat c.give_up_leaf.new.seat found c.give_up_leaf.ensures.goes c.give_up_leaf.ensures.seat.1)

pub leaf_in_hand-requires-clause-listed : goal.leaf_in_hand-requires-clause-listed
leaf_in_hand-requires-clause-listed g c = listed_on c.loop-round.seat c.find_spot.new.seat c.find_spot.ensures.seat.1
    (spot_looked c.loop-round.invariant.tries c.requires.tickets c.find_spot.ensures.place _ c.in-Some.is
    c.find_spot.ensures.searched).retired
    c.loop-round.invariant.listed

pub leaf_in_hand-requires-clause-ready : goal.leaf_in_hand-requires-clause-ready
leaf_in_hand-requires-clause-ready g c = may_use_still c.args.reuse c.args.seat.now c.find_spot.new.seat (so_far_looked c.args.reuse c.args.seat.now c.loop-round.seat c.find_spot.new.seat c.loop-round.invariant.slots
    (spot_found c.loop-round.invariant.tries c.requires.tickets c.find_spot.ensures.place _ c.in-Some.is c.find_spot.ensures.searched).0
    c.find_spot.ensures.seat.1) c.requires.ready

pub leaf_in_hand-requires-clause-at : goal.leaf_in_hand-requires-clause-at
leaf_in_hand-requires-clause-at g c =
    may_take_leaf c.loop-round.invariant.tries c.requires.tickets c.find_spot.ensures.place _ c.in-Some.is
    c.find_spot.ensures.searched

pub returns-in_default-leaf-clause-puts : goal.returns-in_default-leaf-clause-puts
returns-in_default-leaf-clause-puts g c = full_puts c.loop-round.invariant.tries c.requires.tickets c.find_spot.ensures.place _ c.in-Some.is
    c.find_spot.ensures.searched c.in_ok-leaf.ensures.room ((IfOk-at_ok _ c.in-Ok.is c.in_ok-leaf.ensures.full) c.in_default-leaf.is) c.answered-in_default-leaf.ensures

pub returns-in_default-leaf-clause-keeps : goal.returns-in_default-leaf-clause-keeps
returns-in_default-leaf-clause-keeps g c =
    let tries = c.loop-round.invariant.tries in
    let place = c.find_spot.ensures.place in
    let searched = c.find_spot.ensures.searched in
    keeps_seat
    (full_keeps tries c.requires.tickets place _ c.in-Some.is searched c.in_ok-leaf.ensures.room c.in_default-leaf.is (IfOk-at_ok _ c.in-Ok.is c.in_ok-leaf.ensures.at))
    c.in_ok-leaf.ensures.listed
    (takes_so c.args.reuse c.args.seat.now.view.hands.spare c.args.seat.now c.leaf_in_hand.new.seat (leaf_took c.args.reuse c.args.seat.now c.find_spot.new.seat c.leaf_in_hand.new.seat (so_far_looked c.args.reuse c.args.seat.now c.loop-round.seat c.find_spot.new.seat c.loop-round.invariant.slots
    (spot_found tries c.requires.tickets place _ c.in-Some.is searched).0 c.find_spot.ensures.seat.1) c.in_ok-leaf.ensures.slots))

-- No slot is free, and it is to be made again rather than wait for readers.

pub returns-in-Err-clause-busy : goal.returns-in-Err-clause-busy
returns-in-Err-clause-busy g c = readers_way c.loop-round.invariant.tries c.requires.tickets c.find_spot.ensures.place _ c.in-Some.is
    c.find_spot.ensures.searched c.in_ok-leaf.ensures.room

pub returns-in-Err-clause-begins : goal.returns-in-Err-clause-begins
returns-in-Err-clause-begins g c =
    full_begins c.loop-round.invariant.tries c.requires.tickets c.find_spot.ensures.place _ c.in-Some.is c.find_spot.ensures.searched
    c.in_ok-leaf.ensures.room

pub returns-in-Err-clause-keeps : goal.returns-in-Err-clause-keeps
returns-in-Err-clause-keeps g c =
    let tries = c.loop-round.invariant.tries in
    let place = c.find_spot.ensures.place in
    let searched = c.find_spot.ensures.searched in
    let busy = IfErr-at_err _ c.in-Err.is c.in_ok-leaf.ensures.busy in
    keeps_seat
    (full_keeps tries c.requires.tickets place _ c.in-Some.is searched c.in_ok-leaf.ensures.room refl busy)
    c.in_ok-leaf.ensures.listed
    (takes_so c.args.reuse c.args.seat.now.view.hands.spare c.args.seat.now c.leaf_in_hand.new.seat (leaf_took c.args.reuse c.args.seat.now c.find_spot.new.seat c.leaf_in_hand.new.seat (so_far_looked c.args.reuse c.args.seat.now c.loop-round.seat c.find_spot.new.seat c.loop-round.invariant.slots
    (spot_found tries c.requires.tickets place _ c.in-Some.is searched).0 c.find_spot.ensures.seat.1) c.in_ok-leaf.ensures.slots))

pub link_leaf-requires-clause-at : goal.link_leaf-requires-clause-at
link_leaf-requires-clause-at g c = may_link c.loop-round.invariant.tries c.requires.tickets c.find_spot.ensures.place _ c.in-Some.is
    c.find_spot.ensures.searched c.in_ok-leaf.ensures.room c.in-Some-leaf.is (IfOk-at_ok _ c.in-Ok.is c.in_ok-leaf.ensures.at)

pub returns-in-Some-linked-clause-puts : goal.returns-in-Some-linked-clause-puts
returns-in-Some-linked-clause-puts g c = new_puts c.loop-round.invariant.tries c.requires.tickets c.find_spot.ensures.place _ c.in-Some.is
    c.find_spot.ensures.searched c.in_ok-leaf.ensures.room
    c.in-Some-leaf.is (IfOk-at_ok _ c.in-Ok.is c.in_ok-leaf.ensures.at) c.in-Some-linked.is (IfOk-at_ok _ c.in-Ok-2.is c.in_ok-linked.ensures.linked)
    c.answered-in-Some-linked.ensures

pub returns-in-Some-linked-clause-keeps : goal.returns-in-Some-linked-clause-keeps
returns-in-Some-linked-clause-keeps g c =
    let tries = c.loop-round.invariant.tries in
    let place = c.find_spot.ensures.place in
    let searched = c.find_spot.ensures.searched in
    let leaf = c.in_ok-leaf.ensures in
    let linked = c.in_ok-linked.ensures in
    let goes = new_goes tries c.requires.tickets place _ c.in-Some.is searched leaf.room c.in-Some-leaf.is (IfOk-at_ok _ c.in-Ok.is leaf.at) c.in-Some-linked.is
    (IfOk-at_ok _ c.in-Ok-2.is linked.linked) in
    keeps_seat
    (new_keeps tries c.requires.tickets place _ c.in-Some.is searched leaf.room c.in-Some-leaf.is (IfOk-at_ok _ c.in-Ok.is leaf.at) c.in-Some-linked.is
    (IfOk-at_ok _ c.in-Ok-2.is linked.linked)
    (IfOk-at_ok _ c.in-Ok-2.is linked.at))
    (listed_on c.leaf_in_hand.new.seat c.link_leaf.new.seat c.link_leaf.ensures.seat.1 goes.retired leaf.listed)
    (takes_so c.args.reuse c.args.seat.now.view.hands.spare c.args.seat.now c.link_leaf.new.seat (takes_goes c.args.reuse c.args.seat.now.view.hands.spare c.args.seat.now c.leaf_in_hand.new.seat c.link_leaf.new.seat _ (leaf_took c.args.reuse c.args.seat.now c.find_spot.new.seat c.leaf_in_hand.new.seat (so_far_looked c.args.reuse c.args.seat.now c.loop-round.seat c.find_spot.new.seat c.loop-round.invariant.slots
    (spot_found tries c.requires.tickets place _ c.in-Some.is searched).0 c.find_spot.ensures.seat.1) leaf.slots) goes
    c.link_leaf.ensures.seat.1))

-- the slot that it was told is the pair's
pub returns-in-Some-linked-clause-uses : goal.returns-in-Some-linked-clause-uses
returns-in-Some-linked-clause-uses g c = λ _.
    (let tries = c.loop-round.invariant.tries in
    let place = c.find_spot.ensures.place in
    let searched = c.find_spot.ensures.searched in
    let leaf = c.in_ok-leaf.ensures in
    let goes = new_goes tries c.requires.tickets place _ c.in-Some.is searched leaf.room c.in-Some-leaf.is (IfOk-at_ok _ c.in-Ok.is leaf.at) c.in-Some-linked.is
    (IfOk-at_ok _ c.in-Ok-2.is c.in_ok-linked.ensures.linked) in
    takes_goes c.args.reuse c.args.seat.now.view.hands.spare c.args.seat.now c.leaf_in_hand.new.seat c.link_leaf.new.seat _ (leaf_took c.args.reuse c.args.seat.now c.find_spot.new.seat c.leaf_in_hand.new.seat (so_far_looked c.args.reuse c.args.seat.now c.loop-round.seat c.find_spot.new.seat c.loop-round.invariant.slots
    (spot_found tries c.requires.tickets place _ c.in-Some.is searched).0 c.find_spot.ensures.seat.1) leaf.slots) goes
    c.link_leaf.ensures.seat.1)

pub returns-in_default-clause-uses : goal.returns-in_default-clause-uses
returns-in_default-clause-uses g c = λ new. absurd (let e : Old ≡ New = sym (ap (λ (t : Told). t.reply) c.answered.ensures) ∙ new in cc)

pub returns-in_default-leaf-clause-uses : goal.returns-in_default-leaf-clause-uses
returns-in_default-leaf-clause-uses g c = λ new. absurd (let e : Full ≡ New = sym (ap (λ (t : Told). t.reply) c.answered-in_default-leaf.ensures) ∙ new in
    cc)

pub loop-round-preserved : goal.loop-round-preserved
loop-round-preserved g c = record {
  table = c.link_leaf.ensures.seat.0 ∙ c.leaf_in_hand.ensures.table ∙ c.find_spot.ensures.seat.0 ∙ c.loop-round.invariant.table;
  listed = listed_on c.leaf_in_hand.new.seat c.link_leaf.new.seat c.link_leaf.ensures.seat.1
      ((IfOk-at_ok _ c.in-Ok-2.is c.in_ok-linked.ensures.again) c.in_default-linked.is).retired c.in_ok-leaf.ensures.listed;
  tries = tries_again c.loop-round.invariant.tries c.requires.tickets c.find_spot.ensures.place _ c.in-Some.is
      c.find_spot.ensures.searched
      c.in_ok-leaf.ensures.room c.in-Some-leaf.is (IfOk-at_ok _ c.in-Ok.is c.in_ok-leaf.ensures.at)
      ((IfOk-at_ok _ c.in-Ok-2.is c.in_ok-linked.ensures.again) c.in_default-linked.is)
      c.in_default-linked.is (IfOk-at_ok _ c.in-Ok-2.is c.in_ok-linked.ensures.at);
  slots = inr (record {
    leaf = _;
    in_hand = (IfOk-at_ok _ c.in-Ok-2.is c.in_ok-linked.ensures.still) c.in_default-linked.is;
    took = takes_goes c.args.reuse c.args.seat.now.view.hands.spare c.args.seat.now c.leaf_in_hand.new.seat c.link_leaf.new.seat [] (leaf_took c.args.reuse c.args.seat.now c.find_spot.new.seat c.leaf_in_hand.new.seat (so_far_looked c.args.reuse c.args.seat.now c.loop-round.seat c.find_spot.new.seat c.loop-round.invariant.slots
        (spot_found c.loop-round.invariant.tries c.requires.tickets c.find_spot.ensures.place _ c.in-Some.is c.find_spot.ensures.searched).0
        c.find_spot.ensures.seat.1) c.in_ok-leaf.ensures.slots)
        ((IfOk-at_ok _ c.in-Ok-2.is c.in_ok-linked.ensures.again) c.in_default-linked.is) c.link_leaf.ensures.seat.1;
  });
  made =
      let made = c.loop-round.invariant.made in
      let found = c.find_spot.ensures.stepped in
      let taken = room_steps c.in_ok-leaf.ensures.room in
      let tried = prefix_steps c.leaf_in_hand.new.seat.view c.link_leaf.new.seat.view
      ((IfOk-at_ok _ c.in-Ok-2.is c.in_ok-linked.ensures.again)
      c.in_default-linked.is).advanced.steps in
      omega (arith, made, found, taken, tried);
}

pub returns-in_default-clause-begins : goal.returns-in_default-clause-begins
returns-in_default-clause-begins g c =
    old_begins c.loop-round.invariant.tries c.requires.tickets c.find_spot.ensures.place _ c.in_default.is
    c.find_spot.ensures.searched c.give_up_leaf.ensures.goes

pub returns-in_default-leaf-clause-begins : goal.returns-in_default-leaf-clause-begins
returns-in_default-leaf-clause-begins g c =
    full_begins c.loop-round.invariant.tries c.requires.tickets c.find_spot.ensures.place _ c.in-Some.is c.find_spot.ensures.searched
    c.in_ok-leaf.ensures.room

pub returns-in-Some-linked-clause-begins : goal.returns-in-Some-linked-clause-begins
returns-in-Some-linked-clause-begins g c = new_begins c.loop-round.invariant.tries c.requires.tickets c.find_spot.ensures.place _
    c.in-Some.is
    c.find_spot.ensures.searched c.in_ok-leaf.ensures.room
    c.in-Some-leaf.is (IfOk-at_ok _ c.in-Ok.is c.in_ok-leaf.ensures.at) c.in-Some-linked.is (IfOk-at_ok _ c.in-Ok-2.is c.in_ok-linked.ensures.linked)

pub give_up_leaf-requires-in-Err-rest-clause-at : goal.give_up_leaf-requires-in-Err-rest-clause-at
give_up_leaf-requires-in-Err-rest-clause-at g c = may_rest c.loop-round.invariant.tries c.requires.tickets c.find_spot.ensures.place _
    c.in-Some.is c.find_spot.ensures.searched c.in_ok-leaf.ensures.room c.in-Some-leaf.is (IfOk-at_ok _ c.in-Ok.is c.in_ok-leaf.ensures.at)
    ((IfOk-at_ok _ c.in-Ok-2.is c.in_ok-linked.ensures.again) c.in_default-linked.is) c.in_default-linked.is
    (IfOk-at_ok _ c.in-Ok-2.is c.in_ok-linked.ensures.at)

pub returns-in-Err-rest-clause-busy : goal.returns-in-Err-rest-clause-busy
returns-in-Err-rest-clause-busy g c = rests_way c.loop-round.invariant.tries c.requires.tickets c.find_spot.ensures.place _
    c.in-Some.is c.find_spot.ensures.searched c.in_ok-leaf.ensures.room c.in-Some-leaf.is (IfOk-at_ok _ c.in-Ok.is c.in_ok-leaf.ensures.at)
    ((IfOk-at_ok _ c.in-Ok-2.is c.in_ok-linked.ensures.again) c.in_default-linked.is) c.in_default-linked.is
    (IfOk-at_ok _ c.in-Ok-2.is c.in_ok-linked.ensures.at) c.give_up_leaf-in-Err-rest.ensures.goes

pub returns-in-Err-rest-clause-begins : goal.returns-in-Err-rest-clause-begins
returns-in-Err-rest-clause-begins g c = rests_begins c.loop-round.invariant.tries c.requires.tickets c.find_spot.ensures.place _
    c.in-Some.is c.find_spot.ensures.searched c.in_ok-leaf.ensures.room c.in-Some-leaf.is (IfOk-at_ok _ c.in-Ok.is c.in_ok-leaf.ensures.at)
    ((IfOk-at_ok _ c.in-Ok-2.is c.in_ok-linked.ensures.again) c.in_default-linked.is) c.in_default-linked.is
    (IfOk-at_ok _ c.in-Ok-2.is c.in_ok-linked.ensures.at) c.give_up_leaf-in-Err-rest.ensures.goes

pub returns-in-Err-rest-clause-keeps : goal.returns-in-Err-rest-clause-keeps
returns-in-Err-rest-clause-keeps g c =
    let tries = c.loop-round.invariant.tries in
    let place = c.find_spot.ensures.place in
    let searched = c.find_spot.ensures.searched in
    let leaf = c.in_ok-leaf.ensures in
    let linked = c.in_ok-linked.ensures in
    let again = (IfOk-at_ok _ c.in-Ok-2.is linked.again) c.in_default-linked.is in
    let back = c.give_up_leaf-in-Err-rest.ensures in
    keeps_seat
    (rests_keeps tries c.requires.tickets place _ c.in-Some.is searched leaf.room c.in-Some-leaf.is (IfOk-at_ok _ c.in-Ok.is leaf.at) again c.in_default-linked.is
    (IfOk-at_ok _ c.in-Ok-2.is linked.at)
    back.goes back.at)
    (listed_on c.leaf_in_hand.new.seat c.give_up_leaf-in-Err-rest.new.seat (back.seat.1 ∙ c.link_leaf.ensures.seat.1)
    (back.goes.retired ∙ again.retired) leaf.listed)
    (takes_so c.args.reuse c.args.seat.now.view.hands.spare c.args.seat.now c.give_up_leaf-in-Err-rest.new.seat (takes_goes c.args.reuse c.args.seat.now.view.hands.spare c.args.seat.now c.link_leaf.new.seat c.give_up_leaf-in-Err-rest.new.seat [] (takes_goes c.args.reuse c.args.seat.now.view.hands.spare c.args.seat.now c.leaf_in_hand.new.seat c.link_leaf.new.seat [] (leaf_took c.args.reuse c.args.seat.now c.find_spot.new.seat c.leaf_in_hand.new.seat (so_far_looked c.args.reuse c.args.seat.now c.loop-round.seat c.find_spot.new.seat c.loop-round.invariant.slots
    (spot_found tries c.requires.tickets place _ c.in-Some.is searched).0 c.find_spot.ensures.seat.1) leaf.slots) again
    c.link_leaf.ensures.seat.1) back.goes back.seat.1))

pub give_up_leaf-requires-in-Err-2-clause-at : goal.give_up_leaf-requires-in-Err-2-clause-at
give_up_leaf-requires-in-Err-2-clause-at g c = may_rest c.loop-round.invariant.tries c.requires.tickets c.find_spot.ensures.place _
    c.in-Some.is c.find_spot.ensures.searched c.in_ok-leaf.ensures.room c.in-Some-leaf.is (IfOk-at_ok _ c.in-Ok.is c.in_ok-leaf.ensures.at)
    (IfErr-at_err _ c.in-Err-2.is c.in_ok-linked.ensures.busy) refl (IfErr-at_err _ c.in-Err-2.is c.in_ok-linked.ensures.back)

pub returns-in-Err-2-clause-busy : goal.returns-in-Err-2-clause-busy
returns-in-Err-2-clause-busy g c = rests_way c.loop-round.invariant.tries c.requires.tickets c.find_spot.ensures.place _
    c.in-Some.is c.find_spot.ensures.searched c.in_ok-leaf.ensures.room c.in-Some-leaf.is (IfOk-at_ok _ c.in-Ok.is c.in_ok-leaf.ensures.at)
    (IfErr-at_err _ c.in-Err-2.is c.in_ok-linked.ensures.busy) refl (IfErr-at_err _ c.in-Err-2.is c.in_ok-linked.ensures.back)
    c.give_up_leaf-in-Err-2.ensures.goes

pub returns-in-Err-2-clause-begins : goal.returns-in-Err-2-clause-begins
returns-in-Err-2-clause-begins g c = rests_begins c.loop-round.invariant.tries c.requires.tickets c.find_spot.ensures.place _
    c.in-Some.is c.find_spot.ensures.searched c.in_ok-leaf.ensures.room c.in-Some-leaf.is (IfOk-at_ok _ c.in-Ok.is c.in_ok-leaf.ensures.at)
    (IfErr-at_err _ c.in-Err-2.is c.in_ok-linked.ensures.busy) refl (IfErr-at_err _ c.in-Err-2.is c.in_ok-linked.ensures.back)
    c.give_up_leaf-in-Err-2.ensures.goes

pub returns-in-Err-2-clause-keeps : goal.returns-in-Err-2-clause-keeps
returns-in-Err-2-clause-keeps g c =
    let tries = c.loop-round.invariant.tries in
    let place = c.find_spot.ensures.place in
    let searched = c.find_spot.ensures.searched in
    let leaf = c.in_ok-leaf.ensures in
    let busy = IfErr-at_err _ c.in-Err-2.is c.in_ok-linked.ensures.busy in
    let back = c.give_up_leaf-in-Err-2.ensures in
    keeps_seat
    (rests_keeps tries c.requires.tickets place _ c.in-Some.is searched leaf.room c.in-Some-leaf.is (IfOk-at_ok _ c.in-Ok.is leaf.at) busy refl
    (IfErr-at_err _ c.in-Err-2.is c.in_ok-linked.ensures.back) back.goes back.at)
    (listed_on c.leaf_in_hand.new.seat c.give_up_leaf-in-Err-2.new.seat (back.seat.1 ∙ c.link_leaf.ensures.seat.1)
    (back.goes.retired ∙ busy.retired) leaf.listed)
    (takes_so c.args.reuse c.args.seat.now.view.hands.spare c.args.seat.now c.give_up_leaf-in-Err-2.new.seat (takes_goes c.args.reuse c.args.seat.now.view.hands.spare c.args.seat.now c.link_leaf.new.seat c.give_up_leaf-in-Err-2.new.seat [] (takes_goes c.args.reuse c.args.seat.now.view.hands.spare c.args.seat.now c.leaf_in_hand.new.seat c.link_leaf.new.seat [] (leaf_took c.args.reuse c.args.seat.now c.find_spot.new.seat c.leaf_in_hand.new.seat (so_far_looked c.args.reuse c.args.seat.now c.loop-round.seat c.find_spot.new.seat c.loop-round.invariant.slots
    (spot_found tries c.requires.tickets place _ c.in-Some.is searched).0 c.find_spot.ensures.seat.1) leaf.slots) busy
    c.link_leaf.ensures.seat.1) back.goes back.seat.1))
