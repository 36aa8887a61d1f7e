use Rattle.std.proofs.Common.{length, inl, inr, refl, ap, arith}
use Rattle.node_slots.proofs.Returns.{listed_length}
use Rattle.citrus_tree.proofs.DeleteTries.{same_room}
use Rattle.tree_lift.proofs.Attempts.{may_reclaim_room}
use Rattle.tree_lift.proofs.room.make_room.Goals as goal

pub returns-then-retired-room-clause-room : goal.returns-then-retired-room-clause-room
returns-then-retired-room-clause-room g c =
    let few = c.if-retired-room.true in
    let same = ap length c.retired.ensures in
    let long = listed_length c.args.seat.now c.requires.quiet.listed in
    let room = c.room.ensures.room in
    let table = same_room c.requires.table in
    inl (refl, omega arith)

pub returns-then-not-hard-clause-room : goal.returns-then-not-hard-clause-room
returns-then-not-hard-clause-room g c =
    let many = c.if-retired-room.false in
    let same = ap length c.retired.ensures in
    let long = listed_length c.args.seat.now c.requires.quiet.listed in
    let room = c.room.ensures.room in
    let table = same_room c.requires.table in
    (refl, c.if-not-hard.true, omega arith)

pub reclaim-requires-clause-outside : goal.reclaim-requires-clause-outside
reclaim-requires-clause-outside g c = c.requires.quiet.view.section

pub reclaim-requires-clause-unlocked : goal.reclaim-requires-clause-unlocked
reclaim-requires-clause-unlocked g c = c.requires.quiet.view.locks

pub reclaim-requires-clause-settled : goal.reclaim-requires-clause-settled
reclaim-requires-clause-settled g c = c.requires.quiet.view.moving

pub reclaim-requires-clause-paid : goal.reclaim-requires-clause-paid
reclaim-requires-clause-paid g c = c.requires.quiet.view.owes

pub reclaim-requires-clause-listed : goal.reclaim-requires-clause-listed
reclaim-requires-clause-listed g c = c.requires.quiet.listed

pub reclaim-requires-clause-unraised : goal.reclaim-requires-clause-unraised
reclaim-requires-clause-unraised g c = (may_reclaim_room c.args.seat.now c.requires.quiet c.requires.ticket).unraised

pub returns-clause-room : goal.returns-clause-room
returns-clause-room g c =
    let same = ap length c.retired.ensures in
    let long = listed_length c.args.seat.now c.requires.quiet.listed in
    let room = c.room.ensures.room in
    let table = same_room c.requires.table in
    inr (record {
      stands_still = c.if-not-hard.false;
      many = (let many = c.if-retired-room.false in omega arith);
      roomy = (let least = c.room.ensures.few.0 in omega arith);
      back = c.in_ok-reclaim.ensures.view;
      listed = c.in_ok-reclaim.ensures.listed;
    })

pub returns-clause-informed : goal.returns-clause-informed
returns-clause-informed g c = λ was. c.in_ok-reclaim.ensures.informed
