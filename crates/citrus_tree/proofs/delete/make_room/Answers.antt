use Rattle.std.proofs.Common.{◌+◌, ◌<◌, ◌≤◌, length, sym, ap, ◌∙◌, inl, inr, refl, arith}
use Rattle.node_slots.proofs.Returns.{listed_length}
use Rattle.node_slots.proofs.Points.{reclaim_retired}
use Rattle.tree_points.proofs.Passing.{none_raised}
use Rattle.std.proofs.lemmas.Result.{IfOk-weaker}
use Rattle.citrus_tree.proofs.DeleteTries.{empty_listed, given_spare, no_spare, ready_at_once, ready_reclaimed, room_reclaimed, room_same, same_room}
use Rattle.citrus_tree.proofs.Leavings.{keeps_same, none_back_same, slots_reclaimed, slots_self}
use Rattle.citrus_tree.proofs.delete.make_room.Goals as goal

pub reclaim-requires-clause-outside : goal.reclaim-requires-clause-outside
reclaim-requires-clause-outside g c = c.requires.quiet.view.section

pub reclaim-requires-clause-unlocked : goal.reclaim-requires-clause-unlocked
reclaim-requires-clause-unlocked g c = c.requires.quiet.view.locks

pub reclaim-requires-clause-settled : goal.reclaim-requires-clause-settled
reclaim-requires-clause-settled g c = c.requires.quiet.view.moving

pub reclaim-requires-clause-paid : goal.reclaim-requires-clause-paid
reclaim-requires-clause-paid g c = c.requires.quiet.view.owes

pub reclaim-requires-clause-listed : goal.reclaim-requires-clause-listed
reclaim-requires-clause-listed g c = c.requires.quiet.listed

pub returns-then-retired-room-clause-listed : goal.returns-then-retired-room-clause-listed
returns-then-retired-room-clause-listed g c =
    empty_listed c.reclaim.new.seat c.in_ok-reclaim.ensures.listed (reclaim_retired c.in_ok-reclaim.ensures.view)

pub take_spare-requires-clause-none : goal.take_spare-requires-clause-none
take_spare-requires-clause-none g c = no_spare c.spare.result c.args.seat.now.view.hands.spare c.spare.ensures
    (sym c.is_some.ensures ∙ c.if-is_some.false)

pub returns-then-is_some-clause-listed : goal.returns-then-is_some-clause-listed
returns-then-is_some-clause-listed g c = c.requires.quiet.listed

pub reclaim-requires-clause-unraised : goal.reclaim-requires-clause-unraised
reclaim-requires-clause-unraised g c = none_raised c.args.seat.now.view.hands.retired c.requires.quiet.view.raised

pub returns-then-retired-room-clause-at : goal.returns-then-retired-room-clause-at
returns-then-retired-room-clause-at g c =
    let many : c.args.table.now.room ≤ length c.args.seat.now.view.hands.retired + 1 =
    (let a = c.if-retired-room.true in let b = ap length c.retired.ensures in let d = c.room.ensures.room in
    let e = listed_length c.args.seat.now c.requires.quiet.listed in let f = same_room c.requires.table in omega arith) in
    let roomy : 2 ≤ c.args.table.now.room = (let least = c.room.ensures.few.0 in let d = c.room.ensures.room in
    let f = same_room c.requires.table in omega arith) in
    ready_reclaimed c.requires.quiet.view roomy many c.requires.quiet.listed.each c.in_ok-reclaim.ensures.view

pub returns-then-retired-room-clause-room : goal.returns-then-retired-room-clause-room
returns-then-retired-room-clause-room g c =
    let many : c.args.table.now.room ≤ length c.args.seat.now.view.hands.retired + 1 =
    (let a = c.if-retired-room.true in let b = ap length c.retired.ensures in let d = c.room.ensures.room in
    let e = listed_length c.args.seat.now c.requires.quiet.listed in let f = same_room c.requires.table in omega arith) in
    room_reclaimed c.in_ok-reclaim.ensures.view (inl many)

pub returns-then-is_some-clause-at : goal.returns-then-is_some-clause-at
returns-then-is_some-clause-at g c =
    let few : length c.args.seat.now.view.hands.retired + 1 < c.args.table.now.room =
    (let a = c.if-retired-room.false in let b = ap length c.retired.ensures in let d = c.room.ensures.room in
    let e = listed_length c.args.seat.now c.requires.quiet.listed in let f = same_room c.requires.table in omega arith) in
    ready_at_once c.requires.quiet.view few (given_spare c.spare.result c.args.seat.now.view.hands.spare c.spare.ensures
    (sym c.is_some.ensures ∙ c.if-is_some.true))

pub take_spare-requires-clause-few : goal.take_spare-requires-clause-few
take_spare-requires-clause-few g c =
    let many = c.if-retired-room.false in
    let same = ap length c.retired.ensures in
    let long = listed_length c.args.seat.now c.requires.quiet.listed in
    let room = c.room.ensures.room in
    let table = same_room c.requires.table in
    omega arith

pub returns-then-retired-room-clause-slots : goal.returns-then-retired-room-clause-slots
returns-then-retired-room-clause-slots g c = slots_reclaimed c.args.seat.now c.reclaim.new.seat c.in_ok-reclaim.ensures.view

pub returns-then-is_some-clause-slots : goal.returns-then-is_some-clause-slots
returns-then-is_some-clause-slots g c = slots_self c.args.seat.now

pub returns-then-retired-room-clause-kept : goal.returns-then-retired-room-clause-kept
returns-then-retired-room-clause-kept g c = inr c.in_ok-reclaim.ensures.listed

pub returns-then-is_some-clause-kept : goal.returns-then-is_some-clause-kept
returns-then-is_some-clause-kept g c = inl refl

pub returns-then-is_some-clause-room : goal.returns-then-is_some-clause-room
returns-then-is_some-clause-room g c = room_same c.args.seat.now.view

pub returns-then-retired-room-clause-at_once : goal.returns-then-retired-room-clause-at_once
returns-then-retired-room-clause-at_once g c few some =
    let many = c.if-retired-room.true in
    let same = ap length c.retired.ensures in
    let long = listed_length c.args.seat.now c.requires.quiet.listed in
    let room = c.room.ensures.room in
    let table = same_room c.requires.table in
    absurd (omega arith)

pub returns-then-is_some-clause-at_once : goal.returns-then-is_some-clause-at_once
returns-then-is_some-clause-at_once g c few some = refl

pub returns-clause-at_once : goal.returns-clause-at_once
returns-clause-at_once g c = IfOk-weaker c.take_spare.result _ _ (λ answer kept few some. absurd (some
    (no_spare c.spare.result c.args.seat.now.view.hands.spare c.spare.ensures (sym c.is_some.ensures ∙ c.if-is_some.false))))
    c.take_spare.ensures.kept

pub returns-then-retired-room-clause-stays : goal.returns-then-retired-room-clause-stays
returns-then-retired-room-clause-stays g c = inr c.in_ok-reclaim.ensures.listed

pub returns-then-is_some-clause-stays : goal.returns-then-is_some-clause-stays
returns-then-is_some-clause-stays g c = inl (none_back_same c.args.seat.now c.args.seat.now refl refl)

-- where it is busy nothing was done

pub returns-in-Err-clause-busy : goal.returns-in-Err-clause-busy
returns-in-Err-clause-busy g c = keeps_same c.requires.quiet

pub returns-in-Err-clause-room : goal.returns-in-Err-clause-room
returns-in-Err-clause-room g c = room_same c.args.seat.now.view

pub returns-in-Err-clause-slots : goal.returns-in-Err-clause-slots
returns-in-Err-clause-slots g c = slots_self c.args.seat.now

pub returns-in-Err-clause-kept : goal.returns-in-Err-clause-kept
returns-in-Err-clause-kept g c = inl refl

pub returns-in-Err-clause-stays : goal.returns-in-Err-clause-stays
returns-in-Err-clause-stays g c = inl (none_back_same c.args.seat.now c.args.seat.now refl refl)

pub returns-in-Err-clause-listed : goal.returns-in-Err-clause-listed
returns-in-Err-clause-listed g c = c.requires.quiet.listed

pub returns-in-Err-clause-at_once : goal.returns-in-Err-clause-at_once
returns-in-Err-clause-at_once g c few some = refl
