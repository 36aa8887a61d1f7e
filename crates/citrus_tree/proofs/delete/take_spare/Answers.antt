use Rattle.seat_table.specs.Seats.{shape_of}
use Rattle.node_slots.specs.Taking.{Takes}
use Rattle.node_slots.specs.declared.answers.Taken.{Taken}
use Rattle.node_slots.proofs.Points.{none_retired_now, tries_further}
use Rattle.citrus_tree.proofs.DeleteTries.{found_none_keeps, found_none_room, kept_retired, may_reclaim_spare, needs_kept, ready_kept, ready_spare, room_kept, room_spare}
use Rattle.std.proofs.Common.{[], ap, ◌∙◌, inl, inr, subst}
use Rattle.core_state.specs.declared.view.View.{View}
use Rattle.citrus_tree.proofs.Leavings.{none_back_same, slots_goes, slots_on, slots_reclaimed, slots_same, listed_on}
use Rattle.citrus_tree.proofs.Linking.{goes_none}
use Rattle.citrus_tree.specs.Going.{retired_marks}
use Rattle.citrus_tree.proofs.delete.take_spare.Goals as goal

pub take-requires-clause-unreserved : goal.take-requires-clause-unreserved
take-requires-clause-unreserved g c = c.requires.quiet.view.reserved

pub take-requires-clause-empty : goal.take-requires-clause-empty
take-requires-clause-empty g c = c.requires.quiet.view.hand

pub keep_as_spare-requires-clause-asks : goal.keep_as_spare-requires-clause-asks
keep_as_spare-requires-clause-asks g c = needs_kept c.requires.quiet.view c.requires.few c.requires.none
    (subst (λ (r : Taken). Takes
    (shape_of g.W.WaitWords.WAY c.args.table.now) c.args.seat.now.view r c.take.new.seat.view) c.in-Slot.is c.in_ok-slot.ensures.view)
    c.requires.tickets

pub reclaim-requires-clause-outside : goal.reclaim-requires-clause-outside
reclaim-requires-clause-outside g c = (may_reclaim_spare c.requires.quiet.view c.requires.few c.requires.none
    (subst (λ (r : Taken). Takes
    (shape_of g.W.WaitWords.WAY c.args.table.now) c.args.seat.now.view r c.take.new.seat.view) c.in-Empty.is c.in_ok-slot.ensures.view)
    c.requires.tickets).outside

pub reclaim-requires-clause-unlocked : goal.reclaim-requires-clause-unlocked
reclaim-requires-clause-unlocked g c = (may_reclaim_spare c.requires.quiet.view c.requires.few c.requires.none
    (subst (λ (r : Taken). Takes
    (shape_of g.W.WaitWords.WAY c.args.table.now) c.args.seat.now.view r c.take.new.seat.view) c.in-Empty.is c.in_ok-slot.ensures.view)
    c.requires.tickets).unlocked

pub reclaim-requires-clause-settled : goal.reclaim-requires-clause-settled
reclaim-requires-clause-settled g c = (may_reclaim_spare c.requires.quiet.view c.requires.few c.requires.none
    (subst (λ (r : Taken). Takes
    (shape_of g.W.WaitWords.WAY c.args.table.now) c.args.seat.now.view r c.take.new.seat.view) c.in-Empty.is c.in_ok-slot.ensures.view)
    c.requires.tickets).settled

pub reclaim-requires-clause-paid : goal.reclaim-requires-clause-paid
reclaim-requires-clause-paid g c = (may_reclaim_spare c.requires.quiet.view c.requires.few c.requires.none
    (subst (λ (r : Taken). Takes
    (shape_of g.W.WaitWords.WAY c.args.table.now) c.args.seat.now.view r c.take.new.seat.view) c.in-Empty.is c.in_ok-slot.ensures.view)
    c.requires.tickets).paid

pub reclaim-requires-clause-ticket : goal.reclaim-requires-clause-ticket
reclaim-requires-clause-ticket g c = (may_reclaim_spare c.requires.quiet.view c.requires.few c.requires.none
    (subst (λ (r : Taken). Takes
    (shape_of g.W.WaitWords.WAY c.args.table.now) c.args.seat.now.view r c.take.new.seat.view) c.in-Empty.is c.in_ok-slot.ensures.view)
    c.requires.tickets).ticket

pub reclaim-requires-clause-listed : goal.reclaim-requires-clause-listed
reclaim-requires-clause-listed g c = listed_on c.args.seat.now c.take.new.seat c.take.ensures.seat.1
    (none_retired_now (subst (λ (r : Taken). Takes
    (shape_of g.W.WaitWords.WAY c.args.table.now) c.args.seat.now.view r c.take.new.seat.view) c.in-Empty.is
    c.in_ok-slot.ensures.view)) c.requires.quiet.listed

pub returns-in-Slot-clause-listed : goal.returns-in-Slot-clause-listed
returns-in-Slot-clause-listed g c = listed_on c.args.seat.now c.keep_as_spare.new.seat
    (c.keep_as_spare.ensures.seat.1 ∙ c.take.ensures.seat.1)
    (kept_retired c.requires.quiet.view c.requires.few c.requires.none
    (subst (λ (r : Taken). Takes
    (shape_of g.W.WaitWords.WAY c.args.table.now) c.args.seat.now.view r c.take.new.seat.view) c.in-Slot.is c.in_ok-slot.ensures.view)
    c.keep_as_spare.ensures.told) c.requires.quiet.listed

pub reclaim-requires-clause-unraised : goal.reclaim-requires-clause-unraised
reclaim-requires-clause-unraised g c = (may_reclaim_spare c.requires.quiet.view c.requires.few c.requires.none
    (subst (λ (r : Taken). Takes
    (shape_of g.W.WaitWords.WAY c.args.table.now) c.args.seat.now.view r c.take.new.seat.view) c.in-Empty.is c.in_ok-slot.ensures.view)
    c.requires.tickets).unraised

pub returns-in-Slot-clause-at : goal.returns-in-Slot-clause-at
returns-in-Slot-clause-at g c =
    ready_kept c.requires.quiet.view c.requires.few c.requires.none
    (subst (λ (r : Taken). Takes
    (shape_of g.W.WaitWords.WAY c.args.table.now) c.args.seat.now.view r c.take.new.seat.view) c.in-Slot.is c.in_ok-slot.ensures.view)
    c.keep_as_spare.ensures.told

pub returns-in-Slot-clause-room : goal.returns-in-Slot-clause-room
returns-in-Slot-clause-room g c =
    room_kept c.requires.quiet.view c.requires.few c.requires.none
    (subst (λ (r : Taken). Takes
    (shape_of g.W.WaitWords.WAY c.args.table.now) c.args.seat.now.view r c.take.new.seat.view) c.in-Slot.is c.in_ok-slot.ensures.view)
    c.keep_as_spare.ensures.told (tries_further _ _ _ _ _ _ c.in_ok-slot.ensures.tries)

pub returns-in_ok-reclaim-in-Empty-clause-at : goal.returns-in_ok-reclaim-in-Empty-clause-at
returns-in_ok-reclaim-in-Empty-clause-at g c =
    ready_spare c.requires.quiet.view c.requires.few c.requires.none
    (subst (λ (r : Taken). Takes
    (shape_of g.W.WaitWords.WAY c.args.table.now) c.args.seat.now.view r c.take.new.seat.view) c.in-Empty.is c.in_ok-slot.ensures.view)
    (listed_on c.args.seat.now c.take.new.seat c.take.ensures.seat.1
    (none_retired_now (subst (λ (r : Taken). Takes
    (shape_of g.W.WaitWords.WAY c.args.table.now) c.args.seat.now.view r c.take.new.seat.view) c.in-Empty.is c.in_ok-slot.ensures.view))
    c.requires.quiet.listed).each c.in_ok-reclaim-in-Empty.ensures.view

pub returns-in_ok-reclaim-in-Empty-clause-room : goal.returns-in_ok-reclaim-in-Empty-clause-room
returns-in_ok-reclaim-in-Empty-clause-room g c =
    room_spare c.requires.quiet.view c.requires.few c.requires.none
    (subst (λ (r : Taken). Takes
    (shape_of g.W.WaitWords.WAY c.args.table.now) c.args.seat.now.view r c.take.new.seat.view) c.in-Empty.is c.in_ok-slot.ensures.view)
    (listed_on c.args.seat.now c.take.new.seat c.take.ensures.seat.1
    (none_retired_now (subst (λ (r : Taken). Takes
    (shape_of g.W.WaitWords.WAY c.args.table.now) c.args.seat.now.view r c.take.new.seat.view) c.in-Empty.is c.in_ok-slot.ensures.view))
    c.requires.quiet.listed).each c.in_ok-reclaim-in-Empty.ensures.view (tries_further _ _ _ _ _ _ c.in_ok-slot.ensures.tries)

pub returns-in-Slot-clause-slots : goal.returns-in-Slot-clause-slots
returns-in-Slot-clause-slots g c =
    let t = c.keep_as_spare.ensures.told.goes in
    let taken = (subst
    (λ (r : Taken). Takes
    (shape_of g.W.WaitWords.WAY c.args.table.now) c.args.seat.now.view r c.take.new.seat.view) c.in-Slot.is
    c.in_ok-slot.ensures.view).rest in
    slots_same c.args.seat.now c.keep_as_spare.new.seat (ap (λ (x : View). x.counts.waits) t ∙ ap (λ (x : View). x.counts.waits) taken)
    (ap (λ (x : View). x.wait) t ∙ ap (λ (x : View). x.wait) taken) (ap retired_marks t ∙ ap retired_marks taken)
    (c.keep_as_spare.ensures.seat.1 ∙ c.take.ensures.seat.1)

pub returns-in_ok-reclaim-in-Empty-clause-slots : goal.returns-in_ok-reclaim-in-Empty-clause-slots
returns-in_ok-reclaim-in-Empty-clause-slots g c =
    slots_on c.args.seat.now c.take.new.seat c.reclaim.new.seat
    (slots_goes c.args.seat.now c.take.new.seat []
    (goes_none (subst
    (λ (r : Taken). Takes
    (shape_of g.W.WaitWords.WAY c.args.table.now) c.args.seat.now.view r c.take.new.seat.view) c.in-Empty.is c.in_ok-slot.ensures.view)
    (tries_further _ _ _ _ _ _ c.in_ok-slot.ensures.tries))
    c.take.ensures.seat.1) (slots_reclaimed c.take.new.seat c.reclaim.new.seat c.in_ok-reclaim-in-Empty.ensures.view)

pub returns-in-Slot-clause-kept : goal.returns-in-Slot-clause-kept
returns-in-Slot-clause-kept g c = inl (c.keep_as_spare.ensures.seat.1 ∙ c.take.ensures.seat.1)

pub returns-in_ok-reclaim-in-Empty-clause-kept : goal.returns-in_ok-reclaim-in-Empty-clause-kept
returns-in_ok-reclaim-in-Empty-clause-kept g c = inr c.in_ok-reclaim-in-Empty.ensures.listed

pub returns-in-Slot-clause-stays : goal.returns-in-Slot-clause-stays
returns-in-Slot-clause-stays g c =
    let t = c.keep_as_spare.ensures.told.goes in
    let taken = (subst
    (λ (r : Taken). Takes
    (shape_of g.W.WaitWords.WAY c.args.table.now) c.args.seat.now.view r c.take.new.seat.view) c.in-Slot.is
    c.in_ok-slot.ensures.view).rest in
    inl (none_back_same c.args.seat.now c.keep_as_spare.new.seat (ap retired_marks t ∙ ap retired_marks taken)
    (c.keep_as_spare.ensures.seat.1 ∙ c.take.ensures.seat.1))

pub returns-in_ok-reclaim-in-Empty-clause-stays : goal.returns-in_ok-reclaim-in-Empty-clause-stays
returns-in_ok-reclaim-in-Empty-clause-stays g c = inr c.in_ok-reclaim-in-Empty.ensures.listed

-- where it is busy the free count was asked, and nothing else is changed
pub returns-in-Err-clause-busy : goal.returns-in-Err-clause-busy
returns-in-Err-clause-busy g c =
    let none = subst (λ (r : Taken). Takes
    (shape_of g.W.WaitWords.WAY c.args.table.now) c.args.seat.now.view r c.take.new.seat.view) c.in-Empty.is c.in_ok-slot.ensures.view in
    found_none_keeps c.requires.quiet none (tries_further _ _ _ _ _ _ c.in_ok-slot.ensures.tries) c.take.ensures.seat.1

pub returns-in-Err-clause-room : goal.returns-in-Err-clause-room
returns-in-Err-clause-room g c =
    let none = subst (λ (r : Taken). Takes
    (shape_of g.W.WaitWords.WAY c.args.table.now) c.args.seat.now.view r c.take.new.seat.view) c.in-Empty.is c.in_ok-slot.ensures.view in
    found_none_room none (tries_further _ _ _ _ _ _ c.in_ok-slot.ensures.tries)

pub returns-in-Err-clause-slots : goal.returns-in-Err-clause-slots
returns-in-Err-clause-slots g c =
    let none = subst (λ (r : Taken). Takes
    (shape_of g.W.WaitWords.WAY c.args.table.now) c.args.seat.now.view r c.take.new.seat.view) c.in-Empty.is c.in_ok-slot.ensures.view in
    slots_goes c.args.seat.now c.take.new.seat [] (goes_none none (tries_further _ _ _ _ _ _ c.in_ok-slot.ensures.tries)) c.take.ensures.seat.1

pub returns-in-Err-clause-kept : goal.returns-in-Err-clause-kept
returns-in-Err-clause-kept g c = inl c.take.ensures.seat.1

pub returns-in-Err-clause-stays : goal.returns-in-Err-clause-stays
returns-in-Err-clause-stays g c =
    let none = subst (λ (r : Taken). Takes
    (shape_of g.W.WaitWords.WAY c.args.table.now) c.args.seat.now.view r c.take.new.seat.view) c.in-Empty.is c.in_ok-slot.ensures.view in
    inl (none_back_same c.args.seat.now c.take.new.seat (ap retired_marks none.rest) c.take.ensures.seat.1)

pub returns-in-Err-clause-listed : goal.returns-in-Err-clause-listed
returns-in-Err-clause-listed g c = listed_on c.args.seat.now c.take.new.seat c.take.ensures.seat.1
    (none_retired_now (subst (λ (r : Taken). Takes
    (shape_of g.W.WaitWords.WAY c.args.table.now) c.args.seat.now.view r c.take.new.seat.view) c.in-Empty.is
    c.in_ok-slot.ensures.view)) c.requires.quiet.listed
