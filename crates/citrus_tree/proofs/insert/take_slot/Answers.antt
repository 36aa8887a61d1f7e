use Rattle.std.proofs.Common.{◌∙◌, ℕ, Option, sym, subst, inl}
use Rattle.std.proofs.lemmas.Result.{IfOk-weaker}
use Rattle.std.specs.Prelude.{IfErr, IfOk}
use Rattle.core_points.specs.declared.stage.Aim.TheVariants.{Leaf}
use Rattle.core_points.specs.declared.stage.Spot.{Spot}
use Rattle.core_points.specs.declared.stage.Stage.TheVariants as at
use Rattle.seat_table.specs.Seats.{AreListed, IsSlotOf, SeatAt, shape_of}
use Rattle.node_slots.proofs.Points.{may_reuse, reused_slot, reuses_leaf}
use Rattle.citrus_tree.specs.Deletes.{Comes, StandsAt}
use Rattle.citrus_tree.specs.Going.{KeepsSlots, MakesRoom, UsesOrKeeps, taken_stage}
use Rattle.citrus_tree.proofs.Reusing.{after, before, chosen_ready, chosen_spare, listed_without, takes_retired, uses_slot}
use Rattle.citrus_tree.proofs.insert.take_slot.Goals as goal

pub reuse-requires : goal.reuse-requires
reuse-requires g c = let m = may_reuse c.requires.at.2.2 in let is = sym c.slot_to_use.ensures ∙ c.in-Some.is in record {
  table = c.requires.table;
  ready = chosen_ready c.args.reuse c.args.seat.now.view.hands.spare is c.requires.ready;
  unlocked = m.unlocked;
  settled = m.settled;
  some = chosen_spare c.args.reuse c.args.seat.now.view.hands.spare is;
  empty = m.empty;
  unreserved = m.unreserved;
  ticket = m.ticket;
}

pub returns-in-Some-clause-listed : goal.returns-in-Some-clause-listed
returns-in-Some-clause-listed g c =
    listed_without c.args.seat.now c.reuse.new.seat c.reuse.ensures.view c.reuse.ensures.listed c.requires.listed

pub returns-in-Some-clause-slot : goal.returns-in-Some-clause-slot
returns-in-Some-clause-slot g c slot e =
    subst (λ (o : Option ℕ). IsSlotOf o c.reuse.new.seat.view.hands.hand) e (reused_slot c.reuse.ensures.view)

pub returns-in-Some-clause-room : goal.returns-in-Some-clause-room
returns-in-Some-clause-room g c = inl (takes_retired c.args.seat.now c.reuse.new.seat c.reuse.ensures.view c.reuse.ensures.listed)

pub returns-in-Some-clause-slots : goal.returns-in-Some-clause-slots
returns-in-Some-clause-slots g c = subst (λ (o : Option ℕ). UsesOrKeeps o c.args.seat.now c.reuse.new.seat)
    (sym c.in-Some.is ∙ c.slot_to_use.ensures) (uses_slot c.args.seat.now c.reuse.new.seat c.reuse.ensures.view c.reuse.ensures.listed)

pub returns-in-Some-clause-at : goal.returns-in-Some-clause-at
returns-in-Some-clause-at g c spot expected op kept a = reuses_leaf c.reuse.ensures.view a

-- A note changes nothing that a clause speaks of.

pub take_free-requires-clause-listed : goal.take_free-requires-clause-listed
take_free-requires-clause-listed g c = after AreListed c.note_near.ensures c.requires.listed

pub take_free-requires-clause-at : goal.take_free-requires-clause-at
take_free-requires-clause-at g c = after (λ (z : SeatAt). (spot : Spot) × (expected : ℕ)
    × StandsAt (shape_of g.W.WaitWords.WAY c.args.table.now) (at.Reserve (Leaf spot) expected) z.view) c.note_near.ensures c.requires.at

pub returns-clause-room : goal.returns-clause-room
returns-clause-room g c = before (λ (z : SeatAt). IfOk c.take_free.result
    (λ _. MakesRoom (shape_of g.W.WaitWords.WAY c.args.table.now) z.view c.take_free.new.seat.view)) c.note_near.ensures c.take_free.ensures.room

pub returns-clause-slots : goal.returns-clause-slots
returns-clause-slots g c = IfOk-weaker c.take_free.result _ _ (λ _ kept. subst (λ (o : Option ℕ). UsesOrKeeps o c.args.seat.now c.take_free.new.seat)
    (sym c.in_default.is ∙ c.slot_to_use.ensures)
    (before (λ (z : SeatAt). KeepsSlots z c.take_free.new.seat) c.note_near.ensures kept)) c.take_free.ensures.slots

pub returns-clause-at : goal.returns-clause-at
returns-clause-at g c = before (λ (z : SeatAt). IfOk c.take_free.result (λ answer. IfOk answer (λ (taken : Option ℕ). (spot : Spot) (expected : ℕ)
    → Comes (shape_of g.W.WaitWords.WAY c.args.table.now) (at.Reserve (Leaf spot) expected) z.view (taken_stage taken spot)
    c.take_free.new.seat.view))) c.note_near.ensures c.take_free.ensures.at

pub returns-clause-busy : goal.returns-clause-busy
returns-clause-busy g c = before (λ (z : SeatAt). IfOk c.take_free.result (λ answer. IfErr answer (λ _. (spot : Spot) (expected : ℕ)
    → Comes (shape_of g.W.WaitWords.WAY c.args.table.now) (at.Reserve (Leaf spot) expected) z.view at.Finished
    c.take_free.new.seat.view))) c.note_near.ensures c.take_free.ensures.busy
