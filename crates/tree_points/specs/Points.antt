-- Calls over the points on the table: where one stands, what it has left, and what is promised.
use Rattle.std.specs.Prelude.{◌≡◌, ℕ, List, [], Some, ◌≢◌, ◌+◌, ◌*◌, ◌≤◌, ◌∷◌, ◌++◌, length, None, true}
use Rattle.prcu_model.specs.declared.operation.Op.{Op}
use Rattle.core_state.specs.declared.shape.Shape.{Shape}
use Rattle.core_state.specs.declared.view.Held.{Held}
use Rattle.core_state.specs.declared.view.View.{View}
use Rattle.core_state.specs.declared.words.Field.TheVariants.{Life}
use Rattle.core_state.specs.Views.{known_in, IsQuiet}
use Rattle.core_points.specs.declared.stage.Stage.{Stage}
use Rattle.core_points.specs.Programs.{Own, act_at, after, is_step}
use Rattle.core_points.specs.Facts.{SameLocks}
use Rattle.core_points.specs.Fits.{Fits}
use mathlib.Core.List.{IsPrefix}
use Rattle.prcu_marks.specs.declared.mark.Mark.{Mark}
use Rattle.prcu_marks.specs.declared.mark.Mark.TheVariants.{Done}
use Rattle.prcu_marks.specs.Marks.{own_of, updates_of}
use Rattle.seat_table.specs.Gains.{Sees, TellsNow, Told}
use Rattle.core_state.specs.Acts.{Asks}
use Rattle.core_points.specs.declared.stage.Stage.TheVariants as at

-- Where a call stands, on a table of some shape: its view fits a point of the call.
-- Source: docs/TREE_CALLS.md, "The calls".

-- A call of this operation stands at this point, and leaves so many of its tickets alone. Of what else a caller keeps it says
-- only that the view fits it.
pub record IsAt (k : Shape) (op : Op) (kept : ℕ) (stage : Stage) (v : View) : Type 0 where
  pub own : Own
  pub op_is : own.op ≡ op
  pub slots_are : own.slots ≡ k.slots
  pub places_are : own.places ≡ k.places
  pub room_is : own.room ≡ k.room
  pub last : own.rest ≡ []
  pub keeps : own.kept ≡ kept
  pub fits : Fits own stage v

-- The call has answered.
abbrev pub IsDone : Shape → Op → ℕ → View → Type 0
IsDone k op kept v = IsAt k op kept at.Finished v

-- The view holds the locks of these slots and no others.
pub record HasLocks (slots : List ℕ) (v : View) : Type 0 where
  pub same : SameLocks slots v.locks

-- The slot is in hand, and its life was last loaded or stored as this.
pub record KnowsLife (v : View) (slot life : ℕ) : Type 0 where
  pub held : Held
  pub in_hand : v.hands.hand ≡ Some held
  pub slot_is : held.slot ≡ slot
  pub life_is : known_in held.known (Life slot) ≡ Some life

-- What a call has left of marks between two moments.
-- Source: docs/TREE_CALLS.md, "The calls".

-- Of what a seat may work with only its tickets changed: it has the same places, and the same seats were joined into it.
pub record KeepsAllowance (v w : View) : Type 0 where
  pub rest : w.allowance ≡ record v.allowance { tickets = w.allowance.tickets }

-- At the same place the seat has made more steps, has seen more, and of its own exactly these marks. Of what it may work with only its
-- tickets changed.
pub record HasAdvanced (v w : View) (marks : List Mark) : Type 0 where
  pub steps : IsPrefix v.trail.steps w.trail.steps
  pub same : w.allowance.place ≡ v.allowance.place
  pub allowance : KeepsAllowance v w
  pub begins : IsPrefix v.seen w.seen
  pub own : own_of v.allowance.place w.seen ≡ own_of v.allowance.place v.seen ++ marks

-- The operation's update was made, after all marks that there were, of which the seat has seen a beginning. It is the place's one mark; and
-- the front that was found before says how many updates there were.
pub record HasUpdated (v : View) (op : Op) (front : ℕ) (w : View) : Type 0 where
  pub before : List Mark
  pub sees : Sees v before
  pub more : List Mark
  pub seen : w.seen ≡ before ++ Done (record { caller = v.allowance.place; op = op }) ∷ more
  pub advanced : HasAdvanced v w (Done (record { caller = v.allowance.place; op = op }) ∷ [])
  pub counted : front ≡ 2 * length (updates_of before)

-- All of the place's retired slots were given back, by one wait and with one ticket at most; the place has a spare. What a call knows of
-- the
-- rest is as it was.
pub record HasGivenAll (v w : View) : Type 0 where
  pub place : w.allowance.place ≡ v.allowance.place
  pub places : w.allowance.places ≡ v.allowance.places
  pub paid : v.allowance.tickets ≤ w.allowance.tickets + 1
  pub section : w.section ≡ v.section
  pub records : w.records ≡ v.records
  pub locks : w.locks ≡ v.locks
  pub commit : w.commit ≡ v.commit
  pub moving : w.moving ≡ v.moving
  pub reserved : w.hands.reserved ≡ v.hands.reserved
  pub owes : w.hands.owes ≡ v.hands.owes
  pub hand : w.hands.hand ≡ v.hands.hand
  pub retired : w.hands.retired ≡ []
  pub spare : w.hands.spare ≢ None

-- What is promised of the points over the table.
-- Source: docs/TREE_CALLS.md, "The calls".

-- At each point whose step is none of the waiter's, what the table asks for the step is given, whatever the waiter.
abbrev pub StepsAreAsked : Type 0
StepsAreAsked = (k : Shape) (op : Op) (kept : ℕ) (v : View) (stage : Stage) (a : IsAt k op kept stage v)
    → is_step (act_at a.own stage) ≡ true → TellsNow k v → Asks k v (act_at a.own stage)

-- After such a step the call stands at the next point, whatever number the step found.
abbrev pub StepsPass : Type 0
StepsPass = (k : Shape) (op : Op) (kept : ℕ) (v w : View) (n : ℕ) (stage : Stage) (a : IsAt k op kept stage v)
    → is_step (act_at a.own stage) ≡ true → Told k v (act_at a.own stage) n w
    → IsAt k op kept (after a.own n stage).stage w

-- A call that has answered is quiet, and has left those tickets alone.
abbrev pub CallsEnd : Type 0
CallsEnd = (k : Shape) (op : Op) (kept : ℕ) (v : View) → IsDone k op kept v → IsQuiet v × (kept ≤ v.allowance.tickets)
