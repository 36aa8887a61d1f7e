-- What calls leave, whole and part by part.
use Rattle.std.specs.Prelude.{◌≡◌, ◌⊎◌, ℕ, ◌+◌, ◌-◌, ◌*◌, ◌≤◌, ◌==◌, if◌then◌else◌, Bool, List, [], ◌∷◌, ◌++◌, length, map, Some, None, ◌≢◌, false, Option, true}
use Rattle.std.specs.List.{AllByRecursion}
use mathlib.Core.List.{IsPrefix}
use Rattle.prcu_marks.specs.declared.mark.Mark.{Mark}
use Rattle.prcu_marks.specs.declared.mark.Mark.TheVariants.{Entered, Left, Began, Ended, Done}
use Rattle.prcu_marks.specs.Callers.{entered_for}
use Rattle.prcu_marks.specs.Marks.{updates_of}
use Rattle.prcu_model.specs.Dictionary.{map_of, IsLegal}
use Rattle.core_state.specs.declared.shape.Shape.{Shape}
use Rattle.core_state.specs.declared.view.Retired.{Retired}
use Rattle.core_state.specs.declared.view.View.{View}
use Rattle.core_state.specs.declared.view.Waiting.{Waiting}
use Rattle.seat_table.specs.Seats.{SeatAt, IsQuietSeat, unlisted}
use Rattle.seat_table.specs.Sections.{HasBegun}
use Rattle.prcu_marks.specs.declared.mark.Side.{Side}
use Rattle.prcu_model.specs.declared.operation.Op.{Op}
use Rattle.prcu_model.specs.declared.operation.Op.TheVariants.{Set, Put}
use Rattle.core_state.specs.declared.view.Held.{Held}
use Rattle.core_state.specs.declared.view.SearchState.TheVariants.{Found}
use Rattle.core_state.specs.Views.{LoadedGeneration, Works}
use Rattle.core_points.specs.declared.stage.Spot.{Spot}
use Rattle.core_points.specs.declared.stage.Stage.{Stage}
use Rattle.core_points.specs.declared.stage.Aim.TheVariants.{Leaf}
use Rattle.seat_table.specs.Gains.{IsSlot}
use Rattle.tree_points.specs.Points.{IsAt, HasAdvanced, KeepsAllowance}
use Rattle.node_slots.specs.Reclaiming.{IsReady}
use Rattle.citrus_tree.specs.declared.insert.Reached.{Reached}
use Rattle.citrus_tree.specs.declared.insert.Reuse.{Reuse}
use Rattle.citrus_tree.specs.declared.replace.Holder.{Holder}
use Rattle.citrus_tree.specs.declared.replace.Replaced.{Replaced}
use Rattle.citrus_tree.specs.Hops.{Records}
use Rattle.citrus_tree.specs.Lookups.{Looked}
use Rattle.std.specs.FinMap as finite
use Rattle.core_points.specs.declared.stage.Stage.TheVariants as at
use Rattle.core_points.specs.declared.stage.Last.TheVariants as last
use Rattle.core_points.specs.declared.stage.Update.TheVariants as update
use Rattle.citrus_tree.specs.declared.insert.Reuse.TheVariants as reuse

-- What a call leaves of marks, and what it leaves alone.
-- Source: docs/TREE_CALLS.md, "The calls".

-- a mark of a section with the key at the place, or of a wait there for everybody
abbrev pub IsOfTry : ℕ → ℕ → Mark → Type 0
IsOfTry place key (Entered p c x) = (p ≡ place) × (x ≡ key)
IsOfTry place key (Left p c) = p ≡ place
IsOfTry place key (Began p c low high) = (p ≡ place) × (low ≡ 0) × (high ≡ 18446744073709551615)
IsOfTry place key (Ended p c) = p ≡ place
IsOfTry place key _ = ⊥

-- how many waits were begun
abbrev pub waits_in : List Mark → ℕ
waits_in [] = 0
waits_in (Began p c low high ∷ ms) = 1 + waits_in ms
waits_in (_ ∷ ms) = waits_in ms

-- Sections with the key were entered and left, one at least. At most one wait was begun, which is for everybody.
pub record AreTries (place key : ℕ) (marks : List Mark) : Type 0 where
  pub each : AllByRecursion (IsOfTry place key) marks
  pub entered : 1 ≤ entered_for place key marks
  pub once : waits_in marks ≤ 1

-- So far the place has begun no wait, and its latest one is as it was: no gate of it was turned.
pub record HasBegunNone (v w : View) : Type 0 where
  pub place : w.allowance.place ≡ v.allowance.place
  pub seen : IsPrefix v.seen w.seen
  pub count : w.counts.waits ≡ v.counts.waits
  pub wait : w.wait ≡ v.wait

-- A wait was begun, before which none had been. The latest wait is that one, or one that was begun later.
pub record HasBegunFirst (v w : View) : Type 0 where
  pub before : View
  pub low : ℕ
  pub high : ℕ
  pub after : View
  pub none : HasBegunNone v before
  pub begun : HasBegun before low high after
  pub seen : IsPrefix after.seen w.seen
  pub wait : Waiting
  pub latest : w.wait ≡ Some wait
  pub later : v.counts.waits ≤ wait.count

-- The call began no wait, and the latest one is as it was; or it was so until the call began one. So no gate was turned of a wait that was
-- begun before the call.
abbrev pub KeepsWait : View → View → Type 0
KeepsWait v w = HasBegunNone v w ⊎ HasBegunFirst v w

-- No slot was free for the place, and it had some to give back: slots were retired at the call, and with these, and as many as each other
-- place may keep from it, the dictionary filled the slots at some front in the call: after these marks. A put begins a wait only there.
pub record NeededRoom (k : Shape) (v w : View) : Type 0 where
  pub retired : 1 ≤ length v.hands.retired
  pub until : List Mark
  pub since : IsPrefix v.seen until
  pub made : IsPrefix until w.seen
  pub fills : k.slots ≤ finite.len (map_of (updates_of until)) + length v.hands.retired + (k.room + 4) * (k.places - 1)

-- A del begins a wait for everybody only where the place had room for one more retired slot at most at the call; or where it had no spare
-- then, and no slot was free for one.
abbrev pub NeededSlots : Shape → View → View → Type 0
NeededSlots k v w = (k.room ≤ length v.hands.retired + 1) ⊎ ((v.hands.spare ≡ None) × NeededRoom k v w)

-- a retired slot with what a later wait needs of it: where its unlinking stands among the marks, and whether it was waited for
abbrev pub retired_marks : View → List (ℕ × ℕ × Bool)
retired_marks v = map (λ (r : Retired). (r.slot, r.unlinked, r.waited)) v.hands.retired

-- What was retired stays so, in its order, and what was retired since is behind.
abbrev pub RetiresBehind : View → View → Type 0
RetiresBehind v w = (later : List (ℕ × ℕ × Bool)) × (retired_marks w ≡ retired_marks v ++ later)

-- No retired slot went back: what was retired and listed stays so, in its order, and what was retired and listed since is behind.
pub record GivesNoneBack (s t : SeatAt) : Type 0 where
  pub retired : RetiresBehind s.view t.view
  pub listed : (later : List ℕ) × (t.listed ≡ s.listed ++ later)

-- Where the place has begun no further wait, its latest one is as it was, and no retired slot went back.
pub record KeepsSlots (s t : SeatAt) : Type 0 where
  pub waits : s.view.counts.waits ≤ t.view.counts.waits
  pub wait : t.view.counts.waits ≡ s.view.counts.waits → t.view.wait ≡ s.view.wait
  pub slots : t.view.counts.waits ≡ s.view.counts.waits → GivesNoneBack s t

-- the marks of retired slots but for those of this slot
abbrev pub without_mark : ℕ → List (ℕ × ℕ × Bool) → List (ℕ × ℕ × Bool)
without_mark slot [] = []
without_mark slot (r ∷ rs) = if r.0 == slot then without_mark slot rs else r ∷ without_mark slot rs

-- No wait was begun, and this retired slot was used again: it is retired and listed no more. All others stay so, in their order.
pub record UsesSlot (slot : ℕ) (s t : SeatAt) : Type 0 where
  pub waits : t.view.counts.waits ≡ s.view.counts.waits
  pub wait : t.view.wait ≡ s.view.wait
  pub retired : retired_marks t.view ≡ without_mark slot (retired_marks s.view)
  pub listed : t.listed ≡ unlisted slot s.listed

-- A put that may use a retired slot again used none, and kept them as any call does; or it used just this one.
abbrev pub KeepsSlotsBy : Reuse → SeatAt → SeatAt → Type 0
KeepsSlotsBy reuse.Free s t = KeepsSlots s t
KeepsSlotsBy (reuse.Retired slot) s t = KeepsSlots s t ⊎ UsesSlot slot s t

-- What a call leaves of all that isn't its answer: the seat is quiet again. No gate was turned of a wait that was begun before, and what was
-- retired and listed stays, as long as no wait is begun, but for a slot that it may use again. At most so many tickets were used, and nothing
-- else of the allowance.
pub record KeepsSeatBy (n : ℕ) (chosen : Reuse) (s t : SeatAt) : Type 0 where
  pub quiet : IsQuietSeat t
  pub wait : KeepsWait s.view t.view
  pub slots : KeepsSlotsBy chosen s t
  pub tickets : s.view.allowance.tickets ≤ t.view.allowance.tickets + n
  pub allowance : KeepsAllowance s.view t.view

-- The same of a call that uses no retired slot again.
abbrev pub KeepsSeat : ℕ → SeatAt → SeatAt → Type 0
KeepsSeat n s t = KeepsSeatBy n reuse.Free s t

-- What the parts of the calls leave.
-- Source: docs/TREE_CALLS.md, "The calls".

-- What the first step of a call tells of its seat: it works at a place, and the table has one.
pub record IsSeated (k : Shape) (v : View) : Type 0 where
  pub works : Works v
  pub some_place : 1 ≤ k.places

-- A call may begin, or try again: it is outside a section and holds no lock, and by what its first step tells it stands at its first point.
pub record MayBegin (k : Shape) (op : Op) (kept : ℕ) (v : View) : Type 0 where
  pub outside : v.section ≡ None
  pub unlocked : v.locks ≡ []
  pub at : IsSeated k v → IsAt k op kept at.EnterClock v

-- These marks were left, and neither the retired slots changed nor the waits.
pub record Goes (v w : View) (marks : List Mark) : Type 0 where
  pub advanced : HasAdvanced v w marks
  pub retired : w.hands.retired ≡ v.hands.retired
  pub wait : w.wait ≡ v.wait
  pub waits : w.counts.waits ≡ v.counts.waits

-- The update was made, as the last of the history so far, which is as long as the number.
pub record MakesUpdate (v : View) (op : Op) (before : List Mark) (number : ℕ) (w : View) : Type 0 where
  pub goes : Goes v w (Done (record { caller = v.allowance.place; op = op }) ∷ [])
  pub since : IsPrefix v.seen before
  pub seen : w.seen ≡ before ++ Done (record { caller = v.allowance.place; op = op }) ∷ []
  pub number_is : number ≡ length (updates_of before) + 1
  pub legal : IsLegal (updates_of w.seen)

-- Exchanges of the front were lost: nothing changed but what is known of the front.
pub record LosesFront (v w : View) : Type 0 where
  pub steps : IsPrefix v.trail.steps w.trail.steps
  pub rest : w ≡ record v { latest = w.latest; trail = w.trail }

-- The front is odd by the view, which found this number.
pub record Opened (v : View) (front : ℕ) (w : View) : Type 0 where
  pub steps : IsPrefix v.trail.steps w.trail.steps
  pub rest : w ≡ record v { commit = Some (record { found = front; stored = false }); latest = w.latest; trail = w.trail }

-- The front is even again.
pub record Closed (v w : View) : Type 0 where
  pub steps : IsPrefix v.trail.steps w.trail.steps
  pub rest : w ≡ record v { commit = None; latest = w.latest; trail = w.trail }

-- what a put's search came to: the empty side at which the key belongs, or that the key is there
abbrev pub Searched : Shape → View → ℕ → Option Reached → View → Type 0
Searched k v key None w = (old : ℕ) × Looked v key (Some old) w
Searched k v key (Some reached) w = (looked : Looked v key None w) × Records looked.reading reached.spot × IsSlot k reached.spot.slot

-- A set's search found the slot that has the key, and recorded its generation. A compare's loaded the value too.
pub record FoundHolder (k : Shape) (v : View) (key : ℕ) (holder : Holder) (w : View) : Type 0 where
  pub old : ℕ
  pub looked : Looked v key (Some old) w
  pub parent : ℕ
  pub side : Side
  pub value : Option ℕ
  pub state_is : looked.reading.state ≡ Found holder.slot parent side value
  pub generation_is : LoadedGeneration looked.reading holder.slot holder.generation
  pub slot_is : IsSlot k holder.slot

-- what a set's search came to: the slot that has the key, with its generation, or that the key is absent
abbrev pub Sought : Shape → View → ℕ → Option Holder → View → Type 0
Sought k v key None w = Looked v key None w
Sought k v key (Some holder) w = FoundHolder k v key holder w

-- So far in a call for the key these marks were left. No wait was begun, and no slot more is retired; or one was, which was needed, and
-- nothing is retired now.
pub record Unwaited (v w : View) (marks : List Mark) : Type 0 where
  pub none : waits_in marks ≡ 0
  pub fewer : length w.hands.retired ≤ length v.hands.retired
  pub wait : w.wait ≡ v.wait
  pub waits : w.counts.waits ≡ v.counts.waits

pub record Waited (k : Shape) (v w : View) (marks : List Mark) : Type 0 where
  pub one : waits_in marks ≡ 1
  pub none : w.hands.retired ≡ []
  pub needed : NeededRoom k v w
  pub wait : HasBegunFirst v w

pub record Since (k : Shape) (v : View) (key : ℕ) (marks : List Mark) (w : View) : Type 0 where
  pub advanced : HasAdvanced v w marks
  pub each : AllByRecursion (IsOfTry v.allowance.place key) marks
  pub waits : Unwaited v w marks ⊎ Waited k v w marks

-- where a put stands that has a record: it has a filled slot in hand, or has to take one
abbrev pub leaf_stage : Option Held → Spot → Stage
leaf_stage None spot = at.Reserve (Leaf spot) 1
leaf_stage (Some held) spot = at.LeafLock spot

-- another value than the one that is asked for, if one is
abbrev pub IsOther : Option ℕ → ℕ → Type 0
IsOther None value = ⊥
IsOther (Some wanted) value = value ≢ wanted

-- this value, or any where none is asked for
abbrev pub IsExpected : Option ℕ → ℕ → Type 0
IsExpected None value = Unit {0}
IsExpected (Some wanted) value = value ≡ wanted

-- the value was stored: just before its update the dictionary gave the key the old one
abbrev pub Stores : View → ℕ → ℕ → Replaced → View → Type 0
Stores v key value done w = (before : List Mark) × MakesUpdate v (Set key value) before done.number w
    × (finite.get (map_of (updates_of before)) key ≡ Some done.old)

-- where a set stands after it tried to store its value
abbrev pub set_stage : Option Replaced → Stage
set_stage None = at.EnterClock
set_stage (Some done) = at.Finished

-- Where the parts of a put stand, and what they leave.
-- Source: docs/TREE_CALLS.md, "The calls".

-- where a put stands that found its key: it has a slot in hand to put back, or is done
abbrev pub old_stage : Option Held → Stage
old_stage None = at.Finished
old_stage (Some held) = at.Raise

-- where it stands after it tried to take a slot
abbrev pub taken_stage : Option ℕ → Spot → Stage
taken_stage None spot = at.Finished
taken_stage (Some slot) spot = at.LeafField spot 0

-- where it stands after it was to have a filled slot in hand
abbrev pub filled_stage : Option ℕ → Spot → Stage
filled_stage None spot = at.Finished
filled_stage (Some slot) spot = at.LeafLock spot

-- where it stands after it compared under the lock what it had recorded
abbrev pub held_stage : Bool → Spot → Stage
held_stage true spot = at.Commit (update.Leaf spot) 0
held_stage false spot = at.Unlock last.Again

-- where it stands after it tried to link its leaf
abbrev pub linked_stage : Option ℕ → Stage
linked_stage None = at.EnterClock
linked_stage (Some number) = at.Finished

-- All retired slots were given back after a wait for everybody, which was needed.
pub record Reused (k : Shape) (v w : View) : Type 0 where
  pub advanced : HasAdvanced v w (Began v.allowance.place v.counts.waits 0 18446744073709551615 ∷ (Ended v.allowance.place v.counts.waits ∷ []))
  pub needed : NeededRoom k v w
  pub none : w.hands.retired ≡ []
  pub wait : HasBegunFirst v w

-- No mark was left and no wait was begun. No slot more is retired, and one less where it was used again.
pub record TakesSlot (v w : View) : Type 0 where
  pub advanced : HasAdvanced v w []
  pub fewer : length w.hands.retired ≤ length v.hands.retired
  pub wait : w.wait ≡ v.wait
  pub waits : w.counts.waits ≡ v.counts.waits

-- No wait was begun; or one was, and the retired slots were given back.
abbrev pub MakesRoom : Shape → View → View → Type 0
MakesRoom k v w = TakesSlot v w ⊎ Reused k v w

-- A put may be told to take its slot so: a retired one was waited for.
abbrev pub MayUse : Reuse → View → Type 0
MayUse reuse.Free v = Unit {0}
MayUse (reuse.Retired slot) v = IsReady v slot

-- the retired slot that is used again: none without a spare
abbrev pub used_slot : Reuse → Option Held → Option ℕ
used_slot (reuse.Retired slot) (Some spare) = Some slot
used_slot _ spare = None

-- what was left of the retired slots where this one was used again, or none
abbrev pub UsesOrKeeps : Option ℕ → SeatAt → SeatAt → Type 0
UsesOrKeeps (Some slot) s t = UsesSlot slot s t
UsesOrKeeps None s t = KeepsSlots s t

-- a slot was taken as a put was told, where the place had this spare, or none
abbrev pub TakesBy : Reuse → Option Held → SeatAt → SeatAt → Type 0
TakesBy chosen spare s t = UsesOrKeeps (used_slot chosen spare) s t

-- the same, unless one was in hand already
abbrev pub LeafBy : Option Held → Reuse → SeatAt → SeatAt → Type 0
LeafBy (Some held) chosen s t = t ≡ s
LeafBy None chosen s t = TakesBy chosen s.view.hands.spare s t

-- The pair was added by the update of this number, the last of the history so far.
abbrev pub Links : View → ℕ → ℕ → ℕ → View → Type 0
Links v key value number w = (before : List Mark) × MakesUpdate v (Put key value) before number w
