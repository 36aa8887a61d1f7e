-- What a lookup makes of a view, and what it answers.
-- Source: docs/TREE_CALLS.md, "The calls".
use Rattle.std.specs.Prelude.{◌≡◌, ℕ, ◌+◌, if◌then◌else◌, Bool, true, false, List, [], ◌∷◌, ◌++◌, length, Option, Some, None}
use mathlib.Core.List.{IsPrefix}
use Rattle.prcu_marks.specs.declared.mark.Mark.{Mark}
use Rattle.prcu_marks.specs.declared.mark.Mark.TheVariants.{Entered, Left}
use Rattle.prcu_model.specs.declared.operation.Reply.TheVariants.{Val, Absent}
use Rattle.prcu_model.specs.declared.operation.Told.{Told}
use Rattle.prcu_model.specs.Dictionary.{WasSaid}
use Rattle.prcu_marks.specs.Marks.{updates_of, own_of}
use Rattle.core_state.specs.declared.view.Reading.{Reading}
use Rattle.core_state.specs.declared.view.SearchState.{SearchState}
use Rattle.core_state.specs.declared.view.SearchState.TheVariants.{At, Unread, Found, Missed}
use Rattle.core_state.specs.declared.view.View.{View}
use Rattle.core_state.specs.declared.words.Kind.{Kind}
use Rattle.citrus_tree.specs.declared.descent.Descent.{Descent}
use Rattle.core_state.specs.declared.words.Kind.TheVariants.{K17}
use Rattle.core_state.specs.Parts.{state_slot}
use Rattle.list_laws.specs.Counts.{IsIn}
use Rattle.seat_table.specs.Gains.{Sees, IsInformed}
use Rattle.seat_table.specs.Sections.{Makes, is_entry, is_exit, HasEntered, IsQuietButSection}
use Rattle.prcu_marks.specs.declared.mark.Side.{Side}
use Rattle.seat_table.specs.Seats.{SeatAt, IsQuietSeat}
use Rattle.citrus_tree.specs.declared.descent.Descent.TheVariants as descent

-- the kinds of step of a lookup: those that enter, loads in the section, those that leave
abbrev pub is_load : Kind → Bool
is_load K17 = true
is_load _ = false

abbrev pub is_of_lookup : Kind → Bool
is_of_lookup kind = if is_load kind then true else if is_entry kind then true else is_exit kind

-- the slot from which it came there
abbrev pub state_parent : SearchState → ℕ
state_parent (At s b) = s
state_parent (Unread s p b) = p
state_parent (Found s p b value) = p
state_parent (Missed s b) = s

-- From the view v a section with the key was entered. Since then there were loads alone, and its search stands there.
pub record IsSearching (v : View) (key : ℕ) (state : SearchState) (w : View) : Type 0 where
  pub entry : View
  pub entered : HasEntered v key entry
  pub reading : Reading
  pub inside : w.section ≡ Some (record entered.section { reading = reading })
  pub key_is : reading.key ≡ key
  pub state_is : reading.state ≡ state
  pub no_walk : reading.walk ≡ None
  pub here : IsIn reading.stood (state_slot state)
  pub above : IsIn reading.stood (state_parent state)
  pub others : w ≡ record entry { section = w.section; trail = w.trail }
  pub made : Makes is_load entry.trail w.trail

-- where a search stands that came to this end
abbrev pub state_of : Descent → SearchState
state_of (descent.Found s p b) = Found s p b None
state_of (descent.Ended s b depth) = Missed s b

-- A section with the key was entered after these marks and left after those. The dictionary gave the answer at a front in between.
-- No step was made but those that enter, load in the section and leave, and nothing else that the view knows changed.
pub record Looked (v : View) (key : ℕ) (answer : Option ℕ) (w : View) : Type 0 where
  pub before : List Mark
  pub until : List Mark
  pub sees : Sees v before
  pub within : IsPrefix (before ++ Entered v.allowance.place v.counts.sections key ∷ []) until
  pub between : own_of v.allowance.place until ≡ own_of v.allowance.place before ++ Entered v.allowance.place v.counts.sections key ∷ []
  pub seen : w.seen ≡ until ++ Left v.allowance.place v.counts.sections ∷ []
  pub said : WasSaid (updates_of w.seen) key (length (updates_of before)) answer
  pub made : Makes is_of_lookup v.trail w.trail
  pub reading : Reading
  pub sought : reading.key ≡ key
  pub others : w ≡ record v {
    enter = w.enter;
    section = None;
    records = reading ∷ v.records;
    counts = record v.counts { sections = v.counts.sections + 1 };
    trail = w.trail;
    seen = w.seen;
  }
  pub informed : IsInformed w

-- what a get is told
abbrev pub told_of : Option ℕ → Told
told_of None = record { reply = Absent; number = 0 }
told_of (Some value) = record { reply = Val value; number = 0 }

-- A get is told what the dictionary gave between the marks of its section.
abbrev pub Gets : View → ℕ → Told → View → Type 0
Gets v key told w = (answer : Option ℕ) × (told ≡ told_of answer) × Looked v key answer w

-- A lookup whose section stays open, and what is known once it is left.
-- Source: docs/TREE_CALLS.md, "The calls".

-- From the view v a section with the key was entered, and is open. Its search has found the key, and loaded this value. The dictionary gave
-- the key that value at a front since the section was entered, by all marks that there were at the load; the seat has seen a beginning of
-- them, and all of its places.
pub record IsHolding (v : View) (key value : ℕ) (w : View) : Type 0 where
  pub slot : ℕ
  pub parent : ℕ
  pub side : Side
  pub found : IsSearching v key (Found slot parent side (Some value)) w
  pub marks : List Mark
  pub sees : Sees w marks
  pub said : WasSaid (updates_of marks) key (length (updates_of found.entered.leaves.before)) (Some value)

-- what a hold comes to: the value, in a section that is open; or the key was absent at a front of a section that was left
abbrev pub HoldsOrNot : View → ℕ → Option ℕ → View → Type 0
HoldsOrNot v key (Some value) w = IsHolding v key value w
HoldsOrNot v key None w = Looked v key None w

-- afterwards the seat is quiet, but for the section that is open
abbrev pub LeavesQuiet : Option ℕ → SeatAt → Type 0
LeavesQuiet (Some value) s = IsQuietButSection s
LeavesQuiet None s = IsQuietSeat s

-- Whatever was held in the section, the dictionary gave at a front between the section's marks.
abbrev pub Releases : View → View → Type 0
Releases w x = (v : View) (key value : ℕ) → IsHolding v key value w → Looked v key (Some value) x
