-- What is promised of the points, with what the rule and the history tell a caller.
use Rattle.std.specs.Prelude.{◌≡◌, ℕ, false, List, [], None, ◌+◌, ◌-◌, ◌*◌, ◌/◌, ◌≤◌, true, length, Some, ◌++◌, set, ◌^◌, ◌<◌, Bool}
use Rattle.prcu_marks.specs.declared.mark.Mark.{Mark}
use Rattle.core_state.specs.declared.words.Field.{Field}
use Rattle.core_state.specs.declared.view.Retired.{Retired}
use Rattle.core_state.specs.declared.view.View.{View}
use Rattle.list_laws.specs.Counts.{Each}
use Rattle.core_frames.specs.Telling.{IsToldOf}
use Rattle.core_points.specs.Programs.{Own, is_none_left, is_some, key_now, Act, Needs, field_of, is_step, view_after, act_at, after, begun_with}
use Rattle.core_points.specs.Facts.{Bare, Owns}
pub use Rattle.core_frames.specs.Telling.{Tells, IsAlone, TellsAlone, TellsOnce, TellsMove, TellsAside}
use mathlib.Core.Option.{some}
use lib.ListN.{get_elem?}
use Rattle.prcu_marks.specs.Marks.{updates_of}
use Rattle.prcu_model.specs.Dictionary.{WasSaid, map_of, key_of}
use Rattle.core_state.specs.declared.shape.Shape.{Shape}
use Rattle.core_state.specs.declared.words.Field.TheVariants.{Free}
use Rattle.core_state.specs.declared.view.Section.{Section}
use Rattle.core_state.specs.Memory.{Memory, stored}
use Rattle.core_state.specs.Invariant.{HoldsNow, Invariant}
use Rattle.core_points.specs.declared.stage.Aim.TheVariants.{Leaf}
use Rattle.core_points.specs.declared.stage.Stage.{Stage}
use Rattle.core_points.specs.declared.stage.Update.{Update}
use Rattle.core_points.specs.Fits.{Fits}
use Rattle.prcu_model.specs.declared.operation.Op.{Op}
use Rattle.core_state.specs.declared.shape.Waiter.TheVariants.{Eer}
use Rattle.core_state.specs.declared.words.Kind.{Kind}
use Rattle.core_state.specs.Views.{Works}
use Rattle.core_state.specs.Steps.{new_view, stepped}
use Rattle.core_frames.specs.Laws.{KeepsPast}
use Rattle.core_state.specs.Acts.{IsWord, said, left, done, marks}
use Rattle.std.specs.FinMap as finite
use Rattle.core_points.specs.declared.stage.Stage.TheVariants as at
use Rattle.core_points.specs.declared.stage.Then.TheVariants as then
use Rattle.core_points.specs.declared.stage.Update.TheVariants as update

-- What the rule tells a caller of its own view at its step, and the caller between two calls.
-- Source: docs/TREE_CALLS.md, "The calls".

-- a place without a spare has a retired slot
abbrev pub SpareComes : Own → Type 0
SpareComes o = is_some o.spare ≡ false → is_none_left o.retired ≡ false

-- What the rule tells of the view at its step, with these words.
abbrev pub IsTold : Own → View → List Mark → (Field → ℕ) → Type 0
IsTold o v h word = IsToldOf o.slots o.places o.room v h word

-- Outside a section, with nothing under way and nothing in hand.
pub record IsFree (o : Own) (v : View) : Type 0 where
  pub owns : Owns o v
  pub outside : v.section ≡ None
  pub empty : o.hand ≡ None
  pub bare : Bare v [] None false
  pub no_hand : v.hands.hand ≡ None
  pub unraised : Each v.hands.retired (λ (r : Retired). r.raised ≡ false)

-- What the history says of the answer that a call is about to give.
-- Source: docs/TREE_CALLS.md, "The calls".

-- the value that a set replaces is the key's now
abbrev pub ReplacesOld : List Mark → Own → Update → Type 0
ReplacesOld h o (update.Value s old) = finite.get (map_of (updates_of h)) (key_now o) ≡ Some old
ReplacesOld h o _ = Unit {0}

-- A search's answer was the dictionary's at a front since its section was entered. Who finds nothing free, with no slot to give back,
-- has a large dictionary. The number of an update is its place in the history.
abbrev pub IsSaid : Shape → Memory → List Mark → Own → View → Stage → Type 0
IsSaid k m h o v (at.Leave then.Absent) = (section : Section) × (v.section ≡ Some section)
    × WasSaid (updates_of h) (key_now o) section.from None
IsSaid k m h o v (at.Leave (then.Value value)) =
    (section : Section) × (v.section ≡ Some section) × WasSaid (updates_of h) (key_now o) section.from (Some value)
IsSaid k m h o v (at.Leave then.Old) = (section : Section) × (v.section ≡ Some section)
    × ((value : ℕ) × WasSaid (updates_of h) (key_now o) section.from (Some value))
IsSaid k m h o v (at.Reserve (Leaf spot) expected) =
    is_none_left o.retired ≡ true → m Free ≡ 0 → k.slots ≤ finite.len (map_of (updates_of h)) + (k.room + 4) * (k.places - 1)
IsSaid k m h o v (at.Store u front) = ((front + 2) / 2 ≡ length (updates_of h) + 1) × ReplacesOld h o u
IsSaid k m h o v _ = Unit {0}

-- The answers are explained, at each point that fixes one.
abbrev pub AnswersAreSaid : Type 0
AnswersAreSaid = (k : Shape) (m : Memory) (vs : List View) (h : List Mark) (id : ℕ) (o : Own) (v : View) (stage : Stage) → HoldsNow k m vs h
    → get_elem? vs id ≡ some v → Fits o stage v → IsSaid k m h o v stage

-- What is promised of the calls' points.
-- Source: docs/TREE_CALLS.md, "The calls".

-- What the invariant tells a view that works at a place.
abbrev pub RuleTells : Type 0
RuleTells = (k : Shape) (m : Memory) (vs : List View) (h : List Mark) (id : ℕ) (o : Own) (v : View) → HoldsNow k m vs h
    → get_elem? vs id ≡ some v → Works v → k.slots ≡ o.slots → k.places ≡ o.places → k.room ≡ o.room → IsTold o v h m

-- At each point of each call, what its act needs is given. Only the waiter's own acts ask which waiter it is.
abbrev pub NeedsAreGiven : Type 0
NeedsAreGiven = (k : Shape) (h : List Mark) (o : Own) (v : View) (word : Field → ℕ) (n : ℕ) (stage : Stage)
    → (is_step (act_at o stage) ≡ false → k.waiter ≡ Eer) → k.places ≡ o.places → k.room ≡ o.room → IsTold o v h word
    → Fits o stage v
    → Needs k v n (act_at o stage)

abbrev pub is_finished : Stage → Bool
is_finished at.Finished = true
is_finished _ = false

-- After the act the view fits the next point, whatever number the act found.
abbrev pub NextFits : Type 0
NextFits = (h : List Mark) (o : Own) (v : View) (word : Field → ℕ) (stage : Stage) → IsTold o v h word → is_finished stage ≡ false
    → Fits o stage v
    → let a : Act = act_at o stage in let n : ℕ = said v a (word (field_of o.place a)) in
    Fits (after o n stage) (after o n stage).stage (view_after v h n a)

-- A view with one more step in its trail fits the same point, and is told the same.
abbrev pub TrailsAreFree : Type 0
TrailsAreFree = (h : List Mark) (o : Own) (v : View) (word : Field → ℕ) (stage : Stage) (kind : Kind) (field : Field) (number : ℕ)
    → (Fits o stage v → Fits o stage (stepped v kind field number)) × (IsTold o v h word → IsTold o (stepped v kind field number) h word)

-- The word of the act is one of the table's.
abbrev pub ActsAreWithin : Type 0
ActsAreWithin = (k : Shape) (h : List Mark) (o : Own) (v : View) (word : Field → ℕ) (stage : Stage)
    → (is_step (act_at o stage) ≡ false → k.waiter ≡ Eer) → k.slots ≡ o.slots → k.places ≡ o.places → k.room ≡ o.room → IsTold o v h word
    → Fits o stage v → IsWord k (field_of o.place (act_at o stage))

-- A caller between two calls fits the first point of its next one, with four tickets for each operation and those that it keeps.
abbrev pub CallsBegin : Type 0
CallsBegin = (o : Own) (v : View) (ops : List Op) → IsFree o v → Each ops (λ op. key_of op < 2 ^ 64)
    → 4 * length ops + o.kept ≤ v.allowance.tickets → Fits (begun_with o ops) (begun_with o ops).stage v

-- A view that works at a place for the first time is so for a caller that keeps nothing but the place's spare.
abbrev pub NewViewsAreFree : Type 0
NewViewsAreFree = (o : Own) (tickets : ℕ) (seen : List Mark) → o.hand ≡ None → o.spare ≡ Some (o.place + 1) → o.retired ≡ [] → o.locks ≡ []
    → 1 ≤ o.scan → o.scan ≤ o.slots + o.places → key_now o < 2 ^ 64
    → Each o.rest (λ op. key_of op < 2 ^ 64) → IsFree o (new_view o.place 1 tickets seen)

-- A view that makes the act of its point keeps the invariant, and fits the next point.
abbrev pub PointsKeep : Type 0
PointsKeep = (k : Shape) (m : Memory) (vs : List View) (h : List Mark) (id : ℕ) (o : Own) (v : View) → Invariant k m vs h
    → get_elem? vs id ≡ some v → k.waiter ≡ Eer → k.slots ≡ o.slots → k.places ≡ o.places → k.room ≡ o.room
    → is_finished o.stage ≡ false → Fits o o.stage v
    → let a : Act = act_at o o.stage in let field : Field = field_of o.place a in let n : ℕ = m field in let w : View = done v a h n in
    let o' : Own = after o (said v a n) o.stage in
    Invariant k (stored m field (left v a n)) (set vs id w) (h ++ marks v a n) × KeepsPast m h (stored m field (left v a n))
    × Fits o' o'.stage w
