-- What the rule tells of one view, which works at a place, between any two steps: by its own words and marks, and by how large the table
-- is.
-- Source: docs/TREE_CALLS.md, "What a step sees".
use Rattle.std.specs.Prelude.{◌≡◌, ◌≢◌, ℕ, ◌+◌, ◌*◌, ◌^◌, ◌<◌, ◌≤◌, List, [], ◌∷◌, length, map, Some, None}
use mathlib.Core.Option.{some}
use lib.ListN.{get_elem?}
use Rattle.prcu_marks.specs.declared.mark.Mark.{Mark}
use Rattle.prcu_marks.specs.declared.mark.Side.{Side}
use Rattle.core_state.specs.declared.shape.Shape.{Shape}
use Rattle.core_state.specs.declared.words.Field.{Field}
use Rattle.core_state.specs.declared.words.Field.TheVariants.{Life, Link, Lock}
use Rattle.core_state.specs.declared.view.Held.{Held}
use Rattle.core_state.specs.declared.view.HeldLock.{HeldLock}
use Rattle.core_state.specs.declared.view.Move.{Move}
use Rattle.core_state.specs.declared.view.Reading.{Reading}
use Rattle.core_state.specs.declared.view.Retired.{Retired}
use Rattle.core_state.specs.declared.view.Section.{Section}
use Rattle.core_state.specs.declared.view.View.{View}
use Rattle.list_laws.specs.Counts.{IsIn, Each, times}
use Rattle.core_state.specs.Memory.{Memory}
use Rattle.core_state.specs.Views.{known_in, known_under, HasLock, LoadedGeneration, Works}
use Rattle.core_state.specs.Invariant.{HoldsNow}

-- a load of a field of the slot in hand finds what the view knows there
abbrev pub Tells : View → ℕ → Field → ℕ → Type 0
Tells v s field n = (held : Held) → v.hands.hand ≡ Some held → held.slot ≡ s → (number : ℕ) → known_in held.known field ≡ Some number
    → n ≡ number

-- the place's retired slots are distinct
abbrev pub IsAlone : ℕ → List Retired → Type 0
IsAlone slot rs = Each rs (λ (r : Retired). r.slot ≢ slot)

abbrev pub TellsAlone : View → Type 0
TellsAlone v = (r : Retired) (rs : List Retired) → v.hands.retired ≡ r ∷ rs → IsAlone r.slot rs

-- a view holds each lock once
abbrev pub TellsOnce : View → Type 0
TellsOnce v = (s : ℕ) → times s (map (λ (l : HeldLock). l.slot) v.locks) ≤ 1

-- the keys of a pending move are in order and fit a word, and its update is an old mark
abbrev pub TellsMove : View → List Mark → Type 0
TellsMove v h = (move : Move) → v.moving ≡ Some move → (move.key < move.next_key) × (move.next_key < 2 ^ 64) × (move.made < length h)

-- a slot whose recorded generation was found under its lock isn't the spare
abbrev pub TellsAside : View → Type 0
TellsAside v = (r : Reading) (s generation : ℕ) → IsIn v.records r → LoadedGeneration r s generation
    → known_in (known_under v s) (Life s) ≡ Some (2 * generation)
    → (held : Held) → v.hands.spare ≡ Some held → held.slot ≢ s

-- A link loaded under a lock leads to one of so many slots, whose numbers fit 32 bits: that of a slot whose recorded generation was found
-- there, and that of the old successor of the pending move.
abbrev pub IsChild : ℕ → ℕ → Type 0
IsChild n child = (child < n) × (child < 4294967296)

abbrev pub TellsLinks : ℕ → View → Type 0
TellsLinks n v = (r : Reading) (s generation : ℕ) → IsIn v.records r → LoadedGeneration r s generation
    → known_in (known_under v s) (Life s) ≡ Some (2 * generation)
    → (b : Side) (child : ℕ) → known_in (known_under v s) (Link s b) ≡ Some child → IsChild n child

abbrev pub TellsOldLinks : ℕ → View → Type 0
TellsOldLinks n v = (move : Move) → v.moving ≡ Some move → (b : Side) (child : ℕ)
    → known_in (known_under v move.old) (Link move.old b) ≡ Some child → IsChild n child

-- What the rule tells of the view, where the table has so many slots, places and room at a place, and these are its words and all marks.
pub record IsToldOf (slots places room : ℕ) (v : View) (h : List Mark) (word : Field → ℕ) : Type 0 where
  pub some_place : 1 ≤ places
  pub some_room : 16 ≤ room
  pub loads : (s : ℕ) (field : Field) → Tells v s field (word field)
  pub older : Each v.hands.retired (λ (r : Retired). r.unlinked < length h)
  pub alone : TellsAlone v
  pub spare_comes : v.hands.spare ≡ None → v.hands.retired ≢ []
  pub stood : (section : Section) → v.section ≡ Some section → (s : ℕ) → IsIn section.reading.stood s → s < slots + places + 1
  pub once : TellsOnce v
  pub busy : (s : ℕ) → HasLock v s → word (Lock s) ≢ 0
  pub aside : TellsAside v
  pub moves : TellsMove v h
  pub place_within : v.allowance.place < places
  pub locks_within : (s : ℕ) → HasLock v s → s < slots + places + 1
  pub hand_within : (held : Held) → v.hands.hand ≡ Some held → held.slot < slots + places + 1
  pub spare_within : (held : Held) → v.hands.spare ≡ Some held → held.slot < slots + places + 1
  pub retired_within : Each v.hands.retired (λ (r : Retired). r.slot < slots + places + 1)
  pub move_within : (move : Move) → v.moving ≡ Some move → move.parent < slots + places + 1
  pub links_within : TellsLinks (slots + places + 1) v
  pub old_links_within : TellsOldLinks (slots + places + 1) v

-- The rule tells so much of each view that works at a place.
abbrev pub ViewsAreTold : Type 0
ViewsAreTold = (k : Shape) (m : Memory) (vs : List View) (h : List Mark) (id : ℕ) (v : View) → HoldsNow k m vs h → get_elem? vs id ≡ some v
    → Works v → IsToldOf k.slots k.places k.room v h m
