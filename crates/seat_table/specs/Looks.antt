-- The looks of a poll: what one tells, what they found one after another, and where they are made.
use Rattle.std.specs.Prelude.{◌≡◌, Bool, List, Some, ℕ, ◌<◌, ◌⊎◌, [], ◌∷◌, ◌++◌, ◌≤◌}
use Rattle.prcu_marks.specs.declared.mark.Why.{Why}
use Rattle.core_state.specs.declared.words.Field.{Field}
use Rattle.core_state.specs.declared.view.StepMade.{StepMade}
use Rattle.core_state.specs.declared.view.Waiting.{Waiting}
use Rattle.core_state.specs.declared.view.View.{View}
use Rattle.seat_table.specs.Waits.{HasLooked, Passed, Shows, Made, Reached, IsBefore}
use Rattle.std.specs.List.{AllByRecursion, flat_map}
use Rattle.prcu_marks.specs.declared.mark.Why.TheVariants.{Reader, Counter, Row as RowOf}
use Rattle.core_state.specs.declared.words.Field.TheVariants.{Announced, Stamp, Gate, Count, Row}
use Rattle.core_state.specs.declared.words.Kind.{Kind}
use Rattle.core_state.specs.declared.words.Kind.TheVariants.{K8, K28, K31, K32, K35}
use Rattle.core_state.specs.Memory.{idle}
use Rattle.key_interval.specs.Keys.{Interval, Holds, MeetsClass}
use Rattle.seat_table.specs.declared.wait.Poll.{Poll}
use Rattle.seat_table.specs.declared.wait.Poll.TheVariants.{Over, NotYet}
use Rattle.core_state.specs.Steps.{spot_seen}

-- What one look of a poll tells, whatever the waiter: one load, or more of them, of a word in which a reader may stand.
-- Source: docs/TREE_CALLS.md, "The tree's waits".

-- No reader that the wait is for stands there. The last such look ends the wait.
abbrev pub HasPassed : View → Bool → Field → View → Type 0
HasPassed v last field w = (wait : Waiting) × (steps : List StepMade) × (v.wait ≡ Some wait) × Passed v wait last steps field w

-- What was found may be a reader's for whom the wait is. The wait is as it was.
abbrev pub HasMet : View → Why → View → Type 0
HasMet v why w = (wait : Waiting) × (steps : List StepMade) × (v.wait ≡ Some wait) × HasLooked v wait steps wait w × Shows wait steps why

-- What the looks of a poll found, one after another: no reader in the wait's way, up to the one at which it stops.
-- Source: docs/TREE_CALLS.md, "The tree's waits".

abbrev pub one_step : Kind → Field → ℕ → List StepMade
one_step kind field number = record { kind = kind; field = field; number = number } ∷ []

-- A stamp of nobody who read when the wait with this clock began.
abbrev pub IsLate : ℕ → ℕ → Type 0
IsLate clock stamp = (stamp ≡ idle) ⊎ (clock < stamp)

-- One look that found no reader with one of these keys who may have entered before the wait began: a key that is none of them; one of them,
-- and then its place's stamp, which is late; a count of 0; or a late stamp of a class. Beside its looks a wait loads and turns gates.
pub data IsClear (keys : Interval) (clock : ℕ) : List StepMade → Type 0 where
  outside : (place key : ℕ) → (Holds keys key → ⊥) → IsClear keys clock (one_step K8 (Announced place) key)
  late : (place key stamp : ℕ) → Holds keys key → IsLate clock stamp
      → IsClear keys clock (one_step K8 (Announced place) key ++ one_step K8 (Stamp place) stamp)
  empty : (class side : ℕ) → IsClear keys clock (one_step K31 (Count class side) 0)
  row : (place class stamp : ℕ) → IsLate clock stamp → IsClear keys clock (one_step K35 (Row place class) stamp)
  gate : (class number : ℕ) → IsClear keys clock (one_step K28 (Gate class) number)
  turn : (class number : ℕ) → IsClear keys clock (one_step K32 (Gate class) number)

-- From one view to the other looks were made one after another, each of which found no reader in the way.
pub record FindsNone (keys : Interval) (clock : ℕ) (v w : View) : Type 0 where
  pub looks : List (List StepMade)
  pub makes : Made v (flat_map (λ look. look) looks) w
  pub each : AllByRecursion (IsClear keys clock) looks

-- the one look that finds this
abbrev pub look_of : Why → List StepMade
look_of (Reader place key stamp) = one_step K8 (Announced place) key ++ one_step K8 (Stamp place) stamp
look_of (Counter class side count) = one_step K31 (Count class side) count
look_of (RowOf place class stamp) = one_step K35 (Row place class) stamp
look_of _ = []

-- Looks that found no reader in the way, and then just one, the latest, that found this.
pub record FindsOnce (keys : Interval) (clock : ℕ) (v : View) (why : Why) (w : View) : Type 0 where
  pub mid : View
  pub before : FindsNone keys clock v mid
  pub latest : Made mid (look_of why) w

-- A poll that ends its wait found no reader in the way at any look; one that doesn't stops at the first that it finds.
abbrev pub LooksOnce : Interval → ℕ → View → Poll → View → Type 0
LooksOnce keys clock v Over w = FindsNone keys clock v w
LooksOnce keys clock v (NotYet why) w = FindsOnce keys clock v why w

-- Where the steps of a poll look.
-- Source: docs/TREE_CALLS.md, "The tree's waits".

-- Some steps were made, and the words that they are on are all such; a place's key counts as its stamp.
pub record LooksAt (such : Field → Type 0) (v w : View) : Type 0 where
  pub steps : List StepMade
  pub makes : Made v steps w
  pub each : AllByRecursion (λ (t : StepMade). such (spot_seen t.field)) steps

-- no spot before that one
abbrev pub IsOnward : Reached → Field → Type 0
IsOnward r field = IsBefore r field → ⊥

-- The keys have this class or a later one.
abbrev pub IsWithin : Interval → ℕ → Type 0
IsWithin keys class = (c : ℕ) × (class ≤ c) × (c < 64) × MeetsClass keys c

-- Each spot before the one is before the other.
abbrev pub IsLater : Reached → Reached → Type 0
IsLater r s = (field : Field) → IsBefore r field → IsBefore s field
