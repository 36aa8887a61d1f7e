-- The classes that waits go over: of the second waiter with the gates that it turns, of the third row by row.
use Rattle.std.specs.Prelude.{◌≡◌, ℕ, ◌+◌, ◌<◌, ◌≤◌, true, false, List, length, Some, ◌⊎◌}
use Rattle.seat_table.specs.declared.wait.Grace.{Grace}
use Rattle.core_state.specs.declared.shape.Shape.{Shape}
use Rattle.core_state.specs.declared.shape.Waiter.TheVariants.{Domain}
use Rattle.core_state.specs.declared.view.Waiting.{Waiting}
use Rattle.core_state.specs.declared.view.View.{View}
use Rattle.core_state.specs.Steps.{keys_of}
use Rattle.key_interval.specs.Keys.{Interval, MeetsClass}
use Rattle.list_laws.specs.Counts.{times, IsIn}
use Rattle.seat_table.specs.Waits.{IsOver, HasWaited}
use Rattle.core_state.specs.declared.words.Field.{Field}
use Rattle.core_state.specs.declared.words.Field.TheVariants.{Row}
use Rattle.waiters.specs.declared.image.Image.{Image}

-- The classes that a wait of the second waiter goes over.
-- Source: docs/TREE_CALLS.md, "The tree's waits".

-- The grace is still at the same class of the same wait.
abbrev pub StaysAtClass : {W : Type 0} → Grace W → Grace W → Type 0
StaysAtClass old new = new ≡ record old { gate = new.gate; turned = new.turned }

-- It has come to the next class, whose gate isn't loaded yet.
abbrev pub at_next : {W : Type 0} → Grace W → Grace W
at_next grace = record grace { class = grace.class + 1; gate = 18446744073709551615; turned = false }

-- It is at the last class; where it was beyond it, all gates are turned.
pub record IsBack {W : Type 0} (last : ℕ) (old new : Grace W) : Type 0 where
  pub within : old.class ≤ last → new ≡ old
  pub beyond : last < old.class → new ≡ record old { class = last; turned = true }

-- How many gates a wait of the second waiter turns.
-- Source: docs/TREE_CALLS.md, "The tree's waits".

-- These are the classes of the keys, each once.
pub record AreClassesOf (keys : Interval) (classes : List ℕ) : Type 0 where
  pub each : (c : ℕ) → c < 64 → MeetsClass keys c → times c classes ≡ 1
  pub only : (c : ℕ) → IsIn classes c → (c < 64) × MeetsClass keys c

-- With the poll that ends it, a wait has turned as many gates as its keys have classes.
abbrev pub EndTurnsRest : Type 0
EndTurnsRest = (k : Shape) (v w : View) (wait : Waiting) (classes : List ℕ) → k.waiter ≡ Domain → v.wait ≡ Some wait
    → AreClassesOf (keys_of wait) classes → IsOver k v w → w.counts.turns + length wait.turned ≡ v.counts.turns + length classes

-- A whole wait turns as many gates as its keys have classes.
abbrev pub WaitTurnsEach : Type 0
WaitTurnsEach = (k : Shape) (v w : View) (keys : Interval) (classes : List ℕ) → k.waiter ≡ Domain → AreClassesOf keys classes
    → HasWaited k v keys.low keys.high w → w.counts.turns ≡ v.counts.turns + length classes

-- The classes of a wait's keys as two runs of classes one after another.
-- Source: docs/TREE.md, "Keys and classes".

-- The keys have the classes below the one, and those from the next to the last, and no others.
pub record IsImage (keys : Interval) (image : Image) : Type 0 where
  pub first : (c : ℕ) → c < image.below → MeetsClass keys c
  pub second : (c : ℕ) → image.from ≤ c → c ≤ image.last → MeetsClass keys c
  pub only : (c : ℕ) → c < 64 → MeetsClass keys c → (c < image.below) ⊎ ((image.from ≤ c) × (c ≤ image.last))
  pub apart : image.below ≤ image.from
  pub filled : image.from ≤ image.last
  pub small : image.last < 64

-- The keys have each class from the one that the grace has come to, as far as that one.
abbrev pub HasEach : {W : Type 0} → Grace W → ℕ → Type 0
HasEach grace end = (c : ℕ) → grace.class ≤ c → c < end → MeetsClass grace.keys c

-- The row isn't before that one: it is of a later place, or of a class as late at the same place.
abbrev pub IsRowFrom : ℕ → ℕ → Field → Type 0
IsRowFrom place class field = (p c : ℕ) × (field ≡ Row p c) × ((place < p) ⊎ ((place ≡ p) × (class ≤ c)))

-- The grace is still at the same place of the same wait.
abbrev pub StaysAtPlace : {W : Type 0} → Grace W → Grace W → Type 0
StaysAtPlace old new = new ≡ record old { class = new.class }

-- It has come to that class or a later one, and has skipped only classes before it.
pub record HasSkipped {W : Type 0} (from : ℕ) (old new : Grace W) : Type 0 where
  pub stays : StaysAtPlace old new
  pub beyond : from ≤ new.class
  pub later : old.class ≤ new.class
  pub gap : (c : ℕ) → old.class ≤ c → c < new.class → c < from
