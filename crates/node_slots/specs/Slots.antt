-- What the calls on one slot leave, and what they found.
-- Source: docs/TREE_CALLS.md, "The tree's slots and locks".
use Rattle.std.specs.Prelude.{◌≡◌, ◌≢◌, ℕ, ◌+◌, ◌-◌, ◌*◌, ◌/◌, ◌≤◌, true, false, [], ◌∷◌, Some, None}
use Rattle.prcu_marks.specs.declared.mark.Mark.TheVariants.{Given, Freed}
use Rattle.prcu_marks.specs.Marks.{most_tickets}
use Rattle.core_state.specs.declared.shape.Shape.{Shape}
use Rattle.core_state.specs.declared.words.Field.TheVariants.{Free, State, Lock as LockOf, Life}
use Rattle.core_state.specs.declared.words.Kind.TheVariants.{K9, K10, K11, K12, K13, K14, K15, K16}
use Rattle.core_state.specs.declared.view.Held.{Held}
use Rattle.core_state.specs.declared.view.View.{View}
use Rattle.core_state.specs.Views.{without_lock, noting}
use Rattle.core_state.specs.Steps.{new_lock, stepped}
use Rattle.core_state.specs.Links.{seized}
use Rattle.seat_table.specs.Gains.{Sees, IsFull}
use Rattle.seat_table.specs.Sections.{Leaves}
use Rattle.node_slots.specs.declared.answers.Reserve.{Reserve}
use Rattle.node_slots.specs.declared.answers.Reserve.TheVariants.{Held as ReserveHeld, Empty, Lost}
use Rattle.node_slots.specs.declared.answers.Seize.{Seize}
use Rattle.node_slots.specs.declared.answers.Seize.TheVariants.{Got, NotFree}
use Rattle.node_slots.specs.declared.answers.Lock.{Lock}
use Rattle.node_slots.specs.declared.answers.Lock.TheVariants.{Held as LockHeld, Busy}

-- The free count was found as expected, and is one less. The seat has a reservation, for one of its tickets.
abbrev pub Reserved : View → ℕ → View → Type 0
Reserved v expected w = w ≡ record v {
  allowance = record v.allowance { tickets = v.allowance.tickets - 1 };
  hands = record v.hands { reserved = true };
  latest = record v.latest { free = Some (expected - 1) };
  trail = (stepped v K10 Free expected).trail;
}

-- The free count was found as 0. The seat has seen all marks that there were then, and the dictionary is as large as Full asks for. A place
-- without a spare has retired some slot, which becomes it.
pub record FoundEmpty (k : Shape) (v w : View) : Type 0 where
  pub sees : Sees v w.seen
  pub full : v.moving ≡ None → v.hands.owes ≡ false → IsFull k w
  pub spare_comes : v.hands.spare ≡ None → v.hands.retired ≢ []
  pub rest : w ≡ record v { latest = record v.latest { free = Some 0 }; trail = (stepped v K10 Free 0).trail; seen = w.seen }

-- The free count was found as another number.
pub record FoundOther (v : View) (expected found : ℕ) (w : View) : Type 0 where
  pub some : found ≢ 0
  pub other : found ≢ expected
  pub rest : w ≡ record v { latest = record v.latest { free = Some found }; trail = (stepped v K10 Free found).trail }

abbrev pub Reserves : Shape → View → ℕ → Reserve → View → Type 0
Reserves k v expected ReserveHeld w = Reserved v expected w
Reserves k v expected Empty w = FoundEmpty k v w
Reserves k v expected (Lost found) w = FoundOther v expected found w

-- a slot that was seized, and whose life was loaded since
abbrev pub aged : ℕ → ℕ → Held
aged slot life = record {
  slot = slot;
  known = record { field = Life slot; number = life; stored = false } ∷ (seized slot).known;
  raised = false;
}

-- the view with the slot in hand for its reservation and its life noted, and with the trail and the marks of a later view
abbrev pub with_slot : ℕ → ℕ → View → View → View
with_slot slot life w v = record (noting v slot (Life slot) life false) {
  hands = record (noting v slot (Life slot) life false).hands { reserved = false; hand = Some (aged slot life) };
  trail = w.trail;
  seen = w.seen;
}

-- The slot was found free and is in hand for the reservation, given anew. Its life was loaded then.
pub record HasSeized (v : View) (slot generation : ℕ) (w : View) : Type 0 where
  pub life : ℕ
  pub generation_is : generation ≡ life / 2
  pub few : generation ≤ most_tickets
  pub given : Leaves v (Given slot) w
  pub rest : w ≡ record (with_slot slot life w v) { trail = (stepped (stepped v K11 (State slot) 0) K9 (Life slot) life).trail }

-- The slot was found not to be free.
pub record FoundTaken (v : View) (slot found : ℕ) (w : View) : Type 0 where
  pub some : found ≢ 0
  pub rest : w ≡ record v { trail = (stepped v K11 (State slot) found).trail }

abbrev pub Seizes : View → ℕ → Seize → View → Type 0
Seizes v slot (Got generation) w = HasSeized v slot generation w
Seizes v slot (NotFree found) w = FoundTaken v slot found w

-- the life of a slot was loaded, and stored as the next generation's
abbrev pub next_life : ℕ → ℕ
next_life life = 2 * (life / 2 + 1)

abbrev pub renewing : View → ℕ → ℕ → View
renewing v slot life = noting (noting v slot (Life slot) life false) slot (Life slot) (next_life life) true

-- The slot in hand is free, with the next generation, and the free count is one more.
pub record PutsBack (v : View) (slot : ℕ) (w : View) : Type 0 where
  pub life : ℕ
  pub found : ℕ
  pub freed : Leaves v (Freed slot) w
  pub rest : let u : View = renewing v slot life in
      w ≡ record u {
        hands = record u.hands { hand = None };
        latest = record v.latest { free = Some (found + 1) };
        trail = (stepped (stepped (stepped (stepped v K9 (Life slot) life) K12 (Life slot) (next_life life)) K15
            (State slot) 0) K16 Free found).trail;
        seen = w.seen;
      }

-- The one exchange of the lock found 0; or the place of another who holds it, plus 1.
abbrev pub HasLocked : View → ℕ → View → Type 0
HasLocked v slot w = w ≡ record v { locks = new_lock slot ∷ v.locks; trail = (stepped v K13 (LockOf slot) 0).trail }

pub record FoundHeld (k : Shape) (v : View) (slot found : ℕ) (w : View) : Type 0 where
  pub some : 1 ≤ found
  pub holder : found ≤ k.places
  pub other : found ≢ v.allowance.place + 1
  pub rest : w ≡ record v { trail = (stepped v K13 (LockOf slot) found).trail }

abbrev pub Tries : Shape → View → ℕ → Lock → View → Type 0
Tries k v slot LockHeld w = HasLocked v slot w
Tries k v slot (Busy found) w = FoundHeld k v slot found w

-- the number that the exchange found
abbrev pub found_by : Lock → ℕ
found_by LockHeld = 0
found_by (Busy found) = found

-- The lock was given up.
abbrev pub Unlocks : View → ℕ → View → Type 0
Unlocks v slot w = w ≡ record v { locks = without_lock slot v.locks; trail = (stepped v K14 (LockOf slot) 0).trail }
