-- What it leaves to give retired slots back, or to use one again.
-- Source: docs/TREE_CALLS.md, "The tree's slots and locks".
use Rattle.std.specs.Prelude.{◌≡◌, ℕ, zero, suc, ◌+◌, ◌-◌, ◌⊎◌, true, false, List, [], ◌∷◌, ◌++◌, length, map, Option, Some, None}
use Rattle.std.specs.List.{AllByRecursion}
use mathlib.Core.List.{IsPrefix}
use Rattle.prcu_marks.specs.declared.mark.Mark.{Mark}
use Rattle.prcu_marks.specs.declared.mark.Mark.TheVariants.{Given, Freed, Began, Ended}
use Rattle.prcu_marks.specs.Marks.{own_of}
use Rattle.core_state.specs.declared.shape.Shape.{Shape}
use Rattle.core_state.specs.declared.words.Field.TheVariants.{Life}
use Rattle.core_state.specs.declared.words.Kind.TheVariants.{K9, K12}
use Rattle.core_state.specs.declared.view.Held.{Held}
use Rattle.core_state.specs.declared.view.Retired.{Retired}
use Rattle.core_state.specs.declared.view.View.{View}
use Rattle.core_state.specs.Views.{held_list}
use Rattle.core_state.specs.Steps.{stepped}
use Rattle.core_state.specs.Links.{IsRetiredAt, without_retired, renewed}
use Rattle.seat_table.specs.Seats.{unlisted}
use Rattle.seat_table.specs.Sections.{Leaves}
use Rattle.seat_table.specs.Waits.{HasWaited}
use Rattle.node_slots.specs.Slots.{next_life}

-- The slot is retired, a wait for everybody has ended that was begun since, and its generation wasn't raised.
pub record IsReady (v : View) (slot : ℕ) : Type 0 where
  pub i : ℕ
  pub r : Retired
  pub at : IsRetiredAt v i r slot
  pub unraised : r.raised ≡ false
  pub waited : r.waited ≡ true

pub record AreReady (v : View) (slots : List ℕ) : Type 0 where
  pub each : AllByRecursion (IsReady v) slots

abbrev pub first_of : List ℕ → Option ℕ
first_of [] = None
first_of (x ∷ xs) = Some x

-- the first so many slots of a list, each once
abbrev pub first_slots : ℕ → List ℕ → List ℕ
first_slots zero xs = []
first_slots (suc n) [] = []
first_slots (suc n) (x ∷ xs) = x ∷ first_slots n (unlisted x xs)

-- the list without these slots, and the retired slots without them
abbrev pub without_slots : List ℕ → List ℕ → List ℕ
without_slots [] xs = xs
without_slots (slot ∷ slots) xs = without_slots slots (unlisted slot xs)

abbrev pub without_all : List ℕ → List Retired → List Retired
without_all [] rs = rs
without_all (slot ∷ slots) rs = without_all slots (without_retired slot rs)

-- The place had no spare, and the slot is it, given anew with the next generation.
pub record BecomesSpare (v : View) (slot : ℕ) (w : View) : Type 0 where
  pub none : v.hands.spare ≡ None
  pub life : ℕ
  pub steps : IsPrefix v.trail.steps w.trail.steps
  pub given : Leaves v (Given slot) w
  pub rest : w ≡ record v {
    hands = record v.hands
        { spare = Some (renewed slot (next_life life)); retired = without_retired slot v.hands.retired };
    trail = w.trail;
    seen = w.seen;
  }

-- The place had a spare. The slot is free, with the next generation, and the free count is one more.
pub record BecomesFree (v : View) (slot : ℕ) (w : View) : Type 0 where
  pub some : (held : Held) × (v.hands.spare ≡ Some held)
  pub found : ℕ
  pub steps : IsPrefix v.trail.steps w.trail.steps
  pub freed : Leaves v (Freed slot) w
  pub rest : w ≡ record v {
    hands = record v.hands { retired = without_retired slot v.hands.retired };
    latest = record v.latest { free = Some (found + 1) };
    trail = w.trail;
    seen = w.seen;
  }

abbrev pub Returns : View → ℕ → View → Type 0
Returns v slot w = BecomesSpare v slot w ⊎ BecomesFree v slot w

-- The slot is in hand, given anew with the next generation, for one of the seat's tickets: its life was loaded, and then raised. The free
-- count was left alone.
pub record Reuses (v : View) (slot : ℕ) (w : View) : Type 0 where
  pub life : ℕ
  pub given : Leaves v (Given slot) w
  pub rest : w ≡ record v {
    allowance = record v.allowance { tickets = v.allowance.tickets - 1 };
    hands = record v.hands { hand = Some (renewed slot (next_life life)); retired = without_retired slot v.hands.retired };
    trail = (stepped (stepped v K9 (Life slot) life) K12 (Life slot) (next_life life)).trail;
    seen = w.seen;
  }

-- Marks were left one after another, each after all marks that there were then.
abbrev pub LeavesEach : View → List Mark → View → Type 0
LeavesEach v [] w = w.seen ≡ v.seen
LeavesEach v (mark ∷ marks) w = (mid : View) × (mid.allowance ≡ v.allowance) × Leaves v mark mid × LeavesEach mid marks w

-- the marks of slots that go back, where the place has this spare or none, and the spare then
abbrev pub return_marks : List ℕ → List ℕ → List Mark
return_marks [] [] = []
return_marks [] (slot ∷ slots) = Given slot ∷ map Freed slots
return_marks (spare ∷ none) slots = map Freed slots

abbrev pub first_spare : List ℕ → List ℕ → List ℕ
first_spare [] [] = []
first_spare [] (slot ∷ slots) = slot ∷ []
first_spare (spare ∷ none) slots = spare ∷ none

-- These slots went back, in this order; where there was no spare, the first of them is it.
pub record GivesBack (v : View) (slots : List ℕ) (w : View) : Type 0 where
  pub steps : IsPrefix v.trail.steps w.trail.steps
  pub marks : LeavesEach v (return_marks (held_list v.hands.spare) slots) w
  pub spare : held_list w.hands.spare ≡ first_spare (held_list v.hands.spare) slots
  pub rest : w ≡ record v {
    hands = record v.hands { spare = w.hands.spare; retired = without_all slots v.hands.retired };
    latest = record v.latest { free = w.latest.free };
    trail = w.trail;
    seen = w.seen;
  }

-- One wait for everybody was begun and has ended, and each slot that was retired went back then.
pub record HasReclaimed (k : Shape) (v : View) (listed : List ℕ) (w : View) : Type 0 where
  pub waited : View
  pub waits : HasWaited k v 0 18446744073709551615 waited
  pub gives : GivesBack waited (first_slots (length listed) listed) w
  pub seen : IsPrefix v.seen w.seen
  pub own : own_of v.allowance.place w.seen ≡ own_of v.allowance.place v.seen
      ++ Began v.allowance.place v.counts.waits 0 18446744073709551615 ∷ Ended v.allowance.place v.counts.waits ∷ []
  pub spare : held_list w.hands.spare ≡ first_spare (held_list v.hands.spare) listed
  pub rest : w ≡ record v {
    allowance = record v.allowance { tickets = v.allowance.tickets - 1 };
    enter = w.enter;
    hands = record v.hands { spare = w.hands.spare; retired = [] };
    wait = w.wait;
    counts = record v.counts { waits = v.counts.waits + 1; turns = w.counts.turns };
    latest = record v.latest { free = w.latest.free };
    trail = w.trail;
    seen = w.seen;
  }
