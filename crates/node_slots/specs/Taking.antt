-- What a take leaves, and which steps it makes.
-- Source: docs/TREE_CALLS.md, "The tree's slots and locks".
use Rattle.std.specs.Prelude.{◌≡◌, ◌≢◌, ℕ, ◌+◌, ◌-◌, ◌/◌, ◌<◌, ◌≤◌, true, false, List, [], ◌∷◌, ◌++◌, length, Some, None}
use Rattle.std.specs.List.{AllByRecursion}
use Rattle.prcu_marks.specs.declared.mark.Mark.TheVariants.{Given}
use Rattle.prcu_marks.specs.Marks.{most_tickets}
use Rattle.core_state.specs.declared.shape.Shape.{Shape}
use Rattle.core_state.specs.declared.words.Field.{Field}
use Rattle.core_state.specs.declared.words.Field.TheVariants.{Free, State, Life}
use Rattle.core_state.specs.declared.words.Kind.TheVariants.{K9, K10, K11}
use Rattle.core_state.specs.declared.view.StepMade.{StepMade}
use Rattle.core_state.specs.declared.view.View.{View}
use Rattle.core_state.specs.Views.{noting}
use Rattle.seat_table.specs.declared.notes.TheConstants.{MOST_NOTED}
use Rattle.seat_table.specs.Gains.{Sees, IsFull}
use Rattle.seat_table.specs.Seats.{next_slot, after_look, IsLastFound}
use Rattle.seat_table.specs.Sections.{Leaves}
use Rattle.node_slots.specs.Slots.{aged, with_slot}
use Rattle.node_slots.specs.declared.answers.Taken.{Taken}
use Rattle.node_slots.specs.declared.answers.Taken.TheVariants.{Slot, Empty}

-- Exchanges of the free count were lost.
pub record HasTried (v w : View) : Type 0 where
  pub rest : w ≡ record v { latest = record v.latest { free = w.latest.free }; trail = w.trail }

-- The seat has a reservation, for one of its tickets.
pub record HasReserved (v w : View) : Type 0 where
  pub rest : w ≡ record v {
    allowance = record v.allowance { tickets = v.allowance.tickets - 1 };
    hands = record v.hands { reserved = true };
    latest = record v.latest { free = w.latest.free };
    trail = w.trail;
  }

-- The last exchange found 0. The seat has seen all marks that there were then, and the dictionary is as large as Full asks for. A place
-- without a spare has retired some slot, which becomes it.
pub record FoundNone (k : Shape) (v w : View) : Type 0 where
  pub sees : Sees v w.seen
  pub full : v.moving ≡ None → v.hands.owes ≡ false → IsFull k w
  pub spare_comes : w.hands.spare ≡ None → w.hands.retired ≢ []
  pub rest : w ≡ record v { latest = record v.latest { free = Some 0 }; trail = w.trail; seen = w.seen }

-- Slots that aren't free were met.
pub record HasScanned (v w : View) : Type 0 where
  pub rest : w ≡ record v { trail = w.trail }

-- A free slot is in hand for the reservation, given anew. Its life was loaded then.
pub record HasGot (v : View) (slot generation : ℕ) (w : View) : Type 0 where
  pub life : ℕ
  pub generation_is : generation ≡ life / 2
  pub few : generation ≤ most_tickets
  pub given : Leaves v (Given slot) w
  pub rest : w ≡ with_slot slot life w v

-- A free slot is in hand, given anew, for one of the seat's tickets. Its life was loaded then.
pub record HasTaken (v : View) (slot generation : ℕ) (w : View) : Type 0 where
  pub life : ℕ
  pub generation_is : generation ≡ life / 2
  pub few : generation ≤ most_tickets
  pub given : Leaves v (Given slot) w
  pub rest : let u : View = noting v slot (Life slot) life false in
      w ≡ record u {
        allowance = record v.allowance { tickets = v.allowance.tickets - 1 };
        hands = record u.hands { hand = Some (aged slot life) };
        latest = record v.latest { free = w.latest.free };
        trail = w.trail;
        seen = w.seen;
      }

abbrev pub Takes : Shape → View → Taken → View → Type 0
Takes k v (Slot slot generation) w = HasTaken v slot generation w
Takes k v Empty w = FoundNone k v w

-- the steps of a take: an exchange of the free count, a look at a slot (an exchange of its state), a load of the life of the one that was
-- got
abbrev pub exchange : ℕ → StepMade
exchange found = record { kind = K10; field = Free; number = found }

abbrev pub look : ℕ → ℕ → StepMade
look slot found = record { kind = K11; field = State slot; number = found }

abbrev pub own_life : ℕ → ℕ → StepMade
own_life slot life = record { kind = K9; field = Life slot; number = life }

-- These steps were made, one after another.
abbrev pub MakesSteps : View → List StepMade → View → Type 0
MakesSteps v steps w = w.trail ≡ record v.trail { steps = v.trail.steps ++ steps }

-- The number that the first exchange expects: the one that the seat last found or left there, or 1 where that is 0.
pub record ExpectsFirst (k : Shape) (v : View) (expected : ℕ) : Type 0 where
  pub seen : ℕ
  pub last : IsLastFound k.slots seen v.latest.free
  pub same : 1 ≤ seen → expected ≡ seen
  pub one : seen ≡ 0 → expected ≡ 1

-- Exchanges were lost: each found another number than it expected, and not 0. The next one expects the number that the last one found.
abbrev pub AreLost : ℕ → List StepMade → ℕ → Type 0
AreLost expected [] next = next ≡ expected
AreLost expected (t ∷ ts) next = (t ≡ exchange t.number) × (t.number ≢ 0) × (t.number ≢ expected) × AreLost t.number ts next

-- The exchanges of a take but for the last one, which expects this number.
pub record Retries (k : Shape) (v : View) (lost : List StepMade) (expected : ℕ) : Type 0 where
  pub first : ℕ
  pub is_first : ExpectsFirst k v first
  pub are_lost : AreLost first lost expected

-- a look at a slot that isn't free
pub record IsMiss (t : StepMade) : Type 0 where
  pub slot : ℕ
  pub is : t ≡ look slot t.number
  pub taken : t.number ≢ 0

-- where the scans have come to after these looks
abbrev pub after_field : ℕ → ℕ → Field → ℕ
after_field last looked (State slot) = after_look last looked slot
after_field last looked _ = looked

abbrev pub come_to : ℕ → ℕ → List StepMade → ℕ
come_to last looked [] = looked
come_to last looked (t ∷ ts) = come_to last (after_field last looked t.field) ts

-- Each look is at the slot after that of the one before, where the scans had come to this slot. So none is looked at twice in a round.
abbrev pub GoRound : ℕ → ℕ → List StepMade → Type 0
GoRound last looked [] = Unit {0}
GoRound last looked (t ∷ ts) = (t ≡ look (next_slot last looked) t.number) × GoRound last (next_slot last looked) ts

-- The looks for a free slot, of which the last one found one: first at any slots, no more than a seat notes, then at one after another from
-- where its scans have come to.
pub record AreLooks (last looked slot : ℕ) (looks : List StepMade) : Type 0 where
  pub missed : List StepMade
  pub each : AllByRecursion IsMiss missed
  pub ends : looks ≡ missed ++ look slot 0 ∷ []
  pub noted : List StepMade
  pub round : List StepMade
  pub parts : looks ≡ noted ++ round
  pub few : length noted ≤ MOST_NOTED
  pub go_round : GoRound last (come_to last looked noted) round

-- What a take tries: it exchanges the free count until an exchange isn't lost, and looks for a free slot where that found what it expected.
-- Each
-- look says where the scans come to.
pub record TriesFor (k : Shape) (v : View) (looked slot : ℕ) (w : View) (now : ℕ) : Type 0 where
  pub lost : List StepMade
  pub expected : ℕ
  pub retries : Retries k v lost expected
  pub looks : List StepMade
  pub are_looks : AreLooks (k.slots + k.places) looked slot looks
  pub life : ℕ
  pub makes : MakesSteps v ((lost ++ exchange expected ∷ []) ++ (looks ++ own_life slot life ∷ [])) w
  pub comes : now ≡ come_to (k.slots + k.places) looked looks

pub record TriesInVain (k : Shape) (v : View) (looked : ℕ) (w : View) (now : ℕ) : Type 0 where
  pub lost : List StepMade
  pub expected : ℕ
  pub retries : Retries k v lost expected
  pub makes : MakesSteps v (lost ++ exchange 0 ∷ []) w
  pub comes : now ≡ looked

abbrev pub TriesBy : Shape → View → ℕ → Taken → View → ℕ → Type 0
TriesBy k v looked (Slot slot generation) w now = TriesFor k v looked slot w now
TriesBy k v looked Empty w now = TriesInVain k v looked w now

-- What the calls within a take try.
pub record LosesTries (k : Shape) (v : View) (expected : ℕ) (w : View) : Type 0 where
  pub lost : List StepMade
  pub retries : Retries k v lost expected
  pub makes : MakesSteps v lost w

pub record ReservesAtLast (k : Shape) (v w : View) : Type 0 where
  pub lost : List StepMade
  pub expected : ℕ
  pub retries : Retries k v lost expected
  pub makes : MakesSteps v (lost ++ exchange expected ∷ []) w

pub record Misses (last : ℕ) (v : View) (looked : ℕ) (w : View) (now : ℕ) : Type 0 where
  pub missed : List StepMade
  pub each : AllByRecursion IsMiss missed
  pub makes : MakesSteps v missed w
  pub comes : now ≡ come_to last looked missed

pub record MissesNoted (last : ℕ) (v : View) (looked count : ℕ) (w : View) (now : ℕ) : Type 0 where
  pub misses : Misses last v looked w now
  pub few : length misses.missed ≤ count

pub record MissesInRound (last : ℕ) (v : View) (looked : ℕ) (w : View) (now : ℕ) : Type 0 where
  pub misses : Misses last v looked w now
  pub go_round : GoRound last looked misses.missed

pub record Finds (last : ℕ) (v : View) (looked slot : ℕ) (w : View) (now : ℕ) : Type 0 where
  pub missed : List StepMade
  pub each : AllByRecursion IsMiss missed
  pub life : ℕ
  pub makes : MakesSteps v ((missed ++ look slot 0 ∷ []) ++ own_life slot life ∷ []) w
  pub comes : now ≡ come_to last looked (missed ++ look slot 0 ∷ [])

pub record FindsNoted (last : ℕ) (v : View) (looked slot : ℕ) (w : View) (now : ℕ) : Type 0 where
  pub finds : Finds last v looked slot w now
  pub few : length finds.missed < MOST_NOTED

pub record FindsInRound (last : ℕ) (v : View) (looked slot : ℕ) (w : View) (now : ℕ) : Type 0 where
  pub finds : Finds last v looked slot w now
  pub go_round : GoRound last looked (finds.missed ++ look slot 0 ∷ [])
