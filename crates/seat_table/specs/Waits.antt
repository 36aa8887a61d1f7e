-- What a poll does, whatever the waiter.
-- Source: docs/TREE_CALLS.md, "The tree's waits".
use Rattle.std.specs.Prelude.{◌≡◌, ◌≢◌, ℕ, ◌+◌, ◌-◌, ◌%◌, ◌<◌, ◌≤◌, Bool, true, false, ◌⊎◌, List, [], ◌∷◌, ◌++◌, length, map, Some}
use mathlib.Core.Option.{some}
use lib.ListN.{get_elem?}
use Rattle.prcu_marks.specs.declared.mark.Mark.{Mark}
use Rattle.prcu_marks.specs.declared.mark.Mark.TheVariants.{Entered, Left, Began, Ended}
use Rattle.prcu_marks.specs.declared.mark.Why.{Why}
use Rattle.prcu_marks.specs.declared.mark.Why.TheVariants.{Reader, Counter, Row as RowOf}
use Rattle.core_state.specs.declared.shape.Shape.{Shape}
use Rattle.core_state.specs.declared.shape.Waiter.TheVariants.{Domain}
use Rattle.core_state.specs.declared.words.Field.{Field}
use Rattle.core_state.specs.declared.words.Field.TheVariants.{Announced, Stamp, Count, Row}
use Rattle.core_state.specs.declared.words.Kind.{Kind}
use Rattle.core_state.specs.declared.words.Kind.TheVariants.{K8, K31, K35}
use Rattle.core_state.specs.declared.view.StepMade.{StepMade}
use Rattle.core_state.specs.declared.view.Waiting.{Waiting}
use Rattle.core_state.specs.declared.view.View.{View}
use Rattle.core_state.specs.Memory.{idle}
use Rattle.core_state.specs.Steps.{IsSpot, keys_of, excuses, with_excused, waited_retired, waited_move}
use Rattle.key_interval.specs.Keys.{Interval, Holds, MeetsClass}
use Rattle.list_laws.specs.Counts.{times, IsIn}
use Rattle.seat_table.specs.declared.wait.Grace.{Grace}
use Rattle.seat_table.specs.declared.wait.Poll.{Poll}
use Rattle.seat_table.specs.declared.wait.Poll.TheVariants.{Over, NotYet}
use Rattle.seat_table.specs.Gains.{IsInformed}
use Rattle.seat_table.specs.Sections.{Leaves, EndBy, HasBegun}

-- Where a wait has come to: the place and the class that are looked at next, and for the second waiter the gate of that class, with
-- whether it was turned.
pub record Reached : Type 0 where
  pub place : ℕ
  pub class : ℕ
  pub gate : ℕ
  pub turned : Bool

abbrev pub reached : {W : Type 0} → Grace W → Reached
reached grace = record { place = grace.place; class = grace.class; gate = grace.gate; turned = grace.turned }

-- where a wait begins: its first gate isn't loaded yet
abbrev pub start : Reached
start = record { place = 0; class = 0; gate = 18446744073709551615; turned = false }

-- the spots before that one
abbrev pub IsBefore : Reached → Field → Type 0
IsBefore r (Stamp p) = p < r.place
IsBefore r (Count c side) = (c < r.class) ⊎ ((c ≡ r.class) × (r.turned ≡ true) × (side ≢ r.gate % 2))
IsBefore r (Row p c) = (p < r.place) ⊎ ((p ≡ r.place) × (c < r.class))
IsBefore r _ = ⊥

-- the classes whose gate was turned by then
abbrev pub IsTurnedBefore : Reached → ℕ → Type 0
IsTurnedBefore r c = (c < r.class) ⊎ ((c ≡ r.class) × (r.turned ≡ true))

-- The wait has these keys and this clock. Its spots before that one are excused. The gates that were turned are of classes that its keys
-- meet; those of the second waiter are of classes before, and it has turned each of these once.
pub record HasReached (k : Shape) (keys : Interval) (clock : ℕ) (r : Reached) (wait : Waiting) : Type 0 where
  pub going : wait.ended ≡ false
  pub low_is : wait.low ≡ keys.low
  pub high_is : wait.high ≡ keys.high
  pub clock_is : wait.clock ≡ clock
  pub inside : r.place ≤ k.places - 1
  pub small : r.class < 64
  pub excused : (field : Field) → IsSpot k wait field → IsBefore r field → IsIn wait.excused field
  pub met : (c : ℕ) → IsIn wait.turned c → (c < 64) × MeetsClass (keys_of wait) c
  pub turned : k.waiter ≡ Domain → (c : ℕ) → IsIn wait.turned c → IsTurnedBefore r c
  pub once : k.waiter ≡ Domain → (c : ℕ) → c < 64 → MeetsClass (keys_of wait) c → IsTurnedBefore r c → times c wait.turned ≡ 1

-- The grace is that of the seat's latest wait, which goes on, and says where its next poll goes on.
abbrev pub IsLatestOf : {W : Type 0} → Shape → Grace W → View → Type 0
IsLatestOf k grace w = (wait : Waiting) × (w.wait ≡ Some wait) × HasReached k grace.keys grace.clock (reached grace) wait

-- the same wait, which may have excused more, turned more gates, and ended
abbrev pub IsSameWait : Waiting → Waiting → Type 0
IsSameWait wait new = new ≡ record wait { excused = new.excused; turned = new.turned; ended = new.ended }

-- the steps that were made from one view to another
abbrev pub Made : View → List StepMade → View → Type 0
Made v steps w = w.trail ≡ record v.trail { steps = v.trail.steps ++ steps }

-- the latest of the steps
abbrev pub EndWith : List StepMade → List StepMade → Type 0
EndWith steps last = (earlier : List StepMade) × (steps ≡ earlier ++ last)

-- What a poll found by its latest loads, by the keys and the clock of the wait: a key of the interval and a stamp that is neither idle nor
-- above the clock; a count of a class that the keys meet; or such a stamp of such a class.
abbrev pub Shows : Waiting → List StepMade → Why → Type 0
Shows wait steps (Reader place key stamp) = EndWith steps
    (record { kind = K8; field = Announced place; number = key } ∷ record { kind = K8; field = Stamp place; number = stamp } ∷ [])
    × Holds (keys_of wait) key × (stamp ≢ idle) × (stamp ≤ wait.clock)
Shows wait steps (Counter class side count) = EndWith steps (record { kind = K31; field = Count class side; number = count } ∷ [])
    × (1 ≤ count) × MeetsClass (keys_of wait) class
Shows wait steps (RowOf place class stamp) = EndWith steps (record { kind = K35; field = Row place class; number = stamp } ∷ [])
    × (stamp ≢ idle) × (stamp ≤ wait.clock) × MeetsClass (keys_of wait) class
Shows wait steps _ = ⊥

-- The grace has come to the place or the class of what was found, so that the next poll looks there first.
abbrev pub StopsAt : Reached → Why → Type 0
StopsAt r (Reader place key stamp) = place ≡ r.place
StopsAt r (Counter class side count) = class ≡ r.class
StopsAt r (RowOf place class stamp) = (place ≡ r.place) × (class ≡ r.class)
StopsAt r _ = ⊥

-- The seat counts the gates that its wait turned.
abbrev pub CountsTurns : View → Waiting → Waiting → View → Type 0
CountsTurns v wait new w = w.counts.turns + length wait.turned ≡ v.counts.turns + length new.turned

-- The wait went on, and nothing else of what the seat knows changed but the gates that it turned and loaded.
pub record HasLooked (v : View) (wait : Waiting) (steps : List StepMade) (new : Waiting) (w : View) : Type 0 where
  pub wait_is : w.wait ≡ Some new
  pub same : IsSameWait wait new
  pub turns : CountsTurns v wait new w
  pub makes : Made v steps w
  pub others : w ≡ record v { enter = w.enter; wait = w.wait; counts = record v.counts { turns = w.counts.turns }; trail = w.trail }

-- the kinds of step by which a wait looks for readers
abbrev pub is_look : Kind → Bool
is_look K8 = true
is_look K31 = true
is_look K35 = true
is_look _ = false

-- It ended by its last step, a look that found no reader there that the wait is for: it leaves its mark, and notes what was waited for.
pub record HasEnded (v : View) (wait : Waiting) (steps : List StepMade) (new : Waiting) (w : View) : Type 0 where
  pub wait_is : w.wait ≡ Some new
  pub same : IsSameWait wait new
  pub ended : new.ended ≡ true
  pub turns : CountsTurns v wait new w
  pub makes : Made v steps w
  pub ends : EndBy is_look steps
  pub excused : excuses wait ends.last.field ends.last.number ≡ true
  pub leaves : Leaves v (Ended v.allowance.place wait.count) w
  pub others : w ≡ record v {
    enter = w.enter;
    hands = record v.hands { retired = map (waited_retired wait) v.hands.retired };
    moving = waited_move wait v.moving;
    wait = w.wait;
    counts = record v.counts { turns = w.counts.turns };
    trail = w.trail;
    seen = w.seen;
  }
  pub informed : IsInformed w

-- The gates that were turned are of classes that the keys meet, and the second waiter turned each of these once.
pub record TurnedEach (k : Shape) (new : Waiting) : Type 0 where
  pub only : (c : ℕ) → IsIn new.turned c → (c < 64) × MeetsClass (keys_of new) c
  pub each : k.waiter ≡ Domain → (c : ℕ) → c < 64 → MeetsClass (keys_of new) c → times c new.turned ≡ 1

-- Each section with one of these keys that was entered before the wait began was left.
pub record HaveLeft (p count low high : ℕ) (seen : List Mark) : Type 0 where
  pub left : (began at q n x : ℕ) → get_elem? seen began ≡ some (Began p count low high) → get_elem? seen at ≡ some (Entered q n x)
      → at < began → low ≤ x → x ≤ high
      → (j : ℕ) × (get_elem? seen j ≡ some (Left q n))

abbrev pub ended_by : Waiting → Field → Waiting
ended_by wait field = record (with_excused wait field) { ended = true }

-- looks that excused this word's readers: the last one ended the wait
abbrev pub Passed : View → Waiting → Bool → List StepMade → Field → View → Type 0
Passed v wait false steps field w = HasLooked v wait steps (with_excused wait field) w
Passed v wait true steps field w = HasEnded v wait steps (ended_by wait field) w

-- The wait is over.
pub record IsOver (k : Shape) (v w : View) : Type 0 where
  pub wait : Waiting
  pub steps : List StepMade
  pub new : Waiting
  pub was : v.wait ≡ Some wait
  pub ended : HasEnded v wait steps new w
  pub turned : TurnedEach k new
  pub left : HaveLeft v.allowance.place wait.count wait.low wait.high w.seen

-- It goes on, as far as the grace says, by what the steps found.
pub record IsGoingOn {W : Type 0} (k : Shape) (v : View) (grace : Grace W) (w : View) : Type 0 where
  pub wait : Waiting
  pub steps : List StepMade
  pub new : Waiting
  pub was : v.wait ≡ Some wait
  pub looked : HasLooked v wait steps new w
  pub reaches : HasReached k grace.keys grace.clock (reached grace) new

-- It goes on, and the latest steps found what stands in its way.
pub record HasStopped {W : Type 0} (k : Shape) (v : View) (why : Why) (grace : Grace W) (w : View) : Type 0 where
  pub on : IsGoingOn k v grace w
  pub shows : Shows on.wait on.steps why
  pub there : StopsAt (reached grace) why

abbrev pub Polled : {W : Type 0} → Shape → View → Poll → Grace W → View → Type 0
Polled k v Over grace w = IsOver k v w
Polled k v (NotYet why) grace w = HasStopped k v why grace w

-- A wait for these keys was begun, and is over.
abbrev pub HasWaited : Shape → View → ℕ → ℕ → View → Type 0
HasWaited k v low high w = (mid : View) × HasBegun v low high mid × IsOver k mid w
