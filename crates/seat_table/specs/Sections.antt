-- What sections and a wait that begins make of a view, and how many steps its seat has made.
use Rattle.std.specs.Prelude.{◌≡◌, ℕ, ◌+◌, ◌-◌, ◌%◌, ◌<◌, Bool, true, false, List, [], ◌∷◌, ◌++◌, length, Some, None, ◌≤◌}
use Rattle.std.specs.List.{AllByRecursion}
use Rattle.prcu_marks.specs.declared.mark.Mark.{Mark}
use Rattle.prcu_marks.specs.declared.mark.Mark.TheVariants.{Entered, Left, Began}
use Rattle.prcu_marks.specs.Marks.{updates_of}
use Rattle.key_interval.specs.Keys.{class_of}
use Rattle.core_state.specs.declared.shape.Waiter.{Waiter}
use Rattle.core_state.specs.declared.shape.Waiter.TheVariants.{Eer, Domain, Deer}
use Rattle.core_state.specs.declared.words.Field.TheVariants.{Clock, Announced, Stamp, Gate, Count, Row}
use Rattle.core_state.specs.declared.words.Kind.{Kind}
use Rattle.core_state.specs.declared.words.Kind.TheVariants.{K3, K4, K5, K6, K7, K28, K29, K30, K33, K34}
use Rattle.core_state.specs.declared.view.Move.{Move}
use Rattle.core_state.specs.declared.view.Retired.{Retired}
use Rattle.core_state.specs.declared.view.Section.{Section}
use Rattle.core_state.specs.declared.view.StepMade.{StepMade}
use Rattle.core_state.specs.declared.view.Trail.{Trail}
use Rattle.core_state.specs.declared.view.View.{View}
use Rattle.core_state.specs.Steps.{stepped, fresh_reading, new_wait}
use Rattle.list_laws.specs.Counts.{Each}
use Rattle.seat_table.specs.Gains.{Sees, IsInformed, GivesAnswer}
use Rattle.seat_table.specs.Seats.{SeatAt, IsQuietSeat}

-- What is made of a view by entering a section, by leaving it, and by beginning a wait.
-- Source: docs/TREE_CALLS.md, "The tree's sections".

-- One mark was left, after all marks that there were then; of these the seat has seen a beginning, and all of its places.
pub record Leaves (v : View) (mark : Mark) (w : View) : Type 0 where
  pub before : List Mark
  pub seen : Sees v before
  pub marked : w.seen ≡ before ++ mark ∷ []

-- More steps were made, each of one of these kinds.
pub record Makes (which : Kind → Bool) (before after : Trail) : Type 0 where
  pub steps : List StepMade
  pub each : AllByRecursion (λ (t : StepMade). which t.kind ≡ true) steps
  pub trail : after ≡ record before { steps = before.steps ++ steps }

-- The latest of the steps is of one of these kinds.
pub record EndBy (which : Kind → Bool) (steps : List StepMade) : Type 0 where
  pub earlier : List StepMade
  pub last : StepMade
  pub whole : steps ≡ earlier ++ last ∷ []
  pub kind_is : which last.kind ≡ true

-- the kinds of step by which a section is entered, and left
abbrev pub is_entry : Kind → Bool
is_entry K3 = true
is_entry K4 = true
is_entry K5 = true
is_entry K28 = true
is_entry K29 = true
is_entry K33 = true
is_entry _ = false

-- and those of them that show that the seat reads
abbrev pub shows_reader : Kind → Bool
shows_reader K5 = true
shows_reader K29 = true
shows_reader K33 = true
shows_reader _ = false

abbrev pub is_exit : Kind → Bool
is_exit K6 = true
is_exit K30 = true
is_exit K34 = true
is_exit _ = false

-- The seat is quiet but for a section that may be open.
pub record IsQuietButSection (s : SeatAt) : Type 0 where
  pub quiet : IsQuietSeat (record s { view = record s.view { section = None } })

-- A section with this key was entered at the seat's place, and its search stands at the root. The last step shows that the seat reads.
-- Nothing else of what the seat knows changed.
pub record HasEntered (v : View) (key : ℕ) (w : View) : Type 0 where
  pub leaves : Leaves v (Entered v.allowance.place v.counts.sections key) w
  pub section : Section
  pub inside : w.section ≡ Some section
  pub key_is : section.key ≡ key
  pub count_is : section.count ≡ v.counts.sections
  pub no_list : section.listing ≡ None
  pub from_is : section.from ≡ length (updates_of leaves.before)
  pub reading_is : section.reading ≡ fresh_reading key
  pub made : Makes is_entry v.trail w.trail
  pub ends : EndBy shows_reader made.steps
  pub others : w ≡ record v {
    enter = w.enter;
    section = w.section;
    counts = record v.counts { sections = v.counts.sections + 1 };
    trail = w.trail;
    seen = w.seen;
  }
  pub informed : IsInformed w

-- The steps by which each waiter enters a section with this key at a place. The first loads the clock, announces the key, and stores the
-- clock that it loaded as the place's stamp. The second loads the gate of the key's class, and adds 1 to the count of the side that the
-- gate names. The third loads the clock, and stores it as the place's stamp of the key's class.
abbrev pub AreOfEntry : Waiter → ℕ → ℕ → List StepMade → Type 0
AreOfEntry Eer place key steps = (clock : ℕ) × (steps ≡ record { kind = K3; field = Clock; number = clock }
    ∷ (record { kind = K4; field = Announced place; number = key } ∷ (record { kind = K5; field = Stamp place; number = clock } ∷ [])))
AreOfEntry Domain place key steps = (gate count : ℕ) × (steps ≡ record { kind = K28; field = Gate (class_of key); number = gate }
    ∷ (record { kind = K29; field = Count (class_of key) (gate % 2); number = count } ∷ []))
AreOfEntry Deer place key steps = (clock : ℕ) × (steps ≡ record { kind = K3; field = Clock; number = clock }
    ∷ (record { kind = K33; field = Row place (class_of key); number = clock } ∷ []))

-- Just the steps were made by which the waiter enters a section with this key.
pub record EntersBy (waiter : Waiter) (v : View) (key : ℕ) (w : View) : Type 0 where
  pub steps : List StepMade
  pub makes : w.trail ≡ record v.trail { steps = v.trail.steps ++ steps }
  pub are : AreOfEntry waiter v.allowance.place key steps

-- The open section was left, by one step. What its search found, the dictionary said at some front since it was entered.
pub record HasLeft (v : View) (w : View) : Type 0 where
  pub section : Section
  pub was : v.section ≡ Some section
  pub leaves : Leaves v (Left v.allowance.place section.count) w
  pub outside : w.section ≡ None
  pub made : Makes is_exit v.trail w.trail
  pub once : length made.steps ≡ 1
  pub others : w ≡ record v { enter = w.enter; section = None; records = section.reading ∷ v.records; trail = w.trail; seen = w.seen }
  pub answer : GivesAnswer w.seen section
  pub informed : IsInformed w

-- A wait for these keys was begun at the seat's place, by one step and with one of its tickets, after the place's unlinkings and after the
-- update of its pending move.
pub record HasBegun (v : View) (low high : ℕ) (w : View) : Type 0 where
  pub clock : ℕ
  pub leaves : Leaves v (Began v.allowance.place v.counts.waits low high) w
  pub wait_is : w.wait ≡ Some (new_wait v low high clock leaves.before)
  pub older : Each v.hands.retired (λ (r : Retired). r.unlinked < length leaves.before)
  pub moves : (move : Move) → v.moving ≡ Some move → move.made < length leaves.before
  pub made : w.trail ≡ (stepped v K7 Clock clock).trail
  pub others : w ≡ record v {
    allowance = record v.allowance { tickets = v.allowance.tickets - 1 };
    wait = w.wait;
    counts = record v.counts { waits = v.counts.waits + 1 };
    trail = w.trail;
    seen = w.seen;
  }
  pub informed : IsInformed w

-- How many steps a seat has made.
-- Source: docs/TREE_CALLS.md, "The calls".

-- The seat has made so many steps, or more.
abbrev pub HasMade : ℕ → View → Type 0
HasMade count v = count ≤ length v.trail.steps

-- Between the two views a step was made, or more.
abbrev pub HasStepped : View → View → Type 0
HasStepped v w = length v.trail.steps < length w.trail.steps

-- Between the two views at most so many steps were made.
abbrev pub HasMadeAtMost : ℕ → View → View → Type 0
HasMadeAtMost most v w = length w.trail.steps ≤ length v.trail.steps + most
