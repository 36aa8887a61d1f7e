-- What a step tells from the rule.
-- Source: docs/HASH_DICTIONARY.md, "The steps of the hash dictionary".
use Rattle.std.specs.Prelude.{◌≡◌, ◌≢◌, ℕ, ◌+◌, ◌*◌, ◌%◌, ◌<◌, ◌≤◌, true, List, [], length, Some, None}
use Rattle.prcu_marks.specs.declared.mark.Mark.{Mark}
use Rattle.hash_core.specs.declared.words.Field.{Field}
use Rattle.hash_core.specs.declared.words.Field.TheVariants.{Head, Free, Retired, Value, Next}
use Rattle.hash_core.specs.declared.view.SearchState.TheVariants.{Ended}
use Rattle.hash_core.specs.declared.view.Section.{Section}
use Rattle.hash_core.specs.declared.view.Hold.{Hold}
use Rattle.prcu_marks.specs.Marks.{updates_of, own_of, most_front}
use Rattle.prcu_model.specs.Dictionary.{IsLegal, map_of, WasSaid}
use Rattle.hash_core.specs.declared.view.View.{View}
use Rattle.hash_core.specs.Memory.{AreMarks, ReuseByClass, capacity, is_slot_of}
use Rattle.hash_core.specs.Rule.{HasHeard, HasPlace, AnswersFor}
use Rattle.hash_core.specs.Laws.{HasPairs}
use Rattle.std.specs.FinMap as finite
use Rattle.hash_core.specs.Steps.{known_in, ShowsAbsent, IsOnWalk, StandsAt, section_of, hold_of, commit_of}
use Rattle.hash_core.specs.declared.act.Act.{Act}
use Rattle.hash_core.specs.declared.act.Act.TheVariants.{Leave, SearchLoad, Lock, LockedLoad, TakeSlot, OpenCommit, LinkSlot, UnlinkSlot, ReplaceValue}
use Rattle.class_hash.specs.Seats.{TableAt}

-- What the section's search found, the dictionary said at some front since it was entered: nothing where the search came
-- to an end, and the value where it loaded one.
pub record GivesAnswer (seen : List Mark) (section : Section) : Type 0 where
  pub absent : section.state ≡ Ended → WasSaid (updates_of seen) section.key section.from None
  pub present : (value : ℕ) → section.loaded ≡ Some value → WasSaid (updates_of seen) section.key section.from (Some value)

-- the slot at which the search stands is one of its class
abbrev pub StandsInClass : List ℕ → Section → Type 0
StandsInClass capacities section = (slot : ℕ) → StandsAt section.state slot → is_slot_of capacities (section.key % 64) slot ≡ true

-- What a seat has seen, which works at a place: its updates are a history, its marks stand in order, and slots were used again by
-- class; the marks of each place for which it answers are those that it has, none of its unused places; and places that the table
-- hasn't have none.
pub record IsInformed (capacities : List ℕ) (places : ℕ) (v : View) : Type 0 where
  pub works : 1 ≤ v.places
  pub heard : HasHeard v
  pub legal : IsLegal (updates_of v.seen)
  pub marks : AreMarks places v.seen
  pub reuse : ReuseByClass capacities v.seen
  pub met : (p : ℕ) → AnswersFor v p → own_of p v.seen ≡ own_of p v.own
  pub unused : (p : ℕ) → HasPlace v p → p ≢ v.place → own_of p v.own ≡ []
  pub within : (p : ℕ) → places ≤ p → own_of p v.seen ≡ []

-- The number is a place of the table plus 1, and this view doesn't answer for that place.
abbrev pub IsPlaceOfOther : ℕ → View → ℕ → Type 0
IsPlaceOfOther places v found = (place : ℕ) × (found ≡ place + 1) × (place < places) × (AnswersFor v place → ⊥)

-- where a lock isn't free, it names the place of who holds it
abbrev pub IsHeldByOther : ℕ → View → ℕ → Type 0
IsHeldByOther places v found = found ≢ 0 → IsPlaceOfOther places v found

-- a link is 0 or a slot of the class
abbrev pub IsLink : List ℕ → ℕ → ℕ → Type 0
IsLink capacities class link = link ≢ 0 → is_slot_of capacities class link ≡ true

-- what is found at the words of a class, and at the next of a slot on the known walk, is a link
abbrev pub IsLinkOf : List ℕ → Hold → Field → ℕ → Type 0
IsLinkOf capacities hold (Head d) found = IsLink capacities hold.class found
IsLinkOf capacities hold (Free d) found = IsLink capacities hold.class found
IsLinkOf capacities hold (Retired d) found = IsLink capacities hold.class found
IsLinkOf capacities hold (Next slot) found = IsOnWalk hold slot → IsLink capacities hold.class found
IsLinkOf capacities hold _ found = Unit {0}

-- After the updates seen the class has as many pairs as slots, and none with a key that the known walk shows absent.
pub record IsFull (capacities : List ℕ) (hold : Hold) (seen : List Mark) : Type 0 where
  pub pairs : HasPairs hold.class (map_of (updates_of seen)) (capacity capacities hold.class)
  pub absent : (key : ℕ) → key % 64 ≡ hold.class → ShowsAbsent hold key → finite.get (map_of (updates_of seen)) key ≡ None

-- the retired word is found 0 where the free list is known to be empty and nothing is in hand
pub record FindsFull (hold : Hold) (field : Field) (found : ℕ) : Type 0 where
  pub field_is : field ≡ Retired hold.class
  pub none : found ≡ 0
  pub free : known_in hold.known (Free hold.class) ≡ Some 0
  pub taken : hold.taken ≡ None
  pub unlinked : hold.unlinked ≡ None
  pub moved : hold.moved ≡ None

-- what the exchange of a lock tells: outside a lock no front is odd by the view, and who holds it is another
pub record TellsHolder (places : ℕ) (v : View) (found : ℕ) : Type 0 where
  pub even : v.commit ≡ None
  pub other : IsHeldByOther places v found

-- What a load under the lock tells: links are slots of the class, a word that is known is found again, and whether the class is full.
pub record TellsWord (capacities : List ℕ) (hold : Hold) (field : Field) (found : ℕ) (w : View) : Type 0 where
  pub link : IsLinkOf capacities hold field found
  pub same : (number : ℕ) → known_in hold.known field ≡ Some number → found ≡ number
  pub full : FindsFull hold field found → IsFull capacities hold w.seen

-- After an update: the front that was found shows how many there are.
pub record IsCounted (v w : View) : Type 0 where
  pub position : (commit_of v).found + 2 ≡ 2 * length (updates_of w.seen)

-- What was replaced, where that is known, the dictionary gave the key before.
pub record TellsOld (v : View) (h : List Mark) (slot key : ℕ) (w : View) : Type 0 where
  pub counted : IsCounted v w
  pub was : (old : ℕ) → known_in (hold_of v).known (Value slot) ≡ Some old → finite.get (map_of (updates_of h)) key ≡ Some old

-- by the act, with the view before, all marks before, the number found and the view after
abbrev pub Gains : TableAt → View → Act → List Mark → ℕ → View → Type 0
Gains t v Leave h found w = GivesAnswer w.seen (section_of v)
Gains t v (SearchLoad field) h found w = StandsInClass t.capacities (section_of w)
Gains t v (Lock class) h found w = TellsHolder t.places v found
Gains t v (LockedLoad field) h found w = TellsWord t.capacities (hold_of v) field found w
Gains t v (TakeSlot slot next) h found w = IsOnWalk (hold_of v) slot → ⊥
Gains t v (OpenCommit even) h found w = found ≤ most_front
Gains t v (LinkSlot slot key value) h found w = IsCounted v w
Gains t v (UnlinkSlot link slot key next) h found w = IsCounted v w
Gains t v (ReplaceValue slot key value) h found w = TellsOld v h slot key w
Gains t v _ h found w = Unit {0}
