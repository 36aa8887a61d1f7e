-- What a step tells; and what lookups, walks and the calls on a bucket make of a view.
-- What a step tells.
-- Source: docs/HASH_DICTIONARY.md, "The steps of the hash dictionary".
use Rattle.std.specs.Prelude.{◌≡◌, ℕ, List, ◌%◌, Bool, true, false, [], ◌∷◌, ◌++◌, ◌≢◌, ◌+◌, length, Option, Some, None, IfSome}
use mathlib.Core.List.{IsPrefix}
use Rattle.atomic_table.specs.Table.{Me, Step}
use Rattle.prcu_marks.specs.declared.mark.Mark.{Mark}
use Rattle.hash_core.specs.declared.act.Act.{Act}
use Rattle.hash_core.specs.declared.view.View.{View}
use Rattle.hash_core.specs.Memory.{word_of, is_slot_of}
use Rattle.prcu_marks.specs.declared.access.Access.{Access}
use Rattle.hash_core.specs.Steps.{field_of, access_of, noted, Needs, after, link_stand, known_in, LacksKey, ShowsAbsent, IsOnWalk, knowing, stepped, NeedsUnlock}
use Rattle.class_hash.specs.declared.rule.Nothing.{Nothing}
use Rattle.class_hash.specs.Seats.{TableAt, HasPlace, HasRoom}
use Rattle.class_hash.specs.Answers.{IsInformed, Gains, IsPlaceOfOther, IsLink, IsFull}
use Rattle.std.specs.List.{AllByRecursion}
use Rattle.hash_core.specs.declared.words.Field.{Field}
use Rattle.hash_core.specs.declared.words.Field.TheVariants.{Readers, Free, Retired, Head, Key, Next}
use Rattle.hash_core.specs.declared.words.Kind.{Kind}
use Rattle.hash_core.specs.declared.words.Kind.TheVariants.{H3, H4, H5, H9, H8, H10}
use Rattle.hash_core.specs.declared.view.StepMade.{StepMade}
use Rattle.prcu_marks.specs.declared.mark.Mark.TheVariants.{Entered, Left}
use Rattle.hash_core.specs.declared.view.SearchState.{SearchState}
use Rattle.prcu_marks.specs.Marks.{updates_of}
use Rattle.prcu_model.specs.Dictionary.{WasSaid}
use Rattle.hash_core.specs.declared.view.Hold.{Hold}
use Rattle.hash_core.specs.declared.view.Known.{Known}
use Rattle.prcu_marks.specs.declared.mark.Why.TheVariants.{Counter}
use Rattle.class_hash.specs.declared.bucket.Lock.{Lock}
use Rattle.class_hash.specs.declared.bucket.Lock.TheVariants.{Held, Busy}
use Rattle.class_hash.specs.declared.bucket.Poll.{Poll}
use Rattle.class_hash.specs.declared.bucket.Poll.TheVariants.{Over, NotYet}
use Rattle.hash_core.specs.declared.act.Act.TheVariants as act

-- The step was made with some list of all marks, of which the seat had seen a beginning: the view went on as its act says, and what it
-- gained from the rule.
pub record Told (t : TableAt) (v : View) (a : Act) (found : ℕ) (w : View) : Type 0 where
  pub marks : List Mark
  pub begins : IsPrefix v.seen marks
  pub goes : w ≡ after (noted v a found) a marks found
  pub informed : IsInformed t.capacities t.places w
  pub gains : Gains t v a marks found w

-- What an access asks: the word and the access are those of the act, which may be made.
pub record Touches (t : TableAt) (v : View) (a : Act) (access : Access) (word : ℕ) : Type 0 where
  pub place : HasPlace v
  pub at : word ≡ word_of (field_of v a)
  pub does : access_of v a ≡ access
  pub asks : Needs t.capacities v a

abbrev pub tells : TableAt → Act → Me Nothing View → ℕ → Me Nothing View → Type 0
tells t a me found me' = (me'.1 ≡ me.1) × HasRoom me'.0 × Told t me.0 a found me'.0

abbrev pub told : TableAt → Act → Step Nothing → Me Nothing View → ℕ → Me Nothing View → Type 0
told t a st = tells t a

-- Steps that are made one after another.
-- Source: docs/HASH_DICTIONARY.md, "The calls of the hash dictionary".

-- The steps of a lookup so far: a section was entered for the key, and then there were loads in it alone.
pub record HasBegunLookup (key : ℕ) (steps : List StepMade) : Type 0 where
  pub entry : ℕ
  pub loads : List StepMade
  pub inside : AllByRecursion (λ (step : StepMade). step.kind ≡ H5) loads
  pub are : steps ≡ record { kind = H3; field = Readers (key % 64); number = entry } ∷ loads

-- The steps of a whole lookup: a section was entered for the key, there were loads in it alone, and it was left. So no lock was
-- taken, and no word but the readers of the key's class was changed.
pub record IsLookup (key : ℕ) (steps : List StepMade) : Type 0 where
  pub begun : List StepMade
  pub first : HasBegunLookup key begun
  pub exit : ℕ
  pub are : steps ≡ begun ++ record { kind = H4; field = Readers (key % 64); number = exit } ∷ []

-- More steps were made, the first of which are those of a whole lookup of the key.
pub record BeginsByLookup (key : ℕ) (before after : List StepMade) : Type 0 where
  pub lookup : List StepMade
  pub made : IsLookup key lookup
  pub later : List StepMade
  pub trail : after ≡ before ++ (lookup ++ later)

-- whether a step loads the free word of a class under its lock, as who loads both lists does first
abbrev pub loads_free : Kind → Field → Bool
loads_free H9 (Free class) = true
loads_free _ _ = false

abbrev pub LoadNoLists : List StepMade → Type 0
LoadNoLists steps = AllByRecursion (λ (step : StepMade). loads_free step.kind step.field ≡ false) steps

-- More steps were made, none of which loaded the lists.
pub record AddsNoLists (before after : List StepMade) : Type 0 where
  pub steps : List StepMade
  pub plain : LoadNoLists steps
  pub trail : after ≡ before ++ steps

-- After the first steps, in the second, the free and then the retired word of the class were loaded as 0 under its lock.
pub record LoadsBothEmpty (class : ℕ) (before after : List StepMade) : Type 0 where
  pub earlier : List StepMade
  pub later : List StepMade
  pub trail : after ≡ before ++ (earlier ++ record { kind = H9; field = Free class; number = 0 }
      ∷ record { kind = H9; field = Retired class; number = 0 } ∷ later)

-- What a lookup makes of a view, and what it answers.
-- Source: docs/HASH_DICTIONARY.md, "The calls of the hash dictionary".

-- the view in a section with the key that was entered after these marks
abbrev pub searching : View → ℕ → List Mark → List StepMade → SearchState → Option ℕ → View
searching v key before steps state loaded = record v {
  section = Some (record {
    key = key;
    count = v.sections;
    entered = length before;
    from = length (updates_of before);
    state = state;
    loaded = loaded;
  });
  sections = v.sections + 1;
  own = v.own ++ Entered v.place v.sections key ∷ [];
  trail = v.trail ++ steps;
  seen = before ++ Entered v.place v.sections key ∷ [];
}

-- A section with the key was entered after these marks, and its search stands there. There were loads in it alone since then.
pub record IsSearching (v : View) (key : ℕ) (state : SearchState) (loaded : Option ℕ) (w : View) : Type 0 where
  pub before : List Mark
  pub steps : List StepMade
  pub made : HasBegunLookup key steps
  pub since : IsPrefix v.seen before
  pub view : w ≡ searching v key before steps state loaded

-- The search stands at the slot that a link leads to, if the link isn't 0.
pub record IsAtLink (capacities : List ℕ) (v : View) (key link : ℕ) (w : View) : Type 0 where
  pub searching : IsSearching v key (link_stand link) None w
  pub slot : link ≢ 0 → is_slot_of capacities (key % 64) link ≡ true

-- A section with the key was entered and left, with loads in it alone. The dictionary gave the answer at a front in between.
pub record Looked (v : View) (key : ℕ) (answer : Option ℕ) (w : View) : Type 0 where
  pub before : List Mark
  pub until : List Mark
  pub steps : List StepMade
  pub made : IsLookup key steps
  pub since : IsPrefix v.seen before
  pub within : IsPrefix (before ++ Entered v.place v.sections key ∷ []) until
  pub view : w ≡ record v {
    section = None;
    sections = v.sections + 1;
    own = (v.own ++ Entered v.place v.sections key ∷ []) ++ Left v.place v.sections ∷ [];
    trail = v.trail ++ steps;
    seen = until ++ Left v.place v.sections ∷ [];
  }
  pub said : WasSaid (updates_of w.seen) key (length (updates_of before)) answer

-- The walk along a chain under its lock.
-- Source: docs/HASH_DICTIONARY.md, "The calls of the hash dictionary".

-- what is known in the first is known in the second
abbrev pub KnowsMore : List Known → List Known → Type 0
KnowsMore before after = (field : Field) (number : ℕ) → known_in before field ≡ Some number → known_in after field ≡ Some number

-- Loads under the lock changed nothing but what is known.
pub record HasLoaded (v : View) (hold : Hold) (w : View) (new : Hold) : Type 0 where
  pub was : v.hold ≡ Some hold
  pub more : KnowsMore hold.known new.known
  pub only : new ≡ record hold { known = new.known }
  pub trail : AddsNoLists v.trail w.trail
  pub seen : IsPrefix v.seen w.seen
  pub view : w ≡ record v { hold = Some new; trail = w.trail; seen = w.seen }

-- The walk from a link goes over these slots and comes to another link.
abbrev pub ComesOver : List Known → ℕ → List ℕ → ℕ → Type 0
ComesOver known first [] link = first ≡ link
ComesOver known first (s ∷ ss) link = (first ≡ s) × (s ≢ 0)
    × ((next : ℕ) × (known_in known (Next s) ≡ Some next) × ComesOver known next ss link)

-- The link that the walk came to stands in the head, or in the next of the slot before.
abbrev pub IsLinkedFrom : Hold → Option ℕ → ℕ → Type 0
IsLinkedFrom hold None link = known_in hold.known (Head hold.class) ≡ Some link
IsLinkedFrom hold (Some previous) link = IsOnWalk hold previous × (known_in hold.known (Next previous) ≡ Some link)

-- The walk has passed these slots, none of which has the key, and come to the link.
pub record IsWalking (capacities : List ℕ) (key : ℕ) (hold : Hold) (previous : Option ℕ) (link : ℕ) : Type 0 where
  pub first : ℕ
  pub passed : List ℕ
  pub head : known_in hold.known (Head hold.class) ≡ Some first
  pub comes : ComesOver hold.known first passed link
  pub lacks : LacksKey hold.known key passed
  pub from : IsLinkedFrom hold previous link
  pub slot : link ≢ 0 → is_slot_of capacities hold.class link ≡ true
  pub before : IfSome previous (λ p. is_slot_of capacities hold.class p ≡ true)

-- The walk came to the slot that has the key.
pub record IsFoundAt (key : ℕ) (hold : Hold) (previous : Option ℕ) (slot : ℕ) : Type 0 where
  pub some : slot ≢ 0
  pub on : IsOnWalk hold slot
  pub from : IsLinkedFrom hold previous slot
  pub key_is : known_in hold.known (Key slot) ≡ Some key

-- The walk under the lock went over the whole chain, and the key isn't on it.
pub record WalksPast (key : ℕ) (v : View) (hold : Hold) (w : View) : Type 0 where
  pub new : Hold
  pub loaded : HasLoaded v hold w new
  pub absent : ShowsAbsent new key

-- The walk under the lock came to the slot that has the key, after another slot, if it isn't the first.
pub record WalksTo (capacities : List ℕ) (key : ℕ) (v : View) (hold : Hold) (previous : Option ℕ) (slot : ℕ) (w : View) : Type 0 where
  pub new : Hold
  pub loaded : HasLoaded v hold w new
  pub found : IsFoundAt key new previous slot
  pub slot_is : is_slot_of capacities hold.class slot ≡ true
  pub before : IfSome previous (λ p. is_slot_of capacities hold.class p ≡ true)

-- What the calls on a bucket leave.
-- Source: docs/HASH_DICTIONARY.md, "The hash dictionary".

-- The one exchange of the lock found 0, or it found the place plus 1 of who holds it.
abbrev pub Tries : TableAt → View → ℕ → Lock → View → Type 0
Tries t v class Held w = Told t v (act.Lock class) 0 w
Tries t v class (Busy found) w = IsPlaceOfOther t.places v found × Told t v (act.Lock class) found w

-- the lock was given up
abbrev pub Unlocks : View → View → Type 0
Unlocks v w = w ≡ after (noted v act.Unlock 0) act.Unlock [] 0

-- a bucket's lock is held, and what was begun there is finished
abbrev pub HasFinished : View → Type 0
HasFinished v = (hold : Hold) × NeedsUnlock v hold

-- The free and then the retired word of the class were loaded. Where both are 0, the class is full.
pub record Lists (capacities : List ℕ) (v : View) (free retired : ℕ) (w : View) : Type 0 where
  pub hold : Hold
  pub is : v.hold ≡ Some hold
  pub free_link : IsLink capacities hold.class free
  pub retired_link : IsLink capacities hold.class retired
  pub full : free ≡ 0 → retired ≡ 0 → IsFull capacities hold w.seen
  pub trail : w.trail ≡ (v.trail ++ record { kind = H9; field = Free hold.class; number = free } ∷ [])
      ++ record { kind = H9; field = Retired hold.class; number = retired } ∷ []
  pub seen : IsPrefix v.seen w.seen
  pub rest : w ≡ record v {
    hold = Some (knowing (knowing hold (Free hold.class) free) (Retired hold.class) retired);
    trail = w.trail;
    seen = w.seen;
  }

-- What was begun is finished. The free list was last known to be empty, and the retired list not to be.
pub record MayPoll (v : View) : Type 0 where
  pub hold : Hold
  pub finished : NeedsUnlock v hold
  pub free : known_in hold.known (Free hold.class) ≡ Some 0
  pub first : ℕ
  pub some : first ≢ 0
  pub retired : known_in hold.known (Retired hold.class) ≡ Some first

-- the retired list is the free list now
abbrev pub polled : Hold → ℕ → Hold
polled hold first = record (knowing (knowing hold (Retired hold.class) 0) (Free hold.class) first) { clear = true; moved = None }

-- No reader was found, and the retired list became the free list.
pub record Refilled (v w : View) : Type 0 where
  pub hold : Hold
  pub is : v.hold ≡ Some hold
  pub first : ℕ
  pub retired : known_in hold.known (Retired hold.class) ≡ Some first
  pub rest : w ≡ record (stepped (stepped (stepped v H8 (Readers hold.class) 0) H10 (Retired hold.class) 0) H10 (Free hold.class) first)
      { hold = Some (polled hold first) }

-- So many readers of the class were found, and nothing changed.
pub record Waits (v : View) (class count : ℕ) (w : View) : Type 0 where
  pub hold : Hold
  pub is : v.hold ≡ Some hold
  pub same : class ≡ hold.class
  pub some : count ≢ 0
  pub rest : w ≡ stepped v H8 (Readers hold.class) count

abbrev pub Polls : View → Poll → View → Type 0
Polls v Over w = Refilled v w
Polls v (NotYet (Counter class side count)) w = (side ≡ 0) × Waits v class count w
Polls v (NotYet _) w = ⊥
