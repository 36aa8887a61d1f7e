-- The rule that holds between any two steps, and its parts on classes, readers and seats.
-- The rule's parts on one class: its chain, its lists, its lock, and which slot is where.
-- Source: docs/HASH_DICTIONARY.md, "The hash dictionary's rule".
use Rattle.std.specs.Prelude.{◌≡◌, ◌≢◌, ℕ, ◌+◌, ◌%◌, ◌<◌, if◌then◌else◌, true, List, [], ◌∷◌, ◌==◌, Option, Some, None, option_to_list, ◌++◌, ◌⊎◌, ◌*◌, ◌^◌, ◌≤◌, length, sum}
use Rattle.std.specs.List.{AllByRecursion}
use mathlib.Core.Option.{some}
use lib.ListN.{get_elem?}
use Rattle.prcu_marks.specs.declared.mark.Mark.{Mark}
use Rattle.prcu_model.specs.declared.operation.Update.{Update}
use Rattle.prcu_model.specs.Dictionary.{map_of, WasSaid, IsLegal}
use Rattle.hash_core.specs.declared.words.Field.{Field}
use Rattle.hash_core.specs.declared.words.Field.TheVariants.{Lock, Readers, Head, Free, Retired, Key, Value, Next, Chain, Front}
use Rattle.hash_core.specs.declared.view.Hold.{Hold}
use Rattle.hash_core.specs.declared.view.Section.{Section}
use Rattle.hash_core.specs.declared.view.View.{View}
use Rattle.list_laws.specs.Counts.{times, total, OnlyOne, Somewhere}
use Rattle.hash_core.specs.Memory.{IsPath, Memory, is_slot_of, IsOfClass, memory_of, word_count, AreMarks, ReuseByClass}
use Rattle.prcu_marks.specs.Marks.{gone_at, IsGone, last_unlinked, Open, open_at, own_of, entered_at, updates_of, updates_by, most_tickets}
use Rattle.hash_core.specs.Steps.{known_in}
use Rattle.hash_core.specs.declared.view.SearchState.{SearchState}
use Rattle.hash_core.specs.declared.view.SearchState.TheVariants.{Start, Unread, Passed, Found, Ended}
use mathlib.Core.List.{IsPrefix}
use Rattle.prcu_marks.specs.declared.commit.Commit.{Commit}
use Rattle.hash_core.specs.declared.shape.Shape.{Shape}
use Rattle.std.specs.FinMap as finite

-- A class: its chain, its free list, its retired list, the list that its holder has in hand, and what the holder knows.
pub record Bucket : Type 0 where
  pub chain : List ℕ
  pub free : List ℕ
  pub retired : List ℕ
  pub moved : List ℕ
  pub hold : Option Hold

abbrev pub taken_of : Option Hold → Option ℕ
taken_of None = None
taken_of (Some hold) = hold.taken

abbrev pub unlinked_of : Option Hold → Option ℕ
unlinked_of None = None
unlinked_of (Some hold) = hold.unlinked

-- the first slot of an optional list, 0 where there is none
abbrev pub link_of : Option ℕ → ℕ
link_of None = 0
link_of (Some slot) = slot

abbrev pub moved_of : Option Hold → Option ℕ
moved_of None = None
moved_of (Some hold) = hold.moved

-- what a search for the key along the slots finds
abbrev pub seek : Memory → ℕ → List ℕ → Option ℕ
seek m key [] = None
seek m key (s ∷ ss) = if m (Key s) == key then Some (m (Value s)) else seek m key ss

-- no two of the slots have one key
abbrev pub HaveDistinctKeys : Memory → List ℕ → Type 0
HaveDistinctKeys m [] = Unit {0}
HaveDistinctKeys m (s ∷ ss) = (seek m (m (Key s)) ss ≡ None) × HaveDistinctKeys m ss

-- From the head `next` leads over the chain, whose keys are of the class and distinct.
pub record IsChained (c : ℕ) (m : Memory) (chain : List ℕ) : Type 0 where
  pub path : IsPath (λ s. m (Next s)) (m (Head c)) chain
  pub classes : AllByRecursion (λ s. m (Key s) % 64 ≡ c) chain
  pub distinct : HaveDistinctKeys m chain

-- `chain` leads over the free list, the retired list and the list in hand.
pub record AreListed (c : ℕ) (m : Memory) (b : Bucket) : Type 0 where
  pub free : IsPath (λ s. m (Chain s)) (m (Free c)) b.free
  pub retired : IsPath (λ s. m (Chain s)) (m (Retired c)) b.retired
  pub moved : IsPath (λ s. m (Chain s)) (link_of (moved_of b.hold)) b.moved

-- how often a slot stands in these: the chain, the free list, the retired list, the list in hand, the slot taken, the slot unlinked
abbrev pub roles_of : Bucket → Option ℕ → Option ℕ → ℕ → ℕ
roles_of b taken unlinked x = times x b.chain + times x b.free + times x b.retired + times x b.moved + times x (option_to_list taken)
    + times x (option_to_list unlinked)

-- Each slot of the class is in just one of them, once, and no other slot is.
pub record HaveOneRole (capacities : List ℕ) (c : ℕ) (b : Bucket) : Type 0 where
  pub once : (x : ℕ) → roles_of b (taken_of b.hold) (unlinked_of b.hold) x ≡ (if is_slot_of capacities c x then 1 else 0)

-- The chain's pairs are those of the dictionary now whose key is of the class.
pub record IsMapped (c : ℕ) (m : Memory) (us : List Update) (chain : List ℕ) : Type 0 where
  pub answers : (key : ℕ) → key % 64 ≡ c → finite.get (map_of us) key ≡ seek m key chain

-- the view holds the lock of another class, or none
abbrev pub HoldsOther : ℕ → View → Type 0
HoldsOther c v = (hold : Hold) → v.hold ≡ Some hold → hold.class ≢ c

-- this view holds the lock
pub record HoldsIt (c : ℕ) (m : Memory) (hold : Hold) (v : View) : Type 0 where
  pub holds : v.hold ≡ Some hold
  pub class : hold.class ≡ c
  pub word : m (Lock c) ≡ v.place + 1

-- one view does, and no other
abbrev pub IsHeldBy : ℕ → Memory → List View → Hold → Type 0
IsHeldBy c m vs hold = OnlyOne vs (HoldsIt c m hold) (HoldsOther c)

-- A lock word is the place plus 1 of the one view that holds the lock, 0 where none does.
abbrev pub IsLocked : ℕ → Memory → List View → Option Hold → Type 0
IsLocked c m vs None = (m (Lock c) ≡ 0) × ((id : ℕ) (v : View) → get_elem? vs id ≡ some v → HoldsOther c v)
IsLocked c m vs (Some hold) = IsHeldBy c m vs hold

-- What the holder knows of the class's words is so.
pub record IsKnown (capacities : List ℕ) (c : ℕ) (m : Memory) (held : Option Hold) : Type 0 where
  pub known : (hold : Hold) (field : Field) (number : ℕ) → held ≡ Some hold → known_in hold.known field ≡ Some number
      → IsOfClass capacities c field × (m field ≡ number)

-- A linked slot and the slot taken weren't unlinked since they were given; those that are retired, in hand or just
-- unlinked were.
pub record HaveAges (h : List Mark) (b : Bucket) : Type 0 where
  pub chain : AllByRecursion (λ s. gone_at s h ≡ None) b.chain
  pub taken : (s : ℕ) → taken_of b.hold ≡ Some s → gone_at s h ≡ None
  pub retired : AllByRecursion (IsGone h) b.retired
  pub moved : AllByRecursion (IsGone h) b.moved
  pub unlinked : (s : ℕ) → unlinked_of b.hold ≡ Some s → IsGone h s

abbrev pub inside_count : ℕ → Option Section → ℕ
inside_count c None = 0
inside_count c (Some section) = if section.key % 64 == c then 1 else 0

-- The readers word counts the open sections of the class.
pub record AreCounted (c : ℕ) (m : Memory) (vs : List View) : Type 0 where
  pub readers : m (Readers c) ≡ total (λ v. inside_count c v.section) vs

-- No open section of the class was entered before the slot was unlinked last, whatever came after that.
abbrev pub IsFreeOfReaders : ℕ → List Mark → List View → ℕ → Type 0
IsFreeOfReaders c h vs s = (p id : ℕ) (v : View) (section : Section) → last_unlinked s h ≡ Some p → get_elem? vs id ≡ some v
    → v.section ≡ Some section → section.key % 64 ≡ c → p < section.entered

-- That holds of free slots and of the list in hand, and where the holder found no reader of all slots of the class.
pub record AreClean (capacities : List ℕ) (c : ℕ) (h : List Mark) (vs : List View) (b : Bucket) : Type 0 where
  pub free : AllByRecursion (IsFreeOfReaders c h vs) b.free
  pub moved : AllByRecursion (IsFreeOfReaders c h vs) b.moved
  pub clear : (hold : Hold) → b.hold ≡ Some hold → hold.clear ≡ true → (s : ℕ) → is_slot_of capacities c s ≡ true → IsFreeOfReaders c h vs s

-- The rule's part on readers: where a search stands, and what it will answer.
-- Source: docs/HASH_DICTIONARY.md, "The hash dictionary's rule".

-- The slot was unlinked after the section was entered, and not given since.
abbrev pub IsHeldBack : List Mark → Section → ℕ → Type 0
IsHeldBack h section s = (p : ℕ) × (gone_at s h ≡ Some p) × (section.entered < p)

-- From a slot `next` leads over slots that were unlinked since the section was entered, and then along the rest of the
-- chain. What is found on that way the dictionary said at some front since then.
pub record HasWay (capacities : List ℕ) (c : ℕ) (m : Memory) (h : List Mark) (us : List Update) (chain : List ℕ) (section : Section)
    (slot : ℕ) : Type 0 where
  pub olds : List ℕ
  pub front : List ℕ
  pub rest : List ℕ
  pub some : slot ≢ 0
  pub path : IsPath (λ s. m (Next s)) slot (olds ++ rest)
  pub held : AllByRecursion (IsHeldBack h section) olds
  pub slots : AllByRecursion (λ s. is_slot_of capacities c s ≡ true) olds
  pub joins : chain ≡ front ++ rest
  pub said : WasSaid us section.key section.from (seek m section.key (olds ++ rest))

-- what a search will answer, by where it stands
abbrev pub WillAnswer : List ℕ → ℕ → Memory → List Mark → List Update → List ℕ → Section → SearchState → Type 0
WillAnswer capacities c m h us chain section Start = Unit {0}
WillAnswer capacities c m h us chain section (Unread s) = HasWay capacities c m h us chain section s
WillAnswer capacities c m h us chain section (Passed s) = HasWay capacities c m h us chain section s × (m (Key s) ≢ section.key)
WillAnswer capacities c m h us chain section (Found s) = HasWay capacities c m h us chain section s × (m (Key s) ≡ section.key)
WillAnswer capacities c m h us chain section Ended = WasSaid us section.key section.from None

-- Each open section of the class will be answered what the dictionary said since it was entered; and so was the value that
-- it has loaded.
pub record AreAnswered (capacities : List ℕ) (c : ℕ) (m : Memory) (h : List Mark) (us : List Update) (vs : List View)
    (chain : List ℕ) : Type 0 where
  pub readers : (id : ℕ) (v : View) (section : Section) → get_elem? vs id ≡ some v → v.section ≡ Some section → section.key % 64 ≡ c
      → WillAnswer capacities c m h us chain section section.state
  pub loaded : (id : ℕ) (v : View) (section : Section) (value : ℕ) → get_elem? vs id ≡ some v → v.section ≡ Some section
      → section.key % 64 ≡ c → section.loaded ≡ Some value → WasSaid us section.key section.from (Some value)

-- The rule's parts on seats: who has which place, what each has seen and left, and whose the front is.
-- Source: docs/HASH_DICTIONARY.md, "The hash dictionary's rule".

-- what the view has seen begins with what it heard of when seats were joined into it
abbrev pub HasHeard : View → Type 0
HasHeard v = AllByRecursion (λ seen. IsPrefix seen v.seen) v.heard

-- Each view has seen a beginning of the marks, with what it heard of at its beginning, and one view has seen them all.
pub record AreSeen (vs : List View) (h : List Mark) : Type 0 where
  pub begins : (id : ℕ) (v : View) → get_elem? vs id ≡ some v → IsPrefix v.seen h
  pub heard : (id : ℕ) (v : View) → get_elem? vs id ≡ some v → HasHeard v
  pub longest : Somewhere vs (λ v. v.seen ≡ h)

-- the place is one of the view's
abbrev pub HasPlace : View → ℕ → Type 0
HasPlace v p = (v.place ≤ p) × (p < v.place + v.places)

-- the view answers for the place: it is one of its own, or was joined into it
abbrev pub AnswersFor : View → ℕ → Type 0
AnswersFor v p = HasPlace v p ⊎ (1 ≤ times p v.joined)

-- No place is answered for by two views.
pub record AreApart (places : ℕ) (vs : List View) : Type 0 where
  pub within : (id : ℕ) (v : View) (p : ℕ) → get_elem? vs id ≡ some v → AnswersFor v p → p < places
  pub apart : (i j p : ℕ) (v w : View) → get_elem? vs i ≡ some v → get_elem? vs j ≡ some w → AnswersFor v p → AnswersFor w p → i ≡ j
  pub joined : (id : ℕ) (v : View) (p : ℕ) → get_elem? vs id ≡ some v → HasPlace v p → times p v.joined ≡ 0

-- The marks of a place are those that the view has of it that answers for the place, which has seen them all. It has no
-- others, and none of its unused places. The table's places alone have marks.
pub record AreOwned (places : ℕ) (vs : List View) (h : List Mark) : Type 0 where
  pub own : (id : ℕ) (v : View) (p : ℕ) → get_elem? vs id ≡ some v → AnswersFor v p → own_of p h ≡ own_of p v.own
  pub met : (id : ℕ) (v : View) (p : ℕ) → get_elem? vs id ≡ some v → AnswersFor v p → own_of p v.seen ≡ own_of p v.own
  pub within : (p : ℕ) → places ≤ p → own_of p h ≡ []
  pub none : (id : ℕ) (v : View) (p : ℕ) → get_elem? vs id ≡ some v → (AnswersFor v p → ⊥) → own_of p v.own ≡ []
  pub unused : (id : ℕ) (v : View) (p : ℕ) → get_elem? vs id ≡ some v → HasPlace v p → p ≢ v.place → own_of p v.own ≡ []

-- the section that is open at a place by the marks
abbrev pub open_of : Section → Open
open_of section = record { count = section.count; key = section.key; at = section.entered }

-- the view works at this place and has this section open
pub record HasOpen (v : View) (p : ℕ) (o : Open) : Type 0 where
  pub place : v.place ≡ p
  pub section : Section
  pub inside : v.section ≡ Some section
  pub is : o ≡ open_of section

-- an open section, by the marks, is that of the view that works at its place
abbrev pub IsOpenOf : List View → ℕ → Open → Type 0
IsOpenOf vs p o = Somewhere vs (λ v. HasOpen v p o)

-- The view works at a place, of which the section is the open one, by the marks. It was entered at a front, with a word as its key.
pub record IsOpenHere (v : View) (h : List Mark) (us : List Update) (section : Section) : Type 0 where
  pub works : 1 ≤ v.places
  pub opened : open_at v.place h ≡ Some (open_of section)
  pub since : section.from ≤ length us
  pub fits : section.key < 2 ^ 64

-- A view's section is the open one of its place; no other is open. Its number is that of the sections entered before it.
pub record AreOpen (vs : List View) (h : List Mark) (us : List Update) : Type 0 where
  pub open_here : (id : ℕ) (v : View) (section : Section) → get_elem? vs id ≡ some v → v.section ≡ Some section
      → IsOpenHere v h us section
  pub entered : (id : ℕ) (v : View) → get_elem? vs id ≡ some v → 1 ≤ v.places → v.sections ≡ entered_at v.place h
  pub all : (p : ℕ) (o : Open) → open_at p h ≡ Some o → IsOpenOf vs p o

-- A lock that is held is that of a class, and its holder works at a place.
pub record AreHeld (vs : List View) : Type 0 where
  pub held : (id : ℕ) (v : View) (hold : Hold) → get_elem? vs id ≡ some v → v.hold ≡ Some hold → (hold.class < 64) × (1 ≤ v.places)

abbrev pub HasNoCommit : View → Type 0
HasNoCommit v = v.commit ≡ None

-- the front is odd by this view, which holds a lock
pub record MakesOdd (m : Memory) (count : ℕ) (v : View) : Type 0 where
  pub commit : Commit
  pub hold : Hold
  pub has : v.commit ≡ Some commit
  pub holds : v.hold ≡ Some hold
  pub word : m Front ≡ commit.found + 1
  pub updates : updates_by commit ≡ 2 * count

-- by one view, and by no other
abbrev pub IsOddBy : Memory → List View → ℕ → Type 0
IsOddBy m vs count = OnlyOne vs (MakesOdd m count) HasNoCommit

-- An even front is twice the number of updates, and is no view's commit; an odd one is one view's.
abbrev pub IsTurned : Memory → List View → ℕ → Type 0
IsTurned m vs count =
    ((m Front ≡ 2 * count) × ((id : ℕ) (v : View) → get_elem? vs id ≡ some v → HasNoCommit v)) ⊎ IsOddBy m vs count

-- The rule that holds between any two steps.
-- Source: docs/HASH_DICTIONARY.md, "The hash dictionary's rule".

-- what holds of one class
pub record BucketRule (capacities : List ℕ) (c : ℕ) (m : Memory) (h : List Mark) (us : List Update) (vs : List View)
    (b : Bucket) : Type 0 where
  pub chained : IsChained c m b.chain
  pub listed : AreListed c m b
  pub roles : HaveOneRole capacities c b
  pub mapped : IsMapped c m us b.chain
  pub locked : IsLocked c m vs b.hold
  pub known : IsKnown capacities c m b.hold
  pub ages : HaveAges h b
  pub counted : AreCounted c m vs
  pub clean : AreClean capacities c h vs b
  pub answered : AreAnswered capacities c m h us vs b.chain

-- how a table of this shape is made, and how large it may be
pub record IsShape (capacities : List ℕ) (places tickets : ℕ) : Type 0 where
  pub classes : length capacities ≡ 64
  pub slots : sum capacities ≤ 2097152
  pub some_place : 1 ≤ places
  pub few_places : places ≤ 64
  pub few_tickets : tickets ≤ most_tickets

-- what holds of the memory and of all views, with this list of marks
pub record MemoryRule (capacities : List ℕ) (places tickets : ℕ) (m : Memory) (vs : List View) (h : List Mark) : Type 0 where
  pub shape : IsShape capacities places tickets
  pub seen : AreSeen vs h
  pub apart : AreApart places vs
  pub owned : AreOwned places vs h
  pub sections : AreOpen vs h (updates_of h)
  pub held : AreHeld vs
  pub turned : IsTurned m vs (length (updates_of h))
  pub tickets_are : length (updates_of h) + total (λ v. v.tickets) vs ≡ tickets
  pub legal : IsLegal (updates_of h)
  pub marks : AreMarks places h
  pub reuse : ReuseByClass capacities h
  pub bucket : ℕ → Bucket
  pub buckets : (c : ℕ) → c < 64 → BucketRule capacities c m h (updates_of h) vs (bucket c)

-- the rule over the table's words
pub record Rule (shape : Shape) (words : List ℕ) (vs : List View) : Type 0 where
  pub marks : List Mark
  pub long : length words ≡ word_count shape.capacities.items
  pub holds : MemoryRule shape.capacities.items shape.places shape.tickets (memory_of shape.capacities.items words) vs marks
