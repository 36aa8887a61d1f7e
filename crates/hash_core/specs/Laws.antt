-- What is proved of the rule, and a table as it is made.
-- A table as it is made: all slots are free, and one view has all places.
-- Source: docs/HASH_DICTIONARY.md, "The hash dictionary".
use Rattle.std.specs.Prelude.{◌≡◌, ℕ, ◌+◌, ◌<◌, ◌==◌, if◌then◌else◌, true, List, [], slice_index, ◌%◌, ◌≤◌, ◌↔◌, length, ◌≢◌, ◌⊎◌, ◌∷◌, ◌++◌, set, Option, Some, None}
use Rattle.hash_core.specs.declared.words.Field.TheVariants.{Front, Lock, Readers, Head, Free, Retired, Chain, Value, Next}
use Rattle.hash_core.specs.declared.view.View.{View}
use Rattle.hash_core.specs.Memory.{Memory, word_of, capacity, base, is_slot_of, IsPath, stored, AreMarks, ReuseByClass}
use Rattle.hash_core.specs.Steps.{new_view, IsQuiet, NeedsSplit, first_of, second_of, both_of, spent, StandsAt, IsFieldOf, field_of, Needs, marks_of, left, done}
use Rattle.std.specs.List.{AllByRecursion}
use Rattle.prcu_model.specs.Dictionary.{Dictionary, WasSaid}
use Rattle.list_laws.specs.Counts.{times, total, Somewhere}
use mathlib.Core.Option.{some}
use lib.ListN.{get_elem?}
use Rattle.prcu_marks.specs.declared.mark.Mark.{Mark}
use Rattle.prcu_model.specs.declared.operation.Update.{Update}
use Rattle.prcu_marks.specs.Marks.{updates_of, IsGone}
use Rattle.hash_core.specs.declared.words.Field.{Field}
use Rattle.hash_core.specs.declared.view.SearchState.{SearchState}
use Rattle.hash_core.specs.declared.view.SearchState.TheVariants.{Start, Unread, Passed, Found, Ended}
use Rattle.hash_core.specs.declared.view.Section.{Section}
use Rattle.hash_core.specs.declared.act.Act.{Act}
use Rattle.hash_core.specs.Rule.{Bucket, seek, IsChained, AreListed, HaveOneRole, IsMapped, IsLocked, inside_count, IsHeldBack, IsTurned, IsShape, MemoryRule}
use Rattle.std.specs.FinMap as finite

abbrev pub first_view : ℕ → ℕ → View
first_view places tickets = new_view 0 places tickets []

-- the first slot of a class, 0 where it has none
abbrev pub first_slot : List ℕ → ℕ → ℕ
first_slot capacities c = if capacity capacities c == 0 then 0 else base capacities c + 1

-- the slot that comes after one of the class, 0 after the last
abbrev pub slot_after : List ℕ → ℕ → ℕ → ℕ
slot_after capacities c s = if s == base capacities c + capacity capacities c then 0 else s + 1

-- A class's lock, readers, head, free and retired: its free list has its first slot.
pub record IsFreshClass (ws : List ℕ) (c first : ℕ) : Type 0 where
  pub lock : slice_index ws (word_of (Lock c)) ≡ 0
  pub readers : slice_index ws (word_of (Readers c)) ≡ 0
  pub head : slice_index ws (word_of (Head c)) ≡ 0
  pub free : slice_index ws (word_of (Free c)) ≡ first
  pub retired : slice_index ws (word_of (Retired c)) ≡ 0

-- Each class's free list has all its slots in their order, and nothing else was done.
pub record IsFresh (capacities : List ℕ) (m : Memory) : Type 0 where
  pub front : m Front ≡ 0
  pub locks : (c : ℕ) → c < 64 → m (Lock c) ≡ 0
  pub readers : (c : ℕ) → c < 64 → m (Readers c) ≡ 0
  pub heads : (c : ℕ) → c < 64 → m (Head c) ≡ 0
  pub free : (c : ℕ) → c < 64 → m (Free c) ≡ first_slot capacities c
  pub retired : (c : ℕ) → c < 64 → m (Retired c) ≡ 0
  pub chains : (c s : ℕ) → c < 64 → is_slot_of capacities c s ≡ true → m (Chain s) ≡ slot_after capacities c s

-- How many pairs of a class a dictionary has.
-- Source: docs/HASH_DICTIONARY.md, "The hash dictionary".

-- The keys of the class that the dictionary has are so many: they are those of a list without repetition of that length.
pub record HasPairs (c : ℕ) (dictionary : Dictionary) (count : ℕ) : Type 0 where
  pub keys : List ℕ
  pub as_many : length keys ≡ count
  pub once : (key : ℕ) → times key keys ≤ 1
  pub of_class : AllByRecursion (λ key. key % 64 ≡ c) keys
  pub there : (key : ℕ) → key % 64 ≡ c → (finite.contains_key dictionary key ≡ true) ↔ (1 ≤ times key keys)

-- What the rule gives, in plain words; and what it is for a kind of step to keep it.
-- Source: docs/HASH_DICTIONARY.md, "The hash dictionary's rule".

-- A table between two steps: how it was made, its words, the views of its seats, and the marks. The rule holds.
pub record TableState : Type 0 where
  pub capacities : List ℕ
  pub places : ℕ
  pub tickets : ℕ
  pub memory : Memory
  pub views : List View
  pub marks : List Mark
  pub rule : MemoryRule capacities places tickets memory views marks

-- From a class's head `next` leads over distinct slots of the class with distinct keys of it, and the pairs there are those of the
-- dictionary now whose key is of the class.
pub record HasChain (capacities : List ℕ) (c : ℕ) (m : Memory) (us : List Update) : Type 0 where
  pub chain : List ℕ
  pub chained : IsChained c m chain
  pub slots : AllByRecursion (λ s. is_slot_of capacities c s ≡ true) chain
  pub once : (s : ℕ) → times s chain ≤ 1
  pub mapped : IsMapped c m us chain

abbrev pub ChainsAreMap : Type 0
ChainsAreMap = (t : TableState) (c : ℕ) → c < 64 → HasChain t.capacities c t.memory (updates_of t.marks)

-- Each slot of a class is in one of these: its chain, its free list, its retired list, or in hand of who holds the class's lock.
pub record HasRoles (capacities : List ℕ) (c : ℕ) (m : Memory) (vs : List View) : Type 0 where
  pub bucket : Bucket
  pub path : IsPath (λ s. m (Next s)) (m (Head c)) bucket.chain
  pub listed : AreListed c m bucket
  pub holder : IsLocked c m vs bucket.hold
  pub roles : HaveOneRole capacities c bucket

abbrev pub SlotsHaveOneRole : Type 0
SlotsHaveOneRole = (t : TableState) (c : ℕ) → c < 64 → HasRoles t.capacities c t.memory t.views

-- A class's readers word is the number of its open sections.
abbrev pub ReadersAreCounted : Type 0
ReadersAreCounted = (t : TableState) (c : ℕ) → c < 64 → t.memory (Readers c) ≡ total (λ v. inside_count c v.section) t.views

-- The front word is twice the number of updates where no update is being made, and odd while one view makes one.
abbrev pub FrontCounts : Type 0
FrontCounts = (t : TableState) → IsTurned t.memory t.views (length (updates_of t.marks))

-- a section that is open
abbrev pub IsOpenIn : List View → Section → Type 0
IsOpenIn vs section = Somewhere vs (λ v. v.section ≡ Some section)

-- what a search finds that goes on from a link, along `next` to a link that is 0, as the words are now
pub record Finds (m : Memory) (link key : ℕ) (answer : Option ℕ) : Type 0 where
  pub path : List ℕ
  pub leads : IsPath (λ s. m (Next s)) link path
  pub found : seek m key path ≡ answer

-- the value that was loaded at a slot found, or else the one that stands there
abbrev pub value_at : Memory → ℕ → Option ℕ → ℕ
value_at m slot None = m (Value slot)
value_at m slot (Some value) = value

-- What an open search will answer: nothing where it loaded a link that is 0, the value at the slot found, and else what it finds
-- from where it stands.
abbrev pub Answers : Memory → Section → SearchState → Option ℕ → Type 0
Answers m section Start answer = Finds m (m (Head (section.key % 64))) section.key answer
Answers m section (Unread s) answer = Finds m s section.key answer
Answers m section (Passed s) answer = Finds m (m (Next s)) section.key answer
Answers m section (Found s) answer = answer ≡ Some (value_at m s section.loaded)
Answers m section Ended answer = answer ≡ None

-- What each open search will answer the dictionary said at some front since it was entered.
abbrev pub SearchesAreAnswered : Type 0
SearchesAreAnswered = (t : TableState) (section : Section) → IsOpenIn t.views section
    → (answer : Option ℕ) × Answers t.memory section section.state answer × WasSaid (updates_of t.marks) section.key section.from answer

-- the slot is on the chain of the class
pub record IsLinked (m : Memory) (c slot : ℕ) : Type 0 where
  pub chain : List ℕ
  pub path : IsPath (λ s. m (Next s)) (m (Head c)) chain
  pub there : 1 ≤ times slot chain

-- A slot at which an open search stands is one of its class. It is linked, or was unlinked since the section was entered and
-- not given since.
abbrev pub SearchesStand : Type 0
SearchesStand = (t : TableState) (section : Section) → IsOpenIn t.views section → (slot : ℕ) → StandsAt section.state slot
    → (is_slot_of t.capacities (section.key % 64) slot ≡ true)
    × (IsLinked t.memory (section.key % 64) slot ⊎ IsHeldBack t.marks section slot)

-- The marks stand in order, and have reuse by class.
abbrev pub MarksAreInOrder : Type 0
MarksAreInOrder = (t : TableState) → AreMarks t.places t.marks

abbrev pub SlotsAreReused : Type 0
SlotsAreReused = (t : TableState) → ReuseByClass t.capacities t.marks

-- What a step leaves: the key, value and next of a slot that was unlinked stay until it is given.
pub record KeepsPast (m : Memory) (h : List Mark) (to : Memory) : Type 0 where
  pub content : (s : ℕ) (field : Field) → IsGone h s → IsFieldOf s field → to field ≡ m field

pub record IsKept (t : TableState) (to : Memory) (vs : List View) (h : List Mark) : Type 0 where
  pub rule : MemoryRule t.capacities t.places t.tickets to vs h
  pub past : KeepsPast t.memory t.marks to

-- An act whose needs are met keeps the rule, from any state that has it.
abbrev pub ActsKeep : Type 0
ActsKeep = (t : TableState) (id : ℕ) (v : View) (a : Act) → get_elem? t.views id ≡ some v → 1 ≤ v.places → Needs t.capacities v a
    → let field = field_of v a in let n = t.memory field in
    IsKept t (stored t.memory field (left v a n)) (set t.views id (done v a t.marks n)) (t.marks ++ marks_of v a)

-- A split keeps the rule.
abbrev pub SplitsKeep : Type 0
SplitsKeep = (t : TableState) (id away given : ℕ) (v : View) → get_elem? t.views id ≡ some v → NeedsSplit v away given
    → MemoryRule t.capacities t.places t.tickets t.memory (set t.views id (first_of away given v) ++ second_of away given v ∷ []) t.marks

-- A join keeps the rule.
abbrev pub JoinsKeep : Type 0
JoinsKeep = (t : TableState) (id other_id : ℕ) (v other : View) → get_elem? t.views id ≡ some v → get_elem? t.views other_id ≡ some other
    → id ≢ other_id → IsQuiet v → IsQuiet other
    → MemoryRule t.capacities t.places t.tickets t.memory (set (set t.views id (both_of v other)) other_id spent) t.marks

-- A table as it is made has the rule.
abbrev pub FreshHolds : Type 0
FreshHolds = (capacities : List ℕ) (places tickets : ℕ) (m : Memory) → IsShape capacities places tickets → IsFresh capacities m
    → MemoryRule capacities places tickets m (first_view places tickets ∷ []) []

-- The words, the views and the marks that a table can come to.
pub data Run (capacities : List ℕ) (places tickets : ℕ) : Memory → List View → List Mark → Type 0 where
  begins : {m : Memory} → IsFresh capacities m → Run capacities places tickets m (first_view places tickets ∷ []) []
  steps : {m : Memory} {vs : List View} {h : List Mark} (id : ℕ) (v : View) (a : Act) → Run capacities places tickets m vs h
      → get_elem? vs id ≡ some v → 1 ≤ v.places → Needs capacities v a
      → Run capacities places tickets (stored m (field_of v a) (left v a (m (field_of v a)))) (set vs id (done v a h (m (field_of v a))))
      (h ++ marks_of v a)
  splits : {m : Memory} {vs : List View} {h : List Mark} (id away given : ℕ) (v : View) → Run capacities places tickets m vs h
      → get_elem? vs id ≡ some v → NeedsSplit v away given
      → Run capacities places tickets m (set vs id (first_of away given v) ++ second_of away given v ∷ []) h
  joins : {m : Memory} {vs : List View} {h : List Mark} (id other_id : ℕ) (v other : View) → Run capacities places tickets m vs h
      → get_elem? vs id ≡ some v → get_elem? vs other_id ≡ some other → id ≢ other_id → IsQuiet v → IsQuiet other
      → Run capacities places tickets m (set (set vs id (both_of v other)) other_id spent) h

-- Whatever steps, splits and joins are made from a table as it is made, the rule holds.
abbrev pub RunsHold : Type 0
RunsHold = (capacities : List ℕ) (places tickets : ℕ) (m : Memory) (vs : List View) (h : List Mark) → IsShape capacities places tickets
    → Run capacities places tickets m vs h → MemoryRule capacities places tickets m vs h
