-- The words of a table and its slots: where they stand, which are of a class, and what marks say of slots.
-- The table's words as a memory with named fields, and where each stands in the table's row.
-- Source: docs/HASH_DICTIONARY.md, "The hash dictionary".
use Rattle.std.specs.Prelude.{ℕ, ◌+◌, ◌*◌, ◌==◌, nat_lt, nat_le, ◌&&◌, Bool, true, false, if◌then◌else◌, List, slice_index, sum, ◌≡◌, IsTrue, take, ◌<◌, ◌≤◌, [], ◌∷◌, ◌%◌, ◌^◌, Some, None}
use Rattle.hash_core.specs.declared.layout.TheConstants.{LEAD, APART, CLASS_BASE, SLOT_BASE, SLOT_WORDS, LINE}
use Rattle.hash_core.specs.declared.words.Field.{Field}
use Rattle.hash_core.specs.declared.words.Field.TheVariants.{Front, Lock, Readers, Head, Free, Retired, Key, Value, Next, Chain}
use mathlib.Core.Option.{some}
use lib.ListN.{get_elem?}
use Rattle.prcu_marks.specs.declared.mark.Mark.{Mark}
use Rattle.prcu_marks.specs.declared.mark.Mark.TheVariants.{Entered, Left, Began, Ended, Given, Freed, Moved}
use Rattle.prcu_marks.specs.Marks.{Open, open_at, entered_at, last_unlinked}

-- where a field stands in the row
abbrev pub word_of : Field → ℕ
word_of Front = LEAD
word_of (Lock c) = CLASS_BASE + APART * c
word_of (Readers c) = CLASS_BASE + APART * c + 1
word_of (Head c) = CLASS_BASE + APART * c + 2
word_of (Free c) = CLASS_BASE + APART * c + 3
word_of (Retired c) = CLASS_BASE + APART * c + 4
word_of (Key s) = SLOT_BASE + SLOT_WORDS * s
word_of (Value s) = SLOT_BASE + SLOT_WORDS * s + 1
word_of (Next s) = SLOT_BASE + SLOT_WORDS * s + 2
word_of (Chain s) = SLOT_BASE + SLOT_WORDS * s + 3

abbrev pub same_field : Field → Field → Bool
same_field Front Front = true
same_field (Lock c) (Lock d) = c == d
same_field (Readers c) (Readers d) = c == d
same_field (Head c) (Head d) = c == d
same_field (Free c) (Free d) = c == d
same_field (Retired c) (Retired d) = c == d
same_field (Key s) (Key t) = s == t
same_field (Value s) (Value t) = s == t
same_field (Next s) (Next t) = s == t
same_field (Chain s) (Chain t) = s == t
same_field _ _ = false

abbrev pub Memory : Type 0
Memory = Field → ℕ

-- The table has the field: its class is one of 64, its slot one of the slots.
abbrev pub is_field : List ℕ → Field → Bool
is_field capacities Front = true
is_field capacities (Lock c) = nat_lt c 64
is_field capacities (Readers c) = nat_lt c 64
is_field capacities (Head c) = nat_lt c 64
is_field capacities (Free c) = nat_lt c 64
is_field capacities (Retired c) = nat_lt c 64
is_field capacities (Key s) = nat_le 1 s && nat_le s (sum capacities)
is_field capacities (Value s) = nat_le 1 s && nat_le s (sum capacities)
is_field capacities (Next s) = nat_le 1 s && nat_le s (sum capacities)
is_field capacities (Chain s) = nat_le 1 s && nat_le s (sum capacities)

-- the memory that a table's words are, 0 at a field that it hasn't
abbrev pub memory_of : List ℕ → List ℕ → Memory
memory_of capacities words field = if is_field capacities field then slice_index words (word_of field) else 0

-- the memory after a store
abbrev pub stored : Memory → Field → ℕ → Memory
stored m field number other = if same_field field other then number else m other

-- Which slots a class owns, and which fields are its own.
-- Source: docs/HASH_DICTIONARY.md, "The hash dictionary".

-- how many slots a class owns
abbrev pub capacity : List ℕ → ℕ → ℕ
capacity capacities c = slice_index capacities c

-- how many slots the classes before it own
abbrev pub base : List ℕ → ℕ → ℕ
base capacities c = sum (take c capacities)

-- Each class owns as many slots as its capacity, in the order of the classes, counted from 1.
abbrev pub is_slot_of : List ℕ → ℕ → ℕ → Bool
is_slot_of capacities c s = nat_lt (base capacities c) s && nat_le s (base capacities c + capacity capacities c)

-- what the holder of a class's bucket alone changes
abbrev pub IsOfClass : List ℕ → ℕ → Field → Type 0
IsOfClass capacities c Front = ⊥
IsOfClass capacities c (Lock d) = ⊥
IsOfClass capacities c (Readers d) = ⊥
IsOfClass capacities c (Head d) = d ≡ c
IsOfClass capacities c (Free d) = d ≡ c
IsOfClass capacities c (Retired d) = d ≡ c
IsOfClass capacities c (Key s) = IsTrue (is_slot_of capacities c s)
IsOfClass capacities c (Value s) = IsTrue (is_slot_of capacities c s)
IsOfClass capacities c (Next s) = IsTrue (is_slot_of capacities c s)
IsOfClass capacities c (Chain s) = IsTrue (is_slot_of capacities c s)

-- how many words the table has
abbrev pub word_count : List ℕ → ℕ
word_count capacities = SLOT_BASE + SLOT_WORDS * (sum capacities + 1)

-- How words stand beside each other in the table's row.
-- Source: docs/HASH_DICTIONARY.md, "The hash dictionary".

-- No two fields stand at one place.
abbrev pub NoPlaceIsShared : Type 0
NoPlaceIsShared = (capacities : List ℕ) (f g : Field) → is_field capacities f ≡ true → is_field capacities g ≡ true
    → word_of f ≡ word_of g → f ≡ g

-- Each field stands within the row.
abbrev pub FieldsAreWithin : Type 0
FieldsAreWithin = (capacities : List ℕ) (f : Field) → is_field capacities f ≡ true → word_of f < word_count capacities

-- the words of a class itself, beside those of its slots
abbrev pub IsOwnWord : ℕ → Field → Type 0
IsOwnWord c (Lock d) = d ≡ c
IsOwnWord c (Readers d) = d ≡ c
IsOwnWord c (Head d) = d ≡ c
IsOwnWord c (Free d) = d ≡ c
IsOwnWord c (Retired d) = d ≡ c
IsOwnWord c _ = ⊥

-- Words of two classes stand at least a line from each other, and so does the front from those of each class. So wherever the row begins no
-- line has both.
abbrev pub LinesAreOwn : Type 0
LinesAreOwn = (c : ℕ) (g : Field) → IsOwnWord c g → (word_of Front + LINE ≤ word_of g)
    × ((b : ℕ) (f : Field) → b < c → IsOwnWord b f → word_of f + LINE ≤ word_of g)

-- Lists of slots that lead from one to the next.
-- Source: docs/HASH_DICTIONARY.md, "The hash dictionary".

-- The slots that are come to from the first, one after another, up to a link that is 0.
abbrev pub IsPath : (ℕ → ℕ) → ℕ → List ℕ → Type 0
IsPath next first [] = first ≡ 0
IsPath next first (s ∷ ss) = (first ≡ s) × (1 ≤ s) × IsPath next (next s) ss

-- What a list of marks says of slots that are used again, and what is true of each such list.
-- Source: docs/ACCOUNTS.md, "Marks".

-- the steps here leave no mark of a wait, and free no slot
abbrev pub IsLeftHere : Mark → Type 0
IsLeftHere (Began p n low high) = ⊥
IsLeftHere (Ended p n) = ⊥
IsLeftHere (Freed s) = ⊥
IsLeftHere Moved = ⊥
IsLeftHere _ = Unit {0}

-- Sections stand in order: a place has one section open at a time, each with the number of those before it, and one that is
-- left is the one that is open. No other marks are there but of updates and slots.
pub record AreMarks (places : ℕ) (h : List Mark) : Type 0 where
  pub entered : (j p c x : ℕ) → get_elem? h j ≡ some (Entered p c x)
      → (p < places) × (x < 2 ^ 64) × (c ≡ entered_at p (take j h)) × (open_at p (take j h) ≡ None)
  pub left : (j p c : ℕ) → get_elem? h j ≡ some (Left p c) → (o : Open) × (open_at p (take j h) ≡ Some o) × (o.count ≡ c)
  pub others : (j : ℕ) (m : Mark) → get_elem? h j ≡ some m → IsLeftHere m

-- Reuse by class: where a slot is given, no section of its class is open that was entered before its last unlinking, whatever
-- came after that.
abbrev pub ReuseByClass : List ℕ → List Mark → Type 0
ReuseByClass capacities h = (j s c i p : ℕ) (o : Open) → get_elem? h j ≡ some (Given s) → IsTrue (is_slot_of capacities c s)
    → last_unlinked s (take j h) ≡ Some i
    → open_at p (take j h) ≡ Some o → o.key % 64 ≡ c → i < o.at
