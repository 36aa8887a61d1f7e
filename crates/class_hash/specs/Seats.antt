-- Seats and tables as a clause sees them, and a table as it is made.
-- What a clause sees of a seat and of a table.
-- Source: docs/HASH_DICTIONARY.md, "The hash dictionary".
use Rattle.std.specs.Prelude.{◌≡◌, ℕ, ◌+◌, ◌<◌, ◌≤◌, List, [], Option, Some, None, ◌==◌, if◌then◌else◌, ◌∷◌, length, replicate, slice_index, ◌*◌}
use Rattle.atomic_table.specs.Seated.{TableId}
use Rattle.hash_core.specs.declared.words.Field.TheVariants.{Free, Retired, Front, Key, Value, Next, Chain}
use Rattle.hash_core.specs.declared.view.Section.{Section}
use Rattle.hash_core.specs.declared.view.Hold.{Hold}
use Rattle.hash_core.specs.declared.view.View.{View}
use Rattle.hash_core.specs.Steps.{known_in}
use Rattle.prcu_marks.specs.Marks.{most_tickets}
use Rattle.hash_core.specs.declared.shape.Shape.{Shape}
use Rattle.hash_core.specs.declared.layout.TheConstants.{CLASS_ROOM, APART, CLASS_BASE, SLOT_WORDS}
use Rattle.hash_core.specs.Memory.{word_of, capacity, base, word_count}
use Rattle.hash_core.specs.Laws.{first_view, IsFreshClass}

-- a seat: of which table it is, and what it knows
pub record SeatAt : Type 0 where
  pub table : TableId
  pub view : View

-- a table: which it is, how many slots each class owns, and for how many places and tickets it was made
pub record TableAt : Type 0 where
  pub id : TableId
  pub capacities : List ℕ
  pub places : ℕ
  pub tickets : ℕ

-- a table that is none
abbrev pub no_table : TableAt
no_table = record {
  id = record { words = 0; slots = 0; views_name = 0; atom = 0; block = 0; offset = 0; slot_names = [] };
  capacities = [];
  places = 0;
  tickets = 0;
}

-- The seat works at a place of the table, which has at most 64, and a lock that it holds is that of a class.
pub record HasPlace (v : View) : Type 0 where
  pub works : 1 ≤ v.places
  pub few : v.place + v.places ≤ 64
  pub held : (hold : Hold) → v.hold ≡ Some hold → hold.class < 64

-- and its tickets are few
pub record HasRoom (v : View) : Type 0 where
  pub place : HasPlace v
  pub few_tickets : v.tickets ≤ most_tickets

-- the key of the open section, if there is one
abbrev pub IsInside : Option ℕ → Option Section → Type 0
IsInside None None = Unit {0}
IsInside (Some key) (Some section) = key ≡ section.key
IsInside _ _ = ⊥

-- what a seat remembers of the bucket whose lock it holds: its class, and its free and retired words where they are known
pub record IsBucket (class : ℕ) (free retired : Option ℕ) (hold : Hold) : Type 0 where
  pub same : class ≡ hold.class
  pub free_is : known_in hold.known (Free hold.class) ≡ free
  pub retired_is : known_in hold.known (Retired hold.class) ≡ retired

-- A table as it is made.
-- Source: docs/HASH_DICTIONARY.md, "The hash dictionary".

-- the one seat has all places and all tickets
abbrev pub first_seated : Shape → View
first_seated shape = first_view shape.places shape.tickets

abbrev pub fresh_seat : TableAt → SeatAt
fresh_seat table = record { table = table.id; view = first_view table.places table.tickets }

-- the link to the first slot of a class that comes after so many slots
abbrev pub first_link : ℕ → ℕ → ℕ
first_link before room = if room == 0 then 0 else before + 1

-- where a slot of a class leads that comes after so many slots
abbrev pub next_link : ℕ → ℕ → ℕ → ℕ
next_link before room i = if i + 1 == room then 0 else before + i + 2

-- the words of a class: its lock, readers, head, free and retired, and the room behind them
abbrev pub class_words : ℕ → List ℕ
class_words first = 0 ∷ 0 ∷ 0 ∷ first ∷ 0 ∷ replicate CLASS_ROOM 0

-- A slot's key, value, next and chain.
pub record IsFreshSlot (ws : List ℕ) (s chain : ℕ) : Type 0 where
  pub key : slice_index ws (word_of (Key s)) ≡ 0
  pub value : slice_index ws (word_of (Value s)) ≡ 0
  pub next : slice_index ws (word_of (Next s)) ≡ 0
  pub chain_is : slice_index ws (word_of (Chain s)) ≡ chain

-- All slots are on the free lists of their classes.
pub record IsFresh (capacities ws : List ℕ) : Type 0 where
  pub long : length ws ≡ word_count capacities
  pub front : slice_index ws (word_of Front) ≡ 0
  pub classes : (c : ℕ) → c < 64 → IsFreshClass ws c (first_link (base capacities c) (capacity capacities c))
  pub slots : (c i : ℕ) → c < 64 → i < capacity capacities c
      → IsFreshSlot ws (base capacities c + i + 1) (next_link (base capacities c) (capacity capacities c) i)

-- The first words of a table, as far as they were pushed.
-- Source: docs/HASH_DICTIONARY.md, "The hash dictionary".

-- the front, and the words of the first so many classes
pub record HasClasses (capacities : List ℕ) (n : ℕ) (ws : List ℕ) : Type 0 where
  pub long : length ws ≡ CLASS_BASE + APART * n
  pub front : slice_index ws (word_of Front) ≡ 0
  pub classes : (c : ℕ) → c < n → IsFreshClass ws c (first_link (base capacities c) (capacity capacities c))

-- words were added, and those before them stayed
pub record HasGrown (old new : List ℕ) (n : ℕ) : Type 0 where
  pub long : length new ≡ length old + n
  pub kept : (i : ℕ) → i < length old → slice_index new i ≡ slice_index old i

-- the words of the first so many slots of a class were added, which come after so many slots of others
pub record HasSlots (before room n : ℕ) (old new : List ℕ) : Type 0 where
  pub grown : HasGrown old new (SLOT_WORDS * n)
  pub slots : (i : ℕ) → i < n → IsFreshSlot new (before + i + 1) (next_link before room i)

-- the words of all slots of the first so many classes were added
pub record HasClassSlots (capacities : List ℕ) (n : ℕ) (old new : List ℕ) : Type 0 where
  pub grown : HasGrown old new (SLOT_WORDS * base capacities n)
  pub slots : (c i : ℕ) → c < n → i < capacity capacities c
      → IsFreshSlot new (base capacities c + i + 1) (next_link (base capacities c) (capacity capacities c) i)
