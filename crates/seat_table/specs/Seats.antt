-- Seats: what a clause sees of one, where its scans come to, and the first one of a fresh table.
use Rattle.std.specs.Prelude.{◌≡◌, ℕ, zero, suc, ◌+◌, ◌≤◌, ◌==◌, not, filter, List, map, Option, Some, None, ◌*◌, ◌/◌, nat_lt, if◌then◌else◌, ◌-◌, [], ◌∷◌, ◌++◌, length, replicate}
use mathlib.Core.List.{IsPrefix}
use Rattle.atomic_table.specs.Seated.{TableId}
use Rattle.prcu_marks.specs.Marks.{own_of, most_tickets, most_turns}
use Rattle.core_state.specs.Memory.{most_slots, most_places, half, apart, lead, classes, place_room, class_room, row_room, slot_count, room_behind, idle, word_count, memory_of}
use Rattle.core_state.specs.declared.shape.Shape.{Shape}
use Rattle.core_state.specs.declared.shape.Waiter.{Waiter}
use Rattle.core_state.specs.declared.shape.Waiter.TheVariants.{Eer, Domain, Deer}
use Rattle.core_state.specs.declared.view.Held.{Held}
use Rattle.core_state.specs.declared.view.Retired.{Retired}
use Rattle.core_state.specs.declared.view.Section.{Section}
use Rattle.core_state.specs.declared.view.View.{View}
use Rattle.list_laws.specs.Counts.{times}
use Rattle.core_state.specs.Views.{IsQuiet, places_of}
use Rattle.core_state.specs.Invariant.{first_view, IsFresh, IsShape, Rule}

-- What a clause sees of a seat and of a table.
-- Source: docs/TREE_CALLS.md, "The tree's table".

-- the waiter with this number
abbrev pub way_of : ℕ → Waiter
way_of zero = Eer
way_of (suc zero) = Domain
way_of (suc (suc _)) = Deer

-- a table: which it is, for how many slots, places and tickets it was made, and how many retired slots a place may hold back
pub record TableAt : Type 0 where
  pub id : TableId
  pub slots : ℕ
  pub places : ℕ
  pub room : ℕ
  pub tickets : ℕ

-- the shape of a table with the waiter of this number
abbrev pub shape_of : ℕ → TableAt → Shape
shape_of way t = record { waiter = way_of way; slots = t.slots; places = t.places; room = t.room; tickets = t.tickets }

-- a list of retired slots: they, and for how many it has room
pub record ListedAt : Type 0 where
  pub slots : List ℕ
  pub room : ℕ

-- The list is empty, with room for all retired slots that a place of the table may hold back.
pub record IsEmptyFor (t : TableAt) (l : ListedAt) : Type 0 where
  pub empty : l.slots ≡ []
  pub room_is : l.room ≡ t.room

-- a seat: of which table it is, what it knows, the retired slots that it lists, and the slot to which its scans for a free one have come
pub record SeatAt : Type 0 where
  pub table : TableAt
  pub view : View
  pub listed : List ℕ
  pub looked : ℕ

-- The seat works at a place of the table, each with room for 16 retired slots, or more, up to as many as a table may have.
pub record HasPlace (t : TableAt) (v : View) : Type 0 where
  pub works : 1 ≤ v.allowance.places
  pub inside : v.allowance.place + v.allowance.places ≤ t.places
  pub few_places : t.places ≤ most_places
  pub some_room : 16 ≤ t.room
  pub few_room : t.room ≤ most_slots

-- The waits of its place and its tickets are few, and so are the gates that it turned.
pub record HasFew (v : View) : Type 0 where
  pub waits : v.counts.waits + v.allowance.tickets ≤ most_tickets
  pub turns : v.counts.turns ≤ most_turns

-- the key of the open section, if there is one
abbrev pub IsInside : Option ℕ → Option Section → Type 0
IsInside None None = Unit {0}
IsInside None (Some section) = ⊥
IsInside (Some key) None = ⊥
IsInside (Some key) (Some section) = key ≡ section.key

-- its stamp; for the second waiter its side
abbrev pub IsStamp : ℕ → Option Section → Type 0
IsStamp stamp None = Unit {0}
IsStamp stamp (Some section) = stamp ≡ section.stamp

-- the slot in hand, or the spare, if there is one
abbrev pub IsSlotOf : Option ℕ → Option Held → Type 0
IsSlotOf None None = Unit {0}
IsSlotOf None (Some held) = ⊥
IsSlotOf (Some slot) None = ⊥
IsSlotOf (Some slot) (Some held) = slot ≡ held.slot

-- what was last found or left in a word, or the first number where nothing was
abbrev pub IsLastFound : ℕ → ℕ → Option ℕ → Type 0
IsLastFound first number None = number ≡ first
IsLastFound first number (Some latest) = number ≡ latest

-- the shape that a table was told, with the waiter of this number
abbrev pub with_way : ℕ → Shape → Shape
with_way way k = record { waiter = way_of way; slots = k.slots; places = k.places; room = k.room; tickets = k.tickets }

-- each slot stands in the list once at most
pub record AreApart (xs : List ℕ) : Type 0 where
  pub once : (slot : ℕ) → times slot xs ≤ 1

-- the slots that are listed, without one
abbrev pub unlisted : ℕ → List ℕ → List ℕ
unlisted slot xs = filter (λ x. not (x == slot)) xs

-- The listed slots are the retired ones, each once.
pub record AreListed (s : SeatAt) : Type 0 where
  pub each : (slot : ℕ) → times slot s.listed ≡ times slot (map (λ (r : Retired). r.slot) s.view.hands.retired)

-- The seat is quiet: outside a section, with nothing held, owed or under way; each retired slot is listed, and none was raised.
pub record IsQuietSeat (s : SeatAt) : Type 0 where
  pub view : IsQuiet s.view
  pub listed : AreListed s

-- After a join the seat answers for the places of both. It has seen what both had, and of each one's places just the marks that it had
-- seen itself.
pub record KeepsOwn (v other w : View) : Type 0 where
  pub places : (p : ℕ) → times p (places_of w) ≡ times p (places_of v) + times p (places_of other)
  pub first_seen : IsPrefix v.seen w.seen
  pub second_seen : IsPrefix other.seen w.seen
  pub first_own : (p : ℕ) → 1 ≤ times p (places_of v) → own_of p w.seen ≡ own_of p v.seen
  pub second_own : (p : ℕ) → 1 ≤ times p (places_of other) → own_of p w.seen ≡ own_of p other.seen

-- Where the scans of a seat for a free slot come to.
-- Source: docs/TREE_CALLS.md, "The tree's slots and locks".

-- the slot after this one, in a round of the slots from 1 to the last
abbrev pub next_slot : ℕ → ℕ → ℕ
next_slot last slot = if nat_lt slot last then slot + 1 else 1

-- A look at the slot after the one to which the scans have come moves them on. A look at any other slot doesn't.
abbrev pub after_look : ℕ → ℕ → ℕ → ℕ
after_look last looked slot = if slot == next_slot last looked then slot else looked

-- where the scans of a place begin: behind this slot, so that each place has a region of its own
abbrev pub region : ℕ → ℕ → ℕ → ℕ
region slots places place = places + place * slots / places

-- A table as it is made: its words, and the one seat.
-- Source: docs/TREE_INVARIANT.md, "The words of the tree's table".

abbrev pub fresh_seat : ℕ → TableAt → SeatAt
fresh_seat way table = record {
  table = table;
  view = first_view (shape_of way table);
  listed = [];
  looked = region table.slots table.places 0;
}

-- a word that stands alone, and the room behind it
abbrev pub alone : ℕ → List ℕ
alone word = word ∷ replicate (apart - 1) 0

-- so many keys and stamps, each pair with the room behind it
abbrev pub key_stamps : ℕ → List ℕ
key_stamps zero = []
key_stamps (suc n) = (0 ∷ idle ∷ replicate (place_room - 2) 0) ++ key_stamps n

-- the waiter's words, and their room
abbrev pub waiter_part : Waiter → ℕ → List ℕ
waiter_part Eer places = key_stamps places
waiter_part Domain places = replicate (class_room * classes) 0
waiter_part Deer places = replicate (row_room * places) idle

-- the states: the root and the spares aren't free
abbrev pub first_states : Shape → List ℕ
first_states k = replicate (k.places + 1) 1 ++ replicate k.slots 0

-- the room before them, the clock, the front, the free count, the word of a move and the slots' other words, the states, and the waiter's
-- words behind some room
abbrev pub first_words : Shape → List ℕ
first_words k = replicate (lead + 2 * apart) 0
    ++ (alone k.slots ++ (replicate (apart + 2 * half * slot_count k) 0
    ++ (first_states k ++ (replicate (room_behind (slot_count k)) 0 ++ waiter_part k.waiter k.places))))

-- These words are those of a fresh table, as many as its shape has, and with the first seat's view they have the rule.
abbrev pub FirstWordsHold : Type 0
FirstWordsHold = (k : Shape) → IsShape k → (length (first_words k) ≡ word_count k) × IsFresh k (memory_of k (first_words k))
    × Rule k (first_words k) (first_view k ∷ [])
