-- By which rule a way is found to need a turn, and what a section finds out on its way down.
use Rattle.std.specs.Prelude.{◌≡◌, if◌then◌else◌, ℕ, ◌+◌, ◌*◌, ◌/◌, ◌%◌, ◌^◌, ◌<◌, ◌≤◌, Bool, nat_lt, bit_xor, ◌≢◌, ◌⊎◌, true, false, List, [], ◌∷◌, ◌++◌, Option, Some, None}
use mathlib.Core.List.{IsPrefix}
use Rattle.prcu_marks.specs.declared.mark.Mark.{Mark}
use Rattle.prcu_marks.specs.declared.mark.Mark.TheVariants.{Entered, Left}
use Rattle.prcu_marks.specs.declared.mark.Side.{Side}
use Rattle.prcu_marks.specs.Marks.{own_of}
use Rattle.core_state.specs.declared.shape.Shape.{Shape}
use Rattle.core_state.specs.declared.words.Field.{Field}
use Rattle.core_state.specs.declared.words.Field.TheVariants.{Key, Link}
use Rattle.core_state.specs.declared.view.Known.{Known}
use Rattle.core_state.specs.declared.view.Reading.{Reading}
use Rattle.core_state.specs.declared.view.SearchState.{SearchState}
use Rattle.core_state.specs.declared.view.SearchState.TheVariants.{At, Found, Missed}
use Rattle.core_state.specs.declared.view.View.{View}
use Rattle.core_state.specs.Memory.{step_side}
use Rattle.core_state.specs.Steps.{loaded}
use Rattle.core_state.specs.Views.{known_in, LoadedGeneration}
use Rattle.list_laws.specs.Counts.{IsIn}
use Rattle.seat_table.specs.Gains.{Sees, IsInformed, IsSlot}
use Rattle.seat_table.specs.Sections.{Makes, HasEntered}
use Rattle.citrus_tree.specs.Lookups.{is_load, is_of_lookup}
use Rattle.tree_turn.specs.declared.turn.Turn.{Turn}
use Rattle.tree_turn.specs.Turns.{AreThree}
use Rattle.tree_lift.specs.declared.finding.Child.{Child}
use Rattle.tree_lift.specs.declared.finding.Stand.{Stand}
use Rattle.tree_lift.specs.declared.finding.Crossing.{Crossing}

-- The rule by which the tree is kept shallow.
-- Source: docs/TREE.md, "A tree that stays shallow".

-- a number with its high bits folded down by so many places, times a factor
abbrev pub folded : ℕ → ℕ → ℕ → ℕ
folded number places factor = bit_xor number (number / 2 ^ places) * factor % 2 ^ 64

-- the finalizer of SplitMix64 (Steele, Lea and Flood 2014)
unfoldable pub mixed : ℕ → ℕ
mixed number =
    let twice = folded (folded number 30 0xbf58476d1ce4e5b9) 27 0x94d049bb133111eb in
    bit_xor twice (twice / 2 ^ 31)

-- The child is to stand above the node: its key has the greater mix with the salt.
abbrev pub rises : ℕ → ℕ → ℕ → Bool
rises salt child_key node_key = nat_lt (mixed (bit_xor node_key salt)) (mixed (bit_xor child_key salt))

-- The size has so many binary digits: none where it is 0.
pub record HasDigits (size digits : ℕ) : Type 0 where
  pub below : size < 2 ^ digits
  pub least : 2 ^ digits ≤ 2 * size + 1

-- how deep a way may be in a tree of this size
abbrev pub IsMostDepth : ℕ → ℕ → Type 0
IsMostDepth size most = (digits : ℕ) × HasDigits size digits × (most ≡ 2 * digits + 2)

-- How often a turn is tried behind a put whose way led over so many slots: 24 times where that is deep in a tree of this size, and
-- else never.
abbrev pub AreTriedBehind : ℕ → ℕ → ℕ → Type 0
AreTriedBehind depth size attempts = (most : ℕ) × IsMostDepth size most × (attempts ≡ (if nat_lt most depth then 24 else 0))

-- A way down from the root, in a section: what it loads, and what it records.
-- Source: docs/TREE_CALLS.md, "Lifts".

-- From the view v a section with the key was entered. Since then there were loads alone, by which it found this out.
pub record IsReading (v : View) (key : ℕ) (r : Reading) (w : View) : Type 0 where
  pub entry : View
  pub entered : HasEntered v key entry
  pub inside : w.section ≡ Some (record entered.section { reading = r })
  pub others : w ≡ record entry { section = w.section; trail = w.trail }
  pub made : Makes is_load entry.trail w.trail

-- A section with the key was entered after these marks and left after those; it found this out. No step was made but those that enter, load
-- in the section and leave, and nothing else that the view knows changed.
pub record HasRead (v : View) (key : ℕ) (r : Reading) (w : View) : Type 0 where
  pub before : List Mark
  pub until : List Mark
  pub sees : Sees v before
  pub within : IsPrefix (before ++ Entered v.allowance.place v.counts.sections key ∷ []) until
  pub between : own_of v.allowance.place until ≡ own_of v.allowance.place before ++ Entered v.allowance.place v.counts.sections key ∷ []
  pub seen : w.seen ≡ until ++ Left v.allowance.place v.counts.sections ∷ []
  pub made : Makes is_of_lookup v.trail w.trail
  pub others : w ≡ record v {
    enter = w.enter;
    section = None;
    records = r ∷ v.records;
    counts = record v.counts { sections = v.counts.sections + 1 };
    trail = w.trail;
    seen = w.seen;
  }
  pub informed : IsInformed w

-- the keys among these loads, the latest first
abbrev pub key_at : Field → ℕ → List ℕ → List ℕ
key_at (Key s) number keys = number ∷ keys
key_at _ number keys = keys

abbrev pub keys_in : List Known → List ℕ
keys_in [] = []
keys_in (k ∷ ks) = key_at k.field k.number (keys_in ks)

-- These keys of a way, the lowest first: none is to stand above the one before it on the way.
abbrev pub IsLevel : ℕ → List ℕ → Type 0
IsLevel salt [] = Unit {0}
IsLevel salt (key ∷ []) = Unit {0}
IsLevel salt (below ∷ (above ∷ keys)) = (rises salt below above ≡ false) × IsLevel salt (above ∷ keys)

-- It came to an end: to the slot that has the key, or to an empty side.
abbrev pub IsAtEnd : SearchState → Type 0
IsAtEnd (Found s parent b value) = Unit {0}
IsAtEnd (Missed s b) = Unit {0}
IsAtEnd _ = ⊥

-- The whole way was found to need no turn.
pub record IsLevelWay (salt : ℕ) (r : Reading) : Type 0 where
  pub level : IsLevel salt (keys_in r.loads)
  pub ended : IsAtEnd r.state

-- what is found out by a step down: by the link and the key, or by a link that is 0
abbrev pub went_down : Reading → ℕ → Side → Child → Reading
went_down r slot side child = loaded (loaded r (Link slot side) child.slot) (Key child.slot) child.key

abbrev pub after_step : Reading → ℕ → Side → Option Child → Reading
after_step r slot side None = loaded r (Link slot side) 0
after_step r slot side (Some child) = went_down r slot side child

-- The search stands at the side of a slot.
pub record StandsBy (slot : ℕ) (side : Side) (r : Reading) : Type 0 where
  pub state_is : r.state ≡ At slot side
  pub stood : IsIn r.stood slot

-- The way stands at a node with another key than the sought one, and goes on at its side. It was found to need no turn so far.
pub record StandsAt (k : Shape) (key salt : ℕ) (at : Stand) (r : Reading) : Type 0 where
  pub sought : r.key ≡ key
  pub state_is : r.state ≡ At at.node at.turn
  pub parent_slot : IsSlot k at.parent
  pub node_slot : IsSlot k at.node
  pub some_node : at.node ≢ 0
  pub parent_stood : IsIn r.stood at.parent
  pub node_stood : IsIn r.stood at.node
  pub link_is : known_in r.loads (Link at.parent at.side) ≡ Some at.node
  pub key_is : known_in r.loads (Key at.node) ≡ Some at.key
  pub goes_on : step_side key at.key ≡ Some at.turn
  pub above : List ℕ
  pub keys : keys_in r.loads ≡ at.key ∷ above
  pub level : IsLevel salt (at.key ∷ above)

-- The way came from such a node to a child that is to stand above it.
pub record IsCrossing (k : Shape) (key salt : ℕ) (c : Crossing) (r : Reading) : Type 0 where
  pub earlier : Reading
  pub stands : StandsAt k key salt c.at earlier
  pub child_slot : IsSlot k c.child.slot
  pub some_child : c.child.slot ≢ 0
  pub is : r ≡ went_down earlier c.at.node c.at.turn c.child
  pub rises_above : rises salt c.child.key c.at.key ≡ true

-- The three of a turn are slots of the table, apart from each other, and a section loaded their generations.
pub record HasAges (k : Shape) (t : Turn) (r : Reading) : Type 0 where
  pub three : AreThree k t
  pub parent_age : LoadedGeneration r t.parent t.parent_generation
  pub node_age : LoadedGeneration r t.node t.node_generation
  pub child_age : LoadedGeneration r t.child t.child_generation

-- what a section found out of the topmost node on the way to the key whose child on the way is to stand above it
pub record RecordsTurn (k : Shape) (key salt : ℕ) (t : Turn) (r : Reading) : Type 0 where
  pub ages : HasAges k t r
  pub node_key : ℕ
  pub child_key : ℕ
  pub above : List ℕ
  pub link_is : known_in r.loads (Link t.parent t.side) ≡ Some t.node
  pub node_key_is : known_in r.loads (Key t.node) ≡ Some node_key
  pub turn_is : known_in r.loads (Link t.node t.turn) ≡ Some t.child
  pub child_key_is : known_in r.loads (Key t.child) ≡ Some child_key
  pub goes_on : step_side key node_key ≡ Some t.turn
  pub keys : keys_in r.loads ≡ child_key ∷ (node_key ∷ above)
  pub level : IsLevel salt (node_key ∷ above)
  pub rises_above : rises salt child_key node_key ≡ true

-- The way led to a slot twice, which the rule excludes.
abbrev pub LedTwice : Crossing → Type 0
LedTwice c = (c.at.parent ≡ c.at.node) ⊎ ((c.at.node ≡ c.child.slot) ⊎ (c.child.slot ≡ c.at.parent))

-- From a section that was just entered the way came to the first node, unless this has the key or the tree is empty.
abbrev pub Starts : Shape → View → ℕ → ℕ → Option Stand → View → Type 0
Starts k v key salt None w = (r : Reading) × IsReading v key r w × IsLevelWay salt r
Starts k v key salt (Some at) w = (r : Reading) × IsReading v key r w × StandsAt k key salt at r

-- It came to a node whose child is to stand above it, or to its end, and needs no turn.
abbrev pub Comes : Shape → View → ℕ → ℕ → Option Crossing → View → Type 0
Comes k v key salt None w = (r : Reading) × IsReading v key r w × IsLevelWay salt r
Comes k v key salt (Some c) w = (r : Reading) × IsReading v key r w × IsCrossing k key salt c r

-- What was found out: a turn; or none, where the way needs none, or where it led to a slot twice.
abbrev pub FindsOut : Shape → ℕ → ℕ → Option Turn → Reading → Type 0
FindsOut k key salt None r = IsLevelWay salt r ⊎ ((c : Crossing) × IsCrossing k key salt c r × LedTwice c)
FindsOut k key salt (Some t) r = RecordsTurn k key salt t r

-- in the open section, and when it was left
abbrev pub IsFinding : Shape → View → ℕ → ℕ → Option Turn → View → Type 0
IsFinding k v key salt answer w = (r : Reading) × IsReading v key r w × FindsOut k key salt answer r

abbrev pub Finds : Shape → View → ℕ → ℕ → Option Turn → View → Type 0
Finds k v key salt answer w = (r : Reading) × HasRead v key r w × FindsOut k key salt answer r
