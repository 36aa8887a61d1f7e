-- A node that is turned down: what a section finds out of it, and what a call comes to.
-- Source: docs/TREE_CALLS.md, "Lifts".
use Rattle.std.specs.Prelude.{◌≡◌, ◌≢◌, ◌⊎◌, ℕ, ◌+◌, ◌≤◌, Bool, true, false, ◌∷◌, length, Option, Some, None}
use Rattle.prcu_marks.specs.declared.mark.Side.{Side}
use Rattle.prcu_marks.specs.declared.mark.Side.TheVariants.{Left, Right}
use Rattle.core_state.specs.declared.shape.Shape.{Shape}
use Rattle.core_state.specs.declared.words.Field.TheVariants.{Link}
use Rattle.core_state.specs.declared.view.Reading.{Reading}
use Rattle.core_state.specs.declared.view.SearchState.TheVariants.{Found, Missed}
use Rattle.core_state.specs.declared.view.View.{View}
use Rattle.core_state.specs.Views.{known_in}
use Rattle.seat_table.specs.Gains.{IsFull}
use Rattle.tree_turn.specs.declared.turn.Turn.{Turn}
use Rattle.tree_lift.specs.declared.sinking.Sunk.{Sunk}
use Rattle.tree_lift.specs.declared.sinking.Sunk.TheVariants.{Turned, Moved, Low, NoRoom, NoSlot}
use Rattle.tree_lift.specs.Ways.{HasAges, HasRead, IsReading}
use Rattle.tree_lift.specs.Lifts.{ComesOf, LeavesNoUpdate}

-- A section that sought the key found its node, on this side of the parent. Both links of the node led to slots, the right one to the child;
-- and the generations of the three were loaded.
pub record RecordsDown (k : Shape) (key : ℕ) (t : Turn) (r : Reading) : Type 0 where
  pub ages : HasAges k t r
  pub sought : r.key ≡ key
  pub found : r.state ≡ Found t.node t.parent t.side None
  pub downward : t.turn ≡ Right
  pub left : ℕ
  pub left_some : left ≢ 0
  pub left_is : known_in r.loads (Link t.node Left) ≡ Some left
  pub right_is : known_in r.loads (Link t.node Right) ≡ Some t.child

-- It found the key absent; or its node, at which a link was loaded as 0.
abbrev pub IsAbsent : Reading → Type 0
IsAbsent r = (slot : ℕ) × (side : Side) × (r.state ≡ Missed slot side)

abbrev pub LacksLink : Reading → Type 0
LacksLink r = (node parent : ℕ) × (side across : Side) × (r.state ≡ Found node parent side None)
    × (known_in r.loads (Link node across) ≡ Some 0)

-- The way led to a slot twice, which the rule excludes: it began at the root, slot 0.
abbrev pub IsTwice : ℕ → ℕ → ℕ → Type 0
IsTwice node parent child = (node ≡ 0) ⊎ ((parent ≡ node) ⊎ ((node ≡ child) ⊎ (child ≡ parent)))

abbrev pub CameTwice : Reading → Type 0
CameTwice r = (node parent child : ℕ) × (side : Side) × (r.state ≡ Found node parent side None)
    × (known_in r.loads (Link node Right) ≡ Some child) × IsTwice node parent child

-- nothing is to be turned
pub record IsLow (key : ℕ) (r : Reading) : Type 0 where
  pub sought : r.key ≡ key
  pub why : IsAbsent r ⊎ (LacksLink r ⊎ CameTwice r)

abbrev pub FindsOutDown : Shape → ℕ → Option Turn → Reading → Type 0
FindsOutDown k key None r = IsLow key r
FindsOutDown k key (Some t) r = RecordsDown k key t r

-- in the open section, and when it was left
abbrev pub ReadsDown : Shape → View → ℕ → Option Turn → View → Type 0
ReadsDown k v key answer w = (r : Reading) × IsReading v key r w × FindsOutDown k key answer r

abbrev pub FindsDown : Shape → View → ℕ → Option Turn → View → Type 0
FindsDown k v key answer w = (r : Reading) × HasRead v key r w × FindsOutDown k key answer r

-- A turn was tried that brings the node below its right child, as one section of the call recorded them; it was made, or it wasn't, for its
-- cause. Before it and behind it no slot was retired or given back.
pub record TriesDown (k : Shape) (v : View) (key : ℕ) (made : Bool) (w : View) : Type 0 where
  pub turn : Turn
  pub reading : Reading
  pub recorded : RecordsDown k key turn reading
  pub before : View
  pub last : before.records ≡ reading ∷ v.records
  pub earlier : LeavesNoUpdate v key before
  pub retired : before.hands.retired ≡ v.hands.retired
  pub after : View
  pub comes : ComesOf made before turn after
  pub later : LeavesNoUpdate after key w
  pub stay : w.hands.retired ≡ after.hands.retired

-- what a call comes to
abbrev pub Sinks : Shape → View → ℕ → Sunk → View → Type 0
Sinks k v key Turned w = TriesDown k v key true w
Sinks k v key Moved w = TriesDown k v key false w
Sinks k v key Low w = FindsDown k v key None w
Sinks k v key NoRoom w = (w ≡ v) × (k.room ≤ length v.hands.retired + 1)
Sinks k v key NoSlot w = IsFull k w
