-- Snapshots that are taken beside updates, and texts of them.
-- Snapshots of a key range, taken one after another beside updates, and what they are snapshots of.
-- Source: docs/FORMATS.md, "Watch texts".
use Rattle.std.specs.Prelude.{◌≡◌, ℕ, ◌+◌, ◌*◌, ◌≤◌, List, [], ◌∷◌, ◌++◌, length, Option, Some, None, codes, decimal, flat_map}
use mathlib.Core.List.{IsPrefix}
use Rattle.prcu_model.specs.declared.operation.Update.{Update}
use Rattle.prcu_marks.specs.Marks.{updates_of, own_of}
use Rattle.core_state.specs.declared.view.Look.{Look}
use Rattle.core_state.specs.declared.view.View.{View}
use Rattle.exact_list.specs.Pairs.{Pair, had_at, ArePairs}
use Rattle.prcu_model.specs.declared.operation.Op.{Op}
use Rattle.account_text.specs.Account.{IsAccount, pair_text}

-- a snapshot: after how many updates it was so, its pairs, and the key after them where there are more
pub record SnapshotAt : Type 0 where
  pub front : ℕ
  pub pairs : List Pair
  pub next : Option ℕ

-- These are exactly the map's pairs with keys from the low to the high one, keys ascending: all of them, at most 4,096; or the first
-- 4,096, and the next key of the map is the one after them.
abbrev pub AreFirstPairs : (ℕ → Option ℕ) → ℕ → ℕ → List Pair → Option ℕ → Type 0
AreFirstPairs map low high pairs None = ArePairs map low (high + 1) pairs × (length pairs ≤ 4096)
AreFirstPairs map low high pairs (Some next) =
    ArePairs map low next pairs × (length pairs ≡ 4096) × (next ≤ high) × ((value : ℕ) × (map next ≡ Some value))

-- Snapshots of a history, taken one after another. The front of each is one of the history's, and isn't below the number given, nor below
-- that of the snapshot before.
abbrev pub AreSnapshots : List Update → ℕ → ℕ → ℕ → List SnapshotAt → Type 0
AreSnapshots history low high since [] = Unit {0}
AreSnapshots history low high since (s ∷ ss) =
    (since ≤ s.front) × (s.front ≤ length history) × AreFirstPairs (had_at history s.front) low high s.pairs s.next
    × AreSnapshots history low high s.front ss

-- what is there before a first snapshot is taken, and of a dictionary without updates
abbrev pub none_yet : SnapshotAt
none_yet = record { front = 0; pairs = []; next = None }

-- a look at the front, in a section of a place, that found a snapshot's front
abbrev pub look_at : ℕ → ℕ → ℕ → Look
look_at place section front = record { place = place; section = section; front = 2 * front }

-- Snapshots were found by looks of a place: the front of each by two looks of one section, one right after the other. Those of a later
-- snapshot come later.
abbrev pub WereLookedAt : ℕ → List Look → List SnapshotAt → Type 0
WereLookedAt place looks [] = Unit {0}
WereLookedAt place looks (s ∷ ss) =
    (section : ℕ) × (earlier later : List Look) × (looks ≡ earlier ++ look_at place section s.front ∷ look_at place section s.front ∷ later)
    × WereLookedAt place later ss

-- From one view to the other the seat made some more looks, and snapshots were found by those.
pub record HasLookedAt (v w : View) (snapshots : List SnapshotAt) : Type 0 where
  pub since : List Look
  pub added : w.looks ≡ v.looks ++ since
  pub found : WereLookedAt v.allowance.place since snapshots

-- From one view to the other the seat has seen no less, and its place made no update. It may have looked at the front. Its places and
-- tickets are the same.
pub record OnlyLists (v w : View) : Type 0 where
  pub allowance : w.allowance ≡ v.allowance
  pub seen : IsPrefix v.seen w.seen
  pub looks : IsPrefix v.looks w.looks
  pub own : updates_of (own_of v.allowance.place w.seen) ≡ updates_of (own_of v.allowance.place v.seen)

-- Which texts are watch texts: an account, and four snapshots of a key range by its history.
-- Source: docs/FORMATS.md, "Watch texts".

-- the front of a snapshot, and the key after its pairs where there are more
abbrev pub kind_text : ℕ → Option ℕ → List ℕ
kind_text front None = codes "whole " ++ decimal front
kind_text front (Some next) = codes "part " ++ decimal front ++ codes " " ++ decimal next

-- a snapshot: a line with how many pairs it has at its end, and a line for each pair
abbrev pub block_text : SnapshotAt → List ℕ
block_text s = kind_text s.front s.next ++ codes " " ++ decimal (length s.pairs) ++ codes "\n" ++ flat_map pair_text s.pairs

-- the range, its snapshots, and `end`
abbrev pub watch_part : ℕ → ℕ → List SnapshotAt → List ℕ
watch_part low high snapshots = codes "watch " ++ decimal low ++ codes " " ++ decimal high ++ codes "\n" ++ flat_map block_text snapshots
    ++ codes "end\n"

-- A text is a watch text of scripts, slots and a key range where it prints their account and, behind it, four snapshots of the range by
-- the account's history, at fronts that never fall.
pub record IsWatchText (scripts : List (List Op)) (slots low high : ℕ) (text : List ℕ) : Type 0 where
  pub account_text : List ℕ
  pub account : IsAccount scripts slots account_text
  pub snapshots : List SnapshotAt
  pub four : length snapshots ≡ 4
  pub taken : AreSnapshots account.history low high 0 snapshots
  pub printed : text ≡ account_text ++ watch_part low high snapshots
