-- The pairs of a range, and what facts and gaps of them come to.
-- The pairs of a dictionary in a range of keys, and what a listing has to find of them.
-- Source: docs/TREE_CALLS.md, "Lists of a key range".
use Rattle.std.specs.Prelude.{◌≡◌, ℕ, ◌<◌, ◌≤◌, ◌⊎◌, List, Option, Some, None}
use Rattle.prcu_marks.specs.declared.mark.Side.{Side}
use Rattle.prcu_marks.specs.declared.mark.Side.TheVariants.{Left, Right}
use mathlib.Core.Option.{some}
use lib.ListN.{get_elem?}
use Rattle.prcu_model.specs.declared.operation.Update.{Update}
use Rattle.prcu_model.specs.Dictionary.{map_at}
use Rattle.core_state.specs.declared.view.Fact.{Fact}
use Rattle.core_state.specs.declared.view.Gap.{Gap}
use Rattle.core_state.specs.Parts.{IsBetween}
use Rattle.list_laws.specs.Counts.{IsIn, Each}
use Rattle.std.specs.FinMap as finite

-- a key and its value
abbrev pub Pair : Type 0
Pair = ℕ × ℕ

-- the pair stands there in the list
abbrev pub IsAt : List Pair → ℕ → Pair → Type 0
IsAt pairs i pair = get_elem? pairs i ≡ some pair

-- who goes to this side comes past the first key before the second
abbrev pub IsBefore : Side → ℕ → ℕ → Type 0
IsBefore Left key end = end < key
IsBefore Right key end = key < end

-- Who goes to this side comes past the keys one after another: to the right they ascend, to the left they descend.
abbrev pub AreInOrder : Side → List Pair → Type 0
AreInOrder side pairs = (i j : ℕ) (a b : Pair) → IsAt pairs i a → IsAt pairs j b → i < j → IsBefore side a.0 b.0

-- what the dictionary had for a key after the first so many updates
abbrev pub had_at : List Update → ℕ → ℕ → Option ℕ
had_at us front key = finite.get (map_at us front) key

-- These are exactly the pairs of the map whose keys are at least the first number and below the second, as who goes to this side comes past
-- them.
pub record ArePairsTo (side : Side) (map : ℕ → Option ℕ) (low below : ℕ) (pairs : List Pair) : Type 0 where
  pub in_order : AreInOrder side pairs
  pub inside : Each pairs (λ (p : Pair). (low ≤ p.0) × (p.0 < below))
  pub there : Each pairs (λ (p : Pair). map p.0 ≡ Some p.1)
  pub all : (key value : ℕ) → low ≤ key → key < below → map key ≡ Some value → IsIn pairs (key, value)

-- and keys ascend
abbrev pub ArePairs : (ℕ → Option ℕ) → ℕ → ℕ → List Pair → Type 0
ArePairs map low below pairs = ArePairsTo Right map low below pairs

-- the pair, as a listing notes that it found it
abbrev pub fact_of : Pair → Fact
fact_of pair = record { key = pair.0; value = pair.1 }

-- In order, each pair is one of the facts found, and each key of the range is that of a pair, or lies in one of the gaps found.
pub record Cover (side : Side) (facts : List Fact) (gaps : List Gap) (low below : ℕ) (pairs : List Pair) : Type 0 where
  pub in_order : AreInOrder side pairs
  pub inside : Each pairs (λ (p : Pair). (low ≤ p.0) × (p.0 < below))
  pub found : Each pairs (λ (p : Pair). IsIn facts (fact_of p))
  pub all : (key : ℕ) → low ≤ key → key < below → ((value : ℕ) × IsIn pairs (key, value))
      ⊎ ((gap : Gap) × IsIn gaps gap × IsBetween gap key)

-- What a listing's facts and gaps come to, over definitions alone.
-- Source: docs/TREE_CALLS.md, "Lists of a key range".

-- Where the facts found are so of a map, and it has no key in the gaps found, pairs that cover a range are exactly the map's there.
abbrev pub CoversAreExact : Type 0
CoversAreExact = (side : Side) (map : ℕ → Option ℕ) (facts : List Fact) (gaps : List Gap) (low below : ℕ) (pairs : List Pair)
    → Each facts (λ (f : Fact). map f.key ≡ Some f.value) → Each gaps (λ (gap : Gap). (y : ℕ) → IsBetween gap y → map y ≡ None)
    → Cover side facts gaps low below pairs → ArePairsTo side map low below pairs

-- A map has one such list for a range and a side, no other.
abbrev pub PairsAreOne : Type 0
PairsAreOne = (side : Side) (map : ℕ → Option ℕ) (low below : ℕ) (pairs others : List Pair) → ArePairsTo side map low below pairs
    → ArePairsTo side map low below others → pairs ≡ others
