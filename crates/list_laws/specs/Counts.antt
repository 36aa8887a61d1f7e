-- Elements of lists, how often a number stands in a list, and sums over lists.
-- Source: docs/HANDBOOK.md, "Rules over shared words".
use Rattle.std.specs.Prelude.{◌≡◌, ◌≢◌, ℕ, zero, suc, ◌+◌, ◌==◌, if◌then◌else◌, List, [], ◌∷◌}
use mathlib.Core.Option.{some}
use lib.ListN.{get_elem?}

-- how often a number stands in a list
abbrev pub times : ℕ → List ℕ → ℕ
times x [] = 0
times x (y ∷ ys) = (if y == x then 1 else 0) + times x ys

-- the numbers from the first on, so many
abbrev pub numbers_from : ℕ → ℕ → List ℕ
numbers_from first zero = []
numbers_from first (suc n) = first ∷ numbers_from (first + 1) n

-- a number for each element, added up
abbrev pub total : {A : Type 0} → (A → ℕ) → List A → ℕ
total f [] = 0
total f (x ∷ xs) = f x + total f xs

-- the element stands in the list
abbrev pub IsIn : {A : Type 0} → List A → A → Type 0
IsIn xs a = (i : ℕ) × (get_elem? xs i ≡ some a)

-- what holds of each element of a list
abbrev pub Each : {A : Type 0} → List A → (A → Type 0) → Type 0
Each {A} xs P = (i : ℕ) (a : A) → get_elem? xs i ≡ some a → P a

-- some element of a list has a property
pub record Somewhere {A : Type 0} (xs : List A) (P : A → Type 0) : Type 0 where
  pub id : ℕ
  pub view : A
  pub there : get_elem? xs id ≡ some view
  pub has : P view

-- one element has a property, and all others have another
pub record OnlyOne {A : Type 0} (xs : List A) (P Q : A → Type 0) : Type 0 where
  pub id : ℕ
  pub view : A
  pub there : get_elem? xs id ≡ some view
  pub has : P view
  pub alone : (j : ℕ) (other : A) → j ≢ id → get_elem? xs j ≡ some other → Q other
