-- Closed intervals of keys, and the classes of keys.
-- Source: docs/TREE.md, "Keys and classes".
use Rattle.std.specs.Prelude.{◌≡◌, ℕ, ◌%◌, ◌≤◌, ◌<◌}

-- the keys from low to high, both among them
pub record Interval : Type 0 where
  pub low : ℕ
  pub high : ℕ

abbrev pub Holds : Interval → ℕ → Type 0
Holds keys x = (keys.low ≤ x) × (x ≤ keys.high)

-- Each key of the other is a key of this one.
abbrev pub Covers : Interval → Interval → Type 0
Covers keys other = (x : ℕ) → Holds other x → Holds keys x

abbrev pub class_of : ℕ → ℕ
class_of x = x % 64

-- Some key of the interval has this class, so that the class is in its image.
abbrev pub MeetsClass : Interval → ℕ → Type 0
MeetsClass keys class = (x : ℕ) × Holds keys x × (class_of x ≡ class)

-- The greatest class of an interval.
-- Source: docs/TREE.md, "Keys and classes".

-- Some key has this class, and none has a greater one.
pub record IsLastClass (keys : Interval) (class : ℕ) : Type 0 where
  pub met : MeetsClass keys class
  pub greatest : (other : ℕ) → class < other → other < 64 → MeetsClass keys other → ⊥
