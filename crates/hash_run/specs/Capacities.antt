-- How many slots each class needs for the keys that scripts put.
-- Source: docs/HASH_DICTIONARY.md, "Scripts beside each other on the hash dictionary".
use Rattle.std.specs.Prelude.{◌≡◌, ℕ, ◌+◌, ◌%◌, ◌<◌, ◌==◌, if◌then◌else◌, List, [], ◌∷◌, ◌++◌, length, slice_index, slice_set}
use Rattle.std.specs.FinMap as map
use Rattle.prcu_model.specs.declared.operation.Op.{Op}
use Rattle.prcu_model.specs.declared.operation.Update.{Update}
use Rattle.prcu_model.specs.Dictionary.{Dictionary, map_of}
use Rattle.prcu_model.specs.Scripts.{is_put}

-- the puts of a script, as updates
abbrev pub puts_of : List Op → List Update
puts_of [] = []
puts_of (op ∷ ops) = if is_put op then record { caller = 0; op = op } ∷ puts_of ops else puts_of ops

-- those of all scripts
abbrev pub all_puts : List (List Op) → List Update
all_puts [] = []
all_puts (script ∷ scripts) = puts_of script ++ all_puts scripts

-- what all puts make of nothing, one after another: its keys are those that puts name
abbrev pub put_keys : List (List Op) → Dictionary
put_keys scripts = map_of (all_puts scripts)

-- how many pairs have a key of the class
abbrev pub class_len : ℕ → List (ℕ × ℕ) → ℕ
class_len c [] = 0
class_len c (pair ∷ pairs) = (if pair.0 % 64 == c then 1 else 0) + class_len c pairs

-- the counts of the classes, with 1 more for each pair whose key is of the class
abbrev pub class_counts : List ℕ → List (ℕ × ℕ) → List ℕ
class_counts counts [] = counts
class_counts counts (pair ∷ pairs) = class_counts (slice_set counts (pair.0 % 64) (slice_index counts (pair.0 % 64) + 1)) pairs

-- A class has as many slots as there are different keys of it that puts name.
pub record AreCapacities (scripts : List (List Op)) (capacities : List ℕ) : Type 0 where
  pub classes : length capacities ≡ 64
  pub each : (c : ℕ) → c < 64 → slice_index capacities c ≡ class_len c (map.entries (put_keys scripts))
