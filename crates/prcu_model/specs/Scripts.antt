-- Scripts as lists of operations, and lists with room.
use Rattle.std.specs.Prelude.{ℕ, ◌+◌, ◌*◌, ◌^◌, ◌<◌, max, Bool, true, false, List, [], ◌∷◌, ◌++◌, length, sum_by, count_by, map, refl}
use Rattle.std.specs.List.{AllByRecursion}
use Rattle.std.specs.Global.{Vec}
use Rattle.prcu_model.specs.declared.operation.Op.{Op}
use Rattle.prcu_model.specs.declared.operation.Op.TheVariants.{Put, Get, Del, Set}
use Rattle.std.specs.Coded.{Coded, code_by, coded×, coded_list, coded_ℕ}

-- Scripts as lists of operations.

-- lists without where they lie in memory
abbrev pub items_of : List (Vec Op) → List (List Op)
items_of lists = map (λ list. list.items) lists

-- the scripts with the operation at the end of the last one
abbrev pub with_op : List (List Op) → Op → List (List Op)
with_op [] op = []
with_op (script ∷ []) op = (script ++ op ∷ []) ∷ []
with_op (script ∷ next ∷ scripts) op = script ∷ with_op (next ∷ scripts) op

-- the operations of all scripts
abbrev pub op_count : List (List Op) → ℕ
op_count scripts = sum_by length scripts

abbrev pub is_put : Op → Bool
is_put (Put key value) = true
is_put _ = false

-- the puts of all scripts
abbrev pub put_count : List (List Op) → ℕ
put_count scripts = sum_by (count_by is_put) scripts

-- the slots of a run that isn't given a number: one for each put and twenty for each script, and one at least
abbrev pub default_slots_of : List (List Op) → ℕ
default_slots_of scripts = max 1 (put_count scripts + 20 * length scripts)

-- the operation's numbers fit a `u64`
abbrev pub FitsWords : Op → Type 0
FitsWords (Put key value) = (key < 2 ^ 64) × (value < 2 ^ 64)
FitsWords (Get key) = key < 2 ^ 64
FitsWords (Del key) = key < 2 ^ 64
FitsWords (Set key value) = (key < 2 ^ 64) × (value < 2 ^ 64)

-- the numbers of all operations fit
abbrev pub AllFit : List (List Op) → Type 0
AllFit scripts = AllByRecursion (AllByRecursion FitsWords) scripts

-- What contracts see of a list with room made in advance.

-- the entries, and for how many more room was made
pub record Roomy (T : Type 0) : Type 0 where
  pub entries : List T
  pub spare : ℕ

-- it is stored as the pair of its fields
abbrev pub coded_roomy : {T : Type 0} → Coded T → Coded (Roomy T)
coded_roomy {T} code =
    code_by (List T × ℕ) (coded× (coded_list code) coded_ℕ) (λ r. (r.entries, r.spare))
    (λ p. record { entries = p.0; spare = p.1 }) (λ _. refl)

-- the entries of each list
abbrev pub entries_of : {T : Type 0} → List (Roomy T) → List (List T)
entries_of lists = map (λ list. list.entries) lists
