-- The generator, and the scripts that it makes.
-- Source: docs/FORMATS.md, "The made workload".
use Rattle.std.specs.Prelude.{◌≡◌, ℕ, zero, suc, ◌+◌, ◌*◌, ◌/◌, ◌%◌, ◌^◌, ◌<◌, ◌==◌, nat_lt, if◌then◌else◌, List, [], ◌∷◌, map}
use Rattle.std.specs.List.{range_with_len}
use Rattle.prcu_model.specs.declared.operation.Op.{Op}
use Rattle.prcu_model.specs.declared.operation.Op.TheVariants.{Put, Get, Del}

-- the state after this one
unfoldable pub next_state : ℕ → ℕ
next_state state = (6364136223846793005 * state + 1442695040888963407) % 2 ^ 64

-- what is drawn at a state: its upper 31 bits
unfoldable pub drawn : ℕ → ℕ
drawn state = state / 2 ^ 33

-- The next operation of a script, after this state, and the state that its draws leave. The first draw says its kind,
-- the second its key, and a put's third is its value. Each script has keys of its own.
abbrev pub made_op : ℕ → ℕ → Op × ℕ
made_op script state =
    let first = next_state state in
    let second = next_state first in
    let third = next_state second in
    let kind = drawn first % 4 in
    let key = 64 * (drawn second % 4096) + script in
    if nat_lt kind 2 then (Put key (drawn third), third) else (if kind == 2 then (Get key, second) else (Del key, second))

-- so many operations of a script, after this state
abbrev pub made_ops : ℕ → ℕ → ℕ → List Op
made_ops script state zero = []
made_ops script state (suc ops) = (made_op script state).0 ∷ made_ops script (made_op script state).1 ops

-- a script of the workload that is made from a number
abbrev pub made_script : ℕ → ℕ → ℕ → List Op
made_script number ops script = made_ops script ((number + script) % 2 ^ 64) ops

-- so many scripts, each of so many operations
abbrev pub made_scripts : ℕ → ℕ → ℕ → List (List Op)
made_scripts number scripts ops = map (made_script number ops) (range_with_len 0 scripts)

-- The scripts are made from some number.
pub record IsMade (scripts : List (List Op)) : Type 0 where
  pub number : ℕ
  pub count : ℕ
  pub ops : ℕ
  pub fits : number < 2 ^ 64
  pub made : scripts ≡ made_scripts number count ops
