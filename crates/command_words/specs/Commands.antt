-- Commands: which words ask for which, how much each reads, its slots, and the parts of what `check` reads.
use Rattle.std.specs.Prelude.{◌≡◌, ℕ, ◌*◌, ◌≤◌, Bool, false, List, [], ◌∷◌, Option, Some, None, IfSome, codes, ◌+◌, ◌-◌, length, ◌⊎◌, ◌++◌}
use Rattle.core_state.specs.declared.shape.Waiter.{Waiter}
use Rattle.core_state.specs.declared.shape.Waiter.TheVariants.{Eer}
use Rattle.command_words.specs.declared.arguments.Argument.{Argument}
use Rattle.command_words.specs.declared.arguments.Arguments.{Arguments}
use Rattle.command_words.specs.declared.arguments.Numbers.TheVariants.{Zero}
use Rattle.command_words.specs.declared.commands.Command.{Command}
use Rattle.command_words.specs.declared.commands.Command.TheVariants.{Run, Check, Load, Watch, Hash}
use Rattle.command_words.specs.declared.commands.Mode.{Mode}
use Rattle.command_words.specs.declared.commands.Mode.TheVariants.{Threads, Schedule}
use Rattle.command_words.specs.Arguments.{AreSpelled, Joins, numbers_of}
use Rattle.prcu_model.specs.declared.operation.Op.{Op}
use Rattle.prcu_model.specs.Scripts.{default_slots_of}
use Rattle.std.specs.List.{AllByRecursion}
use Rattle.script_text.specs.Grammar.{lines_of}

-- Which words are which command, and how much each reads.
-- Source: docs/FORMATS.md, "Commands".

-- the first word of a command
abbrev pub command_word : Command → List ℕ
command_word (Run slots mode) = codes "run"
command_word (Check slots) = codes "check"
command_word (Load number scripts ops waiter) = codes "load"
command_word (Watch low high slots waiter) = codes "watch"
command_word Hash = codes "hash"

-- no argument
abbrev pub no_arguments : Arguments
no_arguments = record { slots = None; schedule = None; waiter = None; cookies = false; numbers = Zero }

-- the waiter that is named, or the first where none is
abbrev pub chosen : Option Waiter → Waiter
chosen None = Eer
chosen (Some waiter) = waiter

-- how `run` is to run scripts, by what is given: a schedule, or a waiter that needn't be named, with cookies where the flag stands
abbrev pub IsMode : Mode → Option ℕ → Option Waiter → Bool → Type 0
IsMode (Threads waiter cookies) schedule named flag = (schedule ≡ None) × (waiter ≡ chosen named) × (cookies ≡ flag)
IsMode (Schedule number) schedule named flag = (schedule ≡ Some number) × (named ≡ None) × (flag ≡ false)

-- The arguments are just the command's.
abbrev pub Suits : Command → Arguments → Type 0
Suits (Run slots mode) found = (found.slots ≡ slots) × IsMode mode found.schedule found.waiter found.cookies
    × (numbers_of found.numbers ≡ [])
Suits (Check slots) found = (found.slots ≡ slots) × (found.schedule ≡ None) × (found.waiter ≡ None) × (found.cookies ≡ false)
    × (numbers_of found.numbers ≡ [])
Suits (Load number scripts ops waiter) found =
    (found.slots ≡ None) × (found.schedule ≡ None) × (waiter ≡ chosen found.waiter) × (found.cookies ≡ false)
    × (numbers_of found.numbers ≡ number ∷ scripts ∷ ops ∷ [])
Suits (Watch low high slots waiter) found =
    (found.slots ≡ slots) × (found.schedule ≡ None) × (waiter ≡ chosen found.waiter) × (found.cookies ≡ false)
    × (numbers_of found.numbers ≡ low ∷ high ∷ [])
Suits Hash found = (found.slots ≡ None) × (found.schedule ≡ None) × (found.waiter ≡ None) × (found.cookies ≡ false)
    × (numbers_of found.numbers ≡ [])

-- a number of slots from 1 on, which with those of 63 more scripts stays within the largest table
abbrev pub AreSlots : Option ℕ → Type 0
AreSlots slots = IfSome slots (λ n. (1 ≤ n) × (n ≤ 2095892))

-- the numbers are in their ranges
abbrev pub IsInRange : Command → Type 0
IsInRange (Run slots mode) = AreSlots slots
IsInRange (Check slots) = AreSlots slots
IsInRange (Load number scripts ops waiter) = (1 ≤ scripts) × (scripts ≤ 64) × (scripts * ops ≤ 1048576)
IsInRange (Watch low high slots waiter) = (low ≤ high) × AreSlots slots
IsInRange Hash = Unit {0}

-- The words ask for the command: its own word, and then its arguments in any order.
pub record Asks (words : List (List ℕ)) (command : Command) : Type 0 where
  pub arguments : List Argument
  pub others : List (List ℕ)
  pub spelled : AreSpelled arguments others
  pub words_are : words ≡ command_word command ∷ others
  pub found : Arguments
  pub joined : Joins no_arguments arguments found
  pub fitting : Suits command found
  pub in_range : IsInRange command

abbrev pub IsCommand : List (List ℕ) → Type 0
IsCommand words = (command : Command) × Asks words command

-- whether the command reads its input
abbrev pub Reads : Command → Type 0
Reads (Run slots mode) = Unit {0}
Reads (Check slots) = Unit {0}
Reads (Load number scripts ops waiter) = ⊥
Reads (Watch low high slots waiter) = Unit {0}
Reads Hash = Unit {0}

-- the most bytes that the command reads
abbrev pub limit_of : Command → ℕ
limit_of (Run slots mode) = 16777216
limit_of (Check slots) = 134217728
limit_of (Load number scripts ops waiter) = 0
limit_of (Watch low high slots waiter) = 16777216
limit_of Hash = 16777216

-- The slots that scripts share, where a number is given, and where none is.
-- Source: docs/FORMATS.md, "Commands".

-- the slots of a run of these scripts: the number and twenty more for each script but the first, or the default
abbrev pub slots_of : Option ℕ → List (List Op) → ℕ
slots_of None scripts = default_slots_of scripts
slots_of (Some most) scripts = most + 20 * (length scripts - 1)

-- The two parts of what `check` reads.
-- Source: docs/FORMATS.md, "Commands".

-- no line is exactly `account`
abbrev pub LacksAccount : List ℕ → Type 0
LacksAccount text = AllByRecursion (λ line. line ≡ codes "account" → ⊥) (lines_of text)

-- nothing, or lines that are ended
abbrev pub IsEnded : List ℕ → Type 0
IsEnded text = (text ≡ []) ⊎ ((front : List ℕ) × (text ≡ front ++ codes "\n"))

-- The scripts stand before the first line that is exactly `account`, and the account's bytes after that line. Where
-- there is no such line, all bytes are scripts, and the account is empty.
abbrev pub HasParts : List ℕ → List ℕ → List ℕ → Type 0
HasParts input scripts account =
    (LacksAccount scripts × IsEnded scripts × (input ≡ scripts ++ codes "account\n" ++ account))
    ⊎ (LacksAccount scripts × IsEnded scripts × (input ≡ scripts ++ codes "account") × (account ≡ []))
    ⊎ (LacksAccount scripts × (input ≡ scripts) × (account ≡ []))
