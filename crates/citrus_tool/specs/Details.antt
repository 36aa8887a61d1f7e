-- What is told of an input beside the status.
-- Source: docs/FORMATS.md, "Statuses".
use Rattle.std.specs.Prelude.{◌≡◌, ℕ, ◌+◌, ◌-◌, ◌<◌, ◌==◌, ◌⊎◌, List, Option, length, map, take, count_by, sum_by, slice_get}
use Rattle.io_edge.specs.Edge.{Takes, IsAtEnd}
use Rattle.prcu_model.specs.declared.operation.Op.{Op}
use Rattle.prcu_model.specs.declared.operation.Line.{Line}
use Rattle.prcu_model.specs.declared.operation.Told.{Told}
use Rattle.prcu_model.specs.declared.operation.Update.{Update}
use Rattle.script_text.specs.Grammar.{IsFirstBadUpTo}
use Rattle.account_text.specs.Account.{IsAccount, HaveReplies, Fit, account_of, tolds_of}
use Rattle.account_text.specs.WrongLines.{IsFirstWrong}
use Rattle.account_text.specs.declared.wrong_lines.Place.{Place}
use Rattle.command_words.specs.declared.commands.Command.{Command}
use Rattle.command_words.specs.declared.commands.Command.TheVariants.{Run, Check, Watch, Hash}
use Rattle.command_words.specs.declared.line_faults.LineFault.{LineFault}
use Rattle.command_words.specs.declared.statuses.Status.{Status}
use Rattle.command_words.specs.declared.statuses.Status.TheVariants.{BadScript, Refused}
use Rattle.command_words.specs.declared.statuses.Detail.{Detail}
use Rattle.command_words.specs.declared.statuses.Detail.TheVariants.{Nothing, BadLine, Unexplained}
use Rattle.command_words.specs.Commands.{Asks, Reads, slots_of, HasParts}
use Rattle.command_words.specs.LineFaults.{IsFaultOf, line_at}
use Rattle.citrus_tool.specs.Answers.{Claims}

-- The first bad line of the text, where it may hold so many scripts, has this fault.
pub record IsFirstFault (most : ℕ) (text : List ℕ) (fault : LineFault) : Type 0 where
  pub number : ℕ
  pub first : IsFirstBadUpTo most text number
  pub is : IsFaultOf fault (line_at text number)

-- the same of the scripts that the command reads
abbrev pub IsFaultIn : Command → List ℕ → LineFault → Type 0
IsFaultIn (Run slots mode) input fault = IsFirstFault 64 input fault
IsFaultIn (Check slots) input fault = (before account : List ℕ) × HasParts input before account × IsFirstFault 64 before fault
IsFaultIn (Watch low high slots waiter) input fault = IsFirstFault 63 input fault
IsFaultIn Hash input fault = IsFirstFault 64 input fault
IsFaultIn _ input fault = ⊥

-- how many lines the text ends
abbrev pub ended_in : List ℕ → ℕ
ended_in text = count_by (λ byte. byte == 10) text

-- the number of a line of the scripts in an account, counted from 1: each script has a line of its own before its operations
abbrev pub place_line : List (List Op) → Place → ℕ
place_line scripts place = place.line + place.script + 2 + sum_by length (take place.script scripts)

-- Where the text prints lines of the scripts and a history at all, these are what it claims.
abbrev pub AreClaimed : List (List Op) → List ℕ → List (List Told) → List Update → Type 0
AreClaimed scripts text told history =
    (lines : List (List Line)) (made : List Update) (final : List (ℕ × ℕ)) → Fit scripts lines made → text ≡ account_of lines made final
    → (told ≡ map tolds_of lines) × (history ≡ made)

-- The first line that the history doesn't explain has this number in an account.
pub record IsWrongLine (scripts : List (List Op)) (told : List (List Told)) (history : List Update) (slots line : ℕ) : Type 0 where
  pub place : Place
  pub wrong : IsFirstWrong scripts told history slots place
  pub is : line ≡ place_line scripts place

-- The account with these replies and this history differs from the text in this line first.
pub record DiffersIn (scripts : List (List Op)) (told : List (List Told)) (history : List Update) (slots : ℕ) (text : List ℕ) (line : ℕ)
    : Type 0 where
  pub right : List ℕ
  pub account : IsAccount scripts slots right
  pub made : account.history ≡ history
  pub replies : HaveReplies told account.lines
  pub same : ℕ
  pub begins : take same text ≡ take same right
  pub ends : same < length text → same < length right → slice_get text same ≡ slice_get right same → ⊥
  pub counted : line ≡ ended_in (take same text) + 1

-- Nothing explains this line of what should be an account of the scripts.
pub record IsUnexplained (scripts : List (List Op)) (slots : ℕ) (text : List ℕ) (line : ℕ) : Type 0 where
  pub told : List (List Told)
  pub history : List Update
  pub claimed : AreClaimed scripts text told history
  pub is : IsWrongLine scripts told history slots line ⊎ DiffersIn scripts told history slots text line

-- The input has scripts and claims an account of them, and nothing explains the line of the account that is this line of the input.
pub record ClaimsUnexplained (slots : Option ℕ) (input : List ℕ) (line : ℕ) : Type 0 where
  pub scripts : List (List Op)
  pub account : List ℕ
  pub claims : Claims input scripts account
  pub number : ℕ
  pub unexplained : IsUnexplained scripts (slots_of slots scripts) account number
  pub is : line ≡ ended_in (take (length input - length account) input) + number

-- the same, for the one command that judges accounts
abbrev pub IsUnexplainedIn : Command → List ℕ → ℕ → Type 0
IsUnexplainedIn (Check slots) input line = ClaimsUnexplained slots input line
IsUnexplainedIn _ input line = ⊥

-- what is told of an input beside the status with which a command ended
abbrev pub IsDetail : Command → Status → List ℕ → Detail → Type 0
IsDetail command status input Nothing = Unit {0}
IsDetail command status input (BadLine fault) = (status ≡ BadScript) × IsFaultIn command input fault
IsDetail command status input (Unexplained line) = (status ≡ Refused) × IsUnexplainedIn command input line

-- It is told of the input that was read to its end.
abbrev pub IsDetailedBy : Command → Status → Option (List ℕ) → Option (List ℕ) → Detail → Type 0
IsDetailedBy command status left left_now detail = (detail ≡ Nothing)
    ⊎ ((input : List ℕ) × Takes left left_now input × (Reads command → IsAtEnd left_now) × IsDetail command status input detail)

abbrev pub IsDetailed : List (List ℕ) → Status → Option (List ℕ) → Option (List ℕ) → Detail → Type 0
IsDetailed words status left left_now detail = (detail ≡ Nothing)
    ⊎ ((command : Command) × Asks words command × IsDetailedBy command status left left_now detail)
