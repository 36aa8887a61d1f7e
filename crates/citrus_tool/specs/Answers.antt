-- What the top call reads and writes.
-- Source: docs/FORMATS.md, "Statuses".
use Rattle.std.specs.Prelude.{◌≡◌, ℕ, ◌≤◌, List, ◌++◌, length, Option, None, codes, decimal}
use Rattle.io_edge.specs.Edge.{Takes, IsAtEnd, Appends, AppendsFront}
use Rattle.prcu_model.specs.declared.operation.Op.{Op}
use Rattle.prcu_model.specs.Fronts.{LacksFull, StaysWithin}
use Rattle.script_text.specs.Grammar.{IsScriptText, IsScriptTextUpTo, IsFirstBadUpTo}
use Rattle.account_text.specs.Account.{IsAccount}
use Rattle.workload.specs.Draws.{made_scripts}
use Rattle.workload.specs.Summaries.{plain_summary, summary_text}
use Rattle.command_words.specs.declared.commands.Command.{Command}
use Rattle.command_words.specs.declared.commands.Command.TheVariants.{Run, Check, Load, Watch, Hash}
use Rattle.command_words.specs.declared.commands.Mode.{Mode}
use Rattle.command_words.specs.declared.commands.Mode.TheVariants.{Threads, Schedule}
use Rattle.command_words.specs.declared.statuses.Status.{Status}
use Rattle.command_words.specs.declared.statuses.Status.TheVariants.{Done, Refused, Usage, BadScript, ReadFault, NoMemory, TooLong}
use Rattle.citrus_tool.specs.declared.outcome.Ran.{Ran}
use Rattle.citrus_tool.specs.declared.outcome.Ran.TheVariants.{Nothing}
use Rattle.command_words.specs.Commands.{Asks, Reads, limit_of, slots_of, HasParts}
use Rattle.citrus_tool.specs.Leavings.{IsDrawn, RunsInThreads, LeavesMade, LeavesHash, WatchesFor, LeavesWatched}

-- The text is an account of the scripts that the input holds: the headline. Each script's successful updates stand in
-- one legal history, once and in order; each reply is the plain dictionary's at its front; in a script the fronts never
-- fall; and the final pairs are what the history leaves. Where no number of slots was given, no line says `full`; and given
-- or not, at no front are there more pairs than slots.
pub record AccountsFor (slots : Option ℕ) (input text : List ℕ) : Type 0 where
  pub scripts : List (List Op)
  pub read : IsScriptText input scripts
  pub account : IsAccount scripts (slots_of slots scripts) text
  pub never_full : slots ≡ None → LacksFull account.lines
  pub within_slots : StaysWithin account.history (slots_of slots scripts)

-- The same where the number of a schedule draws which script makes the next step: the replies and the history are those of the run that
-- it draws.
pub record AccountsByDraws (slots : Option ℕ) (number : ℕ) (input text : List ℕ) : Type 0 where
  pub accounts : AccountsFor slots input text
  pub drawn : IsDrawn accounts.scripts (slots_of slots accounts.scripts) number accounts.account.lines accounts.account.history

-- The input, the slots and the number determine such a text.
abbrev pub DrawnTextsAreOne : Type 0
DrawnTextsAreOne = (slots : Option ℕ) (number : ℕ) (input text other_text : List ℕ) → AccountsByDraws slots number input text
    → AccountsByDraws slots number input other_text → text ≡ other_text

-- what `run` writes of good scripts
abbrev pub WritesRun : Mode → Option ℕ → List ℕ → List ℕ → Type 0
WritesRun (Threads waiter cookies) slots input text = AccountsFor slots input text
WritesRun (Schedule number) slots input text = AccountsByDraws slots number input text

-- what it leaves beside that: in threads the tree on which they ran and were told what is written, by a schedule nothing
abbrev pub LeavesRun : (mode : Mode) (slots : Option ℕ) (input text : List ℕ) → WritesRun mode slots input text → Ran → Type 0
LeavesRun (Threads waiter cookies) slots input text accounts ran =
    RunsInThreads (record { waiter = waiter; cookies = cookies }) accounts.scripts
    (slots_of slots accounts.scripts) accounts.account.lines accounts.account.history ran
LeavesRun (Schedule number) slots input text accounts ran = ran ≡ Nothing

-- The input has a line that is bad where a text may hold so many scripts. So it is no text of such scripts, and the text tells the
-- number of the first.
pub record TellsBadLineUpTo (most : ℕ) (input text : List ℕ) : Type 0 where
  pub number : ℕ
  pub first : IsFirstBadUpTo most input number
  pub none : (scripts : List (List Op)) → IsScriptTextUpTo most input scripts → ⊥
  pub told : text ≡ codes "bad line " ++ decimal number ++ codes "\n"

abbrev pub TellsBadLine : List ℕ → List ℕ → Type 0
TellsBadLine = TellsBadLineUpTo 64

-- The input has scripts, and the bytes of a claimed account after them.
pub record Claims (input : List ℕ) (scripts : List (List Op)) (account : List ℕ) : Type 0 where
  pub before : List ℕ
  pub parts : HasParts input before account
  pub read : IsScriptText before scripts

-- What is claimed is an account of the scripts, and the text says so.
pub record SaysYes (slots : Option ℕ) (input text : List ℕ) : Type 0 where
  pub scripts : List (List Op)
  pub account : List ℕ
  pub claims : Claims input scripts account
  pub holds : IsAccount scripts (slots_of slots scripts) account
  pub told : text ≡ codes "yes\n"

-- What is claimed is no account of the scripts, and the text says so.
pub record SaysNo (slots : Option ℕ) (input text : List ℕ) : Type 0 where
  pub scripts : List (List Op)
  pub account : List ℕ
  pub claims : Claims input scripts account
  pub fails : IsAccount scripts (slots_of slots scripts) account → ⊥
  pub told : text ≡ codes "no\n"

-- The status and the text tell whether the bytes are an account of the scripts.
abbrev pub Judges : Option ℕ → List (List Op) → List ℕ → Status → List ℕ → Type 0
Judges slots scripts account Done text = IsAccount scripts (slots_of slots scripts) account × (text ≡ codes "yes\n")
Judges slots scripts account Refused text = (IsAccount scripts (slots_of slots scripts) account → ⊥) × (text ≡ codes "no\n")
Judges slots scripts account _ text = ⊥

-- The scripts before the claimed account have a bad line.
pub record TellsBadLineBefore (input text : List ℕ) : Type 0 where
  pub before : List ℕ
  pub account : List ℕ
  pub parts : HasParts input before account
  pub bad : TellsBadLine before text

-- what a command writes for an input that it read whole, by the status with which it ends
abbrev pub Writes : Command → Status → List ℕ → List ℕ → Type 0
Writes (Run slots mode) Done input text = WritesRun mode slots input text
Writes (Run slots mode) BadScript input text = TellsBadLine input text
Writes (Check slots) Done input text = SaysYes slots input text
Writes (Check slots) Refused input text = SaysNo slots input text
Writes (Check slots) BadScript input text = TellsBadLineBefore input text
Writes (Load number scripts ops waiter) Done input text = text ≡ summary_text (plain_summary (made_scripts number scripts ops))
Writes (Watch low high slots waiter) Done input text = WatchesFor slots low high input text
Writes (Watch low high slots waiter) BadScript input text = TellsBadLineUpTo 63 input text
Writes Hash Done input text = AccountsFor None input text
Writes Hash BadScript input text = TellsBadLine input text
Writes _ _ input text = ⊥

-- a text that the command writes for the input, whatever the status
abbrev pub MayWrite : Command → List ℕ → List ℕ → Type 0
MayWrite command input text = (status : Status) × Writes command status input text

-- what the run of a command leaves, beside what it wrote
abbrev pub Leaves : (command : Command) (status : Status) (input text : List ℕ) → Writes command status input text → Ran → Type 0
Leaves (Run slots mode) Done input text accounts ran = LeavesRun mode slots input text accounts ran
Leaves (Load number scripts ops waiter) Done input text writes ran = LeavesMade waiter (made_scripts number scripts ops) ran
Leaves (Watch low high slots waiter) Done input text watches ran =
    LeavesWatched waiter watches.scripts
    (slots_of slots watches.scripts) watches.watch.account.lines watches.watch.account.history watches.watch.snapshots ran
Leaves Hash Done input text accounts ran = LeavesHash accounts.scripts accounts.account.lines accounts.account.history ran
Leaves _ _ input text writes ran = ran ≡ Nothing

-- The input was read to its end, where the command reads, and is within the command's limit; what was written is a text
-- that answers it, and what is left is what the run made.
pub record AnsweredBy (command : Command) (status : Status) (left left_now written written_now : Option (List ℕ)) (ran : Ran) : Type 0 where
  pub input : List ℕ
  pub short : length input ≤ limit_of command
  pub read : Takes left left_now input
  pub ended : Reads command → IsAtEnd left_now
  pub text : List ℕ
  pub answers : Writes command status input text
  pub leaves : Leaves command status input text answers ran
  pub appended : Appends written written_now text

-- The same, where only a front of the text was written.
pub record AnsweredInPartBy (command : Command) (left left_now written written_now : Option (List ℕ)) : Type 0 where
  pub input : List ℕ
  pub short : length input ≤ limit_of command
  pub read : Takes left left_now input
  pub ended : Reads command → IsAtEnd left_now
  pub text : List ℕ
  pub answers : MayWrite command input text
  pub appended : AppendsFront written written_now text

-- The words ask for a command, and that is answered.
pub record Answered (words : List (List ℕ)) (status : Status) (left left_now written written_now : Option (List ℕ))
    (ran : Ran) : Type 0 where
  pub command : Command
  pub asked : Asks words command
  pub answered : AnsweredBy command status left left_now written written_now ran

pub record AnsweredInPart (words : List (List ℕ)) (left left_now written written_now : Option (List ℕ)) : Type 0 where
  pub command : Command
  pub asked : Asks words command
  pub answered : AnsweredInPartBy command left left_now written written_now

-- The input has what the command works on.
abbrev pub IsAnswerable : Command → List ℕ → Type 0
IsAnswerable (Run slots mode) input = (scripts : List (List Op)) × IsScriptText input scripts
IsAnswerable (Check slots) input = (scripts : List (List Op)) × (account : List ℕ) × Claims input scripts account
IsAnswerable (Load number scripts ops waiter) input = Unit {0}
IsAnswerable (Watch low high slots waiter) input = (scripts : List (List Op)) × IsScriptTextUpTo 63 input scripts
IsAnswerable Hash input = (scripts : List (List Op)) × IsScriptText input scripts

-- the statuses with which nothing is written
abbrev pub WritesNothing : Status → Type 0
WritesNothing Usage = Unit {0}
WritesNothing ReadFault = Unit {0}
WritesNothing NoMemory = Unit {0}
WritesNothing TooLong = Unit {0}
WritesNothing _ = ⊥
