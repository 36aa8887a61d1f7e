-- Accounts: their bytes, which texts are accounts, and when a text is the print of what it claims.
use Rattle.std.specs.Prelude.{ℕ, ◌+◌, List, [], ◌∷◌, ◌++◌, length, codes, decimal, flat_map, ◌≡◌, map, ◌^◌, ◌<◌}
use Rattle.prcu_model.specs.declared.operation.Reply.{Reply}
use Rattle.prcu_model.specs.declared.operation.Reply.TheVariants.{New, Old, Full, Val, Absent, Gone, Was}
use Rattle.prcu_model.specs.declared.operation.Line.{Line}
use Rattle.prcu_model.specs.declared.operation.Update.{Update}
use Rattle.script_text.specs.Grammar.{op_text, lines_of}
use Rattle.prcu_model.specs.declared.operation.Op.{Op}
use Rattle.prcu_model.specs.declared.operation.Told.{Told}
use Rattle.prcu_model.specs.Dictionary.{map_of, IsLegal}
use Rattle.prcu_model.specs.Fronts.{AreExplained, AllAreNumbered, ops_of, AreExplainable, all_told_lines}
use Rattle.std.specs.List.{AllByRecursion}
use Rattle.prcu_model.specs.Scripts.{FitsWords}
use Rattle.std.specs.FinMap as finite

-- The bytes of an account.
-- Source: docs/FORMATS.md, "Accounts".

abbrev pub reply_text : Reply → List ℕ
reply_text New = codes "new "
reply_text Old = codes "old "
reply_text Full = codes "full "
reply_text (Val value) = codes "val " ++ decimal value ++ codes " "
reply_text Absent = codes "none "
reply_text Gone = codes "gone "
reply_text (Was value) = codes "was " ++ decimal value ++ codes " "

-- the operation, its reply and its number
abbrev pub line_text : Line → List ℕ
line_text line = op_text line.op ++ codes " " ++ reply_text line.reply ++ decimal line.number ++ codes "\n"

abbrev pub script_part : ℕ → List Line → List ℕ
script_part i lines = codes "script " ++ decimal i ++ codes "\n" ++ flat_map line_text lines

-- the scripts, where the first of these has this number
abbrev pub scripts_from : ℕ → List (List Line) → List ℕ
scripts_from i [] = []
scripts_from i (lines ∷ scripts) = script_part i lines ++ scripts_from (i + 1) scripts

-- the updates, where the first of these has this position
abbrev pub history_from : ℕ → List Update → List ℕ
history_from n [] = []
history_from n (u ∷ us) = (decimal n ++ codes " " ++ decimal u.caller ++ codes " " ++ op_text u.op ++ codes "\n") ++ history_from (n + 1) us

abbrev pub pair_text : ℕ × ℕ → List ℕ
pair_text (key, value) = decimal key ++ codes " " ++ decimal value ++ codes "\n"

-- the scripts with their lines, the history, the final pairs, and `end`
abbrev pub account_of : List (List Line) → List Update → List (ℕ × ℕ) → List ℕ
account_of scripts history final =
    scripts_from 0 scripts
    ++ (codes "history " ++ decimal (length history) ++ codes "\n" ++ history_from 1 history)
    ++ (codes "final " ++ decimal (length final) ++ codes "\n" ++ flat_map pair_text final)
    ++ codes "end\n"

-- Which texts are accounts of scripts.
-- Source: docs/FORMATS.md, "Accounts".

-- A text is an account of scripts and slots where it prints lines and a history such that: the lines' operations are the
-- scripts; the history is legal; it explains the lines; each line's number is the least; and the final pairs are those
-- of the dictionary that the history makes, keys ascending.
pub record IsAccount (scripts : List (List Op)) (slots : ℕ) (text : List ℕ) : Type 0 where
  pub lines : List (List Line)
  pub history : List Update
  pub ops : map ops_of lines ≡ scripts
  pub legal : IsLegal history
  pub explained : AreExplained (record { scripts = length scripts; slots = slots }) history lines
  pub numbered : AllAreNumbered (record { scripts = length scripts; slots = slots }) history lines lines
  pub printed : text ≡ account_of lines history (finite.entries (map_of history))

-- Each script's lines have the replies that the script was told, in their order.
abbrev pub HaveReplies : List (List Told) → List (List Line) → Type 0
HaveReplies told lists = map (λ lines. map (λ line. line.reply) lines) lists ≡ map (λ answers. map (λ answer. answer.reply) answers) told

-- Of the same scripts and slots, two accounts with the same history and the same replies are one text.
abbrev pub AccountsAreOne : Type 0
AccountsAreOne = (scripts : List (List Op)) (slots : ℕ) (told : List (List Told)) (text other_text : List ℕ)
    (account : IsAccount scripts slots text) (other : IsAccount scripts slots other_text) → account.history ≡ other.history
    → HaveReplies told account.lines
    → HaveReplies told other.lines → text ≡ other_text

-- When a text is the print of what it claims.
-- Source: docs/FORMATS.md, "Accounts".

-- What was told and the history are true of the scripts, and printed with their numbers they are the text.
pub record IsPrinted (scripts : List (List Op)) (slots : ℕ) (told : List (List Told)) (history : List Update) (text : List ℕ) : Type 0 where
  pub legal : IsLegal history
  pub explainable : AreExplainable scripts told history slots
  pub lines : List (List Line)
  pub numbered : AllAreNumbered (record { scripts = length scripts; slots = slots }) history (all_told_lines scripts told) lines
  pub printed : text ≡ account_of lines history (finite.entries (map_of history))

-- An account as it is read: what is taken out of it, and the lines that it begins with.

-- What a reader takes out of an account.
-- Source: docs/FORMATS.md, "Accounts".

-- a line without its operation
abbrev pub told_of : Line → Told
told_of line = record { reply = line.reply; number = line.number }

abbrev pub tolds_of : List Line → List Told
tolds_of lines = map told_of lines

-- a reply's value fits a `u64`
abbrev pub FitsReply : Reply → Type 0
FitsReply (Val value) = value < 2 ^ 64
FitsReply (Was value) = value < 2 ^ 64
FitsReply _ = Unit {0}

abbrev pub FitsLine : Line → Type 0
FitsLine line = FitsReply line.reply × (line.number < 2 ^ 64)

abbrev pub FitsUpdate : Update → Type 0
FitsUpdate update = (update.caller < 2 ^ 32) × FitsWords update.op

-- Lines of these scripts, and a history, whose numbers fit.
pub record Fit (scripts : List (List Op)) (lines : List (List Line)) (history : List Update) : Type 0 where
  pub ops : map ops_of lines ≡ scripts
  pub scripts_fit : AllByRecursion (AllByRecursion FitsWords) scripts
  pub lines_fit : AllByRecursion (AllByRecursion FitsLine) lines
  pub history_fits : AllByRecursion FitsUpdate history
  pub short : length history < 2 ^ 64

-- The lines of an account, each without its byte 10, and which texts begin with them.
-- Source: docs/FORMATS.md, "Accounts".

-- the operation, its reply and its number
abbrev pub line_body : Line → List ℕ
line_body line = op_text line.op ++ codes " " ++ reply_text line.reply ++ decimal line.number

abbrev pub script_head : ℕ → List ℕ
script_head i = codes "script " ++ decimal i

abbrev pub history_head : ℕ → List ℕ
history_head count = codes "history " ++ decimal count

-- the update with its position and its caller
abbrev pub update_body : ℕ → Update → List ℕ
update_body n update = decimal n ++ codes " " ++ decimal update.caller ++ codes " " ++ op_text update.op

-- the scripts, where the first of these has this number
abbrev pub scripts_lines : ℕ → List (List Line) → List (List ℕ)
scripts_lines i [] = []
scripts_lines i (lines ∷ scripts) = script_head i ∷ map line_body lines ++ scripts_lines (i + 1) scripts

-- the updates, where the first of these has this position
abbrev pub history_lines : ℕ → List Update → List (List ℕ)
history_lines n [] = []
history_lines n (u ∷ us) = update_body n u ∷ history_lines (n + 1) us

-- The text begins with these lines, which tell of the script's operations, and more lines follow.
pub record TellsScript (text : List ℕ) (script : List Op) (lines : List Line) (more : List (List ℕ)) : Type 0 where
  pub ops : ops_of lines ≡ script
  pub ops_fit : AllByRecursion FitsWords script
  pub lines_fit : AllByRecursion FitsLine lines
  pub begins : lines_of text ≡ map line_body lines ++ more

-- The text begins with the lines of these scripts, of which the first has this number.
pub record TellsScripts (i : ℕ) (text : List ℕ) (scripts : List (List Op)) (lines : List (List Line)) (more : List (List ℕ)) : Type 0 where
  pub ops : map ops_of lines ≡ scripts
  pub ops_fit : AllByRecursion (AllByRecursion FitsWords) scripts
  pub lines_fit : AllByRecursion (AllByRecursion FitsLine) lines
  pub begins : lines_of text ≡ scripts_lines i lines ++ more

-- The text begins with the lines of these updates, of which the first has this position.
pub record TellsUpdates (n : ℕ) (text : List ℕ) (updates : List Update) (more : List (List ℕ)) : Type 0 where
  pub fit : AllByRecursion FitsUpdate updates
  pub begins : lines_of text ≡ history_lines n updates ++ more
