-- The exit statuses, and the lines on standard error for each.
-- Source: docs/FORMATS.md, "Statuses".
use Rattle.std.specs.Prelude.{ℕ, List, [], ◌++◌, codes, decimal}
use Rattle.command_words.specs.declared.statuses.Status.{Status}
use Rattle.command_words.specs.declared.statuses.Status.TheVariants.{Done, Refused, Usage, BadScript, ReadFault, WriteFault, NoMemory, TooLong}
use Rattle.command_words.specs.declared.statuses.Detail.{Detail}
use Rattle.command_words.specs.declared.statuses.Detail.TheVariants.{Nothing, BadLine, Unexplained}
use Rattle.command_words.specs.LineFaults.{fault_line}

abbrev pub exit_status : Status → ℕ
exit_status Done = 0
exit_status Refused = 1
exit_status Usage = 2
exit_status BadScript = 3
exit_status ReadFault = 4
exit_status WriteFault = 5
exit_status NoMemory = 6
exit_status TooLong = 7

-- the line that tells a status, with its end: none for a text that was written whole
abbrev pub status_line : Status → List ℕ
status_line Done = []
status_line Refused = codes "not an account\n"
status_line Usage = codes "usage: citrus run|check|load|watch|hash\n"
status_line BadScript = codes "bad script\n"
status_line ReadFault = codes "cannot read the input\n"
status_line WriteFault = codes "cannot write the output\n"
status_line NoMemory = codes "out of memory\n"
status_line TooLong = codes "the input is too long\n"

-- the line that tells more of it, with its end, where more is known
abbrev pub detail_line : Detail → List ℕ
detail_line Nothing = []
detail_line (BadLine fault) = fault_line fault
detail_line (Unexplained line) = codes "nothing explains line " ++ (decimal line ++ codes " of the input\n")

-- the statuses with which a whole text was written
abbrev pub WritesWhole : Status → Type 0
WritesWhole Done = Unit {0}
WritesWhole Refused = Unit {0}
WritesWhole BadScript = Unit {0}
WritesWhole _ = ⊥
