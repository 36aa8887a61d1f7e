-- Which line of a script an account has wrong.
-- Source: docs/FORMATS.md, "Accounts".
use Rattle.std.specs.Prelude.{◌+◌, ◌<◌, ℕ, zero, suc, List, [], ◌∷◌, IsTrue, if◌then◌else◌, length, slice_index_or}
use Rattle.prcu_model.specs.declared.operation.Op.{Op}
use Rattle.prcu_model.specs.declared.operation.Line.{Line}
use Rattle.prcu_model.specs.declared.operation.Told.{Told}
use Rattle.prcu_model.specs.declared.operation.Update.{Update}
use Rattle.prcu_model.specs.Dictionary.{tells_update}
use Rattle.prcu_model.specs.Fronts.{IsLeastFor, told_lines}
use Rattle.account_text.specs.Judging.{Course, IsTold}
use Rattle.account_text.specs.declared.wrong_lines.Place.{Place}

-- The line is right after a line with this number and after so many updates of its caller: its number is the least that may stand there, and
-- where it tells of an update the caller made it then.
pub record IsRight (course : Course) (caller turn before : ℕ) (line : Line) : Type 0 where
  pub least : IsLeastFor course.room course.history before line line.number
  pub told : IsTrue (tells_update line.reply) → IsTold course.history caller turn line

-- how many updates of its caller there are up to the line
abbrev pub turn_after : ℕ → Line → ℕ
turn_after turn line = if tells_update line.reply then turn + 1 else turn

-- all lines are right, one after another
abbrev pub AreRight : Course → ℕ → ℕ → ℕ → List Line → Type 0
AreRight course caller turn before [] = Unit {0}
AreRight course caller turn before (line ∷ lines) =
    IsRight course caller turn before line × AreRight course caller (turn_after turn line) line.number lines

-- the line at this place, counted from 0, is the first that isn't right
abbrev pub IsWrongAt : Course → ℕ → ℕ → ℕ → List Line → ℕ → Type 0
IsWrongAt course caller turn before [] place = ⊥
IsWrongAt course caller turn before (line ∷ lines) zero = IsRight course caller turn before line → ⊥
IsWrongAt course caller turn before (line ∷ lines) (suc place) =
    IsRight course caller turn before line × IsWrongAt course caller (turn_after turn line) line.number lines place

-- the lines of one script, as they were told
abbrev pub script_lines : List (List Op) → List (List Told) → ℕ → List Line
script_lines scripts told i = told_lines (slice_index_or scripts i []) (slice_index_or told i [])

-- all lines of this script are right
abbrev pub IsScriptRight : Course → List (List Op) → List (List Told) → ℕ → Type 0
IsScriptRight course scripts told i = AreRight course i 0 0 (script_lines scripts told i)

-- so many scripts share these slots, with this history
abbrev pub course_of : List (List Op) → List Update → ℕ → Course
course_of scripts history slots = record { room = record { scripts = length scripts; slots = slots }; history = history }

-- The line at this place is the first that isn't right, in the first script that has such a line.
pub record IsFirstWrong (scripts : List (List Op)) (told : List (List Told)) (history : List Update) (slots : ℕ) (place : Place) : Type 0 where
  pub before : (i : ℕ) → i < place.script → IsScriptRight (course_of scripts history slots) scripts told i
  pub wrong : IsWrongAt (course_of scripts history slots) place.script 0 0 (script_lines scripts told place.script) place.line
