-- What a history says of replies: which it explains, the numbers beside them, and whether slots were enough.
use Rattle.std.specs.Prelude.{◌≡◌, ℕ, ◌+◌, ◌-◌, ◌<◌, ◌≤◌, ◌==◌, if◌then◌else◌, MatchBool, IsTrue, List, [], ◌∷◌, length, map, slice_index_or}
use Rattle.std.specs.List.{AllByRecursion}
use Rattle.prcu_model.specs.declared.operation.Op.{Op}
use Rattle.prcu_model.specs.declared.operation.Reply.{Reply}
use Rattle.prcu_model.specs.declared.operation.Told.{Told}
use Rattle.prcu_model.specs.declared.operation.Line.{Line}
use Rattle.prcu_model.specs.declared.operation.Update.{Update}
use Rattle.prcu_model.specs.Dictionary.{Dictionary, map_at, Room, Explains, Confirms, tells_update}
use Rattle.prcu_model.specs.declared.operation.Reply.TheVariants.{Full}
use Rattle.std.specs.FinMap as finite

-- Which replies a history explains, and the number that stands beside each.
-- Source: docs/FORMATS.md, "Accounts".

-- the operations of one script, each with what it was told
abbrev pub told_lines : List Op → List Told → List Line
told_lines (op ∷ ops) (told ∷ tolds) = record { op = op; reply = told.reply; number = told.number } ∷ told_lines ops tolds
told_lines _ _ = []

-- those of all scripts
abbrev pub all_told_lines : List (List Op) → List (List Told) → List (List Line)
all_told_lines (script ∷ scripts) (told ∷ tolds) = told_lines script told ∷ all_told_lines scripts tolds
all_told_lines _ _ = []

-- the operations of lines
abbrev pub ops_of : List Line → List Op
ops_of lines = map (λ line. line.op) lines

-- an update with its position in the history, counted from 1
pub record Placed : Type 0 where
  pub position : ℕ
  pub op : Op

-- a caller's updates, where the first of these has this position
abbrev pub own_updates_from : ℕ → ℕ → List Update → List Placed
own_updates_from position caller [] = []
own_updates_from position caller (u ∷ us) =
    if u.caller == caller then record { position = position; op = u.op } ∷ own_updates_from (position + 1) caller us
    else own_updates_from (position + 1) caller us

abbrev pub own_updates : ℕ → List Update → List Placed
own_updates caller history = own_updates_from 1 caller history

-- the updates that lines tell of
abbrev pub told_updates : List Line → List Placed
told_updates [] = []
told_updates (line ∷ lines) =
    if tells_update line.reply then record { position = line.number; op = line.op } ∷ told_updates lines else told_updates lines

-- An update that the line tells of was made, at the dictionary of the updates before it.
abbrev pub IsConfirmed : List Update → Line → Type 0
IsConfirmed history line = IsTrue (tells_update line.reply) → Confirms (map_at history (line.number - 1)) line.op line.reply

-- A number that may stand beside a line, after the number of the line before it: at an update its position, which is
-- higher, and else a front at which the dictionary explains the reply, which isn't lower.
abbrev pub MayStandBy : (Dictionary → Op → Reply → Type 0) → List Update → ℕ → Line → ℕ → Type 0
MayStandBy explains history before line number =
    MatchBool (tells_update line.reply) ((number ≡ line.number) × (before < number))
    ((before ≤ number) × (number ≤ length history) × explains (map_at history number) line.op line.reply)

-- numbers that may stand beside lines
abbrev pub MayStandBesideBy : (Dictionary → Op → Reply → Type 0) → List Update → ℕ → List Line → List ℕ → Type 0
MayStandBesideBy explains history before [] [] = Unit {0}
MayStandBesideBy explains history before (line ∷ lines) (number ∷ numbers) =
    MayStandBy explains history before line number × MayStandBesideBy explains history number lines numbers
MayStandBesideBy explains history before _ _ = ⊥

-- the same where so many scripts share so many slots
abbrev pub MayStand : Room → List Update → ℕ → Line → ℕ → Type 0
MayStand room = MayStandBy (Explains room)

abbrev pub MayStandBeside : Room → List Update → ℕ → List Line → List ℕ → Type 0
MayStandBeside room = MayStandBesideBy (Explains room)

abbrev pub CanBeNumbered : Room → List Update → List Line → Type 0
CanBeNumbered room history lines = (numbers : List ℕ) × MayStandBeside room history 0 lines numbers

-- The history explains all lines: the updates that script c's lines tell of are, in order, those of caller c, with
-- their positions, and there are no others; each reply fits its update; and the other lines have fronts, so that in no
-- script the numbers fall.
pub record AreExplained (room : Room) (history : List Update) (scripts : List (List Line)) : Type 0 where
  pub updates : (c : ℕ) → own_updates c history ≡ told_updates (slice_index_or scripts c [])
  pub confirmed : AllByRecursion (AllByRecursion (IsConfirmed history)) scripts
  pub fronts : AllByRecursion (CanBeNumbered room history) scripts

-- What scripts were told is explained by a history.
pub record AreExplainable (scripts : List (List Op)) (told : List (List Told)) (history : List Update) (slots : ℕ) : Type 0 where
  pub lengths : map length told ≡ map length scripts
  pub explained : AreExplained (record { scripts = length scripts; slots = slots }) history (all_told_lines scripts told)

-- the least number that may stand beside the line
abbrev pub IsLeastFor : Room → List Update → ℕ → Line → ℕ → Type 0
IsLeastFor room history before line number =
    MayStand room history before line number × ((other : ℕ) → MayStand room history before line other → number ≤ other)

-- The lines of one script as they were told, and the same with the numbers that stand beside them: each the least, after
-- the number of the line before it.
abbrev pub AreNumbered : Room → List Update → ℕ → List Line → List Line → Type 0
AreNumbered room history before [] [] = Unit {0}
AreNumbered room history before (told ∷ tolds) (line ∷ lines) =
    (line.op ≡ told.op) × (line.reply ≡ told.reply) × IsLeastFor room history before told line.number
    × AreNumbered room history line.number tolds lines
AreNumbered room history before _ _ = ⊥

-- the same for all scripts
abbrev pub AllAreNumbered : Room → List Update → List (List Line) → List (List Line) → Type 0
AllAreNumbered room history [] [] = Unit {0}
AllAreNumbered room history (told ∷ tolds) (lines ∷ scripts) =
    AreNumbered room history 0 told lines × AllAreNumbered room history tolds scripts
AllAreNumbered room history _ _ = ⊥

-- What a number of slots says of lines and of a history.
-- Source: docs/FORMATS.md, "Accounts".

-- no line of these scripts says `full`
abbrev pub LacksFull : List (List Line) → Type 0
LacksFull scripts = AllByRecursion (AllByRecursion (λ line. line.reply ≡ Full → ⊥)) scripts

-- at no front of the history are there more pairs than slots
abbrev pub StaysWithin : List Update → ℕ → Type 0
StaysWithin history slots = (front : ℕ) → front ≤ length history → finite.len (map_at history front) ≤ slots
