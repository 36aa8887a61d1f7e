-- What runs leave beside what they write, and what `watch` writes.
use Rattle.std.specs.Prelude.{◌≡◌, ℕ, ◌<◌, ◌≤◌, false, List, [], ◌∷◌, length, ◌+◌, Option, None}
use Rattle.prcu_model.specs.declared.operation.Op.{Op}
use Rattle.prcu_model.specs.declared.operation.Line.{Line}
use Rattle.prcu_model.specs.declared.operation.Told.{Told}
use Rattle.prcu_model.specs.declared.operation.Update.{Update}
use Rattle.prcu_model.specs.Dictionary.{map_of, IsLegal}
use Rattle.prcu_model.specs.Fronts.{AreExplainable, LacksFull, StaysWithin}
use Rattle.prcu_model.specs.Scripts.{Roomy, entries_of, op_count, default_slots_of}
use Rattle.prcu_marks.specs.declared.mark.Mark.{Mark}
use Rattle.prcu_marks.specs.Marks.{updates_of}
use Rattle.prcu_marks.specs.Callers.{FitsScripts}
use Rattle.account_text.specs.Account.{HaveReplies}
use Rattle.workload.specs.Summaries.{plain_summary, summary_with}
use Rattle.client_run.specs.Crews.{HaveRun}
use Rattle.list_laws.specs.Counts.{times}
use Rattle.core_state.specs.declared.shape.Waiter.{Waiter}
use Rattle.core_state.specs.declared.shape.Waiter.TheVariants.{Eer, Domain, Deer}
use Rattle.core_state.specs.Views.{places_of}
use Rattle.tree_run.specs.declared.running.RunWith.{RunWith}
use Rattle.tree_run.specs.Runs.{tickets_for, HasRun}
use Rattle.core_machine.specs.Laws.{IsOfSchedule}
use Rattle.hash_core.specs.Rule.{AnswersFor}
use Rattle.hash_core.specs.Steps.{IsQuiet}
use Rattle.class_hash.specs.Answers.{IsInformed}
use Rattle.class_hash.specs.Replies.{HasCalled}
use Rattle.class_hash.specs.Seats.{SeatAt, TableAt}
use Rattle.hash_run.specs.Capacities.{AreCapacities}
use Rattle.hash_run.specs.Crews.{HaveNoWaits, StandsFor, client_for}
use Rattle.command_words.specs.declared.commands.Mode.{Mode}
use Rattle.command_words.specs.declared.commands.Mode.TheVariants.{Threads, Schedule}
use Rattle.citrus_tool.specs.declared.outcome.Ran.{Ran}
use Rattle.citrus_tool.specs.declared.outcome.Ran.TheVariants.{Nothing, Eer as OnEer, Domain as OnDomain, Deer as OnDeer, Hash}
use Rattle.script_text.specs.Grammar.{IsScriptTextUpTo}
use Rattle.tree_watch.specs.Snapshots.{SnapshotAt, WereLookedAt, IsWatchText}
use Rattle.command_words.specs.Commands.{slots_of}
use Rattle.seat_table.specs.Gains as tree_gains
use Rattle.seat_table.specs.Seats as tree

-- What a run leaves beside its account.
-- Source: docs/ARCHITECTURE.md, "A run", and docs/HASH_DICTIONARY.md, "Scripts beside each other on the hash dictionary".

-- Whatever the dictionary: the marks are those of the scripts' calls, and their updates are the history.
pub record AreMarksOf (scripts : List (List Op)) (history : List Update) (seen : List Mark) : Type 0 where
  pub fits : FitsScripts scripts seen
  pub updates : updates_of seen ≡ history

-- Without scripts no dictionary is made, and nothing is left.
abbrev pub LeavesSome : List (List Op) → Ran → Type 0 → Type 0
LeavesSome [] ran left = ran ≡ Nothing
LeavesSome (script ∷ scripts) ran left = left

-- The tree on which the scripts ran, which has so many slots and places, room for 16 retired slots at each, and the tickets for their
-- operations; and the one seat into which those of all its places were joined. Each script's calls were made there by a client of its own,
-- which holds cookies or doesn't, and were told this. The seat is quiet, answers for every place, and is informed, so it may go on.
pub record IsTreeLeftOf (how : RunWith) (scripts : List (List Op)) (slots places : ℕ) (told : List (Roomy Told)) (history : List Update)
    (table : tree.TableAt) (seat : tree.SeatAt) : Type 0 where
  pub run : HasRun how table scripts told seat
  pub of_table : seat.table ≡ table
  pub slots_are : table.slots ≡ slots
  pub places_are : table.places ≡ places
  pub room_is : table.room ≡ 16
  pub tickets : table.tickets ≡ tickets_for how.cookies (op_count scripts)
  pub quiet : tree.IsQuietSeat seat
  pub answers : (place : ℕ) → place < places → 1 ≤ times place (places_of seat.view)
  pub informed : tree_gains.IsInformed seat.view
  pub marks : AreMarksOf scripts history seat.view.seen

-- a tree of this waiter and a seat on it
abbrev pub tree_with : Waiter → tree.TableAt → tree.SeatAt → Ran
tree_with Eer table seat = OnEer table seat
tree_with Domain table seat = OnDomain table seat
tree_with Deer table seat = OnDeer table seat

abbrev pub LeavesTree : RunWith → List (List Op) → ℕ → ℕ → List (Roomy Told) → List Update → Ran → Type 0
LeavesTree how scripts slots places told history ran =
    LeavesSome scripts ran ((table : tree.TableAt) × (seat : tree.SeatAt) × (ran ≡ tree_with how.waiter table seat)
    × IsTreeLeftOf how scripts slots places told history table seat)

-- In threads the scripts leave the tree of their waiter, with a place for each, and the lines have the replies that their calls on it were
-- told.
abbrev pub RunsInThreads : RunWith → List (List Op) → ℕ → List (List Line) → List Update → Ran → Type 0
RunsInThreads how scripts slots lines history ran =
    (told : List (Roomy Told)) × LeavesTree how scripts slots (length scripts) told history ran × HaveReplies (entries_of told) lines

-- The replies of the lines and the history are those of the run whose steps the number draws. Without scripts there is no step.
abbrev pub IsDrawn : List (List Op) → ℕ → ℕ → List (List Line) → List Update → Type 0
IsDrawn [] slots number lines history = history ≡ []
IsDrawn (script ∷ scripts) slots number lines history =
    (told : List (List Told)) × IsOfSchedule (script ∷ scripts) slots number told history × HaveReplies told lines

-- By a schedule the scripts leave nothing, and the replies of their lines and their history are drawn.
abbrev pub RunsBy : Mode → List (List Op) → ℕ → List (List Line) → List Update → Ran → Type 0
RunsBy (Threads waiter cookies) scripts slots lines history ran =
    RunsInThreads (record { waiter = waiter; cookies = cookies }) scripts slots lines history ran
RunsBy (Schedule number) scripts slots lines history ran = (ran ≡ Nothing) × IsDrawn scripts slots number lines history

-- This history is legal and explains what the scripts were told, and the summary of running them one after another counts just that.
pub record IsSummedUp (scripts : List (List Op)) (told : List (Roomy Told)) (history : List Update) : Type 0 where
  pub explained : AreExplainable scripts (entries_of told) history (default_slots_of scripts)
  pub legal : IsLegal history
  pub counted : plain_summary scripts ≡ summary_with scripts (entries_of told) (map_of history)

-- A made workload leaves the tree too, with the default slots. What its calls on it were told is summed up.
pub record LeavesMade (waiter : Waiter) (scripts : List (List Op)) (ran : Ran) : Type 0 where
  pub told : List (Roomy Told)
  pub history : List Update
  pub left : LeavesTree (record { waiter = waiter; cookies = false }) scripts (default_slots_of scripts) (length scripts) told history ran
  pub summed : IsSummedUp scripts told history

-- The hash dictionary on which the scripts ran, which has a place for each and a ticket for each operation, and the one seat into which
-- those of all scripts were joined; none of its marks is a wait's. Each script's calls were made there by a client of its own, and were
-- told this. The seat is quiet, answers for the place of every script, and is informed, so it may go on.
pub record IsLeftOf (scripts : List (List Op)) (told : List (Roomy Told)) (history : List Update) (table : TableAt)
    (seat : SeatAt) : Type 0 where
  pub run : HaveRun (client_for table) HasCalled (StandsFor table) scripts told seat.view
  pub of_table : seat.table ≡ table.id
  pub capacities : AreCapacities scripts table.capacities
  pub places : table.places ≡ length scripts
  pub tickets : table.tickets ≡ op_count scripts
  pub quiet : IsQuiet seat.view
  pub answers : (place : ℕ) → place < length scripts → AnswersFor seat.view place
  pub informed : IsInformed table.capacities table.places seat.view
  pub marks : AreMarksOf scripts history seat.view.seen
  pub waits : HaveNoWaits seat.view.seen

abbrev pub LeavesHash : List (List Op) → List (List Line) → List Update → Ran → Type 0
LeavesHash scripts lines history ran =
    (told : List (Roomy Told)) × LeavesSome scripts ran
    ((table : TableAt) × (seat : SeatAt) × (ran ≡ Hash table seat) × IsLeftOf scripts told history table seat)
    × HaveReplies (entries_of told) lines

-- What `watch` writes of good scripts, and what it leaves.
-- Source: docs/FORMATS.md, "Watch texts", and docs/ARCHITECTURE.md, "A run".

-- The text is a watch text of the scripts that the input holds, at most 63, with this range. Where no number of slots was given, no line
-- of its account says `full`. At no front are there more pairs than slots and the twenty that the tree has for the lists' place.
pub record WatchesFor (slots : Option ℕ) (low high : ℕ) (input text : List ℕ) : Type 0 where
  pub scripts : List (List Op)
  pub read : IsScriptTextUpTo 63 input scripts
  pub watch : IsWatchText scripts (slots_of slots scripts) low high text
  pub never_full : slots ≡ None → LacksFull watch.account.lines
  pub within_slots : StaysWithin watch.account.history (slots_of slots scripts + 20)

-- The tree of a watched run has twenty slots and one place more than that of a run alone: those of the lists. The seat keeps the looks at
-- the front by which that place found the lists that were written.
abbrev pub IsWatchedTree : Waiter → List (List Op) → ℕ → List (Roomy Told) → List Update → List SnapshotAt → tree.TableAt → tree.SeatAt
    → Type 0
IsWatchedTree waiter scripts slots told history lists table seat =
    IsTreeLeftOf (record { waiter = waiter; cookies = false }) scripts (slots + 20) (length scripts + 1) told history table seat
    × WereLookedAt (length scripts) seat.view.looks lists

-- A watched run leaves it, and the lines have the replies that the scripts' calls on it were told.
abbrev pub LeavesWatched : Waiter → List (List Op) → ℕ → List (List Line) → List Update → List SnapshotAt → Ran → Type 0
LeavesWatched waiter scripts slots lines history lists ran =
    (told : List (Roomy Told)) × LeavesSome scripts ran
    ((table : tree.TableAt) × (seat : tree.SeatAt) × (ran ≡ tree_with waiter table seat)
    × IsWatchedTree waiter scripts slots told history lists table seat)
    × HaveReplies (entries_of told) lines
