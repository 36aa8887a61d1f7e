-- Workers on one hash dictionary, before and after their scripts.
-- Source: docs/HASH_DICTIONARY.md, "Scripts beside each other on the hash dictionary".
use Rattle.std.specs.Prelude.{◌≡◌, ℕ, ◌<◌, List, [], ◌∷◌, ◌++◌, length, map, slice_get, Some}
use mathlib.Core.List.{IsPrefix}
use mathlib.Core.Option.{some}
use lib.ListN.{get_elem?}
use Rattle.prcu_marks.specs.declared.mark.Mark.{Mark}
use Rattle.prcu_marks.specs.declared.mark.Mark.TheVariants.{Began}
use Rattle.hash_core.specs.declared.view.View.{View}
use Rattle.hash_core.specs.Rule.{AnswersFor}
use Rattle.hash_core.specs.Steps.{IsQuiet, new_view}
use Rattle.class_hash.specs.Answers.{IsInformed}
use Rattle.class_hash.specs.Seats.{TableAt}
use Rattle.class_hash.specs.Replies.{ClientAt}

-- what a seat knows that has done and seen nothing, and has these places and tickets
abbrev pub idle_view : ℕ → ℕ → ℕ → View
idle_view place places tickets = new_view place places tickets []

-- the client for a script of this number and length
abbrev pub client_for : TableAt → ℕ → ℕ → ClientAt
client_for table i ops = record { table = table; view = idle_view i 1 ops }

-- A client whose calls are made: it is at place i, and is informed of all marks of its place.
pub record IsDone (table : TableAt) (i : ℕ) (client : ClientAt) : Type 0 where
  pub table_is : client.table ≡ table
  pub place : client.view.place ≡ i
  pub one_place : client.view.places ≡ 1
  pub informed : IsInformed table.capacities table.places client.view

-- no wait was begun
abbrev pub HaveNoWaits : List Mark → Type 0
HaveNoWaits marks = (j place count low high : ℕ) → get_elem? marks j ≡ some (Began place count low high) → ⊥

-- the marks that views left, one view after another
abbrev pub all_own : List View → List Mark
all_own [] = []
all_own (v ∷ vs) = v.own ++ all_own vs

-- A seat into which those with these views were joined, at places from 0 on: it answers for their places, has their marks, and has
-- seen what each had.
pub record IsJoined (views : List View) (seat : View) : Type 0 where
  pub quiet : IsQuiet seat
  pub own : seat.own ≡ all_own views
  pub answers : (p : ℕ) → p < length views → AnswersFor seat p
  pub seen : (i : ℕ) (v : View) → slice_get views i ≡ Some v → IsPrefix v.seen seat.seen

-- the same of clients, where the seat is informed of the table's marks
pub record StandsFor (table : TableAt) (clients : List ClientAt) (seat : View) : Type 0 where
  pub joined : IsJoined (map (λ (client : ClientAt). client.view) clients) seat
  pub informed : IsInformed table.capacities table.places seat
