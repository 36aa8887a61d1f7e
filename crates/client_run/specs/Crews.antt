-- The updates that callers were told of, and the history that they make.
-- Source: docs/FORMATS.md, "Accounts".
use Rattle.std.specs.Prelude.{◌≡◌, ◌≢◌, ℕ, ◌+◌, ◌-◌, ◌<◌, ◌≤◌, List, [], ◌∷◌, ◌++◌, length, map, All, AllPairs, Any, slice_get, slice_index_or, Some, slice_set}
use Rattle.prcu_model.specs.declared.operation.Line.{Line}
use Rattle.prcu_model.specs.declared.operation.Update.{Update}
use Rattle.prcu_model.specs.Fronts.{Placed, told_updates, own_updates}
use Rattle.std.specs.List.{AllByRecursion}
use Rattle.prcu_model.specs.declared.operation.Op.{Op}
use Rattle.prcu_model.specs.declared.operation.Told.{Told}
use Rattle.prcu_model.specs.Scripts.{Roomy}
use Rattle.prcu_marks.specs.Callers.{IsChain, Caller}
use mathlib.Core.List.{IsPrefix}
use Rattle.prcu_marks.specs.declared.mark.Mark.{Mark}
use Rattle.prcu_marks.specs.Marks.{own_of}

-- an update with the number that its caller was told
pub record Numbered : Type 0 where
  pub number : ℕ
  pub update : Update

-- the updates that a caller's lines tell of
abbrev pub numbered_updates : ℕ → List Line → List Numbered
numbered_updates caller lines = map (λ (own : Placed). record { number = own.position; update = record { caller = caller; op = own.op } })
    (told_updates lines)

-- those of all scripts, where the first of these has this caller
abbrev pub all_numbered_updates : ℕ → List (List Line) → List Numbered
all_numbered_updates caller [] = []
all_numbered_updates caller (lines ∷ scripts) = numbered_updates caller lines ++ all_numbered_updates (caller + 1) scripts

-- The numbers are 1 to their count, each once.
pub record AreOneToCount (updates : List Numbered) : Type 0 where
  pub positive : All (λ u. 1 ≤ u.number) updates
  pub limit : All (λ u. u.number ≤ length updates) updates
  pub once : AllPairs (λ u other. u.number ≢ other.number) updates

-- The history has these updates and no others, each at its number, counted from 1.
pub record IsHistoryOf (updates : List Numbered) (history : List Update) : Type 0 where
  pub count : length history ≡ length updates
  pub placed : All (λ u. slice_get history (u.number - 1) ≡ Some u.update) updates
  pub whole : (i : ℕ) → i < length history → Any (λ u. u.number ≡ i + 1) updates

-- Each script's lines tell of just its caller's own updates of the history, in order and with their positions.
abbrev pub TellOwnUpdates : List Update → List (List Line) → Type 0
TellOwnUpdates history scripts = (c : ℕ) → own_updates c history ≡ told_updates (slice_index_or scripts c [])

-- How updates are stored in a history, one after another.

-- the history with each of these updates at its number, counted from 1
abbrev pub stored : List Update → List Numbered → List Update
stored history [] = history
stored history (u ∷ updates) = stored (slice_set history (u.number - 1) u.update) updates

-- the numbers are those of places in a history of this length
abbrev pub AreInside : ℕ → List Numbered → Type 0
AreInside count updates = AllByRecursion (λ u. (1 ≤ u.number) × (u.number ≤ count)) updates

-- Workers, each for itself and on one table, before and after a run.

-- Workers, and what is asked of them before a run.
-- Source: docs/ACCOUNTS.md, "Clients".

-- what contracts see of a worker: its client, and what the client was told
pub record Work (C : Type 0) : Type 0 where
  pub client : C
  pub told : Roomy Told

-- The worker can make a script's calls: it was told nothing yet, has room for as many answers, and its client has the
-- means for as many calls.
pub record IsReadyFor {C : Type 0} (left : C → ℕ) (worker : Work C) (script : List Op) : Type 0 where
  pub empty : worker.told.entries ≡ []
  pub room : length script ≤ worker.told.spare
  pub means : length script ≤ left worker.client

-- Each worker is ready for the script of its number.
abbrev pub AreReadyFor : {C : Type 0} → (C → ℕ) → List (Work C) → List (List Op) → Type 0
AreReadyFor {C} left workers scripts = (i : ℕ) (worker : Work C) → slice_get workers i ≡ Some worker
    → IsReadyFor left worker (slice_index_or scripts i [])

-- Each worker's client made the calls of the script of its number, each once and in order, and the worker holds what
-- they were told.
abbrev pub HaveMade : {C : Type 0} → (C → Op → Told → C → Type 0) → List (Work C) → List (List Op) → List (Work C) → Type 0
HaveMade {C} made befores scripts afters = (i : ℕ) (before after : Work C) → slice_get befores i ≡ Some before
    → slice_get afters i ≡ Some after
    → IsChain made before.client (slice_index_or scripts i []) after.told.entries after.client

-- Workers whose clients share a table, before and after a run: each has a seat of its own, and afterwards the seats are one.
-- Source: docs/ACCOUNTS.md, "Clients".

-- The worker has this client, was told nothing, and has room for the answers to its script.
pub record IsHired {C : Type 0} (client : C) (script : List Op) (worker : Work C) : Type 0 where
  pub client_is : worker.client ≡ client
  pub empty : worker.told.entries ≡ []
  pub room : length script ≤ worker.told.spare

-- The first so many scripts have such workers. Their clients are those for a script of this number and length.
pub record AreHired {C : Type 0} (client_for : ℕ → ℕ → C) (scripts : List (List Op)) (n : ℕ) (workers : List (Work C)) : Type 0 where
  pub count : length workers ≡ n
  pub each : (i : ℕ) (worker : Work C) → slice_get workers i ≡ Some worker
      → IsHired (client_for i (length (slice_index_or scripts i []))) (slice_index_or scripts i []) worker

-- each script has its worker
abbrev pub IsCrew : {C : Type 0} → (ℕ → ℕ → C) → List (List Op) → List (Work C) → Type 0
IsCrew client_for scripts workers = AreHired client_for scripts (length scripts) workers

-- This holds of each worker's number and client.
abbrev pub AreDone : {C : Type 0} → (ℕ → C → Type 0) → List (Work C) → Type 0
AreDone {C} done workers = (i : ℕ) (worker : Work C) → slice_get workers i ≡ Some worker → done i worker.client

-- The first worker has gone: here is its client's seat, and behind the list what it was told.
pub record HasDismissed {C S : Type 0} (seat_of : C → S) (before after : List (Work C)) (told told_now : List (Roomy Told))
    (seat : S) : Type 0 where
  pub worker : Work C
  pub first : before ≡ worker ∷ after
  pub told_is : told_now ≡ told ++ worker.told ∷ []
  pub seat_is : seat ≡ seat_of worker.client

-- Some of the workers have gone: one seat stands for their clients, and what they were told stands behind the list.
pub record IsGathered {C S : Type 0} (stands_for : List C → S → Type 0) (workers rest : List (Work C)) (told told_now : List (Roomy Told))
    (seat : S) : Type 0 where
  pub gone : List (Work C)
  pub whole : workers ≡ gone ++ rest
  pub told_is : told_now ≡ told ++ map (λ (worker : Work C). worker.told) gone
  pub joined : stands_for (map (λ (worker : Work C). worker.client) gone) seat

-- Scripts ran: each had a worker that was told nothing yet, whose client was the one for its number and length and made its calls. Here is
-- what they were told, and a seat that stands for their clients.
pub record HaveRun {C S : Type 0} (client_for : ℕ → ℕ → C) (called : C → Op → Told → C → Type 0) (stands_for : List C → S → Type 0)
    (scripts : List (List Op)) (told : List (Roomy Told)) (seat : S) : Type 0 where
  pub hired : List (Work C)
  pub workers : List (Work C)
  pub crew : IsCrew client_for scripts hired
  pub count : length workers ≡ length hired
  pub made : HaveMade called hired scripts workers
  pub told_is : told ≡ map (λ (worker : Work C). worker.told) workers
  pub joined : stands_for (map (λ (worker : Work C). worker.client) workers) seat

-- Among these marks are all that the callers, at places from 0 on, have seen, and of each of their places just its caller's.
abbrev pub HaveMet : List Caller → List Mark → Type 0
HaveMet callers marks = (i : ℕ) (c : Caller) → slice_get callers i ≡ Some c → IsPrefix c.seen marks × (own_of i marks ≡ own_of i c.own)
