-- Runs of scripts on a tree, and their clients.
-- The clients of scripts.
-- Source: docs/ACCOUNTS.md, "Clients".
use Rattle.std.specs.Prelude.{◌≡◌, ℕ, ◌/◌, Bool, true, false, Option, None, ◌*◌, ◌<◌, ◌≤◌, List, [], length, map}
use Rattle.prcu_model.specs.declared.operation.Op.{Op}
use Rattle.prcu_model.specs.declared.operation.Told.{Told}
use Rattle.citrus_tree.specs.Replies.{ClientAt, caller_of}
use Rattle.grace_cookie.specs.Cookies.{CookieAt}
use Rattle.tree_run.specs.Clients.{CookieClientAt}
use Rattle.tree_run.specs.declared.client.EitherClient.{EitherClient}
use Rattle.tree_run.specs.declared.client.EitherClient.TheVariants.{Waiting, Holding}
use Rattle.prcu_model.specs.Scripts.{Roomy}
use Rattle.prcu_marks.specs.Callers.{Caller}
use Rattle.client_run.specs.Crews.{HaveMet, HaveRun}
use Rattle.list_laws.specs.Counts.{times}
use Rattle.core_state.specs.declared.shape.Shape.{Shape}
use Rattle.core_state.specs.declared.shape.Waiter.{Waiter}
use Rattle.core_state.specs.Views.{places_of}
use Rattle.core_state.specs.Steps.{new_view}
use Rattle.seat_table.specs.Seats.{TableAt, SeatAt, way_of, region}
use Rattle.seat_table.specs.Gains.{IsInformed}
use Rattle.tree_run.specs.declared.running.RunWith.{RunWith}
use Rattle.tree_lift.specs.Lifts as waiting
use Rattle.tree_run.specs.Clients as holding

-- What a clause sees of the client of a script: whether it holds cookies, its table and its seat, and the cookie that it holds, if any.
pub record ScriptClientAt : Type 0 where
  pub cookies : Bool
  pub tree : ClientAt
  pub cookie : Option CookieAt

abbrev pub seen_as : {W G : Type 0} → EitherClient W G → ScriptClientAt
seen_as (Waiting tree) = record { cookies = false; tree = tree; cookie = None }
seen_as (Holding client) = record { cookies = true; tree = client.tree; cookie = client.cookie }

-- a client that has made no call
abbrev pub newcomer : Bool → ClientAt → ScriptClientAt
newcomer cookies tree = record { cookies = cookies; tree = tree; cookie = None }

-- for how many calls it has the tickets
abbrev pub tickets_last : Bool → ℕ → ℕ
tickets_last true tickets = tickets / 17
tickets_last false tickets = tickets / 16

abbrev pub left_of : ScriptClientAt → ℕ
left_of client = tickets_last client.cookies client.tree.seat.view.allowance.tickets

-- A call, by the client that it is: one that holds cookies, or one of the tree.
abbrev pub CalledBy : Bool → ScriptClientAt → Op → Told → ScriptClientAt → Type 0
CalledBy true before op told after = holding.HasCalled (record { tree = before.tree; cookie = before.cookie }) op told
    (record { tree = after.tree; cookie = after.cookie })
CalledBy false before op told after = waiting.HasCalled before.tree op told after.tree

pub record HasCalled (before : ScriptClientAt) (op : Op) (told : Told) (after : ScriptClientAt) : Type 0 where
  pub same : after.cookies ≡ before.cookies
  pub made : CalledBy before.cookies before op told after

-- A run of scripts on the tree: its clients before and after it, and the seat that is left.
-- Source: docs/ACCOUNTS.md, "Clients".

-- how many tickets so many operations may use: sixteen for each, and one more for each where cookies are held
abbrev pub tickets_for : Bool → ℕ → ℕ
tickets_for true ops = 17 * ops
tickets_for false ops = 16 * ops

-- a seat that has done and seen nothing, with these places and tickets
abbrev pub seat_for : TableAt → ℕ → ℕ → ℕ → SeatAt
seat_for table place places tickets = record {
  table = table;
  view = new_view place places tickets [];
  listed = [];
  looked = region table.slots table.places place;
}

-- how scripts run on a tree whose waiter has this number
abbrev pub run_with : ℕ → Bool → RunWith
run_with way cookies = record { waiter = way_of way; cookies = cookies }

-- the shape of a table with this waiter
abbrev pub shape_with : Waiter → TableAt → Shape
shape_with waiter table = record { waiter = waiter; slots = table.slots; places = table.places; room = table.room; tickets = table.tickets }

-- the client for a script of this number and length
abbrev pub client_for : RunWith → TableAt → ℕ → ℕ → ScriptClientAt
client_for how table i ops = newcomer how.cookies
    (record { shape = shape_with how.waiter table; table = table; seat = seat_for table i 1 (tickets_for how.cookies ops) })

-- the caller that a client is
abbrev pub script_caller : ScriptClientAt → Caller
script_caller client = caller_of client.tree

-- A client whose calls are made: it works at place i.
pub record IsDone (table : TableAt) (i : ℕ) (client : ScriptClientAt) : Type 0 where
  pub table_is : client.tree.table ≡ table
  pub place : client.tree.seat.view.allowance.place ≡ i

-- A seat into which those of these clients were joined, at places from 0 on: it answers for their places, and has seen what each had, and
-- of each place just what its client had.
pub record StandsFor (clients : List ScriptClientAt) (seat : SeatAt) : Type 0 where
  pub answers : (p : ℕ) → p < length clients → 1 ≤ times p (places_of seat.view)
  pub met : HaveMet (map script_caller clients) seat.view.seen

-- Scripts ran on a table: each client's seat had done nothing before. The seat into which theirs were joined is informed of all that they
-- did.
pub record HasRun (how : RunWith) (table : TableAt) (scripts : List (List Op)) (told : List (Roomy Told)) (seat : SeatAt) : Type 0 where
  pub ran : HaveRun (client_for how table) HasCalled StandsFor scripts told seat
  pub informed : IsInformed seat.view
