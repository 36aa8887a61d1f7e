-- The dictionary: what updates make of it, which histories there are, which replies it explains, and scripts on a plain map.
use Rattle.std.specs.Prelude.{◌≡◌, ℕ, ◌≤◌, List, [], ◌∷◌, length, take, if◌then◌else◌, Option, IsTrue, false, ◌+◌, ◌-◌, ◌*◌, Bool, true, Some, nat_le, ◌++◌, None}
use Rattle.std.specs.Ordering.{nat_cmp}
use Rattle.std.specs.Coded.{Coded, coded_ℕ}
use Rattle.prcu_model.specs.declared.operation.Op.{Op}
use Rattle.prcu_model.specs.declared.operation.Op.TheVariants.{Put, Get, Del, Set}
use Rattle.prcu_model.specs.declared.operation.Update.{Update}
use Rattle.prcu_model.specs.declared.operation.Reply.{Reply}
use Rattle.prcu_model.specs.declared.operation.Reply.TheVariants.{New, Old, Full, Val, Absent, Gone, Was}
use Rattle.prcu_model.specs.declared.operation.Told.{Told}
use Rattle.std.specs.FinMap as map

-- The dictionary as a value, and what each update makes of it.
-- Source: docs/ACCOUNTS.md, "The dictionary".

-- finitely many keys, each with one value
abbrev pub Dictionary : Type 0
Dictionary = map.FinMap nat_cmp ℕ

-- the key that an operation asks for
abbrev pub key_of : Op → ℕ
key_of (Put key value) = key
key_of (Get key) = key
key_of (Del key) = key
key_of (Set key value) = key

-- A put adds its pair where the key is absent, a del removes its key, a set gives its key, where it is present, its
-- value. Nothing else changes.
abbrev pub updated : Dictionary → Op → Dictionary
updated m (Put key value) = if map.contains_key m key then m else map.insert m key value
updated m (Get key) = m
updated m (Del key) = map.remove m key
updated m (Set key value) = if map.contains_key m key then map.insert m key value else m

-- the dictionary after these updates, in their order
abbrev pub updated_all : Dictionary → List Update → Dictionary
updated_all m [] = m
updated_all m (u ∷ us) = updated_all (updated m u.op) us

-- the dictionary that a history makes of nothing
abbrev pub map_of : List Update → Dictionary
map_of history = updated_all map.empty history

-- the dictionary at a front: after the first so many updates of the history
abbrev pub map_at : List Update → ℕ → Dictionary
map_at history front = map_of (take front history)

-- a dictionary is stored as its pairs, keys ascending
abbrev pub dictionary_code : Coded Dictionary
dictionary_code = map.code coded_ℕ coded_ℕ

-- At some front from this one to now the dictionary gave the key this answer.
pub record WasSaid (us : List Update) (key from : ℕ) (answer : Option ℕ) : Type 0 where
  pub front : ℕ
  pub since : from ≤ front
  pub made : front ≤ length us
  pub answers : map.get (map_at us front) key ≡ answer

-- Which lists of updates are histories.
-- Source: docs/ACCOUNTS.md, "The dictionary".

-- A put is an update where its key is absent, a del and a set where their key is present. A get is none.
abbrev pub IsUpdateAt : Dictionary → Op → Type 0
IsUpdateAt m (Put key value) = map.contains_key m key ≡ false
IsUpdateAt m (Get key) = ⊥
IsUpdateAt m (Del key) = IsTrue (map.contains_key m key)
IsUpdateAt m (Set key value) = IsTrue (map.contains_key m key)

-- each is an update at the dictionary that those before it leave
abbrev pub AreUpdatesFrom : Dictionary → List Update → Type 0
AreUpdatesFrom m [] = Unit {0}
AreUpdatesFrom m (u ∷ us) = IsUpdateAt m u.op × AreUpdatesFrom (updated m u.op) us

abbrev pub IsLegal : List Update → Type 0
IsLegal history = AreUpdatesFrom map.empty history

-- Which dictionary explains a reply.
-- Source: docs/FORMATS.md, "Accounts".

-- So many scripts share so many slots.
pub record Room : Type 0 where
  pub scripts : ℕ
  pub slots : ℕ

-- The dictionary at which the operation is given this reply, and changes nothing. A put may be told that no slot is
-- left where the pairs, with twenty slots for each other script, fill the slots.
abbrev pub Explains : Room → Dictionary → Op → Reply → Type 0
Explains room m (Get key) (Val value) = map.get m key ≡ Some value
Explains room m (Get key) Absent = map.contains_key m key ≡ false
Explains room m (Del key) Absent = map.contains_key m key ≡ false
Explains room m (Set key value) Absent = map.contains_key m key ≡ false
Explains room m (Put key value) Old = IsTrue (map.contains_key m key)
Explains room m (Put key value) Full = room.slots ≤ map.len m + 20 * (room.scripts - 1)
Explains room m _ _ = ⊥

-- The reply tells that the operation was made as an update of this dictionary: New answers a put, Gone a del, and Was a
-- set, with the value that the key had.
abbrev pub Confirms : Dictionary → Op → Reply → Type 0
Confirms m (Put key value) New = Unit {0}
Confirms m (Del key) Gone = Unit {0}
Confirms m (Set key value) (Was old) = map.get m key ≡ Some old
Confirms m _ _ = ⊥

-- the replies that tell of an update
abbrev pub tells_update : Reply → Bool
tells_update New = true
tells_update Gone = true
tells_update (Was value) = true
tells_update _ = false

-- Scripts run one after another on a plain map, with a limit on its pairs or without.
-- Source: docs/ACCOUNTS.md, "The dictionary".

-- the reply that holds a key's value, and Absent where there is none
abbrev pub with_value : (ℕ → Reply) → Option ℕ → Reply
with_value reply None = Absent
with_value reply (Some value) = reply value

-- whether a dictionary has as many pairs as the limit, where there is one
abbrev pub is_filled : Option ℕ → Dictionary → Bool
is_filled None m = false
is_filled (Some most) m = nat_le most (map.len m)

-- what an operation is answered at a dictionary that takes no pair past the limit
abbrev pub plain_reply : Option ℕ → Dictionary → Op → Reply
plain_reply limit m (Put key value) = if map.contains_key m key then Old else if is_filled limit m then Full else New
plain_reply limit m (Get key) = with_value Val (map.get m key)
plain_reply limit m (Del key) = if map.contains_key m key then Gone else Absent
plain_reply limit m (Set key value) = with_value Was (map.get m key)

-- the history after a caller's operation
abbrev pub history_with : Option ℕ → List Update → ℕ → Op → List Update
history_with limit history caller op =
    if tells_update (plain_reply limit (map_of history) op) then history ++ record { caller = caller; op = op } ∷ [] else history

-- what a caller is told of an operation, after this history
abbrev pub plain_told : Option ℕ → List Update → Op → Told
plain_told limit history op =
    let reply = plain_reply limit (map_of history) op in
    record { reply = reply; number = if tells_update reply then length history + 1 else 0 }

-- the history after a caller's script, and what the script was told
abbrev pub history_after : Option ℕ → List Update → ℕ → List Op → List Update
history_after limit history caller [] = history
history_after limit history caller (op ∷ ops) = history_after limit (history_with limit history caller op) caller ops

abbrev pub told_after : Option ℕ → List Update → ℕ → List Op → List Told
told_after limit history caller [] = []
told_after limit history caller (op ∷ ops) = plain_told limit history op
    ∷ told_after limit (history_with limit history caller op) caller ops

-- the same of several scripts, where the first of these has this caller
abbrev pub history_after_all : Option ℕ → List Update → ℕ → List (List Op) → List Update
history_after_all limit history caller [] = history
history_after_all limit history caller (script ∷ scripts) =
    history_after_all limit (history_after limit history caller script) (caller + 1) scripts

abbrev pub told_after_all : Option ℕ → List Update → ℕ → List (List Op) → List (List Told)
told_after_all limit history caller [] = []
told_after_all limit history caller (script ∷ scripts) =
    told_after limit history caller script ∷ told_after_all limit (history_after limit history caller script) (caller + 1) scripts

-- the history of scripts run one after another, and what they were told
abbrev pub plain_history : Option ℕ → List (List Op) → List Update
plain_history limit scripts = history_after_all limit [] 0 scripts

abbrev pub plain_tolds : Option ℕ → List (List Op) → List (List Told)
plain_tolds limit scripts = told_after_all limit [] 0 scripts
