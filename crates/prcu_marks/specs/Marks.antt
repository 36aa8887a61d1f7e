-- What a list of marks says; and of words that callers share what a step does to one, and how large numbers may be.
-- Source: docs/ACCOUNTS.md, "Marks".
use Rattle.std.specs.Prelude.{ℕ, ◌+◌, ◌==◌, nat_lt, length, Bool, false, if◌then◌else◌, List, [], ◌∷◌, ◌≡◌, Option, Some, None, ◌-◌, ◌%◌, ◌^◌, ◌<◌, ◌≤◌}
use Rattle.prcu_marks.specs.declared.mark.Mark.{Mark}
use Rattle.prcu_marks.specs.declared.mark.Mark.TheVariants.{Entered, Left, Began, Ended, Done, Given, Unlinked, Freed, Moved}
use Rattle.prcu_model.specs.declared.operation.Update.{Update}
use Rattle.prcu_marks.specs.declared.access.Access.{Access}
use Rattle.prcu_marks.specs.declared.access.Access.TheVariants.{Load, Store, Exchange, Add, Subtract, Flip}
use Rattle.prcu_marks.specs.declared.commit.Commit.{Commit}

-- the updates, in their order
abbrev pub updates_of : List Mark → List Update
updates_of [] = []
updates_of (Done u ∷ ms) = u ∷ updates_of ms
updates_of (_ ∷ ms) = updates_of ms

-- a section that is open: its number at its place, its key, and where in the list it was entered
pub record Open : Type 0 where
  pub count : ℕ
  pub key : ℕ
  pub at : ℕ

abbrev pub next_open : ℕ → ℕ → Option Open → Mark → Option Open
next_open p i open_now (Entered q c x) = if q == p then Some (record { count = c; key = x; at = i }) else open_now
next_open p i open_now (Left q c) = if q == p then None else open_now
next_open p i open_now _ = open_now

abbrev pub open_from : ℕ → ℕ → Option Open → List Mark → Option Open
open_from p i open_now [] = open_now
open_from p i open_now (m ∷ ms) = open_from p (i + 1) (next_open p i open_now m) ms

-- the open section of a place, after these marks
abbrev pub open_at : ℕ → List Mark → Option Open
open_at p h = open_from p 0 None h

abbrev pub next_gone : ℕ → ℕ → Option ℕ → Mark → Option ℕ
next_gone s i gone (Unlinked t) = if t == s then Some i else gone
next_gone s i gone (Given t) = if t == s then None else gone
next_gone s i gone (Freed t) = if t == s then None else gone
next_gone s i gone _ = gone

abbrev pub gone_from : ℕ → ℕ → Option ℕ → List Mark → Option ℕ
gone_from s i gone [] = gone
gone_from s i gone (m ∷ ms) = gone_from s (i + 1) (next_gone s i gone m) ms

-- where a slot was unlinked, if it was and was neither given nor freed since
abbrev pub gone_at : ℕ → List Mark → Option ℕ
gone_at s h = gone_from s 0 None h

-- a slot that was unlinked and neither given nor freed since
abbrev pub IsGone : List Mark → ℕ → Type 0
IsGone h s = (p : ℕ) × (gone_at s h ≡ Some p)

-- where a slot was unlinked last, whatever came after
abbrev pub unlinked_from : ℕ → ℕ → Option ℕ → List Mark → Option ℕ
unlinked_from s i last [] = last
unlinked_from s i last (Unlinked t ∷ ms) = unlinked_from s (i + 1) (if t == s then Some i else last) ms
unlinked_from s i last (_ ∷ ms) = unlinked_from s (i + 1) last ms

abbrev pub last_unlinked : ℕ → List Mark → Option ℕ
last_unlinked s h = unlinked_from s 0 None h

-- the mark was left by a step at the place
abbrev pub is_of : ℕ → Mark → Bool
is_of p (Entered q c x) = q == p
is_of p (Left q c) = q == p
is_of p (Began q c low high) = q == p
is_of p (Ended q c) = q == p
is_of p (Done u) = u.caller == p
is_of p _ = false

-- the marks that a place left, in their order
abbrev pub own_of : ℕ → List Mark → List Mark
own_of p [] = []
own_of p (m ∷ ms) = if is_of p m then m ∷ own_of p ms else own_of p ms

-- how many sections were entered at a place
abbrev pub entered_at : ℕ → List Mark → ℕ
entered_at p [] = 0
entered_at p (Entered q c x ∷ ms) = (if q == p then 1 else 0) + entered_at p ms
entered_at p (_ ∷ ms) = entered_at p ms

-- how often it was said that the pairs moved elsewhere
abbrev pub moves_in : List Mark → ℕ
moves_in [] = 0
moves_in (Moved ∷ ms) = 1 + moves_in ms
moves_in (_ ∷ ms) = moves_in ms

-- the updates behind the first such mark
abbrev pub updates_behind : List Mark → List Update
updates_behind [] = []
updates_behind (Moved ∷ ms) = updates_of ms
updates_behind (_ ∷ ms) = updates_behind ms

-- the longer of two lists
abbrev pub longer : List Mark → List Mark → List Mark
longer a b = if nat_lt (length a) (length b) then b else a

-- Words that callers share: what a step does to one, the front word during a commit, and how large numbers may be.

-- What a step of any structure does to its word.
-- Source: docs/TREE_INVARIANT.md, "The steps of the tree", and docs/HASH_DICTIONARY.md, "The steps of the hash dictionary".

-- the number that it leaves where it finds one
abbrev pub left_by : Access → ℕ → ℕ
left_by Load n = n
left_by (Store x) n = x
left_by (Exchange old new) n = if n == old then new else n
left_by (Add x) n = n + x
left_by (Subtract x) n = n - x
left_by Flip n = if n % 2 == 0 then n + 1 else n - 1

-- the number that it tells: the one found, or stored where it is a store
abbrev pub said_by : Access → ℕ → ℕ
said_by (Store x) n = x
said_by _ n = n

-- what is added never wraps, and what is subtracted is there
abbrev pub StaysWord : Access → ℕ → Type 0
StaysWord (Add x) n = n + x < 2 ^ 64
StaysWord (Subtract x) n = x ≤ n
StaysWord _ n = Unit {0}

-- The front word while an update is being committed.
-- Source: docs/ACCOUNTS.md, "Marks".

-- twice the number of updates by a commit: two more once its update is made
abbrev pub updates_by : Commit → ℕ
updates_by commit = commit.found + (if commit.stored then 2 else 0)

-- The bounds that tables of concurrent calls share.
-- Source: README.md, "Limits".

-- the greatest key: keys are numbers of 64 bits
abbrev pub greatest_key : ℕ
greatest_key = 18446744073709551615

-- the most tickets of a table, 2^57: no word that a ticket pays for comes near its end, nor does a seat's count of the gates that it turned
abbrev pub most_tickets : ℕ
most_tickets = 144115188075855872

-- the greatest front: two for each update, and one more while an update is being stored
abbrev pub most_front : ℕ
most_front = 288230376151711745

-- the greatest life of a slot: two for each use, and one where the slot is marked
abbrev pub most_life : ℕ
most_life = 288230376151711745

-- the most gates that a seat turns: 64 for each wait
abbrev pub most_turns : ℕ
most_turns = 9223372036854775808
