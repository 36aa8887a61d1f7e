-- What no step changes of what a caller keeps, and what it changes only where it begins the next operation.
use Rattle.std.proofs.Common.{◌≡◌, ℕ, Bool, true, false, List, [], ◌∷◌, cond, refl, nat_lt, ◌==◌, ◌∙◌, ◌||◌, ◌+◌}
use Rattle.prcu_model.specs.declared.operation.Op.{Op}
use Rattle.core_state.specs.Memory.{idle}
use Rattle.core_points.specs.declared.stage.Aim.{Aim}
use Rattle.core_points.specs.declared.stage.Aim.TheVariants.{Leaf}
use Rattle.core_points.specs.declared.stage.Last.{Last}
use Rattle.core_points.specs.declared.stage.Stage.{Stage}
use Rattle.core_points.specs.declared.stage.Then.{Then}
use Rattle.core_points.specs.declared.stage.Update.{Update}
use Rattle.core_points.specs.declared.stage.Waits.{Waits}
use Rattle.core_points.specs.declared.stage.Waits.TheVariants.{Reuse}
use Rattle.core_points.specs.Programs.{Own, after, begun_with, but_first, excused, is_none_left, is_reader, is_some, left_section, none_free, past_lock, past_store, unlocked, wait_over}
use Rattle.core_points.specs.declared.stage.Last.TheVariants as last
use Rattle.core_points.specs.declared.stage.Then.TheVariants as then
use Rattle.core_points.specs.declared.stage.Update.TheVariants as update
use Rattle.core_points.specs.declared.stage.Stage.TheVariants as at

-- the table and the place of a caller, and the tickets that are none of its operations'
pub record OfTable : Type 0 where
  pub place : ℕ
  pub places : ℕ
  pub slots : ℕ
  pub room : ℕ
  pub kept : ℕ

abbrev pub of_table : Own → OfTable
of_table o = record { place = o.place; places = o.places; slots = o.slots; room = o.room; kept = o.kept }

-- with its operation and those after it
pub record OfCall : Type 0 where
  pub table : OfTable
  pub op : Op
  pub rest : List Op

abbrev pub of_call : Own → OfCall
of_call o = record { table = of_table o; op = o.op; rest = o.rest }

-- The table is the same; and the call, where no operation follows.
record IsKept (c c' : OfCall) : Type 0 where
  table : c'.table ≡ c.table
  call : c.rest ≡ [] → c' ≡ c

abbrev KeepsCall : Own → Own → Type 0
KeepsCall o o' = IsKept (of_call o) (of_call o')

unchanged : {c : OfCall} → IsKept c c
unchanged = record { table = refl; call = λ none. refl }

either : (o x y : Own) (b : Bool) → KeepsCall o x → KeepsCall o y → KeepsCall o (cond b x y)
either o x y true p q = p
either o x y false p q = q

begun : (o : Own) (ops : List Op) → ops ≡ o.rest → KeepsCall o (begun_with o ops)
begun o [] is = record { table = refl; call = λ none i. record { table = of_table o; op = o.op; rest = is i } }
begun o (op ∷ ops) is = record { table = refl; call = λ none. absurd (let e : op ∷ ops ≡ [] = is ∙ none in cc) }

answered : (o : Own) → KeepsCall o (begun_with o o.rest)
answered o = begun o o.rest refl

section_left : (o : Own) (next : Then) → KeepsCall o (left_section o next)
section_left o then.Absent = answered (record o { told = _ })
section_left o (then.Value value) = answered (record o { told = _ })
section_left o then.Old = either o _ _ (is_some o.hand) unchanged (answered (record o { told = _ }))
section_left o _ = unchanged

none_found : (o : Own) (aim : Aim) → KeepsCall o (none_free o aim)
none_found o (Leaf spot) = either o _ _ (is_none_left o.retired) (answered (record o { told = _ })) unchanged
none_found o _ = unchanged

waited : (o : Own) (waits : Waits) → KeepsCall o (wait_over o waits)
waited o (Reuse aim) = unchanged
waited o _ = unchanged

place_excused : (o : Own) (waits : Waits) (clock p : ℕ) → KeepsCall o (excused o waits clock p)
place_excused o waits clock p = either o _ _ (p + 1 == o.places) (waited o waits) unchanged

tried : (o : Own) (s n : ℕ) (next : Stage) → KeepsCall o (past_lock o s n next)
tried o s n next = either o _ _ (n == 0) unchanged unchanged

stored : (o : Own) (u : Update) → KeepsCall o (past_store o u)
stored o (update.Leaf spot) = unchanged
stored o _ = unchanged

all_unlocked : (o : Own) (l : Last) → KeepsCall o (unlocked o l)
all_unlocked o last.Again = unchanged
all_unlocked o _ = answered (record o { told = _ })

stays : (o : Own) (n : ℕ) (stage : Stage) → KeepsCall o (after o n stage)
stays o n (at.Leave next) = section_left o next
stays o n (at.LeafLock spot) = tried o _ n _
stays o n (at.SetLock s generation) = tried o _ n _
stays o n (at.TargetLock t i) = tried o _ n _
stays o n (at.CopyLock d u next_key) = tried o _ n _
stays o n (at.Reserve aim expected) = either o _ _ (n == expected) unchanged
    (either o _ _ (n == 0) (none_found (record o { free = 0 }) aim) unchanged)
stays o n (at.Seize aim) = either o _ _ (n == 0) unchanged unchanged
stays o n at.Count = answered (record o { free = n + 1; told = _ })
stays o n (at.LookKey waits clock p) = either o _ _ (is_reader o waits n) unchanged (place_excused o waits clock p)
stays o n (at.LookStamp waits clock p key) = either o _ _ ((n == idle) || nat_lt clock n) (place_excused o waits clock p) unchanged
stays o n (at.OldRaise aim life) = either o _ _ (is_some o.spare) unchanged unchanged
stays o n (at.Commit u expected) = either o _ _ (n == expected) unchanged unchanged
stays o n (at.Store u front) = stored o u
stays o n (at.Unlock l) = either o _ _ (is_none_left (but_first o.locks)) (all_unlocked (record o { locks = but_first o.locks }) l)
    unchanged
stays o n _ = unchanged

-- No step changes the table of a caller.
pub keeps_table : (o : Own) (n : ℕ) (stage : Stage) → of_table (after o n stage) ≡ of_table o
keeps_table o n stage = (stays o n stage).table

-- Where no operation follows, no step changes its call.
pub keeps_call : (o : Own) (n : ℕ) (stage : Stage) → o.rest ≡ [] → of_call (after o n stage) ≡ of_call o
keeps_call o n stage none = (stays o n stage).call none
