-- Values that are held while others take them out, by marks and by what calls say.
-- Values that sections hold, by the marks.
-- Source: docs/WAITERS.md, "What is proved".
use Rattle.std.specs.Prelude.{◌≡◌, ◌≢◌, ◌⊎◌, ℕ, ◌+◌, ◌≤◌, List, [], ◌∷◌, ◌++◌, length, Some}
use mathlib.Core.List.{IsPrefix}
use Rattle.prcu_marks.specs.declared.mark.Mark.{Mark}
use Rattle.prcu_marks.specs.declared.mark.Mark.TheVariants.{Entered, Left, Began, Ended, Done}
use Rattle.prcu_marks.specs.Marks.{updates_of, own_of}
use Rattle.prcu_model.specs.declared.operation.Op.{Op}
use Rattle.prcu_model.specs.declared.operation.Op.TheVariants.{Put, Set}
use Rattle.prcu_model.specs.declared.operation.Update.{Update}
use Rattle.prcu_model.specs.Dictionary.{WasSaid, map_of}
use Rattle.key_interval.specs.Keys.{Interval, Holds}
use Rattle.core_state.specs.Marks.{Grace}
use Rattle.prcu_model.specs.declared.operation.Reply.TheVariants.{Gone, Was}
use Rattle.prcu_model.specs.declared.operation.Told.{Told}
use Rattle.core_state.specs.declared.shape.Shape.{Shape}
use Rattle.core_state.specs.declared.view.View.{View}
use Rattle.seat_table.specs.Sections.{HasBegun}
use Rattle.seat_table.specs.Waits.{HasWaited}
use Rattle.citrus_tree.specs.declared.comparing.Compared.TheVariants.{Replaced}
use Rattle.citrus_tree.specs.Replies.{Compares, Dels, Sets}
use Rattle.citrus_tree.specs.Lookups.{IsHolding, Looked}
use Rattle.std.specs.FinMap as finite

-- Among these marks a section was entered with the key, and it found the value: the dictionary gave it at a front since then.
pub record HasFound (until : List Mark) (q c key value : ℕ) : Type 0 where
  pub before : List Mark
  pub enters : IsPrefix (before ++ Entered q c key ∷ []) until
  pub said : WasSaid (updates_of until) key (length (updates_of before)) (Some value)

-- The update with this number was made, and right after it the key hadn't the value.
pub record WasTaken (h : List Mark) (key value number : ℕ) : Type 0 where
  pub before : List Mark
  pub update : Update
  pub stands : IsPrefix (before ++ Done update ∷ []) h
  pub number_is : number ≡ length (updates_of before) + 1
  pub gone : finite.get (map_of (updates_of before ++ update ∷ [])) key ≢ Some value

-- After so many updates a wait of the place for these keys was begun, its wait with this number; and it has ended.
pub record WasWaited (h : List Mark) (updates : ℕ) (keys : Interval) (p n : ℕ) : Type 0 where
  pub before : List Mark
  pub begins : IsPrefix (before ++ Began p n keys.low keys.high ∷ []) h
  pub after : updates ≤ length (updates_of before)
  pub until : List Mark
  pub ends : IsPrefix (until ++ Ended p n ∷ []) h

-- The section was entered, then it was left, and then the wait ended.
pub record LeftFirst (h : List Mark) (q c key p n : ℕ) : Type 0 where
  pub entered : List Mark
  pub left : List Mark
  pub ended : List Mark
  pub enters : IsPrefix (entered ++ Entered q c key ∷ []) left
  pub leaves : IsPrefix (left ++ Left q c ∷ []) ended
  pub ends : IsPrefix (ended ++ Ended p n ∷ []) h

-- the update gives the key this value
abbrev pub Puts : Op → ℕ → ℕ → Type 0
Puts op key value = (op ≡ Put key value) ⊎ (op ≡ Set key value)

-- Among the first so many updates one gave the key this value: the one with this number, or a later one.
pub record WasPut (h : List Mark) (key value number updates : ℕ) : Type 0 where
  pub before : List Mark
  pub update : Update
  pub stands : IsPrefix (before ++ Done update ∷ []) h
  pub later : number ≤ length (updates_of before) + 1
  pub among : length (updates_of before) + 1 ≤ updates
  pub puts : Puts update.op key value

-- Waits outlast the readers that they are for. A section found a value, an update took the value out of the key, and a wait for the key was
-- begun after it and has ended. So the section was left before the wait ended; or it found the value at a front by which a later update had
-- put it back.
abbrev pub HeldIsLeftFirst : Type 0
HeldIsLeftFirst = (h until : List Mark) (q c key value number p n : ℕ) (keys : Interval) → Grace h
    → (found : HasFound until q c key value) → IsPrefix until h → WasTaken h key value number → WasWaited h number keys p n → Holds keys key
    → LeftFirst h q c key p n ⊎ WasPut h key value (number + 1) found.said.front

-- The same where no later update gives the key the value.
abbrev pub TakenIsLeftFirst : Type 0
TakenIsLeftFirst = (h until : List Mark) (q c key value number p n : ℕ) (keys : Interval) → Grace h → HasFound until q c key value
    → IsPrefix until h → WasTaken h key value number → (WasPut h key value (number + 1) (length (updates_of h)) → ⊥)
    → WasWaited h number keys p n → Holds keys key → LeftFirst h q c key p n

-- A value that one caller holds and another takes out, by what their calls say.
-- Source: docs/WAITERS.md, "What is proved".

-- The call from the view d made the update with this number, which took the key's value out, or gave the key another one: a del that was
-- told Gone, as a remove and a take are, a set that was told Was, or a compare that was told Replaced.
pub data TakesOrReplaces (k : Shape) (d : View) (key number : ℕ) (e : View) : Type 0 where
  by_del : (told : Told) → told.number ≡ number → told.reply ≡ Gone → Dels k d key told e → TakesOrReplaces k d key number e
  by_set : (told : Told) (old other : ℕ) → told.number ≡ number → told.reply ≡ Was old → Sets d key other told e
      → TakesOrReplaces k d key number e
  by_compare : (expected other : ℕ) → Compares d key expected other (Replaced number) e → TakesOrReplaces k d key number e

-- The marks are all of the table at some moment: they begin with those by which the hold found its value, and with what the other caller
-- had seen when it was told. A wait for the key, begun after that caller's update, has ended. So the holder's section was left first; or it
-- found the value at a front by which that update or a later one had put it: a set of the same value, or the value was put back.
abbrev pub OutlivesItsHolders : Type 0
OutlivesItsHolders = (k : Shape) (h : List Mark) (v w d e : View) (key value number p n : ℕ) (keys : Interval) → Grace h
    → (held : IsHolding v key value w) → IsPrefix held.marks h → TakesOrReplaces k d key number e → IsPrefix e.seen h
    → WasWaited h number keys p n → Holds keys key
    → LeftFirst h v.allowance.place v.counts.sections key p n ⊎ WasPut h key value number held.said.front

-- The same of a lookup that is over, as a hold is that was released: by what its seat has seen.
abbrev pub OutlivesItsLookups : Type 0
OutlivesItsLookups = (k : Shape) (h : List Mark) (v x d e : View) (key value number p n : ℕ) (keys : Interval) → Grace h
    → (looked : Looked v key (Some value) x) → IsPrefix x.seen h → TakesOrReplaces k d key number e → IsPrefix e.seen h
    → WasWaited h number keys p n → Holds keys key
    → LeftFirst h v.allowance.place v.counts.sections key p n ⊎ WasPut h key value number looked.said.front

-- The holder's place has left no mark since its hold. So where such a wait has ended, the value had been put by the front at which it was
-- found, by that update or a later one.
abbrev pub HoldsBack : Type 0
HoldsBack = (k : Shape) (h : List Mark) (v w d e : View) (key value number p n : ℕ) (keys : Interval) → Grace h
    → (held : IsHolding v key value w) → IsPrefix held.marks h → own_of v.allowance.place h ≡ own_of v.allowance.place w.seen
    → TakesOrReplaces k d key number e → IsPrefix e.seen h → WasWaited h number keys p n → Holds keys key
    → WasPut h key value number held.said.front

-- a wait by one call
abbrev pub WaitsCount : Type 0
WaitsCount = (k : Shape) (h : List Mark) (g f : View) (keys : Interval) (number : ℕ) → (waited : HasWaited k g keys.low keys.high f)
    → number ≤ length (updates_of waited.1.leaves.before) → IsPrefix f.seen h
    → WasWaited h number keys g.allowance.place g.counts.waits

-- a wait that one call begins and a later one finds over
abbrev pub PollsCount : Type 0
PollsCount = (h until : List Mark) (g f : View) (keys : Interval) (number : ℕ) → (begun : HasBegun g keys.low keys.high f)
    → number ≤ length (updates_of begun.leaves.before) → IsPrefix f.seen h
    → IsPrefix (until ++ Ended g.allowance.place g.counts.waits ∷ []) h → WasWaited h number keys g.allowance.place g.counts.waits

-- The waiting seat has seen what the caller had seen when it was told, as it has itself.
abbrev pub OwnWaitsAreLater : Type 0
OwnWaitsAreLater = (k : Shape) (d e g f : View) (key number : ℕ) (keys : Interval) → TakesOrReplaces k d key number e
    → IsPrefix e.seen g.seen → (begun : HasBegun g keys.low keys.high f) → number ≤ length (updates_of begun.leaves.before)
