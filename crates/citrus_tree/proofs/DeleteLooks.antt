-- A delete that lacks slots and isn't to wait for readers: what it comes to by a lookup.
use Rattle.std.proofs.Common.{◌⊎◌, ◌≡◌, ◌≢◌, ℕ, ◌+◌, ◌<◌, [], length, Option, Some, None, refl, ap, subst, arith}
use Rattle.prcu_model.specs.declared.operation.Told.{Told}
use Rattle.prcu_model.specs.declared.operation.Reply.{Reply}
use Rattle.prcu_model.specs.declared.operation.Reply.TheVariants.{Absent, Gone}
use Rattle.core_state.specs.declared.shape.Shape.{Shape}
use Rattle.core_state.specs.declared.view.View.{View}
use Rattle.seat_table.specs.Seats.{SeatAt}
use Rattle.tree_points.proofs.Locks.{advanced_same}
use Rattle.citrus_tree.specs.declared.delete.Outcome.{Outcome}
use Rattle.citrus_tree.specs.Going.{GivesNoneBack, IsOther, KeepsSeat}
use Rattle.citrus_tree.specs.Lookups.{Looked, told_of}
use Rattle.citrus_tree.specs.Replies.{TellsValue, WasAnswered}
use Rattle.citrus_tree.specs.Deletes.{BeginsOnceReady, DelGaveWay, DelTells, FoundOther, GivesNoneOrAll, HasMadeRoom, IfDiffers, IfTold, IfTwo, KeepsRest, WaitsOnceAtMost}
use Rattle.citrus_tree.proofs.Leavings.{keeps_more, keeps_on, looked_first, none_back_same}
use Rattle.citrus_tree.proofs.DeleteSearches.{answered_before, answered_now, searched_missed}
use Rattle.citrus_tree.proofs.DeleteTries.{absent_dels, del_way, dels, none_or_all, rests_way, tries_first}
use Rattle.citrus_tree.specs.declared.delete.Outcome.TheVariants as outcome

-- what is said of an outcome says what follows

pub told_weaker : (o : Outcome) (P Q : Told → Option ℕ → Type 0) → ((told : Told) (value : Option ℕ) → P told value → Q told value)
    → IfTold o P → IfTold o Q
told_weaker (outcome.Told told value) P Q follows p = follows told value p
told_weaker outcome.TwoChildren P Q follows p = tt
told_weaker (outcome.Differs found) P Q follows p = tt

pub differs_weaker : (o : Outcome) (P Q : ℕ → Type 0) → ((found : ℕ) → P found → Q found) → IfDiffers o P → IfDiffers o Q
differs_weaker (outcome.Told told value) P Q follows p = tt
differs_weaker outcome.TwoChildren P Q follows p = tt
differs_weaker (outcome.Differs found) P Q follows p = follows found p

pub never_two : (o : Outcome) (Q : Type 0) → IfTwo o ⊥ → IfTwo o Q
never_two (outcome.Told told value) Q p = tt
never_two outcome.TwoChildren Q p = absurd p
never_two (outcome.Differs found) Q p = tt

rest_same : (v : View) → KeepsRest v v
rest_same v = record { advanced = advanced_same; waits = record { wait = refl; count = refl }; retired = refl; stay = refl }

-- the seat before the call, where it lacked slots, and behind the lookup
module _ {k : Shape} {s u t : SeatAt} {key : ℕ} {answer : Option ℕ} (room : HasMadeRoom k s.view u.view)
    (at_once : length s.view.hands.retired + 1 < k.room → s.view.hands.spare ≢ None → u.view ≡ s.view)
    (stays : GivesNoneBack s u ⊎ (u.listed ≡ [])) (lacked : KeepsSeat 0 s u) (looks : KeepsSeat 0 u t) (listed : t.listed ≡ u.listed)
    (l : Looked u.view key answer t.view) where
  keeps : KeepsSeat 4 s t
  keeps = keeps_more (omega arith) (keeps_on lacked looks)

  slots : GivesNoneOrAll s t
  slots = none_or_all s u t stays (none_back_same u t (searched_missed l).stay listed) (let same = ap length listed in omega arith)

  begins : BeginsOnceReady k s.view key t.view
  begins = record { ready = u.view; room = room; at_once = at_once; lookup = looked_first l }

  pub looked_gave : DelGaveWay k s key t
  looked_gave = record {
    gave = del_way room key (rests_way (tries_first k key u.view) (searched_missed l) (rest_same t.view));
    begins = begins;
    keeps = keeps;
    slots = slots;
  }

  pub looked_waits : WaitsOnceAtMost k s.view t.view
  looked_waits = record { ready = u.view; room = room; at_once = at_once; waits = (searched_missed l).waits }

  pub looked_tells : answer ≡ None → DelTells k s key (told_of None) t
  looked_tells none = record {
    dels = dels room key t.view (told_of None) (absent_dels (tries_first k key u.view) (searched_missed l)
        (subst (λ (a : Option ℕ). WasAnswered u.view key a t.view) none (answered_now l)));
    begins = begins;
    retires = λ (gone : Absent ≡ Gone). absurd cc;
    keeps = keeps;
    slots = slots;
    informed = l.informed;
  }

  pub looked_other : (expected : Option ℕ) (found : ℕ) → answer ≡ Some found → IsOther expected found
      → FoundOther s.view key expected found t.view
  looked_other expected found is other = (
    answered_before room.advanced (subst (λ (a : Option ℕ). WasAnswered u.view key a t.view) is (answered_now l)),
    other,
    l.informed,
  )

-- none is told where the key was absent
pub tells_none : (v w : View) (key : ℕ) (told : Told) (value : Option ℕ) → told ≡ told_of None → value ≡ None → TellsValue v key told value w
tells_none v w key told None is none = ap (λ (x : Told). x.reply) is
tells_none v w key told (Some value) is none = cc
