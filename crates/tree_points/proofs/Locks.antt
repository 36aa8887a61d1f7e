-- What a step leaves alone; and the points at which locks, the slot in hand and the spare are got, filled and given up.
use Rattle.std.proofs.Common.{◌≡◌, ℕ, ◌==◌, cond, Bool, true, false, List, [], map, append_assoc, append-nil, ◌++◌, ◌∷◌, Option, Some, None, refl, sym, ap, subst, ◌∙◌, eq-eqb, ⊎_elim, ◌≢◌, zero, suc, ◌+◌, ◌*◌, ◌≤◌, if◌then◌else◌, length, arith, ne_eqb}
use Rattle.prcu_marks.specs.declared.mark.Mark.{Mark}
use Rattle.prcu_marks.specs.declared.mark.Mark.TheVariants.{Entered, Left as LeftMark, Began, Ended}
use Rattle.prcu_marks.specs.Marks.{own_of}
use Rattle.prcu_marks.proofs.Marks.{own_of-append}
use mathlib.Core.List.{IsPrefix}
use Rattle.prcu_model.proofs.ListFacts.{prefix_trans}
use Rattle.core_state.specs.declared.shape.Shape.{Shape}
use Rattle.core_state.specs.declared.view.Allowance.{Allowance}
use Rattle.core_state.specs.declared.view.HeldLock.{HeldLock}
use Rattle.core_state.specs.declared.view.Known.{Known}
use Rattle.core_state.specs.declared.view.Retired.{Retired}
use Rattle.core_state.specs.declared.view.StepMade.{StepMade}
use Rattle.core_state.specs.declared.view.Trail.{Trail}
use Rattle.core_state.specs.declared.view.View.{View}
use Rattle.core_state.specs.declared.words.Field.{Field}
use Rattle.core_state.specs.Views.{change_lock, note_lock, noting}
use Rattle.core_state.specs.Steps.{spare_slot, new_wait}
use Rattle.core_frames.proofs.Roles.{works_there}
use Rattle.core_points.proofs.Locks.{slots_in, no_locks}
use Rattle.core_points.proofs.Notes.{spare_noted, owns_locked}
use Rattle.seat_table.specs.Gains.{Sees, Told, TellsNow}
use Rattle.seat_table.specs.Sections.{HasBegun, HasEntered, HasLeft, Leaves}
use Rattle.seat_table.specs.Waits.{HasWaited, IsOver}
use Rattle.core_state.specs.declared.view.Waiting.{Waiting}
use Rattle.tree_points.specs.Points.{HasAdvanced, KeepsAllowance, HasLocks, IsAt, IsDone}
use Rattle.core_state.specs.declared.view.Held.{Held}
use Rattle.core_state.specs.declared.act.Act.{Act}
use Rattle.core_state.specs.declared.act.Part.{Part}
use Rattle.core_state.specs.Acts.{after, in_slot, marks_of, noted, Asks}
use Rattle.core_laws.proofs.Acting.{has_seen, stays_at_work}
use Rattle.seat_table.specs.Seats.{IsSlotOf}
use Rattle.list_laws.specs.Counts.{times}
use Rattle.prcu_model.specs.declared.operation.Op.{Op}
use Rattle.core_points.specs.declared.stage.Spot.{Spot}
use Rattle.core_points.specs.declared.stage.Node.{Node}
use Rattle.core_points.specs.declared.stage.Successor.{Successor}
use Rattle.core_points.specs.declared.stage.Target.{Target}
use Rattle.core_points.specs.declared.stage.Last.{Last}
use Rattle.core_points.specs.declared.stage.Stage.{Stage}
use Rattle.core_points.specs.Programs.{Own, go, is_none_left, nothing_found, target_lock, target_locks, answer, begun_with, past_lock, content_part, contents, key_now, or_root, value_in, move_locks, act_at, is_step}
use Rattle.core_points.specs.Fits.{Fits, PointUnlock, plain, owed_last}
use Rattle.tree_points.proofs.Passing.{moves_on, fits_next, goes_to, needs, needs_as, passes, passes_as}
use Rattle.prcu_model.specs.declared.operation.Reply.{Reply}
use Rattle.prcu_model.specs.declared.operation.Reply.TheVariants.{New, Gone, Was}
use Rattle.core_points.specs.DeleteFacts.{all_locks, first_locks, two_children}
use Rattle.core_points.specs.Facts.{SameLocks, one_lock, Unlocking, HandFits}
use Rattle.prcu_marks.specs.declared.mark.Side.TheVariants.{Left, Right}
use Rattle.prcu_model.specs.declared.operation.Op.TheVariants.{Put}
use Rattle.prcu_model.specs.Dictionary.{key_of}
use Rattle.core_points.specs.declared.stage.Moving.{Moving}
use Rattle.core_state.specs.declared.act.Act.TheVariants as acts
use Rattle.core_points.specs.declared.stage.Last.TheVariants as last
use Rattle.core_points.specs.declared.stage.Update.TheVariants as update
use Rattle.core_points.specs.declared.stage.Stage.TheVariants as at

-- What a step leaves alone, whatever the point: the marks of the place, its locks, and its slots.

-- Of the allowance only the tickets changed.
pub allowed : {v w x : View} → w ≡ x → x.allowance ≡ record v.allowance { tickets = x.allowance.tickets } → KeepsAllowance v w
allowed {v} e keeps = record {
  rest = subst (λ (z : View). z.allowance ≡ record v.allowance { tickets = z.allowance.tickets })
      (sym e) keeps;
}

pub allowed_on : {u v w : View} → KeepsAllowance u v → KeepsAllowance v w → KeepsAllowance u w
allowed_on {u} {v} {w} a b = record { rest = b.rest ∙ ap (λ (z : Allowance). record z { tickets = w.allowance.tickets }) a.rest }

-- The trail is longer: by the view after these steps, by the trail after them, and where none was made.
pub further : (v : View) (steps : List StepMade) {w x : View} → w ≡ x → x.trail.steps ≡ v.trail.steps ++ steps
    → IsPrefix v.trail.steps w.trail.steps
further v steps e made = (steps, sym (ap (λ (z : View). z.trail.steps) e ∙ made))

pub further_by : (v w : View) (steps : List StepMade) {t : Trail} → w.trail ≡ t → t.steps ≡ v.trail.steps ++ steps
    → IsPrefix v.trail.steps w.trail.steps
further_by v w steps e made = (steps, sym (ap (λ (z : Trail). z.steps) e ∙ made))

pub no_further : (v w : View) → w.trail.steps ≡ v.trail.steps → IsPrefix v.trail.steps w.trail.steps
no_further v w e = ([], append-nil v.trail.steps ∙ sym e)

place_of : {v w : View} → KeepsAllowance v w → w.allowance.place ≡ v.allowance.place
place_of keeps = ap (λ (z : Allowance). z.place) keeps.rest

-- Marks one after another.
pub advanced_none : {v w : View} → IsPrefix v.trail.steps w.trail.steps → KeepsAllowance v w → w.seen ≡ v.seen → HasAdvanced v w []
advanced_none {v} {w} steps keeps e = record {
  steps = steps;
  same = place_of keeps;
  allowance = keeps;
  begins = ([], append-nil v.seen ∙ sym e);
  own = ap (own_of v.allowance.place) e ∙ sym (append-nil (own_of v.allowance.place v.seen));
}

pub advanced_with : {v w : View} (h ms : List Mark) → IsPrefix v.trail.steps w.trail.steps → Sees v h → KeepsAllowance v w → w.seen ≡ h ++ ms
    → HasAdvanced v w (own_of v.allowance.place ms)
advanced_with {v} {w} h ms steps sees keeps e =
    let more = sees.begins in
    record {
      steps = steps;
      same = place_of keeps;
      allowance = keeps;
      begins = (more.0 ++ ms, sym (append_assoc v.seen more.0 ms) ∙ ap (λ l. l ++ ms) more.1 ∙ sym e);
      own = ap (own_of v.allowance.place) e ∙ own_of-append v.allowance.place h ms
          ∙ ap (λ l. l ++ own_of v.allowance.place ms) (sym (sees.own v.allowance.place (works_there v sees.works)));
    }

-- where a step saw all marks, or left some that are no place's
pub advanced_all : {v w : View} (h : List Mark) → IsPrefix v.trail.steps w.trail.steps → Sees v h → KeepsAllowance v w → w.seen ≡ h
    → HasAdvanced v w []
advanced_all {v} {w} h steps sees keeps e = advanced_with h [] steps sees keeps (e ∙ sym (append-nil h))

pub advanced_on : {u v w : View} {first second : List Mark} → HasAdvanced u v first → HasAdvanced v w second → HasAdvanced u w (first ++ second)
advanced_on {u} {v} {w} {first} {second} m n = record {
  steps = prefix_trans u.trail.steps v.trail.steps w.trail.steps m.steps n.steps;
  same = n.same ∙ m.same;
  allowance = allowed_on m.allowance n.allowance;
  begins = prefix_trans u.seen v.seen w.seen m.begins n.begins;
  own =
      let p : ℕ = u.allowance.place in
      let later : own_of p w.seen ≡ own_of p v.seen ++ second = subst (λ q. own_of q w.seen ≡ own_of q v.seen ++ second) m.same n.own in
      later ∙ ap (λ l. l ++ second) m.own ∙ append_assoc (own_of p u.seen) first second;
}

-- nothing more, first or afterwards
pub advanced_stays : {u v w : View} {first : List Mark} → HasAdvanced u v first → HasAdvanced v w [] → HasAdvanced u w first
advanced_stays {u} {v} {w} {first} m n = subst (HasAdvanced u w) (append-nil first) (advanced_on m n)

pub advanced_same : {v : View} → HasAdvanced v v []
advanced_same {v} = advanced_none (no_further v v refl) (record { rest = refl }) refl

-- by a mark of the waiter's calls
advanced_leaves : {v w : View} (mark : Mark) → IsPrefix v.trail.steps w.trail.steps → KeepsAllowance v w → Leaves v mark w
    → HasAdvanced v w (own_of v.allowance.place (mark ∷ []))
advanced_leaves mark steps keeps leaves = advanced_with leaves.before (mark ∷ []) steps leaves.seen keeps leaves.marked

pub advanced_entered : {v w : View} {key : ℕ} → HasEntered v key w → HasAdvanced v w (Entered v.allowance.place v.counts.sections key ∷ [])
advanced_entered {v} {w} {key} e =
    subst (HasAdvanced v w) (ap (λ z. cond z (Entered v.allowance.place v.counts.sections key ∷ []) [])
    (eq-eqb v.allowance.place v.allowance.place refl))
    (advanced_leaves (Entered v.allowance.place v.counts.sections key) (further_by v w _ e.made.trail refl) (allowed e.others refl) e.leaves)

pub advanced_left : {v w : View} (e : HasLeft v w) → HasAdvanced v w (LeftMark v.allowance.place e.section.count ∷ [])
advanced_left {v} {w} e =
    subst (HasAdvanced v w) (ap (λ z. cond z (LeftMark v.allowance.place e.section.count ∷ []) [])
    (eq-eqb v.allowance.place v.allowance.place refl))
    (advanced_leaves (LeftMark v.allowance.place e.section.count) (further_by v w _ e.made.trail refl) (allowed e.others refl) e.leaves)

pub advanced_begun : {v w : View} {low high : ℕ} → HasBegun v low high w → HasAdvanced v w (Began v.allowance.place v.counts.waits low high ∷ [])
advanced_begun {v} {w} {low} {high} began =
    subst (HasAdvanced v w) (ap (λ z. cond z (Began v.allowance.place v.counts.waits low high ∷ []) [])
    (eq-eqb v.allowance.place v.allowance.place refl))
    (advanced_leaves (Began v.allowance.place v.counts.waits low high) (further_by v w _ began.made refl)
    (allowed began.others refl) began.leaves)

pub advanced_over : {k : Shape} {v w : View} (over : IsOver k v w) → HasAdvanced v w (Ended v.allowance.place over.wait.count ∷ [])
advanced_over {k} {v} {w} over =
    subst (HasAdvanced v w) (ap (λ z. cond z (Ended v.allowance.place over.wait.count ∷ []) [])
    (eq-eqb v.allowance.place v.allowance.place refl))
    (advanced_leaves (Ended v.allowance.place over.wait.count) (further_by v w _ (over.ended).makes refl) (allowed (over.ended).others refl)
    (over.ended).leaves)

pub advanced_waited : {k : Shape} {v w : View} {low high : ℕ} → HasWaited k v low high w
    → HasAdvanced v w (Began v.allowance.place v.counts.waits low high ∷ (Ended v.allowance.place v.counts.waits ∷ []))
advanced_waited {k} {v} {w} {low} {high} (mid, began, over) =
    let place : mid.allowance.place ≡ v.allowance.place = ap (λ (z : View). z.allowance.place) began.others in
    let one : Some over.wait ≡ Some (new_wait v low high began.clock began.leaves.before) = sym over.was ∙ began.wait_is in
    let count : over.wait.count ≡ v.counts.waits = ap (λ (z : Option Waiting). count_of z) one in
    advanced_on
    (subst (HasAdvanced v mid) (ap (λ z. cond z (Began v.allowance.place v.counts.waits low high ∷ []) [])
    (eq-eqb v.allowance.place v.allowance.place refl))
    (advanced_leaves (Began v.allowance.place v.counts.waits low high) (further_by v mid _ began.made refl)
    (allowed began.others refl) began.leaves))
    (subst (λ (z : ℕ × ℕ). HasAdvanced mid w (Ended z.0 z.1 ∷ [])) (λ i. (place i, count i))
    (subst (HasAdvanced mid w) (ap (λ z. cond z (Ended mid.allowance.place over.wait.count ∷ []) [])
    (eq-eqb mid.allowance.place mid.allowance.place refl))
    (advanced_leaves (Ended mid.allowance.place over.wait.count) (further_by mid w _ (over.ended).makes refl) (allowed (over.ended).others refl)
    (over.ended).leaves)))
  where
    count_of : Option Waiting → ℕ
    count_of None = 0
    count_of (Some wait) = wait.count

-- The slots of locks and lists, which notes don't change.
slot_kept : (f : HeldLock → HeldLock) → ((l : HeldLock) → (f l).slot ≡ l.slot) → (l : HeldLock) (z : Bool) → (cond z (f l) l).slot ≡ l.slot
slot_kept f same l true = same l
slot_kept f same l false = refl

pub lock_slots : (s : ℕ) (f : HeldLock → HeldLock) → ((l : HeldLock) → (f l).slot ≡ l.slot) → (ls : List HeldLock)
    → slots_in (change_lock s f ls) ≡ slots_in ls
lock_slots s f same [] = refl
lock_slots s f same (l ∷ ls) = ap (λ x. x ∷ slots_in (change_lock s f ls)) (slot_kept f same l (l.slot == s))
    ∙ ap (λ xs. l.slot ∷ xs) (lock_slots s f same ls)

abbrev pub retired_in : List Retired → List ℕ
retired_in = map (λ (r : Retired). r.slot)

-- The place, its locks, the slot in hand, the spare and the retired slots are the same.
pub record IsSame (v w : View) : Type 0 where
  pub place : w.allowance.place ≡ v.allowance.place
  pub tickets : w.allowance.tickets ≡ v.allowance.tickets
  pub locks : slots_in w.locks ≡ slots_in v.locks
  pub hand : spare_slot w.hands.hand ≡ spare_slot v.hands.hand
  pub spare : spare_slot w.hands.spare ≡ spare_slot v.hands.spare
  pub retired : retired_in w.hands.retired ≡ retired_in v.hands.retired
  pub seen : w.seen ≡ v.seen

pub noting_same : (v : View) (s : ℕ) (field : Field) (n : ℕ) (by_store : Bool) → IsSame v (noting v s field n by_store)
noting_same v s field n by_store =
    let known : Known = record { field = field; number = n; stored = by_store } in
    record {
      place = refl;
      tickets = refl;
      locks = lock_slots s (note_lock known) (λ l. refl) v.locks;
      hand = spare_noted s known v.hands.hand;
      spare = spare_noted s known v.hands.spare;
      retired = refl;
      seen = refl;
    }

-- Which marks of the place a step leaves, and steps that leave its locks and slots alone.

-- A step leaves the marks of its act: of these the place has its own, and it has seen all before them.
pub advanced_by : {k : Shape} {v w : View} {n : ℕ} (a : Act) → Told k v a n w
    → HasAdvanced v w (own_of v.allowance.place (marks_of (noted v a n) a n))
advanced_by {k} {v} {w} {n} a t =
    let made : List Mark = marks_of (noted v a n) a n in
    let keeps = allowed t.goes (stays_at_work (noted v a n) t.marks n a).allowance in
    let seen = ap (λ (z : View). z.seen) t.goes in
    let steps : IsPrefix v.trail.steps w.trail.steps = further v _ t.goes (stays_at_work (noted v a n) t.marks n a).steps in
    ⊎_elim
    (λ (none : (made ≡ []) × ((after (noted v a n) a t.marks n).seen ≡ v.seen)).
    subst (HasAdvanced v w) (sym (ap (own_of v.allowance.place) none.0)) (advanced_none steps keeps (seen ∙ none.1)))
    (λ all. advanced_with t.marks made steps t.sees keeps (seen ∙ all))
    (has_seen (noted v a n) t.marks n a)

-- so none, where the act leaves none of a place
pub stays : {k : Shape} {v w : View} {n : ℕ} (a : Act) → own_of v.allowance.place (marks_of (noted v a n) a n) ≡ [] → Told k v a n w
    → HasAdvanced v w []
stays {k} {v} {w} {n} a none t = subst (HasAdvanced v w) none (advanced_by a t)

-- A load under a lock leaves the place's locks and slots alone.
pub same_locked : {k : Shape} {v w : View} {n slot : ℕ} {p : Part} → Told k v (acts.LockedLoad slot p) n w → IsSame v w
same_locked {v = v} {w = w} {n = n} {slot = slot} {p = p} t =
    let same = noting_same v slot (in_slot slot p) n false in
    subst (IsSame v) (sym t.goes)
    (record { place = refl; tickets = refl; locks = same.locks; hand = same.hand; spare = same.spare; retired = refl; seen = refl })

-- So the same locks are held, and the same slot is in hand.
pub keeps_locks : {v w : View} {slots : List ℕ} → IsSame v w → HasLocks slots v → HasLocks slots w
keeps_locks same has = record { same = λ x. ap (times x) same.locks ∙ has.same x }

pub locks_from : {v w : View} {slots : List ℕ} → slots_in w.locks ≡ slots_in v.locks → HasLocks slots v → HasLocks slots w
locks_from same has = record { same = λ x. ap (times x) same ∙ has.same x }

slot_still : (held new : Option Held) (slot : Option ℕ) → spare_slot new ≡ spare_slot held → IsSlotOf slot held → IsSlotOf slot new
slot_still None None slot e is = is
slot_still None (Some new) slot e is = cc
slot_still (Some held) None slot e is = cc
slot_still (Some held) (Some new) None e is = is
slot_still (Some held) (Some new) (Some s) e is = is ∙ (let q : held.slot ≡ new.slot = cc in q)

pub keeps_hand : {v w : View} (slot : Option ℕ) → IsSame v w → IsSlotOf slot v.hands.hand → IsSlotOf slot w.hands.hand
keeps_hand {v} {w} slot same is = slot_still v.hands.hand w.hands.hand slot same.hand is

-- The points at which locks are got and given up, and which locks are held.

holds_one : (v : View) (s : ℕ) (known : List Known) → v.locks ≡ one_lock s known → HasLocks (s ∷ []) v
holds_one v s known e = record { same = λ x. ap (λ (ls : List HeldLock). times x (slots_in ls)) e }

pub locks_leaf_tag : {k : Shape} {op : Op} {kept life link : ℕ} {v : View} {spot : Spot} → IsAt k op kept (at.LeafTag spot life link) v
    → HasLocks (spot.slot ∷ []) v
locks_leaf_tag {v = v} {spot = spot} a = holds_one v spot.slot _ (((a.fits).point).bare).locks_are

pub locks_store_leaf : {k : Shape} {op : Op} {kept front : ℕ} {v : View} {spot : Spot}
    → IsAt k op kept (at.Store (update.Leaf spot) front) v → HasLocks (spot.slot ∷ []) v
locks_store_leaf {v = v} {spot = spot} a = holds_one v spot.slot _ (((a.fits).point).bare).locks_are

pub locks_set_check : {k : Shape} {op : Op} {kept s generation : ℕ} {v : View} → IsAt k op kept (at.SetCheck s generation) v
    → HasLocks (s ∷ []) v
locks_set_check {s = s} {v = v} a = holds_one v s _ ((a.fits).point).locks_are

pub locks_store_value : {k : Shape} {op : Op} {kept front s old : ℕ} {v : View} → IsAt k op kept (at.Store (update.Value s old) front) v
    → HasLocks (s ∷ []) v
locks_store_value {s = s} {v = v} a = holds_one v s _ (((a.fits).point).1).locks_are

-- those of a delete are the first of its target's, the latest first
pub locks_target_lock : {k : Shape} {op : Op} {kept i : ℕ} {v : View} {t : Target} → IsAt k op kept (at.TargetLock t i) v
    → HasLocks (first_locks t i) v
locks_target_lock {v = v} a = record { same = subst (λ xs. SameLocks xs v.locks) ((a.fits).point).locks_are ((a.fits).owns).locks_are }

pub locks_copy_lock : {k : Shape} {op : Op} {kept next_key : ℕ} {v : View} {d : Node} {u : Successor}
    → IsAt k op kept (at.CopyLock d u next_key) v → HasLocks (all_locks d u) v
locks_copy_lock {v = v} a = record { same = subst (λ xs. SameLocks xs v.locks) (((a.fits).point).0).locks_are ((a.fits).owns).locks_are }

-- A lock that was found free, or not.
pub lock_free : (o : Own) (s n : ℕ) (next : Stage) → n ≡ 0 → past_lock o s n next ≡ go (record o { locks = s ∷ o.locks }) next
lock_free o s n next e = ap (λ z. cond z (go (record o { locks = s ∷ o.locks }) next)
    (go o (if is_none_left o.locks then at.EnterClock else at.Unlock last.Again))) (eq-eqb n 0 e)

pub lock_busy : (o : Own) (s n : ℕ) (next : Stage) → n ≢ 0
    → past_lock o s n next ≡ go o (if is_none_left o.locks then at.EnterClock else at.Unlock last.Again)
lock_busy o s n next ne = ap (λ z. cond z (go (record o { locks = s ∷ o.locks }) next)
    (go o (if is_none_left o.locks then at.EnterClock else at.Unlock last.Again))) (ne_eqb n 0 ne)

busy_stage : (o : Own) (s n : ℕ) (next : Stage) (z : Bool) → n ≢ 0 → is_none_left o.locks ≡ z
    → (past_lock o s n next).stage ≡ (if z then at.EnterClock else at.Unlock last.Again)
busy_stage o s n next z ne e = ap (λ (x : Own). x.stage) (lock_busy o s n next ne) ∙ ap (λ b. cond b at.EnterClock (at.Unlock last.Again)) e

pub passes_leaf_lock_free : {k : Shape} {op : Op} {kept n : ℕ} {v w : View} {spot : Spot} → n ≡ 0 → IsAt k op kept (at.LeafLock spot) v
    → Told k v (acts.Lock spot.slot) n w → IsAt k op kept (at.LeafLife spot) w
passes_leaf_lock_free {n = n} {spot = spot} free a t =
    passes_as a refl refl (ap (λ (x : Own). x.stage) (lock_free a.own spot.slot n (at.LeafLife spot) free)) t

pub passes_leaf_lock_busy : {k : Shape} {op : Op} {kept n : ℕ} {v w : View} {spot : Spot} → n ≢ 0 → IsAt k op kept (at.LeafLock spot) v
    → Told k v (acts.Lock spot.slot) n w → IsAt k op kept at.EnterClock w
passes_leaf_lock_busy {n = n} {v = v} {spot = spot} busy a t =
    passes_as a refl refl (busy_stage a.own spot.slot n (at.LeafLife spot) true busy (ap is_none_left (no_locks a.own v (a.fits).owns (((a.fits).point).bare).locks_are))) t

pub passes_set_lock_free : {k : Shape} {op : Op} {kept n : ℕ} {v w : View} {s generation : ℕ} → n ≡ 0
    → IsAt k op kept (at.SetLock s generation) v → Told k v (acts.Lock s) n w → IsAt k op kept (at.SetCheck s generation) w
passes_set_lock_free {n = n} {s = s} {generation = generation} free a t =
    passes_as a refl refl (ap (λ (x : Own). x.stage) (lock_free a.own s n (at.SetCheck s generation) free)) t

pub passes_set_lock_busy : {k : Shape} {op : Op} {kept n : ℕ} {v w : View} {s generation : ℕ} → n ≢ 0
    → IsAt k op kept (at.SetLock s generation) v → Told k v (acts.Lock s) n w → IsAt k op kept at.EnterClock w
passes_set_lock_busy {n = n} {v = v} {s = s} {generation = generation} busy a t =
    passes_as a refl refl (busy_stage a.own s n (at.SetCheck s generation) true busy (ap is_none_left (no_locks a.own v a.fits.owns a.fits.point.locks_are))) t

-- the locks of a delete
pub passes_target_lock_free : {k : Shape} {op : Op} {kept n i : ℕ} {v w : View} {t : Target} → n ≡ 0 → IsAt k op kept (at.TargetLock t i) v
    → Told k v (acts.Lock (target_lock t i)) n w
    → IsAt k op kept (if i + 1 == target_locks t then at.TargetLoad t 0 nothing_found else at.TargetLock t (i + 1)) w
passes_target_lock_free {n = n} {i = i} {t = target} free a t =
    let next : Stage = if i + 1 == target_locks target then at.TargetLoad target 0 nothing_found else at.TargetLock target (i + 1) in
    passes_as a refl refl
    (ap (λ (x : Own). x.stage) (lock_free a.own (target_lock target i) n next free)) t

pub passes_target_lock_first : {k : Shape} {op : Op} {kept n : ℕ} {v w : View} {t : Target} → n ≢ 0 → IsAt k op kept (at.TargetLock t 0) v
    → Told k v (acts.Lock (target_lock t 0)) n w → IsAt k op kept at.EnterClock w
passes_target_lock_first {n = n} {t = target} busy a t =
    let next : Stage = if 0 + 1 == target_locks target then at.TargetLoad target 0 nothing_found else at.TargetLock target (0 + 1) in
    passes_as a refl refl
    (busy_stage a.own (target_lock target 0) n next true busy (ap is_none_left ((a.fits).point).locks_are)) t

pub passes_target_lock_busy : {k : Shape} {op : Op} {kept n : ℕ} {v w : View} {t : Target} (i : ℕ) → 1 ≤ i → n ≢ 0
    → IsAt k op kept (at.TargetLock t i) v → Told k v (acts.Lock (target_lock t i)) n w → IsAt k op kept (at.Unlock last.Again) w
passes_target_lock_busy {n = n} {t = target} i some busy a t =
    let next : Stage = if i + 1 == target_locks target then at.TargetLoad target 0 nothing_found else at.TargetLock target (i + 1) in
    passes_as a refl refl
    (busy_stage a.own (target_lock target i) n next false busy (ap is_none_left ((a.fits).point).locks_are ∙ more i some)) t
  where
    more : (i : ℕ) → 1 ≤ i → is_none_left (first_locks target i) ≡ false
    more zero some = absurd (omega arith)
    more (suc i) some = refl

-- Giving up a lock: any one that is held, the others stay.
relocked_fits : (o : Own) (v : View) (l : Last) (s : ℕ) (rest : List ℕ) → SameLocks (s ∷ rest) v.locks → Fits o (at.Unlock l) v
    → Fits (record o { locks = s ∷ rest }) (at.Unlock l) v
relocked_fits o v l s rest has f = record {
  owns = owns_locked o v f.owns (s ∷ rest) v.locks has;
  tickets = paid l f;
  unraised = f.unraised;
  point = point l f;
}
  where
    paid : (l : Last) → Fits o (at.Unlock l) v → owed_last (record o { locks = s ∷ rest }) l + 4 * length o.rest + o.kept
        ≤ v.allowance.tickets
    paid last.Again f = f.tickets
    paid (last.New number) f = f.tickets
    paid (last.Gone number) f = f.tickets
    paid (last.Was value number) f = f.tickets

    still : Unlocking o v → Unlocking (record o { locks = s ∷ rest }) v
    still u = record {
      outside = u.outside;
      no_turn = u.no_turn;
      settled = u.settled;
      unreserved = u.unreserved;
      paid = u.paid;
      clear = u.clear;
      some = refl;
    }

    point : (l : Last) → Fits o (at.Unlock l) v → PointUnlock (record o { locks = s ∷ rest }) (plain v) l
    point last.Again f = (still (f.point).0, (f.point).1, (f.point).2)
    point (last.New number) f = (still (f.point).0, (f.point).1, (f.point).2, (f.point).3)
    point (last.Gone number) f = (still (f.point).0, (f.point).1, (f.point).2, (f.point).3)
    point (last.Was value number) f = (still (f.point).0, (f.point).1, (f.point).2, (f.point).3)

abbrev relocked : {k : Shape} {op : Op} {kept : ℕ} {v : View} {l : Last} (s : ℕ) (rest : List ℕ) → HasLocks (s ∷ rest) v
    → IsAt k op kept (at.Unlock l) v → IsAt k op kept (at.Unlock l) v
relocked {v = v} {l = l} s rest has a = moves_on a (record a.own { locks = s ∷ rest }) refl (relocked_fits a.own v l s rest has.same a.fits)

pub needs_unlock : {k : Shape} {op : Op} {kept : ℕ} {v : View} {l : Last} {s : ℕ} {rest : List ℕ} → HasLocks (s ∷ rest) v
    → IsAt k op kept (at.Unlock l) v → TellsNow k v → Asks k v (acts.Unlock s)
needs_unlock {s = s} {rest = rest} has a now = needs (relocked s rest has a) refl now

pub passes_unlock : {k : Shape} {op : Op} {kept n : ℕ} {v w : View} {l : Last} {s next : ℕ} {rest : List ℕ} → HasLocks (s ∷ next ∷ rest) v
    → IsAt k op kept (at.Unlock l) v → Told k v (acts.Unlock s) n w
    → IsAt k op kept (at.Unlock l) w × HasLocks (next ∷ rest) w
passes_unlock {k} {op} {kept} {n} {v} {w} {l} {s} {next} {rest} has a t =
    let b = relocked s (next ∷ rest) has a in
    let f = fits_next b refl t in
    (goes_to b n f, record { same = (f.owns).locks_are })

pub passes_unlock_again : {k : Shape} {op : Op} {kept n : ℕ} {v w : View} {s : ℕ} → HasLocks (s ∷ []) v
    → IsAt k op kept (at.Unlock last.Again) v → Told k v (acts.Unlock s) n w → IsAt k op kept at.EnterClock w
passes_unlock_again {s = s} has a t = passes (relocked s [] has a) refl t

pub done_stage : (o : Own) (reply : Reply) (number : ℕ) → o.rest ≡ [] → (answer o reply number).stage ≡ at.Finished
done_stage o reply number e = ap (λ ops. (begun_with
    (record o { told = o.told ++ record { reply = reply; number = number } ∷ [] }) ops).stage) e

pub passes_unlock_new : {k : Shape} {op : Op} {kept n number : ℕ} {v w : View} {s : ℕ} → HasLocks (s ∷ []) v
    → IsAt k op kept (at.Unlock (last.New number)) v → Told k v (acts.Unlock s) n w → IsDone k op kept w
passes_unlock_new {number = number} {s = s} has a t =
    passes_as (relocked s [] has a) refl refl (done_stage (record a.own { locks = [] }) New number a.last) t

pub passes_unlock_gone : {k : Shape} {op : Op} {kept n number : ℕ} {v w : View} {s : ℕ} → HasLocks (s ∷ []) v
    → IsAt k op kept (at.Unlock (last.Gone number)) v → Told k v (acts.Unlock s) n w → IsDone k op kept w
passes_unlock_gone {number = number} {s = s} has a t =
    passes_as (relocked s [] has a) refl refl (done_stage (record a.own { locks = [] }) Gone number a.last) t

pub passes_unlock_was : {k : Shape} {op : Op} {kept n value number : ℕ} {v w : View} {s : ℕ} → HasLocks (s ∷ []) v
    → IsAt k op kept (at.Unlock (last.Was value number)) v → Told k v (acts.Unlock s) n w → IsDone k op kept w
passes_unlock_was {value = value} {number = number} {s = s} has a t =
    passes_as (relocked s [] has a) refl refl (done_stage (record a.own { locks = [] }) (Was value) number a.last) t

-- The points of the slot in hand and of the spare.

pub slot_of : (held : Option Held) (slot : ℕ) → IsSlotOf (Some slot) held → spare_slot held ≡ Some slot
slot_of None slot is = absurd is
slot_of (Some held) slot is = ap Some (sym is)

pub slot_in_hand : (hand : Option ℕ) (life key value : ℕ) (held : Option Held) → HandFits hand life key value held → spare_slot held ≡ hand
slot_in_hand None life key value held fits = ap spare_slot fits
slot_in_hand (Some s) life key value held fits = ap spare_slot fits.1 ∙ ap Some (fits.2).slot_is

-- A leaf is filled.
leaf_hand : {k : Shape} {op : Op} {kept i leaf : ℕ} {v : View} {spot : Spot} (a : IsAt k op kept (at.LeafField spot i) v)
    → IsSlotOf (Some leaf) v.hands.hand → a.own.hand ≡ Some leaf
leaf_hand {leaf = leaf} {v = v} a is = let p = (a.fits).point in p.taken ∙ sym (ap spare_slot p.in_hand) ∙ slot_of v.hands.hand leaf is

leaf_case : {k : Shape} {kept leaf key value : ℕ} {v : View} {spot : Spot} (i : ℕ) (a : IsAt k (Put key value) kept (at.LeafField spot i) v)
    → IsSlotOf (Some leaf) v.hands.hand
    → act_at a.own (at.LeafField spot i) ≡ acts.Fill leaf (content_part i) (contents key value 0 0 i)
leaf_case {leaf = leaf} i a is =
    ap (λ x. acts.Fill (or_root x) (content_part i) (contents (key_now a.own) (value_in a.own.op) 0 0 i)) (leaf_hand a is)
    ∙ ap (λ (x : Op). acts.Fill leaf (content_part i) (contents (key_of x) (value_in x) 0 0 i)) a.op_is

pub needs_leaf : {k : Shape} {kept leaf key value : ℕ} {v : View} {spot : Spot} (i : ℕ) → IsSlotOf (Some leaf) v.hands.hand
    → IsAt k (Put key value) kept (at.LeafField spot i) v → TellsNow k v
    → Asks k v (acts.Fill leaf (content_part i) (contents key value 0 0 i))
needs_leaf i is a now = needs_as a refl (leaf_case i a is) now

pub passes_leaf : {k : Shape} {kept n leaf key value : ℕ} {v w : View} {spot : Spot} (i : ℕ) → IsSlotOf (Some leaf) v.hands.hand
    → IsAt k (Put key value) kept (at.LeafField spot i) v
    → Told k v (acts.Fill leaf (content_part i) (contents key value 0 0 i)) n w
    → IsAt k (Put key value) kept (if i == 3 then at.LeafLock spot else at.LeafField spot (i + 1)) w
passes_leaf i is a t = passes_as a refl (leaf_case i a is) refl t

-- The place's locks and slots stay as they are.
pub same_fill : {k : Shape} {v w : View} {n slot number : ℕ} {p : Part} → Told k v (acts.Fill slot p number) n w → IsSame v w
same_fill {v = v} {slot = slot} {number = number} {p = p} t =
    let same = noting_same v slot (in_slot slot p) number true in
    subst (IsSame v) (sym t.goes)
    (record { place = refl; tickets = refl; locks = same.locks; hand = same.hand; spare = same.spare; retired = refl; seen = refl })

-- The spare gets the fields of a copy.
pub own_spare : {k : Shape} {op : Op} {kept copy : ℕ} {v : View} {stage : Stage} (a : IsAt k op kept stage v)
    → IsSlotOf (Some copy) v.hands.spare → a.own.spare ≡ Some copy
own_spare {copy = copy} {v = v} a is = sym ((a.fits).owns).spare_is ∙ slot_of v.hands.spare copy is

copy_case : {k : Shape} {op : Op} {kept copy next_key value : ℕ} {v : View} {d : Node} {u : Successor} (i : ℕ)
    (a : IsAt k op kept (at.CopyField d u next_key value i) v) → IsSlotOf (Some copy) v.hands.spare
    → act_at a.own (at.CopyField d u next_key value i) ≡ acts.Fill copy (content_part i) (contents next_key value d.left d.right i)
copy_case {next_key = next_key} {value = value} {d = d} i a is =
    ap (λ x. acts.Fill (or_root x) (content_part i) (contents next_key value d.left d.right i)) (own_spare a is)

pub needs_copy : {k : Shape} {op : Op} {kept copy next_key value : ℕ} {v : View} {d : Node} {u : Successor} (i : ℕ)
    → IsSlotOf (Some copy) v.hands.spare → IsAt k op kept (at.CopyField d u next_key value i) v → TellsNow k v
    → Asks k v (acts.Fill copy (content_part i) (contents next_key value d.left d.right i))
needs_copy i is a now = needs_as a refl (copy_case i a is) now

pub passes_copy : {k : Shape} {op : Op} {kept n copy next_key value : ℕ} {v w : View} {d : Node} {u : Successor} (i : ℕ)
    → IsSlotOf (Some copy) v.hands.spare → IsAt k op kept (at.CopyField d u next_key value i) v
    → Told k v (acts.Fill copy (content_part i) (contents next_key value d.left d.right i)) n w
    → IsAt k op kept (if i == 3 then at.CopyAge d u next_key else at.CopyField d u next_key value (i + 1)) w
passes_copy i is a t = passes_as a refl (copy_case i a is) refl t

pub needs_copy_age : {k : Shape} {op : Op} {kept copy next_key : ℕ} {v : View} {d : Node} {u : Successor}
    → IsSlotOf (Some copy) v.hands.spare → IsAt k op kept (at.CopyAge d u next_key) v → TellsNow k v → Asks k v (acts.LoadOwnLife copy)
needs_copy_age is a now = needs_as a refl (ap (λ x. acts.LoadOwnLife (or_root x)) (own_spare a is)) now

pub passes_copy_age : {k : Shape} {op : Op} {kept n copy next_key : ℕ} {v w : View} {d : Node} {u : Successor}
    → IsSlotOf (Some copy) v.hands.spare → IsAt k op kept (at.CopyAge d u next_key) v → Told k v (acts.LoadOwnLife copy) n w
    → IsAt k op kept (at.CopyLock d u next_key) w
passes_copy_age is a t = passes_as a refl (ap (λ x. acts.LoadOwnLife (or_root x)) (own_spare a is)) refl t

pub needs_copy_lock : {k : Shape} {op : Op} {kept copy next_key : ℕ} {v : View} {d : Node} {u : Successor}
    → IsSlotOf (Some copy) v.hands.spare → IsAt k op kept (at.CopyLock d u next_key) v → TellsNow k v → Asks k v (acts.Lock copy)
needs_copy_lock is a now = needs_as a refl (ap (λ x. acts.Lock (or_root x)) (own_spare a is)) now

pub passes_copy_lock_free : {k : Shape} {op : Op} {kept n copy next_key : ℕ} {v w : View} {d : Node} {u : Successor} → n ≡ 0
    → IsSlotOf (Some copy) v.hands.spare → IsAt k op kept (at.CopyLock d u next_key) v → Told k v (acts.Lock copy) n w
    → IsAt k op kept (at.CopyMark d u next_key) w
passes_copy_lock_free {n = n} {next_key = next_key} {d = d} {u = u} free is a t =
    passes_as a refl (ap (λ x. acts.Lock (or_root x)) (own_spare a is)) (ap (λ (x : Own). x.stage) (lock_free a.own (or_root a.own.spare) n (at.CopyMark d u next_key) free)) t

pub passes_copy_lock_busy : {k : Shape} {op : Op} {kept n copy next_key : ℕ} {v w : View} {d : Node} {u : Successor} → n ≢ 0
    → IsSlotOf (Some copy) v.hands.spare → IsAt k op kept (at.CopyLock d u next_key) v → Told k v (acts.Lock copy) n w
    → IsAt k op kept (at.Unlock last.Again) w
passes_copy_lock_busy {n = n} {next_key = next_key} {d = d} {u = u} busy is a t =
    passes_as a refl (ap (λ x. acts.Lock (or_root x)) (own_spare a is)) (ap (λ (x : Own). x.stage) (lock_busy a.own (or_root a.own.spare) n (at.CopyMark d u next_key) busy) ∙ ap (λ b. cond b at.EnterClock (at.Unlock last.Again)) (ap is_none_left a.fits.point.0.locks_are ∙ some_left (u.parent == d.node))) t
  where
    some_left : (z : Bool) → is_none_left (first_locks (two_children d u) (cond z 3 4)) ≡ false
    some_left true = refl
    some_left false = refl

-- The old successor is unlinked from the copy, or from its parent.
unlink_copy_case : (o : Own) (m : Moving) (child : ℕ) → (m.successor.parent == m.node.node) ≡ true
    → act_at o (at.Unlink m child) ≡ acts.UnlinkRight m.copy m.successor.slot child
unlink_copy_case o m child e = ap (λ z. cond z (acts.UnlinkRight m.copy m.successor.slot child)
    (acts.UnlinkLeft m.successor.parent m.successor.slot child)) e

unlink_parent_case : (o : Own) (m : Moving) (child : ℕ) → (m.successor.parent == m.node.node) ≡ false
    → act_at o (at.Unlink m child) ≡ acts.UnlinkLeft m.successor.parent m.successor.slot child
unlink_parent_case o m child e = ap (λ z. cond z (acts.UnlinkRight m.copy m.successor.slot child)
    (acts.UnlinkLeft m.successor.parent m.successor.slot child)) e

unlink_step : (o : Own) (m : Moving) (child : ℕ) → is_step (act_at o (at.Unlink m child)) ≡ true
unlink_step o m child = by (m.successor.parent == m.node.node)
  where
    by : (z : Bool) → is_step (cond z (acts.UnlinkRight m.copy m.successor.slot child)
        (acts.UnlinkLeft m.successor.parent m.successor.slot child)) ≡ true
    by true = refl
    by false = refl

pub needs_unlink_copy : {k : Shape} {op : Op} {kept child : ℕ} {v : View} {m : Moving} → (m.successor.parent == m.node.node) ≡ true
    → IsAt k op kept (at.Unlink m child) v → TellsNow k v → Asks k v (acts.UnlinkRight m.copy m.successor.slot child)
needs_unlink_copy {child = child} {m = m} e a now = needs_as a (unlink_step a.own m child) (unlink_copy_case a.own m child e) now

pub needs_unlink_parent : {k : Shape} {op : Op} {kept child : ℕ} {v : View} {m : Moving} → (m.successor.parent == m.node.node) ≡ false
    → IsAt k op kept (at.Unlink m child) v → TellsNow k v → Asks k v (acts.UnlinkLeft m.successor.parent m.successor.slot child)
needs_unlink_parent {child = child} {m = m} e a now = needs_as a (unlink_step a.own m child) (unlink_parent_case a.own m child e) now

-- Afterwards it holds the same locks; where the link is empty now, its tag is to be raised.
abbrev unlink_next : Moving → ℕ → Stage
unlink_next m child =
    if child == 0 then
    (if m.successor.parent == m.node.node then at.EmptyTag m.number m.copy Right else at.EmptyTag m.number m.successor.parent
    Left) else at.Unlock (last.Gone m.number)

unlinked : {k : Shape} {op : Op} {kept n child : ℕ} {v w : View} {m : Moving} → IsAt k op kept (at.Unlink m child) v → (c : Act)
    → ((o : Own) → act_at o (at.Unlink m child) ≡ c) → Told k v c n w → IsAt k op kept (unlink_next m child) w × HasLocks (move_locks m) w
unlinked {k} {op} {kept} {n} {child} {v} {w} {m} a c e t =
    let f = fits_next a (unlink_step a.own m child) (subst (λ x. Told k v x n w) (sym (e a.own)) t) in
    (goes_to a n f, record { same = (f.owns).locks_are })

pub passes_unlink_copy : {k : Shape} {op : Op} {kept n child : ℕ} {v w : View} {m : Moving} → (m.successor.parent == m.node.node) ≡ true
    → IsAt k op kept (at.Unlink m child) v → Told k v (acts.UnlinkRight m.copy m.successor.slot child) n w
    → IsAt k op kept (if child == 0 then at.EmptyTag m.number m.copy Right else at.Unlock (last.Gone m.number)) w
    × HasLocks (move_locks m) w
passes_unlink_copy {k} {op} {kept} {n} {child} {v} {w} {m} e a t =
    let r = unlinked a (acts.UnlinkRight m.copy m.successor.slot child) (λ o. unlink_copy_case o m child e) t in (
      subst (λ z. IsAt k op kept (if child == 0 then
          (if z then at.EmptyTag m.number m.copy Right else at.EmptyTag m.number m.successor.parent Left) else at.Unlock
          (last.Gone m.number)) w) e r.0,
      r.1,
    )

pub passes_unlink_parent : {k : Shape} {op : Op} {kept n child : ℕ} {v w : View} {m : Moving} → (m.successor.parent == m.node.node) ≡ false
    → IsAt k op kept (at.Unlink m child) v → Told k v (acts.UnlinkLeft m.successor.parent m.successor.slot child) n w
    → IsAt k op kept (if child == 0 then at.EmptyTag m.number m.successor.parent Left else at.Unlock (last.Gone m.number)) w
    × HasLocks (move_locks m) w
passes_unlink_parent {k} {op} {kept} {n} {child} {v} {w} {m} e a t =
    let r = unlinked a (acts.UnlinkLeft m.successor.parent m.successor.slot child) (λ o. unlink_parent_case o m child e) t in (
      subst (λ z. IsAt k op kept (if child == 0 then
          (if z then at.EmptyTag m.number m.copy Right else at.EmptyTag m.number m.successor.parent Left) else at.Unlock
          (last.Gone m.number)) w) e r.0,
      r.1,
    )
