-- The points of the waits, for everybody and of a move, and of the retired slots that are given back.
use Rattle.std.proofs.Common.{◌≡◌, ℕ, suc, ◌+◌, nat_le, nat_lt, ◌||◌, not, ◌*◌, ◌==◌, ◌<◌, ◌≤◌, ◌&&◌, cond, Bool, true, false, List, [], ◌∷◌, length, map, Option, Some, None, refl, sym, ap, subst, ◌∙◌, arith, eq-eqb, ◌-◌, ◌/◌, ne_eqb, ◌^◌}
use Rattle.std.proofs.lemmas.Bool.{eqb-true, lt-ltb, le-leb}
use mathlib.Core.Logic.{dite}
use native.Mathlib.Decide.{ℕ_discrete}
use Rattle.prcu_marks.specs.declared.mark.Mark.{Mark}
use Rattle.prcu_model.specs.declared.operation.Op.{Op}
use Rattle.prcu_model.specs.declared.operation.Op.TheVariants.{Put, Get, Del, Set}
use Rattle.core_state.specs.declared.words.Field.{Field}
use Rattle.core_state.specs.declared.words.Field.TheVariants.{Announced, Stamp, Count, Row, Life}
use Rattle.core_state.specs.declared.view.View.{View}
use Rattle.core_state.specs.Steps.{new_wait, IsSpot, spot_seen, after_look, with_excused, ending, waited_move, waited_retired, is_grace_for, spare_slot, is_move_grace}
use Rattle.core_state.specs.declared.view.Waiting.{Waiting}
use Rattle.core_state.specs.declared.view.Retired.{Retired}
use Rattle.core_state.specs.declared.shape.Shape.{Shape}
use Rattle.core_state.specs.declared.shape.Waiter.TheVariants.{Eer, Domain, Deer}
use Rattle.core_state.specs.Memory.{idle}
use mathlib.Core.Option.{some}
use Rattle.core_laws.proofs.Acting.{wait_is, may_look}
use Rattle.core_points.specs.declared.stage.Spot.{Spot}
use Rattle.core_points.specs.declared.stage.Aim.{Aim}
use Rattle.core_points.specs.declared.stage.Aim.TheVariants.{Leaf, Spare, Room}
use Rattle.core_points.specs.declared.stage.Waits.TheVariants.{Reuse, Move}
use Rattle.core_points.specs.declared.stage.Stage.{Stage}
use Rattle.core_points.specs.Programs.{Needs, view_after, Own, go, is_none_left, is_some, key_now, value_in, act_at, after, excused, given_back, giving, is_reader, taking, but_first, first_or_root}
use Rattle.core_points.specs.Facts.{Calm, ForAim, HandFits, Idle, Outlasts, Owns, read_at, AreClear}
use Rattle.core_points.specs.Fits.{IsGiven, GoesOn, owed_given, owed_op, owed_reserve, Fits}
use Rattle.list_laws.specs.Counts.{IsIn, Each}
use Rattle.core_points.specs.Laws.{SpareComes, TellsAlone, IsAlone, TellsMove}
use Rattle.core_points.proofs.Notes.{fits, positive, owns_retired, owns_noted, bare_noted, owns_spared}
use Rattle.core_state.specs.declared.view.Held.{Held}
use Rattle.core_state.specs.Views.{lock_of, note_option, noting}
use Rattle.core_state.specs.Links.{change_retired, renewed, without_retired, NeedsRaiseRetired, after_retired_life, after_raise_to_spare}
use lib.ListN.{get_elem?}
use Rattle.core_state.specs.Acts.{said}
use Rattle.core_state.specs.declared.act.Act.TheVariants.{RaiseRetired, RaiseToSpare}
use Rattle.prcu_marks.specs.declared.commit.Commit.{Commit}
use Rattle.prcu_model.specs.Dictionary.{key_of}
use Rattle.core_state.specs.declared.view.HeldLock.{HeldLock}
use Rattle.core_state.specs.declared.view.Section.{Section}
use Rattle.core_points.specs.declared.stage.Moving.{Moving}
use Rattle.core_points.specs.DeleteFacts.{HoldsOld, IsMove, OutlastsMove, Shifting, ShiftingParts}
use Rattle.core_points.specs.declared.stage.Stage.TheVariants as at
use Rattle.core_state.specs.declared.view.Move as moves
use Rattle.core_laws.proofs.Looks.{each_map}

-- The points of a wait for everybody, and of giving back the retired slots: what each step needs is known, and what the next point needs is
-- known after it.

-- after a wait for everybody that began after its unlinking, a slot is waited
pub graced : (wait : Waiting) (r : Retired) → wait.low ≡ 0 → wait.high ≡ 18446744073709551615 → r.unlinked < wait.began
    → (waited_retired wait r).waited ≡ true
graced wait r low high later =
    let e : is_grace_for wait r.unlinked ≡ true =
    ap (λ b. b && (wait.low == 0 && wait.high == 18446744073709551615)) (lt-ltb r.unlinked wait.began later)
    ∙ ap (λ b. b && wait.high == 18446744073709551615) (eq-eqb wait.low 0 low) ∙ eq-eqb wait.high 18446744073709551615 high in
    ap (λ b. r.waited || b) e ∙ or_true r.waited
  where
    or_true : (b : Bool) → (b || true) ≡ true
    or_true true = refl
    or_true false = refl

pub same_slots : (f : Retired → Retired) → ((r : Retired) → (f r).slot ≡ r.slot) → (rs : List Retired)
    → map (λ (r : Retired). r.slot) (map f rs) ≡ map (λ (r : Retired). r.slot) rs
same_slots f same [] = refl
same_slots f same (r ∷ rs) = ap (λ x. x ∷ map (λ (r : Retired). r.slot) (map f rs)) (same r) ∙ ap (λ xs. r.slot ∷ xs) (same_slots f same rs)

few_owed : (op : Op) (hand : Option ℕ) (retired : List ℕ) → hand ≡ None → is_none_left retired ≡ true → owed_op op hand retired ≤ 2
few_owed (Put key value) hand [] e none = subst (λ x. owed_op (Put key value) x [] ≤ 2) (sym e) (omega arith)
few_owed (Put key value) hand (s ∷ ss) e none = cc
few_owed (Get key) hand retired e none = omega arith
few_owed (Del key) hand retired e none = omega arith
few_owed (Set key value) hand retired e none = omega arith

-- the next slot to give back, or what the slots were given back for
pub giving_fits : (o : Own) (aim : Aim) (w : View) → SpareComes o → Owns o w → Idle o w → ForAim o w aim
    → owed_given (Reuse aim) + 4 * length o.rest + o.kept ≤ w.allowance.tickets
    → Each w.hands.retired (λ (r : Retired). r.raised ≡ false) → Each w.hands.retired (λ (r : Retired). r.waited ≡ true)
    → Fits (giving o aim) (giving o aim).stage w
giving_fits o aim w comes owns idle for paid unraised waited = by_left (is_none_left o.retired) refl
  where
    none_left : (xs : List ℕ) → is_none_left xs ≡ true → length xs ≤ o.room - 2
    none_left [] none = omega arith
    none_left (s ∷ xs) none = cc

    -- with nothing left to give back the place has a spare
    spare_now : is_none_left o.retired ≡ true → is_some o.spare ≡ true
    spare_now none = by (is_some o.spare) refl
      where
        by : (z : Bool) → is_some o.spare ≡ z → z ≡ true
        by true e = refl
        by false e = absurd (let q : true ≡ false = sym none ∙ comes e in cc)

    calm : is_none_left o.retired ≡ true → Calm o w
    calm none = record {
      bare = idle.bare;
      hand = subst (λ x. HandFits x o.hand_life (key_now o) (value_in o.op) w.hands.hand) (sym idle.no_hand) idle.empty;
      ready = record { empty = λ z. idle.no_hand; room = λ z. none_left o.retired none; has_spare = λ z. spare_now none };
    }

    enters : is_none_left o.retired ≡ true → (m : ℕ) → 2 ≤ m → m + 4 * length o.rest + o.kept ≤ w.allowance.tickets
        → Fits (go o at.EnterClock) at.EnterClock w
    enters none m two paid =
        fits owns unraised (let few = few_owed o.op o.hand o.retired idle.no_hand none in omega arith) (idle.outside, calm none)

    reserved : (retired : List ℕ) (spot : Spot) → is_none_left retired ≡ true → owed_reserve (Leaf spot) retired ≡ 2
    reserved [] spot none = refl
    reserved (s ∷ ss) spot none = cc

    spares : is_none_left o.retired ≡ true → 3 + 4 * length o.rest + o.kept ≤ w.allowance.tickets → (z : Bool) → is_some o.spare ≡ z
        → let st : Stage = cond z at.EnterClock (taking o Spare) in Fits (go o st) st w
    spares none paid true e = enters none 3 (omega arith) paid
    spares none paid false e = absurd (let q : true ≡ false = sym (spare_now none) ∙ e in cc)

    back : (aim : Aim) → is_none_left o.retired ≡ true → ForAim o w aim
        → owed_given (Reuse aim) + 4 * length o.rest + o.kept ≤ w.allowance.tickets → Fits (go o (given_back o aim)) (given_back o aim) w
    back (Leaf spot) none for paid =
        fits owns unraised (subst (λ x. x + 4 * length o.rest + o.kept ≤ w.allowance.tickets) (sym (reserved o.retired spot none)) paid)
        (record { idle = idle; some = positive o.free; takes = for })
    back Spare none for paid = enters none 2 (omega arith) paid
    back Room none for paid = spares none paid (is_some o.spare) refl

    by_left : (z : Bool) → is_none_left o.retired ≡ z → let st : Stage = cond z (given_back o aim) (at.OldAge aim) in Fits (go o st) st w
    by_left true e = back aim e for paid
    by_left false e = fits owns unraised paid (idle, for, e, waited)

module _ (k : Shape) (h : List Mark) (o : Own) (v : View) (n : ℕ) where
  -- the wait begins
  pub needs_begin : (aim : Aim) → IsGiven k o v n (at.Begin (Reuse aim))
  needs_begin aim f = record {
    outside = ((f.point).0).outside;
    ticket = (let t = f.tickets in omega arith);
    some = omega arith;
    high_fits = omega arith;
  }

  pub next_begin : (aim : Aim) → 1 ≤ o.places → Each v.hands.retired (λ (r : Retired). r.unlinked < length h)
      → GoesOn h o v n (at.Begin (Reuse aim))
  next_begin aim places older f = fits f.owns (f.unraised refl) (let t = f.tickets in omega arith) (
    (f.point).0,
    (f.point).1,
    places,
    (
      new_wait v 0 18446744073709551615 n h,
      refl,
      record { going = refl; low_is = refl; high_is = refl; clock_is = refl; past = (λ q lt. absurd (omega arith)); later = older },
    ),
  )

  -- the last look has seen all places
  pub seen_all : (wait : Waiting) (p : ℕ) (field : Field) (last : Bool) → k.waiter ≡ Eer → k.places ≡ o.places → last ≡ (p + 1 == o.places)
      → spot_seen field ≡ Stamp p → p < o.places → ((q : ℕ) → q < p → IsIn wait.excused (Stamp q))
      → last ≡ true → (other : Field) → IsSpot k wait other → IsIn (spot_seen field ∷ wait.excused) other
  seen_all wait p field last eer places is spot small past is_last (Stamp q) (w, lt) =
      let all : p + 1 ≡ o.places = eqb-true (p + 1) o.places (sym is ∙ is_last) in
      dite (ℕ_discrete q p)
      (λ same. (0, ap some (spot ∙ ap Stamp (sym same))))
      (λ ne. (let i = past q (omega arith) in (suc i.0, i.1)))
  seen_all wait p field last eer places is spot small past is_last (Count c side) w = absurd (let q : Domain ≡ Eer = sym w.0 ∙ eer in cc)
  seen_all wait p field last eer places is spot small past is_last (Row q c) w = absurd (let q : Deer ≡ Eer = sym w.0 ∙ eer in cc)
  seen_all wait p field last eer places is spot small past is_last _ w = absurd w

  pub needs_look_key : (aim : Aim) (clock p : ℕ) → k.waiter ≡ Eer → k.places ≡ o.places → IsGiven k o v n (at.LookKey (Reuse aim) clock p)
  needs_look_key aim clock p eer places f =
      let q = (f.point).3 in
      may_look k v q.1 (q.2).going (λ is_last other spot. seen_all q.0 p (Announced p) (p + 1 == o.places) eer places
      refl refl (f.point).2 (q.2).past is_last other spot)

  pub needs_look_stamp : (aim : Aim) (clock p key : ℕ) → k.waiter ≡ Eer → k.places ≡ o.places
      → IsGiven k o v n (at.LookStamp (Reuse aim) clock p key)
  needs_look_stamp aim clock p key eer places f =
      let q = (f.point).3 in
      may_look k v q.1 (q.2).going (λ is_last other spot. seen_all q.0 p (Stamp p) (p + 1 == o.places) eer places
      refl refl (f.point).2 (q.2).past is_last other spot)

  -- a look that excuses a place
  excused_fits : (aim : Aim) (clock p : ℕ) (field : Field) (wait : Waiting) → SpareComes o → spot_seen field ≡ Stamp p → Owns o v → Idle o v
      → ForAim o v aim → owed_given (Reuse aim) + 4 * length o.rest + o.kept ≤ v.allowance.tickets
      → Each v.hands.retired (λ (r : Retired). r.raised ≡ false) → p < o.places → Outlasts wait v.hands.retired clock p
      → Fits (excused o (Reuse aim) clock p) (excused o (Reuse aim) clock p).stage
      (cond (p + 1 == o.places) (ending v (with_excused wait field) h) (record v { wait = Some (with_excused wait field) }))
  excused_fits aim clock p field wait comes spot owns idle for paid unraised small out = by_last (p + 1 == o.places) refl
    where
      by_last : (z : Bool) → (p + 1 == o.places) ≡ z → let o' : Own = cond z (giving o aim) (go o (at.LookKey (Reuse aim) clock (p + 1))) in
          Fits o' o'.stage (cond z (ending v (with_excused wait field) h) (record v { wait = Some (with_excused wait field) }))
      by_last true e =
          let b = idle.bare in
          giving_fits o aim (ending v (with_excused wait field) h) comes
          (owns_retired o v owns _ _ (same_slots (waited_retired (with_excused wait field)) (λ r. refl) v.hands.retired ∙ owns.retired_are))
          (record {
            outside = idle.outside;
            bare = record {
              locks_are = b.locks_are;
              turn_is = b.turn_is;
              settled = ap (waited_move (with_excused wait field)) b.settled;
              reserved_is = b.reserved_is;
              paid = b.paid;
            };
            empty = idle.empty;
            no_hand = idle.no_hand;
          })
          for paid
          (each_map (waited_retired (with_excused wait field)) (λ (r : Retired). r.raised ≡ false)
          (λ (r : Retired). r.raised ≡ false) v.hands.retired (λ r q. q) unraised)
          (each_map (waited_retired (with_excused wait field)) (λ (r : Retired). r.unlinked < wait.began)
          (λ (r : Retired). r.waited ≡ true) v.hands.retired
          (λ r q. graced (with_excused wait field) r out.low_is out.high_is q) out.later)
      by_last false e = fits owns unraised paid (
        idle,
        for,
        dite (ℕ_discrete (p + 1) o.places) (λ same. absurd (let q : false ≡ true = sym e ∙ eq-eqb (p + 1) o.places same in cc))
            (λ ne. omega arith),
        (
          with_excused wait field,
          refl,
          record {
            going = out.going;
            low_is = out.low_is;
            high_is = out.high_is;
            clock_is = out.clock_is;
            later = out.later;
            past = λ q lt. dite (ℕ_discrete q p) (λ same. (0, ap some (spot ∙ ap Stamp (sym same))))
                (λ ne. (let i = out.past q (omega arith) in (suc i.0, i.1)));
          },
        ),
      )

  pub next_look_key : (aim : Aim) (clock p : ℕ) → SpareComes o → GoesOn h o v n (at.LookKey (Reuse aim) clock p)
  next_look_key aim clock p comes f =
      let q = (f.point).3 in
      let wait : Waiting = q.0 in
      let out = q.2 in
      let a : Own = after o n (at.LookKey (Reuse aim) clock p) in
      subst (λ x. Fits a a.stage (after_look v x (Announced p) (p + 1 == o.places) n h)) (sym (wait_is v _ q.1))
      (subst (λ (z : Bool). Fits a a.stage (cond (not z)
      (cond (p + 1 == o.places) (ending v (with_excused wait (Announced p)) h)
      (record v { wait = Some (with_excused wait (Announced p)) })) v))
      (sym (ap (λ x. nat_le x n && nat_le n wait.high) out.low_is ∙ ap (λ x. nat_le 0 n && nat_le n x) out.high_is))
      (by_reader (is_reader o (Reuse aim) n)))
    where
      by_reader : (z : Bool) → let o' : Own = cond z (go o (at.LookStamp (Reuse aim) clock p n)) (excused o (Reuse aim) clock p) in
          Fits o' o'.stage (cond (not z) (cond (p + 1 == o.places) (ending v (with_excused ((f.point).3).0 (Announced p)) h)
          (record v { wait = Some (with_excused ((f.point).3).0 (Announced p)) })) v)
      by_reader true = fits f.owns (f.unraised refl) f.tickets f.point
      by_reader false = excused_fits aim clock p (Announced p) ((f.point).3).0 comes refl f.owns (f.point).0
          (f.point).1 f.tickets (f.unraised refl) (f.point).2 (((f.point).3).2)

  pub next_look_stamp : (aim : Aim) (clock p key : ℕ) → SpareComes o → GoesOn h o v n (at.LookStamp (Reuse aim) clock p key)
  next_look_stamp aim clock p key comes f =
      let q = (f.point).3 in
      let wait : Waiting = q.0 in
      let out = q.2 in
      let a : Own = after o n (at.LookStamp (Reuse aim) clock p key) in
      subst (λ x. Fits a a.stage (after_look v x (Stamp p) (p + 1 == o.places) n h)) (sym (wait_is v _ q.1))
      (subst (λ (x : ℕ). Fits a a.stage (cond (n == idle || nat_lt x n)
      (cond (p + 1 == o.places) (ending v (with_excused wait (Stamp p)) h) (record v { wait = Some (with_excused wait (Stamp p)) })) v))
      (sym out.clock_is)
      (by_stamp (n == idle || nat_lt clock n)))
    where
      by_stamp : (z : Bool) → let o' : Own = cond z (excused o (Reuse aim) clock p) (go o (at.LookKey (Reuse aim) clock p)) in
          Fits o' o'.stage (cond z (cond (p + 1 == o.places) (ending v (with_excused ((f.point).3).0 (Stamp p)) h)
          (record v { wait = Some (with_excused ((f.point).3).0 (Stamp p)) })) v)
      by_stamp true = excused_fits aim clock p (Stamp p) ((f.point).3).0 comes refl f.owns (f.point).0
          (f.point).1 f.tickets (f.unraised refl) (f.point).2 (((f.point).3).2)
      by_stamp false = fits f.owns (f.unraised refl) f.tickets f.point

-- The points of giving back the retired slots after the wait: what each step needs is known, and what the next point needs is known after
-- it.

head_of : (rs : List Retired) (os : List ℕ) → map (λ (r : Retired). r.slot) rs ≡ os → is_none_left os ≡ false
    → (r : Retired) × (rest : List Retired) × (rs ≡ r ∷ rest) × (first_or_root os ≡ r.slot)
head_of [] os e some_left = absurd (let q : true ≡ false = ap is_none_left e ∙ some_left in cc)
head_of (r ∷ rs) os e some_left = (r, rs, refl, ap first_or_root (sym e))

-- a change that leaves the slot, of the entries of one slot
abbrev changed_at : ℕ → (Retired → Retired) → Retired → Retired
changed_at slot f r = cond (r.slot == slot) (f r) r

slot_kept : (f : Retired → Retired) → ((r : Retired) → (f r).slot ≡ r.slot) → (r : Retired) (b : Bool) → (cond b (f r) r).slot ≡ r.slot
slot_kept f same r true = same r
slot_kept f same r false = refl

fact_kept : (P : Retired → Type 0) (f : Retired → Retired) → ((r : Retired) → P r → P (f r)) → (r : Retired) (b : Bool) → P r
    → P (cond b (f r) r)
fact_kept P f go r true p = go r p
fact_kept P f go r false p = p

change_none : (slot : ℕ) (f : Retired → Retired) (rs : List Retired) → IsAlone slot rs → change_retired slot f rs ≡ rs
change_none slot f [] alone = refl
change_none slot f (r ∷ rs) alone = ap (λ b. cond b (f r) r ∷ change_retired slot f rs) (ne_eqb r.slot slot (alone 0 r refl))
    ∙ ap (λ xs. r ∷ xs) (change_none slot f rs (λ i a e. alone (suc i) a e))

without_none : (slot : ℕ) (rs : List Retired) → IsAlone slot rs → without_retired slot rs ≡ rs
without_none slot [] alone = refl
without_none slot (r ∷ rs) alone = ap (λ b. cond b (without_retired slot rs) (r ∷ without_retired slot rs))
    (ne_eqb r.slot slot (alone 0 r refl)) ∙ ap (λ xs. r ∷ xs) (without_none slot rs (λ i a e. alone (suc i) a e))

change_first : (slot : ℕ) (f : Retired → Retired) (r : Retired) (rs : List Retired) → r.slot ≡ slot → IsAlone slot rs
    → change_retired slot f (r ∷ rs) ≡ f r ∷ rs
change_first slot f r rs e alone = ap (λ b. cond b (f r) r ∷ change_retired slot f rs) (eq-eqb r.slot slot e)
    ∙ ap (λ xs. f r ∷ xs) (change_none slot f rs alone)

without_first : (slot : ℕ) (r : Retired) (rs : List Retired) → r.slot ≡ slot → IsAlone slot rs → without_retired slot (r ∷ rs) ≡ rs
without_first slot r rs e alone = ap (λ b. cond b (without_retired slot rs) (r ∷ without_retired slot rs)) (eq-eqb r.slot slot e)
    ∙ without_none slot rs alone

tail_each : (P : Retired → Type 0) (r : Retired) (rs all : List Retired) → all ≡ r ∷ rs → Each all P → Each rs P
tail_each P r rs all e each i a at = each (suc i) a (ap (λ xs. get_elem? xs (suc i)) e ∙ at)

head_each : (P : Retired → Type 0) (r : Retired) (rs all : List Retired) → all ≡ r ∷ rs → Each all P → P r
head_each P r rs all e each = each 0 r (ap (λ xs. get_elem? xs 0) e)

pub no_spare : (spare : Option Held) (own : Option ℕ) → spare_slot spare ≡ own → is_some own ≡ false → spare ≡ None
no_spare None own e none = refl
no_spare (Some held) own e none = absurd (let q : true ≡ false = ap is_some e ∙ none in cc)

module _ (k : Shape) (h : List Mark) (o : Own) (v : View) (n : ℕ) where
  pub needs_old_age : (aim : Aim) → IsGiven k o v n (at.OldAge aim)
  needs_old_age aim f =
      let x = head_of v.hands.retired o.retired f.owns.retired_are (f.point).2 in
      (0, x.0, (ap (λ xs. get_elem? xs 0) x.2, sym x.3))

  pub next_old_age : (aim : Aim) → GoesOn h o v n (at.OldAge aim)
  next_old_age aim f =
      let x = head_of v.hands.retired o.retired f.owns.retired_are (f.point).2 in
      let r : Retired = x.0 in
      let slot : ℕ = first_or_root o.retired in
      let to : Retired → Retired = λ r. record r { life = Some n } in
      let w : View = after_retired_life v slot n in
      let i = (f.point).0 in
      let owns = owns_noted o v slot (Life slot) n false f.owns in
      fits (owns_retired o (noting v slot (Life slot) n false) owns _ _ (same_slots (changed_at slot to)
      (λ r. slot_kept to (λ r. refl) r (r.slot == slot)) v.hands.retired ∙ f.owns.retired_are))
      (each_map (changed_at slot to) (λ (r : Retired). r.raised ≡ false)
      (λ (r : Retired). r.raised ≡ false) v.hands.retired
      (λ r p. fact_kept (λ (r : Retired). r.raised ≡ false) to (λ r q. q) r (r.slot == slot) p) (f.unraised refl))
      f.tickets (
        record {
          outside = i.outside;
          bare = bare_noted v slot (Life slot) n false [] [] None false i.bare refl;
          empty = ap (note_option slot (read_at (Life slot) n)) i.empty;
          no_hand = i.no_hand;
        },
        (f.point).1,
        each_map (changed_at slot to) (λ (r : Retired). r.waited ≡ true) (λ (r : Retired). r.waited ≡ true) v.hands.retired
            (λ r p. fact_kept (λ (r : Retired). r.waited ≡ true) to (λ r q. q) r (r.slot == slot) p) (f.point).3,
        record {
          first = to r;
          rest = change_retired slot to x.1;
          are = ap (change_retired slot to) x.2
              ∙ ap (λ b. cond b (to r) r ∷ change_retired slot to x.1) (eq-eqb r.slot slot (sym x.3));
          loaded = refl;
        },
      )

  first_slot : (r : Retired) (rs : List Retired) → Owns o v → v.hands.retired ≡ r ∷ rs
      → o.retired ≡ r.slot ∷ map (λ (r : Retired). r.slot) rs
  first_slot r rs owns e = sym owns.retired_are ∙ ap (map (λ (r : Retired). r.slot)) e

  -- the life is raised: the slot becomes the spare, or is to be freed
  pub needs_old_raise : (aim : Aim) (life : ℕ) → IsGiven k o v n (at.OldRaise aim life)
  needs_old_raise aim life f =
      let q = (f.point).3 in
      let r : Retired = q.first in
      let e = first_slot r q.rest f.owns q.are in
      let b = ((f.point).0).bare in
      let number : ℕ = 2 * (life / 2 + 1) in
      by_spare (is_some o.spare) refl (ap first_or_root e)
      (λ slot is. record {
        retired = (ap (λ xs. get_elem? xs 0) q.are, sym is);
        unraised = head_each (λ (r : Retired). r.raised ≡ false) r q.rest v.hands.retired q.are (f.unraised refl);
        unlocked = λ l. absurd (let z : None ≡ Some l.0 = ap (λ ls. lock_of ls slot) (sym b.locks_are) ∙ l.1 in cc);
        waited = head_each (λ (r : Retired). r.waited ≡ true) r q.rest v.hands.retired q.are (f.point).2;
        life = life;
        loaded = q.loaded;
        next = refl;
      })
    where
      by_spare : (z : Bool) → is_some o.spare ≡ z → first_or_root o.retired ≡ (((f.point).3).first).slot
          → ((slot : ℕ) → slot ≡ (((f.point).3).first).slot → NeedsRaiseRetired v 0 ((f.point).3).first slot (2 * (life / 2 + 1)))
          → Needs k v n (cond z (RaiseRetired (first_or_root o.retired) (2 * (life / 2 + 1)))
          (RaiseToSpare (first_or_root o.retired) (2 * (life / 2 + 1))))
      by_spare true e is make = (
        0,
        ((f.point).3).first,
        make _ is,
        (λ none. absurd (let q : false ≡ true = ap is_some (ap spare_slot (sym none) ∙ f.owns.spare_is) ∙ e in cc)),
      )
      by_spare false e is make = (0, ((f.point).3).first, make _ is, no_spare v.hands.spare o.spare f.owns.spare_is e)

  pub next_old_raise : (aim : Aim) (life : ℕ) → TellsAlone v → Fits o (at.OldRaise aim life) v
      → Fits (after o n (at.OldRaise aim life)) (after o n (at.OldRaise aim life)).stage
      (view_after v h (said v (act_at o (at.OldRaise aim life)) n) (act_at o (at.OldRaise aim life)))
  next_old_raise aim life alone f = by_spare (is_some o.spare) refl
    where
      by_spare : (z : Bool) → is_some o.spare ≡ z → let o' : Own =
          cond z (go o (at.OldFree aim)) (giving (record o
          { spare = Some (first_or_root o.retired); retired = but_first o.retired }) aim) in
          Fits o' o'.stage (view_after v h (said v (cond z (RaiseRetired (first_or_root o.retired) (2 * (life / 2 + 1)))
          (RaiseToSpare (first_or_root o.retired) (2 * (life / 2 + 1)))) n)
          (cond z (RaiseRetired (first_or_root o.retired) (2 * (life / 2 + 1)))
          (RaiseToSpare (first_or_root o.retired) (2 * (life / 2 + 1)))))
      by_spare true some_spare =
          let q = (f.point).3 in
          let r : Retired = q.first in
          let slot : ℕ = first_or_root o.retired in
          let is : slot ≡ r.slot = ap first_or_root (first_slot r q.rest f.owns q.are) in
          let to : Retired → Retired = λ r. record r { raised = true } in record {
            owns = owns_retired o v f.owns _ _ (same_slots (changed_at slot to)
                (λ r. slot_kept to (λ r. refl) r (r.slot == slot)) v.hands.retired ∙ f.owns.retired_are);
            tickets = f.tickets;
            unraised = λ z. cc;
            point = record {
              idle = (f.point).0;
              aimed = (f.point).1;
              waited = each_map (changed_at slot to) (λ (r : Retired). r.waited ≡ true) (λ (r : Retired). r.waited ≡ true) v.hands.retired
                  (λ r p. fact_kept (λ (r : Retired). r.waited ≡ true) to (λ r q. q) r (r.slot == slot) p) (f.point).2;
              first = record {
                first = to r;
                rest = q.rest;
                are = ap (change_retired slot to) q.are
                    ∙ change_first slot to r q.rest (sym is) (subst (λ s. IsAlone s q.rest) (sym is) (alone r q.rest q.are));
                raised = refl;
                others = tail_each (λ (r : Retired). r.raised ≡ false) r q.rest v.hands.retired q.are (f.unraised refl);
              };
              has_spare = some_spare;
            };
          }
      by_spare false none =
          let q = (f.point).3 in
          let r : Retired = q.first in
          let e = first_slot r q.rest f.owns q.are in
          let slot : ℕ = first_or_root o.retired in
          let is : slot ≡ r.slot = ap first_or_root e in
          let number : ℕ = 2 * (life / 2 + 1) in
          let left : without_retired slot v.hands.retired ≡ q.rest =
          ap (without_retired slot) q.are
          ∙ without_first slot r q.rest (sym is) (subst (λ s. IsAlone s q.rest) (sym is) (alone r q.rest q.are)) in
          giving_fits (record o { spare = Some slot; retired = but_first o.retired }) aim (after_raise_to_spare v slot number h)
          (λ none. cc)
          (owns_retired (record o { spare = Some slot }) (record v { hands = record v.hands { spare = Some (renewed slot number) } })
          (owns_spared o v f.owns (Some slot) (Some (renewed slot number)) refl) _ _
          (ap (map (λ (r : Retired). r.slot)) left ∙ sym (ap but_first e)))
          (f.point).0 (f.point).1 f.tickets
          (subst (λ xs. Each xs (λ (r : Retired). r.raised ≡ false)) (sym left)
          (tail_each (λ (r : Retired). r.raised ≡ false) r q.rest v.hands.retired q.are (f.unraised refl)))
          (subst (λ xs. Each xs (λ (r : Retired). r.waited ≡ true)) (sym left)
          (tail_each (λ (r : Retired). r.waited ≡ true) r q.rest v.hands.retired q.are (f.point).2))

  pub needs_old_free : (aim : Aim) → IsGiven k o v n (at.OldFree aim)
  needs_old_free aim f =
      let q = (f.point).first in (
        0,
        q.first,
        record {
          paid = (((f.point).idle).bare).paid;
          retired = (ap (λ xs. get_elem? xs 0) q.are, sym (ap first_or_root (first_slot q.first q.rest f.owns q.are)));
          raised = q.raised;
        },
      )

  pub next_old_free : (aim : Aim) → TellsAlone v → GoesOn h o v n (at.OldFree aim)
  next_old_free aim alone f =
      let q = (f.point).first in
      let r : Retired = q.first in
      let e = first_slot r q.rest f.owns q.are in
      let slot : ℕ = first_or_root o.retired in
      let is : slot ≡ r.slot = ap first_or_root e in
      let left : without_retired slot v.hands.retired ≡ q.rest =
      ap (without_retired slot) q.are
      ∙ without_first slot r q.rest (sym is) (subst (λ s. IsAlone s q.rest) (sym is) (alone r q.rest q.are)) in
      let i = (f.point).idle in
      let b = i.bare in
      fits (owns_retired o v f.owns _ _ (ap (map (λ (r : Retired). r.slot)) left ∙ sym (ap but_first e)))
      (subst (λ xs. Each xs (λ (r : Retired). r.raised ≡ false)) (sym left) q.others)
      f.tickets (
        record {
          outside = i.outside;
          no_hand = i.no_hand;
          empty = i.empty;
          unlocked = b.locks_are;
          no_turn = b.turn_is;
          settled = b.settled;
          unreserved = b.reserved_is;
          owing = refl;
        },
        (f.point).aimed,
        subst (λ xs. Each xs (λ (r : Retired). r.waited ≡ true)) (sym left)
            (tail_each (λ (r : Retired). r.waited ≡ true) r q.rest v.hands.retired q.are (f.point).waited),
      )

  pub needs_old_count : (aim : Aim) → IsGiven k o v n (at.OldCount aim)
  needs_old_count aim f = ((f.point).0).owing

  pub next_old_count : (aim : Aim) → SpareComes o → GoesOn h o v n (at.OldCount aim)
  next_old_count aim comes f =
      let p = (f.point).0 in
      giving_fits (record o { free = n + 1 }) aim (view_after v h n (act_at o (at.OldCount aim))) comes f.owns (record {
        outside = p.outside;
        bare = record { locks_are = p.unlocked; turn_is = p.no_turn; settled = p.settled; reserved_is = p.unreserved; paid = refl };
        empty = p.empty;
        no_hand = p.no_hand;
      }) (f.point).1 f.tickets (f.unraised refl) (f.point).2

-- The points of the wait of a move: what each step needs is known, and what the next point needs is known after it.

or_true : (b : Bool) → (b || true) ≡ true
or_true true = refl
or_true false = refl

-- after such a wait the move is waited for
pub graced_move : (wait : Waiting) (moving : Option moves.Move) (key : ℕ) (m : Moving) (clock p : ℕ) → IsMove moving key m false
    → OutlastsMove wait moving (key + 1) m.next_key clock p → IsMove (waited_move wait moving) key m true
graced_move wait moving key m clock p is out =
    let move : moves.Move = is.move in
    let made = out.later move is.is in
    let a : nat_lt move.made wait.began ≡ true = lt-ltb move.made wait.began made in
    let b : nat_le wait.low (move.key + 1) ≡ true =
    le-leb wait.low (move.key + 1) (let e = out.low_is in let f = is.key_is in omega arith) in
    let c : nat_le move.next_key wait.high ≡ true =
    le-leb move.next_key wait.high (let e = out.high_is in let f = is.next_is in omega arith) in
    let grace : is_move_grace wait move ≡ true = ap (λ z. z && (nat_le wait.low (move.key + 1) && nat_le move.next_key wait.high)) a
    ∙ ap (λ z. z && nat_le move.next_key wait.high) b ∙ c in
    record {
      move = record move { waited = move.waited || is_move_grace wait move };
      is = ap (waited_move wait) is.is;
      key_is = is.key_is;
      next_is = is.next_is;
      copy_is = is.copy_is;
      old_is = is.old_is;
      parent_is = is.parent_is;
      waited_is = ap (λ z. move.waited || z) grace ∙ or_true move.waited;
    }

-- with the move waited for, all else stays
pub shifting_waited : {m : Moving} {waited now : Bool} {commit turn : Option Commit} {op : Op} {o_hand : Option ℕ} {o_locks : List ℕ}
    {section : Option Section} {moving new : Option moves.Move} {reserved owes : Bool} {hand : Option Held} {locks : List HeldLock}
    → ShiftingParts m waited commit op o_hand o_locks section turn moving reserved owes hand locks → IsMove new (key_of op) m now
    → ShiftingParts m now commit op o_hand o_locks section turn new reserved owes hand locks
shifting_waited s is = record {
  outside = s.outside;
  turn_is = s.turn_is;
  unreserved = s.unreserved;
  paid = s.paid;
  empty = s.empty;
  no_hand = s.no_hand;
  move = is;
  locks_are = s.locks_are;
  parent_held = s.parent_held;
  apart = s.apart;
  deletes = s.deletes;
}

module _ (k : Shape) (h : List Mark) (o : Own) (v : View) (n : ℕ) where
  pub needs_move_begin : (m : Moving) → TellsMove v h → IsGiven k o v n (at.Begin (Move m))
  needs_move_begin m told f =
      let s = (f.point).0 in
      let is = s.move in
      let t = told is.move is.is in
      let key = is.key_is in
      let next = is.next_is in
      record {
        outside = s.outside;
        ticket = (let t = f.tickets in omega arith);
        some = omega (arith, t.0, key, next);
        high_fits = subst (λ x. x < 2 ^ 64) next t.1;
      }

  pub next_move_begin : (m : Moving) → 1 ≤ o.places → TellsMove v h → GoesOn h o v n (at.Begin (Move m))
  next_move_begin m places told f =
      let p = f.point in fits f.owns (f.unraised refl) (let t = f.tickets in omega arith) (
        p.0,
        p.1,
        p.2,
        (
          places,
          (
            new_wait v (key_now o + 1) m.next_key n h,
            refl,
            record {
              going = refl;
              low_is = refl;
              high_is = refl;
              clock_is = refl;
              past = (λ q lt. absurd (omega arith));
              later = (λ move is. (told move is).2);
            },
          ),
        ),
      )

  pub needs_move_key : (m : Moving) (clock p : ℕ) → k.waiter ≡ Eer → k.places ≡ o.places → IsGiven k o v n (at.LookKey (Move m) clock p)
  needs_move_key m clock p eer places f =
      let w = (f.point).3 in
      let q = w.1 in
      may_look k v q.1 (q.2).going (λ is_last other spot. seen_all k h o v n q.0 p (Announced p) (p + 1 == o.places) eer places
      refl refl w.0 (q.2).past is_last other spot)

  pub needs_move_stamp : (m : Moving) (clock p key : ℕ) → k.waiter ≡ Eer → k.places ≡ o.places
      → IsGiven k o v n (at.LookStamp (Move m) clock p key)
  needs_move_stamp m clock p key eer places f =
      let w = (f.point).3 in
      let q = w.1 in
      may_look k v q.1 (q.2).going (λ is_last other spot. seen_all k h o v n q.0 p (Stamp p) (p + 1 == o.places) eer places
      refl refl w.0 (q.2).past is_last other spot)

  -- a look that excuses a place
  excused_move : (m : Moving) (clock p : ℕ) (field : Field) (wait : Waiting) → spot_seen field ≡ Stamp p
      → 0 + 4 * length o.rest + o.kept ≤ v.allowance.tickets → Shifting o v m false None → HoldsOld v.locks m false → AreClear v.locks
      → p < o.places → OutlastsMove wait v.moving (key_now o + 1) m.next_key clock p → Owns o v
      → ((i : ℕ) (r : Retired) → get_elem? v.hands.retired i ≡ some r → r.raised ≡ false)
      → Fits (excused o (Move m) clock p) (excused o (Move m) clock p).stage
      (cond (p + 1 == o.places) (ending v (with_excused wait field) h) (record v { wait = Some (with_excused wait field) }))
  excused_move m clock p field wait spot paid shifting old clear small out owns unraised = by_last (p + 1 == o.places) refl
    where
      now : Waiting
      now = with_excused wait field

      by_last : (z : Bool) → (p + 1 == o.places) ≡ z → let o' : Own =
          cond z (go o (at.OldMark m)) (go o (at.LookKey (Move m) clock (p + 1))) in
          Fits o' o'.stage (cond z (ending v now h) (record v { wait = Some now }))
      by_last true e =
          fits (owns_retired o v owns _ _ (same_slots (waited_retired now) (λ r. refl) v.hands.retired ∙ owns.retired_are))
          (each_map (waited_retired now) (λ (r : Retired). r.raised ≡ false)
          (λ (r : Retired). r.raised ≡ false) v.hands.retired (λ r q. q) unraised)
          paid (
            shifting_waited shifting (graced_move now v.moving (key_now o) m clock p shifting.move (record {
              going = out.going;
              low_is = out.low_is;
              high_is = out.high_is;
              clock_is = out.clock_is;
              past = (λ q lt. (let i = out.past q lt in (suc i.0, i.1)));
              later = out.later;
            })),
            old,
            clear,
          )
      by_last false e = fits owns unraised paid (
        shifting,
        old,
        clear,
        (
          dite (ℕ_discrete (p + 1) o.places) (λ same. absurd (let q : false ≡ true = sym e ∙ eq-eqb (p + 1) o.places same in cc))
              (λ ne. omega arith),
          (
            now,
            refl,
            record {
              going = out.going;
              low_is = out.low_is;
              high_is = out.high_is;
              clock_is = out.clock_is;
              later = out.later;
              past = λ q lt. dite (ℕ_discrete q p) (λ same. (0, ap some (spot ∙ ap Stamp (sym same))))
                  (λ ne. (let i = out.past q (omega arith) in (suc i.0, i.1)));
            },
          ),
        ),
      )

  pub next_move_key : (m : Moving) (clock p : ℕ) → GoesOn h o v n (at.LookKey (Move m) clock p)
  next_move_key m clock p f =
      let x = (f.point).3 in
      let q = x.1 in
      let wait : Waiting = q.0 in
      let out = q.2 in
      let a : Own = after o n (at.LookKey (Move m) clock p) in
      subst (λ x. Fits a a.stage (after_look v x (Announced p) (p + 1 == o.places) n h)) (sym (wait_is v _ q.1))
      (subst (λ (z : Bool). Fits a a.stage (cond (not z)
      (cond (p + 1 == o.places) (ending v (with_excused wait (Announced p)) h)
      (record v { wait = Some (with_excused wait (Announced p)) })) v))
      (sym (ap (λ x. nat_le x n && nat_le n wait.high) out.low_is ∙ ap (λ x. nat_le (key_now o + 1) n && nat_le n x) out.high_is))
      (by_reader (is_reader o (Move m) n)))
    where
      by_reader : (z : Bool) → let o' : Own = cond z (go o (at.LookStamp (Move m) clock p n)) (excused o (Move m) clock p) in
          Fits o' o'.stage (cond (not z) (cond (p + 1 == o.places) (ending v (with_excused (((f.point).3).1).0 (Announced p)) h)
          (record v { wait = Some (with_excused (((f.point).3).1).0 (Announced p)) })) v)
      by_reader true = fits f.owns (f.unraised refl) f.tickets f.point
      by_reader false = let x = f.point in let y = x.3 in
          excused_move m clock p (Announced p) (y.1).0 refl f.tickets x.0 x.1 x.2 y.0 (y.1).2 f.owns (f.unraised refl)

  pub next_move_stamp : (m : Moving) (clock p key : ℕ) → GoesOn h o v n (at.LookStamp (Move m) clock p key)
  next_move_stamp m clock p key f =
      let x = (f.point).3 in
      let q = x.1 in
      let wait : Waiting = q.0 in
      let out = q.2 in
      let a : Own = after o n (at.LookStamp (Move m) clock p key) in
      subst (λ x. Fits a a.stage (after_look v x (Stamp p) (p + 1 == o.places) n h)) (sym (wait_is v _ q.1))
      (subst (λ (x : ℕ). Fits a a.stage (cond (n == idle || nat_lt x n)
      (cond (p + 1 == o.places) (ending v (with_excused wait (Stamp p)) h) (record v { wait = Some (with_excused wait (Stamp p)) })) v))
      (sym out.clock_is)
      (by_stamp (n == idle || nat_lt clock n)))
    where
      by_stamp : (z : Bool) → let o' : Own = cond z (excused o (Move m) clock p) (go o (at.LookKey (Move m) clock p)) in
          Fits o' o'.stage (cond z (cond (p + 1 == o.places) (ending v (with_excused (((f.point).3).1).0 (Stamp p)) h)
          (record v { wait = Some (with_excused (((f.point).3).1).0 (Stamp p)) })) v)
      by_stamp true = let x = f.point in let y = x.3 in
          excused_move m clock p (Stamp p) (y.1).0 refl f.tickets x.0 x.1 x.2 y.0 (y.1).2 f.owns (f.unraised refl)
      by_stamp false = fits f.owns (f.unraised refl) f.tickets f.point
