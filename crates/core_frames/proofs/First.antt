-- A table as it is made has the invariant.
use Rattle.std.proofs.Common.{◌≡◌, ◌≢◌, ℕ, zero, suc, ◌+◌, ◌-◌, ◌/◌, ◌<◌, ◌≤◌, ◌==◌, nat_lt, not, ◌&&◌, ◌⊎◌, Bool, true, false, cond, List, [], ◌∷◌, ◌++◌, Some, None, refl, sym, ap, subst, ◌∙◌, ⊎_elim, inl, inr, arith, eq-eqb, ne_eqb}
use Rattle.std.proofs.lemmas.Bool.{lt-ltb, le-ltb, le-leb, lt-leb, eqb-true}
use Rattle.std.specs.FinMap as finite
use Rattle.std.specs.Ordering.{nat_cmp}
use mathlib.Core.Logic.{dite}
use mathlib.Core.Option.{some, some-injective, some-ne-none}
use mathlib.Core.List.{IsPrefix}
use native.Mathlib.Decide.{dec_le, ℕ_discrete}
use lib.ListN.{get_elem?}
use Rattle.prcu_marks.specs.declared.mark.Side.TheVariants.{Left, Right}
use Rattle.core_state.specs.declared.shape.Shape.{Shape}
use Rattle.core_state.specs.declared.words.Field.TheVariants.{State, Life, Tag}
use Rattle.core_state.specs.declared.view.HeldLock.{HeldLock}
use Rattle.core_state.specs.declared.view.Listing.{Listing}
use Rattle.core_state.specs.declared.view.Move.{Move}
use Rattle.core_state.specs.declared.view.Section.{Section}
use Rattle.core_state.specs.declared.view.Spent.{Spent}
use Rattle.prcu_marks.specs.declared.commit.Commit.{Commit}
use Rattle.core_state.specs.declared.view.Waiting.{Waiting}
use Rattle.core_state.specs.declared.view.View.{View}
use Rattle.list_laws.specs.Counts.{times, numbers_from, IsIn, Each}
use Rattle.core_state.specs.Memory.{sum_below, flag, count_below, IsEven, Memory, slot_count}
use Rattle.core_state.specs.Views.{Works, slots_of, retired_of, readings_of, known_in}
use Rattle.core_state.specs.Steps.{spent_view, unknown_slot}
use Rattle.core_state.specs.declared.view.Held.{Held}
use Rattle.core_state.specs.Invariant.{first_view, IsFresh, fresh_chart, IsShape, HoldsNow}
use Rattle.core_state.specs.Parts.{WaitStands, IsOwned, SectionStands, IsCounted, IsClocked, IsTurnedOnce, HasFewSpent, HasFewSlots, AreHandsKnown, IsRetired, HasFewLocks, IsReadingKept, linked_count, young_count, old_count, IsMoving, IsReading, IsServed, IsRecord, IsListing, IsWaitedRetired, IsWaitedMove}
use Rattle.core_frames.specs.Laws.{FreshHolds}
use Rattle.list_laws.proofs.Lists.{times_append, times_here, times_other, from_times, not_from, in_append}

-- a fact of the one element of a list
pub each_one : {A : Type 0} (P : A → Type 0) (a : A) → P a → Each (a ∷ []) P
each_one P a mine zero b e = subst P (some-injective a b e) mine
each_one P a mine (suc j) b e = absurd (some-ne-none b (sym e))

pub each_none : {A : Type 0} (P : A → Type 0) → Each [] P
each_none P j a e = absurd (some-ne-none a (sym e))

pub each_append : {A : Type 0} (P : A → Type 0) (xs ys : List A) → Each xs P → Each ys P → Each (xs ++ ys) P
each_append P xs ys first second j a e = ⊎_elim (λ (x : IsIn xs a). first x.0 a x.1) (λ (y : IsIn ys a). second y.0 a y.1)
    (in_append xs ys a (j, e))

-- sums of nothing
pub sum_zero : (f : ℕ → ℕ) (n : ℕ) → ((s : ℕ) → s < n → f s ≡ 0) → sum_below f n ≡ 0
sum_zero f zero none = refl
sum_zero f (suc n) none = let a = none n (omega arith) in let b = sum_zero f n (λ s lt. none s (omega arith)) in omega arith

-- how many pass a test that all from a number on pass, and none below
pub count_from : (test : ℕ → Bool) (first j : ℕ) → ((s : ℕ) → s < first → test s ≡ false)
    → ((s : ℕ) → first ≤ s → s < j + first → test s ≡ true) → sum_below (λ s. flag (test s)) (j + first) ≡ j
count_from test first zero none all = subst (λ z. sum_below (λ s. flag (test s)) z ≡ 0) (let e : first ≡ 0 + first = omega arith in e)
    (sum_zero (λ s. flag (test s)) first (λ s lt. ap flag (none s lt)))
count_from test first (suc j) none all =
    let a = ap flag (all (j + first) (omega arith) (omega arith)) in
    let b = count_from test first j none (λ s low high. all s low (omega arith)) in
    subst (λ z. sum_below (λ s. flag (test s)) z ≡ suc j) (let e : suc (j + first) ≡ suc j + first = omega arith in e) (omega arith)

module _ (k : Shape) (m : Memory) (table : IsShape k) (fresh : IsFresh k m) where
  abbrev one_view : List View
  one_view = first_view k ∷ []

  pairs_here : (b : Bool) → (b && not b) ≡ false
  pairs_here true = refl
  pairs_here false = refl

  placed : (p : ℕ) → times p (numbers_from 0 k.places ++ []) + 0 ≡ cond (nat_lt p k.places) 1 0
  placed p =
      let a = times_append p (numbers_from 0 k.places) [] in
      dite (dec_le (p + 1) k.places)
      (λ lt. (let b = from_times p 0 k.places (omega arith) (omega arith) in
      let c = ap flag (lt-ltb p k.places (let l : p < k.places = omega arith in l)) in omega arith))
      (λ no_lt. (let b = not_from p 0 k.places (inr (omega arith)) in let c = ap flag (le-ltb p k.places (omega arith)) in omega arith))

  -- the spares are the slots from 1 to the number of places
  spare_times : (s : ℕ) → times s (slots_of (first_view k)) ≡ times s (1 ∷ numbers_from 2 (k.places - 1))
  spare_times s =
      let a = times_append s (1 ∷ (numbers_from 2 (k.places - 1) ++ [])) [] in
      let b = times_append s (numbers_from 2 (k.places - 1)) [] in
      let c : times s (slots_of (first_view k)) ≡ times s (1 ∷ (numbers_from 2 (k.places - 1) ++ [])) =
      a ∙ (let e : times s (1 ∷ (numbers_from 2 (k.places - 1) ++ [])) + 0 ≡ times s (1 ∷ (numbers_from 2 (k.places - 1) ++ [])) =
      omega arith in e) in
      let d : times s (numbers_from 2 (k.places - 1) ++ []) ≡ times s (numbers_from 2 (k.places - 1)) =
      b ∙ (let e : times s (numbers_from 2 (k.places - 1)) + 0 ≡ times s (numbers_from 2 (k.places - 1)) = omega arith in e) in
      c ∙ ap (λ z. cond (1 == s) 1 0 + z) d

  spare_in : (s : ℕ) → 1 ≤ s → s ≤ k.places → times s (slots_of (first_view k)) ≡ 1
  spare_in s low high =
      let t = spare_times s in
      dite (ℕ_discrete 1 s)
      (λ e. (let a : times s (1 ∷ numbers_from 2 (k.places - 1)) ≡ 1 + times s (numbers_from 2 (k.places - 1)) =
      subst (λ z. times z (1 ∷ numbers_from 2 (k.places - 1)) ≡ 1 + times z (numbers_from 2 (k.places - 1))) e
      (times_here 1 (numbers_from 2 (k.places - 1))) in let b = not_from s 2 (k.places - 1) (inl (omega arith)) in omega arith))
      (λ ne. (let a = times_other s 1 (numbers_from 2 (k.places - 1)) ne in
      let b = from_times s 2 (k.places - 1) (omega arith) (omega arith) in omega arith))

  spare_out : (s : ℕ) → (s < 1) ⊎ (k.places < s) → times s (slots_of (first_view k)) ≡ 0
  spare_out s out =
      let t = spare_times s in
      let some_place = table.some_place in
      let far : 1 ≢ s = (λ e. ⊎_elim (λ (a : s < 1). omega arith) (λ (b : k.places < s). omega arith) out) in
      let a = times_other s 1 (numbers_from 2 (k.places - 1)) far in
      let b = not_from s 2 (k.places - 1) (⊎_elim (λ (x : s < 1). inl (omega arith)) (λ (x : k.places < s). inr (omega arith)) out) in
      omega arith

  state_one : (s : ℕ) → s < slot_count k → s ≤ k.places → m (State s) ≡ 1
  state_one s lt low = fresh.states s lt ∙ ap (λ b. cond b 1 0) (le-leb s k.places low)

  state_zero : (s : ℕ) → s < slot_count k → k.places < s → m (State s) ≡ 0
  state_zero s lt high = fresh.states s lt ∙ ap (λ b. cond b 1 0) (lt-leb s k.places high)

  one_role : (s : ℕ) → s < slot_count k → flag (m (State s) == 0) + flag (s == 0) + (times s (slots_of (first_view k)) + 0) ≡ 1
  one_role s lt =
      dite (dec_le s k.places)
      (λ low. (let a = ap flag (ne_eqb (m (State s)) 0 (λ e. let one = state_one s lt low in omega arith)) in
      dite (ℕ_discrete s 0)
      (λ e. (let b = ap flag (eq-eqb s 0 e) in let c = spare_out s (inl (omega arith)) in omega arith))
      (λ ne. (let b = ap flag (ne_eqb s 0 ne) in let c = spare_in s (omega arith) low in omega arith))))
      (λ high. (let a = ap flag (eq-eqb (m (State s)) 0 (state_zero s lt (omega arith))) in
      let b = ap flag (ne_eqb s 0 (λ e. omega arith)) in let c = spare_out s (inr (omega arith)) in omega arith))

  free_count : count_below (λ s. m (State s) == 0) (slot_count k) ≡ k.slots
  free_count =
      subst (λ z. count_below (λ s. m (State s) == 0) z ≡ k.slots) (let e : k.slots + (k.places + 1) ≡ slot_count k = omega arith in e)
      (count_from (λ s. m (State s) == 0) (k.places + 1) k.slots
      (λ s lt. ne_eqb (m (State s)) 0 (λ e. let one = state_one s (omega arith) (omega arith) in omega arith))
      (λ s low lt. eq-eqb (m (State s)) 0 (state_zero s (omega arith) (omega arith))))

  even_life : (s : ℕ) → IsEven (m (Life s))
  even_life s = subst IsEven (sym (fresh.lives s)) refl

  -- the root alone is linked
  only_root : (s : ℕ) → (s == 0) ≡ true → s ≡ 0
  only_root s e = eqb-true s 0 e

  none_linked : linked_count fresh_chart (slot_count k) ≡ 0
  none_linked = sum_zero (λ s. flag ((s == 0) && not (s == 0))) (slot_count k) (λ s lt. ap flag (pairs_here (s == 0)))

  none_young : young_count fresh_chart (slot_count k) ≡ 0
  none_young = sum_zero (λ s. flag ((s == 0) && (not (s == 0) && not false))) (slot_count k) (λ s lt. ap flag (young (s == 0)))
    where
      young : (b : Bool) → (b && (not b && true)) ≡ false
      young true = refl
      young false = refl

  none_old : old_count fresh_chart (slot_count k) ≡ 0
  none_old = sum_zero (λ s. flag ((s == 0) && false)) (slot_count k) (λ s lt. ap flag (old (s == 0)))
    where
      old : (b : Bool) → (b && false) ≡ false
      old true = refl
      old false = refl

  no_moves : (v w : View) (i j : ℕ) (a b : Move) → get_elem? one_view i ≡ some v → v.moving ≡ Some a → i ≡ j
  no_moves v w i j a b e is = absurd (each_one (λ (u : View). (x : Move) → u.moving ≡ Some x → ⊥) (first_view k)
      (λ x none. absurd (let q : None ≡ Some x = none in cc)) i v e a is)

  pub starts : HoldsNow k m (first_view k ∷ []) []
  starts = record {
    table = table;
    chart = fresh_chart;
    marks = record {
      seen = record {
        begins = each_one (λ (u : View). IsPrefix u.seen []) (first_view k) ([], refl);
        longest = record { id = 0; view = first_view k; there = refl; has = refl };
      };
      marks = record {
        entered = λ j p c x e. absurd (cc);
        left = λ j p c e. absurd (cc);
        began = λ j p c low high e. absurd (cc);
        ended = λ j p c e. absurd (cc);
        deleted = λ j p x e. absurd (cc);
      };
      waits = each_one (λ (u : View). (wait : Waiting) → u.wait ≡ Some wait → WaitStands [] u wait) (first_view k)
          (λ wait none. absurd (let q : None ≡ Some wait = none in cc));
    };
    seats = record {
      placed = placed;
      spent = each_one (λ (u : View). u.allowance.places ≡ 0 → u ≡ spent_view) (first_view k)
          (λ none. absurd (let s = table.some_place in omega arith));
      owned = each_one (IsOwned []) (first_view k)
          (record { met = λ p has. refl; unused = λ p u. refl; joined = λ i meeting at. absurd (some-ne-none meeting (sym at)) });
      within = λ p le. refl;
      sections = each_one (λ (u : View). (section : Section) → u.section ≡ Some section → SectionStands [] u section) (first_view k)
          (λ section none. absurd (let q : None ≡ Some section = none in cc));
      opened = λ p o e. absurd (cc);
      counted = each_one (λ (u : View). Works u → IsCounted [] u) (first_view k) (λ works. record { sections = refl; waits = refl });
    };
    waiters = record {
      clock = fresh.clock;
      clocked = each_one (IsClocked k.waiter []) (first_view k)
          (record { loaded = λ c none. absurd (cc); stamped = λ s none. absurd (cc) });
      excused = λ i j v u wait section e waits. absurd
          (each_one (λ (z : View). (x : Waiting) → z.wait ≡ Some x → ⊥) (first_view k)
          (λ x none. absurd (let q : None ≡ Some x = none in cc)) i v e wait waits);
      turned = each_one (λ (u : View). (wait : Waiting) → u.wait ≡ Some wait → IsTurnedOnce wait) (first_view k) (λ wait none. absurd (cc));
      eer = λ way. record {
        inside = each_one (λ (u : View). (section : Section) → u.section ≡ Some section → _) (first_view k) (λ section none. absurd (cc));
        outside = λ p lt none. fresh.stamps p way lt;
        announced = each_one (λ (u : View). (key : ℕ) → u.enter.announced ≡ Some key → _) (first_view k) (λ key none. absurd (cc));
      };
      domain = λ way. record {
        counts = λ c side small low. (let e = fresh.counts c side in omega arith);
        sides = each_one (λ (u : View). (section : Section) → u.section ≡ Some section → section.stamp < 2) (first_view k)
            (λ section none. absurd (cc));
      };
      deer = λ way. record {
        inside = each_one (λ (u : View). (section : Section) → u.section ≡ Some section → _) (first_view k) (λ section none. absurd (cc));
        outside = λ p c lt small none. fresh.rows p c way lt small;
      };
    };
    slots = record {
      roles = record {
        once = one_role;
        beyond = λ s far. (let e = spare_out s (inr (omega arith)) in omega arith);
        states = λ s lt. dite (dec_le s k.places) (λ low. (let e = state_one s lt low in omega arith))
            (λ high. (let e = state_zero s lt (omega arith) in omega arith));
      };
      few = each_one (HasFewSlots k.room) (first_view k) (record {
        one = λ e. refl;
        few = omega arith;
        room = λ move is. omega arith;
        joined = each_none (HasFewSpent k.room);
        next_spare = λ works none. absurd (cc);
      });
      free = λ s lt e. even_life s;
      root = fresh.lives 0;
      hands = each_one (AreHandsKnown m) (first_view k) (record {
        hand = λ held none. absurd (cc);
        spare = λ held is field number known. absurd
            (let e : unknown_slot 1 ≡ held = cc in let q : None ≡ Some number = ap (λ (x : Held). known_in x.known field) e ∙ known in cc);
        copy = λ move none. absurd (cc);
        spares = λ s has. even_life s;
      });
      retired = each_one (λ (u : View). Each (retired_of u) (IsRetired m [])) (first_view k) (each_none (IsRetired m []));
      unlinked = λ s p e. absurd (cc);
    };
    locks = record {
      locked = record {
        held = each_one (λ (u : View). (s : ℕ) (lock : HeldLock) → _) (first_view k) (λ s lock none. absurd (cc));
        named = λ s lt ne. absurd (ne (fresh.locks s));
      };
      few = each_one HasFewLocks (first_view k) (record
          { once = λ s. omega arith; few = omega arith; outside = λ section none. absurd (cc) });
      kept = each_one (λ (u : View). (s : ℕ) (lock : HeldLock) → _) (first_view k) (λ s lock none. absurd (cc));
      marked = λ s l odd. absurd (let e = even_life s in omega arith);
      known = each_one (λ (u : View). (s : ℕ) (lock : HeldLock) → _) (first_view k) (λ s lock none. absurd (cc));
      readings = each_one (λ (u : View). Each (readings_of u) (IsReadingKept m fresh_chart)) (first_view k)
          (each_none (IsReadingKept m fresh_chart));
    };
    counts = record {
      free = (let a = free_count in let b = fresh.free in omega arith);
      clock = (let a = fresh.clock in omega arith);
      generations = (let a = sum_zero (λ s. m (Life s) / 2) (slot_count k) (λ s lt. ap (λ z. z / 2) (fresh.lives s)) in
          let b = none_linked in omega arith);
      tags = (let a = sum_zero (λ s. m (Tag s Left) + m (Tag s Right)) (slot_count k)
          (λ s lt. (let x = fresh.tags s Left in let y = fresh.tags s Right in omega arith)) in omega arith);
      turns = omega arith;
      pairs = none_young ∙ sym (finite.len-empty nat_cmp ℕ);
      olds = none_old;
    };
    tree = record {
      shape = record {
        root = refl;
        root_left = fresh.links 0 Left;
        root_low = refl;
        root_high = refl;
        root_new = refl;
        below = λ s c b l e ne. absurd (ne (sym e ∙ fresh.links s b));
        hangs = λ c l ne. absurd (ne (only_root c l));
        keyed = λ s l ne o. absurd (ne (only_root s l));
        displaced = λ s l o. absurd (cc);
        within = λ s l. (let e = only_root s l in omega arith);
      };
      map = record {
        sound = λ s l ne o. absurd (ne (only_root s l));
        complete = λ x v e. absurd (let q : None ≡ Some v = sym (finite.get-empty nat_cmp x) ∙ e in cc);
      };
      moves = record {
        each = each_one (λ (u : View). (move : Move) → u.moving ≡ Some move → IsMoving m fresh_chart [] u move) (first_view k)
            (λ move none. absurd (cc));
        every = λ s l o. absurd (cc);
        one_old = λ i j v w a b ea eb ia ib e. no_moves v w i j a b ea ia;
        one_copy = λ i j v w a b ea eb ia ib e. no_moves v w i j a b ea ia;
      };
    };
    readers = record {
      readings = each_one (λ (u : View). Each (readings_of u) IsReading) (first_view k) (each_none IsReading);
      served = each_one (λ (u : View). (section : Section) → u.section ≡ Some section → IsServed m fresh_chart [] one_view section)
          (first_view k) (λ section none. absurd (cc));
      records = each_one (λ (u : View). Each u.records (IsRecord m fresh_chart one_view)) (first_view k)
          (each_none (IsRecord m fresh_chart one_view));
      ages = λ s at c b gone. absurd (cc);
    };
    front = record {
      turned = inl ((let a = fresh.front in let b = fresh.moved in omega arith), each_one (λ (u : View). u.commit ≡ None) (first_view k) refl);
      settled = each_one (λ (u : View). (commit : Commit) → u.commit ≡ Some commit → commit.stored ≡ false → u.moving ≡ None) (first_view k)
          (λ commit none unmade. refl);
      last = record { word = fresh.moved; once = omega arith; none = refl };
      legal = tt;
    };
    listings = record {
      listings = each_one (λ (u : View). (section : Section) (listing : Listing) → u.section ≡ Some section → section.listing ≡ Some listing
          → IsListing m fresh_chart [] section listing) (first_view k) (λ section listing none. absurd (cc));
    };
    grace = record {
      grace = λ i j e p n low high q c x began. absurd (cc);
      reuse = λ j s i p a o at. absurd (cc);
      clean = λ s at gone last. absurd (cc);
      retired = each_one (λ (u : View). Each u.hands.retired (IsWaitedRetired one_view [] u.allowance.place)) (first_view k)
          (each_none (IsWaitedRetired one_view [] 0));
      joined = each_one (λ (u : View). Each u.allowance.joined (λ (s : Spent). Each s.retired (IsWaitedRetired one_view [] s.place)))
          (first_view k) (each_none (λ (s : Spent). Each s.retired (IsWaitedRetired one_view [] s.place)));
      moves = each_one (λ (u : View). (move : Move) → u.moving ≡ Some move → IsWaitedMove one_view [] u.allowance.place move) (first_view k)
          (λ move none. absurd (cc));
    };
  }

pub fresh_holds : FreshHolds
fresh_holds k m table fresh = starts k m table fresh
