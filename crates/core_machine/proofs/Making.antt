-- The machine as it is made, and a run of it: who hasn't ended, and who is drawn.
-- The callers whose scripts haven't ended.
use Rattle.std.proofs.Common.{◌≡◌, ℕ, zero, suc, ◌+◌, ◌%◌, ◌<◌, ◌≤◌, ◌==◌, cond, Bool, true, false, List, [], ◌∷◌, ◌++◌, length, map, drop, set, slice_get, slice_index_or, Some, refl, sym, ap, subst, ◌∙◌, arith, append-nil, length-append, ◌*◌, ◌/◌, take, None}
use Rattle.std.proofs.lemmas.List.{append_assoc, drop_more, length-map, map-append}
use Rattle.std.proofs.lemmas.Nat.{mod_below}
use Rattle.core_points.specs.Programs.{Own, begun_with}
use Rattle.core_points.specs.Laws.{is_finished}
use Rattle.core_machine.specs.declared.caller.Caller.{Caller}
use Rattle.core_machine.specs.Runs.{unfinished_from, new_own, core, made_owns, shape_of, tickets_of, Core, history_of, new_core, step, steps, tolds_of, AreDrawn, caller_at, unfinished}
use Rattle.core_machine.specs.Stored.{own_of, HasRoom}
use Rattle.prcu_model.specs.declared.operation.Op.{Op}
use Rattle.prcu_model.specs.declared.operation.Told.{Told}
use Rattle.core_state.specs.declared.shape.Shape.{Shape}
use Rattle.prcu_model.specs.declared.operation.Update.{Update}
use Rattle.prcu_model.specs.Scripts.{AllFit, op_count}
use Rattle.core_state.specs.Memory.{memory_of}
use Rattle.seat_table.specs.Seats.{first_words}
use Rattle.seat_table.proofs.Facts.{first_long}
use Rattle.core_laws.specs.Whole.{place_views}
use Rattle.core_machine.specs.Laws.{IsMachine, shape_for, DrawsEnd}
use Rattle.core_machine.specs.Machines.{standing_of, HasStored, IsReached, HasEnded, HasRun, MachineAt}
use Rattle.core_machine.proofs.Accounts.{owns_count, ends_are_explained, tolds_are_explained}
use Rattle.core_machine.proofs.Owning.{at_of}
use Rattle.workload.specs.Draws.{drawn, next_state}
use Rattle.prcu_model.specs.Fronts.{AreExplainable, StaysWithin}
use Rattle.prcu_model.specs.Dictionary.{IsLegal}
use Rattle.core_machine.proofs.Running.{cores_are_sound}
use Rattle.core_machine.proofs.Storing.{steps_more}

-- the unfinished callers from an index on
abbrev pub rest_from : List Caller → ℕ → List ℕ
rest_from callers i = unfinished_from i (map own_of (drop i callers))

rest_is : (callers : List Caller) (i : ℕ) (d : Caller) (b : Bool) → i < length callers → is_finished (slice_index_or callers i d).stage ≡ b
    → rest_from callers i ≡ cond b (rest_from callers (i + 1)) (i ∷ rest_from callers (i + 1))
rest_is callers i d b below is =
    ap (λ (cs : List Caller). unfinished_from i (map own_of cs)) (drop_more callers i d below)
    ∙ ap (λ z. cond z (rest_from callers (i + 1)) (i ∷ rest_from callers (i + 1))) is

pub rest_ended : (callers : List Caller) (i : ℕ) (d : Caller) → i < length callers → is_finished (slice_index_or callers i d).stage ≡ true
    → rest_from callers i ≡ rest_from callers (i + 1)
rest_ended callers i d below is = rest_is callers i d true below is

pub rest_going : (callers : List Caller) (i : ℕ) (d : Caller) → i < length callers → is_finished (slice_index_or callers i d).stage ≡ false
    → rest_from callers i ≡ i ∷ rest_from callers (i + 1)
rest_going callers i d below is = rest_is callers i d false below is

-- what was listed so far, with the rest, is all
pub record HasListed (callers : List Caller) (i : ℕ) (left : List ℕ) : Type 0 where
  pub all : left ++ rest_from callers i ≡ rest_from callers 0
  pub few : length left ≤ i

pub lists_ended : (callers : List Caller) (i : ℕ) (left : List ℕ) (d : Caller) → i < length callers
    → is_finished (slice_index_or callers i d).stage ≡ true → HasListed callers i left → HasListed callers (i + 1) left
lists_ended callers i left d below is h = record {
  all = ap (λ l. left ++ l) (sym (rest_ended callers i d below is)) ∙ h.all;
  few = (let f = h.few in omega (arith, f));
}

pub lists_going : (callers : List Caller) (i : ℕ) (left : List ℕ) (d : Caller) → i < length callers
    → is_finished (slice_index_or callers i d).stage ≡ false → HasListed callers i left → HasListed callers (i + 1) (left ++ i ∷ [])
lists_going callers i left d below is h = record {
  all = append_assoc left (i ∷ []) (rest_from callers (i + 1)) ∙ ap (λ l. left ++ l) (sym (rest_going callers i d below is)) ∙ h.all;
  few = (let f = h.few in let l = length-append left (i ∷ []) in omega (arith, f, l));
}

nothing_past : (callers : List Caller) (i : ℕ) → length callers ≤ i → rest_from callers i ≡ []
nothing_past callers i past = ap (λ (cs : List Caller). unfinished_from i (map own_of cs)) (none callers i past)
  where
    none : (cs : List Caller) (n : ℕ) → length cs ≤ n → drop n cs ≡ []
    none [] zero past = refl
    none [] (suc n) past = refl
    none (x ∷ xs) zero past = absurd (omega (arith, past))
    none (x ∷ xs) (suc n) past = none xs n (omega (arith, past))

pub lists_all : (callers : List Caller) (i : ℕ) (left : List ℕ) → length callers ≤ i → HasListed callers i left → left ≡ rest_from callers 0
lists_all callers i left past h = sym (append-nil left) ∙ ap (λ l. left ++ l) (sym (nothing_past callers i past)) ∙ h.all

-- ---- who is drawn hasn't ended, and a step after which its script goes on leaves the list

pub record IsGoing (os : List Own) (i : ℕ) : Type 0 where
  pub own : Own
  pub there : slice_get os i ≡ Some own
  pub going : is_finished own.stage ≡ false

-- one caller of the list from k on
abbrev pub GoesAt : ℕ → List Own → List ℕ → ℕ → Type 0
GoesAt k os is p = (j : ℕ) × (slice_index_or is p 0 ≡ k + j) × IsGoing os j

going_later : (k : ℕ) (o : Own) (os : List Own) (is : List ℕ) (p : ℕ) → GoesAt (k + 1) os is p → GoesAt k (o ∷ os) is p
going_later k o os is p (j, e, g) = let next : k + 1 + j ≡ k + suc j = omega arith in
    (suc j, e ∙ next, record { own = g.own; there = g.there; going = g.going })

going_one : (k : ℕ) (o : Own) (os : List Own) (b : Bool) → is_finished o.stage ≡ b
    → ((q : ℕ) → q < length (unfinished_from (k + 1) os) → GoesAt (k + 1) os (unfinished_from (k + 1) os) q) → (p : ℕ)
    → p < length (cond b (unfinished_from (k + 1) os) (k ∷ unfinished_from (k + 1) os))
    → GoesAt k (o ∷ os) (cond b (unfinished_from (k + 1) os) (k ∷ unfinished_from (k + 1) os)) p
going_one k o os true is rest p below = going_later k o os (unfinished_from (k + 1) os) p (rest p below)
going_one k o os false is rest zero below = let same : k ≡ k + 0 = omega arith in (0, same, record { own = o; there = refl; going = is })
going_one k o os false is rest (suc p) below = let l = going_later k o os (unfinished_from (k + 1) os) p (rest p (omega (arith, below))) in
    (l.0, l.1, l.2)

going_at : (k : ℕ) (os : List Own) (p : ℕ) → p < length (unfinished_from k os) → GoesAt k os (unfinished_from k os) p
going_at k [] p below = absurd (omega (arith, below))
going_at k (o ∷ os) p below = going_one k o os (is_finished o.stage) refl (going_at (k + 1) os) p below

pub drawn_going : (os : List Own) (p : ℕ) → p < length (unfinished_from 0 os) → IsGoing os (slice_index_or (unfinished_from 0 os) p 0)
drawn_going os p below = let g = going_at 0 os p below in
    let same : g.0 ≡ slice_index_or (unfinished_from 0 os) p 0 = (let e = g.1 in omega (arith, e)) in subst (λ j. IsGoing os j) same g.2

pub going_below : (os : List Own) (i : ℕ) → IsGoing os i → i < length os
going_below os i g = by os i g.own g.there
  where
    by : (os : List Own) (i : ℕ) (o : Own) → slice_get os i ≡ Some o → i < length os
    by [] i o e = absurd (cc)
    by (x ∷ os) zero o e = omega arith
    by (x ∷ os) (suc i) o e = let b = by os i o e in omega (arith, b)

same_unfinished : (k : ℕ) (os : List Own) (i : ℕ) (o changed : Own) → slice_get os i ≡ Some o → is_finished o.stage ≡ false
    → is_finished changed.stage ≡ false → unfinished_from k (set os i changed) ≡ unfinished_from k os
same_unfinished k [] i o changed e was now = refl
same_unfinished k (x ∷ os) zero o changed e was now =
    let same : x ≡ o = cc in
    ap (λ b. cond b (unfinished_from (k + 1) os) (k ∷ unfinished_from (k + 1) os))
    (now ∙ sym was ∙ ap (λ (z : Own). is_finished z.stage) (sym same))
same_unfinished k (x ∷ os) (suc i) o changed e was now =
    ap (λ l. cond (is_finished x.stage) l (k ∷ l)) (same_unfinished (k + 1) os i o changed e was now)

changed_there : (os : List Own) (i : ℕ) (o changed own : Own) → slice_get os i ≡ Some o → slice_get (set os i changed) i ≡ Some own
    → changed ≡ own
changed_there [] i o changed own e now = absurd (cc)
changed_there (x ∷ os) zero o changed own e now = cc
changed_there (x ∷ os) (suc i) o changed own e now = changed_there os i o changed own e now

pub kept_after : (os next : List Own) (i : ℕ) (changed own : Own) → IsGoing os i → next ≡ set os i changed → slice_get next i ≡ Some own
    → is_finished own.stage ≡ false → unfinished_from 0 os ≡ unfinished_from 0 next
kept_after os next i changed own g is there going =
    let same : changed ≡ own = changed_there os i g.own changed own g.there
    (subst (λ (ns : List Own). slice_get ns i ≡ Some own) is there) in
    sym (ap (unfinished_from 0) is ∙ same_unfinished 0 os i g.own changed g.there g.going
    (ap (λ (z : Own). is_finished z.stage) same ∙ going))

-- ---- who is drawn from the list

pub some_left : (n : ℕ) → (n == 0) ≡ false → 1 ≤ n
some_left zero e = absurd (cc)
some_left (suc n) e = omega arith

module _ (os : List Own) (left shown : List ℕ) (number len : ℕ) (is : left ≡ unfinished_from 0 os) (shown_is : shown ≡ left)
    (len_is : len ≡ length left) where
  pub picked_is : slice_index_or shown (number % len) 0 ≡ slice_index_or (unfinished_from 0 os) (number % length (unfinished_from 0 os)) 0
  picked_is j = slice_index_or ((shown_is ∙ is) j) (number % (len_is ∙ ap length is) j) 0

  pub picked_going : 1 ≤ length left → IsGoing os (slice_index_or shown (number % len) 0)
  picked_going some =
      let all : List ℕ = unfinished_from 0 os in
      let below : number % length all < length all = mod_below number (length all) (subst (λ (l : List ℕ). 1 ≤ length l) is some) in
      subst (λ i. IsGoing os i) (sym picked_is) (drawn_going os (number % length all) below)

-- A caller as it is made is the core's.

rest_is_free : (o : Own) (script : List Op) → begun_with (record o { rest = script }) script ≡ begun_with (record o { rest = [] }) script
rest_is_free o [] = refl
rest_is_free o (op ∷ ops) = refl

pub fresh_begins : (k : Shape) (p : ℕ) (told : List Told) (retired locks : List ℕ) (scan : ℕ) (items script : List Op) → told ≡ []
    → retired ≡ [] → locks ≡ [] → scan ≡ k.places + 1 + p * k.slots / k.places → items ≡ script
    → begun_with (record (new_own k p) { told = told; retired = retired; locks = locks; scan = scan; rest = items }) items
    ≡ begun_with (new_own k p) script
fresh_begins k p told retired locks scan items script t r l s e =
    (λ i. begun_with (record (new_own k p) { told = t i; retired = r i; locks = l i; scan = s i; rest = e i }) (e i))
    ∙ rest_is_free (new_own k p) script

-- The machine as it is made is the core's.

module _ {A : Type 0} where
  next_taken : (xs : List A) (n : ℕ) (x : A) → slice_get xs n ≡ Some x → take (suc n) xs ≡ take n xs ++ x ∷ []
  next_taken [] n x e = cc
  next_taken (y ∷ ys) zero x e = let same : y ≡ x = cc in ap (λ z. z ∷ []) same
  next_taken (y ∷ ys) (suc n) x e = ap (λ zs. y ∷ zs) (next_taken ys n x e)

  taken : (xs : List A) (n : ℕ) (x : A) → slice_get xs n ≡ Some x → take (n + 1) xs ≡ take n xs ++ x ∷ []
  taken xs n x e = let next : n + 1 ≡ suc n = omega arith in ap (λ m. take m xs) next ∙ next_taken xs n x e

  taken_long : (xs : List A) (n : ℕ) (x : A) → slice_get xs n ≡ Some x → length (take n xs) ≡ n
  taken_long [] n x e = cc
  taken_long (y ∷ ys) zero x e = refl
  taken_long (y ∷ ys) (suc n) x e = ap suc (taken_long ys n x e)

  pub added_keeps : (P : A → Type 0) (xs : List A) (x : A) → P x → ((j : ℕ) (d : A) → slice_get xs j ≡ Some d → P d) → (j : ℕ) (d : A)
      → slice_get (xs ++ x ∷ []) j ≡ Some d → P d
  added_keeps P [] x px all zero d e = let same : x ≡ d = cc in subst P same px
  added_keeps P [] x px all (suc j) d e = cc
  added_keeps P (y ∷ ys) x px all zero d e = all zero d e
  added_keeps P (y ∷ ys) x px all (suc j) d e = added_keeps P ys x px (λ k z q. all (suc k) z q) j d e

made_more : (k : Shape) (p : ℕ) (xs : List (List Op)) (x : List Op)
    → made_owns k p (xs ++ x ∷ []) ≡ made_owns k p xs ++ begun_with (new_own k (p + length xs)) x ∷ []
made_more k p [] x = let same : p ≡ p + 0 = omega arith in ap (λ z. begun_with (new_own k z) x ∷ []) same
made_more k p (y ∷ ys) x =
    let same : p + 1 + length ys ≡ p + suc (length ys) = omega arith in
    ap (λ l. begun_with (new_own k p) y ∷ l) (made_more k (p + 1) ys x
    ∙ ap (λ z. made_owns k (p + 1) ys ++ begun_with (new_own k z) x ∷ []) same)

made_first : (k : Shape) (xs : List (List Op)) (x : List Op)
    → made_owns k 0 (xs ++ x ∷ []) ≡ made_owns k 0 xs ++ begun_with (new_own k (length xs)) x ∷ []
made_first k xs x = let same : 0 + length xs ≡ length xs = omega arith in
    made_more k 0 xs x ∙ ap (λ z. made_owns k 0 xs ++ begun_with (new_own k z) x ∷ []) same

-- the callers of the first scripts are made
pub record HasMade (scripts : List (List Op)) (slots places : ℕ) (kept : List Caller) (place : ℕ) : Type 0 where
  pub owns : map own_of kept ≡ made_owns (shape_for slots places) 0 (take place scripts)
  pub rooms : (i : ℕ) (c : Caller) → slice_get kept i ≡ Some c → HasRoom c
  pub nowhere : (i : ℕ) (c : Caller) → slice_get kept i ≡ Some c → c.stands ≡ None

pub makes_none : (scripts : List (List Op)) (slots places : ℕ) (kept : List Caller) → kept ≡ [] → HasMade scripts slots places kept 0
makes_none scripts slots places kept none = subst (λ ks. HasMade scripts slots places ks 0) (sym none)
    (record { owns = refl; rooms = λ i c e. cc; nowhere = λ i c e. cc })

pub makes_more : (scripts : List (List Op)) (slots places : ℕ) (kept next : List Caller) (place : ℕ) (script : List Op) (c : Caller)
    → slice_get scripts place ≡ Some script
    → own_of c ≡ begun_with (new_own (shape_for slots places) place) script → HasRoom c → c.stands ≡ None → next ≡ kept ++ c ∷ []
    → HasMade scripts slots places kept place → HasMade scripts slots places next (place + 1)
makes_more scripts slots places kept next place script c there own room nowhere is h =
    let k : Shape = shape_for slots places in
    subst (λ ks. HasMade scripts slots places ks (place + 1)) (sym is) (record {
      owns = map-append own_of kept (c ∷ []) ∙ (λ j. h.owns j ++ own j ∷ [])
          ∙ ap (λ z. made_owns k 0 (take place scripts) ++ begun_with (new_own k z) script ∷ [])
          (sym (taken_long scripts place script there))
          ∙ sym (made_first k (take place scripts) script) ∙ ap (made_owns k 0) (sym (taken scripts place script there));
      rooms = added_keeps (λ (z : Caller). HasRoom z) kept c room h.rooms;
      nowhere = added_keeps (λ (z : Caller). z.stands ≡ None) kept c nowhere h.nowhere;
    })

pub makes_all : (scripts : List (List Op)) (slots places : ℕ) (kept : List Caller) (place : ℕ) → length scripts ≤ place
    → HasMade scripts slots places kept place → map own_of kept ≡ made_owns (shape_for slots places) 0 scripts
makes_all scripts slots places kept place all h = h.owns ∙ ap (made_owns (shape_for slots places) 0) (whole_of scripts place all)
  where
    whole_of : (xs : List (List Op)) (n : ℕ) → length xs ≤ n → take n xs ≡ xs
    whole_of [] zero past = refl
    whole_of [] (suc n) past = refl
    whole_of (x ∷ xs) zero past = absurd (omega (arith, past))
    whole_of (x ∷ xs) (suc n) past = ap (λ l. x ∷ l) (whole_of xs n (omega (arith, past)))

owns_same : (k z : Shape) (p : ℕ) (scripts : List (List Op)) → k.slots ≡ z.slots → k.places ≡ z.places → k.room ≡ z.room
    → made_owns k p scripts ≡ made_owns z p scripts
owns_same k z p [] slots places room = refl
owns_same k z p (s ∷ ss) slots places room = (λ j. begun_with
    (new_own (record { waiter = k.waiter; slots = slots j; places = places j; room = room j; tickets = k.tickets }) p) s
    ∷ owns_same k z (p + 1) ss slots places room j)

none_stand : (kept : List Caller) (p : ℕ) (scripts : List (List Op)) → length kept ≡ length scripts
    → ((i : ℕ) (c : Caller) → slice_get kept i ≡ Some c → c.stands ≡ None)
    → map (λ (c : Caller). c.stands) kept ≡ map standing_of (place_views p (tickets_of scripts))
none_stand [] p [] same all = refl
none_stand (c ∷ cs) p (s ∷ ss) same all = let rest = none_stand cs (p + 1) ss (omega (arith, same)) (λ i d e. all (suc i) d e) in
    λ j. all zero c refl j ∷ rest j
none_stand _ p _ same all = absurd (omega (arith, same))

-- a machine of the words of a fresh table and of the callers as they are made
module _ (scripts : List (List Op)) (slots : ℕ) (some_slot : 1 ≤ slots) (few_slots : slots ≤ 2097152) (some_script : 1 ≤ length scripts)
    (few_scripts : length scripts ≤ 64) (few_ops : op_count scripts ≤ 1048576) (fit : AllFit scripts)
    (words : List ℕ) (kept : List Caller) (updates : List Update)
    (words_are : words ≡ first_words (shape_for slots (length scripts)))
    (owns_are : map own_of kept ≡ made_owns (shape_for slots (length scripts)) 0 scripts) (updates_are : updates ≡ [])
    (nowhere : (i : ℕ) (c : Caller) → slice_get kept i ≡ Some c → c.stands ≡ None) where
  pub is_machine : IsMachine scripts slots
  is_machine = record {
    some_slot = some_slot;
    few_slots = few_slots;
    some_script = some_script;
    few_scripts = few_scripts;
    few_ops = few_ops;
    fit = fit;
  }

  pub made_stored : HasStored scripts slots (core scripts slots []) (at_of words kept updates)
  made_stored = record {
    words = record { long = first_long (shape_of slots scripts) words words_are; same = ap (memory_of (shape_of slots scripts)) words_are };
    owns = owns_are ∙ owns_same (shape_for slots (length scripts)) (shape_of slots scripts) 0 scripts refl refl refl;
    updates = updates_are;
    standing = none_stand kept 0 scripts (sym (length-map kept own_of) ∙ ap length owns_are
        ∙ owns_count (shape_for slots (length scripts)) 0 scripts) nowhere;
  }

  pub made_reached : (capacity : ℕ) → 4 * op_count scripts < capacity → ((i : ℕ) (c : Caller) → slice_get kept i ≡ Some c → HasRoom c)
      → IsReached (at_of words kept updates) kept capacity
  made_reached capacity few rooms = record {
    scripts = scripts;
    slots = slots;
    callers = [];
    machine = is_machine;
    stored = made_stored;
    rooms = rooms;
    few = few;
  }

-- A run steps the callers that are drawn.

-- the callers drawn so far, and that whoever is drawn from the state on goes behind them
pub record IsDrawing (scripts : List (List Op)) (slots : ℕ) (callers : List ℕ) (number state : ℕ) (m : MachineAt) : Type 0 where
  pub done : List ℕ
  pub goes_on : (rest : List ℕ) → AreDrawn (core scripts slots (callers ++ done)) state rest
      → AreDrawn (core scripts slots callers) number (done ++ rest)
  pub stored : HasStored scripts slots (core scripts slots (callers ++ done)) m

ends_bare : (callers : List ℕ) → callers ++ [] ≡ callers
ends_bare [] = refl
ends_bare (i ∷ is) = ap (λ l. i ∷ l) (ends_bare is)

pub begins_drawing : (scripts : List (List Op)) (slots : ℕ) (callers : List ℕ) (number : ℕ) (m : MachineAt)
    → HasStored scripts slots (core scripts slots callers) m → IsDrawing scripts slots callers number number m
begins_drawing scripts slots callers number m stored = record {
  done = [];
  goes_on = λ rest d. subst (λ is. AreDrawn (core scripts slots is) number rest) (ends_bare callers) d;
  stored = subst (λ is. HasStored scripts slots (core scripts slots is) m) (sym (ends_bare callers)) stored;
}

pub goes_drawing : (scripts : List (List Op)) (slots : ℕ) (callers : List ℕ) (number state i : ℕ) (m next : MachineAt)
    → (d : IsDrawing scripts slots callers number state m)
    → 1 ≤ length (unfinished_from 0 m.owns) → i ≡ slice_index_or (unfinished_from 0 m.owns)
    (drawn (next_state state) % length (unfinished_from 0 m.owns)) 0
    → HasStored scripts slots (core scripts slots ((callers ++ d.done) ++ i ∷ [])) next
    → IsDrawing scripts slots callers number (next_state state) next
goes_drawing scripts slots callers number state i m next d some is stored =
    let c : Core = core scripts slots (callers ++ d.done) in
    let order : (callers ++ d.done) ++ i ∷ [] ≡ callers ++ (d.done ++ i ∷ []) = append_assoc callers d.done (i ∷ []) in
    let after : core scripts slots (callers ++ (d.done ++ i ∷ [])) ≡ step c i =
    ap (core scripts slots) (sym order) ∙ steps_more (new_core scripts slots) (callers ++ d.done) i in
    let some_now : 1 ≤ length (unfinished c) = subst (λ (os : List Own). 1 ≤ length (unfinished_from 0 os)) d.stored.owns some in
    let drawn_now : i ≡ caller_at c (next_state state) =
    is ∙ ap (λ (os : List Own). slice_index_or (unfinished_from 0 os)
    (drawn (next_state state) % length (unfinished_from 0 os)) 0) d.stored.owns in
    record {
      done = d.done ++ i ∷ [];
      goes_on = λ rest more. subst (λ is. AreDrawn (core scripts slots callers) number is) (sym (append_assoc d.done (i ∷ []) rest))
          (d.goes_on (i ∷ rest) (some_now, drawn_now, subst (λ z. AreDrawn z (next_state state) rest) after more));
      stored = subst (λ is. HasStored scripts slots (core scripts slots is) next) order stored;
    }

-- Between two turns of a run from this machine on: the callers that are left are those that haven't ended, and whoever was drawn has
-- stepped.
pub record IsRunning (first : MachineAt) (number state : ℕ) (left : List ℕ) (m : MachineAt) : Type 0 where
  pub count : length m.owns ≡ length first.owns
  pub left_are : left ≡ unfinished_from 0 m.owns
  pub draws : (scripts : List (List Op)) (slots : ℕ) (callers : List ℕ) → IsMachine scripts slots
      → HasStored scripts slots (core scripts slots callers) first → IsDrawing scripts slots callers number state m

pub begins_running : (m : MachineAt) (number : ℕ) (left : List ℕ) → left ≡ unfinished_from 0 m.owns → IsRunning m number number left m
begins_running m number left is = record {
  count = refl;
  left_are = is;
  draws = λ scripts slots callers machine stored. begins_drawing scripts slots callers number m stored;
}

no_more : (xs : List ℕ) → length xs ≡ 0 → xs ≡ []
no_more [] e = refl
no_more (x ∷ xs) e = absurd (omega (arith, e))

pub ends_drawing : (scripts : List (List Op)) (slots : ℕ) (callers : List ℕ) (number state : ℕ) (m : MachineAt)
    → length (unfinished_from 0 m.owns) ≡ 0 → IsDrawing scripts slots callers number state m → HasRun scripts slots callers number m
ends_drawing scripts slots callers number state m ended d = record {
  drawn = d.done;
  draws = subst (λ is. AreDrawn (core scripts slots callers) number is) (ends_bare d.done)
      (d.goes_on [] (ap (unfinished_from 0) (sym d.stored.owns) ∙ no_more (unfinished_from 0 m.owns) ended));
  stored = d.stored;
}

-- ---- how a run ends

pub draws_end : DrawsEnd
draws_end c state [] drawn = drawn
draws_end c state (i ∷ is) drawn = draws_end (step c i) (next_state state) is drawn.2

steps_on : (c : Core) (first rest : List ℕ) → steps c (first ++ rest) ≡ steps (steps c first) rest
steps_on c [] rest = refl
steps_on c (i ∷ is) rest = steps_on (step c i) is rest

pub run_ends : (scripts : List (List Op)) (slots : ℕ) (callers : List ℕ) (number : ℕ) (m : MachineAt) → IsMachine scripts slots
    → HasRun scripts slots callers number m → HasEnded scripts slots m
run_ends scripts slots callers number m machine run =
    let all : List ℕ = callers ++ run.drawn in
    let c : Core = core scripts slots all in
    let over : unfinished c ≡ [] = ap unfinished (steps_on (new_core scripts slots) callers run.drawn)
    ∙ draws_end (core scripts slots callers) number run.drawn run.draws in
    let told : map (λ (o : Own). o.told) m.owns ≡ tolds_of c = ap (map (λ (o : Own). o.told)) run.stored.owns in
    record {
      explained = subst (λ us. AreExplainable scripts (map (λ (o : Own). o.told) m.owns) us slots) (sym run.stored.updates)
          (subst (λ ts. AreExplainable scripts ts (history_of c) slots) (sym told) (ends_are_explained scripts slots all machine over).0);
      legal = subst IsLegal (sym run.stored.updates) (tolds_are_explained scripts slots all machine).legal;
      within = subst (λ us. StaysWithin us slots) (sym run.stored.updates) (cores_are_sound scripts slots all machine).invariant.within;
    }
