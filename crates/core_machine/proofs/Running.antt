-- The core from its making on: it has the invariant, its steps are allowed, and where searches stand.
use Rattle.std.proofs.Common.{◌≡◌, ℕ, ◌+◌, ◌==◌, cond, Bool, true, false, List, [], ◌∷◌, refl, ◌*◌, ◌/◌, ◌<◌, ◌≤◌, subst, arith, div-lt_iff_lt-mul, ◌≢◌, ◌⊎◌, ◌++◌, set, sym, ap, ◌∙◌, ⊎_elim, inl, inr, Option as Opt, zero, suc, ◌^◌, length, ◌&&◌, not, Some, None, eq-eqb}
use Rattle.prcu_model.specs.declared.operation.Op.{Op}
use Rattle.core_state.specs.Memory.{stored, memory_of, same_side}
use Rattle.core_points.specs.declared.stage.Stage.{Stage}
use Rattle.core_points.specs.Programs.{Own, after, begun_with, marks_of, view_after, act_at, Act, field_of, Needs, is_some as has_slot, store_act}
use Rattle.std.proofs.Math.Nat.{mul-le-mul_right, mul-lt-mul_of_pos_right, mul_comm}
use mathlib.Core.Logic.{dite}
use native.Mathlib.Decide.{ℕ_discrete}
use mathlib.Core.Option.{Option, none, some, some-injective}
use lib.ListN.{get_elem?}
use Rattle.atomic_table.proofs.Lists.{set_here, set_else}
use Rattle.core_state.specs.declared.shape.Shape.{Shape}
use Rattle.core_state.specs.declared.shape.Waiter.TheVariants.{Eer}
use Rattle.core_state.specs.declared.view.View.{View}
use Rattle.core_state.specs.declared.words.Field.{Field}
use Rattle.core_state.specs.Invariant.{Invariant, IsShape}
use Rattle.core_frames.specs.Laws.{KeepsPast}
use Rattle.list_laws.proofs.Lists.{at_below}
use Rattle.prcu_marks.specs.Marks.{left_by, said_by, most_tickets, StaysWord}
use Rattle.core_state.specs.Acts.{access_of, noted, Asks, IsWord, section_of}
use Rattle.core_points.specs.Fits.{Fits}
use Rattle.core_points.specs.Laws.{is_finished, IsFree, IsTold}
use Rattle.core_points.proofs.Calls.{OfTable, keeps_table}
use Rattle.core_points.proofs.AllPoints.{points_keep, needs_are_given, rule_tells, acts_are_within}
use Rattle.core_machine.specs.Runs.{Core, told_in, moved, moved_by, step, steps, core, made_owns, new_own, shape_of, tickets_of}
use Rattle.std.specs.List.{AllByRecursion}
use Rattle.std.proofs.lemmas.List.Sums.{sum_by-cons}
use Rattle.list_laws.specs.Counts.{Each, total}
use Rattle.prcu_model.specs.declared.operation.Op.TheVariants.{Put, Set}
use Rattle.prcu_model.specs.Dictionary.{key_of}
use Rattle.prcu_model.specs.Scripts.{AllFit, FitsWords, op_count}
use Rattle.core_state.specs.Steps.{new_view, after_search_load, key_stand, linked_on, loaded, searched, walked}
use Rattle.seat_table.specs.Seats.{first_words}
use Rattle.seat_table.proofs.Facts.{fresh, fits}
use Rattle.core_laws.specs.Whole.{place_views}
use Rattle.core_laws.proofs.Whole.{places_begin}
use Rattle.core_points.proofs.Notes.{begins, new_views_are_free}
use Rattle.core_machine.specs.Laws.{IsMachine, CoresAreSound, IsAllowed, StepsAreAllowed}
use Rattle.core_state.specs.Views.{Works}
use Rattle.core_laws.proofs.Acting.{has_word, moves_search, section_is, section_stays}
use Rattle.prcu_marks.specs.declared.mark.Mark.{Mark}
use Rattle.prcu_marks.specs.declared.mark.Side.{Side}
use Rattle.prcu_marks.specs.declared.mark.Side.TheVariants.{Left, Right}
use Rattle.core_state.specs.declared.words.Field.TheVariants.{Key, Value, Life, Link, Tag}
use Rattle.core_state.specs.declared.view.Reading.{Reading}
use Rattle.core_state.specs.declared.view.SearchState.TheVariants.{Unread, Found, Missed}
use Rattle.core_state.specs.declared.view.Section.{Section}
use Rattle.core_state.specs.declared.view.Walk.{Walk}
use Rattle.core_state.specs.Parts.{state_slot}
use Rattle.core_frames.proofs.Views.{side_self}
use Rattle.core_points.specs.declared.stage.Update.{Update}
use Rattle.core_machine.specs.Machines.{slot_of, stands_after}
use Rattle.core_points.specs.declared.stage.Update.TheVariants as update
use Rattle.core_points.specs.declared.stage.Stage.TheVariants as at

-- Each caller's first scan begins at one of the slots that begin free.

pub scan_within : (slots places p : ℕ) → 1 ≤ slots → p < places → places + 1 + p * slots / places ≤ slots + places
scan_within slots places p some_slot below =
    let less : p * slots < slots * places = subst (λ x. p * slots < x) (mul_comm places slots)
    (mul-lt-mul_of_pos_right below (omega arith)) in
    let some : 0 < places = omega arith in
    let part : p * slots / places < slots = (div-lt_iff_lt-mul some).1 less in
    omega arith

pub small_product : (p slots : ℕ) → p ≤ 64 → slots ≤ 2097152 → p * slots ≤ 134217728
small_product p slots few small = let less : p * slots ≤ 64 * slots = mul-le-mul_right slots few in omega arith

pub part_within : (slots places p : ℕ) → 1 ≤ slots → p < places → p * slots / places < slots
part_within slots places p some_slot below = let some = scan_within slots places p some_slot below in omega arith

-- Every step of the core is a case of the steps of core_state, and keeps the invariant and what each caller knows.

pub set_cases : {A : Type 0} (xs : List A) (i j : ℕ) (o x u : A) → get_elem? xs i ≡ some o → get_elem? (set xs i x) j ≡ some u
    → ((j ≡ i) × (x ≡ u)) ⊎ ((j ≢ i) × (get_elem? xs j ≡ some u))
set_cases xs i j o x u there e = dite (ℕ_discrete j i)
    (λ same. inl (
      same,
      some-injective x u (sym (set_here xs i x (at_below xs i o there))
          ∙ subst (λ z. get_elem? (set xs i x) z ≡ some u) same e),
    ))
    (λ ne. inr (ne, sym (set_else xs i j x ne) ∙ e))

-- what a caller keeps is of this table, at its place, and its view fits its point
pub record IsCaller (k : Shape) (i : ℕ) (o : Own) (v : View) : Type 0 where
  pub place : o.place ≡ i
  pub slots : k.slots ≡ o.slots
  pub places : k.places ≡ o.places
  pub room : k.room ≡ o.room
  pub fits : Fits o o.stage v

-- the invariant, and what each caller knows
pub record IsRun (k : Shape) (c : Core) : Type 0 where
  pub eer : k.waiter ≡ Eer
  pub room : k.room ≡ 16
  pub holds : Invariant k c.memory c.views c.marks
  pub callers : (i : ℕ) (o : Own) (v : View) → get_elem? c.owns i ≡ some o → get_elem? c.views i ≡ some v → IsCaller k i o v

module _ (k : Shape) (c : Core) (i : ℕ) (o : Own) (v : View) (run : IsRun k c) (own : get_elem? c.owns i ≡ some o)
    (view : get_elem? c.views i ≡ some v) (going : is_finished o.stage ≡ false) where
  caller : IsCaller k i o v
  caller = run.callers i o v own view

  kept :
      let a : Act = act_at o o.stage in let n : ℕ = told_in c o in let w : View = view_after (noted v a n) c.marks n a in
      let o' : Own = after o n o.stage in
      Invariant k (moved c i o v).memory (moved c i o v).views (moved c i o v).marks × KeepsPast c.memory c.marks (moved c i o v).memory
      × Fits o' o'.stage w
  kept = subst keeps caller.fits.owns.same
      (points_keep k c.memory c.views c.marks i o v run.holds view run.eer caller.slots caller.places caller.room going caller.fits)
    where
      -- the step at a place, which is the view's and the caller's
      keeps : ℕ → Type 0
      keeps p =
          let a : Act = act_at o o.stage in let field : Field = field_of o.place a in let found : ℕ = c.memory field in
          let left : ℕ = left_by (access_of p a) found in let n : ℕ = said_by (access_of p a) found in
          let w : View = view_after (noted v a n) c.marks n a in let o' : Own = after o n o.stage in
          Invariant k (stored c.memory field left) (set c.views i w) (c.marks ++ marks_of (noted v a n) n a)
          × KeepsPast c.memory c.marks (stored c.memory field left) × Fits o' o'.stage w

  caller_after : let a : Act = act_at o o.stage in let n : ℕ = told_in c o in
      IsCaller k i (after o n o.stage) (view_after (noted v a n) c.marks n a)
  caller_after =
      let n : ℕ = told_in c o in
      let same = keeps_table o n o.stage in record {
        place = ap (λ (t : OfTable). t.place) same ∙ caller.place;
        slots = caller.slots ∙ sym (ap (λ (t : OfTable). t.slots) same);
        places = caller.places ∙ sym (ap (λ (t : OfTable). t.places) same);
        room = caller.room ∙ sym (ap (λ (t : OfTable). t.room) same);
        fits = kept.2;
      }

  pub past_kept : KeepsPast c.memory c.marks (moved c i o v).memory
  past_kept = kept.1

  pub moves : IsRun k (moved c i o v)
  moves =
      let n : ℕ = told_in c o in
      let o' : Own = after o n o.stage in
      let w : View = view_after (noted v (act_at o o.stage) n) c.marks n (act_at o o.stage) in
      record {
        eer = run.eer;
        room = run.room;
        holds = kept.0;
        callers = λ j u x eu ex. ⊎_elim
            (λ (mine : (j ≡ i) × (o' ≡ u)). ⊎_elim
            (λ (seen : (j ≡ i) × (w ≡ x)). subst (λ z. IsCaller k z u x) (sym mine.0)
            (subst (λ (z : Own). IsCaller k i z x) mine.1 (subst (λ z. IsCaller k i o' z) seen.1 caller_after)))
            (λ (other : (j ≢ i) × (get_elem? c.views j ≡ some x)). absurd (other.0 mine.0))
            (set_cases c.views i j v w x view ex))
            (λ (others : (j ≢ i) × (get_elem? c.owns j ≡ some u)). ⊎_elim
            (λ (seen : (j ≡ i) × (w ≡ x)). absurd (others.0 seen.0))
            (λ (other : (j ≢ i) × (get_elem? c.views j ≡ some x)). run.callers j u x others.1 other.1)
            (set_cases c.views i j v w x view ex))
            (set_cases c.owns i j o o' u own eu);
      }

-- the step of a caller, by whether there is one and its script has ended
pub step_by : (P : Core → Type 0) (c : Core) (i : ℕ) → P c
    → ((o : Own) (v : View) → get_elem? c.owns i ≡ some o → get_elem? c.views i ≡ some v → is_finished o.stage ≡ false → P (moved c i o v))
    → P (step c i)
step_by P c i same moves = by_caller (get_elem? c.owns i) (get_elem? c.views i) refl refl
  where
    by_stage : (o : Own) (v : View) → get_elem? c.owns i ≡ some o → get_elem? c.views i ≡ some v → (z : Bool) → is_finished o.stage ≡ z
        → P (cond z c (moved c i o v))
    by_stage o v eo ev true e = same
    by_stage o v eo ev false e = moves o v eo ev e

    by_caller : (x : Option Own) (y : Option View) → get_elem? c.owns i ≡ x → get_elem? c.views i ≡ y → P (moved_by c i x y)
    by_caller none y eo ev = same
    by_caller (some o) none eo ev = same
    by_caller (some o) (some v) eo ev = by_stage o v eo ev (is_finished o.stage) refl

pub step_runs : (k : Shape) (c : Core) (i : ℕ) → IsRun k c → IsRun k (step c i)
step_runs k c i run = step_by (IsRun k) c i run (λ o v eo ev e. moves k c i o v run eo ev e)

-- after any callers, in any order
pub runs : (k : Shape) (c : Core) (callers : List ℕ) → IsRun k c → IsRun k (steps c callers)
runs k c [] run = run
runs k c (i ∷ is) run = runs k (step c i) is (step_runs k c i run)

-- The core as it is made has the invariant, and each caller is at its first point.

op_fits : (op : Op) → FitsWords op → key_of op < 2 ^ 64
op_fits (Put key value) f = f.0
op_fits (Set key value) f = f.0
op_fits _ f = f

keys_fit : (ops : List Op) → AllByRecursion FitsWords ops → Each ops (λ op. key_of op < 2 ^ 64)
keys_fit [] all i op e = cc
keys_fit (o ∷ ops) all zero op e = subst (λ x. key_of x < 2 ^ 64) (some-injective o op e) (op_fits o all.0)
keys_fit (o ∷ ops) all (suc i) op e = keys_fit ops all.1 i op e

-- the first point of a caller
first_fits : (k : Shape) (p : ℕ) (script : List Op) → 1 ≤ k.slots → p < k.places → AllByRecursion FitsWords script → let o : Own =
    begun_with (new_own k p) script in Fits o o.stage (new_view p 1 (4 * length script) [])
first_fits k p script some_slot below fit =
    let o : Own = new_own k p in
    let v : View = new_view p 1 (4 * length script) [] in
    let free : IsFree o v = new_views_are_free o (4 * length script) [] refl refl refl refl (omega arith)
    (scan_within k.slots k.places p some_slot below) (omega arith) (λ i op e. cc) in
    begins o v free script (keys_fit script fit) (omega arith)

caller_begins : (k : Shape) (p : ℕ) (script : List Op) → 1 ≤ k.slots → p < k.places → AllByRecursion FitsWords script
    → IsCaller k p (begun_with (new_own k p) script) (new_view p 1 (4 * length script) [])
caller_begins k p [] some_slot below fit = record {
  place = refl;
  slots = refl;
  places = refl;
  room = refl;
  fits = first_fits k p [] some_slot below fit;
}
caller_begins k p (op ∷ ops) some_slot below fit =
    record { place = refl; slots = refl; places = refl; room = refl; fits = first_fits k p (op ∷ ops) some_slot below fit }

callers_begin : (k : Shape) (p : ℕ) (scripts : List (List Op)) → 1 ≤ k.slots → p + length scripts ≤ k.places → AllFit scripts
    → (i : ℕ) (o : Own) (v : View) → get_elem? (made_owns k p scripts) i ≡ some o
    → get_elem? (place_views p (tickets_of scripts)) i ≡ some v → IsCaller k (p + i) o v
callers_begin k p [] some_slot below fit i o v eo ev = cc
callers_begin k p (s ∷ ss) some_slot below fit zero o v eo ev =
    let here : p + 0 ≡ p = omega arith in
    subst (λ z. IsCaller k z o v) (sym here)
    (subst (λ x. IsCaller k p x v) (some-injective (begun_with (new_own k p) s) o eo)
    (subst (λ x. IsCaller k p (begun_with (new_own k p) s) x) (some-injective (new_view p 1 (4 * length s) []) v ev)
    (caller_begins k p s some_slot (omega arith) fit.0)))
callers_begin k p (s ∷ ss) some_slot below fit (suc i) o v eo ev =
    let next : p + 1 + i ≡ p + suc i = omega arith in
    subst (λ z. IsCaller k z o v) next (callers_begin k (p + 1) ss some_slot (omega arith) fit.1 i o v eo ev)

tickets_count : (scripts : List (List Op)) → length (tickets_of scripts) ≡ length scripts
tickets_count [] = refl
tickets_count (s ∷ ss) = let rest = tickets_count ss in omega arith

pub tickets_total : (scripts : List (List Op)) → total (λ t. t) (tickets_of scripts) ≡ 4 * op_count scripts
tickets_total [] = refl
tickets_total (s ∷ ss) = let rest = tickets_total ss in let one = sum_by-cons length s ss in omega arith

made_shape : (scripts : List (List Op)) (slots : ℕ) → IsMachine scripts slots → IsShape (shape_of slots scripts)
made_shape scripts slots m = record {
  some_slot = m.some_slot;
  few_slots = let few = m.few_slots in omega arith;
  some_place = m.some_script;
  few_places = let few = m.few_scripts in omega arith;
  some_room = omega arith;
  few_room = omega arith;
  few_tickets = (let few = m.few_ops in let same = tickets_total scripts in let most : most_tickets ≡ 144115188075855872 = refl in
      omega (arith, few, same, most));
}

-- core(scripts, slots, [])
pub made_runs : (scripts : List (List Op)) (slots : ℕ) → IsMachine scripts slots → IsRun (shape_of slots scripts) (core scripts slots [])
made_runs scripts slots m = record {
  eer = refl;
  room = refl;
  holds = places_begin (shape_of slots scripts) (memory_of (shape_of slots scripts) (first_words (shape_of slots scripts)))
      (tickets_of scripts) (made_shape scripts slots m) (fresh (shape_of slots scripts)) (tickets_count scripts) refl;
  callers = λ i o v eo ev. subst (λ z. IsCaller (shape_of slots scripts) z o v) (omega arith)
      (callers_begin (shape_of slots scripts) 0 scripts m.some_slot (omega arith) m.fit i o v eo ev);
}

-- The laws of all runs but for what callers were told.

pub core_runs : (scripts : List (List Op)) (slots : ℕ) (callers : List ℕ) → IsMachine scripts slots
    → IsRun (shape_of slots scripts) (core scripts slots callers)
core_runs scripts slots callers m = runs (shape_of slots scripts) (core scripts slots []) callers (made_runs scripts slots m)

pub cores_are_sound : CoresAreSound
cores_are_sound scripts slots callers m = let run = core_runs scripts slots callers m in
    record { invariant = run.holds; grace = run.holds.now.grace.grace; reuse = run.holds.now.grace.reuse }

module _ (k : Shape) (c : Core) (i : ℕ) (o : Own) (v : View) (run : IsRun k c) (own : get_elem? c.owns i ≡ some o)
    (view : get_elem? c.views i ≡ some v) where
  pub is_told : IsTold o v c.marks c.memory
  is_told =
      let caller = run.callers i o v own view in
      let works : Works v = caller.fits.owns.works in
      rule_tells k c.memory c.views c.marks i o v run.holds.now view works caller.slots caller.places caller.room

  pub step_is : is_finished o.stage ≡ false → step c i ≡ moved c i o v
  step_is going = ap (λ (z : Option Own × Option View). moved_by c i z.0 z.1) (λ j. (own j, view j))
      ∙ ap (λ b. cond b c (moved c i o v)) going

  -- the word of its act is one of the table's, and its needs are met
  pub has_its_word : IsWord k (field_of o.place (act_at o o.stage))
  has_its_word =
      let caller = run.callers i o v own view in
      acts_are_within k c.marks o v c.memory o.stage (λ _. run.eer) caller.slots caller.places caller.room is_told caller.fits

  pub needs_met : Needs k v (c.memory (field_of o.place (act_at o o.stage))) (act_at o o.stage)
  needs_met =
      let caller = run.callers i o v own view in
      needs_are_given k c.marks o v c.memory (c.memory (field_of o.place (act_at o o.stage))) o.stage
      (λ _. run.eer) caller.places caller.room is_told caller.fits

  -- what its act asks for is given, and so the word stays one
  pub asks_met : Asks k v (act_at o o.stage)
  asks_met =
      let caller = run.callers i o v own view in
      (subst (λ p. IsWord k (field_of p (act_at o o.stage))) (sym caller.fits.owns.same) has_its_word, needs_met)

  pub stays_word : StaysWord (access_of o.place (act_at o o.stage)) (c.memory (field_of o.place (act_at o o.stage)))
  stays_word =
      let a : Act = act_at o o.stage in
      subst (λ p. StaysWord (access_of p a) (c.memory (field_of p a))) (run.callers i o v own view).fits.owns.same
      (fits k c.memory c.views c.marks run.holds.now i v view a asks_met)

  pub allowed : is_finished o.stage ≡ false → IsAllowed k c i o v
  allowed going =
      record {
        place = (run.callers i o v own view).fits.owns.same;
        field = has_word k (field_of o.place (act_at o o.stage)) has_its_word;
        allowed = asks_met;
        past = subst (λ (z : Core). KeepsPast c.memory c.marks z.memory) (sym (step_is going)) (past_kept k c i o v run own view going);
        makes = step_is going;
      }

pub steps_are_allowed : StepsAreAllowed
steps_are_allowed scripts slots callers i o v m own view going =
    allowed (shape_of slots scripts) (core scripts slots callers) i o v (core_runs scripts slots callers m) own view going

-- Where the search of a caller's section stands after each step.

-- ---- acts that enter no section, leave none and load nothing in one

either_other : (b : Bool) (x y : Act) → moves_search x ≡ false → moves_search y ≡ false → moves_search (cond b x y) ≡ false
either_other true x y ex ey = ex
either_other false x y ex ey = ey

store_other : (o : Own) (u : Update) → moves_search (store_act o u) ≡ false
store_other o (update.Leaf spot) = refl
store_other o _ = refl

-- ---- loads of a search

either_slot : (b : Bool) (x y : Reading) (s : ℕ) → state_slot x.state ≡ s → state_slot y.state ≡ s → state_slot (cond b x y).state ≡ s
either_slot true x y s ex ey = ex
either_slot false x y s ex ey = ey

key_slot : (s p : ℕ) (b : Side) (next : Opt Side) → state_slot (key_stand s p b next) ≡ s
key_slot s p b None = refl
key_slot s p b (Some side) = refl

walk_slot : (r : Reading) (d : ℕ) (w : Opt Walk) (t : ℕ) (c : Side) (n s : ℕ) → state_slot r.state ≡ s
    → state_slot (walked r d w t c n).state ≡ s
walk_slot r d None t Right n s e = either_slot (t == d && not (n == 0)) _ _ s e e
walk_slot r d (Some w) t Right n s e = e
walk_slot r d None t Left n s e = e
walk_slot r d (Some w) t Left n s e = either_slot (t == w.slot && not (n == 0)) _ _ s e e

-- the reading with the load noted, before the search moves
abbrev with_load : Reading → Field → ℕ → Reading
with_load r field n = record r { loads = record { field = field; number = n; stored = false } ∷ r.loads }

key_keeps : (r : Reading) (s p : ℕ) (b : Side) (n : ℕ) → r.state ≡ Unread s p b → state_slot (loaded r (Key s) n).state ≡ state_slot r.state
key_keeps r s p b n e =
    ap (λ st. state_slot (searched (with_load r (Key s) n) st (Key s) n).state) e
    ∙ either_slot (s == s) _ _ s (key_slot s p b _) (ap state_slot e) ∙ sym (ap state_slot e)

value_keeps : (r : Reading) (s p : ℕ) (b : Side) (value : Opt ℕ) (n : ℕ) → r.state ≡ Found s p b value
    → state_slot (loaded r (Value s) n).state ≡ state_slot r.state
value_keeps r s p b value n e =
    ap (λ st. state_slot (searched (with_load r (Value s) n) st (Value s) n).state) e ∙ either_slot (s == s) _ _ s refl (ap state_slot e)
    ∙ sym (ap state_slot e)

missed_keeps : (r : Reading) (s : ℕ) (b : Side) (field : Field) (n : ℕ) → r.state ≡ Missed s b
    → state_slot (loaded r field n).state ≡ state_slot r.state
missed_keeps r s b field n e = ap (λ st. state_slot (searched (with_load r field n) st field n).state) e

life_keeps : (r : Reading) (s p : ℕ) (b : Side) (value : Opt ℕ) (t n : ℕ) → r.state ≡ Found s p b value
    → state_slot (loaded r (Life t) n).state ≡ state_slot r.state
life_keeps r s p b value t n e = ap (λ st. state_slot (searched (with_load r (Life t) n) st (Life t) n).state) e

walk_keeps : (r : Reading) (s p : ℕ) (b : Side) (value : Opt ℕ) (t : ℕ) (c : Side) (n : ℕ) → r.state ≡ Found s p b value
    → state_slot (loaded r (Link t c) n).state ≡ state_slot r.state
walk_keeps r s p b value t c n e =
    ap (λ st. state_slot (searched (with_load r (Link t c) n) st (Link t c) n).state) e
    ∙ walk_slot (with_load r (Link t c) n) s r.walk t c n s (ap state_slot e) ∙ sym (ap state_slot e)

-- ---- all points

abbrev noted_at : Own → View → ℕ → Stage → View
noted_at o v n stage = noted v (act_at o stage) n

stay : (w : View) (h : List Mark) (n : ℕ) (a : Act) → moves_search a ≡ false → slot_of (view_after w h n a).section ≡ slot_of w.section
stay w h n a other = ap slot_of (section_stays w h n a other)

loads_stay : (w : View) (h : List Mark) (field : Field) (n : ℕ) (section : Section) → w.section ≡ Some section
    → state_slot (loaded section.reading field n).state ≡ state_slot section.reading.state
    → slot_of (after_search_load w (section_of w) field n).section ≡ slot_of w.section
loads_stay w h field n section is keeps = ap (λ (z : Section). slot_of (after_search_load w z field n).section) (section_is w section is)
    ∙ ap Some keeps ∙ sym (ap slot_of is)

linked_slot : (z : Bool) (r : Reading) (s : ℕ) (b : Side) (n : ℕ)
    → Some (state_slot (cond z (record r { state = Missed s b }) (record r { state = Unread n s b; stood = n ∷ r.stood })).state)
    ≡ cond z (Some s) (Some n)
linked_slot true r s b n = refl
linked_slot false r s b n = refl

linked : (o : Own) (v : View) (h : List Mark) (n s : ℕ) (b : Side) → Fits o (at.AtLink s b) v
    → slot_of (view_after (noted_at o v n (at.AtLink s b)) h n (act_at o (at.AtLink s b))).section
    ≡ stands_after (slot_of v.section) n (at.AtLink s b)
linked o v h n s b f =
    let i = (f.point).1 in
    let w : View = noted_at o v n (at.AtLink s b) in
    let r : Reading = with_load (i.section).reading (Link s b) n in
    let here : (s == s && same_side b b) ≡ true = ap (λ z. z && same_side b b) (eq-eqb s s refl) ∙ side_self b in
    let stood : slot_of v.section ≡ Some s = ap slot_of i.is ∙ ap (λ st. Some (state_slot st)) (i.stands).state_is in
    ap (λ (z : Section). slot_of (after_search_load w z (Link s b) n).section) (section_is w i.section i.is)
    ∙ ap (λ st. Some (state_slot (searched r st (Link s b) n).state)) (i.stands).state_is
    ∙ ap (λ z. Some (state_slot (cond z (linked_on r s b n) r).state)) here
    ∙ linked_slot (n == 0) r s b n
    ∙ ap (λ z. cond (n == 0) z (Some n)) (sym stood)

-- Where a search stands is known of each view by the points passed: all others leave it.
stands_at : (o : Own) (v : View) (h : List Mark) (n : ℕ) (stage : Stage) (x y : Opt ℕ) → Fits o stage v
    → x ≡ slot_of (view_after (noted v (act_at o stage) n) h n (act_at o stage)).section → y ≡ stands_after (slot_of v.section) n stage
    → x ≡ y
stands_at o v h n (at.EnterStamp clock) x y f is e = is ∙ sym e
stands_at o v h n (at.AtLink s b) x y f is e = is ∙ linked o v h n s b f ∙ sym e
stands_at o v h n (at.AtKey s parent b) x y f is e = let i = (f.point).1 in
    is ∙ loads_stay (noted_at o v n (at.AtKey s parent b)) h (Key s) n i.section i.is (key_keeps _ s parent b n i.stands.state_is) ∙ sym e
stands_at o v h n (at.Leave next) x y f is e = is ∙ sym e
stands_at o v h n (at.Value s) x y f is e = let i = (f.point.2).2 in
    is ∙ loads_stay (noted_at o v n (at.Value s)) h (Value s) n i.section i.is
    (value_keeps _ s (f.point.2).0 (f.point.2).1 None n i.stands.state_is) ∙ sym e
stands_at o v h n (at.SpotTag s b) x y f is e = let i = (f.point).2 in
    is ∙ loads_stay (noted_at o v n (at.SpotTag s b)) h (Tag s b) n i.section i.is
    (missed_keeps _ s b (Tag s b) n i.stands.state_is) ∙ sym e
stands_at o v h n (at.SpotLife s b tag) x y f is e = let i = (f.point).2 in
    is ∙ loads_stay (noted_at o v n (at.SpotLife s b tag)) h (Life s) n i.section i.is
    (missed_keeps _ s b (Life s) n i.stands.state_is) ∙ sym e
stands_at o v h n (at.OldRaise aim life) x y f is e =
    is ∙ stay (noted_at o v n (at.OldRaise aim life)) h n (act_at o (at.OldRaise aim life)) (either_other (has_slot o.spare) _ _ refl refl)
    ∙ sym e
stands_at o v h n (at.Store update front) x y f is e =
    is ∙ stay (noted_at o v n (at.Store update front)) h n (store_act o update) (store_other o update) ∙ sym e
stands_at o v h n (at.SetLife s) x y f is e = let i = (f.point.2).2 in
    is ∙ loads_stay (noted_at o v n (at.SetLife s)) h (Life s) n i.section i.is
    (life_keeps _ s (f.point.2).0 (f.point.2).1 None s n i.stands.state_is) ∙ sym e
stands_at o v h n (at.ParentLife p b d) x y f is e = let i = (f.point).2 in
    is ∙ loads_stay (noted_at o v n (at.ParentLife p b d)) h (Life p) n i.section i.is
    (life_keeps _ d p b None p n i.stands.state_is) ∙ sym e
stands_at o v h n (at.NodeLife d) x y f is e = let i = (f.point).2 in
    is ∙ loads_stay (noted_at o v n (at.NodeLife d)) h (Life d.node) n i.section i.is
    (life_keeps _ d.node d.parent d.side None d.node n i.stands.state_is) ∙ sym e
stands_at o v h n (at.NodeLeft d) x y f is e = let i = (f.point).2 in
    is ∙ loads_stay (noted_at o v n (at.NodeLeft d)) h (Link d.node Left) n i.section i.is
    (walk_keeps _ d.node d.parent d.side None d.node Left n i.stands.state_is) ∙ sym e
stands_at o v h n (at.NodeRight d) x y f is e = let i = (f.point).2 in
    is ∙ loads_stay (noted_at o v n (at.NodeRight d)) h (Link d.node Right) n i.section i.is
    (walk_keeps _ d.node d.parent d.side None d.node Right n i.stands.state_is) ∙ sym e
stands_at o v h n (at.SuccessorLeft d u) x y f is e = let i = (f.point).2 in
    is ∙ loads_stay (noted_at o v n (at.SuccessorLeft d u)) h (Link u.slot Left) n i.section i.is
    (walk_keeps _ d.node d.parent d.side None u.slot Left n i.stands.state_is) ∙ sym e
stands_at o v h n (at.SuccessorParentLife d u) x y f is e = let i = (f.point).2 in
    is ∙ loads_stay (noted_at o v n (at.SuccessorParentLife d u)) h (Life u.parent) n i.section i.is
    (life_keeps _ d.node d.parent d.side None u.parent n i.stands.state_is) ∙ sym e
stands_at o v h n (at.SuccessorLife d u) x y f is e = let i = (f.point).2 in
    is ∙ loads_stay (noted_at o v n (at.SuccessorLife d u)) h (Life u.slot) n i.section i.is
    (life_keeps _ d.node d.parent d.side None u.slot n i.stands.state_is) ∙ sym e
stands_at o v h n (at.Unlink m child) x y f is e =
    is ∙ stay (noted_at o v n (at.Unlink m child)) h n (act_at o (at.Unlink m child))
    (either_other (m.successor.parent == m.node.node) _ _ refl refl) ∙ sym e
stands_at o v h n stage x y f is e = is ∙ stay (noted_at o v n stage) h n (act_at o stage) refl ∙ sym e

pub stands_follow : (o : Own) (v : View) (h : List Mark) (n : ℕ) (stage : Stage) → Fits o stage v
    → slot_of (view_after (noted v (act_at o stage) n) h n (act_at o stage)).section ≡ stands_after (slot_of v.section) n stage
stands_follow o v h n stage f = stands_at o v h n stage _ _ f refl refl
