-- What callers were told is explained at each moment, and at the end as an account.
use Rattle.std.proofs.Common.{◌≡◌, ◌≢◌, ℕ, zero, suc, ◌+◌, ◌-◌, ◌<◌, cond, Bool, true, false, List, [], ◌∷◌, ◌++◌, length, get_or, map, Option as Opt, Some, None, refl, sym, ap, subst, ◌∙◌, ⊎_elim, arith, append-nil, length-append}
use Rattle.std.specs.List.{AllByRecursion, slice_get}
use Rattle.std.proofs.lemmas.List.{append_cancel_left, length-map, length-set}
use mathlib.Core.Option.{some, some-injective}
use lib.ListN.{get_elem?}
use Rattle.list_laws.proofs.Lists.{at_below}
use Rattle.prcu_marks.specs.declared.mark.Mark.{Mark}
use Rattle.prcu_model.specs.declared.operation.Op.{Op}
use Rattle.prcu_model.specs.declared.operation.Reply.{Reply}
use Rattle.prcu_model.specs.declared.operation.Reply.TheVariants.{Gone}
use Rattle.prcu_model.specs.declared.operation.Told.{Told}
use Rattle.prcu_model.specs.declared.operation.Line.{Line}
use Rattle.prcu_model.specs.declared.operation.Update.{Update}
use Rattle.prcu_model.specs.Fronts.{told_lines, own_updates, own_updates_from, told_updates, IsConfirmed, CanBeNumbered}
use Rattle.prcu_model.specs.Dictionary.{Room, Explains}
use Rattle.prcu_model.proofs.ListFacts.{all_map}
use Rattle.prcu_marks.specs.Marks.{updates_of, own_of}
use Rattle.prcu_marks.specs.Callers.{HasMadeUpdate}
use Rattle.prcu_marks.proofs.Marks.{updates_of-append, own_of-append, no_own_update, one_own_update, own_of-all, own_updates_from-append}
use Rattle.prcu_marks.proofs.Callers.{HasTold, IsSettled, MayStandBesideBy-longer, settled_longer, told_nothing, slice_get-past, HaveTold, newcomer, run_confirmed, run_fits, run_fronts, run_lengths, run_updates}
use Rattle.core_state.specs.declared.shape.Shape.{Shape}
use Rattle.core_state.specs.declared.view.Section.{Section}
use Rattle.core_state.specs.declared.view.View.{View}
use Rattle.core_points.specs.declared.stage.Aim.TheVariants.{Leaf}
use Rattle.core_points.specs.declared.stage.Last.TheVariants as last
use Rattle.core_points.specs.declared.stage.Update.TheVariants as update
use Rattle.core_points.specs.declared.stage.Waits.TheVariants.{Reuse}
use Rattle.core_points.specs.declared.stage.Stage.{Stage}
use Rattle.core_points.specs.declared.stage.Stage.TheVariants as at
use Rattle.core_state.specs.Acts.{noted}
use Rattle.core_points.specs.Programs.{Act, marks_of, view_after, Own, act_at, after, begun_with}
use Rattle.core_points.specs.Laws.{is_finished}
use Rattle.core_laws.specs.Whole.{place_views}
use Rattle.core_laws.proofs.Acting.{others_none}
use Rattle.core_machine.specs.Runs.{Core, core, made_owns, new_own, tickets_of, told_in, moved, shape_of, step, steps, tolds_of, unfinished, unfinished_from}
use Rattle.core_machine.specs.Laws.{IsToldSoFar, at_position, untold, EndsAreExplained, IsMachine, ToldsAreExplained}
use Rattle.core_machine.proofs.Running.{IsRun, set_cases, step_by, step_runs, core_runs, is_told, made_runs}
use Rattle.core_machine.proofs.Phases.{IsToDo, Known, Phase, Tells, at_answer, first_phase, inside, made, moving, others_tell, outside, phase, present, searching}
use Rattle.core_machine.proofs.Turns.{turn}

-- ---- places

pub elem_at : {A : Type 0} (xs : List A) (i : ℕ) → i < length xs → (x : A) × (get_elem? xs i ≡ some x)
elem_at [] i below = absurd (omega arith)
elem_at (x ∷ xs) zero below = (x, refl)
elem_at (x ∷ xs) (suc i) below = elem_at xs i (omega arith)

get_or_elem : {A : Type 0} (xs : List A) (i : ℕ) (d x : A) → get_elem? xs i ≡ some x → get_or xs i d ≡ x
get_or_elem [] i d x e = absurd (cc)
get_or_elem (y ∷ xs) zero d x e = some-injective y x e
get_or_elem (y ∷ xs) (suc i) d x e = get_or_elem xs i d x e

elem_map : (os : List Own) (i : ℕ) (o : Own) → get_elem? os i ≡ some o → get_elem? (map (λ (x : Own). x.told) os) i ≡ some o.told
elem_map [] i o e = absurd (cc)
elem_map (x ∷ os) zero o e = let same : x ≡ o = some-injective x o e in ap (λ (z : Own). some z.told) same
elem_map (x ∷ os) (suc i) o e = elem_map os i o e

elem_append : {A : Type 0} (xs : List A) (x : A) (ys : List A) → get_elem? (xs ++ x ∷ ys) (length xs) ≡ some x
elem_append [] x ys = refl
elem_append (y ∷ xs) x ys = elem_append xs x ys

-- the lines of a list that is shorter than its script
lines_shorter : (done todo : List Op) (tolds : List Told) → length tolds ≡ length done
    → told_lines (done ++ todo) tolds ≡ told_lines done tolds
lines_shorter [] [] [] same = refl
lines_shorter [] (op ∷ ops) [] same = refl
lines_shorter (op ∷ ops) todo (t ∷ ts) same = ap (λ xs. record { op = op; reply = t.reply; number = t.number } ∷ xs)
    (lines_shorter ops todo ts (omega (arith, same)))
lines_shorter _ todo _ same = absurd (omega (arith, same))

-- ---- the run

abbrev pub room_of : List (List Op) → ℕ → Room
room_of scripts slots = record { scripts = length scripts; slots = slots }

-- each caller tells
pub record AllTell (scripts : List (List Op)) (slots : ℕ) (c : Core) : Type 0 where
  pub count : length c.owns ≡ length scripts
  pub viewed : length c.views ≡ length scripts
  pub tells : (i : ℕ) (script : List Op) (o : Own) (v : View) → get_elem? scripts i ≡ some script → get_elem? c.owns i ≡ some o
      → get_elem? c.views i ≡ some v → Tells (record { scripts = length scripts; slots = slots }) i script o v.section c.marks

module _ (scripts : List (List Op)) (slots : ℕ) (c : Core) (i : ℕ) (o : Own) (v : View) (run : IsRun (shape_of slots scripts) c)
    (all : AllTell scripts slots c) (own : get_elem? c.owns i ≡ some o) (view : get_elem? c.views i ≡ some v)
    (going : is_finished o.stage ≡ false) where
  turned : (script : List Op) → get_elem? scripts i ≡ some script
      → let a : Act = act_at o o.stage in let n : ℕ = told_in c o in let w : View = noted v a n in
      Tells (record { scripts = length scripts; slots = slots }) i script (after o n o.stage) (view_after w c.marks n a).section
      (c.marks ++ marks_of w n a)
  turned script es =
      let k : Shape = shape_of slots scripts in
      let caller = run.callers i o v own view in
      turn k c.memory c.views c.marks i o v script run.holds.now view
      (caller.fits.owns.same ∙ caller.place) run.eer caller.places caller.room run.room caller.fits.owns.works
      (is_told k c i o v run own view) o.stage going caller.fits (all.tells i script o v es own view)

  pub moves_tell : AllTell scripts slots (moved c i o v)
  moves_tell =
      let k : Shape = shape_of slots scripts in
      let caller = run.callers i o v own view in
      let a : Act = act_at o o.stage in
      let n : ℕ = told_in c o in
      let w : View = noted v a n in
      let o' : Own = after o n o.stage in
      let v' : View = view_after w c.marks n a in
      let place : v.allowance.place ≡ i = caller.fits.owns.same ∙ caller.place in record {
        count = length-set c.owns i o' ∙ all.count;
        viewed = length-set c.views i v' ∙ all.viewed;
        tells = λ j script u x es eu ex. ⊎_elim
            (λ (mine : (j ≡ i) × (o' ≡ u)). ⊎_elim
            (λ (seen : (j ≡ i) × (v' ≡ x)).
            subst (λ z. Tells (record { scripts = length scripts; slots = slots }) z script u x.section (c.marks ++ marks_of w n a))
            (sym mine.0)
            (subst (λ (z : Own × View). Tells (record { scripts = length scripts; slots = slots }) i script z.0 z.1.section
            (c.marks ++ marks_of w n a)) (λ t. (mine.1 t, seen.1 t))
            (turned script (subst (λ z. get_elem? scripts z ≡ some script) mine.0 es))))
            (λ (other : (j ≢ i) × (get_elem? c.views j ≡ some x)). absurd (other.0 mine.0))
            (set_cases c.views i j v v' x view ex))
            (λ (others : (j ≢ i) × (get_elem? c.owns j ≡ some u)). ⊎_elim
            (λ (seen : (j ≡ i) × (v' ≡ x)). absurd (others.0 seen.0))
            (λ (other : (j ≢ i) × (get_elem? c.views j ≡ some x)).
            others_tell (record { scripts = length scripts; slots = slots }) j script u x.section c.marks (marks_of w n a)
            (others_none w n j (λ e. others.0 (sym e ∙ place)) a) (all.tells j script u x es others.1 other.1))
            (set_cases c.views i j v v' x view ex))
            (set_cases c.owns i j o o' u own eu);
      }

-- a caller at its first point
first_tells : (room : Room) (p : ℕ) (x : Own) (script : List Op) (section : Opt Section) → x.told ≡ []
    → Tells room p script (begun_with x script) section []
first_tells room p x [] section none_told = record {
  done = [];
  own = [];
  seen = [];
  told = subst (λ ts. HasTold (Explains room) (newcomer p) [] ts (at_answer p [] [])) (sym none_told)
      (told_nothing (Explains room) (newcomer p) refl refl);
  todo = [];
  whole = refl;
  marks = [];
  since = record { own = refl; keyed = tt; waits = tt; seen = ([], refl) };
  left = (refl, refl);
  known = refl;
}
first_tells room p x (op ∷ ops) section none_told =
    let first = first_phase x op in record {
      done = [];
      own = [];
      seen = [];
      told = subst (λ ts. HasTold (Explains room) (newcomer p) [] ts (at_answer p [] [])) (sym none_told)
          (told_nothing (Explains room) (newcomer p) refl refl);
      todo = op ∷ ops;
      whole = refl;
      marks = [];
      since = record { own = refl; keyed = tt; waits = tt; seen = ([], refl) };
      left = subst (λ b. IsToDo b (begun_with x (op ∷ ops)) (op ∷ ops) []) (sym first.0) refl;
      known = subst (λ q. Known room q (at_answer p [] []) op [] [] section) (sym first.1) refl;
    }

firsts_tell : (room : Room) (k : Shape) (p : ℕ) (scripts : List (List Op)) (i : ℕ) (script : List Op) (o : Own) (section : Opt Section)
    → get_elem? scripts i ≡ some script → get_elem? (made_owns k p scripts) i ≡ some o → Tells room (p + i) script o section []
firsts_tell room k p [] i script o section es eo = absurd (cc)
firsts_tell room k p (s ∷ ss) zero script o section es eo =
    let here : p ≡ p + 0 = omega arith in
    subst (λ z. Tells room z script o section []) here
    (subst (λ z. Tells room p z o section []) (some-injective s script es)
    (subst (λ z. Tells room p s z section []) (some-injective (begun_with (new_own k p) s) o eo)
    (first_tells room p (new_own k p) s section refl)))
firsts_tell room k p (s ∷ ss) (suc i) script o section es eo =
    let next : p + 1 + i ≡ p + suc i = omega arith in
    subst (λ z. Tells room z script o section []) next (firsts_tell room k (p + 1) ss i script o section es eo)

pub owns_count : (k : Shape) (p : ℕ) (scripts : List (List Op)) → length (made_owns k p scripts) ≡ length scripts
owns_count k p [] = refl
owns_count k p (s ∷ ss) = let rest = owns_count k (p + 1) ss in omega arith

views_count : (p : ℕ) (scripts : List (List Op)) → length (place_views p (tickets_of scripts)) ≡ length scripts
views_count p [] = refl
views_count p (s ∷ ss) = let rest = views_count (p + 1) ss in omega arith

made_tell : (scripts : List (List Op)) (slots : ℕ) → AllTell scripts slots (core scripts slots [])
made_tell scripts slots = record {
  count = owns_count (shape_of slots scripts) 0 scripts;
  viewed = views_count 0 scripts;
  tells = λ i script o v es eo ev. subst (λ z. Tells (record { scripts = length scripts; slots = slots }) z script o v.section [])
      (omega arith) (firsts_tell (record { scripts = length scripts; slots = slots })
      (shape_of slots scripts) 0 scripts i script o v.section es eo);
}

all_tell : (scripts : List (List Op)) (slots : ℕ) (c : Core) (callers : List ℕ) → IsRun (shape_of slots scripts) c → AllTell scripts slots c
    → AllTell scripts slots (steps c callers)
all_tell scripts slots c [] run all = all
all_tell scripts slots c (i ∷ is) run all =
    all_tell scripts slots (step c i) is (step_runs (shape_of slots scripts) c i run)
    (step_by (AllTell scripts slots) c i all (λ o v eo ev e. moves_tell scripts slots c i o v run all eo ev e))

pub cores_tell : (scripts : List (List Op)) (slots : ℕ) (callers : List ℕ) → IsMachine scripts slots
    → AllTell scripts slots (core scripts slots callers)
cores_tell scripts slots callers m = all_tell scripts slots (core scripts slots []) callers (made_runs scripts slots m)
    (made_tell scripts slots)

-- ---- what is explained

abbrev position_of : Phase → Opt ℕ
position_of (made number reply) = Some number
position_of (moving number next) = Some number
position_of _ = None

untold_is : (stage : Stage) → untold stage ≡ position_of (phase stage)
untold_is (at.Reserve (Leaf spot) expected) = refl
untold_is (at.Seize (Leaf spot)) = refl
untold_is (at.Age (Leaf spot) s) = refl
untold_is (at.Begin (Reuse (Leaf spot))) = refl
untold_is (at.LookKey (Reuse (Leaf spot)) clock p) = refl
untold_is (at.LookStamp (Reuse (Leaf spot)) clock p key) = refl
untold_is (at.OldAge (Leaf spot)) = refl
untold_is (at.OldRaise (Leaf spot) life) = refl
untold_is (at.OldFree (Leaf spot)) = refl
untold_is (at.OldCount (Leaf spot)) = refl
untold_is (at.Even (update.Leaf spot) front) = refl
untold_is (at.Unlock last.Again) = refl
untold_is _ = refl

module _ (room : Room) (i : ℕ) (script : List Op) (o : Own) (section : Opt Section) (h : List Mark)
    (t : Tells room i script o section h) where
  us : List Update
  us = updates_of t.seen

  rest : List Mark
  rest = t.since.seen.0

  whole_is : updates_of h ≡ updates_of t.seen ++ updates_of t.since.seen.0
  whole_is = ap updates_of (sym t.since.seen.1) ∙ updates_of-append t.seen t.since.seen.0

  -- at its last answer the caller had seen its own marks
  own_is : own_of i t.own ≡ t.own
  own_is = ap (own_of i) t.told.own ∙ own_of-all i t.told.marks t.told.mine ∙ sym t.told.own

  seen_own : own_of i t.seen ≡ t.own
  seen_own = t.told.met ∙ own_is

  rest_own : own_of i t.since.seen.0 ≡ t.marks
  rest_own = append_cancel_left t.own (own_of i t.since.seen.0) t.marks
      (ap (λ xs. xs ++ own_of i t.since.seen.0) (sym seen_own) ∙ sym (own_of-append i t.seen t.since.seen.0) ∙ ap (own_of i) t.since.seen.1
      ∙ t.since.own)

  long : length o.told ≡ length t.done
  long = t.told.lengths

  whole_long : length script ≡ length t.done + length t.todo
  whole_long = ap length (sym t.whole) ∙ length-append t.done t.todo

  lines_are : told_lines script o.told ≡ told_lines t.done o.told
  lines_are = ap (λ ops. told_lines ops o.told) (sym t.whole) ∙ lines_shorter t.done t.todo o.told t.told.lengths

  -- none, or one
  later_updates : (p : Phase) → Known room p (at_answer i t.own t.seen) o.op h t.marks section
      → own_updates_from (1 + length (updates_of t.seen)) i (updates_of t.since.seen.0) ≡ at_position (position_of p) o.op
  later_updates p known = by p known
    where
      nothing : updates_of t.marks ≡ [] → own_updates_from (1 + length (updates_of t.seen)) i (updates_of t.since.seen.0) ≡ []
      nothing e = no_own_update i (1 + length (updates_of t.seen)) t.since.seen.0 (ap updates_of rest_own ∙ e)

      one : (number : ℕ) (reply : Reply) → HasMadeUpdate (at_answer i t.own t.seen) o.op
          (record { reply = reply; number = number }) t.marks h
          → own_updates_from (1 + length (updates_of t.seen)) i (updates_of t.since.seen.0) ≡ record { position = number; op = o.op } ∷ []
      one number reply m =
          let later = m.later in
          let there = slice_get-past (updates_of t.seen) (updates_of t.since.seen.0) (number - 1) (record { caller = i; op = o.op })
          (subst (λ z. slice_get z (number - 1) ≡ Some (record { caller = i; op = o.op })) whole_is m.stands) (omega arith) in
          let at : 1 + length (updates_of t.seen) + (number - 1 - length (updates_of t.seen)) ≡ number = omega arith in
          one_own_update i (1 + length (updates_of t.seen)) (number - 1 - length (updates_of t.seen)) t.since.seen.0
          (record { caller = i; op = o.op }) (record { caller = i; op = o.op }) (ap updates_of rest_own ∙ m.left) there refl
          ∙ (λ j. record { position = at j; op = o.op } ∷ [])

      by : (p : Phase) → Known room p (at_answer i t.own t.seen) o.op h t.marks section
          → own_updates_from (1 + length (updates_of t.seen)) i (updates_of t.since.seen.0) ≡ at_position (position_of p) o.op
      by searching known = nothing known
      by inside known = nothing known.0
      by outside known = nothing known.0
      by present known = nothing known.1.left
      by (made number reply) known = one number reply known.1
      by (moving number next) known = one number Gone known.1

  pub told_so_far : IsToldSoFar room (updates_of h) i script o
  told_so_far =
      let lines : List Line = told_lines t.done o.told in
      let a : List Update = updates_of t.seen in
      let b : List Update = updates_of t.since.seen.0 in record {
        shorter = (let x = long in let y = whole_long in omega arith);
        whole = λ e. (let left = subst (λ z. IsToDo z o t.todo t.marks) e t.left in let x = long in let y = whole_long in
            let z = ap length left.0 in omega arith);
        next = λ e. (let left = subst (λ z. IsToDo z o t.todo t.marks) e t.left in
            subst (λ (z : List Op × ℕ). get_elem? z.0 z.1 ≡ some o.op)
            (λ j. ((ap (λ ops. t.done ++ ops) (sym left) ∙ t.whole) j, sym long j)) (elem_append t.done o.op o.rest));
        updates = ap (own_updates i) whole_is ∙ own_updates_from-append 1 i a b
            ∙ ap (λ xs. xs ++ own_updates_from (1 + length a) i b) t.told.updates
            ∙ ap (λ xs. told_updates lines ++ xs) (later_updates (phase o.stage) t.known)
            ∙ (λ j. told_updates (sym lines_are j) ++ at_position (sym (untold_is o.stage) j) o.op);
        confirmed = subst (λ us. AllByRecursion (IsConfirmed us) (told_lines script o.told)) (sym whole_is)
            (subst (λ ls. AllByRecursion (IsConfirmed (a ++ b)) ls) (sym lines_are)
            (all_map (IsSettled (a ++ b)) (IsConfirmed (a ++ b)) lines (λ line s. s.confirmed)
            (all_map (IsSettled a) (IsSettled (a ++ b)) lines (settled_longer a b) t.told.settled)));
        fronts = subst (λ us. CanBeNumbered room us (told_lines script o.told)) (sym whole_is)
            (subst (λ ls. CanBeNumbered room (a ++ b) ls) (sym lines_are)
            (t.told.numbers, MayStandBesideBy-longer (Explains room) a b 0 lines t.told.numbers t.told.beside));
      }

-- ---- the laws

pub tolds_are_explained : ToldsAreExplained
tolds_are_explained scripts slots callers machine =
    let c : Core = core scripts slots callers in
    let run : IsRun (shape_of slots scripts) c = core_runs scripts slots callers machine in
    let all : AllTell scripts slots c = cores_tell scripts slots callers machine in record {
      count = all.count;
      legal = run.holds.now.front.legal;
      each = λ i script o es eo.
          let below = at_below scripts i script es in
          let v = elem_at c.views i (let n = all.viewed in omega arith) in
          told_so_far (record { scripts = length scripts; slots = slots }) i script o (v.0).section c.marks
          (all.tells i script o v.0 es eo v.1);
      others = λ p past. no_own_update p 1 c.marks (ap updates_of (run.holds.now.seats.within p past));
    }

none_left : (os : List Own) (from : ℕ) → unfinished_from from os ≡ [] → (i : ℕ) (o : Own) → get_elem? os i ≡ some o
    → is_finished o.stage ≡ true
none_left [] from e i o there = absurd (cc)
none_left (x ∷ os) from e i o there = by (is_finished x.stage) refl e i there (λ z k at. none_left os (from + 1) z k o at)
  where
    by : (b : Bool) → is_finished x.stage ≡ b → cond b (unfinished_from (from + 1) os) (from ∷ unfinished_from (from + 1) os) ≡ [] → (i : ℕ)
        → get_elem? (x ∷ os) i ≡ some o
        → (unfinished_from (from + 1) os ≡ [] → (k : ℕ) → get_elem? os k ≡ some o → is_finished o.stage ≡ true) → is_finished o.stage ≡ true
    by true is e zero there later = subst (λ (z : Own). is_finished z.stage ≡ true) (some-injective x o there) is
    by true is e (suc i) there later = later e i there
    by false is e i there later = absurd (cc)

have_told : (scripts : List (List Op)) (slots : ℕ) (c : Core) → IsRun (shape_of slots scripts) c → AllTell scripts slots c
    → unfinished c ≡ [] → HaveTold (Explains (record { scripts = length scripts; slots = slots })) scripts (tolds_of c) c.marks
have_told scripts slots c run all over = record {
  count = length-map c.owns (λ (o : Own). o.told) ∙ all.count;
  each = λ i below.
      let s = elem_at scripts i below in
      let o = elem_at c.owns i (let n = all.count in omega arith) in
      let v = elem_at c.views i (let n = all.viewed in omega arith) in
      let room : Room = record { scripts = length scripts; slots = slots } in
      let t : Tells room i s.0 o.0 (v.0).section c.marks = all.tells i s.0 o.0 v.0 s.1 o.1 v.1 in
      let left : IsToDo true o.0 t.todo t.marks = subst (λ z. IsToDo z o.0 t.todo t.marks) (none_left c.owns 0 over i o.0 o.1) t.left in
      let done : t.done ≡ s.0 = sym (append-nil t.done) ∙ ap (λ ops. t.done ++ ops) (sym left.0) ∙ t.whole in (
        at_answer i t.own t.seen,
        subst (λ (z : List Op × List Told). HasTold (Explains room) (newcomer i) z.0 z.1 (at_answer i t.own t.seen))
            (λ j. (
              (done ∙ sym (get_or_elem scripts i [] s.0 s.1)) j,
              sym (get_or_elem (map (λ (x : Own). x.told) c.owns) i [] (o.0).told (elem_map c.owns i o.0 o.1)) j,
            )) t.told,
        t.since.seen,
        t.since.own ∙ ap (λ ms. t.own ++ ms) left.1 ∙ append-nil t.own ∙ sym (own_is room i s.0 o.0 (v.0).section c.marks t),
      );
  others = λ i past. ap updates_of (run.holds.now.seats.within i past);
  legal = run.holds.now.front.legal;
}

pub ends_are_explained : EndsAreExplained
ends_are_explained scripts slots callers machine over =
    let c : Core = core scripts slots callers in
    let room : Room = record { scripts = length scripts; slots = slots } in
    let told : HaveTold (Explains room) scripts (tolds_of c) c.marks =
    have_told scripts slots c (core_runs scripts slots callers machine) (cores_tell scripts slots callers machine) over in (
      record {
        lengths = run_lengths (Explains room) scripts (tolds_of c) c.marks told;
        explained = record {
          updates = run_updates (Explains room) scripts (tolds_of c) c.marks told;
          confirmed = run_confirmed (Explains room) scripts (tolds_of c) c.marks told;
          fronts = run_fronts (Explains room) scripts (tolds_of c) c.marks told;
        };
      },
      run_fits (Explains room) scripts (tolds_of c) c.marks told,
    )
