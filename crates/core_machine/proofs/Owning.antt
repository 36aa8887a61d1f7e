-- A step of the machine is the core's, also where the script had ended or the step is blocked.
-- A step of the machine is the core's.
use Rattle.std.proofs.Common.{◌≡◌, ℕ, zero, suc, ◌*◌, ◌<◌, ◌≤◌, cond, Bool, true, false, List, [], ◌∷◌, ◌++◌, length, get_or, map, set, slice_get, slice_set, slice_index_or, Option as Opt, Some, None, refl, sym, ap, subst, ◌∙◌, arith, length-set, ◌+◌, ◌%◌, ◌==◌, ◌&&◌, not}
use Rattle.std.proofs.lemmas.List.{length-map, map-set, set-get_or}
use Rattle.std.proofs.lemmas.List.Sums.{sum_by-cons}
use Rattle.std.proofs.lemmas.Option.{get_or_from_slice_get}
use mathlib.Core.Option.{Option, none, some, some-injective}
use lib.ListN.{get_elem?}
use Rattle.atomic_table.proofs.Lists.{at_map}
use Rattle.list_laws.proofs.Lists.{at_below}
use Rattle.prcu_marks.specs.declared.mark.Why.{Why}
use Rattle.prcu_marks.specs.Marks.{updates_of, left_by, said_by}
use Rattle.prcu_model.specs.declared.operation.Op.{Op}
use Rattle.prcu_model.specs.declared.operation.Update.{Update}
use Rattle.prcu_model.specs.Scripts.{op_count}
use Rattle.core_state.specs.declared.view.View.{View}
use Rattle.core_points.specs.Programs.{Own, view_after, act_at, after, or_root, target_lock}
use Rattle.core_points.specs.Laws.{is_finished}
use Rattle.core_machine.specs.declared.caller.Caller.{Caller}
use Rattle.core_machine.specs.declared.machine.Stepped.{Stepped}
use Rattle.core_machine.specs.declared.machine.Stepped.TheVariants.{Finished, Blocked}
use Rattle.core_state.specs.Acts.{access_of, noted}
use Rattle.core_machine.specs.Runs.{Core, core, told_in, moved, moved_by, new_core, shape_of, step}
use Rattle.core_machine.specs.Laws.{IsMachine, CanStep, found_now, told_now, index_now, update_now, AreWordsOf, IsStored}
use Rattle.core_machine.specs.Machines.{Answer, answer_of, answers, blocked, has_ended, own_answers, standing_of, stands_after, HasMoved, HasStored, IsReached, IsSteppable, MachineAt, StepsBy, stepped_as, stepped_of, at_lock}
use Rattle.core_machine.specs.Stored.{HasRoom, own_of}
use Rattle.core_machine.proofs.Running.{IsRun, core_runs, step_is, tickets_total, stands_follow}
use Rattle.core_machine.proofs.Accounts.{cores_tell, elem_at, tolds_are_explained}
use Rattle.core_machine.proofs.Storing.{callers_can_step, told, steps_are_stored, steps_more, viewed}
use Rattle.prcu_marks.specs.declared.mark.Why.TheVariants.{Front, Lock}
use Rattle.core_points.specs.declared.stage.Stage.{Stage}
use Rattle.core_points.specs.declared.stage.Stage.TheVariants as at

-- ---- lists

module _ {A : Type 0} where
  pub elem : (xs : List A) (i : ℕ) (x : A) → slice_get xs i ≡ Some x → get_elem? xs i ≡ some x
  elem [] i x e = cc
  elem (y ∷ ys) zero x e = let same : y ≡ x = cc in ap some same
  elem (y ∷ ys) (suc i) x e = elem ys i x e

  pub got : (xs : List A) (i : ℕ) → i < length xs → (x : A) × (slice_get xs i ≡ Some x)
  got [] i below = absurd (omega arith)
  got (y ∷ ys) zero below = (y, refl)
  got (y ∷ ys) (suc i) below = got ys i (omega arith)

  pub put_keeps : (P : A → Type 0) (xs : List A) (i : ℕ) (x : A) → P x → ((j : ℕ) (d : A) → slice_get xs j ≡ Some d → P d) → (j : ℕ) (d : A)
      → slice_get (set xs i x) j ≡ Some d → P d
  put_keeps P [] i x px all j d e = all j d e
  put_keeps P (y ∷ ys) zero x px all zero d e = let same : x ≡ d = cc in subst P same px
  put_keeps P (y ∷ ys) zero x px all (suc j) d e = all (suc j) d e
  put_keeps P (y ∷ ys) (suc i) x px all zero d e = all zero d e
  put_keeps P (y ∷ ys) (suc i) x px all (suc j) d e = put_keeps P ys i x px (λ k z q. all (suc k) z q) j d e

-- a script is no longer than all of them
script_within : (scripts : List (List Op)) (i : ℕ) (script : List Op) → get_elem? scripts i ≡ some script → length script ≤ op_count scripts
script_within [] i script e = absurd (cc)
script_within (s ∷ ss) zero script e = let one = sum_by-cons length s ss in
    let same : length s ≡ length script = ap length (some-injective s script e) in omega (arith, one, same)
script_within (s ∷ ss) (suc i) script e = let one = sum_by-cons length s ss in let rest = script_within ss i script e in
    omega (arith, one, rest)

-- ---- one caller's step, where it stands in the list of callers

module _ (words : List ℕ) (callers : List Caller) (updates : List Update) (i : ℕ) (d : Caller) where
  pub can_here : IsSteppable words callers i → is_finished (slice_index_or callers i d).stage ≡ false
      → CanStep words (own_of (slice_index_or callers i d))
  can_here s going =
      let same : slice_index_or callers i d ≡ s.0 = get_or_from_slice_get callers i s.0 d s.1 in
      subst (λ (z : Caller). CanStep words (own_of z)) (sym same) (s.3 (subst (λ (z : Caller). is_finished z.stage ≡ false) same going))

  pub room_here : IsSteppable words callers i → HasRoom (slice_index_or callers i d)
  room_here s = subst (λ (z : Caller). HasRoom z) (sym (get_or_from_slice_get callers i s.0 d s.1)) s.2

  pub ended_here : is_finished (slice_index_or callers i d).stage ≡ true → (c : Caller) → slice_get callers i ≡ Some c
      → StepsBy (is_finished c.stage) words callers updates i c words (slice_set callers i (slice_index_or callers i d)) updates Finished
  ended_here ended c there =
      let same : slice_index_or callers i d ≡ c = get_or_from_slice_get callers i c d there in
      let now : is_finished c.stage ≡ true = subst (λ (z : Caller). is_finished z.stage ≡ true) same ended in
      subst (λ b. StepsBy b words callers updates i c words (slice_set callers i (slice_index_or callers i d)) updates Finished) (sym now)
      (record { words_are = refl; callers_are = set-get_or callers i d; updates_are = refl; answer = refl })

  pub moved_here : (words' : List ℕ) (now : Caller) (updates' : List Update) (result : Stepped)
      → is_finished (slice_index_or callers i d).stage ≡ false
      → (let o : Own = own_of (slice_index_or callers i d) in
      words' ≡ set words (index_now o) (left_by (access_of o.place (act_at o o.stage)) (found_now words o)))
      → (let o : Own = own_of (slice_index_or callers i d) in own_of now ≡ after o (told_now words o) o.stage)
      → HasRoom now
      → now.stands ≡ stands_after (slice_index_or callers i d).stands (told_now words (own_of (slice_index_or callers i d)))
      (slice_index_or callers i d).stage
      → updates' ≡ updates ++ update_now (own_of (slice_index_or callers i d))
      → (let o : Own = own_of (slice_index_or callers i d) in result ≡ stepped_of (blocked o (told_now words o) o.stage))
      → (c : Caller) → slice_get callers i ≡ Some c
      → StepsBy (is_finished c.stage) words callers updates i c words' (slice_set callers i now) updates' result
  moved_here words' now updates' result going words_are own room stands updates_are answer c there =
      let same : slice_index_or callers i d ≡ c = get_or_from_slice_get callers i c d there in
      let here : HasMoved words callers updates i (slice_index_or callers i d) words' (slice_set callers i now) updates' result =
      record {
        words_are = words_are;
        now = now;
        callers_are = refl;
        own = own;
        room = room;
        stands = stands;
        updates_are = updates_are;
        answer = answer;
      } in
      let still : is_finished c.stage ≡ false = subst (λ (z : Caller). is_finished z.stage ≡ false) same going in
      subst (λ b. StepsBy b words callers updates i c words' (slice_set callers i now) updates' result) (sym still)
      (subst (λ (z : Caller). HasMoved words callers updates i z words' (slice_set callers i now) updates' result) same here)

-- a step changes what its caller keeps, and no other's
set_same : (xs : List Caller) (i : ℕ) (x : Caller) → slice_get xs i ≡ Some x → set xs i x ≡ xs
set_same [] i x e = absurd (cc)
set_same (y ∷ ys) zero x e = let same : x ≡ y = cc in ap (λ z. z ∷ ys) same
set_same (y ∷ ys) (suc i) x e = ap (λ zs. y ∷ zs) (set_same ys i x e)

pub one_changed : (words : List ℕ) (kept : List Caller) (updates : List Update) (i : ℕ) (c : Caller) (words' : List ℕ) (kept' : List Caller)
    (updates' : List Update) (result : Stepped) → slice_get kept i ≡ Some c
    → (b : Bool) → StepsBy b words kept updates i c words' kept' updates' result
    → (own : Own) × (map own_of kept' ≡ set (map own_of kept) i own)
one_changed words kept updates i c words' kept' updates' result there true s =
    (own_of c, ap (map own_of) (s.callers_are ∙ sym (set_same kept i c there)) ∙ map-set own_of kept i c)
one_changed words kept updates i c words' kept' updates' result there false s =
    (own_of s.now, ap (map own_of) s.callers_are ∙ map-set own_of kept i s.now)

-- ---- the core's step

abbrev pub at_of : List ℕ → List Caller → List Update → MachineAt
at_of words kept updates = record {
  words = words;
  owns = map own_of kept;
  updates = updates;
  standing = map (λ (c : Caller). c.stands) kept;
}

ended_stays : (c : Core) (i : ℕ) (o : Own) → get_elem? c.owns i ≡ some o → is_finished o.stage ≡ true → step c i ≡ c
ended_stays c i o own ended = ap (λ (z : Option Own). moved_by c i z (get_elem? c.views i)) own ∙ by (get_elem? c.views i)
  where
    by : (y : Option View) → moved_by c i (some o) y ≡ c
    by none = refl
    by (some v) = ap (λ b. cond b c (moved c i o v)) ended

stepped_is : (why : Opt Why) → stepped_of why ≡ stepped_as (answer_of why)
stepped_is None = refl
stepped_is (Some why) = refl

module _ (scripts : List (List Op)) (slots : ℕ) (callers : List ℕ) (machine : IsMachine scripts slots) (words : List ℕ) (kept : List Caller)
    (updates : List Update) (stored : HasStored scripts slots (core scripts slots callers) (at_of words kept updates)) where
  pub few_updates : length updates ≤ 4 * op_count scripts
  few_updates =
      let run = core_runs scripts slots callers machine in
      let clock = run.holds.now.counts.clock in
      let all = tickets_total scripts in
      let same : length updates ≡ length (updates_of (core scripts slots callers).marks) = ap length stored.updates in
      omega (arith, clock, all, same)

  pub few_callers : length kept ≤ 64
  few_callers =
      let count = (cores_tell scripts slots callers machine).count in
      let owns : length (map own_of kept) ≡ length (core scripts slots callers).owns = ap length stored.owns in
      let long = length-map kept own_of in
      let few = machine.few_scripts in
      omega (arith, count, owns, long, few)

  module _ (i : ℕ) (c : Caller) (there : slice_get kept i ≡ Some c) where
    own_there : get_elem? (core scripts slots callers).owns i ≡ some (own_of c)
    own_there = subst (λ os. get_elem? os i ≡ some (own_of c)) stored.owns (at_map own_of kept i c (elem kept i c there))

    pub few_told : length c.told.entries ≤ 1048576
    few_told =
        let told = tolds_are_explained scripts slots callers machine in
        let below : i < length scripts = subst (λ n. i < n) told.count
        (at_below (core scripts slots callers).owns i (own_of c) own_there) in
        let script = elem_at scripts i below in
        let short : length c.told.entries ≤ length script.0 = (told.each i script.0 (own_of c) script.1 own_there).shorter in
        let within = script_within scripts i script.0 script.1 in
        let few = machine.few_ops in
        omega (arith, short, within, few)

    pub can_there : is_finished c.stage ≡ false → CanStep words (own_of c)
    can_there going = callers_can_step scripts slots callers words i (own_of c) machine stored.words own_there going

    next_standing : (words' : List ℕ) (kept' : List Caller) (updates' : List Update) (result : Stepped) → is_finished c.stage ≡ false
        → HasMoved words kept updates i c words' kept' updates' result
        → map (λ (z : Caller). z.stands) kept' ≡ map standing_of (core scripts slots (callers ++ i ∷ [])).views
    next_standing words' kept' updates' result going s =
        let now : Core = core scripts slots callers in
        let v = viewed scripts slots callers i (own_of c) machine own_there in
        let run : IsRun (shape_of slots scripts) now = core_runs scripts slots callers machine in
        let next : core scripts slots (callers ++ i ∷ []) ≡ moved now i (own_of c) v.0 =
        steps_more (new_core scripts slots) callers i ∙ step_is (shape_of slots scripts) now i (own_of c) v.0 run own_there v.1 going in
        let n : ℕ = told_in now (own_of c) in
        let at : told_now words (own_of c) ≡ n = told scripts slots callers machine words i
        (own_of c) v.0 stored.words own_there v.1 going in
        let w : View = view_after (noted v.0 (act_at (own_of c) c.stage) n) now.marks n (act_at (own_of c) c.stage) in
        let here : get_elem? (map (λ (z : Caller). z.stands) kept) i ≡ some c.stands =
        at_map (λ (z : Caller). z.stands) kept i c (elem kept i c there) in
        let there_now : get_elem? (map standing_of now.views) i ≡ some (standing_of v.0) = at_map standing_of now.views i v.0 v.1 in
        let stood : c.stands ≡ standing_of v.0 = some-injective c.stands (standing_of v.0)
        (sym here ∙ ap (λ l. get_elem? l i) stored.standing ∙ there_now) in
        let stands : s.now.stands ≡ standing_of w = s.stands ∙ (λ j. stands_after (stood j) (at j) c.stage)
        ∙ sym (stands_follow (own_of c) v.0 now.marks n c.stage (run.callers i (own_of c) v.0 own_there v.1).fits) in
        ap (map (λ (z : Caller). z.stands)) s.callers_are ∙ map-set (λ (z : Caller). z.stands) kept i s.now
        ∙ (λ j. set (stored.standing j) i (stands j)) ∙ sym (map-set standing_of now.views i w)
        ∙ ap (λ (z : Core). map standing_of z.views) (sym next)

    pub next_stored : (words' : List ℕ) (kept' : List Caller) (updates' : List Update) (result : Stepped) (b : Bool)
        → is_finished c.stage ≡ b
        → StepsBy b words kept updates i c words' kept' updates' result
        → HasStored scripts slots (core scripts slots (callers ++ i ∷ [])) (at_of words' kept' updates')
    next_stored words' kept' updates' result true ended s =
        let same : core scripts slots (callers ++ i ∷ []) ≡ core scripts slots callers =
        steps_more (new_core scripts slots) callers i ∙ ended_stays (core scripts slots callers) i (own_of c) own_there ended in
        subst (λ z. HasStored scripts slots z (at_of words' kept' updates')) (sym same) (record {
          words = subst (λ ws. AreWordsOf (shape_of slots scripts) ws (core scripts slots callers)) (sym s.words_are) stored.words;
          owns = ap (map own_of) s.callers_are ∙ stored.owns;
          updates = s.updates_are ∙ stored.updates;
          standing = ap (map (λ (z : Caller). z.stands)) s.callers_are ∙ stored.standing;
        })
    next_stored words' kept' updates' result false going s =
        let is : IsStored (shape_of slots scripts) words (core scripts slots callers) (core scripts slots (callers ++ i ∷ [])) i
        (own_of c) = steps_are_stored scripts slots callers words i (own_of c) machine stored.words own_there going in
        record {
          words = subst (λ ws. AreWordsOf (shape_of slots scripts) ws (core scripts slots (callers ++ i ∷ [])))
              (sym s.words_are) is.words_are;
          owns = ap (map own_of) s.callers_are ∙ map-set own_of kept i s.now ∙ (λ j. set (stored.owns j) i (s.own j)) ∙ sym is.owns_are;
          updates = s.updates_are ∙ ap (λ us. us ++ update_now (own_of c)) stored.updates ∙ sym is.updates_are;
          standing = next_standing words' kept' updates' result going s;
        }

    pub next_answers : (words' : List ℕ) (kept' : List Caller) (updates' : List Update) (result : Stepped) (b : Bool)
        → is_finished c.stage ≡ b
        → StepsBy b words kept updates i c words' kept' updates' result → result ≡ stepped_as (answers (core scripts slots callers) i)
    next_answers words' kept' updates' result b is s = by b is s ∙ sym (ap stepped_as (ap (λ (z : Option Own). elim z as (λ _. Answer) [
      | none ↦ has_ended
      | some o ↦ own_answers (core scripts slots callers) o
    ]) own_there))
      where
        by : (b : Bool) → is_finished c.stage ≡ b → StepsBy b words kept updates i c words' kept' updates' result
            → result ≡ stepped_as (own_answers (core scripts slots callers) (own_of c))
        by true ended s = s.answer ∙ sym (ap (λ z. stepped_as
            (cond z has_ended (answer_of (blocked (own_of c) (told_in (core scripts slots callers) (own_of c)) c.stage)))) ended)
        by false going s =
            let v = viewed scripts slots callers i (own_of c) machine own_there in
            let at : told_now words (own_of c) ≡ told_in (core scripts slots callers) (own_of c) =
            told scripts slots callers machine words i (own_of c) v.0 stored.words own_there v.1 going in
            s.answer ∙ stepped_is (blocked (own_of c) (told_now words (own_of c)) c.stage)
            ∙ ap (λ n. stepped_as (answer_of (blocked (own_of c) n c.stage))) at
            ∙ sym (ap (λ z. stepped_as (cond z has_ended
            (answer_of (blocked (own_of c) (told_in (core scripts slots callers) (own_of c)) c.stage)))) going)

-- ---- the machine's step

module _ (words : List ℕ) (kept : List Caller) (updates : List Update) (capacity : ℕ)
    (reached : IsReached (at_of words kept updates) kept capacity) where
  pub steppable : (i : ℕ) → i < length kept → IsSteppable words kept i
  steppable i below =
      let c = got kept i below in (
        c.0,
        c.1,
        reached.rooms i c.0 c.1,
        λ going. can_there reached.scripts reached.slots reached.callers reached.machine words kept updates reached.stored i c.0 c.1
            going,
      )

  pub has_room : length updates < capacity
  has_room = let few = few_updates reached.scripts reached.slots reached.callers reached.machine words kept updates reached.stored in
      let room = reached.few in omega (arith, few, room)

  pub few_answers : (i : ℕ) (c : Caller) → slice_get kept i ≡ Some c → length c.told.entries ≤ 1048576
  few_answers i c there = few_told reached.scripts reached.slots reached.callers reached.machine words kept updates reached.stored i c there

  pub few_kept : length kept ≤ 64
  few_kept = few_callers reached.scripts reached.slots reached.callers reached.machine words kept updates reached.stored

  module _ (i : ℕ) (c : Caller) (there : slice_get kept i ≡ Some c) (words' : List ℕ) (kept' : List Caller) (updates' : List Update)
      (result : Stepped) (capacity' : ℕ) (more : capacity ≤ capacity') where
    rooms_by : (b : Bool) → StepsBy b words kept updates i c words' kept' updates' result → (j : ℕ) (d : Caller)
        → slice_get kept' j ≡ Some d → HasRoom d
    rooms_by true s j d e = reached.rooms j d (subst (λ ks. slice_get ks j ≡ Some d) s.callers_are e)
    rooms_by false s j d e = put_keeps (λ (z : Caller). HasRoom z) kept i s.now s.room reached.rooms j d
        (subst (λ ks. slice_get ks j ≡ Some d) s.callers_are e)

    pub lengths_by : (b : Bool) → StepsBy b words kept updates i c words' kept' updates' result
        → (length words' ≡ length words) × (length kept' ≡ length kept)
    lengths_by true s = (ap length s.words_are, ap length s.callers_are)
    lengths_by false s = (
      ap length s.words_are ∙ length-set words (index_now (own_of c))
          (left_by (access_of c.place (act_at (own_of c) c.stage)) (found_now words (own_of c))),
      ap length s.callers_are ∙ length-set kept i s.now,
    )

    pub reached_next : StepsBy (is_finished c.stage) words kept updates i c words' kept' updates' result
        → IsReached (at_of words' kept' updates') kept' capacity'
    reached_next s = record {
      scripts = reached.scripts;
      slots = reached.slots;
      callers = reached.callers ++ i ∷ [];
      machine = reached.machine;
      stored = next_stored reached.scripts reached.slots reached.callers reached.machine words kept updates reached.stored i c there
          words' kept' updates' result (is_finished c.stage) refl s;
      rooms = rooms_by (is_finished c.stage) s;
      few = (let few = reached.few in omega (arith, few, more));
    }

-- the same where the lists are borrowed
pub reached_by : (words ws : List ℕ) (kept ks : List Caller) (updates : List Update) (capacity : ℕ) → ws ≡ words → ks ≡ kept
    → IsReached (at_of words kept updates) kept capacity → IsReached (at_of ws ks updates) ks capacity
reached_by words ws kept ks updates capacity w k reached =
    subst (λ (z : List ℕ × List Caller). IsReached (at_of z.0 z.1 updates) z.1 capacity) (λ j. (sym w j, sym k j)) reached

pub stored_by : (scripts : List (List Op)) (slots : ℕ) (c : Core) (words ws : List ℕ) (kept ks : List Caller) (updates : List Update)
    → ws ≡ words → ks ≡ kept → HasStored scripts slots c (at_of words kept updates) → HasStored scripts slots c (at_of ws ks updates)
stored_by scripts slots c words ws kept ks updates w k stored =
    subst (λ (z : List ℕ × List Caller). HasStored scripts slots c (at_of z.0 z.1 updates)) (λ j. (sym w j, sym k j)) stored

pub below_by : (i : ℕ) (kept ks : List Caller) (m : MachineAt) → ks ≡ kept → map own_of kept ≡ m.owns → i < length m.owns → i < length ks
below_by i kept ks m k owns below = let a = length-map kept own_of in let b : length (map own_of kept) ≡ length m.owns = ap length owns in
    let d : length ks ≡ length kept = ap length k in omega (arith, a, b, d, below)

-- ---- what a caller was told

got_map : (xs : List Caller) (i : ℕ) (x : Caller) → slice_get xs i ≡ Some x → slice_get (map own_of xs) i ≡ Some (own_of x)
got_map [] i x e = absurd (cc)
got_map (y ∷ ys) zero x e = let same : y ≡ x = cc in ap (λ z. Some (own_of z)) same
got_map (y ∷ ys) (suc i) x e = got_map ys i x e

module _ (words : List ℕ) (kept : List Caller) (updates : List Update) (m : MachineAt) (i : ℕ) (x : Caller)
    (same : at_of words kept updates ≡ m) (below : i < length m.owns) (is : x ≡ get_or kept i x) where
  shown : slice_get kept i ≡ Some x
  shown =
      let owns : length (map own_of kept) ≡ length m.owns = ap (λ (z : MachineAt). length z.owns) same in
      let long = length-map kept own_of in
      let y = got kept i (omega (arith, owns, long, below)) in
      y.1 ∙ ap Some (sym (is ∙ get_or_from_slice_get kept i y.0 x y.1))

  pub shown_own : slice_get m.owns i ≡ Some (own_of x)
  shown_own = ap (λ (z : MachineAt). slice_get z.owns i) (sym same) ∙ got_map kept i x shown

  pub shown_few : (capacity : ℕ) → IsReached (at_of words kept updates) kept capacity → length x.told.entries ≤ 1048576
  shown_few capacity reached = few_answers words kept updates capacity reached i x shown

  pub shown_told : (own : Own) → slice_get m.owns i ≡ Some own → x.told.entries ≡ own.told
  shown_told own there =
      let here : get_elem? m.owns i ≡ some (own_of x) =
      ap (λ (z : MachineAt). get_elem? z.owns i) (sym same) ∙ at_map own_of kept i x (elem kept i x shown) in
      ap (λ (o : Own). o.told) (some-injective (own_of x) own (sym here ∙ elem m.owns i own there))

-- What a step leaves where the script had ended, and where it was blocked.

taken_stays : (b : Bool) (slot place n : ℕ) (why : Why) → cond b None (Some (Lock slot)) ≡ Some why → cond b place n ≡ n
taken_stays true slot place n why e = cc
taken_stays false slot place n why e = refl

lock_stays : (slot place n : ℕ) (why : Why) → at_lock slot n ≡ Some why → cond (n == 0) place n ≡ n
lock_stays slot place n why e = taken_stays (n == 0) slot place n why e

commit_stays : (b odd : Bool) (x n : ℕ) (why : Why) → cond (not b && odd) (Some (Front n)) None ≡ Some why → cond b x n ≡ n
commit_stays true odd x n why e = cc
commit_stays false odd x n why e = refl

stays_at : (o : Own) (n : ℕ) (stage : Stage) (why : Why) → blocked o (said_by (access_of o.place (act_at o stage)) n) stage ≡ Some why
    → left_by (access_of o.place (act_at o stage)) n ≡ n
stays_at o n (at.LeafLock spot) why e = lock_stays spot.slot (o.place + 1) n why e
stays_at o n (at.LookStamp waits clock p key) why e = refl
stays_at o n (at.Commit update expected) why e = commit_stays (n == expected) (n % 2 == 1) (expected + 1) n why e
stays_at o n (at.SetLock s generation) why e = lock_stays s (o.place + 1) n why e
stays_at o n (at.TargetLock t i) why e = lock_stays (target_lock t i) (o.place + 1) n why e
stays_at o n (at.CopyLock d u next_key) why e = lock_stays (or_root o.spare) (o.place + 1) n why e
stays_at o n _ why e = cc

no_end : (why : Opt Why) → stepped_of why ≡ Finished → {C : Type 0} → C
no_end None e = cc
no_end (Some why) e = cc

is_why : (found : Opt Why) (why : Why) → stepped_of found ≡ Blocked why → found ≡ Some why
is_why None why e = cc
is_why (Some w) why e = let same : w ≡ why = cc in ap Some same

module _ (words : List ℕ) (callers : List Caller) (updates : List Update) (i : ℕ) (c : Caller) (words' : List ℕ) (callers' : List Caller)
    (updates' : List Update) (result : Stepped) where
  pub unmoved : (b : Bool) → StepsBy b words callers updates i c words' callers' updates' result → result ≡ Finished
      → at_of words' callers' updates' ≡ at_of words callers updates
  unmoved true s e = λ j. at_of (s.words_are j) (s.callers_are j) (s.updates_are j)
  unmoved false s e = no_end (blocked (own_of c) (told_now words (own_of c)) c.stage) (sym s.answer ∙ e)

  pub words_stay : (b : Bool) → StepsBy b words callers updates i c words' callers' updates' result → (why : Why) → result ≡ Blocked why
      → words' ≡ words
  words_stay true s why e = s.words_are
  words_stay false s why e =
      let o : Own = own_of c in
      let n : ℕ = found_now words o in
      s.words_are ∙ ap (set words (index_now o)) (stays_at o n c.stage why
      (is_why (blocked o (told_now words o) c.stage) why (sym s.answer ∙ e))) ∙ set-get_or words (index_now o) 0
