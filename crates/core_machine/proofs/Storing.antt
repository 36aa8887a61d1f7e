-- A step on the words: that a caller is able to make it, and that it is the core's.
-- What a caller's next point asks of numbers and lists is given.
use Rattle.std.proofs.Common.{◌≡◌, ◌≢◌, ℕ, zero, suc, ◌+◌, ◌*◌, ◌/◌, ◌^◌, ◌<◌, ◌≤◌, ◌==◌, ◌||◌, cond, Bool, true, false, List, [], ◌∷◌, length, map, Option, Some, None, refl, sym, ap, subst, ◌∙◌, arith, ne_eqb, eq-eqb, ◌++◌, set, slice_index, length-set}
use Rattle.std.proofs.lemmas.List.{length-map}
use Rattle.prcu_marks.specs.declared.mark.Mark.{Mark}
use Rattle.prcu_marks.specs.declared.mark.Side.{Side}
use Rattle.list_laws.specs.Counts.{times}
use Rattle.core_state.specs.declared.shape.Shape.{Shape}
use Rattle.core_state.specs.declared.view.HeldLock.{HeldLock}
use Rattle.core_state.specs.declared.view.Retired.{Retired}
use Rattle.core_state.specs.declared.view.View.{View}
use Rattle.core_state.specs.Memory.{Memory, place_room, class_room, row_room, is_field, half, slot_base, room_behind, memory_of, stored, word_of, side_number}
use Rattle.core_state.specs.Parts.{HasFewSlots}
use Rattle.core_state.specs.Invariant.{IsShape}
use Rattle.core_points.specs.declared.stage.Aim.TheVariants.{Leaf}
use Rattle.core_points.specs.declared.stage.Node.{Node}
use Rattle.core_points.specs.declared.stage.Successor.{Successor}
use Rattle.core_points.specs.declared.stage.Target.{Target}
use Rattle.core_points.specs.declared.stage.Waits.TheVariants.{Reuse, Move}
use Rattle.core_points.specs.declared.stage.Stage.{Stage}
use Rattle.prcu_marks.specs.Marks.{said_by, left_by, StaysWord, updates_of}
use Rattle.core_state.specs.Acts.{access_of, noted}
use Rattle.core_points.specs.Programs.{Act, Needs, field_of, left_of, Own, is_none_left, is_some, target_locks, act_at, after, ended, kind_of, marks_of, view_after, is_some as has_slot}
use Rattle.core_points.specs.Facts.{SameLocks, table_of}
use Rattle.core_points.specs.DeleteFacts.{first_locks, target_words}
use Rattle.core_points.specs.Laws.{IsTold, is_finished}
use Rattle.core_points.specs.Fits.{Fits}
use Rattle.seat_table.specs.Gains.{WordFits}
use Rattle.core_machine.specs.Stored.{IsAble, MayStore}
use Rattle.core_points.proofs.Calls.{OfTable, keeps_table}
use Rattle.core_machine.proofs.Running.{IsRun, moves, core_runs, step_is, is_told, has_its_word, needs_met, stays_word}
use mathlib.Core.Option.{some}
use lib.ListN.{get_elem?}
use Rattle.atomic_table.proofs.Lists.{set_here}
use Rattle.list_laws.proofs.Lists.{at_below}
use Rattle.prcu_marks.proofs.Marks.{updates_of-append}
use Rattle.prcu_model.specs.declared.operation.Op.{Op}
use Rattle.prcu_model.specs.declared.operation.Update.{Update}
use Rattle.core_state.specs.declared.shape.Waiter.TheVariants.{Eer}
use Rattle.core_state.specs.declared.words.Field.{Field}
use Rattle.core_points.proofs.AllPoints.{trails_are_free}
use Rattle.core_laws.proofs.Acting.{has_word, op_of, updates_by, updates_made}
use Rattle.seat_table.proofs.Facts.{word_fits}
use Rattle.core_laws.proofs.Places.{word_inside}
use Rattle.seat_table.proofs.Gains.{memory-word, memory-stored}
use Rattle.core_frames.proofs.Views.{same_self}
use Rattle.core_machine.specs.Runs.{Core, core, told_in, moved, shape_of, step, steps}
use Rattle.core_machine.specs.Laws.{IsMachine, CanStep, found_now, told_now, index_now, shape_for, update_at, AreWordsOf, CallersCanStep, IsStored, StepsAreStored}
use Rattle.core_machine.proofs.Phases.{del_is, put_is, set_is}
use Rattle.core_machine.proofs.Accounts.{AllTell, cores_tell, elem_at}
use Rattle.core_points.specs.declared.stage.Last.TheVariants as last
use Rattle.core_points.specs.declared.stage.Then.TheVariants as then
use Rattle.core_points.specs.declared.stage.Update.TheVariants as update
use Rattle.core_points.specs.declared.stage.Stage.TheVariants as at
use Rattle.core_state.specs.declared.words.Field.TheVariants as fields

-- ---- lists

none_held : (xs : List ℕ) → ((s : ℕ) → 0 ≡ times s xs) → length xs < 5
none_held [] e = omega arith
none_held (x ∷ xs) e = (let q = e x in let here : times x (x ∷ xs) ≡ 1 + times x xs = ap (λ b. cond b 1 0 + times x xs) (eq-eqb x x refl) in
    absurd (omega arith))

first_long : (t : Target) (i : ℕ) → length (first_locks t i) ≡ i
first_long t zero = refl
first_long t (suc i) = let rest = first_long t i in omega arith

few_locks : (t : Target) → target_locks t ≤ 4
few_locks t = by t.successor
  where
    by : (x : Option Successor) → elim x as (λ _. ℕ) [ None ↦ 2 | Some u ↦ cond (u.parent == t.node.node) 3 4 ] ≤ 4
    by None = omega arith
    by (Some u) = either (u.parent == t.node.node)
      where
        either : (b : Bool) → cond b 3 4 ≤ 4
        either true = omega arith
        either false = omega arith

few_words : (x : Option Successor) → target_words x ≤ 9
few_words None = omega arith
few_words (Some u) = omega arith

some_left : (xs : List ℕ) → is_none_left xs ≡ false → 1 ≤ length xs
some_left [] e = cc
some_left (x ∷ xs) e = omega arith

first_kept : (rs : List Retired) (r : Retired) (xs : List ℕ) (rest : List Retired) → rs ≡ r ∷ rest → map (λ (r : Retired). r.slot) rs ≡ xs
    → 1 ≤ length xs
first_kept rs r xs rest e same = let a = ap length same in let b = length-map rs (λ (r : Retired). r.slot) in let d = ap length e in
    omega arith

-- ---- the next point

module _ (k : Shape) (shape : IsShape k) (o : Own) (v w : View) (h h' : List Mark) (m m' : Memory) (slots : k.slots ≡ o.slots)
    (places : k.places ≡ o.places) (room : k.room ≡ o.room) (sixteen : k.room ≡ 16) (few : HasFewSlots k.room v) (told : IsTold o v h m) where
  -- a slot of the next caller's table is a number of 32 bits
  small : (n : ℕ) (stage : Stage) (s : ℕ) → s < table_of (after o n stage) → s < 2 ^ 32
  small n stage s below =
      let same = keeps_table o n stage in
      let a : (after o n stage).slots ≡ o.slots = ap (λ (t : OfTable). t.slots) same in
      let b : (after o n stage).places ≡ o.places = ap (λ (t : OfTable). t.places) same in
      let few_slots = shape.few_slots in
      let few_places = shape.few_places in
      omega arith

  link_able : (s n : ℕ) (b : Side) → (n ≢ 0 → (let o' : Own = after o n (at.AtLink s b) in Fits o' o'.stage w × IsTold o' w h' m'))
      → n < 2 ^ 32
  link_able s zero b next = omega arith
  link_able s (suc n) b next =
      let got = next (λ e. absurd (omega arith)) in
      let o' : Own = after o (suc n) (at.AtLink s b) in
      let is : o'.stage ≡ at.AtKey (suc n) s b = ap (λ z. cond z (ended o.op s b) (at.AtKey (suc n) s b))
      (ne_eqb (suc n) 0 (λ e. absurd (omega arith))) in
      let f : Fits o' (at.AtKey (suc n) s b) w = subst (λ st. Fits o' st w) is got.0 in
      let i = (f.point).1 in
      small (suc n) (at.AtLink s b) (suc n) (got.1.stood i.section i.is (suc n) (i.stands).here)

  right_able : (d : Node) (n : ℕ) → d.left ≢ 0 → (let o' : Own = after o n (at.NodeRight d) in Fits o' o'.stage w × IsTold o' w h' m')
      → n < 2 ^ 32
  right_able d zero some_child got = omega arith
  right_able d (suc n) some_child got =
      let o' : Own = after o (suc n) (at.NodeRight d) in
      let d' : Node = record d { right = suc n } in
      let u : Successor = record { parent = d.node; slot = suc n; parent_generation = 0; generation = 0 } in
      let none : ((d.left == 0) || (suc n == 0)) ≡ false =
      ap (λ z. z || (suc n == 0)) (ne_eqb d.left 0 some_child) ∙ ne_eqb (suc n) 0 (λ e. absurd (omega arith)) in
      let is : o'.stage ≡ at.SuccessorLeft d' u = ap (λ z. cond z (at.Leave (then.Delete (record { node = d'; successor = None })))
      (at.SuccessorLeft d' u)) none in
      let f : Fits o' (at.SuccessorLeft d' u) w = subst (λ st. Fits o' st w) is got.0 in
      let i = (f.point).2 in
      small (suc n) (at.NodeRight d) (suc n) (got.1.stood i.section i.is (suc n) ((i.known).1.1).slot_stood)

  left_able : (d : Node) (u : Successor) (n : ℕ)
      → (let o' : Own = after o n (at.SuccessorLeft d u) in Fits o' o'.stage w × IsTold o' w h' m') → n < 2 ^ 32
  left_able d u zero got = omega arith
  left_able d u (suc n) got =
      let o' : Own = after o (suc n) (at.SuccessorLeft d u) in
      let u' : Successor = record u { parent = u.slot; slot = suc n } in
      let is : o'.stage ≡ at.SuccessorLeft d u' = ap (λ z. cond z
      (cond (u.parent == d.node) (at.SuccessorLife d u) (at.SuccessorParentLife d u)) (at.SuccessorLeft d u'))
      (ne_eqb (suc n) 0 (λ e. absurd (omega arith))) in
      let f : Fits o' (at.SuccessorLeft d u') w = subst (λ st. Fits o' st w) is got.0 in
      let i = (f.point).2 in
      small (suc n) (at.SuccessorLeft d u) (suc n) (got.1.stood i.section i.is (suc n) ((i.known).1.1).slot_stood)

  -- no lock is held
  free_locks : SameLocks o.locks v.locks → v.locks ≡ [] → length o.locks < 5
  free_locks same none = none_held o.locks (λ s. ap (λ ls. times s (map (λ (l : HeldLock). l.slot) ls)) (sym none) ∙ same s)

  kept_long : (f : map (λ (r : Retired). r.slot) v.hands.retired ≡ o.retired) → length v.hands.retired ≡ length o.retired
  kept_long f = sym (length-map v.hands.retired (λ (r : Retired). r.slot)) ∙ ap length f

  pub able : (stage : Stage) (n : ℕ) → Fits o stage v → WordFits k (field_of o.place (act_at o stage)) n
      → WordFits k (field_of o.place (act_at o stage)) (left_of o.place (act_at o stage) n)
      → let told : ℕ = said_by (access_of o.place (act_at o stage)) n in
      (let o' : Own = after o told stage in Fits o' o'.stage w × IsTold o' w h' m') → IsAble o told stage
  able (at.AtLink s b) n f word left next = link_able s n b (λ e. next)
  able (at.LeafField spot i) n f word left next = (f.point).small
  able (at.LeafLock spot) n f word left next = free_locks f.owns.locks_are ((f.point).bare).locks_are
  able at.Count n f word left next = omega arith
  able (at.LookKey (Reuse (Leaf spot)) clock p) n f word left next = ((f.point).2, tt)
  able (at.LookKey (Reuse _) clock p) n f word left next = ((f.point).2, tt)
  able (at.LookKey (Move move) clock p) n f word left next =
      let is = ((f.point).0).move in
      let t = told.moves is.move is.is in
      (((f.point).3).0, (let key = is.key_is in let below = t.0 in let fits = t.1 in omega arith))
  able (at.LookStamp (Reuse aim) clock p key) n f word left next = (f.point).2
  able (at.LookStamp (Move move) clock p key) n f word left next = ((f.point).3).0
  able (at.OldRaise aim life) n f word left next = let has = (f.point).3 in
      first_kept v.hands.retired has.first o.retired has.rest has.are f.owns.retired_are
  able (at.OldFree aim) n f word left next = let has = (f.point).first in
      first_kept v.hands.retired has.first o.retired has.rest has.are f.owns.retired_are
  able (at.OldCount aim) n f word left next = omega arith
  able (at.Commit u expected) n f word left next = omega arith
  able (at.Store (update.Bypass d child) front) n f word left next =
      (let del = (f.point).deleting in let most = del.1.room del.0 in omega arith)
  able (at.Store (update.Copy d u next_key copy) front) n f word left next =
      (let del = ((f.point).copying).deleting in let most = del.1.room del.0 in omega arith)
  able (at.Even u front) n f word left next = omega arith
  able (at.Unlock last.Again) n f word left next = some_left o.locks ((f.point).0).some
  able (at.Unlock _) n f word left next = some_left o.locks ((f.point).0).some
  able (at.SetLock s generation) n f word left next = free_locks f.owns.locks_are (f.point).locks_are
  able (at.NodeRight d) n f word left next = λ some_child. right_able d n some_child next
  able (at.SuccessorLeft d u) n f word left next = left_able d u n next
  able (at.TargetLock t i) n f word left next =
      let below = (f.point).more in
      let most = few_locks t in
      let long : length o.locks ≡ i = ap length (f.point).locks_are ∙ first_long t i in
      (omega arith, omega arith)
  able (at.TargetLoad t i found) n f word left next = (let below = (f.point).more in let most = few_words t.successor in omega arith)
  able (at.CopyField d u next_key value i) n f word left next = (f.point).small
  able (at.CopyLock d u next_key) n f word left next =
      let t : Target = record { node = d; successor = Some u } in
      let long : length o.locks ≡ target_locks t = ap length (((f.point).0).locks_are) ∙ first_long t (target_locks t) in
      let most = few_locks t in omega arith
  able (at.Unlink move child) n f word left next =
      (let is = ((f.point).0).move in let most = few.room is.move is.is in let long = kept_long f.owns.retired_are in omega arith)
  able _ n f word left next = tt

-- whichever of two acts it is
either_fits : (k : Shape) (place n x : ℕ) (b : Bool) (first second : Act) → let a : Act = cond b first second in
    WordFits k (field_of place a) (left_of place a n) → (WordFits k (field_of place first) (left_of place first n) → x < 2 ^ 64)
    → (WordFits k (field_of place second) (left_of place second n) → x < 2 ^ 64) → x < 2 ^ 64
either_fits k place n x true first second fits one other = one fits
either_fits k place n x false first second fits one other = other fits

-- a number that is stored, and counted up for it, fits
pub may_store : (k : Shape) (v : View) (o : Own) (n : ℕ) (stage : Stage) → Needs k v n (act_at o stage)
    → WordFits k (field_of o.place (act_at o stage)) (left_of o.place (act_at o stage) n) → MayStore o stage
may_store k v o n at.Raise needs fits = omega arith
may_store k v o n (at.OldRaise aim life) needs fits =
    either_fits k o.place n (2 * (life / 2 + 1)) (is_some o.spare) _ _ fits (λ raised. omega arith) (λ raised. omega arith)
may_store k v o n (at.Commit u expected) needs fits = needs.even
may_store k v o n (at.Even u front) needs fits = omega arith
may_store k v o n (at.Mark d child) needs fits = omega arith
may_store k v o n (at.EmptyRaise number s b tag) needs fits = omega arith
may_store k v o n (at.CopyMark d u next_key) needs fits = omega arith
may_store k v o n (at.OldMark m) needs fits = omega arith
may_store k v o n _ needs fits = tt

-- A step on the words is the core's.

-- ---- updates

none_made : (p : ℕ) (b : Bool) (x y : Act) → updates_by p (op_of x) ≡ [] → updates_by p (op_of y) ≡ []
    → updates_by p (op_of (cond b x y)) ≡ []
none_made p true x y ex ey = ex
none_made p false x y ex ey = ey

made_at : (o : Own) (v : View) (stage : Stage) (us ws : List Update) → Fits o stage v → v.allowance.place ≡ o.place
    → us ≡ updates_by v.allowance.place (op_of (act_at o stage)) → ws ≡ update_at o stage → us ≡ ws
made_at o v (at.OldRaise aim life) us ws f place is e = is ∙ none_made v.allowance.place (has_slot o.spare) _ _ refl refl ∙ sym e
made_at o v (at.Store (update.Leaf spot) front) us ws f place is e =
    is ∙ (λ j. record { caller = place j; op = put_is o.op ((f.point).puts) j } ∷ []) ∙ sym e
made_at o v (at.Store (update.Value s old) front) us ws f place is e =
    is ∙ (λ j. record { caller = place j; op = set_is o.op (((f.point).1).sets) j } ∷ []) ∙ sym e
made_at o v (at.Store (update.Bypass d child) front) us ws f place is e =
    is ∙ (λ j. record { caller = place j; op = del_is o.op (((f.point).deleting).0) j } ∷ []) ∙ sym e
made_at o v (at.Store (update.Copy d u next_key copy) front) us ws f place is e =
    is ∙ (λ j. record { caller = place j; op = del_is o.op ((((f.point).copying).deleting).0) j } ∷ []) ∙ sym e
made_at o v (at.Unlink m child) us ws f place is e =
    is ∙ none_made v.allowance.place (m.successor.parent == m.node.node) _ _ refl refl ∙ sym e
made_at o v _ us ws f place is e = is ∙ sym e

-- the step's update is that of its point
updates_at : (o : Own) (v : View) (n : ℕ) (stage : Stage) → Fits o stage v → v.allowance.place ≡ o.place
    → updates_of (marks_of v n (act_at o stage)) ≡ update_at o stage
updates_at o v n stage f place = updates_made v n (act_at o stage) ∙ made_at o v stage _ _ f place refl refl

-- ---- shapes that differ in tickets alone

abbrev behind : ℕ → ℕ → ℕ
behind slots places =
    let n : ℕ = slots + places + 1 in
    slot_base + half * n + half * n + n + room_behind n

same_word : (k l : Shape) → k.slots ≡ l.slots → k.places ≡ l.places → (field : Field) → word_of k field ≡ word_of l field
same_word k l slots places (fields.Announced p) = λ i. behind (slots i) (places i) + place_room * p
same_word k l slots places (fields.Stamp p) = λ i. behind (slots i) (places i) + place_room * p + 1
same_word k l slots places (fields.Gate c) = λ i. behind (slots i) (places i) + class_room * c
same_word k l slots places (fields.Count c side) = λ i. behind (slots i) (places i) + class_room * c + 1 + side
same_word k l slots places (fields.Row p c) = λ i. behind (slots i) (places i) + row_room * p + c
same_word k l slots places (fields.State s) = λ i. slot_base + half * (slots i + places i + 1) + half * (slots i + places i + 1) + s
same_word k l slots places (fields.Lock s) = λ i. slot_base + half * (slots i + places i + 1) + half * s
same_word k l slots places (fields.Life s) = λ i. slot_base + half * (slots i + places i + 1) + half * s + 1
same_word k l slots places (fields.Tag s b) = λ i. slot_base + half * (slots i + places i + 1) + half * s + side_number b
same_word k l slots places _ = refl

-- which fields there are isn't said by the tickets
same_is_field : (k : Shape) (field : Field) → is_field k field
    ≡ is_field (record { waiter = k.waiter; slots = k.slots; places = k.places; room = k.room; tickets = 0 }) field
same_is_field k fields.Clock = refl
same_is_field k _ = refl

-- ---- one step

module _ (scripts : List (List Op)) (slots : ℕ) (callers : List ℕ) (machine : IsMachine scripts slots) (words : List ℕ) (i : ℕ) (o : Own)
    (v : View)
    (is : AreWordsOf (shape_of slots scripts) words (core scripts slots callers))
    (own : get_elem? (core scripts slots callers).owns i ≡ some o) (view : get_elem? (core scripts slots callers).views i ≡ some v)
    (going : is_finished o.stage ≡ false) where
  abbrev k : Shape
  k = shape_of slots scripts

  abbrev c : Core
  c = core scripts slots callers

  abbrev a : Act
  a = act_at o o.stage

  abbrev field : Field
  field = field_of o.place (act_at o o.stage)

  run : IsRun (shape_of slots scripts) (core scripts slots callers)
  run = core_runs scripts slots callers machine

  has : is_field (shape_of slots scripts) (field_of o.place (act_at o o.stage)) ≡ true
  has = has_word (shape_of slots scripts) (field_of o.place (act_at o o.stage))
      (has_its_word (shape_of slots scripts) (core scripts slots callers) i o v run own view)

  at_index : index_now o ≡ word_of (shape_of slots scripts) (field_of o.place (act_at o o.stage))
  at_index = same_word (shape_for o.slots o.places) (shape_of slots scripts) (sym (run.callers i o v own view).slots)
      (sym (run.callers i o v own view).places) (field_of o.place (act_at o o.stage))

  pub found : found_now words o ≡ (core scripts slots callers).memory (field_of o.place (act_at o o.stage))
  found = ap (slice_index words) at_index ∙ sym (memory-word (shape_of slots scripts) words (field_of o.place (act_at o o.stage)) has)
      ∙ ap (λ m. m (field_of o.place (act_at o o.stage))) is.same

  -- the number that it tells
  pub told : told_now words o ≡ told_in (core scripts slots callers) o
  told = ap (said_by (access_of o.place (act_at o o.stage))) found

  -- the core after the step
  next_run : IsRun (shape_of slots scripts) (moved (core scripts slots callers) i o v)
  next_run = moves (shape_of slots scripts) (core scripts slots callers) i o v run own view going

  abbrev next_own : Own
  next_own = after o (told_in (core scripts slots callers) o) o.stage

  abbrev next_view : View
  next_view = view_after (noted v (act_at o o.stage) (told_in (core scripts slots callers) o)) (core scripts slots callers).marks
      (told_in (core scripts slots callers) o) (act_at o o.stage)

  own_next : get_elem? (moved (core scripts slots callers) i o v).owns i ≡ some next_own
  own_next = set_here (core scripts slots callers).owns i next_own (at_below (core scripts slots callers).owns i o own)

  view_next : get_elem? (moved (core scripts slots callers) i o v).views i ≡ some next_view
  view_next = set_here (core scripts slots callers).views i next_view (at_below (core scripts slots callers).views i v view)

  word_found : WordFits (shape_of slots scripts) (field_of o.place (act_at o o.stage))
      ((core scripts slots callers).memory (field_of o.place (act_at o o.stage)))
  word_found = word_fits (shape_of slots scripts) (core scripts slots callers).memory (core scripts slots callers).views
      (core scripts slots callers).marks run.holds.now i v view (field_of o.place (act_at o o.stage)) has

  word_left : WordFits (shape_of slots scripts) (field_of o.place (act_at o o.stage))
      (left_of o.place (act_at o o.stage) ((core scripts slots callers).memory (field_of o.place (act_at o o.stage))))
  word_left =
      let k' : Shape = shape_of slots scripts in
      let f : Field = field_of o.place (act_at o o.stage) in
      let x : ℕ = (core scripts slots callers).memory f in
      subst (WordFits k' f) (ap (λ t. cond t (left_of o.place (act_at o o.stage) x) x) (same_self f))
      (word_fits k' (moved (core scripts slots callers) i o v).memory (moved (core scripts slots callers) i o v).views
      (moved (core scripts slots callers) i o v).marks next_run.holds.now i next_view view_next f has)

  able_here : IsAble o (told_now words o) o.stage
  able_here =
      let k' : Shape = shape_of slots scripts in
      let x : ℕ = (core scripts slots callers).memory (field_of o.place (act_at o o.stage)) in
      let here = run.callers i o v own view in
      let next = next_run.callers i next_own next_view own_next view_next in
      subst (λ m. IsAble o m o.stage) (sym told)
      (able k' run.holds.now.table o v next_view (core scripts slots callers).marks (moved (core scripts slots callers) i o v).marks
      (core scripts slots callers).memory (moved (core scripts slots callers) i o v).memory here.slots here.places here.room run.room
      (run.holds.now.slots.few i v view)
      (is_told k' (core scripts slots callers) i o v run own view) o.stage x here.fits word_found word_left
      (next.fits, is_told k' (moved (core scripts slots callers) i o v) i next_own next_view next_run own_next view_next))

  can_step : CanStep words o
  can_step =
      let k' : Shape = shape_of slots scripts in
      let here = run.callers i o v own view in
      let few_slots = machine.few_slots in
      let few_scripts = machine.few_scripts in
      let same_slots = here.slots in
      let same_places = here.places in
      let inside = word_inside k' (field_of o.place (act_at o o.stage)) has in
      let long = is.long in
      let spot = at_index in record {
        size = record { slots = omega arith; places = omega arith; scan = here.fits.owns.scans_table };
        field = subst (λ (z : ℕ × ℕ). is_field (record { waiter = Eer; slots = z.0; places = z.1; room = 16; tickets = 0 })
            (field_of o.place (act_at o o.stage)) ≡ true) (λ j. (here.slots j, here.places j))
            (sym (same_is_field k' (field_of o.place (act_at o o.stage))) ∙ has);
        within = omega arith;
        stores = may_store k' v o ((core scripts slots callers).memory (field_of o.place (act_at o o.stage))) o.stage
            (needs_met k' (core scripts slots callers) i o v run own view) word_left;
        rises = subst (StaysWord (access_of o.place (act_at o o.stage))) (sym found)
            (stays_word k' (core scripts slots callers) i o v run own view);
        able = able_here;
      }

  -- the core's words after the step
  words_next : AreWordsOf (shape_of slots scripts)
      (set words (index_now o) (left_by (access_of o.place (act_at o o.stage)) (found_now words o)))
      (moved (core scripts slots callers) i o v)
  words_next =
      let k' : Shape = shape_of slots scripts in
      let f : Field = field_of o.place (act_at o o.stage) in
      let x : ℕ = (core scripts slots callers).memory f in
      let left : left_by (access_of o.place (act_at o o.stage)) (found_now words o) ≡ left_of o.place (act_at o o.stage) x =
      ap (left_of o.place (act_at o o.stage)) found in record {
        long = length-set words (index_now o) (left_by (access_of o.place (act_at o o.stage)) (found_now words o)) ∙ is.long;
        same = ap (λ (z : ℕ × ℕ). memory_of k' (set words z.0 z.1)) (λ j. (at_index j, left j))
            ∙ memory-stored k' words f (left_of o.place (act_at o o.stage) x) has is.long
            ∙ ap (λ m. stored m f (left_of o.place (act_at o o.stage) x)) is.same;
      }

pub viewed : (scripts : List (List Op)) (slots : ℕ) (callers : List ℕ) (i : ℕ) (o : Own) → IsMachine scripts slots
    → get_elem? (core scripts slots callers).owns i ≡ some o → (v : View) × (get_elem? (core scripts slots callers).views i ≡ some v)
viewed scripts slots callers i o machine own =
    let all : AllTell scripts slots (core scripts slots callers) = cores_tell scripts slots callers machine in
    let below = at_below (core scripts slots callers).owns i o own in
    elem_at (core scripts slots callers).views i (let a = all.count in let b = all.viewed in omega arith)

pub callers_can_step : CallersCanStep
callers_can_step scripts slots callers words i o machine is own going = let v = viewed scripts slots callers i o machine own in
    can_step scripts slots callers machine words i o v.0 is own v.1 going

pub steps_more : (c : Core) (callers : List ℕ) (i : ℕ) → steps c (callers ++ i ∷ []) ≡ step (steps c callers) i
steps_more c [] i = refl
steps_more c (j ∷ js) i = steps_more (step c j) js i

pub steps_are_stored : StepsAreStored
steps_are_stored scripts slots callers words i o machine is own going =
    let c : Core = core scripts slots callers in
    let k : Shape = shape_of slots scripts in
    let v = viewed scripts slots callers i o machine own in
    let run : IsRun k c = core_runs scripts slots callers machine in
    let here = run.callers i o v.0 own v.1 in
    let next : core scripts slots (callers ++ i ∷ []) ≡ moved c i o v.0 =
    steps_more (core scripts slots []) callers i ∙ step_is k c i o v.0 run own v.1 going in
    let n : ℕ = told_in c o in
    let a : Act = act_at o o.stage in
    subst (λ z. IsStored k words c z i o) (sym next) (record {
      words_are = words_next scripts slots callers machine words i o v.0 is own v.1 going;
      owns_are = ap (λ m. set c.owns i (after o m o.stage)) (sym (told scripts slots callers machine words i o v.0 is own v.1 going));
      updates_are = updates_of-append c.marks (marks_of (noted v.0 a n) n a)
          ∙ ap (λ us. updates_of c.marks ++ us) (updates_at o (noted v.0 a n) n o.stage
          ((trails_are_free c.marks o v.0 c.memory o.stage (kind_of a)
          (field_of v.0.allowance.place a) n).0 here.fits) here.fits.owns.same);
    })
