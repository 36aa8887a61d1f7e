-- One step of a caller: what it has told, and how far its call is, after it.
use Rattle.std.proofs.Common.{◌≡◌, ℕ, ◌+◌, ◌-◌, ◌*◌, ◌/◌, ◌≤◌, ◌==◌, ◌||◌, ◌&&◌, nat_lt, cond, Bool, true, false, MatchBool, List, [], ◌∷◌, ◌++◌, length, Option, Some, None, refl, sym, ap, subst, ◌∙◌, inl, inr, arith, eq-eqb, append-nil, append_assoc}
use Rattle.std.proofs.lemmas.Bool.{eqb-true}
use Rattle.std.proofs.lemmas.List.{take_all, take_at}
use Rattle.std.specs.List.{AllByRecursion, slice_get}
use Rattle.std.specs.FinMap as finite
use mathlib.Core.Option.{some}
use lib.ListN.{get_elem?}
use Rattle.prcu_marks.specs.declared.mark.Mark.{Mark}
use Rattle.prcu_marks.specs.declared.mark.Mark.TheVariants.{Entered, Began, Done, Unlinked}
use Rattle.prcu_model.specs.declared.operation.Op.{Op}
use Rattle.prcu_model.specs.declared.operation.Op.TheVariants.{Del}
use Rattle.prcu_model.specs.declared.operation.Reply.{Reply}
use Rattle.prcu_model.specs.declared.operation.Reply.TheVariants.{New, Old, Full, Val, Absent, Gone, Was}
use Rattle.prcu_model.specs.declared.operation.Told.{Told}
use Rattle.prcu_model.specs.declared.operation.Update.{Update}
use Rattle.prcu_model.specs.Dictionary.{Dictionary, WasSaid, map_at, map_of, Room, Explains, Confirms, tells_update}
use Rattle.prcu_marks.specs.Marks.{updates_of, own_of, is_of, said_by}
use Rattle.prcu_marks.specs.Callers.{Caller, IsLeftBy, entered_for, WaitsFor, IsMoveWait, IsNextKey, HasMadeUpdate, WasExplained}
use Rattle.prcu_model.proofs.ListFacts.{all_append, all_map, prefix_more}
use Rattle.prcu_marks.proofs.Marks.{own_of-append, updates_of-append, entered_for-append}
use Rattle.prcu_marks.proofs.Callers.{waits_longer}
use Rattle.core_state.specs.declared.shape.Shape.{Shape}
use Rattle.core_state.specs.declared.shape.Waiter.TheVariants.{Eer}
use Rattle.core_state.specs.Views.{Works}
use Rattle.core_state.specs.declared.words.Field.{Field}
use Rattle.core_state.specs.declared.words.Field.TheVariants.{Announced, Clock, Free, Front, Key, Life, Link, Lock, Stamp, State, Tag, Value}
use Rattle.core_state.specs.declared.view.Section.{Section}
use Rattle.core_state.specs.declared.view.View.{View}
use Rattle.core_state.specs.Memory.{Memory, idle, step_side}
use Rattle.core_state.specs.Steps.{after_search_load}
use Rattle.core_state.specs.Invariant.{HoldsNow}
use Rattle.core_points.specs.declared.stage.Aim.{Aim}
use Rattle.core_points.specs.declared.stage.Aim.TheVariants.{Leaf, Spare, Room as ForRoom}
use Rattle.core_points.specs.declared.stage.Spot.{Spot}
use Rattle.core_points.specs.declared.stage.Last.{Last}
use Rattle.core_points.specs.declared.stage.Last.TheVariants as last
use Rattle.core_points.specs.declared.stage.Then.{Then}
use Rattle.core_points.specs.declared.stage.Then.TheVariants as then
use Rattle.core_points.specs.declared.stage.Update.{Update as Making}
use Rattle.core_points.specs.declared.stage.Update.TheVariants as update
use Rattle.core_points.specs.declared.stage.Waits.{Waits}
use Rattle.core_points.specs.declared.stage.Waits.TheVariants.{Reuse, Move}
use Rattle.core_points.specs.declared.stage.Stage.{Stage}
use Rattle.core_points.specs.declared.stage.Stage.TheVariants as at
use Rattle.prcu_marks.specs.declared.mark.Side.{Side}
use Rattle.prcu_marks.specs.declared.mark.Side.TheVariants.{Left, Right}
use Rattle.core_state.specs.Acts.{in_slot, access_of, noted, section_of, wait_of, commit_of, spare_of}
use Rattle.core_state.specs.declared.act.Act.TheVariants.{LeaveByStamp}
use Rattle.core_laws.proofs.Acting.{section_is}
use Rattle.core_points.specs.Programs.{Act, field_of, marks_of, view_after, Own, but_first, first_or_root, go, high_key, low_key, or_root, is_none_left, is_some as has_slot, key_now, act_at, after, answer, committing, ended, past_left, past_right, found, is_reader, key_read, none_free, past_reserve, past_unlock, taking, unlocked, move_locks, nothing_found, target_lock, target_locks, target_part, target_slot, with_found}
use Rattle.core_points.specs.Facts.{is_put}
use Rattle.core_points.specs.Laws.{IsTold, is_finished}
use Rattle.core_points.specs.Fits.{Fits}
use Rattle.core_machine.proofs.Phases.{Adds, IsLate, Known, Next, Since, Tells, aiming, answers_so, at_answer, either_next, entered_more, explained_later, goes_on, inside, made, made_later, move_later, moving, no_marks, outside, phase, said, seen_before, since_later, tells_by, waiting, began_adds, either_adds, left_adds, look_adds, own_one, seize_adds, absent_explained, old_explained, full_explained, put_is, del_is, set_is, new_confirms, gone_confirms, was_confirms, said_explains, aim_outside, wait_outside, stage_next, either_tells, ended_next, found_next, lock_next, giving_next, place_next, right_next, left_next, target_next}
use Rattle.core_points.proofs.AllPoints.{needs_are_given, answers_are_said}
use Rattle.core_laws.proofs.CopyNeeds.{copy_next}

late_in : (n : ℕ) (section : Option Section) (s : Section) → section ≡ Some s → IsLate n section → n ≤ s.from
late_in n section s e late = subst (IsLate n) e late

-- a load in a section
load_late : (n : ℕ) (u : View) (field : Field) (found : ℕ) (section : Section) → u.section ≡ Some section → IsLate n u.section
    → IsLate n (after_search_load u (section_of u) field found).section
load_late n u field found section is late = subst (λ (z : Section). n ≤ z.from) (sym (section_is u section is))
    (late_in n u.section section is late)

module _ (k : Shape) (m : Memory) (vs : List View) (h : List Mark) (i : ℕ) (o : Own) (v : View) (script : List Op) (inv : HoldsNow k m vs h)
    (there : get_elem? vs i ≡ some v) (place : v.allowance.place ≡ i) where
  abbrev room : Room
  room = record { scripts = k.places; slots = k.slots }

  -- what holds before a point, and after its step
  abbrev Before : Stage → Type 0
  Before stage = Tells (record { scripts = k.places; slots = k.slots }) i script (go o stage) v.section h

  abbrev After : Stage → Type 0
  After stage =
      let a : Act = act_at o stage in let n : ℕ = said_by (access_of o.place a) (m (field_of o.place a)) in let w : View = noted v a n in
      Tells (record { scripts = k.places; slots = k.slots }) i script (after o n stage) (view_after w h n a).section (h ++ marks_of w n a)

  -- a step without an update, outside sections
  calm : (stage : Stage) (t : Before stage) → is_finished stage ≡ false → (phase stage ≡ inside → ⊥) → (more : List Mark)
      → Adds i (key_now o) (updates_of (h ++ more)) more → (o' : Own) (section : Option Section) → Next (go o stage) (phase stage) o'
      → Tells (record { scripts = k.places; slots = k.slots }) i script o' section (h ++ more)
  calm stage t going out more adds o' section next =
      goes_on (record { scripts = k.places; slots = k.slots }) i script (go o stage) v.section h t going more adds o' section next
      (λ e late. absurd (out e))

  -- a load in a section
  loads : (stage : Stage) (t : Before stage) → is_finished stage ≡ false → (section : Section) → v.section ≡ Some section
      → (field : Field) (kind : Act) (n : ℕ) (o' : Own) → Next (go o stage) (phase stage) o'
      → let u : View = noted v kind n in Tells (record { scripts = k.places; slots = k.slots }) i script o'
      (after_search_load u (section_of u) field n).section (h ++ [])
  loads stage t going section is field kind n o' next =
      let u : View = noted v kind n in
      goes_on (record { scripts = k.places; slots = k.slots }) i script (go o stage) v.section h t going []
      (no_marks i (key_now o) (updates_of (h ++ [])) [] refl) o' (after_search_load u (section_of u) field n).section next
      (λ e late. load_late (length (updates_of t.seen)) u field n section is late)

  -- the key is announced: a section is entered
  enters : (clock : ℕ) → Before (at.EnterStamp clock) → Fits o (at.EnterStamp clock) v → After (at.EnterStamp clock)
  enters clock t f =
      let a : Act = act_at o (at.EnterStamp clock) in
      let n : ℕ = clock in
      let u : View = noted v a n in
      let key : ℕ = key_now o in
      let c : Caller = at_answer i t.own t.seen in
      let mark : Mark = Entered v.allowance.place v.counts.sections key in
      let is : is_of i mark ≡ true = eq-eqb v.allowance.place i place in
      let since : Since c key (h ++ mark ∷ []) (t.marks ++ mark ∷ []) =
      since_later (record { scripts = k.places; slots = k.slots }) c o.op h (mark ∷ []) t.marks (mark ∷ []) refl (own_one i mark is)
      ((place, refl), tt) (tt, tt) t.since in
      let split = entered_for-append i key t.marks (mark ∷ []) in
      let one : entered_for i key (mark ∷ []) ≡ 1 =
      ap (λ b. cond b (cond (key == key) 1 0) 0 + 0) is ∙ ap (λ b. cond b 1 0 + 0) (eq-eqb key key refl) in
      let before = seen_before (record { scripts = k.places; slots = k.slots }) i script (go o (at.EnterStamp clock)) v.section h t refl in
      let late : IsLate (length (updates_of t.seen)) (view_after u h n a).section = before in
      tells_by (record { scripts = k.places; slots = k.slots }) i script (go o (at.EnterStamp clock)) v.section h t refl (mark ∷ [])
      (mark ∷ []) (go o (at.AtLink 0 Right)) (view_after u h n a).section refl refl since
      (updates_of-append t.marks (mark ∷ []) ∙ append-nil (updates_of t.marks) ∙ t.known, omega arith, late)

  -- a section is left by a search that decides
  said_answers : (stage : Stage) (t : Before stage) → is_finished stage ≡ false → phase stage ≡ inside → (section : Section)
      → v.section ≡ Some section → (o' : Own) → said o' ≡ said o → (after : Option Section) → (reply : Reply) → tells_update reply ≡ false
      → (answers : Option ℕ)
      → WasSaid (updates_of h) (key_now o) section.from answers
      → ((d : Dictionary) → finite.get d (key_now o) ≡ answers → Explains (record { scripts = k.places; slots = k.slots }) d o.op reply)
      → (n : ℕ) → let u : View = noted v LeaveByStamp n in
      Tells (record { scripts = k.places; slots = k.slots }) i script (answer o' reply 0) after (h ++ marks_of u n LeaveByStamp)
  said_answers stage t going is section e o' same after reply plain answers w explains n =
      let c : Caller = at_answer i t.own t.seen in
      let known : Known (record { scripts = k.places; slots = k.slots }) inside c o.op h t.marks v.section =
      subst (λ p. Known (record { scripts = k.places; slots = k.slots }) p c o.op h t.marks v.section) is t.known in
      let u : View = noted v LeaveByStamp n in
      let more : List Mark = marks_of u n LeaveByStamp in
      let told : Told = record { reply = reply; number = 0 } in
      let base : WasExplained (Explains (record { scripts = k.places; slots = k.slots })) c o.op told t.marks h =
      said_explains (record { scripts = k.places; slots = k.slots }) c o.op h t.marks reply section.from answers known.0
      (late_in (length (updates_of t.seen)) v.section section e known.2) w explains in
      answers_so (record { scripts = k.places; slots = k.slots }) i script (go o stage) v.section h t going more
      (left_adds i (key_now o) (updates_of (h ++ more)) u place (section_of u).count) o' after reply 0 same known.1
      (λ mine none. subst (λ b. MatchBool b (HasMadeUpdate c o.op told (t.marks ++ mine) (h ++ more))
      (WasExplained (Explains (record { scripts = k.places; slots = k.slots })) c o.op told (t.marks ++ mine) (h ++ more))) (sym plain)
      (explained_later (record { scripts = k.places; slots = k.slots }) c o.op h more t.marks mine none told base))

  -- a section is left, and the call goes on outside
  leaves : (next : Then) (t : Before (at.Leave next)) (section : Section) → v.section ≡ Some section → (o' : Own) → said o' ≡ said o
      → is_finished o'.stage ≡ false → phase o'.stage ≡ outside → (after : Option Section)
      → (n : ℕ) → let u : View = noted v LeaveByStamp n in
      Tells (record { scripts = k.places; slots = k.slots }) i script o' after (h ++ marks_of u n LeaveByStamp)
  leaves next t section e o' same going is after n =
      let c : Caller = at_answer i t.own t.seen in
      let u : View = noted v LeaveByStamp n in
      let more : List Mark = marks_of u n LeaveByStamp in
      let a : Adds i (key_now o) (updates_of (h ++ more)) more =
      left_adds i (key_now o) (updates_of (h ++ more)) u place (section_of u).count in
      let since = since_later (record {
        scripts = k.places;
        slots = k.slots;
      }) c o.op h more t.marks a.mine a.updates a.own a.keyed a.waits t.since in
      tells_by (record { scripts = k.places; slots = k.slots }) i script
      (go o (at.Leave next)) v.section h t refl more a.mine o' after same going since
      (subst (λ p. Known (record { scripts = k.places; slots = k.slots }) p c o.op (h ++ more) (t.marks ++ a.mine) after) (sym is) (
        updates_of-append t.marks a.mine ∙ ap (λ us. updates_of t.marks ++ us) a.updates ∙ append-nil (updates_of t.marks) ∙ t.known.0,
        entered_more (record { scripts = k.places; slots = k.slots }) c o.op h more t.marks a.mine a.updates t.known.1,
      ))

  -- what was said of a present key, whose slot in hand is to be given back
  keeps_present : (t : Before (at.Leave then.Old)) (section : Section) → v.section ≡ Some section → (value : ℕ)
      → WasSaid (updates_of h) (key_now o) section.from (Some value) → is_put o.op ≡ true → (after : Option Section)
      → (n : ℕ) → let u : View = noted v LeaveByStamp n in
      Tells (record { scripts = k.places; slots = k.slots }) i script (go o at.Raise) after (h ++ marks_of u n LeaveByStamp)
  keeps_present t section e value w put after n =
      let c : Caller = at_answer i t.own t.seen in
      let u : View = noted v LeaveByStamp n in
      let more : List Mark = marks_of u n LeaveByStamp in
      let told : Told = record { reply = Old; number = 0 } in
      let a : Adds i (key_now o) (updates_of (h ++ more)) more =
      left_adds i (key_now o) (updates_of (h ++ more)) u place (section_of u).count in
      let since = since_later (record {
        scripts = k.places;
        slots = k.slots;
      }) c o.op h more t.marks a.mine a.updates a.own a.keyed a.waits t.since in
      let base : WasExplained (Explains (record { scripts = k.places; slots = k.slots })) c o.op told t.marks h =
      said_explains (record { scripts = k.places; slots = k.slots }) c o.op h t.marks Old section.from (Some value) t.known.0
      (late_in (length (updates_of t.seen)) v.section section e t.known.2) w
      (λ d is. old_explained (record { scripts = k.places; slots = k.slots }) o.op d value put is) in
      tells_by (record { scripts = k.places; slots = k.slots }) i script (go o (at.Leave then.Old)) v.section h t refl more a.mine
      (go o at.Raise) after refl refl since (
        entered_more (record { scripts = k.places; slots = k.slots }) c o.op h more t.marks a.mine a.updates t.known.1,
        explained_later (record { scripts = k.places; slots = k.slots }) c o.op h more t.marks a.mine a.updates told base,
      )

  -- an update that was told of, once the last lock is given up
  made_answers : (stage : Stage) (t : Before stage) → is_finished stage ≡ false → (number : ℕ) (reply : Reply)
      → phase stage ≡ made number reply → tells_update reply ≡ true → (o' : Own) → said o' ≡ said o → (after : Option Section)
      → Tells (record { scripts = k.places; slots = k.slots }) i script (answer o' reply number) after (h ++ [])
  made_answers stage t going number reply is tells o' same after =
      let c : Caller = at_answer i t.own t.seen in
      let told : Told = record { reply = reply; number = number } in
      let known : Known (record { scripts = k.places; slots = k.slots }) (made number reply) c o.op h t.marks v.section =
      subst (λ p. Known (record { scripts = k.places; slots = k.slots }) p c o.op h t.marks v.section) is t.known in
      answers_so (record { scripts = k.places; slots = k.slots }) i script (go o stage) v.section h t going []
      (no_marks i (key_now o) (updates_of (h ++ [])) [] refl) o' after reply number same known.0
      (λ mine none. subst (λ b. MatchBool b (HasMadeUpdate c o.op told (t.marks ++ mine) (h ++ []))
      (WasExplained (Explains (record { scripts = k.places; slots = k.slots })) c o.op told (t.marks ++ mine) (h ++ []))) (sym tells)
      (made_later (record { scripts = k.places; slots = k.slots }) c o.op h [] t.marks mine none told known.1))

  -- the update itself
  module _ (u : Making) (front : ℕ) (t : Before (at.Store u front)) (position : (front + 2) / 2 ≡ length (updates_of h) + 1)
      (rest : List Mark) (none : own_of i rest ≡ []) (plain : updates_of rest ≡ []) where
    abbrev mark : Mark
    mark = Done (record { caller = v.allowance.place; op = o.op })

    abbrev more : List Mark
    more = Done (record { caller = v.allowance.place; op = o.op }) ∷ rest

    update_is : ◌≡◌ {A = Update} (record { caller = v.allowance.place; op = o.op }) (record { caller = i; op = o.op })
    update_is = λ j. record { caller = place j; op = o.op }

    is_mine : is_of i (Done (record { caller = v.allowance.place; op = o.op })) ≡ true
    is_mine = eq-eqb v.allowance.place i place

    now : updates_of (h ++ Done (record { caller = v.allowance.place; op = o.op }) ∷ rest) ≡ updates_of h
        ++ record { caller = i; op = o.op } ∷ []
    now = updates_of-append h (Done (record { caller = v.allowance.place; op = o.op }) ∷ rest)
        ∙ (λ j. updates_of h ++ update_is j ∷ plain j)

    here : (us : List Update) (x : Update) → slice_get (us ++ x ∷ []) (length us) ≡ Some x
    here [] x = refl
    here (y ∷ us) x = here us x

    store_since : Since (at_answer i t.own t.seen) (key_now o) (h ++ Done (record { caller = v.allowance.place; op = o.op }) ∷ rest)
        (t.marks ++ Done (record { caller = v.allowance.place; op = o.op }) ∷ [])
    store_since =
        let c : Caller = at_answer i t.own t.seen in
        let us : List Update = updates_of h in record {
          own = own_of-append i h (Done (record { caller = v.allowance.place; op = o.op }) ∷ rest)
              ∙ ap (λ b. own_of i h ++ cond b (Done (record { caller = v.allowance.place; op = o.op }) ∷ own_of i rest)
              (own_of i rest)) is_mine
              ∙ (λ j. t.since.own j ++ Done (record { caller = v.allowance.place; op = o.op }) ∷ none j)
              ∙ append_assoc t.own t.marks (Done (record { caller = v.allowance.place; op = o.op }) ∷ []);
          keyed = all_append (IsLeftBy i (key_now o)) t.marks (Done (record { caller = v.allowance.place; op = o.op }) ∷ []) t.since.keyed
              (place, tt);
          waits = all_append (WaitsFor (updates_of (h ++ Done (record { caller = v.allowance.place; op = o.op }) ∷ rest))) t.marks
              (Done (record { caller = v.allowance.place; op = o.op }) ∷ [])
              (subst (λ z. AllByRecursion (WaitsFor z) t.marks) (sym now)
              (all_map (WaitsFor us) (WaitsFor (us ++ record { caller = i; op = o.op } ∷ [])) t.marks
              (waits_longer us (record { caller = i; op = o.op } ∷ [])) t.since.waits)) (tt, tt);
          seen = prefix_more t.seen h (Done (record { caller = v.allowance.place; op = o.op }) ∷ rest) t.since.seen;
        }

    store_made : (number : ℕ) (reply : Reply) → number ≡ (front + 2) / 2 → Confirms (map_of (updates_of h)) o.op reply
        → (1 ≤ entered_for i (key_now o) (t.marks ++ Done (record { caller = v.allowance.place; op = o.op }) ∷ []))
        × HasMadeUpdate (at_answer i t.own t.seen) o.op (record { reply = reply; number = number })
        (t.marks ++ Done (record { caller = v.allowance.place; op = o.op }) ∷ [])
        (h ++ Done (record { caller = v.allowance.place; op = o.op }) ∷ rest)
    store_made number reply is confirms =
        let us : List Update = updates_of h in
        let split = entered_for-append i (key_now o) t.marks (Done (record { caller = v.allowance.place; op = o.op }) ∷ []) in
        let before = seen_before (record { scripts = k.places; slots = k.slots }) i script (go o (at.Store u front)) v.section h t refl in
        let some_section = t.known.1 in
        let spot : number - 1 ≡ length us = omega arith in (
          omega arith,
          record {
            left = updates_of-append t.marks (Done (record { caller = v.allowance.place; op = o.op }) ∷ [])
                ∙ (λ j. t.known.0 j ++ update_is j ∷ []);
            later = omega arith;
            stands = subst (λ (z : List Update × ℕ). slice_get z.0 z.1 ≡ Some (record { caller = i; op = o.op }))
                (λ j. (sym now j, sym spot j)) (here us (record { caller = i; op = o.op }));
            confirms = subst (λ (z : List Update × ℕ). Confirms (map_at z.0 z.1) o.op reply) (λ j. (sym now j, sym spot j))
                (subst (λ d. Confirms d o.op reply) (sym (ap map_of
                (take_at us (record { caller = i; op = o.op } ∷ []) (length us) refl))) confirms);
          },
        )

    stores : (number : ℕ) (reply : Reply) → number ≡ (front + 2) / 2 → Confirms (map_of (updates_of h)) o.op reply → (o' : Own)
        → said o' ≡ said o → is_finished o'.stage ≡ false → phase o'.stage ≡ made number reply → (after : Option Section)
        → Tells (record { scripts = k.places; slots = k.slots }) i script o' after
        (h ++ Done (record { caller = v.allowance.place; op = o.op }) ∷ rest)
    stores number reply is confirms o' same going next after =
        let c : Caller = at_answer i t.own t.seen in
        tells_by (record { scripts = k.places; slots = k.slots }) i script (go o (at.Store u front)) v.section h t refl
        (Done (record { caller = v.allowance.place; op = o.op }) ∷ rest)
        (Done (record { caller = v.allowance.place; op = o.op }) ∷ []) o' after same going store_since
        (subst (λ p. Known (record { scripts = k.places; slots = k.slots }) p c o.op
        (h ++ Done (record { caller = v.allowance.place; op = o.op }) ∷ rest)
        (t.marks ++ Done (record { caller = v.allowance.place; op = o.op }) ∷ []) after) (sym next)
        (store_made number reply is confirms))

    -- a copy is linked: the keys of its move's wait are up to the next one
    moves_to : (number next : ℕ) → number ≡ (front + 2) / 2 → Confirms (map_of (updates_of h)) o.op Gone → o.op ≡ Del (key_now o)
        → IsNextKey (map_of (updates_of h)) (key_now o) next → (o' : Own) → said o' ≡ said o → is_finished o'.stage ≡ false
        → phase o'.stage ≡ moving number next
        → (after : Option Section) → Tells (record { scripts = k.places; slots = k.slots }) i script o' after
        (h ++ Done (record { caller = v.allowance.place; op = o.op }) ∷ rest)
    moves_to number next is confirms deletes next_is o' same going leads after =
        let c : Caller = at_answer i t.own t.seen in
        let us : List Update = updates_of h in
        let known = store_made number Gone is confirms in
        let move : IsMoveWait (us ++ record { caller = i; op = o.op } ∷ []) i (key_now o + 1) next = record {
          position = length us;
          key = key_now o;
          update = here us (record { caller = i; op = o.op }) ∙ ap (λ op. Some (record { caller = i; op = op })) deletes;
          low_is = refl;
          next = subst (λ d. IsNextKey d (key_now o) next)
              (sym (ap map_of (take_at us (record { caller = i; op = o.op } ∷ []) (length us) refl))) next_is;
        } in
        tells_by (record { scripts = k.places; slots = k.slots }) i script (go o (at.Store u front)) v.section h t refl
        (Done (record { caller = v.allowance.place; op = o.op }) ∷ rest)
        (Done (record { caller = v.allowance.place; op = o.op }) ∷ []) o' after same going store_since
        (subst (λ p. Known (record { scripts = k.places; slots = k.slots }) p c o.op
        (h ++ Done (record { caller = v.allowance.place; op = o.op }) ∷ rest)
        (t.marks ++ Done (record { caller = v.allowance.place; op = o.op }) ∷ []) after) (sym leads)
        (known.0, known.1, subst (λ z. IsMoveWait z i (key_now o + 1) next) (sym now) move))

  present_answers : (t : Before at.Count) (o' : Own) → said o' ≡ said o → (after : Option Section)
      → Tells (record { scripts = k.places; slots = k.slots }) i script (answer o' Old 0) after (h ++ [])
  present_answers t o' same after =
      answers_so (record { scripts = k.places; slots = k.slots }) i script (go o at.Count) v.section h t refl []
      (no_marks i (key_now o) (updates_of (h ++ [])) [] refl) o' after Old 0 same t.known.0
      (λ mine none. explained_later (record { scripts = k.places; slots = k.slots }) (at_answer i t.own t.seen) o.op h [] t.marks mine none
      (record { reply = Old; number = 0 }) t.known.1)

  -- nothing is free, and no slot can be given back
  full_answers : (spot : Spot) (expected : ℕ) (t : Before (at.Reserve (Leaf spot) expected)) → is_put o.op ≡ true
      → k.slots ≤ finite.len (map_of (updates_of h)) + 20 * (k.places - 1) → (o' : Own) → said o' ≡ said o → (after : Option Section)
      → Tells (record { scripts = k.places; slots = k.slots }) i script (answer o' Full 0) after (h ++ [])
  full_answers spot expected t put large o' same after =
      let c : Caller = at_answer i t.own t.seen in
      let us : List Update = updates_of h in
      let told : Told = record { reply = Full; number = 0 } in
      let base : WasExplained (Explains (record { scripts = k.places; slots = k.slots })) c o.op told t.marks h = record {
        left = t.known.0;
        front = length us;
        since = seen_before (record { scripts = k.places; slots = k.slots }) i script
            (go o (at.Reserve (Leaf spot) expected)) v.section h t refl;
        until = omega arith;
        explained = subst (λ d. Explains (record { scripts = k.places; slots = k.slots }) d o.op Full)
            (sym (ap map_of (take_all (length us) us (omega arith))))
            (full_explained (record { scripts = k.places; slots = k.slots }) o.op (map_of us) put large);
      } in
      answers_so (record { scripts = k.places; slots = k.slots }) i script (go o (at.Reserve (Leaf spot) expected)) v.section h t refl []
      (no_marks i (key_now o) (updates_of (h ++ [])) [] refl) o' after Full 0 same t.known.1
      (λ mine none. explained_later (record { scripts = k.places; slots = k.slots }) c o.op h [] t.marks mine none told base)

  module _ (eer : k.waiter ≡ Eer) (places : k.places ≡ o.places) (room_is : k.room ≡ o.room) (sixteen : k.room ≡ 16) (works : Works v) (told : IsTold o v h m) where
    -- a step that leaves no mark, outside sections
    quiet : (stage : Stage) (t : Before stage) → is_finished stage ≡ false → (phase stage ≡ inside → ⊥)
        → (o' : Own) (section : Option Section) → Next (go o stage) (phase stage) o'
        → Tells (record { scripts = k.places; slots = k.slots }) i script o' section (h ++ [])
    quiet stage t going out o' section next = calm stage t going out []
        (no_marks i (key_now o) (updates_of (h ++ [])) [] refl) o' section next

    reserves : (aim : Aim) (expected : ℕ) (t : Before (at.Reserve aim expected)) → Fits o (at.Reserve aim expected) v
        → (section : Option Section) → Tells (record { scripts = k.places; slots = k.slots }) i script
        (past_reserve o aim expected (m Free)) section (h ++ [])
    reserves aim expected t f section =
        let n : ℕ = m Free in
        either_tells (record { scripts = k.places; slots = k.slots }) i script section (h ++ []) (n == expected) _ _
        (λ e. quiet (at.Reserve aim expected) t refl (aim_outside aim) (go (record o { free = n - 1 }) (at.Seize aim)) section
        (refl, refl, inl refl))
        (λ e. either_tells (record { scripts = k.places; slots = k.slots }) i script section (h ++ [])
        (n == 0) _ _ (λ z. none aim t f (eqb-true n 0 z))
        (λ z. quiet (at.Reserve aim expected) t refl (aim_outside aim) (go (record o { free = n }) (at.Reserve aim n)) section
        (refl, refl, inl refl)))
      where
        none : (aim : Aim) (t : Before (at.Reserve aim expected)) → Fits o (at.Reserve aim expected) v → m Free ≡ 0
            → Tells (record { scripts = k.places; slots = k.slots }) i script (none_free (record o { free = 0 }) aim) section (h ++ [])
        none (Leaf spot) t f zero_free =
            either_tells (record { scripts = k.places; slots = k.slots }) i script section (h ++ []) (is_none_left o.retired) _ _
            (λ e. full_answers spot expected t (f.point).takes.1
            (subst (λ n. k.slots ≤ finite.len (map_of (updates_of h)) + (n + 4) * (k.places - 1)) sixteen
            (answers_are_said k m vs h i o v (at.Reserve (Leaf spot) expected) inv there f e zero_free))
            (record o { free = 0 }) refl section)
            (λ e. quiet (at.Reserve (Leaf spot) expected) t refl (λ z. absurd (cc))
            (go (record o { free = 0 }) (at.Begin (Reuse (Leaf spot)))) section (refl, refl, inl refl))
        none Spare t f zero_free = quiet (at.Reserve Spare expected) t refl (λ z. absurd (cc))
            (go (record o { free = 0 }) (at.Begin (Reuse Spare))) section (refl, refl, inl refl)
        none ForRoom t f zero_free = quiet (at.Reserve ForRoom expected) t refl (λ z. absurd (cc))
            (go (record o { free = 0 }) (at.Begin (Reuse ForRoom))) section (refl, refl, inl refl)

    looks : (waits : Waits) (stage : Stage) (t : Before stage) → is_finished stage ≡ false → phase stage ≡ waiting waits
        → (more : List Mark) → Adds i (key_now o) (updates_of (h ++ more)) more → (o' : Own) (section : Option Section)
        → Next (go o stage) (waiting waits) o'
        → Tells (record { scripts = k.places; slots = k.slots }) i script o' section (h ++ more)
    looks waits stage t going is more adds o' section next =
        calm stage t going (λ e. wait_outside waits (sym is ∙ e)) more adds o' section (subst (λ p. Next (go o stage) p o') (sym is) next)

    -- a wait begins
    begins : (waits : Waits) (t : Before (at.Begin waits)) (clock count : ℕ) (section : Option Section)
        → Tells (record { scripts = k.places; slots = k.slots }) i script (go o (at.LookKey waits clock 0)) section
        (h ++ Began v.allowance.place count (low_key o waits) (high_key waits) ∷ [])
    begins (Reuse aim) t clock count section =
        let mark : Mark = Began v.allowance.place count 0 18446744073709551615 in
        calm (at.Begin (Reuse aim)) t refl (aim_outside aim) (mark ∷ [])
        (began_adds i (key_now o) (updates_of (h ++ mark ∷ [])) v place count 0 18446744073709551615 (inl (refl, refl)))
        (go o (at.LookKey (Reuse aim) clock 0)) section (refl, refl, inl refl)
    begins (Move move) t clock count section =
        let c : Caller = at_answer i t.own t.seen in
        let mark : Mark = Began v.allowance.place count (key_now o + 1) move.next_key in
        let us : List Update = updates_of (h ++ mark ∷ []) in
        let later = move_later (record { scripts = k.places; slots = k.slots }) c o.op h (mark ∷ []) t.marks [] refl
        (key_now o + 1) move.next_key t.known.2 in
        let a : Adds i (key_now o) us (mark ∷ []) = began_adds i (key_now o) us v place count (key_now o + 1) move.next_key
        (inr (subst (λ p. IsMoveWait us p (key_now o + 1) move.next_key) (sym place) later)) in
        let since = since_later (record { scripts = k.places; slots = k.slots }) c o.op h
        (mark ∷ []) t.marks a.mine a.updates a.own a.keyed a.waits t.since in
        tells_by (record { scripts = k.places; slots = k.slots }) i script (go o (at.Begin (Move move))) v.section h t refl
        (mark ∷ []) a.mine (go o (at.LookKey (Move move) clock 0)) section refl refl since (
          entered_more (record { scripts = k.places; slots = k.slots }) c o.op h (mark ∷ []) t.marks a.mine a.updates t.known.0,
          made_later (record { scripts = k.places; slots = k.slots }) c o.op h (mark ∷ []) t.marks a.mine a.updates
              (record { reply = Gone; number = move.number }) t.known.1,
        )

    unlocks : (l : Last) (t : Before (at.Unlock l)) (section : Option Section)
        → Tells (record { scripts = k.places; slots = k.slots }) i script (past_unlock o l) section (h ++ [])
    unlocks l t section =
        either_tells (record { scripts = k.places; slots = k.slots }) i script section (h ++ [])
        (is_none_left (but_first o.locks)) _ _ (λ e. last_one l t)
        (λ e. quiet (at.Unlock l) t refl (outside_last l) (go (record o { locks = but_first o.locks }) (at.Unlock l)) section
        (refl, refl, inl refl))
      where
        outside_last : (l : Last) → phase (at.Unlock l) ≡ inside → ⊥
        outside_last last.Again e = absurd (cc)
        outside_last _ e = absurd (cc)

        last_one : (l : Last) (t : Before (at.Unlock l))
            → Tells (record { scripts = k.places; slots = k.slots }) i script (unlocked (record o { locks = but_first o.locks }) l) section
            (h ++ [])
        last_one last.Again t = quiet (at.Unlock last.Again) t refl (outside_last last.Again)
            (go (record o { locks = but_first o.locks }) at.EnterClock) section (refl, refl, inl refl)
        last_one (last.New number) t = made_answers (at.Unlock (last.New number)) t refl number New refl refl
            (record o { locks = but_first o.locks }) refl section
        last_one (last.Gone number) t = made_answers (at.Unlock (last.Gone number)) t refl number Gone refl refl
            (record o { locks = but_first o.locks }) refl section
        last_one (last.Was value number) t = made_answers (at.Unlock (last.Was value number)) t refl number (Was value) refl refl
            (record o { locks = but_first o.locks }) refl section

    store_turn : (u : Making) (front : ℕ) → Fits o (at.Store u front) v → Before (at.Store u front) → After (at.Store u front)
    store_turn (update.Leaf spot) front f t =
        let is = answers_are_said k m vs h i o v (at.Store (update.Leaf spot) front) inv there f in
        let put = (f.point).puts in
        let a : Act = act_at o (at.Store (update.Leaf spot) front) in
        let n : ℕ = said_by (access_of o.place a) (m (field_of o.place a)) in
        let section : Option Section = (view_after (noted v a n) h n a).section in
        subst (λ op. Tells (record { scripts = k.places; slots = k.slots }) i script (after o n (at.Store (update.Leaf spot) front)) section
        (h ++ Done (record { caller = v.allowance.place; op = op }) ∷ [])) (sym (put_is o.op put))
        (stores (update.Leaf spot) front t is.0 [] refl refl ((front + 2) / 2) New refl (new_confirms o.op (map_of (updates_of h)) put)
        (after o n (at.Store (update.Leaf spot) front)) refl refl refl section)
    store_turn (update.Value s old) front f t =
        let is = answers_are_said k m vs h i o v (at.Store (update.Value s old) front) inv there f in
        let set = ((f.point).1).sets in
        let a : Act = act_at o (at.Store (update.Value s old) front) in
        let n : ℕ = said_by (access_of o.place a) (m (field_of o.place a)) in
        let section : Option Section = (view_after (noted v a n) h n a).section in
        subst (λ op. Tells (record { scripts = k.places; slots = k.slots }) i script
        (after o n (at.Store (update.Value s old) front)) section (h ++ Done (record { caller = v.allowance.place; op = op }) ∷ []))
        (sym (set_is o.op set))
        (stores (update.Value s old) front t is.0 [] refl refl ((front + 2) / 2) (Was old) refl
        (was_confirms o.op (map_of (updates_of h)) old set is.1)
        (after o n (at.Store (update.Value s old) front)) refl refl refl section)
    store_turn (update.Bypass d child) front f t =
        let is = answers_are_said k m vs h i o v (at.Store (update.Bypass d child) front) inv there f in
        let del = ((f.point).deleting).0 in
        let a : Act = act_at o (at.Store (update.Bypass d child) front) in
        let n : ℕ = said_by (access_of o.place a) (m (field_of o.place a)) in
        let section : Option Section = (view_after (noted v a n) h n a).section in
        subst (λ op. Tells (record { scripts = k.places; slots = k.slots }) i script
        (after o n (at.Store (update.Bypass d child) front)) section
        (h ++ Done (record { caller = v.allowance.place; op = op }) ∷ (Unlinked d.node ∷ []))) (sym (del_is o.op del))
        (stores (update.Bypass d child) front t is.0 (Unlinked d.node ∷ []) refl refl ((front + 2) / 2) Gone refl
        (gone_confirms o.op (map_of (updates_of h)) del) (after o n (at.Store (update.Bypass d child) front)) refl refl refl section)
    store_turn (update.Copy d u next_key copy) front f t =
        let is = answers_are_said k m vs h i o v (at.Store (update.Copy d u next_key copy) front) inv there f in
        let del = ((f.point).copying).deleting.0 in
        let a : Act = act_at o (at.Store (update.Copy d u next_key copy) front) in
        let n : ℕ = said_by (access_of o.place a) (m (field_of o.place a)) in
        let section : Option Section = (view_after (noted v a n) h n a).section in
        let next : IsNextKey (map_of (updates_of h)) (key_now o) next_key =
        copy_next k m vs h i v inv there works (commit_of v) (spare_of v) d.parent d.side d.node copy u.slot u.parent (key_now o) next_key
        (needs_are_given k h o v m n (at.Store (update.Copy d u next_key copy) front) (λ _. eer) places room_is told f) in
        subst (λ op. Tells (record { scripts = k.places; slots = k.slots }) i script
        (after o n (at.Store (update.Copy d u next_key copy) front)) section
        (h ++ Done (record { caller = v.allowance.place; op = op }) ∷ (Unlinked d.node ∷ []))) (sym (del_is o.op del))
        (moves_to (update.Copy d u next_key copy) front t is.0 (Unlinked d.node ∷ []) refl refl ((front + 2) / 2) next_key refl
        (gone_confirms o.op (map_of (updates_of h)) del) (sym (del_is o.op del)) next
        (after o n (at.Store (update.Copy d u next_key copy) front)) refl refl refl section)

    leave_turn : (next : Then) → Fits o (at.Leave next) v → Before (at.Leave next) → After (at.Leave next)
    leave_turn then.Absent f t =
        let is = answers_are_said k m vs h i o v (at.Leave then.Absent) inv there f in
        let n : ℕ = idle in
        said_answers (at.Leave then.Absent) t refl refl is.0 is.1 o refl _ Absent refl None is.2
        (λ d none. absent_explained (record { scripts = k.places; slots = k.slots }) o.op d ((f.point).1).0 none) n
    leave_turn (then.Value value) f t =
        let is = answers_are_said k m vs h i o v (at.Leave (then.Value value)) inv there f in
        let n : ℕ = idle in
        said_answers (at.Leave (then.Value value)) t refl refl is.0 is.1 o refl _ (Val value) refl (Some value) is.2
        (λ d e. subst (λ op. Explains (record { scripts = k.places; slots = k.slots }) d op (Val value)) (sym ((f.point).1).0) e) n
    leave_turn then.Old f t =
        let is = answers_are_said k m vs h i o v (at.Leave then.Old) inv there f in
        let put = ((f.point).1).0 in
        let n : ℕ = idle in
        either_tells (record {
          scripts = k.places;
          slots =
              k.slots;
        }) i script _ _ (has_slot o.hand) _ _ (λ e. keeps_present t is.0 is.1 is.2.0 is.2.1 put _ n)
        (λ e. said_answers (at.Leave then.Old) t refl refl is.0 is.1 o refl _ Old refl (Some is.2.0) is.2.1
        (λ d e. old_explained (record { scripts = k.places; slots = k.slots }) o.op d is.2.0 put e) n)
    leave_turn (then.Link spot) f t =
        let i' = ((f.point).1).1 in
        leaves (then.Link spot) t i'.section i'.is (go o (cond (has_slot o.hand) (at.LeafLock spot) (taking o (Leaf spot)))) refl
        (by (has_slot o.hand)).0 (by (has_slot o.hand)).1 _ idle
      where
        by : (b : Bool) → (is_finished (cond b (at.LeafLock spot) (taking o (Leaf spot))) ≡ false)
            × (phase (cond b (at.LeafLock spot) (taking o (Leaf spot))) ≡ outside)
        by true = (refl, refl)
        by false = (refl, refl)
    leave_turn (then.Replace s generation) f t = let i' = (((f.point).1).1).2 in
        leaves (then.Replace s generation) t i'.section i'.is (go o (at.SetLock s generation)) refl refl refl _ idle
    leave_turn (then.Delete target) f t = let i' = ((f.point).1).1 in
        leaves (then.Delete target) t i'.section i'.is (go o (at.TargetLock target 0)) refl refl refl _ idle

    -- one step at any point
    pub turn : (stage : Stage) → is_finished stage ≡ false → Fits o stage v → Before stage → After stage
    turn at.Finished going f t = absurd (cc)
    turn (at.EnterStamp clock) going f t = enters clock t f
    turn (at.AtLink s b) going f t =
        let n : ℕ = m (Link s b) in
        loads (at.AtLink s b) t refl (f.point).1.section (f.point).1.is (Link s b) (act_at o (at.AtLink s b)) n
        (go o (cond (n == 0) (ended o.op s b) (at.AtKey n s b)))
        (stage_next (go o (at.AtLink s b)) inside o (n == 0) _ _ (ended_next (go o (at.AtLink s b)) o o.op s b refl)
        (refl, refl, inl refl))
    turn (at.AtKey s p b) going f t = let n : ℕ = m (Key s) in
        loads (at.AtKey s p b) t refl (f.point).1.section (f.point).1.is (Key s) (act_at o (at.AtKey s p b)) n
        (go o (key_read o s p b (step_side (key_now o) n))) (by (step_side (key_now o) n))
      where
        by : (x : Option Side) → Next (go o (at.AtKey s p b)) inside (go o (key_read o s p b x))
        by None = found_next (go o (at.AtKey s p b)) o o.op s p b refl
        by (Some c) = (refl, refl, inl refl)
    turn (at.Leave next) going f t = leave_turn next f t
    turn (at.Value s) going f t = loads (at.Value s) t refl (f.point.2).2.section (f.point.2).2.is (Value s) (act_at o (at.Value s))
        (m (Value s)) _ (refl, refl, inl refl)
    turn (at.SpotTag s b) going f t = loads (at.SpotTag s b) t refl (f.point).2.section (f.point).2.is (Tag s b) (act_at o (at.SpotTag s b))
        (m (Tag s b)) _ (refl, refl, inl refl)
    turn (at.SpotLife s b tag) going f t = loads (at.SpotLife s b tag) t refl (f.point).2.section (f.point).2.is (Life s)
        (act_at o (at.SpotLife s b tag)) (m (Life s)) _ (refl, refl, inl refl)
    turn (at.LeafField spot j) going f t = quiet (at.LeafField spot j) t refl
        (λ e. absurd (cc)) _ _ (stage_next (go o (at.LeafField spot j)) outside o (j == 3) _ _ (refl, refl, inl refl)
        (refl, refl, inl refl))
    turn (at.LeafLock spot) going f t = quiet (at.LeafLock spot) t refl
        (λ e. absurd (cc)) _ _ (lock_next (go o (at.LeafLock spot)) o spot.slot (m (Lock spot.slot)) (at.LeafLife spot) refl refl refl)
    turn (at.LeafTag spot life link) going f t =
        let n : ℕ = m (Tag spot.slot spot.side) in
        let holds : Bool = (life == 2 * spot.generation) && ((link == 0) && (n == spot.tag)) in
        quiet (at.LeafTag spot life link) t refl (λ e. absurd (cc))
        (go o (cond holds (committing o (update.Leaf spot)) (at.Unlock last.Again))) _ (stage_next
        (go o (at.LeafTag spot life link)) outside o holds _ _ (refl, refl, inl refl) (refl, refl, inr (refl, refl)))
    turn (at.Reserve aim expected) going f t = reserves aim expected t f _
    turn (at.Seize aim) going f t =
        let n : ℕ = m (State o.scan) in
        calm (at.Seize aim) t refl (aim_outside aim) _ (seize_adds i (key_now o) _ v place o.scan (n == 0)) _ _ (either_next
        (go o (at.Seize aim)) (aiming aim) (n == 0) _ _ (refl, refl, inl refl) (refl, refl, inl refl))
    turn (at.Age (Leaf spot) s) going f t = quiet (at.Age (Leaf spot) s) t refl (λ e. absurd (cc)) _ _ (refl, refl, inl refl)
    turn at.Free going f t = calm at.Free t refl (λ e. absurd (cc)) _ (no_marks i (key_now o) _ _ refl) _ _ (refl, refl, inl refl)
    turn at.Count going f t = present_answers t (record o { free = m Free + 1 }) refl _
    turn (at.Begin waits) going f t = begins waits t (m Clock) v.counts.waits _
    turn (at.LookKey waits clock p) going f t =
        looks waits (at.LookKey waits clock p) t refl refl _ (look_adds i
        (key_now o) _ (noted v (act_at o (at.LookKey waits clock p)) (m (Announced p))) place (wait_of v) (Announced p)
        (p + 1 == o.places) (m (Announced p))) _ _
        (either_next (go o (at.LookKey waits clock p)) (waiting waits) (is_reader o waits (m (Announced p))) _ _ (refl, refl, inl refl)
        (place_next (go o (at.LookKey waits clock p)) o waits clock p refl))
    turn (at.LookStamp waits clock p key) going f t =
        looks waits (at.LookStamp waits clock p key) t refl refl _ (look_adds i
        (key_now o) _ (noted v (act_at o (at.LookStamp waits clock p key)) (m (Stamp p))) place (wait_of v) (Stamp p)
        (p + 1 == o.places) (m (Stamp p))) _ _
        (either_next (go o (at.LookStamp waits clock p key)) (waiting waits)
        ((m (Stamp p) == idle) || nat_lt clock (m (Stamp p))) _ _ (place_next
        (go o (at.LookStamp waits clock p key)) o waits clock p refl) (refl, refl, inl refl))
    turn (at.OldAge aim) going f t = quiet (at.OldAge aim) t refl (aim_outside aim) _ _ (refl, refl, inl refl)
    turn (at.OldRaise aim life) going f t =
        let a : Act = act_at o (at.OldRaise aim life) in
        let n : ℕ = said_by (access_of o.place a) (m (field_of o.place a)) in
        calm (at.OldRaise aim life) t refl (aim_outside aim) _ (either_adds i (key_now o) _ (noted v a n) place n
        (has_slot o.spare) _ _ (no_marks i (key_now o) _ _ refl) (no_marks i (key_now o) _ _ refl)) _ _
        (either_next (go o (at.OldRaise aim life)) (aiming aim) (has_slot o.spare) _ _ (refl, refl, inl refl)
        (giving_next (go o (at.OldRaise aim life))
        (record o { spare = Some (first_or_root o.retired); retired = but_first o.retired }) aim refl))
    turn (at.OldFree aim) going f t = calm (at.OldFree aim) t refl
        (aim_outside aim) _ (no_marks i (key_now o) _ _ refl) _ _ (refl, refl, inl refl)
    turn (at.OldCount aim) going f t = quiet (at.OldCount aim) t refl
        (aim_outside aim) _ _ (giving_next (go o (at.OldCount aim)) (record o { free = m Free + 1 }) aim refl)
    turn (at.Commit u expected) going f t = let n : ℕ = m Front in
        quiet (at.Commit u expected) t refl (λ e. absurd (cc)) _ _ (either_next (go o (at.Commit u expected)) outside
        (n == expected) _ _ (refl, refl, inl refl) (refl, refl, inl refl))
    turn (at.Store u front) going f t = store_turn u front f t
    turn (at.Even (update.Bypass d child) front) going f t =
        quiet (at.Even (update.Bypass d child) front) t refl
        (λ e. absurd (cc)) _ _ (stage_next (go o (at.Even (update.Bypass d child) front)) (made ((front + 2) / 2) Gone)
        (record o { front = front + 2 }) (child == 0) _ _ (refl, refl, inl refl) (refl, refl, inl refl))
    turn (at.Unlock l) going f t = unlocks l t _
    turn (at.SetLife s) going f t = loads (at.SetLife s) t refl (f.point.2).2.section (f.point.2).2.is (Life s) (act_at o (at.SetLife s))
        (m (Life s)) _ (refl, refl, inl refl)
    turn (at.SetLock s generation) going f t = quiet (at.SetLock s generation) t refl
        (λ e. absurd (cc)) _ _ (lock_next (go o (at.SetLock s generation)) o s (m (Lock s)) (at.SetCheck s generation) refl refl refl)
    turn (at.SetCheck s generation) going f t = let n : ℕ = m (Life s) in
        quiet (at.SetCheck s generation) t refl (λ e. absurd (cc))
        (go o (cond (n == 2 * generation) (at.SetValue s) (at.Unlock last.Again))) _ (stage_next (go o (at.SetCheck s generation)) outside o
        (n == 2 * generation) _ _ (refl, refl, inl refl) (refl, refl, inr (refl, refl)))
    turn (at.ParentLife p b d) going f t = loads (at.ParentLife p b d) t refl (f.point).2.section (f.point).2.is (Life p)
        (act_at o (at.ParentLife p b d)) (m (Life p)) _ (refl, refl, inl refl)
    turn (at.NodeLife d) going f t = loads (at.NodeLife d) t refl f.point.2.section f.point.2.is (Life d.node) (act_at o (at.NodeLife d))
        (m (Life d.node)) _ (refl, refl, inl refl)
    turn (at.NodeLeft d) going f t =
        loads (at.NodeLeft d) t refl (f.point).2.section (f.point).2.is (Link d.node Left) (act_at o (at.NodeLeft d))
        (m (Link d.node Left)) _ (refl, refl, inl refl)
    turn (at.NodeRight d) going f t = let n : ℕ = m (Link d.node Right) in
        loads (at.NodeRight d) t refl (f.point).2.section (f.point).2.is (Link d.node Right) (act_at o (at.NodeRight d)) n
        (go o (past_right (record d { right = n }))) (right_next (go o (at.NodeRight d)) o (record d { right = n }) refl)
    turn (at.SuccessorLeft d u) going f t =
        let n : ℕ = m (Link u.slot Left) in loads (at.SuccessorLeft d u) t refl (f.point).2.section (f.point).2.is (Link u.slot Left)
        (act_at o (at.SuccessorLeft d u)) n (go o (past_left d u n)) (left_next (go o (at.SuccessorLeft d u)) o d u n refl)
    turn (at.SuccessorParentLife d u) going f t =
        loads (at.SuccessorParentLife d u) t refl (f.point).2.section (f.point).2.is (Life u.parent) (act_at o (at.SuccessorParentLife d u))
        (m (Life u.parent)) _ (refl, refl, inl refl)
    turn (at.SuccessorLife d u) going f t = loads (at.SuccessorLife d u) t refl (f.point).2.section (f.point).2.is (Life u.slot)
        (act_at o (at.SuccessorLife d u)) (m (Life u.slot)) _ (refl, refl, inl refl)
    turn (at.TargetLock target j) going f t = quiet (at.TargetLock target j) t refl
        (λ e. absurd (cc)) _ _ (lock_next (go o (at.TargetLock target j)) o (target_lock target j) (m (Lock (target_lock target j))) _ refl
        (by (j + 1 == target_locks target)).0 (by (j + 1 == target_locks target)).1)
      where
        by : (b : Bool) → let st : Stage = cond b (at.TargetLoad target 0 nothing_found) (at.TargetLock target (j + 1)) in
            (is_finished st ≡ false) × (phase st ≡ outside)
        by true = (refl, refl)
        by false = (refl, refl)
    turn (at.TargetLoad target j found) going f t =
        quiet (at.TargetLoad target j found) t refl (λ e. absurd (cc)) _ _ (target_next (go o (at.TargetLoad target j found)) o target j
        (with_found found j (m (in_slot (target_slot target j) (target_part target j)))) refl)
    turn (at.CopyField d u next_key value j) going f t =
        quiet (at.CopyField d u next_key value j) t refl
        (λ e. absurd (cc)) _ _ (stage_next (go o (at.CopyField d u next_key value j)) outside o (j == 3) _ _ (refl, refl, inl refl)
        (refl, refl, inl refl))
    turn (at.CopyLock d u next_key) going f t = quiet (at.CopyLock d u next_key) t refl
        (λ e. absurd (cc)) _ _ (lock_next (go o (at.CopyLock d u next_key)) o (or_root o.spare) (m (Lock (or_root o.spare)))
        (at.CopyMark d u next_key) refl refl refl)
    turn (at.Unlink move child) going f t =
        let a : Act = act_at o (at.Unlink move child) in
        let n : ℕ = said_by (access_of o.place a) (m (field_of o.place a)) in
        let o' : Own = record o { retired = o.retired ++ move.successor.slot ∷ []; locks = move_locks move } in
        calm (at.Unlink move child) t refl (λ e. absurd (cc)) _ (either_adds i (key_now o) _ (noted v a n) place n
        (move.successor.parent == move.node.node) _ _ (no_marks i (key_now o) _ _ refl) (no_marks i (key_now o) _ _ refl)) _ _
        (stage_next (go o (at.Unlink move child)) (made move.number Gone) o'
        (child == 0) _ _ (stage_next (go o (at.Unlink move child)) (made move.number Gone) o'
        (move.successor.parent == move.node.node) _ _ (refl, refl, inl refl) (refl, refl, inl refl)) (refl, refl, inl refl))
    turn stage going f t = quiet stage t refl (λ e. absurd (cc)) _ _ (refl, refl, inl refl)
