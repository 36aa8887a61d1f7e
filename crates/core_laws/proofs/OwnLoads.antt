-- A load of the life of a slot of one's own, K9: what is written down of a retired slot, and the law.
use Rattle.std.proofs.Common.{◌≡◌, ◌⊎◌, ℕ, zero, suc, ◌+◌, ◌<◌, ◌≤◌, ◌==◌, Bool, true, false, cond, List, [], ◌∷◌, ◌++◌, length, map, set, Some, refl, sym, ap, subst, ◌∙◌, inl, inr, ⊎_elim, arith, ◌-◌, Option, None}
use Rattle.std.proofs.lemmas.Bool.{eqb-true}
use mathlib.Core.Option.{some, some-injective, some-ne-none}
use lib.ListN.{get_elem?}
use Rattle.atomic_table.proofs.Lists.{at_map, set_here}
use Rattle.prcu_marks.specs.declared.mark.Mark.{Mark}
use Rattle.prcu_marks.specs.Marks.{gone_at}
use Rattle.core_state.specs.declared.shape.Shape.{Shape}
use Rattle.core_state.specs.declared.words.Field.TheVariants.{Life}
use Rattle.core_state.specs.declared.view.Retired.{Retired}
use Rattle.core_state.specs.declared.view.View.{View}
use Rattle.list_laws.specs.Counts.{times, IsIn, Each, numbers_from}
use Rattle.core_state.specs.Memory.{has, IsEven, IsOdd, Memory, slot_count}
use Rattle.core_state.specs.Views.{known_in, Works, held_list, spares_of, joined_retired, retired_of, slots_of, unraised_among, unraised_of, note_option, noting, joined_spares}
use Rattle.core_state.specs.Links.{IsContent, change_retired, after_own_life, hand_to_spare, after_kept_as_spare, after_retired_life, NeedsKeptAsSpare}
use Rattle.core_state.specs.Tree.{Chart}
use Rattle.core_state.specs.Parts.{IsRetired, IsRetiredOf, SlotParts, CountParts, HasRetired}
use Rattle.core_state.specs.Invariant.{HoldsNow}
use Rattle.list_laws.proofs.Lists.{in_append, in_first, in_second, at_below, set_twice, times_append, times_other, somewhere_still}
use Rattle.core_frames.proofs.Marks.{silent_same}
use Rattle.core_frames.proofs.Views.{same_slots}
use Rattle.core_frames.proofs.PlaceFrames.{counts_kept, slots_by, retired_of_still}
use Rattle.core_frames.proofs.Roles.{unraised_append, map_append}
use Rattle.core_laws.proofs.ChartStays.{SameOutside, same_but, hands_stay, grace_same, hands_rest}
use mathlib.Core.Logic.{dite}
use native.Mathlib.Decide.{dec_le, ℕ_discrete}
use Rattle.core_state.specs.declared.view.Held.{Held}
use Rattle.core_laws.proofs.LockLoads.{law_noting}
use Rattle.core_frames.proofs.WholeFrames.{Stepper, StepKeeps, by_load}

-- The life of a retired slot may be written down.

-- an element of a mapped list
pub map_back : {A B : Type 0} (f : A → B) (xs : List A) (j : ℕ) (b : B) → get_elem? (map f xs) j ≡ some b
    → (a : A) × (get_elem? xs j ≡ some a) × (f a ≡ b)
map_back f [] j b e = absurd (some-ne-none b (sym e))
map_back f (x ∷ xs) zero b e = (x, refl, some-injective (f x) b e)
map_back f (x ∷ xs) (suc j) b e = map_back f xs j b e

module _ (k : Shape) (m : Memory) (vs : List View) (h : List Mark) (id : ℕ) (v : View) (i : HoldsNow k m vs h)
    (there : get_elem? vs id ≡ some v) (works : Works v) (slot : ℕ) where
  abbrev told : Retired → Retired
  told r = record r { life = Some (m (Life slot)) }

  abbrev one : Retired → Retired
  one r = cond (r.slot == slot) (told r) r

  abbrev w : View
  w = record v { hands = record v.hands { retired = change_retired slot told v.hands.retired } }

  abbrev g : Chart
  g = i.chart

  -- what is written down of a retired slot is so, and nothing else changes
  record IsTold (r r' : Retired) : Type 0 where
    pub slot_is : r'.slot ≡ r.slot
    pub unlinked : r'.unlinked ≡ r.unlinked
    pub raised : r'.raised ≡ r.raised
    pub waited : r'.waited ≡ r.waited
    pub known : r'.known ≡ r.known
    pub life : (r'.life ≡ r.life) ⊎ (r'.life ≡ Some (m (Life r.slot)))

  is_told : (r : Retired) → IsTold r (one r)
  is_told r = cases (r.slot == slot) refl
    where
      cases : (b : Bool) → (r.slot == slot) ≡ b → IsTold r (cond b (told r) r)
      cases true e = record {
        slot_is = refl;
        unlinked = refl;
        raised = refl;
        waited = refl;
        known = refl;
        life = inr (ap (λ z. Some (m (Life z))) (sym (eqb-true r.slot slot e)));
      }
      cases false e = record { slot_is = refl; unlinked = refl; raised = refl; waited = refl; known = refl; life = inl refl }

  slots_map : (rs : List Retired) → map (λ (r : Retired). r.slot) (change_retired slot told rs) ≡ map (λ (r : Retired). r.slot) rs
  slots_map [] = refl
  slots_map (r ∷ rs) = let x = is_told r in let rest = slots_map rs in λ j. x.slot_is j ∷ rest j

  length_map : (rs : List Retired) → length (change_retired slot told rs) ≡ length rs
  length_map [] = refl
  length_map (r ∷ rs) = ap suc (length_map rs)

  unraised_map : (rs : List Retired) → unraised_among (change_retired slot told rs) ≡ unraised_among rs
  unraised_map [] = refl
  unraised_map (r ∷ rs) = let x = is_told r in let rest = unraised_map rs in λ j. cond (x.raised j) 0 1 + rest j

  slots_are : slots_of w ≡ slots_of v
  slots_are =
      let joined = joined_retired v.allowance.joined in
      let e : map (λ (r : Retired). r.slot) (retired_of w) ≡ map (λ (r : Retired). r.slot) (retired_of v) =
      map_append (change_retired slot told v.hands.retired) joined
      ∙ ap (λ z. z ++ map (λ (r : Retired). r.slot) joined) (slots_map v.hands.retired) ∙ sym (map_append v.hands.retired joined) in
      λ j. held_list v.hands.hand ++ (spares_of v ++ e j)

  unraised_are : unraised_of w ≡ unraised_of v
  unraised_are =
      let joined = joined_retired v.allowance.joined in
      let a = unraised_append (change_retired slot told v.hands.retired) joined in
      let c = unraised_append v.hands.retired joined in
      let e = unraised_map v.hands.retired in
      omega arith

  -- a retired slot afterwards was one before, and the other way about
  own_back : (r : Retired) → IsIn w.hands.retired r → (z : Retired) × IsIn v.hands.retired z × IsTold z r
  own_back r has = let x = map_back one v.hands.retired has.0 r has.1 in (x.0, (has.0, x.1), subst (IsTold x.0) x.2 (is_told x.0))

  own_forth : (z : Retired) → IsIn v.hands.retired z → IsIn w.hands.retired (one z) × IsTold z (one z)
  own_forth z has = ((has.0, at_map one v.hands.retired has.0 z has.1), is_told z)

  retired_is : (z r : Retired) → IsTold z r → IsRetired m h z → IsRetired m h r
  retired_is z r x t = record {
    unlinked = ap (λ s. gone_at s h) x.slot_is ∙ t.unlinked ∙ ap Some (sym x.unlinked);
    some_slot = λ e. t.some_slot (sym x.slot_is ∙ e);
    marked = λ e. subst (λ s. IsOdd (m (Life s))) (sym x.slot_is) (t.marked (sym x.raised ∙ e));
    life = λ number e l. ap (λ s. m (Life s)) x.slot_is
        ∙ ⊎_elim (λ (q : r.life ≡ z.life). t.life number (sym x.raised ∙ e) (sym q ∙ l))
        (λ (q : r.life ≡ Some (m (Life z.slot))). (let y : Some (m (Life z.slot)) ≡ Some number = sym q ∙ l in
        let n : m (Life z.slot) ≡ number = cc in n)) x.life;
    stays = λ field number e content l. t.stays field number (sym x.raised ∙ e) (subst (λ s. IsContent s field) x.slot_is content)
        (ap (λ ks. known_in ks field) (sym x.known) ∙ l);
    unmarked = λ e. subst (λ s. IsEven (m (Life s))) (sym x.slot_is) (t.unmarked (sym x.raised ∙ e));
    after_wait = λ e. x.waited ∙ t.after_wait (sym x.raised ∙ e);
  }

  each_retired : Each (retired_of v) (IsRetired m h) → Each (retired_of w) (IsRetired m h)
  each_retired all j r e = ⊎_elim
      (λ (own : IsIn w.hands.retired r). (let x = own_back r own in
      let y = in_first v.hands.retired (joined_retired v.allowance.joined) x.0 x.1 in retired_is x.0 r x.2 (all y.0 x.0 y.1)))
      (λ (joined : IsIn (joined_retired v.allowance.joined) r). (let y =
      in_second v.hands.retired (joined_retired v.allowance.joined) r joined in all y.0 r y.1))
      (in_append w.hands.retired (joined_retired v.allowance.joined) r (j, e))

  -- a retired slot of any view is one of the same view afterwards
  retired_forth : (s : ℕ) → IsRetiredOf vs s → IsRetiredOf (set vs id w) s
  retired_forth s = somewhere_still vs id v w there (λ (x : HasRetired v s). (let r = x.retired in ⊎_elim
      (λ (own : IsIn v.hands.retired r). (let y = own_forth r own in record {
        retired = one r;
        has = in_first w.hands.retired (joined_retired v.allowance.joined) (one r) y.0;
        slot = y.1.slot_is ∙ x.slot;
      }))
      (λ (joined : IsIn (joined_retired v.allowance.joined) r). record {
        retired = r;
        has = in_second w.hands.retired (joined_retired v.allowance.joined) r joined;
        slot = x.slot;
      })
      (in_append v.hands.retired (joined_retired v.allowance.joined) r x.has)))

  slots : SlotParts k.room m (slot_count k) g (set vs id w) h
  slots = slots_by m (slot_count k) g vs id v w h there (λ s. ap (times s) slots_are)
      (λ x. record {
        one = x.one;
        few = subst (λ n. n ≤ k.room) (sym (length_map v.hands.retired)) x.few;
        room = λ move is. subst (λ n. n < k.room) (sym (length_map v.hands.retired)) (x.room move is);
        joined = x.joined;
        next_spare = λ here none. (let y = x.next_spare here none in let z = own_forth y.retired y.has in
            record { retired = one y.retired; has = z.0; unraised = z.1.raised ∙ y.unraised });
      })
      (λ x. record { hand = x.hand; spare = x.spare; copy = x.copy; spares = x.spares }) each_retired retired_forth i.slots

  counts : CountParts k.tickets m (slot_count k) g (set vs id w) h
  counts = counts_kept k.tickets m m (slot_count k) g vs id v w h h there (same_slots m) refl refl
      (record {
        tickets = refl;
        reserved = refl;
        owes = refl;
        unraised = (let e = unraised_are in omega arith);
        locks = refl;
        moving = refl;
      }) (silent_same h) refl refl i.counts

  same : SameOutside v w
  same = same_but v v.locks w.hands v.seen

  pub law_told : HoldsNow k m (set vs id w) h
  law_told = hands_stay k m vs h id v w i there works same refl refl slots counts
      (grace_same k m vs h id v w i there same (λ y has. (let x = own_back y has in let told = x.2 in
      (x.0, x.1, told.unlinked, told.waited))))
      (λ s z. (let a = own_forth z.retired z.has in let c = a.1 in
      record { retired = one z.retired; has = a.0; slot = c.slot_is ∙ z.slot; unraised = c.raised ∙ z.unraised }))

-- The life of a slot of one's own is loaded: K9.

-- A slot in hand becomes the spare of a place without one.
module _ (k : Shape) (m : Memory) (vs : List View) (h : List Mark) (id : ℕ) (v : View) (i : HoldsNow k m vs h)
    (there : get_elem? vs id ≡ some v) (works : Works v) (none : v.hands.spare ≡ None) where
  abbrev kept_view : View
  kept_view = hand_to_spare v

  abbrev others : List ℕ
  others = numbers_from (v.allowance.place + 2) (v.allowance.places - 1) ++ joined_spares v.allowance.joined

  abbrev rest : List ℕ
  rest = map (λ (r : Retired). r.slot) (retired_of v)

  same_times : (s : ℕ) → times s (slots_of kept_view) ≡ times s (slots_of v)
  same_times s =
      let a = times_append s (held_list v.hands.hand) ((held_list v.hands.spare ++ others) ++ rest) in
      let c = ap (λ o. times s ((held_list o ++ others) ++ rest)) none in
      let d = times_append s (held_list v.hands.hand ++ others) rest in
      let e = times_append s (held_list v.hands.hand) others in
      let f = times_append s others rest in
      omega arith

  spare_even : (s : ℕ) → 1 ≤ times s (spares_of kept_view) → IsEven (m (Life s))
  spare_even s has =
      let t = i.slots.hands id v there in
      let e = times_append s (held_list v.hands.hand) others in
      dite (dec_le 1 (times s others))
      (λ old. t.spares s (let c = ap (λ o. times s (held_list o ++ others)) none in omega arith))
      (λ not. by_hand v.hands.hand refl (omega arith))
    where
      by_hand : (o : Option Held) → v.hands.hand ≡ o → 1 ≤ times s (held_list o) → IsEven (m (Life s))
      by_hand None e has = absurd (omega arith)
      by_hand (Some held) e has = dite (ℕ_discrete held.slot s)
          (λ same. subst (λ z. IsEven (m (Life z))) same ((i.slots.hands id v there).hand held e).even)
          (λ ne. absurd (let c = times_other s held.slot [] ne in omega arith))

  kept_slots : SlotParts k.room m (slot_count k) i.chart (set vs id kept_view) h
  kept_slots = slots_by m (slot_count k) i.chart vs id v kept_view h there same_times
      (λ x. record {
        one = λ e. refl;
        few = x.few;
        room = x.room;
        joined = x.joined;
        next_spare = λ here q. x.next_spare here none;
      })
      (λ x. record {
        hand = λ held is. absurd (let q : None ≡ Some held = is in cc);
        spare = λ held is. (x.hand held is).known;
        copy = x.copy;
        spares = spare_even;
      }) (λ x. x) (retired_of_still m (slot_count k) i.chart vs id v kept_view h there refl) i.slots

  kept_counts : CountParts k.tickets m (slot_count k) i.chart (set vs id kept_view) h
  kept_counts = counts_kept k.tickets m m (slot_count k) i.chart vs id v kept_view h h there (same_slots m) refl refl
      (record { tickets = refl; reserved = refl; owes = refl; unraised = omega arith; locks = refl; moving = refl })
      (silent_same h) refl refl i.counts

  pub law_keep : HoldsNow k m (set vs id kept_view) h
  law_keep = hands_rest k m vs h id v i there works None v.hands.hand kept_slots kept_counts

module _ (z : Stepper) where
  open z use {k, m, vs, h, id, v, inv, there, works}

  -- with the life noted
  abbrev noted : ℕ → View
  noted slot = noting v slot (Life slot) (m (Life slot)) false

  law_noted : (slot : ℕ) → HoldsNow k m (set vs id (noted slot)) h
  law_noted slot = law_noting k m vs h id v inv there works slot (Life slot) (m (Life slot)) false refl refl

  here : (slot : ℕ) → get_elem? (set vs id (noted slot)) id ≡ some (noted slot)
  here slot = set_here vs id (noted slot) (at_below vs id v there)

  pub keeps_own_life : (slot : ℕ) → StepKeeps z (Life slot) (m (Life slot)) (after_own_life v slot (m (Life slot))) []
  keeps_own_life slot = by_load z (Life slot) (after_own_life v slot (m (Life slot))) (law_noted slot)

  pub keeps_kept_as_spare : (slot : ℕ) (held : Held) → NeedsKeptAsSpare v held slot
      → StepKeeps z (Life slot) (m (Life slot)) (after_kept_as_spare v slot (m (Life slot))) []
  keeps_kept_as_spare slot held needs = by_load z (Life slot) (after_kept_as_spare v slot (m (Life slot)))
      (subst (λ us. HoldsNow k m us h) (set_twice vs id (noted slot) (after_kept_as_spare v slot (m (Life slot))))
      (law_keep k m (set vs id (noted slot)) h id (noted slot) (law_noted slot) (here slot) works
      (ap (note_option slot (record { field = Life slot; number = m (Life slot); stored = false })) needs.none)))

  pub keeps_retired_life : (slot : ℕ) → StepKeeps z (Life slot) (m (Life slot)) (after_retired_life v slot (m (Life slot))) []
  keeps_retired_life slot = by_load z (Life slot) (after_retired_life v slot (m (Life slot)))
      (subst (λ us. HoldsNow k m us h) (set_twice vs id (noted slot) (after_retired_life v slot (m (Life slot))))
      (law_told k m (set vs id (noted slot)) h id (noted slot) (law_noted slot) (here slot) works slot))
