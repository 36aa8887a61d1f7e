-- The state of a slot that isn't linked is stored, and the slot is given or freed: it is seized, K11, or given back, K15.
use Rattle.std.proofs.Common.{◌≡◌, ◌≢◌, ℕ, ◌+◌, ◌<◌, ◌≤◌, ◌==◌, Bool, true, false, List, [], ◌∷◌, ◌++◌, length, set, Some, refl, sym, ap, subst, ◌∙◌, inl, arith, map, Option, None, ⊎_elim, eq-eqb}
use mathlib.Core.Option.{some}
use lib.ListN.{get_elem?}
use Rattle.prcu_marks.specs.declared.mark.Mark.{Mark}
use Rattle.prcu_marks.specs.Marks.{greatest_key, last_unlinked, gone_at}
use Rattle.core_state.specs.declared.shape.Shape.{Shape}
use Rattle.core_state.specs.declared.words.Field.{Field}
use Rattle.core_state.specs.declared.words.Field.TheVariants.{State, Life}
use Rattle.core_state.specs.declared.view.Held.{Held}
use Rattle.core_state.specs.declared.view.Retired.{Retired}
use Rattle.core_state.specs.declared.view.Section.{Section}
use Rattle.core_state.specs.declared.view.View.{View}
use Rattle.list_laws.specs.Counts.{times, IsIn, total}
use Rattle.core_state.specs.Memory.{flag, IsEven, Memory, stored, slot_count}
use Rattle.core_state.specs.Views.{Works, retired_of, spares_of, slots_of, unraised_of, IsOwnField, held_list, joined_retired}
use Rattle.core_state.specs.Invariant.{HoldsNow}
use Rattle.core_frames.specs.Laws.{IsKept}
use Rattle.core_frames.proofs.Views.{stored_here, stored_else, sum_one_other}
use Rattle.core_laws.proofs.Stores.{held_beside, stores_in, hand_beside}
use Rattle.core_frames.proofs.PlaceFrames.{counts_by}
use Rattle.core_laws.proofs.ChartStays.{SameOutside, same_but, outer_marked}
use Rattle.core_laws.proofs.OffStep.{OffStep, same_lock, off_law, retired_away, used_marks, grace_used, used_mark, used_plain, used_new, used_updates, used_back, no_others}
use Rattle.core_state.specs.Links.{IsContent, seized, NeedsFreeInHand, after_free_in_hand, without_retired, NeedsFreeRetired, after_free_retired}
use Rattle.core_frames.proofs.Roles.{spare_among, slots_count, not_gone, retired_there, retired_own, held_there, retired_count, slots_in, one_in, without_in, without_none, without_else, without_length, in_without, unraised_append, without_raised, own_off}
use Rattle.core_state.specs.Parts.{AreHandsKnown, IsHeldKnown, HasFewSlots, IsUnraised, IsClear, IsRetired, IsHandKnown}
use Rattle.core_state.specs.declared.view.Hands.{Hands}
use Rattle.core_state.specs.Tree.{IsHeldBack}
use Rattle.prcu_marks.proofs.Marks.{last_gone}
use Rattle.prcu_model.specs.Dictionary.{map_of}
use Rattle.core_laws.proofs.LockSteps.{known_more}
use Rattle.core_frames.proofs.Charts.{bool_cases}
use Rattle.list_laws.proofs.Lists.{total_part, times_here, in_first, times_other, times_in, in_second, in_append}
use Rattle.prcu_marks.specs.declared.mark.Mark.TheVariants.{Given, Freed}
use Rattle.std.specs.FinMap as finite

module _ (k : Shape) (m : Memory) (vs : List View) (h : List Mark) (id : ℕ) (v : View) (inv : HoldsNow k m vs h)
    (there : get_elem? vs id ≡ some v) (works : Works v) where
  abbrev n : ℕ
  n = slot_count k

  -- What the step has to say: that no section can meet the slot, that it is no other view's, and what becomes of the view's hands.
  pub record StateStep : Type 0 where
    pub slot : ℕ
    pub x : ℕ
    pub given : Bool
    pub hands : Hands
    pub small : slot < slot_count k
    pub low : x ≤ 1
    pub off : inv.chart.linked slot ≡ false
    pub even : IsEven (m (Life slot))
    pub clear : (a : ℕ) → last_unlinked slot h ≡ Some a → IsClear vs a 0 greatest_key
    pub others : (j : ℕ) (u : View) → j ≢ id → get_elem? vs j ≡ some u → times slot (slots_of u) ≡ 0

  abbrev pub view_restated : StateStep → View
  view_restated z = record v { hands = z.hands; seen = h ++ used_mark z.given z.slot ∷ [] }

  module _ (z : StateStep) where
    open z use {slot, x, given}

    abbrev m' : Memory
    m' = stored m (State z.slot) z.x

    abbrev hs : List Mark
    hs = h ++ used_mark z.given z.slot ∷ []

    abbrev w : View
    w = view_restated z

    pub unmet : (j : ℕ) (u : View) (section : Section) → get_elem? vs j ≡ some u → u.section ≡ Some section
        → IsHeldBack inv.chart h section.entered slot → ⊥
    unmet j u section e inside back =
        let fits = (inv.seats.sections j u e section inside).key_fits in
        z.clear back.at (last_gone slot h back.at back.gone) j u section e inside back.later (omega arith) (omega arith)

    pub same : SameOutside v w
    same = same_but v v.locks z.hands hs

    -- what is known of the slots in the view's hands, where this one is no spare
    pub state_hands : (to : View) → to.hands.spare ≡ v.hands.spare → to.moving ≡ v.moving → spares_of to ≡ spares_of v
        → times slot (spares_of v) ≡ 0 → ((held : Held) → to.hands.hand ≡ Some held → IsHandKnown m' held)
        → AreHandsKnown m' to
    state_hands to spare moving spares none hand = let i = inv.slots.hands id v there in record {
      hand = hand;
      spare = λ held is. held_beside m m' slot (stores_in m slot (State slot) x refl) held
          (λ e. (let a = spare_among v held (sym spare ∙ is) in let b = ap (λ y. times y (spares_of v)) e in omega arith))
          (i.spare held (sym spare ∙ is));
      copy = λ move is.
          (let on = (inv.tree.moves.each id v there move (sym moving ∙ is)).copy_linked in
          hand_beside m m' slot (stores_in m slot (State slot) x refl) move.copy
          (λ e. (let q : true ≡ false = sym on ∙ ap inv.chart.linked e ∙ z.off in absurd (cc))) (i.copy move (sym moving ∙ is)));
      spares = λ t has. i.spares t (subst (λ l. 1 ≤ times t l) spares has);
    }

    -- and which slots are the view's afterwards
    pub record RestatedHands : Type 0 where
      pub unraised : (t : ℕ) → IsUnraised v t → (t ≢ z.slot) × IsUnraised w t
      pub role : flag (x == 0) + times slot (slots_of w) ≡ flag (m (State slot) == 0) + times slot (slots_of v)
      pub roles : (t : ℕ) → t ≢ slot → times t (slots_of w) ≡ times t (slots_of v)
      pub few : HasFewSlots k.room w
      pub known : AreHandsKnown m' w
      pub retired : (y : Retired) → IsIn (retired_of w) y → (y.slot ≢ slot) × IsIn (retired_of v) y
      pub kept : (y : Retired) → IsIn (retired_of v) y → y.slot ≢ slot → IsIn (retired_of w) y
      pub came : (y : Retired) → IsIn w.hands.retired y → IsIn v.hands.retired y
      pub counted : flag w.hands.reserved + flag w.hands.owes + flag (m (State slot) == 0)
          ≡ flag v.hands.reserved + flag v.hands.owes + flag (x == 0)
      pub raised : flag w.hands.reserved + unraised_of w ≤ flag v.hands.reserved + unraised_of v

    module _ (c : RestatedHands) where
      abbrev pub step : OffStep
      step = record {
        who = record { k = k; m = m; vs = vs; h = h; id = id; v = v; inv = inv; there = there; works = works };
        m' = stored m (State z.slot) z.x;
        hs = h ++ used_mark z.given z.slot ∷ [];
        w = view_restated z;
        s = z.slot;
        stores = stores_in m z.slot (State z.slot) z.x refl;
        tag = λ t b. refl;
        grows = omega arith;
        fresh = inl z.even;
        links = λ t p gone b. refl;
        below = z.small;
        off = z.off;
        unmet = unmet;
        others = z.others;
        view = same;
        few_locks = λ i. record { once = i.once; few = i.few; outside = i.outside };
        lock_back = λ t l is. (l, is, same_lock (stored m (State z.slot) z.x) z.slot t l);
        lock_forth = λ t l is. (l, is, same_lock (stored m (State z.slot) z.x) z.slot t l);
        unraised = λ t lock y. c.unraised t y;
        marks = used_marks z.given z.slot h;
      }

      now : m' (State slot) ≡ x
      now = stored_here m (State slot) x

      pub restated : IsKept k m h m' (set vs id w) hs
      restated = record {
        invariant = off_law step (record {
          role = (let a = ap (λ y. flag (y == 0)) now in let b = c.role in omega arith);
          roles = c.roles;
          low = subst (λ y. y ≤ 1) (sym now) z.low;
          even = λ _. z.even;
          few = c.few;
          hands = c.known;
          retired = λ j y e. (let q = c.retired y (j, e) in let o = q.1 in
              retired_away step y q.0 (inv.slots.retired id v there o.0 y o.1));
          unlinked = λ t p gone y. record {
            retired = y.retired;
            has = c.kept y.retired y.has (λ e. (used_back given slot h t p gone).0 (sym y.slot ∙ e));
            slot = y.slot;
          };
        }) (outer_marked k m m' vs h id v w inv there works (stores_in m slot (State slot) x refl).beside same (used_mark given slot)
            (used_plain given slot h v.allowance.place) (used_new given slot h k.places) refl)
            (counts_by k.tickets m m' n inv.chart inv.chart vs id v w h hs there (record {
              free = (let a = sum_one_other (λ t. flag (m (State t) == 0)) (λ t. flag (m' (State t) == 0)) slot n z.small
                  (λ t ne. ap (λ y. flag (y == 0)) ((stores_in m slot (State slot) x refl).away t (State t) ne refl)) in
                  let b = ap (λ y. flag (y == 0)) now in let d = c.counted in omega arith);
              clock = (let a = ap length (used_updates given slot h) in omega arith);
              generations = (let a = c.raised in omega arith);
              tags = omega arith;
              turns = omega arith;
              pairs = (let a = ap (λ us. finite.len (map_of us)) (used_updates given slot h) in omega arith);
              olds = refl;
            }) inv.counts)
            (grace_used k m vs h id v w inv there same (λ y has. (y, c.came y has, refl, refl)) given slot z.clear);
        past = record {
          lives = λ t. omega arith;
          tags = λ t b. omega arith;
          content = λ t f gone odd content. (let a = content_kept t f content in a);
        };
      }
        where
          content_kept : (t : ℕ) (f : Field) → IsContent t f → m' f ≡ m f
          content_kept t f content = stored_else m (State slot) f x (λ e. subst (IsContent t) (sym e) content)

-- A slot goes from the free ones into a hand, or back: it is seized, and a slot in hand is freed.

module _ (k : Shape) (m : Memory) (vs : List View) (h : List Mark) (id : ℕ) (v : View) (inv : HoldsNow k m vs h)
    (there : get_elem? vs id ≡ some v) (works : Works v) (slot : ℕ) (small : slot < slot_count k) where
  off_by : flag (inv.chart.linked slot) ≡ 0 → inv.chart.linked slot ≡ false
  off_by none = ⊎_elim (λ (on : inv.chart.linked slot ≡ true). absurd (let f = ap flag on in omega arith)) (λ off. off)
      (bool_cases (inv.chart.linked slot))

  -- of a slot that isn't unlinked by the marks
  clear_by : gone_at slot h ≡ None → (a : ℕ) → last_unlinked slot h ≡ Some a → IsClear vs a 0 greatest_key
  clear_by none a last = inv.grace.clean slot a none last

  -- a free slot is seized
  module _ (reserved : v.hands.reserved ≡ true) (free : m (State slot) ≡ 0) where
    once : (flag (inv.chart.linked slot) ≡ 0) × (total (λ (u : View). times slot (slots_of u)) vs ≡ 0)
    once = let a = inv.slots.roles.once slot small in let f : flag (m (State slot) == 0) ≡ 1 = ap flag (eq-eqb (m (State slot)) 0 free) in
        (omega arith, omega arith)

    nobody : (j : ℕ) (u : View) → get_elem? vs j ≡ some u → times slot (slots_of u) ≡ 0
    nobody j u e = let a = once.1 in let p = total_part (λ (z : View). times slot (slots_of z)) vs j u e in omega arith

    not_unlinked : gone_at slot h ≡ None
    not_unlinked = cases (gone_at slot h) refl
      where
        cases : (o : Option ℕ) → gone_at slot h ≡ o → o ≡ None
        cases None e = refl
        cases (Some p) e =
            let r = inv.slots.unlinked slot p e in
            let has = subst (λ z. 1 ≤ times z (slots_of r.view)) r.has.slot (retired_own r.view r.has.retired r.has.has) in
            let none = nobody r.id r.view r.there in
            absurd (omega arith)

    no_retired : (y : Retired) → IsIn (retired_of v) y → y.slot ≢ slot
    no_retired y has same = let none = nobody id v there in let one = retired_own v y has in let a = ap (λ z. times z (slots_of v)) same in
        omega arith

    abbrev seizing : StateStep k m vs h id v inv there works
    seizing = record {
      slot = slot;
      x = 1;
      given = true;
      hands = record v.hands { reserved = false; hand = Some (seized slot) };
      small = small;
      low = omega arith;
      off = off_by once.0;
      even = inv.slots.free slot small free;
      clear = clear_by not_unlinked;
      others = λ j u ne e. nobody j u e;
    }

    seized_known : IsHeldKnown (stored m (State slot) 1) (seized slot)
    seized_known f number known = ⊎_elim
        (λ (q : (State slot ≡ f) × (1 ≡ number)). (
          subst (IsOwnField slot) q.0 refl,
          ap (stored m (State slot) 1) (sym q.0) ∙ stored_here m (State slot) 1 ∙ q.1,
        ))
        (λ (q : None ≡ Some number). absurd (cc)) (known_more [] (State slot) f 1 number true known)

    pub seizes : IsKept k m h (stored m (State slot) 1)
        (set vs id (record v { hands = record v.hands { reserved = false; hand = Some (seized slot) }; seen = h ++ Given slot ∷ [] }))
        (h ++ Given slot ∷ [])
    seizes =
        let few = inv.slots.few id v there in
        let empty_hand = few.one reserved in
        let w : View = record v { hands = record v.hands { reserved = false; hand = Some (seized slot) }; seen = h ++ Given slot ∷ [] } in
        let none = nobody id v there in
        restated k m vs h id v inv there works seizing (record {
          unraised = λ t y. (let has = in_first v.hands.retired (joined_retired v.allowance.joined) y.retired y.has in
              ((λ e. no_retired y.retired has (y.slot ∙ e)), y));
          role = (let f : flag (m (State slot) == 0) ≡ 1 = ap flag (eq-eqb (m (State slot)) 0 free) in let a = slots_count w slot in
              let b = slots_count v slot in let c = times_here slot [] in let d = ap (λ o. times slot (held_list o)) empty_hand in
              omega arith);
          roles = λ t ne. (let a = slots_count w t in let b = slots_count v t in let c = times_other t slot [] (λ e. ne (sym e)) in
              let d = ap (λ o. times t (held_list o)) empty_hand in omega arith);
          few = record {
            one = λ e. absurd (let q : false ≡ true = e in cc);
            few = few.few;
            room = few.room;
            joined = few.joined;
            next_spare = few.next_spare;
          };
          known = state_hands k m vs h id v inv there works seizing w refl refl refl (let a = slots_count v slot in omega arith)
              (λ held is. (let e : seized slot ≡ held = cc in
              subst (IsHandKnown (stored m (State slot) 1)) e (record { known = seized_known; even = inv.slots.free slot small free })));
          retired = λ y has. (no_retired y has, has);
          kept = λ y has _. has;
          came = λ y has. has;
          counted = (let f : flag (m (State slot) == 0) ≡ 1 = ap flag (eq-eqb (m (State slot)) 0 free) in let a = ap flag reserved in
              omega arith);
          raised = (let a = ap flag reserved in omega arith);
        })

  -- a slot in hand whose generation was raised is freed
  module _ (held : Held) (needs : NeedsFreeInHand v held slot) where
    in_hand : times slot (held_list v.hands.hand) ≡ 1
    in_hand =
        let a = ap (λ o. times slot (held_list o)) needs.in_hand.0 in
        let b = ap (λ z. times slot (z ∷ [])) needs.in_hand.1 in
        let c = times_here slot [] in
        omega arith

    mine_once : (flag (m (State slot) == 0) ≡ 0) × (flag (inv.chart.linked slot) ≡ 0) × (times slot (slots_of v) ≡ 1)
    mine_once =
        let a = inv.slots.roles.once slot small in
        let p = total_part (λ (z : View). times slot (slots_of z)) vs id v there in
        let b = slots_count v slot in
        let c = in_hand in
        (omega arith, omega arith, omega arith)

    not_retired : (y : Retired) → IsIn (retired_of v) y → y.slot ≢ slot
    not_retired y has same = let one = retired_there v y has in
        let a = ap (λ z. times z (map (λ (r : Retired). r.slot) (retired_of v))) same in let b = slots_count v slot in
        let c = mine_once.2 in let d = in_hand in omega arith

    abbrev freeing : StateStep k m vs h id v inv there works
    freeing = record {
      slot = slot;
      x = 0;
      given = false;
      hands = record v.hands { owes = true; hand = None };
      small = small;
      low = omega arith;
      off = off_by mine_once.1;
      even = subst (λ z. IsEven (m (Life z))) needs.in_hand.1 ((inv.slots.hands id v there).hand held needs.in_hand.0).even;
      clear = clear_by (not_gone m (slot_count k) inv.chart vs h inv.slots id v there slot (let a = in_hand in omega arith));
      others = no_others m (slot_count k) inv.chart vs h inv.slots id v there slot (let a = mine_once.2 in omega arith);
    }

    pub frees_hand : IsKept k m h (stored m (State slot) 0) (set vs id (after_free_in_hand v slot h)) (h ++ Freed slot ∷ [])
    frees_hand =
        let few = inv.slots.few id v there in
        let w : View = after_free_in_hand v slot h in
        restated k m vs h id v inv there works freeing (record {
          unraised = λ t y. (let has = in_first v.hands.retired (joined_retired v.allowance.joined) y.retired y.has in
              ((λ e. not_retired y.retired has (y.slot ∙ e)), y));
          role = (let a = slots_count w slot in let b = slots_count v slot in let c = mine_once.0 in let d = in_hand in omega arith);
          roles = λ t ne. (let a = slots_count w t in let b = slots_count v t in let c = ap (λ o. times t (held_list o)) needs.in_hand.0 in
              let d = times_other t held.slot [] (λ e. ne (sym e ∙ needs.in_hand.1)) in omega arith);
          few = record {
            one = λ e. refl;
            few = few.few;
            room = few.room;
            joined = few.joined;
            next_spare = few.next_spare;
          };
          known = state_hands k m vs h id v inv there works freeing w refl refl refl
              (let a = slots_count v slot in let b = mine_once.2 in let c = in_hand in omega arith)
              (λ other none. absurd (let q : None ≡ Some other = none in cc));
          retired = λ y has. (not_retired y has, has);
          kept = λ y has _. has;
          came = λ y has. has;
          counted = (let a = ap flag needs.paid in let b = mine_once.0 in omega arith);
          raised = omega arith;
        })

-- A retired slot is given back: it was waited for, and becomes a free one.

module _ (k : Shape) (m : Memory) (vs : List View) (h : List Mark) (id : ℕ) (v : View) (inv : HoldsNow k m vs h)
    (there : get_elem? vs id ≡ some v) (works : Works v) (slot : ℕ) (small : slot < slot_count k)
    (place : ℕ) (r : Retired) (needs : NeedsFreeRetired v place r slot) where
  abbrev freed_view : View
  freed_view = after_free_retired v slot h

  abbrev joined : List Retired
  joined = joined_retired v.allowance.joined

  mine : IsIn v.hands.retired r
  mine = (place, needs.retired.0)

  is : IsRetired m h r
  is = let whole = in_first v.hands.retired joined r mine in inv.slots.retired id v there whole.0 r whole.1

  gone_then : gone_at slot h ≡ Some r.unlinked
  gone_then = ap (λ s. gone_at s h) (sym needs.retired.1) ∙ is.unlinked

  -- the slot's one role is that of this retired one
  record StandsOnce : Type 0 where
    pub not_free : flag (m (State slot) == 0) ≡ 0
    pub unlinked : flag (inv.chart.linked slot) ≡ 0
    pub not_held : times slot (held_list v.hands.hand) ≡ 0
    pub not_spare : times slot (spares_of v) ≡ 0
    pub retired : times slot (slots_in v.hands.retired) ≡ 1
    pub not_joined : times slot (slots_in joined) ≡ 0

  stands_once : StandsOnce
  stands_once =
      let a = inv.slots.roles.once slot small in
      let p = total_part (λ (u : View). times slot (slots_of u)) vs id v there in
      let b = slots_count v slot in
      let c = retired_count v slot in
      let d = subst (λ s. 1 ≤ times s (slots_in v.hands.retired)) needs.retired.1
      (times_in (λ (x : Retired). x.slot) v.hands.retired r mine) in
      record {
        not_free = omega arith;
        unlinked = omega arith;
        not_held = omega arith;
        not_spare = omega arith;
        retired = omega arith;
        not_joined = omega arith;
      }

  among : 1 ≤ times slot (slots_of v)
  among = let a = slots_count v slot in let b = retired_count v slot in let c = stands_once.retired in omega arith

  clear : (a : ℕ) → last_unlinked slot h ≡ Some a → IsClear vs a 0 greatest_key
  clear a last =
      let q : Some r.unlinked ≡ Some a = sym (last_gone slot h r.unlinked gone_then) ∙ last in
      let same : r.unlinked ≡ a = cc in
      subst (λ x. IsClear vs x 0 greatest_key) same
      ((inv.grace.retired id v there place r needs.retired.0).clear (is.after_wait needs.raised))

  -- a retired slot whose generation wasn't raised is another
  unraised_else : (x : Retired) → IsIn v.hands.retired x → x.raised ≡ false → x.slot ≢ slot
  unraised_else x has unraised same =
      let once = stands_once.retired in
      let q : x ≡ r = one_in slot v.hands.retired x r (omega arith) has mine same needs.retired.1 in
      absurd (let f : false ≡ true = sym unraised ∙ ap (λ (y : Retired). y.raised) q ∙ needs.raised in cc)

  joined_else : (x : Retired) → IsIn joined x → x.slot ≢ slot
  joined_else x has same = let a = times_in (λ (y : Retired). y.slot) joined x has in let b = ap (λ s. times s (slots_in joined)) same in
      let c = stands_once.not_joined in absurd (omega arith)

  abbrev freeing_retired : StateStep k m vs h id v inv there works
  freeing_retired = record {
    slot = slot;
    x = 0;
    given = false;
    hands = record v.hands { owes = true; retired = without_retired slot v.hands.retired };
    small = small;
    low = omega arith;
    off = own_off m (slot_count k) inv.chart vs h inv.slots id v there slot among;
    even = subst (λ s. IsEven (m (Life s))) needs.retired.1 (is.unmarked needs.raised);
    clear = clear;
    others = no_others m (slot_count k) inv.chart vs h inv.slots id v there slot among;
  }

  pub frees_retired : IsKept k m h (stored m (State slot) 0) (set vs id freed_view) (h ++ Freed slot ∷ [])
  frees_retired = restated k m vs h id v inv there works freeing_retired (record {
    unraised = λ t y. (let else = unraised_else y.retired y.has y.unraised in (
      (λ e. else (y.slot ∙ e)),
      record {
        retired = y.retired;
        has = without_in slot v.hands.retired y.retired y.has else;
        slot = y.slot;
        unraised = y.unraised;
      },
    ));
    role = (let a = slots_count freed_view slot in let b = slots_count v slot in let c = retired_count freed_view slot in
        let d = retired_count v slot in
        let e = without_none slot v.hands.retired in
        omega (
          arith,
          stands_once.not_free,
          stands_once.not_held,
          stands_once.not_spare,
          stands_once.retired,
          stands_once.not_joined,
        ));
    roles = λ t ne. (let a = slots_count freed_view t in let b = slots_count v t in let c = retired_count freed_view t in
        let d = retired_count v t in
        let e = without_else slot t ne v.hands.retired in omega arith);
    few = (let f = inv.slots.few id v there in let l = without_length slot v.hands.retired in record {
      one = f.one;
      few = (let a = f.few in omega arith);
      room = λ move has. (let a = f.room move has in omega arith);
      joined = f.joined;
      next_spare = λ has none. (let x = f.next_spare has none in record {
        retired = x.retired;
        has = without_in slot v.hands.retired x.retired x.has (unraised_else x.retired x.has x.unraised);
        unraised = x.unraised;
      });
    });
    known = state_hands k m vs h id v inv there works freeing_retired freed_view refl refl refl stands_once.not_spare
        (λ held is_held. hand_beside m (stored m (State slot) 0) slot (stores_in m slot (State slot) 0 refl) held
        (λ same. (let a = held_there v.hands.hand held is_held in let b = ap (λ s. times s (held_list v.hands.hand)) same in
        let c = stands_once.not_held in omega arith)) ((inv.slots.hands id v there).hand held is_held));
    retired = λ x has. ⊎_elim (λ (o : IsIn (without_retired slot v.hands.retired) x). (let q = in_without slot v.hands.retired x o in
        (q.1, in_first v.hands.retired joined x q.0)))
        (λ (o : IsIn joined x). (joined_else x o, in_second v.hands.retired joined x o))
        (in_append (without_retired slot v.hands.retired) joined x has);
    kept = λ x has ne. ⊎_elim (λ (o : IsIn v.hands.retired x). in_first (without_retired slot v.hands.retired) joined x
        (without_in slot v.hands.retired x o ne)) (λ (o : IsIn joined x). in_second (without_retired slot v.hands.retired) joined x o)
        (in_append v.hands.retired joined x has);
    came = λ x has. (in_without slot v.hands.retired x has).0;
    counted = (let a = ap flag needs.paid in let b = stands_once.not_free in omega arith);
    raised = (let a = unraised_append (without_retired slot v.hands.retired) joined in let b = unraised_append v.hands.retired joined in
        let c = without_raised slot v.hands.retired in omega arith);
  })
