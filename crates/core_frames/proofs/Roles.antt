-- Who has which place, which lock and which slot; lists of retired slots; and what a section found out, when it is left.
use Rattle.std.proofs.Common.{◌≡◌, ◌≢◌, ℕ, ◌+◌, ◌<◌, ◌≤◌, nat_lt, Bool, true, false, cond, List, [], ◌∷◌, ◌++◌, length, map, Some, None, refl, sym, ap, ◌∙◌, arith, eq-eqb, ne_eqb, ◌-◌, Option, subst, ⊎_elim, ◌==◌, zero, suc, ◌⊎◌, inl, inr, ◌^◌}
use Rattle.std.proofs.lemmas.Bool.{ltb-true, cases_eq, lt-ltb, le-ltb}
use mathlib.Core.Logic.{dite}
use mathlib.Core.Option.{some, some-injective, some-ne-none}
use native.Mathlib.Decide.{ℕ_discrete, dec_le}
use lib.ListN.{get_elem?}
use Rattle.prcu_marks.specs.declared.mark.Mark.{Mark}
use Rattle.prcu_marks.specs.declared.mark.Mark.TheVariants.{Entered, Left as LeftMark}
use Rattle.prcu_marks.specs.Marks.{open_at, entered_at, gone_at, updates_of}
use Rattle.prcu_marks.proofs.Marks.{open_at-snoc, entered_at-append}
use Rattle.core_state.specs.declared.view.Spent.{Spent}
use Rattle.core_state.specs.declared.view.Hands.{Hands}
use Rattle.core_state.specs.declared.view.View.{View}
use Rattle.list_laws.specs.Counts.{times, numbers_from, total, IsIn}
use Rattle.core_state.specs.Views.{Works, places_of, IsQuiet, IsUnused, unraised_among, held_list, joined_spares, spares_of, joined_retired, retired_of, slots_of, lock_of, HasLock, known_in}
use Rattle.core_state.specs.Steps.{new_view, spent_view}
use Rattle.core_state.specs.Parts.{ArePlaced, SlotParts, state_slot, StandsWell, GoesTo, IsReading, HasStood, IsServed, IsAsRecorded, IsRecord, HasRetired}
use Rattle.list_laws.proofs.Lists.{total_part, total_two, times_append, from_times, at_most_one, times_here, times_in, in_first, times_other, somewhere_at}
use Rattle.core_state.specs.declared.shape.Shape.{Shape}
use Rattle.core_state.specs.declared.view.Held.{Held}
use Rattle.core_state.specs.declared.view.Retired.{Retired}
use Rattle.core_state.specs.declared.view.Section.{Section}
use Rattle.core_state.specs.Memory.{flag, Memory, slot_count, step_side, IsOdd}
use Rattle.core_state.specs.Tree.{Chart, IsHeldBack, OnRightLeft, first, further, Belongs, IsShaped, IsInRange, MayPass, IsOldFor, bottom, more, Place, in_range, at_old, at_end, on, Walks, at_linked, at_stop, at_live}
use Rattle.core_state.specs.Invariant.{HoldsNow}
use Rattle.core_frames.proofs.Charts.{bool_cases, after-node, not_root}
use Rattle.core_state.specs.declared.words.Field.TheVariants.{State, Life, Key, Link}
use Rattle.core_frames.specs.Laws.{LocksAreOnes, SlotsAreOnes}
use Rattle.core_state.specs.Links.{change_retired, without_retired}
use Rattle.prcu_marks.specs.declared.mark.Side.{Side}
use Rattle.prcu_marks.specs.declared.mark.Side.TheVariants.{Left, Right}
use Rattle.core_state.specs.declared.view.Listing.{Listing}
use Rattle.core_state.specs.declared.view.Reading.{Reading}
use Rattle.core_state.specs.declared.view.SearchState.TheVariants.{Missed}
use Rattle.prcu_model.specs.Dictionary.{WasSaid}

-- What the parts on seats give: places are apart, and what a mark of one place leaves to the others.

-- a place between the first and the last of a view is one of its places
pub own_place : (v : View) (p : ℕ) → v.allowance.place ≤ p → p < v.allowance.place + v.allowance.places → 1 ≤ times p (places_of v)
own_place v p low high =
    let a = times_append p (numbers_from v.allowance.place v.allowance.places) (map (λ (s : Spent). s.place) v.allowance.joined) in
    let b = from_times p v.allowance.place v.allowance.places low high in
    omega arith

pub works_there : (v : View) → Works v → 1 ≤ times v.allowance.place (places_of v)
works_there v works = own_place v v.allowance.place (omega arith) (omega arith)

pub unused_there : (v : View) (p : ℕ) → IsUnused v p → 1 ≤ times p (places_of v)
unused_there v p i = let low = i.0 in own_place v p (omega arith) i.1

some_is : (b : Bool) (n : ℕ) → n ≡ cond b 1 0 → 1 ≤ n → b ≡ true
some_is true n e has = refl
some_is false n e has = absurd (omega arith)

-- a view that works at a place for the first time is quiet
pub new_view_quiet : (place places tickets : ℕ) (seen : List Mark) → IsQuiet (new_view place places tickets seen)
new_view_quiet place places tickets seen = record {
  section = refl;
  locks = refl;
  reserved = refl;
  hand = refl;
  moving = refl;
  owes = refl;
  commit = refl;
  raised = refl;
}

-- what a quiet view is, for another view with the same fields
pub quiet_as : (v w : View) → w.section ≡ v.section → w.locks ≡ v.locks → w.hands ≡ v.hands → w.moving ≡ v.moving → w.commit ≡ v.commit
    → IsQuiet v → IsQuiet w
quiet_as v w section locks hands moving commit q = record {
  section = section ∙ q.section;
  locks = locks ∙ q.locks;
  reserved = ap (λ (z : Hands). z.reserved) hands ∙ q.reserved;
  hand = ap (λ (z : Hands). z.hand) hands ∙ q.hand;
  moving = moving ∙ q.moving;
  owes = ap (λ (z : Hands). z.owes) hands ∙ q.owes;
  commit = commit ∙ q.commit;
  raised = ap (λ (z : Hands). unraised_among z.retired) hands ∙ q.raised ∙ ap (λ (z : Hands). length z.retired) (sym hands);
}

module _ (places : ℕ) (vs : List View) (placed : ArePlaced places vs) where
  -- no two views answer for one place
  pub places_apart : (i j p : ℕ) (v w : View) → get_elem? vs i ≡ some v → get_elem? vs j ≡ some w → 1 ≤ times p (places_of v)
      → 1 ≤ times p (places_of w) → i ≡ j
  places_apart i j p v w ei ej a b = dite (ℕ_discrete i j) (λ e. e) (λ ne.
      let two = total_two (λ (u : View). times p (places_of u)) vs i j v w ei ej ne in
      let one = at_most_one (nat_lt p places) (total (λ (u : View). times p (places_of u)) vs) (placed p) in
      absurd (omega arith))

  -- a view's place is one of the table's
  pub place_within : (i p : ℕ) (v : View) → get_elem? vs i ≡ some v → 1 ≤ times p (places_of v) → p < places
  place_within i p v e has =
      let part = total_part (λ (u : View). times p (places_of u)) vs i v e in
      ltb-true p places (some_is (nat_lt p places) (total (λ (u : View). times p (places_of u)) vs) (placed p) (omega arith))

module _ (p : ℕ) (h : List Mark) where
  pub open_entered : (c x : ℕ) → open_at p (h ++ Entered p c x ∷ []) ≡ Some (record { count = c; key = x; at = length h })
  open_entered c x = open_at-snoc p h (Entered p c x)
      ∙ ap (λ b. cond b (Some (record { count = c; key = x; at = length h })) (open_at p h)) (eq-eqb p p refl)

  pub open_left : (c : ℕ) → open_at p (h ++ LeftMark p c ∷ []) ≡ None
  open_left c = open_at-snoc p h (LeftMark p c) ∙ ap (λ b. cond b None (open_at p h)) (eq-eqb p p refl)

  pub open_entered_other : (q c x : ℕ) → q ≢ p → open_at q (h ++ Entered p c x ∷ []) ≡ open_at q h
  open_entered_other q c x ne = open_at-snoc q h (Entered p c x)
      ∙ ap (λ b. cond b (Some (record { count = c; key = x; at = length h })) (open_at q h)) (ne_eqb p q (λ e. ne (sym e)))

  pub open_left_other : (q c : ℕ) → q ≢ p → open_at q (h ++ LeftMark p c ∷ []) ≡ open_at q h
  open_left_other q c ne = open_at-snoc q h (LeftMark p c) ∙ ap (λ b. cond b None (open_at q h)) (ne_eqb p q (λ e. ne (sym e)))

  pub entered_here : (c x : ℕ) → entered_at p (h ++ Entered p c x ∷ []) ≡ entered_at p h + 1
  entered_here c x = let a = entered_at-append p h (Entered p c x ∷ []) in
      let b : entered_at p (Entered p c x ∷ []) ≡ 1 + 0 = ap (λ t. cond t 1 0 + 0) (eq-eqb p p refl) in omega arith

  pub entered_left : (q c : ℕ) → entered_at q (h ++ LeftMark p c ∷ []) ≡ entered_at q h
  entered_left q c = let a = entered_at-append q h (LeftMark p c ∷ []) in let b : entered_at q (LeftMark p c ∷ []) ≡ 0 = refl in omega arith

-- Slots in one role: what is in hand, a spare or retired isn't linked; and a slot in hand, a spare, or a retired one that was waited
-- for is met by no open section.

-- how often a slot is the view's
pub slots_count : (v : View) (s : ℕ) → times s (slots_of v)
    ≡ times s (held_list v.hands.hand) + times s (spares_of v) + times s (map (λ (r : Retired). r.slot) (retired_of v))
slots_count v s =
    let a = times_append s (held_list v.hands.hand) (spares_of v ++ map (λ (r : Retired). r.slot) (retired_of v)) in
    let b = times_append s (spares_of v) (map (λ (r : Retired). r.slot) (retired_of v)) in
    omega arith

pub spares_count : (v : View) (s : ℕ) → times s (spares_of v)
    ≡ times s (held_list v.hands.spare) + times s
    (numbers_from (v.allowance.place + 2) (v.allowance.places - 1) ++ joined_spares v.allowance.joined)
spares_count v s = times_append s (held_list v.hands.spare)
    (numbers_from (v.allowance.place + 2) (v.allowance.places - 1) ++ joined_spares v.allowance.joined)

pub map_append : (xs ys : List Retired) → map (λ (r : Retired). r.slot) (xs ++ ys) ≡ map (λ (r : Retired). r.slot) xs
    ++ map (λ (r : Retired). r.slot) ys
map_append [] ys = refl
map_append (x ∷ xs) ys = ap (λ zs. x.slot ∷ zs) (map_append xs ys)

pub retired_count : (v : View) (s : ℕ) → times s (map (λ (r : Retired). r.slot) (retired_of v))
    ≡ times s (map (λ (r : Retired). r.slot) v.hands.retired) + times s (map (λ (r : Retired). r.slot) (joined_retired v.allowance.joined))
retired_count v s = ap (times s) (map_append v.hands.retired (joined_retired v.allowance.joined))
    ∙ times_append s (map (λ (r : Retired). r.slot) v.hands.retired) (map (λ (r : Retired). r.slot) (joined_retired v.allowance.joined))

pub held_there : (o : Option Held) (held : Held) → o ≡ Some held → 1 ≤ times held.slot (held_list o)
held_there o held e = subst (λ z. 1 ≤ times held.slot (held_list z)) (sym e) (let t = times_here held.slot [] in omega arith)

-- what is in hand, a spare, or retired is among the slots of its view
module _ (v : View) where
  pub retired_there : (r : Retired) → IsIn (retired_of v) r → 1 ≤ times r.slot (map (λ (x : Retired). x.slot) (retired_of v))
  retired_there r has = times_in (λ (x : Retired). x.slot) (retired_of v) r has

  pub retired_own : (r : Retired) → IsIn (retired_of v) r → 1 ≤ times r.slot (slots_of v)
  retired_own r has = let a = retired_there r has in let b = slots_count v r.slot in omega arith

  pub hand_own : (held : Held) → v.hands.hand ≡ Some held → 1 ≤ times held.slot (slots_of v)
  hand_own held is = let a = held_there v.hands.hand held is in let b = slots_count v held.slot in omega arith

  pub spare_among : (held : Held) → v.hands.spare ≡ Some held → 1 ≤ times held.slot (spares_of v)
  spare_among held is = let a = held_there v.hands.spare held is in let b = spares_count v held.slot in omega arith

  pub spare_own : (held : Held) → v.hands.spare ≡ Some held → 1 ≤ times held.slot (slots_of v)
  spare_own held is = let a = spare_among held is in let b = slots_count v held.slot in omega arith

module _ {room : ℕ} (m : Memory) (n : ℕ) (g : Chart) (vs : List View) (h : List Mark) (t : SlotParts room m n g vs h) where
  below : (s : ℕ) → 1 ≤ total (λ (u : View). times s (slots_of u)) vs → s < n
  below s some_role = dite (dec_le n s) (λ far. absurd (let e = t.roles.beyond s far in omega arith)) (λ near. omega arith)

  off : (s : ℕ) → 1 ≤ total (λ (u : View). times s (slots_of u)) vs → g.linked s ≡ false
  off s some_role = ⊎_elim (λ (is_linked : g.linked s ≡ true). absurd
      (let e = t.roles.once s (below s some_role) in let f = ap flag is_linked in omega arith)) (λ e. e) (bool_cases (g.linked s))

  module _ (id : ℕ) (v : View) (there : get_elem? vs id ≡ some v) where
    -- a slot of a view is one of the table's, isn't linked, and stands once among its slots
    pub own_below : (s : ℕ) → 1 ≤ times s (slots_of v) → s < n
    own_below s has = below s (let p = total_part (λ (u : View). times s (slots_of u)) vs id v there in omega arith)

    pub own_off : (s : ℕ) → 1 ≤ times s (slots_of v) → g.linked s ≡ false
    own_off s has = off s (let p = total_part (λ (u : View). times s (slots_of u)) vs id v there in omega arith)

    pub own_once : (s : ℕ) → times s (slots_of v) ≤ 1
    own_once s = dite (dec_le 1 (times s (slots_of v)))
        (λ has. (let p = total_part (λ (u : View). times s (slots_of u)) vs id v there in let e = t.roles.once s (own_below s has) in
        omega arith))
        (λ none. omega arith)

    pub linked_none : (s : ℕ) → g.linked s ≡ true → times s (slots_of v) ≡ 0
    linked_none s is_linked = dite (dec_le 1 (times s (slots_of v)))
        (λ has. (let o = own_off s has in let q : true ≡ false = sym is_linked ∙ o in absurd (cc))) (λ none. omega arith)

    -- two views have no slot in common
    pub own_apart : (s j : ℕ) (u : View) → get_elem? vs j ≡ some u → 1 ≤ times s (slots_of v) → 1 ≤ times s (slots_of u) → j ≡ id
    own_apart s j u e has other = dite (ℕ_discrete j id) (λ same. same) (λ ne.
        let two = total_two (λ (z : View). times s (slots_of z)) vs j id u v e there ne in
        let one = t.roles.once s (own_below s has) in
        absurd (omega arith))

  -- an unlinked slot is retired
  pub gone_off : (s p : ℕ) → gone_at s h ≡ Some p → g.linked s ≡ false
  gone_off s p gone = let r = t.unlinked s p gone in
      subst (λ z. g.linked z ≡ false) r.has.slot
      (own_off r.id r.view r.there r.has.retired.slot (retired_own r.view r.has.retired r.has.has))

  module _ (id : ℕ) (v : View) (there : get_elem? vs id ≡ some v) where
    -- so a slot in hand or a spare isn't unlinked, by the marks
    pub not_gone : (s : ℕ) → 1 ≤ times s (held_list v.hands.hand) + times s (spares_of v) → gone_at s h ≡ None
    not_gone s has = cases (gone_at s h) refl
      where
        cases : (o : Option ℕ) → gone_at s h ≡ o → o ≡ None
        cases None e = refl
        cases (Some p) e =
            let r = t.unlinked s p e in
            let c = slots_count v s in
            let mine : 1 ≤ times s (slots_of v) = omega arith in
            let theirs : 1 ≤ times s (slots_of r.view) =
            subst (λ z. 1 ≤ times z (slots_of r.view)) r.has.slot (retired_own r.view r.has.retired r.has.has) in
            let own : HasRetired v s = somewhere_at vs id v there r (own_apart id v there s r.id r.view r.there mine theirs) in
            let again : 1 ≤ times s (map (λ (x : Retired). x.slot) (retired_of v)) =
            subst (λ z. 1 ≤ times z (map (λ (x : Retired). x.slot) (retired_of v))) own.slot (retired_there v own.retired own.has) in
            let once = own_once id v there s in
            absurd (omega arith)

    -- and no open section can meet it
    pub held_unmet : (s entered : ℕ) → 1 ≤ times s (held_list v.hands.hand) + times s (spares_of v) → IsHeldBack g h entered s → ⊥
    held_unmet s entered has back = absurd (let e : None ≡ Some back.at = sym (not_gone s has) ∙ back.gone in cc)

-- nor can one meet a retired slot that was waited for
pub waited_unmet : (k : Shape) (m : Memory) (vs : List View) (h : List Mark) (i : HoldsNow k m vs h) (id : ℕ) (v : View)
    → get_elem? vs id ≡ some v → (r : Retired) → IsIn v.hands.retired r → r.waited ≡ true
    → (j : ℕ) (u : View) (section : Section) → get_elem? vs j ≡ some u → u.section ≡ Some section
    → IsHeldBack i.chart h section.entered r.slot → ⊥
waited_unmet k m vs h i id v there r has waited j u section e is back =
    let told = i.grace.retired id v there has.0 r has.1 in
    let whole = in_first v.hands.retired (joined_retired v.allowance.joined) r has in
    let at = (i.slots.retired id v there whole.0 r whole.1).unlinked in
    let same : Some back.at ≡ Some r.unlinked = sym back.gone ∙ at in
    let it : back.at ≡ r.unlinked = cc in
    let later = back.later in
    let fits = (i.seats.sections j u e section is).key_fits in
    told.clear waited j u section e is (omega arith) (omega arith) (omega arith)

-- Who has a lock and who has a slot.

-- who holds a lock works at a place
holder_works : (k : Shape) (m : Memory) (vs : List View) (h : List Mark) → HoldsNow k m vs h → (id slot : ℕ) (v : View)
    → get_elem? vs id ≡ some v → HasLock v slot → Works v
holder_works k m vs h i id slot v there held = dite (dec_le 1 v.allowance.places) (λ some_place. some_place)
    (λ none.
    let spent : v ≡ spent_view = i.seats.spent id v there (omega arith) in
    let e : None ≡ Some held.0 = sym (ap (λ (u : View). lock_of u.locks slot) spent) ∙ held.1 in
    absurd (cc))

pub locks_are_ones : LocksAreOnes
locks_are_ones k m vs h i id slot v there held =
    let mine = (i.locks.locked.held id v there slot held.0 held.1).0 in
    let works = holder_works k m vs h i id slot v there held in
    record {
      named = mine;
      alone = λ j other is theirs.
          let named = (i.locks.locked.held j other is slot theirs.0 theirs.1).0 in
          let same : other.allowance.place ≡ v.allowance.place = omega arith in
          let there_too : 1 ≤ times v.allowance.place (places_of other) =
          subst (λ p. 1 ≤ times p (places_of other)) same (works_there other (holder_works k m vs h i j slot other is theirs)) in
          places_apart k.places vs i.seats.placed j id v.allowance.place other v is there there_too (works_there v works);
    }

pub slots_are_ones : SlotsAreOnes
slots_are_ones k m vs h i id slot v there has =
    let below = own_below m (slot_count k) i.chart vs h i.slots id v there slot has in
    record {
      inside = below;
      taken = λ free.
          let e = i.slots.roles.once slot below in
          let p = total_part (λ (u : View). times slot (slots_of u)) vs id v there in
          let f : flag (m (State slot) == 0) ≡ 1 = ap flag (eq-eqb (m (State slot)) 0 free) in
          absurd (omega arith);
      unlinked = own_off m (slot_count k) i.chart vs h i.slots id v there slot has;
      once = let most = own_once m (slot_count k) i.chart vs h i.slots id v there slot in omega arith;
      alone = λ j other is theirs. own_apart m (slot_count k) i.chart vs h i.slots id v there slot j other is has theirs;
    }

-- Lists of retired slots without one of them, and with one changed.

abbrev pub slots_in : List Retired → List ℕ
slots_in rs = map (λ (r : Retired). r.slot) rs

abbrev pub raise : Retired → Retired
raise r = record r { raised = true }

module _ (s : ℕ) where
  with_here : (x : Retired) (xs : List Retired) → x.slot ≡ s → without_retired s (x ∷ xs) ≡ without_retired s xs
  with_here x xs e = ap (λ b. cond b (without_retired s xs) (x ∷ without_retired s xs)) (eq-eqb x.slot s e)

  with_other : (x : Retired) (xs : List Retired) → x.slot ≢ s → without_retired s (x ∷ xs) ≡ x ∷ without_retired s xs
  with_other x xs ne = ap (λ b. cond b (without_retired s xs) (x ∷ without_retired s xs)) (ne_eqb x.slot s ne)

  pub without_none : (rs : List Retired) → times s (slots_in (without_retired s rs)) ≡ 0
  without_none [] = refl
  without_none (x ∷ xs) = ⊎_elim
      (λ (e : x.slot ≡ s). ap (λ ys. times s (slots_in ys)) (with_here x xs e) ∙ without_none xs)
      (λ ne. (let a = ap (λ ys. times s (slots_in ys)) (with_other x xs ne) in
      let b = times_other s x.slot (slots_in (without_retired s xs)) ne in let c = without_none xs in omega arith))
      (cases_eq x.slot s)

  pub without_else : (t : ℕ) → t ≢ s → (rs : List Retired) → times t (slots_in (without_retired s rs)) ≡ times t (slots_in rs)
  without_else t ne [] = refl
  without_else t ne (x ∷ xs) = ⊎_elim
      (λ (e : x.slot ≡ s). (let a = ap (λ ys. times t (slots_in ys)) (with_here x xs e) in
      let b = times_other t x.slot (slots_in xs) (λ f. ne (sym f ∙ e)) in let c = without_else t ne xs in omega arith))
      (λ other. (let a = ap (λ ys. times t (slots_in ys)) (with_other x xs other) in let c = without_else t ne xs in omega arith))
      (cases_eq x.slot s)

  -- a number of a list that each of its elements may make greater, and none less
  without_less : (f : List Retired → ℕ) → ((x : Retired) (xs : List Retired) → f xs ≤ f (x ∷ xs))
      → ((x : Retired) (xs ys : List Retired) → f ys ≤ f xs → f (x ∷ ys) ≤ f (x ∷ xs)) → (rs : List Retired)
      → f (without_retired s rs) ≤ f rs
  without_less f adds same [] = omega arith
  without_less f adds same (x ∷ xs) = ⊎_elim
      (λ (e : x.slot ≡ s). (let a = ap f (with_here x xs e) in let b = adds x xs in let c = without_less f adds same xs in omega arith))
      (λ ne. (let a = ap f (with_other x xs ne) in let b = same x xs (without_retired s xs) (without_less f adds same xs) in omega arith))
      (cases_eq x.slot s)

  pub without_length : (rs : List Retired) → length (without_retired s rs) ≤ length rs
  without_length = without_less length (λ x xs. omega arith) (λ x xs ys le. omega arith)

  pub in_without : (rs : List Retired) (r : Retired) → IsIn (without_retired s rs) r → IsIn rs r × (r.slot ≢ s)
  in_without [] r has = absurd (some-ne-none r (sym has.1))
  in_without (x ∷ xs) r has = ⊎_elim
      (λ (e : x.slot ≡ s). (let a = in_without xs r (subst (λ ys. IsIn ys r) (with_here x xs e) has) in let p = a.0 in
      ((suc p.0, p.1), a.1)))
      (λ ne. first_or (λ q. in_without xs r q) ne (subst (λ ys. IsIn ys r) (with_other x xs ne) has))
      (cases_eq x.slot s)
    where
      first_or : (IsIn (without_retired s xs) r → IsIn xs r × (r.slot ≢ s)) → x.slot ≢ s → IsIn (x ∷ without_retired s xs) r
          → IsIn (x ∷ xs) r × (r.slot ≢ s)
      first_or again ne (zero, e) = ((0, e), subst (λ (y : Retired). y.slot ≢ s) (some-injective x r e) ne)
      first_or again ne (suc j, e) = let a = again (j, e) in let p = a.0 in ((suc p.0, p.1), a.1)

  pub without_in : (rs : List Retired) (r : Retired) → IsIn rs r → r.slot ≢ s → IsIn (without_retired s rs) r
  without_in [] r has ne = absurd (some-ne-none r (sym has.1))
  without_in (x ∷ xs) r has ne = ⊎_elim
      (λ (e : x.slot ≡ s). subst (λ ys. IsIn ys r) (sym (with_here x xs e)) (rest (λ q. without_in xs r q ne) e has))
      (λ other. subst (λ ys. IsIn ys r) (sym (with_other x xs other)) (both (λ q. without_in xs r q ne) has))
      (cases_eq x.slot s)
    where
      rest : (IsIn xs r → IsIn (without_retired s xs) r) → x.slot ≡ s → IsIn (x ∷ xs) r → IsIn (without_retired s xs) r
      rest again e (zero, f) = absurd (ne (ap (λ (y : Retired). y.slot) (sym (some-injective x r f)) ∙ e))
      rest again e (suc j, f) = again (j, f)

      both : (IsIn xs r → IsIn (without_retired s xs) r) → IsIn (x ∷ xs) r → IsIn (x ∷ without_retired s xs) r
      both again (zero, f) = (0, f)
      both again (suc j, f) = let a = again (j, f) in (suc a.0, a.1)

  without_absent : (rs : List Retired) → times s (slots_in rs) ≡ 0 → without_retired s rs ≡ rs
  without_absent [] none = refl
  without_absent (x ∷ xs) none = ⊎_elim
      (λ (e : x.slot ≡ s). absurd (let a : times s (x.slot ∷ slots_in xs) ≡ 1 + times s (slots_in xs) =
      subst (λ y. times s (y ∷ slots_in xs) ≡ 1 + times s (slots_in xs)) (sym e) (times_here s (slots_in xs)) in omega arith))
      (λ ne. (let a = times_other s x.slot (slots_in xs) ne in with_other x xs ne ∙ ap (λ ys. x ∷ ys) (without_absent xs (omega arith))))
      (cases_eq x.slot s)

  two : (x : Retired) (xs : List Retired) (b : Retired) → x.slot ≡ s → IsIn xs b → b.slot ≡ s → times s (slots_in (x ∷ xs)) ≤ 1 → ⊥
  two x xs b ex ib eb once =
      let a : times s (x.slot ∷ slots_in xs) ≡ 1 + times s (slots_in xs) =
      subst (λ y. times s (y ∷ slots_in xs) ≡ 1 + times s (slots_in xs)) (sym ex) (times_here s (slots_in xs)) in
      let c = subst (λ y. 1 ≤ times y (slots_in xs)) eb (times_in (λ (y : Retired). y.slot) xs b ib) in
      absurd (omega arith)

  -- no more have a generation that wasn't raised
  pub without_raised : (rs : List Retired) → unraised_among (without_retired s rs) ≤ unraised_among rs
  without_raised = without_less unraised_among (λ x xs. omega arith) (λ x xs ys le. omega arith)

  -- a slot that stands once is one of them
  pub one_in : (rs : List Retired) (a b : Retired) → times s (slots_in rs) ≤ 1 → IsIn rs a → IsIn rs b → a.slot ≡ s → b.slot ≡ s → a ≡ b
  one_in [] a b once ia ib ea eb = absurd (some-ne-none a (sym ia.1))
  one_in (x ∷ xs) a b once (zero, ea) (zero, eb) sa sb = some-injective a b (sym ea ∙ eb)
  one_in (x ∷ xs) a b once (zero, ea) (suc j, eb) sa sb =
      absurd (two x xs b (ap (λ (y : Retired). y.slot) (some-injective x a ea) ∙ sa) (j, eb) sb once)
  one_in (x ∷ xs) a b once (suc i, ea) (zero, eb) sa sb =
      absurd (two x xs a (ap (λ (y : Retired). y.slot) (some-injective x b eb) ∙ sb) (i, ea) sa once)
  one_in (x ∷ xs) a b once (suc i, ea) (suc j, eb) sa sb = one_in xs a b (omega arith) (i, ea) (j, eb) sa sb

  -- the one that goes wasn't raised
  pub without_unraised : (rs : List Retired) (r : Retired) → IsIn rs r → r.slot ≡ s → r.raised ≡ false → times s (slots_in rs) ≤ 1
      → unraised_among rs ≡ unraised_among (without_retired s rs) + 1
  without_unraised [] r has is raised once = absurd (some-ne-none r (sym has.1))
  without_unraised (x ∷ xs) r has is raised once =
      ⊎_elim (λ (e : x.slot ≡ s). at_first e has) (λ ne. later (λ q once_there. without_unraised xs r q is raised once_there) ne has)
      (cases_eq x.slot s)
    where
      at_first : x.slot ≡ s → IsIn (x ∷ xs) r → unraised_among (x ∷ xs) ≡ unraised_among (without_retired s (x ∷ xs)) + 1
      at_first e (zero, f) =
          let a : times s (x.slot ∷ slots_in xs) ≡ 1 + times s (slots_in xs) =
          subst (λ y. times s (y ∷ slots_in xs) ≡ 1 + times s (slots_in xs)) (sym e) (times_here s (slots_in xs)) in
          let b = ap unraised_among (with_here x xs e ∙ without_absent xs (omega arith)) in
          let c : unraised_among (x ∷ xs) ≡ 1 + unraised_among xs =
          ap (λ t. cond t 0 1 + unraised_among xs) (ap (λ (y : Retired). y.raised) (some-injective x r f) ∙ raised) in
          omega arith
      at_first e (suc j, f) =
          let a : times s (x.slot ∷ slots_in xs) ≡ 1 + times s (slots_in xs) =
          subst (λ y. times s (y ∷ slots_in xs) ≡ 1 + times s (slots_in xs)) (sym e) (times_here s (slots_in xs)) in
          let b = subst (λ y. 1 ≤ times y (slots_in xs)) is (times_in (λ (y : Retired). y.slot) xs r (j, f)) in
          absurd (omega arith)

      later : (IsIn xs r → times s (slots_in xs) ≤ 1 → unraised_among xs ≡ unraised_among (without_retired s xs) + 1) → x.slot ≢ s
          → IsIn (x ∷ xs) r → unraised_among (x ∷ xs) ≡ unraised_among (without_retired s (x ∷ xs)) + 1
      later again ne (zero, f) = absurd (ne (ap (λ (y : Retired). y.slot) (some-injective x r f) ∙ is))
      later again ne (suc j, f) =
          let a = times_other s x.slot (slots_in xs) ne in
          let b = again (j, f) (omega arith) in
          let c = ap unraised_among (with_other x xs ne) in
          omega arith

  abbrev one : Retired → Retired
  one x = cond (x.slot == s) (raise x) x

  one_slot : (x : Retired) (b : Bool) → (cond b (raise x) x).slot ≡ x.slot
  one_slot x true = refl
  one_slot x false = refl

  pub change_slots : (rs : List Retired) → slots_in (change_retired s raise rs) ≡ slots_in rs
  change_slots [] = refl
  change_slots (x ∷ xs) = λ i. one_slot x (x.slot == s) i ∷ change_slots xs i

  pub change_length : (rs : List Retired) → length (change_retired s raise rs) ≡ length rs
  change_length [] = refl
  change_length (x ∷ xs) = ap suc (change_length xs)

  one_is : (x : Retired) → ((x.slot ≡ s) × (one x ≡ raise x)) ⊎ ((x.slot ≢ s) × (one x ≡ x))
  one_is x = ⊎_elim (λ (e : x.slot ≡ s). inl (e, ap (λ b. cond b (raise x) x) (eq-eqb x.slot s e)))
      (λ ne. inr (ne, ap (λ b. cond b (raise x) x) (ne_eqb x.slot s ne))) (cases_eq x.slot s)

  -- one of the changed list was one before
  pub in_change : (rs : List Retired) (r : Retired) → IsIn (change_retired s raise rs) r
      → (x : Retired) × IsIn rs x × (((x.slot ≡ s) × (raise x ≡ r)) ⊎ ((x.slot ≢ s) × (x ≡ r)))
  in_change [] r has = absurd (some-ne-none r (sym has.1))
  in_change (x ∷ xs) r (zero, e) = (
    x,
    (0, refl),
    ⊎_elim (λ (t : (x.slot ≡ s) × (one x ≡ raise x)). inl (t.0, sym t.1 ∙ some-injective (one x) r e))
        (λ (t : (x.slot ≢ s) × (one x ≡ x)). inr (t.0, sym t.1 ∙ some-injective (one x) r e)) (one_is x),
  )
  in_change (x ∷ xs) r (suc j, e) = let a = in_change xs r (j, e) in let p = a.1 in (a.0, (suc p.0, p.1), a.2)

  pub change_in : (rs : List Retired) (r : Retired) → IsIn rs r
      → (y : Retired) × IsIn (change_retired s raise rs) y × (y.slot ≡ r.slot) × (r.slot ≢ s → y ≡ r)
  change_in [] r has = absurd (some-ne-none r (sym has.1))
  change_in (x ∷ xs) r (zero, e) = (
    one x,
    (0, refl),
    one_slot x (x.slot == s) ∙ ap (λ (y : Retired). y.slot) (some-injective x r e),
    (λ ne. ⊎_elim (λ (t : (x.slot ≡ s) × (one x ≡ raise x)). absurd
        (ne (ap (λ (y : Retired). y.slot) (sym (some-injective x r e)) ∙ t.0)))
        (λ (t : (x.slot ≢ s) × (one x ≡ x)). t.1 ∙ some-injective x r e) (one_is x)),
  )
  change_in (x ∷ xs) r (suc j, e) = let a = change_in xs r (j, e) in let p = a.1 in (a.0, (suc p.0, p.1), a.2, a.3)

  change_absent : (rs : List Retired) → times s (slots_in rs) ≡ 0 → change_retired s raise rs ≡ rs
  change_absent [] none = refl
  change_absent (x ∷ xs) none = ⊎_elim
      (λ (e : x.slot ≡ s). absurd (let a : times s (x.slot ∷ slots_in xs) ≡ 1 + times s (slots_in xs) =
      subst (λ y. times s (y ∷ slots_in xs) ≡ 1 + times s (slots_in xs)) (sym e) (times_here s (slots_in xs)) in omega arith))
      (λ ne. (let a = times_other s x.slot (slots_in xs) ne in
      (λ i. ap (λ b. cond b (raise x) x) (ne_eqb x.slot s ne) i ∷ change_absent xs (omega arith) i)))
      (cases_eq x.slot s)

  pub change_unraised : (rs : List Retired) (r : Retired) → IsIn rs r → r.slot ≡ s → r.raised ≡ false → times s (slots_in rs) ≤ 1
      → unraised_among rs ≡ unraised_among (change_retired s raise rs) + 1
  change_unraised [] r has is raised once = absurd (some-ne-none r (sym has.1))
  change_unraised (x ∷ xs) r has is raised once =
      ⊎_elim (λ (e : x.slot ≡ s). at_first e has) (λ ne. later (λ q once_there. change_unraised xs r q is raised once_there) ne has)
      (cases_eq x.slot s)
    where
      at_first : x.slot ≡ s → IsIn (x ∷ xs) r → unraised_among (x ∷ xs) ≡ unraised_among (change_retired s raise (x ∷ xs)) + 1
      at_first e (zero, f) =
          let a : times s (x.slot ∷ slots_in xs) ≡ 1 + times s (slots_in xs) =
          subst (λ y. times s (y ∷ slots_in xs) ≡ 1 + times s (slots_in xs)) (sym e) (times_here s (slots_in xs)) in
          let b = ap unraised_among (change_absent xs (omega arith)) in
          let c : unraised_among (x ∷ xs) ≡ 1 + unraised_among xs =
          ap (λ t. cond t 0 1 + unraised_among xs) (ap (λ (y : Retired). y.raised) (some-injective x r f) ∙ raised) in
          let d : unraised_among (one x ∷ change_retired s raise xs) ≡ 0 + unraised_among (change_retired s raise xs) =
          ap (λ t. cond (cond t (raise x) x).raised 0 1 + unraised_among (change_retired s raise xs)) (eq-eqb x.slot s e) in
          omega arith
      at_first e (suc j, f) =
          let a : times s (x.slot ∷ slots_in xs) ≡ 1 + times s (slots_in xs) =
          subst (λ y. times s (y ∷ slots_in xs) ≡ 1 + times s (slots_in xs)) (sym e) (times_here s (slots_in xs)) in
          let b = subst (λ y. 1 ≤ times y (slots_in xs)) is (times_in (λ (y : Retired). y.slot) xs r (j, f)) in
          absurd (omega arith)

      later : (IsIn xs r → times s (slots_in xs) ≤ 1 → unraised_among xs ≡ unraised_among (change_retired s raise xs) + 1) → x.slot ≢ s
          → IsIn (x ∷ xs) r → unraised_among (x ∷ xs) ≡ unraised_among (change_retired s raise (x ∷ xs)) + 1
      later again ne (zero, f) = absurd (ne (ap (λ (y : Retired). y.slot) (some-injective x r f) ∙ is))
      later again ne (suc j, f) =
          let a = times_other s x.slot (slots_in xs) ne in
          let b = again (j, f) (omega arith) in
          let d : unraised_among (one x ∷ change_retired s raise xs) ≡ cond x.raised 0 1 + unraised_among (change_retired s raise xs) =
          ap (λ t. cond (cond t (raise x) x).raised 0 1 + unraised_among (change_retired s raise xs)) (ne_eqb x.slot s ne) in
          omega arith

pub unraised_append : (xs ys : List Retired) → unraised_among (xs ++ ys) ≡ unraised_among xs + unraised_among ys
unraised_append [] ys = omega arith
unraised_append (x ∷ xs) ys = let r = unraised_append xs ys in omega arith

-- slots of retired ones, in two parts
pub retired_times : (s : ℕ) (xs ys : List Retired)
    → times s (map (λ (r : Retired). r.slot) (xs ++ ys))
    ≡ times s (map (λ (r : Retired). r.slot) xs) + times s (map (λ (r : Retired). r.slot) ys)
retired_times s [] ys = omega arith
retired_times s (x ∷ xs) ys = let r = retired_times s xs ys in omega arith

-- What a section found out is a record that says the truth, when the section is left.

-- a search for a key below that of a slot goes left, for one above goes right
pub step_left : (x key : ℕ) → step_side x key ≡ Some Left → x < key
step_left x key e = dite (ℕ_discrete x key)
    (λ same. absurd (let q : None ≡ Some Left = sym
    (ap (λ b. cond b None (cond (nat_lt x key) (Some Left) (Some Right))) (eq-eqb x key same)) ∙ e in cc))
    (λ ne. dite (dec_le key x)
    (λ le. absurd (let q : Some Right ≡ Some Left =
    sym (ap (λ b. cond b None (cond (nat_lt x key) (Some Left) (Some Right))) (ne_eqb x key ne)
    ∙ ap (λ b. cond b (Some Left) (Some Right)) (le-ltb x key le)) ∙ e in cc))
    (λ not_le. omega arith))

pub step_right : (x key : ℕ) → step_side x key ≡ Some Right → key < x
step_right x key e = dite (ℕ_discrete x key)
    (λ same. absurd (let q : None ≡ Some Right = sym
    (ap (λ b. cond b None (cond (nat_lt x key) (Some Left) (Some Right))) (eq-eqb x key same)) ∙ e in cc))
    (λ ne. dite (dec_le key x)
    (λ le. omega arith)
    (λ not_le. absurd (let q : Some Left ≡ Some Right =
    sym (ap (λ b. cond b None (cond (nat_lt x key) (Some Left) (Some Right))) (ne_eqb x key ne)
    ∙ ap (λ b. cond b (Some Left) (Some Right)) (lt-ltb x key (let l : x < key = omega arith in l))) ∙ e in cc)))

-- the sought key lies on this side of a slot
abbrev pub IsOnSide : Memory → ℕ → ℕ → Side → Type 0
IsOnSide m x s Left = (s ≢ 0) × (x < m (Key s))
IsOnSide m x s Right = (s ≡ 0) ⊎ (m (Key s) < x)

-- where the keys that were loaded are the keys now, a search goes to the side on which its key lies
pub on_side : (m : Memory) (r : Reading) (s : ℕ) (b : Side) → ((key : ℕ) → known_in r.loads (Key s) ≡ Some key → m (Key s) ≡ key)
    → GoesTo r s b → IsOnSide m r.key s b
on_side m r s Left keys goes = ⊎_elim (λ (e : (s ≡ 0) × (Left ≡ Right)). absurd (let q = e.1 in cc))
    (λ (e : (s ≢ 0) × ((key : ℕ) × (known_in r.loads (Key s) ≡ Some key) × (step_side r.key key ≡ Some Left))). (let k = e.1 in
    let l = step_left r.key k.0 k.2 in let w = keys k.0 k.1 in (e.0, omega arith))) goes
on_side m r s Right keys goes = ⊎_elim (λ (e : (s ≡ 0) × (Right ≡ Right)). inl e.0)
    (λ (e : (s ≢ 0) × ((key : ℕ) × (known_in r.loads (Key s) ≡ Some key) × (step_side r.key key ≡ Some Right))). (let k = e.1 in
    let l = step_right r.key k.0 k.2 in let w = keys k.0 k.1 in inr (omega arith))) goes

belongs_below : (m : Memory) (g : Chart) (x s : ℕ) (b : Side) → IsInRange g x s → IsOnSide m x s b → Belongs m g x s b
belongs_below m g x s Left i o = (i.low, o.1)
belongs_below m g x zero Right i o = (omega arith, i.high)
belongs_below m g x (suc s) Right i o = (
  ⊎_elim (λ (z : suc s ≡ 0). absurd (omega arith)) (λ (w : m (Key (suc s)) < x). omega arith) o,
  i.high,
)

-- What a search has found out at an empty side of a linked slot.
pub says_new : (m : Memory) (n : ℕ) (g : Chart) (x : ℕ) (live pend : ℕ → Type 0) (told : Option ℕ → Type 0) (old_for : ℕ → ℕ → Type 0)
    (s : ℕ) (b : Side)
    → IsShaped m n g → ((s : ℕ) → live s → g.linked s ≡ false) → ((u : ℕ) → pend u → old_for x u) → g.linked s ≡ true → IsOnSide m x s b
    → Place m g x live pend told s
    → m (Link s b) ≡ 0 → old_for x s ⊎ Belongs m g x s b
says_new m n g x live pend told old_for s b h out due l o (in_range i) empty = inr (belongs_below m g x s b i o)
says_new m n g x live pend told old_for s b h out due l o (at_old {u = u} p a le t (bottom e lu)) empty =
    inl (subst (old_for x) (sym e) (due u p))
says_new m n g x live pend told old_for s b h out due l o (at_old p a le t (more {c = c} ls lt e nz sp)) empty = absurd (go b o empty)
  where
    go : (b : Side) → IsOnSide m x s b → m (Link s b) ≡ 0 → ⊥
    go Left o empty = nz (sym e ∙ empty)
    go Right (inl z) empty = not_root m n g s c h e nz z
    go Right (inr gt) empty = absurd (omega arith)
says_new m n g x live pend told old_for s b h out due l o (at_end w z t) empty = let e = out s w in cc
says_new m n g x live pend told old_for s b h out due l o (on w e nz r p) empty = let f = out s w in cc

-- a walk at a linked slot stands on the path right of the node and then left
pub walk_path : (m : Memory) (g : Chart) (k : ℕ) (live : ℕ → Type 0) (w : ℕ) → ((s : ℕ) → live s → g.linked s ≡ false) → g.linked w ≡ true
    → Walks m g k live w → OnRightLeft m k w
walk_path m g k live w out l (at_linked i e) = e
walk_path m g k live w out l (at_stop i e) = absurd (let f = out w i in cc)
walk_path m g k live w out l (at_live i e nz q) = absurd (let f = out w i in cc)

-- a slot that is as recorded, and at which the section stood, is linked
linked_now : (m : Memory) (g : Chart) (h : List Mark) (section : Section) (s : ℕ) → HasStood m g h section s
    → IsAsRecorded m section.reading s → g.linked s ≡ true
linked_now m g h section s stood as_recorded =
    ⊎_elim (λ l. l) (λ (x : IsHeldBack g h section.entered s × IsOdd (m (Life s))). absurd
    (let odd = x.1 in let even = as_recorded.same in omega arith)) stood.here

-- What a section found out is a record that says the truth.
pub record_of : (m : Memory) (n : ℕ) (g : Chart) (vs : List View) (h : List Mark) (section : Section) → IsShaped m n g
    → IsReading section.reading → section.reading.key ≡ section.key → section.key < 2 ^ 64
    → IsServed m g h vs section → IsRecord m g vs section.reading
record_of m n g vs h section shape reading sought fits served = record {
  key_fits = subst (λ x. x < 2 ^ 64) (sym sought) fits;
  side = λ s tag b missed life known empty same settled. side_case section.listing refl s b missed life empty;
  walk = λ node parent b value walk found walks.
      (let walked = reading.walk walk walks in
      let w = served.walking node parent b value walk found walks in
      record {
        parent = λ x y. w.parent x.linked (linked_now m g h section walk.parent (served.stood walk.parent walked.parent_stood) y);
        slot = λ x y. walk_path m g node (IsHeldBack g h section.entered) walk.slot (λ s live. live.out)
            (linked_now m g h section walk.slot (served.stood walk.slot walked.slot_stood) y) (w.walks x.linked);
      });
}
  where
    nothing : section.reading.loads ≡ [] → (s : ℕ) → IsAsRecorded m section.reading s → ⊥
    nothing none s life = let l = life.recorded in absurd (let e : None ≡ Some l.0 = ap (λ ls. known_in ls (Life s)) (sym none) ∙ l.1 in cc)

    side_case : (listing : Option Listing) → section.listing ≡ listing → (s : ℕ) (b : Side) → section.reading.state ≡ Missed s b
        → IsAsRecorded m section.reading s → m (Link s b) ≡ 0
        → IsOldFor vs section.reading.key s ⊎ Belongs m g section.reading.key s b
    side_case (Some listing) lists s b missed life empty = absurd (nothing (served.lists listing lists) s life)
    side_case None searches s b missed life empty =
        let here : state_slot section.reading.state ≡ s = ap state_slot missed in
        let stood = served.stood s (subst (IsIn section.reading.stood) here reading.stands) in
        let goes : GoesTo section.reading s b = (subst (StandsWell section.reading) missed reading.well).0 in
        let side = on_side m section.reading s b stood.key goes in
        subst (λ x. IsOldFor vs x s ⊎ Belongs m g x s b) (sym sought)
        (says_new m n g section.key (IsHeldBack g h section.entered) (MayPass vs section.key section.entered)
        (WasSaid (updates_of h) section.key section.from) (IsOldFor vs) s b shape (λ u live. live.out)
        (λ u p. record { move = p.move; pending = p.pending; old = p.old; low = p.low; high = p.high })
        (linked_now m g h section s stood life) (subst (λ x. IsOnSide m x s b) sought side)
        (subst (Place m g section.key (IsHeldBack g h section.entered) (MayPass vs section.key section.entered)
        (WasSaid (updates_of h) section.key section.from)) here (served.placed searches).place) empty)

-- what lies right of a linked node and then left is linked, and its keys begin right above the node's
pub right_left_low : (m : Memory) (n : ℕ) (g : Chart) (d s : ℕ) → IsShaped m n g → g.linked d ≡ true → d ≢ 0 → OnRightLeft m d s
    → (g.linked s ≡ true) × (g.low s ≡ m (Key d) + 1) × (g.rank d < g.rank s)
right_left_low m n g d s h l ne (first e nz) = let k = h.below d s Right l e nz in (k.linked, k.low ∙ after-node m d ne, k.rank)
right_left_low m n g d s h l ne (further {s = p} way e nz) =
    let r = right_left_low m n g d p h l ne way in
    let k = h.below p s Left r.0 e nz in
    (k.linked, k.low ∙ r.1, (let a = r.2 in let b = k.rank in omega arith))
