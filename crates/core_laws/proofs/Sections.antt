-- The steps of the three waiters' sections keep the invariant.
use Rattle.std.proofs.Common.{◌≡◌, ◌≢◌, ℕ, ◌≤◌, ◌==◌, cond, List, [], ◌∷◌, ◌++◌, length, take, set, Some, None, refl, sym, ap, subst, ◌∙◌, arith, eq-eqb, ne_eqb, take_all, ◌+◌, ◌-◌, ◌<◌, ◌⊎◌, ◌&&◌, true, false, Option, ⊎_elim, inl, inr}
use mathlib.Core.Logic.{dite}
use mathlib.Core.Option.{some}
use native.Mathlib.Decide.{ℕ_discrete, dec_le}
use lib.ListN.{get_elem?}
use Rattle.prcu_marks.specs.declared.mark.Mark.{Mark}
use Rattle.prcu_marks.specs.declared.mark.Mark.TheVariants.{Entered, Left}
use Rattle.prcu_marks.specs.Marks.{open_at, Open}
use Rattle.core_state.specs.declared.shape.Shape.{Shape}
use Rattle.core_state.specs.declared.shape.Waiter.TheVariants.{Eer, Domain, Deer}
use Rattle.core_state.specs.declared.words.Field.TheVariants.{Clock, Announced, Stamp, Gate, Count, Row}
use Rattle.core_state.specs.declared.view.Clocked.{Clocked}
use Rattle.core_state.specs.declared.view.Section.{Section}
use Rattle.core_state.specs.declared.view.View.{View}
use Rattle.core_state.specs.Memory.{Memory, stored, idle}
use Rattle.core_state.specs.Marks.{begun}
use Rattle.core_state.specs.Steps.{after_announce, leaving, new_section, NeedsAnnounce, NeedsEnterByStamp, NeedsLeaveByStamp, after_enter_by_stamp, after_clock_load, after_gate_load, after_enter_by_count, NeedsEnterByCount, NeedsLeaveByCount, entering, gated, NeedsEnterByRow, NeedsLeaveByRow}
use Rattle.core_state.specs.Parts.{EerWords, inside_count, DomainWords, DeerWords}
use Rattle.list_laws.proofs.Lists.{each_set, each_change, total_set}
use Rattle.core_frames.proofs.Roles.{open_entered, open_entered_other, open_left_other}
use Rattle.core_state.specs.Invariant.{HoldsNow}
use Rattle.core_state.specs.declared.words.Field.{Field}
use Rattle.core_frames.proofs.WholeFrames.{Stepper, StepKeeps, by_load, by_store, by_waiter_store, waiter_law, waiters_stay}
use Rattle.core_state.specs.Views.{Works, open_of}
use Rattle.core_laws.proofs.Entering.{apart, inside_works, enter_law, leave_law, no_other}
use Rattle.core_frames.proofs.PlainLaws.{clocked_before}
use Rattle.core_frames.proofs.WaitFrames.{clocked_same, excused_same, turned_same, waiter_frame}
use Rattle.prcu_model.proofs.ListFacts.{prefix_self}
use Rattle.core_frames.proofs.Views.{slots_stay}
use Rattle.std.proofs.lemmas.Bool.{and_from, and_left, and_right}
use Rattle.key_interval.specs.Keys.{class_of}
use Rattle.atomic_table.proofs.Lists.{set_again}
use Rattle.core_frames.proofs.PlaceFrames.{open_none}

-- The steps of the first waiter's sections keep the invariant: K3, K4, K5 and K6.

-- a word of another place, and of the same
other_word : (p q n x : ℕ) → q ≢ p → cond (p == q) n x ≡ x
other_word p q n x ne = ap (λ b. cond b n x) (ne_eqb p q (λ e. ne (sym e)))

own_word : (p n x : ℕ) → cond (p == p) n x ≡ n
own_word p n x = ap (λ b. cond b n x) (eq-eqb p p refl)

module _ (k : Shape) (m : Memory) (vs : List View) (h : List Mark) (id : ℕ) (v : View) (i : HoldsNow k m vs h)
    (there : get_elem? vs id ≡ some v) (works : Works v) where
  stamp_elsewhere : (j : ℕ) (u : View) (section : Section) → j ≢ id → get_elem? vs j ≡ some u → u.section ≡ Some section
      → u.allowance.place ≢ v.allowance.place
  stamp_elsewhere j u section ne e is = apart k m vs h i id v there works j u ne e (inside_works k m vs h i j u section e is)

  -- K3: the clock is loaded
  clock_law : HoldsNow k m (set vs id (after_clock_load v (m Clock) h)) h
  clock_law =
      let w : View = after_clock_load v (m Clock) h in
      let now : Clocked = record { number = m Clock; at = length h } in
      waiter_law k m m vs h id v w i there works refl refl
      (waiter_frame k m m vs id v w h there (record { place = refl; section = refl; wait = refl }) refl refl refl
      (λ clocked is. (let e : now ≡ clocked = cc in
      subst (λ (c : Clocked). (c.at ≤ length h) × (c.number ≡ begun (take c.at h))) e
      (omega arith, i.waiters.clock ∙ ap begun (sym (take_all (length h) h (omega arith)))))) i.waiters)

  module _ (way : k.waiter ≡ Eer) where
    words : EerWords k.places m vs h
    words = i.waiters.eer way

    -- K4: the own key word is stored
    announced_apart : (j : ℕ) (u : View) (other : ℕ) → j ≢ id → get_elem? vs j ≡ some u → u.enter.announced ≡ Some other
        → u.allowance.place ≢ v.allowance.place
    announced_apart j u other ne e is = dite (dec_le 1 u.allowance.places) (λ has. apart k m vs h i id v there works j u ne e has)
        (λ none. (let spent = i.seats.spent j u e (omega arith) in
        absurd (let q : None ≡ Some other = sym (ap (λ (z : View). z.enter.announced) spent) ∙ is in cc)))

    module _ (key : ℕ) (outside : NeedsAnnounce v) where
      abbrev keyed : Memory
      keyed = stored m (Announced v.allowance.place) key

      abbrev keyed_view : View
      keyed_view = after_announce v key

      keyed_words : EerWords k.places keyed (set vs id keyed_view) h
      keyed_words = record {
        inside = each_set (λ j u. (section : Section) → u.section ≡ Some section
            → (keyed (Announced u.allowance.place) ≡ section.key) × (keyed (Stamp u.allowance.place) ≡ section.stamp)) vs id keyed_view
            (λ section is. absurd (let e : None ≡ Some section = sym outside ∙ is in cc))
            (λ j u ne e section is. (let r = words.inside j u e section is in (
              other_word v.allowance.place u.allowance.place key (m (Announced u.allowance.place))
                  (stamp_elsewhere j u section ne e is) ∙ r.0,
              r.1,
            )));
        outside = words.outside;
        announced = each_set (λ j u. (other : ℕ) → u.enter.announced ≡ Some other → keyed (Announced u.allowance.place) ≡ other)
            vs id keyed_view
            (λ other is. (let e : key ≡ other = cc in own_word v.allowance.place key (m (Announced v.allowance.place)) ∙ e))
            (λ j u ne e other is. other_word v.allowance.place u.allowance.place key (m (Announced u.allowance.place))
            (announced_apart j u other ne e is) ∙ words.announced j u e other is);
      }

      keyed_law : HoldsNow k keyed (set vs id keyed_view) h
      keyed_law = waiter_law k m keyed vs h id v keyed_view i there works refl refl (record {
        clock = i.waiters.clock;
        clocked = clocked_same k.waiter vs id v keyed_view h h there (prefix_self h) (clocked_before k m vs h i) refl refl
            i.waiters.clocked;
        excused = excused_same k vs id v keyed_view there (record { place = refl; section = refl; wait = refl }) i.waiters.excused;
        turned = turned_same vs id v keyed_view there refl i.waiters.turned;
        eer = λ _. keyed_words;
        domain = no_other _ k Eer Domain refl way;
        deer = no_other _ k Eer Deer refl way;
      })

    -- K5: a section is entered, with its stamp in the word of its place
    module _ (key stamp : ℕ) (clocked : Clocked) (needs : NeedsEnterByStamp v key stamp clocked) where
      abbrev stamped : Memory
      stamped = stored m (Stamp v.allowance.place) clocked.number

      abbrev stamped_view : View
      stamped_view = after_enter_by_stamp v key clocked h

      abbrev stamped_mark : Mark
      stamped_mark = Entered v.allowance.place v.counts.sections key

      stamped_words : EerWords k.places stamped (set vs id stamped_view) (h ++ stamped_mark ∷ [])
      stamped_words = record {
        inside = each_set (λ j u. (section : Section) → u.section ≡ Some section
            → (stamped (Announced u.allowance.place) ≡ section.key) × (stamped (Stamp u.allowance.place) ≡ section.stamp))
            vs id stamped_view
            (λ section is. (let e : new_section v key clocked.number clocked.at h ≡ section = cc in
            subst (λ (s : Section). (stamped (Announced v.allowance.place) ≡ s.key) × (stamped (Stamp v.allowance.place) ≡ s.stamp)) e
            (words.announced id v there key needs.announced, own_word v.allowance.place clocked.number (m (Stamp v.allowance.place)))))
            (λ j u ne e section is. (let r = words.inside j u e section is in (
              r.0,
              other_word v.allowance.place u.allowance.place clocked.number (m (Stamp u.allowance.place))
                  (stamp_elsewhere j u section ne e is) ∙ r.1,
            )));
        outside = λ p lt none. dite (ℕ_discrete p v.allowance.place)
            (λ here. absurd (let q = sym (open_entered v.allowance.place h v.counts.sections key)
            ∙ ap (λ n. open_at n (h ++ stamped_mark ∷ [])) (sym here) ∙ none in cc))
            (λ ne. other_word v.allowance.place p clocked.number (m (Stamp p)) ne
            ∙ words.outside p lt (sym (open_entered_other v.allowance.place h p v.counts.sections key ne) ∙ none));
        announced = each_change (λ (u : View). (other : ℕ) → u.enter.announced ≡ Some other → m (Announced u.allowance.place) ≡ other)
            (λ (u : View). (other : ℕ) → u.enter.announced ≡ Some other → stamped (Announced u.allowance.place) ≡ other)
            vs id v stamped_view there
            (λ t. t) (λ u t. t) words.announced;
      }

      stamped_law : HoldsNow k stamped (set vs id stamped_view) (h ++ stamped_mark ∷ [])
      stamped_law =
          let loaded = (i.waiters.clocked id v there).loaded clocked needs.clock in
          enter_law k m stamped vs h id v i there works key clocked.number clocked.at needs.entry refl (loaded.0, λ ne. loaded.1)
          (λ _. stamped_words)
          (no_other _ k Eer Domain refl way) (no_other _ k Eer Deer refl way)

    -- K6: the section is left
    module _ (section : Section) (is_inside : NeedsLeaveByStamp v section) where
      abbrev idled : Memory
      idled = stored m (Stamp v.allowance.place) idle

      abbrev idled_view : View
      idled_view = leaving v section h

      abbrev idled_mark : Mark
      idled_mark = Left v.allowance.place section.count

      idled_words : EerWords k.places idled (set vs id idled_view) (h ++ idled_mark ∷ [])
      idled_words = record {
        inside = each_set (λ j u. (s : Section) → u.section ≡ Some s
            → (idled (Announced u.allowance.place) ≡ s.key) × (idled (Stamp u.allowance.place) ≡ s.stamp)) vs id idled_view
            (λ s none. absurd (let e : None ≡ Some s = none in cc))
            (λ j u ne e s is. (let r = words.inside j u e s is in (
              r.0,
              other_word v.allowance.place u.allowance.place idle (m (Stamp u.allowance.place))
                  (stamp_elsewhere j u s ne e is) ∙ r.1,
            )));
        outside = λ p lt none. dite (ℕ_discrete p v.allowance.place)
            (λ here. subst (λ q. idled (Stamp q) ≡ idle) (sym here) (own_word v.allowance.place idle (m (Stamp v.allowance.place))))
            (λ ne. other_word v.allowance.place p idle (m (Stamp p)) ne
            ∙ words.outside p lt (sym (open_left_other v.allowance.place h p section.count ne) ∙ none));
        announced = each_change (λ (u : View). (other : ℕ) → u.enter.announced ≡ Some other → m (Announced u.allowance.place) ≡ other)
            (λ (u : View). (other : ℕ) → u.enter.announced ≡ Some other → idled (Announced u.allowance.place) ≡ other)
            vs id v idled_view there
            (λ t. t) (λ u t. t) words.announced;
      }

      idled_law : HoldsNow k idled (set vs id idled_view) (h ++ idled_mark ∷ [])
      idled_law = leave_law k m idled vs h id v i there works section is_inside refl (λ _. idled_words) (no_other _ k Eer Domain refl way)
          (no_other _ k Eer Deer refl way)

module _ (z : Stepper) where
  open z use {k, m, vs, h, id, v, inv, there, works}

  pub keeps_clock_load : StepKeeps z Clock (m Clock) (after_clock_load v (m Clock) h) []
  keeps_clock_load = by_load z Clock (after_clock_load v (m Clock) h) (clock_law k m vs h id v inv there works)

  pub keeps_announce : (key : ℕ) → k.waiter ≡ Eer → NeedsAnnounce v
      → StepKeeps z (Announced v.allowance.place) key (after_announce v key) []
  keeps_announce key way needs = by_waiter_store z (Announced v.allowance.place) key (after_announce v key)
      (slots_stay m (stored m (Announced v.allowance.place) key) refl) (keyed_law k m vs h id v inv there works way key needs)

  pub keeps_enter_by_stamp : (key stamp : ℕ) (clocked : Clocked) → k.waiter ≡ Eer → NeedsEnterByStamp v key stamp clocked
      → StepKeeps z (Stamp v.allowance.place) stamp (after_enter_by_stamp v key clocked h)
      (Entered v.allowance.place v.counts.sections key ∷ [])
  keeps_enter_by_stamp key stamp clocked way needs =
      let w : View = after_enter_by_stamp v key clocked h in
      let marks : List Mark = Entered v.allowance.place v.counts.sections key ∷ [] in
      by_store z (Stamp v.allowance.place) stamp w marks (slots_stay m (stored m (Stamp v.allowance.place) stamp) refl)
      (subst (λ n. HoldsNow k (stored m (Stamp v.allowance.place) n) (set vs id w) (h ++ marks)) (sym needs.stamp_is)
      (stamped_law k m vs h id v inv there works way key stamp clocked needs))

  pub keeps_leave_by_stamp : (section : Section) → k.waiter ≡ Eer → NeedsLeaveByStamp v section
      → StepKeeps z (Stamp v.allowance.place) idle (leaving v section h) (Left v.allowance.place section.count ∷ [])
  keeps_leave_by_stamp section way needs =
      by_store z (Stamp v.allowance.place) idle (leaving v section h) (Left v.allowance.place section.count ∷ [])
      (slots_stay m (stored m (Stamp v.allowance.place) idle) refl) (idled_law k m vs h id v inv there works way section needs)

-- The steps of the second waiter's sections keep the invariant: K28, K29 and K30.

-- two numbers are these two, or the test says that they aren't
pub pair_cases : (a b x y : ℕ) → ((a ≡ x) × (b ≡ y) × ((a == x && b == y) ≡ true)) ⊎ ((a == x && b == y) ≡ false)
pair_cases a b x y =
    dite (ℕ_discrete a x)
    (λ e. dite (ℕ_discrete b y) (λ f. inl (e, f, and_from (a == x) (b == y) (eq-eqb a x e) (eq-eqb b y f)))
    (λ ne. inr (and_right (a == x) (b == y) (ne_eqb b y ne))))
    (λ ne. inr (and_left (a == x) (b == y) (ne_eqb a x ne)))

module _ (k : Shape) (m : Memory) (vs : List View) (h : List Mark) (id : ℕ) (v : View) (i : HoldsNow k m vs h)
    (there : get_elem? vs id ≡ some v) (works : Works v) where
  -- K28: a gate is loaded
  gate_law : (class found : ℕ) (o : Option Section) → HoldsNow k m (set vs id (gated v class found o)) h
  gate_law class found None =
      let w : View = gated v class found None in
      waiter_law k m m vs h id v w i there works refl refl (waiters_stay k m m vs h id v w i there refl refl refl)
  gate_law class found (Some section) = subst (λ us. HoldsNow k m us h) (sym (set_again vs id v there)) i

  -- K29: a section is entered on a side of its class
  module _ (key side : ℕ) (way : k.waiter ≡ Domain) (needs : NeedsEnterByCount v key side) where
    abbrev counted_in : Memory
    counted_in = stored m (Count (class_of key) side) (m (Count (class_of key) side) + 1)

    abbrev counted_in_view : View
    counted_in_view = entering v key side (length h) h

    counted_in_words : DomainWords counted_in (set vs id counted_in_view)
    counted_in_words = record {
      counts = λ c s small low.
          (let t = (i.waiters.domain way).counts c s small low in
          let sum = total_set (λ (u : View). inside_count c s u.section) vs id v counted_in_view there in
          let none : inside_count c s v.section ≡ 0 = ap (inside_count c s) needs.entry.outside in
          ⊎_elim
          (λ (e : (class_of key ≡ c) × (side ≡ s) × ((class_of key == c && side == s) ≡ true)).
          let word : counted_in (Count c s) ≡ m (Count (class_of key) side) + 1 =
          ap (λ b. cond b (m (Count (class_of key) side) + 1) (m (Count c s))) e.2 in
          let same : m (Count (class_of key) side) ≡ m (Count c s) = (λ n. m (Count (e.0 n) (e.1 n))) in
          let one : inside_count c s counted_in_view.section ≡ 1 = ap (λ b. cond b 1 0) e.2 in
          omega arith)
          (λ (ne : (class_of key == c && side == s) ≡ false).
          let word : counted_in (Count c s) ≡ m (Count c s) = ap (λ b. cond b (m (Count (class_of key) side) + 1) (m (Count c s))) ne in
          let zero_now : inside_count c s counted_in_view.section ≡ 0 = ap (λ b. cond b 1 0) ne in
          omega arith)
          (pair_cases (class_of key) side c s));
      sides = each_set (λ j u. (z : Section) → u.section ≡ Some z → z.stamp < 2) vs id counted_in_view
          (λ z is. let e : new_section v key side (length h) h ≡ z = cc in
          subst (λ (q : Section). q.stamp < 2) e (let f = needs.side_is in omega arith))
          (λ j u ne e. (i.waiters.domain way).sides j u e);
    }

    counted_in_law : HoldsNow k counted_in (set vs id counted_in_view) (h ++ Entered v.allowance.place v.counts.sections key ∷ [])
    counted_in_law =
        enter_law k m counted_in vs h id v i there works key side (length h) needs.entry refl ((omega arith), (λ ne. absurd (ne way)))
        (no_other _ k Domain Eer refl way) (λ _. counted_in_words) (no_other _ k Domain Deer refl way)

  -- K30: the section is left
  module _ (section : Section) (class side : ℕ) (way : k.waiter ≡ Domain) (needs : NeedsLeaveByCount v section class side) where
    abbrev counted_out : Memory
    counted_out = stored m (Count class side) (m (Count class side) - 1)

    abbrev counted_out_view : View
    counted_out_view = leaving v section h

    counted_out_words : DomainWords counted_out (set vs id counted_out_view)
    counted_out_words = record {
      counts = λ c s small low.
          (let t = (i.waiters.domain way).counts c s small low in
          let sum = total_set (λ (u : View). inside_count c s u.section) vs id v counted_out_view there in
          let mine : inside_count c s v.section ≡ cond (class == c && side == s) 1 0 =
          ap (inside_count c s) needs.section_is ∙ (λ n. cond (sym needs.class_is n == c && sym needs.side_is n == s) 1 0) in
          let none : inside_count c s counted_out_view.section ≡ 0 = refl in
          ⊎_elim
          (λ (e : (class ≡ c) × (side ≡ s) × ((class == c && side == s) ≡ true)).
          let word : counted_out (Count c s) ≡ m (Count class side) - 1 = ap (λ b. cond b (m (Count class side) - 1) (m (Count c s))) e.2 in
          let same : m (Count class side) ≡ m (Count c s) = (λ n. m (Count (e.0 n) (e.1 n))) in
          let one : inside_count c s v.section ≡ 1 = mine ∙ ap (λ b. cond b 1 0) e.2 in
          omega arith)
          (λ (ne : (class == c && side == s) ≡ false).
          let word : counted_out (Count c s) ≡ m (Count c s) = ap (λ b. cond b (m (Count class side) - 1) (m (Count c s))) ne in
          let zero_was : inside_count c s v.section ≡ 0 = mine ∙ ap (λ b. cond b 1 0) ne in
          omega arith)
          (pair_cases class side c s));
      sides = each_set (λ j u. (z : Section) → u.section ≡ Some z → z.stamp < 2) vs id counted_out_view
          (λ z none. absurd (let e : None ≡ Some z = none in cc))
          (λ j u ne e. (i.waiters.domain way).sides j u e);
    }

    counted_out_law : HoldsNow k counted_out (set vs id counted_out_view) (h ++ Left v.allowance.place section.count ∷ [])
    counted_out_law =
        leave_law k m counted_out vs h id v i there works section needs.section_is refl
        (no_other _ k Domain Eer refl way) (λ _. counted_out_words) (no_other _ k Domain Deer refl way)

module _ (z : Stepper) where
  open z use {k, m, vs, h, id, v, inv, there, works}

  pub keeps_gate_load : (class : ℕ) → StepKeeps z (Gate class) (m (Gate class)) (after_gate_load v class (m (Gate class))) []
  keeps_gate_load class = by_load z (Gate class) (after_gate_load v class (m (Gate class)))
      (gate_law k m vs h id v inv there works class (m (Gate class)) v.section)

  pub keeps_enter_by_count : (key side : ℕ) → k.waiter ≡ Domain → NeedsEnterByCount v key side
      → let field = Count (class_of key) side in
      StepKeeps z field (m field + 1) (after_enter_by_count v key side h) (Entered v.allowance.place v.counts.sections key ∷ [])
  keeps_enter_by_count key side way needs =
      let field : Field = Count (class_of key) side in
      by_store z field (m field + 1) (after_enter_by_count v key side h) (Entered v.allowance.place v.counts.sections key ∷ [])
      (slots_stay m (stored m field (m field + 1)) refl) (counted_in_law k m vs h id v inv there works key side way needs)

  pub keeps_leave_by_count : (section : Section) (class side : ℕ) → k.waiter ≡ Domain → NeedsLeaveByCount v section class side
      → StepKeeps z (Count class side) (m (Count class side) - 1) (leaving v section h) (Left v.allowance.place section.count ∷ [])
  keeps_leave_by_count section class side way needs =
      let field : Field = Count class side in
      by_store z field (m field - 1) (leaving v section h) (Left v.allowance.place section.count ∷ [])
      (slots_stay m (stored m field (m field - 1)) refl) (counted_out_law k m vs h id v inv there works section class side way needs)

-- The steps of the third waiter's sections keep the invariant: K33 and K34.

-- the word of the place and class that was stored, one of another place, and one of another class
own_row : (p c q d n x : ℕ) → p ≡ q → c ≡ d → cond (p == q && c == d) n x ≡ n
own_row p c q d n x same_place same_class = ap (λ b. cond b n x)
    (and_from (p == q) (c == d) (eq-eqb p q same_place) (eq-eqb c d same_class))

other_place : (p c q d n x : ℕ) → q ≢ p → cond (p == q && c == d) n x ≡ x
other_place p c q d n x ne = ap (λ b. cond b n x) (and_left (p == q) (c == d) (ne_eqb p q (λ e. ne (sym e))))

other_class : (p c q d n x : ℕ) → c ≢ d → cond (p == q && c == d) n x ≡ x
other_class p c q d n x ne = ap (λ b. cond b n x) (and_right (p == q) (c == d) (ne_eqb c d ne))

module _ (k : Shape) (m : Memory) (vs : List View) (h : List Mark) (id : ℕ) (v : View) (i : HoldsNow k m vs h)
    (there : get_elem? vs id ≡ some v) (works : Works v) (way : k.waiter ≡ Deer) where
  row_elsewhere : (j : ℕ) (u : View) (section : Section) → j ≢ id → get_elem? vs j ≡ some u → u.section ≡ Some section
      → u.allowance.place ≢ v.allowance.place
  row_elsewhere j u section ne e is = apart k m vs h i id v there works j u ne e (inside_works k m vs h i j u section e is)

  -- K33: a section is entered, with its stamp in the word of its class
  module _ (key stamp : ℕ) (clocked : Clocked) (needs : NeedsEnterByRow v key stamp clocked) where
    abbrev rowed : Memory
    rowed = stored m (Row v.allowance.place (class_of key)) clocked.number

    abbrev rowed_view : View
    rowed_view = after_enter_by_stamp v key clocked h

    abbrev rowed_mark : Mark
    rowed_mark = Entered v.allowance.place v.counts.sections key

    none_open : open_at v.allowance.place h ≡ None
    none_open = open_none k.places vs id v h there works i.seats needs.entry.outside

    rowed_outside : (p c : ℕ) → p < k.places → c < 64 → ((o : Open) → open_at p (h ++ rowed_mark ∷ []) ≡ Some o → class_of o.key ≢ c)
        → rowed (Row p c) ≡ idle
    rowed_outside p c lt small none =
        dite (ℕ_discrete p v.allowance.place)
        (λ here. let open_now : open_at p (h ++ rowed_mark ∷ []) ≡ Some (record { count = v.counts.sections; key = key; at = length h }) =
        ap (λ q. open_at q (h ++ rowed_mark ∷ [])) here ∙ open_entered v.allowance.place h v.counts.sections key in
        other_class v.allowance.place (class_of key) p c clocked.number (m (Row p c))
        (none (record { count = v.counts.sections; key = key; at = length h }) open_now)
        ∙ (i.waiters.deer way).outside p c lt small (λ o e. absurd
        (let q : None ≡ Some o = sym none_open ∙ ap (λ q. open_at q h) (sym here) ∙ e in cc)))
        (λ ne. other_place v.allowance.place (class_of key) p c clocked.number (m (Row p c)) ne
        ∙ (i.waiters.deer way).outside p c lt small (λ o e. none o (open_entered_other v.allowance.place h p v.counts.sections key ne ∙ e)))

    rowed_words : DeerWords k.places rowed (set vs id rowed_view) (h ++ rowed_mark ∷ [])
    rowed_words = record {
      inside = each_set (λ j u. (z : Section) → u.section ≡ Some z → rowed (Row u.allowance.place (class_of z.key)) ≡ z.stamp)
          vs id rowed_view
          (λ z is. let e : new_section v key clocked.number clocked.at h ≡ z = cc in
          subst (λ (q : Section). rowed (Row v.allowance.place (class_of q.key)) ≡ q.stamp) e
          (own_row v.allowance.place (class_of key) v.allowance.place (class_of key) clocked.number
          (m (Row v.allowance.place (class_of key))) refl refl))
          (λ j u ne e z is. other_place v.allowance.place (class_of key) u.allowance.place (class_of z.key) clocked.number
          (m (Row u.allowance.place (class_of z.key))) (row_elsewhere j u z ne e is) ∙ (i.waiters.deer way).inside j u e z is);
      outside = rowed_outside;
    }

    rowed_law : HoldsNow k rowed (set vs id rowed_view) (h ++ rowed_mark ∷ [])
    rowed_law =
        let loaded = (i.waiters.clocked id v there).loaded clocked needs.clock in
        enter_law k m rowed vs h id v i there works key clocked.number clocked.at needs.entry refl (loaded.0, λ ne. loaded.1)
        (no_other _ k Deer Eer refl way) (no_other _ k Deer Domain refl way) (λ _. rowed_words)

  -- K34: the section is left
  module _ (section : Section) (class : ℕ) (needs : NeedsLeaveByRow v section class) where
    abbrev row_idled : Memory
    row_idled = stored m (Row v.allowance.place class) idle

    abbrev row_idled_view : View
    row_idled_view = leaving v section h

    abbrev row_idled_mark : Mark
    row_idled_mark = Left v.allowance.place section.count

    row_idled_outside : (p c : ℕ) → p < k.places → c < 64
        → ((o : Open) → open_at p (h ++ row_idled_mark ∷ []) ≡ Some o → class_of o.key ≢ c)
        → row_idled (Row p c) ≡ idle
    row_idled_outside p c lt small none =
        dite (ℕ_discrete p v.allowance.place)
        (λ here. dite (ℕ_discrete class c)
        (λ same. own_row v.allowance.place class p c idle (m (Row p c)) (sym here) same)
        (λ ne. other_class v.allowance.place class p c idle (m (Row p c)) ne
        ∙ (i.waiters.deer way).outside p c lt small (λ o e same. ne
        (let now : Some (open_of section) ≡ Some o =
        sym (i.seats.sections id v there section needs.section_is).is_open ∙ ap (λ q. open_at q h) (sym here) ∙ e in
        let f : open_of section ≡ o = cc in needs.class_is ∙ ap (λ (z : Open). class_of z.key) f ∙ same))))
        (λ ne. other_place v.allowance.place class p c idle (m (Row p c)) ne
        ∙ (i.waiters.deer way).outside p c lt small (λ o e. none o (open_left_other v.allowance.place h p section.count ne ∙ e)))

    row_idled_words : DeerWords k.places row_idled (set vs id row_idled_view) (h ++ row_idled_mark ∷ [])
    row_idled_words = record {
      inside = each_set (λ j u. (z : Section) → u.section ≡ Some z → row_idled (Row u.allowance.place (class_of z.key)) ≡ z.stamp)
          vs id row_idled_view
          (λ z none. absurd (let e : None ≡ Some z = none in cc))
          (λ j u ne e z is. other_place v.allowance.place class u.allowance.place (class_of z.key) idle
          (m (Row u.allowance.place (class_of z.key))) (row_elsewhere j u z ne e is) ∙ (i.waiters.deer way).inside j u e z is);
      outside = row_idled_outside;
    }

    row_idled_law : HoldsNow k row_idled (set vs id row_idled_view) (h ++ row_idled_mark ∷ [])
    row_idled_law =
        leave_law k m row_idled vs h id v i there works section needs.section_is refl
        (no_other _ k Deer Eer refl way) (no_other _ k Deer Domain refl way) (λ _. row_idled_words)

module _ (z : Stepper) where
  open z use {k, m, vs, h, id, v, inv, there, works}

  pub keeps_enter_by_row : (key stamp : ℕ) (clocked : Clocked) → k.waiter ≡ Deer → NeedsEnterByRow v key stamp clocked
      → StepKeeps z (Row v.allowance.place (class_of key)) stamp (after_enter_by_stamp v key clocked h)
      (Entered v.allowance.place v.counts.sections key ∷ [])
  keeps_enter_by_row key stamp clocked way needs =
      let field : Field = Row v.allowance.place (class_of key) in
      let w : View = after_enter_by_stamp v key clocked h in
      let marks : List Mark = Entered v.allowance.place v.counts.sections key ∷ [] in
      by_store z field stamp w marks (slots_stay m (stored m field stamp) refl)
      (subst (λ n. HoldsNow k (stored m field n) (set vs id w) (h ++ marks)) (sym needs.stamp_is)
      (rowed_law k m vs h id v inv there works way key stamp clocked needs))

  pub keeps_leave_by_row : (section : Section) (class : ℕ) → k.waiter ≡ Deer → NeedsLeaveByRow v section class
      → StepKeeps z (Row v.allowance.place class) idle (leaving v section h) (Left v.allowance.place section.count ∷ [])
  keeps_leave_by_row section class way needs =
      by_store z (Row v.allowance.place class) idle (leaving v section h) (Left v.allowance.place section.count ∷ [])
      (slots_stay m (stored m (Row v.allowance.place class) idle) refl)
      (row_idled_law k m vs h id v inv there works way section class needs)
