-- The parts on readers and on listings after a rotation.
use Rattle.std.proofs.Common.{◌≡◌, ◌≢◌, ℕ, ◌+◌, ◌*◌, ◌/◌, ◌<◌, true, false, ◌++◌, length, Option, Some, None, refl, sym, ap, subst, ◌∙◌, ◌⊎◌, inl, inr, ⊎_elim, arith}
use Rattle.std.proofs.lemmas.Bool.{cases_eq}
use mathlib.Core.Option.{some}
use lib.ListN.{get_elem?}
use Rattle.prcu_marks.specs.declared.mark.Side.{Side}
use Rattle.prcu_marks.specs.Marks.{updates_of, gone_at}
use Rattle.prcu_marks.proofs.Marks.{gone_at-below}
use Rattle.prcu_model.specs.Dictionary.{WasSaid}
use Rattle.core_state.specs.declared.words.Field.TheVariants.{Life, Link, Key}
use Rattle.core_state.specs.declared.view.Reading.{Reading}
use Rattle.core_state.specs.declared.view.Section.{Section}
use Rattle.core_state.specs.declared.view.View.{View}
use Rattle.list_laws.specs.Counts.{IsIn, Each}
use Rattle.core_state.specs.Memory.{IsOdd, Memory, slot_count}
use Rattle.core_state.specs.Views.{note_moving, LoadedGeneration, readings_of, open_reading}
use Rattle.core_state.specs.Tree.{IsHeldBack, MayPass, Place}
use Rattle.core_state.specs.Parts.{IsReadingKept, state_slot, IsReading, IsServed, IsAsRecorded, IsStillLinked, IsRecord, AreAged, ReaderParts, map_now, IsBetween, HasBounds, GoesOn, here, ListsNow, ListingParts, IsGoneSince, LeadsOn}
use Rattle.core_frames.proofs.Views.{way_by}
use Rattle.list_laws.proofs.Lists.{each_set, in_second}
use Rattle.core_frames.proofs.Charts.{ended_is, bool_cases, carry_going, unlinked_going}
use Rattle.core_frames.proofs.PlainLaws.{entered_before, told_now}
use Rattle.core_frames.proofs.TreeFrames.{answered_by, may_still, old_still, met_outside, recorded_even, recorded_linked, recorded_back}
use Rattle.core_frames.proofs.Roles.{gone_off}
use Rattle.core_laws.proofs.Turns.{Stays, which, not_top, not_sub, rank_else, still, x_off, y_off, x_not_p, y_not_p, link_off, child_stays, low_else, high_else, at_y}
use Rattle.core_laws.proofs.TurnReaders.{stays_by, readers_turn, walks_turn, path_turn, belongs_turn}
use Rattle.core_laws.proofs.RotateSteps.{two_gone_upper, two_gone_lower, two_gone_other, two_updates, two_map, RotateStep, x_on, y_on, outside, top_off, sub_off, top_even, sub_even, top_gone, sub_gone, unread, turn, turns, new, to, w, us, hs, known, not_same, x_some, y_some, not_even, emptied_still, link_back}
use Rattle.core_state.specs.declared.view.Fact.{Fact}
use Rattle.core_state.specs.declared.view.Gap.{Gap}
use Rattle.core_state.specs.declared.view.Listing.{Listing}
use Rattle.core_state.specs.Steps.{narrowed}
use Rattle.core_laws.proofs.Stores.{listings_kept}

module _ (z : RotateStep) where
  open z use {who.{k, m, vs, h, id, v, there, inv as i, inv.{chart as g}}, upper.{slot as top}, needs.lower.{slot as sub}, p, b, x, y}

  abbrev n : ℕ
  n = slot_count k

  abbrev later : Memory
  later = new z

  abbrev pub Stay : ℕ → Type 0
  Stay s = Stays m later n g (turn z) i.tree.shape (turns z) s

  pub moving_same : (w z).moving ≡ v.moving
  moving_same = ap (note_moving p (known z)) z.needs.settled ∙ sym z.needs.settled

  pub unlinked_off : (s at : ℕ) → gone_at s h ≡ Some at → g.linked s ≡ false
  unlinked_off s at gone = gone_off m n g vs h i.slots s at gone

  pub stays_on : (s : ℕ) → Stay s → (to z).linked s ≡ true
  stays_on s r = still m later n g (turn z) i.tree.shape (turns z) s r

  pub stay_of : (s : ℕ) → g.linked s ≡ true → (s ≡ x) ⊎ ((s ≡ y) ⊎ Stay s)
  stay_of = stays_by m later n g (turn z) i.tree.shape (turns z)

  pub off_apart : (s : ℕ) → g.linked s ≡ false → (s ≢ x) × (s ≢ y)
  off_apart s off = (
    λ e. (let on = (x_on z).0 in let q : true ≡ false = sym on ∙ ap g.linked (sym e) ∙ off in absurd (cc)),
    λ e. (let on = (y_on z).0 in let q : true ≡ false = sym on ∙ ap g.linked (sym e) ∙ off in absurd (cc)),
  )

  -- what was unlinked isn't a new slot
  pub gone_not_new : (s at : ℕ) → gone_at s h ≡ Some at → (s ≢ top) × (s ≢ sub)
  gone_not_new s at gone = (
    λ e. absurd (let q : None ≡ Some at = sym (top_gone z) ∙ ap (λ r. gone_at r h) (sym e) ∙ gone in cc),
    λ e. absurd (let q : None ≡ Some at = sym (sub_gone z) ∙ ap (λ r. gone_at r h) (sym e) ∙ gone in cc),
  )

  pub off_still : (s at : ℕ) → g.linked s ≡ false → gone_at s h ≡ Some at → (to z).linked s ≡ false
  off_still s at off gone = ⊎_elim
      (λ (l : (to z).linked s ≡ true). absurd (⊎_elim (λ (e : s ≡ top). (gone_not_new s at gone).0 e)
      (λ r. ⊎_elim (λ (e : s ≡ sub). (gone_not_new s at gone).1 e)
      (λ (r : Stay s). (let on = r.on in let q : true ≡ false = sym on ∙ off in absurd (cc))) r)
      (which m later n g (turn z) i.tree.shape (turns z) s l)))
      (λ o. o) (bool_cases ((to z).linked s))

  pub gone_same : (s : ℕ) → g.linked s ≡ false → gone_at s (hs z) ≡ gone_at s h
  gone_same s off = let a = off_apart s off in two_gone_other v.allowance.place h x y (not_same z) s a.0 a.1

  -- what a reader may still meet stays so, and so do the slots that go
  pub held : (entered s : ℕ) → IsHeldBack g h entered s → IsHeldBack (to z) (hs z) entered s
  held entered s r = record {
    out = off_still s r.at r.out r.gone;
    at = r.at;
    gone = gone_same s r.out ∙ r.gone;
    later = r.later;
  }

  pub held_x : (entered : ℕ) → entered < length h → IsHeldBack (to z) (hs z) entered x
  held_x entered lt = record {
    out = x_off m later n g (turn z) i.tree.shape (turns z);
    at = length h;
    gone = two_gone_upper v.allowance.place h x y (not_same z);
    later = lt;
  }

  pub held_y : (entered : ℕ) → entered < length h → IsHeldBack (to z) (hs z) entered y
  held_y entered lt = record {
    out = y_off m later n g (turn z) i.tree.shape (turns z);
    at = length h + 1;
    gone = two_gone_lower v.allowance.place h x y (not_same z);
    later = omega arith;
  }

  pub here_after : (entered : ℕ) → entered < length h → (s : ℕ) → (g.linked s ≡ true) ⊎ IsHeldBack g h entered s
      → ((to z).linked s ≡ true) ⊎ IsHeldBack (to z) (hs z) entered s
  here_after entered lt s way = ⊎_elim
      (λ (l : g.linked s ≡ true). ⊎_elim (λ (e : s ≡ x). inr (subst (IsHeldBack (to z) (hs z) entered) (sym e) (held_x entered lt)))
      (λ r. ⊎_elim (λ (e : s ≡ y). inr (subst (IsHeldBack (to z) (hs z) entered) (sym e) (held_y entered lt)))
      (λ r. inl (stays_on s r)) r) (stay_of s l))
      (λ r. inr (held entered s r)) way

  -- who may be met and is linked afterwards was linked, and stays
  pub met_stays : (entered s : ℕ) → (g.linked s ≡ true) ⊎ IsHeldBack g h entered s → (to z).linked s ≡ true → Stay s
  met_stays entered s way l = ⊎_elim
      (λ (on : g.linked s ≡ true). ⊎_elim
      (λ (e : s ≡ x). absurd (let off = x_off m later n g (turn z) i.tree.shape (turns z) in cc))
      (λ r. ⊎_elim
      (λ (e : s ≡ y). absurd (let off = y_off m later n g (turn z) i.tree.shape (turns z) in cc))
      (λ r. r) r) (stay_of s on))
      (λ (r : IsHeldBack g h entered s). absurd (let off = (held entered s r).out in cc)) way

  said : (key from : ℕ) (o : Option ℕ) → WasSaid (updates_of h) key from o → WasSaid (updates_of (hs z)) key from o
  said key from o = subst (λ us. WasSaid us key from o) (sym (two_updates v.allowance.place h x y (not_same z)))

  -- the ranks of slots that are linked, and of those that were unlinked and not given
  rank_linked : (s : ℕ) → g.linked s ≡ true → (to z).rank s ≡ 2 * g.rank s + 1
  rank_linked s l = rank_else m later n g (turn z) i.tree.shape (turns z) s
      (not_top m later n g (turn z) i.tree.shape (turns z) s l) (not_sub m later n g (turn z) i.tree.shape (turns z) s l)

  rank_gone : (s at : ℕ) → gone_at s h ≡ Some at → (to z).rank s ≡ 2 * g.rank s + 1
  rank_gone s at gone = let ne = gone_not_new s at gone in rank_else m later n g (turn z) i.tree.shape (turns z) s ne.0 ne.1

  -- an open section of another view
  module _ (j : ℕ) (u : View) (section : Section) (e : get_elem? vs j ≡ some u) (inside : u.section ≡ Some section) where
    abbrev live : ℕ → Type 0
    live = IsHeldBack g h section.entered

    abbrev live_later : ℕ → Type 0
    live_later = IsHeldBack (to z) (hs z) section.entered

    early : section.entered < length h
    early = entered_before k m vs h i j u section e inside

    was : IsServed m g h vs section
    was = i.readers.served j u e section inside

    reading : IsReading section.reading
    reading = i.readers.readings j u e 0 section.reading (ap (λ o. get_elem? (open_reading o ++ u.records) 0) inside)

    stood_stays : (s : ℕ) → IsIn section.reading.stood s → (to z).linked s ≡ true → Stay s
    stood_stays s has = met_stays section.entered s
        (⊎_elim (λ l. inl l) (λ (r : live s × IsOdd (m (Life s))). inr r.0) (was.stood s has).here)

    placed_after : (s : ℕ) → Place m g section.key live (MayPass vs section.key section.entered)
        (WasSaid (updates_of h) section.key section.from) s
        → Place later (to z) section.key live_later (MayPass (us z) section.key section.entered)
        (WasSaid (updates_of (hs z)) section.key section.from) s
    placed_after =
        readers_turn m later n g (turn z) i.tree.shape (turns z) section.key live live_later
        (MayPass vs section.key section.entered) (MayPass (us z) section.key section.entered)
        (WasSaid (updates_of h) section.key section.from) (WasSaid (updates_of (hs z)) section.key section.from) (record {
          out = λ s r. r.out;
          unmet = λ s r. gone_not_new s r.at r.gone;
          grow = held section.entered;
          gone_x = held_x section.entered early;
          gone_y = held_y section.entered early;
          keep = said section.key section.from;
          now = λ s range stops. subst (WasSaid (updates_of h) section.key section.from)
              (sym (ended_is m n g (map_now h) section.key s i.tree.shape i.tree.map (i.seats.sections j u e section inside).key_fits range
              stops (map_now h section.key) refl)) (told_now k m vs h i j u section e inside);
          spare = may_still vs id v (w z) there moving_same section.key section.entered;
        })

    served_after : IsServed later (to z) (hs z) (us z) section
    served_after = record {
      placed = λ none. (let q = was.placed none in
          record {
            place = placed_after (state_slot section.reading.state) q.place;
            answered = answered_by (updates_of h) (updates_of (hs z)) section
                (said section.key section.from) section.reading.state q.answered;
          });
      lists = was.lists;
      walking = λ node parent a value walk found on.
          (let q = was.walking node parent a value walk found on in
          let stands : IsIn section.reading.stood node = subst (IsIn section.reading.stood) (ap state_slot found) reading.stands in
          let walked = reading.walk walk on in
          record {
            walks = λ l. (let r = stood_stays node stands l in
                walks_turn m later n g (turn z) i.tree.shape (turns z) node live live_later (λ s r. r.out)
                (held section.entered) (held_x section.entered early) (held_y section.entered early) r walk.slot (q.walks r.on));
            parent = λ l l'. (let r = stood_stays node stands l in let r' = stood_stays walk.parent walked.parent_stood l' in
                ⊎_elim (λ o. inl o) (λ way. inr (path_turn m later n g (turn z) i.tree.shape (turns z) node walk.parent r way r'))
                (q.parent r.on r'.on));
          });
      stood = λ s has. (let q = was.stood s has in record {
        here = ⊎_elim (λ (l : g.linked s ≡ true). stood_here s l)
            (λ (r : live s × IsOdd (m (Life s))). inr (held section.entered s r.0, r.1)) q.here;
        key = q.key;
        life = q.life;
      });
      way = way_by g (to z) section.reading (λ a b has has' lt. omega (arith, lt, rank_stood a has, rank_stood b has')) was.way;
    }
      where
        rank_stood : (s : ℕ) → IsIn section.reading.stood s → (to z).rank s ≡ 2 * g.rank s + 1
        rank_stood s has = ⊎_elim (λ (l : g.linked s ≡ true). rank_linked s l)
            (λ (r : live s × IsOdd (m (Life s))). rank_gone s (r.0).at (r.0).gone) (was.stood s has).here

        stood_here : (s : ℕ) → g.linked s ≡ true → ((to z).linked s ≡ true) ⊎ (live_later s × IsOdd (m (Life s)))
        stood_here s l = ⊎_elim
            (λ (e : s ≡ x). inr
            (subst live_later (sym e) (held_x section.entered early), subst (λ q. IsOdd (m (Life q))) (sym e) (x_on z).1))
            (λ r. ⊎_elim
            (λ (e : s ≡ y). inr
            (subst live_later (sym e) (held_y section.entered early), subst (λ q. IsOdd (m (Life q))) (sym e) (y_on z).1))
            (λ r. inl (stays_on s r)) r) (stay_of s l)

  -- a kept record of a view
  module _ (j : ℕ) (u : View) (q : Reading) (e : get_elem? vs j ≡ some u) (has : IsIn (readings_of u) q) (kept : IsReadingKept m g q)
      (rec : IsRecord m g vs q) where
    -- a slot that is as recorded stays
    recorded_stays : (s : ℕ) → IsAsRecorded m q s → Stay s
    recorded_stays s r =
        let ne = not_even z s (recorded_even m q s r) in
        record { on = recorded_linked m g q s kept r; not_x = ne.0; not_y = ne.1 }

    still_stays : (s : ℕ) → IsStillLinked later (to z) q s → Stay s
    still_stays s r = ⊎_elim
        (λ (v : s ≡ top). absurd (unread z top (top_off z) (top_even z) j u q r.generation e has
        (subst (λ c. LoadedGeneration q c r.generation) v r.recorded) (ap (λ c. m (Life c) / 2) (sym v) ∙ r.same)))
        (λ o. ⊎_elim
        (λ (v : s ≡ sub). absurd (unread z sub (sub_off z) (sub_even z) j u q r.generation e has
        (subst (λ c. LoadedGeneration q c r.generation) v r.recorded) (ap (λ c. m (Life c) / 2) (sym v) ∙ r.same)))
        (λ r. r) o)
        (which m later n g (turn z) i.tree.shape (turns z) s r.linked)

    was_recorded : (s : ℕ) → IsAsRecorded later q s → IsAsRecorded m q s
    was_recorded = recorded_back m later (λ s. refl) q

    record_after : IsRecord later (to z) (us z) q
    record_after = record {
      key_fits = rec.key_fits;
      side = λ s tag a missed as_now known empty same settled.
          (let life = was_recorded s as_now in
          let r = recorded_stays s life in
          ⊎_elim (λ o. inl (old_still vs id v (w z) there moving_same q.key s o))
          (λ o. inr (belongs_turn m later n g (turn z) i.tree.shape (turns z) q.key s a r.on o))
          (rec.side s tag a missed life known (link_back z s a empty) same (λ o. settled (emptied_still z s a o))));
      walk = λ node parent a value walk found on. (let o = rec.walk node parent a value walk found on in record {
        parent = λ l even. (let r = still_stays node l in let was = was_recorded walk.parent even in
            ⊎_elim (λ c. inl c) (λ way. inr (path_turn m later n g (turn z) i.tree.shape (turns z) node walk.parent r way
            (recorded_stays walk.parent was))) (o.parent (back node r l) was));
        slot = λ l even. (let r = still_stays node l in let was = was_recorded walk.slot even in
            path_turn m later n g (turn z) i.tree.shape (turns z) node walk.slot r (o.slot (back node r l) was)
            (recorded_stays walk.slot was));
      });
    }
      where
        back : (s : ℕ) → Stay s → IsStillLinked later (to z) q s → IsStillLinked m g q s
        back s r l = record { linked = r.on; generation = l.generation; recorded = l.recorded; same = l.same }

  -- where a slot that goes leads
  abbrev Leads : ℕ → ℕ → Type 0
  Leads at c = ((to z).linked c ≡ true) ⊎ IsGoneSince (hs z) at c

  at_lower : (c : ℕ) (a : Side) → m (Link y a) ≡ c → c ≢ 0 → Leads (length h + 1) c
  at_lower c a f nz = inl (stays_on c (child_stays m later n g (turn z) i.tree.shape (turns z) y c a (inl refl) f nz))

  at_upper : (c : ℕ) (a : Side) → m (Link x a) ≡ c → c ≢ 0 → Leads (length h) c
  at_upper c a f nz = ⊎_elim
      (λ (v : c ≡ y). inr (record {
        at = length h + 1;
        gone = ap (λ q. gone_at q (hs z)) v ∙ two_gone_lower who_place h x y (not_same z);
        later = omega arith;
      }))
      (λ ny. inl (stays_on c (let d = i.tree.shape.below x c a (x_on z).0 f nz in
      record { on = d.linked; not_x = λ v. omega (arith, d.rank, ap g.rank v); not_y = ny })))
      (cases_eq c y)
    where
      who_place : ℕ
      who_place = v.allowance.place

  aged_after : AreAged later (to z) (us z) (hs z)
  aged_after s at c a gone met link nz = ⊎_elim
      (λ (e : s ≡ x).
      (let same : at ≡ length h = some_is (sym gone ∙ ap (λ q. gone_at q (hs z)) e ∙ two_gone_upper v.allowance.place h x y (not_same z)) in
      let f : m (Link x a) ≡ c =
      sym (link_off m later n g (turn z) i.tree.shape (turns z) x a (x_not_p m later n g (turn z) i.tree.shape (turns z)))
      ∙ ap (λ q. later (Link q a)) (sym e) ∙ link in
      record { rank = rank_from x (x_on z).0 e f; leads = subst (λ q. Leads q c) (sym same) (at_upper c a f nz) }))
      (λ nx. ⊎_elim
      (λ (e : s ≡ y).
      (let same : at ≡ length h + 1 =
      some_is (sym gone ∙ ap (λ q. gone_at q (hs z)) e ∙ two_gone_lower v.allowance.place h x y (not_same z)) in
      let f : m (Link y a) ≡ c =
      sym (link_off m later n g (turn z) i.tree.shape (turns z) y a (y_not_p m later n g (turn z) i.tree.shape (turns z)))
      ∙ ap (λ q. later (Link q a)) (sym e) ∙ link in
      record { rank = rank_from y (y_on z).0 e f; leads = subst (λ q. Leads q c) (sym same) (at_lower c a f nz) }))
      (λ ny. other nx ny) (cases_eq s y))
      (cases_eq s x)
    where
      some_is : {d e : ℕ} → Some d ≡ Some e → d ≡ e
      some_is e = cc

      rank_from : (t : ℕ) → g.linked t ≡ true → s ≡ t → m (Link t a) ≡ c → (to z).rank s < (to z).rank c
      rank_from t l e f = let d = i.tree.shape.below t c a l f nz in
          omega (arith, d.rank, rank_linked t l, rank_linked c d.linked, ap (to z).rank e)

      led : at < length h → (g.linked c ≡ true) ⊎ IsGoneSince h at c → Leads at c
      led small (inl l) = ⊎_elim
          (λ (e : c ≡ x). inr (record {
            at = length h;
            gone = ap (λ q. gone_at q (hs z)) e ∙ two_gone_upper v.allowance.place h x y (not_same z);
            later = small;
          }))
          (λ r. ⊎_elim
          (λ (e : c ≡ y). inr (record {
            at = length h + 1;
            gone = ap (λ q. gone_at q (hs z)) e ∙ two_gone_lower v.allowance.place h x y (not_same z);
            later = omega arith;
          }))
          (λ r. inl (stays_on c r)) r) (stay_of c l)
      led small (inr q) = inr (record { at = q.at; gone = gone_same c (unlinked_off c q.at q.gone) ∙ q.gone; later = q.later })

      other : s ≢ x → s ≢ y → LeadsOn (to z) (hs z) at s c
      other nx ny =
          let was : gone_at s h ≡ Some at = sym (two_gone_other v.allowance.place h x y (not_same z) s nx ny) ∙ gone in
          let off = unlinked_off s at was in
          let aged = i.readers.ages s at c a was (met_outside vs id v (w z) there (outside z) at met)
          (sym (link_off m later n g (turn z) i.tree.shape (turns z) s a
          (λ e. (let on = (turns z).parent in let q : true ≡ false = sym on ∙ ap g.linked (sym e) ∙ off in absurd (cc)))) ∙ link) nz in
          let rank_c : (to z).rank c ≡ 2 * g.rank c + 1 =
          ⊎_elim (λ l. rank_linked c l) (λ (q : IsGoneSince h at c). rank_gone c q.at q.gone) aged.leads in
          record { rank = omega (arith, aged.rank, rank_gone s at was, rank_c); leads = led (gone_at-below s h at was) aged.leads }

  pub rotate_readers : ReaderParts later (to z) (us z) (hs z)
  rotate_readers = record {
    readings = each_set (λ j u. Each (readings_of u) IsReading) vs id (w z) (i.readers.readings id v there)
        (λ j u ne e. i.readers.readings j u e);
    served = each_set (λ j u. (section : Section) → u.section ≡ Some section → IsServed later (to z) (hs z) (us z) section) vs id (w z)
        (λ section is. absurd (let q : None ≡ Some section = sym (outside z) ∙ is in cc))
        (λ j u ne e section is. served_after j u section e is);
    records = each_set (λ j u. Each u.records (IsRecord later (to z) (us z))) vs id (w z)
        (λ l q e. one id v there l q e) (λ j u ne e l q is. one j u e l q is);
    ages = aged_after;
  }
    where
      one : (j : ℕ) (u : View) → get_elem? vs j ≡ some u → (l : ℕ) (q : Reading) → get_elem? u.records l ≡ some q
          → IsRecord later (to z) (us z) q
      one j u e l q is =
          let a = in_second (open_reading u.section) u.records q (l, is) in
          record_after j u q e a (i.locks.readings j u e a.0 q a.1) (i.readers.records j u e l q is)

  -- A listing over a rotation: one that has been at a slot that goes may go on from there.
  rank_of : (s : ℕ) → s ≢ top → s ≢ sub → (to z).rank s ≡ 2 * g.rank s + 1
  rank_of s nt ns = rank_else m later n g (turn z) i.tree.shape (turns z) s nt ns

  module _ (entered : ℕ) (early : entered < length h) where
    abbrev met_before : ℕ → Type 0
    met_before = IsHeldBack g h entered

    abbrev met_later : ℕ → Type 0
    met_later = IsHeldBack (to z) (hs z) entered

    abbrev Going : Gap → ℕ → Type 0
    Going bounds s = GoesOn later (to z) met_later (map_now h) bounds s

    stays_going : (bounds : Gap) (s : ℕ) → Stay s → HasBounds g bounds s → Going bounds s
    stays_going bounds s r has =
        let nt = not_top m later n g (turn z) i.tree.shape (turns z) s r.on in
        let ns = not_sub m later n g (turn z) i.tree.shape (turns z) s r.on in
        here (record {
          linked = stays_on s r;
          low = low_else m later n g (turn z) i.tree.shape (turns z) s nt ns ∙ has.low;
          high = high_else m later n g (turn z) i.tree.shape (turns z) s nt ns ∙ has.high;
        })

    -- past a slot that goes the walk goes on as it did, where it does so from the slots to which that one leads
    goes_past : (bounds : Gap) (s : ℕ) → HasBounds g bounds s → s ≢ 0 → s ≢ p → g.old s ≡ false → met_later s
        → ((a : Side) (c : ℕ) → m (Link s a) ≡ c → c ≢ 0 → HasBounds g (narrowed bounds (m (Key s)) a) c
        → Going (narrowed bounds (m (Key s)) a) c)
        → Going bounds s
    goes_past bounds s has node away young gone more = unlinked_going m n g (map_now h) i.tree.shape i.tree.map s node bounds has later
        (to z) met_later gone (i.tree.map.sound s has.linked node young) refl refl
        (λ a. link_off m later n g (turn z) i.tree.shape (turns z) s a away)
        (λ a c e nz. (let w = i.tree.shape.below s c a has.linked e nz in
        omega (arith, w.rank, rank_linked s has.linked, rank_linked c w.linked)))
        more

    lower_going : (bounds : Gap) → HasBounds g bounds y → Going bounds y
    lower_going bounds has = goes_past bounds y has (y_some z) (y_not_p m later n g (turn z) i.tree.shape (turns z)) (turns z).y_young
        (held_y entered early)
        (λ a c e nz below. (let w = i.tree.shape.below y c a (y_on z).0 e nz in
        stays_going _ c (record {
          on = w.linked;
          not_x = λ f. (let d = (at_y m later n g (turn z) i.tree.shape (turns z)).rank in omega (arith, w.rank, ap g.rank f));
          not_y = λ f. omega (arith, w.rank, ap g.rank f);
        }) below))

    upper_going : (bounds : Gap) → HasBounds g bounds x → Going bounds x
    upper_going bounds has = goes_past bounds x has (x_some z) (x_not_p m later n g (turn z) i.tree.shape (turns z)) (turns z).x_young
        (held_x entered early)
        (λ a c e nz below. (let w = i.tree.shape.below x c a (x_on z).0 e nz in
        ⊎_elim (λ (f : c ≡ y). subst (Going _) (sym f) (lower_going _ (subst (HasBounds g _) f below)))
        (λ ny. stays_going _ c (record { on = w.linked; not_x = λ f. omega (arith, w.rank, ap g.rank f); not_y = ny }) below)
        (cases_eq c y)))

    linked_going : (bounds : Gap) (s : ℕ) → HasBounds g bounds s → Going bounds s
    linked_going bounds s has = ⊎_elim (λ (e : s ≡ x). subst (Going bounds) (sym e) (upper_going bounds (subst (HasBounds g bounds) e has)))
        (λ r. ⊎_elim (λ (e : s ≡ y). subst (Going bounds) (sym e) (lower_going bounds (subst (HasBounds g bounds) e has)))
        (λ r. stays_going bounds s r has) r) (stay_of s has.linked)

    off_link : (s : ℕ) → met_before s → s ≢ p
    off_link s r e = let on = (turns z).parent in let off = r.out in let q : true ≡ false = sym on ∙ ap g.linked (sym e) ∙ off in
        absurd (cc)

    known_rank : (s : ℕ) → (g.linked s ≡ true) ⊎ met_before s → (to z).rank s ≡ 2 * g.rank s + 1
    known_rank s (inl l) = rank_linked s l
    known_rank s (inr r) = let ne = gone_not_new s r.at r.gone in rank_of s ne.0 ne.1

    pub going_after : (bounds : Gap) (s : ℕ) → GoesOn m g met_before (map_now h) bounds s
        → GoesOn later (to z) met_later (map_now (hs z)) bounds s
    going_after bounds s goes = subst (λ map. GoesOn later (to z) met_later map bounds s)
        (sym (two_map v.allowance.place h x y (not_same z))) (carry_going m later g (to z) met_before met_later (map_now h) (record {
          linked = linked_going;
          grow = held entered;
          key = λ s r. refl;
          value = λ s r. refl;
          link = λ s a r. link_off m later n g (turn z) i.tree.shape (turns z) s a (off_link s r);
          rank = λ s c r known lt. omega (arith, lt, known_rank s (inr r), known_rank c known);
        }) bounds s goes)

    pub rotate_lists : (listing : Listing) → ListsNow m g h entered listing → ListsNow later (to z) (hs z) entered listing
    rotate_lists listing l =
        let map_kept = two_map v.allowance.place h x y (not_same z) in
        record {
          facts = subst (λ map. Each listing.facts (λ (f : Fact). map f.key ≡ Some f.value)) (sym map_kept) l.facts;
          gaps = subst (λ map. Each listing.gaps (λ (gap : Gap). (q : ℕ) → IsBetween gap q → map q ≡ None)) (sym map_kept) l.gaps;
          visits = λ j t at. going_after t.bounds t.slot (l.visits j t at);
        }

  pub rotate_listings : ListingParts later (to z) (us z) (hs z)
  rotate_listings = listings_kept m later g (to z) vs id (w z) h (hs z) (outside z) (λ s. refl)
      (λ j u section s e is. here_after section.entered (entered_before k m vs h i j u section e is) s) i.listings
      (two_updates v.allowance.place h x y (not_same z))
      (λ j u section listing e is. rotate_lists section.entered (entered_before k m vs h i j u section e is) listing)
