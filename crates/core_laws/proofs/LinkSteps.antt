-- A step that stores one link and changes the chart at few slots: what each such step says, the parts on marks, seats, waiters and readers
-- after it, and that it keeps the invariant where the others hold.
use Rattle.std.proofs.Common.{◌≡◌, ◌≢◌, ℕ, ◌+◌, ◌<◌, ◌≤◌, true, false, List, length, set, Option, Some, None, refl, sym, ap, subst, ◌∙◌, ◌⊎◌, inl, inr, ⊎_elim, arith, ◌∷◌, ◌++◌, [], ◌/◌, ◌^◌}
use Rattle.std.proofs.lemmas.Bool.{cases_eq}
use Rattle.prcu_marks.specs.declared.mark.Mark.{Mark}
use Rattle.prcu_marks.specs.declared.mark.Side.{Side}
use Rattle.prcu_marks.specs.Marks.{updates_of, gone_at}
use Rattle.prcu_model.specs.Dictionary.{WasSaid}
use Rattle.core_state.specs.declared.words.Field.TheVariants.{Life, Link, Key}
use Rattle.core_state.specs.declared.view.Listing.{Listing}
use Rattle.core_state.specs.declared.view.View.{View}
use Rattle.core_state.specs.Marks.{AreMarks}
use Rattle.core_state.specs.Memory.{IsEven, IsOdd, Memory, stored, slot_count}
use Rattle.core_state.specs.Links.{newly_retired}
use Rattle.core_state.specs.Tree.{Chart, IsBelow, low_of, Belongs, IsInRange, IsHeldBack, OnRightLeft, MayPass, IsOldFor, IsEmptied, Place, HoldsMap}
use Rattle.core_state.specs.Parts.{MarkParts, SeatParts, WaiterParts, ListsNow, ListingParts, IsReadingKept, state_slot, StandsWell, GoesTo, IsReading, IsServed, IsAsRecorded, IsStillLinked, IsRecord, AreAged, ReaderParts, map_now, CountParts, FrontParts, GraceParts, LockParts, SlotParts, AreMoving, IsGoneSince, LeadsOn}
use Rattle.core_frames.specs.Laws.{KeepsPast, IsKept}
use Rattle.core_frames.proofs.PlainLaws.{entered_before, clocked_before, told_now}
use Rattle.core_frames.proofs.Charts.{bool_cases}
use Rattle.core_frames.proofs.WholeFrames.{SameForMore, mark_frame_plain, seat_frame_plain, waiter_frame_plain, Stepper}
use Rattle.core_frames.proofs.Marks.{PlainMarks}
use Rattle.core_frames.proofs.Roles.{gone_off}
use Rattle.core_laws.proofs.ChartChanges.{ChangesChart, in_after, was_empty, belongs_after, readers, told_here, path_after, walks_after, shape_after}
use Rattle.core_laws.proofs.Stores.{listings_kept, listings_behind, link_stores}
use Rattle.core_state.specs.Views.{known_in, known_under, readings_of, open_reading}
use Rattle.core_state.specs.declared.words.Field.{Field}
use Rattle.prcu_marks.specs.declared.mark.Side.TheVariants.{Left, Right}
use mathlib.Core.Option.{some}
use lib.ListN.{get_elem?}
use Rattle.prcu_marks.proofs.Marks.{gone_at-below}
use Rattle.core_state.specs.declared.view.Reading.{Reading}
use Rattle.core_state.specs.declared.view.Section.{Section}
use Rattle.core_frames.proofs.TreeFrames.{answered_by, met_still, recorded_even, recorded_linked, recorded_back}
use Rattle.list_laws.specs.Counts.{IsIn, Each}
use Rattle.core_frames.proofs.Views.{way_same}
use Rattle.list_laws.proofs.Lists.{each_set, in_second}

-- Side b of slot p led to d and leads to c from now on; the chart, the view and the marks after it.
pub record LinkStep : Type 0 where
  pub who : Stepper
  pub p : ℕ
  pub b : Side
  pub d : ℕ
  pub c : ℕ
  pub lower : ℕ → ℕ
  pub upper : ℕ → ℕ
  pub to : Chart
  pub w : View
  pub hs : List Mark
  pub changes : ChangesChart who.m (stored who.m (Link p b) c) (slot_count who.k) who.inv.chart to p b d c lower upper
  pub same : SameForMore who.v w hs
  pub outside : who.v.section ≡ None
  pub records : w.records ≡ who.v.records
  pub plain : PlainMarks who.v.allowance.place who.h hs
  pub marks : AreMarks who.k.places hs
  pub said : (key from : ℕ) (o : Option ℕ) → WasSaid (updates_of who.h) key from o → WasSaid (updates_of hs) key from o
  -- d is unlinked now if it is a slot; c, if it wasn't linked, was never unlinked and isn't marked
  pub gone_same : (s : ℕ) → (s ≡ d → s ≡ 0) → gone_at s hs ≡ gone_at s who.h
  pub gone_now : d ≢ 0 → (at : ℕ) × (gone_at d hs ≡ Some at) × (length who.h ≤ at)
  pub odd : d ≢ 0 → IsOdd (who.m (Life d))
  pub fresh : who.inv.chart.linked c ≡ false → (gone_at c who.h ≡ None) × IsEven (who.m (Life c))

abbrev pub words_after : LinkStep → Memory
words_after z = stored z.who.m (Link z.p z.b) z.c

abbrev pub views_after : LinkStep → List View
views_after z = set z.who.vs z.who.id z.w

module _ (z : LinkStep) where
  open z use {who.{k, m, vs, h, id, v, there, inv as i, inv.{chart as g}}, to, w, hs, p, b, d, c}

  -- where d is a slot: it is retired, with what was known under its lock
  pub record Retires : Type 0 where
    pub node : d ≢ 0
    pub at : ℕ
    pub here : gone_at d hs ≡ Some at
    pub retired : w.hands.retired ≡ v.hands.retired ++ newly_retired v d at ∷ []
    pub knows : (field : Field) (number : ℕ) → known_in (known_under v d) field ≡ Some number → m field ≡ number

  pub below : d ≢ 0 → IsBelow m g p b d
  below nz = i.tree.shape.below p d b z.changes.parent z.changes.link nz

  pub unlinked_off : (s at : ℕ) → gone_at s h ≡ Some at → g.linked s ≡ false
  unlinked_off s at gone = gone_off m (slot_count k) g vs h i.slots s at gone

  pub still_linked : (s : ℕ) → g.linked s ≡ true → s ≢ d → to.linked s ≡ true
  still_linked s l ne = z.changes.stays s l (λ e. absurd (ne e))

  -- what is in the range of a slot, or belongs below a side of it, does so still, where the lower bound doesn't pass it
  pub range_stays : (x s : ℕ) → to.linked s ≡ true → z.lower (g.low s) ≤ x → IsInRange g x s → IsInRange to x s
  range_stays = in_after m (words_after z) (slot_count k) g to p b d c z.lower z.upper i.tree.shape z.changes

  pub side_stays : (x s : ℕ) (a : Side) → g.linked s ≡ true → to.linked s ≡ true → (a ≡ Left → z.upper (m (Key s)) ≡ m (Key s))
      → z.lower (low_of m g s a) ≤ x → Belongs m g x s a → Belongs (words_after z) to x s a
  side_stays = belongs_after m (words_after z) (slot_count k) g to p b d c z.lower z.upper i.tree.shape z.changes

  pub empty_stays : c ≢ 0 → (s : ℕ) (a : Side) → words_after z (Link s a) ≡ 0 → m (Link s a) ≡ 0
  empty_stays = was_empty m (words_after z) (slot_count k) g to p b d c z.lower z.upper i.tree.shape z.changes

  -- what is linked afterwards isn't the slot that goes; nor is what isn't marked
  pub not_gone : (s : ℕ) → (to.linked s ≡ true) ⊎ IsEven (m (Life s)) → s ≡ d → s ≡ 0
  not_gone s which e = ⊎_elim (λ (y : d ≡ 0). e ∙ y) (λ nz. absurd (⊎_elim
      (λ (t : to.linked s ≡ true). (let off = z.changes.goes nz in cc (ap to.linked e)))
      (λ (even : IsEven (m (Life s))). (let o = z.odd nz in let f = ap (λ y. m (Life y)) e in omega arith)) which)) (cases_eq d 0)

  -- what isn't linked isn't the slot that goes
  pub off_not_gone : (s : ℕ) → g.linked s ≡ false → s ≡ d → s ≡ 0
  off_not_gone s off e = ⊎_elim (λ (y : d ≡ 0). e ∙ y) (λ nz. absurd (let on = (below nz).linked in cc (ap g.linked e))) (cases_eq d 0)

  -- what a reader may still meet stays so, and so does the slot that goes
  pub held : (entered s : ℕ) → IsHeldBack g h entered s → IsHeldBack to hs entered s
  held entered s y = record {
    out = ⊎_elim (λ (t : to.linked s ≡ true). absurd (unmet (z.changes.comes s t y.out))) (λ off. off) (bool_cases (to.linked s));
    at = y.at;
    gone = z.gone_same s (off_not_gone s y.out) ∙ y.gone;
    later = y.later;
  }
    where
      unmet : s ≡ c → ⊥
      unmet e = let none = (z.fresh (ap g.linked (sym e) ∙ y.out)).0 in
          absurd (let q : None ≡ Some y.at = sym none ∙ ap (λ x. gone_at x h) (sym e) ∙ y.gone in cc)

  pub held_gone : (entered : ℕ) → entered < length h → d ≢ 0 → IsHeldBack to hs entered d
  held_gone entered lt nz = let now = z.gone_now nz in
      record { out = z.changes.goes nz; at = now.0; gone = now.1; later = (let a = now.2 in omega arith) }

  pub here_after : (entered : ℕ) → entered < length h → (s : ℕ) → (g.linked s ≡ true) ⊎ IsHeldBack g h entered s
      → (to.linked s ≡ true) ⊎ IsHeldBack to hs entered s
  here_after entered lt s which = ⊎_elim
      (λ (l : g.linked s ≡ true). ⊎_elim
      (λ (e : s ≡ d). ⊎_elim
      (λ (y : d ≡ 0). inl (z.changes.stays s l (λ _. e ∙ y)))
      (λ nz. inr (subst (IsHeldBack to hs entered) (sym e) (held_gone entered lt nz))) (cases_eq d 0))
      (λ ne. inl (still_linked s l ne)) (cases_eq s d))
      (λ y. inr (held entered s y)) which

  -- who may be met and is linked afterwards was linked
  pub met_linked : (entered s : ℕ) → (g.linked s ≡ true) ⊎ IsHeldBack g h entered s → to.linked s ≡ true → g.linked s ≡ true
  met_linked entered s which t = ⊎_elim (λ l. l) (λ (y : IsHeldBack g h entered s). absurd (let off = (held entered s y).out in cc)) which

  -- the parts that read neither the chart nor the words of slots
  pub marks_after : MarkParts k.places (views_after z) hs
  marks_after = mark_frame_plain h hs v.allowance.place z.plain k.places vs id v w there z.same z.marks i.marks

  pub seats_after : SeatParts k.places (views_after z) hs
  seats_after = seat_frame_plain h hs v.allowance.place z.plain k.places vs id v w there z.who.works refl z.same i.seats

  pub waiters_after : WaiterParts k (words_after z) (views_after z) hs
  waiters_after = waiter_frame_plain h hs v.allowance.place z.plain k m (words_after z) vs id v w there z.same refl refl
      (clocked_before k m vs h i) i.waiters

  -- no life and no tag falls, and unlinked slots stay as they are
  pub past_kept : KeepsPast m h (words_after z)
  past_kept = record {
    lives = λ s. omega arith;
    tags = λ s a. omega arith;
    content = λ s field gone marked content. (link_stores m p b c).content s field
        (λ e. absurd (let off = unlinked_off s gone.0 gone.1 in let on = z.changes.parent in cc (ap g.linked e))) content;
  }

  -- the parts on listings: without an update, by what becomes of what they have found
  pub listings_by : updates_of hs ≡ updates_of h
      → ((entered : ℕ) → entered < length h → (listing : Listing) → ListsNow m g h entered listing
      → ListsNow (words_after z) to hs entered listing)
      → ListingParts (words_after z) to (views_after z) hs
  listings_by updates now =
      listings_kept m (words_after z) g to vs id w h hs (z.same.section ∙ z.outside) (λ s. refl)
      (λ j u section s e is. here_after section.entered (entered_before k m vs h i j u section e is) s) i.listings updates
      (λ j u section listing e is. now section.entered (entered_before k m vs h i j u section e is) listing)

  -- and with one
  pub listings_past : length (updates_of hs) ≡ length (updates_of h) + 1 → ListingParts (words_after z) to (views_after z) hs
  listings_past = listings_behind m (words_after z) g to vs id w h hs (z.same.section ∙ z.outside) (λ s. refl)
      (λ j u section s e is. here_after section.entered (entered_before k m vs h i j u section e is) s) i.listings

-- The parts on readers after a step that stores one link and changes the chart at few slots.

module _ (z : LinkStep) where
  open z use {who.{k, m, vs, h, id, v, there, inv as i, inv.{chart as g}}, to, w, hs, p, b, d, c, lower, upper, changes}

  abbrev n : ℕ
  n = slot_count k

  -- what each step says of readers: of the old successors that they may pass, of the ranges in which they stand, of the sides that they
  -- recorded, and of the sides that are emptied
  pub record LinkReads : Type 0 where
    pub spare : (j : ℕ) (u : View) (section : Section) → get_elem? vs j ≡ some u → u.section ≡ Some section → (s : ℕ)
        → MayPass vs section.key section.entered s → g.linked s ≡ true → g.old s ≡ true
        → (s ≢ d) × MayPass (views_after z) section.key section.entered s × (to.old s ≡ true)
    pub other : (j : ℕ) (u : View) (section : Section) → get_elem? vs j ≡ some u → u.section ≡ Some section → (s : ℕ)
        → IsInRange g section.key s → (s ≡ d → s ≡ 0)
        → Place (words_after z) to section.key (IsHeldBack to hs section.entered) (MayPass (views_after z) section.key section.entered)
        (WasSaid (updates_of hs) section.key section.from) s
    pub old_for : (x s : ℕ) → IsEven (m (Life s)) → IsOldFor vs x s → IsOldFor (views_after z) x s
    pub side : (x s : ℕ) (a : Side) → x < 2 ^ 64 → g.linked s ≡ true → IsEven (m (Life s)) → (s ≡ 0 → a ≡ Right) → m (Link s a) ≡ 0
        → Belongs m g x s a → IsOldFor (views_after z) x s ⊎ Belongs (words_after z) to x s a
    pub link_back : (s : ℕ) (a : Side) → (IsEmptied (views_after z) s a → ⊥) → words_after z (Link s a) ≡ 0 → m (Link s a) ≡ 0
    pub emptied : (s : ℕ) (a : Side) → IsEmptied vs s a → IsEmptied (views_after z) s a

  module _ (r : LinkReads) where
    -- an open section of another view
    module _ (j : ℕ) (u : View) (section : Section) (e : get_elem? vs j ≡ some u) (inside : u.section ≡ Some section) where
      abbrev live : ℕ → Type 0
      live = IsHeldBack g h section.entered

      abbrev later : ℕ → Type 0
      later = IsHeldBack to hs section.entered

      early : section.entered < length h
      early = entered_before k m vs h i j u section e inside

      was : IsServed m g h vs section
      was = i.readers.served j u e section inside

      reading : IsReading section.reading
      reading = i.readers.readings j u e 0 section.reading (ap (λ o. get_elem? (open_reading o ++ u.records) 0) inside)

      stood_linked : (s : ℕ) → IsIn section.reading.stood s → to.linked s ≡ true → g.linked s ≡ true
      stood_linked s has = met_linked z section.entered s
          (⊎_elim (λ l. inl l) (λ (x : live s × IsOdd (m (Life s))). inr x.0) (was.stood s has).here)

      fresh_unmet : (s : ℕ) → live s → s ≡ c → g.linked c ≡ true
      fresh_unmet s y e = ⊎_elim (λ l. l) (λ off. absurd
          (let none = (z.fresh off).0 in let q : None ≡ Some y.at = sym none ∙ ap (λ x. gone_at x h) (sym e) ∙ y.gone in cc))
          (bool_cases (g.linked c))

      placed_after : (s : ℕ) → Place m g section.key live (MayPass vs section.key section.entered)
          (WasSaid (updates_of h) section.key section.from) s
          → Place (words_after z) to section.key later (MayPass (views_after z) section.key section.entered)
          (WasSaid (updates_of hs) section.key section.from) s
      placed_after =
          readers m (words_after z) n g to p b d c lower upper i.tree.shape changes section.key live later
          (MayPass vs section.key section.entered) (MayPass (views_after z) section.key section.entered)
          (WasSaid (updates_of h) section.key section.from) (WasSaid (updates_of hs) section.key section.from) (record {
            out = λ s y. y.out;
            unmet = fresh_unmet;
            grow = held z section.entered;
            gone = held_gone z section.entered early;
            keep = z.said section.key section.from;
            now = λ _. told_here m (words_after z) n g to p b d c lower upper i.tree.shape changes (map_now h) section.key d
                (WasSaid (updates_of h) section.key section.from) i.tree.map (i.seats.sections j u e section inside).key_fits
                (told_now k m vs h i j u section e inside);
            spare = r.spare j u section e inside;
            other = r.other j u section e inside;
          })

      served_after : IsServed (words_after z) to hs (views_after z) section
      served_after = record {
        placed = λ none. (let q = was.placed none in
            record {
              place = placed_after (state_slot section.reading.state) q.place;
              answered = answered_by (updates_of h) (updates_of hs) section
                  (z.said section.key section.from) section.reading.state q.answered;
            });
        lists = was.lists;
        walking = λ node parent a value walk found on.
            (let q = was.walking node parent a value walk found on in
            let here : IsIn section.reading.stood node = subst (IsIn section.reading.stood) (ap state_slot found) reading.stands in
            let walked = reading.walk walk on in
            record {
              walks = λ t. (let l = stood_linked node here t in
                  walks_after m (words_after z) n g to p b d c lower upper i.tree.shape changes node live later (λ s y. y.out)
                  (held z section.entered) (held_gone z section.entered early) l walk.slot (q.walks l));
              parent = λ t t'. (let l = stood_linked node here t in
                  ⊎_elim (λ o. inl o) (λ way. inr (path_after m
                  (words_after z) n g to p b d c lower upper i.tree.shape changes node walk.parent l way
                  (not_gone z walk.parent (inl t')))) (q.parent l (stood_linked walk.parent walked.parent_stood t')));
            });
        stood = λ s has. (let q = was.stood s has in record {
          here = ⊎_elim
              (λ (l : g.linked s ≡ true). stood_here s (here_after z section.entered early s (inl l)) l)
              (λ (x : live s × IsOdd (m (Life s))). inr (held z section.entered s x.0, x.1)) q.here;
          key = q.key;
          life = q.life;
        });
        way = way_same g to section.reading (λ s has. changes.rank s (λ e. ⊎_elim
            (λ (l : g.linked s ≡ true). ap g.linked (sym e) ∙ l) (λ (x : live s × IsOdd (m (Life s))). fresh_unmet s x.0 e)
            (was.stood s has).here)) was.way;
      }
        where
          stood_here : (s : ℕ) → (to.linked s ≡ true) ⊎ later s → g.linked s ≡ true → (to.linked s ≡ true) ⊎ (later s × IsOdd (m (Life s)))
          stood_here s (inl t) l = inl t
          stood_here s (inr y) l = ⊎_elim
              (λ (e : s ≡ d). inr (
                y,
                subst (λ x. IsOdd (m (Life x))) (sym e)
                    (z.odd (λ q. absurd (let out = y.out in let on = changes.stays s l (λ _. e ∙ q) in cc))),
              ))
              (λ ne. inl (still_linked z s l ne)) (cases_eq s d)

    -- a kept record of a view
    module _ (x : Reading) (reading : IsReading x) (kept : IsReadingKept m g x) (t : IsRecord m g vs x) where
      still_back : (s : ℕ) → IsStillLinked (words_after z) to x s → IsStillLinked m g x s
      still_back s q = record {
        linked = ⊎_elim (λ l. l) (λ off. absurd (unread off (changes.comes s q.linked off))) (bool_cases (g.linked s));
        generation = q.generation;
        recorded = q.recorded;
        same = q.same;
      }
        where
          unread : g.linked s ≡ false → s ≡ c → ⊥
          unread off e =
              let even = subst (λ y. IsEven (m (Life y))) (sym e) (z.fresh (ap g.linked (sym e) ∙ off)).1 in
              let l = q.recorded in
              let same : m (Life s) / 2 ≡ q.generation = q.same in
              let on = kept.linked s l.0 l.1 (let y = l.2 in omega arith) in
              cc

      was_recorded : (s : ℕ) → IsAsRecorded (words_after z) x s → IsAsRecorded m x s
      was_recorded = recorded_back m (words_after z) (λ s. refl) x

      record_after : IsRecord (words_after z) to (views_after z) x
      record_after = record {
        key_fits = t.key_fits;
        side = λ s tag a missed as_now known empty same settled.
            (let life = was_recorded s as_now in
            let none = r.link_back s a settled empty in
            let goes : GoesTo x s a = (subst (StandsWell x) missed reading.well).0 in
            let root : s ≡ 0 → a ≡ Right = λ y. ⊎_elim (λ (q : (s ≡ 0) × (a ≡ Right)). q.1) (λ q. absurd (q.0 y)) goes in
            ⊎_elim (λ o. inl (r.old_for x.key s (recorded_even m x s life) o))
            (λ q. r.side x.key s a t.key_fits (recorded_linked m g x s kept life) (recorded_even m x s life) root none q)
            (t.side s tag a missed life known none same (λ q. settled (r.emptied s a q))));
        walk = λ node parent a value walk found on. (let q = t.walk node parent a value walk found on in record {
          parent = λ y even. (let was = was_recorded walk.parent even in
              ⊎_elim (λ o. inl o) (λ way. inr (path node (still_back node y).linked walk.parent was way))
              (q.parent (still_back node y) was));
          slot = λ y even. (let was = was_recorded walk.slot even in
              path node (still_back node y).linked walk.slot was (q.slot (still_back node y) was));
        });
      }
        where
          path : (node : ℕ) → g.linked node ≡ true → (s : ℕ) → IsAsRecorded m x s → OnRightLeft m node s
              → OnRightLeft (words_after z) node s
          path node l s even way = path_after m (words_after z) n g to p b d c lower upper i.tree.shape changes node s l way
              (not_gone z s (inr (recorded_even m x s even)))

    aged_after : AreAged (words_after z) to (views_after z) hs
    aged_after s at y a gone met link nz = ⊎_elim (λ (e : s ≡ d). at_gone e (cases_eq d 0)) (λ ne. other (λ e. absurd (ne e)))
        (cases_eq s d)
      where
        rank_gone : (t p : ℕ) → gone_at t h ≡ Some p → to.rank t ≡ g.rank t
        rank_gone t p is = changes.rank t (λ e. ⊎_elim (λ l. l) (λ off. absurd
            (let none = (z.fresh off).0 in let q : None ≡ Some p = sym none ∙ ap (λ x. gone_at x h) (sym e) ∙ is in cc))
            (bool_cases (g.linked c)))

        rank_on : (t : ℕ) → g.linked t ≡ true → to.rank t ≡ g.rank t
        rank_on t l = changes.rank t (λ e. ap g.linked (sym e) ∙ l)

        led : at < length h → (g.linked y ≡ true) ⊎ IsGoneSince h at y → (to.linked y ≡ true) ⊎ IsGoneSince hs at y
        led small (inl l) = ⊎_elim
            (λ (e : y ≡ d). (let now = z.gone_now (λ q. nz (e ∙ q)) in
            inr (record { at = now.0; gone = ap (λ q. gone_at q hs) e ∙ now.1; later = (let q = now.2 in omega arith) })))
            (λ ne. inl (still_linked z y l ne)) (cases_eq y d)
        led small (inr q) = inr (record {
          at = q.at;
          gone = z.gone_same y (off_not_gone z y (unlinked_off z y q.at q.gone)) ∙ q.gone;
          later = q.later;
        })

        other : (s ≡ d → s ≡ 0) → LeadsOn to hs at s y
        other not =
            let was : gone_at s h ≡ Some at = sym (z.gone_same s not) ∙ gone in
            let off = unlinked_off z s at was in
            let aged = i.readers.ages s at y a was (met_still vs id v w there z.same.section at met)
            (sym (changes.stores.link s a (λ e. absurd (let on = changes.parent in cc (ap g.linked e)))) ∙ link) nz in
            let rank_y : to.rank y ≡ g.rank y =
            ⊎_elim (λ l. rank_on y l) (λ (x : IsGoneSince h at y). rank_gone y x.at x.gone) aged.leads in
            record { rank = omega (arith, aged.rank, rank_gone s at was, rank_y); leads = led (gone_at-below s h at was) aged.leads }

        at_gone : s ≡ d → (d ≡ 0) ⊎ (d ≢ 0) → LeadsOn to hs at s y
        at_gone e (inl q) = other (λ _. e ∙ q)
        at_gone e (inr some_d) =
            let apart : s ≢ p = λ f. omega (arith, (below z some_d).rank, ap g.rank (sym f ∙ e)) in
            let child = i.tree.shape.below d y a (below z some_d).linked
            (ap (λ q. m (Link q a)) (sym e) ∙ sym (changes.stores.link s a (λ f. absurd (apart f))) ∙ link) nz in
            record {
              rank = omega (arith, child.rank, rank_on y child.linked, rank_on d (below z some_d).linked, ap to.rank e);
              leads = inl (still_linked z y child.linked (λ f. omega (arith, child.rank, ap g.rank f)));
            }

    readings : readings_of w ≡ readings_of v
    readings = λ y. open_reading (z.same.section y) ++ z.records y

    pub readers_after : ReaderParts (words_after z) to (views_after z) hs
    readers_after = record {
      readings = each_set (λ j u. Each (readings_of u) IsReading) vs id w
          (subst (λ rs. Each rs IsReading) (sym readings) (i.readers.readings id v there)) (λ j u ne e. i.readers.readings j u e);
      served = each_set (λ j u. (section : Section) → u.section ≡ Some section
          → IsServed (words_after z) to hs (views_after z) section) vs id w
          (λ section is. absurd (let q : None ≡ Some section = sym z.outside ∙ sym z.same.section ∙ is in cc))
          (λ j u ne e section is. served_after j u section e is);
      records = each_set (λ j u. Each u.records (IsRecord (words_after z) to (views_after z))) vs id w
          (subst (λ rs. Each rs (IsRecord (words_after z) to (views_after z))) (sym z.records) (λ l x e. one id v there l x e))
          (λ j u ne e l x is. one j u e l x is);
      ages = aged_after;
    }
      where
        one : (j : ℕ) (u : View) → get_elem? vs j ≡ some u → (l : ℕ) (x : Reading) → get_elem? u.records l ≡ some x
            → IsRecord (words_after z) to (views_after z) x
        one j u e l x is =
            let a = in_second (open_reading u.section) u.records x (l, is) in
            record_after x (i.readers.readings j u e a.0 x a.1) (i.locks.readings j u e a.0 x a.1) (i.readers.records j u e l x is)

-- A step that stores one link keeps the invariant, where the parts that it changes hold after it; all others are framed.

module _ (z : LinkStep) where
  open z use {who.{k, m, vs, h, inv, inv.{chart as g}}, to, hs, p, b, d, c, lower, upper}

  -- the parts that the step changes
  pub record LinkParts : Type 0 where
    pub slots : SlotParts k.room (words_after z) (slot_count k) to (views_after z) hs
    pub locks : LockParts (words_after z) (slot_count k) to (views_after z)
    pub counts : CountParts k.tickets (words_after z) (slot_count k) to (views_after z) hs
    pub map : HoldsMap (words_after z) to (map_now hs)
    pub moves : AreMoving (words_after z) to hs (views_after z)
    pub reads : LinkReads z
    pub front : FrontParts (words_after z) (views_after z) hs
    pub listings : ListingParts (words_after z) to (views_after z) hs
    pub grace : GraceParts (views_after z) hs

  pub link_kept : LinkParts → IsKept k m h (words_after z) (views_after z) hs
  link_kept t = record {
    past = past_kept z;
    invariant = record {
      table = inv.table;
      chart = to;
      marks = marks_after z;
      seats = seats_after z;
      waiters = waiters_after z;
      slots = t.slots;
      locks = t.locks;
      counts = t.counts;
      tree = record {
        shape = shape_after m (words_after z) (slot_count k) g to p b d c lower upper inv.tree.shape z.changes;
        map = t.map;
        moves = t.moves;
      };
      readers = readers_after z t.reads;
      front = t.front;
      listings = t.listings;
      grace = t.grace;
    };
  }
