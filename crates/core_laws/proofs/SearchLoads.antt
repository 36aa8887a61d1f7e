-- Loads in a section: of a search, a walk or a listing, K17, and of the front, K37.
use Rattle.std.proofs.Common.{◌≡◌, ◌≢◌, ℕ, zero, suc, ◌+◌, ◌<◌, ◌≤◌, ◌==◌, ◌&&◌, cond, List, [], ◌∷◌, length, take, set, Some, None, refl, sym, ap, subst, ◌∙◌, inr, arith, ◌⊎◌, true, inl, ⊎_elim, ◌^◌, Bool, false, ◌++◌, Option, eq-eqb, ◌/◌, ◌*◌}
use mathlib.Core.Option.{some, some-injective, some-ne-none}
use lib.ListN.{get_elem?}
use Rattle.atomic_table.proofs.Lists.{set_here}
use Rattle.prcu_marks.specs.declared.mark.Mark.{Mark}
use Rattle.prcu_marks.specs.Marks.{Open, updates_of, gone_at, greatest_key}
use Rattle.key_interval.specs.Keys.{Holds, class_of}
use Rattle.core_state.specs.declared.shape.Shape.{Shape}
use Rattle.core_state.specs.declared.shape.Waiter.{Waiter}
use Rattle.core_state.specs.declared.shape.Waiter.TheVariants.{Eer, Domain, Deer}
use Rattle.core_state.specs.declared.words.Field.TheVariants.{Announced, Stamp, Count, Row, Lock, Life, Link, Key, Value, Tag, Front}
use Rattle.core_state.specs.declared.view.HeldLock.{HeldLock}
use Rattle.core_state.specs.declared.view.Listing.{Listing}
use Rattle.core_state.specs.declared.view.Reading.{Reading}
use Rattle.core_state.specs.declared.view.Section.{Section}
use Rattle.core_state.specs.declared.view.Waiting.{Waiting}
use Rattle.core_state.specs.declared.view.View.{View}
use Rattle.list_laws.specs.Counts.{times, IsIn, Each}
use Rattle.core_state.specs.Memory.{Memory, slot_count, IsOdd, IsEven}
use Rattle.core_state.specs.Views.{lock_of, Works, places_of, open_of, open_reading, readings_of, joined_retired, retired_of, IsLoadable, known_in}
use Rattle.core_state.specs.Marks.{begun}
use Rattle.core_state.specs.Steps.{spent_view, keys_of, spot_of, no_bounds, narrowed, visits_by_link, gaps_by_link, visits_by, facts_by, gaps_by, by_visits, listed_below, listed_root, listed, loaded, NeedsSearchLoad, after_search_load, NeedsListLoad, after_list_load, new_listing, looked, NeedsFrontLook, after_front_look}
use Rattle.core_state.specs.Parts.{IsHolderOf, HasFewLocks, IsLockKept, IsLockKnown, IsReadingKept, LockParts, IsOwned, SectionStands, IsCounted, IsOpenOf, SeatParts, IsClocked, IsTurnedOnce, inside_count, WaiterParts, IsReading, IsServed, IsListing, IsClear, map_now, IsBetween, GoesOn, here, past, StandsNow, IsVisit, HasOpen, IsGoneSince}
use Rattle.core_state.specs.Invariant.{HoldsNow}
use Rattle.list_laws.proofs.Lists.{at_below, each_set, each_change, total_same, in_second, in_append, set_twice, somewhere_still}
use Rattle.core_frames.proofs.Marks.{end_same, silent_same, waits_same}
use Rattle.core_frames.proofs.Views.{same_slots, was}
use Rattle.core_frames.proofs.WaitFrames.{mark_frame, grace_frame}
use Rattle.core_frames.proofs.PlaceFrames.{front_stays, slot_frame, count_frame, front_frame, front_counts}
use Rattle.core_frames.proofs.TreeFrames.{tree_frame, served_same, record_same, reader_frame, listing_frame}
use Rattle.prcu_marks.specs.declared.mark.Side.{Side}
use Rattle.core_state.specs.declared.view.Retired.{Retired}
use Rattle.core_state.specs.declared.view.Spent.{Spent}
use Rattle.core_state.specs.Tree.{IsHeldBack, next, Chart, IsInRange}
use Rattle.core_frames.proofs.Charts.{bool_cases, none_past, below_past, ended_is, answer-none}
use Rattle.core_frames.proofs.Roles.{gone_off}
use Rattle.std.proofs.lemmas.Bool.{eqb-true}
use Rattle.prcu_marks.specs.declared.mark.Side.TheVariants.{Right}
use Rattle.core_state.specs.declared.words.Field.{Field}
use Rattle.core_state.specs.declared.view.Fact.{Fact}
use Rattle.core_state.specs.declared.view.Gap.{Gap}
use Rattle.core_state.specs.declared.view.Visit.{Visit}
use Rattle.core_frames.proofs.First.{each_none, each_one, each_append}
use Rattle.prcu_model.specs.Dictionary.{WasSaid}
use Rattle.core_frames.proofs.PlainLaws.{told_now, updates_before}
use Rattle.core_laws.proofs.LockSteps.{known_more}
use Rattle.core_laws.proofs.Searches.{noted, Outcome, stays, outcome, reading_more, keys_now, apart, served_more}
use Rattle.core_frames.proofs.WholeFrames.{all_seen, Stepper, StepKeeps, by_load}

-- A step that changes no more than what the open section of a view has found out, or what its listing has, keeps the invariant where
-- what was found out is as it should be.

-- the same section, but for what was found out in it
pub record SameSection (a b : Section) : Type 0 where
  pub key : b.key ≡ a.key
  pub count : b.count ≡ a.count
  pub entered : b.entered ≡ a.entered
  pub from : b.from ≡ a.from
  pub stamp : b.stamp ≡ a.stamp
  pub clocked : b.clocked ≡ a.clocked

spot_same : (waiter : Waiter) (p : ℕ) (a b : Section) → SameSection a b → spot_of waiter p b ≡ spot_of waiter p a
spot_same Eer p a b e = refl
spot_same Domain p a b e = λ i. Count (class_of (e.key i)) (e.stamp i)
spot_same Deer p a b e = λ i. Row p (class_of (e.key i))

module _ (k : Shape) (m : Memory) (vs : List View) (h : List Mark) (id : ℕ) (v : View) (i : HoldsNow k m vs h)
    (there : get_elem? vs id ≡ some v) (works : Works v)
    (section new : Section) (inside : v.section ≡ Some section) (same : SameSection section new) (sought : new.reading.key ≡ new.key) where
  abbrev w : View
  w = record v { section = Some new }

  is_new : (s : Section) → w.section ≡ Some s → new ≡ s
  is_new s is = cc

  no_lock : v.locks ≡ []
  no_lock = ((i.locks.few id v there).outside section inside).0

  unlocked : (s : ℕ) (lock : HeldLock) → lock_of v.locks s ≡ Some lock → ⊥
  unlocked s lock e = absurd (let q : None ≡ Some lock = ap (λ ls. lock_of ls s) (sym no_lock) ∙ e in cc)

  open_same : open_of new ≡ open_of section
  open_same = λ j. record { count = same.count j; key = same.key j; at = same.entered j }

  seats : SeatParts k.places (set vs id w) h
  seats = let t = i.seats in record {
    placed = λ p. total_same (λ (u : View). times p (places_of u)) vs id v w there refl ∙ t.placed p;
    spent = each_change (λ (u : View). u.allowance.places ≡ 0 → u ≡ spent_view)
        (λ (u : View). u.allowance.places ≡ 0 → u ≡ spent_view) vs id v w there (λ _ none. absurd (omega arith)) (λ u x. x) t.spent;
    owned = each_change (IsOwned h) (IsOwned h) vs id v w there (λ x. record { met = x.met; unused = x.unused; joined = x.joined })
        (λ u x. x) t.owned;
    within = t.within;
    sections = each_set (λ j u. (s : Section) → u.section ≡ Some s → SectionStands h u s) vs id w
        (λ s is. (let x = t.sections id v there section inside in subst (SectionStands h w) (is_new s is) (record {
          works = x.works;
          is_open = x.is_open ∙ ap Some (sym open_same);
          from = same.from ∙ x.from ∙ ap (λ n. length (updates_of (take n h))) (sym same.entered);
          key_fits = (let e = same.key in let f = x.key_fits in omega arith);
          sought = sought;
        })))
        (λ j u ne e s is. (let x = t.sections j u e s is in
        record { works = x.works; is_open = x.is_open; from = x.from; key_fits = x.key_fits; sought = x.sought }));
    opened = λ p o e. opened_at p o (t.opened p o e);
    counted = each_change (λ (u : View). Works u → IsCounted h u) (λ (u : View). Works u → IsCounted h u) vs id v w there
        (λ x _. (let c = x works in record { sections = c.sections; waits = c.waits })) (λ u x. x) t.counted;
  }
    where
      opened_at : (p : ℕ) (o : Open) → IsOpenOf vs p o → IsOpenOf (set vs id w) p o
      opened_at p o x = somewhere_still vs id v w there (λ (own : HasOpen v p o).
          (let is : Some own.section ≡ Some section = sym own.is_open ∙ inside in let it : own.section ≡ section = cc in
          record { place = own.place; section = new; is_open = refl; by_marks = own.by_marks ∙ ap open_of it ∙ sym open_same })) x

  waiters : WaiterParts k m (set vs id w) h
  waiters = let t = i.waiters in record {
    clock = t.clock;
    clocked = each_change (IsClocked k.waiter h) (IsClocked k.waiter h) vs id v w there (λ x. record {
      loaded = x.loaded;
      stamped = λ s is. (let y = x.stamped section inside in
          subst (λ (z : Section). (z.clocked ≤ z.entered) × (k.waiter ≢ Domain → z.stamp ≡ begun (take z.clocked h))) (is_new s is) (
            (let a = same.clocked in let b = same.entered in let c = y.0 in omega arith),
            λ ne. same.stamp ∙ y.1 ne ∙ ap (λ n. begun (take n h)) (sym same.clocked),
          ));
    }) (λ u x. x) t.clocked;
    excused = λ a b va vb wait s ea waits going eb is older holds has.
        (let p = was (λ (u : View). u.wait) vs id v w there refl a va ea in
        each_set (λ n u. (z : Section) → u.section ≡ Some z → z.entered < wait.began → Holds (keys_of wait) z.key
        → IsIn wait.excused (spot_of k.waiter u.allowance.place z) → ⊥) vs id w
        (λ z mine lt hs x.
        (let e = is_new z mine in
        t.excused a id p.0 v wait section p.1 (sym p.2 ∙ waits) going there inside
        (let f = ap (λ (y : Section). y.entered) e in let g = same.entered in omega arith)
        (subst (Holds (keys_of wait)) (ap (λ (y : Section). y.key) (sym e) ∙ same.key) hs)
        (subst (IsIn wait.excused) (ap (spot_of k.waiter v.allowance.place) (sym e)
        ∙ spot_same k.waiter v.allowance.place section new same) x)))
        (λ n u ne e z mine lt hs x. t.excused a n p.0 u wait z p.1 (sym p.2 ∙ waits) going e mine lt hs x) b vb eb s is older holds has);
    turned = each_change (λ (u : View). (wait : Waiting) → u.wait ≡ Some wait → IsTurnedOnce wait)
        (λ (u : View). (wait : Waiting) → u.wait ≡ Some wait → IsTurnedOnce wait) vs id v w there (λ x. x) (λ u x. x) t.turned;
    eer = λ way. (let e = t.eer way in record {
      inside = each_set (λ j u. (s : Section) → u.section ≡ Some s
          → (m (Announced u.allowance.place) ≡ s.key) × (m (Stamp u.allowance.place) ≡ s.stamp)) vs id w
          (λ s is. (let x = e.inside id v there section inside in
          subst (λ (z : Section). (m (Announced v.allowance.place) ≡ z.key) × (m (Stamp v.allowance.place) ≡ z.stamp)) (is_new s is)
          (x.0 ∙ sym same.key, x.1 ∙ sym same.stamp)))
          (λ j u ne f s is. e.inside j u f s is);
      outside = e.outside;
      announced = each_change (λ (u : View). (key : ℕ) → u.enter.announced ≡ Some key → m (Announced u.allowance.place) ≡ key)
          (λ (u : View). (key : ℕ) → u.enter.announced ≡ Some key → m (Announced u.allowance.place) ≡ key) vs id v w there (λ x. x)
          (λ u x. x) e.announced;
    });
    domain = λ way. (let e = t.domain way in record {
      counts = λ c side small low. e.counts c side small low ∙ sym (total_same (λ (u : View). inside_count c side u.section) vs id v w there
          ((λ j. cond (class_of (same.key j) == c && same.stamp j == side) 1 0) ∙ ap (inside_count c side) (sym inside)));
      sides = each_set (λ j u. (s : Section) → u.section ≡ Some s → s.stamp < 2) vs id w
          (λ s is. (let x = e.sides id v there section inside in let f = ap (λ (z : Section). z.stamp) (is_new s is) in
          let g = same.stamp in omega arith)) (λ j u ne f s is. e.sides j u f s is);
    });
    deer = λ way. (let e = t.deer way in record {
      inside = each_set (λ j u. (s : Section) → u.section ≡ Some s → m (Row u.allowance.place (class_of s.key)) ≡ s.stamp) vs id w
          (λ s is. subst (λ (z : Section). m (Row v.allowance.place (class_of z.key)) ≡ z.stamp) (is_new s is)
          (ap (λ x. m (Row v.allowance.place (class_of x))) same.key ∙ e.inside id v there section inside ∙ sym same.stamp))
          (λ j u ne f s is. e.inside j u f s is);
      outside = e.outside;
    });
  }

  each_reading : (P : Reading → Type 0) → P new.reading → Each (readings_of v) P → (j : ℕ) (r : Reading)
      → get_elem? (new.reading ∷ v.records) j ≡ some r → P r
  each_reading P mine all zero r e = subst P (some-injective new.reading r e) mine
  each_reading P mine all (suc j) r e = let x = in_second (open_reading v.section) v.records r (j, e) in all x.0 r x.1

  module _ (kept : IsReadingKept m i.chart new.reading) (reading : IsReading new.reading) (served : IsServed m i.chart h vs new)
      (listing : (l : Listing) → new.listing ≡ Some l → IsListing m i.chart h new l) where
    locks : LockParts m (slot_count k) i.chart (set vs id w)
    locks =
        let t = i.locks in
        let holder : (s : ℕ) (lock : HeldLock) → IsHolderOf vs s lock → IsHolderOf (set vs id w) s lock = λ s lock x.
        somewhere_still vs id v w there (λ held. held) x in
        record {
          locked = record {
            held = each_set (λ j u. (s : ℕ) (lock : HeldLock) → lock_of u.locks s ≡ Some lock
                → (m (Lock s) ≡ u.allowance.place + 1) × (s < slot_count k)) vs id w (λ s lock e. absurd (unlocked s lock e))
                (λ j u ne e. t.locked.held j u e);
            named = λ s lt ne. (let r = t.locked.named s lt ne in (r.0, holder s r.0 r.1));
          };
          few = each_change HasFewLocks HasFewLocks vs id v w there
              (λ x. record { once = x.once; few = x.few; outside = λ s is. x.outside section inside }) (λ u x. x) t.few;
          kept = each_set (λ j u. (s : ℕ) (lock : HeldLock) → lock_of u.locks s ≡ Some lock → IsLockKept m i.chart u s lock) vs id w
              (λ s lock e. absurd (unlocked s lock e)) (λ j u ne e. t.kept j u e);
          marked = λ s l o. (let r = t.marked s l o in (r.0, holder s r.0 r.1, r.2));
          known = each_set (λ j u. (s : ℕ) (lock : HeldLock) → lock_of u.locks s ≡ Some lock → IsLockKnown m u s lock) vs id w
              (λ s lock e. absurd (unlocked s lock e)) (λ j u ne e. t.known j u e);
          readings = each_set (λ j u. Each (readings_of u) (IsReadingKept m i.chart)) vs id w
              (λ j r e. each_reading (IsReadingKept m i.chart) kept (i.locks.readings id v there) j r e) (λ j u ne e. t.readings j u e);
        }

    pub in_section : HoldsNow k m (set vs id w) h
    in_section =
        let quiet = silent_same h in
        let nodes = (same_slots m).nodes in
        record {
          table = i.table;
          chart = i.chart;
          marks = mark_frame k.places vs id v w h there (record { place = refl; places = refl; wait = refl; waits = refl }) refl i.marks;
          seats = seats;
          waiters = waiters;
          slots = slot_frame m m (slot_count k) i.chart vs id v w h h there (same_slots m)
              (record { own = refl; moving = refl; one = λ f. f }) quiet i.slots;
          locks = locks;
          counts = count_frame k.tickets m m (slot_count k) i.chart vs id v w h h there (same_slots m) refl refl refl quiet i.counts;
          tree = tree_frame m m (slot_count k) i.chart vs id v w h h there nodes
              (record { place = refl; locks = refl; moving = refl; more = λ r has. has; fewer = λ move is r has. has }) quiet i.tree;
          readers = reader_frame m m nodes i.chart vs id v w h h there refl refl quiet (record {
            readings = λ j r e. each_reading IsReading reading (i.readers.readings id v there) j r e;
            served = λ s is. subst (IsServed m i.chart h (set vs id w)) (is_new s is)
                (served_same m m nodes i.chart vs id v w h h there refl refl quiet new served);
            records = λ j r e. record_same m m nodes i.chart vs id v w h h there refl refl quiet r (i.readers.records id v there j r e);
            older = λ s is. inr (section, inside, sym same.entered ∙ ap (λ (z : Section). z.entered) (is_new s is));
          }) i.readers;
          front = front_frame m m vs id v w h h there (front_stays m m refl refl) refl (λ e. e) quiet (end_same h) i.front;
          listings = listing_frame m m nodes i.chart h h quiet vs id w
              (λ s l is lists. subst (λ (z : Section). IsListing m i.chart h z l) (is_new s is)
              (listing l (ap (λ (z : Section). z.listing) (is_new s is) ∙ lists))) i.listings;
          grace = grace_frame vs id v w h h there (λ s is. inr (
            section,
            inside,
            sym same.entered ∙ ap (λ (z : Section). z.entered) (is_new s is),
            sym same.key ∙ ap (λ (z : Section). z.key) (is_new s is),
          )) quiet
              (waits_same h) refl refl refl refl i.grace.grace i.grace.reuse i.grace;
        }

-- Which slots an open section may meet: links of slots at which it stood lead to linked slots, or to ones unlinked since it was entered.

-- who is retired at a place that was joined
pub in_joined : (ss : List Spent) (r : Retired) → IsIn (joined_retired ss) r → (s : Spent) × IsIn ss s × IsIn s.retired r
in_joined [] r has = absurd (some-ne-none r (sym has.1))
in_joined (s ∷ ss) r has = ⊎_elim (λ (mine : IsIn s.retired r). (s, (zero, refl), mine))
    (λ (there : IsIn (joined_retired ss) r). (let x = in_joined ss r there in let p = x.1 in (x.0, (suc p.0, p.1), x.2)))
    (in_append s.retired (joined_retired ss) r has)

module _ (k : Shape) (m : Memory) (vs : List View) (h : List Mark) (i : HoldsNow k m vs h) where
  -- a retired slot that was waited for is met by no open section
  pub retired_clear : (id : ℕ) (v : View) (r : Retired) → get_elem? vs id ≡ some v → IsIn (retired_of v) r → r.waited ≡ true
      → IsClear vs r.unlinked 0 greatest_key
  retired_clear id v r there has waited =
      ⊎_elim (λ (own : IsIn v.hands.retired r). (i.grace.retired id v there own.0 r own.1).clear waited)
      (λ (joined : IsIn (joined_retired v.allowance.joined) r). (let x = in_joined v.allowance.joined r joined in let p = x.1 in
      let q = x.2 in (i.grace.joined id v there p.0 x.0 p.1 q.0 r q.1).clear waited))
      (in_append v.hands.retired (joined_retired v.allowance.joined) r has)

  -- a slot unlinked since a section was entered, which is open, wasn't raised
  pub unraised_life : (id s p : ℕ) (v : View) (section : Section) → get_elem? vs id ≡ some v → v.section ≡ Some section
      → gone_at s h ≡ Some p → section.entered < p → IsOdd (m (Life s))
  unraised_life id s p v section there inside gone since =
      let r = i.slots.unlinked s p gone in
      let own : Retired = r.has.retired in
      let has = r.has.has in
      let is = i.slots.retired r.id r.view r.there has.0 own has.1 in
      let at : Some own.unlinked ≡ Some p = sym is.unlinked ∙ ap (λ z. gone_at z h) r.has.slot ∙ gone in
      let same : own.unlinked ≡ p = cc in
      let fits = (i.seats.sections id v there section inside).key_fits in
      subst (λ z. IsOdd (m (Life z))) r.has.slot (is.marked
      (⊎_elim (λ raised. absurd (retired_clear r.id r.view own r.there has (is.after_wait raised) id v section there inside
      (omega arith) (omega arith) (omega arith))) (λ not. not) (bool_cases own.raised)))

  -- the slot to which a link of a slot leads that is linked, or unlinked since the section was entered
  pub child_met : (id s c : ℕ) (b : Side) (v : View) (section : Section) → get_elem? vs id ≡ some v → v.section ≡ Some section
      → (i.chart.linked s ≡ true) ⊎ IsHeldBack i.chart h section.entered s
      → m (Link s b) ≡ c → c ≢ 0
      → (i.chart.rank s < i.chart.rank c) × ((i.chart.linked c ≡ true) ⊎ (IsHeldBack i.chart h section.entered c × IsOdd (m (Life c))))
  child_met id s c b v section there inside may link nz =
      ⊎_elim (λ l. (let below = i.tree.shape.below s c b l link nz in (below.rank, inl below.linked)))
      (λ (back : IsHeldBack i.chart h section.entered s). (let aged = i.readers.ages s back.at c b back.gone
      (record { id = id; view = v; there = there; has = record { section = section; is_open = inside; before = back.later } }) link nz in (
        aged.rank,
        ⊎_elim (λ l. inl l)
            (λ (x : IsGoneSince h back.at c).
            (let since = back.later in let more = x.later in let lt : section.entered < x.at = omega arith in
            inr (
              record { out = gone_off m (slot_count k) i.chart vs h i.slots c x.at x.gone; at = x.at; gone = x.gone; later = lt },
              unraised_life id c x.at v section there inside x.gone lt,
            )))
            aged.leads,
      )))
      may

-- What holds of a listing holds with one more load.

-- what holds of all that is found at visits of a slot
each_by : {A : Type 0} (P : A → Type 0) (finds : Visit → List A) (slot : ℕ) (ts : List Visit)
    → ((t : Visit) → IsIn ts t → t.slot ≡ slot → Each (finds t) P) → Each (by_visits finds slot ts) P
each_by P finds slot [] is = each_none P
each_by P finds slot (t ∷ ts) is = cases (t.slot == slot) refl (each_by P finds slot ts (λ u has. is u (suc has.0, has.1)))
  where
    cases : (z : Bool) → (t.slot == slot) ≡ z → Each (by_visits finds slot ts) P
        → Each (cond z (finds t ++ by_visits finds slot ts) (by_visits finds slot ts)) P
    cases true z rest = each_append P (finds t) (by_visits finds slot ts) (is t (zero, refl) (eqb-true t.slot slot z)) rest
    cases false z rest = rest

module _ (k : Shape) (m : Memory) (vs : List View) (h : List Mark) (i : HoldsNow k m vs h) (id : ℕ) (v : View) (section : Section)
    (there : get_elem? vs id ≡ some v) (inside : v.section ≡ Some section)
    (listing : Listing) (lists : section.listing ≡ Some listing) where
  abbrev g : Chart
  g = i.chart

  abbrev map : ℕ → Option ℕ
  map = map_now h

  was_listing : IsListing m g h section listing
  was_listing = i.listings.listings id v there section listing inside lists

  -- nothing is found of a key whose search ends in its range at a slot with another
  none_there : (y s : ℕ) → y < 2 ^ 64 → IsInRange g y s → next m y s ≡ 0 → (s ≢ 0 → m (Key s) ≢ y) → map y ≡ None
  none_there y s fits range last other = sym (ended_is m (slot_count k) g map y s i.tree.shape i.tree.map fits range last (map y) refl)
      ∙ answer-none m y s other

  abbrev IsNow : Fact → Type 0
  IsNow f = map f.key ≡ Some f.value

  abbrev IsBare : Gap → Type 0
  IsBare gap = (y : ℕ) → IsBetween gap y → map y ≡ None

  -- what is found by a link, with the bounds past it
  one_visit : (P : Visit → Type 0) (bounds : Gap) (c : ℕ) → (c ≢ 0 → P (record { slot = c; key = None; bounds = bounds }))
      → Each (visits_by_link bounds c) P
  one_visit P bounds c is = cases (c == 0) refl
    where
      cases : (z : Bool) → (c == 0) ≡ z → Each (cond z [] (record { slot = c; key = None; bounds = bounds } ∷ [])) P
      cases true z = each_none P
      cases false z = each_one P (record { slot = c; key = None; bounds = bounds })
          (is (λ e. absurd (let f = eq-eqb c 0 e in let q : true ≡ false = sym f ∙ z in cc)))

  one_gap : (bounds : Gap) (c : ℕ) → (c ≡ 0 → IsBare bounds) → Each (gaps_by_link bounds c) IsBare
  one_gap bounds c is = cases (c == 0) refl
    where
      cases : (z : Bool) → (c == 0) ≡ z → Each (cond z (bounds ∷ []) []) IsBare
      cases true z = each_one IsBare bounds (is (eqb-true c 0 z))
      cases false z = each_none IsBare

  -- by the root's right link
  root_gap : m (Link 0 Right) ≡ 0 → IsBare no_bounds
  root_gap empty y between =
      let shape = i.tree.shape in
      let high = between.1 in
      none_there y 0 high (record {
        linked = shape.root;
        low = (let e = shape.root_low in omega arith);
        high = (let e = shape.root_high in omega arith);
      }) empty (λ nz. absurd (nz refl))

  begun_at : (c : ℕ) → m (Link 0 Right) ≡ c → IsListing m g h section
      (record listing { visits = visits_by_link no_bounds c ++ listing.visits; gaps = gaps_by_link no_bounds c ++ listing.gaps })
  begun_at c link = let shape = i.tree.shape in record {
    since = was_listing.since;
    most = was_listing.most;
    visits = each_append (IsVisit m g h section.entered) (visits_by_link no_bounds c) listing.visits
        (one_visit (IsVisit m g h section.entered) no_bounds c
        (λ nz. record {
          node = nz;
          key = λ key e. absurd (let q : None ≡ Some key = e in cc);
          here = inl (shape.below 0 c Right shape.root link nz).linked;
        })) was_listing.visits;
    now = λ fewer. (let n = was_listing.now fewer in record {
      facts = n.facts;
      gaps = each_append IsBare (gaps_by_link no_bounds c) listing.gaps (one_gap no_bounds c (λ z. root_gap (link ∙ z))) n.gaps;
      visits = each_append (StandsNow m g h section.entered) (visits_by_link no_bounds c) listing.visits
          (one_visit (StandsNow m g h section.entered) no_bounds c (λ nz. (let b = shape.below 0 c Right shape.root link nz in
          here (record { linked = b.linked; low = b.low; high = b.high ∙ shape.root_high })))) n.visits;
    });
  }

  root_more : (field : Field) → IsLoadable 0 field → IsListing m g h section (listed_root listing field (m field))
  root_more (Link t Right) l = begun_at (m (Link t Right)) (ap (λ z. m (Link z Right)) (sym l))
  root_more _ l = was_listing

  -- at a slot where it has been
  module _ (s : ℕ) (bounds : Gap) (nz : s ≢ 0) where
    -- the slot's pair is one of the dictionary now
    pair_linked : g.linked s ≡ true → map (m (Key s)) ≡ Some (m (Value s))
    pair_linked l =
        ⊎_elim
        (λ o. (let old = i.tree.moves.every s l o in
        let p = old.pending in
        let move = i.tree.moves.each p.id p.view p.there old.move p.has in
        let copy = i.tree.map.sound old.move.copy.slot move.copy_linked move.copy_some move.copy_young in
        ap (λ z. map (m (Key z))) (sym old.old) ∙ ap map (move.old_key ∙ sym move.copy_key) ∙ copy ∙ ap Some move.same_value
        ∙ ap (λ z. Some (m (Value z))) old.old))
        (λ young. i.tree.map.sound s l nz young) (bool_cases (g.old s))

    abbrev Going : Type 0
    Going = GoesOn m g (IsHeldBack g h section.entered) map bounds s

    pair_now : Going → map (m (Key s)) ≡ Some (m (Value s))
    pair_now (here has) = pair_linked has.linked
    pair_now (past l pair none rank more) = pair

    -- an empty side of the slot
    gap_at : (key : ℕ) (b : Side) → m (Key s) ≡ key → m (Link s b) ≡ 0 → Going → IsBare (narrowed bounds key b)
    gap_at key b is empty (here has) = subst (λ x. IsBare (narrowed bounds x b)) is
        (none_past m (slot_count k) g map i.tree.shape i.tree.map s nz bounds has b empty)
    gap_at key b is empty (past l pair none rank more) = subst (λ x. IsBare (narrowed bounds x b)) is (none b empty)

    -- the slot below a side of it
    going_at : (key c : ℕ) (b : Side) → m (Key s) ≡ key → m (Link s b) ≡ c → c ≢ 0 → Going
        → GoesOn m g (IsHeldBack g h section.entered) map (narrowed bounds key b) c
    going_at key c b is link nonzero (here has) =
        subst (λ x. GoesOn m g (IsHeldBack g h section.entered) map (narrowed bounds x b) c) is
        (here (below_past m (slot_count k) g map i.tree.shape i.tree.map s nz bounds has b c link nonzero))
    going_at key c b is link nonzero (past l pair none rank more) =
        subst (λ x. GoesOn m g (IsHeldBack g h section.entered) map (narrowed bounds x b) c) is (more b c link nonzero)

  -- what a load finds at a visit
  module _ (t : Visit) (is : IsVisit m g h section.entered t) where
    visits_found : (key : Option ℕ) (field : Field) → t.key ≡ key → IsLoadable t.slot field
        → Each (visits_by t key field (m field)) (IsVisit m g h section.entered)
    visits_found key (Key s) e l = each_one (IsVisit m g h section.entered) (record t { key = Some (m (Key s)) })
        (record { node = is.node; key = λ y q. (let same : m (Key s) ≡ y = cc in ap (λ z. m (Key z)) (sym l) ∙ same); here = is.here })
    visits_found (Some key) (Link s b) e l = one_visit (IsVisit m g h section.entered) (narrowed t.bounds key b) (m (Link s b))
        (λ nz. record {
          node = nz;
          key = λ y q. absurd (let f : None ≡ Some y = q in cc);
          here = ⊎_elim (λ x. inl x) (λ (x : IsHeldBack g h section.entered (m (Link s b)) × IsOdd (m (Life (m (Link s b))))). inr x.0)
              (child_met k m vs h i id t.slot (m (Link s b)) b v section there inside is.here (ap (λ z. m (Link z b)) (sym l)) nz).1;
        })
    visits_found _ _ e l = each_none (IsVisit m g h section.entered)

    module _ (stands : StandsNow m g h section.entered t) where
      visits_stand : (key : Option ℕ) (field : Field) → t.key ≡ key → IsLoadable t.slot field
          → Each (visits_by t key field (m field)) (StandsNow m g h section.entered)
      visits_stand key (Key s) e l = each_one (StandsNow m g h section.entered) (record t { key = Some (m (Key s)) }) stands
      visits_stand (Some key) (Link s b) e l = one_visit (StandsNow m g h section.entered) (narrowed t.bounds key b) (m (Link s b))
          (λ nz. going_at t.slot t.bounds is.node key (m (Link s b)) b (is.key key e) (ap (λ z. m (Link z b)) (sym l)) nz stands)
      visits_stand _ _ e l = each_none (StandsNow m g h section.entered)

      facts_found : (key : Option ℕ) (field : Field) → t.key ≡ key → IsLoadable t.slot field → Each (facts_by key field (m field)) IsNow
      facts_found (Some key) (Value s) e l = each_one IsNow (record { key = key; value = m (Value s) })
          (ap map (sym (is.key key e)) ∙ pair_now t.slot t.bounds is.node stands ∙ ap (λ z. Some (m (Value z))) (sym l))
      facts_found _ _ e l = each_none IsNow

      gaps_found : (key : Option ℕ) (field : Field) → t.key ≡ key → IsLoadable t.slot field → Each (gaps_by t key field (m field)) IsBare
      gaps_found (Some key) (Link s b) e l = one_gap (narrowed t.bounds key b) (m (Link s b))
          (λ z. gap_at t.slot t.bounds is.node key b (is.key key e) (ap (λ x. m (Link x b)) (sym l) ∙ z) stands)
      gaps_found _ _ e l = each_none IsBare

  below_more : (slot : ℕ) (field : Field) → IsLoadable slot field → IsListing m g h section (listed_below listing slot field (m field))
  below_more slot field loadable = record {
    since = was_listing.since;
    most = was_listing.most;
    visits = each_append (IsVisit m g h section.entered)
        (by_visits (λ (t : Visit). visits_by t t.key field (m field)) slot listing.visits) listing.visits
        (each_by (IsVisit m g h section.entered) (λ (t : Visit). visits_by t t.key field (m field)) slot listing.visits
        (λ t has e. visits_found t (was_listing.visits has.0 t has.1) t.key field refl (loadable_at t e))) was_listing.visits;
    now = λ fewer. (let n = was_listing.now fewer in record {
      facts = each_append IsNow (by_visits (λ (t : Visit). facts_by t.key field (m field)) slot listing.visits) listing.facts
          (each_by IsNow (λ (t : Visit). facts_by t.key field (m field)) slot listing.visits
          (λ t has e. facts_found t (was_listing.visits has.0 t has.1) (n.visits has.0 t has.1) t.key field refl (loadable_at t e))) n.facts;
      gaps = each_append IsBare (by_visits (λ (t : Visit). gaps_by t t.key field (m field)) slot listing.visits) listing.gaps
          (each_by IsBare (λ (t : Visit). gaps_by t t.key field (m field)) slot listing.visits
          (λ t has e. gaps_found t (was_listing.visits has.0 t has.1) (n.visits has.0 t has.1) t.key field refl (loadable_at t e))) n.gaps;
      visits = each_append (StandsNow m g h section.entered) (by_visits
          (λ (t : Visit). visits_by t t.key field (m field)) slot listing.visits) listing.visits
          (each_by (StandsNow m g h section.entered) (λ (t : Visit). visits_by t t.key field (m field)) slot listing.visits
          (λ t has e. visits_stand t (was_listing.visits has.0 t has.1) (n.visits has.0 t has.1) t.key field refl (loadable_at t e))) n.visits;
    });
  }
    where
      loadable_at : (t : Visit) → t.slot ≡ slot → IsLoadable t.slot field
      loadable_at t e = subst (λ x. IsLoadable x field) (sym e) loadable

  moved : (l : Listing) → IsListing m g h section l → IsListing m g h (record section { listing = Some l }) l
  moved l x = record { since = x.since; most = x.most; visits = x.visits; now = x.now }

  pub listed_more : (slot : ℕ) (field : Field) → IsLoadable slot field
      → IsListing m g h (record section { listing = Some (listed listing slot field (m field)) }) (listed listing slot field (m field))
  listed_more slot field loadable = moved (listed listing slot field (m field)) (by_slot (slot == 0) refl)
    where
      by_slot : (z : Bool) → (slot == 0) ≡ z → IsListing m g h section
          (cond z (listed_root listing field (m field)) (listed_below listing slot field (m field)))
      by_slot true z = root_more field (subst (λ x. IsLoadable x field) (eqb-true slot 0 z) loadable)
      by_slot false z = below_more slot field loadable

-- A load in a section keeps the invariant: K17.

-- what a load leaves of a reading beside where it stands
outcome_loads : (m : Memory) (r : Reading) (field : Field) (to : Reading) → Outcome m r field to
    → (to.loads ≡ (noted m r field).loads) × (to.key ≡ r.key)
outcome_loads m r field to stays = (refl, refl)
outcome_loads m r field to _ = (refl, refl)

module _ (k : Shape) (m : Memory) (vs : List View) (h : List Mark) (id : ℕ) (v : View) (i : HoldsNow k m vs h)
    (there : get_elem? vs id ≡ some v) (works : Works v)
    (section : Section) (inside : v.section ≡ Some section) where
  pub first_reading : get_elem? (readings_of v) 0 ≡ some section.reading
  first_reading = ap (λ o. get_elem? (open_reading o ++ v.records) 0) inside

  was_reading : IsReading section.reading
  was_reading = i.readers.readings id v there 0 section.reading first_reading

  was_kept : IsReadingKept m i.chart section.reading
  was_kept = i.locks.readings id v there 0 section.reading first_reading

  said_now : WasSaid (updates_of h) section.key section.from (map_now h section.key)
  said_now = told_now k m vs h i id v section there inside

  child_stood : (s c : ℕ) (b : Side) → IsIn section.reading.stood s → m (Link s b) ≡ c → c ≢ 0
      → (i.chart.rank s < i.chart.rank c) × ((i.chart.linked c ≡ true) ⊎ (IsHeldBack i.chart h section.entered c × IsOdd (m (Life c))))
  child_stood s c b has link nz =
      child_met k m vs h i id s c b v section there inside
      (⊎_elim (λ l. inl l) (λ (x : IsHeldBack i.chart h section.entered s × IsOdd (m (Life s))). inr x.0)
      ((i.readers.served id v there section inside).stood s has).here) link nz

  -- what is known of a slot at which the section stood is so, as far as its generation says
  module _ (slot : ℕ) (field : Field) (needs : NeedsSearchLoad v section slot field) where
    abbrev to : Reading
    to = loaded section.reading field (m field)

    abbrev new : Section
    new = record section { reading = to }

    stands : SectionStands h v section
    stands = i.seats.sections id v there section inside

    goes_on : Outcome m section.reading field to
    goes_on = outcome m section.reading field

    stood_life : (s life : ℕ) → known_in to.loads (Life s) ≡ Some life → IsIn section.reading.stood s
    stood_life s life known =
        ⊎_elim (λ (e : (field ≡ Life s) × (m field ≡ life)). one_slot e.0)
        (λ q. (let w = was_reading.loads (Life s) life q in subst (IsIn section.reading.stood) (sym w.2) w.1))
        (known_more section.reading.loads field (Life s) (m field) life false
        (ap (λ ls. known_in ls (Life s)) (sym (outcome_loads m section.reading field to goes_on).0) ∙ known))
      where
        one_slot : field ≡ Life s → IsIn section.reading.stood s
        one_slot e = let l : s ≡ slot = subst (IsLoadable slot) e needs.loadable in subst (IsIn section.reading.stood) (sym l) needs.stood

    kept : IsReadingKept m i.chart to
    kept =
        let served = i.readers.served id v there section inside in
        let loads = (outcome_loads m section.reading field to goes_on).0 in
        let more : (f : Field) (n : ℕ) → known_in to.loads f ≡ Some n
        → ((field ≡ f) × (m field ≡ n)) ⊎ (known_in section.reading.loads f ≡ Some n) =
        λ f n known. known_more section.reading.loads field f (m field) n false (ap (λ ls. known_in ls f) (sym loads) ∙ known) in
        record {
          generations = λ s life known. ⊎_elim (λ (e : (field ≡ Life s) × (m field ≡ life)). (let q = ap m (sym e.0) ∙ e.1 in
              subst (λ z. z / 2 ≤ m (Life s) / 2) q (omega arith))) (λ q. was_kept.generations s life q) (more (Life s) life known);
          tags = λ s number b known. ⊎_elim (λ (e : (field ≡ Tag s b) × (m field ≡ number)). (let q = ap m (sym e.0) ∙ e.1 in omega arith))
              (λ q. was_kept.tags s number b q) (more (Tag s b) number known);
          linked = λ s life known same. ⊎_elim (λ l. l)
              (λ (x : IsHeldBack i.chart h section.entered s × IsOdd (m (Life s))). absurd (let odd = x.1 in omega arith))
              (served.stood s (stood_life s life known)).here;
          keys = λ s life key known same known_key. ⊎_elim (λ (e : (field ≡ Key s) × (m field ≡ key)). ap m (sym e.0) ∙ e.1)
              (λ q. (served.stood s (stood_life s life known)).key key q) (more (Key s) key known_key);
        }

    pub search_loaded : HoldsNow k m (set vs id (after_search_load v section field (m field))) h
    search_loaded =
        in_section k m vs h id v i there works section new inside
        (record { key = refl; count = refl; entered = refl; from = refl; stamp = refl; clocked = refl })
        ((outcome_loads m section.reading field to goes_on).1 ∙ stands.sought)
        kept
        (reading_more m section.reading field slot was_reading
        (keys_now m (slot_count k) i.chart h vs section field slot i.tree.shape i.tree.map stands.key_fits said_now stands.sought
        needs.searches was_reading (i.readers.served id v there section inside) child_stood needs.stood needs.loadable)
        needs.stood needs.loadable
        (apart m (slot_count k) i.chart h vs section field slot i.tree.shape i.tree.map stands.key_fits said_now stands.sought
        needs.searches was_reading (i.readers.served id v there section inside) child_stood needs.stood needs.loadable)
        to goes_on)
        (served_more m
        (slot_count k) i.chart h vs section field slot i.tree.shape i.tree.map stands.key_fits said_now stands.sought needs.searches
        was_reading (i.readers.served id v there section inside) child_stood needs.stood needs.loadable to goes_on)
        (λ l lists. absurd (let q : None ≡ Some l = sym needs.searches ∙ lists in cc))

  -- a listing's load
  module _ (listing : Listing) (slot : ℕ) (field : Field) (needs : NeedsListLoad v section listing slot field) where
    abbrev listed_section : Section
    listed_section = record section { listing = Some (listed listing slot field (m field)) }

    pub list_loaded : HoldsNow k m (set vs id (after_list_load v section listing slot field (m field))) h
    list_loaded =
        let served = i.readers.served id v there section inside in
        in_section k m vs h id v i there works section listed_section inside
        (record { key = refl; count = refl; entered = refl; from = refl; stamp = refl; clocked = refl })
        (i.seats.sections id v there section inside).sought
        was_kept was_reading
        (record {
          placed = λ none. absurd (let q : Some (listed listing slot field (m field)) ≡ None = none in cc);
          lists = λ l is. served.lists listing needs.lists;
          walking = λ node parent b value walk is on. (let w = served.walking node parent b value walk is on in
              record { walks = w.walks; parent = w.parent });
          stood = λ s has. (let w = served.stood s has in record { here = w.here; key = w.key; life = w.life });
          way = served.way;
        })
        (λ l is. (let same : listed listing slot field (m field) ≡ l = cc in subst (λ z. IsListing m i.chart h listed_section z) same
        (listed_more k m vs h i id v section there inside listing needs.lists slot field needs.loadable)))

module _ (z : Stepper) where
  open z use {k, m, vs, h, id, v, inv, there, works}

  pub keeps_search_load : (section : Section) (slot : ℕ) (field : Field) → NeedsSearchLoad v section slot field
      → StepKeeps z field (m field) (after_search_load v section field (m field)) []
  keeps_search_load section slot field needs = by_load z field (after_search_load v section field (m field))
      (search_loaded k m vs h id v inv there works section needs.section_is slot field needs)

  pub keeps_list_load : (section : Section) (listing : Listing) (slot : ℕ) (field : Field) → NeedsListLoad v section listing slot field
      → StepKeeps z field (m field) (after_list_load v section listing slot field (m field)) []
  keeps_list_load section listing slot field needs = by_load z field (after_list_load v section listing slot field (m field))
      (list_loaded k m vs h id v inv there works section needs.section_is listing slot field needs)

-- A load of the front in a section keeps the invariant: K37. With it a listing begins.

module _ (k : Shape) (m : Memory) (vs : List View) (h : List Mark) (id : ℕ) (v : View) (i : HoldsNow k m vs h)
    (there : get_elem? vs id ≡ some v) (works : Works v) (section : Section) (needs : NeedsFrontLook v section) where
  abbrev looked_section : Section
  looked_section = record section { listing = looked (m Front) section.listing }

  inside : v.section ≡ Some section
  inside = needs.section_is

  counts : (m Front ≤ 2 * length (updates_of h) + 1) × (IsEven (m Front) → m Front ≡ 2 * length (updates_of h))
  counts = front_counts m vs h i.front

  listing_is : (o : Option Listing) → section.listing ≡ o → (l : Listing) → looked (m Front) o ≡ Some l
      → IsListing m i.chart h looked_section l
  listing_is None none l is = let same : new_listing (m Front) ≡ l = cc in subst (IsListing m i.chart h looked_section) same (record {
    since = λ even. (let e = counts.1 even in let from = (i.seats.sections id v there section inside).from in
        let before = updates_before h section.entered in omega arith);
    most = counts.0;
    visits = each_none (IsVisit m i.chart h section.entered);
    now = λ fewer. record {
      facts = each_none (λ (f : Fact). map_now h f.key ≡ Some f.value);
      gaps = each_none (λ (gap : Gap). (y : ℕ) → IsBetween gap y → map_now h y ≡ None);
      visits = each_none (StandsNow m i.chart h section.entered);
    };
  })
  listing_is (Some listing) lists l is =
      let same : listing ≡ l = cc in
      let x = i.listings.listings id v there section listing inside lists in
      subst (IsListing m i.chart h looked_section) same (record { since = x.since; most = x.most; visits = x.visits; now = x.now })

  some_listing : (o : Option Listing) → looked (m Front) o ≡ None → ⊥
  some_listing None e = absurd (cc)
  some_listing (Some l) e = absurd (cc)

  served : IsServed m i.chart h vs looked_section
  served = let x = i.readers.served id v there section inside in record {
    placed = λ none. absurd (some_listing section.listing none);
    lists = λ listing is. needs.first;
    walking = λ node parent b value walk is on. (let w = x.walking node parent b value walk is on in
        record { walks = w.walks; parent = w.parent });
    stood = λ s has. (let w = x.stood s has in record { here = w.here; key = w.key; life = w.life });
    way = x.way;
  }

  abbrev listing_view : View
  listing_view = record v { section = Some looked_section }

  holds_listing : HoldsNow k m (set vs id listing_view) h
  holds_listing = in_section k m vs h id v i there works section looked_section inside
      (record { key = refl; count = refl; entered = refl; from = refl; stamp = refl; clocked = refl })
      (i.seats.sections id v there section inside).sought
      (i.locks.readings id v there 0 section.reading (first_reading k m vs h id v i there works section inside))
      (i.readers.readings id v there 0 section.reading (first_reading k m vs h id v i there works section inside)) served
      (listing_is section.listing refl)

  abbrev looked_view : View
  looked_view = after_front_look v section (m Front) h

  pub front_looked : HoldsNow k m (set vs id looked_view) h
  front_looked = subst (λ us. HoldsNow k m us h) (set_twice vs id listing_view looked_view)
      (all_seen k m (set vs id listing_view) h id listing_view holds_listing
      (set_here vs id listing_view (at_below vs id v there)) works looked_view.latest looked_view.looks)

pub keeps_front_look : (z : Stepper) (section : Section) → NeedsFrontLook z.v section
    → StepKeeps z Front (z.m Front) (after_front_look z.v section (z.m Front) z.h) []
keeps_front_look z section needs = by_load z Front (after_front_look z.v section (z.m Front) z.h)
    (front_looked z.k z.m z.vs z.h z.id z.v z.inv z.there z.works section needs)
