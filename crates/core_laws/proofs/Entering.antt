-- A section is entered or left, whatever the waiter; before that what the laws of sections, looks and lock words share, views at their
-- places.
use Rattle.std.proofs.Common.{◌≡◌, ◌≢◌, ℕ, ◌<◌, ◌≤◌, nat_lt, List, [], length, map, Option, Some, None, refl, sym, ap, subst, ◌∙◌, arith, inl, ◌++◌, ◌∷◌, true, false, set, zero, suc, ◌⊎◌, take, inr}
use mathlib.Core.Logic.{dite}
use mathlib.Core.Option.{some, some-ne-none, some-injective}
use native.Mathlib.Decide.{dec_le, ℕ_discrete}
use lib.ListN.{get_elem?}
use Rattle.prcu_marks.specs.declared.mark.Mark.{Mark}
use Rattle.core_state.specs.declared.shape.Shape.{Shape}
use Rattle.core_state.specs.declared.view.Move.{Move}
use Rattle.core_state.specs.declared.view.Retired.{Retired}
use Rattle.core_state.specs.declared.view.Section.{Section}
use Rattle.core_state.specs.declared.view.Spent.{Spent}
use Rattle.core_state.specs.declared.view.Waiting.{Waiting}
use Rattle.core_state.specs.declared.view.View.{View}
use Rattle.list_laws.specs.Counts.{times, numbers_from, total, IsIn, Each}
use Rattle.core_state.specs.Memory.{Memory, same_waiter, slot_count}
use Rattle.core_state.specs.Views.{lock_of, Works, places_of, known_in, readings_of, open_reading, open_of}
use Rattle.core_state.specs.Invariant.{HoldsNow}
use Rattle.list_laws.proofs.Lists.{at_below, at_one, from_times, times_append, times_in, total_part, at_most_one, in_second}
use Rattle.core_frames.proofs.Roles.{works_there, places_apart, place_within, record_of}
use Rattle.core_state.specs.declared.shape.Waiter.TheVariants.{Deer, Domain, Eer}
use Rattle.core_frames.proofs.Marks.{IsOutside, SilentMarks, TurnsNoWait, silent_snoc, end_snoc, prefix_snoc, waits_snoc}
use Rattle.core_state.specs.Parts.{ListingParts, LockParts, ReaderParts, SeatParts, TreeParts, WaiterParts, IsReading, IsServed, HasStood, EerWords, DomainWords, DeerWords, IsRecord}
use Rattle.core_frames.proofs.WaitFrames.{NewMark, mark_frame_still, marks_snoc, OnlyOlder, grace_frame, grace_snoc, reuse_snoc, waiters_section}
use Rattle.core_frames.proofs.Views.{SameSlots, own_slots, slots_stay, writer_words}
use Rattle.core_state.specs.declared.shape.Waiter.{Waiter}
use Rattle.core_frames.proofs.PlaceFrames.{count_frame, numbers_of, front_frame, front_stays, slot_frame, open_none, seats_enter, lock_frame, seats_left}
use Rattle.core_state.specs.Steps.{spent_view, NeedsEntry, entering, new_section, fresh_reading, leaving}
use Rattle.core_frames.proofs.WholeFrames.{whole}
use Rattle.std.proofs.lemmas.List.{take-append-le}
use Rattle.prcu_marks.specs.declared.mark.Mark.TheVariants.{Entered, Left}
use Rattle.core_state.specs.declared.words.Field.TheVariants.{Life, Key}
use Rattle.core_state.specs.declared.view.Reading.{Reading}
use Rattle.core_state.specs.Marks.{begun}
use Rattle.core_state.specs.Tree.{in_range}
use Rattle.core_frames.proofs.TreeFrames.{tree_frame, record_same, reader_frame, listing_frame}
use Rattle.core_frames.proofs.PlainLaws.{clocked_before}

-- Views that do something work at a place, and each at a place of its own; and where their sections and waits began.

module _ (k : Shape) (m : Memory) (vs : List View) (h : List Mark) (i : HoldsNow k m vs h) where
  -- two views that work are at two places
  pub apart : (id : ℕ) (v : View) → get_elem? vs id ≡ some v → Works v → (j : ℕ) (u : View) → j ≢ id → get_elem? vs j ≡ some u → Works u
      → u.allowance.place ≢ v.allowance.place
  apart id v there works j u ne e has same =
      ne (places_apart k.places vs i.seats.placed j id v.allowance.place u v e there
      (subst (λ p. 1 ≤ times p (places_of u)) same (works_there u has)) (works_there v works))

  pub in_table : (j : ℕ) (u : View) → get_elem? vs j ≡ some u → Works u → u.allowance.place < k.places
  in_table j u e works = place_within k.places vs i.seats.placed j u.allowance.place u e (works_there u works)

  -- who answers for a place that was joined into it doesn't work there, nor does another
  pub joined_apart : (id : ℕ) (v : View) → get_elem? vs id ≡ some v → Works v → (j : ℕ) (u : View) (n : ℕ) (s : Spent)
      → get_elem? vs j ≡ some u → get_elem? u.allowance.joined n ≡ some s → s.place ≢ v.allowance.place
  joined_apart id v there works j u n s e at same =
      let has = times_in (λ (z : Spent). z.place) u.allowance.joined s (n, at) in
      let sum = times_append s.place (numbers_from u.allowance.place u.allowance.places)
      (map (λ (z : Spent). z.place) u.allowance.joined) in
      dite (ℕ_discrete j id)
      (λ here. let view : u ≡ v = at_one vs id u v (subst (λ x. get_elem? vs x ≡ some u) here e) there in
      let place = ap (λ (z : View). z.allowance.place) view in
      let places = ap (λ (z : View). z.allowance.places) view in
      let mine = from_times s.place u.allowance.place u.allowance.places (omega arith) (omega arith) in
      let part = total_part (λ (z : View). times s.place (places_of z)) vs j u e in
      let placed = at_most_one (nat_lt s.place k.places) (total (λ (z : View). times s.place (places_of z)) vs) (i.seats.placed s.place) in
      omega arith)
      (λ ne. ne (places_apart k.places vs i.seats.placed j id s.place u v e there (omega arith)
      (subst (λ p. 1 ≤ times p (places_of v)) (sym same) (works_there v works))))

  pub inside_works : (j : ℕ) (u : View) (section : Section) → get_elem? vs j ≡ some u → u.section ≡ Some section → Works u
  inside_works j u section e is = (i.seats.sections j u e section is).works

  pub moves_works : (j : ℕ) (u : View) (move : Move) → get_elem? vs j ≡ some u → u.moving ≡ Some move → Works u
  moves_works j u move e is =
      dite (dec_le 1 u.allowance.places) (λ has. has)
      (λ none. let spent = i.seats.spent j u e (omega arith) in
      absurd (let q : None ≡ Some move = sym (ap (λ (z : View). z.moving) spent) ∙ is in cc))

  pub retired_works : (j : ℕ) (u : View) (n : ℕ) (r : Retired) → get_elem? vs j ≡ some u → get_elem? u.hands.retired n ≡ some r → Works u
  retired_works j u n r e at =
      dite (dec_le 1 u.allowance.places) (λ has. has)
      (λ none. let spent = i.seats.spent j u e (omega arith) in
      absurd (some-ne-none r (sym (subst (λ (z : List Retired). get_elem? z n ≡ some r) (ap (λ (z : View). z.hands.retired) spent) at))))

  pub began_low : (j : ℕ) (u : View) (wait : Waiting) → get_elem? vs j ≡ some u → u.wait ≡ Some wait → wait.began < length h
  began_low j u wait e is = at_below h wait.began _ (i.marks.waits j u e wait is).begins

  -- a view that holds no lock has no move pending
  pub no_move : (id : ℕ) (v : View) → get_elem? vs id ≡ some v → v.locks ≡ [] → v.moving ≡ None
  no_move id v there none = cases v.moving refl
    where
      cases : (o : Option Move) → v.moving ≡ o → o ≡ None
      cases None e = refl
      cases (Some move) e =
          let l = (i.tree.moves.each id v there move e).copy_lock in
          absurd (let q : None ≡ Some l.0 = ap (λ ls. lock_of ls move.copy.slot) (sym none) ∙ l.1 in cc)

-- A section is entered or left: what both leave as it was.

-- a waiter is no other
pub waiter_self : (a : Waiter) → same_waiter a a ≡ true
waiter_self Eer = refl
waiter_self Domain = refl
waiter_self Deer = refl

pub no_other : (A : Type 0) (k : Shape) (a b : Waiter) → same_waiter a b ≡ false → k.waiter ≡ a → k.waiter ≡ b → A
no_other A k a b apart is e = absurd (let q : false ≡ true = sym apart ∙ ap (λ x. same_waiter x b) (sym is ∙ e) ∙ waiter_self b in cc)

-- a view without its section, its records, what it loaded for its next section, how many sections there were, and what it has seen
abbrev pub beside_section : View → View
beside_section u = record u { enter = spent_view.enter; section = None; records = []; counts = record u.counts { sections = 0 }; seen = [] }

module _ (k : Shape) (m m' : Memory) (vs : List View) (h : List Mark) (id : ℕ) (v w : View) (mark : Mark) (i : HoldsNow k m vs h)
    (there : get_elem? vs id ≡ some v) (words : writer_words m' ≡ writer_words m)
    (outside : IsOutside mark) (turns : TurnsNoWait mark) (same : beside_section w ≡ beside_section v)
    (seen : w.seen ≡ h ++ mark ∷ []) where
  slots : SameSlots m m'
  slots = slots_stay m m' (λ n. (words n).slots)

  quiet : SilentMarks h (h ++ mark ∷ [])
  quiet = silent_snoc h mark outside

  -- What the step does to seats, words, locks, the tree, readers and listings it has to say.
  pub section_law : NewMark k.places h mark → OnlyOlder h v w → SeatParts k.places (set vs id w) (h ++ mark ∷ [])
      → WaiterParts k m' (set vs id w) (h ++ mark ∷ []) → LockParts m' (slot_count k) i.chart (set vs id w)
      → TreeParts m' (slot_count k) i.chart (set vs id w) (h ++ mark ∷ []) → ReaderParts m' i.chart (set vs id w) (h ++ mark ∷ [])
      → ListingParts m' i.chart (set vs id w) (h ++ mark ∷ []) → HoldsNow k m' (set vs id w) (h ++ mark ∷ [])
  section_law new older seats waiters locks tree readers listings =
      whole k m' i.chart (set vs id w) (h ++ mark ∷ []) i.table
      (record {
        slots = slot_frame m m' (slot_count k) i.chart vs id v w h (h ++ mark ∷ []) there slots
            (record {
              own = λ n. own_slots (same n);
              moving = λ n. (same n).moving;
              one = λ one reserved. (λ n. (same n).hands.hand) ∙ one ((λ n. (sym same n).hands.reserved) ∙ reserved);
            }) quiet i.slots;
        locks = locks;
        tree = tree;
        readers = readers;
      })
      (record {
        marks = mark_frame_still k.places vs id v w h (h ++ mark ∷ []) there (prefix_snoc h mark) (inl seen)
            (marks_snoc k.places h mark new i.marks.marks) i.marks (waits_snoc h mark turns)
            (record {
              place = λ n. (same n).allowance.place;
              places = λ n. (same n).allowance.places;
              wait = λ n. (same n).wait;
              waits = λ n. (same n).counts.waits;
            });
        seats = seats;
        grace = grace_frame vs id v w h (h ++ mark ∷ []) there older quiet (waits_snoc h mark turns) (λ n. (same n).allowance.place)
            (λ n. (same n).allowance.joined) (λ n. (same n).hands.retired) (λ n. (same n).moving)
            (grace_snoc h mark turns i.grace.grace) (reuse_snoc h mark outside i.grace.reuse) i.grace;
      })
      waiters (count_frame k.tickets m m' (slot_count k) i.chart vs id v w h (h ++ mark ∷ []) there slots (λ n. (words n).clock)
      (λ n. (words n).free) (λ n. numbers_of (same n)) quiet i.counts)
      (front_frame m m' vs id v w h (h ++ mark ∷ []) there (front_stays m m' (λ n. (words n).front) (λ n. (words n).moved))
      (λ n. (same n).commit) (λ e. (λ n. (same n).moving) ∙ e) quiet (end_snoc h mark outside) i.front) listings

-- A section is entered: what keeps the invariant whatever the waiter, where the waiter's words show it.

module _ (k : Shape) (m m' : Memory) (vs : List View) (h : List Mark) (id : ℕ) (v : View) (i : HoldsNow k m vs h)
    (there : get_elem? vs id ≡ some v) (works : Works v) (key stamp clocked : ℕ) (entry : NeedsEntry v key)
    (words : writer_words m' ≡ writer_words m) where
  abbrev view_entered : View
  view_entered = entering v key stamp clocked h

  abbrev mark_entered : Mark
  mark_entered = Entered v.allowance.place v.counts.sections key

  abbrev section_now : Section
  section_now = new_section v key stamp clocked h

  slots_entered : SameSlots m m'
  slots_entered = slots_stay m m' (λ n. (words n).slots)

  quiet_entered : SilentMarks h (h ++ mark_entered ∷ [])
  quiet_entered = silent_snoc h mark_entered tt

  is_new : (s : Section) → view_entered.section ≡ Some s → section_now ≡ s
  is_new s is = cc

  -- The section's clock was loaded by now, and its stamp is what the clock was then, but with the second waiter.
  waiters_enter : (clocked ≤ length h) × (k.waiter ≢ Domain → stamp ≡ begun (take clocked h))
      → (k.waiter ≡ Eer → EerWords k.places m' (set vs id view_entered) (h ++ mark_entered ∷ []))
      → (k.waiter ≡ Domain → DomainWords m' (set vs id view_entered))
      → (k.waiter ≡ Deer → DeerWords k.places m' (set vs id view_entered) (h ++ mark_entered ∷ []))
      → WaiterParts k m' (set vs id view_entered) (h ++ mark_entered ∷ [])
  waiters_enter stamped eer domain deer =
      waiters_section k m m' vs id v view_entered h mark_entered there refl (λ n. (words n).clock) tt (clocked_before k m vs h i)
      (record {
        loaded = λ c none. absurd (let e : None ≡ Some c = none in cc);
        stamped = λ s is. subst (λ (z : Section). (z.clocked ≤ z.entered)
            × (k.waiter ≢ Domain → z.stamp ≡ begun (take z.clocked (h ++ mark_entered ∷ [])))) (is_new s is)
            (stamped.0, λ ne. stamped.1 ne ∙ ap begun (sym (take-append-le clocked h (mark_entered ∷ []) stamped.0)));
      })
      (λ j u wait s e waits is older. (let now = ap (λ (z : Section). z.entered) (is_new s is) in
      let began = began_low k m vs h i j u wait e waits in absurd (omega arith)))
      eer domain deer i.waiters

  -- a search that begins at the root will answer as the dictionary
  served : IsServed m' i.chart (h ++ mark_entered ∷ []) (set vs id view_entered) section_now
  served = (let root = i.tree.shape in record {
    placed = λ none. record {
      place = in_range (record {
        linked = root.root;
        low = (let e = root.root_low in omega arith);
        high = (let e = root.root_high in let f = entry.key_fits in omega arith);
      });
      answered = tt;
    };
    lists = λ listing is. absurd (let e : None ≡ Some listing = is in cc);
    walking = λ node parent b value walk found walks. absurd (let e : None ≡ Some walk = walks in cc);
    stood = λ s has. stood_root (h ++ mark_entered ∷ []) section_now refl root.root s has;
    way = record { before = []; stood = refl; falls = tt };
  })
    where
      stood_root : (h' : List Mark) (section : Section) → section.reading ≡ fresh_reading key → i.chart.linked 0 ≡ true → (s : ℕ)
          → IsIn (0 ∷ []) s → HasStood m' i.chart h' section s
      stood_root h' section fresh linked s (zero, e) = record {
        here = inl (ap i.chart.linked (sym (some-injective 0 s e)) ∙ linked);
        key = λ y is. absurd (let q : None ≡ Some y = ap (λ (r : Reading). known_in r.loads (Key s)) (sym fresh) ∙ is in cc);
        life = λ y is. absurd (let q : None ≡ Some y = ap (λ (r : Reading). known_in r.loads (Life s)) (sym fresh) ∙ is in cc);
      }
      stood_root h' section fresh linked s (suc j, e) = absurd (some-ne-none s (sym e))

  new_reading : (r : Reading) → IsIn (fresh_reading key ∷ v.records) r → IsIn (readings_of v) r ⊎ (r.loads ≡ [])
  new_reading r (zero, e) = inr (ap (λ (x : Reading). x.loads) (sym (some-injective (fresh_reading key) r e)))
  new_reading r (suc j, e) = inl (in_second (open_reading v.section) v.records r (j, e))

  fresh_is : IsReading (fresh_reading key)
  fresh_is = record {
    root = (0, refl);
    stands = (0, refl);
    well = (inl (refl, refl), refl);
    walk = λ walk is. absurd (let q : None ≡ Some walk = is in cc);
    loads = λ field number is. absurd (let q : None ≡ Some number = is in cc);
    first = λ none. refl;
  }

  entered_readings : (j : ℕ) (r : Reading) → get_elem? (fresh_reading key ∷ v.records) j ≡ some r → IsReading r
  entered_readings zero r e = subst IsReading (some-injective (fresh_reading key) r e) fresh_is
  entered_readings (suc j) r e = let a = in_second (open_reading v.section) v.records r (j, e) in i.readers.readings id v there a.0 r a.1

  pub enter_law : (clocked ≤ length h) × (k.waiter ≢ Domain → stamp ≡ begun (take clocked h))
      → (k.waiter ≡ Eer → EerWords k.places m' (set vs id view_entered) (h ++ mark_entered ∷ []))
      → (k.waiter ≡ Domain → DomainWords m' (set vs id view_entered))
      → (k.waiter ≡ Deer → DeerWords k.places m' (set vs id view_entered) (h ++ mark_entered ∷ []))
      → HoldsNow k m' (set vs id view_entered) (h ++ mark_entered ∷ [])
  enter_law stamped eer domain deer =
      section_law k m m' vs h id v view_entered mark_entered i there words tt tt refl refl (record {
        within = place_within k.places vs i.seats.placed id v.allowance.place v there (works_there v works);
        key_fits = entry.key_fits;
        count = (i.seats.counted id v there works).sections;
        outside = open_none k.places vs id v h there works i.seats entry.outside;
      })
      (λ s is. inl (let e = ap (λ (z : Section). z.entered) (is_new s is) in omega arith))
      (seats_enter k.places vs id v h there works i.seats key stamp clocked entry.key_fits) (waiters_enter stamped eer domain deer)
      (lock_frame m m' (slot_count k) i.chart vs id v view_entered there slots_entered (record {
        place = refl;
        locks = refl;
        unraised = λ s x. x;
        settled = λ e. e;
        outside = λ s is. (entry.free, no_move k m vs h i id v there entry.free);
        readings = λ r has. new_reading r has;
      }) i.locks)
      (tree_frame m m' (slot_count k) i.chart vs id v view_entered h (h ++ mark_entered ∷ []) there slots_entered.nodes
      (record { place = refl; locks = refl; moving = refl; more = λ r has. has; fewer = λ move is r has. has }) quiet_entered i.tree)
      (reader_frame m m' slots_entered.nodes i.chart vs id v view_entered h (h ++ mark_entered ∷ []) there refl refl quiet_entered (record {
        readings = λ j r e. entered_readings j r e;
        served = λ s is. subst (IsServed m' i.chart (h ++ mark_entered ∷ []) (set vs id view_entered)) (is_new s is) served;
        records = λ j r e. record_same m m' slots_entered.nodes i.chart vs id v view_entered h (h ++ mark_entered ∷ []) there refl refl
            quiet_entered r (i.readers.records id v there j r e);
        older = λ s is. inl (let e = ap (λ (z : Section). z.entered) (is_new s is) in omega arith);
      }) i.readers)
      (listing_frame m m' slots_entered.nodes i.chart h (h ++ mark_entered ∷ []) quiet_entered vs id view_entered
      (λ s listing is lists. absurd (let e = ap (λ (z : Section). z.listing) (is_new s is) ∙ lists in cc)) i.listings)

-- A section is left: what keeps the invariant whatever the waiter, where the waiter's words show it.

module _ (k : Shape) (m m' : Memory) (vs : List View) (h : List Mark) (id : ℕ) (v : View) (i : HoldsNow k m vs h)
    (there : get_elem? vs id ≡ some v) (works : Works v) (section : Section) (is_inside : v.section ≡ Some section)
    (words : writer_words m' ≡ writer_words m) where
  abbrev view_left : View
  view_left = leaving v section h

  abbrev mark_left : Mark
  mark_left = Left v.allowance.place section.count

  slots_left : SameSlots m m'
  slots_left = slots_stay m m' (λ n. (words n).slots)

  quiet_left : SilentMarks h (h ++ mark_left ∷ [])
  quiet_left = silent_snoc h mark_left tt

  none_now : (A : Type 0) (s : Section) → view_left.section ≡ Some s → A
  none_now A s none = absurd (let e : None ≡ Some s = none in cc)

  waiters_leave : (k.waiter ≡ Eer → EerWords k.places m' (set vs id view_left) (h ++ mark_left ∷ []))
      → (k.waiter ≡ Domain → DomainWords m' (set vs id view_left))
      → (k.waiter ≡ Deer → DeerWords k.places m' (set vs id view_left) (h ++ mark_left ∷ []))
      → WaiterParts k m' (set vs id view_left) (h ++ mark_left ∷ [])
  waiters_leave eer domain deer =
      waiters_section k m m' vs id v view_left h mark_left there refl (λ n. (words n).clock) tt (clocked_before k m vs h i)
      (record { loaded = λ c none. absurd (let e : None ≡ Some c = none in cc); stamped = λ s none. none_now _ s none })
      (λ j u wait s e waits none older. none_now _ s none) eer domain deer i.waiters

  same_readings : readings_of v ≡ section.reading ∷ v.records
  same_readings = ap (λ s. open_reading s ++ v.records) is_inside

  told : IsRecord m i.chart vs section.reading
  told =
      let stands = i.seats.sections id v there section is_inside in
      record_of m (slot_count k) i.chart vs h section i.tree.shape
      (i.readers.readings id v there 0 section.reading (ap (λ rs. get_elem? rs 0) same_readings)) stands.sought stands.key_fits
      (i.readers.served id v there section is_inside)

  left_records : (j : ℕ) (r : Reading) → get_elem? (section.reading ∷ v.records) j ≡ some r → IsRecord m' i.chart (set vs id view_left) r
  left_records zero r e = subst (IsRecord m' i.chart (set vs id view_left)) (some-injective section.reading r e)
      (record_same m m' slots_left.nodes i.chart vs id v view_left h (h ++ mark_left ∷ []) there refl refl quiet_left section.reading told)
  left_records (suc j) r e = record_same m m' slots_left.nodes i.chart vs id v view_left h (h ++ mark_left ∷ []) there refl refl quiet_left
      r (i.readers.records id v there j r e)

  pub leave_law : (k.waiter ≡ Eer → EerWords k.places m' (set vs id view_left) (h ++ mark_left ∷ []))
      → (k.waiter ≡ Domain → DomainWords m' (set vs id view_left))
      → (k.waiter ≡ Deer → DeerWords k.places m' (set vs id view_left) (h ++ mark_left ∷ []))
      → HoldsNow k m' (set vs id view_left) (h ++ mark_left ∷ [])
  leave_law eer domain deer =
      section_law k m m' vs h id v view_left mark_left i there words tt tt refl refl
      (open_of section, (i.seats.sections id v there section is_inside).is_open, refl)
      (λ s none. none_now _ s none)
      (seats_left k.places vs id v h there works i.seats section) (waiters_leave eer domain deer)
      (lock_frame m m' (slot_count k) i.chart vs id v view_left there slots_left (record {
        place = refl;
        locks = refl;
        unraised = λ s x. x;
        settled = λ e. e;
        outside = λ s none. none_now _ s none;
        readings = λ r has. inl (subst (λ rs. IsIn rs r) (sym same_readings) has);
      }) i.locks)
      (tree_frame m m' (slot_count k) i.chart vs id v view_left h (h ++ mark_left ∷ []) there slots_left.nodes (record {
        place = refl;
        locks = refl;
        moving = refl;
        more = λ r has. (suc has.0, has.1);
        fewer = λ move is. absurd (let e : None ≡ Some move = sym ((i.locks.few id v there).outside section is_inside).1 ∙ is in cc);
      }) quiet_left i.tree)
      (reader_frame m m' slots_left.nodes i.chart vs id v view_left h (h ++ mark_left ∷ []) there refl refl quiet_left (record {
        readings = subst (λ rs. Each rs IsReading) same_readings (i.readers.readings id v there);
        served = λ s none. none_now _ s none;
        records = λ j r e. left_records j r e;
        older = λ s none. none_now _ s none;
      }) i.readers)
      (listing_frame m m' slots_left.nodes i.chart h (h ++ mark_left ∷ []) quiet_left vs id view_left
      (λ s listing none lists. none_now _ s none) i.listings)
