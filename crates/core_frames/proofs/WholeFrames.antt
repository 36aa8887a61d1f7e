-- The frames of all groups together, who makes a step, and how the law of a step is made of what it leaves.
use Rattle.std.proofs.Common.{◌≡◌, ℕ, ◌≤◌, true, List, [], ◌++◌, set, Option, Some, None, refl, sym, subst, ◌∙◌, inl, inr, ap, arith, false, length, ⊎_elim, ◌∷◌, ◌≢◌, append-nil}
use mathlib.Core.Option.{some}
use lib.ListN.{get_elem?}
use Rattle.prcu_marks.specs.declared.mark.Mark.{Mark}
use Rattle.core_state.specs.declared.shape.Shape.{Shape}
use Rattle.core_state.specs.declared.words.Field.TheVariants.{Clock}
use Rattle.core_state.specs.declared.view.Latest.{Latest}
use Rattle.core_state.specs.declared.view.Look.{Look}
use Rattle.core_state.specs.declared.view.Move.{Move}
use Rattle.core_state.specs.declared.view.Reading.{Reading}
use Rattle.core_state.specs.declared.view.Meeting.{Meeting}
use Rattle.core_state.specs.declared.view.Section.{Section}
use Rattle.core_state.specs.declared.view.Waiting.{Waiting}
use Rattle.core_state.specs.declared.view.View.{View}
use Rattle.list_laws.specs.Counts.{IsIn, Each}
use Rattle.core_state.specs.Memory.{Memory, slot_count, stored}
use Rattle.core_state.specs.Tree.{Chart}
use Rattle.core_state.specs.Views.{Works, open_reading}
use Rattle.core_state.specs.Steps.{spent_view, stepped}
use Rattle.core_state.specs.Parts.{ReaderParts, WaiterParts, CountParts, FrontParts, GraceParts, ListingParts, LockParts, IsUnraisedOf, MarkParts, WaitStands, SeatParts, SlotParts, TreeParts, IsClear, IsWaitedRetired}
use Rattle.core_state.specs.Invariant.{HoldsNow, IsShape}
use Rattle.core_frames.proofs.Marks.{SilentMarks, silent_same, end_same, others_same, waits_same, IsUnlinkedNow, PlainMarks, others_plain, waits_plain, OtherMarks}
use Rattle.core_frames.proofs.Views.{SameSlots, OwnSlots, own_slots, reader_words, slots_stay, same_slots, writer_words, SamePlaces, content_same, stored_same}
use Rattle.core_frames.proofs.WaitFrames.{Sees, mark_frame_by, wait_same, waiter_frame, grace_frame, excused_same, turned_same, AreLoaded, clocked_same, waiters_by, grace_frame_by, grace_longer, retired_still, waited_before, waited_longer, mark_frame_still}
use Rattle.core_frames.proofs.PlaceFrames.{counted_still, seat_frame_still, slot_frame, lock_frame, count_frame, numbers_of, front_frame, front_stays}
use Rattle.core_frames.proofs.TreeFrames.{tree_frame, see_same, readers_stay, listing_frame_still}
use Rattle.core_state.specs.declared.view.HeldLock.{HeldLock}
use Rattle.core_state.specs.declared.view.Retired.{Retired}
use Rattle.core_state.specs.declared.view.Spent.{Spent}
use Rattle.prcu_model.proofs.ListFacts.{prefix_self}
use Rattle.core_state.specs.declared.view.Clocked.{Clocked}
use Rattle.prcu_marks.specs.Marks.{gone_at, last_unlinked, greatest_key}
use Rattle.core_state.specs.Marks.{AreMarks, Grace, HasWaited, Reuse}
use Rattle.list_laws.proofs.Lists.{at_below, at_end, set_twice}
use Rattle.core_state.specs.declared.words.Field.{Field}
use Rattle.atomic_table.proofs.Lists.{set_here}
use Rattle.core_frames.specs.Laws.{IsKept, KeepsPast}
use Rattle.core_state.specs.declared.words.Kind.{Kind}

-- All parts together. What a step leaves of them falls in two halves, by what it leaves of its view: what the view has of slots, and
-- what it has at its place. The others, on the waiter's words, the counts, the front and the listings, have a frame each.

-- what a view has of slots: places, what its sections found out, locks, the slots in hand, its move
pub record SlotSide : Type 0 where
  pub own : OwnSlots
  pub section : Option Section
  pub records : List Reading
  pub locks : List HeldLock
  pub moving : Option Move

abbrev pub slot_side : View → SlotSide
slot_side u = record { own = own_slots u; section = u.section; records = u.records; locks = u.locks; moving = u.moving }

-- what it has at its place: places, its section, how many sections and waits there were, its retired slots and its move, for which it waits
pub record SeatSide : Type 0 where
  pub place : ℕ
  pub places : ℕ
  pub joined : List Spent
  pub met : List Meeting
  pub section : Option Section
  pub sections : ℕ
  pub waits : ℕ
  pub retired : List Retired
  pub moving : Option Move

abbrev pub seat_side : View → SeatSide
seat_side u = record {
  place = u.allowance.place;
  places = u.allowance.places;
  joined = u.allowance.joined;
  met = u.allowance.met;
  section = u.section;
  sections = u.counts.sections;
  waits = u.counts.waits;
  retired = u.hands.retired;
  moving = u.moving;
}

-- The groups that read what views have of slots.
pub record SlotHalf (k : Shape) (m : Memory) (g : Chart) (vs : List View) (h : List Mark) : Type 0 where
  pub slots : SlotParts k.room m (slot_count k) g vs h
  pub locks : LockParts m (slot_count k) g vs
  pub tree : TreeParts m (slot_count k) g vs h
  pub readers : ReaderParts m g vs h

-- The groups that read what views have at their places.
pub record SeatHalf (k : Shape) (vs : List View) (h : List Mark) : Type 0 where
  pub marks : MarkParts k.places vs h
  pub seats : SeatParts k.places vs h
  pub grace : GraceParts vs h

-- both halves, and the parts on the waiter's words, the counts, the front and the listings
pub whole : (k : Shape) (m : Memory) (g : Chart) (vs : List View) (h : List Mark) → IsShape k → SlotHalf k m g vs h → SeatHalf k vs h
    → WaiterParts k m vs h → CountParts k.tickets m (slot_count k) g vs h → FrontParts m vs h → ListingParts m g vs h → HoldsNow k m vs h
whole k m g vs h table of_slots of_seats waiters counts front listings = record {
  table = table;
  chart = g;
  marks = of_seats.marks;
  seats = of_seats.seats;
  waiters = waiters;
  slots = of_slots.slots;
  locks = of_slots.locks;
  counts = counts;
  tree = of_slots.tree;
  readers = of_slots.readers;
  front = front;
  listings = listings;
  grace = of_seats.grace;
}

module _ (k : Shape) (m : Memory) (vs : List View) (h : List Mark) (id : ℕ) (v w : View) (i : HoldsNow k m vs h)
    (there : get_elem? vs id ≡ some v) where
  -- A step that leaves what its view has of slots, and their words.
  pub slot_half : (m' : Memory) (h' : List Mark) → SameSlots m m' → SilentMarks h h' → slot_side w ≡ slot_side v
      → ((v.hands.reserved ≡ true → v.hands.hand ≡ None) → w.hands.reserved ≡ true → w.hands.hand ≡ None)
      → SlotHalf k m' i.chart (set vs id w) h'
  slot_half m' h' slots quiet same one =
      let moving : w.moving ≡ v.moving = (λ n. (same n).moving) in
      let locks : w.locks ≡ v.locks = (λ n. (same n).locks) in
      let section : w.section ≡ v.section = (λ n. (same n).section) in
      let records : w.records ≡ v.records = (λ n. (same n).records) in
      let place : w.allowance.place ≡ v.allowance.place = (λ n. (same n).own.place) in
      record {
        slots = slot_frame m m' (slot_count k) i.chart vs id v w h h' there slots
            (record { own = λ n. (same n).own; moving = moving; one = one }) quiet i.slots;
        locks = lock_frame m m' (slot_count k) i.chart vs id v w there slots (record {
          place = place;
          locks = locks;
          unraised = λ s x. subst (λ (y : SlotSide). IsUnraisedOf y.own.retired s) (sym same) x;
          settled = λ e. moving ∙ e;
          outside = λ s is. (i.locks.few id v there).outside s (sym section ∙ is);
          readings = λ r has. inl (subst (λ rs. IsIn rs r) (λ n. open_reading (section n) ++ records n) has);
        }) i.locks;
        tree = tree_frame m m' (slot_count k) i.chart vs id v w h h' there slots.nodes
            (record {
              place = place;
              locks = locks;
              moving = moving;
              more = λ r has. subst (λ rs. IsIn rs r) (sym records) has;
              fewer = λ move is r has. subst (λ rs. IsIn rs r) records has;
            }) quiet i.tree;
        readers = readers_stay m m' slots.nodes i.chart vs id v w h h' there quiet
            (see_same vs id v w there moving locks) section records i.readers;
      }

  -- A step that leaves what its view has at its place, and no mark. What it says of its wait has to be so.
  pub seat_half : Works v → seat_side w ≡ seat_side v → Sees h h v w → ((wait : Waiting) → w.wait ≡ Some wait → WaitStands h w wait)
      → SeatHalf k (set vs id w) h
  seat_half works same sees stands =
      let place : w.allowance.place ≡ v.allowance.place = (λ n. (same n).place) in
      let section : w.section ≡ v.section = (λ n. (same n).section) in
      record {
        marks = mark_frame_by k.places vs id v w h h there (prefix_self h) sees i.marks.marks i.marks stands (λ j u wait ne e s has. has);
        seats = seat_frame_still k.places vs id v w h h there works
            (record { place = place; places = λ n. (same n).places; joined = λ n. (same n).joined; met = λ n. (same n).met })
            (others_same v.allowance.place h) sees
            (counted_still h h v w place refl refl (λ n. (same n).sections) (λ n. (same n).waits)
            (i.seats.counted id v there works)) i.seats section refl;
        grace = grace_frame vs id v w h h there (λ s is. inr (s, sym section ∙ is, refl, refl)) (silent_same h) (waits_same h) place
            (λ n. (same n).joined) (λ n. (same n).retired) (λ n. (same n).moving) i.grace.grace i.grace.reuse i.grace;
      }

  -- the wait is as it was
  pub wait_still : seat_side w ≡ seat_side v → w.wait ≡ v.wait → (wait : Waiting) → w.wait ≡ Some wait → WaitStands h w wait
  wait_still same waits wait is =
      let s = i.marks.waits id v there wait (sym waits ∙ is) in
      wait_same h v w wait (λ n. (same n).place) (subst (λ (x : SeatSide). 1 ≤ x.places) (sym same) s.works) (λ n. (same n).waits) s

-- a view without what it loaded for its next section, its latest numbers, its looks and its trail
abbrev pub lasting : View → View
lasting u = record u { enter = spent_view.enter; latest = spent_view.latest; looks = []; trail = spent_view.trail }

-- A step that leaves all the rest of its view, all words but those in which readers show, and no mark: the parts on the waiter's words it
-- has to say.
pub waiter_law : (k : Shape) (m m' : Memory) (vs : List View) (h : List Mark) (id : ℕ) (v w : View) (i : HoldsNow k m vs h)
    → get_elem? vs id ≡ some v → Works v → writer_words m' ≡ writer_words m → lasting w ≡ lasting v → WaiterParts k m' (set vs id w) h
    → HoldsNow k m' (set vs id w) h
waiter_law k m m' vs h id v w i there works words same waiters =
    let slots = slots_stay m m' (λ n. (words n).slots) in
    let front = front_stays m m' (λ n. (words n).front) (λ n. (words n).moved) in
    whole k m' i.chart (set vs id w) h i.table
    (slot_half k m vs h id v w i there m' h slots (silent_same h) (λ n. slot_side (same n))
    (λ one reserved. (λ n. (same n).hands.hand) ∙ one ((λ n. (sym same n).hands.reserved) ∙ reserved)))
    (seat_half k m vs h id v w i there works (λ n. seat_side (same n)) (inr (refl, λ n. (same n).seen))
    (wait_still k m vs h id v w i there (λ n. seat_side (same n)) (λ n. (same n).wait))) waiters
    (count_frame k.tickets m m' (slot_count k) i.chart vs id v w h h there slots (λ n. (words n).clock) (λ n. (words n).free)
    (λ n. numbers_of (same n)) (silent_same h) i.counts)
    (front_frame m m' vs id v w h h there front (λ n. (same n).commit) (λ e. (λ n. (same n).moving) ∙ e) (silent_same h) (end_same h) i.front)
    (listing_frame_still m m' slots.nodes i.chart h h (silent_same h) vs id v w there (λ n. (same n).section) i.listings)

-- what a view has to do with the words of its waiter: its place, its section, its wait, and what it loaded and announced for its next
-- section
pub record WaiterSide : Type 0 where
  pub place : ℕ
  pub section : Option Section
  pub wait : Option Waiting
  pub announced : Option ℕ
  pub clock : Option Clocked

abbrev pub waiter_side : View → WaiterSide
waiter_side u = record {
  place = u.allowance.place;
  section = u.section;
  wait = u.wait;
  announced = u.enter.announced;
  clock = u.enter.clock;
}

-- A step that leaves these, the clock and the words in which readers show.
pub waiters_stay : (k : Shape) (m m' : Memory) (vs : List View) (h : List Mark) (id : ℕ) (v w : View) (i : HoldsNow k m vs h)
    → get_elem? vs id ≡ some v → m' Clock ≡ m Clock → reader_words m' ≡ reader_words m → waiter_side w ≡ waiter_side v
    → WaiterParts k m' (set vs id w) h
waiters_stay k m m' vs h id v w i there clock words same =
    waiter_frame k m m' vs id v w h there (record
    { place = λ n. (same n).place; section = λ n. (same n).section; wait = λ n. (same n).wait }) clock words (λ n. (same n).announced)
    (λ clocked is. (i.waiters.clocked id v there).loaded clocked ((λ n. (sym same n).clock) ∙ is)) i.waiters

-- A view that has seen all marks, with other latest numbers and looks.
pub all_seen : (k : Shape) (m : Memory) (vs : List View) (h : List Mark) (id : ℕ) (v : View) (i : HoldsNow k m vs h)
    → get_elem? vs id ≡ some v → Works v → (latest : Latest) (looks : List Look)
    → HoldsNow k m (set vs id (record v { latest = latest; looks = looks; seen = h })) h
all_seen k m vs h id v i there works latest looks =
    let w : View = record v { latest = latest; looks = looks; seen = h } in
    let slots = same_slots m in
    whole k m i.chart (set vs id w) h i.table (slot_half k m vs h id v w i there m h slots (silent_same h) refl (λ one. one))
    (seat_half k m vs h id v w i there works refl (inl refl) (wait_still k m vs h id v w i there refl refl))
    (waiters_stay k m m vs h id v w i there refl refl refl)
    (count_frame k.tickets m m (slot_count k) i.chart vs id v w h h there slots refl refl refl (silent_same h) i.counts)
    (front_frame m m vs id v w h h there (front_stays m m refl refl) refl (λ e. e) (silent_same h) (end_same h) i.front)
    (listing_frame_still m m slots.nodes i.chart h h (silent_same h) vs id v w there refl i.listings)

-- What marks of updates and slots leave: such a step keeps the parts on marks, seats, waiters and grace by the frames of each group.

-- What a step with such marks leaves of a view for the parts on marks and seats. It has seen all marks.
pub record SameForMore (v w : View) (h' : List Mark) : Type 0 where
  pub places : SamePlaces v w
  pub section : w.section ≡ v.section
  pub enter : w.enter ≡ v.enter
  pub wait : w.wait ≡ v.wait
  pub sections : w.counts.sections ≡ v.counts.sections
  pub waits : w.counts.waits ≡ v.counts.waits
  pub seen : w.seen ≡ h'

-- where it changes the seat's tickets, hands, locks, commit and move alone, and what is known
pub same_for_more : {v w : View} {h' : List Mark} → w ≡ record v {
  allowance = record v.allowance { tickets = w.allowance.tickets };
  records = w.records;
  locks = w.locks;
  hands = w.hands;
  commit = w.commit;
  moving = w.moving;
  latest = w.latest;
  trail = w.trail;
  seen = h';
} → SameForMore v w h'
same_for_more e = record {
  places = record {
    place = ap (λ (z : View). z.allowance.place) e;
    places = ap (λ (z : View). z.allowance.places) e;
    joined = ap (λ (z : View). z.allowance.joined) e;
    met = ap (λ (z : View). z.allowance.met) e;
  };
  section = ap (λ (z : View). z.section) e;
  enter = ap (λ (z : View). z.enter) e;
  wait = ap (λ (z : View). z.wait) e;
  sections = ap (λ (z : View). z.counts.sections) e;
  waits = ap (λ (z : View). z.counts.waits) e;
  seen = ap (λ (z : View). z.seen) e;
}

module _ (h h' : List Mark) (place : ℕ) (more : PlainMarks place h h') where
  pub mark_frame_plain : (places : ℕ) (vs : List View) (id : ℕ) (v w : View) → get_elem? vs id ≡ some v → SameForMore v w h'
      → AreMarks places h' → MarkParts places vs h → MarkParts places (set vs id w) h'
  mark_frame_plain places vs id v w there same marks t =
      mark_frame_still places vs id v w h h' there more.begins (inl same.seen) marks t (waits_plain place h h' more)
      (record { place = same.places.place; places = same.places.places; wait = same.wait; waits = same.waits })

  pub seat_frame_plain : (places : ℕ) (vs : List View) (id : ℕ) (v w : View) → get_elem? vs id ≡ some v → Works v
      → v.allowance.place ≡ place → SameForMore v w h' → SeatParts places vs h → SeatParts places (set vs id w) h'
  seat_frame_plain places vs id v w there works at same t =
      seat_frame_still places vs id v w h h' there works same.places
      (subst (λ p. OtherMarks p h h') (sym at) (others_plain place h h' more)) (inl same.seen)
      (counted_still h h' v w same.places.place (more.entries v.allowance.place) (more.waits_at v.allowance.place) same.sections same.waits
      (t.counted id v there works)) t same.section (more.opens v.allowance.place)

  pub waiter_frame_plain : (k : Shape) (m m' : Memory) (vs : List View) (id : ℕ) (v w : View) → get_elem? vs id ≡ some v
      → SameForMore v w h' → m' Clock ≡ m Clock → reader_words m' ≡ reader_words m → AreLoaded vs h → WaiterParts k m vs h
      → WaiterParts k m' (set vs id w) h'
  waiter_frame_plain k m m' vs id v w there same clock words low t =
      waiters_by k m m' vs id v w h h' there (record
      { place = same.places.place; section = same.section; announced = ap (λ e. e.announced) same.enter }) words
      (clock ∙ t.clock ∙ sym more.waits) more.opens
      (clocked_same k.waiter vs id v w h h' there more.begins low same.section (ap (λ e. e.clock) same.enter) t.clocked)
      (excused_same k vs id v w there (record { place = same.places.place; section = same.section; wait = same.wait }) t.excused)
      (turned_same vs id v w there same.wait t.turned) t

module _ (place : ℕ) (h h' : List Mark) (more : PlainMarks place h h') where
  pub grace_plain : Grace h → Grace h'
  grace_plain = grace_longer h h' more.begins (waits_plain place h h' more)

  pub waited_more : (p after low high : ℕ) → HasWaited h p after low high → HasWaited h' p after low high
  waited_more = waited_longer h h' more.longer

  pub waited_back : (p after low high : ℕ) → HasWaited h' p after low high → HasWaited h p after low high
  waited_back = waited_before h h' (waits_plain place h h' more)

  -- nobody has waited for what comes with these marks
  pub waited_early : (p after low high : ℕ) → length h ≤ after → HasWaited h' p after low high → ⊥
  waited_early p after low high le i = let b = waited_back p after low high i in let l = at_below h b.began _ b.begins in
      let late = b.late in absurd (omega arith)

-- Where no move is pending afterwards.
module _ (place : ℕ) (h h' : List Mark) (more : PlainMarks place h h') (vs : List View) (id : ℕ) (v w : View)
    (there : get_elem? vs id ≡ some v) (section : w.section ≡ v.section) (places : SamePlaces v w) (settled : w.moving ≡ None)
    (reuse : Reuse h') where
  waited_still : (p : ℕ) (r : Retired) → IsWaitedRetired vs h p r → IsWaitedRetired (set vs id w) h' p r
  waited_still = retired_still h h' (waited_more place h h' more) (waited_back place h h' more) vs id v w there section

  settled_by : ((s at : ℕ) → gone_at s h' ≡ None → last_unlinked s h' ≡ Some at → IsClear vs at 0 greatest_key)
      → ((rs : List Retired) → w.hands.retired ≡ rs → Each rs (IsWaitedRetired (set vs id w) h' v.allowance.place)) → GraceParts vs h
      → GraceParts (set vs id w) h'
  settled_by clean own t =
      grace_frame_by h h' (waited_more place h h' more) (waited_back place h h' more) vs id v w there section places.joined
      (grace_plain place h h' more t.grace) reuse clean
      (subst (λ p. Each w.hands.retired (IsWaitedRetired (set vs id w) h' p)) (sym places.place) (own w.hands.retired refl))
      (λ move is. absurd (let q : None ≡ Some move = sym settled ∙ is in cc)) t

  -- the step unlinks a slot, for which nobody has waited
  pub grace_unlinked : (d at : ℕ) (r : Retired) → IsUnlinkedNow h h' d at → w.hands.retired ≡ v.hands.retired ++ r ∷ [] → r.unlinked ≡ at
      → r.waited ≡ false → GraceParts vs h → GraceParts (set vs id w) h'
  grace_unlinked d at r now retired unlinked unwaited t =
      settled_by
      (λ s p gone last. (let ne : s ≢ d = (λ e. (let q : None ≡ Some at = sym gone ∙ ap (λ x. gone_at x h') e ∙ now.here in absurd (cc))) in
      t.clean s p (sym (now.gone s ne) ∙ gone) (sym (now.last s ne) ∙ last)))
      (λ rs is. subst (λ z. Each z (IsWaitedRetired (set vs id w) h' v.allowance.place)) (sym retired ∙ is) own) t
    where
      fresh : IsWaitedRetired (set vs id w) h' v.allowance.place r
      fresh = record {
        shown = λ e. absurd (let q : false ≡ true = sym unwaited ∙ e in cc);
        noted = λ has. absurd (waited_early place h h' more v.allowance.place r.unlinked 0 greatest_key
            (let a = now.after in omega arith) has);
        clear = λ e. absurd (let q : false ≡ true = sym unwaited ∙ e in cc);
      }

      own : Each (v.hands.retired ++ r ∷ []) (IsWaitedRetired (set vs id w) h' v.allowance.place)
      own j q e = ⊎_elim (λ (o : get_elem? v.hands.retired j ≡ some q). waited_still v.allowance.place q (t.retired id v there j q o))
          (λ n. subst (IsWaitedRetired (set vs id w) h' v.allowance.place) n.1 fresh) (at_end v.hands.retired r q j e)

  -- it unlinks none
  pub grace_same : ((s : ℕ) → gone_at s h' ≡ gone_at s h) → ((s : ℕ) → last_unlinked s h' ≡ last_unlinked s h)
      → w.hands.retired ≡ v.hands.retired → GraceParts vs h → GraceParts (set vs id w) h'
  grace_same gone last retired t =
      settled_by (λ s p none is. t.clean s p (sym (gone s) ∙ none) (sym (last s) ∙ is))
      (λ rs is. subst (λ z. Each z (IsWaitedRetired (set vs id w) h' v.allowance.place)) (sym retired ∙ is)
      (λ j q e. waited_still v.allowance.place q (t.retired id v there j q e))) t

-- Who makes a step, and from which state: a view that works at a place, where the invariant holds.

pub record Stepper : Type 0 where
  pub k : Shape
  pub m : Memory
  pub vs : List View
  pub h : List Mark
  pub id : ℕ
  pub v : View
  pub inv : HoldsNow k m vs h
  pub there : get_elem? vs id ≡ some v
  pub works : Works v

-- What it is for a step to keep the invariant, and how its law is made of what it leaves.

-- what a step on no slot's word leaves
pub past_kept : (m m' : Memory) (h : List Mark) → SameSlots m m' → KeepsPast m h m'
past_kept m m' h slots = record {
  lives = λ s. (let e = slots.nodes.life s in omega arith);
  tags = λ s b. (let e = slots.nodes.tag s b in omega arith);
  content = λ s field gone odd content. content_same m m' slots.nodes s field content;
}

-- a step on no slot's word
pub kept : (k : Shape) (m m' : Memory) (h : List Mark) (vs : List View) (h' : List Mark) → SameSlots m m' → HoldsNow k m' vs h'
    → IsKept k m h m' vs h'
kept k m m' h vs h' slots i = record { invariant = i; past = past_kept m m' h slots }

-- a step that only loads
pub only_loaded : (k : Shape) (m : Memory) (h : List Mark) (field : Field) (vs : List View) (h' : List Mark) → HoldsNow k m vs h'
    → IsKept k m h (stored m field (m field)) vs h'
only_loaded k m h field vs h' i = subst (λ z. IsKept k m h z vs h') (sym (stored_same m field)) (kept k m m h vs h' (same_slots m) i)

-- a step that leaves no mark
pub no_mark : (k : Shape) (m to : Memory) (h : List Mark) (vs : List View) → IsKept k m h to vs h → IsKept k m h to vs (h ++ [])
no_mark k m to h vs kept_so = subst (IsKept k m h to vs) (sym (append-nil h)) kept_so

module _ (z : Stepper) where
  open z use {k, m, vs, h, id}

  -- its step on a field, with the number left there, the view after it and its marks
  abbrev pub StepKeeps : Field → ℕ → View → List Mark → Type 0
  StepKeeps field left w marks = IsKept k m h (stored m field left) (set vs id w) (h ++ marks)

  -- a load that leaves no mark
  pub by_load : (field : Field) (w : View) → HoldsNow k m (set vs id w) h → StepKeeps field (m field) w []
  by_load field w i = no_mark k m (stored m field (m field)) h (set vs id w) (only_loaded k m h field (set vs id w) h i)

  -- a store on no slot's word, with its marks, or without one
  pub by_store : (field : Field) (left : ℕ) (w : View) (marks : List Mark) → SameSlots m (stored m field left)
      → HoldsNow k (stored m field left) (set vs id w) (h ++ marks) → StepKeeps field left w marks
  by_store field left w marks slots i = kept k m (stored m field left) h (set vs id w) (h ++ marks) slots i

  pub by_waiter_store : (field : Field) (left : ℕ) (w : View) → SameSlots m (stored m field left)
      → HoldsNow k (stored m field left) (set vs id w) h → StepKeeps field left w []
  by_waiter_store field left w slots i =
      no_mark k m (stored m field left) h (set vs id w) (kept k m (stored m field left) h (set vs id w) h slots i)

-- a step is noted in the trail
pub stepped_keeps : (k : Shape) (m : Memory) (vs : List View) (h : List Mark) (id : ℕ) (v : View) (i : HoldsNow k m vs h)
    → get_elem? vs id ≡ some v → Works v → (kind : Kind) (field : Field) (number : ℕ)
    → HoldsNow k m (set vs id (stepped v kind field number)) h
stepped_keeps k m vs h id v i there works kind field number =
    let w : View = stepped v kind field number in
    waiter_law k m m vs h id v w i there works refl refl (waiters_stay k m m vs h id v w i there refl refl refl)

-- a step that keeps the invariant keeps it where it is noted in the trail afterwards
pub noted_keeps : (z : Stepper) (field : Field) (left : ℕ) (w : View) (marks : List Mark) → Works w → StepKeeps z field left w marks
    → (kind : Kind) (on : Field) (number : ℕ) → StepKeeps z field left (stepped w kind on number) marks
noted_keeps z field left w marks works kept_so kind on number =
    let us : List View = set z.vs z.id w in
    let noted : View = stepped w kind on number in
    record {
      invariant = subst (λ x. HoldsNow z.k (stored z.m field left) x (z.h ++ marks)) (set_twice z.vs z.id w noted)
          (stepped_keeps z.k (stored z.m field left) us (z.h ++ marks) z.id w kept_so.invariant
          (set_here z.vs z.id w (at_below z.vs z.id z.v z.there)) works kind on number);
      past = kept_so.past;
    }
