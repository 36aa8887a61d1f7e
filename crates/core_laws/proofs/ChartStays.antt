-- A step that leaves the chart: it leaves keys, values and links of all slots of one kind, which linked slots and those that a section can
-- meet are of. It frames all parts but those on slots, locks, counts and grace; a step that changes the view's hands alone is such a one.
use Rattle.std.proofs.Common.{◌≡◌, ◌≢◌, ℕ, ◌/◌, true, List, set, Some, refl, sym, ap, subst, ◌∙◌, ◌+◌, ◌*◌, ◌≤◌, length, None, ⊎_elim, inl, inr, arith, ◌++◌, false, [], ◌∷◌, ◌-◌, map, Option}
use mathlib.Core.Option.{some}
use lib.ListN.{get_elem?}
use Rattle.prcu_model.specs.declared.operation.Update.{Update}
use Rattle.prcu_model.specs.Dictionary.{map_of, WasSaid}
use Rattle.prcu_marks.specs.declared.mark.Mark.{Mark}
use Rattle.prcu_marks.specs.declared.mark.Mark.TheVariants.{Done}
use Rattle.prcu_marks.specs.declared.mark.Side.{Side}
use Rattle.prcu_marks.specs.Marks.{updates_of, gone_at, last_unlinked, greatest_key}
use Rattle.core_state.specs.declared.words.Field.{Field}
use Rattle.core_state.specs.declared.words.Field.TheVariants.{Life, Link, Tag, Clock, Front, Moved, Announced, Stamp, Count, Row}
use Rattle.core_state.specs.declared.view.HeldLock.{HeldLock}
use Rattle.core_state.specs.declared.view.Move.{Move}
use Rattle.core_state.specs.declared.view.Reading.{Reading}
use Rattle.core_state.specs.declared.view.Section.{Section}
use Rattle.core_state.specs.declared.view.View.{View}
use Rattle.list_laws.specs.Counts.{IsIn, Each, times, numbers_from}
use Rattle.core_state.specs.Memory.{Memory, slot_count, IsOdd}
use Rattle.core_state.specs.Views.{known_in, lock_of, HasLock, open_reading, readings_of, Works, held_list, joined_spares, retired_of, slots_of, unraised_hand}
use Rattle.core_state.specs.Tree.{HoldsMap, Belongs, IsHeldBack, IsEmptied, MayPass, IsOldFor, OnRightLeft, Chart}
use Rattle.core_state.specs.Parts.{HasGeneration, IsAsRecorded, state_slot, IsReading, StandsWell, Answered, IsServed, IsStillLinked, IsRecord, AreAged, ReaderParts, map_now, IsMoving, TreeParts, IsBetween, GoesOn, here, StandsNow, IsVisit, IsListing, ListingParts, MarkParts, SeatParts, WaiterParts, SlotParts, LockParts, IsUnraised, CountParts, GraceParts, IsClear, IsWaitedRetired, IsWaitedMove, AreHandsKnown, IsGoneSince}
use Rattle.list_laws.proofs.Lists.{each_set, in_second}
use Rattle.core_frames.proofs.Views.{SamePlaces, was, reader_words, same_slots}
use Rattle.core_frames.proofs.TreeFrames.{pending_still, SameContents, shape_same, map_same, right_left_same, walks_same, place_same, belongs_same, may_still, old_still, emptied_still, met_still}
use Rattle.core_laws.proofs.Stores.{IsBesideSlots, moving_left}
use Rattle.core_frames.proofs.WholeFrames.{Stepper, SameForMore, mark_frame_plain, seat_frame_plain, waiter_frame_plain}
use Rattle.core_state.specs.declared.view.Hands.{Hands}
use Rattle.core_state.specs.declared.view.Fact.{Fact}
use Rattle.core_state.specs.declared.view.Gap.{Gap}
use Rattle.core_state.specs.declared.view.Listing.{Listing}
use Rattle.core_state.specs.declared.view.Visit.{Visit}
use Rattle.core_frames.proofs.Charts.{carry_going, bool_cases}
use Rattle.core_state.specs.declared.shape.Shape.{Shape}
use Rattle.core_state.specs.Invariant.{HoldsNow}
use Rattle.core_frames.proofs.PlainLaws.{clocked_before}
use Rattle.core_frames.proofs.Marks.{SameEnd, end_same, IsPlain, plain_one, silent_same}
use Rattle.core_frames.proofs.WaitFrames.{NewMark, marks_snoc, mark_frame, waiter_frame, grace_frame_by, retired_still, move_still}
use Rattle.core_frames.proofs.PlaceFrames.{front_stays, seat_frame, front_by, lock_frame, counts_kept, retired_of_still, slots_by}
use Rattle.core_state.specs.declared.view.Retired.{Retired}
use Rattle.core_state.specs.Marks.{Grace, Reuse, HasWaited}
use Rattle.core_state.specs.declared.view.Held.{Held}
use Rattle.std.specs.FinMap as finite

-- what such a step leaves of its view: all but locks and hands, and what it has seen
pub record SameOutside (v w : View) : Type 0 where
  pub places : SamePlaces v w
  pub section : w.section ≡ v.section
  pub enter : w.enter ≡ v.enter
  pub records : w.records ≡ v.records
  pub moving : w.moving ≡ v.moving
  pub commit : w.commit ≡ v.commit
  pub wait : w.wait ≡ v.wait
  pub sections : w.counts.sections ≡ v.counts.sections
  pub waits : w.counts.waits ≡ v.counts.waits

-- a view with other locks and hands that has seen more
pub same_but : (v : View) (locks : List HeldLock) (hands : Hands) (seen : List Mark)
    → SameOutside v (record v { locks = locks; hands = hands; seen = seen })
same_but v locks hands seen = record {
  places = record { place = refl; places = refl; joined = refl; met = refl };
  section = refl;
  enter = refl;
  records = refl;
  moving = refl;
  commit = refl;
  wait = refl;
  sections = refl;
  waits = refl;
}

-- Such a step, for the slots that P holds of. It need not leave their lives, nor tags; it says what records make of these.
pub record ChartStep (P : ℕ → Type 0) : Type 0 where
  pub who : Stepper
  pub m' : Memory
  pub hs : List Mark
  pub w : View
  -- the words
  pub contents : SameContents who.m m' P P
  pub beside : (field : Field) → IsBesideSlots field → m' field ≡ who.m field
  pub on : (s : ℕ) → who.inv.chart.linked s ≡ true → P s
  pub half : (s : ℕ) → P s → m' (Life s) / 2 ≡ who.m (Life s) / 2
  -- what sections meet, and what their records say
  pub met : (j : ℕ) (u : View) (section : Section) → get_elem? who.vs j ≡ some u → u.section ≡ Some section → (s : ℕ)
      → IsHeldBack who.inv.chart who.h section.entered s → P s × (gone_at s hs ≡ gone_at s who.h) × (m' (Life s) ≡ who.m (Life s))
  pub gone : (s at : ℕ) → gone_at s hs ≡ Some at → (gone_at s who.h ≡ Some at) × ((b : Side) → m' (Link s b) ≡ who.m (Link s b))
  pub recorded : (j : ℕ) (u : View) (r : Reading) → get_elem? who.vs j ≡ some u → IsIn u.records r → (s : ℕ) → IsAsRecorded m' r s
      → P s × IsAsRecorded who.m r s
  pub side : (j : ℕ) (u : View) (r : Reading) (s tag : ℕ) (b : Side) → get_elem? who.vs j ≡ some u → IsIn u.records r
      → known_in r.loads (Tag s b) ≡ Some tag → m' (Tag s b) ≡ tag → (IsEmptied (set who.vs who.id w) s b → ⊥)
      → (who.m (Tag s b) ≡ tag) × (IsEmptied who.vs s b → ⊥)
  -- locks and moves
  pub held : (s : ℕ) → HasLock who.v s → HasLock w s
  pub generation : (j : ℕ) (u : View) (s : ℕ) (l : HeldLock) (generation : ℕ) → j ≢ who.id → get_elem? who.vs j ≡ some u
      → lock_of u.locks s ≡ Some l → who.inv.chart.linked s ≡ true → HasGeneration who.m s generation l → HasGeneration m' s generation l
  pub own_generation : (s : ℕ) (l : HeldLock) (generation : ℕ) → lock_of who.v.locks s ≡ Some l → who.inv.chart.linked s ≡ true
      → HasGeneration who.m s generation l → (l' : HeldLock) × (lock_of w.locks s ≡ Some l') × HasGeneration m' s generation l'
  pub copies : (j : ℕ) (u : View) (move : Move) → get_elem? who.vs j ≡ some u → u.moving ≡ Some move
      → m' (Life move.copy.slot) ≡ who.m (Life move.copy.slot)
  -- the rest of the view, and the marks
  pub view : SameOutside who.v w
  pub updates : updates_of hs ≡ updates_of who.h
  pub ends : SameEnd who.h hs
  pub longer : (j : ℕ) (a : Mark) → get_elem? who.h j ≡ some a → get_elem? hs j ≡ some a
  pub done : (j : ℕ) (u : Update) → get_elem? hs j ≡ some (Done u) → get_elem? who.h j ≡ some (Done u)

module _ (P : ℕ → Type 0) (z : ChartStep P) where
  open z use {who.{k, m, vs, h, id, v, there, inv.{chart as g}}, m', hs, w}

  abbrev us : List View
  us = set vs id w

  pub map_stays : map_now hs ≡ map_now h
  map_stays = ap (λ x y. finite.get (map_of x) y) z.updates

  moving_else : (j : ℕ) (u x : View) (move : Move) → get_elem? vs j ≡ some u → u.moving ≡ Some move → x.allowance.place ≡ u.allowance.place
      → x.records ≡ u.records → ((s : ℕ) → HasLock u s → HasLock x s)
      → ((l : HeldLock) (generation : ℕ) → lock_of u.locks move.old ≡ Some l → g.linked move.old ≡ true
      → HasGeneration m move.old generation l → (l' : HeldLock) × (lock_of x.locks move.old ≡ Some l')
      × HasGeneration m' move.old generation l')
      → IsMoving m' g hs x move
  moving_else j u x move e is place records held generation = let t = z.who.inv.tree.moves.each j u e move is in
      moving_left m m' g g h hs u x move (record {
        copy_linked = t.copy_linked;
        copy_old = refl;
        copy_key = z.contents.key move.copy.slot (z.on move.copy.slot t.copy_linked);
        copy_value = z.contents.value move.copy.slot (z.on move.copy.slot t.copy_linked);
        copy_life = z.copies j u move e is;
        old_linked = t.old_linked;
        old_old = refl;
        old_key = z.contents.key move.old (z.on move.old t.old_linked);
        old_value = z.contents.value move.old (z.on move.old t.old_linked);
        parent = refl;
        side = refl;
        held = held;
        generation = λ l life f x. generation l life f t.old_linked x;
        place = place;
        records = records;
        longer = z.longer;
      }) t

  pub tree_stays : TreeParts m' (slot_count k) g us hs
  tree_stays = let t = z.who.inv.tree in let moving = z.view.moving in record {
    shape = shape_same m m' P P z.contents g z.on (slot_count k) t.shape;
    map = subst (HoldsMap m' g) (sym map_stays) (map_same m m' P P z.contents g z.on z.on (map_now h) t.map);
    moves = record {
      each = each_set (λ j u. (move : Move) → u.moving ≡ Some move → IsMoving m' g hs u move) vs id w
          (λ move is. moving_else id v w move there (sym moving ∙ is) z.view.places.place z.view.records z.held
          (λ l generation e on f. z.own_generation move.old l generation e on f))
          (λ j u ne e move is. moving_else j u u move e is refl refl (λ s x. x)
          (λ l generation f on x. (l, f, z.generation j u move.old l generation ne e f on x)));
      every = λ s l o. (let a = t.moves.every s l o in
          record { move = a.move; pending = pending_still vs id v w there moving a.move a.pending; old = a.old });
      one_old = λ x y a b p q ea eb ia ib e. (let u = was (λ (f : View). f.moving) vs id v w there moving x a ea in
          let f = was (λ (f : View). f.moving) vs id v w there moving y b eb in
          t.moves.one_old x y u.0 f.0 p q u.1 f.1 (sym u.2 ∙ ia) (sym f.2 ∙ ib) e);
      one_copy = λ x y a b p q ea eb ia ib e. (let u = was (λ (f : View). f.moving) vs id v w there moving x a ea in
          let f = was (λ (f : View). f.moving) vs id v w there moving y b eb in
          t.moves.one_copy x y u.0 f.0 p q u.1 f.1 (sym u.2 ∙ ia) (sym f.2 ∙ ib) e);
    };
  }

  -- the parts on readers and on listings
  abbrev n : ℕ
  n = slot_count k

  held_on : (j : ℕ) (u : View) (section : Section) → get_elem? vs j ≡ some u → u.section ≡ Some section → (s : ℕ)
      → IsHeldBack g h section.entered s → IsHeldBack g hs section.entered s
  held_on j u section e inside s x = let met = z.met j u section e inside s x in
      record { out = x.out; at = x.at; gone = met.1 ∙ x.gone; later = x.later }

  -- a section that is open stands where it stood
  served_stays : (j : ℕ) (u : View) (section : Section) → get_elem? vs j ≡ some u → u.section ≡ Some section → IsServed m' g hs us section
  served_stays j u section e inside =
      let i = z.who.inv.readers.served j u e section inside in
      let reading = z.who.inv.readers.readings j u e 0 section.reading
      (ap (λ rs. get_elem? rs 0) (ap (λ x. open_reading x ++ u.records) inside)) in
      let kind = λ (s : ℕ) (x : IsHeldBack g h section.entered s). (z.met j u section e inside s x).0 in
      record {
        placed = λ none. (let p = i.placed none in record {
          place = place_same m m' P P z.contents g z.on (λ s l _. z.on s l) section.key (IsHeldBack g h section.entered)
              (IsHeldBack g hs section.entered) (MayPass vs section.key section.entered) (MayPass us section.key section.entered)
              (WasSaid (updates_of h) section.key section.from) (WasSaid (updates_of hs) section.key section.from)
              kind kind (held_on j u section e inside) (may_still vs id v w there z.view.moving section.key section.entered)
              (λ o y. subst (λ x. WasSaid x section.key section.from o) (sym z.updates) y) (state_slot section.reading.state) p.place;
          answered = subst (λ x. Answered x section section.reading.state) (sym z.updates) p.answered;
        });
        lists = i.lists;
        walking = λ node parent b value walk found on.
            (let p = i.walking node parent b value walk found on in
            let nz = (subst (StandsWell section.reading) found reading.well).0.some_slot in
            record {
              walks = λ l. walks_same m m' P P z.contents g z.on n z.who.inv.tree.shape node (IsHeldBack g h section.entered)
                  (IsHeldBack g hs section.entered) l nz kind (held_on j u section e inside) walk.slot (p.walks l);
              parent = λ l q. ⊎_elim (λ y. inl y) (λ (y : OnRightLeft m node walk.parent). inr
                  (right_left_same m m' P P z.contents g z.on n z.who.inv.tree.shape node walk.parent l nz y)) (p.parent l q);
            });
        stood = λ s has.
            (let p = i.stood s has in
            let is_kind : P s = ⊎_elim (λ (l : g.linked s ≡ true). z.on s l)
            (λ (y : IsHeldBack g h section.entered s × IsOdd (m (Life s))). kind s y.0) p.here in
            record {
              here = ⊎_elim (λ l. inl l) (λ (y : IsHeldBack g h section.entered s × IsOdd (m (Life s))). (let met =
                  z.met j u section e inside s y.0 in inr (held_on j u section e inside s y.0, subst IsOdd (sym met.2) y.1))) p.here;
              key = λ key y. z.contents.key s is_kind ∙ p.key key y;
              life = λ life y. z.half s is_kind ∙ p.life life y;
            });
        way = i.way;
      }

  -- a record says what it said
  record_stays : (j : ℕ) (u : View) (r : Reading) → get_elem? vs j ≡ some u → IsIn u.records r → IsRecord m' g us r
  record_stays j u r e has =
      let i = z.who.inv.readers.records j u e has.0 r has.1 in
      let among = in_second (open_reading u.section) u.records r has in
      let reading = z.who.inv.readers.readings j u e among.0 r among.1 in
      record {
        key_fits = i.key_fits;
        side = λ s tag b missed life known empty tagged settled.
            (let x = z.recorded j u r e has s life in
            let y = z.side j u r s tag b e has known tagged settled in
            ⊎_elim (λ (o : IsOldFor vs r.key s). inl (old_still vs id v w there z.view.moving r.key s o))
            (λ (q : Belongs m g r.key s b). inr (belongs_same m m' P P z.contents g z.on r.key s b x.0 q))
            (i.side s tag b missed x.1 known (sym (z.contents.link s b x.0) ∙ empty) y.0 y.1));
        walk = λ node parent b value walk found on.
            (let p = i.walk node parent b value walk found on in
            let nz = (subst (StandsWell r) found reading.well).0.some_slot in
            let back : IsStillLinked m' g r node → IsStillLinked m g r node =
            (λ y. record {
              linked = y.linked;
              generation = y.generation;
              recorded = y.recorded;
              same = sym (z.half node (z.on node y.linked)) ∙ y.same;
            }) in
            record {
              parent = λ x y. ⊎_elim (λ q. inl q) (λ (q : OnRightLeft m node walk.parent). inr
                  (right_left_same m m' P P z.contents g z.on n z.who.inv.tree.shape node walk.parent x.linked nz q))
                  (p.parent (back x) (z.recorded j u r e has walk.parent y).1);
              slot = λ x y. right_left_same m m' P P z.contents g z.on n z.who.inv.tree.shape node walk.slot x.linked nz
                  (p.slot (back x) (z.recorded j u r e has walk.slot y).1);
            });
      }

  aged_stays : AreAged m' g us hs
  aged_stays s at c b gone met link ne =
      let was_gone = z.gone s at gone in
      let past = met_still vs id v w there z.view.section at met in
      let aged = z.who.inv.readers.ages s at c b was_gone.0 past (sym (was_gone.1 b) ∙ link) ne in
      record {
        rank = aged.rank;
        leads = ⊎_elim (λ l. inl l) (λ (x : IsGoneSince h at c). ⊎_elim (λ (l : g.linked c ≡ true). inl l)
            (λ (off : g.linked c ≡ false). inr (record {
              at = x.at;
              gone = (z.met past.id past.view past.has.section past.there past.has.is_open c (record {
                out = off;
                at = x.at;
                gone = x.gone;
                later = (let a = x.later in let d = past.has.before in omega arith);
              })).1 ∙ x.gone;
              later = x.later;
            }))
            (bool_cases (g.linked c)))
            aged.leads;
      }

  readings_same : readings_of w ≡ readings_of v
  readings_same = λ j. open_reading (z.view.section j) ++ z.view.records j

  pub readers_stay : ReaderParts m' g us hs
  readers_stay = record {
    readings = each_set (λ j u. Each (readings_of u) IsReading) vs id w
        (subst (λ rs. Each rs IsReading) (sym readings_same) (z.who.inv.readers.readings id v there))
        (λ j u ne e. z.who.inv.readers.readings j u e);
    served = each_set (λ j u. (section : Section) → u.section ≡ Some section → IsServed m' g hs us section) vs id w
        (λ section inside. served_stays id v section there (sym z.view.section ∙ inside))
        (λ j u ne e section inside. served_stays j u section e inside);
    records = each_set (λ j u. Each u.records (IsRecord m' g us)) vs id w
        (subst (λ rs. Each rs (IsRecord m' g us)) (sym z.view.records) (λ j r e. record_stays id v r there (j, e)))
        (λ j u ne e i r f. record_stays j u r e (i, f));
    ages = aged_stays;
  }

  -- where a listing's walk goes on it does so still
  going_stays : (j : ℕ) (u : View) (section : Section) → get_elem? vs j ≡ some u → u.section ≡ Some section → (t : Visit)
      → StandsNow m g h section.entered t → StandsNow m' g hs section.entered t
  going_stays j u section e inside t goes =
      let kind = λ (s : ℕ) (l : IsHeldBack g h section.entered s). (z.met j u section e inside s l).0 in
      subst (λ map. GoesOn m' g (IsHeldBack g hs section.entered) map t.bounds t.slot) (sym map_stays)
      (carry_going m m' g g (IsHeldBack g h section.entered) (IsHeldBack g hs section.entered) (map_now h) (record {
        linked = λ bounds s has. here has;
        grow = held_on j u section e inside;
        key = λ s l. z.contents.key s (kind s l);
        value = λ s l. z.contents.value s (kind s l);
        link = λ s b l. z.contents.link s b (kind s l);
        rank = λ s c l known lt. lt;
      }) t.bounds t.slot goes)

  listing_stays : (j : ℕ) (u : View) (section : Section) (listing : Listing) → get_elem? vs j ≡ some u → u.section ≡ Some section
      → section.listing ≡ Some listing → IsListing m' g hs section listing
  listing_stays j u section listing e inside lists =
      let i = z.who.inv.listings.listings j u e section listing inside lists in
      record {
        since = i.since;
        most = subst (λ us. listing.front ≤ 2 * length us + 1) (sym z.updates) i.most;
        visits = λ n t at. (let r = i.visits n t at in record {
          node = r.node;
          key = λ key q. z.contents.key t.slot (kind t r) ∙ r.key key q;
          here = ⊎_elim (λ l. inl l) (λ q. inr (held_on j u section e inside t.slot q)) r.here;
        });
        now = λ fewer. (let r = i.now (subst (λ us. 2 * length us ≤ listing.front) z.updates fewer) in record {
          facts = subst (λ map. Each listing.facts (λ (f : Fact). map f.key ≡ Some f.value)) (sym map_stays) r.facts;
          gaps = subst (λ map. Each listing.gaps (λ (gap : Gap). (y : ℕ) → IsBetween gap y → map y ≡ None)) (sym map_stays) r.gaps;
          visits = λ n t at. going_stays j u section e inside t (r.visits n t at);
        });
      }
    where
      kind : (t : Visit) → IsVisit m g h section.entered t → P t.slot
      kind t r = ⊎_elim (λ (l : g.linked t.slot ≡ true). z.on t.slot l)
          (λ (q : IsHeldBack g h section.entered t.slot). (z.met j u section e inside t.slot q).0) r.here

  pub listings_stay : ListingParts m' g us hs
  listings_stay = record {
    listings = each_set (λ j u. (section : Section) (listing : Listing) → u.section ≡ Some section → section.listing ≡ Some listing
        → IsListing m' g hs section listing) vs id w
        (λ section listing inside lists. listing_stays id v section listing there (sym z.view.section ∙ inside) lists)
        (λ j u ne e section listing inside lists. listing_stays j u section listing e inside lists);
  }

-- A step that leaves the chart: the parts on marks, seats and waiters, with no mark or with one of a slot; and the whole.

-- the parts that speak of no slot
pub record OuterParts (k : Shape) (m : Memory) (vs : List View) (h : List Mark) : Type 0 where
  pub marks : MarkParts k.places vs h
  pub seats : SeatParts k.places vs h
  pub waiters : WaiterParts k m vs h

module _ (k : Shape) (m m' : Memory) (vs : List View) (h : List Mark) (id : ℕ) (v w : View) (i : HoldsNow k m vs h)
    (there : get_elem? vs id ≡ some v) (works : Works v) (beside : (field : Field) → IsBesideSlots field → m' field ≡ m field)
    (view : SameOutside v w) where
  words : reader_words m' ≡ reader_words m
  words = λ n. record {
    announced = λ p. beside (Announced p) tt n;
    stamp = λ p. beside (Stamp p) tt n;
    count = λ c d. beside (Count c d) tt n;
    row = λ p c. beside (Row p c) tt n;
  }

  -- where the step leaves no mark
  pub outer_same : w.seen ≡ v.seen → OuterParts k m' (set vs id w) h
  outer_same seen = record {
    marks = mark_frame k.places vs id v w h there
        (record { place = view.places.place; places = view.places.places; wait = view.wait; waits = view.waits }) seen i.marks;
    seats = seat_frame k.places vs id v w h there works
        (record { places = view.places; seen = seen; section = view.section; sections = view.sections; waits = view.waits }) i.seats;
    waiters = waiter_frame k m m' vs id v w h there (record { place = view.places.place; section = view.section; wait = view.wait })
        (beside Clock tt) words
        (ap (λ e. e.announced) view.enter) (λ clocked q. (i.waiters.clocked id v there).loaded clocked
        (ap (λ e. e.clock) (sym view.enter) ∙ q)) i.waiters;
  }

  -- where it leaves the mark of a slot
  pub outer_marked : (mark : Mark) → IsPlain v.allowance.place mark → NewMark k.places h mark → w.seen ≡ h ++ mark ∷ []
      → OuterParts k m' (set vs id w) (h ++ mark ∷ [])
  outer_marked mark is new seen =
      let hs = h ++ mark ∷ [] in
      let more = plain_one v.allowance.place h mark is in
      let same : SameForMore v w hs = record {
        places = view.places;
        section = view.section;
        enter = view.enter;
        wait = view.wait;
        sections = view.sections;
        waits = view.waits;
        seen = seen;
      } in
      record {
        marks = mark_frame_plain h hs v.allowance.place more k.places vs id v w there same
            (marks_snoc k.places h mark new i.marks.marks) i.marks;
        seats = seat_frame_plain h hs v.allowance.place more k.places vs id v w there works refl same i.seats;
        waiters = waiter_frame_plain h hs v.allowance.place more k m m' vs id v w there same (beside Clock tt) words
            (clocked_before k m vs h i) i.waiters;
      }

module _ (P : ℕ → Type 0) (z : ChartStep P) where
  open z use {who.{k, m, vs, h, id, v, there, inv}, m', hs, w}

  -- the invariant, with the parts on slots, locks, counts and grace
  pub chart_stays : OuterParts k m' (set vs id w) hs → SlotParts k.room m' (slot_count k) inv.chart (set vs id w) hs
      → LockParts m' (slot_count k) inv.chart (set vs id w)
      → CountParts k.tickets m' (slot_count k) inv.chart (set vs id w) hs → GraceParts (set vs id w) hs → HoldsNow k m' (set vs id w) hs
  chart_stays outer slots locks counts grace = record {
    table = inv.table;
    chart = inv.chart;
    marks = outer.marks;
    seats = outer.seats;
    waiters = outer.waiters;
    slots = slots;
    locks = locks;
    counts = counts;
    tree = tree_stays P z;
    readers = readers_stay P z;
    front = front_by m m' vs id v w h hs there (front_stays m m' (z.beside Front tt) (z.beside Moved tt)) z.view.commit
        (λ e. z.view.moving ∙ e) z.updates z.ends inv.front;
    listings = listings_stay P z;
    grace = grace;
  }

-- Where no word and no lock changes, but what the view has in its hands: it has to say what that leaves of slots, counts and waits.
module _ (k : Shape) (m : Memory) (vs : List View) (h : List Mark) (id : ℕ) (v w : View) (i : HoldsNow k m vs h)
    (there : get_elem? vs id ≡ some v) (works : Works v) (view : SameOutside v w) (locks : w.locks ≡ v.locks) (seen : w.seen ≡ v.seen) where
  abbrev any : ℕ → Type 0
  any s = Unit {0}

  abbrev step : ChartStep any
  step = record {
    who = record { k = k; m = m; vs = vs; h = h; id = id; v = v; inv = i; there = there; works = works };
    m' = m;
    hs = h;
    w = w;
    contents = record { key = λ s _. refl; link = λ s b _. refl; value = λ s _. refl };
    beside = λ f _. refl;
    on = λ s l. tt;
    half = λ s _. refl;
    met = λ j u section e inside s x. (tt, refl, refl);
    gone = λ s at gone. (gone, λ b. refl);
    recorded = λ j u r e has s x. (tt, x);
    side = λ j u r s tag b e has known same settled. (same, λ x. settled (emptied_still vs id v w there locks s b x));
    held = λ s l. (l.0, ap (λ ls. lock_of ls s) locks ∙ l.1);
    generation = λ j u s l generation ne e is on x. x;
    own_generation = λ s l generation is on x. (l, ap (λ ls. lock_of ls s) locks ∙ is, x);
    copies = λ j u move e is. refl;
    view = view;
    updates = refl;
    ends = end_same h;
    longer = λ j a e. e;
    done = λ j u e. e;
  }

  pub hands_stay : SlotParts k.room m (slot_count k) i.chart (set vs id w) h → CountParts k.tickets m (slot_count k) i.chart (set vs id w) h
      → GraceParts (set vs id w) h → ((s : ℕ) → IsUnraised v s → IsUnraised w s) → HoldsNow k m (set vs id w) h
  hands_stay slots counts grace unraised = chart_stays any step (outer_same k m m vs h id v w i there works (λ f _. refl) view seen) slots
      (lock_frame m m (slot_count k) i.chart vs id v w there (same_slots m) (record {
        place = view.places.place;
        locks = locks;
        unraised = unraised;
        settled = λ e. view.moving ∙ e;
        outside = λ section is. (i.locks.few id v there).outside section (sym view.section ∙ is);
        readings = λ r has. inl (subst (λ rs. IsIn rs r) (λ j. open_reading (view.section j) ++ view.records j) has);
      }) i.locks) counts grace

-- What a step leaves of waits, of grace and of reuse, where each retired slot of its view was there before, unlinked by the same mark.

-- where the retired slot is the same but for its generation
waited_as : (us : List View) (h : List Mark) (p : ℕ) (x y : Retired) → y.unlinked ≡ x.unlinked → y.waited ≡ x.waited
    → IsWaitedRetired us h p x → IsWaitedRetired us h p y
waited_as us h p x y unlinked waited i = record {
  shown = λ e. subst (λ a. HasWaited h p a 0 greatest_key) (sym unlinked) (i.shown (sym waited ∙ e));
  noted = λ has. waited ∙ i.noted (subst (λ a. HasWaited h p a 0 greatest_key) unlinked has);
  clear = λ e. subst (λ a. IsClear us a 0 greatest_key) (sym unlinked) (i.clear (sym waited ∙ e));
}

module _ (k : Shape) (m : Memory) (vs : List View) (h : List Mark) (id : ℕ) (v w : View) (i : HoldsNow k m vs h)
    (there : get_elem? vs id ≡ some v) (view : SameOutside v w)
    (came : (y : Retired) → IsIn w.hands.retired y
    → (x : Retired) × IsIn v.hands.retired x × (y.unlinked ≡ x.unlinked) × (y.waited ≡ x.waited)) where
  pub grace_by : (hs : List Mark) → ((p after low high : ℕ) → HasWaited h p after low high → HasWaited hs p after low high)
      → ((p after low high : ℕ) → HasWaited hs p after low high → HasWaited h p after low high) → Grace hs → Reuse hs
      → ((s at : ℕ) → gone_at s hs ≡ None → last_unlinked s hs ≡ Some at → IsClear vs at 0 greatest_key) → GraceParts (set vs id w) hs
  grace_by hs grow shrink grace reuse clean =
      grace_frame_by h hs grow shrink vs id v w there view.section view.places.joined grace reuse clean
      (λ j y e. (let x = came y (j, e) in let at = x.1 in subst (λ p. IsWaitedRetired (set vs id w) hs p y) (sym view.places.place)
      (waited_as (set vs id w) hs v.allowance.place x.0 y x.2 x.3
      (retired_still h hs grow shrink vs id v w there view.section v.allowance.place x.0 (i.grace.retired id v there at.0 x.0 at.1)))))
      (λ move is. subst (λ p. IsWaitedMove (set vs id w) hs p move) (sym view.places.place)
      (move_still h hs grow shrink vs id v w there view.section v.allowance.place move
      (i.grace.moves id v there move (sym view.moving ∙ is)))) i.grace

  pub grace_same : GraceParts (set vs id w) h
  grace_same = grace_by h (λ p after low high x. x) (λ p after low high x. x) i.grace.grace i.grace.reuse i.grace.clean

-- What is known of the slot in hand and of the spare may be another, as long as it is so.

module _ (k : Shape) (m : Memory) (vs : List View) (h : List Mark) (id : ℕ) (v : View) (i : HoldsNow k m vs h)
    (there : get_elem? vs id ≡ some v) (works : Works v) (hand spare : Option Held) where
  abbrev pub hands_view : View
  hands_view = record v { hands = record v.hands { hand = hand; spare = spare } }

  abbrev w : View
  w = hands_view

  abbrev g : Chart
  g = i.chart

  -- the invariant, with the parts on slots and on counts
  pub hands_rest : SlotParts k.room m (slot_count k) g (set vs id w) h → CountParts k.tickets m (slot_count k) g (set vs id w) h
      → HoldsNow k m (set vs id w) h
  hands_rest slots counts =
      let same : SameOutside v w = same_but v v.locks w.hands v.seen in
      hands_stay k m vs h id v w i there works same refl refl slots counts
      (grace_same k m vs h id v w i there same (λ y has. (y, has, refl, refl))) (λ s x. x)

  -- the same slots, raised or not
  pub record SameHands : Type 0 where
    pub hand_list : held_list hand ≡ held_list v.hands.hand
    pub spare_list : held_list spare ≡ held_list v.hands.spare
    pub unraised : unraised_hand hand ≡ unraised_hand v.hands.hand
    pub no_hand : v.hands.hand ≡ None → hand ≡ None
    pub no_spare : spare ≡ None → v.hands.spare ≡ None
    pub known : AreHandsKnown m w

  module _ (same : SameHands) where
    slots_are : slots_of w ≡ slots_of v
    slots_are = λ j. same.hand_list j ++ ((same.spare_list j
        ++ (numbers_from (v.allowance.place + 2) (v.allowance.places - 1) ++ joined_spares v.allowance.joined))
        ++ map (λ (r : Retired). r.slot) (retired_of v))

    slots : SlotParts k.room m (slot_count k) g (set vs id w) h
    slots = slots_by m (slot_count k) g vs id v w h there (λ s. ap (times s) slots_are)
        (λ x. record {
          one = λ e. same.no_hand (x.one e);
          few = x.few;
          room = x.room;
          joined = x.joined;
          next_spare = λ working none. x.next_spare working (same.no_spare none);
        })
        (λ x. same.known) (λ x. x) (retired_of_still m (slot_count k) g vs id v w h there refl) i.slots

    counts : CountParts k.tickets m (slot_count k) g (set vs id w) h
    counts = counts_kept k.tickets m m (slot_count k) g vs id v w h h there (same_slots m) refl refl
        (record {
          tickets = refl;
          reserved = refl;
          owes = refl;
          unraised = (let e = same.unraised in omega arith);
          locks = refl;
          moving = refl;
        }) (silent_same h) refl refl i.counts

    pub law_hands : HoldsNow k m (set vs id w) h
    law_hands = hands_rest slots counts
