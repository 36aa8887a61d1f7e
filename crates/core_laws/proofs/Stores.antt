-- A store in a field of a slot, and of a link or a value: what it leaves of the words, and of the parts on the front, on listings, readers,
-- counts and pending moves.
use Rattle.std.proofs.Common.{◌≡◌, ◌≢◌, ℕ, zero, suc, ◌+◌, ◌==◌, ◌&&◌, cond, nat_lt, Bool, true, false, ◌⊎◌, Some, None, refl, sym, ap, subst, ◌∙◌, inl, inr, ⊎_elim, ne_eqb, if◌then◌else◌, ◌*◌, List, length, set, arith, ◌≤◌, ◌/◌, ◌<◌, Option, ◌-◌, not}
use Rattle.std.proofs.lemmas.Bool.{cases_eq}
use Rattle.prcu_marks.specs.declared.mark.Side.{Side}
use Rattle.prcu_marks.specs.declared.mark.Side.TheVariants.{Left, Right}
use Rattle.core_state.specs.declared.words.Field.{Field}
use Rattle.core_state.specs.declared.words.Field.TheVariants.{Clock, Front, Free, Moved, Announced, Stamp, Gate, Count, Row, State, Lock, Life, Key, Value, Link, Tag}
use Rattle.core_state.specs.Memory.{Memory, stored, same_side, IsEven, IsOdd, sum_below, flag, count_below, has, slot_count}
use Rattle.core_state.specs.Views.{IsOwnField, readings_of, open_reading, unraised_of, emptied_among, lock_of, HasLock, held_list, spares_of}
use Rattle.core_state.specs.Links.{IsContent, HasCommit}
use Rattle.core_state.specs.Tree.{after, next, answer_at, Chart, Hangs, IsHeldBack, OnRightLeft, Belongs, MayPass, IsOldFor, IsEmptied, Place, Walks, IsPending}
use Rattle.core_frames.proofs.Views.{stored_here, stored_else, own_one, way_same, sum_one_other, sum_equal}
use Rattle.core_state.specs.declared.view.Held.{Held}
use Rattle.core_state.specs.Parts.{IsHeldKnown, FrontParts, ListsNow, IsListing, ListingParts, IsReadingKept, StandsWell, GoesTo, IsServed, IsStillLinked, IsRecord, IsReading, AreAged, ReaderParts, turns_to_come, linked_count, young_count, old_count, CountParts, HasGeneration, IsMoving, IsOldOf, AreMoving, IsHandKnown, AreHandsKnown}
use mathlib.Core.Option.{some}
use lib.ListN.{get_elem?}
use Rattle.prcu_marks.specs.declared.mark.Mark.{Mark}
use Rattle.prcu_marks.specs.Marks.{updates_of}
use Rattle.prcu_model.specs.Dictionary.{IsLegal, WasSaid, map_of}
use Rattle.prcu_marks.specs.declared.commit.Commit.{Commit}
use Rattle.core_state.specs.declared.view.View.{View}
use Rattle.core_frames.proofs.PlaceFrames.{SameFront, not_moved, odd_by, free_slots, counts_by}
use Rattle.list_laws.proofs.Lists.{each_set, in_second, somewhere_set, only_here}
use Rattle.core_state.specs.declared.view.Listing.{Listing}
use Rattle.core_state.specs.declared.view.Section.{Section}
use Rattle.core_state.specs.declared.view.Reading.{Reading}
use Rattle.core_frames.proofs.TreeFrames.{answered_by, recorded_back, recorded_even, recorded_linked}
use Rattle.list_laws.specs.Counts.{Each, IsIn, times}
use Rattle.core_state.specs.declared.shape.Shape.{Shape}
use Rattle.core_state.specs.Invariant.{HoldsNow}
use Rattle.prcu_marks.specs.declared.mark.Mark.TheVariants.{Done}
use Rattle.prcu_model.specs.declared.operation.Op.TheVariants.{Del}
use Rattle.core_state.specs.declared.view.HeldLock.{HeldLock}
use Rattle.core_state.specs.declared.view.Move.{Move}
use Rattle.core_laws.proofs.Locks.{one_holder}
use Rattle.core_frames.proofs.Marks.{StaysHere, PlainMarks}
use Rattle.std.specs.FinMap as finite
use Rattle.core_frames.proofs.Roles.{held_there, spare_among}

pub cases_side : (a b : Side) → (a ≡ b) ⊎ (a ≢ b)
cases_side Left Left = inl refl
cases_side Right Right = inl refl
cases_side Left Right = inr (λ e. cc)
cases_side Right Left = inr (λ e. cc)

pub same_side-other : (a b : Side) → a ≢ b → same_side a b ≡ false
same_side-other Left Right ne = refl
same_side-other Right Left ne = refl
same_side-other _ _ ne = absurd (ne refl)

and_false : (x : Bool) → (x && false) ≡ false
and_false true = refl
and_false false = refl

pub link_at : (m : Memory) (s t : ℕ) (a b : Side) → s ≡ t → a ≡ b → m (Link s a) ≡ m (Link t b)
link_at m s t a b e f = λ z. m (Link (e z) (f z))

-- A word of no slot.
abbrev pub IsBesideSlots : Field → Type 0
IsBesideSlots Clock = Unit {0}
IsBesideSlots Front = Unit {0}
IsBesideSlots Free = Unit {0}
IsBesideSlots Moved = Unit {0}
IsBesideSlots (Announced p) = Unit {0}
IsBesideSlots (Stamp p) = Unit {0}
IsBesideSlots (Gate c) = Unit {0}
IsBesideSlots (Count c d) = Unit {0}
IsBesideSlots (Row p c) = Unit {0}
IsBesideSlots _ = ⊥

abbrev pub IsValueOrLink : Field → Type 0
IsValueOrLink (Value t) = Unit {0}
IsValueOrLink (Link t b) = Unit {0}
IsValueOrLink _ = ⊥

pub own_content : (s : ℕ) (field : Field) → IsContent s field → IsOwnField s field
own_content s (Key t) c = c
own_content s (Value t) c = c
own_content s (Link t b) c = c
own_content s _ c = absurd c

own_beside : (s : ℕ) (field : Field) → IsOwnField s field → IsBesideSlots field → ⊥
own_beside s (State t) o x = x
own_beside s _ o x = assumption

-- What a store in a field of a slot leaves: the words of the other slots, the locks, and the words of no slot.
pub record StoresIn (m new : Memory) (p : ℕ) : Type 0 where
  pub away : (s : ℕ) (field : Field) → s ≢ p → IsOwnField s field → new field ≡ m field
  pub lock : (s : ℕ) → new (Lock s) ≡ m (Lock s)
  pub beside : (field : Field) → IsBesideSlots field → new field ≡ m field

pub stores_in : (m : Memory) (p : ℕ) (field : Field) (n : ℕ) → IsOwnField p field → StoresIn m (stored m field n) p
stores_in m p field n own = record {
  away = λ s f ne o. stored_else m field f n (λ e. ne (own_one s p f o (subst (IsOwnField p) e own)));
  lock = λ s. stored_else m field (Lock s) n (λ e. subst (IsOwnField p) e own);
  beside = λ f x. stored_else m field f n (λ e. own_beside p f (subst (IsOwnField p) e own) x);
}

pub content_away : (m new : Memory) (p : ℕ) → StoresIn m new p → (s : ℕ) (field : Field) → s ≢ p → IsContent s field → new field ≡ m field
content_away m new p stores s field ne c = stores.away s field ne (own_content s field c)

-- what is known of a slot that is held, and isn't the one stored in
pub held_beside : (m new : Memory) (p : ℕ) → StoresIn m new p → (held : Held) → held.slot ≢ p → IsHeldKnown m held → IsHeldKnown new held
held_beside m new p stores held ne i field number e = let r = i field number e in (r.0, stores.away held.slot field ne r.0 ∙ r.1)

-- what is known of one in hand, or of a copy
pub hand_beside : (m new : Memory) (p : ℕ) → StoresIn m new p → (held : Held) → held.slot ≢ p → IsHandKnown m held → IsHandKnown new held
hand_beside m new p stores held ne i = record {
  known = held_beside m new p stores held ne i.known;
  even = subst IsEven (sym (stores.away held.slot (Life held.slot) ne refl)) i.even;
}

-- what a view knows of its hands, where the slot stored in is neither in hand, nor a spare, nor the copy
pub hands_beside : (m new : Memory) (p : ℕ) → StoresIn m new p → (u : View)
    → times p (held_list u.hands.hand) + times p (spares_of u) ≡ 0
    → ((move : Move) → u.moving ≡ Some move → move.copy.slot ≢ p) → AreHandsKnown m u → AreHandsKnown new u
hands_beside m new p stores u none copy_apart i = record {
  hand = λ held is. hand_beside m new p stores held (λ same. (let a = held_there u.hands.hand held is in
      let b = ap (λ x. times x (held_list u.hands.hand)) same in absurd (omega arith))) (i.hand held is);
  spare = λ held is. held_beside m new p stores held (λ same. (let a = spare_among u held is in
      let b = ap (λ x. times x (spares_of u)) same in absurd (omega arith))) (i.spare held is);
  copy = λ move is. hand_beside m new p stores move.copy (copy_apart move is) (i.copy move is);
  spares = λ s has. subst IsEven (sym (stores.away s (Life s) (λ same. (let b = ap (λ x. times x (spares_of u)) same in
      absurd (omega arith))) refl)) (i.spares s has);
}

-- What a store of a link or a value of a slot leaves to all parts.
pub record StoresAt (m new : Memory) (p : ℕ) (f : Field) : Type 0 where
  pub within : StoresIn m new p
  pub own : IsOwnField p f
  pub life : (s : ℕ) → new (Life s) ≡ m (Life s)
  pub key : (s : ℕ) → new (Key s) ≡ m (Key s)
  pub tag : (s : ℕ) (b : Side) → new (Tag s b) ≡ m (Tag s b)
  pub state : (s : ℕ) → new (State s) ≡ m (State s)
  pub away : (s : ℕ) (field : Field) → s ≢ p → IsOwnField s field → new field ≡ m field
  pub content : (s : ℕ) (field : Field) → s ≢ p → IsContent s field → new field ≡ m field
  pub no_life : (s : ℕ) → f ≢ Life s

module _ (m : Memory) (p : ℕ) (f : Field) (n : ℕ) (own : IsOwnField p f) (kind : IsValueOrLink f) where
  another : (field : Field) → (IsValueOrLink field → ⊥) → f ≢ field
  another field differs e = differs (subst IsValueOrLink e kind)

  pub stores_at : StoresAt m (stored m f n) p f
  stores_at = let within = stores_in m p f n own in record {
    within = within;
    own = own;
    life = λ s. stored_else m f (Life s) n (another (Life s) (λ x. x));
    key = λ s. stored_else m f (Key s) n (another (Key s) (λ x. x));
    tag = λ s b. stored_else m f (Tag s b) n (another (Tag s b) (λ x. x));
    state = λ s. stored_else m f (State s) n (another (State s) (λ x. x));
    away = within.away;
    content = content_away m (stored m f n) p within;
    no_life = λ s. another (Life s) (λ x. x);
  }

pub link_stores : (m : Memory) (p : ℕ) (b : Side) (n : ℕ) → StoresAt m (stored m (Link p b) n) p (Link p b)
link_stores m p b n = stores_at m p (Link p b) n refl tt

pub value_stores : (m : Memory) (p n : ℕ) → StoresAt m (stored m (Value p) n) p (Value p)
value_stores m p n = stores_at m p (Value p) n refl tt

-- What a store of a link leaves to the shape.
pub record StoresLink (m new : Memory) (p : ℕ) (b : Side) (v : ℕ) : Type 0 where
  pub here : new (Link p b) ≡ v
  pub link : (s : ℕ) (a : Side) → (s ≡ p → a ≢ b) → new (Link s a) ≡ m (Link s a)
  pub key : (s : ℕ) → new (Key s) ≡ m (Key s)
  pub value : (s : ℕ) → new (Value s) ≡ m (Value s)

pub stores_link : (m : Memory) (p : ℕ) (b : Side) (v : ℕ) → StoresLink m (stored m (Link p b) v) p b v
stores_link m p b v = record {
  here = stored_here m (Link p b) v;
  link = λ s a ne. ⊎_elim
      (λ (e : s ≡ p). ap (λ x. cond (p == s && x) v (m (Link s a))) (same_side-other b a (λ f. ne e (sym f)))
      ∙ ap (λ x. cond x v (m (Link s a))) (and_false (p == s)))
      (λ not. ap (λ x. cond (x && same_side b a) v (m (Link s a))) (ne_eqb p s (λ e. not (sym e)))) (cases_eq s p);
  key = λ s. refl;
  value = λ s. refl;
}

pub same_after : (m new : Memory) (s : ℕ) → new (Key s) ≡ m (Key s) → after new s ≡ after m s
same_after m new zero e = refl
same_after m new (suc s) e = ap (λ k. k + 1) e

pub store_next : (m new : Memory) (p : ℕ) (b : Side) (v x s : ℕ) → StoresLink m new p b v → s ≢ p → next new x s ≡ next m x s
store_next m new p b v x zero k ne = k.link 0 Right (λ e. absurd (ne e))
store_next m new p b v x (suc s) k ne =
    let key = k.key (suc s) in
    let left = k.link (suc s) Left (λ e. absurd (ne e)) in
    let right = k.link (suc s) Right (λ e. absurd (ne e)) in
    λ i. if nat_lt x (key i) then left i else if nat_lt (key i) x then right i else 0

pub same_answer : (m new : Memory) (x s : ℕ) → new (Key s) ≡ m (Key s) → new (Value s) ≡ m (Value s) → answer_at new x s ≡ answer_at m x s
same_answer m new x zero e f = refl
same_answer m new x (suc s) e f = λ i. if e i == x then Some (f i) else None

-- how a slot is shown to hang below another
pub hangs_at : (m : Memory) (g : Chart) (c u : ℕ) (b : Side) → g.up c ≡ u → g.side c ≡ b → g.linked u ≡ true → m (Link u b) ≡ c
    → Hangs m g c
hangs_at m g c u b i j l e = record { above = ap g.linked i ∙ l; link = ap (λ y. m (Link y (g.side c))) i ∙ ap (λ y. m (Link u y)) j ∙ e }

-- what the store of a link leaves
module _ (m : Memory) (p : ℕ) (b : Side) (v : ℕ) where
  abbrev new : Memory
  new = stored m (Link p b) v

  pub after_stays : (s : ℕ) → after new s ≡ after m s
  after_stays s = same_after m new s refl

  pub answer_stays : (x s : ℕ) → answer_at new x s ≡ answer_at m x s
  answer_stays x s = same_answer m new x s refl refl

-- The parts on the front, after a step that stores in no front and makes an update.

module _ (m m' : Memory) (vs : List View) (id : ℕ) (v w : View) (there : get_elem? vs id ≡ some v) (h h' : List Mark)
    (words : SameFront m m') (t : FrontParts m vs h) where
  -- the view whose commit it is
  pub turned_by : (commit : Commit) → HasCommit v commit
      → (m Front ≡ commit.found + 1) × (commit.found ≡ 2 * length (updates_of h))
      × ((j : ℕ) (u : View) → j ≢ id → get_elem? vs j ≡ some u → u.commit ≡ None)
  turned_by commit has =
      let r = odd_by m vs h id v there t commit has.commit_is in
      let count : commit.found + cond commit.stored 2 0 ≡ 2 * length (updates_of h) = r.1 in
      let unmade : commit.found + cond commit.stored 2 0 ≡ commit.found + 0 = ap (λ b. commit.found + cond b 2 0) has.unmade in
      (r.0, omega arith, r.2)

  -- the update was made
  pub front_made : (commit : Commit) → HasCommit v commit → w.commit ≡ Some (record commit { stored = true })
      → length (updates_of h') ≡ length (updates_of h) + 1 → StaysHere h h' → IsLegal (updates_of h') → FrontParts m' (set vs id w) h'
  front_made commit has turned longer stays legal =
      let r = turned_by commit has in
      let here = not_moved m vs h id v there t commit has.commit_is in
      record {
        turned = inr (record {
          here = words.moved ∙ here;
          odd = only_here vs id v w there (record {
            commit = record commit { stored = true };
            has = turned;
            word = words.front ∙ r.0;
            updates = (let b = r.1 in omega arith);
          }) r.2;
        });
        last = record {
          word = words.moved ∙ t.last.word ∙ sym stays.moves;
          once = (let e = stays.moves in let o = t.last.once in omega arith);
          none = stays.behind (sym t.last.word ∙ here);
        };
        settled = each_set (λ j u. (x : Commit) → u.commit ≡ Some x → x.stored ≡ false → u.moving ≡ None) vs id w
            (λ x is unmade. absurd (let q : Some (record commit { stored = true }) ≡ Some x = sym turned ∙ is in
            let e : ◌≡◌ {A = Commit} (record commit { stored = true }) x = cc in
            let f : true ≡ false = ap (λ (y : Commit). y.stored) e ∙ unmade in cc)) (λ j u ne e. t.settled j u e);
        legal = legal;
      }

-- The parts on listings, where slots go: a listing that stands at one stands at a slot that was unlinked since.

module _ (m m' : Memory) (g to : Chart) (vs : List View) (id : ℕ) (w : View) (h h' : List Mark) (outside : w.section ≡ None)
    (key : (s : ℕ) → m' (Key s) ≡ m (Key s))
    (here : (j : ℕ) (u : View) (section : Section) (s : ℕ) → get_elem? vs j ≡ some u → u.section ≡ Some section
    → (g.linked s ≡ true) ⊎ IsHeldBack g h section.entered s → (to.linked s ≡ true) ⊎ IsHeldBack to h' section.entered s)
    (t : ListingParts m g vs h) where
  -- by what becomes of the numbers with which listings began, and of what they have found
  listings_after : ((front : ℕ) → front ≤ 2 * length (updates_of h) + 1 → front ≤ 2 * length (updates_of h') + 1)
      → ((j : ℕ) (u : View) (section : Section) (listing : Listing) → get_elem? vs j ≡ some u → u.section ≡ Some section
      → IsListing m g h section listing → 2 * length (updates_of h') ≤ listing.front → ListsNow m' to h' section.entered listing)
      → ListingParts m' to (set vs id w) h'
  listings_after most now = record {
    listings = each_set (λ j u. (section : Section) (listing : Listing) → u.section ≡ Some section → section.listing ≡ Some listing
        → IsListing m' to h' section listing) vs id w
        (λ section listing is. absurd (let q : None ≡ Some section = sym outside ∙ is in cc))
        (λ j u ne e section listing is lists. (let i = t.listings j u e section listing is lists in record {
          since = i.since;
          most = most listing.front i.most;
          visits = λ n t at. (let r = i.visits n t at in
              record { node = r.node; key = λ y q. key t.slot ∙ r.key y q; here = here j u section t.slot e is r.here });
          now = now j u section listing e is i;
        }));
  }

  -- without an update
  pub listings_kept : updates_of h' ≡ updates_of h
      → ((j : ℕ) (u : View) (section : Section) (listing : Listing) → get_elem? vs j ≡ some u → u.section ≡ Some section
      → ListsNow m g h section.entered listing → ListsNow m' to h' section.entered listing)
      → ListingParts m' to (set vs id w) h'
  listings_kept updates now = listings_after (λ front. subst (λ us. front ≤ 2 * length us + 1) (sym updates))
      (λ j u section listing e is i fewer. now j u section listing e is
      (i.now (subst (λ us. 2 * length us ≤ listing.front) updates fewer)))

  -- with an update, which is one more than any listing's number says
  pub listings_behind : length (updates_of h') ≡ length (updates_of h) + 1 → ListingParts m' to (set vs id w) h'
  listings_behind longer = listings_after (λ front most. omega arith)
      (λ j u section listing e is i fewer. absurd (let most = i.most in omega arith))

-- The parts on readers, after a step outside sections that stores a link or a value.

module _ (m m' : Memory) (g to : Chart) (vs : List View) (id : ℕ) (v w : View) (there : get_elem? vs id ≡ some v) (h h' : List Mark) where
  -- what a step has to say of readers
  pub record StoresRead : Type 0 where
    pub outside : w.section ≡ None
    pub records : w.records ≡ v.records
    pub readings : readings_of w ≡ readings_of v
    pub life : (s : ℕ) → m' (Life s) ≡ m (Life s)
    pub key : (s : ℕ) → m' (Key s) ≡ m (Key s)
    pub tag : (s : ℕ) (b : Side) → m' (Tag s b) ≡ m (Tag s b)
    pub linked_back : (s : ℕ) → to.linked s ≡ true → g.linked s ≡ true
    pub rank : (s : ℕ) → to.rank s ≡ g.rank s
    pub said : (key from : ℕ) (o : Option ℕ) → WasSaid (updates_of h) key from o → WasSaid (updates_of h') key from o
    pub place : (j : ℕ) (u : View) (section : Section) → get_elem? vs j ≡ some u → u.section ≡ Some section → (s : ℕ)
        → Place m g section.key (IsHeldBack g h section.entered) (MayPass vs section.key section.entered)
        (WasSaid (updates_of h) section.key section.from) s
        → Place m' to section.key (IsHeldBack to h' section.entered) (MayPass (set vs id w) section.key section.entered)
        (WasSaid (updates_of h') section.key section.from) s
    pub walks : (j : ℕ) (u : View) (section : Section) → get_elem? vs j ≡ some u → u.section ≡ Some section → (node s : ℕ)
        → to.linked node ≡ true
        → Walks m g node (IsHeldBack g h section.entered) s → Walks m' to node (IsHeldBack to h' section.entered) s
    pub path : (node s : ℕ) → to.linked node ≡ true → (to.linked s ≡ true) ⊎ IsEven (m (Life s)) → OnRightLeft m node s
        → OnRightLeft m' node s
    pub stood : (j : ℕ) (u : View) (section : Section) → get_elem? vs j ≡ some u → u.section ≡ Some section → (s : ℕ)
        → (g.linked s ≡ true) ⊎ (IsHeldBack g h section.entered s × IsOdd (m (Life s)))
        → (to.linked s ≡ true) ⊎ (IsHeldBack to h' section.entered s × IsOdd (m' (Life s)))
    pub side : (x s : ℕ) (a : Side) → g.linked s ≡ true → IsEven (m (Life s)) → (s ≡ 0 → a ≡ Right) → m (Link s a) ≡ 0 → Belongs m g x s a
        → Belongs m' to x s a
    pub link_back : (s : ℕ) (a : Side) → (IsEmptied (set vs id w) s a → ⊥) → m' (Link s a) ≡ 0 → m (Link s a) ≡ 0
    pub emptied : (s : ℕ) (a : Side) → IsEmptied vs s a → IsEmptied (set vs id w) s a
    pub old_for : (x s : ℕ) → IsEven (m (Life s)) → IsOldFor vs x s → IsOldFor (set vs id w) x s

  module _ (c : StoresRead) where
    served_after : (j : ℕ) (u : View) (section : Section) → get_elem? vs j ≡ some u → u.section ≡ Some section → IsServed m g h vs section
        → IsServed m' to h' (set vs id w) section
    served_after j u section e is i = record {
      placed = λ none. (let p = i.placed none in record {
        place = c.place j u section e is _ p.place;
        answered = answered_by (updates_of h) (updates_of h') section
            (c.said section.key section.from) section.reading.state p.answered;
      });
      lists = i.lists;
      walking = λ node parent b value walk found on. (let p = i.walking node parent b value walk found on in record {
        walks = λ l. c.walks j u section e is node walk.slot l (p.walks (c.linked_back node l));
        parent = λ l y. ⊎_elim (λ q. inl q) (λ q. inr (c.path node walk.parent l (inl y) q))
            (p.parent (c.linked_back node l) (c.linked_back walk.parent y));
      });
      stood = λ s has. (let p = i.stood s has in record {
        here = c.stood j u section e is s p.here;
        key = λ key q. c.key s ∙ p.key key q;
        life = λ life q. ap (λ x. x / 2) (c.life s) ∙ p.life life q;
      });
      way = way_same g to section.reading (λ s has. c.rank s) i.way;
    }

    still_back : (r : Reading) (s : ℕ) → IsStillLinked m' to r s → IsStillLinked m g r s
    still_back r s x = record {
      linked = c.linked_back s x.linked;
      generation = x.generation;
      recorded = x.recorded;
      same = ap (λ z. z / 2) (sym (c.life s)) ∙ x.same;
    }

    record_after : (r : Reading) → IsReading r → IsReadingKept m g r → IsRecord m g vs r → IsRecord m' to (set vs id w) r
    record_after r reading kept i = record {
      key_fits = i.key_fits;
      side = λ s tag b missed life known empty same settled.
          (let was = recorded_back m m' c.life r s life in
          let none = c.link_back s b settled empty in
          let goes : GoesTo r s b = (subst (StandsWell r) missed reading.well).0 in
          let root : s ≡ 0 → b ≡ Right = λ z. ⊎_elim (λ (q : (s ≡ 0) × (b ≡ Right)). q.1) (λ q. absurd (q.0 z)) goes in
          ⊎_elim (λ o. inl (c.old_for r.key s (recorded_even m r s was) o))
          (λ x. inr (c.side r.key s b (recorded_linked m g r s kept was) (recorded_even m r s was) root none x))
          (i.side s tag b missed was known none (sym (c.tag s b) ∙ same) (λ x. settled (c.emptied s b x))));
      walk = λ node parent b value walk found on. (let p = i.walk node parent b value walk found on in record {
        parent = λ x y. (let was = recorded_back m m' c.life r walk.parent y in
            ⊎_elim (λ q. inl q) (λ q. inr (c.path node walk.parent x.linked (inr (recorded_even m r walk.parent was)) q))
            (p.parent (still_back r node x) was));
        slot = λ x y. (let was = recorded_back m m' c.life r walk.slot y in
            c.path node walk.slot x.linked (inr (recorded_even m r walk.slot was)) (p.slot (still_back r node x) was));
      });
    }

    pub readers_after : AreAged m' to (set vs id w) h' → Each vs (λ u. Each (readings_of u) (IsReadingKept m g)) → ReaderParts m g vs h
        → ReaderParts m' to (set vs id w) h'
    readers_after ages kept t = record {
      readings = each_set (λ j u. Each (readings_of u) IsReading) vs id w
          (subst (λ rs. Each rs IsReading) (sym c.readings) (t.readings id v there)) (λ j u ne e. t.readings j u e);
      served = each_set (λ j u. (section : Section) → u.section ≡ Some section → IsServed m' to h' (set vs id w) section) vs id w
          (λ section is. absurd (let q : None ≡ Some section = sym c.outside ∙ is in cc))
          (λ j u ne e section is. served_after j u section e is (t.served j u e section is));
      records = each_set (λ j u. Each u.records (IsRecord m' to (set vs id w))) vs id w
          (subst (λ rs. Each rs (IsRecord m' to (set vs id w))) (sym c.records) (λ j r e. one id v there j r e))
          (λ j u ne e l r is. one j u e l r is);
      ages = ages;
    }
      where
        one : (j : ℕ) (u : View) → get_elem? vs j ≡ some u → (l : ℕ) (r : Reading) → get_elem? u.records l ≡ some r
            → IsRecord m' to (set vs id w) r
        one j u e l r is =
            let a = in_second (open_reading u.section) u.records r (l, is) in
            record_after r (t.readings j u e a.0 r a.1) (kept j u e a.0 r a.1) (t.records j u e l r is)

-- Counts of numbers below another, where the test changes at one number.

-- a number more at one place
pub sum_more : (f h : ℕ → ℕ) (i n : ℕ) → i < n → h i ≡ f i + 1 → ((s : ℕ) → s ≢ i → h s ≡ f s) → sum_below h n ≡ sum_below f n + 1
sum_more f h i n lt here others = let a = sum_one_other f h i n lt others in omega arith

-- and one fewer
pub sum_less : (f h : ℕ → ℕ) (i n : ℕ) → i < n → f i ≡ h i + 1 → ((s : ℕ) → s ≢ i → h s ≡ f s) → sum_below f n ≡ sum_below h n + 1
sum_less f h i n lt here others = sum_more h f i n lt here (λ s ne. sym (others s ne))

pub count_same : (f h : ℕ → Bool) (n : ℕ) → ((s : ℕ) → s < n → h s ≡ f s) → count_below h n ≡ count_below f n
count_same f h n e = sum_equal (λ s. flag (h s)) (λ s. flag (f s)) n (λ s lt. ap flag (e s lt))

pub count_more : (f h : ℕ → Bool) (i n : ℕ) → i < n → f i ≡ false → h i ≡ true → ((s : ℕ) → s ≢ i → h s ≡ f s)
    → count_below h n ≡ count_below f n + 1
count_more f h i n lt off is others = sum_more (λ s. flag (f s)) (λ s. flag (h s)) i n lt
    (let a = ap flag off in let b = ap flag is in omega arith) (λ s ne. ap flag (others s ne))

-- The parts on counts, after the store of a link or a value.

-- the slot d goes off
module _ (g to : Chart) (d n : ℕ) (small : d < n) (nz : d ≢ 0) (was : g.linked d ≡ true) (off : to.linked d ≡ false)
    (others : (s : ℕ) → s ≢ d → to.linked s ≡ g.linked s) (same_old : (s : ℕ) → to.old s ≡ g.old s) where
  pub linked_less : linked_count g n ≡ linked_count to n + 1
  linked_less = sum_less (λ s. flag (g.linked s && not (s == 0))) (λ s. flag (to.linked s && not (s == 0))) d n small
      (ap (λ b. flag (b && not (d == 0))) was ∙ ap (λ b. flag (not b)) (ne_eqb d 0 nz) ∙ sym (ap (λ b. flag (b && not (d == 0)) + 1) off))
      (λ s ne. ap (λ b. flag (b && not (s == 0))) (others s ne))

  pub young_less : g.old d ≡ false → young_count g n ≡ young_count to n + 1
  young_less young = sum_less (λ s. flag (g.linked s && (not (s == 0) && not (g.old s))))
      (λ s. flag (to.linked s && (not (s == 0) && not (to.old s)))) d n small
      (ap (λ b. flag (b && (not (d == 0) && not (g.old d)))) was ∙ ap (λ b. flag (not b && not (g.old d))) (ne_eqb d 0 nz)
      ∙ ap (λ b. flag (not b)) young ∙ sym (ap (λ b. flag (b && (not (d == 0) && not (to.old d))) + 1) off))
      (λ s ne. λ z. flag (others s ne z && (not (s == 0) && not (same_old s z))))

  pub old_less : g.old d ≡ true → old_count g n ≡ old_count to n + 1
  old_less old = sum_less (λ s. flag (g.linked s && g.old s)) (λ s. flag (to.linked s && to.old s)) d n small
      (ap (λ b. flag (b && g.old d)) was ∙ ap flag old ∙ sym (ap (λ b. flag (b && to.old d) + 1) off))
      (λ s ne. λ z. flag (others s ne z && same_old s z))

  pub young_same : g.old d ≡ true → young_count to n ≡ young_count g n
  young_same old = sum_equal (λ s. flag (to.linked s && (not (s == 0) && not (to.old s))))
      (λ s. flag (g.linked s && (not (s == 0) && not (g.old s)))) n
      (λ s _. ⊎_elim (λ (e : s ≡ d). none (to.linked s) (to.old s) (same_old s ∙ ap g.old e ∙ old) s
      ∙ sym (none (g.linked s) (g.old s) (ap g.old e ∙ old) s))
      (λ ne. λ z. flag (others s ne z && (not (s == 0) && not (same_old s z)))) (cases_eq s d))
    where
      none : (l o : Bool) → o ≡ true → (s : ℕ) → flag (l && (not (s == 0) && not o)) ≡ 0
      none l o e s = ap (λ b. flag (l && (not (s == 0) && not b))) e ∙ zero_flag l (not (s == 0))
        where
          zero_flag : (l b : Bool) → flag (l && (b && false)) ≡ 0
          zero_flag true true = refl
          zero_flag true false = refl
          zero_flag false b = refl

  pub old_same : g.old d ≡ false → old_count to n ≡ old_count g n
  old_same young = sum_equal (λ s. flag (to.linked s && to.old s)) (λ s. flag (g.linked s && g.old s)) n
      (λ s _. ⊎_elim (λ (e : s ≡ d). none (to.linked s) (to.old s) (same_old s ∙ ap g.old e ∙ young)
      ∙ sym (none (g.linked s) (g.old s) (ap g.old e ∙ young))) (λ ne. λ z. flag (others s ne z && same_old s z)) (cases_eq s d))
    where
      none : (l o : Bool) → o ≡ false → flag (l && o) ≡ 0
      none true o e = ap flag e
      none false o e = refl

module _ (k : Shape) (m : Memory) (vs : List View) (h : List Mark) (i : HoldsNow k m vs h) (id : ℕ) (v w : View)
    (there : get_elem? vs id ≡ some v)
    (f : Field) (n p : ℕ) (stores : StoresAt m (stored m f n) p f) (h' : List Mark) where
  abbrev m' : Memory
  m' = stored m f n

  -- what the step leaves of the view for the counts
  pub record StoresCounted : Type 0 where
    pub reserved : w.hands.reserved ≡ v.hands.reserved
    pub owes : w.hands.owes ≡ v.hands.owes
    pub wait : w.wait ≡ v.wait
    pub turns : w.counts.turns ≡ v.counts.turns
    pub moving : w.moving ≡ None

  module _ (c : StoresCounted) where
    -- so many slots are unlinked, and so many updates made
    counts_stored : (to : Chart) (gone made : ℕ) → linked_count i.chart (slot_count k) ≡ linked_count to (slot_count k) + gone
        → young_count to (slot_count k) ≡ finite.len (map_of (updates_of h'))
        → old_count i.chart (slot_count k) ≡ old_count to (slot_count k) + has v.moving
        → w.allowance.tickets + made ≡ v.allowance.tickets → unraised_of w ≡ unraised_of v + gone
        → emptied_among w.locks + has w.moving ≤ emptied_among v.locks + has v.moving + made
        → length (updates_of h') ≡ length (updates_of h) + made → CountParts k.tickets m' (slot_count k) to (set vs id w) h'
    counts_stored to gone made linked young old tickets unraised emptied longer =
        counts_by k.tickets m m' (slot_count k) i.chart to vs id v w h h' there (record {
          free = (let a = stores.within.beside Free tt in let b = ap flag c.reserved in let d = ap flag c.owes in
              let e : free_slots m' (slot_count k) ≡ free_slots m (slot_count k) =
              (λ z. count_below (λ s. stores.state s z == 0) (slot_count k)) in omega arith);
          clock = (let a = stores.within.beside Clock tt in omega arith);
          generations = (let a = ap flag c.reserved in
              let b : sum_below (λ s. m' (Life s) / 2) (slot_count k) ≡ sum_below (λ s. m (Life s) / 2) (slot_count k) =
              (λ z. sum_below (λ s. stores.life s z / 2) (slot_count k)) in omega arith);
          tags = (let b : sum_below (λ s. m' (Tag s Left) + m' (Tag s Right)) (slot_count k)
              ≡ sum_below (λ s. m (Tag s Left) + m (Tag s Right)) (slot_count k) =
              (λ z. sum_below (λ s. stores.tag s Left z + stores.tag s Right z) (slot_count k)) in omega arith);
          turns = (let clock = stores.within.beside Clock tt in let a = c.turns in let b = ap turns_to_come c.wait in omega arith);
          pairs = (let a = young in let b = i.counts.pairs in omega arith);
          olds = (let a = ap has c.moving in omega arith);
        }) i.counts

    -- an old successor is unlinked
    pub counts_old_gone : (to : Chart) → linked_count i.chart (slot_count k) ≡ linked_count to (slot_count k) + 1
        → young_count to (slot_count k) ≡ young_count i.chart (slot_count k)
        → old_count i.chart (slot_count k) ≡ old_count to (slot_count k) + 1
        → has v.moving ≡ 1 → w.allowance.tickets ≡ v.allowance.tickets → unraised_of w ≡ unraised_of v + 1
        → emptied_among w.locks ≤ emptied_among v.locks + 1 → updates_of h' ≡ updates_of h
        → CountParts k.tickets m' (slot_count k) to (set vs id w) h'
    counts_old_gone to linked young old moves same_tickets more_unraised emptied updates =
        let none : has w.moving ≡ 0 = ap has c.moving in
        counts_stored to 1 0 linked (young ∙ i.counts.pairs ∙ ap (λ us. finite.len (map_of us)) (sym updates)) (omega arith)
        (omega arith) more_unraised (omega arith) (let a = ap length updates in omega arith)

    -- a node is unlinked by an update
    pub counts_node_gone : (to : Chart) → linked_count i.chart (slot_count k) ≡ linked_count to (slot_count k) + 1
        → young_count i.chart (slot_count k) ≡ young_count to (slot_count k) + 1
        → old_count to (slot_count k) ≡ old_count i.chart (slot_count k)
        → has v.moving ≡ 0 → 1 ≤ v.allowance.tickets → w.allowance.tickets ≡ v.allowance.tickets - 1 → unraised_of w ≡ unraised_of v + 1
        → emptied_among w.locks ≤ emptied_among v.locks + 1
        → length (updates_of h') ≡ length (updates_of h) + 1 → finite.len (map_of (updates_of h')) ≡ finite.len (map_of (updates_of h)) - 1
        → CountParts k.tickets m' (slot_count k) to (set vs id w) h'
    counts_node_gone to linked young old moves some_ticket less more_unraised emptied longer fewer =
        let none : has w.moving ≡ 0 = ap has c.moving in
        counts_stored to 1 1 linked (let r = i.counts.pairs in omega arith) (omega arith) (omega arith) more_unraised (omega arith) longer

    -- an update that unlinks nothing and changes no number of pairs
    pub counts_made : has v.moving ≡ 0 → 1 ≤ v.allowance.tickets → w.allowance.tickets ≡ v.allowance.tickets - 1
        → unraised_of w ≡ unraised_of v → emptied_among w.locks ≡ emptied_among v.locks
        → length (updates_of h') ≡ length (updates_of h) + 1 → finite.len (map_of (updates_of h')) ≡ finite.len (map_of (updates_of h))
        → CountParts k.tickets m' (slot_count k) i.chart (set vs id w) h'
    counts_made moves some_ticket less same_unraised same_emptied longer same_size =
        let none : has w.moving ≡ 0 = ap has c.moving in
        counts_stored i.chart 0 1 (omega arith) (i.counts.pairs ∙ sym same_size) (omega arith) (omega arith) (omega arith)
        (omega arith) longer

-- A pending move, after a step that leaves its copy and its old successor: their keys, values and links, and the locks of its view.

module _ (m m' : Memory) (g to : Chart) (h hs : List Mark) (u z : View) (move : Move) where
  -- what such a step leaves
  pub record LeavesMove : Type 0 where
    pub copy_linked : to.linked move.copy.slot ≡ true
    pub copy_old : to.old move.copy.slot ≡ g.old move.copy.slot
    pub copy_key : m' (Key move.copy.slot) ≡ m (Key move.copy.slot)
    pub copy_value : m' (Value move.copy.slot) ≡ m (Value move.copy.slot)
    pub copy_life : m' (Life move.copy.slot) ≡ m (Life move.copy.slot)
    pub old_linked : to.linked move.old ≡ true
    pub old_old : to.old move.old ≡ g.old move.old
    pub old_key : m' (Key move.old) ≡ m (Key move.old)
    pub old_value : m' (Value move.old) ≡ m (Value move.old)
    pub parent : to.up move.old ≡ g.up move.old
    pub side : to.side move.old ≡ g.side move.old
    pub held : (s : ℕ) → HasLock u s → HasLock z s
    pub generation : (l : HeldLock) (generation : ℕ) → lock_of u.locks move.old ≡ Some l → HasGeneration m move.old generation l
        → (l' : HeldLock) × (lock_of z.locks move.old ≡ Some l') × HasGeneration m' move.old generation l'
    pub place : z.allowance.place ≡ u.allowance.place
    pub records : z.records ≡ u.records
    pub longer : (j : ℕ) (a : Mark) → get_elem? h j ≡ some a → get_elem? hs j ≡ some a

  pub moving_left : LeavesMove → IsMoving m g h u move → IsMoving m' to hs z move
  moving_left c i = record {
    order = i.order;
    copy_some = i.copy_some;
    copy_linked = c.copy_linked;
    copy_young = c.copy_old ∙ i.copy_young;
    copy_key = c.copy_key ∙ i.copy_key;
    old_linked = c.old_linked;
    old_old = c.old_old ∙ i.old_old;
    old_key = c.old_key ∙ i.old_key;
    same_value = c.copy_value ∙ i.same_value ∙ sym c.old_value;
    parent = c.parent ∙ i.parent;
    side = c.side ∙ i.side;
    copy_lock = c.held move.copy.slot i.copy_lock;
    old_lock = c.held move.old i.old_lock;
    parent_lock = c.held move.parent i.parent_lock;
    made = c.longer move.made _ (i.made ∙ ap (λ p. some (Done (record { caller = p; op = Del move.key }))) (sym c.place));
    recorded = (let x = i.recorded in let l = c.generation x.lock x.generation x.locked x.same in
        record {
          reading = x.reading;
          generation = x.generation;
          lock = l.0;
          kept = subst (λ rs. IsIn rs x.reading) (sym c.records) x.kept;
          loaded = x.loaded;
          locked = l.1;
          same = l.2;
        });
    unmet = λ r generation has loaded e. i.unmet r generation (subst (λ rs. IsIn rs r) c.records has) loaded (sym c.copy_life ∙ e);
  }

-- The parts on pending moves, after a step by a view that has no move afterwards.

module _ (k : Shape) (m : Memory) (vs : List View) (h : List Mark) (i : HoldsNow k m vs h) (id : ℕ) (v w : View)
    (there : get_elem? vs id ≡ some v)
    (f : Field) (n p : ℕ) (stores : StoresAt m (stored m f n) p f) (mine : HasLock v p) (moving : w.moving ≡ None) (to : Chart)
    (h' : List Mark) (more : PlainMarks v.allowance.place h h') where
  abbrev moves_memory : Memory
  moves_memory = stored m f n

  -- what a step has to say of the moves of the others
  pub record StoresMoves : Type 0 where
    pub stays : (j : ℕ) (u : View) (s : ℕ) → j ≢ id → get_elem? vs j ≡ some u → HasLock u s → i.chart.linked s ≡ true → to.linked s ≡ true
    pub linked_back : (s : ℕ) → to.linked s ≡ true → i.chart.linked s ≡ true
    pub old_same : (s : ℕ) → to.old s ≡ i.chart.old s
    pub hangs : (j : ℕ) (u : View) (move : Move) → j ≢ id → get_elem? vs j ≡ some u → u.moving ≡ Some move
        → (to.up move.old ≡ i.chart.up move.old) × (to.side move.old ≡ i.chart.side move.old)
    pub own_gone : (move : Move) → v.moving ≡ Some move → to.linked move.old ≡ true → ⊥

  module _ (c : StoresMoves) where
    moving_other : (j : ℕ) (u : View) (move : Move) → j ≢ id → get_elem? vs j ≡ some u → u.moving ≡ Some move → IsMoving m i.chart h u move
        → IsMoving moves_memory to h' u move
    moving_other j u move ne e is t =
        let apart : (s : ℕ) → HasLock u s → s ≢ p = (λ s has same. ne
        (one_holder k m vs h i j id u v p e there (subst (HasLock u) same has) mine)) in
        let q = c.hangs j u move ne e is in
        moving_left m moves_memory i.chart to h h' u u move (record {
          copy_linked = c.stays j u move.copy.slot ne e t.copy_lock t.copy_linked;
          copy_old = c.old_same move.copy.slot;
          copy_key = stores.key move.copy.slot;
          copy_value = stores.away move.copy.slot (Value move.copy.slot) (apart move.copy.slot t.copy_lock) refl;
          copy_life = stores.life move.copy.slot;
          old_linked = c.stays j u move.old ne e t.old_lock t.old_linked;
          old_old = c.old_same move.old;
          old_key = stores.key move.old;
          old_value = stores.away move.old (Value move.old) (apart move.old t.old_lock) refl;
          parent = q.0;
          side = q.1;
          held = λ s has. has;
          generation = λ l generation f x. (
            l,
            f,
            ⊎_elim (λ y. inl (stores.life move.old ∙ y))
                (λ (y : (m (Life move.old) ≡ 2 * generation + 1) × (l.marked ≡ true)). inr (stores.life move.old ∙ y.0, y.1)) x,
          );
          place = refl;
          records = refl;
          longer = more.longer;
        }) t

    pub moves_stored : AreMoving moves_memory to h' (set vs id w)
    moves_stored = record {
      each = each_set (λ j u. (move : Move) → u.moving ≡ Some move → IsMoving moves_memory to h' u move) vs id w
          (λ move is. absurd (let q : None ≡ Some move = sym moving ∙ is in cc))
          (λ j u ne e move is. moving_other j u move ne e is (i.tree.moves.each j u e move is));
      every = λ s l o. every s l (i.tree.moves.every s (c.linked_back s l) (sym (c.old_same s) ∙ o));
      one_old = λ x y a b q r ea eb ia ib same. (let p = back x a q ea ia in let z = back y b r eb ib in
          i.tree.moves.one_old x y a b q r p z ia ib same);
      one_copy = λ x y a b q r ea eb ia ib same. (let p = back x a q ea ia in let z = back y b r eb ib in
          i.tree.moves.one_copy x y a b q r p z ia ib same);
    }
      where
        back : (j : ℕ) (u : View) (move : Move) → get_elem? (set vs id w) j ≡ some u → u.moving ≡ Some move → get_elem? vs j ≡ some u
        back j u move e is = each_set (λ l z. z.moving ≡ Some move → get_elem? vs l ≡ some z) vs id w
            (λ x. absurd (let q : None ≡ Some move = sym moving ∙ x in cc)) (λ l z ne f x. f) j u e is

        every : (s : ℕ) → to.linked s ≡ true → IsOldOf vs s → IsOldOf (set vs id w) s
        every s l o = ⊎_elim (λ (mine : v.moving ≡ Some o.move). absurd (c.own_gone o.move mine (ap to.linked o.old ∙ l)))
            (λ (p : IsPending (set vs id w) o.move). record { move = o.move; pending = p; old = o.old })
            (somewhere_set vs id v w there o.pending)
