-- A step under a lock that changes nothing of its view but that lock, and such a one: a load is noted, K18.
use Rattle.std.proofs.Common.{◌≡◌, ◌≢◌, ℕ, ◌+◌, ◌/◌, ◌<◌, ◌≤◌, ◌==◌, false, List, set, Some, refl, sym, ap, subst, ◌∙◌, ⊎_elim, inr, arith, inl, ◌*◌, true, None, Bool, cond, [], ◌∷◌, Option, eq-eqb, ne_eqb}
use mathlib.Core.Option.{some}
use lib.ListN.{get_elem?}
use Rattle.prcu_marks.specs.declared.mark.Mark.{Mark}
use Rattle.prcu_marks.specs.declared.mark.Side.{Side}
use Rattle.core_state.specs.declared.shape.Shape.{Shape}
use Rattle.core_state.specs.declared.words.Field.{Field}
use Rattle.core_state.specs.declared.words.Field.TheVariants.{State, Life, Tag, Key, Link, Value, Clock, Free}
use Rattle.core_state.specs.declared.view.HeldLock.{HeldLock}
use Rattle.core_state.specs.declared.view.Move.{Move}
use Rattle.core_state.specs.declared.view.Reading.{Reading}
use Rattle.core_state.specs.declared.view.Retired.{Retired}
use Rattle.core_state.specs.declared.view.View.{View}
use Rattle.list_laws.specs.Counts.{times, total, IsIn, Each}
use Rattle.core_state.specs.Memory.{flag, IsEven, Memory, slot_count, stored, sum_below, count_below, has}
use Rattle.core_state.specs.Views.{known_in, lock_of, HasLock, IsOwnField, Works, retired_of, slots_of, emptied_among, change_lock, note_lock, note_held, note_option, note_moving, noting}
use Rattle.core_state.specs.Links.{IsContent}
use Rattle.core_state.specs.Tree.{Chart, IsEmptied, IsPending}
use Rattle.core_state.specs.Parts.{HasGeneration, LockParts, HasFewSlots, IsRetired, AreHandsKnown, SlotParts, CountParts, IsAsRecorded, IsHeldKnown, IsMoving, TreeParts, ReaderParts, IsWaitedMove, GraceParts, IsLockKept, IsLockKnown, IsHandKnown}
use Rattle.core_state.specs.Invariant.{HoldsNow}
use Rattle.list_laws.proofs.Lists.{each_set, each_change, total_same, at_below, set_twice, somewhere_here, somewhere_set}
use Rattle.core_frames.proofs.Charts.{bool_cases}
use Rattle.core_frames.proofs.Roles.{own_off, retired_own}
use Rattle.core_laws.proofs.Stores.{IsBesideSlots, stores_in}
use Rattle.core_laws.proofs.ChartStays.{ChartStep, same_but, outer_same, chart_stays, grace_same, law_hands}
use Rattle.core_frames.proofs.Views.{stored_else, same_slots, loadable_own}
use Rattle.core_laws.proofs.LockSteps.{OneLock, known_still, emptied_after, one_changed, lock_stays, note_held-form, lock_noted, note_held-slot, note_option-slots, held_noted, hands_noted, note_option-unraised, note_option-none, note_option-still_none}
use native.Mathlib.Decide.{ℕ_discrete}
use Rattle.core_frames.proofs.PlaceFrames.{front_stays, free_slots, generations_in, tags_raised, counts_by, retired_of_by, seat_frame, lock_frame, counts_kept, retired_of_still, slots_by, front_frame, retired_by}
use Rattle.atomic_table.proofs.Lists.{set_here, set_again}
use Rattle.core_state.specs.declared.view.Known.{Known}
use Rattle.core_state.specs.declared.view.Section.{Section}
use Rattle.core_frames.proofs.Marks.{end_same, silent_same}
use Rattle.core_frames.proofs.WaitFrames.{mark_frame, waiter_frame, grace_frame_by, retired_still, move_still}
use Rattle.core_frames.proofs.TreeFrames.{emptied_still, readers_stay, see_by, same_form, HadMove, IsForm, tree_by, moving_by, SameMoves, listing_frame, listing_same}
use Rattle.std.proofs.lemmas.Bool.{cases_eq}
use Rattle.core_state.specs.Steps.{after_locked_load, NeedsLockedLoad}
use Rattle.core_laws.proofs.Locks.{lock_outside, lock_alone, emptied_change_same, note_side}
use Rattle.core_frames.proofs.WholeFrames.{Stepper, StepKeeps, by_load}

-- A step that stores a life or a tag under a lock, and changes nothing else of its view but that lock: what it leaves of all parts but
-- those on locks, counts, records and the lives of slots.

-- what the store leaves of the words
pub record StoresLifeOrTag (m m' : Memory) : Type 0 where
  pub content : (s : ℕ) (field : Field) → IsContent s field → m' field ≡ m field
  pub state : (s : ℕ) → m' (State s) ≡ m (State s)
  pub beside : (field : Field) → IsBesideSlots field → m' field ≡ m field

abbrev pub IsLifeOrTag : Field → Type 0
IsLifeOrTag (Life t) = Unit {0}
IsLifeOrTag (Tag t b) = Unit {0}
IsLifeOrTag _ = ⊥

content_apart : (s : ℕ) (field : Field) → IsContent s field → IsLifeOrTag field → ⊥
content_apart s (Life t) c a = c
content_apart s (Tag t b) c a = c
content_apart s _ c a = a

-- a store of a life or a tag leaves what is neither
pub life_or_tag_stores : (m : Memory) (p : ℕ) (f : Field) (n : ℕ) → IsOwnField p f → IsLifeOrTag f → StoresLifeOrTag m (stored m f n)
life_or_tag_stores m p f n own kind = record {
  content = λ s field c. stored_else m f field n (λ e. content_apart s field c (subst IsLifeOrTag e kind));
  state = λ s. stored_else m f (State s) n (λ e. subst IsLifeOrTag e kind);
  beside = (stores_in m p f n own).beside;
}

module _ (k : Shape) (m m' : Memory) (vs : List View) (h : List Mark) (id : ℕ) (v : View) (i : HoldsNow k m vs h)
    (there : get_elem? vs id ≡ some v) (works : Works v)
    (locks : List HeldLock) (slot : ℕ) (lock new : HeldLock) (one : OneLock v (record v { locks = locks }) slot lock new)
    (stores : StoresLifeOrTag m m') where
  abbrev w : View
  w = record v { locks = locks }

  -- what is left to say of lives, tags and the lock
  pub record LeavesRest : Type 0 where
    pub half : (s : ℕ) → m' (Life s) / 2 ≡ m (Life s) / 2
    pub off : (s : ℕ) → i.chart.linked s ≡ false → m' (Life s) ≡ m (Life s)
    pub root : m' (Life 0) ≡ 0
    pub recorded : (r : Reading) (s : ℕ) → IsAsRecorded m' r s → IsAsRecorded m r s
    pub tags : (j : ℕ) (u : View) (r : Reading) (s tag : ℕ) (b : Side) → get_elem? vs j ≡ some u → IsIn u.records r
        → known_in r.loads (Tag s b) ≡ Some tag → m' (Tag s b) ≡ tag → (IsEmptied (set vs id w) s b → ⊥)
        → (m (Tag s b) ≡ tag) × (IsEmptied vs s b → ⊥)
    pub hands : (j : ℕ) (u : View) → get_elem? vs j ≡ some u → AreHandsKnown m u → AreHandsKnown m' u
    pub away : (s : ℕ) → s ≢ slot → m' (Life s) ≡ m (Life s)
    pub alone : (j : ℕ) (u : View) → j ≢ id → get_elem? vs j ≡ some u → HasLock u slot → ⊥
    pub here : (generation : ℕ) → HasGeneration m slot generation lock → HasGeneration m' slot generation new
    pub copies : (j : ℕ) (u : View) (move : Move) → get_elem? vs j ≡ some u → u.moving ≡ Some move
        → m' (Life move.copy.slot) ≡ m (Life move.copy.slot)

  module _ (c : LeavesRest) where
    abbrev g : Chart
    g = i.chart

    slots : SlotParts k.room m' (slot_count k) g (set vs id w) h
    slots = let t = i.slots in let same = λ (s : ℕ). total_same (λ (u : View). times s (slots_of u)) vs id v w there refl in record {
      roles = record {
        once = λ s lt. ap (λ x. flag (x == 0) + flag (g.linked s) + total (λ (u : View). times s (slots_of u)) (set vs id w))
            (stores.state s) ∙ ap (λ x. flag (m (State s) == 0) + flag (g.linked s) + x) (same s) ∙ t.roles.once s lt;
        beyond = λ s far. same s ∙ t.roles.beyond s far;
        states = λ s lt. subst (λ x. x ≤ 1) (sym (stores.state s)) (t.roles.states s lt);
      };
      few = each_change (HasFewSlots k.room) (HasFewSlots k.room) vs id v w there
          (λ x. record {
            one = x.one;
            few = x.few;
            room = x.room;
            joined = x.joined;
            next_spare = x.next_spare;
          }) (λ u x. x) t.few;
      free = λ s lt e. (let zero_state = sym (stores.state s) ∙ e in
          subst IsEven (sym (c.off s (free_off s lt zero_state))) (t.free s lt zero_state));
      root = c.root;
      hands = each_set (λ j u. AreHandsKnown m' u) vs id w
          (let x = c.hands id v there (t.hands id v there) in record { hand = x.hand; spare = x.spare; copy = x.copy; spares = x.spares })
          (λ j u ne e. c.hands j u e (t.hands j u e));
      retired = each_set (λ j u. Each (retired_of u) (IsRetired m' h)) vs id w
          (λ j x e. retired_is id v x there (j, e) (t.retired id v there j x e))
          (λ j u ne e l x is. retired_is j u x e (l, is) (t.retired j u e l x is));
      unlinked = λ s p gone. retired_of_by vs id v w there (λ r has. has) s (t.unlinked s p gone);
    }
      where
        free_off : (s : ℕ) → s < slot_count k → m (State s) ≡ 0 → g.linked s ≡ false
        free_off s lt e = let role = i.slots.roles.once s lt in let f = ap (λ x. flag (x == 0)) e in
            ⊎_elim (λ l. absurd (let q = ap flag l in omega arith)) (λ l. l) (bool_cases (g.linked s))

        retired_is : (j : ℕ) (u : View) (x : Retired) → get_elem? vs j ≡ some u → IsIn (retired_of u) x → IsRetired m h x → IsRetired m' h x
        retired_is j u x e is t =
            retired_by m m' h h x refl (c.off x.slot (own_off m (slot_count k) g vs h i.slots j u e x.slot (retired_own u x is)))
            (λ field content. stores.content x.slot field content) t

    -- nothing is said of the kind of slots: all keep their contents
    abbrev any : ℕ → Type 0
    any s = Unit {0}

    held_now : (s : ℕ) → HasLock v s → Dec (s ≡ slot) → HasLock w s
    held_now s has (yes same) = (new, ap (lock_of locks) same ∙ one.now)
    held_now s has (no ne) = (has.0, one.other s ne ∙ has.1)

    generation_away : (s : ℕ) (l : HeldLock) (generation : ℕ) → s ≢ slot → HasGeneration m s generation l → HasGeneration m' s generation l
    generation_away s l generation ne has = ⊎_elim (λ e. inl (c.away s ne ∙ e))
        (λ (e : (m (Life s) ≡ 2 * generation + 1) × (l.marked ≡ true)). inr (c.away s ne ∙ e.0, e.1)) has

    own_now : (s : ℕ) (l : HeldLock) (generation : ℕ) → lock_of v.locks s ≡ Some l → HasGeneration m s generation l → Dec (s ≡ slot)
        → (l' : HeldLock) × (lock_of locks s ≡ Some l') × HasGeneration m' s generation l'
    own_now s l generation is has (yes same) =
        let q : Some l ≡ Some lock = sym is ∙ ap (lock_of v.locks) same ∙ one.held in
        let it : l ≡ lock = cc in (
          new,
          ap (lock_of locks) same ∙ one.now,
          subst (λ z. HasGeneration m' z generation new) (sym same)
              (c.here generation (subst (λ (z : ℕ × HeldLock). HasGeneration m z.0 generation z.1) (λ j. (same j, it j)) has)),
        )
    own_now s l generation is has (no ne) = (l, one.other s ne ∙ is, generation_away s l generation ne has)

    abbrev step : ChartStep any
    step = record {
      who = record { k = k; m = m; vs = vs; h = h; id = id; v = v; inv = i; there = there; works = works };
      m' = m';
      hs = h;
      w = w;
      contents = record {
        key = λ s _. stores.content s (Key s) refl;
        link = λ s b _. stores.content s (Link s b) refl;
        value = λ s _. stores.content s (Value s) refl;
      };
      beside = stores.beside;
      on = λ s l. tt;
      half = λ s _. c.half s;
      met = λ j u section e inside s x. (tt, refl, c.off s x.out);
      gone = λ s at gone. (gone, λ b. stores.content s (Link s b) refl);
      recorded = λ j u r e has s x. (tt, c.recorded r s x);
      side = c.tags;
      held = λ s has. held_now s has (ℕ_discrete s slot);
      generation = λ j u s l generation ne e is on x. generation_away s l generation
          (λ same. c.alone j u ne e (l, ap (lock_of u.locks) (sym same) ∙ is)) x;
      own_generation = λ s l generation is on x. own_now s l generation is x (ℕ_discrete s slot);
      copies = c.copies;
      view = same_but v locks v.hands v.seen;
      updates = refl;
      ends = end_same h;
      longer = λ j a e. e;
      done = λ j u e. e;
    }

    -- tags with those still to be raised are no more than before
    counts_under : tags_raised m' (slot_count k) + emptied_among locks ≤ tags_raised m (slot_count k) + emptied_among v.locks
        → CountParts k.tickets m' (slot_count k) g (set vs id w) h
    counts_under tags = counts_by k.tickets m m' (slot_count k) g g vs id v w h h there (record {
      free = (let a = stores.beside Free tt in let b : free_slots m' (slot_count k) ≡ free_slots m (slot_count k) =
          (λ j. count_below (λ s. stores.state s j == 0) (slot_count k)) in omega arith);
      clock = (let a = stores.beside Clock tt in omega arith);
      generations = (let a : generations_in m' (slot_count k) ≡ generations_in m (slot_count k) =
          (λ j. sum_below (λ s. c.half s j) (slot_count k)) in omega arith);
      tags = omega arith;
      turns = (let a = stores.beside Clock tt in omega arith);
      pairs = refl;
      olds = refl;
    }) i.counts

    -- the invariant, with the parts on locks
    pub under_lock : LockParts m' (slot_count k) g (set vs id w)
        → tags_raised m' (slot_count k) + emptied_among locks ≤ tags_raised m (slot_count k) + emptied_among v.locks
        → HoldsNow k m' (set vs id w) h
    under_lock lock_parts tags = chart_stays any step
        (outer_same k m m' vs h id v w i there works stores.beside step.view refl) slots lock_parts (counts_under tags)
        (grace_same k m vs h id v w i there step.view (λ y has. (y, has, refl, refl)))

-- What is known of the copy of a pending move may be another, as long as it is so.

module _ (k : Shape) (m : Memory) (vs : List View) (h : List Mark) (id : ℕ) (v : View) (i : HoldsNow k m vs h)
    (there : get_elem? vs id ≡ some v) (works : Works v)
    (move : Move) (moving : v.moving ≡ Some move) (ks : List Known) (known : IsHeldKnown m (record move.copy { known = ks })) where
  abbrev pub with_copy : Move
  with_copy = record move { copy = record move.copy { known = ks } }

  abbrev pub copy_view : View
  copy_view = record v { moving = Some with_copy }

  not_inside : (section : Section) → v.section ≡ Some section → ⊥
  not_inside section is = let none = ((i.locks.few id v there).outside section is).1 in
      absurd (let q : None ≡ Some move = sym none ∙ moving in cc)

  pending_forth : (a : Move) → IsPending vs a → (b : Move) × IsPending (set vs id copy_view) b × IsForm a b
  pending_forth a p = ⊎_elim
      (λ (is : v.moving ≡ Some a). (let q : Some a ≡ Some move = sym is ∙ moving in
      let same : move ≡ a = cc in (
        with_copy,
        somewhere_here vs id v copy_view there refl,
        subst (λ (z : Move). IsForm z with_copy) same (record { key = refl; next_key = refl; copy = refl; old = refl; made = refl }),
      )))
      (λ (still : IsPending (set vs id copy_view) a). (a, still, same_form a)) (somewhere_set vs id v copy_view there p)

  -- a view of a move afterwards is one from before
  moved_back : (j : ℕ) (u : View) → get_elem? (set vs id copy_view) j ≡ some u → (a : Move) → u.moving ≡ Some a → HadMove vs j a
  moved_back = each_set (λ j u. (a : Move) → u.moving ≡ Some a → HadMove vs j a) vs id copy_view
      (λ a is. (let q : with_copy ≡ a = cc in record {
        view = v;
        before = move;
        stands = there;
        has_it = moving;
        form = subst (IsForm move) q (record { key = refl; next_key = refl; copy = refl; old = refl; made = refl });
      }))
      (λ j u ne e a is. record { view = u; before = a; stands = e; has_it = is; form = same_form a })

  moves_of : SameMoves vs (set vs id copy_view)
  moves_of = record { forth = pending_forth; back = λ j u a e is. moved_back j u e a is }

  slots_copied : SlotParts k.room m (slot_count k) i.chart (set vs id copy_view) h
  slots_copied = slots_by m (slot_count k) i.chart vs id v copy_view h there (λ s. refl)
      (λ x. record {
        one = x.one;
        few = x.few;
        room = λ a is. x.room move moving;
        joined = x.joined;
        next_spare = x.next_spare;
      })
      (λ x. record {
        hand = x.hand;
        spare = x.spare;
        copy = λ a is. (let q : with_copy ≡ a = cc in
            subst (λ (z : Move). IsHandKnown m z.copy) q (record { known = known; even = (x.copy move moving).even }));
        spares = x.spares;
      }) (λ x. x) (retired_of_still m (slot_count k) i.chart vs id v copy_view h there refl) i.slots

  counts : CountParts k.tickets m (slot_count k) i.chart (set vs id copy_view) h
  counts = counts_kept k.tickets m m (slot_count k) i.chart vs id v copy_view h h there (same_slots m) refl refl
      (record { tickets = refl; reserved = refl; owes = refl; unraised = omega arith; locks = refl; moving = sym (ap has moving) })
      (silent_same h) refl refl i.counts

  tree : TreeParts m (slot_count k) i.chart (set vs id copy_view) h
  tree =
      let t = i.tree in
      tree_by m m (slot_count k) i.chart vs (set vs id copy_view) h h (same_slots m).nodes (silent_same h) moves_of
      (each_set (λ j u. (a : Move) → u.moving ≡ Some a → IsMoving m i.chart h u a) vs id copy_view
      (λ a is. (let q : with_copy ≡ a = cc in let x = t.moves.each id v there move moving in
      subst (IsMoving m i.chart h copy_view) q (moving_by m m (same_slots m).nodes i.chart h h v copy_view move move.waited ks
      (λ n y e. e) refl (λ s which. refl)
      (λ r y. y) (λ r y. y) x)))
      (λ j u ne e a is. t.moves.each j u e a is)) t

  readers : ReaderParts m i.chart (set vs id copy_view) h
  readers = readers_stay m m (same_slots m).nodes i.chart vs id v copy_view h h there (silent_same h)
      (see_by vs (set vs id copy_view) moves_of (emptied_still vs id v copy_view there refl)) refl refl i.readers

  grace : GraceParts (set vs id copy_view) h
  grace = grace_frame_by h h (λ p after low high x. x)
      (λ p after low high x. x) vs id v copy_view there refl refl i.grace.grace i.grace.reuse i.grace.clean
      (λ j r e. retired_still h h (λ p after low high x. x) (λ p after low high x. x) vs id v copy_view there refl v.allowance.place r
      (i.grace.retired id v there j r e))
      (λ a is. (let q : with_copy ≡ a = cc in let x =
      move_still h h (λ p after low high x. x) (λ p after low high x. x) vs id v copy_view there refl v.allowance.place move
      (i.grace.moves id v there move moving) in
      subst (IsWaitedMove (set vs id copy_view) h v.allowance.place) q
      (record { shown = x.shown; noted = x.noted; clear = x.clear }))) i.grace

  pub law_copy : HoldsNow k m (set vs id copy_view) h
  law_copy = let quiet = silent_same h in let nodes = (same_slots m).nodes in record {
    table = i.table;
    chart = i.chart;
    marks = mark_frame k.places vs id v copy_view h there (record { place = refl; places = refl; wait = refl; waits = refl }) refl i.marks;
    seats = seat_frame k.places vs id v copy_view h there works
        (record {
          places = record { place = refl; places = refl; joined = refl; met = refl };
          seen = refl;
          section = refl;
          sections = refl;
          waits = refl;
        }) i.seats;
    waiters = waiter_frame k m m vs id v copy_view h there (record { place = refl; section = refl; wait = refl }) refl refl refl
        (i.waiters.clocked id v there).loaded i.waiters;
    slots = slots_copied;
    locks = lock_frame m m (slot_count k) i.chart vs id v copy_view there (same_slots m)
        (record {
          place = refl;
          locks = refl;
          unraised = λ s x. x;
          settled = λ e. absurd (let q : None ≡ Some move = sym e ∙ moving in cc);
          outside = λ section is. absurd (not_inside section is);
          readings = λ r has. inl has;
        }) i.locks;
    counts = counts;
    tree = tree;
    readers = readers;
    front = front_frame m m vs id v copy_view h h there (front_stays m m refl refl) refl
        (λ e. absurd (let q : None ≡ Some move = sym e ∙ moving in cc)) quiet (end_same h) i.front;
    listings = listing_frame m m nodes i.chart h h quiet vs id copy_view
        (λ s l is lists. listing_same m m nodes i.chart h h quiet s l (i.listings.listings id v there s l is lists)) i.listings;
    grace = grace;
  }

-- A load under a lock is noted: K18.

no_store : (m : Memory) → StoresLifeOrTag m m
no_store m = record { content = λ t f x. refl; state = λ t. refl; beside = λ f x. refl }

-- Who has the lock of a slot may note what is so of a field of it.
module _ (k : Shape) (m : Memory) (vs : List View) (h : List Mark) (id : ℕ) (v : View) (i : HoldsNow k m vs h)
    (there : get_elem? vs id ≡ some v) (works : Works v)
    (slot : ℕ) (field : Field) (number : ℕ) (by_store : Bool) (own : IsOwnField slot field) (now : m field ≡ number) (lock : HeldLock)
    (held : lock_of v.locks slot ≡ Some lock) where
  abbrev entry : Known
  entry = record { field = field; number = number; stored = by_store }

  abbrev locks : List HeldLock
  locks = change_lock slot (note_lock entry) v.locks

  abbrev noted_view : View
  noted_view = record v { locks = locks }

  known_lock : IsLockKnown m v slot lock
  known_lock = i.locks.known id v there slot lock held

  outside : v.section ≡ None
  outside = lock_outside k m vs h i id v there slot lock held

  one : OneLock v noted_view slot lock (note_lock entry lock)
  one = one_changed v slot lock (note_lock entry) (λ l. refl) held outside

  kept_slot : IsLockKept m i.chart noted_view slot (note_lock entry lock)
  kept_slot = let t = i.locks.kept id v there slot lock held in
      record { marked = t.marked; own_mark = t.own_mark; emptied = λ a e. t.emptied a (sym (note_side entry a lock) ∙ e) }

  -- the life of a slot that the view marked is known
  marked_life : lock.marked ≡ true → known_in (entry ∷ lock.known) (Life slot) ≡ Some (m (Life slot))
  marked_life e = known_still lock.known field (Life slot) number (m (Life slot)) by_store (λ q. sym now ∙ ap m q)
      (known_lock.marked_life e)

  locks_parts : LockParts m (slot_count k) i.chart (set vs id noted_view)
  locks_parts = lock_stays m m (slot_count k) i.chart vs id v noted_view there slot lock (note_lock entry lock) one
      (record { away = λ s f ne x. refl; lock = λ s. refl; beside = λ f x. refl })
      (lock_alone k m vs h i id v there slot lock held) kept_slot
      (lock_noted m m v noted_view slot lock (note_lock entry lock) field number by_store refl own now (λ f x ne. refl) refl
      (λ x y. y) marked_life known_lock)
      (λ r x. x) i.locks

  emptied_now : (s : ℕ) (a : Side) → IsEmptied vs s a → IsEmptied (set vs id noted_view) s a
  emptied_now s a = emptied_after vs id v noted_view slot lock (note_lock entry lock) there one s a (λ _ e. note_side entry a lock ∙ e)

  -- under its lock
  pub noted_first : HoldsNow k m (set vs id noted_view) h
  noted_first = under_lock k m m vs h id v i there works locks slot lock (note_lock entry lock) one (no_store m) (record {
    half = λ s. refl;
    off = λ s off. refl;
    root = i.slots.root;
    recorded = λ r s x. x;
    tags = λ j u r s tag b e is known same settled. (same, λ x. settled (emptied_now s b x));
    hands = λ j u e x. x;
    away = λ s ne. refl;
    alone = lock_alone k m vs h i id v there slot lock held;
    here = λ generation has. has;
    copies = λ j u move e is. refl;
  }) locks_parts (let same = emptied_change_same slot (note_lock entry) (λ l. refl) (λ l. refl) v.locks in omega arith)

-- A lock that isn't held is noted nowhere.
change_none : (s : ℕ) (f : HeldLock → HeldLock) (ls : List HeldLock) → lock_of ls s ≡ None → change_lock s f ls ≡ ls
change_none s f [] e = refl
change_none s f (x ∷ ls) e = ⊎_elim
    (λ (here : x.slot ≡ s). absurd (let q : Some x ≡ None = sym (ap (λ b. cond b (Some x) (lock_of ls s)) (eq-eqb x.slot s here)) ∙ e in
    cc))
    (λ ne. (let rest = change_none s f ls (sym (ap (λ b. cond b (Some x) (lock_of ls s)) (ne_eqb x.slot s ne)) ∙ e) in
    λ j. cond (ne_eqb x.slot s ne j) (f x) x ∷ rest j))
    (cases_eq x.slot s)

-- What is so of a field of a slot may be noted, be the slot locked or not.
module _ (k : Shape) (m : Memory) (vs : List View) (h : List Mark) (id : ℕ) (v : View) (i : HoldsNow k m vs h)
    (there : get_elem? vs id ≡ some v) (works : Works v)
    (slot : ℕ) (field : Field) (number : ℕ) (by_store : Bool) (own : IsOwnField slot field) (now : m field ≡ number) where
  abbrev note : Known
  note = record { field = field; number = number; stored = by_store }

  abbrev locked_view : View
  locked_view = record v { locks = change_lock slot (note_lock note) v.locks }

  first_of : (o : Option HeldLock) → lock_of v.locks slot ≡ o → HoldsNow k m (set vs id locked_view) h
  first_of None e = subst (λ us. HoldsNow k m us h)
      (sym (set_again vs id v there) ∙ (λ j. set vs id (record v { locks = sym (change_none slot (note_lock note) v.locks e) j }))) i
  first_of (Some lock) e = noted_first k m vs h id v i there works slot field number by_store own now lock e

  first : HoldsNow k m (set vs id locked_view) h
  first = first_of (lock_of v.locks slot) refl

  -- of the slot in hand and of the spare
  abbrev handed_view : View
  handed_view = record locked_view {
    hands = record v.hands
        { hand = note_option slot note v.hands.hand; spare = note_option slot note v.hands.spare };
  }

  second : HoldsNow k m (set vs id handed_view) h
  second =
      let hands = hands_noted m m slot field number by_store own now (λ t f ne x. refl) (λ f x ne. refl) v (λ t x. x)
      (i.slots.hands id v there) in
      subst (λ us. HoldsNow k m us h) (set_twice vs id locked_view handed_view)
      (law_hands k m (set vs id locked_view) h id locked_view first (set_here vs id locked_view (at_below vs id v there)) works
      (note_option slot note v.hands.hand) (note_option slot note v.hands.spare) (record {
        hand_list = note_option-slots slot note v.hands.hand;
        spare_list = note_option-slots slot note v.hands.spare;
        unraised = note_option-unraised slot note v.hands.hand;
        no_hand = note_option-still_none slot note v.hands.hand;
        no_spare = note_option-none slot note v.hands.spare;
        known = record { hand = hands.hand; spare = hands.spare; copy = (i.slots.hands id v there).copy; spares = hands.spares };
      }))

  -- and of the copy
  by_move : (o : Option Move) → v.moving ≡ o → HoldsNow k m (set vs id (noting v slot field number by_store)) h
  by_move None e = subst (λ (z : View). HoldsNow k m (set vs id z) h)
      ((λ j. record handed_view { moving = e j }) ∙ (λ j. record handed_view { moving = note_moving slot note (sym e j) })) second
  by_move (Some move) e =
      let ks = (note_held slot note move.copy).known in
      let told : IsHeldKnown m (record move.copy { known = ks }) = λ f n known.
      (let r = held_noted m m slot field number by_store own now (λ t x ne y. refl) (λ x y ne. refl) move.copy
      ((i.slots.hands id v there).copy move e).known f n known in
      (subst (λ z. IsOwnField z f) (note_held-slot slot note move.copy) r.0, r.1)) in
      let third : HoldsNow k m (set (set vs id handed_view) id
      (record handed_view { moving = Some (record move { copy = record move.copy { known = ks } }) })) h =
      law_copy k m (set vs id handed_view) h id handed_view second
      (set_here vs id handed_view (at_below vs id v there)) works move e ks told in
      subst (λ (z : View). HoldsNow k m (set vs id z) h)
      ((λ j. record handed_view { moving = Some (record move { copy = note_held-form slot note move.copy j }) })
      ∙ (λ j. record handed_view { moving = note_moving slot note (sym e j) }))
      (subst (λ us. HoldsNow k m us h) (set_twice vs id handed_view
      (record handed_view { moving = Some (record move { copy = record move.copy { known = ks } }) })) third)

  pub law_noting : HoldsNow k m (set vs id (noting v slot field number by_store)) h
  law_noting = by_move v.moving refl

module _ (z : Stepper) where
  open z use {k, m, vs, h, id, v, inv, there, works}

  pub keeps_locked_load : (slot : ℕ) (field : Field) → NeedsLockedLoad v slot field
      → StepKeeps z field (m field) (after_locked_load v slot field (m field)) []
  keeps_locked_load slot field needs = by_load z field (after_locked_load v slot field (m field))
      (law_noting k m vs h id v inv there works slot field (m field) false (loadable_own slot field needs.loadable) refl)
