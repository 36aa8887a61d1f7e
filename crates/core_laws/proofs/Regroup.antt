-- Seats are split or joined: two views come in place of one or two idle ones. What of the invariant goes over to the new list of views.
use Rattle.std.proofs.Common.{◌≡◌, ℕ, ◌+◌, ◌*◌, ◌<◌, ◌≤◌, ◌⊎◌, ◌==◌, false, List, [], ◌++◌, length, map, Some, None, sym, ap, subst, ◌∙◌, ⊎_elim, inl, inr, arith, Option}
use mathlib.Core.Option.{some, some-ne-none}
use mathlib.Core.List.{IsPrefix}
use lib.ListN.{get_elem?}
use Rattle.prcu_marks.specs.declared.mark.Mark.{Mark}
use Rattle.prcu_marks.specs.declared.mark.Side.{Side}
use Rattle.prcu_marks.specs.Marks.{updates_of, greatest_key}
use Rattle.core_state.specs.declared.shape.Shape.{Shape}
use Rattle.core_state.specs.declared.words.Field.TheVariants.{Front, Moved, Announced, State, Lock}
use Rattle.core_state.specs.declared.view.HeldLock.{HeldLock}
use Rattle.core_state.specs.declared.view.Listing.{Listing}
use Rattle.core_state.specs.declared.view.Enter.{Enter}
use Rattle.core_state.specs.declared.view.Move.{Move}
use Rattle.core_state.specs.declared.view.Reading.{Reading}
use Rattle.core_state.specs.declared.view.Retired.{Retired}
use Rattle.core_state.specs.declared.view.Section.{Section}
use Rattle.core_state.specs.declared.view.Spent.{Spent}
use Rattle.prcu_marks.specs.declared.commit.Commit.{Commit}
use Rattle.core_state.specs.declared.view.Waiting.{Waiting}
use Rattle.core_state.specs.declared.view.View.{View}
use Rattle.list_laws.specs.Counts.{times, total, Each, Somewhere}
use Rattle.core_state.specs.Memory.{flag, has, Memory, slot_count}
use Rattle.core_state.specs.Views.{lock_of, Works, places_of, slots_of, open_reading, readings_of, retired_of, unraised_of, emptied_among, IsQuiet, joined_retired}
use Rattle.core_state.specs.Tree.{Chart, IsPending, IsEmptied, HasEmptied}
use Rattle.core_state.specs.Steps.{spent_view}
use Rattle.core_state.specs.Parts.{WaitStands, MarkParts, HasSeenAll, IsOwned, IsCounted, SeatParts, IsClocked, inside_count, WaiterParts, HasFewSlots, IsRetired, IsRetiredOf, AreHandsKnown, SlotParts, IsHolderOf, HasFewLocks, IsLockKept, IsLockKnown, IsReadingKept, LockParts, turns_to_come, CountParts, IsReading, IsServed, IsRecord, ReaderParts, IsMoving, TreeParts, IsOddHere, IsOddBy, FrontParts, IsListing, ListingParts, IsClear, IsWaitedRetired, IsWaitedMove, GraceParts, HasOpen}
use Rattle.core_frames.proofs.Views.{same_slots}
use Rattle.core_frames.proofs.TreeFrames.{ReadersSee, record_by, see_by, served_by, SameMoves, same_form, tree_by}
use Rattle.core_state.specs.Invariant.{HoldsNow}
use Rattle.core_frames.proofs.WaitFrames.{StaysNoted, move_stays, retired_stays, wait_same}
use Rattle.core_frames.proofs.Marks.{silent_same}
use Rattle.core_frames.proofs.WholeFrames.{whole}

-- what a view is about: its section, its locks, its move, its commit
pub record Doing : Type 0 where
  pub section : Option Section
  pub locks : List HeldLock
  pub moving : Option Move
  pub commit : Option Commit

abbrev pub doing : View → Doing
doing u = record { section = u.section; locks = u.locks; moving = u.moving; commit = u.commit }

-- A view with none of these.
abbrev pub IsIdle : View → Type 0
IsIdle u = doing u ≡ doing spent_view

pub idle_quiet : (u : View) → IsQuiet u → IsIdle u
idle_quiet u q = λ n. record { section = q.section n; locks = q.locks n; moving = q.moving n; commit = q.commit n }

-- what a view leaves to the one that stands for it
pub record Remains : Type 0 where
  pub place : ℕ
  pub enter : Enter
  pub records : List Reading
  pub retired : List Retired
  pub wait : Option Waiting

abbrev pub remains : View → Remains
remains u = record { place = u.allowance.place; enter = u.enter; records = u.records; retired = u.hands.retired; wait = u.wait }

-- what a view has done, if it has done anything
pub record HasDone : Type 0 where
  pub is_doing : Doing
  pub left : Remains
  pub joined : List Spent

abbrev pub has_done : View → HasDone
has_done u = record { is_doing = doing u; left = record (remains u) { place = 0 }; joined = u.allowance.joined }

-- The sums over views are the same.
pub record SameSums (vs us : List View) : Type 0 where
  pub places : (p : ℕ) → total (λ (u : View). times p (places_of u)) us ≡ total (λ (u : View). times p (places_of u)) vs
  pub slots : (s : ℕ) → total (λ (u : View). times s (slots_of u)) us ≡ total (λ (u : View). times s (slots_of u)) vs
  pub inside : (c side : ℕ) → total (λ (u : View). inside_count c side u.section) us
      ≡ total (λ (u : View). inside_count c side u.section) vs
  pub tickets : total (λ (u : View). u.allowance.tickets) us ≡ total (λ (u : View). u.allowance.tickets) vs
  pub reserved : total (λ (u : View). flag u.hands.reserved) us ≡ total (λ (u : View). flag u.hands.reserved) vs
  pub owes : total (λ (u : View). flag u.hands.owes) us ≡ total (λ (u : View). flag u.hands.owes) vs
  pub unraised : total unraised_of us ≡ total unraised_of vs
  pub emptied : total (λ (u : View). emptied_among u.locks) us ≡ total (λ (u : View). emptied_among u.locks) vs
  pub pending : total (λ (u : View). has u.moving) us ≡ total (λ (u : View). has u.moving) vs
  pub turns : total (λ (u : View). u.counts.turns + turns_to_come u.wait) us
      ≤ total (λ (u : View). u.counts.turns + turns_to_come u.wait) vs

idle_section : (u : View) (section : Section) → u.section ≡ Some section → IsIdle u → ⊥
idle_section u section is idle = absurd (let q : None ≡ Some section = (λ n. (sym idle n).section) ∙ is in cc)

idle_lock : (u : View) (s : ℕ) (lock : HeldLock) → lock_of u.locks s ≡ Some lock → IsIdle u → ⊥
idle_lock u s lock is idle = absurd (let q : None ≡ Some lock = (λ n. lock_of (sym idle n).locks s) ∙ is in cc)

idle_move : (u : View) (move : Move) → u.moving ≡ Some move → IsIdle u → ⊥
idle_move u move is idle = absurd (let q : None ≡ Some move = (λ n. (sym idle n).moving) ∙ is in cc)

idle_turn : (u : View) (commit : Commit) → u.commit ≡ Some commit → IsIdle u → ⊥
idle_turn u commit is idle = absurd (let q : None ≡ Some commit = (λ n. (sym idle n).commit) ∙ is in cc)

idle_few : (u : View) → IsIdle u → HasFewLocks u
idle_few u idle = record {
  once = λ s. subst (λ (x : Doing). times s (map (λ (l : HeldLock). l.slot) x.locks) ≤ 1) (sym idle) (omega arith);
  few = subst (λ (x : Doing). length x.locks ≤ 5) (sym idle) (omega arith);
  outside = λ section is. absurd (idle_section u section is idle);
}

each_empty : {A : Type 0} (P : A → Type 0) (xs : List A) → xs ≡ [] → Each xs P
each_empty P xs none = subst (λ l. Each l P) (sym none) (λ j a e. absurd (some-ne-none a (sym e)))

-- Two views come in place of an idle one. The first has what that one leaves, the second has done nothing; other views that do something
-- stay.
pub record Regroups (vs us : List View) (id : ℕ) (v a b : View) : Type 0 where
  pub there : get_elem? vs id ≡ some v
  pub rest : remains a ≡ remains v
  pub bare : has_done b ≡ has_done spent_view
  pub idle_v : IsIdle v
  pub idle_a : IsIdle a
  pub back : (j : ℕ) (u : View) → get_elem? us j ≡ some u → (get_elem? vs j ≡ some u) ⊎ ((u ≡ a) ⊎ (u ≡ b))
  pub forth : (j : ℕ) (u : View) → get_elem? vs j ≡ some u → (get_elem? us j ≡ some u) ⊎ IsIdle u

module _ (vs us : List View) (id : ℕ) (v a b : View) (r : Regroups vs us id v a b) where
  idle_b : IsIdle b
  idle_b = λ n. (r.bare n).is_doing

  retired_b : retired_of b ≡ []
  retired_b = λ n. (r.bare n).left.retired ++ joined_retired (r.bare n).joined

  -- what holds of each view, where it goes from the one to what stands for it, and holds of the bare one
  each_regroup : (P Q : View → Type 0) → ((u : View) → P u → Q u) → (P v → Q a) → Q b → Each vs P → Each us Q
  each_regroup P Q others mine new all j u e =
      ⊎_elim (λ (at : get_elem? vs j ≡ some u). others u (all j u at))
      (λ (n : (u ≡ a) ⊎ (u ≡ b)). ⊎_elim (λ (f : u ≡ a). subst Q (sym f) (mine (all id v r.there))) (λ (f : u ≡ b). subst Q (sym f) new) n)
      (r.back j u e)

  idle_new : (u : View) → (u ≡ a) ⊎ (u ≡ b) → IsIdle u
  idle_new u n = ⊎_elim (λ (f : u ≡ a). subst IsIdle (sym f) r.idle_a) (λ (f : u ≡ b). subst IsIdle (sym f) idle_b) n

  -- a view that does something is an old one, and stays
  busy_back : (j : ℕ) (u : View) → get_elem? us j ≡ some u → (IsIdle u → ⊥) → get_elem? vs j ≡ some u
  busy_back j u e busy = ⊎_elim (λ (at : get_elem? vs j ≡ some u). at) (λ (n : (u ≡ a) ⊎ (u ≡ b)). absurd (busy (idle_new u n)))
      (r.back j u e)

  busy_forth : (j : ℕ) (u : View) → get_elem? vs j ≡ some u → (IsIdle u → ⊥) → get_elem? us j ≡ some u
  busy_forth j u e busy = ⊎_elim (λ (at : get_elem? us j ≡ some u). at) (λ (idle : IsIdle u). absurd (busy idle)) (r.forth j u e)

  inside_back : (j : ℕ) (u : View) (section : Section) → get_elem? us j ≡ some u → u.section ≡ Some section → get_elem? vs j ≡ some u
  inside_back j u section e is = busy_back j u e (idle_section u section is)

  -- what a view has that does something, some view has still
  busy_still : {P : View → Type 0} → ((u : View) → P u → IsIdle u → ⊥) → Somewhere vs P → Somewhere us P
  busy_still busy s = record { id = s.id; view = s.view; there = busy_forth s.id s.view s.there (busy s.view s.has); has = s.has }

  pending_forth : (move : Move) → IsPending vs move → IsPending us move
  pending_forth move p = busy_still (λ u is. idle_move u move is) p

  holder_forth : (s : ℕ) (lock : HeldLock) → IsHolderOf vs s lock → IsHolderOf us s lock
  holder_forth s lock i = busy_still (λ u held. idle_lock u s lock held) i

  emptied_forth : (s : ℕ) (b : Side) → IsEmptied vs s b → IsEmptied us s b
  emptied_forth s b i = busy_still (λ u (x : HasEmptied u s b). idle_lock u s x.lock x.held) i

  sections : a.section ≡ v.section
  sections = (λ n. (r.idle_a n).section) ∙ (λ n. (sym r.idle_v n).section)

  readings_a : readings_of a ≡ readings_of v
  readings_a = λ n. open_reading (sections n) ++ (r.rest n).records

  readings_b : readings_of b ≡ []
  readings_b = λ n. open_reading (r.bare n).is_doing.section ++ (r.bare n).left.records

  clear_forth : (at low high : ℕ) → IsClear vs at low high → IsClear us at low high
  clear_forth at low high c j u section e is = c j u section (inside_back j u section e is) is

  locks_regroup : (m : Memory) (n : ℕ) (g : Chart) → LockParts m n g vs → LockParts m n g us
  locks_regroup m n g t = record {
    locked = record {
      held = each_regroup (λ (u : View). (s : ℕ) (lock : HeldLock) → lock_of u.locks s ≡ Some lock
          → (m (Lock s) ≡ u.allowance.place + 1) × (s < n))
          (λ (u : View). (s : ℕ) (lock : HeldLock) → lock_of u.locks s ≡ Some lock → (m (Lock s) ≡ u.allowance.place + 1) × (s < n))
          (λ u i. i) (λ i s lock e. absurd (idle_lock a s lock e r.idle_a))
          (λ s lock e. absurd (idle_lock b s lock e idle_b)) t.locked.held;
      named = λ s lt ne. (let x = t.locked.named s lt ne in (x.0, holder_forth s x.0 x.1));
    };
    few = each_regroup HasFewLocks HasFewLocks (λ u i. i) (λ i. idle_few a r.idle_a) (idle_few b idle_b) t.few;
    kept = each_regroup (λ (u : View). (s : ℕ) (lock : HeldLock) → lock_of u.locks s ≡ Some lock → IsLockKept m g u s lock)
        (λ (u : View). (s : ℕ) (lock : HeldLock) → lock_of u.locks s ≡ Some lock → IsLockKept m g u s lock)
        (λ u i. i) (λ i s lock e. absurd (idle_lock a s lock e r.idle_a)) (λ s lock e. absurd (idle_lock b s lock e idle_b)) t.kept;
    marked = λ s l o. (let x = t.marked s l o in (x.0, holder_forth s x.0 x.1, x.2));
    known = each_regroup (λ (u : View). (s : ℕ) (lock : HeldLock) → lock_of u.locks s ≡ Some lock → IsLockKnown m u s lock)
        (λ (u : View). (s : ℕ) (lock : HeldLock) → lock_of u.locks s ≡ Some lock → IsLockKnown m u s lock)
        (λ u i. i) (λ i s lock e. absurd (idle_lock a s lock e r.idle_a)) (λ s lock e. absurd (idle_lock b s lock e idle_b)) t.known;
    readings = each_regroup (λ (u : View). Each (readings_of u) (IsReadingKept m g))
        (λ (u : View). Each (readings_of u) (IsReadingKept m g))
        (λ u i. i) (λ i. subst (λ rs. Each rs (IsReadingKept m g)) (sym readings_a) i)
        (each_empty (IsReadingKept m g) (readings_of b) readings_b) t.readings;
  }

  moves_regroup : SameMoves vs us
  moves_regroup = record {
    forth = λ x p. (x, pending_forth x p, same_form x);
    back = λ j u x e is. record { view = u; before = x; stands = busy_back j u e (idle_move u x is); has_it = is; form = same_form x };
  }

  tree_regroup : (m : Memory) (n : ℕ) (g : Chart) (h : List Mark) → TreeParts m n g vs h → TreeParts m n g us h
  tree_regroup m n g h t = tree_by m m n g vs us h h (same_slots m).nodes (silent_same h) moves_regroup
      (each_regroup (λ (u : View). (move : Move) → u.moving ≡ Some move → IsMoving m g h u move)
      (λ (u : View). (move : Move) → u.moving ≡ Some move → IsMoving m g h u move)
      (λ u i. i) (λ i move is. absurd (idle_move a move is r.idle_a)) (λ move is. absurd (idle_move b move is idle_b)) t.moves.each) t

  module _ (m : Memory) (g : Chart) (h : List Mark) where
    see : ReadersSee vs us
    see = see_by vs us moves_regroup emptied_forth

    readers_regroup : ReaderParts m g vs h → ReaderParts m g us h
    readers_regroup t = record {
      readings = each_regroup (λ (u : View). Each (readings_of u) IsReading) (λ (u : View). Each (readings_of u) IsReading) (λ u i. i)
          (λ i. subst (λ rs. Each rs IsReading) (sym readings_a) i) (each_empty IsReading (readings_of b) readings_b) t.readings;
      served = each_regroup (λ (u : View). (section : Section) → u.section ≡ Some section → IsServed m g h vs section)
          (λ (u : View). (section : Section) → u.section ≡ Some section → IsServed m g h us section)
          (λ u i section is. served_by m m (same_slots m).nodes g vs us h h (silent_same h) see section (i section is))
          (λ i section is. absurd (idle_section a section is r.idle_a))
          (λ section is. absurd (idle_section b section is idle_b)) t.served;
      records = each_regroup (λ (u : View). Each u.records (IsRecord m g vs)) (λ (u : View). Each u.records (IsRecord m g us))
          (λ u i j x e. record_by m m (same_slots m).nodes g vs us h h (silent_same h) see x (i j x e))
          (λ i. subst (λ (z : Remains). Each z.records (IsRecord m g us)) (sym r.rest)
          (λ j x e. record_by m m (same_slots m).nodes g vs us h h (silent_same h) see x (i j x e)))
          (each_empty (IsRecord m g us) b.records (λ n. (r.bare n).left.records)) t.records;
      ages = λ s at c side gone met link ne. t.ages s at c side gone (record {
        id = met.id;
        view = met.view;
        there = inside_back met.id met.view met.has.section met.there met.has.is_open;
        has = met.has;
      }) link ne;
    }

    odd_regroup : (n : ℕ) → IsOddBy m vs n → IsOddBy m us n
    odd_regroup n i = record {
      id = i.id;
      view = i.view;
      there = busy_forth i.id i.view i.there (idle_turn i.view i.has.commit i.has.has);
      has = i.has;
      alone = λ j u other e. ⊎_elim (λ (at : get_elem? vs j ≡ some u). i.alone j u other at)
          (λ (x : (u ≡ a) ⊎ (u ≡ b)). (λ n. (idle_new u x n).commit)) (r.back j u e);
    }

    front_regroup : FrontParts m vs h → FrontParts m us h
    front_regroup t = record {
      turned = ⊎_elim
          (λ (i : (m Front ≡ 2 * length (updates_of h) + m Moved) × Each vs (λ (u : View). u.commit ≡ None)). inl (
            i.0,
            each_regroup (λ (u : View). u.commit ≡ None) (λ (u : View). u.commit ≡ None) (λ u e. e)
                (λ e. (λ n. (r.idle_a n).commit)) (λ n. (idle_b n).commit) i.1,
          ))
          (λ (i : IsOddHere m vs (length (updates_of h))). inr (record { here = i.here; odd = odd_regroup (length (updates_of h)) i.odd }))
          t.turned;
      last = t.last;
      settled = each_regroup (λ (u : View). (x : Commit) → u.commit ≡ Some x → x.stored ≡ false → u.moving ≡ None)
          (λ (u : View). (x : Commit) → u.commit ≡ Some x → x.stored ≡ false → u.moving ≡ None)
          (λ u i. i) (λ i x is unmade. (λ n. (r.idle_a n).moving)) (λ x is unmade. (λ n. (idle_b n).moving)) t.settled;
      legal = t.legal;
    }

    listings_regroup : ListingParts m g vs h → ListingParts m g us h
    listings_regroup t = record {
      listings = each_regroup (λ (u : View). (section : Section) (listing : Listing) → u.section ≡ Some section
          → section.listing ≡ Some listing → IsListing m g h section listing)
          (λ (u : View). (section : Section) (listing : Listing) → u.section ≡ Some section → section.listing ≡ Some listing
          → IsListing m g h section listing)
          (λ u i. i) (λ i section listing is. absurd (idle_section a section is r.idle_a))
          (λ section listing is. absurd (idle_section b section is idle_b)) t.listings;
    }

    stays : (p : ℕ) → StaysNoted vs us h h p
    stays p = record {
      grow = λ after low high x. x;
      shrink = λ after low high x. x;
      clear = λ after low high small. clear_forth after low high;
    }

    spent_regroup : (ss : List Spent) → Each ss (λ (s : Spent). Each s.retired (IsWaitedRetired vs h s.place))
        → Each ss (λ (s : Spent). Each s.retired (IsWaitedRetired us h s.place))
    spent_regroup ss all n s e j x f = retired_stays vs us h h s.place (stays s.place) x (all n s e j x f)

    grace_regroup : Each a.allowance.joined (λ (s : Spent). Each s.retired (IsWaitedRetired vs h s.place)) → GraceParts vs h
        → GraceParts us h
    grace_regroup joined t = record {
      grace = t.grace;
      reuse = t.reuse;
      clean = λ s at gone last. clear_forth at 0 greatest_key (t.clean s at gone last);
      retired = each_regroup (λ (u : View). Each u.hands.retired (IsWaitedRetired vs h u.allowance.place))
          (λ (u : View). Each u.hands.retired (IsWaitedRetired us h u.allowance.place))
          (λ u i j x e. retired_stays vs us h h u.allowance.place (stays u.allowance.place) x (i j x e))
          (λ i. subst (λ (z : Remains). Each z.retired (IsWaitedRetired us h z.place)) (sym r.rest)
          (λ j x e. retired_stays vs us h h v.allowance.place (stays v.allowance.place) x (i j x e)))
          (each_empty (IsWaitedRetired us h b.allowance.place) b.hands.retired (λ n. (r.bare n).left.retired)) t.retired;
      joined = each_regroup (λ (u : View). Each u.allowance.joined (λ (s : Spent). Each s.retired (IsWaitedRetired vs h s.place)))
          (λ (u : View). Each u.allowance.joined (λ (s : Spent). Each s.retired (IsWaitedRetired us h s.place)))
          (λ u i. spent_regroup u.allowance.joined i) (λ i. spent_regroup a.allowance.joined joined)
          (each_empty (λ (s : Spent). Each s.retired (IsWaitedRetired us h s.place)) b.allowance.joined
          (λ n. (r.bare n).joined)) t.joined;
      moves = each_regroup (λ (u : View). (move : Move) → u.moving ≡ Some move → IsWaitedMove vs h u.allowance.place move)
          (λ (u : View). (move : Move) → u.moving ≡ Some move → IsWaitedMove us h u.allowance.place move)
          (λ u i move is. move_stays vs us h h u.allowance.place (stays u.allowance.place) move (i move is))
          (λ i move is. absurd (idle_move a move is r.idle_a)) (λ move is. absurd (idle_move b move is idle_b)) t.moves;
    }

  -- a view that had the wait
  record HadWait (wait : Waiting) : Type 0 where
    pub at : ℕ
    pub view : View
    pub there : get_elem? vs at ≡ some view
    pub waits : view.wait ≡ Some wait

  wait_was : (j : ℕ) (u : View) (wait : Waiting) → get_elem? us j ≡ some u → u.wait ≡ Some wait → HadWait wait
  wait_was j u wait e is =
      ⊎_elim (λ (at : get_elem? vs j ≡ some u). record { at = j; view = u; there = at; waits = is })
      (λ (n : (u ≡ a) ⊎ (u ≡ b)). ⊎_elim
      (λ (f : u ≡ a). (let waits = (λ n. (sym r.rest n).wait) ∙ ap (λ (z : View). z.wait) (sym f) ∙ is in
      record { at = id; view = v; there = r.there; waits = waits }))
      (λ (f : u ≡ b). absurd (let q : None ≡ Some wait = (λ n. (sym r.bare n).left.wait) ∙ ap (λ (z : View). z.wait) (sym f) ∙ is in cc)) n)
      (r.back j u e)

  waiters_regroup : (k : Shape) (m : Memory) (h : List Mark) → SameSums vs us → WaiterParts k m vs h → WaiterParts k m us h
  waiters_regroup k m h sums t = record {
    clock = t.clock;
    clocked = each_regroup (IsClocked k.waiter h) (IsClocked k.waiter h) (λ u i. i)
        (λ i. record {
          loaded = λ clocked is. i.loaded clocked ((λ n. (sym r.rest n).enter.clock) ∙ is);
          stamped = λ section is. absurd (idle_section a section is r.idle_a);
        })
        (record {
          loaded = λ clocked is. absurd (let q : None ≡ Some clocked = (λ n. (sym r.bare n).left.enter.clock) ∙ is in cc);
          stamped = λ section is. absurd (idle_section b section is idle_b);
        }) t.clocked;
    excused = λ i j x y wait section ei waits going ej inside older holds spot. (let z = wait_was i x wait ei waits in
        t.excused z.at j z.view y wait section z.there z.waits going (inside_back j y section ej inside) inside older holds spot);
    turned = λ j u e wait is. (let z = wait_was j u wait e is in t.turned z.at z.view z.there wait z.waits);
    eer = λ way. (let e = t.eer way in record {
      inside = λ j u at section is. e.inside j u (inside_back j u section at is) section is;
      outside = e.outside;
      announced = each_regroup (λ (u : View). (key : ℕ) → u.enter.announced ≡ Some key → m (Announced u.allowance.place) ≡ key)
          (λ (u : View). (key : ℕ) → u.enter.announced ≡ Some key → m (Announced u.allowance.place) ≡ key) (λ u i. i)
          (λ i key is. (λ n. m (Announced (r.rest n).place)) ∙ i key ((λ n. (sym r.rest n).enter.announced) ∙ is))
          (λ key is. absurd (let q : None ≡ Some key = (λ n. (sym r.bare n).left.enter.announced) ∙ is in cc)) e.announced;
    });
    domain = λ way. (let e = t.domain way in record {
      counts = λ c side small low. e.counts c side small low ∙ sym (sums.inside c side);
      sides = λ j u at section is. e.sides j u (inside_back j u section at is) section is;
    });
    deer = λ way. (let e = t.deer way in record {
      inside = λ j u at section is. e.inside j u (inside_back j u section at is) section is;
      outside = e.outside;
    });
  }

  counts_regroup : (tickets : ℕ) (m : Memory) (n : ℕ) (g : Chart) (h : List Mark) → SameSums vs us → CountParts tickets m n g vs h
      → CountParts tickets m n g us h
  counts_regroup tickets m n g h sums t =
      let a = t.free in
      let b = t.clock in
      let c = t.generations in
      let d = t.tags in
      let e = t.turns in
      let tickets_same = sums.tickets in
      let reserved = sums.reserved in
      let owes = sums.owes in
      let unraised = sums.unraised in
      let emptied = sums.emptied in
      let pending = sums.pending in
      let turns = sums.turns in
      record {
        free = omega arith;
        clock = omega arith;
        generations = omega arith;
        tags = omega arith;
        turns = omega arith;
        pairs = t.pairs;
        olds = t.olds ∙ sym pending;
      }

  slots_regroup : {room : ℕ} (m : Memory) (n : ℕ) (g : Chart) (h : List Mark) → SameSums vs us → HasFewSlots room a → HasFewSlots room b
      → AreHandsKnown m a → AreHandsKnown m b → Each (retired_of a) (IsRetired m h)
      → ((s : ℕ) → IsRetiredOf vs s → IsRetiredOf us s) → SlotParts room m n g vs h → SlotParts room m n g us h
  slots_regroup {room} m n g h sums few_a few_b hands_a hands_b retired_a unlinked t = record {
    roles = record {
      once = λ s lt. ap (λ x. flag (m (State s) == 0) + flag (g.linked s) + x) (sums.slots s) ∙ t.roles.once s lt;
      beyond = λ s far. sums.slots s ∙ t.roles.beyond s far;
      states = t.roles.states;
    };
    few = each_regroup (HasFewSlots room) (HasFewSlots room) (λ u i. i) (λ i. few_a) few_b t.few;
    free = t.free;
    root = t.root;
    hands = each_regroup (AreHandsKnown m) (AreHandsKnown m) (λ u i. i) (λ i. hands_a) hands_b t.hands;
    retired = each_regroup (λ (u : View). Each (retired_of u) (IsRetired m h)) (λ (u : View). Each (retired_of u) (IsRetired m h))
        (λ u i. i) (λ i. retired_a) (each_empty (IsRetired m h) (retired_of b) retired_b) t.retired;
    unlinked = λ s p gone. unlinked s (t.unlinked s p gone);
  }

  seats_regroup : (places : ℕ) (h : List Mark) → SameSums vs us → (a.allowance.places ≡ 0 → a ≡ spent_view)
      → (b.allowance.places ≡ 0 → b ≡ spent_view) → IsOwned h a → IsOwned h b → (Works a → IsCounted h a) → (Works b → IsCounted h b)
      → SeatParts places vs h → SeatParts places us h
  seats_regroup places h sums spent_a spent_b owned_a owned_b counted_a counted_b t = record {
    placed = λ p. sums.places p ∙ t.placed p;
    spent = each_regroup (λ (u : View). u.allowance.places ≡ 0 → u ≡ spent_view) (λ (u : View). u.allowance.places ≡ 0 → u ≡ spent_view)
        (λ u i. i) (λ i. spent_a) spent_b t.spent;
    owned = each_regroup (IsOwned h) (IsOwned h) (λ u i. i) (λ i. owned_a) owned_b t.owned;
    within = t.within;
    sections = λ j u at section is. t.sections j u (inside_back j u section at is) section is;
    opened = λ p o e. busy_still (λ u (x : HasOpen u p o). idle_section u x.section x.is_open) (t.opened p o e);
    counted = each_regroup (λ (u : View). Works u → IsCounted h u) (λ (u : View). Works u → IsCounted h u) (λ u i. i)
        (λ i. counted_a) counted_b t.counted;
  }

  marks_regroup : (places : ℕ) (h : List Mark) → Works a → a.counts.waits ≡ v.counts.waits → IsPrefix a.seen h → IsPrefix b.seen h
      → HasSeenAll us h → MarkParts places vs h → MarkParts places us h
  marks_regroup places h works_a waits seen_a seen_b longest t = record {
    seen = record {
      begins = each_regroup (λ (u : View). IsPrefix u.seen h) (λ (u : View). IsPrefix u.seen h) (λ u i. i)
          (λ i. seen_a) seen_b t.seen.begins;
      longest = longest;
    };
    marks = t.marks;
    waits = each_regroup (λ (u : View). (wait : Waiting) → u.wait ≡ Some wait → WaitStands h u wait)
        (λ (u : View). (wait : Waiting) → u.wait ≡ Some wait → WaitStands h u wait) (λ u i. i)
        (λ i wait is. wait_same h v a wait (λ n. (r.rest n).place) works_a waits (i wait ((λ n. (sym r.rest n).wait) ∙ is)))
        (λ wait is. absurd (let q : None ≡ Some wait = (λ n. (sym r.bare n).left.wait) ∙ is in cc)) t.waits;
  }

  -- What a split or a join has to say of the two views.
  pub record TwoStand (k : Shape) (m : Memory) (h : List Mark) : Type 0 where
    pub sums : SameSums vs us
    pub works : Works a
    pub waits : a.counts.waits ≡ v.counts.waits
    pub seen_a : IsPrefix a.seen h
    pub seen_b : IsPrefix b.seen h
    pub longest : HasSeenAll us h
    pub spent_b : b.allowance.places ≡ 0 → b ≡ spent_view
    pub owned_a : IsOwned h a
    pub owned_b : IsOwned h b
    pub counted_a : Works a → IsCounted h a
    pub counted_b : Works b → IsCounted h b
    pub few_a : HasFewSlots k.room a
    pub few_b : HasFewSlots k.room b
    pub hands_a : AreHandsKnown m a
    pub hands_b : AreHandsKnown m b
    pub retired_a : Each (retired_of a) (IsRetired m h)
    pub unlinked : (s : ℕ) → IsRetiredOf vs s → IsRetiredOf us s
    pub joined : Each a.allowance.joined (λ (s : Spent). Each s.retired (IsWaitedRetired vs h s.place))

  pub regroup_law : (k : Shape) (m : Memory) (h : List Mark) → TwoStand k m h → HoldsNow k m vs h → HoldsNow k m us h
  regroup_law k m h two i =
      whole k m i.chart us h i.table
      (record {
        slots = slots_regroup m
            (slot_count k) i.chart h two.sums two.few_a two.few_b two.hands_a two.hands_b two.retired_a two.unlinked i.slots;
        locks = locks_regroup m (slot_count k) i.chart i.locks;
        tree = tree_regroup m (slot_count k) i.chart h i.tree;
        readers = readers_regroup m i.chart h i.readers;
      })
      (record {
        marks = marks_regroup k.places h two.works two.waits two.seen_a two.seen_b two.longest i.marks;
        seats = seats_regroup k.places h two.sums (λ none. absurd
            (let some_place = two.works in omega arith)) two.spent_b two.owned_a two.owned_b two.counted_a two.counted_b i.seats;
        grace = grace_regroup m i.chart h two.joined i.grace;
      })
      (waiters_regroup k m h two.sums i.waiters) (counts_regroup k.tickets m (slot_count k) i.chart h two.sums i.counts)
      (front_regroup m i.chart h i.front) (listings_regroup m i.chart h i.listings)
