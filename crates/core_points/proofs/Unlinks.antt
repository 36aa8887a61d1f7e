-- The points at which a delete unlinks a slot: by a bypass, and at the end of a move.
use Rattle.std.proofs.Common.{◌≡◌, ◌≢◌, ℕ, suc, ◌+◌, ◌*◌, ◌==◌, cond, Bool, true, false, List, [], ◌∷◌, ◌++◌, length, map, Some, None, refl, sym, ap, subst, ◌∙◌, inl, ⊎_elim, arith, ◌≤◌, Option, inr}
use mathlib.Core.Option.{some}
use lib.ListN.{get_elem?}
use Rattle.prcu_marks.specs.declared.mark.Mark.{Mark}
use Rattle.prcu_marks.specs.declared.mark.Side.{Side}
use Rattle.prcu_marks.specs.declared.mark.Side.TheVariants.{Left, Right}
use Rattle.core_state.specs.declared.shape.Shape.{Shape}
use Rattle.core_state.specs.declared.words.Field.{Field}
use Rattle.core_state.specs.declared.words.Field.TheVariants.{Life, Link, Tag}
use Rattle.core_state.specs.declared.view.HeldLock.{HeldLock}
use Rattle.core_state.specs.declared.view.Known.{Known}
use Rattle.core_state.specs.declared.view.Reading.{Reading}
use Rattle.core_state.specs.declared.view.Retired.{Retired}
use Rattle.core_state.specs.declared.view.View.{View}
use Rattle.list_laws.specs.Counts.{Each, times}
use Rattle.list_laws.proofs.Lists.{at_end}
use Rattle.core_state.specs.Views.{known_in, loaded_in, lock_of, change_lock, note_lock, noting, with_emptied, note_held, note_moving, note_option}
use Rattle.core_state.specs.Links.{FewChildren, IsMarkedNode, NodeRecords, after_bypass, newly_retired, relinked, with_mark, NeedsUnlinkOld, after_unlink_old, IsEndOf}
use Rattle.core_laws.proofs.Acting.{commit_is, may_update}
use Rattle.core_points.specs.declared.stage.Node.{Node}
use Rattle.core_points.specs.Programs.{Needs, view_after, Own, key_now, act_at, after, go, move_locks, target_lock}
use Rattle.core_points.specs.Facts.{stored_at, read_at, Owns, Settled}
use Rattle.core_points.specs.DeleteFacts.{ClearButMark, Holds, HoldsFew, HoldsNode, IsMarked, IsUnmarked, Relinked, under, IsMove, Shifting, first_locks, move_parent, two_children}
use Rattle.core_points.specs.Fits.{IsGiven, GoesOn, Fits}
use Rattle.core_points.proofs.Locks.{clear_marked, clear_stored, clear_emptied, clear_noted, emptied_lock, relinked_slots, under_flag, loaded_more, under_other, held_still, known_now}
use Rattle.core_points.proofs.Notes.{fits, settled_noted, owns_relocked, owns_noted, owns_retired, quiet_turned, quiet_unlocking, owns_locked}
use Rattle.core_points.proofs.Links.{made_even}
use Rattle.core_points.proofs.DeleteSearches.{delete_owed}
use Rattle.core_laws.proofs.Locks.{loaded_known, lock_under, change_here, slots_change, under_lock, note_side, emptied_slot}
use Rattle.core_laws.proofs.LockSteps.{known_here, note_held-slot}
use Rattle.core_state.specs.Acts.{said}
use Rattle.core_points.specs.declared.stage.Moving.{Moving}
use Rattle.core_points.specs.declared.stage.Stage.{Stage}
use Rattle.core_state.specs.declared.act.Act.TheVariants.{UnlinkLeft, UnlinkRight}
use Rattle.core_points.specs.declared.stage.Last.TheVariants as last
use Rattle.core_points.specs.declared.stage.Stage.TheVariants as at
use Rattle.core_points.specs.declared.stage.Update.TheVariants as update
use Rattle.core_state.specs.declared.view.Move as moves

-- The points of a delete of a node with at most one child: what each step needs is known, and what the next point needs is known after it.

-- a slot under whose lock something was loaded is locked
pub held_by_load : (v : View) (s : ℕ) (field : Field) (x : ℕ) → loaded_in (under v.locks s) field ≡ Some x
    → (lock : HeldLock) × (lock_of v.locks s ≡ Some lock) × (known_in lock.known field ≡ Some x)
held_by_load v s field x e = lock_under v s field x (loaded_known (under v.locks s) field x e)

-- The facts of this crate in the words of the steps.
pub node_records : (v : View) (r : Reading) (d : Node) → HoldsNode v.records v.locks r d
    → NodeRecords v r d.parent d.side d.node d.left d.right
node_records v r d holds = record {
  kept = holds.kept;
  found = holds.found;
  parent_now = (d.parent_generation, holds.parent_recorded, holds.parent_life);
  link_now = holds.link;
  left_now = holds.left;
  right_now = holds.right;
}

pub few_children : (v : View) (r : Reading) (d : Node) → HoldsNode v.records v.locks r d → HoldsFew r d
    → FewChildren v r d.parent d.side d.node d.left d.right
few_children v r d holds few = record { records = node_records v r d holds; few = few.few; had = few.had }

pub marked_node : (v : View) (r : Reading) (d : Node) → HoldsNode v.records v.locks r d → IsMarked v.locks d → IsMarkedNode v r d.node
marked_node v r d holds m = record {
  generation = d.generation;
  lock = m.lock;
  recorded = holds.recorded;
  locked = m.locked;
  marked = m.marked;
  life = m.life;
}

-- what was loaded under a lock is still known
abbrev pub KeepsLife : List HeldLock → List HeldLock → ℕ → Type 0
KeepsLife ls ls' t = (x : ℕ) → loaded_in (under ls t) (Life t) ≡ Some x → loaded_in (under ls' t) (Life t) ≡ Some x

abbrev pub KeepsLinks : List HeldLock → List HeldLock → ℕ → Type 0
KeepsLinks ls ls' t = (b : Side) (x : ℕ) → loaded_in (under ls t) (Link t b) ≡ Some x → loaded_in (under ls' t) (Link t b) ≡ Some x

pub life_same : (ls ls' : List HeldLock) (t : ℕ) → under ls' t ≡ under ls t → KeepsLife ls ls' t
life_same ls ls' t same x e = ap (λ ks. loaded_in ks (Life t)) same ∙ e

pub links_same : (ls ls' : List HeldLock) (t : ℕ) → under ls' t ≡ under ls t → KeepsLinks ls ls' t
links_same ls ls' t same b x e = ap (λ ks. loaded_in ks (Link t b)) same ∙ e

pub node_to : (records : List Reading) (ls ls' : List HeldLock) (r : Reading) (d : Node) → KeepsLife ls ls' d.parent
    → KeepsLinks ls ls' d.parent → KeepsLinks ls ls' d.node
    → HoldsNode records ls r d → HoldsNode records ls' r d
node_to records ls ls' r d life parent links holds = record {
  kept = holds.kept;
  found = holds.found;
  apart = holds.apart;
  parent_recorded = holds.parent_recorded;
  recorded = holds.recorded;
  parent_life = life (2 * d.parent_generation) holds.parent_life;
  link = parent d.side d.node holds.link;
  left = links Left d.left holds.left;
  right = links Right d.right holds.right;
}

-- The locks after a node was marked.
pub under_marked : (ls : List HeldLock) (d : Node) (t : ℕ) → t ≢ d.node
    → under (change_lock d.node (with_mark true) (change_lock d.node (note_lock (stored_at (Life d.node) (2 * d.generation + 1))) ls)) t
    ≡ under ls t
under_marked ls d t ne =
    under_flag (change_lock d.node (note_lock (stored_at (Life d.node) (2 * d.generation + 1))) ls) d.node (with_mark true) (λ l. refl)
    (λ l. refl) t
    ∙ under_other ls d.node (note_lock (stored_at (Life d.node) (2 * d.generation + 1))) (λ l. refl) t ne

pub node_marked : (records : List Reading) (ls : List HeldLock) (r : Reading) (d : Node) → HoldsNode records ls r d
    → HoldsNode records (change_lock d.node (with_mark true)
    (change_lock d.node (note_lock (stored_at (Life d.node) (2 * d.generation + 1))) ls)) r d
node_marked records ls r d holds =
    let kn : Known = stored_at (Life d.node) (2 * d.generation + 1) in
    let now : List HeldLock = change_lock d.node (with_mark true) (change_lock d.node (note_lock kn) ls) in
    node_to records ls now r d
    (life_same ls now d.parent (under_marked ls d d.parent holds.apart))
    (links_same ls now d.parent (under_marked ls d d.parent holds.apart))
    (λ b x e. ap (λ ks. loaded_in ks (Link d.node b))
    (under_flag (change_lock d.node (note_lock kn) ls) d.node (with_mark true) (λ l. refl) (λ l. refl) d.node)
    ∙ loaded_more ls d.node kn d.node (Link d.node b) x refl e)
    holds

pub is_marked : (v : View) (d : Node) → IsUnmarked v.locks d
    → IsMarked (change_lock d.node (with_mark true)
    (change_lock d.node (note_lock (stored_at (Life d.node) (2 * d.generation + 1))) v.locks)) d
is_marked v d unmarked =
    let kn : Known = stored_at (Life d.node) (2 * d.generation + 1) in
    let held = held_by_load v d.node (Life d.node) (2 * d.generation) unmarked in
    record {
      lock = with_mark true (note_lock kn held.0);
      locked = change_here d.node (with_mark true) (λ l. refl) (change_lock d.node (note_lock kn) v.locks) (note_lock kn held.0)
          (change_here d.node (note_lock kn) (λ l. refl) v.locks held.0 held.1);
      marked = refl;
      life = known_here (held.0).known (Life d.node) (2 * d.generation + 1) true;
    }

-- One retired slot more.
pub slots_push : (rs : List Retired) (r : Retired)
    → map (λ (r : Retired). r.slot) (rs ++ r ∷ []) ≡ map (λ (r : Retired). r.slot) rs ++ r.slot ∷ []
slots_push [] r = refl
slots_push (x ∷ rs) r = ap (λ xs. x.slot ∷ xs) (slots_push rs r)

pub same_length : (rs : List Retired) (slots : List ℕ) → map (λ (r : Retired). r.slot) rs ≡ slots → length rs ≡ length slots
same_length rs slots e = count rs ∙ ap (λ (xs : List ℕ). length xs) e
  where
    count : (rs : List Retired) → length rs ≡ length (map (λ (r : Retired). r.slot) rs)
    count [] = refl
    count (r ∷ rs) = ap suc (count rs)

pub unraised_push : (rs : List Retired) (r : Retired) → r.raised ≡ false → Each rs (λ (r : Retired). r.raised ≡ false)
    → Each (rs ++ r ∷ []) (λ (r : Retired). r.raised ≡ false)
unraised_push rs r new each i x e = ⊎_elim (λ (old : get_elem? rs i ≡ some x). each i x old)
    (λ here. ap (λ (y : Retired). y.raised) (sym here.1) ∙ new) (at_end rs r x i e)

module _ (k : Shape) (h : List Mark) (o : Own) (v : View) (n : ℕ) where
  -- the mark
  pub needs_mark : (d : Node) (child : ℕ) → IsGiven k o v n (at.Mark d child)
  needs_mark d child f =
      let p = f.point in
      let few = p.few in
      let r : Reading = few.0 in
      let held = held_by_load v d.node (Life d.node) (2 * d.generation) p.unmarked in
      record {
        lock = held.0;
        locked = held.1;
        life_now = held.2;
        unmarked = omega arith;
        why = inl (record {
          reading = r;
          parent = d.parent;
          left = d.left;
          right = d.right;
          side = d.side;
          unmarked = (d.generation, (few.2).recorded, p.unmarked);
          children = inl (few_children v r d few.2 few.3);
        });
      }

  pub next_mark : (d : Node) (child : ℕ) → GoesOn h o v n (at.Mark d child)
  next_mark d child f =
      let p = f.point in
      let few = p.few in
      let kn : Known = stored_at (Life d.node) (2 * d.generation + 1) in
      let owns = owns_noted o v d.node (Life d.node) (2 * d.generation + 1) true f.owns in
      fits (owns_relocked o (noting v d.node (Life d.node) (2 * d.generation + 1) true) _ (slots_change d.node (with_mark true)
      (λ l. refl) (change_lock d.node (note_lock kn) v.locks)) owns) (f.unraised refl)
      (let t = f.tickets in let two = delete_owed o.op o.hand o.retired (p.deleting).0 in omega arith) (
        record {
          quiet = settled_noted o v d.node (Life d.node) (2 * d.generation + 1) true None p.quiet;
          deleting = p.deleting;
          has_locks = p.has_locks;
          few = (few.0, few.1, node_marked v.records v.locks few.0 d few.2, few.3);
          marked = is_marked v d p.unmarked;
          clear = clear_marked kn d.node v.locks p.clear;
          child_is = p.child_is;
        },
        made_even o.front,
      )

  -- the store
  pub needs_bypass : (d : Node) (child front : ℕ) → k.room ≡ o.room → 16 ≤ o.room → IsGiven k o v n (at.Store (update.Bypass d child) front)
  needs_bypass d child front room some_room f =
      let p = f.point in
      let few = p.few in
      let r : Reading = few.0 in
      record {
        has_commit = may_update v (p.quiet).turn_is (let t = f.tickets in omega arith);
        room = (let few = ((p.deleting).1).room (p.deleting).0 in
            let long = same_length v.hands.retired o.retired f.owns.retired_are in omega arith);
        reading = r;
        sought = few.1;
        left = d.left;
        right = d.right;
        records = few_children v r d few.2 few.3;
        marked = marked_node v r d few.2 p.marked;
        child_is = p.child_is;
      }

  pub next_bypass : (d : Node) (child front : ℕ) → GoesOn h o v n (at.Store (update.Bypass d child) front)
  next_bypass d child front f =
      let p = f.point in
      let few = p.few in
      let kn : Known = stored_at (Link d.parent d.side) child in
      let o' : Own = after o n (at.Store (update.Bypass d child) front) in
      let held = held_by_load v d.parent (Life d.parent) (2 * d.parent_generation) ((few.2).parent_life) in
      let noted : View = noting v d.parent (Link d.parent d.side) child true in
      let owns = owns_noted o v d.parent (Link d.parent d.side) child true f.owns in
      let q = settled_noted o v d.parent (Link d.parent d.side) child true (Some (record { found = front; stored = false })) p.quiet in
      subst (λ x. Fits o' o'.stage (after_bypass v x d.parent d.side d.node child (key_now o) h)) (sym (commit_is v _ (p.quiet).turn_is))
      (fits (owns_retired o (record noted { locks = relinked d.parent d.side child d.node noted.locks })
      (owns_relocked o noted _ (relinked_slots d.parent d.side child d.node (change_lock d.parent (note_lock kn) v.locks)) owns) _ _
      (slots_push v.hands.retired (newly_retired v d.node (length h + 1)) ∙ ap (λ xs. xs ++ d.node ∷ []) f.owns.retired_are))
      (unraised_push v.hands.retired (newly_retired v d.node (length h + 1)) refl (f.unraised refl)) (let t = f.tickets in omega arith)
      (quiet_turned refl q, p.has_locks, by (child == 0) refl (held.0, held.1) p.clear, (p.deleting).0))
    where
      kn : Known
      kn = stored_at (Link d.parent d.side) child

      by : (z : Bool) → (child == 0) ≡ z → Holds v.locks d.parent → ClearButMark v.locks d.node
          → Relinked z (change_lock d.node (with_mark false)
          (cond z (change_lock d.parent (with_emptied d.side true) (change_lock d.parent (note_lock kn) v.locks))
          (change_lock d.parent (note_lock kn) v.locks))) d.parent d.side
      by true e held clear = let l = emptied_lock kn d.parent d.node d.side v.locks held in
          record { lock = l.0; locked = l.1; emptied = l.2; clear = clear_emptied kn d.parent d.node d.side v.locks clear; known = tt }
      by false e held clear = clear_stored kn d.parent d.node v.locks clear

  -- the tag of a side that was emptied
  pub needs_empty_tag : (number s : ℕ) (b : Side) → IsGiven k o v n (at.EmptyTag number s b)
  needs_empty_tag number s b f = let e = (f.point).2 in record { held = (e.lock, e.locked); loadable = refl }

  pub next_empty_tag : (number s : ℕ) (b : Side) → GoesOn h o v n (at.EmptyTag number s b)
  next_empty_tag number s b f =
      let p = f.point in
      let e = p.2 in
      let kn : Known = read_at (Tag s b) n in fits (owns_noted o v s (Tag s b) n false f.owns) (f.unraised refl) f.tickets (
        settled_noted o v s (Tag s b) n false None p.0,
        p.1,
        record {
          lock = note_lock kn e.lock;
          locked = change_here s (note_lock kn) (λ l. refl) v.locks e.lock e.locked;
          emptied = note_side kn b e.lock ∙ e.emptied;
          clear = clear_noted kn s b v.locks e.clear;
          known = known_here (e.lock).known (Tag s b) n false;
        },
        p.3,
      )

  pub needs_empty_raise : (number s : ℕ) (b : Side) (tag : ℕ) → IsGiven k o v n (at.EmptyRaise number s b tag)
  needs_empty_raise number s b tag f =
      let e = (f.point).2 in record { lock = e.lock; held = e.locked; emptied = e.emptied; known = e.known }

  pub next_empty_raise : (number s : ℕ) (b : Side) (tag : ℕ) → GoesOn h o v n (at.EmptyRaise number s b tag)
  next_empty_raise number s b tag f =
      let p = f.point in
      let e = p.2 in
      let kn : Known = stored_at (Tag s b) (tag + 1) in
      let owns = owns_noted o v s (Tag s b) (tag + 1) true f.owns in
      let q = settled_noted o v s (Tag s b) (tag + 1) true None p.0 in
      fits (owns_relocked o (noting v s (Tag s b) (tag + 1) true) _ (slots_change s (with_emptied b false) (emptied_slot b false)
      (change_lock s (note_lock kn) v.locks)) owns) (f.unraised refl)
      f.tickets (quiet_unlocking q q.turn_is (clear_noted kn s b v.locks e.clear) p.1, q.empty, q.no_hand, p.3)

-- The points at the end of a move: what each step needs is known, and what the next point needs is known after it.

-- a note leaves the move
move_noted : (s : ℕ) (kn : Known) (moving : Option moves.Move) (key : ℕ) (m : Moving) (waited : Bool) → IsMove moving key m waited
    → IsMove (note_moving s kn moving) key m waited
move_noted s kn moving key m waited is =
    let move : moves.Move = is.move in
    record {
      move = record move { copy = note_held s kn move.copy };
      is = ap (note_moving s kn) is.is;
      key_is = is.key_is;
      next_is = is.next_is;
      copy_is = note_held-slot s kn move.copy ∙ is.copy_is;
      old_is = is.old_is;
      parent_is = is.parent_is;
      waited_is = is.waited_is;
    }

shifting_noted : (o : Own) (v : View) (m : Moving) (waited : Bool) (s : ℕ) (field : Field) (n : ℕ) (by_store : Bool) (locks : List HeldLock)
    → ((t : ℕ) → Holds v.locks t → Holds locks t) → Shifting o v m waited None
    → Shifting o (record (noting v s field n by_store) { locks = locks }) m waited None
shifting_noted o v m waited s field n by_store locks still p =
    let kn : Known = record { field = field; number = n; stored = by_store } in
    record {
      outside = p.outside;
      turn_is = p.turn_is;
      unreserved = p.unreserved;
      paid = p.paid;
      empty = ap (note_option s kn) p.empty;
      no_hand = p.no_hand;
      move = move_noted s kn v.moving (key_now o) m waited p.move;
      locks_are = p.locks_are;
      parent_held = still (move_parent m) p.parent_held;
      apart = p.apart;
      deletes = p.deletes;
    }

-- the locks in the order in which they are given up are those that were got
module _ (m : Moving) (x : ℕ) where
  in_order : (z : Bool) → (m.successor.parent == m.node.node) ≡ z
      → times x (m.successor.slot ∷ cond z (m.copy ∷ (m.node.node ∷ (m.node.parent ∷ [])))
      (m.successor.parent ∷ (m.copy ∷ (m.node.node ∷ (m.node.parent ∷ [])))))
      ≡ times x (m.copy ∷ first_locks (two_children m.node m.successor) (cond z 3 4))
  in_order true e =
      let two : target_lock (two_children m.node m.successor) 2 ≡ m.successor.slot =
      ap (λ z. cond z m.successor.slot m.successor.parent) e in
      let same : times x (m.copy ∷ (m.successor.slot ∷ (m.node.node ∷ (m.node.parent ∷ []))))
      ≡ times x (m.copy ∷ (target_lock (two_children m.node m.successor) 2 ∷ (m.node.node ∷ (m.node.parent ∷ [])))) =
      ap (λ s. times x (m.copy ∷ (s ∷ (m.node.node ∷ (m.node.parent ∷ []))))) (sym two) in
      swap (cond (m.successor.slot == x) 1 0) (cond (m.copy == x) 1 0) (times x (m.node.node ∷ (m.node.parent ∷ []))) ∙ same
    where
      swap : (a b c : ℕ) → a + (b + c) ≡ b + (a + c)
      swap a b c = omega arith
  in_order false e =
      let two : target_lock (two_children m.node m.successor) 2 ≡ m.successor.parent =
      ap (λ z. cond z m.successor.slot m.successor.parent) e in
      let three : target_lock (two_children m.node m.successor) 3 ≡ m.successor.slot =
      ap (λ z. cond z m.successor.slot m.successor.slot) e in
      let same : times x (m.copy ∷ (m.successor.slot ∷ (m.successor.parent ∷ (m.node.node ∷ (m.node.parent ∷ [])))))
      ≡ times x (m.copy ∷ (target_lock (two_children m.node m.successor) 3
      ∷ (target_lock (two_children m.node m.successor) 2 ∷ (m.node.node ∷ (m.node.parent ∷ []))))) =
      λ i. times x (m.copy ∷ (sym three i ∷ (sym two i ∷ (m.node.node ∷ (m.node.parent ∷ []))))) in
      turn (cond (m.successor.slot == x) 1 0) (cond (m.successor.parent == x) 1 0) (cond (m.copy == x) 1 0)
      (times x (m.node.node ∷ (m.node.parent ∷ []))) ∙ same
    where
      turn : (a b c d : ℕ) → a + (b + (c + d)) ≡ c + (a + (b + d))
      turn a b c d = omega arith

module _ (k : Shape) (h : List Mark) (o : Own) (v : View) (n : ℕ) where
  -- the mark of the old successor
  pub needs_old_mark : (m : Moving) → IsGiven k o v n (at.OldMark m)
  needs_old_mark m f =
      let p = f.point in
      let is = (p.0).move in
      let old = p.1 in
      record {
        lock = old.lock;
        locked = old.locked;
        life_now = old.life;
        unmarked = omega arith;
        why = inr (inl (is.move, is.is, is.old_is));
      }

  pub next_old_mark : (m : Moving) → GoesOn h o v n (at.OldMark m)
  next_old_mark m f =
      let p = f.point in
      let old = p.1 in
      let s : ℕ = m.successor.slot in
      let number : ℕ = 2 * m.successor.generation + 1 in
      let kn : Known = stored_at (Life s) number in
      let noted : List HeldLock = change_lock s (note_lock kn) v.locks in
      let now : List HeldLock = change_lock s (with_mark true) noted in
      let owns = owns_noted o v s (Life s) number true f.owns in
      fits (owns_relocked o (noting v s (Life s) number true) _ (slots_change s (with_mark true) (λ l. refl) noted) owns) (f.unraised refl)
      f.tickets (
        shifting_noted o v m true s (Life s) number true now
            (λ t has. held_still noted s (with_mark true) (λ l. refl) t (held_still v.locks s (note_lock kn) (λ l. refl) t has)) p.0,
        record {
          lock = with_mark true (note_lock kn old.lock);
          locked = change_here s (with_mark true) (λ l. refl) noted (note_lock kn old.lock)
              (change_here s (note_lock kn) (λ l. refl) v.locks old.lock old.locked);
          marked_is = refl;
          life = known_here (old.lock).known (Life s) number true;
        },
        clear_marked kn s v.locks p.2,
      )

  -- its right
  pub needs_old_right : (m : Moving) → IsGiven k o v n (at.OldRight m)
  needs_old_right m f = let old = (f.point).1 in record { held = (old.lock, old.locked); loadable = refl }

  pub next_old_right : (m : Moving) → GoesOn h o v n (at.OldRight m)
  next_old_right m f =
      let p = f.point in
      let old = p.1 in
      let s : ℕ = m.successor.slot in
      let kn : Known = read_at (Link s Right) n in
      let noted : List HeldLock = change_lock s (note_lock kn) v.locks in
      fits (owns_noted o v s (Link s Right) n false f.owns) (f.unraised refl) f.tickets (
        shifting_noted o v m true s (Link s Right) n false noted (λ t has. held_still v.locks s (note_lock kn) (λ l. refl) t has) p.0,
        record {
          lock = note_lock kn old.lock;
          locked = change_here s (note_lock kn) (λ l. refl) v.locks old.lock old.locked;
          marked_is = old.marked_is;
          life = old.life;
        },
        clear_stored kn s s v.locks p.2,
        known_now v.locks s (Link s Right) n (old.lock, old.locked),
      )

  -- the unlinking
  pub needs_unlink : (m : Moving) (child : ℕ) → IsGiven k o v n (at.Unlink m child)
  needs_unlink m child f = by (m.successor.parent == m.node.node) refl
    where
      unlinks : (parent : ℕ) (b : Side) → move_parent m ≡ parent → IsEndOf ((((f.point).0).move).move).copy.slot parent b
          → NeedsUnlinkOld v parent b m.successor.slot child
      unlinks parent b e end =
          let p = f.point in
          let is = (p.0).move in
          let old = p.1 in record {
            move = is.move;
            end = end;
            moving = is.is;
            old_is = is.old_is;
            parent_is = is.parent_is ∙ e;
            waited = is.waited_is;
            lock = old.lock;
            locked = old.locked;
            marked = old.marked_is;
            life = 2 * m.successor.generation + 1;
            life_now = old.life;
            odd = omega arith;
            right_now = under_lock v m.successor.slot old.lock (Link m.successor.slot Right) child old.locked p.3;
          }

      by : (z : Bool) → (m.successor.parent == m.node.node) ≡ z
          → Needs k v n (cond z (UnlinkRight m.copy m.successor.slot child) (UnlinkLeft m.successor.parent m.successor.slot child))
      by true e = unlinks m.copy Right (ap (λ z. cond z m.copy m.successor.parent) e) (sym (((f.point).0).move).copy_is)
      by false e = unlinks m.successor.parent Left (ap (λ z. cond z m.copy m.successor.parent) e)
          (λ same. ((f.point).0).apart (sym (same ∙ (((f.point).0).move).copy_is)))

  pub next_unlink : (m : Moving) (child : ℕ) → Fits o (at.Unlink m child) v
      → Fits (after o n (at.Unlink m child)) (after o n (at.Unlink m child)).stage
      (view_after v h (said v (act_at o (at.Unlink m child)) n) (act_at o (at.Unlink m child)))
  next_unlink m child f = by (m.successor.parent == m.node.node) refl
    where
      s : ℕ
      s = m.successor.slot

      base : Own
      base = record o { retired = o.retired ++ s ∷ []; locks = move_locks m }

      relinks : (parent : ℕ) (b : Side) → Holds v.locks parent → (z : Bool) → (child == 0) ≡ z → let kn : Known =
          stored_at (Link parent b) child in
          Relinked z (change_lock s (with_mark false)
          (cond z (change_lock parent (with_emptied b true) (change_lock parent (note_lock kn) v.locks))
          (change_lock parent (note_lock kn) v.locks))) parent b
      relinks parent b held true e = let kn : Known = stored_at (Link parent b) child in let l = emptied_lock kn parent s b v.locks held in
          record { lock = l.0; locked = l.1; emptied = l.2; clear = clear_emptied kn parent s b v.locks (f.point).2; known = tt }
      relinks parent b held false e = clear_stored (stored_at (Link parent b) child) parent s v.locks (f.point).2

      owns : (parent : ℕ) (b : Side) → Owns base (after_unlink_old v parent b s child h)
      owns parent b =
          let w = owns_noted o v parent (Link parent b) child true f.owns in
          let now = relinked_slots parent b child s (change_lock parent (note_lock (stored_at (Link parent b) child)) v.locks) in
          let noted : View = noting v parent (Link parent b) child true in
          let stored : View = record noted { locks = relinked parent b child s noted.locks } in
          owns_retired (record o { locks = move_locks m }) stored
          (owns_locked o noted w (move_locks m) stored.locks (λ x. ap (times x) now ∙ w.locks_are x ∙ ap (times x) ((f.point).0).locks_are
          ∙ sym (in_order m x (m.successor.parent == m.node.node) refl)))
          _ _ (slots_push v.hands.retired (newly_retired v s (length h)) ∙ ap (λ xs. xs ++ s ∷ []) f.owns.retired_are)

      -- no move is pending
      quiet : (parent : ℕ) (b : Side) → Settled (go base (at.Unlock (last.Gone m.number))) (after_unlink_old v parent b s child h) None
      quiet parent b = let p = (f.point).0 in record {
        outside = p.outside;
        turn_is = p.turn_is;
        settled = refl;
        unreserved = p.unreserved;
        paid = p.paid;
        empty = ap (note_option parent (stored_at (Link parent b) child)) p.empty;
        no_hand = p.no_hand;
      }

      ends : (parent : ℕ) (b : Side) → Holds v.locks parent → (z : Bool) → Relinked z (after_unlink_old v parent b s child h).locks parent b
          → let st : Stage = cond z (at.EmptyTag m.number parent b) (at.Unlock (last.Gone m.number)) in
          Fits (go base st) st (after_unlink_old v parent b s child h)
      ends parent b held true r =
          fits (owns parent b) (unraised_push v.hands.retired (newly_retired v s (length h)) refl (f.unraised refl)) f.tickets
          (quiet parent b, refl, r, ((f.point).0).deletes)
      ends parent b held false r =
          let q = quiet parent b in
          fits (owns parent b) (unraised_push v.hands.retired (newly_retired v s (length h)) refl (f.unraised refl)) f.tickets
          (quiet_unlocking q q.turn_is r refl, q.empty, q.no_hand, ((f.point).0).deletes)

      by : (z : Bool) → (m.successor.parent == m.node.node) ≡ z → let st : Stage =
          cond (child == 0) (cond z (at.EmptyTag m.number m.copy Right) (at.EmptyTag m.number m.successor.parent Left))
          (at.Unlock (last.Gone m.number)) in
          Fits (go base st) st (view_after v h (said v (cond z (UnlinkRight m.copy s child) (UnlinkLeft m.successor.parent s child)) n)
          (cond z (UnlinkRight m.copy s child) (UnlinkLeft m.successor.parent s child)))
      by true e = let held = subst (Holds v.locks) (ap (λ z. cond z m.copy m.successor.parent) e) ((f.point).0).parent_held in
          ends m.copy Right held (child == 0) (relinks m.copy Right held (child == 0) refl)
      by false e = let held = subst (Holds v.locks) (ap (λ z. cond z m.copy m.successor.parent) e) ((f.point).0).parent_held in
          ends m.successor.parent Left held (child == 0) (relinks m.successor.parent Left held (child == 0) refl)
