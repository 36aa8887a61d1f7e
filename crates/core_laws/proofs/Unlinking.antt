-- An old successor is unlinked, K26 and K27: on the chart, for listings, and the laws.
use Rattle.std.proofs.Common.{◌≡◌, ◌≢◌, ℕ, true, refl, sym, ap, ◌∙◌, arith, false, List, [], ◌∷◌, ◌++◌, Some, None, subst, ⊎_elim, append-nil, ◌<◌, ◌≤◌, ◌==◌, cond, length, set, inl, inr, eq-eqb, ne_eqb}
use Rattle.std.specs.Prelude.{Option}
use Rattle.prcu_marks.specs.declared.mark.Side.{Side}
use Rattle.prcu_marks.specs.declared.mark.Side.TheVariants.{Left, Right}
use Rattle.core_state.specs.declared.words.Field.TheVariants.{Link, Key, Value, Life}
use Rattle.core_state.specs.Memory.{Memory, IsOdd, stored, slot_count}
use Rattle.core_state.specs.Tree.{Chart, IsDisplaced, IsShaped, HoldsMap, IsHeldBack, Hangs, MayPass}
use Rattle.core_frames.proofs.TreeFrames.{pair_by}
use Rattle.core_frames.proofs.Charts.{after-node, carry_going, unlinked_going}
use Rattle.core_laws.proofs.ChartChanges.{map_after}
use Rattle.core_laws.proofs.Cutting.{Replaces, Splices, spliced, still_linked, child_linked, changes, at_node, Cut, cut_step, cut_kept, counts_without_old}
use Rattle.std.proofs.lemmas.Bool.{cases_eq}
use Rattle.prcu_marks.specs.declared.mark.Mark.{Mark}
use Rattle.prcu_marks.specs.declared.mark.Mark.TheVariants.{Unlinked}
use Rattle.prcu_model.specs.Dictionary.{map_of, WasSaid}
use Rattle.prcu_marks.specs.Marks.{updates_of}
use Rattle.prcu_marks.proofs.Marks.{updates_of-append}
use Rattle.core_state.specs.declared.view.Fact.{Fact}
use Rattle.core_state.specs.declared.view.Gap.{Gap}
use Rattle.core_state.specs.declared.view.Listing.{Listing}
use Rattle.list_laws.specs.Counts.{Each}
use Rattle.core_state.specs.Parts.{IsBetween, HasBounds, GoesOn, here, ListsNow, map_now, IsMoving}
use mathlib.Core.Option.{some}
use lib.ListN.{get_elem?}
use Rattle.core_state.specs.declared.words.Field.{Field}
use Rattle.core_state.specs.declared.view.HeldLock.{HeldLock}
use Rattle.core_state.specs.declared.view.Move.{Move}
use Rattle.core_state.specs.declared.view.Section.{Section}
use Rattle.core_state.specs.declared.view.View.{View}
use Rattle.core_state.specs.Views.{known_in, lock_of, HasLock, open_reading}
use Rattle.core_state.specs.Links.{after_unlink_old, NeedsUnlinkOld}
use Rattle.core_frames.proofs.WholeFrames.{same_for_more, Stepper, StepKeeps}
use Rattle.core_frames.specs.Laws.{IsKept}
use Rattle.list_laws.proofs.Lists.{in_second}
use Rattle.core_laws.proofs.Stores.{link_at, stores_link}
use Rattle.core_laws.proofs.Locks.{move_holder, under_lock}
use Rattle.core_laws.proofs.LinkSteps.{listings_by, held, held_gone}
use Rattle.core_frames.proofs.PlaceFrames.{front_stays, front_by}
use Rattle.core_frames.proofs.Marks.{end_more, plain_one, reuse_unlinked, marks_unlinked, unlinked_snoc}
use Rattle.std.specs.FinMap as finite

-- An old successor is unlinked: the chart without it is a shape, and holds the same map.

-- side b of slot q, which led to the old successor u, now leads to u's right, or nowhere
pub record Unlinks (m new : Memory) (g : Chart) (q : ℕ) (b : Side) (u r : ℕ) : Type 0 where
  pub replaces : Replaces m new g q b u r
  pub old : g.old u ≡ true
  pub right : m (Link u Right) ≡ r

-- no range changes
abbrev pub unlinked : Chart → ℕ → Side → ℕ → ℕ → Chart
unlinked g q b u r = spliced g q b u r (λ x. x) (λ x. x)

module _ (m new : Memory) (n : ℕ) (g : Chart) (q : ℕ) (b : Side) (u r : ℕ) (h : IsShaped m n g) (k : Unlinks m new g q b u r) where
  pub u_linked : g.linked u ≡ true
  u_linked = (h.below q u b k.replaces.parent k.replaces.link k.replaces.node).linked

  pub displaced : IsDisplaced m g u
  displaced = h.displaced u u_linked k.old

  pub splice : Splices m new n g q b u r (λ x. x) (λ x. x)
  splice = record {
    replaces = k.replaces;
    only = record { side = Right; beside = Left; apart = λ e. cc; leads = k.right; empty = displaced.left };
    after_stays = λ s l not. refl;
    key_stays = λ s l not ne. refl;
    falls = λ x. omega arith;
    grows = λ x. omega arith;
    last = refl;
    own_low = refl;
    own_high = refl;
    child_low = λ _. after-node m u k.replaces.node ∙ sym displaced.low;
    child_high = λ _. refl;
  }

  -- its pair stays the copy's
  pub unlinked_map : (map : ℕ → Option ℕ) → HoldsMap m g map → HoldsMap new (unlinked g q b u r) map
  unlinked_map map holds =
      map_after m new n g (unlinked g q b u r) q b u r (λ x. x) (λ x. x) h
      (changes m new n g q b u r (λ x. x) (λ x. x) h splice) map map holds
      (λ s l t ne o. refl)
      (λ off. absurd (let l = child_linked m new n g q b u r (λ x. x) (λ x. x) h splice in cc))
      (λ x v e. (let a = holds.complete x v e in
      let on = still_linked m new n g q b u r (λ x. x) (λ x. x) h splice a.slot a.linked in
      pair_by a (on (λ i. (let f = k.old in let j = a.young in cc (ap g.old i)))) a.young refl refl))

-- Listings where an old successor is unlinked: one that stands there goes on from its right.

module _ (m new : Memory) (n : ℕ) (g : Chart) (q : ℕ) (b : Side) (u r : ℕ) (shape : IsShaped m n g) (k : Unlinks m new g q b u r)
    (h : List Mark) (holds : HoldsMap m g (map_now h)) (copied : map_now h (m (Key u)) ≡ Some (m (Value u))) where
  abbrev to : Chart
  to = unlinked g q b u r

  splices : Splices m new n g q b u r (λ x. x) (λ x. x)
  splices = splice m new n g q b u r shape k

  abbrev h' : List Mark
  h' = h ++ Unlinked u ∷ []

  map_kept : map_now h' ≡ map_now h
  map_kept = ap (λ us y. finite.get (map_of us) y) (updates_of-append h (Unlinked u ∷ []) ∙ append-nil (updates_of h))

  bounds_kept : (bounds : Gap) (s : ℕ) → s ≢ u → HasBounds g bounds s → HasBounds to bounds s
  bounds_kept bounds s ne t = record {
    linked = still_linked m new n g q b u r (λ x. x) (λ x. x) shape splices s t.linked ne;
    low = t.low;
    high = t.high;
  }

  u_link : (a : Side) → new (Link u a) ≡ m (Link u a)
  u_link a = k.replaces.stores.link u a
      (λ e. absurd (let x = (at_node m new n g q b u r (λ x. x) (λ x. x) shape splices).rank in let y = ap g.rank e in omega arith))

  module _ (live later : ℕ → Type 0) (out : (s : ℕ) → live s → g.linked s ≡ false) (grow : (s : ℕ) → live s → later s)
      (gone : later u) where
    linked_going : (bounds : Gap) (s : ℕ) → HasBounds g bounds s → GoesOn new to later (map_now h) bounds s
    linked_going bounds s has = ⊎_elim
        (λ (e : s ≡ u). subst (GoesOn new to later (map_now h) bounds) (sym e)
        (unlinked_going m n g (map_now h) shape holds u k.replaces.node bounds (subst (HasBounds g bounds) e has) new to later gone copied
        (k.replaces.stores.key u) (k.replaces.stores.value u) u_link
        (λ a c f nz. (shape.below u c a (u_linked m new n g q b u r shape k) f nz).rank)
        (λ a c f nz below. here (bounds_kept _ c (λ e. (let w = (shape.below u c a (u_linked m new n g q b u r shape k) f nz).rank in
        let y = ap g.rank e in omega arith)) below))))
        (λ ne. here (bounds_kept bounds s ne has)) (cases_eq s u)

    off_link : (s : ℕ) (a : Side) → live s → new (Link s a) ≡ m (Link s a)
    off_link s a l = k.replaces.stores.link s a
        (λ e. absurd (let o = out s l in let on = k.replaces.parent in let f : true ≡ false = sym on ∙ ap g.linked (sym e) ∙ o in cc))

    going_kept : (bounds : Gap) (s : ℕ) → GoesOn m g live (map_now h) bounds s → GoesOn new to later (map_now h') bounds s
    going_kept bounds s goes = subst (λ map. GoesOn new to later map bounds s) (sym map_kept)
        (carry_going m new g to live later (map_now h) (record {
          linked = linked_going;
          grow = grow;
          key = λ s l. k.replaces.stores.key s;
          value = λ s l. k.replaces.stores.value s;
          link = off_link;
          rank = λ s c l known lt. lt;
        }) bounds s goes)

  pub lists_unlinked : (entered : ℕ) → ((s : ℕ) → IsHeldBack g h entered s → IsHeldBack to h' entered s) → IsHeldBack to h' entered u
      → (listing : Listing) → ListsNow m g h entered listing → ListsNow new to h' entered listing
  lists_unlinked entered grow gone listing t = record {
    facts = subst (λ map. Each listing.facts (λ (f : Fact). map f.key ≡ Some f.value)) (sym map_kept) t.facts;
    gaps = subst (λ map. Each listing.gaps (λ (gap : Gap). (y : ℕ) → IsBetween gap y → map y ≡ None)) (sym map_kept) t.gaps;
    visits = λ j v at. going_kept (IsHeldBack g h entered) (IsHeldBack to h' entered) (λ s x. x.out) grow gone v.bounds v.slot
        (t.visits j v at);
  }

-- The unlinking of an old successor after its move's wait keeps the invariant.

module _ (who : Stepper) (move : Move) (lock : HeldLock) (child : ℕ) (b : Side) (moving : who.v.moving ≡ Some move)
    (waited : move.waited ≡ true) (locked : lock_of who.v.locks move.old ≡ Some lock) (marked : lock.marked ≡ true)
    (right_now : known_in lock.known (Link move.old Right) ≡ Some child) (side : cond (move.parent == move.copy.slot) Right Left ≡ b) where
  open who use {k, m, vs, h, id, v, there, inv as i, inv.{chart as g}}
  open move use {old as u, parent as q}

  abbrev n : ℕ
  n = slot_count k

  abbrev new : Memory
  new = stored m (Link q b) child

  abbrev hs : List Mark
  hs = h ++ Unlinked u ∷ []

  abbrev w : View
  w = after_unlink_old v q b u child h

  -- the move
  is_moving : IsMoving m g h v move
  is_moving = i.tree.moves.each id v there move moving

  old_linked : g.linked u ≡ true
  old_linked = is_moving.old_linked

  node : u ≢ 0
  node z = let e = i.tree.shape.root_new in let f = is_moving.old_old in absurd (let y : true ≡ false = sym f ∙ ap g.old z ∙ e in cc)

  hangs : Hangs m g u
  hangs = i.tree.shape.hangs u old_linked node

  parent_linked : g.linked q ≡ true
  parent_linked = ap g.linked (sym is_moving.parent) ∙ hangs.above

  is_link : m (Link q b) ≡ u
  is_link = link_at m q (g.up u) b (g.side u) (sym is_moving.parent) (sym (is_moving.side ∙ side)) ∙ hangs.link

  -- what is known under its lock is so: the view keeps a record with its generation
  old_field : (field : Field) (number : ℕ) → known_in lock.known field ≡ Some number → m field ≡ number
  old_field field number e =
      let r = is_moving.recorded in
      let f : Some lock ≡ Some r.lock = sym locked ∙ r.locked in
      let same : lock ≡ r.lock = cc in
      (i.locks.known id v there u r.lock r.locked).fields r.reading r.generation number field
      (in_second (open_reading v.section) v.records r.reading r.kept) r.loaded r.same
      (ap (λ (l : HeldLock). known_in l.known field) (sym same) ∙ e)

  odd : IsOdd (m (Life u))
  odd = ((i.locks.kept id v there u lock locked).marked marked).1

  has_old : HasLock v u
  has_old = (lock, locked)

  room : length v.hands.retired < k.room
  room = let r = (i.slots.few id v there).room move moving in omega arith

  unlinks : Unlinks m new g q b u child
  unlinks = record {
    replaces = record { stores = stores_link m q b child; parent = parent_linked; link = is_link; node = node };
    old = is_moving.old_old;
    right = old_field (Link u Right) child right_now;
  }

  same_updates : updates_of hs ≡ updates_of h
  same_updates = updates_of-append h (Unlinked u ∷ []) ∙ append-nil (updates_of h)

  own_move : (other : Move) → v.moving ≡ Some other → other.old ≡ u
  own_move other is = let e : Some other ≡ Some move = sym is ∙ moving in let same : other ≡ move = cc in ap (λ (o : Move). o.old) same

  -- no reader is open that may pass the old successor
  none_pass : (j : ℕ) (y : View) (section : Section) → get_elem? vs j ≡ some y → y.section ≡ Some section
      → MayPass vs section.key section.entered u → ⊥
  none_pass j y section e is may =
      let mine : Some may.move ≡ Some move = sym (move_holder k m vs h i may.move may.pending id v u there has_old (inr (inl may.old)))
      ∙ moving in
      let same : may.move ≡ move = cc in
      (i.grace.moves id v there move moving).clear waited j y section e is
      (subst (λ (o : Move). section.entered < o.made) same may.before)
      (let a = subst (λ (o : Move). o.key < section.key) same may.low in omega arith)
      (subst (λ (o : Move). section.key ≤ o.next_key) same may.high)

  abbrev cut : Cut
  cut = record {
    who = who;
    p = q;
    b = b;
    d = u;
    c = child;
    lower = λ x. x;
    upper = λ x. x;
    w = w;
    hs = hs;
    at = length h;
    splice = splice m new n g q b u child i.tree.shape unlinks;
    odd = odd;
    has_parent = is_moving.parent_lock;
    has_node = has_old;
    knows = λ field number e. old_field field number (under_lock v u lock field number locked e);
    room = room;
    plain = plain_one v.allowance.place h (Unlinked u) tt;
    marks = marks_unlinked v.allowance.place h u k.places i.marks.marks;
    said = λ key from o y. subst (λ us. WasSaid us key from o) (sym same_updates) y;
    now = unlinked_snoc h u;
    reuse = reuse_unlinked h u i.grace.reuse;
    same = same_for_more refl;
    locks = refl;
    hand = refl;
    spare = refl;
    reserved = refl;
    retired = refl;
    records = refl;
    moving = refl;
    own_move = own_move;
    unpassed = λ j y section e is may _. none_pass j y section e is may;
  }

  -- its pair is the copy's
  copied : map_now h (m (Key u)) ≡ Some (m (Value u))
  copied =
      let t = is_moving in
      ap (map_now h) (t.old_key ∙ sym t.copy_key) ∙ i.tree.map.sound move.copy.slot t.copy_linked t.copy_some t.copy_young
      ∙ ap Some t.same_value

  pub unlinked_kept : IsKept k m h new (set vs id w) hs
  unlinked_kept =
      cut_kept cut
      (counts_without_old cut (record {
        reserved = refl;
        owes = refl;
        wait = refl;
        turns = refl;
        moving = refl;
      }) is_moving.old_old move moving refl same_updates)
      (subst (λ us. HoldsMap new (unlinked g q b u child) (λ y. finite.get (map_of us) y)) (sym same_updates)
      (unlinked_map m new n g q b u child i.tree.shape unlinks (map_now h) i.tree.map))
      (front_by m new vs id v w h hs there (front_stays m new refl refl) refl (λ e. refl) same_updates
      (end_more h (Unlinked u ∷ []) refl refl refl) i.front)
      (listings_by (cut_step cut) same_updates
      (λ entered early listing lists. lists_unlinked m new n g q b u child i.tree.shape unlinks h i.tree.map copied entered
      (held (cut_step cut) entered) (held_gone (cut_step cut) entered early unlinks.replaces.node) listing lists))

-- The steps of K26 and K27 keep the invariant.

module _ (z : Stepper) where
  open z use {m, vs, h, id, v}

  pub keeps_unlink_left : (parent old child : ℕ) → NeedsUnlinkOld v parent Left old child
      → StepKeeps z (Link parent Left) child (after_unlink_old v parent Left old child h) (Unlinked old ∷ [])
  keeps_unlink_left parent old child needs =
      subst (λ (x : ℕ × ℕ). StepKeeps z (Link x.0 Left) child (after_unlink_old v x.0 Left x.1 child h) (Unlinked x.1 ∷ []))
      (λ i. (needs.parent_is i, needs.old_is i))
      (unlinked_kept z needs.move needs.lock child Left needs.moving needs.waited (ap (lock_of v.locks) needs.old_is ∙ needs.locked)
      needs.marked (ap (λ o. known_in needs.lock.known (Link o Right)) needs.old_is ∙ needs.right_now)
      (ap (λ b. cond b Right Left) (ne_eqb needs.move.parent needs.move.copy.slot (λ e. needs.end (sym needs.parent_is ∙ e)))))

  pub keeps_unlink_right : (copy old child : ℕ) → NeedsUnlinkOld v copy Right old child
      → StepKeeps z (Link copy Right) child (after_unlink_old v copy Right old child h) (Unlinked old ∷ [])
  keeps_unlink_right copy old child needs =
      subst (λ (x : ℕ × ℕ). StepKeeps z (Link x.0 Right) child (after_unlink_old v x.0 Right x.1 child h) (Unlinked x.1 ∷ []))
      (λ i. (needs.parent_is i, needs.old_is i))
      (unlinked_kept z needs.move needs.lock child Right needs.moving needs.waited (ap (lock_of v.locks) needs.old_is ∙ needs.locked)
      needs.marked (ap (λ o. known_in needs.lock.known (Link o Right)) needs.old_is ∙ needs.right_now)
      (ap (λ b. cond b Right Left) (eq-eqb needs.move.parent needs.move.copy.slot (needs.parent_is ∙ needs.end))))
