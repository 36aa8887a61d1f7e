-- What an update makes of the dictionary, what a delete knows of its node, and the laws of two updates: a bypass, K21, and the store of a
-- value, K36.
use Rattle.prcu_model.specs.Dictionary.{map_of, Dictionary, updated, WasSaid, IsLegal}
use Rattle.std.proofs.Common.{ℕ, List, ◌++◌, Some, ap, ◌∙◌, ◌≡◌, ◌+◌, ◌-◌, true, cond, [], ◌∷◌, length, Option, None, sym, subst, ⊎_elim, length-append, ◌≢◌, ◌*◌, false, arith, set, refl, eq-eqb, ne_eqb, inl, inr}
use Rattle.std.specs.Cmp.{nat_cmp_total}
use Rattle.std.specs.Prelude.{is_some}
use Rattle.prcu_model.specs.declared.operation.Op.TheVariants.{Del, Set}
use Rattle.prcu_model.specs.declared.operation.Update.{Update}
use Rattle.prcu_model.proofs.Dictionaries.{map_of-push, updated-set_present, get-updated_other, get-del, get-set}
use Rattle.std.proofs.lemmas.Bool.{cases_eq}
use Rattle.prcu_marks.specs.declared.mark.Mark.{Mark}
use Rattle.prcu_marks.specs.declared.mark.Mark.TheVariants.{Done, Unlinked}
use Rattle.prcu_marks.specs.Marks.{updates_of}
use Rattle.core_state.specs.Parts.{map_now, IsReadingKept, StandsWell, IsReading}
use Rattle.core_frames.proofs.PlaceFrames.{front_stays}
use Rattle.core_frames.proofs.Marks.{StaysHere, here_more, delete_updates, delete_plain, delete_now, delete_reuse, delete_marks, plain_one, PlainMarks, marks_done, gone_done, last_done, reuse_done}
use Rattle.core_laws.proofs.ChartChanges.{put, put-same, put-other}
use Rattle.prcu_marks.proofs.Callers.{said_longer, legal_more}
use Rattle.prcu_marks.specs.declared.mark.Side.{Side}
use Rattle.prcu_marks.specs.declared.mark.Side.TheVariants.{Left, Right}
use Rattle.prcu_marks.specs.declared.commit.Commit.{Commit}
use Rattle.core_state.specs.declared.view.Reading.{Reading}
use Rattle.core_state.specs.declared.view.SearchState.TheVariants.{Found}
use Rattle.core_state.specs.declared.words.Field.{Field}
use Rattle.core_state.specs.declared.words.Field.TheVariants.{Life, Key, Value, Link, Front, Moved}
use Rattle.list_laws.specs.Counts.{IsIn}
use Rattle.core_state.specs.Memory.{IsOdd, slot_count, Memory, stored, has}
use Rattle.core_state.specs.Links.{HasCommit, NodeRecords, IsMarkedNode, NeedsBypass, after_bypass, NeedsReplace, after_replace}
use Rattle.core_state.specs.Views.{known_in, known_under, HasLock, readings_of, open_reading, note_moving, lock_of, note_lock, Works, unraised_of}
use Rattle.list_laws.proofs.Lists.{in_second, somewhere_still}
use Rattle.core_frames.proofs.Charts.{one_key}
use Rattle.core_laws.proofs.Locks.{loaded_known, IsAlive, alive, alive_field, young_locked, no_end_of, marked_lock, marked_linked, marked_life, marked_field, linked_stays, IsNoted, noted_forth, noted_back, slots_change, length_change, emptied_change_same}
use Rattle.core_frames.proofs.WholeFrames.{Stepper, same_for_more, seat_frame_plain, waiter_frame_plain, mark_frame_plain, SameForMore, grace_same, StepKeeps}
use Rattle.core_state.specs.declared.view.View.{View}
use Rattle.core_state.specs.Tree.{HoldsMap, Chart, HoldsPair, IsHeldBack, IsPending, MayPass, IsEmptied, HasEmptied}
use Rattle.core_frames.specs.Laws.{IsKept}
use Rattle.core_laws.proofs.Stores.{stores_link, front_made, StoresAt, value_stores, StoresRead, readers_after, moves_stored, counts_made, listings_behind}
use Rattle.core_laws.proofs.LinkSteps.{listings_past}
use Rattle.core_laws.proofs.Cutting.{Cut, cut_step, cut_kept, counts_without_node, OnlyChild, Bypasses, lower_past, upper_past, bypassed, bypass_splice, bypass_map}
use Rattle.core_state.specs.declared.view.Move.{Move}
use mathlib.Core.Option.{some}
use lib.ListN.{get_elem?}
use Rattle.prcu_marks.proofs.Marks.{updates_of-append}
use Rattle.core_state.specs.declared.shape.Shape.{Shape}
use Rattle.core_state.specs.declared.view.HeldLock.{HeldLock}
use Rattle.core_state.specs.declared.view.Known.{Known}
use Rattle.core_state.specs.declared.view.Section.{Section}
use Rattle.core_state.specs.Invariant.{HoldsNow}
use Rattle.core_laws.proofs.LockSteps.{LockChange, locks_stored, slots_stored, note_option-unraised}
use Rattle.core_frames.proofs.Views.{stored_here}
use Rattle.core_frames.proofs.PlainLaws.{clocked_before}
use Rattle.core_frames.proofs.TreeFrames.{any, SameContents, shape_same, place_same, walks_by, right_left_by, belongs_same, pair_by, aged_by, met_outside, may_by, old_by}
use Rattle.core_state.specs.Steps.{done_by}
use Rattle.std.specs.FinMap as finite

-- How many pairs one more update leaves in the dictionary.

-- a key with a value is there
pub there_of : (d : Dictionary) (key value : ℕ) → finite.get d key ≡ Some value → finite.contains_key d key ≡ true
there_of d key value e = ap is_some e

-- a del takes one pair away, a set none
pub len_del : (us : List Update) (caller key : ℕ) → finite.contains_key (map_of us) key ≡ true
    → finite.len (map_of (us ++ record { caller = caller; op = Del key } ∷ [])) ≡ finite.len (map_of us) - 1
len_del us caller key there =
    ap finite.len (map_of-push us (record { caller = caller; op = Del key })) ∙ finite.len-remove nat_cmp_total (map_of us) key
    ∙ ap (λ b. cond b (finite.len (map_of us) - 1) (finite.len (map_of us))) there

pub len_set : (us : List Update) (caller key value : ℕ) → finite.contains_key (map_of us) key ≡ true
    → finite.len (map_of (us ++ record { caller = caller; op = Set key value } ∷ [])) ≡ finite.len (map_of us)
len_set us caller key value there =
    ap finite.len (map_of-push us (record { caller = caller; op = Set key value }) ∙ updated-set_present (map_of us) key value there)
    ∙ finite.len-insert nat_cmp_total (map_of us) key value
    ∙ ap (λ b. cond b (finite.len (map_of us)) (finite.len (map_of us) + 1)) there

-- What the marks of a delete make of the dictionary.

module _ (h : List Mark) (caller key d : ℕ) where
  abbrev pub delete_update : Update
  delete_update = record { caller = caller; op = Del key }

  abbrev pub both_marks : List Mark
  both_marks = h ++ Done delete_update ∷ (Unlinked d ∷ [])

  pub delete_longer : length (updates_of both_marks) ≡ length (updates_of h) + 1
  delete_longer = ap length (delete_updates h delete_update d) ∙ length-append (updates_of h) (delete_update ∷ [])

  pub delete_here : StaysHere h both_marks
  delete_here = here_more h (Done delete_update ∷ Unlinked d ∷ []) refl refl

  pub delete_said : (x from : ℕ) (o : Option ℕ) → WasSaid (updates_of h) x from o → WasSaid (updates_of both_marks) x from o
  delete_said x from o said = subst (λ us. WasSaid us x from o) (sym (delete_updates h delete_update d))
      (said_longer (updates_of h) (delete_update ∷ []) x from o said)

  pub delete_legal : finite.contains_key (map_of (updates_of h)) key ≡ true → IsLegal (updates_of h) → IsLegal (updates_of both_marks)
  delete_legal there legal = subst IsLegal (sym (delete_updates h delete_update d)) (legal_more (updates_of h) delete_update legal there)

  pub delete_count : finite.contains_key (map_of (updates_of h)) key ≡ true
      → finite.len (map_of (updates_of both_marks)) ≡ finite.len (map_of (updates_of h)) - 1
  delete_count there = ap (λ us. finite.len (map_of us)) (delete_updates h delete_update d) ∙ len_del (updates_of h) caller key there

  -- the dictionary without the key
  pub delete_map : (gone : ℕ) → gone ≡ key → map_now both_marks ≡ put (map_now h) gone None
  delete_map gone same = λ i y. one y i
    where
      pushed : (y : ℕ) → map_now both_marks y ≡ finite.get (updated (map_of (updates_of h)) (Del key)) y
      pushed y = ap (λ us. finite.get (map_of us) y) (delete_updates h delete_update d)
          ∙ ap (λ z. finite.get z y) (map_of-push (updates_of h) delete_update)

      one : (y : ℕ) → map_now both_marks y ≡ put (map_now h) gone None y
      one y = ⊎_elim
          (λ (e : y ≡ gone). pushed y ∙ ap (finite.get (updated (map_of (updates_of h)) (Del key))) (e ∙ same)
          ∙ get-del (map_of (updates_of h)) key ∙ sym (put-same (map_now h) gone None y e))
          (λ ne. pushed y ∙ get-updated_other (map_of (updates_of h)) (Del key) y (λ e. ne (e ∙ sym same))
          ∙ sym (put-other (map_now h) gone None y ne)) (cases_eq y gone)

-- The node of a delete that its view has marked: what the record of the delete and what was loaded under the locks say of it now.

-- the delete's record r, side b of the parent p, the node d and its links
pub record Deletion : Type 0 where
  pub who : Stepper
  pub commit : Commit
  pub r : Reading
  pub p : ℕ
  pub b : Side
  pub d : ℕ
  pub left : ℕ
  pub right : ℕ
  pub has_commit : HasCommit who.v commit
  pub records : NodeRecords who.v r p b d left right
  pub marked : IsMarkedNode who.v r d

module _ (z : Deletion) where
  open z use {who.{k, m, vs, h, id, v, there, inv, inv.{chart as g}}, r, p, b, d, records, marked}

  pub settled : v.moving ≡ None
  settled = inv.front.settled id v there z.commit z.has_commit.commit_is z.has_commit.unmade

  -- the record
  pub kept : IsIn (readings_of v) r
  kept = in_second (open_reading v.section) v.records r records.kept

  pub reading : IsReading r
  reading = inv.readers.readings id v there kept.0 r kept.1

  reading_kept : IsReadingKept m g r
  reading_kept = inv.locks.readings id v there kept.0 r kept.1

  -- the parent
  pub parent_alive : IsAlive k m vs h inv id v there r p
  parent_alive = let e = records.parent_now in alive k m vs h inv id v there r p e.0 kept e.1
      (loaded_known (known_under v p) (Life p) (2 * e.0) e.2)

  pub link_is : m (Link p b) ≡ d
  link_is = alive_field k m vs h inv id v there r p kept parent_alive (Link p b) d
      (loaded_known (known_under v p) (Link p b) d records.link_now)

  -- the node
  pub node_marked : (g.linked d ≡ true) × IsOdd (m (Life d))
  node_marked = marked_linked z.who r d kept marked

  pub node_life : m (Life d) ≡ 2 * marked.generation + 1
  node_life = marked_life z.who r d kept marked

  pub node_field : (field : Field) (number : ℕ) → known_in (known_under v d) field ≡ Some number → m field ≡ number
  node_field = marked_field z.who r d kept marked

  pub left_is : m (Link d Left) ≡ z.left
  left_is = node_field (Link d Left) z.left (loaded_known (known_under v d) (Link d Left) z.left records.left_now)

  pub right_is : m (Link d Right) ≡ z.right
  right_is = node_field (Link d Right) z.right (loaded_known (known_under v d) (Link d Right) z.right records.right_now)

  found : StandsWell r (Found d p b records.found.0)
  found = subst (StandsWell r) records.found.1 reading.well

  pub some_node : d ≢ 0
  some_node = found.0.some_slot

  pub node_key : m (Key d) ≡ r.key
  node_key = let l = marked.recorded in reading_kept.keys d l.0 r.key l.1 (let a = node_life in let e = l.2 in omega arith) found.1

  pub node_lock : HasLock v d
  node_lock = marked_lock z.who r d kept marked

  pub node_young : g.old d ≡ false
  node_young = young_locked k m vs h inv id v there settled d node_lock node_marked.0

  -- no old successor has its key: the copy above would have it too
  pub single : (s : ℕ) → g.linked s ≡ true → g.old s ≡ true → m (Key s) ≢ m (Key d)
  single s on old e =
      let a = inv.tree.moves.every s on old in
      let w = inv.tree.moves.each a.pending.id a.pending.view a.pending.there a.move a.pending.has in
      (no_end_of k m vs h inv id v there settled d node_lock a.pending.id a.pending.view a.move a.pending.there a.pending.has).0
      (one_key m (slot_count k) g a.move.copy.slot d inv.tree.shape w.copy_linked w.copy_some w.copy_young node_marked.0 some_node
      node_young (w.copy_key ∙ sym w.old_key ∙ ap (λ y. m (Key y)) a.old ∙ e))

  -- its key is in the dictionary
  pub has_key : finite.contains_key (map_of (updates_of h)) r.key ≡ true
  has_key = there_of (map_of (updates_of h)) r.key (m (Value d))
      (ap (map_now h) (sym node_key) ∙ inv.tree.map.sound d node_marked.0 some_node node_young)

-- The bypass of a marked node keeps the invariant.

module _ (who : Stepper) (commit : Commit) (p : ℕ) (b : Side) (d c key : ℕ) (needs : NeedsBypass who.k.room who.v commit p b d c key) where
  open who use {k, m, vs, h, id, v, there, inv as i, inv.{chart as g}}
  open needs use {reading as r, left, right}

  abbrev new : Memory
  new = stored m (Link p b) c

  abbrev bypass_update : Update
  bypass_update = delete_update h v.allowance.place r.key d

  abbrev hs : List Mark
  hs = both_marks h v.allowance.place r.key d

  abbrev bypassed_view : View
  bypassed_view = after_bypass v commit p b d c r.key h

  abbrev deletion : Deletion
  deletion = record {
    who = who;
    commit = commit;
    r = r;
    p = p;
    b = b;
    d = d;
    left = left;
    right = right;
    has_commit = needs.has_commit;
    records = needs.records.records;
    marked = needs.marked;
  }

  only : OnlyChild m d c
  only = ⊎_elim
      (λ (z : left ≡ 0). record {
        side = Right;
        beside = Left;
        apart = λ e. cc;
        leads = right_is deletion ∙ sym (needs.child_is ∙ ap (λ y. cond y right left) (eq-eqb left 0 z));
        empty = left_is deletion ∙ z;
      })
      (λ ne. record {
        side = Left;
        beside = Right;
        apart = λ e. cc;
        leads = left_is deletion ∙ sym (needs.child_is ∙ ap (λ y. cond y right left) (ne_eqb left 0 ne));
        empty = right_is deletion ∙ ⊎_elim (λ (z : left ≡ 0). absurd (ne z)) (λ (z : right ≡ 0). z) needs.records.few;
      })
      (cases_eq left 0)

  bypassed_moving_none : bypassed_view.moving ≡ None
  bypassed_moving_none = ap (note_moving p (record { field = Link p b; number = c; stored = true })) (settled deletion)

  bypass : Bypasses m new g p b d c
  bypass = record {
    replaces = record {
      stores = stores_link m p b c;
      parent = (parent_alive deletion).on;
      link = link_is deletion;
      node = some_node deletion;
    };
    young = node_young deletion;
    only = only;
    single = single deletion;
  }

  no_move : (move : Move) → v.moving ≡ Some move → ⊥
  no_move move is = let none = settled deletion in cc

  not_old : g.old d ≡ true → ⊥
  not_old old = let q = node_young deletion in cc

  abbrev cut : Cut
  cut = record {
    who = who;
    p = p;
    b = b;
    d = d;
    c = c;
    lower = lower_past m g d;
    upper = upper_past m g d;
    w = bypassed_view;
    hs = hs;
    at = length h + 1;
    splice = bypass_splice m new (slot_count k) g p b d c i.tree.shape bypass;
    odd = (node_marked deletion).1;
    has_parent = ((parent_alive deletion).lock, (parent_alive deletion).locked);
    has_node = node_lock deletion;
    knows = node_field deletion;
    room = needs.room;
    plain = delete_plain h bypass_update d;
    marks = delete_marks h bypass_update d k.places i.marks.marks;
    said = delete_said h v.allowance.place r.key d;
    now = delete_now h bypass_update d;
    reuse = delete_reuse h bypass_update d i.grace.reuse;
    same = same_for_more refl;
    locks = refl;
    hand = refl;
    spare = refl;
    reserved = refl;
    retired = refl;
    records = refl;
    moving = bypassed_moving_none;
    own_move = λ move is. absurd (no_move move is);
    unpassed = λ j u section e inside may old. not_old old;
  }

  pub bypassed_kept : IsKept k m h new (set vs id bypassed_view) hs
  bypassed_kept =
      cut_kept cut
      (counts_without_node cut (record { reserved = refl; owes = refl; wait = refl; turns = refl; moving = bypassed_moving_none })
      (node_young deletion) (settled deletion) needs.has_commit.ticket refl (delete_longer h v.allowance.place r.key d)
      (delete_count h v.allowance.place r.key d (has_key deletion)))
      (subst (HoldsMap new (bypassed m g p b d c)) (sym (delete_map h v.allowance.place r.key d (m (Key d)) (node_key deletion)))
      (bypass_map m new (slot_count k) g p b d c i.tree.shape bypass (map_now h) i.tree.map))
      (front_made m new vs id v bypassed_view there h hs (front_stays m new refl refl) i.front commit needs.has_commit refl
      (delete_longer h v.allowance.place r.key d) (delete_here h v.allowance.place r.key d)
      (delete_legal h v.allowance.place r.key d (has_key deletion) i.front.legal))
      (listings_past (cut_step cut) (delete_longer h v.allowance.place r.key d))

-- The store of a value keeps the invariant.

module _ (k : Shape) (m : Memory) (vs : List View) (h : List Mark) (i : HoldsNow k m vs h) (id : ℕ) (v : View)
    (there : get_elem? vs id ≡ some v) (works : Works v)
    (commit : Commit) (d key value : ℕ) (needs : NeedsReplace v commit d key) where
  open needs use {reading as r, generation}

  abbrev g : Chart
  g = i.chart

  abbrev n : ℕ
  n = slot_count k

  abbrev m' : Memory
  m' = stored m (Value d) value

  abbrev update : Update
  update = record { caller = v.allowance.place; op = Set r.key value }

  abbrev h' : List Mark
  h' = h ++ Done update ∷ []

  abbrev w : View
  w = after_replace v commit d r.key value h

  abbrev known : Known
  known = record { field = Value d; number = value; stored = true }

  settled_stored : v.moving ≡ None
  settled_stored = i.front.settled id v there commit needs.has_commit.commit_is needs.has_commit.unmade

  -- the record, and what was loaded under the lock
  has_reading : IsIn (readings_of v) r
  has_reading = in_second (open_reading v.section) v.records r needs.kept

  reading_stored : IsReading r
  reading_stored = i.readers.readings id v there has_reading.0 r has_reading.1

  node_alive : IsAlive k m vs h i id v there r d
  node_alive = alive k m vs h i id v there r d generation has_reading needs.generation_is needs.life_now

  d_linked : g.linked d ≡ true
  d_linked = node_alive.on

  has_node : HasLock v d
  has_node = (node_alive.lock, node_alive.locked)

  young : g.old d ≡ false
  young = young_locked k m vs h i id v there settled_stored d has_node d_linked

  well : StandsWell r (Found d needs.found.0 needs.found.1 needs.found.2)
  well = subst (StandsWell r) needs.found.3 reading_stored.well

  node : d ≢ 0
  node = well.0.some_slot

  is_key : m (Key d) ≡ r.key
  is_key =
      let l = node_alive.recorded in
      (i.locks.readings id v there has_reading.0 r has_reading.1).keys d l.0 r.key l.1
      (let a = node_alive.life in let e = l.2 in omega arith) well.1

  outside : v.section ≡ None
  outside = cases v.section refl
    where
      cases : (o : Option Section) → v.section ≡ o → v.section ≡ None
      cases None e = e
      cases (Some section) e =
          let none = ((i.locks.few id v there).outside section e).0 in
          absurd (let y : None ≡ Some node_alive.lock = sym (ap (λ ls. lock_of ls d) none) ∙ node_alive.locked in cc)

  stores : StoresAt m m' d (Value d)
  stores = value_stores m d value

  new_value : m' (Value d) ≡ value
  new_value = stored_here m (Value d) value

  other_value : (s : ℕ) → s ≢ d → m' (Value s) ≡ m (Value s)
  other_value s ne = stores.away s (Value s) ne refl

  moving_none : w.moving ≡ None
  moving_none = ap (note_moving d known) settled_stored

  -- the marks
  plain : PlainMarks v.allowance.place h h'
  plain = plain_one v.allowance.place h (Done update) refl

  more_updates : updates_of h' ≡ updates_of h ++ update ∷ []
  more_updates = updates_of-append h (Done update ∷ [])

  one_longer : length (updates_of h') ≡ length (updates_of h) + 1
  one_longer = ap length more_updates ∙ length-append (updates_of h) (update ∷ [])

  same : SameForMore v w h'
  same = same_for_more refl

  -- the dictionary
  present : map_now h (m (Key d)) ≡ Some (m (Value d))
  present = i.tree.map.sound d d_linked node young

  there_now : finite.contains_key (map_of (updates_of h)) r.key ≡ true
  there_now = there_of (map_of (updates_of h)) r.key (m (Value d)) (ap (map_now h) (sym is_key) ∙ present)

  pushed : (y : ℕ) → map_now h' y ≡ finite.get (updated (map_of (updates_of h)) (Set r.key value)) y
  pushed y = ap (λ us. finite.get (map_of us) y) more_updates ∙ ap (λ z. finite.get z y) (map_of-push (updates_of h) update)

  map_here : map_now h' (m (Key d)) ≡ Some value
  map_here = pushed (m (Key d)) ∙ ap (finite.get (updated (map_of (updates_of h)) (Set r.key value))) is_key
      ∙ get-set (map_of (updates_of h)) r.key value there_now

  map_else : (y : ℕ) → y ≢ m (Key d) → map_now h' y ≡ map_now h y
  map_else y ne = pushed y ∙ get-updated_other (map_of (updates_of h)) (Set r.key value) y (λ e. ne (e ∙ sym is_key))

  holds : HoldsMap m' g (map_now h')
  holds = record {
    sound = λ s l ne o. ⊎_elim
        (λ (e : s ≡ d). ap (λ t. map_now h' (m (Key t))) e ∙ map_here ∙ ap Some (sym (ap (λ t. m' (Value t)) e ∙ new_value)))
        (λ other. map_else (m (Key s)) (λ same. other (one_key m n g s d i.tree.shape l ne o d_linked node young same))
        ∙ i.tree.map.sound s l ne o ∙ ap Some (sym (other_value s other))) (cases_eq s d);
    complete = λ y z e. ⊎_elim (λ (same : y ≡ m (Key d)). here y z same e) (λ other. apart y z other (sym (map_else y other) ∙ e))
        (cases_eq y (m (Key d)));
  }
    where
      here : (y z : ℕ) → y ≡ m (Key d) → map_now h' y ≡ Some z → HoldsPair m' g y z
      here y z same e =
          let q : Some value ≡ Some z = sym map_here ∙ ap (map_now h') (sym same) ∙ e in
          let is : value ≡ z = cc in
          record { slot = d; linked = d_linked; some_slot = node; young = young; key = sym same; value = new_value ∙ is }

      apart : (y z : ℕ) → y ≢ m (Key d) → map_now h y ≡ Some z → HoldsPair m' g y z
      apart y z other e =
          let q = i.tree.map.complete y z e in
          pair_by q q.linked q.young refl (other_value q.slot (λ same. other (sym q.key ∙ ap (λ t. m (Key t)) same)))

  -- locks
  change : (t : ℕ) (l l' : HeldLock) → lock_of v.locks t ≡ Some l → IsNoted d known t l l'
      → LockChange k m vs h i id v w there (Value d) value d stores true g t l l'
  change t l l' is q = record {
    here = q.here;
    beside = q.there;
    marked = λ linked. q.marked;
    still_marked = λ e. (sym q.marked ∙ e, λ linked. linked);
    emptied = λ a e. (i.locks.kept id v there t l is).emptied a (sym (q.emptied a) ∙ e);
  }

  -- readers
  held : (entered s : ℕ) → IsHeldBack g h entered s → IsHeldBack g h' entered s
  held entered s y = record { out = y.out; at = y.at; gone = gone_done h update s ∙ y.gone; later = y.later }

  pending_still : (other : Move) → IsPending vs other → IsPending (set vs id w) other
  pending_still other q = somewhere_still vs id v w there (λ (mine : v.moving ≡ Some other).
      absurd (let y : Some other ≡ None = sym mine ∙ settled_stored in cc)) q

  said : (key from : ℕ) (o : Option ℕ) → WasSaid (updates_of h) key from o → WasSaid (updates_of h') key from o
  said key from o y = subst (λ us. WasSaid us key from o) (sym more_updates) (said_longer (updates_of h) (update ∷ []) key from o y)

  emptied_still : (s : ℕ) (a : Side) → IsEmptied vs s a → IsEmptied (set vs id w) s a
  emptied_still s a = somewhere_still vs id v w there (λ (x : HasEmptied v s a).
      (let f = noted_forth d known v.locks s x.lock x.held in
      record { lock = f.0; held = f.1; emptied = f.2.emptied a ∙ x.emptied }))

  may_still : (key entered s : ℕ) → MayPass vs key entered s → MayPass (set vs id w) key entered s
  may_still key entered s y = may_by y (pending_still y.move y.pending)

  -- all keys and links are the same, and all values but one
  abbrev others : ℕ → Type 0
  others s = s ≢ d

  contents : SameContents m m' any others
  contents = record { key = λ s _. refl; link = λ s a _. refl; value = other_value }

  on : (s : ℕ) → g.linked s ≡ true → any s
  on s l = tt

  not_d : (s : ℕ) → g.linked s ≡ false → s ≢ d
  not_d s l e = let q : true ≡ false = sym d_linked ∙ ap g.linked (sym e) ∙ l in absurd (cc)

  read : StoresRead m m' g g vs id v w there h h'
  read = record {
    outside = outside;
    records = refl;
    readings = refl;
    life = stores.life;
    key = stores.key;
    tag = stores.tag;
    linked_back = λ s l. l;
    rank = λ s. refl;
    said = said;
    place = λ j z section e is.
        place_same m m' any others contents g on (λ u l o same. (let f : true ≡ false = sym o ∙ ap g.old same ∙ young in
        absurd (cc))) section.key (IsHeldBack g h section.entered) (IsHeldBack g h' section.entered)
        (MayPass vs section.key section.entered) (MayPass (set vs id w) section.key section.entered)
        (WasSaid (updates_of h) section.key section.from) (WasSaid (updates_of h') section.key section.from) (λ s l. tt)
        (λ s l. not_d s l.out) (held section.entered) (may_still section.key section.entered) (said section.key section.from);
    walks = λ j z section e is node_slot s l. walks_by m m' any others contents g on node_slot (IsHeldBack g h section.entered)
        (IsHeldBack g h' section.entered) tt (λ p way. tt) (λ p held_there. tt) (held section.entered) s;
    path = λ node_slot s l which. right_left_by m m' any others contents g on node_slot s tt (λ p way. tt);
    stood = λ j z section e is s y. ⊎_elim (λ (l : g.linked s ≡ true). inl l)
        (λ (q : IsHeldBack g h section.entered s × IsOdd (m (Life s))). inr (held section.entered s q.0, q.1)) y;
    side = λ y s a l even root none. belongs_same m m' any others contents g on y s a tt;
    link_back = λ s a free none. none;
    emptied = emptied_still;
    old_for = λ y s even o. old_by o (pending_still o.move o.pending);
  }

  unraised_kept : unraised_of w ≡ unraised_of v
  unraised_kept = let a = note_option-unraised d known v.hands.hand in omega arith

  pub stored_law : HoldsNow k m' (set vs id w) h'
  stored_law = record {
    table = i.table;
    chart = g;
    marks = mark_frame_plain h h' v.allowance.place plain k.places vs id v w there same
        (marks_done h update (λ x e. absurd (let q : Set r.key value ≡ Del x = e in cc)) k.places i.marks.marks) i.marks;
    seats = seat_frame_plain h h' v.allowance.place plain k.places vs id v w there works refl same i.seats;
    waiters = waiter_frame_plain h h' v.allowance.place plain k m m' vs id v w there same refl refl (clocked_before k m vs h i) i.waiters;
    slots = slots_stored k m vs h i id v w there (Value d) value d stores true d_linked h'
        (record {
          places = record { place = refl; places = refl; joined = refl; met = refl };
          hand = refl;
          spare = refl;
          reserved = refl;
          moving = moving_none;
          mine = has_node;
          same_gone = λ s l. gone_done h update s;
        }) refl (gone_done h update);
    locks = locks_stored k m vs h i id v w there (Value d) value d stores true g (record {
      mine = has_node;
      linked_back = λ s l. l;
      even_stays = λ s l even. l;
      others_stay = λ j z s ne e locks l. l;
      place = refl;
      slots = slots_change d (note_lock known) (λ l. refl) v.locks;
      few = length_change d (note_lock known) (λ l. refl) v.locks;
      readings = refl;
      outside = outside;
      back = λ s l' is. (let q = noted_back d known v.locks s l' is in (q.0, q.1, change s q.0 l' q.1 q.2));
      forth = λ s l is. (let q = noted_forth d known v.locks s l is in (q.0, q.1, change s l q.0 is q.2));
    });
    counts = counts_made k m vs h i id v w there (Value d) value d stores h'
        (record { reserved = refl; owes = refl; wait = refl; turns = refl; moving = moving_none })
        (ap has settled_stored) needs.has_commit.ticket refl unraised_kept
        (emptied_change_same d (note_lock known) (λ l. refl) (λ l. refl) v.locks) one_longer
        (ap (λ us. finite.len (map_of us)) more_updates ∙ len_set (updates_of h) v.allowance.place r.key value there_now);
    tree = record {
      shape = shape_same m m' any others contents g on n i.tree.shape;
      map = holds;
      moves = moves_stored k m vs h i id v w there (Value d) value d stores has_node moving_none g h' plain (record {
        stays = λ j z s ne e locks l. l;
        linked_back = λ s l. l;
        old_same = λ s. refl;
        hangs = λ j z other ne e is. (refl, refl);
        own_gone = λ other is l. (let y : None ≡ Some other = sym settled_stored ∙ is in absurd (cc));
      });
    };
    readers = readers_after m m' g g vs id v w there h h' read
        (aged_by m m' g vs (set vs id w) h h' (gone_done h update) (λ s a. refl) (λ at small. met_outside vs id v w there outside at)
        i.readers.ages) i.locks.readings i.readers;
    front = front_made m m' vs id v w there h h' (front_stays m m' (stores.within.beside Front tt) (stores.within.beside Moved tt)) i.front commit
        needs.has_commit refl one_longer (here_more h (Done update ∷ []) refl refl)
        (subst IsLegal (sym more_updates) (legal_more (updates_of h) update i.front.legal there_now));
    listings = listings_behind m m' g g vs id w h h' outside stores.key
        (λ j z section s e is y. ⊎_elim (λ (l : g.linked s ≡ true). inl l) (λ q. inr (held section.entered s q)) y) i.listings one_longer;
    grace = grace_same v.allowance.place h h' plain vs id v w there refl
        (record { place = refl; places = refl; joined = refl; met = refl }) moving_none (reuse_done h update i.grace.reuse)
        (gone_done h update) (last_done h update) refl i.grace;
  }

  pub stored_kept : IsKept k m h m' (set vs id w) h'
  stored_kept = record {
    invariant = stored_law;
    past = record {
      lives = λ s. (let e = stores.life s in omega arith);
      tags = λ s a. (let e = stores.tag s a in omega arith);
      content = λ s field gone marked_now content. stores.content s field
          (λ z. linked_stays k m vs h i s gone.0 (ap g.linked z ∙ d_linked) gone.1) content;
    };
  }

-- The steps of K21 and K36 keep the invariant.

pub keeps_bypass : (z : Stepper) (commit : Commit) (parent : ℕ) (b : Side) (node child key : ℕ)
    → NeedsBypass z.k.room z.v commit parent b node child key
    → StepKeeps z (Link parent b) child (after_bypass z.v commit parent b node child key z.h) (done_by z.v (Del key) ∷ Unlinked node ∷ [])
keeps_bypass z commit parent b node child key needs =
    subst (λ x. StepKeeps z (Link parent b) child (after_bypass z.v commit parent b node child x z.h)
    (done_by z.v (Del x) ∷ Unlinked node ∷ [])) needs.sought (bypassed_kept z commit parent b node child key needs)

pub keeps_replace : (z : Stepper) (commit : Commit) (slot key value : ℕ) → NeedsReplace z.v commit slot key
    → StepKeeps z (Value slot) value (after_replace z.v commit slot key value z.h) (done_by z.v (Set key value) ∷ [])
keeps_replace z commit slot key value needs =
    subst (λ x. StepKeeps z (Value slot) value (after_replace z.v commit slot x value z.h) (done_by z.v (Set x value) ∷ [])) needs.sought
    (stored_kept z.k z.m z.vs z.h z.inv z.id z.v z.there z.works commit slot key value needs)
