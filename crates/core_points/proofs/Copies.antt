-- The points of a delete of a node with two children, up to the link of the copy: what each step needs is known, and what the next point
-- needs is known after it.
use Rattle.std.proofs.Common.{◌≡◌, ◌≢◌, ℕ, zero, suc, ◌+◌, ◌*◌, ◌==◌, ◌<◌, ◌≤◌, ◌&&◌, cond, Bool, true, false, List, [], ◌∷◌, ◌++◌, length, Option, Some, None, refl, sym, ap, subst, ◌∙◌, inl, inr, ⊎_elim, arith, eq-eqb, ne_eqb}
use Rattle.std.proofs.lemmas.Bool.{eqb-true}
use mathlib.Core.Logic.{dite}
use native.Mathlib.Decide.{ℕ_discrete}
use Rattle.prcu_marks.specs.declared.mark.Mark.{Mark}
use Rattle.prcu_marks.specs.declared.mark.Side.{Side}
use Rattle.prcu_marks.specs.declared.mark.Side.TheVariants.{Left}
use Rattle.core_state.specs.declared.shape.Shape.{Shape}
use Rattle.core_state.specs.declared.words.Field.{Field}
use Rattle.core_state.specs.declared.words.Field.TheVariants.{Life, Key, Value, Link}
use Rattle.core_state.specs.declared.view.Held.{Held}
use Rattle.core_state.specs.declared.view.HeldLock.{HeldLock}
use Rattle.core_state.specs.declared.view.Known.{Known}
use Rattle.core_state.specs.declared.view.Reading.{Reading}
use Rattle.core_state.specs.declared.view.View.{View}
use Rattle.core_state.specs.Memory.{same_field}
use Rattle.core_state.specs.Views.{known_in, known_of, loaded_in, lock_of, change_lock, note_lock, note_option, noting}
use Rattle.core_state.specs.Steps.{spare_slot, new_lock}
use Rattle.core_state.specs.Links.{BothChildren, newly_retired, with_mark, after_copy_link, new_move, IsContent, NeedsCopyLink}
use Rattle.core_state.specs.Acts.{spare_of, commit_of}
use Rattle.core_laws.proofs.Acting.{commit_is, spare_is, may_update}
use Rattle.core_points.specs.declared.stage.Last.TheVariants as last
use Rattle.core_points.specs.declared.stage.Node.{Node}
use Rattle.core_points.specs.declared.stage.Successor.{Successor}
use Rattle.core_points.specs.declared.stage.Stage.{Stage}
use Rattle.core_points.specs.declared.stage.Stage.TheVariants as at
use Rattle.core_points.specs.declared.stage.Update.TheVariants as update
use Rattle.core_points.specs.Programs.{Own, content, contents, go, is_none_left, is_some, key_now, or_root, after}
use Rattle.core_points.specs.Facts.{AreClear, read_at, stored_at}
use Rattle.core_points.specs.DeleteFacts.{BeforeCopy, BothHold, HasCopy, Holds, HoldsLink, HoldsNode, HoldsSuccessor, IsAside, KnowsSuccessor, all_locks, first_locks, two_children, under}
use Rattle.core_points.specs.Fits.{IsGiven, GoesOn, Fits, plain}
use Rattle.core_points.proofs.Unlinks.{KeepsLife, KeepsLinks, held_by_load, is_marked, life_same, links_same, marked_node, node_marked, node_records, node_to, same_length, slots_push, under_marked, unraised_push}
use Rattle.core_points.proofs.Locks.{clear_marked, clear_stored, clear_changed, clear_lock, each_more, IsClear, held_still, known_more_under, known_now, loaded_more, under_other}
use Rattle.core_frames.proofs.Views.{same_self}
use Rattle.core_points.proofs.Notes.{fits, settled_noted, settled_hand, owns_relocked, owns_more, owns_noted, owns_retired, owns_spared, quiet_unlocking, held_here}
use Rattle.core_points.proofs.Links.{made_even}
use Rattle.core_points.proofs.DeleteSearches.{delete_owed}
use Rattle.core_points.proofs.Targets.{holds_new}
use Rattle.core_laws.proofs.Locks.{change_other, length_change, slots_change}

-- The facts of this crate in the words of the steps.
both_children : (v : View) (r : Reading) (d : Node) (u : Successor) → HoldsNode v.records v.locks r d → HoldsSuccessor v.locks r d u
    → BothChildren v r d.parent d.side d.node d.left d.right u.parent u.slot
both_children v r d u node s = record {
  records = node_records v r d node;
  left_some = s.left_some;
  right_some = s.right_some;
  had = s.had;
  walk = s.walk;
  link = ⊎_elim (λ (x : (u.parent ≡ d.node) × (d.right ≡ u.slot)). inl x) (λ x. inr (x.0, (u.parent_generation, x.1, x.2), x.3)) s.link;
  old_life = (u.generation, s.recorded, s.life);
  old_left = s.left;
}

-- what was loaded under the successor's locks is still known
successor_to : (ls ls' : List HeldLock) (r : Reading) (d : Node) (u : Successor)
    → (u.parent ≢ d.node → KeepsLife ls ls' u.parent × KeepsLinks ls ls' u.parent) → KeepsLife ls ls' u.slot → KeepsLinks ls ls' u.slot
    → HoldsSuccessor ls r d u → HoldsSuccessor ls' r d u
successor_to ls ls' r d u parent life links s = record {
  left_some = s.left_some;
  right_some = s.right_some;
  had = s.had;
  walk = s.walk;
  apart = s.apart;
  link = ⊎_elim (λ (x : (u.parent ≡ d.node) × (d.right ≡ u.slot)). inl x)
      (λ x. inr (x.0, x.1, (parent x.0).0 (2 * u.parent_generation) x.2, (parent x.0).1 Left u.slot x.3)) s.link;
  recorded = s.recorded;
  life = life (2 * u.generation) s.life;
  left = links Left 0 s.left;
}

-- all slots of the delete have what was known under their locks
same_to : (records : List Reading) (ls ls' : List HeldLock) (key : ℕ) (d : Node) (u : Successor)
    → ((t : ℕ) → KeepsLife ls ls' t × KeepsLinks ls ls' t) → BothHold records ls key d u → BothHold records ls' key d u
same_to records ls ls' key d u keeps both =
    let r : Reading = both.0 in (
      r,
      both.1,
      node_to records ls ls' r d (keeps d.parent).0 (keeps d.parent).1 (keeps d.node).1 both.2,
      successor_to ls ls' r d u (λ ne. keeps u.parent) (keeps u.slot).0 (keeps u.slot).1 both.3,
    )

aside_to : (records : List Reading) (ls ls' : List HeldLock) (key copy : ℕ) (d : Node) (u : Successor) → IsAside copy d u
    → ((t : ℕ) → copy ≢ t → under ls' t ≡ under ls t) → BothHold records ls key d u → BothHold records ls' key d u
aside_to records ls ls' key copy d u aside same both =
    let r : Reading = both.0 in
    let p = same d.parent aside.parent in
    let q = same u.parent aside.walk_parent in
    let s = same u.slot aside.successor in (
      r,
      both.1,
      node_to records ls ls' r d (life_same ls ls' d.parent p) (links_same ls ls' d.parent p)
          (links_same ls ls' d.node (same d.node aside.node)) both.2,
      successor_to ls ls' r d u (λ ne. (life_same ls ls' u.parent q, links_same ls ls' u.parent q)) (life_same ls ls' u.slot s)
          (links_same ls ls' u.slot s) both.3,
    )

knows_to : (ls ls' : List HeldLock) (u : Successor) (next_key value : ℕ) → under ls' u.slot ≡ under ls u.slot
    → KnowsSuccessor ls u next_key value → KnowsSuccessor ls' u next_key value
knows_to ls ls' u next_key value same k = record {
  key = ap (λ ks. known_in ks (Key u.slot)) same ∙ k.key;
  value_is = ap (λ ks. known_in ks (Value u.slot)) same ∙ k.value_is;
}

some_locks : (d : Node) (u : Successor) → is_none_left (all_locks d u) ≡ false
some_locks d u = by (u.parent == d.node)
  where
    by : (z : Bool) → is_none_left (first_locks (two_children d u) (cond z 3 4)) ≡ false
    by true = refl
    by false = refl

-- The copy's fields.
pub some_spare : (spare : Option Held) (own : Option ℕ) → spare_slot spare ≡ own → is_some own ≡ true
    → (held : Held) × (spare ≡ Some held) × (held.slot ≡ or_root own)
some_spare None own e some = absurd (let q : false ≡ true = ap is_some e ∙ some in cc)
some_spare (Some held) own e some = (held, refl, ap or_root e)

content_is : (i : ℕ) → i ≤ 3 → (s : ℕ) → IsContent s (content s i)
content_is zero le s = refl
content_is (suc zero) le s = refl
content_is (suc (suc zero)) le s = refl
content_is (suc (suc (suc zero))) le s = refl
content_is (suc (suc (suc (suc i)))) le s = absurd (omega arith)

contents_apart : (s i j : ℕ) → j < i → i ≤ 3 → same_field (content s i) (content s j) ≡ false
contents_apart s zero j lt le = absurd (omega arith)
contents_apart s (suc zero) zero lt le = refl
contents_apart s (suc zero) (suc j) lt le = absurd (omega arith)
contents_apart s (suc (suc zero)) zero lt le = refl
contents_apart s (suc (suc zero)) (suc zero) lt le = refl
contents_apart s (suc (suc zero)) (suc (suc j)) lt le = absurd (omega arith)
contents_apart s (suc (suc (suc zero))) zero lt le = refl
contents_apart s (suc (suc (suc zero))) (suc zero) lt le = refl
contents_apart s (suc (suc (suc zero))) (suc (suc zero)) lt le = ap (λ z. z && false) (eq-eqb s s refl)
contents_apart s (suc (suc (suc zero))) (suc (suc (suc j))) lt le = absurd (omega arith)
contents_apart s (suc (suc (suc (suc i)))) j lt le = absurd (omega arith)

life_no_content : (s j : ℕ) → j < 4 → same_field (Life s) (content s j) ≡ false
life_no_content s zero lt = refl
life_no_content s (suc zero) lt = refl
life_no_content s (suc (suc zero)) lt = refl
life_no_content s (suc (suc (suc zero))) lt = refl
life_no_content s (suc (suc (suc (suc j)))) lt = absurd (omega arith)

filled_more : (spare : Option Held) (copy : ℕ) (d : Node) (next_key value i : ℕ) → i ≤ 3 → HasCopy spare copy d next_key value i
    → HasCopy (note_option copy (stored_at (content copy i) (contents next_key value d.left d.right i)) spare) copy d next_key value (suc i)
filled_more spare copy d next_key value i le p =
    let held = p.held in
    let kn : Known = stored_at (content copy i) (contents next_key value d.left d.right i) in record {
      held = record held { known = kn ∷ held.known };
      spare_is = ap (note_option copy kn) p.spare_is ∙ ap Some (held_here copy kn held p.slot_is);
      slot_is = p.slot_is;
      known = λ j lt. dite (ℕ_discrete j i)
          (λ same. subst (λ x. known_in (kn ∷ held.known) (content copy x) ≡ Some (contents next_key value d.left d.right x)) (sym same)
          (ap (λ z. cond z (Some (contents next_key value d.left d.right i)) (known_in held.known (content copy i)))
          (same_self (content copy i))))
          (λ ne. ap (λ z. cond z (Some (contents next_key value d.left d.right i)) (known_in held.known (content copy j)))
          (contents_apart copy i j (omega arith) le) ∙ p.known j (omega arith));
    }

aged : (spare : Option Held) (copy : ℕ) (d : Node) (next_key value n : ℕ) → HasCopy spare copy d next_key value 4
    → HasCopy (note_option copy (read_at (Life copy) n) spare) copy d next_key value 4
aged spare copy d next_key value n p =
    let held = p.held in
    let kn : Known = read_at (Life copy) n in record {
      held = record held { known = kn ∷ held.known };
      spare_is = ap (note_option copy kn) p.spare_is ∙ ap Some (held_here copy kn held p.slot_is);
      slot_is = p.slot_is;
      known = λ j lt. ap (λ z. cond z (Some n) (known_in held.known (content copy j))) (life_no_content copy j lt) ∙ p.known j lt;
    }

copy_elsewhere : (spare : Option Held) (copy s : ℕ) (kn : Known) (d : Node) (next_key value i : ℕ) → copy ≢ s
    → HasCopy spare copy d next_key value i → HasCopy (note_option s kn spare) copy d next_key value i
copy_elsewhere spare copy s kn d next_key value i ne p = let held = p.held in record {
  held = held;
  spare_is = ap (note_option s kn) p.spare_is ∙ ap (λ z. Some (cond z (record held { known = kn ∷ held.known }) held))
      (ne_eqb held.slot s (λ same. ne (sym p.slot_is ∙ same)));
  slot_is = p.slot_is;
  known = p.known;
}

module _ (k : Shape) (h : List Mark) (o : Own) (v : View) (n : ℕ) where
  -- a load of the successor's key or value
  before_loaded : (d : Node) (u : Successor) (field : Field) (stage : Stage) → ((t : ℕ) → same_field field (Life t) ≡ false)
      → ((t : ℕ) (b : Side) → same_field field (Link t b) ≡ false) → BeforeCopy o (plain v) d u
      → BeforeCopy (go o stage) (plain (noting v u.slot field n false)) d u
  before_loaded d u field stage no_life no_link p =
      let c = p.copying in
      let kn : Known = read_at field n in
      let now : List HeldLock = change_lock u.slot (note_lock kn) v.locks in record {
        copying = record {
          quiet = settled_noted o v u.slot field n false None c.quiet;
          deleting = c.deleting;
          both = same_to v.records v.locks now (key_now o) d u
              (λ t. (
                (λ x e. loaded_more v.locks u.slot kn t (Life t) x (no_life t) e),
                (λ b x e. loaded_more v.locks u.slot kn t (Link t b) x (no_link t b) e),
              )) c.both;
        };
        unmarked = loaded_more v.locks u.slot kn d.node (Life d.node) (2 * d.generation) (no_life d.node) p.unmarked;
        clear = clear_changed u.slot (note_lock kn) (λ l c. c) v.locks p.clear;
        few = subst (λ x. x ≤ 4) (sym (length_change u.slot (note_lock kn) (λ l. refl) v.locks)) p.few;
        locks_are = p.locks_are;
        held = held_still v.locks u.slot (note_lock kn) (λ l. refl) u.slot p.held;
      }

  pub needs_successor_key : (d : Node) (u : Successor) → IsGiven k o v n (at.SuccessorKey d u)
  needs_successor_key d u f = record { held = (f.point).held; loadable = refl }

  pub next_successor_key : (d : Node) (u : Successor) → IsAside (or_root o.spare) d u → GoesOn h o v n (at.SuccessorKey d u)
  next_successor_key d u aside f = fits (owns_noted o v u.slot (Key u.slot) n false f.owns) (f.unraised refl) f.tickets (
    before_loaded d u (Key u.slot) _ (λ t. refl) (λ t b. refl) f.point,
    aside,
    known_now v.locks u.slot (Key u.slot) n (f.point).held,
  )

  pub needs_successor_value : (d : Node) (u : Successor) (next_key : ℕ) → IsGiven k o v n (at.SuccessorValue d u next_key)
  needs_successor_value d u next_key f = record { held = ((f.point).0).held; loadable = refl }

  pub next_successor_value : (d : Node) (u : Successor) (next_key : ℕ) → GoesOn h o v n (at.SuccessorValue d u next_key)
  next_successor_value d u next_key f =
      let p = f.point in
      let b = p.0 in
      let deleting = (b.copying).deleting in
      let owns = owns_noted o v u.slot (Value u.slot) n false f.owns in
      let w : View = noting v u.slot (Value u.slot) n false in
      let s = some_spare w.hands.spare o.spare owns.spare_is ((deleting.1).has_spare deleting.0) in
      fits owns (f.unraised refl) f.tickets (record {
        before = before_loaded d u (Value u.slot) _ (λ t. refl) (λ t b. refl) b;
        aside = p.1;
        knows = record {
          key = known_more_under v.locks u.slot (read_at (Value u.slot) n) u.slot (Key u.slot) next_key refl p.2;
          value_is = known_now v.locks u.slot (Value u.slot) n b.held;
        };
        has_copy = record { held = s.0; spare_is = s.1; slot_is = s.2; known = λ j lt. absurd (omega arith) };
        small = omega arith;
      })

  -- a note of the copy, which is none of the slots
  before_noted : (d : Node) (u : Successor) (copy : ℕ) (field : Field) (number : ℕ) (by_store : Bool) (stage : Stage) → IsAside copy d u
      → BeforeCopy o (plain v) d u → BeforeCopy (go o stage) (plain (noting v copy field number by_store)) d u
  before_noted d u copy field number by_store stage aside p =
      let c = p.copying in
      let kn : Known = record { field = field; number = number; stored = by_store } in
      let now : List HeldLock = change_lock copy (note_lock kn) v.locks in
      let same : (t : ℕ) → copy ≢ t → under now t ≡ under v.locks t =
      λ t ne. under_other v.locks copy (note_lock kn) (λ l. refl) t (λ e. ne (sym e)) in record {
        copying = record {
          quiet = settled_noted o v copy field number by_store None c.quiet;
          deleting = c.deleting;
          both = aside_to v.records v.locks now (key_now o) copy d u aside same c.both;
        };
        unmarked = ap (λ ks. loaded_in ks (Life d.node)) (same d.node aside.node) ∙ p.unmarked;
        clear = clear_changed copy (note_lock kn) (λ l c. c) v.locks p.clear;
        few = subst (λ x. x ≤ 4) (sym (length_change copy (note_lock kn) (λ l. refl) v.locks)) p.few;
        locks_are = p.locks_are;
        held = held_still v.locks copy (note_lock kn) (λ l. refl) u.slot p.held;
      }

  knows_noted : (d : Node) (u : Successor) (copy : ℕ) (kn : Known) (next_key value : ℕ) → IsAside copy d u
      → KnowsSuccessor v.locks u next_key value → KnowsSuccessor (change_lock copy (note_lock kn) v.locks) u next_key value
  knows_noted d u copy kn next_key value aside knows =
      knows_to v.locks (change_lock copy (note_lock kn) v.locks) u next_key value
      (under_other v.locks copy (note_lock kn) (λ l. refl) u.slot (λ e. aside.successor (sym e))) knows

  pub needs_copy_field : (d : Node) (u : Successor) (next_key value i : ℕ) → IsGiven k o v n (at.CopyField d u next_key value i)
  needs_copy_field d u next_key value i f = let c = (f.point).has_copy in
      (c.held, record { holder = inr (c.spare_is, c.slot_is); content = content_is i (f.point).small (or_root o.spare) })

  pub next_copy_field : (d : Node) (u : Successor) (next_key value i : ℕ) → GoesOn h o v n (at.CopyField d u next_key value i)
  next_copy_field d u next_key value i f = by (i == 3) refl
    where
      copy : ℕ
      copy = or_root o.spare

      field : Field
      field = content copy i

      number : ℕ
      number = contents next_key value d.left d.right i

      by : (z : Bool) → (i == 3) ≡ z → let st : Stage = cond z (at.CopyAge d u next_key) (at.CopyField d u next_key value (i + 1)) in
          Fits (go o st) st (noting v copy field number true)
      by true e =
          let p = f.point in
          let three : i ≡ 3 = eqb-true i 3 e in
          let four : suc i ≡ 4 = omega arith in fits (owns_noted o v copy field number true f.owns) (f.unraised refl) f.tickets (
            before_noted d u copy field number true _ p.aside p.before,
            record {
              aside = p.aside;
              value = value;
              knows = knows_noted d u copy (stored_at field number) next_key value p.aside p.knows;
              has_copy = subst (HasCopy (note_option copy (stored_at field number) v.hands.spare) copy d next_key value) four
                  (filled_more v.hands.spare copy d next_key value i p.small p.has_copy);
            },
          )
      by false e =
          let p = f.point in
          let ne : i ≢ 3 = (λ same. absurd (let q : true ≡ false = sym (eq-eqb i 3 same) ∙ e in cc)) in
          let one : suc i ≡ i + 1 = omega arith in fits (owns_noted o v copy field number true f.owns) (f.unraised refl) f.tickets (record {
            before = before_noted d u copy field number true _ p.aside p.before;
            aside = p.aside;
            knows = knows_noted d u copy (stored_at field number) next_key value p.aside p.knows;
            has_copy = subst (HasCopy (note_option copy (stored_at field number) v.hands.spare) copy d next_key value) one
                (filled_more v.hands.spare copy d next_key value i p.small p.has_copy);
            small = (let le = p.small in omega arith);
          })

  pub needs_copy_age : (d : Node) (u : Successor) (next_key : ℕ) → IsGiven k o v n (at.CopyAge d u next_key)
  needs_copy_age d u next_key f = let c = ((f.point).1).has_copy in (c.held, inr (c.spare_is, c.slot_is))

  pub next_copy_age : (d : Node) (u : Successor) (next_key : ℕ) → GoesOn h o v n (at.CopyAge d u next_key)
  next_copy_age d u next_key f =
      let p = f.point in
      let copy : ℕ = or_root o.spare in
      let q = p.1 in fits (owns_noted o v copy (Life copy) n false f.owns) (f.unraised refl) f.tickets (
        before_noted d u copy (Life copy) n false _ q.aside p.0,
        record {
          aside = q.aside;
          value = q.value;
          knows = knows_noted d u copy (read_at (Life copy) n) next_key q.value q.aside q.knows;
          has_copy = aged v.hands.spare copy d next_key q.value n q.has_copy;
        },
      )

  -- the lock of the copy
  pub needs_copy_lock : (d : Node) (u : Successor) (next_key : ℕ) → IsGiven k o v n (at.CopyLock d u next_key)
  needs_copy_lock d u next_key f = let p = (f.point).0 in
      let few = p.few in record { outside = ((p.copying).quiet).outside; few = omega arith }

  under_new : (copy t : ℕ) (ls : List HeldLock) → copy ≢ t → under (new_lock copy ∷ ls) t ≡ under ls t
  under_new copy t ls ne = ap (λ b. known_of (cond b (Some (new_lock copy)) (lock_of ls t))) (ne_eqb copy t ne)

  pub next_copy_lock : (d : Node) (u : Successor) (next_key : ℕ) → GoesOn h o v n (at.CopyLock d u next_key)
  next_copy_lock d u next_key f = got (n == 0)
    where
      copy : ℕ
      copy = or_root o.spare

      got : (z : Bool) → let o' : Own = cond z (go (record o { locks = copy ∷ o.locks }) (at.CopyMark d u next_key))
          (go o (cond (is_none_left o.locks) at.EnterClock (at.Unlock last.Again))) in
          Fits o' o'.stage (cond z (record v { locks = new_lock copy ∷ v.locks }) v)
      got true =
          let p = (f.point).0 in
          let q = (f.point).1 in
          let c = p.copying in
          let now : List HeldLock = new_lock copy ∷ v.locks in
          let same : (t : ℕ) → copy ≢ t → under now t ≡ under v.locks t = λ t ne. under_new copy t v.locks ne in
          fits (owns_more o v copy f.owns) (f.unraised refl) f.tickets (record {
            copying = record {
              quiet = c.quiet;
              deleting = c.deleting;
              both = aside_to v.records v.locks now (key_now o) copy d u q.aside same c.both;
            };
            filled = record {
              aside = q.aside;
              value = q.value;
              knows = knows_to v.locks now u next_key q.value (same u.slot (q.aside).successor) q.knows;
              has_copy = q.has_copy;
            };
            unmarked = ap (λ ks. loaded_in ks (Life d.node)) (same d.node (q.aside).node) ∙ p.unmarked;
            clear = each_more IsClear (new_lock copy) v.locks (refl, refl, refl) p.clear;
            locks_are = ap (λ xs. copy ∷ xs) p.locks_are;
            copy_held = holds_new copy v.locks;
          })
      got false =
          let p = (f.point).0 in
          let c = p.copying in
          let q = c.quiet in
          let some : is_none_left o.locks ≡ false = ap is_none_left p.locks_are ∙ some_locks d u in
          subst (λ z. let st : Stage = cond z at.EnterClock (at.Unlock last.Again) in Fits (go o st) st v) (sym some)
          (fits f.owns (f.unraised refl) f.tickets (quiet_unlocking q q.turn_is p.clear some, settled_hand o v q, (c.deleting).1))

  -- the mark of the node
  pub needs_copy_mark : (d : Node) (u : Successor) (next_key : ℕ) → IsGiven k o v n (at.CopyMark d u next_key)
  needs_copy_mark d u next_key f =
      let p = f.point in
      let both = (p.copying).both in
      let r : Reading = both.0 in
      let held = held_by_load v d.node (Life d.node) (2 * d.generation) p.unmarked in
      record {
        lock = held.0;
        locked = held.1;
        life_now = held.2;
        unmarked = omega arith;
        why = inl (record {
          reading = r;
          parent = d.parent;
          left = d.left;
          right = d.right;
          side = d.side;
          unmarked = (d.generation, (both.2).recorded, p.unmarked);
          children = inr (u.parent, u.slot, both_children v r d u both.2 both.3);
        });
      }

  pub next_copy_mark : (d : Node) (u : Successor) (next_key : ℕ) → GoesOn h o v n (at.CopyMark d u next_key)
  next_copy_mark d u next_key f =
      let p = f.point in
      let copy : ℕ = or_root o.spare in
      let c = p.copying in
      let both = c.both in
      let r : Reading = both.0 in
      let q = p.filled in
      let kn : Known = stored_at (Life d.node) (2 * d.generation + 1) in
      let noted : List HeldLock = change_lock d.node (note_lock kn) v.locks in
      let now : List HeldLock = change_lock d.node (with_mark true) noted in
      let apart = (both.3).apart in
      let s = under_marked v.locks d u.slot apart.from_node in
      let owns = owns_noted o v d.node (Life d.node) (2 * d.generation + 1) true f.owns in
      fits (owns_relocked o (noting v d.node (Life d.node) (2 * d.generation + 1) true) _ (slots_change d.node (with_mark true)
      (λ l. refl) noted) owns) (f.unraised refl)
      (let t = f.tickets in let two = delete_owed o.op o.hand o.retired (c.deleting).0 in omega arith) (
        record {
          copying = record {
            quiet = settled_noted o v d.node (Life d.node) (2 * d.generation + 1) true None c.quiet;
            deleting = c.deleting;
            both = (
              r,
              both.1,
              node_marked v.records v.locks r d both.2,
              successor_to v.locks now r d u (λ ne. (let e = under_marked v.locks d u.parent ne in
                  (life_same v.locks now u.parent e, links_same v.locks now u.parent e))) (life_same v.locks now u.slot s)
                  (links_same v.locks now u.slot s) both.3,
            );
          };
          filled = record {
            aside = q.aside;
            value = q.value;
            knows = knows_to v.locks now u next_key q.value s q.knows;
            has_copy = copy_elsewhere v.hands.spare copy d.node kn d next_key q.value 4 (q.aside).node q.has_copy;
          };
          marked = is_marked v d p.unmarked;
          clear = clear_marked kn d.node v.locks p.clear;
          locks_are = p.locks_are;
          copy_held = held_still noted d.node (with_mark true) (λ l. refl) copy
              (held_still v.locks d.node (note_lock kn) (λ l. refl) copy p.copy_held);
        },
        made_even o.front,
      )

  -- the link of the copy
  pub needs_copy_store : (d : Node) (u : Successor) (next_key copy front : ℕ) → k.room ≡ o.room → 16 ≤ o.room
      → IsGiven k o v n (at.Store (update.Copy d u next_key copy) front)
  needs_copy_store d u next_key copy front room some_room f =
      let p = f.point in
      let c = p.copying in
      let both = c.both in
      let r : Reading = both.0 in
      let x = p.filled in
      let has = x.has_copy in
      subst (λ y. NeedsCopyLink k.room v (commit_of v) y d.parent d.side d.node copy u.slot u.parent (key_now o) next_key)
      (sym (spare_is v has.held has.spare_is)) (record {
        has_commit = may_update v (c.quiet).turn_is (let t = f.tickets in omega arith);
        room = (let few = ((c.deleting).1).room (c.deleting).0 in
            let long = same_length v.hands.retired o.retired f.owns.retired_are in omega arith);
        reading = r;
        sought = both.1;
        left = d.left;
        right = d.right;
        value = x.value;
        records = both_children v r d u both.2 both.3;
        marked = marked_node v r d both.2 p.marked;
        spare_is = (has.spare_is, has.slot_is);
        locked = p.copy_held;
        old_key = (x.knows).key;
        old_value = (x.knows).value_is;
        key_is = has.known 0 (omega arith);
        value_is = has.known 1 (omega arith);
        left_is = has.known 2 (omega arith);
        right_is = has.known 3 (omega arith);
      })

  pub next_copy_store : (d : Node) (u : Successor) (next_key copy front : ℕ)
      → GoesOn h o v n (at.Store (update.Copy d u next_key copy) front)
  next_copy_store d u next_key copy front f =
      let p = f.point in
      let c = p.copying in
      let both = c.both in
      let has = (p.filled).has_copy in
      let held : Held = has.held in
      let kn : Known = stored_at (Link d.parent d.side) held.slot in
      let noted : List HeldLock = change_lock d.parent (note_lock kn) v.locks in
      let now : List HeldLock = change_lock d.node (with_mark false) noted in
      let apart = (both.3).apart in
      let o' : Own = after o n (at.Store (update.Copy d u next_key copy) front) in
      let linked : View = noting v d.parent (Link d.parent d.side) held.slot true in
      let stored : View = record linked { locks = now } in
      let owns = owns_noted o v d.parent (Link d.parent d.side) held.slot true f.owns in
      let q = settled_noted o v d.parent (Link d.parent d.side) held.slot true (Some (record { found = front; stored = false })) c.quiet in
      let old = held_by_load v u.slot (Life u.slot) (2 * u.generation) (both.3).life in
      let locked : lock_of now u.slot ≡ Some old.0 =
      change_other d.node (with_mark false) (λ l. refl) noted u.slot apart.from_node
      ∙ change_other d.parent (note_lock kn) (λ l. refl) v.locks u.slot apart.from_parent ∙ old.1 in
      let clear : AreClear now = clear_stored kn d.parent d.node v.locks p.clear in
      let still : (t : ℕ) → Holds v.locks t → Holds now t =
      λ t has. held_still noted d.node (with_mark false) (λ l. refl) t (held_still v.locks d.parent (note_lock kn) (λ l. refl) t has) in
      subst (λ x. Fits o' o'.stage (after_copy_link v x (spare_of v) d.parent d.side d.node u.slot u.parent (key_now o) next_key h))
      (sym (commit_is v _ (c.quiet).turn_is))
      (subst (λ y. Fits o' o'.stage (after_copy_link v (record { found = front; stored = false }) y d.parent d.side d.node u.slot u.parent
      (key_now o) next_key h)) (sym (spare_is v _ has.spare_is))
      (fits (owns_retired (record o { spare = None }) (record stored { hands = record stored.hands { spare = None } })
      (owns_spared o stored
      (owns_relocked o linked now (slots_change d.node (with_mark false) (λ l. refl) noted) owns) None None refl) _ _
      (slots_push v.hands.retired (newly_retired v d.node (length h + 1)) ∙ ap (λ xs. xs ++ d.node ∷ []) f.owns.retired_are))
      (unraised_push v.hands.retired (newly_retired v d.node (length h + 1)) refl (f.unraised refl)) (let t = f.tickets in omega arith) (
        record {
          outside = q.outside;
          turn_is = refl;
          unreserved = q.unreserved;
          paid = q.paid;
          empty = q.empty;
          no_hand = q.no_hand;
          move = record {
            move = new_move held (key_now o) next_key d.node u.slot u.parent (length h);
            is = refl;
            key_is = refl;
            next_is = refl;
            copy_is = has.slot_is;
            old_is = refl;
            parent_is = ap (λ y. cond (u.parent == d.node) y u.parent) has.slot_is;
            waited_is = refl;
          };
          locks_are = p.locks_are;
          parent_held = still_held now still (u.parent == d.node) refl p.copy_held (both.3).link;
          apart = ((p.filled).aside).walk_parent;
          deletes = (c.deleting).0;
        },
        record { lock = old.0; locked = locked; marked_is = (clear_lock now u.slot old.0 clear locked).2; life = old.2 },
        clear,
      )))
    where
      still_held : (now : List HeldLock) → ((t : ℕ) → Holds v.locks t → Holds now t) → (z : Bool) → (u.parent == d.node) ≡ z
          → Holds v.locks copy → HoldsLink v.locks (((f.point).copying).both).0 d u → Holds now (cond z copy u.parent)
      still_held now still true e has link = still copy has
      still_held now still false e has link = ⊎_elim
          (λ (x : (u.parent ≡ d.node) × (d.right ≡ u.slot)). absurd (let q : true ≡ false = sym (eq-eqb u.parent d.node x.0) ∙ e in cc))
          (λ x. (let l = held_by_load v u.parent (Life u.parent) (2 * u.parent_generation) x.2 in still u.parent (l.0, l.1)))
          link
