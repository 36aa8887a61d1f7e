-- The points of a delete under its locks, up to its verdict: what each step needs is known, and what the next point needs is known after
-- it.
use Rattle.std.proofs.Common.{◌≡◌, ◌≢◌, ◌⊎◌, ℕ, suc, ◌+◌, ◌*◌, ◌==◌, ◌<◌, ◌≤◌, ◌&&◌, ◌||◌, not, cond, Bool, true, false, List, ◌∷◌, length, Option, Some, None, refl, sym, ap, subst, ◌∙◌, inl, inr, ⊎_elim, arith, eq-eqb}
use Rattle.std.proofs.lemmas.Bool.{eqb-true}
use mathlib.Core.Logic.{dite}
use native.Mathlib.Decide.{ℕ_discrete}
use Rattle.prcu_marks.specs.declared.mark.Mark.{Mark}
use Rattle.prcu_marks.specs.declared.mark.Side.TheVariants.{Left, Right}
use Rattle.core_state.specs.declared.shape.Shape.{Shape}
use Rattle.core_state.specs.declared.words.Field.{Field}
use Rattle.core_state.specs.declared.words.Field.TheVariants.{Life, Link}
use Rattle.core_state.specs.declared.view.HeldLock.{HeldLock}
use Rattle.core_state.specs.declared.view.Known.{Known}
use Rattle.core_state.specs.declared.view.Reading.{Reading}
use Rattle.core_state.specs.declared.view.View.{View}
use Rattle.list_laws.specs.Counts.{times}
use Rattle.core_state.specs.Views.{loaded_in, lock_of, change_lock, note_lock, noting, LoadedGeneration}
use Rattle.core_state.specs.Steps.{new_lock}
use Rattle.core_points.specs.declared.stage.Found.{Found}
use Rattle.core_points.specs.declared.stage.Node.{Node}
use Rattle.core_points.specs.declared.stage.Successor.{Successor}
use Rattle.core_points.specs.declared.stage.Target.{Target}
use Rattle.core_points.specs.declared.stage.Stage.{Stage}
use Rattle.core_points.specs.Programs.{Own, go, is_none_left, key_now, last_right, nothing_found, target_word, target_holds, target_lock, target_locks, target_part, target_slot, with_found, after, deleting, past_target_load}
use Rattle.core_state.specs.Acts.{in_slot}
use Rattle.core_points.specs.Facts.{AreClear, Owns, Settled, read_at, table_of}
use Rattle.core_points.specs.DeleteFacts.{ReadsParent, AreGot, BothHold, FewHold, HasLoaded, HasTarget, Holds, HoldsAll, HoldsSuccessorLocks, IsLoadedNow, IsSkipped, IsUnmarked, first_locks, found_number, target_words, two_children, under}
use Rattle.core_points.specs.Fits.{Fits, IsGiven, GoesOn}
use Rattle.core_points.proofs.DeleteSearches.{lacks_child, has_children}
use Rattle.core_points.proofs.Locks.{no_slots, clear_changed, each_more, IsClear, word_held, one_more, held_still, none_in}
use Rattle.core_points.proofs.Notes.{owns_more, owns_noted, quiet_unlocking, fits, settled_noted, settled_calm, settled_hand}
use Rattle.core_points.proofs.Links.{both_true}
use Rattle.core_laws.proofs.Locks.{length_change}
use Rattle.core_points.specs.declared.stage.Last.TheVariants as last
use Rattle.core_points.specs.declared.stage.Stage.TheVariants as at
use Rattle.core_state.specs.declared.act.Part.TheVariants as part
use Rattle.core_laws.proofs.Acting.{part_loadable}

few_locks : (d : Node) (h : Option Successor) → target_locks (record { node = d; successor = h }) ≤ 4
few_locks d None = omega arith
few_locks d (Some u) = by (u.parent == d.node)
  where
    by : (z : Bool) → cond z 3 4 ≤ 4
    by true = omega arith
    by false = omega arith

some_words : (h : Option Successor) → 0 < target_words h
some_words None = omega arith
some_words (Some u) = omega arith

-- One lock more.
pub holds_more : (l : HeldLock) (ls : List HeldLock) (s : ℕ) → Holds ls s → Holds (l ∷ ls) s
holds_more l ls s held = by (l.slot == s) held
  where
    by : (b : Bool) → Holds ls s → (lock : HeldLock) × (cond b (Some l) (lock_of ls s) ≡ Some lock)
    by true held = (l, refl)
    by false held = held

pub holds_new : (s : ℕ) (ls : List HeldLock) → Holds (new_lock s ∷ ls) s
holds_new s ls = (new_lock s, ap (λ b. cond b (Some (new_lock s)) (lock_of ls s)) (eq-eqb s s refl))

got_more : (t : Target) (i : ℕ) (ls : List HeldLock) → AreGot t i ls → (Holds ls (target_lock t i) → ⊥)
    → AreGot t (suc i) (new_lock (target_lock t i) ∷ ls)
got_more t i ls got none j lt =
    dite (ℕ_discrete j i)
    (λ e. (
      subst (Holds (new_lock (target_lock t i) ∷ ls)) (sym (ap (target_lock t) e)) (holds_new (target_lock t i) ls),
      λ l less same. none (subst (Holds ls) (same ∙ ap (target_lock t) e) (got l (omega arith)).0),
    ))
    (λ ne. (let g = got j (omega arith) in (holds_more (new_lock (target_lock t i)) ls (target_lock t j) g.0, g.1)))

-- all of them
got_all : (d : Node) (h : Option Successor) (ls : List HeldLock) → let t : Target = record { node = d; successor = h } in
    length ls ≡ target_locks t → AreGot t (target_locks t) ls → HoldsAll ls t
got_all d None ls long got = record {
  few = omega arith;
  parent = (got 0 (omega arith)).0;
  node = (got 1 (omega arith)).0;
  apart = (got 1 (omega arith)).1 0 (omega arith);
  successor = tt;
}
got_all d (Some u) ls long got = by (u.parent == d.node) refl long got
  where
    t : Target
    t = two_children d u

    by : (z : Bool) → (u.parent == d.node) ≡ z → length ls ≡ cond z 3 4 → AreGot t (cond z 3 4) ls → HoldsAll ls t
    by true e long got =
        let two : target_lock t 2 ≡ u.slot = ap (λ z. cond z u.slot u.parent) e in
        let g = got 2 (omega arith) in
        let node = (got 1 (omega arith)).0 in
        let same : u.parent ≡ d.node = eqb-true u.parent d.node e in record {
          few = omega arith;
          parent = (got 0 (omega arith)).0;
          node = node;
          apart = (got 1 (omega arith)).1 0 (omega arith);
          successor = (
            record {
              from_parent = λ x. g.1 0 (omega arith) (sym x ∙ sym two);
              from_node = λ x. g.1 1 (omega arith) (sym x ∙ sym two);
              walk = λ ne. absurd (ne same);
            },
            subst (Holds ls) two g.0,
            subst (Holds ls) (sym same) node,
          );
        }
    by false e long got =
        let two : target_lock t 2 ≡ u.parent = ap (λ z. cond z u.slot u.parent) e in
        let three : target_lock t 3 ≡ u.slot = ap (λ z. cond z u.slot u.slot) e in
        let g = got 2 (omega arith) in
        let l = got 3 (omega arith) in record {
          few = omega arith;
          parent = (got 0 (omega arith)).0;
          node = (got 1 (omega arith)).0;
          apart = (got 1 (omega arith)).1 0 (omega arith);
          successor = (
            record {
              from_parent = λ x. l.1 0 (omega arith) (sym x ∙ sym three);
              from_node = λ x. l.1 1 (omega arith) (sym x ∙ sym three);
              walk = λ ne. ((λ x. g.1 0 (omega arith) (sym x ∙ sym two)), (λ x. l.1 2 (omega arith) (two ∙ x ∙ sym three)));
            },
            subst (Holds ls) three l.0,
            subst (Holds ls) two g.0,
          );
        }

-- a note leaves them
pub all_noted : (ls : List HeldLock) (t : Target) (s : ℕ) (kn : Known) → HoldsAll ls t → HoldsAll (change_lock s (note_lock kn) ls) t
all_noted ls t s kn all = record {
  few = subst (λ x. x ≤ 4) (sym (length_change s (note_lock kn) (λ l. refl) ls)) all.few;
  parent = held_still ls s (note_lock kn) (λ l. refl) t.node.parent all.parent;
  node = held_still ls s (note_lock kn) (λ l. refl) t.node.node all.node;
  apart = all.apart;
  successor = by t.successor all.successor;
}
  where
    by : (h : Option Successor) → HoldsSuccessorLocks ls t.node h → HoldsSuccessorLocks (change_lock s (note_lock kn) ls) t.node h
    by None u = tt
    by (Some u) held = (
      held.0,
      held_still ls s (note_lock kn) (λ l. refl) u.slot held.1,
      held_still ls s (note_lock kn) (λ l. refl) u.parent held.2,
    )

-- The verdict of a delete with at most one child.
few_verdict : (n : ℕ) (records : List Reading) (locks : List HeldLock) (key : ℕ) (d : Node) (f : Found) → let t : Target =
    record { node = d; successor = None } in
    HasTarget n records key t → HoldsAll locks t → HasLoaded locks t 5 f → target_holds t f ≡ true → let d' : Node =
    record d { left = f.left; right = f.right } in FewHold records locks key d' × IsUnmarked locks d'
few_verdict n records locks key d f has all loads holds =
    let r : Reading = has.reading in
    let reads = has.children in
    let lives = reads.0 in
    let a = both_true (f.parent_life == 2 * d.parent_generation) _ holds in
    let b = both_true (f.link == d.node) _ a.1 in
    let c = both_true (f.life == 2 * d.generation) _ b.1 in (
      (
        r,
        has.key_is,
        record {
          kept = has.kept;
          found = has.found;
          apart = all.apart;
          parent_recorded = lives.parent_life all.apart;
          recorded = lives.node_life;
          parent_life = word 0 (omega arith) ∙ ap Some (eqb-true f.parent_life (2 * d.parent_generation) a.0);
          link = word 1 (omega arith) ∙ ap Some (eqb-true f.link d.node b.0);
          left = word 3 (omega arith);
          right = word 4 (omega arith);
        },
        record { few = lacks_child f.left f.right c.1; had = (d.left, d.right, reads.2, reads.1) },
      ),
      word 2 (omega arith) ∙ ap Some (eqb-true f.life (2 * d.generation) c.0),
    )
  where
    word : (j : ℕ) → j < 5 → let t : Target = record { node = d; successor = None } in
        loaded_in (under locks (target_slot t j)) (target_word t j) ≡ Some (found_number f j)
    word j lt = ⊎_elim (λ (skip : IsSkipped (record { node = d; successor = None }) 5 j). absurd
        (let q : None ≡ Some skip.successor = skip.has in cc)) (λ e. e) (loads j lt)

-- The verdict of a delete with two children.
module _ (n : ℕ) (records : List Reading) (locks : List HeldLock) (key : ℕ) (d : Node) (u : Successor) (f : Found) where
  word : HasLoaded locks (two_children d u) 9 f → (j : ℕ) → (u.parent ≡ d.node → (j ≢ 5) × (j ≢ 4)) → j < 9
      → loaded_in (under locks (target_slot (two_children d u) j)) (target_word (two_children d u) j) ≡ Some (found_number f j)
  word loads j seen lt = ⊎_elim
      (λ (skip : IsSkipped (two_children d u) 9 j).
      (let same : Some u ≡ Some skip.successor = skip.has in
      let is : u ≡ skip.successor = cc in
      let ne = seen (ap (λ (x : Successor). x.parent) is ∙ skip.below_node) in
      ⊎_elim (λ (e : j ≡ 5). absurd (ne.0 e)) (λ e. absurd (ne.1 e.0)) skip.which))
      (λ e. e)
      (loads j lt)

  -- the node's right as it was loaded last, and the link to the successor
  right_link : (r : Reading) → HasLoaded locks (two_children d u) 9 f → (f.successor_link == u.slot) ≡ true → (z : Bool)
      → (u.parent == d.node) ≡ z → (z || (f.successor_parent_life == 2 * u.parent_generation)) ≡ true → ReadsParent r d u → u.slot ≢ 0
      → f.right ≢ 0
      → let right : ℕ = cond z f.successor_link f.right in (loaded_in (under locks d.node) (Link d.node Right) ≡ Some right)
      × (right ≢ 0)
      × (((u.parent ≡ d.node) × (right ≡ u.slot))
      ⊎ ((u.parent ≢ d.node) × LoadedGeneration r u.parent u.parent_generation
      × (loaded_in (under locks u.parent) (Life u.parent) ≡ Some (2 * u.parent_generation))
      × (loaded_in (under locks u.parent) (Link u.parent Left) ≡ Some u.slot)))
  right_link r loads link true e life reads slot_some right_some =
      let same : u.parent ≡ d.node = eqb-true u.parent d.node e in
      let six = word loads 6 (λ x. ((λ y. absurd (omega arith)), (λ y. absurd (omega arith)))) (omega arith) in (
        subst (λ s. loaded_in (under locks s) (Link s Right) ≡ Some f.successor_link) same
            (subst (λ b. loaded_in (under locks u.parent) (in_slot u.parent (cond b (part.Link Right) (part.Link Left)))
            ≡ Some f.successor_link) e six),
        (λ z. slot_some (sym (eqb-true f.successor_link u.slot link) ∙ z)),
        inl (same, eqb-true f.successor_link u.slot link),
      )
  right_link r loads link false e life reads slot_some right_some =
      let ne : u.parent ≢ d.node = (λ same. absurd (let q : true ≡ false = sym (eq-eqb u.parent d.node same) ∙ e in cc)) in
      let six = word loads 6 (λ x. ((λ y. absurd (omega arith)), (λ y. absurd (omega arith)))) (omega arith) in (
        word loads 4 (λ x. absurd (ne x)) (omega arith),
        right_some,
        inr (
          ne,
          reads ne,
          word loads 5 (λ x. absurd (ne x)) (omega arith) ∙ ap Some (eqb-true f.successor_parent_life (2 * u.parent_generation) life),
          subst (λ b. loaded_in (under locks u.parent) (in_slot u.parent (cond b (part.Link Right) (part.Link Left)))
              ≡ Some f.successor_link) e six ∙ ap Some (eqb-true f.successor_link u.slot link),
        ),
      )

  both_verdict : HasTarget n records key (two_children d u) → HoldsAll locks (two_children d u) → HasLoaded locks (two_children d u) 9 f
      → target_holds (two_children d u) f ≡ true
      → BothHold records locks key (record d { left = f.left; right = last_right d (Some u) f }) u
      × IsUnmarked locks (record d { left = f.left; right = last_right d (Some u) f })
  both_verdict has all loads holds =
      let r : Reading = has.reading in
      let apart = (all.successor).0 in
      let reads = has.children in
      let walk = reads.0 in
      let recorded = reads.1 apart in
      let lives = recorded.0 in
      let a = both_true (f.parent_life == 2 * d.parent_generation) _ holds in
      let b = both_true (f.link == d.node) _ a.1 in
      let c = both_true (f.life == 2 * d.generation) _ b.1 in
      let s = both_true (not ((f.left == 0) || (f.right == 0))) _ c.1 in
      let q = both_true ((u.parent == d.node) || (f.successor_parent_life == 2 * u.parent_generation)) _ s.1 in
      let x = both_true (f.successor_link == u.slot) _ q.1 in
      let y = both_true (f.successor_life == 2 * u.generation) _ x.1 in
      let some = has_children f.left f.right (not_true ((f.left == 0) || (f.right == 0)) s.0) in
      let link = right_link r loads x.0 (u.parent == d.node) refl q.0 recorded.1 walk.slot_some some.1 in
      let plain_word = λ (j : ℕ) (low : (j ≢ 5) × (j ≢ 4)) (lt : j < 9). word loads j (λ below. low) lt in (
        (
          r,
          has.key_is,
          record {
            kept = has.kept;
            found = has.found;
            apart = all.apart;
            parent_recorded = lives.parent_life all.apart;
            recorded = lives.node_life;
            parent_life = plain_word 0 ((λ e. absurd (omega arith)), (λ e. absurd (omega arith))) (omega arith)
                ∙ ap Some (eqb-true f.parent_life (2 * d.parent_generation) a.0);
            link = plain_word 1 ((λ e. absurd (omega arith)), (λ e. absurd (omega arith))) (omega arith)
                ∙ ap Some (eqb-true f.link d.node b.0);
            left = plain_word 3 ((λ e. absurd (omega arith)), (λ e. absurd (omega arith))) (omega arith);
            right = link.0;
          },
          record {
            left_some = some.0;
            right_some = link.1;
            had = ((d.left, walk.left_some, walk.left_loaded), (d.right, walk.right_some, walk.right_loaded));
            walk = walk.walk;
            apart = apart;
            link = link.2;
            recorded = recorded.2;
            life = plain_word 7 ((λ e. absurd (omega arith)), (λ e. absurd (omega arith))) (omega arith)
                ∙ ap Some (eqb-true f.successor_life (2 * u.generation) y.0);
            left = plain_word 8 ((λ e. absurd (omega arith)), (λ e. absurd (omega arith))) (omega arith)
                ∙ ap Some (eqb-true f.successor_left 0 y.1);
          },
        ),
        plain_word 2 ((λ e. absurd (omega arith)), (λ e. absurd (omega arith))) (omega arith)
            ∙ ap Some (eqb-true f.life (2 * d.generation) c.0),
      )
    where
      not_true : (b : Bool) → not b ≡ true → b ≡ false
      not_true true e = cc
      not_true false e = refl

module _ (k : Shape) (h : List Mark) (o : Own) (v : View) (n : ℕ) where
  pub needs_target_lock : (t : Target) (i : ℕ) → IsGiven k o v n (at.TargetLock t i)
  needs_target_lock t i f = let p = f.point in let few = few_locks t.node t.successor in let long = p.long in let lt = p.more in
      record { outside = (p.quiet).outside; few = omega arith }

  pub next_target_lock : (t : Target) (i : ℕ) → (n ≡ 0 → Holds v.locks (target_lock t i) → ⊥) → GoesOn h o v n (at.TargetLock t i)
  next_target_lock t i busy f = got (n == 0) refl
    where
      s : ℕ
      s = target_lock t i

      one : i + 1 ≡ suc i
      one = omega arith

      clear_more : AreClear (new_lock s ∷ v.locks)
      clear_more = each_more IsClear (new_lock s) v.locks (refl, refl, refl) (f.point).clear

      locked : AreGot t i v.locks → n ≡ 0 → AreGot t (i + 1) (new_lock s ∷ v.locks)
      locked got zero_is = subst (λ x. AreGot t x (new_lock s ∷ v.locks)) (sym one) (got_more t i v.locks got (busy zero_is))

      kept : s ∷ o.locks ≡ first_locks t (i + 1)
      kept = ap (λ xs. s ∷ xs) (f.point).locks_are ∙ sym (ap (first_locks t) one)

      long : length (new_lock s ∷ v.locks) ≡ i + 1
      long = (let e = (f.point).long in omega arith)

      rest : (z : Bool) → (i + 1 == target_locks t) ≡ z → n ≡ 0 → let st : Stage =
          cond z (at.TargetLoad t 0 nothing_found) (at.TargetLock t (i + 1)) in
          Fits (go (record o { locks = s ∷ o.locks }) st) st (record v { locks = new_lock s ∷ v.locks })
      rest true e zero_is =
          let p = f.point in
          let all : i + 1 ≡ target_locks t = eqb-true (i + 1) (target_locks t) e in
          fits (owns_more o v s f.owns) (f.unraised refl) f.tickets (record {
            quiet = p.quiet;
            deleting = p.deleting;
            target = p.target;
            clear = clear_more;
            locks_are = kept ∙ ap (first_locks t) all;
            held = got_all t.node t.successor (new_lock s ∷ v.locks) (long ∙ all)
                (subst (λ x. AreGot t x (new_lock s ∷ v.locks)) all (locked p.got zero_is));
            loaded = (λ j lt. absurd (omega arith));
            more = some_words t.successor;
            now = (λ u has below z. absurd (omega arith));
          })
      rest false e zero_is =
          let p = f.point in
          let ne : i + 1 ≢ target_locks t = (λ all. absurd (let q : true ≡ false = sym (eq-eqb (i + 1) (target_locks t) all) ∙ e in cc)) in
          fits (owns_more o v s f.owns) (f.unraised refl) f.tickets (record {
            quiet = p.quiet;
            deleting = p.deleting;
            target = p.target;
            clear = clear_more;
            long = long;
            locks_are = kept;
            got = locked p.got zero_is;
            more = (let lt = p.more in omega arith);
          })

      taken : (z : Bool) → is_none_left o.locks ≡ z → let st : Stage = cond z at.EnterClock (at.Unlock last.Again) in Fits (go o st) st v
      taken true e =
          let p = f.point in
          let q = p.quiet in
          let bare = no_slots v.locks (λ x. f.owns.locks_are x ∙ ap (times x) (none_in o.locks e)) in
          fits f.owns (f.unraised refl) f.tickets (q.outside, settled_calm o v q bare (p.deleting).1)
      taken false e =
          let p = f.point in
          let q = p.quiet in
          fits f.owns (f.unraised refl) f.tickets (quiet_unlocking q q.turn_is p.clear e, settled_hand o v q, (p.deleting).1)

      got : (z : Bool) → (n == 0) ≡ z → let o' : Own =
          cond z (go (record o { locks = s ∷ o.locks })
          (cond (i + 1 == target_locks t) (at.TargetLoad t 0 nothing_found) (at.TargetLock t (i + 1))))
          (go o (cond (is_none_left o.locks) at.EnterClock (at.Unlock last.Again))) in
          Fits o' o'.stage (cond z (record v { locks = new_lock s ∷ v.locks }) v)
      got true e = rest (i + 1 == target_locks t) refl (eqb-true n 0 e)
      got false e = taken (is_none_left o.locks) refl

  -- the loads
  pub needs_target_load : (t : Target) (i : ℕ) (found : Found) → IsGiven k o v n (at.TargetLoad t i found)
  needs_target_load t i found f = let p = f.point in
      record { held = word_held v.locks t i p.held; loadable = part_loadable (target_slot t i) (target_part t i) }

  pub next_target_load : (t : Target) (i : ℕ) (found : Found) → GoesOn h o v n (at.TargetLoad t i found)
  next_target_load t i found f = by t.successor refl
    where
      o' : Own
      o' = after o n (at.TargetLoad t i found)

      s : ℕ
      s = target_slot t i

      field : Field
      field = target_word t i

      f' : Found
      f' = with_found found i n

      w : View
      w = noting v s field n false

      owns : Owns o w
      owns = owns_noted o v s field n false f.owns

      quiet : Settled o w None
      quiet = settled_noted o v s field n false None (f.point).quiet

      clear : AreClear w.locks
      clear = clear_changed s (note_lock (read_at field n)) (λ l c. c) v.locks (f.point).clear

      all : HoldsAll w.locks t
      all = all_noted v.locks t s (read_at field n) (f.point).held

      loads : HasLoaded w.locks t (suc i) f'
      loads = one_more v.locks t i found n (f.point).held (f.point).now (f.point).more (f.point).loaded

      one : i + 1 ≡ suc i
      one = omega arith

      some_left : (xs : List ℕ) → xs ≡ first_locks t (target_locks t) → is_none_left xs ≡ false
      some_left xs e = ap is_none_left e ∙ not_none t.node t.successor
        where
          not_none : (d : Node) (h : Option Successor) → let t : Target = record { node = d; successor = h } in
              is_none_left (first_locks t (target_locks t)) ≡ false
          not_none d None = refl
          not_none d (Some u) = by (u.parent == d.node)
            where
              by : (z : Bool) → is_none_left (first_locks (two_children d u) (cond z 3 4)) ≡ false
              by true = refl
              by false = refl

      -- another word is loaded
      goes_on : (j : ℕ) → j < target_words t.successor → IsLoadedNow t j → HasLoaded w.locks t j f'
          → Fits (go o (at.TargetLoad t j f')) (at.TargetLoad t j f') w
      goes_on j small now has =
          let p = f.point in
          fits owns (f.unraised refl) f.tickets (record {
            quiet = quiet;
            deleting = p.deleting;
            target = p.target;
            clear = clear;
            locks_are = p.locks_are;
            held = all;
            loaded = has;
            more = small;
            now = now;
          })

      again : Fits (go o (at.Unlock last.Again)) (at.Unlock last.Again) w
      again =
          let p = f.point in
          fits owns (f.unraised refl) f.tickets
          (quiet_unlocking quiet quiet.turn_is clear (some_left o.locks p.locks_are), settled_hand o w quiet, (p.deleting).1)

      few : t.successor ≡ None → i ≡ 4 → (z : Bool) → target_holds t f' ≡ z → let st : Stage =
          cond z (deleting (record t.node { left = f'.left; right = f'.right }) None) (at.Unlock last.Again) in Fits (go o st) st w
      few none is false e = again
      few none is true e =
          let p = f.point in
          let d : Node = t.node in
          let x : Target = record { node = d; successor = None } in
          let same : t ≡ x = (λ j. record { node = d; successor = none j }) in
          let five : suc i ≡ 5 = omega arith in
          let q = few_verdict (table_of o) v.records w.locks (key_now o) d f'
          (subst (HasTarget (table_of o) v.records (key_now o)) same p.target) (subst (HoldsAll w.locks) same all)
          (subst (λ x. HasLoaded w.locks x 5 f') same (subst (λ j. HasLoaded w.locks t j f') five loads))
          (subst (λ x. target_holds x f' ≡ true) same e) in
          fits owns (f.unraised refl) f.tickets (record {
            quiet = quiet;
            deleting = p.deleting;
            has_locks = some_left o.locks p.locks_are;
            clear = clear;
            few = q.0;
            unmarked = q.1;
            child_is = refl;
          })

      both : (u : Successor) → t.successor ≡ Some u → i ≡ 8 → (z : Bool) → target_holds t f' ≡ z → let d' : Node =
          record t.node { left = f'.left; right = last_right t.node (Some u) f' } in
          let st : Stage = cond z (deleting d' (Some u)) (at.Unlock last.Again) in Fits (go o st) st w
      both u some is false e = again
      both u some is true e =
          let p = f.point in
          let d : Node = t.node in
          let x : Target = two_children d u in
          let same : t ≡ x = (λ j. record { node = d; successor = some j }) in
          let nine : suc i ≡ 9 = omega arith in
          let held = subst (HoldsAll w.locks) same all in
          let q = both_verdict (table_of o) v.records w.locks (key_now o) d u f'
          (subst (HasTarget (table_of o) v.records (key_now o)) same p.target) held
          (subst (λ x. HasLoaded w.locks x 9 f') same (subst (λ j. HasLoaded w.locks t j f') nine loads))
          (subst (λ x. target_holds x f' ≡ true) same e) in
          fits owns (f.unraised refl) f.tickets (record {
            copying = record { quiet = quiet; deleting = p.deleting; both = q.0 };
            unmarked = q.1;
            clear = clear;
            few = held.few;
            locks_are = p.locks_are ∙ ap (λ x. first_locks x (target_locks x)) same;
            held = (held.successor).1;
          })

      by : (h : Option Successor) → t.successor ≡ h → let st : Stage = past_target_load t i f' in Fits (go o st) st w
      by None e = subst (λ h. let st : Stage = elim h as (λ _. Stage) [
        | None ↦ cond (i == 4) (cond (target_holds t f') (deleting (record t.node { left = f'.left; right = last_right t.node h f' }) h)
            (at.Unlock last.Again)) (at.TargetLoad t (i + 1) f')
        | Some u ↦ cond (i == 8) (cond (target_holds t f') (deleting (record t.node { left = f'.left; right = last_right t.node h f' }) h)
            (at.Unlock last.Again)) (cond ((i == 4) && (u.parent == t.node.node)) (at.TargetLoad t 6 f') (at.TargetLoad t (i + 1) f'))
      ] in Fits (go o st) st w) (sym e) (ends (i == 4) refl)
        where
          ends : (z : Bool) → (i == 4) ≡ z → let st : Stage =
              cond z (cond (target_holds t f') (deleting (record t.node { left = f'.left; right = f'.right }) None) (at.Unlock last.Again))
              (at.TargetLoad t (i + 1) f') in Fits (go o st) st w
          ends true is = few e (eqb-true i 4 is) (target_holds t f') refl
          ends false is =
              let small = subst (λ h. i < target_words h) e (f.point).more in
              goes_on (i + 1) (subst (λ h. i + 1 < target_words h) (sym e) (not_last is small))
              (λ u has below. absurd (let q : None ≡ Some u = sym e ∙ has in cc))
              (subst (λ j. HasLoaded w.locks t j f') (sym one) loads)
            where
              not_last : (i == 4) ≡ false → i < 5 → i + 1 < 5
              not_last is lt = dite (ℕ_discrete i 4) (λ same. absurd (let q : true ≡ false = sym (eq-eqb i 4 same) ∙ is in cc))
                  (λ ne. omega arith)
      by (Some u) e = subst (λ h. let st : Stage = elim h as (λ _. Stage) [
        | None ↦ cond (i == 4) (cond (target_holds t f') (deleting (record t.node { left = f'.left; right = last_right t.node h f' }) h)
            (at.Unlock last.Again)) (at.TargetLoad t (i + 1) f')
        | Some u ↦ cond (i == 8) (cond (target_holds t f') (deleting (record t.node { left = f'.left; right = last_right t.node h f' }) h)
            (at.Unlock last.Again)) (cond ((i == 4) && (u.parent == t.node.node)) (at.TargetLoad t 6 f') (at.TargetLoad t (i + 1) f'))
      ] in Fits (go o st) st w) (sym e) (ends (i == 8) refl)
        where
          small : i < 9
          small = subst (λ h. i < target_words h) e (f.point).more

          there : (j : ℕ) → j < 9 → j < target_words t.successor
          there j lt = subst (λ h. j < target_words h) (sym e) lt

          same_as : (x : Successor) → t.successor ≡ Some x → x ≡ u
          same_as x has = (let q : Some x ≡ Some u = sym has ∙ e in cc)

          next : (z : Bool) → (i == 4) ≡ z → (y : Bool) → (u.parent == t.node.node) ≡ y → i ≢ 8 → let st : Stage =
              cond (z && y) (at.TargetLoad t 6 f') (at.TargetLoad t (i + 1) f') in Fits (go o st) st w
          next true four true below ne =
              let five : suc i ≡ 5 = (let q = eqb-true i 4 four in omega arith) in
              let has = subst (λ j. HasLoaded w.locks t j f') five loads in
              goes_on 6 (there 6 (omega arith)) (λ x is b z. absurd (omega arith))
              (λ j lt. dite (ℕ_discrete j 5)
              (λ is. inl (record { successor = u; has = e; below_node = eqb-true u.parent t.node.node below; which = inl is }))
              (λ other. ⊎_elim
              (λ (skip : IsSkipped t 5 j). inl (record {
                successor = skip.successor;
                has = skip.has;
                below_node = skip.below_node;
                which = ⊎_elim (λ (q : j ≡ 5). inl q) (λ q. inr (q.0, absurd (let z = q.1 in omega arith))) skip.which;
              }))
              (λ known. inr known)
              (has j (omega arith))))
          next true four false other ne =
              goes_on (i + 1) (there (i + 1) (let lt = small in omega arith))
              (λ x is b z. absurd (let q : true ≡ false =
              sym (eq-eqb u.parent t.node.node (sym (ap (λ (y : Successor). y.parent) (same_as x is)) ∙ b)) ∙ other in cc))
              (subst (λ j. HasLoaded w.locks t j f') (sym one) loads)
          next false four y below ne =
              goes_on (i + 1) (there (i + 1) (let lt = small in omega arith))
              (λ x is b z. absurd (let q : true ≡ false = sym (eq-eqb i 4 (omega arith)) ∙ four in cc))
              (subst (λ j. HasLoaded w.locks t j f') (sym one) loads)

          ends : (z : Bool) → (i == 8) ≡ z → let st : Stage =
              cond z (cond (target_holds t f') (deleting (record t.node { left = f'.left; right = last_right t.node (Some u) f' }) (Some u))
              (at.Unlock last.Again)) (cond ((i == 4) && (u.parent == t.node.node)) (at.TargetLoad t 6 f') (at.TargetLoad t (i + 1) f')) in
              Fits (go o st) st w
          ends true is = both u e (eqb-true i 8 is) (target_holds t f') refl
          ends false is = next (i == 4) refl (u.parent == t.node.node) refl
              (λ same. absurd (let q : true ≡ false = sym (eq-eqb i 8 same) ∙ is in cc))
