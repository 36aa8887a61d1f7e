-- The link of a copy, K25: the parts on the tree after it, and the law.
use Rattle.std.proofs.Common.{◌≡◌, ◌≢◌, ℕ, ◌*◌, ◌==◌, ◌⊎◌, cond, true, false, length, Some, None, refl, sym, ap, subst, ◌∙◌, ⊎_elim, inl, inr, arith, eq-eqb, ne_eqb, ◌+◌, [], ◌∷◌}
use Rattle.std.proofs.lemmas.Bool.{cases_eq}
use mathlib.Core.Option.{some}
use lib.ListN.{get_elem?}
use Rattle.prcu_marks.specs.declared.mark.Side.TheVariants.{Left, Right}
use Rattle.core_state.specs.declared.words.Field.TheVariants.{Life, Key, Link}
use Rattle.core_state.specs.declared.view.Move.{Move}
use Rattle.core_state.specs.declared.view.View.{View}
use Rattle.core_state.specs.Views.{known_under, HasLock, LoadedGeneration, loaded_in, open_reading}
use Rattle.core_state.specs.Links.{new_move, NeedsCopyLink, after_copy_link}
use Rattle.core_state.specs.Tree.{HoldsMap, IsPending, Belongs, MayPass, IsOldFor}
use Rattle.core_state.specs.Parts.{map_now, IsOldRecorded, IsMoving, AreMoving, IsClear, IsWaitedRetired, IsWaitedMove, GraceParts}
use Rattle.list_laws.proofs.Lists.{each_set, in_second, at_end, somewhere_here, somewhere_still}
use Rattle.core_laws.proofs.Locks.{loaded_known, alive, alive_field}
use Rattle.core_laws.proofs.CopyShape.{c_linked, c_young, c_key, not_c, was_linked, was_old, next_not, next_keyed, copy_map, still_linked, other_place, empty_side, right_of_next}
use Rattle.core_laws.proofs.CopyNeeds.{CopyStep, update_of, copy_link, old_alive, old_lock, old_key, old_low, old_some, copy_some, copy_unread, no_end, copied, deletion, still_locked, node_not_copy, copy_counts, copy_front, updates_longer, old_young, copy_step, copy_relinks, copy_slots}
use Rattle.core_laws.proofs.Updates.{delete_map, kept, node_key, node_lock, node_marked, right_is, settled, some_node}
use Rattle.core_laws.proofs.ChartChanges.{put, put-same, put-other, moved, moved-same, moved-other}
use Rattle.core_frames.proofs.Marks.{delete_plain, delete_done, delete_reuse, delete_gone_here, delete_gone_other, delete_last_other}
use Rattle.core_laws.proofs.Stores.{moving_left}
use Rattle.prcu_marks.specs.declared.mark.Mark.TheVariants.{Unlinked}
use Rattle.prcu_marks.specs.declared.mark.Side.{Side}
use Rattle.prcu_model.specs.declared.operation.Op.TheVariants.{Del}
use Rattle.prcu_marks.specs.Marks.{gone_at, last_unlinked, greatest_key}
use Rattle.core_state.specs.Steps.{done_by}
use Rattle.core_frames.specs.Laws.{IsKept}
use Rattle.core_frames.proofs.PlainLaws.{entered_before, told_now}
use Rattle.core_laws.proofs.LinkParts.{locks_after, emptied_still, link_back, slots_after}
use Rattle.core_laws.proofs.LinkSteps.{LinkReads, link_kept, LinkStep, not_gone, listings_past}
use Rattle.core_frames.proofs.WholeFrames.{Stepper, StepKeeps, waited_early, waited_more, waited_back, grace_plain}
use Rattle.core_frames.proofs.WaitFrames.{retired_still, grace_frame_by}
use Rattle.prcu_marks.specs.declared.commit.Commit.{Commit}
use Rattle.core_state.specs.declared.view.Held.{Held}
use Rattle.core_frames.proofs.TreeFrames.{may_by, old_by}

-- The link of a copy: the parts on the tree: shape, map and pending moves.

module _ (z : CopyStep) where
  open z use {who.{k, m, vs, h, id, v, there, inv, inv.{chart as g}}, held.{slot as c}}
  open copied z use {new, to, w, us, hs}

  abbrev pub move_now : Move
  move_now = new_move z.held z.needs.reading.key z.next_key z.d z.u z.q (length h)

  -- where the parent of the old successor stands
  record HangsFrom : Type 0 where
    pub parent : g.up z.u ≡ z.q
    pub on : g.side z.u ≡ cond (z.q == z.d) Right Left
    pub apart : z.q ≢ c
    pub locked : HasLock v z.q

  up_is : HangsFrom
  up_is = ⊎_elim
      (λ (e : (z.q ≡ z.d) × (z.needs.right ≡ z.u)).
      (let i = inv.tree.shape.below z.d z.u Right (node_marked (deletion z)).0 (right_is (deletion z) ∙ e.1) (old_some z) in record {
        parent = i.up ∙ sym e.0;
        on = i.side ∙ ap (λ t. cond t Right Left) (sym (eq-eqb z.q z.d e.0));
        apart = λ f. node_not_copy z (sym e.0 ∙ f);
        locked = subst (HasLock v) (sym e.0) (node_lock (deletion z));
      }))
      (λ (e : (z.q ≢ z.d) × ((generation : ℕ) × LoadedGeneration z.needs.reading z.q generation
      × (loaded_in (known_under v z.q) (Life z.q) ≡ Some (2 * generation)))
      × (loaded_in (known_under v z.q) (Link z.q Left) ≡ Some z.u)).
      (let l = e.1 in
      let a = alive k m vs h inv id v there z.needs.reading z.q l.0 (kept (deletion z)) l.1
      (loaded_known (known_under v z.q) (Life z.q) (2 * l.0) l.2) in
      let link = alive_field k m vs h inv id v there z.needs.reading z.q (kept (deletion z)) a (Link z.q Left) z.u
      (loaded_known (known_under v z.q) (Link z.q Left) z.u e.2) in
      let i = inv.tree.shape.below z.q z.u Left a.on link (old_some z) in
      record {
        parent = i.up;
        on = i.side ∙ ap (λ t. cond t Right Left) (sym (ne_eqb z.q z.d e.0));
        apart = λ f. not_c (copy_link z) z.q a.on f;
        locked = (a.lock, a.locked);
      }))
      z.needs.records.link

  pub old_not_copy : z.u ≢ c
  old_not_copy = not_c (copy_link z) z.u (old_alive z).on

  parent_is : (to.up z.u ≡ move_now.parent) × (to.side z.u ≡ cond (move_now.parent == c) Right Left) × HasLock w move_now.parent
  parent_is = ⊎_elim
      (λ (e : z.q ≡ z.d).
      (let is : move_now.parent ≡ c = ap (λ t. cond t c z.q) (eq-eqb z.q z.d e) in (
        up ∙ ap (λ x. moved z.d c x) up_is.parent ∙ moved-same z.d c z.q e ∙ sym is,
        side ∙ up_is.on ∙ ap (λ t. cond t Right Left) (eq-eqb z.q z.d e ∙ sym (eq-eqb move_now.parent c is)),
        subst (HasLock w) (sym is) (still_locked z c z.needs.locked),
      )))
      (λ ne.
      (let is : move_now.parent ≡ z.q = ap (λ t. cond t c z.q) (ne_eqb z.q z.d ne) in (
        up ∙ ap (λ x. moved z.d c x) up_is.parent ∙ moved-other z.d c z.q ne ∙ sym is,
        side ∙ up_is.on ∙ ap (λ t. cond t Right Left) (ne_eqb z.q z.d ne ∙ sym (ne_eqb move_now.parent c (λ f. up_is.apart (sym is ∙ f)))),
        subst (HasLock w) (sym is) (still_locked z z.q up_is.locked),
      )))
      (cases_eq z.q z.d)
    where
      up : to.up z.u ≡ moved z.d c (g.up z.u)
      up = put-other (λ y. moved z.d c (g.up y)) c z.p z.u old_not_copy

      side : to.side z.u ≡ g.side z.u
      side = put-other g.side c z.b z.u old_not_copy

  recorded_now : IsOldRecorded new w z.u
  recorded_now =
      let a = old_alive z in
      let l = still_locked z z.u (old_lock z) in
      record {
        reading = z.needs.reading;
        generation = a.generation;
        lock = l.0;
        kept = z.needs.records.records.kept;
        loaded = a.recorded;
        locked = l.1;
        same = inl a.life;
      }

  moving_now : IsMoving new to hs w move_now
  moving_now = record {
    order = (let a = next_keyed (copy_link z) in let low = a.low in let b = old_low z in let e = node_key (deletion z) in
        let f = old_key z in omega arith);
    copy_some = copy_some z;
    copy_linked = c_linked (copy_link z);
    copy_young = c_young (copy_link z);
    copy_key = c_key (copy_link z) ∙ old_key z;
    old_linked = still_linked (copy_link z) z.u (old_alive z).on (next_not (copy_link z));
    old_old = put-same (put g.old c false) z.u true z.u refl;
    old_key = old_key z;
    same_value = (copy_link z).value;
    parent = parent_is.0;
    side = parent_is.1;
    copy_lock = still_locked z c z.needs.locked;
    old_lock = still_locked z z.u (old_lock z);
    parent_lock = parent_is.2;
    made = delete_done h (update_of z) z.d;
    recorded = recorded_now;
    unmet = λ r generation has loaded e. copy_unread z id v r generation there (in_second (open_reading v.section) v.records r has) loaded
        (let f : m (Life c) ≡ 2 * generation = e in omega arith);
  }

  -- the moves of other views
  moving_other : (j : ℕ) (u : View) (move : Move) → get_elem? vs j ≡ some u → u.moving ≡ Some move → IsMoving new to hs u move
  moving_other j u move e is =
      let i = inv.tree.moves.each j u e move is in
      let far_d = no_end z z.d (node_lock (deletion z)) j u move e is in
      let far_u = no_end z z.u (old_lock z) j u move e is in
      let old_c : move.old ≢ c = (λ f. not_c (copy_link z) move.old i.old_linked f) in
      moving_left m new g to h hs u u move (record {
        copy_linked = still_linked (copy_link z) move.copy.slot i.copy_linked far_d.0;
        copy_old = was_old (copy_link z) move.copy.slot i.copy_linked far_u.0;
        copy_key = refl;
        copy_value = refl;
        copy_life = refl;
        old_linked = still_linked (copy_link z) move.old i.old_linked far_d.1;
        old_old = was_old (copy_link z) move.old i.old_linked far_u.1;
        old_key = refl;
        old_value = refl;
        parent = put-other (λ y. moved z.d c (g.up y)) c z.p move.old old_c
            ∙ moved-other z.d c (g.up move.old) (λ f. far_d.2 (sym i.parent ∙ f));
        side = put-other g.side c z.b move.old old_c;
        held = λ s has. has;
        generation = λ l generation locked has. (l, locked, has);
        place = refl;
        records = refl;
        longer = (delete_plain h (update_of z) z.d).longer;
      }) i

  -- a pending move of before is one of another view
  pub pending_still : (move : Move) → IsPending vs move → IsPending us move
  pending_still move i = somewhere_still vs id v w there (λ (mine : v.moving ≡ Some move).
      absurd (let q : Some move ≡ None = sym mine ∙ settled (deletion z) in cc)) i

  pub pending_now : IsPending us move_now
  pending_now = somewhere_here vs id v w there refl

  -- who has which move afterwards
  whose : (j : ℕ) (u : View) (move : Move) → get_elem? us j ≡ some u → u.moving ≡ Some move
      → ((j ≡ id) × (move_now ≡ move)) ⊎ ((j ≢ id) × (get_elem? vs j ≡ some u))
  whose j u move e is =
      each_set (λ i x. x.moving ≡ Some move → ((i ≡ id) × (move_now ≡ move)) ⊎ ((i ≢ id) × (get_elem? vs i ≡ some x))) vs id w
      (λ f. inl (refl, (let q : move_now ≡ move = cc in q)))
      (λ i x ne f g. inr (ne, f)) j u e is

  pub copy_map_after : HoldsMap new to (map_now hs)
  copy_map_after = subst (HoldsMap new to)
      (sym (delete_map h v.allowance.place z.needs.reading.key z.d (m (Key z.d)) (node_key (deletion z))))
      (copy_map (copy_link z) (map_now h) inv.tree.map)

  pub copy_moves : AreMoving new to hs us
  copy_moves = record {
    each = each_set (λ j u. (move : Move) → u.moving ≡ Some move → IsMoving new to hs u move) vs id w
        (λ move is. subst (IsMoving new to hs w) (let q : move_now ≡ move = cc in q) moving_now)
        (λ j u ne e move is. moving_other j u move e is);
    every = λ s l o. ⊎_elim
        (λ (e : s ≡ z.u). record { move = move_now; pending = pending_now; old = sym e })
        (λ ne.
        (let nc : s ≢ c = (λ e. (let q : false ≡ true = sym (c_young (copy_link z)) ∙ ap to.old (sym e) ∙ o in absurd (cc))) in
        let was = was_linked (copy_link z) s l nc in
        let a = inv.tree.moves.every s was.0 (sym (was_old (copy_link z) s was.0 ne) ∙ o) in
        record { move = a.move; pending = pending_still a.move a.pending; old = a.old }))
        (cases_eq s z.u);
    one_old = λ i j a b x y ea eb ia ib e. one i j a b x y ea eb ia ib e (whose i a x ea ia) (whose j b y eb ib);
    one_copy = λ i j a b x y ea eb ia ib e. two i j a b x y ea eb ia ib e (whose i a x ea ia) (whose j b y eb ib);
  }
    where
      one : (i j : ℕ) (a b : View) (x y : Move) → get_elem? us i ≡ some a → get_elem? us j ≡ some b → a.moving ≡ Some x → b.moving ≡ Some y
          → x.old ≡ y.old
          → ((i ≡ id) × (move_now ≡ x)) ⊎ ((i ≢ id) × (get_elem? vs i ≡ some a))
          → ((j ≡ id) × (move_now ≡ y)) ⊎ ((j ≢ id) × (get_elem? vs j ≡ some b)) → i ≡ j
      one i j a b x y ea eb ia ib e (inl p) (inl q) = p.0 ∙ sym q.0
      one i j a b x y ea eb ia ib e (inl p) (inr q) =
          absurd ((no_end z z.u (old_lock z) j b y q.1 ib).1 (sym e ∙ ap (λ (t : Move). t.old) (sym p.1)))
      one i j a b x y ea eb ia ib e (inr p) (inl q) =
          absurd ((no_end z z.u (old_lock z) i a x p.1 ia).1 (e ∙ ap (λ (t : Move). t.old) (sym q.1)))
      one i j a b x y ea eb ia ib e (inr p) (inr q) = inv.tree.moves.one_old i j a b x y p.1 q.1 ia ib e

      two : (i j : ℕ) (a b : View) (x y : Move) → get_elem? us i ≡ some a → get_elem? us j ≡ some b → a.moving ≡ Some x → b.moving ≡ Some y
          → x.copy.slot ≡ y.copy.slot
          → ((i ≡ id) × (move_now ≡ x)) ⊎ ((i ≢ id) × (get_elem? vs i ≡ some a))
          → ((j ≡ id) × (move_now ≡ y)) ⊎ ((j ≢ id) × (get_elem? vs j ≡ some b)) → i ≡ j
      two i j a b x y ea eb ia ib e (inl p) (inl q) = p.0 ∙ sym q.0
      two i j a b x y ea eb ia ib e (inl p) (inr q) =
          absurd ((no_end z c z.needs.locked j b y q.1 ib).0 (sym e ∙ ap (λ (t : Move). t.copy.slot) (sym p.1)))
      two i j a b x y ea eb ia ib e (inr p) (inl q) =
          absurd ((no_end z c z.needs.locked i a x p.1 ia).0 (e ∙ ap (λ (t : Move). t.copy.slot) (sym q.1)))
      two i j a b x y ea eb ia ib e (inr p) (inr q) = inv.tree.moves.one_copy i j a b x y p.1 q.1 ia ib e

-- The link of a copy, K25, keeps the invariant.

module _ (z : CopyStep) where
  open z use {who.{k, m, vs, h, id, v, there, inv, inv.{chart as g}}, held.{slot as c}, d}
  open copied z use {n, new, to, w, us, hs, gone}

  abbrev step : LinkStep
  step = copy_step z

  -- readers
  young_apart : (s : ℕ) → g.old s ≡ true → (s ≢ d) × (s ≢ z.u)
  young_apart s o = ((λ e. (let f = (copy_link z).young in cc (ap g.old e))), (λ e. (let f = old_young z in cc (ap g.old e))))

  may_still : (key entered s : ℕ) → MayPass vs key entered s → MayPass us key entered s
  may_still key entered s y = may_by y (pending_still z y.move y.pending)

  old_still : (key s : ℕ) → IsOldFor vs key s → IsOldFor us key s
  old_still key s y = old_by y (pending_still z y.move y.pending)

  -- a record of an empty side: the keys left of the successor are those of the move
  recorded_side : (x s : ℕ) (a : Side) → (s ≡ z.u) ⊎ (s ≢ z.u) → (s ≢ z.u → Belongs new to x s a) → Belongs m g x s a
      → IsOldFor us x s ⊎ Belongs new to x s a
  recorded_side x s a (inr ne) stays below = inr (stays ne)
  recorded_side x s Right (inl e) stays below = inr
      (subst (λ y. Belongs new to x y Right) (sym e) (right_of_next (copy_link z) x (subst (λ y. Belongs m g x y Right) e below)))
  recorded_side x s Left (inl e) stays below =
      inl (record {
        move = move_now z;
        pending = pending_now z;
        old = sym e;
        low = (let lo = below.0 in let f = node_key (deletion z) in let q = old_low z in let y = ap g.low e in omega arith);
        high = (let hi = below.1 in let f = old_key z in let y = ap (λ t. m (Key t)) e in omega arith);
      })

  reads : LinkReads step
  reads = record {
    spare = λ j u section e inside s may l o. (let a = young_apart s o in
        (a.0, may_still section.key section.entered s may, was_old (copy_link z) s l a.1 ∙ o));
    other = λ j u section e inside s range some_slot.
        other_place (copy_link z) (map_now h) inv.tree.map section.key
        (inv.seats.sections j u e section inside).key_fits _ (MayPass us section.key section.entered) _ _
        (λ lo hi. record {
          move = move_now z;
          pending = pending_now z;
          old = refl;
          low = (let f = node_key (deletion z) in omega arith);
          high = (let f = old_key z in omega arith);
          before = entered_before k m vs h inv j u section e inside;
        })
        (step.said section.key section.from) (told_now k m vs h inv j u section e inside) s range
        (λ f. some_node (deletion z) (sym f ∙ some_slot f));
    old_for = λ x s _. old_still x s;
    side = λ x s a fits l even root empty below. recorded_side x s a (cases_eq s z.u)
        (λ ne. empty_side (copy_link z) x s a l (λ e. some_node (deletion z)
        (sym e ∙ not_gone step s (inr even) e)) ne root fits empty below) below;
    link_back = link_back step (copy_relinks z);
    emptied = emptied_still step (copy_relinks z);
  }

  -- what was waited for
  clean_after : (s at : ℕ) → gone_at s hs ≡ None → last_unlinked s hs ≡ Some at → IsClear vs at 0 greatest_key
  clean_after s at none last =
      let nd : s ≢ d = (λ e. (let q : None ≡ Some (length h + 1) =
      sym none ∙ ap (λ t. gone_at t hs) e ∙ delete_gone_here h (update_of z) d in absurd (cc))) in
      inv.grace.clean s at (sym (delete_gone_other h (update_of z) d s nd) ∙ none) (sym (delete_last_other h (update_of z) d s nd) ∙ last)

  gone_waited : IsWaitedRetired us hs v.allowance.place gone
  gone_waited = record {
    shown = λ e. absurd (cc);
    noted = λ has. absurd (waited_early v.allowance.place h hs step.plain v.allowance.place (length h + 1) 0 greatest_key
        (omega arith) has);
    clear = λ e. absurd (cc);
  }

  move_waited : IsWaitedMove us hs v.allowance.place (move_now z)
  move_waited = record {
    shown = λ e. absurd (cc);
    noted = λ has. absurd (waited_early v.allowance.place h hs step.plain v.allowance.place (length h) (z.needs.reading.key + 1) z.next_key
        (omega arith) has);
    clear = λ e. absurd (cc);
  }

  grace : GraceParts us hs
  grace = grace_frame_by h hs (waited_more v.allowance.place h hs step.plain)
      (waited_back v.allowance.place h hs step.plain) vs id v w there refl refl
      (grace_plain v.allowance.place h hs step.plain inv.grace.grace) (delete_reuse h (update_of z) d inv.grace.reuse) clean_after
      (λ j r e. ⊎_elim
      (λ (o : get_elem? v.hands.retired j ≡ some r). retired_still h hs (waited_more v.allowance.place h hs step.plain)
      (waited_back v.allowance.place h hs step.plain) vs id v w there refl v.allowance.place r (inv.grace.retired id v there j r o))
      (λ o. subst (IsWaitedRetired us hs v.allowance.place) o.1 gone_waited) (at_end v.hands.retired gone r j e))
      (λ move is. subst (IsWaitedMove us hs v.allowance.place) (let q : move_now z ≡ move = cc in q) move_waited) inv.grace

  pub copy_kept : IsKept k m h new us hs
  copy_kept = link_kept step (record {
    slots = slots_after step (copy_slots z);
    locks = locks_after step (copy_relinks z);
    counts = copy_counts z;
    map = copy_map_after z;
    moves = copy_moves z;
    reads = reads;
    front = copy_front z;
    listings = listings_past step (updates_longer z);
    grace = grace;
  })

pub keeps_copy_link : (z : Stepper) (commit : Commit) (held : Held) (p : ℕ) (b : Side) (d c u q key next_key : ℕ)
    → NeedsCopyLink z.k.room z.v commit held p b d c u q key next_key
    → StepKeeps z (Link p b) c (after_copy_link z.v commit held p b d u q key next_key z.h) (done_by z.v (Del key) ∷ Unlinked d ∷ [])
keeps_copy_link z commit held p b d c u q key next_key needs =
    subst (λ x. NeedsCopyLink z.k.room z.v commit held p b d x u q key next_key
    → StepKeeps z (Link p b) x (after_copy_link z.v commit held p b d u q key next_key z.h) (done_by z.v (Del key) ∷ Unlinked d ∷ []))
    needs.spare_is.1
    (λ same. subst (λ y. StepKeeps z (Link p b) held.slot (after_copy_link z.v commit held p b d u q y next_key z.h)
    (done_by z.v (Del y) ∷ Unlinked d ∷ [])) same.sought (copy_kept (record {
      who = z;
      commit = commit;
      held = held;
      p = p;
      b = b;
      d = d;
      u = u;
      q = q;
      key = key;
      next_key = next_key;
      needs = same;
    })))
    needs
