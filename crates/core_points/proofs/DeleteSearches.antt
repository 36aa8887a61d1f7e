-- The points of a delete up to its locks: its spare, and its section.
use Rattle.std.proofs.Common.{◌≡◌, ℕ, true, false, List, [], ◌∷◌, Option, Some, None, refl, ap, ◌∙◌, arith, ◌≢◌, suc, ◌/◌, ◌==◌, ◌<◌, ◌&&◌, ◌||◌, not, cond, Bool, length, sym, subst, inl, inr, eq-eqb, ne_eqb}
use Rattle.prcu_marks.specs.declared.mark.Mark.{Mark}
use Rattle.prcu_model.specs.declared.operation.Op.{Op}
use Rattle.prcu_model.specs.declared.operation.Op.TheVariants.{Put, Get, Del, Set}
use Rattle.core_state.specs.declared.shape.Shape.{Shape}
use Rattle.core_state.specs.declared.words.Field.TheVariants.{Life, Link}
use Rattle.core_state.specs.declared.view.View.{View}
use Rattle.core_state.specs.Views.{note_option, noting, known_in, LoadedGeneration}
use Rattle.core_state.specs.Steps.{spare_slot, loaded, walked, walking, after_search_load, leaving}
use Rattle.core_state.specs.Links.{seized, LacksChild}
use Rattle.core_points.specs.declared.stage.Aim.TheVariants.{Spare}
use Rattle.core_points.specs.Programs.{Own, is_some, go, target_locks}
use Rattle.core_points.specs.Facts.{is_delete, is_put, read_at, AreClear, table_of}
use Rattle.core_points.specs.Fits.{IsGiven, GoesOn, owed_op, Fits}
use Rattle.core_points.proofs.Notes.{loads_at, fits, here_loaded, life_here, calm_quiet, owns_noted, owns_spared, bare_noted, held_here, spare_noted, StillFound, life_loaded, link_loaded, life_walk, left_walk, life_still, link_still, found_next}
use Rattle.core_points.proofs.Waits.{no_spare}
use Rattle.std.proofs.lemmas.Bool.{eqb-true}
use Rattle.prcu_marks.specs.declared.mark.Side.{Side}
use Rattle.prcu_marks.specs.declared.mark.Side.TheVariants.{Left, Right}
use Rattle.core_state.specs.declared.words.Field.{Field}
use Rattle.core_state.specs.declared.view.HeldLock.{HeldLock}
use Rattle.core_state.specs.declared.view.Known.{Known}
use Rattle.core_state.specs.declared.view.Reading.{Reading}
use Rattle.core_state.specs.declared.view.Section.{Section}
use Rattle.core_state.specs.declared.view.SearchState.TheVariants.{Found as FoundAt}
use Rattle.list_laws.specs.Counts.{IsIn}
use Rattle.core_state.specs.Acts.{section_of}
use Rattle.core_state.specs.declared.act.Part.TheVariants as part
use Rattle.core_laws.proofs.Acting.{section_is}
use Rattle.core_points.specs.declared.stage.Node.{Node}
use Rattle.core_points.specs.declared.stage.Successor.{Successor}
use Rattle.core_points.specs.declared.stage.Target.{Target}
use Rattle.core_points.specs.declared.stage.Stage.{Stage}
use Rattle.core_points.specs.DeleteFacts.{ReadsLives, WalksTo, ReadsParent, ReadsChildren, AreApart}
use Rattle.core_points.proofs.Locks.{no_locks}
use Rattle.core_laws.proofs.LockSteps.{known_still}
use Rattle.core_state.specs.declared.act.Part.TheVariants as part
use Rattle.core_points.specs.declared.stage.Stage.TheVariants as at
use Rattle.core_points.specs.declared.stage.Then.TheVariants as then

-- The points of a delete that takes a spare: what each step needs is known, and what the next point needs is known after it.

pub delete_owed : (op : Op) (hand : Option ℕ) (retired : List ℕ) → is_delete op ≡ true → owed_op op hand retired ≡ 2
delete_owed (Del key) hand retired e = refl
delete_owed (Put key value) hand retired e = cc
delete_owed (Get key) hand retired e = cc
delete_owed (Set key value) hand retired e = cc

pub delete_no_put : (op : Op) → is_delete op ≡ true → is_put op ≡ false
delete_no_put (Del key) e = refl
delete_no_put (Put key value) e = cc
delete_no_put (Get key) e = cc
delete_no_put (Set key value) e = cc

module _ (k : Shape) (h : List Mark) (o : Own) (v : View) (n : ℕ) where
  pub next_age_spare : (s : ℕ) → GoesOn h o v n (at.Age Spare s)
  next_age_spare s f = let p = f.point in fits (owns_noted o v s (Life s) n false f.owns) (f.unraised refl) f.tickets (record {
    outside = p.outside;
    bare = bare_noted v s (Life s) n false [] [] None false p.bare refl;
    held = record { slot = s; known = read_at (Life s) n ∷ (seized s).known; raised = false };
    in_hand = ap (note_option s (read_at (Life s) n)) p.in_hand ∙ ap Some (held_here s (read_at (Life s) n) (seized s) refl);
    slot_is = refl;
    lacks = p.takes;
  })

  pub needs_keep : (s : ℕ) → IsGiven k o v n (at.Keep s)
  needs_keep s f = let p = f.point in (
    p.held,
    record {
      in_hand = (p.in_hand, p.slot_is);
      none = no_spare v.hands.spare o.spare f.owns.spare_is (ap is_some (p.lacks).no_spare);
    },
  )

  pub next_keep : (s : ℕ) → GoesOn h o v n (at.Keep s)
  next_keep s f =
      let p = f.point in
      let owns = owns_noted o v s (Life s) n false f.owns in
      let b = bare_noted v s (Life s) n false [] [] None false p.bare refl in
      fits (owns_spared o (noting v s (Life s) n false) owns (Some s) _
      (spare_noted s (read_at (Life s) n) v.hands.hand ∙ ap spare_slot p.in_hand ∙ ap Some p.slot_is)) (f.unraised refl)
      (let t = f.tickets in let two = delete_owed o.op None o.retired (p.lacks).deletes in omega arith) (
        p.outside,
        record { bare = b; hand = refl; ready = record { empty = λ z. refl; room = λ z. (p.lacks).room; has_spare = λ z. refl } },
      )

-- The points of a delete in its section: what each step needs is known, and what the next point needs is known after it.

-- What a load keeps.
life_kept : (r r' : Reading) (field : Field) (n t g : ℕ) → StillFound r r' field n → field ≢ Life t → LoadedGeneration r t g
    → LoadedGeneration r' t g
life_kept r r' field n t g still ne (life, known, e) = (
  life,
  ap (λ ls. known_in ls (Life t)) still.loads ∙ known_still r.loads field (Life t) n life false (λ same. absurd (ne same)) known,
  e,
)

lives_kept : (r r' : Reading) (field : Field) (n : ℕ) (d : Node) → StillFound r r' field n → (d.parent ≢ d.node → field ≢ Life d.parent)
    → field ≢ Life d.node → ReadsLives r d → ReadsLives r' d
lives_kept r r' field n d still parent node lives = record {
  parent_life = λ ne. life_kept r r' field n d.parent d.parent_generation still (parent ne) (lives.parent_life ne);
  node_life = life_kept r r' field n d.node d.generation still node lives.node_life;
}

in_loads : (r r' : Reading) (field : Field) (n : ℕ) (k : Known) → StillFound r r' field n → IsIn r.loads k → IsIn r'.loads k
in_loads r r' field n k still (i, e) = subst (λ ls. IsIn ls k) (sym still.loads) (suc i, e)

first_load : (r r' : Reading) (field : Field) (n : ℕ) → StillFound r r' field n → IsIn r'.loads (read_at field n)
first_load r r' field n still = subst (λ ls. IsIn ls (read_at field n)) (sym still.loads) (0, refl)

link_no_life : (s t : ℕ) (b : Side) → Link s b ≢ Life t
link_no_life s t b e = cc

life_apart : (s t : ℕ) → s ≢ t → Life s ≢ Life t
life_apart s t ne e = ne (life_is e)
  where
    life_of : Field → ℕ
    life_of (Life x) = x
    life_of _ = 0

    life_is : Life s ≡ Life t → s ≡ t
    life_is e = ap life_of e

-- the walk stays
walk_kept : (r r' : Reading) (field : Field) (n : ℕ) (d : Node) (u : Successor) → StillFound r r' field n → r'.walk ≡ r.walk → WalksTo r d u
    → WalksTo r' d u
walk_kept r r' field n d u still same w = record {
  left_some = w.left_some;
  right_some = w.right_some;
  slot_some = w.slot_some;
  left_loaded = in_loads r r' field n (read_at (Link d.node Left) d.left) still w.left_loaded;
  right_loaded = in_loads r r' field n (read_at (Link d.node Right) d.right) still w.right_loaded;
  walk = same ∙ w.walk;
  slot_stood = still.stood u.slot w.slot_stood;
  parent_stood = still.stood u.parent w.parent_stood;
}

pub lacks_child : (left right : ℕ) → ((left == 0) || (right == 0)) ≡ true → LacksChild left right
lacks_child left right e = by (left == 0) refl e
  where
    by : (z : Bool) → (left == 0) ≡ z → (z || (right == 0)) ≡ true → LacksChild left right
    by true t e = inl (eqb-true left 0 t)
    by false t e = inr (eqb-true right 0 e)

pub has_children : (left right : ℕ) → ((left == 0) || (right == 0)) ≡ false → (left ≢ 0) × (right ≢ 0)
has_children left right e = (
  (λ z. absurd (let q : true ≡ false = sym (ap (λ b. b || (right == 0)) (eq-eqb left 0 z)) ∙ e in cc)),
  (λ z. by (left == 0) (eq-eqb right 0 z) e),
)
  where
    by : (b : Bool) → (right == 0) ≡ true → (b || (right == 0)) ≡ false → ⊥
    by true t e = absurd (cc)
    by false t e = absurd (let q : true ≡ false = sym t ∙ e in cc)

-- a load of the node's right begins the walk, and a load of the left of the slot at which it stands goes on
right_walks : (r : Reading) (d p : ℕ) (b : Side) (n : ℕ) → r.state ≡ FoundAt d p b None → r.walk ≡ None → n ≢ 0
    → loaded r (Link d Right) n ≡ walking (record r { loads = read_at (Link d Right) n ∷ r.loads }) d n
right_walks r d p b n e none ne =
    let r' : Reading = record r { loads = read_at (Link d Right) n ∷ r.loads } in
    link_loaded r d p b d Right n e ∙ ap (λ x. walked r' d x d Right n) none
    ∙ ap (λ z. cond (z && not (n == 0)) (walking r' d n) r') (eq-eqb d d refl)
    ∙ ap (λ z. cond (not z) (walking r' d n) r') (ne_eqb n 0 ne)

left_walks : (r : Reading) (d p : ℕ) (b : Side) (parent slot n : ℕ) → r.state ≡ FoundAt d p b None
    → r.walk ≡ Some (record { parent = parent; slot = slot })
    → let r' : Reading = record r { loads = read_at (Link slot Left) n ∷ r.loads } in
    loaded r (Link slot Left) n ≡ cond (not (n == 0)) (walking r' slot n) r'
left_walks r d p b parent slot n e w =
    let r' : Reading = record r { loads = read_at (Link slot Left) n ∷ r.loads } in
    link_loaded r d p b slot Left n e ∙ ap (λ x. walked r' d x slot Left n) w
    ∙ ap (λ z. cond (z && not (n == 0)) (walking r' slot n) r') (eq-eqb slot slot refl)

module _ (k : Shape) (h : List Mark) (o : Own) (v : View) (n : ℕ) where
  pub needs_parent_life : (p : ℕ) (b : Side) (d : ℕ) → IsGiven k o v n (at.ParentLife p b d)
  needs_parent_life p b d f = let i = (f.point).2 in loads_at v i p part.Life (i.known).0

  pub next_parent_life : (p : ℕ) (b : Side) (d : ℕ) → GoesOn h o v n (at.ParentLife p b d)
  next_parent_life p b d f =
      let d' : Node = record { parent = p; side = b; node = d; parent_generation = n / 2; generation = 0; left = 0; right = 0 } in
      found_next h o v n d p b (Life p) (λ r. IsIn r.stood p × (r.walk ≡ None))
      (λ r. IsIn r.stood p × (LoadedGeneration r p (n / 2) × (r.walk ≡ None)))
      (at.NodeLife d') f.owns (f.unraised refl) f.tickets (f.point).2
      (λ r e here m. (let still = life_still r d p b p n e in (
        still,
        (still.stood p m.0, (life_here r (loaded r (Life p) n) p n still, life_walk r d p b p n e m.1)),
      )))
      (λ section i. ((f.point).0, (f.point).1, i))

  pub needs_node_life : (d : Node) → IsGiven k o v n (at.NodeLife d)
  needs_node_life d f = let i = (f.point).2 in loads_at v i d.node part.Life (i.stands).here

  pub next_node_life : (d : Node) → GoesOn h o v n (at.NodeLife d)
  next_node_life d f =
      let d' : Node = record d { generation = n / 2 } in
      found_next h o v n d.node d.parent d.side (Life d.node)
      (λ r. IsIn r.stood d.parent × (LoadedGeneration r d.parent d.parent_generation × (r.walk ≡ None)))
      (λ r. IsIn r.stood d.parent × (ReadsLives r d' × (r.walk ≡ None))) (at.NodeLeft d') f.owns (f.unraised refl) f.tickets (f.point).2
      (λ r e here m. (let still = life_still r d.node d.parent d.side d.node n e in (
        still,
        (
          still.stood d.parent m.0,
          (
            record {
              parent_life =
                  (λ ne. life_kept r (loaded r (Life d.node) n) (Life d.node) n d.parent d.parent_generation still
                  (life_apart d.node d.parent (λ s. ne (sym s))) (m.1).0);
              node_life = life_here r (loaded r (Life d.node) n) d.node n still;
            },
            life_walk r d.node d.parent d.side d.node n e (m.1).1,
          ),
        ),
      )))
      (λ section i. ((f.point).0, (f.point).1, i))

  pub needs_node_left : (d : Node) → IsGiven k o v n (at.NodeLeft d)
  needs_node_left d f = let i = (f.point).2 in loads_at v i d.node (part.Link Left) (i.stands).here

  pub next_node_left : (d : Node) → GoesOn h o v n (at.NodeLeft d)
  next_node_left d f =
      let d' : Node = record d { left = n } in
      found_next h o v n d.node d.parent d.side (Link d.node Left)
      (λ r. IsIn r.stood d.parent × (ReadsLives r d × (r.walk ≡ None)))
      (λ r. IsIn r.stood d.parent × (ReadsLives r d' × (known_in r.loads (Link d.node Left) ≡ Some n)
      × IsIn r.loads (read_at (Link d.node Left) n) × (r.walk ≡ None))) (at.NodeRight d') f.owns (f.unraised refl) f.tickets (f.point).2
      (λ r e here m. (let still = link_still r d.node d.parent d.side d.node Left n e in
      let r' : Reading = loaded r (Link d.node Left) n in (
        still,
        (
          still.stood d.parent m.0,
          (
            lives_kept r r' (Link d.node Left) n d still (λ ne. link_no_life d.node d.parent Left)
                (link_no_life d.node d.node Left) (m.1).0,
            here_loaded r r' (Link d.node Left) n still,
            first_load r r' (Link d.node Left) n still,
            left_walk r d.node d.parent d.side d.node n e (m.1).1,
          ),
        ),
      )))
      (λ section i. ((f.point).0, (f.point).1, i))

  pub needs_node_right : (d : Node) → IsGiven k o v n (at.NodeRight d)
  needs_node_right d f = let i = (f.point).2 in loads_at v i d.node (part.Link Right) (i.stands).here

  pub next_node_right : (d : Node) → GoesOn h o v n (at.NodeRight d)
  next_node_right d f = by ((d.left == 0) || (n == 0)) refl
    where
      d' : Node
      d' = record d { right = n }

      u : Successor
      u = record { parent = d.node; slot = n; parent_generation = 0; generation = 0 }

      by : (z : Bool) → ((d.left == 0) || (n == 0)) ≡ z → let st : Stage =
          cond z (at.Leave (then.Delete (record { node = d'; successor = None }))) (at.SuccessorLeft d' u) in
          Fits (go o st) st (after_search_load v (section_of v) (Link d.node Right) n)
      by true e = found_next h o v n d.node d.parent d.side (Link d.node Right)
          (λ r. IsIn r.stood d.parent × (ReadsLives r d × (known_in r.loads (Link d.node Left) ≡ Some d.left)
          × IsIn r.loads (read_at (Link d.node Left) d.left) × (r.walk ≡ None)))
          (λ r. IsIn r.stood d.parent × ReadsChildren r d' None) (at.Leave (then.Delete (record { node = d'; successor = None }))) f.owns
          (f.unraised refl)
          (let t = f.tickets in let two = delete_owed o.op o.hand o.retired (f.point).1 in omega arith) (f.point).2
          (λ r s here m. (let still = link_still r d.node d.parent d.side d.node Right n s in
          let r' : Reading = loaded r (Link d.node Right) n in
          let q = m.1 in (
            still,
            (
              still.stood d.parent m.0,
              (
                lives_kept r r' (Link d.node Right) n d still (λ ne. link_no_life d.node d.parent Right)
                    (link_no_life d.node d.node Right) q.0,
                lacks_child d.left n e,
                (
                  ap (λ ls. known_in ls (Link d.node Left)) still.loads
                      ∙ known_still r.loads (Link d.node Right) (Link d.node Left) n d.left false (λ same. absurd (cc)) q.1,
                  here_loaded r r' (Link d.node Right) n still,
                ),
              ),
            ),
          )))
          (λ section i. ((f.point).0, ((f.point).1, i)))
      by false e = let some = has_children d.left n e in
          found_next h o v n d.node d.parent d.side (Link d.node Right)
          (λ r. IsIn r.stood d.parent × (ReadsLives r d × (known_in r.loads (Link d.node Left) ≡ Some d.left)
          × IsIn r.loads (read_at (Link d.node Left) d.left) × (r.walk ≡ None)))
          (λ r. IsIn r.stood d.parent × (ReadsLives r d' × WalksTo r d' u)) (at.SuccessorLeft d' u) f.owns (f.unraised refl) f.tickets
          (f.point).2
          (λ r s here m. (let still = link_still r d.node d.parent d.side d.node Right n s in
          let r' : Reading = loaded r (Link d.node Right) n in
          let is = right_walks r d.node d.parent d.side n s (m.1).3 some.1 in
          let q = m.1 in (
            still,
            (
              still.stood d.parent m.0,
              (
                lives_kept r r' (Link d.node Right) n d still (λ ne. link_no_life d.node d.parent Right)
                    (link_no_life d.node d.node Right) q.0,
                record {
                  left_some = some.0;
                  right_some = some.1;
                  slot_some = some.1;
                  left_loaded = in_loads r r' (Link d.node Right) n (read_at (Link d.node Left) d.left) still q.2;
                  right_loaded = first_load r r' (Link d.node Right) n still;
                  walk = ap (λ (x : Reading). x.walk) is;
                  slot_stood = subst (λ (x : Reading). IsIn x.stood n) (sym is) (0, refl);
                  parent_stood = still.stood d.node here;
                },
              ),
            ),
          )))
          (λ section i. ((f.point).0, (f.point).1, i))

  pub needs_successor_left : (d : Node) (u : Successor) → IsGiven k o v n (at.SuccessorLeft d u)
  needs_successor_left d u f = let i = (f.point).2 in loads_at v i u.slot (part.Link Left) (((i.known).1).1).slot_stood

  pub next_successor_left : (d : Node) (u : Successor) → GoesOn h o v n (at.SuccessorLeft d u)
  next_successor_left d u f = by (n == 0) refl (u.parent == d.node) refl
    where
      more : Reading → Type 0
      more r = IsIn r.stood d.parent × (ReadsLives r d × WalksTo r d u)

      on : Successor
      on = record u { parent = u.slot; slot = n }

      -- the walk ended
      ended : (r : Reading) → r.state ≡ FoundAt d.node d.parent d.side None → (n == 0) ≡ true → more r → let r' : Reading =
          loaded r (Link u.slot Left) n in StillFound r r' (Link u.slot Left) n × more r'
      ended r s e m =
          let q = m.1 in
          let r0 : Reading = record r { loads = read_at (Link u.slot Left) n ∷ r.loads } in
          let r' : Reading = loaded r (Link u.slot Left) n in
          let still = link_still r d.node d.parent d.side u.slot Left n s in
          let is : r' ≡ r0 = left_walks r d.node d.parent d.side u.parent u.slot n s q.1.walk
          ∙ ap (λ z. cond (not z) (walking r0 u.slot n) r0) e in (
            still,
            (
              still.stood d.parent m.0,
              (
                lives_kept r r' (Link u.slot Left) n d still (λ ne. link_no_life u.slot d.parent Left)
                    (link_no_life u.slot d.node Left) q.0,
                walk_kept r r' (Link u.slot Left) n d u still (ap (λ (x : Reading). x.walk) is) q.1,
              ),
            ),
          )

      goes_on : (r : Reading) → r.state ≡ FoundAt d.node d.parent d.side None → (n == 0) ≡ false → more r
          → let r' : Reading = loaded r (Link u.slot Left) n in
          StillFound r r' (Link u.slot Left) n × (IsIn r'.stood d.parent × (ReadsLives r' d × WalksTo r' d on))
      goes_on r s e m =
          let q = m.1 in
          let w = q.1 in
          let r0 : Reading = record r { loads = read_at (Link u.slot Left) n ∷ r.loads } in
          let r' : Reading = loaded r (Link u.slot Left) n in
          let still = link_still r d.node d.parent d.side u.slot Left n s in
          let is : r' ≡ walking r0 u.slot n = left_walks r d.node d.parent d.side u.parent u.slot n s w.walk
          ∙ ap (λ z. cond (not z) (walking r0 u.slot n) r0) e in (
            still,
            (
              still.stood d.parent m.0,
              (
                lives_kept r r' (Link u.slot Left) n d still (λ ne. link_no_life u.slot d.parent Left)
                    (link_no_life u.slot d.node Left) q.0,
                record {
                  left_some = w.left_some;
                  right_some = w.right_some;
                  slot_some = λ z. absurd (let q : true ≡ false = sym (eq-eqb n 0 z) ∙ e in cc);
                  left_loaded = in_loads r r' (Link u.slot Left) n (read_at (Link d.node Left) d.left) still w.left_loaded;
                  right_loaded = in_loads r r' (Link u.slot Left) n (read_at (Link d.node Right) d.right) still w.right_loaded;
                  walk = ap (λ (x : Reading). x.walk) is;
                  slot_stood = subst (λ (x : Reading). IsIn x.stood n) (sym is) (0, refl);
                  parent_stood = still.stood u.slot w.slot_stood;
                },
              ),
            ),
          )

      by : (z : Bool) → (n == 0) ≡ z → (y : Bool) → (u.parent == d.node) ≡ y → let st : Stage =
          cond z (cond y (at.SuccessorLife d u) (at.SuccessorParentLife d u)) (at.SuccessorLeft d on) in
          Fits (go o st) st (after_search_load v (section_of v) (Link u.slot Left) n)
      by true e true same = found_next h o v n d.node d.parent d.side (Link u.slot Left) more
          (λ r. IsIn r.stood d.parent × (WalksTo r d u × (AreApart d u → ReadsLives r d × ReadsParent r d u))) (at.SuccessorLife d u) f.owns
          (f.unraised refl) f.tickets (f.point).2
          (λ r s here m. (let g = ended r s e m in let q = (g.1).1 in
          (g.0, ((g.1).0, (q.1, λ apart. (q.0, λ ne. absurd (ne (eqb-true u.parent d.node same))))))))
          (λ section i. ((f.point).0, (f.point).1, i))
      by true e false other = found_next h o v n d.node d.parent d.side (Link u.slot Left) more
          (λ r. IsIn r.stood d.parent × (ReadsLives r d × WalksTo r d u × (u.parent ≢ d.node))) (at.SuccessorParentLife d u) f.owns
          (f.unraised refl) f.tickets (f.point).2
          (λ r s here m. (let g = ended r s e m in let q = (g.1).1 in
          (g.0, ((g.1).0, (q.0, q.1, λ same. absurd (let z : true ≡ false = sym (eq-eqb u.parent d.node same) ∙ other in cc))))))
          (λ section i. ((f.point).0, (f.point).1, i))
      by false e y is = found_next h o v n d.node d.parent d.side (Link u.slot Left) more
          (λ r. IsIn r.stood d.parent × (ReadsLives r d × WalksTo r d on)) (at.SuccessorLeft d on) f.owns (f.unraised refl) f.tickets
          (f.point).2
          (λ r s here m. goes_on r s e m)
          (λ section i. ((f.point).0, (f.point).1, i))

  pub needs_successor_parent : (d : Node) (u : Successor) → IsGiven k o v n (at.SuccessorParentLife d u)
  needs_successor_parent d u f = let i = (f.point).2 in loads_at v i u.parent part.Life (((i.known).1).1).parent_stood

  pub next_successor_parent : (d : Node) (u : Successor) → GoesOn h o v n (at.SuccessorParentLife d u)
  next_successor_parent d u f =
      let u' : Successor = record u { parent_generation = n / 2 } in
      found_next h o v n d.node d.parent d.side (Life u.parent)
      (λ r. IsIn r.stood d.parent × (ReadsLives r d × WalksTo r d u × (u.parent ≢ d.node)))
      (λ r. IsIn r.stood d.parent × (WalksTo r d u' × (AreApart d u' → ReadsLives r d × ReadsParent r d u'))) (at.SuccessorLife d u') f.owns
      (f.unraised refl) f.tickets (f.point).2
      (λ r s here m. (let q = m.1 in
      let r' : Reading = loaded r (Life u.parent) n in
      let still = life_still r d.node d.parent d.side u.parent n s in (
        still,
        (
          still.stood d.parent m.0,
          (
            walk_kept r r' (Life u.parent) n d u still
                (ap (λ (x : Reading). x.walk) (life_loaded r d.node d.parent d.side u.parent n s)) q.1,
            λ apart. (
              lives_kept r r' (Life u.parent) n d still (λ ne. life_apart u.parent d.parent ((apart.walk q.2).0))
                  (life_apart u.parent d.node q.2) q.0,
              λ ne. life_here r r' u.parent n still,
            ),
          ),
        ),
      )))
      (λ section i. ((f.point).0, (f.point).1, i))

  pub needs_successor_life : (d : Node) (u : Successor) → IsGiven k o v n (at.SuccessorLife d u)
  needs_successor_life d u f = let i = (f.point).2 in loads_at v i u.slot part.Life (((i.known).1).0).slot_stood

  pub next_successor_life : (d : Node) (u : Successor) → GoesOn h o v n (at.SuccessorLife d u)
  next_successor_life d u f =
      let u' : Successor = record u { generation = n / 2 } in
      found_next h o v n d.node d.parent d.side (Life u.slot)
      (λ r. IsIn r.stood d.parent × (WalksTo r d u × (AreApart d u → ReadsLives r d × ReadsParent r d u)))
      (λ r. IsIn r.stood d.parent × ReadsChildren r d (Some u')) (at.Leave (then.Delete (record { node = d; successor = Some u' }))) f.owns
      (f.unraised refl)
      (let t = f.tickets in let two = delete_owed o.op o.hand o.retired (f.point).1 in omega arith) (f.point).2
      (λ r s here m. (let q = m.1 in
      let r' : Reading = loaded r (Life u.slot) n in
      let still = life_still r d.node d.parent d.side u.slot n s in (
        still,
        (
          still.stood d.parent m.0,
          (
            walk_kept r r' (Life u.slot) n d u still (ap (λ (x : Reading). x.walk) (life_loaded r d.node d.parent d.side u.slot n s)) q.0,
            λ apart. (let l = q.1 apart in (
              lives_kept r r' (Life u.slot) n d still (λ ne. life_apart u.slot d.parent apart.from_parent)
                  (life_apart u.slot d.node apart.from_node) l.0,
              (λ ne. life_kept r r' (Life u.slot) n u.parent u.parent_generation still
                  (life_apart u.slot u.parent (λ z. ((apart.walk ne).1) (sym z))) (l.1 ne)),
              life_here r r' u.slot n still,
            )),
          ),
        ),
      )))
      (λ section i. ((f.point).0, ((f.point).1, i)))

  some_locks : (h : Option Successor) (d : Node) → 0 < target_locks (record { node = d; successor = h })
  some_locks None d = omega arith
  some_locks (Some u) d = by (u.parent == d.node)
    where
      by : (z : Bool) → 0 < cond z 3 4
      by true = omega arith
      by false = omega arith

  -- it leaves the section with its target
  pub next_delete : (t : Target)
      → ((section : Section) → v.section ≡ Some section → (s : ℕ) → IsIn section.reading.stood s → s < table_of o) → GoesOn h o v n (at.Leave (then.Delete t))
  next_delete t stood f =
      let p = (f.point).1 in
      let i = p.1 in
      let section : Section = i.section in
      let calm = (f.point).0 in
      let q = i.known in
      subst (λ x. Fits (go o (at.TargetLock t 0)) (at.TargetLock t 0) (leaving v x h)) (sym (section_is v _ i.is))
      (fits f.owns (f.unraised refl) (let c = f.tickets in let two = delete_owed o.op o.hand o.retired p.0 in omega arith) (record {
        quiet = calm_quiet o v section h calm (delete_no_put o.op p.0);
        deleting = (p.0, calm.ready);
        target = record {
          reading = section.reading;
          kept = (0, refl);
          key_is = (i.stands).sought;
          found = (None, (i.stands).state_is);
          within = stood section i.is;
          parent_stood = q.0;
          node_stood = (i.stands).here;
          children = q.1;
        };
        clear = subst AreClear (sym (calm.bare).locks_are) (λ i l e. cc);
        long = ap (λ (ls : List HeldLock). length ls) (calm.bare).locks_are;
        locks_are = no_locks o v f.owns (calm.bare).locks_are;
        got = (λ j lt. absurd (omega arith));
        more = some_locks t.successor t.node;
      }))
