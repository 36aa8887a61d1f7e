-- Readers, walks and sides of slots over a rotation: who stands at one of the two slots that go stands at one that was unlinked since, and
-- goes on by its old links.
use Rattle.std.proofs.Common.{zero, suc, ◌≡◌, ◌≢◌, ℕ, ◌+◌, ◌*◌, ◌<◌, ◌≤◌, true, false, refl, sym, ap, ◌∙◌, subst, arith, ◌⊎◌, inl, inr, ⊎_elim}
use Rattle.std.specs.Prelude.{Option}
use Rattle.std.proofs.lemmas.Bool.{cases_eq}
use Rattle.prcu_marks.specs.declared.mark.Side.{Side}
use Rattle.prcu_marks.specs.declared.mark.Side.TheVariants.{Left, Right}
use Rattle.core_state.specs.declared.words.Field.TheVariants.{Key, Link}
use Rattle.core_state.specs.Memory.{Memory, across}
use Rattle.core_state.specs.Tree.{next, answer_at, OnRightLeft, first, further, Chart, low_of, IsShaped, IsInRange, Belongs, Spine, bottom, more, Place, in_range, at_old, at_end, on, Walks, at_linked, at_stop, at_live}
use Rattle.core_frames.proofs.Charts.{next-left, range_hop, end_linked}
use Rattle.core_laws.proofs.Stores.{store_next, same_answer, link_at}
use Rattle.core_laws.proofs.Turns.{Turn, Turns, turned, Stays, at_x, at_y, x_not_p, y_not_p, not_top, not_sub, still, top_on, sub_on, rank_else, old_else, low_else, high_else, low_after, high_after, past_parent, link_off, top_outer, top_inner, sub_outer, leads_x, leads_y, child_stays}

module _ (m new : Memory) (n : ℕ) (g : Chart) (z : Turn) (h : IsShaped m n g) (k : Turns m new n g z) where
  open z use {p, b, x, t, y, top, sub}

  abbrev to : Chart
  to = turned m g z

  abbrev Stay : ℕ → Type 0
  Stay s = Stays m new n g z h k s

  rank_of : (s : ℕ) → g.linked s ≡ true → to.rank s ≡ 2 * g.rank s + 1
  rank_of s l = rank_else m new n g z h k s (not_top m new n g z h k s l) (not_sub m new n g z h k s l)

  x_linked : g.linked x ≡ true
  x_linked = (at_x m new n g z h k).linked

  y_linked : g.linked y ≡ true
  y_linked = (at_y m new n g z h k).linked

  pub stays_by : (s : ℕ) → g.linked s ≡ true → (s ≡ x) ⊎ ((s ≡ y) ⊎ Stay s)
  stays_by s l = ⊎_elim (λ (e : s ≡ x). inl e)
      (λ nx. ⊎_elim (λ (e : s ≡ y). inr (inl e)) (λ ny. inr (inr (record { on = l; not_x = nx; not_y = ny }))) (cases_eq s y))
      (cases_eq s x)

  -- Left links of the two slots that go, and of the new ones.
  -- Where y hangs on x's left, y's left is the new upper slot's; else x's left is the new lower slot's, which hangs on the upper one's
  -- left.
  record Lefts : Type 0 where
    pub by_left : t ≡ Left → (m (Link x Left) ≡ y) × (new (Link top Left) ≡ m (Link y Left))
    pub by_right : t ≡ Right → (new (Link top Left) ≡ sub) × (new (Link sub Left) ≡ m (Link x Left)) × (m (Key x) < m (Key y))

  lefts : Lefts
  lefts = record {
    by_left = λ e. (
      ap (λ (a : Side). m (Link x a)) (sym e) ∙ k.leads,
      ap (λ (a : Side). new (Link top a)) (sym e) ∙ top_outer m new n g z h k ∙ ap (λ (a : Side). m (Link y a)) e,
    );
    by_right = λ e. (
      ap (λ (a : Side). new (Link top (across a))) (sym e) ∙ top_inner m new n g z h k,
      ap (λ (a : Side). new (Link sub (across a))) (sym e) ∙ sub_outer m new n g z h k ∙ ap (λ (a : Side). m (Link x (across a))) e,
      above_x e,
    );
  }
    where
      above_x : t ≡ Right → m (Key x) < m (Key y)
      above_x e =
          let w = at_y m new n g z h k in
          let low : g.low y ≡ low_of m g x Right = w.low ∙ ap (λ (a : Side). low_of m g x a) e in
          let keyed = (h.keyed y y_linked k.some_y k.y_young).low in
          let f = after_some x k.some_x in
          omega arith
        where
          after_some : (s : ℕ) → s ≢ 0 → low_of m g s Right ≡ m (Key s) + 1
          after_some zero ne = absurd (ne refl)
          after_some (suc s) ne = refl

  side_either : (t ≡ Left) ⊎ (t ≡ Right)
  side_either = of t
    where
      of : (a : Side) → (a ≡ Left) ⊎ (a ≡ Right)
      of Left = inl refl
      of Right = inr refl

  -- the spine goes on by the left of a slot
  record GoesOn (q u s : ℕ) : Type 0 where
    pub slot : ℕ
    pub left : m (Link s Left) ≡ slot
    pub some_slot : slot ≢ 0
    pub less : q < m (Key s)
    pub rest : slot ≢ y → Spine new to q u slot

  -- a spine, from a slot that stays, from y and from x
  record Spines (q u s : ℕ) : Type 0 where
    pub other : Stay s → Spine new to q u s
    pub at_lower : s ≡ y → GoesOn q u y
    pub at_upper : s ≡ x → GoesOn q u x × ((m (Link x Left) ≡ y) → GoesOn q u y)

  -- from the new upper slot
  over_top : (q u : ℕ) → GoesOn q u x → ((m (Link x Left) ≡ y) → GoesOn q u y) → (t ≡ Left) ⊎ (t ≡ Right) → Spine new to q u top
  over_top q u gx gy (inl e) =
      let w = lefts.by_left e in let a = gy w.0 in
      more (top_on m new n g z h k) (let less = a.less in let f = k.stores.key top in let c = k.top_key in omega arith) (w.1 ∙ a.left)
      a.some_slot
      (a.rest (λ v. omega (arith, (h.below y a.slot Left y_linked a.left a.some_slot).rank, ap g.rank v)))
  over_top q u gx gy (inr e) =
      let w = lefts.by_right e in
      more (top_on m new n g z h k)
      (let less = gx.less in let f = k.stores.key top in let c = k.top_key in let d = w.2 in omega arith) w.0 k.sub_some
      (more (sub_on m new n g z h k) (let less = gx.less in let f = k.stores.key sub in let c = k.sub_key in omega arith)
      (w.1 ∙ gx.left) gx.some_slot
      (gx.rest (λ v. (let r = leads_y m new n g z h k x Left x_linked (gx.left ∙ v) in
      let bad : Left ≡ Right = r.1 ∙ e in absurd (cc)))))

  spines : (q u : ℕ) → g.old u ≡ true → (s : ℕ) → Spine m g q u s → Spines q u s
  spines q u old s (bottom e l) = record {
    other = λ w. bottom e (ap to.linked (sym e) ∙ still m new n g z h k s w);
    at_lower = λ v. absurd (let f = k.y_young in cc (ap g.old (sym v ∙ e)));
    at_upper = λ v. absurd (let f = k.x_young in cc (ap g.old (sym v ∙ e)));
  }
  spines q u old s (more {c = c} l lt e nz sp) =
      let ih = spines q u old c sp in
      record {
        other = λ w. passes w (stays_by c (h.below s c Left l e nz).linked) ih;
        at_lower = λ v. here y v (let w = (at_y m new n g z h k).rank in omega arith) ih;
        at_upper = λ v. (here x v (omega arith) ih, (λ f. ih.at_lower (sym e ∙ ap (λ r. m (Link r Left)) v ∙ f)));
      }
    where
      here : (r : ℕ) → s ≡ r → g.rank x ≤ g.rank r → Spines q u c → GoesOn q u r
      here r v ge ih = record {
        slot = c;
        left = ap (λ i. m (Link i Left)) (sym v) ∙ e;
        some_slot = nz;
        less = omega (arith, lt, ap (λ i. m (Key i)) v);
        rest = λ ny. ih.other (record {
          on = (h.below s c Left l e nz).linked;
          not_x = λ w. omega (arith, (h.below s c Left l e nz).rank, ap g.rank v, ap g.rank w, ge);
          not_y = ny;
        });
      }

      passes : Stay s → (c ≡ x) ⊎ ((c ≡ y) ⊎ Stay c) → Spines q u c → Spine new to q u s
      passes w (inl v) ih =
          let r = leads_x m new n g z h k s Left l (e ∙ v) in
          let f : new (Link s Left) ≡ top = link_at new s p Left b r.0 r.1 ∙ k.stores.here in
          let a = ih.at_upper v in
          more (still m new n g z h k s w) (let i = k.stores.key s in omega arith) f k.top_some (over_top q u a.0 a.1 side_either)
      passes w (inr (inl v)) ih = absurd (w.not_x (leads_y m new n g z h k s Left l (e ∙ v)).0)
      passes w (inr (inr v)) ih =
          more (still m new n g z h k s w) (let i = k.stores.key s in omega arith)
          (past_parent m new n g z h k s Left (λ i. v.not_x (sym e ∙ i)) ∙ e) nz (ih.other v)

  -- what a step has to say of the readers with a key
  pub record TurnReads (q : ℕ) (live later pend due : ℕ → Type 0) (told more_told : Option ℕ → Type 0) : Type 0 where
    pub out : (s : ℕ) → live s → g.linked s ≡ false
    pub unmet : (s : ℕ) → live s → (s ≢ top) × (s ≢ sub)
    pub grow : (s : ℕ) → live s → later s
    pub gone_x : later x
    pub gone_y : later y
    pub keep : (o : Option ℕ) → told o → more_told o
    pub now : (s : ℕ) → IsInRange g q s → next m q s ≡ 0 → told (answer_at m q s)
    pub spare : (s : ℕ) → pend s → due s

  module _ (q : ℕ) (live later pend due : ℕ → Type 0) (told more_told : Option ℕ → Type 0)
      (r : TurnReads q live later pend due told more_told) where
    abbrev Later : ℕ → Type 0
    Later s = Place new to q later due more_told s

    answer_stays : (s : ℕ) → answer_at new q s ≡ answer_at m q s
    answer_stays s = same_answer m new q s (k.stores.key s) (k.stores.value s)

    told_still : (s : ℕ) → told (answer_at m q s) → more_told (answer_at new q s)
    told_still s a = r.keep (answer_at new q s) (subst told (sym (answer_stays s)) a)

    next_off : (s : ℕ) → s ≢ p → next new q s ≡ next m q s
    next_off s ne = store_next m new p b top q s k.stores ne

    in_still : (s : ℕ) → Stay s → IsInRange g q s → Later s
    in_still s w i =
        let nt = not_top m new n g z h k s w.on in let ns = not_sub m new n g z h k s w.on in
        in_range (record {
          linked = still m new n g z h k s w;
          low = (let a = i.low in let e = low_else m new n g z h k s nt ns in omega arith);
          high = (let a = i.high in let e = high_else m new n g z h k s nt ns in omega arith);
        })

    rank_grows : (s c : ℕ) → g.linked s ≡ true → g.linked c ≡ true → g.rank s < g.rank c → to.rank s < to.rank c
    rank_grows s c l l' lt = omega (arith, lt, rank_of s l, rank_of c l')

    -- at a slot that goes, by where its search goes on
    at_gone : (s : ℕ) → later s → s ≢ p → IsInRange g q s → ((c : ℕ) → next m q s ≡ c → c ≢ 0 → IsInRange g q c → Later c)
        → (next m q s ≡ 0) ⊎ (next m q s ≢ 0) → Later s
    at_gone s gone np i goes (inl e) = at_end gone (next_off s np ∙ e) (told_still s (r.now s i e))
    at_gone s gone np i goes (inr ne) =
        let w = range_hop m n g q s (next m q s) h i refl ne in
        on gone (next_off s np) ne (rank_grows s (next m q s) i.linked w.0.linked w.1) (goes (next m q s) refl ne w.0)

    at_lower : IsInRange g q y → Later y
    at_lower i = at_gone y r.gone_y (y_not_p m new n g z h k) i
        (λ c e nz j. (let w = (range_hop m n g q y c h i e nz).1 in let x_y = (at_y m new n g z h k).rank in
        in_still c (record {
          on = j.linked;
          not_x = λ v. omega (arith, w, x_y, ap g.rank v);
          not_y = λ v. omega (arith, w, ap g.rank v);
        }) j)) (cases_eq (next m q y) 0)

    at_upper : IsInRange g q x → Later x
    at_upper i = at_gone x r.gone_x (x_not_p m new n g z h k) i
        (λ c e nz j. (let w = (range_hop m n g q x c h i e nz).1 in
        ⊎_elim (λ (v : c ≡ y). subst Later (sym v) (at_lower (subst (IsInRange g q) v j)))
        (λ ny. in_still c (record { on = j.linked; not_x = λ v. omega (arith, w, ap g.rank v); not_y = ny }) j) (cases_eq c y)))
        (cases_eq (next m q x) 0)

    range : (s : ℕ) → IsInRange g q s → Later s
    range s i = ⊎_elim (λ (v : s ≡ x). subst Later (sym v) (at_upper (subst (IsInRange g q) v i)))
        (λ w. ⊎_elim (λ (v : s ≡ y). subst Later (sym v) (at_lower (subst (IsInRange g q) v i))) (λ w. in_still s w i) w)
        (stays_by s i.linked)

    -- at an old successor's path
    module _ (u : ℕ) (e : pend u) (l : g.linked u ≡ true) (o : g.old u ≡ true) (le : q ≤ m (Key u)) (tells : told (answer_at m q u)) where
      u_still : to.old u ≡ true
      u_still = old_else m new n g z h k u (not_top m new n g z h k u l) (not_sub m new n g z h k u l) ∙ o

      by_spine : (s : ℕ) → Spine new to q u s → Later s
      by_spine s sp = at_old (r.spare u e) u_still (let f = k.stores.key u in omega arith) (told_still u tells) sp

      gone_lower : GoesOn q u y → Later y
      gone_lower a =
          let w = h.below y a.slot Left y_linked a.left a.some_slot in
          on r.gone_y (next_off y (y_not_p m new n g z h k) ∙ next-left m q y k.some_y a.less ∙ a.left) a.some_slot
          (rank_grows y a.slot y_linked w.linked w.rank)
          (by_spine a.slot (a.rest (λ v. (let f = w.rank in omega (arith, ap g.rank v)))))

      gone_upper : GoesOn q u x → ((m (Link x Left) ≡ y) → GoesOn q u y) → Later x
      gone_upper a below =
          let w = h.below x a.slot Left x_linked a.left a.some_slot in
          on r.gone_x (next_off x (x_not_p m new n g z h k) ∙ next-left m q x k.some_x a.less ∙ a.left) a.some_slot
          (rank_grows x a.slot x_linked w.linked w.rank)
          (⊎_elim (λ (v : a.slot ≡ y). subst Later (sym v) (gone_lower (below (a.left ∙ v)))) (λ ny. by_spine a.slot (a.rest ny))
          (cases_eq a.slot y))

      old_place : (s : ℕ) → g.linked s ≡ true → Spine m g q u s → Later s
      old_place s linked sp =
          let a = spines q u o s sp in
          ⊎_elim (λ (v : s ≡ x). (let f = a.at_upper v in subst Later (sym v) (gone_upper f.0 f.1)))
          (λ w. ⊎_elim (λ (v : s ≡ y). subst Later (sym v) (gone_lower (a.at_lower v))) (λ w. by_spine s (a.other w)) w)
          (stays_by s linked)

    start_linked : (u s : ℕ) → Spine m g q u s → g.linked s ≡ true
    start_linked u s (bottom e l) = ap g.linked e ∙ l
    start_linked u s (more l lt e nz sp) = l

    -- where a reader stands is linked, or was unlinked since
    not_new : (s : ℕ) → Place m g q live pend told s → (s ≢ top) × (s ≢ sub)
    not_new s (in_range i) = (not_top m new n g z h k s i.linked, not_sub m new n g z h k s i.linked)
    not_new s (at_old {u = u} e o le a sp) =
        let l = start_linked u s sp in (not_top m new n g z h k s l, not_sub m new n g z h k s l)
    not_new s (at_end l f a) = r.unmet s l
    not_new s (on l f nz rank pl) = r.unmet s l

    pub readers_turn : (s : ℕ) → Place m g q live pend told s → Later s
    readers_turn s (in_range i) = range s i
    readers_turn s (at_old {u = u} e o le a sp) = old_place u e (end_linked m g q u s sp) o le a s (start_linked u s sp) sp
    readers_turn s (at_end l f a) = at_end (r.grow s l) (off_next s l ∙ f) (told_still s a)
      where
        off_next : (s : ℕ) → live s → next new q s ≡ next m q s
        off_next s l = next_off s (λ v. (let a = r.out s l in let c = k.parent in cc (ap g.linked v)))
    readers_turn s (on {c = c} l f nz rank pl) =
        let nc = not_new c pl in let ns = r.unmet s l in
        on (r.grow s l) (next_off s (λ v. (let a = r.out s l in let c = k.parent in cc (ap g.linked v))) ∙ f) nz
        (omega (arith, rank, rank_else m new n g z h k s ns.0 ns.1, rank_else m new n g z h k c nc.0 nc.1)) (readers_turn c pl)

  -- paths right and then left
  path_linked : (e s : ℕ) → g.linked e ≡ true → OnRightLeft m e s → g.linked s ≡ true
  path_linked e s l (first f nz) = (h.below e s Right l f nz).linked
  path_linked e s l (further {s = w} way f nz) = (h.below w s Left (path_linked e w l way) f nz).linked

  record Paths (e s : ℕ) : Type 0 where
    pub other : Stay s → OnRightLeft new e s
    pub at_lower : s ≡ y → (t ≡ Left) × OnRightLeft new e top
    pub at_upper : s ≡ x → OnRightLeft new e top

  paths : (e s : ℕ) → Stay e → OnRightLeft m e s → Paths e s
  paths e s stays (first f nz) = record {
    other = λ w. first (past_parent m new n g z h k e Right (λ i. w.not_x (sym f ∙ i)) ∙ f) nz;
    at_lower = λ v. absurd (stays.not_x (leads_y m new n g z h k e Right stays.on (f ∙ v)).0);
    at_upper = λ v. (let r = leads_x m new n g z h k e Right stays.on (f ∙ v) in
        first (link_at new e p Right b r.0 r.1 ∙ k.stores.here) k.top_some);
  }
  paths e s stays (further {s = w} way f nz) =
      let ih = paths e w stays way in
      let l = path_linked e w stays.on way in
      record {
        other = λ v. goes v (stays_by w l) ih;
        at_lower = λ v. (let r = leads_y m new n g z h k w Left l (f ∙ v) in (sym r.1, ih.at_upper r.0));
        at_upper = λ v. (let r = leads_x m new n g z h k w Left l (f ∙ v) in
            further (ih.other (record {
              on = l;
              not_x = λ i. x_not_p m new n g z h k (sym i ∙ r.0);
              not_y = λ i. y_not_p m new n g z h k (sym i ∙ r.0);
            })) (link_at new w p Left b r.0 r.1 ∙ k.stores.here) k.top_some);
      }
    where
      from_x : Stay s → w ≡ x → OnRightLeft new e top → (t ≡ Left) ⊎ (t ≡ Right) → OnRightLeft new e s
      from_x v i way (inl left) = absurd (v.not_y (sym f ∙ ap (λ r. m (Link r Left)) i ∙ (lefts.by_left left).0))
      from_x v i way (inr right) =
          let a = lefts.by_right right in
          further (further way a.0 k.sub_some) (a.1 ∙ ap (λ r. m (Link r Left)) (sym i) ∙ f) nz

      goes : Stay s → (w ≡ x) ⊎ ((w ≡ y) ⊎ Stay w) → Paths e w → OnRightLeft new e s
      goes v (inl i) ih = from_x v i (ih.at_upper i) side_either
      goes v (inr (inl i)) ih = let a = ih.at_lower i in
          further a.1 ((lefts.by_left a.0).1 ∙ ap (λ r. m (Link r Left)) (sym i) ∙ f) nz
      goes v (inr (inr i)) ih = further (ih.other i) (past_parent m new n g z h k w Left (λ r. v.not_x (sym f ∙ r)) ∙ f) nz

  pub path_turn : (e s : ℕ) → Stay e → OnRightLeft m e s → Stay s → OnRightLeft new e s
  path_turn e s stays way w = (paths e s stays way).other w

  module _ (e : ℕ) (live later : ℕ → Type 0) (out : (s : ℕ) → live s → g.linked s ≡ false) (grow : (s : ℕ) → live s → later s)
      (gone_x : later x) (gone_y : later y) (stays : Stay e) where
    -- at a slot that goes, by its left
    walk_gone : (s : ℕ) → later s → s ≢ p → ((c : ℕ) → m (Link s Left) ≡ c → c ≢ 0 → Walks new to e later c)
        → (m (Link s Left) ≡ 0) ⊎ (m (Link s Left) ≢ 0) → Walks new to e later s
    walk_gone s gone np goes (inl f) = at_stop gone (link_off m new n g z h k s Left np ∙ f)
    walk_gone s gone np goes (inr ne) = at_live gone (link_off m new n g z h k s Left np) ne (goes (m (Link s Left)) refl ne)

    walk_still : (s : ℕ) → Stay s → OnRightLeft m e s → Walks new to e later s
    walk_still s w way = at_linked (still m new n g z h k s w) (path_turn e s stays way w)

    walk_lower : OnRightLeft m e y → Walks new to e later y
    walk_lower way = walk_gone y gone_y (y_not_p m new n g z h k)
        (λ c f nz. walk_still c (child_stays m new n g z h k y c Left (inl refl) f nz) (further way f nz)) (cases_eq (m (Link y Left)) 0)

    walk_upper : OnRightLeft m e x → Walks new to e later x
    walk_upper way = walk_gone x gone_x (x_not_p m new n g z h k)
        (λ c f nz. ⊎_elim (λ (v : c ≡ y). subst (Walks new to e later) (sym v) (walk_lower (further way (f ∙ v) k.some_y)))
        (λ ny. (let w = h.below x c Left x_linked f nz in
        walk_still c (record { on = w.linked; not_x = λ v. omega (arith, w.rank, ap g.rank v); not_y = ny }) (further way f nz)))
        (cases_eq c y)) (cases_eq (m (Link x Left)) 0)

    off_left : (s : ℕ) → live s → new (Link s Left) ≡ m (Link s Left)
    off_left s l = link_off m new n g z h k s Left (λ v. (let a = out s l in let c = k.parent in cc (ap g.linked v)))

    pub walks_turn : (s : ℕ) → Walks m g e live s → Walks new to e later s
    walks_turn s (at_linked l way) = ⊎_elim
        (λ (v : s ≡ x). subst (Walks new to e later) (sym v) (walk_upper (subst (OnRightLeft m e) v way)))
        (λ w. ⊎_elim (λ (v : s ≡ y). subst (Walks new to e later) (sym v) (walk_lower (subst (OnRightLeft m e) v way)))
        (λ w. walk_still s w way) w) (stays_by s l)
    walks_turn s (at_stop l f) = at_stop (grow s l) (off_left s l ∙ f)
    walks_turn s (at_live {c = c} l f nz w) = at_live (grow s l) (off_left s l ∙ f) nz (walks_turn c w)

  pub belongs_turn : (q s : ℕ) (a : Side) → g.linked s ≡ true → Belongs m g q s a → Belongs new to q s a
  belongs_turn q s a l w = (
    (let i = w.0 in let e = low_after m new n g z h k s a l in omega arith),
    (let i = w.1 in let e = high_after m new n g z h k s a l in omega arith),
  )
