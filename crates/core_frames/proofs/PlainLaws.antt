-- The laws in plain words: a tree, right answers, what records say, how old stamps are, where a listing goes on.
use Rattle.std.proofs.Common.{zero, suc, ◌≡◌, ◌≢◌, ℕ, ◌+◌, ◌<◌, ◌≤◌, true, refl, sym, ap, ◌∙◌, subst, arith, ◌⊎◌, inl, inr, ⊎_elim, nat_lt, cond, Bool, false, eq-eqb, Some, None, ◌^◌, List, [], ◌∷◌, ◌++◌, length, take, drop, Option, length-append}
use Rattle.std.proofs.lemmas.Bool.{cases_eq, ltb-true, cases_order}
use mathlib.Core.Logic.{dite}
use native.Mathlib.Decide.{ℕ_discrete, dec_le}
use Rattle.core_state.specs.Tree.{Chart, IsShaped, Tree, Leaf, Node, Realises, In, Distinct, Ordered, IsTree, answer_at, follow, last_of, next, Hops, Belongs, IsInRange, IsHeldBack, IsPending, MayPass}
use Rattle.core_frames.proofs.Charts.{above, above-lt, bool_cases, side_within, leads_right, range_of_side, answer_is, end_of_range, one_end, same_end, stops, place_told, stands, passes_pends, next-here, next-left, next-right, above_less, ends, last_of-ends, ended_is, answer-here, answer-none, going_known, range_hop, range_past}
use Rattle.prcu_marks.specs.declared.mark.Side.{Side}
use Rattle.prcu_marks.specs.declared.mark.Side.TheVariants.{Left, Right}
use Rattle.core_state.specs.declared.words.Field.TheVariants.{Key, Link, Value}
use Rattle.core_state.specs.Memory.{Memory, slot_count}
use Rattle.core_state.specs.Views.{open_of, slots_of, open_reading, readings_of}
use Rattle.prcu_marks.proofs.Marks.{open_at-below, updates_of-append}
use Rattle.std.proofs.lemmas.List.{take-append-drop}
use mathlib.Core.Option.{some, some-injective, some-ne-none}
use lib.ListN.{get_elem?}
use Rattle.prcu_marks.specs.declared.mark.Mark.{Mark}
use Rattle.prcu_marks.specs.Marks.{updates_of, gone_at}
use Rattle.prcu_marks.proofs.Callers.{said_now}
use Rattle.core_state.specs.declared.shape.Shape.{Shape}
use Rattle.core_state.specs.declared.view.Move.{Move}
use Rattle.core_state.specs.declared.view.Section.{Section}
use Rattle.core_state.specs.declared.view.View.{View}
use Rattle.list_laws.specs.Counts.{times, IsIn}
use Rattle.core_state.specs.declared.view.Reading.{Reading}
use Rattle.core_state.specs.Marks.{begun}
use Rattle.core_frames.proofs.Marks.{begun-append}
use Rattle.core_frames.proofs.Roles.{retired_own, record_of}
use Rattle.core_state.specs.Parts.{GoesTo, StandsWell, state_slot, Answered, IsPlaced, IsRecord, map_now, IsBetween, HasBounds, GoesOn, here, past}
use Rattle.prcu_marks.specs.declared.mark.Mark.TheVariants.{Began}
use Rattle.prcu_model.specs.Dictionary.{WasSaid}
use Rattle.core_state.specs.Invariant.{HoldsNow}
use Rattle.core_frames.specs.Laws.{LinksAreTree, FollowIsMap, Searches, answer_of, SearchesAreAnswered, SearchesStand, FewPass, RecordsSay, StampsAreOld, StoodIsYoung, ListingsGoOn}
use Rattle.core_state.specs.declared.view.SearchState.{SearchState}
use Rattle.core_state.specs.declared.view.SearchState.TheVariants.{At, Unread, Found, Missed}
use Rattle.list_laws.proofs.Lists.{in_append, total_part, somewhere_at}
use Rattle.core_state.specs.declared.view.Gap.{Gap}
use Rattle.core_state.specs.Steps.{narrowed}
use Rattle.core_frames.proofs.TreeFrames.{recorded_linked}

-- The chart gives a tree.

abbrev tree_of : Memory → ℕ → ℕ → Tree
tree_of m zero s = Leaf
tree_of m (suc fuel) zero = Leaf
tree_of m (suc fuel) (suc s) = Node (tree_of m fuel (m (Link (suc s) Left))) (suc s) (tree_of m fuel (m (Link (suc s) Right)))

-- x is s or below it
data Under (g : Chart) (s : ℕ) : ℕ → Type 0 where
  itself : {x : ℕ} → x ≡ s → Under g s x
  lower : {x : ℕ} → g.linked x ≡ true → x ≢ 0 → Under g s (g.up x) → Under g s x

module _ (m : Memory) (n : ℕ) (g : Chart) (h : IsShaped m n g) where
  up_rank : (x : ℕ) → g.linked x ≡ true → x ≢ 0 → g.rank (g.up x) < g.rank x
  up_rank x l ne = let k = h.hangs x l ne in (h.below (g.up x) x (g.side x) k.above k.link ne).rank

  under_rank : (s x : ℕ) → Under g s x → g.rank s ≤ g.rank x
  under_rank s x (itself e) = omega (arith, ap g.rank e)
  under_rank s x (lower l ne u) = omega (arith, up_rank x l ne, under_rank s (g.up x) u)

  -- enough fuel at a link
  Enough : ℕ → ℕ → Type 0
  Enough fuel s = s ≢ 0 → (g.linked s ≡ true) × (above g.rank (g.rank s) n < fuel)

  child : (fuel s : ℕ) (b : Side) → g.linked s ≡ true → above g.rank (g.rank s) n < suc fuel → Enough fuel (m (Link s b))
  unfolding Enough
  child fuel s b l lt ne =
      let k = h.below s (m (Link s b)) b l refl ne in
      (k.linked, omega (arith, lt, above-lt g.rank n (g.rank s) (m (Link s b)) (h.within (m (Link s b)) k.linked) k.rank))

  realised : (fuel s : ℕ) → Enough fuel s → Realises m s (tree_of m fuel s)
  unfolding Enough
  realised zero s k = ⊎_elim (λ (e : s ≡ 0). e) (λ ne. absurd (omega (arith, (k ne).1))) (cases_eq s 0)
  realised (suc fuel) zero k = refl
  realised (suc fuel) (suc s) k =
      let w = k (omega arith) in (
        refl,
        omega arith,
        realised fuel (m (Link (suc s) Left)) (child fuel (suc s) Left w.0 w.1),
        realised fuel (m (Link (suc s) Right)) (child fuel (suc s) Right w.0 w.1),
      )

  below_up : (s : ℕ) (b : Side) (x : ℕ) → g.linked s ≡ true → m (Link s b) ≢ 0 → Under g (m (Link s b)) x → Under g s x
  below_up s b x l nz (itself e) = let k = h.below s (m (Link s b)) b l refl nz in
      lower (ap g.linked e ∙ k.linked) (λ z. nz (sym e ∙ z)) (itself (ap g.up e ∙ k.up))
  below_up s b x l nz (lower lx ne u) = lower lx ne (below_up s b (g.up x) l nz u)

  -- a slot of the tree below another
  record InUnder (s x : ℕ) : Type 0 where
    pub linked : g.linked x ≡ true
    pub some_slot : x ≢ 0
    pub under : Under g s x
    pub some_top : s ≢ 0

  in_under : (fuel s x : ℕ) → Enough fuel s → In x (tree_of m fuel s) → InUnder s x
  unfolding Enough
  in_under zero s x k i = absurd i
  in_under (suc fuel) zero x k i = absurd i
  in_under (suc fuel) (suc s) x k (inr (inl e)) = record {
    linked = ap g.linked e ∙ (k (omega arith)).0;
    some_slot = omega (arith, e);
    under = itself e;
    some_top = omega arith;
  }
  in_under (suc fuel) (suc s) x k (inl i) =
      let w = k (omega arith) in
      let r = in_under fuel (m (Link (suc s) Left)) x (child fuel (suc s) Left w.0 w.1) i in
      let under = below_up (suc s) Left x w.0 r.some_top r.under in
      record { linked = r.linked; some_slot = r.some_slot; under = under; some_top = omega arith }
  in_under (suc fuel) (suc s) x k (inr (inr i)) =
      let w = k (omega arith) in
      let r = in_under fuel (m (Link (suc s) Right)) x (child fuel (suc s) Right w.0 w.1) i in
      let under = below_up (suc s) Right x w.0 r.some_top r.under in
      record { linked = r.linked; some_slot = r.some_slot; under = under; some_top = omega arith }

  -- of two slots above one, one is above the other
  chain : (s t x : ℕ) → Under g s x → Under g t x → Under g s t ⊎ Under g t s
  chain s t x (itself e) u = inr (subst (Under g t) e u)
  chain s t x (lower l ne v) (itself e) = inl (subst (Under g s) e (lower l ne v))
  chain s t x (lower l ne v) (lower l' ne' u) = chain s t (g.up x) v u

  -- what is under a child isn't the slot itself, nor under the other child
  not_self : (s : ℕ) (b : Side) → g.linked s ≡ true → m (Link s b) ≢ 0 → Under g (m (Link s b)) s → ⊥
  not_self s b l nz u = omega (arith, (h.below s (m (Link s b)) b l refl nz).rank, under_rank (m (Link s b)) s u)

  not_over : (s : ℕ) (a b : Side) → a ≢ b → g.linked s ≡ true → m (Link s a) ≢ 0 → m (Link s b) ≢ 0 → Under g (m (Link s a)) (m (Link s b))
      → ⊥
  not_over s a b ne l na nb (itself e) = ne (sym (h.below s (m (Link s a)) a l refl na).side ∙ ap g.side (sym e)
      ∙ (h.below s (m (Link s b)) b l refl nb).side)
  not_over s a b ne l na nb (lower lx nz u) = not_self s a l na (subst (Under g (m (Link s a))) (h.below s (m (Link s b)) b l refl nb).up u)

  apart : (s x : ℕ) → g.linked s ≡ true → m (Link s Left) ≢ 0 → m (Link s Right) ≢ 0 → Under g (m (Link s Left)) x
      → Under g (m (Link s Right)) x → ⊥
  apart s x l nl nr u v = ⊎_elim (λ w. not_over s Left Right (λ e. cc) l nl nr w) (λ w. not_over s Right Left (λ e. cc) l nr nl w)
      (chain (m (Link s Left)) (m (Link s Right)) x u v)

  distinct : (fuel s : ℕ) → Enough fuel s → Distinct (tree_of m fuel s)
  unfolding Enough
  distinct zero s k = tt
  distinct (suc fuel) zero k = tt
  distinct (suc fuel) (suc s) k =
      let w = k (omega arith) in
      let l = child fuel (suc s) Left w.0 w.1 in
      let r = child fuel (suc s) Right w.0 w.1 in (
        λ i. let v = in_under fuel (m (Link (suc s) Left)) (suc s) l i in not_self (suc s) Left w.0 v.some_top v.under,
        λ i. let v = in_under fuel (m (Link (suc s) Right)) (suc s) r i in not_self (suc s) Right w.0 v.some_top v.under,
        λ x i j. let v = in_under fuel (m (Link (suc s) Left)) x l i in let y = in_under fuel (m (Link (suc s) Right)) x r j in
            apart (suc s) x w.0 v.some_top y.some_top v.under y.under,
        distinct fuel (m (Link (suc s) Left)) l,
        distinct fuel (m (Link (suc s) Right)) r,
      )

  -- the ranges of all slots below a slot lie in its range
  nested : (s x : ℕ) → Under g s x → (g.low s ≤ g.low x) × (g.high x ≤ g.high s)
  nested s x (itself e) = (omega (arith, ap g.low e), omega (arith, ap g.high e))
  nested s x (lower l ne u) =
      let k = h.hangs x l ne in
      let w = h.below (g.up x) x (g.side x) k.above k.link ne in
      let v = side_within m n g (g.up x) (g.side x) h k.above (leads_right m n g (g.up x) (g.side x) h (λ z. ne (sym k.link ∙ z))) in
      let r = nested s (g.up x) u in
      (omega (arith, w.low, v.0, r.0), omega (arith, w.high, v.1, r.1))

  key_below : (x key : ℕ) → g.linked x ≡ true → x ≢ 0 → g.high x ≤ key → m (Key x) < key
  key_below x key l ne le = ⊎_elim (λ o. omega (arith, h.displaced x l o)) (λ o. omega (arith, h.keyed x l ne o)) (bool_cases (g.old x))

  key_above : (x key : ℕ) → g.linked x ≡ true → x ≢ 0 → key + 1 ≤ g.low x → (key < m (Key x)) ⊎ ((g.old x ≡ true) × (m (Key x) ≡ key))
  key_above x key l ne le = ⊎_elim (λ o. dite (ℕ_discrete (m (Key x)) key) (λ e. inr (o, e))
      (λ other. inl (omega (arith, h.displaced x l o)))) (λ o. inl (omega (arith, h.keyed x l ne o))) (bool_cases (g.old x))

  ordered : (fuel s : ℕ) → Enough fuel s → Ordered m g.old (tree_of m fuel s)
  unfolding Enough
  ordered zero s k = tt
  ordered (suc fuel) zero k = tt
  ordered (suc fuel) (suc s) k =
      let w = k (omega arith) in
      let l = child fuel (suc s) Left w.0 w.1 in
      let r = child fuel (suc s) Right w.0 w.1 in (
        λ x i. let v = in_under fuel (m (Link (suc s) Left)) x l i in
            key_below x (m (Key (suc s))) v.linked v.some_slot (omega
            (arith, (nested (m (Link (suc s) Left)) x v.under).1, (h.below (suc s) (m (Link (suc s) Left)) Left w.0 refl v.some_top).high)),
        λ x i. let v = in_under fuel (m (Link (suc s) Right)) x r i in let within = nested (m (Link (suc s) Right)) x v.under in
            key_above x (m (Key (suc s))) v.linked v.some_slot (omega
            (arith, within.0, (h.below (suc s) (m (Link (suc s) Right)) Right w.0 refl v.some_top).low)),
        ordered fuel (m (Link (suc s) Left)) l,
        ordered fuel (m (Link (suc s) Right)) r,
      )

  -- a child of a slot of the tree is in the tree
  child_in : (t : Tree) (link p c : ℕ) (b : Side) → Realises m link t → In p t → m (Link p b) ≡ c → c ≢ 0 → In c t
  child_in Leaf link p c b k i e nz = absurd i
  child_in (Node l d r) link p c b k (inl i) e nz = inl (child_in l (m (Link d Left)) p c b k.2 i e nz)
  child_in (Node l d r) link p c b k (inr (inr i)) e nz = inr (inr (child_in r (m (Link d Right)) p c b k.3 i e nz))
  child_in (Node l d r) link p c Left k (inr (inl i)) e nz = inl (top l (m (Link d Left)) c k.2 (ap (λ y. m (Link y Left)) (sym i) ∙ e) nz)
    where
      top : (t : Tree) (link c : ℕ) → Realises m link t → link ≡ c → c ≢ 0 → In c t
      top Leaf link c k e nz = absurd (nz (sym e ∙ k))
      top (Node l d r) link c k e nz = inr (inl (sym e ∙ k.0))
  child_in (Node l d r) link p c Right k (inr (inl i)) e nz =
      inr (inr (top r (m (Link d Right)) c k.3 (ap (λ y. m (Link y Right)) (sym i) ∙ e) nz))
    where
      top : (t : Tree) (link c : ℕ) → Realises m link t → link ≡ c → c ≢ 0 → In c t
      top Leaf link c k e nz = absurd (nz (sym e ∙ k))
      top (Node l d r) link c k e nz = inr (inl (sym e ∙ k.0))

  top_in : (t : Tree) (link : ℕ) → Realises m link t → link ≢ 0 → In link t
  top_in Leaf link k nz = absurd (nz k)
  top_in (Node l d r) link k nz = inr (inl k.0)

  all_in : (t : Tree) → Realises m (m (Link 0 Right)) t → (fuel s : ℕ) → g.rank s < fuel → g.linked s ≡ true → s ≢ 0 → In s t
  all_in t r zero s lt l nz = absurd (omega arith)
  all_in t r (suc fuel) s lt l nz =
      let k = h.hangs s l nz in
      ⊎_elim
      (λ (z : g.up s ≡ 0). from_root (g.side s) (ap (λ y. m (Link y (g.side s))) (sym z) ∙ k.link))
      (λ z. child_in t (m (Link 0 Right)) (g.up s) s (g.side s) r
      (all_in t r fuel (g.up s) (omega (arith, up_rank s l nz)) k.above z) k.link nz)
      (cases_eq (g.up s) 0)
    where
      from_root : (b : Side) → m (Link 0 b) ≡ s → In s t
      from_root Left e = absurd (nz (sym e ∙ h.root_left))
      from_root Right e = subst (λ y. In y t) e (top_in t (m (Link 0 Right)) r (λ z. nz (sym e ∙ z)))

  pub is_tree : IsTree m g.linked g.old
  is_tree =
      let fuel : ℕ = suc (above g.rank (g.rank 0) n) in
      let k = child fuel 0 Right h.root (omega arith) in
      let r = realised fuel (m (Link 0 Right)) k in
      record {
        tree = tree_of m fuel (m (Link 0 Right));
        realises = r;
        left = h.root_left;
        distinct = distinct fuel (m (Link 0 Right)) k;
        ordered = ordered fuel (m (Link 0 Right)) k;
        sound = λ s i. let w = in_under fuel (m (Link 0 Right)) s k i in (w.linked, w.some_slot);
        complete = λ s l nz. all_in (tree_of m fuel (m (Link 0 Right))) r (suc (g.rank s)) s (omega arith) l nz;
      }

-- Where a search ends that stands at a slot with its key.

-- A search that stands at a slot with its key ends there.
pub follow_here : (m : Memory) (hops s x : ℕ) → s ≢ 0 → m (Key s) ≡ x → follow m hops s x ≡ Some (m (Value s))
follow_here m hops zero x some_slot e = absurd (some_slot refl)
follow_here m hops (suc s) x some_slot e = ap (answer_at m x) (stays hops)
    ∙ ap (λ z. cond z (Some (m (Value (suc s)))) None) (eq-eqb (m (Key (suc s))) x e)
  where
    not_below : (q : ℕ) → nat_lt q q ≡ false
    not_below q = by (nat_lt q q) refl
      where
        by : (z : Bool) → nat_lt q q ≡ z → z ≡ false
        by true less = absurd (let lt = ltb-true q q less in omega arith)
        by false less = refl

    no_next : next m x (suc s) ≡ 0
    no_next = subst (λ y. next m y (suc s) ≡ 0) e
        (let q : ℕ = m (Key (suc s)) in
        ap (λ z. cond z (m (Link (suc s) Left)) (cond (nat_lt q q) (m (Link (suc s) Right)) 0)) (not_below q)
        ∙ ap (λ z. cond z (m (Link (suc s) Right)) 0) (not_below q))

    stays : (hops : ℕ) → last_of m x hops (suc s) ≡ suc s
    stays zero = refl
    stays (suc hops) = ap (λ z. cond z (suc s) (last_of m x hops (next m x (suc s)))) (eq-eqb (next m x (suc s)) 0 no_next)

-- What the invariant gives, in plain words.

pub links_are_tree : LinksAreTree
links_are_tree k m vs h i = is_tree m (slot_count k) i.chart i.tree.shape

-- the root has every key in its range
pub root_range : (k : Shape) (m : Memory) (vs : List View) (h : List Mark) (i : HoldsNow k m vs h) (x : ℕ) → x < 2 ^ 64
    → IsInRange i.chart x 0
root_range k m vs h i x fits = let s = i.tree.shape in
    record { linked = s.root; low = omega (arith, s.root_low); high = omega (arith, s.root_high) }

pub follow_is_map : FollowIsMap
follow_is_map k m vs h i x fits = answer_is m (slot_count k) i.chart (map_now h) x 0 i.tree.shape i.tree.map fits
    (root_range k m vs h i x fits)

-- there were no more updates before than now
pub updates_before : (h : List Mark) (n : ℕ) → length (updates_of (take n h)) ≤ length (updates_of h)
updates_before h n =
    let whole = ap (λ z. length (updates_of z)) (take-append-drop n h) in
    let cut = ap length (updates_of-append (take n h) (drop n h)) in
    let sum = length-append (updates_of (take n h)) (updates_of (drop n h)) in
    omega arith

-- what the dictionary says now was said in each open section
pub told_now : (k : Shape) (m : Memory) (vs : List View) (h : List Mark) → HoldsNow k m vs h → (j : ℕ) (u : View) (section : Section)
    → get_elem? vs j ≡ some u → u.section ≡ Some section
    → WasSaid (updates_of h) section.key section.from (map_now h section.key)
told_now k m vs h i j u section e is = said_now (updates_of h) section.key section.from
    (let from = (i.seats.sections j u e section is).from in let before = updates_before h section.entered in omega arith)

-- an unlinked slot is one of the table's
pub gone_within : (k : Shape) (m : Memory) (vs : List View) (h : List Mark) → HoldsNow k m vs h → (s p : ℕ) → gone_at s h ≡ Some p
    → s < slot_count k
gone_within k m vs h i s p gone =
    let r = i.slots.unlinked s p gone in
    let one = subst (λ z. 1 ≤ times z (slots_of r.view)) r.has.slot (retired_own r.view r.has.retired r.has.has) in
    let part = total_part (λ (v : View). times s (slots_of v)) vs r.id r.view r.there in
    dite (dec_le (slot_count k) s) (λ far. absurd (let none = i.slots.roles.beyond s far in omega arith)) (λ near. omega arith)

module _ (k : Shape) (m : Memory) (vs : List View) (h : List Mark) (i : HoldsNow k m vs h) (section : Section)
    (searches : Searches vs section) where
  placed : IsPlaced m i.chart h vs section
  placed = (i.readers.served searches.id searches.view searches.there section searches.has.0).placed searches.has.1

  answered : WasSaid (updates_of h) section.key section.from (follow m (slot_count k) (state_slot section.reading.state) section.key)
  answered =
      place_told m (slot_count k) i.chart section.key (IsHeldBack i.chart h section.entered) (MayPass vs section.key section.entered)
      (WasSaid (updates_of h) section.key section.from)
      i.tree.shape (map_now h) i.tree.map (i.seats.sections searches.id searches.view searches.there section searches.has.0).key_fits
      (told_now k m vs h i searches.id searches.view section searches.there searches.has.0)
      (λ s live. gone_within k m vs h i s live.at live.gone) (state_slot section.reading.state) placed.place

  -- what it will answer, by where it stands
  will_answer : (state : SearchState) → section.reading.state ≡ state
      → WasSaid (updates_of h) section.key section.from (answer_of m (slot_count k) section.key state)
  will_answer (At s b) e = subst (λ z. WasSaid (updates_of h) section.key section.from
      (follow m (slot_count k) (state_slot z) section.key)) e answered
  will_answer (Unread s parent b) e = subst (λ z. WasSaid (updates_of h) section.key section.from
      (follow m (slot_count k) (state_slot z) section.key)) e answered
  will_answer (Found s parent b None) e = subst (λ z. WasSaid (updates_of h) section.key section.from
      (follow m (slot_count k) (state_slot z) section.key)) e answered
  will_answer (Found s parent b (Some value)) e = subst (Answered (updates_of h) section) e placed.answered
  will_answer (Missed s b) e = subst (Answered (updates_of h) section) e placed.answered

  one_move : (a b : Move) → IsPending vs a → IsPending vs b → a.old ≡ b.old → a ≡ b
  one_move a b p q same =
      let e = i.tree.moves.one_old p.id q.id p.view q.view a b p.there q.there p.has q.has same in
      let o : Some a ≡ Some b = sym (somewhere_at vs q.id q.view q.there p e) ∙ q.has in
      cc

  passers : (move : Move) → IsPending vs move → move.key < section.key → section.key ≤ move.next_key → (hops : ℕ)
      → Hops m section.key hops (state_slot section.reading.state) move.old
      → (section.entered < move.made) × (move.waited ≡ false)
  passers move pending low high hops way =
      let is = i.tree.moves.each pending.id pending.view pending.there move pending.has in
      let le : section.key ≤ m (Key move.old) = omega (arith, is.old_key) in
      let p : MayPass vs section.key section.entered move.old =
      passes_pends m (slot_count k) i.chart section.key move.old i.tree.shape is.old_linked is.old_old le
      (IsHeldBack i.chart h section.entered) (MayPass vs section.key section.entered) (WasSaid (updates_of h) section.key section.from)
      (λ s live. live.out) (state_slot section.reading.state) placed.place hops way in
      let same = one_move p.move move p.pending pending p.old in
      let before : section.entered < move.made = subst (λ (z : Move). section.entered < z.made) same p.before in (
        before,
        ⊎_elim (λ w. absurd
            ((i.grace.moves pending.id pending.view pending.there move pending.has).clear w searches.id searches.view section
            searches.there searches.has.0 before (omega arith) high)) (λ w. w) (bool_cases move.waited),
      )

pub searches_are_answered : SearchesAreAnswered
searches_are_answered k m vs h i section searches = will_answer k m vs h i section searches section.reading.state refl

pub searches_stand : SearchesStand
searches_stand k m vs h i section searches =
    stands m (slot_count k) i.chart section.key (IsHeldBack i.chart h section.entered) (MayPass vs section.key section.entered)
    (WasSaid (updates_of h) section.key section.from)
    i.tree.shape (λ s live. live.out) (state_slot section.reading.state) (placed k m vs h i section searches).place

pub few_pass : FewPass
few_pass k m vs h i section searches move pending low high hops way = passers k m vs h i section searches move pending low high hops way

pub stood_is_young : StoodIsYoung
stood_is_young k m vs h i id s v section there inside stood =
    ⊎_elim (λ l. inl l) (λ w. inr (let b = w.0 in (b.at, b.gone, b.later)))
    ((i.readers.served id v there section inside).stood s stood).here

-- what belongs below an empty side: the search from the root ends there
ends_there : (m : Memory) (n : ℕ) (g : Chart) (x s : ℕ) (b : Side) → IsShaped m n g → x < 2 ^ 64 → g.linked s ≡ true → (s ≡ 0 → b ≡ Right)
    → m (Link s b) ≡ 0 → Belongs m g x s b → last_of m x n 0 ≡ s
ends_there m n g x s b h fits l root empty belongs =
    let range = range_of_side m n g x s b h l root belongs in
    let a = same_end m n g x s h fits range in
    let e = end_of_range m n g x s h range in
    sym a ∙ e.is ∙ one_end m n g x e.slot s h fits e.met e.last range (stops m n g x s b h l root empty belongs)

-- what a reading of a view says of an empty side, be its section open or not
reading_says : (k : Shape) (m : Memory) (vs : List View) (h : List Mark) (i : HoldsNow k m vs h) (id : ℕ) (v : View) (r : Reading)
    → get_elem? vs id ≡ some v → IsIn (readings_of v) r → IsRecord m i.chart vs r
reading_says k m vs h i id v r there has = ⊎_elim (λ (x : IsIn (open_reading v.section) r). open_case v.section refl x)
    (λ (x : IsIn v.records r). i.readers.records id v there x.0 r x.1) (in_append (open_reading v.section) v.records r has)
  where
    open_case : (o : Option Section) → v.section ≡ o → IsIn (open_reading o) r → IsRecord m i.chart vs r
    open_case (Some section) e (zero, is) =
        subst (IsRecord m i.chart vs) (some-injective section.reading r is)
        (record_of m (slot_count k) i.chart vs h section i.tree.shape
        (i.readers.readings id v there 0 section.reading (ap (λ o. get_elem? (open_reading o ++ v.records) 0) e))
        (i.seats.sections id v there section e).sought (i.seats.sections id v there section e).key_fits
        (i.readers.served id v there section e))
    open_case _ e (_, is) = absurd (some-ne-none r (sym is))

pub records_say : RecordsSay
records_say k m vs h i id v r s tag b there has missed life known empty same settled =
    let reading = i.readers.readings id v there has.0 r has.1 in
    let goes : GoesTo r s b = (subst (StandsWell r) missed reading.well).0 in
    let linked = recorded_linked m i.chart r s (i.locks.readings id v there has.0 r has.1) life in
    ⊎_elim (λ o. inl o) (λ belongs. inr (ends_there m (slot_count k) i.chart r.key s b i.tree.shape
    (reading_says k m vs h i id v r there has).key_fits linked (root_side goes) empty belongs))
    ((reading_says k m vs h i id v r there has).side s tag b missed life known empty same settled)
  where
    root_side : GoesTo r s b → s ≡ 0 → b ≡ Right
    root_side (inl e) z = e.1
    root_side (inr e) z = absurd (e.0 z)

-- fewer waits were begun before than now
begun_before : (h : List Mark) (n : ℕ) → begun (take n h) ≤ begun h
begun_before h n = let whole = ap begun (take-append-drop n h) in let cut = begun-append (take n h) (drop n h) in omega arith

begun_less : (h : List Mark) (n p c low high : ℕ) → get_elem? h n ≡ some (Began p c low high) → begun (take n h) < begun h
begun_less [] n p c low high e = absurd (some-ne-none (Began p c low high) (sym e))
begun_less (m ∷ h) zero p c low high e = let f = ap (λ z. begun (z ∷ h)) (some-injective m (Began p c low high) e) in omega arith
begun_less (m ∷ h) (suc n) p c low high e =
    let r = begun_less h n p c low high e in
    let a = begun-append (m ∷ []) h in
    let b = begun-append (m ∷ []) (take n h) in
    omega arith

begun_up : (h : List Mark) (a b : ℕ) → a ≤ b → begun (take a h) ≤ begun (take b h)
begun_up h a b le = let e : take a (take b h) ≡ take a h = take-take a b h le in let r = begun_before (take b h) a in let f = ap begun e in
    omega arith
  where
    take-take : (a b : ℕ) (xs : List Mark) → a ≤ b → take a (take b xs) ≡ take a xs
    take-take zero b xs le = refl
    take-take (suc a) zero xs le = absurd (omega arith)
    take-take (suc a) (suc b) [] le = refl
    take-take (suc a) (suc b) (x ∷ xs) le = ap (λ ys. x ∷ ys) (take-take a b xs (omega arith))

pub stamps_are_old : StampsAreOld
stamps_are_old k m vs h i way a b v u wait section there waits other inside =
    let w = i.marks.waits a v there wait waits in
    let s = ((i.waiters.clocked b u other).stamped section inside).1 way in
    let clock = i.waiters.clock in
    let c = w.clock in (
      (λ le. (let r = begun_up h section.clocked wait.began le in omega arith)),
      (let r = begun_before h section.clocked in omega arith),
      (let r = begun_less h wait.began v.allowance.place wait.count wait.low wait.high w.begins in omega arith),
    )

-- an open section was entered before the marks that come
pub entered_before : (k : Shape) (m : Memory) (vs : List View) (h : List Mark) → HoldsNow k m vs h → (j : ℕ) (z : View) (section : Section)
    → get_elem? vs j ≡ some z → z.section ≡ Some section → section.entered < length h
entered_before k m vs h i j z section e is = open_at-below z.allowance.place h (open_of section) (i.seats.sections j z e section is).is_open

pub clocked_before : (k : Shape) (m : Memory) (vs : List View) (h : List Mark) → HoldsNow k m vs h → (j : ℕ) (z : View) (section : Section)
    → get_elem? vs j ≡ some z → z.section ≡ Some section → section.clocked ≤ length h
clocked_before k m vs h i j z section e is = let a = ((i.waiters.clocked j z e).stamped section is).0 in
    let c = entered_before k m vs h i j z section e is in omega arith

-- Where a listing's walk goes on.

module _ (k : Shape) (m : Memory) (vs : List View) (h : List Mark) (i : HoldsNow k m vs h) (y : ℕ) (fits : y < 2 ^ 64) where
  in_bounds : (bounds : Gap) (s : ℕ) → HasBounds i.chart bounds s → IsBetween bounds y → IsInRange i.chart y s
  in_bounds bounds s has between = let low = has.low in let high = has.high in let p = between.0 in let q = between.1 in
      record { linked = has.linked; low = omega arith; high = omega arith }

  -- who is in range passes only old successors with a lesser key
  passes_less : (s : ℕ) → IsInRange i.chart y s → (move : Move) (hops : ℕ) → IsPending vs move → Hops m y hops s move.old
      → move.next_key < y
  passes_less s range move hops pending way =
      let is = i.tree.moves.each pending.id pending.view pending.there move pending.has in
      let key = is.old_key in
      dite (dec_le y move.next_key)
      (λ le. absurd (range_past m (slot_count k) i.chart y move.old i.tree.shape is.old_linked is.old_old (omega arith) hops s range way))
      (λ more. omega arith)

  module _ (live : ℕ → Type 0) (out : (s : ℕ) → live s → i.chart.linked s ≡ false) (small : (s : ℕ) → live s → s < slot_count k) where
    abbrev Going : Gap → ℕ → Type 0
    Going bounds s = GoesOn m i.chart live (map_now h) bounds s

    -- y is in the range of the slot, or the walk goes on from it between bounds that have y
    abbrev Reaches : ℕ → Type 0
    Reaches s = IsInRange i.chart y s ⊎ ((bounds : Gap) × IsBetween bounds y × Going bounds s)

    some_slot : (s : ℕ) → live s → s ≢ 0
    some_slot s l e = let o = out s l in let q : true ≡ false = sym i.tree.shape.root ∙ ap i.chart.linked (sym e) ∙ o in absurd (cc)

    one_more : (bounds : Gap) (s : ℕ) → IsBetween bounds y → Going bounds s → next m y s ≢ 0
        → Reaches (next m y s) × (i.chart.rank s < i.chart.rank (next m y s))
    one_more bounds s between (here has) ne =
        let w = range_hop m (slot_count k) i.chart y s (next m y s) i.tree.shape (in_bounds bounds s has between) refl ne in (inl w.0, w.1)
    one_more bounds s between (past l pair none rank more) ne = by_key (cases_order y (m (Key s)))
      where
        by_key : (y ≡ m (Key s)) ⊎ ((y < m (Key s)) ⊎ (m (Key s) < y))
            → Reaches (next m y s) × (i.chart.rank s < i.chart.rank (next m y s))
        by_key (inl same) = absurd (ne (next-here m y s (some_slot s l) (sym same)))
        by_key (inr (inl lt)) =
            let e : m (Link s Left) ≡ next m y s = sym (next-left m y s (some_slot s l) lt) in
            (inr (narrowed bounds (m (Key s)) Left, (between.0, lt), more Left (next m y s) e ne), rank Left (next m y s) e ne)
        by_key (inr (inr gt)) =
            let e : m (Link s Right) ≡ next m y s = sym (next-right m y s (some_slot s l) gt) in
            (inr (narrowed bounds (m (Key s)) Right, (omega arith, between.1), more Right (next m y s) e ne), rank Right (next m y s) e ne)

    ended : (bounds : Gap) (s : ℕ) → IsBetween bounds y → Going bounds s → next m y s ≡ 0 → answer_at m y s ≡ map_now h y
    ended bounds s between (here has) z =
        ended_is m (slot_count k) i.chart (map_now h) y s i.tree.shape i.tree.map fits (in_bounds bounds s has between) z (map_now h y) refl
    ended bounds s between (past l pair none rank more) z = by_key (cases_order y (m (Key s)))
      where
        by_key : (y ≡ m (Key s)) ⊎ ((y < m (Key s)) ⊎ (m (Key s) < y)) → answer_at m y s ≡ map_now h y
        by_key (inl same) = answer-here m y s (m (Value s)) (some_slot s l) (sym same) refl ∙ sym (ap (map_now h) same ∙ pair)
        by_key (inr (inl lt)) = answer-none m y s (λ _ e. omega arith)
            ∙ sym (none Left (sym (next-left m y s (some_slot s l) lt) ∙ z) y (between.0, lt))
        by_key (inr (inr gt)) = answer-none m y s (λ _ e. omega arith)
            ∙ sym (none Right (sym (next-right m y s (some_slot s l) gt) ∙ z) y (omega arith, between.1))

    below_count : (s : ℕ) → Reaches s → s < slot_count k
    below_count s (inl range) = i.tree.shape.within s range.linked
    below_count s (inr r) = ⊎_elim (λ l. i.tree.shape.within s l) (small s) (going_known m i.chart live (map_now h) r.0 s r.2)

    reach_more : (s : ℕ) → Reaches s → next m y s ≢ 0 → Reaches (next m y s) × (i.chart.rank s < i.chart.rank (next m y s))
    reach_more s (inl range) ne = let w = range_hop m (slot_count k) i.chart y s (next m y s) i.tree.shape range refl ne in (inl w.0, w.1)
    reach_more s (inr r) ne = one_more r.0 s r.1 r.2 ne

    reach_end : (s : ℕ) → Reaches s → next m y s ≡ 0 → answer_at m y s ≡ map_now h y
    reach_end s (inl range) z = ended_is m (slot_count k) i.chart (map_now h) y s i.tree.shape i.tree.map fits range z (map_now h y) refl
    reach_end s (inr r) z = ended r.0 s r.1 r.2 z

    follows : (s : ℕ) → Reaches s → follow m (slot_count k) s y ≡ map_now h y
    follows s reach =
        let r = ends m y (slot_count k) i.chart.rank Reaches below_count reach_more
        (suc (above i.chart.rank (i.chart.rank s) (slot_count k))) s (omega arith) reach in
        let less = above_less i.chart.rank (slot_count k) s (below_count s reach) in
        let bound = r.bound in
        let e : last_of m y (slot_count k) s ≡ r.slot = last_of-ends m y r.hops (slot_count k) s r.slot r.way r.last (omega arith) in
        ap (answer_at m y) e ∙ reach_end r.slot r.met r.last

    -- who passes an old successor seeks a greater key
    passes_going : (hops : ℕ) (bounds : Gap) (s : ℕ) → IsBetween bounds y → Going bounds s → (move : Move) → IsPending vs move
        → Hops m y hops s move.old → move.next_key < y
    passes_going hops bounds s between (here has) move pending way = passes_less s (in_bounds bounds s has between) move hops pending way
    passes_going zero bounds s between (past l pair none rank more) move pending way = absurd
        (let linked = (i.tree.moves.each pending.id pending.view pending.there move pending.has).old_linked in
        let q : false ≡ true = sym (out s l) ∙ ap i.chart.linked way ∙ linked in cc)
    passes_going (suc hops) bounds s between (past l pair none rank more) move pending way = ⊎_elim
        (λ (same : y ≡ m (Key s)). absurd (way.0 (next-here m y s (some_slot s l) (sym same))))
        (λ r. ⊎_elim
        (λ (lt : y < m (Key s)). passes_going hops (narrowed bounds (m (Key s)) Left) (next m y s) (between.0, lt)
        (more Left (next m y s) (sym (next-left m y s (some_slot s l) lt)) way.0) move pending way.1)
        (λ (gt : m (Key s) < y). passes_going hops (narrowed bounds (m (Key s)) Right) (next m y s) (omega arith, between.1)
        (more Right (next m y s) (sym (next-right m y s (some_slot s l) gt)) way.0) move pending way.1) r)
        (cases_order y (m (Key s)))

pub listings_go_on : ListingsGoOn
listings_go_on k m vs h i id v section listing t there inside lists fewer has y fits between =
    let l = i.listings.listings id v there section listing inside lists in
    let stands = (l.now fewer).visits has.0 t has.1 in
    let live = IsHeldBack i.chart h section.entered in
    let small : (s : ℕ) → live s → s < slot_count k = λ s r. gone_within k m vs h i s r.at r.gone in (
      follows k m vs h i y fits live (λ s r. r.out) small t.slot (inr (t.bounds, between, stands)),
      λ move hops pending way.
          passes_going k m vs h i y fits live (λ s r. r.out) small hops t.bounds t.slot between stands move pending way,
    )
