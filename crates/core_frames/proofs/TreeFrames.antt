-- The frames of three groups, the tree, readers and listings; before them what keys, values and links give that stay.
use Rattle.std.proofs.Common.{◌≡◌, ◌≢◌, ℕ, zero, suc, ◌+◌, ◌==◌, nat_lt, if◌then◌else◌, true, Option, Some, None, refl, sym, ap, subst, ◌∙◌, arith, false, ◌*◌, List, set, ⊎_elim, inl, inr, Bool, ◌⊎◌, ◌/◌, ◌<◌, ◌≤◌, length, ◌++◌}
use Rattle.prcu_marks.specs.declared.mark.Side.{Side}
use Rattle.prcu_marks.specs.declared.mark.Side.TheVariants.{Left, Right}
use Rattle.core_state.specs.declared.words.Field.TheVariants.{Key, Value, Link, Life}
use Rattle.core_state.specs.Memory.{Memory, IsOdd, IsEven}
use Rattle.core_state.specs.Tree.{after, next, answer_at, OnRightLeft, first, further, Chart, low_of, high_of, Belongs, IsShaped, HoldsMap, HoldsPair, Spine, bottom, more, Place, in_range, at_old, Walks, at_linked, at_stop, at_live, IsPending, IsHeldBack, MayPass, IsOldFor, IsEmptied, HasEmptied}
use Rattle.core_frames.proofs.Charts.{carry, carry_going}
use Rattle.core_frames.proofs.Views.{SameNodes, was}
use Rattle.core_frames.proofs.Roles.{right_left_low}
use Rattle.core_state.specs.declared.view.Known.{Known}
use mathlib.Core.Option.{some}
use lib.ListN.{get_elem?}
use Rattle.prcu_marks.specs.declared.mark.Mark.{Mark}
use Rattle.prcu_marks.specs.declared.mark.Mark.TheVariants.{Done}
use Rattle.prcu_model.specs.declared.operation.Op.TheVariants.{Del}
use Rattle.prcu_model.specs.Dictionary.{map_of, WasSaid}
use Rattle.core_state.specs.declared.view.HeldLock.{HeldLock}
use Rattle.core_state.specs.declared.view.Move.{Move}
use Rattle.core_state.specs.declared.view.Reading.{Reading}
use Rattle.core_state.specs.declared.view.View.{View}
use Rattle.list_laws.specs.Counts.{IsIn, Each}
use Rattle.core_state.specs.Views.{lock_of, readings_of, open_reading}
use Rattle.core_state.specs.Parts.{HasGeneration, map_now, IsMoving, TreeParts, Answered, IsServed, IsAsRecorded, IsStillLinked, IsRecord, IsReading, IsMetBefore, ReaderParts, IsBetween, GoesOn, here, StandsNow, IsVisit, IsListing, ListingParts, HasMetBefore, AreAged, IsGoneSince, IsReadingKept}
use Rattle.list_laws.proofs.Lists.{each_set, each_change, somewhere_still, somewhere_was}
use Rattle.core_frames.proofs.Marks.{SilentMarks}
use Rattle.prcu_marks.specs.Marks.{updates_of, gone_at}
use Rattle.core_state.specs.declared.view.Section.{Section}
use Rattle.core_state.specs.declared.view.SearchState.{SearchState}
use Rattle.core_state.specs.declared.view.SearchState.TheVariants.{Found, Missed}
use Rattle.prcu_model.specs.declared.operation.Update.{Update}
use Rattle.prcu_marks.proofs.Marks.{gone_at-below}
use Rattle.core_state.specs.declared.view.Fact.{Fact}
use Rattle.core_state.specs.declared.view.Gap.{Gap}
use Rattle.core_state.specs.declared.view.Listing.{Listing}
use Rattle.core_state.specs.declared.view.Visit.{Visit}
use Rattle.std.specs.FinMap as finite

-- A step that leaves keys, values and links of slots, be it of all or of all but some: what that leaves of the tree, of paths and of
-- places.

-- The keys and links of the slots of one kind are the same, and the values of those of another.
pub record SameContents (m m' : Memory) (P Q : ℕ → Type 0) : Type 0 where
  pub key : (s : ℕ) → P s → m' (Key s) ≡ m (Key s)
  pub link : (s : ℕ) (b : Side) → P s → m' (Link s b) ≡ m (Link s b)
  pub value : (s : ℕ) → Q s → m' (Value s) ≡ m (Value s)

-- all of them
abbrev pub any : ℕ → Type 0
any s = Unit {0}

pub all_same : (m m' : Memory) → SameNodes m m' → SameContents m m' any any
all_same m m' nodes = record { key = λ s p. nodes.key s; link = λ s b p. nodes.link s b; value = λ s q. nodes.value s }

-- a slot that is linked and young holds its pair where its words are the same
pub pair_by : {m m' : Memory} {g to : Chart} {x v : ℕ} (w : HoldsPair m g x v) → to.linked w.slot ≡ true → to.old w.slot ≡ false
    → m' (Key w.slot) ≡ m (Key w.slot) → m' (Value w.slot) ≡ m (Value w.slot) → HoldsPair m' to x v
pair_by w linked young key value = record {
  slot = w.slot;
  linked = linked;
  some_slot = w.some_slot;
  young = young;
  key = key ∙ w.key;
  value = value ∙ w.value;
}

-- Linked slots are of the first kind.
module _ (m m' : Memory) (P Q : ℕ → Type 0) (same : SameContents m m' P Q) (g : Chart) (on : (s : ℕ) → g.linked s ≡ true → P s) where
  after_same : (s : ℕ) → P s → after m' s ≡ after m s
  after_same zero p = refl
  after_same (suc s) p = ap (λ z. z + 1) (same.key (suc s) p)

  low_same : (s : ℕ) (b : Side) → P s → low_of m' g s b ≡ low_of m g s b
  low_same s Left p = refl
  low_same s Right p = after_same s p

  high_same : (s : ℕ) (b : Side) → P s → high_of m' g s b ≡ high_of m g s b
  high_same s Left p = same.key s p
  high_same s Right p = refl

  pub map_same : ((s : ℕ) → g.linked s ≡ true → Q s) → (map : ℕ → Option ℕ) → HoldsMap m g map → HoldsMap m' g map
  map_same valued map i = record {
    sound = λ s l ne o. ap map (same.key s (on s l)) ∙ i.sound s l ne o ∙ ap Some (sym (same.value s (valued s l)));
    complete = λ x v e. (let w = i.complete x v e in
        pair_by w w.linked w.young (same.key w.slot (on w.slot w.linked)) (same.value w.slot (valued w.slot w.linked)));
  }

  next_same : (x s : ℕ) → P s → next m' x s ≡ next m x s
  next_same x zero p = same.link 0 Right p
  next_same x (suc s) p = λ i. if nat_lt x (same.key (suc s) p i) then same.link (suc s) Left p i
      else if nat_lt (same.key (suc s) p i) x then same.link (suc s) Right p i else 0

  answer_same : (x s : ℕ) → P s → Q s → answer_at m' x s ≡ answer_at m x s
  answer_same x zero p q = refl
  answer_same x (suc s) p q = λ i. if same.key (suc s) p i == x then Some (same.value (suc s) q i) else None

  spine_same : (x u s : ℕ) → Spine m g x u s → Spine m' g x u s
  spine_same x u s (bottom e l) = bottom e l
  spine_same x u s (more {c = c} l lt e ne sp) =
      more l (let k = same.key s (on s l) in omega arith) (same.link s Left (on s l) ∙ e) ne (spine_same x u c sp)

  end_on : (x u s : ℕ) → Spine m g x u s → g.linked u ≡ true
  end_on x u s (bottom e l) = l
  end_on x u s (more {c = c} l lt e ne sp) = end_on x u c sp

  -- a path right and then left, be it below a linked slot, or one all of whose slots are of the kind
  pub right_left_by : (d s : ℕ) → P d → ((p : ℕ) → OnRightLeft m d p → P p) → OnRightLeft m d s → OnRightLeft m' d s
  right_left_by d s kind all (first e ne) = first (same.link d Right kind ∙ e) ne
  right_left_by d s kind all (further {s = p} way e ne) = further (right_left_by d p kind all way) (same.link p Left (all p way) ∙ e) ne

  pub walks_by : (k : ℕ) (live later : ℕ → Type 0) → P k → ((p : ℕ) → OnRightLeft m k p → P p) → ((s : ℕ) → live s → P s)
      → ((s : ℕ) → live s → later s) → (s : ℕ) → Walks m g k live s → Walks m' g k later s
  walks_by k live later starts all kind f s (at_linked l e) = at_linked l (right_left_by k s starts all e)
  walks_by k live later starts all kind f s (at_stop z e) = at_stop (f s z) (same.link s Left (kind s z) ∙ e)
  walks_by k live later starts all kind f s (at_live {c = c} z e ne w) =
      at_live (f s z) (same.link s Left (kind s z) ∙ e) ne (walks_by k live later starts all kind f c w)

  pub place_same : ((u : ℕ) → g.linked u ≡ true → g.old u ≡ true → Q u)
      → (x : ℕ) (live later pend due : ℕ → Type 0) (told more_told : Option ℕ → Type 0)
      → ((s : ℕ) → live s → P s) → ((s : ℕ) → live s → Q s) → ((s : ℕ) → live s → later s) → ((s : ℕ) → pend s → due s)
      → ((o : Option ℕ) → told o → more_told o)
      → (s : ℕ) → Place m g x live pend told s → Place m' g x later due more_told s
  place_same valued x live later pend due told more_told kind of_value f p t =
      carry m m' g g x live later pend due told more_told (record {
        range = λ y i. in_range i;
        old = λ y u q o le a sp. (let l = end_on x u y sp in
            at_old (p u q) o (let k = same.key u (on u l) in omega arith)
            (subst more_told (sym (answer_same x u (on u l) (valued u l o))) (t (answer_at m x u) a)) (spine_same x u y sp));
        still_live = f;
        same_next = λ y l. next_same x y (kind y l);
        same_answer = λ y l. answer_same x y (kind y l) (of_value y l);
        same_rank = λ y l. refl;
        still_told = t;
      })

  pub belongs_same : (x s : ℕ) (b : Side) → P s → Belongs m g x s b → Belongs m' g x s b
  belongs_same x s b kind i = let p = i.0 in let q = i.1 in let e = low_same s b kind in let f = high_same s b kind in
      (omega arith, omega arith)

  module _ (n : ℕ) (h : IsShaped m n g) where
    pub shape_same : IsShaped m' n g
    shape_same = record {
      root = h.root;
      root_left = same.link 0 Left (on 0 h.root) ∙ h.root_left;
      root_low = h.root_low;
      root_high = h.root_high;
      root_new = h.root_new;
      below = λ s c b l e ne. (let p = on s l in let i = h.below s c b l (sym (same.link s b p) ∙ e) ne in
          record {
            linked = i.linked;
            up = i.up;
            side = i.side;
            rank = i.rank;
            low = i.low ∙ sym (low_same s b p);
            high = i.high ∙ sym (high_same s b p);
          });
      hangs = λ c l ne. (let i = h.hangs c l ne in
          record { above = i.above; link = same.link (g.up c) (g.side c) (on (g.up c) i.above) ∙ i.link });
      keyed = λ s l ne o. (let i = h.keyed s l ne o in let e = same.key s (on s l) in
          record { low = omega (arith, i.low); high = omega (arith, i.high) });
      displaced = λ s l o. (let i = h.displaced s l o in let e = same.key s (on s l) in
          record { low = omega (arith, i.low); high = i.high; left = same.link s Left (on s l) ∙ i.left });
      within = h.within;
    }

    below_on : (d : ℕ) → g.linked d ≡ true → d ≢ 0 → (p : ℕ) → OnRightLeft m d p → P p
    below_on d l nz p way = on p (right_left_low m n g d p h l nz way).0

    pub right_left_same : (d s : ℕ) → g.linked d ≡ true → d ≢ 0 → OnRightLeft m d s → OnRightLeft m' d s
    right_left_same d s l nz = right_left_by d s (on d l) (below_on d l nz)

    pub walks_same : (k : ℕ) (live later : ℕ → Type 0) → g.linked k ≡ true → k ≢ 0 → ((s : ℕ) → live s → P s) → ((s : ℕ) → live s → later s)
        → (s : ℕ) → Walks m g k live s → Walks m' g k later s
    walks_same k live later l nz = walks_by k live later (on k l) (below_on k l nz)

-- The parts on the tree read keys, values, links and lives of slots, the moves, locks and records of views, and the updates. A step
-- that leaves these keeps them.

module _ (m m' : Memory) (nodes : SameNodes m m') where
  pub generation_same : (s generation : ℕ) (lock : HeldLock) → HasGeneration m s generation lock → HasGeneration m' s generation lock
  generation_same s generation lock has = ⊎_elim (λ e. inl (nodes.life s ∙ e))
      (λ (e : (m (Life s) ≡ 2 * generation + 1) × (lock.marked ≡ true)). inr (nodes.life s ∙ e.0, e.1)) has

  pub generation_back : (s generation : ℕ) (lock : HeldLock) → HasGeneration m' s generation lock → HasGeneration m s generation lock
  generation_back s generation lock has = ⊎_elim (λ e. inl (sym (nodes.life s) ∙ e))
      (λ (e : (m' (Life s) ≡ 2 * generation + 1) × (lock.marked ≡ true)). inr (sym (nodes.life s) ∙ e.0, e.1)) has

  -- A move may be noted as waited for, more may be known of its copy, and other locks of its view may change.
  pub moving_by : (g : Chart) (h h' : List Mark) (u z : View) (a : Move) (waited : Bool) (known : List Known)
      → ((j : ℕ) (x : Mark) → get_elem? h j ≡ some x → get_elem? h' j ≡ some x) → z.allowance.place ≡ u.allowance.place
      → ((s : ℕ) → (s ≡ a.copy.slot) ⊎ ((s ≡ a.old) ⊎ (s ≡ a.parent)) → lock_of z.locks s ≡ lock_of u.locks s)
      → ((r : Reading) → IsIn u.records r → IsIn z.records r) → ((r : Reading) → IsIn z.records r → IsIn u.records r)
      → IsMoving m g h u a → IsMoving m' g h' z (record a { waited = waited; copy = record a.copy { known = known } })
  moving_by g h h' u z a waited known longer place locks grown fewer i = record {
    order = i.order;
    copy_some = i.copy_some;
    copy_linked = i.copy_linked;
    copy_young = i.copy_young;
    copy_key = nodes.key a.copy.slot ∙ i.copy_key;
    old_linked = i.old_linked;
    old_old = i.old_old;
    old_key = nodes.key a.old ∙ i.old_key;
    same_value = nodes.value a.copy.slot ∙ i.same_value ∙ sym (nodes.value a.old);
    parent = i.parent;
    side = i.side;
    copy_lock = (i.copy_lock.0, locks a.copy.slot (inl refl) ∙ i.copy_lock.1);
    old_lock = (i.old_lock.0, locks a.old (inr (inl refl)) ∙ i.old_lock.1);
    parent_lock = (i.parent_lock.0, locks a.parent (inr (inr refl)) ∙ i.parent_lock.1);
    made = longer a.made _ (i.made ∙ ap (λ p. some (Done (record { caller = p; op = Del a.key }))) (sym place));
    recorded = (let r = i.recorded in
        record {
          reading = r.reading;
          generation = r.generation;
          lock = r.lock;
          kept = grown r.reading r.kept;
          loaded = r.loaded;
          locked = locks a.old (inr (inl refl)) ∙ r.locked;
          same = generation_same a.old r.generation r.lock r.same;
        });
    unmet = λ r generation has loaded e. i.unmet r generation (fewer r has) loaded (sym (nodes.life a.copy.slot) ∙ e);
  }

  pub moving_same : (g : Chart) (h h' : List Mark) (u z : View) (move : Move) → SilentMarks h h' → z.allowance.place ≡ u.allowance.place
      → z.locks ≡ u.locks
      → ((r : Reading) → IsIn u.records r → IsIn z.records r) → ((r : Reading) → IsIn z.records r → IsIn u.records r)
      → IsMoving m g h u move → IsMoving m' g h' z move
  moving_same g h h' u z move quiet place locks grown fewer =
      moving_by g h h' u z move move.waited move.copy.known quiet.longer place (λ s which. ap (λ ls. lock_of ls s) locks) grown fewer

-- What a step leaves of a view for the parts on the tree: its place, its locks, its move, and its records, where it has a move.
pub record SameForTree (v w : View) : Type 0 where
  pub place : w.allowance.place ≡ v.allowance.place
  pub locks : w.locks ≡ v.locks
  pub moving : w.moving ≡ v.moving
  pub more : (r : Reading) → IsIn v.records r → IsIn w.records r
  pub fewer : (move : Move) → v.moving ≡ Some move → (r : Reading) → IsIn w.records r → IsIn v.records r

module _ (vs : List View) (id : ℕ) (v w : View) (there : get_elem? vs id ≡ some v) (moving : w.moving ≡ v.moving) where
  pub pending_still : (move : Move) → IsPending vs move → IsPending (set vs id w) move
  pending_still move p = somewhere_still vs id v w there (λ is. moving ∙ is) p

-- A move as others read it: what is known of its copy, and whether it was waited for, may be another.
pub record IsForm (a b : Move) : Type 0 where
  pub key : b.key ≡ a.key
  pub next_key : b.next_key ≡ a.next_key
  pub copy : b.copy.slot ≡ a.copy.slot
  pub old : b.old ≡ a.old
  pub made : b.made ≡ a.made

pub same_form : (a : Move) → IsForm a a
same_form a = record { key = refl; next_key = refl; copy = refl; old = refl; made = refl }

-- a view had a move of this form
pub record HadMove (vs : List View) (j : ℕ) (a : Move) : Type 0 where
  pub view : View
  pub before : Move
  pub stands : get_elem? vs j ≡ some view
  pub has_it : view.moving ≡ Some before
  pub form : IsForm before a

-- The pending moves are of the same form, each of the same view.
pub record SameMoves (vs us : List View) : Type 0 where
  pub forth : (a : Move) → IsPending vs a → (b : Move) × IsPending us b × IsForm a b
  pub back : (j : ℕ) (u : View) (a : Move) → get_elem? us j ≡ some u → u.moving ≡ Some a → HadMove vs j a

pub moves_same : (vs : List View) (id : ℕ) (v w : View) → get_elem? vs id ≡ some v → w.moving ≡ v.moving → SameMoves vs (set vs id w)
moves_same vs id v w there moving = record {
  forth = λ a p. (a, pending_still vs id v w there moving a p, same_form a);
  back = λ j u a e is. (let z = was (λ (x : View). x.moving) vs id v w there moving j u e in
      record { view = z.0; before = a; stands = z.1; has_it = sym z.2 ∙ is; form = same_form a });
}

pub tree_by : (m m' : Memory) (n : ℕ) (g : Chart) (vs us : List View) (h h' : List Mark) → SameNodes m m' → SilentMarks h h'
    → SameMoves vs us → Each us (λ u. (move : Move) → u.moving ≡ Some move → IsMoving m' g h' u move) → TreeParts m n g vs h
    → TreeParts m' n g us h'
tree_by m m' n g vs us h h' nodes quiet same each t = record {
  shape = shape_same m m' any any (all_same m m' nodes) g (λ s l. tt) n t.shape;
  map = subst (λ us. HoldsMap m' g (λ x. finite.get (map_of us) x)) (sym quiet.updates)
      (map_same m m' any any (all_same m m' nodes) g (λ s l. tt) (λ s l. tt) (map_now h) t.map);
  moves = record {
    each = each;
    every = λ s l o. (let a = t.moves.every s l o in let p = same.forth a.move a.pending in
        record { move = p.0; pending = p.1; old = (let f = p.2 in f.old) ∙ a.old });
    one_old = λ i j a b x y ea eb ia ib e. (let u = same.back i a x ea ia in let z = same.back j b y eb ib in
        t.moves.one_old i j u.view z.view u.before z.before u.stands z.stands u.has_it z.has_it (sym u.form.old ∙ e ∙ z.form.old));
    one_copy = λ i j a b x y ea eb ia ib e. (let u = same.back i a x ea ia in let z = same.back j b y eb ib in
        t.moves.one_copy i j u.view z.view u.before z.before u.stands z.stands u.has_it z.has_it (sym u.form.copy ∙ e ∙ z.form.copy));
  };
}

pub tree_frame : (m m' : Memory) (n : ℕ) (g : Chart) (vs : List View) (id : ℕ) (v w : View) (h h' : List Mark)
    → get_elem? vs id ≡ some v → SameNodes m m' → SameForTree v w → SilentMarks h h' → TreeParts m n g vs h
    → TreeParts m' n g (set vs id w) h'
tree_frame m m' n g vs id v w h h' there nodes same quiet t =
    tree_by m m' n g vs (set vs id w) h h' nodes quiet (moves_same vs id v w there same.moving)
    (each_set (λ j u. (move : Move) → u.moving ≡ Some move → IsMoving m' g h' u move) vs id w
    (λ move is. moving_same m m' nodes g h h' v w move quiet same.place same.locks same.more (same.fewer move (sym same.moving ∙ is))
    (t.moves.each id v there move (sym same.moving ∙ is)))
    (λ j u other e move is. moving_same m m' nodes g h h' u u move quiet refl refl (λ r i. i) (λ r i. i) (t.moves.each j u e move is))) t

-- The parts on readers read the words of nodes, the sections, records, moves and locks of views, the updates and where slots were
-- unlinked. A step that leaves nodes, moves and locks keeps what holds of the other views' sections and records.

-- a slot that is as recorded is unmarked, and linked
pub recorded_even : (m : Memory) (r : Reading) (s : ℕ) → IsAsRecorded m r s → IsEven (m (Life s))
recorded_even m r s i = omega (arith, i.same)

pub recorded_linked : (m : Memory) (g : Chart) (r : Reading) (s : ℕ) → IsReadingKept m g r → IsAsRecorded m r s → g.linked s ≡ true
recorded_linked m g r s kept i = let l = i.recorded in kept.linked s l.0 l.1 (i.same ∙ ap (λ x. 2 * x) l.2)

module _ (m m' : Memory) (lives : (s : ℕ) → m' (Life s) ≡ m (Life s)) where
  pub recorded_back : (r : Reading) (s : ℕ) → IsAsRecorded m' r s → IsAsRecorded m r s
  recorded_back r s i = record { generation = i.generation; recorded = i.recorded; same = sym (lives s) ∙ i.same }

  pub linked_back : (g : Chart) (r : Reading) (s : ℕ) → IsStillLinked m' g r s → IsStillLinked m g r s
  linked_back g r s i = record {
    linked = i.linked;
    generation = i.generation;
    recorded = i.recorded;
    same = ap (λ x. x / 2) (sym (lives s)) ∙ i.same;
  }

pub held_back_same : (g : Chart) (h h' : List Mark) (entered s : ℕ) → SilentMarks h h' → IsHeldBack g h entered s → IsHeldBack g h' entered s
held_back_same g h h' entered s quiet i = record { out = i.out; at = i.at; gone = quiet.gone s ∙ i.gone; later = i.later }

pub said_same : (h h' : List Mark) (key from : ℕ) (o : Option ℕ) → SilentMarks h h' → WasSaid (updates_of h) key from o
    → WasSaid (updates_of h') key from o
said_same h h' key from o quiet i = subst (λ us. WasSaid us key from o) (sym quiet.updates) i

-- what a search found is an answer as long as what was said of its key stays said
pub answered_by : (us later : List Update) (section : Section)
    → ((o : Option ℕ) → WasSaid us section.key section.from o → WasSaid later section.key section.from o) → (state : SearchState)
    → Answered us section state → Answered later section state
answered_by us later section said (Found s parent b (Some value)) i = said (Some value) i
answered_by us later section said (Missed s b) i = said None i
answered_by us later section said _ i = tt

-- A reader may pass an old successor still where its move is pending still; and a slot is old for a key.
pub may_by : {vs us : List View} {key entered s : ℕ} (i : MayPass vs key entered s) → IsPending us i.move → MayPass us key entered s
may_by i pending = record { move = i.move; pending = pending; old = i.old; low = i.low; high = i.high; before = i.before }

pub old_by : {vs us : List View} {key s : ℕ} (i : IsOldFor vs key s) → IsPending us i.move → IsOldFor us key s
old_by i pending = record { move = i.move; pending = pending; old = i.old; low = i.low; high = i.high }

-- The stepping view's moves and locks stay.
module _ (vs : List View) (id : ℕ) (v w : View) (there : get_elem? vs id ≡ some v) (moving : w.moving ≡ v.moving) where
  pub may_still : (key entered s : ℕ) → MayPass vs key entered s → MayPass (set vs id w) key entered s
  may_still key entered s i = may_by i (pending_still vs id v w there moving i.move i.pending)

  pub old_still : (key s : ℕ) → IsOldFor vs key s → IsOldFor (set vs id w) key s
  old_still key s i = old_by i (pending_still vs id v w there moving i.move i.pending)

-- the view's locks still say which sides it emptied
pub emptied_still : (vs : List View) (id : ℕ) (v w : View) → get_elem? vs id ≡ some v → w.locks ≡ v.locks → (s : ℕ) (b : Side)
    → IsEmptied vs s b → IsEmptied (set vs id w) s b
emptied_still vs id v w there locks s b = somewhere_still vs id v w there (λ (x : HasEmptied v s b).
    record { lock = x.lock; held = ap (λ ls. lock_of ls s) locks ∙ x.held; emptied = x.emptied })

-- who has a section open that was entered before a mark had so, where the step enters none before it
pub met_by : (vs : List View) (id : ℕ) (v w : View) → get_elem? vs id ≡ some v → (at : ℕ)
    → ((section : Section) → w.section ≡ Some section → section.entered < at → HasMetBefore v at) → IsMetBefore (set vs id w) at
    → IsMetBefore vs at
met_by vs id v w there at back = somewhere_was vs id v w there (λ (x : HasMetBefore w at). back x.section x.is_open x.before)

-- the section is as it was, or none is open
pub met_still : (vs : List View) (id : ℕ) (v w : View) → get_elem? vs id ≡ some v → w.section ≡ v.section → (at : ℕ)
    → IsMetBefore (set vs id w) at → IsMetBefore vs at
met_still vs id v w there same at = met_by vs id v w there at (λ section is before.
    record { section = section; is_open = sym same ∙ is; before = before })

pub met_outside : (vs : List View) (id : ℕ) (v w : View) → get_elem? vs id ≡ some v → w.section ≡ None → (at : ℕ)
    → IsMetBefore (set vs id w) at → IsMetBefore vs at
met_outside vs id v w there outside at = met_by vs id v w there at (λ section is before.
    absurd (let q : None ≡ Some section = sym outside ∙ is in cc))

-- Links of unlinked slots are as old after a step that leaves these links, and who is linked and who unlinked.
pub aged_by : (m m' : Memory) (g : Chart) (vs us : List View) (h h' : List Mark) → ((s : ℕ) → gone_at s h' ≡ gone_at s h)
    → ((s : ℕ) (b : Side) → m' (Link s b) ≡ m (Link s b)) → ((at : ℕ) → at < length h → IsMetBefore us at → IsMetBefore vs at)
    → AreAged m g vs h → AreAged m' g us h'
aged_by m m' g vs us h h' gone links met t s at c b is now link ne =
    let was = sym (gone s) ∙ is in
    let aged = t s at c b was (met at (gone_at-below s h at was) now) (sym (links s b) ∙ link) ne in
    record {
      rank = aged.rank;
      leads = ⊎_elim (λ l. inl l)
          (λ (x : IsGoneSince h at c). inr (record { at = x.at; gone = gone c ∙ x.gone; later = x.later })) aged.leads;
    }

-- What readers see of the views: who may pass an old successor, which slots are old for a key, and which sides were emptied.
pub record ReadersSee (vs us : List View) : Type 0 where
  pub may : (key entered s : ℕ) → MayPass vs key entered s → MayPass us key entered s
  pub old_for : (key s : ℕ) → IsOldFor vs key s → IsOldFor us key s
  pub emptied : (s : ℕ) (b : Side) → IsEmptied vs s b → IsEmptied us s b

pub see_by : (vs us : List View) → SameMoves vs us → ((s : ℕ) (b : Side) → IsEmptied vs s b → IsEmptied us s b) → ReadersSee vs us
see_by vs us same emptied = record {
  may = λ key entered s i.
      (let p = same.forth i.move i.pending in
      let f = p.2 in
      let a = f.key in let c = f.next_key in let d = f.made in let low = i.low in let high = i.high in let before = i.before in
      record { move = p.0; pending = p.1; old = f.old ∙ i.old; low = omega arith; high = omega arith; before = omega arith });
  old_for = λ key s i.
      (let p = same.forth i.move i.pending in
      let f = p.2 in
      let a = f.key in let c = f.next_key in let low = i.low in let high = i.high in
      record { move = p.0; pending = p.1; old = f.old ∙ i.old; low = omega arith; high = omega arith });
  emptied = emptied;
}

pub see_same : (vs : List View) (id : ℕ) (v w : View) → get_elem? vs id ≡ some v → w.moving ≡ v.moving → w.locks ≡ v.locks
    → ReadersSee vs (set vs id w)
see_same vs id v w there moving locks = record {
  may = may_still vs id v w there moving;
  old_for = old_still vs id v w there moving;
  emptied = emptied_still vs id v w there locks;
}

module _ (m m' : Memory) (nodes : SameNodes m m') (g : Chart) (vs us : List View) (h h' : List Mark) (quiet : SilentMarks h h')
    (see : ReadersSee vs us) where
  contents : SameContents m m' any any
  contents = all_same m m' nodes

  linked_any : (s : ℕ) → g.linked s ≡ true → any s
  linked_any s l = tt

  path_same : (d s : ℕ) → OnRightLeft m d s → OnRightLeft m' d s
  path_same d s = right_left_by m m' any any contents g linked_any d s tt (λ p way. tt)

  pub served_by : (section : Section) → IsServed m g h vs section → IsServed m' g h' us section
  served_by section i = record {
    placed = λ none. (let p = i.placed none in record {
      place = place_same m m' any any contents g linked_any (λ u l o. tt) section.key (IsHeldBack g h section.entered)
          (IsHeldBack g h' section.entered) (MayPass vs section.key section.entered) (MayPass us section.key section.entered)
          (WasSaid (updates_of h) section.key section.from) (WasSaid (updates_of h') section.key section.from)
          (λ s l. tt) (λ s l. tt) (λ s. held_back_same g h h' section.entered s quiet) (see.may section.key section.entered)
          (λ o. said_same h h' section.key section.from o quiet) _ p.place;
      answered = answered_by (updates_of h) (updates_of h') section
          (λ o. said_same h h' section.key section.from o quiet) section.reading.state p.answered;
    });
    lists = i.lists;
    walking = λ node parent b value walk found on. (let p = i.walking node parent b value walk found on in record {
      walks = λ l. walks_by m m' any any contents g linked_any node (IsHeldBack g h section.entered) (IsHeldBack g h' section.entered) tt
          (λ s way. tt) (λ s l. tt) (λ s. held_back_same g h h' section.entered s quiet) walk.slot (p.walks l);
      parent = λ l k. ⊎_elim (λ e. inl e) (λ e. inr (path_same node walk.parent e)) (p.parent l k);
    });
    stood = λ s has. (let p = i.stood s has in record {
      here = ⊎_elim (λ l. inl l) (λ (x : IsHeldBack g h section.entered s × IsOdd (m (Life s))). inr
          (held_back_same g h h' section.entered s quiet x.0, subst IsOdd (sym (nodes.life s)) x.1)) p.here;
      key = λ key e. nodes.key s ∙ p.key key e;
      life = λ life e. ap (λ x. x / 2) (nodes.life s) ∙ p.life life e;
    });
    way = i.way;
  }

  pub record_by : (r : Reading) → IsRecord m g vs r → IsRecord m' g us r
  record_by r i = record {
    key_fits = i.key_fits;
    side = λ s tag b missed life known empty same settled.
        ⊎_elim (λ o. inl (see.old_for r.key s o)) (λ x. inr (belongs_same m m' any any contents g linked_any r.key s b tt x))
        (i.side s tag b missed (recorded_back m m' nodes.life r s life) known (sym (nodes.link s b) ∙ empty) (sym (nodes.tag s b) ∙ same)
        (λ x. settled (see.emptied s b x)));
    walk = λ node parent b value walk found on. (let p = i.walk node parent b value walk found on in record {
      parent = λ x y. ⊎_elim (λ e. inl e) (λ e. inr (path_same node walk.parent e))
          (p.parent (linked_back m m' nodes.life g r node x) (recorded_back m m' nodes.life r walk.parent y));
      slot = λ x y. path_same node walk.slot (p.slot (linked_back m m' nodes.life g r node x) (recorded_back m m' nodes.life r walk.slot y));
    });
  }

-- The stepping view's section and records stay.
module _ (m m' : Memory) (nodes : SameNodes m m') (g : Chart) (vs : List View) (id : ℕ) (v w : View) (h h' : List Mark)
    (there : get_elem? vs id ≡ some v) (quiet : SilentMarks h h') (see : ReadersSee vs (set vs id w)) (section : w.section ≡ v.section)
    (records : w.records ≡ v.records) where
  served_stays : (s : Section) → IsServed m g h vs s → IsServed m' g h' (set vs id w) s
  served_stays = served_by m m' nodes g vs (set vs id w) h h' quiet see

  record_stays : (r : Reading) → IsRecord m g vs r → IsRecord m' g (set vs id w) r
  record_stays = record_by m m' nodes g vs (set vs id w) h h' quiet see

  pub readers_stay : ReaderParts m g vs h → ReaderParts m' g (set vs id w) h'
  readers_stay t = record {
    readings = each_change (λ (u : View). Each (readings_of u) IsReading) (λ (u : View). Each (readings_of u) IsReading) vs id v w there
        (λ i. subst (λ rs. Each rs IsReading) (λ n. open_reading (sym section n) ++ sym records n) i) (λ u i. i) t.readings;
    served = each_change (λ (u : View). (s : Section) → u.section ≡ Some s → IsServed m g h vs s)
        (λ (u : View). (s : Section) → u.section ≡ Some s → IsServed m' g h' (set vs id w) s) vs id v w there
        (λ i s is. served_stays s (i s (sym section ∙ is))) (λ u i s is. served_stays s (i s is)) t.served;
    records = each_change (λ (u : View). Each u.records (IsRecord m g vs))
        (λ (u : View). Each u.records (IsRecord m' g (set vs id w))) vs id v w there
        (λ i. subst (λ rs. Each rs (IsRecord m' g (set vs id w))) (sym records) (λ j r e. record_stays r (i j r e)))
        (λ u i j r e. record_stays r (i j r e)) t.records;
    ages = aged_by m m' g vs (set vs id w) h h' quiet.gone nodes.link (λ at small. met_still vs id v w there section at) t.ages;
  }

module _ (m m' : Memory) (nodes : SameNodes m m') (g : Chart) (vs : List View) (id : ℕ) (v w : View) (h h' : List Mark)
    (there : get_elem? vs id ≡ some v) (moving : w.moving ≡ v.moving) (locks : w.locks ≡ v.locks) (quiet : SilentMarks h h') where
  pub served_same : (section : Section) → IsServed m g h vs section → IsServed m' g h' (set vs id w) section
  served_same = served_by m m' nodes g vs (set vs id w) h h' quiet (see_same vs id v w there moving locks)

  pub record_same : (r : Reading) → IsRecord m g vs r → IsRecord m' g (set vs id w) r
  record_same = record_by m m' nodes g vs (set vs id w) h h' quiet (see_same vs id v w there moving locks)

  -- The stepping view's own section and records are what the step has to say of; a section that is new comes after all unlinkings.
  pub record OwnReaders : Type 0 where
    pub readings : Each (readings_of w) IsReading
    pub served : (section : Section) → w.section ≡ Some section → IsServed m' g h' (set vs id w) section
    pub records : Each w.records (IsRecord m' g (set vs id w))
    pub older : (section : Section) → w.section ≡ Some section
        → (length h ≤ section.entered) ⊎ ((z : Section) × (v.section ≡ Some z) × (z.entered ≡ section.entered))

  met_back : OwnReaders → (at : ℕ) → at < length h → IsMetBefore (set vs id w) at → IsMetBefore vs at
  met_back own at small = met_by vs id v w there at (λ section is before. ⊎_elim
      (λ (late : length h ≤ section.entered). absurd (omega arith))
      (λ (z : (z : Section) × (v.section ≡ Some z) × (z.entered ≡ section.entered)). record {
        section = z.0;
        is_open = z.1;
        before = (let e = z.2 in omega arith);
      })
      (own.older section is))

  pub reader_frame : OwnReaders → ReaderParts m g vs h → ReaderParts m' g (set vs id w) h'
  reader_frame own t = record {
    readings = each_set (λ j u. Each (readings_of u) IsReading) vs id w own.readings (λ j u other e. t.readings j u e);
    served = each_set (λ j u. (section : Section) → u.section ≡ Some section → IsServed m' g h' (set vs id w) section) vs id w own.served
        (λ j u other e section is. served_same section (t.served j u e section is));
    records = each_set (λ j u. Each u.records (IsRecord m' g (set vs id w))) vs id w own.records
        (λ j u other e i r is. record_same r (t.records j u e i r is));
    ages = aged_by m m' g vs (set vs id w) h h' quiet.gone nodes.link (met_back own) t.ages;
  }

-- The parts on listings read nodes, where slots were unlinked, the updates, and the listings of views. A step that leaves nodes keeps the
-- listings of other views; of its own it says what holds.

module _ (m m' : Memory) (nodes : SameNodes m m') (g : Chart) (h h' : List Mark)
    (quiet : SilentMarks h h') where
  map_kept : map_now h' ≡ map_now h
  map_kept = ap (λ us x. finite.get (map_of us) x) quiet.updates

  stands_same : (entered : ℕ) (t : Visit) → StandsNow m g h entered t → StandsNow m' g h' entered t
  stands_same entered t i = subst (λ map. GoesOn m' g (IsHeldBack g h' entered) map t.bounds t.slot) (sym map_kept)
      (carry_going m m' g g (IsHeldBack g h entered) (IsHeldBack g h' entered) (map_now h) (record {
        linked = λ bounds s has. here has;
        grow = λ s l. held_back_same g h h' entered s quiet l;
        key = λ s l. nodes.key s;
        value = λ s l. nodes.value s;
        link = λ s b l. nodes.link s b;
        rank = λ s c l known lt. lt;
      }) t.bounds t.slot i)

  visit_same : (entered : ℕ) (t : Visit) → IsVisit m g h entered t → IsVisit m' g h' entered t
  visit_same entered t i = record {
    node = i.node;
    key = λ key e. nodes.key t.slot ∙ i.key key e;
    here = ⊎_elim (λ l. inl l) (λ x. inr (held_back_same g h h' entered t.slot quiet x)) i.here;
  }

  pub listing_same : (section : Section) (listing : Listing) → IsListing m g h section listing → IsListing m' g h' section listing
  listing_same section listing i = record {
    since = i.since;
    most = subst (λ us. listing.front ≤ 2 * length us + 1) (sym quiet.updates) i.most;
    visits = λ j t at. visit_same section.entered t (i.visits j t at);
    now = λ fewer. (let r = i.now (subst (λ us. 2 * length us ≤ listing.front) quiet.updates fewer) in record {
      facts = subst (λ map. Each listing.facts (λ (f : Fact). map f.key ≡ Some f.value)) (sym map_kept) r.facts;
      gaps = subst (λ map. Each listing.gaps (λ (gap : Gap). (y : ℕ) → IsBetween gap y → map y ≡ None)) (sym map_kept) r.gaps;
      visits = λ j t at. stands_same section.entered t (r.visits j t at);
    });
  }

  pub listing_frame : (vs : List View) (id : ℕ) (w : View)
      → ((section : Section) (listing : Listing) → w.section ≡ Some section → section.listing ≡ Some listing
      → IsListing m' g h' section listing) → ListingParts m g vs h → ListingParts m' g (set vs id w) h'
  listing_frame vs id w own t = record {
    listings = each_set (λ j u. (section : Section) (listing : Listing) → u.section ≡ Some section → section.listing ≡ Some listing
        → IsListing m' g h' section listing) vs id w own
        (λ j u other e section listing is lists. listing_same section listing (t.listings j u e section listing is lists));
  }

  -- and its own is as it was
  pub listing_frame_still : (vs : List View) (id : ℕ) (v w : View) → get_elem? vs id ≡ some v → w.section ≡ v.section
      → ListingParts m g vs h → ListingParts m' g (set vs id w) h'
  listing_frame_still vs id v w there section t =
      listing_frame vs id w (λ s listing is lists. listing_same s listing (t.listings id v there s listing (sym section ∙ is) lists)) t
