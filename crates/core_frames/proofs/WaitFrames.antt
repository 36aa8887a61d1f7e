-- The frames of three groups: marks, grace and reuse, and the waiters' words.
use Rattle.std.proofs.Common.{◌≡◌, ℕ, ◌+◌, ◌≤◌, List, [], ◌∷◌, ◌++◌, length, set, Some, refl, sym, ap, subst, ◌∙◌, ⊎_elim, arith, ◌≢◌, ◌⊎◌, inl, inr, ◌<◌, None, Bool, true, take, Option, false}
use mathlib.Core.Option.{some}
use mathlib.Core.List.{IsPrefix}
use lib.ListN.{get_elem?}
use Rattle.atomic_table.proofs.Lists.{at_longer}
use Rattle.prcu_marks.specs.declared.mark.Mark.{Mark}
use Rattle.prcu_marks.specs.declared.mark.Mark.TheVariants.{Entered, Left, Began, Ended, Done, Given, Freed}
use Rattle.prcu_model.specs.declared.operation.Op.TheVariants.{Del}
use Rattle.prcu_marks.specs.Marks.{Open, open_at, gone_at, last_unlinked, greatest_key}
use Rattle.prcu_model.proofs.ListFacts.{prefix_self, prefix_trans}
use Rattle.core_state.specs.declared.view.Waiting.{Waiting}
use Rattle.core_state.specs.declared.view.View.{View}
use Rattle.core_state.specs.Marks.{begun, AreMarks, IsNextSection, BeganBefore, IsNextWait, Grace, Reuse, HasWaited}
use Rattle.core_state.specs.Parts.{HasEnded, WaitStands, MarkParts, HasSeenAll, IsClear, IsWaitedRetired, IsWaitedMove, GraceParts, IsClocked, AreExcused, IsTurnedOnce, WaiterParts, DeerWords, DomainWords, EerWords, inside_count}
use Rattle.list_laws.proofs.Lists.{at_below, at_end, past_snoc, each_change, each_set, total_same, somewhere_here, somewhere_still}
use Rattle.core_frames.proofs.Views.{was, reader_words}
use Rattle.core_state.specs.Views.{Works}
use Rattle.core_frames.proofs.Marks.{NoWaitEnded, cut_at, longer_at, waits_same, IsOutside, TurnsNoWait, SilentMarks, back_at, prefix_snoc, waits_snoc, reuse_more, begun-same, room_at}
use Rattle.core_state.specs.declared.view.Move.{Move}
use Rattle.core_state.specs.declared.view.Retired.{Retired}
use Rattle.core_state.specs.declared.view.Section.{Section}
use Rattle.core_state.specs.declared.view.Spent.{Spent}
use Rattle.list_laws.specs.Counts.{Each, IsIn}
use Rattle.prcu_marks.proofs.Marks.{last_unlinked-below}
use Rattle.key_interval.specs.Keys.{Holds, class_of}
use Rattle.core_state.specs.declared.shape.Shape.{Shape}
use Rattle.core_state.specs.declared.shape.Waiter.TheVariants.{Eer, Domain, Deer}
use Rattle.core_state.specs.declared.words.Field.TheVariants.{Clock, Announced, Stamp, Row}
use Rattle.core_state.specs.declared.view.Clocked.{Clocked}
use Rattle.core_state.specs.Memory.{Memory}
use Rattle.core_state.specs.Steps.{keys_of, spot_of}
use Rattle.core_state.specs.declared.shape.Waiter.{Waiter}

-- The parts on marks and waits read what views have seen, their places and waits, and the marks. One more mark keeps them where it
-- stands in order.

-- what a new mark has to meet, after these
abbrev pub NewMark : ℕ → List Mark → Mark → Type 0
NewMark places h (Entered p c x) = IsNextSection places h p c x
NewMark places h (Left p c) = (o : Open) × (open_at p h ≡ Some o) × (o.count ≡ c)
NewMark places h (Began p n low high) = IsNextWait places h p n low high
NewMark places h (Ended p n) = BeganBefore h (length h) p n
NewMark places h (Done u) = ⊥
NewMark places h _ = Unit {0}

pub marks_snoc : (places : ℕ) (h : List Mark) (m : Mark) → NewMark places h m → AreMarks places h → AreMarks places (h ++ m ∷ [])
marks_snoc places h m new t = record {
  entered = λ j p c x. past_snoc (NewMark places) h m (Entered p c x) new (λ i. t.entered i p c x) j;
  left = λ j p c. past_snoc (NewMark places) h m (Left p c) new (λ i. t.left i p c) j;
  began = λ j p c low high. past_snoc (NewMark places) h m (Began p c low high) new (λ i. t.began i p c low high) j;
  ended = λ j p c e. ⊎_elim
      (λ (o : get_elem? h j ≡ some (Ended p c)). (let r = t.ended j p c o in
      record { at = r.at; low = r.low; high = r.high; before = r.before; begins = at_longer h (m ∷ []) r.at _ r.begins }))
      (λ n. (let r : BeganBefore h (length h) p c = subst (NewMark places h) n.1 new in
      record {
        at = r.at;
        low = r.low;
        high = r.high;
        before = omega (arith, r.before, n.0);
        begins = at_longer h (m ∷ []) r.at _ r.begins;
      }))
      (at_end h m (Ended p c) j e);
  deleted = λ j p x e. ⊎_elim
      (λ (o : get_elem? h j ≡ some (Done (record { caller = p; op = Del x }))). (let r = t.deleted j p x o in
      (r.0, at_longer h (m ∷ []) (j + 1) _ r.1)))
      (λ n. absurd (subst (NewMark places h) n.1 new))
      (at_end h m (Done (record { caller = p; op = Del x })) j e);
}

-- What a step leaves of a view for the parts on marks: its place, its wait, and how many there were.
pub record SameForMarks (v w : View) : Type 0 where
  pub place : w.allowance.place ≡ v.allowance.place
  pub places : w.allowance.places ≡ v.allowance.places
  pub wait : w.wait ≡ v.wait
  pub waits : w.counts.waits ≡ v.counts.waits

pub wait_same : (h : List Mark) (u z : View) (wait : Waiting) → z.allowance.place ≡ u.allowance.place → Works z
    → z.counts.waits ≡ u.counts.waits → WaitStands h u wait → WaitStands h z wait
wait_same h u z wait place works waits i = record {
  works = works;
  begins = i.begins ∙ ap (λ p. some (Began p wait.count wait.low wait.high)) (sym place);
  clock = i.clock;
  newest = i.newest ∙ sym waits;
  over = λ x. subst (λ p. HasEnded h p wait.count) (sym place) (i.over x);
  going = λ x has. i.going x (subst (λ p. HasEnded h p wait.count) place has);
}

-- a wait after more marks, which don't end it
pub wait_longer : (h h' : List Mark) (u : View) (wait : Waiting) → IsPrefix h h'
    → (HasEnded h' u.allowance.place wait.count → HasEnded h u.allowance.place wait.count) → WaitStands h u wait → WaitStands h' u wait
wait_longer h h' u wait grows back i = record {
  works = i.works;
  begins = longer_at h h' grows wait.began _ i.begins;
  clock = i.clock ∙ ap begun (sym (cut_at h h' grows wait.began (let b = at_below h wait.began _ i.begins in omega arith)));
  newest = i.newest;
  over = λ x. (let r = i.over x in (r.0, longer_at h h' grows r.0 _ r.1));
  going = λ x has. i.going x (back has);
}

-- Where marks come, the step's view has seen them all; where none come, it may have seen no more than before.
abbrev pub Sees : List Mark → List Mark → View → View → Type 0
Sees h h' v w = (w.seen ≡ h') ⊎ ((h' ≡ h) × (w.seen ≡ v.seen))

module _ (places : ℕ) (vs : List View) (id : ℕ) (v w : View) (h h' : List Mark) (there : get_elem? vs id ≡ some v) (grows : IsPrefix h h')
    (sees : Sees h h' v w) (marks : AreMarks places h') (t : MarkParts places vs h) where
  seen_by : IsPrefix v.seen h → Sees h h' v w → IsPrefix w.seen h'
  seen_by i (inl all) = subst (λ s. IsPrefix s h') (sym all) (prefix_self h')
  seen_by i (inr none) = subst (λ s. IsPrefix s h') (sym none.1) (prefix_trans v.seen h h' i grows)

  longest_by : Sees h h' v w → HasSeenAll (set vs id w) h'
  longest_by (inl all) = somewhere_here vs id v w there all
  longest_by (inr none) = subst (HasSeenAll (set vs id w)) (sym none.0) (somewhere_still vs id v w there (λ all. none.1 ∙ all) t.seen.longest)

  -- the step says how its own wait stands, and that the others do
  pub mark_frame_by : ((wait : Waiting) → w.wait ≡ Some wait → WaitStands h' w wait)
      → ((j : ℕ) (u : View) (wait : Waiting) → j ≢ id → get_elem? vs j ≡ some u → WaitStands h u wait
      → HasEnded h' u.allowance.place wait.count → HasEnded h u.allowance.place wait.count) → MarkParts places (set vs id w) h'
  mark_frame_by own back = record {
    seen = record {
      begins = each_change (λ (u : View). IsPrefix u.seen h) (λ (u : View). IsPrefix u.seen h') vs id v w there (λ i. seen_by i sees)
          (λ u i. prefix_trans u.seen h h' i grows) t.seen.begins;
      longest = longest_by sees;
    };
    marks = marks;
    waits = each_set (λ j u. (wait : Waiting) → u.wait ≡ Some wait → WaitStands h' u wait) vs id w own
        (λ j u ne e wait is. (let i = t.waits j u e wait is in wait_longer h h' u wait grows (back j u wait ne e i) i));
  }

  -- no wait begins or ends
  pub mark_frame_still : NoWaitEnded h h' → SameForMarks v w → MarkParts places (set vs id w) h'
  mark_frame_still quiet same =
      let back : (p c : ℕ) → HasEnded h' p c → HasEnded h p c = λ p c has. (has.0, quiet.ended has.0 p c has.1) in
      mark_frame_by
      (λ wait is. (let i = t.waits id v there wait (sym same.wait ∙ is) in
      wait_same h' v w wait same.place (subst (λ x. 1 ≤ x) (sym same.places) i.works) same.waits
      (wait_longer h h' v wait grows (back v.allowance.place wait.count) i)))
      (λ j u wait ne e i. back u.allowance.place wait.count)

-- a step without a mark
pub mark_frame : (places : ℕ) (vs : List View) (id : ℕ) (v w : View) (h : List Mark) → get_elem? vs id ≡ some v → SameForMarks v w
    → w.seen ≡ v.seen → MarkParts places vs h → MarkParts places (set vs id w) h
mark_frame places vs id v w h there same seen t =
    mark_frame_still places vs id v w h h there (prefix_self h) (inr (refl, seen)) t.marks t (waits_same h) same

-- The parts on grace and reuse read what was waited for, by the views and by the marks, and the open sections. A step that ends no
-- wait keeps them, where no section comes that was entered before the marks that come.

-- A section that the view has now it had before, or it is new.
abbrev pub OnlyOlder : List Mark → View → View → Type 0
OnlyOlder h v w = (section : Section) → w.section ≡ Some section
    → (length h ≤ section.entered) ⊎ ((z : Section) × (v.section ≡ Some z) × (z.entered ≡ section.entered) × (z.key ≡ section.key))

-- what a wait was for, by where it began and ended
pub waited_by : {h h' : List Mark} {p after low high : ℕ} (i : HasWaited h p after low high)
    → get_elem? h' i.began ≡ some (Began p i.count i.from i.to) → get_elem? h' i.ended ≡ some (Ended p i.count)
    → HasWaited h' p after low high
waited_by i begins ends = record {
  began = i.began;
  ended = i.ended;
  count = i.count;
  from = i.from;
  to = i.to;
  late = i.late;
  begins = begins;
  ends = ends;
  least = i.least;
  most = i.most;
}

-- the same, with more marks
pub waited_longer : (h h' : List Mark) → ((j : ℕ) (a : Mark) → get_elem? h j ≡ some a → get_elem? h' j ≡ some a) → (p after low high : ℕ)
    → HasWaited h p after low high → HasWaited h' p after low high
waited_longer h h' longer p after low high i = waited_by i (longer i.began _ i.begins) (longer i.ended _ i.ends)

pub waited_before : (h h' : List Mark) → NoWaitEnded h h' → (p after low high : ℕ) → HasWaited h' p after low high
    → HasWaited h p after low high
waited_before h h' quiet p after low high i =
    let ends = quiet.ended i.ended p i.count i.ends in
    waited_by i (quiet.began i.began p i.count i.from i.to (i.ended, ends) i.begins) ends

waited_below : (h : List Mark) (p after low high : ℕ) → HasWaited h p after low high → after < length h
waited_below h p after low high i = let l = at_below h i.began _ i.begins in let late = i.late in omega arith

-- where no wait ends, grace stays
pub grace_longer : (h h' : List Mark) → IsPrefix h h' → NoWaitEnded h h' → Grace h → Grace h'
grace_longer h h' grows quiet grace i j e p n low high q c x began ended entered lt from to =
    let f = quiet.ended j p n ended in
    let b = quiet.began i p n low high (j, f) began in
    let short = at_below h i (Began p n low high) b in
    let r = grace i j e p n low high q c x b f (back_at h h' grows e (Entered q c x) (omega arith) entered) lt from to in
    record { at = r.at; after = r.after; before = r.before; left = longer_at h h' grows r.at _ r.left }

pub grace_snoc : (h : List Mark) (m : Mark) → TurnsNoWait m → Grace h → Grace (h ++ m ∷ [])
grace_snoc h m none grace = grace_longer h (h ++ m ∷ []) (prefix_snoc h m) (waits_snoc h m none) grace

pub reuse_snoc : (h : List Mark) (m : Mark) → IsOutside m → Reuse h → Reuse (h ++ m ∷ [])
reuse_snoc h m outside reuse = reuse_more h m (λ s r. ⊎_elim (λ (e : m ≡ Given s). absurd (subst IsOutside e outside))
    (λ (e : m ≡ Freed s). absurd (subst IsOutside e outside)) r) reuse

-- A wait of this place, for these keys and begun after this mark, is noted just where it was, and then no reader is left that it was
-- for: this is what holds of a retired slot and of a pending move.
pub record IsNoted (vs : List View) (h : List Mark) (p : ℕ) (noted : Bool) (after low high : ℕ) : Type 0 where
  pub shown : noted ≡ true → HasWaited h p after low high
  pub told : HasWaited h p after low high → noted ≡ true
  pub clear : noted ≡ true → IsClear vs after low high

-- What was waited for at a place, and which readers are left, is as before.
pub record StaysNoted (vs us : List View) (h h' : List Mark) (p : ℕ) : Type 0 where
  pub grow : (after low high : ℕ) → HasWaited h p after low high → HasWaited h' p after low high
  pub shrink : (after low high : ℕ) → HasWaited h' p after low high → HasWaited h p after low high
  pub clear : (after low high : ℕ) → after < length h → IsClear vs after low high → IsClear us after low high

module _ (vs us : List View) (h h' : List Mark) (p : ℕ) (stays : StaysNoted vs us h h' p) where
  noted_still : (noted : Bool) (after low high : ℕ) → IsNoted vs h p noted after low high → IsNoted us h' p noted after low high
  noted_still noted after low high i = record {
    shown = λ e. stays.grow after low high (i.shown e);
    told = λ has. i.told (stays.shrink after low high has);
    clear = λ e. stays.clear after low high (waited_below h p after low high (i.shown e)) (i.clear e);
  }

  pub retired_stays : (r : Retired) → IsWaitedRetired vs h p r → IsWaitedRetired us h' p r
  retired_stays r i = let n = noted_still r.waited r.unlinked 0 greatest_key
      (record { shown = i.shown; told = i.noted; clear = i.clear }) in record { shown = n.shown; noted = n.told; clear = n.clear }

  pub move_stays : (move : Move) → IsWaitedMove vs h p move → IsWaitedMove us h' p move
  move_stays move i = let n = noted_still move.waited move.made (move.key + 1) move.next_key
      (record { shown = i.shown; told = i.noted; clear = i.clear }) in record { shown = n.shown; noted = n.told; clear = n.clear }

-- Which readers are left, where the sections are the same, and where one is left or comes new.
module _ (vs : List View) (id : ℕ) (v w : View) (there : get_elem? vs id ≡ some v) where
  pub clear_same : w.section ≡ v.section → (after low high : ℕ) → IsClear vs after low high → IsClear (set vs id w) after low high
  clear_same section after low high clear j u s e is = let z = was (λ (x : View). x.section) vs id v w there section j u e in
      clear j z.0 s z.1 (sym z.2 ∙ is)

  clear_older : (h : List Mark) → OnlyOlder h v w → (after low high : ℕ) → after < length h → IsClear vs after low high
      → IsClear (set vs id w) after low high
  clear_older h older after low high small clear j u section e is =
      each_set (λ k z. (s : Section) → z.section ≡ Some s → s.entered < after → low ≤ s.key → s.key ≤ high → ⊥) vs id w
      (λ s mine lt from to. ⊎_elim (λ late. absurd (omega arith))
      (λ (z : (z : Section) × (v.section ≡ Some z) × (z.entered ≡ s.entered) × (z.key ≡ s.key)). (let a = z.2 in let b = z.3 in
      clear id v z.0 there z.1 (omega arith) (omega arith) (omega arith))) (older s mine))
      (λ k z other f s mine. clear k z s f mine) j u e section is

  -- what the frames below have in common
  grace_by : (h h' : List Mark) → ((p : ℕ) → StaysNoted vs (set vs id w) h h' p) → w.allowance.joined ≡ v.allowance.joined → Grace h'
      → Reuse h' → ((s at : ℕ) → gone_at s h' ≡ None → last_unlinked s h' ≡ Some at → IsClear (set vs id w) at 0 greatest_key)
      → Each w.hands.retired (IsWaitedRetired (set vs id w) h' w.allowance.place)
      → ((move : Move) → w.moving ≡ Some move → IsWaitedMove (set vs id w) h' w.allowance.place move) → GraceParts vs h
      → GraceParts (set vs id w) h'
  grace_by h h' stays joined grace reuse clean retired moves t = record {
    grace = grace;
    reuse = reuse;
    clean = clean;
    retired = each_set (λ j u. Each u.hands.retired (IsWaitedRetired (set vs id w) h' u.allowance.place)) vs id w retired
        (λ j u ne e n r is. retired_stays vs (set vs id w) h h' u.allowance.place (stays u.allowance.place) r (t.retired j u e n r is));
    joined = each_change (λ (u : View). Each u.allowance.joined (λ (s : Spent). Each s.retired (IsWaitedRetired vs h s.place)))
        (λ (u : View). Each u.allowance.joined (λ (s : Spent). Each s.retired (IsWaitedRetired (set vs id w) h' s.place))) vs id v w there
        (λ i. subst (λ z. Each z (λ (s : Spent). Each s.retired (IsWaitedRetired (set vs id w) h' s.place))) (sym joined)
        (λ j s e n r f. retired_stays vs (set vs id w) h h' s.place (stays s.place) r (i j s e n r f)))
        (λ u i j s e n r f. retired_stays vs (set vs id w) h h' s.place (stays s.place) r (i j s e n r f)) t.joined;
    moves = each_set (λ j u. (move : Move) → u.moving ≡ Some move → IsWaitedMove (set vs id w) h' u.allowance.place move) vs id w moves
        (λ j u ne e move is. move_stays vs (set vs id w) h h' u.allowance.place (stays u.allowance.place) move (t.moves j u e move is));
  }

-- A step that leaves retired slots and the move, and may enter or leave a section.
pub grace_frame : (vs : List View) (id : ℕ) (v w : View) (h h' : List Mark) → get_elem? vs id ≡ some v → OnlyOlder h v w → SilentMarks h h'
    → NoWaitEnded h h' → w.allowance.place ≡ v.allowance.place → w.allowance.joined ≡ v.allowance.joined → w.hands.retired ≡ v.hands.retired
    → w.moving ≡ v.moving
    → Grace h' → Reuse h' → GraceParts vs h → GraceParts (set vs id w) h'
grace_frame vs id v w h h' there older quiet waits place joined retired moving grace reuse t =
    grace_by vs id v w there h h' stays joined grace reuse
    (λ s at gone last. (let l = sym (quiet.last s) ∙ last in
    clear_older vs id v w there h older at 0 greatest_key (last_unlinked-below s h at l) (t.clean s at (sym (quiet.gone s) ∙ gone) l)))
    (subst (λ (z : ℕ × List Retired). Each z.1 (IsWaitedRetired (set vs id w) h' z.0)) (λ k. (sym place k, sym retired k))
    (λ j r e. retired_stays vs (set vs id w) h h' v.allowance.place (stays v.allowance.place) r (t.retired id v there j r e)))
    (λ move is. subst (λ p. IsWaitedMove (set vs id w) h' p move) (sym place)
    (move_stays vs (set vs id w) h h' v.allowance.place (stays v.allowance.place) move (t.moves id v there move (sym moving ∙ is)))) t
  where
    stays : (p : ℕ) → StaysNoted vs (set vs id w) h h' p
    stays p = record {
      grow = waited_longer h h' quiet.longer p;
      shrink = waited_before h h' waits p;
      clear = clear_older vs id v w there h older;
    }

-- A step that leaves the sections, and what was waited for. Of its retired slots and its move it says what holds.
module _ (h h' : List Mark) (grow : (p after low high : ℕ) → HasWaited h p after low high → HasWaited h' p after low high)
    (shrink : (p after low high : ℕ) → HasWaited h' p after low high → HasWaited h p after low high)
    (vs : List View) (id : ℕ) (v w : View) (there : get_elem? vs id ≡ some v) (section : w.section ≡ v.section) where
  stays_same : (p : ℕ) → StaysNoted vs (set vs id w) h h' p
  stays_same p = record {
    grow = grow p;
    shrink = shrink p;
    clear = λ after low high small. clear_same vs id v w there section after low high;
  }

  pub retired_still : (p : ℕ) (r : Retired) → IsWaitedRetired vs h p r → IsWaitedRetired (set vs id w) h' p r
  retired_still p r = retired_stays vs (set vs id w) h h' p (stays_same p) r

  pub move_still : (p : ℕ) (move : Move) → IsWaitedMove vs h p move → IsWaitedMove (set vs id w) h' p move
  move_still p move = move_stays vs (set vs id w) h h' p (stays_same p) move

  pub grace_frame_by : w.allowance.joined ≡ v.allowance.joined → Grace h' → Reuse h'
      → ((s at : ℕ) → gone_at s h' ≡ None → last_unlinked s h' ≡ Some at → IsClear vs at 0 greatest_key)
      → Each w.hands.retired (IsWaitedRetired (set vs id w) h' w.allowance.place)
      → ((move : Move) → w.moving ≡ Some move → IsWaitedMove (set vs id w) h' w.allowance.place move)
      → GraceParts vs h → GraceParts (set vs id w) h'
  grace_frame_by joined grace reuse clean retired moves t =
      grace_by vs id v w there h h' stays_same joined grace reuse
      (λ s at gone last. clear_same vs id v w there section at 0 greatest_key (clean s at gone last)) retired moves t

-- The parts on the waiters' words read the clock, the words in which readers show, the places, sections and waits of views, and what
-- they loaded and announced for their next section. A step says what it does to sections or to waits.

-- What a step leaves of a view for the parts on waiters.
pub record SameForWaiters (v w : View) : Type 0 where
  pub place : w.allowance.place ≡ v.allowance.place
  pub section : w.section ≡ v.section
  pub wait : w.wait ≡ v.wait

-- The words in which readers show are the same, and so are place, section and announced key of the view.
pub record SameReaders (v w : View) : Type 0 where
  pub place : w.allowance.place ≡ v.allowance.place
  pub section : w.section ≡ v.section
  pub announced : w.enter.announced ≡ v.enter.announced

-- A step that leaves these says what the clock is, what was loaded of it, and what it does to waits.
pub waiters_by : (k : Shape) (m m' : Memory) (vs : List View) (id : ℕ) (v w : View) (h h' : List Mark) → get_elem? vs id ≡ some v
    → SameReaders v w → reader_words m' ≡ reader_words m → m' Clock ≡ begun h' → ((p : ℕ) → open_at p h' ≡ open_at p h)
    → Each (set vs id w) (IsClocked k.waiter h') → AreExcused k (set vs id w)
    → Each (set vs id w) (λ u. (wait : Waiting) → u.wait ≡ Some wait → IsTurnedOnce wait) → WaiterParts k m vs h
    → WaiterParts k m' (set vs id w) h'
waiters_by k m m' vs id v w h h' there same words clock opens clocked excused turned t = record {
  clock = clock;
  clocked = clocked;
  excused = excused;
  turned = turned;
  eer = λ way. (let e = t.eer way in record {
    inside = each_change (λ (u : View). (section : Section) → u.section ≡ Some section
        → (m (Announced u.allowance.place) ≡ section.key) × (m (Stamp u.allowance.place) ≡ section.stamp))
        (λ (u : View). (section : Section) → u.section ≡ Some section
        → (m' (Announced u.allowance.place) ≡ section.key) × (m' (Stamp u.allowance.place) ≡ section.stamp)) vs id v w there
        (λ i section is. (let r = i section (sym same.section ∙ is) in
        ((λ n. (words n).announced (same.place n)) ∙ r.0, (λ n. (words n).stamp (same.place n)) ∙ r.1)))
        (λ u i section is. (let r = i section is in (
          (λ n. (words n).announced u.allowance.place) ∙ r.0,
          (λ n. (words n).stamp u.allowance.place) ∙ r.1,
        ))) e.inside;
    outside = λ p lt none. (λ n. (words n).stamp p) ∙ e.outside p lt (sym (opens p) ∙ none);
    announced = each_change (λ (u : View). (key : ℕ) → u.enter.announced ≡ Some key → m (Announced u.allowance.place) ≡ key)
        (λ (u : View). (key : ℕ) → u.enter.announced ≡ Some key → m' (Announced u.allowance.place) ≡ key) vs id v w there
        (λ i key is. (λ n. (words n).announced (same.place n)) ∙ i key (sym same.announced ∙ is))
        (λ u i key is. (λ n. (words n).announced u.allowance.place) ∙ i key is) e.announced;
  });
  domain = λ way. (let e = t.domain way in record {
    counts = λ c side small low. (λ n. (words n).count c side) ∙ e.counts c side small low
        ∙ sym (total_same (λ (u : View). inside_count c side u.section) vs id v w there (ap (inside_count c side) same.section));
    sides = each_change (λ (u : View). (section : Section) → u.section ≡ Some section → section.stamp < 2)
        (λ (u : View). (section : Section) → u.section ≡ Some section → section.stamp < 2) vs id v w there
        (λ i section is. i section (sym same.section ∙ is)) (λ u i. i) e.sides;
  });
  deer = λ way. (let e = t.deer way in record {
    inside = each_change (λ (u : View). (section : Section) → u.section ≡ Some section
        → m (Row u.allowance.place (class_of section.key)) ≡ section.stamp)
        (λ (u : View). (section : Section) → u.section ≡ Some section
        → m' (Row u.allowance.place (class_of section.key)) ≡ section.stamp) vs id v w there
        (λ i section is. (λ n. (words n).row (same.place n) (class_of section.key)) ∙ i section (sym same.section ∙ is))
        (λ u i section is. (λ n. (words n).row u.allowance.place (class_of section.key)) ∙ i section is) e.inside;
    outside = λ p c lt small none. (λ n. (words n).row p c) ∙ e.outside p c lt small (λ o open_now. none o (opens p ∙ open_now));
  });
}

-- Each open section's clock was loaded before now.
abbrev pub AreLoaded : List View → List Mark → Type 0
AreLoaded vs h = (j : ℕ) (u : View) (section : Section) → get_elem? vs j ≡ some u → u.section ≡ Some section → section.clocked ≤ length h

-- what was loaded of the clock, and the stamps, are as old with more marks
pub clocked_longer : (waiter : Waiter) (h h' : List Mark) (u z : View) → IsPrefix h h' → z.section ≡ u.section
    → z.enter.clock ≡ u.enter.clock → ((section : Section) → u.section ≡ Some section → section.clocked ≤ length h) → IsClocked waiter h u
    → IsClocked waiter h' z
clocked_longer waiter h h' u z grows section clock low i = record {
  loaded = λ clocked is. (let r = i.loaded clocked (sym clock ∙ is) in let a = r.0 in let b = room_at h h' grows in
      (omega arith, r.1 ∙ ap begun (sym (cut_at h h' grows clocked.at r.0))));
  stamped = λ s is. (let here = sym section ∙ is in let r = i.stamped s here in
      (r.0, λ ne. r.1 ne ∙ ap begun (sym (cut_at h h' grows s.clocked (low s here)))));
}

pub clocked_frame : (waiter : Waiter) (vs : List View) (id : ℕ) (w : View) (h h' : List Mark) → IsPrefix h h' → AreLoaded vs h
    → IsClocked waiter h' w → Each vs (IsClocked waiter h) → Each (set vs id w) (IsClocked waiter h')
clocked_frame waiter vs id w h h' grows low own t =
    each_set (λ j u. IsClocked waiter h' u) vs id w own
    (λ j u ne e. clocked_longer waiter h h' u u grows refl refl (λ s is. low j u s e is) (t j u e))

pub clocked_same : (waiter : Waiter) (vs : List View) (id : ℕ) (v w : View) (h h' : List Mark) → get_elem? vs id ≡ some v → IsPrefix h h'
    → AreLoaded vs h → w.section ≡ v.section → w.enter.clock ≡ v.enter.clock → Each vs (IsClocked waiter h)
    → Each (set vs id w) (IsClocked waiter h')
clocked_same waiter vs id v w h h' there grows low section clock t =
    clocked_frame waiter vs id w h h' grows low (clocked_longer waiter h h' v w grows section clock (λ s is. low id v s there is)
    (t id v there)) t

-- A reader stands in a spot that a wait for its key has excused.
abbrev pub StandsExcused : Shape → Waiting → View → Section → Type 0
StandsExcused k wait u section = (section.entered < wait.began) × Holds (keys_of wait) section.key
    × IsIn wait.excused (spot_of k.waiter u.allowance.place section)

-- Sections stay. Of the view's own wait the step says that no reader stands so; other waits are as they were.
pub excused_wait : (k : Shape) (vs : List View) (id : ℕ) (v w : View) → get_elem? vs id ≡ some v → w.allowance.place ≡ v.allowance.place
    → w.section ≡ v.section
    → ((wait : Waiting) (j : ℕ) (u : View) (section : Section) → w.wait ≡ Some wait → wait.ended ≡ false → get_elem? vs j ≡ some u
    → u.section ≡ Some section → StandsExcused k wait u section → ⊥)
    → AreExcused k vs → AreExcused k (set vs id w)
excused_wait k vs id v w there place same own t x y a b wait section ea waits going eb inside older holds spot =
    let q = was {X = ℕ × Option Section} (λ (u : View). (u.allowance.place, u.section)) vs id v w there (λ n. (place n, same n)) y b eb in
    let inside_was = ap (λ z. z.1) (sym q.2) ∙ inside in
    let spot_was = subst (λ p. IsIn wait.excused (spot_of k.waiter p section)) (ap (λ z. z.0) q.2) spot in
    each_set (λ n u. u.wait ≡ Some wait → ⊥) vs id w
    (λ is. own wait y q.0 section is going q.1 inside_was (older, holds, spot_was))
    (λ n u ne e is. t n y u q.0 wait section e is going q.1 inside_was older holds spot_was)
    x a ea waits

-- The waits stay too.
pub excused_same : (k : Shape) (vs : List View) (id : ℕ) (v w : View) → get_elem? vs id ≡ some v → SameForWaiters v w → AreExcused k vs
    → AreExcused k (set vs id w)
excused_same k vs id v w there same t = excused_wait k vs id v w there same.place same.section
    (λ wait j u section is going e inside x. t id j v u wait section there (sym same.wait ∙ is) going e inside x.0 x.1 x.2) t

-- Waits stay. A section that the view has now was entered after each of them began.
pub excused_section : (k : Shape) (vs : List View) (id : ℕ) (v w : View) → get_elem? vs id ≡ some v → w.wait ≡ v.wait
    → ((j : ℕ) (u : View) (wait : Waiting) (section : Section) → get_elem? vs j ≡ some u → u.wait ≡ Some wait → w.section ≡ Some section
    → section.entered < wait.began → ⊥)
    → AreExcused k vs → AreExcused k (set vs id w)
excused_section k vs id v w there waits_same own t x y a b wait section ea waits going eb inside older holds spot =
    let p = was (λ (u : View). u.wait) vs id v w there waits_same x a ea in
    let wait_was = sym p.2 ∙ waits in
    each_set (λ n u. u.section ≡ Some section → IsIn wait.excused (spot_of k.waiter u.allowance.place section) → ⊥) vs id w
    (λ is has. own x p.0 wait section p.1 wait_was is older)
    (λ n u ne e is has. t x n p.0 u wait section p.1 wait_was going e is older holds has) y b eb inside spot

pub turned_frame : (vs : List View) (id : ℕ) (w : View) → ((wait : Waiting) → w.wait ≡ Some wait → IsTurnedOnce wait)
    → Each vs (λ u. (wait : Waiting) → u.wait ≡ Some wait → IsTurnedOnce wait)
    → Each (set vs id w) (λ u. (wait : Waiting) → u.wait ≡ Some wait → IsTurnedOnce wait)
turned_frame vs id w own t = each_set (λ j u. (wait : Waiting) → u.wait ≡ Some wait → IsTurnedOnce wait) vs id w own (λ j u ne e. t j u e)

pub turned_same : (vs : List View) (id : ℕ) (v w : View) → get_elem? vs id ≡ some v → w.wait ≡ v.wait
    → Each vs (λ u. (wait : Waiting) → u.wait ≡ Some wait → IsTurnedOnce wait)
    → Each (set vs id w) (λ u. (wait : Waiting) → u.wait ≡ Some wait → IsTurnedOnce wait)
turned_same vs id v w there wait t = turned_frame vs id w (λ x is. t id v there x (sym wait ∙ is)) t

-- A step that leaves all words of the waiter, sections and waits, and no mark; what it loaded for the next section has to be so.
pub waiter_frame : (k : Shape) (m m' : Memory) (vs : List View) (id : ℕ) (v w : View) (h : List Mark) → get_elem? vs id ≡ some v
    → SameForWaiters v w → m' Clock ≡ m Clock → reader_words m' ≡ reader_words m
    → w.enter.announced ≡ v.enter.announced → ((clocked : Clocked) → w.enter.clock ≡ Some clocked
    → (clocked.at ≤ length h) × (clocked.number ≡ begun (take clocked.at h)))
    → WaiterParts k m vs h → WaiterParts k m' (set vs id w) h
waiter_frame k m m' vs id v w h there same clock words announced loaded t =
    waiters_by k m m' vs id v w h h there (record { place = same.place; section = same.section; announced = announced }) words
    (clock ∙ t.clock) (λ p. refl)
    (each_set (λ j u. IsClocked k.waiter h u) vs id w
    (record { loaded = loaded; stamped = λ section is. (t.clocked id v there).stamped section (sym same.section ∙ is) })
    (λ j u ne e. t.clocked j u e))
    (excused_same k vs id v w there same t.excused) (turned_same vs id v w there same.wait t.turned) t

-- A step that enters or leaves a section: what it does to the words of its waiter it says itself.
pub waiters_section : (k : Shape) (m m' : Memory) (vs : List View) (id : ℕ) (v w : View) (h : List Mark) (mark : Mark)
    → get_elem? vs id ≡ some v → w.wait ≡ v.wait → m' Clock ≡ m Clock → TurnsNoWait mark → AreLoaded vs h
    → IsClocked k.waiter (h ++ mark ∷ []) w
    → ((j : ℕ) (u : View) (wait : Waiting) (section : Section) → get_elem? vs j ≡ some u → u.wait ≡ Some wait → w.section ≡ Some section
    → section.entered < wait.began → ⊥)
    → (k.waiter ≡ Eer → EerWords k.places m' (set vs id w) (h ++ mark ∷ [])) → (k.waiter ≡ Domain → DomainWords m' (set vs id w))
    → (k.waiter ≡ Deer → DeerWords k.places m' (set vs id w) (h ++ mark ∷ []))
    → WaiterParts k m vs h → WaiterParts k m' (set vs id w) (h ++ mark ∷ [])
waiters_section k m m' vs id v w h mark there wait clock none low clocked late eer domain deer t = record {
  clock = clock ∙ t.clock ∙ sym (begun-same h mark none);
  clocked = clocked_frame k.waiter vs id w h (h ++ mark ∷ []) (prefix_snoc h mark) low clocked t.clocked;
  excused = excused_section k vs id v w there wait late t.excused;
  turned = turned_same vs id v w there wait t.turned;
  eer = eer;
  domain = domain;
  deer = deer;
}
