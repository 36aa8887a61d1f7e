-- What one more mark leaves, what a step leaves of seats, and the whole rule after a step.
-- What is true of each list of marks stays true with one more mark, and is true of each beginning.
use Rattle.std.proofs.Common.{◌≡◌, ℕ, ◌^◌, ◌<◌, List, [], ◌∷◌, ◌++◌, Some, None, sym, ap, subst, ◌∙◌, ⊎_elim, ◌≢◌, cond, length, Option, refl, eq-eqb, ne_eqb, append-nil, ◌⊎◌, ◌≤◌, true, false, set, inl, inr, arith, ◌+◌, ◌==◌}
use mathlib.Core.Option.{some}
use mathlib.Core.List.{IsPrefix}
use lib.ListN.{get_elem?}
use Rattle.atomic_table.proofs.Lists.{at_longer}
use Rattle.prcu_marks.specs.declared.mark.Mark.{Mark}
use Rattle.prcu_marks.specs.declared.mark.Mark.TheVariants.{Entered, Left, Began, Ended, Given, Unlinked, Freed, Moved}
use Rattle.prcu_marks.specs.Marks.{Open, open_at, entered_at, last_unlinked, next_open, next_gone, gone_at, own_of, is_of, updates_of}
use Rattle.hash_core.specs.Memory.{IsLeftHere, AreMarks, ReuseByClass, Memory}
use Rattle.list_laws.proofs.Lists.{at_end, before_at, past_snoc, each_set, total_set, somewhere_here, somewhere_still, only_change}
use Rattle.prcu_marks.proofs.Marks.{open_at-snoc, gone_at-snoc, own_of-append}
use Rattle.std.specs.List.{AllByRecursion}
use mathlib.Core.Logic.{dite}
use native.Mathlib.Decide.{ℕ_discrete}
use Rattle.hash_core.specs.declared.words.Field.TheVariants.{Front}
use Rattle.hash_core.specs.declared.view.Section.{Section}
use Rattle.hash_core.specs.declared.view.Hold.{Hold}
use Rattle.prcu_marks.specs.declared.commit.Commit.{Commit}
use Rattle.hash_core.specs.declared.view.View.{View}
use Rattle.list_laws.specs.Counts.{times, total}
use Rattle.hash_core.specs.Rule.{HasHeard, AreSeen, HasPlace, AnswersFor, AreApart, AreOwned, open_of, AreOpen, AreHeld, HasNoCommit, IsTurned, Bucket, BucketRule, MemoryRule, HasOpen, MakesOdd, IsOpenHere}
use Rattle.prcu_model.proofs.ListFacts.{prefix_self, prefix_trans, all_map}
use Rattle.prcu_model.specs.Dictionary.{IsLegal}
use Rattle.hash_core.proofs.Frames.{SameWords, SameMarks, SameView, bucket_frame, SameSection, SameHold, same_words}
use Rattle.hash_core.specs.declared.words.Field.{Field}
use Rattle.hash_core.specs.declared.words.Kind.{Kind}
use Rattle.hash_core.specs.declared.view.StepMade.{StepMade}
use Rattle.hash_core.specs.Steps.{stepped}

-- what a new mark has to meet, after these
abbrev pub NewMark : ℕ → List Mark → Mark → Type 0
NewMark places h (Entered p c x) = (p < places) × (x < 2 ^ 64) × (c ≡ entered_at p h) × (open_at p h ≡ None)
NewMark places h (Left p c) = (o : Open) × (open_at p h ≡ Some o) × (o.count ≡ c)
NewMark places h m = IsLeftHere m

left_here : (places : ℕ) (h : List Mark) (m : Mark) → NewMark places h m → IsLeftHere m
left_here places h (Began p c a b) n = n
left_here places h (Ended p c) n = n
left_here places h (Freed s) n = n
left_here places h Moved n = n
left_here places h _ n = tt

pub marks_snoc : (places : ℕ) (h : List Mark) (m : Mark) → NewMark places h m → AreMarks places h → AreMarks places (h ++ m ∷ [])
marks_snoc places h m new t = record {
  entered = λ j p c x. past_snoc (NewMark places) h m (Entered p c x) new (λ i. t.entered i p c x) j;
  left = λ j p c. past_snoc (NewMark places) h m (Left p c) new (λ i. t.left i p c) j;
  others = λ j a e. ⊎_elim (λ (o : get_elem? h j ≡ some a). t.others j a o) (λ n. subst IsLeftHere n.1 (left_here places h m new))
      (at_end h m a j e);
}

pub marks_begin : (places : ℕ) (a h : List Mark) → IsPrefix a h → AreMarks places h → AreMarks places a
marks_begin places a h begins all =
    let t = subst (AreMarks places) (sym begins.1) all in
    let r : List Mark = begins.0 in
    record {
      entered = λ j p c x e. (let q = t.entered j p c x (at_longer a r j _ e) in let b = before_at a r j _ e in
          (q.0, q.1, q.2 ∙ ap (entered_at p) b, ap (open_at p) (sym b) ∙ q.3));
      left = λ j p c e. (let q = t.left j p c (at_longer a r j _ e) in (q.0, ap (open_at p) (sym (before_at a r j _ e)) ∙ q.1, q.2));
      others = λ j m e. t.others j m (at_longer a r j m e);
    }

pub reuse_begins : (capacities : List ℕ) (a h : List Mark) → IsPrefix a h → ReuseByClass capacities h → ReuseByClass capacities a
reuse_begins capacities a h begins all j s c i p o given of last there class =
    let t = subst (ReuseByClass capacities) (sym begins.1) all in
    let b = before_at a begins.0 j _ given in
    t j s c i p o (at_longer a begins.0 j _ given) of (ap (last_unlinked s) b ∙ last) (ap (open_at p) b ∙ there) class

-- What one more mark leaves as it was.

-- a mark that neither enters nor leaves a section
abbrev pub TurnsNoSection : Mark → Type 0
TurnsNoSection (Entered p c x) = ⊥
TurnsNoSection (Left p c) = ⊥
TurnsNoSection _ = Unit {0}

-- a mark that says nothing of where slots are
abbrev pub TurnsNoSlot : Mark → Type 0
TurnsNoSlot (Given s) = ⊥
TurnsNoSlot (Unlinked s) = ⊥
TurnsNoSlot (Freed s) = ⊥
TurnsNoSlot _ = Unit {0}

next_open-same : (p i : ℕ) (o : Option Open) (m : Mark) → TurnsNoSection m → next_open p i o m ≡ o
next_open-same p i o (Entered q c x) n = absurd n
next_open-same p i o (Left q c) n = absurd n
next_open-same p i o _ n = refl

next_gone-same : (s i : ℕ) (g : Option ℕ) (m : Mark) → TurnsNoSlot m → next_gone s i g m ≡ g
next_gone-same s i g (Given t) n = absurd n
next_gone-same s i g (Unlinked t) n = absurd n
next_gone-same s i g (Freed t) n = absurd n
next_gone-same s i g _ n = refl

module _ (h : List Mark) (m : Mark) where
  pub open_at-same : TurnsNoSection m → (p : ℕ) → open_at p (h ++ m ∷ []) ≡ open_at p h
  open_at-same n p = open_at-snoc p h m ∙ next_open-same p (length h) (open_at p h) m n

  pub gone_at-same : TurnsNoSlot m → (s : ℕ) → gone_at s (h ++ m ∷ []) ≡ gone_at s h
  gone_at-same n s = gone_at-snoc s h m ∙ next_gone-same s (length h) (gone_at s h) m n

pub gone_at-given_here : (h : List Mark) (s : ℕ) → gone_at s (h ++ Given s ∷ []) ≡ None
gone_at-given_here h s = gone_at-snoc s h (Given s) ∙ ap (λ b. cond b None (gone_at s h)) (eq-eqb s s refl)

pub gone_at-given_other : (h : List Mark) (s t : ℕ) → t ≢ s → gone_at s (h ++ Given t ∷ []) ≡ gone_at s h
gone_at-given_other h s t ne = gone_at-snoc s h (Given t) ∙ ap (λ b. cond b None (gone_at s h)) (ne_eqb t s ne)

pub gone_at-unlinked_here : (h : List Mark) (s : ℕ) → gone_at s (h ++ Unlinked s ∷ []) ≡ Some (length h)
gone_at-unlinked_here h s = gone_at-snoc s h (Unlinked s) ∙ ap (λ b. cond b (Some (length h)) (gone_at s h)) (eq-eqb s s refl)

pub gone_at-unlinked_other : (h : List Mark) (s t : ℕ) → t ≢ s → gone_at s (h ++ Unlinked t ∷ []) ≡ gone_at s h
gone_at-unlinked_other h s t ne = gone_at-snoc s h (Unlinked t) ∙ ap (λ b. cond b (Some (length h)) (gone_at s h)) (ne_eqb t s ne)

-- a mark that gives no slot keeps reuse
pub reuse_more : (capacities : List ℕ) (h : List Mark) (m : Mark) → ((s : ℕ) → m ≢ Given s) → ReuseByClass capacities h
    → ReuseByClass capacities (h ++ m ∷ [])
reuse_more capacities h m none reuse j s c i p o given of gone there class =
    past_snoc (λ (past : List Mark) (a : Mark). a ≡ Given s → last_unlinked s past ≡ Some i → open_at p past ≡ Some o → i < o.at) h m
    (Given s) (λ e _ _. absurd (none s e)) (λ n old _ last now. reuse n s c i p o old of last now class) j given refl gone there

-- What keeps the parts of the rule on seats.

-- The rule holds, and this view is one of the list: what the law of a step begins with.
pub record Seated (capacities : List ℕ) (places tickets : ℕ) (m : Memory) (vs : List View) (h : List Mark) (id : ℕ) (v : View) : Type 0 where
  pub rule : MemoryRule capacities places tickets m vs h
  pub at : get_elem? vs id ≡ some v

-- Who answers for which places is the same.
pub record SamePlaces (v w : View) : Type 0 where
  pub place : w.place ≡ v.place
  pub places : w.places ≡ v.places
  pub joined : w.joined ≡ v.joined

module _ {capacities : List ℕ} {places tickets : ℕ} {m : Memory} {vs : List View} {h : List Mark} {id : ℕ} {v : View}
    (seat : Seated capacities places tickets m vs h id v) (w : View) where
  pub seen_same : w.seen ≡ v.seen → w.heard ≡ v.heard → AreSeen (set vs id w) h
  seen_same same heard = record {
    heard = each_set (λ j u. HasHeard u) vs id w (subst
        (λ (z : List Mark × List (List Mark)). AllByRecursion (λ seen. IsPrefix seen z.0) z.1) (λ i. (sym same i, sym heard i))
        (seat.rule.seen.heard id v seat.at)) (λ j u other e. seat.rule.seen.heard j u e);
    begins = each_set (λ j u. IsPrefix u.seen h) vs id w (subst (λ z. IsPrefix z h) (sym same) (seat.rule.seen.begins id v seat.at))
        (λ j u other e. seat.rule.seen.begins j u e);
    longest = somewhere_still vs id v w seat.at (λ all. same ∙ all) seat.rule.seen.longest;
  }

  pub seen_whole : (h' : List Mark) → w.seen ≡ h' → w.heard ≡ v.heard → IsPrefix h h' → AreSeen (set vs id w) h'
  seen_whole h' new heard longer = record {
    heard = each_set (λ j u. HasHeard u) vs id w
        (subst (λ (z : List Mark × List (List Mark)). AllByRecursion (λ seen. IsPrefix seen z.0) z.1) (λ i. (sym new i, sym heard i))
        (all_map (λ seen. IsPrefix seen v.seen) (λ seen. IsPrefix seen h') v.heard
        (λ seen p. prefix_trans seen v.seen h' p (prefix_trans v.seen h h' (seat.rule.seen.begins id v seat.at) longer))
        (seat.rule.seen.heard id v seat.at)))
        (λ j u other e. seat.rule.seen.heard j u e);
    begins = each_set (λ j u. IsPrefix u.seen h') vs id w (subst (λ z. IsPrefix z h') (sym new) (prefix_self h'))
        (λ j u other e. prefix_trans u.seen h h' (seat.rule.seen.begins j u e) longer);
    longest = somewhere_here vs id v w seat.at new;
  }

  answers_back : (p : ℕ) → SamePlaces v w → AnswersFor w p → AnswersFor v p
  answers_back p same (inl has) = inl (
    let a = same.place in let l = has.0 in omega arith,
    let a = same.place in let b = same.places in
        let l = has.1 in omega arith,
  )
  answers_back p same (inr there) = inr (subst (λ z. 1 ≤ times p z) same.joined there)

  answers_forth : (p : ℕ) → SamePlaces v w → AnswersFor v p → AnswersFor w p
  answers_forth p same (inl has) = inl (
    let a = same.place in let l = has.0 in omega arith,
    let a = same.place in let b = same.places in
        let l = has.1 in omega arith,
  )
  answers_forth p same (inr there) = inr (subst (λ z. 1 ≤ times p z) (sym same.joined) there)

  -- who answers for a place now did so before
  answered_before : (p j : ℕ) (u : View) → SamePlaces v w → get_elem? (set vs id w) j ≡ some u → AnswersFor u p
      → (z : View) × (get_elem? vs j ≡ some z) × AnswersFor z p
  answered_before p j u same there = each_set (λ k z. AnswersFor z p → (y : View) × (get_elem? vs k ≡ some y) × AnswersFor y p) vs id w
      (λ a. (v, seat.at, answers_back p same a)) (λ k z other e a. (z, e, a)) j u there

  pub apart_same : SamePlaces v w → AreApart places (set vs id w)
  apart_same same = record {
    within = λ j u p there a. let b = answered_before p j u same there a in seat.rule.apart.within j b.0 p b.1 b.2;
    apart = λ i j p a b ei ej aa ab. let x = answered_before p i a same ei aa in let y = answered_before p j b same ej ab in
        seat.rule.apart.apart i j p x.0 y.0 x.1 y.1 x.2 y.2;
    joined = λ j u p there has. each_set (λ k z. HasPlace z p → times p z.joined ≡ 0) vs id w
        (λ mine. subst (λ z. times p z ≡ 0) (sym same.joined)
        (seat.rule.apart.joined id v p seat.at (
          let a = same.place in let l = mine.0 in omega arith,
          let a = same.place in let b = same.places in
              let l = mine.1 in omega arith,
        )))
        (λ k z other e mine. seat.rule.apart.joined k z p e mine) j u there has;
  }

  -- marks that no place left, and the view's own the same
  pub owned_same : (ms : List Mark) → SamePlaces v w → w.own ≡ v.own → (w.seen ≡ v.seen) ⊎ (w.seen ≡ h ++ ms)
      → ((p : ℕ) → own_of p ms ≡ []) → AreOwned places (set vs id w) (h ++ ms)
  owned_same ms same own seen none =
      let more : (p : ℕ) → own_of p (h ++ ms) ≡ own_of p h =
      λ p. own_of-append p h ms ∙ ap (λ z. own_of p h ++ z) (none p) ∙ append-nil (own_of p h) in
      record {
        own = λ j u p there a. each_set (λ k z. AnswersFor z p → own_of p (h ++ ms) ≡ own_of p z.own) vs id w
            (λ mine. more p ∙ seat.rule.owned.own id v p seat.at (answers_back p same mine) ∙ ap (own_of p) (sym own))
            (λ k z other e theirs. more p ∙ seat.rule.owned.own k z p e theirs) j u there a;
        met = λ j u p there a. each_set (λ k z. AnswersFor z p → own_of p z.seen ≡ own_of p z.own) vs id w
            (λ mine. elim seen [
              | inl old ↦ ap (own_of p) old ∙ seat.rule.owned.met id v p seat.at (answers_back p same mine) ∙ ap (own_of p) (sym own)
              | inr whole ↦ ap (own_of p) whole ∙ more p ∙ seat.rule.owned.own id v p seat.at (answers_back p same mine) ∙ ap (own_of p) (sym own)
            ])
            (λ k z other e theirs. seat.rule.owned.met k z p e theirs) j u there a;
        within = λ p far. more p ∙ seat.rule.owned.within p far;
        none = λ j u p there a. each_set (λ k z. (AnswersFor z p → ⊥) → own_of p z.own ≡ []) vs id w
            (λ mine. ap (own_of p) own ∙ seat.rule.owned.none id v p seat.at (λ b. mine (answers_forth p same b)))
            (λ k z other e theirs. seat.rule.owned.none k z p e theirs) j u there a;
        unused = λ j u p there has far. each_set (λ k z. HasPlace z p → p ≢ z.place → own_of p z.own ≡ []) vs id w
            (λ mine ne. ap (own_of p) own ∙ seat.rule.owned.unused id v p seat.at (
              let a = same.place in let l = mine.0 in omega arith,
              let a = same.place in let b = same.places in let l = mine.1 in
                  omega arith,
            ) (λ e. ne (e ∙ sym same.place)))
            (λ k z other e theirs ne. seat.rule.owned.unused k z p e theirs ne) j u there has far;
      }

  -- a mark of the view's place, and others that no place left
  pub owned_more : (ms : List Mark) (mark : Mark) → SamePlaces v w → 1 ≤ v.places → w.own ≡ v.own ++ mark ∷ []
      → w.seen ≡ h ++ mark ∷ ms → is_of v.place mark ≡ true → ((p : ℕ) → p ≢ v.place → is_of p mark ≡ false)
      → ((p : ℕ) → own_of p ms ≡ []) → AreOwned places (set vs id w) (h ++ mark ∷ ms)
  owned_more ms mark same works own seen mine_is others none =
      let here : own_of v.place (mark ∷ ms) ≡ mark ∷ [] =
      ap (λ b. cond b (mark ∷ own_of v.place ms) (own_of v.place ms)) mine_is ∙ ap (λ z. mark ∷ z) (none v.place) in
      let there_none : (p : ℕ) → p ≢ v.place → own_of p (mark ∷ ms) ≡ [] =
      λ p ne. ap (λ b. cond b (mark ∷ own_of p ms) (own_of p ms)) (others p ne) ∙ none p in
      let one : own_of v.place (mark ∷ []) ≡ mark ∷ [] = ap (λ b. cond b (mark ∷ []) []) mine_is in
      let none_one : (p : ℕ) → p ≢ v.place → own_of p (mark ∷ []) ≡ [] = λ p ne. ap (λ b. cond b (mark ∷ []) []) (others p ne) in
      let h_here : own_of v.place (h ++ mark ∷ ms) ≡ own_of v.place h ++ mark ∷ [] =
      own_of-append v.place h (mark ∷ ms) ∙ ap (λ z. own_of v.place h ++ z) here in
      let h_else : (p : ℕ) → p ≢ v.place → own_of p (h ++ mark ∷ ms) ≡ own_of p h =
      λ p ne. own_of-append p h (mark ∷ ms) ∙ ap (λ z. own_of p h ++ z) (there_none p ne) ∙ append-nil (own_of p h) in
      let own_here : own_of v.place w.own ≡ own_of v.place v.own ++ mark ∷ [] =
      ap (own_of v.place) own ∙ own_of-append v.place v.own (mark ∷ []) ∙ ap (λ z. own_of v.place v.own ++ z) one in
      let own_else : (p : ℕ) → p ≢ v.place → own_of p w.own ≡ own_of p v.own =
      λ p ne. ap (own_of p) own ∙ own_of-append p v.own (mark ∷ []) ∙ ap (λ z. own_of p v.own ++ z) (none_one p ne)
      ∙ append-nil (own_of p v.own) in
      let at_place : AnswersFor v v.place = inl (omega arith, omega arith) in
      let own_now : (p : ℕ) → AnswersFor w p → own_of p (h ++ mark ∷ ms) ≡ own_of p w.own = λ p mine. dite (ℕ_discrete p v.place)
      (λ e. subst (λ q. own_of q (h ++ mark ∷ ms) ≡ own_of q w.own) (sym e)
      (h_here ∙ ap (λ z. z ++ mark ∷ []) (seat.rule.owned.own id v v.place seat.at at_place) ∙ sym own_here))
      (λ ne. h_else p ne ∙ seat.rule.owned.own id v p seat.at (answers_back p same mine) ∙ sym (own_else p ne)) in
      record {
        own = λ j u p there a. each_set (λ k z. AnswersFor z p → own_of p (h ++ mark ∷ ms) ≡ own_of p z.own) vs id w (own_now p)
            (λ k z other e theirs. h_else p (λ f. other (seat.rule.apart.apart k id p z v e seat.at theirs (subst (AnswersFor v) (sym f) at_place)))
            ∙ seat.rule.owned.own k z p e theirs) j u there a;
        met = λ j u p there a. each_set (λ k z. AnswersFor z p → own_of p z.seen ≡ own_of p z.own) vs id w
            (λ mine. ap (own_of p) seen ∙ own_now p mine)
            (λ k z other e theirs. seat.rule.owned.met k z p e theirs) j u there a;
        within = λ p far. h_else p (λ e. let below = seat.rule.apart.within id v v.place seat.at at_place in omega arith)
            ∙ seat.rule.owned.within p far;
        none = λ j u p there a. each_set (λ k z. (AnswersFor z p → ⊥) → own_of p z.own ≡ []) vs id w
            (λ mine. own_else p (λ e. mine (answers_forth p same (subst (AnswersFor v) (sym e) at_place)))
            ∙ seat.rule.owned.none id v p seat.at (λ b. mine (answers_forth p same b)))
            (λ k z other e theirs. seat.rule.owned.none k z p e theirs) j u there a;
        unused = λ j u p there has far. each_set (λ k z. HasPlace z p → p ≢ z.place → own_of p z.own ≡ []) vs id w
            (λ mine ne. let ne' : p ≢ v.place = λ e. ne (e ∙ sym same.place) in
            own_else p ne' ∙ seat.rule.owned.unused id v p seat.at (
              let a = same.place in let l = mine.0 in omega arith,
              let a = same.place in
                  let b = same.places in let l = mine.1 in omega arith,
            ) ne')
            (λ k z other e theirs ne. seat.rule.owned.unused k z p e theirs ne) j u there has far;
      }

  -- marks that enter and leave nothing
  pub open_same : (h' : List Mark) → w.place ≡ v.place → w.places ≡ v.places → w.sections ≡ v.sections
      → ((section : Section) → w.section ≡ Some section
      → (old : Section) × (v.section ≡ Some old) × (open_of section ≡ open_of old) × (section.from ≡ old.from))
      → ((section : Section) → v.section ≡ Some section → (new : Section) × (w.section ≡ Some new) × (open_of section ≡ open_of new))
      → ((p : ℕ) → open_at p h' ≡ open_at p h) → ((p : ℕ) → entered_at p h' ≡ entered_at p h) → length (updates_of h) ≤ length (updates_of h')
      → AreOpen (set vs id w) h' (updates_of h')
  open_same h' place places sections back forth opened entered longer = record {
    open_here = λ j u section there is. each_set
        (λ k z. z.section ≡ Some section → IsOpenHere z h' (updates_of h') section) vs id w
        (λ mine. let old = back section mine in let o = seat.rule.sections.open_here id v old.0 seat.at old.1 in
        let same_key : section.key ≡ old.0.key = ap (λ (z : Open). z.key) old.2 in let same_from = old.3 in record {
          works = let a = o.works in omega arith;
          opened = opened w.place ∙ ap (λ p. open_at p h) place ∙ o.opened ∙ ap Some (sym old.2);
          since = let a = o.since in omega arith;
          fits = let a = o.fits in omega arith;
        })
        (λ k z other e theirs. let o = seat.rule.sections.open_here k z section e theirs in record {
          works = o.works;
          opened = opened z.place ∙ o.opened;
          since = let a = o.since in omega arith;
          fits = o.fits;
        }) j u there is;
    entered = λ j u there works. each_set (λ k z. 1 ≤ z.places → z.sections ≡ entered_at z.place h') vs id w
        (λ mine. sections ∙ seat.rule.sections.entered id v seat.at (omega arith) ∙ ap (λ p. entered_at p h) (sym place) ∙ sym (entered w.place))
        (λ k z other e theirs. seat.rule.sections.entered k z e theirs ∙ sym (entered z.place)) j u there works;
    all = λ p o is. somewhere_still vs id v w seat.at
        (λ (mine : HasOpen v p o). let now = forth mine.section mine.inside in
        record { place = place ∙ mine.place; section = now.0; inside = now.1; is = mine.is ∙ now.2 })
        (seat.rule.sections.all p o (sym (opened p) ∙ is));
  }

  pub held_still : ((hold : Hold) → w.hold ≡ Some hold → (hold.class < 64) × (1 ≤ w.places)) → AreHeld (set vs id w)
  held_still mine = record {
    held = λ j u hold there is. each_set (λ k z. z.hold ≡ Some hold → (hold.class < 64) × (1 ≤ z.places)) vs id w (mine hold)
        (λ k z other e theirs. seat.rule.held.held k z hold e theirs) j u there is;
  }

  pub tickets_same : w.tickets ≡ v.tickets → length (updates_of h) + total (λ (z : View). z.tickets) (set vs id w) ≡ tickets
  tickets_same same = let sum = total_set (λ (z : View). z.tickets) vs id v w seat.at in let was = seat.rule.tickets_are in omega arith

  -- a step that leaves the front and whose commit it is
  pub turned_same : (m' : Memory) → m' Front ≡ m Front → w.commit ≡ v.commit
      → ((commit : Commit) (hold : Hold) → v.commit ≡ Some commit → v.hold ≡ Some hold → (k : Hold) × (w.hold ≡ Some k))
      → IsTurned m' (set vs id w) (length (updates_of h))
  turned_same m' front commit hold = by seat.rule.turned
    where
      by : IsTurned m vs (length (updates_of h)) → IsTurned m' (set vs id w) (length (updates_of h))
      by (inl even) =
          inl (front ∙ even.0, each_set (λ k z. HasNoCommit z) vs id w (commit ∙ even.1 id v seat.at) (λ k z other e. even.1 k z e))
      by (inr odd) = inr (only_change vs id v w seat.at
          (λ (mine : MakesOdd m (length (updates_of h)) v). let held = hold mine.commit mine.hold mine.has mine.holds in record {
            commit = mine.commit;
            hold = held.0;
            has = commit ∙ mine.has;
            holds = held.1;
            word = front ∙ mine.word;
            updates = mine.updates;
          })
          (λ u (theirs : MakesOdd m (length (updates_of h)) u). record {
            commit = theirs.commit;
            hold = theirs.hold;
            has = theirs.has;
            holds = theirs.holds;
            word = front ∙ theirs.word;
            updates = theirs.updates;
          })
          (λ (none : HasNoCommit v). commit ∙ none) odd
          )

-- The whole rule after one step, from its parts.

-- What a step owes beside the parts on the classes.
pub record SeatsRule (capacities : List ℕ) (places tickets : ℕ) (m : Memory) (vs : List View) (h : List Mark) : Type 0 where
  pub seen : AreSeen vs h
  pub apart : AreApart places vs
  pub owned : AreOwned places vs h
  pub sections : AreOpen vs h (updates_of h)
  pub held : AreHeld vs
  pub turned : IsTurned m vs (length (updates_of h))
  pub tickets_are : length (updates_of h) + total (λ v. v.tickets) vs ≡ tickets
  pub legal : IsLegal (updates_of h)
  pub marks : AreMarks places h
  pub reuse : ReuseByClass capacities h

-- What the parts on a class read is the same after the step.
pub record IsElsewhere (capacities : List ℕ) (d : ℕ) (m m' : Memory) (h h' : List Mark) (v w : View) : Type 0 where
  pub words : SameWords capacities d m m'
  pub marks : SameMarks capacities d h h' (updates_of h) (updates_of h')
  pub view : SameView d v w

module _ {capacities : List ℕ} {places tickets : ℕ} {m : Memory} {vs : List View} {h : List Mark} {id : ℕ} {v : View}
    (seat : Seated capacities places tickets m vs h id v) (w : View) {m' : Memory} {h' : List Mark}
    (seats : SeatsRule capacities places tickets m' (set vs id w) h') where
  still : (d : ℕ) → d < 64 → IsElsewhere capacities d m m' h h' v w
      → BucketRule capacities d m' h' (updates_of h') (set vs id w) (seat.rule.bucket d)
  still d small elsewhere = bucket_frame capacities d m m' h h' (updates_of h) (updates_of h') vs id v w
      (seat.rule.bucket d) seat.at elsewhere.words elsewhere.marks elsewhere.view (seat.rule.buckets d small)

  -- the rule after the step, whatever the classes are like
  rule_with : (bucket : ℕ → Bucket) → ((d : ℕ) → d < 64 → BucketRule capacities d m' h' (updates_of h') (set vs id w) (bucket d))
      → MemoryRule capacities places tickets m' (set vs id w) h'
  rule_with bucket buckets = record {
    shape = seat.rule.shape;
    seen = seats.seen;
    apart = seats.apart;
    owned = seats.owned;
    sections = seats.sections;
    held = seats.held;
    turned = seats.turned;
    tickets_are = seats.tickets_are;
    legal = seats.legal;
    marks = seats.marks;
    reuse = seats.reuse;
    bucket = bucket;
    buckets = buckets;
  }

  -- a step in one class
  pub after_step : (c : ℕ) (b : Bucket) → (c < 64 → BucketRule capacities c m' h' (updates_of h') (set vs id w) b)
      → ((d : ℕ) → d < 64 → d ≢ c → IsElsewhere capacities d m m' h h' v w) → MemoryRule capacities places tickets m' (set vs id w) h'
  after_step c b mine others = rule_with (λ d. cond (d == c) b (seat.rule.bucket d)) (λ d small. dite (ℕ_discrete d c)
      (λ e. let here : b ≡ cond (d == c) b (seat.rule.bucket d) = ap (λ t. cond t b (seat.rule.bucket d)) (sym (eq-eqb d c e)) in
      subst (BucketRule capacities d m' h' (updates_of h') (set vs id w)) here
      (subst (λ z. BucketRule capacities z m' h' (updates_of h') (set vs id w) b) (sym e) (mine (subst (λ z. z < 64) e small))))
      (λ ne. let there : seat.rule.bucket d ≡ cond (d == c) b (seat.rule.bucket d) = ap (λ t. cond t b (seat.rule.bucket d))
      (sym (ne_eqb d c ne)) in
      subst (BucketRule capacities d m' h' (updates_of h') (set vs id w)) there (still d small (others d small ne))))

  -- a step that no class is concerned with
  pub after_quiet : ((d : ℕ) → d < 64 → IsElsewhere capacities d m m' h h' v w) → MemoryRule capacities places tickets m' (set vs id w) h'
  after_quiet others = rule_with seat.rule.bucket (λ d small. still d small (others d small))

-- Steps that leave no mark.

-- What the parts on seats read of a view is the same, but for where its search stands and what it knows.
pub record SameSeat (v w : View) : Type 0 where
  pub places : SamePlaces v w
  pub tickets : w.tickets ≡ v.tickets
  pub sections : w.sections ≡ v.sections
  pub back : (section : Section) → w.section ≡ Some section
      → (old : Section) × (v.section ≡ Some old) × (open_of section ≡ open_of old) × (section.from ≡ old.from)
  pub forth : (section : Section) → v.section ≡ Some section → (new : Section) × (w.section ≡ Some new) × (open_of section ≡ open_of new)
  pub commit : w.commit ≡ v.commit
  pub kept : (commit : Commit) (hold : Hold) → v.commit ≡ Some commit → v.hold ≡ Some hold → (k : Hold) × (w.hold ≡ Some k)
  pub held : (hold : Hold) → w.hold ≡ Some hold → (hold.class < 64) × (1 ≤ w.places)
  pub own : w.own ≡ v.own
  pub heard : w.heard ≡ v.heard

-- a section that stays
pub section_back : (v w : View) → w.section ≡ v.section → (section : Section) → w.section ≡ Some section
    → (old : Section) × (v.section ≡ Some old) × (open_of section ≡ open_of old) × (section.from ≡ old.from)
section_back v w same section is = (section, sym same ∙ is, refl, refl)

pub section_forth : (v w : View) → w.section ≡ v.section → (section : Section) → v.section ≡ Some section
    → (new : Section) × (w.section ≡ Some new) × (open_of section ≡ open_of new)
section_forth v w same section is = (section, same ∙ is, refl)

-- where a step changes what the seat holds and has seen, and its trail
pub seat_holds : (v : View) (new : Option Hold) (trail : List StepMade) (seen : List Mark)
    → ((commit : Commit) (hold : Hold) → v.commit ≡ Some commit → v.hold ≡ Some hold → (k : Hold) × (new ≡ Some k))
    → ((hold : Hold) → new ≡ Some hold → (hold.class < 64) × (1 ≤ v.places)) → SameSeat v (record v { hold = new; trail = trail; seen = seen })
seat_holds v new trail seen kept held = record {
  places = record { place = refl; places = refl; joined = refl };
  tickets = refl;
  sections = refl;
  back = section_back v v refl;
  forth = section_forth v v refl;
  commit = refl;
  kept = kept;
  held = held;
  own = refl;
  heard = refl;
}

pub no_marks : (p : ℕ) → own_of p [] ≡ []
no_marks p = refl

pub same_marks : (capacities : List ℕ) (d : ℕ) (h : List Mark) → SameMarks capacities d h h (updates_of h) (updates_of h)
same_marks capacities d h = record {
  more = [];
  longer = sym (append-nil _);
  gone = λ s of. refl;
  last = λ s of. refl;
  pairs = λ key class. refl;
}

pub same_section : (d : ℕ) (a : Option Section) → SameSection d a a
same_section d None = tt
same_section d (Some s) = inl refl

pub same_hold : (d : ℕ) (a : Option Hold) → SameHold d a a
same_hold d None = tt
same_hold d (Some k) = inl refl

module _ {capacities : List ℕ} {places tickets : ℕ} {m : Memory} {vs : List View} {h : List Mark} {id : ℕ} {v : View}
    (seat : Seated capacities places tickets m vs h id v) (w : View) (m' : Memory) where
  -- no mark, and nothing more was seen, or all
  pub seats_same : SameSeat v w → (w.seen ≡ v.seen) ⊎ (w.seen ≡ h) → m' Front ≡ m Front → SeatsRule capacities places tickets m' (set vs id w) h
  seats_same same seen front = record {
    seen = elim seen [ inl old ↦ seen_same seat w old same.heard | inr whole ↦ seen_whole seat w h whole same.heard (prefix_self h) ];
    apart = apart_same seat w same.places;
    owned = subst (AreOwned places (set vs id w)) (append-nil h) (owned_same seat w [] same.places same.own
        (elim seen [ inl old ↦ inl old | inr whole ↦ inr (whole ∙ sym (append-nil h)) ]) no_marks);
    sections = open_same seat w h same.places.place same.places.places same.sections same.back same.forth (λ p. refl) (λ p. refl)
        (omega arith);
    held = held_still seat w same.held;
    turned = turned_same seat w m' front same.commit same.kept;
    tickets_are = tickets_same seat w same.tickets;
    legal = seat.rule.legal;
    marks = seat.rule.marks;
    reuse = seat.rule.reuse;
  }

-- the trail is read by no part
pub law_stepped : {capacities : List ℕ} {places tickets : ℕ} {m : Memory} {vs : List View} {h : List Mark} {id : ℕ} {v : View}
    → Seated capacities places tickets m vs h id v → (kind : Kind) (field : Field) (number : ℕ)
    → MemoryRule capacities places tickets m (set vs id (stepped v kind field number)) h
law_stepped {capacities} {m = m} {h = h} {id = id} {v = v} seat kind field number =
    let w : View = stepped v kind field number in
    after_quiet seat w (seats_same seat w m
    (seat_holds v v.hold w.trail v.seen (λ commit hold is held. (hold, held)) (λ hold is. seat.rule.held.held id v hold seat.at is))
    (inl refl) refl)
    (λ d small. record {
      words = same_words capacities d m;
      marks = same_marks capacities d h;
      view = record { place = refl; section = same_section d v.section; hold = same_hold d v.hold };
    })
