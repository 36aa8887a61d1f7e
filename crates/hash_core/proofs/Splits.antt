-- The rule where no step is made: seats are split and joined, and a table is made.
-- What keeps the rule where only views change that are outside a section and without a lock.
use Rattle.std.proofs.Common.{◌≡◌, ◌⊎◌, ℕ, ◌+◌, ◌≤◌, List, length, Option, Some, None, sym, ap, subst, ◌∙◌, ⊎_elim, inl, inr, refl, ◌≢◌, zero, suc, ◌-◌, ◌<◌, ◌==◌, true, false, cond, [], ◌∷◌, ◌++◌, set, arith, append-nil, ◌&&◌, nat_lt, nat_le, Bool, sum, slice_index, eq-eqb, ne_eqb}
use mathlib.Core.Option.{some, some-injective, some-ne-none}
use lib.ListN.{get_elem?}
use Rattle.prcu_marks.specs.declared.mark.Mark.{Mark}
use Rattle.prcu_model.specs.declared.operation.Update.{Update}
use Rattle.hash_core.specs.declared.view.Section.{Section}
use Rattle.hash_core.specs.declared.view.Hold.{Hold}
use Rattle.hash_core.specs.declared.view.View.{View}
use Rattle.list_laws.specs.Counts.{total, times, numbers_from, Somewhere}
use Rattle.hash_core.specs.Memory.{Memory, IsPath, word_of, memory_of, capacity, base, is_slot_of}
use Rattle.prcu_marks.specs.Marks.{updates_of, entered_at, own_of, longer}
use Rattle.hash_core.specs.Rule.{Bucket, IsLocked, inside_count, IsFreeOfReaders, AreSeen, AreApart, AreOwned, HasNoCommit, IsTurned, BucketRule, MemoryRule, HasHeard, HasPlace, AnswersFor, HoldsOther, WillAnswer, IsShape, IsOpenHere}
use Rattle.hash_core.specs.Steps.{IsQuiet, NeedsSplit, first_of, second_of, both_of, spent}
use Rattle.hash_core.proofs.Frames.{clean_by}
use Rattle.list_laws.proofs.Lists.{at_one, at_below, at_end, each_set, total_set, total_append, times_append, times_from, from_times, all_from_times, somewhere_set, somewhere_still, somewhere_longer, only_at}
use mathlib.Core.Logic.{dite}
use mathlib.Core.List.{IsPrefix}
use native.Mathlib.Decide.{dec_le, ℕ_discrete}
use Rattle.atomic_table.proofs.Lists.{at_longer, set_here, set_else}
use Rattle.prcu_marks.specs.declared.mark.Mark.TheVariants.{Entered, Left, Began, Ended, Done}
use Rattle.prcu_model.proofs.ListFacts.{prefix_trans, all_map, all_append}
use Rattle.prcu_marks.proofs.Marks.{own_of-append, own_of-between, longer_begins, longer_first, longer_second, longer_whole_first, longer_whole_second}
use Rattle.std.proofs.lemmas.Bool.{lt-ltb, le-leb, and_from}
use Rattle.std.specs.Ordering.{nat_cmp}
use Rattle.hash_core.specs.declared.words.Field.TheVariants.{Front, Free, Chain}
use Rattle.prcu_model.specs.Dictionary.{WasSaid}
use Rattle.hash_core.specs.Laws.{first_view, first_slot, slot_after, IsFreshClass, IsFresh}
use Rattle.hash_core.proofs.SeatFrames.{Seated}
use Rattle.hash_core.proofs.SlotLists.{slot_bounds, slot_within}
use Rattle.std.specs.FinMap as finite

-- Each view that isn't quiet stands where it stood, and the open sections of each class are as many.
pub record SameBusy (vs vs' : List View) : Type 0 where
  pub back : (j : ℕ) (u : View) → get_elem? vs' j ≡ some u → (get_elem? vs j ≡ some u) ⊎ (IsQuiet u × HasNoCommit u)
  pub forth : (j : ℕ) (u : View) → get_elem? vs j ≡ some u → (get_elem? vs' j ≡ some u) ⊎ IsQuiet u
  pub count : (c : ℕ) → total (λ v. inside_count c v.section) vs' ≡ total (λ v. inside_count c v.section) vs

-- who holds no lock has no commit
pub quiet_turn : (m : Memory) (vs : List View) (count : ℕ) → IsTurned m vs count → (id : ℕ) (v : View) → get_elem? vs id ≡ some v
    → v.hold ≡ None → HasNoCommit v
quiet_turn m vs count (inl even) id v at free = even.1 id v at
quiet_turn m vs count (inr odd) id v at free = elim (only_at vs id v at odd) [
  | inl o ↦ absurd (let held : None ≡ Some o.0.hold = sym free ∙ o.0.holds in cc)
  | inr none ↦ none
]

module _ (vs vs' : List View) (busy : SameBusy vs vs') where
  section_back : (j : ℕ) (u : View) (section : Section) → get_elem? vs' j ≡ some u → u.section ≡ Some section → get_elem? vs j ≡ some u
  section_back j u section at is = elim (busy.back j u at) [
    | inl e ↦ e
    | inr q ↦ absurd (let z : None ≡ Some section = sym q.0.0 ∙ is in cc)
  ]

  section_forth : (j : ℕ) (u : View) (section : Section) → get_elem? vs j ≡ some u → u.section ≡ Some section → get_elem? vs' j ≡ some u
  section_forth j u section at is = elim (busy.forth j u at) [
    | inl e ↦ e
    | inr q ↦ absurd (let z : None ≡ Some section = sym q.0 ∙ is in cc)
  ]

  hold_back : (j : ℕ) (u : View) (hold : Hold) → get_elem? vs' j ≡ some u → u.hold ≡ Some hold → get_elem? vs j ≡ some u
  hold_back j u hold at is = elim (busy.back j u at) [ inl e ↦ e | inr q ↦ absurd (let z : None ≡ Some hold = sym q.0.1 ∙ is in cc) ]

  hold_forth : (j : ℕ) (u : View) (hold : Hold) → get_elem? vs j ≡ some u → u.hold ≡ Some hold → get_elem? vs' j ≡ some u
  hold_forth j u hold at is = elim (busy.forth j u at) [ inl e ↦ e | inr q ↦ absurd (let z : None ≡ Some hold = sym q.1 ∙ is in cc) ]

  locked_busy : (c : ℕ) (m : Memory) (hold : Option Hold) → IsLocked c m vs hold → IsLocked c m vs' hold
  locked_busy c m None locked = (locked.0, λ j u at hold is. locked.1 j u (hold_back j u hold at is) hold is)
  locked_busy c m (Some hold) locked = record {
    id = locked.id;
    view = locked.view;
    there = hold_forth locked.id locked.view hold locked.there locked.has.holds;
    has = locked.has;
    alone = λ j u far at other is. locked.alone j u far (hold_back j u other at is) other is;
  }

  free_busy : (c : ℕ) (h : List Mark) (s : ℕ) → IsFreeOfReaders c h vs s → IsFreeOfReaders c h vs' s
  free_busy c h s free p j u section was at is class = free p j u section was (section_back j u section at is) is class

  bucket_busy : (capacities : List ℕ) (c : ℕ) (m : Memory) (h : List Mark) (us : List Update) (b : Bucket)
      → BucketRule capacities c m h us vs b → BucketRule capacities c m h us vs' b
  bucket_busy capacities c m h us b r = record {
    chained = r.chained;
    listed = r.listed;
    roles = r.roles;
    mapped = r.mapped;
    locked = locked_busy c m b.hold r.locked;
    known = r.known;
    ages = r.ages;
    counted = record { readers = r.counted.readers ∙ sym (busy.count c) };
    clean = clean_by capacities c h h vs vs' b b (free_busy c h) refl refl r.clean.clear r.clean;
    answered = record {
      readers = λ j u section at is class. r.answered.readers j u section (section_back j u section at is) is class;
      loaded = λ j u section value at is class read. r.answered.loaded j u section value (section_back j u section at is) is class read;
    };
  }

  turned_busy : (m : Memory) (count : ℕ) → IsTurned m vs count → IsTurned m vs' count
  turned_busy m count (inl even) = inl (even.0, λ j u at. elim (busy.back j u at) [ inl e ↦ even.1 j u e | inr q ↦ q.1 ])
  turned_busy m count (inr odd) = inr (record {
    id = odd.id;
    view = odd.view;
    there = hold_forth odd.id odd.view odd.has.hold odd.there odd.has.holds;
    has = odd.has;
    alone = λ j u far at. elim (busy.back j u at) [ inl e ↦ odd.alone j u far e | inr q ↦ q.1 ];
  })

  -- the rule, where the parts on seats hold that read quiet views
  pub rule_busy : (capacities : List ℕ) (places tickets : ℕ) (m : Memory) (h : List Mark) → MemoryRule capacities places tickets m vs h
      → AreSeen vs' h → AreApart places vs' → AreOwned places vs' h
      → ((j : ℕ) (u : View) → get_elem? vs' j ≡ some u → 1 ≤ u.places → u.sections ≡ entered_at u.place h)
      → total (λ (v : View). v.tickets) vs' ≡ total (λ (v : View). v.tickets) vs → MemoryRule capacities places tickets m vs' h
  rule_busy capacities places tickets m h r seen apart owned entered same = record {
    shape = r.shape;
    seen = seen;
    apart = apart;
    owned = owned;
    sections = record {
      open_here = λ j u section at is. r.sections.open_here j u section (section_back j u section at is) is;
      entered = entered;
      all = λ p o is. let q = r.sections.all p o is in
          record { id = q.id; view = q.view; there = section_forth q.id q.view q.has.section q.there q.has.inside; has = q.has };
    };
    held = record { held = λ j u hold at is. r.held.held j u hold (hold_back j u hold at is) is };
    turned = turned_busy m (length (updates_of h)) r.turned;
    tickets_are = ap (λ n. length (updates_of h) + n) same ∙ r.tickets_are;
    legal = r.legal;
    marks = r.marks;
    reuse = r.reuse;
    bucket = r.bucket;
    buckets = λ c small. bucket_busy capacities c m h (updates_of h) (r.bucket c) (r.buckets c small);
  }

-- Seats are split and joined.

module _ {A : Type 0} where
  -- a fact of each element, after one has changed and another has come
  each_split : (P : ℕ → A → Type 0) (vs : List A) (id : ℕ) (v w : A) → P id v → P (length (set vs id v)) w
      → ((j : ℕ) (u : A) → j ≢ id → get_elem? vs j ≡ some u → P j u)
      → (j : ℕ) (u : A) → get_elem? (set vs id v ++ w ∷ []) j ≡ some u → P j u
  each_split P vs id v w first second others j u e = elim (at_end (set vs id v) w u j e) [
    | inl there ↦ each_set P vs id v first others j u there
    | inr new ↦ subst (λ (x : ℕ × A). P x.0 x.1) (λ i. (sym new.0 i, new.1 i)) second
  ]

-- a place that left no marks entered no section
no_entered : (p : ℕ) (h : List Mark) → own_of p h ≡ [] → entered_at p h ≡ 0
no_entered p [] none = refl
no_entered p (Entered q c x ∷ h) none = elim (q == p) as (λ b. cond b (Entered q c x ∷ own_of p h) (own_of p h) ≡ []
    → cond b 1 0 + entered_at p h ≡ 0) [ true ↦ λ e. absurd (cc) | false ↦ λ e. let rest = no_entered p h e in omega arith ] none
no_entered p (Left q c ∷ h) none = elim (q == p) as (λ b. cond b (Left q c ∷ own_of p h) (own_of p h) ≡ []
    → entered_at p h ≡ 0) [ true ↦ λ e. absurd (cc) | false ↦ λ e. no_entered p h e ] none
no_entered p (Began q c a b ∷ h) none = elim (q == p) as (λ t. cond t (Began q c a b ∷ own_of p h) (own_of p h) ≡ []
    → entered_at p h ≡ 0) [ true ↦ λ e. absurd (cc) | false ↦ λ e. no_entered p h e ] none
no_entered p (Ended q c ∷ h) none = elim (q == p) as (λ b. cond b (Ended q c ∷ own_of p h) (own_of p h) ≡ []
    → entered_at p h ≡ 0) [ true ↦ λ e. absurd (cc) | false ↦ λ e. no_entered p h e ] none
no_entered p (Done u ∷ h) none = elim (u.caller == p) as (λ b. cond b (Done u ∷ own_of p h) (own_of p h) ≡ []
    → entered_at p h ≡ 0) [ true ↦ λ e. absurd (cc) | false ↦ λ e. no_entered p h e ] none
no_entered p (_ ∷ h) none = no_entered p h none

module _ {capacities : List ℕ} {places tickets : ℕ} {m : Memory} {vs : List View} {h : List Mark} {id : ℕ} {v : View}
    (seat : Seated capacities places tickets m vs h id v) where
  -- the place of another view isn't this view's
  not_other : (j p : ℕ) (u : View) → j ≢ id → get_elem? vs j ≡ some u → AnswersFor u p → AnswersFor v p → ⊥
  not_other j p u far there theirs mine = far (seat.rule.apart.apart j id p u v there seat.at theirs mine)

  module _ (p t : ℕ) (needs : NeedsSplit v p t) where
    abbrev first_split : View
    first_split = first_of p t v

    abbrev second_split : View
    second_split = second_of p t v

    abbrev vs_split : List View
    vs_split = set vs id first_split ++ second_split ∷ []

    some_first : p < v.places
    some_first = needs.2

    each_half : (P : ℕ → View → Type 0) → P id first_split → P (length (set vs id first_split)) second_split
        → ((j : ℕ) (u : View) → j ≢ id → get_elem? vs j ≡ some u → P j u) → (j : ℕ) (u : View) → get_elem? vs_split j ≡ some u → P j u
    each_half P = each_split P vs id first_split second_split

    -- the second view's places were the first's, and not its first place
    second_place : (q : ℕ) → AnswersFor second_split q → HasPlace v q × (q ≢ v.place) × (v.place + v.places - p ≤ q)
    second_place q (inl has) = let low = has.0 in let high = has.1 in let less = some_first in
        ((omega arith, omega arith), (λ e. omega arith), low)
    second_place q (inr joined) = absurd (omega arith)

    first_answers : (q : ℕ) → AnswersFor first_split q → AnswersFor v q
    first_answers q (inl has) = inl (let low = has.0 in let high = has.1 in (low, omega arith))
    first_answers q (inr joined) = inr joined

    second_answers : (q : ℕ) → AnswersFor second_split q → AnswersFor v q
    second_answers q a = inl (second_place q a).0

    never_both : (q : ℕ) → AnswersFor first_split q → AnswersFor second_split q → ⊥
    never_both q (inl has) theirs = let low = (second_place q theirs).2 in let high = has.1 in let less = some_first in omega arith
    never_both q (inr joined) theirs = let none = seat.rule.apart.joined id v q seat.at (second_place q theirs).0 in omega arith

    -- who answered for a place and isn't the first view now
    split_answers : (q : ℕ) → AnswersFor v q → AnswersFor first_split q ⊎ AnswersFor second_split q
    split_answers q (inl has) =
        let low = has.0 in let high = has.1 in let less = some_first in
        dite (dec_le (v.place + v.places - p) q) (λ after. inr (inl (after, omega arith))) (λ before. inl (inl (low, omega arith)))
    split_answers q (inr joined) = inl (inr joined)

    seen_split : AreSeen vs_split h
    seen_split = record {
      begins = each_half (λ j u. IsPrefix u.seen h) (seat.rule.seen.begins id v seat.at) (seat.rule.seen.begins id v seat.at)
          (λ j u _ e. seat.rule.seen.begins j u e);
      heard = each_half (λ j u. HasHeard u) (seat.rule.seen.heard id v seat.at) tt (λ j u _ e. seat.rule.seen.heard j u e);
      longest = somewhere_longer (set vs id first_split) (second_split ∷ [])
          (somewhere_still vs id v first_split seat.at (λ all. all) seat.rule.seen.longest);
    }

    apart_split : AreApart places vs_split
    apart_split = record {
      within = λ j u q there a. each_half (λ k z. AnswersFor z q → q < places) (λ b. seat.rule.apart.within id v q seat.at (first_answers q b))
          (λ b. seat.rule.apart.within id v q seat.at (second_answers q b)) (λ k z _ e b. seat.rule.apart.within k z q e b) j u there a;
      apart = λ i j q a b ei ej aa ab. each_half (λ k z. AnswersFor z q → k ≡ j)
          (λ f. each_half (λ l y. AnswersFor y q → id ≡ l) (λ _. refl) (λ s. absurd (never_both q f s))
          (λ l y far e o. absurd (not_other l q y far e o (first_answers q f))) j b ej ab)
          (λ s. each_half (λ l y. AnswersFor y q → length (set vs id first_split) ≡ l) (λ f. absurd (never_both q f s)) (λ _. refl)
          (λ l y far e o. absurd (not_other l q y far e o (second_answers q s))) j b ej ab)
          (λ k z far e o. each_half (λ l y. AnswersFor y q → k ≡ l) (λ f. absurd (not_other k q z far e o (first_answers q f)))
          (λ s. absurd (not_other k q z far e o (second_answers q s))) (λ l y _ g n. seat.rule.apart.apart k l q z y e g o n) j b ej ab)
          i a ei aa;
      joined = λ j u q there has. each_half (λ k z. HasPlace z q → times q z.joined ≡ 0)
          (λ mine. seat.rule.apart.joined id v q seat.at (let low = mine.0 in let high = mine.1 in (low, omega arith))) (λ _. refl)
          (λ k z _ e theirs. seat.rule.apart.joined k z q e theirs) j u there has;
    }

    -- the second view's places left no marks
    second_own : (q : ℕ) → AnswersFor second_split q → (own_of q v.own ≡ []) × (own_of q h ≡ [])
    second_own q a = let s = second_place q a in let none = seat.rule.owned.unused id v q seat.at s.0 s.1 in
        (none, seat.rule.owned.own id v q seat.at (inl s.0) ∙ none)

    first_none : (q : ℕ) → (AnswersFor first_split q → ⊥) → own_of q v.own ≡ []
    first_none q not_first =
        dite (dec_le (second_split.place) q)
        (λ low. dite (dec_le (suc q) (second_split.place + p)) (λ high. (second_own q (inl (low, high))).0)
        (λ past. seat.rule.owned.none id v q seat.at (λ a. elim (split_answers q a) [
          | inl f ↦ not_first f
          | inr s ↦ past (let below = (second_place q s).0.1 in let less = some_first in omega arith)
        ])))
        (λ before. seat.rule.owned.none id v q seat.at (λ a. elim
        (split_answers q a) [ inl f ↦ not_first f | inr s ↦ before (second_place q s).2 ]))

    owned_split : AreOwned places vs_split h
    owned_split = record {
      own = λ j u q there a. each_half (λ k z. AnswersFor z q → own_of q h ≡ own_of q z.own)
          (λ f. seat.rule.owned.own id v q seat.at (first_answers q f)) (λ s. (second_own q s).1)
          (λ k z _ e o. seat.rule.owned.own k z q e o) j u there a;
      met = λ j u q there a. each_half (λ k z. AnswersFor z q → own_of q z.seen ≡ own_of q z.own)
          (λ f. seat.rule.owned.met id v q seat.at (first_answers q f))
          (λ s. seat.rule.owned.met id v q seat.at (second_answers q s) ∙ (second_own q s).0)
          (λ k z _ e o. seat.rule.owned.met k z q e o) j u there a;
      within = seat.rule.owned.within;
      none = λ j u q there a. each_half (λ k z. (AnswersFor z q → ⊥) → own_of q z.own ≡ [])
          (first_none q) (λ _. refl) (λ k z _ e o. seat.rule.owned.none k z q e o) j u there a;
      unused = λ j u q there has far. each_half (λ k z. HasPlace z q → q ≢ z.place → own_of q z.own ≡ [])
          (λ f ne. seat.rule.owned.unused id v q seat.at (let low = f.0 in let high = f.1 in (low, omega arith)) ne) (λ _ _. refl)
          (λ k z _ e o ne. seat.rule.owned.unused k z q e o ne) j u there has far;
    }

    turn_split : HasNoCommit v
    turn_split = quiet_turn m vs (length (updates_of h)) seat.rule.turned id v seat.at needs.0.1

    count_split : (c : ℕ) → total (λ (z : View). inside_count c z.section) vs_split ≡ total (λ (z : View). inside_count c z.section) vs
    count_split c =
        let sum = total_append (λ (z : View). inside_count c z.section) (set vs id first_split) (second_split ∷ []) in
        let one = total_set (λ (z : View). inside_count c z.section) vs id v first_split seat.at in
        omega arith

    busy_split : SameBusy vs vs_split
    busy_split = record {
      back = each_half (λ j u. (get_elem? vs j ≡ some u) ⊎ (IsQuiet u × HasNoCommit u)) (inr (needs.0, turn_split)) (inr ((refl, refl), refl))
          (λ j u _ e. inl e);
      forth = λ j u e. dite (ℕ_discrete j id)
          (λ same. inr (subst IsQuiet (at_one vs id v u seat.at (subst (λ k. get_elem? vs k ≡ some u) same e)) needs.0))
          (λ far. inl (at_longer (set vs id first_split) (second_split ∷ []) j u (set_else vs id j first_split far ∙ e)));
      count = count_split;
    }

    entered_split : (j : ℕ) (u : View) → get_elem? vs_split j ≡ some u → 1 ≤ u.places → u.sections ≡ entered_at u.place h
    entered_split = each_half (λ j u. 1 ≤ u.places → u.sections ≡ entered_at u.place h)
        (λ some_place. seat.rule.sections.entered id v seat.at (let less = some_first in omega arith))
        (λ some_place. sym (no_entered second_split.place h (second_own second_split.place (inl (omega arith, omega arith))).1))
        (λ j u _ e. seat.rule.sections.entered j u e)

    tickets_split : total (λ (z : View). z.tickets) vs_split ≡ total (λ (z : View). z.tickets) vs
    tickets_split =
        let sum = total_append (λ (z : View). z.tickets) (set vs id first_split) (second_split ∷ []) in
        let one = total_set (λ (z : View). z.tickets) vs id v first_split seat.at in
        let enough = needs.3 in
        omega arith

    -- H1 keeps the rule
    pub law_split : MemoryRule capacities places tickets m (set vs id (first_of p t v) ++ second_of p t v ∷ []) h
    law_split = rule_busy vs vs_split busy_split capacities places tickets m h seat.rule seen_split apart_split owned_split entered_split tickets_split

module _ {capacities : List ℕ} {places tickets : ℕ} {m : Memory} {vs : List View} {h : List Mark} {id : ℕ} {v : View}
    (seat : Seated capacities places tickets m vs h id v)
    (j : ℕ) (other : View) (there : get_elem? vs j ≡ some other) (two : id ≢ j) (quiet : IsQuiet v) (quiet_other : IsQuiet other) where
  abbrev both_join : View
  both_join = both_of v other

  abbrev vs_join : List View
  vs_join = set (set vs id both_join) j spent

  each_join : (P : ℕ → View → Type 0) → P id both_join → P j spent → ((k : ℕ) (u : View) → k ≢ id → k ≢ j → get_elem? vs k ≡ some u → P k u)
      → (k : ℕ) (u : View) → get_elem? vs_join k ≡ some u → P k u
  each_join P both gone others = each_set P (set vs id both_join) j spent gone
      (λ k u far e. each_set (λ l y. l ≢ j → P l y) vs id both_join (λ _. both) (λ l y ne g not_j. others l y ne not_j g) k u e far)

  both_at : get_elem? vs_join id ≡ some both_join
  both_at = set_else (set vs id both_join) j id spent two ∙ set_here vs id both_join (at_below vs id v seat.at)

  other_at : get_elem? (set vs id both_join) j ≡ some other
  other_at = set_else vs id j both_join (λ e. two (sym e)) ∙ there

  not_two : (q : ℕ) → AnswersFor v q → AnswersFor other q → ⊥
  not_two q mine theirs = two (seat.rule.apart.apart id j q v other seat.at there mine theirs)

  spent_none : (q : ℕ) → AnswersFor spent q → ⊥
  spent_none q (inl has) = let high = has.1 in omega arith
  spent_none q (inr joined) = omega arith

  joined_times : (q : ℕ) → times q both_join.joined ≡ times q v.joined
      + (times q (numbers_from other.place other.places) + times q other.joined)
  joined_times q = let outer = times_append q v.joined (numbers_from other.place other.places ++ other.joined) in
      let inner = times_append q (numbers_from other.place other.places) other.joined in omega arith

  from_both : (q : ℕ) → AnswersFor both_join q → AnswersFor v q ⊎ AnswersFor other q
  from_both q (inl has) = inl (inl has)
  from_both q (inr joined) =
      let sum = joined_times q in
      dite (dec_le 1 (times q v.joined))
      (λ mine. inl (inr mine))
      (λ not_mine. dite (dec_le 1 (times q (numbers_from other.place other.places)))
      (λ theirs. inr (inl (times_from q other.place other.places theirs)))
      (λ not_theirs. inr (inr (omega arith))))

  mine_both : (q : ℕ) → AnswersFor v q → AnswersFor both_join q
  mine_both q (inl has) = inl has
  mine_both q (inr joined) = inr (let sum = joined_times q in omega arith)

  theirs_both : (q : ℕ) → AnswersFor other q → AnswersFor both_join q
  theirs_both q (inl has) = inr (let sum = joined_times q in let some_time = from_times q other.place other.places has.0 has.1 in
      omega arith)
  theirs_both q (inr joined) = inr (let sum = joined_times q in omega arith)

  -- no third view answers for a place of the two
  not_third : (k q : ℕ) (u : View) → k ≢ id → k ≢ j → get_elem? vs k ≡ some u → AnswersFor u q → AnswersFor both_join q → ⊥
  not_third k q u not_id not_j e third both = elim (from_both q both) [
    | inl mine ↦ not_id (seat.rule.apart.apart k id q u v e seat.at third mine)
    | inr theirs ↦ not_j (seat.rule.apart.apart k j q u other e there third theirs)
  ]

  mine_seen : IsPrefix v.seen h
  mine_seen = seat.rule.seen.begins id v seat.at

  theirs_seen : IsPrefix other.seen h
  theirs_seen = seat.rule.seen.begins j other there

  both_seen : IsPrefix both_join.seen h
  both_seen = longer_begins v.seen other.seen h mine_seen theirs_seen

  longest_join : Somewhere vs_join (λ u. u.seen ≡ h)
  longest_join =
      let ours : both_join.seen ≡ h → Somewhere vs_join (λ u. u.seen ≡ h) =
      (λ all. record { id = id; view = both_join; there = both_at; has = all }) in
      ⊎_elim (λ (whole : v.seen ≡ h). ours (longer_whole_first v.seen other.seen h mine_seen theirs_seen whole))
      (λ (rest : Somewhere (set vs id both_join) (λ u. u.seen ≡ h)). ⊎_elim
      (λ (whole : other.seen ≡ h). ours (longer_whole_second v.seen other.seen h mine_seen theirs_seen whole)) (λ left. left)
      (somewhere_set (set vs id both_join) j other spent other_at rest)) (somewhere_set vs id v both_join seat.at seat.rule.seen.longest)

  -- the list that is kept begins with what each of the two has seen
  longer_mine : IsPrefix v.seen both_join.seen
  longer_mine = longer_first v.seen other.seen h mine_seen theirs_seen

  longer_theirs : IsPrefix other.seen both_join.seen
  longer_theirs = longer_second v.seen other.seen h mine_seen theirs_seen

  heard_join : HasHeard both_join
  heard_join = (
    longer_mine,
    (
      longer_theirs,
      all_append (λ s. IsPrefix s both_join.seen) v.heard other.heard
          (all_map (λ s. IsPrefix s v.seen) (λ s. IsPrefix s both_join.seen) v.heard (λ s p. prefix_trans s v.seen both_join.seen p longer_mine)
          (seat.rule.seen.heard id v seat.at))
          (all_map (λ s. IsPrefix s other.seen) (λ s. IsPrefix s both_join.seen) other.heard
          (λ s p. prefix_trans s other.seen both_join.seen p longer_theirs) (seat.rule.seen.heard j other there)),
    ),
  )

  seen_join : AreSeen vs_join h
  seen_join = record {
    begins = each_join (λ k u. IsPrefix u.seen h) both_seen (h, refl) (λ k u _ _ e. seat.rule.seen.begins k u e);
    heard = each_join (λ k u. HasHeard u) heard_join tt (λ k u _ _ e. seat.rule.seen.heard k u e);
    longest = longest_join;
  }

  apart_join : AreApart places vs_join
  apart_join = record {
    within = λ k u q e a. each_join (λ l y. AnswersFor y q → q < places)
        (λ b. elim (from_both q b) [ inl mine ↦ seat.rule.apart.within id v q seat.at mine | inr theirs ↦ seat.rule.apart.within j other q there theirs ])
        (λ b. absurd (spent_none q b)) (λ l y _ _ g b. seat.rule.apart.within l y q g b) k u e a;
    apart = λ k l q a b ek el aa ab. each_join (λ i z. AnswersFor z q → i ≡ l)
        (λ f. each_join (λ n y. AnswersFor y q → id ≡ n) (λ _. refl) (λ s. absurd (spent_none q s))
        (λ n y not_id not_j g o. absurd (not_third n q y not_id not_j g o f)) l b el ab)
        (λ s. absurd (spent_none q s))
        (λ i z not_id not_j g o. each_join (λ n y. AnswersFor y q → i ≡ n) (λ f. absurd (not_third i q z not_id not_j g o f))
        (λ s. absurd (spent_none q s)) (λ n y _ _ gn on. seat.rule.apart.apart i n q z y g gn o on) l b el ab)
        k a ek aa;
    joined = λ k u q e has. each_join (λ l y. HasPlace y q → times q y.joined ≡ 0)
        (λ mine.
        let sum = joined_times q in
        let none = seat.rule.apart.joined id v q seat.at mine in
        dite (dec_le 1 (times q both_join.joined))
        (λ some_time. dite (dec_le 1 (times q (numbers_from other.place other.places)))
        (λ theirs. absurd (not_two q (inl mine) (inl (times_from q other.place other.places theirs))))
        (λ not_theirs. absurd (not_two q (inl mine) (inr (omega arith)))))
        (λ no_time. omega arith))
        (λ s. refl) (λ l y _ _ g theirs. seat.rule.apart.joined l y q g theirs) k u e has;
  }

  own_append : (q : ℕ) → own_of q both_join.own ≡ own_of q v.own ++ own_of q other.own
  own_append q = own_of-append q v.own other.own

  own_mine : (q : ℕ) → AnswersFor v q → own_of q both_join.own ≡ own_of q v.own
  own_mine q mine = own_append q ∙ ap (λ z. own_of q v.own ++ z) (seat.rule.owned.none j other q there (not_two q mine))
      ∙ append-nil (own_of q v.own)

  own_theirs : (q : ℕ) → AnswersFor other q → own_of q both_join.own ≡ own_of q other.own
  own_theirs q theirs = own_append q ∙ ap (λ z. z ++ own_of q other.own) (seat.rule.owned.none id v q seat.at (λ mine. not_two q mine theirs))

  -- what is between a list that has all marks of a place and the whole list has them too
  met_longer : (q : ℕ) (u : View) → own_of q u.seen ≡ own_of q u.own → own_of q h ≡ own_of q u.own → IsPrefix u.seen both_join.seen
      → own_of q both_join.seen ≡ own_of q u.own
  met_longer q u met whole longer = own_of-between q u.seen both_join.seen h longer both_seen (met ∙ sym whole) ∙ met

  owned_join : AreOwned places vs_join h
  owned_join = record {
    own = λ k u q e a. each_join (λ l y. AnswersFor y q → own_of q h ≡ own_of q y.own)
        (λ b. elim (from_both q b) [
          | inl mine ↦ seat.rule.owned.own id v q seat.at mine ∙ sym (own_mine q mine)
          | inr theirs ↦ seat.rule.owned.own j other q there theirs ∙ sym (own_theirs q theirs)
        ])
        (λ s. absurd (spent_none q s)) (λ l y _ _ g o. seat.rule.owned.own l y q g o) k u e a;
    met = λ k u q e a. each_join (λ l y. AnswersFor y q → own_of q y.seen ≡ own_of q y.own)
        (λ b. elim (from_both q b) [
          | inl mine ↦ met_longer q v (seat.rule.owned.met id v q seat.at mine) (seat.rule.owned.own id v q seat.at mine) longer_mine
              ∙ sym (own_mine q mine)
          | inr theirs ↦ met_longer q other (seat.rule.owned.met j other q there theirs) (seat.rule.owned.own j other q there theirs) longer_theirs
              ∙ sym (own_theirs q theirs)
        ])
        (λ s. absurd (spent_none q s)) (λ l y _ _ g o. seat.rule.owned.met l y q g o) k u e a;
    within = seat.rule.owned.within;
    none = λ k u q e a. each_join (λ l y. (AnswersFor y q → ⊥) → own_of q y.own ≡ [])
        (λ not_both. own_append q ∙ ap (λ z. z ++ own_of q other.own) (seat.rule.owned.none id v q seat.at (λ mine. not_both (mine_both q mine)))
        ∙ seat.rule.owned.none j other q there (λ theirs. not_both (theirs_both q theirs)))
        (λ _. refl) (λ l y _ _ g o. seat.rule.owned.none l y q g o) k u e a;
    unused = λ k u q e has far. each_join (λ l y. HasPlace y q → q ≢ y.place → own_of q y.own ≡ [])
        (λ mine ne. own_mine q (inl mine) ∙ seat.rule.owned.unused id v q seat.at mine ne)
        (λ _ _. refl) (λ l y _ _ g o ne. seat.rule.owned.unused l y q g o ne) k u e has far;
  }

  count_join : (c : ℕ) → total (λ (z : View). inside_count c z.section) vs_join ≡ total (λ (z : View). inside_count c z.section) vs
  count_join c =
      let first = total_set (λ (z : View). inside_count c z.section) vs id v both_join seat.at in
      let second = total_set (λ (z : View). inside_count c z.section) (set vs id both_join) j other spent other_at in
      let none : inside_count c other.section ≡ 0 = ap (inside_count c) quiet_other.0 in
      omega arith

  busy_join : SameBusy vs vs_join
  busy_join = record {
    back = each_join (λ k u. (get_elem? vs k ≡ some u) ⊎ (IsQuiet u × HasNoCommit u))
        (inr (quiet, quiet_turn m vs (length (updates_of h)) seat.rule.turned id v seat.at quiet.1)) (inr ((refl, refl), refl))
        (λ k u _ _ e. inl e);
    forth = λ k u e. dite (ℕ_discrete k id)
        (λ same. inr (subst IsQuiet (at_one vs id v u seat.at (subst (λ l. get_elem? vs l ≡ some u) same e)) quiet))
        (λ not_id. dite (ℕ_discrete k j)
        (λ same. inr (subst IsQuiet (at_one vs j other u there (subst (λ l. get_elem? vs l ≡ some u) same e)) quiet_other))
        (λ not_j. inl (set_else (set vs id both_join) j k spent not_j ∙ (set_else vs id k both_join not_id ∙ e))));
    count = count_join;
  }

  entered_join : (k : ℕ) (u : View) → get_elem? vs_join k ≡ some u → 1 ≤ u.places → u.sections ≡ entered_at u.place h
  entered_join = each_join (λ k u. 1 ≤ u.places → u.sections ≡ entered_at u.place h) (λ works. seat.rule.sections.entered id v seat.at works)
      (λ works. absurd (omega arith)) (λ k u _ _ e. seat.rule.sections.entered k u e)

  tickets_join : total (λ (z : View). z.tickets) vs_join ≡ total (λ (z : View). z.tickets) vs
  tickets_join =
      let first = total_set (λ (z : View). z.tickets) vs id v both_join seat.at in
      let second = total_set (λ (z : View). z.tickets) (set vs id both_join) j other spent other_at in
      omega arith

  -- H2 keeps the rule
  pub law_join : MemoryRule capacities places tickets m (set (set vs id (both_of v other)) j spent) h
  law_join = rule_busy vs vs_join busy_join capacities places tickets m h seat.rule seen_join apart_join owned_join entered_join tickets_join

-- The rule holds of a table as it is made.

-- a fact of the one element of a list
each_one : {A : Type 0} (P : ℕ → A → Type 0) (a : A) → P 0 a → (j : ℕ) (b : A) → get_elem? (a ∷ []) j ≡ some b → P j b
each_one P a mine zero b e = subst (P 0) (some-injective a b e) mine
each_one P a mine (suc j) b e = absurd (some-ne-none b (sym e))

-- numbers in their order lead from one to the next
path_from : (next : ℕ → ℕ) (n first link : ℕ) → 1 ≤ first → (n ≡ 0 → link ≡ 0) → (1 ≤ n → link ≡ first)
    → ((s : ℕ) → first ≤ s → s + 1 < first + n → next s ≡ s + 1) → ((s : ℕ) → 1 ≤ n → s + 1 ≡ first + n → next s ≡ 0)
    → IsPath next link (numbers_from first n)
path_from next zero first link some_slot none begins goes ends = none refl
path_from next (suc n) first link some_slot none begins goes ends = (
  begins (omega arith),
  some_slot,
  path_from next n (first + 1) (next first) (omega arith) (λ e. ends first (omega arith) (omega arith))
      (λ more. goes first (omega arith) (omega arith)) (λ s low high. goes s (omega arith) (omega arith))
      (λ s more e. ends s (omega arith) (omega arith)),
)

module _ (capacities : List ℕ) (places tickets : ℕ) (shape : IsShape capacities places tickets) (m : Memory)
    (fresh : IsFresh capacities m) where
  abbrev one_view : List View
  one_view = first_view places tickets ∷ []

  abbrev first_bucket : ℕ → Bucket
  first_bucket c = record {
    chain = [];
    free = numbers_from (base capacities c + 1) (capacity capacities c);
    retired = [];
    moved = [];
    hold = None;
  }

  each_view : (P : ℕ → View → Type 0) → P 0 (first_view places tickets) → (j : ℕ) (u : View) → get_elem? one_view j ≡ some u → P j u
  each_view P = each_one P (first_view places tickets)

  module _ (c : ℕ) (small : c < 64) where
    is_slot : (s : ℕ) → base capacities c + 1 ≤ s → s < base capacities c + 1 + capacity capacities c → is_slot_of capacities c s ≡ true
    is_slot s low high = and_from _ _ (lt-ltb (base capacities c) s (omega arith))
        (le-leb s (base capacities c + capacity capacities c) (omega arith))

    free_path : IsPath (λ s. m (Chain s)) (m (Free c)) (numbers_from (base capacities c + 1) (capacity capacities c))
    free_path =
        let room : ℕ = capacity capacities c in
        let before : ℕ = base capacities c in
        path_from (λ s. m (Chain s)) room (before + 1) (m (Free c)) (omega arith)
        (λ none. fresh.free c small ∙ ap (λ b. cond b 0 (before + 1)) (eq-eqb room 0 none))
        (λ some_slot. fresh.free c small ∙ ap (λ b. cond b 0 (before + 1)) (ne_eqb room 0 (λ e. omega arith)))
        (λ s low high. fresh.chains c s small (is_slot s low (omega arith))
        ∙ ap (λ b. cond b 0 (s + 1)) (ne_eqb s (before + room) (λ e. omega arith)))
        (λ s some_slot last. fresh.chains c s small (is_slot s (omega arith) (omega arith))
        ∙ ap (λ b. cond b 0 (s + 1)) (eq-eqb s (before + room) (omega arith)))

    once_free : (x : ℕ) → times x (numbers_from (base capacities c + 1) (capacity capacities c)) ≡ cond (is_slot_of capacities c x) 1 0
    once_free x = once_case (is_slot_of capacities c x) refl
      where
        once_case : (t : Bool) → is_slot_of capacities c x ≡ t
            → times x (numbers_from (base capacities c + 1) (capacity capacities c)) ≡ cond t 1 0
        once_case true is =
            let bounds = slot_bounds capacities c x is in let low = bounds.0 in let high = bounds.1 in
            from_times x (base capacities c + 1) (capacity capacities c) (omega arith) (omega arith)
        once_case false is = dite (dec_le 1 (times x (numbers_from (base capacities c + 1) (capacity capacities c))))
            (λ there. let bounds = times_from x (base capacities c + 1) (capacity capacities c) there in
            absurd (let z : false ≡ true = sym is ∙ is_slot x bounds.0 bounds.1 in cc))
            (λ not_there. omega arith)

    all_free : (s : ℕ) → IsFreeOfReaders c [] one_view s
    all_free s p j u section was = absurd (cc)

    bucket_first : BucketRule capacities c m [] [] one_view (first_bucket c)
    bucket_first = record {
      chained = record { path = fresh.heads c small; classes = tt; distinct = tt };
      listed = record { free = free_path; retired = fresh.retired c small; moved = refl };
      roles = record { once = λ x. let a = once_free x in omega arith };
      mapped = record { answers = λ key class. finite.get-empty nat_cmp key };
      locked = (fresh.locks c small, each_view (λ j u. HoldsOther c u) (λ hold is. absurd (cc)));
      known = record { known = λ hold field number is found. absurd (cc) };
      ages = record { chain = tt; taken = λ s is. absurd (cc); retired = tt; moved = tt; unlinked = λ s is. absurd (cc) };
      counted = record { readers = let none = fresh.readers c small in omega arith };
      clean = record {
        free = all_from_times (IsFreeOfReaders c [] one_view) (first_bucket c).free (λ s _. all_free s);
        moved = tt;
        clear = λ hold is clear s of. all_free s;
      };
      answered = record {
        readers = λ j u section there is class. each_view
            (λ k z. z.section ≡ Some section → WillAnswer capacities c m [] [] [] section section.state) (λ mine. absurd (cc)) j u there is;
        loaded = λ j u section value there is class read. each_view
            (λ k z. z.section ≡ Some section → WasSaid [] section.key section.from (Some value)) (λ mine. absurd (cc)) j u there is;
      };
    }

  place_first : (q : ℕ) → AnswersFor (first_view places tickets) q → q < places
  place_first q (inl has) = let high = has.1 in omega arith
  place_first q (inr joined) = absurd (omega arith)

  -- The rule holds of a table as it is made.
  pub starts : MemoryRule capacities places tickets m (first_view places tickets ∷ []) []
  starts = record {
    shape = shape;
    seen = record {
      begins = each_view (λ j u. IsPrefix u.seen []) ([], refl);
      heard = each_view (λ j u. HasHeard u) tt;
      longest = record { id = 0; view = first_view places tickets; there = refl; has = refl };
    };
    apart = record {
      within = λ j u q there a. each_view (λ k z. AnswersFor z q → q < places) (place_first q) j u there a;
      apart = λ i j q a b ei ej aa ab. each_view (λ k z. k ≡ j) (each_view (λ l y. 0 ≡ l) refl j b ej) i a ei;
      joined = λ j u q there has. each_view (λ k z. times q z.joined ≡ 0) refl j u there;
    };
    owned = record {
      own = λ j u q there a. each_view (λ k z. own_of q [] ≡ own_of q z.own) refl j u there;
      met = λ j u q there a. each_view (λ k z. own_of q z.seen ≡ own_of q z.own) refl j u there;
      within = λ q far. refl;
      none = λ j u q there a. each_view (λ k z. own_of q z.own ≡ []) refl j u there;
      unused = λ j u q there has far. each_view (λ k z. own_of q z.own ≡ []) refl j u there;
    };
    sections = record {
      open_here = λ j u section there is. each_view
          (λ k z. z.section ≡ Some section → IsOpenHere z [] [] section) (λ mine. absurd (cc)) j u there is;
      entered = λ j u there works. each_view (λ k z. z.sections ≡ entered_at z.place []) refl j u there;
      all = λ p o is. absurd (cc);
    };
    held = record {
      held = λ j u hold there is. each_view (λ k z. z.hold ≡ Some hold → (hold.class < 64) × (1 ≤ z.places))
          (λ mine. absurd (cc)) j u there is;
    };
    turned = inl (let zero_front = fresh.front in omega arith, each_view (λ j u. HasNoCommit u) refl);
    tickets_are = omega arith;
    legal = tt;
    marks = record { entered = λ j p c x e. absurd (cc); left = λ j p c e. absurd (cc); others = λ j a e. absurd (cc) };
    reuse = λ j s c i p o given. absurd (cc);
    bucket = first_bucket;
    buckets = bucket_first;
  }

-- a word of a field that the table has
has_field : (t : Bool) (n number : ℕ) → t ≡ true → n ≡ number → cond t n 0 ≡ number
has_field t n number has is = ap (λ b. cond b n 0) has ∙ is

-- A memory is fresh where its words are: of each class its lock, readers, head, free and retired, and of each slot its chain.
pub fresh_memory : (capacities ws : List ℕ) → slice_index ws (word_of Front) ≡ 0
    → ((c : ℕ) → c < 64 → IsFreshClass ws c (first_slot capacities c))
    → ((c i : ℕ) → c < 64 → i < capacity capacities c → slice_index ws (word_of (Chain (base capacities c + i + 1)))
    ≡ cond (i + 1 == capacity capacities c) 0 (base capacities c + i + 2)) → IsFresh capacities (memory_of capacities ws)
fresh_memory capacities ws front classes slots = record {
  front = front;
  locks = λ c small. has_field (nat_lt c 64) _ 0 (lt-ltb c 64 small) (classes c small).lock;
  readers = λ c small. has_field (nat_lt c 64) _ 0 (lt-ltb c 64 small) (classes c small).readers;
  heads = λ c small. has_field (nat_lt c 64) _ 0 (lt-ltb c 64 small) (classes c small).head;
  free = λ c small. has_field (nat_lt c 64) _ _ (lt-ltb c 64 small) (classes c small).free;
  retired = λ c small. has_field (nat_lt c 64) _ 0 (lt-ltb c 64 small) (classes c small).retired;
  chains = λ c s small of.
      let within = slot_within capacities c s of in
      let bounds = slot_bounds capacities c s of in
      let low = bounds.0 in
      let high = bounds.1 in
      let before : ℕ = base capacities c in
      let room : ℕ = capacity capacities c in
      has_field (nat_le 1 s && nat_le s (sum capacities)) _ _ (and_from _ _ (le-leb 1 s within.0) (le-leb s (sum capacities) within.1))
      (subst (λ z. slice_index ws (word_of (Chain z)) ≡ slot_after capacities c z)
      (let e : before + (s - (before + 1)) + 1 ≡ s = omega arith in e)
      (slots c (s - (before + 1)) small (omega arith) ∙ chain_link before room (s - (before + 1))));
}
  where
    chain_link : (before room i : ℕ) → cond (i + 1 == room) 0 (before + i + 2)
        ≡ cond (before + i + 1 == before + room) 0 (before + i + 1 + 1)
    chain_link before room i = dite (ℕ_discrete (i + 1) room)
        (λ e. ap (λ b. cond b 0 (before + i + 2)) (eq-eqb (i + 1) room e)
        ∙ sym (ap (λ b. cond b 0 (before + i + 1 + 1)) (eq-eqb (before + i + 1) (before + room) (omega arith))))
        (λ ne. let same : before + i + 2 ≡ before + i + 1 + 1 = omega arith in
        ap (λ b. cond b 0 (before + i + 2)) (ne_eqb (i + 1) room ne) ∙ same
        ∙ sym (ap (λ b. cond b 0 (before + i + 1 + 1)) (ne_eqb (before + i + 1) (before + room) (λ e. ne (omega arith)))))
