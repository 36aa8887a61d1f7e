-- What a step leaves of other classes: frames, and stores by field and by word.
-- What keeps the parts of the rule on one class, when a step elsewhere was made.
use Rattle.std.proofs.Common.{◌≡◌, ◌≢◌, ◌⊎◌, ℕ, ◌+◌, ◌%◌, ◌<◌, ◌≤◌, Bool, true, false, cond, List, [], ◌++◌, set, Option, Some, None, refl, sym, ap, subst, ◌∙◌, inl, inr, arith, option_to_list, ne_eqb, ◌==◌, eq-eqb, ◌*◌, nat_le, ◌&&◌, length, sum, slice_index, get_or-set_other, get_or-set_same}
use Rattle.std.specs.List.{AllByRecursion}
use mathlib.Core.Logic.{dite}
use mathlib.Core.Option.{some}
use native.Mathlib.Decide.{dec_le}
use lib.ListN.{get_elem?}
use Rattle.prcu_marks.specs.declared.mark.Mark.{Mark}
use Rattle.prcu_model.specs.declared.operation.Update.{Update}
use Rattle.prcu_model.specs.Dictionary.{map_of, WasSaid}
use Rattle.prcu_marks.proofs.Callers.{said_longer}
use Rattle.hash_core.specs.declared.words.Field.{Field}
use Rattle.hash_core.specs.declared.words.Field.TheVariants.{Front, Lock, Readers, Head, Free, Retired, Key, Value, Next, Chain}
use Rattle.hash_core.specs.declared.view.SearchState.{SearchState}
use Rattle.hash_core.specs.declared.view.SearchState.TheVariants.{Start, Unread, Passed, Found, Ended}
use Rattle.hash_core.specs.declared.view.Section.{Section}
use Rattle.hash_core.specs.declared.view.Hold.{Hold}
use Rattle.hash_core.specs.declared.view.View.{View}
use Rattle.list_laws.specs.Counts.{times}
use Rattle.hash_core.specs.Memory.{Memory, is_slot_of, IsOfClass, same_field, stored, word_of, is_field, memory_of, word_count, NoPlaceIsShared, FieldsAreWithin, IsOwnWord, LinesAreOwn}
use Rattle.prcu_marks.specs.Marks.{gone_at, IsGone, last_unlinked}
use Rattle.hash_core.specs.Rule.{Bucket, IsChained, AreListed, HaveOneRole, IsMapped, HoldsOther, IsLocked, IsKnown, HaveAges, inside_count, AreCounted, IsFreeOfReaders, AreClean, taken_of, unlinked_of, moved_of, link_of, IsHeldBack, HasWay, WillAnswer, AreAnswered, BucketRule, HoldsIt}
use Rattle.prcu_model.proofs.ListFacts.{all_map}
use Rattle.list_laws.proofs.Lists.{each_set, total_set, all_change, all_times, times_here, times_append, only_change}
use Rattle.hash_core.proofs.SlotLists.{path_cons, IsPath-same, IsPath-from, seek-same, HaveDistinctKeys-same, one_class}
use Rattle.std.proofs.lemmas.Bool.{eqb-true, ltb-true, leb-true, and_parts}
use Rattle.hash_core.specs.declared.layout.TheConstants.{APART, CLASS_BASE, CLASS_WORDS}
use Rattle.std.specs.FinMap as finite

-- What stands in the slots of a class is the same.
abbrev pub SameSlots : List ℕ → ℕ → Memory → Memory → Type 0
SameSlots capacities c m m' = (s : ℕ) → is_slot_of capacities c s ≡ true
    → (m' (Key s) ≡ m (Key s)) × (m' (Value s) ≡ m (Value s)) × (m' (Next s) ≡ m (Next s)) × (m' (Chain s) ≡ m (Chain s))

-- What the parts on one class read of the memory is the same.
pub record SameWords (capacities : List ℕ) (c : ℕ) (m m' : Memory) : Type 0 where
  pub lock : m' (Lock c) ≡ m (Lock c)
  pub readers : m' (Readers c) ≡ m (Readers c)
  pub head : m' (Head c) ≡ m (Head c)
  pub free : m' (Free c) ≡ m (Free c)
  pub retired : m' (Retired c) ≡ m (Retired c)
  pub slots : SameSlots capacities c m m'

-- A class's words that its chain has no part in, and the front, are the same.
pub record SameLists (c : ℕ) (m m' : Memory) : Type 0 where
  pub lock : m' (Lock c) ≡ m (Lock c)
  pub readers : m' (Readers c) ≡ m (Readers c)
  pub free : m' (Free c) ≡ m (Free c)
  pub retired : m' (Retired c) ≡ m (Retired c)
  pub front : m' Front ≡ m Front

-- Slots that are to be free of readers stay so, where each does; a holder that found no reader had found none before.
pub clean_by : (capacities : List ℕ) (c : ℕ) (h h' : List Mark) (vs vs' : List View) (b b' : Bucket)
    → ((s : ℕ) → IsFreeOfReaders c h vs s → IsFreeOfReaders c h' vs' s) → b'.free ≡ b.free → b'.moved ≡ b.moved
    → ((hold : Hold) → b'.hold ≡ Some hold → hold.clear ≡ true → (s : ℕ) → is_slot_of capacities c s ≡ true → IsFreeOfReaders c h vs s)
    → AreClean capacities c h vs b → AreClean capacities c h' vs' b'
clean_by capacities c h h' vs vs' b b' each free moved clear clean = record {
  free = subst (AllByRecursion (IsFreeOfReaders c h' vs')) (sym free)
      (all_map (IsFreeOfReaders c h vs) (IsFreeOfReaders c h' vs') b.free each clean.free);
  moved = subst (AllByRecursion (IsFreeOfReaders c h' vs')) (sym moved)
      (all_map (IsFreeOfReaders c h vs) (IsFreeOfReaders c h' vs') b.moved each clean.moved);
  clear = λ hold is yes s of. each s (clear hold is yes s of);
}

-- The marks and updates that came say nothing of the class: where its slots were unlinked, whether they were given since, and its
-- keys' pairs.
pub record SameMarks (capacities : List ℕ) (c : ℕ) (h h' : List Mark) (us us' : List Update) : Type 0 where
  pub more : List Update
  pub longer : us' ≡ us ++ more
  pub gone : (s : ℕ) → is_slot_of capacities c s ≡ true → gone_at s h' ≡ gone_at s h
  pub last : (s : ℕ) → is_slot_of capacities c s ≡ true → last_unlinked s h' ≡ last_unlinked s h
  pub pairs : (key : ℕ) → key % 64 ≡ c → finite.get (map_of us') key ≡ finite.get (map_of us) key

-- what the parts on one class read of a view's section: where it is of the class, all of it
abbrev pub SameSection : ℕ → Option Section → Option Section → Type 0
SameSection c None None = Unit {0}
SameSection c None (Some t) = t.key % 64 ≢ c
SameSection c (Some s) None = s.key % 64 ≢ c
SameSection c (Some s) (Some t) = (s ≡ t) ⊎ ((s.key % 64 ≢ c) × (t.key % 64 ≢ c))

-- and of its lock
abbrev pub SameHold : ℕ → Option Hold → Option Hold → Type 0
SameHold c None None = Unit {0}
SameHold c None (Some k) = k.class ≢ c
SameHold c (Some k) None = k.class ≢ c
SameHold c (Some k) (Some l) = (k ≡ l) ⊎ ((k.class ≢ c) × (l.class ≢ c))

-- What the parts on one class read of a view is the same.
pub record SameView (c : ℕ) (v w : View) : Type 0 where
  pub place : w.place ≡ v.place
  pub section : SameSection c v.section w.section
  pub hold : SameHold c v.hold w.hold

pub section_back : (c : ℕ) (a b : Option Section) (t : Section) → SameSection c a b → b ≡ Some t → t.key % 64 ≡ c → a ≡ Some t
section_back c a None t same is class = absurd (cc)
section_back c None (Some u) t same is class = absurd (same (let e : u ≡ t = cc in ap (λ (z : Section). z.key % 64) e ∙ class))
section_back c (Some s) (Some u) t same is class =
    let e : u ≡ t = cc in
    elim same [ inl q ↦ ap Some (q ∙ e) | inr n ↦ absurd (n.1 (ap (λ (z : Section). z.key % 64) e ∙ class)) ]

other_count : (c : ℕ) (s : Section) → s.key % 64 ≢ c → inside_count c (Some s) ≡ 0
other_count c s ne = ap (λ b. cond b 1 0) (ne_eqb (s.key % 64) c ne)

same_count : (c : ℕ) (a b : Option Section) → SameSection c a b → inside_count c b ≡ inside_count c a
same_count c None None same = refl
same_count c None (Some t) same = other_count c t same
same_count c (Some s) None same = sym (other_count c s same)
same_count c (Some s) (Some t) same = elim same [
  | inl q ↦ ap (λ z. inside_count c (Some z)) (sym q)
  | inr n ↦ other_count c t n.1 ∙ sym (other_count c s n.0)
]

hold_other : (c : ℕ) (a b : Option Hold) → SameHold c a b → ((k : Hold) → a ≡ Some k → k.class ≢ c) → (k : Hold) → b ≡ Some k → k.class ≢ c
hold_other c a None same before k is = absurd (cc)
hold_other c None (Some l) same before k is = let e : l ≡ k = cc in subst (λ (z : Hold). z.class ≢ c) e same
hold_other c (Some j) (Some l) same before k is =
    let e : l ≡ k = cc in
    elim same [ inl q ↦ before k (ap Some (q ∙ e)) | inr n ↦ subst (λ (z : Hold). z.class ≢ c) e n.1 ]

hold_same : (c : ℕ) (a b : Option Hold) (k : Hold) → SameHold c a b → a ≡ Some k → k.class ≡ c → b ≡ Some k
hold_same c None b k same is class = absurd (cc)
hold_same c (Some j) None k same is class = absurd (same (let e : j ≡ k = cc in ap (λ (z : Hold). z.class) e ∙ class))
hold_same c (Some j) (Some l) k same is class =
    let e : j ≡ k = cc in
    elim same [ inl q ↦ ap Some (sym q ∙ e) | inr n ↦ absurd (n.0 (ap (λ (z : Hold). z.class) e ∙ class)) ]

-- a slot that stands in one of the class's lists is one of the class
module _ {capacities : List ℕ} {c : ℕ} {b : Bucket} (roles : HaveOneRole capacities c b) where
  slot_case : (t : Bool) (n : ℕ) → n ≡ cond t 1 0 → 1 ≤ n → t ≡ true
  slot_case true n e there = refl
  slot_case false n e there = absurd (omega arith)

  pub chain_slot : (x : ℕ) → 1 ≤ times x b.chain → is_slot_of capacities c x ≡ true
  chain_slot x there = let r = roles.once x in slot_case (is_slot_of capacities c x) _ r (omega arith)

  pub free_slot : (x : ℕ) → 1 ≤ times x b.free → is_slot_of capacities c x ≡ true
  free_slot x there = let r = roles.once x in slot_case (is_slot_of capacities c x) _ r (omega arith)

  pub retired_slot : (x : ℕ) → 1 ≤ times x b.retired → is_slot_of capacities c x ≡ true
  retired_slot x there = let r = roles.once x in slot_case (is_slot_of capacities c x) _ r (omega arith)

  pub moved_slot : (x : ℕ) → 1 ≤ times x b.moved → is_slot_of capacities c x ≡ true
  moved_slot x there = let r = roles.once x in slot_case (is_slot_of capacities c x) _ r (omega arith)

  pub taken_slot : (x : ℕ) → taken_of b.hold ≡ Some x → is_slot_of capacities c x ≡ true
  taken_slot x is =
      let r = roles.once x in
      let one : times x (option_to_list (taken_of b.hold)) ≡ 1 =
      ap (λ o. times x (option_to_list o)) is ∙ (let t = times_here x [] in omega arith) in
      slot_case (is_slot_of capacities c x) _ r (omega arith)

  pub unlinked_slot : (x : ℕ) → unlinked_of b.hold ≡ Some x → is_slot_of capacities c x ≡ true
  unlinked_slot x is =
      let r = roles.once x in
      let one : times x (option_to_list (unlinked_of b.hold)) ≡ 1 =
      ap (λ o. times x (option_to_list o)) is ∙ (let t = times_here x [] in omega arith) in
      slot_case (is_slot_of capacities c x) _ r (omega arith)

-- What readers of a class will answer, where its slots and marks are the same.
-- What an open section will be told: what its search will answer, and the value that it has loaded.
abbrev pub WillBeTold : List ℕ → ℕ → Memory → List Mark → List Update → List ℕ → Section → Type 0
WillBeTold capacities c m h us chain section = WillAnswer capacities c m h us chain section section.state
    × ((value : ℕ) → section.loaded ≡ Some value → WasSaid us section.key section.from (Some value))

pub told_of : {capacities : List ℕ} {c : ℕ} {m : Memory} {h : List Mark} {us : List Update} {vs : List View} {chain : List ℕ}
    → AreAnswered capacities c m h us vs chain → (j : ℕ) (u : View) (section : Section) → get_elem? vs j ≡ some u
    → u.section ≡ Some section → section.key % 64 ≡ c → WillBeTold capacities c m h us chain section
told_of answered j u section there is class = (
  answered.readers j u section there is class,
  λ value. answered.loaded j u section value there is class,
)

-- it is so of all after a step, where it is so of the stepping view's and of the others'
pub answered_set : {capacities : List ℕ} {c : ℕ} {m : Memory} {h : List Mark} {us : List Update} {chain : List ℕ} (vs : List View) (id : ℕ)
    (w : View) → ((section : Section) → w.section ≡ Some section → section.key % 64 ≡ c → WillBeTold capacities c m h us chain section)
    → ((j : ℕ) (u : View) (section : Section) → get_elem? vs j ≡ some u → u.section ≡ Some section → section.key % 64 ≡ c
    → WillBeTold capacities c m h us chain section) → AreAnswered capacities c m h us (set vs id w) chain
answered_set {capacities} {c} {m} {h} {us} {chain} vs id w mine others =
    let each : (j : ℕ) (u : View) → get_elem? (set vs id w) j ≡ some u → (section : Section) → u.section ≡ Some section
    → section.key % 64 ≡ c → WillBeTold capacities c m h us chain section =
    each_set (λ k z. (section : Section) → z.section ≡ Some section → section.key % 64 ≡ c
    → WillBeTold capacities c m h us chain section) vs id w mine (λ k z far e section. others k z section e) in
    record {
      readers = λ j u section there is class. (each j u there section is class).0;
      loaded = λ j u section value there is class. (each j u there section is class).1 value;
    }

pub still_said : {capacities : List ℕ} {c : ℕ} {h h' : List Mark} {us us' : List Update} → SameMarks capacities c h h' us us'
    → (key from : ℕ) (answer : Option ℕ) → WasSaid us key from answer → WasSaid us' key from answer
still_said {us = us} marks key from answer said = subst (λ z. WasSaid z key from answer) (sym marks.longer)
    (said_longer us marks.more key from answer said)

module _ {capacities : List ℕ} {c : ℕ} (m : Memory) {h : List Mark} {us : List Update} {b : Bucket} (roles : HaveOneRole capacities c b) where
  -- the first slot of a way is one of the class
  pub way_slot : (section : Section) (slot : ℕ) → HasWay capacities c m h us b.chain section slot → is_slot_of capacities c slot ≡ true
  way_slot section slot way =
      let first = path_cons (λ s. m (Next s)) slot (way.olds ++ way.rest) way.some way.path in
      let there : 1 ≤ times slot (way.olds ++ way.rest) =
      (let t = times_here slot first.0 in let e = ap (times slot) first.1 in omega arith) in
      let sum = times_append slot way.olds way.rest in
      dite (dec_le 1 (times slot way.olds))
      (λ in_olds. all_times (λ t. is_slot_of capacities c t ≡ true) way.olds slot way.slots in_olds)
      (λ not_olds. let cut = times_append slot way.front way.rest in let whole = ap (times slot) way.joins in
      chain_slot roles slot (omega arith))

module _ {capacities : List ℕ} {c : ℕ} (m m' : Memory) {h h' : List Mark} {us us' : List Update} {b : Bucket}
    (slots : SameSlots capacities c m m') (marks : SameMarks capacities c h h' us us') (roles : HaveOneRole capacities c b) where
  pub still_way : (section : Section) (slot : ℕ) → HasWay capacities c m h us b.chain section slot
      → HasWay capacities c m' h' us' b.chain section slot
  still_way section slot way =
      let of : (s : ℕ) → 1 ≤ times s (way.olds ++ way.rest) → is_slot_of capacities c s ≡ true = λ s there.
      let sum = times_append s way.olds way.rest in
      dite (dec_le 1 (times s way.olds))
      (λ in_olds. all_times (λ t. is_slot_of capacities c t ≡ true) way.olds s way.slots in_olds)
      (λ not_olds. let cut = times_append s way.front way.rest in let whole = ap (times s) way.joins in
      chain_slot roles s (omega arith)) in
      record {
        olds = way.olds;
        front = way.front;
        rest = way.rest;
        some = way.some;
        path = IsPath-same (λ s. m (Next s)) (λ s. m' (Next s)) slot (way.olds ++ way.rest) (λ s there. (slots s (of s there)).2) way.path;
        held = all_change (IsHeldBack h section) (IsHeldBack h' section) way.olds
            (λ s there p. (
              p.0,
              marks.gone s (all_times (λ t. is_slot_of capacities c t ≡ true) way.olds s way.slots there) ∙ p.1,
              p.2,
            )) way.held;
        slots = way.slots;
        joins = way.joins;
        said = subst (WasSaid us' section.key section.from)
            (sym (seek-same m m' section.key (way.olds ++ way.rest) (λ s there. let q = slots s (of s there) in (q.0, q.1))))
            (still_said marks section.key section.from _ way.said);
      }

  pub still_answer : (section : Section) (state : SearchState) → WillAnswer capacities c m h us b.chain section state
      → WillAnswer capacities c m' h' us' b.chain section state
  still_answer section Start a = tt
  still_answer section (Unread s) a = still_way section s a
  still_answer section (Passed s) a = (still_way section s a.0, λ e. a.1 (sym (slots s (way_slot m roles section s a.0)).0 ∙ e))
  still_answer section (Found s) a = (still_way section s a.0, (slots s (way_slot m roles section s a.0)).0 ∙ a.1)
  still_answer section Ended a = still_said marks section.key section.from None a

  pub still_told : (section : Section) → WillBeTold capacities c m h us b.chain section → WillBeTold capacities c m' h' us' b.chain section
  still_told section told = (
    still_answer section section.state told.0,
    λ value read. still_said marks section.key section.from (Some value) (told.1 value read),
  )

-- where slots were unlinked, where that is the same
module _ {capacities : List ℕ} {c : ℕ} (h h' : List Mark) {b : Bucket}
    (gone : (s : ℕ) → is_slot_of capacities c s ≡ true → gone_at s h' ≡ gone_at s h) (roles : HaveOneRole capacities c b) where
  still_gone : (s : ℕ) → is_slot_of capacities c s ≡ true → IsGone h s → IsGone h' s
  still_gone s of was = (was.0, gone s of ∙ was.1)

  pub frame_ages_same : HaveAges h b → HaveAges h' b
  frame_ages_same ages = record {
    chain = all_change (λ s. gone_at s h ≡ None) (λ s. gone_at s h' ≡ None) b.chain
        (λ s there p. gone s (chain_slot roles s there) ∙ p) ages.chain;
    taken = λ s is. gone s (taken_slot roles s is) ∙ ages.taken s is;
    retired = all_change (IsGone h) (IsGone h') b.retired (λ s there p. still_gone s (retired_slot roles s there) p) ages.retired;
    moved = all_change (IsGone h) (IsGone h') b.moved (λ s there p. still_gone s (moved_slot roles s there) p) ages.moved;
    unlinked = λ s is. still_gone s (unlinked_slot roles s is) (ages.unlinked s is);
  }

-- who holds the lock, where that is the same
module _ (c : ℕ) (m m' : Memory) (vs : List View) (id : ℕ) (v w : View) (at : get_elem? vs id ≡ some v) (word : m' (Lock c) ≡ m (Lock c))
    (place : w.place ≡ v.place) (held_same : SameHold c v.hold w.hold) where
  pub locked_same : (hold : Option Hold) → IsLocked c m vs hold → IsLocked c m' (set vs id w) hold
  locked_same None locked = (
    word ∙ locked.0,
    each_set (λ j u. HoldsOther c u) vs id w (hold_other c v.hold w.hold held_same (locked.1 id v at)) (λ j u other e. locked.1 j u e),
  )
  locked_same (Some hold) locked = only_change vs id v w at
      (λ (mine : HoldsIt c m hold v). record {
        holds = hold_same c v.hold w.hold hold held_same mine.holds mine.class;
        class = mine.class;
        word = word ∙ mine.word ∙ ap (λ n. n + 1) (sym place);
      })
      (λ u (theirs : HoldsIt c m hold u). record { holds = theirs.holds; class = theirs.class; word = word ∙ theirs.word })
      (λ (other : HoldsOther c v). hold_other c v.hold w.hold held_same other) locked

-- slots that no section holds back, where the sections are the same
module _ (capacities : List ℕ) (c : ℕ) (h h' : List Mark) (vs : List View) (id : ℕ) (v w : View) (at : get_elem? vs id ≡ some v)
    (last : (s : ℕ) → is_slot_of capacities c s ≡ true → last_unlinked s h' ≡ last_unlinked s h)
    (sections : SameSection c v.section w.section) where
  pub still_free : (s : ℕ) → is_slot_of capacities c s ≡ true → IsFreeOfReaders c h vs s → IsFreeOfReaders c h' (set vs id w) s
  still_free s of free p j u section was there is class =
      each_set (λ k z. z.section ≡ Some section → p < section.entered) vs id w
      (λ mine. free p id v section (sym (last s of) ∙ was) at (section_back c v.section w.section section sections mine class) class)
      (λ k z other e theirs. free p k z section (sym (last s of) ∙ was) e theirs class) j u there is

module _ (capacities : List ℕ) (c : ℕ) (m m' : Memory) (h h' : List Mark) (us us' : List Update) (vs : List View) (id : ℕ) (v w : View)
    (b : Bucket)
    (at : get_elem? vs id ≡ some v) (words : SameWords capacities c m m') (marks : SameMarks capacities c h h' us us')
    (view : SameView c v w) (r : BucketRule capacities c m h us vs b) where
  slot_chain : (x : ℕ) → 1 ≤ times x b.chain → is_slot_of capacities c x ≡ true
  slot_chain = chain_slot r.roles

  frame_chained : IsChained c m' b.chain
  frame_chained =
      let keys : (s : ℕ) → 1 ≤ times s b.chain → (m' (Key s) ≡ m (Key s)) × (m' (Value s) ≡ m (Value s)) = λ s there. let q =
      words.slots s (slot_chain s there) in (q.0, q.1) in
      record {
        path = IsPath-from (λ s. m' (Next s)) (m (Head c)) (m' (Head c)) b.chain (sym words.head)
            (IsPath-same (λ s. m (Next s)) (λ s. m' (Next s)) (m (Head c)) b.chain
            (λ s there. (words.slots s (slot_chain s there)).2) r.chained.path);
        classes = all_change (λ s. m (Key s) % 64 ≡ c) (λ s. m' (Key s) % 64 ≡ c) b.chain
            (λ s there p. ap (λ n. n % 64) (keys s there).0 ∙ p) r.chained.classes;
        distinct = HaveDistinctKeys-same m m' b.chain keys r.chained.distinct;
      }

  frame_listed : AreListed c m' b
  frame_listed = record {
    free = IsPath-from (λ s. m' (Chain s)) (m (Free c)) (m' (Free c)) b.free (sym words.free)
        (IsPath-same (λ s. m (Chain s)) (λ s. m' (Chain s)) (m (Free c)) b.free
        (λ s there. (words.slots s (free_slot r.roles s there)).3) r.listed.free);
    retired = IsPath-from (λ s. m' (Chain s)) (m (Retired c)) (m' (Retired c)) b.retired (sym words.retired)
        (IsPath-same (λ s. m (Chain s)) (λ s. m' (Chain s)) (m (Retired c)) b.retired
        (λ s there. (words.slots s (retired_slot r.roles s there)).3) r.listed.retired);
    moved = IsPath-same (λ s. m (Chain s)) (λ s. m' (Chain s)) (link_of (moved_of b.hold)) b.moved
        (λ s there. (words.slots s (moved_slot r.roles s there)).3) r.listed.moved;
  }

  frame_mapped : IsMapped c m' us' b.chain
  frame_mapped = record {
    answers = λ key class. marks.pairs key class ∙ r.mapped.answers key class
        ∙ sym (seek-same m m' key b.chain (λ s there. let q = words.slots s (slot_chain s there) in (q.0, q.1)));
  }

  frame_known : IsKnown capacities c m' b.hold
  frame_known = record {
    known = λ hold field number is found. let k = r.known.known hold field number is found in (k.0, known_case field k.0 ∙ k.1);
  }
    where
      known_case : (field : Field) → IsOfClass capacities c field → m' field ≡ m field
      known_case (Head d) of = ap (λ z. m' (Head z)) of ∙ words.head ∙ ap (λ z. m (Head z)) (sym of)
      known_case (Free d) of = ap (λ z. m' (Free z)) of ∙ words.free ∙ ap (λ z. m (Free z)) (sym of)
      known_case (Retired d) of = ap (λ z. m' (Retired z)) of ∙ words.retired ∙ ap (λ z. m (Retired z)) (sym of)
      known_case (Key s) of = (words.slots s of).0
      known_case (Value s) of = (words.slots s of).1
      known_case (Next s) of = (words.slots s of).2
      known_case (Chain s) of = (words.slots s of).3
      known_case _ of = absurd of

  frame_counted : AreCounted c m' (set vs id w)
  frame_counted = record {
    readers =
        let sum = total_set (λ (z : View). inside_count c z.section) vs id v w at in
        let same = same_count c v.section w.section view.section in
        let was = r.counted.readers in
        let word = words.readers in
        omega arith;
  }

  frame_clean : AreClean capacities c h' (set vs id w) b
  frame_clean = record {
    free = all_change (IsFreeOfReaders c h vs) (IsFreeOfReaders c h' (set vs id w)) b.free
        (λ s there p. still_free capacities c h h' vs id v w at marks.last view.section s (free_slot r.roles s there) p) r.clean.free;
    moved = all_change (IsFreeOfReaders c h vs) (IsFreeOfReaders c h' (set vs id w)) b.moved
        (λ s there p. still_free capacities c h h' vs id v w at marks.last view.section s (moved_slot r.roles s there) p) r.clean.moved;
    clear = λ hold is clear s of. still_free capacities c h h' vs id v w at marks.last view.section s of (r.clean.clear hold is clear s of);
  }

  frame_answered : AreAnswered capacities c m' h' us' (set vs id w) b.chain
  frame_answered = answered_set vs id w
      (λ section mine class. still_told m m' words.slots marks r.roles section (told_of r.answered id v section at
      (section_back c v.section w.section section view.section mine class) class))
      (λ j u section e theirs class. still_told m m' words.slots marks r.roles section (told_of r.answered j u section e theirs class))

  -- the whole rule on a class, where a step was made elsewhere
  pub bucket_frame : BucketRule capacities c m' h' us' (set vs id w) b
  bucket_frame = record {
    chained = frame_chained;
    listed = frame_listed;
    roles = r.roles;
    mapped = frame_mapped;
    locked = locked_same c m m' vs id v w at words.lock view.place view.hold b.hold r.locked;
    known = frame_known;
    ages = frame_ages_same h h' marks.gone r.roles r.ages;
    counted = frame_counted;
    clean = frame_clean;
    answered = frame_answered;
  }

-- A store in a field of one class leaves what the others read.

cond_ne : (m : ℕ) (n x a b : ℕ) → a ≢ b → cond (a == b) n x ≡ x
cond_ne m n x a b ne = ap (λ t. cond t n x) (ne_eqb a b ne)

-- what a store put at its field
pub stored_here : (m : Memory) (field : Field) (n : ℕ) → same_field field field ≡ true → stored m field n field ≡ n
stored_here m field n same = ap (λ t. cond t n (m field)) same

pub same_self : (field : Field) → same_field field field ≡ true
same_self Front = refl
same_self (Lock c) = eq-eqb c c refl
same_self (Readers c) = eq-eqb c c refl
same_self (Head c) = eq-eqb c c refl
same_self (Free c) = eq-eqb c c refl
same_self (Retired c) = eq-eqb c c refl
same_self (Key s) = eq-eqb s s refl
same_self (Value s) = eq-eqb s s refl
same_self (Next s) = eq-eqb s s refl
same_self (Chain s) = eq-eqb s s refl

-- the test on fields tells equal ones
pub same_is : (field other : Field) → same_field field other ≡ true → field ≡ other
same_is Front Front e = refl
same_is (Lock c) (Lock d) e = ap Lock (eqb-true c d e)
same_is (Readers c) (Readers d) e = ap Readers (eqb-true c d e)
same_is (Head c) (Head d) e = ap Head (eqb-true c d e)
same_is (Free c) (Free d) e = ap Free (eqb-true c d e)
same_is (Retired c) (Retired d) e = ap Retired (eqb-true c d e)
same_is (Key c) (Key d) e = ap Key (eqb-true c d e)
same_is (Value c) (Value d) e = ap Value (eqb-true c d e)
same_is (Next c) (Next d) e = ap Next (eqb-true c d e)
same_is (Chain c) (Chain d) e = ap Chain (eqb-true c d e)
same_is _ _ e = absurd (cc)

pub same_words : (capacities : List ℕ) (d : ℕ) (m : Memory) → SameWords capacities d m m
same_words capacities d m = record {
  lock = refl;
  readers = refl;
  head = refl;
  free = refl;
  retired = refl;
  slots = λ s of. (refl, refl, refl, refl);
}

pub front_words : (capacities : List ℕ) (d : ℕ) (m : Memory) (n : ℕ) → SameWords capacities d m (stored m Front n)
front_words capacities d m n = record {
  lock = refl;
  readers = refl;
  head = refl;
  free = refl;
  retired = refl;
  slots = λ s of. (refl, refl, refl, refl);
}

module _ (capacities : List ℕ) (c d : ℕ) (m : Memory) (n : ℕ) (other : d ≢ c) where
  far : c ≢ d
  far e = other (sym e)

  pub lock_words : SameWords capacities d m (stored m (Lock c) n)
  lock_words = record {
    lock = cond_ne 0 n (m (Lock d)) c d far;
    readers = refl;
    head = refl;
    free = refl;
    retired = refl;
    slots = λ s of. (refl, refl, refl, refl);
  }

  pub readers_words : SameWords capacities d m (stored m (Readers c) n)
  readers_words = record {
    lock = refl;
    readers = cond_ne 0 n (m (Readers d)) c d far;
    head = refl;
    free = refl;
    retired = refl;
    slots = λ s of. (refl, refl, refl, refl);
  }

  -- a slot of another class
  far_slot : (s t : ℕ) → is_slot_of capacities c s ≡ true → is_slot_of capacities d t ≡ true → s ≢ t
  far_slot s t of_c of_d e = far (one_class capacities c d s of_c (subst (λ z. is_slot_of capacities d z ≡ true) (sym e) of_d))

  -- a field of one class is no word of the other
  far_field : (field other : Field) → IsOfClass capacities c field → IsOfClass capacities d other → same_field field other ≡ false
  far_field Front _ of _ = absurd of
  far_field (Lock e) _ of _ = absurd of
  far_field (Readers e) _ of _ = absurd of
  far_field (Head e) (Head f) of there = ne_eqb e f (λ g. far (sym of ∙ g ∙ there))
  far_field (Free e) (Free f) of there = ne_eqb e f (λ g. far (sym of ∙ g ∙ there))
  far_field (Retired e) (Retired f) of there = ne_eqb e f (λ g. far (sym of ∙ g ∙ there))
  far_field (Key s) (Key t) of there = ne_eqb s t (far_slot s t of there)
  far_field (Value s) (Value t) of there = ne_eqb s t (far_slot s t of there)
  far_field (Next s) (Next t) of there = ne_eqb s t (far_slot s t of there)
  far_field (Chain s) (Chain t) of there = ne_eqb s t (far_slot s t of there)
  far_field _ _ of there = refl

  -- and not how many read the other, nor who has its lock
  far_words : (field : Field) → IsOfClass capacities c field → (same_field field (Lock d) ≡ false) × (same_field field (Readers d) ≡ false)
  far_words (Lock e) of = absurd of
  far_words (Readers e) of = absurd of
  far_words _ of = (refl, refl)

  pub class_words : (field : Field) → IsOfClass capacities c field → SameWords capacities d m (stored m field n)
  class_words field of =
      let away : (other : Field) → same_field field other ≡ false → stored m field n other ≡ m other =
      λ other e. ap (λ t. cond t n (m other)) e in
      let stays : (other : Field) → IsOfClass capacities d other → stored m field n other ≡ m other =
      λ other there. away other (far_field field other of there) in
      record {
        lock = away (Lock d) (far_words field of).0;
        readers = away (Readers d) (far_words field of).1;
        head = stays (Head d) refl;
        free = stays (Free d) refl;
        retired = stays (Retired d) refl;
        slots = λ s there. (stays (Key s) there, stays (Value s) there, stays (Next s) there, stays (Chain s) there);
      }

-- A store in a word of the table is a store in its field.

-- where a field lies
abbrev Lies : List ℕ → Field → Type 0
Lies capacities Front = Unit {0}
Lies capacities (Lock c) = c < 64
Lies capacities (Readers c) = c < 64
Lies capacities (Head c) = c < 64
Lies capacities (Free c) = c < 64
Lies capacities (Retired c) = c < 64
Lies capacities (Key s) = (1 ≤ s) × (s ≤ sum capacities)
Lies capacities (Value s) = (1 ≤ s) × (s ≤ sum capacities)
Lies capacities (Next s) = (1 ≤ s) × (s ≤ sum capacities)
Lies capacities (Chain s) = (1 ≤ s) × (s ≤ sum capacities)

slot_lies : (capacities : List ℕ) (s : ℕ) → (nat_le 1 s && nat_le s (sum capacities)) ≡ true → (1 ≤ s) × (s ≤ sum capacities)
slot_lies capacities s e = let both = and_parts _ _ e in (leb-true 1 s both.0, leb-true s (sum capacities) both.1)

lies : (capacities : List ℕ) (field : Field) → is_field capacities field ≡ true → Lies capacities field
lies capacities Front e = tt
lies capacities (Lock c) e = ltb-true c 64 e
lies capacities (Readers c) e = ltb-true c 64 e
lies capacities (Head c) e = ltb-true c 64 e
lies capacities (Free c) e = ltb-true c 64 e
lies capacities (Retired c) e = ltb-true c 64 e
lies capacities (Key s) e = slot_lies capacities s e
lies capacities (Value s) e = slot_lies capacities s e
lies capacities (Next s) e = slot_lies capacities s e
lies capacities (Chain s) e = slot_lies capacities s e

-- no two fields share a word
one_field : (capacities : List ℕ) (f g : Field) → Lies capacities f → Lies capacities g → word_of f ≡ word_of g → same_field f g ≡ true
one_field capacities Front Front p q e = refl
one_field capacities (Lock c) (Lock d) p q e = eq-eqb c d (omega arith)
one_field capacities (Readers c) (Readers d) p q e = eq-eqb c d (omega arith)
one_field capacities (Head c) (Head d) p q e = eq-eqb c d (omega arith)
one_field capacities (Free c) (Free d) p q e = eq-eqb c d (omega arith)
one_field capacities (Retired c) (Retired d) p q e = eq-eqb c d (omega arith)
one_field capacities (Key c) (Key d) p q e = eq-eqb c d (omega arith)
one_field capacities (Value c) (Value d) p q e = eq-eqb c d (omega arith)
one_field capacities (Next c) (Next d) p q e = eq-eqb c d (omega arith)
one_field capacities (Chain c) (Chain d) p q e = eq-eqb c d (omega arith)
one_field capacities _ _ p q e = absurd (omega arith)

-- no two fields stand at one place of the row
pub one_place : NoPlaceIsShared
one_place capacities f g p q e = same_is f g (one_field capacities f g (lies capacities f p) (lies capacities g q) e)

-- a field's word is one of the table's
pub word_inside : FieldsAreWithin
word_inside capacities field is = inside_case field (lies capacities field is)
  where
    inside_case : (f : Field) → Lies capacities f → word_of f < word_count capacities
    inside_case Front p = omega arith
    inside_case _ p = omega arith

-- a class's words stand behind the front, in the class's own room
own_place : (c : ℕ) (f : Field) → IsOwnWord c f → (CLASS_BASE + APART * c ≤ word_of f) × (word_of f < CLASS_BASE + APART * c + CLASS_WORDS)
own_place c (Lock d) e = (omega arith, omega arith)
own_place c (Readers d) e = (omega arith, omega arith)
own_place c (Head d) e = (omega arith, omega arith)
own_place c (Free d) e = (omega arith, omega arith)
own_place c (Retired d) e = (omega arith, omega arith)
own_place c _ e = absurd e

pub lines_are_own : LinesAreOwn
lines_are_own c g here = let at = own_place c g here in let low = at.0 in (
  omega arith,
  λ b f less there. let before = own_place b f there in let high = before.1 in omega arith,
)

-- what is loaded from a field's word
pub memory-word : (capacities words : List ℕ) (field : Field) → is_field capacities field ≡ true
    → memory_of capacities words field ≡ slice_index words (word_of field)
memory-word capacities words field is = ap (λ b. cond b (slice_index words (word_of field)) 0) is

pub memory-stored : (capacities words : List ℕ) (field : Field) (n : ℕ) → is_field capacities field ≡ true
    → length words ≡ word_count capacities → memory_of capacities (set words (word_of field) n)
    ≡ stored (memory_of capacities words) field n
memory-stored capacities words field n is long = λ i other. at_field other i
  where
    here : word_of field < length words
    here = let a = word_inside capacities field is in omega arith

    read_case : (other : Field) (t u : Bool) → is_field capacities other ≡ t → same_field field other ≡ u
        → cond t (slice_index (set words (word_of field) n) (word_of other)) 0 ≡ cond u n (cond t (slice_index words (word_of other)) 0)
    read_case other true true has same =
        let f : field ≡ other = same_is field other same in
        subst (λ z. slice_index (set words (word_of field) n) (word_of z) ≡ n) f (get_or-set_same words (word_of field) n 0 here)
    read_case other true false has same =
        get_or-set_other words (word_of field) (word_of other) n 0
        (λ e. let z : true ≡ false = sym (one_field capacities field other (lies capacities field is) (lies capacities other has) (sym e))
        ∙ same in absurd (cc))
    read_case other false true has same = absurd (let f : field ≡ other = same_is field other same in
        let z : true ≡ false = sym is ∙ ap (is_field capacities) f ∙ has in cc)
    read_case other false false has same = refl

    at_field : (other : Field) → memory_of capacities (set words (word_of field) n) other
        ≡ stored (memory_of capacities words) field n other
    at_field other = read_case other (is_field capacities other) (same_field field other) refl refl
