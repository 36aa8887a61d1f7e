-- Seats and the first words of their table: what is so between two steps, and of seats that are made, split and joined.
-- What is so of seats between two steps, and that they may be split and joined.
use Rattle.std.proofs.Common.{◌≡◌, ℕ, ◌<◌, Option, Some, None, sym, ap, subst, ◌∙◌, unwrap_or, ◌≤◌, List, [], refl, inl, inr, arith, zero, suc, ◌+◌, ◌*◌, ◌∷◌, ◌++◌, length, sum, slice_index, length-append}
use Rattle.atomic_table.specs.Table.{State, Splits, Joins}
use Rattle.hash_core.specs.declared.shape.Shape.{Shape}
use Rattle.hash_core.specs.declared.view.View.{View}
use Rattle.hash_core.specs.Rule.{Rule, HasPlace as OwnsPlace, AnswersFor, IsShape}
use Rattle.hash_core.specs.Steps.{IsQuiet, NeedsSplit, fresh_hold, first_of, second_of, both_of, spent, section_of, hold_of, new_view}
use Rattle.atomic_table.proofs.Lists.{set_else}
use Rattle.hash_core.proofs.Splits.{law_split, law_join, starts, fresh_memory}
use Rattle.hash_core.specs.declared.view.SearchState.TheVariants.{Start}
use Rattle.hash_core.specs.declared.view.Section.{Section}
use Rattle.hash_core.specs.declared.view.Hold.{Hold}
use Rattle.hash_core.proofs.Keeping.{hold_is}
use Rattle.class_hash.specs.declared.rule.Nothing.{Nothing}
use Rattle.class_hash.specs.declared.seat.Bucket.{Bucket}
use Rattle.class_hash.specs.Seats.{HasPlace, IsInside, IsFresh, IsFreshSlot, class_words, first_link, next_link, first_seated, HasClasses, HasSlots, HasClassSlots}
use Rattle.class_hash.specs.Room.{IsHolding}
use Rattle.class_hash.specs.Answers.{IsInformed}
use Rattle.std.specs.Prelude.{replicate}
use Rattle.std.proofs.lemmas.List.{get_or_append_left, get_or-append-add, take_all}
use Rattle.std.proofs.lemmas.List.Sums.{sum_by-take-le, sum_by_more, sum_by_more_le}
use mathlib.Core.Logic.{dite}
use native.Mathlib.Decide.{ℕ_discrete}
use Rattle.hash_core.specs.declared.layout.TheConstants.{CLASS_BASE, SLOT_BASE, SLOT_WORDS}
use Rattle.hash_core.specs.declared.words.Field.TheVariants.{Front, Lock, Readers, Head, Free, Retired, Key, Value, Next, Chain}
use Rattle.hash_core.specs.Memory.{word_of, memory_of, capacity, base}
use Rattle.hash_core.specs.Laws.{IsFreshClass}
use Rattle.prcu_marks.specs.Marks.{most_tickets}

module _ (k : Shape) (id : ℕ) (v : View) where
  abbrev Keeps : State Nothing View → Type 0
  Keeps s = Rule k s.words s.views

  pub splits : (places tickets : ℕ) → NeedsSplit v places tickets
      → Splits Keeps id v (first_of places tickets v) (second_of places tickets v)
  splits places tickets needs s r at = record {
    marks = r.marks;
    long = r.long;
    holds = law_split (record { rule = r.holds; at = at }) places tickets needs;
  }

  pub joins : (other : ℕ) (w : View) → IsQuiet v → IsQuiet w → Joins Keeps id v other w (both_of v w) spent
  joins other w quiet empty s r at apart there = record {
    marks = r.marks;
    long = r.long;
    holds = law_join (record { rule = r.holds; at = at }) other w
        (sym (set_else s.views id other (both_of v w) apart) ∙ there) (λ e. apart (sym e)) quiet empty;
  }

-- the class that a seat remembers is that of the lock that it holds
pub held_class : (bucket : Bucket) (v : View) → IsHolding (Some bucket) v.hold → bucket.class ≡ (hold_of v).class
held_class bucket v holding = by v.hold holding
  where
    by : (held : Option Hold) → IsHolding (Some bucket) held → bucket.class ≡ (unwrap_or held (fresh_hold 0)).class
    by None is = absurd is
    by (Some hold) is = is.same

pub held_small : (v : View) → HasPlace v → (hold : Hold) → v.hold ≡ Some hold → (hold_of v).class < 64
held_small v place hold is = subst (λ (z : Hold). z.class < 64) (sym (hold_is v hold is)) (place.held hold is)

pub class_is : (v : View) {hold : Hold} {class : ℕ} → v.hold ≡ Some hold → class ≡ (hold_of v).class → class ≡ hold.class
class_is v {hold} is same = same ∙ ap (λ (z : Hold). z.class) (hold_is v hold is)

-- the key that it remembers is that of its open section
pub read_class : (key : ℕ) (v : View) → IsInside (Some key) v.section → key ≡ (section_of v).key
read_class key v is = by v.section is
  where
    by : (inside : Option Section) → IsInside (Some key) inside
        → key ≡ (unwrap_or inside (record { key = 0; count = 0; entered = 0; from = 0; state = Start; loaded = None })).key
    by None is = absurd is
    by (Some section) is = is

-- a quiet view holds no lock of a class that isn't
pub no_hold : (v : View) → v.hold ≡ None → (hold : Hold) → v.hold ≡ Some hold → hold.class < 64
no_hold v none hold is = absurd (let z : None ≡ Some hold = sym none ∙ is in cc)

pub both_place : (v w : View) → HasPlace v → HasPlace (both_of v w)
both_place v w place = record { works = place.works; few = place.few; held = place.held }

-- What is known of seats that are made and split.

-- a seat that has done nothing is informed
pub new_informed : (capacities : List ℕ) (places place own tickets : ℕ) → 1 ≤ own
    → IsInformed capacities places (new_view place own tickets [])
new_informed capacities places place own tickets some_place = record {
  works = some_place;
  heard = tt;
  legal = tt;
  marks = record { entered = λ j p c x e. absurd (cc); left = λ j p c e. absurd (cc); others = λ j m e. absurd (cc) };
  reuse = λ j s c i p o given. absurd (cc);
  met = λ p answers. refl;
  unused = λ p has far. refl;
  within = λ p far. refl;
}

module _ (capacities : List ℕ) (places : ℕ) (v : View) (away tickets : ℕ) (some_place : 1 ≤ away) (fewer : away < v.places)
    (informed : IsInformed capacities places v) where
  first_place : (p : ℕ) → OwnsPlace (first_of away tickets v) p → OwnsPlace v p
  first_place p has = let low = has.0 in let high = has.1 in (low, omega arith)

  first_answers : (p : ℕ) → AnswersFor (first_of away tickets v) p → AnswersFor v p
  first_answers p (inl has) = inl (first_place p has)
  first_answers p (inr joined) = inr joined

  second_place : (p : ℕ) → AnswersFor (second_of away tickets v) p → OwnsPlace v p × (v.place < p)
  second_place p (inl has) = let low = has.0 in let high = has.1 in let less = fewer in ((omega arith, omega arith), omega arith)
  second_place p (inr joined) = absurd (omega arith)

  -- where a seat is informed, so are the two that it is split into
  pub split_informed : IsInformed capacities places (first_of away tickets v) × IsInformed capacities places (second_of away tickets v)
  split_informed = (
    record {
      works = let less = fewer in omega arith;
      heard = informed.heard;
      legal = informed.legal;
      marks = informed.marks;
      reuse = informed.reuse;
      met = λ p answers. informed.met p (first_answers p answers);
      unused = λ p has far. informed.unused p (first_place p has) far;
      within = informed.within;
    },
    record {
      works = some_place;
      heard = tt;
      legal = informed.legal;
      marks = informed.marks;
      reuse = informed.reuse;
      met = λ p answers. let s = second_place p answers in
          informed.met p (inl s.0) ∙ informed.unused p s.0 (λ e. let more = s.1 in omega arith);
      unused = λ p has far. refl;
      within = informed.within;
    },
  )

-- The first words of a table.

pub base_le : (capacities : List ℕ) (c : ℕ) → base capacities c ≤ sum capacities
base_le capacities c = sum_by-take-le (λ (n : ℕ). n) capacities c

pub base_more : (capacities : List ℕ) (c : ℕ) → c < length capacities → base capacities (c + 1) ≡ base capacities c + capacity capacities c
base_more capacities c small = sum_by_more (λ (n : ℕ). n) capacities c 0 small

pub base_room : (capacities : List ℕ) (c : ℕ) → c < length capacities → base capacities c + capacity capacities c ≤ sum capacities
base_room capacities c small = sum_by_more_le (λ (n : ℕ). n) capacities c 0 small

pub base_all : (capacities : List ℕ) (c : ℕ) → length capacities ≤ c → base capacities c ≡ sum capacities
base_all capacities c all = ap sum (take_all c capacities all)

new_word : (ws xs : List ℕ) (j i : ℕ) → i ≡ length ws + j → slice_index (ws ++ xs) i ≡ slice_index xs j
new_word ws xs j i e = ap (slice_index (ws ++ xs)) e ∙ get_or-append-add ws xs j 0

old_word : (ws xs : List ℕ) (i : ℕ) → i < length ws → slice_index (ws ++ xs) i ≡ slice_index ws i
old_word ws xs i below = get_or_append_left ws xs 0 i below

-- a class's words stay
class_kept : (ws ws' : List ℕ) (c first : ℕ) → ((i : ℕ) → i < length ws → slice_index ws' i ≡ slice_index ws i)
    → word_of (Retired c) < length ws → IsFreshClass ws c first → IsFreshClass ws' c first
class_kept ws ws' c first kept below was = record {
  lock = kept (word_of (Lock c)) (omega arith) ∙ was.lock;
  readers = kept (word_of (Readers c)) (omega arith) ∙ was.readers;
  head = kept (word_of (Head c)) (omega arith) ∙ was.head;
  free = kept (word_of (Free c)) (omega arith) ∙ was.free;
  retired = kept (word_of (Retired c)) (omega arith) ∙ was.retired;
}

slot_kept : (ws ws' : List ℕ) (s chain : ℕ) → ((i : ℕ) → i < length ws → slice_index ws' i ≡ slice_index ws i)
    → word_of (Chain s) < length ws → IsFreshSlot ws s chain → IsFreshSlot ws' s chain
slot_kept ws ws' s chain kept below was = record {
  key = kept (word_of (Key s)) (omega arith) ∙ was.key;
  value = kept (word_of (Value s)) (omega arith) ∙ was.value;
  next = kept (word_of (Next s)) (omega arith) ∙ was.next;
  chain_is = kept (word_of (Chain s)) (omega arith) ∙ was.chain_is;
}

pub front_first : (capacities ws : List ℕ) → ws ≡ replicate CLASS_BASE 0 → HasClasses capacities 0 ws
front_first capacities ws is = record {
  long = ap length is;
  front = ap (λ l. slice_index l (word_of Front)) is;
  classes = λ c small. absurd (omega arith);
}

pub class_added : (capacities : List ℕ) (n free : ℕ) (ws ws' : List ℕ) → free ≡ first_link (base capacities n) (capacity capacities n)
    → ws' ≡ ws ++ class_words free → HasClasses capacities n ws → HasClasses capacities (n + 1) ws'
class_added capacities n free ws ws' is_free is was = subst (HasClasses capacities (n + 1)) (sym is) (record {
  long = (let a = length-append ws (class_words free) in let b = was.long in omega arith);
  front = (let b = was.long in old_word ws more (word_of Front) (omega arith)) ∙ was.front;
  classes = λ c small. dite (ℕ_discrete c n)
      (λ e. subst (λ z. IsFreshClass (ws ++ more) z (first_link (base capacities z) (capacity capacities z))) (sym e) here)
      (λ ne. let b = was.long in class_kept ws (ws ++ more) c _ (old_word ws more) (omega arith) (was.classes c (omega arith)));
})
  where
    more : List ℕ
    more = class_words free

    here : IsFreshClass (ws ++ class_words free) n (first_link (base capacities n) (capacity capacities n))
    here = let b = was.long in record {
      lock = new_word ws more 0 (word_of (Lock n)) (omega arith);
      readers = new_word ws more 1 (word_of (Readers n)) (omega arith);
      head = new_word ws more 2 (word_of (Head n)) (omega arith);
      free = new_word ws more 3 (word_of (Free n)) (omega arith) ∙ is_free;
      retired = new_word ws more 4 (word_of (Retired n)) (omega arith);
    }

pub no_slots : (before room : ℕ) (ws : List ℕ) → HasSlots before room 0 ws ws
no_slots before room ws = record { grown = record { long = omega arith; kept = λ i below. refl }; slots = λ i small. absurd (omega arith) }

pub slot_added : (before room n chain : ℕ) (old ws ws' : List ℕ) → length old ≡ SLOT_BASE + SLOT_WORDS * (before + 1)
    → chain ≡ next_link before room n → ws' ≡ ws ++ 0 ∷ 0 ∷ 0 ∷ chain ∷ [] → HasSlots before room n old ws
    → HasSlots before room (n + 1) old ws'
slot_added before room n chain old ws ws' long is_chain is was = subst (HasSlots before room (n + 1) old) (sym is) (record {
  grown = record {
    long = (let a = length-append ws (0 ∷ 0 ∷ 0 ∷ chain ∷ []) in let b = was.grown.long in omega arith);
    kept = λ i below. (let b = was.grown.long in old_word ws more i (omega arith)) ∙ was.grown.kept i below;
  };
  slots = λ i small. dite (ℕ_discrete i n)
      (λ e. subst (λ z. IsFreshSlot (ws ++ more) (before + z + 1) (next_link before room z)) (sym e) here)
      (λ ne. let b = was.grown.long in slot_kept ws (ws ++ more) (before + i + 1) _ (old_word ws more) (omega arith)
      (was.slots i (omega arith)));
})
  where
    more : List ℕ
    more = 0 ∷ 0 ∷ 0 ∷ chain ∷ []

    here : IsFreshSlot (ws ++ 0 ∷ 0 ∷ 0 ∷ chain ∷ []) (before + n + 1) (next_link before room n)
    here = let b = was.grown.long in record {
      key = new_word ws more 0 (word_of (Key (before + n + 1))) (omega arith);
      value = new_word ws more 1 (word_of (Value (before + n + 1))) (omega arith);
      next = new_word ws more 2 (word_of (Next (before + n + 1))) (omega arith);
      chain_is = new_word ws more 3 (word_of (Chain (before + n + 1))) (omega arith) ∙ is_chain;
    }

pub no_class_slots : (capacities ws : List ℕ) → HasClassSlots capacities 0 ws ws
no_class_slots capacities ws = record {
  grown = record { long = omega arith; kept = λ i below. refl };
  slots = λ c i small. absurd (omega arith);
}

pub class_slots_added : (capacities : List ℕ) (n : ℕ) (old ws ws' : List ℕ) → length old ≡ SLOT_BASE + SLOT_WORDS
    → n < length capacities → HasSlots (base capacities n) (capacity capacities n) (capacity capacities n) ws ws'
    → HasClassSlots capacities n old ws → HasClassSlots capacities (n + 1) old ws'
class_slots_added capacities n old ws ws' long small added was =
    let more = base_more capacities n small in
    let a = added.grown.long in
    let b = was.grown.long in
    record {
      grown = record { long = omega arith; kept = λ i below. added.grown.kept i (omega arith) ∙ was.grown.kept i below };
      slots = λ c i before room. dite (ℕ_discrete c n)
          (λ e. subst (λ z. IsFreshSlot ws' (base capacities z + i + 1) (next_link (base capacities z) (capacity capacities z) i)) (sym e)
          (added.slots i (subst (λ z. i < capacity capacities z) e room)))
          (λ ne.
          let up = upto c n (omega arith) small in
          slot_kept ws ws' (base capacities c + i + 1) _ added.grown.kept (omega arith) (was.slots c i (omega arith) room));
    }
  where
    upto : (c n : ℕ) → c < n → n < length capacities → base capacities c + capacity capacities c ≤ base capacities n
    upto c zero less small = absurd (omega arith)
    upto c (suc n) less small =
        let e : suc n ≡ n + 1 = omega arith in
        let more : base capacities (suc n) ≡ base capacities n + capacity capacities n =
        ap (base capacities) e ∙ base_more capacities n (omega arith) in
        dite (ℕ_discrete c n)
        (λ same. let p : base capacities c + capacity capacities c ≡ base capacities n + capacity capacities n =
        ap (λ z. base capacities z + capacity capacities z) same in omega arith)
        (λ ne. let up = upto c n (omega arith) (omega arith) in omega arith)

pub all_fresh : (capacities ws ws' : List ℕ) → length capacities ≡ 64 → HasClasses capacities (length capacities) ws
    → HasClassSlots capacities (length capacities) ws ws' → IsFresh capacities ws'
all_fresh capacities ws ws' all classes slots =
    let whole = base_all capacities (length capacities) (omega arith) in
    let a = classes.long in
    let b = slots.grown.long in
    record {
      long = omega arith;
      front = slots.grown.kept (word_of Front) (omega arith) ∙ classes.front;
      classes = λ c small. class_kept ws ws' c _ slots.grown.kept (omega arith) (classes.classes c (omega arith));
      slots = λ c i small room. slots.slots c i (omega arith) room;
    }

-- The rule holds of the first words.
pub rule_starts : (k : Shape) (cs ws : List ℕ) → k.capacities.items ≡ cs → length cs ≡ 64 → sum cs ≤ 2097152
    → (1 ≤ k.places) × (k.places ≤ 64) → k.tickets ≤ most_tickets → IsFresh cs ws → Rule k ws (first_seated k ∷ [])
rule_starts k cs ws same classes slots places tickets fresh =
    let shape : IsShape k.capacities.items k.places k.tickets =
    subst (λ z. IsShape z k.places k.tickets) (sym same)
    (record { classes = classes; slots = slots; some_place = places.0; few_places = places.1; few_tickets = tickets }) in
    let all : IsFresh k.capacities.items ws = subst (λ z. IsFresh z ws) (sym same) fresh in
    record {
      marks = [];
      long = all.long;
      holds = starts k.capacities.items k.places k.tickets shape (memory_of k.capacities.items ws)
          (fresh_memory k.capacities.items ws all.front all.classes (λ c i small room. (all.slots c i small room).chain_is));
    }
