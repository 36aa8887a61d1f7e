-- What the rule gives, and that each kind of step and each act keeps it.
-- What the rule gives of chains, slots, readers and searches.
use Rattle.std.proofs.Common.{◌≡◌, ◌⊎◌, ℕ, ◌%◌, ◌<◌, ◌≤◌, true, List, ◌++◌, Option, Some, None, refl, sym, ap, subst, ◌∙◌, inl, inr, arith, ◌≢◌, zero, suc, ◌+◌, ◌==◌, nat_lt, nat_le, ◌&&◌, Bool, false, cond, [], ◌∷◌, length, is_some, length-append, option_to_list, rules, ◌-◌, set, eq-eqb, ne_eqb, append-nil, unwrap_or}
use mathlib.Core.Logic.{dite}
use native.Mathlib.Decide.{dec_le, ℕ_discrete}
use Rattle.prcu_marks.specs.declared.mark.Mark.{Mark}
use Rattle.prcu_model.specs.Dictionary.{map_of, WasSaid}
use Rattle.prcu_marks.specs.Marks.{updates_of, gone_at, IsGone}
use Rattle.prcu_marks.proofs.Callers.{said_now}
use Rattle.hash_core.specs.declared.words.Field.TheVariants.{Value, Next, Free, Retired, Key, Chain, Front, Lock, Readers, Head}
use Rattle.hash_core.specs.declared.view.SearchState.{SearchState}
use Rattle.hash_core.specs.declared.view.SearchState.TheVariants.{Start, Unread, Passed, Found, Ended}
use Rattle.hash_core.specs.declared.view.Section.{Section}
use Rattle.hash_core.specs.declared.view.View.{View}
use Rattle.list_laws.specs.Counts.{times}
use Rattle.hash_core.specs.Memory.{Memory, is_slot_of, IsPath, capacity, base, same_field, stored}
use Rattle.hash_core.specs.Steps.{StandsAt, known_in, fresh_hold, after_leave, after_search_load, after_unlock, after_readers_load, after_held_load, after_take, after_move, after_refill, after_push, after_chain, after_write, after_link, after_unlink, after_replace, after_even, IsFieldOf, NeedsWrite, LinksTo, IsOnWalk, section_of, hold_of, commit_of, noted, Needs, said, left, done, field_of, marks_of}
use Rattle.hash_core.specs.Rule.{seek, IsHeldBack, HasWay, WillAnswer, BucketRule, MemoryRule, HaveDistinctKeys, link_of, taken_of}
use Rattle.hash_core.specs.Laws.{ChainsAreMap, SlotsHaveOneRole, ReadersAreCounted, FrontCounts, IsOpenIn, Answers, value_at, SearchesAreAnswered, IsLinked, SearchesStand, MarksAreInOrder, SlotsAreReused, HasPairs, KeepsPast, IsKept, ActsKeep, SplitsKeep, JoinsKeep, FreshHolds, Run, begins, steps, splits, joins, RunsHold, TableState}
use Rattle.list_laws.proofs.Lists.{all_times, all_from_times, times_here, times_append, at_most_one, times_other, at_below, set_twice}
use Rattle.hash_core.proofs.Frames.{chain_slot, same_is}
use Rattle.hash_core.proofs.SlotLists.{path_cons, seek_here, seek_past, path_none, cut_at}
use Rattle.std.proofs.lemmas.Bool.{lt-ltb, le-leb, le-ltb, lt-leb}
use Rattle.std.specs.List.{AllByRecursion}
use Rattle.hash_core.specs.declared.view.Hold.{Hold}
use Rattle.hash_core.proofs.Stocks.{rule, is_known, roles_by, moved_by, had, law_take, law_refill, law_move, law_push, law_chain, law_write}
use Rattle.atomic_table.proofs.Lists.{set_here, set_again}
use Rattle.prcu_marks.specs.declared.commit.Commit.{Commit}
use Rattle.prcu_marks.specs.declared.mark.Mark.TheVariants.{Left as LeftMark, Given}
use Rattle.hash_core.specs.declared.act.Act.{Act}
use Rattle.hash_core.specs.declared.words.Field.{Field}
use Rattle.hash_core.proofs.SeatFrames.{Seated, law_stepped}
use Rattle.hash_core.proofs.Sections.{law_enter, law_leave, law_search_load}
use Rattle.hash_core.proofs.Locks.{law_lock, law_unlock, law_readers_load, law_held_load, law_commit, law_even}
use Rattle.hash_core.proofs.Links.{on_chain, law_link, law_replace}
use Rattle.hash_core.proofs.Unlinks.{law_unlink}
use Rattle.hash_core.proofs.Splits.{law_split, law_join, starts}
use Rattle.std.specs.FinMap as finite
use Rattle.hash_core.specs.declared.act.Act.TheVariants as act

pub chains_are_map : ChainsAreMap
chains_are_map t c small =
    let bucket = t.rule.bucket c in
    let b = t.rule.buckets c small in
    record {
      chain = bucket.chain;
      chained = b.chained;
      slots = all_from_times (λ s. is_slot_of t.capacities c s ≡ true) bucket.chain (chain_slot b.roles);
      once = λ s. let a = b.roles.once s in let l = at_most_one (is_slot_of t.capacities c s) _ a in omega arith;
      mapped = b.mapped;
    }

pub slots_have_one_role : SlotsHaveOneRole
slots_have_one_role t c small =
    let b = t.rule.buckets c small in
    record { bucket = t.rule.bucket c; path = b.chained.path; listed = b.listed; holder = b.locked; roles = b.roles }

pub readers_are_counted : ReadersAreCounted
readers_are_counted t c small = (t.rule.buckets c small).counted.readers

pub front_counts : FrontCounts
front_counts t = t.rule.turned

pub marks_are_in_order : MarksAreInOrder
marks_are_in_order t = t.rule.marks

pub slots_are_reused : SlotsAreReused
slots_are_reused t = t.rule.reuse

module _ {capacities : List ℕ} {places tickets : ℕ} {m : Memory} {vs : List View} {h : List Mark}
    (r : MemoryRule capacities places tickets m vs h) (section : Section) (opened : IsOpenIn vs section) where
  c : ℕ
  c = section.key % 64

  small : section.key % 64 < 64
  small = omega arith

  bucket_rule : BucketRule capacities (section.key % 64) m h (updates_of h) vs (r.bucket (section.key % 64))
  bucket_rule = r.buckets (section.key % 64) small

  will : WillAnswer capacities (section.key % 64) m h (updates_of h) (r.bucket (section.key % 64)).chain section section.state
  will = bucket_rule.answered.readers opened.id opened.view section opened.there opened.has refl

  abbrev Way : ℕ → Type 0
  Way slot = HasWay capacities (section.key % 64) m h (updates_of h) (r.bucket (section.key % 64)).chain section slot

  abbrev IsAnswered : SearchState → Type 0
  IsAnswered state = (answer : Option ℕ) × Answers m section state answer × WasSaid (updates_of h) section.key section.from answer

  answered : (state : SearchState) → WillAnswer capacities (section.key % 64) m h (updates_of h)
      (r.bucket (section.key % 64)).chain section state → IsAnswered state
  answered Start w = (
    finite.get (map_of (updates_of h)) section.key,
    record {
      path = (r.bucket (section.key % 64)).chain;
      leads = bucket_rule.chained.path;
      found = sym (bucket_rule.mapped.answers section.key refl);
    },
    said_now (updates_of h) section.key section.from (r.sections.open_here opened.id opened.view section opened.there opened.has).since,
  )
  answered (Unread s) w = (seek m section.key (w.olds ++ w.rest), record { path = w.olds ++ w.rest; leads = w.path; found = refl }, w.said)
  answered (Passed s) w =
      let way = w.0 in
      let first = path_cons (λ t. m (Next t)) s (way.olds ++ way.rest) way.some way.path in
      let past : seek m section.key (way.olds ++ way.rest) ≡ seek m section.key first.0 =
      ap (seek m section.key) first.1 ∙ seek_past m section.key s first.0 w.1 in (
        seek m section.key first.0,
        record { path = first.0; leads = first.2; found = refl },
        subst (WasSaid (updates_of h) section.key section.from) past way.said,
      )
  answered (Found s) w = found_case section.loaded refl
    where
      here : seek m section.key (w.0.olds ++ w.0.rest) ≡ Some (m (Value s))
      here =
          let first = path_cons (λ t. m (Next t)) s (w.0.olds ++ w.0.rest) w.0.some w.0.path in
          ap (seek m section.key) first.1 ∙ seek_here m section.key s first.0 w.1

      found_case : (loaded : Option ℕ) → section.loaded ≡ loaded → IsAnswered (Found s)
      found_case None is = (
        Some (m (Value s)),
        ap (λ z. Some (value_at m s z)) (sym is),
        subst (WasSaid (updates_of h) section.key section.from) here w.0.said,
      )
      found_case (Some value) is = (
        Some value,
        ap (λ z. Some (value_at m s z)) (sym is),
        bucket_rule.answered.loaded opened.id opened.view section value opened.there opened.has refl is,
      )
  answered Ended w = (None, refl, w)

  -- the first slot of a way is held back, or linked
  way_stands : (slot : ℕ) → Way slot → (is_slot_of capacities (section.key % 64) slot ≡ true)
      × (IsLinked m (section.key % 64) slot ⊎ IsHeldBack h section slot)
  way_stands slot way =
      let chain : List ℕ = (r.bucket (section.key % 64)).chain in
      let first = path_cons (λ t. m (Next t)) slot (way.olds ++ way.rest) way.some way.path in
      let there : 1 ≤ times slot (way.olds ++ way.rest) =
      (let t = times_here slot first.0 in let e = ap (times slot) first.1 in omega arith) in
      let sum = times_append slot way.olds way.rest in
      dite (dec_le 1 (times slot way.olds))
      (λ in_olds. (
        all_times (λ t. is_slot_of capacities (section.key % 64) t ≡ true) way.olds slot way.slots in_olds,
        inr (all_times (IsHeldBack h section) way.olds slot way.held in_olds),
      ))
      (λ not_olds.
      let cut = times_append slot way.front way.rest in
      let whole = ap (times slot) way.joins in
      let linked : 1 ≤ times slot chain = omega arith in (
        chain_slot bucket_rule.roles slot linked,
        inl (record { chain = chain; path = bucket_rule.chained.path; there = linked }),
      ))

  stands : (state : SearchState) → WillAnswer capacities (section.key % 64) m h (updates_of h)
      (r.bucket (section.key % 64)).chain section state → (slot : ℕ) → StandsAt state slot
      → (is_slot_of capacities (section.key % 64) slot ≡ true) × (IsLinked m (section.key % 64) slot ⊎ IsHeldBack h section slot)
  stands (Unread s) w slot at = way_stands slot (subst Way at w)
  stands (Passed s) w slot at = way_stands slot (subst Way at w.0)
  stands (Found s) w slot at = way_stands slot (subst Way at w.0)
  stands _ w slot at = absurd at

pub searches_are_answered : SearchesAreAnswered
searches_are_answered t section opened = answered t.rule section opened section.state (will t.rule section opened)

pub searches_stand : SearchesStand
searches_stand t section opened slot at = stands t.rule section opened section.state (will t.rule section opened) slot at

-- Where a class has no free slot and no retired one, and its holder has none in hand, it has as many pairs as slots.

nothing_counted : (xs : List ℕ) → ((x : ℕ) → times x xs ≡ 0) → xs ≡ []
nothing_counted [] none = refl
nothing_counted (x ∷ xs) none = absurd (let a = none x in let b = times_here x xs in omega arith)

-- a list that has each number from one after `first` to n after it once, and no other, is n long
pub counted_length : (first n : ℕ) (xs : List ℕ) → ((x : ℕ) → first < x → x ≤ first + n → times x xs ≡ 1)
    → ((x : ℕ) → x ≤ first → times x xs ≡ 0) → ((x : ℕ) → first + n < x → times x xs ≡ 0) → length xs ≡ n
counted_length first zero xs inside below above =
    ap length (nothing_counted xs (λ x. dite (dec_le x first) (λ le. below x le) (λ gt. above x (omega arith))))
counted_length first (suc n) xs inside below above =
    let last : ℕ = first + suc n in
    let c = cut_at last xs (let a = inside last (omega arith) (omega arith) in omega arith) in
    let rest : List ℕ = c.0 ++ c.1 in
    let split : (x : ℕ) → times x xs ≡ times x (c.0 ++ c.1) + times x (last ∷ []) = λ x.
    let a = ap (times x) c.2 in
    let b = times_append x c.0 (last ∷ c.1) in
    let d = times_append x c.0 c.1 in
    let e : times x (last ∷ c.1) ≡ times x (last ∷ []) + times x c.1 =
    (let f : times x (last ∷ c.1) ≡ cond (last == x) 1 0 + times x c.1 = refl in
    let g : times x (last ∷ []) ≡ cond (last == x) 1 0 + 0 = refl in omega arith) in omega arith in
    let other : (x : ℕ) → x ≢ last → times x (c.0 ++ c.1) ≡ times x xs = λ x ne. let a = split x in
    let b = times_other x last [] (λ e. ne (sym e)) in let d : times x [] ≡ 0 = refl in omega arith in
    let here : times last (c.0 ++ c.1) ≡ 0 = (let a = split last in let b = times_here last [] in
    let d = inside last (omega arith) (omega arith) in let e : times last [] ≡ 0 = refl in omega arith) in
    let shorter : length (c.0 ++ c.1) ≡ n = counted_length first n (c.0 ++ c.1)
    (λ x lo hi. other x (λ e. absurd (omega arith)) ∙ inside x lo (omega arith))
    (λ x lo. other x (λ e. absurd (omega arith)) ∙ below x lo)
    (λ x hi. dite (ℕ_discrete x last) (λ e. ap (λ z. times z (c.0 ++ c.1)) e ∙ here) (λ ne. other x ne ∙ above x (omega arith))) in
    let long = ap length c.2 ∙ length-append c.0 (last ∷ c.1) in
    let l = length-append c.0 c.1 in omega arith

abbrev keys_on : Memory → List ℕ → List ℕ
keys_on m [] = []
keys_on m (s ∷ ss) = m (Key s) ∷ keys_on m ss

keys_length : (m : Memory) (ss : List ℕ) → length (keys_on m ss) ≡ length ss
keys_length m [] = refl
keys_length m (s ∷ ss) = ap suc (keys_length m ss)

keys_class : (m : Memory) (c : ℕ) (ss : List ℕ) → AllByRecursion (λ s. m (Key s) % 64 ≡ c) ss
    → AllByRecursion (λ key. key % 64 ≡ c) (keys_on m ss)
keys_class m c [] all = tt
keys_class m c (s ∷ ss) all = (all.0, keys_class m c ss all.1)

-- a key is found just where a slot has it
not_found : (m : Memory) (key : ℕ) (ss : List ℕ) → seek m key ss ≡ None → times key (keys_on m ss) ≡ 0
not_found m key [] none = refl
not_found m key (s ∷ ss) none = dite (ℕ_discrete (m (Key s)) key)
    (λ e. absurd (let z : Some (m (Value s)) ≡ None = sym (seek_here m key s ss e) ∙ none in cc))
    (λ ne. times_other key (m (Key s)) (keys_on m ss) ne ∙ not_found m key ss (sym (seek_past m key s ss ne) ∙ none))

found_there : (m : Memory) (key : ℕ) (ss : List ℕ) → 1 ≤ times key (keys_on m ss) → is_some (seek m key ss) ≡ true
found_there m key [] there = absurd (let z : times key [] ≡ 0 = refl in omega arith)
found_there m key (s ∷ ss) there = dite (ℕ_discrete (m (Key s)) key) (λ e. ap is_some (seek_here m key s ss e))
    (λ ne. ap is_some (seek_past m key s ss ne) ∙ found_there m key ss
    (let t = times_other key (m (Key s)) (keys_on m ss) ne in omega arith))

there_found : (m : Memory) (key : ℕ) (ss : List ℕ) → is_some (seek m key ss) ≡ true → 1 ≤ times key (keys_on m ss)
there_found m key ss is = dite (dec_le 1 (times key (keys_on m ss))) (λ there. there)
    (λ not. absurd (by (omega arith) (seek m key ss) refl))
  where
    by : times key (keys_on m ss) ≡ 0 → (found : Option ℕ) → seek m key ss ≡ found → ⊥
    by none None e = absurd (let z : false ≡ true = ap is_some (sym e) ∙ is in cc)
    by none (Some value) e = not_missing ss none value e
      where
        not_missing : (xs : List ℕ) → times key (keys_on m xs) ≡ 0 → (value : ℕ) → seek m key xs ≡ Some value → ⊥
        not_missing [] zero_times value e = cc
        not_missing (x ∷ xs) zero_times value e = dite (ℕ_discrete (m (Key x)) key)
            (λ q. let t : times key (m (Key x) ∷ keys_on m xs) ≡ 1 + times key (keys_on m xs) =
            subst (λ z. times z (m (Key x) ∷ keys_on m xs) ≡ 1 + times z (keys_on m xs)) q (times_here (m (Key x)) (keys_on m xs)) in
            absurd (omega arith))
            (λ ne. let t = times_other key (m (Key x)) (keys_on m xs) ne in
            not_missing xs (omega arith) value (sym (seek_past m key x xs ne) ∙ e))

and_false : (t : Bool) → (t && false) ≡ false
and_false true = refl
and_false false = refl

keys_once : (m : Memory) (ss : List ℕ) → HaveDistinctKeys m ss → (key : ℕ) → times key (keys_on m ss) ≤ 1
keys_once m [] d key = let z : times key [] ≡ 0 = refl in omega arith
keys_once m (s ∷ ss) d key = dite (ℕ_discrete (m (Key s)) key)
    (λ e. let none : times (m (Key s)) (keys_on m ss) ≡ 0 = not_found m (m (Key s)) ss d.0 in
    let t : times key (m (Key s) ∷ keys_on m ss) ≡ 1 + times key (keys_on m ss) =
    subst (λ z. times z (m (Key s) ∷ keys_on m ss) ≡ 1 + times z (keys_on m ss)) e (times_here (m (Key s)) (keys_on m ss)) in
    let n : times key (keys_on m ss) ≡ 0 = ap (λ z. times z (keys_on m ss)) (sym e) ∙ none in omega arith)
    (λ ne. let t = times_other key (m (Key s)) (keys_on m ss) ne in let r = keys_once m ss d.1 key in omega arith)

module _ {capacities : List ℕ} {places tickets : ℕ} {m : Memory} {vs : List View} {h : List Mark} {id : ℕ} {v : View}
    (seat : Seated capacities places tickets m vs h id v) {hold : Hold} (mine : v.hold ≡ Some hold) where
  -- the holder has nothing in hand, and both lists are empty
  pub full_class : known_in hold.known (Free hold.class) ≡ Some 0 → m (Retired hold.class) ≡ 0 → hold.taken ≡ None → hold.unlinked ≡ None
      → hold.moved ≡ None → HasPairs hold.class (map_of (updates_of h)) (capacity capacities hold.class)
  full_class free_is retired_is no_taken no_unlinked no_moved =
      let b : BucketRule capacities hold.class m h (updates_of h) vs (seat.rule.bucket hold.class) =
      rule seat mine in
      let chain : List ℕ = (seat.rule.bucket hold.class).chain in
      let no_free : (seat.rule.bucket hold.class).free ≡ [] =
      path_none (λ s. m (Chain s)) (seat.rule.bucket hold.class).free
      (subst (λ z. IsPath (λ s. m (Chain s)) z (seat.rule.bucket hold.class).free)
      (is_known seat mine (Free hold.class) 0 free_is).1 b.listed.free) in
      let no_retired : (seat.rule.bucket hold.class).retired ≡ [] =
      path_none (λ s. m (Chain s)) (seat.rule.bucket hold.class).retired
      (subst (λ z. IsPath (λ s. m (Chain s)) z (seat.rule.bucket hold.class).retired) retired_is b.listed.retired) in
      let none_moved : (seat.rule.bucket hold.class).moved ≡ [] =
      path_none (λ s. m (Chain s)) (seat.rule.bucket hold.class).moved
      (subst (λ z. IsPath (λ s. m (Chain s)) (link_of z) (seat.rule.bucket hold.class).moved) no_moved (moved_by seat mine)) in
      let once : (x : ℕ) → times x (seat.rule.bucket hold.class).chain ≡ cond (is_slot_of capacities hold.class x) 1 0 = λ x.
      let a = roles_by seat mine x in
      let free = ap (times x) no_free in let retired = ap (times x) no_retired in let moved = ap (times x) none_moved in
      let taken = ap (λ o. times x (option_to_list o)) no_taken in
      let unlinked = ap (λ o. times x (option_to_list o)) no_unlinked in
      let z : times x [] ≡ 0 = refl in omega arith in
      let first : ℕ = base capacities hold.class in
      let n : ℕ = capacity capacities hold.class in
      let is_in : (x : ℕ) → base capacities hold.class < x → x ≤ base capacities hold.class + capacity capacities hold.class
      → is_slot_of capacities hold.class x ≡ true =
      λ x lo hi. ap (λ t. t && nat_le x (base capacities hold.class + capacity capacities hold.class))
      (lt-ltb (base capacities hold.class) x lo) ∙ le-leb x (base capacities hold.class + capacity capacities hold.class) hi in
      record {
        keys = keys_on m (seat.rule.bucket hold.class).chain;
        as_many = keys_length m (seat.rule.bucket hold.class).chain
            ∙ counted_length (base capacities hold.class) (capacity capacities hold.class) (seat.rule.bucket hold.class).chain
            (λ x lo hi. once x ∙ ap (λ t. cond t 1 0) (is_in x lo hi))
            (λ x le. once x ∙ ap (λ t. cond t 1 0) (outside_below (base capacities hold.class) (capacity capacities hold.class) x le))
            (λ x gt. once x ∙ ap (λ t. cond t 1 0) (outside_above (base capacities hold.class) (capacity capacities hold.class) x gt));
        once = keys_once m (seat.rule.bucket hold.class).chain b.chained.distinct;
        of_class = keys_class m hold.class (seat.rule.bucket hold.class).chain b.chained.classes;
        there = λ key class. (
          (λ is. there_found m key (seat.rule.bucket hold.class).chain (ap is_some (sym (b.mapped.answers key class)) ∙ is)),
          (λ is. ap is_some (b.mapped.answers key class) ∙ found_there m key (seat.rule.bucket hold.class).chain is),
        );
      }
    where
      outside_below : (first n x : ℕ) → x ≤ first → (nat_lt first x && nat_le x (first + n)) ≡ false
      outside_below first n x le = ap (λ t. t && nat_le x (first + n)) (le-ltb first x le)

      outside_above : (first n x : ℕ) → first + n < x → (nat_lt first x && nat_le x (first + n)) ≡ false
      outside_above first n x gt = ap (λ t. nat_lt first x && t) (lt-leb x (first + n) gt) ∙ and_false (nat_lt first x)

-- Each act keeps the rule, and what an unlinked slot has.

-- What a view has open, where it has it open.
pub section_is : (v : View) (section : Section) → v.section ≡ Some section → section_of v ≡ section
section_is v section is = ap (λ o. unwrap_or o (record { key = 0; count = 0; entered = 0; from = 0; state = Start; loaded = None })) is

pub hold_is : (v : View) (hold : Hold) → v.hold ≡ Some hold → hold_of v ≡ hold
hold_is v hold is = ap (λ o. unwrap_or o (fresh_hold 0)) is

commit_is : (v : View) (commit : Commit) → v.commit ≡ Some commit → commit_of v ≡ commit
commit_is v commit is = ap (λ o. unwrap_or o (record { found = 0; stored = false })) is

-- a store of what was found
stored_same : (m : Memory) (field : Field) → stored m field (m field) ≡ m
stored_same m field = λ i other. at other i
  where
    cases : (other : Field) (b : Bool) → same_field field other ≡ b → cond b (m field) (m other) ≡ m other
    cases other true e = ap m (same_is field other e)
    cases other false e = refl

    at : (other : Field) → cond (same_field field other) (m field) (m other) ≡ m other
    at other = cases other (same_field field other) refl

-- a store at a field that is none of an unlinked slot's
kept_by : {m : Memory} {h : List Mark} (field : Field) (n : ℕ) → ((s : ℕ) → IsGone h s → IsFieldOf s field → ⊥)
    → KeepsPast m h (stored m field n)
kept_by {m} {h} field n none = record { content = λ s other gone of. kept_case s other gone of (same_field field other) refl }
  where
    kept_case : (s : ℕ) (other : Field) → IsGone h s → IsFieldOf s other → (b : Bool) → same_field field other ≡ b
        → stored m field n other ≡ m other
    kept_case s other gone of true e = absurd (none s gone (subst (IsFieldOf s) (sym (same_is field other e)) of))
    kept_case s other gone of false e = ap (λ b. cond b n (m other)) e

-- two slots of one field are one
one_slot : (s t : ℕ) (field : Field) → IsFieldOf s field → IsFieldOf t field → s ≡ t
one_slot s t (Key u) a b = sym a ∙ b
one_slot s t (Value u) a b = sym a ∙ b
one_slot s t (Next u) a b = sym a ∙ b
one_slot s t _ a b = absurd a

-- a slot that wasn't unlinked isn't gone
not_gone : (h : List Mark) (s t : ℕ) → gone_at t h ≡ None → s ≡ t → IsGone h s → ⊥
not_gone h s t none e gone = let z : None ≡ Some gone.0 = sym none ∙ ap (λ y. gone_at y h) (sym e) ∙ gone.1 in absurd (cc)

abbrev pub state_of : {capacities : List ℕ} {places tickets : ℕ} {m : Memory} {vs : List View} {h : List Mark}
    → MemoryRule capacities places tickets m vs h → TableState
state_of {capacities} {places} {tickets} {m} {vs} {h} r = record {
  capacities = capacities;
  places = places;
  tickets = tickets;
  memory = m;
  views = vs;
  marks = h;
  rule = r;
}

module _ {capacities : List ℕ} {places tickets : ℕ} {m : Memory} {vs : List View} {h : List Mark} {id : ℕ} {v : View}
    (seat : Seated capacities places tickets m vs h id v) (works : 1 ≤ v.places) where
  abbrev Kept : Memory → View → List Mark → Type 0
  Kept to w marks = IsKept (state_of seat.rule) to (set vs id w) (h ++ marks)

  -- A law makes the step from any views of which this is one, with the step in its trail.
  abbrev Law : Act → Memory → View → List Mark → Type 0
  Law a to w h' = (us : List View) → Seated capacities places tickets m us h id (noted v a (said v a (m (field_of v a))))
      → MemoryRule capacities places tickets to (set us id w) h'

  marked : (a : Act) (to : Memory) (w : View) (marks : List Mark) → KeepsPast m h to → Law a to w (h ++ marks) → Kept to w marks
  marked a to w marks past law =
      let u : View = noted v a (said v a (m (field_of v a))) in record {
        rule = subst (λ z. MemoryRule capacities places tickets to z (h ++ marks)) (set_twice vs id u w)
            (law (set vs id u) (record {
              rule = law_stepped seat _ (field_of v a) (said v a (m (field_of v a)));
              at = set_here vs id u (at_below vs id v seat.at);
            }));
        past = past;
      }

  unmarked : (a : Act) (to : Memory) (w : View) → KeepsPast m h to → Law a to w h → Kept to w []
  unmarked a to w past law = marked a to w [] past (λ us now. subst (λ z. MemoryRule capacities places tickets to (set us id w) z)
      (sym (append-nil h)) (law us now))

  loaded : (a : Act) (field : Field) (w : View) → Law a m w h → Kept (stored m field (m field)) w []
  loaded a field w law = subst (λ z. Kept z w []) (sym (stored_same m field)) (unmarked a m w (record { content = λ s other gone of. refl }) law)

  quiet : (a : Act) (field : Field) → Kept (stored m field (m field)) (noted v a (said v a (m (field_of v a)))) []
  quiet a field = let u : View = noted v a (said v a (m (field_of v a))) in
      loaded a field u (λ us now. subst (λ z. MemoryRule capacities places tickets m z h) (sym (set_again us id u now.at)) now.rule)

  -- what holds of the hold that is there holds of the one that the act speaks of; and with the front that is odd by it
  held : (P : Hold → Type 0) (hold : Hold) → v.hold ≡ Some hold → P hold → P (hold_of v)
  held P hold is p = subst P (sym (hold_is v hold is)) p

  odd : (P : Hold → ℕ → Type 0) (hold : Hold) (even : ℕ) → v.hold ≡ Some hold
      → v.commit ≡ Some (record { found = even; stored = false }) → P hold even → P (hold_of v) (commit_of v).found
  odd P hold even is turn p = subst (λ (z : Hold × ℕ). P z.0 z.1)
      (λ i. (sym (hold_is v hold is) i, (sym (commit_is v (record { found = even; stored = false }) turn) i).found)) p

  -- the slot that is written is taken, so it isn't unlinked
  written : (hold : Hold) (slot : ℕ) (field : Field) → NeedsWrite v hold slot field → (s : ℕ) → IsGone h s → IsFieldOf s field → ⊥
  written hold slot field needs s gone of =
      let b = rule seat needs.hold_is in
      not_gone h s slot (b.ages.taken slot (ap taken_of (had seat needs.hold_is) ∙ needs.taken))
      (one_slot s slot field of needs.field_is) gone

  -- a slot on the known walk is linked, so it isn't unlinked
  walked : (hold : Hold) → v.hold ≡ Some hold → (slot : ℕ) → IsOnWalk hold slot → (s : ℕ) → s ≡ slot → IsGone h s → ⊥
  walked hold mine slot on s e gone =
      let b = rule seat mine in
      not_gone h s slot (all_times (λ t. gone_at t h ≡ None) (seat.rule.bucket hold.class).chain slot b.ages.chain
      (on_chain seat mine slot on)) e gone

  linked_at : (hold : Hold) → v.hold ≡ Some hold → (link : Field) → LinksTo hold link → (s : ℕ) → IsGone h s → IsFieldOf s link → ⊥
  linked_at hold mine (Head c) is s gone of = of
  linked_at hold mine (Next t) is s gone of = walked hold mine t is s (sym of) gone
  linked_at hold mine _ is s gone of = absurd is

  keeps : (a : Act) → Needs capacities v a
      → Kept (stored m (field_of v a) (left v a (m (field_of v a)))) (done v a h (m (field_of v a))) (marks_of v a)
  keeps act.LoadFront d = quiet act.LoadFront Front
  keeps (act.Enter key) d =
      let a : Act = act.Enter key in let f = Readers (key % 64) in let u : View = noted v a (m f) in
      marked a _ _ _ (kept_by f (m f + 1) (λ s gone of. of)) (λ us now. law_enter now key d.0 works d.1.0)
  keeps act.Leave d =
      let a : Act = act.Leave in let u : View = noted v a (m (field_of v a)) in let f = Readers (d.0.key % 64) in
      subst (λ (z : Section). Kept (stored m (Readers (z.key % 64)) (m (Readers (z.key % 64)) - 1)) (after_leave u z h)
      (LeftMark v.place z.count ∷ [])) (sym (section_is v d.0 d.1))
      (marked a _ _ _ (kept_by f (m f - 1) (λ s gone of. of)) (λ us now. law_leave now d.0 d.1))
  keeps (act.SearchLoad f) d =
      let a : Act = act.SearchLoad f in let u : View = noted v a (m f) in
      subst (λ (z : Section). Kept (stored m f (m f)) (after_search_load u z f (m f)) []) (sym (section_is v d.0 d.1))
      (loaded a f (after_search_load u d.0 f (m f)) (λ us now. law_search_load now d.0 d.1 f d.2))
  keeps (act.Lock c) d =
      let a : Act = act.Lock c in let n : ℕ = m (Lock c) in let u : View = noted v a n in
      let mine : View = record u { hold = Some (fresh_hold c) } in dite (ℕ_discrete n 0)
      (λ free. subst (λ b. Kept (stored m (Lock c) (cond b (v.place + 1) n)) (cond b mine u) []) (sym (eq-eqb n 0 free))
      (unmarked a _ _ (kept_by (Lock c) (v.place + 1) (λ s gone of. of)) (λ us now. law_lock now c d.0 d.1 works free)))
      (λ taken. subst (λ b. Kept (stored m (Lock c) (cond b (v.place + 1) n)) (cond b mine u) []) (sym (ne_eqb n 0 taken))
      (quiet a (Lock c)))
  keeps act.Unlock d =
      let a : Act = act.Unlock in let u : View = noted v a 0 in
      held (λ z. Kept (stored m (Lock z.class) 0) (after_unlock u) []) d.0 d.1.hold_is
      (unmarked a _ _ (kept_by (Lock d.0.class) 0 (λ s gone of. of)) (λ us now. law_unlock now d.0 (search rules)))
  keeps act.LoadReaders d =
      let a : Act = act.LoadReaders in let u : View = noted v a (m (field_of v a)) in
      let f = Readers d.0.class in let clear : View = record u { hold = Some (record d.0 { clear = true }) } in
      held (λ z. Kept (stored m (Readers z.class) (m (Readers z.class))) (after_readers_load u z (m (Readers z.class))) []) d.0 d.1
      (dite (ℕ_discrete (m f) 0)
      (λ none. subst (λ b. Kept (stored m f (m f)) (cond b clear u) []) (sym (eq-eqb (m f) 0 none))
      (loaded a f clear (λ us now. law_readers_load now d.0 d.1 none)))
      (λ some. subst (λ b. Kept (stored m f (m f)) (cond b clear u) []) (sym (ne_eqb (m f) 0 some)) (quiet a f)))
  keeps (act.LockedLoad f) d =
      let a : Act = act.LockedLoad f in let u : View = noted v a (m f) in
      held (λ z. Kept (stored m f (m f)) (after_held_load u z f (m f) h) []) d.0 d.1
      (loaded a f (after_held_load u d.0 f (m f) h) (λ us now. law_held_load now d.0 d.1 f d.2 (m f == 0)))
  keeps (act.TakeSlot slot next) d =
      let a : Act = act.TakeSlot slot next in let u : View = noted v a next in let f = Free d.0.class in
      held (λ z. Kept (stored m (Free z.class) next) (after_take u z slot next h) (Given slot ∷ [])) d.0 d.1.hold_is
      (marked a _ _ _ (kept_by f next (λ s gone of. of)) (λ us now. law_take now d.1.hold_is slot next (search rules)))
  keeps (act.TakeRetired slot) d =
      let a : Act = act.TakeRetired slot in let u : View = noted v a 0 in let f = Retired d.0.class in
      held (λ z. Kept (stored m (Retired z.class) 0) (after_move u z slot) []) d.0 d.1.hold_is
      (unmarked a _ _ (kept_by f 0 (λ s gone of. of)) (λ us now. law_move now d.1.hold_is slot (search rules)))
  keeps (act.FreeRetired slot) d =
      let a : Act = act.FreeRetired slot in let u : View = noted v a slot in let f = Free d.0.class in
      held (λ z. Kept (stored m (Free z.class) slot) (after_refill u z slot) []) d.0 d.1.hold_is
      (unmarked a _ _ (kept_by f slot (λ s gone of. of)) (λ us now. law_refill now d.1.hold_is slot (search rules)))
  keeps (act.StoreChain slot number) d =
      let a : Act = act.StoreChain slot number in let u : View = noted v a number in let f = Chain slot in
      held (λ z. Kept (stored m f number) (after_chain u z slot number) []) d.0 d.1.hold_is
      (unmarked a _ _ (kept_by f number (λ s gone of. of)) (λ us now. law_chain now d.1.hold_is slot number (search rules)))
  keeps (act.Retire slot) d =
      let a : Act = act.Retire slot in let u : View = noted v a slot in let f = Retired d.0.class in
      held (λ z. Kept (stored m (Retired z.class) slot) (after_push u z slot) []) d.0 d.2.hold_is
      (unmarked a _ _ (kept_by f slot (λ s gone of. of)) (λ us now. law_push now d.2.hold_is slot d.1 (search rules)))
  keeps (act.Fill f number) d =
      let a : Act = act.Fill f number in let u : View = noted v a number in
      held (λ z. Kept (stored m f number) (after_write u z f number) []) d.0 d.2.hold_is
      (unmarked a _ _ (kept_by f number (written d.0 d.1 f d.2)) (λ us now. law_write now d.2.hold_is d.1 f number (search rules)))
  keeps (act.OpenCommit even) d =
      let a : Act = act.OpenCommit even in let n : ℕ = m Front in let u : View = noted v a n in
      let mine : View = record u { commit = Some (record { found = even; stored = false }) } in dite (ℕ_discrete n even)
      (λ free. subst (λ b. Kept (stored m Front (cond b (even + 1) n)) (cond b mine u) []) (sym (eq-eqb n even free))
      (unmarked a _ _ (kept_by Front (even + 1) (λ s gone of. of)) (λ us now. law_commit now d.0 even d.1 free)))
      (λ taken. subst (λ b. Kept (stored m Front (cond b (even + 1) n)) (cond b mine u) []) (sym (ne_eqb n even taken)) (quiet a Front))
  keeps (act.LinkSlot slot key value) d =
      let a : Act = act.LinkSlot slot key value in let u : View = noted v a slot in let f = Head d.0.class in
      odd (λ z even. Kept (stored m (Head z.class) slot) (after_link u z even slot key value h) (marks_of v a))
      d.0 d.1 d.3.commit.hold_is d.3.commit.commit_is
      (marked a _ _ _ (kept_by f slot (λ s gone of. of)) (λ us now. law_link now d.3.commit.hold_is d.1 slot key value d.2 (search rules)))
  keeps (act.UnlinkSlot f slot key next) d =
      let a : Act = act.UnlinkSlot f slot key next in let u : View = noted v a next in
      odd (λ z even. Kept (stored m f next) (after_unlink u z even f slot key next h) (marks_of v a))
      d.0 d.1 d.2.commit.hold_is d.2.commit.commit_is
      (marked a _ _ _ (kept_by f next (linked_at d.0 d.2.commit.hold_is f d.2.link_is))
      (λ us now. law_unlink now d.2.commit.hold_is d.1 f slot key next (search rules)))
  keeps (act.ReplaceValue slot key value) d =
      let a : Act = act.ReplaceValue slot key value in let u : View = noted v a value in let f = Value slot in
      odd (λ z even. Kept (stored m f value) (after_replace u z even slot key value h) (marks_of v a))
      d.0 d.1 d.2.commit.hold_is d.2.commit.commit_is
      (marked a _ _ _ (kept_by f value (λ s gone of. walked d.0 d.2.commit.hold_is slot d.2.on_walk s (sym of) gone))
      (λ us now. law_replace now d.2.commit.hold_is d.1 slot key value (search rules)))
  keeps (act.CloseCommit front) d =
      let a : Act = act.CloseCommit front in let u : View = noted v a front in
      subst (λ z. Kept (stored m Front z) (after_even u) []) (sym d.2)
      (unmarked a _ _ (kept_by Front (d.0 + 2) (λ s gone of. of)) (λ us now. law_even now d.0 d.1))

pub acts_keep : ActsKeep
acts_keep t id v a at works needs = keeps (record { rule = t.rule; at = at }) works a needs

pub splits_keep : SplitsKeep
splits_keep t id away given v at needs = law_split (record { rule = t.rule; at = at }) away given needs

pub joins_keep : JoinsKeep
joins_keep t id other_id v other at there two quiet quiet_other =
    law_join (record { rule = t.rule; at = at }) other_id other there two quiet quiet_other

pub fresh_holds : FreshHolds
fresh_holds capacities places tickets m shape fresh = starts capacities places tickets shape m fresh

pub runs_hold : RunsHold
runs_hold capacities places tickets m vs h shape run = holds m vs h run
  where
    holds : (m : Memory) (vs : List View) (h : List Mark) → Run capacities places tickets m vs h
        → MemoryRule capacities places tickets m vs h
    holds m vs h (begins {m = n} fresh) = starts capacities places tickets shape n fresh
    holds m vs h (steps {m = n} {vs = us} {h = g} id v a run there works needs) =
        (keeps (record { rule = holds n us g run; at = there }) works a needs).rule
    holds m vs h (splits {m = n} {vs = us} {h = g} id away given v run there needs) =
        law_split (record { rule = holds n us g run; at = there }) away given needs
    holds m vs h (joins {m = n} {vs = us} {h = g} id other_id v other run at there two quiet quiet_other) =
        law_join (record { rule = holds n us g run; at = at }) other_id other there two quiet quiet_other
