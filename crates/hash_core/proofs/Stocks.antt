-- The kinds of step on the free list, the retired list and the slot taken.
use Rattle.std.proofs.Common.{◌≡◌, ◌≢◌, ℕ, ◌+◌, ◌%◌, ◌<◌, ◌≤◌, Bool, true, false, cond, List, [], ◌∷◌, ◌++◌, length, set, Some, None, refl, sym, ap, subst, ◌∙◌, inr, arith, ne_eqb, append-nil, option_to_list, inl}
use Rattle.std.specs.List.{AllByRecursion}
use Rattle.std.specs.FinMap as finite
use mathlib.Core.Option.{some}
use lib.ListN.{get_elem?}
use Rattle.prcu_marks.specs.declared.mark.Mark.{Mark}
use Rattle.prcu_marks.specs.declared.mark.Mark.TheVariants.{Given}
use Rattle.prcu_model.specs.declared.operation.Update.{Update}
use Rattle.prcu_model.specs.Dictionary.{map_of, IsLegal, WasSaid}
use Rattle.hash_core.specs.declared.words.Field.{Field}
use Rattle.hash_core.specs.declared.words.Field.TheVariants.{Front, Head, Free, Retired, Key, Value, Next, Chain}
use Rattle.hash_core.specs.declared.view.Section.{Section}
use Rattle.hash_core.specs.declared.view.Hold.{Hold}
use Rattle.hash_core.specs.declared.view.View.{View}
use Rattle.list_laws.specs.Counts.{times, total}
use Rattle.hash_core.specs.Memory.{IsPath, Memory, same_field, stored, is_slot_of, IsOfClass, ReuseByClass}
use Rattle.prcu_marks.specs.Marks.{updates_of, Open, open_at, gone_at, IsGone, last_unlinked}
use Rattle.hash_core.specs.Steps.{known_in, knowing, NeedsTake, after_take, NeedsRefill, after_refill, NeedsMove, after_move, NeedsPush, after_push, NeedsChain, after_chain, IsFieldOf, NeedsWrite, after_write}
use Rattle.hash_core.specs.Rule.{Bucket, IsKnown, IsFreeOfReaders, taken_of, unlinked_of, moved_of, link_of, AreClean, AreAnswered, IsTurned, BucketRule, MemoryRule, roles_of, HaveAges}
use Rattle.prcu_model.proofs.ListFacts.{all_map}
use Rattle.list_laws.proofs.Lists.{past_snoc, all_change, all_from_times, times_here, at_most_one}
use Rattle.hash_core.proofs.SlotLists.{path_cons, path_none, IsPath-same, seek-same, HaveDistinctKeys-same, one_class, slot_within, KeepsWays, will_still}
use Rattle.prcu_marks.proofs.Marks.{updates_of-append, entered_at-append, last_unlinked-same, last_gone}
use Rattle.hash_core.proofs.SeatFrames.{Seated, marks_snoc, open_at-same, gone_at-given_here, gone_at-given_other, seen_whole, apart_same, owned_same, open_same, held_still, turned_same, same_marks, seats_same, section_back, section_forth, tickets_same, SeatsRule, after_step}
use Rattle.hash_core.proofs.Frames.{SameMarks, SameLists, free_slot, retired_slot, taken_slot, unlinked_slot, class_words, stored_here, same_self, same_is}
use Rattle.hash_core.proofs.Locks.{counted_still, free_still, answered_still, holder_of, class_small, works, locked_by, elsewhere_held, clean_still, answered_each, holder_stays}

module _ {capacities : List ℕ} {places tickets : ℕ} {m : Memory} {vs : List View} {h : List Mark} {id : ℕ} {v : View}
    (seat : Seated capacities places tickets m vs h id v) {hold : Hold} (mine : v.hold ≡ Some hold) where
  abbrev c : ℕ
  c = hold.class

  abbrev bucket : Bucket
  bucket = seat.rule.bucket hold.class

  small : hold.class < 64
  small = class_small seat mine

  pub rule : BucketRule capacities hold.class m h (updates_of h) vs bucket
  rule = seat.rule.buckets hold.class small

  pub had : bucket.hold ≡ Some hold
  had = holder_of seat hold.class small hold mine refl

  -- what the holder knows is so
  pub is_known : (field : Field) (number : ℕ) → known_in hold.known field ≡ Some number
      → IsOfClass capacities hold.class field × (m field ≡ number)
  is_known field number found = rule.known.known hold field number had found

  -- what it knows after a store
  pub known_after : (field : Field) (number : ℕ) → IsOfClass capacities hold.class field → (new : Hold)
      → new.known ≡ (knowing hold field number).known → IsKnown capacities hold.class (stored m field number) (Some new)
  known_after field number of new same = record {
    known = λ other f n is found.
        let e : new ≡ other = cc in
        let there : known_in (knowing hold field number).known f ≡ Some n =
        ap (λ k. known_in k f) (sym same) ∙ ap (λ (z : Hold). known_in z.known f) e ∙ found in
        known_case f n (same_field field f) refl there;
  }
    where
      known_case : (f : Field) (n : ℕ) (t : Bool) → same_field field f ≡ t → cond t (Some number) (known_in hold.known f) ≡ Some n
          → IsOfClass capacities hold.class f × (stored m field number f ≡ n)
      known_case f n true is e = let q : field ≡ f = same_is field f is in
          (subst (IsOfClass capacities hold.class) q of, ap (λ t. cond t number (m f)) is ∙ cc)
      known_case f n false is e = let k = is_known f n e in (k.0, ap (λ t. cond t number (m f)) is ∙ k.1)

  -- the slot roles, by what the holder has in hand
  pub roles_by : (x : ℕ) → roles_of bucket hold.taken hold.unlinked x ≡ cond (is_slot_of capacities hold.class x) 1 0
  roles_by x = subst (λ z. roles_of bucket (taken_of z) (unlinked_of z) x
      ≡ cond (is_slot_of capacities hold.class x) 1 0) had (rule.roles.once x)

  -- no slot has two
  pub one_role : (x : ℕ) → roles_of bucket hold.taken hold.unlinked x ≤ 1
  one_role x = let a = roles_by x in let l = at_most_one (is_slot_of capacities hold.class x) _ a in omega arith

  pub moved_by : IsPath (λ s. m (Chain s)) (link_of hold.moved) bucket.moved
  moved_by = subst (λ z. IsPath (λ s. m (Chain s)) (link_of (moved_of z)) bucket.moved) had rule.listed.moved

  -- when slots were unlinked, where it keeps what it has in hand
  ages_by : (new : Hold) → new.taken ≡ hold.taken → new.unlinked ≡ hold.unlinked → HaveAges h (record bucket { hold = Some new })
  ages_by new taken unlinked = record {
    chain = rule.ages.chain;
    taken = λ s is. rule.ages.taken s (ap taken_of had ∙ sym taken ∙ is);
    retired = rule.ages.retired;
    moved = rule.ages.moved;
    unlinked = λ s is. rule.ages.unlinked s (ap unlinked_of had ∙ sym unlinked ∙ is);
  }

  -- a step that leaves no mark, and only changes what the holder knows and has in hand
  seats_held : (new : Hold) → new.class ≡ hold.class → (m' : Memory) → m' Front ≡ m Front
      → SeatsRule capacities places tickets m' (set vs id (record v { hold = Some new })) h
  seats_held new class m' front =
      seats_same seat (record v { hold = Some new }) m' (holder_stays seat mine new class v.seen) (inl refl) front

  -- readers' answers, where the slots on their ways stay
  answered_by : (w : View) → w.section ≡ v.section → (m' : Memory) (chain' : List ℕ)
      → ((section : Section) → KeepsWays capacities hold.class m m' h h (updates_of h) (updates_of h)
      bucket.chain chain' section) → AreAnswered capacities hold.class m' h (updates_of h) (set vs id w) chain'
  answered_by w same m' chain' keeps = answered_each seat hold.class w same rule.answered
      (λ j u section _ _ _ told. (will_still (keeps section) section.state told.0, told.1))

  -- slots that are to be free stay so, where it says nothing new of readers
  clean_held : (new : Hold) → new.clear ≡ hold.clear → AreClean capacities hold.class h (set vs id (record v { hold = Some new }))
      (record bucket { hold = Some new })
  clean_held new same = clean_still seat hold.class (record v { hold = Some new }) refl
      bucket (Some new) (λ other is yes s of. let e : new ≡ other = cc in
      rule.clean.clear hold had (sym same ∙ ap (λ (z : Hold). z.clear) e ∙ yes) s of) rule.clean

  -- such a step that stores in a field of the class, by the rule of the bucket after it
  held_law : (new : Hold) → new.class ≡ hold.class → (field : Field) (number : ℕ) → IsOfClass capacities hold.class field
      → stored m field number Front ≡ m Front → (b : Bucket)
      → BucketRule capacities hold.class (stored m field number) h (updates_of h) (set vs id (record v { hold = Some new })) b
      → MemoryRule capacities places tickets (stored m field number) (set vs id (record v { hold = Some new })) h
  held_law new class field number of front b rule_after =
      let w : View = record v { hold = Some new } in
      let m' : Memory = stored m field number in
      after_step seat w (seats_held new class m' front) hold.class b (λ _. rule_after)
      (λ d _ ne. record {
        words = class_words capacities hold.class d m number ne field of;
        marks = same_marks capacities d h;
        view = elsewhere_held seat d hold new mine class ne w refl refl refl;
      })

  -- H10, refill
  module _ (slot : ℕ) (needs : NeedsRefill v hold slot) where
    abbrev new_refill : Hold
    new_refill = record (knowing hold (Free hold.class) slot) { moved = None }

    abbrev m_refill : Memory
    m_refill = stored m (Free hold.class) slot

    no_free : bucket.free ≡ []
    no_free = path_none (λ s. m (Chain s)) bucket.free
        (subst (λ z. IsPath (λ s. m (Chain s)) z bucket.free) (is_known (Free hold.class) 0 needs.empty).1 rule.listed.free)

    abbrev b_refill : Bucket
    b_refill = record bucket { free = bucket.moved; moved = []; hold = Some new_refill }

    pub law_refill : MemoryRule capacities places tickets m_refill (set vs id (after_refill v hold slot)) h
    law_refill =
        let w : View = after_refill v hold slot in
        held_law new_refill refl (Free hold.class) slot refl refl b_refill (record {
          chained = record { path = rule.chained.path; classes = rule.chained.classes; distinct = rule.chained.distinct };
          listed = record {
            free = subst (λ z. IsPath (λ s. m (Chain s)) z bucket.moved)
                (ap link_of needs.moved ∙ sym (stored_here m (Free hold.class) slot (same_self (Free hold.class)))) moved_by;
            retired = rule.listed.retired;
            moved = refl;
          };
          roles = record { once = λ x. let a = roles_by x in let n = ap (times x) no_free in omega arith };
          mapped = record { answers = rule.mapped.answers };
          locked = locked_by seat hold new_refill mine refl m_refill refl w refl refl;
          known = known_after (Free hold.class) slot refl new_refill refl;
          ages = record {
            chain = rule.ages.chain;
            taken = λ s is. rule.ages.taken s (ap taken_of had ∙ is);
            retired = rule.ages.retired;
            moved = tt;
            unlinked = λ s is. rule.ages.unlinked s (ap unlinked_of had ∙ is);
          };
          counted = record { readers = (counted_still seat hold.class w refl rule.counted).readers };
          clean = (let still = clean_held new_refill refl in record { free = still.moved; moved = tt; clear = still.clear });
          answered = answered_still seat hold.class w refl m_refill bucket (λ s _. (refl, refl, refl, refl)) rule.roles rule.answered;
        })

  -- H10, move
  module _ (slot : ℕ) (needs : NeedsMove v hold slot) where
    abbrev new_move : Hold
    new_move = record (knowing hold (Retired hold.class) 0) { moved = Some slot }

    abbrev m_move : Memory
    m_move = stored m (Retired hold.class) 0

    no_moved : bucket.moved ≡ []
    no_moved = path_none (λ s. m (Chain s)) bucket.moved
        (subst (λ z. IsPath (λ s. m (Chain s)) (link_of z) bucket.moved) needs.empty moved_by)

    abbrev b_move : Bucket
    b_move = record bucket { retired = []; moved = bucket.retired; hold = Some new_move }

    pub law_move : MemoryRule capacities places tickets m_move (set vs id (after_move v hold slot)) h
    law_move =
        let w : View = after_move v hold slot in
        held_law new_move refl (Retired hold.class) 0 refl refl b_move (record {
          chained = record { path = rule.chained.path; classes = rule.chained.classes; distinct = rule.chained.distinct };
          listed = record {
            free = rule.listed.free;
            retired = stored_here m (Retired hold.class) 0 (same_self (Retired hold.class));
            moved = subst (λ z. IsPath (λ s. m (Chain s)) z bucket.retired)
                (is_known (Retired hold.class) slot needs.first).1 rule.listed.retired;
          };
          roles = record { once = λ x. let a = roles_by x in let n = ap (times x) no_moved in omega arith };
          mapped = record { answers = rule.mapped.answers };
          locked = locked_by seat hold new_move mine refl m_move refl w refl refl;
          known = known_after (Retired hold.class) 0 refl new_move refl;
          ages = record {
            chain = rule.ages.chain;
            taken = λ s is. rule.ages.taken s (ap taken_of had ∙ is);
            retired = tt;
            moved = rule.ages.retired;
            unlinked = λ s is. rule.ages.unlinked s (ap unlinked_of had ∙ is);
          };
          counted = record { readers = (counted_still seat hold.class w refl rule.counted).readers };
          clean = (let still = clean_still seat hold.class w refl bucket
              (Some new_move) (λ other is yes s of. rule.clean.clear hold had needs.clear s of) rule.clean in
              record {
                free = still.free;
                moved = all_from_times (IsFreeOfReaders hold.class h (set vs id w)) bucket.retired
                    (λ s there. free_still seat hold.class w refl s
                    (rule.clean.clear hold had needs.clear s (retired_slot rule.roles s there)));
                clear = still.clear;
              });
          answered = answered_still seat hold.class w refl m_move bucket (λ s _. (refl, refl, refl, refl)) rule.roles rule.answered;
        })

  -- H10, push
  module _ (slot first : ℕ) (needs : NeedsPush v hold slot first) where
    abbrev new_push : Hold
    new_push = record (knowing hold (Retired hold.class) slot) { unlinked = None }

    abbrev m_push : Memory
    m_push = stored m (Retired hold.class) slot

    slot_of_push : is_slot_of capacities hold.class slot ≡ true
    slot_of_push = unlinked_slot rule.roles slot (ap unlinked_of had ∙ needs.unlinked)

    abbrev b_push : Bucket
    b_push = record bucket { retired = slot ∷ bucket.retired; hold = Some new_push }

    pub law_push : MemoryRule capacities places tickets m_push (set vs id (after_push v hold slot)) h
    law_push =
        let w : View = after_push v hold slot in
        held_law new_push refl (Retired hold.class) slot refl refl b_push (record {
          chained = record { path = rule.chained.path; classes = rule.chained.classes; distinct = rule.chained.distinct };
          listed = record {
            free = rule.listed.free;
            retired = (
              stored_here m (Retired hold.class) slot (same_self (Retired hold.class)),
              (slot_within capacities hold.class slot slot_of_push).0,
              subst (λ z. IsPath (λ s. m (Chain s)) z bucket.retired)
                  ((is_known (Retired hold.class) first needs.first_is).1
                  ∙ sym (is_known (Chain slot) first needs.chained).1) rule.listed.retired,
            );
            moved = moved_by;
          };
          roles = record { once = λ x. let a = roles_by x in let n = ap (λ o. times x (option_to_list o)) needs.unlinked in omega arith };
          mapped = record { answers = rule.mapped.answers };
          locked = locked_by seat hold new_push mine refl m_push refl w refl refl;
          known = known_after (Retired hold.class) slot refl new_push refl;
          ages = record {
            chain = rule.ages.chain;
            taken = λ s is. rule.ages.taken s (ap taken_of had ∙ is);
            retired = (rule.ages.unlinked slot (ap unlinked_of had ∙ needs.unlinked), rule.ages.retired);
            moved = rule.ages.moved;
            unlinked = λ s is. absurd (cc);
          };
          counted = record { readers = (counted_still seat hold.class w refl rule.counted).readers };
          clean = (let still = clean_held new_push refl in record { free = still.free; moved = still.moved; clear = still.clear });
          answered = answered_still seat hold.class w refl m_push bucket (λ s _. (refl, refl, refl, refl)) rule.roles rule.answered;
        })

  -- H10, chain
  module _ (slot number : ℕ) (needs : NeedsChain v hold slot) where
    abbrev new_chain : Hold
    new_chain = knowing hold (Chain slot) number

    abbrev m_chain : Memory
    m_chain = stored m (Chain slot) number

    slot_of_chain : is_slot_of capacities hold.class slot ≡ true
    slot_of_chain = unlinked_slot rule.roles slot (ap unlinked_of had ∙ needs.unlinked)

    -- the slot in hand is on no list
    chain_else : (first : ℕ) (xs : List ℕ) → ((x : ℕ) → times x xs + times x (option_to_list hold.unlinked) ≤ 1)
        → IsPath (λ s. m (Chain s)) first xs → IsPath (λ s. m_chain (Chain s)) first xs
    chain_else first xs once = IsPath-same (λ s. m (Chain s)) (λ s. m_chain (Chain s)) first xs
        (λ s there. ap (λ t. cond t number (m (Chain s))) (ne_eqb slot s (λ e.
        let a = once slot in
        let b : times slot (option_to_list hold.unlinked) ≡ 1 =
        ap (λ o. times slot (option_to_list o)) needs.unlinked ∙ (let t = times_here slot [] in omega arith) in
        let d : 1 ≤ times slot xs = subst (λ z. 1 ≤ times z xs) (sym e) there in omega arith)))

    pub law_chain : MemoryRule capacities places tickets m_chain (set vs id (after_chain v hold slot number)) h
    law_chain =
        let w : View = after_chain v hold slot number in
        held_law new_chain refl (Chain slot) number slot_of_chain refl (record bucket { hold = Some new_chain }) (record {
          chained = record { path = rule.chained.path; classes = rule.chained.classes; distinct = rule.chained.distinct };
          listed = record {
            free = chain_else (m (Free hold.class)) bucket.free (λ x. let a = one_role x in omega arith) rule.listed.free;
            retired = chain_else (m (Retired hold.class)) bucket.retired (λ x. let a = one_role x in omega arith) rule.listed.retired;
            moved = chain_else (link_of hold.moved) bucket.moved (λ x. let a = one_role x in omega arith) moved_by;
          };
          roles = record { once = roles_by };
          mapped = record {
            answers = λ key class. rule.mapped.answers key class ∙ sym (seek-same m m_chain key bucket.chain (λ s _. (refl, refl)));
          };
          locked = locked_by seat hold new_chain mine refl m_chain refl w refl refl;
          known = known_after (Chain slot) number slot_of_chain new_chain refl;
          ages = ages_by new_chain refl refl;
          counted = record { readers = (counted_still seat hold.class w refl rule.counted).readers };
          clean = clean_held new_chain refl;
          answered = answered_by w refl m_chain bucket.chain (λ section. record {
            linked = λ t _. (refl, refl, refl);
            old = λ t _ _. (refl, refl, refl);
            held = λ t _ p. p;
            joins = λ front rest e. (front, e);
            said = λ answer s. s;
          });
        })

  -- H11
  module _ (slot : ℕ) (field : Field) (number : ℕ) (needs : NeedsWrite v hold slot field) where
    abbrev new_write : Hold
    new_write = knowing hold field number

    abbrev m_write : Memory
    m_write = stored m field number

    slot_of_write : is_slot_of capacities hold.class slot ≡ true
    slot_of_write = taken_slot rule.roles slot (ap taken_of had ∙ needs.taken)

    of_class_write : (f : Field) → IsFieldOf slot f → IsOfClass capacities hold.class f
    of_class_write (Key s) is = subst (λ z. is_slot_of capacities hold.class z ≡ true) (sym is) slot_of_write
    of_class_write (Value s) is = subst (λ z. is_slot_of capacities hold.class z ≡ true) (sym is) slot_of_write
    of_class_write (Next s) is = subst (λ z. is_slot_of capacities hold.class z ≡ true) (sym is) slot_of_write
    of_class_write _ is = absurd is

    -- other slots keep what stands in them, and the class its words
    else_write : (f : Field) → IsFieldOf slot f → (s : ℕ) → s ≢ slot
        → (stored m f number (Key s) ≡ m (Key s)) × (stored m f number (Value s) ≡ m (Value s)) × (stored m f number (Next s) ≡ m (Next s))
    else_write (Key t) is s ne = (ap (λ b. cond b number (m (Key s))) (ne_eqb t s (λ e. ne (sym e ∙ is))), refl, refl)
    else_write (Value t) is s ne = (refl, ap (λ b. cond b number (m (Value s))) (ne_eqb t s (λ e. ne (sym e ∙ is))), refl)
    else_write (Next t) is s ne = (refl, refl, ap (λ b. cond b number (m (Next s))) (ne_eqb t s (λ e. ne (sym e ∙ is))))
    else_write _ is s ne = absurd is

    chains_write : (f : Field) → IsFieldOf slot f → (s : ℕ) → stored m f number (Chain s) ≡ m (Chain s)
    chains_write (Key t) is s = refl
    chains_write (Value t) is s = refl
    chains_write (Next t) is s = refl
    chains_write _ is s = absurd is

    words_write : (f : Field) → IsFieldOf slot f → (d : ℕ) → SameLists d m (stored m f number) × (stored m f number (Head d) ≡ m (Head d))
    words_write (Key t) is d = (record { lock = refl; readers = refl; free = refl; retired = refl; front = refl }, refl)
    words_write (Value t) is d = (record { lock = refl; readers = refl; free = refl; retired = refl; front = refl }, refl)
    words_write (Next t) is d = (record { lock = refl; readers = refl; free = refl; retired = refl; front = refl }, refl)
    words_write _ is d = absurd is

    -- the slot taken isn't linked
    linked_write : (s : ℕ) → 1 ≤ times s bucket.chain → s ≢ slot
    linked_write s there e =
        let a = one_role slot in
        let b : times slot (option_to_list hold.taken) ≡ 1 =
        ap (λ o. times slot (option_to_list o)) needs.taken ∙ (let t = times_here slot [] in omega arith) in
        let d : 1 ≤ times slot bucket.chain = subst (λ z. 1 ≤ times z bucket.chain) e there in omega arith

    pub law_write : MemoryRule capacities places tickets m_write (set vs id (after_write v hold field number)) h
    law_write =
        let w : View = after_write v hold field number in
        let f = needs.field_is in
        let c : ℕ = hold.class in
        let chain : List ℕ = bucket.chain in
        let (words, head) = words_write field f c in
        held_law new_write refl field number (of_class_write field f) words.front (record bucket { hold = Some new_write }) (record {
          chained = record {
            path = subst (λ z. IsPath (λ s. m_write (Next s)) z chain) (sym head)
                (IsPath-same (λ s. m (Next s)) (λ s. m_write (Next s)) (m (Head c)) chain
                (λ s there. (else_write field f s (linked_write s there)).2) rule.chained.path);
            classes = all_change (λ s. m (Key s) % 64 ≡ c) (λ s. m_write (Key s) % 64 ≡ c) chain
                (λ s there p. ap (λ n. n % 64) (else_write field f s (linked_write s there)).0 ∙ p) rule.chained.classes;
            distinct = HaveDistinctKeys-same m m_write chain
                (λ s there. let q = else_write field f s (linked_write s there) in (q.0, q.1)) rule.chained.distinct;
          };
          listed = record {
            free = subst (λ z. IsPath (λ s. m_write (Chain s)) z (seat.rule.bucket c).free) (sym words.free)
                (IsPath-same (λ s. m (Chain s)) (λ s. m_write (Chain s)) (m (Free c)) (seat.rule.bucket c).free
                (λ s _. chains_write field f s) rule.listed.free);
            retired = subst (λ z. IsPath (λ s. m_write (Chain s)) z (seat.rule.bucket c).retired) (sym words.retired)
                (IsPath-same (λ s. m (Chain s)) (λ s. m_write (Chain s)) (m (Retired c)) (seat.rule.bucket c).retired
                (λ s _. chains_write field f s) rule.listed.retired);
            moved = IsPath-same (λ s. m (Chain s)) (λ s. m_write (Chain s)) (link_of hold.moved) (seat.rule.bucket c).moved
                (λ s _. chains_write field f s) moved_by;
          };
          roles = record { once = roles_by };
          mapped = record {
            answers = λ key class. rule.mapped.answers key class
                ∙ sym (seek-same m m_write key chain (λ s there. let q = else_write field f s (linked_write s there) in (q.0, q.1)));
          };
          locked = locked_by seat hold new_write mine refl m_write words.lock w refl refl;
          known = known_after field number (of_class_write field f) new_write refl;
          ages = ages_by new_write refl refl;
          counted = record { readers = words.readers ∙ (counted_still seat c w refl rule.counted).readers };
          clean = clean_held new_write refl;
          answered = answered_by w refl m_write chain (λ section. record {
            linked = λ t there. else_write field f t (linked_write t there);
            old = λ t _ held. else_write field f t (λ e. absurd
                (let g : gone_at slot h ≡ None = rule.ages.taken slot (ap taken_of had ∙ needs.taken) in
                let z : gone_at slot h ≡ Some held.0 = subst (λ y. gone_at y h ≡ Some held.0) e held.1 in
                let q : None ≡ Some held.0 = sym g ∙ z in cc));
            held = λ t _ p. p;
            joins = λ front rest e. (front, e);
            said = λ answer s. s;
          });
        })

  -- H10, take
  module _ (slot next : ℕ) (needs : NeedsTake v hold slot next) where
    abbrev new_take : Hold
    new_take = record (knowing hold (Free hold.class) next) { taken = Some slot }

    abbrev m_take : Memory
    m_take = stored m (Free hold.class) next

    abbrev h_take : List Mark
    h_take = h ++ Given slot ∷ []

    abbrev w_take : View
    w_take = after_take v hold slot next h

    same_updates_take : updates_of h_take ≡ updates_of h
    same_updates_take = updates_of-append h (Given slot ∷ []) ∙ append-nil (updates_of h)

    first_free : (ss : List ℕ) × (bucket.free ≡ slot ∷ ss) × IsPath (λ s. m (Chain s)) (m (Chain slot)) ss
    first_free = path_cons (λ s. m (Chain s)) slot bucket.free needs.some
        (subst (λ z. IsPath (λ s. m (Chain s)) z bucket.free) (is_known (Free hold.class) slot needs.first).1 rule.listed.free)

    slot_of_take : is_slot_of capacities hold.class slot ≡ true
    slot_of_take = free_slot rule.roles slot (let t = times_here slot first_free.0 in let e = ap (times slot) first_free.1 in omega arith)

    -- no section of the class holds the slot back
    slot_clean : IsFreeOfReaders hold.class h vs slot
    slot_clean = (subst (AllByRecursion (IsFreeOfReaders hold.class h vs)) first_free.1 rule.clean.free).0

    others_clean : AllByRecursion (IsFreeOfReaders hold.class h vs) first_free.0
    others_clean = (subst (AllByRecursion (IsFreeOfReaders hold.class h vs)) first_free.1 rule.clean.free).1

    gone_take : (s : ℕ) → s ≢ slot → gone_at s h_take ≡ gone_at s h
    gone_take s ne = gone_at-given_other h s slot (λ e. ne (sym e))

    last_take : (s : ℕ) → last_unlinked s h_take ≡ last_unlinked s h
    last_take s = last_unlinked-same h (Given slot) tt s

    -- the slot is in no other list
    gone_else : (xs : List ℕ) → ((x : ℕ) → times x xs + times x bucket.free ≤ 1) → (s : ℕ) → 1 ≤ times s xs → gone_at s h_take ≡ gone_at s h
    gone_else xs once s there = gone_take s (λ e.
        let a = once slot in
        let t = times_here slot first_free.0 in
        let f = ap (times slot) first_free.1 in
        let d : 1 ≤ times slot xs = subst (λ z. 1 ≤ times z xs) e there in omega arith)

    still_free_take : (s : ℕ) → IsFreeOfReaders hold.class h vs s → IsFreeOfReaders hold.class h_take (set vs id w_take) s
    still_free_take s free p j u section last there is class =
        free_still seat hold.class w_take refl s free p j u section (sym (last_take s) ∙ last) there is class

    reuse_take : ReuseByClass capacities h_take
    reuse_take j s d i p o given of gone there class =
        past_snoc (λ (past : List Mark) (a : Mark). a ≡ Given s → last_unlinked s past ≡ Some i → open_at p past ≡ Some o → i < o.at)
        h (Given slot) (Given s)
        (λ is last now.
        let e : slot ≡ s = (let z = is in cc) in
        let q = seat.rule.sections.all p o now in
        let c_is : hold.class ≡ d = one_class capacities hold.class d slot slot_of_take
        (subst (λ z. is_slot_of capacities d z ≡ true) (sym e) of) in
        let key : q.has.section.key % 64 ≡ hold.class = ap (λ (z : Open). z.key % 64) (sym q.has.is) ∙ class ∙ sym c_is in
        let l = slot_clean i q.id q.view q.has.section (ap (λ z. last_unlinked z h) e ∙ last) q.there q.has.inside key in
        let at_is : o.at ≡ q.has.section.entered = ap (λ (z : Open). z.at) q.has.is in omega arith)
        (λ n old _ last now. seat.rule.reuse n s d i p o old of last now class) j given refl gone there

    same_marks_take : (d : ℕ) → d ≢ hold.class → SameMarks capacities d h h_take (updates_of h) (updates_of h_take)
    same_marks_take d ne = record {
      more = [];
      longer = same_updates_take ∙ sym (append-nil _);
      gone = λ s of. gone_take s (λ e. ne (one_class capacities d hold.class slot
          (subst (λ z. is_slot_of capacities d z ≡ true) e of) slot_of_take));
      last = λ s _. last_take s;
      pairs = λ key class. ap (λ us. finite.get (map_of us) key) same_updates_take;
    }

    seats_take : SeatsRule capacities places tickets m_take (set vs id w_take) h_take
    seats_take = record {
      seen = seen_whole seat w_take h_take refl refl (Given slot ∷ [], refl);
      apart = apart_same seat w_take (record { place = refl; places = refl; joined = refl });
      owned = owned_same seat w_take (Given slot ∷ []) (record { place = refl; places = refl; joined = refl }) refl (inr refl) (λ p. refl);
      sections = open_same seat w_take h_take refl refl refl (section_back v w_take refl)
          (section_forth v w_take refl) (open_at-same h (Given slot) tt)
          (λ p. let a = entered_at-append p h (Given slot ∷ []) in omega arith)
          (let n = ap length same_updates_take in omega arith);
      held = held_still seat w_take (λ other is. let e : new_take ≡ other = cc in
          (subst (λ (z : Hold). z.class < 64) e small, works seat mine));
      turned = subst (IsTurned m_take (set vs id w_take)) (sym (ap length same_updates_take))
          (turned_same seat w_take m_take refl refl (λ commit held is had_it. (new_take, refl)));
      tickets_are = ap (λ us. length us + total (λ (z : View). z.tickets) (set vs id w_take)) same_updates_take
          ∙ tickets_same seat w_take refl;
      legal = subst IsLegal (sym same_updates_take) seat.rule.legal;
      marks = marks_snoc places h (Given slot) tt seat.rule.marks;
      reuse = reuse_take;
    }

    abbrev b_take : Bucket
    b_take = record bucket { free = first_free.0; hold = Some new_take }

    pub law_take : MemoryRule capacities places tickets m_take (set vs id (after_take v hold slot next h)) h_take
    law_take =
        let chain : List ℕ = bucket.chain in
        let retired : List ℕ = bucket.retired in
        let moved : List ℕ = bucket.moved in
        let us : List Update = updates_of h in
        let us' : List Update = updates_of h_take in
        let keeps : (section : Section) (j : ℕ) (u : View) → get_elem? vs j ≡ some u → u.section ≡ Some section
        → section.key % 64 ≡ hold.class → KeepsWays capacities hold.class m m_take h h_take us us' chain chain section =
        λ section j u there is class. record {
          linked = λ t _. (refl, refl, refl);
          old = λ t _ _. (refl, refl, refl);
          held = λ t _ p. (
            p.0,
            gone_take t (λ e. absurd
                (let l = slot_clean p.0 j u section (last_gone slot h p.0 (subst (λ z. gone_at z h ≡ Some p.0) e p.1)) there is class in
                let g = p.2 in omega arith)) ∙ p.1,
            p.2,
          );
          joins = λ front rest e. (front, e);
          said = λ answer s. subst (λ z. WasSaid z section.key section.from answer) (sym same_updates_take) s;
        } in
        after_step seat w_take seats_take hold.class b_take
        (λ _. record {
          chained = record { path = rule.chained.path; classes = rule.chained.classes; distinct = rule.chained.distinct };
          listed = record {
            free = subst (λ z. IsPath (λ s. m (Chain s)) z first_free.0)
                ((is_known (Chain slot) next needs.next_is).1
                ∙ sym (stored_here m (Free hold.class) next (same_self (Free hold.class)))) first_free.2;
            retired = rule.listed.retired;
            moved = moved_by;
          };
          roles = record {
            once = λ x. let a = roles_by x in let n = ap (λ o. times x (option_to_list o)) needs.empty in
                let f = ap (times x) first_free.1 in omega arith;
          };
          mapped = record { answers = λ key class. ap (λ z. finite.get (map_of z) key) same_updates_take ∙ rule.mapped.answers key class };
          locked = locked_by seat hold new_take mine refl m_take refl w_take refl refl;
          known = known_after (Free hold.class) next refl new_take refl;
          ages = record {
            chain = all_change (λ s. gone_at s h ≡ None) (λ s. gone_at s h_take ≡ None) chain
                (λ s there p. gone_else chain (λ x. let a = one_role x in omega arith) s there ∙ p) rule.ages.chain;
            taken = λ s is. let e : slot ≡ s = cc in subst (λ z. gone_at z h_take ≡ None) e (gone_at-given_here h slot);
            retired = all_change (IsGone h) (IsGone h_take) retired
                (λ s there p. (p.0, gone_else retired (λ x. let a = one_role x in omega arith) s there ∙ p.1)) rule.ages.retired;
            moved = all_change (IsGone h) (IsGone h_take) moved
                (λ s there p. (p.0, gone_else moved (λ x. let a = one_role x in omega arith) s there ∙ p.1)) rule.ages.moved;
            unlinked = λ s is.
                let p = rule.ages.unlinked s (ap unlinked_of had ∙ is) in
                let there : 1 ≤ times s (option_to_list hold.unlinked) =
                (let e = ap (λ o. times s (option_to_list o)) is in let t = times_here s [] in omega arith) in
                (p.0, gone_else (option_to_list hold.unlinked) (λ x. let a = one_role x in omega arith) s there ∙ p.1);
          };
          counted = record { readers = (counted_still seat hold.class w_take refl rule.counted).readers };
          clean = record {
            free = all_map (IsFreeOfReaders hold.class h vs)
                (IsFreeOfReaders hold.class h_take (set vs id w_take)) first_free.0 still_free_take others_clean;
            moved = all_map (IsFreeOfReaders hold.class h vs) (IsFreeOfReaders hold.class h_take (set vs id w_take))
                bucket.moved still_free_take rule.clean.moved;
            clear = λ other is yes s of. let e : new_take ≡ other = cc in
                still_free_take s (rule.clean.clear hold had (ap (λ (z : Hold). z.clear) e ∙ yes) s of);
          };
          answered = answered_each seat hold.class w_take refl rule.answered (λ j u section there is class told.
              let kept = keeps section j u there is class in
              (will_still kept section.state told.0, λ value read. kept.said (Some value) (told.1 value read)));
        })
        (λ d _ ne. record {
          words = class_words capacities hold.class d m next ne (Free hold.class) refl;
          marks = same_marks_take d ne;
          view = elsewhere_held seat d hold new_take mine refl ne w_take refl refl refl;
        })
