-- The kind of step that unlinks a slot.
use Rattle.std.proofs.Common.{◌≡◌, ◌≢◌, ℕ, ◌+◌, ◌%◌, ◌<◌, ◌≤◌, ◌==◌, true, false, cond, List, [], ◌∷◌, ◌++◌, length, set, Option, Some, None, is_some, refl, sym, ap, subst, ◌∙◌, inl, inr, arith, eq-eqb, ne_eqb, append_assoc, length-append, option_to_list}
use Rattle.std.specs.FinMap as finite
use mathlib.Core.Logic.{dite}
use native.Mathlib.Decide.{dec_le, ℕ_discrete}
use Rattle.prcu_marks.specs.declared.mark.Mark.{Mark}
use Rattle.prcu_marks.specs.declared.mark.Mark.TheVariants.{Unlinked}
use Rattle.prcu_model.specs.declared.operation.Op.TheVariants.{Del}
use Rattle.prcu_model.specs.Dictionary.{updated, map_of, WasSaid}
use Rattle.prcu_model.proofs.Dictionaries.{map_of-push, get-updated_other, get-del}
use Rattle.hash_core.specs.declared.words.Field.{Field}
use Rattle.hash_core.specs.declared.words.Field.TheVariants.{Head, Free, Retired, Key, Value, Next, Chain}
use Rattle.hash_core.specs.declared.view.SearchState.{SearchState}
use Rattle.hash_core.specs.declared.view.SearchState.TheVariants.{Start, Unread, Passed, Found, Ended}
use Rattle.hash_core.specs.declared.view.Section.{Section}
use Rattle.hash_core.specs.declared.view.Hold.{Hold}
use Rattle.hash_core.specs.declared.view.View.{View}
use Rattle.list_laws.specs.Counts.{times}
use Rattle.hash_core.specs.Memory.{IsPath, Memory, stored, is_slot_of, IsOfClass, AreMarks, ReuseByClass}
use Rattle.prcu_marks.specs.Marks.{updates_of, open_at, gone_at, IsGone, entered_at, last_unlinked}
use Rattle.hash_core.specs.Steps.{known_in, knowing, LinksTo, NeedsUnlink, after_unlink, done_by}
use Rattle.hash_core.specs.Rule.{Bucket, seek, HaveDistinctKeys, IsFreeOfReaders, taken_of, link_of, WillAnswer, IsHeldBack, HasWay, BucketRule, MemoryRule, roles_of}
use Rattle.prcu_model.proofs.ListFacts.{all_append, all_map}
use Rattle.list_laws.proofs.Lists.{all_change, all_times, all_from_times, times_here, times_append}
use Rattle.hash_core.proofs.SlotLists.{IsPath-same, path_cons, seek-same, seek_here, seek_past, seek_append, HaveDistinctKeys-same, one_class, path_past, path_back, cut_at, two_cuts, seek_without, distinct_without, seek_some}
use Rattle.prcu_marks.proofs.Marks.{updates_of-append, entered_at-append, last_unlinked-other}
use Rattle.hash_core.proofs.SeatFrames.{Seated, marks_snoc, open_at-same, gone_at-unlinked_here, gone_at-unlinked_other, reuse_more, after_step}
use Rattle.hash_core.proofs.Frames.{SameLists, chain_slot, class_words, stored_here, same_self}
use Rattle.prcu_marks.proofs.Callers.{said_longer}
use Rattle.hash_core.proofs.Sections.{free_each}
use Rattle.hash_core.proofs.Locks.{counted_still, locked_by, elsewhere_held, said_after, seats_updated}
use Rattle.hash_core.proofs.Stocks.{rule, had, is_known, known_after, roles_by, moved_by, one_role}
use Rattle.hash_core.proofs.Links.{on_chain, answered_from, marks_elsewhere, done_open, done_gone, done_last, done_marks, done_reuse}

-- A chain from which a slot is unlinked: the slots before it lead on past it.
pub record Cut (head head' : ℕ) (next next' : ℕ → ℕ) (chain : List ℕ) (slot : ℕ) : Type 0 where
  pub before : List ℕ
  pub after : List ℕ
  pub chain_is : chain ≡ before ++ slot ∷ after
  pub path : IsPath next' head' (before ++ after)
  pub past : (t : ℕ) → 1 ≤ times t (slot ∷ after) → next' t ≡ next t
  pub outside : (t : ℕ) → times t chain ≡ 0 → next' t ≡ next t
  pub through : (first : ℕ) (olds gs fs : List ℕ) → before ≡ gs ++ fs → ((fs ≡ []) → ⊥) → ((t : ℕ) → 1 ≤ times t olds → times t chain ≡ 0)
      → IsPath next first (olds ++ (fs ++ slot ∷ after)) → IsPath next' first (olds ++ (fs ++ after))

-- a front that ends with a slot, cut in two
last_cut : (ys : List ℕ) (p : ℕ) (gs fs : List ℕ) → ys ++ p ∷ [] ≡ gs ++ fs → ((fs ≡ []) → ⊥) → (ks : List ℕ) × (fs ≡ ks ++ p ∷ [])
last_cut ys p gs fs e some_fs = elim (two_cuts ys (p ∷ []) gs fs e) [
  | inl r ↦ (r.0, r.2)
  | inr r ↦ end r.0 r.2
]
  where
    end : (ks : List ℕ) → p ∷ [] ≡ ks ++ fs → (ks' : List ℕ) × (fs ≡ ks' ++ p ∷ [])
    end [] q = ([], sym q)
    end (k ∷ []) q = absurd (some_fs (let z : [] ≡ fs = cc in sym z))
    end (k ∷ l ∷ ks) q = absurd (let z : [] ≡ l ∷ (ks ++ fs) = cc in cc)

-- the cut at the head
pub cut_head : (head head' : ℕ) (next next' : ℕ → ℕ) (chain : List ℕ) (slot : ℕ) → slot ≢ 0 → head ≡ slot → head' ≡ next slot
    → ((t : ℕ) → next' t ≡ next t) → IsPath next head chain → Cut head head' next next' chain slot
cut_head head head' next next' chain slot some_slot is is' same path =
    let r = path_cons next slot chain some_slot (subst (λ z. IsPath next z chain) is path) in
    record {
      before = [];
      after = r.0;
      chain_is = r.1;
      path = subst (λ z. IsPath next' z r.0) (sym is') (IsPath-same next next' (next slot) r.0 (λ s _. same s) r.2);
      past = λ t _. same t;
      outside = λ t _. same t;
      through = λ first olds gs fs e some_fs far p. absurd (some_fs (nothing gs fs e));
    }
  where
    nothing : (gs fs : List ℕ) → [] ≡ gs ++ fs → fs ≡ []
    nothing [] fs e = sym e
    nothing (g ∷ gs) fs e = absurd (cc)

-- the cut past a slot of the chain
pub cut_next : (head : ℕ) (next next' : ℕ → ℕ) (chain : List ℕ) (p slot : ℕ) → ((t : ℕ) → times t chain ≤ 1) → slot ≢ 0 → next p ≡ slot
    → next' p ≡ next slot → ((t : ℕ) → t ≢ p → next' t ≡ next t) → 1 ≤ times p chain → IsPath next head chain
    → Cut head head next next' chain slot
cut_next head next next' chain p slot once some_slot is is' same there path =
    let c = cut_at p chain there in
    let whole : IsPath next head (c.0 ++ p ∷ c.1) = subst (IsPath next head) c.2 path in
    let r = path_cons next slot c.1 some_slot (subst (λ z. IsPath next z c.1) is (path_back next head c.0 c.1 p whole)) in
    let tail : c.0 ++ p ∷ c.1 ≡ c.0 ++ p ∷ slot ∷ r.0 = ap (λ z. c.0 ++ p ∷ z) r.1 in
    let chain_is : chain ≡ c.0 ++ p ∷ slot ∷ r.0 = c.2 ∙ tail in
    let count : (t : ℕ) → times t c.0 + times t (p ∷ slot ∷ r.0) ≡ times t chain =
    λ t. sym (times_append t c.0 (p ∷ slot ∷ r.0)) ∙ ap (times t) (sym chain_is) in
    let p_once : (times p c.0 ≡ 0) × (times p (slot ∷ r.0) ≡ 0) =
    (let a = count p in let b = once p in let d = times_here p (slot ∷ r.0) in (omega arith, omega arith)) in
    let not_p : (xs : List ℕ) → times p xs ≡ 0 → (t : ℕ) → 1 ≤ times t xs → next' t ≡ next t =
    λ xs zero_p t in_xs. same t (λ e. let z : times t xs ≡ 0 = ap (λ y. times y xs) e ∙ zero_p in
    absurd (let a = in_xs in omega arith)) in
    let after_p : times p r.0 ≡ 0 = (let a = p_once.1 in let b : times p (slot ∷ r.0) ≡ cond (slot == p) 1 0 + times p r.0 = refl in
    omega arith) in
    let joined : (c.0 ++ p ∷ []) ++ slot ∷ r.0 ≡ c.0 ++ p ∷ slot ∷ r.0 = append_assoc c.0 (p ∷ []) (slot ∷ r.0) in
    record {
      before = c.0 ++ p ∷ [];
      after = r.0;
      chain_is = chain_is ∙ sym joined;
      path = subst (IsPath next' head) (sym (append_assoc c.0 (p ∷ []) r.0))
          (path_past next next' head p slot c.0 r.0 is' (not_p c.0 p_once.0) (not_p r.0 after_p) (subst (IsPath next head) chain_is path));
      past = not_p (slot ∷ r.0) p_once.1;
      outside = λ t zero_t. same t (λ e. absurd (let z : times p chain ≡ 0 = ap (λ y. times y chain) (sym e) ∙ zero_t in let a = there in
          omega arith));
      through = λ first olds gs fs e some_fs far way.
          let k = last_cut c.0 p gs fs e some_fs in
          let ks : List ℕ = k.0 in
          let fs_is : fs ≡ ks ++ p ∷ [] = k.1 in
          let way_is : olds ++ (fs ++ slot ∷ r.0) ≡ (olds ++ ks) ++ p ∷ slot ∷ r.0 =
          ap (λ z. olds ++ (z ++ slot ∷ r.0)) fs_is ∙ ap (λ z. olds ++ z) (append_assoc ks (p ∷ []) (slot ∷ r.0))
          ∙ sym (append_assoc olds ks (p ∷ slot ∷ r.0)) in
          let goal_is : olds ++ (fs ++ r.0) ≡ (olds ++ ks) ++ p ∷ r.0 =
          ap (λ z. olds ++ (z ++ r.0)) fs_is ∙ ap (λ z. olds ++ z) (append_assoc ks (p ∷ []) r.0) ∙ sym (append_assoc olds ks (p ∷ r.0)) in
          let in_front : times p (olds ++ ks) ≡ 0 =
          (let a = times_append p olds ks in
          let b : times p olds ≡ 0 = none_of olds far in
          let d : times p (c.0 ++ p ∷ []) ≡ times p gs + times p fs = ap (times p) e ∙ times_append p gs fs in
          let f : times p fs ≡ times p ks + times p (p ∷ []) = ap (times p) fs_is ∙ times_append p ks (p ∷ []) in
          let g = times_append p c.0 (p ∷ []) in
          let i = p_once.0 in omega arith) in
          subst (IsPath next' first) (sym goal_is) (path_past next next' first p slot (olds ++ ks) r.0 is' (not_p (olds ++ ks) in_front)
          (not_p r.0 after_p) (subst (IsPath next first) way_is way));
    }
  where
    none_of : (olds : List ℕ) → ((t : ℕ) → 1 ≤ times t olds → times t chain ≡ 0) → times p olds ≡ 0
    none_of olds far = dite (dec_le 1 (times p olds)) (λ in_olds. absurd (let z = far p in_olds in let a = there in omega arith))
        (λ out. omega arith)

module _ {capacities : List ℕ} {places tickets : ℕ} {m : Memory} {vs : List View} {h : List Mark} {id : ℕ} {v : View}
    (seat : Seated capacities places tickets m vs h id v) {hold : Hold} (mine : v.hold ≡ Some hold)
    (even : ℕ) (link : Field) (slot key next : ℕ) (needs : NeedsUnlink v hold even link slot key next) where
  abbrev bucket : Bucket
  bucket = seat.rule.bucket hold.class

  abbrev bucket_rule : BucketRule capacities hold.class m h (updates_of h) vs bucket
  bucket_rule = rule seat mine

  abbrev chain_now : List ℕ
  chain_now = bucket.chain

  abbrev m_unlink : Memory
  m_unlink = stored m link next

  abbrev h_done : List Mark
  h_done = h ++ done_by v (Del key) ∷ []

  abbrev h_unlink : List Mark
  h_unlink = h ++ done_by v (Del key) ∷ Unlinked slot ∷ []

  abbrev w_unlink : View
  w_unlink = after_unlink v hold even link slot key next h

  abbrev new_unlink : Hold
  new_unlink = record (knowing hold link next) { clear = false; unlinked = Some slot }

  known_unlink : (field : Field) (number : ℕ) → known_in hold.known field ≡ Some number
      → IsOfClass capacities hold.class field × (m field ≡ number)
  known_unlink = is_known seat mine

  is_key : m (Key slot) ≡ key
  is_key = (known_unlink (Key slot) key needs.key_is).1

  is_next : m (Next slot) ≡ next
  is_next = (known_unlink (Next slot) next needs.next_is).1

  -- what no link is stays
  slots_unlink : (l : Field) → LinksTo hold l → (s : ℕ)
      → (stored m l next (Key s) ≡ m (Key s)) × (stored m l next (Value s) ≡ m (Value s)) × (stored m l next (Chain s) ≡ m (Chain s))
  slots_unlink (Head d) is s = (refl, refl, refl)
  slots_unlink (Next t) is s = (refl, refl, refl)
  slots_unlink _ is s = absurd is

  words_unlink : (l : Field) → LinksTo hold l → (d : ℕ) → SameLists d m (stored m l next)
  words_unlink (Head e) is d = record { lock = refl; readers = refl; free = refl; retired = refl; front = refl }
  words_unlink (Next t) is d = record { lock = refl; readers = refl; free = refl; retired = refl; front = refl }
  words_unlink _ is d = absurd is

  of_class_unlink : (l : Field) → LinksTo hold l → IsOfClass capacities hold.class l
  of_class_unlink (Head d) is = is
  of_class_unlink (Next t) is = chain_slot bucket_rule.roles t (on_chain seat mine t is)
  of_class_unlink _ is = absurd is

  roles_unlink : (x : ℕ) → roles_of bucket hold.taken hold.unlinked x ≡ cond (is_slot_of capacities hold.class x) 1 0
  roles_unlink = roles_by seat mine

  once_unlink : (t : ℕ) → times t chain_now ≤ 1
  once_unlink t = let a = one_role seat mine t in omega arith

  cut_by : (l : Field) → LinksTo hold l → known_in hold.known l ≡ Some slot
      → Cut (m (Head hold.class)) (stored m l next (Head hold.class)) (λ s. m (Next s)) (λ s. stored m l next (Next s)) chain_now slot
  cut_by (Head d) is linked =
      cut_head (m (Head hold.class)) (stored m (Head d) next (Head hold.class)) (λ s. m (Next s))
      (λ s. stored m (Head d) next (Next s)) chain_now slot needs.some
      (ap (λ z. m (Head z)) (sym is) ∙ (known_unlink (Head d) slot linked).1)
      (ap (λ b. cond b next (m (Head hold.class))) (eq-eqb d hold.class is) ∙ sym is_next) (λ t. refl) bucket_rule.chained.path
  cut_by (Next t) is linked =
      cut_next (m (Head hold.class)) (λ s. m (Next s)) (λ s. stored m (Next t) next (Next s)) chain_now t slot once_unlink needs.some
      (known_unlink (Next t) slot linked).1
      (stored_here m (Next t) next (same_self (Next t)) ∙ sym is_next)
      (λ s ne. ap (λ b. cond b next (m (Next s))) (ne_eqb t s (λ e. ne (sym e))))
      (on_chain seat mine t is) bucket_rule.chained.path
  cut_by _ is linked = absurd is

  cut : Cut (m (Head hold.class)) (m_unlink (Head hold.class)) (λ s. m (Next s)) (λ s. m_unlink (Next s)) chain_now slot
  cut = cut_by link needs.link_is needs.linked

  -- the chain is that list and the slot
  counts : (x : ℕ) → times x chain_now ≡ times x (cut.before ++ cut.after) + times x (slot ∷ [])
  counts x =
      let a = ap (times x) cut.chain_is in
      let b = times_append x cut.before (slot ∷ cut.after) in
      let d = times_append x cut.before cut.after in
      let e : times x (slot ∷ cut.after) ≡ times x (slot ∷ []) + times x cut.after =
      (let f : times x (slot ∷ cut.after) ≡ cond (slot == x) 1 0 + times x cut.after = refl in
      let g : times x (slot ∷ []) ≡ cond (slot == x) 1 0 + 0 = refl in omega arith) in omega arith

  there : 1 ≤ times slot chain_now
  there = let a = counts slot in let b = times_here slot [] in omega arith

  slot_of_unlink : is_slot_of capacities hold.class slot ≡ true
  slot_of_unlink = chain_slot bucket_rule.roles slot there

  in_old : (x : ℕ) → 1 ≤ times x (cut.before ++ cut.after) → 1 ≤ times x chain_now
  in_old x is = let a = counts x in omega arith

  -- what stands in another list, or in what is left of the chain, is another slot
  not_slot : (xs : List ℕ) → times slot xs ≡ 0 → (s : ℕ) → 1 ≤ times s xs → s ≢ slot
  not_slot xs none s is e = absurd (let z : times s xs ≡ 0 = ap (λ y. times y xs) e ∙ none in let a = is in omega arith)

  left_out : times slot (cut.before ++ cut.after) ≡ 0
  left_out = let a = counts slot in let b = times_here slot [] in let d = once_unlink slot in omega arith

  elsewhere : (xs : List ℕ) → ((x : ℕ) → times x xs + times x chain_now ≤ 1) → times slot xs ≡ 0
  elsewhere xs one = let a = one slot in let b = there in omega arith

  class_unlink : key % 64 ≡ hold.class
  class_unlink = ap (λ z. z % 64) (sym is_key) ∙ all_times (λ s. m (Key s) % 64 ≡ hold.class) chain_now slot bucket_rule.chained.classes there

  -- the marks
  whole_unlink : h_done ++ Unlinked slot ∷ [] ≡ h_unlink
  whole_unlink = append_assoc h (done_by v (Del key) ∷ []) (Unlinked slot ∷ [])

  longer_unlink : updates_of h_unlink ≡ updates_of h ++ record { caller = v.place; op = Del key } ∷ []
  longer_unlink = updates_of-append h (done_by v (Del key) ∷ Unlinked slot ∷ [])

  open_unlink : (p : ℕ) → open_at p h_unlink ≡ open_at p h
  open_unlink p = ap (open_at p) (sym whole_unlink) ∙ open_at-same h_done (Unlinked slot) tt p ∙ done_open seat mine (Del key) p

  entered_unlink : (p : ℕ) → entered_at p h_unlink ≡ entered_at p h
  entered_unlink p = let a = entered_at-append p h (done_by v (Del key) ∷ Unlinked slot ∷ []) in omega arith

  reuse_unlink : ReuseByClass capacities h_unlink
  reuse_unlink = subst (ReuseByClass capacities) whole_unlink
      (reuse_more capacities h_done (Unlinked slot) (λ s e. absurd (cc)) (done_reuse seat mine (Del key)))

  gone_unlink : (s : ℕ) → s ≢ slot → gone_at s h_unlink ≡ gone_at s h
  gone_unlink s ne = ap (gone_at s) (sym whole_unlink) ∙ gone_at-unlinked_other h_done s slot (λ e. ne (sym e))
      ∙ done_gone seat mine (Del key) s

  last_unlink : (s : ℕ) → s ≢ slot → last_unlinked s h_unlink ≡ last_unlinked s h
  last_unlink s ne = ap (last_unlinked s) (sym whole_unlink) ∙ last_unlinked-other h_done s slot (λ e. ne (sym e))
      ∙ done_last seat mine (Del key) s

  order_unlink : AreMarks places h_unlink
  order_unlink = subst (AreMarks places) whole_unlink (marks_snoc places h_done (Unlinked slot) tt (done_marks seat mine (Del key)))

  gone_here_unlink : gone_at slot h_unlink ≡ Some (length h + 1)
  gone_here_unlink = ap (gone_at slot) (sym whole_unlink) ∙ gone_at-unlinked_here h_done slot
      ∙ ap Some (length-append h (done_by v (Del key) ∷ []))

  -- the dictionary
  found_unlink : (old : ℕ) × (seek m key chain_now ≡ Some old)
  found_unlink = let f = seek_some m key slot cut.before cut.after is_key in (f.0, ap (seek m key) cut.chain_is ∙ f.1)

  present_unlink : finite.contains_key (map_of (updates_of h)) key ≡ true
  present_unlink = ap is_some (bucket_rule.mapped.answers key class_unlink ∙ found_unlink.1)

  get_unlink : (k : ℕ) → finite.get (map_of (updates_of h_unlink)) k ≡ finite.get (updated (map_of (updates_of h)) (Del key)) k
  get_unlink k = ap (λ z. finite.get (map_of z) k) longer_unlink
      ∙ ap (λ z. finite.get z k) (map_of-push (updates_of h) (record { caller = v.place; op = Del key }))

  same_seek : (k : ℕ) (xs : List ℕ) → seek m_unlink k xs ≡ seek m k xs
  same_seek k xs = seek-same m m_unlink k xs (λ s _. let q = slots_unlink link needs.link_is s in (q.0, q.1))

  without : HaveDistinctKeys m (cut.before ++ cut.after) × (seek m (m (Key slot)) (cut.before ++ cut.after) ≡ None)
  without = distinct_without m slot cut.before cut.after (subst (HaveDistinctKeys m) cut.chain_is bucket_rule.chained.distinct)

  lost : seek m key (cut.before ++ cut.after) ≡ None
  lost = ap (λ z. seek m z (cut.before ++ cut.after)) (sym is_key) ∙ without.1

  mapped_unlink : (k : ℕ) → k % 64 ≡ hold.class → finite.get (map_of (updates_of h_unlink)) k ≡ seek m_unlink k (cut.before ++ cut.after)
  mapped_unlink k class = dite (ℕ_discrete k key)
      (λ e. subst (λ z. finite.get (map_of (updates_of h_unlink)) z ≡ seek m_unlink z (cut.before ++ cut.after)) (sym e)
      (get_unlink key ∙ get-del (map_of (updates_of h)) key ∙ sym lost ∙ sym (same_seek key (cut.before ++ cut.after))))
      (λ ne. get_unlink k ∙ get-updated_other (map_of (updates_of h)) (Del key) k ne ∙ bucket_rule.mapped.answers k class
      ∙ ap (seek m k) cut.chain_is ∙ seek_without m k slot cut.before cut.after (λ e. ne (sym e ∙ is_key))
      ∙ sym (same_seek k (cut.before ++ cut.after)))

  -- readers
  said_unlink : (section : Section) (answer : Option ℕ) → WasSaid (updates_of h) section.key section.from answer
      → WasSaid (updates_of h_unlink) section.key section.from answer
  said_unlink section answer said = subst (λ z. WasSaid z section.key section.from answer) (sym longer_unlink)
      (said_longer (updates_of h) (record { caller = v.place; op = Del key } ∷ []) section.key section.from answer said)

  outside_unlink : (section : Section) (t : ℕ) → IsHeldBack h section t → times t chain_now ≡ 0
  outside_unlink section t back = dite (dec_le 1 (times t chain_now))
      (λ is. absurd (let z : None ≡ Some back.0 = sym (all_times (λ s. gone_at s h ≡ None) chain_now t bucket_rule.ages.chain is)
      ∙ back.1 in cc))
      (λ no. omega arith)

  held_unlink : (section : Section) (t : ℕ) → IsHeldBack h section t → IsHeldBack h_unlink section t
  held_unlink section t back = (
    back.0,
    gone_unlink t (λ e. absurd
        (let z : times slot chain_now ≡ 0 = ap (λ y. times y chain_now) (sym e) ∙ outside_unlink section t back in let a = there in omega arith))
        ∙ back.1,
    back.2,
  )

  -- a way that goes over the slot to what is after it: now the slot is one of those that were unlinked
  way_from : (section : Section) → section.entered < length h → (s : ℕ)
      → (way : HasWay capacities hold.class m h (updates_of h) chain_now section s) → way.rest ≡ slot ∷ cut.after
      → HasWay capacities hold.class m_unlink h_unlink (updates_of h_unlink) (cut.before ++ cut.after) section s
  way_from section entered s way rest_is =
      let list_is : way.olds ++ way.rest ≡ (way.olds ++ slot ∷ []) ++ cut.after =
      ap (λ z. way.olds ++ z) rest_is ∙ sym (append_assoc way.olds (slot ∷ []) cut.after) in
      record {
        olds = way.olds ++ slot ∷ [];
        front = cut.before;
        rest = cut.after;
        some = way.some;
        path = subst (IsPath (λ t. m_unlink (Next t)) s) list_is (IsPath-same (λ t. m (Next t)) (λ t. m_unlink (Next t)) s (way.olds ++ way.rest)
            (λ t is. let sum = times_append t way.olds way.rest in dite (dec_le 1 (times t way.olds))
            (λ in_olds. cut.outside t (outside_unlink section t (all_times (IsHeldBack h section) way.olds t way.held in_olds)))
            (λ out. cut.past t (subst (λ z. 1 ≤ times t z) rest_is (omega arith)))) way.path);
        held = all_append (IsHeldBack h_unlink section) way.olds (slot ∷ [])
            (all_map (IsHeldBack h section) (IsHeldBack h_unlink section) way.olds (held_unlink section) way.held)
            ((length h + 1, gone_here_unlink, omega arith), tt);
        slots = all_append (λ t. is_slot_of capacities hold.class t ≡ true) way.olds (slot ∷ []) way.slots (slot_of_unlink, tt);
        joins = refl;
        said = subst (λ z. WasSaid (updates_of h_unlink) section.key section.from (seek m_unlink section.key z)) list_is
            (subst (WasSaid (updates_of h_unlink) section.key section.from) (sym (same_seek section.key (way.olds ++ way.rest)))
            (said_unlink section _ way.said));
      }

  -- a way that comes to the chain before the slot: now it goes past it
  lost_in : (fs ks : List ℕ) → cut.before ≡ fs ++ ks → seek m key (ks ++ cut.after) ≡ None
  lost_in fs ks e = back fs (ks ++ cut.after) (ap (seek m key) (sym (ap (λ z. z ++ cut.after) e ∙ append_assoc fs ks cut.after)) ∙ lost)
    where
      back : (xs ys : List ℕ) → seek m key (xs ++ ys) ≡ None → seek m key ys ≡ None
      back [] ys none = none
      back (x ∷ xs) ys none = dite (ℕ_discrete (m (Key x)) key)
          (λ same. absurd (let z : Some (m (Value x)) ≡ None = sym (seek_here m key x (xs ++ ys) same) ∙ none in cc))
          (λ ne. back xs ys (sym (seek_past m key x (xs ++ ys) ne) ∙ none))

  said_past : (section : Section) → section.from ≤ length (updates_of h) → (olds fs ks : List ℕ) → cut.before ≡ fs ++ ks
      → WasSaid (updates_of h) section.key section.from (seek m section.key (olds ++ (ks ++ slot ∷ cut.after)))
      → WasSaid (updates_of h_unlink) section.key section.from (seek m section.key (olds ++ (ks ++ cut.after)))
  said_past section from olds fs ks e said = dite (ℕ_discrete (m (Key slot)) section.key)
      (λ same. by_olds same (seek m section.key olds) refl)
      (λ ne. subst (WasSaid (updates_of h_unlink) section.key section.from)
      (ap (seek m section.key) (sym (append_assoc olds ks (slot ∷ cut.after))) ∙ seek_without m section.key slot (olds ++ ks) cut.after ne
      ∙ ap (seek m section.key) (append_assoc olds ks cut.after))
      (said_unlink section _ said))
    where
      by_olds : m (Key slot) ≡ section.key → (answer : Option ℕ) → seek m section.key olds ≡ answer
          → WasSaid (updates_of h_unlink) section.key section.from (seek m section.key (olds ++ (ks ++ cut.after)))
      by_olds same None none =
          let key_is : section.key ≡ key = sym same ∙ is_key in
          let now : seek m section.key (olds ++ (ks ++ cut.after)) ≡ None =
          (seek_append m section.key olds (ks ++ cut.after)).0 none ∙ ap (λ z. seek m z (ks ++ cut.after)) key_is ∙ lost_in fs ks e in
          subst (WasSaid (updates_of h_unlink) section.key section.from) (sym now)
          (subst (λ z. WasSaid z section.key section.from None) (sym longer_unlink)
          (said_after (updates_of h) (record { caller = v.place; op = Del key }) section.key section.from None from
          (ap (finite.get (updated (map_of (updates_of h)) (Del key))) key_is ∙ get-del (map_of (updates_of h)) key)))
      by_olds same (Some value) found =
          subst (WasSaid (updates_of h_unlink) section.key section.from)
          ((seek_append m section.key olds (ks ++ slot ∷ cut.after)).1 value found
          ∙ sym ((seek_append m section.key olds (ks ++ cut.after)).1 value found)) (said_unlink section _ said)

  way_past : (section : Section) → section.from ≤ length (updates_of h) → (s : ℕ)
      → (way : HasWay capacities hold.class m h (updates_of h) chain_now section s) → (ks : List ℕ) → ((ks ≡ []) → ⊥)
      → cut.before ≡ way.front ++ ks → way.rest ≡ ks ++ slot ∷ cut.after
      → HasWay capacities hold.class m_unlink h_unlink (updates_of h_unlink) (cut.before ++ cut.after) section s
  way_past section from s way ks some_ks before_is rest_is = record {
    olds = way.olds;
    front = way.front;
    rest = ks ++ cut.after;
    some = way.some;
    path = cut.through s way.olds way.front ks before_is some_ks
        (λ t is. outside_unlink section t (all_times (IsHeldBack h section) way.olds t way.held is))
        (subst (λ z. IsPath (λ t. m (Next t)) s (way.olds ++ z)) rest_is way.path);
    held = all_map (IsHeldBack h section) (IsHeldBack h_unlink section) way.olds (held_unlink section) way.held;
    slots = way.slots;
    joins = ap (λ z. z ++ cut.after) before_is ∙ append_assoc way.front ks cut.after;
    said = subst (WasSaid (updates_of h_unlink) section.key section.from) (sym (same_seek section.key (way.olds ++ (ks ++ cut.after))))
        (said_past section from way.olds way.front ks before_is
        (subst (λ z. WasSaid (updates_of h) section.key section.from (seek m section.key (way.olds ++ z))) rest_is way.said));
  }

  -- a way that comes to the chain after the slot
  way_after : (section : Section) (s : ℕ) → (way : HasWay capacities hold.class m h (updates_of h) chain_now section s) → (ks : List ℕ)
      → cut.after ≡ ks ++ way.rest → HasWay capacities hold.class m_unlink h_unlink (updates_of h_unlink) (cut.before ++ cut.after) section s
  way_after section s way ks after_is = record {
    olds = way.olds;
    front = cut.before ++ ks;
    rest = way.rest;
    some = way.some;
    path = IsPath-same (λ t. m (Next t)) (λ t. m_unlink (Next t)) s (way.olds ++ way.rest)
        (λ t is. let sum = times_append t way.olds way.rest in dite (dec_le 1 (times t way.olds))
        (λ in_olds. cut.outside t (outside_unlink section t (all_times (IsHeldBack h section) way.olds t way.held in_olds)))
        (λ out. cut.past t (let a = ap (times t) after_is in let b = times_append t ks way.rest in
        let d : times t (slot ∷ cut.after) ≡ cond (slot == t) 1 0 + times t cut.after = refl in omega arith))) way.path;
    held = all_map (IsHeldBack h section) (IsHeldBack h_unlink section) way.olds (held_unlink section) way.held;
    slots = way.slots;
    joins = ap (λ z. cut.before ++ z) after_is ∙ sym (append_assoc cut.before ks way.rest);
    said = subst (WasSaid (updates_of h_unlink) section.key section.from) (sym (same_seek section.key (way.olds ++ way.rest)))
        (said_unlink section _ way.said);
  }

  way_unlink : (section : Section) → section.entered < length h → section.from ≤ length (updates_of h) → (s : ℕ)
      → HasWay capacities hold.class m h (updates_of h) chain_now section s
      → HasWay capacities hold.class m_unlink h_unlink (updates_of h_unlink) (cut.before ++ cut.after) section s
  way_unlink section entered from s way = elim (two_cuts cut.before (slot ∷ cut.after) way.front way.rest (sym cut.chain_is ∙ way.joins)) [
    | inl q ↦ by_front q.0 q.1 q.2
    | inr q ↦ by_back q.0 q.2
  ]
    where
      by_front : (ks : List ℕ) → cut.before ≡ way.front ++ ks → way.rest ≡ ks ++ slot ∷ cut.after
          → HasWay capacities hold.class m_unlink h_unlink (updates_of h_unlink) (cut.before ++ cut.after) section s
      by_front [] before_is rest_is = way_from section entered s way rest_is
      by_front (k ∷ ks) before_is rest_is = way_past section from s way (k ∷ ks) (λ e. absurd (cc)) before_is rest_is

      by_back : (ks : List ℕ) → slot ∷ cut.after ≡ ks ++ way.rest
          → HasWay capacities hold.class m_unlink h_unlink (updates_of h_unlink) (cut.before ++ cut.after) section s
      by_back [] e = way_from section entered s way (sym e)
      by_back (k ∷ ks) e = way_after section s way ks (let z : slot ∷ cut.after ≡ k ∷ (ks ++ way.rest) = e in cc)

  will_unlink : (section : Section) → section.entered < length h → section.from ≤ length (updates_of h) → (state : SearchState)
      → WillAnswer capacities hold.class m h (updates_of h) chain_now section state
      → WillAnswer capacities hold.class m_unlink h_unlink (updates_of h_unlink) (cut.before ++ cut.after) section state
  will_unlink section entered from Start a = tt
  will_unlink section entered from (Unread s) a = way_unlink section entered from s a
  will_unlink section entered from (Passed s) a = (way_unlink section entered from s a.0, λ e. a.1 (sym (slots_unlink link needs.link_is s).0 ∙ e))
  will_unlink section entered from (Found s) a = (way_unlink section entered from s a.0, (slots_unlink link needs.link_is s).0 ∙ a.1)
  will_unlink section entered from Ended a = said_unlink section None a

  free_unlink : (s : ℕ) → s ≢ slot → IsFreeOfReaders hold.class h vs s → IsFreeOfReaders hold.class h_unlink (set vs id w_unlink) s
  free_unlink s ne free = free_each hold.class h h_unlink vs id w_unlink s (last_unlink s ne)
      (λ p section was is class. free p id v section was seat.at is class) free

  chains_unlink : (first : ℕ) (xs : List ℕ) → IsPath (λ s. m (Chain s)) first xs → IsPath (λ s. m_unlink (Chain s)) first xs
  chains_unlink first xs path = IsPath-same (λ s. m (Chain s)) (λ s. m_unlink (Chain s)) first xs
      (λ s _. (slots_unlink link needs.link_is s).2) path

  abbrev b_unlink : Bucket
  b_unlink = record bucket { chain = cut.before ++ cut.after; hold = Some new_unlink }

  -- H14
  pub law_unlink : MemoryRule capacities places tickets m_unlink (set vs id (after_unlink v hold even link slot key next h)) h_unlink
  law_unlink =
      let held : bucket.hold ≡ Some hold = had seat mine in
      let words = words_unlink link needs.link_is hold.class in
      let other_free : times slot bucket.free ≡ 0 =
      elsewhere bucket.free (λ x. let a = one_role seat mine x in omega arith) in
      let other_retired : times slot bucket.retired ≡ 0 =
      elsewhere bucket.retired (λ x. let a = one_role seat mine x in omega arith) in
      let other_moved : times slot bucket.moved ≡ 0 =
      elsewhere bucket.moved (λ x. let a = one_role seat mine x in omega arith) in
      let other_taken : times slot (option_to_list hold.taken) ≡ 0 =
      elsewhere (option_to_list hold.taken) (λ x. let a = one_role seat mine x in omega arith) in
      after_step seat w_unlink (seats_updated seat mine needs.commit (Del key) new_unlink refl m_unlink words.front
      (Unlinked slot ∷ []) longer_unlink (λ p. refl) open_unlink entered_unlink order_unlink reuse_unlink present_unlink)
      hold.class b_unlink
      (λ _. record {
        chained = record {
          path = cut.path;
          classes = all_from_times (λ s. m_unlink (Key s) % 64 ≡ hold.class) (cut.before ++ cut.after)
              (λ s is. ap (λ z. z % 64) (slots_unlink link needs.link_is s).0
              ∙ all_times (λ t. m (Key t) % 64 ≡ hold.class) chain_now s bucket_rule.chained.classes (in_old s is));
          distinct = HaveDistinctKeys-same m m_unlink (cut.before ++ cut.after)
              (λ s _. let q = slots_unlink link needs.link_is s in (q.0, q.1)) without.0;
        };
        listed = record {
          free = subst (λ z. IsPath (λ s. m_unlink (Chain s)) z bucket.free) (sym words.free)
              (chains_unlink (m (Free hold.class)) bucket.free bucket_rule.listed.free);
          retired = subst (λ z. IsPath (λ s. m_unlink (Chain s)) z bucket.retired) (sym words.retired)
              (chains_unlink (m (Retired hold.class)) bucket.retired bucket_rule.listed.retired);
          moved = chains_unlink (link_of hold.moved) bucket.moved (moved_by seat mine);
        };
        roles = record {
          once = λ x. let a = roles_unlink x in let b = counts x in let n = ap (λ o. times x (option_to_list o)) needs.empty in
              omega arith;
        };
        mapped = record { answers = mapped_unlink };
        locked = locked_by seat hold new_unlink mine refl m_unlink words.lock w_unlink refl refl;
        known = known_after seat mine link next (of_class_unlink link needs.link_is) new_unlink refl;
        ages = record {
          chain = all_from_times (λ s. gone_at s h_unlink ≡ None) (cut.before ++ cut.after)
              (λ s is. gone_unlink s (not_slot (cut.before ++ cut.after) left_out s is)
              ∙ all_times (λ t. gone_at t h ≡ None) chain_now s bucket_rule.ages.chain (in_old s is));
          taken = λ s is. gone_unlink s (not_slot (option_to_list hold.taken) other_taken s
              (let e : times s (option_to_list hold.taken) ≡ 1 =
              ap (λ o. times s (option_to_list o)) is ∙ (let t = times_here s [] in omega arith) in omega arith))
              ∙ bucket_rule.ages.taken s (ap taken_of held ∙ is);
          retired = all_change (IsGone h) (IsGone h_unlink) bucket.retired
              (λ s is p. (p.0, gone_unlink s (not_slot bucket.retired other_retired s is) ∙ p.1)) bucket_rule.ages.retired;
          moved = all_change (IsGone h) (IsGone h_unlink) bucket.moved
              (λ s is p. (p.0, gone_unlink s (not_slot bucket.moved other_moved s is) ∙ p.1)) bucket_rule.ages.moved;
          unlinked = λ s is. let e : slot ≡ s = cc in (length h + 1, ap (λ z. gone_at z h_unlink) (sym e) ∙ gone_here_unlink);
        };
        counted = record {
          readers = words.readers ∙ (counted_still seat hold.class w_unlink refl bucket_rule.counted).readers;
        };
        clean = record {
          free = all_change (IsFreeOfReaders hold.class h vs) (IsFreeOfReaders hold.class h_unlink (set vs id w_unlink)) bucket.free
              (λ s is. free_unlink s (not_slot bucket.free other_free s is)) bucket_rule.clean.free;
          moved = all_change (IsFreeOfReaders hold.class h vs) (IsFreeOfReaders hold.class h_unlink (set vs id w_unlink)) bucket.moved
              (λ s is. free_unlink s (not_slot bucket.moved other_moved s is)) bucket_rule.clean.moved;
          clear = λ other is yes s of. absurd (let e : new_unlink ≡ other = cc in let z : false ≡ true = ap (λ (k : Hold). k.clear) e ∙ yes in
              cc);
        };
        answered = answered_from seat mine w_unlink refl m_unlink h_unlink (updates_of h_unlink)
            (cut.before ++ cut.after) (λ section entered from class state. will_unlink section entered from state) said_unlink;
      })
      (λ d _ ne. record {
        words = class_words capacities hold.class d m next ne link (of_class_unlink link needs.link_is);
        marks = marks_elsewhere seat mine d ne (record { caller = v.place; op = Del key }) class_unlink h_unlink longer_unlink
            (λ s of. gone_unlink s (λ e. ne (one_class capacities d hold.class slot
            (subst (λ z. is_slot_of capacities d z ≡ true) e of) slot_of_unlink)))
            (λ s of. last_unlink s (λ e. ne (one_class capacities d hold.class slot
            (subst (λ z. is_slot_of capacities d z ≡ true) e of) slot_of_unlink)));
        view = elsewhere_held seat d hold new_unlink mine refl ne w_unlink refl refl refl;
      })
