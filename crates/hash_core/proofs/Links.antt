-- The kinds of step that make an update: a slot is linked, a value is replaced.
use Rattle.std.proofs.Common.{◌≡◌, ◌≢◌, ◌⊎◌, ℕ, ◌%◌, ◌<◌, ◌≤◌, true, false, cond, List, [], ◌∷◌, ◌++◌, length, set, Option, Some, None, is_some, refl, sym, ap, subst, ◌∙◌, inl, inr, arith, ne_eqb, option_to_list}
use Rattle.std.specs.FinMap as finite
use mathlib.Core.Logic.{dite}
use mathlib.Core.Option.{some}
use native.Mathlib.Decide.{ℕ_discrete}
use lib.ListN.{get_elem?}
use Rattle.prcu_marks.specs.declared.mark.Mark.{Mark}
use Rattle.prcu_model.specs.declared.operation.Op.{Op}
use Rattle.prcu_model.specs.declared.operation.Op.TheVariants.{Put, Set}
use Rattle.prcu_model.specs.declared.operation.Update.{Update}
use Rattle.prcu_model.specs.Dictionary.{updated, map_of, key_of, WasSaid}
use Rattle.prcu_model.proofs.Dictionaries.{map_of-push, get-updated_other, get-put, get-set}
use Rattle.hash_core.specs.declared.words.Field.TheVariants.{Head, Key, Value, Next}
use Rattle.hash_core.specs.declared.view.SearchState.{SearchState}
use Rattle.hash_core.specs.declared.view.SearchState.TheVariants.{Start, Unread, Passed, Found, Ended}
use Rattle.hash_core.specs.declared.view.Section.{Section}
use Rattle.hash_core.specs.declared.view.Hold.{Hold}
use Rattle.hash_core.specs.declared.view.View.{View}
use Rattle.list_laws.specs.Counts.{times}
use Rattle.hash_core.specs.Memory.{IsPath, Memory, stored, is_slot_of, AreMarks, ReuseByClass}
use Rattle.prcu_marks.specs.Marks.{updates_of, open_at, gone_at, IsGone, entered_at, last_unlinked}
use Rattle.hash_core.specs.Steps.{knowing, ShowsAbsent, IsOnWalk, NeedsLink, after_link, NeedsReplace, after_replace, done_by}
use Rattle.hash_core.specs.Rule.{Bucket, seek, IsFreeOfReaders, taken_of, unlinked_of, HaveDistinctKeys, AreAnswered, WillAnswer, IsHeldBack, HasWay, open_of, BucketRule, MemoryRule}
use Rattle.prcu_model.proofs.ListFacts.{all_map}
use Rattle.list_laws.proofs.Lists.{all_times}
use Rattle.hash_core.proofs.SlotLists.{seek_here, seek_past, seek-same, HaveDistinctKeys-same, slot_within, will_still, whole_path, comes_on, lacks_none, cut_at, seek_some, seek_slot, seek_replaced}
use Rattle.prcu_marks.proofs.Marks.{updates_of-append, entered_at-append, open_at-below, last_unlinked-same}
use Rattle.hash_core.proofs.SeatFrames.{Seated, marks_snoc, open_at-same, gone_at-same, reuse_more, after_step}
use Rattle.hash_core.proofs.Frames.{SameMarks, chain_slot, taken_slot, clean_by, class_words, stored_here, same_self}
use Rattle.prcu_marks.proofs.Callers.{said_longer}
use Rattle.hash_core.proofs.Sections.{free_each}
use Rattle.hash_core.proofs.Locks.{counted_still, locked_by, elsewhere_held, said_after, seats_updated, answered_each}
use Rattle.hash_core.proofs.Stocks.{rule, had, is_known, known_after, roles_by, moved_by}

module _ {capacities : List ℕ} {places tickets : ℕ} {m : Memory} {vs : List View} {h : List Mark} {id : ℕ} {v : View}
    (seat : Seated capacities places tickets m vs h id v) {hold : Hold} (mine : v.hold ≡ Some hold) where
  abbrev bucket : Bucket
  bucket = seat.rule.bucket hold.class

  abbrev bucket_rule : BucketRule capacities hold.class m h (updates_of h) vs bucket
  bucket_rule = rule seat mine

  abbrev chain_now : List ℕ
  chain_now = bucket.chain

  -- a slot on the known walk is linked
  pub on_chain : (slot : ℕ) → IsOnWalk hold slot → 1 ≤ times slot bucket.chain
  on_chain slot on = comes_on hold.known m (λ s n e. (is_known seat mine (Next s) n e).1) on.first on.before chain_now slot on.comes
      (subst (λ z. IsPath (λ s. m (Next s)) z chain_now) (is_known seat mine (Head hold.class) on.first on.head).1 bucket_rule.chained.path)

  -- a key that the known walk lacks is absent
  pub absent_now : (key : ℕ) → ShowsAbsent hold key → seek m key bucket.chain ≡ None
  absent_now key shows =
      let walk_is : chain_now ≡ shows.walk = whole_path hold.known m
      (λ s n e. (is_known seat mine (Next s) n e).1) shows.first shows.walk chain_now shows.whole
      (subst (λ z. IsPath (λ s. m (Next s)) z chain_now)
      (is_known seat mine (Head hold.class) shows.first shows.head).1 bucket_rule.chained.path) in
      ap (seek m key) walk_is ∙ lacks_none hold.known m
      (λ s n e. (is_known seat mine (Key s) n e).1) key shows.walk shows.lacks

  -- a section was entered among the marks, at a front of the updates
  pub section_bounds : (j : ℕ) (u : View) (section : Section) → get_elem? vs j ≡ some u → u.section ≡ Some section
      → (section.entered < length h) × (section.from ≤ length (updates_of h))
  section_bounds j u section there is =
      let o = seat.rule.sections.open_here j u section there is in
      (open_at-below u.place h (open_of section) o.opened, o.since)

  -- readers' answers after a step of a view that stays in its section
  pub answered_from : (w : View) → w.section ≡ v.section → (m' : Memory) (h' : List Mark) (us' : List Update) (chain' : List ℕ)
      → ((section : Section) → section.entered < length h → section.from ≤ length (updates_of h) → section.key % 64 ≡ hold.class
      → (state : SearchState) → WillAnswer capacities hold.class m h (updates_of h) bucket.chain section state
      → WillAnswer capacities hold.class m' h' us' chain' section state)
      → ((section : Section) (answer : Option ℕ) → WasSaid (updates_of h) section.key section.from answer
      → WasSaid us' section.key section.from answer) → AreAnswered capacities hold.class m' h' us' (set vs id w) chain'
  answered_from w same m' h' us' chain' will said =
      answered_each seat hold.class w same bucket_rule.answered (λ j u section there is class told.
      let b = section_bounds j u section there is in
      (will section b.0 b.1 class section.state told.0, λ value read. said section (Some value) (told.1 value read)))

  -- what an update says of the keys of another class
  pub marks_elsewhere : (d : ℕ) → d ≢ hold.class → (u : Update) → key_of u.op % 64 ≡ hold.class → (h' : List Mark)
      → updates_of h' ≡ updates_of h ++ u ∷ [] → ((s : ℕ) → is_slot_of capacities d s ≡ true → gone_at s h' ≡ gone_at s h)
      → ((s : ℕ) → is_slot_of capacities d s ≡ true → last_unlinked s h' ≡ last_unlinked s h)
      → SameMarks capacities d h h' (updates_of h) (updates_of h')
  marks_elsewhere d ne u class h' longer gone last = record {
    more = u ∷ [];
    longer = longer;
    gone = gone;
    last = last;
    pairs = λ key of. ap (λ z. finite.get (map_of z) key) longer ∙ ap (λ z. finite.get z key) (map_of-push (updates_of h) u)
        ∙ get-updated_other (map_of (updates_of h)) u.op key (λ e. ne (sym of ∙ ap (λ z. z % 64) e ∙ class));
  }

  module _ (op : Op) where
    abbrev update : Update
    update = record { caller = v.place; op = op }

    abbrev h_done : List Mark
    h_done = h ++ done_by v op ∷ []

    pub done_longer : updates_of h_done ≡ updates_of h ++ update ∷ []
    done_longer = updates_of-append h (done_by v op ∷ [])

    pub done_gone : (s : ℕ) → gone_at s h_done ≡ gone_at s h
    done_gone s = gone_at-same h (done_by v op) tt s

    pub done_last : (s : ℕ) → last_unlinked s h_done ≡ last_unlinked s h
    done_last s = last_unlinked-same h (done_by v op) tt s

    pub done_open : (p : ℕ) → open_at p h_done ≡ open_at p h
    done_open p = open_at-same h (done_by v op) tt p

    pub done_entered : (p : ℕ) → entered_at p h_done ≡ entered_at p h
    done_entered p = let a = entered_at-append p h (done_by v op ∷ []) in omega arith

    pub done_marks : AreMarks places h_done
    done_marks = marks_snoc places h (done_by v op) tt seat.rule.marks

    pub done_reuse : ReuseByClass capacities h_done
    done_reuse = reuse_more capacities h (done_by v op) (λ s e. absurd (cc)) seat.rule.reuse

    pub free_done : (w : View) → w.section ≡ v.section → (s : ℕ) → IsFreeOfReaders hold.class h vs s
        → IsFreeOfReaders hold.class h_done (set vs id w) s
    free_done w same s free = free_each hold.class h h_done vs id w s (done_last s)
        (λ p section was is class. free p id v section was seat.at (sym same ∙ is) class) free

    pub said_done : (section : Section) (answer : Option ℕ) → WasSaid (updates_of h) section.key section.from answer
        → WasSaid (updates_of h_done) section.key section.from answer
    said_done section answer said = subst (λ z. WasSaid z section.key section.from answer) (sym done_longer)
        (said_longer (updates_of h) (update ∷ []) section.key section.from answer said)

    pub get_done : (key : ℕ) → finite.get (map_of (updates_of h_done)) key ≡ finite.get (updated (map_of (updates_of h)) op) key
    get_done key = ap (λ z. finite.get (map_of z) key) done_longer ∙ ap (λ z. finite.get z key) (map_of-push (updates_of h) update)

    -- an update of the class's key keeps other keys
    pub get_done_other : (key : ℕ) → key ≢ key_of op → finite.get (map_of (updates_of h_done)) key ≡ finite.get (map_of (updates_of h)) key
    get_done_other key ne = get_done key ∙ get-updated_other (map_of (updates_of h)) op key ne

  -- H13
  module _ (even slot key value first : ℕ) (needs : NeedsLink v hold even slot key value first) where
    abbrev new_link : Hold
    new_link = record (knowing hold (Head hold.class) slot) { taken = None }

    abbrev m_link : Memory
    m_link = stored m (Head hold.class) slot

    abbrev h_link : List Mark
    h_link = h ++ done_by v (Put key value) ∷ []

    abbrev w_link : View
    w_link = after_link v hold even slot key value h

    is_key_link : m (Key slot) ≡ key
    is_key_link = (is_known seat mine (Key slot) key needs.key_is).1

    is_value_link : m (Value slot) ≡ value
    is_value_link = (is_known seat mine (Value slot) value needs.value_is).1

    nothing_link : seek m key chain_now ≡ None
    nothing_link = absent_now key needs.absent

    absent_link : finite.contains_key (map_of (updates_of h)) key ≡ false
    absent_link = ap is_some (bucket_rule.mapped.answers key needs.class ∙ nothing_link)

    slot_of_link : is_slot_of capacities hold.class slot ≡ true
    slot_of_link = taken_slot bucket_rule.roles slot (ap taken_of (had seat mine) ∙ needs.taken)

    abbrev b_link : Bucket
    b_link = record bucket { chain = slot ∷ bucket.chain; hold = Some new_link }

    mapped_link : (k : ℕ) → k % 64 ≡ hold.class → finite.get (map_of (updates_of h_link)) k ≡ seek m_link k (slot ∷ chain_now)
    mapped_link k class = dite (ℕ_discrete k key)
        (λ e. subst (λ z. finite.get (map_of (updates_of h_link)) z ≡ seek m_link z (slot ∷ chain_now)) (sym e)
        (get_done (Put key value) key ∙ get-put (map_of (updates_of h)) key value absent_link ∙ ap Some (sym is_value_link)
        ∙ sym (seek_here m_link key slot chain_now is_key_link)))
        (λ ne. get_done_other (Put key value) k ne ∙ bucket_rule.mapped.answers k class
        ∙ sym (seek-same m m_link k chain_now (λ s _. (refl, refl))) ∙ sym (seek_past m_link k slot chain_now (λ e. ne (sym e ∙ is_key_link))))

    distinct_link : HaveDistinctKeys m_link (slot ∷ chain_now)
    distinct_link = (
      seek-same m m_link (m (Key slot)) chain_now (λ s _. (refl, refl)) ∙ ap (λ z. seek m z chain_now) is_key_link ∙ nothing_link,
      HaveDistinctKeys-same m m_link chain_now (λ s _. (refl, refl)) bucket_rule.chained.distinct,
    )

    pub law_link : MemoryRule capacities places tickets m_link (set vs id (after_link v hold even slot key value h)) h_link
    law_link =
        let held : bucket.hold ≡ Some hold = had seat mine in
        after_step seat w_link (seats_updated seat mine needs.commit (Put key value) new_link refl m_link refl []
        (done_longer (Put key value)) (λ p. refl) (done_open (Put key value)) (done_entered (Put key value))
        (done_marks (Put key value)) (done_reuse (Put key value)) absent_link)
        hold.class b_link
        (λ _. record {
          chained = record {
            path = (
              stored_here m (Head hold.class) slot (same_self (Head hold.class)),
              (slot_within capacities hold.class slot slot_of_link).0,
              subst (λ z. IsPath (λ s. m (Next s)) z chain_now)
                  ((is_known seat mine (Head hold.class) first needs.head_is).1
                  ∙ sym (is_known seat mine (Next slot) first needs.next_is).1) bucket_rule.chained.path,
            );
            classes = (ap (λ z. z % 64) is_key_link ∙ needs.class, bucket_rule.chained.classes);
            distinct = distinct_link;
          };
          listed = record {
            free = bucket_rule.listed.free;
            retired = bucket_rule.listed.retired;
            moved = moved_by seat mine;
          };
          roles = record {
            once = λ x. let a = roles_by seat mine x in
                let n = ap (λ o. times x (option_to_list o)) needs.taken in omega arith;
          };
          mapped = record { answers = mapped_link };
          locked = locked_by seat hold new_link mine refl m_link refl w_link refl refl;
          known = known_after seat mine (Head hold.class) slot refl new_link refl;
          ages = record {
            chain = (
              done_gone (Put key value) slot ∙ bucket_rule.ages.taken slot (ap taken_of held ∙ needs.taken),
              all_map (λ s. gone_at s h ≡ None) (λ s. gone_at s h_link ≡ None) chain_now
                  (λ s p. done_gone (Put key value) s ∙ p) bucket_rule.ages.chain,
            );
            taken = λ s is. absurd (cc);
            retired = all_map (IsGone h) (IsGone h_link) bucket.retired
                (λ s p. (p.0, done_gone (Put key value) s ∙ p.1)) bucket_rule.ages.retired;
            moved = all_map (IsGone h) (IsGone h_link) bucket.moved
                (λ s p. (p.0, done_gone (Put key value) s ∙ p.1)) bucket_rule.ages.moved;
            unlinked = λ s is. let p = bucket_rule.ages.unlinked s (ap unlinked_of held ∙ is) in
                (p.0, done_gone (Put key value) s ∙ p.1);
          };
          counted = record { readers = (counted_still seat hold.class w_link refl bucket_rule.counted).readers };
          clean = clean_by capacities hold.class h h_link vs (set vs id w_link) bucket _ (free_done (Put key value) w_link refl)
              refl refl (λ other is yes s of. let e : new_link ≡ other = cc in
              bucket_rule.clean.clear hold held (ap (λ (z : Hold). z.clear) e ∙ yes) s of) bucket_rule.clean;
          answered = answered_from w_link refl m_link h_link (updates_of h_link) (slot ∷ chain_now)
              (λ section entered from class state. will_still (record {
                linked = λ t _. (refl, refl, refl);
                old = λ t _ _. (refl, refl, refl);
                held = λ t _ p. (p.0, done_gone (Put key value) t ∙ p.1, p.2);
                joins = λ front rest e. (slot ∷ front, ap (λ z. slot ∷ z) e);
                said = said_done (Put key value) section;
              }) state)
              (said_done (Put key value));
        })
        (λ d _ ne. record {
          words = class_words capacities hold.class d m slot ne (Head hold.class) refl;
          marks = marks_elsewhere d ne (record { caller = v.place; op = Put key value }) needs.class h_link (done_longer (Put key value))
              (λ s _. done_gone (Put key value) s) (λ s _. done_last (Put key value) s);
          view = elsewhere_held seat d hold new_link mine refl ne w_link refl refl refl;
        })

  -- H15
  module _ (even slot key value : ℕ) (needs : NeedsReplace v hold even slot key) where
    abbrev new_replace : Hold
    new_replace = knowing hold (Value slot) value

    abbrev m_replace : Memory
    m_replace = stored m (Value slot) value

    abbrev h_replace : List Mark
    h_replace = h ++ done_by v (Set key value) ∷ []

    abbrev w_replace : View
    w_replace = after_replace v hold even slot key value h

    is_key_replace : m (Key slot) ≡ key
    is_key_replace = (is_known seat mine (Key slot) key needs.key_is).1

    there_replace : 1 ≤ times slot chain_now
    there_replace = on_chain slot needs.on_walk

    slot_of_replace : is_slot_of capacities hold.class slot ≡ true
    slot_of_replace = chain_slot bucket_rule.roles slot there_replace

    class_replace : key % 64 ≡ hold.class
    class_replace = ap (λ z. z % 64) (sym is_key_replace) ∙ all_times
        (λ s. m (Key s) % 64 ≡ hold.class) chain_now slot bucket_rule.chained.classes there_replace

    found_replace : (old : ℕ) × (seek m key chain_now ≡ Some old)
    found_replace = let f = seek_some m key slot (cut_at slot chain_now there_replace).0 (cut_at slot chain_now there_replace).1 is_key_replace in
        (f.0, ap (seek m key) (cut_at slot chain_now there_replace).2 ∙ f.1)

    present_replace : finite.contains_key (map_of (updates_of h)) key ≡ true
    present_replace = ap is_some (bucket_rule.mapped.answers key class_replace ∙ found_replace.1)

    values_replace : (s : ℕ) → s ≢ slot → m_replace (Value s) ≡ m (Value s)
    values_replace s ne = ap (λ b. cond b value (m (Value s))) (ne_eqb slot s (λ e. ne (sym e)))

    new_value_replace : m_replace (Value slot) ≡ value
    new_value_replace = stored_here m (Value slot) value (same_self (Value slot))

    search_replace : (k : ℕ) (xs : List ℕ) → (seek m_replace k xs ≡ seek m k xs) ⊎ ((m (Key slot) ≡ k) × (seek m_replace k xs ≡ Some value))
    search_replace k xs = seek_replaced m m_replace k slot value xs (λ s. refl) values_replace new_value_replace

    distinct_replace : (xs : List ℕ) → HaveDistinctKeys m xs → HaveDistinctKeys m_replace xs
    distinct_replace [] d = tt
    distinct_replace (x ∷ xs) d = (none_replace (m (Key x)) xs d.0, distinct_replace xs d.1)
      where
        none_replace : (k : ℕ) (xs : List ℕ) → seek m k xs ≡ None → seek m_replace k xs ≡ None
        none_replace k [] e = refl
        none_replace k (y ∷ ys) e = dite (ℕ_discrete (m (Key y)) k)
            (λ same. absurd (let z : Some (m (Value y)) ≡ None = sym (seek_here m k y ys same) ∙ e in cc))
            (λ ne. seek_past m_replace k y ys ne ∙ none_replace k ys (sym (seek_past m k y ys ne) ∙ e))

    mapped_replace : (k : ℕ) → k % 64 ≡ hold.class → finite.get (map_of (updates_of h_replace)) k ≡ seek m_replace k chain_now
    mapped_replace k class = dite (ℕ_discrete k key)
        (λ e. subst (λ z. finite.get (map_of (updates_of h_replace)) z ≡ seek m_replace z chain_now) (sym e)
        (get_done (Set key value) key ∙ get-set (map_of (updates_of h)) key value present_replace ∙ ap Some (sym new_value_replace)
        ∙ sym now_replace))
        (λ ne. get_done_other (Set key value) k ne ∙ bucket_rule.mapped.answers k class
        ∙ elim (search_replace k chain_now) [ inl e ↦ sym e | inr e ↦ absurd (ne (sym e.0 ∙ is_key_replace)) ])
      where
        now_replace : seek m_replace key chain_now ≡ Some (m_replace (Value slot))
        now_replace =
            let cut = cut_at slot chain_now there_replace in
            ap (λ z. seek m_replace z chain_now) (sym is_key_replace) ∙ ap (seek m_replace (m (Key slot))) cut.2
            ∙ seek_slot m_replace slot cut.0 cut.1 (subst (HaveDistinctKeys m_replace) cut.2
            (distinct_replace chain_now bucket_rule.chained.distinct))

    said_way_replace : (section : Section) → section.from ≤ length (updates_of h) → (xs : List ℕ)
        → WasSaid (updates_of h) section.key section.from (seek m section.key xs)
        → WasSaid (updates_of h_replace) section.key section.from (seek m_replace section.key xs)
    said_way_replace section from xs said = elim (search_replace section.key xs) [
      | inl e ↦ subst (WasSaid (updates_of h_replace) section.key section.from) (sym e)
          (said_done (Set key value) section (seek m section.key xs) said)
      | inr e ↦
          let key_is : section.key ≡ key = sym e.0 ∙ is_key_replace in
          subst (WasSaid (updates_of h_replace) section.key section.from) (sym e.1)
          (subst (λ z. WasSaid z section.key section.from (Some value)) (sym (done_longer (Set key value)))
          (said_after (updates_of h) (record { caller = v.place; op = Set key value }) section.key section.from (Some value) from
          (ap (finite.get (updated (map_of (updates_of h)) (Set key value))) key_is
          ∙ get-set (map_of (updates_of h)) key value present_replace)))
    ]

    way_replace : (section : Section) → section.from ≤ length (updates_of h) → (s : ℕ)
        → HasWay capacities hold.class m h (updates_of h) chain_now section s
        → HasWay capacities hold.class m_replace h_replace (updates_of h_replace) chain_now section s
    way_replace section from s way = record {
      olds = way.olds;
      front = way.front;
      rest = way.rest;
      some = way.some;
      path = way.path;
      held = all_map (IsHeldBack h section) (IsHeldBack h_replace section) way.olds
          (λ t p. (p.0, done_gone (Set key value) t ∙ p.1, p.2)) way.held;
      slots = way.slots;
      joins = way.joins;
      said = said_way_replace section from (way.olds ++ way.rest) way.said;
    }

    will_replace : (section : Section) → section.from ≤ length (updates_of h) → (state : SearchState)
        → WillAnswer capacities hold.class m h (updates_of h) chain_now section state
        → WillAnswer capacities hold.class m_replace h_replace (updates_of h_replace) chain_now section state
    will_replace section from Start a = tt
    will_replace section from (Unread s) a = way_replace section from s a
    will_replace section from (Passed s) a = (way_replace section from s a.0, a.1)
    will_replace section from (Found s) a = (way_replace section from s a.0, a.1)
    will_replace section from Ended a = said_done (Set key value) section None a

    pub law_replace : MemoryRule capacities places tickets m_replace (set vs id (after_replace v hold even slot key value h)) h_replace
    law_replace =
        let held : bucket.hold ≡ Some hold = had seat mine in
        let gone : (s : ℕ) → gone_at s h_replace ≡ gone_at s h = done_gone (Set key value) in
        after_step seat w_replace (seats_updated seat mine needs.commit (Set key value) new_replace refl m_replace refl []
        (done_longer (Set key value)) (λ p. refl) (done_open (Set key value)) (done_entered (Set key value))
        (done_marks (Set key value)) (done_reuse (Set key value)) present_replace)
        hold.class (record bucket { hold = Some new_replace })
        (λ _. record {
          chained = record {
            path = bucket_rule.chained.path;
            classes = bucket_rule.chained.classes;
            distinct = distinct_replace chain_now bucket_rule.chained.distinct;
          };
          listed = record {
            free = bucket_rule.listed.free;
            retired = bucket_rule.listed.retired;
            moved = moved_by seat mine;
          };
          roles = record { once = roles_by seat mine };
          mapped = record { answers = mapped_replace };
          locked = locked_by seat hold new_replace mine refl m_replace refl w_replace refl refl;
          known = known_after seat mine (Value slot) value slot_of_replace new_replace refl;
          ages = record {
            chain = all_map (λ s. gone_at s h ≡ None) (λ s. gone_at s h_replace ≡ None) chain_now (λ s p. gone s ∙ p) bucket_rule.ages.chain;
            taken = λ s is. gone s ∙ bucket_rule.ages.taken s (ap taken_of held ∙ is);
            retired = all_map (IsGone h) (IsGone h_replace) bucket.retired (λ s p. (p.0, gone s ∙ p.1)) bucket_rule.ages.retired;
            moved = all_map (IsGone h) (IsGone h_replace) bucket.moved (λ s p. (p.0, gone s ∙ p.1)) bucket_rule.ages.moved;
            unlinked = λ s is. let p = bucket_rule.ages.unlinked s (ap unlinked_of held ∙ is) in (p.0, gone s ∙ p.1);
          };
          counted = record { readers = (counted_still seat hold.class w_replace refl bucket_rule.counted).readers };
          clean = clean_by capacities hold.class h h_replace vs (set vs id w_replace) bucket _ (free_done (Set key value) w_replace refl)
              refl refl (λ other is yes s of. let e : new_replace ≡ other = cc in
              bucket_rule.clean.clear hold held (ap (λ (z : Hold). z.clear) e ∙ yes) s of) bucket_rule.clean;
          answered = answered_from w_replace refl m_replace h_replace (updates_of h_replace) chain_now
              (λ section entered from class state. will_replace section from state) (said_done (Set key value));
        })
        (λ d _ ne. record {
          words = class_words capacities hold.class d m value ne (Value slot) slot_of_replace;
          marks = marks_elsewhere d ne (record { caller = v.place; op = Set key value }) class_replace h_replace (done_longer (Set key value))
              (λ s _. gone s) (λ s _. done_last (Set key value) s);
          view = elsewhere_held seat d hold new_replace mine refl ne w_replace refl refl refl;
        })
