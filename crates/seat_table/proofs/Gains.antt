-- What the rule tells after a step, and that the table allows the steps that keep it.
use Rattle.std.proofs.Common.{◌≡◌, ℕ, ◌*◌, ◌/◌, inl, List, Option, Some, None, refl, sym, ap, subst, ◌∙◌, arith, true, ◌+◌, ◌<◌, ◌≤◌, ◌==◌, ◌-◌, false, cond, [], ◌∷◌, ◌++◌, length, eq-eqb, ne_eqb, append-nil, length-append, Bool, set, slice_index, get_or-set_other, get_or-set_same, length-set}
use mathlib.Core.Option.{some}
use lib.ListN.{get_elem?}
use Rattle.prcu_marks.specs.declared.mark.Mark.{Mark}
use Rattle.prcu_marks.specs.declared.mark.Side.{Side}
use Rattle.core_state.specs.declared.shape.Shape.{Shape}
use Rattle.core_state.specs.declared.words.Field.{Field}
use Rattle.core_state.specs.declared.words.Field.TheVariants.{Life, Key, Value, Front, Free, Lock, State as StateWord}
use Rattle.core_state.specs.declared.view.HeldLock.{HeldLock}
use Rattle.core_state.specs.declared.view.Reading.{Reading}
use Rattle.core_state.specs.declared.view.SearchState.TheVariants.{Found}
use Rattle.core_state.specs.declared.view.View.{View}
use Rattle.list_laws.specs.Counts.{IsIn, times}
use Rattle.list_laws.proofs.Lists.{in_second, at_one, in_first, total_part, at_below}
use Rattle.core_state.specs.Memory.{Memory, slot_count, flag, word_count, word_of, is_field, same_field, memory_of, stored}
use Rattle.core_state.specs.Views.{known_in, known_of, known_under, lock_of, LoadedGeneration, open_reading, readings_of, Works, places_of, joined_retired, slots_of}
use Rattle.core_state.specs.Parts.{StandsWell, map_now}
use Rattle.core_state.specs.Invariant.{HoldsNow, Invariant, Rule}
use Rattle.core_laws.proofs.Locks.{young_locked}
use Rattle.core_laws.proofs.Updates.{Deletion, node_field, node_key, node_marked, node_young, some_node}
use Rattle.seat_table.specs.Gains.{KnowsValue, GivesAnswer, LeavesAnswer, FindsAnswer, AreGone, FindsFull, WasNoOwn, IsOthers, IsCounted, IsListedNow, LooksAgain, MovesAll, Gains, Touches, tells, WordFits}
use mathlib.Core.Logic.{dite}
use native.Mathlib.Decide.{ℕ_discrete}
use Rattle.prcu_marks.specs.declared.mark.Mark.TheVariants.{Left as LeftMark, Began}
use Rattle.prcu_marks.specs.Marks.{updates_of, gone_at, left_by, said_by}
use Rattle.core_laws.proofs.CopyNeeds.{copy_next}
use Rattle.prcu_model.specs.Dictionary.{map_of, WasSaid}
use Rattle.prcu_marks.proofs.Marks.{updates_of-append, gone_at-below}
use Rattle.core_state.specs.declared.view.Retired.{Retired}
use Rattle.core_state.specs.declared.view.Listing.{Listing}
use Rattle.core_state.specs.declared.view.Section.{Section}
use Rattle.prcu_marks.specs.declared.commit.Commit.{Commit}
use Rattle.core_state.specs.Links.{NeedsReserve, with_free, reserving, after_reserve}
use Rattle.core_frames.specs.Laws.{answer_of}
use Rattle.core_frames.proofs.PlainLaws.{searches_are_answered, gone_within, updates_before, follow_here}
use Rattle.core_frames.proofs.PlaceFrames.{front_counts, not_moved, odd_by}
use Rattle.core_state.specs.Steps.{NeedsStoreMoved}
use Rattle.core_frames.proofs.Roles.{works_there, places_apart}
use Rattle.core_frames.proofs.Counting.{empty_is_full}
use Rattle.core_state.specs.declared.act.Act.{Act}
use Rattle.core_state.specs.declared.act.Act.TheVariants.{LoadClock, LeaveByStamp, BeginWait, LoadRetiredLife, Reserve, Seize, Lock as TakeLock, SearchLoad, LinkLeaf, Bypass, LinkCopy, LeaveByCount, LeaveByRow, ReplaceValue, LookAtFront, StoreMoved, LoadMoved}
use Rattle.core_state.specs.Acts.{field_of, noted, Asks, access_of, said, done, marks, section_of, commit_of, spare_of}
use Rattle.core_laws.proofs.Acting.{has_word}
use Rattle.core_laws.proofs.Whole.{acts_keep}
use Rattle.seat_table.proofs.Facts.{is_apart, sees, informed, fits, word_fits, said_fits, stood_inside, has_side, stays_in, still_works, tells_apart, word_below}
use Rattle.core_frames.proofs.Views.{same_is, same_self}
use Rattle.core_laws.proofs.Places.{lies, one_field, word_inside}
use Rattle.atomic_table.specs.Seated.{TableId}
use Rattle.atomic_table.specs.Table.{State, Me, keeps, Allows}
use Rattle.atomic_table.proofs.Lists.{set_here}
use Rattle.seat_table.specs.declared.rule.Nothing.{Nothing}
use Rattle.seat_table.specs.Seats.{TableAt, way_of, with_way, shape_of}
use Rattle.prcu_marks.specs.declared.access.Access.{Access}
use Rattle.core_frames.proofs.Telling.{told_of}
use Rattle.prcu_marks.proofs.Accesses.{made_by, makes}
use Rattle.std.specs.FinMap as finite

-- What the rule tells of a record that a place keeps of a node which it has locked: the node's value is what is known under the lock.

lock_there : (o : Option HeldLock) (field : Field) (n : ℕ) → known_in (known_of o) field ≡ Some n
    → (lock : HeldLock) × (o ≡ Some lock) × (known_in lock.known field ≡ Some n)
lock_there None field n e = absurd (cc)
lock_there (Some lock) field n e = (lock, refl, e)

-- The place keeps this record of a search that found the node, whose life under the lock has the generation that the search loaded.
pub record IsRecordOf (v : View) (node : ℕ) (r : Reading) : Type 0 where
  pub kept : IsIn v.records r
  pub found : (parent : ℕ) × (b : Side) × (value : Option ℕ) × (r.state ≡ Found node parent b value)
  pub generation : ℕ
  pub recorded : LoadedGeneration r node generation
  pub life : known_in (known_under v node) (Life node) ≡ Some (2 * generation)

module _ (k : Shape) (m : Memory) (vs : List View) (h : List Mark) (i : HoldsNow k m vs h) (id : ℕ) (v : View)
    (at : get_elem? vs id ≡ some v) where
  -- the value known under its lock is the dictionary's, where the holder has no move
  pub value_now : (node : ℕ) (r : Reading) (value : ℕ) → v.moving ≡ None → IsRecordOf v node r
      → known_in (known_under v node) (Value node) ≡ Some value → map_now h r.key ≡ Some value
  value_now node r value settled is known =
      let among : IsIn (readings_of v) r = in_second (open_reading v.section) v.records r is.kept in
      let l = lock_there (lock_of v.locks node) (Life node) (2 * is.generation) is.life in
      let now : m (Life node) ≡ 2 * is.generation = (i.locks.known id v at node l.0 l.1).lives r is.generation among is.recorded l.2 in
      let half : m (Life node) / 2 ≡ is.generation = omega arith in
      let well = subst (StandsWell r) is.found.3 (i.readers.readings id v at among.0 r among.1).well in
      let reading = i.locks.readings id v at among.0 r among.1 in
      let key : m (Key node) ≡ r.key = reading.keys node is.recorded.0 r.key is.recorded.1 (half ∙ is.recorded.2) well.1 in
      let linked : i.chart.linked node ≡ true = reading.linked node is.recorded.0 is.recorded.1 (now ∙ ap (λ g. 2 * g) is.recorded.2) in
      let young = young_locked k m vs h i id v at settled node (l.0, l.1) linked in
      let e = i.tree.map.sound node linked well.0.some_slot young in
      let held : known_in l.0.known (Value node) ≡ Some value = subst (λ o. known_in (known_of o) (Value node) ≡ Some value) l.1 known in
      let word : m (Value node) ≡ value = (i.locks.known id v at node l.0 l.1).fields r is.generation value (Value node) among is.recorded
      (inl now) held in
      ap (map_now h) (sym key) ∙ e ∙ ap (λ z. Some z) word

-- The value known under the lock of a marked node is the dictionary's.
pub value_taken : (z : Deletion) → KnowsValue z.who.v z.who.h z.d z.r.key
value_taken z value known =
    let e = z.who.inv.tree.map.sound z.d (node_marked z).0 (some_node z) (node_young z) in
    ap (map_now z.who.h) (sym (node_key z)) ∙ e ∙ ap (λ n. Some n) (node_field z (Value z.d) value known)

-- What the rule tells after a step of a kind.

module _ (k : Shape) (m : Memory) (vs : List View) (h : List Mark) (i : HoldsNow k m vs h) (id : ℕ) (v : View)
    (at : get_elem? vs id ≡ some v) where
  -- what the open section found, the dictionary said
  pub gives : (section : Section) → v.section ≡ Some section → GivesAnswer h section
  gives section inside =
      record {
        absent = λ slot b no_list state. subst (λ z. WasSaid (updates_of h) section.key section.from
            (answer_of m (slot_count k) section.key z)) state (said no_list);
        present = λ slot parent value b no_list state. subst (λ z. WasSaid (updates_of h) section.key section.from
            (answer_of m (slot_count k) section.key z)) state (said no_list);
        there = held;
      }
    where
      said : section.listing ≡ None → WasSaid (updates_of h) section.key section.from
          (answer_of m (slot_count k) section.key section.reading.state)
      said no_list = searches_are_answered k m vs h i section (record { id = id; view = v; there = at; has = (inside, no_list) })

      held : (slot parent : ℕ) (b : Side) → section.listing ≡ None → section.reading.state ≡ Found slot parent b None
          → IsIn section.reading.stood slot → section.reading.key ≡ section.key
          → (value : ℕ) × WasSaid (updates_of h) section.key section.from (Some value)
      held slot parent b no_list state here sought =
          let r : Reading = section.reading in
          let kept = in_first (open_reading v.section) v.records r (subst (λ x. IsIn (open_reading x) r) (sym inside) (0, refl)) in
          let reading = i.readers.readings id v at kept.0 r kept.1 in
          let well = subst (StandsWell r) state reading.well in
          let stood = (i.readers.served id v at section inside).stood slot here in
          let key : m (Key slot) ≡ section.key = stood.key r.key well.1 ∙ sought in (
            m (Value slot),
            subst (WasSaid (updates_of h) section.key section.from) (follow_here m (slot_count k) slot section.key (well.0).some_slot key)
                (subst (λ z. WasSaid (updates_of h) section.key section.from (answer_of m (slot_count k) section.key z)) state
                (said no_list)),
          )

  -- what its turn found counts the updates, until its update is made
  commit_counts : (commit : Commit) → v.commit ≡ Some commit → commit.stored ≡ false → commit.found ≡ 2 * length (updates_of h)
  commit_counts commit mine unmade =
      let all : commit.found + cond commit.stored 2 0 ≡ 2 * length (updates_of h) = (odd_by m vs h id v at i.front commit mine).1 in
      let none : commit.found + cond false 2 0 ≡ 2 * length (updates_of h) =
      subst (λ b. commit.found + cond b 2 0 ≡ 2 * length (updates_of h)) unmade all in
      omega arith

  -- leaving adds no update
  gives_later : (section : Section) (mark : Mark) → updates_of (mark ∷ []) ≡ [] → GivesAnswer h section
      → GivesAnswer (h ++ mark ∷ []) section
  gives_later section mark none gives =
      let same : updates_of (h ++ mark ∷ []) ≡ updates_of h =
      updates_of-append h (mark ∷ []) ∙ ap (λ us. updates_of h ++ us) none ∙ append-nil (updates_of h) in
      record {
        absent = λ slot b no_list state. subst (λ us. WasSaid us section.key section.from None) (sym same)
            (gives.absent slot b no_list state);
        present = λ slot parent value b no_list state. subst (λ us. WasSaid us section.key section.from (Some value)) (sym same)
            (gives.present slot parent value b no_list state);
        there = λ slot parent b no_list state here sought. (let given = gives.there slot parent b no_list state here sought in
            (given.0, subst (λ us. WasSaid us section.key section.from (Some given.0)) (sym same) given.1));
      }

  -- after an update there is one more
  counted : (w : View) (commit : Commit) (marks : List Mark) → w.seen ≡ h ++ marks → length (updates_of marks) ≡ 1 → v.commit ≡ Some commit
      → commit.stored ≡ false → IsCounted v w
  counted w commit marks seen one mine unmade = record {
    found = λ other is.
        let e : length (updates_of w.seen) ≡ length (updates_of h) + length (updates_of marks) =
        ap (λ s. length (updates_of s)) seen ∙ ap length (updates_of-append h marks)
        ∙ length-append (updates_of h) (updates_of marks) in
        let same : Some commit ≡ Some other = sym mine ∙ is in
        let same_commit : commit ≡ other = cc in
        let found : other.found ≡ 2 * length (updates_of h) =
        subst (λ (z : Commit). z.found ≡ 2 * length (updates_of h)) same_commit (commit_counts commit mine unmade) in
        omega arith;
  }

  left_gives : (w : View) (section : Section) → v.section ≡ Some section → w.seen ≡ h ++ LeftMark v.allowance.place section.count ∷ []
      → LeavesAnswer v w
  left_gives w section mine seen = record {
    answer =
        λ other inside. subst (λ s. GivesAnswer s other) (sym seen)
        (gives_later other (LeftMark v.allowance.place section.count) refl (gives other inside));
  }

  -- a slot that was free is none of the view's
  was_no_own : (slot : ℕ) → slot < slot_count k → WasNoOwn v slot (m (StateWord slot))
  was_no_own slot below = record {
    none = λ free.
        let role = i.slots.roles.once slot below in
        let is : flag (m (StateWord slot) == 0) ≡ 1 = ap flag (eq-eqb (m (StateWord slot)) 0 free) in
        let part = total_part (λ (u : View). times slot (slots_of u)) vs id v at in
        omega arith;
  }

  -- a lock is another's, where the view doesn't hold it
  is_others : (slot : ℕ) → slot < slot_count k → Works v → IsOthers v slot (m (Lock slot))
  is_others slot below works = record {
    other = λ none mine.
        let by = i.locks.locked.named slot below (λ e. omega arith) in
        let word = (i.locks.locked.held by.1.id by.1.view by.1.there slot by.0 by.1.has).0 in
        let place : by.1.view.allowance.place ≡ v.allowance.place = omega arith in
        let other_works : Works by.1.view = dite (ℕ_discrete by.1.view.allowance.places 0)
        (λ spent. absurd (let e : None ≡ Some by.0 =
        sym (ap (λ (z : View). lock_of z.locks slot) (i.seats.spent by.1.id by.1.view by.1.there spent)) ∙ by.1.has in cc))
        (λ some_place. omega arith) in
        let same : by.1.id ≡ id = places_apart k.places vs i.seats.placed by.1.id id v.allowance.place by.1.view v by.1.there at
        (subst (λ p. 1 ≤ times p (places_of by.1.view)) place (works_there by.1.view other_works)) (works_there v works) in
        let one : by.1.view ≡ v = at_one vs id by.1.view v (subst (λ z. get_elem? vs z ≡ some by.1.view) same by.1.there) at in
        let e : None ≡ Some by.0 = sym none ∙ ap (λ (z : View). lock_of z.locks slot) (sym one) ∙ by.1.has in
        cc;
  }

  -- a look of a listing whose number is what was found
  looks_again : LooksAgain v h (m Front)
  looks_again = record {
    own = λ commit mine. (odd_by m vs h id v at i.front commit mine).0;
    same = λ section listing inside lists even found.
        let count = (front_counts m vs h i.front).1 even in
        listed section listing inside lists (omega arith);
    held = λ section listing commit inside lists mine unmade found.
        let odd = (odd_by m vs h id v at i.front commit mine).0 in
        let count = commit_counts commit mine unmade in
        listed section listing inside lists (omega arith);
  }
    where
      listed : (section : Section) (listing : Listing) → v.section ≡ Some section → section.listing ≡ Some listing
          → 2 * length (updates_of h) ≤ listing.front → IsListedNow h section listing
      listed section listing inside lists fewer =
          let is = i.listings.listings id v at section listing inside lists in
          let now = is.now fewer in
          let most = is.most in
          let from = (i.seats.sections id v at section inside).from in
          let before = updates_before h section.entered in
          record { front = omega arith; since = omega arith; facts = now.facts; gaps = now.gaps }

  -- who moves the pairs knows all updates
  moves_all : NeedsStoreMoved v → MovesAll v h
  moves_all needs =
      let unmade : Commit = record { found = needs.found; stored = false } in
      record {
        first = sym i.front.last.word ∙ not_moved m vs h id v at i.front unmade needs.commit;
        found = λ commit mine. (let q : Some unmade ≡ Some commit = sym needs.commit ∙ mine in let e : unmade ≡ commit = cc in
            commit_counts commit mine (sym (ap (λ (c : Commit). c.stored) e)));
      }

  -- the retired slots are the table's, and were unlinked before
  are_gone : (w : View) (low high : ℕ) → w.seen ≡ h ++ Began v.allowance.place v.counts.waits low high ∷ [] → AreGone k v w
  are_gone w low high seen = record {
    each = λ r has.
        let there = in_first v.hands.retired (joined_retired v.allowance.joined) r has in
        let gone : gone_at r.slot h ≡ Some r.unlinked = (i.slots.retired id v at there.0 r there.1).unlinked in
        let below : r.unlinked < length h = gone_at-below r.slot h r.unlinked gone in
        let long : length w.seen ≡ length h + 1 = ap length seen ∙ length-append h (Began v.allowance.place v.counts.waits low high ∷ []) in
        (gone_within k m vs h i r.slot r.unlinked gone, omega arith);
  }

  -- where the free count is 0, the dictionary is full
  finds_full : (expected : ℕ) → Works v → NeedsReserve v expected
      → FindsFull k v (m Free) (after_reserve (noted v (Reserve expected) (m Free)) expected (m Free) h)
  finds_full expected works needs = record {
    full = λ none still paid.
        let w : View = after_reserve (noted v (Reserve expected) (m Free)) expected (m Free) h in
        let n : ℕ = m Free in
        let first : (n == expected) ≡ false = ne_eqb n expected (λ e. let some = needs.some in omega arith) in
        let second : (n == 0) ≡ true = eq-eqb n 0 none in
        let u : View = noted v (Reserve expected) n in
        let empty : View = record (with_free u 0) { seen = h } in
        let is : w ≡ empty = ap (λ b. cond b (reserving (with_free u (expected - 1))) (cond (n == 0) empty (with_free u n))) first
        ∙ ap (λ b. cond b empty (with_free u n)) second in
        let seen : w.seen ≡ h = ap (λ (z : View). z.seen) is in
        let retired : w.hands.retired ≡ v.hands.retired = ap (λ (z : View). z.hands.retired) is in
        subst (λ (z : List Mark × List Retired). k.slots ≤ finite.len (map_of (updates_of z.0)) + length z.1 + (k.room + 4) * (k.places - 1))
        (λ i. (sym seen i, sym retired i))
        (empty_is_full k m vs h i id v at (record {
          works = works;
          reserved = needs.unreserved;
          hand = needs.empty;
          owes = paid;
          moving = still;
        }) none);
  }

  -- what the open section of a view has found by a step
  abbrev FindsBy : View → List Mark → Type 0
  FindsBy w marks = (section : Section) → w.section ≡ Some section → GivesAnswer (h ++ marks) section

  -- a load leaves no mark
  finds : (w : View) → FindsBy w [] → FindsAnswer w h
  finds w by = record { answer = λ section inside. subst (λ z. GivesAnswer z section) (append-nil h) (by section inside) }

  -- by the act, what is gained
  pub gains : (a : Act) → Works v → Asks k v a
      → FindsBy (done v a h (m (field_of v.allowance.place a))) (marks v a (m (field_of v.allowance.place a)))
      → Gains k v a h (said v a (m (field_of v.allowance.place a))) (done v a h (m (field_of v.allowance.place a)))
  gains LoadClock works asks by = record { each = (i.seats.owned id v at).joined }
  gains LeaveByStamp works (has, inside) by = left_gives _ (section_of v) inside refl
  gains (BeginWait low high) works asks by = are_gone _ low high refl
  gains (LoadRetiredLife slot) works asks by = is_apart k m vs h i id v at slot
  gains (Reserve expected) works (has, needs) by = finds_full expected works needs
  gains (Seize slot) works (has, needs) by = was_no_own slot has
  gains (TakeLock slot) works (has, needs) by = is_others slot has works
  gains (SearchLoad slot p) works asks by = finds _ by
  gains (LinkLeaf slot b leaf key value) works (has, needs) by =
      counted _ (commit_of v) _ refl refl needs.has_commit.commit_is needs.has_commit.unmade
  gains (Bypass parent b node child key) works (has, needs) by = record {
    counted = counted _ (commit_of v) _ refl refl needs.has_commit.commit_is needs.has_commit.unmade;
    was = subst (λ x. KnowsValue v h node x) needs.sought (value_taken (record {
      who = record { k = k; m = m; vs = vs; h = h; id = id; v = v; inv = i; there = at; works = works };
      commit = commit_of v;
      r = needs.reading;
      p = parent;
      b = b;
      d = node;
      left = needs.left;
      right = needs.right;
      has_commit = needs.has_commit;
      records = needs.records.records;
      marked = needs.marked;
    }));
  }
  gains (LinkCopy parent b node copy old old_parent key next_key) works (has, needs) by =
      record {
        counted = counted _ (commit_of v) _ refl refl needs.has_commit.commit_is needs.has_commit.unmade;
        was = subst (λ x. KnowsValue v h node x) needs.sought (value_taken (record {
          who = record { k = k; m = m; vs = vs; h = h; id = id; v = v; inv = i; there = at; works = works };
          commit = commit_of v;
          r = needs.reading;
          p = parent;
          b = b;
          d = node;
          left = needs.left;
          right = needs.right;
          has_commit = needs.has_commit;
          records = needs.records.records;
          marked = needs.marked;
        }));
        next = copy_next k m vs h id v i at works (commit_of v) (spare_of v) parent b node copy old old_parent key next_key needs;
      }
  gains (ReplaceValue slot key value) works (has, needs) by = record {
    counted = counted _ (commit_of v) _ refl refl needs.has_commit.commit_is needs.has_commit.unmade;
    was = λ old known. subst (λ x. map_now h x ≡ Some old) needs.sought
        (value_now k m vs h i id v at slot needs.reading old
        (i.front.settled id v at (commit_of v) needs.has_commit.commit_is needs.has_commit.unmade)
        (record {
          kept = needs.kept;
          found = needs.found;
          generation = needs.generation;
          recorded = needs.generation_is;
          life = needs.life_now;
        }) known);
  }
  gains (LeaveByCount class side) works (has, needs) by =
      left_gives _ (section_of v) needs.section_is refl
  gains (LeaveByRow class) works (has, needs) by = left_gives _ (section_of v) needs.section_is refl
  gains LookAtFront works asks by = looks_again
  gains StoreMoved works (has, needs) by = moves_all needs
  gains LoadMoved works asks by = i.front.last.word
  gains _ works asks by = tt

-- A store in a word of the table is a store in its field.

-- what is loaded from a field's word
pub memory-word : (k : Shape) (words : List ℕ) (field : Field) → is_field k field ≡ true
    → memory_of k words field ≡ slice_index words (word_of k field)
memory-word k words field is = ap (λ b. cond b (slice_index words (word_of k field)) 0) is

pub memory-stored : (k : Shape) (words : List ℕ) (field : Field) (n : ℕ) → is_field k field ≡ true → length words ≡ word_count k
    → memory_of k (set words (word_of k field) n) ≡ stored (memory_of k words) field n
memory-stored k words field n is long = λ i other. at_field other i
  where
    here : word_of k field < length words
    here = let a = word_inside k field is in omega arith

    read_case : (other : Field) (t u : Bool) → is_field k other ≡ t → same_field field other ≡ u
        → cond t (slice_index (set words (word_of k field) n) (word_of k other)) 0
        ≡ cond u n (cond t (slice_index words (word_of k other)) 0)
    read_case other true true has same =
        let f : field ≡ other = same_is field other same in
        subst (λ z. slice_index (set words (word_of k field) n) (word_of k z) ≡ n) f (get_or-set_same words (word_of k field) n 0 here)
    read_case other true false has same =
        get_or-set_other words (word_of k field) (word_of k other) n 0
        (λ e. let z : true ≡ false = sym (one_field k field other (lies k field is) (lies k other has) (sym e)) ∙ same in absurd (cc))
    read_case other false true has same = absurd (let f : field ≡ other = same_is field other same in
        let z : true ≡ false = sym is ∙ ap (is_field k) f ∙ has in cc)
    read_case other false false has same = refl

    at_field : (other : Field) → memory_of k (set words (word_of k field) n) other ≡ stored (memory_of k words) field n other
    at_field other = read_case other (is_field k other) (same_field field other) refl refl

-- The one border: where a law keeps the invariant, a case of its kind is a step that the table allows.

module _ (k : Shape) (slots id : ℕ) (me : Me Nothing View) (c : Act) (word : ℕ) (is : is_field k (field_of me.0.allowance.place c) ≡ true)
    (at_word : word ≡ word_of k (field_of me.0.allowance.place c)) (works : Works me.0) (asks : Asks k me.0 c) where
  abbrev Holds : State Nothing View → Type 0
  Holds s = Rule k s.words s.views

  abbrev access : Access
  access = access_of me.0.allowance.place c

  allows_field : Allows Holds slots id me (word_of k (field_of me.0.allowance.place c)) (made_by (access_of me.0.allowance.place c))
      (λ n. tells k c me (said_by (access_of me.0.allowance.place c) n))
  allows_field s r len at below =
      let field : Field = (field_of me.0.allowance.place c) in
      let m : Memory = memory_of k s.words in
      let h : List Mark = r.marks in
      let found : m field ≡ slice_index s.words (word_of k field) = memory-word k s.words field is in
      let left : ℕ = left_by access (m field) in
      let w : View = done me.0 c h (m field) in
      let made : List Mark = marks me.0 c (m field) in
      let kept : Invariant k (stored m field left) (set s.views id w) (h ++ made) =
      (acts_keep k m s.views h id me.0 c r.holds at works asks).0 in
      let leaves : made_by access (slice_index s.words (word_of k field)) ≡ left =
      ap (made_by access) (sym found) ∙ makes access (m field) (subst (λ z. z < 18446744073709551616) (sym found) below)
      (fits k m s.views h r.holds.now id me.0 at c asks) in
      let rule : Rule k (set s.words (word_of k field) left) (set s.views id w) = record {
        marks = h ++ made;
        long = length-set s.words (word_of k field) left ∙ r.long;
        holds = subst (λ z. Invariant k z (set s.views id w) (h ++ made)) (sym (memory-stored k s.words field left is r.long)) kept;
      } in
      let there : get_elem? (set s.views id w) id ≡ some w = set_here s.views id w (at_below s.views id me.0 at) in
      let m' : Memory = stored m field left in
      let vs' : List View = set s.views id w in
      let h' : List Mark = h ++ made in
      let still : Works w = still_works k.places s.views id me.0 w at r.holds.now.seats.placed kept.now.seats.placed
      (kept.now.seats.spent id w there) works in
      let telling : tells k c me (said_by access (m field)) (w, me.1) = (
        refl,
        record {
          marks = h';
          sees = sees k m' vs' h' kept.now id w there still;
          word = m';
          tells = told_of k m' vs' h' id w kept.now there still;
          apart = tells_apart k m' vs' h' kept.now id w there;
        },
        record {
          marks = h;
          sees = sees k m s.views h r.holds.now id me.0 at works;
          goes = refl;
          informed = informed k m' vs' h' kept.now id w there;
          fits = said_fits k field access (m field) (word_fits k m s.views h r.holds.now id me.0 at field is)
              (subst (WordFits k field) (ap (λ t. cond t left (m field)) (same_self field))
              (word_fits k m' vs' h' kept.now id w there field is));
          gains = gains k m s.views h r.holds.now id me.0 at c works asks (gives k m' vs' h' kept.now id w there);
          stood = stood_inside k m' vs' h' kept.now id w there;
          side = has_side k m' vs' h' kept.now id w there;
          before = record { word = m; found_is = refl; tells = told_of k m s.views h id me.0 r.holds.now at works };
          stays = stays_in k m' vs' h' kept.now id w there kept.within;
        },
      ) in (
        w,
        keeps,
        tt,
        subst (λ z. Rule k (set s.words (word_of k field) z) (set s.views id w)) (sym leaves) rule,
        subst (λ z. tells k c me (said_by access z) (w, me.1)) found telling,
      )

  -- the access by which the act goes, whichever it is
  pub allows_by : (a : Access) → access_of me.0.allowance.place c ≡ a
      → Allows Holds slots id me word (made_by a) (λ n. tells k c me (said_by a n))
  allows_by a is = subst (λ a. Allows Holds slots id me word (made_by a) (λ n. tells k c me (said_by a n))) is
      (subst (λ i. Allows Holds slots id me i (made_by access) (λ n. tells k c me (said_by access n))) (sym at_word) allows_field)

-- the shape that clauses see is the table's
pub same_shape : (way : ℕ) (key k : Shape) → key.waiter ≡ way_of way → k ≡ with_way way key → k ≡ key
same_shape way key k is same = let e = sym is in
    same ∙ (λ i. record { waiter = e i; slots = key.slots; places = key.places; room = key.room; tickets = key.tickets })

-- the same over the rule of a table, for what a call has picked
pub as_table : (key k picked_shape : Shape) (picked c : Act) (slots id : ℕ) (me : Me Nothing View) (word : ℕ) (f : ℕ → ℕ)
    (then : Shape → Act → ℕ → Me Nothing View → Type 0) → k ≡ key → picked_shape ≡ k → picked ≡ c
    → Allows (λ (s : State Nothing View). Rule k s.words s.views) slots id me word f (then k c)
    → Allows (λ (s : State Nothing View). Rule key s.words s.views) slots id me word f (then picked_shape picked)
as_table key k picked_shape picked c slots id me word f then is same is_case allowed =
    subst (λ (z : Shape × Shape × Act). Allows (λ (s : State Nothing View). Rule z.0 s.words s.views) slots id me word f (then z.1 z.2))
    (λ i. (is i, sym same i, sym is_case i)) allowed

-- What the table asks of an access to the word of an act: that it is the seat's, that there is such a word, and that the rule is kept.
pub allowed : {way : ℕ} {t : TableAt} {key shape : Shape} {picked act : Act} {table here : TableId} {id : ℕ} {me : Me Nothing View}
    {word : ℕ} {field : Field} {access : Access} (a : Access) → access ≡ a → here ≡ table → key.waiter ≡ way_of way
    → shape_of way t ≡ with_way way key → table.words ≡ word_count (shape_of way t) → (shape ≡ shape_of way t) × (picked ≡ act)
    → word ≡ word_of (shape_of way t) field → Touches way t me.0 act access field
    → (here ≡ table) × (word < table.words)
    × Allows (λ (s : State Nothing View). Rule key s.words s.views) table.slots id me word (made_by a)
    (λ n. tells shape picked me (said_by a n))
allowed {way} {t} {key} {shape} {picked} {act} {table} {here} {id} {me} {word} {field} {access} a by mine is same counts picks at
    asks =
    let k : Shape = shape_of way t in
    let place : ℕ = me.0.allowance.place in
    let spot : word ≡ word_of k (field_of place act) = at ∙ ap (word_of k) asks.at in (
      mine,
      word_below way t me.0 act word table.words spot counts asks.asks,
      as_table key k shape picked act table.slots id me word (made_by a) (λ k z n. tells k z me (said_by a n))
          (same_shape way key k is same) picks.0 picks.1
          (allows_by k table.slots id me act word (has_word k (field_of place act) asks.asks.0) spot asks.room.works asks.asks a
          (asks.does ∙ by)),
    )
