-- What the rule tells of a seat and of the words; and that the first words of a table have the rule.
use Rattle.std.proofs.Common.{◌≡◌, ℕ, ◌+◌, ◌*◌, ◌/◌, ◌<◌, ◌≤◌, ◌==◌, zero, suc, ◌&&◌, Bool, true, false, cond, List, [], ◌∷◌, ◌++◌, length, map, take, set, Option, Some, None, refl, length-append, sym, ap, subst, ◌∙◌, ⊎_elim, arith, eq-eqb, ◌-◌, nat_lt, nat_le, get_or, append_assoc}
use Rattle.std.proofs.lemmas.Bool.{ltb-true, and_from, lt-ltb, leb-true, le-leb}
use mathlib.Core.Logic.{dite}
use native.Mathlib.Decide.{ℕ_discrete, dec_le}
use mathlib.Core.Option.{some}
use lib.ListN.{get_elem?}
use Rattle.atomic_table.proofs.Lists.{at_longer}
use Rattle.list_laws.specs.Counts.{IsIn, times, total}
use Rattle.list_laws.proofs.Lists.{at_below, in_first, times_in, total_part, total_set}
use Rattle.prcu_marks.specs.declared.mark.Mark.{Mark}
use Rattle.prcu_marks.specs.declared.mark.Mark.TheVariants.{Began}
use Rattle.prcu_marks.specs.declared.mark.Side.{Side}
use Rattle.prcu_marks.specs.declared.mark.Side.TheVariants.{Left, Right}
use Rattle.prcu_marks.specs.Marks.{updates_of, updates_behind, open_at, last_unlinked, own_of, most_front, most_life, most_tickets, most_turns, left_by, said_by, StaysWord}
use Rattle.prcu_model.specs.Dictionary.{IsLegal, map_of}
use Rattle.prcu_model.specs.declared.operation.Update.{Update}
use Rattle.prcu_model.specs.Fronts.{StaysWithin}
use Rattle.prcu_marks.proofs.Marks.{behind_front, updates_of-append, own_of-append}
use Rattle.core_frames.proofs.PlaceFrames.{moved_small}
use Rattle.prcu_model.proofs.Dictionaries.{AreUpdatesFrom-front}
use Rattle.core_state.specs.declared.shape.Shape.{Shape}
use Rattle.core_state.specs.declared.shape.Waiter.TheVariants.{Domain, Eer, Deer}
use Rattle.core_state.specs.declared.words.Field.{Field}
use Rattle.core_state.specs.declared.words.Field.TheVariants.{Clock, Front, Free, Moved, Count, State as StateWord, Lock, Life, Tag, Announced, Stamp, Gate, Row, Key, Value, Link}
use Rattle.core_state.specs.declared.view.Retired.{Retired}
use Rattle.core_state.specs.declared.view.Section.{Section}
use Rattle.core_state.specs.declared.view.View.{View}
use Rattle.core_state.specs.Memory.{most_free, most_places, Memory, slot_count, word_count, word_of, is_field, sum_below, flag, half, apart, lead, classes, place_room, class_room, row_room, waiter_base, waiter_room, same_waiter, slot_base, lock_base, state_base, room_behind, memory_of, idle}
use Rattle.core_state.specs.Views.{lock_of, Works, places_of, held_list, joined_retired, retired_of, slots_of}
use Rattle.core_state.specs.Marks.{begun, begun_at, Grace, Reuse}
use Rattle.core_state.specs.Links.{IsInHand, IsSpare}
use Rattle.core_state.specs.Parts.{ArePlaced, turns_to_come, inside_count, IsOddHere}
use Rattle.core_state.specs.Steps.{spent_view}
use Rattle.core_state.specs.Invariant.{HoldsNow, first_view, IsFresh, IsShape, Rule}
use Rattle.core_frames.proofs.Roles.{works_there, place_within, slots_count, spares_count, held_there, own_below, own_once, retired_count}
use Rattle.std.proofs.lemmas.List.{take-append-le, get_or_append_left, get_or-append-add, get_or-replicate, length-replicate}
use Rattle.core_frames.proofs.PlainLaws.{gone_within}
use Rattle.core_frames.proofs.Counting.{total_le, places_length, all_places}
use Rattle.key_interval.specs.Keys.{class_of}
use Rattle.seat_table.specs.Seats.{TableAt, shape_of, way_of, with_way, HasPlace, HasFew, alone, key_stamps, waiter_part, first_states, first_words, FirstWordsHold}
use Rattle.core_state.specs.declared.act.Act.{Act}
use Rattle.core_state.specs.declared.act.Act.TheVariants.{BeginWait, CountFree, EnterByCount, LeaveByCount}
use Rattle.prcu_marks.specs.declared.access.Access.{Access}
use Rattle.prcu_marks.specs.declared.access.Access.TheVariants.{Store}
use Rattle.core_state.specs.Acts.{field_of, access_of, Asks, section_of}
use Rattle.core_laws.proofs.Acting.{has_word}
use Rattle.core_frames.proofs.Views.{way_short}
use Rattle.seat_table.specs.Gains.{Sees, IsInformed, WordFits, IsApart, IsSlot, StoodInside, HasSide, StaysIn, TellsApart, TellsNow, Numbers, IsSeat}
use Rattle.core_laws.proofs.Places.{word_inside, lies}
use Rattle.std.specs.Prelude.{replicate}
use Rattle.core_state.specs.declared.shape.Waiter.{Waiter}
use Rattle.core_frames.proofs.Telling.{told_of}
use Rattle.core_laws.proofs.Whole.{tables_begin}
use Rattle.atomic_table.specs.Seated.{TableId}
use Rattle.atomic_table.specs.Table.{Me}
use Rattle.seat_table.specs.declared.rule.Nothing.{Nothing}
use Rattle.std.specs.FinMap as finite

-- What the rule tells of a seat and of the words.

-- a list's beginning has the same elements
at_front : {A : Type 0} (a rest : List A) (i : ℕ) (x : A) → i < length a → get_elem? (a ++ rest) i ≡ some x → get_elem? a i ≡ some x
at_front [] rest i x below e = absurd (omega arith)
at_front (y ∷ ys) rest zero x below e = e
at_front (y ∷ ys) rest (suc i) x below e = at_front ys rest i x (omega arith) e

-- what holds of all marks holds of a beginning of them
grace_front : (a rest : List Mark) → Grace (a ++ rest) → Grace a
grace_front a rest grace i j e p n low high q c x began ended entered before least most =
    let t = grace i j e p n low high q c x (at_longer a rest i _ began) (at_longer a rest j _ ended)
    (at_longer a rest e _ entered) before least most in
    let end = at_below a j _ ended in
    record {
      at = t.at;
      after = t.after;
      before = t.before;
      left = at_front a rest t.at _ (let less = t.before in omega arith) t.left;
    }

reuse_front : (a rest : List Mark) → Reuse (a ++ rest) → Reuse a
reuse_front a rest reuse j s i p m o there reused last opened =
    let below = at_below a j m there in
    let same : take j (a ++ rest) ≡ take j a = take-append-le j a rest (omega arith) in
    reuse j s i p m o (at_longer a rest j m there) reused (ap (last_unlinked s) same ∙ last) (ap (open_at p) same ∙ opened)

begins_none : {A : Type 0} (xs ys : List A) → xs ++ ys ≡ [] → xs ≡ []
begins_none [] ys e = refl
begins_none (x ∷ xs) ys e = absurd (cc)

within_front : (us more : List Update) (slots : ℕ) → StaysWithin (us ++ more) slots → StaysWithin us slots
within_front us more slots all front below =
    let long = length-append us more in
    subst (λ us'. finite.len (map_of us') ≤ slots) (take-append-le front us more below) (all front (omega arith))

-- a place begins no more waits than there are
begun_part : (p : ℕ) (h : List Mark) → begun_at p h ≤ begun h
begun_part p [] = omega arith
begun_part p (Began q n low high ∷ ms) = let rest = begun_part p ms in let one : cond (q == p) 1 0 ≤ 1 = at_most (q == p) in omega arith
  where
    at_most : (b : Bool) → cond b 1 0 ≤ 1
    at_most true = omega arith
    at_most false = omega arith
begun_part p (_ ∷ ms) = begun_part p ms

sum_most : (test : ℕ → Bool) (n : ℕ) → sum_below (λ s. flag (test s)) n ≤ n
sum_most test zero = omega arith
sum_most test (suc n) = let rest = sum_most test n in let one = flag_most (test n) in omega arith
  where
    flag_most : (b : Bool) → flag b ≤ 1
    flag_most true = omega arith
    flag_most false = omega arith

sum_part : (f : ℕ → ℕ) (n s : ℕ) → s < n → f s ≤ sum_below f n
sum_part f zero s below = absurd (omega arith)
sum_part f (suc n) s below = dite (ℕ_discrete s n) (λ e. let same : f s ≡ f n = ap f e in omega arith)
    (λ ne. let rest = sum_part f n s (omega arith) in omega arith)

pub said_fits : (k : Shape) (field : Field) (a : Access) (n : ℕ) → WordFits k field n → WordFits k field (left_by a n)
    → WordFits k field (said_by a n)
said_fits k field (Store x) n found left = left
said_fits k field _ n found left = found

-- a view that worked at a place still does: nobody else answers for its places
pub still_works : (places : ℕ) (vs : List View) (id : ℕ) (v w : View) → get_elem? vs id ≡ some v → ArePlaced places vs
    → ArePlaced places (set vs id w) → (w.allowance.places ≡ 0 → w ≡ spent_view) → Works v → Works w
still_works places vs id v w at before after spent works = dite (ℕ_discrete w.allowance.places 0)
    (λ none.
    let p : ℕ = v.allowance.place in
    let had = works_there v works in
    let moved = total_set (λ (u : View). times p (places_of u)) vs id v w at in
    let same : total (λ (u : View). times p (places_of u)) (set vs id w) ≡ total (λ (u : View). times p (places_of u)) vs =
    after p ∙ sym (before p) in
    let gone : times p (places_of w) ≡ 0 = ap (λ (u : View). times p (places_of u)) (spent none) in
    absurd (omega arith))
    (λ some_place. omega arith)

module _ (k : Shape) (m : Memory) (vs : List View) (h : List Mark) (i : HoldsNow k m vs h) (id : ℕ) (v : View)
    (at : get_elem? vs id ≡ some v) where
  pub sees : Works v → Sees v h
  sees works = record { works = works; begins = i.marks.seen.begins id v at; own = (i.seats.owned id v at).met }

  -- the waits of a place and its tickets are paid for
  few_waits : v.counts.waits + v.allowance.tickets ≤ most_tickets
  few_waits = dite (ℕ_discrete v.allowance.places 0)
      (λ none. let e = i.seats.spent id v at none in let waits : v.counts.waits ≡ 0 = ap (λ (z : View). z.counts.waits) e in
      let tickets : v.allowance.tickets ≡ 0 = ap (λ (z : View). z.allowance.tickets) e in omega arith)
      (λ some_place.
      let counted = (i.seats.counted id v at (omega arith)).waits in
      let part = begun_part v.allowance.place h in
      let clock = i.waiters.clock in
      let paid = i.counts.clock in
      let mine = total_part (λ (u : View). u.allowance.tickets) vs id v at in
      let few = i.table.few_tickets in
      omega arith)

  few_turns : v.counts.turns ≤ most_turns
  few_turns =
      let all = i.counts.turns in
      let mine = total_part (λ (u : View). u.counts.turns + turns_to_come u.wait) vs id v at in
      let paid = i.counts.clock in
      let few = i.table.few_tickets in
      omega arith

  pub informed : IsInformed v
  informed =
      let more = i.marks.seen.begins id v at in record {
        legal = AreUpdatesFrom-front finite.empty (updates_of v.seen) (updates_of more.0)
            (subst IsLegal (ap updates_of (sym more.1) ∙ updates_of-append v.seen more.0) i.front.legal);
        grace = grace_front v.seen more.0 (subst Grace (sym more.1) i.grace.grace);
        reuse = reuse_front v.seen more.0 (subst Reuse (sym more.1) i.grace.reuse);
        few_waits = few_waits;
        few_turns = few_turns;
        last = behind_front v.seen more.0 (ap updates_behind more.1 ∙ i.front.last.none);
      }

  small_clock : m Clock ≤ most_tickets
  small_clock = let paid = i.counts.clock in let few = i.table.few_tickets in omega arith

  small_free : m Free ≤ most_free
  small_free = let free = i.counts.free in let most = sum_most (λ s. m (StateWord s) == 0) (slot_count k) in let a = i.table.few_slots in
      let b = i.table.few_places in omega arith

  pub small_front : m Front ≤ most_front
  small_front =
      let paid = i.counts.clock in
      let few = i.table.few_tickets in
      let moved = moved_small m vs h i.front in
      ⊎_elim (λ free. let is = free.0 in omega arith)
      (λ (made : IsOddHere m vs (length (updates_of h))). let o = made.odd.has in let is = o.word in let updates = o.updates in
      odd_case o.commit.stored o.commit.found refl updates is) i.front.turned
    where
      odd_case : (stored : Bool) (found : ℕ) → stored ≡ stored → found + cond stored 2 0 ≡ 2 * length (updates_of h) → m Front ≡ found + 1
          → m Front ≤ most_front
      odd_case true found e updates is = let paid = i.counts.clock in let few = i.table.few_tickets in omega arith
      odd_case false found e updates is = let paid = i.counts.clock in let few = i.table.few_tickets in omega arith

  -- a class has no more sections open than there are places
  small_count : (c side : ℕ) → k.waiter ≡ Domain → c < 64 → side < 2 → m (Count c side) ≤ most_places
  small_count c side way small few =
      let is = (i.waiters.domain way).counts c side small few in
      let most = total_le (λ (u : View). inside_count c side u.section) (λ (u : View). length (places_of u)) vs
      (λ j u there. one_each u u.section refl (λ section inside. (i.seats.sections j u there section inside).works)) in
      let places = all_places k m vs h i in
      let few_places = i.table.few_places in
      omega arith
    where
      at_most : (b : Bool) → cond b 1 0 ≤ 1
      at_most true = omega arith
      at_most false = omega arith

      one_each : (u : View) (o : Option Section) → u.section ≡ o → ((section : Section) → u.section ≡ Some section → Works u)
          → inside_count c side o ≤ length (places_of u)
      one_each u None e works = omega arith
      one_each u (Some section) e works = let one = at_most (class_of section.key == c && section.stamp == side) in
          let some_place = works section e in let long = places_length u in omega arith

  -- and the view's own is one of them
  own_count : (c side : ℕ) (section : Section) → k.waiter ≡ Domain → c < 64 → side < 2 → v.section ≡ Some section → c ≡ class_of section.key
      → side ≡ section.stamp → 1 ≤ m (Count c side)
  own_count c side section way small few inside at_class at_side =
      let is = (i.waiters.domain way).counts c side small few in
      let part = total_part (λ (u : View). inside_count c side u.section) vs id v at in
      let mine : inside_count c side v.section ≡ 1 =
      ap (inside_count c side) inside ∙ ap (λ b. cond b 1 0)
      (and_from _ _ (eq-eqb (class_of section.key) c (sym at_class)) (eq-eqb section.stamp side (sym at_side))) in
      omega arith

  pub fits : (a : Act) → Asks k v a → StaysWord (access_of v.allowance.place a) (m (field_of v.allowance.place a))
  fits (BeginWait low high) asks = let small = small_clock in omega arith
  fits CountFree asks = let small = small_free in omega arith
  fits (EnterByCount key side) (has, needs) = let small = small_count (class_of key) side has.0 (omega arith) has.2 in omega arith
  fits (LeaveByCount class side) (has, needs) =
      own_count class side (section_of v) has.0 has.1 has.2 needs.section_is needs.class_is needs.side_is
  fits _ asks = tt

  -- the number in a word is small
  lock_small : (s : ℕ) → s < slot_count k → m (Lock s) ≤ k.places
  lock_small s below = dite (ℕ_discrete (m (Lock s)) 0) (λ none. omega arith)
      (λ some_holder.
      let by = i.locks.locked.named s below some_holder in
      let is = (i.locks.locked.held by.1.id by.1.view by.1.there s by.0 by.1.has).0 in
      let works : 1 ≤ by.1.view.allowance.places = dite (ℕ_discrete by.1.view.allowance.places 0)
      (λ none. let none_held : None ≡ Some by.0 = sym
      (ap (λ (z : View). lock_of z.locks s) (i.seats.spent by.1.id by.1.view by.1.there none)) ∙ by.1.has in absurd (cc))
      (λ some_place. omega arith) in
      let place = place_within k.places vs i.seats.placed by.1.id by.1.view.allowance.place by.1.view by.1.there
      (works_there by.1.view works) in
      omega arith)

  life_small : (s : ℕ) → s < slot_count k → m (Life s) ≤ most_life
  life_small s below =
      let part = sum_part (λ t. m (Life t) / 2) (slot_count k) s below in
      let paid = i.counts.generations in
      let few = i.table.few_tickets in
      omega arith

  tag_small : (s : ℕ) (b : Side) → s < slot_count k → m (Tag s b) ≤ most_tickets
  tag_small s Left below = let part = sum_part (λ t. m (Tag t Left) + m (Tag t Right)) (slot_count k) s below in let paid = i.counts.tags in
      let few = i.table.few_tickets in omega arith
  tag_small s Right below = let part = sum_part (λ t. m (Tag t Left) + m (Tag t Right)) (slot_count k) s below in
      let paid = i.counts.tags in let few = i.table.few_tickets in omega arith

  pub word_fits : (field : Field) → is_field k field ≡ true → WordFits k field (m field)
  word_fits Clock has = small_clock
  word_fits Front has = small_front
  word_fits Free has = small_free
  word_fits Moved has = moved_small m vs h i.front
  word_fits (Lock s) has = lock_small s (ltb-true s (slot_count k) has)
  word_fits (Life s) has = life_small s (ltb-true s (slot_count k) has)
  word_fits (Tag s b) has = tag_small s b (ltb-true s (slot_count k) has)
  word_fits _ has = tt

  -- a slot has one role
  pub is_apart : (slot : ℕ) → IsApart v slot
  is_apart slot = record {
    not_both = λ held own j r gone.
        let in_retired = in_first v.hands.retired (joined_retired v.allowance.joined) r (j, gone.0) in
        let listed : 1 ≤ times slot (map (λ (z : Retired). z.slot) (retired_of v)) =
        subst (λ s. 1 ≤ times s (map (λ (z : Retired). z.slot) (retired_of v))) gone.1
        (times_in (λ (z : Retired). z.slot) (retired_of v) r in_retired) in
        let all = slots_count v slot in
        let spares = spares_count v slot in
        let below = own_below m (slot_count k) i.chart vs h i.slots id v at slot (omega arith) in
        let role = i.slots.roles.once slot below in
        let part = total_part (λ (u : View). times slot (slots_of u)) vs id v at in
        ⊎_elim
        (λ (mine : IsInHand v held slot). absurd (let there : 1 ≤ times slot (held_list v.hands.hand) =
        subst (λ s. 1 ≤ times s (held_list v.hands.hand)) mine.1 (held_there v.hands.hand held mine.0) in omega arith))
        (λ (mine : IsSpare v held slot). absurd (let there : 1 ≤ times slot (held_list v.hands.spare) =
        subst (λ s. 1 ≤ times s (held_list v.hands.spare)) mine.1 (held_there v.hands.spare held mine.0) in omega arith))
        own;
  }

  -- each retired slot is there once
  pub tells_apart : TellsApart v
  tells_apart s =
      let once = own_once m (slot_count k) i.chart vs h i.slots id v at s in
      let all = slots_count v s in
      let spares = spares_count v s in
      let back = retired_count v s in
      omega arith

  -- the slots at which an open section stood are the table's
  pub stood_inside : StoodInside k v
  stood_inside = record {
    stood = λ section s inside has. slot (below section s inside has);
    few = λ section inside.
        let short = way_short i.chart section.reading (slot_count k) (i.readers.served id v at section inside).way
        (λ s has. below section s inside has) in
        let slots = i.table.few_slots in
        let places = i.table.few_places in
        record { inside = short; fits = omega (arith, short, slots, places) };
    listed = λ section listing t inside lists has. slot
        (⊎_elim (λ linked. i.tree.shape.within t.slot linked) (λ back. gone_within k m vs h i t.slot back.at back.gone)
        ((i.listings.listings id v at section listing inside lists).visits has.0 t has.1).here);
  }
    where
      below : (section : Section) (s : ℕ) → v.section ≡ Some section → IsIn section.reading.stood s → s < slot_count k
      below section s inside has = ⊎_elim (λ linked. i.tree.shape.within s linked)
          (λ held. let back = held.0 in gone_within k m vs h i s back.at back.gone)
          ((i.readers.served id v at section inside).stood s has).here

      slot : {s : ℕ} → s < slot_count k → IsSlot k s
      slot {s} below = let few = i.table.few_slots in let places = i.table.few_places in record { inside = below; fits = omega arith }

  -- no front of what it has seen has more pairs than slots
  pub stays_in : StaysWithin (updates_of h) k.slots → StaysIn k v
  stays_in all =
      let more = i.marks.seen.begins id v at in
      let whole : updates_of h ≡ updates_of v.seen ++ updates_of more.0 = ap updates_of (sym more.1) ∙ updates_of-append v.seen more.0 in
      record {
        within = within_front (updates_of v.seen) (updates_of more.0) k.slots (subst (λ us. StaysWithin us k.slots) whole all);
        others = λ p past. begins_none (own_of p v.seen) (own_of p more.0)
            (sym (own_of-append p v.seen more.0) ∙ ap (own_of p) more.1 ∙ i.seats.within p past);
      }

  pub has_side : HasSide k v
  has_side = record { small = λ section inside domain. (i.waiters.domain domain).sides id v at section inside }

pub word_below : (way : ℕ) (t : TableAt) (v : View) (a : Act) (word words : ℕ)
    → word ≡ word_of (shape_of way t) (field_of v.allowance.place a) → words ≡ word_count (shape_of way t) → Asks (shape_of way t) v a
    → word < words
word_below way t v a word words at is asks = subst (λ (z : ℕ × ℕ). z.0 < z.1) (λ i. (sym at i, sym is i))
    (word_inside (shape_of way t) (field_of v.allowance.place a) (has_word (shape_of way t) (field_of v.allowance.place a) asks.0))

-- The first words of a table.

stamps_end : (n : ℕ) → key_stamps n ++ key_stamps 1 ≡ key_stamps (suc n)
stamps_end zero = refl
stamps_end (suc n) = ap (λ l. (0 ∷ idle ∷ replicate (place_room - 2) 0) ++ l) (stamps_end n)

pub stamps_more : (old new newer : List ℕ) (i : ℕ) → new ≡ old ++ key_stamps i → newer ≡ new ++ key_stamps 1
    → newer ≡ old ++ key_stamps (i + 1)
stamps_more old new newer i was is = is ∙ ap (λ l. l ++ key_stamps 1) was ∙ append_assoc old (key_stamps i) (key_stamps 1)
    ∙ ap (λ l. old ++ l) (stamps_end i ∙ ap key_stamps (let e : suc i ≡ i + 1 = omega arith in e))

-- what the parts have
length_stamps : (n : ℕ) → length (key_stamps n) ≡ place_room * n
length_stamps zero = refl
length_stamps (suc n) = let rest = length_stamps n in omega arith

length_part : (w : Waiter) (places : ℕ) → length (waiter_part w places) ≡ waiter_room w places
length_part Eer places = length_stamps places
length_part Domain places = length-replicate {A = ℕ} (class_room * classes) 0
length_part Deer places = length-replicate {A = ℕ} (row_room * places) idle

-- a place's pair of words, among those of all places
stamps_at : (n p : ℕ) → p < n → (get_or (key_stamps n) (place_room * p) 0 ≡ 0) × (get_or (key_stamps n) (place_room * p + 1) 0 ≡ idle)
stamps_at zero p small = absurd (omega arith)
stamps_at (suc n) zero small = (refl, refl)
stamps_at (suc n) (suc p) small =
    let rest = stamps_at n p (omega arith) in
    let pair : List ℕ = 0 ∷ idle ∷ replicate (place_room - 2) 0 in
    let e : place_room * suc p ≡ place_room + place_room * p = omega arith in
    let f : place_room * suc p + 1 ≡ place_room + (place_room * p + 1) = omega arith in (
      ap (λ i. get_or (key_stamps (suc n)) i 0) e ∙ get_or-append-add pair (key_stamps n) (place_room * p) 0 ∙ rest.0,
      ap (λ i. get_or (key_stamps (suc n)) i 0) f ∙ get_or-append-add pair (key_stamps n) (place_room * p + 1) 0 ∙ rest.1,
    )

module _ (k : Shape) where
  abbrev ws : List ℕ
  ws = first_words k

  -- the room before the free count, and the free count with its room
  abbrev before : List ℕ
  before = replicate (lead + 2 * apart) 0

  abbrev lines : List ℕ
  lines = replicate (apart + 2 * half * slot_count k) 0

  abbrev used : List ℕ
  used = replicate (k.places + 1) 1

  abbrev unused : List ℕ
  unused = replicate k.slots 0

  abbrev room : List ℕ
  room = replicate (room_behind (slot_count k)) 0

  abbrev part : List ℕ
  part = waiter_part k.waiter k.places

  length_states : length (first_states k) ≡ slot_count k
  length_states =
      let a = length-replicate {A = ℕ} (k.places + 1) 1 in
      let b = length-replicate {A = ℕ} k.slots 0 in
      let c = length-append used unused in
      omega arith

  length_lines : length lines ≡ apart + 2 * half * slot_count k
  length_lines = length-replicate {A = ℕ} (apart + 2 * half * slot_count k) 0

  length_room : state_base k + slot_count k + length room ≡ waiter_base k
  length_room = let a = length-replicate {A = ℕ} (room_behind (slot_count k)) 0 in omega arith

  long : length ws ≡ word_count k
  long =
      let a = length-replicate {A = ℕ} (lead + 2 * apart) 0 in
      let b = length-replicate {A = ℕ} (apart - 1) 0 in
      let c = length_part k.waiter k.places in
      let d = length_lines in
      let e = length_states in
      let f = length-append before (alone k.slots ++ (lines ++ (first_states k ++ (room ++ part)))) in
      let g = length-append (alone k.slots) (lines ++ (first_states k ++ (room ++ part))) in
      let h = length-append lines (first_states k ++ (room ++ part)) in
      let i = length-append (first_states k) (room ++ part) in
      let j = length-append room part in
      let l = length_room in
      omega arith

  -- what stands from the word of a move on
  from_moved : (j : ℕ) → get_or ws (lead + 3 * apart + j) 0 ≡ get_or (lines ++ (first_states k ++ (room ++ part))) j 0
  from_moved j = ap (λ z. get_or ws z 0) (let e : lead + 3 * apart + j ≡ (lead + 2 * apart) + (apart + j) = omega arith in e)
      ∙ get_or-append-add before (alone k.slots ++ (lines ++ (first_states k ++ (room ++ part)))) (apart + j) 0
      ∙ get_or-append-add (alone k.slots) (lines ++ (first_states k ++ (room ++ part))) j 0

  -- the word of a move, and the words of the slots but their states
  zero_at : (j : ℕ) → j < apart + 2 * half * slot_count k → get_or ws (lead + 3 * apart + j) 0 ≡ 0
  zero_at j small = from_moved j ∙ get_or_append_left lines (first_states k ++ (room ++ part)) 0 j (let b = length_lines in omega arith)
      ∙ get_or-replicate (apart + 2 * half * slot_count k) j 0 0 small

  line_at : (i : ℕ) → i < 2 * half * slot_count k → get_or ws (slot_base + i) 0 ≡ 0
  line_at i small = ap (λ z. get_or ws z 0) (let e : slot_base + i ≡ lead + 3 * apart + (apart + i) = omega arith in e)
      ∙ zero_at (apart + i) (omega arith)

  -- what stands from the states on
  from_states : (j : ℕ) → get_or ws (state_base k + j) 0 ≡ get_or (first_states k ++ (room ++ part)) j 0
  from_states j =
      let b = length_lines in
      let e : state_base k + j ≡ lead + 3 * apart + (length lines + j) = omega arith in
      ap (λ z. get_or ws z 0) e ∙ from_moved (length lines + j) ∙ get_or-append-add lines (first_states k ++ (room ++ part)) j 0

  -- the states
  state_at : (s : ℕ) → s < slot_count k → get_or ws (state_base k + s) 0 ≡ cond (nat_le s k.places) 1 0
  state_at s small =
      let c = length-replicate {A = ℕ} (k.places + 1) 1 in
      from_states s ∙ get_or_append_left (first_states k) (room ++ part) 0 s (let d = length_states in omega arith)
      ∙ dite (dec_le s k.places)
      (λ le. get_or_append_left used unused 0 s (omega arith) ∙ get_or-replicate (k.places + 1) s 1 0 (omega arith)
      ∙ ap (λ b. cond b 1 0) (sym (le-leb s k.places le)))
      (λ more.
      let t : ℕ = s - (k.places + 1) in
      let f : s ≡ length used + t = omega arith in
      ap (λ z. get_or (used ++ unused) z 0) f ∙ get_or-append-add used unused t 0 ∙ get_or-replicate k.slots t 0 0 (omega arith)
      ∙ ap (λ b. cond b 1 0) (sym (not_le s k.places more)))
    where
      not_le : (a b : ℕ) → (a ≤ b → ⊥) → nat_le a b ≡ false
      not_le a b more = by_bool (nat_le a b) refl
        where
          by_bool : (t : Bool) → nat_le a b ≡ t → nat_le a b ≡ false
          by_bool true e = absurd (more (leb-true a b e))
          by_bool false e = e

  -- the waiter's words
  part_at : (j : ℕ) → get_or ws (waiter_base k + j) 0 ≡ get_or part j 0
  part_at j =
      let a = length_states in
      let b = length_room in
      let e : waiter_base k + j ≡ state_base k + (length (first_states k) + (length room + j)) = omega arith in
      ap (λ z. get_or ws z 0) e ∙ from_states (length (first_states k) + (length room + j))
      ∙ get_or-append-add (first_states k) (room ++ part) (length room + j) 0 ∙ get_or-append-add room part j 0

  or_none : (b : Bool) (x : ℕ) → (b ≡ true → x ≡ 0) → cond b x 0 ≡ 0
  or_none true x is = is refl
  or_none false x is = refl

  slot_none : (field : Field) (s j : ℕ) → is_field k field ≡ nat_lt s (slot_count k)
      → (s < slot_count k → (word_of k field ≡ slot_base + j) × (j < 2 * half * slot_count k)) → memory_of k ws field ≡ 0
  slot_none field s j of at = or_none (is_field k field) (get_or ws (word_of k field) 0)
      (λ has. let there = at (ltb-true s (slot_count k) (sym of ∙ has)) in ap (λ z. get_or ws z 0) there.0 ∙ line_at j there.1)

  -- a word in the first half of a slot, and in the second
  first_none : (field : Field) (s j : ℕ) → is_field k field ≡ nat_lt s (slot_count k) → word_of k field ≡ slot_base + (half * s + j)
      → j < half → memory_of k ws field ≡ 0
  first_none field s j of at small = slot_none field s (half * s + j) of (λ below. (at, omega arith))

  second_none : (field : Field) (s j : ℕ) → is_field k field ≡ nat_lt s (slot_count k) → word_of k field ≡ lock_base k + (half * s + j)
      → j < half → memory_of k ws field ≡ 0
  second_none field s j of at small = slot_none field s (half * slot_count k + (half * s + j)) of (λ below. (omega arith, omega arith))

  -- the waiter's words by the waiter
  key_at : (w : Waiter) (places p : ℕ) → same_waiter w Eer ≡ true → p < places → get_or (waiter_part w places) (place_room * p) 0 ≡ 0
  key_at Eer places p is small = (stamps_at places p small).0
  key_at _ places p is small = absurd (cc)

  stamp_at : (w : Waiter) (places p : ℕ) → same_waiter w Eer ≡ true → p < places → get_or (waiter_part w places) (place_room * p + 1) 0 ≡ idle
  stamp_at Eer places p is small = (stamps_at places p small).1
  stamp_at _ places p is small = absurd (cc)

  domain_at : (w : Waiter) (places j : ℕ) → same_waiter w Domain ≡ true → j < class_room * classes → get_or (waiter_part w places) j 0 ≡ 0
  domain_at Domain places j is small = get_or-replicate (class_room * classes) j 0 0 small
  domain_at _ places j is small = absurd (cc)

  deer_at : (w : Waiter) (places j : ℕ) → same_waiter w Deer ≡ true → j < row_room * places → get_or (waiter_part w places) j 0 ≡ idle
  deer_at Deer places j is small = get_or-replicate (row_room * places) j idle 0 small
  deer_at _ places j is small = absurd (cc)

  first : (a b : Bool) → (a && b) ≡ true → a ≡ true
  first true b e = refl
  first false b e = absurd (cc)

  link_case : (s : ℕ) (b : Side) → memory_of k ws (Link s b) ≡ 0
  link_case s Left = first_none (Link s Left) s 2 refl (omega arith) (omega arith)
  link_case s Right = first_none (Link s Right) s 3 refl (omega arith) (omega arith)

  tag_case : (s : ℕ) (b : Side) → memory_of k ws (Tag s b) ≡ 0
  tag_case s Left = second_none (Tag s Left) s 2 refl (omega arith) (omega arith)
  tag_case s Right = second_none (Tag s Right) s 3 refl (omega arith) (omega arith)

  has_place : (w : Waiter) (p places : ℕ) → p < places → nat_lt p places ≡ true
  has_place w p places small = lt-ltb p places small

  pub fresh : IsFresh k (memory_of k (first_words k))
  fresh = record {
    clock = refl;
    front = refl;
    free = refl;
    moved = ap (λ z. get_or ws z 0) (let e : lead + 3 * apart ≡ lead + 3 * apart + 0 = omega arith in e) ∙ zero_at 0 (omega arith);
    announced = λ p. or_none (is_field k (Announced p)) (get_or ws (word_of k (Announced p)) 0)
        (λ has. let l = lies k (Announced p) has in part_at (place_room * p) ∙ key_at k.waiter k.places p (first _ _ has) l.2);
    stamps = λ p eer small.
        let is : is_field k (Stamp p) ≡ true = ap (λ w. same_waiter w Eer && nat_lt p k.places) eer ∙ has_place k.waiter p k.places small in
        ap (λ b. cond b (get_or ws (word_of k (Stamp p)) 0) 0) is
        ∙ ap (λ z. get_or ws z 0) (let e : word_of k (Stamp p) ≡ waiter_base k + (place_room * p + 1) = omega arith in e)
        ∙ part_at (place_room * p + 1) ∙ stamp_at k.waiter k.places p (first _ _ is) small;
    gates = λ c. or_none (is_field k (Gate c)) (get_or ws (word_of k (Gate c)) 0)
        (λ has. let l = lies k (Gate c) has in part_at (class_room * c)
        ∙ domain_at k.waiter k.places (class_room * c) (first _ _ has) (let b = l.2 in omega arith));
    counts = λ c side. or_none (is_field k (Count c side)) (get_or ws (word_of k (Count c side)) 0)
        (λ has. let l = lies k (Count c side) has in
        let inside : class_room * c + 1 + side < class_room * classes = (let b = l.2 in let d = l.3 in omega arith) in
        ap (λ z. get_or ws z 0) (let e : word_of k (Count c side) ≡ waiter_base k + (class_room * c + 1 + side) = omega arith in e)
        ∙ part_at (class_room * c + 1 + side) ∙ domain_at k.waiter k.places (class_room * c + 1 + side) (first _ _ has) inside);
    rows = λ p c deer small few.
        let is : is_field k (Row p c) ≡ true = ap (λ w. same_waiter w Deer && (nat_lt p k.places && nat_lt c classes)) deer
        ∙ ap (λ b. b && nat_lt c classes) (has_place k.waiter p k.places small) ∙ has_place k.waiter c classes few in
        ap (λ b. cond b (get_or ws (word_of k (Row p c)) 0) 0) is
        ∙ ap (λ z. get_or ws z 0) (let e : word_of k (Row p c) ≡ waiter_base k + (row_room * p + c) = omega arith in e)
        ∙ part_at (row_room * p + c) ∙ deer_at k.waiter k.places (row_room * p + c) (first _ _ is) (omega arith);
    states = λ s small. ap (λ b. cond b (get_or ws (state_base k + s) 0) 0) (has_place k.waiter s (slot_count k) small) ∙ state_at s small;
    locks = λ s. second_none (Lock s) s 0 refl (omega arith) (omega arith);
    lives = λ s. second_none (Life s) s 1 refl (omega arith) (omega arith);
    keys = λ s. first_none (Key s) s 0 refl (omega arith) (omega arith);
    values = λ s. first_none (Value s) s 1 refl (omega arith) (omega arith);
    links = link_case;
    tags = tag_case;
  }

-- The rule holds of the first words.
pub rule_starts : (k : Shape) (words : List ℕ) → IsShape k → words ≡ first_words k → Rule k words (first_view k ∷ [])
rule_starts k words shape is = subst (λ z. Rule k z (first_view k ∷ [])) (sym is)
    (record { marks = []; long = long k; holds = tables_begin k (memory_of k (first_words k)) shape (fresh k) })

module _ (way : ℕ) (k : Shape) (is : k.waiter ≡ way_of way) (shape : IsShape k) where
  abbrev first_at : TableId → TableAt
  first_at table = record { id = table; slots = k.slots; places = k.places; room = k.room; tickets = k.tickets }

  abbrev first_numbers : Numbers
  first_numbers = record {
    place = 0;
    places = k.places;
    tickets = k.tickets;
    key = None;
    stamp = 0;
    hand = None;
    spare = Some 1;
    waits = 0;
    turns = 0;
    free = k.slots;
    front = 0;
  }

  -- what the first seat has
  pub first_room : (table : TableId) (me : Me Nothing View) → me ≡ (first_view k, [])
      → (me.1 ≡ []) × IsSeat way (first_at table) first_numbers me.0
  first_room table me e = subst (λ (m : Me Nothing View). (m.1 ≡ []) × IsSeat way (first_at table) first_numbers m.0) (sym e) (
    refl,
    record {
      room = room;
      side = side;
      told = told;
      few = few;
      place = refl;
      places = refl;
      tickets = refl;
      key = tt;
      stamp = tt;
      hand = tt;
      spare = refl;
      waits = refl;
      turns = refl;
      free = refl;
      front = refl;
    },
  )
    where
      room : HasPlace (first_at table) (first_view k)
      room = let some_place = shape.some_place in record {
        works = some_place;
        inside = omega arith;
        few_places = shape.few_places;
        some_room = shape.some_room;
        few_room = shape.few_room;
      }

      side : HasSide (shape_of way (first_at table)) (first_view k)
      side = record { small = λ section inside domain. absurd (cc) }

      told : TellsNow (shape_of way (first_at table)) (first_view k)
      told =
          let m : Memory = memory_of k (first_words k) in
          let now = (tables_begin k m shape (fresh k)).now in
          let vs : List View = first_view k ∷ [] in
          record {
            marks = [];
            sees = sees k m vs [] now 0 (first_view k) refl shape.some_place;
            word = m;
            tells = told_of k m vs [] 0 (first_view k) now refl shape.some_place;
            apart = λ s. omega arith;
          }

      few : HasFew (first_view k)
      few = let few_tickets = shape.few_tickets in record { waits = omega arith; turns = omega arith }

  -- what the table has
  pub first_table : (key : Shape) (words : ℕ) → key ≡ k → words ≡ word_count k
      → (words ≡ word_count (with_way way key)) × IsShape (with_way way key) × (key.waiter ≡ way_of way) × (k.slots ≡ key.slots)
      × (k.places ≡ key.places)
  first_table key words e all = subst (λ (z : Shape). (words ≡ word_count (with_way way z)) × IsShape (with_way way z)
      × (z.waiter ≡ way_of way) × (k.slots ≡ z.slots) × (k.places ≡ z.places)) (sym e) (
        all ∙ ap (λ w. word_count (record { waiter = w; slots = k.slots; places = k.places; room = k.room; tickets = k.tickets })) is,
        record {
          some_slot = shape.some_slot;
          few_slots = shape.few_slots;
          some_place = shape.some_place;
          few_places = shape.few_places;
          some_room = shape.some_room;
          few_room = shape.few_room;
          few_tickets = shape.few_tickets;
        },
        is,
        refl,
        refl,
      )

pub first_long : (k : Shape) (words : List ℕ) → words ≡ first_words k → length words ≡ word_count k
first_long k words is = ap length is ∙ long k

pub first_words_hold : FirstWordsHold
first_words_hold k shape = (long k, fresh k, rule_starts k (first_words k) shape refl)
