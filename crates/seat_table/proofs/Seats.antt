-- Seats are split and joined, stay quiet, and list their retired slots.
use Rattle.std.proofs.Common.{take, ◌≡◌, ℕ, ◌+◌, ◌-◌, ◌<◌, ◌≤◌, List, [], length, map, Some, refl, sym, ap, subst, ◌∙◌, arith, suc, if◌then◌else◌, ◌∷◌, None, ◌≢◌, not, cond, ◌++◌, drop, ⊎_elim, eq-eqb, ne_eqb}
use Rattle.atomic_table.specs.Table.{State, Splits, Joins}
use Rattle.atomic_table.proofs.Lists.{set_else}
use Rattle.core_state.specs.declared.shape.Shape.{Shape}
use Rattle.core_state.specs.declared.view.Hands.{Hands}
use Rattle.core_state.specs.declared.view.Held.{Held}
use Rattle.core_state.specs.declared.view.Retired.{Retired}
use Rattle.core_state.specs.declared.view.View.{View}
use Rattle.prcu_marks.specs.declared.mark.Mark.{Mark}
use Rattle.list_laws.specs.Counts.{times, numbers_from, IsIn}
use Rattle.core_state.specs.Views.{Works, places_of, IsQuiet, unraised_among}
use Rattle.core_state.specs.Steps.{unknown_slot, NeedsSplit, first_of, second_of, NeedsJoin, both_of, spent_view, meeting_of, spent_places, waited_retired, waited_move}
use Rattle.core_state.specs.Invariant.{Rule}
use Rattle.seat_table.specs.declared.rule.Nothing.{Nothing}
use Rattle.core_frames.proofs.Roles.{quiet_as, slots_in}
use Rattle.core_state.specs.declared.act.Act.TheVariants.{LoadClock}
use Rattle.seat_table.specs.Seats.{SeatAt, IsQuietSeat, KeepsOwn, AreApart, unlisted}
use Rattle.seat_table.specs.Gains.{Sees, TellsNow, Told}
use Rattle.core_laws.proofs.Splitting.{split_keeps, places_count, row_split}
use Rattle.core_laws.proofs.Joining.{join_keeps, spent_places_append, spent_places_are}
use Rattle.prcu_marks.specs.Marks.{own_of, longer}
use mathlib.Core.List.{IsPrefix}
use Rattle.std.proofs.Math.Seq.{take-append_seam}
use Rattle.core_state.specs.declared.view.StepMade.{StepMade}
use Rattle.core_state.specs.declared.view.Waiting.{Waiting}
use Rattle.seat_table.specs.Sections.{IsQuietButSection, HasEntered, HasBegun}
use Rattle.seat_table.specs.Waits.{HasLooked, IsOver}
use Rattle.std.proofs.lemmas.Bool.{cases_eq}
use Rattle.std.proofs.lemmas.List.{drop_more, drop-append-le, length-append}
use mathlib.Core.Option.{some}
use lib.ListN.{get_or}
use Rattle.list_laws.proofs.Lists.{times_append, times_here, times_other}

-- Seats may be split and joined.

module _ (k : Shape) (id : ℕ) (v : View) where
  abbrev Holds : State Nothing View → Type 0
  Holds s = Rule k s.words s.views

  pub seat_splits : (places tickets : ℕ) → NeedsSplit v places tickets
      → Splits Holds id v (first_of places tickets v) (second_of places tickets v)
  seat_splits places tickets needs s r at = record {
    marks = r.marks;
    long = r.long;
    holds = record { now = split_keeps k _ s.views r.marks id places tickets v r.holds.now at needs; within = r.holds.within };
  }

  pub seat_joins : (other : ℕ) (w : View) → Works v → Works w → NeedsJoin v w → Joins Holds id v other w (both_of v w) spent_view
  seat_joins other w works also needs s r at apart there = record {
    marks = r.marks;
    long = r.long;
    holds = record {
      now = join_keeps k _ s.views r.marks id other v w r.holds.now at (sym (set_else s.views id other (both_of v w) apart) ∙ there)
          (λ e. apart (sym e)) works also needs;
      within = r.holds.within;
    };
  }

-- the places of a view that gives some of them away, and of the one that gets them
module _ (v : View) (places tickets : ℕ) (few : places < v.allowance.places) where
  split_places : (p : ℕ) → times p (places_of v)
      ≡ times p (places_of (first_of places tickets v)) + times p (places_of (second_of places tickets v))
  split_places p =
      let e : v.allowance.places ≡ (v.allowance.places - places) + places = omega arith in
      let f : v.allowance.place + (v.allowance.places - places) ≡ v.allowance.place + v.allowance.places - places = omega arith in
      let g = ap (λ z. times p (numbers_from v.allowance.place z)) e in
      let c = row_split p v.allowance.place (v.allowance.places - places) places in
      let d = ap (λ z. times p (numbers_from z places)) f in
      let a = places_count v p in
      let b = places_count (first_of places tickets v) p in
      let x = places_count (second_of places tickets v) p in
      omega arith

  first_sees : (h : List Mark) → Sees v h → Sees (first_of places tickets v) h
  first_sees h s = record { works = omega arith; begins = s.begins; own = λ p has. s.own p (let all = split_places p in omega arith) }

  second_sees : 1 ≤ places → (h : List Mark) → Sees v h → Sees (second_of places tickets v) h
  second_sees some_places h s = record { works = some_places; begins = s.begins; own = λ p has. s.own p (let all = split_places p in omega arith) }

-- what is told of the view that gives places away
pub first_told : (k : Shape) (v w : View) (places tickets : ℕ) → w ≡ first_of places tickets v → places < v.allowance.places → TellsNow k v
    → TellsNow k w
first_told k v w places tickets is few told =
    let t = told.tells in
    subst (TellsNow k) (sym is) (record {
      marks = told.marks;
      sees = first_sees v places tickets few told.marks told.sees;
      word = told.word;
      tells = record {
        some_place = t.some_place;
        some_room = t.some_room;
        loads = t.loads;
        older = t.older;
        alone = t.alone;
        spare_comes = t.spare_comes;
        stood = t.stood;
        once = t.once;
        busy = t.busy;
        aside = t.aside;
        moves = t.moves;
        place_within = t.place_within;
        locks_within = t.locks_within;
        hand_within = t.hand_within;
        spare_within = t.spare_within;
        retired_within = t.retired_within;
        move_within = t.move_within;
        links_within = t.links_within;
        old_links_within = t.old_links_within;
      };
      apart = told.apart;
    })

-- and of one that works at a place for the first time, of which it knows the spare alone
pub second_told : (k : Shape) (v w : View) (places tickets : ℕ) → w ≡ second_of places tickets v → 1 ≤ places → places < v.allowance.places
    → v.allowance.place + v.allowance.places ≤ k.places → TellsNow k v → TellsNow k w
second_told k v w places tickets is some_places few inside told =
    let t = told.tells in
    subst (TellsNow k) (sym is) (record {
      marks = told.marks;
      sees = second_sees v places tickets few some_places told.marks told.sees;
      word = told.word;
      tells = record {
        some_place = t.some_place;
        some_room = t.some_room;
        loads = λ s field held hand. absurd (cc);
        older = λ i r e. absurd (cc);
        alone = λ r rs e. absurd (cc);
        spare_comes = λ none. absurd (cc);
        stood = λ section inside. absurd (cc);
        once = λ s. omega arith;
        busy = λ s lock. absurd (let e = lock.1 in cc);
        aside = λ r s generation kept loaded known. absurd (cc);
        moves = λ move is. absurd (cc);
        place_within = omega arith;
        locks_within = λ s lock. absurd (let e = lock.1 in cc);
        hand_within = λ held hand. absurd (cc);
        spare_within = λ held spare. (let slot : held.slot ≡ v.allowance.place + v.allowance.places - places + 1 = same_slot spare in
            omega arith);
        retired_within = λ i r e. absurd (cc);
        move_within = λ move is. absurd (cc);
        links_within = λ r s generation kept loaded life b child known. absurd (cc);
        old_links_within = λ move is b child known. absurd (cc);
      };
      apart = λ s. omega arith;
    })
  where
    same_slot : {held : Held} {s : ℕ} → Some (unknown_slot s) ≡ Some held → held.slot ≡ s
    same_slot {held} {s} e = let q : unknown_slot s ≡ held = cc in ap (λ (z : Held). z.slot) (sym q)

-- a seat stays quiet where its view has the same hands and is in no other way less quiet
pub still_quiet : (s t : SeatAt) → t.view.section ≡ s.view.section → t.view.locks ≡ s.view.locks → t.view.hands ≡ s.view.hands
    → t.view.moving ≡ s.view.moving → t.view.commit ≡ s.view.commit → t.listed ≡ s.listed → IsQuietSeat s → IsQuietSeat t
still_quiet s t section locks hands moving commit listed q = record {
  view = quiet_as s.view t.view section locks hands moving commit q.view;
  listed = record {
    each = λ slot. subst (λ (z : List ℕ × Hands). times slot z.0 ≡ times slot (map (λ (r : Retired). r.slot) z.1.retired))
        (λ i. (sym listed i, sym hands i)) (q.listed.each slot);
  };
}

pub joined_own : (k : Shape) (v other w : View) (clock : ℕ) → Works other → Told k (both_of v other) LoadClock clock w → KeepsOwn v other w
joined_own k v other w clock works told =
    let both : List Mark = longer v.seen other.seen in
    let cut : take (length both) told.marks ≡ both =
    subst (λ z. take (length both) z ≡ both) told.sees.begins.1 (take-append_seam both told.sees.begins.0) in
    let seen : w.seen ≡ take (length both) told.marks = ap (λ (z : View). z.seen) told.goes ∙ sym cut in
    let first = told.gains.each 0 (meeting_of v both) refl in
    let second = told.gains.each 1 (meeting_of other both) refl in
    record {
      places = λ p.
          let all : places_of w ≡ places_of (both_of v other) = ap places_of told.goes in
          let count = ap (times p) all in
          let mine = places_count v p in
          let both_are = places_count (both_of v other) p in
          let joined = spent_places_append p v.allowance.joined (spent_places other) in
          let theirs = spent_places_are other works p in
          omega arith;
      first_seen = subst (IsPrefix v.seen) (sym seen) first.begins;
      second_seen = subst (IsPrefix other.seen) (sym seen) second.begins;
      first_own = λ p has. ap (own_of p) seen ∙ first.own p has;
      second_own = λ p has. ap (own_of p) seen ∙ second.own p has;
    }

pub joined_own_at : (k : Shape) (v other both w : View) (clock : ℕ) → both ≡ both_of v other → Works other → Told k both LoadClock clock w
    → KeepsOwn v other w
joined_own_at k v other both w clock is works told = joined_own k v other w clock works (subst (λ z. Told k z LoadClock clock w) is told)

-- A quiet seat stays quiet in its waits, and when it has read.

-- the retired slots after a wait: the same ones, with no other generation raised
waited_slots : (wait : Waiting) (rs : List Retired) → slots_in (map (waited_retired wait) rs) ≡ slots_in rs
waited_slots wait [] = refl
waited_slots wait (r ∷ rs) = ap (λ l. r.slot ∷ l) (waited_slots wait rs)

waited_raised : (wait : Waiting) (rs : List Retired) → unraised_among (map (waited_retired wait) rs) ≡ unraised_among rs
waited_raised wait [] = refl
waited_raised wait (r ∷ rs) = ap (λ n. (if r.raised then 0 else 1) + n) (waited_raised wait rs)

waited_length : (wait : Waiting) (rs : List Retired) → length (map (waited_retired wait) rs) ≡ length rs
waited_length wait [] = refl
waited_length wait (r ∷ rs) = ap suc (waited_length wait rs)

-- a begin and a poll that goes on leave what makes a seat quiet
pub begun_quiet : {s t : SeatAt} {low high : ℕ} → HasBegun s.view low high t.view → t.listed ≡ s.listed → IsQuietSeat s → IsQuietSeat t
begun_quiet {s} {t} begun listed quiet =
    let e = begun.others in
    still_quiet s t (ap (λ (z : View). z.section) e) (ap (λ (z : View). z.locks) e) (ap (λ (z : View). z.hands) e)
    (ap (λ (z : View). z.moving) e) (ap (λ (z : View). z.commit) e) listed quiet

pub looked_quiet : {s t : SeatAt} {wait new : Waiting} {steps : List StepMade} → HasLooked s.view wait steps new t.view
    → t.listed ≡ s.listed → IsQuietSeat s → IsQuietSeat t
looked_quiet {s} {t} looked listed quiet =
    let e = looked.others in
    still_quiet s t (ap (λ (z : View). z.section) e) (ap (λ (z : View). z.locks) e) (ap (λ (z : View). z.hands) e)
    (ap (λ (z : View). z.moving) e) (ap (λ (z : View). z.commit) e) listed quiet

-- and so does the poll that ends a wait, which notes what was waited for
pub over_quiet : {k : Shape} {s t : SeatAt} → IsOver k s.view t.view → t.listed ≡ s.listed → IsQuietSeat s → IsQuietSeat t
over_quiet {k} {s} {t} over listed quiet =
    let q : IsQuiet s.view = quiet.view in
    let rs : List Retired = s.view.hands.retired in
    let e = over.ended.others in record {
      view = record {
        section = ap (λ (z : View). z.section) e ∙ q.section;
        locks = ap (λ (z : View). z.locks) e ∙ q.locks;
        reserved = ap (λ (z : View). z.hands.reserved) e ∙ q.reserved;
        hand = ap (λ (z : View). z.hands.hand) e ∙ q.hand;
        moving = ap (λ (z : View). z.moving) e ∙ ap (waited_move over.wait) q.moving;
        owes = ap (λ (z : View). z.hands.owes) e ∙ q.owes;
        commit = ap (λ (z : View). z.commit) e ∙ q.commit;
        raised = ap (λ (z : View). unraised_among z.hands.retired) e ∙ waited_raised over.wait rs ∙ q.raised
            ∙ sym (waited_length over.wait rs) ∙ ap (λ (z : View). length z.hands.retired) (sym e);
      };
      listed = record {
        each = λ slot. ap (times slot) listed ∙ quiet.listed.each slot ∙ ap (times slot) (sym (waited_slots over.wait rs))
            ∙ ap (λ (z : View). times slot (slots_in z.hands.retired)) (sym e);
      };
    }

-- in a section, and when it was left
abbrev outside : SeatAt → SeatAt
outside s = record s { view = record s.view { section = None } }

pub entered_quiet : {s t : SeatAt} {key : ℕ} → HasEntered s.view key t.view → t.listed ≡ s.listed → IsQuietSeat s → IsQuietButSection t
entered_quiet {s} {t} entered listed quiet =
    let e = entered.others in
    record {
      quiet = still_quiet s (outside t) (sym quiet.view.section) (ap (λ (z : View). z.locks) e) (ap (λ (z : View). z.hands) e)
          (ap (λ (z : View). z.moving) e) (ap (λ (z : View). z.commit) e) listed quiet;
    }

-- A list of slots that stand apart, one of which leaves.

-- A list without a slot.
pub unlisted_here : (s : ℕ) (xs : List ℕ) → unlisted s (s ∷ xs) ≡ unlisted s xs
unlisted_here s xs = ap (λ b. cond (not b) (s ∷ unlisted s xs) (unlisted s xs)) (eq-eqb s s refl)

pub unlisted_other : (s x : ℕ) (xs : List ℕ) → x ≢ s → unlisted s (x ∷ xs) ≡ x ∷ unlisted s xs
unlisted_other s x xs ne = ap (λ b. cond (not b) (x ∷ unlisted s xs) (unlisted s xs)) (ne_eqb x s ne)

pub unlisted_none : (s : ℕ) (xs : List ℕ) → times s (unlisted s xs) ≡ 0
unlisted_none s [] = refl
unlisted_none s (x ∷ xs) = ⊎_elim
    (λ (e : x ≡ s). subst (λ y. times s (unlisted s (y ∷ xs)) ≡ 0) (sym e) (ap (times s) (unlisted_here s xs) ∙ unlisted_none s xs))
    (λ (ne : x ≢ s). ap (times s) (unlisted_other s x xs ne) ∙ times_other s x (unlisted s xs) ne ∙ unlisted_none s xs)
    (cases_eq x s)

pub unlisted_else : (s t : ℕ) (xs : List ℕ) → t ≢ s → times t (unlisted s xs) ≡ times t xs
unlisted_else s t [] ne = refl
unlisted_else s t (x ∷ xs) ne = ⊎_elim
    (λ (e : x ≡ s). subst (λ y. times t (unlisted s (y ∷ xs)) ≡ times t (y ∷ xs)) (sym e)
    (ap (times t) (unlisted_here s xs) ∙ unlisted_else s t xs ne ∙ sym (times_other t s xs (λ f. ne (sym f)))))
    (λ (other : x ≢ s). let a = ap (times t) (unlisted_other s x xs other) in let b = unlisted_else s t xs ne in omega arith)
    (cases_eq x s)

-- where it isn't there
pub unlisted_absent : (s : ℕ) (xs : List ℕ) → times s xs ≡ 0 → unlisted s xs ≡ xs
unlisted_absent s [] none = refl
unlisted_absent s (x ∷ xs) none = ⊎_elim
    (λ (e : x ≡ s). absurd (let a : times s (s ∷ xs) ≡ 0 = subst (λ y. times s (y ∷ xs) ≡ 0) e none in let b = times_here s xs in
    omega arith))
    (λ (ne : x ≢ s). unlisted_other s x xs ne
    ∙ ap (λ l. x ∷ l) (unlisted_absent s xs (let a = times_other s x xs ne in omega arith)))
    (cases_eq x s)

-- All of a list that stands apart.
pub apart_rest : (x : ℕ) (xs : List ℕ) → AreApart (x ∷ xs) → AreApart xs
apart_rest x xs apart = record {
  once = λ slot. ⊎_elim
      (λ (e : x ≡ slot). subst (λ y. times y xs ≤ 1) e (let a = apart.once x in let b = times_here x xs in omega arith))
      (λ (ne : x ≢ slot). let a = apart.once slot in let b = times_other slot x xs ne in omega arith)
      (cases_eq x slot);
}

absent_times : (s : ℕ) (xs : List ℕ) → (IsIn xs s → ⊥) → times s xs ≡ 0
absent_times s [] absent = refl
absent_times s (x ∷ xs) absent = ⊎_elim
    (λ (e : x ≡ s). absurd (absent (0, ap some e)))
    (λ (ne : x ≢ s). times_other s x xs ne ∙ absent_times s xs (λ there. absent (suc there.0, there.1)))
    (cases_eq x s)

pub apart_more : (xs : List ℕ) (slot : ℕ) → AreApart xs → (IsIn xs slot → ⊥) → AreApart (xs ++ slot ∷ [])
apart_more xs slot apart absent = record {
  once = λ t. ⊎_elim
      (λ (e : slot ≡ t). subst (λ y. times y (xs ++ slot ∷ []) ≤ 1) e
      (let a = absent_times slot xs absent in let b = times_append slot xs (slot ∷ []) in let d = times_here slot [] in omega arith))
      (λ (ne : slot ≢ t). let a = apart.once t in let b = times_append t xs (slot ∷ []) in let d = times_other t slot [] ne in omega arith)
      (cases_eq slot t);
}

pub apart_unlisted : (s : ℕ) (xs : List ℕ) → AreApart xs → AreApart (unlisted s xs)
apart_unlisted s xs apart = record {
  once = λ t. ⊎_elim
      (λ (e : t ≡ s). subst (λ y. times y (unlisted s xs) ≤ 1) (sym e) (let a = unlisted_none s xs in omega arith))
      (λ (ne : t ≢ s). let a = apart.once t in let b = unlisted_else s t xs ne in omega arith)
      (cases_eq t s);
}

-- The first one leaves.
first_leaves : (x : ℕ) (xs : List ℕ) → AreApart (x ∷ xs) → unlisted x (x ∷ xs) ≡ xs
first_leaves x xs apart = unlisted_here x xs
    ∙ unlisted_absent x xs (let a = apart.once x in let b = times_here x xs in omega arith)

-- It is the first behind those that have gone, and goes like them.
module _ (gone : ℕ) (items : List ℕ) (apart : AreApart (drop gone items)) (some : gone < length items) where
  next_apart : AreApart (get_or items gone 0 ∷ drop (gone + 1) items)
  next_apart = subst AreApart (drop_more items gone 0 some) apart

  pub still_apart : AreApart (drop (gone + 1) items)
  still_apart = apart_rest (get_or items gone 0) (drop (gone + 1) items) next_apart

  pub next_leaves : (slot : ℕ) → get_or items gone 0 ≡ slot → drop (gone + 1) items ≡ unlisted slot (drop gone items)
  next_leaves slot is = subst (λ y. drop (gone + 1) items ≡ unlisted y (drop gone items)) is
      (sym (ap (unlisted (get_or items gone 0)) (drop_more items gone 0 some) ∙ first_leaves (get_or items gone 0) (drop (gone + 1) items) next_apart))

-- One comes behind the others.
pub listed_more : (gone : ℕ) (items xs : List ℕ) (slot : ℕ) → gone ≤ length items → AreApart (drop gone items)
    → (IsIn (drop gone items) slot → ⊥) → xs ≡ items ++ slot ∷ [] → (gone ≤ length xs) × AreApart (drop gone xs)
listed_more gone items xs slot within apart absent is = subst (λ (l : List ℕ). (gone ≤ length l) × AreApart (drop gone l)) (sym is) (
  let a = length-append items (slot ∷ []) in omega arith,
  subst AreApart (sym (drop-append-le gone items (slot ∷ []) within)) (apart_more (drop gone items) slot apart absent),
)

pub moved_more : (items moved xs : List ℕ) (slot : ℕ) → AreApart items → (IsIn items slot → ⊥) → moved ≡ items → xs ≡ moved ++ slot ∷ []
    → (0 ≤ length xs) × AreApart xs
moved_more items moved xs slot apart absent same is =
    (omega arith, subst AreApart (sym (is ∙ ap (λ l. l ++ slot ∷ []) same)) (apart_more items slot apart absent))
