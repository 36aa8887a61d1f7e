-- Tries, the front taken and held, and what a list or a search tells by them.
-- A try: a section is entered, the front is looked at, pairs are loaded, and it is left.
use Rattle.std.proofs.Common.{◌≡◌, ℕ, suc, ◌+◌, cond, Bool, true, false, List, [], ◌∷◌, ◌++◌, length, Option, Some, None, refl, sym, ap, subst, ◌∙◌, arith, eq-eqb, append_assoc, append-nil, length-append, ◌≢◌, ◌%◌, ne_eqb, ◌*◌, ◌/◌, ◌==◌, ◌≤◌, take, inl, inr, ◌<◌}
use mathlib.Core.List.{IsPrefix}
use Rattle.prcu_model.proofs.ListFacts.{prefix_trans}
use Rattle.prcu_marks.specs.declared.mark.Mark.TheVariants.{Entered, Left}
use Rattle.prcu_marks.specs.Marks.{own_of, updates_of}
use Rattle.core_state.specs.declared.shape.Shape.{Shape}
use Rattle.core_state.specs.declared.words.Field.TheVariants.{Front}
use Rattle.core_state.specs.declared.words.Kind.{Kind}
use Rattle.core_state.specs.declared.view.Listing.{Listing}
use Rattle.core_state.specs.declared.view.Look.{Look}
use Rattle.core_state.specs.declared.view.Section.{Section}
use Rattle.core_state.specs.declared.view.View.{View}
use Rattle.core_state.specs.Steps.{new_listing, looked, with_front}
use Rattle.core_frames.proofs.Roles.{works_there}
use Rattle.core_state.specs.declared.act.Act.TheVariants.{LookAtFront, GiveFrontBack}
use Rattle.core_state.specs.Acts.{noted, Asks, section_of}
use Rattle.core_laws.proofs.Acting.{section_is, may_look_at_front}
use Rattle.seat_table.specs.Seats.{SeatAt, IsQuietSeat}
use Rattle.seat_table.specs.Gains.{Told, IsAsked, IsListedNow}
use Rattle.seat_table.specs.Sections.{Makes, is_entry, is_exit, HasEntered, HasLeft}
use Rattle.seat_table.proofs.Seats.{still_quiet}
use Rattle.seat_table.proofs.SeveralSteps.{made_none, made_more, made_both, seen_more, own_more}
use Rattle.exact_list.specs.Tries.{Try, numbers_of, looks_of, looks_from, marks_from, is_load, is_look, is_of_list, HasTried, IsListing, HasLoaded, is_exchange, LosesFront, TakesFront, GivesFrontBack, HasGivenWay, HasMoved, Paged, IsWholeTo, IsPartTo, low_before, end_before, IsBetweenFronts, IsRecent, HasStood, EndAs, Gathers}
use Rattle.core_state.specs.declared.words.Kind.TheVariants.{K19}
use Rattle.core_state.specs.Memory.{IsEven, IsOdd}
use Rattle.std.proofs.Math.Seq.{take-append_seam}
use mathlib.Core.Logic.{dite}
use native.Mathlib.Decide.{ℕ_discrete}
use Rattle.prcu_model.specs.Dictionary.{map_of}
use Rattle.prcu_marks.specs.declared.mark.Mark.{Mark}
use Rattle.prcu_marks.proofs.Marks.{updates_of-append, updates_below}
use Rattle.core_state.specs.declared.view.Fact.{Fact}
use Rattle.core_state.specs.declared.view.Gap.{Gap}
use Rattle.core_state.specs.declared.view.StepMade.{StepMade}
use Rattle.prcu_marks.specs.declared.commit.Commit.{Commit}
use Rattle.core_state.specs.Parts.{map_now}
use Rattle.key_interval.specs.Keys.{Interval}
use Rattle.list_laws.specs.Counts.{Each}
use Rattle.core_frames.proofs.First.{each_one, each_none, each_append}
use Rattle.exact_list.specs.declared.listing.Listed.{Listed}
use Rattle.exact_list.specs.declared.listing.Listed.TheVariants.{Whole, Part, Moved}
use Rattle.exact_list.specs.Pairs.{Pair, had_at, ArePairsTo, fact_of, Cover}
use Rattle.exact_list.specs.Loads.{HoldsUpTo, loads_of, HasWalked, HasListedAlone, HasListed, IsNearest, IsInGap, FindsNearest, ComesBy, IsTold}
use Rattle.exact_list.proofs.Counting.{quiet_look, quiet_entry, quiet_exit, walked_within}
use Rattle.exact_list.proofs.Walking.{covers_exact}
use Rattle.prcu_marks.specs.declared.mark.Side.{Side}
use Rattle.exact_list.specs.declared.nearest.Found.{Found}
use Rattle.exact_list.specs.declared.nearest.Nearest.{Nearest}
use Rattle.core_state.specs.declared.words.Kind.TheVariants as kinds
use Rattle.core_state.specs.declared.act.Act.TheVariants as acts
use Rattle.std.specs.FinMap as finite

-- the section is a listing since its first look
abbrev pub Lists : Option Listing → List ℕ → Type 0
Lists o [] = o ≡ None
Lists o (n ∷ ns) = (listing : Listing) × (o ≡ Some listing) × (listing.front ≡ n)

-- From the view v a section with the key was entered. Since then there were these looks at the front, and loads of the listing.
pub record InTry (v : View) (key : ℕ) (numbers : List ℕ) (w : View) : Type 0 where
  pub section : Section
  pub inside : w.section ≡ Some section
  pub count : section.count ≡ v.counts.sections
  pub unread : section.reading.loads ≡ []
  pub lists : Lists section.listing numbers
  pub seen : IsPrefix v.seen w.seen
  pub own : own_of v.allowance.place w.seen ≡ own_of v.allowance.place v.seen ++ Entered v.allowance.place v.counts.sections key ∷ []
  pub looks : w.looks ≡ v.looks ++ looks_of v.allowance.place v.counts.sections numbers
  pub made : Makes is_of_list v.trail w.trail
  pub others : w ≡ record v {
    enter = w.enter;
    section = w.section;
    counts = record v.counts { sections = v.counts.sections + 1 };
    latest = record v.latest { front = w.latest.front };
    looks = w.looks;
    trail = w.trail;
    seen = w.seen;
  }

-- the kinds of step of a list are those of its parts
either_true : (a : Bool) → cond a true true ≡ true
either_true true = refl
either_true false = refl

of_exit : (kind : Kind) → is_exit kind ≡ true → is_of_list kind ≡ true
of_exit kind e =
    ap (λ z. cond (is_load kind) true (cond (is_look kind) true (cond (is_entry kind) true z))) e
    ∙ ap (λ z. cond (is_load kind) true (cond (is_look kind) true z)) (either_true (is_entry kind))
    ∙ ap (λ z. cond (is_load kind) true z) (either_true (is_look kind)) ∙ either_true (is_load kind)

of_entry : (kind : Kind) → is_entry kind ≡ true → is_of_list kind ≡ true
of_entry kind e =
    ap (λ z. cond (is_load kind) true (cond (is_look kind) true (cond z true (is_exit kind)))) e
    ∙ ap (λ z. cond (is_load kind) true z) (either_true (is_look kind)) ∙ either_true (is_load kind)

of_load : (kind : Kind) → is_load kind ≡ true → is_of_list kind ≡ true
of_load kind e = ap (λ z. cond z true (cond (is_look kind) true (cond (is_entry kind) true (is_exit kind)))) e

looks_of-append : (place section : ℕ) (ms ns : List ℕ)
    → looks_of place section (ms ++ ns) ≡ looks_of place section ms ++ looks_of place section ns
looks_of-append place section [] ns = refl
looks_of-append place section (m ∷ ms) ns = ap (λ (l : List Look). record { place = place; section = section; front = m } ∷ l)
    (looks_of-append place section ms ns)

module _ (v : View) (key : ℕ) where
  pub entered_try : (w : View) → HasEntered v key w → InTry v key [] w
  entered_try w e = subst (InTry v key []) (sym e.others) (record {
    section = e.section;
    inside = e.inside;
    count = e.count_is;
    unread = ap (λ r. r.loads) e.reading_is;
    lists = e.no_list;
    seen = seen_more v w (Entered v.allowance.place v.counts.sections key) e.leaves;
    own = own_more v w (Entered v.allowance.place v.counts.sections key) (eq-eqb v.allowance.place v.allowance.place refl) e.leaves;
    looks = sym (append-nil v.looks);
    made = made_both is_entry is_of_list is_of_list of_entry (λ kind is. is) v.trail w.trail w.trail e.made (made_none is_of_list w.trail);
    others = refl;
  })

  module _ (numbers : List ℕ) (u : View) (i : InTry v key numbers u) where
    pub may_look : (k : Shape) → Asks k u LookAtFront
    may_look k = (tt, may_look_at_front u i.inside i.unread)

    place_is : u.allowance.place ≡ v.allowance.place
    place_is = ap (λ (z : View). z.allowance.place) i.others

    lists_again : (n : ℕ) (ns : List ℕ) (o : Option Listing) → Lists o ns → Lists (looked n o) (ns ++ n ∷ [])
    lists_again n [] o lists = (new_listing n, ap (looked n) lists, refl)
    lists_again n (m ∷ ns) o lists = (lists.0, ap (looked n) lists.1, lists.2)

    -- the front is looked at
    pub looked_try : (k : Shape) (n : ℕ) (w : View) → Told k u LookAtFront n w → InTry v key (numbers ++ n ∷ []) w
    looked_try k n w t =
        let now : Section = section_of u in
        let same : now ≡ i.section = section_is u i.section i.inside in
        let x : View = noted u LookAtFront n in
        let h = t.marks in
        let count : now.count ≡ v.counts.sections = ap (λ (z : Section). z.count) same ∙ i.count in
        let look : Look = record { place = v.allowance.place; section = v.counts.sections; front = n } in
        let own : own_of u.allowance.place u.seen ≡ own_of u.allowance.place h =
        t.sees.own u.allowance.place (works_there u t.sees.works) in
        subst (InTry v key (numbers ++ n ∷ [])) (sym t.goes) (record {
          section = record now { listing = looked n now.listing };
          inside = refl;
          count = count;
          unread = ap (λ (z : Section). z.reading.loads) same ∙ i.unread;
          lists = lists_again n numbers now.listing (subst (λ (z : Section). Lists z.listing numbers) (sym same) i.lists);
          seen = prefix_trans v.seen u.seen h i.seen t.sees.begins;
          own = sym (subst (λ p. own_of p u.seen ≡ own_of p h) place_is own) ∙ i.own;
          looks = (λ j. i.looks j ++ record { place = place_is j; section = count j; front = n } ∷ [])
              ∙ append_assoc v.looks (looks_of v.allowance.place v.counts.sections numbers) (look ∷ [])
              ∙ ap (λ l. v.looks ++ l) (sym (looks_of-append v.allowance.place v.counts.sections numbers (n ∷ [])));
          made = made_more is_of_list v.trail u kinds.K37 Front n refl i.made;
          others = λ j. record (i.others j) {
            section = Some (record now { listing = looked n now.listing });
            latest = record ((i.others j).latest) { front = Some n };
            looks = u.looks ++ record { place = u.allowance.place; section = now.count; front = n } ∷ [];
            trail = x.trail;
            seen = h;
          };
        })

    module _ (w : View) (l : HasLoaded u w) where
      same_section : ◌≡◌ {A = Section} l.section i.section
      same_section = let one : Some l.section ≡ Some i.section = sym l.was ∙ i.inside in cc

      lists_on : (ns : List ℕ) → Lists l.section.listing ns → Lists (Some l.after) ns
      lists_on [] none = absurd (let e : Some l.before ≡ None = sym l.lists ∙ none in cc)
      lists_on (n ∷ ns) x = (let e : Some l.before ≡ Some x.0 = sym l.lists ∙ x.1 in let same : ◌≡◌ {A = Listing} l.before x.0 = cc in
          (l.after, refl, l.more.front ∙ ap (λ (z : Listing). z.front) same ∙ x.2))

      -- pairs are loaded
      pub loaded_try : InTry v key numbers w
      loaded_try = subst (InTry v key numbers) (sym l.others) (record {
        section = record l.section { listing = Some l.after };
        inside = refl;
        count = ap (λ (z : Section). z.count) same_section ∙ i.count;
        unread = ap (λ (z : Section). z.reading.loads) same_section ∙ i.unread;
        lists = lists_on numbers (subst (λ (z : Section). Lists z.listing numbers) (sym same_section) i.lists);
        seen = i.seen;
        own = i.own;
        looks = i.looks;
        made = made_both is_of_list is_load is_of_list (λ kind is. is) of_load v.trail u.trail w.trail i.made l.made;
        others = λ j. record (i.others j) { section = Some (record l.section { listing = Some l.after }); trail = w.trail };
      })

    -- the section is left
    pub left_try : (w : View) → v.section ≡ None → HasLeft u w → (t : Try) → numbers_of t ≡ numbers → HasTried v key (t ∷ []) w
    left_try w outside l t is =
        let one : Some l.section ≡ Some i.section = sym l.was ∙ i.inside in
        let same : ◌≡◌ {A = Section} l.section i.section = cc in
        let count : l.section.count ≡ v.counts.sections = ap (λ (z : Section). z.count) same ∙ i.count in
        let own : own_of u.allowance.place w.seen ≡ own_of u.allowance.place u.seen ++ Left u.allowance.place l.section.count ∷ [] =
        own_more u w (Left u.allowance.place l.section.count) (eq-eqb u.allowance.place u.allowance.place refl) l.leaves in
        let mine : own_of v.allowance.place w.seen ≡ own_of v.allowance.place u.seen ++ Left v.allowance.place v.counts.sections ∷ [] =
        subst (λ (z : ℕ × ℕ). own_of z.0 w.seen ≡ own_of z.0 u.seen ++ Left z.0 z.1 ∷ []) (λ j. (place_is j, count j)) own in
        let looks : v.looks ++ looks_of v.allowance.place v.counts.sections numbers ≡ v.looks
        ++ looks_from v.allowance.place v.counts.sections (t ∷ []) =
        ap (λ ns. v.looks ++ looks_of v.allowance.place v.counts.sections ns) (sym is)
        ∙ ap (λ l. v.looks ++ l) (sym (append-nil (looks_of v.allowance.place v.counts.sections (numbers_of t)))) in
        subst (HasTried v key (t ∷ [])) (sym l.others) (record {
          seen = prefix_trans v.seen u.seen w.seen i.seen (seen_more u w (Left u.allowance.place l.section.count) l.leaves);
          own = mine ∙ ap (λ s. s ++ Left v.allowance.place v.counts.sections ∷ []) i.own
              ∙ append_assoc (own_of v.allowance.place v.seen) (Entered v.allowance.place v.counts.sections key ∷ [])
              (Left v.allowance.place v.counts.sections ∷ []);
          looks = i.looks ∙ looks;
          made = made_both is_of_list is_exit is_of_list (λ kind is. is) of_exit v.trail u.trail w.trail i.made l.made;
          others = λ j. record (i.others j) {
            enter = w.enter;
            section = sym outside j;
            records = l.section.reading ∷ u.records;
            trail = w.trail;
            seen = w.seen;
          };
        })

-- a section that was entered with the key, and its first look
pub first_try : (k : Shape) (v : View) (key entered : ℕ) (e : View) (first : ℕ) (a : View) → entered ≡ key → HasEntered v entered e
    → Told k e LookAtFront first a → InTry v key (first ∷ []) a
first_try k v key entered e first a same enters t =
    looked_try v key [] e (entered_try v key e (subst (λ z. HasEntered v z e) same enters)) k first a t

-- A listing was begun with the number of the first look.
pub begun_listing : (v : View) (key n : ℕ) (u : View) → InTry v key (n ∷ []) u → IsListing u
begun_listing v key n u i = record { section = i.section; listing = i.lists.0; inside = i.inside; lists = i.lists.1 }

pub front_is : (v : View) (key n : ℕ) (u w : View) → InTry v key (n ∷ []) u → (l : HasLoaded u w) → l.after.front ≡ n
front_is v key n u w i l =
    let one : Some l.section ≡ Some i.section = sym l.was ∙ i.inside in
    let same : ◌≡◌ {A = Section} l.section i.section = cc in
    let two : Some l.before ≡ Some i.lists.0 = sym l.lists ∙ ap (λ (z : Section). z.listing) same ∙ i.lists.1 in
    let before : ◌≡◌ {A = Listing} l.before i.lists.0 = cc in
    l.more.front ∙ ap (λ (z : Listing). z.front) before ∙ i.lists.2

-- tries one after another
looks_from-append : (place section : ℕ) (ts us : List Try)
    → looks_from place section (ts ++ us) ≡ looks_from place section ts ++ looks_from place (section + length ts) us
looks_from-append place section [] us = ap (λ n. looks_from place n us) (omega arith)
looks_from-append place section (t ∷ ts) us =
    let next : section + 1 + length ts ≡ section + suc (length ts) = omega arith in
    ap (λ l. looks_of place section (numbers_of t) ++ l)
    (looks_from-append place (section + 1) ts us ∙ ap (λ n. looks_from place (section + 1) ts ++ looks_from place n us) next)
    ∙ sym (append_assoc (looks_of place section (numbers_of t)) (looks_from place (section + 1) ts)
    (looks_from place (section + suc (length ts)) us))

marks_from-append : (place section key : ℕ) (ts us : List Try)
    → marks_from place section key (ts ++ us) ≡ marks_from place section key ts ++ marks_from place (section + length ts) key us
marks_from-append place section key [] us = ap (λ n. marks_from place n key us) (omega arith)
marks_from-append place section key (t ∷ ts) us =
    let next : section + 1 + length ts ≡ section + suc (length ts) = omega arith in
    ap (λ l. Entered place section key ∷ Left place section ∷ l)
    (marks_from-append place (section + 1) key ts us
    ∙ ap (λ n. marks_from place (section + 1) key ts ++ marks_from place n key us) next)

pub tried_none : (v : View) (key : ℕ) → HasTried v key [] v
tried_none v key =
    let same : v.counts.sections ≡ v.counts.sections + 0 = omega arith in
    record {
      seen = ([], append-nil v.seen);
      own = sym (append-nil (own_of v.allowance.place v.seen));
      looks = sym (append-nil v.looks);
      made = made_none is_of_list v.trail;
      others = λ j. record v { counts = record v.counts { sections = same j } };
    }

pub tried_both : (a b c : View) (key : ℕ) (ts us : List Try) → HasTried a key ts b → HasTried b key us c → HasTried a key (ts ++ us) c
tried_both a b c key ts us x y =
    let p = a.allowance.place in
    let n = a.counts.sections in
    let place : b.allowance.place ≡ p = ap (λ (z : View). z.allowance.place) x.others in
    let sections : b.counts.sections ≡ n + length ts = ap (λ (z : View). z.counts.sections) x.others in
    let many : n + length ts + length us ≡ n + length (ts ++ us) = (let e = length-append ts us in omega arith) in
    let own : own_of p c.seen ≡ own_of p b.seen ++ marks_from p (n + length ts) key us =
    subst (λ (z : ℕ × ℕ). own_of z.0 c.seen ≡ own_of z.0 b.seen ++ marks_from z.0 z.1 key us) (λ j. (place j, sections j)) y.own in
    record {
      seen = prefix_trans a.seen b.seen c.seen x.seen y.seen;
      own = own ∙ ap (λ l. l ++ marks_from p (n + length ts) key us) x.own
          ∙ append_assoc (own_of p a.seen) (marks_from p n key ts) (marks_from p (n + length ts) key us)
          ∙ ap (λ l. own_of p a.seen ++ l) (sym (marks_from-append p n key ts us));
      looks = y.looks ∙ (λ j. x.looks j ++ looks_from (place j) (sections j) us)
          ∙ append_assoc a.looks (looks_from p n ts) (looks_from p (n + length ts) us)
          ∙ ap (λ l. a.looks ++ l) (sym (looks_from-append p n ts us));
      made = made_both is_of_list is_of_list is_of_list (λ kind is. is) (λ kind is. is) a.trail b.trail c.trail x.made y.made;
      others = y.others
          ∙ (λ j. record (x.others j) {
            enter = c.enter;
            records = c.records;
            counts = record ((x.others j).counts) { sections = (x.others j).counts.sections + length us };
            latest = record ((x.others j).latest) { front = c.latest.front };
            looks = c.looks;
            trail = c.trail;
            seen = c.seen;
          })
          ∙ (λ j. record a {
            enter = c.enter;
            records = c.records;
            counts = record a.counts { sections = many j };
            latest = record a.latest { front = c.latest.front };
            looks = c.looks;
            trail = c.trail;
            seen = c.seen;
          });
    }

-- tries leave a quiet seat quiet
pub quiet_tried : (s t : SeatAt) (key : ℕ) (tries : List Try) → HasTried s.view key tries t.view → t.listed ≡ s.listed → IsQuietSeat s
    → IsQuietSeat t
quiet_tried s t key tries tried listed quiet =
    let is = tried.others in
    still_quiet s t (ap (λ (v : View). v.section) is) (ap (λ (v : View). v.locks) is) (ap (λ (v : View). v.hands) is)
    (ap (λ (v : View). v.moving) is) (ap (λ (v : View). v.commit) is) listed quiet

-- The front, made odd by exchanges of which the last one isn't lost, and given back.

pub loses_none : (v : View) → LosesFront v v
loses_none v = record { made = made_none is_exchange v.trail; others = refl }

module _ (k : Shape) (v w : View) (l : LosesFront v w) where
  pub may_take : (expected : ℕ) → expected % 2 ≡ 0 → v.moving ≡ None → v.commit ≡ None → IsAsked k w (acts.OpenCommit expected)
  may_take expected even settled paid = λ now. (
    tt,
    record { even = even; settled = ap (λ (z : View). z.moving) l.others ∙ settled; paid = ap (λ (z : View). z.commit) l.others ∙ paid },
  )

  module _ (expected found : ℕ) (x : View) (told : Told k w (acts.OpenCommit expected) found x) where
    abbrev one_more : View
    one_more = noted w (acts.OpenCommit expected) found

    abbrev opened : View
    opened = record (with_front one_more (expected + 1)) { commit = Some (record { found = expected; stored = false }) }

    pub takes : found ≡ expected → expected % 2 ≡ 0 → TakesFront v found x
    takes same even =
        let goes : x ≡ opened = told.goes ∙ ap (λ z. cond z opened (with_front one_more found)) (eq-eqb found expected same) in
        subst (TakesFront v found) (sym goes) (record {
          even = subst IsEven (sym same) even;
          made = made_more is_exchange v.trail w K19 Front found refl l.made;
          last = (l.made.steps, refl);
          others = λ i. record (l.others i) {
            commit = Some (record { found = (sym same) i; stored = false });
            latest = record ((l.others i).latest) { front = Some ((sym same) i + 1) };
            trail = one_more.trail;
          };
        })

    pub loses : found ≢ expected → LosesFront v x
    loses other =
        let goes : x ≡ with_front one_more found =
        told.goes ∙ ap (λ z. cond z opened (with_front one_more found)) (ne_eqb found expected other) in
        subst (LosesFront v) (sym goes) (record {
          made = made_more is_exchange v.trail w K19 Front found refl l.made;
          others = λ i. record (l.others i) { latest = record ((l.others i).latest) { front = Some found }; trail = one_more.trail };
        })

module _ (k : Shape) (v w : View) (front : ℕ) where
  pub may_give_back : v.commit ≡ Some (record { found = front; stored = false }) → IsAsked k v (acts.GiveFrontBack front)
  may_give_back has_it = λ now. (tt, has_it)

  pub gives_back : Told k v (acts.GiveFrontBack front) front w → GivesFrontBack v front w
  gives_back told = record {
    trail = ap (λ (z : View). z.trail) told.goes;
    others = told.goes ∙ (λ i. record v {
      commit = None;
      latest = record v.latest { front = Some front };
      trail = (sym (ap (λ (z : View). z.trail) told.goes)) i;
    });
  }

-- What a try tells whose second look found the number of the first, and how tries end.

updates_on : (h seen : List Mark) (p : IsPrefix h seen) → updates_of seen ≡ updates_of h ++ updates_of p.0
updates_on h seen p = ap updates_of (sym p.1) ∙ updates_of-append h p.0

-- What the dictionary had after the updates of a beginning of the marks, it has by all marks at that front.
had_now : (h seen : List Mark) (front : ℕ) → IsPrefix h seen → front ≡ length (updates_of h) → (key : ℕ)
    → had_at (updates_of seen) front key ≡ map_now h key
had_now h seen front p is key = ap (λ us. finite.get (map_of us) key)
    ((λ i. take (is i) (updates_on h seen p i)) ∙ take-append_seam (updates_of h) (updates_of p.0))

pub is_even : (n : ℕ) → (n % 2 == 1) ≡ false → IsEven n
is_even n is = dite (ℕ_discrete (n % 2) 1) (λ odd. absurd (let e : true ≡ false = sym (eq-eqb (n % 2) 1 odd) ∙ is in cc))
    (λ ne. omega (arith, ne))

-- A try with two looks: from the view v a section with the key was entered, the front was looked at, pairs were loaded, the front was
-- looked at
-- again, and the section was left.
pub record LooksTwice (k : Shape) (v : View) (key first n : ℕ) (d : View) : Type 0 where
  pub first_seen : View
  pub loaded : View
  pub looked : View
  pub begins : InTry v key (first ∷ []) first_seen
  pub loads : HasLoaded first_seen loaded
  pub told : Told k loaded LookAtFront n looked
  pub left : HasLeft looked d
  pub outside : v.section ≡ None
  pub unloaded : loads_of first_seen.trail.steps ≡ loads_of v.trail.steps

abbrev pub looks_twice : {k : Shape} {v e a b u d : View} {key entered first n : ℕ} → entered ≡ key → HasEntered v entered e
    → Told k e LookAtFront first a → HasLoaded a b → Told k b LookAtFront n u → HasLeft u d → v.section ≡ None
    → LooksTwice k v key first n d
looks_twice {k} {v} {e} {a} {b} {u} {d} {key} {entered} {first} {n} same enters look loads told left outside = record {
  first_seen = a;
  loaded = b;
  looked = u;
  begins = first_try k v key entered e first a same enters look;
  loads = loads;
  told = told;
  left = left;
  outside = outside;
  unloaded = quiet_look look ∙ quiet_entry enters;
}

module _ {k : Shape} {v : View} {key first n : ℕ} {d : View} (z : LooksTwice k v key first n d) where
  before : InTry v key (first ∷ []) z.loaded
  before = loaded_try v key (first ∷ []) z.first_seen z.begins z.loaded z.loads

  pub tried_twice : HasTried v key (record { first = first; second = Some n } ∷ []) d
  tried_twice = left_try v key (first ∷ n ∷ []) z.looked
      (looked_try v key (first ∷ []) z.loaded before k n z.looked z.told) d z.outside z.left
      (record { first = first; second = Some n }) refl

  -- its loads are those between the looks
  pub walked_twice : {which : Kind → Bool} {walk : List StepMade → Type 0} (m : Makes which v.trail d.trail)
      → HasWalked z.first_seen walk z.loaded → walk (loads_of m.steps)
  walked_twice {which} {walk} m x = walked_within v d z.unloaded z.loads (quiet_exit z.left ∙ quiet_look z.told) m x

  pub moved_between : (first % 2 == 1) ≡ false → n ≢ first → EndAs (Moved first n) 1 (record { first = first; second = Some n } ∷ [])
  moved_between even ne = (
    refl,
    each_one HasMoved (record { first = first; second = Some n }) (inr (is_even first even, (n, refl, ne))),
    ([], record { first = first; second = Some n }, refl, refl, refl),
  )

  -- what was found is so by all marks at the second look
  module _ {front : ℕ} (now : IsListedNow z.told.marks (record z.loads.section { listing = Some z.loads.after }) z.loads.after)
      (half : front ≡ first / 2) where
    count : front ≡ length (updates_of z.told.marks)
    count = half ∙ ap (λ x. x / 2) (sym (front_is v key first z.first_seen z.loaded z.begins z.loads)) ∙ now.front

    in_all : IsPrefix z.told.marks d.seen
    in_all = subst (λ x. IsPrefix x d.seen) (ap (λ (x : View). x.seen) z.told.goes)
        (seen_more z.looked d (Left z.looked.allowance.place z.left.section.count) z.left.leaves)

    pub recent : IsBetweenFronts front v.seen d.seen
    recent =
        let old = updates_below v.seen z.told.marks (prefix_trans v.seen z.loaded.seen z.told.marks before.seen z.told.sees.begins) in
        let new = updates_below z.told.marks d.seen in_all in
        (omega (arith, old, count), omega (arith, new, count))

    pub had : (y : ℕ) → had_at (updates_of d.seen) front y ≡ map_now z.told.marks y
    had = had_now z.told.marks d.seen front in_all count

    exact : (side : Side) (low below : ℕ) (pairs : List Pair) → Cover side z.loads.after.facts z.loads.after.gaps low below pairs
        → ArePairsTo side (had_at (updates_of d.seen) front) low below pairs
    exact side low below pairs cover =
        covers_exact side (had_at (updates_of d.seen) front) z.loads.after.facts z.loads.after.gaps low below pairs
        (λ j (f : Fact) at. had f.key ∙ now.facts j f at) (λ j (gap : Gap) at y between. had y ∙ now.gaps j gap at y between) cover

    pub holds_whole : (side : Side) (keys : Interval) (page : Paged) → length page.pairs ≤ page.capacity
        → Gathers side z.loads.after keys page None → IsWholeTo side keys d.seen front page
    holds_whole side keys page fit cover = record { pairs = exact side keys.low (keys.high + 1) page.pairs cover; fit = fit }

    pub holds_part : (side : Side) (keys : Interval) (next : ℕ) (page : Paged) → Gathers side z.loads.after keys page (Some next)
        → IsPartTo side keys d.seen front next page
    holds_part side keys next page g = record {
      pairs = exact side (low_before side keys next) (end_before side keys next) page.pairs g.0;
      full = g.2;
      inside = g.1;
      there = (g.3.0, had next ∙ now.facts g.3.1.0 (fact_of (next, g.3.0)) g.3.1.1);
    }

    pub holds_up_to : (side : Side) (keys : Interval) (next : Option ℕ) (page : Paged) → length page.pairs ≤ page.capacity
        → Gathers side z.loads.after keys page next → HoldsUpTo side front next keys d.seen page
    holds_up_to side keys None page fit cover = holds_whole side keys page fit cover
    holds_up_to side keys (Some next) page fit g = holds_part side keys next page g

  listing_is : ◌≡◌ {A = ℕ} z.loads.after.front first
  listing_is = front_is v key first z.first_seen z.loaded z.begins z.loads

  -- the second found the number of the first, which is even
  module _ (same : n ≡ first) (even : (first % 2 == 1) ≡ false) where
    pub beside_none : IsListedNow z.told.marks (record z.loads.section { listing = Some z.loads.after }) z.loads.after
    beside_none = z.told.gains.same (record z.loads.section { listing = Some z.loads.after }) z.loads.after
        (ap (λ (x : View). x.section) z.loads.others) refl (subst IsEven (sym same) (is_even first even)) (same ∙ sym listing_is)

    pub stood : {front : ℕ} → front ≡ first / 2 → HasStood front 1 (record { first = first; second = Some n } ∷ [])
    stood {front} half =
        let twice : first ≡ 2 * front = omega (arith, half, is_even first even) in
        (omega arith, ([], each_none HasMoved, λ j. record { first = twice j; second = Some ((same ∙ twice) j) } ∷ []))

  -- the front is odd by the view, and its update unmade
  module _ (commit : Commit) (is_open : z.loaded.commit ≡ Some commit) (unmade : commit.stored ≡ false) where
    pub second_own : n ≡ commit.found + 1
    second_own = z.told.gains.own commit is_open

    pub held : first ≡ commit.found + 1 → IsListedNow z.told.marks (record z.loads.section { listing = Some z.loads.after }) z.loads.after
    held first_own = z.told.gains.held (record z.loads.section { listing = Some z.loads.after }) z.loads.after commit
        (ap (λ (x : View). x.section) z.loads.others) refl is_open unmade (second_own ∙ sym first_own ∙ sym listing_is)

-- a try whose first look found an odd number
module _ (k : Shape) (v : View) (key first : ℕ) (a : View) (i : InTry v key (first ∷ []) a) (d : View) (left : HasLeft a d)
    (outside : v.section ≡ None) where
  pub tried_once : HasTried v key (record { first = first; second = None } ∷ []) d
  tried_once = left_try v key (first ∷ []) a i d outside left (record { first = first; second = None }) refl

  pub moved_at_first : IsOdd first → EndAs (Moved first first) 1 (record { first = first; second = None } ∷ [])
  moved_at_first odd = (
    refl,
    each_one HasMoved (record { first = first; second = None }) (inl (odd, refl)),
    ([], record { first = first; second = None }, refl, refl, refl),
  )

-- one try after others
stood_later : (front most : ℕ) (ts us : List Try) → length ts ≡ most → Each ts HasMoved → HasStood front 1 us
    → HasStood front (most + 1) (ts ++ us)
stood_later front most ts us long moved stands =
    let all = length-append ts us in
    let last : Try = record { first = 2 * front; second = Some (2 * front) } in (
      omega (arith, all, long, stands.0),
      (
        ts ++ stands.1.0,
        each_append HasMoved ts stands.1.0 moved stands.1.1,
        ap (λ l. ts ++ l) stands.1.2 ∙ sym (append_assoc ts stands.1.0 (last ∷ [])),
      ),
    )

pub ends_later : (r : Listed) (first last most : ℕ) (ts us : List Try) → EndAs (Moved first last) most ts → EndAs r 1 us
    → EndAs r (most + 1) (ts ++ us)
ends_later (Whole front) first last most ts us given ends = stood_later front most ts us given.0 given.1 ends
ends_later (Part front next) first last most ts us given ends = stood_later front most ts us given.0 given.1 ends
ends_later (Moved f n) first last most ts us given ends =
    let all = length-append ts us in
    let e = ends.2 in (
      omega (arith, all, given.0, ends.0),
      each_append HasMoved ts us given.1 ends.1,
      (ts ++ e.0, e.1, ap (λ l. ts ++ l) e.2 ∙ sym (append_assoc ts e.0 (e.1 ∷ [])), e.3, e.4),
    )

pub recent_later : (r : Listed) (a b h : List Mark) → IsPrefix a b → IsRecent r b h → IsRecent r a h
recent_later (Whole front) a b h p is = (let e = updates_below a b p in omega (arith, e, is.0), is.1)
recent_later (Part front next) a b h p is = (let e = updates_below a b p in omega (arith, e, is.0), is.1)
recent_later (Moved first last) a b h p is = tt

-- A list under a front that its seat holds.

-- the commit of a front that was taken and not stored under
abbrev pub unmade : ℕ → Commit
unmade front = record { found = front; stored = false }

-- From the view v the front was taken, and a try with two looks was made.
pub record ListsHolding (k : Shape) (v : View) (key front first n : ℕ) (d : View) : Type 0 where
  pub holding : View
  pub takes : TakesFront v front holding
  pub looks : LooksTwice k holding key first n d
  pub first_own : first ≡ front + 1

abbrev pub lists_holding : {k : Shape} {v h e a b u d : View} {key entered front first n : ℕ} → v.section ≡ None → TakesFront v front h
    → entered ≡ key → HasEntered h entered e → Told k e LookAtFront first a → HasLoaded a b → Told k b LookAtFront n u → HasLeft u d
    → ListsHolding k v key front first n d
lists_holding {k} {v} {h} {e} {a} {b} {u} {d} {key} {entered} {front} {first} {n} outside takes same enters first_look loads look left = record {
  holding = h;
  takes = takes;
  looks = looks_twice same enters first_look loads look left (ap (λ (z : View). z.section) takes.others ∙ outside);
  first_own = first_look.gains.own (unmade front) (ap (λ (z : View). z.commit) enters.others ∙ ap (λ (z : View). z.commit) takes.others);
}

module _ {k : Shape} {v : View} {key front first n : ℕ} {d : View} (x : ListsHolding k v key front first n d) where
  is_open : x.looks.loaded.commit ≡ Some (unmade front)
  is_open = ap (λ (z : View). z.commit) (loaded_try x.holding key (first ∷ []) x.looks.first_seen x.looks.begins x.looks.loaded x.looks.loads).others
      ∙ ap (λ (z : View). z.commit) x.takes.others

  pub now : IsListedNow x.looks.told.marks (record x.looks.loads.section { listing = Some x.looks.loads.after }) x.looks.loads.after
  now = held x.looks (unmade front) is_open refl x.first_own

  pub may_give : IsAsked k d (GiveFrontBack front)
  may_give = may_give_back k d d front
      (ap (λ (z : View). z.commit) (tried_twice x.looks).others ∙ ap (λ (z : View). z.commit) x.takes.others)

  module _ {count : ℕ} (half : count ≡ front / 2) (w : View) (told : Told k d (GiveFrontBack front) front w) where
    gives : GivesFrontBack d front w
    gives = gives_back k d w front told

    pub half_first : count ≡ first / 2
    half_first = omega (arith, half, x.takes.even, x.first_own)

    twice : front ≡ 2 * count
    twice = omega (arith, half, x.takes.even)

    first_is : first ≡ 2 * count + 1
    first_is = omega (arith, twice, x.first_own)

    second_is : n ≡ 2 * count + 1
    second_is = let own = second_own x.looks (unmade front) is_open refl in omega (arith, twice, own)

    pub seen : w.seen ≡ d.seen
    seen = ap (λ (z : View). z.seen) gives.others

    tried : HasTried x.holding key (record { first = 2 * count + 1; second = Some (2 * count + 1) } ∷ []) d
    tried = subst (λ (t : Try). HasTried x.holding key (t ∷ []) d) (λ i. record { first = first_is i; second = Some (second_is i) })
        (tried_twice x.looks)

    pub alone : {walk : List StepMade → Type 0} → HasWalked x.looks.first_seen walk x.looks.loaded → HasListedAlone v key count walk w
    alone {walk} walked = record {
      holding = x.holding;
      listed = d;
      takes = subst (λ f. TakesFront v f x.holding) twice x.takes;
      tried = tried;
      walked = walked_twice x.looks tried.made walked;
      gives = subst (λ f. GivesFrontBack d f w) twice gives;
    }

    pub alone_holds : (side : Side) (keys : Interval) (next : Option ℕ) (page : Paged) → length page.pairs ≤ page.capacity
        → Gathers side x.looks.loads.after keys page next → HoldsUpTo side count next keys w.seen page
    alone_holds side keys next page fit g = subst (λ (h : List Mark). HoldsUpTo side count next keys h page) (sym seen)
        (holds_up_to x.looks now half_first side keys next page fit g)

    pub alone_recent : IsBetweenFronts count v.seen w.seen
    alone_recent = subst (λ (h : List Mark). IsBetweenFronts count v.seen h) (sym seen)
        (subst (λ (h : List Mark). IsBetweenFronts count h d.seen) (ap (λ (z : View). z.seen) x.takes.others) (recent x.looks now half_first))

-- who listed alone is as quiet as before
pub quiet_alone : {s t : SeatAt} {key front : ℕ} {walk : List StepMade → Type 0} → HasListedAlone s.view key front walk t.view
    → t.listed ≡ s.listed → IsQuietSeat s → IsQuietSeat t
quiet_alone {s} {t} {key} {front} {walk} a listed quiet =
    let gives = a.gives.others in
    let tried = a.tried.others in
    let takes = a.takes.others in
    still_quiet s t (ap (λ (v : View). v.section) gives ∙ ap (λ (v : View). v.section) tried ∙ ap (λ (v : View). v.section) takes)
    (ap (λ (v : View). v.locks) gives ∙ ap (λ (v : View). v.locks) tried ∙ ap (λ (v : View). v.locks) takes)
    (ap (λ (v : View). v.hands) gives ∙ ap (λ (v : View). v.hands) tried ∙ ap (λ (v : View). v.hands) takes)
    (ap (λ (v : View). v.moving) gives ∙ ap (λ (v : View). v.moving) tried ∙ ap (λ (v : View). v.moving) takes)
    (ap (λ (v : View). v.commit) gives ∙ sym quiet.view.commit) listed quiet

pub alone_tickets : {v w : View} {key front : ℕ} {walk : List StepMade → Type 0} → HasListedAlone v key front walk w
    → w.allowance.tickets ≡ v.allowance.tickets
alone_tickets a = ap (λ (z : View). z.allowance.tickets) a.gives.others
    ∙ ap (λ (z : View). z.allowance.tickets) a.tried.others ∙ ap (λ (z : View). z.allowance.tickets) a.takes.others

-- and so is who never had the front
pub quiet_lost : {s t : SeatAt} → LosesFront s.view t.view → t.listed ≡ s.listed → IsQuietSeat s → IsQuietSeat t
quiet_lost {s} {t} l listed quiet =
    let is = l.others in
    still_quiet s t (ap (λ (v : View). v.section) is) (ap (λ (v : View). v.locks) is) (ap (λ (v : View). v.hands) is)
    (ap (λ (v : View). v.moving) is) (ap (λ (v : View). v.commit) is) listed quiet

-- The nearest pair, by what a try has found, and after tries in which updates were made.

-- what was found is so of the dictionary at the front
module _ {k : Shape} {v : View} {key first n : ℕ} {d : View} (z : LooksTwice k v key first n d) {front : ℕ}
    (listed : IsListedNow z.told.marks (record z.loads.section { listing = Some z.loads.after }) z.loads.after)
    (half : front ≡ first / 2) where
  none_in : (y : ℕ) → IsInGap z.loads.after.gaps y → had_at (updates_of d.seen) front y ≡ None
  none_in y gap = had z listed half y ∙ listed.gaps gap.1.0 gap.0 gap.1.1 y gap.2

  pub is_nearest : (side : Side) (from : ℕ) (pair : Option Found) → FindsNearest z.loads.after side from pair
      → IsNearest (had_at (updates_of d.seen) front) side from pair
  is_nearest side from None finds = λ y on. none_in y (finds y on)
  is_nearest side from (Some p) finds = record {
    there = had z listed half p.key ∙ listed.facts finds.there.0 (fact_of (p.key, p.value)) finds.there.1;
    on = finds.on;
    none_before = λ y on before. none_in y (finds.none_before y on before);
  }

  pub is_told : (side : Side) (from : ℕ) (pair : Option Found) → FindsNearest z.loads.after side from pair
      → IsTold (Some (record { front = front; pair = pair })) side from v.seen d.seen
  is_told side from pair finds = (is_nearest side from pair finds, recent z listed half)

-- both looks found twice the front
pub came_twice : (first n front : ℕ) → n ≡ first → (first % 2 == 1) ≡ false → front ≡ first / 2
    → ◌≡◌ {A = Try} (record { first = first; second = Some n }) (record { first = 2 * front; second = Some (2 * front) })
came_twice first n front same even half =
    let twice : first ≡ 2 * front = omega (arith, half, is_even first even) in
    λ j. record { first = twice j; second = Some ((same ∙ twice) j) }

-- under a front that the seat holds
module _ {k : Shape} {v : View} {key front first n : ℕ} {d : View} (x : ListsHolding k v key front first n d) {count : ℕ}
    (half : count ≡ front / 2) (w : View) (told : Told k d (GiveFrontBack front) front w) where
  pub alone_nearest : (side : Side) (from : ℕ) (pair : Option Found) → FindsNearest x.looks.loads.after side from pair
      → IsNearest (had_at (updates_of w.seen) count) side from pair
  alone_nearest side from pair finds = subst (λ (h : List Mark). IsNearest (had_at (updates_of h) count) side from pair)
      (sym (seen x half w told)) (is_nearest x.looks (now x) (half_first x half w told) side from pair finds)

-- From the view v so many tries were made, with an update under way or made in each.
pub record HasFailed (v : View) (key count : ℕ) (w : View) : Type 0 where
  pub made : List Try
  pub tried : HasTried v key made w
  pub many : length made ≡ count
  pub moved : Each made HasMoved

pub fails_none : (v : View) (key : ℕ) → HasFailed v key 0 v
fails_none v key = record { made = []; tried = tried_none v key; many = refl; moved = each_none HasMoved }

module _ {v u : View} {key count : ℕ} (x : HasFailed v key count u) where
  one_more_try : {w : View} (t : Try) → HasTried u key (t ∷ []) w → HasTried v key (x.made ++ t ∷ []) w
  one_more_try {w} t tried = tried_both v u w key x.made (t ∷ []) x.tried tried

  -- one try more
  module _ {w : View} {looked : Option Nearest} (t : (t : Try) × HasTried u key (t ∷ []) w × ComesBy looked t) where
    pub fails_again : looked ≡ None → HasFailed v key (count + 1) w
    fails_again is = record {
      made = x.made ++ t.0 ∷ [];
      tried = one_more_try t.0 t.1;
      many = (let all = length-append x.made (t.0 ∷ []) in let many = x.many in omega (arith, all, many));
      moved = each_append HasMoved x.made (t.0 ∷ []) x.moved (each_one HasMoved t.0 (subst (λ o. ComesBy o t.0) is t.2));
    }

    pub comes_by_try : {nearest : Nearest} {walk : List StepMade → Type 0} → looked ≡ Some nearest → (most : ℕ) → count < most
        → HasListed v key nearest.front most walk w
    comes_by_try {nearest} {walk} is most less =
        let last : Try = record { first = 2 * nearest.front; second = Some (2 * nearest.front) } in
        let one : t.0 ≡ last = subst (λ o. ComesBy o t.0) is t.2 in
        let all = length-append x.made (t.0 ∷ []) in
        let many = x.many in
        inl (record {
          tries = x.made ++ t.0 ∷ [];
          tried = one_more_try t.0 t.1;
          stood = (omega (arith, all, many, less), (x.made, x.moved, ap (λ (l : Try). x.made ++ l ∷ []) one));
        })

  -- after all of them the seat goes on alone
  pub comes_alone : {w : View} {front most : ℕ} {walk : List StepMade → Type 0} → count ≡ most → HasListedAlone u key front walk w
      → HasListed v key front most walk w
  comes_alone {w} {front} {most} {walk} all alone =
      inr (record { tries = x.made; failed = u; tried = x.tried; all = x.many ∙ all; moved = x.moved; alone = alone })

  -- or gives way
  pub gives_way : {w : View} {most : ℕ} → count ≡ most → LosesFront u w → HasGivenWay v key most w
  gives_way all lost = record { tries = x.made; failed = u; tried = x.tried; all = x.many ∙ all; moved = x.moved; lost = lost }
