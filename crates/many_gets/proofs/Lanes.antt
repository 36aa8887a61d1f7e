-- Lanes: what each step makes of one and leaves of all, and that they come to an end.
-- One lane: how its search begins, goes on and ends.
use Rattle.std.proofs.Common.{◌≡◌, ℕ, ◌<◌, ◌≤◌, Bool, true, false, List, length, set, slice_index, Option, Some, None, refl, sym, ap, subst, ◌∙◌, arith, get_or-set_same, ◌≢◌, zero, suc, ◌+◌, ◌*◌, slice_index_or, ⊎_elim, [], ◌∷◌, get_or, length-set}
use Rattle.prcu_marks.specs.declared.mark.Side.{Side}
use Rattle.prcu_marks.specs.declared.mark.Side.TheVariants.{Right}
use Rattle.core_state.specs.declared.shape.Shape.{Shape}
use Rattle.core_state.specs.declared.view.Section.{Section}
use Rattle.core_state.specs.declared.view.View.{View}
use Rattle.core_state.specs.Memory.{slot_count}
use Rattle.core_state.specs.Parts.{state_slot}
use Rattle.core_state.specs.declared.act.Act.TheVariants.{SearchLoad}
use Rattle.seat_table.specs.Gains.{IsSlot, IsAsked, Told}
use Rattle.seat_table.specs.Sections.{HasStepped, HasEntered, HasLeft}
use Rattle.seat_table.specs.Seats.{SeatAt, IsQuietSeat, TableAt, shape_of}
use Rattle.seat_table.proofs.SeveralSteps.{enters_steps, left_once, told_once}
use Rattle.seat_table.proofs.Seats.{still_quiet}
use Rattle.citrus_tree.specs.declared.descent.Step.{Step}
use Rattle.citrus_tree.specs.declared.descent.Step.TheVariants.{Moved, Found, Ended}
use Rattle.citrus_tree.specs.Hops.{Costs, EndsWithin, KeepsPace, slots_met, slots_of, LoadsLinks, LooksAhead, state_after}
use Rattle.citrus_tree.specs.Lookups.{IsSearching, Looked}
use Rattle.citrus_tree.proofs.Leavings.{links_steps}
use Rattle.citrus_tree.proofs.Searching.{entered_met, root_is, begun, needs_value, valued, in_section, looked_found, looked_missed}
use Rattle.many_gets.specs.Many.{HasCome, LooksOn, Sought, StandsAt, HasGot, LooksUpAt, LooksUpEach, IsAt, IsLane, LooksUpAll, AreKept, steps_of, AreLanes, AreOver}
use Rattle.std.proofs.lemmas.Bool.{cases_order}
use mathlib.Core.Logic.{dite}
use native.Mathlib.Decide.{ℕ_discrete}
use Rattle.many_gets.specs.declared.lane.Lane.{Lane}
use mathlib.Core.Option.{some, some-injective}
use lib.ListN.{get_elem?}
use Rattle.atomic_table.proofs.Lists.{set_here, set_else}
use Rattle.list_laws.specs.Counts.{Each, total}
use Rattle.list_laws.proofs.Lists.{at_below, at_one, each_set, total_set}
use Rattle.core_state.specs.declared.view.SearchState.TheVariants as at
use Rattle.core_state.specs.declared.act.Part.TheVariants as part

-- a seat that looked up a key is as quiet as before
pub quiet_after : (k : Shape) (keys : List ℕ) (answers : List (Option ℕ)) (index : ℕ) (s t : SeatAt) → HasGot k keys answers index s t → IsQuietSeat s
    → IsQuietSeat t
quiet_after k keys answers index s t got quiet =
    let e = got.looked_up.looked.others in
    still_quiet s t (ap (λ (z : View). z.section) e ∙ sym quiet.view.section) (ap (λ (z : View). z.locks) e)
    (ap (λ (z : View). z.hands) e) (ap (λ (z : View). z.moving) e) (ap (λ (z : View). z.commit) e) got.same_list quiet

-- the search came to the side of a slot, and its links were loaded
pub looks : (k : Shape) (v : View) (key n slot : ℕ) (side : Side) (u w : View) → IsSlot k slot → IsSearching v key (at.At slot side) u
    → LoadsLinks k u slot side n w → KeepsPace v u → slots_met u ≤ slot_count k → LooksOn k n v key w
looks k v key n slot side u w is_slot searching loads pace few = record {
  looks = record { slot = slot; side = side; before = u; is_slot = is_slot; searching = searching; loads = loads };
  pace = pace;
  few = few;
}

-- a section was entered, and the root's links were loaded
pub enters_and_loads : {k : Shape} {v u w : View} {key s n : ℕ} {b : Side} → HasEntered v key u → LoadsLinks k u s b n w → HasStepped v w
enters_and_loads entered links =
    let first = enters_steps entered in let last = links_steps links in omega (arith, first, last)

module _ (keys : List ℕ) (index : ℕ) (s : SeatAt) where
  -- its search has come somewhere else
  pub sought_on : (far further : View → ℕ → View → Type 0) (t u : SeatAt) → u.table ≡ t.table → u.listed ≡ t.listed
      → (far s.view (slice_index keys index) t.view → further s.view (slice_index keys index) u.view) → Sought keys index s far t
      → Sought keys index s further u
  sought_on far further t u same_table same_list on p = record {
    within = p.within;
    same_table = same_table ∙ p.same_table;
    same_list = same_list ∙ p.same_list;
    search = on p.search;
  }

  module _ (k : Shape) where
    -- the root's links were loaded
    pub entered : (t u : SeatAt) (ahead : ℕ) → t.table ≡ s.table → t.listed ≡ s.listed → u.table ≡ t.table → u.listed ≡ t.listed
        → index < length keys → HasEntered s.view (slice_index keys index) t.view → KeepsPace s.view t.view
        → LoadsLinks k t.view 0 Right ahead u.view → StandsAt k keys index s true (slice_index keys index) ahead u
    entered t u ahead same_table same_list still_table still_list within e pace loads = (
      refl,
      record {
        within = within;
        same_table = still_table ∙ same_table;
        same_list = still_list ∙ same_list;
        search = looks k s.view (slice_index keys index) ahead 0 Right t.view u.view (root_is k)
            (begun k s.view (slice_index keys index) t.view e) loads pace (let met = entered_met e in omega (arith, met));
      },
    )

    -- where the search of a lane is
    pub sought_is : (searches : Bool) (key ahead : ℕ) (t : SeatAt) → searches ≡ true → StandsAt k keys index s searches key ahead t
        → (key ≡ slice_index keys index) × Sought keys index s (LooksOn k ahead) t
    sought_is searches key ahead t is stands = subst (λ z. StandsAt k keys index s z key ahead t) is stands

    pub stands_on : (searches : Bool) (key ahead : ℕ) (t : SeatAt) → searches ≡ true
        → (key ≡ slice_index keys index) × Sought keys index s (LooksOn k ahead) t
        → StandsAt k keys index s searches key ahead t
    stands_on searches key ahead t is p = subst (λ z. StandsAt k keys index s z key ahead t) (sym is) p

    pub outside_is : (searches : Bool) (key ahead : ℕ) (t : SeatAt) → searches ≡ false → StandsAt k keys index s searches key ahead t
        → (length keys ≤ index) × (t ≡ s)
    outside_is searches key ahead t is stands = subst (λ z. StandsAt k keys index s z key ahead t) is stands

    pub stands_outside : (searches : Bool) (key ahead : ℕ) → searches ≡ false → length keys ≤ index
        → StandsAt k keys index s searches key ahead s
    stands_outside searches key ahead is past = subst (λ z. StandsAt k keys index s z key ahead s) (sym is) (past, refl)

    -- the section was left, and the answer noted
    noted : (answers : List (Option ℕ)) → length answers ≡ length keys → (t u : SeatAt) → index < length keys → t.table ≡ s.table
        → t.listed ≡ s.listed → u.table ≡ t.table → u.listed ≡ t.listed
        → (answer : Option ℕ) → Looked s.view (slice_index keys index) answer u.view → EndsWithin k 4 s.view u.view
        → HasGot k keys (set answers index answer) index s u
    noted answers room t u within same_table same_list still_table still_list answer looked few = record {
      same_table = still_table ∙ same_table;
      same_list = still_list ∙ same_list;
      looked_up = record {
        within = within;
        looked = subst (λ (z : Option ℕ). Looked s.view (slice_index keys index) z u.view)
            (sym (get_or-set_same answers index answer None (omega (arith, room, within)))) looked;
        few = few;
      };
    }

    pub come_as : (one other : Option ℕ) (t : SeatAt) → one ≡ other → Sought keys index s (HasCome k one) t
        → Sought keys index s (HasCome k other) t
    come_as one other t same p = subst (λ z. Sought keys index s (HasCome k z) t) same p

    -- it found the key
    module _ (holder : ℕ) (t : SeatAt) (p : Sought keys index s (HasCome k (Some holder)) t) where
      abbrev key : ℕ
      key = slice_index keys index

      pub may_load : IsAsked k t.view (SearchLoad holder part.Value)
      may_load = needs_value k s.view key holder p.search.2.0 p.search.2.1 t.view p.search.2.2 p.search.0

      module _ (value : ℕ) (u : SeatAt) (told : Told k t.view (SearchLoad holder part.Value) value u.view) where
        has_value : IsSearching s.view key (at.Found holder p.search.2.0 p.search.2.1 (Some value)) u.view
        has_value = valued k s.view key holder p.search.2.0 p.search.2.1 value t.view u.view p.search.2.2 told

        pub still_inside : (section : Section) × (u.view.section ≡ Some section)
        still_inside = in_section k s.view key (at.Found holder p.search.2.0 p.search.2.1 (Some value)) u.view has_value

        pub got_found : (answers : List (Option ℕ)) → length answers ≡ length keys → (x : SeatAt) → x.table ≡ t.table
            → x.listed ≡ t.listed → HasLeft u.view x.view → HasGot k keys (set answers index (Some value)) index s x
        got_found answers room x same_table same_list left =
            noted answers room t x p.within p.same_table p.same_list same_table same_list (Some value)
            (looked_found k s.view key holder p.search.2.0 value p.search.2.1 u.view x.view has_value left)
            (let found = p.search.1 in let loaded = told_once told in let out = left_once left in omega (arith, found, loaded, out))

    -- it came to an empty side
    module _ (t : SeatAt) (p : Sought keys index s (HasCome k None) t) where
      pub inside_missed : (section : Section) × (t.view.section ≡ Some section)
      inside_missed =
          in_section k s.view (slice_index keys index) (at.Missed p.search.1.0 p.search.1.1) t.view p.search.1.2

      pub got_none : (answers : List (Option ℕ)) → length answers ≡ length keys → (x : SeatAt) → x.table ≡ t.table
          → x.listed ≡ t.listed → HasLeft t.view x.view → HasGot k keys (set answers index None) index s x
      got_none answers room x same_table same_list left =
          noted answers room t x p.within p.same_table p.same_list same_table same_list None
          (looked_missed k s.view (slice_index keys index) p.search.1.0 p.search.1.1 t.view x.view p.search.1.2 left)
          (let found = p.search.0 in let out = left_once left in omega (arith, found, out))

    -- a hop by the link ahead, of which it is told what it came to
    module _ (key ahead : ℕ) (t u : SeatAt) (same_table : u.table ≡ t.table) (same_list : u.listed ≡ t.listed) (step : Step)
        (slot_after : (slot : ℕ) (side : Side) → IsSlot k slot → IsSlot k (state_slot (state_after slot side step)))
        (on : (v w : View) (slot : ℕ) (side : Side) → IsSearching v key (at.At slot side) w → LoadsLinks k w slot side ahead t.view
        → IsSearching v key (state_after slot side step) u.view)
        (cost : (v w : View) (slot : ℕ) (side : Side) → IsSearching v key (at.At slot side) w → LoadsLinks k w slot side ahead t.view
        → Costs k w step u.view)
        (p : (key ≡ slice_index keys index) × Sought keys index s (LooksOn k ahead) t) where
      abbrev a : LooksAhead k s.view (slice_index keys index) ahead t.view
      a = p.1.search.looks

      costs : Costs k a.before step u.view
      costs = cost s.view a.before a.slot a.side (subst (λ z. IsSearching s.view z (at.At a.slot a.side) a.before) (sym p.0) a.searching)
          a.loads

      pub keeps_pace : slots_of step ≡ 1 → KeepsPace s.view u.view
      keeps_pace one =
          let pace = p.1.search.pace.pace in
          let loads = costs.loads in
          let met = costs.met in
          record { pace = omega (arith, pace, loads, met, one) }

      pub stays_few : slots_met u.view ≤ slot_count k
      stays_few = costs.few.inside

      pub ends_within : EndsWithin k 2 s.view u.view
      ends_within =
          let pace = p.1.search.pace.pace in
          let loads = costs.loads in
          let met = costs.met in
          let few = costs.few.inside in
          omega (arith, pace, loads, met, few)

      came : IsSearching s.view key (state_after a.slot a.side step) u.view
      came = on s.view a.before a.slot a.side (subst (λ z. IsSearching s.view z (at.At a.slot a.side) a.before) (sym p.0) a.searching)
          a.loads

      pub slot_is : IsSlot k (state_slot (state_after a.slot a.side step))
      slot_is = slot_after a.slot a.side a.is_slot

      pub has_come : (from : ℕ) × (side : Side) × IsSearching s.view key (state_after from side step) u.view
      has_come = (a.slot, a.side, came)

      pub come_by : (far : View → ℕ → View → Type 0)
          → (IsSearching s.view (slice_index keys index) (state_after a.slot a.side step) u.view
          → far s.view (slice_index keys index) u.view)
          → Sought keys index s far u
      come_by far is = sought_on (LooksOn k ahead) far t u same_table same_list
          (λ _. is (subst (λ z. IsSearching s.view z (state_after a.slot a.side step) u.view) p.0 came)) p.1

    module _ (key ahead : ℕ) (t u : SeatAt) (same_table : u.table ≡ t.table) (same_list : u.listed ≡ t.listed)
        (p : (key ≡ slice_index keys index) × Sought keys index s (LooksOn k ahead) t) where
      pub come_found : (holder : ℕ)
          → ((slot : ℕ) (side : Side) → IsSlot k slot → IsSlot k (state_slot (state_after slot side (Found holder))))
          → ((v w : View) (slot : ℕ) (side : Side) → IsSearching v key (at.At slot side) w → LoadsLinks k w slot side ahead t.view
          → IsSearching v key (state_after slot side (Found holder)) u.view)
          → ((v w : View) (slot : ℕ) (side : Side) → IsSearching v key (at.At slot side) w → LoadsLinks k w slot side ahead t.view
          → Costs k w (Found holder) u.view)
          → Sought keys index s (HasCome k (Some holder)) u
      come_found holder slot_after on cost =
          come_by key ahead t u same_table same_list (Found holder) slot_after on cost p (HasCome k (Some holder))
          (λ i. (
            slot_is key ahead t u same_table same_list (Found holder) slot_after on cost p,
            ends_within key ahead t u same_table same_list (Found holder) slot_after on cost p,
            (p.1.search.looks.slot, p.1.search.looks.side, i),
          ))

      pub come_missed : ((slot : ℕ) (side : Side) → IsSlot k slot → IsSlot k (state_slot (state_after slot side Ended)))
          → ((v w : View) (slot : ℕ) (side : Side) → IsSearching v key (at.At slot side) w → LoadsLinks k w slot side ahead t.view
          → IsSearching v key (state_after slot side Ended) u.view)
          → ((v w : View) (slot : ℕ) (side : Side) → IsSearching v key (at.At slot side) w → LoadsLinks k w slot side ahead t.view
          → Costs k w Ended u.view)
          → Sought keys index s (HasCome k None) u
      come_missed slot_after on cost =
          come_by key ahead t u same_table same_list Ended slot_after on cost p (HasCome k None)
          (λ i. (
            ends_within key ahead t u same_table same_list Ended slot_after on cost p,
            (p.1.search.looks.slot, p.1.search.looks.side, i),
          ))

      pub goes_on : (c : ℕ) (d : Side)
          → ((slot : ℕ) (side : Side) → IsSlot k slot → IsSlot k (state_slot (state_after slot side (Moved c d))))
          → ((v w : View) (slot : ℕ) (side : Side) → IsSearching v key (at.At slot side) w → LoadsLinks k w slot side ahead t.view
          → IsSearching v key (state_after slot side (Moved c d)) u.view)
          → ((v w : View) (slot : ℕ) (side : Side) → IsSearching v key (at.At slot side) w → LoadsLinks k w slot side ahead t.view
          → Costs k w (Moved c d) u.view)
          → (next : ℕ) (x : SeatAt) → x.table ≡ u.table → x.listed ≡ u.listed → LoadsLinks k u.view c d next x.view
          → Sought keys index s (LooksOn k next) x
      goes_on c d slot_after on cost next x still_table still_list loads =
          sought_on (λ v sought w. IsSearching v sought (at.At c d) w) (LooksOn k next) u x still_table still_list
          (λ i. looks k s.view (slice_index keys index) next c d u.view x.view
          (slot_is key ahead t u same_table same_list (Moved c d) slot_after on cost p) i loads
          (keeps_pace key ahead t u same_table same_list (Moved c d) slot_after on cost p refl)
          (stays_few key ahead t u same_table same_list (Moved c d) slot_after on cost p))
          (come_by key ahead t u same_table same_list (Moved c d) slot_after on cost p (λ v sought w. IsSearching v sought (at.At c d) w)
          (λ i. i))

-- What a lane has looked up: it grows by one key, and no other lane's answer changes it.

-- ---- where the keys of the seats stand

pub row_below : (width row other : ℕ) → row < other → row * width + width ≤ other * width
row_below width row zero less = absurd (omega (arith, less))
row_below width row (suc other) less = dite (ℕ_discrete row other)
    (λ same. let e = ap (λ z. z * width) same in omega (arith, e))
    (λ ne. let more = row_below width row other (omega (arith, less, ne)) in omega (arith, more))

-- two seats have no key together
pub apart : (width row other m n : ℕ) → m < width → n < width → m ≢ n → row * width + m ≢ other * width + n
apart width row other m n less less' ne same = ⊎_elim
    (λ (e : row ≡ other). let rows = ap (λ z. z * width) e in ne (omega (arith, same, rows)))
    (⊎_elim
    (λ (before : row < other). let more = row_below width row other before in omega (arith, more, same, less))
    (λ (behind : other < row). let more = row_below width other row behind in omega (arith, more, same, less')))
    (cases_order row other)

-- and one seat has another key in each row
own_apart : (width row other n : ℕ) → n < width → row < other → row * width + n ≢ other * width + n
own_apart width row other n less before same = let more = row_below width row other before in omega (arith, more, same, less)

-- ---- what was looked up

still_looked_up : (k : Shape) (keys : List ℕ) (answers answers' : List (Option ℕ)) (seats number count : ℕ) (v w : View)
    → ((row : ℕ) → row < count
    → slice_index_or answers' (row * seats + number) None ≡ slice_index_or answers (row * seats + number) None)
    → LooksUpEach k keys answers seats number count v w → LooksUpEach k keys answers' seats number count v w
still_looked_up k keys answers answers' seats number zero v w same looked = looked
still_looked_up k keys answers answers' seats number (suc count) v w same looked =
    let last : LooksUpAt k keys answers (count * seats + number) looked.0 w = looked.2 in (
      looked.0,
      still_looked_up k keys answers answers' seats number count v looked.0 (λ row less. same row (omega (arith, less))) looked.1,
      record {
        within = last.within;
        looked = subst (λ z. Looked looked.0 (slice_index keys (count * seats + number)) z w) (sym (same count (omega arith))) last.looked;
        few = last.few;
      },
    )

module _ (way : ℕ) (table : TableAt) (keys : List ℕ) (answers answers' : List (Option ℕ)) (seats number : ℕ) (s : SeatAt) (lane : Lane)
    (t : SeatAt) (p : IsLane way table keys answers seats number s lane t) where
  -- an answer of another seat was noted
  pub lane_other : (index other row : ℕ) → index ≡ row * seats + other → number ≢ other → number < seats → other < seats
      → ((i : ℕ) → i ≢ index → slice_index_or answers' i None ≡ slice_index_or answers i None)
      → IsLane way table keys answers' seats number s lane t
  lane_other index other row is ne less less' others = record {
    count = p.count;
    index_is = p.index_is;
    last = p.last;
    quiet = p.quiet;
    same_table = p.same_table;
    same_list = p.same_list;
    looked_up = still_looked_up (shape_of way table) keys answers answers' seats number p.count s.view p.last.view
        (λ mine _. others (mine * seats + number) (λ same. apart seats mine row number other less less' ne (same ∙ is))) p.looked_up;
    at = p.at;
  }

  -- its own was noted, and it is at the next key
  pub lane_next : (lane' : Lane) (u : SeatAt) → number < seats
      → ((i : ℕ) → i ≢ lane.index → slice_index_or answers' i None ≡ slice_index_or answers i None) → lane'.index ≡ lane.index + seats
      → ((l : SeatAt) → IsAt way table keys lane.index l lane t → (x : SeatAt) × HasGot (shape_of way table) keys answers' lane.index l x
      × IsAt way table keys (lane.index + seats) x lane' u)
      → IsLane way table keys answers' seats number s lane' u
  lane_next lane' u less others next on =
      let e = on p.last p.at in
      let got = e.1 in
      let is = p.index_is in record {
        count = suc p.count;
        index_is = omega (arith, is, next);
        last = e.0;
        quiet = quiet_after (shape_of way table) keys answers' lane.index p.last e.0 got p.quiet;
        same_table = got.same_table ∙ p.same_table;
        same_list = got.same_list ∙ p.same_list;
        looked_up = (
          p.last.view,
          still_looked_up (shape_of way table) keys answers answers' seats number p.count s.view p.last.view
              (λ row before. others (row * seats + number) (λ same. own_apart seats row p.count number less before (same ∙ is)))
              p.looked_up,
          subst (λ z. LooksUpAt (shape_of way table) keys answers' z p.last.view e.0.view) is got.looked_up,
        );
        at = subst (λ z. IsAt way table keys z e.0 lane' u) (sym next) e.2;
      }

  -- its search went on
  pub lane_moved : (lane' : Lane) (u : SeatAt) → lane'.index ≡ lane.index
      → ((l : SeatAt) → IsAt way table keys lane.index l lane t → IsAt way table keys lane.index l lane' u)
      → IsLane way table keys answers seats number s lane' u
  lane_moved lane' u same on = record {
    count = p.count;
    index_is = same ∙ p.index_is;
    last = p.last;
    quiet = p.quiet;
    same_table = p.same_table;
    same_list = p.same_list;
    looked_up = p.looked_up;
    at = subst (λ z. IsAt way table keys z p.last lane' u) (sym same) (on p.last p.at);
  }

-- All lanes: what a step of one leaves of the lists.

-- ---- lists

module _ {A : Type 0} where
  pub got : (xs : List A) (i : ℕ) → i < length xs → (x : A) × (get_elem? xs i ≡ some x)
  got [] i inside = absurd (omega arith)
  got (x ∷ xs) zero inside = (x, refl)
  got (x ∷ xs) (suc i) inside = got xs i (omega arith)

  -- an element as it is read: where the list is too short, it would be the other one
  pub is_there : (xs : List A) (i : ℕ) (d : A) → i < length xs → get_elem? xs i ≡ some (get_or xs i d)
  is_there [] i d inside = absurd (omega arith)
  is_there (x ∷ xs) zero d inside = refl
  is_there (x ∷ xs) (suc i) d inside = is_there xs i d (omega arith)

  set_is : (xs : List A) (i j : ℕ) (x a c : A) → get_elem? xs i ≡ some x → j ≡ i → get_elem? (set xs i a) j ≡ some c → a ≡ c
  set_is xs i j x a c there same e = some-injective a c
      (sym (set_here xs i a (at_below xs i x there)) ∙ subst (λ z. get_elem? (set xs i a) z ≡ some c) same e)

-- what holds of the elements of two lists at each index, after both changed at one
module _ {A B : Type 0} (P : ℕ → A → B → Type 0) (xs : List A) (ys : List B) (i : ℕ) (x a : A) (y b : B) where
  pub both_set : get_elem? xs i ≡ some x → get_elem? ys i ≡ some y → P i a b
      → ((j : ℕ) (c : A) (d : B) → j ≢ i → get_elem? xs j ≡ some c → get_elem? ys j ≡ some d → P j c d)
      → (j : ℕ) (c : A) (d : B) → get_elem? (set xs i a) j ≡ some c → get_elem? (set ys i b) j ≡ some d → P j c d
  both_set at_x at_y here others j c d ec ed = dite (ℕ_discrete j i)
      (λ same.
      let first : a ≡ c = set_is xs i j x a c at_x same ec in
      let second : b ≡ d = set_is ys i j y b d at_y same ed in
      subst (λ (z : ℕ × A × B). P z.0 z.1 z.2) (λ l. (sym same l, first l, second l)) here)
      (λ other. others j c d other (sym (set_else xs i j a other) ∙ ec) (sym (set_else ys i j b other) ∙ ed))

-- ---- seats

pub kept_all : (seats : List SeatAt) → AreKept seats seats
kept_all seats n s t at_s at_t = let e = at_one seats n t s at_t at_s in (ap (λ (z : SeatAt). z.table) e, ap (λ (z : SeatAt). z.listed) e)

pub kept_both : (first second third : List SeatAt) → length first ≡ length second → AreKept first second → AreKept second third
    → AreKept first third
kept_both first second third same one two n s u at_s at_u =
    let inside = at_below first n s at_s in
    let t = got second n (omega (arith, same, inside)) in
    let a = one n s t.0 at_s t.1 in
    let b = two n t.0 u t.1 at_u in
    (b.0 ∙ a.0, b.1 ∙ a.1)

-- one seat made steps
module _ (seats : List SeatAt) (n : ℕ) (t u : SeatAt) (there : get_elem? seats n ≡ some t) where
  pub tables_set : (table : TableAt) → Each seats (λ (s : SeatAt). s.table ≡ table) → u.table ≡ t.table
      → Each (set seats n u) (λ (s : SeatAt). s.table ≡ table)
  tables_set table each same = each_set (λ i (s : SeatAt). s.table ≡ table) seats n u (same ∙ each n t there)
      (λ i s other at_s. each i s at_s)

  pub kept_set : (before : List SeatAt) → AreKept before seats → u.table ≡ t.table → u.listed ≡ t.listed → AreKept before (set seats n u)
  kept_set before kept same_table same_list i s v at_s at_v =
      each_set (λ j (x : SeatAt). (s : SeatAt) → get_elem? before j ≡ some s → (x.table ≡ s.table) × (x.listed ≡ s.listed)) seats n u
      (λ s at_s. let old = kept n s t at_s there in (same_table ∙ old.0, same_list ∙ old.1))
      (λ j x other at_x s at_s. kept j s x at_s at_x) i v at_v s at_s

  steps_set : steps_of (set seats n u) + length t.view.trail.steps ≡ steps_of seats + length u.view.trail.steps
  steps_set = total_set (λ (s : SeatAt). length s.view.trail.steps) seats n t u there

  pub no_fewer_steps : length t.view.trail.steps ≤ length u.view.trail.steps → steps_of seats ≤ steps_of (set seats n u)
  no_fewer_steps more = let e = steps_set in omega (arith, e, more)

  pub more_steps : HasStepped t.view u.view → steps_of seats < steps_of (set seats n u)
  more_steps more = let e = steps_set in omega (arith, e, more)

  -- those behind it are as they were
  pub untouched_set : (first : List SeatAt) → ((i : ℕ) (s : SeatAt) → n ≤ i → get_elem? seats i ≡ some s → get_elem? first i ≡ some s)
      → (i : ℕ) (s : SeatAt) → n + 1 ≤ i → get_elem? (set seats n u) i ≡ some s → get_elem? first i ≡ some s
  untouched_set first same i s behind at_s =
      same i s (omega (arith, behind)) (sym (set_else seats n i u (λ e. omega (arith, behind, e))) ∙ at_s)

-- ---- lanes

-- no search of the first ones is under way, and neither is that of the next
pub over_more : (n : ℕ) (lanes : List Lane) (lane : Lane) → AreOver n lanes → lane.searches ≡ false → n < length lanes
    → AreOver (n + 1) (set lanes n lane)
over_more n lanes lane over ended inside i other before at_i = dite (ℕ_discrete i n)
    (λ same.
    let old = got lanes n inside in
    let is : lane ≡ other = set_is lanes n i old.0 lane other old.1 same at_i in
    subst (λ (z : Lane). z.searches ≡ false) is ended)
    (λ ne. over i other (omega (arith, before, ne)) (sym (set_else lanes n i lane ne) ∙ at_i))

-- one more lane has begun
module _ (P : ℕ → SeatAt → Lane → SeatAt → Type 0) (before : List SeatAt) where
  pub begun_set : (lanes : List Lane) (after : List SeatAt) (n : ℕ) (lane old : Lane) (t u : SeatAt) → get_elem? lanes n ≡ some old
      → get_elem? after n ≡ some t
      → ((i : ℕ) (s : SeatAt) → n ≤ i → get_elem? after i ≡ some s → get_elem? before i ≡ some s) → P n t lane u
      → ((i : ℕ) (s : SeatAt) (l : Lane) (v : SeatAt) → i < n → get_elem? before i ≡ some s → get_elem? lanes i ≡ some l
      → get_elem? after i ≡ some v → P i s l v)
      → (i : ℕ) (s : SeatAt) (l : Lane) (v : SeatAt) → i < n + 1 → get_elem? before i ≡ some s → get_elem? (set lanes n lane) i ≡ some l
      → get_elem? (set after n u) i ≡ some v → P i s l v
  begun_set lanes after n lane old t u at_old at_t untouched here begun i s l v inside at_s at_l at_v = both_set
      (λ j x y. (s : SeatAt) → j < n + 1 → get_elem? before j ≡ some s → P j s x y)
      lanes after n old lane t u at_old at_t
      (λ s _ at_s. subst (λ z. P n z lane u) (at_one before n t s (untouched n t (omega arith) at_t) at_s) here)
      (λ j x y other at_x at_y s before_n at_s. begun j s x y (omega (arith, other, before_n)) at_s at_x at_y) i l v at_l at_v s inside at_s

-- the same number of seats
pub counted : (way : ℕ) (table : TableAt) (keys : List ℕ) (answers : List (Option ℕ)) (seats seats' number : ℕ) (s : SeatAt) (lane : Lane)
    (t : SeatAt) → seats ≡ seats' → IsLane way table keys answers seats number s lane t
    → IsLane way table keys answers seats' number s lane t
counted way table keys answers seats seats' number s lane t same = subst (λ z. IsLane way table keys answers z number s lane t) same

module _ (way : ℕ) (table : TableAt) (keys : List ℕ) (answers : List (Option ℕ)) (before : List SeatAt) (lanes : List Lane)
    (after : List SeatAt) (m : AreLanes way table keys answers before lanes after) where
  -- the lane of that number, from the seat that it had at first
  pub lane_is : (n : ℕ) (lane : Lane) (t : SeatAt) → get_elem? lanes n ≡ some lane → get_elem? after n ≡ some t
      → (s : SeatAt) × (n < length before) × IsLane way table keys answers (length before) n s lane t
  lane_is n lane t at_lane at_t =
      let inside = at_below after n t at_t in
      let same = m.same_count in
      let s = got before n (omega (arith, inside, same)) in
      (s.0, omega (arith, inside, same), m.each n s.0 lane t s.1 at_lane at_t)

  -- one lane went on
  pub lanes_set : (n : ℕ) (lane lane' : Lane) (t u : SeatAt) (answers' : List (Option ℕ)) → get_elem? lanes n ≡ some lane
      → get_elem? after n ≡ some t → length answers' ≡ length keys
      → ((i : ℕ) → i ≢ lane.index → slice_index_or answers' i None ≡ slice_index_or answers i None)
      → ((s : SeatAt) → n < length before → IsLane way table keys answers (length before) n s lane t
      → IsLane way table keys answers' (length before) n s lane' u)
      → AreLanes way table keys answers' before (set lanes n lane') (set after n u)
  lanes_set n lane lane' t u answers' at_lane at_t room others on =
      let here = lane_is n lane t at_lane at_t in record {
        same_count = m.same_count ∙ sym (length-set after n u);
        room = room;
        each = λ i s l v at_s at_l at_v. both_set
            (λ j x y. (s : SeatAt) → get_elem? before j ≡ some s → IsLane way table keys answers' (length before) j s x y)
            lanes after n lane lane' t u at_lane at_t
            (λ s at_s. on s here.1 (m.each n s lane t at_s at_lane at_t))
            (λ j x y other at_x at_y s at_s. lane_other way table keys answers answers' (length before) j s x y
            (m.each j s x y at_s at_x at_y) lane.index n here.2.count here.2.index_is other (at_below before j s at_s) here.1 others)
            i l v at_l at_v s at_s;
      }

  -- ---- at the end

  module _ (over : AreOver (length after) lanes) (enough : length after ≤ length lanes) where
    ended : (n : ℕ) (s t : SeatAt) → get_elem? before n ≡ some s → get_elem? after n ≡ some t
        → (lane : Lane) × (p : IsLane way table keys answers (length before) n s lane t) × (length keys ≤ lane.index) × (t ≡ p.last)
    ended n s t at_s at_t =
        let inside = at_below after n t at_t in
        let lane = got lanes n (omega (arith, inside, enough)) in
        let p = m.each n s lane.0 t at_s lane.1 at_t in
        let out = outside_is keys lane.0.index p.last (shape_of way table) lane.0.searches lane.0.key lane.0.ahead t
        (over n lane.0 inside lane.1) p.at in
        (lane.0, p, out.0, out.1)

    pub all_looked_up : LooksUpAll (shape_of way table) keys answers before after
    all_looked_up n s t at_s at_t =
        let e = ended n s t at_s at_t in
        let none_left = e.2 in
        let index_is = e.1.index_is in (
          e.1.count,
          omega (arith, none_left, index_is),
          subst (λ (z : SeatAt). LooksUpEach (shape_of way table) keys answers (length before) n e.1.count s.view z.view) (sym e.3) e.1.looked_up,
        )

    pub all_quiet : Each after IsQuietSeat
    all_quiet n t at_t =
        let inside = at_below after n t at_t in
        let same = m.same_count in
        let s = got before n (omega (arith, inside, same)) in
        let e = ended n s.0 t s.1 at_t in
        subst IsQuietSeat (sym e.3) e.1.quiet

-- How many steps lanes make together at most: so they come to an end.

-- how many steps a lookup makes at most
abbrev pub most_steps : Shape → ℕ
most_steps k = 3 * slot_count k + 4

-- how many steps a lane makes at most, with so many keys
abbrev pub budget : Shape → List ℕ → ℕ
budget k keys = length keys * most_steps k

-- a count isn't more than its rows
rows_count : (seats count : ℕ) → 1 ≤ seats → count ≤ count * seats
rows_count seats zero seated = omega arith
rows_count seats (suc count) seated = let more = rows_count seats count seated in omega (arith, more, seated)

-- what was looked up took so many steps
each_few : (k : Shape) (keys : List ℕ) (answers : List (Option ℕ)) (seats number count : ℕ) (v w : View)
    → LooksUpEach k keys answers seats number count v w → length w.trail.steps ≤ length v.trail.steps + count * most_steps k
each_few k keys answers seats number zero v w looked = let same = ap (λ (z : View). length z.trail.steps) looked in omega (arith, same)
each_few k keys answers seats number (suc count) v w looked =
    let before = each_few k keys answers seats number count v looked.0 looked.1 in
    let last = looked.2.few in
    omega (arith, before, last)

-- and there were no more keys than there are
each_keys : (k : Shape) (keys : List ℕ) (answers : List (Option ℕ)) (seats number count : ℕ) (v w : View) → 1 ≤ seats
    → LooksUpEach k keys answers seats number count v w → count ≤ length keys
each_keys k keys answers seats number zero v w seated looked = omega arith
each_keys k keys answers seats number (suc count) v w seated looked =
    let within = looked.2.within in let rows = rows_count seats count seated in omega (arith, within, rows)

times_up : (a b n : ℕ) → a ≤ b → a * n ≤ b * n
times_up zero b n less = omega arith
times_up (suc a) zero n less = absurd (omega (arith, less))
times_up (suc a) (suc b) n less = let more = times_up a b n (omega (arith, less)) in omega (arith, more)

-- a search that is under way has made fewer steps than a lookup
on_few : (k : Shape) (ahead key : ℕ) (v w : View) → LooksOn k ahead v key w
    → length w.trail.steps ≤ length v.trail.steps + most_steps k
on_few k ahead key v w on =
    let left = told_once on.looks.loads.left_told in
    let right = told_once on.looks.loads.right_told in
    let pace = on.pace.pace in
    let few = on.few in
    omega (arith, left, right, pace, few)

stands_few : (k : Shape) (keys : List ℕ) (count seats number index : ℕ) (s : SeatAt) (searches : Bool) (key ahead : ℕ) (t : SeatAt)
    → 1 ≤ seats → index ≡ count * seats + number → StandsAt k keys index s searches key ahead t → count ≤ length keys
    → length t.view.trail.steps + count * most_steps k ≤ length s.view.trail.steps + budget k keys
stands_few k keys count seats number index s false key ahead t seated is stands most =
    let same = ap (λ (z : SeatAt). length z.view.trail.steps) stands.1 in
    let all = times_up count (length keys) (most_steps k) most in
    omega (arith, same, all)
stands_few k keys count seats number index s true key ahead t seated is stands most =
    let within = stands.1.within in
    let rows = rows_count seats count seated in
    let one = on_few k ahead _ s.view t.view stands.1.search in
    let all = row_below (most_steps k) count (length keys) (omega (arith, within, rows, is)) in
    omega (arith, one, all)

lane_few : (way : ℕ) (table : TableAt) (keys : List ℕ) (answers : List (Option ℕ)) (seats number : ℕ) (s : SeatAt) (lane : Lane) (t : SeatAt)
    → 1 ≤ seats → IsLane way table keys answers seats number s lane t
    → length t.view.trail.steps ≤ length s.view.trail.steps + budget (shape_of way table) keys
lane_few way table keys answers seats number s lane t seated p =
    let k : Shape = shape_of way table in
    let before = each_few k keys answers seats number p.count s.view p.last.view p.looked_up in
    let now = stands_few k keys p.count seats number lane.index p.last lane.searches lane.key lane.ahead t seated p.index_is p.at
    (each_keys k keys answers seats number p.count s.view p.last.view seated p.looked_up) in
    omega (arith, before, now)

-- a total, where each summand grew by so much at most
total_few : {A : Type 0} (f : A → ℕ) (most : ℕ) (before after : List A) → length before ≡ length after
    → ((i : ℕ) (s t : A) → get_elem? before i ≡ some s → get_elem? after i ≡ some t → f t ≤ f s + most)
    → total f after ≤ total f before + length before * most
total_few f most [] [] same each = omega arith
total_few f most (s ∷ before) (t ∷ after) same each =
    let here = each 0 s t refl refl in
    let rest = total_few f most before after (omega (arith, same)) (λ i x y at_x at_y. each (suc i) x y at_x at_y) in
    omega (arith, here, rest)
total_few f most _ _ same each = absurd (omega (arith, same))

-- All lanes together make no more than their budgets.
pub lanes_few : (way : ℕ) (table : TableAt) (keys : List ℕ) (answers : List (Option ℕ)) (before : List SeatAt) (lanes : List Lane)
    (after : List SeatAt) → AreLanes way table keys answers before lanes after → length after ≤ length lanes
    → steps_of after ≤ steps_of before + length before * budget (shape_of way table) keys
lanes_few way table keys answers before lanes after m enough =
    total_few (λ (s : SeatAt). length s.view.trail.steps) (budget (shape_of way table) keys) before after m.same_count
    (λ i s t at_s at_t.
    let first = at_below before i s at_s in
    let inside = at_below after i t at_t in
    let lane = got lanes i (omega (arith, inside, enough)) in
    lane_few way table keys answers (length before) i s lane.0 t (omega (arith, first)) (m.each i s lane.0 t at_s lane.1 at_t))
