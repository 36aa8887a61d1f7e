-- Loads of a listing, what they show of slots, and the way down to the nearest pair.
-- Loads of a listing, one after another.
use Rattle.std.proofs.Common.{IfErr, IfOk, Result, Ok, Err, ◌≡◌, ◌≢◌, ℕ, zero, suc, ◌<◌, ◌==◌, ◌⊎◌, Bool, true, false, cond, List, [], ◌∷◌, ◌++◌, Some, refl, sym, ap, subst, ◌∙◌, eq-eqb, ne_eqb, None, inl, inr, arith, ◌^◌, ◌≤◌, Option}
use mathlib.Core.Option.{some-injective, some-ne-none}
use Rattle.prcu_marks.specs.declared.mark.Side.TheVariants.{Right, Left}
use Rattle.core_state.specs.declared.shape.Shape.{Shape}
use Rattle.core_state.specs.declared.words.Field.{Field}
use Rattle.core_state.specs.declared.words.Field.TheVariants.{Link, Key, Value}
use Rattle.core_state.specs.declared.view.Listing.{Listing}
use Rattle.core_state.specs.declared.view.Section.{Section}
use Rattle.core_state.specs.declared.view.View.{View}
use Rattle.core_state.specs.declared.view.Visit.{Visit}
use Rattle.core_state.specs.Memory.{slot_count, child_of, across}
use Rattle.core_state.specs.Steps.{no_bounds, visits_by_link, gaps_by_link, visits_by, facts_by, gaps_by, by_visits, listed_below, listed_root, listed, after_list_load, narrowed}
use Rattle.list_laws.specs.Counts.{IsIn}
use Rattle.list_laws.proofs.Lists.{in_first, in_second}
use Rattle.core_state.specs.Views.{IsLoadable}
use Rattle.core_state.specs.declared.act.Part.{Part}
use Rattle.core_state.specs.declared.act.Act.TheVariants.{ListLoad}
use Rattle.core_state.specs.Acts.{in_slot, noted, Asks, section_of, listing_of}
use Rattle.core_laws.proofs.Acting.{part_word, section_is, may_list}
use Rattle.seat_table.specs.Gains.{IsSlot, Told}
use Rattle.seat_table.proofs.SeveralSteps.{made_none, made_more, made_both}
use Rattle.exact_list.specs.Tries.{is_load, IsListing, HasFoundMore, HasLoaded, KnowsKey, Leads}
use mathlib.Core.Logic.{dite}
use native.Mathlib.Decide.{ℕ_discrete, dec_le}
use Rattle.prcu_marks.specs.declared.mark.Side.{Side}
use Rattle.core_state.specs.declared.view.Fact.{Fact}
use Rattle.core_state.specs.declared.view.Gap.{Gap}
use Rattle.exact_list.specs.Pairs.{fact_of, IsBefore}
use Rattle.core_state.specs.Parts.{low_bound, high_bound, IsBetween}
use Rattle.exact_list.specs.declared.way.Passed.{Passed}
use Rattle.exact_list.specs.Loads.{IsOn, FindsNearest, IsOpenTo, bound_on, IsPassed, HasReached}
use Rattle.core_state.specs.declared.words.Kind.TheVariants as kinds
use Rattle.core_state.specs.declared.act.Part.TheVariants as part

pub same_found : (l : Listing) → HasFoundMore l l
same_found l = record { front = refl; facts = λ f has. has; gaps = λ gap has. has; visits = λ t has. has }

pub found_both : (a b c : Listing) → HasFoundMore a b → HasFoundMore b c → HasFoundMore a c
found_both a b c m n = record {
  front = n.front ∙ m.front;
  facts = λ f has. n.facts f (m.facts f has);
  gaps = λ gap has. n.gaps gap (m.gaps gap has);
  visits = λ t has. n.visits t (m.visits t has);
}

-- Loads only add to what was found.
pub found_below : (l : Listing) (s : ℕ) (field : Field) (n : ℕ) → HasFoundMore l (listed_below l s field n)
found_below l s field n = record {
  front = refl;
  facts = λ f has. in_second (by_visits (λ (t : Visit). facts_by t.key field n) s l.visits) l.facts f has;
  gaps = λ gap has. in_second (by_visits (λ (t : Visit). gaps_by t t.key field n) s l.visits) l.gaps gap has;
  visits = λ t has. in_second (by_visits (λ (u : Visit). visits_by u u.key field n) s l.visits) l.visits t has;
}

found_root : (l : Listing) (field : Field) (n : ℕ) → HasFoundMore l (listed_root l field n)
found_root l (Link t Right) n = record {
  front = refl;
  facts = λ f has. has;
  gaps = λ gap has. in_second (gaps_by_link no_bounds n) l.gaps gap has;
  visits = λ u has. in_second (visits_by_link no_bounds n) l.visits u has;
}
found_root l _ n = same_found l

pub found_more : (l : Listing) (s : ℕ) (field : Field) (n : ℕ) → HasFoundMore l (listed l s field n)
found_more l s field n = cases (s == 0)
  where
    cases : (z : Bool) → HasFoundMore l (cond z (listed_root l field n) (listed_below l s field n))
    cases true = found_root l field n
    cases false = found_below l s field n

-- what is found at one of the visits of a slot
pub in_by : {A : Type 0} (found : Visit → List A) (slot : ℕ) (ts : List Visit) (t : Visit) (a : A) → IsIn ts t → t.slot ≡ slot
    → IsIn (found t) a → IsIn (by_visits found slot ts) a
in_by found slot [] t a has same is = absurd (some-ne-none t (sym has.1))
in_by found slot (u ∷ ts) t a (zero, e) same is =
    let one : t ≡ u = sym (some-injective u t e) in
    let yes : (u.slot == slot) ≡ true = eq-eqb u.slot slot (ap (λ (x : Visit). x.slot) (sym one) ∙ same) in
    subst (λ z. IsIn (cond z (found u ++ by_visits found slot ts) (by_visits found slot ts)) a) (sym yes)
    (in_first (found u) (by_visits found slot ts) a (subst (λ (x : Visit). IsIn (found x) a) one is))
in_by found slot (u ∷ ts) t a (suc j, e) same is = cases (u.slot == slot) (in_by found slot ts t a (j, e) same is)
  where
    cases : (z : Bool) → IsIn (by_visits found slot ts) a → IsIn (cond z (found u ++ by_visits found slot ts) (by_visits found slot ts)) a
    cases true i = in_second (found u) (by_visits found slot ts) a i
    cases false i = i

-- nothing was loaded yet
abbrev pub loaded_none : (v : View) (x : IsListing v) → HasLoaded v v
loaded_none v x = record {
  section = x.section;
  before = x.listing;
  after = x.listing;
  was = x.inside;
  lists = x.lists;
  more = same_found x.listing;
  made = made_none is_load v.trail;
  others = λ i. record v { section = (x.inside ∙ (λ j. Some (record x.section { listing = x.lists j }))) i };
}

abbrev pub still_listing : (v w : View) (l : HasLoaded v w) → IsListing w
still_listing v w l = record {
  section = record l.section { listing = Some l.after };
  listing = l.after;
  inside = ap (λ (z : View). z.section) l.others;
  lists = refl;
}

pub loaded_both : (u v w : View) (a : HasLoaded u v) (b : HasLoaded v w)
    → (c : HasLoaded u w) × (c.after ≡ b.after) × HasFoundMore a.after b.after
loaded_both u v w a b =
    let now : Section = record a.section { listing = Some a.after } in
    let one : Some b.section ≡ Some now = sym b.was ∙ ap (λ (z : View). z.section) a.others in
    let same : ◌≡◌ {A = Section} b.section now = cc in
    let two : Some b.before ≡ Some a.after = sym b.lists ∙ ap (λ (z : Section). z.listing) same in
    let listing : ◌≡◌ {A = Listing} b.before a.after = cc in
    let next : HasFoundMore a.after b.after = subst (λ z. HasFoundMore z b.after) listing b.more in (
      record {
        section = a.section;
        before = a.before;
        after = b.after;
        was = a.was;
        lists = a.lists;
        more = found_both a.before a.after b.after a.more next;
        made = made_both is_load is_load is_load (λ kind is. is) (λ kind is. is) u.trail v.trail w.trail a.made b.made;
        others = b.others ∙ (λ i. record (a.others i) { section = Some (record (same i) { listing = Some b.after }); trail = w.trail });
      },
      refl,
      next,
    )

module _ (k : Shape) (v : View) where
  -- a slot of the table may be loaded, where it is the root or the listing has been there
  pub may_load : (u : View) (x : IsListing u) (s : ℕ) (p : Part) → s < slot_count k
      → (s ≡ 0) ⊎ ((t : Visit) × IsIn x.listing.visits t × (t.slot ≡ s)) → IsLoadable s (in_slot s p) → Asks k u (ListLoad s p)
  may_load u x s p below been loadable = (
    part_word k s p below,
    may_list u s p x.inside x.lists been loadable,
  )

  -- one load more
  pub loads : (u w : View) (s : ℕ) (p : Part) (n : ℕ) (l : HasLoaded v u) → Told k u (ListLoad s p) n w
      → (m : HasLoaded v w) × (m.after ≡ listed l.after s (in_slot s p) n)
  loads u w s p n l t =
      let after : Listing = listed l.after s (in_slot s p) n in
      let now : Section = record l.section { listing = Some l.after } in
      let same : section_of u ≡ now = section_is u now (ap (λ (z : View). z.section) l.others) in
      let x : View = noted u (ListLoad s p) n in
      let goes : w ≡ record x { section = Some (record l.section { listing = Some after }) } =
      t.goes ∙ (λ i. after_list_load x (same i) (listing_of (same i)) s (in_slot s p) n) in
      subst (λ z. (m : HasLoaded v z) × (m.after ≡ after)) (sym goes) (
        record {
          section = l.section;
          before = l.before;
          after = after;
          was = l.was;
          lists = l.lists;
          more = found_both l.before l.after after l.more (found_more l.after s (in_slot s p) n);
          made = made_more is_load v.trail u kinds.K17 (in_slot s p) n refl l.made;
          others = λ i. record (l.others i) { section = Some (record l.section { listing = Some after }); trail = x.trail };
        },
        refl,
      )

  -- at a slot that isn't the root
  pub loads_below : (u w : View) (s : ℕ) (p : Part) (n : ℕ) (l : HasLoaded v u) → s ≢ 0 → Told k u (ListLoad s p) n w
      → (m : HasLoaded v w) × (m.after ≡ listed_below l.after s (in_slot s p) n)
  loads_below u w s p n l ne t =
      let m = loads u w s p n l t in
      (m.0, m.1 ∙ ap (λ z. cond z (listed_root l.after (in_slot s p) n) (listed_below l.after s (in_slot s p) n)) (ne_eqb s 0 ne))

  -- where the listing has been is a slot of the table
  pub slot_at : (u w : View) (s : ℕ) (p : Part) (n : ℕ) (m : HasLoaded v w) → Told k u (ListLoad s p) n w → (t : Visit)
      → IsIn m.after.visits t → IsSlot k t.slot
  slot_at u w s p n m told t has = told.stood.listed (record m.section { listing = Some m.after }) m.after t
      (ap (λ (z : View). z.section) m.others) refl has

-- Whatever came of it, loads were made.
pub loaded_anyway : {T E : Type 0} {v w : View} (P : HasLoaded v w → T → Type 0) (r : Result T E) → IfOk r (λ x. (l : HasLoaded v w) × P l x)
    → IfErr r (λ _. HasLoaded v w) → HasLoaded v w
loaded_anyway P (Ok x) ok err = ok.0
loaded_anyway P (Err y) ok err = err

-- what is so, is so where a call gives up
pub if_err : {T E X : Type 0} (r : Result T E) → X → IfErr r (λ _. X)
if_err (Ok x) is = tt
if_err (Err y) is = is

-- Links are followed from slot to slot, load by load.

-- the slot to which a link leads
pub child_is : (link s : ℕ) → child_of link ≡ Some s → (link ≢ 0) × (link ≡ s)
child_is link s is = dite (ℕ_discrete link 0)
    (λ none. absurd (let e : None ≡ Some s = sym (ap (λ b. cond b None (Some link)) (eq-eqb link 0 none)) ∙ is in cc))
    (λ ne. (ne, (let e : Some link ≡ Some s = sym (ap (λ b. cond b None (Some link)) (ne_eqb link 0 ne)) ∙ is in cc)))

pub no_child : (link : ℕ) → child_of link ≡ None → link ≡ 0
no_child link is = dite (ℕ_discrete link 0) (λ none. none)
    (λ ne. absurd (let e : Some link ≡ None = sym (ap (λ b. cond b None (Some link)) (ne_eqb link 0 ne)) ∙ is in cc))

-- what a link shows
to_slot : (bounds : Gap) (n : ℕ) → n ≢ 0 → IsIn (visits_by_link bounds n) (record { slot = n; key = None; bounds = bounds })
to_slot bounds n ne =
    let to : Visit = record { slot = n; key = None; bounds = bounds } in
    subst (λ b. IsIn (cond b [] (to ∷ [])) to) (sym (ne_eqb n 0 ne)) (0, refl)

to_end : (bounds : Gap) (n : ℕ) → n ≡ 0 → IsIn (gaps_by_link bounds n) bounds
to_end bounds n none = subst (λ b. IsIn (cond b (bounds ∷ []) []) bounds) (sym (eq-eqb n 0 none)) (0, refl)

-- what was known is known still
pub known_more : (k : Shape) (a b : List Visit) (s key : ℕ) (bounds : Gap) → ((t : Visit) → IsIn a t → IsIn b t)
    → KnowsKey k a s key bounds → KnowsKey k b s key bounds
known_more k a b s key bounds more known = record {
  node = known.node;
  here = more (record { slot = s; key = Some key; bounds = bounds }) known.here;
}

-- a link fits the number of a slot
pub leads_fits : {k : Shape} {l : Listing} {bounds : Gap} {link : ℕ} → Leads k l bounds link → link < 4294967296
leads_fits {k} {l} {bounds} {link} leads = dite (ℕ_discrete link 0) (λ none. omega (arith, none)) (λ ne. (leads.here ne).0.fits)

module _ (k : Shape) (v : View) where
  -- the root's right link is loaded, which leads to all keys
  pub may_begin : (u : View) → IsListing u → Asks k u (ListLoad 0 (part.Link Right))
  may_begin u x = may_load k v u x 0 (part.Link Right) (omega arith) (inl refl) refl

  pub leads_to_all : (u w : View) (n : ℕ) (l : HasLoaded v u) → Told k u (ListLoad 0 (part.Link Right)) n w
      → (m : HasLoaded v w) × HasFoundMore l.after m.after × Leads k m.after no_bounds n
  leads_to_all u w n l t =
      let m = loads k v u w 0 (part.Link Right) n l t in
      let after : Listing = listed l.after 0 (Link 0 Right) n in
      let to : Visit = record { slot = n; key = None; bounds = no_bounds } in
      let there : n ≢ 0 → IsIn after.visits to = λ ne. in_first (visits_by_link no_bounds n) l.after.visits to (to_slot no_bounds n ne) in
      let p = subst (λ z. HasFoundMore l.after z × Leads k z no_bounds n) (sym m.1) (
        found_more l.after 0 (Link 0 Right) n,
        record {
          here = λ ne. (
            slot_at k v u w 0 (part.Link Right) n m.0 t to (subst (λ (z : Listing). IsIn z.visits to) (sym m.1) (there ne)),
            there ne,
          );
          ended = λ is. in_first (gaps_by_link no_bounds n) l.after.gaps no_bounds (to_end no_bounds n is);
        },
      ) in
      (m.0, p.0, p.1)

  module _ (u : View) (l : HasLoaded v u) (s : ℕ) where
    -- each part of a slot where it has been may be loaded
    may_at : (p : Part) (t : Visit) → IsSlot k s → IsIn l.after.visits t → t.slot ≡ s → IsLoadable s (in_slot s p) → Asks k u (ListLoad s p)
    may_at p t slot has same loadable = may_load k v u (still_listing v u l) s p slot.inside (inr (t, has, same)) loadable

    -- where the link leads to a slot, its key is loaded
    module _ (bounds : Gap) (leads : Leads k l.after bounds s) (ne : s ≢ 0) where
      pub may_read : Asks k u (ListLoad s part.Key)
      may_read = let here = leads.here ne in may_at part.Key (record { slot = s; key = None; bounds = bounds }) here.0 here.1 refl refl

      pub reads_key : (w : View) (n : ℕ) → Told k u (ListLoad s part.Key) n w
          → (m : HasLoaded v w) × HasFoundMore l.after m.after × KnowsKey k m.after.visits s n bounds
      reads_key w n t =
          let m = loads_below k v u w s part.Key n l ne t in
          let here = leads.here ne in
          let was : Visit = record { slot = s; key = None; bounds = bounds } in
          let now : Visit = record { slot = s; key = Some n; bounds = bounds } in
          let found = λ (t : Visit). visits_by t t.key (Key s) n in
          let p = subst (λ (z : Listing). HasFoundMore l.after z × KnowsKey k z.visits s n bounds) (sym m.1) (
            found_below l.after s (Key s) n,
            record {
              node = (ne, here.0);
              here = in_first (by_visits found s l.after.visits) l.after.visits now
                  (in_by found s l.after.visits was now here.1 refl (0, refl));
            },
          ) in
          (m.0, p.0, p.1)

    module _ (key : ℕ) (bounds : Gap) (known : KnowsKey k l.after.visits s key bounds) where
      abbrev visit : Visit
      visit = record { slot = s; key = Some key; bounds = bounds }

      pub may_value : Asks k u (ListLoad s part.Value)
      may_value = may_at part.Value visit known.node.1 known.here refl refl

      pub may_go : (b : Side) → Asks k u (ListLoad s (part.Link b))
      may_go b = may_at (part.Link b) visit known.node.1 known.here refl refl

      -- its value is loaded: a pair was found
      pub reads_value : (w : View) (n : ℕ) → Told k u (ListLoad s part.Value) n w
          → (m : HasLoaded v w) × HasFoundMore l.after m.after × IsIn m.after.facts (fact_of (key, n))
      reads_value w n t =
          let m = loads_below k v u w s part.Value n l known.node.0 t in
          let fact : Fact = record { key = key; value = n } in
          let found = λ (t : Visit). facts_by t.key (Value s) n in
          let p = subst (λ (z : Listing). HasFoundMore l.after z × IsIn z.facts fact) (sym m.1) (
            found_below l.after s (Value s) n,
            in_first (by_visits found s l.after.visits) l.after.facts fact
                (in_by found s l.after.visits visit fact known.here refl (0, refl)),
          ) in
          (m.0, p.0, p.1)

      -- a link is loaded, past which the bounds are narrower
      pub leads_past : (b : Side) (w : View) (n : ℕ) → Told k u (ListLoad s (part.Link b)) n w
          → (m : HasLoaded v w) × HasFoundMore l.after m.after × Leads k m.after (narrowed bounds key b) n
      leads_past b w n t =
          let m = loads_below k v u w s (part.Link b) n l known.node.0 t in
          let after : Listing = listed_below l.after s (Link s b) n in
          let past : Gap = narrowed bounds key b in
          let to : Visit = record { slot = n; key = None; bounds = past } in
          let found = λ (t : Visit). visits_by t t.key (Link s b) n in
          let ends = λ (t : Visit). gaps_by t t.key (Link s b) n in
          let there : n ≢ 0 → IsIn after.visits to =
          λ ne. in_first (by_visits found s l.after.visits) l.after.visits to
          (in_by found s l.after.visits visit to known.here refl (to_slot past n ne)) in
          let p = subst (λ z. HasFoundMore l.after z × Leads k z past n) (sym m.1) (
            found_below l.after s (Link s b) n,
            record {
              here = λ ne. (
                slot_at k v u w s (part.Link b) n m.0 t to (subst (λ (z : Listing). IsIn z.visits to) (sym m.1) (there ne)),
                there ne,
              );
              ended = λ is. in_first (by_visits ends s l.after.visits) l.after.gaps past
                  (in_by ends s l.after.visits visit past known.here refl (to_end past n is));
            },
          ) in
          (m.0, p.0, p.1)

-- The way down to the pair that is nearest to a key, load by load.

-- bounds, from the root on
pub open_first : (side : Side) (from : ℕ) → from < 2 ^ 64 → IsOpenTo side from no_bounds
open_first Left from fits = fits
open_first Right from fits = omega arith

pub bound_first : (side : Side) → bound_on side no_bounds ≡ None
bound_first Left = refl
bound_first Right = refl

none_passed : (k : Shape) (visits : List Visit) (side : Side) (from : ℕ) → IsPassed k visits side from no_bounds None
none_passed k visits side from = bound_first side

-- past a key that is on the side
pub open_away : (side : Side) (from key : ℕ) (bounds : Gap) → IsOpenTo side from bounds → IsOpenTo side from (narrowed bounds key (across side))
open_away Left from key bounds near = near
open_away Right from key bounds near = near

pub bound_away : (side : Side) (key : ℕ) (bounds : Gap) → bound_on side (narrowed bounds key (across side)) ≡ Some key
bound_away Left key bounds = refl
bound_away Right key bounds = refl

-- and past one that isn't
open_towards : (side : Side) (from key : ℕ) (bounds : Gap) → key < 2 ^ 64 → (IsOn side from key → ⊥)
    → IsOpenTo side from (narrowed bounds key side)
open_towards Left from key bounds fits off = dite (dec_le key from) (λ on. absurd (off on)) (λ less. omega (arith, less))
open_towards Right from key bounds fits off = dite (dec_le from key) (λ on. absurd (off (on, fits))) (λ less. omega (arith, less))

pub bound_towards : (side : Side) (key : ℕ) (bounds : Gap) → bound_on side (narrowed bounds key side) ≡ bound_on side bounds
bound_towards Left key bounds = refl
bound_towards Right key bounds = refl

passed_more : (k : Shape) (a b : List Visit) (side : Side) (from : ℕ) (bounds other : Gap) (best : Option Passed)
    → ((t : Visit) → IsIn a t → IsIn b t) → bound_on side other ≡ bound_on side bounds → IsPassed k a side from bounds best
    → IsPassed k b side from other best
passed_more k a b side from bounds other None more same is = same ∙ is
passed_more k a b side from bounds other (Some p) more same is =
    (same ∙ is.0, is.1, (is.2.0, known_more k a b p.slot p.key is.2.0 more is.2.1))

-- the keys on the side up to the bound there are between the bounds
between_all : (side : Side) (from key : ℕ) (bounds : Gap) → IsOpenTo side from bounds → bound_on side bounds ≡ None → IsOn side from key
    → IsBetween bounds key
between_all Left from key bounds near none on = (subst (λ o. low_bound o ≤ key) (sym none) (omega arith), omega (arith, on, near))
between_all Right from key bounds near none on = (omega (arith, near, on.0), subst (λ o. key < high_bound o) (sym none) on.1)

between_before : (side : Side) (from key end : ℕ) (bounds : Gap) → IsOpenTo side from bounds → bound_on side bounds ≡ Some end
    → IsOn side from key → IsBefore side key end → IsBetween bounds key
between_before Left from key end bounds near is on before =
    (subst (λ o. low_bound o ≤ key) (sym is) (omega (arith, before)), omega (arith, on, near))
between_before Right from key end bounds near is on before =
    (omega (arith, near, on.0), subst (λ o. key < high_bound o) (sym is) before)

-- what was loaded since a view, and where the way down has come to
abbrev pub HasSought : Shape → View → View → Side → ℕ → ℕ → Option Passed → Type 0
HasSought k v u side from link best = (l : HasLoaded v u) × HasReached k l.after side from link best

pub seeks : {k : Shape} {v w : View} {n : ℕ} (side : Side) (from : ℕ) → IsListing v → from < 2 ^ 64
    → Told k v (ListLoad 0 (part.Link Right)) n w → HasSought k v w side from n None
seeks {k} {v} {w} {n} side from x fits t =
    let r = leads_to_all k v v w n (loaded_none v x) t in (
      r.0,
      record {
        bounds = no_bounds;
        near = open_first side from fits;
        passed = none_passed k r.0.after.visits side from;
        leads = r.2;
      },
    )

pub sought_fits : {k : Shape} {v u : View} {side : Side} {from link : ℕ} {best : Option Passed} → HasSought k v u side from link best
    → link < 4294967296
sought_fits {k} {v} {u} {side} {from} {link} {best} z = leads_fits z.1.leads

-- the latest link leads to an end
pub sought_end : {k : Shape} {v u : View} {side : Side} {from link : ℕ} {best : Option Passed} → HasSought k v u side from link best
    → child_of link ≡ None → HasSought k v u side from 0 best
sought_end {k} {v} {u} {side} {from} {link} {best} z is = subst (λ n. HasSought k v u side from n best) (no_child link is) z

-- the latest link leads to a slot
pub record SeeksAt (k : Shape) (v u : View) (side : Side) (from s : ℕ) (best : Option Passed) : Type 0 where
  pub sought : HasSought k v u side from s best
  pub some_slot : s ≢ 0

pub seeks_at : {k : Shape} {v u : View} {side : Side} {from link s : ℕ} {best : Option Passed} → HasSought k v u side from link best
    → child_of link ≡ Some s → SeeksAt k v u side from s best
seeks_at {k} {v} {u} {side} {from} {link} {s} {best} z is =
    let c = child_is link s is in
    subst (λ n. SeeksAt k v u side from n best) c.1 (record { sought = z; some_slot = c.0 })

module _ {k : Shape} {v u : View} {side : Side} {from s : ℕ} {best : Option Passed} (z : SeeksAt k v u side from s best) where
  abbrev bounds : Gap
  bounds = z.sought.1.bounds

  pub may_read_key : Asks k u (ListLoad s part.Key)
  may_read_key = may_read k v u z.sought.0 s bounds z.sought.1.leads z.some_slot

  module _ {w : View} {key : ℕ} (t : Told k u (ListLoad s part.Key) key w) where
    at_key : (m : HasLoaded v w) × HasFoundMore z.sought.0.after m.after × KnowsKey k m.after.visits s key bounds
    at_key = reads_key k v u z.sought.0 s bounds z.sought.1.leads z.some_slot w key t

    pub may_go_down : (b : Side) → Asks k w (ListLoad s (part.Link b))
    may_go_down b = may_go k v w at_key.0 s key bounds at_key.2 b

    -- past a key on the side, which is the nearest so far
    pub goes_away : {x : View} {n : ℕ} {b : Side} → b ≡ across side → IsOn side from key → Told k w (ListLoad s (part.Link b)) n x
        → HasSought k v x side from n (Some (record { slot = s; key = key }))
    goes_away {x} {n} {b} is on away =
        let r = leads_past k v w at_key.0 s key bounds at_key.2 (across side) x n
        (subst (λ (c : Side). Told k w (ListLoad s (part.Link c)) n x) is away) in (
          r.0,
          record {
            bounds = narrowed bounds key (across side);
            near = open_away side from key bounds z.sought.1.near;
            passed = (
              bound_away side key bounds,
              on,
              (bounds, known_more k at_key.0.after.visits r.0.after.visits s key bounds r.1.visits at_key.2),
            );
            leads = r.2;
          },
        )

    -- past another
    pub goes_towards : {x : View} {n : ℕ} → key < 2 ^ 64 → (IsOn side from key → ⊥) → Told k w (ListLoad s (part.Link side)) n x
        → HasSought k v x side from n best
    goes_towards {x} {n} fits off towards =
        let a = at_key in
        let r = leads_past k v w a.0 s key bounds a.2 side x n towards in (
          r.0,
          record {
            bounds = narrowed bounds key side;
            near = open_towards side from key bounds fits off;
            passed = passed_more k z.sought.0.after.visits r.0.after.visits side from bounds (narrowed bounds key side) best
                (λ visit has. r.1.visits visit (a.1.visits visit has)) (bound_towards side key bounds) z.sought.1.passed;
            leads = r.2;
          },
        )

-- there is no pair on the side
pub finds_none : {k : Shape} {v u : View} {side : Side} {from : ℕ} {best : Option Passed} → HasSought k v u side from 0 best → best ≡ None
    → (l : HasLoaded v u) × FindsNearest l.after side from None
finds_none {k} {v} {u} {side} {from} {best} z is =
    let none = subst (λ o. IsPassed k z.0.after.visits side from z.1.bounds o) is z.1.passed in
    (z.0, λ key on. (z.1.bounds, z.1.leads.ended refl, between_all side from key z.1.bounds z.1.near none on))

-- the slot passed last has the nearest pair
module _ {k : Shape} {v u : View} {side : Side} {from : ℕ} {best : Option Passed} {p : Passed} (z : HasSought k v u side from 0 best)
    (is : best ≡ Some p) where
  last : IsPassed k z.0.after.visits side from z.1.bounds (Some p)
  last = subst (λ o. IsPassed k z.0.after.visits side from z.1.bounds o) is z.1.passed

  pub may_read_value : Asks k u (ListLoad p.slot part.Value)
  may_read_value = may_value k v u z.0 p.slot p.key last.2.0 last.2.1

  pub finds_pair : {w : View} {value : ℕ} → Told k u (ListLoad p.slot part.Value) value w
      → (l : HasLoaded v w) × FindsNearest l.after side from (Some (record { key = p.key; value = value }))
  finds_pair {w} {value} t =
      let r = reads_value k v u z.0 p.slot p.key last.2.0 last.2.1 w value t in (
        r.0,
        record {
          there = r.2;
          on = last.1;
          none_before = λ key on before. (
            z.1.bounds,
            r.1.gaps z.1.bounds (z.1.leads.ended refl),
            between_before side from key p.key z.1.bounds z.1.near last.0 on before,
          );
        },
      )
