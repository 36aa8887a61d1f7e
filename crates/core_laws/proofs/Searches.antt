-- What one more load makes of what a search has found out, and that it is sound.
use Rattle.std.proofs.Common.{◌≡◌, ◌≢◌, ℕ, ◌==◌, not, ◌&&◌, Bool, true, false, cond, ◌∷◌, Option, Some, None, refl, sym, ap, ◌∙◌, eq-eqb, zero, suc, nat_lt, List, [], subst, inl, inr, ⊎_elim, ne_eqb, ◌⊎◌, ◌/◌, ◌<◌, ◌^◌, arith}
use Rattle.std.proofs.lemmas.Bool.{eqb-true, and_parts}
use Rattle.prcu_marks.specs.declared.mark.Side.{Side}
use Rattle.prcu_marks.specs.declared.mark.Side.TheVariants.{Left, Right}
use Rattle.core_state.specs.declared.words.Field.{Field}
use Rattle.core_state.specs.declared.words.Field.TheVariants.{Key, Value, Link, Life}
use Rattle.core_state.specs.declared.view.Reading.{Reading}
use Rattle.core_state.specs.declared.view.SearchState.{SearchState}
use Rattle.core_state.specs.declared.view.SearchState.TheVariants.{At, Unread, Found, Missed}
use Rattle.core_state.specs.declared.view.Walk.{Walk}
use Rattle.core_state.specs.Memory.{step_side, Memory, same_side, IsOdd}
use Rattle.core_state.specs.Steps.{key_stand, walking, walked, linked_on, searched, loaded, fresh_reading}
use Rattle.core_frames.proofs.Views.{side_is}
use mathlib.Core.Logic.{dite}
use native.Mathlib.Decide.{ℕ_discrete}
use Rattle.core_state.specs.declared.view.Known.{Known}
use Rattle.list_laws.specs.Counts.{IsIn}
use Rattle.core_state.specs.Views.{known_in, IsLoadable}
use Rattle.core_state.specs.Parts.{state_slot, GoesTo, IsReached, StandsWell, IsReading, HasWalked, Answered, IsWalking, HasStood, last_stood, Falls, IsWay, IsServed, map_now}
use Rattle.core_laws.proofs.LockSteps.{known_more, known_still, known_here}
use mathlib.Core.Option.{some-injective}
use Rattle.prcu_marks.specs.declared.mark.Mark.{Mark}
use Rattle.prcu_marks.specs.Marks.{updates_of}
use Rattle.prcu_model.specs.Dictionary.{WasSaid}
use Rattle.core_state.specs.declared.view.Listing.{Listing}
use Rattle.core_state.specs.declared.view.Section.{Section}
use Rattle.core_state.specs.declared.view.View.{View}
use Rattle.core_state.specs.Tree.{next, OnRightLeft, first, further, Chart, IsShaped, HoldsMap, IsHeldBack, MayPass, Place, Walks, at_linked, at_stop, at_live}
use Rattle.core_frames.proofs.Charts.{next-left, next-right, next-here, hop, ended_told, answer-none, answer-here}
use Rattle.core_frames.proofs.Roles.{IsOnSide, on_side, walk_path}

-- with the load noted, and nothing else
abbrev pub noted : Memory → Reading → Field → Reading
noted m r field = record r { loads = record { field = field; number = m field; stored = false } ∷ r.loads }

-- The search or the walk stays where it is, or goes on by the link or the key at which it stands.
pub data Outcome (m : Memory) (r : Reading) (field : Field) : Reading → Type 0 where
  stays : Outcome m r field (noted m r field)
  ended : {s : ℕ} {b : Side} → r.state ≡ At s b → m (Link s b) ≡ 0 → Outcome m r field (record (noted m r field) { state = Missed s b })
  hopped : {s c : ℕ} {b : Side} → r.state ≡ At s b → m (Link s b) ≡ c → c ≢ 0
      → Outcome m r field (record (noted m r field) { state = Unread c s b; stood = c ∷ r.stood })
  turned : {s parent : ℕ} {b side : Side} → r.state ≡ Unread s parent b → field ≡ Key s → step_side r.key (m (Key s)) ≡ Some side
      → Outcome m r field (record (noted m r field) { state = At s side })
  found : {s parent : ℕ} {b : Side} → r.state ≡ Unread s parent b → field ≡ Key s → step_side r.key (m (Key s)) ≡ None
      → Outcome m r field (record (noted m r field) { state = Found s parent b None })
  valued : {s parent value : ℕ} {b : Side} {before : Option ℕ} → r.state ≡ Found s parent b before → m (Value s) ≡ value
      → Outcome m r field (record (noted m r field) { state = Found s parent b (Some value) })
  began : {s parent c : ℕ} {b : Side} {value : Option ℕ} → r.state ≡ Found s parent b value → r.walk ≡ None → m (Link s Right) ≡ c → c ≢ 0
      → Outcome m r field (walking (noted m r field) s c)
  went_on : {s parent c : ℕ} {b : Side} {value : Option ℕ} {walk : Walk} → r.state ≡ Found s parent b value → r.walk ≡ Some walk
      → m (Link walk.slot Left) ≡ c → c ≢ 0 → Outcome m r field (walking (noted m r field) walk.slot c)

both_tests : (t s : ℕ) (c b : Side) → (t == s && same_side c b) ≡ true → (t ≡ s) × (c ≡ b)
both_tests t s c b e = let w = and_parts (t == s) (same_side c b) e in (eqb-true t s w.0, side_is c b w.1)

not_zero : (n : ℕ) → (n == 0) ≡ false → n ≢ 0
not_zero n e z = absurd (let f = eq-eqb n 0 z in let q : true ≡ false = sym f ∙ e in cc)

walk_tests : (t s n : ℕ) → (t == s && not (n == 0)) ≡ true → (t ≡ s) × (n ≢ 0)
walk_tests t s n e = let w = and_parts (t == s) (not (n == 0)) e in (eqb-true t s w.0, some_number (n == 0) refl w.1)
  where
    some_number : (z : Bool) → (n == 0) ≡ z → not z ≡ true → n ≢ 0
    some_number true f g = absurd (cc)
    some_number false f g = not_zero n f

module _ (m : Memory) (r : Reading) where
  at_link : (s t : ℕ) (b c : Side) → r.state ≡ At s b → (test : Bool) → (t == s && same_side c b) ≡ test
      → Outcome m r (Link t c) (cond test (linked_on (noted m r (Link t c)) s b (m (Link t c))) (noted m r (Link t c)))
  at_link s t b c e false q = stays
  at_link s t b c e true q = let w = both_tests t s c b q in by_number (λ i. m (Link (w.0 i) (w.1 i))) (m (Link t c) == 0) refl
    where
      by_number : m (Link t c) ≡ m (Link s b) → (z : Bool) → (m (Link t c) == 0) ≡ z
          → Outcome m r (Link t c) (cond z (record (noted m r (Link t c)) { state = Missed s b })
          (record (noted m r (Link t c)) { state = Unread (m (Link t c)) s b; stood = m (Link t c) ∷ r.stood }))
      by_number w true z = ended e (sym w ∙ eqb-true (m (Link t c)) 0 z)
      by_number w false z = hopped e (sym w) (not_zero (m (Link t c)) z)

  at_key : (s t parent : ℕ) (b : Side) → r.state ≡ Unread s parent b → (test : Bool) → (t == s) ≡ test
      → Outcome m r (Key t) (cond test (record (noted m r (Key t)) { state = key_stand s parent b (step_side r.key (m (Key t))) })
      (noted m r (Key t)))
  at_key s t parent b e false q = stays
  at_key s t parent b e true q = by_side (eqb-true t s q) (step_side r.key (m (Key t))) refl
    where
      by_side : t ≡ s → (o : Option Side) → step_side r.key (m (Key t)) ≡ o
          → Outcome m r (Key t) (record (noted m r (Key t)) { state = key_stand s parent b o })
      by_side w None f = found e (ap Key w) (ap (λ z. step_side r.key (m (Key z))) (sym w) ∙ f)
      by_side w (Some side) f = turned e (ap Key w) (ap (λ z. step_side r.key (m (Key z))) (sym w) ∙ f)

  at_value : (s t parent : ℕ) (b : Side) (before : Option ℕ) → r.state ≡ Found s parent b before → (test : Bool) → (t == s) ≡ test
      → Outcome m r (Value t) (cond test (record (noted m r (Value t)) { state = Found s parent b (Some (m (Value t))) })
      (noted m r (Value t)))
  at_value s t parent b before e false q = stays
  at_value s t parent b before e true q = valued e (ap (λ z. m (Value z)) (sym (eqb-true t s q)))

  walk_began : (s t parent : ℕ) (b : Side) (value : Option ℕ) → r.state ≡ Found s parent b value → r.walk ≡ None → (test : Bool)
      → (t == s && not (m (Link t Right) == 0)) ≡ test
      → Outcome m r (Link t Right) (cond test (walking (noted m r (Link t Right)) s (m (Link t Right))) (noted m r (Link t Right)))
  walk_began s t parent b value e none false q = stays
  walk_began s t parent b value e none true q = let w = walk_tests t s (m (Link t Right)) q in began e none (ap (λ z. m (Link z Right)) (sym w.0)) w.1

  walk_on : (s t parent : ℕ) (b : Side) (value : Option ℕ) (walk : Walk) → r.state ≡ Found s parent b value → r.walk ≡ Some walk
      → (test : Bool) → (t == walk.slot && not (m (Link t Left) == 0)) ≡ test
      → Outcome m r (Link t Left) (cond test (walking (noted m r (Link t Left)) walk.slot (m (Link t Left))) (noted m r (Link t Left)))
  walk_on s t parent b value walk e on false q = stays
  walk_on s t parent b value walk e on true q = let w = walk_tests t walk.slot (m (Link t Left)) q in
      went_on e on (ap (λ z. m (Link z Left)) (sym w.0)) w.1

  at_found : (s t parent : ℕ) (b c : Side) (value : Option ℕ) → r.state ≡ Found s parent b value → (walk : Option Walk) → r.walk ≡ walk
      → Outcome m r (Link t c) (walked (noted m r (Link t c)) s walk t c (m (Link t c)))
  at_found s t parent b Right value e None on = walk_began s t parent b value e on (t == s && not (m (Link t Right) == 0)) refl
  at_found s t parent b Left value e None on = stays
  at_found s t parent b Right value e (Some walk) on = stays
  at_found s t parent b Left value e (Some walk) on =
      walk_on s t parent b value walk e on (t == walk.slot && not (m (Link t Left) == 0)) refl

  by_stand : (state : SearchState) (field : Field) → r.state ≡ state → Outcome m r field (searched (noted m r field) state field (m field))
  by_stand (At s b) (Link t c) e = at_link s t b c e (t == s && same_side c b) refl
  by_stand (Unread s parent b) (Key t) e = at_key s t parent b e (t == s) refl
  by_stand (Found s parent b value) (Value t) e = at_value s t parent b value e (t == s) refl
  by_stand (Found s parent b value) (Link t c) e = at_found s t parent b c value e r.walk refl
  by_stand _ _ e = stays

  pub outcome : (field : Field) → Outcome m r field (loaded r field (m field))
  outcome field = by_stand r.state field refl

-- What a section found out is sound by itself, with one more load.

-- a key is met where a search doesn't go on
pub met_key : (x key : ℕ) → step_side x key ≡ None → key ≡ x
met_key x key e = dite (ℕ_discrete x key) (λ same. sym same) (λ ne. absurd (apart ne))
  where
    some_side : (b : Bool) → cond b (Some Left) (Some Right) ≡ None → ⊥
    some_side true f = absurd (cc)
    some_side false f = absurd (cc)

    apart : x ≢ key → ⊥
    apart ne = some_side (nat_lt x key) (sym (ap (λ b. cond b None (cond (nat_lt x key) (Some Left) (Some Right))) (ne_eqb x key ne)) ∙ e)

pub in_more : {A : Type 0} (xs : List A) (c a : A) → IsIn xs a → IsIn (c ∷ xs) a
in_more xs c a i = (suc i.0, i.1)

-- Where the keys that were loaded are the keys now, a search goes on to another slot, and the load is at a slot at which it stood.
module _ (m : Memory) (r : Reading) (field : Field) (slot : ℕ) (was : IsReading r)
    (keys : (s key : ℕ) → known_in r.loads (Key s) ≡ Some key → m (Key s) ≡ key)
    (stood : IsIn r.stood slot) (loadable : IsLoadable slot field)
    (apart : (s c : ℕ) (b : Side) → r.state ≡ At s b → m (Link s b) ≡ c → c ≢ 0 → s ≢ c) where
  pub goes_more : (s : ℕ) (b : Side) → GoesTo r s b → GoesTo (noted m r field) s b
  goes_more s b (inl e) = inl e
  goes_more s b (inr e) = inr (
    e.0,
    (let k = e.1 in
        (k.0, known_still r.loads field (Key s) (m field) k.0 false (λ q. ap m q ∙ keys s k.0 k.1) k.1, k.2)),
  )

  key_still : (s key : ℕ) → known_in r.loads (Key s) ≡ Some key → known_in (noted m r field).loads (Key s) ≡ Some key
  key_still s key known = known_still r.loads field (Key s) (m field) key false (λ q. ap m q ∙ keys s key known) known

  loads_more : (stood_more : List ℕ) → ((s : ℕ) → IsIn r.stood s → IsIn stood_more s) → (f : Field) (number : ℕ)
      → known_in (noted m r field).loads f ≡ Some number → (s : ℕ) × IsIn stood_more s × IsLoadable s f
  loads_more stood_more more f number known =
      ⊎_elim (λ (e : (field ≡ f) × (m field ≡ number)). (slot, more slot stood, subst (IsLoadable slot) e.0 loadable))
      (λ (e : known_in r.loads f ≡ Some number). (let w = was.loads f number e in (w.0, more w.0 w.1, w.2)))
      (known_more r.loads field f (m field) number false known)

  -- what was reached stays so, where no slot is forgotten
  reached_more : (to : Reading) (s parent : ℕ) (b : Side) → ((t : ℕ) → IsIn r.stood t → IsIn to.stood t)
      → (GoesTo r parent b → GoesTo to parent b) → IsReached r s parent b → IsReached to s parent b
  reached_more to s parent b more goes i = record {
    some_slot = i.some_slot;
    apart = i.apart;
    parent_stood = more parent i.parent_stood;
    goes = goes i.goes;
  }

  well_more : (state : SearchState) → StandsWell r state → StandsWell (noted m r field) state
  well_more (At s b) w = (goes_more s b w.0, w.1)
  well_more (Unread s parent b) w = (reached_more (noted m r field) s parent b (λ t i. i) (goes_more parent b) w.0, w.1)
  well_more (Found s parent b value) w = (
    reached_more (noted m r field) s parent b (λ t i. i) (goes_more parent b) w.0,
    key_still s r.key w.1,
  )
  well_more (Missed s b) w = (goes_more s b w.0, w.1)

  -- where it stands, and how well, by the stand that it had
  stands_at : (s : ℕ) (b : Side) → r.state ≡ At s b → IsIn r.stood s × (GoesTo r s b × (r.walk ≡ None))
  stands_at s b e = (subst (λ z. IsIn r.stood (state_slot z)) e was.stands, subst (StandsWell r) e was.well)

  stands_unread : (s parent : ℕ) (b : Side) → r.state ≡ Unread s parent b → IsIn r.stood s × (IsReached r s parent b × (r.walk ≡ None))
  stands_unread s parent b e = (subst (λ z. IsIn r.stood (state_slot z)) e was.stands, subst (StandsWell r) e was.well)

  stands_found : (s parent : ℕ) (b : Side) (value : Option ℕ) → r.state ≡ Found s parent b value
      → IsIn r.stood s × (IsReached r s parent b × (known_in r.loads (Key s) ≡ Some r.key))
  stands_found s parent b value e = (subst (λ z. IsIn r.stood (state_slot z)) e was.stands, subst (StandsWell r) e was.well)

  no_first : (to : Reading) (l : Known) (ls : List Known) → to.loads ≡ l ∷ ls → to.loads ≡ [] → to ≡ fresh_reading to.key
  no_first to l ls e none = absurd (let q : l ∷ ls ≡ [] = sym e ∙ none in cc)

  no_walk : (walk : Walk) → r.walk ≡ None → r.walk ≡ Some walk → ⊥
  no_walk walk none e = absurd (let q : None ≡ Some walk = sym none ∙ e in cc)

  -- a walk that goes on to a slot from one at which it stands
  walks_on : (s parent : ℕ) (b : Side) (value : Option ℕ) → r.state ≡ Found s parent b value → (q c : ℕ) → c ≢ 0 → q ≢ 0 → IsIn r.stood q
      → IsReading (walking (noted m r field) q c)
  walks_on s parent b value e q c nz nq here =
      let to : Reading = walking (noted m r field) q c in
      let g = (stands_found s parent b value e).1 in
      record {
        root = in_more r.stood c 0 was.root;
        stands = in_more r.stood c (state_slot r.state) was.stands;
        well = subst (StandsWell to) (sym e) (
          reached_more to s parent b (in_more r.stood c) (goes_more parent b) g.0,
          key_still s r.key g.1,
        );
        walk = λ walk is. (let same : ◌≡◌ {A = Walk} (record { parent = q; slot = c }) walk = cc in
            subst (HasWalked (c ∷ r.stood)) same
            (record { some_slot = nz; some_parent = nq; slot_stood = (zero, refl); parent_stood = in_more r.stood c q here }));
        loads = loads_more (c ∷ r.stood) (in_more r.stood c);
        first = no_first to _ _ refl;
      }

  pub reading_more : (to : Reading) → Outcome m r field to → IsReading to
  reading_more to stays = record {
    root = was.root;
    stands = was.stands;
    well = well_more r.state was.well;
    walk = was.walk;
    loads = loads_more r.stood (λ t i. i);
    first = no_first (noted m r field) _ _ refl;
  }
  reading_more to (ended {s = s} {b = b} e empty) = let w = stands_at s b e in record {
    root = was.root;
    stands = w.0;
    well = (let g = w.1 in (goes_more s b g.0, g.1));
    walk = was.walk;
    loads = loads_more r.stood (λ t i. i);
    first = no_first (record (noted m r field) { state = Missed s b }) _ _ refl;
  }
  reading_more to (hopped {s = s} {c = c} {b = b} e link nz) = let w = stands_at s b e in record {
    root = in_more r.stood c 0 was.root;
    stands = (zero, refl);
    well = (let g = w.1 in (
      record {
        some_slot = nz;
        apart = apart s c b e link nz;
        parent_stood = in_more r.stood c s w.0;
        goes = goes_more s b g.0;
      },
      g.1,
    ));
    walk = λ walk on. absurd (let g = w.1 in no_walk walk g.1 on);
    loads = loads_more (c ∷ r.stood) (in_more r.stood c);
    first = no_first (record (noted m r field) { state = Unread c s b; stood = c ∷ r.stood }) _ _ refl;
  }
  reading_more to (turned {s = s} {parent = parent} {b = b} {side = side} e is_key goes) = let w = stands_unread s parent b e in record {
    root = was.root;
    stands = w.0;
    well = (let g = w.1 in (
      inr (
        g.0.some_slot,
        (
          m (Key s),
          subst (λ f. known_in (noted m r field).loads f ≡ Some (m f)) is_key (known_here r.loads field (m field) false),
          goes,
        ),
      ),
      g.1,
    ));
    walk = was.walk;
    loads = loads_more r.stood (λ t i. i);
    first = no_first (record (noted m r field) { state = At s side }) _ _ refl;
  }
  reading_more to (found {s = s} {parent = parent} {b = b} e is_key here) = let w = stands_unread s parent b e in record {
    root = was.root;
    stands = w.0;
    well = (let g = w.1 in (
      reached_more (record (noted m r field) { state = Found s parent b None }) s parent b (λ t i. i) (goes_more parent b) g.0,
      subst (λ f. known_in (noted m r field).loads f ≡ Some (m f)) is_key (known_here r.loads field (m field) false)
          ∙ ap Some (met_key r.key (m (Key s)) here),
    ));
    walk = was.walk;
    loads = loads_more r.stood (λ t i. i);
    first = no_first (record (noted m r field) { state = Found s parent b None }) _ _ refl;
  }
  reading_more to (valued {s = s} {parent = parent} {value = value} {b = b} {before = before} e is) = let w =
      stands_found s parent b before e in record {
        root = was.root;
        stands = w.0;
        well = (let g = w.1 in (
          reached_more (record (noted m r field) { state = Found s parent b (Some value) }) s parent b (λ t i. i)
              (goes_more parent b) g.0,
          key_still s r.key g.1,
        ));
        walk = was.walk;
        loads = loads_more r.stood (λ t i. i);
        first = no_first (record (noted m r field) { state = Found s parent b (Some value) }) _ _ refl;
      }
  reading_more to (began {s = s} {parent = parent} {c = c} {b = b} {value = value} e none link nz) = let w = stands_found s parent b value e in
      walks_on s parent b value e s c nz (let g = w.1 in g.0.some_slot) w.0
  reading_more to (went_on {s = s} {parent = parent} {c = c} {b = b} {value = value} {walk = walk} e on link nz) = let w =
      was.walk walk on in walks_on s parent b value e walk.slot c nz w.some_slot w.slot_stood

-- What holds of an open section holds with one more load.

-- a search goes on to the side on which its key lies
pub next_on : (m : Memory) (x s : ℕ) (b : Side) → IsOnSide m x s b → next m x s ≡ m (Link s b)
next_on m x s Left o = next-left m x s o.0 o.1
next_on m x zero Right o = refl
next_on m x (suc s) Right (inl z) = absurd (omega arith)
next_on m x (suc s) Right (inr gt) = next-right m x (suc s) (omega arith) gt

-- and at a slot at which it goes to a side the key isn't the sought one
off_key : (m : Memory) (x s : ℕ) (b : Side) → IsOnSide m x s b → s ≢ 0 → m (Key s) ≢ x
off_key m x s Left o nz e = let lt = o.1 in absurd (omega arith)
off_key m x s Right (inl z) nz e = nz z
off_key m x s Right (inr gt) nz e = absurd (omega arith)

module _ (m : Memory) (n : ℕ) (g : Chart) (h : List Mark) (vs : List View) (section : Section) (field : Field) (slot : ℕ)
    (shape : IsShaped m n g) (holds : HoldsMap m g (map_now h)) (fits : section.key < 2 ^ 64)
    (said : WasSaid (updates_of h) section.key section.from (map_now h section.key))
    (sought : section.reading.key ≡ section.key) (searches : section.listing ≡ None) (was : IsReading section.reading)
    (served : IsServed m g h vs section)
    (child : (s c : ℕ) (b : Side) → IsIn section.reading.stood s → m (Link s b) ≡ c → c ≢ 0
    → (g.rank s < g.rank c) × ((g.linked c ≡ true) ⊎ (IsHeldBack g h section.entered c × IsOdd (m (Life c)))))
    (stood : IsIn section.reading.stood slot) (loadable : IsLoadable slot field) where
  abbrev r : Reading
  r = section.reading

  abbrev live : ℕ → Type 0
  live = IsHeldBack g h section.entered

  abbrev pend : ℕ → Type 0
  pend = MayPass vs section.key section.entered

  abbrev told : Option ℕ → Type 0
  told = WasSaid (updates_of h) section.key section.from

  abbrev placed_at : ℕ → Type 0
  placed_at = Place m g section.key live pend told

  loaded_at : (f : Field) (number t : ℕ) → IsLoadable t f → known_in r.loads f ≡ Some number → ((s : ℕ) → IsLoadable s f → s ≡ t)
      → IsIn r.stood t
  loaded_at f number t is known one = let w = was.loads f number known in subst (IsIn r.stood) (one w.0 w.2) w.1

  pub keys_now : (s key : ℕ) → known_in r.loads (Key s) ≡ Some key → m (Key s) ≡ key
  keys_now s key known = (served.stood s (loaded_at (Key s) key s refl known (λ t e. sym e))).key key known

  pub lives_now : (s life : ℕ) → known_in r.loads (Life s) ≡ Some life → m (Life s) / 2 ≡ life / 2
  lives_now s life known = (served.stood s (loaded_at (Life s) life s refl known (λ t e. sym e))).life life known

  place_now : placed_at (state_slot r.state)
  place_now = (served.placed searches).place

  side_now : (s : ℕ) (b : Side) → GoesTo r s b → IsOnSide m section.key s b
  side_now s b goes = subst (λ x. IsOnSide m x s b) sought (on_side m r s b (λ key known. keys_now s key known) goes)

  -- what holds where it stands at a link
  goes_at : (s : ℕ) (b : Side) → r.state ≡ At s b → GoesTo r s b
  goes_at s b e = let w : GoesTo r s b × (r.walk ≡ None) = subst (StandsWell r) e was.well in w.0

  next_at : (s c : ℕ) (b : Side) → r.state ≡ At s b → m (Link s b) ≡ c → next m section.key s ≡ c
  next_at s c b e link = next_on m section.key s b (side_now s b (goes_at s b e)) ∙ link

  place_at : (s : ℕ) (state : SearchState) → r.state ≡ state → state_slot state ≡ s → placed_at s
  place_at s state e here = subst placed_at (ap state_slot e ∙ here) place_now

  hop_at : (s c : ℕ) (b : Side) → r.state ≡ At s b → m (Link s b) ≡ c → c ≢ 0 → placed_at c × (g.rank s < g.rank c)
  hop_at s c b e link nz = hop m n g section.key live pend told shape s c (place_at s (At s b) e refl) (next_at s c b e link) nz

  pub apart : (s c : ℕ) (b : Side) → r.state ≡ At s b → m (Link s b) ≡ c → c ≢ 0 → s ≢ c
  apart s c b e link nz same = let w = hop_at s c b e link nz in absurd (let lt = w.1 in let q = ap g.rank same in omega arith)

  -- nothing of the key where it ended, and the value where the slot has the key
  told_none : (s : ℕ) (b : Side) → r.state ≡ At s b → m (Link s b) ≡ 0 → told None
  told_none s b e empty =
      subst told (answer-none m section.key s (λ nz. off_key m section.key s b (side_now s b (goes_at s b e)) nz))
      (ended_told m n g section.key live pend told shape (map_now h) holds fits said s (place_at s (At s b) e refl) (next_at s 0 b e empty))

  key_found : (s parent : ℕ) (b : Side) (value : Option ℕ) → r.state ≡ Found s parent b value → (s ≢ 0) × (m (Key s) ≡ section.key)
  key_found s parent b value e = let w = subst (StandsWell r) e was.well in let reached = w.0 in
      (reached.some_slot, keys_now s r.key w.1 ∙ sought)

  told_value : (s parent : ℕ) (b : Side) (before : Option ℕ) (value : ℕ) → r.state ≡ Found s parent b before → m (Value s) ≡ value
      → told (Some value)
  told_value s parent b before value e is =
      let w = key_found s parent b before e in
      subst told (answer-here m section.key s value w.0 w.1 is)
      (ended_told m n g section.key live pend told shape (map_now h) holds fits said s (place_at s (Found s parent b before) e refl)
      (next-here m section.key s w.0 w.1))

  -- what a section has answered, in the words of the section afterwards
  answered_more : (to : Reading) (state : SearchState) → Answered (updates_of h) section state
      → Answered (updates_of h) (record section { reading = to }) state
  answered_more to (At s b) a = a
  answered_more to _ a = a

  stood_more : (to : Reading) → to.loads ≡ (noted m r field).loads → (s : ℕ) → (g.linked s ≡ true) ⊎ (live s × IsOdd (m (Life s)))
      → HasStood m g h (record section { reading = to }) s
  stood_more to same s here = record {
    here = here;
    key = λ key e. ⊎_elim (λ (q : (field ≡ Key s) × (m field ≡ key)). ap m (sym q.0) ∙ q.1) (λ q. keys_now s key q)
        (known_more r.loads field (Key s) (m field) key false (ap (λ ls. known_in ls (Key s)) (sym same) ∙ e));
    life = λ life e. ⊎_elim (λ (q : (field ≡ Life s) × (m field ≡ life)). ap (λ z. z / 2) (ap m (sym q.0) ∙ q.1)) (λ q. lives_now s life q)
        (known_more r.loads field (Life s) (m field) life false (ap (λ ls. known_in ls (Life s)) (sym same) ∙ e));
  }

  stood_old : (to : Reading) → to.loads ≡ (noted m r field).loads → (s : ℕ) → IsIn r.stood s
      → HasStood m g h (record section { reading = to }) s
  stood_old to same s has = stood_more to same s (served.stood s has).here

  -- with a slot to which a link leads from one at which it stood
  stood_new : (to : Reading) → to.loads ≡ (noted m r field).loads → (q c : ℕ) (b : Side) → IsIn r.stood q → m (Link q b) ≡ c → c ≢ 0
      → (s : ℕ) → IsIn (c ∷ r.stood) s → HasStood m g h (record section { reading = to }) s
  stood_new to same q c b has link nz s (zero, e) =
      subst (HasStood m g h (record section { reading = to })) (some-injective c s e) (stood_more to same c (child q c b has link nz).1)
  stood_new to same q c b has link nz s (suc j, e) = stood_old to same s (j, e)

  walking_old : (to : Reading) (node : ℕ) (walk : Walk) → IsWalking m g h section node walk
      → IsWalking m g h (record section { reading = to }) node walk
  walking_old to node walk i = record { walks = i.walks; parent = i.parent }

  without_walk : (walk : Walk) → r.walk ≡ None → r.walk ≡ Some walk → ⊥
  without_walk walk none on = absurd (let q : None ≡ Some walk = sym none ∙ on in cc)

  no_list : (listing : Listing) → section.listing ≡ Some listing → ⊥
  no_list listing lists = absurd (let q : None ≡ Some listing = sym searches ∙ lists in cc)

  walk_none_at : (s : ℕ) (b : Side) → r.state ≡ At s b → r.walk ≡ None
  walk_none_at s b e = let w : GoesTo r s b × (r.walk ≡ None) = subst (StandsWell r) e was.well in w.1

  walk_none_unread : (s parent : ℕ) (b : Side) → r.state ≡ Unread s parent b → r.walk ≡ None
  walk_none_unread s parent b e = let w = subst (StandsWell r) e was.well in w.1

  -- the way of a search that stays where it stands
  way_stays : (to : Reading) → to.stood ≡ r.stood → to.walk ≡ r.walk → state_slot r.state ≡ state_slot to.state → IsWay g to
  way_stays to same walk at =
      let w = served.way in
      let last : last_stood r.walk (state_slot r.state) ≡ last_stood to.walk (state_slot to.state) =
      ap (λ z. last_stood z (state_slot r.state)) (sym walk) ∙ ap (last_stood to.walk) at in
      record {
        before = w.before;
        stood = same ∙ (w.stood ∙ ap (λ z. z ∷ w.before) last);
        falls = subst (λ z. Falls g.rank z w.before) last w.falls;
      }

  -- the way of one that goes on from the last slot to another
  way_on : (to : Reading) (q c : ℕ) (b : Side) → to.stood ≡ c ∷ r.stood → last_stood to.walk (state_slot to.state) ≡ c
      → last_stood r.walk (state_slot r.state) ≡ q → IsIn r.stood q → m (Link q b) ≡ c → c ≢ 0 → IsWay g to
  way_on to q c b more now_at was_at has link nz =
      let w = served.way in
      let lt = (child q c b has link nz).0 in
      record {
        before = q ∷ w.before;
        stood = more ∙ (ap (λ l. c ∷ l) (w.stood ∙ ap (λ z. z ∷ w.before) was_at) ∙ ap (λ z. z ∷ (q ∷ w.before)) (sym now_at));
        falls = subst (λ z. Falls g.rank z (q ∷ w.before)) (sym now_at) (lt, subst (λ z. Falls g.rank z w.before) was_at w.falls);
      }

  -- a walk goes on
  walk_first : (s c : ℕ) → m (Link s Right) ≡ c → c ≢ 0 → g.linked s ≡ true → Walks m g s live c
  walk_first s c link nz l = at_linked (shape.below s c Right l link nz).linked (first link nz)

  walk_hop : (node w c : ℕ) → Walks m g node live w → m (Link w Left) ≡ c → c ≢ 0 → Walks m g node live c
  walk_hop node w c (at_linked l on) link nz = at_linked (shape.below w c Left l link nz).linked (further on link nz)
  walk_hop node w c (at_stop l empty) link nz = absurd (nz (sym link ∙ empty))
  walk_hop node w c (at_live {c = y} l e ny q) link nz = subst (Walks m g node live) (sym e ∙ link) q

  -- the section with a walk that goes on from q to c
  walks_served : (s parent : ℕ) (b : Side) (value : Option ℕ) → r.state ≡ Found s parent b value → (q c : ℕ) (a : Side) → IsIn r.stood q
      → m (Link q a) ≡ c → c ≢ 0 → last_stood r.walk (state_slot r.state) ≡ q
      → (g.linked s ≡ true → Walks m g s live c) → (g.linked s ≡ true → g.linked q ≡ true → (q ≡ s) ⊎ OnRightLeft m s q)
      → IsServed m g h vs (record section { reading = walking (noted m r field) q c })
  walks_served s parent b value e q c a has link nz last walks above =
      let to : Reading = walking (noted m r field) q c in
      record {
        placed = λ none. record { place = place_now; answered = answered_more to r.state (served.placed searches).answered };
        lists = λ listing lists. absurd (no_list listing lists);
        walking = λ node up side v walk is on.
            (let same : s ≡ node = cc_node e is in
            let step : ◌≡◌ {A = Walk} (record { parent = q; slot = c }) walk = cc in
            subst (λ (z : ℕ × Walk). IsWalking m g h (record section { reading = to }) z.0 z.1) (λ i. (same i, step i))
            (record { walks = walks; parent = above }));
        stood = stood_new to refl q c a has link nz;
        way = way_on to q c a refl refl last has link nz;
      }
    where
      cc_node : {node up : ℕ} {side : Side} {v : Option ℕ} → r.state ≡ Found s parent b value → r.state ≡ Found node up side v → s ≡ node
      cc_node f is = sym (ap state_slot f) ∙ ap state_slot is

  pub served_more : (to : Reading) → Outcome m r field to → IsServed m g h vs (record section { reading = to })
  served_more to stays = record {
    placed = λ none. record { place = place_now; answered = answered_more (noted m r field) r.state (served.placed searches).answered };
    lists = λ listing lists. absurd (no_list listing lists);
    walking = λ node up side v walk is on. walking_old (noted m r field) node walk (served.walking node up side v walk is on);
    stood = stood_old (noted m r field) refl;
    way = way_stays (noted m r field) refl refl refl;
  }
  served_more to (ended {s = s} {b = b} e empty) = let last : Reading = record (noted m r field) { state = Missed s b } in record {
    placed = λ none. record { place = place_at s (At s b) e refl; answered = told_none s b e empty };
    lists = λ listing lists. absurd (no_list listing lists);
    walking = λ node up side v walk is on. absurd (without_walk walk (walk_none_at s b e) on);
    stood = stood_old last refl;
    way = way_stays last refl refl (ap state_slot e);
  }
  served_more to (hopped {s = s} {c = c} {b = b} e link nz) = let last : Reading =
      record (noted m r field) { state = Unread c s b; stood = c ∷ r.stood } in record {
        placed = λ none. record { place = (let w = hop_at s c b e link nz in w.0); answered = tt };
        lists = λ listing lists. absurd (no_list listing lists);
        walking = λ node up side v walk is on. absurd (without_walk walk (walk_none_at s b e) on);
        stood = stood_new last refl s c b (subst (λ z. IsIn r.stood (state_slot z)) e was.stands) link nz;
        way = way_on last s c b refl (ap (λ z. last_stood z c) (walk_none_at s b e))
            (ap (λ z. last_stood z (state_slot r.state)) (walk_none_at s b e) ∙ ap state_slot e)
            (subst (λ z. IsIn r.stood (state_slot z)) e was.stands) link nz;
      }
  served_more to (turned {s = s} {parent = parent} {b = b} {side = side} e is_key goes) = let last : Reading =
      record (noted m r field) { state = At s side } in record {
        placed = λ none. record { place = place_at s (Unread s parent b) e refl; answered = tt };
        lists = λ listing lists. absurd (no_list listing lists);
        walking = λ node up a v walk is on. absurd (without_walk walk (walk_none_unread s parent b e) on);
        stood = stood_old last refl;
        way = way_stays last refl refl (ap state_slot e);
      }
  served_more to (found {s = s} {parent = parent} {b = b} e is_key here) = let last : Reading =
      record (noted m r field) { state = Found s parent b None } in record {
        placed = λ none. record { place = place_at s (Unread s parent b) e refl; answered = tt };
        lists = λ listing lists. absurd (no_list listing lists);
        walking = λ node up a v walk is on. absurd (without_walk walk (walk_none_unread s parent b e) on);
        stood = stood_old last refl;
        way = way_stays last refl refl (ap state_slot e);
      }
  served_more to (valued {s = s} {parent = parent} {value = value} {b = b} {before = before} e is) = let last : Reading =
      record (noted m r field) { state = Found s parent b (Some value) } in record {
        placed = λ none. record { place = place_at s (Found s parent b before) e refl; answered = told_value s parent b before value e is };
        lists = λ listing lists. absurd (no_list listing lists);
        walking = λ node up a v walk at on.
            (let same : s ≡ node = ap state_slot at in
            walking_old last node walk (subst (λ z. IsWalking m g h section z walk) same (served.walking s parent b before walk e on)));
        stood = stood_old last refl;
        way = way_stays last refl refl (ap state_slot e);
      }
  served_more to (began {s = s} {parent = parent} {c = c} {b = b} {value = value} e none link nz) =
      walks_served s parent b value e s c Right (subst (λ z. IsIn r.stood (state_slot z)) e was.stands) link nz
      (ap (λ z. last_stood z (state_slot r.state)) none ∙ ap state_slot e)
      (λ l. walk_first s c link nz l) (λ l k. inl refl)
  served_more to (went_on {s = s} {parent = parent} {c = c} {b = b} {value = value} {walk = walk} e on link nz) =
      let w = was.walk walk on in
      let at = served.walking s parent b value walk e on in
      walks_served s parent b value e walk.slot c Left w.slot_stood link nz
      (ap (λ z. last_stood z (state_slot r.state)) on) (λ l. walk_hop s walk.slot c (at.walks l) link nz)
      (λ l k. inr (walk_path m g s live walk.slot (λ t held. held.out) k (at.walks l)))
