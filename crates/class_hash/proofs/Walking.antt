-- Steps one after another: searches in a section, walks under the lock, and what a few steps leave together.
-- Steps that are made one after another.
use Rattle.std.proofs.Common.{◌≡◌, ℕ, ◌%◌, ◌⊎◌, ⊎_elim, false, List, [], ◌∷◌, ◌++◌, refl, sym, ap, subst, ◌∙◌, append_assoc, append-nil, ◌≢◌, ◌+◌, true, cond, length, Option, Some, None, eq-eqb, ne_eqb, ◌==◌, Bool, IfSome}
use Rattle.hash_core.specs.declared.words.Field.{Field}
use Rattle.hash_core.specs.declared.words.Kind.{Kind}
use Rattle.hash_core.specs.declared.words.Kind.TheVariants.{H4, H5, H3, H9, H8, H10}
use Rattle.std.specs.List.{AllByRecursion}
use Rattle.hash_core.specs.declared.words.Field.TheVariants.{Readers, Head, Key, Value, Next, Free, Retired}
use Rattle.hash_core.specs.declared.view.StepMade.{StepMade}
use Rattle.prcu_model.proofs.ListFacts.{all_append, prefix_self, prefix_trans}
use Rattle.class_hash.specs.Calls.{IsLookup, BeginsByLookup, loads_free, LoadNoLists, AddsNoLists, Told, IsSearching, IsAtLink, Looked, searching, WalksPast, WalksTo, KnowsMore, HasLoaded, ComesOver, IsLinkedFrom, IsWalking, Lists, MayPoll, Refilled, Waits}
use mathlib.Core.List.{IsPrefix}
use Rattle.prcu_marks.specs.declared.mark.Mark.{Mark}
use Rattle.prcu_marks.specs.declared.mark.Mark.TheVariants.{Entered, Left}
use Rattle.hash_core.specs.declared.view.SearchState.{SearchState}
use Rattle.hash_core.specs.declared.view.SearchState.TheVariants.{Start, Unread, Passed, Found, Ended}
use Rattle.hash_core.specs.declared.view.Section.{Section}
use Rattle.hash_core.specs.declared.view.View.{View}
use Rattle.prcu_marks.specs.Marks.{updates_of}
use Rattle.hash_core.specs.Memory.{is_slot_of, same_field}
use Rattle.prcu_model.specs.Dictionary.{WasSaid}
use Rattle.hash_core.specs.Steps.{StandsAt, link_stand, searched, section_of, noted, after, known_in, knowing, IsWholeWalk, LacksKey, ShowsAbsent, ComesTo, IsOnWalk, stepped, after_held_load, hold_of, after_readers_load, after_move, NeedsUnlock, NeedsMove, NeedsRefill}
use Rattle.class_hash.specs.Answers.{GivesAnswer, IsLinkOf, IsLink, IsFull}
use Rattle.hash_core.specs.declared.act.Act.TheVariants.{Enter, Leave, SearchLoad, LockedLoad, LoadReaders, TakeRetired, FreeRetired}
use Rattle.hash_core.proofs.Keeping.{section_is, hold_is}
use Rattle.class_hash.specs.Seats.{TableAt}
use Rattle.hash_core.specs.declared.view.Hold.{Hold}
use Rattle.hash_core.specs.declared.view.Known.{Known}
use Rattle.hash_core.proofs.Frames.{same_self, same_is}
use Rattle.hash_core.specs.declared.act.Act.{Act}

pub adds_none : (trail : List StepMade) → AddsNoLists trail trail
adds_none trail = record { steps = []; plain = tt; trail = sym (append-nil trail) }

pub adds_step : (a b : List StepMade) (kind : Kind) (field : Field) (number : ℕ) → loads_free kind field ≡ false → AddsNoLists a b
    → AddsNoLists a (b ++ record { kind = kind; field = field; number = number } ∷ [])
adds_step a b kind field number plain before = record {
  steps = before.steps ++ record { kind = kind; field = field; number = number } ∷ [];
  plain = all_append (λ (step : StepMade). loads_free step.kind step.field ≡ false) before.steps
      (record { kind = kind; field = field; number = number } ∷ []) before.plain (plain, tt);
  trail = ap (λ t. t ++ record { kind = kind; field = field; number = number } ∷ []) before.trail
      ∙ append_assoc a before.steps (record { kind = kind; field = field; number = number } ∷ []);
}

pub adds_both : (a b c : List StepMade) → AddsNoLists a b → AddsNoLists b c → AddsNoLists a c
adds_both a b c first second = record {
  steps = first.steps ++ second.steps;
  plain = all_append (λ (step : StepMade). loads_free step.kind step.field ≡ false) first.steps second.steps first.plain second.plain;
  trail = second.trail ∙ ap (λ t. t ++ second.steps) first.trail ∙ append_assoc a first.steps second.steps;
}

-- a lookup loads no lists
plain_loads : (loads : List StepMade) → AllByRecursion (λ (step : StepMade). step.kind ≡ H5) loads → LoadNoLists loads
plain_loads [] inside = tt
plain_loads (step ∷ loads) inside = (subst (λ kind. loads_free kind step.field ≡ false) (sym inside.0) refl, plain_loads loads inside.1)

pub lookup_plain : (key : ℕ) (steps : List StepMade) → IsLookup key steps → LoadNoLists steps
lookup_plain key steps is =
    let begun : LoadNoLists is.begun = subst LoadNoLists (sym is.first.are) (refl, plain_loads is.first.loads is.first.inside) in
    subst LoadNoLists (sym is.are) (all_append (λ (step : StepMade). loads_free step.kind step.field ≡ false) is.begun
    (record { kind = H4; field = Readers (key % 64); number = is.exit } ∷ []) begun (refl, tt))

-- The first steps of a call are those of a lookup, if there are steps.
abbrev pub NoneOrLookup : ℕ → List StepMade → List StepMade → Type 0
NoneOrLookup key a b = (b ≡ a) ⊎ BeginsByLookup key a b

pub begins_more : {key : ℕ} {a b c : List StepMade} → BeginsByLookup key a b → (steps : List StepMade) → c ≡ b ++ steps
    → BeginsByLookup key a c
begins_more {key} {a} {b} {c} first steps goes = record {
  lookup = first.lookup;
  made = first.made;
  later = first.later ++ steps;
  trail = goes ∙ ap (λ t. t ++ steps) first.trail ∙ append_assoc a (first.lookup ++ first.later) steps
      ∙ ap (λ t. a ++ t) (append_assoc first.lookup first.later steps);
}

pub begins_on : {key : ℕ} {a b c : List StepMade} → BeginsByLookup key a b → AddsNoLists b c → BeginsByLookup key a c
begins_on first then = begins_more first then.steps then.trail

pub begins_by : {key : ℕ} {a b c steps : List StepMade} → NoneOrLookup key a b → IsLookup key steps → c ≡ b ++ steps
    → BeginsByLookup key a c
begins_by {key} {a} {b} {c} {steps} tried is goes = ⊎_elim
    (λ (none : b ≡ a). record {
      lookup = steps;
      made = is;
      later = [];
      trail = goes ∙ ap (λ t. t ++ steps) none ∙ ap (λ t. a ++ t) (sym (append-nil steps));
    })
    (λ (first : BeginsByLookup key a b). begins_more first steps goes)
    tried

-- Searches in a section.

module _ (v : View) (key : ℕ) where
  abbrev at : ℕ → ℕ → SearchState → Option ℕ → Section
  at entered from state loaded = record { key = key; count = v.sections; entered = entered; from = from; state = state; loaded = loaded }

  -- the section that a search is in
  pub section_at : (state : SearchState) (loaded : Option ℕ) (w : View) (i : IsSearching v key state loaded w)
      → w.section ≡ Some (at (length i.before) (length (updates_of i.before)) state loaded)
  section_at state loaded w i = ap (λ (z : View). z.section) i.view

  -- a load in the section
  abbrev pub moved : (t : TableAt) (state stand' : SearchState) (loaded loaded' : Option ℕ) (field : Field) (n : ℕ) (w x : View)
      → ((entered from : ℕ) → ◌≡◌ {A = Section} (searched (at entered from state loaded) state field n) (at entered from stand' loaded'))
      → IsSearching v key state loaded w → Told t w (SearchLoad field) n x → IsSearching v key stand' loaded' x
  moved t state stand' loaded loaded' field n w x goes i told =
      let step : StepMade = record { kind = H5; field = field; number = n } in record {
        before = i.before;
        steps = i.steps ++ step ∷ [];
        made = record {
          entry = i.made.entry;
          loads = i.made.loads ++ step ∷ [];
          inside = all_append (λ (step : StepMade). step.kind ≡ H5) i.made.loads
              (record { kind = H5; field = field; number = n } ∷ []) i.made.inside (refl, tt);
          are = ap (λ steps. steps ++ record { kind = H5; field = field; number = n } ∷ []) i.made.are;
        };
        since = i.since;
        view = told.goes ∙ ap (λ (z : View). after (noted z (SearchLoad field) n) (SearchLoad field) told.marks n) i.view
            ∙ (λ j. record (searching v key i.before i.steps state loaded) {
              section = Some (goes (length i.before) (length (updates_of i.before)) j);
              trail = append_assoc v.trail i.steps (record { kind = H5; field = field; number = n } ∷ []) j;
            });
      }

  -- a section was entered
  pub begun : (t : TableAt) (w : View) (found : ℕ) → Told t v (Enter key) found w → IsSearching v key Start None w
  begun t w found told = record {
    before = told.marks;
    steps = record { kind = H3; field = Readers (key % 64); number = found } ∷ [];
    made = record { entry = found; loads = []; inside = tt; are = refl };
    since = told.begins;
    view = told.goes;
  }

  stands : (link : ℕ) → link ≢ 0 → StandsAt (link_stand link) link
  stands link ne = subst (λ z. StandsAt z link) (sym (ap (λ b. cond b Ended (Unread link)) (ne_eqb link 0 ne))) refl

  -- a link was loaded
  pub at_link : (t : TableAt) (state : SearchState) (field : Field) (link : ℕ) (w x : View)
      → ((entered from : ℕ) → ◌≡◌ {A = Section} (searched (at entered from state None) state field link)
      (at entered from (link_stand link) None))
      → IsSearching v key state None w → Told t w (SearchLoad field) link x → IsAtLink t.capacities v key link x
  at_link t state field link w x goes i told =
      let further = moved t state (link_stand link) None None field link w x goes i told in
      let stood : ◌≡◌ {A = Section} (section_of x) (at (length i.before) (length (updates_of i.before)) (link_stand link) None) =
      section_is x _ (section_at (link_stand link) None x further) in
      record {
        searching = further;
        slot = λ ne. subst (λ (z : Section). is_slot_of t.capacities (z.key % 64) link ≡ true) stood
            (told.gains link (subst (λ (z : Section). StandsAt z.state link) (sym stood) (stands link ne)));
      }

  -- the stand at a link that isn't 0, and at one that is
  pub at_slot : (link : ℕ) (w : View) → link ≢ 0 → IsSearching v key (link_stand link) None w → IsSearching v key (Unread link) None w
  at_slot link w ne i = subst (λ z. IsSearching v key z None w) (ap (λ b. cond b Ended (Unread link)) (ne_eqb link 0 ne)) i

  pub at_end : (link : ℕ) (w : View) → link ≡ 0 → IsSearching v key (link_stand link) None w → IsSearching v key Ended None w
  at_end link w e i = subst (λ z. IsSearching v key z None w) (ap (λ b. cond b Ended (Unread link)) (eq-eqb link 0 e)) i

  -- the head
  pub from_head : (t : TableAt) (link : ℕ) (w x : View) (class : ℕ) → IsSearching v key Start None w
      → Told t w (SearchLoad (Head class)) link x → IsAtLink t.capacities v key link x
  from_head t link w x class i s = at_link t Start (Head class) link w x (λ entered from. refl) i s

  -- the key of the slot, where it is the sought one, and where not
  pub found_key : (t : TableAt) (slot n : ℕ) (w x : View) → n ≡ key → IsSearching v key (Unread slot) None w
      → Told t w (SearchLoad (Key slot)) n x → IsSearching v key (Found slot) None x
  found_key t slot n w x e i s = moved t (Unread slot) (Found slot) None None (Key slot) n w x
      (λ entered from. ap (λ b. at entered from (cond b (Found slot) (Passed slot)) None) (eq-eqb n key e)) i s

  pub passed_key : (t : TableAt) (slot n : ℕ) (w x : View) → n ≢ key → IsSearching v key (Unread slot) None w
      → Told t w (SearchLoad (Key slot)) n x → IsSearching v key (Passed slot) None x
  passed_key t slot n w x ne i s = moved t (Unread slot) (Passed slot) None None (Key slot) n w x
      (λ entered from. ap (λ b. at entered from (cond b (Found slot) (Passed slot)) None) (ne_eqb n key ne)) i s

  pub read_value : (t : TableAt) (slot n : ℕ) (w x : View) → IsSearching v key (Found slot) None w
      → Told t w (SearchLoad (Value slot)) n x → IsSearching v key (Found slot) (Some n) x
  read_value t slot n w x i s = moved t (Found slot) (Found slot) None (Some n) (Value slot) n w x (λ entered from. refl) i s

  pub next_link : (t : TableAt) (slot link : ℕ) (w x : View) → IsSearching v key (Passed slot) None w
      → Told t w (SearchLoad (Next slot)) link x → IsAtLink t.capacities v key link x
  next_link t slot link w x i s = at_link t (Passed slot) (Next slot) link w x (λ entered from. refl) i s

  -- the section was left: what its search came to was said since it was entered
  pub looked : (t : TableAt) (state : SearchState) (loaded answer : Option ℕ) (w x : View) (found : ℕ)
      → IsSearching v key state loaded w → Told t w Leave found x
      → ((seen : List Mark) (section : Section) → section.state ≡ state → section.loaded ≡ loaded → GivesAnswer seen section
      → WasSaid (updates_of seen) section.key section.from answer) → Looked v key answer x
  looked t state loaded answer w x found i told gives =
      let stood : ◌≡◌ {A = Section} (section_of w) (at (length i.before) (length (updates_of i.before)) state loaded) =
      section_is w _ (section_at state loaded w i) in
      let step : StepMade = record { kind = H4; field = Readers (key % 64); number = found } in
      let said : WasSaid (updates_of x.seen) (section_of w).key (section_of w).from answer =
      gives x.seen (section_of w) (ap (λ (z : Section). z.state) stood) (ap (λ (z : Section). z.loaded) stood) told.gains in
      record {
        before = i.before;
        until = told.marks;
        steps = i.steps ++ step ∷ [];
        made = record { begun = i.steps; first = i.made; exit = found; are = refl };
        since = i.since;
        within = subst (λ (z : View). IsPrefix z.seen told.marks) i.view told.begins;
        view = told.goes ∙ ap (λ (z : View). after (noted z Leave found) Leave told.marks found) i.view ∙ (λ j. record v {
          section = None;
          sections = v.sections + 1;
          own = (v.own ++ Entered v.place v.sections key ∷ []) ++ Left v.place v.sections ∷ [];
          trail = append_assoc v.trail i.steps (record { kind = H4; field = Readers (key % 64); number = found } ∷ []) j;
          seen = told.marks ++ Left v.place v.sections ∷ [];
        });
        said = subst (λ (z : Section). WasSaid (updates_of x.seen) z.key z.from answer) stood said;
      }

-- What a load asks for, and what one turn of the search makes.
module _ (v : View) (key : ℕ) (t : TableAt) where
  pub may_load_head : (w : View) → IsSearching v key Start None w
      → (x : Section) × (w.section ≡ Some x) × (x.key % 64 ≡ key % 64) × (key % 64 ≡ x.key % 64)
  may_load_head w i =
      (at v key (length i.before) (length (updates_of i.before)) Start None, section_at v key Start None w i, refl, refl)

  may_load : (state : SearchState) (slot n : ℕ) (w : View) → n ≡ slot → StandsAt state slot
      → is_slot_of t.capacities (key % 64) slot ≡ true → IsSearching v key state None w
      → (x : Section) × (w.section ≡ Some x) × StandsAt x.state n × (is_slot_of t.capacities (x.key % 64) n ≡ true)
  may_load state slot n w e stands of i = (
    at v key (length i.before) (length (updates_of i.before)) state None,
    section_at v key state None w i,
    subst (StandsAt state) (sym e) stands,
    subst (λ z. is_slot_of t.capacities (key % 64) z ≡ true) (sym e) of,
  )

  module _ (link slot k : ℕ) (e : slot ≡ link) (ne : link ≢ 0) (w_link : View) (a : IsAtLink t.capacities v key link w_link) where
    unread : IsSearching v key (Unread slot) None w_link
    unread = subst (λ z. IsSearching v key (Unread z) None w_link) (sym e) (at_slot v key link w_link ne a.searching)

    of_class : is_slot_of t.capacities (key % 64) slot ≡ true
    of_class = subst (λ z. is_slot_of t.capacities (key % 64) z ≡ true) (sym e) (a.slot ne)

    pub may_load_key : (x : Section) × (w_link.section ≡ Some x) × StandsAt x.state slot × (is_slot_of t.capacities (x.key % 64) slot ≡ true)
    may_load_key = may_load (Unread slot) slot slot w_link refl refl of_class unread

    module _ (w_key : View) (s : Told t w_link (SearchLoad (Key slot)) k w_key) where
      pub may_load_value : k ≡ key
          → (x : Section) × (w_key.section ≡ Some x) × StandsAt x.state slot × (is_slot_of t.capacities (x.key % 64) slot ≡ true)
      may_load_value is = may_load (Found slot) slot slot w_key refl refl of_class (found_key v key t slot k w_link w_key is unread s)

      pub may_load_next : k ≢ key
          → (x : Section) × (w_key.section ≡ Some x) × StandsAt x.state slot × (is_slot_of t.capacities (x.key % 64) slot ≡ true)
      may_load_next not = may_load (Passed slot) slot slot w_key refl refl of_class (passed_key v key t slot k w_link w_key not unread s)

      pub turn_found : (value : ℕ) (w_further : View) → k ≡ key → Told t w_key (SearchLoad (Value slot)) value w_further
          → IsSearching v key (Found slot) (Some value) w_further
      turn_found value w_further is then = read_value v key t slot value w_key w_further (found_key v key t slot k w_link w_key is unread s) then

      pub turn_past : (next : ℕ) (w_further : View) → k ≢ key → Told t w_key (SearchLoad (Next slot)) next w_further
          → IsAtLink t.capacities v key next w_further
      turn_past next w_further not then = next_link v key t slot next w_key w_further (passed_key v key t slot k w_link w_key not unread s) then

module _ (v : View) (key : ℕ) (w : View) where
  pub in_section : (answer : Option ℕ) → (answer ≡ None → IsSearching v key Ended None w)
      → ((value : ℕ) → answer ≡ Some value → (slot : ℕ) × IsSearching v key (Found slot) (Some value) w)
      → (x : Section) × (w.section ≡ Some x)
  in_section None ended found = let i = ended refl in
      (at v key (length i.before) (length (updates_of i.before)) Ended None, section_at v key Ended None w i)
  in_section (Some value) ended found = let f = found value refl in (
    at v key (length f.1.before) (length (updates_of f.1.before)) (Found f.0) (Some value),
    section_at v key (Found f.0) (Some value) w f.1,
  )

  pub looked_at : (answer : Option ℕ) → (answer ≡ None → IsSearching v key Ended None w)
      → ((value : ℕ) → answer ≡ Some value → (slot : ℕ) × IsSearching v key (Found slot) (Some value) w)
      → (t : TableAt) (found : ℕ) (x : View) → Told t w Leave found x → Looked v key answer x
  looked_at None ended found t n x left = looked v key t Ended None None w x n (ended refl) left
      (λ seen section state loaded gives. gives.absent state)
  looked_at (Some value) ended found t n x left = let f = found value refl in
      looked v key t (Found f.0) (Some value) (Some value) w x n f.1 left (λ seen section state loaded gives. gives.present value loaded)

-- Walks along a chain under its lock.

-- what was loaded is known, and all that was known before
pub known_here : (hold : Hold) (field : Field) (n : ℕ) → known_in (knowing hold field n).known field ≡ Some n
known_here hold field n = ap (λ t. cond t (Some n) (known_in hold.known field)) (same_self field)

pub known_still : (hold : Hold) (field : Field) (n : ℕ) → ((number : ℕ) → known_in hold.known field ≡ Some number → n ≡ number)
    → KnowsMore hold.known (knowing hold field n).known
known_still hold field n agrees other number is = by (same_field field other) refl
  where
    by : (t : Bool) → same_field field other ≡ t → known_in (knowing hold field n).known other ≡ Some number
    by true e = let q : field ≡ other = same_is field other e in
        ap (λ t. cond t (Some n) (known_in hold.known other)) e ∙ ap Some (agrees number (ap (known_in hold.known) q ∙ is))
    by false e = ap (λ t. cond t (Some n) (known_in hold.known other)) e ∙ is

-- a walk that is known stays known
module _ (before after : List Known) (more : KnowsMore before after) where
  pub comes_still : (first : ℕ) (ss : List ℕ) (link : ℕ) → ComesOver before first ss link → ComesOver after first ss link
  comes_still first [] link c = c
  comes_still first (s ∷ ss) link c = (c.0, c.1, (c.2.0, more (Next s) c.2.0 c.2.1, comes_still c.2.0 ss link c.2.2))

  pub comes_to_still : (first : ℕ) (ss : List ℕ) (slot : ℕ) → ComesTo before first ss slot → ComesTo after first ss slot
  comes_to_still first [] slot c = c
  comes_to_still first (s ∷ ss) slot c = (c.0, c.1, (c.2.0, more (Next s) c.2.0 c.2.1, comes_to_still c.2.0 ss slot c.2.2))

  pub lacks_still : (key : ℕ) (ss : List ℕ) → LacksKey before key ss → LacksKey after key ss
  lacks_still key [] l = tt
  lacks_still key (s ∷ ss) l = ((l.0.0, more (Key s) l.0.0 l.0.1, l.0.2), lacks_still key ss l.1)

  pub comes_more : (first : ℕ) (ss : List ℕ) (link next : ℕ) → link ≢ 0 → known_in after (Next link) ≡ Some next
      → ComesOver before first ss link → ComesOver after first (ss ++ link ∷ []) next
  comes_more first [] link next ne is c = (c, ne, (next, is, refl))
  comes_more first (s ∷ ss) link next ne is c = (c.0, c.1, (c.2.0, more (Next s) c.2.0 c.2.1, comes_more c.2.0 ss link next ne is c.2.2))

  pub lacks_more : (key : ℕ) (ss : List ℕ) (slot other : ℕ) → known_in after (Key slot) ≡ Some other → other ≢ key
      → LacksKey before key ss → LacksKey after key (ss ++ slot ∷ [])
  lacks_more key [] slot other is ne l = ((other, is, ne), tt)
  lacks_more key (s ∷ ss) slot other is ne l = ((l.0.0, more (Key s) l.0.0 l.0.1, l.0.2), lacks_more key ss slot other is ne l.1)

-- a walk that came to 0 is whole, and one that came to a slot is on it
pub whole : (known : List Known) (first : ℕ) (ss : List ℕ) → ComesOver known first ss 0 → IsWholeWalk known first ss
whole known first [] c = c
whole known first (s ∷ ss) c = (c.0, c.1, (c.2.0, c.2.1, whole known c.2.0 ss c.2.2))

pub comes_to : (known : List Known) (first : ℕ) (ss : List ℕ) (slot : ℕ) → slot ≢ 0 → ComesOver known first ss slot
    → ComesTo known first ss slot
comes_to known first [] slot ne c = (c, ne)
comes_to known first (s ∷ ss) slot ne c = (c.0, c.1, (c.2.0, c.2.1, comes_to known c.2.0 ss slot ne c.2.2))

-- nothing was loaded yet
pub not_loaded : {v : View} {hold : Hold} → v.hold ≡ Some hold → HasLoaded v hold v hold
not_loaded {v} was = record {
  was = was;
  more = λ f n is. is;
  only = refl;
  trail = adds_none v.trail;
  seen = prefix_self v.seen;
  view = λ j. record v { hold = was j };
}

-- one more load
module _ {table : TableAt} {v : View} {hold : Hold} {w : View} {now : Hold} (loaded : HasLoaded v hold w now) {field : Field} {n : ℕ}
    {x : View} (s : Told table w (LockedLoad field) n x) where
  holds_now : w.hold ≡ Some now
  holds_now = ap (λ (z : View). z.hold) loaded.view

  same_hold : hold_of w ≡ now
  same_hold = hold_is w now holds_now

  agrees : (number : ℕ) → known_in now.known field ≡ Some number → n ≡ number
  agrees number is = s.gains.same number (ap (λ (z : Hold). known_in z.known field) same_hold ∙ is)

  pub knows_more : KnowsMore now.known (knowing now field n).known
  knows_more = known_still now field n agrees

  pub link_now : IsLinkOf table.capacities now field n
  link_now = subst (λ (z : Hold). IsLinkOf table.capacities z field n) same_hold s.gains.link

  load_is : x ≡ after_held_load (stepped w H9 field n) now field n s.marks
  load_is = s.goes ∙ ap (λ (z : Hold). after_held_load (stepped w H9 field n) z field n s.marks) same_hold

  pub loaded_more : loads_free H9 field ≡ false → HasLoaded v hold x (knowing now field n)
  loaded_more plain =
      let there : View = after_held_load (stepped w H9 field n) now field n s.marks in
      let longer : IsPrefix v.seen s.marks = prefix_trans v.seen w.seen s.marks loaded.seen s.begins in
      record {
        was = loaded.was;
        more = λ f number is. knows_more f number (loaded.more f number is);
        only = λ j. record (loaded.only j) { known = record { field = field; number = n } ∷ now.known };
        trail = subst (λ (z : View). AddsNoLists v.trail z.trail) (sym load_is) (adds_step v.trail w.trail H9 field n plain loaded.trail);
        seen = subst (λ (z : View). IsPrefix v.seen z.seen) (sym load_is) (by (n == 0) longer);
        view = load_is ∙ (λ j. record (loaded.view j) { hold = Some (knowing now field n); trail = there.trail; seen = there.seen })
            ∙ (λ j. record v { hold = Some (knowing now field n); trail = (sym load_is j).trail; seen = (sym load_is j).seen });
      }
    where
      by : (t : Bool) → IsPrefix v.seen s.marks → IsPrefix v.seen (cond t s.marks w.seen)
      by true longer = longer
      by false longer = loaded.seen

  pub holds_then : x.hold ≡ Some (knowing now field n)
  holds_then = ap (λ (z : View). z.hold) load_is

-- a first load and another
module _ {table : TableAt} {v : View} {hold : Hold} (was : v.hold ≡ Some hold) {field : Field} {n : ℕ} {w : View}
    (s : Told table v (LockedLoad field) n w) (plain : loads_free H9 field ≡ false) where
  pub loaded_first : HasLoaded v hold w (knowing hold field n)
  loaded_first = loaded_more (not_loaded was) s plain

  module _ {next : Field} {k : ℕ} {x : View} (t : Told table w (LockedLoad next) k x) where
    pub loaded_second : loads_free H9 next ≡ false → HasLoaded v hold x (knowing (knowing hold field n) next k)
    loaded_second = loaded_more loaded_first t

    pub knows_second : KnowsMore (knowing hold field n).known (knowing (knowing hold field n) next k).known
    knows_second = knows_more loaded_first t

-- the walk at its start
pub walk_begins : {table : TableAt} (key : ℕ) {v : View} {hold : Hold} → v.hold ≡ Some hold → {class : ℕ} → class ≡ hold.class
    → {link : ℕ} {x : View} → Told table v (LockedLoad (Head class)) link x
    → (new : Hold) × HasLoaded v hold x new × IsWalking table.capacities key new None link
walk_begins {table} key {v} {hold} was {class} same {link} {x} s =
    let head : known_in (knowing hold (Head class) link).known (Head hold.class) ≡ Some link =
    subst (λ z. known_in (knowing hold (Head class) link).known (Head z) ≡ Some link) same (known_here hold (Head class) link) in (
      knowing hold (Head class) link,
      loaded_first was s refl,
      record {
        first = link;
        passed = [];
        head = head;
        comes = refl;
        lacks = tt;
        from = head;
        slot = link_now (not_loaded was) s;
        before = tt;
      },
    )

-- the walk at its end
pub walk_ends : {capacities : List ℕ} {key : ℕ} {v w : View} {hold new : Hold} {previous : Option ℕ} {link : ℕ} → link ≡ 0
    → HasLoaded v hold w new → IsWalking capacities key new previous link → WalksPast key v hold w
walk_ends {new = new} e loaded walk = record {
  new = new;
  loaded = loaded;
  absent = record {
    first = walk.first;
    walk = walk.passed;
    head = walk.head;
    whole = whole new.known walk.first walk.passed (subst (ComesOver new.known walk.first walk.passed) e walk.comes);
    lacks = walk.lacks;
  };
}

-- one turn of the walk
module _ {table : TableAt} {key : ℕ} {v : View} {hold : Hold} {w : View} {now : Hold} (loaded : HasLoaded v hold w now)
    {previous : Option ℕ} {link : ℕ} (walk : IsWalking table.capacities key now previous link)
    {slot : ℕ} (is : slot ≡ link) (ne : link ≢ 0) {k : ℕ} {x : View} (s : Told table w (LockedLoad (Key slot)) k x) where
  abbrev then : Hold
  then = knowing now (Key slot) k

  some_slot : slot ≢ 0
  some_slot e = ne (sym is ∙ e)

  more : KnowsMore now.known (knowing now (Key slot) k).known
  more = knows_more loaded s

  comes : ComesOver now.known walk.first walk.passed slot
  comes = subst (ComesOver now.known walk.first walk.passed) (sym is) walk.comes

  on_then : IsOnWalk (knowing now (Key slot) k) slot
  on_then = record {
    first = walk.first;
    before = walk.passed;
    head = more (Head now.class) walk.first walk.head;
    comes = comes_to_still now.known (knowing now (Key slot) k).known more walk.first walk.passed slot
        (comes_to now.known walk.first walk.passed slot some_slot comes);
  }

  from_then : (p : Option ℕ) → IsLinkedFrom now p link → IsLinkedFrom (knowing now (Key slot) k) p slot
  from_then None f = more (Head now.class) slot (f ∙ ap Some (sym is))
  from_then (Some p) f = (
    record {
      first = f.0.first;
      before = f.0.before;
      head = more (Head now.class) f.0.first f.0.head;
      comes = comes_to_still now.known (knowing now (Key slot) k).known more f.0.first f.0.before p f.0.comes;
    },
    more (Next p) slot (f.1 ∙ ap Some (sym is)),
  )

  walked_of_class : is_slot_of table.capacities now.class slot ≡ true
  walked_of_class = subst (λ z. is_slot_of table.capacities now.class z ≡ true) (sym is) (walk.slot ne)

  same_class : now.class ≡ hold.class
  same_class = ap (λ (z : Hold). z.class) loaded.only

  pub walk_found : k ≡ key → WalksTo table.capacities key v hold previous slot x
  walk_found e = record {
    new = knowing now (Key slot) k;
    loaded = loaded_more loaded s refl;
    found = record {
      some = some_slot;
      on = on_then;
      from = from_then previous walk.from;
      key_is = known_here now (Key slot) k ∙ ap Some e;
    };
    slot_is = subst (λ z. is_slot_of table.capacities z slot ≡ true) same_class walked_of_class;
    before = subst (λ z. IfSome previous (λ p. is_slot_of table.capacities z p ≡ true)) same_class walk.before;
  }

  -- what the load of the next link asks for
  pub may_walk_on : (new : Hold) × (x.hold ≡ Some new) × (is_slot_of table.capacities new.class slot ≡ true)
  may_walk_on = (knowing now (Key slot) k, holds_then loaded s, walked_of_class)

  pub walk_passes : k ≢ key → {next : ℕ} {y : View} → Told table x (LockedLoad (Next slot)) next y
      → (new : Hold) × HasLoaded v hold y new × IsWalking table.capacities key new (Some slot) next
  walk_passes not {next} {y} t =
      let here : HasLoaded v hold x (knowing now (Key slot) k) = loaded_more loaded s refl in
      let further : KnowsMore (knowing now (Key slot) k).known (knowing (knowing now (Key slot) k) (Next slot) next).known =
      knows_more here t in
      let next_is : known_in (knowing (knowing now (Key slot) k) (Next slot) next).known (Next slot) ≡ Some next =
      known_here (knowing now (Key slot) k) (Next slot) next in
      let both : KnowsMore now.known (knowing (knowing now (Key slot) k) (Next slot) next).known = (λ f n e. further f n (more f n e)) in (
        knowing (knowing now (Key slot) k) (Next slot) next,
        loaded_more here t refl,
        record {
          first = walk.first;
          passed = walk.passed ++ slot ∷ [];
          head = both (Head now.class) walk.first walk.head;
          comes = comes_more now.known (knowing (knowing now (Key slot) k)
              (Next slot) next).known both walk.first walk.passed slot next some_slot next_is comes;
          lacks = lacks_more now.known (knowing (knowing now (Key slot) k) (Next slot) next).known both key walk.passed slot k
              (further (Key slot) k (known_here now (Key slot) k)) not walk.lacks;
          from = (
            record {
              first = on_then.first;
              before = on_then.before;
              head = further (Head now.class) on_then.first on_then.head;
              comes = comes_to_still (knowing now (Key slot) k).known
                  (knowing (knowing now (Key slot) k) (Next slot) next).known further on_then.first on_then.before slot on_then.comes;
            },
            next_is,
          );
          slot = link_now here t on_then;
          before = walked_of_class;
        },
      )

-- a whole walk never comes to 0
pub avoids_zero : (known : List Known) (first : ℕ) (ss : List ℕ) → IsWholeWalk known first ss → AllByRecursion (λ s. s ≢ 0) ss
avoids_zero known first [] w = tt
avoids_zero known first (s ∷ ss) w = (w.1, avoids_zero known w.2.0 ss w.2.2)

-- what stays known of a walk where another slot is stored in
module _ (before after : List Known) (slot : ℕ) (nexts : (s : ℕ) → s ≢ slot → known_in after (Next s) ≡ known_in before (Next s))
    (keys : (s : ℕ) → s ≢ slot → known_in after (Key s) ≡ known_in before (Key s)) where
  pub whole_kept : (first : ℕ) (ss : List ℕ) → AllByRecursion (λ s. s ≢ slot) ss → IsWholeWalk before first ss → IsWholeWalk after first ss
  whole_kept first [] a w = w
  whole_kept first (s ∷ ss) a w = (w.0, w.1, (w.2.0, nexts s a.0 ∙ w.2.1, whole_kept w.2.0 ss a.1 w.2.2))

  pub lacks_kept : (key : ℕ) (ss : List ℕ) → AllByRecursion (λ s. s ≢ slot) ss → LacksKey before key ss → LacksKey after key ss
  lacks_kept key [] a l = tt
  lacks_kept key (s ∷ ss) a l = ((l.0.0, keys s a.0 ∙ l.0.1, l.0.2), lacks_kept key ss a.1 l.1)

-- so a key that is known to be absent is so where nothing more is known of keys, links and the head
pub kept_absent : (hold new : Hold) (key : ℕ) → known_in new.known (Head new.class) ≡ known_in hold.known (Head hold.class)
    → ((s : ℕ) → known_in new.known (Next s) ≡ known_in hold.known (Next s))
    → ((s : ℕ) → known_in new.known (Key s) ≡ known_in hold.known (Key s)) → ShowsAbsent hold key → ShowsAbsent new key
kept_absent hold new key head nexts keys shows =
    let away : AllByRecursion (λ s. s ≢ 0) shows.walk = avoids_zero hold.known shows.first shows.walk shows.whole in
    record {
      first = shows.first;
      walk = shows.walk;
      head = head ∙ shows.head;
      whole = whole_kept hold.known new.known 0 (λ s _. nexts s) (λ s _. keys s) shows.first shows.walk away shows.whole;
      lacks = lacks_kept hold.known new.known 0 (λ s _. nexts s) (λ s _. keys s) key shows.walk away shows.lacks;
    }

-- What a few steps leave together.

-- the view after an act, of the view before, with these marks before it and this number told
abbrev pub goes_by : Act → List Mark → ℕ → View → View
goes_by a marks n v = after (noted v a n) a marks n

-- where the view before a step is known, so is the one after it
pub goes_on : {table : TableAt} {v u w : View} {a : Act} {n : ℕ} → v ≡ u → (told : Told table v a n w) → w ≡ goes_by a told.marks n u
goes_on {a = a} {n = n} is told = told.goes ∙ ap (goes_by a told.marks n) is

-- who loads sees no less
pub seen_more : (a h : List Mark) (b : Bool) → IsPrefix a h → IsPrefix a (cond b h a)
seen_more a h true p = p
seen_more a h false p = prefix_self a

listed_at : (table : TableAt) (v mid w : View) (free retired : ℕ) (hold : Hold) → NeedsUnlock v hold
    → Told table v (LockedLoad (Free hold.class)) free mid → Told table mid (LockedLoad (Retired hold.class)) retired w
    → Lists table.capacities v free retired w
listed_at table v mid w free retired hold done a b =
    let one : hold_of v ≡ hold = hold_is v hold done.hold_is in
    let M : Hold → View = λ k. after_held_load (stepped v H9 (Free hold.class) free) k (Free hold.class) free a.marks in
    let mid_is : mid ≡ M hold = a.goes ∙ ap M one in
    let two : hold_of mid ≡ knowing hold (Free hold.class) free = ap hold_of mid_is in
    let F : View → View = goes_by (LockedLoad (Retired hold.class)) b.marks retired in
    let whole : w ≡ F (M hold) = b.goes ∙ ap F mid_is in
    let seen_first : IsPrefix v.seen (M hold).seen = seen_more v.seen a.marks (free == 0) a.begins in
    let seen_second : IsPrefix (M hold).seen (F (M hold)).seen =
    seen_more (M hold).seen b.marks (retired == 0) (subst (λ (z : View). IsPrefix z.seen b.marks) mid_is b.begins) in
    record {
      hold = hold;
      is = done.hold_is;
      free_link = subst (λ (k : Hold). IsLink table.capacities k.class free) one a.gains.link;
      retired_link = subst (λ (k : Hold). IsLink table.capacities k.class retired) two b.gains.link;
      full = λ no_free no_retired.
          let f : IsFull table.capacities (hold_of mid) w.seen = b.gains.full (record {
            field_is = ap (λ (k : Hold). Retired k.class) (sym two);
            none = no_retired;
            free = subst (λ (k : Hold). known_in k.known (Free k.class) ≡ Some 0) (sym two)
                (known_here hold (Free hold.class) free ∙ ap Some no_free);
            taken = ap (λ (k : Hold). k.taken) two ∙ done.taken;
            unlinked = ap (λ (k : Hold). k.unlinked) two ∙ done.unlinked;
            moved = ap (λ (k : Hold). k.moved) two ∙ done.moved;
          }) in
          let g : IsFull table.capacities (knowing hold (Free hold.class) free) w.seen =
          subst (λ (k : Hold). IsFull table.capacities k w.seen) two f in
          record {
            pairs = g.pairs;
            absent = λ key class shows. g.absent key class
                (kept_absent hold (knowing hold (Free hold.class) free) key refl (λ s. refl) (λ s. refl) shows);
          };
      trail = ap (λ (z : View). z.trail) whole;
      seen = subst (IsPrefix v.seen) (sym (ap (λ (z : View). z.seen) whole)) (prefix_trans v.seen _ _ seen_first seen_second);
      rest = whole ∙ sym (ap (λ (z : View). record v {
        hold = Some (knowing (knowing hold (Free hold.class) free) (Retired hold.class) retired);
        trail = z.trail;
        seen = z.seen;
      }) whole);
    }

pub listed : (table : TableAt) (v mid w : View) (free retired c : ℕ) (hold : Hold) → NeedsUnlock v hold → c ≡ hold.class
    → Told table v (LockedLoad (Free c)) free mid → Told table mid (LockedLoad (Retired c)) retired w
    → Lists table.capacities v free retired w
listed table v mid w free retired c hold is class a b =
    listed_at table v mid w free retired hold is (subst (λ z. Told table v (LockedLoad (Free z)) free mid) class a)
    (subst (λ z. Told table mid (LockedLoad (Retired z)) retired w) class b)

-- after a load of a field of its own the holder is still one of the class
pub still_holds : (table : TableAt) (v w : View) (field : Field) (found c : ℕ) (hold : Hold) → v.hold ≡ Some hold → c ≡ hold.class
    → Told table v (LockedLoad field) found w → (k : Hold) × (w.hold ≡ Some k) × (c ≡ k.class)
still_holds table v w field found c hold is class a =
    (knowing (hold_of v) field found, ap (λ (z : View). z.hold) a.goes, class ∙ ap (λ (k : Hold). k.class) (sym (hold_is v hold is)))

-- the view after a load of the readers that found none
cleared : (table : TableAt) (v w : View) (count : ℕ) (hold : Hold) → count ≡ 0 → v.hold ≡ Some hold → Told table v LoadReaders count w
    → w ≡ record (stepped v H8 (Readers hold.class) 0) { hold = Some (record hold { clear = true }) }
cleared table v w count hold none is a =
    a.goes ∙ ap (λ (k : Hold). after_readers_load (stepped v H8 (Readers k.class) count) k count) (hold_is v hold is)
    ∙ ap (λ n. after_readers_load (stepped v H8 (Readers hold.class) n) hold n) none

pub may_move : (table : TableAt) (v w : View) (count first : ℕ) → count ≡ 0 → MayPoll v
    → ((hold : Hold) → v.hold ≡ Some hold → known_in hold.known (Retired hold.class) ≡ Some first) → Told table v LoadReaders count w
    → (hold : Hold) × NeedsMove w hold first
may_move table v w count first none may retired a =
    let hold : Hold = may.hold in
    let e = cleared table v w count hold none may.finished.hold_is a in
    let same : Some may.first ≡ Some first = sym may.retired ∙ retired hold may.finished.hold_is in
    let n : may.first ≡ first = cc in (
      record hold { clear = true },
      record {
        hold_is = ap (λ (z : View). z.hold) e;
        some = λ zero. may.some (n ∙ zero);
        first = retired hold may.finished.hold_is;
        clear = refl;
        empty = may.finished.moved;
      },
    )

retired_moved : (table : TableAt) (v w x : View) (count first : ℕ) (hold : Hold) → count ≡ 0 → v.hold ≡ Some hold
    → Told table v LoadReaders count w → Told table w (TakeRetired first) 0 x
    → x ≡ after_move (stepped (record (stepped v H8 (Readers hold.class) 0) { hold = Some (record hold { clear = true }) }) H10
    (Retired hold.class) 0) (record hold { clear = true }) first
retired_moved table v w x count first hold none is a b = goes_on (cleared table v w count hold none is a) b

pub may_refill : (table : TableAt) (v w x : View) (count first : ℕ) → count ≡ 0 → MayPoll v → Told table v LoadReaders count w
    → Told table w (TakeRetired first) 0 x → (hold : Hold) × NeedsRefill x hold first
may_refill table v w x count first none may a b =
    let hold : Hold = may.hold in
    let e = retired_moved table v w x count first hold none may.finished.hold_is a b in (
      record (knowing (record hold { clear = true }) (Retired hold.class) 0) { moved = Some first },
      record { hold_is = ap (λ (z : View). z.hold) e; empty = may.free; moved = refl },
    )

pub refilled : (table : TableAt) (v w x y : View) (count first : ℕ) → count ≡ 0 → MayPoll v
    → ((hold : Hold) → v.hold ≡ Some hold → known_in hold.known (Retired hold.class) ≡ Some first)
    → Told table v LoadReaders count w → Told table w (TakeRetired first) 0 x → Told table x (FreeRetired first) first y → Refilled v y
refilled table v w x y count first none may retired a b d = record {
  hold = may.hold;
  is = may.finished.hold_is;
  first = first;
  retired = retired may.hold may.finished.hold_is;
  rest = goes_on (retired_moved table v w x count first may.hold none may.finished.hold_is a b) d;
}

pub waited : (table : TableAt) (v w : View) (count c : ℕ) (hold : Hold) → count ≢ 0 → v.hold ≡ Some hold → c ≡ hold.class
    → Told table v LoadReaders count w → Waits v c count w
waited table v w count c hold some_count is class a = record {
  hold = hold;
  is = is;
  same = class;
  some = some_count;
  rest = a.goes ∙ ap (λ (k : Hold). after_readers_load (stepped v H8 (Readers k.class) count) k count) (hold_is v hold is)
      ∙ ap (λ b. cond b (record (stepped v H8 (Readers hold.class) count) { hold = Some (record hold { clear = true }) })
      (stepped v H8 (Readers hold.class) count)) (ne_eqb count 0 some_count);
}

-- where a section was entered, one is open
pub entered_inside : (table : TableAt) (v w : View) (key found : ℕ) → Told table v (Enter key) found w
    → (section : Section) × (w.section ≡ Some section) × (section.key ≡ key)
entered_inside table v w key found e = (
  record { key = key; count = v.sections; entered = length e.marks; from = length (updates_of e.marks); state = Start; loaded = None },
  ap (λ (z : View). z.section) e.goes,
  refl,
)
