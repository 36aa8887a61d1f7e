-- Searches: what each load, step down and hop makes of one, and how many steps it makes.
use Rattle.std.proofs.Common.{◌≡◌, ◌/◌, ◌≢◌, ℕ, ◌&&◌, cond, Bool, true, false, [], ◌∷◌, ◌++◌, Option, Some, None, refl, sym, ap, subst, ◌∙◌, arith, eq-eqb, ne_eqb, ◌%◌, ◌<◌, ◌+◌, length}
use mathlib.Core.List.{IsPrefix}
use mathlib.Core.Logic.{dite}
use native.Mathlib.Decide.{ℕ_discrete}
use Rattle.prcu_marks.specs.declared.mark.Mark.{Mark}
use Rattle.prcu_marks.specs.declared.mark.Mark.TheVariants.{Entered, Left as LeftMark}
use Rattle.prcu_marks.specs.declared.mark.Side.{Side}
use Rattle.prcu_marks.specs.declared.mark.Side.TheVariants.{Left, Right}
use Rattle.prcu_model.specs.Dictionary.{WasSaid}
use Rattle.prcu_marks.specs.Marks.{updates_of, own_of}
use Rattle.prcu_marks.proofs.Marks.{own_of-append}
use Rattle.core_state.specs.declared.shape.Shape.{Shape}
use Rattle.core_state.specs.declared.words.Field.{Field}
use Rattle.core_state.specs.declared.words.Field.TheVariants.{Life, Key, Value, Link, Tag}
use Rattle.core_state.specs.declared.words.Kind.{Kind}
use Rattle.core_state.specs.declared.view.Reading.{Reading}
use Rattle.core_state.specs.declared.view.Section.{Section}
use Rattle.core_state.specs.declared.view.SearchState.{SearchState}
use Rattle.core_state.specs.declared.view.SearchState.TheVariants.{At, Unread, Found, Missed}
use Rattle.core_state.specs.declared.view.View.{View}
use Rattle.list_laws.specs.Counts.{IsIn}
use Rattle.core_state.specs.Memory.{step_side, same_side}
use Rattle.core_state.specs.Views.{known_in}
use Rattle.core_state.specs.Steps.{key_stand, linked_on, searched, loaded, after_search_load, fresh_reading}
use Rattle.core_state.specs.Parts.{state_slot}
use Rattle.core_frames.proofs.Roles.{works_there}
use Rattle.core_frames.proofs.Views.{side_self}
use Rattle.core_state.specs.declared.act.Act.TheVariants.{SearchLoad}
use Rattle.core_state.specs.declared.act.Part.{Part}
use Rattle.core_state.specs.Acts.{in_slot, noted, section_of}
use Rattle.core_laws.proofs.Acting.{part_word, section_is as opened, may_search}
use Rattle.seat_table.specs.Gains.{Sees, IsSlot, IsAsked, Told, AreFew}
use Rattle.seat_table.specs.Sections.{is_entry, is_exit, HasEntered, HasLeft, EntersBy, Makes}
use Rattle.seat_table.proofs.SeveralSteps.{made_none, made_more, made_both, entry_few, told_once}
use Rattle.citrus_tree.specs.Replies.{SoughtValue}
use Rattle.citrus_tree.specs.Going.{FoundHolder, Sought}
use Rattle.citrus_tree.specs.Lookups.{IsHolding, is_load, is_of_lookup, state_parent, IsSearching, Looked}
use Rattle.citrus_tree.specs.Hops.{LoadsLinks, Records, Stands, link_on, Costs, KeepsPace, slots_in, slots_met, slots_of}
use Rattle.core_laws.proofs.Searches.{in_more}
use Rattle.citrus_tree.specs.declared.search.Hop.{Hop}
use Rattle.std.proofs.Math.Nat.{mod-eq_of_lt}
use Rattle.core_state.specs.declared.shape.Waiter.{Waiter}
use Rattle.citrus_tree.specs.declared.descent.Step.{Step}
use Rattle.core_state.specs.declared.words.Kind.TheVariants as kinds
use Rattle.core_state.specs.declared.act.Part.TheVariants as part
use Rattle.core_state.specs.declared.view.SearchState.TheVariants as at
use Rattle.citrus_tree.specs.declared.search.Hop.TheVariants as hop
use Rattle.citrus_tree.specs.declared.descent.Step.TheVariants as step

-- Searches in a section, hop by hop.

-- what a load makes of what a section found out, where its search stands at the word loaded
abbrev pub noting_load : Reading → Field → ℕ → Reading
noting_load r field n = record r { loads = record { field = field; number = n; stored = false } ∷ r.loads }

pub link_moves : (r : Reading) (s : ℕ) (b : Side) (n : ℕ) → r.state ≡ At s b
    → loaded r (Link s b) n ≡ linked_on (noting_load r (Link s b) n) s b n
link_moves r s b n e =
    let r' : Reading = noting_load r (Link s b) n in
    ap (λ z. searched r' z (Link s b) n) e ∙ ap (λ z. cond z (linked_on r' s b n) r')
    (ap (λ z. z && same_side b b) (eq-eqb s s refl) ∙ side_self b)

pub key_moves : (r : Reading) (s p : ℕ) (b : Side) (n : ℕ) → r.state ≡ Unread s p b
    → loaded r (Key s) n ≡ record (noting_load r (Key s) n) { state = key_stand s p b (step_side r.key n) }
key_moves r s p b n e =
    let r' : Reading = noting_load r (Key s) n in
    ap (λ z. searched r' z (Key s) n) e ∙ ap (λ z. cond z (record r' { state = key_stand s p b (step_side r'.key n) }) r') (eq-eqb s s refl)

pub value_moves : (r : Reading) (s p : ℕ) (b : Side) (n : ℕ) → r.state ≡ Found s p b None
    → loaded r (Value s) n ≡ record (noting_load r (Value s) n) { state = Found s p b (Some n) }
value_moves r s p b n e =
    let r' : Reading = noting_load r (Value s) n in
    ap (λ z. searched r' z (Value s) n) e ∙ ap (λ z. cond z (record r' { state = Found s p b (Some n) }) r') (eq-eqb s s refl)

-- the kinds of step of a lookup are those of its parts
either_true : (a : Bool) → cond a true true ≡ true
either_true true = refl
either_true false = refl

pub load_is : (kind : Kind) → is_load kind ≡ true → is_of_lookup kind ≡ true
load_is kind e = ap (λ z. cond z true (cond (is_entry kind) true (is_exit kind))) e

pub entry_is : (kind : Kind) → is_entry kind ≡ true → is_of_lookup kind ≡ true
entry_is kind e = ap (λ z. cond (is_load kind) true (cond z true (is_exit kind))) e ∙ either_true (is_load kind)

pub exit_is : (kind : Kind) → is_exit kind ≡ true → is_of_lookup kind ≡ true
exit_is kind e = ap (λ z. cond (is_load kind) true (cond (is_entry kind) true z)) e
    ∙ ap (λ z. cond (is_load kind) true z) (either_true (is_entry kind)) ∙ either_true (is_load kind)

pub root_is : (k : Shape) → IsSlot k 0
root_is k = record { inside = omega arith; fits = omega arith }

-- From the view v a section with the key was entered, in which there were loads alone. This is what it has found by now.
pub record HasRead (v : View) (key : ℕ) (w : View) : Type 0 where
  pub entry : View
  pub entered : HasEntered v key entry
  pub reading : Reading
  pub inside : w.section ≡ Some (record entered.section { reading = reading })
  pub key_is : reading.key ≡ key
  pub others : w ≡ record entry { section = w.section; trail = w.trail }
  pub made : Makes is_load entry.trail w.trail

module _ (k : Shape) (v : View) (key : ℕ) where
  -- a section was entered
  pub begun : (w : View) → HasEntered v key w → IsSearching v key (At 0 Right) w
  begun w e = record {
    entry = w;
    entered = e;
    reading = fresh_reading key;
    inside = e.inside ∙ ap (λ z. Some (record e.section { reading = z })) e.reading_is;
    key_is = refl;
    state_is = refl;
    no_walk = refl;
    here = (0, refl);
    above = (0, refl);
    others = refl;
    made = made_none is_load w.trail;
  }

  -- a load, after which what it found out is known
  pub moved_as : (state state' : SearchState) (s : ℕ) (p : Part) (n : ℕ) (w x : View) (i : IsSearching v key state w)
      → Told k w (SearchLoad s p) n x → (r : Reading) → loaded i.reading (in_slot s p) n ≡ r → r.key ≡ key → r.state ≡ state'
      → r.walk ≡ None → IsIn r.stood (state_slot state') → IsIn r.stood (state_parent state')
      → (j : IsSearching v key state' x) × (j.reading ≡ r)
  moved_as state state' s p n w x i t r is sought stands no_walk here above =
      let u : View = noted w (SearchLoad s p) n in
      let goes : x ≡ record u { section = Some (record i.entered.section { reading = r }) } =
      t.goes ∙ ap (λ z. after_search_load u z (in_slot s p) n) (opened w _ i.inside)
      ∙ ap (λ z. record u { section = Some (record i.entered.section { reading = z }) }) is in
      subst (λ z. (j : IsSearching v key state' z) × (j.reading ≡ r)) (sym goes) (
        record {
          entry = i.entry;
          entered = i.entered;
          reading = r;
          inside = refl;
          key_is = sought;
          state_is = stands;
          no_walk = no_walk;
          here = here;
          above = above;
          others = ap (λ (z : View). record z { section = Some (record i.entered.section { reading = r }); trail = u.trail }) i.others;
          made = made_more is_load i.entry.trail w kinds.K17 (in_slot s p) n refl i.made;
        },
        refl,
      )

  moved : (state state' : SearchState) (s : ℕ) (p : Part) (n : ℕ) (w x : View) (i : IsSearching v key state w)
      → Told k w (SearchLoad s p) n x → (r : Reading) → loaded i.reading (in_slot s p) n ≡ r → r.key ≡ key → r.state ≡ state'
      → r.walk ≡ None → IsIn r.stood (state_slot state') → IsIn r.stood (state_parent state') → IsSearching v key state' x
  moved state state' s p n w x i t r is sought stands no_walk here above =
      (moved_as state state' s p n w x i t r is sought stands no_walk here above).0

  -- a load that moves the search nowhere only adds what it loaded
  stays : (state : SearchState) (s : ℕ) (p : Part) (n : ℕ) (w x : View) (i : IsSearching v key state w) → Told k w (SearchLoad s p) n x
      → ((r : Reading) → searched r state (in_slot s p) n ≡ r)
      → (j : IsSearching v key state x) × (j.reading ≡ noting_load i.reading (in_slot s p) n)
  stays state s p n w x i t nowhere =
      moved_as state state s p n w x i t (noting_load i.reading (in_slot s p) n)
      (ap (λ z. searched (noting_load i.reading (in_slot s p) n) z (in_slot s p) n) i.state_is
      ∙ nowhere (noting_load i.reading (in_slot s p) n)) i.key_is i.state_is i.no_walk i.here i.above

  -- where it stands is a slot of the table
  pub slot_at : (state : SearchState) (s : ℕ) (p : Part) (n : ℕ) (w x : View) → IsSearching v key state x → Told k w (SearchLoad s p) n x
      → IsSlot k (state_slot state)
  slot_at state s p n w x i t = t.stood.stood _ (state_slot state) i.inside i.here

  -- any part of it may be loaded
  asks_stood : (state : SearchState) (s : ℕ) (p : Part) (w : View) (i : IsSearching v key state w) → IsIn i.reading.stood s → IsSlot k s
      → IsAsked k w (SearchLoad s p)
  asks_stood state s p w i stood slot = λ now. (
    part_word k s p slot.inside,
    may_search w s p i.inside i.entered.no_list stood,
  )

  pub asks : (state : SearchState) (p : Part) (w : View) → IsSearching v key state w → IsSlot k (state_slot state)
      → IsAsked k w (SearchLoad (state_slot state) p)
  asks state p w i slot = asks_stood state (state_slot state) p w i i.here slot

  -- and any part of the slot from which it came there
  pub asks_above : (state : SearchState) (p : Part) (w : View) → IsSearching v key state w → IsSlot k (state_parent state)
      → IsAsked k w (SearchLoad (state_parent state) p)
  asks_above state p w i slot = asks_stood state (state_parent state) p w i i.above slot

  pub needs_left : (s : ℕ) (b : Side) (w : View) → IsSearching v key (At s b) w → IsSlot k s
      → IsAsked k w (SearchLoad s (part.Link Left))
  needs_left s b w i slot = asks (At s b) (part.Link Left) w i slot

  at_link : (s : ℕ) (b : Side) (n : ℕ) (w x : View) (i : IsSearching v key (At s b) w) → Told k w (SearchLoad s (part.Link b)) n x
      → (r : Reading) → linked_on (noting_load i.reading (Link s b) n) s b n ≡ r → (state : SearchState) → r.key ≡ key → r.state ≡ state
      → r.walk ≡ None → IsIn r.stood (state_slot state) → IsIn r.stood (state_parent state) → IsSearching v key state x
  at_link s b n w x i t r is state sought stands no_walk here above =
      moved (At s b) state s (part.Link b) n w x i t r (link_moves i.reading s b n i.state_is ∙ is) sought stands no_walk here above

  -- the link is empty, or leads on
  pub missed : (s : ℕ) (b : Side) (n : ℕ) (w x : View) → n ≡ 0 → IsSearching v key (At s b) w → Told k w (SearchLoad s (part.Link b)) n x
      → IsSearching v key (Missed s b) x
  missed s b n w x none i t =
      let r : Reading = record (noting_load i.reading (Link s b) n) { state = Missed s b } in
      at_link s b n w x i t r (ap (λ z. cond z r (record (noting_load i.reading (Link s b) n)
      { state = Unread n s b; stood = n ∷ i.reading.stood })) (eq-eqb n 0 none)) (Missed s b) i.key_is refl i.no_walk i.here i.here

  pub reached : (s : ℕ) (b : Side) (n : ℕ) (w x : View) → n ≢ 0 → IsSearching v key (At s b) w → Told k w (SearchLoad s (part.Link b)) n x
      → IsSearching v key (Unread n s b) x
  reached s b n w x some_slot i t =
      let r : Reading = record (noting_load i.reading (Link s b) n) { state = Unread n s b; stood = n ∷ i.reading.stood } in
      at_link s b n w x i t r (ap (λ z. cond z (record (noting_load i.reading (Link s b) n) { state = Missed s b }) r)
      (ne_eqb n 0 some_slot)) (Unread n s b) i.key_is refl i.no_walk (0, refl) (in_more i.reading.stood n s i.here)

  -- the other link was loaded, before that of the side or after it
  pub other : (s : ℕ) (b c : Side) (n : ℕ) (w x : View) → same_side c b ≡ false → IsSearching v key (At s b) w
      → Told k w (SearchLoad s (part.Link c)) n x → IsSearching v key (At s b) x
  other s b c n w x apart i t = (stays (At s b) s (part.Link c) n w x i t (λ r. ap (λ z. cond z (linked_on r s b n) r)
      (ap (λ z. z && same_side c b) (eq-eqb s s refl) ∙ apart))).0

  pub needs_right : (s : ℕ) (b : Side) (n : ℕ) (w x : View) → IsSearching v key (At s b) w → Told k w (SearchLoad s (part.Link Left)) n x
      → IsSlot k s → IsAsked k x (SearchLoad s (part.Link Right))
  needs_right s Left n w x i t slot = dite (ℕ_discrete n 0)
      (λ none. asks_above (Missed s Left) (part.Link Right) x (missed s Left n w x none i t) slot)
      (λ some_slot. asks_above (Unread n s Left) (part.Link Right) x (reached s Left n w x some_slot i t) slot)
  needs_right s Right n w x i t slot = asks_above (At s Right) (part.Link Right) x (other s Right Left n w x refl i t) slot

  -- both links were loaded, and that of the side is empty, or leads on
  pub missed_by : (s : ℕ) (b : Side) (n : ℕ) (w x : View) → n ≡ 0 → IsSearching v key (At s b) w → LoadsLinks k w s b n x
      → IsSearching v key (Missed s b) x
  missed_by s Left n w x none i l = (stays (Missed s Left) s (part.Link Right) l.right l.between x
      (missed s Left l.left w l.between (l.link_is ∙ none) i l.left_told) l.right_told (λ r. refl)).0
  missed_by s Right n w x none i l = missed s Right l.right l.between x (l.link_is ∙ none)
      (other s Right Left l.left w l.between refl i l.left_told) l.right_told

  pub reached_by : (s : ℕ) (b : Side) (n : ℕ) (w x : View) → n ≢ 0 → IsSearching v key (At s b) w → LoadsLinks k w s b n x
      → IsSearching v key (Unread n s b) x
  reached_by s Left n w x some_slot i l = subst (λ z. IsSearching v key (Unread z s Left) x) l.link_is
      (stays (Unread l.left s Left) s (part.Link Right) l.right l.between x
      (reached s Left l.left w l.between (λ none. some_slot (sym l.link_is ∙ none)) i l.left_told) l.right_told (λ r. refl)).0
  reached_by s Right n w x some_slot i l = subst (λ z. IsSearching v key (Unread z s Right) x) l.link_is
      (reached s Right l.right l.between x (λ none. some_slot (sym l.link_is ∙ none))
      (other s Right Left l.left w l.between refl i l.left_told) l.right_told)

  pub needs_key : (s p : ℕ) (b : Side) (w : View) → IsSearching v key (Unread s p b) w → IsSlot k s → IsAsked k w (SearchLoad s part.Key)
  needs_key s p b w i slot = asks (Unread s p b) part.Key w i slot

  -- the key of the slot was loaded
  pub read : (s p : ℕ) (b : Side) (n : ℕ) (w x : View) (o : Option Side) → step_side key n ≡ o → IsSearching v key (Unread s p b) w
      → Told k w (SearchLoad s part.Key) n x → IsSearching v key (key_stand s p b o) x
  read s p b n w x None is i t =
      moved (Unread s p b) (Found s p b None) s part.Key n w x i t (record (noting_load i.reading (Key s) n) { state = Found s p b None })
      (key_moves i.reading s p b n i.state_is ∙ ap (λ z. record (noting_load i.reading (Key s) n) { state = key_stand s p b z })
      (ap (λ z. step_side z n) i.key_is ∙ is)) i.key_is refl i.no_walk i.here i.above
  read s p b n w x (Some c) is i t =
      moved (Unread s p b) (At s c) s part.Key n w x i t (record (noting_load i.reading (Key s) n) { state = At s c })
      (key_moves i.reading s p b n i.state_is ∙ ap (λ z. record (noting_load i.reading (Key s) n) { state = key_stand s p b z })
      (ap (λ z. step_side z n) i.key_is ∙ is)) i.key_is refl i.no_walk i.here i.here

  pub needs_value : (s p : ℕ) (b : Side) (w : View) → IsSearching v key (Found s p b None) w → IsSlot k s
      → IsAsked k w (SearchLoad s part.Value)
  needs_value s p b w i slot = asks (Found s p b None) part.Value w i slot

  pub valued : (s p : ℕ) (b : Side) (n : ℕ) (w x : View) → IsSearching v key (Found s p b None) w → Told k w (SearchLoad s part.Value) n x
      → IsSearching v key (Found s p b (Some n)) x
  valued s p b n w x i t =
      moved (Found s p b None) (Found s p b (Some n)) s part.Value n w x i t
      (record (noting_load i.reading (Value s) n) { state = Found s p b (Some n) })
      (value_moves i.reading s p b n i.state_is) i.key_is refl i.no_walk i.here i.above

  -- The value was loaded: the dictionary gave it by then, and the section stays open.
  pub held : (s p : ℕ) (b : Side) (n : ℕ) (w x : View) → IsSearching v key (Found s p b None) w → Told k w (SearchLoad s part.Value) n x
      → IsHolding v key n x
  held s p b n w x i t =
      let j = valued s p b n w x i t in
      let e = j.entered in
      let u : View = noted w (SearchLoad s part.Value) n in
      let goes : x ≡ after_search_load u (section_of u) (Value s) n = t.goes in
      record {
        slot = s;
        parent = p;
        side = b;
        found = j;
        marks = t.marks;
        sees = subst (λ z. Sees z t.marks) (sym goes) (record { works = t.sees.works; begins = t.sees.begins; own = t.sees.own });
        said = subst (λ (z : ℕ × ℕ). WasSaid (updates_of t.marks) z.0 z.1 (Some n)) (λ l. (e.key_is l, e.from_is l))
            ((t.gains.answer _ j.inside).present s p n b e.no_list j.state_is);
      }

  -- a section is open
  pub in_section : (state : SearchState) (w : View) → IsSearching v key state w → (section : Section) × (w.section ≡ Some section)
  in_section state w i = (record i.entered.section { reading = i.reading }, i.inside)

  -- a search has read what its section has
  abbrev has_read : (state : SearchState) (w : View) → IsSearching v key state w → HasRead v key w
  has_read state w i = record {
    entry = i.entry;
    entered = i.entered;
    reading = i.reading;
    inside = i.inside;
    key_is = i.key_is;
    others = i.others;
    made = i.made;
  }

  -- the section that was left is the one that was entered
  pub read_section : (w x : View) (i : HasRead v key w) (l : HasLeft w x)
      → ◌≡◌ {A = Section} l.section (record i.entered.section { reading = i.reading })
  read_section w x i l = let one : Some l.section ≡ Some (record i.entered.section { reading = i.reading }) = sym l.was ∙ i.inside in cc

  section_is : (state : SearchState) (w x : View) (i : IsSearching v key state w) (l : HasLeft w x)
      → ◌≡◌ {A = Section} l.section (record i.entered.section { reading = i.reading })
  section_is state w x i l = read_section w x (has_read state w i) l

  no_list : (state : SearchState) (w x : View) (i : IsSearching v key state w) (l : HasLeft w x) → l.section.listing ≡ None
  no_list state w x i l = ap (λ (z : Section). z.listing) (section_is state w x i l) ∙ i.entered.no_list

  state_at : (state : SearchState) (w x : View) (i : IsSearching v key state w) (l : HasLeft w x) → l.section.reading.state ≡ state
  state_at state w x i l = ap (λ (z : Section). z.reading.state) (section_is state w x i l) ∙ i.state_is

  -- the section was left
  pub read_looked : (answer : Option ℕ) (w x : View) (i : HasRead v key w) (l : HasLeft w x)
      → WasSaid (updates_of x.seen) l.section.key l.section.from answer → (l : Looked v key answer x) × (l.reading ≡ i.reading)
  read_looked answer w x i l said =
      let e = i.entered in
      let same : ◌≡◌ {A = Section} l.section (record e.section { reading = i.reading }) = read_section w x i l in
      let place : w.allowance.place ≡ v.allowance.place =
      ap (λ (z : View). z.allowance.place) i.others ∙ ap (λ (z : View). z.allowance.place) e.others in
      let count : l.section.count ≡ v.counts.sections = ap (λ (z : Section). z.count) same ∙ e.count_is in
      let entered : Mark = Entered v.allowance.place v.counts.sections key in
      let marked : w.seen ≡ e.leaves.before ++ entered ∷ [] = ap (λ (z : View). z.seen) i.others ∙ e.leaves.marked in
      let own : own_of w.allowance.place w.seen ≡ own_of w.allowance.place l.leaves.before =
      l.leaves.seen.own w.allowance.place (works_there w l.leaves.seen.works) in (
        record {
          before = e.leaves.before;
          until = l.leaves.before;
          sees = e.leaves.seen;
          within = subst (λ z. IsPrefix z l.leaves.before) marked l.leaves.seen.begins;
          between = subst (λ p. own_of p l.leaves.before ≡ own_of p w.seen) place (sym own) ∙ ap (own_of v.allowance.place) marked
              ∙ own_of-append v.allowance.place e.leaves.before (entered ∷ [])
              ∙ ap (λ b. own_of v.allowance.place e.leaves.before ++ cond b (entered ∷ []) [])
              (eq-eqb v.allowance.place v.allowance.place refl);
          seen = l.leaves.marked ∙ (λ j. l.leaves.before ++ LeftMark (place j) (count j) ∷ []);
          said = subst (λ (z : ℕ × ℕ). WasSaid (updates_of x.seen) z.0 z.1 answer)
              (λ j. ((ap (λ (z : Section). z.key) same ∙ e.key_is) j, (ap (λ (z : Section). z.from) same ∙ e.from_is) j)) said;
          made = made_both is_of_lookup is_exit is_of_lookup (λ kind is. is) exit_is v.trail w.trail x.trail
              (made_both is_entry is_load is_of_lookup entry_is load_is v.trail i.entry.trail w.trail e.made i.made) l.made;
          reading = i.reading;
          sought = i.key_is;
          others = l.others ∙ (λ j. record (i.others j)
              { enter = x.enter; section = None; records = (same j).reading ∷ (i.others j).records; trail = x.trail; seen = x.seen })
              ∙ (λ j. record (e.others j) {
                enter = x.enter;
                section = None;
                records = i.reading ∷ (e.others j).records;
                trail = x.trail;
                seen = x.seen;
              });
          informed = l.informed;
        },
        refl,
      )

  looked : (state : SearchState) (answer : Option ℕ) (w x : View) (i : IsSearching v key state w) (l : HasLeft w x)
      → WasSaid (updates_of x.seen) l.section.key l.section.from answer → (l : Looked v key answer x) × (l.reading ≡ i.reading)
  looked state answer w x i l said = read_looked answer w x (has_read state w i) l said

  -- by what the search came to
  pub looked_missed_as : (s : ℕ) (b : Side) (w x : View) (i : IsSearching v key (Missed s b) w) → HasLeft w x
      → (l : Looked v key None x) × (l.reading ≡ i.reading)
  looked_missed_as s b w x i l = looked (Missed s b) None w x i l
      (l.answer.absent s b (no_list (Missed s b) w x i l) (state_at (Missed s b) w x i l))

  pub looked_missed : (s : ℕ) (b : Side) (w x : View) → IsSearching v key (Missed s b) w → HasLeft w x → Looked v key None x
  looked_missed s b w x i l = (looked_missed_as s b w x i l).0

  pub looked_found : (s p value : ℕ) (b : Side) (w x : View) → IsSearching v key (Found s p b (Some value)) w → HasLeft w x
      → Looked v key (Some value) x
  looked_found s p value b w x i l = (looked (Found s p b (Some value)) (Some value) w x i l
      (l.answer.present s p value b (no_list (Found s p b (Some value)) w x i l) (state_at (Found s p b (Some value)) w x i l))).0

  -- where no value was loaded, there was one
  pub looked_there_as : (s p : ℕ) (b : Side) (w x : View) (i : IsSearching v key (Found s p b None) w) → HasLeft w x
      → (value : ℕ) × ((l : Looked v key (Some value) x) × (l.reading ≡ i.reading))
  looked_there_as s p b w x i l =
      let state : SearchState = Found s p b None in
      let same = section_is (Found s p b None) w x i l in
      let said = l.answer.there s p b (no_list (Found s p b None) w x i l) (state_at (Found s p b None) w x i l)
      (subst (λ (z : Section). IsIn z.reading.stood s) (sym same) i.here)
      (subst (λ (z : Section). z.reading.key ≡ z.key) (sym same) (i.key_is ∙ sym i.entered.key_is)) in
      (said.0, looked (Found s p b None) (Some said.0) w x i l said.1)

  -- a search that found its key loads the life of the slot
  found_aged : (s p : ℕ) (b : Side) (value : Option ℕ) (life : ℕ) (w x : View) (i : IsSearching v key (Found s p b value) w)
      → Told k w (SearchLoad s part.Life) life x → (j : IsSearching v key (Found s p b value) x)
      × (j.reading ≡ noting_load i.reading (Life s) life)
  found_aged s p b value life w x i t = stays (Found s p b value) s part.Life life w x i t (λ r. refl)

  -- The life was loaded last, and the section left: the slot that has the key, with its generation then.
  abbrev aged_holder : (s p : ℕ) (b : Side) (value : Option ℕ) (old life generation : ℕ) (r : Reading) (x y : View) → IsSlot k s
      → (j : IsSearching v key (Found s p b value) x) → j.reading ≡ noting_load r (Life s) life → (l : Looked v key (Some old) y)
      → l.reading ≡ j.reading → generation ≡ life / 2 → FoundHolder k v key (record { slot = s; generation = generation }) y
  aged_holder s p b value old life generation r x y slot j loaded l same half = record {
    old = old;
    looked = l;
    parent = p;
    side = b;
    value = value;
    state_is = ap (λ (z : Reading). z.state) same ∙ j.state_is;
    generation_is = (
      life,
      ap (λ (z : Reading). known_in z.loads (Life s)) (same ∙ loaded)
          ∙ ap (λ q. cond q (Some life) (known_in r.loads (Life s))) (eq-eqb s s refl),
      half,
    );
    slot_is = slot;
  }

  pub sought : (s p : ℕ) (b : Side) (life generation : ℕ) (w x y : View) → IsSlot k s → IsSearching v key (Found s p b None) w
      → Told k w (SearchLoad s part.Life) life x → HasLeft x y → generation ≡ life / 2
      → Sought k v key (Some (record { slot = s; generation = generation })) y
  sought s p b life generation w x y slot i t left half =
      let j = found_aged s p b None life w x i t in
      let l = looked_there_as s p b x y j.0 left in
      aged_holder s p b None l.0 life generation i.reading x y slot j.0 j.1 l.1.0 l.1.1 half

  -- the same where the value was loaded before the life
  pub needs_valued_life : (s p : ℕ) (b : Side) (value : ℕ) (w u : View) → IsSlot k s → IsSearching v key (Found s p b None) w
      → Told k w (SearchLoad s part.Value) value u → IsAsked k u (SearchLoad s part.Life)
  needs_valued_life s p b value w u slot i t = asks (Found s p b (Some value)) part.Life u (valued s p b value w u i t) slot

  pub sought_value : (s p : ℕ) (b : Side) (value life generation : ℕ) (w u x y : View) → IsSlot k s → IsSearching v key (Found s p b None) w
      → Told k w (SearchLoad s part.Value) value u → Told k u (SearchLoad s part.Life) life x → HasLeft x y → generation ≡ life / 2
      → SoughtValue k v key (Some (record { holder = record { slot = s; generation = generation }; value = value })) y
  sought_value s p b value life generation w u x y slot i first second left half =
      let found = valued s p b value w u i first in
      let j = found_aged s p b (Some value) life u x found second in
      let l = looked (Found s p b (Some value)) (Some value) x y j.0 left
      (left.answer.present s p value b (no_list (Found s p b (Some value)) x y j.0 left)
      (state_at (Found s p b (Some value)) x y j.0 left)) in
      (aged_holder s p b (Some value) value life generation found.reading x y slot j.0 j.1 l.0 l.1 half, refl)

  module _ (s : ℕ) (b : Side) (w : View) (i : IsSearching v key (Missed s b) w) (slot : IsSlot k s) where
    pub needs_tag : IsAsked k w (SearchLoad s (part.Tag b))
    needs_tag = asks (Missed s b) (part.Tag b) w i slot

    module _ (tag : ℕ) (x : View) (first : Told k w (SearchLoad s (part.Tag b)) tag x) where
      tagged : (j : IsSearching v key (Missed s b) x) × (j.reading ≡ noting_load i.reading (Tag s b) tag)
      tagged = stays (Missed s b) s (part.Tag b) tag w x i first (λ r. refl)

      pub needs_life : IsAsked k x (SearchLoad s part.Life)
      needs_life = asks (Missed s b) part.Life x tagged.0 slot

      module _ (life : ℕ) (y : View) (second : Told k x (SearchLoad s part.Life) life y) where
        aged : (j : IsSearching v key (Missed s b) y) × (j.reading ≡ noting_load tagged.0.reading (Life s) life)
        aged = stays (Missed s b) s part.Life life x y tagged.0 second (λ r. refl)

        pub still_inside : (section : Section) × (y.section ≡ Some section)
        still_inside = in_section (Missed s b) y aged.0

        both : aged.0.reading ≡ noting_load (noting_load i.reading (Tag s b) tag) (Life s) life
        both = aged.1 ∙ ap (λ z. noting_load z (Life s) life) tagged.1

        pub finished : (generation : ℕ) (z : View) → generation ≡ life / 2 → HasLeft y z
            → (l : Looked v key None z) × Records l.reading (record { slot = s; side = b; generation = generation; tag = tag })
        finished generation z half left =
            let l = looked_missed_as s b y z aged.0 left in (
              l.0,
              subst (λ r. Records r (record { slot = s; side = b; generation = generation; tag = tag })) (sym l.1) (record {
                state_is = aged.0.state_is;
                generation_is = (
                  life,
                  ap (λ r. known_in r.loads (Life s)) both
                      ∙ ap (λ q. cond q (Some life) (known_in (record { field = Tag s b; number = tag; stored = false } ∷ i.reading.loads)
                      (Life s))) (eq-eqb s s refl),
                  half,
                );
                tag_is = ap (λ r. known_in r.loads (Tag s b)) both
                    ∙ ap (λ q. cond q (Some tag) (known_in i.reading.loads (Tag s b)))
                    (ap (λ q. q && same_side b b) (eq-eqb s s refl) ∙ side_self b);
              }),
            )

-- What a hop makes of where a search stands, and what its end is told.

module _ (k : Shape) (key : ℕ) (last : Hop) (s : ℕ) (b : Side) (w : View) (is_moved : last ≡ hop.Moved) where
  pub stands_at_link : (v : View) → Stands k v key last s b w → Stands k v key hop.Moved s b w
  stands_at_link v stands = subst (λ z. Stands k v key z s b w) is_moved stands

  pub link_slot : (v : View) × Stands k v key last s b w → IsSlot k s
  link_slot stands = (stands_at_link stands.0 stands.1).0

  module _ (x : View) where
    pub hop_moved : (c : ℕ) (d : Side) → IsSlot k c → ((v : View) → IsSearching v key (at.At s b) w → IsSearching v key (at.At c d) x)
        → (v : View) → Stands k v key last s b w → Stands k v key last c d x
    hop_moved c d slot on v stands = subst (λ z. Stands k v key z c d x) (sym is_moved) (slot, on v (stands_at_link v stands).1)

    pub hop_found : (c : ℕ) → IsSlot k c → ((v : View) → IsSearching v key (at.At s b) w → IsSearching v key (at.Found c s b None) x)
        → (v : View) → Stands k v key last s b w → Stands k v key (hop.Found c) c b x
    hop_found c slot on v stands = (refl, slot, (s, b, on v (stands_at_link v stands).1))

    pub hop_ended : ((v : View) → IsSearching v key (at.At s b) w → IsSearching v key (at.Missed s b) x) → (v : View)
        → Stands k v key last s b w → Stands k v key (hop.Ended s b) s b x
    hop_ended on v stands = (refl, refl, (stands_at_link v stands).0, on v (stands_at_link v stands).1)

-- the end of a search that found its key
module _ (k : Shape) (key : ℕ) (last : Hop) (s : ℕ) (b : Side) (w : View) (c : ℕ) (is : last ≡ hop.Found c) (value : ℕ) (x : View)
    (t : Told k w (SearchLoad c part.Value) value x) (v : View) (stands : Stands k v key last s b w) where
  at_found : Stands k v key (hop.Found c) s b w
  at_found = subst (λ z. Stands k v key z s b w) is stands

  with_value : IsSearching v key (at.Found c at_found.2.0 at_found.2.1 (Some value)) x
  with_value = valued k v key c at_found.2.0 at_found.2.1 value w x at_found.2.2 t

  pub found_finished : (y : View) → HasLeft x y → Looked v key (Some value) y
  found_finished y left = looked_found k v key c at_found.2.0 value at_found.2.1 x y with_value left

-- and of one that ended at an empty side
module _ (k : Shape) (key : ℕ) (last : Hop) (s : ℕ) (b : Side) (w : View) (c : ℕ) (d : Side) (is : last ≡ hop.Ended c d) where
  pub at_ended : (v : View) → Stands k v key last s b w → IsSearching v key (at.Missed c d) w
  at_ended v stands = (subst (λ z. Stands k v key z s b w) is stands).3

-- What a step down makes of where a search stands.

-- the loads of the two links
module _ (k : Shape) (s : ℕ) (b : Side) (w : View) (slot : IsSlot k s) (i : (v : View) × (key : ℕ) × IsSearching v key (at.At s b) w) where
  pub may_load_left : IsAsked k w (SearchLoad s (part.Link Left))
  may_load_left = needs_left k i.0 i.1 s b w i.2 slot

  pub may_load_right : (n : ℕ) (u : View) → Told k w (SearchLoad s (part.Link Left)) n u → IsAsked k u (SearchLoad s (part.Link Right))
  may_load_right n u t = needs_right k i.0 i.1 s b n w u i.2 t slot

module _ (k : Shape) (key s : ℕ) (b : Side) (w : View) (n : ℕ) (u : View) (l : LoadsLinks k w s b n u) where
  pub ended_at : n ≡ 0 → (v : View) → IsSearching v key (at.At s b) w → IsSearching v key (at.Missed s b) u
  ended_at none v i = missed_by k v key s b n w u none i l

  on : n ≢ 0 → (v : View) → IsSearching v key (at.At s b) w → IsSearching v key (at.Unread n s b) u
  on some_slot v i = reached_by k v key s b n w u some_slot i l

  pub slot_on : n ≢ 0 → (v : View) × IsSearching v key (at.At s b) w → IsSlot k n
  slot_on some_slot i = slot_at k i.0 key (at.Unread n s b) s (part.Link Right) l.right l.between u (on some_slot i.0 i.1) l.right_told

  -- The link of the side is the number of a slot, or 0, so its lower half is all of it.
  pub link_fits : (v : View) × IsSearching v key (at.At s b) w → n < 4294967296
  link_fits i = dite (ℕ_discrete n 0) (λ none. omega (arith, none)) (λ some_slot. (slot_on some_slot i).fits)

  pub may_read : n ≢ 0 → (v : View) × IsSearching v key (at.At s b) w → IsAsked k u (SearchLoad n part.Key)
  may_read some_slot i = needs_key k i.0 key n s b u (on some_slot i.0 i.1) (slot_on some_slot i)

  module _ (there : ℕ) (x : View) (second : Told k u (SearchLoad n part.Key) there x) where
    pub found_at : n ≢ 0 → step_side key there ≡ None → (v : View) → IsSearching v key (at.At s b) w
        → IsSearching v key (at.Found n s b None) x
    found_at some_slot is v i = read k v key n s b there u x None is (on some_slot v i) second

    pub moved_on : (next : Side) → n ≢ 0 → step_side key there ≡ Some next → (v : View) → IsSearching v key (at.At s b) w
        → IsSearching v key (at.At n next) x
    moved_on next some_slot is v i = read k v key n s b there u x (Some next) is (on some_slot v i) second

-- both links, one after the other
pub both_loaded : (k : Shape) (v u w : View) (s : ℕ) (b : Side) (left right n : ℕ) → Told k v (SearchLoad s (part.Link Left)) left u
    → Told k u (SearchLoad s (part.Link Right)) right w → link_on b left right ≡ n → LoadsLinks k v s b n w
both_loaded k v u w s b left right n first second is =
    record { left = left; right = right; between = u; left_told = first; right_told = second; link_is = is }

halves : (b : Side) (left right : ℕ) → link_on b (left % 4294967296) (right % 4294967296) ≡ link_on b left right % 4294967296
halves Left left right = refl
halves Right left right = refl

-- of the lower halves of two links that of the side, which is all of that link
pub half_on : (k : Shape) (key s : ℕ) (b : Side) (w : View) (left right : ℕ) (u : View) → LoadsLinks k w s b (link_on b left right) u
    → (v : View) × IsSearching v key (at.At s b) w → link_on b left right ≡ link_on b (left % 4294967296) (right % 4294967296)
half_on k key s b w left right u l i =
    sym (halves b left right ∙ mod-eq_of_lt (link_fits k key s b w (link_on b left right) u l i))

-- How many steps a search makes: three for each slot at which it stands, and it stands at no slot twice.

-- A section that was entered stands at the root.
pub entered_met : {v w : View} {key : ℕ} → HasEntered v key w → slots_met w ≡ 1
entered_met {v} {w} {key} e = ap slots_in e.inside ∙ ap (λ (r : Reading). length r.stood) e.reading_is

pub entered_pace : {waiter : Waiter} {v w : View} {key : ℕ} → EntersBy waiter v key w → HasEntered v key w → KeepsPace v w
entered_pace {waiter} {v} {w} {key} steps e =
    let few = entry_few steps in
    let met = entered_met e in
    record { pace = omega (arith, few, met) }

module _ (k : Shape) (v : View) (key : ℕ) where
  met : (state : SearchState) (w : View) (i : IsSearching v key state w) → slots_met w ≡ length i.reading.stood
  met state w i = ap slots_in i.inside

  -- a load, after which what it found out is known
  loaded_met : (state : SearchState) (s : ℕ) (p : Part) (n : ℕ) (w x : View) (i : IsSearching v key state w) → Told k w (SearchLoad s p) n x
      → (r : Reading) → loaded i.reading (in_slot s p) n ≡ r → slots_met x ≡ length r.stood
  loaded_met state s p n w x i t r is =
      ap slots_met (t.goes ∙ ap (λ z. after_search_load (noted w (SearchLoad s p) n) z (in_slot s p) n) (opened w _ i.inside))
      ∙ ap (λ (z : Reading). length z.stood) is

  -- a load that moves the search nowhere
  stays_met : (state : SearchState) (s : ℕ) (p : Part) (n : ℕ) (w x : View) → IsSearching v key state w → Told k w (SearchLoad s p) n x
      → ((r : Reading) → searched r state (in_slot s p) n ≡ r) → slots_met x ≡ slots_met w
  stays_met state s p n w x i t nowhere =
      let r : Reading = noting_load i.reading (in_slot s p) n in
      let there = loaded_met state s p n w x i t r (ap (λ z. searched r z (in_slot s p) n) i.state_is ∙ nowhere r) in
      let here = met state w i in
      omega (arith, there, here)

  -- the other link
  other_met : (s : ℕ) (b c : Side) (n : ℕ) (w x : View) → same_side c b ≡ false → IsSearching v key (At s b) w
      → Told k w (SearchLoad s (part.Link c)) n x → slots_met x ≡ slots_met w
  other_met s b c n w x apart i t = stays_met (At s b) s (part.Link c) n w x i t (λ r. ap (λ z. cond z (linked_on r s b n) r)
      (ap (λ z. z && same_side c b) (eq-eqb s s refl) ∙ apart))

  -- the link of the side is empty, or leads to a slot more
  none_met : (s : ℕ) (b : Side) (n : ℕ) (w x : View) → n ≡ 0 → IsSearching v key (At s b) w → Told k w (SearchLoad s (part.Link b)) n x
      → slots_met x ≡ slots_met w
  none_met s b n w x none i t =
      let r : Reading = noting_load i.reading (Link s b) n in
      let there = loaded_met (At s b) s (part.Link b) n w x i t (record r { state = Missed s b }) (link_moves i.reading s b n i.state_is
      ∙ ap (λ z. cond z (record r { state = Missed s b }) (record r { state = Unread n s b; stood = n ∷ r.stood })) (eq-eqb n 0 none)) in
      let here = met (At s b) w i in
      omega (arith, there, here)

  one_met : (s : ℕ) (b : Side) (n : ℕ) (w x : View) → n ≢ 0 → IsSearching v key (At s b) w → Told k w (SearchLoad s (part.Link b)) n x
      → slots_met x ≡ slots_met w + 1
  one_met s b n w x some_slot i t =
      let r : Reading = noting_load i.reading (Link s b) n in
      let there = loaded_met (At s b) s (part.Link b) n w x i t (record r { state = Unread n s b; stood = n ∷ r.stood })
      (link_moves i.reading s b n i.state_is
      ∙ ap (λ z. cond z (record r { state = Missed s b }) (record r { state = Unread n s b; stood = n ∷ r.stood })) (ne_eqb n 0 some_slot)) in
      let here = met (At s b) w i in
      omega (arith, there, here)

  -- both links
  both_none : (s : ℕ) (b : Side) (n : ℕ) (w x : View) → n ≡ 0 → IsSearching v key (At s b) w → LoadsLinks k w s b n x
      → slots_met x ≡ slots_met w
  both_none s Left n w x none i l =
      stays_met (Missed s Left) s (part.Link Right) l.right l.between x
      (missed k v key s Left l.left w l.between (l.link_is ∙ none) i l.left_told) l.right_told (λ r. refl)
      ∙ none_met s Left l.left w l.between (l.link_is ∙ none) i l.left_told
  both_none s Right n w x none i l = none_met s Right l.right l.between x (l.link_is ∙ none)
      (other k v key s Right Left l.left w l.between refl i l.left_told) l.right_told
      ∙ other_met s Right Left l.left w l.between refl i l.left_told

  both_one : (s : ℕ) (b : Side) (n : ℕ) (w x : View) → n ≢ 0 → IsSearching v key (At s b) w → LoadsLinks k w s b n x
      → slots_met x ≡ slots_met w + 1
  both_one s Left n w x some_slot i l =
      let some_left : l.left ≢ 0 = λ none. some_slot (sym l.link_is ∙ none) in
      stays_met (Unread l.left s Left) s (part.Link Right) l.right l.between x
      (reached k v key s Left l.left w l.between some_left i l.left_told) l.right_told (λ r. refl)
      ∙ one_met s Left l.left w l.between some_left i l.left_told
  both_one s Right n w x some_slot i l =
      let last = one_met s Right l.right l.between x (λ none. some_slot (sym l.link_is ∙ none))
      (other k v key s Right Left l.left w l.between refl i l.left_told) l.right_told in
      let first = other_met s Right Left l.left w l.between refl i l.left_told in
      omega (arith, first, last)

  -- the key of the slot
  key_met : (s p : ℕ) (b : Side) (n : ℕ) (w x : View) → IsSearching v key (Unread s p b) w → Told k w (SearchLoad s part.Key) n x
      → slots_met x ≡ slots_met w
  key_met s p b n w x i t =
      let r : Reading = noting_load i.reading (Key s) n in
      let there = loaded_met (Unread s p b) s part.Key n w x i t (record r { state = key_stand s p b (step_side r.key n) })
      (key_moves i.reading s p b n i.state_is) in
      let here = met (Unread s p b) w i in
      omega (arith, there, here)

  -- a search stands at no more slots than there are
  few_met : (state : SearchState) (s : ℕ) (p : Part) (n : ℕ) (w x : View) → IsSearching v key state x → Told k w (SearchLoad s p) n x
      → AreFew k (slots_met x)
  few_met state s p n w x i t =
      let few = t.stood.few _ i.inside in
      let here = met state x i in
      let inside = few.inside in
      let fits = few.fits in
      record { inside = omega (arith, inside, here); fits = omega (arith, fits, here) }

-- what a step down costs
module _ (k : Shape) (key s : ℕ) (b : Side) (w : View) (n : ℕ) (u : View) (l : LoadsLinks k w s b n u) (v : View)
    (i : IsSearching v key (At s b) w) where
  links_once : length u.trail.steps ≡ length w.trail.steps + 2
  links_once = let left = told_once l.left_told in let right = told_once l.right_told in omega (arith, left, right)

  pub ended_costs : n ≡ 0 → Costs k w step.Ended u
  ended_costs none =
      let steps = links_once in
      let met = both_none k v key s b n w u none i l in
      record {
        loads = omega (arith, steps);
        met = omega (arith, met);
        few = few_met k v key (Missed s b) s (part.Link Right) l.right l.between u (missed_by k v key s b n w u none i l) l.right_told;
      }

  module _ (there : ℕ) (x : View) (t : Told k u (SearchLoad n part.Key) there x) (some_slot : n ≢ 0) where
    went_costs : (state : SearchState) (to : Step) → slots_of to ≡ 1 → IsSearching v key state x → Costs k w to x
    went_costs state to one j =
        let steps = links_once in
        let key_step = told_once t in
        let met = both_one k v key s b n w u some_slot i l in
        let key_met = key_met k v key n s b there u x (reached_by k v key s b n w u some_slot i l) t in
        record {
          loads = omega (arith, steps, key_step, one);
          met = omega (arith, met, key_met, one);
          few = few_met k v key state n part.Key there u x j t;
        }

    pub found_costs : step_side key there ≡ None → Costs k w (step.Found n) x
    found_costs is = went_costs (key_stand n s b None) (step.Found n) refl
        (read k v key n s b there u x None is (reached_by k v key s b n w u some_slot i l) t)

    pub moved_costs : (next : Side) → step_side key there ≡ Some next → Costs k w (step.Moved n next) x
    moved_costs next is = went_costs (key_stand n s b (Some next)) (step.Moved n next) refl
        (read k v key n s b there u x (Some next) is (reached_by k v key s b n w u some_slot i l) t)
