-- Loads in a section, one after another, and what they find out.
use Rattle.std.proofs.Common.{◌≡◌, ◌≢◌, ◌/◌, ℕ, ◌+◌, ◌&&◌, cond, true, false, List, [], ◌∷◌, ◌++◌, length, arith, Some, None, refl, sym, ap, subst, ◌∙◌, eq-eqb, ne_eqb, append_assoc}
use mathlib.Core.List.{IsPrefix}
use Rattle.prcu_marks.specs.declared.mark.Mark.{Mark}
use Rattle.prcu_marks.specs.declared.mark.Mark.TheVariants.{Entered, Left as LeftMark}
use Rattle.prcu_marks.specs.declared.mark.Side.{Side}
use Rattle.prcu_marks.specs.declared.mark.Side.TheVariants.{Right}
use Rattle.prcu_marks.specs.Marks.{own_of}
use Rattle.prcu_marks.proofs.Marks.{own_of-append}
use Rattle.core_state.specs.declared.shape.Shape.{Shape}
use Rattle.core_state.specs.declared.words.Field.{Field}
use Rattle.core_state.specs.declared.words.Field.TheVariants.{Life, Key, Link}
use Rattle.core_state.specs.declared.words.Kind.TheVariants as kinds
use Rattle.core_state.specs.declared.view.Known.{Known}
use Rattle.core_state.specs.declared.view.Reading.{Reading}
use Rattle.core_state.specs.declared.view.Section.{Section}
use Rattle.core_state.specs.declared.view.SearchState.{SearchState}
use Rattle.core_state.specs.declared.view.SearchState.TheVariants.{At, Unread, Missed}
use Rattle.core_state.specs.declared.view.View.{View}
use Rattle.core_state.specs.Memory.{step_side, same_side}
use Rattle.core_state.specs.Steps.{key_stand, linked_on, searched, loaded, after_search_load, fresh_reading}
use Rattle.core_state.specs.Views.{known_in}
use Rattle.core_frames.proofs.Roles.{works_there}
use Rattle.core_frames.proofs.Views.{side_self}
use Rattle.core_state.specs.declared.act.Act.TheVariants.{SearchLoad}
use Rattle.core_state.specs.declared.act.Part.{Part}
use Rattle.core_state.specs.Acts.{in_slot, noted}
use Rattle.core_laws.proofs.Acting.{part_word, section_is as opened, may_search}
use Rattle.list_laws.specs.Counts.{IsIn}
use Rattle.seat_table.specs.Gains.{IsSlot, IsAsked, Told}
use Rattle.seat_table.specs.Sections.{is_entry, is_exit, HasEntered, HasLeft}
use Rattle.seat_table.specs.Seats.{SeatAt, IsQuietSeat}
use Rattle.seat_table.proofs.SeveralSteps.{made_none, made_more, made_both}
use Rattle.seat_table.proofs.Seats.{still_quiet}
use Rattle.tree_points.proofs.Locks.{allowed, further_by}
use Rattle.prcu_model.proofs.ListFacts.{prefix_trans}
use Rattle.citrus_tree.specs.Hops.{slots_in, slots_met}
use Rattle.citrus_tree.specs.Going.{Goes}
use Rattle.core_laws.proofs.Searches.{in_more}
use Rattle.citrus_tree.specs.Lookups.{is_load, is_of_lookup}
use Rattle.citrus_tree.proofs.Searching.{load_is, entry_is, exit_is, root_is}
use Rattle.tree_lift.specs.declared.finding.Child.{Child}
use Rattle.tree_lift.specs.declared.finding.Stand.{Stand}
use Rattle.tree_lift.specs.declared.finding.Crossing.{Crossing}
use Rattle.tree_lift.specs.Ways.{rises, IsAtEnd, IsReading, HasRead, IsLevel, IsLevelWay, keys_in, went_down, StandsBy, StandsAt, IsCrossing, RecordsTurn, Starts}

-- one load more
abbrev pub noted_load : Reading → Field → ℕ → Reading
noted_load r field n = record r { loads = record { field = field; number = n; stored = false } ∷ r.loads }

-- A link that is 0, a link that leads to a slot, and that slot's key, where the search stands at the link.
pub ended_is : (r : Reading) (s : ℕ) (b : Side) → r.state ≡ At s b
    → loaded r (Link s b) 0 ≡ record (noted_load r (Link s b) 0) { state = Missed s b }
ended_is r s b e =
    let r' : Reading = noted_load r (Link s b) 0 in
    ap (λ z. searched r' z (Link s b) 0) e
    ∙ ap (λ z. cond z (linked_on r' s b 0) r') (ap (λ z. z && same_side b b) (eq-eqb s s refl) ∙ side_self b)

linked_is : (r : Reading) (s : ℕ) (b : Side) (n : ℕ) → r.state ≡ At s b → n ≢ 0
    → loaded r (Link s b) n ≡ record (noted_load r (Link s b) n) { state = Unread n s b; stood = n ∷ r.stood }
linked_is r s b n e some =
    let r' : Reading = noted_load r (Link s b) n in
    ap (λ z. searched r' z (Link s b) n) e
    ∙ ap (λ z. cond z (linked_on r' s b n) r') (ap (λ z. z && same_side b b) (eq-eqb s s refl) ∙ side_self b)
    ∙ ap (λ z. cond z (record r' { state = Missed s b }) (record r' { state = Unread n s b; stood = n ∷ r.stood })) (ne_eqb n 0 some)

keyed_is : (r : Reading) (s p : ℕ) (b : Side) (n : ℕ) → r.state ≡ Unread s p b
    → loaded r (Key s) n ≡ record (noted_load r (Key s) n) { state = key_stand s p b (step_side r.key n) }
keyed_is r s p b n e =
    let r' : Reading = noted_load r (Key s) n in
    ap (λ z. searched r' z (Key s) n) e
    ∙ ap (λ z. cond z (record r' { state = key_stand s p b (step_side r.key n) }) r') (eq-eqb s s refl)

abbrev pub stepped_down : Reading → ℕ → Side → Child → Reading
stepped_down r s b c = record (noted_load (noted_load r (Link s b) c.slot) (Key c.slot) c.key) {
  state = key_stand c.slot s b (step_side r.key c.key);
  stood = c.slot ∷ r.stood;
}

pub went_is : (r : Reading) (s : ℕ) (b : Side) (c : Child) → r.state ≡ At s b → c.slot ≢ 0 → went_down r s b c ≡ stepped_down r s b c
went_is r s b c e some =
    ap (λ z. loaded z (Key c.slot) c.key) (linked_is r s b c.slot e some)
    ∙ keyed_is (record (noted_load r (Link s b) c.slot) { state = Unread c.slot s b; stood = c.slot ∷ r.stood }) c.slot s b c.key refl

-- then it has stood at one slot more
pub went_met : {v w x : View} {key : ℕ} (r : Reading) (s : ℕ) (b : Side) (c : Child) → r.state ≡ At s b → c.slot ≢ 0 → IsReading v key r w
    → IsReading v key (went_down r s b c) x → slots_met x ≡ slots_met w + 1
went_met r s b c e some i j =
    let there = ap slots_in j.inside ∙ ap (λ (z : Reading). length z.stood) (went_is r s b c e some) in
    let here = ap slots_in i.inside in
    omega (arith, there, here)

-- and stands at that slot
pub stood_below : (r : Reading) (s : ℕ) (b : Side) (n : ℕ) → StandsBy s b r → n ≢ 0 → IsIn (loaded r (Link s b) n).stood n
stood_below r s b n by some = subst (λ (z : Reading). IsIn z.stood n) (sym (linked_is r s b n by.state_is some)) (0, refl)

-- a load of a life moves no search
life_moves_none : (r : Reading) (state : SearchState) (s n : ℕ) → searched r state (Life s) n ≡ r
life_moves_none r (At t b) s n = refl
life_moves_none r _ s n = refl

pub aged_is : (r : Reading) (s n : ℕ) → loaded r (Life s) n ≡ noted_load r (Life s) n
aged_is r s n = life_moves_none (noted_load r (Life s) n) r.state s n

module _ (k : Shape) (v : View) (key : ℕ) where
  -- a section was entered
  pub begun : (w : View) → HasEntered v key w → IsReading v key (fresh_reading key) w
  begun w e = record {
    entry = w;
    entered = e;
    inside = e.inside ∙ ap (λ z. Some (record e.section { reading = z })) e.reading_is;
    others = refl;
    made = made_none is_load w.trail;
  }

  module _ (r : Reading) (w : View) (i : IsReading v key r w) where
    pub asks : (s : ℕ) (p : Part) → IsIn r.stood s → IsSlot k s → IsAsked k w (SearchLoad s p)
    asks s p stood slot = λ now. (
      part_word k s p slot.inside,
      may_search w s p i.inside i.entered.no_list stood,
    )

    pub in_section : (section : Section) × (w.section ≡ Some section)
    in_section = (record i.entered.section { reading = r }, i.inside)

    module _ (s : ℕ) (p : Part) (n : ℕ) (x : View) (t : Told k w (SearchLoad s p) n x) where
      pub loads_on : IsReading v key (loaded r (in_slot s p) n) x
      loads_on =
          let u : View = noted w (SearchLoad s p) n in
          let r' : Reading = loaded r (in_slot s p) n in
          let goes : x ≡ record u { section = Some (record i.entered.section { reading = r' }) } =
          t.goes ∙ ap (λ z. after_search_load u z (in_slot s p) n) (opened w _ i.inside) in
          subst (IsReading v key r') (sym goes) (record {
            entry = i.entry;
            entered = i.entered;
            inside = refl;
            others = ap (λ (z : View). record z { section = Some (record i.entered.section { reading = r' }); trail = u.trail }) i.others;
            made = made_more is_load i.entry.trail w kinds.K17 (in_slot s p) n refl i.made;
          })

    -- where it stood is a slot of the table
    pub slot_at : (s : ℕ) → IsIn r.stood s → (s' : ℕ) (p : Part) (n : ℕ) (u : View) → Told k u (SearchLoad s' p) n w → IsSlot k s
    slot_at s there s' p n u t = t.stood.stood _ s i.inside there

    -- the section was left
    section_is : (x : View) (l : HasLeft w x) → ◌≡◌ {A = Section} l.section (record i.entered.section { reading = r })
    section_is x l = let one : Some l.section ≡ Some (record i.entered.section { reading = r }) = sym l.was ∙ i.inside in cc

    pub left : (x : View) → HasLeft w x → HasRead v key r x
    left x l =
        let e = i.entered in
        let same : ◌≡◌ {A = Section} l.section (record e.section { reading = r }) = section_is x l in
        let place : w.allowance.place ≡ v.allowance.place =
        ap (λ (z : View). z.allowance.place) i.others ∙ ap (λ (z : View). z.allowance.place) e.others in
        let count : l.section.count ≡ v.counts.sections = ap (λ (z : Section). z.count) same ∙ e.count_is in
        let entered : Mark = Entered v.allowance.place v.counts.sections key in
        let marked : w.seen ≡ e.leaves.before ++ entered ∷ [] = ap (λ (z : View). z.seen) i.others ∙ e.leaves.marked in
        let own : own_of w.allowance.place w.seen ≡ own_of w.allowance.place l.leaves.before =
        l.leaves.seen.own w.allowance.place (works_there w l.leaves.seen.works) in
        record {
          before = e.leaves.before;
          until = l.leaves.before;
          sees = e.leaves.seen;
          within = subst (λ z. IsPrefix z l.leaves.before) marked l.leaves.seen.begins;
          between = subst (λ p. own_of p l.leaves.before ≡ own_of p w.seen) place (sym own) ∙ ap (own_of v.allowance.place) marked
              ∙ own_of-append v.allowance.place e.leaves.before (entered ∷ [])
              ∙ ap (λ b. own_of v.allowance.place e.leaves.before ++ cond b (entered ∷ []) [])
              (eq-eqb v.allowance.place v.allowance.place refl);
          seen = l.leaves.marked ∙ (λ j. l.leaves.before ++ LeftMark (place j) (count j) ∷ []);
          made = made_both is_of_lookup is_exit is_of_lookup (λ kind is. is) exit_is v.trail w.trail x.trail
              (made_both is_entry is_load is_of_lookup entry_is load_is v.trail i.entry.trail w.trail e.made i.made) l.made;
          others = l.others ∙ (λ j. record (i.others j)
              { enter = x.enter; section = None; records = (same j).reading ∷ (i.others j).records; trail = x.trail; seen = x.seen })
              ∙ (λ j. record (e.others j) {
                enter = x.enter;
                section = None;
                records = r ∷ (e.others j).records;
                trail = x.trail;
                seen = x.seen;
              });
          informed = l.informed;
        }

-- Where the way starts: at the right of the root.
pub at_root : (key : ℕ) → StandsBy 0 Right (fresh_reading key)
at_root key = record { state_is = refl; stood = (0, refl) }

module _ (k : Shape) (key salt : ℕ) where
  -- at the first node
  pub starts_at : (c : Child) (turn : Side) → c.slot ≢ 0 → IsSlot k c.slot → step_side key c.key ≡ Some turn
      → StandsAt k key salt (record { parent = 0; side = Right; node = c.slot; key = c.key; turn = turn })
      (went_down (fresh_reading key) 0 Right c)
  starts_at c turn some slot goes =
      subst (StandsAt k key salt (record { parent = 0; side = Right; node = c.slot; key = c.key; turn = turn }))
      (sym (went_is (fresh_reading key) 0 Right c refl some))
      (record {
        sought = refl;
        state_is = ap (key_stand c.slot 0 Right) goes;
        parent_slot = root_is k;
        node_slot = slot;
        some_node = some;
        parent_stood = (1, refl);
        node_stood = (0, refl);
        link_is = refl;
        key_is = ap (λ z. cond z (Some c.key) None) (eq-eqb c.slot c.slot refl);
        goes_on = goes;
        above = [];
        keys = refl;
        level = tt;
      })

  -- there is none, or it has the key itself
  pub starts_empty : (v w : View) → IsReading v key (loaded (fresh_reading key) (Link 0 Right) 0) w → Starts k v key salt None w
  starts_empty v w i = (
    _,
    i,
    subst (IsLevelWay salt) (sym (ended_is (fresh_reading key) 0 Right refl)) (record { level = tt; ended = tt }),
  )

  pub starts_found : (v w : View) (c : Child) → c.slot ≢ 0 → step_side key c.key ≡ None
      → IsReading v key (went_down (fresh_reading key) 0 Right c) w → Starts k v key salt None w
  starts_found v w c some same i = (
    _,
    i,
    subst (IsLevelWay salt) (sym (went_is (fresh_reading key) 0 Right c refl some))
        (record { level = tt; ended = subst (λ side. IsAtEnd (key_stand c.slot 0 Right side)) (sym same) tt }),
  )

  module _ (at : Stand) (r : Reading) (i : StandsAt k key salt at r) where
    pub stands_by : StandsBy at.node at.turn r
    stands_by = record { state_is = i.state_is; stood = i.node_stood }

    -- the way ended here
    pub level_end : IsLevelWay salt (loaded r (Link at.node at.turn) 0)
    level_end = subst (IsLevelWay salt) (sym (ended_is r at.node at.turn i.state_is))
        (record { level = subst (IsLevel salt) (sym i.keys) i.level; ended = tt })

    module _ (c : Child) (some : c.slot ≢ 0) where
      went : went_down r at.node at.turn c ≡ stepped_down r at.node at.turn c
      went = went_is r at.node at.turn c i.state_is some

      level_more : rises salt c.key at.key ≡ false → IsLevel salt (keys_in (stepped_down r at.node at.turn c).loads)
      level_more none = subst (λ l. IsLevel salt (c.key ∷ l)) (sym i.keys) (none, i.level)

      pub level_found : rises salt c.key at.key ≡ false → step_side key c.key ≡ None → IsLevelWay salt (went_down r at.node at.turn c)
      level_found none same = subst (IsLevelWay salt) (sym went) (record {
        level = level_more none;
        ended = subst (λ side. IsAtEnd (key_stand c.slot at.node at.turn side)) (sym (ap (λ z. step_side z c.key) i.sought ∙ same)) tt;
      })

      module _ (slot : IsSlot k c.slot) where
        pub goes_below : (turn : Side) → rises salt c.key at.key ≡ false → step_side key c.key ≡ Some turn
            → StandsAt k key salt (record { parent = at.node; side = at.turn; node = c.slot; key = c.key; turn = turn })
            (went_down r at.node at.turn c)
        goes_below turn none goes =
            subst (StandsAt k key salt (record { parent = at.node; side = at.turn; node = c.slot; key = c.key; turn = turn })) (sym went)
            (record {
              sought = i.sought;
              state_is = ap (key_stand c.slot at.node at.turn) (ap (λ z. step_side z c.key) i.sought ∙ goes);
              parent_slot = i.node_slot;
              node_slot = slot;
              some_node = some;
              parent_stood = in_more r.stood c.slot at.node i.node_stood;
              node_stood = (0, refl);
              link_is = ap (λ z. cond z (Some c.slot) (known_in r.loads (Link at.node at.turn)))
                  (ap (λ z. z && same_side at.turn at.turn) (eq-eqb at.node at.node refl) ∙ side_self at.turn);
              key_is = ap (λ z. cond z (Some c.key) (known_in (noted_load r (Link at.node at.turn) c.slot).loads (Key c.slot)))
                  (eq-eqb c.slot c.slot refl);
              goes_on = goes;
              above = at.key ∷ i.above;
              keys = ap (λ l. c.key ∷ l) i.keys;
              level = (none, i.level);
            })

        pub crosses : rises salt c.key at.key ≡ true → IsCrossing k key salt (record { at = at; child = c }) (went_down r at.node at.turn c)
        crosses above = record { earlier = r; stands = i; child_slot = slot; some_child = some; is = refl; rises_above = above }

  module _ (c : Crossing) (r : Reading) (x : IsCrossing k key salt c r) where
    abbrev early : Reading
    early = x.earlier

    abbrev at : Stand
    at = c.at

    abbrev there : StandsAt k key salt c.at x.earlier
    there = x.stands

    r_is : r ≡ stepped_down early at.node at.turn c.child
    r_is = x.is ∙ went_is early at.node at.turn c.child there.state_is x.some_child

    stood_is : r.stood ≡ c.child.slot ∷ early.stood
    stood_is = ap (λ (z : Reading). z.stood) r_is

    pub parent_stood : IsIn r.stood at.parent
    parent_stood = subst (λ l. IsIn l at.parent) (sym stood_is) (in_more early.stood c.child.slot at.parent there.parent_stood)

    module _ (parent_life : ℕ) where
      abbrev first : Reading
      first = loaded r (Life at.parent) parent_life

      first_is : first ≡ noted_load r (Life at.parent) parent_life
      first_is = aged_is r at.parent parent_life

      pub node_stood : IsIn first.stood at.node
      node_stood = subst (λ (z : Reading). IsIn z.stood at.node) (sym first_is)
          (subst (λ l. IsIn l at.node) (sym stood_is) (in_more early.stood c.child.slot at.node there.node_stood))

      module _ (node_life : ℕ) where
        abbrev second : Reading
        second = loaded first (Life at.node) node_life

        second_is : second ≡ noted_load (noted_load r (Life at.parent) parent_life) (Life at.node) node_life
        second_is = aged_is first at.node node_life ∙ ap (λ z. noted_load z (Life at.node) node_life) first_is

        pub child_stood : IsIn second.stood c.child.slot
        child_stood = subst (λ (z : Reading). IsIn z.stood c.child.slot) (sym second_is)
            (subst (λ l. IsIn l c.child.slot) (sym stood_is) (0, refl))

        module _ (child_life : ℕ) where
          abbrev third : Reading
          third = loaded second (Life c.child.slot) child_life

          abbrev all_loads : List Known
          all_loads =
              record { field = Life c.child.slot; number = child_life; stored = false }
              ∷ (record { field = Life at.node; number = node_life; stored = false }
              ∷ (record { field = Life at.parent; number = parent_life; stored = false }
              ∷ (record { field = Key c.child.slot; number = c.child.key; stored = false }
              ∷ (record { field = Link at.node at.turn; number = c.child.slot; stored = false } ∷ early.loads))))

          loads_are : third.loads ≡ all_loads
          loads_are = ap (λ (z : Reading). z.loads) (aged_is second c.child.slot child_life
              ∙ ap (λ z. noted_load z (Life c.child.slot) child_life) (second_is
              ∙ ap (λ z. noted_load (noted_load z (Life at.parent) parent_life) (Life at.node) node_life) r_is))

          known_is : (field : Field) (n : ℕ) → known_in all_loads field ≡ Some n → known_in third.loads field ≡ Some n
          known_is field n e = ap (λ l. known_in l field) loads_are ∙ e

          -- where the three are apart
          module _ (node_apart : at.parent ≢ at.node) (child_apart : at.node ≢ c.child.slot) (child_off : c.child.slot ≢ at.parent) where
            skip : (a s n : ℕ) (ks : List Known) → a ≢ s
                → known_in (record { field = Life a; number = n; stored = false } ∷ ks) (Life s) ≡ known_in ks (Life s)
            skip a s n ks ne = ap (λ z. cond z (Some n) (known_in ks (Life s))) (ne_eqb a s ne)

            abbrev under_child : List Known
            under_child =
                record { field = Life at.node; number = node_life; stored = false }
                ∷ (record { field = Life at.parent; number = parent_life; stored = false }
                ∷ (record { field = Key c.child.slot; number = c.child.key; stored = false }
                ∷ (record { field = Link at.node at.turn; number = c.child.slot; stored = false } ∷ early.loads)))

            abbrev under_node : List Known
            under_node =
                record { field = Life at.parent; number = parent_life; stored = false }
                ∷ (record { field = Key c.child.slot; number = c.child.key; stored = false }
                ∷ (record { field = Link at.node at.turn; number = c.child.slot; stored = false } ∷ early.loads))

            abbrev under_key : List Known
            under_key = record { field = Link at.node at.turn; number = c.child.slot; stored = false } ∷ early.loads

            here : (s n : ℕ) (ks : List Known) → known_in (record { field = Life s; number = n; stored = false } ∷ ks) (Life s) ≡ Some n
            here s n ks = ap (λ z. cond z (Some n) (known_in ks (Life s))) (eq-eqb s s refl)

            child_known : known_in all_loads (Life c.child.slot) ≡ Some child_life
            child_known = here c.child.slot child_life under_child

            node_known : known_in all_loads (Life at.node) ≡ Some node_life
            node_known = skip c.child.slot at.node child_life under_child (λ e. child_apart (sym e))
                ∙ here at.node node_life under_node

            parent_known : known_in all_loads (Life at.parent) ≡ Some parent_life
            parent_known = skip c.child.slot at.parent child_life under_child child_off
                ∙ skip at.node at.parent node_life under_node (λ e. node_apart (sym e))
                ∙ here at.parent parent_life (record { field = Key c.child.slot; number = c.child.key; stored = false } ∷ under_key)

            link_known : known_in all_loads (Link at.parent at.side) ≡ Some at.node
            link_known = ap (λ z. cond z (Some c.child.slot) (known_in early.loads (Link at.parent at.side)))
                (ap (λ z. z && same_side at.turn at.side) (ne_eqb at.node at.parent (λ e. node_apart (sym e)))) ∙ there.link_is

            turn_known : known_in all_loads (Link at.node at.turn) ≡ Some c.child.slot
            turn_known = ap (λ z. cond z (Some c.child.slot) (known_in early.loads (Link at.node at.turn)))
                (ap (λ z. z && same_side at.turn at.turn) (eq-eqb at.node at.node refl) ∙ side_self at.turn)

            child_key_known : known_in all_loads (Key c.child.slot) ≡ Some c.child.key
            child_key_known = ap (λ z. cond z (Some c.child.key) (known_in under_key (Key c.child.slot))) (eq-eqb c.child.slot c.child.slot refl)

            node_key_known : known_in all_loads (Key at.node) ≡ Some at.key
            node_key_known = ap (λ z. cond z (Some c.child.key) (known_in under_key (Key at.node)))
                (ne_eqb c.child.slot at.node (λ e. child_apart (sym e))) ∙ there.key_is

            pub records_turn : (parent_generation node_generation child_generation : ℕ) → parent_generation ≡ parent_life / 2
                → node_generation ≡ node_life / 2 → child_generation ≡ child_life / 2
                → RecordsTurn k key salt (record {
                  parent = at.parent;
                  side = at.side;
                  node = at.node;
                  turn = at.turn;
                  child = c.child.slot;
                  parent_generation = parent_generation;
                  node_generation = node_generation;
                  child_generation = child_generation;
                }) third
            records_turn parent_generation node_generation child_generation parent_half node_half child_half = record {
              ages = record {
                three = record {
                  parent_slot = there.parent_slot;
                  node_slot = there.node_slot;
                  child_slot = x.child_slot;
                  node_apart = λ e. node_apart (sym e);
                  child_apart = λ e. child_apart (sym e);
                  child_off = child_off;
                  some_node = there.some_node;
                  some_child = x.some_child;
                };
                parent_age = (parent_life, known_is (Life at.parent) parent_life parent_known, parent_half);
                node_age = (node_life, known_is (Life at.node) node_life node_known, node_half);
                child_age = (child_life, known_is (Life c.child.slot) child_life child_known, child_half);
              };
              node_key = at.key;
              child_key = c.child.key;
              above = there.above;
              link_is = known_is (Link at.parent at.side) at.node link_known;
              node_key_is = known_is (Key at.node) at.key node_key_known;
              turn_is = known_is (Link at.node at.turn) c.child.slot turn_known;
              child_key_is = known_is (Key c.child.slot) c.child.key child_key_known;
              goes_on = there.goes_on;
              keys = ap keys_in loads_are ∙ ap (λ l. c.child.key ∷ l) there.keys;
              level = there.level;
              rises_above = x.rises_above;
            }

-- What a section leaves.
module _ {v w : View} {key : ℕ} {r : Reading} (l : HasRead v key r w) where
  to_end : IsPrefix l.before w.seen
  to_end = subst (IsPrefix l.before) (sym l.seen)
      (prefix_trans l.before (l.before ++ Entered v.allowance.place v.counts.sections key
      ∷ []) _ (Entered v.allowance.place v.counts.sections key ∷ [], refl)
      (prefix_trans _ l.until _ l.within (LeftMark v.allowance.place v.counts.sections ∷ [], refl)))

  own_read : own_of v.allowance.place w.seen ≡ own_of v.allowance.place l.before
      ++ Entered v.allowance.place v.counts.sections key ∷ (LeftMark v.allowance.place v.counts.sections ∷ [])
  own_read =
      let p : ℕ = v.allowance.place in
      let e : Mark = Entered p v.counts.sections key in
      let m : Mark = LeftMark p v.counts.sections in
      let last : own_of p w.seen ≡ own_of p l.until ++ m ∷ [] =
      ap (own_of p) l.seen ∙ own_of-append p l.until (m ∷ []) ∙ ap (λ b. own_of p l.until ++ cond b (m ∷ []) []) (eq-eqb p p refl) in
      last ∙ ap (λ o. o ++ m ∷ []) l.between ∙ append_assoc (own_of p l.before) (e ∷ []) (m ∷ [])

  pub goes_read : Goes v w (Entered v.allowance.place v.counts.sections key ∷ (LeftMark v.allowance.place v.counts.sections ∷ []))
  goes_read =
      let p : ℕ = v.allowance.place in
      let before : own_of p v.seen ≡ own_of p l.before = l.sees.own p (works_there v l.sees.works) in record {
        advanced = record {
          steps = further_by v w _ l.made.trail refl;
          same = ap (λ (z : View). z.allowance.place) l.others;
          allowance = allowed l.others refl;
          begins = prefix_trans v.seen l.before w.seen l.sees.begins to_end;
          own = own_read ∙ ap (λ o. o ++ Entered p v.counts.sections key ∷ (LeftMark p v.counts.sections ∷ [])) (sym before);
        };
        retired = ap (λ (z : View). z.hands.retired) l.others;
        wait = ap (λ (z : View). z.wait) l.others;
        waits = ap (λ (z : View). z.counts.waits) l.others;
      }

pub read_quiet : {key : ℕ} {r : Reading} (s t : SeatAt) → HasRead s.view key r t.view → t.listed ≡ s.listed → IsQuietSeat s → IsQuietSeat t
read_quiet s t l listed quiet =
    let e = l.others in
    still_quiet s t (ap (λ (z : View). z.section) e ∙ sym quiet.view.section) (ap (λ (z : View). z.locks) e) (ap (λ (z : View). z.hands) e)
    (ap (λ (z : View). z.moving) e) (ap (λ (z : View). z.commit) e) listed quiet
