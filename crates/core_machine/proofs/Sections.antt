-- Whoever is in a section leaves it within so many steps of its own, and who gets a key is then told: a section stands at no slot twice.
use Rattle.std.proofs.Common.{◌≡◌, ◌≢◌, ℕ, suc, ◌+◌, ◌-◌, ◌*◌, ◌≤◌, ◌<◌, ◌==◌, ◌&&◌, ◌||◌, ◌⊎◌, not, cond, Bool, true, false, List, [], ◌∷◌, ◌++◌, length, Option, Some, None, refl, sym, ap, subst, ◌∙◌, ⊎_elim, inl, inr, arith, ne_eqb, eq-eqb, zero}
use Rattle.std.proofs.lemmas.Bool.{cases_eq}
use mathlib.Core.Option.{some}
use lib.ListN.{get_elem?}
use Rattle.list_laws.specs.Counts.{times}
use Rattle.prcu_model.specs.declared.operation.Op.{Op}
use Rattle.prcu_model.specs.declared.operation.Op.TheVariants.{Get, Put, Del, Set}
use Rattle.prcu_model.specs.declared.operation.Reply.{Reply}
use Rattle.prcu_model.specs.declared.operation.Reply.TheVariants.{Absent, Val}
use Rattle.prcu_model.specs.declared.operation.Told.{Told}
use Rattle.prcu_marks.specs.declared.mark.Side.{Side}
use Rattle.prcu_marks.specs.declared.mark.Side.TheVariants.{Left, Right}
use Rattle.prcu_marks.specs.Marks.{said_by}
use Rattle.core_state.specs.declared.shape.Shape.{Shape}
use Rattle.core_state.specs.declared.view.Reading.{Reading}
use Rattle.core_state.specs.declared.view.SearchState.TheVariants.{Found as FoundAt, Missed, Unread}
use Rattle.core_state.specs.declared.view.Section.{Section}
use Rattle.core_state.specs.declared.view.View.{View}
use Rattle.core_state.specs.declared.words.Field.{Field}
use Rattle.core_state.specs.declared.words.Field.TheVariants.{Key, Link}
use Rattle.core_state.specs.Memory.{Memory, slot_count, step_side, flag}
use Rattle.core_state.specs.Steps.{linked_on, loaded, walked, walking}
use Rattle.core_frames.proofs.Views.{way_once, way_short, link_moves}
use Rattle.core_laws.proofs.Searches.{Outcome, outcome, stays}
use Rattle.core_laws.proofs.Acting.{section_is}
use Rattle.core_state.specs.Acts.{access_of, in_slot, section_of}
use Rattle.core_state.specs.declared.act.Act.TheVariants.{SearchLoad}
use Rattle.core_state.specs.declared.act.Part.{Part}
use Rattle.core_points.proofs.Notes.{link_loaded}
use Rattle.core_points.specs.declared.stage.Node.{Node}
use Rattle.core_points.specs.declared.stage.Stage.{Stage}
use Rattle.core_points.specs.declared.stage.Successor.{Successor}
use Rattle.core_points.specs.declared.stage.Then.{Then}
use Rattle.core_points.specs.Programs.{field_of, Own, key_now, act_at, after, answer, begun_with, key_read, past_left, past_right}
use Rattle.core_points.specs.Facts.{is_delete, is_put, is_set}
use Rattle.core_points.specs.Laws.{is_finished}
use Rattle.core_machine.specs.Runs.{Core, core, shape_of, step}
use Rattle.core_machine.proofs.Running.{is_told}
use Rattle.core_machine.specs.Laws.{Comes, IsAnswered, IsOutside, SectionsAreLeft, SectionsStandOnce, alone, GetsAnswer, GetsAreWaitFree, is_getting}
use Rattle.core_machine.proofs.OwnSteps.{At, Going, at_stage, comes, core_goes, fits, next, own_of, so, stays_at, view_by, Entering, InSection, enter_clock, enter_key, enter_stamp, in_key, in_leave, in_link, in_node_left, in_node_life, in_node_right, in_parent_life, in_set_life, in_spot_life, in_spot_tag, in_successor_left, in_successor_life, in_successor_parent_life, in_value, says, section_points, view_of, Says, WithFront, aside, enters, evening, has_front, inside, storing}
use Rattle.core_state.specs.declared.act.Part.TheVariants as part
use Rattle.core_points.specs.declared.stage.Stage.TheVariants as at
use Rattle.core_points.specs.declared.stage.Then.TheVariants as then
use Rattle.core_points.specs.Programs as program

-- ---- how far a call is from leaving its section

-- at how many slots an open section stood
abbrev pub stood_in : Option Section → ℕ
stood_in None = 0
stood_in (Some section) = length section.reading.stood

-- how many steps follow a search at most
abbrev pub tail : Op → ℕ
tail (Get key) = 2
tail (Put key value) = 3
tail (Set key value) = 2
tail (Del key) = 8

-- how many steps of its own a call is from leaving its section, where that stood at so many of n slots
abbrev pub to_leave : Op → ℕ → ℕ → Stage → ℕ
to_leave op n stood at.EnterClock = 2 * n + tail op + 2
to_leave op n stood (at.EnterKey clock) = 2 * n + tail op + 1
to_leave op n stood (at.EnterStamp clock) = 2 * n + tail op
to_leave op n stood (at.AtLink s b) = 2 * (n - stood) + tail op + 1
to_leave op n stood (at.AtKey s p b) = 2 * (n - stood) + tail op + 2
to_leave op n stood (at.Leave later) = 1
to_leave op n stood (at.Value s) = 2
to_leave op n stood (at.SpotTag s b) = 3
to_leave op n stood (at.SpotLife s b tag) = 2
to_leave op n stood (at.SetLife s) = 2
to_leave op n stood (at.ParentLife p b d) = (n - stood) + 8
to_leave op n stood (at.NodeLife d) = (n - stood) + 7
to_leave op n stood (at.NodeLeft d) = (n - stood) + 6
to_leave op n stood (at.NodeRight d) = (n - stood) + 5
to_leave op n stood (at.SuccessorLeft d u) = (n - stood) + 4
to_leave op n stood (at.SuccessorParentLife d u) = 3
to_leave op n stood (at.SuccessorLife d u) = 2
to_leave op n stood _ = 0

some_to_leave : (op : Op) (n stood : ℕ) (stage : Stage) → InSection stage → 1 ≤ to_leave op n stood stage
some_to_leave op n stood stage (in_link s b) = omega arith
some_to_leave op n stood stage _ = omega arith

some_to_enter : (op : Op) (n stood : ℕ) (stage : Stage) → Entering stage → 1 ≤ n → 1 ≤ to_leave op n stood stage
some_to_enter op n stood stage enter_clock one = omega arith
some_to_enter op n stood stage (enter_key clock) one = omega arith
some_to_enter op n stood stage (enter_stamp clock) one = omega (arith, one)

few_after : (op : Op) → tail op ≤ 8
few_after (Get key) = omega arith
few_after _ = omega arith

most_to_leave : (op : Op) (n stood : ℕ) (stage : Stage) → InSection stage → to_leave op n stood stage ≤ 2 * n + 10
most_to_leave op n stood stage (in_link s b) = let few = few_after op in omega (arith, few)
most_to_leave op n stood stage (in_key s p b) = let few = few_after op in omega (arith, few)
most_to_leave op n stood stage _ = omega arith

-- ---- what a load adds to the slots at which a section stood

grown_by : (m : Memory) (r : Reading) (field : Field) (to : Reading) → Outcome m r field to → length r.stood ≤ length to.stood
grown_by m r field to stays = omega arith
grown_by m r field to _ = omega arith

grown : (m : Memory) (r : Reading) (field : Field) → length r.stood ≤ length (loaded r field (m field)).stood
grown m r field = grown_by m r field (loaded r field (m field)) (outcome m r field)

link_long : (r : Reading) (s n : ℕ) (b : Side) → n ≢ 0 → length (linked_on r s b n).stood ≡ suc (length r.stood)
link_long r s n b ne = ap (λ z. length (cond z (record r { state = Missed s b })
    (record r { state = Unread n s b; stood = n ∷ r.stood })).stood) (ne_eqb n 0 ne)

left_long : (r : Reading) (d p : ℕ) (b : Side) (parent slot n : ℕ) → r.state ≡ FoundAt d p b None
    → r.walk ≡ Some (record { parent = parent; slot = slot }) → n ≢ 0
    → length (loaded r (Link slot Left) n).stood ≡ suc (length r.stood)
left_long r d p b parent slot n e on ne =
    let r' : Reading = record r { loads = record { field = Link slot Left; number = n; stored = false } ∷ r.loads } in
    ap (λ (x : Reading). length x.stood) (link_loaded r d p b slot Left n e ∙ ap (λ x. walked r' d x slot Left n) on
    ∙ ap (λ z. cond (z && not (n == 0)) (walking r' slot n) r') (eq-eqb slot slot refl)
    ∙ ap (λ z. cond (not z) (walking r' slot n) r') (ne_eqb n 0 ne))

-- ---- a call on its way

begun_told : (o : Own) (ops : List Op) → (begun_with o ops).told ≡ o.told
begun_told o [] = refl
begun_told o (op ∷ ops) = refl

-- a section stood at no more slots than the table has
few : (k : Shape) (count i : ℕ) (c : Core) (o : Own) (v : View) → Going k count c → get_elem? c.owns i ≡ some o
    → get_elem? c.views i ≡ some v → stood_in v.section ≤ slot_count k
few k count i c o v g eo ev = by v.section refl
  where
    by : (s : Option Section) → v.section ≡ s → stood_in s ≤ slot_count k
    by None e = omega arith
    by (Some section) e =
        let caller = g.run.callers i o v eo ev in
        let slots = caller.slots in
        let places = caller.places in
        let inv = g.run.holds.now in
        way_short inv.chart section.reading (slot_count k) (inv.readers.served i v ev section e).way
        (λ s has. let low = (is_told k c i o v g.run eo ev).stood section e s has in omega (arith, low, slots, places))

module _ (k : Shape) (count i : ℕ) (op : Op) (told : List Told) where
  -- it is at a point before its section or in it, and at most so many steps from leaving it
  pub record OnWay (c : Core) (n : ℕ) : Type 0 where
    pub own : Own
    pub stage : Stage
    pub view : View
    pub here : At k count i c own stage view
    pub op_is : own.op ≡ op
    pub told_is : own.told ≡ told
    pub point : Entering stage ⊎ InSection stage
    pub few : to_leave op (slot_count k) (stood_in view.section) stage ≡ n

  -- it has left its section, and was told if it got a key
  pub record HasLeft (c : Core) : Type 0 where
    pub outside : IsOutside i c
    pub answered : (x : ℕ) → op ≡ Get x → IsAnswered i told c

  data Nearer (c : Core) (most : ℕ) : Type 0 where
    left : HasLeft (step c i) → Nearer c most
    near : {own : Own} {stage : Stage} {view : View} → At k count i (step c i) own stage view → own.op ≡ op → own.told ≡ told
        → Entering stage ⊎ InSection stage → to_leave op (slot_count k) (stood_in view.section) stage < most → Nearer c most

  module _ (c : Core) (o : Own) (v : View) where
    abbrev AtPoint : Stage → Type 0
    AtPoint stage = At k count i c o stage v

    abbrev number : Stage → ℕ
    number stage = said_by (access_of o.place (act_at o stage)) (c.memory (field_of o.place (act_at o stage)))

    -- a step of its own, whose point it goes to is known
    steps_to : (stage later : Stage) → AtPoint stage → is_finished stage ≡ false → (after o (number stage) stage).stage ≡ later
        → At k count i (step c i) (after o (number stage) stage) later (view_by c o v (act_at o stage))
    steps_to stage later a on e = at_stage k count i (step c i) (after o (number stage) stage) (after o (number stage) stage).stage
        (view_by c o v (act_at o stage)) (next k count i c o stage v a on) later e

    -- ---- leaving

    told_now : (later : Then) (a : AtPoint (at.Leave later)) (reply : Reply) → after o 0 (at.Leave later) ≡ answer o reply 0
        → ((reply ≡ Absent) ⊎ ((value : ℕ) × (reply ≡ Val value))) → o.told ≡ told → IsAnswered i told (step c i)
    told_now later a reply e is ti =
        let entry : Told = record { reply = reply; number = 0 } in record {
          own = answer o reply 0;
          there = subst (λ (z : Own). get_elem? (step c i).owns i ≡ some z) e (next k count i c o (at.Leave later) v a refl).own;
          reply = reply;
          told_is = begun_told (record o { told = o.told ++ entry ∷ [] }) o.rest ∙ ap (λ z. z ++ entry ∷ []) ti;
          answers = is;
        }

    leaves : (later : Then) → AtPoint (at.Leave later) → o.told ≡ told → (x : ℕ) → o.op ≡ Get x → IsAnswered i told (step c i)
    leaves then.Absent a ti x e = told_now then.Absent a Absent refl (inl refl) ti
    leaves (then.Value value) a ti x e = told_now (then.Value value) a (Val value) refl (inr (value, refl)) ti
    leaves then.Old a ti x e = (let f = fits k count i c o (at.Leave then.Old) v a in
        let q : is_put (Get x) ≡ true = subst (λ z. is_put z ≡ true) e ((f.point).1).0 in absurd (cc))
    leaves (then.Link spot) a ti x e = (let f = fits k count i c o (at.Leave (then.Link spot)) v a in
        let q : is_put (Get x) ≡ true = subst (λ z. is_put z ≡ true) e ((f.point).1).0 in absurd (cc))
    leaves (then.Replace s generation) a ti x e = (let f = fits k count i c o (at.Leave (then.Replace s generation)) v a in
        let q : is_set (Get x) ≡ true = subst (λ z. is_set z ≡ true) e ((f.point).1).0 in absurd (cc))
    leaves (then.Delete t) a ti x e = (let f = fits k count i c o (at.Leave (then.Delete t)) v a in
        let q : is_delete (Get x) ≡ true = subst (λ z. is_delete z ≡ true) e ((f.point).1).0 in absurd (cc))

    -- ---- the other points

    -- at how many slots a section stands after a load
    abbrev stood_after : Section → ℕ → Part → ℕ
    stood_after z s p = length (loaded z.reading (in_slot s p) (c.memory (in_slot s p))).stood

    -- a load forgets no slot
    longer : (s : ℕ) (p : Part) (section : Section) → v.section ≡ Some section
        → stood_in v.section ≤ stood_in (view_by c o v (SearchLoad s p)).section
    longer s p section is =
        let had : stood_in v.section ≡ length section.reading.stood = ap stood_in is in
        let more : length section.reading.stood ≤ stood_after (section_of v) s p =
        subst (λ (z : Section). length section.reading.stood ≤ stood_after z s p) (sym (section_is v section is))
        (grown c.memory section.reading (in_slot s p)) in
        omega (arith, had, more)

    -- a load that moves the search or the walk adds one, and there is room for it
    one_longer : (s : ℕ) (p : Part) (section : Section) → v.section ≡ Some section → {to : Own} {stage : Stage}
        → At k count i (step c i) to stage (view_by c o v (SearchLoad s p)) → stood_after section s p ≡ suc (length section.reading.stood)
        → (stood_in (view_by c o v (SearchLoad s p)).section ≡ suc (stood_in v.section)) × (suc (stood_in v.section) ≤ slot_count k)
    one_longer s p section is {to} {stage} b long =
        let had : stood_in v.section ≡ length section.reading.stood = ap stood_in is in
        let grew : stood_after (section_of v) s p ≡ suc (length section.reading.stood) =
        ap (λ (z : Section). stood_after z s p) (section_is v section is) ∙ long in
        let room = few k count i (step c i) to (view_by c o v (SearchLoad s p)) b.going b.own b.view in
        (omega (arith, had, grew), omega (arith, had, grew, room))

    abbrev Nears : Stage → Type 0
    Nears stage = Nearer c (to_leave op (slot_count k) (stood_in v.section) stage)

    module _ (oi : o.op ≡ op) (ti : o.told ≡ told) where
      nears_enter : (stage : Stage) → Entering stage → AtPoint stage → Nears stage
      nears_enter stage enter_clock a = near (steps_to at.EnterClock (at.EnterKey _) a refl refl) oi ti (inl (enter_key _)) (omega arith)
      nears_enter stage (enter_key clock) a =
          near (steps_to (at.EnterKey clock) (at.EnterStamp clock) a refl refl) oi ti (inl (enter_stamp clock)) (omega arith)
      nears_enter stage (enter_stamp clock) a =
          near (steps_to (at.EnterStamp clock) (at.AtLink 0 Right) a refl refl) oi ti (inr (in_link 0 Right)) (omega arith)

      tail_is : (z : Op) (n : ℕ) → o.op ≡ z → tail z ≡ n → tail op ≡ n
      tail_is z n eo e = ap tail (sym oi ∙ eo) ∙ e

      nears_link : (s : ℕ) (b : Side) → AtPoint (at.AtLink s b) → Nears (at.AtLink s b)
      nears_link s b a = ⊎_elim
          (λ none. over o.op refl (ap (λ z. cond z (program.ended o.op s b) (at.AtKey n s b)) (eq-eqb n 0 none)))
          (λ ne. on ne (ap (λ z. cond z (program.ended o.op s b) (at.AtKey n s b)) (ne_eqb n 0 ne)))
          (cases_eq n 0)
        where
          n : ℕ
          n = c.memory (Link s b)

          to : (later : Stage) → cond (n == 0) (program.ended o.op s b) (at.AtKey n s b) ≡ later
              → At k count i (step c i) (after o n (at.AtLink s b)) later (view_by c o v (SearchLoad s (part.Link b)))
          to later e = steps_to (at.AtLink s b) later a refl e

          over : (z : Op) → o.op ≡ z → cond (n == 0) (program.ended o.op s b) (at.AtKey n s b) ≡ program.ended o.op s b
              → Nears (at.AtLink s b)
          over (Put key value) eo e = let t = tail_is (Put key value) 3 eo refl in
              near (to (at.SpotTag s b) (e ∙ ap (λ z. program.ended z s b) eo)) oi ti (inr (in_spot_tag s b)) (omega (arith, t))
          over (Get key) eo e = let t = tail_is (Get key) 2 eo refl in
              near (to (at.Leave then.Absent) (e ∙ ap (λ z. program.ended z s b) eo)) oi ti (inr (in_leave _)) (omega (arith, t))
          over (Del key) eo e = let t = tail_is (Del key) 8 eo refl in
              near (to (at.Leave then.Absent) (e ∙ ap (λ z. program.ended z s b) eo)) oi ti (inr (in_leave _)) (omega (arith, t))
          over (Set key value) eo e = let t = tail_is (Set key value) 2 eo refl in
              near (to (at.Leave then.Absent) (e ∙ ap (λ z. program.ended z s b) eo)) oi ti (inr (in_leave _)) (omega (arith, t))

          on : n ≢ 0 → cond (n == 0) (program.ended o.op s b) (at.AtKey n s b) ≡ at.AtKey n s b → Nears (at.AtLink s b)
          on ne e =
              let t = ((fits k count i c o (at.AtLink s b) v a).point).1 in
              let long : length (loaded t.section.reading (Link s b) n).stood ≡ suc (length t.section.reading.stood) =
              ap (λ (r : Reading). length r.stood) (link_moves t.section.reading s b n t.stands.state_is)
              ∙ link_long (record t.section.reading
              { loads = record { field = Link s b; number = n; stored = false } ∷ t.section.reading.loads }) s n b ne in
              let grew = one_longer s (part.Link b) t.section t.is (to (at.AtKey n s b) e) long in
              let one = grew.0 in let room = grew.1 in
              near (to (at.AtKey n s b) e) oi ti (inr (in_key n s b)) (omega (arith, one, room))

      nears_key : (s p : ℕ) (b : Side) → AtPoint (at.AtKey s p b) → Nears (at.AtKey s p b)
      nears_key s p b a = by (step_side (key_now o) n) refl
        where
          n : ℕ
          n = c.memory (Key s)

          more : stood_in v.section ≤ stood_in (view_by c o v (SearchLoad s part.Key)).section
          more = let t = ((fits k count i c o (at.AtKey s p b) v a).point).1 in longer s part.Key t.section t.is

          to : (later : Stage) → key_read o s p b (step_side (key_now o) n) ≡ later
              → At k count i (step c i) (after o n (at.AtKey s p b)) later (view_by c o v (SearchLoad s part.Key))
          to later e = steps_to (at.AtKey s p b) later a refl e

          here : (z : Op) → o.op ≡ z → key_read o s p b (step_side (key_now o) n) ≡ program.found o.op s p b → Nears (at.AtKey s p b)
          here (Get key) eo e = let t = tail_is (Get key) 2 eo refl in
              near (to (at.Value s) (e ∙ ap (λ z. program.found z s p b) eo)) oi ti (inr (in_value s)) (omega (arith, t))
          here (Put key value) eo e = let t = tail_is (Put key value) 3 eo refl in
              near (to (at.Leave then.Old) (e ∙ ap (λ z. program.found z s p b) eo)) oi ti (inr (in_leave _)) (omega (arith, t))
          here (Del key) eo e =
              let t = tail_is (Del key) 8 eo refl in
              let le = more in
              let there = to (at.ParentLife p b s) (e ∙ ap (λ z. program.found z s p b) eo) in
              near there oi ti (inr (in_parent_life p b s)) (omega (arith, t, le))
          here (Set key value) eo e = let t = tail_is (Set key value) 2 eo refl in
              near (to (at.SetLife s) (e ∙ ap (λ z. program.found z s p b) eo)) oi ti (inr (in_set_life s)) (omega (arith, t))

          by : (z : Option Side) → step_side (key_now o) n ≡ z → Nears (at.AtKey s p b)
          by None e = here o.op refl (ap (key_read o s p b) e)
          by (Some side) e = let le = more in
              near (to (at.AtLink s side) (ap (key_read o s p b) e)) oi ti (inr (in_link s side)) (omega (arith, le))

      nears_right : (d : Node) → AtPoint (at.NodeRight d) → Nears (at.NodeRight d)
      nears_right d a = by ((d.left == 0) || (n == 0)) refl
        where
          n : ℕ
          n = c.memory (Link d.node Right)

          under : Bool → Stage
          under z = cond z (at.Leave (then.Delete (record { node = record d { right = n }; successor = None })))
              (at.SuccessorLeft (record d { right = n }) (record { parent = d.node; slot = n; parent_generation = 0; generation = 0 }))

          by : (z : Bool) → ((d.left == 0) || (n == 0)) ≡ z → Nears (at.NodeRight d)
          by true e = near (steps_to (at.NodeRight d) (under true) a refl (ap under e)) oi ti (inr (in_leave _)) (omega arith)
          by false e =
              let s = ((fits k count i c o (at.NodeRight d) v a).point).2 in
              let more = longer d.node (part.Link Right) s.section s.is in
              near (steps_to (at.NodeRight d) (under false) a refl (ap under e)) oi ti (inr (in_successor_left _ _)) (omega (arith, more))

      nears_left : (d : Node) (u : Successor) → AtPoint (at.SuccessorLeft d u) → Nears (at.SuccessorLeft d u)
      nears_left d u a = ⊎_elim
          (λ none. over (u.parent == d.node) refl (ap under (eq-eqb n 0 none)))
          (λ ne. on ne (ap under (ne_eqb n 0 ne)))
          (cases_eq n 0)
        where
          n : ℕ
          n = c.memory (Link u.slot Left)

          ends : Bool → Stage
          ends z = cond z (at.SuccessorLife d u) (at.SuccessorParentLife d u)

          under : Bool → Stage
          under z = cond z (ends (u.parent == d.node)) (at.SuccessorLeft d (record u { parent = u.slot; slot = n }))

          to : (later : Stage) → under (n == 0) ≡ later
              → At k count i (step c i) (after o n (at.SuccessorLeft d u)) later (view_by c o v (SearchLoad u.slot (part.Link Left)))
          to later e = steps_to (at.SuccessorLeft d u) later a refl e

          over : (z : Bool) → (u.parent == d.node) ≡ z → under (n == 0) ≡ ends (u.parent == d.node) → Nears (at.SuccessorLeft d u)
          over true same e = near (to (at.SuccessorLife d u) (e ∙ ap ends same)) oi ti (inr (in_successor_life d u)) (omega arith)
          over false other e =
              near (to (at.SuccessorParentLife d u) (e ∙ ap ends other)) oi ti (inr (in_successor_parent_life d u)) (omega arith)

          on : n ≢ 0 → under (n == 0) ≡ at.SuccessorLeft d (record u { parent = u.slot; slot = n }) → Nears (at.SuccessorLeft d u)
          on ne e =
              let s = ((fits k count i c o (at.SuccessorLeft d u) v a).point).2 in
              let long : length (loaded s.section.reading (Link u.slot Left) n).stood ≡ suc (length s.section.reading.stood) =
              left_long s.section.reading d.node d.parent d.side u.parent u.slot n s.stands.state_is (((s.known).1).1).walk ne in
              let there = to (at.SuccessorLeft d (record u { parent = u.slot; slot = n })) e in
              let grew = one_longer u.slot (part.Link Left) s.section s.is there long in
              let one = grew.0 in let room = grew.1 in
              near there oi ti (inr (in_successor_left d _)) (omega (arith, one, room))

      nears : (stage : Stage) → InSection stage → AtPoint stage → Nears stage
      nears stage (in_link s b) a = nears_link s b a
      nears stage (in_key s p b) a = nears_key s p b a
      nears stage (in_leave later) a = left (record {
        outside = record {
          view = view_by c o v (act_at o (at.Leave later));
          there = (next k count i c o (at.Leave later) v a refl).view;
          outside = refl;
        };
        answered = λ x e. leaves later a ti x (oi ∙ e);
      })
      nears stage (in_value s) a = near (steps_to (at.Value s) (at.Leave _) a refl refl) oi ti (inr (in_leave _)) (omega arith)
      nears stage (in_spot_tag s b) a =
          near (steps_to (at.SpotTag s b) (at.SpotLife s b _) a refl refl) oi ti (inr (in_spot_life s b _)) (omega arith)
      nears stage (in_spot_life s b tag) a =
          near (steps_to (at.SpotLife s b tag) (at.Leave _) a refl refl) oi ti (inr (in_leave _)) (omega arith)
      nears stage (in_set_life s) a = near (steps_to (at.SetLife s) (at.Leave _) a refl refl) oi ti (inr (in_leave _)) (omega arith)
      nears stage (in_parent_life p b d) a =
          let s = ((fits k count i c o (at.ParentLife p b d) v a).point).2 in
          let more = longer p part.Life s.section s.is in
          near (steps_to (at.ParentLife p b d) (at.NodeLife _) a refl refl) oi ti (inr (in_node_life _)) (omega (arith, more))
      nears stage (in_node_life d) a =
          let s = ((fits k count i c o (at.NodeLife d) v a).point).2 in
          let more = longer d.node part.Life s.section s.is in
          near (steps_to (at.NodeLife d) (at.NodeLeft _) a refl refl) oi ti (inr (in_node_left _)) (omega (arith, more))
      nears stage (in_node_left d) a =
          let s = ((fits k count i c o (at.NodeLeft d) v a).point).2 in
          let more = longer d.node (part.Link Left) s.section s.is in
          near (steps_to (at.NodeLeft d) (at.NodeRight _) a refl refl) oi ti (inr (in_node_right _)) (omega (arith, more))
      nears stage (in_node_right d) a = nears_right d a
      nears stage (in_successor_left d u) a = nears_left d u a
      nears stage (in_successor_parent_life d u) a =
          near (steps_to (at.SuccessorParentLife d u) (at.SuccessorLife d _) a refl refl) oi ti (inr (in_successor_life d _)) (omega arith)
      nears stage (in_successor_life d u) a =
          near (steps_to (at.SuccessorLife d u) (at.Leave _) a refl refl) oi ti (inr (in_leave _)) (omega arith)

  -- ---- beside others

  some_left : (c : Core) (n : ℕ) → OnWay c n → 1 ≤ n
  some_left c n w =
      let few = w.few in
      let stood : ℕ = stood_in w.view.section in ⊎_elim
      (λ before_it. (let one = some_to_enter op (slot_count k) stood w.stage before_it (omega arith) in omega (arith, one, few)))
      (λ in_it. (let one = some_to_leave op (slot_count k) stood w.stage in_it in omega (arith, one, few)))
      w.point

  own_step : (c : Core) (n : ℕ) → OnWay c n → HasLeft (step c i) ⊎ ((less : ℕ) × (OnWay (step c i) less × (less < n)))
  own_step c n w = by (⊎_elim
      (λ before_it. nears_enter c w.own w.view w.op_is w.told_is w.stage before_it w.here)
      (λ in_it. nears c w.own w.view w.op_is w.told_is w.stage in_it w.here)
      w.point)
    where
      by : Nearer c (to_leave op (slot_count k) (stood_in w.view.section) w.stage)
          → HasLeft (step c i) ⊎ ((less : ℕ) × (OnWay (step c i) less × (less < n)))
      by (left there) = inl there
      by (near {own = own} {stage = stage} {view = view} here op_is told_is point lt) =
          inr (
            to_leave op (slot_count k) (stood_in view.section) stage,
            (
              record {
                own = own;
                stage = stage;
                view = view;
                here = here;
                op_is = op_is;
                told_is = told_is;
                point = point;
                few = refl;
              },
              (let few = w.few in omega (arith, lt, few)),
            ),
          )

  other_step : (c : Core) (j n : ℕ) → j ≢ i → OnWay c n → OnWay (step c j) n
  other_step c j n ne w = record {
    own = w.own;
    stage = w.stage;
    view = w.view;
    here = stays_at k count i c w.own w.stage w.view w.here j ne;
    op_is = w.op_is;
    told_is = w.told_is;
    point = w.point;
    few = w.few;
  }

  pub has_left : (more : List ℕ) (c : Core) (n : ℕ) → OnWay c n → n ≤ times i more → Comes c more HasLeft
  has_left more c n w le = comes i OnWay HasLeft some_left own_step other_step more c n w le

pub sections_are_left : SectionsAreLeft
sections_are_left scripts slots callers more i v section m there is many =
    let k : Shape = shape_of slots scripts in
    let count : ℕ = length scripts in
    let c : Core = core scripts slots callers in
    let g : Going k count c = core_goes scripts slots callers m in
    let kept = own_of k count c i v g there in
    let o : Own = kept.0 in
    let a : At k count i c o o.stage v = record { going = g; own = kept.1; stage_is = refl; view = there } in
    let point = section_points o.stage v section is (says o v o.stage (fits k count i c o o.stage v a)) in
    let most = most_to_leave o.op (slot_count k) (stood_in v.section) o.stage point in
    so c more (HasLeft k count i o.op o.told) (IsOutside i) (λ d h. h.outside)
    (has_left k count i o.op o.told more c (to_leave o.op (slot_count k) (stood_in v.section) o.stage)
    (record { own = o; stage = o.stage; view = v; here = a; op_is = refl; told_is = refl; point = inr point; few = refl })
    (omega (arith, most, many)))

pub sections_stand_once : SectionsStandOnce
sections_stand_once scripts slots callers i v section m there is_inside s =
    let inv = (core_goes scripts slots callers m).run.holds.now in
    way_once inv.chart section.reading s (inv.readers.served i v there section is_inside).way

-- A get is answered within so many steps of its own, whatever steps others make between.

front_is_none : (stage : Stage) → WithFront stage → is_getting stage ≡ false
front_is_none stage (storing u front) = refl
front_is_none stage (evening u front) = refl

-- a get's point is one before its section or in it
get_points : (stage : Stage) (v : View) → is_getting stage ≡ true → Says stage v → Entering stage ⊎ InSection stage
get_points stage v gets (enters point outside turn) = inl point
get_points stage v gets (inside point turn) = inr point
get_points stage v gets (has_front point outside commit has) =
    absurd (let e : false ≡ true = sym (front_is_none stage point) ∙ gets in cc)
get_points stage v gets (aside other outside turn) = absurd (let e : false ≡ true = sym other ∙ gets in cc)

most_of_get : (x n stood : ℕ) (stage : Stage) → is_getting stage ≡ true → Entering stage ⊎ InSection stage
    → to_leave (Get x) n stood stage ≤ 2 * n + 4
most_of_get x n stood stage gets (inl enter_clock) = omega arith
most_of_get x n stood stage gets (inl (enter_key clock)) = omega arith
most_of_get x n stood stage gets (inl (enter_stamp clock)) = omega arith
most_of_get x n stood stage gets (inr (in_link s b)) = omega arith
most_of_get x n stood stage gets (inr (in_key s p b)) = omega arith
most_of_get x n stood stage gets (inr (in_leave later)) = omega arith
most_of_get x n stood stage gets (inr (in_value s)) = omega arith
most_of_get x n stood stage gets _ = absurd (cc)

pub gets_are_wait_free : GetsAreWaitFree
gets_are_wait_free scripts slots callers more i x o m there op_is gets many =
    let k : Shape = shape_of slots scripts in
    let count : ℕ = length scripts in
    let c : Core = core scripts slots callers in
    let g : Going k count c = core_goes scripts slots callers m in
    let seen = view_of k count c i o g there in
    let v : View = seen.0 in
    let a : At k count i c o o.stage v = record { going = g; own = there; stage_is = refl; view = seen.1 } in
    let point = get_points o.stage v gets (says o v o.stage (fits k count i c o o.stage v a)) in
    let most = most_of_get x (slot_count k) (stood_in v.section) o.stage gets point in
    so c more (HasLeft k count i (Get x) o.told) (IsAnswered i o.told) (λ d h. h.answered x refl)
    (has_left k count i (Get x) o.told more c (to_leave (Get x) (slot_count k) (stood_in v.section) o.stage)
    (record { own = o; stage = o.stage; view = v; here = a; op_is = op_is; told_is = refl; point = point; few = refl })
    (omega (arith, most, many)))

times_alone : (i n : ℕ) → times i (alone i n) ≡ n
times_alone i zero = refl
times_alone i (suc n) = let one = ap flag (eq-eqb i i refl) in let rest = times_alone i n in omega (arith, one, rest)

pub gets_answer : GetsAnswer
gets_answer scripts slots callers i x o m there op_is gets =
    let most : ℕ = 2 * (slots + length scripts + 1) + 4 in
    let all = times_alone i most in
    gets_are_wait_free scripts slots callers (alone i most) i x o m there op_is gets (omega (arith, all))
