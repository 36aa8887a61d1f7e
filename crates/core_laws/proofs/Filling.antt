-- A step on the slot in hand or the spare: a key, a value or a link is stored, or the life of the slot in hand is raised.
use Rattle.std.proofs.Common.{◌≡◌, ◌≢◌, ℕ, ◌+◌, ◌/◌, ◌≤◌, ◌⊎◌, ◌==◌, true, false, cond, List, [], ◌++◌, map, set, Option, Some, None, refl, sym, ap, subst, ◌∙◌, ⊎_elim, inl, inr, arith}
use Rattle.std.proofs.lemmas.Bool.{cases_eq}
use mathlib.Core.Option.{some}
use lib.ListN.{get_elem?}
use Rattle.prcu_marks.specs.declared.mark.Mark.{Mark}
use Rattle.core_state.specs.declared.shape.Shape.{Shape}
use Rattle.core_state.specs.declared.words.Field.{Field}
use Rattle.core_state.specs.declared.words.Field.TheVariants.{State, Life, Key, Value, Link, Tag, Clock, Free}
use Rattle.core_state.specs.declared.view.Held.{Held}
use Rattle.core_state.specs.declared.view.HeldLock.{HeldLock}
use Rattle.core_state.specs.declared.view.Known.{Known}
use Rattle.core_state.specs.declared.view.Move.{Move}
use Rattle.core_state.specs.declared.view.Retired.{Retired}
use Rattle.core_state.specs.declared.view.View.{View}
use Rattle.list_laws.specs.Counts.{times, IsIn}
use Rattle.core_state.specs.Memory.{flag, IsEven, sum_below, count_below, has, Memory, stored, slot_count}
use Rattle.core_state.specs.Views.{IsOwnField, note_option, noting, known_in, note_lock, change_lock, Works, held_list, retired_of, joined_retired, spares_of, slots_of, unraised_hand}
use Rattle.core_state.specs.Invariant.{HoldsNow}
use Rattle.core_frames.specs.Laws.{IsKept}
use Rattle.core_frames.proofs.WholeFrames.{no_mark}
use Rattle.core_frames.proofs.Views.{stored_here, stored_else, sum_one_more, in_one, not_one}
use Rattle.core_laws.proofs.Stores.{StoresIn, stores_in, content_away, own_content}
use Rattle.core_frames.proofs.PlaceFrames.{counts_by, generations_in, free_slots, tags_raised}
use Rattle.core_laws.proofs.ChartStays.{SameOutside, outer_same, grace_same}
use Rattle.core_laws.proofs.OffStep.{OffStep, no_marks, OffLock, no_others, off_law, retired_away}
use Rattle.core_state.specs.Links.{IsContent, raise_held, after_raise_in_hand, NeedsRaiseInHand}
use Rattle.core_frames.proofs.Roles.{slots_count, held_there, own_off, own_once, not_gone, spare_among, retired_there, spares_count, own_below, held_unmet, hand_own}
use Rattle.prcu_marks.specs.Marks.{gone_at}
use Rattle.core_state.specs.Parts.{AreHandsKnown, IsHandKnown}
use Rattle.core_laws.proofs.LockSteps.{note_moving-else, hands_noted, note_option-slots, note_option-unraised, note_option-none, known_more}
use Rattle.core_laws.proofs.Locks.{IsNoted, slots_change, length_change, noted_back, noted_forth, emptied_change_same}
use Rattle.list_laws.proofs.Lists.{in_first}
use Rattle.prcu_marks.specs.declared.mark.Side.TheVariants.{Left, Right}

-- what may be stored in such a slot
abbrev pub IsFilled : Field → Type 0
IsFilled (Life t) = Unit {0}
IsFilled (Key t) = Unit {0}
IsFilled (Value t) = Unit {0}
IsFilled (Link t b) = Unit {0}
IsFilled _ = ⊥

filled_content : (s : ℕ) (field : Field) → IsContent s field → IsFilled field
filled_content s (Key t) c = tt
filled_content s (Value t) c = tt
filled_content s (Link t b) c = tt
filled_content s _ c = absurd c

-- the slot in hand with its life raised
raised_list : (o : Option Held) → held_list (raise_held o) ≡ held_list o
raised_list None = refl
raised_list (Some held) = refl

raised_back : (o : Option Held) (x : Held) → raise_held o ≡ Some x → (old : Held) × (o ≡ Some old) × (record old { raised = true } ≡ x)
raised_back None x e = absurd (cc)
raised_back (Some old) x e = (old, refl, (let q : record old { raised = true } ≡ x = cc in q))

raised_unraised : (o : Option Held) → unraised_hand (raise_held o) ≡ 0
raised_unraised None = refl
raised_unraised (Some held) = refl

module _ (k : Shape) (m : Memory) (vs : List View) (h : List Mark) (id : ℕ) (v : View) (inv : HoldsNow k m vs h)
    (there : get_elem? vs id ≡ some v) (works : Works v) where
  abbrev n : ℕ
  n = slot_count k

  -- A store in one of these fields, after which the view has another slot in hand.
  pub record Fill : Type 0 where
    pub s : ℕ
    pub field : Field
    pub number : ℕ
    pub own : IsOwnField s field
    pub kind : IsFilled field
    pub role : 1 ≤ times s (held_list v.hands.hand) + times s (spares_of v)
    pub was_even : IsEven (m (Life s))
    pub even : IsEven (stored m field number (Life s))
    pub grows : m (Life s) ≤ stored m field number (Life s)

  module _ (z : Fill) where
    open z use {s, field, number}

    abbrev known : Known
    known = record { field = z.field; number = z.number; stored = true }

    abbrev m' : Memory
    m' = stored m z.field z.number

    stores : StoresIn m m' s
    stores = stores_in m s field number z.own

    another : (f : Field) → (IsFilled f → ⊥) → m' f ≡ m f
    another f differs = stored_else m field f number (λ e. differs (subst IsFilled e z.kind))

    among : 1 ≤ times s (slots_of v)
    among = let a = slots_count v s in let b = z.role in omega arith

    off : inv.chart.linked s ≡ false
    off = own_off m n inv.chart vs h inv.slots id v there s among

    copy_apart : (move : Move) → v.moving ≡ Some move → move.copy.slot ≢ s
    copy_apart move is e = let on = (inv.tree.moves.each id v there move is).copy_linked in
        let q : true ≡ false = sym on ∙ ap inv.chart.linked e ∙ off in absurd (cc)

    not_retired : (r : Retired) → IsIn (retired_of v) r → r.slot ≢ s
    not_retired r has e =
        let a = own_once m n inv.chart vs h inv.slots id v there s in
        let b = slots_count v s in
        let c = subst (λ x. 1 ≤ times x (map (λ (y : Retired). y.slot) (retired_of v))) e (retired_there v r has) in
        let d = z.role in
        omega arith

    not_unlinked : (t p : ℕ) → gone_at t h ≡ Some p → t ≢ s
    not_unlinked t p gone e = let none = not_gone m n inv.chart vs h inv.slots id v there s z.role in
        let q : None ≡ Some p = sym none ∙ ap (λ x. gone_at x h) (sym e) ∙ gone in absurd (cc)

    hands : AreHandsKnown m' (noting v s field number true)
    hands = hands_noted m m' s field number true z.own (stored_here m field number) stores.away
        (λ f own ne. stored_else m field f number ne) v
        (λ t even. ⊎_elim (λ (e : t ≡ s). subst (λ x. IsEven (m' (Life x))) (sym e) z.even)
        (λ ne. subst IsEven (sym (stores.away t (Life t) ne refl)) even) (cases_eq t s)) (inv.slots.hands id v there)

    module _ (hand : Option Held) where
      abbrev w : View
      w = let noted = noting v z.s z.field z.number true in record noted { hands = record noted.hands { hand = hand } }

      view : SameOutside v w
      view = record {
        places = record { place = refl; places = refl; joined = refl; met = refl };
        section = refl;
        enter = refl;
        records = refl;
        moving = note_moving-else s known v.moving copy_apart;
        commit = refl;
        wait = refl;
        sections = refl;
        waits = refl;
      }

      abbrev step : OffStep
      step = record {
        who = record { k = k; m = m; vs = vs; h = h; id = id; v = v; inv = inv; there = there; works = works };
        m' = m';
        hs = h;
        w = w;
        s = s;
        stores = stores;
        tag = λ t b. another (Tag t b) (λ x. x);
        grows = (let a = z.grows in omega arith);
        fresh = inl z.was_even;
        links = λ t p gone b. stores.away t (Link t b) (not_unlinked t p gone) refl;
        below = own_below m n inv.chart vs h inv.slots id v there s among;
        off = off;
        unmet = λ j u section e inside back. held_unmet m n inv.chart vs h inv.slots id v there s section.entered z.role back;
        others = no_others m n inv.chart vs h inv.slots id v there s among;
        view = view;
        few_locks = λ i. record {
          once = λ t. subst (λ ls. times t ls ≤ 1) (sym (slots_change s (note_lock known) (λ x. refl) v.locks)) (i.once t);
          few = subst (λ x. x ≤ 5) (sym (length_change s (note_lock known) (λ x. refl) v.locks)) i.few;
          outside = λ section inside. (let a = i.outside section inside in
              (ap (λ ls. change_lock s (note_lock known) ls) a.0, view.moving ∙ a.1));
        };
        lock_back = λ t l' is. (let q = noted_back s known v.locks t l' is in (q.0, q.1, noted t q.0 l' q.2));
        lock_forth = λ t l is. (let q = noted_forth s known v.locks t l is in (q.0, q.1, noted t l q.0 q.2));
        unraised = λ t lock x. (let has = in_first v.hands.retired (joined_retired v.allowance.joined) x.retired x.has in
            ((λ e. not_retired x.retired has (x.slot ∙ e)), x));
        marks = no_marks s h;
      }
        where
          noted : (t : ℕ) (l l' : HeldLock) → IsNoted s known t l l' → OffLock m' s t l l'
          noted t l l' q = record {
            marked = q.marked;
            emptied = q.emptied;
            knew = λ f x e. ⊎_elim
                (λ (same : t ≡ s). ⊎_elim (λ (y : (field ≡ f) × (number ≡ x)). inl
                (same, subst (IsOwnField s) y.0 z.own, ap m' (sym y.0) ∙ stored_here m field number ∙ y.1)) (λ y. inr y)
                (known_more l.known field f number x true (ap (λ ks. known_in ks f) (sym (q.here same)) ∙ e)))
                (λ ne. inr (ap (λ ks. known_in ks f) (sym (q.there ne)) ∙ e)) (cases_eq t s);
            apart = q.there;
          }

      -- with generations so many more, and so many slots fewer that aren't raised
      pub filled : (more : ℕ) → held_list hand ≡ held_list v.hands.hand → (v.hands.hand ≡ None → hand ≡ None)
          → ((held : Held) → hand ≡ Some held → IsHandKnown m' held)
          → generations_in m' n ≡ generations_in m n + more → unraised_hand hand + more ≡ unraised_hand v.hands.hand
          → IsKept k m h m' (set vs id w) (h ++ [])
      filled more same_hand no_hand hand_known lives unraised = no_mark k m m' h (set vs id w) (record {
        invariant = off_law step (record {
          role = same_role s (another (State s) (λ x. x));
          roles = λ t ne. same_slots_of t;
          low = subst (λ x. x ≤ 1) (sym (another (State s) (λ x. x)))
              (inv.slots.roles.states s (own_below m n inv.chart vs h inv.slots id v there s among));
          even = λ _. z.even;
          few = (let i = inv.slots.few id v there in record {
            one = λ r. no_hand (i.one r);
            few = i.few;
            room = λ move is. i.room move (sym view.moving ∙ is);
            joined = i.joined;
            next_spare = λ here none. i.next_spare here (note_option-none s known v.hands.spare none);
          });
          hands = record { hand = hand_known; spare = hands.spare; copy = hands.copy; spares = hands.spares };
          retired = λ j r e. retired_away step r (not_retired r (j, e)) (inv.slots.retired id v there j r e);
          unlinked = λ t p gone x. record { retired = x.retired; has = x.has; slot = x.slot };
        }) (outer_same k m m' vs h id v w inv there works stores.beside view refl)
            (counts_by k.tickets m m' n inv.chart inv.chart vs id v w h h there (record {
              free = (let a = stores.beside Free tt in let b : free_slots m' n ≡ free_slots m n =
                  (λ i. count_below (λ t. another (State t) (λ x. x) i == 0) n) in omega arith);
              clock = (let a = stores.beside Clock tt in omega arith);
              generations = (let a = lives in let b = unraised in omega arith);
              tags = (let a = emptied_change_same s (note_lock known) (λ x. refl) (λ l. refl) v.locks in let b = ap has view.moving in
                  let c : tags_raised m' n ≡ tags_raised m n =
                  (λ i. sum_below (λ t. another (Tag t Left) (λ x. x) i + another (Tag t Right) (λ x. x) i) n) in omega arith);
              turns = (let a = stores.beside Clock tt in omega arith);
              pairs = refl;
              olds = (let a = ap has view.moving in omega arith);
            }) inv.counts) (grace_same k m vs h id v w inv there view (λ y has. (y, has, refl, refl)));
        past = record {
          lives = λ t. ⊎_elim (λ (e : t ≡ s). (let a = z.grows in let b = ap (λ x. m (Life x)) e in let c = ap (λ x. m' (Life x)) e in
              omega arith)) (λ ne. (let a = stores.away t (Life t) ne refl in omega arith)) (cases_eq t s);
          tags = λ t b. (let a = another (Tag t b) (λ x. x) in omega arith);
          content = λ t f unlinked odd c. content_away m m' s stores t f (not_unlinked t unlinked.0 unlinked.1) c;
        };
      })
        where
          same_slots_of : (t : ℕ) → times t (slots_of w) ≡ times t (slots_of v)
          same_slots_of t =
              let a = slots_count w t in
              let b = slots_count v t in
              let c = ap (times t) same_hand in
              let d = spares_count w t in
              let e = spares_count v t in
              let f = ap (times t) (note_option-slots s known v.hands.spare) in
              omega arith

          same_role : (t : ℕ) → m' (State t) ≡ m (State t)
              → flag (m' (State t) == 0) + times t (slots_of w) ≡ flag (m (State t) == 0) + times t (slots_of v)
          same_role t e = let a = same_slots_of t in let b = ap (λ x. flag (x == 0)) e in omega arith

  held_role : (held : Held) → (v.hands.hand ≡ Some held) ⊎ (v.hands.spare ≡ Some held)
      → (1 ≤ times held.slot (held_list v.hands.hand) + times held.slot (spares_of v)) × IsEven (m (Life held.slot))
  held_role held is = ⊎_elim
      (λ (a : v.hands.hand ≡ Some held). (
        (let b = held_there v.hands.hand held a in omega arith),
        ((inv.slots.hands id v there).hand held a).even,
      ))
      (λ (a : v.hands.spare ≡ Some held). (let b = spare_among v held a in (omega arith, (inv.slots.hands id v there).spares held.slot b)))
      is

  -- a key, a value or a link
  pub content_filled : (held : Held) (field : Field) (number : ℕ) → (v.hands.hand ≡ Some held) ⊎ (v.hands.spare ≡ Some held)
      → IsContent held.slot field → IsKept k m h (stored m field number) (set vs id (noting v held.slot field number true)) (h ++ [])
  content_filled held field number holder content =
      let s = held.slot in
      let known : Known = record { field = field; number = number; stored = true } in
      let role = held_role held holder in
      let same_life : (t : ℕ) → stored m field number (Life t) ≡ m (Life t) =
      λ t. stored_else m field (Life t) number (λ e. subst (IsContent s) e content) in
      let fill : Fill = record {
        s = s;
        field = field;
        number = number;
        own = own_content s field content;
        kind = filled_content s field content;
        role = role.0;
        was_even = role.1;
        even = subst IsEven (sym (same_life s)) role.1;
        grows = (let a = same_life s in omega arith);
      } in
      filled fill (note_option s known v.hands.hand) 0 (note_option-slots s known v.hands.hand) (λ e. ap (note_option s known) e)
      (hands fill).hand
      (let e : generations_in (stored m field number) n ≡ generations_in m n = (λ i. sum_below (λ t. same_life t i / 2) n) in omega arith)
      (let a = note_option-unraised s known v.hands.hand in omega arith)

  -- the life of the slot in hand
  pub life_filled : (held : Held) (number : ℕ) → NeedsRaiseInHand v held held.slot number
      → IsKept k m h (stored m (Life held.slot) number) (set vs id (after_raise_in_hand v held.slot number)) (h ++ [])
  life_filled held number needs =
      let s = held.slot in
      let known : Known = record { field = Life held.slot; number = number; stored = true } in
      let in_hand = needs.in_hand.0 in
      let role = held_role held (inl in_hand) in
      let now = stored_here m (Life s) number in
      let life_is : m (Life s) ≡ needs.life = (((inv.slots.hands id v there).hand held in_hand).known (Life s) needs.life needs.loaded).1 in
      let even = role.1 in
      let next = needs.next in
      let fill : Fill = record {
        s = s;
        field = Life held.slot;
        number = number;
        own = refl;
        kind = tt;
        role = role.0;
        was_even = role.1;
        even = omega arith;
        grows = omega arith;
      } in
      let one : unraised_hand v.hands.hand ≡ 1 = ap unraised_hand in_hand ∙ ap (λ b. cond b 0 1) needs.unraised in
      let none = raised_unraised (note_option s known v.hands.hand) in
      filled fill (raise_held (note_option s known v.hands.hand)) 1
      (raised_list (note_option s known v.hands.hand) ∙ note_option-slots s known v.hands.hand)
      (λ e. ap (λ o. raise_held (note_option s known o)) e)
      (λ x e. (let a = raised_back (note_option s known v.hands.hand) x e in let was = (hands fill).hand a.0 a.1 in
      subst (IsHandKnown (stored m (Life s) number)) a.2 (record { known = was.known; even = was.even })))
      (sum_one_more (λ t. m (Life t) / 2) (λ t. stored m (Life s) number (Life t) / 2) s n
      (own_below m n inv.chart vs h inv.slots id v there s (hand_own v held in_hand)) (λ t. ⊎_elim
      (λ (e : t ≡ s). (let a = ap (λ x. stored m (Life s) number (Life x)) e in let b = ap (λ x. m (Life x)) e in let c = in_one t s e in
      omega arith))
      (λ ne. (let a = (stores_in m s (Life s) number refl).away t (Life t) ne refl in let c = not_one t s ne in omega arith))
      (cases_eq t s)))
      (omega arith)
