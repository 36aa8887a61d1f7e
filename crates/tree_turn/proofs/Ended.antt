-- The tests of a turn, and what it leaves.
use Rattle.std.proofs.Common.{◌≡◌, ◌≢◌, ℕ, ◌*◌, ◌==◌, not, true, false, sym, ap, ◌∙◌, eq-eqb, ne_eqb, suc, ◌+◌, ◌-◌, ◌<◌, ◌≤◌, Bool, cond, List, [], ◌∷◌, ◌++◌, length, map, Option, Some, None, refl, subst, ⊎_elim, inl, inr, arith, append-nil}
use Rattle.std.proofs.lemmas.Bool.{eqb-true, and_parts, and_from, false≢true, cases_eq}
use Rattle.tree_turn.specs.declared.turn.Turn.{Turn}
use Rattle.tree_turn.specs.declared.turn.TurnWords.{TurnWords}
use Rattle.tree_turn.specs.Turns.{IsAsRecorded, AreAside, agrees, stands_aside, HasRecorded, IsReadyToTurn, IsQuietButHand, HasTurned, HasTurnedNone, FoundOwn, FoundLocked, FoundOther, Finds, lock_steps, load_steps, unlock_steps, replace_steps, turn_steps, is_rotation, three_locks, parent_known, node_known, loaded_locks, adding, ThreeAside, HasLocked, HasGivenUp, HasLoadedAll, HasUnlocked, MayReplace, HasReplaced}
use Rattle.std.proofs.lemmas.List.{length-append}
use mathlib.Core.Option.{some}
use lib.ListN.{get_elem?}
use Rattle.core_state.specs.declared.shape.Shape.{Shape}
use Rattle.core_state.specs.declared.words.Kind.{Kind}
use Rattle.core_state.specs.declared.view.Held.{Held}
use Rattle.core_state.specs.declared.view.Known.{Known}
use Rattle.core_state.specs.declared.view.Retired.{Retired}
use Rattle.core_state.specs.declared.view.StepMade.{StepMade}
use Rattle.core_state.specs.declared.view.Trail.{Trail}
use Rattle.core_state.specs.declared.view.View.{View}
use Rattle.core_state.specs.Links.{rotate_marks, IsRetiredAt}
use Rattle.core_state.specs.Views.{HasLock, lock_of, steps_of, steps_made, unraised_among}
use Rattle.core_frames.proofs.Roles.{unraised_append, map_append}
use Rattle.list_laws.specs.Counts.{times, IsIn}
use Rattle.list_laws.proofs.Lists.{times_append, times_here, times_other}
use Rattle.seat_table.specs.Gains.{Sees, TellsApart}
use Rattle.seat_table.specs.Seats.{SeatAt, AreListed, IsQuietSeat, IsSlotOf}
use Rattle.tree_points.specs.Points.{HasAdvanced}
use Rattle.tree_points.proofs.Locks.{allowed, advanced_none, advanced_with}
use Rattle.node_slots.specs.Taking.{MakesSteps}
use Rattle.node_slots.proofs.Returns.{listed_length, not_in}
use Rattle.tree_turn.proofs.Standing.{steps_both}

-- What the two tests of a turn tell.

pub recorded_by : {t : Turn} {words : TurnWords} → agrees t words ≡ true → IsAsRecorded t words
recorded_by {t} {words} e =
    let one = and_parts (words.parent_life == 2 * t.parent_generation) _ e in
    let two = and_parts (words.node.life == 2 * t.node_generation) _ one.1 in
    let three = and_parts (words.child.life == 2 * t.child_generation) _ two.1 in
    let four = and_parts (words.link == t.node) (words.node.content.turn_link == t.child) three.1 in
    record {
      parent_life = eqb-true words.parent_life (2 * t.parent_generation) one.0;
      node_life = eqb-true words.node.life (2 * t.node_generation) two.0;
      child_life = eqb-true words.child.life (2 * t.child_generation) three.0;
      link = eqb-true words.link t.node four.0;
      turn_link = eqb-true words.node.content.turn_link t.child four.1;
    }

pub not_recorded : {t : Turn} {words : TurnWords} → agrees t words ≡ false → IsAsRecorded t words → ⊥
not_recorded {t} {words} e is =
    let all : agrees t words ≡ true = and_from _ _ (eq-eqb words.parent_life (2 * t.parent_generation) is.parent_life)
    (and_from _ _ (eq-eqb words.node.life (2 * t.node_generation) is.node_life)
    (and_from _ _ (eq-eqb words.child.life (2 * t.child_generation) is.child_life)
    (and_from _ _ (eq-eqb words.link t.node is.link) (eq-eqb words.node.content.turn_link t.child is.turn_link)))) in
    false≢true (sym e ∙ all)

apart : (a b : ℕ) → not (a == b) ≡ true → a ≢ b
apart a b e same = false≢true (sym (ap not (eq-eqb a b same)) ∙ e)

parted : (a b : ℕ) → a ≢ b → not (a == b) ≡ true
parted a b ne = ap not (ne_eqb a b ne)

pub aside_by : {t : Turn} {bottom top : ℕ} → stands_aside t bottom top ≡ true → AreAside t bottom top
aside_by {t} {bottom} {top} e =
    let one = and_parts (not (bottom == top)) _ e in
    let two = and_parts (not (bottom == t.parent)) _ one.1 in
    let three = and_parts (not (bottom == t.node)) _ two.1 in
    let four = and_parts (not (bottom == t.child)) _ three.1 in
    let five = and_parts (not (top == t.parent)) _ four.1 in
    let six = and_parts (not (top == t.node)) (not (top == t.child)) five.1 in
    record {
      two = apart bottom top one.0;
      bottom_parent = apart bottom t.parent two.0;
      bottom_node = apart bottom t.node three.0;
      bottom_child = apart bottom t.child four.0;
      top_parent = apart top t.parent five.0;
      top_node = apart top t.node six.0;
      top_child = apart top t.child six.1;
    }

pub not_aside : {t : Turn} {bottom top : ℕ} → stands_aside t bottom top ≡ false → AreAside t bottom top → ⊥
not_aside {t} {bottom} {top} e is =
    let all : stands_aside t bottom top ≡ true = and_from _ _ (parted bottom top is.two)
    (and_from _ _ (parted bottom t.parent is.bottom_parent) (and_from _ _ (parted bottom t.node is.bottom_node)
    (and_from _ _ (parted bottom t.child is.bottom_child) (and_from _ _ (parted top t.parent is.top_parent)
    (and_from _ _ (parted top t.node is.top_node) (parted top t.child is.top_child)))))) in
    false≢true (sym e ∙ all)

-- What a turn leaves, whether it is made or not: all its calls one after another.

-- the slot that a seat answers for
pub same_slot : (o : Option Held) (held : Held) (slot : ℕ) → o ≡ Some held → IsSlotOf (Some slot) o → slot ≡ held.slot
same_slot None held slot e is = absurd is
same_slot (Some other) held slot e is = let same : other ≡ held = cc in is ∙ ap (λ (h : Held). h.slot) same

module _ {k : Shape} {v : View} {t : Turn} (recorded : HasRecorded k v t) (ready : IsReadyToTurn k.room v) {bottom top : ℕ}
    (hand : bottom ≡ ready.hand.slot) (spare : top ≡ ready.spare.slot) where
  -- a stale record
  pub own_found : (AreAside t bottom top → ⊥) → HasTurnedNone v t v
  own_found not_aside = record {
    why = inl (record {
      bottom = ready.hand;
      hand_was = ready.hand_is;
      top = ready.spare;
      spare_was = ready.spare_is;
      not_aside = λ aside. not_aside (subst (λ (z : ℕ × ℕ). AreAside t z.0 z.1) (λ i. (sym hand i, sym spare i)) aside);
      made = λ i. record v.trail { steps = sym (append-nil v.trail.steps) i };
    });
    rest = refl;
  }

  -- a lock was taken
  pub lock_found : {w : View} → HasGivenUp v t w → HasTurnedNone v t w
  lock_found gave = record { why = inr (inl (record { found = gave.found; taken = gave.taken; made = gave.made })); rest = gave.rest }

  module _ (aside : AreAside t bottom top) {v1 : View} (locked : HasLocked v t v1) where
    pub locks_got : v1.locks ≡ three_locks t [] [] []
    locks_got = ap (λ (z : View). z.locks) locked

    pub settled_then : v1.moving ≡ None
    settled_then = ap (λ (z : View). z.moving) locked ∙ ready.settled

    one_aside : (o p : Option Held) (held other : Held) (slot s : ℕ) → o ≡ p → p ≡ Some held → slot ≡ held.slot → slot ≢ s → o ≡ Some other
        → other.slot ≢ s
    one_aside o p held other slot s same is at ne e found = ne (at ∙ ap (λ (h : Held). h.slot) (let q : held ≡ other = cc in q) ∙ found)

    pub three_aside : ThreeAside v1 t
    three_aside = record {
      parent_aside = record {
        not_hand = λ held e. one_aside v1.hands.hand v.hands.hand ready.hand held bottom t.parent
            (ap (λ (z : View). z.hands.hand) locked) ready.hand_is hand aside.bottom_parent e;
        not_spare = λ held e. one_aside v1.hands.spare v.hands.spare ready.spare held top t.parent
            (ap (λ (z : View). z.hands.spare) locked) ready.spare_is spare aside.top_parent e;
      };
      node_aside = record {
        not_hand = λ held e. one_aside v1.hands.hand v.hands.hand ready.hand held bottom t.node
            (ap (λ (z : View). z.hands.hand) locked) ready.hand_is hand aside.bottom_node e;
        not_spare = λ held e. one_aside v1.hands.spare v.hands.spare ready.spare held top t.node
            (ap (λ (z : View). z.hands.spare) locked) ready.spare_is spare aside.top_node e;
      };
      child_aside = record {
        not_hand = λ held e. one_aside v1.hands.hand v.hands.hand ready.hand held bottom t.child
            (ap (λ (z : View). z.hands.hand) locked) ready.hand_is hand aside.bottom_child e;
        not_spare = λ held e. one_aside v1.hands.spare v.hands.spare ready.spare held top t.child
            (ap (λ (z : View). z.hands.spare) locked) ready.spare_is spare aside.top_child e;
      };
    }

    module _ (words : TurnWords) {v2 : View} (loads : HasLoadedAll v1 t words v2) where
      abbrev loaded_view : View
      loaded_view = record v { locks = loaded_locks t words; trail = adding v.trail (lock_steps t ++ load_steps t words) }

      loaded_is : v2 ≡ loaded_view
      loaded_is = loads ∙ ap (λ (z : View). record z { locks = loaded_locks t words; trail = adding z.trail (load_steps t words) }) locked
          ∙ (λ i. record v { locks = loaded_locks t words; trail = steps_both v.trail (lock_steps t) (load_steps t words) i })

      pub three_loaded : (parent node child : List Known) × (v2.locks ≡ three_locks t parent node child)
      three_loaded = (
        parent_known t words,
        node_known t.node t.turn words.node,
        node_known t.child t.turn words.child,
        ap (λ (z : View). z.locks) loaded_is,
      )

      pub settled_loaded : v2.moving ≡ None
      settled_loaded = ap (λ (z : View). z.moving) loaded_is ∙ ready.settled

      -- something isn't as recorded
      pub other_found : {w : View} → (IsAsRecorded t words → ⊥) → HasUnlocked v2 t w → HasTurnedNone v t w
      other_found {w} other unlocked =
          let steps : List StepMade = lock_steps t ++ load_steps t words in
          let is = unlocked ∙ ap (λ (z : View). record z { locks = []; trail = adding z.trail (unlock_steps t) }) loaded_is in
          let made = ap (λ (z : View). z.trail) is ∙ steps_both v.trail steps (unlock_steps t) in
          record {
            why = inr (inr (record { words = words; other = other; made = made }));
            rest = is ∙ (λ i. record v { locks = sym ready.unlocked i; trail = ap (λ (z : View). z.trail) (sym is) i });
          }

      pub still_recorded : HasRecorded k v2 t
      still_recorded = record {
        three = recorded.three;
        reading = recorded.reading;
        kept = subst (λ (z : View). IsIn z.records recorded.reading) (sym loaded_is) recorded.kept;
        parent_age = recorded.parent_age;
        node_age = recorded.node_age;
        child_age = recorded.child_age;
      }

      module _ (as_recorded : IsAsRecorded t words) where
        pub may_replace : MayReplace k.room v2 t words bottom top
        may_replace = record {
          as_recorded = as_recorded;
          locks_are = ap (λ (z : View). z.locks) loaded_is;
          settled = settled_loaded;
          ticket = subst (λ (z : View). 1 ≤ z.allowance.tickets) (sym loaded_is) ready.ticket;
          room = subst (λ (z : View). length z.hands.retired + 1 < k.room) (sym loaded_is) ready.room;
          lower = ready.hand;
          hand_is = (ap (λ (z : View). z.hands.hand) loaded_is ∙ ready.hand_is, sym hand);
          unraised = ready.unraised;
          upper = ready.spare;
          spare_is = (ap (λ (z : View). z.hands.spare) loaded_is ∙ ready.spare_is, sym spare);
          aside = aside;
        }

        module _ {v3 : View} (replaced : HasReplaced v2 t words bottom top v3) where
          pub three_replaced : (parent node child : List Known) × (v3.locks ≡ three_locks t parent node child)
          three_replaced = (
            replaced.parent_words,
            replaced.node_words,
            replaced.child_words,
            ap (λ (z : View). z.locks) replaced.rest,
          )

          pub settled_replaced : v3.moving ≡ None
          settled_replaced = ap (λ (z : View). z.moving) replaced.rest ∙ settled_loaded

          abbrev gone : List Retired
          gone = replaced.node_gone ∷ (replaced.child_gone ∷ [])

          pub turned : {w : View} → HasUnlocked v3 t w → HasTurned v t w
          turned {w} unlocked =
              let loads_so_far : List StepMade = lock_steps t ++ load_steps t words in
              let stores : List StepMade = replace_steps t words bottom top in
              let is = unlocked ∙ ap (λ (z : View). record z { locks = []; trail = adding z.trail (unlock_steps t) }) (replaced.rest
              ∙ ap (λ (z : View). record z {
                allowance = record z.allowance { tickets = z.allowance.tickets - 1 };
                locks = three_locks t replaced.parent_words replaced.node_words replaced.child_words;
                hands = record z.hands { hand = None; spare = None; retired = z.hands.retired ++ gone };
                trail = adding z.trail stores;
                seen = replaced.before ++ rotate_marks t.node t.child;
              }) loaded_is) in
              let made = ap (λ (z : View). z.trail) is
              ∙ ap (λ (z : Trail). adding z (unlock_steps t)) (steps_both v.trail loads_so_far stores)
              ∙ steps_both v.trail (loads_so_far ++ stores) (unlock_steps t) in
              let sees : Sees loaded_view replaced.before = subst (λ z. Sees z replaced.before) loaded_is replaced.sees in
              record {
                words = words;
                as_recorded = as_recorded;
                bottom = ready.hand;
                hand_was = ready.hand_is;
                top = ready.spare;
                spare_was = ready.spare_is;
                made = subst (λ (z : ℕ × ℕ). MakesSteps v (turn_steps t words z.0 z.1) w) (λ i. (hand i, spare i)) made;
                before = replaced.before;
                sees = record { works = sees.works; begins = sees.begins; own = sees.own };
                node_gone = replaced.node_gone;
                node_is = replaced.node_is;
                child_gone = replaced.child_gone;
                child_is = replaced.child_is;
                rest = is ∙ (λ i. record v {
                  allowance = record v.allowance { tickets = v.allowance.tickets - 1 };
                  locks = sym ready.unlocked i;
                  hands = record v.hands { hand = None; spare = None; retired = v.hands.retired ++ gone };
                  trail = ap (λ (z : View). z.trail) (sym is) i;
                  seen = replaced.before ++ rotate_marks t.node t.child;
                });
              }

-- How many rotations were made.
steps_append : (f : Kind → Bool) (a b : List StepMade) → steps_of f (a ++ b) ≡ steps_of f a + steps_of f b
steps_append f [] b = omega arith
steps_append f (x ∷ a) b = let rest = steps_append f a b in omega arith

more_made : (f : Kind → Bool) (v w : View) (steps : List StepMade) → MakesSteps v steps w
    → steps_made f w ≡ steps_made f v + steps_of f steps
more_made f v w steps made =
    let a : steps_of f w.trail.steps + steps_of f w.trail.joined ≡ steps_of f (v.trail.steps ++ steps) + steps_of f v.trail.joined
    = ap (λ (z : Trail). steps_of f z.steps + steps_of f z.joined) made in
    let b = steps_append f v.trail.steps steps in
    omega arith

pub turned_once : {v w : View} {t : Turn} → HasTurned v t w → steps_made is_rotation w ≡ steps_made is_rotation v + 1
turned_once {v} {w} {t} has = more_made is_rotation v w (turn_steps t has.words has.bottom.slot has.top.slot) has.made

-- the steps of a turn that isn't made
abbrev MakesNone : View → View → Type 0
MakesNone v w = (steps : List StepMade) × MakesSteps v steps w × (steps_of is_rotation steps ≡ 0)

makes_none : {v w : View} {t : Turn} → HasTurnedNone v t w → MakesNone v w
makes_none {v} {w} {t} has = ⊎_elim
    (λ (own : FoundOwn v t w). ([], own.made, refl))
    (λ o. ⊎_elim
    (λ (taken : FoundLocked v t w). by taken.found taken.made)
    (λ (other : FoundOther v t w). (_, other.made, refl)) o) has.why
  where
    by : (found : ℕ) → Finds v t found w → MakesNone v w
    by found (inl made) = (_, made, refl)
    by found (inr (inl made)) = (_, made, refl)
    by found (inr (inr made)) = (_, made, refl)

pub turned_none : {v w : View} {t : Turn} → HasTurnedNone v t w → steps_made is_rotation w ≡ steps_made is_rotation v
turned_none {v} {w} {t} has =
    let none = makes_none has in
    let a = more_made is_rotation v w none.0 none.1 in
    let b = none.2 in
    omega arith

-- No mark of the place was left.
pub turned_advanced : {v w : View} {t : Turn} → HasTurned v t w → HasAdvanced v w []
turned_advanced {v} {w} {t} has = advanced_with has.before (rotate_marks t.node t.child)
    (turn_steps t has.words has.bottom.slot has.top.slot, sym (ap (λ (z : Trail). z.steps) has.made)) has.sees (allowed has.rest refl)
    (ap (λ (z : View). z.seen) has.rest)

pub refused_advanced : {v w : View} {t : Turn} → HasTurnedNone v t w → HasAdvanced v w []
refused_advanced {v} {w} {t} has =
    let none = makes_none has in
    advanced_none (none.0, sym (ap (λ (z : Trail). z.steps) none.1)) (allowed has.rest refl) (ap (λ (z : View). z.seen) has.rest)

-- the retired slots
abbrev slots_retired : View → List ℕ
slots_retired v = map (λ (r : Retired). r.slot) v.hands.retired

-- The seat is quiet afterwards.
two_unraised : (a b : Retired) → a.raised ≡ false → b.raised ≡ false → unraised_among (a ∷ (b ∷ [])) ≡ 2
two_unraised a b first second = λ i. cond (first i) 0 1 + (cond (second i) 0 1 + 0)

pub turned_quiet : (s u : SeatAt) (t : Turn) → HasTurned s.view t u.view → IsQuietButHand s → AreListed u → IsQuietSeat u
turned_quiet s u t has quiet are_listed =
    let q = quiet.quiet.view in
    let e = has.rest in
    let v : View = s.view in
    let gone : List Retired = has.node_gone ∷ (has.child_gone ∷ []) in
    let many : unraised_among (v.hands.retired ++ gone) ≡ unraised_among v.hands.retired + 2 =
    unraised_append v.hands.retired gone
    ∙ ap (λ n. unraised_among v.hands.retired + n) (two_unraised has.node_gone has.child_gone has.node_is.unraised has.child_is.unraised) in
    let long : length (v.hands.retired ++ gone) ≡ length v.hands.retired + 2 = length-append v.hands.retired gone in
    let was : unraised_among v.hands.retired ≡ length v.hands.retired = q.raised in
    let all : unraised_among (v.hands.retired ++ gone) ≡ length (v.hands.retired ++ gone) = many ∙ ap (λ n. n + 2) was ∙ sym long in
    record {
      view = record {
        section = ap (λ (z : View). z.section) e ∙ q.section;
        locks = ap (λ (z : View). z.locks) e ∙ q.locks;
        reserved = ap (λ (z : View). z.hands.reserved) e ∙ q.reserved;
        hand = ap (λ (z : View). z.hands.hand) e;
        moving = ap (λ (z : View). z.moving) e ∙ q.moving;
        owes = ap (λ (z : View). z.hands.owes) e ∙ q.owes;
        commit = ap (λ (z : View). z.commit) e ∙ q.commit;
        raised = subst (λ (z : View). unraised_among z.hands.retired ≡ length z.hands.retired) (sym e) all;
      };
      listed = are_listed;
    }

pub refused_listed : (s u : SeatAt) (t : Turn) → HasTurnedNone s.view t u.view → u.listed ≡ s.listed → AreListed s → AreListed u
refused_listed s u t has same listed = record {
  each = λ slot. ap (times slot) same ∙ listed.each slot ∙ ap (λ (z : View). times slot (slots_retired z)) (sym has.rest);
}

pub refused_quiet : (s u : SeatAt) (t : Turn) → HasTurnedNone s.view t u.view → u.listed ≡ s.listed → IsQuietButHand s → IsQuietButHand u
refused_quiet s u t has listed quiet =
    let q = quiet.quiet.view in
    let e = has.rest in
    let still = refused_listed s u t has listed (record { each = quiet.quiet.listed.each }) in
    record {
      quiet = record {
        view = record {
          section = ap (λ (z : View). z.section) e ∙ q.section;
          locks = ap (λ (z : View). z.locks) e ∙ q.locks;
          reserved = ap (λ (z : View). z.hands.reserved) e ∙ q.reserved;
          hand = refl;
          moving = ap (λ (z : View). z.moving) e ∙ q.moving;
          owes = ap (λ (z : View). z.hands.owes) e ∙ q.owes;
          commit = ap (λ (z : View). z.commit) e ∙ q.commit;
          raised = subst (λ (z : View). unraised_among z.hands.retired ≡ length z.hands.retired) (sym e) q.raised;
        };
        listed = record { each = still.each };
      };
    }

in_retired : (rs : List Retired) (s : ℕ) → 1 ≤ times s (map (λ (r : Retired). r.slot) rs)
    → (i : ℕ) × (r : Retired) × ((get_elem? rs i ≡ some r) × (r.slot ≡ s))
in_retired [] s least = absurd (omega arith)
in_retired (r ∷ rs) s least = ⊎_elim
    (λ (e : r.slot ≡ s). (0, r, (refl, e)))
    (λ (ne : r.slot ≢ s).
    let rest = in_retired rs s (let a = times_other s r.slot (map (λ (x : Retired). x.slot) rs) ne in omega arith) in
    (suc rest.0, rest.1, ((rest.2).0, (rest.2).1)))
    (cases_eq r.slot s)

-- The two are the last retired slots, which aren't listed yet.
retired_more : {v w : View} {t : Turn} → HasTurned v t w → slots_retired w ≡ slots_retired v ++ t.node ∷ (t.child ∷ [])
retired_more {v} {w} {t} has =
    ap slots_retired has.rest ∙ map_append v.hands.retired (has.node_gone ∷ (has.child_gone ∷ []))
    ∙ (λ i. slots_retired v ++ has.node_is.slot_is i ∷ (has.child_is.slot_is i ∷ []))

module _ {v w : View} {t : Turn} (listed : List ℕ) (has : HasTurned v t w) (apart : t.child ≢ t.node)
    (each : (s : ℕ) → times s listed ≡ times s (slots_retired v)) where
  times_more : (s : ℕ) → times s (slots_retired w) ≡ times s (slots_retired v) + times s (t.node ∷ (t.child ∷ []))
  times_more s = ap (times s) (retired_more has) ∙ times_append s (slots_retired v) (t.node ∷ (t.child ∷ []))

  pub node_retired : (i : ℕ) × (r : Retired) × IsRetiredAt w i r t.node
  node_retired = in_retired w.hands.retired t.node
      (let a = times_more t.node in let b = times_here t.node (t.child ∷ []) in omega arith)

  pub child_retired : (i : ℕ) × (r : Retired) × IsRetiredAt w i r t.child
  child_retired = in_retired w.hands.retired t.child
      (let a = times_more t.child in let b = times_other t.child t.node (t.child ∷ []) (λ e. apart (sym e)) in
      let c = times_here t.child [] in omega arith)

  pub node_unlisted : TellsApart w → IsIn listed t.node → ⊥
  node_unlisted once = not_in t.node listed
      (let a = times_more t.node in let b = times_here t.node (t.child ∷ []) in let c = once t.node in let e = each t.node in omega arith)

  pub child_unlisted : TellsApart w → IsIn (listed ++ t.node ∷ []) t.child → ⊥
  child_unlisted once = not_in t.child (listed ++ t.node ∷ [])
      (let a = times_more t.child in let b = times_other t.child t.node (t.child ∷ []) (λ e. apart (sym e)) in
      let c = times_here t.child [] in let d = once t.child in let e = each t.child in
      let f = times_append t.child listed (t.node ∷ []) in let g = times_other t.child t.node [] (λ e. apart (sym e)) in omega arith)

  pub both_listed : (s : ℕ) → times s (listed ++ t.node ∷ (t.child ∷ [])) ≡ times s (slots_retired w)
  both_listed s = let a = times_more s in let b = each s in times_append s listed (t.node ∷ (t.child ∷ [])) ∙ omega arith

-- so there is room on the list
pub few_listed : (s : SeatAt) (most : ℕ) → AreListed s → length s.view.hands.retired + 1 < most → length s.listed + 1 < most
few_listed s most listed room = let long = listed_length s listed in omega arith

pub turned_free : {v w : View} {t : Turn} → HasTurned v t w → v.locks ≡ [] → w.locks ≡ []
turned_free has free = ap (λ (z : View). z.locks) has.rest ∙ free

pub no_lock : (w : View) (s : ℕ) → w.locks ≡ [] → HasLock w s → ⊥
no_lock w s free (lock, held) = let e : None ≡ Some lock = ap (λ ls. lock_of ls s) (sym free) ∙ held in cc
