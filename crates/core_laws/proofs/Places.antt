-- Where words stand: no two at one place, all within the row, and those of two groups apart; and which place writes which.
use Rattle.std.proofs.Common.{◌≡◌, ◌≢◌, ℕ, ◌+◌, ◌*◌, ◌<◌, ◌≤◌, ◌⊎◌, inl, inr, true, refl, sym, ap, ◌∙◌, arith, eq-eqb}
use Rattle.std.proofs.lemmas.Bool.{ltb-true, and_parts, and_from}
use Rattle.core_frames.proofs.Views.{same_is}
use Rattle.prcu_marks.specs.declared.access.Access.{Access}
use Rattle.prcu_marks.specs.declared.access.Access.TheVariants.{Load}
use Rattle.prcu_marks.specs.declared.mark.Side.{Side}
use Rattle.prcu_marks.specs.declared.mark.Side.TheVariants.{Left, Right}
use Rattle.core_state.specs.declared.shape.Shape.{Shape}
use Rattle.core_state.specs.declared.shape.Waiter.{Waiter}
use Rattle.core_state.specs.declared.shape.Waiter.TheVariants.{Eer, Domain, Deer}
use Rattle.core_state.specs.declared.words.Field.{Field}
use Rattle.core_state.specs.declared.words.Field.TheVariants.{Clock, Front, Free, Moved, Announced, Stamp, Gate, Count, Row, State, Lock, Life, Key, Value, Link, Tag}
use Rattle.core_state.specs.Memory.{side_number, apart, place_room, class_room, row_room, classes, slot_base, slot_count, same_waiter, waiter_base, waiter_room, word_count, word_of, is_field, same_side, same_field}
use Rattle.core_state.specs.declared.act.Act.TheVariants as act
use Rattle.core_state.specs.declared.act.Part.TheVariants as part
use Rattle.core_state.specs.Acts.{NoPlaceIsShared, FieldsAreWithin, place_words, class_words, slot_words, group_of, GroupsAreApart, PlacesWriteTheirOwn}

abbrev number_of : Waiter → ℕ
number_of Eer = 0
number_of Domain = 1
number_of Deer = 2

at_eer : (w : Waiter) (places : ℕ) → same_waiter w Eer ≡ true → (number_of w ≡ 0) × (waiter_room w places ≡ place_room * places)
at_eer Eer places e = (refl, refl)
at_eer _ places e = absurd (cc)

at_domain : (w : Waiter) (places : ℕ) → same_waiter w Domain ≡ true → (number_of w ≡ 1) × (waiter_room w places ≡ class_room * classes)
at_domain Domain places e = (refl, refl)
at_domain _ places e = absurd (cc)

at_deer : (w : Waiter) (places : ℕ) → same_waiter w Deer ≡ true → (number_of w ≡ 2) × (waiter_room w places ≡ row_room * places)
at_deer Deer places e = (refl, refl)
at_deer _ places e = absurd (cc)

side_small : (b : Side) → (2 ≤ side_number b) × (side_number b ≤ 3)
side_small Left = (omega arith, omega arith)
side_small Right = (omega arith, omega arith)

-- where a field lies
abbrev pub Lies : Shape → Field → Type 0
Lies k Clock = Unit {0}
Lies k Front = Unit {0}
Lies k Free = Unit {0}
Lies k Moved = Unit {0}
Lies k (Announced p) = (number_of k.waiter ≡ 0) × (waiter_room k.waiter k.places ≡ place_room * k.places) × (p < k.places)
Lies k (Stamp p) = (number_of k.waiter ≡ 0) × (waiter_room k.waiter k.places ≡ place_room * k.places) × (p < k.places)
Lies k (Gate c) = (number_of k.waiter ≡ 1) × (waiter_room k.waiter k.places ≡ class_room * classes) × (c < classes)
Lies k (Count c side) = (number_of k.waiter ≡ 1) × (waiter_room k.waiter k.places ≡ class_room * classes) × (c < classes) × (side < 2)
Lies k (Row p c) = (number_of k.waiter ≡ 2) × (waiter_room k.waiter k.places ≡ row_room * k.places) × (p < k.places) × (c < classes)
Lies k (State s) = s < slot_count k
Lies k (Lock s) = s < slot_count k
Lies k (Life s) = s < slot_count k
Lies k (Key s) = s < slot_count k
Lies k (Value s) = s < slot_count k
Lies k (Link s b) = (s < slot_count k) × (2 ≤ side_number b) × (side_number b ≤ 3)
Lies k (Tag s b) = (s < slot_count k) × (2 ≤ side_number b) × (side_number b ≤ 3)

pub lies : (k : Shape) (field : Field) → is_field k field ≡ true → Lies k field
lies k Clock e = tt
lies k Front e = tt
lies k Free e = tt
lies k Moved e = tt
lies k (Announced p) e = let both = and_parts _ _ e in let w = at_eer k.waiter k.places both.0 in (w.0, w.1, ltb-true p k.places both.1)
lies k (Stamp p) e = let both = and_parts _ _ e in let w = at_eer k.waiter k.places both.0 in (w.0, w.1, ltb-true p k.places both.1)
lies k (Gate c) e = let both = and_parts _ _ e in let w = at_domain k.waiter k.places both.0 in (w.0, w.1, ltb-true c classes both.1)
lies k (Count c side) e = let both = and_parts _ _ e in let w = at_domain k.waiter k.places both.0 in let small = and_parts _ _ both.1 in
    (w.0, w.1, ltb-true c classes small.0, ltb-true side 2 small.1)
lies k (Row p c) e = let both = and_parts _ _ e in let w = at_deer k.waiter k.places both.0 in let small = and_parts _ _ both.1 in
    (w.0, w.1, ltb-true p k.places small.0, ltb-true c classes small.1)
lies k (State s) e = ltb-true s (slot_count k) e
lies k (Lock s) e = ltb-true s (slot_count k) e
lies k (Life s) e = ltb-true s (slot_count k) e
lies k (Key s) e = ltb-true s (slot_count k) e
lies k (Value s) e = ltb-true s (slot_count k) e
lies k (Link s b) e = (ltb-true s (slot_count k) e, (side_small b).0, (side_small b).1)
lies k (Tag s b) e = (ltb-true s (slot_count k) e, (side_small b).0, (side_small b).1)

side_of : (a b : Side) → side_number a ≡ side_number b → same_side a b ≡ true
side_of Left Left e = refl
side_of Right Right e = refl
side_of _ _ e = absurd (omega arith)

-- two fields at one place are the same
pub one_field : (k : Shape) (f g : Field) → Lies k f → Lies k g → word_of k f ≡ word_of k g → same_field f g ≡ true
one_field k Clock Clock p q e = refl
one_field k Front Front p q e = refl
one_field k Free Free p q e = refl
one_field k Moved Moved p q e = refl
one_field k (Announced a) (Announced b) p q e = eq-eqb a b (omega arith)
one_field k (Stamp a) (Stamp b) p q e = eq-eqb a b (omega arith)
one_field k (Gate a) (Gate b) p q e = eq-eqb a b (omega arith)
one_field k (Count a s) (Count b t) p q e = and_from _ _ (eq-eqb a b (omega arith)) (eq-eqb s t (omega arith))
one_field k (Row a c) (Row b d) p q e = and_from _ _ (eq-eqb a b (omega arith)) (eq-eqb c d (omega arith))
one_field k (State a) (State b) p q e = eq-eqb a b (omega arith)
one_field k (Lock a) (Lock b) p q e = eq-eqb a b (omega arith)
one_field k (Life a) (Life b) p q e = eq-eqb a b (omega arith)
one_field k (Key a) (Key b) p q e = eq-eqb a b (omega arith)
one_field k (Value a) (Value b) p q e = eq-eqb a b (omega arith)
one_field k (Link a s) (Link b t) p q e = and_from _ _ (eq-eqb a b (omega arith)) (side_of s t (omega arith))
one_field k (Tag a s) (Tag b t) p q e = and_from _ _ (eq-eqb a b (omega arith)) (side_of s t (omega arith))
one_field k _ _ p q e = absurd (omega arith)

inside_case : (k : Shape) (f : Field) → Lies k f → word_of k f < word_count k
inside_case k Clock p = omega arith
inside_case k _ p = omega arith

-- no two fields stand at one place of the row
pub one_place : NoPlaceIsShared
one_place k f g p q e = same_is f g (one_field k f g (lies k f p) (lies k g q) e)

-- a field's word is one of the table's
pub word_inside : FieldsAreWithin
word_inside k field is = inside_case k field (lies k field is)

-- ---- words of two groups

-- a word stands before those of the slots, is one of them, or stands behind them
abbrev Stands : Shape → Field → Type 0
Stands k f = (word_of k f + apart ≤ slot_base)
    ⊎ (((group_of f ≡ slot_words) × (slot_base ≤ word_of k f) × (word_of k f + apart ≤ waiter_base k)) ⊎ (waiter_base k ≤ word_of k f))

stands : (k : Shape) (f : Field) → Lies k f → Stands k f
stands k Clock p = inl (omega arith)
stands k Front p = inl (omega arith)
stands k Free p = inl (omega arith)
stands k Moved p = inl (omega arith)
stands k (Announced a) p = inr (inr (omega arith))
stands k (Stamp a) p = inr (inr (omega arith))
stands k (Gate c) p = inr (inr (omega arith))
stands k (Count c s) p = inr (inr (omega arith))
stands k (Row a c) p = inr (inr (omega arith))
stands k _ p = inr (inl (refl, omega arith, omega arith))

-- two words before the slots'
before_slots : (k : Shape) (f g : Field) → Lies k f → Lies k g → word_of k f < word_of k g → word_of k f + apart ≤ slot_base
    → word_of k g + apart ≤ slot_base → word_of k f + apart ≤ word_of k g
before_slots k Clock Clock p q below u v = absurd (omega arith)
before_slots k Front Front p q below u v = absurd (omega arith)
before_slots k Free Free p q below u v = absurd (omega arith)
before_slots k Moved Moved p q below u v = absurd (omega arith)
before_slots k f g p q below u v = omega arith

-- two words behind the slots'
behind_slots : (k : Shape) (f g : Field) → Lies k f → Lies k g → group_of f ≢ group_of g → word_of k f < word_of k g
    → waiter_base k ≤ word_of k f → waiter_base k ≤ word_of k g → word_of k f + apart ≤ word_of k g
behind_slots k (Stamp a) (Stamp b) p q ne below u v = omega arith
behind_slots k (Announced a) (Stamp b) p q ne below u v = let other : a ≢ b = λ e. ne (ap place_words e) in omega arith
behind_slots k (Gate a) (Count b t) p q ne below u v = let other : a ≢ b = λ e. ne (ap class_words e) in omega arith
behind_slots k (Count a s) (Count b t) p q ne below u v = let other : a ≢ b = λ e. ne (ap class_words e) in omega arith
behind_slots k (Row a c) (Row b d) p q ne below u v = let other : a ≢ b = λ e. ne (ap place_words e) in omega arith
behind_slots k f g p q ne below u v = omega arith

pub groups_are_apart : GroupsAreApart
groups_are_apart k f g is has ne below = by_regions (stands k f (lies k f is)) (stands k g (lies k g has))
  where
    by_regions : Stands k f → Stands k g → word_of k f + apart ≤ word_of k g
    by_regions (inl a) (inl b) = before_slots k f g (lies k f is) (lies k g has) below a b
    by_regions (inl a) (inr (inl b)) = let low = b.1 in omega arith
    by_regions (inl a) (inr (inr b)) = omega arith
    by_regions (inr (inl a)) (inl b) = let low = a.1 in omega arith
    by_regions (inr (inl a)) (inr (inl b)) = absurd (ne (a.0 ∙ sym b.0))
    by_regions (inr (inl a)) (inr (inr b)) = let high = a.2 in omega arith
    by_regions (inr (inr a)) (inl b) = omega arith
    by_regions (inr (inr a)) (inr (inl b)) = let high = b.2 in omega arith
    by_regions (inr (inr a)) (inr (inr b)) = behind_slots k f g (lies k f is) (lies k g has) ne below a b

-- ---- who writes a place's words

loads : {P : Type 0} {a : Access} → a ≡ Load → P ⊎ (a ≡ Load)
loads is = inr is

pub places_write_their_own : PlacesWriteTheirOwn
places_write_their_own place p (act.AnnounceKey key) e = inl (cc)
places_write_their_own place p (act.EnterByStamp key stamp) e = inl (cc)
places_write_their_own place p act.LeaveByStamp e = inl (cc)
places_write_their_own place p (act.EnterByRow key stamp) e = inl (cc)
places_write_their_own place p (act.LeaveByRow c) e = inl (cc)
places_write_their_own place p (act.Fill slot part.Life number) e = absurd (cc)
-- the others are loads, or on words of no place
places_write_their_own place p _ e = first_of (search loads, cc)
