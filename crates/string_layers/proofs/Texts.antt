-- Strings that begin alike, their slices, and the tests of spots.
use Rattle.std.proofs.Common.{◌≡◌, ◌≢◌, ◌⊎◌, inl, inr, ℕ, zero, suc, ◌+◌, ◌-◌, ◌≤◌, Bool, true, false, ◌&&◌, nat_eq, length, take, drop, Option, Some, None, refl, sym, ap, subst, ◌∙◌, arith, if◌then◌else◌}
use Rattle.std.proofs.lemmas.List.{length-take, take-take, drop-take}
use Rattle.std.proofs.lemmas.Slice.Eq.{bytes_eq-Decides}
use Rattle.std.specs.Bool.{Decides}
use Rattle.std.specs.Str.{bytes_eq}
use Rattle.string_layers.specs.Things.{Text, bytes_at, slice, Begins, begins, Layer, Thing, to_leaf, to_layer, to_mark, layer_of, text_of, Spot, same_spot, HasWholeSlice}

pub begins_within : (p t : Text) → Begins p t → length p ≤ length t
begins_within p t b = let e : length (take (length p) t) ≡ length p = ap length b in omega (arith, e, length-take (length p) t)

pub begins_trans : (p q t : Text) → Begins p q → Begins q t → Begins p t
begins_trans p q t b c = sym (take-take (length p) (length q) t (begins_within p q b)) ∙ ap (take (length p)) c ∙ b

-- a slice that is within what two strings have in common is the same in both
pub slice_alike : (p t : Text) (d : ℕ) → Begins p t → d + bytes_at d ≤ length p → slice t d ≡ slice p d
slice_alike p t d b whole =
    let more : length p ≡ d + (length p - d) = omega arith in
    let past : drop d p ≡ take (length p - d) (drop d t) =
    ap (drop d) (sym b) ∙ ap (λ n. drop d (take n t)) more ∙ drop-take d (length p - d) t in
    sym (ap (take (bytes_at d)) past ∙ take-take (bytes_at d) (length p - d) (drop d t) (omega arith))

pub begins_test : (p t : Text) → Decides (begins p t) (Begins p t)
begins_test p t = bytes_eq-Decides (take (length p) t) p

-- two that have a string in common have the same slices in it
pub begins_is : (p t : Text) → Begins p t → begins p t ≡ true
begins_is p t b = (begins_test p t).1 b

pub same_text : (t : Text) → bytes_eq t t ≡ true
same_text t = (bytes_eq-Decides t t).1 refl

pub if_true : {A : Type 0} (b : Bool) (x y : A) → b ≡ true → (if b then x else y) ≡ x
if_true true x y e = refl
if_true false x y e = absurd (cc)

pub if_false : {A : Type 0} (b : Bool) (x y : A) → b ≡ false → (if b then x else y) ≡ y
if_false false x y e = refl
if_false true x y e = absurd (cc)

both : (a b : Bool) → (a && b) ≡ true → (a ≡ true) × (b ≡ true)
both true true e = (refl, refl)
both true false e = absurd (cc)
both false b e = absurd (cc)

all_true : (a b : Bool) → a ≡ true → b ≡ true → (a && b) ≡ true
all_true true true a b = refl
all_true true false a b = b
all_true false x a b = a

pub spot_test : (p q : Spot) → Decides (same_spot p q) (p ≡ q)
spot_test p q = (
  (λ e. let t = both (nat_eq p.within q.within) (bytes_eq p.slice q.slice) e in
      let n : p.within ≡ q.within = grind (arith, t.0) in let s = (bytes_eq-Decides p.slice q.slice).0 t.1 in
      λ i. record { within = n i; slice = s i }),
  (λ e. all_true (nat_eq p.within q.within) (bytes_eq p.slice q.slice) (let n : p.within ≡ q.within = ap (λ (z : Spot). z.within) e in grind (arith, n))
      ((bytes_eq-Decides p.slice q.slice).1 (ap (λ (z : Spot). z.slice) e))),
)

-- a test that answers
pub either : {P : Type 0} (b : Bool) → Decides b P → P ⊎ ((b ≡ false) × (P → ⊥))
either true d = inl (d.0 refl)
either false d = inr (refl, λ p. let e = d.1 p in cc)

pub spot_or_not : (p q : Spot) → (p ≡ q) ⊎ ((same_spot p q ≡ false) × (p ≢ q))
spot_or_not p q = either (same_spot p q) (spot_test p q)

pub text_or_not : (s t : Text) → (s ≡ t) ⊎ (s ≢ t)
text_or_not s t = elim (either (bytes_eq s t) (bytes_eq-Decides s t)) [ inl e ↦ inl e | inr n ↦ inr n.1 ]

-- what leads to a layer
pub layer_text : (x : Thing) (y : Layer) → layer_of x ≡ Some y → text_of x ≡ y.prefix
layer_text (to_leaf x) y e = absurd (cc)
layer_text (to_layer z) y e = ap (λ (w : Layer). w.prefix) (let s : z ≡ y = cc in s)
layer_text (to_mark m z) y e = ap (λ (w : Layer). w.prefix) (let s : z ≡ y = cc in s)

pub layer_whole : (d : ℕ) (x : Thing) (y : Layer) → layer_of x ≡ Some y → HasWholeSlice d x → d + bytes_at d ≤ length y.prefix
layer_whole d (to_leaf x) y e w = absurd (cc)
layer_whole d (to_layer z) y e w = subst (λ (v : Layer). d + bytes_at d ≤ length v.prefix) (let s : z ≡ y = cc in s) w
layer_whole d (to_mark m z) y e w = subst (λ (v : Layer). d + bytes_at d ≤ length v.prefix) (let s : z ≡ y = cc in s) w

pub some_bytes : (d : ℕ) → 4 ≤ bytes_at d
some_bytes zero = omega arith
some_bytes (suc d) = omega arith

pub is_none : {A : Type 0} (o : Option A) → ((x : A) → o ≡ Some x → ⊥) → o ≡ None
is_none None never = refl
is_none (Some x) never = absurd (never x refl)
