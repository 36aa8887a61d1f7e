-- Which histories there are: what a map of strings asks of its calls.
-- Source: ffi/include/citrus_string_map.hpp.
use Rattle.std.specs.Prelude.{◌≡◌, ◌≢◌, ◌⊎◌, ℕ, ◌<◌, ◌≤◌, length, List, [], ◌∷◌, Option, Some, None}
use Rattle.string_layers.specs.Things.{Text, slice, Begins, Layer, outermost, Leaf, Thing, to_leaf, to_layer, to_mark, layer_of, text_of, spot_in, Belongs}
use Rattle.string_layers.specs.Events.{Aim, one, all, Event, enters, leaves, reads, gives_out, gives_back, prepares, clears, adds, exchanges, parts, removes, marks, outwaits, finds_empty, takes_layer, puts_back, front, Life, free, unseen, taken_out, life, Section, section}

-- Sections have one key where their strings have one first slice; those for all have a key of their own.
abbrev pub HasKeyOf : Aim → Aim → Type 0
HasKeyOf (one text) (one other) = slice text 0 ≡ slice other 0
HasKeyOf all all = Unit {0}
HasKeyOf _ _ = ⊥

-- When a wait is over, each section with its key that was entered before it was begun has been left.
abbrev pub IsOver : List Event → ℕ → Aim → Type 0
IsOver h begun aim = (c : ℕ) (s : Section) → section h c ≡ Some s → HasKeyOf aim s.aim → begun ≤ s.since

-- A wait with this key is over that was begun behind the moment.
abbrev pub WasWaited : List Event → ℕ → Aim → Type 0
WasWaited [] moment aim = ⊥
WasWaited (outwaits begun other ∷ h) moment aim = ((moment < begun) × HasKeyOf other aim) ⊎ WasWaited h moment aim
WasWaited (_ ∷ h) moment aim = WasWaited h moment aim

-- All were waited for, behind the moment, who may have come to what is for the string.
pub record Outwaited (h : List Event) (moment : ℕ) (text : Text) : Type 0 where
  pub its : WasWaited h moment (one text)
  pub alls : WasWaited h moment all

abbrev pub IsAmong : Thing → List Thing → Type 0
IsAmong x [] = ⊥
IsAmong x (y ∷ ys) = (x ≡ y) ⊎ IsAmong x ys

-- The way of a section goes on in a layer that has its string.
abbrev pub GoesOnIn : Aim → Layer → Type 0
GoesOnIn (one text) y = Begins y.prefix text
GoesOnIn all y = Unit {0}

-- The section came to the layer: by what it found, a mark or not; and not by a mark.
pub data Reaches (s : Section) : Layer → Type 0 where
  from_top : Reaches s outermost
  by_found : (x : Thing) (y : Layer) → IsAmong x s.found → layer_of x ≡ Some y → GoesOnIn s.aim y → Reaches s y

pub data ReachesUnmarked (s : Section) : Layer → Type 0 where
  unmarked_top : ReachesUnmarked s outermost
  by_layer : (y : Layer) → IsAmong (to_layer y) s.found → GoesOnIn s.aim y → ReachesUnmarked s y

-- the caller is in a section that came to the layer
pub record IsIn (h : List Event) (c : ℕ) (y : Layer) : Type 0 where
  pub its : Section
  pub inside : section h c ≡ Some its
  pub reaches : Reaches its y

pub record IsInUnmarked (h : List Event) (c : ℕ) (y : Layer) : Type 0 where
  pub its : Section
  pub inside : section h c ≡ Some its
  pub reaches : ReachesUnmarked its y

-- the layer with this number has no pair
abbrev pub IsEmpty : List Event → ℕ → Type 0
IsEmpty h number = (bytes : Text) → front h (record { within = number; slice = bytes }) ≡ None

-- a string is looked up at its own slices, and who looks at all looks at each
abbrev pub LooksAt : Aim → Layer → Text → Type 0
LooksAt (one text) y bytes = bytes ≡ slice text (length y.prefix)
LooksAt all y bytes = Unit {0}

-- The caller reads in its section what the pair leads to at that moment.
pub record MayRead (h : List Event) (c : ℕ) (y : Layer) (bytes : Text) (x : Option Thing) : Type 0 where
  pub its : Section
  pub inside : section h c ≡ Some its
  pub reaches : Reaches its y
  pub looks : LooksAt its.aim y bytes
  pub told : front h (record { within = y.number; slice = bytes }) ≡ x

-- A number goes back where the layer was never in place and has no pair; or when all are gone who may have come to it.
abbrev pub MayGiveBack : Life → List Event → ℕ → Type 0
MayGiveBack (unseen prefix) h number = IsEmpty h number
MayGiveBack (taken_out prefix moment) h number = Outwaited h moment prefix
MayGiveBack _ h number = ⊥

abbrev pub IsUnseen : Life → Type 0
IsUnseen (unseen prefix) = Unit {0}
IsUnseen _ = ⊥

abbrev pub IsNoMark : Thing → Type 0
IsNoMark (to_mark moment y) = ⊥
IsNoMark _ = Unit {0}

-- The leaf is added where the layer has none, by a section that didn't find a mark in the layer's place.
pub record MayAdd (h : List Event) (c : ℕ) (y : Layer) (x : Leaf) : Type 0 where
  pub caller : IsInUnmarked h c y
  pub belongs : Begins y.prefix x.text
  pub none : front h (spot_in y x.text) ≡ None

-- The pair led to that leaf, so it does to this one.
pub record MayExchange (h : List Event) (c : ℕ) (y : Layer) (old x : Leaf) : Type 0 where
  pub caller : IsIn h c y
  pub same : x.text ≡ old.text
  pub was : front h (spot_in y x.text) ≡ Some (to_leaf old)

-- The layer that nobody knows has just these two, at two slices.
pub record HasJust (h : List Event) (by : Layer) (old : Thing) (x : Leaf) : Type 0 where
  pub old_belongs : Belongs by old
  pub leaf_belongs : Begins by.prefix x.text
  pub apart : slice (text_of old) (length by.prefix) ≢ slice x.text (length by.prefix)
  pub has_old : front h (spot_in by (text_of old)) ≡ Some old
  pub has_leaf : front h (spot_in by x.text) ≡ Some (to_leaf x)
  pub no_other : (bytes : Text) → bytes ≢ slice (text_of old) (length by.prefix) → bytes ≢ slice x.text (length by.prefix)
      → front h (record { within = by.number; slice = bytes }) ≡ None

-- A leaf or a layer led on, and now a layer above it does.
pub record MayPart (h : List Event) (c : ℕ) (y : Layer) (old : Thing) (by : Layer) (x : Leaf) : Type 0 where
  pub caller : IsIn h c y
  pub unknown : life h by.number ≡ unseen by.prefix
  pub belongs : Belongs y (to_layer by)
  pub was : front h (spot_in y by.prefix) ≡ Some old
  pub has : HasJust h by old x

pub record MayRemove (h : List Event) (c : ℕ) (y : Layer) (x : Leaf) : Type 0 where
  pub caller : IsIn h c y
  pub was : front h (spot_in y x.text) ≡ Some (to_leaf x)

pub record MayMark (h : List Event) (c : ℕ) (y z : Layer) : Type 0 where
  pub caller : IsIn h c y
  pub was : front h (spot_in y z.prefix) ≡ Some (to_layer z)

-- At some moment, behind a wait for all who may have seen the layer without its mark, it had no pair.
pub record MayFindEmpty (h : List Event) (moment : ℕ) (y : Layer) : Type 0 where
  pub outwaited : Outwaited h moment y.prefix
  pub none : IsEmpty h y.number

abbrev pub WasEmpty : List Event → ℕ → Layer → Type 0
WasEmpty [] moment y = ⊥
WasEmpty (finds_empty when z ∷ h) moment y = ((when ≡ moment) × (z ≡ y)) ⊎ WasEmpty h moment y
WasEmpty (_ ∷ h) moment y = WasEmpty h moment y

-- The mark is taken out, where it stands still and the layer was empty behind it.
pub record MayTakeLayer (h : List Event) (y : Layer) (moment : ℕ) (z : Layer) : Type 0 where
  pub was : front h (spot_in y z.prefix) ≡ Some (to_mark moment z)
  pub empty : WasEmpty h moment z

-- What an event asks of those before it.
abbrev pub May : List Event → Event → Type 0
May h (enters c aim) = section h c ≡ None
May h (leaves c) = Unit {0}
May h (reads c y bytes x) = MayRead h c y bytes x
May h (gives_out y) = life h y.number ≡ free
May h (gives_back number) = MayGiveBack (life h number) h number
May h (prepares y x) = IsUnseen (life h y.number) × IsNoMark x
May h (clears at) = IsUnseen (life h at.within)
May h (adds c y x) = MayAdd h c y x
May h (exchanges c y old x) = MayExchange h c y old x
May h (parts c y old by x) = MayPart h c y old by x
May h (removes c y x) = MayRemove h c y x
May h (marks c y z) = MayMark h c y z
May h (outwaits begun aim) = (begun ≤ length h) × IsOver h begun aim
May h (finds_empty moment y) = MayFindEmpty h moment y
May h (takes_layer y moment z) = MayTakeLayer h y moment z
May h (puts_back y moment z) = front h (spot_in y z.prefix) ≡ Some (to_mark moment z)

abbrev pub IsHistory : List Event → Type 0
IsHistory [] = Unit {0}
IsHistory (e ∷ h) = IsHistory h × May h e
