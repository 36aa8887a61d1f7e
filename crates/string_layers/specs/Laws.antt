-- The laws of strings in layers.
-- Source: ffi/include/citrus_string_map.hpp.
use Rattle.std.specs.Prelude.{◌≡◌, ◌≢◌, ◌⊎◌, ℕ, zero, ◌<◌, length, List, ◌∷◌, ◌++◌, Option, Some, None}
use Rattle.string_layers.specs.Things.{Text, slice, Begins, Layer, Leaf, Thing, to_leaf, layer_of, text_of, Spot}
use Rattle.string_layers.specs.Fronts.{next_on, place, told, says}
use Rattle.string_layers.specs.Events.{Aim, one, all, Event, reads, gives_back, prepares, clears, adds, exchanges, parts, removes, front, Life, free, unseen, in_place, taken_out, life, Section, section}
use Rattle.string_layers.specs.Histories.{Outwaited, IsAmong, Reaches, IsEmpty, IsHistory}

-- the layer is in place
abbrev pub IsPlaced : List Event → Layer → Type 0
IsPlaced h y = life h y.number ≡ in_place y.prefix

-- the layer that has the pair is in place
abbrev pub Stands : List Event → Spot → Type 0
Stands h at = (prefix : Text) × (life h at.within ≡ in_place prefix)

-- A pair in place leads to the layer, by a mark or not.
pub record LeadsTo (h : List Event) (y : Layer) (at : Spot) : Type 0 where
  pub stands : Stands h at
  pub by : Thing
  pub is : front h at ≡ Some by
  pub leads : layer_of by ≡ Some y

-- A leaf of the string with this value is in place.
pub record IsThere (h : List Event) (text : Text) (value : ℕ) : Type 0 where
  pub at : Spot
  pub stands : Stands h at
  pub leaf : Leaf
  pub is : front h at ≡ Some (to_leaf leaf)
  pub text_is : leaf.text ≡ text
  pub value_is : leaf.value ≡ value

-- Each string has one place; the front says of it what the leaf in place says; each layer in place has exactly one pair that leads to it;
-- and a layer that was taken out has none in it.
pub record IsTrie (h : List Event) : Type 0 where
  pub one_place : (at : Spot) (x : Leaf) → Stands h at → front h at ≡ Some (to_leaf x) → at ≡ place (front h) x.text
  pub says_it : (text : Text) (value : ℕ) → IsThere h text value → says (front h) text ≡ Some value
  pub no_other : (text : Text) (value : ℕ) → says (front h) text ≡ Some value → IsThere h text value
  pub led_to : (y : Layer) → IsPlaced h y → y.number ≢ zero → (at : Spot) × LeadsTo h y at
  pub one_pair : (y : Layer) (at other : Spot) → LeadsTo h y at → LeadsTo h y other → at ≡ other
  pub out : (number : ℕ) (prefix : Text) (moment : ℕ) → life h number ≡ taken_out prefix moment → IsEmpty h number

abbrev pub FrontsAreTries : Type 0
FrontsAreTries = (h : List Event) → IsHistory h → IsTrie h

-- At a moment since then a pair in place led to it.
pub record WasInPlace (h : List Event) (since : ℕ) (x : Thing) : Type 0 where
  pub later : List Event
  pub before : List Event
  pub is : h ≡ later ++ before
  pub after : since < length before
  pub at : Spot
  pub stands : Stands before at
  pub had : front before at ≡ Some x

-- At a moment since then the front said this of the string.
pub record WasSaid (h : List Event) (since : ℕ) (text : Text) (answer : Option ℕ) : Type 0 where
  pub later : List Event
  pub before : List Event
  pub is : h ≡ later ++ before
  pub after : since < length before
  pub said : says (front before) text ≡ answer

-- What an update makes of a string, by what it tells.
pub record Update : Type 0 where
  pub text : Text
  pub was : Option ℕ
  pub now : Option ℕ

abbrev pub update_of : Event → Option Update
update_of (adds c y x) = Some (record { text = x.text; was = None; now = Some x.value })
update_of (exchanges c y old x) = Some (record { text = x.text; was = Some old.value; now = Some x.value })
update_of (parts c y old by x) = Some (record { text = x.text; was = None; now = Some x.value })
update_of (removes c y x) = Some (record { text = x.text; was = Some x.value; now = None })
update_of _ = None

-- The map had that of the string just before, and has this of it now; and of all other strings what it had.
pub record ChangesOne (h : List Event) (e : Event) (u : Update) : Type 0 where
  pub was : says (front h) u.text ≡ u.was
  pub now : says (front (e ∷ h)) u.text ≡ u.now
  pub others : (text : Text) → text ≢ u.text → says (front (e ∷ h)) text ≡ says (front h) text

abbrev pub Changes : List Event → Event → Option Update → Type 0
Changes h e None = (text : Text) → says (front (e ∷ h)) text ≡ says (front h) text
Changes h e (Some u) = ChangesOne h e u

-- Each event changes the map at one string or nowhere, and tells what the map had of that just before.
abbrev pub UpdatesChangeOne : Type 0
UpdatesChangeOne = (h : List Event) (e : Event) → IsHistory (e ∷ h) → Changes h e (update_of e)

-- A section looks a string up, by reads at later and later moments. Where a read is the last of a way, the map said at some moment since the
-- section was entered what is told then.
abbrev pub WaysEndWithWhatWasSaid : Type 0
WaysEndWithWhatWasSaid = (h : List Event) (c : ℕ) (s : Section) (text bytes : Text) (y : Layer) (x : Option Thing)
    → IsHistory (reads c y bytes x ∷ h) → section h c ≡ Some s → s.aim ≡ one text → next_on text x ≡ None
    → WasSaid h s.since text (told text x)

-- So it is of each string whose pair a section for all reads in a layer that has it, and doesn't go on from there: it tells of the string what
-- the map said at some moment since the section was entered.
abbrev pub AllAreTold : Type 0
AllAreTold = (h : List Event) (c : ℕ) (s : Section) (text : Text) (y : Layer) (x : Option Thing)
    → IsHistory (reads c y (slice text (length y.prefix)) x ∷ h) → section h c ≡ Some s → Begins y.prefix text → next_on text x ≡ None
    → WasSaid h s.since text (told text x)

-- A leaf that is read in a section, also in one for all, is what the map says of its string at that moment.
abbrev pub LeavesAreSaid : Type 0
LeavesAreSaid = (h : List Event) (c : ℕ) (y : Layer) (bytes : Text) (x : Leaf) → IsHistory (reads c y bytes (Some (to_leaf x)) ∷ h)
    → says (front h) x.text ≡ Some x.value

-- A wait for this string is for the section, too: it has the key, or is for all.
abbrev pub IsFor : Aim → Text → Type 0
IsFor (one text) other = slice text 0 ≡ slice other 0
IsFor all other = Unit {0}

-- What a section found was in place at a moment since it was entered, and a wait for its string is for the section.
abbrev pub WhatIsFoundWasInPlace : Type 0
WhatIsFoundWasInPlace = (h : List Event) (c : ℕ) (s : Section) (x : Thing) → IsHistory h → section h c ≡ Some s → IsAmong x s.found
    → WasInPlace h s.since x × IsFor s.aim (text_of x)

-- behind this moment it was in place at none
abbrev pub IsOutSince : List Event → ℕ → Thing → Type 0
IsOutSince h moment x = (later before : List Event) → h ≡ later ++ before → moment < length before → (at : Spot) → Stands before at
    → front before at ≢ Some x

-- What left the index is on no way that begins later: when all sections are left that a wait is for which is begun then, none has it.
abbrev pub NoSectionHasIt : Type 0
NoSectionHasIt = (h : List Event) (moment c : ℕ) (s : Section) (x : Thing) → IsHistory h → IsOutSince h moment x → Outwaited h moment (text_of x)
    → section h c ≡ Some s → IsAmong x s.found → ⊥

-- So it is with the number of a layer that was taken out: no section comes to a layer by it.
abbrev pub NoSectionComesToIt : Type 0
NoSectionComesToIt = (h : List Event) (number moment c : ℕ) (prefix : Text) (s : Section) (y : Layer) → IsHistory h
    → life h number ≡ taken_out prefix moment → Outwaited h moment prefix → section h c ≡ Some s → Reaches s y → y.number ≢ number

-- the prefix for which a number is given out
abbrev pub prefix_of : Life → Option Text
prefix_of free = None
prefix_of (unseen prefix) = Some prefix
prefix_of (in_place prefix) = Some prefix
prefix_of (taken_out prefix moment) = Some prefix

-- A number keeps its prefix until it is given back.
abbrev pub NumbersKeepTheirPrefix : Type 0
NumbersKeepTheirPrefix = (h : List Event) (e : Event) (number : ℕ) (prefix : Text) → IsHistory (e ∷ h) → prefix_of (life h number) ≡ Some prefix
    → (prefix_of (life (e ∷ h) number) ≡ Some prefix) ⊎ (e ≡ gives_back number)

-- who makes the layer with this number puts a pair in it, or takes one out
abbrev pub IsMakers : ℕ → Event → Type 0
IsMakers number (prepares y x) = y.number ≡ number
IsMakers number (clears at) = at.within ≡ number
IsMakers number _ = ⊥

-- Who makes a layer finds in it what he put there, and nothing else: its number had no pair when it was given out, and nobody else changes one.
pub record IsMakersAlone (h : List Event) (e : Event) (number : ℕ) : Type 0 where
  pub none : life h number ≡ free → IsEmpty h number
  pub alone : (prefix : Text) → life h number ≡ unseen prefix → (bytes : Text) → let at : Spot = record { within = number; slice = bytes } in
      (front (e ∷ h) at ≡ front h at) ⊎ IsMakers number e

abbrev pub NewLayersAreTheirMakers : Type 0
NewLayersAreTheirMakers = (h : List Event) (e : Event) (number : ℕ) → IsHistory (e ∷ h) → IsMakersAlone h e number
