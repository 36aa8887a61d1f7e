-- What happens to an index with strings in layers, and what it comes to. Histories are lists of events, the last one first.
-- Source: ffi/include/citrus_string_map.hpp.
use Rattle.std.specs.Prelude.{ℕ, zero, suc, length, nat_eq, if◌then◌else◌, List, [], ◌∷◌, Option, Some, None}
use Rattle.string_layers.specs.Things.{Text, Layer, Leaf, Thing, to_leaf, to_layer, to_mark, text_of, Spot, same_spot, spot_in}
use Rattle.string_layers.specs.Fronts.{Front}

-- What a section is for: one string, or all.
pub data Aim : Type 0 where
  one : Text → Aim
  all : Aim

pub data Event : Type 0 where
  -- a caller enters a section, and leaves it
  enters : (caller : ℕ) → Aim → Event
  leaves : (caller : ℕ) → Event
  -- in its section the caller reads a pair of the layer, the one with this slice
  reads : (caller : ℕ) → Layer → Text → Option Thing → Event
  -- a number is given out for a layer that is to be made, and given back
  gives_out : Layer → Event
  gives_back : ℕ → Event
  -- who makes a layer puts a pair in it, and takes it out again
  prepares : Layer → Thing → Event
  clears : Spot → Event
  -- a leaf where there is none, in the layer
  adds : (caller : ℕ) → Layer → Leaf → Event
  -- a leaf in the layer by another one of the same string
  exchanges : (caller : ℕ) → Layer → Leaf → Leaf → Event
  -- what stands in the layer by another layer, that has it and a new leaf
  parts : (caller : ℕ) → Layer → Thing → Layer → Leaf → Event
  -- a leaf is taken out of the layer
  removes : (caller : ℕ) → Layer → Leaf → Event
  -- a layer, the second one, that stands in the first, by a mark
  marks : (caller : ℕ) → Layer → Layer → Event
  -- a wait is over that was begun at this moment, for the sections of a string, or for those for all
  outwaits : (begun : ℕ) → Aim → Event
  -- who put a mark in place at this moment finds the layer without pairs, behind a wait
  finds_empty : (moment : ℕ) → Layer → Event
  -- the mark is taken out with its layer, the second one; or that is put back
  takes_layer : Layer → (moment : ℕ) → Layer → Event
  puts_back : Layer → (moment : ℕ) → Layer → Event

-- The pair that an update changes, and what it leads to then.
pub record Change : Type 0 where
  pub at : Spot
  pub now : Option Thing

-- what an event changes of the pairs, at this moment
abbrev pub change_of : ℕ → Event → Option Change
change_of moment (prepares y x) = Some (record { at = spot_in y (text_of x); now = Some x })
change_of moment (clears at) = Some (record { at = at; now = None })
change_of moment (adds c y x) = Some (record { at = spot_in y x.text; now = Some (to_leaf x) })
change_of moment (exchanges c y old x) = Some (record { at = spot_in y x.text; now = Some (to_leaf x) })
change_of moment (parts c y old by x) = Some (record { at = spot_in y by.prefix; now = Some (to_layer by) })
change_of moment (removes c y x) = Some (record { at = spot_in y x.text; now = None })
change_of moment (marks c y z) = Some (record { at = spot_in y z.prefix; now = Some (to_mark moment z) })
change_of moment (takes_layer y put z) = Some (record { at = spot_in y z.prefix; now = None })
change_of moment (puts_back y put z) = Some (record { at = spot_in y z.prefix; now = Some (to_layer z) })
change_of moment _ = None

abbrev pub after : Option Change → Front → Front
after None f at = f at
after (Some change) f at = if same_spot change.at at then change.now else f at

-- the pairs when all this has happened
abbrev pub front : List Event → Front
front [] at = None
front (e ∷ h) at = after (change_of (length h) e) (front h) at

-- The life of a number: it is given out to nobody; or to who makes a layer with this prefix, which nobody knows yet; the layer is in place;
-- it was taken out at this moment.
pub data Life : Type 0 where
  free : Life
  unseen : Text → Life
  in_place : Text → Life
  taken_out : Text → ℕ → Life

-- whose life an event changes, and what it is then
pub record NewLife : Type 0 where
  pub number : ℕ
  pub life : Life

abbrev pub life_of : ℕ → Event → Option NewLife
life_of moment (gives_out y) = Some (record { number = y.number; life = unseen y.prefix })
life_of moment (gives_back number) = Some (record { number = number; life = free })
life_of moment (parts c y old by x) = Some (record { number = by.number; life = in_place by.prefix })
life_of moment (takes_layer y put z) = Some (record { number = z.number; life = taken_out z.prefix moment })
life_of moment _ = None

abbrev pub after_life : Option NewLife → (ℕ → Life) → ℕ → Life
after_life None lives n = lives n
after_life (Some new) lives n = if nat_eq new.number n then new.life else lives n

abbrev pub life : List Event → ℕ → Life
life [] zero = in_place []
life [] (suc n) = free
life (e ∷ h) n = after_life (life_of (length h) e) (life h) n

-- An open section: when it was entered, what for, and what was found in it.
pub record Section : Type 0 where
  pub since : ℕ
  pub aim : Aim
  pub found : List Thing

abbrev pub with_found : Thing → Option Section → Option Section
with_found x None = None
with_found x (Some s) = Some (record s { found = x ∷ s.found })

-- a caller's section, where one is open
abbrev pub section : List Event → ℕ → Option Section
section [] c = None
section (enters d aim ∷ h) c = if nat_eq d c then Some (record { since = length h; aim = aim; found = [] }) else section h c
section (leaves d ∷ h) c = if nat_eq d c then None else section h c
section (reads d y bytes (Some x) ∷ h) c = if nat_eq d c then with_found x (section h c) else section h c
section (_ ∷ h) c = section h c
