-- What the pairs of an index say of strings, at one moment.
-- Source: ffi/include/citrus_string_map.hpp, `find`.
use Rattle.std.specs.Prelude.{ℕ, zero, suc, length, if◌then◌else◌, Option, Some, None}
use Rattle.std.specs.Str.{bytes_eq}
use Rattle.string_layers.specs.Things.{Text, begins, Layer, outermost, Thing, to_leaf, layer_of, Spot, spot_in}

-- what each spot's pair leads to, where there is one
abbrev pub Front : Type 0
Front = Spot → Option Thing

-- the layer in which the way to the string goes on, where what was found leads to one that has it
abbrev pub where_it_has : Text → Option Layer → Option Layer
where_it_has text None = None
where_it_has text (Some y) = if begins y.prefix text then Some y else None

abbrev pub next_on : Text → Option Thing → Option Layer
next_on text None = None
next_on text (Some x) = where_it_has text (layer_of x)

-- Where the way to the string ends that goes on from this layer, in so many hops at most.
abbrev pub way_from : Front → Text → ℕ → Layer → Spot
way_from f text zero y = spot_in y text
way_from f text (suc hops) y = elim (next_on text (f (spot_in y text))) as (λ _. Spot) [
  | None ↦ spot_in y text
  | Some z ↦ way_from f text hops z
]

-- the string's one place: each hop goes past some of its bytes, so that there are no more hops than these
abbrev pub place : Front → Text → Spot
place f text = way_from f text (suc (length text)) outermost

-- what is told of the string where its way ends
abbrev pub told : Text → Option Thing → Option ℕ
told text (Some (to_leaf x)) = if bytes_eq x.text text then Some x.value else None
told text _ = None

-- the map of strings for which the front stands
abbrev pub says : Front → Text → Option ℕ
says f text = told text (f (place f text))
