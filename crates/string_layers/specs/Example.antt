-- A history in which each kind of event comes: what they ask can be met.
-- Source: ffi/include/citrus_string_map.hpp.
use Rattle.std.specs.Prelude.{ℕ, List, [], ◌∷◌, ◌++◌, Some, None}
use Rattle.string_layers.specs.Things.{Text, Layer, outermost, Leaf, to_leaf, to_layer, to_mark, spot_in}
use Rattle.string_layers.specs.Events.{one, all, Event, enters, leaves, reads, gives_out, gives_back, prepares, clears, adds, exchanges, parts, removes, marks, outwaits, finds_empty, takes_layer, puts_back}
use Rattle.string_layers.specs.Histories.{IsHistory}

-- two strings with one first slice, and another slice
abbrev pub common : Text
common = 1 ∷ 2 ∷ 3 ∷ 4 ∷ 5 ∷ 6 ∷ 7 ∷ []

abbrev pub first : Text
first = common ++ 8 ∷ []

abbrev pub second : Text
second = common ++ 9 ∷ []

abbrev pub other : Text
other = 7 ∷ 6 ∷ 5 ∷ 4 ∷ 3 ∷ 2 ∷ 1 ∷ []

abbrev pub leaf_of : ℕ → Text → Leaf
leaf_of object text = record { object = object; text = text; value = object }

abbrev pub layer : Layer
layer = record { number = 1; prefix = common }

abbrev pub next_layer : Layer
next_layer = record { number = 1; prefix = other }

-- The first string is added, and then the second, in a layer for both.
abbrev pub made : List Event
made = leaves 1
    ∷ parts 1 outermost (to_leaf (leaf_of 10 first)) layer (leaf_of 20 second)
    ∷ prepares layer (to_leaf (leaf_of 20 second))
    ∷ prepares layer (to_leaf (leaf_of 10 first))
    ∷ gives_out layer
    ∷ reads 1 outermost common (Some (to_leaf (leaf_of 10 first)))
    ∷ enters 1 (one second)
    ∷ leaves 1
    ∷ adds 1 outermost (leaf_of 10 first)
    ∷ reads 1 outermost common None
    ∷ enters 1 (one first)
    ∷ []

-- All are visited; the first string gets another value, and is removed.
abbrev pub visited : List Event
visited = leaves 1
    ∷ removes 1 layer (leaf_of 11 first)
    ∷ exchanges 1 layer (leaf_of 10 first) (leaf_of 11 first)
    ∷ reads 1 outermost common (Some (to_layer layer))
    ∷ enters 1 (one first)
    ∷ leaves 1
    ∷ reads 1 layer (9 ∷ []) (Some (to_leaf (leaf_of 20 second)))
    ∷ reads 1 layer (8 ∷ []) (Some (to_leaf (leaf_of 10 first)))
    ∷ reads 1 outermost common (Some (to_layer layer))
    ∷ enters 1 all
    ∷ made

-- The second is removed, and a mark put in the layer's place; it is put back, and there is another mark then, by the event with number 29.
abbrev pub marked : List Event
marked = leaves 1
    ∷ marks 1 outermost layer
    ∷ puts_back outermost 24 layer
    ∷ reads 1 outermost common (Some (to_mark 24 layer))
    ∷ enters 1 (one first)
    ∷ leaves 1
    ∷ marks 1 outermost layer
    ∷ removes 1 layer (leaf_of 20 second)
    ∷ reads 1 outermost common (Some (to_layer layer))
    ∷ enters 1 (one second)
    ∷ visited

-- The layer is taken out, and its number is given to another one, that doesn't come into place.
abbrev pub example : List Event
example = gives_back 1
    ∷ clears (spot_in next_layer other)
    ∷ prepares next_layer (to_leaf (leaf_of 30 other))
    ∷ gives_out next_layer
    ∷ gives_back 1
    ∷ outwaits 35 all
    ∷ outwaits 35 (one first)
    ∷ takes_layer outermost 29 layer
    ∷ finds_empty 29 layer
    ∷ outwaits 30 all
    ∷ outwaits 30 (one second)
    ∷ marked

abbrev pub NeedsCanBeMet : Type 0
NeedsCanBeMet = IsHistory example
