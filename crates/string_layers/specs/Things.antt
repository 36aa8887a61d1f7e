-- Strings in layers: slices, the spots of pairs, and what a pair leads to.
-- Source: ffi/include/citrus_string_layers.hpp.
use Rattle.std.specs.Prelude.{◌≡◌, ℕ, zero, suc, ◌+◌, ◌≤◌, Bool, ◌&&◌, nat_eq, List, [], length, take, drop, Option, Some, None}
use Rattle.std.specs.Str.{bytes_eq}

-- the bytes of a string
abbrev pub Text : Type 0
Text = List ℕ

-- so many bytes are in a string's first slice, and in each later one
abbrev pub first_bytes : ℕ
first_bytes = 7

abbrev pub later_bytes : ℕ
later_bytes = 4

abbrev pub bytes_at : ℕ → ℕ
bytes_at zero = first_bytes
bytes_at (suc depth) = later_bytes

-- The slice of a string behind so many bytes. It has fewer bytes where the string ends there.
abbrev pub slice : Text → ℕ → Text
slice text depth = take (bytes_at depth) (drop depth text)

abbrev pub Begins : Text → Text → Type 0
Begins prefix text = take (length prefix) text ≡ prefix

abbrev pub begins : Text → Text → Bool
begins prefix text = bytes_eq (take (length prefix) text) prefix

-- Strings that begin with one prefix.
pub record Layer : Type 0 where
  pub number : ℕ
  pub prefix : Text

-- what stands for the pairs of first slices: it has all strings, and stands from the first moment
abbrev pub outermost : Layer
outermost = record { number = zero; prefix = [] }

-- A string and its value. The object tells it from others that are alike.
pub record Leaf : Type 0 where
  pub object : ℕ
  pub text : Text
  pub value : ℕ

-- What a pair leads to. A mark is told from others of the same layer by the moment at which it was put in place.
pub data Thing : Type 0 where
  to_leaf : Leaf → Thing
  to_layer : Layer → Thing
  to_mark : ℕ → Layer → Thing

-- the layer to which it leads, by a mark or not
abbrev pub layer_of : Thing → Option Layer
layer_of (to_leaf x) = None
layer_of (to_layer y) = Some y
layer_of (to_mark moment y) = Some y

-- the string that it is for, or the prefix
abbrev pub text_of : Thing → Text
text_of (to_leaf x) = x.text
text_of (to_layer y) = y.prefix
text_of (to_mark moment y) = y.prefix

-- The key of a pair: the number of the layer that has it, and a slice.
pub record Spot : Type 0 where
  pub within : ℕ
  pub slice : Text

abbrev pub same_spot : Spot → Spot → Bool
same_spot p q = nat_eq p.within q.within && bytes_eq p.slice q.slice

-- where a layer has the string's pair
abbrev pub spot_in : Layer → Text → Spot
spot_in y text = record { within = y.number; slice = slice text (length y.prefix) }

-- What leads to a layer stands only above what has a whole slice more in common.
abbrev pub HasWholeSlice : ℕ → Thing → Type 0
HasWholeSlice depth (to_leaf x) = Unit {0}
HasWholeSlice depth (to_layer y) = depth + bytes_at depth ≤ length y.prefix
HasWholeSlice depth (to_mark moment y) = depth + bytes_at depth ≤ length y.prefix

-- The thing may stand in the layer.
pub record Belongs (y : Layer) (x : Thing) : Type 0 where
  pub begins : Begins y.prefix (text_of x)
  pub whole : HasWholeSlice (length y.prefix) x
