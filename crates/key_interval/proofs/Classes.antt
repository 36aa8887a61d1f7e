-- How far the first key of a class lies above a key; and the greatest class of an interval.
use Rattle.std.proofs.Common.{◌≡◌, ℕ, ◌+◌, ◌-◌, ◌*◌, ◌/◌, ◌%◌, ◌<◌, ◌≤◌, ◌↔◌, IsTrue, leb, refl, arith}
use Rattle.std.proofs.lemmas.Bool.{leb-true, le-leb}
use Rattle.key_interval.specs.Keys.{Interval, MeetsClass, IsLastClass}

abbrev pub steps_to : ℕ → ℕ → ℕ
steps_to low class = (class + 64 - low % 64) % 64

pub class_at_steps : (low class : ℕ) → class < 64 → (low + steps_to low class) % 64 ≡ class
class_at_steps low class fits = omega arith

pub steps_to-least : (low class x : ℕ) → low ≤ x → x % 64 ≡ class → low + steps_to low class ≤ x
steps_to-least low class x le is = omega arith

-- The image is met where the first key of the class isn't above the interval.
pub MeetsClass-by_steps : (keys : Interval) (class : ℕ) → class < 64 → keys.low ≤ keys.high
    → IsTrue (leb (steps_to keys.low class) (keys.high - keys.low)) ↔ MeetsClass keys class
MeetsClass-by_steps keys class fits ordered = (
  λ below.
      let near = leb-true (steps_to keys.low class) (keys.high - keys.low) below in
      (keys.low + steps_to keys.low class, (omega arith, omega arith), class_at_steps keys.low class fits),
  λ met.
      let least = steps_to-least keys.low class met.0 met.1.0 met.2 in
      let inside = met.1.1 in
      le-leb (steps_to keys.low class) (keys.high - keys.low) (omega arith),
)

-- Where the keys go on into another run of 64, the last class is among them.
pub last_across : (keys : Interval) → keys.low / 64 < keys.high / 64 → IsLastClass keys 63
last_across keys across = record {
  met = (64 * (keys.low / 64) + 63, (omega arith, omega (arith, across)), omega arith);
  greatest = λ other more small met. omega (arith, more, small);
}

-- Else it is the class of the greatest key.
pub last_within : (keys : Interval) → keys.low ≤ keys.high → keys.high / 64 ≤ keys.low / 64 → IsLastClass keys (keys.high % 64)
last_within keys ordered within = record {
  met = (keys.high, (ordered, omega arith), refl);
  greatest = λ other more small met. let low = met.1.0 in let high = met.1.1 in let is = met.2 in
      omega (arith, more, low, high, is, within);
}
