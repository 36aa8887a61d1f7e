-- What an access makes of a number, in words of 64 bits.
use Rattle.std.proofs.Common.{◌≡◌, ℕ, ◌+◌, ◌-◌, ◌*◌, ◌/◌, ◌%◌, ◌^◌, ◌<◌, ◌≤◌, ◌==◌, Bool, true, false, cond, refl, sym, ap, ◌∙◌, arith, eq-eqb, ne_eqb}
use prog.Atomic.{either}
use mathlib.Core.Logic.{dite}
use native.Mathlib.Decide.{ℕ_discrete}
use Rattle.std.specs.Int.Bits.{bit_xor, differ, xor_step}
use lib.Bits.{xor_zero_r}
use Rattle.prcu_marks.specs.Marks.{StaysWord, left_by}
use Rattle.prcu_marks.specs.declared.access.Access.{Access}
use Rattle.prcu_marks.specs.declared.access.Access.TheVariants.{Load, Store, Exchange, Add, Subtract, Flip}

either_is : (b : Bool) (x y : ℕ) → either b x y ≡ cond b x y
either_is true x y = refl
either_is false x y = refl

-- an exchange-xor with 1 turns the last bit
last_turned : (n : ℕ) → bit_xor n 1 ≡ left_by Flip n
last_turned n = dite (ℕ_discrete (n % 2) 0)
    (λ e. let half : n / 2 * 2 + 1 ≡ n + 1 = omega arith in
    xor_step n 1 ∙ ap (λ r. bit_xor (n / 2) 0 * 2 + differ r 1) e ∙ ap (λ z. z * 2 + 1) (xor_zero_r (n / 2)) ∙ half
    ∙ ap (λ b. cond b (n + 1) (n - 1)) (sym (eq-eqb (n % 2) 0 e)))
    (λ ne. let one : n % 2 ≡ 1 = omega arith in let half : n / 2 * 2 + 0 ≡ n - 1 = omega arith in
    xor_step n 1 ∙ ap (λ r. bit_xor (n / 2) 0 * 2 + differ r 1) one ∙ ap (λ z. z * 2 + 0) (xor_zero_r (n / 2)) ∙ half
    ∙ ap (λ b. cond b (n + 1) (n - 1)) (sym (ne_eqb (n % 2) 0 ne)))

-- what a table of atomic words makes of a number
abbrev pub made_by : Access → ℕ → ℕ
made_by Load n = n
made_by (Store x) n = x
made_by (Exchange old new) n = either (n == old) new n
made_by (Add x) n = (n + x) % 2 ^ 64
made_by (Subtract x) n = (n + (2 ^ 64 - x)) % 2 ^ 64
made_by Flip n = bit_xor n 1

-- It is what the access leaves, where the number stays a word.
pub makes : (a : Access) (n : ℕ) → n < 18446744073709551616 → StaysWord a n → made_by a n ≡ left_by a n
makes Load n small fits = refl
makes (Store x) n small fits = refl
makes (Exchange old new) n small fits = either_is (n == old) new n
makes (Add x) n small fits = let sum : n + x < 18446744073709551616 = fits in omega arith
makes (Subtract x) n small fits = let there : x ≤ n = fits in omega arith
makes Flip n small fits = last_turned n
