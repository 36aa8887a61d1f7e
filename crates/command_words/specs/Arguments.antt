-- How arguments are spelled, and what arguments in whatever order come to.
-- Source: docs/FORMATS.md, "Commands".
use Rattle.std.specs.Prelude.{◌≡◌, ◌⊎◌, ℕ, ◌^◌, ◌<◌, Bool, true, false, List, [], ◌∷◌, ◌++◌, codes, decimal, option_to_list}
use Rattle.core_state.specs.declared.shape.Waiter.{Waiter}
use Rattle.core_state.specs.declared.shape.Waiter.TheVariants.{Eer, Domain, Deer}
use Rattle.command_words.specs.declared.arguments.Argument.{Argument}
use Rattle.command_words.specs.declared.arguments.Argument.TheVariants.{Slots, Schedule, Waits, Cookies, Number}
use Rattle.command_words.specs.declared.arguments.Numbers.{Numbers}
use Rattle.command_words.specs.declared.arguments.Numbers.TheVariants.{Zero, One, Two, Three}
use Rattle.command_words.specs.declared.arguments.Arguments.{Arguments}

-- An option is its name and its value, as two words or joined by `=`. A flag is its name alone.
abbrev pub IsOption : List ℕ → List ℕ → List (List ℕ) → Type 0
IsOption name value words = (words ≡ name ∷ value ∷ []) ⊎ (words ≡ (name ++ (codes "=" ++ value)) ∷ [])

-- the word for a waiter
abbrev pub waiter_word : Waiter → List ℕ
waiter_word Eer = codes "eer"
waiter_word Domain = codes "d"
waiter_word Deer = codes "deer"

-- the words that spell one argument, with a number that fits a `u64`
abbrev pub IsSpelled : Argument → List (List ℕ) → Type 0
IsSpelled (Slots n) words = (n < 2 ^ 64) × IsOption (codes "--slots") (decimal n) words
IsSpelled (Schedule n) words = (n < 2 ^ 64) × IsOption (codes "--schedule") (decimal n) words
IsSpelled (Waits waiter) words = IsOption (codes "--waiter") (waiter_word waiter) words
IsSpelled Cookies words = words ≡ codes "--cookies" ∷ []
IsSpelled (Number n) words = (n < 2 ^ 64) × (words ≡ decimal n ∷ [])

-- the words that spell these arguments one after another
abbrev pub AreSpelled : List Argument → List (List ℕ) → Type 0
AreSpelled [] words = words ≡ []
AreSpelled (argument ∷ arguments) words =
    (first rest : List (List ℕ)) × (words ≡ first ++ rest) × IsSpelled argument first × AreSpelled arguments rest

-- What one argument is of each kind: nothing, or what it gives.
abbrev pub slots_in : Argument → List ℕ
slots_in (Slots n) = n ∷ []
slots_in _ = []

abbrev pub schedules_in : Argument → List ℕ
schedules_in (Schedule n) = n ∷ []
schedules_in _ = []

abbrev pub waiters_in : Argument → List Waiter
waiters_in (Waits waiter) = waiter ∷ []
waiters_in _ = []

abbrev pub cookies_in : Argument → List Bool
cookies_in Cookies = true ∷ []
cookies_in _ = []

abbrev pub numbers_in : Argument → List ℕ
numbers_in (Number n) = n ∷ []
numbers_in _ = []

-- a flag that stands once, or not at all
abbrev pub flag_list : Bool → List Bool
flag_list true = true ∷ []
flag_list false = []

-- what arguments give of a kind, in their order
abbrev pub among : {X : Type 0} → (Argument → List X) → List Argument → List X
among kind [] = []
among kind (argument ∷ arguments) = kind argument ++ among kind arguments

abbrev pub numbers_of : Numbers → List ℕ
numbers_of Zero = []
numbers_of (One a) = a ∷ []
numbers_of (Two a b) = a ∷ b ∷ []
numbers_of (Three a b c) = a ∷ b ∷ c ∷ []

-- What was found is what was there before and these arguments: each option at most once, and three numbers at most.
pub record Joins (before : Arguments) (arguments : List Argument) (found : Arguments) : Type 0 where
  pub slots : option_to_list found.slots ≡ option_to_list before.slots ++ among slots_in arguments
  pub schedule : option_to_list found.schedule ≡ option_to_list before.schedule ++ among schedules_in arguments
  pub waiter : option_to_list found.waiter ≡ option_to_list before.waiter ++ among waiters_in arguments
  pub cookies : flag_list found.cookies ≡ flag_list before.cookies ++ among cookies_in arguments
  pub numbers : numbers_of found.numbers ≡ numbers_of before.numbers ++ among numbers_in arguments
