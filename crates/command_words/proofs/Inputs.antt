-- What comes in: how arguments are spelled and read, and where the scripts of an input end.
use Rattle.std.proofs.Common.{◌≡◌, ◌≢◌, ℕ, ◌<◌, ◌^◌, List, [], ◌∷◌, ◌++◌, length, get_or, take, map, codes, Some, slice_get, inl, inr, sym, ap, ◌∙◌, refl, append-nil, length-append, arith, ◌≤◌, Bool, true, false, drop, Option, None, IfSome, subst, append_assoc, ◌+◌, cond, eqb, flat_map, ◌⊎◌}
use Rattle.std.specs.Fmt.{decimal}
use Rattle.std.proofs.lemmas.Bool.{cases_eq}
use Rattle.std.proofs.lemmas.Fmt.{decimal_digit, first_decimal, decimal_injective}
use Rattle.std.proofs.lemmas.List.{append_cancel_left, take-append-drop, length-take-le, take_at, drop_at}
use Rattle.core_state.specs.declared.shape.Waiter.{Waiter}
use Rattle.core_state.specs.declared.shape.Waiter.TheVariants.{Eer, Domain, Deer}
use Rattle.command_words.specs.declared.arguments.Argument.{Argument}
use Rattle.command_words.specs.declared.arguments.Argument.TheVariants.{Slots, Schedule, Waits, Cookies, Number}
use Rattle.command_words.specs.Arguments.{IsOption, IsSpelled, waiter_word, AreSpelled, numbers_of, among, slots_in, schedules_in, waiters_in, cookies_in, flag_list, numbers_in, Joins}
use Rattle.std.proofs.Math.Seq.{drop-append_seam}
use Rattle.std.specs.Option.{option_to_list}
use Rattle.command_words.specs.declared.arguments.Arguments.{Arguments}
use Rattle.command_words.specs.declared.arguments.Numbers.{Numbers}
use Rattle.command_words.specs.declared.arguments.Numbers.TheVariants.{Zero, One, Two, Three}
use Rattle.std.specs.List.{AllByRecursion}
use Rattle.std.proofs.lemmas.Bool.Decides.{eqb_tells}
use Rattle.script_text.specs.Grammar.{lines_of, onto_first, Lacks, IsParted}
use Rattle.script_text.proofs.ScriptTexts.{lines_of-parted, lines_of-last, ended}
use Rattle.command_words.specs.Commands.{LacksAccount, IsEnded, HasParts}

-- Options and arguments are spelled in one way.

-- words that are seen as bytes, of which the first is known
module _ {S : Type 0} (seen : S → List ℕ) (words : List S) (word : S) (others : List S) (split : words ≡ word ∷ others) (bytes : List ℕ)
    (is : bytes ≡ seen word) where
  seen_words : map seen words ≡ bytes ∷ map seen others
  seen_words = ap (map seen) split ∙ ap (λ b. b ∷ map seen others) (sym is)

  pub begins_with_name : (name value : List ℕ) (first rest : List (List ℕ)) → map seen words ≡ first ++ rest → IsOption name value first
      → ((after : List ℕ) → bytes ≢ name ++ after) → ⊥
  begins_with_name name value first rest cut (inl two) other =
      let e : bytes ∷ map seen others ≡ name ∷ value ∷ rest = sym seen_words ∙ cut ∙ ap (λ f. f ++ rest) two in
      let b : bytes ≡ name = cc in
      other [] (b ∙ sym (append-nil name))
  begins_with_name name value first rest cut (inr one) other =
      let e : bytes ∷ map seen others ≡ (name ++ (codes "=" ++ value)) ∷ rest = sym seen_words ∙ cut ∙ ap (λ f. f ++ rest) one in
      let b : bytes ≡ name ++ (codes "=" ++ value) = cc in
      other (codes "=" ++ value) b

  pub separate : (name after value : List ℕ) (second : S) → bytes ≡ name ++ after → after ≡ [] → slice_get others 0 ≡ Some second
      → value ≡ seen second → IsOption name value (take 2 (map seen words))
  separate name after value second stripped none there is_value =
      let name_is : bytes ≡ name = stripped ∙ ap (λ a. name ++ a) none ∙ append-nil name in
      inl (ap (take 2) seen_words ∙ two_of others there ∙ ap (λ v. bytes ∷ v ∷ []) (sym is_value) ∙ ap (λ b. b ∷ value ∷ []) name_is)
    where
      two_of : (xs : List S) → slice_get xs 0 ≡ Some second → take 2 (bytes ∷ map seen xs) ≡ bytes ∷ seen second ∷ []
      two_of [] at = absurd (cc)
      two_of (x ∷ xs) at = let e : x ≡ second = cc in ap (λ y. bytes ∷ seen y ∷ []) e

  pub joined : (name after value : List ℕ) → bytes ≡ name ++ after → after ≡ 61 ∷ value → IsOption name value (take 1 (map seen words))
  joined name after value stripped equals =
      inr (ap (take 1) seen_words ∙ ap (λ b. b ∷ []) (stripped ∙ ap (λ a. name ++ a) equals))

-- the first word is the number that it spells
pub number_first : {S : Type 0} (seen : S → List ℕ) (words : List S) (word : S) (bytes : List ℕ) → Some word ≡ slice_get words 0
    → bytes ≡ seen word → (n : ℕ) (first rest : List (List ℕ)) → map seen words ≡ first ++ rest → first ≡ decimal n ∷ [] → bytes ≡ decimal n
number_first seen [] word bytes there is n first rest cut one = absurd (cc)
number_first seen (w ∷ ws) word bytes there is n first rest cut one =
    let e : seen w ∷ map seen ws ≡ decimal n ∷ rest = cut ∙ ap (λ f. f ++ rest) one in
    let same : word ≡ w = cc in
    let read : seen w ≡ decimal n = cc in
    is ∙ ap seen same ∙ read

-- a number doesn't begin with `-`
no_dash : (n : ℕ) (after : List ℕ) → n < 2 ^ 64 → decimal n ≡ 45 ∷ after → ⊥
no_dash n after small e =
    elim (cases_eq n 0) [
      | inl none ↦ let d : 48 ∷ [] ≡ 45 ∷ after = sym (decimal_digit 0 (omega arith)) ∙ ap decimal (sym none) ∙ e in
          omega (arith, ap (λ x. get_or x 0 0) d)
      | inr more ↦ omega (arith, first_decimal n (omega arith) small, ap (λ x. get_or x 0 0) e)
    ]

longer : (name rest : List ℕ) → name ≡ name ++ (codes "=" ++ rest) → ⊥
longer name rest e = omega (arith, ap length e, length-append name (codes "=" ++ rest))

-- Two ways to cut off the first words, each as an argument.
module _ (f g r s : List (List ℕ)) (cut : f ++ r ≡ g ++ s) where
  one_value : (name v w : List ℕ) → IsOption name v f → IsOption name w g → (v ≡ w) × (length f ≡ length g)
  one_value name v w (inl two) (inl too) =
      let e : name ∷ v ∷ r ≡ name ∷ w ∷ s = sym (ap (λ x. x ++ r) two) ∙ cut ∙ ap (λ x. x ++ s) too in
      (cc, ap length two ∙ sym (ap length too))
  one_value name v w (inl two) (inr one) =
      let e : name ∷ v ∷ r ≡ (name ++ (codes "=" ++ w)) ∷ s = sym (ap (λ x. x ++ r) two) ∙ cut ∙ ap (λ x. x ++ s) one in
      absurd (longer name w (cc))
  one_value name v w (inr one) (inl two) =
      let e : name ∷ w ∷ s ≡ (name ++ (codes "=" ++ v)) ∷ r = sym (ap (λ x. x ++ s) two) ∙ sym cut ∙ ap (λ x. x ++ r) one in
      absurd (longer name v (cc))
  one_value name v w (inr one) (inr too) =
      let e : (name ++ (codes "=" ++ v)) ∷ r ≡ (name ++ (codes "=" ++ w)) ∷ s = sym (ap (λ x. x ++ r) one) ∙ cut ∙ ap (λ x. x ++ s) too in
      let heads : name ++ (codes "=" ++ v) ≡ name ++ (codes "=" ++ w) = cc in
      let values : codes "=" ++ v ≡ codes "=" ++ w = append_cancel_left name _ _ heads in
      (cc, ap length one ∙ sym (ap length too))

-- an option's first word begins with its name
begins : (name v : List ℕ) (f r : List (List ℕ)) → IsOption name v f
    → (after : List ℕ) × (more : List (List ℕ)) × (f ++ r ≡ (name ++ after) ∷ more)
begins name v f r (inl two) = ([], v ∷ r, ap (λ x. x ++ r) two ∙ ap (λ n. n ∷ v ∷ r) (sym (append-nil name)))
begins name v f r (inr one) = (codes "=" ++ v, r, ap (λ x. x ++ r) one)

-- the first words of two options, and of an option and a number
differ : (name other v w : List ℕ) (f g r s : List (List ℕ)) → f ++ r ≡ g ++ s → IsOption name v f → IsOption other w g
    → ((x y : List ℕ) → name ++ x ≡ other ++ y → ⊥) → ⊥
differ name other v w f g r s cut a b apart =
    let p = begins name v f r a in
    let q = begins other w g s b in
    let e : (name ++ p.0) ∷ p.1 ≡ (other ++ q.0) ∷ q.1 = sym p.2 ∙ cut ∙ q.2 in
    apart p.0 q.0 (cc)

no_number : (name v : List ℕ) (n : ℕ) (f g r s : List (List ℕ)) → f ++ r ≡ g ++ s → n < 2 ^ 64 → IsOption (45 ∷ name) v f
    → g ≡ decimal n ∷ [] → ⊥
no_number name v n f g r s cut small a is =
    let p = begins (45 ∷ name) v f r a in
    let e : ((45 ∷ name) ++ p.0) ∷ p.1 ≡ decimal n ∷ s = sym p.2 ∙ cut ∙ ap (λ x. x ++ s) is in
    no_dash n (name ++ p.0) small (cc)

waiter_word-injective : (a b : Waiter) → waiter_word a ≡ waiter_word b → a ≡ b
waiter_word-injective Eer Eer e = refl
waiter_word-injective Eer Domain e = absurd (omega (arith, ap length e))
waiter_word-injective Eer Deer e = absurd (omega (arith, ap length e))
waiter_word-injective Domain Eer e = absurd (omega (arith, ap length e))
waiter_word-injective Domain Domain e = refl
waiter_word-injective Domain Deer e = absurd (omega (arith, ap length e))
waiter_word-injective Deer Eer e = absurd (omega (arith, ap length e))
waiter_word-injective Deer Domain e = absurd (omega (arith, ap length e))
waiter_word-injective Deer Deer e = refl

-- the third letters of the names
slots-schedule : (x y : List ℕ) → codes "--slots" ++ x ≡ codes "--schedule" ++ y → ⊥
slots-schedule x y e = omega (arith, ap (λ w. get_or w 3 0) e)

slots-waiter : (x y : List ℕ) → codes "--slots" ++ x ≡ codes "--waiter" ++ y → ⊥
slots-waiter x y e = omega (arith, ap (λ w. get_or w 3 0) e)

schedule-waiter : (x y : List ℕ) → codes "--schedule" ++ x ≡ codes "--waiter" ++ y → ⊥
schedule-waiter x y e = omega (arith, ap (λ w. get_or w 3 0) e)

slots-cookies : (x y : List ℕ) → codes "--slots" ++ x ≡ codes "--cookies" ++ y → ⊥
slots-cookies x y e = omega (arith, ap (λ w. get_or w 3 0) e)

schedule-cookies : (x y : List ℕ) → codes "--schedule" ++ x ≡ codes "--cookies" ++ y → ⊥
schedule-cookies x y e = omega (arith, ap (λ w. get_or w 3 0) e)

waiter-cookies : (x y : List ℕ) → codes "--waiter" ++ x ≡ codes "--cookies" ++ y → ⊥
waiter-cookies x y e = omega (arith, ap (λ w. get_or w 3 0) e)

-- the first words of an option and of a flag, and of a flag and a number
no_flag : (name flag v : List ℕ) (f g r s : List (List ℕ)) → f ++ r ≡ g ++ s → IsOption name v f → g ≡ flag ∷ []
    → ((x y : List ℕ) → name ++ x ≡ flag ++ y → ⊥) → ⊥
no_flag name flag v f g r s cut a is apart =
    let p = begins name v f r a in
    let e : (name ++ p.0) ∷ p.1 ≡ flag ∷ s = sym p.2 ∙ cut ∙ ap (λ x. x ++ s) is in
    let same : name ++ p.0 ≡ flag = cc in
    apart p.0 [] (same ∙ sym (append-nil flag))

flag_or_number : (flag : List ℕ) (n : ℕ) (f g r s : List (List ℕ)) → f ++ r ≡ g ++ s → n < 2 ^ 64 → f ≡ (45 ∷ flag) ∷ []
    → g ≡ decimal n ∷ [] → ⊥
flag_or_number flag n f g r s cut small is number =
    let e : (45 ∷ flag) ∷ r ≡ decimal n ∷ s = sym (ap (λ x. x ++ r) is) ∙ cut ∙ ap (λ x. x ++ s) number in
    no_dash n flag small (cc)

-- words begin with one argument at most
module _ (f g r s : List (List ℕ)) (cut : f ++ r ≡ g ++ s) where
  pub one_spelled : (a b : Argument) → IsSpelled a f → IsSpelled b g → (a ≡ b) × (length f ≡ length g)
  one_spelled (Slots m) (Slots n) p q = let o = one_value f g r s cut (codes "--slots") _ _ p.1 q.1 in
      (ap Slots (decimal_injective m n p.0 q.0 o.0), o.1)
  one_spelled (Slots m) (Schedule n) p q = absurd (differ _ _ _ _ f g r s cut p.1 q.1 slots-schedule)
  one_spelled (Slots m) (Waits w) p q = absurd (differ _ _ _ _ f g r s cut p.1 q slots-waiter)
  one_spelled (Slots m) Cookies p q = absurd (no_flag _ _ _ f g r s cut p.1 q slots-cookies)
  one_spelled (Slots m) (Number n) p q = absurd (no_number (codes "-slots") _ n f g r s cut q.0 p.1 q.1)
  one_spelled (Schedule m) (Slots n) p q = absurd (differ _ _ _ _ g f s r (sym cut) q.1 p.1 slots-schedule)
  one_spelled (Schedule m) (Schedule n) p q = let o = one_value f g r s cut (codes "--schedule") _ _ p.1 q.1 in
      (ap Schedule (decimal_injective m n p.0 q.0 o.0), o.1)
  one_spelled (Schedule m) (Waits w) p q = absurd (differ _ _ _ _ f g r s cut p.1 q schedule-waiter)
  one_spelled (Schedule m) Cookies p q = absurd (no_flag _ _ _ f g r s cut p.1 q schedule-cookies)
  one_spelled (Schedule m) (Number n) p q = absurd (no_number (codes "-schedule") _ n f g r s cut q.0 p.1 q.1)
  one_spelled (Waits v) (Slots n) p q = absurd (differ _ _ _ _ g f s r (sym cut) q.1 p slots-waiter)
  one_spelled (Waits v) (Schedule n) p q = absurd (differ _ _ _ _ g f s r (sym cut) q.1 p schedule-waiter)
  one_spelled (Waits v) (Waits w) p q = let o = one_value f g r s cut (codes "--waiter") _ _ p q in
      (ap Waits (waiter_word-injective v w o.0), o.1)
  one_spelled (Waits v) Cookies p q = absurd (no_flag _ _ _ f g r s cut p q waiter-cookies)
  one_spelled (Waits v) (Number n) p q = absurd (no_number (codes "-waiter") _ n f g r s cut q.0 p q.1)
  one_spelled Cookies (Slots n) p q = absurd (no_flag _ _ _ g f s r (sym cut) q.1 p slots-cookies)
  one_spelled Cookies (Schedule n) p q = absurd (no_flag _ _ _ g f s r (sym cut) q.1 p schedule-cookies)
  one_spelled Cookies (Waits w) p q = absurd (no_flag _ _ _ g f s r (sym cut) q p waiter-cookies)
  one_spelled Cookies Cookies p q = (refl, ap length p ∙ sym (ap length q))
  one_spelled Cookies (Number n) p q = absurd (flag_or_number (codes "-cookies") n f g r s cut q.0 p q.1)
  one_spelled (Number m) (Slots n) p q = absurd (no_number (codes "-slots") _ m g f s r (sym cut) p.0 q.1 p.1)
  one_spelled (Number m) (Schedule n) p q = absurd (no_number (codes "-schedule") _ m g f s r (sym cut) p.0 q.1 p.1)
  one_spelled (Number m) (Waits w) p q = absurd (no_number (codes "-waiter") _ m g f s r (sym cut) p.0 q p.1)
  one_spelled (Number m) Cookies p q = absurd (flag_or_number (codes "-cookies") m g f s r (sym cut) p.0 q p.1)
  one_spelled (Number m) (Number n) p q =
      let e : decimal m ∷ r ≡ decimal n ∷ s = sym (ap (λ x. x ++ r) p.1) ∙ cut ∙ ap (λ x. x ++ s) q.1 in
      (ap Number (decimal_injective m n p.0 q.0 (cc)), ap length p.1 ∙ sym (ap length q.1))

-- words that begin with no option begin with a number, if with an argument at all
module _ (W : List (List ℕ)) (P : Type 0)
    (no_slots : (n : ℕ) (first rest : List (List ℕ)) → n < 2 ^ 64 → W ≡ first ++ rest → IsOption (codes "--slots") (decimal n) first → ⊥)
    (no_schedule : (n : ℕ) (first rest : List (List ℕ)) → n < 2 ^ 64 → W ≡ first ++ rest → IsOption (codes "--schedule") (decimal n) first
    → ⊥)
    (no_waiter : (w : Waiter) (first rest : List (List ℕ)) → W ≡ first ++ rest → IsSpelled (Waits w) first → ⊥)
    (no_cookies : (first rest : List (List ℕ)) → W ≡ first ++ rest → IsSpelled Cookies first → ⊥)
    (number : (n : ℕ) (first rest : List (List ℕ)) → W ≡ first ++ rest → IsSpelled (Number n) first → P) where
  pub number_left : (argument : Argument) (first rest : List (List ℕ)) → W ≡ first ++ rest → IsSpelled argument first → P
  number_left (Slots n) first rest cut spelled = absurd (no_slots n first rest spelled.0 cut spelled.1)
  number_left (Schedule n) first rest cut spelled = absurd (no_schedule n first rest spelled.0 cut spelled.1)
  number_left (Waits w) first rest cut spelled = absurd (no_waiter w first rest cut spelled)
  number_left Cookies first rest cut spelled = absurd (no_cookies first rest cut spelled)
  number_left (Number n) first rest cut spelled = number n first rest cut spelled

-- Arguments are read one after another.

no_option : (name value : List ℕ) (first : List (List ℕ)) → IsOption name value first → first ≡ [] → ⊥
no_option name value first (inl two) none = let e = sym none ∙ two in absurd (cc)
no_option name value first (inr one) none = let e = sym none ∙ one in absurd (cc)

no_words : (argument : Argument) (first : List (List ℕ)) → IsSpelled argument first → first ≡ [] → ⊥
no_words (Slots n) first spelled none = no_option _ _ first spelled.1 none
no_words (Schedule n) first spelled none = no_option _ _ first spelled.1 none
no_words (Waits waiter) first spelled none = no_option _ _ first spelled none
no_words Cookies first spelled none = let e = sym none ∙ spelled in absurd (cc)
no_words (Number n) first spelled none = let e = sym none ∙ spelled.1 in absurd (cc)

front_is_empty : {X : Type 0} (xs ys : List X) → [] ≡ xs ++ ys → xs ≡ []
front_is_empty [] ys e = refl
front_is_empty (x ∷ xs) ys e = absurd (cc)

none_spelled : (arguments : List Argument) → AreSpelled arguments [] → arguments ≡ []
none_spelled [] h = refl
none_spelled (a ∷ arguments) h = absurd (no_words a h.0 h.3 (front_is_empty h.0 h.1 h.2))

pub Joins-none : (before : Arguments) → Joins before [] before
Joins-none before = record {
  slots = sym (append-nil _);
  schedule = sym (append-nil _);
  waiter = sym (append-nil _);
  cookies = sym (append-nil _);
  numbers = sym (append-nil _);
}

-- what was found is known by its lists
option-same : {X : Type 0} (a b : Option X) → option_to_list a ≡ option_to_list b → a ≡ b
option-same None None e = refl
option-same None (Some b) e = absurd (cc)
option-same (Some a) None e = absurd (cc)
option-same (Some a) (Some b) e = cc

flag-same : (a b : Bool) → flag_list a ≡ flag_list b → a ≡ b
flag-same true true e = refl
flag-same true false e = absurd (cc)
flag-same false true e = absurd (cc)
flag-same false false e = refl

numbers-same : (a b : Numbers) → numbers_of a ≡ numbers_of b → a ≡ b
numbers-same Zero Zero e = refl
numbers-same Zero (One _) e = absurd (cc)
numbers-same Zero (Two _ _) e = absurd (cc)
numbers-same Zero (Three _ _ _) e = absurd (cc)
numbers-same (One _) Zero e = absurd (cc)
numbers-same (One _) (One _) e = cc
numbers-same (One _) (Two _ _) e = absurd (cc)
numbers-same (One _) (Three _ _ _) e = absurd (cc)
numbers-same (Two _ _) Zero e = absurd (cc)
numbers-same (Two _ _) (One _) e = absurd (cc)
numbers-same (Two _ _) (Two _ _) e = cc
numbers-same (Two _ _) (Three _ _ _) e = absurd (cc)
numbers-same (Three _ _ _) Zero e = absurd (cc)
numbers-same (Three _ _ _) (One _) e = absurd (cc)
numbers-same (Three _ _ _) (Two _ _) e = absurd (cc)
numbers-same (Three _ _ _) (Three _ _ _) e = cc

Joins-same : (before found : Arguments) → Joins before [] found → before ≡ found
Joins-same before found j =
    let a = option-same before.slots found.slots (sym (j.slots ∙ append-nil _)) in
    let b = option-same before.schedule found.schedule (sym (j.schedule ∙ append-nil _)) in
    let c = option-same before.waiter found.waiter (sym (j.waiter ∙ append-nil _)) in
    let f = flag-same before.cookies found.cookies (sym (j.cookies ∙ append-nil _)) in
    let d = numbers-same before.numbers found.numbers (sym (j.numbers ∙ append-nil _)) in
    λ i. record { slots = a i; schedule = b i; waiter = c i; cookies = f i; numbers = d i }

-- an argument and those after it
module _ (before mid found : Arguments) (a : Argument) (arguments : List Argument) (first : Joins before (a ∷ []) mid) where
  whole : {X : Type 0} (kind : Argument → List X) (xs ys : List X) → ys ≡ xs ++ among kind (a ∷ [])
      → xs ++ among kind (a ∷ arguments) ≡ ys ++ among kind arguments
  whole kind xs ys is =
      sym (append_assoc xs (kind a) (among kind arguments))
      ∙ ap (λ zs. (xs ++ zs) ++ among kind arguments) (sym (append-nil (kind a)))
      ∙ ap (λ zs. zs ++ among kind arguments) (sym is)

  pub Joins-cons : Joins mid arguments found → Joins before (a ∷ arguments) found
  Joins-cons rest = record {
    slots = rest.slots ∙ sym (whole slots_in _ _ first.slots);
    schedule = rest.schedule ∙ sym (whole schedules_in _ _ first.schedule);
    waiter = rest.waiter ∙ sym (whole waiters_in _ _ first.waiter);
    cookies = rest.cookies ∙ sym (whole cookies_in _ _ first.cookies);
    numbers = rest.numbers ∙ sym (whole numbers_in _ _ first.numbers);
  }

  pub Joins-rest : Joins before (a ∷ arguments) found → Joins mid arguments found
  Joins-rest all = record {
    slots = all.slots ∙ whole slots_in _ _ first.slots;
    schedule = all.schedule ∙ whole schedules_in _ _ first.schedule;
    waiter = all.waiter ∙ whole waiters_in _ _ first.waiter;
    cookies = all.cookies ∙ whole cookies_in _ _ first.cookies;
    numbers = all.numbers ∙ whole numbers_in _ _ first.numbers;
  }

pub IfSome-map : {T : Type 0} {P Q : T → Type 0} (r : Option T) → ((x : T) → P x → Q x) → IfSome r P → IfSome r Q
IfSome-map None f h = h
IfSome-map (Some x) f h = f x h

cut_at : (W first rest : List (List ℕ)) (taken : ℕ) → W ≡ first ++ rest → taken ≡ length first → drop taken W ≡ rest
cut_at W first rest taken cut is = ap (λ n. drop n W) is ∙ ap (drop (length first)) cut ∙ drop-append_seam first rest

-- no word more
pub none_found : (W : List (List ℕ)) (before : Arguments) → W ≡ [] → (arguments : List Argument) (found : Arguments)
    → AreSpelled arguments W → Joins before arguments found → Some before ≡ Some found
none_found W before none arguments found spelled joined =
    let no = none_spelled arguments (subst (AreSpelled arguments) none spelled) in
    ap Some (Joins-same before found (subst (λ (xs : List Argument). Joins before xs found) no joined))

-- words that begin with no argument spell none, unless they are none
pub not_spelled : (W : List (List ℕ)) (P : Type 0) → (W ≡ [] → ⊥)
    → ((argument : Argument) (first rest : List (List ℕ)) → W ≡ first ++ rest → IsSpelled argument first → ⊥) → (arguments : List Argument)
    → AreSpelled arguments W → P
not_spelled W P some none [] h = absurd (some h)
not_spelled W P some none (a ∷ arguments) h = absurd (none a h.0 h.1 h.2 h.3)

module _ (W : List (List ℕ)) (some : W ≡ [] → ⊥) (next : Argument) (taken : ℕ) (spelled : IsSpelled next (take taken W))
    (within : taken ≤ length W) (before : Arguments) where
  same_next : (a : Argument) (first rest : List (List ℕ)) → W ≡ first ++ rest → IsSpelled a first → (next ≡ a) × (taken ≡ length first)
  same_next a first rest cut is =
      let o = one_spelled (take taken W) first (drop taken W) rest (take-append-drop taken W ∙ cut) next a spelled is in
      (o.0, sym (length-take-le taken W within) ∙ o.1)

  -- where the argument can't follow, none can that begin with it
  pub not_followed : (P : Type 0) → ((others : List Argument) (found : Arguments) → Joins before (next ∷ others) found → ⊥)
      → (arguments : List Argument) (found : Arguments) → AreSpelled arguments W → Joins before arguments found → P
  not_followed P cannot [] found h joined = absurd (some h)
  not_followed P cannot (a ∷ arguments) found h joined =
      let is = same_next a h.0 h.1 h.2 h.3 in
      absurd (cannot arguments found (subst (λ b. Joins before (b ∷ arguments) found) (sym is.0) joined))

  -- the others are those of the words that are left
  pub read_others : (mid : Arguments) → Joins before (next ∷ []) mid → (result : Option Arguments)
      → ((arguments : List Argument) (found : Arguments) → AreSpelled arguments (drop taken W) → Joins mid arguments found
      → result ≡ Some found)
      → (arguments : List Argument) (found : Arguments) → AreSpelled arguments W → Joins before arguments found → result ≡ Some found
  read_others mid first result rest [] found h joined = absurd (some h)
  read_others mid first result rest (a ∷ arguments) found h joined =
      let is = same_next a h.0 h.1 h.2 h.3 in
      let first_is : Joins before (a ∷ []) mid = subst (λ b. Joins before (b ∷ []) mid) is.0 first in
      rest arguments found (subst (AreSpelled arguments) (sym (cut_at W h.0 h.1 taken h.2 is.1)) h.4)
      (Joins-rest before mid found a arguments first_is joined)

  -- an argument more at the front
  pub AreSpelled-more : (mid : Arguments) → Joins before (next ∷ []) mid → (result : Option Arguments)
      → IfSome result (λ found. (arguments : List Argument) × AreSpelled arguments (drop taken W) × Joins mid arguments found)
      → IfSome result (λ found. (arguments : List Argument) × AreSpelled arguments W × Joins before arguments found)
  AreSpelled-more mid first result rest =
      IfSome-map result (λ found r. (
        next ∷ r.0,
        (take taken W, drop taken W, sym (take-append-drop taken W), spelled, r.1),
        Joins-cons before mid found next r.0 first r.2,
      )) rest

-- Where the scripts of an input end.

lines_of-some : (bytes : List ℕ) → 0 < length bytes → 0 < length (lines_of bytes)
lines_of-some [] some = absurd (omega arith)
lines_of-some (byte ∷ bytes) some =
    elim (eqb byte 10) as (λ b. 0 < length (cond b ([] ∷ lines_of bytes) (onto_first byte (lines_of bytes)))) [
      | true ↦ omega arith
      | false ↦ onto_some (lines_of bytes)
    ]
  where
    onto_some : (lines : List (List ℕ)) → 0 < length (onto_first byte lines)
    onto_some [] = omega arith
    onto_some (line ∷ lines) = omega arith

onto_first-append : (byte : ℕ) (lines more : List (List ℕ)) → 0 < length lines
    → onto_first byte (lines ++ more) ≡ onto_first byte lines ++ more
onto_first-append byte [] more some = absurd (omega arith)
onto_first-append byte (line ∷ lines) more some = refl

lines_of-after : (front rest : List ℕ) → lines_of ((front ++ codes "\n") ++ rest) ≡ lines_of (front ++ codes "\n") ++ lines_of rest
lines_of-after [] rest = refl
lines_of-after (byte ∷ front) rest =
    let others = lines_of-after front rest in
    let some : 0 < length (front ++ codes "\n") = omega (arith, length-append front (codes "\n")) in
    elim (eqb byte 10) as (λ b. cond b ([] ∷ lines_of ((front ++ codes "\n") ++ rest))
    (onto_first byte (lines_of ((front ++ codes "\n") ++ rest)))
    ≡ cond b ([] ∷ lines_of (front ++ codes "\n")) (onto_first byte (lines_of (front ++ codes "\n"))) ++ lines_of rest) [
      | true ↦ ap (λ lines. [] ∷ lines) others
      | false ↦ ap (onto_first byte) others ∙ onto_first-append byte (lines_of (front ++ codes "\n")) (lines_of rest)
          (lines_of-some (front ++ codes "\n") some)
    ]

lines_of-append : (front rest : List ℕ) → IsEnded front → lines_of (front ++ rest) ≡ lines_of front ++ lines_of rest
lines_of-append front rest (inl none) = ap (λ f. lines_of (f ++ rest)) none ∙ sym (ap (λ f. lines_of f ++ lines_of rest) none)
lines_of-append front rest (inr e) = ap (λ f. lines_of (f ++ rest)) e.1 ∙ lines_of-after e.0 rest
    ∙ sym (ap (λ f. lines_of f ++ lines_of rest) e.1)

abbrev Other : List ℕ → Type 0
Other line = line ≡ codes "account" → ⊥

all-append : (xs ys : List (List ℕ)) → AllByRecursion Other xs → AllByRecursion Other ys → AllByRecursion Other (xs ++ ys)
all-append [] ys all more = more
all-append (x ∷ xs) ys all more = (all.0, all-append xs ys all.1 more)

-- The lines before this place are ended, and none is `account`.
pub record CutAt (input : List ℕ) (at : ℕ) : Type 0 where
  pub front : List ℕ
  pub rest : List ℕ
  pub whole : input ≡ front ++ rest
  pub place : length front ≡ at
  pub lacks : LacksAccount front
  pub ended : IsEnded front

pub CutAt-start : (input : List ℕ) → CutAt input 0
CutAt-start input = record { front = []; rest = input; whole = refl; place = refl; lacks = tt; ended = inl refl }

module _ (input : List ℕ) (at : ℕ) (cut : CutAt input at) where
  front_is : take at input ≡ cut.front
  front_is = ap (take at) cut.whole ∙ take_at cut.front cut.rest at cut.place

  rest_is : drop at input ≡ cut.rest
  rest_is = ap (drop at) cut.whole ∙ drop_at cut.front cut.rest at cut.place

  module _ (line after : List ℕ) (parted : IsParted (drop at input) 10 line after) where
    pub CutAt-next : Other line → CutAt input (at + (length line + 1))
    CutAt-next other =
        let ended_line = line ++ codes "\n" in
        let lines : lines_of (cut.front ++ ended_line) ≡ lines_of cut.front ++ line ∷ [] =
        lines_of-append cut.front ended_line cut.ended ∙ ap (λ l. lines_of cut.front ++ l) (lines_of-parted line [] parted.first) in
        record {
          front = cut.front ++ ended_line;
          rest = after;
          whole = cut.whole ∙ ap (λ r. cut.front ++ r) (sym rest_is ∙ parted.whole ∙ sym (append_assoc line (codes "\n") after))
              ∙ sym (append_assoc cut.front ended_line after);
          place = length-append cut.front ended_line ∙ omega (arith, cut.place, length-append line (codes "\n"));
          lacks = subst (AllByRecursion Other) (sym lines) (all-append (lines_of cut.front) (line ∷ []) cut.lacks (other, tt));
          ended = inr (cut.front ++ line, sym (append_assoc cut.front line (codes "\n")));
        }

    -- the line is `account`
    pub parts-at_line : line ≡ codes "account" → HasParts input (take at input) after
    parts-at_line is =
        inl (
          subst LacksAccount (sym front_is) cut.lacks,
          subst IsEnded (sym front_is) cut.ended,
          sym (take-append-drop at input) ∙ ap (λ r. take at input ++ r) (parted.whole ∙ ap (λ l. l ++ 10 ∷ after) is)
              ∙ sym (append_assoc (take at input) (codes "account\n") after),
        )

  -- the last line has no byte 10, and is `account`
  pub parts-at_end : drop at input ≡ codes "account" → (account : List ℕ) → account ≡ [] → HasParts input (take at input) account
  parts-at_end is account none =
      inr (inl (
        subst LacksAccount (sym front_is) cut.lacks,
        subst IsEnded (sym front_is) cut.ended,
        sym (take-append-drop at input) ∙ ap (λ r. take at input ++ r) is,
        none,
      ))

  -- no line is `account`
  pub parts-none : Lacks (drop at input) 10 → (drop at input ≡ codes "account" → ⊥) → (account : List ℕ) → account ≡ []
      → HasParts input input account
  parts-none lacks other account none = inr (inr (subst LacksAccount (sym cut.whole) all_lack, refl, none))
    where
      last : (rest : List ℕ) → Lacks rest 10 → Other rest → AllByRecursion Other (lines_of rest)
      last [] l o = tt
      last (b ∷ rest) l o = subst (AllByRecursion Other) (sym (lines_of-last (b ∷ rest) (omega arith) l)) (o, tt)

      all_lack : LacksAccount (cut.front ++ cut.rest)
      all_lack = subst (AllByRecursion Other) (sym (lines_of-append cut.front cut.rest cut.ended))
          (all-append (lines_of cut.front) (lines_of cut.rest) cut.lacks
          (last cut.rest (subst (λ r. Lacks r 10) rest_is lacks) (λ e. other (rest_is ∙ e))))

-- The parts of an input are the only ones.
unlines : (front : List ℕ) → flat_map ended (lines_of (front ++ codes "\n")) ≡ front ++ codes "\n"
unlines [] = refl
unlines (byte ∷ front) =
    elim (eqb_tells byte 10) [
      | inl y ↦ ap (λ b. flat_map ended (cond b ([] ∷ lines_of (front ++ codes "\n"))
          (onto_first byte (lines_of (front ++ codes "\n"))))) y.0
          ∙ ap (λ rest. 10 ∷ rest) (unlines front) ∙ ap (λ b. b ∷ (front ++ codes "\n")) (sym y.1)
      | inr n ↦ ap (λ b. flat_map ended (cond b ([] ∷ lines_of (front ++ codes "\n"))
          (onto_first byte (lines_of (front ++ codes "\n"))))) n.0
          ∙ onto (lines_of (front ++ codes "\n")) (lines_of-some (front ++ codes "\n") (omega (arith, length-append front (codes "\n"))))
          ∙ ap (λ rest. byte ∷ rest) (unlines front)
    ]
  where
    onto : (lines : List (List ℕ)) → 0 < length lines → flat_map ended (onto_first byte lines) ≡ byte ∷ flat_map ended lines
    onto [] some = absurd (omega arith)
    onto (line ∷ lines) some = refl

unlines_of : (text : List ℕ) → IsEnded text → flat_map ended (lines_of text) ≡ text
unlines_of text (inl none) = ap (λ t. flat_map ended (lines_of t)) none ∙ sym none
unlines_of text (inr e) = ap (λ t. flat_map ended (lines_of t)) e.1 ∙ unlines e.0 ∙ sym e.1

-- what stands before the first line that is `account`
one_front : (xs ys more rest : List (List ℕ)) → AllByRecursion Other xs → AllByRecursion Other ys
    → xs ++ codes "account" ∷ more ≡ ys ++ codes "account" ∷ rest → xs ≡ ys
one_front [] [] more rest all alls e = refl
one_front [] (y ∷ ys) more rest all alls e = absurd (alls.0 (cc))
one_front (x ∷ xs) [] more rest all alls e = absurd (all.0 (cc))
one_front (x ∷ xs) (y ∷ ys) more rest all alls e =
    let first : x ≡ y = cc in
    let others : xs ++ codes "account" ∷ more ≡ ys ++ codes "account" ∷ rest = cc in
    let same = one_front xs ys more rest all.1 alls.1 others in
    λ i. first i ∷ same i

no_front : (xs more : List (List ℕ)) → AllByRecursion Other (xs ++ codes "account" ∷ more) → ⊥
no_front [] more all = all.0 refl
no_front (x ∷ xs) more all = no_front xs more all.1

-- an input that has the line, by lines
record Found (input before : List ℕ) : Type 0 where
  more : List (List ℕ)
  lines : lines_of input ≡ lines_of before ++ codes "account" ∷ more
  lacks : LacksAccount before
  ended_before : IsEnded before

found_line : (input before account : List ℕ) → LacksAccount before → IsEnded before → input ≡ before ++ codes "account\n" ++ account
    → Found input before
found_line input before account lacks is_ended e = record {
  more = lines_of account;
  lines = ap lines_of (e ∙ append_assoc before (codes "account\n") account)
      ∙ lines_of-append before (codes "account\n" ++ account) is_ended;
  lacks = lacks;
  ended_before = is_ended;
}

found_last : (input before : List ℕ) → LacksAccount before → IsEnded before → input ≡ before ++ codes "account" → Found input before
found_last input before lacks is_ended e = record {
  more = [];
  lines = ap lines_of e ∙ lines_of-append before (codes "account") is_ended;
  lacks = lacks;
  ended_before = is_ended;
}

one_found : (input a b : List ℕ) → Found input a → Found input b → a ≡ b
one_found input a b f h =
    let same = one_front (lines_of a) (lines_of b) f.more h.more f.lacks h.lacks (sym f.lines ∙ h.lines) in
    sym (unlines_of a f.ended_before) ∙ ap (flat_map ended) same ∙ unlines_of b h.ended_before

not_both : (input a : List ℕ) → Found input a → LacksAccount input → ⊥
not_both input a f lacks = no_front (lines_of a) f.more (subst (AllByRecursion Other) f.lines lacks)

is_found : (input before account : List ℕ) → HasParts input before account → Found input before ⊎ ((input ≡ before) × LacksAccount before)
is_found input before account (inl h) = inl (found_line input before account h.0 h.1 h.2)
is_found input before account (inr (inl h)) = inl (found_last input before h.0 h.1 h.2)
is_found input before account (inr (inr h)) = inr (h.1, h.0)

pub one_before : (input a b x y : List ℕ) → HasParts input a x → HasParts input b y → a ≡ b
one_before input a b x y p q =
    elim (is_found input a x p) [
      | inl f ↦ elim (is_found input b y q) [
        | inl h ↦ one_found input a b f h
        | inr n ↦ absurd (not_both input a f (subst LacksAccount (sym n.0) n.1))
      ]
      | inr m ↦ elim (is_found input b y q) [
        | inl h ↦ absurd (not_both input b h (subst LacksAccount (sym m.0) m.1))
        | inr n ↦ sym m.0 ∙ n.0
      ]
    ]

pub length-before : (input before account : List ℕ) → HasParts input before account → length before ≤ length input
length-before input before account (inl h) = omega
    (arith, ap length h.2, length-append (before ++ codes "account\n") account, length-append before (codes "account\n"))
length-before input before account (inr (inl h)) = omega (arith, ap length h.2, length-append before (codes "account"))
length-before input before account (inr (inr h)) = omega (arith, ap length h.1)
