-- Texts that are written one after another.
use Rattle.std.proofs.Common.{ℕ, List, ◌++◌, Option, Result, Ok, Err, OnOk, OnErr, refl, sym, ap, ◌∙◌, append_assoc}
use Rattle.io_edge.specs.Edge.{Appends, AppendsFront}
use Rattle.io_edge.proofs.Told.{Appends-append, AppendsFront-whole}

-- a front of what comes first
pub front_of_first : (before after : Option (List ℕ)) (xs ys : List ℕ) → AppendsFront before after xs → AppendsFront before after (xs ++ ys)
front_of_first before after xs ys front =
    (front.0, front.1 ++ ys, ap (λ t. t ++ ys) front.2 ∙ append_assoc front.0 front.1 ys, front.3)

-- all of what comes first, and a front of what comes then
pub front_of_second : (before between after : Option (List ℕ)) (xs ys : List ℕ) → Appends before between xs
    → AppendsFront between after ys → AppendsFront before after (xs ++ ys)
front_of_second before between after xs ys whole front = (
  xs ++ front.0,
  front.1,
  ap (λ t. xs ++ t) front.2 ∙ sym (append_assoc xs front.0 front.1),
  Appends-append before between after xs front.0 whole front.3,
)

-- what holds of a call that may have failed
module _ {X Y : Type 0} where
  pub OnErr-of : (r : Result X Y) (P : Type 0) → P → OnErr r P
  OnErr-of (Ok x) P p = tt
  OnErr-of (Err y) P p = p

  pub OnErr-by : (r : Result X Y) (P Q : Type 0) → (P → Q) → OnErr r P → OnErr r Q
  OnErr-by (Ok x) P Q f h = tt
  OnErr-by (Err y) P Q f h = f h

  pub OnOk-by : (r : Result X Y) (P Q : Type 0) → (P → Q) → OnOk r P → OnOk r Q
  OnOk-by (Ok x) P Q f h = f h
  OnOk-by (Err y) P Q f h = tt

  pub front_told : (r : Result X Y) (before after : Option (List ℕ)) (text : List ℕ) → OnOk r (Appends before after text)
      → OnErr r (AppendsFront before after text) → AppendsFront before after text
  front_told (Ok x) before after text whole front = AppendsFront-whole before after after text whole refl
  front_told (Err y) before after text whole front = front
