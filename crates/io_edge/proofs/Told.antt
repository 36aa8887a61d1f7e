-- What several reads take, and what several writes append, one after another.
use Rattle.std.proofs.Common.{◌≡◌, ℕ, ◌+◌, ◌-◌, ◌≤◌, List, [], ◌++◌, length, take, drop, Option, Some, None, refl, sym, ◌∙◌, arith, append-nil, append_assoc, take-append-drop, length-append, length-take, length-take-le}
use Rattle.std.proofs.lemmas.List.{drop-drop, take_rest}
use Rattle.std.proofs.Math.Seq.{take-add}
use Rattle.io_edge.specs.Edge.{Takes, Appends, AppendsFront, TakesToLimit}

-- a piece from `at` on of the bytes that a source holds
pub Takes-piece : (bytes rest piece : List ℕ) (at n : ℕ) → drop at bytes ≡ rest → piece ≡ take n (drop at bytes)
    → Takes (Some rest) (Some (drop (at + n) bytes)) piece
Takes-piece bytes rest piece at n held taken =
    (drop (at + n) bytes, sym held ∙ sym (take-append-drop n (drop at bytes)) ∙ cc (taken, drop-drop n at bytes), refl)

pub Takes-append : (before between after : Option (List ℕ)) (xs ys : List ℕ) → Takes before between xs → Takes between after ys
    → Takes before after (xs ++ ys)
Takes-append None None after xs ys first second = second
Takes-append None (Some rest) after xs ys first second = absurd (cc)
Takes-append (Some bytes) None after xs ys first second = absurd (cc)
Takes-append (Some bytes) (Some rest) after xs ys first second =
    (second.0, cc (append_assoc xs ys second.0), second.2)

pub Appends-append : (before between after : Option (List ℕ)) (xs ys : List ℕ) → Appends before between xs → Appends between after ys
    → Appends before after (xs ++ ys)
Appends-append None None after xs ys first second = second
Appends-append None (Some bytes) after xs ys first second = absurd (cc)
Appends-append (Some bytes) None after xs ys first second = absurd (cc)
Appends-append (Some bytes) (Some more) after xs ys first second = cc (append_assoc bytes xs ys)

-- one more piece of a text
pub Appends-more : (before between after : Option (List ℕ)) (text : List ℕ) (i n : ℕ) → Appends before between (take i text)
    → Appends between after (take n (take (length text - i) (drop i text))) → Appends before after (take (i + n) text)
Appends-more before between after text i n first second =
    let second = rw (take_rest text i) at second in
    rw (take-add i n text) (Appends-append before between after (take i text) (take n (drop i text)) first second)

-- a write that failed after a front of the text
pub AppendsFront-failed : (before between after : Option (List ℕ)) (text : List ℕ) (i : ℕ) → Appends before between (take i text)
    → after ≡ between → AppendsFront before after text
AppendsFront-failed before between after text i first same =
    (take i text, drop i text, sym (take-append-drop i text), rw same first)

-- a call that took nothing
pub Takes-none : (before after : Option (List ℕ)) → after ≡ before → Takes before after []
Takes-none None after same = same
Takes-none (Some bytes) after same = (bytes, refl, same)

-- a read that failed
pub TakesToLimit-none : (limit : ℕ) (before after : Option (List ℕ)) (P : Type 0) → after ≡ before → (P → ⊥)
    → TakesToLimit limit before after P
TakesToLimit-none limit before after P same other =
    ([], Takes-none before after same, omega arith, (λ p. absurd (other p), λ past. absurd (omega (arith, past))))

-- a read that took no more than the limit
pub TakesToLimit-within : (limit n : ℕ) (before after : Option (List ℕ)) (xs : List ℕ) (P : Type 0) → Takes before after (take n xs)
    → n ≤ limit → (P → ⊥) → TakesToLimit limit before after P
TakesToLimit-within limit n before after xs P takes within other =
    let short = length-take n xs in
    (take n xs, takes, omega (arith, short), (λ p. absurd (other p), λ past. absurd (omega (arith, short, past))))

-- a read that took one byte past it
pub TakesToLimit-past : (limit n : ℕ) (before after : Option (List ℕ)) (xs : List ℕ) (P : Type 0) → Takes before after (take n xs)
    → n ≤ length xs → n ≡ limit + 1 → P → TakesToLimit limit before after P
TakesToLimit-past limit n before after xs P takes within past p =
    let long = length-take-le n xs within in
    (take n xs, takes, omega (arith, long), (λ q. omega (arith, long), λ q. p))

-- a call that takes up to what is left of the limit, after these bytes
pub TakesToLimit-append : (limit left : ℕ) (before between after : Option (List ℕ)) (xs : List ℕ) (P Q : Type 0) → Takes before between xs
    → length xs + left ≡ limit → (Q → P) → (P → Q) → TakesToLimit left between after P → TakesToLimit limit before after Q
TakesToLimit-append limit left before between after xs P Q first room to from second =
    let l = length-append xs second.0 in (
      xs ++ second.0,
      Takes-append before between after xs second.0 first second.1,
      omega arith,
      (λ q. omega (arith, second.3.0 (to q)), λ past. from (second.3.1 (omega arith))),
    )

-- a text that was written whole, in a sink that failed only afterwards
pub AppendsFront-whole : (before between after : Option (List ℕ)) (text : List ℕ) → Appends before between text → after ≡ between
    → AppendsFront before after text
AppendsFront-whole before between after text whole same = (text, [], sym (append-nil text), rw same whole)
