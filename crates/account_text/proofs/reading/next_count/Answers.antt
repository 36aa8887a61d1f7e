use Rattle.std.proofs.Common.{◌≡◌, List, ℕ, ◌∷◌, codes, sym, ◌∙◌}
use Rattle.std.specs.Fmt.{decimal}
use Rattle.account_text.proofs.AccountTexts.{Lacks-history}
use Rattle.account_text.proofs.reading.next_count.Goals as goal

same_lines : (line line' : List ℕ) (more more' : List (List ℕ)) → line ∷ more ≡ line' ∷ more' → (line ≡ line') × (more ≡ more')
same_lines line line' more more' is = (cc, cc)

pub returns-in_err-digits : goal.returns-in_err-digits
returns-in_err-digits c count more small is =
    let here = same_lines _ _ _ _ (sym c.in_ok-line.ensures.cut ∙ is) in
    absurd (c.in_err-digits.ensures (codes "history") (decimal count) Lacks-history here.0)

pub returns-in_err-last_number : goal.returns-in_err-last_number
returns-in_err-last_number c count more small is =
    let here = same_lines _ _ _ _ (sym c.in_ok-line.ensures.cut ∙ is) in
    let digits = c.in_ok-digits.ensures (codes "history") (decimal count) Lacks-history here.0 in
    absurd (cc (c.in_err-last_number.ensures count small digits))

pub returns : goal.returns
returns c count more small is =
    let here = same_lines _ _ _ _ (sym c.in_ok-line.ensures.cut ∙ is) in
    let digits = c.in_ok-digits.ensures (codes "history") (decimal count) Lacks-history here.0 in
    (cc (c.in_ok-last_number.ensures count small digits), here.1)
