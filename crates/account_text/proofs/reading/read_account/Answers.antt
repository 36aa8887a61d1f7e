use Rattle.std.proofs.Common.{◌≤◌, ◌∷◌, ◌++◌, length, refl, arith}
use Rattle.script_text.specs.Grammar.{lines_of}
use Rattle.account_text.specs.Account.{history_head, history_lines}
use Rattle.account_text.proofs.AccountTexts.{account_tells, final_part}
use Rattle.account_text.proofs.reading.read_account.Goals as goal

pub returns-in_default : goal.returns-in_default
returns-in_default c = record {
  found = λ lines history final fit is.
      let scripts = c.args.scripts.now in
      let few : length scripts ≤ 64 = omega (arith, c.count.ensures.count, c.count.ensures.limit) in
      let others = history_lines 1 history ++ lines_of (final_part final) in
      let tells = account_tells scripts lines history final c.args.text.now few fit is in
      absurd (rw c.in_default.is at (c.in_ok-told.ensures lines (history_head (length history) ∷ others) tells));
}

pub returns-in_default-2 : goal.returns-in_default-2
returns-in_default-2 c = record {
  found = λ lines history final fit is.
      let scripts = c.args.scripts.now in
      let few : length scripts ≤ 64 = omega (arith, c.count.ensures.count, c.count.ensures.limit) in
      let rest = lines_of (final_part final) in
      let others = history_lines 1 history ++ rest in
      let tells = account_tells scripts lines history final c.args.text.now few fit is in
      let told = rw c.in-Some.is at (c.in_ok-told.ensures lines (history_head (length history) ∷ others) tells) in
      absurd (rw c.in_default-2.is at (c.in_ok-history.ensures history rest fit.history_fits fit.short told.1));
}

pub returns : goal.returns
returns c = record {
  found = λ lines history final fit is.
      let scripts = c.args.scripts.now in
      let few : length scripts ≤ 64 = omega (arith, c.count.ensures.count, c.count.ensures.limit) in
      let rest = lines_of (final_part final) in
      let others = history_lines 1 history ++ rest in
      let tells = account_tells scripts lines history final c.args.text.now few fit is in
      let told = rw c.in-Some.is at (c.in_ok-told.ensures lines (history_head (length history) ∷ others) tells) in
      let read = rw c.in-Some-2.is at (c.in_ok-history.ensures history rest fit.history_fits fit.short told.1) in
      (record { told = c.in-Some.told; history = c.in-Some-2.history }, refl, told.0, read);
}
