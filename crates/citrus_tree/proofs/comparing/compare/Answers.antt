use Rattle.std.proofs.Common.{◌≡◌, ℕ, ◌≢◌, refl, ◌∙◌, arith}
use mathlib.Core.Logic.{dite}
use native.Mathlib.Decide.{ℕ_discrete}
use Rattle.citrus_tree.proofs.Replacing.{absent_begins, absent_goes, outside, unlocked, begins, goes_all, may_store, tries_again, rests_begins, rests_goes, rests_keeps, rests_way, stored_begins, absent_value, found_value, absent_compares, differs_compares, stored_compares, absent_keeps, stored_keeps}
use Rattle.std.proofs.lemmas.Result.{IfErr-at_err, IfOk-at_ok}
use Rattle.citrus_tree.proofs.Leavings.{keeps_goes}
use Rattle.seat_table.proofs.SeveralSteps.{prefix_steps}
use Rattle.citrus_tree.proofs.comparing.compare.Goals as goal

-- what isn't another one is the same
not_else : (n m : ℕ) → (n ≢ m → ⊥) → n ≡ m
not_else n m never = dite (ℕ_discrete n m) (λ same. same) (λ other. absurd (never other))

pub loop-round-init : goal.loop-round-init
loop-round-init g c = record {
  table = refl;
  listed = refl;
  tries = begins c.requires.quiet.view c.ranges.key.fits;
  made = omega arith;
}

pub find_value-requires-clause-table : goal.find_value-requires-clause-table
find_value-requires-clause-table g c = c.loop-round.invariant.table ∙ c.requires.table

pub find_value-requires-clause-outside : goal.find_value-requires-clause-outside
find_value-requires-clause-outside g c = outside c.loop-round.invariant.tries c.requires.tickets

pub find_value-requires-clause-unlocked : goal.find_value-requires-clause-unlocked
find_value-requires-clause-unlocked g c = unlocked c.loop-round.invariant.tries c.requires.tickets

pub returns-in_default-clause-compares : goal.returns-in_default-clause-compares
returns-in_default-clause-compares g c = absent_compares c.loop-round.invariant.tries c.requires.tickets c.args.expected
    (absent_value _ _ _ _ c.in_default.is c.find_value.ensures.sought)

pub returns-in_default-clause-begins : goal.returns-in_default-clause-begins
returns-in_default-clause-begins g c = absent_begins c.loop-round.invariant.tries c.requires.tickets
    (absent_value _ _ _ _ c.in_default.is c.find_value.ensures.sought)

pub returns-in_default-clause-keeps : goal.returns-in_default-clause-keeps
returns-in_default-clause-keeps g c =
    let tries = c.loop-round.invariant.tries in
    let looked = absent_value _ _ _ _ c.in_default.is c.find_value.ensures.sought in
    keeps_goes (absent_keeps tries c.requires.tickets looked c.find_value.ensures.place) (absent_goes tries c.requires.tickets looked)
    (c.find_value.ensures.seat.1 ∙ c.loop-round.invariant.listed) c.requires.quiet.listed

pub returns-in_default-clause-informed : goal.returns-in_default-clause-informed
returns-in_default-clause-informed g c = (absent_value _ _ _ _ c.in_default.is c.find_value.ensures.sought).informed

pub returns-then-found-expected-clause-compares : goal.returns-then-found-expected-clause-compares
returns-then-found-expected-clause-compares g c = differs_compares c.loop-round.invariant.tries c.requires.tickets
    (found_value _ _ _ _ c.in-Some.is c.find_value.ensures.sought) c.if-found-expected.true

pub returns-then-found-expected-clause-begins : goal.returns-then-found-expected-clause-begins
returns-then-found-expected-clause-begins g c = absent_begins c.loop-round.invariant.tries c.requires.tickets
    (found_value _ _ _ _ c.in-Some.is c.find_value.ensures.sought).0.looked

pub returns-then-found-expected-clause-keeps : goal.returns-then-found-expected-clause-keeps
returns-then-found-expected-clause-keeps g c =
    let tries = c.loop-round.invariant.tries in
    let looked = (found_value _ _ _ _ c.in-Some.is c.find_value.ensures.sought).0.looked in
    keeps_goes (absent_keeps tries c.requires.tickets looked c.find_value.ensures.place) (absent_goes tries c.requires.tickets looked)
    (c.find_value.ensures.seat.1 ∙ c.loop-round.invariant.listed) c.requires.quiet.listed

pub returns-then-found-expected-clause-informed : goal.returns-then-found-expected-clause-informed
returns-then-found-expected-clause-informed g c = (found_value _ _ _ _ c.in-Some.is c.find_value.ensures.sought).0.looked.informed

pub store_value-requires-clause-table : goal.store_value-requires-clause-table
store_value-requires-clause-table g c = c.find_value.ensures.seat.0 ∙ c.loop-round.invariant.table ∙ c.requires.table

pub store_value-requires-clause-at : goal.store_value-requires-clause-at
store_value-requires-clause-at g c = may_store c.loop-round.invariant.tries c.requires.tickets c.find_value.ensures.place _ refl
    (found_value _ _ _ _ c.in-Some.is c.find_value.ensures.sought).0

pub returns-in-Some-stored-clause-compares : goal.returns-in-Some-stored-clause-compares
returns-in-Some-stored-clause-compares g c =
    let sought = found_value _ _ _ _ c.in-Some.is c.find_value.ensures.sought in
    stored_compares c.loop-round.invariant.tries c.requires.tickets c.find_value.ensures.place sought c.in-Some-stored.is
    (IfOk-at_ok _ c.in-Ok.is c.in_ok-stored.ensures.stored) (IfOk-at_ok _ c.in-Ok.is c.in_ok-stored.ensures.at)
    (not_else _ _ ((IfOk-at_ok _ c.in-Ok.is c.in_ok-stored.ensures.expected) _ c.in-Some-stored.is))

pub returns-in-Some-stored-clause-begins : goal.returns-in-Some-stored-clause-begins
returns-in-Some-stored-clause-begins g c = stored_begins c.loop-round.invariant.tries c.requires.tickets c.find_value.ensures.place _ refl
    (found_value _ _ _ _ c.in-Some.is c.find_value.ensures.sought).0 c.in-Some-stored.is
    (IfOk-at_ok _ c.in-Ok.is c.in_ok-stored.ensures.stored) (IfOk-at_ok _ c.in-Ok.is c.in_ok-stored.ensures.at)

pub returns-in-Some-stored-clause-keeps : goal.returns-in-Some-stored-clause-keeps
returns-in-Some-stored-clause-keeps g c =
    let tries = c.loop-round.invariant.tries in
    let place = c.find_value.ensures.place in
    let found = (found_value _ _ _ _ c.in-Some.is c.find_value.ensures.sought).0 in
    let done = c.in_ok-stored.ensures in
    keeps_goes (stored_keeps tries c.requires.tickets place _ refl found c.in-Some-stored.is (IfOk-at_ok _ c.in-Ok.is done.stored)
    (IfOk-at_ok _ c.in-Ok.is done.at))
    (goes_all tries c.requires.tickets place _ refl found c.in-Some-stored.is (IfOk-at_ok _ c.in-Ok.is done.stored)
    (IfOk-at_ok _ c.in-Ok.is done.at))
    (c.store_value.ensures.seat.1 ∙ c.find_value.ensures.seat.1 ∙ c.loop-round.invariant.listed) c.requires.quiet.listed

pub loop-round-preserved : goal.loop-round-preserved
loop-round-preserved g c = record {
  table = c.store_value.ensures.seat.0 ∙ c.find_value.ensures.seat.0 ∙ c.loop-round.invariant.table;
  listed = c.store_value.ensures.seat.1 ∙ c.find_value.ensures.seat.1 ∙ c.loop-round.invariant.listed;
  tries = tries_again c.loop-round.invariant.tries c.requires.tickets c.find_value.ensures.place _ refl
      (found_value _ _ _ _ c.in-Some.is c.find_value.ensures.sought).0
      ((IfOk-at_ok _ c.in-Ok.is c.in_ok-stored.ensures.again) c.in_default-stored.is) c.in_default-stored.is
      (IfOk-at_ok _ c.in-Ok.is c.in_ok-stored.ensures.at);
  made =
      let made = c.loop-round.invariant.made in
      let found = c.find_value.ensures.stepped in
      let tried = prefix_steps c.find_value.new.seat.view c.store_value.new.seat.view
      ((IfOk-at_ok _ c.in-Ok.is c.in_ok-stored.ensures.again)
      c.in_default-stored.is).advanced.steps in
      omega (arith, made, found, tried);
}

pub returns-in-Err-rest-clause-busy : goal.returns-in-Err-rest-clause-busy
returns-in-Err-rest-clause-busy g c = rests_way c.loop-round.invariant.tries c.requires.tickets c.find_value.ensures.place _ refl
    (found_value _ _ _ _ c.in-Some.is c.find_value.ensures.sought).0
    ((IfOk-at_ok _ c.in-Ok.is c.in_ok-stored.ensures.again) c.in_default-stored.is) c.in_default-stored.is
    (IfOk-at_ok _ c.in-Ok.is c.in_ok-stored.ensures.at)

pub returns-in-Err-rest-clause-begins : goal.returns-in-Err-rest-clause-begins
returns-in-Err-rest-clause-begins g c = rests_begins c.loop-round.invariant.tries c.requires.tickets c.find_value.ensures.place _ refl
    (found_value _ _ _ _ c.in-Some.is c.find_value.ensures.sought).0
    ((IfOk-at_ok _ c.in-Ok.is c.in_ok-stored.ensures.again) c.in_default-stored.is) c.in_default-stored.is
    (IfOk-at_ok _ c.in-Ok.is c.in_ok-stored.ensures.at)

pub returns-in-Err-rest-clause-keeps : goal.returns-in-Err-rest-clause-keeps
returns-in-Err-rest-clause-keeps g c =
    let tries = c.loop-round.invariant.tries in
    let place = c.find_value.ensures.place in
    let found = (found_value _ _ _ _ c.in-Some.is c.find_value.ensures.sought).0 in
    let done = c.in_ok-stored.ensures in
    let again = (IfOk-at_ok _ c.in-Ok.is done.again) c.in_default-stored.is in
    keeps_goes (rests_keeps tries c.requires.tickets place _ refl found again c.in_default-stored.is (IfOk-at_ok _ c.in-Ok.is done.at))
    (rests_goes tries c.requires.tickets place _ refl found again c.in_default-stored.is (IfOk-at_ok _ c.in-Ok.is done.at))
    (c.store_value.ensures.seat.1 ∙ c.find_value.ensures.seat.1 ∙ c.loop-round.invariant.listed) c.requires.quiet.listed

pub returns-in-Err-clause-busy : goal.returns-in-Err-clause-busy
returns-in-Err-clause-busy g c = rests_way c.loop-round.invariant.tries c.requires.tickets c.find_value.ensures.place _ refl
    (found_value _ _ _ _ c.in-Some.is c.find_value.ensures.sought).0
    (IfErr-at_err _ c.in-Err.is c.in_ok-stored.ensures.busy) refl (IfErr-at_err _ c.in-Err.is c.in_ok-stored.ensures.back)

pub returns-in-Err-clause-begins : goal.returns-in-Err-clause-begins
returns-in-Err-clause-begins g c = rests_begins c.loop-round.invariant.tries c.requires.tickets c.find_value.ensures.place _ refl
    (found_value _ _ _ _ c.in-Some.is c.find_value.ensures.sought).0
    (IfErr-at_err _ c.in-Err.is c.in_ok-stored.ensures.busy) refl (IfErr-at_err _ c.in-Err.is c.in_ok-stored.ensures.back)

pub returns-in-Err-clause-keeps : goal.returns-in-Err-clause-keeps
returns-in-Err-clause-keeps g c =
    let tries = c.loop-round.invariant.tries in
    let place = c.find_value.ensures.place in
    let found = (found_value _ _ _ _ c.in-Some.is c.find_value.ensures.sought).0 in
    let busy = IfErr-at_err _ c.in-Err.is c.in_ok-stored.ensures.busy in
    let back = IfErr-at_err _ c.in-Err.is c.in_ok-stored.ensures.back in
    keeps_goes (rests_keeps tries c.requires.tickets place _ refl found busy refl back)
    (rests_goes tries c.requires.tickets place _ refl found busy refl back)
    (c.store_value.ensures.seat.1 ∙ c.find_value.ensures.seat.1 ∙ c.loop-round.invariant.listed) c.requires.quiet.listed
