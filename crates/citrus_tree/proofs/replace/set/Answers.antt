use Rattle.std.proofs.Common.{◌≡◌, ℕ, Option, None, refl, subst, ◌∙◌, arith}
use Rattle.core_state.specs.declared.shape.Shape.{Shape}
use Rattle.core_state.specs.declared.view.View.{View}
use Rattle.citrus_tree.specs.declared.replace.Holder.{Holder}
use Rattle.citrus_tree.specs.Going.{Sought}
use Rattle.citrus_tree.specs.Lookups.{Looked}
use Rattle.citrus_tree.proofs.Replacing.{absent_begins, absent_goes, outside, unlocked, begins, absent_sets, goes_all, may_store, tries_again, rests_begins, rests_goes, rests_keeps, rests_way, stored_begins, stored_sets, absent_keeps, stored_keeps}
use Rattle.std.proofs.lemmas.Result.{IfErr-at_err, IfOk-at_ok}
use Rattle.citrus_tree.proofs.Leavings.{keeps_goes}
use Rattle.seat_table.proofs.SeveralSteps.{prefix_steps}
use Rattle.citrus_tree.proofs.replace.set.Goals as goal

-- a search that found no holder found the key absent
absent : (k : Shape) (v w : View) (key : ℕ) {answer : Option Holder} → answer ≡ None → Sought k v key answer w → Looked v key None w
absent k v w key is sought = subst (λ (r : Option Holder). Sought k v key r w) is sought

pub loop-round-init : goal.loop-round-init
loop-round-init g c = record {
  table = refl;
  listed = refl;
  tries = begins c.requires.quiet.view c.ranges.key.fits;
  made = omega arith;
}

pub find_holder-requires-clause-table : goal.find_holder-requires-clause-table
find_holder-requires-clause-table g c = c.loop-round.invariant.table ∙ c.requires.table

pub find_holder-requires-clause-outside : goal.find_holder-requires-clause-outside
find_holder-requires-clause-outside g c = outside c.loop-round.invariant.tries c.requires.tickets

pub find_holder-requires-clause-unlocked : goal.find_holder-requires-clause-unlocked
find_holder-requires-clause-unlocked g c = unlocked c.loop-round.invariant.tries c.requires.tickets

pub returns-in_default-clause-keeps : goal.returns-in_default-clause-keeps
returns-in_default-clause-keeps g c =
    let tries = c.loop-round.invariant.tries in
    let looked = absent _ _ _ _ c.in_default.is c.find_holder.ensures.sought in
    keeps_goes (absent_keeps tries c.requires.tickets looked c.find_holder.ensures.place) (absent_goes tries c.requires.tickets looked)
    (c.find_holder.ensures.seat.1 ∙ c.loop-round.invariant.listed) c.requires.quiet.listed

pub returns-in_default-clause-informed : goal.returns-in_default-clause-informed
returns-in_default-clause-informed g c = (absent _ _ _ _ c.in_default.is c.find_holder.ensures.sought).informed

pub store_value-requires-clause-table : goal.store_value-requires-clause-table
store_value-requires-clause-table g c = c.find_holder.ensures.seat.0 ∙ c.loop-round.invariant.table ∙ c.requires.table

pub returns-in_default-clause-sets : goal.returns-in_default-clause-sets
returns-in_default-clause-sets g c = absent_sets c.loop-round.invariant.tries c.requires.tickets
    (absent _ _ _ _ c.in_default.is c.find_holder.ensures.sought) refl c.answered.ensures

pub store_value-requires-clause-at : goal.store_value-requires-clause-at
store_value-requires-clause-at g c = may_store c.loop-round.invariant.tries c.requires.tickets c.find_holder.ensures.place _ c.in-Some.is
    c.find_holder.ensures.sought

pub returns-in-Some-stored-clause-sets : goal.returns-in-Some-stored-clause-sets
returns-in-Some-stored-clause-sets g c = stored_sets c.loop-round.invariant.tries c.requires.tickets c.find_holder.ensures.place _
    c.in-Some.is
    c.find_holder.ensures.sought c.in-Some-stored.is (IfOk-at_ok _ c.in-Ok.is c.in_ok-stored.ensures.stored)
    (IfOk-at_ok _ c.in-Ok.is c.in_ok-stored.ensures.at) c.answered-in-Some-stored.ensures

pub returns-in-Some-stored-clause-keeps : goal.returns-in-Some-stored-clause-keeps
returns-in-Some-stored-clause-keeps g c =
    let tries = c.loop-round.invariant.tries in
    let place = c.find_holder.ensures.place in
    let sought = c.find_holder.ensures.sought in
    let done = c.in_ok-stored.ensures in
    keeps_goes (stored_keeps tries c.requires.tickets place _ c.in-Some.is sought c.in-Some-stored.is (IfOk-at_ok _ c.in-Ok.is done.stored)
    (IfOk-at_ok _ c.in-Ok.is done.at))
    (goes_all tries c.requires.tickets place _ c.in-Some.is sought c.in-Some-stored.is (IfOk-at_ok _ c.in-Ok.is done.stored)
    (IfOk-at_ok _ c.in-Ok.is done.at))
    (c.store_value.ensures.seat.1 ∙ c.find_holder.ensures.seat.1 ∙ c.loop-round.invariant.listed) c.requires.quiet.listed

pub loop-round-preserved : goal.loop-round-preserved
loop-round-preserved g c = record {
  table = c.store_value.ensures.seat.0 ∙ c.find_holder.ensures.seat.0 ∙ c.loop-round.invariant.table;
  listed = c.store_value.ensures.seat.1 ∙ c.find_holder.ensures.seat.1 ∙ c.loop-round.invariant.listed;
  tries = tries_again c.loop-round.invariant.tries c.requires.tickets c.find_holder.ensures.place _ c.in-Some.is
      c.find_holder.ensures.sought
      ((IfOk-at_ok _ c.in-Ok.is c.in_ok-stored.ensures.again) c.in_default-stored.is) c.in_default-stored.is
      (IfOk-at_ok _ c.in-Ok.is c.in_ok-stored.ensures.at);
  made =
      let made = c.loop-round.invariant.made in
      let found = c.find_holder.ensures.stepped in
      let tried = prefix_steps c.find_holder.new.seat.view c.store_value.new.seat.view
      ((IfOk-at_ok _ c.in-Ok.is c.in_ok-stored.ensures.again)
      c.in_default-stored.is).advanced.steps in
      omega (arith, made, found, tried);
}

pub returns-in_default-clause-begins : goal.returns-in_default-clause-begins
returns-in_default-clause-begins g c = absent_begins c.loop-round.invariant.tries c.requires.tickets
    (absent _ _ _ _ c.in_default.is c.find_holder.ensures.sought)

pub returns-in-Some-stored-clause-begins : goal.returns-in-Some-stored-clause-begins
returns-in-Some-stored-clause-begins g c =
    stored_begins c.loop-round.invariant.tries c.requires.tickets c.find_holder.ensures.place _ c.in-Some.is
    c.find_holder.ensures.sought c.in-Some-stored.is (IfOk-at_ok _ c.in-Ok.is c.in_ok-stored.ensures.stored)
    (IfOk-at_ok _ c.in-Ok.is c.in_ok-stored.ensures.at)

pub returns-in-Err-rest-clause-busy : goal.returns-in-Err-rest-clause-busy
returns-in-Err-rest-clause-busy g c = rests_way c.loop-round.invariant.tries c.requires.tickets c.find_holder.ensures.place _ c.in-Some.is
    c.find_holder.ensures.sought ((IfOk-at_ok _ c.in-Ok.is c.in_ok-stored.ensures.again) c.in_default-stored.is) c.in_default-stored.is
    (IfOk-at_ok _ c.in-Ok.is c.in_ok-stored.ensures.at)

pub returns-in-Err-rest-clause-begins : goal.returns-in-Err-rest-clause-begins
returns-in-Err-rest-clause-begins g c = rests_begins c.loop-round.invariant.tries c.requires.tickets c.find_holder.ensures.place _
    c.in-Some.is
    c.find_holder.ensures.sought ((IfOk-at_ok _ c.in-Ok.is c.in_ok-stored.ensures.again) c.in_default-stored.is) c.in_default-stored.is
    (IfOk-at_ok _ c.in-Ok.is c.in_ok-stored.ensures.at)

pub returns-in-Err-rest-clause-keeps : goal.returns-in-Err-rest-clause-keeps
returns-in-Err-rest-clause-keeps g c =
    let tries = c.loop-round.invariant.tries in
    let place = c.find_holder.ensures.place in
    let sought = c.find_holder.ensures.sought in
    let done = c.in_ok-stored.ensures in
    let again = (IfOk-at_ok _ c.in-Ok.is done.again) c.in_default-stored.is in
    keeps_goes (rests_keeps tries c.requires.tickets place _ c.in-Some.is sought again c.in_default-stored.is
    (IfOk-at_ok _ c.in-Ok.is done.at))
    (rests_goes tries c.requires.tickets place _ c.in-Some.is sought again c.in_default-stored.is (IfOk-at_ok _ c.in-Ok.is done.at))
    (c.store_value.ensures.seat.1 ∙ c.find_holder.ensures.seat.1 ∙ c.loop-round.invariant.listed) c.requires.quiet.listed

pub returns-in-Err-clause-busy : goal.returns-in-Err-clause-busy
returns-in-Err-clause-busy g c = rests_way c.loop-round.invariant.tries c.requires.tickets c.find_holder.ensures.place _ c.in-Some.is
    c.find_holder.ensures.sought
    (IfErr-at_err _ c.in-Err.is c.in_ok-stored.ensures.busy) refl (IfErr-at_err _ c.in-Err.is c.in_ok-stored.ensures.back)

pub returns-in-Err-clause-begins : goal.returns-in-Err-clause-begins
returns-in-Err-clause-begins g c = rests_begins c.loop-round.invariant.tries c.requires.tickets c.find_holder.ensures.place _ c.in-Some.is
    c.find_holder.ensures.sought
    (IfErr-at_err _ c.in-Err.is c.in_ok-stored.ensures.busy) refl (IfErr-at_err _ c.in-Err.is c.in_ok-stored.ensures.back)

pub returns-in-Err-clause-keeps : goal.returns-in-Err-clause-keeps
returns-in-Err-clause-keeps g c =
    let tries = c.loop-round.invariant.tries in
    let place = c.find_holder.ensures.place in
    let sought = c.find_holder.ensures.sought in
    let busy = IfErr-at_err _ c.in-Err.is c.in_ok-stored.ensures.busy in
    let back = IfErr-at_err _ c.in-Err.is c.in_ok-stored.ensures.back in
    keeps_goes (rests_keeps tries c.requires.tickets place _ c.in-Some.is sought busy refl back)
    (rests_goes tries c.requires.tickets place _ c.in-Some.is sought busy refl back)
    (c.store_value.ensures.seat.1 ∙ c.find_holder.ensures.seat.1 ∙ c.loop-round.invariant.listed) c.requires.quiet.listed
