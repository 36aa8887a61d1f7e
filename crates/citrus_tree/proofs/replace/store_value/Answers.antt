use Rattle.std.proofs.Common.{◌≡◌, ◌↔◌, Bool, true, false, IsTrue, Some, sym, ap, subst, ◌∙◌}
use Rattle.std.proofs.lemmas.Option.{none-some}
use Rattle.std.proofs.lemmas.Result.{IfErr-at_err, IfOk-at_ok}
use Rattle.citrus_tree.specs.declared.replace.Replaced.{Replaced}
use Rattle.citrus_tree.specs.Going.{IsOther}
use Rattle.citrus_tree.proofs.Replacing.{again_goes, busy_at, busy_goes, is_alive, is_odd, locks, settled, unpaid, not_alive, loads_life, gives_up, again_at, loads_value, committing, stores, evening, lets_go, done_at, stored, gives_way, gave_way_goes, gave_way_at}
use Rattle.citrus_tree.proofs.Leavings.{tried_none}
use Rattle.citrus_tree.proofs.replace.store_value.Goals as goal

one_done : (done known : Replaced) → Some known ≡ Some done → done ≡ known
one_done done known e = cc

-- a test that fails
not_other : {b : Bool} {P : Type 0} → IsTrue b ↔ P → b ≡ false → P → ⊥
not_other iff fails holds = (let e : true ≡ false = sym (iff.1 holds) ∙ fails in cc)

pub lock-requires-clause-asks : goal.lock-requires-clause-asks
lock-requires-clause-asks g c = locks c.requires.at.1

pub returns-then-lock-ne0-clause-again : goal.returns-then-lock-ne0-clause-again
returns-then-lock-ne0-clause-again g c _ = busy_goes c.requires.at.1 c.lock.ensures.told

pub returns-then-lock-ne0-clause-stored : goal.returns-then-lock-ne0-clause-stored
returns-then-lock-ne0-clause-stored g c kept done a e = absurd (none-some done e)

pub returns-then-lock-ne0-clause-at : goal.returns-then-lock-ne0-clause-at
returns-then-lock-ne0-clause-at g c kept a = busy_at a c.lock.ensures.told c.if-lock-ne0.true

pub locked_load-life-requires-clause-asks : goal.locked_load-life-requires-clause-asks
locked_load-life-requires-clause-asks g c = loads_life c.requires.at.1 c.lock.ensures.told c.if-lock-ne0.false

pub unlock-requires-clause-asks : goal.unlock-requires-clause-asks
unlock-requires-clause-asks g c = gives_up c.requires.at.1 c.lock.ensures.told c.if-lock-ne0.false c.locked_load-life.ensures.told
    (not_alive _ _ c.is_life-holds.ensures c.if-not-holds.true)

pub returns-then-not-holds-clause-again : goal.returns-then-not-holds-clause-again
returns-then-not-holds-clause-again g c _ = again_goes c.requires.at.1 c.lock.ensures.told c.if-lock-ne0.false
    c.locked_load-life.ensures.told (not_alive _ _ c.is_life-holds.ensures c.if-not-holds.true) c.unlock.ensures.told

pub returns-then-not-holds-clause-stored : goal.returns-then-not-holds-clause-stored
returns-then-not-holds-clause-stored g c kept done a e = absurd (none-some done e)

pub returns-then-not-holds-clause-at : goal.returns-then-not-holds-clause-at
returns-then-not-holds-clause-at g c kept a = again_at a c.lock.ensures.told c.if-lock-ne0.false c.locked_load-life.ensures.told
    (not_alive _ _ c.is_life-holds.ensures c.if-not-holds.true) c.unlock.ensures.told

pub locked_load-old-requires-clause-asks : goal.locked_load-old-requires-clause-asks
locked_load-old-requires-clause-asks g c =
    loads_value c.requires.at.1 c.lock.ensures.told c.if-lock-ne0.false c.locked_load-life.ensures.told
    (is_alive _ _ c.is_life-holds.ensures c.if-not-holds.false)

pub unlock-requires-then-is_other-clause-asks : goal.unlock-requires-then-is_other-clause-asks
unlock-requires-then-is_other-clause-asks g c = gives_way c.requires.at.1 c.lock.ensures.told c.if-lock-ne0.false
    c.locked_load-life.ensures.told
    (is_alive _ _ c.is_life-holds.ensures c.if-not-holds.false) c.locked_load-old.ensures.told (tried_none _)

pub returns-then-is_other-clause-again : goal.returns-then-is_other-clause-again
returns-then-is_other-clause-again g c _ =
    gave_way_goes c.requires.at.1 c.lock.ensures.told c.if-lock-ne0.false c.locked_load-life.ensures.told
    (is_alive _ _ c.is_life-holds.ensures c.if-not-holds.false) c.locked_load-old.ensures.told (tried_none _)
    c.unlock-then-is_other.ensures.told

pub returns-then-is_other-clause-stored : goal.returns-then-is_other-clause-stored
returns-then-is_other-clause-stored g c kept done a e = absurd (none-some done e)

pub returns-then-is_other-clause-at : goal.returns-then-is_other-clause-at
returns-then-is_other-clause-at g c kept a =
    gave_way_at a c.lock.ensures.told c.if-lock-ne0.false c.locked_load-life.ensures.told
    (is_alive _ _ c.is_life-holds.ensures c.if-not-holds.false) c.locked_load-old.ensures.told (tried_none _)
    c.unlock-then-is_other.ensures.told

pub open_commit_so-requires-clause-settled : goal.open_commit_so-requires-clause-settled
open_commit_so-requires-clause-settled g c = settled c.requires.at.1 c.lock.ensures.told c.if-lock-ne0.false
    c.locked_load-life.ensures.told
    (is_alive _ _ c.is_life-holds.ensures c.if-not-holds.false) c.locked_load-old.ensures.told

pub open_commit_so-requires-clause-paid : goal.open_commit_so-requires-clause-paid
open_commit_so-requires-clause-paid g c = unpaid c.requires.at.1 c.lock.ensures.told c.if-lock-ne0.false
    c.locked_load-life.ensures.told
    (is_alive _ _ c.is_life-holds.ensures c.if-not-holds.false) c.locked_load-old.ensures.told

pub replace_value-requires-clause-asks : goal.replace_value-requires-clause-asks
replace_value-requires-clause-asks g c =
    stores c.requires.at.1 c.lock.ensures.told c.if-lock-ne0.false c.locked_load-life.ensures.told
    (is_alive _ _ c.is_life-holds.ensures c.if-not-holds.false) c.locked_load-old.ensures.told
    (IfOk-at_ok _ c.in-Ok.is c.in_ok-front.ensures.opened)
    ((IfOk-at_ok _ c.in-Ok.is c.in_ok-front.ensures.at) _ _ _ _
    (committing c.requires.at.1 c.lock.ensures.told c.if-lock-ne0.false c.locked_load-life.ensures.told
    (is_alive _ _ c.is_life-holds.ensures c.if-not-holds.false) c.locked_load-old.ensures.told))

pub close_commit-number-requires-clause-odd : goal.close_commit-number-requires-clause-odd
close_commit-number-requires-clause-odd g c =
    let storing =
    (IfOk-at_ok _ c.in-Ok.is c.in_ok-front.ensures.at) _ _ _ _
    (committing c.requires.at.1 c.lock.ensures.told c.if-lock-ne0.false c.locked_load-life.ensures.told
    (is_alive _ _ c.is_life-holds.ensures c.if-not-holds.false) c.locked_load-old.ensures.told) in
    is_odd c.requires.at.1 c.lock.ensures.told c.if-lock-ne0.false c.locked_load-life.ensures.told
    (is_alive _ _ c.is_life-holds.ensures c.if-not-holds.false) c.locked_load-old.ensures.told
    (IfOk-at_ok _ c.in-Ok.is c.in_ok-front.ensures.opened) storing
    c.replace_value.ensures.told

pub unlock-requires-2-clause-asks : goal.unlock-requires-2-clause-asks
unlock-requires-2-clause-asks g c =
    let storing =
    (IfOk-at_ok _ c.in-Ok.is c.in_ok-front.ensures.at) _ _ _ _
    (committing c.requires.at.1 c.lock.ensures.told c.if-lock-ne0.false c.locked_load-life.ensures.told
    (is_alive _ _ c.is_life-holds.ensures c.if-not-holds.false) c.locked_load-old.ensures.told) in
    lets_go c.requires.at.1 c.lock.ensures.told c.if-lock-ne0.false c.locked_load-life.ensures.told
    (is_alive _ _ c.is_life-holds.ensures c.if-not-holds.false) c.locked_load-old.ensures.told
    (IfOk-at_ok _ c.in-Ok.is c.in_ok-front.ensures.opened) storing
    c.replace_value.ensures.told c.close_commit-number.ensures.closed
    (c.close_commit-number.ensures.at _ _ _ (evening c.requires.at.1 c.lock.ensures.told c.if-lock-ne0.false c.locked_load-life.ensures.told
    (is_alive _ _ c.is_life-holds.ensures c.if-not-holds.false) c.locked_load-old.ensures.told
    (IfOk-at_ok _ c.in-Ok.is c.in_ok-front.ensures.opened) storing
    c.replace_value.ensures.told))

pub returns-clause-again : goal.returns-clause-again
returns-clause-again g c e = absurd (none-some _ (sym e))

pub returns-clause-stored : goal.returns-clause-stored
returns-clause-stored g c kept done a e =
    let storing = (IfOk-at_ok _ c.in-Ok.is c.in_ok-front.ensures.at) _ _ _ _
    (committing a c.lock.ensures.told c.if-lock-ne0.false c.locked_load-life.ensures.told
    (is_alive _ _ c.is_life-holds.ensures c.if-not-holds.false) c.locked_load-old.ensures.told) in
    let is = one_done done (record { old = c.locked_load-old.result; number = c.close_commit-number.result }) e in
    stored a c.lock.ensures.told c.if-lock-ne0.false c.locked_load-life.ensures.told
    (is_alive _ _ c.is_life-holds.ensures c.if-not-holds.false) c.locked_load-old.ensures.told
    (IfOk-at_ok _ c.in-Ok.is c.in_ok-front.ensures.opened) storing
    c.replace_value.ensures.told c.close_commit-number.ensures.closed
    (c.close_commit-number.ensures.at _ _ _ (evening a c.lock.ensures.told c.if-lock-ne0.false c.locked_load-life.ensures.told
    (is_alive _ _ c.is_life-holds.ensures c.if-not-holds.false) c.locked_load-old.ensures.told
    (IfOk-at_ok _ c.in-Ok.is c.in_ok-front.ensures.opened) storing
    c.replace_value.ensures.told))
    c.unlock-2.ensures.told done (ap (λ (z : Replaced). z.old) is)
    (ap (λ (z : Replaced). z.number) is ∙ c.close_commit-number.ensures.number)

pub returns-clause-at : goal.returns-clause-at
returns-clause-at g c kept a =
    let storing = (IfOk-at_ok _ c.in-Ok.is c.in_ok-front.ensures.at) _ _ _ _
    (committing a c.lock.ensures.told c.if-lock-ne0.false c.locked_load-life.ensures.told
    (is_alive _ _ c.is_life-holds.ensures c.if-not-holds.false) c.locked_load-old.ensures.told) in
    done_at a c.lock.ensures.told c.if-lock-ne0.false c.locked_load-life.ensures.told
    (is_alive _ _ c.is_life-holds.ensures c.if-not-holds.false) c.locked_load-old.ensures.told
    (IfOk-at_ok _ c.in-Ok.is c.in_ok-front.ensures.opened) storing
    c.replace_value.ensures.told c.close_commit-number.ensures.closed
    (c.close_commit-number.ensures.at _ _ _ (evening a c.lock.ensures.told c.if-lock-ne0.false c.locked_load-life.ensures.told
    (is_alive _ _ c.is_life-holds.ensures c.if-not-holds.false) c.locked_load-old.ensures.told
    (IfOk-at_ok _ c.in-Ok.is c.in_ok-front.ensures.opened) storing
    c.replace_value.ensures.told))
    c.unlock-2.ensures.told

pub returns-then-lock-ne0-clause-expected : goal.returns-then-lock-ne0-clause-expected
returns-then-lock-ne0-clause-expected g c done e = absurd (none-some done e)

pub returns-then-not-holds-clause-expected : goal.returns-then-not-holds-clause-expected
returns-then-not-holds-clause-expected g c done e = absurd (none-some done e)

pub returns-then-is_other-clause-expected : goal.returns-then-is_other-clause-expected
returns-then-is_other-clause-expected g c done e = absurd (none-some done e)

pub returns-clause-expected : goal.returns-clause-expected
returns-clause-expected g c done e other =
    let is = one_done done (record { old = c.locked_load-old.result; number = c.close_commit-number.result }) e in
    not_other c.is_other.ensures c.if-is_other.false (subst (λ (z : Replaced). IsOther c.args.expected z.old) is other)

pub unlock-requires-in-Err-clause-asks : goal.unlock-requires-in-Err-clause-asks
unlock-requires-in-Err-clause-asks g c = gives_way c.requires.at.1 c.lock.ensures.told c.if-lock-ne0.false c.locked_load-life.ensures.told
    (is_alive _ _ c.is_life-holds.ensures c.if-not-holds.false) c.locked_load-old.ensures.told
    (IfErr-at_err _ c.in-Err.is c.in_ok-front.ensures.busy)

pub returns-in-Err-clause-busy : goal.returns-in-Err-clause-busy
returns-in-Err-clause-busy g c = gave_way_goes c.requires.at.1 c.lock.ensures.told c.if-lock-ne0.false c.locked_load-life.ensures.told
    (is_alive _ _ c.is_life-holds.ensures c.if-not-holds.false) c.locked_load-old.ensures.told
    (IfErr-at_err _ c.in-Err.is c.in_ok-front.ensures.busy) c.unlock-in-Err.ensures.told

pub returns-in-Err-clause-back : goal.returns-in-Err-clause-back
returns-in-Err-clause-back g c kept a = gave_way_at a c.lock.ensures.told c.if-lock-ne0.false c.locked_load-life.ensures.told
    (is_alive _ _ c.is_life-holds.ensures c.if-not-holds.false) c.locked_load-old.ensures.told
    (IfErr-at_err _ c.in-Err.is c.in_ok-front.ensures.busy) c.unlock-in-Err.ensures.told
