use Rattle.std.proofs.Common.{◌≡◌, ℕ, Some, sym, ◌∙◌}
use Rattle.std.proofs.lemmas.Option.{none-some}
use Rattle.std.proofs.lemmas.Result.{IfErr-at_err, IfOk-at_ok}
use Rattle.prcu_model.specs.declared.operation.Op.TheVariants.{Put}
use Rattle.citrus_tree.proofs.Linking.{busy_at, busy_goes, checking, fails_at, holds_at, settled_leaf, unpaid_leaf, hand_locked, hand_unlocked, gives_up_lock, again_at, again_goes, is_odd, locks, stores_leaf, evening, lets_go, done_at, links, gives_way_lock, gave_way_goes, gave_way_at}
use Rattle.citrus_tree.proofs.insert.link_leaf.Goals as goal

one_number : (number known : ℕ) → Some known ≡ Some number → number ≡ known
one_number number known e = cc

pub lock-requires-clause-asks : goal.lock-requires-clause-asks
lock-requires-clause-asks g c = locks c.requires.at.1

pub returns-then-lock-ne0-clause-again : goal.returns-then-lock-ne0-clause-again
returns-then-lock-ne0-clause-again g c _ = busy_goes c.requires.at.1 c.lock.ensures.told

pub returns-then-lock-ne0-clause-linked : goal.returns-then-lock-ne0-clause-linked
returns-then-lock-ne0-clause-linked g c kept number a e = absurd (none-some number e)

pub returns-then-lock-ne0-clause-at : goal.returns-then-lock-ne0-clause-at
returns-then-lock-ne0-clause-at g c kept a = busy_at a c.lock.ensures.told c.if-lock-ne0.true

pub still_holds-requires-clause-at : goal.still_holds-requires-clause-at
still_holds-requires-clause-at g c = (
  Put c.args.key c.args.value,
  c.requires.at.0,
  checking c.requires.at.1 c.lock.ensures.told c.if-lock-ne0.false,
)

pub unlock-requires-clause-asks : goal.unlock-requires-clause-asks
unlock-requires-clause-asks g c = gives_up_lock c.requires.at.1 c.lock.ensures.told c.still_holds.ensures.goes c.still_holds.ensures.locked
    (fails_at c.args.spot c.still_holds.result c.if-not-still_holds.true
    (c.still_holds.ensures.at _ _ (checking c.requires.at.1 c.lock.ensures.told c.if-lock-ne0.false)))

pub returns-then-not-still_holds-clause-linked : goal.returns-then-not-still_holds-clause-linked
returns-then-not-still_holds-clause-linked g c kept number a e = absurd (none-some number e)

pub returns-then-not-still_holds-clause-at : goal.returns-then-not-still_holds-clause-at
returns-then-not-still_holds-clause-at g c kept a =
    again_at a c.lock.ensures.told c.still_holds.ensures.goes c.still_holds.ensures.locked
    (fails_at c.args.spot c.still_holds.result c.if-not-still_holds.true
    (c.still_holds.ensures.at _ _ (checking a c.lock.ensures.told c.if-lock-ne0.false))) c.unlock.ensures.told

pub open_commit_so-requires-clause-settled : goal.open_commit_so-requires-clause-settled
open_commit_so-requires-clause-settled g c = settled_leaf
    (holds_at c.args.spot c.still_holds.result c.if-not-still_holds.false
    (c.still_holds.ensures.at _ _ (checking c.requires.at.1 c.lock.ensures.told c.if-lock-ne0.false)))

pub open_commit_so-requires-clause-paid : goal.open_commit_so-requires-clause-paid
open_commit_so-requires-clause-paid g c = unpaid_leaf
    (holds_at c.args.spot c.still_holds.result c.if-not-still_holds.false
    (c.still_holds.ensures.at _ _ (checking c.requires.at.1 c.lock.ensures.told c.if-lock-ne0.false)))

pub link_leaf-requires-clause-asks : goal.link_leaf-requires-clause-asks
link_leaf-requires-clause-asks g c =
    let storing = ((IfOk-at_ok _ c.in-Ok.is c.in_ok-front.ensures.at) _ _ _ _
    (holds_at c.args.spot c.still_holds.result c.if-not-still_holds.false
    (c.still_holds.ensures.at _ _ (checking c.requires.at.1 c.lock.ensures.told c.if-lock-ne0.false)))) in
    stores_leaf c.requires.at.1 c.lock.ensures.told c.still_holds.ensures.goes (IfOk-at_ok _ c.in-Ok.is c.in_ok-front.ensures.opened)
    storing c.args.leaf
    (c.still_holds.ensures.slot c.args.leaf (hand_locked c.args.leaf c.lock.ensures.told c.requires.slot))

pub close_commit-number-requires-clause-odd : goal.close_commit-number-requires-clause-odd
close_commit-number-requires-clause-odd g c =
    let storing = ((IfOk-at_ok _ c.in-Ok.is c.in_ok-front.ensures.at) _ _ _ _
    (holds_at c.args.spot c.still_holds.result c.if-not-still_holds.false
    (c.still_holds.ensures.at _ _ (checking c.requires.at.1 c.lock.ensures.told c.if-lock-ne0.false)))) in
    let hand = c.still_holds.ensures.slot c.args.leaf (hand_locked c.args.leaf c.lock.ensures.told c.requires.slot) in
    is_odd c.requires.at.1 c.lock.ensures.told c.still_holds.ensures.goes (IfOk-at_ok _ c.in-Ok.is c.in_ok-front.ensures.opened) storing
    c.args.leaf hand
    c.link_leaf.ensures.told

pub unlock-requires-2-clause-asks : goal.unlock-requires-2-clause-asks
unlock-requires-2-clause-asks g c =
    let storing = ((IfOk-at_ok _ c.in-Ok.is c.in_ok-front.ensures.at) _ _ _ _
    (holds_at c.args.spot c.still_holds.result c.if-not-still_holds.false
    (c.still_holds.ensures.at _ _ (checking c.requires.at.1 c.lock.ensures.told c.if-lock-ne0.false)))) in
    let hand = c.still_holds.ensures.slot c.args.leaf (hand_locked c.args.leaf c.lock.ensures.told c.requires.slot) in
    lets_go c.requires.at.1 c.lock.ensures.told c.still_holds.ensures.goes (IfOk-at_ok _ c.in-Ok.is c.in_ok-front.ensures.opened) storing
    c.args.leaf hand
    c.link_leaf.ensures.told c.close_commit-number.ensures.closed
    (c.close_commit-number.ensures.at _ _ _ (evening c.requires.at.1 c.lock.ensures.told c.still_holds.ensures.goes
    (IfOk-at_ok _ c.in-Ok.is c.in_ok-front.ensures.opened) storing c.args.leaf hand c.link_leaf.ensures.told))

pub returns-clause-again : goal.returns-clause-again
returns-clause-again g c e = absurd (none-some _ (sym e))

pub returns-clause-linked : goal.returns-clause-linked
returns-clause-linked g c kept number a e =
    let storing = ((IfOk-at_ok _ c.in-Ok.is c.in_ok-front.ensures.at) _ _ _ _
    (holds_at c.args.spot c.still_holds.result c.if-not-still_holds.false
    (c.still_holds.ensures.at _ _ (checking a c.lock.ensures.told c.if-lock-ne0.false)))) in
    let hand = c.still_holds.ensures.slot c.args.leaf (hand_locked c.args.leaf c.lock.ensures.told c.requires.slot) in
    let is = one_number number c.close_commit-number.result e in
    links a c.lock.ensures.told c.still_holds.ensures.goes (IfOk-at_ok _ c.in-Ok.is c.in_ok-front.ensures.opened) storing c.args.leaf hand
    c.link_leaf.ensures.told
    c.close_commit-number.ensures.closed
    (c.close_commit-number.ensures.at _ _ _
    (evening a c.lock.ensures.told c.still_holds.ensures.goes (IfOk-at_ok _ c.in-Ok.is c.in_ok-front.ensures.opened) storing
    c.args.leaf hand c.link_leaf.ensures.told))
    c.unlock-2.ensures.told number (is ∙ c.close_commit-number.ensures.number)

pub returns-clause-at : goal.returns-clause-at
returns-clause-at g c kept a =
    let storing = ((IfOk-at_ok _ c.in-Ok.is c.in_ok-front.ensures.at) _ _ _ _
    (holds_at c.args.spot c.still_holds.result c.if-not-still_holds.false
    (c.still_holds.ensures.at _ _ (checking a c.lock.ensures.told c.if-lock-ne0.false)))) in
    let hand = c.still_holds.ensures.slot c.args.leaf (hand_locked c.args.leaf c.lock.ensures.told c.requires.slot) in
    done_at a c.lock.ensures.told c.still_holds.ensures.goes (IfOk-at_ok _ c.in-Ok.is c.in_ok-front.ensures.opened) storing c.args.leaf hand
    c.link_leaf.ensures.told
    c.close_commit-number.ensures.closed
    (c.close_commit-number.ensures.at _ _ _
    (evening a c.lock.ensures.told c.still_holds.ensures.goes (IfOk-at_ok _ c.in-Ok.is c.in_ok-front.ensures.opened) storing
    c.args.leaf hand c.link_leaf.ensures.told))
    c.unlock-2.ensures.told

pub returns-then-not-still_holds-clause-again : goal.returns-then-not-still_holds-clause-again
returns-then-not-still_holds-clause-again g c _ =
    again_goes c.requires.at.1 c.lock.ensures.told c.still_holds.ensures.goes c.still_holds.ensures.locked
    (fails_at c.args.spot c.still_holds.result c.if-not-still_holds.true
    (c.still_holds.ensures.at _ _ (checking c.requires.at.1 c.lock.ensures.told c.if-lock-ne0.false))) c.unlock.ensures.told

pub unlock-requires-in-Err-clause-asks : goal.unlock-requires-in-Err-clause-asks
unlock-requires-in-Err-clause-asks g c = gives_way_lock c.requires.at.1 c.lock.ensures.told c.still_holds.ensures.goes
    (IfErr-at_err _ c.in-Err.is c.in_ok-front.ensures.busy) c.still_holds.ensures.locked
    (holds_at c.args.spot c.still_holds.result c.if-not-still_holds.false
    (c.still_holds.ensures.at _ _ (checking c.requires.at.1 c.lock.ensures.told c.if-lock-ne0.false)))

pub returns-in-Err-clause-busy : goal.returns-in-Err-clause-busy
returns-in-Err-clause-busy g c = gave_way_goes c.requires.at.1 c.lock.ensures.told c.still_holds.ensures.goes
    (IfErr-at_err _ c.in-Err.is c.in_ok-front.ensures.busy) c.still_holds.ensures.locked
    (holds_at c.args.spot c.still_holds.result c.if-not-still_holds.false
    (c.still_holds.ensures.at _ _ (checking c.requires.at.1 c.lock.ensures.told c.if-lock-ne0.false))) c.unlock-in-Err.ensures.told

pub returns-in-Err-clause-back : goal.returns-in-Err-clause-back
returns-in-Err-clause-back g c kept a = gave_way_at a c.lock.ensures.told c.still_holds.ensures.goes
    (IfErr-at_err _ c.in-Err.is c.in_ok-front.ensures.busy) c.still_holds.ensures.locked
    (holds_at c.args.spot c.still_holds.result c.if-not-still_holds.false
    (c.still_holds.ensures.at _ _ (checking a c.lock.ensures.told c.if-lock-ne0.false))) c.unlock-in-Err.ensures.told

-- the leaf stays in hand
pub returns-then-lock-ne0-clause-still : goal.returns-then-lock-ne0-clause-still
returns-then-lock-ne0-clause-still g c _ = hand_locked c.args.leaf c.lock.ensures.told c.requires.slot

pub returns-then-not-still_holds-clause-still : goal.returns-then-not-still_holds-clause-still
returns-then-not-still_holds-clause-still g c _ = hand_unlocked c.args.leaf c.unlock.ensures.told
    (c.still_holds.ensures.slot c.args.leaf (hand_locked c.args.leaf c.lock.ensures.told c.requires.slot))

pub returns-clause-still : goal.returns-clause-still
returns-clause-still g c e = absurd (none-some _ (sym e))
