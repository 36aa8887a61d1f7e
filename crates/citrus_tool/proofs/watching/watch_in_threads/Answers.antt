use Rattle.std.proofs.Common.{arith}
use Rattle.core_state.specs.declared.shape.Waiter.TheVariants.{Eer, Domain, Deer}
use Rattle.citrus_tool.proofs.Leavings.{nothing_watched, watched_in}
use Rattle.citrus_tool.proofs.watching.watch_in_threads.Goals as goal

pub returns-then-count-eq0 : goal.returns-then-count-eq0
returns-then-count-eq0 g c =
    nothing_watched c.args.scripts.now c.args.slots c.args.keys.low c.args.keys.high c.in_ok-watch_of_none.field-0.items c.args.waiter
    (omega (arith, c.count.ensures.count, c.if-count-eq0.true)) c.in_ok-watch_of_none.ensures

pub returns-in_ok-text-in-Eer : goal.returns-in_ok-text-in-Eer
returns-in_ok-text-in-Eer g c =
    let made = c.in_ok-text-in-Eer.field-0 in
    watched_in c.args.scripts.now c.args.slots c.args.keys.low c.args.keys.high made.text.items c.args.waiter Eer made.table made.seat
    c.in-Eer.is
    (let count = c.count.ensures.count in let some = c.if-count-eq0.false in omega arith) c.in_ok-text-in-Eer.ensures

pub returns-in_ok-text-in-Domain : goal.returns-in_ok-text-in-Domain
returns-in_ok-text-in-Domain g c =
    let made = c.in_ok-text-in-Domain.field-0 in
    watched_in c.args.scripts.now c.args.slots c.args.keys.low c.args.keys.high made.text.items c.args.waiter Domain made.table made.seat
    c.in-Domain.is
    (let count = c.count.ensures.count in let some = c.if-count-eq0.false in omega arith) c.in_ok-text-in-Domain.ensures

pub returns-in_ok-text-in-Deer : goal.returns-in_ok-text-in-Deer
returns-in_ok-text-in-Deer g c =
    let made = c.in_ok-text-in-Deer.field-0 in
    watched_in c.args.scripts.now c.args.slots c.args.keys.low c.args.keys.high made.text.items c.args.waiter Deer made.table made.seat
    c.in-Deer.is
    (let count = c.count.ensures.count in let some = c.if-count-eq0.false in omega arith) c.in_ok-text-in-Deer.ensures
