use Rattle.std.proofs.Common.{◌<◌, length, arith}
use Rattle.account_text.proofs.AccountTexts.{first_update}
use Rattle.account_text.proofs.reading.read_updates.Goals as goal

pub returns-in_default : goal.returns-in_default
returns-in_default c updates more counted tells =
    let below : length c.loop-rest.history.items < length updates = omega (arith, c.len.ensures, c.loop-rest-test.true, counted) in
    let first = first_update c.loop-rest.rest.now c.loop-rest.history.items updates more below
    (c.loop-rest.invariant updates more counted tells) in
    c.in_default.ensures first.n first.update first.others first.small first.fits first.begins

pub loop-rest-preserved : goal.loop-rest-preserved
loop-rest-preserved c updates more counted tells =
    let below : length c.loop-rest.history.items < length updates = omega (arith, c.len.ensures, c.loop-rest-test.true, counted) in
    let first = first_update c.loop-rest.rest.now c.loop-rest.history.items updates more below
    (c.loop-rest.invariant updates more counted tells) in
    let read = c.in-Some.ensures first.n first.update first.others first.small first.fits first.begins in
    first.next c.in-Some.after.now c.in-Some.update c.push.new.self.items read.0 read.1 c.in_ok-push.ensures.items
