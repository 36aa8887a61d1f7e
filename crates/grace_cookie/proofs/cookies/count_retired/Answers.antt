use Rattle.std.proofs.Common.{◌+◌, length, ap, arith}
use Rattle.seat_table.specs.Seats.{TableAt}
use Rattle.grace_cookie.proofs.Keeping.{few_listed}
use Rattle.grace_cookie.proofs.cookies.count_retired.Goals as goal

pub overflow_cast-result : goal.overflow_cast-result
overflow_cast-result g c =
    let told = c.rule_tells.ensures.tells in
    let few = few_listed c.args.seat.now.listed c.args.seat.now.view.hands.retired _ c.requires.listed.each told.apart
    told.tells.retired_within in
    let at = ap (λ (t : TableAt). t.slots + t.places) c.requires.table in
    let long = ap length c.retired.ensures in
    omega (arith, c.slots-slots.ensures.slots, c.slots-slots.ensures.few.1, c.places-places.ensures.places, c.places-places.ensures.few.1)
