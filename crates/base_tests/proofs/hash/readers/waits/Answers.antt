use Rattle.std.proofs.Common.{◌≡◌, ◌≢◌, refl, arith}
use Rattle.class_hash.proofs.Putting.{may_poll}
use Rattle.base_tests.proofs.hash.readers.waits.Goals as goal

pub looks-first-requires-clause-lists : goal.looks-first-requires-clause-lists
looks-first-requires-clause-lists g c =
    let v = c.try_bucket.new.seat.view in
    let none : c.lists-free.result.0 ≡ 0 = omega arith in
    let some : c.lists-free.result.1 ≢ 0 = omega arith in
    may_poll c.args.table.now.capacities v
    (c.in-Held.ensures.held refl) c.lists-free.result.0 c.lists-free.result.1 c.lists-free.new.seat.view c.lists-free.ensures.view none
    some
