use Rattle.std.proofs.Common.{◌≡◌}
use Rattle.class_hash.specs.Replies.{HasTried}
use Rattle.class_hash.proofs.Walking.{NoneOrLookup}
use Rattle.class_hash.proofs.dictionary.set.Given as goal

abbrev pub invariant-loop : goal.invariant-loop
invariant-loop g l = (l.seat.table ≡ l.fn.seat.table) × HasTried l.fn.seat.view l.key l.seat.view
    × NoneOrLookup l.key l.fn.seat.view.trail l.seat.view.trail
