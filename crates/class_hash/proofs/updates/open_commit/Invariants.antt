use Rattle.std.proofs.Common.{◌≡◌, ◌+◌, ◌≤◌, ◌%◌}
use Rattle.prcu_marks.specs.Marks.{most_front}
use Rattle.class_hash.specs.Updates.{HasStepped}
use Rattle.class_hash.proofs.updates.open_commit.Given as goal

abbrev pub invariant-loop : goal.invariant-loop
invariant-loop g l = (l.seat.table ≡ l.fn.seat.table) × HasStepped l.fn.seat.view l.seat.view × (l.even % 2 ≡ 0) × (l.even ≤ most_front + 1)
