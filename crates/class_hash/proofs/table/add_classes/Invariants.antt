use Rattle.std.proofs.Common.{◌≡◌}
use Rattle.hash_core.specs.Memory.{base}
use Rattle.class_hash.specs.Seats.{HasClasses}
use Rattle.class_hash.proofs.table.add_classes.Given as goal

abbrev pub invariant-loop-room : goal.invariant-loop-room
invariant-loop-room l = HasClasses l.capacities l.room-index l.words.items × (l.before ≡ base l.capacities l.room-index)
