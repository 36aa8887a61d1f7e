use Rattle.std.proofs.Common.{◌≡◌}
use Rattle.hash_core.specs.Memory.{base}
use Rattle.class_hash.specs.Seats.{HasClassSlots}
use Rattle.class_hash.proofs.table.add_all_slots.Given as goal

abbrev pub invariant-loop-room : goal.invariant-loop-room
invariant-loop-room l = HasClassSlots l.capacities l.room-index l.fn.words.items l.words.items × (l.before ≡ base l.capacities l.room-index)
