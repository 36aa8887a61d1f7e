use Rattle.class_hash.specs.Seats.{HasSlots}
use Rattle.class_hash.proofs.table.add_slots.Given as goal

abbrev pub invariant-loop-i : goal.invariant-loop-i
invariant-loop-i l = HasSlots l.before l.room l.i l.fn.words.items l.words.items
