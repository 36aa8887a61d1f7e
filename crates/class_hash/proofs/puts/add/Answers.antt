use Rattle.class_hash.proofs.Putting.{finished_listed, added}
use Rattle.class_hash.proofs.puts.add.Goals as goal

pub free_bucket-requires-clause-finished : goal.free_bucket-requires-clause-finished
free_bucket-requires-clause-finished g c = let may = c.requires.case in
    finished_listed c.args.table.now.capacities c.args.seat.now.view (may.hold, may.finished) 0 0 c.find_free-free.new.seat.view
    (c.find_free-free.ensures.full c.if-free-eq0.true)

pub returns-clause-added : goal.returns-clause-added
returns-clause-added g c =
    added c.args.table.now.capacities c.args.seat.now.view c.find_free-free.new.seat.view c.fill_pair.new.seat.view c.link.new.seat.view
    c.args.key c.args.value c.find_free-free.result c.slot_at-slot.result c.link.result
    (c.find_free-free.ensures.free c.if-free-eq0.false) c.fill_pair.ensures.view c.link.ensures.view c.link.ensures.trail
