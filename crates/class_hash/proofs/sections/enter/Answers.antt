use Rattle.class_hash.proofs.Walking.{entered_inside}
use Rattle.class_hash.proofs.sections.enter.Goals as goal

pub returns-clause-inside : goal.returns-clause-inside
returns-clause-inside c =
    entered_inside c.args.table.now c.args.seat.now.view c.enter.new.seat.view c.args.key c.enter.result c.enter.ensures.told
