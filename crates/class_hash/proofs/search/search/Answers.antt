use Rattle.class_hash.proofs.Walking.{begun, in_section, looked_at}
use Rattle.class_hash.proofs.search.search.Goals as goal

pub leave-requires-clause-asks : goal.leave-requires-clause-asks
leave-requires-clause-asks g c =
    let v = c.args.seat.now.view in
    let i = begun v c.args.key c.args.table.now c.enter.new.seat.view c.enter.result c.enter.ensures.told in
    let walked = c.walk_unlocked-answer.ensures in
    in_section v c.args.key c.walk_unlocked-answer.new.seat.view c.walk_unlocked-answer.result (walked.ended v i)
    (λ value is. walked.found v value i is)

pub returns-clause-view : goal.returns-clause-view
returns-clause-view g c =
    let v = c.args.seat.now.view in
    let i = begun v c.args.key c.args.table.now c.enter.new.seat.view c.enter.result c.enter.ensures.told in
    let walked = c.walk_unlocked-answer.ensures in
    looked_at v c.args.key c.walk_unlocked-answer.new.seat.view c.walk_unlocked-answer.result (walked.ended v i)
    (λ value is. walked.found v value i is) c.args.table.now c.leave.result c.leave.new.seat.view c.leave.ensures.told
