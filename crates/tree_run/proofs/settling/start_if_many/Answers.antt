use Rattle.std.proofs.Common.{length, ap, sym, subst, ◌∙◌, arith}
use Rattle.key_interval.specs.Keys.{Interval}
use Rattle.seat_table.specs.Sections.{HasBegun}
use Rattle.node_slots.proofs.Returns.{listed_length}
use Rattle.tree_run.proofs.Calls.{none_started_few, one_started}
use Rattle.tree_run.proofs.settling.start_if_many.Goals as goal

pub returns-then-retired-room-clause-starts : goal.returns-then-retired-room-clause-starts
returns-then-retired-room-clause-starts g c =
    let few = c.if-retired-room.true in
    let same = ap length c.retired.ensures in
    let room = c.room.ensures.room in
    let long = listed_length c.args.seat.now c.requires.quiet.listed in
    none_started_few c.args.held c.args.seat.now (sym c.is_some.ensures ∙ c.if-is_some.false) (omega arith)

pub returns-clause-starts : goal.returns-clause-starts
returns-clause-starts g c =
    let many = c.if-retired-room.false in
    let same = ap length c.retired.ensures in
    let room = c.room.ensures.room in
    let long = listed_length c.args.seat.now c.requires.quiet.listed in
    one_started c.args.held c.args.seat.now c.start.result c.start.new.seat (sym c.is_some.ensures ∙ c.if-is_some.false) (record {
      many = omega arith;
      begun = subst (λ (keys : Interval). HasBegun c.args.seat.now.view keys.low keys.high c.start.new.seat.view) c.all.ensures
          c.start.ensures.begun;
      listed = c.start.ensures.seat.1;
      count = c.start.ensures.count;
      slots = c.start.ensures.slots;
    })
