use Rattle.std.proofs.Common.{length, inl, inr, refl, ap, None, arith}
use Rattle.node_slots.proofs.Returns.{listed_length}
use Rattle.seat_table.specs.Seats.{shape_of}
use Rattle.tree_run.proofs.Calls.{room_allows}
use Rattle.tree_run.proofs.settling.make_room.Goals as goal

pub returns-then-retired-room-clause-room : goal.returns-then-retired-room-clause-room
returns-then-retired-room-clause-room g c =
    let few = c.if-retired-room.true in
    let same = ap length c.retired.ensures in
    let room = c.room.ensures.room in
    let long = listed_length c.args.seat.now c.requires.quiet.listed in
    inl (λ lacks. (let many = lacks.1 in absurd (omega arith)), refl, refl)

pub returns-clause-room : goal.returns-clause-room
returns-clause-room g c =
    let many = c.if-retired-room.false in
    let same = ap length c.retired.ensures in
    let room = c.room.ensures.room in
    let long = listed_length c.args.seat.now c.requires.quiet.listed in
    inr (((c.in-Del.key, c.in-Del.is), omega arith), refl, c.ask_until_none.ensures.asks)

pub returns-clause-allowance : goal.returns-clause-allowance
returns-clause-allowance g c =
    let k = shape_of g.W.WaitWords.WAY c.args.table.now in
    room_allows k c.args.op c.args.cookie c.args.seat.now None c.ask_until_none.new.seat c.requires.good (returns-clause-room g c)
