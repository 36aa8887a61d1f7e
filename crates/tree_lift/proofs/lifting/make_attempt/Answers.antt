use Rattle.std.proofs.Common.{subst, arith}
use Rattle.seat_table.specs.Seats.{shape_of}
use Rattle.tree_lift.specs.Ways.{Finds}
use Rattle.tree_lift.specs.Lifts.{MakesRoom, TriesTurn}
use Rattle.tree_lift.proofs.Attempts.{few_found, has_room, level_attempt, lost_attempt, none_attempt, pays_found, quiet_found, recorded_found, room_lacking, turned_attempt}
use Rattle.tree_lift.proofs.lifting.make_attempt.Goals as goal

pub make_room-requires-clause-ticket : goal.make_room-requires-clause-ticket
make_room-requires-clause-ticket g c = let three = c.requires.tickets in omega arith

pub returns-then-not-branch-clause-attempted : goal.returns-then-not-branch-clause-attempted
returns-then-not-branch-clause-attempted g c =
    let k = shape_of g.W.WaitWords.WAY c.args.table.now in
    room_lacking k c.args.aim c.args.seat.now c.make_room.new.seat
    (subst (λ b. MakesRoom k c.args.aim.hard c.args.seat.now b c.make_room.new.seat) c.if-not-branch.true c.in_ok-make_room.ensures.room)
    c.requires.quiet

pub find_turn-requires-clause-outside : goal.find_turn-requires-clause-outside
find_turn-requires-clause-outside g c =
    let k = shape_of g.W.WaitWords.WAY c.args.table.now in
    let s = c.args.seat.now in
    let t = c.make_room.new.seat in
    let room = has_room k c.args.aim.key c.args.aim.hard s t
    (subst (λ b. MakesRoom k c.args.aim.hard s b t) c.if-not-branch.false c.in_ok-make_room.ensures.room)
    c.in_ok-make_room.ensures.informed c.requires.quiet in
    room.quiet.view.section

pub find_turn-requires-clause-unlocked : goal.find_turn-requires-clause-unlocked
find_turn-requires-clause-unlocked g c =
    let k = shape_of g.W.WaitWords.WAY c.args.table.now in
    let s = c.args.seat.now in
    let t = c.make_room.new.seat in
    let room = has_room k c.args.aim.key c.args.aim.hard s t
    (subst (λ b. MakesRoom k c.args.aim.hard s b t) c.if-not-branch.false c.in_ok-make_room.ensures.room)
    c.in_ok-make_room.ensures.informed c.requires.quiet in
    room.quiet.view.locks

pub returns-in_default-clause-attempted : goal.returns-in_default-clause-attempted
returns-in_default-clause-attempted g c =
    let k = shape_of g.W.WaitWords.WAY c.args.table.now in
    let s = c.args.seat.now in
    let t = c.make_room.new.seat in
    let room = has_room k c.args.aim.key c.args.aim.hard s t
    (subst (λ b. MakesRoom k c.args.aim.hard s b t) c.if-not-branch.false c.in_ok-make_room.ensures.room)
    c.in_ok-make_room.ensures.informed c.requires.quiet in
    level_attempt k c.args.aim s t room c.find_turn.new.seat c.find_turn.ensures.seat.1
    (subst (λ o. Finds k t.view c.args.aim.key c.args.aim.salt o c.find_turn.new.seat.view) c.in_default.is c.find_turn.ensures.finds)

pub try_turn-requires-clause-quiet : goal.try_turn-requires-clause-quiet
try_turn-requires-clause-quiet g c =
    let k = shape_of g.W.WaitWords.WAY c.args.table.now in
    let s = c.args.seat.now in
    let t = c.make_room.new.seat in
    let room = has_room k c.args.aim.key c.args.aim.hard s t
    (subst (λ b. MakesRoom k c.args.aim.hard s b t) c.if-not-branch.false c.in_ok-make_room.ensures.room)
    c.in_ok-make_room.ensures.informed c.requires.quiet in
    let u = c.find_turn.new.seat in
    let same = c.find_turn.ensures.seat.1 in
    let turn = c.in-Some.turn in
    let found = subst (λ o. Finds k t.view c.args.aim.key c.args.aim.salt o u.view) c.in-Some.is c.find_turn.ensures.finds in
    quiet_found k c.args.aim s t room u same turn found

pub try_turn-requires-clause-tickets : goal.try_turn-requires-clause-tickets
try_turn-requires-clause-tickets g c =
    let k = shape_of g.W.WaitWords.WAY c.args.table.now in
    let s = c.args.seat.now in
    let t = c.make_room.new.seat in
    let room = has_room k c.args.aim.key c.args.aim.hard s t
    (subst (λ b. MakesRoom k c.args.aim.hard s b t) c.if-not-branch.false c.in_ok-make_room.ensures.room)
    c.in_ok-make_room.ensures.informed c.requires.quiet in
    let u = c.find_turn.new.seat in
    let same = c.find_turn.ensures.seat.1 in
    let turn = c.in-Some.turn in
    let found = subst (λ o. Finds k t.view c.args.aim.key c.args.aim.salt o u.view) c.in-Some.is c.find_turn.ensures.finds in
    pays_found k c.args.aim s t room u same turn found c.requires.tickets

pub try_turn-requires-clause-room : goal.try_turn-requires-clause-room
try_turn-requires-clause-room g c =
    let k = shape_of g.W.WaitWords.WAY c.args.table.now in
    let s = c.args.seat.now in
    let t = c.make_room.new.seat in
    let room = has_room k c.args.aim.key c.args.aim.hard s t
    (subst (λ b. MakesRoom k c.args.aim.hard s b t) c.if-not-branch.false c.in_ok-make_room.ensures.room)
    c.in_ok-make_room.ensures.informed c.requires.quiet in
    let u = c.find_turn.new.seat in
    let same = c.find_turn.ensures.seat.1 in
    let turn = c.in-Some.turn in
    let found = subst (λ o. Finds k t.view c.args.aim.key c.args.aim.salt o u.view) c.in-Some.is c.find_turn.ensures.finds in
    few_found k c.args.aim s t room u same turn found

pub try_turn-requires-clause-recorded : goal.try_turn-requires-clause-recorded
try_turn-requires-clause-recorded g c =
    let k = shape_of g.W.WaitWords.WAY c.args.table.now in
    let s = c.args.seat.now in
    let t = c.make_room.new.seat in
    let room = has_room k c.args.aim.key c.args.aim.hard s t
    (subst (λ b. MakesRoom k c.args.aim.hard s b t) c.if-not-branch.false c.in_ok-make_room.ensures.room)
    c.in_ok-make_room.ensures.informed c.requires.quiet in
    let u = c.find_turn.new.seat in
    let same = c.find_turn.ensures.seat.1 in
    let turn = c.in-Some.turn in
    let found = subst (λ o. Finds k t.view c.args.aim.key c.args.aim.salt o u.view) c.in-Some.is c.find_turn.ensures.finds in
    recorded_found k c.args.aim s t room u same turn found

pub returns-in-Turned-clause-attempted : goal.returns-in-Turned-clause-attempted
returns-in-Turned-clause-attempted g c =
    let k = shape_of g.W.WaitWords.WAY c.args.table.now in
    let s = c.args.seat.now in
    let t = c.make_room.new.seat in
    let room = has_room k c.args.aim.key c.args.aim.hard s t
    (subst (λ b. MakesRoom k c.args.aim.hard s b t) c.if-not-branch.false c.in_ok-make_room.ensures.room)
    c.in_ok-make_room.ensures.informed c.requires.quiet in
    let u = c.find_turn.new.seat in
    let same = c.find_turn.ensures.seat.1 in
    let turn = c.in-Some.turn in
    let found = subst (λ o. Finds k t.view c.args.aim.key c.args.aim.salt o u.view) c.in-Some.is c.find_turn.ensures.finds in
    turned_attempt k c.args.aim s t room u same turn found c.try_turn.new.seat
    (subst (λ o. TriesTurn k u turn o c.try_turn.new.seat) c.in-Turned.is c.in_ok-try_turn.ensures.tries)

pub returns-in-Refused-clause-attempted : goal.returns-in-Refused-clause-attempted
returns-in-Refused-clause-attempted g c =
    let k = shape_of g.W.WaitWords.WAY c.args.table.now in
    let s = c.args.seat.now in
    let t = c.make_room.new.seat in
    let room = has_room k c.args.aim.key c.args.aim.hard s t
    (subst (λ b. MakesRoom k c.args.aim.hard s b t) c.if-not-branch.false c.in_ok-make_room.ensures.room)
    c.in_ok-make_room.ensures.informed c.requires.quiet in
    let u = c.find_turn.new.seat in
    let same = c.find_turn.ensures.seat.1 in
    let turn = c.in-Some.turn in
    let found = subst (λ o. Finds k t.view c.args.aim.key c.args.aim.salt o u.view) c.in-Some.is c.find_turn.ensures.finds in
    lost_attempt k c.args.aim s t room u same turn found c.try_turn.new.seat
    (subst (λ o. TriesTurn k u turn o c.try_turn.new.seat) c.in-Refused.is c.in_ok-try_turn.ensures.tries)

pub returns-in-NoSlot-clause-attempted : goal.returns-in-NoSlot-clause-attempted
returns-in-NoSlot-clause-attempted g c =
    let k = shape_of g.W.WaitWords.WAY c.args.table.now in
    let s = c.args.seat.now in
    let t = c.make_room.new.seat in
    let room = has_room k c.args.aim.key c.args.aim.hard s t
    (subst (λ b. MakesRoom k c.args.aim.hard s b t) c.if-not-branch.false c.in_ok-make_room.ensures.room)
    c.in_ok-make_room.ensures.informed c.requires.quiet in
    let u = c.find_turn.new.seat in
    let same = c.find_turn.ensures.seat.1 in
    let turn = c.in-Some.turn in
    let found = subst (λ o. Finds k t.view c.args.aim.key c.args.aim.salt o u.view) c.in-Some.is c.find_turn.ensures.finds in
    none_attempt k c.args.aim s t room u same turn found c.try_turn.new.seat
    (subst (λ o. TriesTurn k u turn o c.try_turn.new.seat) c.in-NoSlot.is c.in_ok-try_turn.ensures.tries)
