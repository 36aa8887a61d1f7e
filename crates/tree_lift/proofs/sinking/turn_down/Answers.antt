use Rattle.std.proofs.Common.{◌≡◌, false, None, Some, refl, sym, subst, arith}
use Rattle.seat_table.specs.Seats.{IsQuietSeat, shape_of}
use Rattle.tree_lift.specs.Lifts.{MakesRoom, TriesTurn}
use Rattle.tree_lift.specs.Sinks.{FindsDown}
use Rattle.tree_lift.proofs.Attempts.{lift_keeps}
use Rattle.tree_lift.proofs.TurnedDown.{few_down, pays_down, quiet_down, recorded_down, room_found, sinks_lacking, sinks_low, sinks_moved, sinks_none, sinks_turned}
use Rattle.tree_lift.proofs.sinking.turn_down.Goals as goal

pub make_room-requires-clause-ticket : goal.make_room-requires-clause-ticket
make_room-requires-clause-ticket g c = let three = c.requires.tickets in omega arith

pub find_down-requires-clause-outside : goal.find_down-requires-clause-outside
find_down-requires-clause-outside g c =
    let k = shape_of g.W.WaitWords.WAY c.args.table.now in
    let s = c.args.seat.now in
    let t = c.make_room.new.seat in
    let room = room_found k s t (subst (λ b. MakesRoom k false s b t) c.if-not-branch.false c.in_ok-make_room.ensures.room) in
    (subst IsQuietSeat (sym room.0) c.requires.quiet).view.section

pub find_down-requires-clause-unlocked : goal.find_down-requires-clause-unlocked
find_down-requires-clause-unlocked g c =
    let k = shape_of g.W.WaitWords.WAY c.args.table.now in
    let s = c.args.seat.now in
    let t = c.make_room.new.seat in
    let room = room_found k s t (subst (λ b. MakesRoom k false s b t) c.if-not-branch.false c.in_ok-make_room.ensures.room) in
    (subst IsQuietSeat (sym room.0) c.requires.quiet).view.locks

pub try_turn-requires-clause-quiet : goal.try_turn-requires-clause-quiet
try_turn-requires-clause-quiet g c =
    let k = shape_of g.W.WaitWords.WAY c.args.table.now in
    let s = c.args.seat.now in
    let t = c.make_room.new.seat in
    let room = room_found k s t (subst (λ b. MakesRoom k false s b t) c.if-not-branch.false c.in_ok-make_room.ensures.room) in
    let u = c.find_down.new.seat in
    let listed = subst (λ z. u.listed ≡ z.listed) room.0 c.find_down.ensures.seat.1 in
    let turn = c.in-Some.turn in
    let found = subst (λ z. FindsDown k z.view c.args.key (Some turn) u.view) room.0
    (subst (λ o. FindsDown k t.view c.args.key o u.view) c.in-Some.is c.find_down.ensures.finds) in
    quiet_down k c.args.key s room.1 c.requires.quiet u listed turn found

pub try_turn-requires-clause-tickets : goal.try_turn-requires-clause-tickets
try_turn-requires-clause-tickets g c =
    let k = shape_of g.W.WaitWords.WAY c.args.table.now in
    let s = c.args.seat.now in
    let t = c.make_room.new.seat in
    let room = room_found k s t (subst (λ b. MakesRoom k false s b t) c.if-not-branch.false c.in_ok-make_room.ensures.room) in
    let u = c.find_down.new.seat in
    let listed = subst (λ z. u.listed ≡ z.listed) room.0 c.find_down.ensures.seat.1 in
    let turn = c.in-Some.turn in
    let found = subst (λ z. FindsDown k z.view c.args.key (Some turn) u.view) room.0
    (subst (λ o. FindsDown k t.view c.args.key o u.view) c.in-Some.is c.find_down.ensures.finds) in
    pays_down k c.args.key s room.1 c.requires.quiet u listed turn found c.requires.tickets

pub try_turn-requires-clause-room : goal.try_turn-requires-clause-room
try_turn-requires-clause-room g c =
    let k = shape_of g.W.WaitWords.WAY c.args.table.now in
    let s = c.args.seat.now in
    let t = c.make_room.new.seat in
    let room = room_found k s t (subst (λ b. MakesRoom k false s b t) c.if-not-branch.false c.in_ok-make_room.ensures.room) in
    let u = c.find_down.new.seat in
    let listed = subst (λ z. u.listed ≡ z.listed) room.0 c.find_down.ensures.seat.1 in
    let turn = c.in-Some.turn in
    let found = subst (λ z. FindsDown k z.view c.args.key (Some turn) u.view) room.0
    (subst (λ o. FindsDown k t.view c.args.key o u.view) c.in-Some.is c.find_down.ensures.finds) in
    few_down k c.args.key s room.1 c.requires.quiet u listed turn found

pub try_turn-requires-clause-recorded : goal.try_turn-requires-clause-recorded
try_turn-requires-clause-recorded g c =
    let k = shape_of g.W.WaitWords.WAY c.args.table.now in
    let s = c.args.seat.now in
    let t = c.make_room.new.seat in
    let room = room_found k s t (subst (λ b. MakesRoom k false s b t) c.if-not-branch.false c.in_ok-make_room.ensures.room) in
    let u = c.find_down.new.seat in
    let listed = subst (λ z. u.listed ≡ z.listed) room.0 c.find_down.ensures.seat.1 in
    let turn = c.in-Some.turn in
    let found = subst (λ z. FindsDown k z.view c.args.key (Some turn) u.view) room.0
    (subst (λ o. FindsDown k t.view c.args.key o u.view) c.in-Some.is c.find_down.ensures.finds) in
    recorded_down k c.args.key s room.1 c.requires.quiet u listed turn found

pub returns-then-not-branch-clause-updates : goal.returns-then-not-branch-clause-updates
returns-then-not-branch-clause-updates g c =
    let k = shape_of g.W.WaitWords.WAY c.args.table.now in
    let s = c.args.seat.now in
    let t = c.make_room.new.seat in
    let end = sinks_lacking k c.args.key s t (subst (λ b. MakesRoom k false s b t) c.if-not-branch.true c.in_ok-make_room.ensures.room)
    c.requires.quiet in
    end.proceeds.updates

pub returns-then-not-branch-clause-sinks : goal.returns-then-not-branch-clause-sinks
returns-then-not-branch-clause-sinks g c =
    let k = shape_of g.W.WaitWords.WAY c.args.table.now in
    let s = c.args.seat.now in
    let t = c.make_room.new.seat in
    let end = sinks_lacking k c.args.key s t (subst (λ b. MakesRoom k false s b t) c.if-not-branch.true c.in_ok-make_room.ensures.room)
    c.requires.quiet in
    end.sinks

pub returns-then-not-branch-clause-unwaited : goal.returns-then-not-branch-clause-unwaited
returns-then-not-branch-clause-unwaited g c =
    let k = shape_of g.W.WaitWords.WAY c.args.table.now in
    let s = c.args.seat.now in
    let t = c.make_room.new.seat in
    let end = sinks_lacking k c.args.key s t (subst (λ b. MakesRoom k false s b t) c.if-not-branch.true c.in_ok-make_room.ensures.room)
    c.requires.quiet in
    end.proceeds.unwaited refl

pub returns-then-not-branch-clause-keeps : goal.returns-then-not-branch-clause-keeps
returns-then-not-branch-clause-keeps g c =
    let k = shape_of g.W.WaitWords.WAY c.args.table.now in
    let s = c.args.seat.now in
    let t = c.make_room.new.seat in
    let end = sinks_lacking k c.args.key s t (subst (λ b. MakesRoom k false s b t) c.if-not-branch.true c.in_ok-make_room.ensures.room)
    c.requires.quiet in
    lift_keeps end.proceeds end.tickets end.quiet

pub returns-then-not-branch-clause-informed : goal.returns-then-not-branch-clause-informed
returns-then-not-branch-clause-informed g c =
    let k = shape_of g.W.WaitWords.WAY c.args.table.now in
    let s = c.args.seat.now in
    let t = c.make_room.new.seat in
    let end = sinks_lacking k c.args.key s t (subst (λ b. MakesRoom k false s b t) c.if-not-branch.true c.in_ok-make_room.ensures.room)
    c.requires.quiet in
    end.proceeds.informed

pub returns-in_default-clause-updates : goal.returns-in_default-clause-updates
returns-in_default-clause-updates g c =
    let k = shape_of g.W.WaitWords.WAY c.args.table.now in
    let s = c.args.seat.now in
    let t = c.make_room.new.seat in
    let room = room_found k s t (subst (λ b. MakesRoom k false s b t) c.if-not-branch.false c.in_ok-make_room.ensures.room) in
    let u = c.find_down.new.seat in
    let listed = subst (λ z. u.listed ≡ z.listed) room.0 c.find_down.ensures.seat.1 in
    let end = sinks_low k c.args.key s room.1 c.requires.quiet u listed (subst (λ z. FindsDown k z.view c.args.key None u.view) room.0
    (subst (λ o. FindsDown k t.view c.args.key o u.view) c.in_default.is c.find_down.ensures.finds)) in
    end.proceeds.updates

pub returns-in_default-clause-sinks : goal.returns-in_default-clause-sinks
returns-in_default-clause-sinks g c =
    let k = shape_of g.W.WaitWords.WAY c.args.table.now in
    let s = c.args.seat.now in
    let t = c.make_room.new.seat in
    let room = room_found k s t (subst (λ b. MakesRoom k false s b t) c.if-not-branch.false c.in_ok-make_room.ensures.room) in
    let u = c.find_down.new.seat in
    let listed = subst (λ z. u.listed ≡ z.listed) room.0 c.find_down.ensures.seat.1 in
    let end = sinks_low k c.args.key s room.1 c.requires.quiet u listed (subst (λ z. FindsDown k z.view c.args.key None u.view) room.0
    (subst (λ o. FindsDown k t.view c.args.key o u.view) c.in_default.is c.find_down.ensures.finds)) in
    end.sinks

pub returns-in_default-clause-unwaited : goal.returns-in_default-clause-unwaited
returns-in_default-clause-unwaited g c =
    let k = shape_of g.W.WaitWords.WAY c.args.table.now in
    let s = c.args.seat.now in
    let t = c.make_room.new.seat in
    let room = room_found k s t (subst (λ b. MakesRoom k false s b t) c.if-not-branch.false c.in_ok-make_room.ensures.room) in
    let u = c.find_down.new.seat in
    let listed = subst (λ z. u.listed ≡ z.listed) room.0 c.find_down.ensures.seat.1 in
    let end = sinks_low k c.args.key s room.1 c.requires.quiet u listed (subst (λ z. FindsDown k z.view c.args.key None u.view) room.0
    (subst (λ o. FindsDown k t.view c.args.key o u.view) c.in_default.is c.find_down.ensures.finds)) in
    end.proceeds.unwaited refl

pub returns-in_default-clause-keeps : goal.returns-in_default-clause-keeps
returns-in_default-clause-keeps g c =
    let k = shape_of g.W.WaitWords.WAY c.args.table.now in
    let s = c.args.seat.now in
    let t = c.make_room.new.seat in
    let room = room_found k s t (subst (λ b. MakesRoom k false s b t) c.if-not-branch.false c.in_ok-make_room.ensures.room) in
    let u = c.find_down.new.seat in
    let listed = subst (λ z. u.listed ≡ z.listed) room.0 c.find_down.ensures.seat.1 in
    let end = sinks_low k c.args.key s room.1 c.requires.quiet u listed (subst (λ z. FindsDown k z.view c.args.key None u.view) room.0
    (subst (λ o. FindsDown k t.view c.args.key o u.view) c.in_default.is c.find_down.ensures.finds)) in
    lift_keeps end.proceeds end.tickets end.quiet

pub returns-in_default-clause-informed : goal.returns-in_default-clause-informed
returns-in_default-clause-informed g c =
    let k = shape_of g.W.WaitWords.WAY c.args.table.now in
    let s = c.args.seat.now in
    let t = c.make_room.new.seat in
    let room = room_found k s t (subst (λ b. MakesRoom k false s b t) c.if-not-branch.false c.in_ok-make_room.ensures.room) in
    let u = c.find_down.new.seat in
    let listed = subst (λ z. u.listed ≡ z.listed) room.0 c.find_down.ensures.seat.1 in
    let end = sinks_low k c.args.key s room.1 c.requires.quiet u listed (subst (λ z. FindsDown k z.view c.args.key None u.view) room.0
    (subst (λ o. FindsDown k t.view c.args.key o u.view) c.in_default.is c.find_down.ensures.finds)) in
    end.proceeds.informed

pub returns-in-Turned-clause-updates : goal.returns-in-Turned-clause-updates
returns-in-Turned-clause-updates g c =
    let k = shape_of g.W.WaitWords.WAY c.args.table.now in
    let s = c.args.seat.now in
    let t = c.make_room.new.seat in
    let room = room_found k s t (subst (λ b. MakesRoom k false s b t) c.if-not-branch.false c.in_ok-make_room.ensures.room) in
    let u = c.find_down.new.seat in
    let listed = subst (λ z. u.listed ≡ z.listed) room.0 c.find_down.ensures.seat.1 in
    let turn = c.in-Some.turn in
    let found = subst (λ z. FindsDown k z.view c.args.key (Some turn) u.view) room.0
    (subst (λ o. FindsDown k t.view c.args.key o u.view) c.in-Some.is c.find_down.ensures.finds) in
    let end = sinks_turned k c.args.key s room.1 c.requires.quiet u listed turn found c.try_turn.new.seat
    (subst (λ o. TriesTurn k u turn o c.try_turn.new.seat) c.in-Turned.is c.in_ok-try_turn.ensures.tries) in
    end.proceeds.updates

pub returns-in-Turned-clause-sinks : goal.returns-in-Turned-clause-sinks
returns-in-Turned-clause-sinks g c =
    let k = shape_of g.W.WaitWords.WAY c.args.table.now in
    let s = c.args.seat.now in
    let t = c.make_room.new.seat in
    let room = room_found k s t (subst (λ b. MakesRoom k false s b t) c.if-not-branch.false c.in_ok-make_room.ensures.room) in
    let u = c.find_down.new.seat in
    let listed = subst (λ z. u.listed ≡ z.listed) room.0 c.find_down.ensures.seat.1 in
    let turn = c.in-Some.turn in
    let found = subst (λ z. FindsDown k z.view c.args.key (Some turn) u.view) room.0
    (subst (λ o. FindsDown k t.view c.args.key o u.view) c.in-Some.is c.find_down.ensures.finds) in
    let end = sinks_turned k c.args.key s room.1 c.requires.quiet u listed turn found c.try_turn.new.seat
    (subst (λ o. TriesTurn k u turn o c.try_turn.new.seat) c.in-Turned.is c.in_ok-try_turn.ensures.tries) in
    end.sinks

pub returns-in-Turned-clause-unwaited : goal.returns-in-Turned-clause-unwaited
returns-in-Turned-clause-unwaited g c =
    let k = shape_of g.W.WaitWords.WAY c.args.table.now in
    let s = c.args.seat.now in
    let t = c.make_room.new.seat in
    let room = room_found k s t (subst (λ b. MakesRoom k false s b t) c.if-not-branch.false c.in_ok-make_room.ensures.room) in
    let u = c.find_down.new.seat in
    let listed = subst (λ z. u.listed ≡ z.listed) room.0 c.find_down.ensures.seat.1 in
    let turn = c.in-Some.turn in
    let found = subst (λ z. FindsDown k z.view c.args.key (Some turn) u.view) room.0
    (subst (λ o. FindsDown k t.view c.args.key o u.view) c.in-Some.is c.find_down.ensures.finds) in
    let end = sinks_turned k c.args.key s room.1 c.requires.quiet u listed turn found c.try_turn.new.seat
    (subst (λ o. TriesTurn k u turn o c.try_turn.new.seat) c.in-Turned.is c.in_ok-try_turn.ensures.tries) in
    end.proceeds.unwaited refl

pub returns-in-Turned-clause-keeps : goal.returns-in-Turned-clause-keeps
returns-in-Turned-clause-keeps g c =
    let k = shape_of g.W.WaitWords.WAY c.args.table.now in
    let s = c.args.seat.now in
    let t = c.make_room.new.seat in
    let room = room_found k s t (subst (λ b. MakesRoom k false s b t) c.if-not-branch.false c.in_ok-make_room.ensures.room) in
    let u = c.find_down.new.seat in
    let listed = subst (λ z. u.listed ≡ z.listed) room.0 c.find_down.ensures.seat.1 in
    let turn = c.in-Some.turn in
    let found = subst (λ z. FindsDown k z.view c.args.key (Some turn) u.view) room.0
    (subst (λ o. FindsDown k t.view c.args.key o u.view) c.in-Some.is c.find_down.ensures.finds) in
    let end = sinks_turned k c.args.key s room.1 c.requires.quiet u listed turn found c.try_turn.new.seat
    (subst (λ o. TriesTurn k u turn o c.try_turn.new.seat) c.in-Turned.is c.in_ok-try_turn.ensures.tries) in
    lift_keeps end.proceeds end.tickets end.quiet

pub returns-in-Turned-clause-informed : goal.returns-in-Turned-clause-informed
returns-in-Turned-clause-informed g c =
    let k = shape_of g.W.WaitWords.WAY c.args.table.now in
    let s = c.args.seat.now in
    let t = c.make_room.new.seat in
    let room = room_found k s t (subst (λ b. MakesRoom k false s b t) c.if-not-branch.false c.in_ok-make_room.ensures.room) in
    let u = c.find_down.new.seat in
    let listed = subst (λ z. u.listed ≡ z.listed) room.0 c.find_down.ensures.seat.1 in
    let turn = c.in-Some.turn in
    let found = subst (λ z. FindsDown k z.view c.args.key (Some turn) u.view) room.0
    (subst (λ o. FindsDown k t.view c.args.key o u.view) c.in-Some.is c.find_down.ensures.finds) in
    let end = sinks_turned k c.args.key s room.1 c.requires.quiet u listed turn found c.try_turn.new.seat
    (subst (λ o. TriesTurn k u turn o c.try_turn.new.seat) c.in-Turned.is c.in_ok-try_turn.ensures.tries) in
    end.proceeds.informed

pub returns-in-Refused-clause-updates : goal.returns-in-Refused-clause-updates
returns-in-Refused-clause-updates g c =
    let k = shape_of g.W.WaitWords.WAY c.args.table.now in
    let s = c.args.seat.now in
    let t = c.make_room.new.seat in
    let room = room_found k s t (subst (λ b. MakesRoom k false s b t) c.if-not-branch.false c.in_ok-make_room.ensures.room) in
    let u = c.find_down.new.seat in
    let listed = subst (λ z. u.listed ≡ z.listed) room.0 c.find_down.ensures.seat.1 in
    let turn = c.in-Some.turn in
    let found = subst (λ z. FindsDown k z.view c.args.key (Some turn) u.view) room.0
    (subst (λ o. FindsDown k t.view c.args.key o u.view) c.in-Some.is c.find_down.ensures.finds) in
    let end = sinks_moved k c.args.key s room.1 c.requires.quiet u listed turn found c.try_turn.new.seat
    (subst (λ o. TriesTurn k u turn o c.try_turn.new.seat) c.in-Refused.is c.in_ok-try_turn.ensures.tries) in
    end.proceeds.updates

pub returns-in-Refused-clause-sinks : goal.returns-in-Refused-clause-sinks
returns-in-Refused-clause-sinks g c =
    let k = shape_of g.W.WaitWords.WAY c.args.table.now in
    let s = c.args.seat.now in
    let t = c.make_room.new.seat in
    let room = room_found k s t (subst (λ b. MakesRoom k false s b t) c.if-not-branch.false c.in_ok-make_room.ensures.room) in
    let u = c.find_down.new.seat in
    let listed = subst (λ z. u.listed ≡ z.listed) room.0 c.find_down.ensures.seat.1 in
    let turn = c.in-Some.turn in
    let found = subst (λ z. FindsDown k z.view c.args.key (Some turn) u.view) room.0
    (subst (λ o. FindsDown k t.view c.args.key o u.view) c.in-Some.is c.find_down.ensures.finds) in
    let end = sinks_moved k c.args.key s room.1 c.requires.quiet u listed turn found c.try_turn.new.seat
    (subst (λ o. TriesTurn k u turn o c.try_turn.new.seat) c.in-Refused.is c.in_ok-try_turn.ensures.tries) in
    end.sinks

pub returns-in-Refused-clause-unwaited : goal.returns-in-Refused-clause-unwaited
returns-in-Refused-clause-unwaited g c =
    let k = shape_of g.W.WaitWords.WAY c.args.table.now in
    let s = c.args.seat.now in
    let t = c.make_room.new.seat in
    let room = room_found k s t (subst (λ b. MakesRoom k false s b t) c.if-not-branch.false c.in_ok-make_room.ensures.room) in
    let u = c.find_down.new.seat in
    let listed = subst (λ z. u.listed ≡ z.listed) room.0 c.find_down.ensures.seat.1 in
    let turn = c.in-Some.turn in
    let found = subst (λ z. FindsDown k z.view c.args.key (Some turn) u.view) room.0
    (subst (λ o. FindsDown k t.view c.args.key o u.view) c.in-Some.is c.find_down.ensures.finds) in
    let end = sinks_moved k c.args.key s room.1 c.requires.quiet u listed turn found c.try_turn.new.seat
    (subst (λ o. TriesTurn k u turn o c.try_turn.new.seat) c.in-Refused.is c.in_ok-try_turn.ensures.tries) in
    end.proceeds.unwaited refl

pub returns-in-Refused-clause-keeps : goal.returns-in-Refused-clause-keeps
returns-in-Refused-clause-keeps g c =
    let k = shape_of g.W.WaitWords.WAY c.args.table.now in
    let s = c.args.seat.now in
    let t = c.make_room.new.seat in
    let room = room_found k s t (subst (λ b. MakesRoom k false s b t) c.if-not-branch.false c.in_ok-make_room.ensures.room) in
    let u = c.find_down.new.seat in
    let listed = subst (λ z. u.listed ≡ z.listed) room.0 c.find_down.ensures.seat.1 in
    let turn = c.in-Some.turn in
    let found = subst (λ z. FindsDown k z.view c.args.key (Some turn) u.view) room.0
    (subst (λ o. FindsDown k t.view c.args.key o u.view) c.in-Some.is c.find_down.ensures.finds) in
    let end = sinks_moved k c.args.key s room.1 c.requires.quiet u listed turn found c.try_turn.new.seat
    (subst (λ o. TriesTurn k u turn o c.try_turn.new.seat) c.in-Refused.is c.in_ok-try_turn.ensures.tries) in
    lift_keeps end.proceeds end.tickets end.quiet

pub returns-in-Refused-clause-informed : goal.returns-in-Refused-clause-informed
returns-in-Refused-clause-informed g c =
    let k = shape_of g.W.WaitWords.WAY c.args.table.now in
    let s = c.args.seat.now in
    let t = c.make_room.new.seat in
    let room = room_found k s t (subst (λ b. MakesRoom k false s b t) c.if-not-branch.false c.in_ok-make_room.ensures.room) in
    let u = c.find_down.new.seat in
    let listed = subst (λ z. u.listed ≡ z.listed) room.0 c.find_down.ensures.seat.1 in
    let turn = c.in-Some.turn in
    let found = subst (λ z. FindsDown k z.view c.args.key (Some turn) u.view) room.0
    (subst (λ o. FindsDown k t.view c.args.key o u.view) c.in-Some.is c.find_down.ensures.finds) in
    let end = sinks_moved k c.args.key s room.1 c.requires.quiet u listed turn found c.try_turn.new.seat
    (subst (λ o. TriesTurn k u turn o c.try_turn.new.seat) c.in-Refused.is c.in_ok-try_turn.ensures.tries) in
    end.proceeds.informed

pub returns-in-NoSlot-clause-updates : goal.returns-in-NoSlot-clause-updates
returns-in-NoSlot-clause-updates g c =
    let k = shape_of g.W.WaitWords.WAY c.args.table.now in
    let s = c.args.seat.now in
    let t = c.make_room.new.seat in
    let room = room_found k s t (subst (λ b. MakesRoom k false s b t) c.if-not-branch.false c.in_ok-make_room.ensures.room) in
    let u = c.find_down.new.seat in
    let listed = subst (λ z. u.listed ≡ z.listed) room.0 c.find_down.ensures.seat.1 in
    let turn = c.in-Some.turn in
    let found = subst (λ z. FindsDown k z.view c.args.key (Some turn) u.view) room.0
    (subst (λ o. FindsDown k t.view c.args.key o u.view) c.in-Some.is c.find_down.ensures.finds) in
    let end = sinks_none k c.args.key s room.1 c.requires.quiet u listed turn found c.try_turn.new.seat
    (subst (λ o. TriesTurn k u turn o c.try_turn.new.seat) c.in-NoSlot.is c.in_ok-try_turn.ensures.tries) in
    end.proceeds.updates

pub returns-in-NoSlot-clause-sinks : goal.returns-in-NoSlot-clause-sinks
returns-in-NoSlot-clause-sinks g c =
    let k = shape_of g.W.WaitWords.WAY c.args.table.now in
    let s = c.args.seat.now in
    let t = c.make_room.new.seat in
    let room = room_found k s t (subst (λ b. MakesRoom k false s b t) c.if-not-branch.false c.in_ok-make_room.ensures.room) in
    let u = c.find_down.new.seat in
    let listed = subst (λ z. u.listed ≡ z.listed) room.0 c.find_down.ensures.seat.1 in
    let turn = c.in-Some.turn in
    let found = subst (λ z. FindsDown k z.view c.args.key (Some turn) u.view) room.0
    (subst (λ o. FindsDown k t.view c.args.key o u.view) c.in-Some.is c.find_down.ensures.finds) in
    let end = sinks_none k c.args.key s room.1 c.requires.quiet u listed turn found c.try_turn.new.seat
    (subst (λ o. TriesTurn k u turn o c.try_turn.new.seat) c.in-NoSlot.is c.in_ok-try_turn.ensures.tries) in
    end.sinks

pub returns-in-NoSlot-clause-unwaited : goal.returns-in-NoSlot-clause-unwaited
returns-in-NoSlot-clause-unwaited g c =
    let k = shape_of g.W.WaitWords.WAY c.args.table.now in
    let s = c.args.seat.now in
    let t = c.make_room.new.seat in
    let room = room_found k s t (subst (λ b. MakesRoom k false s b t) c.if-not-branch.false c.in_ok-make_room.ensures.room) in
    let u = c.find_down.new.seat in
    let listed = subst (λ z. u.listed ≡ z.listed) room.0 c.find_down.ensures.seat.1 in
    let turn = c.in-Some.turn in
    let found = subst (λ z. FindsDown k z.view c.args.key (Some turn) u.view) room.0
    (subst (λ o. FindsDown k t.view c.args.key o u.view) c.in-Some.is c.find_down.ensures.finds) in
    let end = sinks_none k c.args.key s room.1 c.requires.quiet u listed turn found c.try_turn.new.seat
    (subst (λ o. TriesTurn k u turn o c.try_turn.new.seat) c.in-NoSlot.is c.in_ok-try_turn.ensures.tries) in
    end.proceeds.unwaited refl

pub returns-in-NoSlot-clause-keeps : goal.returns-in-NoSlot-clause-keeps
returns-in-NoSlot-clause-keeps g c =
    let k = shape_of g.W.WaitWords.WAY c.args.table.now in
    let s = c.args.seat.now in
    let t = c.make_room.new.seat in
    let room = room_found k s t (subst (λ b. MakesRoom k false s b t) c.if-not-branch.false c.in_ok-make_room.ensures.room) in
    let u = c.find_down.new.seat in
    let listed = subst (λ z. u.listed ≡ z.listed) room.0 c.find_down.ensures.seat.1 in
    let turn = c.in-Some.turn in
    let found = subst (λ z. FindsDown k z.view c.args.key (Some turn) u.view) room.0
    (subst (λ o. FindsDown k t.view c.args.key o u.view) c.in-Some.is c.find_down.ensures.finds) in
    let end = sinks_none k c.args.key s room.1 c.requires.quiet u listed turn found c.try_turn.new.seat
    (subst (λ o. TriesTurn k u turn o c.try_turn.new.seat) c.in-NoSlot.is c.in_ok-try_turn.ensures.tries) in
    lift_keeps end.proceeds end.tickets end.quiet

pub returns-in-NoSlot-clause-informed : goal.returns-in-NoSlot-clause-informed
returns-in-NoSlot-clause-informed g c =
    let k = shape_of g.W.WaitWords.WAY c.args.table.now in
    let s = c.args.seat.now in
    let t = c.make_room.new.seat in
    let room = room_found k s t (subst (λ b. MakesRoom k false s b t) c.if-not-branch.false c.in_ok-make_room.ensures.room) in
    let u = c.find_down.new.seat in
    let listed = subst (λ z. u.listed ≡ z.listed) room.0 c.find_down.ensures.seat.1 in
    let turn = c.in-Some.turn in
    let found = subst (λ z. FindsDown k z.view c.args.key (Some turn) u.view) room.0
    (subst (λ o. FindsDown k t.view c.args.key o u.view) c.in-Some.is c.find_down.ensures.finds) in
    let end = sinks_none k c.args.key s room.1 c.requires.quiet u listed turn found c.try_turn.new.seat
    (subst (λ o. TriesTurn k u turn o c.try_turn.new.seat) c.in-NoSlot.is c.in_ok-try_turn.ensures.tries) in
    end.proceeds.informed
