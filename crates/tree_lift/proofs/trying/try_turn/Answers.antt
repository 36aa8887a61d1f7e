use Rattle.std.proofs.Common.{refl, subst}
use Rattle.seat_table.specs.Seats.{shape_of}
use Rattle.tree_lift.specs.Lifts.{TakesSlots}
use Rattle.tree_lift.proofs.Attempts.{held_there, listed_there, ready_there, recorded_there, two_left}
use Rattle.tree_lift.proofs.trying.try_turn.Goals as goal

pub take_slots-requires-clause-tickets : goal.take_slots-requires-clause-tickets
take_slots-requires-clause-tickets g c = two_left c.args.seat.now.view c.requires.tickets

pub returns-then-not-branch-clause-tries : goal.returns-then-not-branch-clause-tries
returns-then-not-branch-clause-tries g c = (
  subst (λ b. TakesSlots (shape_of g.W.WaitWords.WAY c.args.table.now) c.args.seat.now b c.take_slots.new.seat) c.if-not-branch.true
      c.in_ok-take_slots.ensures.takes,
  c.take_slots.ensures.seat.1,
)

pub make_turn-requires-clause-recorded : goal.make_turn-requires-clause-recorded
make_turn-requires-clause-recorded g c =
    let k = shape_of g.W.WaitWords.WAY c.args.table.now in
    let x = c.take_slots.new.seat in
    let takes = subst (λ b. TakesSlots k c.args.seat.now b x) c.if-not-branch.false c.in_ok-take_slots.ensures.takes in
    recorded_there k c.args.seat.now c.args.turn c.requires.recorded x takes

pub make_turn-requires-clause-ready : goal.make_turn-requires-clause-ready
make_turn-requires-clause-ready g c =
    let k = shape_of g.W.WaitWords.WAY c.args.table.now in
    let x = c.take_slots.new.seat in
    let takes = subst (λ b. TakesSlots k c.args.seat.now b x) c.if-not-branch.false c.in_ok-take_slots.ensures.takes in
    ready_there k c.args.seat.now c.args.turn c.requires.recorded x takes c.requires.room c.requires.tickets

pub make_turn-requires-clause-listed : goal.make_turn-requires-clause-listed
make_turn-requires-clause-listed g c =
    let k = shape_of g.W.WaitWords.WAY c.args.table.now in
    let x = c.take_slots.new.seat in
    let takes = subst (λ b. TakesSlots k c.args.seat.now b x) c.if-not-branch.false c.in_ok-take_slots.ensures.takes in
    listed_there k c.args.seat.now c.args.turn c.requires.recorded x takes

pub returns-then-make_turn-clause-tries : goal.returns-then-make_turn-clause-tries
returns-then-make_turn-clause-tries g c =
    let k = shape_of g.W.WaitWords.WAY c.args.table.now in
    let takes = subst (λ b. TakesSlots k c.args.seat.now b c.take_slots.new.seat) c.if-not-branch.false c.in_ok-take_slots.ensures.takes in
    let e = c.make_turn.ensures in
    let yes = c.if-make_turn.true in record {
      taken = c.take_slots.new.seat;
      takes = takes;
      same = c.take_slots.ensures.seat.1;
      came = record {
        advanced = e.gone;
        turned = e.turned yes;
        retires = e.retires yes;
        informed = e.informed yes;
        quiet = e.quiet yes (takes.both refl).quiet;
      };
    }

pub put_back-requires-clause-paid : goal.put_back-requires-clause-paid
put_back-requires-clause-paid g c =
    let k = shape_of g.W.WaitWords.WAY c.args.table.now in
    let takes = subst (λ b. TakesSlots k c.args.seat.now b c.take_slots.new.seat) c.if-not-branch.false c.in_ok-take_slots.ensures.takes in
    (c.make_turn.ensures.still c.if-make_turn.false (takes.both refl).quiet).quiet.view.owes

pub put_back-requires-clause-hand : goal.put_back-requires-clause-hand
put_back-requires-clause-hand g c =
    let k = shape_of g.W.WaitWords.WAY c.args.table.now in
    let x = c.take_slots.new.seat in
    let takes = subst (λ b. TakesSlots k c.args.seat.now b x) c.if-not-branch.false c.in_ok-take_slots.ensures.takes in
    held_there k c.args.seat.now c.args.turn c.requires.recorded x takes c.make_turn.new.seat
    (c.make_turn.ensures.refused c.if-make_turn.false)

pub returns-clause-tries : goal.returns-clause-tries
returns-clause-tries g c =
    let k = shape_of g.W.WaitWords.WAY c.args.table.now in
    let x = c.take_slots.new.seat in
    let takes = subst (λ b. TakesSlots k c.args.seat.now b x) c.if-not-branch.false c.in_ok-take_slots.ensures.takes in
    let e = c.make_turn.ensures in
    let no = c.if-make_turn.false in
    let held = held_there k c.args.seat.now c.args.turn c.requires.recorded x takes c.make_turn.new.seat (e.refused no) in record {
      taken = x;
      takes = takes;
      same = c.take_slots.ensures.seat.1;
      came = record {
        refused = c.make_turn.new.seat;
        advanced = e.gone;
        none = e.refused no;
        still = e.still no (takes.both refl).quiet;
        same_list = e.same_list no;
        slot = held.0.slot;
        back = c.put_back.ensures.view held.0 held.1;
        kept = c.put_back.ensures.seat.1;
        informed = c.put_back.ensures.informed;
      };
    }
