use Rattle.std.proofs.Common.{rules, arith, ◌≡◌, ◌≤◌, refl, inl, inr, sym, subst}
use Rattle.std.proofs.lemmas.Result.{err_from_is_err_and, IfErr-weaker, IfOk-weaker}
use Rattle.prcu_model.specs.declared.operation.Op.TheVariants.{Del}
use Rattle.tree_handles.specs.declared.status.Status.{Status}
use Rattle.tree_handles.specs.Calls.{CausedReady, IsBusy, StopsTurning}
use Rattle.tree_handles.proofs.Callers.{caused_ready, kept_index, lost_on, turned_again, turned_some}
use Rattle.tree_handles.proofs.caller.Caller.remove_by_turns.Goals.{else-loop-times-test, then-loop-times-test+then-tickets-lt-TURN_TICKETS}
use Rattle.tree_handles.proofs.caller.Caller.remove_by_turns.Goals as goal

-- eleven tickets were left, and a remove and a turn take seven
pub loop-times-preserved : goal.loop-times-preserved
loop-times-preserved g c =
    let two : IsBusy (Del c.args.key) c.loop-times.self c.bypass.new.self = search rules in
    let sunk = c.in_ok-turn_down.ensures in
    let many : 11 ≤ c.tickets.result = (let test = c.if-tickets-lt-TURN_TICKETS.false in omega arith) in
    let are : c.tickets.result ≡ c.loop-times.self.seat.view.allowance.tickets = search rules in
    let first = two.keeps.tickets in
    let second = sunk.tickets in
    let enough : 4 ≤ c.turn_down.new.self.seat.view.allowance.tickets = omega (arith, many, are, first, second) in record {
      turns = turned_again c.args.key c.loop-times.times c.args.self.now c.loop-times.self c.turn_down.new.self c.loop-times.invariant.turns
          (record {
            between = c.bypass.new.self;
            two = two;
            found = search rules;
            index = sunk.index;
            updates = sunk.updates;
            waits = sunk.waits;
            enough = enough;
            may = sunk.may;
          });
      few = let more = c.loop-times-test.true in omega (arith, more);
      enough = enough;
      may = sunk.may;
    }

pub returns-then-lacks_room-clause-cause : goal.returns-then-lacks_room-clause-cause
returns-then-lacks_room-clause-cause g c = let before = c.loop-times.invariant in (
  c.loop-times.self,
  turned_some c.args.key c.loop-times.times c.args.self.now c.loop-times.self c.requires.reader before.few before.turns,
  inr (c.if-lacks_room.ensures.holds refl),
)

pub returns-in_err-removed-clause-cause : goal.returns-in_err-removed-clause-cause
returns-in_err-removed-clause-cause g c =
    let before = c.loop-times.invariant in
    let p = err_from_is_err_and c.from_residual.result c.from_residual.ensures.1 in
    rw (p.1, p.2) (
      c.loop-times.self,
      turned_some c.args.key c.loop-times.times c.args.self.now c.loop-times.self c.requires.reader before.few before.turns,
      caused_ready (Del c.args.key) c.in_err-removed.field-0.0 c.loop-times.self c.bypass.new.self c.in_err-removed.ensures.cause,
    )

pub returns-in-Some-clause-taken : goal.returns-in-Some-clause-taken
returns-in-Some-clause-taken g c = let before = c.loop-times.invariant in record {
  ready = c.loop-times.self;
  turned = turned_some c.args.key c.loop-times.times c.args.self.now c.loop-times.self c.requires.reader before.few before.turns;
  removed = search rules;
  had_room = c.requires.room;
  waits = λ _. inl c.in_ok-removed.ensures.waits;
}

pub returns-in_err-turn_down-clause-cause : goal.returns-in_err-turn_down-clause-cause
returns-in_err-turn_down-clause-cause g c =
    let before = c.loop-times.invariant in
    let two : IsBusy (Del c.args.key) c.loop-times.self c.bypass.new.self = search rules in
    let lost = c.in_err-turn_down.ensures.lost in
    let p = err_from_is_err_and c.from_residual-in_err-turn_down.result c.from_residual-in_err-turn_down.ensures.1 in
    rw (p.1, p.2) (
      c.loop-times.self,
      turned_some c.args.key c.loop-times.times c.args.self.now c.loop-times.self c.requires.reader before.few before.turns,
      subst (λ (s : Status). CausedReady (Del c.args.key) s c.loop-times.self c.turn_down.new.self) (sym lost.0)
          (lost_on c.loop-times.self c.bypass.new.self c.turn_down.new.self before.may
          (kept_index c.loop-times.self c.bypass.new.self two.index) two.may lost.1),
    )

-- so many turns were made, or tickets are short
pub returns-clause-taken : goal.returns-clause-taken
returns-clause-taken g c =
    let before = c.loop-times.invariant in
    let stops : StopsTurning c.loop-times.times c.loop-times.self =
    elim c.loop-times-test.branch [
      | else-loop-times-test w ↦ inl (let end = w.loop-times-test.false in let few = before.few in omega (arith, end, few))
      | then-loop-times-test+then-tickets-lt-TURN_TICKETS w ↦
          inr (let are : w.tickets.result ≡ c.loop-times.self.seat.view.allowance.tickets = search rules in
          let short = w.if-tickets-lt-TURN_TICKETS.true in omega (arith, are, short))
    ] in
    IfOk-weaker c.remove_at_once.result _ _ (λ value got. record {
      ready = c.loop-times.self;
      turned = turned_some c.args.key c.loop-times.times c.args.self.now c.loop-times.self c.requires.reader before.few before.turns;
      removed = got;
      had_room = c.requires.room;
      waits = λ _. inr stops;
    }) c.remove_at_once.ensures.taken

pub returns-clause-cause : goal.returns-clause-cause
returns-clause-cause g c = let before = c.loop-times.invariant in IfErr-weaker c.remove_at_once.result _ _ (λ status got. (
  c.loop-times.self,
  turned_some c.args.key c.loop-times.times c.args.self.now c.loop-times.self c.requires.reader before.few before.turns,
  caused_ready (Del c.args.key) status c.loop-times.self c.remove_at_once.new.self got,
)) c.remove_at_once.ensures.cause
