use Rattle.std.proofs.Common.{inr}
use Rattle.std.proofs.lemmas.Result.{IfErr-weaker, IfOk-weaker}
use Rattle.prcu_model.specs.declared.operation.Op.TheVariants.{Del}
use Rattle.tree_handles.proofs.Callers.{caused_ready, turned_none}
use Rattle.tree_handles.proofs.caller.Caller.remove_ready.Goals as goal

pub returns-then-lacks_room-clause-cause : goal.returns-then-lacks_room-clause-cause
returns-then-lacks_room-clause-cause g c =
    (c.args.self.now, turned_none c.args.key c.args.self.now, inr (c.lacks_room.ensures.holds c.if-lacks_room.true))

pub returns-clause-taken : goal.returns-clause-taken
returns-clause-taken g c = IfOk-weaker c.remove_at_once.result _ _ (λ value got. record {
  ready = c.args.self.now;
  turned = turned_none c.args.key c.args.self.now;
  removed = got;
  had_room = c.lacks_room.ensures.fails c.if-lacks_room.false;
  waits = λ reader. absurd (c.meets_lasting_reader.ensures.fails c.if-meets_lasting_reader.false reader);
}) c.remove_at_once.ensures.taken

pub returns-clause-cause : goal.returns-clause-cause
returns-clause-cause g c = IfErr-weaker c.remove_at_once.result _ _
    (λ status got. (
      c.args.self.now,
      turned_none c.args.key c.args.self.now,
      caused_ready (Del c.args.key) status c.args.self.now c.remove_at_once.new.self got,
    )) c.remove_at_once.ensures.cause
