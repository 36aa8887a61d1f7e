use Rattle.std.proofs.Common.{refl, inr}
use Rattle.std.proofs.lemmas.Result.{IfErr-weaker, IfOk-weaker}
use Rattle.prcu_model.specs.declared.operation.Op.TheVariants.{Put}
use Rattle.tree_handles.proofs.Callers.{caused_ready, caused_tended}
use Rattle.tree_handles.proofs.caller.Caller.put.Goals as goal

pub returns-then-owes_turns-clause-cause : goal.returns-then-owes_turns-clause-cause
returns-then-owes_turns-clause-cause g c = record {
  ready = c.see_to_keeper-reuse.new.self;
  gets = record { tended = c.see_to_keeper-reuse.new.self; sees = c.see_to_keeper-reuse.ensures.sees; turns = refl };
  busy = inr (c.owes_turns.ensures.holds c.if-owes_turns.true);
}

pub returns-clause-called : goal.returns-clause-called
returns-clause-called g c = IfOk-weaker c.put_tended.result _ _ (λ told called. record {
  ready = c.see_to_keeper-reuse.new.self;
  gets = record { tended = c.see_to_keeper-reuse.new.self; sees = c.see_to_keeper-reuse.ensures.sees; turns = refl };
  called = called;
}) c.put_tended.ensures.called

pub returns-clause-cause : goal.returns-clause-cause
returns-clause-cause g c = IfErr-weaker c.put_tended.result _ _ (λ status cause. caused_tended (Put c.args.key c.args.value) status c.args.self.now
    c.see_to_keeper-reuse.new.self c.put_tended.new.self c.in_default.ensures.none.0 c.in_default.ensures.none.1
    (record { tended = c.see_to_keeper-reuse.new.self; sees = c.see_to_keeper-reuse.ensures.sees; turns = refl })
    (caused_ready (Put c.args.key c.args.value) status c.see_to_keeper-reuse.new.self c.put_tended.new.self cause)) c.put_tended.ensures.cause
