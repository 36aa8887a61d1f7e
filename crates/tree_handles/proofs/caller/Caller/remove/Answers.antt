use Rattle.std.proofs.lemmas.Result.{IfErr-weaker, IfOk-weaker}
use Rattle.prcu_model.specs.declared.operation.Op.TheVariants.{Del}
use Rattle.tree_handles.proofs.Callers.{caused_tended}
use Rattle.tree_handles.proofs.caller.Caller.remove.Goals as goal

pub returns-clause-taken : goal.returns-clause-taken
returns-clause-taken g c = IfOk-weaker c.remove_ready.result _ _ (λ value removed. record {
  tended = c.see_to_keeper.new.self;
  sees = c.see_to_keeper.ensures.sees;
  removed = removed;
}) c.remove_ready.ensures.taken

pub returns-clause-cause : goal.returns-clause-cause
returns-clause-cause g c = IfErr-weaker c.remove_ready.result _ _ (λ status caused. caused_tended (Del c.args.key) status c.args.self.now
    caused.0 c.remove_ready.new.self c.in_default.ensures.none.0 c.in_default.ensures.none.1
    (record { tended = c.see_to_keeper.new.self; sees = c.see_to_keeper.ensures.sees; turns = caused.1 }) caused.2) c.remove_ready.ensures.cause
