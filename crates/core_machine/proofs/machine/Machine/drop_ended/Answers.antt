use Rattle.std.proofs.Common.{sym, ◌∙◌}
use Rattle.core_machine.specs.Stored.{own_of}
use Rattle.core_machine.proofs.Owning.{shown_own}
use Rattle.core_machine.proofs.machine.Machine.drop_ended.Goals as goal

pub returns-else-is_finished : goal.returns-else-is_finished
returns-else-is_finished c = record {
  left = c.requires.kept (own_of c.index.result.now)
      (shown_own c.self.inside.words.items c.self.inside.callers.items c.self.inside.updates.items c.args.self.now c.args.caller
      c.index.result.now c.self.view_is c.requires.caller c.index.ensures)
      (sym c.is_finished.ensures ∙ c.if-is_finished.false);
}
