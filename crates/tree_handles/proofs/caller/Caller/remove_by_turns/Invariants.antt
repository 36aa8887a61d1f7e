use Rattle.std.proofs.Common.{◌≤◌}
use Rattle.tree_handles.specs.Callers.{MayGoOn}
use Rattle.tree_handles.specs.Calls.{TurnsDown}
use Rattle.tree_handles.proofs.caller.Caller.remove_by_turns.Given as goal

-- the node was turned down so often
abbrev pub invariant-loop-times : goal.invariant-loop-times
invariant-loop-times g l = record {
  turns : TurnsDown l.fn.key l.times l.fn.self l.self;
  few : l.times ≤ 64;
  enough : 4 ≤ l.self.seat.view.allowance.tickets;
  may : MayGoOn l.self;
}
