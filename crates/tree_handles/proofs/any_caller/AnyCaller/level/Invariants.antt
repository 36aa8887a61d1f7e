use Rattle.std.proofs.Common.{◌≤◌}
use Rattle.tree_handles.specs.Callers.{AreOfOneIndex, MayGoOn}
use Rattle.tree_handles.specs.Tidying.{LevelledTo}
use Rattle.tree_handles.proofs.any_caller.AnyCaller.level.Given as goal

-- the ways to the first keys were lifted, and each was found to need no turn
abbrev pub invariant-loop-i : goal.invariant-loop-i
invariant-loop-i l = record {
  levelled : LevelledTo l.page.pairs l.turns l.fn.self l.i l.tally l.self;
  index : AreOfOneIndex l.fn.self l.self;
  may : MayGoOn l.self;
  few : (l.tally.made ≤ l.tally.tried) × (l.tally.tried ≤ l.turns);
}
