use Rattle.std.proofs.Common.{◌≡◌, ◌++◌}
use Rattle.prcu_model.proofs.plain_map.PlainMap.pairs.Given as goal

-- the pairs so far and those that are left are the map's
abbrev pub invariant-loop-key : goal.invariant-loop-key
invariant-loop-key l = l.pairs.items ++ l.key-iterator ≡ l.initial.key-iterator
