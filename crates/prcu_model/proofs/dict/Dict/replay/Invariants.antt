use Rattle.std.proofs.Common.{◌≡◌}
use Rattle.prcu_model.specs.Dictionary.{map_at}
use Rattle.prcu_model.proofs.dict.Dict.replay.Given as goal

-- the map is the dictionary at the front that the loop has come to
abbrev pub invariant-loop-update : goal.invariant-loop-update
invariant-loop-update l = l.map ≡ map_at l.updates l.update-index
