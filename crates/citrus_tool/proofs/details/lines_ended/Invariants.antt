use Rattle.std.proofs.Common.{◌≡◌, ◌≤◌, take}
use Rattle.citrus_tool.specs.Details.{ended_in}
use Rattle.citrus_tool.proofs.details.lines_ended.Given as goal

abbrev pub invariant-loop-byte : goal.invariant-loop-byte
invariant-loop-byte l = (l.count ≤ l.byte-index) × (l.count ≡ ended_in (take l.byte-index l.text))
