use Rattle.std.proofs.Common.{◌≡◌, map as list_map, take}
use Rattle.workload.specs.Summaries.{counts_after}
use Rattle.workload.proofs.summing.Counts.count_list.Given as goal

abbrev pub invariant-loop-entry : goal.invariant-loop-entry
invariant-loop-entry l = l.self ≡ counts_after l.fn.self (list_map (λ told. told.reply) (take l.entry-index l.told))
