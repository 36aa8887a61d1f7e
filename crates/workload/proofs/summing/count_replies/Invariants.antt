use Rattle.std.proofs.Common.{◌≡◌, take}
use Rattle.prcu_model.specs.Scripts.{entries_of}
use Rattle.workload.specs.Summaries.{counts_of}
use Rattle.workload.proofs.summing.count_replies.Given as goal

abbrev pub invariant-loop-list : goal.invariant-loop-list
invariant-loop-list l = l.counts ≡ counts_of (entries_of (take l.list-index l.told))
