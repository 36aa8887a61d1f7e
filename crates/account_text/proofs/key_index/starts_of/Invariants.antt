use Rattle.account_text.proofs.Changes.{HaveStarts}
use Rattle.account_text.proofs.key_index.starts_of.Given as goal

abbrev pub invariant-loop-i : goal.invariant-loop-i
invariant-loop-i l = HaveStarts l.buckets l.changes l.i l.starts.items
