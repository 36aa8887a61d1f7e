use Rattle.std.proofs.Common.{sym, subst}
use Rattle.account_text.specs.Judging.{IsOrderedByBucket}
use Rattle.account_text.proofs.key_index.KeyIndex.new.Goals as goal

pub starts_of-requires-clause-ordered : goal.starts_of-requires-clause-ordered
starts_of-requires-clause-ordered c = subst (IsOrderedByBucket c.unwrap_or-buckets.result)
    (sym c.deref.ensures.value) c.in_order-changes.ensures.ordered
