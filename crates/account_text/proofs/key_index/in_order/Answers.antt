use Rattle.std.proofs.Common.{◌≡◌, rules}
use Rattle.std.proofs.lemmas.Fn.{always_returns_same}
use Rattle.account_text.proofs.Replays.{place_of, IsOrderedByBucket-from_sorted}
use Rattle.account_text.proofs.key_index.in_order.Goals as goal

pub returns-clause-ordered : goal.returns-clause-ordered
returns-clause-ordered c =
    IsOrderedByBucket-from_sorted c.args.buckets _ (c.sort_unstable_by_key.ensures.sorted (place_of c.args.buckets)
    (always_returns_same _ (λ a r. r ≡ place_of c.args.buckets a.0.now) _ (λ a r q k. search rules)))
