use Rattle.std.proofs.Common.{◌≡◌, ◌++◌, take, flat_map}
use Rattle.account_text.specs.Account.{pair_text}
use Rattle.account_text.proofs.printing.push_pairs.Given as goal

abbrev pub invariant-loop-pair : goal.invariant-loop-pair
invariant-loop-pair l = l.out.items ≡ l.initial.out.items ++ flat_map pair_text (take l.pair-index l.pairs)
