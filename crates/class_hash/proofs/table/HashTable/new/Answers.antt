use Rattle.std.proofs.Common.{rules}
use Rattle.class_hash.proofs.Seats.{rule_starts}
use Rattle.class_hash.proofs.table.HashTable.new.Goals as goal

pub of_words-requires : goal.of_words-requires
of_words-requires c = rule_starts _ c.args.capacities.now _ (search rules) (search rules) (search rules) (search rules) (search rules)
    (search rules)
