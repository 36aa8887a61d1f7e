use Rattle.std.proofs.Common.{rules}
use Rattle.class_hash.proofs.Seats.{all_fresh}
use Rattle.class_hash.proofs.table.first_words.Goals as goal

pub returns : goal.returns
returns c = all_fresh c.args.capacities.now c.add_classes.new.words.items _ (search rules) (search rules) (search rules)
