use Rattle.std.proofs.Common.{◌*◌, ◌%◌, ◌/◌, ap}
use Rattle.account_text.specs.Judging.{bucket_of}
use Rattle.account_text.proofs.key_index.bucket_of.Goals as goal

pub returns-clause-is : goal.returns-clause-is
unfolding bucket_of
returns-clause-is c = ap (λ n. c.args.key * 11400714819323198485 % 18446744073709551616 / 4294967296 * n / 4294967296) c.from.ensures
