use Rattle.std.proofs.Common.{subst}
use Rattle.hash_core.specs.declared.act.Act.TheVariants.{Lock}
use Rattle.class_hash.specs.Calls.{Told}
use Rattle.class_hash.proofs.Updating.{locked_finished}
use Rattle.class_hash.proofs.bucket.try_bucket.Goals as goal

pub returns-in-0-clause-held : goal.returns-in-0-clause-held
returns-in-0-clause-held c = λ held.
    let v = c.args.seat.now.view in
    let w = c.lock.new.seat.view in
    locked_finished c.args.table.now v w c.args.class
    (subst (λ n. Told c.args.table.now v (Lock c.args.class) n w) c.in-0.is c.lock.ensures.told)
