use Rattle.std.proofs.Common.{arith, subst}
use Rattle.key_interval.specs.Keys.{IsLastClass}
use Rattle.key_interval.proofs.Classes.{last_across}
use Rattle.key_interval.proofs.keys.Keys.last_class.Goals as goal

pub returns-then-self-clause-last : goal.returns-then-self-clause-last
returns-then-self-clause-last c = subst (λ z. IsLastClass z 63) c.self.view_is
    (last_across (record { low = c.self.inside.low; high = c.self.inside.high }) (omega (arith, c.if-self.true)))
