use Rattle.key_interval.proofs.Classes.{MeetsClass-by_steps}
use Rattle.key_interval.proofs.keys.Keys.meets_class.Goals as goal

pub returns : goal.returns
returns c = rw (c.from.ensures, ← c.self.view_is)
    (MeetsClass-by_steps (record { low = c.self.inside.low; high = c.self.inside.high }) c.args.c c.requires c.self.invariant)
