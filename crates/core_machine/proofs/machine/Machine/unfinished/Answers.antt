use Rattle.std.proofs.Common.{◌≤◌, length, vec_capacity, sym, ap, subst}
use Rattle.core_machine.proofs.Owning.{few_kept}
use Rattle.core_machine.proofs.machine.Machine.unfinished.Goals as goal

pub list_unfinished-requires : goal.list_unfinished-requires
list_unfinished-requires c = subst (λ n. n ≤ 64) (ap length (sym c.deref.ensures.value))
    (few_kept c.self.inside.words.items c.self.inside.callers.items c.self.inside.updates.items
    (vec_capacity c.self.inside.updates) c.self.invariant)
