use Rattle.std.proofs.Common.{length, ap, arith}
use Rattle.std.proofs.lemmas.List.{length-map}
use Rattle.prcu_model.proofs.ListFacts.{length-le-op_count}
use Rattle.prcu_model.proofs.scripts.Scripts.script.Goals as goal

pub returns-clause-limit : goal.returns-clause-limit
returns-clause-limit c =
    let lists = c.self.inside.scripts.items in
    let many = ap length c.self.view_is in
    let fits = length-le-op_count lists c.args.i c.index.result.now (omega (arith, length-map lists (λ l. l.items))) c.index.ensures in
    omega (arith, fits, ap length c.as_slice.ensures.value)
