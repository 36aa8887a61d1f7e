use Rattle.std.proofs.Common.{◌≡◌, true, false, sym, ◌∙◌, arith}
use Rattle.prcu_model.specs.Held.{op_lists}
use Rattle.prcu_model.specs.Scripts.{is_put}
use Rattle.prcu_model.proofs.ListFacts.{counts-with_op, put_count-le-op_count}
use Rattle.prcu_model.proofs.scripts.Scripts.add_op.Goals as goal

pub overflow_add-self-then-is_put : goal.overflow_add-self-then-is_put
overflow_add-self-then-is_put c = omega (arith, put_count-le-op_count (op_lists c.self.inside))

pub invariant_of-self-then-is_put : goal.invariant_of-self-then-is_put
invariant_of-self-then-is_put c =
    let held = c.self.invariant in
    let seen : c.args.self.now ≡ op_lists c.self.inside = sym c.self.view_is in
    let some = rw seen at c.requires.script in
    let room = rw seen at c.requires.room in
    let n = counts-with_op
    (op_lists c.self.inside) _ c.args.op _ _ c.in_ok-push_to_last.ensures.ok some held.few_scripts room held.ops held.puts held.fits
    c.is_put.ensures.fits in
    let put : is_put c.args.op ≡ true = sym c.is_put.ensures.put ∙ c.if-is_put.true in
    let n = rw put at n in
    record { few_scripts = n.few_scripts; few_ops = n.few_ops; ops = n.ops; puts = n.puts; fits = n.fits }

pub invariant_of-self-else-is_put : goal.invariant_of-self-else-is_put
invariant_of-self-else-is_put c =
    let held = c.self.invariant in
    let seen : c.args.self.now ≡ op_lists c.self.inside = sym c.self.view_is in
    let some = rw seen at c.requires.script in
    let room = rw seen at c.requires.room in
    let n = counts-with_op
    (op_lists c.self.inside) _ c.args.op _ _ c.in_ok-push_to_last.ensures.ok some held.few_scripts room held.ops held.puts held.fits
    c.is_put.ensures.fits in
    let put : is_put c.args.op ≡ false = sym c.is_put.ensures.put ∙ c.if-is_put.false in
    let n = rw put at n in
    record { few_scripts = n.few_scripts; few_ops = n.few_ops; ops = n.ops; puts = omega (arith, n.puts); fits = n.fits }
