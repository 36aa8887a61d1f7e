use Rattle.std.proofs.Common.{◌≡◌, suc, ◌+◌, subst, ◌∙◌, arith, rules}
use Rattle.tree_handles.specs.Calls.{Misses}
use Rattle.tree_handles.proofs.Callers.{insert_ends}
use Rattle.tree_handles.proofs.any_caller.AnyCaller.upsert.Goals as goal

pub returns : goal.returns
returns c = (c.loop-round.round, search rules, c.loop-round.invariant.missed, c.loop-round.invariant.unwritten)

pub loop-round-preserved : goal.loop-round-preserved
loop-round-preserved c =
    let next : suc c.loop-round.round ≡ c.loop-round.round + 1 = omega arith in record {
      few = search rules;
      unwritten = c.in-Unchanged.ensures.1 ∙ c.loop-round.invariant.unwritten;
      missed = subst (λ rounds. Misses c.args.self.now c.args.key c.args.value rounds c.insert.new.self) next
          (c.loop-round.self, c.replace.new.self, c.loop-round.invariant.missed, c.in-Unchanged.ensures.0, c.in-Unchanged-insert.ensures);
    }

pub returns-in_default-insert : goal.returns-in_default-insert
returns-in_default-insert c = insert_ends c.args.self.now c.replace.new.self c.insert.new.self c.args.key c.args.value c.args.old.now
    c.replace.new.old c.insert.result
    (c.loop-round.self, (c.loop-round.round, search rules, c.loop-round.invariant.missed), c.in-Unchanged.ensures.0)
    c.in_default-insert.not-Done c.in_default-insert.not-Unchanged c.insert.ensures
    (c.in-Unchanged.ensures.1 ∙ c.loop-round.invariant.unwritten)
