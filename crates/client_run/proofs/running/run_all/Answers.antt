use Rattle.std.proofs.Common.{◌≡◌, get_or, sym, ap, ◌∙◌, arith, Some, rules}
use Rattle.std.proofs.lemmas.Option.{slice_get-get_or, slice_get_within, get_or_from_slice_get}
use Rattle.client_run.proofs.running.run_all.Goals as goal

pub for_each_mut-requires-clause-accepts : goal.for_each_mut-requires-clause-accepts
for_each_mut-requires-clause-accepts g c κs within i p in_range read κs2 a b d e ranges t κs3 w = (
  omega (arith, c.requires.workers),
  c.requires.ready i p.now
      (slice_get-get_or c.args.workers.now i p.now in_range ∙ ap Some (sym read)),
)

-- what the call at place i says of the worker there
pub returns-clause-made : goal.returns-clause-made
returns-clause-made g c i before after first second =
    let at = c.for_each_mut.ensures i before (slice_get_within c.args.workers.now i before first) in
    let was : at.1.argument.now ≡ before = ◌∙◌ {b = get_or c.args.workers.now i before} at.1.argument_is
    (get_or_from_slice_get c.args.workers.now i before before first) in
    let is : at.1.after_call.now ≡ after = ◌∙◌ {b = get_or c.for_each_mut.new.s i before} at.1.left
    (get_or_from_slice_get c.for_each_mut.new.s i after before second) in
    rw (← was, ← is) (search rules)

pub returns-clause-left : goal.returns-clause-left
returns-clause-left g c i before after first second =
    let at = c.for_each_mut.ensures i before (slice_get_within c.args.workers.now i before first) in
    let was : at.1.argument.now ≡ before = ◌∙◌ {b = get_or c.args.workers.now i before} at.1.argument_is
    (get_or_from_slice_get c.args.workers.now i before before first) in
    let is : at.1.after_call.now ≡ after = ◌∙◌ {b = get_or c.for_each_mut.new.s i before} at.1.left
    (get_or_from_slice_get c.for_each_mut.new.s i after before second) in
    rw (← was, ← is) (search rules)
