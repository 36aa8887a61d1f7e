use Rattle.std.proofs.Common.{[], sym, subst}
use Rattle.std.proofs.lemmas.Result.{IfOk-weaker}
use Rattle.tree_watch.specs.Snapshots.{AreSnapshots}
use Rattle.citrus_tool.proofs.Leavings.{none_listed}
use Rattle.citrus_tool.proofs.watching.watch_of_none.Goals as goal

pub make_watch_text-requires-clause-snapshots : goal.make_watch_text-requires-clause-snapshots
make_watch_text-requires-clause-snapshots c =
    subst (λ ss. AreSnapshots [] c.args.keys.low c.args.keys.high 0 ss) (sym c.in_ok-none.ensures)
    (none_listed c.args.keys.low c.args.keys.high)

pub returns : goal.returns
returns c = IfOk-weaker c.make_watch_text.result _ _ (λ text watch. (watch.0, watch.1, watch.3)) c.make_watch_text.ensures
