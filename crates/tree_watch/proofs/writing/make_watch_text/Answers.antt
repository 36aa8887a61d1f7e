use Rattle.prcu_model.specs.Scripts.{entries_of}
use Rattle.tree_watch.proofs.Watched.{watch_made}
use Rattle.tree_watch.proofs.writing.make_watch_text.Goals as goal

pub returns : goal.returns
returns c =
    watch_made c.args.scripts.now c.args.slots c.args.keys.low c.args.keys.high
    (entries_of c.args.told.now) c.args.history.now c.in_ok-text.text.items c.push_watch.new.out.items c.args.snapshots.now
    c.in_ok-push_watch.ensures.four c.requires.snapshots c.in_ok-text.ensures c.in_ok-push_watch.ensures.text
