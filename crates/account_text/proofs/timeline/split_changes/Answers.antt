use Rattle.std.proofs.Common.{rules}
use Rattle.std.proofs.lemmas.List.Sorted.{IsPartitionPoint-from_clause}
use Rattle.account_text.proofs.Replays.{is_up_to, parted, until-take, past-drop}
use Rattle.account_text.proofs.timeline.split_changes.Goals as goal

pub returns-clause-until : goal.returns-clause-until
returns-clause-until c =
    let point = IsPartitionPoint-from_clause
    (is_up_to c.args.key c.args.front) c.args.changes.now c.partition_point-count.result c.partition_point-count.ensures.partitioned
    (parted c.args.key c.args.front c.args.changes.now c.requires) (λ a r q k. search rules) in
    until-take c.args.key c.args.front c.args.changes.now c.partition_point-count.result point c.partition_point-count.ensures.bound
    c.split_at.result.0.now c.split_at.ensures.front c.split_at.ensures.front_len

pub returns-clause-later : goal.returns-clause-later
returns-clause-later c =
    let point = IsPartitionPoint-from_clause
    (is_up_to c.args.key c.args.front) c.args.changes.now c.partition_point-count.result c.partition_point-count.ensures.partitioned
    (parted c.args.key c.args.front c.args.changes.now c.requires) (λ a r q k. search rules) in
    past-drop c.args.key c.args.front c.args.changes.now c.partition_point-count.result point c.split_at.result.1.now
    c.split_at.ensures.back c.split_at.ensures.back_len
