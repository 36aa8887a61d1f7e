use Rattle.std.proofs.Common.{rules}
use Rattle.key_interval.specs.Keys.{Interval}
use Rattle.tree_handles.specs.Tidying.{Output}
use Rattle.tree_handles.proofs.Callers.{tidies_listed}
use Rattle.tree_handles.proofs.any_caller.AnyCaller.tidy_out.Goals as goal

pub returns-in-Ok-list : goal.returns-in-Ok-list
returns-in-Ok-list c =
    let keys : Interval = record { low = c.args.low; high = c.args.high } in
    let out : Output = record { made = c.level_page.new.made; next = c.level_page.new.next } in
    tidies_listed c.args.self.now keys c.args.turns c.args.next.now c.level_page.result out c.level_page.new.self
    c.list.new.page c.in-Ok-list.exact.next c.in-Ok-list.exact.front c.list.new.self (search rules) (search rules) (search rules) (search rules)
