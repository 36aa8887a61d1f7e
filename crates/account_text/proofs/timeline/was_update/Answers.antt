use Rattle.account_text.proofs.Replays.{was-put, was-del, was-set}
use Rattle.account_text.proofs.timeline.was_update.Goals as goal

pub returns-in-Put : goal.returns-in-Put
returns-in-Put c = rw c.in-Put.is (λ m old new left. was-put m c.in-Put.key c.args.before c.args.after old c.in-Put.value new)

pub returns-in-Del : goal.returns-in-Del
returns-in-Del c = rw c.in-Del.is (λ m old new left. was-del m c.in-Del.key c.args.before c.args.after old new)

pub returns-in-Set : goal.returns-in-Set
returns-in-Set c = rw (c.in-Set.is, c.is_some.ensures) (λ m old new left. was-set m c.in-Set.key c.in-Set.value c.args.value left)
