use Rattle.std.proofs.Common.{refl, subst}
use Rattle.seat_table.specs.Seats.{shape_of}
use Rattle.waiters.proofs.DomainPolls.{may_look, side_passes, count_made}
use Rattle.core_state.specs.declared.words.Field.TheVariants.{Count}
use Rattle.core_state.specs.declared.words.Kind.TheVariants.{K31}
use Rattle.seat_table.specs.Looks.{one_step}
use Rattle.seat_table.specs.Looks.IsClear.{empty}
use Rattle.seat_table.specs.Waits.{Made}
use Rattle.seat_table.proofs.Waiting.{finds_clear, finds_here}
use Rattle.waiters.proofs.domain.look.Goals as goal

pub look_count-count-requires-clause-asks : goal.look_count-count-requires-clause-asks
look_count-count-requires-clause-asks c = λ told. (
  (refl, c.requires.latest.2.small, c.requires.side),
  may_look (shape_of 1 c.args.table.now) refl c.args.grace.now _ c.args.side c.args.last c.requires.end c.requires.latest,
)

pub returns-then-count-eq0-clause-passed : goal.returns-then-count-eq0-clause-passed
returns-then-count-eq0-clause-passed c = side_passes
    (shape_of 1 c.args.table.now) _ _ c.requires.latest.0 c.args.grace.now.class c.args.side c.look_count-count.result c.args.last
    c.requires.latest.1 c.look_count-count.ensures.told c.if-count-eq0.true

pub returns-then-count-eq0-clause-clear : goal.returns-then-count-eq0-clause-clear
returns-then-count-eq0-clause-clear c = finds_clear
    (subst (λ n. Made c.args.seat.now.view (one_step K31 (Count c.args.grace.now.class c.args.side) n) c.look_count-count.new.seat.view)
    c.if-count-eq0.true (count_made c.look_count-count.ensures.told))
    (empty c.args.grace.now.class c.args.side)

pub returns-clause-once : goal.returns-clause-once
returns-clause-once c = finds_here (count_made c.look_count-count.ensures.told)
