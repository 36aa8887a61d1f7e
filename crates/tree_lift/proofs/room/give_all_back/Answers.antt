use Rattle.std.proofs.Common.{refl, sym, ◌∙◌}
use Rattle.seat_table.specs.Seats.{shape_of}
use Rattle.node_slots.proofs.Returns.{listed_length}
use Rattle.citrus_tree.proofs.Linking.{empty_is, empty_not}
use Rattle.citrus_tree.proofs.Leavings.{keeps_same}
use Rattle.tree_lift.proofs.Attempts.{may_reclaim_room, none_listed, none_retired, back_keeps, left_reclaimed}
use Rattle.tree_lift.proofs.room.give_all_back.Goals as goal

pub returns-then-is_empty-clause-back : goal.returns-then-is_empty-clause-back
returns-then-is_empty-clause-back g c = (
  refl,
  none_listed c.args.seat.now.listed c.args.seat.now.view.hands.retired
      (sym c.retired.ensures ∙ empty_is c.retired.result.now (sym c.is_empty.ensures ∙ c.if-is_empty.true))
      (listed_length c.args.seat.now c.requires.quiet.listed),
)

pub reclaim-requires-clause-outside : goal.reclaim-requires-clause-outside
reclaim-requires-clause-outside g c = c.requires.quiet.view.section

pub reclaim-requires-clause-unlocked : goal.reclaim-requires-clause-unlocked
reclaim-requires-clause-unlocked g c = c.requires.quiet.view.locks

pub reclaim-requires-clause-settled : goal.reclaim-requires-clause-settled
reclaim-requires-clause-settled g c = c.requires.quiet.view.moving

pub reclaim-requires-clause-paid : goal.reclaim-requires-clause-paid
reclaim-requires-clause-paid g c = c.requires.quiet.view.owes

pub reclaim-requires-clause-listed : goal.reclaim-requires-clause-listed
reclaim-requires-clause-listed g c = c.requires.quiet.listed

pub reclaim-requires-clause-unraised : goal.reclaim-requires-clause-unraised
reclaim-requires-clause-unraised g c = (may_reclaim_room c.args.seat.now c.requires.quiet c.requires.ticket).unraised

pub returns-clause-back : goal.returns-clause-back
returns-clause-back g c = (
  c.in_ok-reclaim.ensures.view,
  c.in_ok-reclaim.ensures.listed,
  λ none. empty_not c.retired.result.now (sym c.is_empty.ensures ∙ c.if-is_empty.false) (c.retired.ensures
      ∙ none_retired c.args.seat.now.listed c.args.seat.now.view.hands.retired none (listed_length c.args.seat.now c.requires.quiet.listed)),
)

pub returns-clause-updates : goal.returns-clause-updates
returns-clause-updates g c key = left_reclaimed key c.in_ok-reclaim.ensures.view

pub returns-clause-keeps : goal.returns-clause-keeps
returns-clause-keeps g c = back_keeps (shape_of g.W.WaitWords.WAY c.args.table.now) c.args.seat.now c.reclaim.new.seat
    c.in_ok-reclaim.ensures.view c.in_ok-reclaim.ensures.listed c.requires.quiet

pub returns-then-is_empty-clause-keeps : goal.returns-then-is_empty-clause-keeps
returns-then-is_empty-clause-keeps g c = keeps_same c.requires.quiet
