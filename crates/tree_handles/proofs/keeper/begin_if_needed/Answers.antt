use Rattle.seat_table.specs.Seats.{shape_of}
use Rattle.tree_handles.proofs.Keepers.{user_earlier}
use Rattle.tree_handles.proofs.keeper.begin_if_needed.Goals as goal

pub can_begin-requires : goal.can_begin-requires
can_begin-requires g c = record {
  begun = λ d is. user_earlier (shape_of g.W.WaitWords.WAY c.args.table.now) c.args.cookie.now c.args.seat.now.view d
      c.requires.cookies.of_user is;
}
