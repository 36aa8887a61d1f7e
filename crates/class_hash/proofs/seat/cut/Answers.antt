use Rattle.std.proofs.Common.{rules}
use Rattle.class_hash.proofs.Seats.{splits}
use Rattle.class_hash.proofs.seat.cut.Goals as goal

pub split_seat-second-requires : goal.split_seat-second-requires
split_seat-second-requires g c = (search rules, search rules, splits _ _ _ _ _ (search rules))
