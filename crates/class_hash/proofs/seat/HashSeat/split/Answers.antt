use Rattle.std.proofs.Common.{sym, subst}
use Rattle.class_hash.specs.Answers.{IsInformed}
use Rattle.class_hash.proofs.Seats.{split_informed}
use Rattle.class_hash.proofs.seat.HashSeat.split.Goals as goal

pub returns-clause-informed : goal.returns-clause-informed
returns-clause-informed c informed =
    let table = c.args.table.now in
    let both = split_informed table.capacities table.places c.args.self.view c.args.places c.args.tickets c.requires.places.0
    c.requires.places.1 informed in
    let views = c.cut.ensures.views in (
      subst (IsInformed table.capacities table.places) (sym views.0) both.0,
      subst (IsInformed table.capacities table.places) (sym views.1) both.1,
    )
