use Rattle.std.proofs.Common.{◌∙◌, ap, arith}
use Rattle.seat_table.specs.Seats.{SeatAt, shape_of}
use Rattle.tree_run.specs.Runs.{newcomer}
use Rattle.tree_run.proofs.crew.hire_one.Goals as goal

pub returns : goal.returns
returns g c = λ place is. (
  c.in_ok-worker.worker,
  record {
    client_is = c.in_ok-worker.ensures.client ∙ c.new-client.ensures.client
        ∙ ap (λ (s : SeatAt). newcomer c.args.cookies
        (record { shape = shape_of g.W.WaitWords.WAY c.args.table.now; table = c.args.table.now; seat = s })) is;
    empty = c.in_ok-worker.ensures.empty;
    room = (let room = c.in_ok-worker.ensures.room in omega arith);
  },
  c.in_ok-push.ensures.items,
)
