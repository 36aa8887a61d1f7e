use Rattle.grace_cookie.proofs.Keeping.{stay_retired}
use Rattle.tree_tests.proofs.lifts.cookies.lift_beside.Goals as goal

pub returns-clause-keeps : goal.returns-clause-keeps
returns-clause-keeps g c =
    let lifted = c.in-Ok.ensures in
    let slots = lifted.keeps.slots in
    record {
      latest = record {
        place = lifted.updates.advanced.same;
        seen = lifted.updates.advanced.begins;
        waits = slots.waits;
        wait = slots.wait;
      };
      slots = λ same. let none = slots.slots same in record {
        retired = stay_retired c.args.seat.now.view c.lift.new.seat.view none.retired.0 none.retired.1;
        listed = none.listed;
      };
    }
