use Rattle.std.proofs.Common.{List, length, sym, ap, subst, ◌∙◌, arith}
use Rattle.std.specs.Arc.{arc_value}
use Rattle.core_state.specs.declared.shape.Shape.{Shape}
use Rattle.list_laws.specs.Counts.{Each}
use Rattle.many_gets.specs.Many.{LooksUpAll}
use Rattle.seat_table.specs.Seats.{SeatAt, IsQuietSeat, shape_of}
use Rattle.tree_handles.specs.Lanes.{AreSeated, LanesAt, MayLookUp}
use Rattle.tree_handles.proofs.LaneLists.{lent_back}
use Rattle.tree_handles.proofs.lane_seats.LaneSeats.get_many.Goals as goal

pub get_many-requires-clause-quiet : goal.get_many-requires-clause-quiet
get_many-requires-clause-quiet g c =
    subst (λ (xs : List SeatAt). Each xs IsQuietSeat) (sym c.as_mut_slice.ensures.value) c.self.invariant.1

pub invariant_of-self : goal.invariant_of-self
invariant_of-self g c =
    let lent = ap (λ (xs : List SeatAt). length xs) c.as_mut_slice.ensures.value in
    let held = c.as_mut_slice.ensures.len in
    let still = c.get_many.auto.seats in
    let back = lent_back (arc_value c.self.inside.shared) c.self.inside.seats.items _ c.get_many.new.seats c.self.inside.seats.len
    c.as_mut_slice.ensures.value (omega arith) (omega arith) c.get_many.ensures.kept c.self.invariant.0 in (
      subst (λ (xs : List SeatAt). AreSeated (arc_value c.self.inside.shared) xs) (sym back.0) back.1,
      subst (λ (xs : List SeatAt). Each xs IsQuietSeat) (sym back.0) c.get_many.ensures.quiet,
    )

pub returns : goal.returns
returns g c =
    let lent = ap (λ (xs : List SeatAt). length xs) c.as_mut_slice.ensures.value in
    let held = c.as_mut_slice.ensures.len in
    let still = c.get_many.auto.seats in
    let back = lent_back (arc_value c.self.inside.shared) c.self.inside.seats.items _ c.get_many.new.seats c.self.inside.seats.len
    c.as_mut_slice.ensures.value (omega arith) (omega arith) c.get_many.ensures.kept c.self.invariant.0 in
    let answered = c.get_many.auto.answers in
    let asked = c.requires.room in
    let k : Shape = shape_of g.W.WaitWords.WAY (arc_value c.self.inside.shared) in record {
      looked_up = record {
        way = ap (λ (z : LanesAt). z.way) c.self.view_is;
        table = ap (λ (z : LanesAt). z.table) c.self.view_is;
        before = subst MayLookUp c.self.view_is (record { seated = c.self.invariant.0; quiet = c.self.invariant.1 });
        room = omega arith;
        same_count = let there = ap (λ (xs : List SeatAt). length xs) back.0 in
            let here = ap (λ (z : LanesAt). length z.seats) c.self.view_is in omega (arith, there, here, lent, held, still);
        looked_up = subst (λ (xs : List SeatAt). LooksUpAll (shape_of c.args.self.now.way c.args.self.now.table) c.args.keys.now
            c.get_many.new.answers c.args.self.now.seats xs) (sym back.0)
            (subst (λ (l : LanesAt). LooksUpAll (shape_of l.way l.table) c.args.keys.now c.get_many.new.answers l.seats c.get_many.new.seats)
            c.self.view_is
            (subst (λ (xs : List SeatAt). LooksUpAll k c.args.keys.now c.get_many.new.answers xs c.get_many.new.seats)
            c.as_mut_slice.ensures.value
            (subst (λ t. LooksUpAll (shape_of g.W.WaitWords.WAY t) c.args.keys.now c.get_many.new.answers c.as_mut_slice.result.now
            c.get_many.new.seats)
            (c.table.ensures ∙ c.deref.ensures) c.get_many.ensures.looked_up)));
        after = record {
          seated = subst (λ (xs : List SeatAt). AreSeated (arc_value c.self.inside.shared) xs) (sym back.0) back.1;
          quiet = subst (λ (xs : List SeatAt). Each xs IsQuietSeat) (sym back.0) c.get_many.ensures.quiet;
        };
      };
    }
