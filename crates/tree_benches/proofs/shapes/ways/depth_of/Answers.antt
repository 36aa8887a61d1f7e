use Rattle.std.proofs.Common.{rules, ◌≡◌, ℕ, Option, sym, ap, subst, ◌∙◌}
use Rattle.core_state.specs.declared.view.View.{View}
use Rattle.seat_table.specs.Seats.{SeatAt, IsQuietSeat}
use Rattle.seat_table.proofs.Seats.{still_quiet}
use Rattle.citrus_tree.specs.declared.search.End.{End}
use Rattle.citrus_tree.specs.declared.search.End.TheVariants.{Hit, Missing}
use Rattle.citrus_tree.specs.Hops.{Finishes}
use Rattle.citrus_tree.specs.Lookups.{Looked}
use Rattle.tree_benches.proofs.shapes.ways.depth_of.Goals as goal

-- A seat is quiet after a search as it was before.
looked_quiet : {key : ℕ} {answer : Option ℕ} (s t : SeatAt) → Looked s.view key answer t.view → t.listed ≡ s.listed → IsQuietSeat s
    → IsQuietSeat t
looked_quiet s t l listed quiet =
    let e = l.others in
    still_quiet s t (ap (λ (z : View). z.section) e ∙ sym quiet.view.section) (ap (λ (z : View). z.locks) e) (ap (λ (z : View). z.hands) e)
    (ap (λ (z : View). z.moving) e) (ap (λ (z : View). z.commit) e) listed quiet

finished_quiet : (s t : SeatAt) (key : ℕ) (end : End) → Finishes s.view key end t.view → t.listed ≡ s.listed → IsQuietSeat s → IsQuietSeat t
finished_quiet s t key (Hit value) f listed quiet = looked_quiet s t f listed quiet
finished_quiet s t key (Missing spot) f listed quiet = looked_quiet s t f.0 listed quiet

pub returns-in-loop : goal.returns-in-loop
returns-in-loop g c =
    let inv = c.loop.invariant in
    let hop = c.hop-hop.ensures in
    let finish = c.finish.ensures in
    let left : SeatAt = c.finish.new.self.1.0 in
    let same : left ≡ c.seat-in-loop-1.given.0 = search rules in
    let quiet : IsQuietSeat left = finished_quiet c.args.seat.now left _ c.finish.result
    (finish.finished c.args.seat.now.view (hop.stands c.args.seat.now.view inv.stands)) (finish.seat.1 ∙ hop.seat.1 ∙ inv.listed)
    c.requires.quiet in
    record {
      table = ap (λ (s : SeatAt). s.table) (sym same) ∙ finish.seat.0 ∙ hop.seat.0 ∙ inv.table ∙ sym c.requires.table;
      quiet = subst IsQuietSeat same quiet;
    }
