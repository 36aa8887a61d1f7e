use Rattle.std.proofs.Common.{◌∙◌, refl, subst, ap, length, ℕ, ◌≤◌, sym, List, ◌≡◌}
use Rattle.core_frames.proofs.Roles.{slots_in}
use Rattle.list_laws.specs.Counts.{times}
use Rattle.seat_table.specs.Seats.{shape_of}
use Rattle.node_slots.proofs.Returns.{listed_length}
use Rattle.grace_cookie.proofs.Keeping.{started_of, started_kept}
use Rattle.grace_cookie.proofs.cookies.start.Goals as goal

pub returns-clause-slots : goal.returns-clause-slots
returns-clause-slots g c = c.count_retired-slots.ensures.many ∙ listed_length c.args.seat.now c.requires.listed

pub returns-clause-of : goal.returns-clause-of
returns-clause-of g c =
    started_of c.args.seat.now.view c.begin-grace.new.seat.view c.args.keys c.begin-grace.ensures.begun
    (shape_of g.W.WaitWords.WAY c.args.table.now) c.begin-grace.result c.waits-count.result c.count_retired-slots.result
    c.waits-count.ensures c.begin-grace.ensures.keys c.begin-grace.ensures.latest

pub returns-clause-kept : goal.returns-clause-kept
returns-clause-kept g c =
    let listed = sym c.begin-grace.ensures.seat.1 in
    let same = subst (λ (l : List ℕ). (t : ℕ) → times t l
    ≡ times t (slots_in c.args.seat.now.view.hands.retired)) listed c.requires.listed.each in
    let once = subst (λ (l : List ℕ). (t : ℕ) → times t l ≤ 1) listed c.count_retired-slots.ensures.apart in
    started_kept c.args.seat.now.view c.begin-grace.new.seat.view c.args.keys c.begin-grace.ensures.begun _ c.begin-grace.new.seat refl same
    once (c.count_retired-slots.ensures.many ∙ ap length listed) refl
