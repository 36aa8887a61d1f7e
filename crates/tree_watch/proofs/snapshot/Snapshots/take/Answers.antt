use Rattle.std.proofs.Common.{[], ◌∷◌, length}
use Rattle.prcu_model.proofs.ListFacts.{prefix_trans}
use Rattle.prcu_marks.specs.Marks.{updates_of}
use Rattle.tree_watch.proofs.Watched.{snapshots_next, looked_next}
use Rattle.tree_watch.proofs.snapshot.Snapshots.take.Goals as goal

-- from the last one to the first: what one saw is a beginning of what the next one saw
pub returns-clause-taken : goal.returns-clause-taken
returns-clause-taken g c =
    let low = c.args.keys.low in
    let high = c.args.keys.high in
    let none = c.args.seat.now.view.seen in
    let one = c.take.new.seat.view.seen in
    let two = c.take-2.new.seat.view.seen in
    let three = c.take-3.new.seat.view.seen in
    let four = c.take-4.new.seat.view.seen in
    let last = c.take-4.ensures.only.seen in
    let later = prefix_trans two three four c.take-3.ensures.only.seen last in
    let latest = prefix_trans one two four c.take-2.ensures.only.seen later in
    snapshots_next low high one four (length (updates_of none)) c.take.new.self
    (c.take-2.new.self ∷ c.take-3.new.self ∷ c.take-4.new.self ∷ []) latest c.take.ensures.taken
    (snapshots_next low high two four (length (updates_of one)) c.take-2.new.self
    (c.take-3.new.self ∷ c.take-4.new.self ∷ []) later c.take-2.ensures.taken
    (snapshots_next low high three four (length (updates_of two)) c.take-3.new.self
    (c.take-4.new.self ∷ []) last c.take-3.ensures.taken c.take-4.ensures.taken))

pub returns-clause-looked : goal.returns-clause-looked
returns-clause-looked g c =
    let none = c.args.seat.now.view in
    let one = c.take.new.seat.view in
    let two = c.take-2.new.seat.view in
    let three = c.take-3.new.seat.view in
    let four = c.take-4.new.seat.view in
    looked_next none one four c.take.new.self (c.take-2.new.self ∷ c.take-3.new.self ∷ c.take-4.new.self
    ∷ []) c.take.ensures.only c.take.ensures.looked
    (looked_next one two four c.take-2.new.self (c.take-3.new.self ∷ c.take-4.new.self ∷ []) c.take-2.ensures.only c.take-2.ensures.looked
    (looked_next two three four c.take-3.new.self
    (c.take-4.new.self ∷ []) c.take-3.ensures.only c.take-3.ensures.looked c.take-4.ensures.looked))
