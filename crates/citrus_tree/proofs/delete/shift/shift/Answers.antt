use Rattle.std.proofs.Common.{◌+◌, inl, [], ◌∷◌, ◌++◌, length, sym, ap, subst, ◌∙◌, append-nil, arith}
use Rattle.prcu_model.specs.declared.operation.Op.TheVariants.{Del}
use Rattle.list_laws.specs.Counts.{times}
use Rattle.core_points.specs.DeleteFacts.{all_locks}
use Rattle.core_points.specs.Facts.{SameLocks}
use Rattle.seat_table.specs.Seats.{shape_of}
use Rattle.tree_points.proofs.Locks.{needs_copy_lock, passes_copy_lock_free, passes_copy_lock_busy, locks_copy_lock, advanced_on}
use Rattle.citrus_tree.proofs.DeleteUpdates.{keeps_rest, locks_busy, rest_lock, rest_of, spare_lock, copy_aside, takes_more, takes_since, value_lock, value_on}
use Rattle.citrus_tree.proofs.DeleteMoves.{few_moved, has_spare, one_listed, move_deletes, retires_before, two_retired}
use Rattle.citrus_tree.proofs.Leavings.{none_back_on, none_back_same, slots_later, slots_rest, none_begun, wait_later}
use Rattle.citrus_tree.proofs.DeleteTries.{listed_still}
use Rattle.citrus_tree.proofs.delete.shift.shift.Goals as goal

pub unreachable-requires : goal.unreachable-requires
unreachable-requires g c = has_spare c.args.node c.args.successor (c.requires.at).1 c.in_default.ensures

pub fill_copy-next_key-requires-clause-at : goal.fill_copy-next_key-requires-clause-at
fill_copy-next_key-requires-clause-at g c = let a = c.requires.at in (Del c.args.key, a.0, a.1)

pub fill_copy-next_key-requires-clause-spare : goal.fill_copy-next_key-requires-clause-spare
fill_copy-next_key-requires-clause-spare g c = c.in-Some.ensures

pub link_copy-requires-clause-small : goal.link_copy-requires-clause-small
link_copy-requires-clause-small g c = c.requires.small

pub finish-requires-clause-small : goal.finish-requires-clause-small
finish-requires-clause-small g c = c.requires.small.1

pub returns-then-lock-ne0-clause-listed : goal.returns-then-lock-ne0-clause-listed
returns-then-lock-ne0-clause-listed g c =
    let k = (shape_of g.W.WaitWords.WAY c.args.table.now) in
    listed_still c.args.seat.now c.unlock_target.new.seat
    (c.unlock_target.ensures.seat.1 ∙ c.lock.ensures.seat.1 ∙ c.fill_copy-next_key.ensures.seat.1)
    (c.unlock_target.ensures.same.retired ∙ (rest_lock k _ _ _ _ c.lock.ensures.told).retired
    ∙ c.fill_copy-next_key.ensures.same.retired) c.requires.listed

pub returns-clause-listed : goal.returns-clause-listed
returns-clause-listed g c = c.in_ok-finish.ensures.listed

pub returns-clause-informed : goal.returns-clause-informed
returns-clause-informed g c = c.in_ok-finish.ensures.informed

pub lock-requires-clause-asks : goal.lock-requires-clause-asks
lock-requires-clause-asks g c = let a = c.requires.at in
    needs_copy_lock c.fill_copy-next_key.ensures.spare (c.fill_copy-next_key.ensures.at (Del c.args.key) a.0 a.1)

pub unlock_target-requires-clause-at : goal.unlock_target-requires-clause-at
unlock_target-requires-clause-at g c = let a = c.requires.at in (
  Del c.args.key,
  a.0,
  passes_copy_lock_busy c.if-lock-ne0.true c.fill_copy-next_key.ensures.spare
      (c.fill_copy-next_key.ensures.at (Del c.args.key) a.0 a.1) c.lock.ensures.told,
)

pub unlock_target-requires-clause-locked : goal.unlock_target-requires-clause-locked
unlock_target-requires-clause-locked g c =
    let a = c.requires.at in
    record {
      same = subst (λ ls. SameLocks (all_locks c.args.node c.args.successor) ls)
          (sym (locks_busy (shape_of g.W.WaitWords.WAY c.args.table.now) _ _ _ _ c.if-lock-ne0.true c.lock.ensures.told))
          (locks_copy_lock (c.fill_copy-next_key.ensures.at (Del c.args.key) a.0 a.1)).same;
    }

pub returns-then-lock-ne0-clause-again : goal.returns-then-lock-ne0-clause-again
returns-then-lock-ne0-clause-again g c = λ op kept a. c.unlock_target.ensures.at op kept
    (passes_copy_lock_busy c.if-lock-ne0.true c.fill_copy-next_key.ensures.spare
    (c.fill_copy-next_key.ensures.at op kept a) c.lock.ensures.told)

pub link_copy-requires-clause-at : goal.link_copy-requires-clause-at
link_copy-requires-clause-at g c = let a = c.requires.at in (
  a.0,
  (passes_copy_lock_free c.if-lock-ne0.false c.fill_copy-next_key.ensures.spare
      (c.fill_copy-next_key.ensures.at (Del c.args.key) a.0 a.1) c.lock.ensures.told),
)

pub link_copy-requires-clause-spare : goal.link_copy-requires-clause-spare
link_copy-requires-clause-spare g c = spare_lock
    (shape_of g.W.WaitWords.WAY c.args.table.now) _ _ _ _ _ c.lock.ensures.told c.fill_copy-next_key.ensures.spare

pub finish-requires-clause-at : goal.finish-requires-clause-at
finish-requires-clause-at g c = let a = c.requires.at in (
  a.0,
  c.in_ok-number.ensures.at a.0 (passes_copy_lock_free c.if-lock-ne0.false c.fill_copy-next_key.ensures.spare
      (c.fill_copy-next_key.ensures.at (Del c.args.key) a.0 a.1) c.lock.ensures.told),
)

pub finish-requires-clause-listed : goal.finish-requires-clause-listed
finish-requires-clause-listed g c = λ t.
    (let k = (shape_of g.W.WaitWords.WAY c.args.table.now) in
    ap (λ xs. times t xs + times t (c.args.node.node ∷ []))
    ((c.link_copy.ensures.seat).1 ∙ (c.lock.ensures.seat).1 ∙ (c.fill_copy-next_key.ensures.seat).1)
    ∙ one_listed c.args.seat.now.listed c.args.seat.now.view c.link_copy.new.seat.view c.args.node.node c.requires.listed.each
    (c.in_ok-number.ensures.retired ∙ ap (λ xs. xs ++ c.args.node.node ∷ [])
    ((rest_lock k _ _ _ _ c.lock.ensures.told).retired ∙ c.fill_copy-next_key.ensures.same.retired)) t)

pub finish-requires-clause-few : goal.finish-requires-clause-few
finish-requires-clause-few g c =
    let few = few_moved c.args.seat.now c.args.node c.args.successor (c.requires.at).1
    c.lock.ensures.told.before.tells.some_room c.requires.listed in
    let same = ap length ((c.link_copy.ensures.seat).1 ∙ (c.lock.ensures.seat).1 ∙ (c.fill_copy-next_key.ensures.seat).1) in
    omega (arith, few, same)

pub finish-requires-clause-above : goal.finish-requires-clause-above
finish-requires-clause-above g c =
    let a = c.requires.at in
    (c.in_ok-number.ensures.done a.0 (passes_copy_lock_free c.if-lock-ne0.false c.fill_copy-next_key.ensures.spare
    (c.fill_copy-next_key.ensures.at (Del c.args.key) a.0 a.1) c.lock.ensures.told)).next.above

pub returns-clause-done : goal.returns-clause-done
returns-clause-done g c = λ kept a. c.in_ok-finish.ensures.done kept
    (c.in_ok-number.ensures.at kept (passes_copy_lock_free c.if-lock-ne0.false c.fill_copy-next_key.ensures.spare
    (c.fill_copy-next_key.ensures.at (Del c.args.key) kept a) c.lock.ensures.told))

pub returns-clause-deleted : goal.returns-clause-deleted
returns-clause-deleted g c =
    let k = (shape_of g.W.WaitWords.WAY c.args.table.now) in
    let a = c.requires.at in
    move_deletes _ _ _ _ c.args.key c.fill_copy-next_key.result c.args.node.node c.in_ok-number.number
    (advanced_on c.fill_copy-next_key.ensures.same.advanced (rest_lock k _ _ _ _ c.lock.ensures.told).advanced)
    (c.in_ok-number.ensures.done a.0 (passes_copy_lock_free c.if-lock-ne0.false c.fill_copy-next_key.ensures.spare
    (c.fill_copy-next_key.ensures.at (Del c.args.key) a.0 a.1) c.lock.ensures.told)) c.in_ok-finish.ensures.waited

pub returns-then-lock-ne0-clause-same : goal.returns-then-lock-ne0-clause-same
returns-then-lock-ne0-clause-same g c =
    keeps_rest _ _ _ (rest_of _ _ c.fill_copy-next_key.ensures.same)
    (keeps_rest _ _ _ (rest_lock
    (shape_of g.W.WaitWords.WAY c.args.table.now) _ _ _ _ c.lock.ensures.told) c.unlock_target.ensures.same)

pub returns-then-lock-ne0-clause-slots : goal.returns-then-lock-ne0-clause-slots
returns-then-lock-ne0-clause-slots g c =
    slots_rest c.args.seat.now c.unlock_target.new.seat
    (keeps_rest _ _ _ (rest_of _ _ c.fill_copy-next_key.ensures.same)
    (keeps_rest _ _ _ (rest_lock
    (shape_of g.W.WaitWords.WAY c.args.table.now) _ _ _ _ c.lock.ensures.told) c.unlock_target.ensures.same))
    (c.unlock_target.ensures.seat.1 ∙ c.lock.ensures.seat.1 ∙ c.fill_copy-next_key.ensures.seat.1)

pub returns-clause-slots : goal.returns-clause-slots
returns-clause-slots g c =
    let a = c.in_ok-finish.ensures.later in
    let b = c.in_ok-number.ensures.waits.count in
    let d = (rest_lock (shape_of g.W.WaitWords.WAY c.args.table.now) _ _ _ _ c.lock.ensures.told).waits.count in
    let e = c.fill_copy-next_key.ensures.same.waits.count in
    slots_later c.args.seat.now c.finish.new.seat (omega (arith, a, b, d, e))

pub returns-clause-waits : goal.returns-clause-waits
returns-clause-waits g c =
    let k = (shape_of g.W.WaitWords.WAY c.args.table.now) in
    let a = c.requires.at in
    let filled = c.fill_copy-next_key.ensures.same in
    let locked = rest_lock k _ _ _ _ c.lock.ensures.told in
    let linked = c.in_ok-number.ensures in
    let copied = linked.done a.0 (passes_copy_lock_free c.if-lock-ne0.false c.fill_copy-next_key.ensures.spare
    (c.fill_copy-next_key.ensures.at (Del c.args.key) a.0 a.1) c.lock.ensures.told) in
    wait_later (none_begun (advanced_on (advanced_on filled.advanced locked.advanced) copied.done.advanced)
    (linked.waits.count ∙ locked.waits.count ∙ filled.waits.count)
    (linked.waits.wait ∙ locked.waits.wait ∙ filled.waits.wait)) c.in_ok-finish.ensures.waits

pub returns-then-lock-ne0-clause-retires : goal.returns-then-lock-ne0-clause-retires
returns-then-lock-ne0-clause-retires g c = c.unlock_target.ensures.seat.1 ∙ c.lock.ensures.seat.1 ∙ c.fill_copy-next_key.ensures.seat.1

pub returns-clause-retires : goal.returns-clause-retires
returns-clause-retires g c =
    let k = (shape_of g.W.WaitWords.WAY c.args.table.now) in
    let a = c.requires.at in
    let copied = c.in_ok-number.ensures.done a.0 (passes_copy_lock_free c.if-lock-ne0.false c.fill_copy-next_key.ensures.spare
    (c.fill_copy-next_key.ensures.at (Del c.args.key) a.0 a.1) c.lock.ensures.told) in
    retires_before c.args.seat.now c.lock.new.seat c.finish.new.seat c.args.key c.in_ok-number.number
    (advanced_on c.fill_copy-next_key.ensures.same.advanced (rest_lock k _ _ _ _ c.lock.ensures.told).advanced)
    (inl (c.lock.ensures.seat.1 ∙ c.fill_copy-next_key.ensures.seat.1))
    (two_retired c.lock.new.seat c.link_copy.new.seat c.finish.new.seat c.args.key c.args.node.node c.args.successor.slot
    c.in_ok-number.number copied.done c.link_copy.ensures.seat.1 c.in_ok-finish.ensures.unlinked c.in_ok-finish.ensures.listing)

pub returns-clause-took : goal.returns-clause-took
returns-clause-took g c =
    let k = (shape_of g.W.WaitWords.WAY c.args.table.now) in
    let a = c.requires.at in
    let filled = c.fill_copy-next_key.ensures in
    let apart = copy_aside c.args.node c.args.successor (filled.at (Del c.args.key) a.0 a.1) filled.spare in
    takes_more _ c.in_ok-finish.ensures.waited.begins
    (takes_since (advanced_on filled.same.advanced (rest_lock k _ _ _ _ c.lock.ensures.told).advanced)
    (value_on filled.value (value_lock _ c.args.node.node apart c.lock.ensures.told)) c.in_ok-number.ensures.took)

pub returns-then-lock-ne0-clause-stays : goal.returns-then-lock-ne0-clause-stays
returns-then-lock-ne0-clause-stays g c =
    let rest = keeps_rest _ _ _ (rest_of _ _ c.fill_copy-next_key.ensures.same)
    (keeps_rest _ _ _ (rest_lock
    (shape_of g.W.WaitWords.WAY c.args.table.now) _ _ _ _ c.lock.ensures.told) c.unlock_target.ensures.same) in
    none_back_same c.args.seat.now c.unlock_target.new.seat rest.stay
    (c.unlock_target.ensures.seat.1 ∙ c.lock.ensures.seat.1 ∙ c.fill_copy-next_key.ensures.seat.1)

pub returns-clause-stays : goal.returns-clause-stays
returns-clause-stays g c =
    let locked = rest_lock (shape_of g.W.WaitWords.WAY c.args.table.now) _ _ _ _ c.lock.ensures.told in
    let linked = c.in_ok-number.ensures.stay in
    none_back_on c.args.seat.now c.link_copy.new.seat c.finish.new.seat (record {
      retired = (linked.0, linked.1 ∙ ap (λ xs. xs ++ linked.0) (locked.stay ∙ c.fill_copy-next_key.ensures.same.stay));
      listed = (
        [],
        c.link_copy.ensures.seat.1 ∙ c.lock.ensures.seat.1 ∙ c.fill_copy-next_key.ensures.seat.1
            ∙ sym (append-nil c.args.seat.now.listed),
      );
    }) c.in_ok-finish.ensures.stays
