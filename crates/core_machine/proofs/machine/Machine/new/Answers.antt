use Rattle.std.proofs.Common.{length, ℕ, ◌*◌, ◌<◌, ◌≤◌, vec_capacity, subst, ap, ◌∙◌, arith}
use Rattle.prcu_model.specs.Scripts.{op_count}
use Rattle.seat_table.specs.Seats.{first_words}
use Rattle.core_machine.specs.Laws.{shape_for}
use Rattle.core_machine.proofs.Accounts.{owns_count}
use Rattle.core_machine.proofs.Making.{made_reached, made_stored}
use Rattle.core_machine.proofs.machine.Machine.new.Goals as goal

pub invariant_of-result : goal.invariant_of-result
invariant_of-result c =
    let room = c.in_ok-updates.ensures.capacity in
    let ops = c.ops.ensures.count in
    let few : 4 * op_count c.args.scripts.now < vec_capacity c.in_ok-updates.updates = omega (arith, room, ops) in
    made_reached c.args.scripts.now c.args.slots c.requires.slots.0 c.requires.slots.1 c.requires.scripts
    (subst (λ n. n ≤ 64) c.count.ensures.count c.count.ensures.limit)
    (subst (λ n. n ≤ 1048576) ops c.ops.ensures.limit) c.count.ensures.fits
    c.in_ok-words.words.items c.in_ok-callers.callers.items c.in_ok-updates.updates.items
    (c.in_ok-words.ensures ∙ ap (λ (n : ℕ). first_words
    (shape_for c.args.slots n)) c.count.ensures.count) c.in_ok-callers.ensures.owns c.in_ok-updates.ensures.items
    c.in_ok-callers.ensures.nowhere
    (vec_capacity c.in_ok-updates.updates) few c.in_ok-callers.ensures.rooms

pub returns-clause-made : goal.returns-clause-made
returns-clause-made c = record {
  some_slot = c.requires.slots.0;
  few_slots = c.requires.slots.1;
  some_script = c.requires.scripts;
  few_scripts = subst (λ n. n ≤ 64) c.count.ensures.count c.count.ensures.limit;
  few_ops = subst (λ n. n ≤ 1048576) c.ops.ensures.count c.ops.ensures.limit;
  fit = c.count.ensures.fits;
}

pub returns-clause-stored : goal.returns-clause-stored
returns-clause-stored c =
    made_stored c.args.scripts.now c.args.slots c.requires.slots.0 c.requires.slots.1 c.requires.scripts
    (subst (λ n. n ≤ 64) c.count.ensures.count c.count.ensures.limit)
    (subst (λ n. n ≤ 1048576) c.ops.ensures.count c.ops.ensures.limit) c.count.ensures.fits
    c.in_ok-words.words.items c.in_ok-callers.callers.items c.in_ok-updates.updates.items
    (c.in_ok-words.ensures ∙ ap (λ (n : ℕ). first_words
    (shape_for c.args.slots n)) c.count.ensures.count) c.in_ok-callers.ensures.owns c.in_ok-updates.ensures.items
    c.in_ok-callers.ensures.nowhere

pub returns-clause-count : goal.returns-clause-count
returns-clause-count c = ap length c.in_ok-callers.ensures.owns
    ∙ owns_count (shape_for c.args.slots (length c.args.scripts.now)) 0 c.args.scripts.now
