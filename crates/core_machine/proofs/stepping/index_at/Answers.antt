use Rattle.std.proofs.Common.{refl, arith}
use Rattle.core_state.specs.declared.shape.Shape.{Shape}
use Rattle.core_state.specs.declared.shape.Waiter.TheVariants.{Eer}
use Rattle.core_machine.proofs.stepping.index_at.Goals as goal

pub index_of-requires : goal.index_of-requires
index_of-requires c =
    let k : Shape = record { waiter = Eer; slots = c.args.slots; places = c.args.places; room = 16; tickets = 0 } in
    let rows = c.rows_of.ensures.rows k refl refl in
    let locks = rows.locks in
    let states = rows.states in
    let waiter = rows.waiter in
    record { few = (omega (arith, locks, waiter), omega (arith, states, waiter), c.rows_of.ensures.few.0) }
