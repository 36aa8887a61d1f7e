use Rattle.std.proofs.Common.{◌≡◌, ◌<◌, ◌≤◌, ⊎_elim, true, [], refl, arith}
use Rattle.core_state.specs.Memory.{idle}
use Rattle.core_state.specs.Steps.{excuses}
use Rattle.core_state.specs.declared.words.Field.TheVariants.{Row}
use Rattle.core_state.specs.declared.words.Kind.TheVariants.{K35}
use Rattle.seat_table.specs.Seats.{shape_of}
use Rattle.seat_table.proofs.Waiting.{step_of, stamp_idle, stamp_late, stamp_stays, load_passes, load_stays, finds_clear, finds_here}
use Rattle.waiters.proofs.DeerRows.{may_look, image_of, row_made}
use Rattle.seat_table.specs.Looks.IsClear.{row}
use Rattle.waiters.proofs.deer.look.Goals as goal

pub look_row-stamp-requires-clause-asks : goal.look_row-stamp-requires-clause-asks
look_row-stamp-requires-clause-asks c = λ told. (
  (refl, c.requires.inside, c.requires.latest.2.small),
  may_look (shape_of 2 c.args.table.now) refl c.args.grace.now _ c.args.last c.requires.end c.requires.latest,
)

pub returns-then-not-is_early-clause-passed : goal.returns-then-not-is_early-clause-passed
returns-then-not-is_early-clause-passed c =
    let latest = c.requires.latest in
    let field = Row c.args.grace.now.place c.args.grace.now.class in
    let found = c.look_row-stamp.result in
    let told = c.look_row-stamp.ensures.told in
    let excused : excuses latest.0 field found ≡ true = ⊎_elim
    (λ (e : found ≡ idle). stamp_idle latest.0.clock found e)
    (λ (l : c.args.grace.now.clock < found). stamp_late latest.0.clock found (omega (arith, l, latest.2.clock_is)))
    (c.is_early.ensures.late c.if-not-is_early.true) in (
      latest.0,
      step_of K35 field found,
      latest.1,
      load_passes _ _ K35 field latest.0 found c.args.last told.marks latest.1 told.sees told.goes told.informed refl excused,
    )

pub returns-clause-met : goal.returns-clause-met
returns-clause-met c =
    let latest = c.requires.latest in
    let r = latest.2 in
    let field = Row c.args.grace.now.place c.args.grace.now.class in
    let found = c.look_row-stamp.result in
    let told = c.look_row-stamp.ensures.told in
    let is = c.is_early.ensures.early c.if-not-is_early.false in
    let early : found ≤ latest.0.clock = omega (arith, is.1, r.clock_is) in (
      latest.0,
      step_of K35 field found,
      latest.1,
      load_stays _ _ K35 field latest.0 found c.args.last told.marks latest.1 told.sees told.goes told.informed
          (stamp_stays latest.0.clock found is.0 early),
      (([], refl), is.0, early, image_of latest.0 c.args.grace.now.keys r.low_is r.high_is c.args.grace.now.class c.requires.met),
    )

pub returns-then-not-is_early-clause-clear : goal.returns-then-not-is_early-clause-clear
returns-then-not-is_early-clause-clear c = finds_clear (row_made c.look_row-stamp.ensures.told)
    (row c.args.grace.now.place c.args.grace.now.class c.look_row-stamp.result (c.is_early.ensures.late c.if-not-is_early.true))

pub returns-clause-once : goal.returns-clause-once
returns-clause-once c = finds_here (row_made c.look_row-stamp.ensures.told)
