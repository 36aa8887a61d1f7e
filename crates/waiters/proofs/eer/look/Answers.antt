use Rattle.std.proofs.Common.{arith, inl, inr, true, refl, ◌≡◌, ◌≤◌, [], ◌++◌}
use Rattle.core_state.specs.Steps.{excuses}
use Rattle.core_state.specs.declared.words.Kind.TheVariants.{K8}
use Rattle.core_state.specs.declared.words.Field.TheVariants.{Announced, Stamp}
use Rattle.seat_table.specs.Seats.{shape_of}
use Rattle.seat_table.proofs.Waiting.{step_of, looks_on, passes_on, not_so, stamp_idle, stamp_late, stamp_stays, load_passes, load_stays, looks_then, finds_clear, finds_here}
use Rattle.seat_table.specs.Looks.{IsLate}
use Rattle.seat_table.specs.Looks.IsClear.{outside, late}
use Rattle.waiters.proofs.EerPlaces.{may_look, key_excuses, key_stays, key_passes, key_looked, stamp_looked, key_made, place_made}
use Rattle.waiters.proofs.eer.look.Goals.{then-stamp-via-then-stamp, then-stamp-via-else-stamp+then-grace-stamp}
use Rattle.waiters.proofs.eer.look.Goals as goal

pub look_key-key-requires-clause-asks : goal.look_key-key-requires-clause-asks
look_key-key-requires-clause-asks c = λ told. (
  (refl, c.requires.inside),
  may_look (shape_of 0 c.args.table.now) refl c.args.grace.now _ (Announced c.args.grace.now.place) refl c.args.last c.requires.end
      c.requires.latest,
)

pub returns-then-not-holds-clause-passed : goal.returns-then-not-holds-clause-passed
returns-then-not-holds-clause-passed c =
    let latest = c.requires.latest in
    let r = latest.2 in
    let place = c.args.grace.now.place in
    let key = c.look_key-key.result in
    let told = c.look_key-key.ensures.told in
    let out = key_excuses latest.0 c.args.grace.now.keys key r.low_is r.high_is place
    (not_so c.holds.result c.holds.ensures.1 c.if-not-holds.true) in (
      latest.0,
      step_of K8 (Announced place) key,
      latest.1,
      key_passes _ _ latest.0 place _ c.args.last (load_passes _ _ K8
          (Announced place) latest.0 key c.args.last told.marks latest.1 told.sees told.goes told.informed refl out),
    )

pub look_stamp-stamp-requires-clause-asks : goal.look_stamp-stamp-requires-clause-asks
look_stamp-stamp-requires-clause-asks c =
    let latest = c.requires.latest in
    let r = latest.2 in
    let place = c.args.grace.now.place in
    let key = c.look_key-key.result in
    let told = c.look_key-key.ensures.told in
    let inside = key_stays latest.0 c.args.grace.now.keys key r.low_is r.high_is place (c.holds.ensures.0 c.if-not-holds.false) in
    let stays = load_stays _ _ K8 (Announced place) latest.0 key c.args.last told.marks latest.1 told.sees told.goes told.informed inside in
    λ now. (
      (refl, c.requires.inside),
      may_look (shape_of 0 c.args.table.now) refl c.args.grace.now _ (Stamp place) refl c.args.last c.requires.end
          (latest.0, stays.wait_is, r),
    )

pub returns-then-stamp-clause-passed : goal.returns-then-stamp-clause-passed
returns-then-stamp-clause-passed c =
    let latest = c.requires.latest in
    let r = latest.2 in
    let place = c.args.grace.now.place in
    let key = c.look_key-key.result in
    let stamp = c.look_stamp-stamp.result in
    let first = c.look_key-key.ensures.told in
    let second = c.look_stamp-stamp.ensures.told in
    let inside = key_stays latest.0 c.args.grace.now.keys key r.low_is r.high_is place (c.holds.ensures.0 c.if-not-holds.false) in
    let stays = load_stays _ _ K8
    (Announced place) latest.0 key c.args.last first.marks latest.1 first.sees first.goes first.informed inside in
    let excused = elim c.then-stamp.branch as (λ _. excuses latest.0 (Stamp c.args.grace.now.place) c.look_stamp-stamp.result ≡ true) [
      | then-stamp-via-then-stamp w ↦ stamp_idle latest.0.clock stamp w.if-stamp.true
      | then-stamp-via-else-stamp+then-grace-stamp w ↦ stamp_late latest.0.clock stamp (omega (arith, w.if-grace-stamp.true, r.clock_is))
    ] in (
      latest.0,
      step_of K8 (Announced place) key ++ step_of K8 (Stamp place) stamp,
      latest.1,
      passes_on _ _ _ latest.0 _ _ c.args.last (Stamp place) stays
          (load_passes _ _ K8
          (Stamp place) latest.0 stamp c.args.last second.marks stays.wait_is second.sees second.goes second.informed refl excused),
    )

pub returns-clause-met : goal.returns-clause-met
returns-clause-met c =
    let latest = c.requires.latest in
    let r = latest.2 in
    let place = c.args.grace.now.place in
    let key = c.look_key-key.result in
    let stamp = c.look_stamp-stamp.result in
    let first = c.look_key-key.ensures.told in
    let second = c.look_stamp-stamp.ensures.told in
    let inside = c.holds.ensures.0 c.if-not-holds.false in
    let stays = load_stays _ _ K8 (Announced place) latest.0 key c.args.last first.marks latest.1 first.sees first.goes first.informed
    (key_stays latest.0 c.args.grace.now.keys key r.low_is r.high_is place inside) in
    let early : c.look_stamp-stamp.result ≤ latest.0.clock = omega (arith, c.if-grace-stamp.false, r.clock_is) in
    let again = load_stays _ _ K8
    (Stamp place) latest.0 stamp c.args.last second.marks stays.wait_is second.sees second.goes second.informed
    (stamp_stays latest.0.clock stamp c.if-stamp.false early) in (
      latest.0,
      step_of K8 (Announced place) key ++ step_of K8 (Stamp place) stamp,
      latest.1,
      looks_on _ _ _ latest.0 latest.0 latest.0 _ _ stays again,
      (([], refl), (omega (arith, inside.0, r.low_is), omega (arith, inside.1, r.high_is)), c.if-stamp.false, early),
    )

pub returns-then-stamp-clause-spot : goal.returns-then-stamp-clause-spot
returns-then-stamp-clause-spot c = looks_then (λ field. field ≡ Stamp c.args.grace.now.place) _ _ _ (key_looked c.look_key-key.ensures.told)
    (stamp_looked c.look_stamp-stamp.ensures.told)

pub returns-clause-spot : goal.returns-clause-spot
returns-clause-spot c = looks_then (λ field. field ≡ Stamp c.args.grace.now.place) _ _ _ (key_looked c.look_key-key.ensures.told)
    (stamp_looked c.look_stamp-stamp.ensures.told)

pub returns-then-not-holds-clause-spot : goal.returns-then-not-holds-clause-spot
returns-then-not-holds-clause-spot c = key_looked c.look_key-key.ensures.told

pub returns-then-not-holds-clause-clear : goal.returns-then-not-holds-clause-clear
returns-then-not-holds-clause-clear c = finds_clear (key_made c.look_key-key.ensures.told)
    (outside c.args.grace.now.place c.look_key-key.result (not_so c.holds.result c.holds.ensures.1 c.if-not-holds.true))

pub returns-then-stamp-clause-clear : goal.returns-then-stamp-clause-clear
returns-then-stamp-clause-clear c =
    let key = c.look_key-key.result in
    let stamp = c.look_stamp-stamp.result in
    let is_late = elim c.then-stamp.branch as (λ _. IsLate c.args.grace.now.clock c.look_stamp-stamp.result) [
      | then-stamp-via-then-stamp w ↦ inl w.if-stamp.true
      | then-stamp-via-else-stamp+then-grace-stamp w ↦ inr w.if-grace-stamp.true
    ] in
    finds_clear (place_made c.look_key-key.ensures.told c.look_stamp-stamp.ensures.told)
    (late c.args.grace.now.place key stamp (c.holds.ensures.0 c.if-not-holds.false) is_late)

pub returns-clause-once : goal.returns-clause-once
returns-clause-once c = finds_here (place_made c.look_key-key.ensures.told c.look_stamp-stamp.ensures.told)
