use Rattle.std.proofs.Common.{◌≡◌, ◌-◌, ◌<◌, Some, length, take, get_or, ◌↔◌, Decides, ap, sym, ◌∙◌, arith, rules}
use Rattle.std.specs.List.{slice_get}
use Rattle.std.proofs.lemmas.Bool.{false≢true}
use Rattle.std.proofs.lemmas.Bool.Decides.{Decides-eqb}
use Rattle.std.proofs.lemmas.Grind.{get_or_default_zero}
use Rattle.prcu_model.specs.declared.operation.Update.{Update}
use Rattle.prcu_model.specs.Fronts.{own_updates}
use Rattle.account_text.specs.Judging.{own_count}
use Rattle.account_text.proofs.JudgedScripts.{no_update, own-is, own-bounds}
use Rattle.account_text.proofs.turns.Turns.is_update.Goals as goal
use Rattle.account_text.proofs.turns.Turns.is_update.Goals.{After-eq, then-position-eq0-via-then-position-eq0, then-position-eq0-via-else-position-eq0+then-position-self}

pub returns-then-position-eq0 : goal.returns-then-position-eq0
returns-then-position-eq0 c =
    let t = c.self.inside in
    rw (← c.self.view_is) (
      λ e. absurd (false≢true e),
      λ is.
          let bounds = own-bounds t.history.now c.args.caller c.args.position c.args.turn c.args.op is in
          elim c.then-position-eq0.branch [
            | then-position-eq0-via-then-position-eq0 w ↦ absurd (omega (arith, bounds, w.if-position-eq0.true))
            | then-position-eq0-via-else-position-eq0+then-position-self w ↦ absurd (omega (arith, bounds, w.if-position-self.true))
          ],
    )

abbrev IsSame : After-eq → Type 0
IsSame c = Decides c.eq.result (get_or c.self.inside.history.now (c.args.position - 1) no_update
    ≡ record { caller = c.args.caller; op = c.args.op })

same : (c : After-eq) → IsSame c
same c = search rules

at_place : (c : After-eq) → ((get_or c.self.inside.history.now (c.args.position - 1) no_update).caller ≡ c.args.caller)
    × ((get_or c.self.inside.history.now (c.args.position - 1) no_update).op ≡ c.args.op)
    × (own_count c.args.caller (take (c.args.position - 1) c.self.inside.history.now) ≡ c.args.turn)
    ↔ (slice_get (own_updates c.args.caller c.self.inside.history.now) c.args.turn
    ≡ Some (record { position = c.args.position; op = c.args.op }))
at_place c =
    own-is c.self.inside.history.now c.args.caller c.args.position c.args.turn c.args.op (c.args.position - 1) no_update
    (omega (arith, c.if-position-eq0.false)) (omega (arith, c.if-position-eq0.false, c.if-position-self.false))

pub returns-then-eq : goal.returns-then-eq
returns-then-eq c =
    let t = c.self.inside in
    let i = c.args.position - 1 in
    let at = (goal.at.returns-then-eq c).After-eq in
    let there : i < length t.history.now = omega (arith, c.if-position-eq0.false, c.if-position-self.false) in
    let update = (same at).0 c.if-eq.true in
    let place = at_place at in
    let turn : c.index.result.now ≡ own_count c.args.caller (take i t.history.now) =
    c.index.ensures ∙ get_or_default_zero t.turns.items i c.index.result.now (omega (arith, there, c.self.invariant.all))
    ∙ c.self.invariant.turn i no_update there ∙ ap (λ (u : Update). own_count u.caller (take i t.history.now)) update in
    let test = Decides-eqb c.index.result.now c.args.turn in
    rw (← c.self.view_is) (
      λ e. place.0 (ap (λ u. u.caller) update, ap (λ u. u.op) update, sym turn ∙ test.0 e),
      λ is. test.1 (turn ∙ (place.1 is).2),
    )

pub returns-else-eq : goal.returns-else-eq
returns-else-eq c =
    let at = (goal.at.returns-else-eq c).After-eq in
    rw (← c.self.view_is) (
      λ e. absurd (false≢true (sym c.if-eq.false ∙ e)),
      λ is. let place = (at_place at).1 is in (same at).1 (λ k. record { caller = place.0 k; op = place.1 k }),
    )
