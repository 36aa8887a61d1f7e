use Rattle.std.proofs.Common.{◌≡◌, ◌≤◌, Option, Some, None, IfNone, length, sym, subst, ◌∙◌}
use Rattle.std.specs.FinMap as map
use Rattle.std.proofs.lemmas.Bool.{false≢true}
use Rattle.std.proofs.lemmas.Option.{IfSome_then}
use Rattle.prcu_model.specs.Dictionary.{map_at}
use Rattle.account_text.specs.Judging.{IsShown}
use Rattle.account_text.proofs.Changes.{AreSplit, are_split, IsOrdered-later, value-until, none_shown, first-above, first-within, first-shown, first-least}
use Rattle.account_text.proofs.timeline.Timeline.least_shown.Goals as goal
use Rattle.account_text.proofs.timeline.Timeline.least_shown.Goals.{After-last_value, Else-is_shown}

IfNone_then : {T : Type 0} (r : Option T) (P Q : Type 0) → (P → Q) → IfNone r P → IfNone r Q
IfNone_then None P Q f p = f p
IfNone_then (Some x) P Q f p = p

split : (c : After-last_value)
    → AreSplit c.self.inside.history.now c.split_changes.result.0.now c.split_changes.result.1.now c.key_of-key.result c.args.before
split c =
    let t = c.self.inside in
    let fits : c.args.before ≤ length t.history.now = rw (← c.self.view_is) at c.requires in
    are_split t.history.now t.sizes.items t.changes c.near.result.now c.split_changes.result.0.now c.split_changes.result.1.now
    c.key_of-key.result c.args.before c.self.invariant.0 c.near.ensures.cut c.near.ensures.ordered c.split_changes.ensures.parts
    c.split_changes.ensures.until c.split_changes.ensures.later fits

value-now : (c : After-last_value) → c.last_value.result ≡ map.get (map_at c.self.inside.history.now c.args.before) c.key_of-key.result
value-now c =
    c.last_value.ensures
    ∙ value-until c.self.inside.history.now c.split_changes.result.0.now c.split_changes.result.1.now c.key_of-key.result c.args.before
    (split c)

pub returns-then-is_shown-clause-shown : goal.returns-then-is_shown-clause-shown
returns-then-is_shown-clause-shown c =
    let value = value-now (goal.at.returns-then-is_shown-clause-shown c).After-last_value in
    rw (← c.self.view_is, ← c.key_of-key.ensures) (subst (IsShown c.args.op c.args.reply) value (c.is_shown.ensures.0 c.if-is_shown.true))

pub first_shown-requires-clause-ordered : goal.first_shown-requires-clause-ordered
first_shown-requires-clause-ordered c =
    let is = split (goal.at.first_shown-requires-clause-ordered c).After-last_value in
    IsOrdered-later c.split_changes.result.0.now c.split_changes.result.1.now is.ordered

not_now : (c : Else-is_shown) → c.last_value.result ≡ map.get (map_at c.self.inside.history.now c.args.before) c.key_of-key.result
    → IsShown c.args.op c.args.reply (map.get (map_at c.self.inside.history.now c.args.before) c.key_of-key.result) → ⊥
not_now c value shown = false≢true (sym c.if-is_shown.false
    ∙ c.is_shown.ensures.1 (subst (IsShown c.args.op c.args.reply) (sym value) shown))

pub returns-clause-none : goal.returns-clause-none
returns-clause-none c =
    let at = goal.at.returns-clause-none c in
    rw (← c.self.view_is, ← c.key_of-key.ensures) (IfNone_then c.first_shown.result _ _ (λ none.
    none_shown c.self.inside.history.now c.split_changes.result.0.now c.split_changes.result.1.now c.key_of-key.result c.args.before
    (split at.After-last_value) c.args.op c.args.reply
    (not_now at.Else-is_shown (value-now at.After-last_value)) none) c.first_shown.ensures.none)

pub returns-clause-above : goal.returns-clause-above
returns-clause-above c =
    let at = goal.at.returns-clause-above c in
    IfSome_then c.first_shown.result c.first_shown.ensures.first (λ position first.
    first-above c.self.inside.history.now c.split_changes.result.0.now c.split_changes.result.1.now c.key_of-key.result c.args.before
    (split at.After-last_value) c.args.op c.args.reply (not_now at.Else-is_shown (value-now at.After-last_value)) position first)

pub returns-clause-within : goal.returns-clause-within
returns-clause-within c =
    let at = goal.at.returns-clause-within c in
    rw (← c.self.view_is) (IfSome_then c.first_shown.result c.first_shown.ensures.first (λ position first.
    first-within c.self.inside.history.now c.split_changes.result.0.now c.split_changes.result.1.now c.key_of-key.result c.args.before
    (split at.After-last_value) c.args.op c.args.reply (not_now at.Else-is_shown (value-now at.After-last_value)) position first))

pub returns-clause-shown : goal.returns-clause-shown
returns-clause-shown c =
    let at = goal.at.returns-clause-shown c in
    rw (← c.self.view_is, ← c.key_of-key.ensures) (IfSome_then c.first_shown.result c.first_shown.ensures.first (λ position first.
    first-shown c.self.inside.history.now c.split_changes.result.0.now c.split_changes.result.1.now c.key_of-key.result c.args.before
    (split at.After-last_value) c.args.op c.args.reply (not_now at.Else-is_shown (value-now at.After-last_value)) position first))

pub returns-clause-least : goal.returns-clause-least
returns-clause-least c =
    let at = goal.at.returns-clause-least c in
    rw (← c.self.view_is, ← c.key_of-key.ensures) (IfSome_then c.first_shown.result c.first_shown.ensures.first (λ position first.
    first-least c.self.inside.history.now c.split_changes.result.0.now c.split_changes.result.1.now c.key_of-key.result c.args.before
    (split at.After-last_value) c.args.op c.args.reply (not_now at.Else-is_shown (value-now at.After-last_value)) position first))
