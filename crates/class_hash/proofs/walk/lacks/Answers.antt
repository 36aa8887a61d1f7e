use Rattle.std.proofs.Common.{◌≡◌, ◌∙◌, ap, ℕ, Bool, true, List, Option, Some, None, IfNone, IfSome, is_some, not}
use Rattle.hash_core.specs.declared.view.Hold.{Hold}
use Rattle.hash_core.specs.declared.view.View.{View}
use Rattle.hash_core.specs.Steps.{ShowsAbsent}
use Rattle.class_hash.specs.declared.walk.Place.{Place}
use Rattle.class_hash.specs.Calls.{HasLoaded, WalksPast, WalksTo}
use Rattle.class_hash.proofs.walk.lacks.Goals as goal

walked : (capacities : List ℕ) (v w : View) (key : ℕ) (hold : Hold) → v.hold ≡ Some hold → (answer : Option Place) (lacks : Bool)
    → is_some answer ≡ not lacks → IfNone answer ((h : Hold) → v.hold ≡ Some h → WalksPast key v h w)
    → IfSome answer (λ place. (h : Hold) → v.hold ≡ Some h → WalksTo capacities key v h place.previous place.slot w)
    → (new : Hold) × HasLoaded v hold w new × (lacks ≡ true → ShowsAbsent new key)
walked capacities v w key hold was None lacks is absent found = let a = absent hold was in (a.new, a.loaded, λ _. a.absent)
walked capacities v w key hold was (Some place) lacks is absent found = let f = found hold was in
    (f.new, f.loaded, λ yes. let no : true ≡ not true = is ∙ ap not yes in absurd (cc))

pub returns-clause-walked : goal.returns-clause-walked
returns-clause-walked g c hold was =
    walked c.args.table.now.capacities c.args.seat.now.view c.walk_locked.new.seat.view c.args.key hold was c.walk_locked.result
    c.is_none.result c.is_none.ensures c.walk_locked.ensures.absent c.walk_locked.ensures.found
