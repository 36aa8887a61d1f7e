-- A wait of the first waiter goes from place to place.
use Rattle.std.proofs.Common.{◌≡◌, ℕ, suc, ◌+◌, ◌≤◌, Bool, true, false, List, ◌∷◌, ◌++◌, refl, sym, subst, ◌∙◌, arith}
use Rattle.std.proofs.lemmas.Bool.{not_from_true, not_from_false}
use mathlib.Core.Logic.{dite}
use native.Mathlib.Decide.{ℕ_discrete}
use Rattle.core_state.specs.declared.shape.Shape.{Shape}
use Rattle.core_state.specs.declared.shape.Waiter.TheVariants.{Eer, Domain, Deer}
use Rattle.core_state.specs.declared.words.Field.{Field}
use Rattle.core_state.specs.declared.words.Field.TheVariants.{Announced, Stamp, Count, Row}
use Rattle.core_state.specs.declared.view.StepMade.{StepMade}
use Rattle.core_state.specs.declared.view.Waiting.{Waiting}
use Rattle.core_state.specs.declared.view.View.{View}
use Rattle.core_state.specs.Steps.{IsSpot, is_for, spot_seen, excuses}
use Rattle.key_interval.specs.Keys.{Interval, Holds}
use Rattle.list_laws.specs.Counts.{IsIn}
use Rattle.seat_table.specs.declared.wait.Grace.{Grace}
use Rattle.core_state.specs.Acts.{MayLook, wait_of}
use Rattle.seat_table.specs.Waits.{Reached, reached, IsBefore, HasReached, Made, Passed, IsLatestOf, IsGoingOn}
use Rattle.seat_table.specs.Looks.{HasPassed, LooksAt, IsOnward, one_step}
use Rattle.seat_table.specs.Gains.{Told}
use Rattle.core_state.specs.declared.act.Act.TheVariants.{LookKey, LookStamp}
use Rattle.core_state.specs.declared.words.Kind.TheVariants.{K8}
use Rattle.seat_table.proofs.Waiting.{made_then, look_trail, looks_then, looks_as, look_at, key_in, key_out, goes_on, begins_on}
use Rattle.core_laws.proofs.Acting.{may_look as looks}

-- a key, as a wait tests it
module _ (wait : Waiting) (keys : Interval) (key : ℕ) (low : wait.low ≡ keys.low) (high : wait.high ≡ keys.high) where
  pub key_excuses : (place : ℕ) → (Holds keys key → ⊥) → excuses wait (Announced place) key ≡ true
  key_excuses place out = not_from_false (is_for wait key) (key_out wait keys key low high out)

  pub key_stays : (place : ℕ) → Holds keys key → excuses wait (Announced place) key ≡ false
  key_stays place inside = not_from_true (is_for wait key) (key_in wait keys key low high inside)

pub not_domain : Eer ≡ Domain → ⊥
not_domain e = cc

abbrev pub at_place : {W : Type 0} → Grace W → ℕ → Grace W
at_place grace place = record grace { place = place }

module _ {W : Type 0} (k : Shape) (eer : k.waiter ≡ Eer) (grace : Grace W) where
  -- A spot of this waiter is a stamp, and with the word at this place all up to it are excused.
  up_to : (wait : Waiting) → HasReached k grace.keys grace.clock (reached grace) wait → (field : Field) → IsSpot k wait field
      → ((q : ℕ) → field ≡ Stamp q → q ≤ grace.place) → IsIn (Stamp grace.place ∷ wait.excused) field
  up_to wait r (Stamp q) spot less = dite (ℕ_discrete q grace.place)
      (λ same. subst (λ z. IsIn (Stamp z ∷ wait.excused) (Stamp q)) same (0, refl))
      (λ ne. let e = r.excused (Stamp q) spot (omega (arith, less q refl, ne)) in (suc e.0, e.1))
  up_to wait r (Count c side) spot less = absurd (let e : Eer ≡ Domain = sym eer ∙ spot.0 in cc)
  up_to wait r (Row p c) spot less = absurd (let e : Eer ≡ Deer = sym eer ∙ spot.0 in cc)
  up_to wait r _ spot less = absurd spot

  before_excused : (wait : Waiting) → HasReached k grace.keys grace.clock (reached grace) wait → (place : ℕ) → place ≤ grace.place
      → (field : Field) → IsSpot k wait field → IsBefore (reached (at_place grace place)) field → IsIn wait.excused field
  before_excused wait r place less (Stamp q) spot before = r.excused (Stamp q) spot (omega (arith, before, less))
  before_excused wait r place less (Count c side) spot before = absurd (let e : Eer ≡ Domain = sym eer ∙ spot.0 in cc)
  before_excused wait r place less (Row p c) spot before = absurd (let e : Eer ≡ Deer = sym eer ∙ spot.0 in cc)
  before_excused wait r place less _ spot before = absurd spot

  -- the key or the stamp may be looked at
  pub may_look : (v : View) (field : Field) → spot_seen field ≡ Stamp grace.place → (last : Bool)
      → (last ≡ true → grace.place + 1 ≡ k.places) → IsLatestOf k grace v → MayLook k v (wait_of v) field last
  may_look v field here last end latest = looks k v latest.1 latest.2.going
      (λ is other spot. subst (λ f. IsIn (f ∷ latest.0.excused) other) (sym here)
      (up_to latest.0 latest.2 other spot (at other spot (end is))))
    where
      at : (other : Field) → IsSpot k latest.0 other → grace.place + 1 ≡ k.places → (q : ℕ) → other ≡ Stamp q → q ≤ grace.place
      at other spot ends q is = let s = subst (IsSpot k latest.0) is spot in omega (arith, s.1, ends)

  -- The wait has come as far as any place before.
  pub comes_from : (v : View) (place : ℕ) → place ≤ grace.place → IsLatestOf k grace v → IsGoingOn k v (at_place grace place) v
  comes_from v place less latest =
      let r = latest.2 in
      begins_on k v (at_place grace place) (
        latest.0,
        latest.1,
        record {
          going = r.going;
          low_is = r.low_is;
          high_is = r.high_is;
          clock_is = r.clock_is;
          inside = omega (arith, less, r.inside);
          small = r.small;
          excused = before_excused latest.0 r place less;
          met = r.met;
          turned = r.turned;
          once = r.once;
        },
      )

  next_excused : (wait : Waiting) → HasReached k grace.keys grace.clock (reached grace) wait → (field : Field) → IsSpot k wait field
      → IsBefore (reached (at_place grace (grace.place + 1))) field → IsIn (Stamp grace.place ∷ wait.excused) field
  next_excused wait r field spot before = up_to wait r field spot
      (λ q is. let b = subst (IsBefore (reached (at_place grace (grace.place + 1)))) is before in omega (arith, b))

  -- and then the wait is at the next place
  pub next_place : (v u w : View) → IsGoingOn k v grace u → HasPassed u false (Stamp grace.place) w → grace.place + 2 ≤ k.places
      → IsGoingOn k v (at_place grace (grace.place + 1)) w
  next_place v u w come passed less =
      let r = come.reaches in
      goes_on k v u w grace come (at_place grace (grace.place + 1)) (Stamp grace.place) passed (record {
        going = r.going;
        low_is = r.low_is;
        high_is = r.high_is;
        clock_is = r.clock_is;
        inside = omega (arith, less);
        small = r.small;
        excused = next_excused come.new r;
        met = r.met;
        turned = r.turned;
        once = r.once;
      })

-- At a key that excuses, its stamp is passed.
pub key_passes : (v w : View) (wait : Waiting) (place : ℕ) (steps : List StepMade) (last : Bool)
    → Passed v wait last steps (Announced place) w → Passed v wait last steps (Stamp place) w
key_passes v w wait place steps true p = p
key_passes v w wait place steps false p = p

-- a look at a place, by where it looks
module _ {k : Shape} {v w : View} {place found : ℕ} {last : Bool} where
  pub key_looked : Told k v (LookKey place last) found w → LooksAt (λ field. field ≡ Stamp place) v w
  key_looked told = look_at (λ field. field ≡ Stamp place) v w K8 (Announced place) found last told.marks told.goes refl

  pub key_made : Told k v (LookKey place last) found w → Made v (one_step K8 (Announced place) found) w
  key_made told = look_trail v w K8 (Announced place) found last told.marks told.goes

  pub stamp_looked : Told k v (LookStamp place last) found w → LooksAt (λ field. field ≡ Stamp place) v w
  stamp_looked told = look_at (λ field. field ≡ Stamp place) v w K8 (Stamp place) found last told.marks told.goes refl

-- a key and then its stamp
pub place_made : {k : Shape} {u v w : View} {place key stamp : ℕ} {last : Bool} → Told k u (LookKey place last) key v
    → Told k v (LookStamp place last) stamp w → Made u (one_step K8 (Announced place) key ++ one_step K8 (Stamp place) stamp) w
place_made {k} {u} {v} {w} {place} {key} {stamp} {last} first second =
    made_then u v w (one_step K8 (Announced place) key) (one_step K8 (Stamp place) stamp) (key_made first)
    (look_trail v w K8 (Stamp place) stamp last second.marks second.goes)

-- and after looks at no place before
pub looked_place : (r : Reached) (place : ℕ) {u v w : View} → r.place ≤ place → LooksAt (IsOnward r) u v
    → LooksAt (λ field. field ≡ Stamp place) v w → LooksAt (IsOnward r) u w
looked_place r place {u} {v} {w} less a b = looks_then (IsOnward r) u v w a
    (looks_as (λ field. field ≡ Stamp place) (IsOnward r)
    (λ field is. subst (IsOnward r) (sym is) (λ before. omega (arith, before, less))) v w b)
