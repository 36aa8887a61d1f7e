-- Waits of the third waiter: the classes of their keys, and their looks from row to row.
use Rattle.std.proofs.Common.{◌+◌, ◌-◌, ◌%◌, ◌<◌, ◌≤◌, inr, arith, ◌≡◌, ℕ, ◌⊎◌, inl, ⊎_elim, Bool, refl, sym, subst, ◌∙◌, suc, ◌*◌, true, false, List, ◌∷◌}
use Rattle.key_interval.specs.Keys.{Interval, IsLastClass, MeetsClass}
use Rattle.key_interval.proofs.Classes.{steps_to, class_at_steps}
use Rattle.waiters.specs.Classes.{IsImage, IsRowFrom, HasSkipped}
use Rattle.core_state.specs.declared.shape.Shape.{Shape}
use Rattle.core_state.specs.declared.words.Field.{Field}
use Rattle.core_state.specs.declared.words.Field.TheVariants.{Row, Stamp, Count}
use Rattle.core_state.specs.declared.words.Kind.TheVariants.{K35}
use Rattle.core_state.specs.declared.view.View.{View}
use Rattle.core_state.specs.declared.act.Act.TheVariants.{LookRow}
use Rattle.seat_table.specs.Looks.{LooksAt, IsOnward, IsWithin, one_step, HasPassed}
use Rattle.seat_table.specs.Gains.{Told}
use Rattle.seat_table.specs.declared.wait.Grace.{Grace}
use Rattle.seat_table.specs.Waits.{Reached, reached, Made, IsBefore, HasReached, IsLatestOf, IsGoingOn}
use Rattle.seat_table.proofs.Waiting.{look_trail, looks_then, looks_as, within_last, goes_on}
use mathlib.Core.Logic.{dite}
use native.Mathlib.Decide.{ℕ_discrete}
use Rattle.core_state.specs.declared.shape.Waiter.TheVariants.{Eer, Domain, Deer}
use Rattle.core_state.specs.declared.view.Waiting.{Waiting}
use Rattle.core_state.specs.Steps.{IsSpot, keys_of}
use Rattle.list_laws.specs.Counts.{IsIn}
use Rattle.core_state.specs.Acts.{MayLook, wait_of}
use Rattle.waiters.specs.declared.image.Image.{Image}
use Rattle.core_laws.proofs.Acting.{may_look as looks}

-- The classes of an interval's keys, by how the interval lies.

-- 64 keys or more have every class.
pub every_class : (keys : Interval) → keys.low ≤ keys.high → 63 ≤ keys.high - keys.low
    → IsImage keys (record { below = 0; from = 0; last = 63 })
every_class keys ordered many = record {
  first = λ c less. absurd (omega (arith, less));
  second = λ c least most. (
    keys.low + steps_to keys.low c,
    (omega arith, omega (arith, many)),
    class_at_steps keys.low c (omega (arith, most)),
  );
  only = λ c fits met. inr (omega arith, omega (arith, fits));
  apart = omega arith;
  filled = omega arith;
  small = omega arith;
}

-- Fewer keys have the classes from the least key's to the greatest one's,
pub one_run : (keys : Interval) → keys.low ≤ keys.high → keys.high - keys.low < 63 → keys.low % 64 ≤ keys.high % 64
    → IsImage keys (record { below = 0; from = keys.low % 64; last = keys.high % 64 })
one_run keys ordered few rising = record {
  first = λ c less. absurd (omega (arith, less));
  second = λ c least most. (
    keys.low - keys.low % 64 + c,
    (omega (arith, least), omega (arith, most, few, rising, ordered)),
    omega (arith, most),
  );
  only = λ c fits met. let low = met.1.0 in let high = met.1.1 in let is = met.2 in
      inr (omega (arith, few, ordered, rising, low, high, is), omega (arith, few, ordered, rising, low, high, is));
  apart = omega arith;
  filled = rising;
  small = omega arith;
}

-- or those from the least key's to 63, and from 0 to the greatest one's.
pub two_runs : (keys : Interval) → keys.low ≤ keys.high → keys.high - keys.low < 63 → keys.high % 64 < keys.low % 64
    → IsImage keys (record { below = keys.high % 64 + 1; from = keys.low % 64; last = 63 })
two_runs keys ordered few falling = record {
  first = λ c less. (
    keys.high - keys.high % 64 + c,
    (omega (arith, less, few, falling, ordered), omega (arith, less)),
    omega (arith, less),
  );
  second = λ c least most. (
    keys.low - keys.low % 64 + c,
    (omega (arith, least), omega (arith, most, few, falling, ordered)),
    omega (arith, most),
  );
  only = λ c fits met. let low = met.1.0 in let high = met.1.1 in let is = met.2 in
      grind (arith, few, ordered, falling, low, high, is, fits);
  apart = omega (arith, falling);
  filled = omega arith;
  small = omega arith;
}

-- The looks of a poll of the third waiter go on from row to row.

pub row_made : {k : Shape} {v w : View} {place class found : ℕ} {last : Bool} → Told k v (LookRow place class last) found w
    → Made v (one_step K35 (Row place class) found) w
row_made {k} {v} {w} {place} {class} {found} {last} told = look_trail v w K35 (Row place class) found last told.marks told.goes

-- the rows from a later one on
pub rows_from : (place class p c : ℕ) → (place < p) ⊎ ((place ≡ p) × (class ≤ c)) → (field : Field) → IsRowFrom p c field
    → IsRowFrom place class field
rows_from place class p c first field row = (
  row.0,
  row.1,
  row.2,
  ⊎_elim
      (λ (later : place < p). inl (⊎_elim (λ (l : p < row.0). omega (arith, later, l))
      (λ (same : (p ≡ row.0) × (c ≤ row.1)). omega (arith, later, same.0)) row.3))
      (λ (at : (place ≡ p) × (class ≤ c)). ⊎_elim (λ (l : p < row.0). inl (omega (arith, at.0, l)))
      (λ (same : (p ≡ row.0) × (c ≤ row.1)). inr (at.0 ∙ same.0, omega (arith, at.1, same.1))) row.3)
      first,
)

-- a look after others, and looks after others, from no row before
pub looked_row : (place class p c : ℕ) {u v w : View} → (place < p) ⊎ ((place ≡ p) × (class ≤ c)) → LooksAt (IsRowFrom place class) u v
    → LooksAt (λ field. field ≡ Row p c) v w → LooksAt (IsRowFrom place class) u w
looked_row place class p c {u} {v} {w} first a b =
    looks_then (IsRowFrom place class) u v w a (looks_as (λ field. field ≡ Row p c) (IsRowFrom place class)
    (λ field is. (p, c, is, first)) v w b)

pub looked_rows : (place class p c : ℕ) {u v w : View} → (place < p) ⊎ ((place ≡ p) × (class ≤ c)) → LooksAt (IsRowFrom place class) u v
    → LooksAt (IsRowFrom p c) v w → LooksAt (IsRowFrom place class) u w
looked_rows place class p c {u} {v} {w} first a b =
    looks_then (IsRowFrom place class) u v w a (looks_as (IsRowFrom p c) (IsRowFrom place class) (rows_from place class p c first) v w b)

-- rows that aren't before the one that a wait had come to
pub rows_onward : (r : Reached) {v w : View} → LooksAt (IsRowFrom r.place r.class) v w → LooksAt (IsOnward r) v w
rows_onward r {v} {w} a = looks_as (IsRowFrom r.place r.class) (IsOnward r) (λ field row. subst (IsOnward r) (sym row.2) (λ before. ⊎_elim
    (λ (l : row.0 < r.place). ⊎_elim (λ (g : r.place < row.0). omega (arith, l, g))
    (λ (same : (r.place ≡ row.0) × (r.class ≤ row.1)). omega (arith, l, same.0)) row.3)
    (λ (at : (row.0 ≡ r.place) × (row.1 < r.class)). ⊎_elim (λ (g : r.place < row.0). omega (arith, at.0, g))
    (λ (same : (r.place ≡ row.0) × (r.class ≤ row.1)). omega (arith, at.1, same.1)) row.3)
    before)) v w a

-- Where a poll has come to, by where it began: it is there still, or at the first class of a later place.
pub onto : (place class p c last : ℕ) → class ≤ last → ((place ≡ p) × (class ≡ c)) ⊎ ((place < p) × (c ≡ 0))
    → ((place < p) ⊎ ((place ≡ p) × (class ≤ c))) × (c ≤ last)
onto place class p c last most come = ⊎_elim
    (λ (still : (place ≡ p) × (class ≡ c)). (inr (still.0, omega (arith, still.1)), omega (arith, still.1, most)))
    (λ (later : (place < p) × (c ≡ 0)). (inl later.0, omega (arith, later.1)))
    come

pub to_last : (place class p c q d last : ℕ) → class ≤ last → p ≡ q → d ≡ last → (place < p) ⊎ ((place ≡ p) × (class ≤ c))
    → (place < q) ⊎ ((place ≡ q) × (class ≤ d))
to_last place class p c q d last most same is first =
    ⊎_elim (λ (l : place < p). inl (omega (arith, l, same)))
    (λ (s : (place ≡ p) × (class ≤ c)). inr (s.0 ∙ same, omega (arith, most, is))) first

pub comes_later : (place class p c : ℕ) (next first : ℕ) → next ≡ p + 1 → first ≡ 0 → ((place ≡ p) × (class ≡ c)) ⊎ ((place < p) × (c ≡ 0))
    → ((place ≡ next) × (class ≡ first)) ⊎ ((place < next) × (first ≡ 0))
comes_later place class p c next first is none come =
    inr (
      ⊎_elim (λ (still : (place ≡ p) × (class ≡ c)). omega (arith, still.0, is))
          (λ (later : (place < p) × (c ≡ 0)). omega (arith, later.0, is)) come,
      none,
    )

-- The looks of a poll from where it began up to where it has come to, and those that it makes from there.
module _ {W : Type 0} (first here : Grace W) (last : ℕ) (is_last : IsLastClass first.keys last) {u v : View}
    (so_far : first.class ≤ last → LooksAt (IsRowFrom first.place first.class) u v)
    (come : ((first.place ≡ here.place) × (first.class ≡ here.class)) ⊎ ((first.place < here.place) × (here.class ≡ 0))) where
  rows_on : {w : View} → (here.class ≤ last → LooksAt (IsRowFrom here.place here.class) v w) → first.class ≤ last
      → LooksAt (IsRowFrom first.place first.class) u w
  rows_on looks most =
      let to = onto first.place first.class here.place here.class last most come in
      looked_rows first.place first.class here.place here.class to.0 (so_far most) (looks to.1)

  pub rows_then : {w : View} → (here.class ≤ last → LooksAt (IsRowFrom here.place here.class) v w) → IsWithin first.keys first.class
      → LooksAt (IsOnward (reached first)) u w
  rows_then looks within = rows_onward (reached first) (rows_on looks (within_last first.keys first.class last within is_last))

  -- and one more, in the last class
  pub row_then : (next : Grace W) {w x : View} → here.place ≡ next.place → next.class ≡ last → LooksAt (IsRowFrom here.place here.class) v w
      → LooksAt (λ field. field ≡ Row next.place next.class) w x → IsWithin first.keys first.class → LooksAt (IsOnward (reached first)) u x
  row_then next place class looks one within =
      let most = within_last first.keys first.class last within is_last in
      let to = onto first.place first.class here.place here.class last most come in
      let there = to_last first.place first.class here.place here.class next.place next.class last most place class to.0 in
      rows_onward (reached first) (looked_row first.place first.class next.place next.class there (rows_on (λ _. looks) most) one)

-- A wait of the third waiter goes from row to row: from class to class at a place, and then to the next place.

pub not_domain : Deer ≡ Domain → ⊥
not_domain e = cc

-- the rows in the order in which a wait goes over them
abbrev pub row_of : ℕ → ℕ → ℕ
row_of place class = 64 * place + class

abbrev pub moved : {W : Type 0} → Grace W → ℕ → ℕ → Grace W
moved grace place class = record grace { place = place; class = class }

-- the keys of a wait meet the classes that its interval meets
pub image_of : (wait : Waiting) (keys : Interval) → wait.low ≡ keys.low → wait.high ≡ keys.high → (c : ℕ) → MeetsClass keys c
    → MeetsClass (keys_of wait) c
image_of wait keys low high c met = (met.0, (omega (arith, met.1.0, low), omega (arith, met.1.1, high)), met.2)

image_from : (wait : Waiting) (keys : Interval) → wait.low ≡ keys.low → wait.high ≡ keys.high → (c : ℕ) → MeetsClass (keys_of wait) c
    → MeetsClass keys c
image_from wait keys low high c met = (met.0, (omega (arith, met.1.0, low), omega (arith, met.1.1, high)), met.2)

-- the last class of an image is the interval's
pub last_of : (keys : Interval) (image : Image) → IsImage keys image → IsLastClass keys image.last
last_of keys image is = record {
  met = is.second image.last is.filled (omega arith);
  greatest = λ c more small met. ⊎_elim
      (λ (b : c < image.below). let a = is.apart in let f = is.filled in omega (arith, b, a, f, more))
      (λ (l : (image.from ≤ c) × (c ≤ image.last)). omega (arith, l.1, more))
      (is.only c small met);
}

either : (a b : ℕ) → (a ≤ b) ⊎ (b < a)
either a b = grind arith

module _ {W : Type 0} (k : Shape) (deer : k.waiter ≡ Deer) (grace : Grace W) where
  is_before : (p c : ℕ) → c < 64 → grace.class < 64 → row_of p c < row_of grace.place grace.class → IsBefore (reached grace) (Row p c)
  is_before p c small fits less = dite (ℕ_discrete p grace.place)
      (λ same. inr (same, omega (arith, less, same)))
      (λ ne. inl (omega (arith, less, small, fits, ne)))

  before_is : (p c : ℕ) → c < 64 → IsBefore (reached grace) (Row p c) → row_of p c < row_of grace.place grace.class
  before_is p c small before = ⊎_elim (λ (l : p < grace.place). omega (arith, l, small))
      (λ (r : (p ≡ grace.place) × (c < grace.class)). omega (arith, r.0, r.1)) before

  -- A spot of this waiter is a row, and with this one all up to it are excused.
  up_to : (wait : Waiting) → HasReached k grace.keys grace.clock (reached grace) wait → (field : Field) → IsSpot k wait field
      → ((p c : ℕ) → field ≡ Row p c → row_of p c ≤ row_of grace.place grace.class)
      → IsIn (Row grace.place grace.class ∷ wait.excused) field
  up_to wait r (Row p c) spot less =
      let most = less p c refl in
      dite (ℕ_discrete (row_of p c) (row_of grace.place grace.class))
      (λ same.
      let here : p ≡ grace.place = omega (arith, same, spot.2, r.small) in
      let there : c ≡ grace.class = omega (arith, same, here) in
      subst (λ (z : ℕ × ℕ). IsIn (Row z.0 z.1 ∷ wait.excused) (Row p c)) (λ i. (here i, there i)) (0, refl))
      (λ ne. let e = r.excused (Row p c) spot (is_before p c spot.2 r.small (omega (arith, most, ne))) in (suc e.0, e.1))
  up_to wait r (Stamp q) spot less = absurd (let e : Deer ≡ Eer = sym deer ∙ spot.0 in cc)
  up_to wait r (Count c side) spot less = absurd (let e : Deer ≡ Domain = sym deer ∙ spot.0 in cc)
  up_to wait r _ spot less = absurd spot

  pub may_look : (v : View) (last : Bool) → (last ≡ true → (grace.place + 1 ≡ k.places) × IsLastClass grace.keys grace.class)
      → IsLatestOf k grace v → MayLook k v (wait_of v) (Row grace.place grace.class) last
  may_look v last end latest = looks k v latest.1 latest.2.going
      (λ is other spot. up_to latest.0 latest.2 other spot (λ p c same. at p c other spot (end is) same))
    where
      at : (p c : ℕ) (other : Field) → IsSpot k latest.0 other → (grace.place + 1 ≡ k.places) × IsLastClass grace.keys grace.class
          → other ≡ Row p c → row_of p c ≤ row_of grace.place grace.class
      at p c other spot ends is =
          let r = latest.2 in
          let s = subst (IsSpot k latest.0) is spot in
          let most : p ≤ grace.place = omega (arith, s.1, ends.0) in
          dite (ℕ_discrete p grace.place)
          (λ here. ⊎_elim
          (λ (l : c ≤ grace.class). omega (arith, here, l))
          (λ (g : grace.class < c). absurd (ends.1.greatest c g s.2 (image_from latest.0 grace.keys r.low_is r.high_is c s.3)))
          (either c grace.class))
          (λ ne. omega (arith, most, ne, s.2))

  -- as far as another row, where all spots before that one are excused
  reaches : (place class : ℕ) (wait : Waiting) (excused : List Field) → HasReached k grace.keys grace.clock (reached grace) wait
      → place ≤ k.places - 1 → class < 64 → ((field : Field) → IsSpot k wait field → IsBefore (reached (moved grace place class)) field
      → IsIn excused field) → HasReached k grace.keys grace.clock (reached (moved grace place class)) (record wait { excused = excused })
  reaches place class wait excused r inside small all = record {
    going = r.going;
    low_is = r.low_is;
    high_is = r.high_is;
    clock_is = r.clock_is;
    inside = inside;
    small = small;
    excused = all;
    met = r.met;
    turned = λ domain c there. never domain;
    once = λ domain c less met before. never domain;
  }
    where
      never : {A : Type 0} → k.waiter ≡ Domain → A
      never domain = absurd (not_domain (sym deer ∙ domain))

  -- the spots before another row, by its number
  rows_before : (place class : ℕ) (wait : Waiting) (field : Field) → IsSpot k wait field
      → IsBefore (reached (moved grace place class)) field → (p c : ℕ) → field ≡ Row p c → row_of p c < row_of place class
  rows_before place class wait field spot before p c is =
      let s = subst (IsSpot k wait) is spot in
      let b = subst (IsBefore (reached (moved grace place class))) is before in
      ⊎_elim (λ (l : p < place). omega (arith, l, s.2)) (λ (r : (p ≡ place) × (c < class)). omega (arith, r.0, r.1)) b

  module _ (v u : View) (come : IsGoingOn k v grace u) (place class : ℕ) (inside : place ≤ k.places - 1) (small : class < 64) where
    -- on to a later row, after a look at this one, where no key has the class of a row between
    pub passes_to : (w : View) → HasPassed u false (Row grace.place grace.class) w
        → ((p c : ℕ) → c < 64 → row_of grace.place grace.class < row_of p c → row_of p c < row_of place class → MeetsClass grace.keys c → ⊥)
        → IsGoingOn k v (moved grace place class) w
    passes_to w passed unmet = goes_on k v u w grace come (moved grace place class) (Row grace.place grace.class) passed
        (reaches place class come.new (Row grace.place grace.class ∷ come.new.excused) come.reaches inside small there)
      where
        within : (field : Field) (p c : ℕ) → IsSpot k come.new field → IsBefore (reached (moved grace place class)) field → field ≡ Row p c
            → row_of p c ≤ row_of grace.place grace.class
        within field p c spot before is =
            let s = subst (IsSpot k come.new) is spot in
            let b = rows_before place class come.new field spot before p c is in
            ⊎_elim
            (λ (l : row_of p c ≤ row_of grace.place grace.class). l)
            (λ (g : row_of grace.place grace.class < row_of p c). absurd
            (unmet p c s.2 g b (image_from come.new grace.keys come.reaches.low_is come.reaches.high_is c s.3)))
            (either (row_of p c) (row_of grace.place grace.class))

        there : (field : Field) → IsSpot k come.new field → IsBefore (reached (moved grace place class)) field
            → IsIn (Row grace.place grace.class ∷ come.new.excused) field
        there field spot before = up_to come.new come.reaches field spot (λ p c is. within field p c spot before is)

    -- on to another row, where no key has the class of a row from this one on and before that
    pub skips_to : ((p c : ℕ) → c < 64 → row_of grace.place grace.class ≤ row_of p c → row_of p c < row_of place class
        → MeetsClass grace.keys c → ⊥) → IsGoingOn k v (moved grace place class) u
    skips_to unmet = record {
      wait = come.wait;
      steps = come.steps;
      new = come.new;
      was = come.was;
      looked = come.looked;
      reaches = reaches place class come.new come.new.excused come.reaches inside small there;
    }
      where
        there : (field : Field) → IsSpot k come.new field → IsBefore (reached (moved grace place class)) field → IsIn come.new.excused field
        there (Row p c) spot before =
            let b = rows_before place class come.new (Row p c) spot before p c refl in
            ⊎_elim
            (λ (l : row_of grace.place grace.class ≤ row_of p c). absurd
            (unmet p c spot.2 l b (image_from come.new grace.keys come.reaches.low_is come.reaches.high_is c spot.3)))
            (λ (e : row_of p c < row_of grace.place grace.class). come.reaches.excused (Row p c) spot
            (is_before p c spot.2 come.reaches.small e))
            (either (row_of grace.place grace.class) (row_of p c))
        there (Stamp q) spot before = absurd (let e : Deer ≡ Eer = sym deer ∙ spot.0 in cc)
        there (Count c side) spot before = absurd (let e : Deer ≡ Domain = sym deer ∙ spot.0 in cc)
        there _ spot before = absurd spot

-- from class to class at a place, and from the last class of the keys to the next place
module _ {W : Type 0} (k : Shape) (deer : k.waiter ≡ Deer) (grace : Grace W) (v u : View) (come : IsGoingOn k v grace u) where
  pub next_class : (w : View) → HasPassed u false (Row grace.place grace.class) w → grace.class + 1 < 64
      → IsGoingOn k v (moved grace grace.place (grace.class + 1)) w
  next_class w passed small = passes_to k deer grace v u come grace.place (grace.class + 1) come.reaches.inside small w passed
      (λ p c fits after before met. omega (arith, after, before))

  pub next_place : (w : View) (image : Image) → IsImage grace.keys image → grace.class ≡ image.last
      → HasPassed u false (Row grace.place grace.class) w → grace.place + 1 ≤ k.places - 1
      → IsGoingOn k v (moved grace (grace.place + 1) 0) w
  next_place w image is last passed inside = passes_to k deer grace v u come (grace.place + 1) 0 inside (omega arith) w passed
      (λ p c fits after before met. is_last.greatest c (omega (arith, after, before, fits, last)) fits met)
    where
      is_last : IsLastClass grace.keys image.last
      is_last = last_of grace.keys image is

  module _ (next : Grace W) (image : Image) (is : IsImage grace.keys image) (skipped : HasSkipped image.from grace next) where
    next_small : next.class < 64
    next_small = ⊎_elim
        (λ (l : next.class ≤ 63). omega (arith, l))
        (λ (g : 63 < next.class). let early = skipped.gap 63 (let s = come.reaches.small in omega (arith, s)) g in let f = is.filled in
        let s = is.small in omega (arith, early, f, s))
        (either next.class 63)

    -- the classes between the two runs of an image are of no key
    pub skips_gap : image.below ≤ grace.class → IsGoingOn k v next u
    skips_gap first = subst (λ z. IsGoingOn k v z u) (sym skipped.stays)
        (skips_to k deer grace v u come grace.place next.class come.reaches.inside next_small (λ p c fits after before met.
        let here : p ≡ grace.place = omega (arith, after, before, fits, next_small, come.reaches.small) in
        let early : c < image.from = skipped.gap c (omega (arith, after, here)) (omega (arith, before, here)) in
        ⊎_elim
        (λ (b : c < image.below). omega (arith, b, first, after, here))
        (λ (l : (image.from ≤ c) × (c ≤ image.last)). omega (arith, l.0, early))
        (is.only c fits met)))

  pub goes_back : (class : ℕ) → class ≤ grace.class → IsGoingOn k v (moved grace grace.place class) u
  goes_back class less = skips_to k deer grace v u come grace.place class come.reaches.inside
      (let s = come.reaches.small in omega (arith, less, s)) (λ p c fits after before met. omega (arith, after, before, less))
