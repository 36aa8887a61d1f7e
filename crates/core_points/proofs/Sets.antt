-- The points of a set: what each step needs is known, and what the next point needs is known after it.
use Rattle.std.proofs.Common.{◌≡◌, ℕ, ◌*◌, ◌/◌, ◌==◌, ◌<◌, cond, Bool, true, false, List, [], ◌∷◌, length, Some, None, refl, sym, ap, subst, ◌∙◌, arith}
use Rattle.std.proofs.lemmas.Bool.{eqb-true}
use Rattle.prcu_marks.specs.declared.mark.Mark.{Mark}
use Rattle.core_state.specs.declared.shape.Shape.{Shape}
use Rattle.core_state.specs.declared.words.Field.TheVariants.{Life, Value}
use Rattle.core_state.specs.declared.words.Field.{Field}
use Rattle.core_state.specs.declared.view.HeldLock.{HeldLock}
use Rattle.core_state.specs.declared.view.Known.{Known}
use Rattle.core_state.specs.declared.view.Section.{Section}
use Rattle.core_state.specs.declared.view.View.{View}
use Rattle.list_laws.specs.Counts.{IsIn}
use Rattle.core_state.specs.Views.{known_in, known_of, LoadedGeneration, noting}
use Rattle.core_state.specs.Links.{after_replace}
use Rattle.core_state.specs.Steps.{new_lock, leaving}
use Rattle.core_laws.proofs.Acting.{commit_is, section_is, may_update}
use Rattle.core_state.specs.declared.act.Part.TheVariants as part
use Rattle.core_points.specs.declared.stage.Last.TheVariants as last
use Rattle.core_points.specs.declared.stage.Stage.{Stage}
use Rattle.core_points.specs.declared.stage.Stage.TheVariants as at
use Rattle.core_points.specs.declared.stage.Then.TheVariants as then
use Rattle.core_points.specs.declared.stage.Update.TheVariants as update
use Rattle.core_points.specs.Programs.{Own, go, key_now, value_in}
use Rattle.core_points.specs.Facts.{Setting, is_put, one_lock, read_at, set_known, stored_at, table_of}
use Rattle.core_points.specs.Fits.{Fits, IsGiven, GoesOn, plain}
use Rattle.core_points.proofs.Notes.{loads_at, fits, calm_quiet, found_next, life_here, life_still, owns_noted, settled_calm, settled_noted, quiet_turned, ready_set, set_owed, the_set}
use Rattle.core_points.proofs.Links.{made_even}
use Rattle.core_points.proofs.Locks.{goes_locking, one_again, one_clear, one_held, one_lock_more, one_owned}
use Rattle.core_laws.proofs.LockSteps.{known_here}

module _ (k : Shape) (h : List Mark) (o : Own) (v : View) (n : ℕ) where
  pub needs_set_life : (s : ℕ) → IsGiven k o v n (at.SetLife s)
  needs_set_life s f = let i = ((f.point).2).2 in loads_at v i s part.Life (i.stands).here

  pub next_set_life : (s : ℕ) → GoesOn h o v n (at.SetLife s)
  next_set_life s f =
      let q = (f.point).2 in
      let p : ℕ = q.0 in
      let is = (f.point).1 in
      found_next h o v n s p q.1 (Life s) (λ r. Unit {0}) (λ r. LoadedGeneration r s (n / 2)) (at.Leave (then.Replace s (n / 2))) f.owns
      (f.unraised refl) (let t = f.tickets in let one = set_owed o is in omega arith) q.2
      (λ r e here u. let still = life_still r s p q.1 s n e in (still, life_here r _ s n still))
      (λ section i. ((f.point).0, (is, (p, q.1, i))))

  pub next_replace : (s generation : ℕ) → ((section : Section) → v.section ≡ Some section → (t : ℕ) → IsIn section.reading.stood t
      → t < table_of o) → GoesOn h o v n (at.Leave (then.Replace s generation))
  next_replace s generation stood f =
      let p = (f.point).1 in
      let q = p.1 in
      let i = q.2 in
      let section : Section = i.section in
      let calm = (f.point).0 in
      subst (λ x. Fits (go o (at.SetLock s generation)) (at.SetLock s generation) (leaving v x h)) (sym (section_is v _ i.is))
      (fits f.owns (f.unraised refl) (let t = f.tickets in let one = set_owed o p.0 in omega arith) (record {
        quiet = calm_quiet o v section h calm (ap is_put (the_set o.op p.0));
        locks_are = (calm.bare).locks_are;
        found = record {
          reading = section.reading;
          kept = (0, refl);
          key_is = (i.stands).sought;
          found = (q.0, q.1, None, (i.stands).state_is);
          recorded = i.known;
          inside = stood section i.is s (i.stands).here;
        };
        sets = p.0;
      }))

  -- the lock
  pub needs_set_lock : (s generation : ℕ) → IsGiven k o v n (at.SetLock s generation)
  needs_set_lock s generation f = let p = f.point in
      record { outside = (p.quiet).outside; few = subst (λ (ls : List HeldLock). length ls < 5) (sym p.locks_are) (omega arith) }

  pub next_set_lock : (s generation : ℕ) → GoesOn h o v n (at.SetLock s generation)
  next_set_lock s generation f =
      let p = f.point in
      let q = p.quiet in
      goes_locking (at.SetCheck s generation) s n f refl p.locks_are f.tickets f.tickets
      (record { quiet = q; locks_are = ap (λ ls. new_lock s ∷ ls) p.locks_are; found = p.found; sets = p.sets })
      (q.outside, settled_calm o v q p.locks_are (ready_set o.op o.hand o.spare o.retired p.sets q.no_hand))

  -- a load under the lock
  setting_more : (s generation : ℕ) (known : List Known) (field : Field) (stage : Stage)
      → Setting o (plain v) s generation (one_lock s known) None
      → Setting (go o stage) (plain (noting v s field n false)) s generation (one_lock s (read_at field n ∷ known)) None
  setting_more s generation known field stage p = record {
    quiet = settled_noted o v s field n false None p.quiet;
    locks_are = one_lock_more o v s known p.locks_are field n false;
    found = p.found;
    sets = p.sets;
  }

  pub needs_set_check : (s generation : ℕ) → IsGiven k o v n (at.SetCheck s generation)
  needs_set_check s generation f = record { held = (_, one_held o v s [] (f.point).locks_are); loadable = refl }

  pub next_set_check : (s generation : ℕ) → GoesOn h o v n (at.SetCheck s generation)
  next_set_check s generation f = judged (n == 2 * generation) refl (setting_more s generation [] (Life s) o.stage f.point)
    where
      w : View
      w = noting v s (Life s) n false

      judged : (z : Bool) → (n == 2 * generation) ≡ z → Setting o (plain w) s generation (one_lock s (read_at (Life s) n ∷ [])) None
          → let st : Stage = cond z (at.SetValue s) (at.Unlock last.Again) in Fits (go o st) st w
      judged true e p = fits (owns_noted o v s (Life s) n false f.owns) (f.unraised refl) f.tickets (
        generation,
        record {
          quiet = p.quiet;
          locks_are = p.locks_are ∙ ap (λ x. one_lock s (read_at (Life s) x ∷ [])) (eqb-true n (2 * generation) e);
          found = p.found;
          sets = p.sets;
        },
      )
      judged false e p = fits (owns_noted o v s (Life s) n false f.owns) (f.unraised refl) f.tickets
          (one_again o w s (read_at (Life s) n ∷ []) p.locks_are p.quiet (owns_noted o v s (Life s) n false f.owns)
          (ready_set o.op o.hand o.spare o.retired p.sets (p.quiet).no_hand))

  pub needs_set_value : (s : ℕ) → IsGiven k o v n (at.SetValue s)
  needs_set_value s f = record { held = (_, one_held o v s _ ((f.point).1).locks_are); loadable = refl }

  pub next_set_value : (s : ℕ) → GoesOn h o v n (at.SetValue s)
  next_set_value s f =
      let g : ℕ = (f.point).0 in
      let p = (f.point).1 in
      fits (owns_noted o v s (Value s) n false f.owns) (f.unraised refl)
      (let t = f.tickets in let one = set_owed o p.sets in omega arith)
      ((g, setting_more s g (read_at (Life s) (2 * g) ∷ []) (Value s) _ p), made_even o.front)

  -- the store
  pub needs_set_store : (s old front : ℕ) → IsGiven k o v n (at.Store (update.Value s old) front)
  needs_set_store s old front f =
      let g : ℕ = (f.point).0 in
      let p = (f.point).1 in
      let has = p.found in
      record {
        has_commit = may_update v (p.quiet).turn_is (let t = f.tickets in omega arith);
        reading = has.reading;
        kept = has.kept;
        sought = has.key_is;
        found = has.found;
        generation = g;
        generation_is = has.recorded;
        life_now = ap (λ x. known_in (known_of x) (Life s)) (one_held o v s (set_known s g old) p.locks_are)
            ∙ known_here [] (Life s) (2 * g) false;
      }

  pub next_set_store : (s old front : ℕ) → GoesOn h o v n (at.Store (update.Value s old) front)
  next_set_store s old front f =
      let p = (f.point).1 in
      let value : ℕ = value_in o.op in
      let w : View = noting v s (Value s) value true in
      let known = set_known s (f.point).0 old in
      let now = one_lock_more o v s known p.locks_are (Value s) value true in
      let owns = owns_noted o v s (Value s) value true f.owns in
      subst (λ x. Fits (go o (at.Even (update.Value s old) front)) (at.Even (update.Value s old) front)
      (after_replace v x s (key_now o) value h)) (sym (commit_is v _ (p.quiet).turn_is))
      (fits owns (f.unraised refl) (let t = f.tickets in omega arith) (
        quiet_turned refl (settled_noted o v s (Value s) value true _ p.quiet),
        one_owned o w s (stored_at (Value s) value ∷ known) now owns,
        one_clear o w s (stored_at (Value s) value ∷ known) now,
        p.sets,
      ))
