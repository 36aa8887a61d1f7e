-- What the invariant tells of each view that works at a place.
use Rattle.std.proofs.Common.{◌≡◌, ◌≢◌, ◌^◌, None, false, refl, sym, ℕ, ◌*◌, Option, zero, suc, ◌+◌, ◌<◌, ◌≤◌, List, [], ◌∷◌, ◌++◌, length, map, Some, ap, subst, ◌∙◌, arith, true, ⊎_elim, inl}
use mathlib.Core.Logic.{dite}
use native.Mathlib.Decide.{ℕ_discrete}
use Rattle.prcu_marks.specs.declared.mark.Side.{Side}
use Rattle.core_state.specs.Parts.{HasGeneration}
use mathlib.Core.Option.{some, some-ne-none}
use lib.ListN.{get_elem?}
use Rattle.prcu_marks.specs.declared.mark.Mark.{Mark}
use Rattle.prcu_marks.proofs.Marks.{gone_at-below}
use Rattle.core_state.specs.declared.shape.Shape.{Shape}
use Rattle.core_state.specs.declared.view.Retired.{Retired}
use Rattle.core_state.specs.declared.view.View.{View}
use Rattle.core_state.specs.declared.view.Reading.{Reading}
use Rattle.core_state.specs.declared.view.Section.{Section}
use Rattle.core_state.specs.declared.view.HeldLock.{HeldLock}
use Rattle.core_state.specs.declared.words.Field.{Field}
use Rattle.core_state.specs.declared.words.Field.TheVariants.{Life, Link, Lock}
use Rattle.core_state.specs.Views.{known_in, known_of, known_under, lock_of, HasLock, LoadedGeneration, Works, open_reading, readings_of, retired_of, joined_retired, held_list, spares_of}
use Rattle.core_state.specs.Memory.{IsOdd, Memory, slot_count}
use Rattle.core_state.specs.Tree.{IsHeldBack}
use Rattle.core_state.specs.Invariant.{HoldsNow}
use Rattle.list_laws.specs.Counts.{IsIn, Each, times}
use Rattle.list_laws.proofs.Lists.{at_below, in_second, times_append, times_in, times_here}
use Rattle.prcu_marks.specs.declared.mark.Mark.TheVariants.{Done}
use Rattle.prcu_model.specs.declared.operation.Op.TheVariants.{Del}
use Rattle.core_frames.proofs.Charts.{key_bound}
use Rattle.core_frames.proofs.Roles.{place_within, works_there, own_once, own_below, own_off, hand_own, retired_own, spare_own}
use Rattle.core_state.specs.declared.view.Held.{Held}
use Rattle.core_state.specs.declared.view.Move.{Move}
use Rattle.core_frames.specs.Telling.{IsChild, TellsLinks, TellsOldLinks, Tells, TellsAlone, TellsAside, TellsMove, TellsOnce, ViewsAreTold}

in_front : {A : Type 0} (xs ys : List A) (i : ℕ) (a : A) → get_elem? xs i ≡ some a → get_elem? (xs ++ ys) i ≡ some a
in_front [] ys i a e = cc
in_front (x ∷ xs) ys zero a e = e
in_front (x ∷ xs) ys (suc i) a e = in_front xs ys i a e

module _ (k : Shape) (m : Memory) (vs : List View) (h : List Mark) (inv : HoldsNow k m vs h) (id : ℕ) (v : View)
    (there : get_elem? vs id ≡ some v) where
  -- a load of a field of the slot in hand finds what is known of it
  tells_loads : (s : ℕ) (field : Field) → Tells v s field (m field)
  tells_loads s field held is same number known = (((inv.slots.hands id v there).hand held is).known field number known).1

  -- each unlinking of its retired slots is an old mark
  tells_older : Each v.hands.retired (λ (r : Retired). r.unlinked < length h)
  tells_older i r e = gone_at-below r.slot h r.unlinked
      (inv.slots.retired id v there i r (in_front v.hands.retired (joined_retired v.allowance.joined) i r e)).unlinked

  -- its retired slots are distinct
  tells_alone : TellsAlone v
  tells_alone r rs e i x at same =
      let slots : List Retired → List ℕ = map (λ (r : Retired). r.slot) in
      let rest : List Retired = rs ++ joined_retired v.allowance.joined in
      let once = own_once m (slot_count k) inv.chart vs h inv.slots id v there r.slot in
      let all : slots (retired_of v) ≡ r.slot ∷ slots rest = ap (λ xs. slots (xs ++ joined_retired v.allowance.joined)) e in
      let two : 1 ≤ times x.slot (slots rest) = times_in (λ (r : Retired). r.slot) rest x
      (i, in_front rs (joined_retired v.allowance.joined) i x at) in
      let here : times r.slot (slots (retired_of v)) ≡ 1 + times r.slot (slots rest) =
      ap (times r.slot) all ∙ times_here r.slot (slots rest) in
      let a = times_append r.slot (held_list v.hands.hand) (spares_of v ++ slots (retired_of v)) in
      let b = times_append r.slot (spares_of v) (slots (retired_of v)) in
      let c : times x.slot (slots rest) ≡ times r.slot (slots rest) = ap (λ s. times s (slots rest)) same in
      omega arith

  -- each slot at which its section stood is one of the table's
  tells_stood : (section : Section) → v.section ≡ Some section → (s : ℕ) → IsIn section.reading.stood s → s < slot_count k
  tells_stood section e s has = ⊎_elim
      (λ (on : inv.chart.linked s ≡ true). inv.tree.shape.within s on)
      (λ (back : IsHeldBack inv.chart h section.entered s × IsOdd (m (Life s))).
      (let held = back.0 in
      let of = inv.slots.unlinked s held.at held.gone in
      let r = of.has.retired in
      subst (λ x. x < slot_count k) of.has.slot
      (own_below m (slot_count k) inv.chart vs h inv.slots of.id of.view of.there r.slot (retired_own of.view r of.has.has))))
      ((inv.readers.served id v there section e).stood s has).here

  -- a place without a spare has a retired slot
  tells_spare : Works v → v.hands.spare ≡ None → v.hands.retired ≢ []
  tells_spare works none e = let x = (inv.slots.few id v there).next_spare works none in
      absurd (let q : IsIn [] x.retired = subst (λ rs. IsIn rs x.retired) e x.has in some-ne-none x.retired (sym q.1))

  -- each lock once, and none of them is free
  tells_once : TellsOnce v
  tells_once = (inv.locks.few id v there).once

  tells_busy : (s : ℕ) → HasLock v s → m (Lock s) ≢ 0
  tells_busy s (l, e) z = let q = (inv.locks.locked.held id v there s l e).0 in absurd (omega arith)

  -- a slot whose recorded generation was found under its lock is linked, and no spare is
  on_there : (r : Reading) (s generation : ℕ) → IsIn v.records r → LoadedGeneration r s generation
      → known_in (known_under v s) (Life s) ≡ Some (2 * generation) → inv.chart.linked s ≡ true
  on_there r s generation kept loaded known = by_lock (lock_of v.locks s) refl
    where
      has : IsIn (readings_of v) r
      has = in_second (open_reading v.section) v.records r kept

      by_lock : (o : Option HeldLock) → lock_of v.locks s ≡ o → inv.chart.linked s ≡ true
      by_lock None free = absurd (let q : None ≡ Some (2 * generation) = ap (λ o. known_in (known_of o) (Life s)) (sym free) ∙ known in cc)
      by_lock (Some lock) locked =
          let life : m (Life s) ≡ 2 * generation = (inv.locks.known id v there s lock locked).lives r generation has loaded
          (ap (λ o. known_in (known_of o) (Life s)) (sym locked) ∙ known) in
          (inv.locks.readings id v there has.0 r has.1).linked s loaded.0 loaded.1 (life ∙ ap (λ x. 2 * x) loaded.2)

  tells_aside : TellsAside v
  tells_aside r s generation kept loaded known held is same =
      let on = on_there r s generation kept loaded known in
      let off = own_off m (slot_count k) inv.chart vs h inv.slots id v there held.slot (spare_own v held is) in
      absurd (let q : true ≡ false = sym on ∙ ap inv.chart.linked (sym same) ∙ off in cc)

  -- a pending move
  tells_move : TellsMove v h
  tells_move move is =
      let w = inv.tree.moves.each id v there move is in (
        w.order,
        subst (λ x. x < 2 ^ 64) w.copy_key (key_bound m
            (slot_count k) inv.chart move.copy.slot inv.tree.shape w.copy_linked w.copy_some w.copy_young),
        at_below h move.made (Done (record { caller = v.allowance.place; op = Del move.key })) w.made,
      )

  -- its place, and the slots that it has to do with, are the table's
  tells_place : Works v → v.allowance.place < k.places
  tells_place works = place_within k.places vs inv.seats.placed id v.allowance.place v there (works_there v works)

  tells_held : (s : ℕ) → HasLock v s → s < slot_count k
  tells_held s (l, e) = (inv.locks.locked.held id v there s l e).1

  tells_hand : (held : Held) → v.hands.hand ≡ Some held → held.slot < slot_count k
  tells_hand held is = own_below m (slot_count k) inv.chart vs h inv.slots id v there held.slot (hand_own v held is)

  tells_spare_within : (held : Held) → v.hands.spare ≡ Some held → held.slot < slot_count k
  tells_spare_within held is = own_below m (slot_count k) inv.chart vs h inv.slots id v there held.slot (spare_own v held is)

  tells_retired : Each v.hands.retired (λ (r : Retired). r.slot < slot_count k)
  tells_retired i r e = own_below m (slot_count k) inv.chart vs h inv.slots id v there r.slot
      (retired_own v r (i, in_front v.hands.retired (joined_retired v.allowance.joined) i r e))

  tells_parent : (move : Move) → v.moving ≡ Some move → move.parent < slot_count k
  tells_parent move is = tells_held move.parent (inv.tree.moves.each id v there move is).parent_lock

  -- a link of a linked slot, where it is known under a lock
  child_within : (s : ℕ) → inv.chart.linked s ≡ true → (b : Side) (child : ℕ) → m (Link s b) ≡ child → IsChild (slot_count k) child
  child_within s on b child is =
      let slots = inv.table.few_slots in
      let places = inv.table.few_places in
      dite (ℕ_discrete child 0)
      (λ e. (omega arith, omega arith))
      (λ ne. (let lt = inv.tree.shape.within child (inv.tree.shape.below s child b on is ne).linked in (lt, omega arith)))

  link_there : (s : ℕ) (b : Side) (child : ℕ) (r : Reading) (generation : ℕ) (lock : HeldLock) → IsIn v.records r
      → LoadedGeneration r s generation → lock_of v.locks s ≡ Some lock → HasGeneration m s generation lock
      → known_in (known_under v s) (Link s b) ≡ Some child → m (Link s b) ≡ child
  link_there s b child r generation lock kept loaded locked same known =
      (inv.locks.known id v there s lock locked).fields r generation child (Link s b)
      (in_second (open_reading v.section) v.records r kept) loaded same
      (ap (λ o. known_in (known_of o) (Link s b)) (sym locked) ∙ known)

  tells_links : TellsLinks (slot_count k) v
  tells_links r s generation kept loaded life b child known = by_lock (lock_of v.locks s) refl
    where
      by_lock : (o : Option HeldLock) → lock_of v.locks s ≡ o → IsChild (slot_count k) child
      by_lock None free = absurd (let q : None ≡ Some child = ap (λ o. known_in (known_of o) (Link s b)) (sym free) ∙ known in cc)
      by_lock (Some lock) locked =
          let now : m (Life s) ≡ 2 * generation = (inv.locks.known id v there s lock locked).lives r generation
          (in_second (open_reading v.section) v.records r kept) loaded (ap (λ o. known_in (known_of o) (Life s)) (sym locked) ∙ life) in
          child_within s (on_there r s generation kept loaded life) b child
          (link_there s b child r generation lock kept loaded locked (inl now) known)

  tells_old_links : TellsOldLinks (slot_count k) v
  tells_old_links move is b child known =
      let w = inv.tree.moves.each id v there move is in
      let old = w.recorded in
      child_within move.old w.old_linked b child
      (link_there move.old b child old.reading old.generation old.lock old.kept old.loaded old.locked old.same known)

pub told_of : ViewsAreTold
told_of k m vs h id v inv there works = record {
  some_place = inv.table.some_place;
  some_room = inv.table.some_room;
  loads = tells_loads k m vs h inv id v there;
  older = tells_older k m vs h inv id v there;
  alone = tells_alone k m vs h inv id v there;
  spare_comes = tells_spare k m vs h inv id v there works;
  stood = tells_stood k m vs h inv id v there;
  once = tells_once k m vs h inv id v there;
  busy = tells_busy k m vs h inv id v there;
  aside = tells_aside k m vs h inv id v there;
  moves = tells_move k m vs h inv id v there;
  place_within = tells_place k m vs h inv id v there works;
  locks_within = tells_held k m vs h inv id v there;
  hand_within = tells_hand k m vs h inv id v there;
  spare_within = tells_spare_within k m vs h inv id v there;
  retired_within = tells_retired k m vs h inv id v there;
  move_within = tells_parent k m vs h inv id v there;
  links_within = tells_links k m vs h inv id v there;
  old_links_within = tells_old_links k m vs h inv id v there;
}
