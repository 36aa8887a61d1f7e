-- The two updates of a delete: what single steps keep, the value that is taken out, and what the updates leave.
use Rattle.std.proofs.Common.{◌≡◌, ◌≢◌, ℕ, ◌==◌, cond, Bool, true, false, Option, Some, None, ne_eqb, List, [], ◌∷◌, map, refl, sym, ap, subst, ◌∙◌, ◌+◌, ◌*◌, ◌≤◌, inl, inr, ⊎_elim, ◌/◌, ◌++◌, length, arith, append-nil, eq-eqb}
use mathlib.Core.List.{IsPrefix}
use Rattle.prcu_marks.specs.declared.mark.Side.{Side}
use Rattle.prcu_marks.specs.declared.mark.Side.TheVariants.{Left, Right}
use Rattle.core_state.specs.declared.shape.Shape.{Shape}
use Rattle.core_state.specs.declared.view.Held.{Held}
use Rattle.core_state.specs.declared.view.HeldLock.{HeldLock}
use Rattle.core_state.specs.declared.view.Retired.{Retired}
use Rattle.core_state.specs.declared.view.Known.{Known}
use Rattle.core_state.specs.declared.view.View.{View}
use Rattle.core_state.specs.Views.{HasLock, lock_of, change_lock, note_held, note_lock, note_option, with_emptied, known_in, known_of, known_under, noting}
use Rattle.core_state.specs.Steps.{loaded, new_lock}
use Rattle.core_state.specs.Links.{with_mark, relinked}
use Rattle.core_state.specs.declared.act.Part.{Part}
use Rattle.core_state.specs.Acts.{in_slot, noted}
use Rattle.core_state.specs.declared.words.Kind.TheVariants.{K17}
use Rattle.seat_table.specs.Sections.{Makes}
use Rattle.seat_table.proofs.SeveralSteps.{made_both, made_more, made_none}
use Rattle.citrus_tree.specs.Lookups.{is_load}
use Rattle.seat_table.specs.Seats.{IsSlotOf}
use Rattle.seat_table.specs.Gains.{Told, IsAsked, Sees}
use Rattle.list_laws.specs.Counts.{times}
use Rattle.tree_points.specs.Points.{HasLocks, KeepsAllowance, IsAt, HasAdvanced}
use Rattle.tree_points.proofs.Locks.{advanced_none, advanced_on, no_further, own_spare, allowed, further, advanced_with}
use Rattle.citrus_tree.specs.Deletes.{KeepsAll, KeepsRest, OnlyLoads, locked_slots, retired_slots, HasMadeRoom, KeepsValue, TakesValue, TellsTaken, HasCopied, HasDone, KeepsWaits}
use Rattle.citrus_tree.specs.Going.{retired_marks, RetiresBehind, Opened}
use Rattle.prcu_marks.specs.declared.mark.Mark.{Mark}
use Rattle.prcu_marks.specs.Marks.{updates_of, own_of}
use Rattle.prcu_marks.proofs.Marks.{updates_of-append}
use Rattle.prcu_model.proofs.ListFacts.{prefix_trans}
use Rattle.prcu_model.specs.declared.operation.Op.{Op}
use Rattle.prcu_model.specs.declared.operation.Told.{Told as Reply}
use Rattle.std.specs.Prelude.{IfSome, is_some}
use Rattle.core_state.specs.declared.view.Reading.{Reading}
use Rattle.core_state.specs.declared.view.Section.{Section}
use Rattle.core_laws.proofs.Acting.{section_is}
use Rattle.core_state.specs.declared.words.Field.{Field}
use Rattle.core_state.specs.declared.words.Field.TheVariants.{Life, Link, Value}
use Rattle.core_state.specs.Memory.{same_field}
use Rattle.core_points.specs.Programs.{Own, or_root, deleting, is_none_left}
use Rattle.core_points.specs.DeleteFacts.{HoldsSuccessor, all_locks, first_locks, two_children}
use Rattle.core_points.specs.Facts.{read_at, stored_at}
use Rattle.core_points.specs.declared.stage.Node.{Node}
use Rattle.core_points.specs.declared.stage.Successor.{Successor}
use Rattle.core_points.proofs.Unlinks.{held_by_load, node_to}
use Rattle.core_points.proofs.Locks.{under_flag, clear_changed, held_still, known_more_under, known_now, loaded_more}
use Rattle.core_points.proofs.Notes.{fits, settled_noted, owns_noted, quiet_unlocking, settled_hand}
use Rattle.core_laws.proofs.Locks.{length_change}
use Rattle.tree_points.proofs.Passing.{moves_on}
use Rattle.citrus_tree.specs.Replies.{TellsValue, TookOut}
use Rattle.std.proofs.lemmas.List.{map-append}
use Rattle.prcu_marks.specs.declared.mark.Mark.TheVariants.{Done, Unlinked}
use Rattle.prcu_model.specs.Dictionary.{map_of}
use Rattle.prcu_model.specs.declared.operation.Op.TheVariants.{Del}
use Rattle.core_frames.proofs.Roles.{map_append}
use Rattle.core_state.specs.declared.act.Act.TheVariants as acts
use Rattle.core_points.specs.declared.stage.Stage.TheVariants as at
use Rattle.core_state.specs.declared.act.Part.TheVariants as part
use Rattle.std.specs.FinMap as finite
use Rattle.core_points.specs.declared.stage.Last.TheVariants as last
use Rattle.core_points.specs.declared.stage.Update.TheVariants as update

-- What single steps leave as it was: a delete's other locks and retired slots, its waits, and the marks of its place.

pub keeps_on : (v w x : View) → KeepsAll v w → KeepsAll w x → KeepsAll v x
keeps_on v w x f g = record {
  advanced = advanced_on f.advanced g.advanced;
  waits = record { wait = g.waits.wait ∙ f.waits.wait; count = g.waits.count ∙ f.waits.count };
  retired = g.retired ∙ f.retired;
  stay = g.stay ∙ f.stay;
  locked = g.locked ∙ f.locked;
}

pub keeps_rest : (v w x : View) → KeepsRest v w → KeepsRest w x → KeepsRest v x
keeps_rest v w x f g = record {
  advanced = advanced_on f.advanced g.advanced;
  waits = record { wait = g.waits.wait ∙ f.waits.wait; count = g.waits.count ∙ f.waits.count };
  retired = g.retired ∙ f.retired;
  stay = g.stay ∙ f.stay;
}

pub rest_of : (v w : View) → KeepsAll v w → KeepsRest v w
rest_of v w f = record { advanced = f.advanced; waits = f.waits; retired = f.retired; stay = f.stay }

-- Locks.
pub slots_kept : (s : ℕ) (f : HeldLock → HeldLock) → ((l : HeldLock) → (f l).slot ≡ l.slot) → (ls : List HeldLock)
    → map (λ (l : HeldLock). l.slot) (change_lock s f ls) ≡ map (λ (l : HeldLock). l.slot) ls
slots_kept s f same [] = refl
slots_kept s f same (l ∷ ls) =
    let head : (cond (l.slot == s) (f l) l).slot ≡ l.slot =
    elim (l.slot == s) as (λ b. (cond b (f l) l).slot ≡ l.slot) [ true ↦ same l | false ↦ refl ] in
    ap (λ x. x ∷ map (λ (l : HeldLock). l.slot) (change_lock s f ls)) head ∙ ap (λ xs. l.slot ∷ xs) (slots_kept s f same ls)

pub noted_kept : (s : ℕ) (known : Known) (ls : List HeldLock)
    → map (λ (l : HeldLock). l.slot) (change_lock s (note_lock known) ls) ≡ map (λ (l : HeldLock). l.slot) ls
noted_kept s known ls = slots_kept s (note_lock known) (λ l. refl) ls

same_emptied : (b : Side) (l : HeldLock) → (with_emptied b false l).slot ≡ l.slot
same_emptied Left l = refl
same_emptied Right l = refl

-- the slots of what stays retired
marked_slots : (rs : List Retired) → map (λ (x : ℕ × ℕ × Bool). x.0) (map (λ (r : Retired). (r.slot, r.unlinked, r.waited)) rs)
    ≡ map (λ (r : Retired). r.slot) rs
marked_slots [] = refl
marked_slots (r ∷ rs) = ap (λ xs. r.slot ∷ xs) (marked_slots rs)

pub slots_stay : (v w : View) → retired_marks w ≡ retired_marks v → retired_slots w ≡ retired_slots v
slots_stay v w stay = sym (marked_slots w.hands.retired) ∙ ap (map (λ (x : ℕ × ℕ × Bool). x.0)) stay ∙ marked_slots v.hands.retired

pub keeps : (v w : View) → IsPrefix v.trail.steps w.trail.steps → KeepsAllowance v w → w.seen ≡ v.seen → w.wait ≡ v.wait
    → w.counts.waits ≡ v.counts.waits
    → retired_marks w ≡ retired_marks v → locked_slots w ≡ locked_slots v → KeepsAll v w
keeps v w steps allowance seen wait waits stay locked =
    record {
      advanced = advanced_none steps allowance seen;
      waits = record { wait = wait; count = waits };
      retired = slots_stay v w stay;
      stay = stay;
      locked = locked;
    }

pub keeps_self : (v : View) → KeepsAll v v
keeps_self v = keeps v v (no_further v v refl) (record { rest = refl }) refl refl refl refl refl

pub keeps_search_load : (k : Shape) (v w : View) (s : ℕ) (p : Part) (n : ℕ) → Told k v (acts.SearchLoad s p) n w → KeepsAll v w
keeps_search_load k v w s p n t = subst (KeepsAll v) (sym t.goes) (keeps v _ (_, refl) (record { rest = refl }) refl refl refl refl refl)

pub loads_self : (v : View) → OnlyLoads v v
loads_self v = record {
  all = keeps_self v;
  made = made_none is_load v.trail;
  others = refl;
  inside = λ section is. (section.reading, is);
}

pub loads_on : (v w x : View) → OnlyLoads v w → OnlyLoads w x → OnlyLoads v x
loads_on v w x f g = record {
  all = keeps_on v w x f.all g.all;
  made = made_both is_load is_load is_load (λ kind is. is) (λ kind is. is) v.trail w.trail x.trail f.made g.made;
  others = g.others ∙ ap (λ (z : View). record z { section = x.section; trail = x.trail }) f.others;
  inside = λ section is. let one = f.inside section is in g.inside (record section { reading = one.0 }) one.1;
}

pub loads_search_load : (k : Shape) (v w : View) (s : ℕ) (p : Part) (n : ℕ) → Told k v (acts.SearchLoad s p) n w → OnlyLoads v w
loads_search_load k v w s p n t = record {
  all = keeps_search_load k v w s p n t;
  made = subst (λ (z : View). Makes is_load v.trail z.trail) (sym t.goes)
      (made_more is_load v.trail v K17 (in_slot s p) n refl (made_none is_load v.trail));
  others = subst (λ (z : View). z ≡ record v { section = z.section; trail = z.trail }) (sym t.goes) refl;
  inside = λ section is. (
    loaded section.reading (in_slot s p) n,
    ap (λ (z : View). z.section) t.goes
        ∙ ap (λ (z : Section). Some (record z { reading = loaded z.reading (in_slot s p) n })) (section_is v section is),
  );
}

pub keeps_locked_load : (k : Shape) (v w : View) (s : ℕ) (p : Part) (n : ℕ) → Told k v (acts.LockedLoad s p) n w → KeepsAll v w
keeps_locked_load k v w s p n t = subst (KeepsAll v) (sym t.goes)
    (keeps v _ (_, refl) (record { rest = refl }) refl refl refl refl (noted_kept s _ v.locks))

pub keeps_mark : (k : Shape) (v w : View) (s life n : ℕ) → Told k v (acts.Mark s life) n w → KeepsAll v w
keeps_mark k v w s life n t = subst (KeepsAll v) (sym t.goes)
    (keeps v _ (_, refl) (record { rest = refl }) refl refl refl refl
    (slots_kept s (with_mark true) (λ l. refl) _ ∙ noted_kept s _ v.locks))

pub keeps_raise_tag : (k : Shape) (v w : View) (s tag n : ℕ) (b : Side) → Told k v (acts.RaiseTag s b tag) n w → KeepsAll v w
keeps_raise_tag k v w s tag n b t = subst (KeepsAll v) (sym t.goes)
    (keeps v _ (_, refl) (record { rest = refl }) refl refl refl refl
    (slots_kept s (with_emptied b false) (same_emptied b) _ ∙ noted_kept s _ v.locks))

pub keeps_fill : (k : Shape) (v w : View) (s : ℕ) (p : Part) (number n : ℕ) → Told k v (acts.Fill s p number) n w → KeepsAll v w
keeps_fill k v w s p number n t = subst (KeepsAll v) (sym t.goes)
    (keeps v _ (_, refl) (record { rest = refl }) refl refl refl refl (noted_kept s _ v.locks))

pub keeps_own_life : (k : Shape) (v w : View) (s n : ℕ) → Told k v (acts.LoadOwnLife s) n w → KeepsAll v w
keeps_own_life k v w s n t = subst (KeepsAll v) (sym t.goes)
    (keeps v _ (_, refl) (record { rest = refl }) refl refl refl refl (noted_kept s _ v.locks))

spare_noted : (o : Option Held) (s copy : ℕ) (known : Known) → IsSlotOf (Some copy) o → IsSlotOf (Some copy) (note_option s known o)
spare_noted None s copy known is = is
spare_noted (Some held) s copy known is =
    let same : (note_held s known held).slot ≡ held.slot =
    elim (held.slot == s) as (λ b. (cond b (record held { known = known ∷ held.known }) held).slot ≡ held.slot) [
      | true ↦ refl
      | false ↦ refl
    ] in
    is ∙ sym same

pub spare_fill : (k : Shape) (v w : View) (s : ℕ) (p : Part) (number n copy : ℕ) → Told k v (acts.Fill s p number) n w
    → IsSlotOf (Some copy) v.hands.spare → IsSlotOf (Some copy) w.hands.spare
spare_fill k v w s p number n copy t is = subst (λ (x : View). IsSlotOf (Some copy) x.hands.spare) (sym t.goes)
    (spare_noted v.hands.spare s copy _ is)

pub spare_locked_load : (k : Shape) (v w : View) (s : ℕ) (p : Part) (n copy : ℕ) → Told k v (acts.LockedLoad s p) n w
    → IsSlotOf (Some copy) v.hands.spare → IsSlotOf (Some copy) w.hands.spare
spare_locked_load k v w s p n copy t is = subst (λ (x : View). IsSlotOf (Some copy) x.hands.spare) (sym t.goes)
    (spare_noted v.hands.spare s copy _ is)

pub spare_own_life : (k : Shape) (v w : View) (s n copy : ℕ) → Told k v (acts.LoadOwnLife s) n w → IsSlotOf (Some copy) v.hands.spare
    → IsSlotOf (Some copy) w.hands.spare
spare_own_life k v w s n copy t is = subst (λ (x : View). IsSlotOf (Some copy) x.hands.spare) (sym t.goes)
    (spare_noted v.hands.spare s copy _ is)

-- the two views that a lock leaves: as tried, with the lock or without it
spare_if : (z : Bool) (copy : ℕ) (x y : View) → IsSlotOf (Some copy) x.hands.spare → IsSlotOf (Some copy) y.hands.spare
    → IsSlotOf (Some copy) (cond z x y).hands.spare
spare_if true copy x y a b = a
spare_if false copy x y a b = b

pub spare_lock : (k : Shape) (v w : View) (s n copy : ℕ) → Told k v (acts.Lock s) n w → IsSlotOf (Some copy) v.hands.spare
    → IsSlotOf (Some copy) w.hands.spare
spare_lock k v w s n copy t is = subst (λ (x : View). IsSlotOf (Some copy) x.hands.spare) (sym t.goes) (spare_if (n == 0) copy _ _ is is)

-- Locks are got and given up.
pub keeps_rest_of : (v w : View) → IsPrefix v.trail.steps w.trail.steps → KeepsAllowance v w → w.seen ≡ v.seen → w.wait ≡ v.wait
    → w.counts.waits ≡ v.counts.waits
    → retired_marks w ≡ retired_marks v → KeepsRest v w
keeps_rest_of v w steps allowance seen wait waits stay =
    record {
      advanced = advanced_none steps allowance seen;
      waits = record { wait = wait; count = waits };
      retired = slots_stay v w stay;
      stay = stay;
    }

pub rest_lock : (k : Shape) (v w : View) (s n : ℕ) → Told k v (acts.Lock s) n w → KeepsRest v w
rest_lock k v w s n t = subst (KeepsRest v) (sym t.goes) (by (n == 0))
  where
    u : View
    u = noted v (acts.Lock s) n

    by : (z : Bool) → KeepsRest v (cond z (record u { locks = new_lock s ∷ u.locks }) u)
    by true = keeps_rest_of v _ (_, refl) (record { rest = refl }) refl refl refl refl
    by false = keeps_rest_of v _ (_, refl) (record { rest = refl }) refl refl refl refl

pub locks_busy : (k : Shape) (v w : View) (s n : ℕ) → n ≢ 0 → Told k v (acts.Lock s) n w → w.locks ≡ v.locks
locks_busy k v w s n busy t =
    let u : View = noted v (acts.Lock s) n in
    ap (λ (x : View). x.locks) (t.goes ∙ ap (λ z. cond z (record u { locks = new_lock s ∷ u.locks }) u) (ne_eqb n 0 busy))

pub rest_unlock : (k : Shape) (v w : View) (s n : ℕ) → Told k v (acts.Unlock s) n w → KeepsRest v w
rest_unlock k v w s n t = subst (KeepsRest v) (sym t.goes) (keeps_rest_of v _ (_, refl) (record { rest = refl }) refl refl refl refl)

-- the same slots are locked
pub same_locks : {v w : View} {slots : List ℕ} → locked_slots w ≡ locked_slots v → HasLocks slots v → HasLocks slots w
same_locks {v} {w} {slots} e has = record { same = λ s. ap (times s) e ∙ has.same s }

pub no_lock : (v : View) (s : ℕ) → v.locks ≡ [] → HasLock v s → ⊥
no_lock v s none has = absurd (let q : None ≡ Some has.0 = sym (ap (λ ls. lock_of ls s) none) ∙ has.1 in cc)

-- The value of a node that is taken out: it is loaded under the node's lock, and known there until the update.

-- The load: a call that is about to take a node out stays where it is.
few_at : {k : Shape} {op : Op} {kept : ℕ} {v : View} (d : Node) (n : ℕ) → IsAt k op kept (deleting d None) v
    → IsAt k op kept (deleting d None) (noting (noted v (acts.LockedLoad d.node part.Value) n) d.node (Value d.node) n false)
few_at {k} {op} {kept} {v} d n a =
    let o : Own = a.own in
    let p = a.fits.point in
    let few = p.few in
    let kn : Known = read_at (Value d.node) n in
    let now : List HeldLock = change_lock d.node (note_lock kn) v.locks in
    moves_on a o refl (record {
      owns = owns_noted o v d.node (Value d.node) n false a.fits.owns;
      tickets = a.fits.tickets;
      unraised = λ z. a.fits.unraised refl;
      point = record {
        quiet = settled_noted o v d.node (Value d.node) n false None p.quiet;
        deleting = p.deleting;
        has_locks = p.has_locks;
        clear = clear_changed d.node (note_lock kn) (λ l c. c) v.locks p.clear;
        few = (
          few.0,
          few.1,
          node_to v.records v.locks now few.0 d (λ x e. loaded_more v.locks d.node kn d.parent (Life d.parent) x refl e)
              (λ b x e. loaded_more v.locks d.node kn d.parent (Link d.parent b) x refl e)
              (λ b x e. loaded_more v.locks d.node kn d.node (Link d.node b) x refl e) few.2,
          few.3,
        );
        unmarked = loaded_more v.locks d.node kn d.node (Life d.node) (2 * d.generation) refl p.unmarked;
        child_is = p.child_is;
      };
    })

successor_still : (ls : List HeldLock) (s : ℕ) (kn : Known) (r : Reading) (d : Node) (u : Successor)
    → ((t : ℕ) → same_field kn.field (Life t) ≡ false) → ((t : ℕ) → same_field kn.field (Link t Left) ≡ false)
    → HoldsSuccessor ls r d u → HoldsSuccessor (change_lock s (note_lock kn) ls) r d u
successor_still ls s kn r d u no_life no_link x = record {
  left_some = x.left_some;
  right_some = x.right_some;
  had = x.had;
  walk = x.walk;
  apart = x.apart;
  link = ⊎_elim (λ (y : (u.parent ≡ d.node) × (d.right ≡ u.slot)). inl y)
      (λ y. inr (
        y.0,
        y.1,
        loaded_more ls s kn u.parent (Life u.parent) (2 * u.parent_generation) (no_life u.parent) y.2,
        loaded_more ls s kn u.parent (Link u.parent Left) u.slot (no_link u.parent) y.3,
      )) x.link;
  recorded = x.recorded;
  life = loaded_more ls s kn u.slot (Life u.slot) (2 * u.generation) (no_life u.slot) x.life;
  left = loaded_more ls s kn u.slot (Link u.slot Left) 0 (no_link u.slot) x.left;
}

both_at : {k : Shape} {op : Op} {kept : ℕ} {v : View} (d : Node) (u : Successor) (n : ℕ) → IsAt k op kept (at.SuccessorKey d u) v
    → IsAt k op kept (at.SuccessorKey d u) (noting (noted v (acts.LockedLoad d.node part.Value) n) d.node (Value d.node) n false)
both_at {k} {op} {kept} {v} d u n a =
    let o : Own = a.own in
    let p = a.fits.point in
    let c = p.copying in
    let both = c.both in
    let kn : Known = read_at (Value d.node) n in
    let now : List HeldLock = change_lock d.node (note_lock kn) v.locks in
    moves_on a o refl (record {
      owns = owns_noted o v d.node (Value d.node) n false a.fits.owns;
      tickets = a.fits.tickets;
      unraised = λ z. a.fits.unraised refl;
      point = record {
        copying = record {
          quiet = settled_noted o v d.node (Value d.node) n false None c.quiet;
          deleting = c.deleting;
          both = (
            both.0,
            both.1,
            node_to v.records v.locks now both.0 d (λ x e. loaded_more v.locks d.node kn d.parent (Life d.parent) x refl e)
                (λ b x e. loaded_more v.locks d.node kn d.parent (Link d.parent b) x refl e)
                (λ b x e. loaded_more v.locks d.node kn d.node (Link d.node b) x refl e) both.2,
            successor_still v.locks d.node kn both.0 d u (λ t. refl) (λ t. refl) both.3,
          );
        };
        unmarked = loaded_more v.locks d.node kn d.node (Life d.node) (2 * d.generation) refl p.unmarked;
        clear = clear_changed d.node (note_lock kn) (λ l c. c) v.locks p.clear;
        few = subst (λ x. x ≤ 4) (sym (length_change d.node (note_lock kn) (λ l. refl) v.locks)) p.few;
        locks_are = p.locks_are;
        held = held_still v.locks d.node (note_lock kn) (λ l. refl) u.slot p.held;
      };
    })

-- the node is locked
node_locked : {k : Shape} {op : Op} {kept : ℕ} {v : View} (d : Node) (o : Option Successor) → IsAt k op kept (deleting d o) v
    → HasLock v d.node
node_locked {v = v} d None a = let held = held_by_load v d.node (Life d.node) (2 * d.generation) (a.fits.point).unmarked in (held.0, held.1)
node_locked {v = v} d (Some u) a = let held = held_by_load v d.node (Life d.node) (2 * d.generation) (a.fits.point).unmarked in
    (held.0, held.1)

pub loads_value : {k : Shape} {op : Op} {kept : ℕ} {v : View} (d : Node) (o : Option Successor) → IsAt k op kept (deleting d o) v
    → IsAsked k v (acts.LockedLoad d.node part.Value)
loads_value d o a now = (now.tells.locks_within d.node (node_locked d o a), record { held = node_locked d o a; loadable = refl })

pub value_loaded_at : {k : Shape} {op : Op} {kept n : ℕ} {v w : View} (d : Node) (o : Option Successor) → IsAt k op kept (deleting d o) v
    → Told k v (acts.LockedLoad d.node part.Value) n w → IsAt k op kept (deleting d o) w
value_loaded_at {k} {op} {kept} {n} {v} {w} d None a t =
    subst (λ (x : View). IsAt k op kept (deleting d None) x) (sym t.goes) (few_at d n a)
value_loaded_at {k} {op} {kept} {n} {v} {w} d (Some u) a t =
    subst (λ (x : View). IsAt k op kept (at.SuccessorKey d u) x) (sym t.goes) (both_at d u n a)

-- Where its value isn't the expected one it gives its locks up, as where it isn't as it was found.
some_locks : (d : Node) (u : Successor) → is_none_left (all_locks d u) ≡ false
some_locks d u = by (u.parent == d.node)
  where
    by : (z : Bool) → is_none_left (first_locks (two_children d u) (cond z 3 4)) ≡ false
    by true = refl
    by false = refl

pub gives_up_node : {k : Shape} {op : Op} {kept : ℕ} {v : View} (d : Node) (o : Option Successor) → IsAt k op kept (deleting d o) v
    → IsAt k op kept (at.Unlock last.Again) v
gives_up_node {v = v} d None a =
    let p = a.fits.point in
    moves_on a a.own refl (fits a.fits.owns (a.fits.unraised refl) a.fits.tickets
    (quiet_unlocking p.quiet p.quiet.turn_is p.clear p.has_locks, settled_hand a.own v p.quiet, p.deleting.1))
gives_up_node {v = v} d (Some u) a =
    let p = a.fits.point in
    let c = p.copying in
    moves_on a a.own refl (fits a.fits.owns (a.fits.unraised refl) a.fits.tickets
    (quiet_unlocking c.quiet c.quiet.turn_is p.clear (ap is_none_left p.locks_are ∙ some_locks d u), settled_hand a.own v c.quiet, c.deleting.1))

pub value_known : {k : Shape} {op : Op} {kept n : ℕ} {v w : View} (d : Node) (o : Option Successor) → IsAt k op kept (deleting d o) v
    → Told k v (acts.LockedLoad d.node part.Value) n w → known_in (known_under w d.node) (Value d.node) ≡ Some n
value_known {n = n} {v = v} d o a t =
    ap (λ (x : View). known_in (known_under x d.node) (Value d.node)) t.goes
    ∙ known_now v.locks d.node (Value d.node) n (node_locked d o a)

-- Steps that leave what is known of the value.
pub value_on : {s : ℕ} {v w x : View} → KeepsValue s v w → KeepsValue s w x → KeepsValue s v x
value_on first later = record { still = λ value known. later.still value (first.still value known) }

value_noted : (v : View) (s t : ℕ) (field : Field) (number : ℕ) (by_store : Bool) (value : ℕ) → same_field field (Value t) ≡ false
    → known_in (known_under v t) (Value t) ≡ Some value
    → known_in (known_under (noting v s field number by_store) t) (Value t) ≡ Some value
value_noted v s t field number by_store value other known =
    known_more_under v.locks s (record { field = field; number = number; stored = by_store }) t (Value t) value other known

pub value_load : {k : Shape} {n : ℕ} {v w : View} (s t : ℕ) (p : Part) → same_field (in_slot s p) (Value t) ≡ false
    → Told k v (acts.LockedLoad s p) n w → KeepsValue t v w
value_load {n = n} {v = v} s t p other told = record {
  still = λ value known. ap (λ (x : View). known_in (known_under x t) (Value t)) told.goes
      ∙ value_noted v s t (in_slot s p) n false value other known;
}

pub value_fill : {k : Shape} {n number : ℕ} {v w : View} (s t : ℕ) (p : Part) → same_field (in_slot s p) (Value t) ≡ false
    → Told k v (acts.Fill s p number) n w → KeepsValue t v w
value_fill {number = number} {v = v} s t p other told = record {
  still = λ value known. ap (λ (x : View). known_in (known_under x t) (Value t)) told.goes
      ∙ value_noted v s t (in_slot s p) number true value other known;
}

pub value_own_life : {k : Shape} {n : ℕ} {v w : View} (s t : ℕ) → Told k v (acts.LoadOwnLife s) n w → KeepsValue t v w
value_own_life {n = n} {v = v} s t told = record {
  still = λ value known. ap (λ (x : View). known_in (known_under x t) (Value t)) told.goes
      ∙ value_noted v s t (Life s) n false value refl known;
}

pub value_mark : {k : Shape} {n : ℕ} {v w : View} (s life t : ℕ) → Told k v (acts.Mark s life) n w → KeepsValue t v w
value_mark {v = v} s life t told =
    let kn : Known = stored_at (Life s) (life + 1) in
    record {
      still = λ value known. ap (λ (x : View). known_in (known_under x t) (Value t)) told.goes
          ∙ ap (λ ks. known_in ks (Value t)) (under_flag (change_lock s (note_lock kn) v.locks) s (with_mark true) (λ l. refl)
          (λ l. refl) t)
          ∙ known_more_under v.locks s kn t (Value t) value refl known;
    }

pub value_opened : (s front : ℕ) (v w : View) → Opened v front w → KeepsValue s v w
value_opened s front v w e = record {
  still = λ value known. ap (λ (x : View). known_in (known_under x s) (Value s)) e.rest ∙ known;
}

-- a lock of another slot is got
pub value_lock : {k : Shape} {n : ℕ} {v w : View} (s t : ℕ) → s ≢ t → Told k v (acts.Lock s) n w → KeepsValue t v w
value_lock {n = n} {v = v} s t ne told = record {
  still = λ value known. ap (λ (x : View). known_in (known_under x t) (Value t)) told.goes ∙ by value known (n == 0);
}
  where
    u : View
    u = noted v (acts.Lock s) n

    by : (value : ℕ) → known_in (known_under v t) (Value t) ≡ Some value → (z : Bool)
        → known_in (known_under (cond z (record u { locks = new_lock s ∷ u.locks }) u) t) (Value t) ≡ Some value
    by value known true = ap (λ z. known_in (known_of (cond z (Some (new_lock s)) (lock_of v.locks t))) (Value t)) (ne_eqb s t ne) ∙ known
    by value known false = known

-- the copy isn't the node
pub copy_aside : {k : Shape} {op : Op} {kept next_key copy : ℕ} {v : View} (d : Node) (u : Successor)
    → IsAt k op kept (at.CopyLock d u next_key) v → IsSlotOf (Some copy) v.hands.spare → copy ≢ d.node
copy_aside d u a spare same =
    ((a.fits.point).1).aside.node (ap or_root (own_spare a spare) ∙ same)

-- What an update took out stays so in the longer history.
updates_grow : (h seen : List Mark) → IsPrefix h seen → IsPrefix (updates_of h) (updates_of seen)
updates_grow h seen (more, e) = (updates_of more, sym (updates_of-append h more) ∙ ap updates_of e)

took_later : {caller key value number : ℕ} (h seen : List Mark) → IsPrefix h seen → TookOut (updates_of h) caller key value number
    → TookOut (updates_of seen) caller key value number
took_later h seen grows t = record {
  before = t.before;
  stands = prefix_trans _ (updates_of h) (updates_of seen) t.stands (updates_grow h seen grows);
  number_is = t.number_is;
  value_is = t.value_is;
}

pub takes_more : {v w : View} {node key number : ℕ} (x : View) → IsPrefix w.seen x.seen → TakesValue v node key number w
    → TakesValue v node key number x
takes_more {w = w} x grows takes = record { took = λ value known. took_later w.seen x.seen grows (takes.took value known) }

pub takes_since : {marks : List Mark} {v w x : View} {node key number : ℕ} → HasAdvanced v w marks → KeepsValue node v w
    → TakesValue w node key number x → TakesValue v node key number x
takes_since {x = x} {key = key} {number = number} advanced keeps takes = record {
  took = λ value known. subst (λ p. TookOut (updates_of x.seen) p key value number) advanced.same (takes.took value (keeps.still value known));
}

-- What is told of the value: by a try that took the node out, and by the call whole.
pub told_taken : {marks : List Mark} {v w x : View} {node key number : ℕ} (o : Option ℕ) → HasAdvanced v w marks → is_some o ≡ true
    → IfSome o (λ value. known_in (known_under w node) (Value node) ≡ Some value) → TakesValue w node key number x
    → TellsTaken v key number o x
told_taken None advanced some known takes = absurd (let q : false ≡ true = some in cc)
told_taken {x = x} {key = key} {number = number} (Some value) advanced some known takes =
    subst (λ p. TookOut (updates_of x.seen) p key value number) advanced.same (takes.took value known)

pub told_since : {k : Shape} {v u : View} (w : View) (key : ℕ) (told : Reply) (o : Option ℕ) → HasMadeRoom k v u → TellsValue u key told o w
    → TellsValue v key told o w
told_since w key told (Some value) room tells =
    (tells.0, subst (λ p. TookOut (updates_of w.seen) p key value told.number) room.advanced.same tells.1)
told_since w key told None room tells = tells

-- What the two updates of a delete leave: the bypass of a node, and the link of a copy.

-- A mark of the update, and one of the node's unlinking.
abbrev done_mark : View → Op → Mark
done_mark v op = Done (record { caller = v.allowance.place; op = op })

own_done : (p node : ℕ) (op : Op) → own_of p (Done (record { caller = p; op = op }) ∷ (Unlinked node ∷ []))
    ≡ Done (record { caller = p; op = op }) ∷ []
own_done p node op = ap (λ z. cond z (Done (record { caller = p; op = op }) ∷ []) []) (eq-eqb p p refl)

half_front : (front n : ℕ) → front + 2 ≡ 2 * (n + 1) → front / 2 + 1 ≡ n + 1
half_front front n e = omega arith

updates_more : (p node : ℕ) (op : Op) (h : List Mark)
    → length (updates_of (h ++ Done (record { caller = p; op = op }) ∷ (Unlinked node ∷ []))) ≡ length (updates_of h) + 1
updates_more p node op h = ap length (updates_of-append h _) ∙ length_snoc (updates_of h) _
  where
    length_snoc : {A : Type 0} (xs : List A) (x : A) → length (xs ++ x ∷ []) ≡ length xs + 1
    length_snoc [] x = refl
    length_snoc (y ∷ xs) x = (let e = length_snoc xs x in omega arith)

pub done_by_marks : (v w : View) (op : Op) (h : List Mark) (node front : ℕ) → IsPrefix v.trail.steps w.trail.steps → Sees v h
    → KeepsAllowance v w
    → w.seen ≡ h ++ done_mark v op ∷ (Unlinked node ∷ []) → front + 2 ≡ 2 * length (updates_of w.seen)
    → HasDone v op node [] (front / 2 + 1) w
done_by_marks v w op h node front steps sees keeps e counted = record {
  before = h;
  advanced = subst (HasAdvanced v w) (own_done v.allowance.place node op) (advanced_with h (done_mark v op ∷ (Unlinked node ∷ [])) steps sees keeps e);
  since = sees.begins;
  stands = ([], append-nil (h ++ done_mark v op ∷ (Unlinked node ∷ [])) ∙ sym e);
  number_is = half_front front (length (updates_of h))
      (counted ∙ ap (λ n. 2 * n) (ap (λ l. length (updates_of l)) e ∙ updates_more v.allowance.place node op h));
}

-- the pair that it took out
took_by_marks : (v w : View) (h : List Mark) (node key front value : ℕ) → w.seen ≡ h ++ done_mark v (Del key) ∷ (Unlinked node ∷ [])
    → front + 2 ≡ 2 * length (updates_of w.seen) → finite.get (map_of (updates_of h)) key ≡ Some value
    → TookOut (updates_of w.seen) v.allowance.place key value (front / 2 + 1)
took_by_marks v w h node key front value e counted is = record {
  before = updates_of h;
  stands = (
    [],
    append-nil (updates_of h ++ record { caller = v.allowance.place; op = Del key } ∷ [])
        ∙ sym (ap updates_of e ∙ updates_of-append h (done_mark v (Del key) ∷ (Unlinked node ∷ []))),
  );
  number_is = half_front front (length (updates_of h))
      (counted ∙ ap (λ n. 2 * n) (ap (λ l. length (updates_of l)) e ∙ updates_more v.allowance.place node (Del key) h));
  value_is = is;
}

-- Steps before and after the update.
pub done_later : (v w x : View) (op : Op) (node : ℕ) (after : List Mark) (n : ℕ) → KeepsAll v w → HasDone w op node after n x
    → HasDone v op node after n x
done_later v w x op node after n k d =
    let same = k.advanced.same in
    record {
      before = d.before;
      advanced = subst (λ p. HasAdvanced v x (Done (record { caller = p; op = op }) ∷ after)) same (advanced_on k.advanced d.advanced);
      since = prefix_trans v.seen w.seen d.before k.advanced.begins d.since;
      stands = subst (λ p. IsPrefix (d.before ++ Done (record { caller = p; op = op }) ∷ (Unlinked node ∷ [])) x.seen) same d.stands;
      number_is = d.number_is;
    }

pub done_more : (v w x : View) (op : Op) (node : ℕ) (after more : List Mark) (n : ℕ) → HasDone v op node after n w → HasAdvanced w x more
    → HasDone v op node (after ++ more) n x
done_more v w x op node after more n d g = record {
  before = d.before;
  advanced = advanced_on d.advanced g;
  since = d.since;
  stands = prefix_trans _ w.seen x.seen d.stands g.begins;
  number_is = d.number_is;
}

pub done_still : (v w x : View) (op : Op) (node : ℕ) (after : List Mark) (n : ℕ) → HasDone v op node after n w → HasAdvanced w x []
    → HasDone v op node after n x
done_still v w x op node after n d g = subst (λ l. HasDone v op node l n x) (append-nil after) (done_more v w x op node after [] n d g)

-- The bypass.
module _ (k : Shape) (key kept : ℕ) (d : Node) (child front n : ℕ) (v w : View)
    (a : IsAt k (Del key) kept (at.Store (update.Bypass d child) front) v)
    (t : Told k v (acts.Bypass d.parent d.side d.node child key) n w) where
  bypass_front : front + 2 ≡ 2 * length (updates_of w.seen)
  bypass_front = t.gains.counted.found (record { found = front; stored = false }) ((a.fits.point).quiet).turn_is

  pub bypass_done : HasDone v (Del key) d.node [] (front / 2 + 1) w
  bypass_done = done_by_marks v w (Del key) t.marks d.node front (further v _ t.goes refl) t.sees (allowed t.goes refl)
      (ap (λ (x : View). x.seen) t.goes) bypass_front

  pub bypass_takes : TakesValue v d.node key (front / 2 + 1) w
  bypass_takes = record {
    took = λ value known. took_by_marks v w t.marks d.node key front value (ap (λ (x : View). x.seen) t.goes) bypass_front
        (t.gains.was value known);
  }

relinked_kept : (parent child gone : ℕ) (b : Side) (ls : List HeldLock)
    → map (λ (l : HeldLock). l.slot) (relinked parent b child gone ls) ≡ map (λ (l : HeldLock). l.slot) ls
relinked_kept parent child gone b ls = slots_kept gone (with_mark false) (λ l. refl) _ ∙ by (child == 0)
  where
    emptied_slot : (c : Side) (l : HeldLock) → (with_emptied c true l).slot ≡ l.slot
    emptied_slot Left l = refl
    emptied_slot Right l = refl

    by : (z : Bool) → map (λ (l : HeldLock). l.slot) (cond z (change_lock parent (with_emptied b true) ls) ls)
        ≡ map (λ (l : HeldLock). l.slot) ls
    by true = slots_kept parent (with_emptied b true) (emptied_slot b) ls
    by false = refl

module _ (k : Shape) (p node child key n : ℕ) (b : Side) (v w : View) (t : Told k v (acts.Bypass p b node child key) n w) where
  pub bypass_locked : locked_slots w ≡ locked_slots v
  bypass_locked = ap locked_slots t.goes ∙ relinked_kept p child node b _ ∙ noted_kept p _ v.locks

  pub bypass_retired : retired_slots w ≡ retired_slots v ++ node ∷ []
  bypass_retired = ap retired_slots t.goes ∙ map_append v.hands.retired _

  pub bypass_stay : RetiresBehind v w
  bypass_stay = (_, ap retired_marks t.goes ∙ map-append (λ (r : Retired). (r.slot, r.unlinked, r.waited)) v.hands.retired _)

  pub bypass_waits : KeepsWaits v w
  bypass_waits = record { wait = ap (λ (x : View). x.wait) t.goes; count = ap (λ (x : View). x.counts.waits) t.goes }

-- The link of a copy.
module _ (k : Shape) (key kept : ℕ) (d : Node) (u : Successor) (next_key copy front n : ℕ) (v w : View)
    (a : IsAt k (Del key) kept (at.Store (update.Copy d u next_key copy) front) v)
    (t : Told k v (acts.LinkCopy d.parent d.side d.node copy u.slot u.parent key next_key) n w) where
  copy_front : front + 2 ≡ 2 * length (updates_of w.seen)
  copy_front = t.gains.counted.found (record { found = front; stored = false }) (((a.fits.point).copying).quiet).turn_is

  copy_done : HasDone v (Del key) d.node [] (front / 2 + 1) w
  copy_done = done_by_marks v w (Del key) t.marks d.node front (further v _ t.goes refl) t.sees (allowed t.goes refl)
      (ap (λ (x : View). x.seen) t.goes) copy_front

  -- the copy has the next key that the dictionary had
  pub copy_made : HasCopied v key next_key d.node (front / 2 + 1) w
  unfolding copy_done done_by_marks
  copy_made = record { done = copy_done; next = t.gains.next }

  pub copy_takes : TakesValue v d.node key (front / 2 + 1) w
  copy_takes = record {
    took = λ value known. took_by_marks v w t.marks d.node key front value (ap (λ (x : View). x.seen) t.goes) copy_front
        (t.gains.was value known);
  }

module _ (k : Shape) (p node copy old above key next_key n : ℕ) (b : Side) (v w : View)
    (t : Told k v (acts.LinkCopy p b node copy old above key next_key) n w) where
  pub copy_locked : locked_slots w ≡ locked_slots v
  copy_locked = ap locked_slots t.goes ∙ slots_kept node (with_mark false) (λ l. refl) _ ∙ noted_kept p _ v.locks

  pub copy_retired : retired_slots w ≡ retired_slots v ++ node ∷ []
  copy_retired = ap retired_slots t.goes ∙ map_append v.hands.retired _

  pub copy_stay : RetiresBehind v w
  copy_stay = (_, ap retired_marks t.goes ∙ map-append (λ (r : Retired). (r.slot, r.unlinked, r.waited)) v.hands.retired _)

  pub copy_waits : KeepsWaits v w
  copy_waits = record { wait = ap (λ (x : View). x.wait) t.goes; count = ap (λ (x : View). x.counts.waits) t.goes }

pub copied_later : (v w x : View) (key next_key node n : ℕ) → KeepsAll v w → HasCopied w key next_key node n x
    → HasCopied v key next_key node n x
unfolding done_later
copied_later v w x key next_key node n k c = record { done = done_later v w x (Del key) node [] n k c.done; next = c.next }

pub copied_still : (v w x : View) (key next_key node n : ℕ) → HasCopied v key next_key node n w → HasAdvanced w x []
    → HasCopied v key next_key node n x
copied_still v w x key next_key node n c g = record {
  done = record {
    before = c.done.before;
    advanced = subst (HasAdvanced v x) (append-nil _) (advanced_on c.done.advanced g);
    since = c.done.since;
    stands = prefix_trans _ w.seen x.seen c.done.stands g.begins;
    number_is = c.done.number_is;
  };
  next = c.next;
}

-- The old successor's unlinking.
pub unlinked_gone : (v w : View) (h : List Mark) (old : ℕ) → IsPrefix v.trail.steps w.trail.steps → Sees v h → KeepsAllowance v w
    → w.seen ≡ h ++ Unlinked old ∷ []
    → HasAdvanced v w []
unlinked_gone v w h old steps sees keeps e = advanced_with h (Unlinked old ∷ []) steps sees keeps e
