-- The parts of an attempt, one after another, and attempts one after another.
use Rattle.std.specs.List.{AllByRecursion}
use Rattle.std.proofs.Common.{◌≡◌, ◌≢◌, ◌⊎◌, ℕ, ◌+◌, ◌*◌, ◌<◌, ◌≤◌, Bool, true, false, cond, List, [], ◌∷◌, ◌++◌, length, map, Some, None, inl, inr, ⊎_elim, refl, sym, ap, subst, ◌∙◌, arith, length-append}
use Rattle.std.proofs.lemmas.List.{map-append}
use mir.Val.{bool_byte as from_bool}
use Rattle.prcu_model.proofs.ListFacts.{all_append}
use Rattle.prcu_marks.specs.declared.mark.Mark.{Mark}
use Rattle.core_state.specs.declared.shape.Shape.{Shape}
use Rattle.core_state.specs.declared.view.Held.{Held}
use Rattle.core_state.specs.declared.view.Reading.{Reading}
use Rattle.core_state.specs.declared.view.Retired.{Retired}
use Rattle.core_state.specs.declared.view.View.{View}
use Rattle.list_laws.specs.Counts.{IsIn}
use Rattle.seat_table.specs.Gains.{IsInformed}
use Rattle.seat_table.specs.Seats.{SeatAt, IsQuietSeat, AreListed}
use Rattle.node_slots.specs.Reclaiming.{HasReclaimed}
use Rattle.node_slots.proofs.Points.{MayReclaim, gives_all, reclaim_advanced, reclaim_retired}
use Rattle.tree_points.specs.Points.{HasAdvanced}
use Rattle.tree_points.proofs.Passing.{none_raised}
use Rattle.tree_points.proofs.Locks.{advanced_on, advanced_same}
use Rattle.citrus_tree.specs.Going.{Goes, IsOfTry, retired_marks, KeepsSeat}
use Rattle.core_state.specs.Views.{unraised_among}
use Rattle.citrus_tree.proofs.Leavings.{goes_on, slots_goes, slots_more, slots_on, slots_reclaimed, slots_self, none_begun, none_yet, reclaimed_first, wait_on}
use Rattle.citrus_tree.proofs.DeleteTries.{empty_listed}
use Rattle.tree_turn.specs.declared.turn.Turn.{Turn}
use Rattle.tree_turn.specs.Turns.{HasRecorded, HasTurnedNone, IsReadyToTurn}
use Rattle.tree_lift.specs.declared.lifting.Aim.{Aim}
use Rattle.tree_lift.specs.Ways.{HasAges, HasRead, Finds}
use Rattle.tree_lift.specs.Lifts.{CanPayTurn, MakesTurn, RefusesTurn, TriesTurn, MakesRoom, Reclaims, TakesSlots, WaitsForRoom, waits_none, waits_once, LeavesNoUpdate, Proceeds, TurnTried, ComesOf, WasTried, ComesBetween, WereTried, made_among, EndsBy, RestsBehind, WasAttempted, Attempts, HasAttempted, HasLifted}
use Rattle.tree_lift.specs.declared.lifting.Attempt.TheVariants.{Tried, Ended as EndedBy}
use Rattle.tree_lift.specs.declared.lifting.Stop.{Stop}
use Rattle.tree_lift.specs.declared.trying.Outcome.{Outcome}
use Rattle.tree_lift.specs.declared.trying.Outcome.TheVariants.{Turned, Refused, NoSlot as NoneFree}
use Rattle.tree_lift.specs.declared.lifting.Stop.TheVariants.{Level, NoRoom, NoSlot, Spent}
use Rattle.tree_lift.proofs.Ways.{goes_read, read_quiet}
use Rattle.tree_lift.proofs.Slots.{goes_back, put_back_quiet}

-- no update was left
same_place : (key : ℕ) {p q : ℕ} → q ≡ p → (ms : List Mark) → AllByRecursion (IsOfTry q key) ms → AllByRecursion (IsOfTry p key) ms
same_place key e ms = subst (λ z. AllByRecursion (IsOfTry z key) ms) e

pub left_none : {v w : View} (key : ℕ) → HasAdvanced v w [] → LeavesNoUpdate v key w
left_none key advanced = record { marks = []; advanced = advanced; each = tt }

pub left_on : {u v w : View} {key : ℕ} → LeavesNoUpdate u key v → LeavesNoUpdate v key w → LeavesNoUpdate u key w
left_on {u} {v} {w} {key} a b = record {
  marks = a.marks ++ b.marks;
  advanced = advanced_on a.advanced b.advanced;
  each = all_append (IsOfTry u.allowance.place key) a.marks b.marks a.each (same_place key a.advanced.same b.marks b.each);
}

pub left_reclaimed : {k : Shape} {v w : View} {listed : List ℕ} (key : ℕ) → HasReclaimed k v listed w → LeavesNoUpdate v key w
left_reclaimed key back = record { marks = _; advanced = reclaim_advanced back; each = ((refl, refl, refl), (refl, tt)) }

-- the parts of an attempt
pub proceeds_same : (key : ℕ) (hard : Bool) (s : SeatAt) → Proceeds key hard s s
proceeds_same key hard s = record {
  updates = left_none key advanced_same;
  wait = inl (none_yet s.view);
  slots = slots_self s;
  unwaited = λ no. refl;
  informed = λ told. told;
}

pub proceeds_on : (key : ℕ) (hard : Bool) (r s t : SeatAt) → Proceeds key hard r s → Proceeds key hard s t → Proceeds key hard r t
proceeds_on key hard r s t a b = record {
  updates = left_on a.updates b.updates;
  wait = wait_on a.slots.waits a.wait b.wait;
  slots = slots_on r s t a.slots b.slots;
  unwaited = λ no. b.unwaited no ∙ a.unwaited no;
  informed = λ told. b.informed (a.informed told);
}

proceeds_goes : (key : ℕ) (hard : Bool) (s t : SeatAt) (ms : List Mark) → Goes s.view t.view ms → AllByRecursion (IsOfTry s.view.allowance.place key) ms
    → t.listed ≡ s.listed → (IsInformed s.view → IsInformed t.view) → Proceeds key hard s t
proceeds_goes key hard s t ms goes each listed informed = record {
  updates = record { marks = ms; advanced = goes.advanced; each = each };
  wait = inl (none_begun goes.advanced goes.waits goes.wait);
  slots = slots_goes s t ms goes listed;
  unwaited = λ no. goes.waits;
  informed = informed;
}

-- No slot is listed, so none is retired.
pub none_listed : (listed : List ℕ) (rs : List Retired) → listed ≡ [] → length listed ≡ length rs → rs ≡ []
none_listed listed [] none long = refl
none_listed listed (r ∷ rs) none long = absurd (let empty = ap (length {A = ℕ}) none in omega (arith, long, empty))

-- and where none is retired none is listed
pub none_retired : (listed : List ℕ) (rs : List Retired) → rs ≡ [] → length listed ≡ length rs → listed ≡ []
none_retired [] rs none long = refl
none_retired (x ∷ listed) rs none long = absurd (let empty = ap (length {A = Retired}) none in omega (arith, long, empty))

proceeds_reclaimed : (k : Shape) (key : ℕ) (hard : Bool) (s t : SeatAt) → Reclaims k hard s t → (IsInformed s.view → IsInformed t.view)
    → Proceeds key hard s t
proceeds_reclaimed k key hard s t back informed = record {
  updates = left_reclaimed key back.back;
  wait = inr (reclaimed_first back.back);
  slots = slots_reclaimed s t back.back;
  unwaited = λ no. absurd (let e : true ≡ false = sym back.stands_still ∙ no in cc);
  informed = informed;
}

-- Room was made.
pub may_reclaim_room : (s : SeatAt) → IsQuietSeat s → 1 ≤ s.view.allowance.tickets → MayReclaim s.view
may_reclaim_room s q paid = record {
  outside = q.view.section;
  unlocked = q.view.locks;
  settled = q.view.moving;
  paid = q.view.owes;
  ticket = paid;
  unraised = none_raised s.view.hands.retired q.view.raised;
}

-- Nothing was waited for, and as many slots stayed retired, before a moment or behind it.
waits_later : {k : Shape} {hard : Bool} {u v w : View} → v.counts.waits ≡ u.counts.waits → v.hands.retired ≡ u.hands.retired
    → WaitsForRoom k hard v w → WaitsForRoom k hard u w
waits_later {k} same kept (waits_none none all) = waits_none (none ∙ same) (all ∙ kept)
waits_later {k} same kept (waits_once hard many one back) =
    waits_once hard (subst (λ (rs : List Retired). k.room ≤ length rs + 1) kept many) (one ∙ ap (λ n. n + 1) same) back

waits_still : {k : Shape} {hard : Bool} {u v w : View} → WaitsForRoom k hard u v → w.counts.waits ≡ v.counts.waits
    → w.hands.retired ≡ v.hands.retired → WaitsForRoom k hard u w
waits_still (waits_none none all) same kept = waits_none (same ∙ none) (kept ∙ all)
waits_still (waits_once hard many one back) same kept = waits_once hard many (same ∙ one) (kept ∙ back)

between_none : {k : Shape} {key : ℕ} {hard : Bool} {v w : View} → HasAdvanced v w [] → w.counts.waits ≡ v.counts.waits
    → w.hands.retired ≡ v.hands.retired → ComesBetween k key hard v w
between_none {k} {key} advanced waits retired = record { updates = left_none key advanced; waits = waits_none waits retired }

-- What an attempt knows once there is room: two more slots may be retired, and it has three tickets left, or two and a spare.
pub record HasRoom (k : Shape) (key : ℕ) (hard : Bool) (s t : SeatAt) : Type 0 where
  pub proceeds : Proceeds key hard s t
  pub quiet : IsQuietSeat t
  pub few : length t.view.hands.retired + 1 < k.room
  pub waits : WaitsForRoom k hard s.view t.view
  pub tickets : (s.view.allowance.tickets ≡ t.view.allowance.tickets)
      ⊎ ((s.view.allowance.tickets ≤ t.view.allowance.tickets + 1) × (t.view.hands.spare ≢ None))

room_there : (k : Shape) (key : ℕ) (hard : Bool) (s t : SeatAt) → t ≡ s → length s.view.hands.retired + 1 < k.room → IsQuietSeat s
    → HasRoom k key hard s t
room_there k key hard s t same few q = subst (HasRoom k key hard s) (sym same)
    (record { proceeds = proceeds_same key hard s; quiet = q; few = few; waits = waits_none refl refl; tickets = inl refl })

some_retired : (most : ℕ) (rs : List Retired) → 2 ≤ most → most ≤ length rs + 1 → rs ≢ []
some_retired most rs roomy many none = let long = ap length none in absurd (omega (arith, roomy, many, long))

pub reclaimed_quiet : (k : Shape) (s t : SeatAt) (listed : List ℕ) → HasReclaimed k s.view listed t.view → t.listed ≡ [] → IsQuietSeat s
    → IsQuietSeat t
reclaimed_quiet k s t listed back none q =
    let e = back.rest in record {
      view = record {
        section = ap (λ (z : View). z.section) e ∙ q.view.section;
        locks = ap (λ (z : View). z.locks) e ∙ q.view.locks;
        reserved = ap (λ (z : View). z.hands.reserved) e ∙ q.view.reserved;
        hand = ap (λ (z : View). z.hands.hand) e ∙ q.view.hand;
        moving = ap (λ (z : View). z.moving) e ∙ q.view.moving;
        owes = ap (λ (z : View). z.hands.owes) e ∙ q.view.owes;
        commit = ap (λ (z : View). z.commit) e ∙ q.view.commit;
        raised = subst (λ (rs : List Retired). unraised_among rs ≡ length rs) (sym (reclaim_retired back)) refl;
      };
      listed = empty_listed t none (reclaim_retired back);
    }

-- what is left of a seat that gave all retired slots back
pub back_keeps : (k : Shape) (s t : SeatAt) → HasReclaimed k s.view s.listed t.view → t.listed ≡ [] → IsQuietSeat s → KeepsSeat 1 s t
back_keeps k s t back none quiet = record {
  quiet = reclaimed_quiet k s t s.listed back none quiet;
  wait = inr (reclaimed_first back);
  slots = slots_reclaimed s t back;
  tickets = (let e = ap (λ (z : View). z.allowance.tickets) back.rest in omega arith);
  allowance = (reclaim_advanced back).allowance;
}

room_reclaimed : (k : Shape) (key : ℕ) (hard : Bool) (s t : SeatAt) → Reclaims k hard s t → (IsInformed s.view → IsInformed t.view)
    → IsQuietSeat s → HasRoom k key hard s t
room_reclaimed k key hard s t back informed q =
    let all = gives_all (λ none. some_retired k.room s.view.hands.retired back.roomy back.many) q.listed.each back.back in record {
      proceeds = proceeds_reclaimed k key hard s t back informed;
      quiet = reclaimed_quiet k s t s.listed back.back back.listed q;
      few = (let long = ap (length {A = Retired}) (reclaim_retired back.back) in let roomy = back.roomy in omega arith);
      waits = waits_once back.stands_still back.many (ap (λ (z : View). z.counts.waits) back.back.rest) (reclaim_retired back.back);
      tickets = inr (all.paid, all.spare);
    }

pub has_room : (k : Shape) (key : ℕ) (hard : Bool) (s t : SeatAt) → MakesRoom k hard s true t → (IsInformed s.view → IsInformed t.view)
    → IsQuietSeat s → HasRoom k key hard s t
has_room k key hard s t room informed q = ⊎_elim
    (λ (there : (t ≡ s) × (length s.view.hands.retired + 1 < k.room)). room_there k key hard s t there.0 there.1 q)
    (λ (back : Reclaims k hard s t). room_reclaimed k key hard s t back informed q)
    room

-- Where there is none nothing was done.
pub room_lacking : (k : Shape) (aim : Aim) (s t : SeatAt) → MakesRoom k aim.hard s false t → IsQuietSeat s
    → HasAttempted k aim s (EndedBy NoRoom) t
room_lacking k aim s t none q = subst (HasAttempted k aim s (EndedBy NoRoom)) (sym none.0) (record {
  proceeds = proceeds_same aim.key aim.hard s;
  attempts = (between_none advanced_same refl refl, (none.1, none.2), (λ e. absurd (let other : NoRoom ≡ Spent = e in cc)));
  tickets = omega arith;
  quiet = q;
})

-- A turn was made, or it wasn't, and the slot in hand was put back.
proceeds_turned : (key : ℕ) (hard : Bool) (x y : SeatAt) (turn : Turn) → MakesTurn x turn y → Proceeds key hard x y
proceeds_turned key hard x y turn made =
    let e = made.turned.rest in
    let gone : List Retired = made.turned.node_gone ∷ (made.turned.child_gone ∷ []) in record {
      updates = left_none key made.advanced;
      wait = inl (none_begun made.advanced (ap (λ (z : View). z.counts.waits) e) (ap (λ (z : View). z.wait) e));
      slots = slots_more x y (map (λ (r : Retired). (r.slot, r.unlinked, r.waited)) gone) (turn.node ∷ (turn.child ∷ []))
          (ap (λ (z : View). z.counts.waits) e) (ap (λ (z : View). z.wait) e)
          (ap retired_marks e ∙ map-append (λ (r : Retired). (r.slot, r.unlinked, r.waited)) x.view.hands.retired gone)
          made.retires;
      unwaited = λ no. ap (λ (z : View). z.counts.waits) e;
      informed = λ told. made.informed;
    }

pub refused_goes : (x y : SeatAt) (turn : Turn) → RefusesTurn x turn y → Goes x.view y.view []
refused_goes x y turn lost =
    let e = lost.none.rest in
    goes_on (record {
      advanced = lost.advanced;
      retired = ap (λ (z : View). z.hands.retired) e;
      wait = ap (λ (z : View). z.wait) e;
      waits = ap (λ (z : View). z.counts.waits) e;
    }) (goes_back lost.back)

proceeds_refused : (key : ℕ) (hard : Bool) (x y : SeatAt) (turn : Turn) → RefusesTurn x turn y → Proceeds key hard x y
proceeds_refused key hard x y turn lost =
    proceeds_goes key hard x y [] (refused_goes x y turn lost) tt (lost.kept ∙ lost.same_list) (λ was. lost.informed)

-- what a turn that was tried leaves, with at most three tickets since there was room
pub record LeavesTried (key : ℕ) (hard : Bool) (s z : SeatAt) : Type 0 where
  pub proceeds : Proceeds key hard s z
  pub tickets : s.view.allowance.tickets ≤ z.view.allowance.tickets + 3
  pub quiet : IsQuietSeat z

-- What a turn needs, once the slots for it are taken.
module _ (k : Shape) (u : SeatAt) (turn : Turn) (recorded : HasRecorded k u.view turn) (x : SeatAt) (takes : TakesSlots k u true x) where
  pub recorded_there : HasRecorded k x.view turn
  recorded_there = record {
    three = recorded.three;
    reading = recorded.reading;
    kept = subst (λ l. IsIn l recorded.reading) (sym takes.records) recorded.kept;
    parent_age = recorded.parent_age;
    node_age = recorded.node_age;
    child_age = recorded.child_age;
  }

  pub ready_there : length u.view.hands.retired + 1 < k.room → CanPayTurn u.view → IsReadyToTurn k.room x.view
  ready_there few pays =
      let both = takes.both refl in
      let q = both.quiet.quiet.view in record {
        outside = q.section;
        unlocked = q.locks;
        settled = q.moving;
        ticket = ⊎_elim
            (λ (three : 3 ≤ u.view.allowance.tickets). let a = takes.tickets in omega (arith, three, a))
            (λ (two : (2 ≤ u.view.allowance.tickets) × (u.view.hands.spare ≢ None)).
            let a = takes.fewer two.1 in let b = two.0 in omega (arith, a, b)) pays;
        room = (let a = ap (length {A = Retired}) takes.goes.retired in omega arith);
        hand = both.hand;
        hand_is = both.hand_is;
        unraised = both.unraised;
        spare = both.spare;
        spare_is = both.spare_is;
      }

  pub listed_there : AreListed x
  listed_there = record { each = (takes.both refl).quiet.quiet.listed.each }

  -- the slot is in hand still, where the turn wasn't made
  pub held_there : (y : SeatAt) → HasTurnedNone x.view turn y.view → (held : Held) × (y.view.hands.hand ≡ Some held) × (held.raised ≡ false)
  held_there y none =
      let both = takes.both refl in
      (both.hand, ap (λ (z : View). z.hands.hand) none.rest ∙ both.hand_is, both.unraised)

-- two tickets are left for the slots
pub two_left : (v : View) → CanPayTurn v → 2 ≤ v.allowance.tickets
two_left v = ⊎_elim (λ (three : 3 ≤ v.allowance.tickets). omega (arith, three))
    (λ (two : (2 ≤ v.allowance.tickets) × (v.hands.spare ≢ None)). two.0)

module _ (k : Shape) (key : ℕ) (hard : Bool) (s t : SeatAt) (room : HasRoom k key hard s t) where
  -- A section went down the way.
  module _ (u : SeatAt) (r : Reading) (read : HasRead t.view key r u.view) (listed : u.listed ≡ t.listed) where
    pub proceeds_read : Proceeds key hard s u
    proceeds_read = proceeds_on key hard s t u room.proceeds
        (proceeds_goes key hard t u _ (goes_read read) ((refl, refl), (refl, tt)) listed (λ told. read.informed))

    pub between_read : ComesBetween k key hard s.view u.view
    between_read = record {
      updates = proceeds_read.updates;
      waits = waits_still room.waits (ap (λ (z : View). z.counts.waits) read.others) (ap (λ (z : View). z.hands.retired) read.others);
    }

    pub read_tickets : s.view.allowance.tickets ≤ u.view.allowance.tickets + 3
    read_tickets = ⊎_elim
        (λ (same : s.view.allowance.tickets ≡ t.view.allowance.tickets). let e = ap (λ (z : View). z.allowance.tickets) read.others in omega arith)
        (λ (paid : (s.view.allowance.tickets ≤ t.view.allowance.tickets + 1) × (t.view.hands.spare ≢ None)).
        let a = paid.0 in let e = ap (λ (z : View). z.allowance.tickets) read.others in omega arith)
        room.tickets

    pub quiet_read : IsQuietSeat u
    quiet_read = read_quiet t u read listed room.quiet

    -- two more may be retired still
    pub few_read : length u.view.hands.retired + 1 < k.room
    few_read = let b = ap (λ (z : View). length z.hands.retired) read.others in let c = room.few in omega arith

    pub pays_read : 3 ≤ s.view.allowance.tickets → CanPayTurn u.view
    pays_read three =
        let e = ap (λ (z : View). z.allowance.tickets) read.others in
        ⊎_elim
        (λ (same : s.view.allowance.tickets ≡ t.view.allowance.tickets). inl (omega (arith, three, e, same)))
        (λ (paid : (s.view.allowance.tickets ≤ t.view.allowance.tickets + 1) × (t.view.hands.spare ≢ None)).
        inr (
          (let a = paid.0 in omega (arith, three, e, a)),
          λ none. paid.1 (sym (ap (λ (z : View). z.hands.spare) read.others) ∙ none),
        ))
        room.tickets

    pub last_read : u.view.records ≡ r ∷ t.view.records
    last_read = ap (λ (z : View). z.records) read.others

    pub recorded_read : (turn : Turn) → HasAges k turn r → HasRecorded k u.view turn
    recorded_read turn ages = record {
      three = ages.three;
      reading = r;
      kept = subst (λ l. IsIn l r) (sym last_read) (0, refl);
      parent_age = ages.parent_age;
      node_age = ages.node_age;
      child_age = ages.child_age;
    }

    -- Slots were taken, or none was free.
    module _ (some : Bool) (x : SeatAt) (takes : TakesSlots k u some x) (same : x.listed ≡ u.listed) where
      pub proceeds_takes : Proceeds key hard s x
      proceeds_takes = proceeds_on key hard s u x proceeds_read (proceeds_goes key hard u x [] takes.goes tt same takes.informed)

      pub between_takes : ComesBetween k key hard s.view x.view
      between_takes = record {
        updates = proceeds_takes.updates;
        waits = waits_still between_read.waits takes.goes.waits takes.goes.retired;
      }

      -- one ticket is left for the turn
      pub takes_tickets : s.view.allowance.tickets ≤ x.view.allowance.tickets + 2
      takes_tickets =
          let e = ap (λ (z : View). z.allowance.tickets) read.others in
          ⊎_elim
          (λ (same : s.view.allowance.tickets ≡ t.view.allowance.tickets). let a = takes.tickets in omega arith)
          (λ (paid : (s.view.allowance.tickets ≤ t.view.allowance.tickets + 1) × (t.view.hands.spare ≢ None)).
          let a = paid.0 in
          let b = takes.fewer (λ none. paid.1 (sym (ap (λ (z : View). z.hands.spare) read.others) ∙ none)) in
          omega arith)
          room.tickets

      pub last_takes : x.view.records ≡ r ∷ t.view.records
      last_takes = takes.records ∙ last_read

      pub kept_takes : IsIn x.view.records r
      kept_takes = subst (λ l. IsIn l r) (sym last_takes) (0, refl)

    -- What came of the turn that was tried.
    pub tried_leaves : (turn : Turn) (outcome : Outcome) (z : SeatAt) → TriesTurn k u turn outcome z → LeavesTried key hard s z
    tried_leaves turn Turned z tries =
        let x = tries.taken in
        let made = tries.came in
        let e = made.turned.rest in record {
          proceeds = proceeds_on key hard s x z (proceeds_takes true x tries.takes tries.same) (proceeds_turned key hard x z turn made);
          tickets =
              let f = ap (λ (y : View). y.allowance.tickets) e in
              let a = takes_tickets true x tries.takes tries.same in
              omega arith;
          quiet = made.quiet;
        }
    tried_leaves turn Refused z tries =
        let x = tries.taken in
        let lost = tries.came in record {
          proceeds = proceeds_on key hard s x z (proceeds_takes true x tries.takes tries.same) (proceeds_refused key hard x z turn lost);
          tickets =
              let e = ap (λ (y : View). y.allowance.tickets) lost.none.rest in
              let f = ap (λ (y : View). y.allowance.tickets) lost.back.rest in
              let a = takes_tickets true x tries.takes tries.same in
              omega arith;
          quiet = put_back_quiet lost.refused z lost.back lost.kept lost.still;
        }
    tried_leaves turn NoneFree z tries = record {
      proceeds = proceeds_takes false z tries.0 tries.1;
      tickets = (let a = takes_tickets false z tries.0 tries.1 in omega arith);
      quiet = (tries.0.none refl).quiet;
    }

-- What an attempt comes to, by its ends.
module _ (k : Shape) (aim : Aim) (s t : SeatAt) (room : HasRoom k aim.key aim.hard s t) (u : SeatAt) (listed : u.listed ≡ t.listed) where
  pub level_attempt : Finds k t.view aim.key aim.salt None u.view → HasAttempted k aim s (EndedBy Level) u
  level_attempt found =
      let on = proceeds_read k aim.key aim.hard s t room u found.0 found.1 listed in record {
        proceeds = on;
        attempts = (
          between_read k aim.key aim.hard s t room u found.0 found.1 listed,
          (t.view, found),
          (λ e. absurd (let other : Level ≡ Spent = e in cc)),
        );
        tickets = read_tickets k aim.key aim.hard s t room u found.0 found.1 listed;
        quiet = quiet_read k aim.key aim.hard s t room u found.0 found.1 listed;
      }

  module _ (turn : Turn) (found : Finds k t.view aim.key aim.salt (Some turn) u.view) where
    pub quiet_found : IsQuietSeat u
    quiet_found = quiet_read k aim.key aim.hard s t room u found.0 found.1 listed

    pub pays_found : 3 ≤ s.view.allowance.tickets → CanPayTurn u.view
    pays_found = pays_read k aim.key aim.hard s t room u found.0 found.1 listed

    pub few_found : length u.view.hands.retired + 1 < k.room
    few_found = few_read k aim.key aim.hard s t room u found.0 found.1 listed

    pub recorded_found : HasRecorded k u.view turn
    recorded_found = recorded_read k aim.key aim.hard s t room u found.0 found.1 listed turn found.2.ages

    tried_found : (outcome : Outcome) (z : SeatAt) → TriesTurn k u turn outcome z → LeavesTried aim.key aim.hard s z
    tried_found = tried_leaves k aim.key aim.hard s t room u found.0 found.1 listed turn

    module _ (x : SeatAt) (takes : TakesSlots k u true x) (same : x.listed ≡ u.listed) where
      before_found : ComesBetween k aim.key aim.hard s.view x.view
      before_found = between_takes k aim.key aim.hard s t room u found.0 found.1 listed true x takes same

      -- what was tried, and what came of it
      was_tried : (made : Bool) (after : View) → ComesOf made x.view turn after
          → WasTried k aim.key aim.salt (record { turn = turn; reading = found.0; made = made; before = x.view; after = after })
      was_tried made after comes = record {
        recorded = found.2;
        kept = kept_takes k aim.key aim.hard s t room u found.0 found.1 listed true x takes same;
        comes = comes;
      }

    pub turned_attempt : (z : SeatAt) → TriesTurn k u turn Turned z → HasAttempted k aim s (Tried true) z
    turned_attempt z tries =
        let all = tried_found Turned z tries in
        let x = tries.taken in record {
          proceeds = all.proceeds;
          attempts = record {
            turn = record { turn = turn; reading = found.0; made = true; before = x.view; after = z.view };
            made = refl;
            before = before_found x tries.takes tries.same;
            tried = was_tried x tries.takes tries.same true z.view tries.came.turned;
            behind = record { updates = left_none aim.key advanced_same; waits = refl; retired = refl };
          };
          tickets = all.tickets;
          quiet = all.quiet;
        }

    pub lost_attempt : (z : SeatAt) → TriesTurn k u turn Refused z → HasAttempted k aim s (Tried false) z
    lost_attempt z tries =
        let all = tried_found Refused z tries in
        let x = tries.taken in
        let lost = tries.came in
        let goes = goes_back lost.back in record {
          proceeds = all.proceeds;
          attempts = record {
            turn = record { turn = turn; reading = found.0; made = false; before = x.view; after = lost.refused.view };
            made = refl;
            before = before_found x tries.takes tries.same;
            tried = was_tried x tries.takes tries.same false lost.refused.view lost.none;
            behind = record { updates = left_none aim.key goes.advanced; waits = goes.waits; retired = goes.retired };
          };
          tickets = all.tickets;
          quiet = all.quiet;
        }

    pub none_attempt : (z : SeatAt) → TriesTurn k u turn NoneFree z → HasAttempted k aim s (EndedBy NoSlot) z
    none_attempt z tries =
        let all = tried_found NoneFree z tries in record {
          proceeds = all.proceeds;
          attempts = (
            between_takes k aim.key aim.hard s t room u found.0 found.1 listed false z tries.0 tries.1,
            (tries.0.none refl).full,
            (λ e. absurd (let other : NoSlot ≡ Spent = e in cc)),
          );
          tickets = all.tickets;
          quiet = all.quiet;
        }

-- Turns that were tried, one after another, with nothing behind the last one yet.
abbrev pub TriedSo : Shape → Aim → View → List TurnTried → View → Type 0
TriedSo k aim v [] w = RestsBehind aim.key v w
TriedSo k aim v (t ∷ later) w =
    ComesBetween k aim.key aim.hard v t.before × WasTried k aim.key aim.salt t × TriedSo k aim t.after later w

between_later : {k : Shape} {key : ℕ} {hard : Bool} {u v w : View} → RestsBehind key u v → ComesBetween k key hard v w
    → ComesBetween k key hard u w
between_later rests between = record {
  updates = left_on rests.updates between.updates;
  waits = waits_later rests.waits rests.retired between.waits;
}

-- and one more
tries_on : (k : Shape) (aim : Aim) (turned : Bool) (u v w : View) (a : List TurnTried) → TriedSo k aim u a v
    → (one : WasAttempted k aim turned v w) → TriedSo k aim u (a ++ one.turn ∷ []) w
tries_on k aim turned u v w [] so one = (between_later so one.before, one.tried, one.behind)
tries_on k aim turned u v w (t ∷ later) so one = (so.0, so.1, tries_on k aim turned t.after v w later so.2 one)

-- and the end
tries_end : (k : Shape) (aim : Aim) (u v w : View) (a : List TurnTried) → TriedSo k aim u a v → ComesBetween k aim.key aim.hard v w
    → WereTried k aim u a w
tries_end k aim u v w [] so between = between_later so between
tries_end k aim u v w (t ∷ later) so between = (so.0, so.1, tries_end k aim t.after v w later so.2 between)

made_more : (a : List TurnTried) (t : TurnTried) → made_among (a ++ t ∷ []) ≡ made_among a + cond t.made 1 0
made_more [] t = omega arith
made_more (x ∷ a) t = let rest = made_more a t in omega arith

-- So many turns were tried so far, and so many made.
pub record HasTried (k : Shape) (aim : Aim) (turns tries : ℕ) (v w : View) : Type 0 where
  pub tried : List TurnTried
  pub many : length tried ≡ tries
  pub turned : made_among tried ≡ turns
  pub were : TriedSo k aim v tried w

pub tried_none : (k : Shape) (aim : Aim) (v : View) → HasTried k aim 0 0 v v
tried_none k aim v = record {
  tried = [];
  many = refl;
  turned = refl;
  were = record { updates = left_none aim.key advanced_same; waits = refl; retired = refl };
}

made_one : (turned : Bool) (t : TurnTried) → t.made ≡ turned → cond t.made 1 0 ≡ from_bool turned
made_one true t is = ap (λ b. cond b 1 0) is
made_one false t is = ap (λ b. cond b 1 0) is

pub tried_more : (k : Shape) (aim : Aim) (turns i : ℕ) (turned : Bool) (u v w : View) → HasTried k aim turns i u v
    → Attempts k aim v (Tried turned) w → HasTried k aim (turns + from_bool turned) (i + 1) u w
tried_more k aim turns i turned u v w has one = record {
  tried = has.tried ++ one.turn ∷ [];
  many = length-append has.tried (one.turn ∷ []) ∙ ap (λ n. n + 1) has.many;
  turned = made_more has.tried one.turn ∙ (λ j. has.turned j + made_one turned one.turn one.made j);
  were = tries_on k aim turned u v w has.tried has.were one;
}

pub one_at_most : (turned : Bool) → from_bool turned ≤ 1
one_at_most true = omega arith
one_at_most false = omega arith

-- all attempts were made
pub spent_lift : (k : Shape) (aim : Aim) (turns i : ℕ) (v w : View) → HasTried k aim turns i v w → i ≡ aim.attempts
    → HasLifted k aim (record { turns = turns; tried = aim.attempts; stop = Spent }) v w
spent_lift k aim turns i v w has all = record {
  tried = has.tried;
  were = tries_end k aim v w w has.tried has.were (between_none advanced_same refl refl);
  many = has.many ∙ all;
  few = (let many = has.many in omega arith);
  turns = has.turned;
  spent = λ e. has.many ∙ all;
}

-- What a lift comes to, where an attempt ended it, and where all attempts were made.
pub record HasEnded (k : Shape) (aim : Aim) (turns i : ℕ) (stop : Stop) (s t : SeatAt) : Type 0 where
  pub proceeds : Proceeds aim.key aim.hard s t
  pub lifted : HasLifted k aim (record { turns = turns; tried = i; stop = stop }) s.view t.view
  pub ends : EndsBy k aim stop t.view
  pub keeps : KeepsSeat (3 * aim.attempts) s t
  pub spares : s.view.allowance.tickets ≤ t.view.allowance.tickets + 3 * i + 3

-- what attempts leave of the seat
pub lift_keeps : {n : ℕ} {key : ℕ} {hard : Bool} {s t : SeatAt} → Proceeds key hard s t
    → s.view.allowance.tickets ≤ t.view.allowance.tickets + n → IsQuietSeat t → KeepsSeat n s t
lift_keeps proceeds tickets quiet = record {
  quiet = quiet;
  wait = proceeds.wait;
  slots = proceeds.slots;
  tickets = tickets;
  allowance = proceeds.updates.advanced.allowance;
}

pub ended_lift : (k : Shape) (aim : Aim) (turns i : ℕ) (stop : Stop) (s t u : SeatAt) → Proceeds aim.key aim.hard s t
    → HasTried k aim turns i s.view t.view → s.view.allowance.tickets ≤ t.view.allowance.tickets + 3 * i → i < aim.attempts
    → HasAttempted k aim t (EndedBy stop) u → HasEnded k aim turns i stop s u
ended_lift k aim turns i stop s t u proceeds tried tickets more made =
    let all = proceeds_on aim.key aim.hard s t u proceeds made.proceeds in
    record {
      proceeds = all;
      lifted = record {
        tried = tried.tried;
        were = tries_end k aim s.view t.view u.view tried.tried tried.were made.attempts.0;
        many = tried.many;
        few = (let many = tried.many in omega arith);
        turns = tried.turned;
        spent = λ e. absurd (made.attempts.2 e);
      };
      ends = made.attempts.1;
      keeps = lift_keeps all (let last = made.tickets in omega arith) made.quiet;
      spares = (let last = made.tickets in omega arith);
    }
