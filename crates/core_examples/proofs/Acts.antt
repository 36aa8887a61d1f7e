-- Acts whose needs are tested by computing. A step is an act with the tests of its needs, and with why they are enough. So a stretch of
-- steps
-- that are ready, one after another, is a run.
use Rattle.std.proofs.lemmas.Bool.{and_parts, eqb-true, ltb-true, leb-true}
use Rattle.std.proofs.Common.{◌≡◌, ℕ, ◌%◌, ◌^◌, ◌==◌, ◌&&◌, nat_lt, nat_le, not, Bool, true, List, [], ◌∷◌, length, refl, sym, ap, subst, inl, inr, arith}
use mathlib.Core.Option.{some}
use Rattle.prcu_marks.specs.declared.mark.Side.{Side}
use Rattle.prcu_marks.specs.declared.mark.Side.TheVariants.{Left, Right}
use Rattle.core_state.specs.declared.shape.Shape.{Shape}
use Rattle.core_state.specs.declared.shape.Waiter.TheVariants.{Eer, Domain, Deer}
use Rattle.core_state.specs.declared.words.Field.{Field}
use Rattle.core_state.specs.declared.words.Field.TheVariants.{Announced, Stamp, Tag}
use Rattle.core_state.specs.Views.{known_in, lock_of, is_emptied}
use Rattle.list_laws.specs.Counts.{IsIn}
use Rattle.core_state.specs.declared.view.Waiting.{Waiting}
use Rattle.core_state.specs.Steps.{IsSpot, spot_seen}
use Rattle.core_state.specs.declared.view.View.{View}
use Rattle.core_state.specs.Memory.{is_field}
use Rattle.core_state.specs.declared.act.Part.{Part}
use Rattle.core_state.specs.declared.act.Part.TheVariants as part
use Rattle.core_state.specs.declared.act.Act.{Act}
use Rattle.core_state.specs.declared.act.Act.TheVariants.{LoadClock, AnnounceKey, EnterByStamp, LeaveByStamp, BeginWait, LookKey, LookStamp, LoadOwnLife, Reserve, Seize, Fill, Lock, Unlock, SearchLoad, ListLoad, LockedLoad, OpenCommit, RaiseTag, CloseCommit, LookAtFront, GiveFrontBack, StoreMoved, LoadMoved}
use Rattle.core_state.specs.Acts.{clocked_of, field_of, Asks, MayLook, Needs, section_of, listing_of, wait_of}
use Rattle.core_laws.proofs.Acting.{part_loadable}
use Rattle.core_examples.proofs.Tests.{all_spots, lock_now, all_of, passed, test_at, is_some, some_is, none_is, false_is, not_same, is_empty, empty_is, is_number, number_is, has, has_in, has_been, been_at, is_word, is_holder, holder_is, is_no_end, no_end_is, is_closing, closing_is, is_unmade, unmade_is, is_content, content_is, State, AllAsked, after, reached, over, ◌⟫◌}

-- a table with five slots, one place and the first waiter
abbrev pub small : Shape
small = record { waiter = Eer; slots = 5; places = 1; room = 16; tickets = 100 }

-- an act, the tests of its needs, and that they are met where all tests are true
pub record Step : Type 0 where
  pub act : Act
  pub tests : View → List Bool
  pub met : (v : View) → ((i : ℕ) → test_at (tests v) i ≡ true) → Needs small v act

abbrev pub acts_of : List Step → List Act
acts_of [] = []
acts_of (step ∷ steps) = step.act ∷ acts_of steps

-- each act's word is one of the table's, and its tests are true in the state that the acts before it leave
abbrev pub is_ready : View → Step → Bool
is_ready v step = is_field small (field_of v.allowance.place step.act) && all_of (step.tests v)

abbrev pub are_ready : State → List Step → Bool
are_ready s [] = true
are_ready s (step ∷ steps) = is_ready s.view step && are_ready (after small s step.act) steps

asked : (v : View) (step : Step) → is_ready v step ≡ true → Asks small v step.act
asked v step ready =
    let parts = and_parts (is_field small (field_of v.allowance.place step.act)) (all_of (step.tests v)) ready in
    (is_word small (field_of v.allowance.place step.act) parts.0, step.met v (passed (step.tests v) parts.1))

pub ready_asked : (s : State) (steps : List Step) → are_ready s steps ≡ true → AllAsked small s (acts_of steps)
ready_asked s [] ready = over
ready_asked s (step ∷ steps) ready =
    let parts = and_parts (is_ready s.view step) (are_ready (after small s step.act) steps) ready in
    asked s.view step parts.0 ⟫ ready_asked (after small s step.act) steps parts.1

-- a run from a state: acts, one after another, of which each is met; where it ends, the next may begin
pub record Run (s : State) : Type 0 where
  pub acts : List Act
  pub asked : AllAsked small s acts

-- steps are a run where they are ready, which is shown by computing
abbrev pub run : {s : State} (steps : List Step) → are_ready s steps ≡ true → Run s
run {s} steps ready = record { acts = acts_of steps; asked = ready_asked s steps ready }

abbrev pub end_of : {s : State} → Run s → State
end_of {s} r = reached small s r.acts

-- a section
abbrev pub read_clock : Step
read_clock = record {
  act = LoadClock;
  tests = λ v. [];
  met = λ v t. tt;
}

abbrev pub announce : ℕ → Step
announce key = record {
  act = AnnounceKey key;
  tests = λ v. not (is_some v.section) ∷ [];
  met = λ v t. none_is v.section (t 0);
}

abbrev pub enter : ℕ → ℕ → Step
enter key stamp = record {
  act = EnterByStamp key stamp;
  tests = λ v.
      not (is_some v.section) ∷
      is_empty v.locks ∷
      nat_lt key (2 ^ 64) ∷
      is_some v.enter.clock ∷
      is_number v.enter.announced key ∷
      (stamp == (clocked_of v).number) ∷
      [];
  met = λ v t. record {
    entry = record { outside = none_is v.section (t 0); free = empty_is v.locks (t 1); key_fits = ltb-true key (2 ^ 64) (t 2) };
    clock = some_is _ v.enter.clock (t 3);
    stamp_is = eqb-true stamp (clocked_of v).number (t 5);
    announced = number_is v.enter.announced key (t 4);
  };
}

abbrev pub leave : Step
leave = record {
  act = LeaveByStamp;
  tests = λ v. is_some v.section ∷ [];
  met = λ v t. some_is _ v.section (t 0);
}

abbrev pub search : ℕ → Part → Step
search slot p = record {
  act = SearchLoad slot p;
  tests = λ v.
      is_some v.section ∷
      not (is_some (section_of v).listing) ∷
      has slot (section_of v).reading.stood ∷
      [];
  met = λ v t. record {
    section_is = some_is _ v.section (t 0);
    searches = none_is (section_of v).listing (t 1);
    stood = has_in slot (section_of v).reading.stood (t 2);
    loadable = part_loadable slot p;
  };
}

-- a slot
abbrev pub reserve : ℕ → Step
reserve free = record {
  act = Reserve free;
  tests = λ v.
      nat_le 1 free ∷
      not v.hands.reserved ∷
      not (is_some v.hands.hand) ∷
      nat_le 1 v.allowance.tickets ∷
      [];
  met = λ v t. (record {
    some = leb-true 1 free (t 0);
    unreserved = false_is v.hands.reserved (t 1);
    empty = none_is v.hands.hand (t 2);
    ticket = leb-true 1 v.allowance.tickets (t 3);
  });
}

abbrev pub seize : ℕ → Step
seize slot = record {
  act = Seize slot;
  tests = λ v. v.hands.reserved ∷ not (slot == 0) ∷ [];
  met = λ v t. record { reserved = (t 0); some = not_same slot 0 (t 1) };
}

abbrev pub own_life : ℕ → Step
own_life slot = record {
  act = LoadOwnLife slot;
  tests = λ v. is_holder v slot ∷ [];
  met = λ v t. holder_is v slot (t 0);
}

abbrev pub fill_part : ℕ → Part → ℕ → Step
fill_part slot p number = record {
  act = Fill slot p number;
  tests = λ v. is_holder v slot ∷ is_content p ∷ [];
  met = λ v t. let holder = holder_is v slot (t 0) in (holder.0, record { holder = holder.1; content = content_is slot p (t 1) });
}

-- a lock, and the front
abbrev pub lock : ℕ → Step
lock slot = record {
  act = Lock slot;
  tests = λ v. not (is_some v.section) ∷ nat_lt (length v.locks) 5 ∷ [];
  met = λ v t. record { outside = none_is v.section (t 0); few = ltb-true (length v.locks) 5 (t 1) };
}

abbrev pub look : ℕ → Part → Step
look slot p = record {
  act = LockedLoad slot p;
  tests = λ v. is_some (lock_of v.locks slot) ∷ [];
  met = λ v t. record { held = (lock_now v slot, some_is _ (lock_of v.locks slot) (t 0)); loadable = part_loadable slot p };
}

abbrev pub unlock : ℕ → Step
unlock slot = record {
  act = Unlock slot;
  tests = λ v.
      is_some (lock_of v.locks slot) ∷
      is_no_end slot v.moving ∷
      not (lock_now v slot).left_emptied ∷
      not (lock_now v slot).right_emptied ∷
      not (lock_now v slot).marked ∷
      [];
  met = λ v t. record {
    lock = lock_now v slot;
    held = some_is _ (lock_of v.locks slot) (t 0);
    no_end = no_end_is slot v.moving (t 1);
    left = false_is (lock_now v slot).left_emptied (t 2);
    right = false_is (lock_now v slot).right_emptied (t 3);
    unmarked = false_is (lock_now v slot).marked (t 4);
  };
}

abbrev pub open_commit : ℕ → Step
open_commit front = record {
  act = OpenCommit front;
  tests = λ v. (front % 2 == 0) ∷ not (is_some v.moving) ∷ not (is_some v.commit) ∷ [];
  met = λ v t. (record {
    even = eqb-true (front % 2) 0 (t 0);
    settled = none_is v.moving (t 1);
    paid = none_is v.commit (t 2);
  });
}

abbrev pub close_commit : ℕ → Step
close_commit front = record {
  act = CloseCommit front;
  tests = λ v. is_closing v.commit front ∷ [];
  met = λ v t. closing_is v.commit front (t 0);
}

abbrev pub give_front_back : ℕ → Step
give_front_back front = record {
  act = GiveFrontBack front;
  tests = λ v. is_unmade v.commit front ∷ [];
  met = λ v t. unmade_is v.commit front (t 0);
}

-- a move to another table
abbrev pub store_moved : ℕ → Step
store_moved front = record {
  act = StoreMoved;
  tests = λ v. is_unmade v.commit front ∷ [];
  met = λ v t. record { found = front; commit = unmade_is v.commit front (t 0) };
}

abbrev pub load_moved : Step
load_moved = record { act = LoadMoved; tests = λ v. []; met = λ v t. tt }

abbrev pub raise_tag : ℕ → Side → ℕ → Step
raise_tag slot side tag = record {
  act = RaiseTag slot side tag;
  tests = λ v. is_some (lock_of v.locks slot) ∷ is_emptied (lock_now v slot) side
      ∷ is_number (known_in (lock_now v slot).known (Tag slot side)) tag ∷ [];
  met = λ v t. record {
    lock = lock_now v slot;
    held = some_is _ (lock_of v.locks slot) (t 0);
    emptied = (t 1);
    known = number_is (known_in (lock_now v slot).known (Tag slot side)) tag (t 2);
  };
}

-- a wait
abbrev pub begin : ℕ → ℕ → Step
begin low high = record {
  act = BeginWait low high;
  tests = λ v.
      not (is_some v.section) ∷
      nat_le 1 v.allowance.tickets ∷
      nat_le low high ∷
      nat_lt high (2 ^ 64) ∷
      [];
  met = λ v t. (record {
    outside = none_is v.section (t 0);
    ticket = leb-true 1 v.allowance.tickets (t 1);
    some = leb-true low high (t 2);
    high_fits = ltb-true high (2 ^ 64) (t 3);
  });
}

-- a listing
abbrev pub look_front : Step
look_front = record {
  act = LookAtFront;
  tests = λ v. is_some v.section ∷ is_empty (section_of v).reading.loads ∷ [];
  met = λ v t. record { section_is = some_is _ v.section (t 0); first = empty_is (section_of v).reading.loads (t 1) };
}

abbrev pub list_root : Step
list_root = record {
  act = ListLoad 0 (part.Link Right);
  tests = λ v. is_some v.section ∷ is_some (section_of v).listing ∷ [];
  met = λ v t. record {
    section_is = some_is _ v.section (t 0);
    lists = some_is _ (section_of v).listing (t 1);
    been = inl refl;
    loadable = refl;
  };
}

abbrev pub list_part : ℕ → Part → Step
list_part slot p = record {
  act = ListLoad slot p;
  tests = λ v.
      is_some v.section ∷
      is_some (section_of v).listing ∷
      has_been slot (listing_of (section_of v)).visits ∷
      [];
  met = λ v t. record {
    section_is = some_is _ v.section (t 0);
    lists = some_is _ (section_of v).listing (t 1);
    been = inr (been_at slot (listing_of (section_of v)).visits (t 2));
    loadable = part_loadable slot p;
  };
}

abbrev pub wait_tests : View → List Bool
wait_tests v = is_some v.wait ∷ not (wait_of v).ended ∷ []

-- the spots of a wait on a table with one place: its stamp
only_spot : (wait : Waiting) (seen : List Field) (other : Field) → IsSpot small wait other → IsIn (Stamp 0 ∷ seen) other
only_spot wait seen = all_spots {k = small} {wait = wait} {spots = Stamp 0 ∷ seen} (record {
  stamps = λ p spot. (let place_is : 0 ≡ p = (let lt = spot.1 in omega arith) in (0, ap (λ q. some (Stamp q)) place_is));
  counts = λ c side spot. absurd (let w : Eer ≡ Domain = spot.0 in cc);
  rows = λ p c spot. absurd (let w : Eer ≡ Deer = spot.0 in cc);
})

pub may_end : (v : View) (field : Field) → spot_seen field ≡ Stamp 0 → all_of (wait_tests v) ≡ true → MayLook small v (wait_of v) field true
may_end v field seen e =
    let t = passed (wait_tests v) e in
    record {
      wait_is = some_is _ v.wait (t 0);
      going = false_is (wait_of v).ended (t 1);
      rest = λ last other spot. subst (λ f. IsIn (f ∷ (wait_of v).excused) other) (sym seen)
          (only_spot (wait_of v) (wait_of v).excused other spot);
    }

-- the look that ends a wait: at the place's key, or at its stamp
abbrev pub look_key : Step
look_key = record {
  act = LookKey 0 true;
  tests = λ v. all_of (wait_tests v) ∷ [];
  met = λ v t. may_end v (Announced 0) refl (t 0);
}

abbrev pub look_stamp : Step
look_stamp = record {
  act = LookStamp 0 true;
  tests = λ v. all_of (wait_tests v) ∷ [];
  met = λ v t. may_end v (Stamp 0) refl (t 0);
}

-- what is done at one stretch: a section is entered, with the clock that is found, or before any wait; fields are loaded in it, as a search goes; a free slot is taken; it is filled;
-- slots are locked, their fields are loaded, the tag of a side that was emptied is raised, and slots are unlocked
abbrev pub enter_at : ℕ → ℕ → List Step
enter_at clock key = read_clock ∷ announce key ∷ enter key clock ∷ []

abbrev pub enter_for : ℕ → List Step
enter_for = enter_at 0

abbrev pub search_by : List (ℕ × Part) → List Step
search_by [] = []
search_by (at ∷ more) = search at.0 at.1 ∷ search_by more

abbrev pub take_slot : ℕ → ℕ → List Step
take_slot free slot = reserve free ∷ seize slot ∷ own_life slot ∷ []

abbrev pub fill : ℕ → ℕ → ℕ → ℕ → ℕ → List Step
fill slot key value left right =
    fill_part slot part.Key key ∷
    fill_part slot part.Value value ∷
    fill_part slot (part.Link Left) left ∷
    fill_part slot (part.Link Right) right ∷ []

abbrev pub lock_all : List ℕ → List Step
lock_all [] = []
lock_all (slot ∷ slots) = lock slot ∷ lock_all slots

abbrev pub look_at : List (ℕ × Part) → List Step
look_at [] = []
look_at (at ∷ more) = look at.0 at.1 ∷ look_at more

abbrev pub raise_emptied : ℕ → Side → List Step
raise_emptied slot side = look slot (part.Tag side) ∷ raise_tag slot side 0 ∷ []

abbrev pub unlock_all : List ℕ → List Step
unlock_all [] = []
unlock_all (slot ∷ slots) = unlock slot ∷ unlock_all slots
