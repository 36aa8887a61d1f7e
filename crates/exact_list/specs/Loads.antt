-- Which loads are made on the way, lists that always come, and the nearest pair.
-- The way of a walk: where it has come to, and the slots to which it goes back.
-- Source: docs/TREE_CALLS.md, "Lists of a key range".
use Rattle.std.specs.Prelude.{◌≡◌, ℕ, ◌+◌, ◌≤◌, ◌⊎◌, if◌then◌else◌, true, false, List, [], ◌∷◌, ◌++◌, length, Option, Some, None, ◌≢◌, ◌*◌, ◌==◌, Bool, map, ◌^◌, ◌<◌}
use Rattle.core_state.specs.declared.shape.Shape.{Shape}
use Rattle.core_state.specs.declared.view.Gap.{Gap}
use Rattle.core_state.specs.declared.view.Listing.{Listing}
use Rattle.core_state.specs.declared.view.Visit.{Visit}
use Rattle.core_state.specs.Parts.{low_bound, high_bound, IsBetween}
use Rattle.exact_list.specs.declared.way.Next.{Next}
use Rattle.exact_list.specs.declared.way.Next.TheVariants.{At, Done, Lost}
use Rattle.exact_list.specs.declared.way.Passed.{Passed}
use Rattle.exact_list.specs.declared.way.Way.{Way}
use Rattle.exact_list.specs.Tries.{KnowsKey, Leads, is_load, TakesFront, GivesFrontBack, Paged, IsWholeTo, IsPartTo, HasStood, Try, HasMoved, HasTried, IsBetweenFronts}
use Rattle.std.specs.List.{filter, filter_map}
use Rattle.prcu_marks.specs.declared.mark.Side.{Side}
use Rattle.prcu_marks.specs.declared.mark.Side.TheVariants.{Right, Left}
use Rattle.core_state.specs.declared.words.Field.{Field}
use Rattle.core_state.specs.declared.words.Field.TheVariants.{Key, Value, Link}
use Rattle.core_state.specs.declared.words.Kind.TheVariants.{K17}
use Rattle.core_state.specs.declared.view.StepMade.{StepMade}
use Rattle.core_state.specs.declared.view.View.{View}
use Rattle.exact_list.specs.declared.nearest.Found.{Found}
use Rattle.exact_list.specs.Pairs.{Pair, had_at, fact_of, IsBefore}
use Rattle.key_interval.specs.Keys.{Interval}
use Rattle.prcu_marks.specs.declared.mark.Mark.{Mark}
use Rattle.list_laws.specs.Counts.{Each, IsIn}
use Rattle.exact_list.specs.declared.alone.Exact.{Exact}
use Rattle.prcu_marks.specs.Marks.{updates_of}
use Rattle.exact_list.specs.declared.nearest.Nearest.{Nearest}

-- so many slots of a way are kept
abbrev pub most_kept : ℕ
most_kept = 64

-- One slot more on the way. Only where the way was full, it was cut, and the slot is the only one.
abbrev pub HasPassed : Way → Passed → Way → Type 0
HasPassed way p new =
    ((new.passed.items ≡ way.passed.items ++ p ∷ []) × (new.cut ≡ way.cut))
    ⊎ ((length way.passed.items ≡ most_kept) × (new.passed.items ≡ p ∷ []) × (new.cut ≡ true))

-- where a walk goes on: at the latest slot; it is through; or at the root, only where the way was cut and no slot is left
abbrev pub NextIs : Way → Next → Way → Type 0
NextIs way (At p) new = (way.passed.items ≡ new.passed.items ++ p ∷ []) × (new.cut ≡ way.cut)
NextIs way Done new = (way.passed.items ≡ []) × (way.cut ≡ false)
NextIs way Lost new = (way.passed.items ≡ []) × (way.cut ≡ true) × (new.passed.items ≡ []) × (new.cut ≡ false)

-- At least so many slots were passed since the way began at the root: those kept, or where it was cut one more than there is room for.
abbrev pub least_passed : Way → ℕ
least_passed way = if way.cut then most_kept + 1 else length way.passed.items

-- the bound on the other side doesn't leave the key out
abbrev pub IsOpenTo : Side → ℕ → Gap → Type 0
IsOpenTo Left from bounds = from < high_bound bounds.high
IsOpenTo Right from bounds = low_bound bounds.low ≤ from

-- the bound on this side
abbrev pub bound_on : Side → Gap → Option ℕ
bound_on Left bounds = bounds.low
bound_on Right bounds = bounds.high

-- a slot where the walk has been, with the key that it found there, and this bound on the side
pub record IsKept (k : Shape) (side : Side) (visits : List Visit) (bound : Option ℕ) (p : Passed) : Type 0 where
  pub bounds : Gap
  pub ends : bound_on side bounds ≡ bound
  pub known : KnowsKey k visits p.slot p.key bounds

-- The walk was at each of these slots. The bound on the side is the first number at the first, the key of the one before at each other, and
-- the key of the last where the walk is now.
abbrev pub AreKept : Shape → Side → List Visit → Option ℕ → List Passed → Option ℕ → Type 0
AreKept k side visits first [] bound = bound ≡ first
AreKept k side visits first (p ∷ ps) bound = IsKept k side visits first p × AreKept k side visits (Some p.key) ps bound

-- Where a walk to this side, for keys from one on, has come to by its latest link. Where nothing was given up of its way, the first slot has
-- no bound on the side.
pub record HasCome (k : Shape) (side : Side) (l : Listing) (from link : ℕ) (way : Way) : Type 0 where
  pub bounds : Gap
  pub near : IsOpenTo side from bounds
  pub first : Option ℕ
  pub whole : way.cut ≡ false → first ≡ None
  pub kept : AreKept k side l.visits first way.passed.items (bound_on side bounds)
  pub leads : Leads k l bounds link

-- The end of a range from which a list goes to this side.
abbrev pub start_of : Side → Interval → ℕ
start_of Left keys = keys.high
start_of Right keys = keys.low

-- a key isn't the last one of all on this side
abbrev pub HasNext : Side → ℕ → Type 0
HasNext Left key = 1 ≤ key
HasNext Right key = key + 1 < 2 ^ 64

-- the first key past another, for who goes to this side
abbrev pub IsNextTo : Side → ℕ → ℕ → Type 0
IsNextTo Left key next = next + 1 ≡ key
IsNextTo Right key next = next ≡ key + 1

-- Which loads a walk makes: of a list, and of a search for the nearest pair.
-- Source: docs/TREE_CALLS.md, "Lists of a key range".

-- a load in a section, of this word, which found this number
abbrev pub load : Field → ℕ → StepMade
load field number = record { kind = K17; field = field; number = number }

-- the loads in a section among some steps
abbrev pub loads_of : List StepMade → List StepMade
loads_of = filter (λ (t : StepMade). is_load t.kind)

-- From the first view to the second these steps were made, and they are such a walk.
pub record HasWalked (v : View) (walk : List StepMade → Type 0) (w : View) : Type 0 where
  pub loads : List StepMade
  pub made : w.trail.steps ≡ v.trail.steps ++ loads
  pub is : walk loads

-- the values that were loaded
abbrev pub value_in : Field → ℕ → Option ℕ
value_in (Value s) number = Some number
value_in _ number = None

abbrev pub values_of : List StepMade → List ℕ
values_of = filter_map (λ (t : StepMade). value_in t.field t.number)

-- how many words of a sort were loaded: keys, and the root's link
abbrev pub how_many : (Field → Bool) → List StepMade → ℕ
how_many which [] = 0
how_many which (t ∷ ts) = if which t.field then how_many which ts + 1 else how_many which ts

abbrev pub is_key : Field → Bool
is_key (Key s) = true
is_key _ = false

abbrev pub is_root : Field → Bool
is_root (Link s side) = s == 0
is_root _ = false

-- the values of these pairs, in this order, and then that of the next one, if there is one
abbrev pub AreValues : List Pair → Option ℕ → List ℕ → Type 0
AreValues pairs None values = values ≡ map (λ (p : Pair). p.1) pairs
AreValues pairs (Some next) values = (value : ℕ) × (values ≡ map (λ (p : Pair). p.1) pairs ++ value ∷ [])

-- One walk in order. It loads the value of each pair that it tells once, and that of the next one, where one is told, and no other. It goes
-- down from the root once, and once more at most for each 65 keys that it loads.
pub record IsOneWalk (pairs : List Pair) (next : Option ℕ) (loads : List StepMade) : Type 0 where
  pub values : AreValues pairs next (values_of loads)
  pub roots : (most_kept + 1) * how_many is_root loads ≤ (most_kept + 1) + how_many is_key loads

-- The loads of a way down in such a walk: no value, and no link of the root. For each slot more that the way has passed a key was loaded.
pub record GoesDown (way new : Way) (loads : List StepMade) : Type 0 where
  pub values : values_of loads ≡ []
  pub roots : how_many is_root loads ≡ 0
  pub passed : least_passed new ≤ least_passed way + how_many is_key loads

-- From one link to another the loads go down: of the slot to which a link leads the key is loaded, and then one link.
abbrev pub LeadDown : ℕ → List StepMade → ℕ → Type 0
LeadDown link [] to = link ≡ to
LeadDown link (t ∷ []) to = ⊥
LeadDown link (t ∷ u ∷ loads) to = (link ≢ 0) × (t.field ≡ Key link) × ((side : Side) × (u.field ≡ Link link side))
    × LeadDown u.number loads to

-- a way down from the root to this link
pub record IsWayDown (to : ℕ) (loads : List StepMade) : Type 0 where
  pub first : ℕ
  pub rest : List StepMade
  pub all : loads ≡ load (Link 0 Right) first ∷ rest
  pub down : LeadDown first rest to

-- One way down from the root to an end, and the value of the pair that is told.
abbrev pub IsOneWayDown : Option Found → List StepMade → Type 0
IsOneWayDown None loads = IsWayDown 0 loads
IsOneWayDown (Some pair) loads = (way : List StepMade) × (slot : ℕ) × IsWayDown 0 way × (loads ≡ way ++ load (Value slot) pair.value ∷ [])

-- Lists that always come: by a try, or alone, under a front that the seat holds.
-- Source: docs/TREE_CALLS.md, "Lists of a key range".

-- what the page holds: all pairs of the range, or the first ones, with the key after them, in the order of a list to this side
abbrev pub HoldsUpTo : Side → ℕ → Option ℕ → Interval → List Mark → Paged → Type 0
HoldsUpTo side front None keys h page = IsWholeTo side keys h front page
HoldsUpTo side front (Some next) keys h page = IsPartTo side keys h front next page

abbrev pub HoldsExactlyTo : Side → Exact → Interval → List Mark → Paged → Type 0
HoldsExactlyTo side answer keys h page = HoldsUpTo side answer.front answer.next keys h page

-- and keys ascend
abbrev pub HoldsExactly : Exact → Interval → List Mark → Paged → Type 0
HoldsExactly answer keys h page = HoldsExactlyTo Right answer keys h page

-- The seat took the front after so many updates, made one try, both of whose looks found the front as it had made it, and gave it back. So
-- it held the front for one section, and made no update under it. All that it loaded meanwhile is this walk.
pub record HasListedAlone (v : View) (key front : ℕ) (walk : List StepMade → Type 0) (w : View) : Type 0 where
  pub holding : View
  pub listed : View
  pub takes : TakesFront v (2 * front) holding
  pub tried : HasTried holding key (record { first = 2 * front + 1; second = Some (2 * front + 1) } ∷ []) listed
  pub walked : walk (loads_of tried.made.steps)
  pub gives : GivesFrontBack listed (2 * front) w

-- The last of at most so many tries found twice the front at both looks.
pub record HasListedByTry (v : View) (key front most : ℕ) (w : View) : Type 0 where
  pub tries : List Try
  pub tried : HasTried v key tries w
  pub stood : HasStood front most tries

-- Just so many tries were made, with an update under way or made in each; then the seat listed alone.
pub record HasListedAfterTries (v : View) (key front most : ℕ) (walk : List StepMade → Type 0) (w : View) : Type 0 where
  pub tries : List Try
  pub failed : View
  pub tried : HasTried v key tries failed
  pub all : length tries ≡ most
  pub moved : Each tries HasMoved
  pub alone : HasListedAlone failed key front walk w

abbrev pub HasListed : View → ℕ → ℕ → ℕ → (List StepMade → Type 0) → View → Type 0
HasListed v key front most walk w = HasListedByTry v key front most w ⊎ HasListedAfterTries v key front most walk w

-- The pair of a dictionary that is nearest to a key, on a side of it, and what a listing has to find for that.
-- Source: docs/TREE_CALLS.md, "Lists of a key range".

-- a key on this side of another, or that key itself
abbrev pub IsOn : Side → ℕ → ℕ → Type 0
IsOn Left from key = key ≤ from
IsOn Right from key = (from ≤ key) × (key < 2 ^ 64)

-- The map has the pair, which is on this side of the key, and it has no key there that comes before.
pub record IsNearestPair (map : ℕ → Option ℕ) (side : Side) (from : ℕ) (pair : Found) : Type 0 where
  pub there : map pair.key ≡ Some pair.value
  pub on : IsOn side from pair.key
  pub none_before : (key : ℕ) → IsOn side from key → IsBefore side key pair.key → map key ≡ None

-- the map's pair that is nearest to the key, on this side of it; or none, where the map has no key there
abbrev pub IsNearest : (ℕ → Option ℕ) → Side → ℕ → Option Found → Type 0
IsNearest map side from None = (key : ℕ) → IsOn side from key → map key ≡ None
IsNearest map side from (Some pair) = IsNearestPair map side from pair

-- the key lies in one of the gaps found
abbrev pub IsInGap : List Gap → ℕ → Type 0
IsInGap gaps key = (gap : Gap) × IsIn gaps gap × IsBetween gap key

-- The pair is one of the facts found, on this side of the key, and each key there that comes before lies in a gap found.
pub record FindsPair (l : Listing) (side : Side) (from : ℕ) (pair : Found) : Type 0 where
  pub there : IsIn l.facts (fact_of (pair.key, pair.value))
  pub on : IsOn side from pair.key
  pub none_before : (key : ℕ) → IsOn side from key → IsBefore side key pair.key → IsInGap l.gaps key

abbrev pub FindsNearest : Listing → Side → ℕ → Option Found → Type 0
FindsNearest l side from None = (key : ℕ) → IsOn side from key → IsInGap l.gaps key
FindsNearest l side from (Some pair) = FindsPair l side from pair

-- what one try came to: an update was under way or made; or both looks found twice the front that is told
abbrev pub ComesBy : Option Nearest → Try → Type 0
ComesBy None t = HasMoved t
ComesBy (Some nearest) t = t ≡ record { first = 2 * nearest.front; second = Some (2 * nearest.front) }

-- what a try tells where it came: the nearest pair at its front, which isn't older than what was seen before
abbrev pub IsTold : Option Nearest → Side → ℕ → List Mark → List Mark → Type 0
IsTold None side from before now = Unit {0}
IsTold (Some nearest) side from before now = IsNearest (had_at (updates_of now) nearest.front) side from nearest.pair
    × IsBetweenFronts nearest.front before now

-- the slot passed last on the side on which a pair is sought: its key is there, and is the bound on that side
abbrev pub IsPassed : Shape → List Visit → Side → ℕ → Gap → Option Passed → Type 0
IsPassed k visits side from bounds None = bound_on side bounds ≡ None
IsPassed k visits side from bounds (Some p) = (bound_on side bounds ≡ Some p.key) × IsOn side from p.key
    × ((there : Gap) × KnowsKey k visits p.slot p.key there)

-- Where a way down has come to by its latest link, in search of the nearest pair on a side of the key: between bounds that are open to that
-- side from the key up to the slot passed last there.
pub record HasReached (k : Shape) (l : Listing) (side : Side) (from link : ℕ) (best : Option Passed) : Type 0 where
  pub bounds : Gap
  pub near : IsOpenTo side from bounds
  pub passed : IsPassed k l.visits side from bounds best
  pub leads : Leads k l bounds link
