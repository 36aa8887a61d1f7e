-- Tries and the front, what a list answers by them, and what its loads come to.
-- The tries of a list: each is a section of its own, with the looks at the front that were made in it.
-- Source: docs/TREE_CALLS.md, "Lists of a key range".
use Rattle.std.specs.Prelude.{◌≡◌, ◌≢◌, ℕ, ◌+◌, ◌⊎◌, if◌then◌else◌, Bool, true, false, List, [], ◌∷◌, ◌++◌, length, Option, Some, None, ◌*◌, ◌≤◌, ◌<◌}
use mathlib.Core.List.{IsPrefix}
use Rattle.prcu_marks.specs.declared.mark.Mark.{Mark}
use Rattle.prcu_marks.specs.declared.mark.Mark.TheVariants.{Entered, Left}
use Rattle.prcu_marks.specs.declared.mark.Side.{Side}
use Rattle.prcu_marks.specs.declared.mark.Side.TheVariants as sides
use Rattle.prcu_marks.specs.Marks.{own_of, updates_of}
use Rattle.core_state.specs.declared.words.Kind.{Kind}
use Rattle.core_state.specs.declared.words.Kind.TheVariants.{K17, K37, K19, K39}
use Rattle.core_state.specs.declared.view.Look.{Look}
use Rattle.core_state.specs.declared.view.View.{View}
use Rattle.core_state.specs.Memory.{IsEven, IsOdd}
use Rattle.seat_table.specs.Sections.{Makes, is_entry, is_exit}
use Rattle.core_state.specs.declared.words.Field.TheVariants.{Front}
use Rattle.core_state.specs.declared.view.StepMade.{StepMade}
use Rattle.core_state.specs.Steps.{stepped}
use Rattle.key_interval.specs.Keys.{Interval}
use Rattle.list_laws.specs.Counts.{Each, IsIn}
use Rattle.exact_list.specs.declared.listing.Listed.{Listed}
use Rattle.exact_list.specs.declared.listing.Listed.TheVariants.{Whole, Part, Moved}
use Rattle.exact_list.specs.Pairs.{Pair, had_at, ArePairsTo, fact_of, Cover}
use Rattle.core_state.specs.declared.shape.Shape.{Shape}
use Rattle.core_state.specs.declared.view.Fact.{Fact}
use Rattle.core_state.specs.declared.view.Gap.{Gap}
use Rattle.core_state.specs.declared.view.Listing.{Listing}
use Rattle.core_state.specs.declared.view.Section.{Section}
use Rattle.core_state.specs.declared.view.Visit.{Visit}
use Rattle.core_state.specs.Parts.{IsBetween}
use Rattle.seat_table.specs.Gains.{IsSlot}

-- what the first look at the front found in a section, and the second, where there was one
pub record Try : Type 0 where
  pub first : ℕ
  pub second : Option ℕ

-- what the last look found
abbrev pub last_look : Try → ℕ
last_look t = latest t.first t.second
  where
    latest : ℕ → Option ℕ → ℕ
    latest first None = first
    latest first (Some second) = second

-- An update was under way at the first look, and there was no second; or the second look found another number.
abbrev pub HasMoved : Try → Type 0
HasMoved t = (IsOdd t.first × (t.second ≡ None)) ⊎ (IsEven t.first × ((second : ℕ) × (t.second ≡ Some second) × (second ≢ t.first)))

-- the looks of a section
abbrev pub looks_of : ℕ → ℕ → List ℕ → List Look
looks_of place section [] = []
looks_of place section (n ∷ ns) = record { place = place; section = section; front = n } ∷ looks_of place section ns

abbrev pub numbers_of : Try → List ℕ
numbers_of t = t.first ∷ more t.second
  where
    more : Option ℕ → List ℕ
    more None = []
    more (Some second) = second ∷ []

-- the looks of sections one after another, and the marks that they leave
abbrev pub looks_from : ℕ → ℕ → List Try → List Look
looks_from place section [] = []
looks_from place section (t ∷ ts) = looks_of place section (numbers_of t) ++ looks_from place (section + 1) ts

abbrev pub marks_from : ℕ → ℕ → ℕ → List Try → List Mark
marks_from place section key [] = []
marks_from place section key (t ∷ ts) = Entered place section key ∷ Left place section ∷ marks_from place (section + 1) key ts

-- the kinds of step of a list: those that enter, look at the front, load in a section, and leave
abbrev pub is_load : Kind → Bool
is_load K17 = true
is_load _ = false

abbrev pub is_look : Kind → Bool
is_look K37 = true
is_look _ = false

abbrev pub is_of_list : Kind → Bool
is_of_list kind = if is_load kind then true else if is_look kind then true else if is_entry kind then true else is_exit kind

-- The seat made these tries, each in a section of its place with this key, which was entered and left. No other mark was left, no
-- ticket taken, and nothing else changed of what the seat knows but the records of sections.
pub record HasTried (v : View) (key : ℕ) (tries : List Try) (w : View) : Type 0 where
  pub seen : IsPrefix v.seen w.seen
  pub own : own_of v.allowance.place w.seen ≡ own_of v.allowance.place v.seen ++ marks_from v.allowance.place v.counts.sections key tries
  pub looks : w.looks ≡ v.looks ++ looks_from v.allowance.place v.counts.sections tries
  pub made : Makes is_of_list v.trail w.trail
  pub others : w ≡ record v {
    enter = w.enter;
    records = w.records;
    counts = record v.counts { sections = v.counts.sections + length tries };
    latest = record v.latest { front = w.latest.front };
    looks = w.looks;
    trail = w.trail;
    seen = w.seen;
  }

-- How a seat takes the front, and gives it back.
-- Source: docs/TREE_CALLS.md, "Lists of a key range".

-- the kind of step that makes the front odd, where it finds the number that it expects
abbrev pub is_exchange : Kind → Bool
is_exchange K19 = true
is_exchange _ = false

-- The seat exchanged the front some times. Nothing else of what it knows changed: so none of these made the front odd.
pub record LosesFront (v w : View) : Type 0 where
  pub made : Makes is_exchange v.trail w.trail
  pub others : w ≡ record v { latest = record v.latest { front = w.latest.front }; trail = w.trail }

-- The seat made the front odd, which was this even number. It exchanged the front, until an exchange, the last one, found what it expected.
-- Nothing else of what the seat knows changed.
pub record TakesFront (v : View) (front : ℕ) (w : View) : Type 0 where
  pub even : IsEven front
  pub made : Makes is_exchange v.trail w.trail
  pub last : (lost : List StepMade) × (made.steps ≡ lost ++ record { kind = K19; field = Front; number = front } ∷ [])
  pub others : w ≡ record v {
    commit = Some (record { found = front; stored = false });
    latest = record v.latest { front = Some (front + 1) };
    trail = w.trail;
  }

-- The seat gave the front back at this number, by one step, and made no update under it.
pub record GivesFrontBack (v : View) (front : ℕ) (w : View) : Type 0 where
  pub trail : w.trail ≡ (stepped v K39 Front front).trail
  pub others : w ≡ record v { commit = None; latest = record v.latest { front = Some front }; trail = w.trail }

-- Just so many tries were made, with an update under way or made in each, and then the front wasn't taken. So the seat has no section open and
-- hasn't the front, its place left no marks but those of the tries' sections, and but for these and the looks it knows what it knew.
pub record HasGivenWay (v : View) (key most : ℕ) (w : View) : Type 0 where
  pub tries : List Try
  pub failed : View
  pub tried : HasTried v key tries failed
  pub all : length tries ≡ most
  pub moved : Each tries HasMoved
  pub lost : LosesFront failed w

-- What a list answers.
-- Source: docs/TREE_CALLS.md, "Lists of a key range".

-- a page: for how many pairs it was made, and those that it holds
pub record Paged : Type 0 where
  pub capacity : ℕ
  pub pairs : List Pair

-- The keys of a range past which a list to this side comes before another key: those from the first number on and below the second.
abbrev pub low_before : Side → Interval → ℕ → ℕ
low_before sides.Right keys next = keys.low
low_before sides.Left keys next = next + 1

abbrev pub end_before : Side → Interval → ℕ → ℕ
end_before sides.Right keys next = next
end_before sides.Left keys next = keys.high + 1

-- A list to this side that comes to the key hasn't left the range: so it ascends to its high end, or descends to its low one.
abbrev pub IsUpTo : Side → Interval → ℕ → Type 0
IsUpTo sides.Right keys next = next ≤ keys.high
IsUpTo sides.Left keys next = keys.low ≤ next

-- The page holds exactly the dictionary's pairs with these keys, after so many updates, in the order of a list to this side.
pub record IsWholeTo (side : Side) (keys : Interval) (h : List Mark) (front : ℕ) (page : Paged) : Type 0 where
  pub pairs : ArePairsTo side (had_at (updates_of h) front) keys.low (keys.high + 1) page.pairs
  pub fit : length page.pairs ≤ page.capacity

-- There are more than the page was made for: it is full of the first ones, and the next key is the one after them.
pub record IsPartTo (side : Side) (keys : Interval) (h : List Mark) (front next : ℕ) (page : Paged) : Type 0 where
  pub pairs : ArePairsTo side (had_at (updates_of h) front) (low_before side keys next) (end_before side keys next) page.pairs
  pub full : length page.pairs ≡ page.capacity
  pub inside : IsUpTo side keys next
  pub there : (value : ℕ) × (had_at (updates_of h) front next ≡ Some value)

-- what the page holds, by the answer
abbrev pub HoldsTo : Side → Listed → Interval → List Mark → Paged → Type 0
HoldsTo side (Whole front) keys h page = IsWholeTo side keys h front page
HoldsTo side (Part front next) keys h page = IsPartTo side keys h front next page
HoldsTo side (Moved first last) keys h page = page.pairs ≡ []

-- and keys ascend
abbrev pub IsWhole : Interval → List Mark → ℕ → Paged → Type 0
IsWhole keys h front page = IsWholeTo sides.Right keys h front page

abbrev pub IsPart : Interval → List Mark → ℕ → ℕ → Paged → Type 0
IsPart keys h front next page = IsPartTo sides.Right keys h front next page

abbrev pub Holds : Listed → Interval → List Mark → Paged → Type 0
Holds answer keys h page = HoldsTo sides.Right answer keys h page

-- The front isn't below the number of updates that were seen before, nor above the number seen now.
abbrev pub IsBetweenFronts : ℕ → List Mark → List Mark → Type 0
IsBetweenFronts front before now = (length (updates_of before) ≤ front) × (front ≤ length (updates_of now))

abbrev pub IsRecent : Listed → List Mark → List Mark → Type 0
IsRecent (Whole front) before now = IsBetweenFronts front before now
IsRecent (Part front next) before now = IsBetweenFronts front before now
IsRecent (Moved first last) before now = Unit {0}

-- Both looks of the last try found twice the front. There were at most so many tries, and an update was under way or made in each
-- of those before.
abbrev pub HasStood : ℕ → ℕ → List Try → Type 0
HasStood front most tries = (length tries ≤ most)
    × ((earlier : List Try) × Each earlier HasMoved × (tries ≡ earlier ++ record { first = 2 * front; second = Some (2 * front) } ∷ []))

-- There were so many tries, and an update was under way or made in each. The looks of the last one found these numbers.
abbrev pub HasGivenUp : ℕ → ℕ → ℕ → List Try → Type 0
HasGivenUp first last most tries = (length tries ≡ most) × Each tries HasMoved
    × ((earlier : List Try) × (t : Try) × (tries ≡ earlier ++ t ∷ []) × (t.first ≡ first) × (last_look t ≡ last))

-- how the tries ended, by the answer
abbrev pub EndAs : Listed → ℕ → List Try → Type 0
EndAs (Whole front) most tries = HasStood front most tries
EndAs (Part front next) most tries = HasStood front most tries
EndAs (Moved first last) most tries = HasGivenUp first last most tries

-- What the loads of a listing come to, walk by walk.
-- Source: docs/TREE_CALLS.md, "Lists of a key range".

-- the open section is a listing
pub record IsListing (v : View) : Type 0 where
  pub section : Section
  pub listing : Listing
  pub inside : v.section ≡ Some section
  pub lists : section.listing ≡ Some listing

-- The same listing, which may have found more.
pub record HasFoundMore (before after : Listing) : Type 0 where
  pub front : after.front ≡ before.front
  pub facts : (f : Fact) → IsIn before.facts f → IsIn after.facts f
  pub gaps : (gap : Gap) → IsIn before.gaps gap → IsIn after.gaps gap
  pub visits : (t : Visit) → IsIn before.visits t → IsIn after.visits t

-- Only loads of the listing were made.
pub record HasLoaded (v w : View) : Type 0 where
  pub section : Section
  pub before : Listing
  pub after : Listing
  pub was : v.section ≡ Some section
  pub lists : section.listing ≡ Some before
  pub more : HasFoundMore before after
  pub made : Makes is_load v.trail w.trail
  pub others : w ≡ record v { section = Some (record section { listing = Some after }); trail = w.trail }

-- a slot of the table that isn't the root
abbrev pub IsNode : Shape → ℕ → Type 0
IsNode k s = (s ≢ 0) × IsSlot k s

-- The listing has been at this slot, between these bounds, and has loaded its key.
pub record KnowsKey (k : Shape) (visits : List Visit) (s key : ℕ) (bounds : Gap) : Type 0 where
  pub node : IsNode k s
  pub here : IsIn visits (record { slot = s; key = Some key; bounds = bounds })

-- A link that was loaded leads to a slot of the table, from which the listing goes on between these bounds, or to an end, which shows a
-- gap.
pub record Leads (k : Shape) (l : Listing) (bounds : Gap) (link : ℕ) : Type 0 where
  pub here : link ≢ 0 → IsSlot k link × IsIn l.visits (record { slot = link; key = None; bounds = bounds })
  pub ended : link ≡ 0 → IsIn l.gaps bounds

-- each key from one on and below another lies in a gap that was found
abbrev pub AreGaps : List Gap → ℕ → ℕ → Type 0
AreGaps gaps from below = (y : ℕ) → from ≤ y → y < below → (gap : Gap) × IsIn gaps gap × IsBetween gap y

-- The page holds what was found of these keys; where one more was found, it is full.
abbrev pub Gathers : Side → Listing → Interval → Paged → Option ℕ → Type 0
Gathers side l keys page None = Cover side l.facts l.gaps keys.low (keys.high + 1) page.pairs
Gathers side l keys page (Some next) = Cover side l.facts l.gaps (low_before side keys next) (end_before side keys next) page.pairs
    × IsUpTo side keys next × (length page.pairs ≡ page.capacity) × ((value : ℕ) × IsIn l.facts (fact_of (next, value)))
