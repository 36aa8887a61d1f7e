-- How many threads a crew has.
-- Source: docs/BENCHMARKS.md, "The waiters".
use Rattle.std.specs.Prelude.{ℕ}
use Rattle.tree_benches.specs.declared.crew.Crew.{Crew}
use Rattle.tree_benches.specs.declared.crew.Crew.TheVariants.{One, Two, Four}

-- one, two or four
abbrev pub count_of : Crew → ℕ
count_of One = 1
count_of Two = 2
count_of Four = 4
