use Rattle.std.proofs.Common.{◌≡◌}
use Rattle.citrus_tree.specs.declared.search.Hop.TheVariants.{Moved}
use Rattle.citrus_tree.specs.Hops.{IsSearch, search_at}
use Rattle.tree_tests.proofs.lifts.depth_of.Given as goal

-- the search is of this table and borrows this seat, moved last, and stands where the section's loads led
abbrev pub invariant-loop-depth : goal.invariant-loop-depth
invariant-loop-depth g l = record {
  own : (search_at l.search).table ≡ l.table;
  table : (search_at l.search).seat.table ≡ l.table;
  listed : (search_at l.search).seat.listed ≡ l.fn.seat.listed;
  moved : (search_at l.search).last ≡ Moved;
  lender : (search_at l.search).lender ≡ (search_at l.initial.search).lender;
  stands : IsSearch g.W.WaitWords.WAY l.fn.seat.view (search_at l.search);
}
