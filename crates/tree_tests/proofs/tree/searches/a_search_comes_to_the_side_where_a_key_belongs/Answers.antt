use Rattle.tree_tests.proofs.tree.searches.a_search_comes_to_the_side_where_a_key_belongs.Goals as goal

pub finish-requires-clause-stands : goal.finish-requires-clause-stands
finish-requires-clause-stands g c = (
  c.run-seat.result.view,
  c.hop-2.ensures.stands c.run-seat.result.view (c.hop.ensures.stands c.run-seat.result.view c.start-search.ensures.stands),
)
