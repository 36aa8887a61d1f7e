use Rattle.exact_list.proofs.Counting.{walked_found}
use Rattle.exact_list.proofs.Loading.{finds_none, may_read_value, finds_pair}
use Rattle.exact_list.proofs.descent.seek_pair.Goals as goal

pub returns-in_default-clause-found : goal.returns-in_default-clause-found
returns-in_default-clause-found g c = finds_none c.in_ok-best.ensures.reached c.in_default.is

pub list_load-value-requires-clause-asks : goal.list_load-value-requires-clause-asks
list_load-value-requires-clause-asks g c = λ told. may_read_value c.in_ok-best.ensures.reached c.in-Some.is

pub returns-clause-found : goal.returns-clause-found
returns-clause-found g c = finds_pair c.in_ok-best.ensures.reached c.in-Some.is c.list_load-value.ensures.told

pub returns-clause-walked : goal.returns-clause-walked
returns-clause-walked g c = walked_found
    (record { key = c.in-Some.passed.key; value = c.list_load-value.result }) c.in_ok-best.ensures.down c.list_load-value.ensures.told
