use Rattle.std.proofs.Common.{rules}
use Rattle.prcu_marks.specs.declared.access.Access.TheVariants.{Load, Store, Exchange, Add, Subtract, Flip}
use Rattle.class_hash.proofs.Facts.{allowed}
use Rattle.class_hash.proofs.access.touches_it.Goals as goal

pub load-requires : goal.load-requires
load-requires g c = allowed Load c.in-Load.is (search rules) (search rules) (search rules) (search rules) c.requires.picked c.requires.asks

pub store-requires : goal.store-requires
store-requires g c = allowed (Store c.in-Store.number) c.in-Store.is
    (search rules) (search rules) (search rules) (search rules) c.requires.picked c.requires.asks

pub compare_exchange-requires : goal.compare_exchange-requires
compare_exchange-requires g c = allowed (Exchange c.in-Exchange.expected c.in-Exchange.number) c.in-Exchange.is
    (search rules) (search rules) (search rules) (search rules) c.requires.picked c.requires.asks

pub fetch_add-requires : goal.fetch_add-requires
fetch_add-requires g c = allowed (Add c.in-Add.number) c.in-Add.is
    (search rules) (search rules) (search rules) (search rules) c.requires.picked c.requires.asks

pub fetch_sub-requires : goal.fetch_sub-requires
fetch_sub-requires g c = allowed (Subtract c.in-Subtract.number) c.in-Subtract.is
    (search rules) (search rules) (search rules) (search rules) c.requires.picked c.requires.asks

pub fetch_xor-requires : goal.fetch_xor-requires
fetch_xor-requires g c = allowed Flip c.in-Flip.is
    (search rules) (search rules) (search rules) (search rules) c.requires.picked c.requires.asks
