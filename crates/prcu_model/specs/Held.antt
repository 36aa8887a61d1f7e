-- How a `Scripts` holds its lists.
use Rattle.std.specs.Prelude.{◌≡◌, ◌≤◌, List, length}
use Rattle.prcu_model.specs.declared.operation.Op.{Op}
use Rattle.prcu_model.specs.declared.scripts.Scripts.TheInside.{Inside}
use Rattle.prcu_model.specs.Scripts.{op_count, put_count, items_of, AllFit}

abbrev pub op_lists : Inside → List (List Op)
op_lists a = items_of a.scripts.items

-- the counts are those of the lists, which keep to the limits
pub record IsHeld (a : Inside) : Type 0 where
  pub few_scripts : length (op_lists a) ≤ 64
  pub few_ops : op_count (op_lists a) ≤ 1048576
  pub ops : a.ops ≡ op_count (op_lists a)
  pub puts : a.puts ≡ put_count (op_lists a)
  pub fits : AllFit (op_lists a)
