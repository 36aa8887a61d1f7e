-- Summaries of runs: what they count, how counts grow, and their bytes.
use Rattle.std.specs.Prelude.{ℕ, Bool, true, false, List, length, map as list_map, sum_by, count_by, None, ◌+◌, ◌^◌, ◌<◌, ◌++◌, codes, decimal}
use Rattle.prcu_model.specs.declared.operation.Op.{Op}
use Rattle.prcu_model.specs.declared.operation.Reply.{Reply}
use Rattle.prcu_model.specs.declared.operation.Reply.TheVariants.{New, Old, Val, Absent, Gone}
use Rattle.prcu_model.specs.declared.operation.Told.{Told}
use Rattle.prcu_model.specs.Dictionary.{Dictionary, map_of, plain_tolds, plain_history}
use Rattle.prcu_model.specs.Scripts.{op_count}
use Rattle.workload.specs.declared.summing.Summary.{Summary}
use Rattle.workload.specs.declared.summing.Counts.{Counts}
use Rattle.std.specs.FinMap as map

-- What a summary of a run counts.
-- Source: docs/FORMATS.md, "The made workload".

-- the replies of each name that a summary counts
abbrev pub is_new : Reply → Bool
is_new New = true
is_new _ = false

abbrev pub is_old : Reply → Bool
is_old Old = true
is_old _ = false

abbrev pub is_val : Reply → Bool
is_val (Val value) = true
is_val _ = false

abbrev pub is_absent : Reply → Bool
is_absent Absent = true
is_absent _ = false

abbrev pub is_gone : Reply → Bool
is_gone Gone = true
is_gone _ = false

-- the replies of all lists
abbrev pub replies_of : List (List Told) → List (List Reply)
replies_of tolds = list_map (list_map (λ told. told.reply)) tolds

-- how many of them pass
abbrev pub reply_count : (Reply → Bool) → List (List Told) → ℕ
reply_count passes tolds = sum_by (count_by passes) (replies_of tolds)

-- the sum of a dictionary's keys
abbrev pub key_sum : Dictionary → ℕ
key_sum m = sum_by (λ pair. pair.0) (map.entries m)

-- the sum of its values
abbrev pub value_sum : Dictionary → ℕ
value_sum m = sum_by (λ pair. pair.1) (map.entries m)

-- The summary of scripts, of what they were told and of the dictionary that they left: how many scripts and operations
-- there are, how often each reply was told, and the number of pairs with the sums of their keys and of their values.
abbrev pub summary_with : List (List Op) → List (List Told) → Dictionary → Summary
summary_with scripts tolds m = record {
  scripts = length scripts;
  ops = op_count scripts;
  new = reply_count is_new tolds;
  old = reply_count is_old tolds;
  val = reply_count is_val tolds;
  none = reply_count is_absent tolds;
  gone = reply_count is_gone tolds;
  size = map.len m;
  keys = key_sum m;
  values = value_sum m;
}

-- the summary of scripts that are run one after another on a plain map
abbrev pub plain_summary : List (List Op) → Summary
plain_summary scripts = summary_with scripts (plain_tolds None scripts) (map_of (plain_history None scripts))

-- Counts of replies as they grow.
-- Source: docs/FORMATS.md, "The made workload".

-- how often each reply stands in these lists
abbrev pub counts_of : List (List Told) → Counts
counts_of tolds = record {
  added = reply_count is_new tolds;
  present = reply_count is_old tolds;
  valued = reply_count is_val tolds;
  absent = reply_count is_absent tolds;
  removed = reply_count is_gone tolds;
}

-- the counts after these replies
abbrev pub counts_after : Counts → List Reply → Counts
counts_after counts replies = record {
  added = counts.added + count_by is_new replies;
  present = counts.present + count_by is_old replies;
  valued = counts.valued + count_by is_val replies;
  absent = counts.absent + count_by is_absent replies;
  removed = counts.removed + count_by is_gone replies;
}

-- no count is too high for so many more
pub record HasRoom (counts : Counts) (more : ℕ) : Type 0 where
  pub added : counts.added + more < 2 ^ 64
  pub present : counts.present + more < 2 ^ 64
  pub valued : counts.valued + more < 2 ^ 64
  pub absent : counts.absent + more < 2 ^ 64
  pub removed : counts.removed + more < 2 ^ 64

-- The bytes of a summary.
-- Source: docs/FORMATS.md, "The made workload".

-- a word, a space and a number
abbrev pub count_line : List ℕ → ℕ → List ℕ
count_line word number = word ++ codes " " ++ decimal number ++ codes "\n"

abbrev pub summary_text : Summary → List ℕ
summary_text summary =
    count_line (codes "scripts") summary.scripts
    ++ count_line (codes "ops") summary.ops
    ++ count_line (codes "new") summary.new
    ++ count_line (codes "old") summary.old
    ++ count_line (codes "val") summary.val
    ++ count_line (codes "none") summary.none
    ++ count_line (codes "gone") summary.gone
    ++ count_line (codes "size") summary.size
    ++ count_line (codes "keys") summary.keys
    ++ count_line (codes "values") summary.values
    ++ codes "end\n"
