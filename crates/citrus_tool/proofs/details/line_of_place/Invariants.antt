use Rattle.std.proofs.Common.{◌≡◌, ◌≤◌, ◌+◌, ◌*◌, length, take, sum_by}
use Rattle.citrus_tool.proofs.details.line_of_place.Given as goal

-- the lines of the scripts before are counted
abbrev pub invariant-loop-i : goal.invariant-loop-i
invariant-loop-i l = record {
  is : l.line ≡ l.fn.place.line + l.fn.place.script + 2 + sum_by length (take l.i l.scripts);
  few : l.line ≤ l.fn.place.line + l.fn.place.script + 2 + l.i * 1048576;
}
