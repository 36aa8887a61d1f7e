use Rattle.std.proofs.Common.{inr, arith}
use Rattle.citrus_tool.proofs.details.unexplained_line.Goals as goal

pub returns-clause-unexplained : goal.returns-clause-unexplained
returns-clause-unexplained c =
    let account = c.in_ok-right.ensures in
    inr (record {
      right = c.in_ok-right.right.items;
      account = account.0;
      made = account.1;
      replies = account.2;
      same = c.common_front-same.result;
      begins = rw c.deref.ensures.value at c.common_front-same.ensures.same;
      ends = rw c.deref.ensures.value at c.common_front-same.ensures.ends;
      counted = omega (arith, c.lines_ended.ensures.count);
    })
