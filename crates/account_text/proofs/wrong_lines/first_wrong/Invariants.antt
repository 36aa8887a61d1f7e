use Rattle.std.proofs.Common.{◌≡◌, ◌≤◌, ◌+◌, ℕ, length, drop}
use Rattle.prcu_model.specs.Fronts.{told_lines}
use Rattle.account_text.specs.WrongLines.{AreRight, IsWrongAt}
use Rattle.account_text.proofs.wrong_lines.first_wrong.Given as goal

-- what holds of the lines that are left holds of all
abbrev pub invariant-loop-op : goal.invariant-loop-op
invariant-loop-op l =
    let left = told_lines (drop (length l.yielded) l.script) (drop (length l.yielded) l.told) in
    let all = told_lines l.script l.told in
    record {
      few : l.turn ≤ length l.yielded;
      place : l.place ≡ length l.yielded;
      right : AreRight l.timeline l.caller l.turn l.before left → AreRight l.timeline l.caller 0 0 all;
      wrong : (n : ℕ) → IsWrongAt l.timeline l.caller l.turn l.before left n → IsWrongAt l.timeline l.caller 0 0 all (length l.yielded + n);
    }
