use Rattle.std.proofs.Common.{◌≡◌, ◌-◌, length, sum_by, take}
use Rattle.am_problem.proofs.rules.room_after.Given as goal

abbrev pub invariant-loop-rule : goal.invariant-loop-rule
invariant-loop-rule l = l.room ≡ 64 - sum_by (λ rule. length rule.productions) (take l.rule-index l.seen)
