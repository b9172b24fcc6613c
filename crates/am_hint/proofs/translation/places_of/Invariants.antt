use Rattle.std.proofs.Common.{◌≡◌, ◌+◌, ◌≤◌, length, take}
use Rattle.am_hint.specs.inside.Translated.{clauses_before}
use Rattle.am_hint.proofs.Translating.{IsFalseAt, LeadsTo}
use Rattle.am_hint.proofs.translation.places_of.Given as goal

-- the clause of the steps that are left is false, and the numbers so far lead to the row
abbrev pub invariant-loop-left : goal.invariant-loop-left
invariant-loop-left l = record {
  in_range : l.left ≤ length l.chain.steps;
  short : length l.by + l.left ≤ length l.chain.steps;
  vars : l.row.vars ≡ l.fn.row.vars;
  back : IsFalseAt (clauses_before l.checker (length l.numbers.chains)) l.chain l.left l.row.literals;
  leads : LeadsTo l.checker.given (take (length l.numbers.chains) l.checker.derived) l.numbers.chains l.fn.row.literals
      l.by l.row.literals;
}

abbrev pub decreases-loop-left : goal.decreases-loop-left
decreases-loop-left l = l.left
