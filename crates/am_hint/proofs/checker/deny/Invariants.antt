use Rattle.std.proofs.Common.{◌≡◌, map, take}
use Rattle.am_lit.specs.Literal.{opposite_of}
use Rattle.am_hint.proofs.checker.deny.Given as goal

abbrev pub invariant-loop-l : goal.invariant-loop-l
invariant-loop-l s = record {
  vars : s.row.vars ≡ s.fn.row.vars;
  literals : s.row.literals ≡ map opposite_of (take s.l-index s.clause);
}
