use Rattle.std.proofs.Common.{◌≡◌, true, length}
use Rattle.am_lit.specs.UnitRow.{Determines}
use Rattle.am_solve.specs.inside.Searches.{CanChoose, Searches}
use Rattle.am_solve.specs.inside.Searching.{KeepsTo}
use Rattle.am_solve.proofs.solving.solve_exactly.Given as goal

abbrev pub invariant-loop-conflicts : goal.invariant-loop-conflicts
invariant-loop-conflicts l = record {
  searches : Searches l.formula.clauses l.search;
  count : length l.search.learnt ≡ l.conflicts;
  vars : l.search.trail.vars ≡ l.formula.vars;
  chooses : CanChoose l.search;
  keeps : l.over_base ≡ true → Determines l.formula.clauses l.formula.vars l.first
      → KeepsTo l.first l.search.learnt l.search.trail.entries;
}
