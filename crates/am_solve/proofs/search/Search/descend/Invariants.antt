use Rattle.std.proofs.Common.{◌≡◌, ◌-◌, length}
use Rattle.am_lit.specs.UnitRow.{Determines}
use Rattle.am_solve.specs.inside.Searches.{CanChoose, Searches}
use Rattle.am_solve.specs.inside.Searching.{KeepsTo}
use Rattle.am_solve.proofs.search.Search.descend.Given as goal

abbrev pub invariant-loop-conflict : goal.invariant-loop-conflict
invariant-loop-conflict l = record {
  searches : Searches l.formula.clauses l.self;
  learnt : l.self.learnt ≡ l.initial.self.learnt;
  vars : l.self.trail.vars ≡ l.initial.self.trail.vars;
  chooses : CanChoose l.self;
  keeps : Determines l.formula.clauses l.initial.self.trail.vars l.first
      → KeepsTo l.first l.initial.self.learnt l.initial.self.trail.entries
      → KeepsTo l.first l.self.learnt l.self.trail.entries;
}

abbrev pub decreases-loop-conflict : goal.decreases-loop-conflict
decreases-loop-conflict l = l.self.trail.vars - length l.self.trail.entries
