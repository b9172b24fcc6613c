use Rattle.std.proofs.Common.{◌≡◌, take}
use Rattle.am_hint.specs.HintReplay.{AllPass, hint_clauses}
use Rattle.am_cert.proofs.refutation.tested.Given as goal

abbrev pub invariant-loop-k : goal.invariant-loop-k
invariant-loop-k l = record {
  vars : l.checker.vars ≡ l.formula.vars;
  given : l.checker.given ≡ l.formula.clauses;
  added : l.checker.added ≡ hint_clauses (take l.k l.hints);
  passed : AllPass l.formula.vars l.formula.clauses (take l.k l.hints);
}
