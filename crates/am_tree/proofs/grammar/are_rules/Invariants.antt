use Rattle.std.proofs.Common.{◌≡◌, ◌≤◌, All, IsTrue, length, sum_by, take}
use Rattle.am_tree.specs.Grammars.{is_production}
use Rattle.am_tree.proofs.grammar.are_rules.Given as goal

abbrev pub invariant-loop-productions : goal.invariant-loop-productions
invariant-loop-productions l = record {
  each : All (All (λ p. IsTrue (is_production (length l.rules) p))) (take l.productions-index l.rules);
  total : l.total ≡ sum_by length (take l.productions-index l.rules);
  most : l.total ≤ 64;
}
