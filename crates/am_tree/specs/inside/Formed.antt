-- The part of a grammar's invariant that speaks of its productions alone.
use Rattle.std.specs.Prelude.{◌≤◌, List, All, IsTrue, length, sum_by}
use Rattle.am_tree.specs.declared.grammar.Production.{Production}
use Rattle.am_tree.specs.Grammars.{is_production}

-- each is a production of a grammar with these rules, and there are few enough
pub record AreGrammarRules (rules : List (List Production)) : Type 0 where
  pub each : All (All (λ p. IsTrue (is_production (length rules) p))) rules
  pub few : sum_by length rules ≤ 64
