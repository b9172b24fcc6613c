-- What a table of rules keeps of a grammar.
use Rattle.std.specs.Prelude.{◌≤◌, All, IsTrue, length}
use Rattle.am_tree.specs.Grammars.{is_production}
use Rattle.am_tree.specs.Trees.{Rules}
use Rattle.am_tree.specs.Slots.{AreInside}

-- the productions are those of a grammar
pub record AreWhole (rules : Rules) : Type 0 where
  pub productions : All (All (λ p. IsTrue (is_production (length rules) p))) rules
  pub inside : AreInside (length rules) rules
  pub few : All (λ ps. length ps ≤ 64) rules
