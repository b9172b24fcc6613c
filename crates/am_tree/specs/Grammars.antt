-- What a grammar is.
use Rattle.std.specs.Prelude.{ℕ, ◌<◌, ◌≤◌, ◌==◌, ◌&&◌, nat_lt, nat_le, Bool, IsTrue, List, All, length, sum_by}
use Rattle.std.specs.List.{list_all}
use Rattle.am_bv.specs.Operators.{arity}
use Rattle.am_bv.specs.Terms.{has_arities, nodes}
use Rattle.am_tree.specs.declared.grammar.Production.{Production}
use Rattle.am_tree.specs.declared.grammar.Production.TheVariants.{Leaf, Node}

-- A production of a grammar with so many nonterminals: a leaf of at most 64 nodes, or an operator at nonterminals. Each
-- operator, also of a leaf, has as many arguments as its arity.
abbrev pub is_production : ℕ → Production → Bool
is_production count (Leaf t) = nat_le (nodes t) 64 && has_arities t
is_production count (Node op names) = (length names == arity op) && list_all (λ n. nat_lt n count) names

-- at most 16 nonterminals, 64 productions and 4 starts, and a depth from 1 to 5
pub record IsGrammar (rules : List (List Production)) (starts : List ℕ) (depth : ℕ) : Type 0 where
  pub productions : All (All (λ p. IsTrue (is_production (length rules) p))) rules
  pub starts_in : All (λ n. n < length rules) starts
  pub few_rules : length rules ≤ 16
  pub few_productions : sum_by length rules ≤ 64
  pub few_starts : length starts ≤ 4
  pub some_depth : 1 ≤ depth
  pub most_depth : depth ≤ 5
