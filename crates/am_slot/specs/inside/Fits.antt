-- What the productions of a block are, over so many fields.
use Rattle.std.specs.Prelude.{ℕ, true, IsTrue, All, ◌≤◌, ◌≡◌, ◌^◌, ◌<◌, List, length}
use Rattle.std.specs.List.{AllByRecursion, list_any}
use Rattle.am_bv.specs.Terms.{nodes, fits}
use Rattle.am_bv.specs.Operators.{arity}
use Rattle.am_blast.specs.Words.{IsWord}
use Rattle.am_tree.specs.declared.grammar.Production.{Production}
use Rattle.am_tree.specs.declared.grammar.Production.TheVariants.{Leaf, Node}
use Rattle.am_tree.specs.Trees.{Rules}
use Rattle.am_tree.specs.declared.slots.Argument.{Argument}
use Rattle.am_tree.specs.Slots.{Numbered, same, arguments, AreInside}

-- a leaf fits its width and its fields, and an operator has as many arguments as its arity
abbrev pub SuitsArity : ℕ → ℕ → Production → Type 0
SuitsArity w count (Leaf t) = IsTrue (fits w count t)
SuitsArity w count (Node op names) = length names ≡ arity op

-- a leaf is a term of few nodes
abbrev pub IsSmallLeaf : Production → Type 0
IsSmallLeaf (Leaf t) = nodes t < 2 ^ 32
IsSmallLeaf (Node op names) = Unit {0}

-- what the production of a block is, over so many fields
pub record IsFit (w count : ℕ) (p : Production) : Type 0 where
  pub suits : SuitsArity w count p
  pub small : IsSmallLeaf p
  pub short : length (arguments p) ≤ 3

-- what all productions of a table are, over so many fields
pub record AreFit (w count : ℕ) (rules : Rules) : Type 0 where
  pub productions : All (All (IsFit w count)) rules
  pub inside : AreInside (length rules) rules
  pub few : All (λ ps. length ps ≤ 64) rules

-- so many words of w literals
pub record AreLiteralWords (w count vars : ℕ) (words : List (List ℕ)) : Type 0 where
  pub many : length words ≡ count
  pub each : All (IsWord w vars) words

-- each argument of the production is one of the children
abbrev pub ArgumentsStand : List Argument → Production → Type 0
ArgumentsStand children p = AllByRecursion (λ a. list_any (same a) children ≡ true) (arguments p)

-- each argument of each of the productions is one of the children
abbrev pub AllStand : List Argument → List Numbered → Type 0
AllStand children ps = AllByRecursion (λ p. ArgumentsStand children p.production) ps
