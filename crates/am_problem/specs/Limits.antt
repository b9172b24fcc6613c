-- Which problems are within the limits.
use Rattle.std.specs.Prelude.{◌≡◌, ◌≢◌, ℕ, ◌*◌, ◌<◌, ◌≤◌, List, length, All, IfSome, IsTrue}
use Rattle.std.specs.List.{AllPairs}
use Rattle.am_bv.specs.Terms.{fits, nodes}
use Rattle.am_bv.specs.Words.{IsWidth}
use Rattle.am_bv.specs.declared.term.Term.{Term}
use Rattle.am_syntax.specs.Numerals.{is_name}
use Rattle.am_syntax.specs.Readers.{Word}
use Rattle.am_tree.specs.Grammars.{IsGrammar, is_production}
use Rattle.am_tree.specs.Slots.{layout_of}
use Rattle.am_tree.specs.Trees.{Rules}
use Rattle.am_tree.specs.declared.grammar.Production.{Production}
use Rattle.am_tree.specs.declared.grammar.Production.TheVariants.{Leaf, Node}
use Rattle.am_problem.specs.Kinds.{fields_of}
use Rattle.am_problem.specs.Loads.{load_of}
use Rattle.am_problem.specs.Problem.{Problem}

-- how many slots the language's grammar has
abbrev pub slots_of : Problem → ℕ
slots_of p = length (layout_of p.rules p.starts p.depth)

-- the term of an operation or an assumption
pub record IsOperation (w inputs : ℕ) (t : Term) : Type 0 where
  pub fit : IsTrue (fits w inputs t)
  pub small : nodes t ≤ 64

-- a leaf is over the fields
abbrev pub IsLeafOver : ℕ → ℕ → Production → Type 0
IsLeafOver w fields (Leaf t) = IsTrue (fits w fields t)
IsLeafOver w fields (Node op names) = Unit {0}

-- the number of a nonterminal of a problem
abbrev pub IsNonterminal : Problem → ℕ → Type 0
IsNonterminal p n = n < length p.names

-- a production that may stand in the grammar of a problem: of its nonterminals, or over the fields of its inputs
pub record IsProductionOf (p : Problem) (q : Production) : Type 0 where
  pub production : IsTrue (is_production (length p.rules) q)
  pub over : IsLeafOver p.width (p.inputs * fields_of p.kind) q

-- no name stands twice
abbrev pub AreApart : List Word → Type 0
AreApart called = AllPairs (λ a b. a ≢ b) called

-- one name for each nonterminal, and none twice
pub record AreNames (rules : Rules) (called : List Word) : Type 0 where
  pub each : length called ≡ length rules
  pub names : All (λ name. IsTrue (is_name name)) called
  pub once : AreApart called

-- each part of a problem is within its limits
pub record IsFormed (p : Problem) : Type 0 where
  pub width : IsWidth p.width
  pub some_input : 1 ≤ p.inputs
  pub few_inputs : p.inputs ≤ 3
  pub operation : IsOperation p.width p.inputs p.operation
  pub assume : IfSome p.assume (IsOperation p.width p.inputs)
  pub grammar : IsGrammar p.rules p.starts p.depth
  pub leaves : All (All (IsLeafOver p.width (p.inputs * fields_of p.kind))) p.rules
  pub names : AreNames p.rules p.names
  pub start_per_field : length p.starts ≡ fields_of p.kind
  pub turns : p.turns ≤ 4096
  pub some_conflicts : 1 ≤ p.conflicts
  pub few_conflicts : p.conflicts ≤ 1000000

-- a problem is within all limits
pub record IsProblem (p : Problem) : Type 0 where
  pub formed : IsFormed p
  pub slots : slots_of p ≤ 256
  pub load : load_of p ≤ 16777216
