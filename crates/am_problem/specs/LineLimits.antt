-- Which lines are within the limits, before names are looked up, slots counted and the load weighed.
use Rattle.std.specs.Prelude.{◌≡◌, ◌*◌, ◌≤◌, false, List, [], ◌∷◌, ◌++◌, length, IfSome, IsTrue}
use Rattle.std.specs.List.{AllByRecursion}
use Rattle.am_bv.specs.Operators.{arity}
use Rattle.am_syntax.specs.Numerals.{is_name}
use Rattle.am_syntax.specs.Readers.{Word}
use Rattle.am_syntax.specs.Spelling.{IsTermWithin, Scope}
use Rattle.am_syntax.specs.declared.limits.Letter.TheVariants.{X, F}
use Rattle.am_problem.specs.Grammar.{has_name, names_of, productions_of_rules, scope_at}
use Rattle.am_problem.specs.Kinds.{fields_of}
use Rattle.am_problem.specs.Lines.{Lines, Production, Rule, leaf, node}

-- names of nonterminals, as they are spelled
abbrev pub AreNonterminals : List Word → Type 0
AreNonterminals names = AllByRecursion (λ v. IsTrue (is_name v)) names

-- a term of few nodes, or an operator at as many nonterminals as its arity
abbrev pub IsProduction : Scope → Production → Type 0
IsProduction scope (leaf t) = IsTermWithin scope 64 64 t
IsProduction scope (node op names) = (length names ≡ arity op) × AreNonterminals names

-- a rule: its name, and productions over the fields
pub record IsRule (scope : Scope) (r : Rule) : Type 0 where
  pub name : IsTrue (is_name r.name)
  pub productions : AllByRecursion (IsProduction scope) r.productions

-- no name is had by an earlier rule
abbrev pub OnceEach : List Rule → List Rule → Type 0
OnceEach seen [] = Unit {0}
OnceEach seen (r ∷ rules) = (has_name (names_of seen) r.name ≡ false) × OnceEach (seen ++ r ∷ []) rules

-- rules after other rules: few rules, and few productions, all together
pub record AreLineRules (scope : Scope) (seen rules : List Rule) : Type 0 where
  pub each : AllByRecursion (IsRule scope) rules
  pub once : OnceEach seen rules
  pub few : length (seen ++ rules) ≤ 16
  pub few_productions : productions_of_rules (seen ++ rules) ≤ 64

-- lines that stand in some problem, where each name has a rule and the grammar isn't too large
pub record IsLines (d : Lines) : Type 0 where
  pub width : (2 ≤ d.header.width) × (d.header.width ≤ 8)
  pub inputs : (1 ≤ d.header.inputs) × (d.header.inputs ≤ 3)
  pub operation : IsTermWithin (scope_at d.header.width X d.header.inputs) 64 64 d.header.operation
  pub assume : IfSome d.header.assume (IsTermWithin (scope_at d.header.width X d.header.inputs) 64 64)
  pub start_per_field : length d.starts ≡ fields_of d.kind
  pub starts : AreNonterminals d.starts
  pub depth : (1 ≤ d.budgets.depth) × (d.budgets.depth ≤ 5)
  pub turns : d.budgets.turns ≤ 4096
  pub conflicts : (1 ≤ d.budgets.conflicts) × (d.budgets.conflicts ≤ 1000000)
  pub rules : AreLineRules (scope_at d.header.width F (d.header.inputs * fields_of d.kind)) [] d.rules
