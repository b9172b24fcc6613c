-- The names of rules in a set, and lines that use no other names.
use Rattle.std.specs.Prelude.{ℕ, List, All, IsTrue}
use Rattle.std.specs.Borrow.{Bor}
use Rattle.am_syntax.specs.Readers.{Word}
use Rattle.indexmap.specs.IndexSet.{IndexSet}
use Rattle.am_problem.specs.Grammar.{has_name}
use Rattle.am_problem.specs.Lines.{Production, Rule, leaf, node}
use Rattle.am_problem.specs.StoredLines.{seen_names}

-- the names in a set, in order
abbrev pub names_in : {S : Type 0} → IndexSet (Bor (List ℕ)) S → List Word
names_in set = seen_names set.keys

-- a nonterminal is one of these names
abbrev pub IsNameOf : List Word → Word → Type 0
IsNameOf names v = IsTrue (has_name names v)

-- each nonterminal of a production is one of these names
abbrev pub IsProductionOver : List Word → Production → Type 0
IsProductionOver names (leaf t) = Unit {0}
IsProductionOver names (node op args) = All (IsNameOf names) args

-- each nonterminal in the productions of a rule is one of these names
abbrev pub IsRuleOver : List Word → Rule → Type 0
IsRuleOver names r = All (IsProductionOver names) r.productions
