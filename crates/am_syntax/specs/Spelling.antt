-- The words of a term, how deep it nests, and which terms may stand somewhere.
use Rattle.std.specs.Prelude.{◌≡◌, ℕ, ◌+◌, ◌≤◌, ◌<◌, ◌^◌, List, [], ◌∷◌, ◌++◌, decimal, codes, flat_map, max, true}
use Rattle.am_bv.specs.declared.term.Term.{Term, fold-Term}
use Rattle.am_bv.specs.declared.term.Term.TheOpen.{Term-F, Const, Field, Node}
use Rattle.am_bv.specs.Terms.{fits, nodes}
use Rattle.am_syntax.specs.declared.limits.Letter.{Letter}
use Rattle.am_syntax.specs.declared.limits.Letter.TheVariants.{X, F}
use Rattle.am_syntax.specs.declared.limits.TermLimits.{TermLimits}
use Rattle.am_syntax.specs.Names.{op_name}
use Rattle.am_syntax.specs.Readers.{Words}

-- the letter of a variable
abbrev pub letter_code : Letter → ℕ
letter_code X = 120
letter_code F = 102

-- the words of a term's root over the words of its arguments
abbrev pub term_words_step : ℕ → Term-F Words → Words
term_words_step letter (Const c) = decimal c ∷ []
term_words_step letter (Field i) = (letter ∷ decimal i) ∷ []
term_words_step letter (Node op words) = codes "(" ∷ op_name op ∷ (flat_map (λ w. w) words ++ codes ")" ∷ [])

-- the words of a term whose variables have this letter
unfoldable pub term_words : ℕ → Term → Words
term_words letter t = fold-Term Words (term_words_step letter) t

-- the greatest of the numbers, or 0
abbrev pub greatest : List ℕ → ℕ
greatest [] = 0
greatest (n ∷ ns) = max n (greatest ns)

-- how deep a term's root nests over its arguments
abbrev pub nesting_step : Term-F ℕ → ℕ
nesting_step (Const c) = 0
nesting_step (Field i) = 0
nesting_step (Node op depths) = 1 + greatest depths

-- how many parentheses are open at most
unfoldable pub nesting : Term → ℕ
nesting t = fold-Term ℕ nesting_step t

-- the width of constants, and the letter and the number of variables
pub record Scope : Type 0 where
  pub width : ℕ
  pub letter : Letter
  pub variables : ℕ

-- the scope of a term at this width, within these limits
abbrev pub scope_of : ℕ → TermLimits → Scope
scope_of w limits = record { width = w; letter = limits.letter; variables = limits.variables }

-- a width and a number of variables that a term may have
pub record IsScope (scope : Scope) : Type 0 where
  pub width : scope.width ≤ 8
  pub variables : scope.variables < 2 ^ 64

-- a term that may stand here, of so many nodes and parentheses in one another at most
pub record IsTermWithin (scope : Scope) (depth room : ℕ) (t : Term) : Type 0 where
  pub fit : fits scope.width scope.variables t ≡ true
  pub few : nodes t ≤ room
  pub flat : nesting t ≤ depth

-- a term that fits some width and number of variables
pub record FitsSomewhere (t : Term) : Type 0 where
  pub scope : Scope
  pub is : IsScope scope
  pub fit : fits scope.width scope.variables t ≡ true
