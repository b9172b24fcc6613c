-- What a problem says, as plain data, and what it asks.
use Rattle.std.specs.Prelude.{◌≡◌, ◌≢◌, ℕ, List, None, Some}
use Rattle.std.specs.declared.option.Option.{Option}
use Rattle.am_bv.specs.Terms.{val}
use Rattle.am_bv.specs.declared.term.Term.{Term}
use Rattle.am_domain.specs.Question.{Question}
use Rattle.am_syntax.specs.Readers.{Word}
use Rattle.am_tree.specs.Trees.{AreTrees, Rules, terms_of}
use Rattle.am_tree.specs.declared.tree.Tree.{Tree}
use Rattle.am_problem.specs.declared.kind.Kind.{Kind}
use Rattle.am_problem.specs.Kinds.{meaning_of}

-- The operation and the assumption under which it is used, over the words of the inputs; a domain; the nonterminals'
-- names and their productions, over the fields of the inputs; a start for each field of the result; the depth of
-- trees; and what may be spent.
pub record Problem : Type 0 where
  pub width : ℕ
  pub inputs : ℕ
  pub operation : Term
  pub assume : Option Term
  pub kind : Kind
  pub names : List Word
  pub rules : Rules
  pub starts : List ℕ
  pub depth : ℕ
  pub turns : ℕ
  pub conflicts : ℕ

-- there is no assumption, or its value at the words isn't 0
abbrev pub IsAssumed : ℕ → Option Term → List ℕ → Type 0
IsAssumed w None words = Unit {0}
IsAssumed w (Some t) words = val w t words ≢ 0

-- the terms of a tuple of trees, one from each start with the depth
pub record AreDerivable (rules : Rules) (starts : List ℕ) (depth : ℕ) (terms : List Term) : Type 0 where
  pub trees : List Tree
  pub derive : AreTrees rules starts depth trees
  pub give : terms ≡ terms_of rules starts trees

-- the terms of trees that derive from the starts with the depth, which cover the operation wherever it is assumed
abbrev pub question_of : Problem → Question
question_of p = record {
  width = p.width;
  inputs = p.inputs;
  domain = meaning_of p.kind;
  operation = val p.width p.operation;
  Assumed = IsAssumed p.width p.assume;
  Derivable = AreDerivable p.rules p.starts p.depth;
}
