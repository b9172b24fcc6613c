-- What a problem's text says, with nonterminals by their names.
use Rattle.std.specs.Prelude.{ℕ, List}
use Rattle.std.specs.declared.option.Option.{Option}
use Rattle.am_bv.specs.declared.op.Op.{Op}
use Rattle.am_bv.specs.declared.term.Term.{Term}
use Rattle.am_syntax.specs.Readers.{Word}
use Rattle.am_problem.specs.declared.kind.Kind.{Kind}

-- a term without nonterminals, or an operator at nonterminals
pub data Production : Type 0 where
  leaf : Term → Production
  node : Op → List Word → Production

-- a nonterminal and its productions
pub record Rule : Type 0 where
  pub name : Word
  pub productions : List Production

-- the operation, and under which assumption it is used
pub record Header : Type 0 where
  pub width : ℕ
  pub inputs : ℕ
  pub operation : Term
  pub assume : Option Term

-- what may be spent
pub record Budgets : Type 0 where
  pub depth : ℕ
  pub turns : ℕ
  pub conflicts : ℕ

-- the lines of a problem
pub record Lines : Type 0 where
  pub header : Header
  pub kind : Kind
  pub starts : List Word
  pub budgets : Budgets
  pub rules : List Rule
