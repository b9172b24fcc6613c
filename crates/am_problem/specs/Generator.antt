-- The problem of a number, for trials of many problems.
use Rattle.std.specs.Prelude.{ℕ, ◌+◌, ◌*◌, ◌/◌, ◌%◌, List, [], ◌∷◌, ◌++◌, codes, map, slice_index_or, take}
use Rattle.std.specs.declared.option.Option.TheVariants.{None}
use Rattle.std.specs.List.{range_with_len}
use Rattle.am_bv.specs.declared.op.Op.{Op}
use Rattle.am_bv.specs.declared.op.Op.TheVariants.{Add, And, Lshr, Mul, Or, Shl, Smin, Sub, Udiv, Umax, Umin, Urem, Xor}
use Rattle.am_bv.specs.declared.term.Term.{Term}
use Rattle.am_bv.specs.declared.term.Term.TheVariants.{Const, Field}
use Rattle.am_bv.specs.Terms.{binary}
use Rattle.am_domain.specs.Question.{IsSound}
use Rattle.am_syntax.specs.Readers.{Word}
use Rattle.am_tree.specs.Trees.{Rules}
use Rattle.am_tree.specs.declared.grammar.Production.{Production}
use Rattle.am_tree.specs.declared.grammar.Production.TheVariants.{Leaf, Node}
use Rattle.am_problem.specs.declared.kind.Kind.{Kind}
use Rattle.am_problem.specs.declared.kind.Kind.TheVariants.{UInterval, SInterval, KnownBits, Parity, Congruence}
use Rattle.am_problem.specs.Kinds.{abstraction_of, fields_of}
use Rattle.am_problem.specs.Problem.{Problem, question_of}

-- ---- what a number chooses: a width, a domain, an operation and a depth by its digits, and four operators by the
-- digits of what is left

-- the domains of made problems
abbrev pub made_kinds : List Kind
made_kinds = UInterval ∷ SInterval ∷ KnownBits ∷ Parity ∷ Congruence ∷ []

-- their operations
abbrev pub made_operations : List Op
made_operations = Add ∷ Sub ∷ And ∷ Or ∷ Xor ∷ Mul ∷ Umin ∷ Umax ∷ Shl ∷ Lshr ∷ Udiv ∷ Urem ∷ []

-- the operators of their grammars
abbrev pub made_operators : List Op
made_operators = And ∷ Or ∷ Xor ∷ Add ∷ Sub ∷ Umin ∷ Umax ∷ Smin ∷ []

-- the width is the digit to base 7, from 2
abbrev pub made_width : ℕ → ℕ
made_width n = 2 + n % 7

-- the domain is the next digit, to base 5
abbrev pub made_kind : ℕ → Kind
made_kind n = slice_index_or made_kinds (n / 7 % 5) UInterval

-- the operation is the next digit, to base 12
abbrev pub made_operation : ℕ → Op
made_operation n = slice_index_or made_operations (n / 35 % 12) Add

-- the depth is the next digit, to base 2, from 2
abbrev pub made_depth : ℕ → ℕ
made_depth n = 2 + n / 420 % 2

-- the operator of a digit to base 8
abbrev pub made_operator : ℕ → Op
made_operator s = slice_index_or made_operators (s % 8) And

-- the operators of the result's fields
abbrev pub field_operators : ℕ → List Op
field_operators s = made_operator s ∷ made_operator (s / 8 + 1) ∷ made_operator (s / 64 + 3) ∷ []

-- the operator of the arguments
abbrev pub argument_operator : ℕ → Op
argument_operator s = made_operator (s / 512 + 5)

-- ---- the grammar: a nonterminal for each field of the result, and one more for all arguments

-- a name for each field of the result, and one for the arguments
abbrev pub made_names : ℕ → List Word
made_names fields = take fields (codes "F0" ∷ codes "F1" ∷ []) ++ codes "A" ∷ []

-- an operator at two arguments
abbrev pub pair_production : ℕ → Op → Production
pair_production argument op = Node op (argument ∷ argument ∷ [])

-- a field of the result is a constant, or an operator at two arguments
abbrev pub field_rule : ℕ → List Op → ℕ → List Production
field_rule argument ops c = Leaf (Const c) ∷ map (pair_production argument) ops

-- an argument is a field of an input, 0, or an operator at two arguments
abbrev pub argument_rule : ℕ → ℕ → Op → List Production
argument_rule argument fields op =
    map (λ i. Leaf (Field i)) (range_with_len 0 fields) ++ Leaf (Const 0) ∷ pair_production argument op ∷ []

-- the rules for a result that may be the greatest abstract value, with these words, and so for some sound transformer
abbrev pub rules_of : List ℕ → ℕ → List Op → Op → Rules
rules_of top fields ops op = map (field_rule fields ops) top ++ argument_rule fields (2 * fields) op ∷ []

-- the rules of a made problem, where a number chooses the operators
abbrev pub made_rules : ℕ → ℕ → Kind → Rules
made_rules s w kind =
    rules_of ((abstraction_of kind).top w) (fields_of kind) (field_operators s) (argument_operator s)

-- the problem of a number
abbrev pub made_problem_of : ℕ → Problem
made_problem_of n = record {
  width = made_width n;
  inputs = 2;
  operation = binary (made_operation n) (Field 0) (Field 1);
  assume = None;
  kind = made_kind n;
  names = made_names (fields_of (made_kind n));
  rules = made_rules (n / 840) (made_width n) (made_kind n);
  starts = range_with_len 0 (fields_of (made_kind n));
  depth = made_depth n;
  turns = 200;
  conflicts = 200000;
}

-- some transformer that derives is sound
pub record HasSound (p : Problem) : Type 0 where
  pub terms : List Term
  pub derivable : (question_of p).Derivable terms
  pub sound : IsSound (question_of p) terms
