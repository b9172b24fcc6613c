-- Terms, each word of them a fold: one step at a node, over what the step gave at its arguments.
use Rattle.std.specs.Prelude.{ℕ, ◌+◌, ◌^◌, Bool, true, ◌&&◌, List, length, slice_index, slice_index_or, [], ◌∷◌, sum}
use Rattle.std.specs.Prelude.{nat_lt, ◌==◌}
use Rattle.std.specs.List.{list_all}
use Rattle.am_bv.specs.declared.term.Term.{Term, fold-Term}
use Rattle.am_bv.specs.declared.op.Op.{Op}
use Rattle.am_bv.specs.declared.term.Term.TheOpen.{Term-F, Const, Field, Node}
use Rattle.am_bv.specs.declared.term.Term.TheVariants as term
use Rattle.am_bv.specs.Operators.{arity, apply, weight_of}

-- an operator at one argument
abbrev pub unary : Op → Term → Term
unary op t = term.Node op (t ∷ [])

-- an operator at two arguments
abbrev pub binary : Op → Term → Term → Term
binary op s t = term.Node op (s ∷ t ∷ [])

-- an operator at three arguments
abbrev pub ternary : Op → Term → Term → Term → Term
ternary op r s t = term.Node op (r ∷ s ∷ t ∷ [])

-- the value at one node, from the values of its arguments
abbrev pub val_step : ℕ → List ℕ → Term-F ℕ → ℕ
val_step w env (Const c) = c
val_step w env (Field i) = slice_index env i
val_step w env (Node op words) = apply w op words

-- the value of a term at width w, where env gives the fields their words
unfoldable pub val : ℕ → Term → List ℕ → ℕ
val w t env = fold-Term ℕ (val_step w env) t

-- whether a node fits, from whether its arguments do
abbrev pub fits_step : ℕ → ℕ → Term-F Bool → Bool
fits_step w n (Const c) = nat_lt c (2 ^ w)
fits_step w n (Field i) = nat_lt i n
fits_step w n (Node op fit) = (length fit == arity op) && list_all (λ b. b) fit

-- whether each constant is below 2 ^ w, each field below n, and each operator has as many arguments as its arity
unfoldable pub fits : ℕ → ℕ → Term → Bool
fits w n t = fold-Term Bool (fits_step w n) t

-- whether a node has its arities, from whether its arguments have theirs
abbrev pub arities_step : Term-F Bool → Bool
arities_step (Const c) = true
arities_step (Field i) = true
arities_step (Node op right) = (length right == arity op) && list_all (λ b. b) right

-- whether each operator has as many arguments as its arity
unfoldable pub has_arities : Term → Bool
has_arities t = fold-Term Bool arities_step t

-- the count at one node, from the counts of its arguments
abbrev pub nodes_step : Term-F ℕ → ℕ
nodes_step (Const c) = 1
nodes_step (Field i) = 1
nodes_step (Node op counts) = 1 + sum counts

-- the number of operators and leaves
unfoldable pub nodes : Term → ℕ
nodes t = fold-Term ℕ nodes_step t

-- the weight at one node, from the weights of its arguments
abbrev pub weight_step : ℕ → Term-F ℕ → ℕ
weight_step w (Const c) = 0
weight_step w (Field i) = 0
weight_step w (Node op weights) = weight_of w op + sum weights

-- the sum of the weights of the operators, at width w
unfoldable pub weight : ℕ → Term → ℕ
weight w t = fold-Term ℕ (weight_step w) t

-- one node renamed, over renamed arguments
abbrev pub rename_step : List ℕ → Term-F Term → Term
rename_step fields (Const c) = term.Const c
rename_step fields (Field i) = term.Field (slice_index_or fields i i)
rename_step fields (Node op args) = term.Node op args

-- the term with the field at place i of a list for each field i; a field past the end of the list stays
unfoldable pub rename : List ℕ → Term → Term
rename fields t = fold-Term Term (rename_step fields) t
