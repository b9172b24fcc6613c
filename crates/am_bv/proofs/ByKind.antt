-- The laws of what is defined by recursion on a term, kind by kind.
use Rattle.std.proofs.Common.{◌≡◌, ℕ, subst, lit≤, ◌+◌, ◌^◌, ◌<◌, ◌≤◌, Bool, true, ◌&&◌, List, [], ◌∷◌, length, map}
use Rattle.std.proofs.Common.{sum_by, nat_lt, ◌==◌, get_or, IsTrue, ap, ◌∙◌, refl, slice_index, take, arith}
use Rattle.std.specs.List.{list_all}
use Rattle.std.proofs.lemmas.List.{length-map}
use Rattle.std.proofs.lemmas.List.Sums.{AllPass-from_list_all, sum-map, sum_by_more_le}
use Rattle.std.proofs.lemmas.Bool.{eqb-true, and_parts}
use Rattle.am_bv.specs.declared.op.Op.{Op}
use Rattle.am_bv.specs.declared.op.Op.TheVariants.{Not, Neg, Ite}
use Rattle.am_bv.specs.declared.term.Term.{Term, fold-Term, fold_out-Term, map-Term, out-Term}
use Rattle.am_bv.specs.declared.term.Term.TheOpen.{Term-F, Const as Const-F, Field as Field-F, Node as Node-F}
use Rattle.am_bv.specs.declared.term.Term.TheVariants.{Const, Field, Node, outs-Const, outs-Field, outs-Node}
use Rattle.am_bv.specs.Operators.{arity, apply, apply_at, weight_of}
use Rattle.am_bv.specs.Terms.{val, val_step, fits, fits_step, has_arities, arities_step, nodes, nodes_step, weight}
use Rattle.am_bv.specs.Terms.{weight_step, rename, rename_step, unary, binary, ternary}

-- a fold at a term of which one layer is known
pub fold_at : {A : Type 0} (step : Term-F A → A) (t : Term) (o : Term-F Term) → out-Term t ≡ o →
    fold-Term A step t ≡ step (map-Term Term A (fold-Term A step) o)
fold_at {A = A} step t o e =
    fold_out-Term A step t ∙ ap (λ (x : Term-F Term). step (map-Term Term A (fold-Term A step) x)) e

-- a constant has its word as its value
pub val-Const : (w c : ℕ) (env : List ℕ) → val w (Const c) env ≡ c
unfolding val
val-Const w c env = fold_at (val_step w env) (Const c) (Const-F c) (outs-Const c)

-- the value of a field is its entry in the row
pub val-Field : (w i : ℕ) (env : List ℕ) → val w (Field i) env ≡ slice_index env i
unfolding val
val-Field w i env = fold_at (val_step w env) (Field i) (Field-F i) (outs-Field i)

-- the value of a node is its operator's at the values of its arguments
pub val-Node : (w : ℕ) (op : Op) (ts : List Term) (env : List ℕ) →
    val w (Node op ts) env ≡ apply w op (map (λ t. val w t env) ts)
unfolding val
val-Node w op ts env = fold_at (val_step w env) (Node op ts) (Node-F op ts) (outs-Node op ts)

-- a constant fits where it is a word of the width
pub fits-Const : (w n c : ℕ) → fits w n (Const c) ≡ nat_lt c (2 ^ w)
unfolding fits
fits-Const w n c = fold_at (fits_step w n) (Const c) (Const-F c) (outs-Const c)

-- a field fits where the row of fields has it
pub fits-Field : (w n i : ℕ) → fits w n (Field i) ≡ nat_lt i n
unfolding fits
fits-Field w n i = fold_at (fits_step w n) (Field i) (Field-F i) (outs-Field i)

all_of_map : {A : Type 0} (test : A → Bool) (xs : List A) → list_all (λ b. b) (map test xs) ≡ list_all test xs
all_of_map test [] = refl
all_of_map test (x ∷ xs) = ap (λ b. test x && b) (all_of_map test xs)

-- a node fits where it has as many arguments as its operator takes, and each of them fits
pub fits-Node : (w n : ℕ) (op : Op) (ts : List Term) →
    fits w n (Node op ts) ≡ ((length ts == arity op) && list_all (fits w n) ts)
unfolding fits
fits-Node w n op ts =
    fold_at (fits_step w n) (Node op ts) (Node-F op ts) (outs-Node op ts)
    ∙ ap (λ k. (k == arity op) && list_all (λ b. b) (map (fits w n) ts)) (length-map ts (fits w n))
    ∙ ap (λ b. (length ts == arity op) && b) (all_of_map (fits w n) ts)

-- a constant has no operator, so all have their arities
pub arities-Const : (c : ℕ) → has_arities (Const c) ≡ true
unfolding has_arities
arities-Const c = fold_at arities_step (Const c) (Const-F c) (outs-Const c)

-- nor has a field
pub arities-Field : (i : ℕ) → has_arities (Field i) ≡ true
unfolding has_arities
arities-Field i = fold_at arities_step (Field i) (Field-F i) (outs-Field i)

-- a node has its arities where its operator and all arguments have theirs
pub arities-Node : (op : Op) (ts : List Term) →
    has_arities (Node op ts) ≡ ((length ts == arity op) && list_all has_arities ts)
unfolding has_arities
arities-Node op ts =
    fold_at arities_step (Node op ts) (Node-F op ts) (outs-Node op ts)
    ∙ ap (λ k. (k == arity op) && list_all (λ b. b) (map has_arities ts)) (length-map ts has_arities)
    ∙ ap (λ b. (length ts == arity op) && b) (all_of_map has_arities ts)

-- a constant is one node
pub nodes-Const : (c : ℕ) → nodes (Const c) ≡ 1
unfolding nodes
nodes-Const c = fold_at nodes_step (Const c) (Const-F c) (outs-Const c)

-- a field is one node
pub nodes-Field : (c : ℕ) → nodes (Field c) ≡ 1
unfolding nodes
nodes-Field c = fold_at nodes_step (Field c) (Field-F c) (outs-Field c)

-- a node counts itself and the nodes of its arguments
pub nodes-Node : (op : Op) (ts : List Term) → nodes (Node op ts) ≡ 1 + sum_by nodes ts
unfolding nodes
nodes-Node op ts = fold_at nodes_step (Node op ts) (Node-F op ts) (outs-Node op ts) ∙ ap (λ k. 1 + k) (sum-map nodes ts)

-- a constant weighs nothing
pub weight-Const : (w c : ℕ) → weight w (Const c) ≡ 0
unfolding weight
weight-Const w c = fold_at (weight_step w) (Const c) (Const-F c) (outs-Const c)

-- a field weighs nothing
pub weight-Field : (w i : ℕ) → weight w (Field i) ≡ 0
unfolding weight
weight-Field w i = fold_at (weight_step w) (Field i) (Field-F i) (outs-Field i)

-- a node weighs what its operator and its arguments do
pub weight-Node : (w : ℕ) (op : Op) (ts : List Term) → weight w (Node op ts) ≡ weight_of w op + sum_by (weight w) ts
unfolding weight
weight-Node w op ts =
    fold_at (weight_step w) (Node op ts) (Node-F op ts) (outs-Node op ts)
    ∙ ap (λ k. weight_of w op + k) (sum-map (weight w) ts)

-- a constant has no field to rename
pub rename-Const : (fields : List ℕ) (c : ℕ) → rename fields (Const c) ≡ Const c
unfolding rename
rename-Const fields c = fold_at (rename_step fields) (Const c) (Const-F c) (outs-Const c)

-- a field is renamed to its entry in the list, and stays where the list is too short
pub rename-Field : (fields : List ℕ) (i : ℕ) → rename fields (Field i) ≡ Field (get_or fields i i)
unfolding rename
rename-Field fields i = fold_at (rename_step fields) (Field i) (Field-F i) (outs-Field i)

-- a node is renamed argument by argument
pub rename-Node : (fields : List ℕ) (op : Op) (ts : List Term) →
    rename fields (Node op ts) ≡ Node op (map (rename fields) ts)
unfolding rename
rename-Node fields op ts = fold_at (rename_step fields) (Node op ts) (Node-F op ts) (outs-Node op ts)

-- the value of an operator at one argument
pub val-unary : (w : ℕ) (op : Op) (t : Term) (env : List ℕ) → val w (unary op t) env ≡ apply_at w op (val w t env) 0 0
val-unary w op t env = val-Node w op (t ∷ []) env

-- the value of an operator at two arguments
pub val-binary : (w : ℕ) (op : Op) (s t : Term) (env : List ℕ) →
    val w (binary op s t) env ≡ apply_at w op (val w s env) (val w t env) 0
val-binary w op s t env = val-Node w op (s ∷ t ∷ []) env

-- the value of an operator at three arguments
pub val-ternary : (w : ℕ) (op : Op) (r s t : Term) (env : List ℕ) →
    val w (ternary op r s t) env ≡ apply_at w op (val w r env) (val w s env) (val w t env)
val-ternary w op r s t env = val-Node w op (r ∷ s ∷ t ∷ []) env

-- no operator takes more than three arguments
pub arity_most : (op : Op) → arity op ≤ 3
arity_most Not = lit≤ tt
arity_most Neg = lit≤ tt
arity_most Ite = lit≤ tt
arity_most _ = lit≤ tt

-- a node that fits has as many arguments as its operator takes
pub fits_arity : (w n : ℕ) (op : Op) (ts : List Term) → IsTrue (fits w n (Node op ts)) → length ts ≡ arity op
fits_arity w n op ts h = eqb-true _ _ (and_parts _ _ (subst IsTrue (fits-Node w n op ts) h)).0

-- each argument of a node that fits does too
pub fits_child : (w n : ℕ) (op : Op) (ts : List Term) → IsTrue (fits w n (Node op ts)) → (i : ℕ) (t : Term) →
    i < length ts → t ≡ get_or ts i t →
    IsTrue (fits w n t)
fits_child w n op ts h i t below is =
    ap (fits w n) is
    ∙ AllPass-from_list_all (fits w n) ts (and_parts _ _ (subst IsTrue (fits-Node w n op ts) h)).1 i t below

-- the operator, the arguments before one and this one are no more nodes than the whole
pub nodes_up_to : (op : Op) (ts : List Term) (i : ℕ) (t : Term) → i < length ts → t ≡ get_or ts i t →
    1 + sum_by nodes (take i ts) + nodes t ≤ nodes (Node op ts)
nodes_up_to op ts i t below is = omega (arith, nodes-Node op ts, sum_by_more_le nodes ts i t below, ap nodes is)

-- what each word of terms is at each kind of term
pub ruleset laws = (
  val-Const,
  val-Field,
  val-Node,
  fits-Const,
  fits-Field,
  fits-Node,
  arities-Const,
  arities-Field,
  arities-Node,
  nodes-Const,
  nodes-Field,
  nodes-Node,
  weight-Const,
  weight-Field,
  weight-Node,
  rename-Const,
  rename-Field,
  rename-Node,
)
