-- Laws of operators and terms, for all widths, terms and rows of words. The functions of `theorems` prove them.
use Rattle.std.specs.Prelude.{◌≡◌, ℕ, ◌+◌, ◌^◌, ◌<◌, ◌≤◌, List, length, map, sum_by, slice_index, IsTrue, nat_lt, ◌==◌}
use Rattle.std.specs.Prelude.{◌&&◌, slice_index_or, All, Contains}
use Rattle.std.specs.List.{list_all}
use Rattle.am_bv.specs.declared.op.Op.{Op}
use Rattle.am_bv.specs.declared.term.Term.{Term}
use Rattle.am_bv.specs.declared.term.Term.TheVariants.{Const, Field, Node}
use Rattle.am_bv.specs.Words.{AreWords}
use Rattle.am_bv.specs.Operators.{arity, apply, weight_of}
use Rattle.am_bv.specs.declared.op.TheConstants.Op.{ALL}
use Rattle.am_bv.specs.Terms.{val, fits, has_arities, nodes, weight, rename}

-- a constant has its word as its value
abbrev pub ConstHasItsWord : Type 0
ConstHasItsWord = (w c : ℕ) (env : List ℕ) → val w (Const c) env ≡ c

-- the value of a field is its entry in the row
abbrev pub FieldHasItsEntry : Type 0
FieldHasItsEntry = (w i : ℕ) (env : List ℕ) → val w (Field i) env ≡ slice_index env i

-- the value of a node is its operator's at the values of its arguments
abbrev pub NodeHasItsOperatorsValue : Type 0
NodeHasItsOperatorsValue =
    (w : ℕ) (op : Op) (args : List Term) (env : List ℕ) →
    val w (Node op args) env ≡ apply w op (map (λ t. val w t env) args)

-- a constant fits where it is a word of the width
abbrev pub ConstFitsAsWord : Type 0
ConstFitsAsWord = (w n c : ℕ) → fits w n (Const c) ≡ nat_lt c (2 ^ w)

-- a field fits where the row of fields has it
abbrev pub FieldFitsInRow : Type 0
FieldFitsInRow = (w n i : ℕ) → fits w n (Field i) ≡ nat_lt i n

-- a node fits where it has as many arguments as its operator takes, and each of them fits
abbrev pub NodeFitsByArguments : Type 0
NodeFitsByArguments =
    (w n : ℕ) (op : Op) (args : List Term) →
    fits w n (Node op args) ≡ ((length args == arity op) && list_all (fits w n) args)

-- a constant has no operator, so all have as many arguments as their arities
abbrev pub ConstHasArities : Type 0
ConstHasArities = (c : ℕ) → IsTrue (has_arities (Const c))

-- nor has a field
abbrev pub FieldHasArities : Type 0
FieldHasArities = (i : ℕ) → IsTrue (has_arities (Field i))

-- a node has its arities where its operator and all arguments have theirs
abbrev pub NodeHasArities : Type 0
NodeHasArities =
    (op : Op) (args : List Term) → has_arities (Node op args) ≡ ((length args == arity op) && list_all has_arities args)

-- in a term that fits, each operator has as many arguments as its arity
abbrev pub FittingTermsHaveArities : Type 0
FittingTermsHaveArities = (w n : ℕ) (t : Term) → IsTrue (fits w n t) → IsTrue (has_arities t)

-- a constant is one node
abbrev pub ConstIsOneNode : Type 0
ConstIsOneNode = (c : ℕ) → nodes (Const c) ≡ 1

-- a field is one node
abbrev pub FieldIsOneNode : Type 0
FieldIsOneNode = (i : ℕ) → nodes (Field i) ≡ 1

-- a node counts itself and the nodes of its arguments
abbrev pub NodeCountsItsArguments : Type 0
NodeCountsItsArguments = (op : Op) (args : List Term) → nodes (Node op args) ≡ 1 + sum_by nodes args

-- a constant weighs nothing
abbrev pub ConstWeighsNothing : Type 0
ConstWeighsNothing = (w c : ℕ) → weight w (Const c) ≡ 0

-- a field weighs nothing
abbrev pub FieldWeighsNothing : Type 0
FieldWeighsNothing = (w i : ℕ) → weight w (Field i) ≡ 0

-- a node weighs what its operator and its arguments do
abbrev pub NodeWeighsItsOperators : Type 0
NodeWeighsItsOperators =
    (w : ℕ) (op : Op) (args : List Term) → weight w (Node op args) ≡ weight_of w op + sum_by (weight w) args

-- an operator gives a word at words
abbrev pub OperatorsGiveWords : Type 0
OperatorsGiveWords = (w : ℕ) → 1 ≤ w → (op : Op) (args : List ℕ) → AreWords w args → apply w op args < 2 ^ w

-- a term that fits a row of words has a word as its value
abbrev pub FittingTermsGiveWords : Type 0
FittingTermsGiveWords =
    (w : ℕ) → 1 ≤ w → (t : Term) (env : List ℕ) →
    IsTrue (fits w (length env) t) → AreWords w env → val w t env < 2 ^ w

-- the list of all operators has each
abbrev pub OperatorsAreListed : Type 0
OperatorsAreListed = (op : Op) → Contains ALL op

-- a term that fits a row of fields fits longer ones
abbrev pub FitsLongerRows : Type 0
FitsLongerRows = (w m n : ℕ) → m ≤ n → (t : Term) → IsTrue (fits w m t) → IsTrue (fits w n t)

-- a term that fits a row of fields has the same value at rows that agree on them
abbrev pub SameAtSameFields : Type 0
SameAtSameFields =
    (w n : ℕ) (env other : List ℕ) → ((i : ℕ) → i < n → slice_index env i ≡ slice_index other i) →
    (t : Term) → IsTrue (fits w n t) → val w t env ≡ val w t other

-- a constant has no field to rename
abbrev pub RenamedConst : Type 0
RenamedConst = (fields : List ℕ) (c : ℕ) → rename fields (Const c) ≡ Const c

-- a field is renamed to its entry in the list, and stays where the list is too short
abbrev pub RenamedField : Type 0
RenamedField = (fields : List ℕ) (i : ℕ) → rename fields (Field i) ≡ Field (slice_index_or fields i i)

-- a node is renamed argument by argument
abbrev pub RenamedNode : Type 0
RenamedNode = (fields : List ℕ) (op : Op) (args : List Term) →
    rename fields (Node op args) ≡ Node op (map (rename fields) args)

-- a renamed term has the value of the term at the words of the new fields
abbrev pub RenamedReads : Type 0
RenamedReads =
    (w : ℕ) (fields env : List ℕ) (t : Term) → IsTrue (fits w (length fields) t) →
    val w (rename fields t) env ≡ val w t (map (slice_index env) fields)

-- a renamed term fits where its new fields do
abbrev pub RenamedFits : Type 0
RenamedFits =
    (w n : ℕ) (fields : List ℕ) → All (λ i. i < n) fields → (t : Term) → IsTrue (fits w (length fields) t) →
    IsTrue (fits w n (rename fields t))

-- a renamed term has as many nodes
abbrev pub RenamedNodes : Type 0
RenamedNodes = (fields : List ℕ) (t : Term) → nodes (rename fields t) ≡ nodes t

-- a renamed term weighs as much
abbrev pub RenamedWeighs : Type 0
RenamedWeighs = (w : ℕ) (fields : List ℕ) (t : Term) → weight w (rename fields t) ≡ weight w t
