-- What the stored examples of a problem stand for, and what calls ask of rows, transformers and examples.
use Rattle.std.specs.Prelude.{◌≡◌, ℕ, zero, suc, ◌*◌, ◌^◌, ◌<◌, List, [], ◌∷◌, length, map, take, drop, IsTrue, All}
use Rattle.am_bv.specs.Terms.{fits}
use Rattle.am_bv.specs.declared.term.Term.{Term}
use Rattle.am_domain.specs.Examples.{Positive, Negative}
use Rattle.am_domain.specs.Tuple.{IsTuple}
use Rattle.am_problem.specs.declared.examples.Positive.{Positive as StoredPositive}
use Rattle.am_problem.specs.declared.examples.Negative.{Negative as StoredNegative}
use Rattle.am_problem.specs.Kinds.{fields_of}
use Rattle.am_problem.specs.Problem.{Problem}

-- a row cut into so many tuples of so many words: the first words are the first tuple, the next ones the second
unfoldable pub split : {A : Type 0} → ℕ → ℕ → List A → List (List A)
split fields zero row = []
split fields (suc count) row = take fields row ∷ split fields count (drop fields row)

-- the inputs whose fields stand one after another in a row
abbrev pub inputs_of : Problem → List ℕ → List (List ℕ)
inputs_of p row = split (fields_of p.kind) p.inputs row

-- how many fields all inputs have together
abbrev pub all_fields : Problem → ℕ
all_fields p = p.inputs * fields_of p.kind

-- the fields of all inputs
abbrev pub IsFieldRow : Problem → List ℕ → Type 0
IsFieldRow p row = IsTuple p.width (all_fields p) row

-- one word for each input
abbrev pub AreInputWords : Problem → List ℕ → Type 0
AreInputWords p words = IsTuple p.width p.inputs words

-- one term for each field of the result, over the fields of all inputs
pub record IsTransformer (p : Problem) (terms : List Term) : Type 0 where
  pub counted : length terms ≡ fields_of p.kind
  pub fit : All (λ t. IsTrue (fits p.width (all_fields p) t)) terms

-- the rows of a positive example
pub record IsPositive (p : Problem) (e : StoredPositive) : Type 0 where
  pub row : IsFieldRow p e.inputs
  pub words : AreInputWords p e.words

-- the row and the word of a negative example
pub record IsNegative (p : Problem) (e : StoredNegative) : Type 0 where
  pub row : IsFieldRow p e.inputs
  pub word : e.word < 2 ^ p.width

-- the examples that stored ones stand for
abbrev pub positive_of : Problem → StoredPositive → Positive
positive_of p e = record { inputs = inputs_of p e.inputs; words = e.words }

-- the negative example that a stored one stands for
abbrev pub negative_of : Problem → StoredNegative → Negative
negative_of p e = record { inputs = inputs_of p e.inputs; word = e.word }

-- the positive examples that stored ones stand for
abbrev pub positives_of : Problem → List StoredPositive → List Positive
positives_of p es = map (positive_of p) es

-- the negative examples that stored ones stand for
abbrev pub negatives_of : Problem → List StoredNegative → List Negative
negatives_of p es = map (negative_of p) es
