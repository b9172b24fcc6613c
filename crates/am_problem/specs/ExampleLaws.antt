-- Laws of the rows, transformers and examples of a problem.
use Rattle.std.specs.Prelude.{◌≡◌, ℕ, ◌+◌, ◌*◌, ◌≤◌, ◌<◌, ◌^◌, ◌↔◌, List, [], length, map, All, slice_index}
use Rattle.std.specs.Prelude.{slice_index_or, slice_range}
use Rattle.std.specs.List.{concat}
use Rattle.am_bv.specs.Terms.{val}
use Rattle.am_bv.specs.declared.term.Term.{Term}
use Rattle.am_domain.specs.Examples.{Positive, Negative, IsTrueExample, IsValidExample}
use Rattle.am_domain.specs.Question.{AreInputs, AreMembers, IsMember, results}
use Rattle.am_domain.specs.Tuple.{IsTuple}
use Rattle.am_problem.specs.declared.examples.Positive.{Positive as StoredPositive}
use Rattle.am_problem.specs.declared.examples.Negative.{Negative as StoredNegative}
use Rattle.am_problem.specs.Examples.{all_fields, inputs_of, negative_of, positive_of}
use Rattle.am_problem.specs.Examples.{AreInputWords, IsFieldRow, IsNegative, IsPositive, IsTransformer}
use Rattle.am_problem.specs.Kinds.{fields_of, meaning_of}
use Rattle.am_problem.specs.Limits.{IsFormed}
use Rattle.am_problem.specs.Problem.{AreDerivable, Problem, question_of}

-- the inputs of a row, put together again, are the row
abbrev pub RowsAreJoined : Type 0
RowsAreJoined = (p : Problem) (row : List ℕ) → IsFieldRow p row → concat (inputs_of p row) ≡ row

-- a row has as many inputs as the operation, and each of them is a tuple
abbrev pub InputsAreTuples : Type 0
InputsAreTuples = (p : Problem) (row : List ℕ) → IsFieldRow p row →
    (length (inputs_of p row) ≡ p.inputs) × All (IsTuple p.width (fields_of p.kind)) (inputs_of p row)

-- tuples, one for each input, put together are a row, whose inputs they are
abbrev pub TuplesAreCut : Type 0
TuplesAreCut = (p : Problem) (inputs : List (List ℕ)) →
    length inputs ≡ p.inputs → All (IsTuple p.width (fields_of p.kind)) inputs →
    IsFieldRow p (concat inputs) × (inputs_of p (concat inputs) ≡ inputs)

-- the same of abstract values
abbrev pub InputsAreCut : Type 0
InputsAreCut = (p : Problem) (inputs : List (List ℕ)) → AreInputs (question_of p) inputs →
    IsFieldRow p (concat inputs) × (inputs_of p (concat inputs) ≡ inputs)

-- the inputs of a row are abstract values exactly where each of them is valid
abbrev pub RowsAreInputs : Type 0
RowsAreInputs = (p : Problem) (row : List ℕ) → IsFieldRow p row →
    AreInputs (question_of p) (inputs_of p row) ↔ All ((meaning_of p.kind).Valid p.width) (inputs_of p row)

-- words that are members of inputs are words of the problem
abbrev pub MembersAreWords : Type 0
MembersAreWords = (p : Problem) (inputs : List (List ℕ)) (words : List ℕ) →
    length inputs ≡ p.inputs → AreMembers (question_of p) inputs words → AreInputWords p words

-- the words of a problem are members of inputs exactly where each one is a member of the input at its place
abbrev pub WordsAreMembers : Type 0
WordsAreMembers = (p : Problem) (inputs : List (List ℕ)) (words : List ℕ) →
    length inputs ≡ p.inputs → AreInputWords p words →
    AreMembers (question_of p) inputs words
    ↔ ((k : ℕ) → k < p.inputs → IsMember (question_of p) (slice_index_or inputs k []) (slice_index words k))

-- a stored example that stands for an example
pub record HoldsPositive (p : Problem) (e : Positive) (stored : StoredPositive) : Type 0 where
  pub rows : IsPositive p stored
  pub same : positive_of p stored ≡ e

pub record HoldsNegative (p : Problem) (e : Negative) (stored : StoredNegative) : Type 0 where
  pub row : IsNegative p stored
  pub same : negative_of p stored ≡ e

-- the stored form of an example: the inputs stand one after another
abbrev pub stored_positive : Positive → StoredPositive
stored_positive e = record { inputs = concat e.inputs; words = e.words }

-- the stored form of a negative example
abbrev pub stored_negative : Negative → StoredNegative
stored_negative e = record { inputs = concat e.inputs; word = e.word }

-- each true example has its stored form
abbrev pub TrueExamplesAreStored : Type 0
TrueExamplesAreStored = (p : Problem) (e : Positive) →
    IsTrueExample (question_of p) e → HoldsPositive p e (stored_positive e)

-- each valid negative example has its stored form
abbrev pub ValidExamplesAreStored : Type 0
ValidExamplesAreStored = (p : Problem) (e : Negative) →
    IsValidExample (question_of p) e → HoldsNegative p e (stored_negative e)

-- the terms of a derivable transformer fit
abbrev pub DerivableTermsFit : Type 0
DerivableTermsFit = (p : Problem) → IsFormed p → (terms : List Term) →
    AreDerivable p.rules p.starts p.depth terms → IsTransformer p terms

-- the input at a place is the part of the row with its fields
abbrev pub InputsAreParts : Type 0
InputsAreParts = (p : Problem) (row : List ℕ) (i : ℕ) → i < p.inputs →
    let start = i * fields_of p.kind in
    slice_index_or (inputs_of p row) i [] ≡ slice_range row start (start + fields_of p.kind)

-- the result of a transformer has the values of its terms at the row
abbrev pub ResultsAreValues : Type 0
ResultsAreValues = (p : Problem) (terms : List Term) (row : List ℕ) → IsFieldRow p row →
    results (question_of p) terms (inputs_of p row) ≡ map (λ t. val p.width t row) terms

-- the result of a transformer is a tuple
abbrev pub ResultsAreTuples : Type 0
ResultsAreTuples = (p : Problem) → IsFormed p → (terms : List Term) (row : List ℕ) →
    IsTransformer p terms → IsFieldRow p row →
    IsTuple p.width (fields_of p.kind) (results (question_of p) terms (inputs_of p row))

-- the value of an operation is a word
abbrev pub OperationsGiveWords : Type 0
OperationsGiveWords = (p : Problem) → IsFormed p → (words : List ℕ) → AreInputWords p words →
    val p.width p.operation words < 2 ^ p.width

-- a row has at most 12 words
abbrev pub RowsAreShort : Type 0
RowsAreShort = (p : Problem) → IsFormed p → all_fields p ≤ 12
