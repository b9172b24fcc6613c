-- Examples of what a transformer has to cover, and of what it may not admit.
use Rattle.std.specs.Prelude.{ℕ, ◌<◌, ◌^◌, List, All}
use Rattle.am_bv.specs.declared.term.Term.{Term}
use Rattle.am_domain.specs.Question.{Question, AreInputs, AreMembers, IsMember, Exceeds, results}

-- a positive example: a result at these inputs has to have the operation's value at these words
pub record Positive : Type 0 where
  pub inputs : List (List ℕ)
  pub words : List ℕ

-- a negative example: a result at these inputs may not have this word
pub record Negative : Type 0 where
  pub inputs : List (List ℕ)
  pub word : ℕ

-- the inputs are abstract values, the words are members of theirs, and the assumption holds there
pub record IsTrueExample (q : Question) (e : Positive) : Type 0 where
  pub inputs : AreInputs q e.inputs
  pub members : AreMembers q e.inputs e.words
  pub assumed : q.Assumed e.words

-- the inputs are abstract values, and the word is one of the width
pub record IsValidExample (q : Question) (e : Negative) : Type 0 where
  pub inputs : AreInputs q e.inputs
  pub below : e.word < 2 ^ q.width

-- the result at the inputs has the operation's value at the words
abbrev pub Covers : Question → List Term → Positive → Type 0
Covers q terms e = IsMember q (results q terms e.inputs) (q.operation e.words)

-- the result at the inputs doesn't have the word
abbrev pub Excludes : Question → List Term → Negative → Type 0
Excludes q terms e = ¬ IsMember q (results q terms e.inputs) e.word

-- a transformer covers all positive examples, and excludes all negative ones
pub record SatisfiesExamples (q : Question) (terms : List Term) (positives : List Positive) (negatives : List Negative)
    : Type 0 where
  pub covers : All (Covers q terms) positives
  pub excludes : All (Excludes q terms) negatives

-- no derivable transformer satisfies the examples
abbrev pub NoneSatisfies : Question → List Positive → List Negative → Type 0
NoneSatisfies q positives negatives = (terms : List Term) → q.Derivable terms → ¬ SatisfiesExamples q terms positives
    negatives

-- no derivable transformer satisfies the examples and excludes, at some inputs, a word that this one admits
abbrev pub NoneIsCloser : Question → List Term → List Positive → List Negative → Type 0
NoneIsCloser q terms positives negatives =
    (other : List Term) → q.Derivable other → SatisfiesExamples q other positives negatives → ¬ Exceeds q terms other
