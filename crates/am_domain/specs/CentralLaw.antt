-- What examples say of all transformers. The functions of `theorems` prove it.
use Rattle.std.specs.Prelude.{List, [], All}
use Rattle.am_bv.specs.declared.term.Term.{Term}
use Rattle.am_domain.specs.Question.{Question, Betters, IsAbsent, IsBest, IsSound}
use Rattle.am_domain.specs.Examples.{Positive, Negative, IsTrueExample, IsValidExample, Covers, Excludes, NoneSatisfies}
use Rattle.am_domain.specs.Examples.{NoneIsCloser}

-- a sound transformer covers each true positive example
abbrev pub SoundCovers : Question → Type 0
SoundCovers q = (terms : List Term) → IsSound q terms → (e : Positive) → IsTrueExample q e → Covers q terms e

-- one that betters another excludes each negative example that the other excludes
abbrev pub BetterExcludes : Question → Type 0
BetterExcludes q = (better worse : List Term) → Betters q better worse → (e : Negative) → IsValidExample q e →
    Excludes q worse e → Excludes q better e

-- where true positive examples can't be satisfied, no transformer is sound
abbrev pub NoneIsSound : Question → Type 0
NoneIsSound q = (positives : List Positive) →
    All (IsTrueExample q) positives → NoneSatisfies q positives [] → IsAbsent q

-- a sound transformer is best where none that satisfies the examples is closer, the positive ones are true, and it
-- excludes the negative ones
abbrev pub NoneBetters : Question → Type 0
NoneBetters q = (terms : List Term) (positives : List Positive) (negatives : List Negative) →
    q.Derivable terms → IsSound q terms →
    All (IsTrueExample q) positives → All (IsValidExample q) negatives → All (Excludes q terms) negatives →
    NoneIsCloser q terms positives negatives → IsBest q terms
