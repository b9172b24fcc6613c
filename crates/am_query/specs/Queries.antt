-- Which queries may be asked of a problem, and how large their circuits are.
use Rattle.std.specs.Prelude.{ℕ, ◌+◌, ◌*◌, ◌≤◌, Bool, List, All, length}
use Rattle.am_bv.specs.declared.term.Term.{Term}
use Rattle.am_slot.specs.Template.{selectors_of}
use Rattle.am_problem.specs.Examples.{IsNegative, IsPositive, all_fields}
use Rattle.am_problem.specs.Limits.{IsProblem}
use Rattle.am_problem.specs.Loads.{load_of}
use Rattle.am_problem.specs.Problem.{Problem}
use Rattle.am_problem.specs.declared.examples.Negative.{Negative}
use Rattle.am_problem.specs.declared.examples.Positive.{Positive}
use Rattle.am_query.specs.Formulas.{encoding_of, query_circuit}
use Rattle.am_query.specs.Transformers.{IsTransformerOf}
use Rattle.am_query.specs.declared.query.Query.{Query}
use Rattle.am_query.specs.declared.query.Query.TheVariants.{Fit, Precise, Sound}

-- the rows and words of examples are those of the problem, and there are at most so many
pub record AreStored (p : Problem) (most : ℕ) (pos : List Positive) (neg : List Negative) : Type 0 where
  pub positives : All (IsPositive p) pos
  pub negatives : All (IsNegative p) neg
  pub few : length pos + length neg ≤ most

-- the examples of a fit: at most one more than the turns that are allowed
abbrev pub AreFitted : Problem → List Positive → List Negative → Type 0
AreFitted p positives negatives = AreStored p (p.turns + 1) positives negatives

-- the transformer and the examples of a question for a closer one: at most as many as the turns that are allowed
pub record AreCompared (p : Problem) (t : List Term) (pos : List Positive) (neg : List Negative) : Type 0 where
  pub transformer : IsTransformerOf p t
  pub stored : AreStored p p.turns pos neg

-- what is asked is of the problem
abbrev pub IsQueryOf : Problem → Query → Type 0
IsQueryOf p (Fit positives negatives) = AreFitted p positives negatives
IsQueryOf p (Sound t) = IsTransformerOf p t
IsQueryOf p (Precise t positives negatives) = AreCompared p t positives negatives

-- how many inputs the circuit of a query has: the selectors, and the bits of the words that are sought
abbrev pub input_count : Problem → Query → ℕ
input_count p (Fit positives negatives) = selectors_of (encoding_of p)
input_count p (Sound t) = (all_fields p + p.inputs) * p.width
input_count p (Precise t positives negatives) = selectors_of (encoding_of p) + (all_fields p + 1) * p.width

-- beside the true variable and its inputs, the circuit of a query has at most as many gates as the load of the problem
abbrev pub FormulasKeepTheLoad : Type 0
FormulasKeepTheLoad = (folding : Bool) (p : Problem) → IsProblem p → (q : Query) → IsQueryOf p q →
    (query_circuit folding p q).vars ≤ 1 + input_count p q + load_of p
