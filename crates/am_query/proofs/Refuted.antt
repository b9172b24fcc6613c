-- What it says of transformers that the formula of a query isn't satisfiable, as logs and hints show.
use Rattle.std.proofs.Common.{ℕ, Bool, List, [], All}
use Rattle.std.proofs.lemmas.List.Elements.{All-nil, Contains-push}
use Rattle.am_bv.specs.declared.term.Term.{Term}
use Rattle.am_lit.specs.Truth.{Implies, IsSatisfiable}
use Rattle.am_chain.specs.declared.chain.Chain.{Chain}
use Rattle.am_chain.specs.Replay.{Refutes}
use Rattle.am_chain.proofs.Laws.{none_satisfies, replay_implied}
use Rattle.am_domain.specs.Examples.{NoneIsCloser, NoneSatisfies}
use Rattle.am_domain.specs.Question.{IsSound}
use Rattle.am_problem.specs.Examples.{IsNegative, IsPositive, negatives_of, positives_of}
use Rattle.am_problem.specs.Limits.{IsFormed}
use Rattle.am_problem.specs.Problem.{Problem, question_of}
use Rattle.am_problem.specs.declared.examples.Negative.{Negative}
use Rattle.am_problem.specs.declared.examples.Positive.{Positive}
use Rattle.am_problem.proofs.Laws.{derivable_terms_fit}
use Rattle.am_query.specs.Formulas.{query_circuit}
use Rattle.am_query.specs.Transformers.{IsTransformerOf}
use Rattle.am_query.specs.declared.query.Query.{Query}
use Rattle.am_query.specs.declared.query.Query.TheVariants.{Fit, Precise, Sound}
use Rattle.am_query.proofs.Fitting.{unsatisfied_fit_has_none}
use Rattle.am_query.proofs.PreciseFormula.{unsatisfied_precision_has_none_closer}
use Rattle.am_query.proofs.SoundFormula.{unsatisfied_soundness_is_sound}

-- the formula of a query isn't satisfiable
abbrev pub IsUnsatisfied : Bool → Problem → Query → Type 0
IsUnsatisfied folding p q = ¬ IsSatisfiable (query_circuit folding p q).clauses

-- what unsatisfied formulas of a problem mean
pub record RefutationsMean (folding : Bool) (p : Problem) : Type 0 where
  pub sound : (t : List Term) → IsTransformerOf p t → IsUnsatisfied folding p (Sound t) → IsSound (question_of p) t
  pub none : (positives : List Positive) (negatives : List Negative) →
      All (IsPositive p) positives → All (IsNegative p) negatives →
      IsUnsatisfied folding p (Fit positives negatives) →
      NoneSatisfies (question_of p) (positives_of p positives) (negatives_of p negatives)
  pub closest : (t : List Term) (positives : List Positive) (negatives : List Negative) →
      IsTransformerOf p t → All (IsPositive p) positives → All (IsNegative p) negatives →
      IsUnsatisfied folding p (Precise t positives negatives) →
      NoneIsCloser (question_of p) t (positives_of p positives) (negatives_of p negatives)

-- a log that refutes clauses leaves them no satisfying truth values
pub unsatisfied : (clauses : List (List ℕ)) (log : List Chain) → Refutes clauses log → ¬ IsSatisfiable clauses
unsatisfied clauses log r =
    let all = replay_implied clauses [] r.0 log (All-nil (Implies clauses)) r.1 in
    none_satisfies clauses r.0 all (rw r.2.1 (Contains-push r.2.0 []))

-- a refutation of a query's formula shows what the query asks about not to be there
pub refutations_mean : (folding : Bool) (p : Problem) → IsFormed p → RefutationsMean folding p
refutations_mean folding p formed = record {
  sound = λ t is none.
      unsatisfied_soundness_is_sound folding p formed t (derivable_terms_fit p formed t is) none;
  none = λ positives negatives pos neg none.
      unsatisfied_fit_has_none folding p positives negatives
      (record { formed = formed; positives_stored = pos; negatives_stored = neg }) none;
  closest = λ t positives negatives is pos neg none.
      unsatisfied_precision_has_none_closer folding p t positives negatives
      (record {
        formed = formed;
        transformer = derivable_terms_fit p formed t is;
        positives_stored = pos;
        negatives_stored = neg;
      }) none;
}
