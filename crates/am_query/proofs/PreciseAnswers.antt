-- What the solver's answers to a formula of precision say.
use Rattle.std.proofs.Common.{◌≡◌, ℕ, Bool, true, List, map, sym, ◌∙◌, ap, subst}
use Rattle.am_bv.specs.declared.term.Term.{Term}
use Rattle.am_lit.specs.Truth.{Satisfies}
use Rattle.am_gate.specs.Build.{Follows}
use Rattle.am_gate.specs.Circuit.{Net}
use Rattle.am_gate.proofs.Laws.{Follows-bind}
use Rattle.am_chain.specs.declared.chain.Chain.{Chain}
use Rattle.am_chain.specs.Replay.{RefutationsAreSound}
use Rattle.am_blast.specs.Words.{reads}
use Rattle.am_slot.specs.Template.{IsDerivedTuple, decoded}
use Rattle.am_domain.specs.Examples.{NoneIsCloser}
use Rattle.am_problem.specs.Examples.{all_fields, negatives_of, positives_of}
use Rattle.am_problem.specs.Limits.{IsFormed}
use Rattle.am_problem.specs.Problem.{Problem, question_of}
use Rattle.am_problem.specs.declared.examples.Negative.{Negative}
use Rattle.am_problem.specs.declared.examples.Positive.{Positive}
use Rattle.am_problem.proofs.Laws.{derivable_terms_fit}
use Rattle.am_query.specs.Answers.{IsRefuted}
use Rattle.am_query.specs.Formulas.{encoding_of, fit, precise, query_circuit}
use Rattle.am_query.specs.Queries.{AreCompared}
use Rattle.am_query.specs.QueryLaws.{IsComparison}
use Rattle.am_query.specs.Witnesses.{IsCloser, chosen_negative, chosen_terms, words_from}
use Rattle.am_query.specs.inside.Chosen.{ArePreciseInputs}
use Rattle.am_query.specs.inside.Parts.{comparing, sought}
use Rattle.am_query.specs.declared.precision.PreciseInputs.{PreciseInputs}
use Rattle.am_query.specs.declared.query.Query.TheVariants.{Fit, Precise}
use Rattle.am_query.proofs.PreciseFormula.{closer_ones_are_chosen, fit_chosen, unsatisfied_precision_has_none_closer}

module _ (p : Problem) (terms : List Term) (pos : List Positive) (neg : List Negative) where
  -- what was stated after a fit is the whole
  pub precise_stated : {old mid new : Net} → Follows (fit p pos neg) old tt mid → Follows (sought p terms) mid tt new →
      Follows (precise p terms pos neg) old tt new
  unfolding precise sought comparing
  precise_stated one two = Follows-bind _ one two

module _ (p : Problem) (formed : IsFormed p) (terms : List Term) (pos : List Positive) (neg : List Negative)
    (are : AreCompared p terms pos neg) where
  comparison : IsComparison p terms pos neg
  comparison = record {
    formed = formed;
    transformer = derivable_terms_fit p formed terms are.transformer;
    positives_stored = are.stored.positives;
    negatives_stored = are.stored.negatives;
  }

  -- the trees that truth values choose derive
  pub chosen_derive : (v : ℕ → Bool) → Satisfies v (query_circuit true p (Precise terms pos neg)).clauses →
      IsDerivedTuple (encoding_of p) (decoded (encoding_of p) v)
  chosen_derive v h = (fit_chosen p terms pos neg comparison true v h).serves.derived

  -- the transformer and the example that truth values choose which satisfy the formula
  pub read_closer : (v : ℕ → Bool) → Satisfies v (query_circuit true p (Precise terms pos neg)).clauses →
      (vars : ℕ) (i : PreciseInputs) → ArePreciseInputs p (query_circuit true p (Fit pos neg)).vars vars i →
      (e : Negative) → e.inputs ≡ map (reads v) i.fields → e.word ≡ reads v i.word →
      IsCloser p terms pos neg (chosen_terms p v) e
  read_closer v h vars i stand e inputs given =
      let x = (query_circuit true p (Fit pos neg)).vars in
      let same : e ≡ chosen_negative p x v =
      ap (λ row. let r : Negative = record { inputs = row; word = e.word } in r)
      (inputs ∙ ap (map (reads v)) stand.fields)
      ∙ ap
      (λ c. let r : Negative = record { inputs = map (reads v) (words_from p.width (all_fields p) x); word = c } in r)
      (given ∙ ap (reads v) stand.word) in
      subst (IsCloser p terms pos neg (chosen_terms p v)) (sym same)
      (closer_ones_are_chosen true p terms pos neg comparison v h)

  -- none is closer where a log refutes the formula
  pub refuted_has_none_closer : RefutationsAreSound → (limit : ℕ) (log : List Chain) →
      IsRefuted p (Precise terms pos neg) limit log →
      NoneIsCloser (question_of p) terms (positives_of p pos) (negatives_of p neg)
  refuted_has_none_closer law limit log r =
      unsatisfied_precision_has_none_closer true p terms pos neg comparison
      (law (query_circuit true p (Precise terms pos neg)).clauses log r.refutes)
