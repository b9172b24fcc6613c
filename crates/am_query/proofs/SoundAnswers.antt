-- What the solver's answers to a formula of soundness say of the terms.
use Rattle.std.proofs.Common.{◌≡◌, ℕ, Bool, true, List, map, sym, ◌∙◌, ap, subst}
use Rattle.am_bv.specs.declared.term.Term.{Term}
use Rattle.am_lit.specs.Truth.{Satisfies}
use Rattle.am_chain.specs.declared.chain.Chain.{Chain}
use Rattle.am_chain.specs.Replay.{RefutationsAreSound}
use Rattle.am_blast.specs.Words.{reads}
use Rattle.am_domain.specs.Question.{IsSound}
use Rattle.am_problem.specs.Examples.{all_fields}
use Rattle.am_problem.specs.Limits.{IsFormed}
use Rattle.am_problem.specs.Problem.{Problem, question_of}
use Rattle.am_problem.specs.declared.examples.Positive.{Positive}
use Rattle.am_problem.proofs.Laws.{derivable_terms_fit}
use Rattle.am_query.specs.Answers.{IsRefuted}
use Rattle.am_query.specs.Formulas.{query_circuit}
use Rattle.am_query.specs.Transformers.{IsTransformerOf, IsUncovered}
use Rattle.am_query.specs.Witnesses.{chosen_positive, words_from}
use Rattle.am_query.specs.inside.Chosen.{AreSoundInputs}
use Rattle.am_query.specs.declared.query.Query.TheVariants.{Sound}
use Rattle.am_query.specs.declared.soundness.SoundInputs.{SoundInputs}
use Rattle.am_query.proofs.SoundFormula.{failed_examples_are_chosen, unsatisfied_soundness_is_sound}

module _ (p : Problem) (formed : IsFormed p) (terms : List Term) (t : IsTransformerOf p terms) where
  -- the example that the words of inputs read, of truth values that satisfy the formula
  pub read_example : (v : ℕ → Bool) → Satisfies v (query_circuit true p (Sound terms)).clauses →
      (vars : ℕ) (i : SoundInputs) → AreSoundInputs p vars i →
      (e : Positive) → e.inputs ≡ map (reads v) i.fields → e.words ≡ map (reads v) i.words → IsUncovered p terms e
  read_example v h vars i are e inputs given =
      let same : e ≡ chosen_positive p v =
      ap (λ row. let r : Positive = record { inputs = row; words = e.words } in r)
      (inputs ∙ ap (map (reads v)) are.fields)
      ∙ ap
      (λ row.
      let r : Positive = record { inputs = map (reads v) (words_from p.width (all_fields p) 1); words = row } in r)
      (given ∙ ap (map (reads v)) are.words) in
      subst (IsUncovered p terms) (sym same)
      (failed_examples_are_chosen true p formed terms (derivable_terms_fit p formed terms t) v h)

  -- the terms are sound where a log refutes the formula
  pub refuted_is_sound : RefutationsAreSound → (limit : ℕ) (log : List Chain) → IsRefuted p (Sound terms) limit log →
      IsSound (question_of p) terms
  refuted_is_sound law limit log r =
      unsatisfied_soundness_is_sound true p formed terms (derivable_terms_fit p formed terms t)
      (law (query_circuit true p (Sound terms)).clauses log r.refutes)
