-- The terms of certificates fit, so that their parts can be printed.
use Rattle.std.proofs.Common.{ℕ, ◌+◌, List, [], All, codes}
use Rattle.am_bv.specs.declared.term.Term.{Term}
use Rattle.am_problem.proofs.Laws.{few_variables}
use Rattle.am_problem.specs.Limits.{IsProblem}
use Rattle.am_problem.specs.Problem.{Problem}
use Rattle.am_problem.specs.Texts.{named}
use Rattle.am_query.specs.declared.asked.Asked.{Asked}
use Rattle.am_query.specs.declared.asked.Asked.TheVariants.{Keep, Precise, Sound, Start}
use Rattle.am_query.specs.declared.outcome.Outcome.{Outcome}
use Rattle.am_query.specs.declared.outcome.Outcome.TheVariants.{Absent, Best, Conflicts, Turns}
use Rattle.am_query.specs.declared.turn.Turn.{Turn}
use Rattle.am_query.specs.declared.turn.Turn.TheVariants.{Negative as NegativeTurn, Positive as PositiveTurn}
use Rattle.am_syntax.specs.Pieces.{keyed, times}
use Rattle.am_syntax.specs.Spelling.{FitsSomewhere, IsScope, scope_of}
use Rattle.am_cert.specs.Certificate.{Certificate, IsCertificate}
use Rattle.am_cert.specs.Grammar.{ProblemShape, asked, best, none, outcome, result_term, shape_of, spent_conflicts}
use Rattle.am_cert.specs.Grammar.{spent_turns, term_limits, terms, turn, turns}
use Rattle.am_cert.specs.inside.Printable.{AreTerms, IsPrintable, IsPrintableAsked, IsPrintableTurn}
use Rattle.am_cert.proofs.Items.{all_from_good}

module _ (s : ProblemShape) (is : IsScope (scope_of s.width (term_limits s))) where
  term_fits : (t : Term) → (result_term s).Good t → FitsSomewhere t
  term_fits t good = record { scope = scope_of s.width (term_limits s); is = is; fit = good.fit }

  terms_fit : (ts : List Term) → (terms s).Good ts → AreTerms ts
  terms_fit ts good = all_from_good (λ _. result_term s) FitsSomewhere (λ _ t h. term_fits t h) [] ts good.1

  term_lines_fit : (ts : List Term) → (times (λ _. keyed (codes "term") (result_term s)) s.fields).Good ts →
      AreTerms ts
  term_lines_fit ts good =
      all_from_good (λ _. keyed (codes "term") (result_term s)) FitsSomewhere (λ _ t h. term_fits t h) [] ts good.1

  turn_fits : (most : ℕ) (seen : List Turn) (t : Turn) → (turn s most seen).Good t → IsPrintableTurn t
  unfolding turn
  turn_fits most seen (PositiveTurn t e kept) good = terms_fit t good.1.0
  turn_fits most seen (NegativeTurn t e) good = terms_fit t good.1.0

  trace_fits : (most : ℕ) (trace : List Turn) → (turns s most).Good trace → All IsPrintableTurn trace
  unfolding turns
  trace_fits most trace good = all_from_good (turn s most) IsPrintableTurn (turn_fits most) [] trace good

  asked_fits : (trace : List Turn) (a : Asked) → (asked s trace).Good a → IsPrintableAsked a
  unfolding asked
  asked_fits trace Start good = tt
  asked_fits trace (Keep t e places) good = terms_fit t good.0
  asked_fits trace (Sound t) good = terms_fit t good
  asked_fits trace (Precise t) good = terms_fit t good

  outcome_fits : (o : Outcome) → (outcome s).Good o → IsPrintable o
  unfolding outcome best none spent_turns spent_conflicts
  outcome_fits (Best t trace sound_log best_log) good = (term_lines_fit t good.0, trace_fits s.turns trace good.1.0)
  outcome_fits (Absent trace log) good = trace_fits s.turns trace good.0
  outcome_fits (Turns trace) good = trace_fits (s.turns + 1) trace good
  outcome_fits (Conflicts trace a log) good = (trace_fits s.turns trace good.0, asked_fits trace a good.1.0)

-- a problem's terms are over few variables
scope_is : (p : Problem) → IsProblem p →
    IsScope (scope_of (shape_of (named p)).width (term_limits (shape_of (named p))))
scope_is p is = record { width = is.formed.width.1; variables = few_variables p.inputs p.kind is.formed.few_inputs }

-- the answer of a certificate can be printed
pub certificates_are_printable : (c : Certificate) → IsCertificate c → IsPrintable c.outcome
certificates_are_printable c is =
    outcome_fits (shape_of (named c.problem)) (scope_is c.problem is.problem) c.outcome is.outcome
