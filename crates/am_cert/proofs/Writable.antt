-- What a synthesis may answer can be written.
use Rattle.std.proofs.Common.{◌+◌, ◌≤◌, ◌^◌, List, [], length, codes, arith}
use Rattle.am_bv.specs.declared.term.Term.{Term}
use Rattle.am_problem.specs.Limits.{IsProblem}
use Rattle.am_problem.specs.Problem.{Problem}
use Rattle.am_problem.specs.Texts.{named}
use Rattle.am_query.specs.Transformers.{IsTransformerOf}
use Rattle.am_query.specs.Turns.{after_trace, query_of}
use Rattle.am_query.specs.declared.outcome.Outcome.{Outcome}
use Rattle.am_query.specs.declared.outcome.Outcome.TheVariants.{Absent, Best, Conflicts, Turns}
use Rattle.am_query.specs.declared.query.Query.TheVariants.{Fit, Precise, Sound}
use Rattle.am_syntax.specs.Pieces.{keyed, times}
use Rattle.am_cert.specs.Certificate.{AreBounded}
use Rattle.am_cert.specs.Grammar.{best, none, outcome, result_term, shape_of, spent_conflicts, spent_turns}
use Rattle.am_cert.specs.Printing.{IsWritable, OutcomesCanBeWritten}
use Rattle.am_cert.proofs.Items.{all_from_good, good_from_all}
use Rattle.am_cert.proofs.WritableLogs.{refutations_are_written, spent_logs_are_written}
use Rattle.am_cert.proofs.WritableTurns.{good_asked, good_terms, good_trace}

-- an outcome of a problem has a text and bounded logs
record IsWritten (p : Problem) (o : Outcome) : Type 0 where
  good : (outcome (shape_of (named p))).Good o
  bounded : AreBounded o

module _ (p : Problem) (is : IsProblem p) where
  few_turns : p.turns + 1 ≤ 2 ^ 32
  few_turns = omega (arith, is.formed.turns)

  -- the lines of the terms
  good_lines : (t : List Term) → IsTransformerOf p t →
      (times (λ _. keyed (codes "term") (result_term (shape_of (named p)))) (shape_of (named p)).fields).Good t
  good_lines t derivable =
      let s = shape_of (named p) in
      let good = good_terms p is t derivable in
      let each = all_from_good (λ _. result_term s) (result_term s).Good (λ _ x h. h) [] t good.1 in
      (good.0, good_from_all (λ _. keyed (codes "term") (result_term s)) (result_term s).Good (λ _ x h. h) [] t each)

  written : (o : Outcome) → IsWritable p o → IsWritten p o
  unfolding outcome best none spent_turns spent_conflicts
  written (Best t trace sound_log best_log) h =
      let s = after_trace trace in
      let sound = refutations_are_written p is (Sound t) sound_log h.3 in
      let closest = refutations_are_written p is (Precise t s.positives s.negatives) best_log h.4 in
      record {
        good = (
          good_lines t h.0,
          (
            good_trace p is p.turns trace (omega (arith, few_turns)) h.1 h.2,
            (sound.good (codes "sound"), closest.good (codes "best")),
          ),
        );
        bounded = (sound.bounded, closest.bounded);
      }
  written (Absent trace log) h =
      let fit = refutations_are_written p is (Fit (after_trace trace).positives []) log h.2 in
      record {
        good = (good_trace p is p.turns trace (omega (arith, few_turns)) h.0 h.1, fit.good (codes "fit"));
        bounded = fit.bounded;
      }
  written (Turns trace) h =
      record { good = good_trace p is (p.turns + 1) trace few_turns h.0 (omega (arith, h.1)); bounded = tt }
  written (Conflicts trace asked log) h =
      let spent = spent_logs_are_written p is (query_of (after_trace trace) asked) log h.3 in
      let few : length trace ≤ 2 ^ 32 = omega (arith, h.1, few_turns) in
      record {
        good = (
          good_trace p is p.turns trace (omega (arith, few_turns)) h.0 h.1,
          (good_asked p is trace asked few h.0 h.2, spent.good (codes "spent")),
        );
        bounded = spent.bounded;
      }

-- each outcome of a synthesis makes a certificate with its problem
pub outcomes_are_writable : OutcomesCanBeWritten
outcomes_are_writable v p o chains is h =
    let both = written p is o h in
    record { problem = is; outcome = both.good; bounded = both.bounded; proofs = chains }
